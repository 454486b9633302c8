use Rattle.std.proofs.Common.{◌≡◌, take}
use Rattle.lr_image.proofs.plain.copy_bytes.Given as goal

-- the first pixels are the first bytes
abbrev pub invariant-loop-place : goal.invariant-loop-place
invariant-loop-place l = take l.place l.pixels ≡ take l.place l.front
