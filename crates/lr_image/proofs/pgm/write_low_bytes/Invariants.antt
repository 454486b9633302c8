use Rattle.std.proofs.Common.{◌≡◌, ◌%◌, map, take}
use Rattle.lr_image.proofs.pgm.write_low_bytes.Given as goal

-- the bytes of the pixels so far
abbrev pub invariant-loop-place : goal.invariant-loop-place
invariant-loop-place l = take l.place l.into ≡ map (λ pixel. pixel % 256) (take l.place l.pixels)
