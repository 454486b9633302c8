use Rattle.std.proofs.Common.{◌≡◌, ◌*◌, take}
use Rattle.std.specs.List.{flat_map}
use Rattle.lr_image.specs.Pgm.{pixel_bytes}
use Rattle.lr_image.proofs.pgm.write_wide_bytes.Given as goal

-- the bytes of the pixels so far
abbrev pub invariant-loop-place : goal.invariant-loop-place
invariant-loop-place l = take (2 * l.place) l.into ≡ flat_map (pixel_bytes 16) (take l.place l.pixels)
