use Rattle.std.proofs.Common.{◌≡◌, take}
use Rattle.std.specs.List.{flat_map}
use Rattle.lr_image.specs.Pgm.{pixel_bytes}
use Rattle.lr_image.proofs.pgm.wide_bytes.Given as goal

-- the bytes of the pixels so far
abbrev pub invariant-loop-pixel : goal.invariant-loop-pixel
invariant-loop-pixel l = l.bytes.items ≡ flat_map (pixel_bytes 16) (take l.pixel-index l.row)
