use Rattle.std.proofs.Common.{◌<◌, ◌^◌, All, length}
use Rattle.std.specs.List.{flat_map}
use Rattle.lr_image.specs.Pgm.{pixel_bytes}
use Rattle.lr_causes.proofs.Joining.{PutSoFar}
use Rattle.lr_cmd_shelf.proofs.pgm.put_pixels.Given as goal

-- the bytes of the pixels before the rest were put
abbrev pub invariant-loop-rest : goal.invariant-loop-rest
invariant-loop-rest g l =
    record {
      small : All (λ pixel. pixel < 2 ^ l.bits) l.rest;
      so_far : PutSoFar g.O.Sink (flat_map (pixel_bytes l.bits)) l.pixels l.fn.out l.rest l.out;
    }

abbrev pub decreases-loop-rest : goal.decreases-loop-rest
decreases-loop-rest g l = length l.rest
