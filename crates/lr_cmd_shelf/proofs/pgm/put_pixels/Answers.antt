use Rattle.std.proofs.Common.{◌<◌, ◌^◌, ℕ, List, subst}
use Rattle.std.specs.List.{flat_map}
use Rattle.std.proofs.lemmas.Grind.{flat_map-append}
use Rattle.std.proofs.lemmas.List.Elements.{All-drop}
use Rattle.lr_image.specs.Pgm.{pixel_bytes}
use Rattle.lr_causes.specs.Puts.{Puts, PutFails}
use Rattle.lr_cmd_shelf.proofs.Exporting.{both_parts}
use Rattle.lr_causes.proofs.Joining.{so_more, so_fails}
use Rattle.lr_cmd_shelf.proofs.pgm.put_pixels.Goals as goal

pub returns-in-Err-clause-failed : goal.returns-in-Err-clause-failed
returns-in-Err-clause-failed g c =
    let inv = c.loop-rest.invariant in
    let rest = c.loop-rest.rest.now in
    let front = c.split_at.result.0.now in
    let back = c.split_at.result.1.now in
    let split = both_parts rest front back c.min.result c.split_at.ensures.front c.split_at.ensures.back in
    so_fails g.O.Sink (flat_map (pixel_bytes c.args.bits)) c.args.pixels.now c.args.out.now
    (λ xs ys. flat_map-append (pixel_bytes c.args.bits) xs ys) rest front back c.loop-rest.out c.put_text.new.out
    inv.so_far split
    (subst (λ (l : List ℕ). PutFails g.O.Sink l c.loop-rest.out c.put_text.new.out)
    c.write_pixels-count.ensures.written c.in-Err.ensures.failed)

pub loop-rest-preserved : goal.loop-rest-preserved
loop-rest-preserved g c =
    let inv = c.loop-rest.invariant in
    let rest = c.loop-rest.rest.now in
    let front = c.split_at.result.0.now in
    let back = c.split_at.result.1.now in
    let split = both_parts rest front back c.min.result c.split_at.ensures.front c.split_at.ensures.back in
    record {
      small = rw c.split_at.ensures.back (All-drop (λ pixel. pixel < 2 ^ c.args.bits) c.min.result rest inv.small);
      so_far =
          so_more g.O.Sink (flat_map (pixel_bytes c.args.bits)) c.args.pixels.now c.args.out.now
          (λ xs ys. flat_map-append (pixel_bytes c.args.bits) xs ys) rest front back c.loop-rest.out
          c.put_text.new.out inv.so_far split
          (subst (λ (l : List ℕ). Puts g.O.Sink l c.loop-rest.out c.put_text.new.out)
          c.write_pixels-count.ensures.written c.in_default.ensures.put);
    }
