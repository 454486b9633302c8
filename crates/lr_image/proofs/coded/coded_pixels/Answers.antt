use Rattle.std.proofs.Common.{◌≡◌, ◌<◌, ◌≤◌, ◌-◌, ◌*◌, ◌∙◌, refl, min, inr, arith}
use Rattle.lr_image.specs.declared.fault.ImageFault.TheVariants.{Short}
use Rattle.lr_image.specs.Pieces.{pieces_after}
use Rattle.lr_image.specs.Places.{pieces_at}
use Rattle.lr_image.specs.Images.{line_form}
use Rattle.lr_image.proofs.LineLemmas.{fails, finished, lacking, reads, starts}
use Rattle.lr_image.proofs.PieceLemmas.{first_in}
use Rattle.lr_image.proofs.coded.coded_pixels.Goals as goal

pub loop-done-init : goal.loop-done-init
loop-done-init c =
    let pieces = pieces_after c.args.skipped c.args.file.now.bodies in
    record {
      inside = rw c.first_piece-place.ensures (first_in c.args.file.now c.args.skipped);
      partway = rw (c.truncate.ensures, c.first_piece-place.ensures)
          (starts (line_form c.args.structure c.args.lossless) c.args.lossless.lines c.args.structure.lines pieces);
    }

pub loop-done-preserved : goal.loop-done-preserved
loop-done-preserved c =
    let now = c.loop-done in
    let before : now.done < c.args.structure.lines = rw (← c.from-all.ensures) c.loop-done-test.true in
    let count : c.min-lines.result ≡ min c.args.lossless.lines (c.args.structure.lines - now.done) =
    c.min-lines.ensures ∙ rw (c.from-each.ensures, c.from-all.ensures) refl in
    record {
      inside = c.next_piece.ensures.place;
      partway = reads (line_form c.args.structure c.args.lossless) c.args.lossless.lines c.args.structure.lines
          now.number now.done c.min-lines.result c.in-Some.piece.now now.pixels c.decode_piece.new.pixels
          (pieces_at c.args.file.now now.place) (pieces_at c.args.file.now c.next_piece.new.place)
          (pieces_after c.args.skipped c.args.file.now.bodies) c.requires.coding.some before count
          c.in-Some.ensures.some c.in-Ok-decode_piece.ensures.ok now.invariant.partway;
    }

pub returns-in_default-next_piece-clause-err : goal.returns-in_default-next_piece-clause-err
returns-in_default-next_piece-clause-err c =
    let now = c.loop-done in
    let form = line_form c.args.structure c.args.lossless in
    let before : now.done < c.args.structure.lines = rw (← c.from-all.ensures) c.loop-done-test.true in
    inr (lacking form c.args.lossless.lines c.args.structure.lines now.number now.done now.pixels
    (pieces_at c.args.file.now now.place) (pieces_after c.args.skipped c.args.file.now.bodies)
    (Short (c.from.result * c.from-in_default-next_piece.result))
    c.in_default-next_piece.ensures.none before
    (rw (c.from.ensures, c.from-in_default-next_piece.ensures) refl) now.invariant.partway)

pub returns-in-Err-clause-err : goal.returns-in-Err-clause-err
returns-in-Err-clause-err c =
    let now = c.loop-done in
    let count : c.min-lines.result ≡ min c.args.lossless.lines (c.args.structure.lines - now.done) =
    c.min-lines.ensures ∙ rw (c.from-each.ensures, c.from-all.ensures) refl in
    fails (line_form c.args.structure c.args.lossless) c.args.lossless.lines c.args.structure.lines now.number now.done
    c.min-lines.result c.in-Some.piece.now now.pixels (pieces_at c.args.file.now now.place)
    (pieces_at c.args.file.now c.next_piece.new.place)
    (pieces_after c.args.skipped c.args.file.now.bodies) c.in-Err.fault count c.in-Some.ensures.some
    now.invariant.partway c.in-Err.ensures.err

pub returns-clause-ok : goal.returns-clause-ok
returns-clause-ok c =
    let now = c.loop-done in
    let all : c.from-all.result ≤ now.done = omega arith in
    finished (line_form c.args.structure c.args.lossless) c.args.lossless.lines c.args.structure.lines now.number
    now.done
    now.pixels (pieces_at c.args.file.now now.place) (pieces_after c.args.skipped c.args.file.now.bodies)
    (rw (← c.from-all.ensures) all) now.invariant.partway
