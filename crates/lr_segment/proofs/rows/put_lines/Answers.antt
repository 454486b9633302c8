use Rattle.std.proofs.Common.{◌*◌, length}
use Rattle.lr_segment.proofs.RowLemmas.{covered_more, overwritten_more, pixel_row, row_start, segment_room}
use Rattle.lr_segment.proofs.rows.put_lines.Goals as goal

pub loop-line-preserved : goal.loop-line-preserved
loop-line-preserved c =
    let l = c.loop-line in
    let place = c.args.place in
    let segment = c.args.segment.now in
    let to = row_start place l.line in
    let room = segment_room l.line c.args.lines place.width (length segment) c.loop-line-test.true c.requires.segment in
    let row = pixel_row
    (l.line * place.width) place.width to segment l.pixels c.put_row.new.pixels room c.put_row.ensures.row
    c.put_row.ensures.before c.put_row.ensures.after in
    record {
      pixels = overwritten_more place l.line segment c.args.pixels.now l.pixels c.put_row.new.pixels
          c.requires.some c.requires.columns l.invariant.pixels c.put_row.auto.pixels row;
      covered = covered_more place l.line c.args.covered.now l.covered c.cover_row.new.covered c.requires.some
          c.requires.columns l.invariant.covered c.cover_row.auto.covered
          (record {
            here = c.cover_row.ensures.row;
            before = c.cover_row.ensures.before;
            after = c.cover_row.ensures.after;
          });
    }
