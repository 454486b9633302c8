use Rattle.std.proofs.Common.{◌≤◌, ◌+◌, ◌*◌, length, arith}
use Rattle.lr_render.specs.Tiling.{line_start}
use Rattle.lr_render.proofs.Plain.{bytes_inside, start-le, start-more}
use Rattle.lr_render.proofs.cut.plain_strip.Goals as goal

pub slice_bounds-copy_of-end : goal.slice_bounds-copy_of-end
slice_bounds-copy_of-end c =
    let s = c.args.structure in
    let reach : line_start s c.args.from + line_start s c.args.lines ≤ 8 * length c.args.field.now =
    omega (
      arith,
      start-le s (c.args.from + c.args.lines) s.lines c.requires.lines,
      start-more s c.args.from c.args.lines,
    ) in
    omega (arith, bytes_inside (line_start s c.args.from) (line_start s c.args.lines) (length c.args.field.now) reach)
