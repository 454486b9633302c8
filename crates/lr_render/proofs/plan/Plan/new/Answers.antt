use Rattle.std.proofs.Common.{◌≤◌, length-drop, refl, arith, rules}
use Rattle.lr_bits.specs.File.{bytes_of}
use Rattle.lr_render.proofs.Planning.{are_strips, new_plan}
use Rattle.lr_render.proofs.plan.Plan.new.Goals as goal

pub invariant_of-result : goal.invariant_of-result
invariant_of-result c =
    let s = c.in-Ok.layout.shape.structure in
    let wide : s.columns ≤ 65535 = search rules in
    let high : s.lines ≤ 65535 = search rules in
    new_plan c.args.file c.in-Ok.layout c.first_piece.result c.new.result c.in-Ok.ensures.ok c.in-Ok.ensures.cut wide
    high c.first_piece.ensures c.new.ensures

pub returns-clause-ok : goal.returns-clause-ok
returns-clause-ok c = record {
  file_is = refl;
  layout = c.in-Ok.ensures.ok;
  shape = c.in-Ok.ensures.cut.shape;
  strips = are_strips (invariant_of-result c);
  none_given = refl;
  none_kept = refl;
}

pub overflow_add-skipped : goal.overflow_add-skipped
overflow_add-skipped c =
    let cut = c.in-Ok.ensures.cut in
    omega (arith, cut.inside, length-drop 10 (bytes_of c.args.file), cut.is_file.most)
