use Rattle.std.proofs.Common.{◌≡◌, ◌≤◌, ◌+◌, ◌*◌, ℕ, length, ap, sym, rules, arith}
use Rattle.std.proofs.Math.Nat.{mul-le-mul_right}
use Rattle.std.proofs.lemmas.Grind.{common_steps}
use Rattle.lr_segment.specs.declared.rows.Place.{Place}
use Rattle.lr_segment.specs.Canvas.{canvas, member}
use Rattle.lr_segment.proofs.CanvasLemmas.{AddsTo, adds_by, written_all}
use Rattle.lr_segment.proofs.assembly.Assembly.add.Goals.{After-put_lines}
use Rattle.lr_segment.proofs.assembly.Assembly.add.Goals as goal

pub put_lines-requires-clause-lines : goal.put_lines-requires-clause-lines
put_lines-requires-clause-lines c =
    let inside = c.self.inside in
    let rows : (c.from-8.result + c.lines-2.result) * c.from-6.result ≤ inside.lines * c.from-6.result =
    mul-le-mul_right c.from-6.result (omega arith) in
    let whole : inside.lines * c.from-6.result ≡ inside.lines * inside.columns = ap (λ (n : ℕ).
    inside.lines * n) c.from-6.ensures in
    let size = c.self.invariant.whole in
    omega (arith, ap (length {A = ℕ}) c.as_mut_slice.ensures.value)

-- the canvas with the image added
module _ (c : After-put_lines) where
  added : AddsTo (canvas c.self.inside.bits c.self.inside.columns c.self.inside.lines c.self.inside.pixels
      c.self.inside.covered.items) (member c.args.image.now c.args.segment.now) c.put_lines.new.pixels
      c.put_lines.new.covered
  added =
      let place : Place = record {
        whole = c.from-6.result;
        column = c.from-7.result;
        line = c.from-8.result;
        width = c.columns-2.result;
      } in
      let depth : c.self.inside.bits ≡ c.args.image.now.bits = search rules in
      adds_by _ _ place c.lines-2.result c.pixels.result.now c.as_mut_slice.result.now c.put_lines.new.pixels
      c.deref_mut.result.now c.put_lines.new.covered c.self.invariant c.bits.ensures.picture depth c.from-6.ensures
      c.from-7.ensures c.from-8.ensures c.columns-2.ensures c.lines-2.ensures c.pixels.ensures.value
      c.as_mut_slice.ensures.value c.deref_mut.ensures.value c.put_lines.ensures.pixels c.put_lines.ensures.covered

  noted : c.self.inside.covered.len ≡ length c.put_lines.new.covered
  noted = omega (arith, c.self.inside.covered.ok.0, added.covered_size)

pub invariant_of-self : goal.invariant_of-self
invariant_of-self c =
    let to = (goal.at.invariant_of-self c).After-put_lines in
    rw (
      written_all c.self.inside.pixels c.put_lines.new.pixels _ (sym (added to).pixels_size),
      written_all c.self.inside.covered.items c.put_lines.new.covered _ (noted to),
    ) (added to).canvas_is

pub returns-clause-ok : goal.returns-clause-ok
returns-clause-ok c =
    let to = (goal.at.returns-clause-ok c).After-put_lines in
    rw (
      ← c.self.view_is,
      written_all c.self.inside.pixels c.put_lines.new.pixels _ (sym (added to).pixels_size),
      written_all c.self.inside.covered.items c.put_lines.new.covered _ (noted to),
    ) (added to).adds

pub returns-then-right-from-clause-accepted : goal.returns-then-right-from-clause-accepted
returns-then-right-from-clause-accepted c = grind (arith, common_steps)
