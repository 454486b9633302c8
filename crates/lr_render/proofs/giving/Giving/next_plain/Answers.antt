use Rattle.std.proofs.Common.{◌≡◌, ◌-◌, ◌+◌, ◌∷◌, ◌∙◌, List, ℕ, length, take, drop, min, refl, sym, ap, arith}
use Rattle.std.proofs.lemmas.List.{take_rest}
use Rattle.lr_image.specs.Images.{data_field}
use Rattle.lr_render.specs.Tiling.{plain_count, plain_strip, plain_strips, strip_lines}
use Rattle.lr_render.specs.declared.strip.StripSource.{StripSource}
use Rattle.lr_render.proofs.Counting.{strip_lines-some}
use Rattle.lr_render.proofs.Plain.{next_plain, no_plain}
use Rattle.lr_render.proofs.giving.Giving.next_plain.Goals as goal

pub returns-then-left-eq0-clause-ok : goal.returns-then-left-eq0-clause-ok
returns-then-left-eq0-clause-ok c =
    let s = c.args.layout.shape.structure in
    let field = data_field c.args.file.now c.args.layout.header_bytes in
    (no_plain s field c.args.self.now.lines (omega (arith, c.if-left-eq0.true, c.from.ensures)), refl)

pub returns-clause-ok : goal.returns-clause-ok
returns-clause-ok c =
    let s = c.args.layout.shape.structure in
    let size = c.args.layout.header_bytes in
    let from = c.args.self.now.lines in
    let lines = c.next_lines-lines.result in
    let within = c.requires.within in
    let field : take (length c.proper.result.now - size) (drop size c.proper.result.now)
    ≡ data_field c.args.file.now size =
    take_rest c.proper.result.now size ∙ ap (drop size) c.proper.ensures.value in
    let are : lines ≡ min (strip_lines s) (s.lines - from) =
    c.next_lines-lines.ensures ∙ ap (λ (n : ℕ). min (strip_lines s) (n - from)) c.from.ensures in
    let some = strip_lines-some s in
    let is : c.in_ok-strip.strip ≡ plain_strip s (data_field c.args.file.now size) from lines =
    c.in_ok-strip.ensures ∙ ap (λ (f : List ℕ). plain_strip s f from lines) field in
    let rest = plain_strips s (data_field c.args.file.now size) (plain_count s (s.lines - (from + lines)))
    (from + lines) in
    record {
      first = next_plain s (data_field c.args.file.now size) from lines
          (omega (arith, c.if-left-eq0.false, c.from.ensures)) are
          ∙ ap (λ (strip : StripSource). strip ∷ rest) (sym is);
      count = refl;
      within = record {
        lines = omega (arith, are, within.lines);
        strips = omega (arith, are, within.strips, some, c.if-left-eq0.false, c.from.ensures);
        place = within.place;
      };
    }
