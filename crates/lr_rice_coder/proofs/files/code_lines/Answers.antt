use Rattle.std.proofs.Common.{◌≡◌, ◌+◌, ◌-◌, ◌*◌, ℕ, length, take, drop, ap, sym, ◌∙◌, subst, arith}
use Rattle.lr_rice.specs.CodedLines.{form_of}
use Rattle.lr_image.specs.Pgm.{line_pixels}
use Rattle.lr_rice_coder.specs.Coded.{IsFault}
use Rattle.lr_rice_coder.specs.Refusals.{AreShort, IsLongAt}
use Rattle.lr_rice_coder.specs.declared.fault.CodeFault.TheVariants.{Long}
use Rattle.lr_rice_coder.specs.Fronts.{picture_with}
use Rattle.lr_rice_coder.proofs.MakingLemmas.{line_whole, lines_more, long_at, row_cut, short_so_far}
use Rattle.lr_rice_coder.proofs.files.code_lines.Goals as goal

pub returns-in-Err-Long-clause-err : goal.returns-in-Err-Long-clause-err
returns-in-Err-Long-clause-err c =
    let picture = picture_with c.args.structure c.args.pixels.now in
    let line = c.loop-line.line in
    let wide = c.from-columns.result in
    let start = c.from.result * wide in
    let row = take (start + wide - start) (drop start c.args.pixels.now) in
    let is : row ≡ line_pixels picture line =
    row_cut c.args.pixels.now picture.columns wide line start c.from-columns.ensures
    (ap (λ (n : ℕ). n * wide) c.from.ensures) in
    let size = line_whole picture line c.requires.image.picture.whole c.loop-line-test.true in
    let fault : IsFault (form_of picture.bits c.args.block (length row)) row Long =
    subst (IsFault (form_of picture.bits c.args.block (length row)) row) c.in-Err-Long.field-0-is
    c.in-Err-Long.ensures.fault in
    let soon = c.loop-line.invariant in
    let there = c.from-line.ensures in
    record {
      inside = omega (arith, there, c.loop-line-test.true);
      long = subst (IsLongAt picture c.args.block) (sym there)
          (long_at picture c.args.block line row is (ap length is ∙ size) fault);
      first = subst (AreShort picture c.args.block) (sym there)
          (short_so_far picture c.args.block line soon.lines soon.coded);
    }

pub loop-line-preserved : goal.loop-line-preserved
loop-line-preserved c =
    let picture = picture_with c.args.structure c.args.pixels.now in
    let line = c.loop-line.line in
    let wide = c.from-columns.result in
    let start = c.from.result * wide in
    let row = take (start + wide - start) (drop start c.args.pixels.now) in
    let is : row ≡ line_pixels picture line =
    row_cut c.args.pixels.now picture.columns wide line start c.from-columns.ensures
    (ap (λ (n : ℕ). n * wide) c.from.ensures) in
    let size = line_whole picture line c.requires.image.picture.whole c.loop-line-test.true in
    lines_more picture c.args.block c.args.room line c.in-Ok.length row c.code_row.new.out c.args.lines.now
    c.loop-line.lines c.hold.new.lines c.loop-line.invariant is (ap length is ∙ size) c.in-Ok.ensures.ok
    c.in-Ok-hold.ensures.size c.in-Ok-hold.ensures.lengths c.in-Ok-hold.ensures.bytes
