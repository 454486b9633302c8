use Rattle.std.proofs.Common.{◌≡◌, ℕ, take, ◌∙◌, ap, sym, arith}
use Rattle.lr_catalog.specs.Texts.{trimmed_text}
use Rattle.lr_catalog.proofs.Trimming.{blank_ends, plain_ends}
use Rattle.lr_catalog.proofs.texts.trim_end.Goals as goal
use Rattle.lr_catalog.proofs.texts.trim_end.Goals.{then-loop-end-test+else-is_blank, else-loop-end-test}

pub loop-end-preserved : goal.loop-end-preserved
loop-end-preserved c =
    let here = c.loop-end.invariant in
    let blank = sym c.is_blank.ensures ∙ c.if-is_blank.true in
    let within = here.within in
    record {
      within = omega arith;
      same = here.same ∙ blank_ends c.args.text.now c.loop-end.end c.loop-end-test.true here.within blank;
    }

pub returns : goal.returns
returns c =
    let here = c.loop-end.invariant in
    elim c.loop-end-test.branch [
      | then-loop-end-test+else-is_blank w ↦
          sym (here.same ∙ plain_ends c.args.text.now c.loop-end.end w.loop-end-test.true here.within
          (sym w.is_blank.ensures ∙ w.if-is_blank.false))
      | else-loop-end-test w ↦
          let none : c.loop-end.end ≡ 0 = omega (arith, w.loop-end-test.false) in
          let no_bytes = ap (λ (n : ℕ). take n c.args.text.now) none in
          no_bytes ∙ sym (here.same ∙ ap trimmed_text no_bytes)
    ]
