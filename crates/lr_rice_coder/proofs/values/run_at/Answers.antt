use Rattle.std.proofs.Common.{◌≡◌, ◌+◌, ◌-◌, ◌*◌, suc, List, ℕ, take, drop, ap, sym, ◌∙◌, true, false, arith}
use Rattle.lr_rice_coder.specs.Shortest.{all_zero, places_of_block, zero_run}
use Rattle.lr_rice_coder.proofs.WriterLemmas.{zero_run-stop, zero_run-more, zero_run-none}
use Rattle.lr_rice_coder.proofs.values.run_at.Goals as goal

slice : (block at : ℕ) (places : List ℕ) → take (at * block + block - at * block) (drop (at * block) places)
    ≡ places_of_block block places at
slice block at places =
    let size : at * block + block - at * block ≡ block = omega arith in
    ap (λ n. take n (drop (at * block) places)) size

pub returns-then-not-is_zero : goal.returns-then-not-is_zero
returns-then-not-is_zero c =
    let at = c.args.at + c.loop-i.i in
    let isnt : all_zero (places_of_block c.args.block c.args.places.now at) ≡ false =
    ap all_zero (sym (slice c.args.block at c.args.places.now)) ∙ sym c.is_zero.ensures ∙ c.if-not-is_zero.true in
    omega (arith, c.loop-i.invariant, zero_run-stop c.args.block c.args.places.now (c.args.most - c.loop-i.i) at isnt)

pub loop-i-preserved : goal.loop-i-preserved
loop-i-preserved c =
    let i = c.loop-i.i in
    let at = c.args.at + i in
    let is : all_zero (places_of_block c.args.block c.args.places.now at) ≡ true =
    ap all_zero (sym (slice c.args.block at c.args.places.now)) ∙ sym c.is_zero.ensures ∙ c.if-not-is_zero.false in
    let left : c.args.most - i ≡ suc (c.args.most - (i + 1)) = omega arith in
    let step : zero_run c.args.block c.args.places.now (c.args.most - i) at
    ≡ suc (zero_run c.args.block c.args.places.now (c.args.most - (i + 1)) (at + 1)) =
    ap (λ n. zero_run c.args.block c.args.places.now n at) left
    ∙ zero_run-more c.args.block c.args.places.now (c.args.most - (i + 1)) at is in
    let place : at + 1 ≡ c.args.at + (i + 1) = omega arith in
    c.loop-i.invariant ∙ ap (λ n. i + n) step
    ∙ ap (λ a. i + suc (zero_run c.args.block c.args.places.now (c.args.most - (i + 1)) a)) place ∙ omega arith

pub returns : goal.returns
returns c =
    let done : c.loop-i.i ≡ c.args.most = omega arith in
    let none : c.args.most - c.loop-i.i ≡ 0 = omega arith in
    omega (
      arith,
      c.loop-i.invariant,
      ap (λ n. zero_run c.args.block c.args.places.now n (c.args.at + c.loop-i.i))
          none,
      zero_run-none c.args.block c.args.places.now (c.args.at + c.loop-i.i),
    )
