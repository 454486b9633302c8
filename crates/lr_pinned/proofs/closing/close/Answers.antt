use Rattle.std.proofs.Common.{arith, refl, ◌∙◌, ◌≡◌, ◌≢◌, ◌+◌, ◌/◌, ◌<◌, ◌≤◌, ◌^◌, ℕ, below_more, get_or}
use Rattle.std.proofs.Common.{get_or-set_other}
use Rattle.std.proofs.Common.{Bool, get_or-set_same, slice_set, List, length, Fits, w32}
use Rattle.std.specs.Prelude.{Option, Some}
use Rattle.lr_conv.specs.Levels.{bit_of_level}
use Rattle.lr_conv.specs.declared.line.LineCode.{LineCode}
use Rattle.lr_trellis.specs.Trellis.{is_odd}
use Rattle.lr_pinned.specs.Steps.{pin_cost}
use Rattle.lr_pinned.proofs.Misses.{miss_most}
use Rattle.lr_pinned.proofs.closing.close.Goals as goal

other_at : (xs : List ℕ) (p i v : ℕ) → i ≢ p → get_or (slice_set xs p v) i 0 ≡ get_or xs i 0
other_at xs p i v ne = rw get_or-set_other refl

same_at : (xs : List ℕ) (p v : ℕ) → p < length xs → get_or (slice_set xs p v) p 0 ≡ v
same_at xs p v room = rw get_or-set_same refl

pin_cost_most : (line : LineCode) (pin : Option Bool) (s : ℕ) → pin_cost line pin s ≤ 4148329
pin_cost_most line pin s = omega (arith, miss_most pin (bit_of_level line (is_odd (s / 2)) (is_odd s)))

fits_sum : (a b c d : ℕ) → a + 4148329 < 2 ^ 32 → b ≡ a → c ≡ d → d ≤ 4148329 → Fits w32 (b + c)
fits_sum a b c d l e f m = record { fits = omega arith }

pub overflow_add-costs : goal.overflow_add-costs
overflow_add-costs c =
    fits_sum _ _ _ _ (c.requires c.loop-s.s c.loop-s-test.true) (c.loop-s.invariant.left c.loop-s.s (omega arith))
    c.closed_by.ensures (pin_cost_most c.args.line (Some c.args.pin) c.loop-s.s)

pub loop-s-preserved : goal.loop-s-preserved
loop-s-preserved c =
    let s = c.loop-s.s in
    let xs = c.loop-s.costs in
    let here = c.loop-s.invariant in
    record {
      done = below_more _ _
          (λ k l. other_at xs s k _ (omega arith) ∙ here.done k l)
          (same_at xs s _ (omega arith) ∙ omega (arith, here.left s (omega arith), c.closed_by.ensures));
      left = λ k l. other_at xs s k _ (omega arith) ∙ here.left k (omega arith);
    }
