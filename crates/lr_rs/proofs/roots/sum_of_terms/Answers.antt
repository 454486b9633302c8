use Rattle.std.proofs.Common.{◌≡◌, ℕ, ◌+◌, ◌∙◌, refl, sym, ap, add-one, arith, slice_index}
use Rattle.std.specs.Int.Bits.{bit_xor}
use Rattle.std.proofs.lemmas.List.{get_or_default}
use Rattle.lr_gf.specs.Sums.{sum_of}
use Rattle.lr_rs.proofs.roots.sum_of_terms.Goals as goal

sum_more : (n : ℕ) (f : ℕ → ℕ) → sum_of (n + 1) f ≡ bit_xor (sum_of n f) (f n)
unfolding sum_of
sum_more n f = rw add-one

pub loop-k-init : goal.loop-k-init
unfolding sum_of
loop-k-init c = refl

pub loop-k-preserved : goal.loop-k-preserved
loop-k-preserved c =
    c.add-sum.ensures
    ∙ ap (bit_xor c.loop-k.sum) (get_or_default c.args.terms.now c.loop-k.k c.index-terms-k.result 0
    (omega (arith, c.told-terms)))
    ∙ ap (λ z. bit_xor z (slice_index c.args.terms.now c.loop-k.k)) c.loop-k.invariant
    ∙ sym (sum_more c.loop-k.k (slice_index c.args.terms.now))
