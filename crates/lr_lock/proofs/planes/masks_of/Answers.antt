use Rattle.std.proofs.Common.{◌≡◌, ◌<◌, ◌^◌, ◌∙◌, ap, ℕ, Bool, List, [], length, map, drop, subst, sym, arith}
use Rattle.std.proofs.Common.{length-drop}
use Rattle.std.specs.Prelude.{not}
use Rattle.std.proofs.Math.Seq.{drop-length}
use Rattle.lr_conv.specs.declared.marker.TheConstants.{TAIL_SYMBOLS}
use Rattle.lr_lock.specs.Planes.{number_of}
use Rattle.lr_lock.proofs.Bits.{doubled_fits, more_fits, number_fits, rest_fits}
use Rattle.lr_lock.proofs.planes.masks_of.Goals as goal

nothing_left : (tail : List Bool) → length tail ≡ TAIL_SYMBOLS → drop TAIL_SYMBOLS tail ≡ []
nothing_left tail size = ap (λ n. drop n tail) (sym size) ∙ drop-length tail

few : (tail : List Bool) (i : ℕ) → length tail ≡ TAIL_SYMBOLS → number_of (drop i tail) < 2 ^ TAIL_SYMBOLS
few tail i size = number_fits (drop i tail) (omega (arith, length-drop i tail))

pub loop-i-init : goal.loop-i-init
loop-i-init c =
    let none = nothing_left c.args.tail.now c.told-tail in
    record { ones = ap number_of (sym none); zeros = ap (λ (t : List Bool). number_of (map not t)) (sym none) }

pub overflow_mul-ones : goal.overflow_mul-ones
overflow_mul-ones c =
    doubled_fits _ (subst (λ (n : ℕ). n < 2 ^ TAIL_SYMBOLS) (sym c.loop-i.invariant.ones)
    (few c.args.tail.now c.loop-i.i c.told-tail))

pub overflow_add-ones : goal.overflow_add-ones
overflow_add-ones c =
    more_fits _ _ _ (subst (λ (n : ℕ). n < 2 ^ TAIL_SYMBOLS) (sym c.loop-i.invariant.ones)
    (few c.args.tail.now c.loop-i.i c.told-tail)) c.from.ensures

pub overflow_mul-zeros : goal.overflow_mul-zeros
overflow_mul-zeros c =
    doubled_fits _ (subst (λ (n : ℕ). n < 2 ^ TAIL_SYMBOLS) (sym c.loop-i.invariant.zeros)
    (rest_fits not c.args.tail.now c.loop-i.i (omega (arith, c.told-tail))))

pub overflow_add-zeros : goal.overflow_add-zeros
overflow_add-zeros c =
    more_fits _ _ _ (subst (λ (n : ℕ). n < 2 ^ TAIL_SYMBOLS) (sym c.loop-i.invariant.zeros)
    (rest_fits not c.args.tail.now c.loop-i.i (omega (arith, c.told-tail)))) c.from-in-loop-i.ensures
