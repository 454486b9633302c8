use Rattle.std.proofs.Common.{◌<◌, ◌^◌, ℕ, true, false, subst, sym}
use Rattle.lr_conv.specs.declared.marker.TheConstants.{TAIL_SYMBOLS}
use Rattle.lr_lock.specs.Hits.{leans}
use Rattle.lr_lock.proofs.Bits.{doubled_fits, more_fits, rest_fits}
use Rattle.lr_lock.proofs.planes.planes_of.Goals as goal

pub overflow_mul-above : goal.overflow_mul-above
overflow_mul-above c =
    doubled_fits _ (subst (λ (n : ℕ). n < 2 ^ TAIL_SYMBOLS) (sym c.loop-i.invariant.above)
    (rest_fits (leans true) c.args.symbols.now c.loop-i.i c.requires))

pub overflow_add-above : goal.overflow_add-above
overflow_add-above c =
    more_fits _ _ _ (subst (λ (n : ℕ). n < 2 ^ TAIL_SYMBOLS) (sym c.loop-i.invariant.above)
    (rest_fits (leans true) c.args.symbols.now c.loop-i.i c.requires)) c.from.ensures

pub overflow_mul-below : goal.overflow_mul-below
overflow_mul-below c =
    doubled_fits _ (subst (λ (n : ℕ). n < 2 ^ TAIL_SYMBOLS) (sym c.loop-i.invariant.below)
    (rest_fits (leans false) c.args.symbols.now c.loop-i.i c.requires))

pub overflow_add-below : goal.overflow_add-below
overflow_add-below c =
    more_fits _ _ _ (subst (λ (n : ℕ). n < 2 ^ TAIL_SYMBOLS) (sym c.loop-i.invariant.below)
    (rest_fits (leans false) c.args.symbols.now c.loop-i.i c.requires)) c.from-in-loop-i.ensures
