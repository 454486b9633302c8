use Rattle.lr_bits.specs.declared.sizes.TheConstants.{WINDOW_SYMBOLS}
use Rattle.lr_lock.proofs.Filled.{zeros_all, zeros_number, zeros_soft}
use Rattle.lr_lock.proofs.window.Window.with_passes.Goals as goal

pub invariant_of-result : goal.invariant_of-result
invariant_of-result c =
    let zeros = c.in_ok-values.ensures.items_if_clones_equal (λ y e. e) in
    (zeros_number _ WINDOW_SYMBOLS zeros, zeros_soft _ WINDOW_SYMBOLS zeros)

pub returns-clause-symbols : goal.returns-clause-symbols
returns-clause-symbols c = zeros_all _ WINDOW_SYMBOLS (c.in_ok-values.ensures.items_if_clones_equal (λ y e. e))
