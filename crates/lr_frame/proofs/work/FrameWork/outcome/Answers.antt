use Rattle.std.proofs.Common.{◌≡◌, ℕ, ℤ, List, ap, sym, ◌∙◌}
use Rattle.lr_block.specs.Outcomes.{outcome_of_block}
use Rattle.lr_conv.specs.declared.line.LineCode.{LineCode}
use Rattle.lr_conv.specs.declared.passes.Passes.{Passes}
use Rattle.lr_conv.specs.declared.passes.Passes.TheVariants.{One}
use Rattle.lr_trellis.specs.Path.{nearest_path, bytes_of_bits}
use Rattle.lr_frame.specs.Outcomes.{outcome_of_window, redecoded_outcome}
use Rattle.lr_frame.proofs.Passing.{one_pass_of}
use Rattle.lr_frame.proofs.work.FrameWork.outcome.Goals as goal

-- what the decoder found, in terms of the window
found : (line k : LineCode) (w v : List ℤ) (out : List ℕ) → out ≡ bytes_of_bits (nearest_path k v) → k ≡ line → v ≡ w →
    out ≡ bytes_of_bits (nearest_path line w)
found line k w v out e f g =
    e ∙ ap (λ (c : LineCode). bytes_of_bits (nearest_path c v)) f
    ∙ ap (λ (u : List ℤ). bytes_of_bits (nearest_path line u)) g

pub returns-in-One : goal.returns-in-One
unfolding outcome_of_window
returns-in-One c =
    let line = c.args.window.now.line in
    let w = c.args.window.now.symbols in
    let one : One ≡ c.args.window.now.passes = sym c.in-One.is ∙ c.passes.ensures in
    c.outcome_of.ensures.value
    ∙ ap outcome_of_block (found line _ w _ _ c.nearest_narrow_lanes.ensures c.line.ensures c.symbols.ensures.symbols)
    ∙ sym (one_pass_of line w)
    ∙ ap (λ (p : Passes). redecoded_outcome line p w) one

pub redecoded-requires : goal.redecoded-requires
redecoded-requires c =
    found c.args.window.now.line _ c.args.window.now.symbols _ _ c.nearest_narrow_lanes.ensures c.line.ensures
    c.symbols.ensures.symbols

pub returns-in_default : goal.returns-in_default
returns-in_default c =
    c.redecoded.ensures
    ∙ ap (λ (p : Passes). redecoded_outcome c.args.window.now.line p c.args.window.now.symbols) c.passes.ensures
