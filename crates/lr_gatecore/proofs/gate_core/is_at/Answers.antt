use Rattle.std.proofs.Common.{◌∙◌, sym, ap, arith}
use mathlib.Core.Option.{some, some-injective, some-ne-none}
use Rattle.lr_gatecore.proofs.Lists.{at_index, at_above, on_true, on_false}
use Rattle.lr_gatecore.proofs.gate_core.is_at.Goals as goal

pub returns-clause-yes : goal.returns-clause-yes
returns-clause-yes c = let at = at_index c.args.window.now.items c.args.place c.index.result.now
    (omega arith) c.index.ensures in
    on_true c.is.result (λ e. at ∙ ap some e) c.is.ensures.yes

pub returns-clause-no : goal.returns-clause-no
returns-clause-no c = let at = at_index c.args.window.now.items c.args.place c.index.result.now
    (omega arith) c.index.ensures in
    on_false c.is.result (λ ne e. ne (some-injective c.index.result.now c.args.stage (sym at ∙ e))) c.is.ensures.no

pub returns-then-place-len-clause-no : goal.returns-then-place-len-clause-no
returns-then-place-len-clause-no c =
    λ e. some-ne-none c.args.stage (sym e ∙ at_above c.args.window.now.items c.args.place (omega arith))
