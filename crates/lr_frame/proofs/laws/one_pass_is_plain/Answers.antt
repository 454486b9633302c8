use Rattle.lr_frame.proofs.Passing.{one_pass_of, one_pass_of_all}
use Rattle.lr_frame.proofs.laws.one_pass_is_plain.Goals as goal

pub returns-clause-windows : goal.returns-clause-windows
returns-clause-windows c = one_pass_of

pub returns-clause-symbols : goal.returns-clause-symbols
returns-clause-symbols c = one_pass_of_all
