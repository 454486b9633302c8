use Rattle.std.proofs.Common.{eqb, not, rules, tests}
use Rattle.std.proofs.lemmas.Iterator.{YieldsList-from_slice}
use Rattle.std.proofs.lemmas.Iterator.Search.{any_from_yields_List}
use Rattle.lr_headers.proofs.records.has_nonzero.Goals as goal

pub returns : goal.returns
returns c =
    any_from_yields_List (λ byte. not (eqb byte 0)) _ _ _ c.any.ensures.ran (YieldsList-from_slice c.args.bytes.now cc)
    (λ x b q k. search (rules, tests))
