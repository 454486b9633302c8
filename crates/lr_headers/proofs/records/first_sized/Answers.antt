use Rattle.std.proofs.Common.{rules, tests, sym, ◌∙◌}
use Rattle.std.proofs.lemmas.Iterator.{YieldsList-from_slice}
use Rattle.std.proofs.lemmas.Iterator.Adapters.{option_map_id}
use Rattle.std.proofs.lemmas.Iterator.Consumers.{YieldsList-from_copied}
use Rattle.std.proofs.lemmas.Iterator.Search.{find_from_yields_List}
use Rattle.lr_headers.specs.Fields.{is_sized}
use Rattle.lr_headers.proofs.records.first_sized.Goals as goal

pub returns : goal.returns
returns c =
    sym (option_map_id c.find.result)
    ∙ find_from_yields_List (is_sized c.args.kind c.args.size) _ _ _ c.find.ensures.ran
    (YieldsList-from_copied (YieldsList-from_slice c.args.entries.now cc)) (λ x b q k. search (rules, tests))
