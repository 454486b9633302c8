use Rattle.std.proofs.Common.{◌∙◌, sym}
use Rattle.lr_cmd_shelf.proofs.Repacking.{coded_wrong}
use Rattle.lr_cmd_shelf.proofs.repack.code_stored.Goals as goal

pub returns-in-Err-clause-err : goal.returns-in-Err-clause-err
returns-in-Err-clause-err c =
    coded_wrong c.args.block c.args.stored c.repack.result c.in-Err.cause (sym c.coded.ensures ∙ c.in-Err.is)
    c.repack.ensures.err
