use Rattle.std.proofs.Common.{rules}
use Rattle.lr_cmd_receive.proofs.Pieces.{marked_add, plain_add}
use Rattle.lr_cmd_receive.proofs.shelve.take_files.Goals as goal

pub returns-then-mends-clause-adds : goal.returns-then-mends-clause-adds
returns-then-mends-clause-adds c mend outcomes stands =
    marked_add mend outcomes c.args.outcome.now _ _ (search rules) (search rules) (search rules) c.push_mended.result
    (c.push_mended.ensures.files mend outcomes stands)

pub returns-else-mends-clause-adds : goal.returns-else-mends-clause-adds
returns-else-mends-clause-adds c mend outcomes stands =
    plain_add mend outcomes c.args.outcome.now _ _ _ (search rules) (search rules) (search rules) c.push_outcome.result
    (c.push_outcome.ensures.files mend outcomes stands)
