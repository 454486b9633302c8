use Rattle.std.proofs.Common.{rules}
use Rattle.lr_io.proofs.Moving.{moved_on}
use Rattle.lr_io.proofs.source.SureSourceSource.take.Goals as goal

pub returns-clause-moved : goal.returns-clause-moved
returns-clause-moved c =
    moved_on c.args.self.now.bytes.items c.args.self.now.at c.min-count.result c.copy_from_slice.new.self
    c.args.into.now (search rules) (search rules)
