use Rattle.std.proofs.lemmas.Simd.{length-chunk, get_or-chunk}
use Rattle.lr_rs.proofs.generator.row_at.Goals as goal

pub returns-clause-size : goal.returns-clause-size
returns-clause-size c = length-chunk c.args.at 32 c.args.table.now c.requires

pub returns-clause-value : goal.returns-clause-value
returns-clause-value c = λ k l. get_or-chunk c.args.at 32 c.args.table.now k 0 l
