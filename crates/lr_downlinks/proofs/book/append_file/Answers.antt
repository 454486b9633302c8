use Rattle.std.proofs.Common.{rules, arith}
use Rattle.lr_downlinks.proofs.book.append_file.Goals as goal

pub push-requires-clause-few : goal.push-requires-clause-few
push-requires-clause-few g c = c.requires.few

pub returns-in-Ok : goal.returns-in-Ok
returns-in-Ok g c = search (rules, arith)
