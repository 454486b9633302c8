use Rattle.std.proofs.Common.{rules, arith}
use Rattle.lr_reading.proofs.symbols.SymbolFeed.finish.Goals as goal

pub returns : goal.returns
returns c = search (rules, arith)
