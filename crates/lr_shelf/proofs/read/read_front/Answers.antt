use Rattle.std.proofs.Common.{◌++◌, drop, arith}
use Rattle.std.proofs.lemmas.List.{get_or_default}
use Rattle.lr_shelf.proofs.read.read_front.Goals as goal

pub returns-clause-fit : goal.returns-clause-fit
returns-clause-fit g c = λ k d inside.
    omega (
      arith,
      c.type_inv.buffer k,
      get_or_default (c.read.new.into ++ drop c.args.size c.args.buffer.now) k d 0 inside,
    )
