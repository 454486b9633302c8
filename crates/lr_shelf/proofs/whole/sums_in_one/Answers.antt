use Rattle.std.proofs.Common.{rules}
use Rattle.lr_shelf.specs.Pieces.{IsReadWhole}
use Rattle.lr_shelf.proofs.whole.sums_in_one.Goals as goal

pub returns-clause-found : goal.returns-clause-found
returns-clause-found g c told =
    let contents = g.D.Disk.contents c.args.disk.now in
    let whole : IsReadWhole contents c.args.entry c.read_whole.new.buffer = search rules in (
      search rules,
      record { stored = search rules; computed = search rules; fit = whole.fit },
    )
