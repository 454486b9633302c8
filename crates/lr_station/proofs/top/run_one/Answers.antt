use Rattle.lr_causes.specs.Outside.{outside, world_of}
use Rattle.lr_station.proofs.Waiting.{from_alone}
use Rattle.lr_station.proofs.top.run_one.Goals as goal

pub returns-clause-runs : goal.returns-clause-runs
returns-clause-runs g c =
    from_alone (world_of g.S.Source g.D.Disk g.O.Sink) c.run_alone.result
    (outside c.args.source.now c.args.disk.now c.args.out.now)
    (outside c.run_alone.new.source c.run_alone.new.disk c.run_alone.new.out) c.args.command c.requires.known
    c.requires.range c.run_alone.ensures.runs
