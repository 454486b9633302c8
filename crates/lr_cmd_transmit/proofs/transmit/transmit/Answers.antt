use Rattle.lr_causes.specs.Outside.{outlets, outlets_of}
use Rattle.lr_cmd_transmit.proofs.Transmitting.{transmits}
use Rattle.lr_cmd_transmit.proofs.transmit.transmit.Goals as goal

pub returns-clause-sent : goal.returns-clause-sent
returns-clause-sent g c =
    transmits (outlets_of g.D.Disk g.O.Sink) c.args.line c.args.from c.args.to c.args.wrong
    (outlets c.args.disk.now c.args.out.now) (outlets c.run_entries.new.disk c.run_entries.new.out)
    c.run_entries.result c.run_entries.ensures
