use Rattle.std.proofs.Common.{◌-◌}
use Rattle.lr_reading.proofs.UnitLoop.{UnitsTaken}
use Rattle.lr_reading.proofs.unit_loop.read_units.Given as goal

abbrev pub invariant-units : goal.invariant-units
invariant-units g l = UnitsTaken g.S.Source g.C.Consumer.took l.form g.row.N l.most l.frames l.units
    l.fn.source l.source l.fn.consumer l.consumer

abbrev pub decreases-units : goal.decreases-units
decreases-units g l = l.most - l.units.taken
