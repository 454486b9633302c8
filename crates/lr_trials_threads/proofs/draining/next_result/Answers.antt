use Rattle.std.proofs.Common.{refl, ap, length, arith}
use Rattle.lr_gate.specs.Seats.{cells_of, view_of}
use Rattle.lr_gate.proofs.Fewer.{help_leaves_fewer}
use Rattle.lr_trials_threads.proofs.draining.next_result.Goals as goal

pub loop-done-smaller : goal.loop-done-smaller
loop-done-smaller g c = let fewer = help_leaves_fewer (cells_of c.args.gate.now) (view_of c.loop-done.conductor)
    (view_of c.take.new.self) (view_of c.help.new.self) c.help.result c.in_default.ensures.none
    ((c.in_default.ensures.alone c.requires.alone).0 refl)
    (omega (arith, c.requires.left, c.loop-done.invariant.2, ap length c.loop-done.invariant.1))
    (c.help.ensures.alone c.requires.alone) c.help.ensures.helps in
    omega (arith, fewer)
