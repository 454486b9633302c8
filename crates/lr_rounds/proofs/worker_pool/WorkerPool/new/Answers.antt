use Rattle.std.proofs.Common.{◌∙◌, ap, arith, sym}
use Rattle.lr_gate.specs.Seats.{opening_view}
use Rattle.lr_rounds.proofs.worker_pool.WorkerPool.new.Goals as goal

pub invariant_of-result : goal.invariant_of-result
invariant_of-result g c =
    let ring = c.in_ok-gate.ensures in
    record {
      size = ring.sizes.0;
      some = omega arith;
      conductor_is = ring.conductor.0;
      empty = ring.conductor.1 ∙ ap opening_view (sym ring.sizes.1);
      seats_are = ring.seats.0;
      as_many = ring.seats.1 ∙ sym ring.sizes.1;
      works_are = sym c.len-workers.ensures ∙ sym ring.sizes.1;
    }
