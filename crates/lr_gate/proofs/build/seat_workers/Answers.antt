use Rattle.std.proofs.Common.{arith, ◌∙◌, ◌+◌, ℕ, ap, sym, subst}
use Rattle.lr_gate.specs.Seats.{IsConductorWith, IsNewSeat, IsSeatOf}
use Rattle.lr_gate.specs.Steps.{after_split, new_view}
use Rattle.lr_gate.proofs.Seats.{All-snoc}
use Rattle.lr_gate.proofs.build.seat_workers.Goals as goal

pub loop-number-preserved : goal.loop-number-preserved
loop-number-preserved g c =
    let inv = c.loop-number.invariant in
    let split = c.split.ensures in
    let put = c.push_reserved.ensures in
    let crew = ap (λ v. v.split_off) split.view ∙ ap (λ v. v.split_off + 1) inv.view in
    let fresh = ap (λ m. m.0) split.new in
    record {
      mine = subst (λ (n : ℕ). IsConductorWith c.args.gate.now n c.split.new.self) crew split.mine;
      seats = All-snoc (IsSeatOf c.args.gate.now) _ _ c.split.result put.items inv.seats split.worker;
      new_seats = All-snoc IsNewSeat _ _ c.split.result put.items inv.new_seats
          (fresh ∙ ap new_view (sym (ap (λ v. v.number) fresh)));
      view = split.view ∙ ap after_split inv.view;
      many = omega (arith, put.len, inv.many);
      room = omega (arith, put.capacity, inv.room);
      workers = inv.workers;
    }
