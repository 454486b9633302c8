use Rattle.std.proofs.Common.{rules, arith, ◌≡◌, ◌∙◌, ap, All, ◌<◌, ◌+◌}
use Rattle.lr_gate.specs.Calls.{IsWorker}
use Rattle.lr_gate.proofs.Seats.{All-last, All-front}
use Rattle.lr_gate.proofs.Joins.{joins_go}
use Rattle.lr_gate.proofs.gate.Gate.close.Goals as goal

pub join_seat-requires : goal.join_seat-requires
join_seat-requires g c = let old = c.loop-seat.invariant in let size = c.args.self.sized in
    let seat : IsWorker c.args.self.table.shared.table_id c.in-Some.field-0.seat c.in-Some.field-0.number =
    All-last (λ s. IsWorker c.args.self.table.shared.table_id s.seat s.number) c.pop.new.self.items
    c.loop-seat.seats.items c.in-Some.field-0 c.in-Some.ensures.items old.1 in
    (old.0.table, seat.table, seat.empty, omega (arith, size.words), joins_go _ _ _ _ _ _ _ old.0.id seat.free)

pub loop-seat-preserved : goal.loop-seat-preserved
loop-seat-preserved g c = let old = c.loop-seat.invariant in let mine = old.0 in let join = c.join_seat.ensures in (
  record {
    table = join.0 ∙ mine.table;
    id = join.1 ∙ mine.id;
    number = ap (λ m. m.0.number) join.2 ∙ mine.number;
    live = ap (λ m. m.0.spent) join.2 ∙ mine.live;
    free = ap (λ m. m.0.held) join.2 ∙ mine.free;
    put_is = mine.put_is ∙ ap (λ m. Rattle.std.proofs.Common.length m.0.jobs) (Rattle.std.proofs.Common.sym join.2);
    taken_is = mine.taken_is ∙ ap (λ m. m.0.taken) (Rattle.std.proofs.Common.sym join.2);
    behind = mine.behind;
    within = mine.within;
    few = mine.few;
    stocked = ap (λ m. m.0.stocked) join.2 ∙ mine.stocked;
    resting = ap (λ m. m.0.taking) join.2 ∙ mine.resting;
    crew_is = ap (λ m. m.0.split_off) join.2 ∙ mine.crew_is;
    frees = ap (λ m. m.1) join.2 ∙ mine.frees;
  },
  All-front (λ s. IsWorker c.args.self.table.shared.table_id s.seat s.number) c.pop.new.self.items
      c.loop-seat.seats.items c.in-Some.field-0 c.in-Some.ensures.items old.1,
  old.2,
  old.3,
)

pub returns-clause-put : goal.returns-clause-put
returns-clause-put g c = let mine = c.requires.mine in omega (arith, c.loop-seat.invariant.2, mine.put_is)
