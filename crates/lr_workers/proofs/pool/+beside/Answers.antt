use Rattle.std.proofs.Common.{rules, arith, sym, ap, ◌∙◌, subst}
use Rattle.lr_gate.specs.Seats.{IsSeatIn, table_of, seat_table}
use Rattle.lr_gate.proofs.Seats.{All-front, All-snoc, All-last}
use Rattle.lr_workers.proofs.pool.+beside.Goals as goal
use Rattle.lr_workers.proofs.pool.+beside.Goals.{in-Ok, in-Err}

pub returns-clause-seats : goal.returns-clause-seats
returns-clause-seats g t c =
    let seat : IsSeatIn (table_of c.args.gate.now) c.in-Some.seat =
    All-last (λ s. IsSeatIn (table_of c.args.gate.now) s) c.pop.new.self.items c.args.seats.items c.in-Some.seat
    c.in-Some.ensures.items c.requires.seats in
    All-snoc (λ s. IsSeatIn (table_of c.args.gate.now) s) c.beside-conducted.result.1.items
    c.push_reserved.new.self.items c.match-started.seat.0 c.push_reserved.ensures.items c.beside-conducted.ensures.seats
    (elim c.match-started.branch [
      | in-Ok w ↦ subst (λ it. IsSeatIn (table_of c.args.gate.now) it.0) (sym w.seat-is)
          (subst (λ z. IsSeatIn z w.join.result.0) (ap (λ p. seat_table p.0.value) w.in-Ok.ensures.ok
          ∙ (ap (λ s. seat_table s) c.of.ensures ∙ seat.table)) w.join.ensures)
      | in-Err w ↦ subst (λ it. IsSeatIn (table_of c.args.gate.now) it.0) (sym w.seat-is)
          (subst (λ f. IsSeatIn (table_of f.1.now) w.run.result.0) w.in-Err.ensures.err w.run.ensures)
    ])

pub beside-conducted-requires-clause-mine : goal.beside-conducted-requires-clause-mine
beside-conducted-requires-clause-mine g t c κs lives = c.requires.mine

pub beside-conducted-requires-clause-running : goal.beside-conducted-requires-clause-running
beside-conducted-requires-clause-running g t c κs lives = c.requires.running

pub beside-conducted-requires-clause-seats : goal.beside-conducted-requires-clause-seats
beside-conducted-requires-clause-seats g t c κs lives =
    All-front (λ s. IsSeatIn (table_of c.args.gate.now) s) c.pop.new.self.items c.args.seats.items c.in-Some.seat
    c.in-Some.ensures.items c.requires.seats

pub beside-conducted-requires-clause-same : goal.beside-conducted-requires-clause-same
beside-conducted-requires-clause-same g t c κs lives =
    omega (arith, c.in-Some.ensures.cases, c.in-Some-pop.ensures.cases, c.requires.same)

pub beside-conducted-requires-clause-needs : goal.beside-conducted-requires-clause-needs
beside-conducted-requires-clause-needs g t c κs lives = c.requires.needs

pub spawn_with-started-requires-clause-keeps : goal.spawn_with-started-requires-clause-keeps
spawn_with-started-requires-clause-keeps g t c κs lives r kept =
    let seat : IsSeatIn (table_of c.args.gate.now) c.in-Some.seat =
    All-last (λ s. IsSeatIn (table_of c.args.gate.now) s) c.pop.new.self.items c.args.seats.items c.in-Some.seat
    c.in-Some.ensures.items c.requires.seats in
    subst (λ z. IsSeatIn z r.0) (sym (ap (λ s. seat_table s) c.of.ensures ∙ seat.table)) kept

pub spawn_with-started-requires-clause-runs : goal.spawn_with-started-requires-clause-runs
spawn_with-started-requires-clause-runs g t c κs lives =
    let seat : IsSeatIn (table_of c.args.gate.now) c.in-Some.seat =
    All-last (λ s. IsSeatIn (table_of c.args.gate.now) s) c.pop.new.self.items c.args.seats.items c.in-Some.seat
    c.in-Some.ensures.items c.requires.seats in
    (seat, search rules)

pub returns-clause-many : goal.returns-clause-many
returns-clause-many g t c = (
  omega (arith, c.beside-conducted.ensures.many.0, c.push_reserved.ensures.len, c.in-Some.ensures.cases),
  omega (arith, c.beside-conducted.ensures.many.1, c.push_reserved-2.ensures.len, c.in-Some-pop.ensures.cases),
)
