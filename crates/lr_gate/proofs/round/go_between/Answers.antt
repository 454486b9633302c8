use Rattle.std.proofs.Common.{◌∙◌, ap}
use Rattle.lr_gate.proofs.Rounds.{gone_more, gone_works}
use Rattle.lr_gate.proofs.round.go_between.Goals as goal

pub returns-then-visit-clause-goes : goal.returns-then-visit-clause-goes
returns-then-visit-clause-goes g c =
    gone_works c.args.gate.now.cells c.args.seat.now.me c.loop-cell.seat.me c.visit.new.seat.me c.args.cells.from
    c.loop-cell.cell
    c.loop-cell.invariant.3 c.if-visit.ensures.visits

pub loop-cell-preserved : goal.loop-cell-preserved
loop-cell-preserved g c = let old = c.loop-cell.invariant in let v = c.if-visit.ensures.visits in
    let same = c.visit.ensures.same in (
      record {
        table = same.0 ∙ old.0.table;
        number_is = ap (λ m. m.0.number) v.1 ∙ old.0.number_is;
        low = old.0.low;
        live = ap (λ m. m.0.spent) v.1 ∙ old.0.live;
        free = ap (λ m. m.0.held) v.1 ∙ old.0.free;
      },
      same.0 ∙ old.1,
      same.1 ∙ old.2,
      gone_more c.args.gate.now.cells c.args.seat.now.me c.loop-cell.seat.me c.visit.new.seat.me c.args.cells.from
          c.loop-cell.cell
          old.3 v,
    )
