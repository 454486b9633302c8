use Rattle.std.proofs.Common.{drop, sym, subst}
use Rattle.lr_lock.specs.Standing.{LockState, LockStandsFor}
use Rattle.lr_lock.proofs.Stepping.{stands_after_finish}
use Rattle.lr_lock.proofs.lock.Lock.finish.Goals as goal

pub returns-clause-stands : goal.returns-clause-stands
returns-clause-stands c fed given h =
    let before : LockState =
    record {
      line = c.self.inside.line;
      place = c.self.inside.place;
      kept = drop c.self.inside.passed c.self.inside.symbols.items;
      held = c.self.inside.held;
      finished = c.self.inside.finished;
    } in
    stands_after_finish before fed given (subst (λ (l : LockState). LockStandsFor l fed given) (sym c.self.view_is) h)
