use Rattle.std.proofs.Common.{◌≡◌, ◌≤◌, true}
use Rattle.lr_forms.specs.declared.forms.Decoding.{Decoding}
use Rattle.lr_reading.specs.Feeding.{IsStanding, Taken, steps_left, symbols_from, symbols_left, FedSoFar, FeedsOn}
use Rattle.lr_reading.specs.Reading.{at_source}
use Rattle.lr_reading.proofs.symbols.SymbolFeed.next.Given as goal

abbrev pub invariant-steps : goal.invariant-steps
invariant-steps g l =
    let source = g.S.Source in
    record {
      feeds : (decoding : Decoding) (so_far : Taken _)
          → FedSoFar (symbols_from source decoding) so_far (at_source l.fn.self l.fn.source)
          → FeedsOn (symbols_from source decoding) (l.under_way ≡ true) (at_source so_far l.fn.source)
          (at_source l.self l.source);
      standing : IsStanding l.self.lock;
      most : l.self.most ≡ l.fn.self.most;
      line : l.self.lock.line ≡ l.fn.self.lock.line;
      window_line : l.window.line ≡ l.fn.window.line;
      window_passes : l.window.passes ≡ l.fn.window.passes;
      fewer : symbols_left l.self ≤ symbols_left l.fn.self;
    }

abbrev pub decreases-steps : goal.decreases-steps
decreases-steps g l = steps_left l.self
