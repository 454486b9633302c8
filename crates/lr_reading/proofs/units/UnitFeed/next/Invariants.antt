use Rattle.std.proofs.Common.{◌≡◌, ◌-◌, ◌≤◌, length}
use Rattle.lr_reading.specs.Gathering.{GathersOn}
use Rattle.lr_reading.specs.Reading.{at_source}
use Rattle.lr_reading.proofs.units.UnitFeed.next.Given as goal

abbrev pub invariant-loop-self : goal.invariant-loop-self
invariant-loop-self g l =
    let source = g.S.Source in
    record {
      gathered : GathersOn source g.row.N (at_source l.fn.self l.fn.source) (at_source l.self l.source);
      kept : source.faults l.source ≡ source.faults l.fn.source;
      short : length l.self.held ≤ g.row.N;
    }

abbrev pub decreases-loop-self : goal.decreases-loop-self
decreases-loop-self g l = l.self.most - l.self.taken
