use Rattle.std.proofs.Common.{◌≡◌, take}
use Rattle.lr_disk.specs.Left.{ShowsLeft}
use Rattle.lr_disk.specs.Mem.{State, after_all}
use Rattle.lr_disk.proofs.stop.Left.make_all.Given as goal

abbrev pub invariant-loop-call : goal.invariant-loop-call
invariant-loop-call l = record {
  room : l.self.room ≡ l.fn.self.room;
  shows : (s : State) → ShowsLeft s l.fn.self → ShowsLeft (after_all l.log (take l.call-index l.calls) s) l.self;
}
