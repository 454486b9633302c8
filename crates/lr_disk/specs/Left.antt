-- The bytes that a disk in memory would be left with. No clause of a public call cites this.
use Rattle.std.specs.Prelude.{◌≡◌, length}
use Rattle.lr_disk.specs.Mem.{State}
use Rattle.lr_disk.specs.Stop.{with_filler}
use Rattle.lr_disk.specs.declared.stop.Left.{Left}

-- they are those of this state
pub record ShowsLeft (s : State) (left : Left) : Type 0 where
  pub durable : left.durable.items ≡ s.durable
  pub bytes : left.bytes.items ≡ s.contents
  pub filled_is : left.filled.items ≡ with_filler s.durable s.pending
  pub long : length left.filled.items ≡ length left.bytes.items
