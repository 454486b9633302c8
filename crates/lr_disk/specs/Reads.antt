-- Calls that read a disk alone.
use Rattle.std.specs.Prelude.{◌≡◌, Result}
use Rattle.lr_bits.specs.Faults.{HasCause}
use Rattle.lr_bits.specs.declared.refusals.Failed.{Failed}
use Rattle.lr_bits.specs.Telling.{KeepsTelling}
use Rattle.lr_disk.specs.Disk.{KeepsImages, NoOther}
use Rattle.lr_disk.specs.declared.disk.Disk.{Ghosts as DiskOf}
use Rattle.lr_disk.specs.Pending.{EachImageSince}

module _ {D : Type 0} (disk : DiskOf D) where
  -- Nothing was written: no byte changed, and a crash leaves nothing that it might not have left before.
  pub record IsUnwritten (d d' : D) : Type 0 where
    pub contents : disk.contents d' ≡ disk.contents d
    pub images : NoOther (disk.may_leave d) (disk.may_leave d')
    pub any_moment : EachImageSince disk d d' (disk.may_leave d)

  -- The disk was only read, whatever it tells; and where it tells its contents, nothing was written.
  pub record IsOnlyRead (d d' : D) : Type 0 where
    pub calls : disk.only_read d d'
    pub unwritten : disk.tells d → IsUnwritten d d'

  -- what every call keeps, whatever it answers
  pub record IsCall {T : Type 0} (d d' : D) (result : Result T Failed) : Type 0 where
    pub cause : HasCause (disk.faults d) (disk.faults d') result
    pub tell : KeepsTelling (disk.tells d) (disk.tells d')

  -- what every call keeps besides that asks for the length or reads, and does nothing else
  pub record OnlyReads {T : Type 0} (d d' : D) (result : Result T Failed) : Type 0 where
    pub cause : HasCause (disk.faults d) (disk.faults d') result
    pub tell : KeepsTelling (disk.tells d) (disk.tells d')
    pub only_read : IsOnlyRead d d'
    pub kept : disk.tells d → KeepsImages (disk.may_leave d) (disk.may_leave d')
