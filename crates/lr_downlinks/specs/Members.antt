-- What the threads leave of the downlinks. No clause of a public call cites this.
use Rattle.std.specs.Prelude.{◌≡◌, ◌<◌, ℕ, List, length, IfSome, slice_index_or}
use Rattle.lr_downlinks.specs.Start.{Start, files_in}
use Rattle.lr_downlinks.specs.declared.member.Member.{Member}

-- the member of this downlink, with its files, once they were there
pub record IsMember (start : Start) (downlink : ℕ) (member : Member) : Type 0 where
  pub known : downlink < length start.streams
  pub downlink_is : member.downlink ≡ downlink
  pub files_are : IfSome member.files (λ files. files.items ≡ files_in start downlink)

-- a member for each downlink, in their order
pub record AreMembers (start : Start) (members : List Member) : Type 0 where
  pub each : (k : ℕ) (d : Member) → k < length members → IsMember start k (slice_index_or members k d)
  pub all : length members ≡ length start.streams
