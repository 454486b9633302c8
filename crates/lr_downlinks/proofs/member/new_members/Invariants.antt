use Rattle.std.proofs.Common.{◌≡◌, ◌<◌, ℕ, length}
use Rattle.std.specs.Prelude.{slice_index_or}
use Rattle.lr_downlinks.specs.Members.{IsMember}
use Rattle.lr_downlinks.specs.declared.member.Member.{Member}
use Rattle.lr_downlinks.proofs.member.new_members.Given as goal

abbrev pub invariant-loop-downlink : goal.invariant-loop-downlink
invariant-loop-downlink g l =
    (length l.members.items ≡ l.downlink)
    × ((k : ℕ) (d : Member) → k < l.downlink
    → IsMember g.N.RunStart.start k (slice_index_or l.members.items k d))
