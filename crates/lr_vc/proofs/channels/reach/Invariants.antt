use Rattle.std.proofs.Common.{◌≡◌, ℕ, ◌+◌, ◌-◌, ◌≤◌, length}
use Rattle.lr_vc.specs.Standing.{IsSmall, kept_at}
use Rattle.lr_vc.proofs.channels.reach.Given as goal

-- what is kept of each channel is as it was, and there are no fewer channels
abbrev pub invariant-loop-channels : goal.invariant-loop-channels
invariant-loop-channels l = record {
  same : (k : ℕ) → kept_at l.channels.items k ≡ kept_at l.fn.channels.items k;
  small : IsSmall l.channels.items;
  grown : length l.fn.channels.items ≤ length l.channels.items;
}

abbrev pub decreases-loop-channels : goal.decreases-loop-channels
decreases-loop-channels l = l.channel + 1 - length l.channels.items
