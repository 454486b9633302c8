use Rattle.std.proofs.Common.{◌≡◌, ◌-◌, ◌≤◌, ◌++◌, length, take}
use Rattle.lr_bits.specs.declared.sizes.TheConstants.{ZONE_BYTES}
use Rattle.lr_vc.specs.Steps.{packets_inside, starts_unfinished}
use Rattle.lr_vc.proofs.zone.push_inside.Given as goal

-- what is pushed and what lies ahead are all packets of the zone, and the unfinished start is still to come
abbrev pub invariant-loop-end : goal.invariant-loop-end
invariant-loop-end l =
    (l.packets.items ++ packets_inside l.vc l.zone l.start ≡ l.fn.packets.items ++ packets_inside l.vc l.zone l.first) ×
    (starts_unfinished l.zone l.start ≡ starts_unfinished l.zone l.first) ×
    (l.start ≤ ZONE_BYTES) ×
    (take (length l.fn.packets.items) l.packets.items ≡ l.fn.packets.items)

abbrev pub decreases-loop-end : goal.decreases-loop-end
decreases-loop-end l = ZONE_BYTES - l.start
