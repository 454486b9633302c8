use Rattle.std.proofs.Common.{◌≤◌}
use Rattle.lr_bits.specs.declared.sizes.TheConstants.{NO_PACKET_START}
use Rattle.lr_cases.proofs.sender.draw_frame.Given as goal

-- the pointer is a place in the zone, or none still
abbrev pub invariant-loop-place : goal.invariant-loop-place
invariant-loop-place l = l.pointer ≤ NO_PACKET_START
