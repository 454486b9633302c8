use Rattle.std.proofs.Common.{◌≤◌, ◌-◌}
use Rattle.lr_headers.specs.Tiling.{IsPrefix}
use Rattle.lr_headers.proofs.records.Records.read.Given as goal

-- the records so far tile the header up to this place
abbrev pub invariant-loop-place : goal.invariant-loop-place
invariant-loop-place l = record { front : IsPrefix l.header l.entries.items l.place; within : l.place ≤ l.end }

abbrev pub decreases-loop-place : goal.decreases-loop-place
decreases-loop-place l = l.end - l.place
