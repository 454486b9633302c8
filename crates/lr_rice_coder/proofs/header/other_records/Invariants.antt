use Rattle.std.proofs.Common.{◌≡◌, ◌++◌, drop, filter}
use Rattle.std.specs.List.{flat_map}
use Rattle.lr_rice_coder.specs.Repacked.{is_other, other_records, record_bytes}
use Rattle.lr_rice_coder.proofs.header.other_records.Given as goal

-- the records so far, and those to come
abbrev pub invariant-loop-place : goal.invariant-loop-place
invariant-loop-place l =
    l.others ++ flat_map (record_bytes l.records.bytes) (filter is_other (drop l.place l.records.entries))
    ≡ other_records l.records
