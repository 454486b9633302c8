use Rattle.std.proofs.Common.{◌≡◌, take}
use Rattle.std.specs.List.{flat_map}
use Rattle.lr_catalog.specs.Records.{record_line}
use Rattle.lr_catalog.proofs.records.all_lines.Given as goal

abbrev pub invariant-loop-place : goal.invariant-loop-place
invariant-loop-place l = l.lines ≡ flat_map (record_line l.records) (take l.place l.records.entries)
