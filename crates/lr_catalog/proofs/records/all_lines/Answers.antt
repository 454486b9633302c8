use Rattle.std.proofs.Common.{◌≡◌, ℕ, List, length, take, arith, ◌∙◌, ap, sym}
use Rattle.std.proofs.Math.Seq.{take-length}
use Rattle.std.specs.List.{flat_map}
use Rattle.lr_headers.specs.declared.entry.Entry.{Entry}
use Rattle.lr_catalog.specs.Records.{record_line}
use Rattle.lr_catalog.proofs.Lines.{next_line}
use Rattle.lr_catalog.proofs.records.all_lines.Goals as goal

pub loop-place-preserved : goal.loop-place-preserved
loop-place-preserved c =
    let records = c.args.records.now in
    let line = c.in_ok-record_line.ensures in
    let count = c.count-place-end.ensures in
    let before = c.loop-place-test.true in
    next_line (record_line records) records.entries c.loop-place.place c.loop-place.lines c.record_line.new.out
    (omega arith) c.loop-place.invariant line.ok

pub returns : goal.returns
returns c =
    let records = c.args.records.now in
    let count = c.count-place-end.ensures in
    let last = c.loop-place.auto.place-end in
    let after = c.loop-place-test.false in
    let past : length records.entries ≡ c.loop-place.place = omega arith in
    c.loop-place.invariant
    ∙ ap (λ (es : List Entry). flat_map (record_line records) es)
    (ap (λ (n : ℕ). take n records.entries) (sym past) ∙ take-length records.entries)
