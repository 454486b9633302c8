use Rattle.std.proofs.Common.{◌+◌, ◌<◌, ◌++◌, ℕ, List, length, drop, filter, ap, sym, ◌∙◌, arith}
use Rattle.std.specs.List.{flat_map}
use Rattle.lr_rice_coder.specs.Repacked.{is_other, other_records, record_bytes}
use Rattle.lr_rice_coder.proofs.RecordLemmas.{cut_is, entry_inside, other_less, other_more}
use Rattle.lr_rice_coder.proofs.header.other_records.Goals as goal
use Rattle.lr_rice_coder.proofs.header.other_records.Goals.{then-is_other+in_ok-extend, else-is_other}

pub record_bytes-requires : goal.record_bytes-requires
record_bytes-requires c =
    entry_inside c.args.proper.now c.args.records.now c.header_length.result c.loop-place.place c.entry-entry.result
    c.requires c.header_length.ensures (omega (arith, c.loop-place-test.true, c.count-place-end.ensures))
    c.entry-entry.ensures

pub loop-place-preserved : goal.loop-place-preserved
loop-place-preserved c =
    let header = c.args.records.now in
    let place = c.loop-place.place in
    let entry = c.entry-entry.result in
    let rest = flat_map (record_bytes header.bytes) (filter is_other (drop (place + 1) header.entries)) in
    let inside : place < length header.entries =
    omega (arith, c.loop-place-test.true, c.count-place-end.ensures) in
    elim c.if-is_other.branch [
      | then-is_other+in_ok-extend w ↦
          ap (λ (l : List ℕ). l ++ rest) (w.others-is ∙ w.in_ok-extend.ensures.ok
          ∙ ap (λ (l : List ℕ). c.loop-place.others ++ l) (w.record_bytes.ensures
          ∙ ap (λ (b : List ℕ). record_bytes b entry)
          (cut_is c.args.proper.now header c.header_length.result c.requires c.header_length.ensures)))
          ∙ other_more header.bytes header.entries c.loop-place.others (other_records header) place entry
          c.loop-place.invariant inside c.entry-entry.ensures (sym c.is_other.ensures ∙ w.if-is_other.true)
      | else-is_other w ↦
          ap (λ (l : List ℕ). l ++ rest) w.others-is
          ∙ other_less header.bytes header.entries c.loop-place.others (other_records header) place entry
          c.loop-place.invariant inside c.entry-entry.ensures (sym c.is_other.ensures ∙ w.if-is_other.false)
    ]
