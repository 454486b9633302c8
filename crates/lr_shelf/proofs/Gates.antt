-- What stands at a gate, by the bytes from it on.
use Rattle.std.proofs.Common.{◌≡◌, inl, inr, ℕ, ◌+◌, ◌-◌, ◌≤◌, min, List, length, get_or}
use Rattle.std.proofs.Common.{slice_index, take, drop, sym, ◌∙◌, ap, subst, arith, length-drop}
use Rattle.std.proofs.Common.{length-take}
use Rattle.std.proofs.lemmas.List.{get_or-take, get_or-drop, drop-take, drop-drop, take-take, take_min}
use Rattle.lr_shelf_format.specs.Items.{Begins}
use Rattle.lr_shelf_format.specs.declared.item.ItemHead.{ItemHead}
use Rattle.lr_shelf_format.proofs.ItemLemmas.{Begins-twelve, extent_least}
use Rattle.lr_shelf.specs.Ahead.{IsEnough}
use Rattle.lr_shelf.specs.Gate.{IsGateIn, IsGateAt}
use Rattle.lr_shelf.specs.declared.ahead.Ahead.{Ahead}
use Rattle.lr_shelf.specs.declared.gate.Gate.{Gate}
use Rattle.lr_shelf.specs.declared.gate.Gate.TheVariants.{Closed, Open, Broken}

module _ (bytes : List ℕ) (at : ℕ) where
  pub first_of : slice_index (take 13 (drop at bytes)) 0 ≡ slice_index bytes at
  first_of = get_or-take 13 (drop at bytes) 0 0 (omega arith) ∙ get_or-drop at bytes 0 0
      ∙ ap (λ n. get_or bytes n 0) (omega arith)

  after_gate : take 12 (drop 1 (take 13 (drop at bytes))) ≡ take 12 (drop (at + 1) bytes)
  after_gate = ap (take 12) (drop-take 1 12 (drop at bytes)) ∙ take-take 12 12 (drop 1 (drop at bytes)) (omega arith)
      ∙ ap (take 12) (drop-drop 1 at bytes)

  pub begins_there : (head : ItemHead) → Begins (take 12 (drop 1 (take 13 (drop at bytes)))) head
      → Begins (drop (at + 1) bytes) head
  begins_there head begins =
      Begins-twelve (take 12 (drop (at + 1) bytes)) (drop (at + 1) bytes) head
      (take-take 12 12 (drop (at + 1) bytes) (omega arith)) (subst (λ (l : List ℕ). Begins l head) after_gate begins)

  pub begins_here : (head : ItemHead) → Begins (drop (at + 1) bytes) head
      → Begins (take 12 (drop 1 (take 13 (drop at bytes)))) head
  begins_here head begins =
      subst (λ (l : List ℕ). Begins l head) (sym after_gate)
      (
      Begins-twelve (drop (at + 1) bytes) (take 12 (drop (at + 1) bytes)) head
      (sym (take-take 12 12 (drop (at + 1) bytes) (omega arith))) begins
      )

  pub gate_there : (gate : Gate) → IsGateIn (take 13 (drop at bytes)) gate → IsGateAt bytes at gate
  gate_there Closed is = λ is_open. is (first_of ∙ is_open)
  gate_there Broken is = (
    sym first_of ∙ is.0,
    λ head leads.
        is.1
        (
        omega (
          arith,
          length-take 13 (drop at bytes),
          length-drop at bytes,
          leads.inside,
          extent_least (drop (at + 1) bytes) head leads.begins,
        )
        )
        head (begins_here head leads.begins),
  )
  gate_there (Open head) is = (sym first_of ∙ is.0, begins_there head is.2)

-- a part of what was read ahead
part_is_there : (buffer bytes : List ℕ) (start filled at count : ℕ)
    → take filled buffer ≡ take filled (drop start bytes)
    → start ≤ at → count + (at - start) ≤ filled
    → take count (drop (at - start) buffer) ≡ take count (drop at bytes)
part_is_there buffer bytes start filled at count held later fits =
    let from = at - start in
    let size : from + (filled - from) ≡ filled = omega arith in
    let left : drop from (take filled buffer) ≡ take (filled - from) (drop from buffer) =
    ap (λ n. drop from (take n buffer)) (sym size) ∙ drop-take from (filled - from) buffer in
    let right : drop from (take filled (drop start bytes)) ≡ take (filled - from) (drop at bytes) =
    ap (λ n. drop from (take n (drop start bytes))) (sym size) ∙ drop-take from (filled - from) (drop start bytes)
    ∙ ap (take (filled - from)) (drop-drop from start bytes ∙ ap (λ n. drop n bytes) (omega arith)) in
    sym (take-take count (filled - from) (drop from buffer) (omega arith))
    ∙ ap (take count) (sym left ∙ ap (drop from) held ∙ right)
    ∙ take-take count (filled - from) (drop at bytes) (omega arith)

-- where the bytes end, all of them are a gate's
all_of : (bytes : List ℕ) (at count : ℕ) → count ≡ min 13 (length bytes - at)
    → take count (drop at bytes) ≡ take 13 (drop at bytes)
all_of bytes at count is =
    ap (λ n. take n (drop at bytes)) (is ∙ ap (min 13) (sym (length-drop at bytes))) ∙ take_min 13 (drop at bytes)

-- all that tells of a gate at that place was read
pub gate_ahead : (contents : List ℕ) (at to : ℕ) (ahead : Ahead) (gate : Gate) → IsEnough contents at ahead
    → to ≡ min ahead.filled (at - ahead.start + 13)
    → IsGateIn (take (to - (at - ahead.start)) (drop (at - ahead.start) ahead.buffer.items)) gate
    → IsGateAt contents at gate
gate_ahead contents at to ahead gate is to_is in_part =
    let count = to - (at - ahead.start) in
    let fits : count + (at - ahead.start) ≤ ahead.filled =
    elim is.enough [ inl all ↦ omega (arith, to_is, all, is.later) | inr more ↦ omega (arith, to_is, more.0) ] in
    let there = part_is_there ahead.buffer.items contents ahead.start ahead.filled at count is.held is.later fits in
    let whole : take count (drop at contents) ≡ take 13 (drop at contents) =
    elim is.enough [
      | inl all ↦
          let size : count ≡ 13 = omega (arith, to_is, all, is.later) in
          ap (λ n. take n (drop at contents)) size
      | inr more ↦ all_of contents at count (omega (arith, to_is, more.0, more.1, ahead.page))
    ] in
    gate_there contents at gate (subst (λ l. IsGateIn l gate) (there ∙ whole) in_part)
