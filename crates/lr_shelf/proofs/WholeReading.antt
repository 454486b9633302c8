-- An entry that is read in one piece.
use Rattle.std.proofs.Common.{◌≡◌, ◌≢◌, ◌+◌, ◌-◌, ◌<◌, ◌≤◌, min, ℕ, List, get_or, slice_index, length}
use Rattle.std.proofs.Common.{All, take, drop, sym, ap, ◌∙◌, subst, arith}
use Rattle.std.proofs.lemmas.List.{drop-drop, drop-take, get_or-drop, get_or-take}
use Rattle.std.proofs.lemmas.List.Elements.{All-drop}
use Rattle.lr_shelf_format.specs.Way.{HasRecord, item_at}
use Rattle.lr_shelf_format.specs.declared.entry.Entry.{Entry}
use Rattle.lr_shelf.specs.Pieces.{IsReadWhole}
use Rattle.lr_shelf.proofs.Bytes.{fit_piece}

module _ (bytes : List ℕ) (entry : Entry) (buffer : List ℕ) (count : ℕ)
    (is : count ≡ min (1 + entry.extent) (length bytes - entry.gate))
    (same : take count buffer ≡ take count (drop entry.gate bytes)) where
  first_is : 1 + entry.extent ≤ count → slice_index buffer 0 ≡ slice_index bytes entry.gate
  first_is enough =
      sym (get_or-take count buffer 0 0 (omega arith)) ∙ ap (λ (l : List ℕ). get_or l 0 0) same
      ∙ get_or-take count (drop entry.gate bytes) 0 0 (omega arith) ∙ get_or-drop entry.gate bytes 0 0
      ∙ ap (λ n. get_or bytes n 0) (omega arith)

  item_is : 1 + entry.extent ≤ count → take entry.extent (drop 1 buffer) ≡ item_at bytes entry
  item_is enough =
      let all : count ≡ 1 + entry.extent = omega (arith, is, enough) in
      sym (drop-take 1 entry.extent buffer)
      ∙ ap (drop 1)
      (subst (λ n. take n buffer ≡ take n (drop entry.gate bytes)) all same)
      ∙ drop-take 1 entry.extent (drop entry.gate bytes)
      ∙ ap (take entry.extent) (drop-drop 1 entry.gate bytes ∙ ap (λ n. drop n bytes) (omega arith))

  pub read_there : All (λ one. one < 256) buffer → 1 + entry.extent ≤ count → slice_index buffer 0 ≡ 1
      → IsReadWhole bytes entry buffer
  read_there fit enough first =
      let all : count ≡ 1 + entry.extent = omega (arith, is, enough) in
      record {
        is_open = sym (first_is enough) ∙ first;
        inside = omega (arith, is, enough);
        item = item_is enough;
        fit = fit_piece entry.extent (drop 1 buffer) (item_at bytes entry)
            (All-drop (λ (one : ℕ). one < 256) 1 buffer fit) (item_is enough);
      }

  pub none_short : count < 1 + entry.extent → HasRecord bytes entry → ⊥
  none_short short has = omega (arith, is, short, has.inside)

  pub none_closed : 1 + entry.extent ≤ count → slice_index buffer 0 ≢ 1 → HasRecord bytes entry → ⊥
  none_closed enough shut has = shut (first_is enough ∙ has.is_open)
