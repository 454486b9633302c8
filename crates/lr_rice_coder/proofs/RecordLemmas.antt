-- The records that stay, one after another.
use Rattle.std.proofs.Common.{◌≡◌, ℕ, zero, suc, ◌+◌, ◌<◌, ◌≤◌, Bool, true, false, cond, Some, List, [], ◌∷◌, ◌++◌}
use Rattle.std.proofs.Common.{length, get_or, take, drop, filter, sym, ap, ◌∙◌, arith, inl, inr}
use Rattle.std.specs.List.{flat_map, slice_get}
use Rattle.std.proofs.lemmas.Bool.{cases_lt}
use Rattle.std.proofs.lemmas.List.{append_assoc, drop_more, length-take-le, take_all}
use Rattle.lr_headers.specs.Tiling.{Header, IsHeaderOf, header_length}
use Rattle.lr_headers.specs.declared.entry.Entry.{Entry}
use Rattle.lr_headers.proofs.Tilings.{IsInside, taken}
use Rattle.lr_rice_coder.specs.Repacked.{is_other, record_bytes}

got : (es : List Entry) (k : ℕ) (d e : Entry) → slice_get es k ≡ Some e → get_or es k d ≡ e
got [] k d e h = absurd (cc)
got (x ∷ es) zero d e h = cc
got (x ∷ es) (suc k) d e h = got es k d e h

-- the header as the code cuts it out
header_cut : (proper bytes : List ℕ) (long size : ℕ) → bytes ≡ take long proper → size ≡ length bytes
    → take size proper ≡ bytes
header_cut proper bytes long size is same =
    elim (cases_lt (length proper) long) [
      | inl past ↦
          let whole : bytes ≡ proper = is ∙ take_all long proper (omega arith) in
          take_all size proper (omega (arith, same, ap length whole)) ∙ sym whole
      | inr inside ↦
          let exact : size ≡ long = omega (arith, same, ap length is, length-take-le long proper inside) in
          ap (λ (n : ℕ). take n proper) exact ∙ sym is
    ]

pub cut_is : (proper : List ℕ) (header : Header) (size : ℕ) → IsHeaderOf proper header → size ≡ length header.bytes
    → take size proper ≡ header.bytes
cut_is proper header size is same = header_cut proper header.bytes (header_length proper) size is.bytes same

pub entry_inside : (proper : List ℕ) (header : Header) (size place : ℕ) (e : Entry) → IsHeaderOf proper header
    → size ≡ length header.bytes → place < length header.entries → slice_get header.entries place ≡ Some e
    → e.at + e.length ≤ length (take size proper)
entry_inside proper header size place e is same inside there =
    let stands : IsInside header.bytes e =
    taken header is.tiled place e inside (sym (got header.entries place e e there)) in
    omega (arith, stands.ends, ap length (cut_is proper header size is same))

next_entry : (es : List Entry) (place : ℕ) (e : Entry) → place < length es → slice_get es place ≡ Some e
    → drop place es ≡ e ∷ drop (place + 1) es
next_entry es place e inside there =
    drop_more es place e inside ∙ ap (λ (x : Entry). x ∷ drop (place + 1) es) (got es place e e there)

pub other_more : (bytes : List ℕ) (es : List Entry) (others all : List ℕ) (place : ℕ) (e : Entry)
    → others ++ flat_map (record_bytes bytes) (filter is_other (drop place es)) ≡ all → place < length es
    → slice_get es place ≡ Some e → is_other e ≡ true
    → (others ++ record_bytes bytes e) ++ flat_map (record_bytes bytes) (filter is_other (drop (place + 1) es)) ≡ all
other_more bytes es others all place e so_far inside there is =
    let rest = filter is_other (drop (place + 1) es) in
    append_assoc others (record_bytes bytes e) (flat_map (record_bytes bytes) rest)
    ∙ ap (λ (b : Bool). others ++ flat_map (record_bytes bytes) (cond b (e ∷ rest) rest)) (sym is)
    ∙ ap (λ (l : List Entry). others ++ flat_map (record_bytes bytes) (filter is_other l))
    (sym (next_entry es place e inside there))
    ∙ so_far

pub other_less : (bytes : List ℕ) (es : List Entry) (others all : List ℕ) (place : ℕ) (e : Entry)
    → others ++ flat_map (record_bytes bytes) (filter is_other (drop place es)) ≡ all → place < length es
    → slice_get es place ≡ Some e → is_other e ≡ false
    → others ++ flat_map (record_bytes bytes) (filter is_other (drop (place + 1) es)) ≡ all
other_less bytes es others all place e so_far inside there isnt =
    let rest = filter is_other (drop (place + 1) es) in
    ap (λ (b : Bool). others ++ flat_map (record_bytes bytes) (cond b (e ∷ rest) rest)) (sym isnt)
    ∙ ap (λ (l : List Entry). others ++ flat_map (record_bytes bytes) (filter is_other l))
    (sym (next_entry es place e inside there))
    ∙ so_far
