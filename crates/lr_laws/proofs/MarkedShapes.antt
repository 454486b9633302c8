-- The header of a marked file says the same of the image.
use Rattle.std.proofs.Common.{◌≡◌, ℕ, ◌+◌, ◌-◌, ◌<◌, ◌≤◌, ◌^◌, Bool, true, false, cond, not, ◌||◌, ◌&&◌, eqb, Option}
use Rattle.std.proofs.Common.{Some}
use Rattle.std.proofs.Common.{None, List, [], ◌∷◌, ◌++◌, length, take, drop, refl, sym, ap, ◌∙◌, arith}
use Rattle.std.proofs.Common.{length-drop, append_assoc}
use Rattle.std.specs.List.{find, list_any}
use Rattle.std.specs.Option.{option_map}
use Rattle.std.specs.Prelude.{slice_index}
use Rattle.std.specs.Int.{to_be_bytes, w32}
use Rattle.std.proofs.Common.{Result, Err}
use Rattle.std.proofs.lemmas.List.{get_or-take, length-take-le, take-append-le, take_at}
use Rattle.lr_headers.specs.declared.entry.Entry.{Entry}
use Rattle.lr_headers.specs.declared.fields.Structure.{Structure}
use Rattle.lr_headers.specs.Fields.{contents_of, file_type, is_encrypted, is_key, is_kind}
use Rattle.lr_headers.specs.Fields.{is_sized, lossless_in, lossless_of, structure_in, structure_of}
use Rattle.lr_headers.specs.Tiling.{Header, IsPrefix, IsRecord, IsTiled, IsTiling}
use Rattle.lr_headers.proofs.Tilings.{record_ends}
use Rattle.lr_image.specs.declared.fault.ImageFault.{ImageFault}
use Rattle.lr_image.specs.declared.fault.ImageFault.TheVariants.{NotImage}
use Rattle.lr_image.specs.declared.shape.Shape.{Shape}
use Rattle.lr_image.specs.Shapes.{shape_of, structured_shape}
use Rattle.lr_laws.proofs.LongerHeaders.{after, drop-longer, longer, mark, mark_entry}

first_four : (a b c d : List ℕ) → length a ≡ 4 → take 4 (((a ++ b) ++ c) ++ d) ≡ a
first_four a b c d four =
    ap (take 4) (append_assoc (a ++ b) c d ∙ append_assoc a b (c ++ d)) ∙ take_at a (b ++ (c ++ d)) 4 four

module _ (text : List ℕ) (header : Header) (tiled : IsTiled header) (few : length text + 3 < 2 ^ 16)
    (fits : length header.bytes + (length text + 3) < 2 ^ 32) where
  abbrev bytes : List ℕ
  bytes = header.bytes

  abbrev bytes' : List ℕ
  bytes' = longer text bytes tiled.least few fits

  abbrev last : Entry
  last = mark_entry text bytes tiled.least few fits

  abbrev header' : Header
  header' = after text bytes tiled.least few fits header

  -- the contents of a record that isn't the first one
  same_contents : (place : ℕ) (e : Entry) → 16 ≤ place → IsRecord bytes place e →
      contents_of bytes' e ≡ contents_of bytes e
  same_contents place e after is =
      let ends = record_ends bytes place e is in
      let here = is.here in
      let there : e.length - 3 ≤ length (drop (e.at + 3) bytes) =
      omega (arith, length-drop (e.at + 3) bytes, ends.0, ends.1, here) in
      ap (take (e.length - 3)) (drop-longer text bytes tiled.least few fits (e.at + 3) (omega (arith, here, after))
      (omega (arith, here, ends.0, ends.1)))
      ∙ take-append-le (e.length - 3) (drop (e.at + 3) bytes) (mark text bytes tiled.least few fits) there

  -- the first record of those that pass a test which the mark doesn't pass
  module _ (test : Entry → Bool) (other : test last ≡ false) where
    by_test : (e : Entry) (es : List Entry) → contents_of bytes' e ≡ contents_of bytes e →
        option_map (contents_of bytes') (find test (es ++ last ∷ [])) ≡ option_map (contents_of bytes) (find test es) →
        (b : Bool) → option_map (contents_of bytes') (cond b (Some e) (find test (es ++ last ∷ [])))
        ≡ option_map (contents_of bytes) (cond b (Some e) (find test es))
    by_test e es here later true = ap Some here
    by_test e es here later false = later

    same_first : (from : ℕ) (es : List Entry) (to : ℕ) → 16 ≤ from → IsTiling bytes from es to →
        option_map (contents_of bytes') (find test (es ++ last ∷ [])) ≡ option_map (contents_of bytes) (find test es)
    same_first from [] to late h = rw other refl
    same_first from (e ∷ es) to late h =
        by_test e es (same_contents from e late h.0) (same_first (from + e.length) es to (omega (arith, late)) h.1)
        (test e)

    same_found : (es : List Entry) (to : ℕ) → ((e : Entry) → e.kind ≡ 0 → test e ≡ false) → IsPrefix bytes es to →
        option_map (contents_of bytes') (find test (es ++ last ∷ [])) ≡ option_map (contents_of bytes) (find test es)
    same_found [] to primary h = absurd h
    same_found (e ∷ es) to primary h =
        let none = primary e h.0.kind in
        rw none (same_first 16 es to (omega arith) h.1)

  abbrev front : IsPrefix bytes header.entries (length bytes)
  front = tiled.front

  not_structure : (e : Entry) → e.kind ≡ 0 → is_kind 1 e ≡ false
  not_structure e zero = ap (λ (k : ℕ). eqb k 1) zero

  not_lossless : (e : Entry) → e.kind ≡ 0 → is_sized 131 7 e ≡ false
  not_lossless e zero = ap (λ (k : ℕ). eqb k 131 && eqb e.length 7) zero

  same_structure : structure_of header' ≡ structure_of header
  same_structure =
      ap (option_map structure_in) (same_found (is_kind 1) refl header.entries (length bytes) not_structure front)

  same_lossless : lossless_of header' ≡ lossless_of header
  same_lossless =
      ap (option_map lossless_in) (same_found (is_sized 131 7) refl header.entries (length bytes) not_lossless front)

  -- no key is more
  same_keys : (from : ℕ) (es : List Entry) (to : ℕ) → 16 ≤ from → IsTiling bytes from es to →
      list_any (is_key bytes') (es ++ last ∷ []) ≡ list_any (is_key bytes) es
  same_keys from [] to late h = refl
  same_keys from (e ∷ es) to late h =
      λ i. (eqb e.kind 7 && list_any (λ byte. not (eqb byte 0)) (same_contents from e late h.0 i))
      || same_keys (from + e.length) es to (omega (arith, late)) h.1 i

  all_keys : (es : List Entry) (to : ℕ) → IsPrefix bytes es to →
      list_any (is_key bytes') (es ++ last ∷ []) ≡ list_any (is_key bytes) es
  all_keys [] to h = absurd h
  all_keys (e ∷ es) to h =
      let none : eqb e.kind 7 ≡ false = ap (λ (k : ℕ). eqb k 7) h.0.kind in
      rw none (same_keys 16 es to (omega arith) h.1)

  same_encrypted : is_encrypted header' ≡ is_encrypted header
  same_encrypted = all_keys header.entries (length bytes) front

  same_type : file_type header' ≡ file_type header
  same_type =
      sym (get_or-take 4 bytes' 3 0 (omega arith))
      ∙ ap (λ l. slice_index l 3) (first_four (take 4 bytes) (to_be_bytes w32 _) (drop 8 bytes)
      (mark text bytes tiled.least few fits) (length-take-le 4 bytes (omega (arith, tiled.least))))
      ∙ get_or-take 4 bytes 3 0 (omega arith)

  by_structure : (s : Option Structure) → structured_shape s header' ≡ structured_shape s header
  by_structure None = refl
  by_structure (Some s) = rw (same_encrypted, same_lossless) refl

  pub same_shape : shape_of header' ≡ shape_of header
  same_shape =
      rw (same_type, same_structure) (ap (λ (r : Result Shape ImageFault).
      cond (not (eqb (file_type header) 0)) (Err (NotImage (file_type header))) r) (by_structure (structure_of header)))
