-- The header of a file that is coded anew: its records tile its bytes, and what they say.
use Rattle.std.proofs.Common.{◌≡◌, ℕ, suc, ◌+◌, ◌-◌, ◌*◌, ◌<◌, ◌≤◌, Bool, true, false, not, ◌&&◌, ◌||◌}
use Rattle.std.proofs.Common.{eqb, ltb, cond, Option, Some, None, List, [], ◌∷◌, ◌++◌, length, get_or, take, drop}
use Rattle.std.proofs.Common.{filter, refl, sym, ap, ◌∙◌, subst, arith, length-append}
use Rattle.std.specs.List.{flat_map, list_any}
use Rattle.std.proofs.lemmas.Bool.{lt-leb}
use Rattle.std.proofs.lemmas.List.{append_assoc, append-nil, drop-drop, drop-take, drop_at, get_or_append_left}
use Rattle.std.proofs.lemmas.List.{get_or-append_right, get_or-drop, get_or-take, length-take-le, length-drop, take_at}
use Rattle.lr_headers.specs.Fields.{contents_of, is_key}
use Rattle.lr_headers.specs.Tiling.{IsRecord, IsTiling, fault_at, has_wrong_length, kind_at, length_at, number_at}
use Rattle.lr_headers.specs.declared.entry.Entry.{Entry}
use Rattle.lr_headers.specs.declared.fault.HeaderFault.{HeaderFault}
use Rattle.lr_headers.proofs.Tilings.{record_ends}
use Rattle.lr_rice_coder.specs.Repacked.{is_other, record_bytes}

-- ---- records without a fault

pub past : (b : Bool) (fault : HeaderFault) (rest : Option HeaderFault) → b ≡ false → rest ≡ None
    → cond b (Some fault) rest ≡ None
past b fault rest isnt none = ap (λ c. cond c (Some fault) rest) isnt ∙ none

pub sound_record : (bytes : List ℕ) (place : ℕ) → place + length_at place bytes ≤ length bytes
    → 3 ≤ length_at place bytes
    → has_wrong_length (kind_at place bytes) (length_at place bytes) ≡ false → fault_at bytes place ≡ None
sound_record bytes place ends long right =
    past (ltb (length bytes) (place + 3)) _ _ (lt-leb (suc (length bytes)) (place + 3) (omega arith))
    (past (ltb (length_at place bytes) 3) _ _ (lt-leb (suc (length_at place bytes)) 3 (omega arith))
    (past (ltb (length bytes) (place + length_at place bytes)) _ _
    (lt-leb (suc (length bytes)) (place + length_at place bytes) (omega arith))
    (past (has_wrong_length (kind_at place bytes) (length_at place bytes)) _ _ right refl)))

-- ---- records that move

-- a record of the bytes stands where it says, without a fault
pub record Stands (bytes : List ℕ) (e : Entry) : Type 0 where
  pub ends : e.at + e.length ≤ length bytes
  pub long : 3 ≤ e.length
  pub kind : kind_at e.at bytes ≡ e.kind
  pub size : length_at e.at bytes ≡ e.length
  pub right : has_wrong_length e.kind e.length ≡ false

abbrev pub AllStand : List ℕ → List Entry → Type 0
AllStand bytes [] = Unit {0}
AllStand bytes (e ∷ es) = Stands bytes e × AllStand bytes es

record_stands : (bytes : List ℕ) (place : ℕ) (e : Entry) → IsRecord bytes place e → Stands bytes e
record_stands bytes place e r =
    let ends = record_ends bytes place e r in
    let here : place ≡ e.at = sym r.here in
    record {
      ends = subst (λ (p : ℕ). p + e.length ≤ length bytes) here ends.0;
      long = ends.1;
      kind = ap (λ (p : ℕ). kind_at p bytes) r.here ∙ sym r.kind;
      size = ap (λ (p : ℕ). length_at p bytes) r.here ∙ sym r.size;
      right = ap (λ (k : ℕ). has_wrong_length k e.length) r.kind
          ∙ ap (λ (n : ℕ). has_wrong_length (kind_at place bytes) n) r.size ∙ ends.2;
    }

pub tiling_stands : (bytes : List ℕ) (from : ℕ) (es : List Entry) (to : ℕ) → IsTiling bytes from es to
    → AllStand bytes es
tiling_stands bytes from [] to h = tt
tiling_stands bytes from (e ∷ es) to h = (
  record_stands bytes from e h.0,
  tiling_stands bytes (from + e.length) es to h.1,
)

kept : (bytes : List ℕ) (e : Entry) (es : List Entry) (b : Bool) → Stands bytes e → AllStand bytes es
    → AllStand bytes (cond b (e ∷ es) es)
kept bytes e es true here later = (here, later)
kept bytes e es false here later = later

pub filter_stands : (bytes : List ℕ) (es : List Entry) → AllStand bytes es → AllStand bytes (filter is_other es)
filter_stands bytes [] all = tt
filter_stands bytes (e ∷ es) all =
    kept bytes e (filter is_other es) (is_other e) all.0 (filter_stands bytes es all.1)

-- the entries of records that are moved to a place, one after another
abbrev pub moved : ℕ → List Entry → List Entry
moved place [] = []
moved place (e ∷ es) = record { kind = e.kind; at = place; length = e.length } ∷ moved (place + e.length) es

size_of_record : (bytes : List ℕ) (e : Entry) → Stands bytes e → length (record_bytes bytes e) ≡ e.length
size_of_record bytes e s =
    length-take-le e.length (drop e.at bytes) (omega (arith, length-drop e.at bytes, s.ends))

-- a byte of a record after others
byte_there : (front bytes rest : List ℕ) (e : Entry) (j : ℕ) → Stands bytes e → j < e.length
    → get_or (front ++ (record_bytes bytes e ++ rest)) (length front + j) 0 ≡ get_or bytes (e.at + j) 0
byte_there front bytes rest e j s inside =
    let size = size_of_record bytes e s in
    let at : length front + j - length front ≡ j = omega arith in
    get_or-append_right front (record_bytes bytes e ++ rest) (length front) (length front + j) 0 refl (omega arith)
    ∙ ap (λ (k : ℕ). get_or (record_bytes bytes e ++ rest) k 0) at
    ∙ get_or_append_left (record_bytes bytes e) rest 0 j (omega (arith, size))
    ∙ get_or-take e.length (drop e.at bytes) j 0 inside ∙ get_or-drop e.at bytes j 0

two_bytes : (bytes : List ℕ) (place : ℕ)
    → number_at 2 place bytes ≡ get_or bytes place 0 * 256 + get_or bytes (place + 1) 0
unfolding number_at
two_bytes bytes place =
    let none : place + 0 ≡ place = omega arith in
    omega (arith, get_or-drop place bytes 0 0, get_or-drop place bytes 1 0, ap (λ (k : ℕ). get_or bytes k 0) none)

moved_kind : (front bytes rest : List ℕ) (e : Entry) → Stands bytes e
    → kind_at (length front) (front ++ (record_bytes bytes e ++ rest)) ≡ e.kind
moved_kind front bytes rest e s =
    let none : length front + 0 ≡ length front = omega arith in
    let here : e.at + 0 ≡ e.at = omega arith in
    let whole = front ++ (record_bytes bytes e ++ rest) in
    ap (λ (k : ℕ). get_or whole k 0) (sym none) ∙ byte_there front bytes rest e 0 s (omega (arith, s.long))
    ∙ ap (λ (k : ℕ). get_or bytes k 0) here ∙ s.kind

moved_length : (front bytes rest : List ℕ) (e : Entry) → Stands bytes e
    → length_at (length front) (front ++ (record_bytes bytes e ++ rest)) ≡ e.length
moved_length front bytes rest e s =
    let whole = front ++ (record_bytes bytes e ++ rest) in
    let two : length front + 1 + 1 ≡ length front + 2 = omega arith in
    let also : e.at + 1 + 1 ≡ e.at + 2 = omega arith in
    two_bytes whole (length front + 1)
    ∙ ap (λ (b : ℕ). b * 256 + get_or whole (length front + 1 + 1) 0)
    (byte_there front bytes rest e 1 s (omega (arith, s.long)))
    ∙ ap (λ (b : ℕ). get_or bytes (e.at + 1) 0 * 256 + b) (ap (λ (k : ℕ). get_or whole k 0) two
    ∙ byte_there front bytes rest e 2 s (omega (arith, s.long)) ∙ ap (λ (k : ℕ). get_or bytes k 0) (sym also))
    ∙ sym (two_bytes bytes (e.at + 1)) ∙ s.size

moved_record : (front bytes rest : List ℕ) (e : Entry) → Stands bytes e
    → IsRecord (front ++ (record_bytes bytes e ++ rest)) (length front)
    (record { kind = e.kind; at = length front; length = e.length })
moved_record front bytes rest e s =
    let whole = front ++ (record_bytes bytes e ++ rest) in
    let kind = moved_kind front bytes rest e s in
    let size = moved_length front bytes rest e s in
    let long : length whole ≡ length front + (e.length + length rest) =
    omega (
      arith,
      length-append front (record_bytes bytes e ++ rest),
      length-append (record_bytes bytes e) rest,
      size_of_record bytes e s,
    ) in
    record {
      below = omega (arith, long, s.long);
      sound = sound_record whole (length front) (omega (arith, long, size)) (omega (arith, size, s.long))
          (ap (λ (k : ℕ). has_wrong_length k (length_at (length front) whole)) kind
          ∙ ap (λ (n : ℕ). has_wrong_length e.kind n) size ∙ s.right);
      here = refl;
      kind = sym kind;
      size = sym size;
    }

pub moved_tiling : (front bytes : List ℕ) (es : List Entry) → AllStand bytes es
    → IsTiling (front ++ flat_map (record_bytes bytes) es) (length front) (moved (length front) es)
    (length (front ++ flat_map (record_bytes bytes) es))
moved_tiling front bytes [] all = sym (ap length (append-nil front))
moved_tiling front bytes (e ∷ es) all =
    let here = record_bytes bytes e in
    let rest = flat_map (record_bytes bytes) es in
    let both : (front ++ here) ++ rest ≡ front ++ (here ++ rest) = append_assoc front here rest in
    let size : length (front ++ here) ≡ length front + e.length =
    omega (arith, length-append front here, size_of_record bytes e all.0) in
    let later = moved_tiling (front ++ here) bytes es all.1 in (
      moved_record front bytes rest e all.0,
      subst (λ (w : List ℕ). IsTiling w (length front + e.length) (moved (length front + e.length) es) (length w)) both
          (subst (λ (n : ℕ). IsTiling ((front ++ here) ++ rest) n (moved n es) (length ((front ++ here) ++ rest)))
          size later),
    )

-- ---- keys

-- what is after the first three bytes of the first n
after_three : (n : ℕ) (bytes : List ℕ) → 3 ≤ n → take (n - 3) (drop 3 bytes) ≡ drop 3 (take n bytes)
after_three n bytes long =
    let whole : 3 + (n - 3) ≡ n = omega arith in
    sym (drop-take 3 (n - 3) bytes) ∙ ap (λ (k : ℕ). drop 3 (take k bytes)) whole

moved_contents : (front bytes rest : List ℕ) (e : Entry) → Stands bytes e
    → contents_of (front ++ (record_bytes bytes e ++ rest))
    (record { kind = e.kind; at = length front; length = e.length }) ≡ contents_of bytes e
moved_contents front bytes rest e s =
    let here = record_bytes bytes e in
    ap (take (e.length - 3)) (sym (drop-drop 3 (length front) (front ++ (here ++ rest)))
    ∙ ap (drop 3) (drop_at front (here ++ rest) (length front) refl))
    ∙ after_three e.length (here ++ rest) s.long
    ∙ ap (drop 3) (take_at here rest e.length (size_of_record bytes e s))
    ∙ sym (after_three e.length (drop e.at bytes) s.long)
    ∙ ap (take (e.length - 3)) (drop-drop 3 e.at bytes)

pub moved_keys : (front bytes : List ℕ) (es : List Entry) → AllStand bytes es
    → list_any (is_key (front ++ flat_map (record_bytes bytes) es)) (moved (length front) es)
    ≡ list_any (is_key bytes) es
moved_keys front bytes [] all = refl
moved_keys front bytes (e ∷ es) all =
    let here = record_bytes bytes e in
    let rest = flat_map (record_bytes bytes) es in
    let whole = front ++ (here ++ rest) in
    let both : (front ++ here) ++ rest ≡ whole = append_assoc front here rest in
    let size : length (front ++ here) ≡ length front + e.length =
    omega (arith, length-append front here, size_of_record bytes e all.0) in
    let later = moved_keys (front ++ here) bytes es all.1 in
    let first : Entry = record { kind = e.kind; at = length front; length = e.length } in
    ap (λ (l : List ℕ). (eqb e.kind 7 && list_any (λ byte. not (eqb byte 0)) l)
    || list_any (is_key whole) (moved (length front + e.length) es)) (moved_contents front bytes rest e all.0)
    ∙ ap (λ (b : Bool). is_key bytes e || b)
    (subst (λ (w : List ℕ). list_any (is_key w) (moved (length front + e.length) es) ≡ list_any (is_key bytes) es) both
    (subst (λ (n : ℕ). list_any (is_key ((front ++ here) ++ rest)) (moved n es)
    ≡ list_any (is_key bytes) es) size later))

neither : (a b : Bool) → (a || b) ≡ false → (a ≡ false) × (b ≡ false)
neither true b is = absurd (cc)
neither false b is = (refl, is)

kept_key : (bytes : List ℕ) (e : Entry) (es : List Entry) (b : Bool) → is_key bytes e ≡ false
    → list_any (is_key bytes) es ≡ false → list_any (is_key bytes) (cond b (e ∷ es) es) ≡ false
kept_key bytes e es true here later = ap (λ (k : Bool). k || list_any (is_key bytes) es) here ∙ later
kept_key bytes e es false here later = later

pub no_key_kept : (bytes : List ℕ) (es : List Entry) → list_any (is_key bytes) es ≡ false
    → list_any (is_key bytes) (filter is_other es) ≡ false
no_key_kept bytes [] none = refl
no_key_kept bytes (e ∷ es) none =
    let both = neither (is_key bytes e) (list_any (is_key bytes) es) none in
    kept_key bytes e (filter is_other es) (is_other e) both.0 (no_key_kept bytes es both.1)
