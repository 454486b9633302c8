-- Records one after another.
use Rattle.std.proofs.Common.{◌≡◌, ◌+◌, ◌≤◌, ◌<◌, inl, inr, ℕ, zero, suc, Bool, true, false, not, ◌&&◌, eqb, eq-eqb}
use Rattle.std.proofs.Common.{List, []}
use Rattle.std.proofs.Common.{◌∷◌, ◌++◌, Option, Some, None, cond, length, get_or, All, refl, sym, ap, ◌∙◌, subst}
use Rattle.std.proofs.Common.{arith}
use Rattle.std.proofs.lemmas.Bool.{ltb-false, eqb-true, false_from_ne_true}
use Rattle.std.specs.List.{find, slice_get}
use Rattle.lr_headers.specs.Fields.{content_in, content_of, contents_of, data_bits, file_type, is_kind, is_sized}
use Rattle.lr_headers.specs.declared.contents.Content.{Content}
use Rattle.lr_headers.specs.declared.contents.Content.TheVariants.{Primary}
use Rattle.lr_headers.specs.Laws.{HeadersAreOne, HeadersHaveNoFault, HeaderFaultsAreOne}
use Rattle.lr_headers.specs.Tiling.{Header, IsRecord, IsPrimary, IsTiling, IsPrefix, IsTiled, fault_at}
use Rattle.lr_headers.specs.Tiling.{has_wrong_length, file_header_bytes, kind_at, length_at}
use Rattle.lr_headers.specs.declared.entry.Entry.{Entry}
use Rattle.lr_headers.specs.declared.fault.HeaderFault.{HeaderFault}

pub no_fault : (b : Bool) (f : HeaderFault) (rest : Option HeaderFault) → cond b (Some f) rest ≡ None
    → (b ≡ false) × (rest ≡ None)
no_fault true f rest e = absurd (differ f e)
  where
    differ : (g : HeaderFault) → Some g ≡ None → ⊥
    differ g e' = cc
no_fault false f rest e = (refl, e)

pub record_ends : (bytes : List ℕ) (place : ℕ) (e : Entry) → IsRecord bytes place e
    → (place + e.length ≤ length bytes) × (3 ≤ e.length)
    × (has_wrong_length (kind_at place bytes) (length_at place bytes) ≡ false)
record_ends bytes place e r =
    let size : e.length ≡ length_at place bytes = r.size in
    let head = no_fault _ _ _ r.sound in
    let short = no_fault _ _ _ head.1 in
    let past = no_fault _ _ _ short.1 in
    let wrong = no_fault _ _ _ past.1 in (
      subst (λ (n : ℕ). place + n ≤ length bytes) (sym size) (ltb-false _ _ past.0),
      subst (λ (n : ℕ). 3 ≤ n) (sym size) (ltb-false _ _ short.0),
      wrong.0,
    )

tiling_more : (bytes : List ℕ) (from : ℕ) (es : List Entry) (to : ℕ) (e : Entry) → IsTiling bytes from es to
    → IsRecord bytes to e
    → IsTiling bytes from (es ++ e ∷ []) (to + e.length)
tiling_more bytes from [] to e h r = (subst (λ k. IsRecord bytes k e) (sym h) r, ap (λ k. k + e.length) h)
tiling_more bytes from (x ∷ es) to e h r = (h.0, tiling_more bytes (from + x.length) es to e h.1 r)

pub front_more : (bytes : List ℕ) (es : List Entry) (to : ℕ) (e : Entry) → IsPrefix bytes es to → IsRecord bytes to e
    → IsPrefix bytes (es ++ e ∷ []) (to + e.length)
front_more bytes [] to e h r = absurd h
front_more bytes (x ∷ es) to e h r = (h.0, tiling_more bytes 16 es to e h.1 r)

-- ---- what holds of each record

-- the record stands inside the bytes, and has the length of its kind
pub record IsInside (bytes : List ℕ) (e : Entry) : Type 0 where
  pub ends : e.at + e.length ≤ length bytes
  pub long : 3 ≤ e.length
  pub right : has_wrong_length e.kind e.length ≡ false

record_inside : (bytes : List ℕ) (place : ℕ) (e : Entry) → IsRecord bytes place e → IsInside bytes e
record_inside bytes place e r =
    let ends = record_ends bytes place e r in
    let here = r.here in
    let right : has_wrong_length e.kind e.length ≡ false =
    ap (λ (k : ℕ). has_wrong_length k e.length) r.kind
    ∙ ap (λ (n : ℕ). has_wrong_length (kind_at place bytes) n) r.size ∙ ends.2 in
    record { ends = omega arith; long = ends.1; right = right }

tiling_inside : (bytes : List ℕ) (from : ℕ) (es : List Entry) (to : ℕ) → IsTiling bytes from es to
    → All (IsInside bytes) es
tiling_inside bytes from [] to h k d inside = absurd (omega arith)
tiling_inside bytes from (e ∷ es) to h zero d inside = record_inside bytes from e h.0
tiling_inside bytes from (e ∷ es) to h (suc k) d inside =
    tiling_inside bytes (from + e.length) es to h.1 k d (omega arith)

primary_inside : (bytes : List ℕ) (e : Entry) → 16 ≤ length bytes → IsPrimary e → IsInside bytes e
primary_inside bytes e least p =
    let here = p.here in
    let size = p.size in
    record { ends = omega arith; long = omega arith; right = ap (λ (k : ℕ). has_wrong_length k e.length) p.kind }

front_inside : (bytes : List ℕ) (es : List Entry) (to : ℕ) → 16 ≤ length bytes → IsPrefix bytes es to
    → All (IsInside bytes) es
front_inside bytes [] to least h k d inside = absurd h
front_inside bytes (e ∷ es) to least h zero d inside = primary_inside bytes e least h.0
front_inside bytes (e ∷ es) to least h (suc k) d inside = tiling_inside bytes 16 es to h.1 k d (omega arith)

pub tiled_inside : (header : Header) → IsTiled header → All (IsInside header.bytes) header.entries
tiled_inside header tiled = front_inside header.bytes header.entries (length header.bytes) tiled.least tiled.front

got : (es : List Entry) (k : ℕ) (d e : Entry) → slice_get es k ≡ Some e → get_or es k d ≡ e
got [] k d e h = absurd (cc)
got (x ∷ es) zero d e h = cc
got (x ∷ es) (suc k) d e h = got es k d e h

-- the record that was taken from a place of the records, and stands there
pub taken : (header : Header) → IsTiled header → (place : ℕ) (e : Entry) → place < length header.entries
    → e ≡ get_or header.entries place e → IsInside header.bytes e
taken header tiled place e inside is =
    subst (λ (x : Entry). IsInside header.bytes x) (sym is) (tiled_inside header tiled place e inside)

taken_is : (header : Header) (place : ℕ) (e other : Entry) → e ≡ get_or header.entries place e
    → slice_get header.entries place ≡ Some other → e ≡ other
taken_is header place e other is there = is ∙ got header.entries place e other there

module _ (own header : Header) (same : own ≡ header) (place : ℕ) (e : Entry) (is : e ≡ get_or own.entries place e) where
  pub contents_taken : (other : Entry) → slice_get header.entries place ≡ Some other
      → contents_of own.bytes e ≡ contents_of header.bytes other
  contents_taken other =
      subst (λ (h : Header). slice_get h.entries place ≡ Some other
      → contents_of own.bytes e ≡ contents_of h.bytes other) same
      (λ there. ap (λ (x : Entry). contents_of own.bytes x) (taken_is own place e other is there))

  first_by : (b : Bool) (there : Content) → b ≡ true
      → Primary (file_type header) (length header.bytes) (data_bits header)
      ≡ cond b (Primary (file_type header) (length header.bytes) (data_bits header)) there
  first_by b there h = rw h refl

  later_by : (b : Bool) (there here : Content) → b ≡ false → here ≡ cond b there here
  later_by b there here h = rw h refl

  pub first_taken : e.at ≡ 0 → (other : Entry) → slice_get header.entries place ≡ Some other
      → Primary (file_type header) (length header.bytes) (data_bits header) ≡ content_of header other
  unfolding content_of
  first_taken at_start other there =
      let one = taken_is header place e other (subst (λ (h : Header). e ≡ get_or h.entries place e) same is) there in
      first_by (eqb other.at 0) _ (eq-eqb other.at 0 (sym (ap (λ (x : Entry). x.at) one) ∙ at_start))

  pub later_taken : (e.at ≡ 0 → ⊥) → (other : Entry) → slice_get header.entries place ≡ Some other
      → content_in e (contents_of own.bytes e) ≡ content_of header other
  unfolding content_of
  later_taken not_zero other there =
      let one = taken_is header place e other (subst (λ (h : Header). e ≡ get_or h.entries place e) same is) there in
      let contents = contents_taken other there in
      let both : content_in e (contents_of own.bytes e) ≡ content_in other (contents_of header.bytes other) =
      ap (λ (x : Entry). content_in x (contents_of own.bytes e)) one
      ∙ ap (λ (bytes : List ℕ). content_in other bytes) contents in
      both ∙ later_by (eqb other.at 0) _ (content_in other (contents_of header.bytes other))
      (false_from_ne_true (eqb other.at 0) (λ h. not_zero (ap (λ (x : Entry). x.at) one ∙ eqb-true other.at 0 h)))

-- ---- searches

found_by : (P : Entry → Type 0) (test : Entry → Bool) (x : Entry) (es : List Entry) (e : Entry) (b : Bool)
    → test x ≡ b → P x → (find test es ≡ Some e → P e × (test e ≡ true))
    → cond b (Some x) (find test es) ≡ Some e → P e × (test e ≡ true)
found_by P test x es e true is px rest h =
    let same : x ≡ e = cc in
    (subst P same px, subst (λ y. test y ≡ true) same is)
found_by P test x es e false is px rest h = rest h

pub found : (P : Entry → Type 0) (test : Entry → Bool) (es : List Entry) (e : Entry) → All P es
    → find test es ≡ Some e → P e × (test e ≡ true)
found P test [] e all h = absurd (cc)
found P test (x ∷ es) e all h =
    found_by P test x es e (test x) refl (all 0 x (omega arith))
    (found P test es e (λ k d inside. all (suc k) d (omega arith))) h

not_false : (b : Bool) → not b ≡ false → b ≡ true
not_false true h = refl
not_false false h = sym h

same_by : (kind size k n : ℕ) (b : Bool) → eqb k kind ≡ b
    → ((m : ℕ) → has_wrong_length kind m ≡ not (eqb m size)) → has_wrong_length k n ≡ false
    → (eqb k kind && eqb n size) ≡ eqb k kind
same_by kind size k n true h wrong right =
    let is : k ≡ kind = eqb-true k kind h in
    let w : not (eqb n size) ≡ false = sym (wrong n) ∙ subst (λ j. has_wrong_length j n ≡ false) is right in
    let t : eqb n size ≡ true = not_false (eqb n size) w in
    rw (h, t) refl
same_by kind size k n false h wrong right = rw h refl

-- where records of a kind have one length, the first one has it
pub find_sized : (bytes : List ℕ) (kind size : ℕ) (es : List Entry)
    → ((m : ℕ) → has_wrong_length kind m ≡ not (eqb m size)) → All (IsInside bytes) es
    → find (is_sized kind size) es ≡ find (is_kind kind) es
find_sized bytes kind size [] wrong all = refl
find_sized bytes kind size (x ∷ es) wrong all =
    rw (
      same_by kind size x.kind x.length (eqb x.kind kind) refl wrong (all 0 x (omega arith)).right,
      find_sized bytes kind size es wrong (λ k d inside. all (suc k) d (omega arith)),
    ) refl

-- ---- there is one reading

entry_from : {a b c x y z : ℕ} → a ≡ x → b ≡ y → c ≡ z
    → ◌≡◌ {A = Entry} (record { kind = a; at = b; length = c }) (record { kind = x; at = y; length = z })
entry_from p q r = rw (p, q, r) refl

entry_is : (bytes : List ℕ) (place : ℕ) (e other : Entry) → IsRecord bytes place e → IsRecord bytes place other
    → e ≡ other
entry_is bytes place e other r s = entry_from (r.kind ∙ sym s.kind) (r.here ∙ sym s.here) (r.size ∙ sym s.size)

tilings_are_one : (bytes : List ℕ) (from : ℕ) (es others : List Entry) → IsTiling bytes from es (length bytes)
    → IsTiling bytes from others (length bytes) → es ≡ others
tilings_are_one bytes from [] [] h k = refl
tilings_are_one bytes from [] (o ∷ others) h k = let below = k.0.below in absurd (omega arith)
tilings_are_one bytes from (e ∷ es) [] h k = let below = h.0.below in absurd (omega arith)
tilings_are_one bytes from (e ∷ es) (o ∷ others) h k =
    let same = entry_is bytes from e o h.0 k.0 in
    let rest = tilings_are_one bytes (from + e.length) es others h.1
    (subst (λ y. IsTiling bytes (from + y.length) others (length bytes)) (sym same) k.1) in
    ap (λ y. y ∷ es) same ∙ ap (λ ys. o ∷ ys) rest

primary_is : (e other : Entry) → IsPrimary e → IsPrimary other → e ≡ other
primary_is e other p q = entry_from (p.kind ∙ sym q.kind) (p.here ∙ sym q.here) (p.size ∙ sym q.size)

fronts_are_one : (bytes : List ℕ) (es others : List Entry) → IsPrefix bytes es (length bytes)
    → IsPrefix bytes others (length bytes) → es ≡ others
fronts_are_one bytes [] others h k = absurd h
fronts_are_one bytes (e ∷ es) [] h k = absurd k
fronts_are_one bytes (e ∷ es) (o ∷ others) h k =
    ap (λ y. y ∷ es) (primary_is e o h.0 k.0) ∙ ap (λ ys. o ∷ ys) (tilings_are_one bytes 16 es others h.1 k.1)

pub headers_are_one : HeadersAreOne
headers_are_one proper header other h k =
    let bytes : header.bytes ≡ other.bytes = h.bytes ∙ sym k.bytes in
    let front : IsPrefix header.bytes other.entries
    (length header.bytes) = subst (λ (b : List ℕ). IsPrefix b other.entries (length b)) (sym bytes) k.tiled.front in
    let entries = fronts_are_one header.bytes header.entries other.entries h.tiled.front front in
    λ i. record { bytes = bytes i; entries = entries i }

no_stop : (bytes : List ℕ) (from : ℕ) (es others : List Entry) (to : ℕ) (fault : HeaderFault)
    → IsTiling bytes from es (length bytes) → IsTiling bytes from others to → to < length bytes
    → fault_at bytes to ≡ Some fault → ⊥
no_stop bytes from [] [] to fault h k before fails = omega arith
no_stop bytes from [] (o ∷ others) to fault h k before fails = let below = k.0.below in omega arith
no_stop bytes from (e ∷ es) [] to fault h k before fails =
    let sound : fault_at bytes to ≡ None = subst (λ (p : ℕ). fault_at bytes p ≡ None) k h.0.sound in cc
no_stop bytes from (e ∷ es) (o ∷ others) to fault h k before fails =
    let same = entry_is bytes from e o h.0 k.0 in
    no_stop bytes (from + e.length) es others to fault h.1
    (subst (λ y. IsTiling bytes (from + y.length) others to) (sym same) k.1) before fails

front_no_stop : (bytes : List ℕ) (es others : List Entry) (to : ℕ) (fault : HeaderFault)
    → IsPrefix bytes es (length bytes) → IsPrefix bytes others to → to < length bytes → fault_at bytes to ≡ Some fault
    → ⊥
front_no_stop bytes [] others to fault h k before fails = h
front_no_stop bytes (e ∷ es) [] to fault h k before fails = k
front_no_stop bytes (e ∷ es) (o ∷ others) to fault h k before fails =
    no_stop bytes 16 es others to fault h.1 k.1 before fails

pub headers_have_no_fault : HeadersHaveNoFault
headers_have_no_fault proper header fault h (inl first) = let sound = h.sound in cc
headers_have_no_fault proper header fault h (inr stops) =
    let s = stops.1 in
    let front : IsPrefix (file_header_bytes proper) header.entries (length (file_header_bytes proper)) =
    subst (λ (b : List ℕ). IsPrefix b header.entries (length b)) h.bytes h.tiled.front in
    front_no_stop (file_header_bytes proper) header.entries s.entries s.place fault front s.front s.before s.fails

stops_are_one : (bytes : List ℕ) (from : ℕ) (es others : List Entry) (to there : ℕ) (fault other : HeaderFault)
    → IsTiling bytes from es to → IsTiling bytes from others there
    → fault_at bytes to ≡ Some fault → fault_at bytes there ≡ Some other → fault ≡ other
stops_are_one bytes from [] [] to there fault other h k fails also =
    let one : fault_at bytes to ≡ fault_at bytes there = ap (λ (p : ℕ). fault_at bytes p) (sym h ∙ k) in cc
stops_are_one bytes from [] (o ∷ others) to there fault other h k fails also =
    let sound : fault_at bytes to ≡ None = subst (λ (p : ℕ). fault_at bytes p ≡ None) h k.0.sound in cc
stops_are_one bytes from (e ∷ es) [] to there fault other h k fails also =
    let sound : fault_at bytes there ≡ None = subst (λ (p : ℕ). fault_at bytes p ≡ None) k h.0.sound in cc
stops_are_one bytes from (e ∷ es) (o ∷ others) to there fault other h k fails also =
    let same = entry_is bytes from e o h.0 k.0 in
    stops_are_one bytes (from + e.length) es others to there fault other h.1
    (subst (λ y. IsTiling bytes (from + y.length) others there) (sym same) k.1) fails also

front_stops : (bytes : List ℕ) (es others : List Entry) (to there : ℕ) (fault other : HeaderFault)
    → IsPrefix bytes es to → IsPrefix bytes others there
    → fault_at bytes to ≡ Some fault → fault_at bytes there ≡ Some other → fault ≡ other
front_stops bytes [] others to there fault other h k fails also = absurd h
front_stops bytes (e ∷ es) [] to there fault other h k fails also = absurd k
front_stops bytes (e ∷ es) (o ∷ others) to there fault other h k fails also =
    stops_are_one bytes 16 es others to there fault other h.1 k.1 fails also

pub header_faults_are_one : HeaderFaultsAreOne
header_faults_are_one proper fault other (inl a) (inl b) = cc
header_faults_are_one proper fault other (inl a) (inr b) = let sound = b.0 in absurd (cc)
header_faults_are_one proper fault other (inr a) (inl b) = let sound = a.0 in absurd (cc)
header_faults_are_one proper fault other (inr a) (inr b) =
    let s = a.1 in
    let t = b.1 in
    front_stops (file_header_bytes proper) s.entries t.entries s.place t.place fault other s.front
    t.front s.fails t.fails

second_true : (a b : Bool) → (a && b) ≡ true → b ≡ true
second_true true b h = h
second_true false b h = absurd (cc)

pub sized_length : (kind size : ℕ) (e : Entry) → is_sized kind size e ≡ true → e.length ≡ size
sized_length kind size e h = eqb-true e.length size (second_true (eqb e.kind kind) (eqb e.length size) h)
