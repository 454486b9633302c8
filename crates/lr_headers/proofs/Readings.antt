-- The header as a function of the bytes.
use Rattle.std.proofs.Common.{◌≡◌, ◌+◌, ◌≤◌, ◌<◌, ltb, eqb, not, ◌||◌, inl, inr, ℕ, zero, suc, Bool, true, false}
use Rattle.std.proofs.Common.{List, [], ◌∷◌, length}
use Rattle.std.proofs.Common.{Option, Some, None, Result, Ok, Err, MatchResult, cond, refl, ap, arith}
use Rattle.std.proofs.lemmas.Bool.{ltb-false, ltb-true}
use Rattle.std.proofs.lemmas.List.{length-take-le}
use Rattle.lr_headers.specs.declared.entry.Entry.{Entry}
use Rattle.lr_headers.specs.declared.fault.HeaderFault.{HeaderFault}
use Rattle.lr_headers.specs.declared.fault.HeaderFault.TheVariants.{Ended, NotPrimary, Overrun}
use Rattle.lr_headers.specs.Laws.{HeadersAreRead}
use Rattle.lr_headers.specs.Headers.{header_of, header_with, record_and, record_at, records_from, unless_fault}
use Rattle.lr_headers.specs.Tiling.{Header, HasHeaderFault, IsHeaderOf, IsRecord, IsTiling, fault_at, first_fault}
use Rattle.lr_headers.specs.Tiling.{file_header_bytes, header_length, kind_at, length_at}
use Rattle.lr_headers.proofs.Tilings.{headers_are_one, headers_have_no_fault, header_faults_are_one, no_fault}
use Rattle.lr_headers.proofs.Tilings.{record_ends}

-- the records go on from a place up to another one, and not from there
record StopsFrom (bytes : List ℕ) (from : ℕ) (fault : HeaderFault) : Type 0 where
  entries : List Entry
  place : ℕ
  tiled : IsTiling bytes from entries place
  before : place < length bytes
  fails : fault_at bytes place ≡ Some fault

abbrev AreRead : List ℕ → ℕ → Result (List Entry) HeaderFault → Type 0
AreRead bytes from read = MatchResult read (λ es. IsTiling bytes from es (length bytes)) (StopsFrom bytes from)

joined : (bytes : List ℕ) (from : ℕ) → IsRecord bytes from (record_at bytes from)
    → (read : Result (List Entry) HeaderFault) → AreRead bytes (from + length_at from bytes) read
    → AreRead bytes from (record_and (record_at bytes from) read)
joined bytes from is (Ok es) rest = (is, rest)
joined bytes from is (Err fault) rest = record {
  entries = record_at bytes from ∷ rest.entries;
  place = rest.place;
  tiled = (is, rest.tiled);
  before = rest.before;
  fails = rest.fails;
}

record_is : (bytes : List ℕ) (from : ℕ) → from < length bytes → fault_at bytes from ≡ None
    → IsRecord bytes from (record_at bytes from)
record_is bytes from below sound =
    record { below = below; sound = sound; here = refl; kind = refl; size = refl }

-- what is read after a record
abbrev Rest : ℕ → List ℕ → ℕ → Type 0
Rest most bytes from = IsRecord bytes from (record_at bytes from)
    → AreRead bytes (from + length_at from bytes) (records_from most bytes (from + length_at from bytes))

records_read : (most : ℕ) (bytes : List ℕ) (from : ℕ) → from ≤ length bytes → length bytes ≤ from + most
    → AreRead bytes from (records_from most bytes from)
unfolding records_from
records_read zero bytes from within few = omega arith
records_read (suc most) bytes from within few =
    by_end (λ is. let ends = record_ends bytes from (record_at bytes from) is in
    let more = ends.1 in
    records_read most bytes (from + length_at from bytes) ends.0 (omega arith))
    (ltb from (length bytes)) refl
  where
    by_fault : Rest most bytes from → from < length bytes → (fault : Option HeaderFault) → fault_at bytes from ≡ fault
        → AreRead bytes from (unless_fault fault
        (record_and (record_at bytes from) (records_from most bytes (from + length_at from bytes))))
    by_fault rest below None sound =
        let is = record_is bytes from below sound in joined bytes from is _ (rest is)
    by_fault rest below (Some fault) fails =
        record { entries = []; place = from; tiled = refl; before = below; fails = fails }

    by_end : Rest most bytes from → (b : Bool) → ltb from (length bytes) ≡ b
        → AreRead bytes from (cond b (unless_fault (fault_at bytes from)
        (record_and (record_at bytes from) (records_from most bytes (from + length_at from bytes)))) (Ok []))
    by_end rest true h = by_fault rest (ltb-true _ _ h) (fault_at bytes from) refl
    by_end rest false h = let past = ltb-false _ _ h in omega arith

-- the bytes of a header whose first record has no fault
record IsSound (proper : List ℕ) : Type 0 where
  least : 16 ≤ length (file_header_bytes proper)
  few : length (file_header_bytes proper) ≤ 16 + length proper

third_and_fourth : (a b c d : Bool) (f g h k : HeaderFault)
    → cond a (Some f) (cond b (Some g) (cond c (Some h) (cond d (Some k) None))) ≡ None
    → (c ≡ false) × (d ≡ false)
third_and_fourth a b c d f g h k is =
    let first = no_fault a f (cond b (Some g) (cond c (Some h) (cond d (Some k) None))) is in
    let second = no_fault b g (cond c (Some h) (cond d (Some k) None)) first.1 in
    let third = no_fault c h (cond d (Some k) None) second.1 in
    let fourth = no_fault d k None third.1 in
    (third.0, fourth.0)

first_sound : (proper : List ℕ) → first_fault proper ≡ None → IsSound proper
first_sound proper sound =
    let both = third_and_fourth (ltb (length proper) 16)
    (not (eqb (kind_at 0 proper) 0) || not (eqb (length_at 0 proper) 16)) (ltb (header_length proper) 16)
    (ltb (length proper) (header_length proper)) (Ended (length proper)) NotPrimary (Overrun 0)
    (Ended (length proper)) sound in
    let enough : 16 ≤ header_length proper = ltb-false _ _ both.0 in
    let inside : header_length proper ≤ length proper = ltb-false _ _ both.1 in
    let size : length (file_header_bytes proper) ≡ header_length proper = length-take-le _ proper inside in
    record { least = omega arith; few = omega arith }

headed : (proper : List ℕ) → first_fault proper ≡ None → IsSound proper
    → (read : Result (List Entry) HeaderFault) → AreRead (file_header_bytes proper) 16 read
    → MatchResult (header_with (file_header_bytes proper) read) (IsHeaderOf proper) (HasHeaderFault proper)
headed proper sound s (Ok es) tiled = record {
  sound = sound;
  bytes = refl;
  tiled = record { least = s.least; front = (record { kind = refl; here = refl; size = refl }, tiled) };
}
headed proper sound s (Err fault) stops = inr (
  sound,
  record {
    entries = record { kind = 0; at = 0; length = 16 } ∷ stops.entries;
    place = stops.place;
    front = (record { kind = refl; here = refl; size = refl }, stops.tiled);
    before = stops.before;
    fails = stops.fails;
  },
)

pub headers_are_read : HeadersAreRead
unfolding header_of
headers_are_read proper = by_first (first_fault proper) refl
  where
    by_first : (first : Option HeaderFault) → first_fault proper ≡ first
        → MatchResult (unless_fault first
        (header_with (file_header_bytes proper) (records_from (length proper) (file_header_bytes proper) 16)))
        (IsHeaderOf proper) (HasHeaderFault proper)
    by_first None sound =
        let s = first_sound proper sound in
        headed proper sound s _ (records_read (length proper) (file_header_bytes proper) 16 s.least s.few)
    by_first (Some fault) is = inl is

module _ (proper : List ℕ) where
  the_header : (header : Header) → IsHeaderOf proper header → (read : Result Header HeaderFault)
      → MatchResult read (IsHeaderOf proper) (HasHeaderFault proper) → read ≡ Ok header
  the_header header is (Ok other) read = ap (λ (h : Header). Ok h) (headers_are_one proper other header read is)
  the_header header is (Err fault) has = absurd (headers_have_no_fault proper header fault is has)

  the_fault : (fault : HeaderFault) → HasHeaderFault proper fault → (read : Result Header HeaderFault)
      → MatchResult read (IsHeaderOf proper) (HasHeaderFault proper) → read ≡ Err fault
  the_fault fault has (Ok header) is = absurd (headers_have_no_fault proper header fault is has)
  the_fault fault has (Err other) read =
      ap (λ (f : HeaderFault). Err f) (header_faults_are_one proper other fault read has)

  pub header_is : (header : Header) → IsHeaderOf proper header → header_of proper ≡ Ok header
  header_is header is = the_header header is (header_of proper) (headers_are_read proper)

  pub fault_is : (fault : HeaderFault) → HasHeaderFault proper fault → header_of proper ≡ Err fault
  fault_is fault has = the_fault fault has (header_of proper) (headers_are_read proper)
