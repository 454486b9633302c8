-- That each list of bytes has a way, or a place at which it is no shelf.
use Rattle.std.proofs.Common.{◌≡◌, ◌⊎◌, inl, inr, ◌<◌, ◌≤◌, ◌+◌, ◌^◌, Bool, true, false, ℕ, zero, suc, List, [], ◌∷◌}
use Rattle.std.proofs.Common.{◌++◌, length, slice_index, take, drop, refl, sym, ap, ◌∙◌, subst, arith}
use Rattle.std.specs.Str.{bytes_eq}
use Rattle.std.proofs.lemmas.Bool.{both_ways, cases_Bool, cases_eq, cases_lt}
use Rattle.std.proofs.lemmas.Slice.Eq.{bytes_eq-Decides}
use Rattle.byteorder.specs.Endian.{big_number}
use Rattle.lr_shelf_format.specs.Header.{HasHeader, header_bytes}
use Rattle.lr_shelf_format.specs.Items.{Begins, IsProper, MayFollow, discard_bytes, entry_count, extent_of, is_gone}
use Rattle.lr_shelf_format.specs.Record.{IsHead, head_of}
use Rattle.lr_shelf_format.specs.Walk.{IsBrokenAt, IsOpen, IsPath, IsWalk, LeadsToNextGate, Step, heads_of, next_gate}
use Rattle.lr_shelf_format.specs.Way.{IsNoShelfAt, IsWay, Way, entries_on}
use Rattle.lr_shelf_format.specs.declared.header.TheConstants.{MOST_CAPACITY}
use Rattle.lr_shelf_format.specs.declared.item.ItemHead.{ItemHead}
use Rattle.lr_shelf_format.specs.declared.item.ItemHead.TheVariants.{Old, Add, Discard}
use Rattle.lr_shelf_format.specs.declared.record.RecordHead.{RecordHead}
use Rattle.lr_shelf_format.proofs.HeaderLemmas.{capacity_in}
use Rattle.lr_shelf_format.proofs.ItemLemmas.{begun_add, begun_discard, begun_old, head_is, number_begun}
use Rattle.lr_shelf_format.proofs.WalkLemmas.{IsEnd, IsPath-push, IsProper-push, heads_of-push}

-- ---- what holds or doesn't

abbrev pub Known : Type 0 → Type 0
Known P = P ⊎ (P → ⊥)

pub known_le : (a b : ℕ) → Known (a ≤ b)
known_le a b = elim (cases_lt b a) [ inl less ↦ inr (λ le. omega (arith, less, le)) | inr le ↦ inl le ]

known_lt : (a b : ℕ) → Known (a < b)
known_lt a b = elim (cases_lt a b) [ inl less ↦ inl less | inr le ↦ inr (λ less. omega (arith, less, le)) ]

known_false : (b : Bool) → Known (b ≡ false)
known_false true = inr (λ is. both_ways true is refl)
known_false false = inl refl

known_same : (xs ys : List ℕ) → Known (xs ≡ ys)
known_same xs ys = elim (cases_Bool (bytes_eq xs ys)) [
  | inl same ↦ inl ((bytes_eq-Decides xs ys).0 same)
  | inr other ↦ inr (λ is. both_ways (bytes_eq xs ys) other ((bytes_eq-Decides xs ys).1 is))
]

pub known_both : {P Q : Type 0} → Known P → Known Q → Known (P × Q)
known_both (inl p) (inl q) = inl (p, q)
known_both (inl p) (inr never) = inr (λ both. never both.1)
known_both (inr never) (inl q) = inr (λ both. never both.0)
known_both (inr never) (inr never') = inr (λ both. never both.0)

pub known_as : {P Q : Type 0} → (P → Q) → (Q → P) → Known P → Known Q
known_as to from (inl p) = inl (to p)
known_as to from (inr never) = inr (λ q. never (from q))

-- ---- the header

module _ (bytes : List ℕ) where
  -- the number that stands where a header has the capacity
  there : ℕ
  there = big_number 8 (drop 9 bytes)

  -- a header for that number, of this version
  Stands : ℕ → Type 0
  Stands version = ((20 ≤ there) × (there ≤ MOST_CAPACITY)) × ((20 ≤ length bytes)
      × (take 19 bytes ≡ header_bytes version there))

  known_standing : (version : ℕ) → Known (Stands version)
  unfolding Stands
  known_standing version =
      known_both (known_both (known_le 20 there) (known_le there MOST_CAPACITY))
      (known_both (known_le 20 (length bytes)) (known_same (take 19 bytes) (header_bytes version there)))

  has_header : (version : ℕ) → (version ≡ 1) ⊎ (version ≡ 2) → Stands version → HasHeader bytes there
  unfolding Stands
  has_header version known stands = record {
    version = version;
    known = known;
    allowed = record { least = stands.0.0; most = stands.0.1 };
    whole = stands.1.0;
    stands = stands.1.1;
  }

  stands_there : (capacity : ℕ) → (has : HasHeader bytes capacity) → Stands has.version
  unfolding Stands there
  stands_there capacity has =
      let same = capacity_in bytes capacity has in (
        (omega (arith, same, has.allowed.least), omega (arith, same, has.allowed.most)),
        (has.whole, has.stands ∙ ap (header_bytes has.version) (sym same)),
      )

  no_version : (capacity : ℕ) → (Stands 1 → ⊥) → (Stands 2 → ⊥) → HasHeader bytes capacity → ⊥
  no_version capacity none none' has = elim has.known [
    | inl one ↦ none (subst Stands one (stands_there capacity has))
    | inr two ↦ none' (subst Stands two (stands_there capacity has))
  ]

  some_header : ((capacity : ℕ) × HasHeader bytes capacity) ⊎ ((capacity : ℕ) → HasHeader bytes capacity → ⊥)
  some_header = elim (known_standing 1) [
    | inl stands ↦ inl (there, has_header 1 (inl refl) stands)
    | inr none ↦ elim (known_standing 2) [
      | inl stands ↦ inl (there, has_header 2 (inr refl) stands)
      | inr none' ↦ inr (λ capacity has. no_version capacity none none' has)
    ]
  ]

-- ---- what bytes begin

known_head : (head : RecordHead) → Known (IsHead head)
known_head head = known_as
    (λ parts. record {
      channel = parts.0.0;
      application = parts.0.1;
      some = parts.1.0.0;
      few = parts.1.0.1;
      least = parts.1.1.0;
      most = parts.1.1.1;
    })
    (λ is. ((is.channel, is.application), ((is.some, is.few), (is.least, is.most))))
    (known_both (known_both (known_lt head.vc _) (known_lt head.apid _))
    (known_both (known_both (known_le 1 head.packets) (known_le head.packets _))
    (known_both (known_le _ head.bytes) (known_le head.bytes _))))

-- an item, or none
abbrev pub IsBegun : List ℕ → Type 0
IsBegun xs = ((head : ItemHead) × Begins xs head) ⊎ ((head : ItemHead) → Begins xs head → ⊥)

discard_fits : (xs : List ℕ) (head : ItemHead) → Begins xs head → slice_index xs 0 ≡ 0x81
    → big_number 8 (drop 1 xs) < 2 ^ 64
discard_fits xs (Old head) begins first =
    absurd (omega (arith, begins.0.channel, ap (λ (h : RecordHead). h.vc) begins.1, first))
discard_fits xs (Add head) begins first = absurd (omega (arith, first, begins.0))
discard_fits xs (Discard number) begins first =
    subst (λ n. n < 2 ^ 64) (sym (number_begun xs number begins.0 begins.1)) begins.0

some_add : (xs : List ℕ) → slice_index xs 0 ≡ 0x80 → IsBegun xs
some_add xs first = elim (known_head (head_of (drop 1 xs))) [
  | inl is ↦ inl (Add (head_of (drop 1 xs)), (first, is, refl))
  | inr never ↦ inr (λ head begins. never (begun_add xs head begins first))
]

some_discard : (xs : List ℕ) → slice_index xs 0 ≡ 0x81 → IsBegun xs
some_discard xs first =
    let number = big_number 8 (drop 1 xs) in
    elim (known_both (known_lt number (2 ^ 64)) (known_same (take 11 xs) (discard_bytes number))) [
      | inl is ↦ inl (Discard number, (is.0, is.1))
      | inr never ↦ inr (λ head begins. never (discard_fits xs head begins first, begun_discard xs head begins first))
    ]

some_old : (xs : List ℕ) → (slice_index xs 0 ≡ 0x80 → ⊥) → (slice_index xs 0 ≡ 0x81 → ⊥) → IsBegun xs
some_old xs no_add no_discard = elim (known_head (head_of xs)) [
  | inl is ↦ inl (Old (head_of xs), (is, refl))
  | inr never ↦ inr (λ head begins. never (begun_old xs head begins no_add no_discard))
]

pub some_begun : (xs : List ℕ) → IsBegun xs
some_begun xs = elim (cases_eq (slice_index xs 0) 0x80) [
  | inl first ↦ some_add xs first
  | inr no_add ↦ elim (cases_eq (slice_index xs 0) 0x81) [
    | inl first ↦ some_discard xs first
    | inr no_discard ↦ some_old xs no_add no_discard
  ]
]

known_following : (heads : List ItemHead) (head : ItemHead) → Known (MayFollow heads head)
known_following heads (Old head) = inl tt
known_following heads (Add head) = inl tt
known_following heads (Discard number) =
    known_both (known_lt number (entry_count heads)) (known_false (is_gone heads number))

-- ---- the walk

step_at : ℕ → ItemHead → Step
step_at gate head = record { gate = gate; head = head }

module _ (bytes : List ℕ) where
  -- a step from this place, after these heads, or none
  abbrev GoesOn : List ItemHead → ℕ → Type 0
  GoesOn heads at =
      ((head : ItemHead) × LeadsToNextGate bytes (record { gate = at; head = head }) × MayFollow heads head)
      ⊎ IsEnd bytes heads at

  ends_there : (heads : List ItemHead) (at : ℕ) (head : ItemHead) → Begins (drop (at + 1) bytes) head
      → ((next_gate (record { gate = at; head = head }) < length bytes) × MayFollow heads head → ⊥)
      → IsEnd bytes heads at
  ends_there heads at head begins never other leads may =
      let same : other ≡ head = head_is (drop (at + 1) bytes) other head leads.begins begins in
      never (subst (λ h. (at + 1 + extent_of h < length bytes) × MayFollow heads h) same (leads.inside, may))

  goes_on : (heads : List ItemHead) (at : ℕ) → IsOpen bytes at → GoesOn heads at
  goes_on heads at opened = elim (some_begun (drop (at + 1) bytes)) [
    | inr none ↦ inr (λ head leads may. none head leads.begins)
    | inl found ↦
        elim (known_both (known_lt (at + 1 + extent_of found.0) (length bytes)) (known_following heads found.0)) [
          | inl may ↦ inl (found.0, record { is_open = opened; begins = found.1; inside = may.0 }, may.1)
          | inr never ↦ inr (ends_there heads at found.0 found.1 never)
        ]
  ]

  -- a walk, or a place where it is broken
  abbrev Walks : Type 0
  Walks = ((steps : List Step) × (last : ℕ) × IsWalk bytes steps last) ⊎ ((at : ℕ) × IsBrokenAt bytes at)

  walks : (left : ℕ) (steps : List Step) (at : ℕ) → IsPath bytes 19 steps at → IsProper (heads_of steps)
      → at < length bytes → length bytes ≤ at + left → Walks
  walks zero steps at path proper inside enough = absurd (omega (arith, inside, enough))
  walks (suc left) steps at path proper inside enough = elim (cases_eq (slice_index bytes at) 1) [
    | inr closed ↦ inl (steps, at, record { path = path; proper = proper; inside = inside; closed = closed })
    | inl opened ↦ elim (goes_on (heads_of steps) at opened) [
      | inr ends ↦ inr (at, record { steps = steps; path = path; proper = proper; is_open = opened; broken = ends })
      | inl on ↦
          let step : Step = record { gate = at; head = on.0 } in
          walks left (steps ++ step ∷ []) (next_gate step)
          (IsPath-push bytes 19 steps step path on.1)
          (subst IsProper (sym (heads_of-push steps step)) (IsProper-push (heads_of steps) on.0 proper on.2))
          on.1.inside
          (omega (arith, enough))
    ]
  ]

  pub some_way : ((way : Way) × IsWay bytes way) ⊎ ((at : ℕ) × IsNoShelfAt bytes at)
  some_way = elim (some_header bytes) [
    | inr none ↦ inr (0, inl (refl, none))
    | inl has ↦
        elim (walks (length bytes) [] 19 refl tt (omega (arith, has.1.whole)) (omega arith)) [
          | inr broken ↦ inr (broken.0, inr ((has.0, has.1), broken.1))
          | inl walk ↦
              inl (
                record { capacity = has.0; entries = entries_on walk.0; end = walk.1 + 1 },
                record {
                  steps = walk.0;
                  last = walk.1;
                  header = has.1;
                  walk = walk.2;
                  entries = refl;
                  end = refl;
                },
              )
        ]
  ]
