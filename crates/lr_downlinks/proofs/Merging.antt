-- Merges, place by place.
use Rattle.std.proofs.Common.{◌≡◌, ◌≢◌, ◌<◌, ◌≤◌, ◌+◌, ℕ, zero, suc, Bool, true, false, cond, eqb, Option, Some}
use Rattle.std.proofs.Common.{None, List, [], ◌∷◌, ◌++◌, length, take, All, refl, sym, ap, ◌∙◌, subst, ◌⊎◌, inl}
use Rattle.std.proofs.Common.{inr, ⊎_elim, get_or, arith, append_assoc}
use Rattle.std.specs.Prelude.{slice_index, slice_get}
use Rattle.std.specs.Option.{option_to_list}
use Rattle.std.proofs.lemmas.Bool.{cases_eq, cases_lt, eq-eqb, ne_eqb}
use Rattle.std.proofs.lemmas.Bool.Decides.{eqb_tells}
use Rattle.std.proofs.lemmas.List.{append-nil, take_more}
use Rattle.std.proofs.lemmas.List.Elements.{All-push}
use Rattle.std.proofs.lemmas.List.Sums.{sum_by-append, sum_by-cons}
use Rattle.std.proofs.lemmas.Option.{slice_get_cases, slice_get_within}
use Rattle.lr_bits.specs.declared.placed.Placed.{Placed}
use Rattle.lr_downlinks.specs.Receipts.{EachHasReceipt}
use Rattle.lr_downlinks.specs.Merge.{IsNextOf, IsOrder, merge, merge_after, times_in_order}

-- ---- how often a downlink stands in an order

pub times-append : (d : ℕ) (order more : List ℕ)
    → times_in_order d (order ++ more) ≡ times_in_order d order + times_in_order d more
times-append d order more = sum_by-append (λ one. cond (eqb one d) 1 0) order more

abbrev tick : Bool → ℕ
tick b = cond b 1 0

pub times-one : (d : ℕ) → times_in_order d (d ∷ []) ≡ 1
times-one d = omega (arith, sum_by-cons (λ one. tick (eqb one d)) d [], ap tick (eq-eqb d d refl))

pub times-other : (d e : ℕ) → e ≢ d → times_in_order d (e ∷ []) ≡ 0
times-other d e other = omega (arith, sum_by-cons (λ one. tick (eqb one d)) e [], ap tick (ne_eqb e d other))

-- one place more
pub times-same : (d : ℕ) (order : List ℕ) → times_in_order d (order ++ d ∷ []) ≡ times_in_order d order + 1
times-same d order = omega (arith, times-append d order (d ∷ []), times-one d)

pub times-stays : (d e : ℕ) (order : List ℕ) → e ≢ d → times_in_order d (order ++ e ∷ []) ≡ times_in_order d order
times-stays d e order other = omega (arith, times-append d order (e ∷ []), times-other d e other)

pub times-later : (d : ℕ) (order more : List ℕ) → times_in_order d order ≤ times_in_order d (order ++ more)
times-later d order more = omega (arith, times-append d order more)

-- ---- one file more

pub merge_after-push : (files : ℕ → List Placed) (before order : List ℕ) (d : ℕ)
    → merge_after files before (order ++ d ∷ [])
    ≡ merge_after files before order ++ option_to_list (slice_get (files d) (times_in_order d (before ++ order)))
merge_after-push files before [] d =
    let next : List ℕ → List Placed = λ front. option_to_list (slice_get (files d) (times_in_order d front)) in
    append-nil (next before) ∙ ap next (sym (append-nil before))
merge_after-push files before (e ∷ order) d =
    let one = option_to_list (slice_get (files e) (times_in_order e before)) in
    let front = before ++ e ∷ [] in
    let next : List ℕ → List Placed = λ xs. option_to_list (slice_get (files d) (times_in_order d xs)) in
    ap (λ (l : List Placed). one ++ l) (merge_after-push files front order d)
    ∙ sym (append_assoc one (merge_after files front order) (next (front ++ order)))
    ∙ ap (λ (l : List Placed). (one ++ merge_after files front order) ++ l)
    (ap next (append_assoc before (e ∷ []) order))

pub merge-push : (count : ℕ) (files : ℕ → List Placed) (order : List ℕ) (d : ℕ) (placed : Placed)
    → IsNextOf count files order d placed → merge files (order ++ d ∷ []) ≡ merge files order ++ placed ∷ []
unfolding merge
merge-push count files order d placed next =
    merge_after-push files [] order d
    ∙ ap (λ (o : Option Placed). merge_after files [] order ++ option_to_list o) next.next

pub merge-none : (files : ℕ → List Placed) → merge files [] ≡ []
unfolding merge
merge-none files = refl

-- the file of each place, where some came before
record Places (files : ℕ → List Placed) (before order : List ℕ) : Type 0 where
  all : length (merge_after files before order) ≡ length order
  each : (at : ℕ) → at < length order
      → slice_get (merge_after files before order) at
      ≡ slice_get (files (slice_index order at)) (times_in_order (slice_index order at) (before ++ take at order))

place_more : (files : ℕ → List Placed) (before : List ℕ) (e : ℕ) (order : List ℕ)
    → ((x : Placed) × (times_in_order e before < length (files e))
    × (slice_get (files e) (times_in_order e before) ≡ Some x)
    × (get_or (files e) (times_in_order e before) x ≡ x))
    ⊎ ((length (files e) ≤ times_in_order e before) × (slice_get (files e) (times_in_order e before) ≡ None))
    → times_in_order e before < length (files e) → Places files (before ++ e ∷ []) order
    → Places files before (e ∷ order)
place_more files before e order (inr none) here rest = absurd (omega (arith, none.0, here))
place_more files before e order (inl found) here rest =
    let x = found.0 in
    let after = merge_after files (before ++ e ∷ []) order in
    let whole : merge_after files before (e ∷ order) ≡ x ∷ after =
    ap (λ (o : Option Placed). option_to_list o ++ after) found.2 in
    record {
      all = ap (λ (l : List Placed). length l) whole ∙ ap suc rest.all;
      each = λ at inside. ap (λ (l : List Placed). slice_get l at) whole ∙ at_place at inside;
    }
  where
    at_place : (at : ℕ) → at < suc (length order)
        → slice_get (found.0 ∷ merge_after files (before ++ e ∷ []) order) at
        ≡ slice_get (files (slice_index (e ∷ order) at))
        (times_in_order (slice_index (e ∷ order) at) (before ++ take at (e ∷ order)))
    at_place zero inside =
        sym found.2 ∙ ap (λ (l : List ℕ). slice_get (files e) (times_in_order e l)) (sym (append-nil before))
    at_place (suc k) inside =
        rest.each k (omega (arith, inside))
        ∙ ap (λ (l : List ℕ). slice_get (files (slice_index order k)) (times_in_order (slice_index order k) l))
        (append_assoc before (e ∷ []) (take k order))

module _ (count : ℕ) (files : ℕ → List Placed) where
  pub order_none : IsOrder count files []
  order_none = record { known = λ k d inside. absurd (omega (arith, inside)); few = λ d known. omega arith }

  -- the next file of a downlink goes to the end
  pub order_more : (order : List ℕ) (d : ℕ) (placed : Placed) → IsOrder count files order
      → IsNextOf count files order d placed → IsOrder count files (order ++ d ∷ [])
  order_more order d placed is next = record {
    known = All-push (λ e. e < count) order d is.known next.known;
    few = λ e known. ⊎_elim
        (λ (t : (eqb d e ≡ true) × (d ≡ e)).
        subst (λ (k : ℕ). times_in_order k (order ++ d ∷ []) ≤ length (files k)) t.1
        (omega (arith, times-same d order, slice_get_within (files d) (times_in_order d order) placed next.next)))
        (λ (t : (eqb d e ≡ false) × (d ≢ e)). omega (arith, times-stays e d order t.1, is.few e known))
        (eqb_tells d e);
  }

  abbrev Fits : List ℕ → List ℕ → Type 0
  Fits before order = (d : ℕ) → d < count → times_in_order d (before ++ order) ≤ length (files d)

  places : (before order : List ℕ) → All (λ d. d < count) order → Fits before order → Places files before order
  places before [] known fits = record { all = refl; each = λ at inside. absurd (omega (arith, inside)) }
  places before (e ∷ order) known fits =
      let moved : (before ++ e ∷ []) ++ order ≡ before ++ e ∷ order = append_assoc before (e ∷ []) order in
      let rest = places (before ++ e ∷ []) order (λ k d inside. known (suc k) d (omega (arith, inside)))
      (λ d there. subst (λ (l : List ℕ). times_in_order d l ≤ length (files d)) (sym moved) (fits d there)) in
      let here : times_in_order e before < length (files e) =
      omega (
        arith,
        fits e (known 0 e (omega arith)),
        ap (times_in_order e) moved,
        times-append e (before ++ e ∷ []) order,
        times-same e before,
      ) in
      place_more files before e order (slice_get_cases (files e) (times_in_order e before)).1 here rest

  of_order : (order : List ℕ) → IsOrder count files order → Places files [] order
  of_order order is = places [] order is.known is.few

  pub length-merge : (order : List ℕ) → IsOrder count files order → length (merge files order) ≡ length order
  unfolding merge
  length-merge order is = (of_order order is).all

  pub get-merge : (order : List ℕ) → IsOrder count files order → (at : ℕ) → at < length order
      → slice_get (merge files order) at
      ≡ slice_get (files (slice_index order at)) (times_in_order (slice_index order at) (take at order))
  unfolding merge
  get-merge order is at inside = (of_order order is).each at inside

  -- there is one
  pub has_file : (order : List ℕ) → IsOrder count files order → (at : ℕ) → at < length order
      → (placed : Placed) × (slice_get (merge files order) at ≡ Some placed)
  has_file order is at inside =
      ⊎_elim
      (λ (t : (x : Placed) × (at < length (merge files order)) × (slice_get (merge files order) at ≡ Some x)
      × (get_or (merge files order) at x ≡ x)). (t.0, t.2))
      (λ (t : (length (merge files order) ≤ at) × (slice_get (merge files order) at ≡ None)).
      absurd (omega (arith, t.0, length-merge order is, inside)))
      (slice_get_cases (merge files order) at).1

-- ---- receipts

-- a place after some others at which this downlink stands, and before which it stands this many times
abbrev FoundAt : ℕ → ℕ → List ℕ → List ℕ → Type 0
FoundAt d place before order =
    (at : ℕ) × (at < length order) × (slice_index order at ≡ d) × (times_in_order d (before ++ take at order) ≡ place)

found_later : (d place : ℕ) (before : List ℕ) (e : ℕ) (order : List ℕ) → FoundAt d place (before ++ e ∷ []) order
    → FoundAt d place before (e ∷ order)
found_later d place before e order found = (
  suc found.0,
  omega (arith, found.1),
  found.2,
  ap (times_in_order d) (sym (append_assoc before (e ∷ []) (take found.0 order))) ∙ found.3,
)

found_in : (d place : ℕ) (before : List ℕ) (e : ℕ) (order : List ℕ) → times_in_order d before ≤ place
    → ((eqb e d ≡ true) × (e ≡ d)) ⊎ ((eqb e d ≡ false) × (e ≢ d))
    → (times_in_order d before ≡ place) ⊎ (times_in_order d before ≡ place → ⊥)
    → (times_in_order d (before ++ e ∷ []) ≤ place → FoundAt d place (before ++ e ∷ []) order)
    → FoundAt d place before (e ∷ order)
found_in d place before e order low (inl same) (inl here) rest =
    (0, omega arith, same.1, ap (times_in_order d) (append-nil before) ∙ here)
found_in d place before e order low (inl same) (inr there) rest =
    found_later d place before e order
    (rest (omega (arith, ap (λ (k : ℕ). times_in_order d (before ++ k ∷ [])) same.1, times-same d before, low, there)))
found_in d place before e order low (inr other) which rest =
    found_later d place before e order (rest (omega (arith, times-stays d e before other.1, low)))

-- where it stands before fewer times, and in all more
finds_place : (d place : ℕ) (before order : List ℕ) → times_in_order d before ≤ place
    → place < times_in_order d (before ++ order)
    → FoundAt d place before order
finds_place d place before [] low high = absurd (omega (arith, ap (times_in_order d) (append-nil before), low, high))
finds_place d place before (e ∷ order) low high =
    found_in d place before e order low (eqb_tells e d) (cases_eq (times_in_order d before) place)
    (λ low'. finds_place d place (before ++ e ∷ []) order low'
    (omega (arith, ap (times_in_order d) (append_assoc before (e ∷ []) order), high)))

pub each_receipt : (base : ℕ) (order : List ℕ) → EachHasReceipt base order
each_receipt base order d place inside =
    let found = finds_place d place [] order (omega arith) inside in (
      found.0,
      found.1,
      (λ i. record {
        downlink = found.2 i;
        place = times_in_order (found.2 i) (take found.0 order);
        number = base + found.0;
      })
          ∙ ap (λ (k : ℕ). record { downlink = d; place = k; number = base + found.0 }) found.3,
    )

-- later places count no fewer
times-take : (d : ℕ) (order : List ℕ) (i j : ℕ) → i ≤ j
    → times_in_order d (take i order) ≤ times_in_order d (take j order)
times-take d order zero j le = omega arith
times-take d [] (suc i) zero le = omega arith
times-take d [] (suc i) (suc j) le = omega arith
times-take d (e ∷ order) (suc i) zero le = absurd (omega (arith, le))
times-take d (e ∷ order) (suc i) (suc j) le =
    omega (
      arith,
      times-append d (e ∷ []) (take i order),
      times-append d (e ∷ []) (take j order),
      times-take d order i j (omega (arith, le)),
    )

-- and one more after the downlink's own
times-after : (d : ℕ) (order : List ℕ) (i j : ℕ) → i < length order → slice_index order i ≡ d → i < j
    → times_in_order d (take i order) < times_in_order d (take j order)
times-after d order i j inside is less =
    omega (
      arith,
      times-take d order (i + 1) j (omega (arith, less)),
      ap (times_in_order d) (take_more order i 0 inside),
      ap (λ (k : ℕ). times_in_order d (take i order ++ k ∷ [])) is,
      times-same d (take i order),
    )

pub places_differ : (order : List ℕ) (one other : ℕ) → one < length order → other < length order
    → slice_index order one ≡ slice_index order other
    → times_in_order (slice_index order one) (take one order)
    ≡ times_in_order (slice_index order other) (take other order)
    → one ≡ other
places_differ order one other inside inside' same place =
    let d = slice_index order other in
    let place' : times_in_order d (take one order) ≡ times_in_order d (take other order) =
    ap (λ (k : ℕ). times_in_order k (take one order)) (sym same) ∙ place in
    ⊎_elim
    (λ (e : one ≡ other). e)
    (λ (apart : one ≢ other).
    ⊎_elim
    (λ (less : one < other). absurd (omega (arith, times-after d order one other inside same less, place')))
    (λ (more : other ≤ one).
    absurd (omega (arith, times-after d order other one inside' refl (omega (arith, more, apart)), place')))
    (cases_lt one other))
    (cases_eq one other)
