-- The steps of the elimination keep what a matrix sends to 0.
use Rattle.std.proofs.Common.{◌≡◌, ◌≢◌, ℕ, ◌+◌, ◌<◌, ◌≤◌, ◌==◌, List, [], length, slice_index, slice_set}
use Rattle.std.proofs.Common.{if◌then◌else◌, refl, sym, ap, ◌∙◌, subst, arith, inl, inr}
use Rattle.std.specs.Int.Bits.{bit_xor, xor_self, xor_zero_r, xor_lt}
use Rattle.std.proofs.lemmas.Bool.{cases_eq, cases_lt, eq-eqb}
use Rattle.std.proofs.lemmas.Bool.Decides.{eqb_tells}
use Rattle.std.proofs.lemmas.List.{get_or-set_same, get_or-set_other}
use Rattle.std.proofs.Math.ListN.{length-set}
use Rattle.lr_gf.specs.Sums.{sum_of}
use Rattle.lr_gf.specs.Field.{times}
use Rattle.lr_gf.specs.Systems.{entry, AreElements, IsInKernel}
use Rattle.lr_gf.specs.RowOperations.{IsEquivalent, IsPivotStep, RowMove, moved_row, cleared_column}
use Rattle.lr_gf.proofs.Laws.{below, commute, group, times-add-left, times-zero-right, one-times, linear-times-right}
use Rattle.lr_gf.proofs.SumLaws.{sum_of-same, sum_of-add, sum_of-linear, sum_of-lt}

-- a test of two numbers, decided
pub if_same : {X : Type 0} (a b : ℕ) (x y : X) → a ≡ b → (if a == b then x else y) ≡ x
if_same a b x y e = ap (λ t. if t then x else y) (eq-eqb a b e)

pub if_other : {X : Type 0} (a b : ℕ) (x y : X) → a ≢ b → (if a == b then x else y) ≡ y
if_other a b x y e = elim (eqb_tells a b) [ inl h ↦ absurd (e h.1) | inr h ↦ ap (λ t. if t then x else y) h.0 ]

-- the sum of a row and a multiple of another one
sum_combined : (columns f : ℕ) (r s x : ℕ → ℕ)
    → sum_of columns (λ k. times (bit_xor (r k) (times f (s k))) (x k))
    ≡ bit_xor (sum_of columns (λ k. times (r k) (x k))) (times f (sum_of columns (λ k. times (s k) (x k))))
sum_combined columns f r s x =
    sum_of-same columns (λ k. times (bit_xor (r k) (times f (s k))) (x k))
    (λ k. bit_xor (times (r k) (x k)) (times f (times (s k) (x k))))
    (λ k h. times-add-left (r k) (times f (s k)) (x k) ∙ ap (bit_xor (times (r k) (x k))) (group f (s k) (x k)))
    ∙ sum_of-add columns (λ k. times (r k) (x k)) (λ k. times f (times (s k) (x k)))
    ∙ ap (bit_xor (sum_of columns (λ k. times (r k) (x k))))
    (sum_of-linear columns (times f) (λ k. times (s k) (x k)) (linear-times-right f))

-- a multiple of a row
sum_scaled : (columns f : ℕ) (s x : ℕ → ℕ)
    → sum_of columns (λ k. times (times f (s k)) (x k)) ≡ times f (sum_of columns (λ k. times (s k) (x k)))
sum_scaled columns f s x =
    sum_of-same columns (λ k. times (times f (s k)) (x k)) (λ k. times f (times (s k) (x k)))
    (λ k h. group f (s k) (x k))
    ∙ sum_of-linear columns (times f) (λ k. times (s k) (x k)) (linear-times-right f)

pub equivalent-refl : (rows columns : ℕ) (m : ℕ → ℕ → ℕ) → IsEquivalent rows columns m m
equivalent-refl rows columns m = record { to = λ x h. h; from = λ x h. h }

pub equivalent-trans : (rows columns : ℕ) (m n o : ℕ → ℕ → ℕ) → IsEquivalent rows columns m n
    → IsEquivalent rows columns n o → IsEquivalent rows columns m o
equivalent-trans rows columns m n o p q = record { to = λ x h. q.to x (p.to x h); from = λ x h. p.from x (q.from x h) }

-- clearing a column keeps what is sent to 0, both ways
pub cleared_column-to : (rows columns p c : ℕ) (m n : ℕ → ℕ → ℕ) → rows ≤ 16 → columns ≤ 17 → p < rows
    → ((i k : ℕ) → i < 16 → k < 17 → n i k ≡ cleared_column p c m i k)
    → (x : ℕ → ℕ) → IsInKernel rows columns m x → IsInKernel rows columns n x
cleared_column-to rows columns p c m n hr hc hp e x h = record {
  sent = λ i l.
      elim (cases_eq i p) [
        | inl q ↦
            sum_of-same columns (λ k. times (n i k) (x k)) (λ k. times (m i k) (x k))
            (λ k j. ap (λ z. times z (x k)) (e i k (omega arith) (omega arith)
            ∙ if_same i p (m i k) (bit_xor (m i k) (times (m i c) (m p k))) q))
            ∙ h.sent i l
        | inr q ↦
            sum_of-same columns (λ k. times (n i k) (x k)) (λ k. times (bit_xor (m i k) (times (m i c) (m p k))) (x k))
            (λ k j. ap (λ z. times z (x k)) (e i k (omega arith) (omega arith)
            ∙ if_other i p (m i k) (bit_xor (m i k) (times (m i c) (m p k))) q))
            ∙ sum_combined columns (m i c) (m i) (m p) x
            ∙ ap (λ z. bit_xor z (times (m i c) (sum_of columns (λ k. times (m p k) (x k))))) (h.sent i l)
            ∙ ap (times (m i c)) (h.sent p hp) ∙ times-zero-right (m i c)
      ];
}

pub cleared_column-from : (rows columns p c : ℕ) (m n : ℕ → ℕ → ℕ) → rows ≤ 16 → columns ≤ 17 → p < rows
    → ((i k : ℕ) → i < 16 → k < 17 → n i k ≡ cleared_column p c m i k)
    → (x : ℕ → ℕ) → IsInKernel rows columns n x → IsInKernel rows columns m x
cleared_column-from rows columns p c m n hr hc hp e x h =
    let pivot : sum_of columns (λ k. times (m p k) (x k)) ≡ 0 =
    sum_of-same columns (λ k. times (m p k) (x k)) (λ k. times (n p k) (x k))
    (λ k j. ap (λ z. times z (x k))
    (sym (e p k (omega arith) (omega arith) ∙ if_same p p (m p k) (bit_xor (m p k) (times (m p c) (m p k))) refl)))
    ∙ h.sent p hp in
    record {
      sent = λ i l.
          elim (cases_eq i p) [
            | inl q ↦ subst (λ (j : ℕ). sum_of columns (λ k. times (m j k) (x k)) ≡ 0) (sym q) pivot
            | inr q ↦
                sym (xor_zero_r (sum_of columns (λ k. times (m i k) (x k))))
                ∙ ap (bit_xor (sum_of columns (λ k. times (m i k) (x k))))
                (sym (ap (times (m i c)) pivot ∙ times-zero-right (m i c)))
                ∙ sym (sum_combined columns (m i c) (m i) (m p) x)
                ∙ sym (sum_of-same columns (λ k. times (n i k) (x k))
                (λ k. times (bit_xor (m i k) (times (m i c) (m p k))) (x k))
                (λ k j. ap (λ z. times z (x k)) (e i k (omega arith) (omega arith)
                ∙ if_other i p (m i k) (bit_xor (m i k) (times (m i c) (m p k))) q)))
                ∙ h.sent i l
          ];
    }

abbrev pub row_move : ℕ → ℕ → ℕ → RowMove
row_move from to factor = record { from = from; to = to; factor = factor }

-- the entries of the row that `moved_row` puts at `to`, and of the others
moved_row-there : (from to f : ℕ) (m : ℕ → ℕ → ℕ) (k : ℕ) → moved_row (row_move from to f) m to k ≡ times f (m from k)
moved_row-there from to f m k = if_same to to (times f (m from k)) (if to == from then m to k else m to k) refl

moved_row-swapped : (from to f : ℕ) (m : ℕ → ℕ → ℕ) (k : ℕ) → from ≢ to
    → moved_row (row_move from to f) m from k ≡ m to k
moved_row-swapped from to f m k d =
    if_other from to (times f (m from k)) (if from == from then m to k else m from k) d
    ∙ if_same from from (m to k) (m from k) refl

moved_row-elsewhere : (from to f : ℕ) (m : ℕ → ℕ → ℕ) (i k : ℕ) → i ≢ to → i ≢ from
    → moved_row (row_move from to f) m i k ≡ m i k
moved_row-elsewhere from to f m i k d e =
    if_other i to (times f (m from k)) (if i == from then m to k else m i k) d ∙ if_other i from (m to k) (m i k) e

rows_alike : (columns : ℕ) (r s x : ℕ → ℕ) → ((k : ℕ) → k < columns → r k ≡ s k)
    → sum_of columns (λ k. times (r k) (x k)) ≡ sum_of columns (λ k. times (s k) (x k))
rows_alike columns r s x h = sum_of-same columns (λ k. times (r k) (x k)) (λ k. times (s k) (x k))
    (λ k l. ap (λ z. times z (x k)) (h k l))

-- one way through `moved_row`, and back
pub moved_row-to : (rows columns from to f : ℕ) (m n : ℕ → ℕ → ℕ) → rows ≤ 16 → columns ≤ 17 → from < rows → to < rows
    → ((i k : ℕ) → i < 16 → k < 17 → n i k ≡ moved_row (row_move from to f) m i k)
    → (x : ℕ → ℕ) → IsInKernel rows columns m x → IsInKernel rows columns n x
moved_row-to rows columns from to f m n hr hc hf ht e x h = record {
  sent = λ i l.
      elim (cases_eq i to) [
        | inl q ↦
            rows_alike columns (n i) (λ k. times f (m from k)) x
            (λ k j. e i k (omega arith) (omega arith) ∙ ap (λ z. moved_row (row_move from to f) m z k) q
            ∙ moved_row-there from to f m k)
            ∙ sum_scaled columns f (m from) x ∙ ap (times f) (h.sent from hf) ∙ times-zero-right f
        | inr q ↦
            elim (cases_eq i from) [
              | inl s ↦
                  rows_alike columns (n i) (m to) x
                  (λ k j. e i k (omega arith) (omega arith) ∙ ap (λ z. moved_row (row_move from to f) m z k) s
                  ∙ moved_row-swapped from to f m k (λ t. q (s ∙ t)))
                  ∙ h.sent to ht
              | inr s ↦
                  rows_alike columns (n i) (m i) x (λ k j. e i k (omega arith) (omega arith)
                  ∙ moved_row-elsewhere from to f m i k q s)
                  ∙ h.sent i l
            ]
      ];
}

-- g undoes f
pub moved_row-from : (rows columns from to f g : ℕ) (m n : ℕ → ℕ → ℕ) → rows ≤ 16 → columns ≤ 17 → from < rows
    → to < rows → times g f ≡ 1
    → ((i k : ℕ) → i < 16 → k < 17 → n i k ≡ moved_row (row_move from to f) m i k)
    → (x : ℕ → ℕ) → IsInKernel rows columns n x → IsInKernel rows columns m x
moved_row-from rows columns from to f g m n hr hc hf ht inverse e x h =
    let s : ℕ = sum_of columns (λ k. times (m from k) (x k)) in
    let scaled : times f (sum_of columns (λ k. times (m from k) (x k))) ≡ 0 =
    sym (rows_alike columns (n to) (λ k. times f (m from k)) x (λ k j. e to k (omega arith) (omega arith)
    ∙ moved_row-there from to f m k)
    ∙ sum_scaled columns f (m from) x) ∙ h.sent to ht in
    let first : sum_of columns (λ k. times (m from k) (x k)) ≡ 0 =
    sym (one-times (sum_of columns (λ k. times (m from k) (x k))) (sum_of-lt columns (λ k. times (m from k) (x k))
    (λ k j. below (m from k) (x k))))
    ∙ ap (λ z. times z (sum_of columns (λ k. times (m from k) (x k)))) (sym inverse)
    ∙ group g f (sum_of columns (λ k. times (m from k) (x k))) ∙ ap (times g) scaled ∙ times-zero-right g in
    record {
      sent = λ i l.
          elim (cases_eq i from) [
            | inl q ↦ subst (λ (j : ℕ). sum_of columns (λ k. times (m j k) (x k)) ≡ 0) (sym q) first
            | inr q ↦
                elim (cases_eq i to) [
                  | inl t ↦
                      rows_alike columns (m i) (n from) x
                      (λ k j. ap (λ z. m z k) t
                      ∙ sym (e from k (omega arith) (omega arith)
                      ∙ moved_row-swapped from to f m k (λ u. q (t ∙ sym u))))
                      ∙ h.sent from hf
                  | inr t ↦
                      rows_alike columns (m i) (n i) x
                      (λ k j. sym (e i k (omega arith) (omega arith) ∙ moved_row-elsewhere from to f m i k t q))
                      ∙ h.sent i l
                ]
          ];
    }

-- a row was added from the column c on; before it the source is 0
pub added_row : (c v : ℕ) (source old new : List ℕ) → ((k : ℕ) → k < c → slice_index source k ≡ 0)
    → ((k : ℕ) → c ≤ k → k < 17 → slice_index new k ≡ bit_xor (slice_index old k) (times v (slice_index source k)))
    → ((k : ℕ) → k < c → slice_index new k ≡ slice_index old k)
    → (k : ℕ) → k < 17 → slice_index new k ≡ bit_xor (slice_index old k) (times v (slice_index source k))
added_row c v source old new zeros added kept k h =
    elim (cases_lt k c) [
      | inl low ↦
          kept k low
          ∙ sym (ap (bit_xor (slice_index old k)) (ap (times v) (zeros k low) ∙ times-zero-right v)
          ∙ xor_zero_r (slice_index old k))
      | inr high ↦ added k high h
    ]

-- the row that is moved is 0 before the column
pub moved_row-zero : (rows place p column g : ℕ) (m l : ℕ → ℕ → ℕ) → rows ≤ 16 → column < 17 → place ≤ p → p < rows
    → ((i k : ℕ) → place ≤ i → i < rows → k < column → m i k ≡ 0)
    → ((i k : ℕ) → i < 16 → k < 17 → l i k ≡ moved_row (row_move p place g) m i k) → (k : ℕ) → k < column
    → l place k ≡ 0
moved_row-zero rows place p column g m l hr hc hp hq zeros e k h =
    e place k (omega arith) (omega arith) ∙ moved_row-there p place g m k ∙ ap (times g) (zeros p k hp hq h)
    ∙ times-zero-right g

-- one more row is cleared
pub clear_more : (old now : List (List ℕ)) (row : List ℕ) (p c j v : ℕ) → length now ≡ 16 → j < 16 → j ≢ p → c < 17
    → ((i k : ℕ) → i < j → k < 17 → entry now i k ≡ cleared_column p c (entry old) i k)
    → ((i k : ℕ) → j ≤ i → k < 17 → entry now i k ≡ entry old i k)
    → v ≡ entry now j c → ((k : ℕ) → k < 17 → slice_index row k ≡ bit_xor (entry now j k) (times v (entry old p k)))
    → ((i k : ℕ) → i < j + 1 → k < 17 → entry (slice_set now j row) i k ≡ cleared_column p c (entry old) i k)
    × ((i k : ℕ) → j + 1 ≤ i → k < 17 → entry (slice_set now j row) i k ≡ entry old i k)
    × (length (slice_set now j row) ≡ 16)
clear_more old now row p c j v hl hj d hc done rest hv hrow =
    let long : j < length now = omega arith in
    let other : (i k : ℕ) → i ≢ j → entry (slice_set now j row) i k ≡ entry now i k =
    λ i k ne. ap (λ (r : List ℕ). slice_index r k) (get_or-set_other now j i row [] ne) in
    let here : (k : ℕ) → entry (slice_set now j row) j k ≡ slice_index row k =
    λ k. ap (λ (r : List ℕ). slice_index r k) (get_or-set_same now j row [] long) in (
      λ i k l h. elim (cases_eq i j) [
        | inl q ↦
            ap (λ (z : ℕ). entry (slice_set now j row) z k) q ∙ here k ∙ hrow k h
            ∙ ap (λ z. bit_xor z (times v (entry old p k))) (rest j k (omega arith) h)
            ∙ ap (λ z. bit_xor (entry old j k) (times z (entry old p k))) (hv ∙ rest j c (omega arith) hc)
            ∙ sym (ap (λ z. cleared_column p c (entry old) z k) q
            ∙ if_other j p (entry old j k) (bit_xor (entry old j k) (times (entry old j c) (entry old p k))) d)
        | inr q ↦ other i k q ∙ done i k (omega arith) h
      ],
      λ i k l h. other i k (omega arith) ∙ rest i k (omega arith) h,
      length-set now j row ∙ hl,
    )

-- the pivot row itself stays
pub clear_skip : (old now : List (List ℕ)) (p c j : ℕ) → length now ≡ 16 → j ≡ p
    → ((i k : ℕ) → i < j → k < 17 → entry now i k ≡ cleared_column p c (entry old) i k)
    → ((i k : ℕ) → j ≤ i → k < 17 → entry now i k ≡ entry old i k)
    → ((i k : ℕ) → i < j + 1 → k < 17 → entry now i k ≡ cleared_column p c (entry old) i k)
    × ((i k : ℕ) → j + 1 ≤ i → k < 17 → entry now i k ≡ entry old i k) × (length now ≡ 16)
clear_skip old now p c j hl e done rest = (
  λ i k l h. elim (cases_eq i j) [
    | inl q ↦ rest i k (omega arith) h
        ∙ sym (if_same i p (entry old i k) (bit_xor (entry old i k) (times (entry old i c) (entry old p k))) (q ∙ e))
    | inr q ↦ done i k (omega arith) h
  ],
  λ i k l h. rest i k (omega arith) h,
  hl,
)

-- a row moved to its place and multiplied by the inverse of its entry, and the column cleared: a
-- step of the elimination
moved_row-elements : (p place g : ℕ) (m l : ℕ → ℕ → ℕ) → p < 16 → place < 16
    → ((i k : ℕ) → i < 16 → k < 17 → l i k ≡ moved_row (row_move p place g) m i k) → AreElements m → AreElements l
moved_row-elements p place g m l hp hq e h i k hi hk =
    let P : ℕ → Type 0 = λ z. z < 256 in
    elim (cases_eq i place) [
      | inl q ↦ subst P (sym (e i k hi hk ∙ ap (λ z. moved_row
          (row_move p place g) m z k) q ∙ moved_row-there p place g m k))
          (below g (m p k))
      | inr q ↦
          elim (cases_eq i p) [
            | inl t ↦ subst P (sym (e i k hi hk ∙ ap (λ z. moved_row (row_move p place g) m z k) t
                ∙ moved_row-swapped p place g m k (λ u. q (t ∙ u)))) (h place k hq hk)
            | inr t ↦ subst P (sym (e i k hi hk ∙ moved_row-elsewhere p place g m i k q t)) (h i k hi hk)
          ]
    ]

cleared_column-elements : (p c : ℕ) (m n : ℕ → ℕ → ℕ)
    → ((i k : ℕ) → i < 16 → k < 17 → n i k ≡ cleared_column p c m i k) → AreElements m → AreElements n
cleared_column-elements p c m n e h i k hi hk =
    let P : ℕ → Type 0 = λ z. z < 256 in
    elim (cases_eq i p) [
      | inl q ↦ subst P (sym (e i k hi hk ∙ if_same i p (m i k) (bit_xor (m i k) (times (m i c) (m p k))) q))
          (h i k hi hk)
      | inr q ↦ subst P (sym (e i k hi hk ∙ if_other i p (m i k) (bit_xor (m i k) (times (m i c) (m p k))) q))
          (xor_lt 8 (m i k) (times (m i c) (m p k)) (h i k hi hk) (below (m i c) (m p k)))
    ]

pub is_pivot_step : (rows place p column g : ℕ) (m l n : ℕ → ℕ → ℕ) → AreElements m → rows ≤ 16 → column < 17
    → place ≤ p → p < rows
    → times (m p column) g ≡ 1
    → ((i k : ℕ) → i < 16 → k < 17 → l i k ≡ moved_row (row_move p place g) m i k)
    → ((i k : ℕ) → i < 16 → k < 17 → n i k ≡ cleared_column place column l i k)
    → IsPivotStep rows place column m n
is_pivot_step rows place p column g m l n hm hr hc hp hq inverse e f = record {
  room = omega arith;
  unit = λ i h.
      let one : l place column ≡ 1 =
      e place column (omega arith) hc ∙ moved_row-there p place g m column ∙ commute g (m p column) ∙ inverse in
      elim (cases_eq i place) [
        | inl q ↦
            f i column (omega arith) hc
            ∙ if_same i place (l i column) (bit_xor (l i column) (times (l i column) (l place column))) q
            ∙ ap (λ z. l z column) q ∙ one ∙ sym (if_same i place 1 0 q)
        | inr q ↦
            let small : l i column < 256 =
            moved_row-elements p place g m l (omega arith) (omega arith) e hm i column (omega arith) hc in
            f i column (omega arith) hc
            ∙ if_other i place (l i column) (bit_xor (l i column) (times (l i column) (l place column))) q
            ∙ ap (λ z. bit_xor (l i column) (times (l i column) z)) one
            ∙ ap (bit_xor (l i column)) (commute (l i column) 1 ∙ one-times (l i column) small)
            ∙ xor_self (l i column) ∙ sym (if_other i place 1 0 q)
      ];
  kept = λ k hk zero i h.
      let none : l place k ≡ 0 =
      e place k (omega arith) hk ∙ moved_row-there p place g m k ∙ ap (times g) (zero p hp hq) ∙ times-zero-right g in
      elim (cases_eq i place) [
        | inl q ↦
            f i k (omega arith) hk ∙ if_same i place (l i k) (bit_xor (l i k) (times (l i column) (l place k))) q
            ∙ ap (λ z. l z k) q ∙ none ∙ sym (zero i (omega arith) h)
        | inr q ↦
            f i k (omega arith) hk ∙ if_other i place (l i k) (bit_xor (l i k) (times (l i column) (l place k))) q
            ∙ ap (λ z. bit_xor (l i k) (times (l i column) z)) none
            ∙ ap (bit_xor (l i k)) (times-zero-right (l i column)) ∙ xor_zero_r (l i k)
            ∙ elim (cases_eq i p) [
              | inl t ↦
                  e i k (omega arith) hk ∙ ap (λ z. moved_row (row_move p place g) m z k) t
                  ∙ moved_row-swapped p place g m k (λ u. q (t ∙ u))
                  ∙ zero place (omega arith) (omega arith) ∙ sym (ap (λ z. m z k) t ∙ zero p hp hq)
              | inr t ↦ e i k (omega arith) hk ∙ moved_row-elsewhere p place g m i k q t
            ]
      ];
  same = λ columns hcs.
      equivalent-trans rows columns m l n
      (record {
        to = moved_row-to rows columns p place g m l hr hcs hq (omega arith) e;
        from = moved_row-from rows columns p place g (m p column) m l hr hcs hq (omega arith) inverse e;
      })
      (record {
        to = cleared_column-to rows columns place column l n hr hcs (omega arith) f;
        from = cleared_column-from rows columns place column l n hr hcs (omega arith) f;
      });
  elements = cleared_column-elements place column l n f
      (moved_row-elements p place g m l (omega arith) (omega arith) e hm);
}
