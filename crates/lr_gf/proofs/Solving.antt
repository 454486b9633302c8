-- The elimination of a system with right sides, and what follows at its end.
use Rattle.std.proofs.Common.{◌≡◌, ◌≢◌, ℕ, suc, ◌+◌, ◌<◌, ◌≤◌, ◌==◌, List, length, get_or, slice_index, slice_set}
use Rattle.std.proofs.Common.{if◌then◌else◌, refl, sym, ap, ◌∙◌, arith, inl, inr, ◌⊎◌}
use Rattle.std.specs.Int.Bits.{bit_xor, xor_self}
use Rattle.std.proofs.lemmas.Bool.{cases_eq, cases_lt}
use Rattle.std.proofs.lemmas.List.{get_or-set_same, get_or-set_other}
use Rattle.std.proofs.Math.ListN.{length-set}
use Rattle.lr_gf.specs.Sums.{sum_of}
use Rattle.lr_gf.specs.Field.{times}
use Rattle.lr_gf.specs.Systems.{AreElements, IsInKernel, IsSolution}
use Rattle.lr_gf.specs.RowOperations.{IsEquivalent, IsPivotStep}
use Rattle.lr_gf.proofs.Laws.{commute, times-zero-left, times-zero-right, one-times}
use Rattle.lr_gf.proofs.SumLaws.{sum_of-same, sum_of-zero, sum_of-one, same_from_sum}
use Rattle.lr_gf.proofs.Elimination.{if_same, if_other, equivalent-trans}

-- the columns before `column` are unit columns, at the places of the first `rank` rows, or zero in
-- the rows after
pub record IsEchelon (n rank column : ℕ) (places : ℕ → ℕ) (m o : ℕ → ℕ → ℕ) : Type 0 where
  pub room : rank ≤ n
  pub few : rank ≤ column
  pub low : (i k : ℕ) → rank ≤ i → i < n → k < column → o i k ≡ 0
  pub before : (j : ℕ) → j < rank → places j < column
  pub unit : (i j : ℕ) → i < n → j < rank → o i (places j) ≡ (if i == j then 1 else 0)
  pub same : IsEquivalent n (suc n) m o
  pub elements : AreElements o

pub echelon_skip : (n rank column : ℕ) (places : ℕ → ℕ) (m o : ℕ → ℕ → ℕ) → IsEchelon n rank column places m o
    → ((i : ℕ) → rank ≤ i → i < n → o i column ≡ 0) → IsEchelon n rank (column + 1) places m o
echelon_skip n rank column places m o r none = record {
  room = r.room;
  few = omega (arith, r.few);
  low = λ i k a b d. elim (cases_eq k column) [
    | inl e ↦ ap (o i) e ∙ none i a b
    | inr ne ↦ r.low i k a b (omega (arith, ne))
  ];
  before = λ j a. omega (arith, r.before j a);
  unit = r.unit;
  same = r.same;
  elements = r.elements;
}

pub echelon_more : (n rank column : ℕ) (places after : ℕ → ℕ) (m o q : ℕ → ℕ → ℕ) → n ≤ 16 → column < n
    → IsEchelon n rank column places m o
    → IsPivotStep n rank column o q → after rank ≡ column → ((j : ℕ) → j < rank → after j ≡ places j)
    → IsEchelon n (rank + 1) (column + 1) after m q
echelon_more n rank column places after m o q hn hc r s here kept = record {
  room = omega (arith, s.room);
  few = omega (arith, r.few);
  low = λ i k a b d. elim (cases_eq k column) [
    | inl e ↦ ap (q i) e ∙ s.unit i b ∙ if_other i rank 1 0 (omega arith)
    | inr ne ↦ s.kept k (omega arith) (λ j f g. r.low j k f g (omega (arith, ne))) i b
        ∙ r.low i k (omega arith) b (omega (arith, ne))
  ];
  before = λ j a. elim (cases_eq j rank) [
    | inl e ↦ omega (arith, ap after e)
    | inr ne ↦ omega (arith, kept j (omega (arith, ne)), r.before j (omega (arith, ne)))
  ];
  unit = λ i j a b. elim (cases_eq j rank) [
    | inl e ↦ ap (q i) (ap after e ∙ here) ∙ s.unit i a ∙ ap (λ z. if i == z then 1 else 0) (sym e)
    | inr ne ↦
        let early : j < rank = omega (arith, ne) in
        ap (q i) (kept j early)
        ∙ s.kept (places j) (omega (arith, r.before j early))
        (λ t f g. r.unit t j g early ∙ if_other t j 1 0 (omega arith)) i a
        ∙ r.unit i j a early
  ];
  same = equivalent-trans n (suc n) m o q r.same (s.same (suc n) (omega arith));
  elements = s.elements;
}

-- x, and 1 for the right side
extended : ℕ → (ℕ → ℕ) → ℕ → ℕ
extended n x k = if k == n then 1 else x k

extended-sum : (n i : ℕ) (m : ℕ → ℕ → ℕ) (x : ℕ → ℕ) → m i n < 256
    → sum_of (suc n) (λ k. times (m i k) (extended n x k)) ≡ bit_xor (sum_of n (λ k. times (m i k) (x k))) (m i n)
unfolding sum_of extended
extended-sum n i m x h =
    ap (λ z. bit_xor z (times (m i n) (if n == n then 1 else x n)))
    (sum_of-same n (λ k. times (m i k) (if k == n then 1 else x k)) (λ k. times (m i k) (x k))
    (λ k j. ap (times (m i k)) (if_other k n 1 (x k) (omega arith))))
    ∙ ap (bit_xor (sum_of n (λ k. times (m i k) (x k)))) (ap (times (m i n)) (if_same n n 1 (x n) refl)
    ∙ commute (m i n) 1 ∙ one-times (m i n) h)

extended-to : (n : ℕ) (m : ℕ → ℕ → ℕ) (x : ℕ → ℕ) → n ≤ 16 → AreElements m → IsSolution n m x
    → IsInKernel n (suc n) m (extended n x)
extended-to n m x hn h s = record {
  sent = λ i hi.
      extended-sum n i m x (h i n (omega arith) (omega arith)) ∙ ap (λ z. bit_xor z (m i n)) (s.solves i hi)
      ∙ xor_self (m i n);
}

extended-from : (n : ℕ) (m : ℕ → ℕ → ℕ) (x : ℕ → ℕ) → n ≤ 16 → AreElements m
    → IsInKernel n (suc n) m (extended n x) → IsSolution n m x
extended-from n m x hn h s = record {
  solves = λ i hi.
      same_from_sum (sum_of n (λ k. times (m i k) (x k))) (m i n)
      (sym (extended-sum n i m x (h i n (omega arith) (omega arith))) ∙ s.sent i hi);
}

pub solved : (n rank : ℕ) (places : ℕ → ℕ) (m o : ℕ → ℕ → ℕ) (x : ℕ → ℕ) → n ≤ 16 → AreElements m
    → IsEchelon n rank n places m o
    → ((i : ℕ) → rank ≤ i → i < n → o i n ≡ 0) → ((j : ℕ) → j < rank → x (places j) ≡ o j n)
    → ((k : ℕ) → (x k ≡ 0) ⊎ ((j : ℕ) × (j < rank) × (places j ≡ k))) → IsSolution n m x
solved n rank places m o x hn h r none there only =
    extended-from n m x hn h (r.same.from (extended n x) (extended-to n o x hn r.elements (record {
      solves = λ i hi.
          elim (cases_lt i rank) [
            | inl l ↦
                sum_of-one n (places i) (λ k. times (o i k) (x k)) (r.before i l)
                (λ k hk ne. elim (only k) [
                  | inl e ↦ ap (times (o i k)) e ∙ times-zero-right (o i k)
                  | inr w ↦
                      ap (λ z. times z (x k)) (ap (o i) (sym w.2) ∙ r.unit i w.0 hi w.1
                      ∙ if_other i w.0 1 0 (λ u. ne (sym w.2 ∙ ap places (sym u))))
                      ∙ times-zero-left (x k)
                ])
                ∙ ap (λ z. times z (x (places i))) (r.unit i i hi l ∙ if_same i i 1 0 refl) ∙ ap (times 1) (there i l)
                ∙ one-times (o i n) (r.elements i n (omega arith) (omega arith))
            | inr l ↦
                sum_of-zero n (λ k. times (o i k) (x k)) (λ k hk. ap (λ z. times z (x k)) (r.low i k l hi hk)
                ∙ times-zero-left (x k))
                ∙ sym (none i l hi)
          ];
    })))

pub unsolved : (n rank p : ℕ) (places : ℕ → ℕ) (m o : ℕ → ℕ → ℕ) (x : ℕ → ℕ) → n ≤ 16 → AreElements m
    → IsEchelon n rank n places m o
    → rank ≤ p → p < n → o p n ≢ 0 → IsSolution n m x → ⊥
unsolved n rank p places m o x hn h r hr hp ne s =
    let t = extended-from n o x hn r.elements (r.same.to (extended n x) (extended-to n m x hn h s)) in
    ne (sym (t.solves p hp) ∙ sum_of-zero n (λ k. times (o p k) (x k))
    (λ k hk. ap (λ z. times z (x k)) (r.low p k hr hp hk) ∙ times-zero-left (x k)))

-- one more value of the solution is written
pub fill_more : (n rank column i v : ℕ) (places : ℕ → ℕ) (m o : ℕ → ℕ → ℕ) (xs : List ℕ)
    → IsEchelon n rank column places m o
    → i < rank → length xs ≡ 16 → places i < 16 → v ≡ o i n
    → ((j : ℕ) → j < i → slice_index xs (places j) ≡ o j n)
    → ((k : ℕ) → (slice_index xs k ≡ 0) ⊎ ((j : ℕ) × (j < i) × (places j ≡ k)))
    → ((j : ℕ) → j < i + 1 → slice_index (slice_set xs (places i) v) (places j) ≡ o j n)
    × ((k : ℕ) → (slice_index (slice_set xs (places i) v) k ≡ 0) ⊎ ((j : ℕ) × (j < i + 1) × (places j ≡ k)))
    × (length (slice_set xs (places i) v) ≡ 16)
fill_more n rank column i v places m o xs r hi long room hv there only = (
  λ j h. elim (cases_eq j i) [
    | inl e ↦
        ap (λ z. slice_index (slice_set xs (places i) v) (places z)) e
        ∙ get_or-set_same xs (places i) v 0 (omega arith) ∙ hv
        ∙ ap (λ z. o z n) (sym e)
    | inr ne ↦
        get_or-set_other xs (places i) (places j) v 0
        (λ u. absurd (omega (
          arith,
          sym (r.unit j j (omega (arith, r.room)) (omega arith) ∙ if_same j j 1 0 refl) ∙ ap (o j) u
              ∙ r.unit j i (omega (arith, r.room)) hi ∙ if_other j i 1 0 ne,
        )))
        ∙ there j (omega (arith, ne))
  ],
  λ k. elim (cases_eq k (places i)) [
    | inl e ↦ inr (i, omega arith, sym e)
    | inr ne ↦ elim (only k) [
      | inl z ↦ inl (get_or-set_other xs (places i) k v 0 ne ∙ z)
      | inr w ↦ inr (w.0, omega (arith, w.1), w.2)
    ]
  ],
  length-set xs (places i) v ∙ long,
)

-- the code's list of places
abbrev pub HasEchelon : ℕ → ℕ → ℕ → List ℕ → (ℕ → ℕ → ℕ) → (ℕ → ℕ → ℕ) → Type 0
HasEchelon n rank column ps m o = IsEchelon n rank column (λ j. get_or ps j 0) m o × (length ps ≡ 16)

pub echelon_taken : (n rank column : ℕ) (ps : List ℕ) (m o q : ℕ → ℕ → ℕ) → n ≤ 16 → column < n
    → HasEchelon n rank column ps m o
    → IsPivotStep n rank column o q → HasEchelon n (rank + 1) (column + 1) (slice_set ps rank column) m q
echelon_taken n rank column ps m o q hn hc r s = (
  echelon_more n rank column (λ j. get_or ps j 0) (λ j. get_or (slice_set ps rank column) j 0) m o q hn hc r.0 s
      (get_or-set_same ps rank column 0 (omega (arith, s.room, r.1)))
      (λ j h. get_or-set_other ps rank j column 0 (omega arith)),
  length-set ps rank column ∙ r.1,
)

-- the solution is made of elements
pub solution_elements : (n rank column : ℕ) (places : ℕ → ℕ) (m o : ℕ → ℕ → ℕ) (x : ℕ → ℕ) → n ≤ 16
    → IsEchelon n rank column places m o
    → ((j : ℕ) → j < rank → x (places j) ≡ o j n) → ((k : ℕ) → (x k ≡ 0) ⊎ ((j : ℕ) × (j < rank) × (places j ≡ k)))
    → (k : ℕ) → x k < 256
solution_elements n rank column places m o x hn r there only k =
    elim (only k) [
      | inl z ↦ omega arith
      | inr w ↦ omega (arith, ap x w.2, there w.0 w.1, r.elements w.0 n (omega (arith, w.1, r.room)) (omega arith))
    ]
