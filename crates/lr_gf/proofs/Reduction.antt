-- What the elimination has reached, and what follows at its end.
use Rattle.std.proofs.Common.{◌≡◌, ℕ, zero, suc, ◌+◌, ◌<◌, ◌≤◌, ◌==◌, get_or, replicate, if◌then◌else◌, refl, sym, ap}
use Rattle.std.proofs.Common.{◌∙◌, arith, inl, inr}
use Rattle.std.specs.Int.Bits.{bit_xor, xor_self}
use Rattle.std.proofs.lemmas.Bool.{cases_eq, cases_lt}
use Rattle.lr_gf.specs.Field.{times}
use Rattle.lr_gf.specs.Systems.{entry, AreElements, IsInKernel, IsNonzero, HasTrivialKernel}
use Rattle.lr_gf.specs.RowOperations.{IsEquivalent, IsPivotStep}
use Rattle.lr_gf.proofs.Laws.{commute, times-zero-left, times-zero-right, one-times}
use Rattle.lr_gf.proofs.SumLaws.{sum_of-zero, sum_of-one, sum_of-two}
use Rattle.lr_gf.proofs.Elimination.{if_same, if_other, equivalent-trans}

pub zero_row : (n k : ℕ) → get_or {A = ℕ} (replicate n 0) k 0 ≡ 0
zero_row zero k = refl
zero_row (suc n) zero = refl
zero_row (suc n) (suc k) = zero_row n k

pub zero_rows : (n m i k : ℕ) → entry (replicate n (replicate m 0)) i k ≡ 0
zero_rows zero m i k = refl
zero_rows (suc n) m zero k = zero_row m k
zero_rows (suc n) m (suc i) k = zero_rows n m i k

-- the columns before `column` are unit columns
pub record IsReduced (rows columns column : ℕ) (m n : ℕ → ℕ → ℕ) : Type 0 where
  pub place : column ≤ rows
  pub unit : (i k : ℕ) → i < rows → k < column → n i k ≡ (if i == k then 1 else 0)
  pub same : IsEquivalent rows columns m n
  pub elements : AreElements n

pub reduced_more : (rows columns column : ℕ) (m n o : ℕ → ℕ → ℕ) → columns ≤ 17 → column < 17
    → IsReduced rows columns column m n → IsPivotStep rows column column n o → IsReduced rows columns (column + 1) m o
reduced_more rows columns column m n o hc hk r s = record {
  place = omega (arith, s.room);
  unit = λ i k hi h.
      elim (cases_eq k column) [
        | inl e ↦ ap (o i) e ∙ s.unit i hi ∙ ap (λ z. if i == z then 1 else 0) (sym e)
        | inr ne ↦
            s.kept k (omega (arith, ne)) (λ j hj l. r.unit j k l (omega (arith, ne))
            ∙ if_other j k 1 0 (omega (arith, ne))) i hi
            ∙ r.unit i k hi (omega (arith, ne))
      ];
  same = equivalent-trans rows columns m n o r.same (s.same columns hc);
  elements = s.elements;
}

-- the column after the unit columns has no pivot: a combination of them cancels it
pub dependent : (rows columns c : ℕ) (m n : ℕ → ℕ → ℕ) (x : ℕ → ℕ) → rows ≤ 16 → columns ≤ 17 → c < columns
    → IsReduced rows columns c m n → ((i : ℕ) → c ≤ i → i < rows → n i c ≡ 0)
    → ((k : ℕ) → k < c → x k ≡ n k c) → x c ≡ 1 → ((k : ℕ) → c < k → x k ≡ 0)
    → IsInKernel rows columns m x × IsNonzero columns x
dependent rows columns c m n x hr hcs hc r none before here after = (
  r.same.from x (record {
    sent = λ i hi.
        elim (cases_lt i c) [
          | inl l ↦
              sum_of-two columns i c (λ k. times (n i k) (x k)) (omega arith) hc (omega arith)
              (λ k hk ni nc. elim (cases_lt k c) [
                | inl j ↦ ap (λ z. times z (x k)) (r.unit i k hi j ∙ if_other i k 1 0 (λ u. ni (sym u)))
                    ∙ times-zero-left (x k)
                | inr j ↦ ap (times (n i k)) (after k (omega (arith, nc))) ∙ times-zero-right (n i k)
              ])
              ∙ ap (λ z. bit_xor z (times (n i c) (x c)))
              (ap (λ z. times z (x i)) (r.unit i i hi l ∙ if_same i i 1 0 refl) ∙ ap (times 1) (before i l)
              ∙ one-times (n i c) (r.elements i c (omega arith) (omega arith)))
              ∙ ap (bit_xor (n i c)) (ap (times (n i c)) here ∙ commute (n i c) 1
              ∙ one-times (n i c) (r.elements i c (omega arith) (omega arith)))
              ∙ xor_self (n i c)
          | inr l ↦
              sum_of-zero columns (λ k. times (n i k) (x k))
              (λ k hk. elim (cases_lt k c) [
                | inl j ↦ ap (λ z. times z (x k)) (r.unit i k hi j ∙ if_other i k 1 0 (omega arith))
                    ∙ times-zero-left (x k)
                | inr j ↦ elim (cases_eq k c) [
                  | inl e ↦ ap (λ z. times z (x k)) (ap (n i) e ∙ none i l hi) ∙ times-zero-left (x k)
                  | inr ne ↦ ap (times (n i k)) (after k (omega (arith, ne))) ∙ times-zero-right (n i k)
                ]
              ])
        ];
  }),
  (c, hc, λ e. absurd (omega arith)),
)

-- all columns are unit columns: only zero is sent to zero
pub independent : (rows columns : ℕ) (m n : ℕ → ℕ → ℕ) → IsReduced rows columns columns m n
    → HasTrivialKernel rows columns m
independent rows columns m n r x small h k hk =
    let row : k < rows = omega (arith, r.place) in
    sym (one-times (x k) (small k hk))
    ∙ ap (λ z. times z (x k)) (sym (r.unit k k row hk ∙ if_same k k 1 0 refl))
    ∙ sym (sum_of-one columns k (λ j. times (n k j) (x j)) hk
    (λ j hj ne. ap (λ z. times z (x j)) (r.unit k j row hj ∙ if_other k j 1 0 (λ u. ne (sym u)))
    ∙ times-zero-left (x j)))
    ∙ (r.same.to x h).sent k row

-- the combination is made of elements
pub combination_elements : (c : ℕ) (n : ℕ → ℕ → ℕ) (x : ℕ → ℕ) → c < 17 → AreElements n
    → ((k : ℕ) → k < c → x k ≡ n k c) → x c ≡ 1 → ((k : ℕ) → c < k → x k ≡ 0) → (k : ℕ) → x k < 256
combination_elements c n x h e before here after k =
    elim (cases_lt k c) [
      | inl l ↦ omega (arith, before k l, e k c (omega arith) h)
      | inr l ↦ elim (cases_eq k c) [
        | inl q ↦ omega (arith, ap x q)
        | inr ne ↦ omega (arith, after k (omega (arith, ne)))
      ]
    ]
