-- The receipts of a downlink, one after another.
use Rattle.std.proofs.Common.{◌≡◌, ◌≢◌, ◌⊎◌, inl, inr, ◌<◌, ◌+◌, ℕ, zero, suc, Bool, true, false}
use Rattle.std.proofs.Common.{cond, eqb, Some, List, [], ◌∷◌, length, take, drop, refl, sym}
use Rattle.std.proofs.Common.{ap, ◌∙◌, ⊎_elim, arith}
use Rattle.std.specs.Prelude.{slice_get, slice_index}
use Rattle.std.proofs.lemmas.Bool.{eq-eqb, ne_eqb}
use Rattle.std.proofs.lemmas.Bool.Decides.{eqb_tells}
use Rattle.lr_downlinks.specs.Laws.{AreReceiptsOf}
use Rattle.lr_downlinks.specs.Merge.{times_in_order}
use Rattle.lr_downlinks.specs.Receipts.{receipts_from}
use Rattle.lr_downlinks.specs.declared.receipt.Receipt.{Receipt}
use Rattle.lr_downlinks.proofs.Merging.{times-append, times-one, times-other}

module _ (d : ℕ) where
  abbrev made : ℕ → ℕ → Receipt
  made place number = record { downlink = d; place = place; number = number }

  -- the first one is of the downlink, or it isn't
  here : (place number e : ℕ) (order : List ℕ) → e ≡ d
      → receipts_from d place number (e ∷ order) ≡ made place number ∷ receipts_from d (place + 1) (number + 1) order
  here place number e order is =
      ap (λ (b : Bool). cond b (made place number ∷ receipts_from d (place + 1) (number + 1) order)
      (receipts_from d place (number + 1) order)) (eq-eqb e d is)

  other : (place number e : ℕ) (order : List ℕ) → e ≢ d
      → receipts_from d place number (e ∷ order) ≡ receipts_from d place (number + 1) order
  other place number e order is =
      ap (λ (b : Bool). cond b (made place number ∷ receipts_from d (place + 1) (number + 1) order)
      (receipts_from d place (number + 1) order)) (ne_eqb e d is)

  times_here : (e : ℕ) (order : List ℕ) → e ≡ d → times_in_order d (e ∷ order) ≡ times_in_order d order + 1
  times_here e order is =
      omega (
        arith,
        times-append d (e ∷ []) order,
        ap (λ (k : ℕ). times_in_order d (k ∷ [])) is,
        times-one d,
      )

  times_apart : (e : ℕ) (order : List ℕ) → e ≢ d → times_in_order d (e ∷ order) ≡ times_in_order d order
  times_apart e order is = omega (arith, times-append d (e ∷ []) order, times-other d e is)

  -- where it doesn't stand in the order, there is none
  pub no_receipt : (place number : ℕ) (order : List ℕ) → times_in_order d order ≡ 0
      → receipts_from d place number order ≡ []
  no_receipt place number [] none = refl
  no_receipt place number (e ∷ order) none = ⊎_elim
      (λ (t : (eqb e d ≡ true) × (e ≡ d)). absurd (omega (arith, times_here e order t.1, none)))
      (λ (t : (eqb e d ≡ false) × (e ≢ d)).
      other place number e order t.1
      ∙ no_receipt place (number + 1) order (omega (arith, times_apart e order t.1, none)))
      (eqb_tells e d)

  -- the first place where it stands
  pub first_receipt : (place number : ℕ) (order : List ℕ) (at : ℕ) → at < length order → slice_index order at ≡ d
      → times_in_order d (take at order) ≡ 0
      → receipts_from d place number order
      ≡ made place (number + at) ∷ receipts_from d (place + 1) (number + at + 1) (drop (at + 1) order)
  first_receipt place number [] at inside is none = absurd (omega (arith, inside))
  first_receipt place number (e ∷ order) zero inside is none =
      let same : number ≡ number + 0 = omega arith in
      here place number e order is
      ∙ ap (λ (n : ℕ). made place n ∷ receipts_from d (place + 1) (n + 1) order) same
  first_receipt place number (e ∷ order) (suc at) inside is none =
      let apart : e ≢ d = λ same. omega (arith, times_here e (take at order) same, none) in
      let later : (number + 1) + at ≡ number + suc at = omega arith in
      let size : suc (at + 1) ≡ suc at + 1 = omega arith in
      other place number e order apart
      ∙ first_receipt place (number + 1) order at (omega (arith, inside)) is
      (omega (arith, times_apart e (take at order) apart, none))
      ∙ ap (λ (n : ℕ). made place n ∷ receipts_from d (place + 1) (n + 1) (drop (at + 1) order)) later
      ∙ ap (λ (n : ℕ).
      made place (number + suc at) ∷ receipts_from d (place + 1) (number + suc at + 1) (drop n (e ∷ order))) size

  length-receipts : (place number : ℕ) (order : List ℕ)
      → length (receipts_from d place number order) ≡ times_in_order d order
  length-receipts place number [] = refl
  length-receipts place number (e ∷ order) = ⊎_elim
      (λ (t : (eqb e d ≡ true) × (e ≡ d)).
      omega (
        arith,
        ap (λ (l : List Receipt). length l) (here place number e order t.1),
        length-receipts (place + 1) (number + 1) order,
        times_here e order t.1,
      ))
      (λ (t : (eqb e d ≡ false) × (e ≢ d)).
      omega (
        arith,
        ap (λ (l : List Receipt). length l) (other place number e order t.1),
        length-receipts place (number + 1) order,
        times_apart e order t.1,
      ))
      (eqb_tells e d)

  -- each place where it stands has its receipt
  get-receipts : (place number : ℕ) (order : List ℕ) (at : ℕ) → at < length order → slice_index order at ≡ d
      → slice_get (receipts_from d place number order) (times_in_order d (take at order))
      ≡ Some (made (place + times_in_order d (take at order)) (number + at))
  get-receipts place number [] at inside is = absurd (omega (arith, inside))
  get-receipts place number (e ∷ order) zero inside is =
      let first : place ≡ place + times_in_order d (take 0 (e ∷ order)) = omega arith in
      let same : number ≡ number + 0 = omega arith in
      ap (λ (l : List Receipt). slice_get l 0) (here place number e order is)
      ∙ ap (λ (p : ℕ). Some (made p number)) first
      ∙ ap (λ (n : ℕ). Some (made (place + times_in_order d (take 0 (e ∷ order))) n)) same
  get-receipts place number (e ∷ order) (suc at) inside is =
      by_first (eqb_tells e d) (λ p n. get-receipts p n order at (omega (arith, inside)) is)
    where
      by_first : ((eqb e d ≡ true) × (e ≡ d)) ⊎ ((eqb e d ≡ false) × (e ≢ d))
          → ((p n : ℕ) → slice_get (receipts_from d p n order) (times_in_order d (take at order))
          ≡ Some (made (p + times_in_order d (take at order)) (n + at)))
          → slice_get (receipts_from d place number (e ∷ order)) (times_in_order d (e ∷ take at order))
          ≡ Some (made (place + times_in_order d (e ∷ take at order)) (number + suc at))
      by_first (inl same) rest =
          let count : times_in_order d (e ∷ take at order) ≡ suc (times_in_order d (take at order)) =
          omega (arith, times_here e (take at order) same.1) in
          let before : (place + 1) + times_in_order d (take at order) ≡ place + times_in_order d (e ∷ take at order) =
          omega (arith, count) in
          let later : (number + 1) + at ≡ number + suc at = omega arith in
          ap (λ (l : List Receipt). slice_get l (times_in_order d (e ∷ take at order)))
          (here place number e order same.1)
          ∙ ap (slice_get (made place number ∷ receipts_from d (place + 1) (number + 1) order)) count
          ∙ rest (place + 1) (number + 1)
          ∙ ap (λ (p : ℕ). Some (made p ((number + 1) + at))) before
          ∙ ap (λ (n : ℕ). Some (made (place + times_in_order d (e ∷ take at order)) n)) later
      by_first (inr apart) rest =
          let count : times_in_order d (e ∷ take at order) ≡ times_in_order d (take at order) =
          times_apart e (take at order) apart.1 in
          let before : place + times_in_order d (take at order) ≡ place + times_in_order d (e ∷ take at order) =
          omega (arith, count) in
          let later : (number + 1) + at ≡ number + suc at = omega arith in
          ap (λ (l : List Receipt). slice_get l (times_in_order d (e ∷ take at order)))
          (other place number e order apart.1)
          ∙ ap (slice_get (receipts_from d place (number + 1) order)) count
          ∙ rest place (number + 1)
          ∙ ap (λ (p : ℕ). Some (made p ((number + 1) + at))) before
          ∙ ap (λ (n : ℕ). Some (made (place + times_in_order d (e ∷ take at order)) n)) later

pub are_receipts : (base : ℕ) (order : List ℕ) (downlink : ℕ) → AreReceiptsOf base order downlink
are_receipts base order downlink = record {
  all = length-receipts downlink 0 base order;
  each = λ at inside is.
      let place : 0 + times_in_order downlink (take at order) ≡ times_in_order downlink (take at order) = omega arith in
      get-receipts downlink 0 base order at inside is
      ∙ ap (λ (p : ℕ). Some (made downlink p (base + at))) place
      ∙ ap (λ (k : ℕ). Some (record {
        downlink = k;
        place = times_in_order k (take at order);
        number = base + at;
      })) (sym is);
}
