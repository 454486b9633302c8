-- The options of a block: none is shorter than the chosen one.
use Rattle.std.proofs.Common.{◌≡◌, ◌⊎◌, ℕ, zero, suc, ◌<◌, ◌≤◌, Bool, true, false, List, sym, ap, subst, arith}
use Rattle.std.proofs.Common.{inl, inr}
use Rattle.std.specs.Prelude.{nat_lt, if◌then◌else◌}
use Rattle.std.proofs.lemmas.Bool.{cases_lt, le-leb, lt-leb}
use Rattle.lr_rice.specs.declared.choice.BlockOption.{BlockOption}
use Rattle.lr_rice.specs.declared.choice.BlockOption.TheVariants.{ZeroBlock, SecondExtension, Split, Uncoded}
use Rattle.lr_rice.specs.CodedLines.{IsOption}
use Rattle.lr_rice.specs.Samples.{IsSingle}
use Rattle.lr_rice_coder.specs.Shortest.{cost_of, most_split, shorter_option, shortest_option, shortest_up_to}
use Rattle.lr_rice_coder.proofs.CostLemmas.{short-power, shortest_option-is, shortest_up_to-first, shortest_up_to-next}

pick : (P : BlockOption → Type 0) (b : Bool) (one other : BlockOption) → P one → P other → P (if b then other else one)
pick P true one other p q = q
pick P false one other p q = p

shortest_up_to-both : (bits : ℕ) (first : Bool) (places : List ℕ) (k : ℕ) → k ≤ most_split bits
    → IsSingle (shortest_up_to bits first places k) × IsOption bits (shortest_up_to bits first places k)
shortest_up_to-both bits first places zero inside =
    let P : BlockOption → Type 0 = λ o. IsSingle o × IsOption bits o in
    subst P (sym (shortest_up_to-first bits first places))
    (pick P (nat_lt (cost_of bits first places (Split 0)) (cost_of bits first places SecondExtension)) SecondExtension
    (Split 0) (tt, tt) (tt, omega (arith, short-power bits)))
shortest_up_to-both bits first places (suc k) inside =
    let P : BlockOption → Type 0 = λ o. IsSingle o × IsOption bits o in
    subst P (sym (shortest_up_to-next bits first places k))
    (pick P (nat_lt (cost_of bits first places (Split (suc k)))
    (cost_of bits first places (shortest_up_to bits first places k))) (shortest_up_to bits first places k)
    (Split (suc k))
    (shortest_up_to-both bits first places k (omega arith)) (tt, omega (arith, short-power bits)))

pub shortest_option-both : (bits : ℕ) (first : Bool) (places : List ℕ)
    → IsSingle (shortest_option bits first places) × IsOption bits (shortest_option bits first places)
shortest_option-both bits first places =
    let P : BlockOption → Type 0 = λ o. IsSingle o × IsOption bits o in
    let split = shortest_up_to bits first places (most_split bits) in
    subst P (sym (shortest_option-is bits first places))
    (pick P (nat_lt (cost_of bits first places Uncoded) (cost_of bits first places split)) split Uncoded
    (shortest_up_to-both bits first places (most_split bits) (omega arith)) (tt, tt))

pub shorter_option-least : (bits : ℕ) (first : Bool) (places : List ℕ) (one other : BlockOption) →
    (cost_of bits first places (shorter_option bits first places one other) ≤ cost_of bits first places one) ×
    (cost_of bits first places (shorter_option bits first places one other) ≤ cost_of bits first places other)
shorter_option-least bits first places one other =
    let f = cost_of bits first places in
    chosen f one other (cases_lt (f other) (f one))
  where
    chosen : (f : BlockOption → ℕ) (one other : BlockOption) → (f other < f one) ⊎ (f one ≤ f other) →
        (f (if nat_lt (f other) (f one) then other else one) ≤ f one) ×
        (f (if nat_lt (f other) (f one) then other else one) ≤ f other)
    chosen f one other (inl less) =
        let e : f (if nat_lt (f other) (f one) then other else one) ≡ f other =
        ap (λ b. f (if b then other else one)) (le-leb (suc (f other)) (f one) less) in
        (omega (arith, e), omega (arith, e))
    chosen f one other (inr more) =
        let e : f (if nat_lt (f other) (f one) then other else one) ≡ f one =
        ap (λ b. f (if b then other else one)) (lt-leb (suc (f other)) (f one) (omega arith)) in
        (omega (arith, e), omega (arith, e))

shortest_up_to-least : (bits : ℕ) (first : Bool) (places : List ℕ) (k : ℕ) →
    (cost_of bits first places (shortest_up_to bits first places k) ≤ cost_of bits first places SecondExtension)
    × ((j : ℕ) → j ≤ k → cost_of bits first places (shortest_up_to bits first places k)
    ≤ cost_of bits first places (Split j))
shortest_up_to-least bits first places zero =
    let f = cost_of bits first places in
    let both = shorter_option-least bits first places SecondExtension (Split 0) in
    let e = ap f (shortest_up_to-first bits first places) in
    let here : f (shortest_up_to bits first places 0) ≤ f (Split 0) = omega (arith, e, both.1) in (
      omega (arith, e, both.0),
      λ j inside.
          let same : 0 ≡ j = omega arith in
          subst (λ (i : ℕ). f (shortest_up_to bits first places 0) ≤ f (Split i)) same here,
    )
shortest_up_to-least bits first places (suc k) =
    let f = cost_of bits first places in
    let before = shortest_up_to-least bits first places k in
    let both = shorter_option-least bits first places (shortest_up_to bits first places k) (Split (suc k)) in
    let e = ap f (shortest_up_to-next bits first places k) in (
      omega (arith, e, both.0, before.0),
      λ j inside. elim (cases_lt j (suc k)) [
        | inl earlier ↦ omega (arith, e, both.0, before.1 j (omega arith))
        | inr last ↦
            let here : f (shortest_up_to bits first places (suc k)) ≤ f (Split (suc k)) = omega (arith, e, both.1) in
            let same : suc k ≡ j = omega arith in
            subst (λ (i : ℕ). f (shortest_up_to bits first places (suc k)) ≤ f (Split i)) same here
      ],
    )

-- no option is shorter
pub shortest_option-least : (bits : ℕ) (first : Bool) (places : List ℕ) (option : BlockOption) → IsSingle option
    → IsOption bits option →
    cost_of bits first places (shortest_option bits first places) ≤ cost_of bits first places option
shortest_option-least bits first places ZeroBlock single is = absurd single
shortest_option-least bits first places SecondExtension single is =
    let both = shorter_option-least bits first places (shortest_up_to bits first places (most_split bits)) Uncoded in
    omega (
      arith,
      ap (cost_of bits first places) (shortest_option-is bits first places),
      both.0,
      (shortest_up_to-least bits first places (most_split bits)).0,
    )
shortest_option-least bits first places (Split k) single is =
    let both = shorter_option-least bits first places (shortest_up_to bits first places (most_split bits)) Uncoded in
    let inside : k ≤ most_split bits = omega (arith, is, short-power bits) in
    omega (
      arith,
      ap (cost_of bits first places) (shortest_option-is bits first places),
      both.0,
      (shortest_up_to-least bits first places (most_split bits)).1 k inside,
    )
shortest_option-least bits first places Uncoded single is =
    let both = shorter_option-least bits first places (shortest_up_to bits first places (most_split bits)) Uncoded in
    omega (arith, ap (cost_of bits first places) (shortest_option-is bits first places), both.1)
