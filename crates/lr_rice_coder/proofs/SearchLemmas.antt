-- The search for the shortest option.
use Rattle.std.proofs.Common.{◌≡◌, ℕ, zero, suc, ◌+◌, ◌-◌, ◌*◌, ◌/◌, ◌%◌, ◌^◌, ◌<◌, ◌≤◌, Bool, true, false, List, []}
use Rattle.std.proofs.Common.{◌∷◌, length, get_or, refl, sym, ap, ◌∙◌, subst, arith, inl, inr, length-append}
use Rattle.std.specs.Prelude.{if◌then◌else◌}
use Rattle.std.specs.List.{flat_map}
use Rattle.std.proofs.lemmas.Bool.{cases_lt, le-leb, lt-leb}
use Rattle.std.proofs.lemmas.List.Sums.{sum_by-cons}
use Rattle.std.proofs.Math.Nat.{add-mul}
use Rattle.std.proofs.lemmas.Nat.{mul-le, shr-shr, pow_pos}
use Rattle.lr_bits.specs.Bits.{number_bits, zeros_and_one}
use Rattle.lr_bits.proofs.ReaderLemmas.{length-number_bits}
use Rattle.lr_rice.specs.declared.choice.BlockOption.{BlockOption}
use Rattle.lr_rice.specs.declared.choice.BlockOption.TheVariants.{SecondExtension, Split, Uncoded}
use Rattle.lr_rice.specs.CodedLines.{pair_number, pairs_string, short_width}
use Rattle.lr_rice.proofs.ItemLemmas.{length-flat_map_numbers}
use Rattle.lr_rice_coder.specs.Costs.{IsShortestSplit, highs_sum}
use Rattle.lr_rice_coder.specs.Shortest.{block_values, cost_of, most_split, shorter_option, shortest_option}
use Rattle.lr_rice_coder.specs.Shortest.{shortest_up_to}
use Rattle.lr_rice_coder.proofs.CostLemmas.{lead_back, length-zeros_and_one, shortest_option-is, shortest_up_to-first}
use Rattle.lr_rice_coder.proofs.CostLemmas.{shortest_up_to-next}
use Rattle.lr_rice_coder.proofs.OptionLemmas.{shorter_option-least}

-- ---- sums of high parts

whole_value : (value : ℕ) → value / 2 ^ 0 ≡ value
whole_value value = omega arith

halved : (value k : ℕ) → 2 * (value / 2 ^ (k + 1)) ≤ value / 2 ^ k
halved value k =
    let half : value / 2 ^ (k + 1) ≡ value / 2 ^ k / 2 = sym (shr-shr value k 1) in
    omega arith

highs_sum-halves : (k : ℕ) (values : List ℕ) → 2 * highs_sum (k + 1) values ≤ highs_sum k values
highs_sum-halves k [] = omega arith
highs_sum-halves k (value ∷ values) =
    omega (
      arith,
      sum_by-cons (λ (v : ℕ). v / 2 ^ (k + 1)) value values,
      sum_by-cons (λ (v : ℕ). v / 2 ^ k) value values,
      halved value k,
      highs_sum-halves k values,
    )

highs_sum-falls : (j d : ℕ) (values : List ℕ) → highs_sum (j + d) values ≤ highs_sum j values
highs_sum-falls j zero values = let none : j + 0 ≡ j = omega arith in
    omega (arith, ap (λ (k : ℕ). highs_sum k values) none)
highs_sum-falls j (suc d) values =
    let next : j + suc d ≡ j + d + 1 = omega arith in
    omega (
      arith,
      ap (λ (k : ℕ). highs_sum k values) next,
      highs_sum-halves (j + d) values,
      highs_sum-falls j d values,
    )

-- below a split that is shorter than the one by a bit less each bit more makes a split shorter
falls_before : (values : List ℕ) (k j : ℕ) → highs_sum k values + length values < highs_sum (k - 1) values → j < k
    → highs_sum (j + 1) values + length values < highs_sum j values
falls_before values k j falls below =
    elim (cases_lt (j + 1) k) [
      | inl before ↦
          let to : j + 1 + (k - 1 - (j + 1)) ≡ k - 1 = omega arith in
          omega (
            arith,
            falls,
            highs_sum-halves j values,
            highs_sum-falls (j + 1) (k - 1 - (j + 1)) values,
            ap (λ (i : ℕ). highs_sum i values) to,
          )
      | inr last ↦
          let here : j + 1 ≡ k = omega arith in
          let less : k - 1 ≡ j = omega arith in
          omega (arith, falls, ap (λ (i : ℕ). highs_sum i values) here, ap (λ (i : ℕ). highs_sum i values) less)
    ]

-- after one that isn't longer than the next no bit more makes it shorter
stops_after : (values : List ℕ) (k d : ℕ) → highs_sum k values ≤ highs_sum (k + 1) values + length values
    → highs_sum (k + d) values ≤ highs_sum (k + d + 1) values + length values
stops_after values k zero stops =
    let none : k + 0 ≡ k = omega arith in
    subst (λ (i : ℕ). highs_sum i values ≤ highs_sum (i + 1) values + length values) (sym none) stops
stops_after values k (suc d) stops =
    let next : k + 1 + d ≡ k + suc d = omega arith in
    omega (
      arith,
      stops,
      highs_sum-halves k values,
      highs_sum-falls (k + 1) d values,
      ap (λ (i : ℕ). highs_sum i values) next,
    )

-- each value is below the next multiple
floored : (value k : ℕ) → value + 1 ≤ (value / 2 ^ k + 1) * 2 ^ k
floored value k = let pos : 0 < 2 ^ k = pow_pos k in omega arith

highs_sum-floor : (k : ℕ) (values : List ℕ)
    → highs_sum 0 values + length values ≤ (highs_sum k values + length values) * 2 ^ k
highs_sum-floor k [] = omega arith
highs_sum-floor k (value ∷ values) =
    let p = 2 ^ k in
    let all : highs_sum k (value ∷ values) + length (value ∷ values)
    ≡ (value / p + 1) + (highs_sum k values + length values) =
    omega (arith, sum_by-cons (λ (v : ℕ). v / 2 ^ k) value values) in
    let product : (highs_sum k (value ∷ values) + length (value ∷ values)) * p
    ≡ (value / p + 1) * p + (highs_sum k values + length values) * p =
    ap (λ (n : ℕ). n * p) all ∙ add-mul (value / p + 1) (highs_sum k values + length values) p in
    omega (
      arith,
      sum_by-cons (λ (v : ℕ). v / 2 ^ 0) value values,
      whole_value value,
      product,
      floored value k,
      highs_sum-floor k values,
    )

-- a sum three times as great as its values in number is more than halved
pub far-splits : (values : List ℕ) (k : ℕ) → 3 * length values ≤ highs_sum 0 values / 2 ^ k → 1 ≤ length values
    → highs_sum (k + 1) values + length values < highs_sum k values
far-splits values k far some =
    let n = length values in
    let p = 2 ^ k in
    let all = highs_sum 0 values in
    let high = highs_sum k values in
    let pos : 0 < p = pow_pos k in
    let least : 3 * n * p ≤ all / p * p = mul-le (3 * n) p (all / p) p far (omega arith) in
    let under : all / p * p ≤ all = omega arith in
    let floor : all + n ≤ (high + n) * p = highs_sum-floor k values in
    elim (cases_lt (2 * n) high) [
      | inl more ↦ omega (arith, highs_sum-halves k values)
      | inr few ↦
          let most : (high + n) * p ≤ 3 * n * p = mul-le (high + n) p (3 * n) p (omega arith) (omega arith) in
          absurd (omega arith)
    ]

-- ---- lengths of splits

abbrev pub split_length : List ℕ → ℕ → ℕ
split_length values k = highs_sum k values + length values * (k + 1)

falls_to : (values : List ℕ) (k j d : ℕ) → 0 < k → highs_sum k values + length values < highs_sum (k - 1) values
    → j + suc d ≡ k → split_length values k < split_length values j
falls_to values k j zero some falls to =
    let next : j + 1 ≡ k = omega arith in
    omega (
      arith,
      falls_before values k j falls (omega arith),
      ap (λ (i : ℕ). split_length values i) next,
    )
falls_to values k j (suc d) some falls to =
    omega (
      arith,
      falls_before values k j falls (omega arith),
      falls_to values k (j + 1) d some falls (omega arith),
    )

rises_to : (values : List ℕ) (k d : ℕ) → highs_sum k values ≤ highs_sum (k + 1) values + length values
    → split_length values k ≤ split_length values (k + d)
rises_to values k zero stops =
    let none : k + 0 ≡ k = omega arith in
    omega (arith, ap (λ (i : ℕ). split_length values i) none)
rises_to values k (suc d) stops =
    let next : k + suc d ≡ k + d + 1 = omega arith in
    omega (
      arith,
      rises_to values k d stops,
      stops_after values k d stops,
      ap (λ (i : ℕ). split_length values i) next,
    )

split-first : (most : ℕ) (values : List ℕ) (k : ℕ) → IsShortestSplit most values k
    → (j : ℕ) → j < k → split_length values k < split_length values j
split-first most values k is j below =
    falls_to values k j (k - j - 1) (omega arith) (is.falls (omega arith)) (omega arith)

split-least : (most : ℕ) (values : List ℕ) (k : ℕ) → IsShortestSplit most values k
    → (j : ℕ) → j ≤ most → split_length values k ≤ split_length values j
split-least most values k is j inside =
    elim (cases_lt j k) [
      | inl before ↦ omega (arith, split-first most values k is j before)
      | inr after ↦ elim (cases_lt k j) [
        | inl less ↦
            let to : k + (j - k) ≡ j = omega arith in
            omega (
              arith,
              rises_to values k (j - k) (is.stops (omega arith)),
              ap (λ (i : ℕ). split_length values i) to,
            )
        | inr not_less ↦
            let same : k ≡ j = omega arith in
            omega (arith, ap (λ (i : ℕ). split_length values i) same)
      ]
    ]

-- no split's length is greater than that of the fundamental sequence
pub split-within : (most : ℕ) (values : List ℕ) (k : ℕ) → IsShortestSplit most values k
    → split_length values k ≤ highs_sum 0 values + length values
split-within most values k is = omega (arith, split-least most values k is 0 (omega arith))

-- ---- costs

length-highs : (k : ℕ) (values : List ℕ)
    → length (flat_map (λ v. zeros_and_one (v / 2 ^ k)) values) ≡ highs_sum k values + length values
length-highs k [] = omega arith
length-highs k (value ∷ values) =
    omega (
      arith,
      length-append (zeros_and_one (value / 2 ^ k)) (flat_map (λ v. zeros_and_one (v / 2 ^ k)) values),
      length-zeros_and_one (value / 2 ^ k),
      sum_by-cons (λ (v : ℕ). v / 2 ^ k) value values,
      length-highs k values,
    )

cost-split : (bits : ℕ) (first : Bool) (places : List ℕ) (k : ℕ)
    → cost_of bits first places (Split k) ≡ short_width bits + split_length (block_values first places) k
cost-split bits first places k =
    let values = block_values first places in
    omega (
      arith,
      length-number_bits (short_width bits) (k + 1),
      length-append (flat_map (λ v. zeros_and_one (v / 2 ^ k)) values) (flat_map (number_bits k) values),
      length-highs k values,
      length-flat_map_numbers k values,
    )

cost-uncoded : (bits : ℕ) (first : Bool) (places : List ℕ)
    → cost_of bits first places Uncoded ≡ short_width bits + length (block_values first places) * bits
cost-uncoded bits first places =
    omega (
      arith,
      length-number_bits (short_width bits) (2 ^ short_width bits - 1),
      length-flat_map_numbers bits (block_values first places),
    )

cost-pairs : (bits : ℕ) (first : Bool) (places : List ℕ) → 1 ≤ length places → (first ≡ true → get_or places 0 0 ≡ 0)
    → cost_of bits first places SecondExtension ≡ short_width bits + 1 + length (pairs_string places)
cost-pairs bits first places some clear =
    omega (
      arith,
      length-number_bits (short_width bits + 1) 1,
      ap (λ l. length (pairs_string l)) (lead_back first places some clear),
    )

-- ---- the search

keeps : (bits : ℕ) (first : Bool) (places : List ℕ) (one other : BlockOption)
    → cost_of bits first places one ≤ cost_of bits first places other
    → shorter_option bits first places one other ≡ one
keeps bits first places one other more =
    ap (λ b. if b then other else one)
    (lt-leb (suc (cost_of bits first places other)) (cost_of bits first places one) (omega arith))

takes : (bits : ℕ) (first : Bool) (places : List ℕ) (one other : BlockOption)
    → cost_of bits first places other < cost_of bits first places one
    → shorter_option bits first places one other ≡ other
takes bits first places one other less =
    ap (λ b. if b then other else one)
    (le-leb (suc (cost_of bits first places other)) (cost_of bits first places one) less)

-- where the second extension is no longer than any of the splits
no_split : (bits : ℕ) (first : Bool) (places : List ℕ) (most : ℕ)
    → ((j : ℕ) → j ≤ most → cost_of bits first places SecondExtension ≤ cost_of bits first places (Split j))
    → shortest_up_to bits first places most ≡ SecondExtension
no_split bits first places zero least =
    shortest_up_to-first bits first places
    ∙ keeps bits first places SecondExtension (Split 0) (least 0 (omega arith))
no_split bits first places (suc most) least =
    shortest_up_to-next bits first places most
    ∙ ap (λ o. shorter_option bits first places o (Split (suc most)))
    (no_split bits first places most (λ j inside. least j (omega arith)))
    ∙ keeps bits first places SecondExtension (Split (suc most)) (least (suc most) (omega arith))

over_either : (bits : ℕ) (first : Bool) (places : List ℕ) (bound : ℕ) (one other : BlockOption)
    → bound < cost_of bits first places one → bound < cost_of bits first places other
    → bound < cost_of bits first places (shorter_option bits first places one other)
over_either bits first places bound one other p q =
    let cost = cost_of bits first places in
    elim (cases_lt (cost other) (cost one)) [
      | inl less ↦ subst (λ o. bound < cost o) (sym (takes bits first places one other less)) q
      | inr more ↦ subst (λ o. bound < cost o) (sym (keeps bits first places one other more)) p
    ]

-- what is below the second extension and all splits is below the shortest of them
over : (bits : ℕ) (first : Bool) (places : List ℕ) (bound most : ℕ)
    → bound < cost_of bits first places SecondExtension
    → ((j : ℕ) → j ≤ most → bound < cost_of bits first places (Split j))
    → bound < cost_of bits first places (shortest_up_to bits first places most)
over bits first places bound zero pairs splits =
    subst (λ o. bound < cost_of bits first places o) (sym (shortest_up_to-first bits first places))
    (over_either bits first places bound SecondExtension (Split 0) pairs (splits 0 (omega arith)))
over bits first places bound (suc most) pairs splits =
    subst (λ o. bound < cost_of bits first places o) (sym (shortest_up_to-next bits first places most))
    (over_either bits first places bound (shortest_up_to bits first places most) (Split (suc most))
    (over bits first places bound most pairs (λ j inside. splits j (omega arith))) (splits (suc most) (omega arith)))

-- a split that all others come to is the one that is compared with the second extension
search : (bits : ℕ) (first : Bool) (places : List ℕ) (most k : ℕ) → k ≤ most
    → ((j : ℕ) → j < k → cost_of bits first places (Split k) < cost_of bits first places (Split j))
    → ((j : ℕ) → j ≤ most → cost_of bits first places (Split k) ≤ cost_of bits first places (Split j))
    → shortest_up_to bits first places most ≡ shorter_option bits first places SecondExtension (Split k)
search bits first places zero k inside before least =
    let here : 0 ≡ k = omega arith in
    shortest_up_to-first bits first places
    ∙ ap (λ (i : ℕ). shorter_option bits first places SecondExtension (Split i)) here
search bits first places (suc most) k inside before least =
    let cost = cost_of bits first places in
    elim (cases_lt k (suc most)) [
      | inl earlier ↦
          let found = search bits first places most k (omega arith) before (λ j below. least j (omega arith)) in
          let chosen = shorter_option bits first places SecondExtension (Split k) in
          let few : cost chosen ≤ cost (Split k) =
          (shorter_option-least bits first places SecondExtension (Split k)).1 in
          shortest_up_to-next bits first places most
          ∙ ap (λ o. shorter_option bits first places o (Split (suc most))) found
          ∙ keeps bits first places chosen (Split (suc most)) (omega (arith, few, least (suc most) (omega arith)))
      | inr last ↦
          let here : suc most ≡ k = omega arith in
          shortest_up_to-next bits first places most
          ∙ ap (λ (i : ℕ). shorter_option bits first places (shortest_up_to bits first places most) (Split i)) here
          ∙ elim (cases_lt (cost (Split k)) (cost SecondExtension)) [
            | inl less ↦
                let more = over bits first places (cost (Split k)) most less (λ j below. before j (omega arith)) in
                takes bits first places (shortest_up_to bits first places most) (Split k) more
                ∙ sym (takes bits first places SecondExtension (Split k) less)
            | inr pairs ↦ ap (λ o. shorter_option bits first places o (Split k))
                (no_split bits first places most (λ j below. omega (arith, pairs, before j (omega arith))))
          ]
    ]

-- ---- what the code finds

-- pairs take two bits or more for each one of their sum
pair_number-least : (s : ℕ) → 2 * s ≤ s * (s + 1) / 2 + 1
pair_number-least zero = omega arith
pair_number-least (suc zero) = omega arith
pair_number-least (suc (suc zero)) = omega arith
pair_number-least (suc (suc (suc s))) =
    let n = suc (suc (suc s)) in
    omega (arith, mul-le n 4 n (n + 1) (omega arith) (omega arith))

pairs-heavy : (values : List ℕ) → length values % 2 ≡ 0 → 2 * highs_sum 0 values ≤ length (pairs_string values)
pairs-heavy [] even = omega arith
pairs-heavy (a ∷ []) even = absurd (omega arith)
pairs-heavy (a ∷ b ∷ values) even =
    omega (
      arith,
      length-append (zeros_and_one (pair_number a b)) (pairs_string values),
      length-zeros_and_one (pair_number a b),
      pair_number-least (a + b),
      sum_by-cons (λ (v : ℕ). v / 2 ^ 0) a (b ∷ values),
      sum_by-cons (λ (v : ℕ). v / 2 ^ 0) b values,
      whole_value a,
      whole_value b,
      pairs-heavy values (omega arith),
    )

values-sum : (first : Bool) (places : List ℕ) → 1 ≤ length places → (first ≡ true → get_or places 0 0 ≡ 0)
    → highs_sum 0 (block_values first places) ≡ highs_sum 0 places
values-sum false places some clear = refl
values-sum true [] some clear = absurd (omega arith)
values-sum true (place ∷ places) some clear =
    omega (arith, sum_by-cons (λ (v : ℕ). v / 2 ^ 0) place places, whole_value place, clear refl)

-- where the sum of the values is no less than their number, the second extension is longer than the fundamental
-- sequence
pub pairs_are_longer : (first : Bool) (places : List ℕ) → 1 ≤ length places → length places % 2 ≡ 0
    → (first ≡ true → get_or places 0 0 ≡ 0)
    → length (block_values first places) ≤ highs_sum 0 (block_values first places)
    → highs_sum 0 (block_values first places) + length (block_values first places) < 1 + length (pairs_string places)
pairs_are_longer first places some even clear heavy =
    omega (arith, heavy, values-sum first places some clear, pairs-heavy places even)

-- a block of these places whose shortest split is by k bits
pub record IsSearched (bits : ℕ) (first : Bool) (places : List ℕ) (k : ℕ) : Type 0 where
  pub deep : 5 ≤ bits
  pub some : 2 ≤ length places
  pub even : length places % 2 ≡ 0
  pub clear : first ≡ true → get_or places 0 0 ≡ 0
  pub shortest : IsShortestSplit (most_split bits) (block_values first places) k

searched : (bits : ℕ) (first : Bool) (places : List ℕ) (k : ℕ) → IsSearched bits first places k
    → shortest_up_to bits first places (most_split bits) ≡ shorter_option bits first places SecondExtension (Split k)
searched bits first places k is =
    let values = block_values first places in
    let here = cost-split bits first places k in
    search bits first places (most_split bits) k is.shortest.inside
    (λ j below. omega (
      arith,
      here,
      cost-split bits first places j,
      split-first (most_split bits) values k is.shortest j below,
    ))
    (λ j below. omega (
      arith,
      here,
      cost-split bits first places j,
      split-least (most_split bits) values k is.shortest j below,
    ))

-- the three outcomes of the search
pub pairs_are_shortest : (bits : ℕ) (first : Bool) (places : List ℕ) (k : ℕ) → IsSearched bits first places k
    → 1 + length (pairs_string places) ≤ split_length (block_values first places) k
    → shortest_option bits first places ≡ SecondExtension
pairs_are_shortest bits first places k is less =
    let values = block_values first places in
    let n = length values in
    let pairs = cost-pairs bits first places (omega (arith, is.some)) is.clear in
    let split = cost-split bits first places k in
    let uncoded = cost-uncoded bits first places in
    let whole : split_length values k ≤ highs_sum 0 values + n =
    split-within (most_split bits) values k is.shortest in
    let few : highs_sum 0 values < n = elim (cases_lt (highs_sum 0 values) n) [
      | inl below ↦ below
      | inr heavy ↦ absurd (omega
          (arith, whole, less, pairs_are_longer first places (omega (arith, is.some)) is.even is.clear heavy))
    ] in
    let deep : n * 2 ≤ n * bits = mul-le n 2 n bits (omega arith) (omega (arith, is.deep)) in
    shortest_option-is bits first places
    ∙ ap (λ o. shorter_option bits first places o Uncoded) (searched bits first places k is
    ∙ keeps bits first places SecondExtension (Split k) (omega (arith, pairs, split)))
    ∙ keeps bits first places SecondExtension Uncoded (omega (arith, pairs, uncoded, whole, few, deep))

pub split_is_shortest : (bits : ℕ) (first : Bool) (places : List ℕ) (k : ℕ) → IsSearched bits first places k
    → split_length (block_values first places) k < 1 + length (pairs_string places)
    → split_length (block_values first places) k ≤ length (block_values first places) * bits
    → shortest_option bits first places ≡ Split k
split_is_shortest bits first places k is less also =
    let pairs = cost-pairs bits first places (omega (arith, is.some)) is.clear in
    let split = cost-split bits first places k in
    shortest_option-is bits first places
    ∙ ap (λ o. shorter_option bits first places o Uncoded) (searched bits first places k is
    ∙ takes bits first places SecondExtension (Split k) (omega (arith, pairs, split)))
    ∙ keeps bits first places (Split k) Uncoded (omega (arith, split, cost-uncoded bits first places))

pub uncoded_is_shortest : (bits : ℕ) (first : Bool) (places : List ℕ) (k : ℕ) → IsSearched bits first places k
    → split_length (block_values first places) k < 1 + length (pairs_string places)
    → length (block_values first places) * bits < split_length (block_values first places) k
    → shortest_option bits first places ≡ Uncoded
uncoded_is_shortest bits first places k is less also =
    let pairs = cost-pairs bits first places (omega (arith, is.some)) is.clear in
    let split = cost-split bits first places k in
    shortest_option-is bits first places
    ∙ ap (λ o. shorter_option bits first places o Uncoded) (searched bits first places k is
    ∙ takes bits first places SecondExtension (Split k) (omega (arith, pairs, split)))
    ∙ takes bits first places (Split k) Uncoded (omega (arith, split, cost-uncoded bits first places))
