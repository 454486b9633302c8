use Rattle.std.proofs.Common.{◌≡◌, ◌+◌, ◌-◌, ◌*◌, ◌<◌, ℕ, List, length, take, drop}
use Rattle.std.proofs.Common.{ap, sym, ◌∙◌, subst, arith, inl, inr}
use Rattle.std.proofs.lemmas.Bool.{cases_lt}
use Rattle.lr_rice.specs.CodedLines.{pairs_string}
use Rattle.lr_rice_coder.specs.Costs.{IsShortestSplit}
use Rattle.lr_rice_coder.specs.Shortest.{block_values, most_split}
use Rattle.lr_rice_coder.proofs.CostLemmas.{values_slice}
use Rattle.lr_rice_coder.proofs.SearchLemmas.{IsSearched, pairs_are_shortest, split-within, split_is_shortest}
use Rattle.lr_rice_coder.proofs.SearchLemmas.{split_length, uncoded_is_shortest}
use Rattle.lr_rice_coder.proofs.cost.shortest_option.Goals as goal
use Rattle.lr_rice_coder.proofs.cost.shortest_option.Goals.{After-from, After-shortest_split-split}
use Rattle.lr_rice_coder.proofs.cost.shortest_option.Goals.{Else-has_shorter_pairs}

-- the values of a block as the code cuts them out
abbrev cut : List ℕ → ℕ → List ℕ
cut places skipped = take (length places - skipped) (drop skipped places)

-- the split that was found is the shortest
is_searched : (c : After-shortest_split-split)
    → IsSearched c.args.bits c.args.first c.args.places.now c.shortest_split-split.result.low_bits
is_searched c =
    let k = c.shortest_split-split.result.low_bits in
    let values = values_slice c.args.first c.args.places.now c.from.result c.from.ensures in
    record {
      deep = c.requires.least_bits;
      some = c.requires.some;
      even = c.requires.even;
      clear = c.requires.clear;
      shortest = subst (λ (l : List ℕ). IsShortestSplit (most_split c.args.bits) l k) values
          (subst (λ (m : ℕ). IsShortestSplit m (cut c.args.places.now c.from.result) k) c.most_split.ensures.value
          c.shortest_split-split.ensures.shortest);
    }

-- its length
size_is : (c : After-shortest_split-split) → c.shortest_split-split.result.highs
    + length (cut c.args.places.now c.from.result) * (c.shortest_split-split.result.low_bits + 1)
    ≡ split_length (block_values c.args.first c.args.places.now) c.shortest_split-split.result.low_bits
size_is c =
    let k = c.shortest_split-split.result.low_bits in
    ap (λ (n : ℕ). n + length (cut c.args.places.now c.from.result) * (k + 1)) c.shortest_split-split.ensures.highs
    ∙ ap (λ (l : List ℕ). split_length l k)
    (values_slice c.args.first c.args.places.now c.from.result c.from.ensures)

-- the length of the values as they are
uncoded_is : (c : After-from) → length (cut c.args.places.now c.from.result) * c.args.bits
    ≡ length (block_values c.args.first c.args.places.now) * c.args.bits
uncoded_is c = ap (λ (l : List ℕ). length l * c.args.bits)
    (values_slice c.args.first c.args.places.now c.from.result c.from.ensures)

-- the second extension is longer
pairs_are_longer : (c : Else-has_shorter_pairs) → c.shortest_split-split.result.highs
    + length (cut c.args.places.now c.from.result) * (c.shortest_split-split.result.low_bits + 1)
    < 1 + length (pairs_string c.args.places.now)
pairs_are_longer c = elim (cases_lt _ (1 + length (pairs_string c.args.places.now))) [
  | inl less ↦ less
  | inr more ↦ let is = c.has_shorter_pairs.ensures.1 more in absurd (cc (is, c.if-has_shorter_pairs.false))
]

pub has_shorter_pairs-requires-clause-bound : goal.has_shorter_pairs-requires-clause-bound
has_shorter_pairs-requires-clause-bound c =
    let split = c.shortest_split-split.result in
    omega (
      arith,
      split-within c.most_split.result (cut c.args.places.now c.from.result) split.low_bits
          c.shortest_split-split.ensures.shortest,
      c.shortest_split-split.ensures.highs,
      c.sum_of_highs-sum.ensures.value,
    )

pub returns-then-has_shorter_pairs-clause-value : goal.returns-then-has_shorter_pairs-clause-value
returns-then-has_shorter_pairs-clause-value c =
    let found = (goal.at.returns-then-has_shorter_pairs-clause-value c).After-shortest_split-split in
    sym (pairs_are_shortest c.args.bits c.args.first c.args.places.now _ (is_searched found)
    (omega (arith, size_is found, c.has_shorter_pairs.ensures.0 c.if-has_shorter_pairs.true)))

pub returns-then-count-bits-clause-value : goal.returns-then-count-bits-clause-value
returns-then-count-bits-clause-value c =
    let to = goal.at.returns-then-count-bits-clause-value c in
    let size = size_is to.After-shortest_split-split in
    sym (uncoded_is_shortest c.args.bits c.args.first c.args.places.now _ (is_searched to.After-shortest_split-split)
    (omega (arith, size, pairs_are_longer to.Else-has_shorter_pairs))
    (omega (arith, size, uncoded_is to.After-from, c.if-count-bits.true)))

pub returns-clause-value : goal.returns-clause-value
returns-clause-value c =
    let to = goal.at.returns-clause-value c in
    let size = size_is to.After-shortest_split-split in
    sym (split_is_shortest c.args.bits c.args.first c.args.places.now _ (is_searched to.After-shortest_split-split)
    (omega (arith, size, pairs_are_longer to.Else-has_shorter_pairs))
    (omega (arith, size, uncoded_is to.After-from, c.if-count-bits.false)))
