-- What the steps from 32 states cost: the costs of the four pairs of symbols, read at literal places.
use Rattle.std.proofs.Common.{arith, ◌∙◌, ◌≡◌, ◌<◌, ◌++◌, ℕ, List, length, get_or}
use Rattle.std.proofs.Math.ListN.{get_or-append}
use Rattle.std.specs.List.{range_with_len}
use Rattle.std.specs.Prelude.{map}
use Rattle.lr_trellis.specs.Words.{branch_by, pair_of}
use Rattle.lr_trellis.proofs.Words.{pair_below}
use Rattle.lr_lanes.proofs.Placed.{placed}

-- by the seven newest levels after the step from each state
unfoldable pub branches : (ℕ → ℕ) → List ℕ → List ℕ
branches seven costs = map (λ k. get_or (costs ++ costs) (pair_of (seven k)) 0) (range_with_len 0 32)

pub get_or-branches : (seven : ℕ → ℕ) (costs : List ℕ) → length costs ≡ 4 → (k : ℕ) → k < 32 →
    get_or (branches seven costs) k 0 ≡ branch_by costs (seven k)
unfolding branches branch_by
get_or-branches seven costs size k l =
    let below = pair_below (seven k) in
    placed (λ k. get_or (costs ++ costs) (pair_of (seven k)) 0) 32 k l
    ∙ get_or-append costs costs 0 (pair_of (seven k)) (omega arith)
