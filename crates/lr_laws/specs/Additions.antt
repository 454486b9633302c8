-- What the commands that add an item decide of each shelf: one thing.
use Rattle.std.specs.Prelude.{◌≡◌, ◌<◌, ℕ, List, All, Result}
use Rattle.lr_shelf_format.specs.Way.{Way, IsWay}
use Rattle.lr_rice_coder.specs.Coded.{IsBlockSize}
use Rattle.lr_causes.specs.declared.cause.Refusal.{Refusal}
use Rattle.lr_cmd_shelf.specs.Adding.{Addition, AdditionQuery}
use Rattle.lr_cmd_shelf.specs.Discard.{discard_query}
use Rattle.lr_cmd_shelf.specs.Repack.{repack_query}

-- it decides something of these bytes, which have this way
abbrev pub HasDecision : AdditionQuery → List ℕ → Way → Type 0
HasDecision query bytes way = (result : Result Addition Refusal) × query.decides bytes way result

-- and nothing else
abbrev pub IsDecidedOnce : AdditionQuery → List ℕ → Way → Type 0
IsDecidedOnce query bytes way =
    (one other : Result Addition Refusal) → query.decides bytes way one → query.decides bytes way other → one ≡ other

abbrev pub AdditionsAreDecided : Type 0
AdditionsAreDecided =
    (bytes : List ℕ) (way : Way) (number block : ℕ) → All (λ byte. byte < 256) bytes → IsWay bytes way
    → IsBlockSize block
    → HasDecision (discard_query number) bytes way × HasDecision (repack_query number block) bytes way

abbrev pub AdditionsAreOne : Type 0
AdditionsAreOne =
    (bytes : List ℕ) (way : Way) (number block : ℕ) → IsDecidedOnce (discard_query number) bytes way
    × IsDecidedOnce (repack_query number block) bytes way
