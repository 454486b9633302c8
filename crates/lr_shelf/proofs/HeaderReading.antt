-- What the first twenty bytes of a disk tell.
use Rattle.std.proofs.Common.{◌≡◌, ◌≤◌, ◌↔◌, inl, inr, ℕ, List, Option, Some, None, IfSome, IfNone}
use Rattle.std.proofs.Common.{MatchOption, IsTrue, is_some, length, take, refl, sym, ◌∙◌, ap, arith}
use Rattle.std.proofs.lemmas.List.{take-take}
use Rattle.lr_shelf_format.specs.Header.{HasHeader}
use Rattle.lr_shelf.specs.Init.{IsTaken}

pub same_header : (xs ys : List ℕ) (capacity : ℕ) → take 20 xs ≡ take 20 ys → 20 ≤ length ys
    → HasHeader xs capacity → HasHeader ys capacity
same_header xs ys capacity same long has = record {
  version = has.version;
  known = has.known;
  allowed = has.allowed;
  whole = long;
  stands = sym (take-take 19 20 ys (omega arith)) ∙ ap (take 19) (sym same) ∙ take-take 19 20 xs (omega arith)
      ∙ has.stands;
}

pub found_there : (header contents : List ℕ) (found : Option ℕ) → take 20 header ≡ take 20 contents
    → 20 ≤ length header → 20 ≤ length contents
    → IfSome found (HasHeader header) → IfNone found ((capacity : ℕ) → HasHeader header capacity → ⊥)
    → MatchOption found ((capacity : ℕ) → HasHeader contents capacity → ⊥) (HasHeader contents)
found_there header contents (Some capacity) same whole long some none =
    same_header header contents capacity same long some
found_there header contents None same whole long some none =
    λ capacity has. none capacity (same_header contents header capacity (sym same) whole has)

pub taken_is : (contents : List ℕ) (found : Option ℕ) → length contents ≡ 20
    → MatchOption found ((capacity : ℕ) → HasHeader contents capacity → ⊥) (HasHeader contents)
    → IsTrue (is_some found) ↔ IsTaken contents
taken_is contents (Some capacity) size has = (λ _. inr (size, (capacity, has)), λ _. refl)
taken_is contents None size none = (
  λ is. cc (is),
  λ taken. elim taken [
    | inl long ↦ absurd (omega (arith, long, size))
    | inr has ↦ absurd (none has.1.0 has.1.1)
  ],
)
