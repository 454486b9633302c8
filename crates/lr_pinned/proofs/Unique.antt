-- The least list of a price is one.
use Rattle.std.proofs.Common.{ap, refl, sym, ◌∙◌, ◌≡◌, ℕ, ℤ, ◌+◌, ◌-◌, ◌*◌, ◌/◌, zero, suc, Bool}
use Rattle.std.proofs.Common.{List, [], ◌∷◌, length, arith}
use Rattle.std.specs.Prelude.{Option, None, replicate}
use Rattle.lr_conv.specs.declared.line.LineCode.{LineCode}
use Rattle.lr_trellis.specs.Path.{nearest_path, path_cost, path_of_levels}
use Rattle.lr_trellis.specs.Path.{IsNearestPath}
use Rattle.lr_trellis.proofs.OnePath.{IsLeast, first_least_same, named_least, one_by_order, only_least}
use Rattle.lr_pinned.specs.Pinned.{misses, pinned_cost, pinned_path, IsPinnedPath}

pub is_named : (line : LineCode) (pins : List (Option Bool)) (w : List ℤ) (x : List Bool) →
    length w ≡ 2 * length x + 12 → IsLeast line (pinned_cost line pins w) x → x ≡ pinned_path line pins w
unfolding pinned_path
is_named line pins w x size p =
    let half : length w / 2 - 6 ≡ length x = omega arith in
    let found = named_least line (pinned_cost line pins w) (length w / 2 - 6) in
    only_least line (pinned_cost line pins w) x _ (found.1 ∙ half) p found.0

-- where the least list agrees, it is the nearest path that does
pub agreeing : (line : LineCode) (pins : List (Option Bool)) (w : List ℤ) (x : List Bool) →
    length w ≡ 2 * length x + 12 → misses pins x ≡ 0 → IsLeast line (pinned_cost line pins w) x →
    IsPinnedPath line pins w x
agreeing line pins w x size none p = record {
  size = size;
  agrees = none;
  least = λ y e a. omega (arith, p.least y e, none, a);
  first = λ y e a same. p.first y e (omega (arith, same, none, a));
}

pub only_pinned : (line : LineCode) (pins : List (Option Bool)) (w : List ℤ) (x y : List Bool) →
    IsPinnedPath line pins w x → IsPinnedPath line pins w y → x ≡ y
only_pinned line pins w x y p q =
    let size : length y ≡ length x = omega (arith, p.size, q.size) in
    let less = p.least y size q.agrees in
    let more = q.least x (sym size) p.agrees in
    let same : path_cost line w y ≡ path_cost line w x = omega arith in
    one_by_order line x y size (p.first y size q.agrees same) (q.first x (sym size) p.agrees (sym same))

-- ---- pins of which none is known
pub free_nearest : (line : LineCode) (pins : List (Option Bool)) (w : List ℤ) (x : List Bool) →
    ((y : List Bool) → misses pins y ≡ 0) → IsPinnedPath line pins w x → IsNearestPath line w x
free_nearest line pins w x free p = record {
  size = p.size;
  least = λ y e. p.least y e (free y);
  first = λ y e same. p.first y e (free y) same;
}

pub free_pinned : (line : LineCode) (pins : List (Option Bool)) (w : List ℤ) (x : List Bool) →
    ((y : List Bool) → misses pins y ≡ 0) → IsNearestPath line w x → IsPinnedPath line pins w x
free_pinned line pins w x free p = record {
  size = p.size;
  agrees = free x;
  least = λ y e a. p.least y e;
  first = λ y e a same. p.first y e same;
}

pub all_free : (n : ℕ) (y : List Bool) → misses (replicate n None) y ≡ 0
all_free zero y = refl
all_free (suc n) [] = refl
all_free (suc n) (b ∷ y) = omega (arith, all_free n y)

pub free_named : (line : LineCode) (pins : List (Option Bool)) (w : List ℤ) →
    ((y : List Bool) → misses pins y ≡ 0) → pinned_path line pins w ≡ nearest_path line w
unfolding pinned_path nearest_path
free_named line pins w free =
    ap (path_of_levels line) (first_least_same (length w / 2 - 6) _ _ (λ y.
    let none = free (path_of_levels line y) in omega arith))
