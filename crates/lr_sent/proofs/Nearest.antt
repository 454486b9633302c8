-- A window that holds what a list of bits was sent as is read as that list.
use Rattle.std.proofs.Common.{◌≡◌, ◌⊎◌, inl, inr, ℕ, ℤ, pos, zero, suc, ◌+◌, ◌-◌, ◌*◌, ◌%◌, ◌<◌, ◌≤◌, Bool, true}
use Rattle.std.proofs.Common.{false, List, [], ◌∷◌, ◌++◌, length, take, drop, get_or, map, replicate, reverse, refl}
use Rattle.std.proofs.Common.{sym, ap, subst, ◌∙◌, arith, length-append}
use Rattle.std.proofs.lemmas.List.{drop_at, take_at, take_all, take-append-drop, take_more_same, get_or-take}
use Rattle.std.proofs.lemmas.List.{length-map}
use Rattle.lr_conv.specs.Convolution.{bit, first_symbol, generator_sum, first_generator, code, symbols, second_symbol}
use Rattle.lr_conv.specs.Levels.{last_level, levels}
use Rattle.lr_conv.specs.declared.line.LineCode.{LineCode}
use Rattle.lr_conv.proofs.Lines.{length-levels, levels-append}
use Rattle.lr_conv.specs.Marker.{last_marker_level, marker_end, marker_start}
use Rattle.lr_conv.proofs.SevenBits.{bit_below, bit_same, bit_test}
use Rattle.lr_trellis.specs.Path.{symbol_cost, cost, NotAfter, path_cost, path_levels, IsNearestPath, nearest_path}
use Rattle.lr_trellis.proofs.OnePath.{nearest_path_is_the_one}
use Rattle.lr_make.specs.Symbols.{level}
use Rattle.lr_make.proofs.Coding.{length-symbols, length-code, code-front}
use Rattle.lr_sent.proofs.Turning.{length-marker_end}

-- ---- two lists with one code are the same

-- the newest bit of a place, where six earlier ones are the same
newest_same : (t u : List Bool) (n : ℕ) → take (6 + n) t ≡ take (6 + n) u → first_symbol t n ≡ first_symbol u n →
    get_or t (6 + n) false ≡ get_or u (6 + n) false
newest_same t u n before e =
    let earlier : (k : ℕ) → k < 6 + n → bit (get_or t k false) ≡ bit (get_or u k false) =
    λ k l. ap bit (sym (get_or-take (6 + n) t k false l) ∙ ap (λ z. get_or z k false) before
    ∙ get_or-take (6 + n) u k false l) in
    let sums : generator_sum first_generator t n % 2 ≡ generator_sum first_generator u n % 2 =
    sym (bit_test (generator_sum first_generator t n % 2) (omega arith)) ∙ ap bit e
    ∙ bit_test (generator_sum first_generator u n % 2) (omega arith) in
    let e1 = earlier (6 + n - 1) (omega arith) in
    let e2 = earlier (6 + n - 2) (omega arith) in
    let e3 = earlier (6 + n - 3) (omega arith) in
    let e6 = earlier (6 + n - 6) (omega arith) in
    let low_t = bit_below (get_or t (6 + n - 0) false) in
    let low_u = bit_below (get_or u (6 + n - 0) false) in
    let place : 6 + n - 0 ≡ 6 + n = omega arith in
    bit_same (get_or t (6 + n) false) (get_or u (6 + n) false)
    (subst (λ k. bit (get_or t k false) ≡ bit (get_or u k false)) place (omega arith))

same_bits : (line : LineCode) (t u : List Bool) (n : ℕ) → 6 + n ≤ length t → 6 + n ≤ length u → take 6 t ≡ take 6 u →
    symbols line t n ≡ symbols line u n → take (6 + n) t ≡ take (6 + n) u
same_bits line t u zero k l six e = six
same_bits line t u (suc n) k l six e =
    let front : symbols line t n ≡ symbols line u n =
    sym (take_at (symbols line t n) (first_symbol t n ∷ second_symbol line t n ∷ []) (2 * n)
    (length-symbols line t n)) ∙ ap (take (2 * n)) e
    ∙ take_at (symbols line u n) (first_symbol u n ∷ second_symbol line u n ∷ []) (2 * n)
    (length-symbols line u n) in
    let back : first_symbol t n ∷ second_symbol line t n ∷ [] ≡ first_symbol u n ∷ second_symbol line u n ∷ [] =
    sym (drop_at (symbols line t n) (first_symbol t n ∷ second_symbol line t n ∷ []) (2 * n)
    (length-symbols line t n)) ∙ ap (drop (2 * n)) e
    ∙ drop_at (symbols line u n) (first_symbol u n ∷ second_symbol line u n ∷ []) (2 * n)
    (length-symbols line u n) in
    let before = same_bits line t u n (omega arith) (omega arith) six front in
    let first : first_symbol t n ≡ first_symbol u n = cc in
    let more = take_more_same t u (6 + n) false (omega arith) (omega arith) before (newest_same t u n before first) in
    let place : 6 + suc n ≡ 6 + n + 1 = omega arith in
    cc

one_list : (line : LineCode) (past x y : List Bool) → length past ≡ 6 → length y ≡ length x →
    code line past y ≡ code line past x → y ≡ x
one_list line past x y six e same =
    let n : ℕ = length x in
    let size_x : length (past ++ x) ≡ 6 + n = omega (arith, length-append past x) in
    let size_y : length (past ++ y) ≡ 6 + n = omega (arith, length-append past y) in
    let codes : symbols line (past ++ y) n ≡ symbols line (past ++ x) n =
    ap (symbols line (past ++ y)) (sym e) ∙ same in
    let all : take (6 + n) (past ++ y) ≡ take (6 + n) (past ++ x) =
    same_bits line (past ++ y) (past ++ x) n (omega arith) (omega arith)
    (take_at past y 6 six ∙ sym (take_at past x 6 six)) codes in
    sym (drop_at past y 6 six)
    ∙ ap (drop 6) (sym (take_all (6 + n) (past ++ y) (omega arith)) ∙ all ∙ take_all (6 + n) (past ++ x) (omega arith))
    ∙ drop_at past x 6 six

-- ---- what lists cost

cost_both : (a b : List Bool) (u v : List ℤ) → length a ≡ length u → cost (a ++ b) (u ++ v) ≡ cost a u + cost b v
cost_both [] b [] v e = omega arith
cost_both [] b (s ∷ u) v e = absurd (omega arith)
cost_both (c ∷ a) b [] v e = absurd (omega arith)
cost_both (c ∷ a) b (s ∷ u) v e = omega (arith, cost_both a b u v (omega arith))

-- against its own levels a list costs least, and no other one costs the same
own_least : (x y : List Bool) → length y ≡ length x → cost x (map level x) ≤ cost y (map level x)
own_least [] [] e = omega arith
own_least [] (c ∷ y) e = absurd (omega arith)
own_least (b ∷ x) [] e = absurd (omega arith)
own_least (false ∷ x) (false ∷ y) e = omega (arith, own_least x y (omega arith))
own_least (false ∷ x) (true ∷ y) e = omega (arith, own_least x y (omega arith))
own_least (true ∷ x) (false ∷ y) e = omega (arith, own_least x y (omega arith))
own_least (true ∷ x) (true ∷ y) e = omega (arith, own_least x y (omega arith))

only_own : (x y : List Bool) → length y ≡ length x → cost y (map level x) ≤ cost x (map level x) → y ≡ x
only_own [] [] e l = refl
only_own [] (c ∷ y) e l = absurd (omega arith)
only_own (b ∷ x) [] e l = absurd (omega arith)
only_own (false ∷ x) (false ∷ y) e l = ap (λ z. false ∷ z) (only_own x y (omega arith) (omega arith))
only_own (false ∷ x) (true ∷ y) e l = absurd (omega (arith, own_least x y (omega arith)))
only_own (true ∷ x) (false ∷ y) e l = absurd (omega (arith, own_least x y (omega arith)))
only_own (true ∷ x) (true ∷ y) e l = ap (λ z. true ∷ z) (only_own x y (omega arith) (omega arith))

-- against symbols of 0 all lists cost the same
zero_cost : (b : Bool) → symbol_cost b (pos 0) ≡ 127
zero_cost false = refl
zero_cost true = refl

zeros_same : (x y : List Bool) (n : ℕ) → length y ≡ length x →
    cost x (replicate n (pos 0)) ≡ cost y (replicate n (pos 0))
zeros_same [] [] n e = refl
zeros_same [] (c ∷ y) n e = absurd (omega arith)
zeros_same (b ∷ x) [] n e = absurd (omega arith)
zeros_same (b ∷ x) (c ∷ y) zero e = refl
zeros_same (b ∷ x) (c ∷ y) (suc n) e = omega (arith, zero_cost b, zero_cost c, zeros_same x y n (omega arith))

not_after_self : (x : List Bool) → NotAfter x x
not_after_self [] = tt
not_after_self (false ∷ x) = not_after_self x
not_after_self (true ∷ x) = not_after_self x

-- ---- the window

-- the code of a path and of the six bits after it
abbrev pub path_code : LineCode → List Bool → List Bool
path_code line x = code line (marker_end line) (path_levels line x)

pub length-path_code : (line : LineCode) (x : List Bool) → length (path_code line x) ≡ 2 * length x
length-path_code line x =
    omega (
      arith,
      length-code line (marker_end line) (path_levels line x),
      length-levels line (last_marker_level line) x,
    )

-- more bits after a path leave its symbols
pub path_code-front : (line : LineCode) (x y : List Bool)
    → (rest : List Bool) × (path_code line (x ++ y) ≡ path_code line x ++ rest)
path_code-front line x y =
    let more : List Bool = levels line (last_level (last_marker_level line) (path_levels line x)) y in
    let front = code-front line (marker_end line) (path_levels line x) more (length-marker_end line) in
    (front.0, ap (code line (marker_end line)) (levels-append line (last_marker_level line) x y) ∙ front.1)

module _ (line : LineCode) (x : List Bool) (window : List ℤ) (size : length window ≡ 2 * length x + 12)
    (front : take (2 * length x) window ≡ map level (path_code line x))
    (back : (drop (2 * length x) window ≡ map level (drop (2 * length x) (path_code line (x ++ marker_start)))) ⊎
    (drop (2 * length x) window ≡ replicate 12 (pos 0)))
  where
    -- the last symbols of a list of bits
    abbrev rest : List Bool → List Bool
    rest y = (path_code-front line y marker_start).0

    whole : (y : List Bool) → path_code line (y ++ marker_start) ≡ path_code line y ++ rest y
    whole y = (path_code-front line y marker_start).1

    length-rest : (y : List Bool) → length (rest y) ≡ 12
    length-rest y =
        omega (
          arith,
          ap length (whole y),
          length-append (path_code line y) (rest y),
          length-path_code line y,
          length-path_code line (y ++ marker_start),
          length-append y marker_start,
        )

    cost_is : (y : List Bool) → length y ≡ length x →
        path_cost line window y ≡ cost (path_code line y) (map level (path_code line x))
        + cost (rest y) (drop (2 * length x) window)
    cost_is y e =
        let ends : List ℤ = drop (2 * length x) window in
        let long : length (path_code line y) ≡ length (map level (path_code line x)) =
        omega (arith, length-path_code line y, length-path_code line x, length-map (path_code line x) level) in
        ap (λ z. cost z window) (whole y)
        ∙ ap (cost (path_code line y ++ rest y))
        (sym (take-append-drop (2 * length x) window) ∙ ap (λ z. z ++ ends) front)
        ∙ cost_both (path_code line y) (rest y) (map level (path_code line x)) ends long

    rest_least : (y : List Bool) →
        cost (rest x) (drop (2 * length x) window) ≤ cost (rest y) (drop (2 * length x) window)
    rest_least y =
        let same : length (rest y) ≡ length (rest x) = omega (arith, length-rest x, length-rest y) in
        let own : drop (2 * length x) (path_code line (x ++ marker_start)) ≡ rest x =
        ap (drop (2 * length x)) (whole x)
        ∙ drop_at (path_code line x) (rest x) (2 * length x) (length-path_code line x) in
        elim back [
          | inl levels ↦
              subst (λ z. cost (rest x) z ≤ cost (rest y) z) (sym (levels ∙ ap (map level) own))
              (own_least (rest x) (rest y) same)
          | inr zeros ↦
              subst (λ z. cost (rest x) z ≤ cost (rest y) z) (sym zeros)
              (omega (arith, zeros_same (rest x) (rest y) 12 same))
        ]

    is_nearest : IsNearestPath line window x
    is_nearest = record {
      size = size;
      least = λ y e.
          let long : length (path_code line y) ≡ length (path_code line x) =
          omega (arith, length-path_code line y, length-path_code line x) in
          omega (
            arith,
            cost_is x refl,
            cost_is y e,
            rest_least y,
            own_least (path_code line x) (path_code line y) long,
          );
      first = λ y e same.
          let long : length (path_code line y) ≡ length (path_code line x) =
          omega (arith, length-path_code line y, length-path_code line x) in
          let codes =
          only_own (path_code line x) (path_code line y) long
          (omega (arith, cost_is x refl, cost_is y e, rest_least y)) in
          let long_levels : length (path_levels line y) ≡ length (path_levels line x) =
          omega (arith, length-levels line (last_marker_level line) y, length-levels line (last_marker_level line) x) in
          let levels_same = one_list line (marker_end line) (path_levels line x) (path_levels line y)
          (length-marker_end line) long_levels codes in
          subst (λ z. NotAfter (reverse (path_levels line x)) (reverse z)) (sym levels_same)
          (not_after_self (reverse (path_levels line x)));
    }

    pub nearest_is_sent : nearest_path line window ≡ x
    nearest_is_sent = sym (nearest_path_is_the_one line window x is_nearest)
