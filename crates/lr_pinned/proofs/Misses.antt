-- Known bits that a path misses, as the costs of its steps.
use Rattle.std.proofs.Common.{ap, refl, subst, ◌∙◌, ◌≡◌, ℕ, ℤ, ◌+◌, ◌*◌, ◌/◌, ◌%◌, ◌≤◌, zero, suc}
use Rattle.std.proofs.Common.{Bool, true, false, cond, eqb, List, [], ◌∷◌, ◌++◌, length, reverse, drop, arith}
use Rattle.std.proofs.Common.{append_assoc}
use Rattle.std.specs.Prelude.{Option, Some, None}
use Rattle.std.proofs.lemmas.List.{get_or_past, reverse-append}
use Rattle.lr_conv.specs.Convolution.{bit}
use Rattle.lr_conv.specs.Levels.{bit_of_level, changed_by, level_of, levels}
use Rattle.lr_conv.specs.Marker.{last_marker_level}
use Rattle.lr_conv.specs.declared.line.LineCode.{LineCode}
use Rattle.lr_conv.proofs.Lines.{levels-cons, levels-nil}
use Rattle.lr_conv.proofs.SevenBits.{bit_below}
use Rattle.lr_trellis.specs.Path.{path_levels}
use Rattle.lr_trellis.specs.Trellis.{branch_of, is_odd, start_of}
use Rattle.lr_trellis.proofs.Best.{number, steps_cost}
use Rattle.lr_trellis.proofs.StringParts.{five, length_five_by}
use Rattle.lr_trellis.proofs.Strings.{back_end, cut, last_of, odd_by, start_is}
use Rattle.lr_pinned.specs.Pinned.{miss, misses}
use Rattle.lr_pinned.specs.Steps.{pin_at, pin_cost, pinned_branch}

-- ---- bits and levels
bit_back_by : (m level b : Bool) →
    cond m (changed_by level (cond m (changed_by b level) b)) (cond m (changed_by b level) b) ≡ b
bit_back_by false level b = refl
bit_back_by true false false = refl
bit_back_by true false true = refl
bit_back_by true true false = refl
bit_back_by true true true = refl

bit_of_level_of : (line : LineCode) (level b : Bool) → bit_of_level line level (level_of line level b) ≡ b
bit_of_level_of line level b = bit_back_by line.marks level b

odd_of : (t : ℕ) (b : Bool) → is_odd (2 * t + bit b) ≡ b
odd_of t true = let e : (2 * t + 1) % 2 ≡ 1 = omega arith in ap (λ x. eqb x 1) e
odd_of t false = let e : (2 * t + 0) % 2 ≡ 0 = omega arith in ap (λ x. eqb x 1) e

odd_half : (t : ℕ) (b : Bool) → is_odd ((2 * t + bit b) / 2) ≡ is_odd t
odd_half t b = let low = bit_below b in let e : (2 * t + bit b) / 2 ≡ t = omega arith in ap is_odd e

pub miss_most : (pin : Option Bool) (b : Bool) → miss pin b ≤ 1
miss_most None b = omega arith
miss_most (Some true) true = omega arith
miss_most (Some true) false = omega arith
miss_most (Some false) true = omega arith
miss_most (Some false) false = omega arith

-- the bit that is known, and a 0 where none is
abbrev pub wanted : Option Bool → Bool
wanted None = false
wanted (Some b) = b

pub wanted_kept : (pin : Option Bool) → miss pin (wanted pin) ≡ 0
wanted_kept None = refl
wanted_kept (Some true) = refl
wanted_kept (Some false) = refl

-- what a step to seven levels costs for its pin, by the bit that leads to them
pub pin_cost_of : (line : LineCode) (pin : Option Bool) (t : ℕ) (b : Bool) →
    pin_cost line pin (2 * t + bit (level_of line (is_odd t) b)) ≡ 4148329 * miss pin b
pin_cost_of line pin t b =
    let level = level_of line (is_odd t) b in
    ap (λ z. 4148329 * miss pin (bit_of_level line z (is_odd (2 * t + bit level)))) (odd_half t level)
    ∙ ap (λ z. 4148329 * miss pin (bit_of_level line (is_odd t) z)) (odd_of t level)
    ∙ ap (λ z. 4148329 * miss pin z) (bit_of_level_of line (is_odd t) b)

-- ---- a list that misses none
abbrev pub filled : List (Option Bool) → List Bool
filled [] = []
filled (pin ∷ pins) = wanted pin ∷ filled pins

pub length-filled : (pins : List (Option Bool)) → length (filled pins) ≡ length pins
length-filled [] = refl
length-filled (pin ∷ pins) = omega (arith, length-filled pins)

pub filled_agrees : (pins : List (Option Bool)) → misses pins (filled pins) ≡ 0
filled_agrees [] = refl
filled_agrees (pin ∷ pins) = omega (arith, wanted_kept pin, filled_agrees pins)

-- ---- the misses from a place on
pub no_bits_miss : (pins : List (Option Bool)) → misses pins [] ≡ 0
no_bits_miss [] = refl
no_bits_miss (pin ∷ pins) = refl

misses_at : (pins : List (Option Bool)) (k : ℕ) (b : Bool) (y : List Bool) →
    misses (drop k pins) (b ∷ y) ≡ miss (pin_at pins k) b + misses (drop (suc k) pins) y
misses_at [] zero b y = refl
misses_at [] (suc k) b y = refl
misses_at (pin ∷ pins) zero b y = refl
misses_at (pin ∷ pins) (suc k) b y = misses_at pins k b y

abbrev no_start : ℕ → ℕ
no_start s = 0

-- the first of some levels stands last in reverse
first_last : (b : Bool) (d k : List Bool) → reverse (b ∷ d) ++ k ≡ reverse d ++ (b ∷ k)
first_last b d k = ap (λ z. z ++ k) (reverse-append (b ∷ []) d) ∙ append_assoc (reverse d) (b ∷ []) k

abbrev pins_cost : LineCode → List (Option Bool) → ℕ → ℕ → ℕ
pins_cost line pins i m = pin_cost line (pin_at pins i) m

module _ (line : LineCode) (pins : List (Option Bool)) where
  -- the two parts of a path's cost
  pub two_parts : (w : List ℤ) (i : ℕ) (h : List Bool) →
      steps_cost (start_of line) (pinned_branch line pins w) i h ≡
      steps_cost (start_of line) (branch_of line w) i h + steps_cost no_start (pins_cost line pins) i h
  unfolding pinned_branch
  two_parts w zero h = omega arith
  two_parts w (suc i) [] = refl
  two_parts w (suc i) (b ∷ h) = omega (arith, two_parts w i h)

  -- steps behind the pins
  behind : (n : ℕ) → length pins ≤ n → (a p : List Bool) →
      steps_cost no_start (pins_cost line pins) (length a + n) (a ++ p) ≡ steps_cost no_start (pins_cost line pins) n p
  behind n l [] p = ap (λ k. steps_cost no_start (pins_cost line pins) k p) (let e : 0 + n ≡ n = omega arith in e)
  behind n l (b ∷ a) p =
      let k = length a + n in
      let m = 2 * (number (a ++ p) % 64) + bit b in
      let none : pin_at pins k ≡ None = get_or_past pins k None (omega arith) in
      let free : pins_cost line pins k m ≡ 0 = ap (λ pin. pin_cost line pin m) none in
      let at : length (b ∷ a) + n ≡ suc k = omega arith in
      ap (λ j. steps_cost no_start (pins_cost line pins) j (b ∷ (a ++ p))) at
      ∙ ap (λ c. steps_cost no_start (pins_cost line pins) k (a ++ p) + c) free
      ∙ (let e : steps_cost no_start (pins_cost line pins) k (a ++ p) + 0 ≡
      steps_cost no_start (pins_cost line pins) k (a ++ p) = omega arith in e) ∙ behind n l a p

  -- the levels of some bits
  along : (y : List Bool) (z : Bool) (k : ℕ) (p : List Bool) → is_odd (number p % 64) ≡ z →
      steps_cost no_start (pins_cost line pins) (length y + k) (reverse (levels line z y) ++ p) ≡
      steps_cost no_start (pins_cost line pins) k p + 4148329 * misses (drop k pins) y
  along [] z k p e =
      let at : 0 + k ≡ k = omega arith in
      let none : misses (drop k pins) [] ≡ 0 = no_bits_miss (drop k pins) in
      let same : steps_cost no_start (pins_cost line pins) (0 + k) (reverse (levels line z []) ++ p) ≡
      steps_cost no_start (pins_cost line pins) k p =
      ap (λ x. steps_cost no_start (pins_cost line pins) (0 + k) (reverse x ++ p)) (levels-nil line z)
      ∙ ap (λ j. steps_cost no_start (pins_cost line pins) j p) at in
      omega (arith, same, none)
  along (b ∷ y) z k p e =
      let c = level_of line z b in
      let t = number p % 64 in
      let newest : is_odd (number (c ∷ p) % 64) ≡ c =
      let half : number (c ∷ p) % 64 ≡ 2 * (number p % 32) + bit c = (let l = bit_below c in omega arith) in
      ap is_odd half ∙ odd_of (number p % 32) c in
      let rest = along y c (suc k) (c ∷ p) newest in
      let at : length (b ∷ y) + k ≡ length y + suc k = omega arith in
      let moved : reverse (levels line z (b ∷ y)) ++ p ≡ reverse (levels line c y) ++ (c ∷ p) =
      ap (λ x. reverse x ++ p) (levels-cons line z b y) ∙ first_last c (levels line c y) p in
      let whole :
      steps_cost no_start (pins_cost line pins) (length (b ∷ y) + k) (reverse (levels line z (b ∷ y)) ++ p) ≡
      steps_cost no_start (pins_cost line pins) (length y + suc k) (reverse (levels line c y) ++ (c ∷ p)) =
      ap (λ j. steps_cost no_start (pins_cost line pins) j (reverse (levels line z (b ∷ y)) ++ p)) at
      ∙ ap (λ x. steps_cost no_start (pins_cost line pins) (length y + suc k) x) moved in
      let here : pins_cost line pins k (2 * t + bit c) ≡ 4148329 * miss (pin_at pins k) b =
      subst (λ v. pins_cost line pins k (2 * t + bit (level_of line v b)) ≡ 4148329 * miss (pin_at pins k) b) e
      (pin_cost_of line (pin_at pins k) t b) in
      let counted = misses_at pins k b y in
      omega (arith, whole, rest, here, counted)

  newest_back : is_odd (number (back_end line) % 64) ≡ last_marker_level line
  newest_back = ap is_odd (start_is line) ∙ odd_by line.marks

  -- the path of a list of bits, in front of its last step
  pub missed : (n : ℕ) → length pins ≤ n → (y : List Bool) → length y ≡ n →
      steps_cost no_start (pins_cost line pins) (n + 5) (cut line y) ≡ 4148329 * misses pins y
  missed n l y e =
      let f = five line (last_of line y) in
      let r = reverse (path_levels line y) in
      let parts : cut line y ≡ f ++ (r ++ back_end line) = append_assoc f r (back_end line) in
      let at : n + 5 ≡ length f + n = omega (arith, length_five_by line.marks (last_of line y)) in
      let n_is : n ≡ length y + 0 = omega arith in
      let whole : steps_cost no_start (pins_cost line pins) (n + 5) (cut line y) ≡
      steps_cost no_start (pins_cost line pins) 0 (back_end line) + 4148329 * misses (drop 0 pins) y =
      ap (λ x. steps_cost no_start (pins_cost line pins) (n + 5) x) parts
      ∙ ap (λ j. steps_cost no_start (pins_cost line pins) j (f ++ (r ++ back_end line))) at
      ∙ behind n l f (r ++ back_end line)
      ∙ ap (λ j. steps_cost no_start (pins_cost line pins) j (r ++ back_end line)) n_is
      ∙ along y (last_marker_level line) 0 (back_end line) newest_back in
      omega (arith, whole)
