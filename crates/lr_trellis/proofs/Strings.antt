-- From paths through the trellis to the code of a list of levels, which reads by index, and to a list of bits.
use Rattle.std.proofs.Common.{zero-add, ap, subst, sym, refl, ◌∙◌, ◌≡◌, ℕ, ℤ, ◌+◌, ◌*◌, ◌%◌}
use Rattle.std.proofs.Common.{◌<◌, ◌≤◌, suc, Bool, true, false, cond, List, [], ◌∷◌, ◌++◌}
use Rattle.std.proofs.Common.{length, reverse, drop}
use Rattle.std.proofs.Common.{arith, append_assoc, eqb, length-append}
use Rattle.std.proofs.lemmas.List.{reverse-append, length-reverse, reverse-reverse}
use Rattle.std.proofs.lemmas.Bool.{eqb-false, eqb-true}
use Rattle.lr_conv.specs.Convolution.{bit, symbols}
use Rattle.lr_conv.specs.Levels.{last_level, levels, marks_of}
use Rattle.lr_conv.specs.Marker.{last_marker_level, marker, marker_start, marker_end}
use Rattle.lr_conv.specs.declared.line.LineCode.{LineCode}
use Rattle.lr_conv.proofs.Lines.{levels-append, length-levels}
use Rattle.lr_trellis.specs.Path.{cost, path_cost, path_levels}
use Rattle.lr_trellis.specs.Trellis.{branch_of, end_before, end_seven, start_of, start_state, kept_path}
use Rattle.lr_trellis.specs.Trellis.{is_odd}
use Rattle.lr_trellis.specs.declared.costs.TheConstants.{STEP_COST}
use Rattle.lr_trellis.proofs.Best.{number, steps_cost}
use Rattle.lr_trellis.proofs.StringParts.{reverse-cons, steps_cost_is}
use Rattle.lr_trellis.proofs.StringParts.{steps_cost_high}
use Rattle.lr_trellis.proofs.StringParts.{next_marker_levels, newest, five, front_is}
use Rattle.lr_trellis.proofs.StringParts.{length_five_by, end_state_is, end_seven_is}

-- ---- the last level
pub reverse_last : (level : Bool) (y : List Bool) → 0 < length y →
    (g : List Bool) × (reverse y ≡ last_level level y ∷ g)
reverse_last level [] some = absurd (omega arith)
reverse_last level (a ∷ []) some = ([], refl)
reverse_last level (a ∷ b ∷ y) some =
    let rest = reverse_last a (b ∷ y) (omega arith) in
    (rest.0 ++ a ∷ [], reverse-cons a (b ∷ y) ∙ ap (λ z. z ++ a ∷ []) rest.1)

pub without_last : (a b : List Bool) (h l : Bool) → length a ≡ length b → a ++ h ∷ [] ≡ b ++ l ∷ [] → (a ≡ b) × (h ≡ l)
without_last [] [] h l size e = (refl, cc)
without_last [] (c ∷ b) h l size e = absurd (omega arith)
without_last (d ∷ a) [] h l size e = absurd (omega arith)
without_last (d ∷ a) (c ∷ b) h l size e =
    let heads : d ≡ c = cc in
    let tails : a ++ h ∷ [] ≡ b ++ l ∷ [] = cc in
    let rest = without_last a b h l (omega arith) tails in
    (let t = rest.0 in cc, rest.1)

-- ---- the path of a list of bits
abbrev pub back_end : LineCode → List Bool
back_end line = reverse (marker_end line)

-- the level of the last of the bits
abbrev pub last_of : LineCode → List Bool → Bool
last_of line y = last_level (last_marker_level line) (path_levels line y)

-- the path in front of its last step, and the whole path
abbrev pub cut : LineCode → List Bool → List Bool
cut line y = (five line (last_of line y) ++ reverse (path_levels line y)) ++ back_end line

abbrev whole : LineCode → List Bool → List Bool
whole line y = (next_marker_levels line (last_of line y) ++ reverse (path_levels line y)) ++ back_end line

six_back_by : (m : Bool) → length (reverse (drop 26 (cond m (marks_of false marker) marker))) ≡ 6
six_back_by false = refl
six_back_by true = refl

six_back : (line : LineCode) → length (back_end line) ≡ 6
six_back line = six_back_by line.marks

start_by : (m : Bool) → number (reverse (drop 26 (cond m (marks_of false marker) marker))) % 64 ≡ cond m 41 29
start_by false = refl
start_by true = refl

pub start_is : (line : LineCode) → number (back_end line) % 64 ≡ start_state line
start_is line = start_by line.marks

whole_is : (line : LineCode) (y : List Bool) → whole line y ≡ newest line (last_of line y) ∷ cut line y
whole_is line y = ap (λ z. (z ++ reverse (path_levels line y)) ++ back_end line) (front_is line (last_of line y))

string_of_whole : (line : LineCode) (y : List Bool) →
    reverse (whole line y) ≡ marker_end line ++ path_levels line (y ++ marker_start)
string_of_whole line y =
    let z = path_levels line y in
    let behind = levels line (last_of line y) marker_start in
    let e = reverse-append (next_marker_levels line (last_of line y) ++ reverse z) (back_end line) in
    let f = reverse-append (next_marker_levels line (last_of line y)) (reverse z) in
    let g = reverse-reverse z in
    let h = reverse-reverse behind in
    let i = reverse-reverse (marker_end line) in
    let j = levels-append line (last_marker_level line) y marker_start in
    e ∙ ap (λ t. t ++ reverse (next_marker_levels line (last_of line y) ++ reverse z)) i
    ∙ ap (λ t. marker_end line ++ t) (f ∙ ap (λ t. t ++ reverse (next_marker_levels line (last_of line y))) g
    ∙ ap (λ t. z ++ t) h ∙ sym j)

length_front_y : (line : LineCode) (y : List Bool) →
    length (next_marker_levels line (last_of line y) ++ reverse (path_levels line y)) ≡ length (y ++ marker_start)
length_front_y line y =
    omega (
      arith,
      length-append (next_marker_levels line (last_of line y)) (reverse (path_levels line y)),
      length-reverse (levels line (last_of line y) marker_start),
      length-levels line (last_of line y) marker_start,
      length-append y marker_start,
      length-reverse (path_levels line y),
      length-levels line (last_marker_level line) y,
    )

same_by : (s : ℕ) (b : Bool) → eqb s s ≡ b → ◌≡◌ {A = ℕ} (cond b 0 4148329) 0
same_by s true e = refl
same_by s false e = absurd (eqb-false s s e refl)

pub same_start : (s : ℕ) → ◌≡◌ {A = ℕ} (cond (eqb s s) 0 4148329) 0
same_start s = same_by s (eqb s s) refl

start_cost_by : (s t : ℕ) → s ≡ t → ◌≡◌ {A = ℕ} (cond (eqb s t) 0 4148329) 0
start_cost_by s t e = subst (λ k. ◌≡◌ {A = ℕ} (cond (eqb s k) 0 4148329) 0) e (same_start s)

string_cost : (line : LineCode) (w : List ℤ) (y : List Bool) → 2 * length (y ++ marker_start) ≤ length w →
    steps_cost (start_of line) (branch_of line w) (length (y ++ marker_start)) (whole line y) ≡ path_cost line w y
string_cost line w y room =
    let size = length_front_y line y in
    let h = next_marker_levels line (last_of line y) ++ reverse (path_levels line y) in
    let e = steps_cost_is line w (back_end line) (six_back line) h (omega arith) in
    let k = length (y ++ marker_start) in
    let at_size : steps_cost (start_of line) (branch_of line w) k (whole line y) ≡
    start_of line (number (back_end line) % 64) + cost (symbols line (reverse (whole line y)) k) w =
    subst (λ n. steps_cost (start_of line) (branch_of line w) n (whole line y) ≡
    start_of line (number (back_end line) % 64) + cost (symbols line (reverse (whole line y)) n) w) size e in
    let at_string : steps_cost (start_of line) (branch_of line w) k (whole line y) ≡
    start_of line (number (back_end line) % 64) + cost
    (symbols line (marker_end line ++ path_levels line (y ++ marker_start)) k) w =
    subst (λ t. steps_cost (start_of line) (branch_of line w) k (whole line y) ≡
    start_of line (number (back_end line) % 64) + cost (symbols line t k) w) (string_of_whole line y) at_size in
    let none : start_of line (number (back_end line) % 64) ≡ 0 = start_cost_by _ _ (start_is line) in
    let length_is : k ≡ length (path_levels line (y ++ marker_start)) =
    sym (length-levels line (last_marker_level line) (y ++ marker_start)) in
    at_string ∙ ap (λ n. n + cost (symbols line (marker_end line ++ path_levels line (y ++ marker_start)) k) w) none
    ∙ zero-add _ ∙ ap (λ n. cost (symbols line (marker_end line
    ++ path_levels line (y ++ marker_start)) n) w) length_is

pub near_cases : (s t : ℕ) (b : Bool) → eqb s t ≡ b → cond b 0 4148329 ≤ 4148328 → s ≡ t
near_cases s t true e l = eqb-true s t e
near_cases s t false e l = absurd (omega arith)

pub past_by : (m : Bool) (start : ℕ → ℕ) (branch : ℕ → ℕ → ℕ) →
    kept_path start branch 0 (cond m 41 29) ≡ reverse (drop 26 (cond m (marks_of false marker) marker))
past_by false start branch = refl
past_by true start branch = refl

pub odd_by : (m : Bool) → is_odd (cond m 41 29) ≡ last_level false (drop 26 (cond m (marks_of false marker) marker))
odd_by false = refl
odd_by true = refl

-- ---- any list of n bits
module _ (line : LineCode) (n : ℕ) (some : 0 < n) where
  size_of : (y : List Bool) → length y ≡ n → length (y ++ marker_start) ≡ n + 6
  size_of y e = omega (arith, length-append y marker_start)

  pub levels_size : (y : List Bool) → length y ≡ n → length (path_levels line y) ≡ n
  levels_size y e = length-levels line (last_marker_level line) y ∙ e

  pub y_last : (y : List Bool) → length y ≡ n → (g : List Bool) × (reverse (path_levels line y) ≡ last_of line y ∷ g)
  y_last y e = reverse_last (last_marker_level line) (path_levels line y) (omega (arith, levels_size y e))

  front_size : (y : List Bool) → length y ≡ n →
      length (five line (last_of line y) ++ reverse (path_levels line y)) ≡ n + 5
  front_size y e =
      omega (
        arith,
        length-append (five line (last_of line y)) (reverse (path_levels line y)),
        length_five_by line.marks (last_of line y),
        length-reverse (path_levels line y),
        levels_size y e,
      )

  pub cut_size : (y : List Bool) → length y ≡ n → length (cut line y) ≡ n + 5 + 6
  cut_size y e =
      omega (
        arith,
        length-append (five line (last_of line y) ++ reverse (path_levels line y)) (back_end line),
        front_size y e,
        six_back line,
      )

  pub cut_state : (y : List Bool) → length y ≡ n → number (cut line y) % 64 ≡ end_before line (last_of line y)
  cut_state y e =
      let k = last_of line y in
      let g = (y_last y e).0 in
      ap (λ z. number z % 64) (append_assoc (five line k) (reverse (path_levels line y)) (back_end line)
      ∙ ap (λ z. five line k ++ (z ++ back_end line)) (y_last y e).1) ∙ end_state_is line k (g ++ back_end line)

-- the last step costs what the window says
abbrev pub last_step_of : LineCode → List ℤ → ℕ → Bool → ℕ
last_step_of line w n l = branch_of line w (n + 5) (end_seven line l)

-- what it costs against a window
module _ (line : LineCode) (w : List ℤ) (n : ℕ) (some : 0 < n) (long : length w ≡ 2 * n + 12) where
  pub plain_cost : (y : List Bool) → length y ≡ n → path_cost line w y ≡
      steps_cost (start_of line) (branch_of line w) (n + 5) (cut line y) + last_step_of line w n (last_of line y)
  plain_cost y e =
      let k = last_of line y in
      let steps : length (y ++ marker_start) ≡ suc (n + 5) = omega (arith, size_of line n some y e) in
      let all : steps_cost (start_of line) (branch_of line w) (suc (n + 5)) (whole line y) ≡ path_cost line w y =
      subst (λ m. steps_cost (start_of line) (branch_of line w) m (whole line y) ≡ path_cost line w y) steps
      (string_cost line w y (omega (arith, size_of line n some y e))) in
      let parts : steps_cost (start_of line) (branch_of line w) (suc (n + 5)) (whole line y) ≡
      steps_cost (start_of line) (branch_of line w) (n + 5) (cut line y)
      + branch_of line w (n + 5) (2 * (number (cut line y) % 64) + bit (newest line k)) =
      ap (steps_cost (start_of line) (branch_of line w) (suc (n + 5))) (whole_is line y) in
      let at : 2 * (number (cut line y) % 64) + bit (newest line k) ≡ end_seven line k =
      ap (λ s. 2 * s + bit (newest line k)) (cut_state line n some y e) ∙ end_seven_is line k in
      sym all ∙ parts ∙ ap (λ m. steps_cost (start_of line) (branch_of line w) (n + 5) (cut line y)
      + branch_of line w (n + 5) m) at

  pub plain_most : ((i m : ℕ) → i < n + 5 → branch_of line w i m ≤ STEP_COST) →
      ((m : ℕ) → branch_of line w (n + 5) m ≤ STEP_COST) → (y : List Bool) → length y ≡ n →
      path_cost line w y ≤ STEP_COST * (n + 6)
  plain_most most last_most y e =
      let start = start_of line in
      let f = five line (last_of line y) ++ reverse (path_levels line y) in
      let high_0 = steps_cost_high start (branch_of line w) (n + 5) most f (back_end line)
      (omega (arith, front_size line n some y e)) in
      let high : steps_cost start (branch_of line w) (n + 5) (cut line y) ≤ start (number (back_end line) % 64)
      + STEP_COST * (n + 5) =
      subst (λ k. steps_cost start (branch_of line w) k (cut line y) ≤ start (number (back_end line) % 64)
      + STEP_COST * k) (front_size line n some y e) high_0 in
      let none : start (number (back_end line) % 64) ≡ 0 = start_cost_by _ _ (start_is line) in
      omega (arith, plain_cost y e, high, none, last_most (end_seven line (last_of line y)))
