-- What is read back from the end that costs less has the least price, whatever the steps cost.
use Rattle.std.proofs.Common.{ap, subst, sym, refl, ◌∙◌, ◌≡◌, ℕ, ℤ, ◌+◌, ◌*◌, ◌%◌}
use Rattle.std.proofs.Common.{◌<◌, ◌≤◌, zero, suc, Bool, true, false, List, [], ◌∷◌, ◌++◌}
use Rattle.std.proofs.Common.{length, reverse, slice_index}
use Rattle.std.proofs.Common.{arith, append_assoc, eqb, ltb, length-append}
use Rattle.std.proofs.lemmas.List.{length-reverse}
use Rattle.std.proofs.lemmas.Bool.{ltb-true, ltb-false}
use Rattle.lr_conv.specs.Levels.{last_level, levels}
use Rattle.lr_conv.specs.Marker.{last_marker_level}
use Rattle.lr_conv.specs.declared.line.LineCode.{LineCode}
use Rattle.lr_conv.proofs.Lines.{length-levels}
use Rattle.lr_trellis.specs.Path.{path_cost, path_levels, NotAfter, IsNearestPath}
use Rattle.lr_trellis.specs.Trellis.{least_cost, branch_of, end_before, end_seven, start_of, start_state, kept_path}
use Rattle.lr_trellis.specs.Trellis.{is_odd, older_bit, read_back, state_before}
use Rattle.lr_trellis.specs.declared.costs.TheConstants.{STEP_COST}
use Rattle.lr_trellis.proofs.Best.{number, steps_cost, IsBest, kept_is_best}
use Rattle.lr_trellis.proofs.Words.{state_before_low}
use Rattle.lr_trellis.proofs.OnePath.{IsLeast, nearest_of, none_is_least}
use Rattle.lr_trellis.proofs.Strings.{back_end, cut, cut_size, cut_state, last_of, last_step_of, levels_size}
use Rattle.lr_trellis.proofs.Strings.{near_cases, odd_by, past_by, plain_cost, plain_most, reverse_last, without_last}
use Rattle.lr_trellis.proofs.Strings.{y_last}
use Rattle.lr_trellis.specs.Words.{branch_by, end_cost, last_one}
use Rattle.lr_trellis.proofs.StringParts.{strip_front, strip_back}
use Rattle.lr_trellis.proofs.StringParts.{number_inj, number_six, steps_cost_low}
use Rattle.lr_trellis.proofs.StringParts.{five}
use Rattle.lr_trellis.proofs.StringParts.{length_five_by, end_state_is}
use Rattle.lr_trellis.proofs.StringParts.{end_before_low}

-- the cost of the best path to the end whose last bit has the level l
abbrev pub end_least : LineCode → (ℕ → ℕ → ℕ) → (Bool → ℕ) → ℕ → Bool → ℕ
end_least line branch last_step n l = least_cost (start_of line) branch (n + 5) (end_before line l) + last_step l

not_dearer : (e : Bool → ℕ) (l : Bool) → l ≡ ltb (e true) (e false) → (k : Bool) → e l ≤ e k
not_dearer e true chosen true = omega arith
not_dearer e true chosen false = omega (arith, ltb-true (e true) (e false) (sym chosen))
not_dearer e false chosen true = ltb-false (e true) (e false) (sym chosen)
not_dearer e false chosen false = omega arith

-- which of two paths is first, by their last levels
first_by : (e : Bool → ℕ) (l k : Bool) (h g : List Bool) (price : ℕ) → l ≡ ltb (e true) (e false) → e l ≡ price →
    e k ≤ price → (l ≡ k → NotAfter (l ∷ h) (k ∷ g)) → NotAfter (l ∷ h) (k ∷ g)
first_by e true true h g price chosen mine other same = same refl
first_by e false false h g price chosen mine other same = same refl
first_by e false true h g price chosen mine other same = tt
first_by e true false h g price chosen mine other same =
    absurd (omega (arith, ltb-true (e true) (e false) (sym chosen)))

-- A price is that of a path's steps, and some list of n bits costs less than to begin in another state.
pub record IsPriced (line : LineCode) (price : List Bool → ℕ) (branch : ℕ → ℕ → ℕ) (last_step : Bool → ℕ)
    (n : ℕ) : Type 0 where
  pub steps : (y : List Bool) → length y ≡ n →
      price y ≡ steps_cost (start_of line) branch (n + 5) (cut line y) + last_step (last_of line y)
  pub cheap : List Bool
  pub cheap_size : length cheap ≡ n
  pub cheap_price : price cheap ≤ 4148328

-- ---- what is read back from the end that costs less has the least price
module _
    (line : LineCode)
    (price : List Bool → ℕ)
    (branch : ℕ → ℕ → ℕ)
    (last_step : Bool → ℕ)
    (n : ℕ)
    (x tail : List Bool)
    (s1 s0 : ℕ)
    (l : Bool)
    (priced : IsPriced line price branch last_step n)
    (some : 0 < n)
    (size : length x ≡ n)
    (five_tail : length tail ≡ 5)
    (low : s0 < 64)
    (chosen : l ≡ ltb (end_least line branch last_step n true) (end_least line branch last_step n false))
    (end_walk : kept_path (start_of line) branch (n + 5) (end_before line l) ≡
    reverse tail ++ kept_path (start_of line) branch n s1)
    (data_walk : kept_path (start_of line) branch n s1 ≡
    reverse (levels line (is_odd s0) x) ++ kept_path (start_of line) branch 0 s0)
  where
    abbrev start : ℕ → ℕ
    start = start_of line

    abbrev ends_at : Bool → ℕ
    ends_at = end_least line branch last_step n

    abbrev found : List Bool
    found = kept_path start branch (n + 5) (end_before line l)

    abbrev past : List Bool
    past = kept_path start branch 0 s0

    -- the levels read back
    abbrev own : List Bool
    own = levels line (is_odd s0) x

    best_at : (k : Bool) →
        IsBest start branch (n + 5) (end_before line k) (kept_path start branch (n + 5) (end_before line k))
    best_at k = kept_is_best start branch (n + 5) (end_before line k) (end_before_low line k)

    best_past : IsBest start branch 0 s0 past
    best_past = kept_is_best start branch 0 s0 low

    split : found ≡ (reverse tail ++ reverse own) ++ past
    split = end_walk ∙ ap (λ z. reverse tail ++ z) data_walk ∙ sym (append_assoc (reverse tail) (reverse own) past)

    own_size : length own ≡ n
    own_size = length-levels line (is_odd s0) x ∙ size

    own_last : (g : List Bool) × (reverse own ≡ last_level (is_odd s0) own ∷ g)
    own_last = reverse_last (is_odd s0) own (omega (arith, own_size))

    -- the five known levels, and the last one of the bits
    ends : (reverse tail ≡ five line l) × (last_level (is_odd s0) own ≡ l)
    ends =
        let rt = reverse tail in
        let h = last_level (is_odd s0) own in
        let g = own_last.0 in
        let size_rt : length rt ≡ 5 = length-reverse tail ∙ five_tail in
        let size_five : length (five line l) ≡ 5 = length_five_by line.marks l in
        let six : length (rt ++ h ∷ []) ≡ 6 = omega (arith, length-append rt (h ∷ [])) in
        let six_five : length (five line l ++ l ∷ []) ≡ 6 = omega (arith, length-append (five line l) (l ∷ [])) in
        let read : found ≡ (rt ++ h ∷ []) ++ (g ++ past) =
        split ∙ ap (λ z. (rt ++ z) ++ past) own_last.1 ∙ append_assoc rt (h ∷ g) past
        ∙ sym (append_assoc rt (h ∷ []) (g ++ past)) in
        let mine : number (rt ++ h ∷ []) ≡ end_before line l =
        sym (number_six (rt ++ h ∷ []) (g ++ past) six) ∙ ap (λ z. number z % 64) (sym read) ∙ (best_at l).state in
        let theirs : number (five line l ++ l ∷ []) ≡ end_before line l =
        sym (number_six (five line l ++ l ∷ []) [] six_five)
        ∙ ap (λ z. number z % 64) (append_assoc (five line l) (l ∷ []) []) ∙ end_state_is line l [] in
        without_last rt (five line l) h l (omega arith) (number_inj (rt ++ h ∷ []) (five line l ++ l ∷ [])
        (omega arith)
        (mine ∙ sym theirs))

    -- it costs no less than the best path to its end
    cost_low : (y : List Bool) → length y ≡ n → ends_at (last_of line y) ≤ price y
    cost_low y e =
        omega (
          arith,
          priced.steps y e,
          (best_at (last_of line y)).least (cut line y) (cut_size line n some y e) (cut_state line n some y e),
          (best_at (last_of line y)).cost,
        )

    end_cheap : ends_at l ≤ 4148328
    end_cheap =
        omega (
          arith,
          not_dearer ends_at l chosen (last_of line priced.cheap),
          cost_low priced.cheap priced.cheap_size,
          priced.cheap_price,
        )

    -- ---- the path that is read back begins in the marker's state
    start_low : start s0 ≤ 4148328
    start_low =
        let rt = reverse tail in
        let rx = reverse own in
        let len : length (rt ++ rx) ≡ n + 5 =
        omega (arith, length-append rt rx, length-reverse tail, length-reverse own, own_size) in
        let low_0 = steps_cost_low start branch (rt ++ rx) past in
        let low_1 : start (number past % 64) ≤ steps_cost start branch (n + 5) ((rt ++ rx) ++ past) =
        subst (λ k. start (number past % 64) ≤ steps_cost start branch k ((rt ++ rx) ++ past)) len low_0 in
        let low_2 : start (number past % 64) ≤ steps_cost start branch (n + 5) found =
        subst (λ z. start (number past % 64) ≤ steps_cost start branch (n + 5) z) (sym split) low_1 in
        let owned = ap start best_past.state in
        omega (arith, owned, low_2, (best_at l).cost, end_cheap)

    start_found : s0 ≡ start_state line
    start_found = near_cases s0 (start_state line) (eqb s0 (start_state line)) refl start_low

    past_is : past ≡ back_end line
    past_is = ap (kept_path start branch 0) start_found ∙ past_by line.marks start branch

    level_found : is_odd s0 ≡ last_marker_level line
    level_found = ap is_odd start_found ∙ odd_by line.marks

    own_is : own ≡ path_levels line x
    own_is = ap (λ z. levels line z x) level_found

    last_found : last_of line x ≡ l
    last_found = sym (ap (λ z. last_level z (levels line z x)) level_found) ∙ ends.1

    found_is : found ≡ cut line x
    found_is =
        split ∙ ap (λ z. (z ++ reverse own) ++ past) (ends.0 ∙ ap (five line) (sym last_found))
        ∙ ap (λ z. (five line (last_of line x) ++ reverse z) ++ past) own_is
        ∙ ap (λ z. (five line (last_of line x) ++ reverse (path_levels line x)) ++ z) past_is

    own_cost : price x ≡ ends_at l
    own_cost =
        let a = priced.steps x size in
        let b : steps_cost start branch (n + 5) (cut line x) ≡ least_cost start branch (n + 5) (end_before line l) =
        ap (steps_cost start branch (n + 5)) (sym found_is) ∙ (best_at l).cost in
        a ∙ ap (λ k. steps_cost start branch (n + 5) (cut line x) + last_step k) last_found
        ∙ ap (λ k. k + last_step l) b

    least_of : (y : List Bool) → length y ≡ n → price x ≤ price y
    least_of y e = omega (arith, own_cost, cost_low y e, not_dearer ends_at l chosen (last_of line y))

    -- among those of its last level that cost the same, it is the first
    first_of_level : (y : List Bool) → length y ≡ n → price y ≡ price x → l ≡ last_of line y →
        NotAfter (reverse (path_levels line x)) (reverse (path_levels line y))
    first_of_level y e same level =
        let state : number (cut line y) % 64 ≡ end_before line l =
        cut_state line n some y e ∙ ap (end_before line) (sym level) in
        let cost : steps_cost start branch (n + 5) (cut line y) ≡ steps_cost start branch (n + 5) found =
        omega (arith, priced.steps y e, same, own_cost, (best_at l).cost, ap last_step level) in
        let order : NotAfter found (cut line y) =
        (best_at l).first (cut line y) (cut_size line n some y e) state cost in
        let order_x : NotAfter ((five line l ++ reverse (path_levels line x)) ++ back_end line)
        ((five line l ++ reverse (path_levels line y)) ++ back_end line) =
        subst (λ k. NotAfter ((five line l ++ reverse (path_levels line x)) ++ back_end line)
        ((five line k ++ reverse (path_levels line y)) ++ back_end line)) (sym level)
        (subst (λ k. NotAfter ((five line k ++ reverse (path_levels line x)) ++ back_end line)
        (cut line y)) last_found (subst (λ z. NotAfter z (cut line y)) found_is order)) in
        let len : length (five line l ++ reverse (path_levels line x)) ≡
        length (five line l ++ reverse (path_levels line y)) =
        omega (
          arith,
          length-append (five line l) (reverse (path_levels line x)),
          length-append (five line l) (reverse (path_levels line y)),
          length-reverse (path_levels line x),
          length-reverse (path_levels line y),
          levels_size line n some x size,
          levels_size line n some y e,
        ) in
        strip_front (five line l) (reverse (path_levels line x)) (reverse (path_levels line y))
        (strip_back (five line l ++ reverse (path_levels line x)) (five line l ++ reverse (path_levels line y))
        (back_end line) len order_x)

    first_of_equals : (y : List Bool) → length y ≡ n → price y ≡ price x →
        NotAfter (reverse (path_levels line x)) (reverse (path_levels line y))
    first_of_equals y e same =
        let k = last_of line y in
        let hx = y_last line n some x size in
        let hy = y_last line n some y e in
        let mine : reverse (path_levels line x) ≡ l ∷ hx.0 = hx.1 ∙ ap (λ z. z ∷ hx.0) last_found in
        let decided : NotAfter (l ∷ hx.0) (k ∷ hy.0) =
        first_by ends_at l k hx.0 hy.0 (price x) chosen (sym own_cost)
        (omega (arith, cost_low y e, same))
        (λ level. subst (λ z. NotAfter (l ∷ hx.0) z) hy.1
        (subst (λ z. NotAfter z (reverse (path_levels line y))) mine (first_of_level y e same level))) in
        subst (λ z. NotAfter z (reverse (path_levels line y))) (sym mine)
        (subst (λ z. NotAfter (l ∷ hx.0) z) (sym hy.1) decided)

    is_least : IsLeast line price x
    is_least = record {
      least = λ y e. least_of y (e ∙ size);
      first = λ y e same. first_of_equals y (e ∙ size) same;
    }

-- ---- what is read back by decisions
module _ (d e : ℕ → ℕ → Bool) where
  read_back_same : (n : ℕ) → ((i s : ℕ) → i < n → s < 64 → d i s ≡ e i s) → (s : ℕ) → s < 64 →
      read_back d n s ≡ read_back e n s
  read_back_same zero same s l = refl
  read_back_same (suc n) same s l =
      let here = same n s (omega arith) l in
      let rest =
      read_back_same n (λ i t m. same i t (omega arith)) (state_before (d n s) s) (state_before_low (d n s) s l) in
      ap (λ z. is_odd s ∷ z) (rest ∙ ap (λ t. read_back e n (state_before t s)) here)

-- The list that is read back from the end that costs less, by the decisions of the best paths, has the least price.
pub read_is_least : (line : LineCode) (price : List Bool → ℕ) (branch : ℕ → ℕ → ℕ) (last_step : Bool → ℕ)
    (d : ℕ → ℕ → Bool) (n : ℕ) (x tail : List Bool) (s1 s0 : ℕ) (l : Bool) →
    ((i s : ℕ) → i < n + 5 → s < 64 → d i s ≡ older_bit (start_of line) branch i s) →
    (0 < n → IsPriced line price branch last_step n) → length x ≡ n → length tail ≡ 5 → s1 < 64 → s0 < 64 →
    l ≡ ltb (end_least line branch last_step n true) (end_least line branch last_step n false) →
    read_back d (n + 5) (end_before line l) ≡ reverse tail ++ read_back d n s1 →
    read_back d n s1 ≡ reverse (levels line (is_odd s0) x) ++ read_back d 0 s0 → IsLeast line price x
read_is_least line price branch last_step d zero x tail s1 s0 l same priced size five_tail low_1 low_0 chosen
    end_walk data_walk = none_is_least line price x size
read_is_least line price branch last_step d (suc n) x tail s1 s0 l same priced size five_tail low_1 low_0 chosen
    end_walk data_walk =
    let whole_same =
    read_back_same d (older_bit (start_of line) branch) (suc n + 5) same (end_before line l)
    (end_before_low line l) in
    let data_same =
    read_back_same d (older_bit (start_of line) branch) (suc n) (λ i s l. same i s (omega arith)) s1 low_1 in
    is_least line price branch last_step (suc n) x tail s1 s0 l (priced (omega arith)) (omega arith) size five_tail
    low_0 chosen
    (sym whole_same ∙ end_walk ∙ ap (λ z. reverse tail ++ z) data_same)
    (sym data_same ∙ data_walk)

-- without pins it is the nearest path
pub read_is_nearest : (line : LineCode) (w : List ℤ) (d : ℕ → ℕ → Bool) (n : ℕ) (x tail : List Bool) (s1 s0 : ℕ)
    (l : Bool) → ((i s : ℕ) → i < n + 5 → s < 64 → d i s ≡ older_bit (start_of line) (branch_of line w) i s) →
    ((i m : ℕ) → i < n + 5 → branch_of line w i m ≤ STEP_COST) →
    ((m : ℕ) → branch_of line w (n + 5) m ≤ STEP_COST) → n ≤ 8160 → length w ≡ 2 * n + 12 → length x ≡ n →
    length tail ≡ 5 → s1 < 64 → s0 < 64 →
    l ≡ ltb (end_least line (branch_of line w) (last_step_of line w n) n true)
    (end_least line (branch_of line w) (last_step_of line w n) n false) →
    read_back d (n + 5) (end_before line l) ≡ reverse tail ++ read_back d n s1 →
    read_back d n s1 ≡ reverse (levels line (is_odd s0) x) ++ read_back d 0 s0 → IsNearestPath line w x
read_is_nearest line w d n x tail s1 s0 l same most last_most few long size five_tail low_1 low_0 chosen end_walk
    data_walk =
    let priced : 0 < n → IsPriced line (path_cost line w) (branch_of line w) (last_step_of line w n) n =
    λ some. record {
      steps = plain_cost line w n some long;
      cheap = x;
      cheap_size = size;
      cheap_price = omega (arith, plain_most line w n some long most last_most x size);
    } in
    nearest_of line w x (omega arith)
    (read_is_least line (path_cost line w) (branch_of line w) (last_step_of line w n) d n x tail s1 s0 l same priced
    size five_tail low_1 low_0 chosen end_walk data_walk)

-- ---- the costs of both ends are the least ones
module _ (line : LineCode) (branch : ℕ → ℕ → ℕ) (w : List ℤ) (n : ℕ) (costs last : List ℕ)
    (least : (s : ℕ) → s < 64 → slice_index costs s ≡ least_cost (start_of line) branch (n + 5) s)
    (branches : (m : ℕ) → branch_by last m ≡ branch_of line w (n + 5) m) where
  end_cost_is : (l : Bool) → end_cost line costs last l ≡ end_least line branch (last_step_of line w n) n l
  end_cost_is l =
      let a = least (end_before line l) (end_before_low line l) in
      let b = branches (end_seven line l) in
      cc

  pub end_chosen : last_one line costs last ≡
      ltb (end_least line branch (last_step_of line w n) n true) (end_least line branch (last_step_of line w n) n false)
  end_chosen =
      ap (λ a. ltb a (end_cost line costs last false)) (end_cost_is true)
      ∙ ap (λ b. ltb (end_least line branch (last_step_of line w n) n true) b) (end_cost_is false)
