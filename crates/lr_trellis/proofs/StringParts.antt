-- States, costs, orders and ends of lists of bits, of which the decoder's paths are made.
use Rattle.std.proofs.Common.{add-one, ap, sym, refl, ◌∙◌, ◌≡◌, ℕ, ℤ, pos, ◌+◌, ◌*◌, ◌/◌, ◌%◌, ◌^◌}
use Rattle.std.proofs.Common.{◌<◌, ◌≤◌, zero, suc, Bool, true, false, cond, List, [], ◌∷◌, ◌++◌}
use Rattle.std.proofs.Common.{length, reverse, drop}
use Rattle.std.proofs.Common.{get_or, arith, length-append}
use Rattle.std.specs.Prelude.{not}
use Rattle.std.proofs.lemmas.List.{reverse-append, length-reverse, drop_at}
use Rattle.lr_conv.specs.Convolution.{bit, first_symbol, second_symbol, symbols}
use Rattle.lr_conv.specs.Encoder.{past_of}
use Rattle.lr_conv.specs.Levels.{levels, marks_of}
use Rattle.lr_conv.specs.Marker.{marker_start}
use Rattle.lr_conv.specs.declared.line.LineCode.{LineCode}
use Rattle.lr_conv.proofs.SevenBits.{bit_below, bit_same, test_bit, symbols-more, first_is, second_is}
use Rattle.lr_trellis.specs.Path.{symbol_cost, cost, NotAfter}
use Rattle.lr_trellis.specs.Trellis.{branch_of, end_before, end_seven, start_of}
use Rattle.lr_trellis.specs.declared.costs.TheConstants.{STEP_COST}
use Rattle.lr_trellis.proofs.Best.{number, steps_cost}

pub reverse-cons : (b : Bool) (d : List Bool) → reverse (b ∷ d) ≡ reverse d ++ (b ∷ [])
reverse-cons b d = reverse-append (b ∷ []) d

-- ---- the state of a path has the last six bits of its list
six_of : (a b c d e f : Bool) (g : List Bool) →
    past_of (number (a ∷ b ∷ c ∷ d ∷ e ∷ f ∷ g) % 64) ≡ f ∷ e ∷ d ∷ c ∷ b ∷ a ∷ []
six_of a b c d e f g =
    let la = bit_below a in
    let lb = bit_below b in
    let lc = bit_below c in
    let ld = bit_below d in
    let le = bit_below e in
    let lf = bit_below f in
    let n = number (a ∷ b ∷ c ∷ d ∷ e ∷ f ∷ g) in
    let ea : n % 64 / 2 ^ 0 % 2 ≡ bit a = omega arith in
    let eb : n % 64 / 2 ^ 1 % 2 ≡ bit b = omega arith in
    let ec : n % 64 / 2 ^ 2 % 2 ≡ bit c = omega arith in
    let ed : n % 64 / 2 ^ 3 % 2 ≡ bit d = omega arith in
    let ee : n % 64 / 2 ^ 4 % 2 ≡ bit e = omega arith in
    let ef : n % 64 / 2 ^ 5 % 2 ≡ bit f = omega arith in
    rw (ea, eb, ec, ed, ee, ef, test_bit a, test_bit b, test_bit c, test_bit d, test_bit e, test_bit f) refl

last_six : (h : List Bool) (n : ℕ) → length h ≡ n + 6 → past_of (number h % 64) ≡ drop n (reverse h)
last_six [] n size = absurd (omega arith)
last_six (a ∷ []) n size = absurd (omega arith)
last_six (a ∷ b ∷ []) n size = absurd (omega arith)
last_six (a ∷ b ∷ c ∷ []) n size = absurd (omega arith)
last_six (a ∷ b ∷ c ∷ d ∷ []) n size = absurd (omega arith)
last_six (a ∷ b ∷ c ∷ d ∷ e ∷ []) n size = absurd (omega arith)
last_six (a ∷ b ∷ c ∷ d ∷ e ∷ f ∷ g) n size =
    let s = a ∷ b ∷ c ∷ d ∷ e ∷ f ∷ [] in
    let long : length (reverse g) ≡ n = omega (arith, length-reverse g) in
    six_of a b c d e f g ∙ sym (drop_at (reverse g) (reverse s) n long) ∙ ap (drop n) (sym (reverse-append s g))

-- ---- costs
length-symbols : (line : LineCode) (t : List Bool) (n : ℕ) → length (symbols line t n) ≡ 2 * n
length-symbols line t zero = refl
length-symbols line t (suc n) =
    omega (
      arith,
      length-symbols line t n,
      length-append (symbols line t n)
          (first_symbol t n ∷ second_symbol line t n ∷ []),
    )

cost_two : (bs : List Bool) (p q : Bool) (w : List ℤ) → length bs + 1 < length w →
    cost (bs ++ p ∷ q ∷ []) w ≡ cost bs w + (symbol_cost p (get_or w (length bs) (pos 0))
    + symbol_cost q (get_or w (suc (length bs)) (pos 0)))
cost_two [] p q [] l = absurd (omega arith)
cost_two [] p q (v ∷ []) l = absurd (omega arith)
cost_two [] p q (v ∷ u ∷ w) l = omega arith
cost_two (b ∷ bs) p q [] l = absurd (omega arith)
cost_two (b ∷ bs) p q (v ∷ w) l = omega (arith, cost_two bs p q w (omega arith))

seven : Bool → List Bool → ℕ
seven b h = 2 * (number h % 64) + bit b

branch_is : (line : LineCode) (w : List ℤ) (b : Bool) (h : List Bool) (n : ℕ) → length h ≡ n + 6 →
    branch_of line w n (seven b h) ≡ symbol_cost (first_symbol (reverse (b ∷ h)) n) (get_or w (2 * n) (pos 0))
    + symbol_cost (second_symbol line (reverse (b ∷ h)) n) (get_or w (suc (2 * n)) (pos 0))
unfolding branch_of seven
branch_is line w b h n size =
    let long : length (reverse h) ≡ n + 6 = length-reverse h ∙ size in
    let last = last_six h n size in
    let first = ap (λ t. first_symbol t n) (reverse-cons b h) ∙ first_is b (reverse h) (number h % 64) n long last in
    let second =
    ap (λ t. second_symbol line t n) (reverse-cons b h)
    ∙ second_is b (reverse h) (number h % 64) n long last line in
    rw (first, second, add-one) refl

cost_step : (line : LineCode) (w : List ℤ) (b : Bool) (h : List Bool) (n : ℕ) → length h ≡ n + 6 →
    2 * n + 1 < length w → cost (symbols line (reverse (b ∷ h)) (suc n)) w ≡
    cost (symbols line (reverse h) n) w + branch_of line w n (seven b h)
cost_step line w b h n size room =
    let s = symbols line (reverse (b ∷ h)) n in
    let long : length s ≡ 2 * n = length-symbols line (reverse (b ∷ h)) n in
    let two = cost_two s (first_symbol (reverse (b ∷ h)) n) (second_symbol line (reverse (b ∷ h)) n) w (omega arith) in
    let less : symbols line (reverse (b ∷ h)) n ≡ symbols line (reverse h) n =
    ap (λ t. symbols line t n) (reverse-cons b h) ∙ symbols-more b (reverse h) line n
    (omega (arith, length-reverse h)) in
    let same : cost s w ≡ cost (symbols line (reverse h) n) w = ap (λ z. cost z w) less in
    let two_at = rw long at two in
    two_at ∙ rw (same, branch_is line w b h n size) refl

module _ (line : LineCode) (w : List ℤ) (past : List Bool) (six_past : length past ≡ 6) where
  -- the cost of a path is that of its list's code
  pub steps_cost_is : (h : List Bool) → 2 * length h ≤ length w →
      steps_cost (start_of line) (branch_of line w) (length h) (h ++ past) ≡
      start_of line (number past % 64) + cost (symbols line (reverse (h ++ past)) (length h)) w
  steps_cost_is [] l = omega arith
  steps_cost_is (b ∷ h) l =
      let size : length (h ++ past) ≡ length h + 6 = omega (arith, length-append h past) in
      let step = cost_step line w b (h ++ past) (length h) size (omega arith) in
      let before = steps_cost_is h (omega arith) in
      let same : branch_of line w (length h) (seven b (h ++ past)) ≡
      branch_of line w (length h) (2 * (number (h ++ past) % 64) + bit b) = unfold seven in refl in
      omega (arith, step, before, same)

-- ---- orders of lists with common ends
pub strip_front : (a h g : List Bool) → NotAfter (a ++ h) (a ++ g) → NotAfter h g
strip_front [] h g n = n
strip_front (false ∷ a) h g n = strip_front a h g n
strip_front (true ∷ a) h g n = strip_front a h g n

pub strip_back : (h g p : List Bool) → length h ≡ length g → NotAfter (h ++ p) (g ++ p) → NotAfter h g
strip_back [] g p e n = tt
strip_back (b ∷ h) [] p e n = absurd (omega arith)
strip_back (false ∷ h) (false ∷ g) p e n = strip_back h g p (omega arith) n
strip_back (false ∷ h) (true ∷ g) p e n = tt
strip_back (true ∷ h) (false ∷ g) p e n = n
strip_back (true ∷ h) (true ∷ g) p e n = strip_back h g p (omega arith) n

-- a number has one list of its length
pub number_inj : (h g : List Bool) → length h ≡ length g → number h ≡ number g → h ≡ g
number_inj [] [] e n = refl
number_inj [] (c ∷ g) e n = absurd (omega arith)
number_inj (b ∷ h) [] e n = absurd (omega arith)
number_inj (b ∷ h) (c ∷ g) e n =
    let m = bit_below b in
    let k = bit_below c in
    let same : b ≡ c = bit_same b c (omega arith) in
    let rest_same : h ≡ g = number_inj h g (omega arith) (omega arith) in
    cc

pub number_six : (h g : List Bool) → length h ≡ 6 → number (h ++ g) % 64 ≡ number h
number_six [] g size = absurd (omega arith)
number_six (a ∷ []) g size = absurd (omega arith)
number_six (a ∷ b ∷ []) g size = absurd (omega arith)
number_six (a ∷ b ∷ c ∷ []) g size = absurd (omega arith)
number_six (a ∷ b ∷ c ∷ d ∷ []) g size = absurd (omega arith)
number_six (a ∷ b ∷ c ∷ d ∷ e ∷ []) g size = absurd (omega arith)
number_six (a ∷ b ∷ c ∷ d ∷ e ∷ f ∷ []) g size =
    omega (arith, bit_below a, bit_below b, bit_below c, bit_below d, bit_below e, bit_below f)
number_six (a ∷ b ∷ c ∷ d ∷ e ∷ f ∷ z ∷ h) g size = absurd (omega arith)

-- ---- bounds
pub steps_cost_low : (start : ℕ → ℕ) (branch : ℕ → ℕ → ℕ) (h p : List Bool) →
    start (number p % 64) ≤ steps_cost start branch (length h) (h ++ p)
steps_cost_low start branch [] p = omega arith
steps_cost_low start branch (b ∷ h) p = omega (arith, steps_cost_low start branch h p)

pub steps_cost_high : (start : ℕ → ℕ) (branch : ℕ → ℕ → ℕ) (k : ℕ) (most : (i m : ℕ) → i < k → branch i m ≤ STEP_COST)
    (h p : List Bool) → length h ≤ k →
    steps_cost start branch (length h) (h ++ p) ≤ start (number p % 64) + STEP_COST * length h
steps_cost_high start branch k most [] p l = omega arith
steps_cost_high start branch k most (b ∷ h) p l =
    omega (
      arith,
      steps_cost_high start branch k most h p (omega arith),
      most (length h) (2 * (number (h ++ p) % 64) + bit b) (omega arith),
    )

-- ---- the levels after a frame's bits
-- the levels of the next marker's first six bits, after the level l, the newest first
abbrev pub next_marker_levels : LineCode → Bool → List Bool
next_marker_levels line l = reverse (levels line l marker_start)

abbrev pub newest : LineCode → Bool → Bool
newest line l = cond line.marks l false

-- the five before it, the newest first
abbrev five_of : Bool → Bool → List Bool
five_of m l = cond m (l ∷ not l ∷ l ∷ l ∷ l ∷ []) (true ∷ true ∷ false ∷ false ∷ false ∷ [])

abbrev pub five : LineCode → Bool → List Bool
five line l = five_of line.marks l

front_by : (m l : Bool) → reverse (cond m (marks_of l marker_start) marker_start) ≡ cond m l false ∷ five_of m l
front_by false l = refl
front_by true false = refl
front_by true true = refl

pub front_is : (line : LineCode) (l : Bool) → next_marker_levels line l ≡ newest line l ∷ five line l
front_is line l = front_by line.marks l

pub length_five_by : (m l : Bool) → length (five_of m l) ≡ 5
length_five_by false l = refl
length_five_by true l = refl

-- the state in front of the last step, and the seven levels after it
state_by : (m l : Bool) (g : List Bool) → number (five_of m l ++ (l ∷ g)) % 64 ≡ cond m (cond l 61 2) (cond l 35 3)
state_by false false g = omega arith
state_by false true g = omega arith
state_by true false g = omega arith
state_by true true g = omega arith

pub end_state_is : (line : LineCode) (l : Bool) (g : List Bool)
    → number (five line l ++ (l ∷ g)) % 64 ≡ end_before line l
end_state_is line l g = state_by line.marks l g

seven_by : (m l : Bool) →
    2 * cond m (cond l 61 2) (cond l 35 3) + bit (cond m l false) ≡ cond m (cond l 123 4) (cond l 70 6)
seven_by false false = refl
seven_by false true = refl
seven_by true false = refl
seven_by true true = refl

pub end_seven_is : (line : LineCode) (l : Bool) → 2 * end_before line l + bit (newest line l) ≡ end_seven line l
end_seven_is line l = seven_by line.marks l

before_low_by : (m l : Bool) → cond m (cond l 61 2) (cond l 35 3) < 64
before_low_by false false = omega arith
before_low_by false true = omega arith
before_low_by true false = omega arith
before_low_by true true = omega arith

pub end_before_low : (line : LineCode) (l : Bool) → end_before line l < 64
end_before_low line l = before_low_by line.marks l
