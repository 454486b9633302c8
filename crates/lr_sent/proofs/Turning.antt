-- Levels that are turned: what follows a level 1 where bits are changes of level.
use Rattle.std.proofs.Common.{◌≡◌, ℕ, zero, suc, ◌+◌, ◌-◌, ◌%◌, ◌<◌, ◌≤◌, Bool, true, false, not, ◌&&◌, nat_eq, cond}
use Rattle.std.proofs.Common.{List, [], ◌∷◌, ◌++◌, length, drop, get_or, map, refl, sym, ap, ap₂, ◌∙◌, arith}
use Rattle.std.proofs.Common.{◌*◌, length-append, inl, inr}
use Rattle.std.proofs.lemmas.Bool.{cases_eq, eq-eqb, ne_eqb}
use Rattle.std.proofs.lemmas.List.{get_or-map, length-map, map-append}
use Rattle.lr_conv.specs.Convolution.{bit, code, earlier_bit, first_generator, first_symbol, generator_sum}
use Rattle.lr_conv.specs.Convolution.{second_generator, second_symbol, symbols}
use Rattle.lr_conv.specs.Levels.{changed_by, last_level, levels, marks_of}
use Rattle.lr_conv.specs.Marker.{marker, marker_end, tail_of}
use Rattle.lr_conv.specs.declared.line.LineCode.{LineCode}
use Rattle.lr_conv.proofs.Lines.{length-levels}
use Rattle.lr_conv.proofs.Tails.{tail_after_any}
use Rattle.lr_trellis.specs.Path.{path_levels}

abbrev line_of : Bool → Bool → LineCode
line_of marks inverted = record { marks = marks; inverted = inverted }

-- each of them complemented, where they are turned
abbrev pub turned : Bool → List Bool → List Bool
turned turn bits = cond turn (map not bits) bits

pub length-turned : (turn : Bool) (bits : List Bool) → length (turned turn bits) ≡ length bits
length-turned true bits = length-map bits not
length-turned false bits = refl

pub turned-append : (turn : Bool) (x y : List Bool) → turned turn (x ++ y) ≡ turned turn x ++ turned turn y
turned-append true x y = map-append not x y
turned-append false x y = refl

-- ---- levels

not_changed : (b level : Bool) → changed_by b (not level) ≡ not (changed_by b level)
not_changed true level = refl
not_changed false level = refl

marks_not : (level : Bool) (bits : List Bool) → marks_of (not level) bits ≡ map not (marks_of level bits)
marks_not level [] = refl
marks_not level (b ∷ bits) =
    ap (λ z. z ∷ marks_of z bits) (not_changed b level)
    ∙ ap (λ z. not (changed_by b level) ∷ z) (marks_not (changed_by b level) bits)

-- what follows a marker: the levels of a path, turned after a level 1 where bits are changes
after_marker_by : (marks inverted before : Bool) (bits : List Bool) →
    levels (line_of marks inverted) before (marker ++ bits) ≡ levels (line_of marks inverted) before marker
    ++ turned (marks && before) (path_levels (line_of marks inverted) bits)
after_marker_by false inverted before bits = refl
after_marker_by true inverted false bits = refl
after_marker_by true inverted true bits = ap (λ z. marks_of true marker ++ z) (marks_not true bits)

pub after_marker : (line : LineCode) (before : Bool) (bits : List Bool) →
    levels line before (marker ++ bits) ≡ levels line before marker
    ++ turned (line.marks && before) (path_levels line bits)
after_marker line before bits = after_marker_by line.marks line.inverted before bits

marker_end_by : (marks inverted before : Bool) →
    drop 26 (levels (line_of marks inverted) before marker)
    ≡ turned (marks && before) (marker_end (line_of marks inverted))
marker_end_by false inverted before = refl
marker_end_by true inverted false = refl
marker_end_by true inverted true = refl

pub marker_end_turned : (line : LineCode) (before : Bool) →
    drop 26 (levels line before marker) ≡ turned (line.marks && before) (marker_end line)
marker_end_turned line before = marker_end_by line.marks line.inverted before

length-marker_end_by : (marks inverted : Bool) → length (marker_end (line_of marks inverted)) ≡ 6
length-marker_end_by false inverted = refl
length-marker_end_by true inverted = refl

pub length-marker_end : (line : LineCode) → length (marker_end line) ≡ 6
length-marker_end line = length-marker_end_by line.marks line.inverted

pub length-marker_levels : (line : LineCode) (before : Bool) → length (levels line before marker) ≡ 32
length-marker_levels line before = length-levels line before marker

-- the marker's tail
pub tail_turned : (line : LineCode) (past : List Bool) (before : Bool) → length past ≡ 6
    → last_level false past ≡ before →
    drop 12 (code line past (levels line before marker)) ≡ turned (line.marks && before) (tail_of line)
tail_turned line past before six last =
    ap (λ z. drop 12 (code line past (levels line z marker))) (sym last) ∙ tail_after_any line past six
    ∙ ap (λ z. turned (line.marks && z) (tail_of line)) last

-- ---- symbols

bit-not : (b : Bool) → bit (not b) + bit b ≡ 1
bit-not true = refl
bit-not false = refl

-- an odd number of bits of which each is turned have the other parity
other_parity : (m n k : ℕ) → m + n ≡ 2 * k + 1 → nat_eq (m % 2) 1 ≡ not (nat_eq (n % 2) 1)
other_parity m n k e =
    elim (cases_eq (n % 2) 1) [
      | inl odd ↦ ne_eqb (m % 2) 1 (λ o. omega (arith, o, odd, e)) ∙ ap not (sym (eq-eqb (n % 2) 1 odd))
      | inr even ↦ eq-eqb (m % 2) 1 (omega (arith, even, e)) ∙ ap not (sym (ne_eqb (n % 2) 1 even))
    ]

module _ (t : List Bool) (i : ℕ) (inside : 6 + i < length t) where
  one_turned : (places : ℕ) → earlier_bit (map not t) i places + earlier_bit t i places ≡ 1
  one_turned places =
      let low : 6 + i - places < length t = omega arith in
      ap (λ b. bit b + earlier_bit t i places) (get_or-map not t (6 + i - places) false false low)
      ∙ bit-not (get_or t (6 + i - places) false)

  first_turned : first_symbol (map not t) i ≡ not (first_symbol t i)
  first_turned =
      other_parity (generator_sum first_generator (map not t) i) (generator_sum first_generator t i) 2
      (omega (arith, one_turned 0, one_turned 1, one_turned 2, one_turned 3, one_turned 6))

  second_turned : (line : LineCode) → second_symbol line (map not t) i ≡ not (second_symbol line t i)
  second_turned line = second_by line.inverted
    where
      sums : generator_sum second_generator (map not t) i + generator_sum second_generator t i ≡ 5
      sums = omega (arith, one_turned 0, one_turned 2, one_turned 3, one_turned 5, one_turned 6)

      second_by : (inverted : Bool) →
          nat_eq ((bit inverted + generator_sum second_generator (map not t) i) % 2) 1
          ≡ not (nat_eq ((bit inverted + generator_sum second_generator t i) % 2) 1)
      second_by true = other_parity (1 + generator_sum second_generator (map not t) i)
          (1 + generator_sum second_generator t i) 3 (omega (arith, sums))
      second_by false = other_parity (0 + generator_sum second_generator (map not t) i)
          (0 + generator_sum second_generator t i) 2 (omega (arith, sums))

symbols_turned : (line : LineCode) (t : List Bool) (n : ℕ) → 6 + n ≤ length t → symbols line (map not t) n
    ≡ map not (symbols line t n)
symbols_turned line t zero inside = refl
symbols_turned line t (suc n) inside =
    ap₂ (λ x y. x ++ y) (symbols_turned line t n (omega arith))
    (ap₂ (λ x y. x ∷ y ∷ []) (first_turned t n (omega arith)) (second_turned t n (omega arith) line))
    ∙ sym (map-append not (symbols line t n) (first_symbol t n ∷ second_symbol line t n ∷ []))

pub code_turned : (line : LineCode) (turn : Bool) (past x : List Bool) → length past ≡ 6 →
    code line (turned turn past) (turned turn x) ≡ turned turn (code line past x)
code_turned line false past x six = refl
code_turned line true past x six =
    ap₂ (symbols line) (sym (map-append not past x)) (length-map x not)
    ∙ symbols_turned line (past ++ x) (length x) (omega (arith, length-append past x))
