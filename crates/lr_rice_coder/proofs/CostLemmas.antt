-- Lengths of items.
use Rattle.std.proofs.Common.{◌≡◌, ℕ, zero, suc, ◌+◌, ◌-◌, ◌*◌, ◌^◌, ◌<◌, ◌≤◌, Bool, true, false, List, [], ◌∷◌, ◌++◌}
use Rattle.std.proofs.Common.{length, get_or, take, drop, refl, sym, ap, ◌∙◌, arith, length-drop}
use Rattle.std.specs.List.{flat_map}
use Rattle.std.proofs.lemmas.List.{append_assoc, append-nil, take_more, length-take-le, take_all}
use Rattle.std.proofs.lemmas.List.Concat.{flat_map-append}
use Rattle.lr_bits.specs.Bits.{zeros_and_one}
use Rattle.lr_rice.specs.CodedLines.{pair_number, pairs_string, short_width}
use Rattle.lr_rice.proofs.ItemLemmas.{pairs_string-push}
use mir.Val.{bool_byte}
use Rattle.std.specs.Prelude.{if◌then◌else◌}
use Rattle.std.proofs.Math.Nat.{pow-le-pow_right}
use Rattle.std.proofs.lemmas.Bool.Decides.{nat_tests}
use Rattle.lr_rice.specs.declared.choice.BlockOption.TheVariants.{SecondExtension, Split, Uncoded}
use Rattle.lr_rice_coder.specs.Shortest.{shortest_option, shortest_up_to, shorter_option, block_values, most_split}

pub length-zeros_and_one : (n : ℕ) → length (zeros_and_one n) ≡ n + 1
unfolding zeros_and_one
length-zeros_and_one zero = refl
length-zeros_and_one (suc n) = ap suc (length-zeros_and_one n) ∙ omega arith

-- one item more
pub flat_map-next : (f : ℕ → List ℕ) (values : List ℕ) (i : ℕ) → i < length values
    → flat_map f (take (i + 1) values) ≡ flat_map f (take i values) ++ f (get_or values i 0)
flat_map-next f values i inside =
    ap (flat_map f) (take_more values i 0 inside) ∙ flat_map-append f (take i values) (get_or values i 0 ∷ [])
    ∙ ap (λ l. flat_map f (take i values) ++ l) (append-nil (f (get_or values i 0)))

-- one pair more
pub pairs-next : (values : List ℕ) (i : ℕ) → 2 * i + 1 < length values →
    pairs_string (take (2 * (i + 1)) values) ≡ pairs_string (take (2 * i) values)
    ++ zeros_and_one (pair_number (get_or values (2 * i) 0) (get_or values (2 * i + 1) 0))
pairs-next values i inside =
    let a = get_or values (2 * i) 0 in
    let b = get_or values (2 * i + 1) 0 in
    let turn : 2 * (i + 1) ≡ 2 * i + 1 + 1 = omega arith in
    let both : take (2 * (i + 1)) values ≡ take (2 * i) values ++ a ∷ b ∷ [] =
    ap (λ n. take n values) turn ∙ take_more values (2 * i + 1) 0 inside
    ∙ ap (λ l. l ++ b ∷ []) (take_more values (2 * i) 0 (omega arith))
    ∙ append_assoc (take (2 * i) values) (a ∷ []) (b ∷ []) in
    ap pairs_string both ∙ pairs_string-push (take (2 * i) values) a b
    (omega (arith, length-take-le (2 * i) values (omega arith)))

-- ---- options

pub short-least : (bits : ℕ) → 3 ≤ short_width bits
short-least bits = grind (arith, nat_tests)

pub short-most : (bits : ℕ) → short_width bits ≤ 4
short-most bits = grind (arith, nat_tests)

pub short-power : (bits : ℕ) → (8 ≤ 2 ^ short_width bits) × (2 ^ short_width bits ≤ 16)
short-power bits = (
  pow-le-pow_right {n = 2} (omega arith) {i = 3} {j = short_width bits} (short-least bits),
  pow-le-pow_right {n = 2} (omega arith) {i = short_width bits} {j = 4} (short-most bits),
)

-- the values of a block as the code cuts them out
pub values_slice : (first : Bool) (places : List ℕ) (skipped : ℕ) → skipped ≡ bool_byte first
    → take (length places - skipped) (drop skipped places) ≡ block_values first places
values_slice first places skipped is =
    take_all (length places - skipped) (drop skipped places) (omega (arith, length-drop skipped places))
    ∙ ap (λ n. drop n places) is ∙ front first places
  where
    front : (first : Bool) (places : List ℕ) → drop (bool_byte first) places ≡ block_values first places
    front true places = refl
    front false places = refl

-- the first place of a line has the value 0
pub lead_back : (first : Bool) (places : List ℕ) → 1 ≤ length places → (first ≡ true → get_or places 0 0 ≡ 0)
    → (if first then 0 ∷ block_values first places else block_values first places) ≡ places
lead_back false places some clear = refl
lead_back true [] some clear = absurd (omega arith)
lead_back true (place ∷ places) some clear = ap (λ x. x ∷ places) (sym (clear refl))

pub shortest_up_to-first : (bits : ℕ) (first : Bool) (places : List ℕ)
    → shortest_up_to bits first places 0 ≡ shorter_option bits first places SecondExtension (Split 0)
unfolding shortest_up_to
shortest_up_to-first bits first places = refl

pub shortest_up_to-next : (bits : ℕ) (first : Bool) (places : List ℕ) (k : ℕ)
    → shortest_up_to bits first places (suc k) ≡ shorter_option bits first places (shortest_up_to bits first places k)
    (Split (suc k))
unfolding shortest_up_to
shortest_up_to-next bits first places k = refl

pub shortest_option-is : (bits : ℕ) (first : Bool) (places : List ℕ)
    → shortest_option bits first places ≡ shorter_option bits first places
    (shortest_up_to bits first places (most_split bits)) Uncoded
unfolding shortest_option
shortest_option-is bits first places = refl
