-- A path that agrees with what is known has the known words.
use Rattle.std.proofs.Common.{◌≡◌, ℕ, zero, suc, ◌+◌, ◌-◌, ◌*◌, ◌/◌, ◌%◌, ◌^◌, ◌<◌, ◌≤◌, Bool, true, false, eqb, List}
use Rattle.std.proofs.Common.{[], ◌∷◌}
use Rattle.std.proofs.Common.{length, take, drop, map, get_or, refl, sym, ap, subst, ◌∙◌, arith}
use Rattle.std.proofs.Common.{length-drop}
use Rattle.std.specs.Prelude.{Option, Some, None, bit_xor, is_none}
use Rattle.std.specs.Int.{bit_at}
use Rattle.std.specs.Int.Bits.{xor_assoc, xor_lt, xor_self, xor_zero_r}
use Rattle.std.specs.Int.Digits.{number_from_digits}
use Rattle.std.proofs.lemmas.Bool.{false≢true, true≢false}
use Rattle.std.proofs.lemmas.List.{drop-drop, get_or-drop, get_or-take}
use Rattle.std.proofs.lemmas.List.FromFn.{get_or-map-range_with_len, length-map-range_with_len}
use Rattle.std.proofs.lemmas.Nat.Bits.{bit_at-lt}
use Rattle.lr_bits.specs.declared.sizes.TheConstants.{BLOCK_BYTES}
use Rattle.lr_rs.specs.Words.{IsWord}
use Rattle.lr_rs.specs.declared.sizes.TheConstants.{WORD_BYTES}
use Rattle.lr_block.specs.Blocks.{word_of}
use Rattle.lr_block.specs.Randomiser.{randomised_block, sequence_byte}
use Rattle.lr_block.proofs.Interleaving.{every_fourth_by_all, get_or-every_fourth}
use Rattle.lr_block.proofs.Sequence.{get_or-randomised_block, sequence_byte-lt}
use Rattle.lr_conv.specs.Convolution.{bit}
use Rattle.lr_conv.proofs.SevenBits.{bit_below, test_bit}
use Rattle.lr_trellis.specs.Path.{bytes_from, bytes_of_bits}
use Rattle.lr_pinned.specs.Pinned.{miss, misses}
use Rattle.lr_pinned.proofs.Misses.{filled, filled_agrees, length-filled}
use Rattle.lr_redecode.specs.Redecoded.{known_word, pin_by, pins_of}

-- ---- each known bit is there
no_miss : (b c : Bool) → miss (Some b) c ≡ 0 → c ≡ b
no_miss true true e = refl
no_miss true false e = absurd (omega (arith, e))
no_miss false true e = absurd (omega (arith, e))
no_miss false false e = refl

bit_is : (pins : List (Option Bool)) (x : List Bool) → misses pins x ≡ 0 → (i : ℕ) (b : Bool) → i < length x →
    get_or pins i None ≡ Some b → get_or x i false ≡ b
bit_is [] x none i b room e = absurd (true≢false (ap is_none e))
bit_is (pin ∷ pins) [] none i b room e = absurd (omega (arith, room))
bit_is (pin ∷ pins) (c ∷ x) none zero b room e =
    let here : miss pin c ≡ 0 = omega (arith, none) in
    no_miss b c (subst (λ p. miss p c ≡ 0) e here)
bit_is (pin ∷ pins) (c ∷ x) none (suc i) b room e =
    bit_is pins x (omega (arith, none)) i b (omega (arith, room)) e

-- ---- a byte of the bits
eight_of : (y : List Bool) → 8 ≤ length y → take 8 y ≡ get_or y 0 false ∷ get_or y 1 false ∷ get_or y 2 false
    ∷ get_or y 3 false ∷ get_or y 4 false ∷ get_or y 5 false ∷ get_or y 6 false ∷ get_or y 7 false ∷ []
eight_of [] l = absurd (omega arith)
eight_of (a ∷ []) l = absurd (omega arith)
eight_of (a ∷ b ∷ []) l = absurd (omega arith)
eight_of (a ∷ b ∷ c ∷ []) l = absurd (omega arith)
eight_of (a ∷ b ∷ c ∷ d ∷ []) l = absurd (omega arith)
eight_of (a ∷ b ∷ c ∷ d ∷ e ∷ []) l = absurd (omega arith)
eight_of (a ∷ b ∷ c ∷ d ∷ e ∷ f ∷ []) l = absurd (omega arith)
eight_of (a ∷ b ∷ c ∷ d ∷ e ∷ f ∷ g ∷ []) l = absurd (omega arith)
eight_of (a ∷ b ∷ c ∷ d ∷ e ∷ f ∷ g ∷ h ∷ y) l = refl

byte_at : (n p : ℕ) (x : List Bool) → p < n →
    get_or (bytes_from n x) p 0 ≡ number_from_digits 2 (map bit (take 8 (drop (8 * p) x)))
byte_at zero p x l = absurd (omega arith)
byte_at (suc n) zero x l = refl
byte_at (suc n) (suc p) x l =
    let at : 8 + 8 * p ≡ 8 * suc p = omega arith in
    byte_at n p (drop 8 x) (omega arith)
    ∙ ap (λ y. number_from_digits 2 (map bit (take 8 y))) (drop-drop (8 * p) 8 x ∙ ap (λ m. drop m x) at)

bit_of_one : (n : ℕ) → n < 2 → bit (eqb n 1) ≡ n
bit_of_one zero l = refl
bit_of_one (suc zero) l = refl
bit_of_one (suc (suc n)) l = absurd (omega arith)

-- eight bits of a number below 256, the most significant first
value_of : (v : ℕ) (a b c d e f g h : Bool) → v < 256 → a ≡ eqb (bit_at v 7) 1 → b ≡ eqb (bit_at v 6) 1 →
    c ≡ eqb (bit_at v 5) 1 → d ≡ eqb (bit_at v 4) 1 → e ≡ eqb (bit_at v 3) 1 → f ≡ eqb (bit_at v 2) 1 →
    g ≡ eqb (bit_at v 1) 1 → h ≡ eqb (bit_at v 0) 1 →
    number_from_digits 2 (map bit (a ∷ b ∷ c ∷ d ∷ e ∷ f ∷ g ∷ h ∷ [])) ≡ v
value_of v a b c d e f g h l pa pb pc pd pe pf pg ph =
    let ea : bit a ≡ v / 2 ^ 7 % 2 = ap bit pa ∙ bit_of_one (bit_at v 7) (bit_at-lt v 7) in
    let eb : bit b ≡ v / 2 ^ 6 % 2 = ap bit pb ∙ bit_of_one (bit_at v 6) (bit_at-lt v 6) in
    let ec : bit c ≡ v / 2 ^ 5 % 2 = ap bit pc ∙ bit_of_one (bit_at v 5) (bit_at-lt v 5) in
    let ed : bit d ≡ v / 2 ^ 4 % 2 = ap bit pd ∙ bit_of_one (bit_at v 4) (bit_at-lt v 4) in
    let ee : bit e ≡ v / 2 ^ 3 % 2 = ap bit pe ∙ bit_of_one (bit_at v 3) (bit_at-lt v 3) in
    let ef : bit f ≡ v / 2 ^ 2 % 2 = ap bit pf ∙ bit_of_one (bit_at v 2) (bit_at-lt v 2) in
    let eg : bit g ≡ v / 2 ^ 1 % 2 = ap bit pg ∙ bit_of_one (bit_at v 1) (bit_at-lt v 1) in
    let eh : bit h ≡ v / 2 ^ 0 % 2 = ap bit ph ∙ bit_of_one (bit_at v 0) (bit_at-lt v 0) in
    omega arith

-- ---- the words
module _ (known : List (Option (List ℕ))) (x : List Bool) (size : length x ≡ 8 * BLOCK_BYTES)
    (agrees : misses (pins_of known) x ≡ 0) (k : ℕ) (small : k < 4) (word : List ℕ)
    (is_known : known_word known k ≡ Some word) (is_word : IsWord word) where
  -- the byte of a word as it is sent
  abbrev sent : ℕ → ℕ
  sent m = bit_xor (get_or word m 0) (sequence_byte (4 * m + k))

  pin_there : (m j i : ℕ) → m < WORD_BYTES → j < 8 → i ≡ 8 * (4 * m + k) + j →
      get_or (pins_of known) i None ≡ Some (eqb (bit_at (sent m) (7 - j)) 1)
  unfolding pins_of
  pin_there m j i room low at =
      let in_word : i / 8 % 4 ≡ k = omega arith in
      let byte : i / 32 ≡ m = omega arith in
      let place : i / 8 ≡ 4 * m + k = omega arith in
      let digit : i % 8 ≡ j = omega arith in
      get_or-map-range_with_len (λ i. pin_by i (known_word known (i / 8 % 4))) 0 8160 i i None (omega arith)
      (omega arith)
      ∙ ap (λ n. pin_by i (known_word known n)) in_word ∙ ap (pin_by i) is_known
      ∙ ap (λ n. Some (eqb (bit_at (bit_xor (get_or word n 0) (sequence_byte (i / 8))) (7 - i % 8)) 1)) byte
      ∙ ap (λ n. Some (eqb (bit_at (bit_xor (get_or word m 0) (sequence_byte n)) (7 - i % 8)) 1)) place
      ∙ ap (λ n. Some (eqb (bit_at (sent m) (7 - n)) 1)) digit

  bit_there : (m j : ℕ) → m < WORD_BYTES → j < 8 →
      get_or (drop (8 * (4 * m + k)) x) j false ≡ eqb (bit_at (sent m) (7 - j)) 1
  bit_there m j room low =
      get_or-drop (8 * (4 * m + k)) x j false
      ∙ bit_is (pins_of known) x agrees (8 * (4 * m + k) + j) _ (omega arith)
      (pin_there m j (8 * (4 * m + k) + j) room low refl)

  byte_there : (m : ℕ) → m < WORD_BYTES → get_or (bytes_of_bits x) (4 * m + k) 0 ≡ sent m
  unfolding bytes_of_bits
  byte_there m room =
      let y = drop (8 * (4 * m + k)) x in
      let long : 8 ≤ length y = omega (arith, length-drop (8 * (4 * m + k)) x) in
      let low : sent m < 256 = xor_lt 8 (get_or word m 0) (sequence_byte (4 * m + k)) (is_word.bytes m room)
      (sequence_byte-lt (4 * m + k)) in
      byte_at (length x / 8) (4 * m + k) x (omega arith)
      ∙ ap (λ z. number_from_digits 2 (map bit z)) (eight_of y long)
      ∙ value_of (sent m) _ _ _ _ _ _ _ _ low (bit_there m 0 room (omega arith)) (bit_there m 1 room (omega arith))
      (bit_there m 2 room (omega arith)) (bit_there m 3 room (omega arith)) (bit_there m 4 room (omega arith))
      (bit_there m 5 room (omega arith)) (bit_there m 6 room (omega arith)) (bit_there m 7 room (omega arith))

  plain_there : (m : ℕ) → m < WORD_BYTES → get_or (randomised_block (bytes_of_bits x)) (4 * m + k) 0 ≡ get_or word m 0
  plain_there m room =
      let s = sequence_byte (4 * m + k) in
      get_or-randomised_block (bytes_of_bits x) (4 * m + k) (omega arith)
      ∙ ap (λ byte. bit_xor byte s) (byte_there m room)
      ∙ xor_assoc (get_or word m 0) s s ∙ ap (bit_xor (get_or word m 0)) (xor_self s) ∙ xor_zero_r (get_or word m 0)

  word_there : word_of (randomised_block (bytes_of_bits x)) k ≡ word
  word_there =
      sym (every_fourth_by_all WORD_BYTES (randomised_block (bytes_of_bits x)) word k is_word.long
      (λ m room. sym (plain_there m room)))

pub known_words : (known : List (Option (List ℕ))) (x : List Bool) (k : ℕ) (word : List ℕ) →
    length x ≡ 8 * BLOCK_BYTES → misses (pins_of known) x ≡ 0 → k < 4 → known_word known k ≡ Some word → IsWord word →
    word_of (randomised_block (bytes_of_bits x)) k ≡ word
known_words known x k word size agrees small e is_word = word_there known x size agrees k small word e is_word

-- ---- and the other way round: where each known word is the path's, the path agrees
miss_none : (pin : Option Bool) (c : Bool) → ((b : Bool) → pin ≡ Some b → c ≡ b) → miss pin c ≡ 0
miss_none None c all = refl
miss_none (Some true) true all = refl
miss_none (Some true) false all = absurd (false≢true (all true refl))
miss_none (Some false) true all = absurd (true≢false (all false refl))
miss_none (Some false) false all = refl

agree_by : (pins : List (Option Bool)) (x : List Bool) →
    ((i : ℕ) (b : Bool) → i < length x → get_or pins i None ≡ Some b → get_or x i false ≡ b) → misses pins x ≡ 0
agree_by [] x all = refl
agree_by (pin ∷ pins) [] all = refl
agree_by (pin ∷ pins) (c ∷ x) all =
    omega (
      arith,
      miss_none pin c (λ b e. all 0 b (omega arith) e),
      agree_by pins x (λ i b l e. all (suc i) b (omega arith) e),
    )

some_same : (a b : Bool) → Some a ≡ Some b → a ≡ b
some_same a b e = cc

below_eight : (P : ℕ → Type 0) → P 0 → P 1 → P 2 → P 3 → P 4 → P 5 → P 6 → P 7 → (j : ℕ) → j < 8 → P j
below_eight P a b c d e f g h zero l = a
below_eight P a b c d e f g h (suc zero) l = b
below_eight P a b c d e f g h (suc (suc zero)) l = c
below_eight P a b c d e f g h (suc (suc (suc zero))) l = d
below_eight P a b c d e f g h (suc (suc (suc (suc zero)))) l = e
below_eight P a b c d e f g h (suc (suc (suc (suc (suc zero))))) l = f
below_eight P a b c d e f g h (suc (suc (suc (suc (suc (suc zero)))))) l = g
below_eight P a b c d e f g h (suc (suc (suc (suc (suc (suc (suc zero))))))) l = h
below_eight P a b c d e f g h (suc (suc (suc (suc (suc (suc (suc (suc j)))))))) l = absurd (omega arith)

-- a bit of the number of eight bits
digit_of : (a b c d e f g h : Bool) (j : ℕ) → j < 8 →
    bit_at (number_from_digits 2 (map bit (a ∷ b ∷ c ∷ d ∷ e ∷ f ∷ g ∷ h ∷ []))) (7 - j) ≡
    bit (get_or (a ∷ b ∷ c ∷ d ∷ e ∷ f ∷ g ∷ h ∷ []) j false)
digit_of a b c d e f g h j l =
    let la = bit_below a in
    let lb = bit_below b in
    let lc = bit_below c in
    let ld = bit_below d in
    let le = bit_below e in
    let lf = bit_below f in
    let lg = bit_below g in
    let lh = bit_below h in
    let n = number_from_digits 2 (map bit (a ∷ b ∷ c ∷ d ∷ e ∷ f ∷ g ∷ h ∷ [])) in
    let e0 : n / 2 ^ 7 % 2 ≡ bit a = omega arith in
    let e1 : n / 2 ^ 6 % 2 ≡ bit b = omega arith in
    let e2 : n / 2 ^ 5 % 2 ≡ bit c = omega arith in
    let e3 : n / 2 ^ 4 % 2 ≡ bit d = omega arith in
    let e4 : n / 2 ^ 3 % 2 ≡ bit e = omega arith in
    let e5 : n / 2 ^ 2 % 2 ≡ bit f = omega arith in
    let e6 : n / 2 ^ 1 % 2 ≡ bit g = omega arith in
    let e7 : n / 2 ^ 0 % 2 ≡ bit h = omega arith in
    below_eight (λ j. bit_at n (7 - j) ≡ bit (get_or (a ∷ b ∷ c ∷ d ∷ e ∷ f ∷ g ∷ h ∷ []) j false))
    e0 e1 e2 e3 e4 e5 e6 e7 j l

module _ (known : List (Option (List ℕ))) (x : List Bool) (size : length x ≡ 8 * BLOCK_BYTES)
    (same : (k : ℕ) (word : List ℕ) → k < 4 → known_word known k ≡ Some word →
    word_of (randomised_block (bytes_of_bits x)) k ≡ word) where
  bit_of_byte : (p j i : ℕ) → p < BLOCK_BYTES → j < 8 → i ≡ 8 * p + j →
      eqb (bit_at (get_or (bytes_of_bits x) p 0) (7 - j)) 1 ≡ get_or x i false
  unfolding bytes_of_bits
  bit_of_byte p j i room low at =
      let y = drop (8 * p) x in
      let long : 8 ≤ length y = omega (arith, length-drop (8 * p) x) in
      let eight = eight_of y long in
      let byte = byte_at (length x / 8) p x (omega arith) ∙ ap (λ z. number_from_digits 2 (map bit z)) eight in
      ap (λ v. eqb (bit_at v (7 - j)) 1) byte
      ∙ ap (λ v. eqb v 1) (digit_of (get_or y 0 false) (get_or y 1 false) (get_or y 2 false) (get_or y 3 false)
      (get_or y 4 false) (get_or y 5 false) (get_or y 6 false) (get_or y 7 false) j low)
      ∙ test_bit _ ∙ ap (λ z. get_or z j false) (sym eight) ∙ get_or-take 8 y j false low
      ∙ get_or-drop (8 * p) x j false ∙ ap (λ n. get_or x n false) (sym at)

  by_word : (i : ℕ) (b : Bool) → i < length x → (o : Option (List ℕ)) → known_word known (i / 8 % 4) ≡ o →
      pin_by i o ≡ Some b → get_or x i false ≡ b
  by_word i b room None e pin = absurd (true≢false (ap is_none pin))
  by_word i b room (Some word) e pin =
      let k = i / 8 % 4 in
      let m = i / 32 in
      let p = i / 8 in
      let s = sequence_byte p in
      let place : 4 * m + k ≡ p = omega arith in
      let there = same k word (omega arith) e in
      let in_word : get_or word m 0 ≡ bit_xor (get_or (bytes_of_bits x) p 0) s =
      ap (λ z. get_or z m 0) (sym there)
      ∙ get_or-every_fourth WORD_BYTES (randomised_block (bytes_of_bits x)) k m (omega arith)
      ∙ ap (λ n. get_or (randomised_block (bytes_of_bits x)) n 0) place
      ∙ get_or-randomised_block (bytes_of_bits x) p (omega arith) in
      let byte : bit_xor (get_or word m 0) s ≡ get_or (bytes_of_bits x) p 0 =
      ap (λ v. bit_xor v s) in_word
      ∙ xor_assoc (get_or (bytes_of_bits x) p 0) s s
      ∙ ap (bit_xor (get_or (bytes_of_bits x) p 0)) (xor_self s) ∙ xor_zero_r (get_or (bytes_of_bits x) p 0) in
      let mine : eqb (bit_at (bit_xor (get_or word m 0) s) (7 - i % 8)) 1 ≡ b =
      some_same _ _ pin in
      sym (bit_of_byte p (i % 8) i (omega arith) (omega arith) (omega arith))
      ∙ ap (λ v. eqb (bit_at v (7 - i % 8)) 1) (sym byte) ∙ mine

  pub path_agrees : misses (pins_of known) x ≡ 0
  unfolding pins_of
  path_agrees =
      agree_by (pins_of known) x (λ i b room e. by_word i b room (known_word known (i / 8 % 4)) refl
      (sym (get_or-map-range_with_len (λ i. pin_by i (known_word known (i / 8 % 4))) 0 8160 i i None
      (omega (arith, size)) (omega arith)) ∙ e))

-- ---- some path agrees
pub some_agrees : (known : List (Option (List ℕ))) →
    (x : List Bool) × (length x ≡ 8 * BLOCK_BYTES) × (misses (pins_of known) x ≡ 0)
unfolding pins_of
some_agrees known =
    let pins = pins_of known in
    let size = length-map-range_with_len (λ i. pin_by i (known_word known (i / 8 % 4))) 0 (8 * BLOCK_BYTES) in
    (filled pins, length-filled pins ∙ size, filled_agrees pins)
