-- Bits that are written, and runs of blocks.
use Rattle.std.proofs.Common.{◌≡◌, ℕ, zero, suc, ◌+◌, ◌*◌, ◌/◌, ◌%◌, ◌^◌, ◌<◌, true, false, List, [], ◌∷◌}
use Rattle.std.proofs.Common.{◌++◌, replicate, refl, sym, ap, ◌∙◌, arith}
use Rattle.std.specs.Prelude.{if◌then◌else◌}
use Rattle.std.specs.Int.{to_be_bytes, w32}
use Rattle.std.proofs.lemmas.List.{append_assoc, append-nil}
use Rattle.std.proofs.lemmas.Nat.{pow-add, mul-add-lt}
use Rattle.std.proofs.lemmas.Nat.Bits.{bit_at-zero, bit_at_above}
use Rattle.lr_bits.specs.Bits.{bits_of, number_bits, zeros_and_one}
use Rattle.lr_bits.proofs.ReaderLemmas.{bits_of-append, bits_of-cons, bits_of-nil, number_bits_of_parts}
use Rattle.lr_bits.proofs.ReaderLemmas.{number_bits_split}
use Rattle.lr_rice.proofs.ItemLemmas.{number_bits-mod}
use Rattle.lr_rice_coder.specs.Shortest.{all_zero, places_of_block, zero_run}

pub number_bits-none : (n : ℕ) → number_bits 0 n ≡ []
unfolding number_bits
number_bits-none n = refl

pub number_bits-zeros : (width : ℕ) → number_bits width 0 ≡ replicate width 0
unfolding number_bits
number_bits-zeros zero = refl
number_bits-zeros (suc width) =
    ap (λ b. b ∷ number_bits width 0) (bit_at-zero width) ∙ ap (λ l. 0 ∷ l) (number_bits-zeros width)

-- ---- pending bits

-- a number after those that are pending
pub pending_put : (front : List ℕ) (count pending width number : ℕ) → number < 2 ^ width
    → front ++ number_bits (count + width) (pending * 2 ^ width + number)
    ≡ (front ++ number_bits count pending) ++ number_bits width number
pending_put front count pending width number fits =
    ap (λ l. front ++ l) (number_bits_of_parts count width pending number fits)
    ∙ sym (append_assoc front (number_bits count pending) (number_bits width number))

pub pending_fits : (count pending width number : ℕ) → pending < 2 ^ count → number < 2 ^ width
    → pending * 2 ^ width + number < 2 ^ (count + width)
pending_fits count pending width number few fits =
    omega (
      arith,
      pow-add 2 count width,
      mul-add-lt pending (2 ^ width) number (2 ^ count) few fits,
    )

byte_first : (high word : ℕ) → number_bits (8 + high) word
    ≡ number_bits 8 (word / 2 ^ high % 256) ++ number_bits high word
byte_first high word =
    number_bits_split 8 high word ∙ ap (λ l. l ++ number_bits high word) (number_bits-mod 8 (word / 2 ^ high))

-- the bytes of a word have its bits
pub word_bits : (word : ℕ) → bits_of (to_be_bytes w32 word) ≡ number_bits 32 word
word_bits word =
    let b = λ (k : ℕ). number_bits 8 (word / 2 ^ k % 256) in
    let last : number_bits 8 word ≡ number_bits 8 (word % 256) = number_bits-mod 8 word in
    let front : number_bits 32 word ≡ b 24 ++ (b 16 ++ (b 8 ++ number_bits 8 word)) =
    byte_first 24 word ∙ ap (λ l. b 24 ++ l) (byte_first 16 word ∙ ap (λ l. b 16 ++ l) (byte_first 8 word)) in
    simp (bits_of-cons, bits_of-nil, append-nil) (sym (front ∙ ap (λ l. b 24 ++ (b 16 ++ (b 8 ++ l))) last))

-- a word goes to the bytes, and the rest of the pending bits stays
pub word_put : (bytes : List ℕ) (rest pending : ℕ)
    → bits_of (bytes ++ to_be_bytes w32 (pending / 2 ^ rest)) ++ number_bits rest (pending % 2 ^ rest)
    ≡ bits_of bytes ++ number_bits (32 + rest) pending
word_put bytes rest pending =
    let word = to_be_bytes w32 (pending / 2 ^ rest) in
    ap (λ l. l ++ number_bits rest (pending % 2 ^ rest)) (bits_of-append bytes word
    ∙ ap (λ l. bits_of bytes ++ l) (word_bits (pending / 2 ^ rest)))
    ∙ ap (λ l. (bits_of bytes ++ number_bits 32 (pending / 2 ^ rest)) ++ l) (sym (number_bits-mod rest pending))
    ∙ append_assoc (bits_of bytes) (number_bits 32 (pending / 2 ^ rest)) (number_bits rest pending)
    ∙ ap (λ l. bits_of bytes ++ l) (sym (number_bits_split 32 rest pending))

-- one of the last bytes
pub byte_put : (bytes : List ℕ) (rest pending : ℕ)
    → bits_of (bytes ++ (pending / 2 ^ rest % 256) ∷ []) ++ number_bits rest pending
    ≡ bits_of bytes ++ number_bits (8 + rest) pending
byte_put bytes rest pending =
    let byte = pending / 2 ^ rest % 256 in
    ap (λ l. l ++ number_bits rest pending) (bits_of-append bytes (byte ∷ [])
    ∙ ap (λ l. bits_of bytes ++ l) (bits_of-cons byte [] ∙ ap (λ l. number_bits 8 byte ++ l) bits_of-nil
    ∙ append-nil (number_bits 8 byte)))
    ∙ append_assoc (bits_of bytes) (number_bits 8 byte) (number_bits rest pending)
    ∙ ap (λ l. bits_of bytes ++ l) (sym (byte_first rest pending))

-- ---- sequences

pub one_after_zeros : (n : ℕ) → number_bits (n + 1) 1 ≡ zeros_and_one n
unfolding number_bits zeros_and_one
one_after_zeros zero = refl
one_after_zeros (suc n) =
    let turn : suc n + 1 ≡ suc (n + 1) = omega arith in
    ap (λ (w : ℕ). number_bits w 1) turn
    ∙ ap (λ b. b ∷ number_bits (n + 1) 1) (bit_at_above 1 1 (n + 1) (omega arith) (omega arith))
    ∙ ap (λ l. 0 ∷ l) (one_after_zeros n)

pub zeros_before : (m n : ℕ) → number_bits m 0 ++ zeros_and_one n ≡ zeros_and_one (m + n)
unfolding number_bits zeros_and_one
zeros_before zero n = ap zeros_and_one (omega arith)
zeros_before (suc m) n =
    let turn : suc m + n ≡ suc (m + n) = omega arith in
    ap (λ b. b ∷ (number_bits m 0 ++ zeros_and_one n)) (bit_at-zero m) ∙ ap (λ l. 0 ∷ l) (zeros_before m n)
    ∙ ap zeros_and_one (sym turn)

-- ---- runs

pub zero_run-stop : (block : ℕ) (places : List ℕ) (n at : ℕ) → all_zero (places_of_block block places at) ≡ false
    → zero_run block places n at ≡ 0
unfolding zero_run
zero_run-stop block places zero at isnt = refl
zero_run-stop block places (suc n) at isnt = ap (λ b. if b then suc (zero_run block places n (at + 1)) else 0) isnt

pub zero_run-more : (block : ℕ) (places : List ℕ) (n at : ℕ) → all_zero (places_of_block block places at) ≡ true
    → zero_run block places (suc n) at ≡ suc (zero_run block places n (at + 1))
unfolding zero_run
zero_run-more block places n at is = ap (λ b. if b then suc (zero_run block places n (at + 1)) else 0) is

pub zero_run-none : (block : ℕ) (places : List ℕ) (at : ℕ) → zero_run block places 0 at ≡ 0
unfolding zero_run
zero_run-none block places at = refl
