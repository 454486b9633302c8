-- The randomiser's sequence: the table has its first 255 bytes, after which it begins anew.
use Rattle.std.proofs.Common.{◌≡◌, ℕ, zero, suc, ◌+◌, ◌*◌, ◌/◌, ◌%◌, ◌<◌, Bool, true, ◌&&◌, eqb, ltb, List, [], ◌∷◌}
use Rattle.std.proofs.Common.{length, get_or, refl, sym, ap, ◌∙◌, arith, add-one}
use Rattle.std.specs.Int.Bits.{bit_xor, xor_assoc, xor_self, xor_zero_r}
use Rattle.std.specs.Int.Digits.{number_from_digits}
use Rattle.std.proofs.lemmas.Bool.{eqb-true, ltb-true, and_parts}
use Rattle.std.proofs.lemmas.List.FromFn.{fill_by_all, get_or-map-range_with_len, length-map-range_with_len}
use Rattle.lr_block.specs.Randomiser.{sequence_bit, sequence_byte, randomised_block, TwiceIsTheSame}
use Rattle.lr_block.specs.declared.randomiser.TheConstants.{SEQUENCE}
use Rattle.lr_bits.specs.declared.sizes.TheConstants.{BLOCK_BYTES}

-- a test of eight neighbouring bits
abbrev Test : Type 0
Test = ℕ → ℕ → ℕ → ℕ → ℕ → ℕ → ℕ → ℕ → Bool

-- the test of those one place on
abbrev next : Test → Test
next test a b c d e f g h = test b c d e f g h ((h + f + d + a) % 2)

-- the bytes go on with the sequence from its eight bits a, .., h, and then come eight ones
follows : List ℕ → Test
follows [] a b c d e f g h =
    eqb a 1 && (eqb b 1 && (eqb c 1 && (eqb d 1 && (eqb e 1 && (eqb f 1 && (eqb g 1 && eqb h 1))))))
follows (byte ∷ bytes) a b c d e f g h =
    eqb byte (number_from_digits 2 (a ∷ b ∷ c ∷ d ∷ e ∷ f ∷ g ∷ h ∷ []))
    && next (next (next (next (next (next (next (next (follows bytes)))))))) a b c d e f g h

-- the test of the sequence's bits from a place on
follows_from : List ℕ → ℕ → Bool
follows_from bytes m =
    follows bytes (sequence_bit m) (sequence_bit (suc m)) (sequence_bit (suc (suc m)))
    (sequence_bit (suc (suc (suc m))))
    (sequence_bit (suc (suc (suc (suc m))))) (sequence_bit (suc (suc (suc (suc (suc m))))))
    (sequence_bit (suc (suc (suc (suc (suc (suc m))))))) (sequence_bit (suc (suc (suc (suc (suc (suc (suc m))))))))

-- the byte of the sequence's bits from a place on
byte_from : ℕ → ℕ
byte_from m =
    number_from_digits 2
    (sequence_bit m ∷ sequence_bit (suc m) ∷ sequence_bit (suc (suc m)) ∷ sequence_bit (suc (suc (suc m)))
    ∷ sequence_bit (suc (suc (suc (suc m)))) ∷ sequence_bit (suc (suc (suc (suc (suc m)))))
    ∷ sequence_bit (suc (suc (suc (suc (suc (suc m))))))
    ∷ sequence_bit (suc (suc (suc (suc (suc (suc (suc m))))))) ∷ [])

byte-from : (i : ℕ) → sequence_byte i ≡ byte_from (8 * i)
unfolding sequence_byte byte_from
byte-from i = simp add-one

table-test : follows SEQUENCE 1 1 1 1 1 1 1 1 ≡ true
unfolding follows
table-test = refl

table-follows : follows_from SEQUENCE 0 ≡ true
unfolding follows_from sequence_bit
table-follows = table-test

follows-more : (byte : ℕ) (bytes : List ℕ) (m : ℕ) → follows_from (byte ∷ bytes) m ≡ true
    → (byte ≡ byte_from m) × (follows_from bytes (suc (suc (suc (suc (suc (suc (suc (suc m)))))))) ≡ true)
unfolding follows_from follows sequence_bit byte_from
follows-more byte bytes m h =
    let parts = and_parts (eqb byte (byte_from m))
    (follows_from bytes (suc (suc (suc (suc (suc (suc (suc (suc m))))))))) h in
    (eqb-true byte (byte_from m) parts.0, parts.1)

follows-at : (bytes : List ℕ) (m : ℕ) → follows_from bytes m ≡ true → (i : ℕ) → i < length bytes
    → get_or bytes i 0 ≡ byte_from (m + 8 * i)
follows-at [] m h i k = absurd (omega arith)
follows-at (byte ∷ bytes) m h zero k = (follows-more byte bytes m h).0 ∙ ap byte_from (omega arith)
follows-at (byte ∷ bytes) m h (suc i) k =
    follows-at bytes (suc (suc (suc (suc (suc (suc (suc (suc m)))))))) (follows-more byte bytes m h).1 i
    (omega arith) ∙ ap byte_from (omega arith)

-- the bits from two places on are the same
record SameFrom (m n : ℕ) : Type 0 where
  zeroth : sequence_bit m ≡ sequence_bit n
  first : sequence_bit (suc m) ≡ sequence_bit (suc n)
  second : sequence_bit (suc (suc m)) ≡ sequence_bit (suc (suc n))
  third : sequence_bit (suc (suc (suc m))) ≡ sequence_bit (suc (suc (suc n)))
  fourth : sequence_bit (suc (suc (suc (suc m)))) ≡ sequence_bit (suc (suc (suc (suc n))))
  fifth : sequence_bit (suc (suc (suc (suc (suc m))))) ≡ sequence_bit (suc (suc (suc (suc (suc n)))))
  sixth : sequence_bit (suc (suc (suc (suc (suc (suc m)))))) ≡ sequence_bit (suc (suc (suc (suc (suc (suc n))))))
  seventh : sequence_bit (suc (suc (suc (suc (suc (suc (suc m)))))))
      ≡ sequence_bit (suc (suc (suc (suc (suc (suc (suc n)))))))

same-next : (m n : ℕ) → SameFrom m n → SameFrom (suc m) (suc n)
unfolding sequence_bit
same-next m n s = record {
  zeroth = s.first;
  first = s.second;
  second = s.third;
  third = s.fourth;
  fourth = s.fifth;
  fifth = s.sixth;
  sixth = s.seventh;
  seventh = cc;
}

-- m more, as the sequence counts
more : ℕ → ℕ → ℕ
more zero m = m
more (suc n) m = suc (more n m)

more-is : (n m : ℕ) → more n m ≡ n + m
unfolding more
more-is zero m = omega arith
more-is (suc n) m = omega (arith, more-is n m)

same-more : (n m : ℕ) → SameFrom m 0 → SameFrom (more n m) n
unfolding more
same-more zero m s = s
same-more (suc n) m s = same-next (more n m) n (same-more n m s)

ends_in_ones : (bytes : List ℕ) (m : ℕ) → follows_from bytes m ≡ true → SameFrom (m + 8 * length bytes) 0
unfolding follows_from follows sequence_bit
ends_in_ones [] m h =
    let e : m + 8 * 0 ≡ m = omega arith in
    let p = and_parts _ _ h in
    let q = and_parts _ _ p.1 in
    let r = and_parts _ _ q.1 in
    let s = and_parts _ _ r.1 in
    let t = and_parts _ _ s.1 in
    let u = and_parts _ _ t.1 in
    let v = and_parts _ _ u.1 in
    rw e (record {
      zeroth = eqb-true _ 1 p.0;
      first = eqb-true _ 1 q.0;
      second = eqb-true _ 1 r.0;
      third = eqb-true _ 1 s.0;
      fourth = eqb-true _ 1 t.0;
      fifth = eqb-true _ 1 u.0;
      sixth = eqb-true _ 1 v.0;
      seventh = eqb-true _ 1 v.1;
    })
ends_in_ones (byte ∷ bytes) m h =
    let e : m + 8 * length (byte ∷ bytes) ≡ suc (suc (suc (suc (suc (suc (suc (suc m))))))) + 8 * length bytes =
    omega arith in
    rw e (ends_in_ones bytes (suc (suc (suc (suc (suc (suc (suc (suc m)))))))) (follows-more byte bytes m h).1)

same_bytes : (m n : ℕ) → SameFrom m n → byte_from m ≡ byte_from n
unfolding byte_from
same_bytes m n s = cc

-- 255 bytes on the sequence is the same
byte-round : (i : ℕ) → sequence_byte (i + 255) ≡ sequence_byte i
byte-round i =
    let ones : SameFrom 2040 0 = ends_in_ones SEQUENCE 0 table-follows in
    let e : 8 * (i + 255) ≡ more (8 * i) 2040 = omega (arith, more-is (8 * i) 2040) in
    byte-from (i + 255) ∙ ap byte_from e ∙ same_bytes (more (8 * i) 2040) (8 * i) (same-more (8 * i) 2040 ones)
    ∙ sym (byte-from i)

bytes-round : (rest rounds : ℕ) → sequence_byte (rest + 255 * rounds) ≡ sequence_byte rest
bytes-round rest zero = ap sequence_byte (omega arith)
bytes-round rest (suc rounds) =
    let e : rest + 255 * suc rounds ≡ rest + 255 * rounds + 255 = omega arith in
    ap sequence_byte e ∙ byte-round (rest + 255 * rounds) ∙ bytes-round rest rounds

pub table-is : (i : ℕ) → get_or SEQUENCE (i % 255) 0 ≡ sequence_byte i
table-is i =
    let short : i % 255 < length SEQUENCE = omega arith in
    let e : i % 255 + 255 * (i / 255) ≡ i = omega arith in
    follows-at SEQUENCE 0 table-follows (i % 255) short ∙ ap byte_from (omega arith) ∙ sym (byte-from (i % 255))
    ∙ sym (bytes-round (i % 255) (i / 255)) ∙ ap sequence_byte e

-- ---- randomised blocks

pub get_or-randomised_block : (block : List ℕ) (i : ℕ) → i < BLOCK_BYTES → get_or (randomised_block block) i 0
    ≡ bit_xor (get_or block i 0) (sequence_byte i)
unfolding randomised_block
get_or-randomised_block block i h =
    get_or-map-range_with_len (λ i. bit_xor (get_or block i 0) (sequence_byte i)) 0 BLOCK_BYTES i i 0 h (omega arith)

pub length-randomised_block : (block : List ℕ) → length (randomised_block block) ≡ BLOCK_BYTES
unfolding randomised_block
length-randomised_block block = length-map-range_with_len
    (λ i. bit_xor (get_or block i 0) (sequence_byte i)) 0 BLOCK_BYTES

pub randomised_by_all : (block new : List ℕ) → length new ≡ BLOCK_BYTES
    → ((i : ℕ) → i < BLOCK_BYTES → get_or new i 0 ≡ bit_xor (get_or block i 0) (sequence_byte i))
    → new ≡ randomised_block block
unfolding randomised_block
randomised_by_all block new long all =
    fill_by_all (λ i. bit_xor (get_or block i 0) (sequence_byte i)) new BLOCK_BYTES 0 long all

pub randomised_block-randomised_block : TwiceIsTheSame
randomised_block-randomised_block block long =
    sym (randomised_by_all (randomised_block block) block long (λ i h.
    sym (ap (λ byte. bit_xor byte (sequence_byte i)) (get_or-randomised_block block i h)
    ∙ xor_assoc (get_or block i 0) (sequence_byte i) (sequence_byte i)
    ∙ ap (bit_xor (get_or block i 0)) (xor_self (sequence_byte i)) ∙ xor_zero_r (get_or block i 0))))

-- ---- the sequence is of bytes

all_small : List ℕ → Bool
all_small [] = true
all_small (byte ∷ bytes) = ltb byte 256 && all_small bytes

small-at : (bytes : List ℕ) → all_small bytes ≡ true → (i : ℕ) → get_or bytes i 0 < 256
unfolding all_small
small-at [] h i = omega arith
small-at (byte ∷ bytes) h zero = ltb-true byte 256 (and_parts (ltb byte 256) (all_small bytes) h).0
small-at (byte ∷ bytes) h (suc i) = small-at bytes (and_parts (ltb byte 256) (all_small bytes) h).1 i

small-test : all_small SEQUENCE ≡ true
unfolding all_small
small-test = refl

pub sequence_byte-lt : (i : ℕ) → sequence_byte i < 256
sequence_byte-lt i = omega (arith, table-is i, small-at SEQUENCE small-test (i % 255))
