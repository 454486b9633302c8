-- The symbols that more bits add to a code.
use Rattle.std.proofs.Common.{◌≡◌, ℕ, zero, suc, ◌+◌, ◌-◌, ◌*◌, ◌/◌, ◌%◌, ◌^◌, ◌<◌, ◌≤◌, Bool, false, nat_eq, ℤ, List}
use Rattle.std.proofs.Common.{[], ◌∷◌, ◌++◌, length, take, drop, get_or, map, set, refl, sym, ap, ◌∙◌, arith}
use Rattle.std.proofs.Common.{length-set, append-nil, append_assoc, length-append, length-drop, bit_and, drop_at}
use Rattle.std.proofs.Math.Seq.{drop-append-add}
use Rattle.std.proofs.lemmas.Nat.{and_mask}
use Rattle.std.specs.List.{range_with_len}
use Rattle.std.proofs.lemmas.List.{drop-append-le, map-append, take_more_set}
use Rattle.std.proofs.lemmas.List.FromFn.{map-range_with_len_more, length-map-range_with_len}
use Rattle.lr_bits.specs.Bits.{bit_of}
use Rattle.lr_bits.specs.declared.sizes.TheConstants.{BLOCK_BYTES, FRAME_SYMBOLS}
use Rattle.lr_conv.specs.Convolution.{first_symbol, code, symbols, second_symbol}
use Rattle.lr_conv.specs.Levels.{levels, six_zeros}
use Rattle.lr_conv.specs.LineEncoder.{LineEncoderStandsFor}
use Rattle.lr_conv.specs.declared.line.LineCode.{LineCode}
use Rattle.lr_conv.specs.declared.line.LineEncoder.{LineEncoder}
use Rattle.lr_conv.specs.declared.line.TheConstants.{STANDARD}
use Rattle.lr_conv.proofs.Lines.{length-levels}
use Rattle.lr_conv.proofs.SevenBits.{symbols-more}
use Rattle.lr_make.specs.Symbols.{bits_of_bytes, level, marked_block}

-- ---- the code of a list

pub length-symbols : (line : LineCode) (t : List Bool) (n : ℕ) → length (symbols line t n) ≡ 2 * n
length-symbols line t zero = refl
length-symbols line t (suc n) =
    omega (
      arith,
      length-append (symbols line t n) (first_symbol t n ∷ second_symbol line t n ∷ []),
      length-symbols line t n,
    )

pub length-code : (line : LineCode) (past x : List Bool) → length (code line past x) ≡ 2 * length x
length-code line past x = length-symbols line (past ++ x) (length x)

-- one bit more leaves the symbols so far
code-more : (line : LineCode) (past x : List Bool) (b : Bool) → length past ≡ 6 →
    (pair : List Bool) × (code line past (x ++ b ∷ []) ≡ code line past x ++ pair)
code-more line past x b six =
    let t : List Bool = past ++ x in
    let n : ℕ = length x in
    let size : length t ≡ n + 6 = omega (arith, length-append past x, six) in
    let more : length (x ++ b ∷ []) ≡ suc n = omega (arith, length-append x (b ∷ [])) in
    let all : past ++ (x ++ b ∷ []) ≡ t ++ b ∷ [] = sym (append_assoc past x (b ∷ [])) in (
      first_symbol (t ++ b ∷ []) n ∷ second_symbol line (t ++ b ∷ []) n ∷ [],
      ap (λ z. symbols line z (length (x ++ b ∷ []))) all ∙ ap (symbols line (t ++ b ∷ [])) more
          ∙ ap (λ z. z ++ first_symbol (t ++ b ∷ []) n ∷ second_symbol line (t ++ b ∷ []) n ∷ [])
          (symbols-more b t line n (omega (arith, size))),
    )

-- nor do more bits change them
pub code-front : (line : LineCode) (past x y : List Bool) → length past ≡ 6 →
    (rest : List Bool) × (code line past (x ++ y) ≡ code line past x ++ rest)
code-front line past x [] six = ([], ap (code line past) (append-nil x) ∙ sym (append-nil (code line past x)))
code-front line past x (b ∷ y) six =
    let one = code-more line past x b six in
    let rest = code-front line past (x ++ b ∷ []) y six in (
      one.0 ++ rest.0,
      ap (code line past) (sym (append_assoc x (b ∷ []) y)) ∙ rest.1 ∙ ap (λ z. z ++ rest.0) one.1
          ∙ append_assoc (code line past x) one.0 rest.0,
    )

-- the symbols of bits, by an encoder that begins after six levels 0
abbrev pub line_code : LineCode → List Bool → List Bool
line_code line bits = code line six_zeros (levels line false bits)

pub length-line_code : (line : LineCode) (bits : List Bool) → length (line_code line bits) ≡ 2 * length bits
length-line_code line bits =
    omega (arith, length-code line six_zeros (levels line false bits), length-levels line false bits)

-- ---- the first bits of some bytes

abbrev pub first_bits : List ℕ → ℕ → List Bool
first_bits bytes n = map (λ place. nat_eq (bit_of bytes place) 1) (range_with_len 0 n)

pub first_bits-more : (bytes : List ℕ) (n : ℕ) →
    first_bits bytes (n + 1) ≡ first_bits bytes n ++ nat_eq (bit_of bytes n) 1 ∷ []
first_bits-more bytes n = map-range_with_len_more (λ place. nat_eq (bit_of bytes place) 1) 0 n n (omega arith)

pub length-first_bits : (bytes : List ℕ) (n : ℕ) → length (first_bits bytes n) ≡ n
length-first_bits bytes n = length-map-range_with_len (λ place. nat_eq (bit_of bytes place) 1) 0 n

pub bits_of_bytes-all : (bytes : List ℕ) (n : ℕ) → 8 * length bytes ≡ n → first_bits bytes n ≡ bits_of_bytes bytes
unfolding bits_of_bytes
bits_of_bytes-all bytes n e = ap (first_bits bytes) (sym e)

-- the bit that is read
pub bit_is : (bytes : List ℕ) (n byte : ℕ) → byte ≡ get_or bytes (n / 8) 0 →
    bit_and (byte / 2 ^ (7 - n % 8)) 1 ≡ bit_of bytes n
bit_is bytes n byte e = and_mask (byte / 2 ^ (7 - n % 8)) 1 ∙ ap (λ z. z / 2 ^ (7 - n % 8) % 2) e

-- one bit more, and its two symbols
pub symbols_more : (line : LineCode) (bits : List Bool) (bytes : List ℕ) (n : ℕ) (first second : Bool)
    (old : List ℤ) → length old ≡ FRAME_SYMBOLS → n < 8192
    → take (2 * n) old ≡ map level (drop (2 * length bits) (line_code line (bits ++ first_bits bytes n)))
    → line_code line ((bits ++ first_bits bytes n) ++ nat_eq (bit_of bytes n) 1 ∷ []) ≡
    line_code line (bits ++ first_bits bytes n) ++ first ∷ second ∷ []
    → take (2 * (n + 1)) (set (set old (2 * n) (level first)) (2 * n + 1) (level second)) ≡
    map level (drop (2 * length bits) (line_code line (bits ++ first_bits bytes (n + 1))))
symbols_more line bits bytes n first second old long small done pushed =
    let u : ℤ = level first in
    let v : ℤ = level second in
    let before : List Bool = line_code line (bits ++ first_bits bytes n) in
    let twice : 2 * (n + 1) ≡ 2 * n + 1 + 1 = omega arith in
    let written : take (2 * (n + 1)) (set (set old (2 * n) u) (2 * n + 1) v) ≡ take (2 * n) old ++ u ∷ v ∷ [] =
    ap (λ k. take k (set (set old (2 * n) u) (2 * n + 1) v)) twice
    ∙ take_more_set (set old (2 * n) u) (2 * n + 1) v (omega (arith, length-set old (2 * n) u))
    ∙ ap (λ z. z ++ v ∷ []) (take_more_set old (2 * n) u (omega arith))
    ∙ append_assoc (take (2 * n) old) (u ∷ []) (v ∷ []) in
    let longer : bits ++ first_bits bytes (n + 1) ≡ (bits ++ first_bits bytes n) ++ nat_eq (bit_of bytes n) 1 ∷ [] =
    ap (λ z. bits ++ z) (first_bits-more bytes n) ∙ sym (append_assoc bits (first_bits bytes n)
    (nat_eq (bit_of bytes n) 1 ∷ [])) in
    let enough : 2 * length bits ≤ length before =
    omega (arith, length-line_code line (bits ++ first_bits bytes n), length-append bits (first_bits bytes n)) in
    written ∙ ap (λ z. z ++ u ∷ v ∷ []) done
    ∙ sym (ap (λ z. map level (drop (2 * length bits) (line_code line z))) longer
    ∙ ap (λ z. map level (drop (2 * length bits) z)) pushed
    ∙ ap (map level) (drop-append-le (2 * length bits) before (first ∷ second ∷ []) enough)
    ∙ map-append level (drop (2 * length bits) before) (first ∷ second ∷ []))

-- ---- the last six bits

-- the bits of some bytes from place 8186 on
abbrev pub last_bits : List ℕ → ℕ → List Bool
last_bits bytes n = drop 8186 (first_bits bytes n)

pub last_bits-more : (bytes : List ℕ) (n : ℕ) (bit : Bool) → 8186 ≤ n → bit ≡ nat_eq (bit_of bytes n) 1 →
    last_bits bytes n ++ bit ∷ [] ≡ last_bits bytes (n + 1)
last_bits-more bytes n bit far is =
    let own : List Bool = nat_eq (bit_of bytes n) 1 ∷ [] in
    ap (λ z. last_bits bytes n ++ z ∷ []) is
    ∙ sym (ap (drop 8186) (first_bits-more bytes n)
    ∙ drop-append-le 8186 (first_bits bytes n) own (omega (arith, length-first_bits bytes n)))

-- an encoder that has taken the last six bits alone has taken any earlier bits and a block too
pub last_six : (encoder : LineEncoder) (bits : List Bool) (block : List ℕ) → length block ≡ BLOCK_BYTES
    → LineEncoderStandsFor encoder STANDARD (last_bits (marked_block block) 8192)
    → LineEncoderStandsFor encoder STANDARD (bits ++ bits_of_bytes (marked_block block))
last_six encoder bits block long s =
    let more : List Bool = bits_of_bytes (marked_block block) in
    let last : List Bool = last_bits (marked_block block) 8192 in
    let whole : first_bits (marked_block block) 8192 ≡ more =
    bits_of_bytes-all (marked_block block) 8192 (omega arith) in
    let size : length more ≡ 8192 = sym (ap length whole) ∙ length-first_bits (marked_block block) 8192 in
    let six : 6 ≡ length last =
    omega (
      arith,
      length-drop 8186 (first_bits (marked_block block) 8192),
      length-first_bits (marked_block block) 8192,
    ) in
    let places : length (bits ++ more) ≡ length (six_zeros ++ bits) + 8186 =
    omega (arith, length-append bits more, length-append six_zeros bits) in
    record {
      same = s.same;
      last_six = s.last_six ∙ drop_at six_zeros last (length last) six
          ∙ ap (drop 8186) whole ∙ sym (drop-append-add (six_zeros ++ bits) more 8186)
          ∙ ap (λ k. drop k ((six_zeros ++ bits) ++ more)) (sym places)
          ∙ ap (drop (length (bits ++ more))) (append_assoc six_zeros bits more);
    }
