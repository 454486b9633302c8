-- Numbers in bytes, and bytes of numbers.
use Rattle.std.proofs.Common.{◌≡◌, ◌<◌, ◌≤◌, ◌+◌, ◌*◌, ◌/◌, ◌%◌, ℕ, zero, suc, List, [], ◌∷◌, ◌++◌, length}
use Rattle.std.proofs.Common.{slice_index, take, drop, All, refl, sym, ap, ◌∙◌, arith, length-drop, ◌^◌}
use Rattle.std.specs.List.{flat_map}
use Rattle.std.proofs.lemmas.List.{drop-drop, get_or-drop}
use Rattle.std.proofs.Math.Seq.{take-add}
use Rattle.byteorder.specs.Endian.{big_bytes, big_number}
use Rattle.byteorder.specs.Numbers.{big_number-reads_back}
use Rattle.lr_shelf_format.specs.Record.{bytes_of_head, head_of, numbers_in, origin_bytes, origin_of_bytes}
use Rattle.lr_shelf_format.specs.declared.header.TheConstants.{MOST_CAPACITY}

-- ---- lengths of two bytes each

pub length-pairs : (ns : List ℕ) → length (flat_map (big_bytes 2) ns) ≡ 2 * length ns
length-pairs [] = refl
length-pairs (n ∷ ns) = omega (arith, length-pairs ns)

pub numbers_in-pairs : (ns rest : List ℕ) → All (λ n. n < 65536) ns
    → numbers_in (length ns) (flat_map (big_bytes 2) ns ++ rest) ≡ ns
numbers_in-pairs [] rest fit = refl
numbers_in-pairs (n ∷ ns) rest fit =
    let first : big_number 2 (big_bytes 2 n ++ (flat_map (big_bytes 2) ns ++ rest)) ≡ n =
    big_number-reads_back 2 n (flat_map (big_bytes 2) ns ++ rest) (fit 0 0 (omega arith)) in
    let others : numbers_in (length ns) (flat_map (big_bytes 2) ns ++ rest) ≡ ns =
    numbers_in-pairs ns rest (λ k d inside. fit (suc k) d (omega arith)) in
    ap (λ m. m ∷ numbers_in (length ns) (flat_map (big_bytes 2) ns ++ rest)) first ∙ ap (λ ms. n ∷ ms) others

pub length-numbers_in : (count : ℕ) (bytes : List ℕ) → length (numbers_in count bytes) ≡ count
length-numbers_in zero bytes = refl
length-numbers_in (suc count) bytes = ap suc (length-numbers_in count (drop 2 bytes))

-- ---- bytes of numbers

abbrev pub AreBytes : List ℕ → Type 0
AreBytes xs = All (λ x. x < 256) xs

pub AreBytes-drop : (n : ℕ) (xs : List ℕ) → AreBytes xs → AreBytes (drop n xs)
AreBytes-drop n xs fit k d inside = rw (get_or-drop n xs k d) (fit (n + k) d (omega (arith, length-drop n xs)))

big_bytes-two : (a b : ℕ) → a < 256 → b < 256 → big_bytes 2 (big_number 2 (a ∷ b ∷ [])) ≡ a ∷ b ∷ []
big_bytes-two a b fa fb =
    let high : (a * 256 + (b * 1 + 0)) / 256 % 256 ≡ a = omega arith in
    let low : (a * 256 + (b * 1 + 0)) % 256 ≡ b = omega arith in
    ap (λ x. x ∷ (a * 256 + (b * 1 + 0)) % 256 ∷ []) high ∙ ap (λ x. a ∷ x ∷ []) low

-- the bytes of the number in two bytes
pub bytes_of_two : (xs : List ℕ) → AreBytes xs → 2 ≤ length xs → big_bytes 2 (big_number 2 xs) ≡ take 2 xs
bytes_of_two [] fit long = absurd (omega arith)
bytes_of_two (a ∷ []) fit long = absurd (omega arith)
bytes_of_two (a ∷ b ∷ rest) fit long = big_bytes-two a b (fit 0 0 (omega arith)) (fit 1 0 (omega arith))

big_bytes-four : (a b c d : ℕ) → a < 256 → b < 256 → c < 256 → d < 256
    → big_bytes 4 (big_number 4 (a ∷ b ∷ c ∷ d ∷ [])) ≡ a ∷ b ∷ c ∷ d ∷ []
big_bytes-four a b c d fa fb fc fd =
    let n = big_number 4 (a ∷ b ∷ c ∷ d ∷ []) in
    let first : n / 16777216 % 256 ≡ a = omega arith in
    let second : n / 65536 % 256 ≡ b = omega arith in
    let third : n / 256 % 256 ≡ c = omega arith in
    let fourth : n % 256 ≡ d = omega arith in
    λ i. first i ∷ second i ∷ third i ∷ fourth i ∷ []

-- the bytes of the number in four bytes
pub bytes_of_four : (xs : List ℕ) → AreBytes xs → 4 ≤ length xs → big_bytes 4 (big_number 4 xs) ≡ take 4 xs
bytes_of_four [] fit long = absurd (omega arith)
bytes_of_four (a ∷ []) fit long = absurd (omega arith)
bytes_of_four (a ∷ b ∷ []) fit long = absurd (omega arith)
bytes_of_four (a ∷ b ∷ c ∷ []) fit long = absurd (omega arith)
bytes_of_four (a ∷ b ∷ c ∷ d ∷ rest) fit long =
    big_bytes-four a b c d (fit 0 0 (omega arith)) (fit 1 0 (omega arith)) (fit 2 0 (omega arith))
    (fit 3 0 (omega arith))

-- a number of eight bytes is two of four
eight_high : (h l : ℕ) → h < 2 ^ 32 → l < 2 ^ 32
    → big_bytes 8 (h * 2 ^ 32 + l) ≡ big_bytes 4 h ++ big_bytes 4 l
eight_high h l fh fl =
    let n = h * 2 ^ 32 + l in
    let p7 : n / 2 ^ 56 % 256 ≡ h / 16777216 % 256 = omega arith in
    let p6 : n / 2 ^ 48 % 256 ≡ h / 65536 % 256 = omega arith in
    let p5 : n / MOST_CAPACITY % 256 ≡ h / 256 % 256 = omega arith in
    let p4 : n / 2 ^ 32 % 256 ≡ h % 256 = omega arith in
    let p3 : n / 16777216 % 256 ≡ l / 16777216 % 256 = omega arith in
    let p2 : n / 65536 % 256 ≡ l / 65536 % 256 = omega arith in
    let p1 : n / 256 % 256 ≡ l / 256 % 256 = omega arith in
    let p0 : n % 256 ≡ l % 256 = omega arith in
    λ i. p7 i ∷ p6 i ∷ p5 i ∷ p4 i ∷ p3 i ∷ p2 i ∷ p1 i ∷ p0 i ∷ []

eight_split : (xs : List ℕ) → 8 ≤ length xs → big_number 8 xs ≡ big_number 4 xs * 2 ^ 32 + big_number 4 (drop 4 xs)
eight_split [] long = absurd (omega arith)
eight_split (a ∷ []) long = absurd (omega arith)
eight_split (a ∷ b ∷ []) long = absurd (omega arith)
eight_split (a ∷ b ∷ c ∷ []) long = absurd (omega arith)
eight_split (a ∷ b ∷ c ∷ d ∷ []) long = absurd (omega arith)
eight_split (a ∷ b ∷ c ∷ d ∷ e ∷ []) long = absurd (omega arith)
eight_split (a ∷ b ∷ c ∷ d ∷ e ∷ f ∷ []) long = absurd (omega arith)
eight_split (a ∷ b ∷ c ∷ d ∷ e ∷ f ∷ g ∷ []) long = absurd (omega arith)
eight_split (a ∷ b ∷ c ∷ d ∷ e ∷ f ∷ g ∷ h ∷ rest) long = omega arith

four_low : (xs : List ℕ) → AreBytes xs → 4 ≤ length xs → big_number 4 xs < 2 ^ 32
four_low [] fit long = absurd (omega arith)
four_low (a ∷ []) fit long = absurd (omega arith)
four_low (a ∷ b ∷ []) fit long = absurd (omega arith)
four_low (a ∷ b ∷ c ∷ []) fit long = absurd (omega arith)
four_low (a ∷ b ∷ c ∷ d ∷ rest) fit long =
    omega (arith, fit 0 0 (omega arith), fit 1 0 (omega arith), fit 2 0 (omega arith), fit 3 0 (omega arith))

-- the bytes of the number in eight bytes
pub bytes_of_eight : (xs : List ℕ) → AreBytes xs → 8 ≤ length xs → big_bytes 8 (big_number 8 xs) ≡ take 8 xs
bytes_of_eight xs fit long =
    let back = AreBytes-drop 4 xs fit in
    let more : 4 ≤ length (drop 4 xs) = omega (arith, length-drop 4 xs) in
    ap (big_bytes 8) (eight_split xs long)
    ∙ eight_high (big_number 4 xs) (big_number 4 (drop 4 xs)) (four_low xs fit (omega arith))
    (four_low (drop 4 xs) back more)
    ∙ ap (λ (l : List ℕ). l ++ big_bytes 4 (big_number 4 (drop 4 xs))) (bytes_of_four xs fit (omega arith))
    ∙ ap (λ (l : List ℕ). take 4 xs ++ l) (bytes_of_four (drop 4 xs) back more)
    ∙ sym (take-add 4 4 xs)

pub eight_low : (xs : List ℕ) → AreBytes xs → 8 ≤ length xs → big_number 8 xs < 2 ^ 64
eight_low xs fit long =
    omega (
      arith,
      eight_split xs long,
      four_low xs fit (omega arith),
      four_low (drop 4 xs) (AreBytes-drop 4 xs fit) (omega (arith, length-drop 4 xs)),
    )

pub pairs-numbers_in : (count : ℕ) (xs : List ℕ) → AreBytes xs → 2 * count ≤ length xs
    → flat_map (big_bytes 2) (numbers_in count xs) ≡ take (2 * count) xs
pairs-numbers_in zero xs fit long = refl
pairs-numbers_in (suc count) xs fit long =
    let more : 2 * suc count ≡ 2 + 2 * count = omega arith in
    let rest = pairs-numbers_in count (drop 2 xs) (AreBytes-drop 2 xs fit) (omega (arith, length-drop 2 xs)) in
    ap (λ front. front ++ flat_map (big_bytes 2) (numbers_in count (drop 2 xs))) (bytes_of_two xs fit (omega arith))
    ∙ ap (λ pairs. take 2 xs ++ pairs) rest
    ∙ sym (ap (λ n. take n xs) more ∙ take-add 2 (2 * count) xs)

pub first_one : (bytes : List ℕ) → 1 ≤ length bytes → take 1 bytes ≡ slice_index bytes 0 ∷ []
first_one [] long = absurd (omega arith)
first_one (b ∷ bytes) long = refl

-- the bytes of the fields that are read
pub fields_back : (bytes : List ℕ) → AreBytes bytes → 11 ≤ length bytes → bytes_of_head (head_of bytes) ≡ take 11 bytes
fields_back bytes fit long =
    let apid = bytes_of_two (drop 1 bytes) (AreBytes-drop 1 bytes fit) (omega (arith, length-drop 1 bytes)) in
    let packets = bytes_of_four (drop 3 bytes) (AreBytes-drop 3 bytes fit) (omega (arith, length-drop 3 bytes)) in
    let size = bytes_of_four (drop 7 bytes) (AreBytes-drop 7 bytes fit) (omega (arith, length-drop 7 bytes)) in
    let seven : take 8 (drop 3 bytes) ≡ take 4 (drop 3 bytes) ++ take 4 (drop 7 bytes) = take-add 4 4 (drop 3 bytes)
    ∙ ap (λ l. take 4 (drop 3 bytes) ++ take 4 l) (drop-drop 4 3 bytes) in
    let three : take 10 (drop 1 bytes) ≡ take 2 (drop 1 bytes)
    ++ take 8 (drop 3 bytes) = take-add 2 8 (drop 1 bytes)
    ∙ ap (λ l. take 2 (drop 1 bytes) ++ take 8 l) (drop-drop 2 1 bytes) in
    let all : take 11 bytes ≡ take 1 bytes ++ take 10 (drop 1 bytes) = take-add 1 10 bytes in
    let front = slice_index bytes 0 in
    (λ i. front ∷ (apid i ++ (packets i ++ size i)))
    ∙ ap (λ l. front ∷ (take 2 (drop 1 bytes) ++ l)) (sym seven)
    ∙ ap (λ l. front ∷ l) (sym three)
    ∙ ap (λ l. l ++ take 10 (drop 1 bytes)) (sym (first_one bytes (omega arith)))
    ∙ sym all

-- the bytes of the origin that is read
pub origin_back : (bytes : List ℕ) → AreBytes bytes → 24 ≤ length bytes → origin_bytes (origin_of_bytes bytes)
    ≡ take 24 bytes
origin_back bytes fit long =
    let first = bytes_of_eight bytes fit (omega arith) in
    let last = bytes_of_eight (drop 8 bytes) (AreBytes-drop 8 bytes fit) (omega (arith, length-drop 8 bytes)) in
    let corrected = bytes_of_eight (drop 16 bytes) (AreBytes-drop 16 bytes fit) (omega (arith, length-drop 16 bytes)) in
    let two : take 16 (drop 8 bytes) ≡ take 8 (drop 8 bytes) ++ take 8 (drop 16 bytes) = take-add 8 8 (drop 8 bytes)
    ∙ ap (λ l. take 8 (drop 8 bytes) ++ take 8 l) (drop-drop 8 8 bytes) in
    (λ i. first i ++ (last i ++ corrected i))
    ∙ ap (λ l. take 8 bytes ++ l) (sym two) ∙ sym (take-add 8 16 bytes)
