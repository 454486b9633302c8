-- The strips of images that aren't compressed.
use Rattle.std.proofs.Common.{◌≡◌, ◌<◌, ◌≤◌, ◌+◌, ◌-◌, ◌*◌, ◌/◌, ◌%◌, ◌^◌, min, ℕ, zero, suc, List, [], ◌∷◌, ◌++◌}
use Rattle.std.proofs.Common.{length, take, drop, All, Result, Ok, Err, inl, inr, refl, sym, ap, ◌∙◌, subst, arith}
use Rattle.std.proofs.Common.{length-append, append_assoc, append-nil}
use Rattle.std.specs.List.{flat_map}
use Rattle.std.proofs.lemmas.List.{drop-append-le, drop-drop, drop_at, length-drop, length-take-le, take-append-drop}
use Rattle.std.proofs.lemmas.List.Concat.{flat_map-append}
use Rattle.std.proofs.lemmas.List.Elements.{All-append, All-cons, All-head, All-nil, All-tail}
use Rattle.std.proofs.Math.Nat.{mul-le-mul_left}
use Rattle.std.proofs.lemmas.Bool.{cases_lt}
use Rattle.lr_bits.specs.Bits.{bits_of, number_bits}
use Rattle.lr_bits.proofs.BitsLemmas.{length-bits_of}
use Rattle.lr_bits.proofs.ReaderLemmas.{bits_of-append, drop-bits_of}
use Rattle.lr_headers.specs.declared.fields.Structure.{Structure}
use Rattle.lr_image.specs.declared.fault.ImageFault.{ImageFault}
use Rattle.lr_image.specs.Plain.{BeginsWithPixels}
use Rattle.lr_image.specs.Shapes.{IsSize}
use Rattle.lr_image.proofs.PlainLemmas.{length-written}
use Rattle.lr_render.specs.Making.{StripsMake}
use Rattle.lr_render.specs.Standing.{IsStripOf, all_lines}
use Rattle.lr_render.specs.Strips.{GivesPixels, IsStrip}
use Rattle.lr_render.specs.Tiling.{bytes_for, line_start, plain_count, plain_strip, plain_strips, strip_lines}
use Rattle.lr_render.specs.declared.strip.StripSource.{StripSource}
use Rattle.lr_render.proofs.Counting.{line_more, no_line, none_needed, some_line, strip_lines-some}

-- the bits of a strip's bytes, from its first one on, are those of the data field from the line's start on
strip_bits : (start m : ℕ) (field : List ℕ) → start % 8 ≤ 8 * length (take m (drop (start / 8) field))
    → drop start (bits_of field) ≡ drop (start % 8) (bits_of (take m (drop (start / 8) field)))
    ++ bits_of (drop m (drop (start / 8) field))
strip_bits start m field inside =
    let rest = drop (start / 8) field in
    let front = bits_of (take m rest) in
    let back = bits_of (drop m rest) in
    let place : 8 * (start / 8) + start % 8 ≡ start = omega arith in
    let size : start % 8 ≤ length front = omega (arith, length-bits_of (take m rest)) in
    ap (λ n. drop n (bits_of field)) (sym place) ∙ sym (drop-drop (start % 8) (8 * (start / 8)) (bits_of field))
    ∙ ap (drop (start % 8)) (drop-bits_of (start / 8) field
    ∙ ap bits_of (sym (take-append-drop m rest)) ∙ bits_of-append (take m rest) (drop m rest))
    ∙ drop-append-le (start % 8) front back size

-- the pixels of the lines before a strip, and then those of the strip
pub pixels_join : (s : Structure) (field front more : List ℕ) (from lines : ℕ)
    → BeginsWithPixels s.bits (s.columns * from) (bits_of field) front → IsStrip (plain_strip s field from lines)
    → GivesPixels (plain_strip s field from lines) more
    → BeginsWithPixels s.bits (s.columns * (from + lines)) (bits_of field) (front ++ more)
pixels_join s field front more from lines begins is gives =
    let start = line_start s from in
    let m = bytes_for (start % 8) (line_start s lines) in
    let bits = number_bits s.bits in
    let all = bits_of field in
    let back = bits_of (drop m (drop (start / 8) field)) in
    let long : length (flat_map bits front) ≡ start = length-written s.bits front
    ∙ ap (λ n. s.bits * n) begins.count in
    let rest : drop start all ≡ begins.rest = ap (drop start) begins.written
    ∙ drop_at (flat_map bits front) begins.rest start long in
    let cut = strip_bits start m field (omega (arith, is.fits.3)) in
    record {
      count = omega (arith, length-append front more, begins.count, gives.count);
      small = All-append (λ p. p < 2 ^ s.bits) front more begins.small gives.small;
      rest = gives.rest ++ back;
      written = begins.written ∙ ap (λ l. flat_map bits front ++ l) (sym rest ∙ cut
          ∙ ap (λ l. l ++ back) gives.written ∙ append_assoc (flat_map bits more) gives.rest back)
          ∙ sym (append_assoc (flat_map bits front) (flat_map bits more) (gives.rest ++ back))
          ∙ ap (λ l. l ++ (gives.rest ++ back)) (sym (flat_map-append bits front more));
    }

-- the pixels so far, and then those of the strip that comes next
next_pixels : (s : Structure) (field front more : List ℕ) (count from done : ℕ) → 1 ≤ s.lines - from
    → done ≡ min from s.lines → BeginsWithPixels s.bits (s.columns * done) (bits_of field) front
    → All IsStrip (plain_strips s field (suc count) from)
    → GivesPixels (plain_strip s field from (min (strip_lines s) (s.lines - from))) more
    → BeginsWithPixels s.bits (s.columns * (done + min (strip_lines s) (s.lines - from))) (bits_of field)
    (front ++ more)
next_pixels s field front more count from done left at begins are gives =
    let here : done ≡ from = omega arith in
    rw here (pixels_join s field front more from (min (strip_lines s) (s.lines - from)) (rw here at begins)
    (All-head IsStrip _ _ are) gives)

counts_on : (s : Structure) (from count : ℕ) → suc count ≡ plain_count s (s.lines - from)
    → count ≡ plain_count s (s.lines - (from + strip_lines s))
counts_on s from count counts =
    let rest : s.lines - from - strip_lines s ≡ s.lines - (from + strip_lines s) = omega arith in
    line_more s (s.lines - from) count counts ∙ ap (plain_count s) rest

-- the data field begins with these pixels, which is all that strips that aren't compressed can make
abbrev pub PlainMake : Structure → List ℕ → List ℕ → Result (List ℕ) ImageFault → Type 0
PlainMake s field front (Ok pixels) =
    BeginsWithPixels s.bits (s.columns * s.lines) (bits_of field) (front ++ pixels)
PlainMake s field front (Err fault) = ⊥

pub plain_make : (s : Structure) (field front : List ℕ) (count from number done : ℕ)
    (outcome : Result (List ℕ) ImageFault) → count ≡ plain_count s (s.lines - from)
    → done ≡ min from s.lines → BeginsWithPixels s.bits (s.columns * done) (bits_of field) front
    → All IsStrip (plain_strips s field count from)
    → StripsMake s number done (plain_strips s field count from) outcome → PlainMake s field front outcome
plain_make s field front zero from number done (Ok pixels) counts at begins are make =
    let none : s.lines - from ≡ 0 = no_line s (s.lines - from) counts in
    let all : done ≡ s.lines = omega arith in
    subst (λ (l : List ℕ). BeginsWithPixels s.bits (s.columns * s.lines) (bits_of field) l)
    (sym (append-nil front) ∙ ap (λ l. front ++ l) (sym make.1))
    (subst (λ (n : ℕ). BeginsWithPixels s.bits (s.columns * n) (bits_of field) front) all begins)
plain_make s field front zero from number done (Err fault) counts at begins are make =
    let none : s.lines - from ≡ 0 = no_line s (s.lines - from) counts in
    omega (arith, make.0)
plain_make s field front (suc count) from number done (Ok pixels) counts at begins are make =
    let left = some_line s (s.lines - from) count counts in
    subst (λ (l : List ℕ). BeginsWithPixels s.bits (s.columns * s.lines) (bits_of field) l)
    (append_assoc front make.front make.back ∙ ap (λ l. front ++ l) (sym make.are_pixels))
    (plain_make s field (front ++ make.front) count (from + strip_lines s) (number + 1) _ (Ok make.back)
    (counts_on s from count counts) (omega arith)
    (next_pixels s field front make.front count from done left at begins are make.gives)
    (All-tail IsStrip _ _ are) make.others)
plain_make s field front (suc count) from number done (Err fault) counts at begins are (inl fail) = fail.fails
plain_make s field front (suc count) from number done (Err fault) counts at begins are (inr later) =
    let left = some_line s (s.lines - from) count counts in
    plain_make s field (front ++ later.front) count (from + strip_lines s) (number + 1) _ (Err fault)
    (counts_on s from count counts) (omega arith)
    (next_pixels s field front later.front count from done left at begins are later.gives)
    (All-tail IsStrip _ _ are) later.later

-- ---- what the strips are

-- lines of the image, in bits
pub start-more : (s : Structure) (from lines : ℕ) → line_start s (from + lines) ≡ line_start s from + line_start s lines
start-more s from lines = grind arith

pub start-le : (s : Structure) (a b : ℕ) → a ≤ b → line_start s a ≤ line_start s b
start-le s a b inside = mul-le-mul_left s.bits (mul-le-mul_left s.columns inside)

-- the bytes that a strip's bits reach into are there
pub bytes_inside : (start bits size : ℕ) → start + bits ≤ 8 * size
    → start / 8 + bytes_for (start % 8) bits ≤ size
bytes_inside start bits size inside = omega arith

pub bytes_enough : (first bits : ℕ) → first + bits ≤ 8 * bytes_for first bits
bytes_enough first bits = omega arith

pub plain_strip_is : (s : Structure) (field : List ℕ) (from lines : ℕ) → IsSize 1 s → s.columns ≤ 65535
    → s.lines ≤ 65535 → length field < 2 ^ 32 → line_start s s.lines ≤ 8 * length field → from + lines ≤ s.lines
    → IsStrip (plain_strip s field from lines)
plain_strip_is s field from lines size wide high small enough inside =
    let start = line_start s from in
    let bits = line_start s lines in
    let m = bytes_for (start % 8) bits in
    let rest = drop (start / 8) field in
    let reach : start + bits ≤ 8 * length field =
    omega (arith, start-le s (from + lines) s.lines inside, start-more s from lines) in
    let there = bytes_inside start bits (length field) reach in
    let long : length (take m rest) ≡ m = length-take-le m rest (omega (arith, length-drop (start / 8) field)) in
    record {
      short = omega arith;
      some = size.columns;
      wide = wide;
      few = omega arith;
      fits = (
        omega arith,
        size.least_bits,
        size.most_bits,
        omega (arith, bytes_enough (start % 8) bits),
      );
    }

pub plain_are : (s : Structure) (field : List ℕ) (count from : ℕ) → IsSize 1 s → s.columns ≤ 65535
    → s.lines ≤ 65535 → length field < 2 ^ 32 → line_start s s.lines ≤ 8 * length field
    → count ≡ plain_count s (s.lines - from) → All (IsStripOf s) (plain_strips s field count from)
plain_are s field zero from size wide high small enough counts = All-nil (IsStripOf s)
plain_are s field (suc count) from size wide high small enough counts =
    let each = strip_lines s in
    let lines = min each (s.lines - from) in
    let some = strip_lines-some s in
    let left : 1 ≤ s.lines - from = some_line s (s.lines - from) count counts in
    All-cons (IsStripOf s) (plain_strip s field from lines) (plain_strips s field count (from + each))
    (record {
      is_strip = plain_strip_is s field from lines size wide high small enough (omega arith);
      columns = refl;
      some = omega arith;
    })
    (plain_are s field count (from + each) size wide high small enough (counts_on s from count counts))

-- the strips have all lines from one on
pub plain-lines : (s : Structure) (field : List ℕ) (count from : ℕ) → count ≡ plain_count s (s.lines - from)
    → all_lines (plain_strips s field count from) ≤ s.lines - from
plain-lines s field zero from counts = omega arith
plain-lines s field (suc count) from counts =
    omega (
      arith,
      some_line s (s.lines - from) count counts,
      plain-lines s field count (from + strip_lines s) (counts_on s from count counts),
    )

-- ---- giving

-- where all lines were given, no strip is left
pub no_plain : (s : Structure) (field : List ℕ) (from : ℕ) → s.lines - from ≡ 0
    → plain_strips s field (plain_count s (s.lines - from)) from ≡ []
no_plain s field from none =
    ap (λ (n : ℕ). plain_strips s field (plain_count s n) from) none
    ∙ ap (λ (n : ℕ). plain_strips s field n from) (none_needed (strip_lines s) (strip_lines-some s))

-- else there is one, and those after its lines
pub next_plain : (s : Structure) (field : List ℕ) (from lines : ℕ) → from < s.lines
    → lines ≡ min (strip_lines s) (s.lines - from)
    → plain_strips s field (plain_count s (s.lines - from)) from
    ≡ plain_strip s field from lines ∷ plain_strips s field (plain_count s (s.lines - (from + lines))) (from + lines)
next_plain s field from lines before are = by_count (plain_count s (s.lines - from)) refl
  where
    others : plain_strips s field (plain_count s (s.lines - (from + strip_lines s))) (from + strip_lines s)
        ≡ plain_strips s field (plain_count s (s.lines - (from + lines))) (from + lines)
    others = elim (cases_lt (s.lines - from) (strip_lines s)) [
      | inl last ↦ no_plain s field (from + strip_lines s) (omega arith)
          ∙ sym (no_plain s field (from + lines) (omega arith))
      | inr more ↦
          let same : strip_lines s ≡ lines = omega arith in
          ap (λ (n : ℕ). plain_strips s field (plain_count s (s.lines - (from + n))) (from + n)) same
    ]

    by_count : (count : ℕ) → count ≡ plain_count s (s.lines - from)
        → plain_strips s field count from
        ≡ plain_strip s field from lines
        ∷ plain_strips s field (plain_count s (s.lines - (from + lines))) (from + lines)
    by_count zero counts = absurd (omega (arith, no_line s (s.lines - from) counts))
    by_count (suc count) counts =
        ap (λ (n : ℕ). plain_strip s field from n ∷ plain_strips s field count (from + strip_lines s)) (sym are)
        ∙ ap (λ (n : ℕ). plain_strip s field from lines ∷ plain_strips s field n (from + strip_lines s))
        (counts_on s from count counts)
        ∙ ap (λ (l : List StripSource). plain_strip s field from lines ∷ l) others
