-- Which files can be marked, and that the marked one is a file.
use Rattle.std.proofs.Common.{◌≡◌, ℕ, ◌+◌, ◌-◌, ◌<◌, ◌≤◌, Bool, true, false, leb, ◌&&◌, Option, Some, None}
use Rattle.std.proofs.Common.{List, [], ◌∷◌, ◌++◌, length, map, sum, take, drop, refl, sym, ap, ◌∙◌, arith}
use Rattle.std.proofs.Common.{length-append, length-drop}
use Rattle.std.specs.Prelude.{All, SomeIff}
use Rattle.std.specs.List.{concat}
use Rattle.std.specs.Int.{to_be_bytes, w16, w32}
use Rattle.std.proofs.lemmas.Bool.{leb-true}
use Rattle.std.proofs.lemmas.Bool.Decides.{nat_tests}
use Rattle.std.proofs.lemmas.List.{length-map, length-take-le}
use Rattle.std.proofs.lemmas.List.Elements.{All-cons, All-drop, All-map}
use Rattle.std.proofs.lemmas.List.Sums.{sum_by-cons}
use Rattle.std.specs.Prelude.{slice_index}
use Rattle.std.proofs.Math.Bool.{and-false}
use Rattle.lr_bits.specs.File.{File, IsFile, MakeFile, bytes_of, file_of}
use Rattle.lr_bits.specs.Sizes.{most_body_bytes, most_file_bytes}
use Rattle.lr_bits.proofs.FileLemmas.{sum-map-length}
use Rattle.lr_file.proofs.Stretches.{and_left, and_right}
use Rattle.lr_mend.specs.Marks.{can_be_marked, first_of, header_bytes_in, longer_first, marked_bytes, marked_with}
use Rattle.lr_mend.specs.Marks.{file_with, mark_record, mark_text, marked}
use Rattle.std.specs.Option.{option_map}

-- ---- the tests, one by one

abbrev pub size_in : File → ℕ
size_in file = header_bytes_in (bytes_of file)

abbrev pub first_in : File → ℕ
first_in file = first_of (map length file.bodies)

less_than : (n m : ℕ) → n < m → leb m n ≡ false
less_than n m h = grind (arith, nat_tests, h)

at_most : (n m : ℕ) → n ≤ m → leb n m ≡ true
at_most n m h = grind (arith, nat_tests, h)

pub short_size : (mark : List ℕ) (file : File) → size_in file < 8 → can_be_marked mark file ≡ false
unfolding can_be_marked
short_size mark file h = rw (less_than (size_in file) 8 h) refl

pub long_size : (mark : List ℕ) (file : File) → first_in file < size_in file + 10 → can_be_marked mark file ≡ false
unfolding can_be_marked
long_size mark file h =
    rw (less_than (first_in file) (size_in file + 10) h, and-false (leb 8 (size_in file))) refl

pub short_first : (mark : List ℕ) (file : File) → first_in file < 18 → can_be_marked mark file ≡ false
short_first mark file h = by_size (leb 8 (size_in file)) refl
  where
    by_size : (b : Bool) → leb 8 (size_in file) ≡ b → can_be_marked mark file ≡ false
    by_size true e = let least = leb-true 8 (size_in file) e in long_size mark file (omega (arith, h, least))
    by_size false e = let less : size_in file < 8 = grind (arith, nat_tests, e) in short_size mark file less

pub long_body : (mark : List ℕ) (file : File) → most_body_bytes < first_in file + length mark →
    can_be_marked mark file ≡ false
unfolding can_be_marked
long_body mark file h =
    rw (
      less_than most_body_bytes (first_in file + length mark) h,
      and-false (leb 8 (size_in file) && leb
          (size_in file + 10) (first_in file)),
    ) refl

pub long_file : (mark : List ℕ) (file : File) → most_file_bytes < length (bytes_of file) + length mark →
    can_be_marked mark file ≡ false
unfolding can_be_marked
long_file mark file h =
    rw (
      less_than most_file_bytes (length (bytes_of file) + length mark) h,
      and-false ((leb 8 (size_in file) && leb (size_in file + 10) (first_in file)) && leb
          (first_in file + length mark) most_body_bytes),
    ) refl

pub all_pass : (mark : List ℕ) (file : File) → 8 ≤ size_in file → size_in file + 10 ≤ first_in file →
    first_in file + length mark ≤ most_body_bytes → length (bytes_of file) + length mark ≤ most_file_bytes →
    can_be_marked mark file ≡ true
unfolding can_be_marked
all_pass mark file a b c d =
    rw (
      at_most 8 (size_in file) a,
      at_most (size_in file + 10) (first_in file) b,
      at_most (first_in file + length mark) most_body_bytes c,
      at_most (length (bytes_of file) + length mark) most_file_bytes d,
    ) refl

-- what holds where a file can be marked
pub record CanBeMarked (mark : List ℕ) (file : File) : Type 0 where
  pub least : 8 ≤ size_in file
  pub inside : size_in file + 10 ≤ first_in file
  pub short : first_in file + length mark ≤ most_body_bytes
  pub most : length (bytes_of file) + length mark ≤ most_file_bytes

pub can_be : (mark : List ℕ) (file : File) → can_be_marked mark file ≡ true → CanBeMarked mark file
unfolding can_be_marked
can_be mark file h =
    record {
      least = leb-true _ _ (and_left _ _ (and_left _ _ (and_left _ _ h)));
      inside = leb-true _ _ (and_right _ _ (and_left _ _ (and_left _ _ h)));
      short = leb-true _ _ (and_right _ _ (and_left _ _ h));
      most = leb-true _ _ (and_right _ _ h);
    }

-- ---- the marked file

pub first_le : (bodies : List (List ℕ)) → first_of (map length bodies) ≤ length (concat bodies)
first_le [] = omega arith
first_le (body ∷ bodies) = omega (arith, length-append body (concat bodies))

length-longer : (more : ℕ) (lengths : List ℕ) → length (longer_first more lengths) ≡ length lengths
length-longer more [] = refl
length-longer more (first ∷ lengths) = refl

sum-cons : (n : ℕ) (ns : List ℕ) → sum (n ∷ ns) ≡ n + sum ns
sum-cons n ns = sum_by-cons (λ x. x) n ns

sum-longer : (more : ℕ) (lengths : List ℕ) → 0 < length lengths → sum (longer_first more lengths) ≡ sum lengths + more
sum-longer more [] some = absurd (omega (arith, some))
sum-longer more (first ∷ lengths) some = omega (arith, sum-cons (first + more) lengths, sum-cons first lengths)

short_lengths : (bodies : List (List ℕ)) → All (λ body. length body ≤ most_body_bytes) bodies →
    All (λ one. one ≤ most_body_bytes) (map length bodies)
short_lengths bodies all = All-map (λ one. one ≤ most_body_bytes) length bodies all

short_rest : (first : ℕ) (lengths : List ℕ) → All (λ one. one ≤ most_body_bytes) (first ∷ lengths) →
    All (λ one. one ≤ most_body_bytes) lengths
short_rest first lengths all = All-drop (λ one. one ≤ most_body_bytes) 1 (first ∷ lengths) all

short_longer : (more : ℕ) (lengths : List ℕ) → first_of lengths + more ≤ most_body_bytes →
    All (λ one. one ≤ most_body_bytes) lengths → All (λ one. one ≤ most_body_bytes) (longer_first more lengths)
short_longer more [] short all = all
short_longer more (first ∷ lengths) short all =
    All-cons (λ one. one ≤ most_body_bytes) (first + more) lengths short (short_rest first lengths all)

pub length-marked : (mark bytes : List ℕ) → 8 ≤ header_bytes_in bytes → header_bytes_in bytes + 10 ≤ length bytes →
    length (marked_bytes mark bytes) ≡ length bytes + length mark
unfolding marked_bytes
length-marked mark bytes least inside =
    let size = header_bytes_in bytes in
    let front = take 14 bytes in
    let number = to_be_bytes w32 (size + length mark) in
    let middle = take (size - 8) (drop 18 bytes) in
    let back = drop (size + 10) bytes in
    let four : length number ≡ 4 = refl in
    let rest : length (drop 18 bytes) ≡ length bytes - 18 = length-drop 18 bytes in
    omega (
      arith,
      four,
      rest,
      length-append (((front ++ number) ++ middle) ++ mark) back,
      length-append ((front ++ number) ++ middle) mark,
      length-append (front ++ number) middle,
      length-append front number,
      length-take-le 14 bytes (omega (arith, least, inside)),
      length-take-le (size - 8) (drop 18 bytes) (omega (arith, rest, least, inside)),
      length-drop (size + 10) bytes,
    )

pub first_is : (lengths : List ℕ) → slice_index lengths 0 ≡ first_of lengths
first_is [] = refl
first_is (first ∷ lengths) = refl

-- the lengths and the bytes of a file that can be marked make one
pub makes_marked : (mark : List ℕ) (file : File) → IsFile file → CanBeMarked mark file →
    MakeFile file.vc file.apid (longer_first (length mark) (map length file.bodies)) (marked_bytes mark (bytes_of file))
makes_marked mark file is can =
    let lengths = map length file.bodies in
    let count : length lengths ≡ length file.bodies = length-map file.bodies length in
    let longer : length (longer_first (length mark) lengths) ≡ length lengths = length-longer (length mark) lengths in
    let inside : header_bytes_in (bytes_of file) + 10 ≤ length (bytes_of file) =
    omega (arith, can.inside, first_le file.bodies) in
    let size = length-marked mark (bytes_of file) can.least inside in
    record {
      channel = is.channel;
      application = is.application;
      some = omega (arith, is.some, count, longer);
      few = omega (arith, is.few, count, longer);
      short = short_longer (length mark) lengths can.short (short_lengths file.bodies is.short);
      whole = sum-longer (length mark) lengths (omega (arith, is.some, count)) ∙
          ap (λ n. n + length mark) (sum-map-length file.bodies) ∙ sym size;
      least = omega (arith, is.least, size);
      most = omega (arith, can.most, size);
    }

made : {T : Type 0} (o : Option T) (P : Type 0) (v : T) → SomeIff o P v → P → o ≡ Some v
made None P v never p = absurd (never p)
made (Some x) P v both p = ap Some both.1

-- what is built of them is the marked file
pub built_marked : (mark : List ℕ) (file : File) (o : Option File) → IsFile file → can_be_marked mark file ≡ true →
    SomeIff o (MakeFile file.vc file.apid (longer_first (length mark) (map length file.bodies))
    (marked_bytes mark (bytes_of file)))
    (file_of file.vc file.apid (longer_first (length mark) (map length file.bodies))
    (marked_bytes mark (bytes_of file))) →
    o ≡ marked_with mark file
built_marked mark file o is can built =
    made o _ _ built (makes_marked mark file is (can_be mark file can)) ∙ sym (rw can refl)

pub not_marked : (mark : List ℕ) (file : File) → can_be_marked mark file ≡ false → None ≡ marked_with mark file
not_marked mark file cannot = rw cannot refl

-- where there are fillers, the file is marked with their text
pub marked-some : (file : File) (places : List ℕ) → (length places ≡ 0 → ⊥) →
    marked file places ≡
    option_map (file_with places) (marked_with (mark_record (mark_text places (length file.bodies))) file)
marked-some file [] some = absurd (some refl)
marked-some file (place ∷ places) some = refl

pub length-record : (text : List ℕ) → length (mark_record text) ≡ length text + 3
length-record text =
    let two : length (to_be_bytes w16 (length text + 3)) ≡ 2 = refl in
    omega (arith, two, length-append (6 ∷ to_be_bytes w16 (length text + 3)) text)
