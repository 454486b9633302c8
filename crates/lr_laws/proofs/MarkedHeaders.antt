-- The header of a marked file, as it is read.
use Rattle.std.proofs.Common.{◌≡◌, ℕ, ◌+◌, ◌-◌, ◌<◌, ◌≤◌, ◌^◌, Bool, true, false, cond, ltb, Some}
use Rattle.std.proofs.Common.{None, Result, Ok, Err, List, [], ◌∷◌, ◌++◌, length, map, take, drop, refl, sym}
use Rattle.std.proofs.Common.{ap, ◌∙◌}
use Rattle.std.proofs.Common.{subst, arith, length-append, append_assoc}
use Rattle.std.specs.Prelude.{slice_index, MatchResult}
use Rattle.std.specs.Option.{option_map}
use Rattle.std.specs.Int.{to_be_bytes, w32}
use Rattle.std.proofs.lemmas.Bool.Decides.{nat_tests}
use Rattle.std.proofs.lemmas.List.{drop-append-le, drop-drop, drop_at, drop-take}
use Rattle.std.proofs.lemmas.List.{get_or-take, length-take-le, take-append-le, take-take}
use Rattle.std.proofs.Math.Seq.{take-append_seam, take-length}
use Rattle.std.proofs.Common.{sum}
use Rattle.std.proofs.lemmas.List.Sums.{sum_by-cons}
use Rattle.lr_bits.specs.File.{File, bytes_of, file_of, proper_of}
use Rattle.lr_bits.proofs.FileLemmas.{concat-pieces_of, sum-map-length}
use Rattle.lr_mend.specs.Marks.{can_be_marked, file_with, first_of, header_bytes_in, longer_first, mark_record}
use Rattle.lr_mend.specs.Marks.{mark_text}
use Rattle.lr_mend.specs.Marks.{marked, marked_bytes}
use Rattle.lr_mend.specs.declared.marks.MarkedFile.{MarkedFile}
use Rattle.lr_mend.proofs.Marking.{CanBeMarked, can_be, first_le, length-marked, length-record}
use Rattle.byteorder.specs.Endian.{big_number}
use Rattle.byteorder.specs.Numbers.{big_from-take, big_number-reads_back}
use Rattle.lr_headers.specs.Tiling.{Header, HasHeaderFault, IsHeaderOf, IsPrefix}
use Rattle.lr_headers.specs.Tiling.{file_header_bytes, first_fault, header_length, kind_at, length_at}
use Rattle.lr_headers.specs.Tiling.{number_at}
use Rattle.lr_headers.specs.declared.fault.HeaderFault.{HeaderFault}
use Rattle.lr_headers.specs.Headers.{header_of}
use Rattle.lr_headers.proofs.Readings.{header_is, headers_are_read}
use Rattle.lr_headers.proofs.Tilings.{front_more}
use Rattle.lr_laws.specs.MarkedHeaders.{MarkedHeaders, header_bytes_with}
use Rattle.lr_laws.proofs.LongerHeaders.{after, front-is, length-longer, length-mark, length_is, longer, mark}
use Rattle.lr_laws.proofs.LongerHeaders.{mark_entry, mark_stands, prefix_still, tests}

-- ---- a file proper that begins with a header, and goes on with anything

module _ (text proper : List ℕ) (header : Header) (is : IsHeaderOf proper header) (few : length text + 3 < 2 ^ 16)
    (fits : length header.bytes + (length text + 3) < 2 ^ 32) (rest : List ℕ) where
  abbrev H : List ℕ
  H = header.bytes

  abbrev made : List ℕ
  made = longer text H is.tiled.least few fits ++ rest

  abbrev all : ℕ
  all = length H + length (mark text H is.tiled.least few fits)

  size_is : length (longer text H is.tiled.least few fits) ≡ all
  size_is = length-longer text H is.tiled.least few fits

  mark_is : length (mark text H is.tiled.least few fits) ≡ length text + 3
  mark_is = length-mark text H is.tiled.least few fits

  first_four : (xs : List ℕ) → drop 4 ((take 4 H ++ to_be_bytes w32 all) ++ xs) ≡ to_be_bytes w32 all ++ xs
  first_four xs =
      ap (drop 4) (append_assoc (take 4 H) (to_be_bytes w32 all) xs)
      ∙ drop_at (take 4 H) (to_be_bytes w32 all ++ xs) 4 (length-take-le 4 H (omega (arith, is.tiled.least)))

  length_read : header_length made ≡ all
  unfolding number_at
  length_read =
      ap (big_number 4) (ap (drop 4) (append_assoc ((take 4 H ++ to_be_bytes w32 all) ++ drop 8 H)
      (mark text H is.tiled.least few fits) rest
      ∙ append_assoc (take 4 H ++ to_be_bytes w32 all) (drop 8 H) (mark text H is.tiled.least few fits ++ rest))
      ∙ first_four (drop 8 H ++ (mark text H is.tiled.least few fits ++ rest)))
      ∙ big_number-reads_back 4 all (drop 8 H ++ (mark text H is.tiled.least few fits ++ rest))
      (omega (arith, fits, mark_is))

  abbrev behind : List ℕ
  behind = to_be_bytes w32 all ++ (drop 8 H ++ (mark text H is.tiled.least few fits ++ rest))

  made_is : made ≡ take 4 H ++ behind
  made_is =
      append_assoc ((take 4 H ++ to_be_bytes w32 all) ++ drop 8 H) (mark text H is.tiled.least few fits) rest
      ∙ append_assoc (take 4 H ++ to_be_bytes w32 all) (drop 8 H) (mark text H is.tiled.least few fits ++ rest)
      ∙ append_assoc (take 4 H) (to_be_bytes w32 all) (drop 8 H ++ (mark text H is.tiled.least few fits ++ rest))

  four_are : take 4 made ≡ take 4 proper
  four_are =
      let four : length (take 4 H) ≡ 4 = length-take-le 4 H (omega (arith, is.tiled.least)) in
      ap (take 4) made_is ∙ take-append-le 4 (take 4 H) behind (omega (arith, four))
      ∙ take-take 4 4 H (omega arith) ∙ front-is proper header is 4 (omega (arith, is.tiled.least))

  kind_same : kind_at 0 made ≡ kind_at 0 proper
  kind_same =
      sym (get_or-take 4 made 0 0 (omega arith)) ∙ ap (λ l. slice_index l 0) four_are
      ∙ get_or-take 4 proper 0 0 (omega arith)

  by_four : (xs : List ℕ) → length_at 0 xs ≡ big_number 2 (drop 1 (take 4 xs))
  unfolding number_at
  by_four xs = sym (big_from-take 0 2 3 (drop 1 xs) (omega arith)) ∙ ap (big_number 2) (sym (drop-take 1 3 xs))

  length_same : length_at 0 made ≡ length_at 0 proper
  length_same = by_four made ∙ ap (λ l. big_number 2 (drop 1 l)) four_are ∙ sym (by_four proper)

  length-made : length made ≡ all + length rest
  length-made =
      length-append (longer text H is.tiled.least few fits) rest ∙ ap (λ n. n + length rest) size_is

  sound_made : first_fault made ≡ None
  sound_made =
      let long = length-made in
      let least = is.tiled.least in
      let a : ltb (length made) 16 ≡ false = grind (arith, nat_tests, long, least) in
      let c : ltb all 16 ≡ false = grind (arith, nat_tests, least) in
      let d : ltb (length made) all ≡ false = grind (arith, nat_tests, long) in
      rw (a, kind_same, length_same, (tests proper header is).primary, length_read, c, d) refl

  header_read : longer text H is.tiled.least few fits ≡ file_header_bytes made
  header_read =
      sym (ap (λ (n : ℕ). take n made) (length_read ∙ sym size_is)
      ∙ take-append_seam (longer text H is.tiled.least few fits) rest)

  pub made_has : IsHeaderOf made (after text H is.tiled.least few fits header)
  made_has = record {
    sound = sound_made;
    bytes = header_read;
    tiled = record {
      least = omega (arith, size_is, is.tiled.least);
      front = subst (λ (n : ℕ). IsPrefix (longer text H is.tiled.least few fits)
          (header.entries ++ mark_entry text H is.tiled.least few fits ∷ []) n)
          (ap (λ n. length H + n) (sym mark_is) ∙ sym size_is)
          (front_more (longer text H is.tiled.least few fits) header.entries (length H)
          (mark_entry text H is.tiled.least few fits)
          (prefix_still text H is.tiled.least few fits header.entries (length H) is.tiled.front)
          (mark_stands text H is.tiled.least few fits));
    };
  }

-- ---- marked files

drop_ten : (a b c d e : List ℕ) → 10 ≤ length a →
    drop 10 ((((a ++ b) ++ c) ++ d) ++ e) ≡ (((drop 10 a ++ b) ++ c) ++ d) ++ e
drop_ten a b c d e long =
    let one = length-append a b in
    let two = length-append (a ++ b) c in
    let three = length-append ((a ++ b) ++ c) d in
    drop-append-le 10 (((a ++ b) ++ c) ++ d) e (omega (arith, long, one, two, three))
    ∙ ap (λ l. l ++ e) (drop-append-le 10 ((a ++ b) ++ c) d (omega (arith, long, one, two))
    ∙ ap (λ l. l ++ d) (drop-append-le 10 (a ++ b) c (omega (arith, long, one))
    ∙ ap (λ l. l ++ c) (drop-append-le 10 a b long)))

module _ (mark : List ℕ) (file : File) (header : Header) (is : IsHeaderOf (proper_of file) header)
    (long : 18 ≤ length (bytes_of file)) where
  abbrev bytes : List ℕ
  bytes = bytes_of file

  pub header_size : header_bytes_in bytes ≡ length header.bytes
  unfolding number_at
  header_size = ap (big_number 4) (sym (drop-drop 4 10 bytes)) ∙ sym (length_is (proper_of file) header is)

  abbrev longer_bytes : List ℕ
  longer_bytes = header_bytes_with mark header.bytes

  fourteen : length (take 14 bytes) ≡ 14
  fourteen = length-take-le 14 bytes (omega (arith, long))

  header_front : drop 10 (take 14 bytes) ≡ take 4 header.bytes
  header_front =
      drop-take 10 4 bytes ∙ sym (front-is (proper_of file) header is 4 (omega (arith, is.tiled.least)))

  header_middle : take (header_bytes_in bytes - 8) (drop 18 bytes) ≡ drop 8 header.bytes
  header_middle =
      let whole : 8 + (length header.bytes - 8) ≡ length header.bytes = omega (arith, is.tiled.least) in
      (λ i. take (header_size i - 8) (sym (drop-drop 8 10 bytes) i))
      ∙ sym (drop-take 8 (length header.bytes - 8) (proper_of file))
      ∙ ap (drop 8) (ap (λ (n : ℕ). take n (proper_of file)) whole
      ∙ sym (front-is (proper_of file) header is (length header.bytes) (omega arith)) ∙ take-length header.bytes)

  header_back : drop (header_bytes_in bytes + 10) bytes ≡ drop (length header.bytes) (proper_of file)
  header_back =
      let place : header_bytes_in bytes + 10 ≡ 10 + length header.bytes = omega (arith, header_size) in
      ap (λ (n : ℕ). drop n bytes) place ∙ sym (drop-drop (length header.bytes) 10 bytes)

  pub proper_marked : drop 10 (marked_bytes mark bytes) ≡ longer_bytes ++ drop (length header.bytes) (proper_of file)
  unfolding marked_bytes
  proper_marked =
      drop_ten (take 14 bytes) (to_be_bytes w32 (header_bytes_in bytes + length mark))
      (take (header_bytes_in bytes - 8) (drop 18 bytes)) mark (drop (header_bytes_in bytes + 10) bytes)
      (omega (arith, fourteen))
      ∙ (λ i. (((header_front i ++ to_be_bytes w32 (header_size i + length mark)) ++ header_middle i) ++ mark)
      ++ header_back i)

-- what is marked
pub record Marks (file : File) (places : List ℕ) (m : MarkedFile) : Type 0 where
  pub can : CanBeMarked (mark_record (mark_text places (length file.bodies))) file
  pub file_is : m.file ≡ file_of file.vc file.apid
      (longer_first (length (mark_record (mark_text places (length file.bodies)))) (map length file.bodies))
      (marked_bytes (mark_record (mark_text places (length file.bodies))) (bytes_of file))

by_test : (file : File) (places : List ℕ) (m : MarkedFile) (b : Bool) →
    can_be_marked (mark_record (mark_text places (length file.bodies))) file ≡ b →
    option_map (file_with places) (cond b (Some (file_of file.vc file.apid
    (longer_first (length (mark_record (mark_text places (length file.bodies)))) (map length file.bodies))
    (marked_bytes (mark_record (mark_text places (length file.bodies))) (bytes_of file)))) None) ≡ Some m →
    Marks file places m
by_test file places m true h e =
    let same : file_with places (file_of file.vc file.apid
    (longer_first (length (mark_record (mark_text places (length file.bodies)))) (map length file.bodies))
    (marked_bytes (mark_record (mark_text places (length file.bodies))) (bytes_of file))) ≡ m = cc in
    record { can = can_be _ file h; file_is = sym (ap (λ (m : MarkedFile). m.file) same) }
by_test file places m false h e = cc

pub marks_of : (file : File) (place : ℕ) (places : List ℕ) (m : MarkedFile) → marked file (place ∷ places) ≡ Some m →
    Marks file (place ∷ places) m
marks_of file place places m e =
    by_test file (place ∷ places) m (can_be_marked (mark_record (mark_text (place ∷ places) (length file.bodies))) file)
    refl e

pub of_header : (proper : List ℕ) (header : Header) (read : Result Header HeaderFault) → read ≡ Ok header →
    MatchResult read (IsHeaderOf proper) (HasHeaderFault proper) → IsHeaderOf proper header
of_header proper header (Ok other) e is = let same : other ≡ header = cc in subst (IsHeaderOf proper) same is
of_header proper header (Err fault) e is = cc

sum-longer : (more : ℕ) (lengths : List ℕ) → 0 < length lengths → sum (longer_first more lengths) ≡ sum lengths + more
sum-longer more [] some = absurd (omega (arith, some))
sum-longer more (first ∷ lengths) some =
    omega (arith, sum_by-cons (λ x. x) (first + more) lengths, sum_by-cons (λ x. x) first lengths)

some_bodies : (bodies : List (List ℕ)) → 0 < first_of (map length bodies) → 0 < length (map length bodies)
some_bodies [] some = some
some_bodies (body ∷ bodies) some = omega arith

-- the lengths of the bodies are those of the bytes
whole_marked : (mark : List ℕ) (file : File) → CanBeMarked mark file →
    sum (longer_first (length mark) (map length file.bodies)) ≡ length (marked_bytes mark (bytes_of file))
whole_marked mark file can =
    let inside : header_bytes_in (bytes_of file) + 10 ≤ length (bytes_of file) =
    omega (arith, can.inside, first_le file.bodies) in
    sum-longer (length mark) (map length file.bodies) (some_bodies file.bodies (omega (arith, can.inside)))
    ∙ ap (λ n. n + length mark) (sum-map-length file.bodies)
    ∙ sym (length-marked mark (bytes_of file) can.least inside)

-- what is known of a file that was marked, and of its header
pub record IsMarked (file : File) (places : List ℕ) (m : MarkedFile) (header : Header)
    (is : IsHeaderOf (proper_of file) header) : Type 0 where
  pub marks : Marks file places m
  pub few : length (mark_text places (length file.bodies)) + 3 < 2 ^ 16
  pub fits : length header.bytes + (length (mark_text places (length file.bodies)) + 3) < 2 ^ 32
  pub proper : proper_of m.file
      ≡ longer (mark_text places (length file.bodies)) header.bytes is.tiled.least few fits
      ++ drop (length header.bytes) (proper_of file)

pub is_marked : (file : File) (place : ℕ) (places : List ℕ) (m : MarkedFile) (header : Header)
    (is : IsHeaderOf (proper_of file) header) → marked file (place ∷ places) ≡ Some m →
    IsMarked file (place ∷ places) m header is
is_marked file place places m header has marks =
    let text = mark_text (place ∷ places) (length file.bodies) in
    let mark = mark_record text in
    let it = marks_of file place places m marks in
    let long = length-record text in
    let inside = first_le file.bodies in
    let size = header_size mark file header has (omega (arith, it.can.inside, it.can.least, inside)) in
    let bytes_are : bytes_of m.file ≡ marked_bytes mark (bytes_of file) =
    ap bytes_of it.file_is ∙ concat-pieces_of (longer_first (length mark) (map length file.bodies))
    (marked_bytes mark (bytes_of file)) (whole_marked mark file it.can) in
    let few : length text + 3 < 2 ^ 16 = omega (arith, it.can.short, long) in
    record {
      marks = it;
      few = few;
      fits = omega (arith, it.can.inside, it.can.short, size, few);
      proper = ap (drop 10) bytes_are
          ∙ proper_marked mark file header has (omega (arith, it.can.inside, it.can.least, inside));
    }

pub marked_header_is : (file : File) (places : List ℕ) (m : MarkedFile) (header : Header)
    (is : IsHeaderOf (proper_of file) header) (it : IsMarked file places m header is) →
    IsHeaderOf (proper_of m.file)
    (after (mark_text places (length file.bodies)) header.bytes is.tiled.least it.few it.fits header)
marked_header_is file places m header is it =
    let text = mark_text places (length file.bodies) in
    subst (λ (proper : List ℕ). IsHeaderOf proper (after text header.bytes is.tiled.least it.few it.fits header))
    (sym it.proper)
    (made_has text (proper_of file) header is it.few it.fits (drop (length header.bytes) (proper_of file)))

pub marked_headers : MarkedHeaders
marked_headers file place places m header read marks =
    let has = of_header (proper_of file) header (header_of (proper_of file)) read (headers_are_read (proper_of file)) in
    let it = is_marked file place places m header has marks in
    header_is (proper_of m.file) _ (marked_header_is file (place ∷ places) m header has it)
