-- A header with one record more.
use Rattle.std.proofs.Common.{◌≡◌, ℕ, ◌+◌, ◌-◌, ◌<◌, ◌≤◌, ◌^◌, false, cond, not, ◌||◌, eqb, ltb, Some}
use Rattle.std.proofs.Common.{None, List, [], ◌∷◌, ◌++◌, length, take, drop, get_or, refl, sym}
use Rattle.std.proofs.Common.{ap, ◌∙◌}
use Rattle.std.proofs.Common.{subst, arith, length-append, length-drop, append_assoc}
use Rattle.std.specs.Prelude.{slice_index}
use Rattle.std.specs.Int.{to_be_bytes, w16, w32}
use Rattle.std.proofs.lemmas.Bool.{ltb-false}
use Rattle.std.proofs.lemmas.Bool.Decides.{nat_tests}
use Rattle.std.proofs.lemmas.List.{drop-append-le, drop-drop, drop_all, drop_at, get_or-drop}
use Rattle.std.proofs.lemmas.List.{length-take-le, take-append-le, take-take}
use Rattle.byteorder.specs.Endian.{big_number}
use Rattle.byteorder.specs.Numbers.{big_from-take, big_number-reads_back}
use Rattle.lr_headers.specs.Tiling.{Header, IsHeaderOf, IsPrefix, IsRecord, IsTiling, fault_at}
use Rattle.lr_headers.specs.Tiling.{first_fault, has_wrong_length, header_length, kind_at, length_at}
use Rattle.lr_headers.specs.Tiling.{number_at}
use Rattle.lr_headers.specs.declared.entry.Entry.{Entry}
use Rattle.lr_headers.specs.declared.fault.HeaderFault.TheVariants.{Ended, NotPrimary, Overrun}
use Rattle.lr_headers.proofs.Tilings.{no_fault, record_ends}

-- ---- numbers and bytes in a longer list

pub number-front : (n : ℕ) (xs ys : List ℕ) → n ≤ length xs → big_number n (xs ++ ys) ≡ big_number n xs
number-front n xs ys inside =
    sym (big_from-take 0 n n (xs ++ ys) (omega arith))
    ∙ ap (big_number n) (take-append-le n xs ys inside)
    ∙ big_from-take 0 n n xs (omega arith)

byte-front : (xs ys : List ℕ) (i : ℕ) → 0 < length xs → slice_index (xs ++ ys) 0 ≡ slice_index xs 0
byte-front [] ys i some = absurd (omega (arith, some))
byte-front (x ∷ xs) ys i some = refl

pub byte-drop : (xs : List ℕ) (place : ℕ) → slice_index xs place ≡ slice_index (drop place xs) 0
byte-drop xs place =
    let same : place + 0 ≡ place = omega arith in
    ap (λ (n : ℕ). get_or xs n 0) (sym same) ∙ sym (get_or-drop place xs 0 0)

-- ---- a header with one record more

module _ (text bytes : List ℕ) (least : 16 ≤ length bytes) (few : length text + 3 < 2 ^ 16)
    (fits : length bytes + (length text + 3) < 2 ^ 32) where
  abbrev pub mark_size : ℕ
  mark_size = length text + 3

  abbrev pub mark : List ℕ
  mark = 6 ∷ to_be_bytes w16 mark_size ++ text

  pub length-mark : length mark ≡ mark_size
  length-mark =
      let two : length (to_be_bytes w16 mark_size) ≡ 2 = refl in
      omega (arith, two, length-append (6 ∷ to_be_bytes w16 mark_size) text)

  abbrev pub number : List ℕ
  number = to_be_bytes w32 (length bytes + length mark)

  abbrev pub longer : List ℕ
  longer = take 4 bytes ++ number ++ drop 8 bytes ++ mark

  pub four : length number ≡ 4
  four = refl

  pub length-front : length (take 4 bytes ++ number) ≡ 8
  length-front =
      omega (arith, four, length-append (take 4 bytes) number, length-take-le 4 bytes (omega (arith, least)))

  pub length-longer : length longer ≡ length bytes + length mark
  length-longer =
      omega (
        arith,
        length-append ((take 4 bytes ++ number) ++ drop 8 bytes) mark,
        length-append (take 4 bytes ++ number) (drop 8 bytes),
        length-front,
        length-drop 8 bytes,
        least,
      )

  -- from its eighth byte on it goes on as before
  pub drop-longer : (place : ℕ) → 8 ≤ place → place ≤ length bytes → drop place longer ≡ drop place bytes ++ mark
  drop-longer place after inside =
      let rest = place - 8 in
      let whole : 8 + rest ≡ place = omega (arith, after) in
      let short : rest ≤ length (drop 8 bytes) = omega (arith, length-drop 8 bytes, inside, after) in
      ap (λ (n : ℕ). drop n longer) (sym whole)
      ∙ sym (drop-drop rest 8 longer)
      ∙ ap (drop rest) (ap (drop 8) (append_assoc (take 4 bytes ++ number) (drop 8 bytes) mark)
      ∙ drop_at (take 4 bytes ++ number) (drop 8 bytes ++ mark) 8 length-front)
      ∙ drop-append-le rest (drop 8 bytes) mark short
      ∙ ap (λ l. l ++ mark) (drop-drop rest 8 bytes ∙ ap (λ (n : ℕ). drop n bytes) whole)

  number-longer : (n place : ℕ) → 8 ≤ place → place + n ≤ length bytes →
      number_at n place longer ≡ number_at n place bytes
  unfolding number_at
  number-longer n place after inside =
      let there : n ≤ length (drop place bytes) = omega (arith, length-drop place bytes, inside) in
      ap (big_number n) (drop-longer place after (omega (arith, inside)))
      ∙ number-front n (drop place bytes) mark there

  byte-longer : (place : ℕ) → 8 ≤ place → place < length bytes → kind_at place longer ≡ kind_at place bytes
  byte-longer place after inside =
      let some : 0 < length (drop place bytes) = omega (arith, length-drop place bytes, inside) in
      byte-drop longer place ∙ ap (λ l. slice_index l 0) (drop-longer place after (omega (arith, inside)))
      ∙ byte-front (drop place bytes) mark 0 some ∙ sym (byte-drop bytes place)

  -- a record that stood there stands there still
  module _ (place : ℕ) (e : Entry) (after : 16 ≤ place) (is : IsRecord bytes place e) where
    ends : (place + e.length ≤ length bytes) × (3 ≤ e.length)
        × (has_wrong_length (kind_at place bytes) (length_at place bytes) ≡ false)
    ends = record_ends bytes place e is

    same_length : length_at place longer ≡ length_at place bytes
    same_length = number-longer 2 (place + 1) (omega (arith, after)) (omega (arith, ends.0, ends.1))

    same_kind : kind_at place longer ≡ kind_at place bytes
    same_kind = byte-longer place (omega (arith, after)) is.below

    sound_still : fault_at longer place ≡ None
    sound_still =
        let all = length-longer in
        let inside : place + length_at place bytes ≤ length bytes =
        subst (λ (n : ℕ). place + n ≤ length bytes) is.size ends.0 in
        let least : 3 ≤ length_at place bytes = subst (λ (n : ℕ). 3 ≤ n) is.size ends.1 in
        let first : ltb (length longer) (place + 3) ≡ false = grind (arith, nat_tests, inside, least, all) in
        let second : ltb (length_at place bytes) 3 ≡ false = grind (arith, nat_tests, least) in
        let third : ltb (length longer) (place + length_at place bytes) ≡ false =
        grind (arith, nat_tests, inside, all) in
        let wrong : has_wrong_length (kind_at place bytes) (length_at place bytes) ≡ false = ends.2 in
        rw (first, same_length, same_kind, second, third, wrong) refl

    record_still : IsRecord longer place e
    record_still = record {
      below = omega (arith, is.below, length-longer);
      sound = sound_still;
      here = is.here;
      kind = is.kind ∙ sym same_kind;
      size = is.size ∙ sym same_length;
    }

  tiled_still : (from : ℕ) (es : List Entry) (to : ℕ) → 16 ≤ from → IsTiling bytes from es to →
      IsTiling longer from es to
  tiled_still from [] to after h = h
  tiled_still from (e ∷ es) to after h =
      (record_still from e after h.0, tiled_still (from + e.length) es to (omega (arith, after)) h.1)

  pub prefix_still : (es : List Entry) (to : ℕ) → IsPrefix bytes es to → IsPrefix longer es to
  prefix_still [] to h = h
  prefix_still (e ∷ es) to h = (h.0, tiled_still 16 es to (omega arith) h.1)

  -- the record more
  drop-mark : drop (length bytes) longer ≡ mark
  drop-mark =
      drop-longer (length bytes) (omega (arith, least)) (omega arith)
      ∙ ap (λ l. l ++ mark) (drop_all (length bytes) bytes (omega arith))

  mark_length : length_at (length bytes) longer ≡ mark_size
  unfolding number_at
  mark_length =
      ap (big_number 2) (sym (drop-drop 1 (length bytes) longer) ∙ ap (drop 1) drop-mark)
      ∙ big_number-reads_back 2 mark_size text few

  mark_kind : kind_at (length bytes) longer ≡ 6
  mark_kind = byte-drop longer (length bytes) ∙ ap (λ l. slice_index l 0) drop-mark

  abbrev pub mark_entry : Entry
  mark_entry = record { kind = 6; at = length bytes; length = mark_size }

  pub mark_stands : IsRecord longer (length bytes) mark_entry
  mark_stands =
      let all = length-longer in
      let long = length-mark in
      let first : ltb (length longer) (length bytes + 3) ≡ false = grind (arith, nat_tests, all, long) in
      let second : ltb mark_size 3 ≡ false = grind (arith, nat_tests) in
      let third : ltb (length longer) (length bytes + mark_size) ≡ false = grind (arith, nat_tests, all, long) in
      record {
        below = omega (arith, all, long);
        sound = rw (first, mark_length, mark_kind, second, third) refl;
        here = refl;
        kind = sym mark_kind;
        size = sym mark_length;
      }

  abbrev pub after : Header → Header
  after header = record { bytes = longer; entries = header.entries ++ mark_entry ∷ [] }

-- ---- a file proper and its header

module _ (proper : List ℕ) (header : Header) (is : IsHeaderOf proper header) where
  abbrev pub size : ℕ
  size = header_length proper

  -- what the tests of the first record tell
  pub record Tests : Type 0 where
    pub long : 16 ≤ length proper
    pub primary : (not (eqb (kind_at 0 proper) 0) || not (eqb (length_at 0 proper) 16)) ≡ false
    pub inside : size ≤ length proper

  pub tests : Tests
  tests =
      let fourth = cond (ltb (length proper) size) (Some (Ended (length proper))) None in
      let third = cond (ltb size 16) (Some (Overrun 0)) fourth in
      let primary = not (eqb (kind_at 0 proper) 0) || not (eqb (length_at 0 proper) 16) in
      let second = cond primary (Some NotPrimary) third in
      let a = no_fault (ltb (length proper) 16) (Ended (length proper)) second is.sound in
      let b = no_fault primary NotPrimary third a.1 in
      let c = no_fault (ltb size 16) (Overrun 0) fourth b.1 in
      let d = no_fault (ltb (length proper) size) (Ended (length proper)) None c.1 in
      record { long = ltb-false _ _ a.0; primary = b.0; inside = ltb-false _ _ d.0 }

  pub length_is : length header.bytes ≡ size
  length_is = ap length is.bytes ∙ length-take-le size proper tests.inside

  -- the file proper begins with the header
  pub front-is : (n : ℕ) → n ≤ length header.bytes → take n header.bytes ≡ take n proper
  front-is n short = ap (take n) is.bytes ∙ take-take n size proper (omega (arith, short, length_is))

  -- a longer file proper has the same header
  module _ (more : List ℕ) where
    longer_size : header_length (proper ++ more) ≡ size
    unfolding number_at
    longer_size =
        let there : 4 ≤ length (drop 4 proper) = omega (arith, length-drop 4 proper, tests.long) in
        ap (big_number 4) (drop-append-le 4 proper more (omega (arith, tests.long)))
        ∙ number-front 4 (drop 4 proper) more there

    longer_first_size : length_at 0 (proper ++ more) ≡ length_at 0 proper
    unfolding number_at
    longer_first_size =
        let there : 2 ≤ length (drop 1 proper) = omega (arith, length-drop 1 proper, tests.long) in
        ap (big_number 2) (drop-append-le 1 proper more (omega (arith, tests.long)))
        ∙ number-front 2 (drop 1 proper) more there

    longer_kind : kind_at 0 (proper ++ more) ≡ kind_at 0 proper
    longer_kind = byte-front proper more 0 (omega (arith, tests.long))

    longer_sound : first_fault (proper ++ more) ≡ None
    longer_sound =
        let all = length-append proper more in
        let long = tests.long in
        let inside = tests.inside in
        let least = is.tiled.least in
        let whole = length_is in
        let a : ltb (length (proper ++ more)) 16 ≡ false = grind (arith, nat_tests, all, long) in
        let c : ltb size 16 ≡ false = grind (arith, nat_tests, least, whole) in
        let d : ltb (length (proper ++ more)) size ≡ false = grind (arith, nat_tests, all, inside) in
        rw (a, longer_kind, longer_first_size, tests.primary, longer_size, c, d) refl

    pub header_longer : IsHeaderOf (proper ++ more) header
    header_longer = record {
      sound = longer_sound;
      bytes = is.bytes ∙ sym (ap (λ (n : ℕ). take n (proper ++ more)) longer_size
          ∙ take-append-le size proper more tests.inside);
      tiled = is.tiled;
    }

  pub is_long : 16 ≤ length proper
  is_long = tests.long

  pub header_inside : length header.bytes ≤ length proper
  header_inside = omega (arith, length_is, tests.inside)
