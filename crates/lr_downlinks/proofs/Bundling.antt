-- The bytes of a bundle have one reading.
use Rattle.std.proofs.Common.{◌≡◌, ◌⊎◌, inl, inr, ◌<◌, ◌≤◌, ◌+◌, ◌-◌, ℕ, zero, suc, Some, None, ◌^◌}
use Rattle.std.proofs.Common.{List, [], ◌∷◌, ◌++◌, length, take, drop, replicate, All, refl, sym, ap, ◌∙◌, subst}
use Rattle.std.proofs.Common.{arith, append_assoc, length-append, length-drop}
use Rattle.std.specs.Prelude.{slice_get, slice_range, slice_index, slice_index_or, slice_set}
use Rattle.std.proofs.lemmas.Bool.{cases_lt}
use Rattle.std.proofs.lemmas.List.{drop-drop, get_or-take, length-replicate, length-take-le}
use Rattle.std.proofs.lemmas.List.{take-append-drop, take_all, take_more_set}
use Rattle.std.proofs.lemmas.List.Elements.{All-append, All-cons, All-nil, All-replicate}
use Rattle.std.proofs.lemmas.Option.{get_or_from_slice_get}
use Rattle.std.proofs.Math.Seq.{take-add, take-append_seam}
use Rattle.byteorder.specs.Endian.{big_bytes, big_number}
use Rattle.lr_shelf_format.proofs.NumberLemmas.{AreBytes, AreBytes-drop, bytes_of_eight, eight_low}
use Rattle.lr_downlinks.specs.Bundles.{BeginsBundle, HasBadCount, HasRest, IsBundle, part_of, parts_of}
use Rattle.lr_downlinks.specs.Readings.{AreEnds, AreFound, BreaksOff, IsEnd, IsCutAt, last_end, recording_start}
use Rattle.lr_downlinks.specs.Readings.{streams_between}
use Rattle.lr_downlinks.specs.declared.sizes.TheConstants.{MOST_BUNDLE_BYTES}

abbrev pub IsShort : List ℕ → Type 0
IsShort stream = length stream < 2 ^ 64

-- ---- streams that are found

pub length-between : (bytes : List ℕ) (from : ℕ) (ends : List ℕ)
    → length (streams_between bytes from ends) ≡ length ends
length-between bytes from [] = refl
length-between bytes from (end ∷ ends) = ap suc (length-between bytes end ends)

pub found_last : (bytes : List ℕ) (from : ℕ) (ends : List ℕ) → AreFound bytes from ends → from ≤ last_end from ends
found_last bytes from [] found = omega arith
found_last bytes from (end ∷ ends) found = omega (arith, found_last bytes end ends found.1, found.0.after)

pub found_inside : (bytes : List ℕ) (from : ℕ) (ends : List ℕ) → AreFound bytes from ends → from ≤ length bytes
    → last_end from ends ≤ length bytes
found_inside bytes from [] found inside = inside
found_inside bytes from (end ∷ ends) found inside = found_inside bytes end ends found.1 found.0.inside

pub ends_found : (bytes : List ℕ) (from : ℕ) (ends : List ℕ) → AreFound bytes from ends
    → AreEnds (length bytes) from ends
ends_found bytes from [] found = tt
ends_found bytes from (end ∷ ends) found = (found.0.after, found.0.inside, ends_found bytes end ends found.1)

-- one more, after the last
pub found_more : (bytes : List ℕ) (from : ℕ) (ends : List ℕ) (end : ℕ) → AreFound bytes from ends
    → IsEnd bytes (last_end from ends) end
    → AreFound bytes from (ends ++ end ∷ []) × (last_end from (ends ++ end ∷ []) ≡ end)
found_more bytes from [] end found is = ((is, tt), refl)
found_more bytes from (first ∷ ends) end found is =
    let others = found_more bytes first ends end found.1 is in ((found.0, others.0), others.1)

-- the symbols between two places
size_of_part : (bytes : List ℕ) (from end : ℕ) → IsEnd bytes from end
    → length (slice_range bytes (from + 8) end) ≡ big_number 8 (drop from bytes)
size_of_part bytes from end is =
    length-take-le (end - (from + 8)) (drop (from + 8) bytes)
    (omega (arith, length-drop (from + 8) bytes, is.inside))
    ∙ omega (arith, is.size)

part_there : (bytes : List ℕ) (from end : ℕ) → AreBytes bytes → IsEnd bytes from end
    → part_of (slice_range bytes (from + 8) end) ≡ take (end - from) (drop from bytes)
part_there bytes from end fit is =
    let x = drop from bytes in
    let n = big_number 8 x in
    let eight : big_bytes 8 n ≡ take 8 x =
    bytes_of_eight x (AreBytes-drop from bytes fit) (omega (arith, length-drop from bytes, is.inside, is.after)) in
    let symbols : slice_range bytes (from + 8) end ≡ take n (drop 8 x) =
    ap (λ (k : ℕ). take k (drop (from + 8) bytes)) (omega (arith, is.size))
    ∙ ap (take n) (sym (drop-drop 8 from bytes)) in
    ap (λ (k : ℕ). big_bytes 8 k ++ slice_range bytes (from + 8) end) (size_of_part bytes from end is)
    ∙ ap (λ (l : List ℕ). l ++ slice_range bytes (from + 8) end) eight
    ∙ ap (λ (l : List ℕ). take 8 x ++ l) symbols
    ∙ sym (take-add 8 n x)
    ∙ ap (λ (k : ℕ). take k x) (omega (arith, is.size))

parts_there : (bytes : List ℕ) (from : ℕ) (ends : List ℕ) → AreBytes bytes → AreFound bytes from ends
    → parts_of (streams_between bytes from ends) ≡ take (last_end from ends - from) (drop from bytes)
parts_there bytes from [] fit found =
    let none : from - from ≡ 0 = omega arith in sym (ap (λ (k : ℕ). take k (drop from bytes)) none)
parts_there bytes from (end ∷ ends) fit found =
    let x = drop from bytes in
    let last = last_end end ends in
    let there : end ≡ from + (end - from) = omega (arith, found.0.after) in
    let others : parts_of (streams_between bytes end ends) ≡ take (last - end) (drop (end - from) x) =
    parts_there bytes end ends fit found.1
    ∙ ap (take (last - end)) (ap (λ (k : ℕ). drop k bytes) there ∙ sym (drop-drop (end - from) from bytes)) in
    ap (λ (l : List ℕ). l ++ parts_of (streams_between bytes end ends)) (part_there bytes from end fit found.0)
    ∙ ap (λ (l : List ℕ). take (end - from) x ++ l) others
    ∙ sym (take-add (end - from) (last - end) x)
    ∙ ap (λ (k : ℕ). take k x) (omega (arith, found.0.after, found_last bytes end ends found.1))

shorts : (bytes : List ℕ) (from : ℕ) (ends : List ℕ) → AreFound bytes from ends → length bytes ≤ MOST_BUNDLE_BYTES
    → All IsShort (streams_between bytes from ends)
shorts bytes from [] found few = All-nil IsShort
shorts bytes from (end ∷ ends) found few =
    All-cons IsShort (slice_range bytes (from + 8) end) (streams_between bytes end ends)
    (omega (
      arith,
      size_of_part bytes from end found.0,
      found.0.size,
      found.0.inside,
      few,
    ))
    (shorts bytes end ends found.1 few)

-- all bytes up to the last end
front_is : (count : ℕ) (rest : List ℕ) (ends : List ℕ) → AreBytes (count ∷ rest) → AreFound (count ∷ rest) 1 ends
    → take (last_end 1 ends) (count ∷ rest) ≡ count ∷ parts_of (streams_between (count ∷ rest) 1 ends)
front_is count rest ends fit found =
    let last = last_end 1 ends in
    let more : last ≡ suc (last - 1) = omega (arith, found_last (count ∷ rest) 1 ends found) in
    ap (λ (k : ℕ). take k (count ∷ rest)) more
    ∙ ap (λ (l : List ℕ). count ∷ l) (sym (parts_there (count ∷ rest) 1 ends fit found))

-- a bundle stands there
pub bundle_there : (count : ℕ) (rest : List ℕ) (ends : List ℕ) → AreBytes (count ∷ rest)
    → length (count ∷ rest) ≤ MOST_BUNDLE_BYTES → 1 ≤ count → count ≤ 16 → length ends ≡ count
    → AreFound (count ∷ rest) 1 ends
    → IsBundle (take (last_end 1 ends) (count ∷ rest)) (streams_between (count ∷ rest) 1 ends)
bundle_there count rest ends fit few some most size found =
    let many : length (streams_between (count ∷ rest) 1 ends) ≡ count = length-between (count ∷ rest) 1 ends ∙ size in
    record {
      some = omega (arith, many, some);
      few = omega (arith, many, most);
      short = shorts (count ∷ rest) 1 ends found few;
      bytes_are =
          front_is count rest ends fit found
          ∙ ap (λ (k : ℕ). k ∷ parts_of (streams_between (count ∷ rest) 1 ends)) (sym many);
    }

-- ---- bytes that end early

parts_of-append : (ss ts : List (List ℕ)) → parts_of (ss ++ ts) ≡ parts_of ss ++ parts_of ts
parts_of-append [] ts = refl
parts_of-append (s ∷ ss) ts =
    ap (λ (l : List ℕ). part_of s ++ l) (parts_of-append ss ts)
    ∙ sym (append_assoc (part_of s) (parts_of ss) (parts_of ts))

-- a stream whose part begins with these bytes, and what is left of that
record Goes (x : List ℕ) : Type 0 where
  stream : List ℕ
  short : IsShort stream
  rest : List ℕ
  some : 0 < length rest
  part : x ++ rest ≡ part_of stream

bytes_padded : (x : List ℕ) (n : ℕ) → AreBytes x → AreBytes (x ++ replicate n 0)
bytes_padded x n fit = All-append (λ b. b < 256) x (replicate n 0) fit (All-replicate (λ b. b < 256) n 0 (omega arith))

goes_short : (x : List ℕ) → AreBytes x → length x < 8 → Goes x
goes_short x fit less =
    let y = x ++ replicate (8 - length x) 0 in
    let size : length y ≡ 8 =
    omega (arith, length-append x (replicate (8 - length x) 0), length-replicate {A = ℕ} (8 - length x) 0, less) in
    let fit' = bytes_padded x (8 - length x) fit in
    let n = big_number 8 y in
    let s : List ℕ = replicate n 0 in
    let eight : big_bytes 8 n ≡ y = bytes_of_eight y fit' (omega (arith, size)) ∙ take_all 8 y (omega (arith, size)) in
    record {
      stream = s;
      short = omega (arith, length-replicate {A = ℕ} n 0, eight_low y fit' (omega (arith, size)));
      rest = replicate (8 - length x) 0 ++ s;
      some = omega (
        arith,
        length-append (replicate (8 - length x) 0) s,
        length-replicate {A = ℕ} (8 - length x) 0,
        less,
      );
      part =
          sym (append_assoc x (replicate (8 - length x) 0) s)
          ∙ ap (λ (l : List ℕ). l ++ s) (sym eight)
          ∙ ap (λ (k : ℕ). big_bytes 8 k ++ s) (sym (length-replicate {A = ℕ} n 0));
    }

goes_long : (x : List ℕ) → AreBytes x → 8 ≤ length x → length x < 8 + big_number 8 x → Goes x
goes_long x fit long less =
    let n = big_number 8 x in
    let pad = replicate (n + 8 - length x) 0 in
    let s = drop 8 x ++ pad in
    let size : length s ≡ n =
    omega (
      arith,
      length-append (drop 8 x) pad,
      length-drop 8 x,
      length-replicate {A = ℕ} (n + 8 - length x) 0,
      long,
      less,
    ) in
    let eight : big_bytes 8 n ≡ take 8 x = bytes_of_eight x fit long in
    record {
      stream = s;
      short = omega (arith, size, eight_low x fit long);
      rest = pad;
      some = omega (arith, length-replicate {A = ℕ} (n + 8 - length x) 0, less);
      part =
          ap (λ (l : List ℕ). l ++ pad) (sym (take-append-drop 8 x))
          ∙ append_assoc (take 8 x) (drop 8 x) pad
          ∙ ap (λ (l : List ℕ). l ++ s) (sym eight)
          ∙ ap (λ (k : ℕ). big_bytes 8 k ++ s) (sym size);
    }

goes_on : (x : List ℕ) → AreBytes x → length x < 8 + big_number 8 x → Goes x
goes_on x fit less = by_length (cases_lt (length x) 8) where
  by_length : (length x < 8) ⊎ (8 ≤ length x) → Goes x
  by_length (inl short) = goes_short x fit short
  by_length (inr long) = goes_long x fit long less

-- a bundle begins there that isn't all there
pub begins : (count : ℕ) (tail : List ℕ) → AreBytes (count ∷ tail) → length (count ∷ tail) ≤ MOST_BUNDLE_BYTES
    → count ≤ 16 → BreaksOff (count ∷ tail) count → BeginsBundle (count ∷ tail)
begins count tail fit few most off =
    let bytes = count ∷ tail in
    let last = last_end 1 off.ends in
    let x = drop last bytes in
    let goes = goes_on x (AreBytes-drop last bytes fit)
    (omega (arith, off.missing, length-drop last bytes, off.inside)) in
    let first = streams_between bytes 1 off.ends in
    let empty : List (List ℕ) = replicate (count - 1 - length off.ends) [] in
    let streams = first ++ goes.stream ∷ empty in
    let many : length streams ≡ count =
    omega (
      arith,
      length-append first (goes.stream ∷ empty),
      length-between bytes 1 off.ends,
      length-replicate {A = List ℕ} (count - 1 - length off.ends) [],
      off.fewer,
    ) in
    let rest = goes.rest ++ parts_of empty in
    let whole : bytes ++ rest ≡ count ∷ parts_of streams =
    ap (λ (l : List ℕ). l ++ rest) (sym (take-append-drop last bytes))
    ∙ append_assoc (take last bytes) x rest
    ∙ ap (λ (l : List ℕ). take last bytes ++ l)
    (sym (append_assoc x goes.rest (parts_of empty)) ∙ ap (λ (l : List ℕ). l ++ parts_of empty) goes.part)
    ∙ ap (λ (l : List ℕ). l ++ (part_of goes.stream ++ parts_of empty)) (front_is count tail off.ends fit off.found)
    ∙ ap (λ (l : List ℕ). count ∷ l) (sym (parts_of-append first (goes.stream ∷ empty))) in
    record {
      rest = rest;
      some = omega (arith, length-append goes.rest (parts_of empty), goes.some);
      streams = streams;
      whole = record {
        some = omega (arith, many, off.fewer);
        few = omega (arith, many, most);
        short = All-append IsShort first (goes.stream ∷ empty) (shorts bytes 1 off.ends off.found few)
            (All-cons IsShort goes.stream empty goes.short
            (All-replicate IsShort (count - 1 - length off.ends) [] (omega arith)));
        bytes_are = whole ∙ ap (λ (k : ℕ). k ∷ parts_of streams) (sym many);
      };
    }

-- no bytes begin every bundle
pub begins_none : BeginsBundle []
begins_none = record {
  rest = 1 ∷ parts_of ([] ∷ []);
  some = omega arith;
  streams = [] ∷ [];
  whole = record {
    some = omega arith;
    few = omega arith;
    short = All-cons IsShort [] [] (omega arith) (All-nil IsShort);
    bytes_are = refl;
  };
}

-- ---- what is found

-- no bytes
pub no_bytes : (bytes : List ℕ) → None ≡ slice_get bytes 0 → (0 ≡ length bytes) × BeginsBundle bytes
no_bytes [] is = (refl, begins_none)
no_bytes (b ∷ bytes) is = absurd (cc (is))

front_of : (bytes : List ℕ) (count : ℕ) → slice_get bytes 0 ≡ Some count → bytes ≡ count ∷ drop 1 bytes
front_of [] count is = absurd (cc (is))
front_of (b ∷ rest) count is = ap (λ (n : ℕ). n ∷ rest) (get_or_from_slice_get (b ∷ rest) 0 count 0 is)

-- one end more was found
pub found_set : (bytes ends : List ℕ) (k end at : ℕ) → k < length ends → AreFound bytes 1 (take k ends)
    → at ≡ last_end 1 (take k ends) → IsEnd bytes at end
    → AreFound bytes 1 (take (k + 1) (slice_set ends k end))
    × (end ≡ last_end 1 (take (k + 1) (slice_set ends k end))) × (end ≤ length bytes)
found_set bytes ends k end at inside found at_is is =
    let more = found_more bytes 1 (take k ends) end found (subst (λ (n : ℕ). IsEnd bytes n end) at_is is) in
    let grown : take (k + 1) (slice_set ends k end) ≡ take k ends ++ end ∷ [] = take_more_set ends k end inside in (
      subst (λ (l : List ℕ). AreFound bytes 1 l) (sym grown) more.0,
      sym (ap (last_end 1) grown ∙ more.1),
      is.inside,
    )

front_ends : (count : ℕ) (ends rest : List ℕ) → length ends ≡ count → take count (ends ++ rest) ≡ ends
front_ends count ends rest size =
    ap (λ (n : ℕ). take n (ends ++ rest)) (sym size) ∙ take-append_seam ends rest

pub front_size : (count : ℕ) (all : List ℕ) → length all ≡ 16 → count ≤ 16 → length (take count all) ≡ count
front_size count all size few = length-take-le count all (omega (arith, size, few))

pub drop_size : (count : ℕ) (all : List ℕ) → length all ≡ 16 → length (drop count all) ≡ 16 - count
drop_size count all size = omega (arith, length-drop count all, size)

module _ (bytes : List ℕ) (count : ℕ) (first : slice_get bytes 0 ≡ Some count) where
  -- a number of which there is no bundle
  pub bad_count : ((1 ≤ count) × (count ≤ 16) → ⊥) → HasBadCount bytes count
  bad_count bad = record { rest = drop 1 bytes; first = front_of bytes count first; bad = bad }

  module _ (fit : AreBytes bytes) (few : length bytes ≤ MOST_BUNDLE_BYTES) (some : 1 ≤ count) (most : count ≤ 16)
      (ends : List ℕ) (size : length ends ≡ count) where
    -- bytes that end early
    pub ended_early : BreaksOff bytes (length ends) → BeginsBundle bytes
    ended_early off =
        subst (λ (l : List ℕ). AreBytes l → length l ≤ MOST_BUNDLE_BYTES → BreaksOff l count → BeginsBundle l)
        (sym (front_of bytes count first))
        (λ fit few off. begins count (drop 1 bytes) fit few most off) fit few
        (subst (λ (n : ℕ). BreaksOff bytes n) size off)

    front_bundle : AreFound bytes 1 ends → IsBundle (take (last_end 1 ends) bytes) (streams_between bytes 1 ends)
    front_bundle found =
        subst (λ (l : List ℕ). AreBytes l → length l ≤ MOST_BUNDLE_BYTES → AreFound l 1 ends
        → IsBundle (take (last_end 1 ends) l) (streams_between l 1 ends)) (sym (front_of bytes count first))
        (λ fit few found. bundle_there count (drop 1 bytes) ends fit few some most size found) fit few found

    -- bytes after the bundle
    pub has_rest : (at : ℕ) → AreFound bytes 1 ends → at ≡ last_end 1 ends → at < length bytes → HasRest bytes at
    has_rest at found at_is more = record {
      streams = streams_between bytes 1 ends;
      front =
          subst (λ (n : ℕ). IsBundle (take n bytes) (streams_between bytes 1 ends)) (sym at_is) (front_bundle found);
      more = more;
    }

    module _ (rest : List ℕ) where
      -- nothing after it
      pub whole_bundle : (at : ℕ) → AreFound bytes 1 ends → at ≡ last_end 1 ends → length bytes ≤ at
          → IsBundle bytes (streams_between bytes 1 (take count (ends ++ rest)))
      whole_bundle at found at_is none =
          subst (λ (l : List ℕ). IsBundle bytes (streams_between bytes 1 l)) (sym (front_ends count ends rest size))
          (subst (λ (l : List ℕ). IsBundle l (streams_between bytes 1 ends))
          (take_all (last_end 1 ends) bytes (omega (arith, at_is, none))) (front_bundle found))

      pub cut_at : length rest ≡ 16 - count → AreFound bytes 1 ends → IsCutAt bytes count (ends ++ rest)
      cut_at room found = record {
        some = some;
        few = most;
        room = omega (arith, length-append ends rest, size, room, most);
        short = few;
        are_ends =
            subst (λ (l : List ℕ). AreEnds (length bytes) 1 l) (sym (front_ends count ends rest size))
            (ends_found bytes 1 ends found);
      }

-- ---- the streams of a bundle

pub record HasStream (bytes : List ℕ) (from : ℕ) (ends : List ℕ) (k : ℕ) : Type 0 where
  pub stream : slice_index_or (streams_between bytes from ends) k []
      ≡ slice_range bytes (recording_start from ends k + 8) (slice_index ends k)
  pub after : recording_start from ends k + 8 ≤ slice_index ends k
  pub inside : slice_index ends k ≤ length bytes

pub has_stream : (bytes : List ℕ) (from : ℕ) (ends : List ℕ) (k : ℕ) → AreEnds (length bytes) from ends
    → k < length ends → HasStream bytes from ends k
has_stream bytes from [] k are inside = absurd (omega (arith, inside))
has_stream bytes from (end ∷ ends) zero are inside = record { stream = refl; after = are.0; inside = are.1 }
has_stream bytes from (end ∷ ends) (suc zero) are inside =
    let one = has_stream bytes end ends zero are.2 (omega (arith, inside)) in
    record { stream = one.stream; after = one.after; inside = one.inside }
has_stream bytes from (end ∷ ends) (suc (suc k)) are inside =
    let one = has_stream bytes end ends (suc k) are.2 (omega (arith, inside)) in
    record { stream = one.stream; after = one.after; inside = one.inside }

-- but for the first, it is the end of the one before
pub start_later : (from : ℕ) (ends : List ℕ) (k : ℕ) → 0 < k → recording_start from ends k ≡ slice_index ends (k - 1)
start_later from ends zero some = absurd (omega (arith, some))
start_later from ends (suc k) some = ap (slice_index ends) (omega arith)

start_in_front : (from : ℕ) (ends : List ℕ) (count k : ℕ) → k < count
    → recording_start from (take count ends) k ≡ recording_start from ends k
start_in_front from ends count zero inside = refl
start_in_front from ends count (suc k) inside = get_or-take count ends k 0 (omega (arith, inside))

pub count_is : (bytes : List ℕ) (count : ℕ) (ends : List ℕ) → IsCutAt bytes count ends
    → length (streams_between bytes 1 (take count ends)) ≡ count
count_is bytes count ends is =
    length-between bytes 1 (take count ends) ∙ length-take-le count ends (omega (arith, is.few, is.room))

-- the stream of this number, as the type of a bundle keeps it
pub record IsStream (bytes : List ℕ) (ends : List ℕ) (k : ℕ) (stream : List ℕ) : Type 0 where
  pub stream_is : stream ≡ slice_range bytes (recording_start 1 ends k + 8) (slice_index ends k)
  pub after : recording_start 1 ends k + 8 ≤ slice_index ends k
  pub inside : slice_index ends k ≤ length bytes
  pub below : k < 16

pub stream_of : (bytes : List ℕ) (count : ℕ) (ends : List ℕ) → IsCutAt bytes count ends → (k : ℕ)
    → k < length (streams_between bytes 1 (take count ends))
    → IsStream bytes ends k (slice_index_or (streams_between bytes 1 (take count ends)) k [])
stream_of bytes count ends is k inside =
    let below : k < count = omega (arith, inside, count_is bytes count ends is) in
    let many : length (take count ends) ≡ count = length-take-le count ends (omega (arith, is.few, is.room)) in
    let has = has_stream bytes 1 (take count ends) k is.are_ends (omega (arith, below, many)) in
    let start : recording_start 1 (take count ends) k ≡ recording_start 1 ends k =
    start_in_front 1 ends count k below in
    let end : slice_index (take count ends) k ≡ slice_index ends k = get_or-take count ends k 0 below in
    record {
      stream_is = has.stream ∙ (λ i. slice_range bytes (start i + 8) (end i));
      after = omega (arith, has.after, start, end);
      inside = omega (arith, has.inside, end);
      below = omega (arith, below, is.few);
    }
