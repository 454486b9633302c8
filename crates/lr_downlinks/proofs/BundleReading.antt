-- A bundle has one reading: its streams, or the first flaw that it has.
use Rattle.std.proofs.Common.{◌≡◌, ◌<◌, ℕ, suc, Result, Ok, Err}
use Rattle.std.proofs.Common.{List, [], ◌∷◌, ◌++◌, length, take, drop, All, refl, sym, ap, ◌∙◌, subst}
use Rattle.std.proofs.Common.{arith, append_assoc, length-append, length-drop}
use Rattle.std.specs.Prelude.{slice_index}
use Rattle.std.proofs.lemmas.List.{append-nil, drop_at, take-append-drop, take_at}
use Rattle.byteorder.specs.Endian.{big_bytes, big_number}
use Rattle.byteorder.specs.Numbers.{big_number-reads_back, length-bytes_high_first}
use Rattle.lr_downlinks.specs.Bundles.{HasBadCount, HasRest, IsBundle, IsReading, part_of, parts_of}
use Rattle.lr_downlinks.specs.declared.fault.BundleFault.{BundleFault}
use Rattle.lr_downlinks.specs.declared.fault.BundleFault.TheVariants.{Ended, Count, Rest}
use Rattle.lr_downlinks.proofs.Bundling.{IsShort}

-- ---- one reading

part_read : (s t r r' : List ℕ) → IsShort s → IsShort t → part_of s ++ r ≡ part_of t ++ r' → (s ≡ t) × (r ≡ r')
part_read s t r r' short short' same =
    let n = length s in
    let m = length t in
    let moved : big_bytes 8 n ++ (s ++ r) ≡ big_bytes 8 m ++ (t ++ r') =
    sym (append_assoc (big_bytes 8 n) s r) ∙ same ∙ append_assoc (big_bytes 8 m) t r' in
    let size : n ≡ m =
    sym (big_number-reads_back 8 n (s ++ r) short) ∙ ap (big_number 8) moved
    ∙ big_number-reads_back 8 m (t ++ r') short' in
    let after : s ++ r ≡ t ++ r' =
    sym (drop_at (big_bytes 8 n) (s ++ r) 8 (length-bytes_high_first 8 n)) ∙ ap (drop 8) moved
    ∙ drop_at (big_bytes 8 m) (t ++ r') 8 (length-bytes_high_first 8 m) in (
      sym (take_at s r n refl) ∙ ap (take n) after ∙ take_at t r' n (sym size),
      sym (drop_at s r n refl) ∙ ap (drop n) after ∙ drop_at t r' n (sym size),
    )

parts_read : (ss ts : List (List ℕ)) (r r' : List ℕ) → All IsShort ss → All IsShort ts → length ss ≡ length ts
    → parts_of ss ++ r ≡ parts_of ts ++ r' → (ss ≡ ts) × (r ≡ r')
parts_read [] [] r r' short short' size same = (refl, same)
parts_read [] (t ∷ ts) r r' short short' size same = absurd (omega (arith, size))
parts_read (s ∷ ss) [] r r' short short' size same = absurd (omega (arith, size))
parts_read (s ∷ ss) (t ∷ ts) r r' short short' size same =
    let one = part_read s t (parts_of ss ++ r) (parts_of ts ++ r') (short 0 [] (omega arith))
    (short' 0 [] (omega arith))
    (sym (append_assoc (part_of s) (parts_of ss) r) ∙ same ∙ append_assoc (part_of t) (parts_of ts) r') in
    let others = parts_read ss ts r r' (λ k d inside. short (suc k) d (omega (arith, inside)))
    (λ k d inside. short' (suc k) d (omega (arith, inside))) (omega (arith, size)) one.1 in
    (λ i. one.0 i ∷ others.0 i, others.1)

bundle_read : (b b' : List ℕ) (ss ts : List (List ℕ)) (r r' : List ℕ) → IsBundle b ss → IsBundle b' ts
    → b ++ r ≡ b' ++ r' → (ss ≡ ts) × (r ≡ r')
bundle_read b b' ss ts r r' is is' same =
    let whole : (length ss ∷ parts_of ss) ++ r ≡ (length ts ∷ parts_of ts) ++ r' =
    ap (λ (l : List ℕ). l ++ r) (sym is.bytes_are) ∙ same ∙ ap (λ (l : List ℕ). l ++ r') is'.bytes_are in
    let size : length ss ≡ length ts = ap (λ (l : List ℕ). slice_index l 0) whole in
    parts_read ss ts r r' is.short is'.short size (ap (drop 1) whole)

-- no bundle is a proper front of another
no_longer : (b : List ℕ) (ss ts : List (List ℕ)) (rest : List ℕ) → IsBundle b ss → IsBundle (b ++ rest) ts
    → 0 < length rest → ⊥
no_longer b ss ts rest is is' some =
    let same = bundle_read b (b ++ rest) ss ts rest [] is is' (sym (append-nil (b ++ rest))) in
    omega (arith, ap (λ (l : List ℕ). length l) same.1, some)

-- no bundle begins with a bad count
no_bad : (bytes rest : List ℕ) (count : ℕ) (ts : List (List ℕ)) → HasBadCount bytes count → IsBundle (bytes ++ rest) ts
    → ⊥
no_bad bytes rest count ts bad is =
    let whole : (count ∷ bad.rest) ++ rest ≡ length ts ∷ parts_of ts =
    ap (λ (l : List ℕ). l ++ rest) (sym bad.first) ∙ is.bytes_are in
    let first : count ≡ length ts = ap (λ (l : List ℕ). slice_index l 0) whole in
    bad.bad (omega (arith, first, is.some), omega (arith, first, is.few))

split_at : (bytes : List ℕ) (at : ℕ) → take at bytes ++ drop at bytes ≡ bytes
split_at bytes at = take-append-drop at bytes

left_at : (bytes : List ℕ) (at : ℕ) → at < length bytes → 0 < length (drop at bytes)
left_at bytes at more = omega (arith, length-drop at bytes, more)

-- what follows a bundle is no part of one
no_rest : (bytes : List ℕ) (at : ℕ) (ts : List (List ℕ)) (rest : List ℕ) → HasRest bytes at
    → IsBundle (bytes ++ rest) ts
    → ⊥
no_rest bytes at ts rest has is =
    no_longer (take at bytes) has.streams ts (drop at bytes ++ rest) has.front
    (subst (λ (l : List ℕ). IsBundle l ts)
    (sym (sym (append_assoc (take at bytes) (drop at bytes) rest) ∙ ap (λ (l : List ℕ). l ++ rest) (split_at bytes at)))
    is)
    (omega (arith, length-append (drop at bytes) rest, left_at bytes at has.more))

whole_of : (bytes : List ℕ) (ss : List (List ℕ)) → IsBundle bytes ss → IsBundle (bytes ++ []) ss
whole_of bytes ss is = subst (λ (l : List ℕ). IsBundle l ss) (sym (append-nil bytes)) is

same_rest : (bytes : List ℕ) (at at' : ℕ) → HasRest bytes at → HasRest bytes at' → at ≡ at'
same_rest bytes at at' has has' =
    let same = bundle_read (take at bytes) (take at' bytes) has.streams has'.streams (drop at bytes) (drop at' bytes)
    has.front has'.front (split_at bytes at ∙ sym (split_at bytes at')) in
    omega (
      arith,
      ap (λ (l : List ℕ). length l) same.1,
      length-drop at bytes,
      length-drop at' bytes,
      has.more,
      has'.more,
    )

same_count : (bytes : List ℕ) (count count' : ℕ) → HasBadCount bytes count → HasBadCount bytes count' → count ≡ count'
same_count bytes count count' bad bad' =
    ap (λ (l : List ℕ). slice_index l 0) (sym bad.first ∙ bad'.first)

-- nor does the front of some bytes, if the bytes do
count_in_front : (bytes : List ℕ) (at count : ℕ) → HasBadCount bytes count → HasRest bytes at → ⊥
count_in_front bytes at count bad has =
    let whole : count ∷ bad.rest ≡ (length has.streams ∷ parts_of has.streams) ++ drop at bytes =
    sym bad.first ∙ sym (split_at bytes at) ∙ ap (λ (l : List ℕ). l ++ drop at bytes) has.front.bytes_are in
    let first : count ≡ length has.streams = ap (λ (l : List ℕ). slice_index l 0) whole in
    bad.bad (omega (arith, first, has.front.some), omega (arith, first, has.front.few))

-- bytes are read as one thing
pub one_reading : (bytes : List ℕ) (one other : Result (List (List ℕ)) BundleFault) → IsReading bytes one
    → IsReading bytes other → one ≡ other
one_reading bytes (Ok ss) (Ok ts) is is' =
    ap Ok (bundle_read bytes bytes ss ts [] [] is is' refl).0
one_reading bytes (Ok ss) (Err (Ended at)) is is' =
    absurd (no_longer bytes ss is'.1.streams is'.1.rest is is'.1.whole is'.1.some)
one_reading bytes (Ok ss) (Err (Count count)) is is' = absurd (no_bad bytes [] count ss is' (whole_of bytes ss is))
one_reading bytes (Ok ss) (Err (Rest at)) is is' = absurd (no_rest bytes at ss [] is' (whole_of bytes ss is))
one_reading bytes (Err (Ended at)) (Ok ts) is is' =
    absurd (no_longer bytes ts is.1.streams is.1.rest is' is.1.whole is.1.some)
one_reading bytes (Err (Ended at)) (Err (Ended at')) is is' =
    ap (λ (n : ℕ). Err (Ended n)) (is.0 ∙ sym is'.0)
one_reading bytes (Err (Ended at)) (Err (Count count)) is is' =
    absurd (no_bad bytes is.1.rest count is.1.streams is' is.1.whole)
one_reading bytes (Err (Ended at)) (Err (Rest at')) is is' =
    absurd (no_rest bytes at' is.1.streams is.1.rest is' is.1.whole)
one_reading bytes (Err (Count count)) (Ok ts) is is' = absurd (no_bad bytes [] count ts is (whole_of bytes ts is'))
one_reading bytes (Err (Count count)) (Err (Ended at)) is is' =
    absurd (no_bad bytes is'.1.rest count is'.1.streams is is'.1.whole)
one_reading bytes (Err (Count count)) (Err (Count count')) is is' =
    ap (λ (n : ℕ). Err (Count n)) (same_count bytes count count' is is')
one_reading bytes (Err (Count count)) (Err (Rest at)) is is' =
    absurd (count_in_front bytes at count is is')
one_reading bytes (Err (Rest at)) (Ok ts) is is' = absurd (no_rest bytes at ts [] is (whole_of bytes ts is'))
one_reading bytes (Err (Rest at)) (Err (Ended at')) is is' =
    absurd (no_rest bytes at is'.1.streams is'.1.rest is is'.1.whole)
one_reading bytes (Err (Rest at)) (Err (Count count)) is is' = absurd (count_in_front bytes at count is' is)
one_reading bytes (Err (Rest at)) (Err (Rest at')) is is' =
    ap (λ (n : ℕ). Err (Rest n)) (same_rest bytes at at' is is')
