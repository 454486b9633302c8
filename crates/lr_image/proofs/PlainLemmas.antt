-- Pixels that stand one after another.
use Rattle.std.proofs.Common.{◌≡◌, ◌<◌, ◌≤◌, ◌+◌, ◌*◌, ◌^◌, ℕ, List, [], ◌∷◌, ◌++◌, length, get_or, take, drop}
use Rattle.std.proofs.Common.{replicate, subst, All, refl, sym, ap, ◌∙◌, arith, length-append}
use Rattle.std.specs.List.{flat_map}
use Rattle.std.proofs.lemmas.List.{append_assoc, append-nil, drop_all, get_or_default, length-replicate}
use Rattle.std.proofs.lemmas.List.{length-take-le, take_all, take-append-drop}
use Rattle.std.proofs.lemmas.List.Concat.{flat_map-append}
use Rattle.std.proofs.lemmas.List.Elements.{All-push, All-take}
use Rattle.std.proofs.Math.Nat.{mul-le-mul_left}
use Rattle.lr_bits.specs.Bits.{bits_of, number_bits}
use Rattle.lr_bits.proofs.ReaderLemmas.{bits_of-append, bits_of-cons, bits_of-nil, length-number_bits}
use Rattle.lr_image.specs.Plain.{BeginsWithPixels}

-- this many pixels were read of the string of bits, and these bits are left
pub record PixelsRead (bits n : ℕ) (string pixels rest : List ℕ) : Type 0 where
  pub count : length pixels ≡ n
  pub small : All (λ pixel. pixel < 2 ^ bits) pixels
  pub written : string ≡ flat_map (number_bits bits) pixels ++ rest

pub length-written : (bits : ℕ) (pixels : List ℕ) → length (flat_map (number_bits bits) pixels) ≡ bits * length pixels
length-written bits [] = omega arith
length-written bits (pixel ∷ pixels) =
    omega (
      arith,
      length-append (number_bits bits pixel) (flat_map (number_bits bits) pixels),
      length-number_bits bits pixel,
      length-written bits pixels,
    )

pub none_read : (bits : ℕ) (string : List ℕ) → PixelsRead bits 0 string [] string
none_read bits string = record { count = refl; small = λ k d inside. absurd (omega arith); written = refl }

pub pixel_more : (bits n : ℕ) (string pixels now rest : List ℕ) (pixel : ℕ) → PixelsRead bits n string pixels now
    → pixel < 2 ^ bits → now ≡ number_bits bits pixel ++ rest
    → PixelsRead bits (n + 1) string (pixels ++ pixel ∷ []) rest
pixel_more bits n string pixels now rest pixel read small next =
    let count = read.count in
    let front = flat_map (number_bits bits) pixels in
    let one : flat_map (number_bits bits) (pixels ++ pixel ∷ []) ≡ front ++ number_bits bits pixel =
    flat_map-append (number_bits bits) pixels (pixel ∷ [])
    ∙ ap (λ l. front ++ l) (append-nil (number_bits bits pixel)) in
    record {
      count = omega (arith, length-append pixels (pixel ∷ []));
      small = All-push (λ p. p < 2 ^ bits) pixels pixel read.small small;
      written = read.written ∙ ap (λ l. front ++ l) next ∙ sym (append_assoc front (number_bits bits pixel) rest)
          ∙ ap (λ l. l ++ rest) (sym one);
    }

pub pixels_begin : (bits n : ℕ) (string pixels rest : List ℕ) → PixelsRead bits n string pixels rest
    → BeginsWithPixels bits n string pixels
pixels_begin bits n string pixels rest read = record {
  count = read.count;
  small = read.small;
  rest = rest;
  written = read.written;
}

-- where enough bits are there, those of the next pixel are
pub next_is_there : (bits count n : ℕ) (string pixels rest : List ℕ) → PixelsRead bits n string pixels rest
    → n < count → bits * count ≤ length string → length rest < bits → ⊥
next_is_there bits count n string pixels rest read before enough few =
    let front = flat_map (number_bits bits) pixels in
    let parts : length string ≡ length front + length rest = ap length read.written
    ∙ length-append front rest in
    let long : length front ≡ bits * n = length-written bits pixels ∙ ap (λ k. bits * k) read.count in
    let some : bits * (n + 1) ≤ bits * count = mul-le-mul_left bits (omega arith) in
    omega arith

bits_of-bytes : (bytes : List ℕ) → bits_of bytes ≡ flat_map (number_bits 8) bytes
bits_of-bytes [] = bits_of-nil
bits_of-bytes (byte ∷ bytes) = bits_of-cons byte bytes ∙ ap (λ l. number_bits 8 byte ++ l) (bits_of-bytes bytes)

-- bytes are pixels of 8 bits
pub bytes_begin : (n : ℕ) (bytes : List ℕ) → n ≤ length bytes → ((i : ℕ) → get_or bytes i 0 < 256)
    → BeginsWithPixels 8 n (bits_of bytes) (take n bytes)
bytes_begin n bytes inside small = record {
  count = length-take-le n bytes inside;
  small = All-take (λ pixel. pixel < 2 ^ 8) n bytes
      (λ k d within. subst (λ (b : ℕ). b < 256) (get_or_default bytes k 0 d within) (small k));
  rest = bits_of (drop n bytes);
  written = ap bits_of (sym (take-append-drop n bytes)) ∙ bits_of-append (take n bytes) (drop n bytes)
      ∙ ap (λ l. l ++ bits_of (drop n bytes)) (bits_of-bytes (take n bytes));
}

-- what is written over as many pixels of 0 is what stands there
pub written_over : (count : ℕ) (zeros written all : List ℕ) → zeros ≡ replicate count 0 → length written ≡ count
    → all ≡ take (length zeros) (written ++ drop (length written) zeros) → all ≡ written
written_over count zeros written all are long is =
    let size : length zeros ≡ count = ap length are ∙ length-replicate count 0 in
    let none : drop (length written) zeros ≡ [] = drop_all (length written) zeros (omega arith) in
    is ∙ ap (λ l. take (length zeros) (written ++ l)) none ∙ ap (take (length zeros)) (append-nil written)
    ∙ take_all (length zeros) written (omega arith)
