-- Pixels whose bits stand in the same bytes are the same.
use Rattle.std.proofs.Common.{◌≡◌, ℕ, zero, suc, ◌+◌, ◌-◌, ◌*◌, ◌<◌, ◌≤◌, ◌^◌, false, Option, Some, None, List}
use Rattle.std.proofs.Common.{[], ◌∷◌, ◌++◌, length, take, drop, get_or, refl, sym, ap, ◌∙◌, subst, arith, append_assoc}
use Rattle.std.proofs.Common.{length-append, length-drop}
use Rattle.std.specs.Prelude.{is_some}
use Rattle.std.specs.List.{concat, flat_map}
use Rattle.std.proofs.Math.Nat.{mul-suc}
use Rattle.std.proofs.Math.Seq.{drop-append-add}
use Rattle.std.proofs.lemmas.List.{append-nil, drop-append-le, drop-drop, drop_at, length-take-le, take-append-drop}
use Rattle.std.proofs.lemmas.List.{take-append-le, take_at}
use Rattle.std.proofs.lemmas.List.Elements.{All-cons, All-nil}
use Rattle.lr_bits.specs.Bits.{bits_of, number_bits}
use Rattle.lr_bits.specs.File.{File, bytes_of}
use Rattle.lr_bits.proofs.BitsLemmas.{length-bits_of}
use Rattle.lr_bits.proofs.ReaderLemmas.{bits_of-append, length-number_bits}
use Rattle.lr_headers.specs.Tiling.{Header}
use Rattle.lr_headers.specs.declared.fields.Lossless.{Lossless}
use Rattle.lr_image.specs.Images.{HasPixels, data_field}
use Rattle.lr_image.specs.Plain.{BeginsWithPixels}
use Rattle.lr_image.specs.declared.shape.Shape.{Shape}
use Rattle.lr_image.proofs.OneReading.{plain_are_one}
use Rattle.lr_mend.specs.Openings.{Opening}
use Rattle.lr_laws.specs.SamePixels.{KeptPixelsAreSame}
use Rattle.lr_laws.proofs.OnlyImages.{opened_read}
use Rattle.lr_laws.proofs.SentImages.{opening_is}
use Rattle.lr_laws.proofs.StandingImages.{has_pixels, inside, same_header, same_shape}

-- ---- the bits of a pixel

window_is : (b : ℕ) (pixels rest : List ℕ) (k d : ℕ) → k < length pixels →
    take b (drop (b * k) (flat_map (number_bits b) pixels ++ rest)) ≡ number_bits b (get_or pixels k d)
window_is b [] rest k d inside = absurd (omega (arith, inside))
window_is b (x ∷ xs) rest zero d inside =
    let none : b * 0 ≡ 0 = omega arith in
    let all = append_assoc (number_bits b x) (flat_map (number_bits b) xs) rest in
    (λ i. take b (drop (none i) (all i)))
    ∙ take_at (number_bits b x) (flat_map (number_bits b) xs ++ rest) b (length-number_bits b x)
window_is b (x ∷ xs) rest (suc k) d inside =
    let place : b * suc k ≡ length (number_bits b x) + b * k = omega (arith, mul-suc b k, length-number_bits b x) in
    let all = append_assoc (number_bits b x) (flat_map (number_bits b) xs) rest in
    (λ i. take b (drop (place i) (all i)))
    ∙ ap (take b) (drop-append-add (number_bits b x) (flat_map (number_bits b) xs ++ rest) (b * k))
    ∙ window_is b xs rest k d (omega (arith, inside))

window_in : (xs ys zs : List ℕ) (place b : ℕ) → length xs ≤ place → place + b ≤ length xs + length ys →
    take b (drop place (xs ++ (ys ++ zs))) ≡ take b (drop (place - length xs) ys)
window_in xs ys zs place b after before =
    let u = place - length xs in
    let split : place ≡ length xs + u = omega (arith, after) in
    ap (λ (n : ℕ). take b (drop n (xs ++ (ys ++ zs)))) split
    ∙ ap (take b) (drop-append-add xs (ys ++ zs) u ∙ drop-append-le u ys zs (omega (arith, before, split)))
    ∙ take-append-le b (drop u ys) zs (omega (arith, before, split, length-drop u ys))

bits_drop : (s : ℕ) (bytes : List ℕ) → s ≤ length bytes → bits_of (drop s bytes) ≡ drop (8 * s) (bits_of bytes)
bits_drop s bytes within =
    let size : length (bits_of (take s bytes)) ≡ 8 * s =
    length-bits_of (take s bytes) ∙ ap (λ (n : ℕ). 8 * n) (length-take-le s bytes within) in
    sym (ap (drop (8 * s)) (ap bits_of (sym (take-append-drop s bytes)) ∙ bits_of-append (take s bytes) (drop s bytes))
    ∙ drop_at (bits_of (take s bytes)) (bits_of (drop s bytes)) (8 * s) size)

one_pixel : (b x y : ℕ) → x < 2 ^ b → y < 2 ^ b → number_bits b x ≡ number_bits b y → x ≡ y
one_pixel b x y small short same =
    let begins : (z : ℕ) → z < 2 ^ b → number_bits b x ≡ number_bits b z →
    BeginsWithPixels b 1 (number_bits b x) (z ∷ []) =
    λ z less is. record {
      count = refl;
      small = All-cons (λ pixel. pixel < 2 ^ b) z [] less (All-nil (λ pixel. pixel < 2 ^ b));
      rest = [];
      written = is ∙ sym (append-nil (number_bits b z)) ∙ sym (append-nil (number_bits b z ++ []));
    } in
    let both : x ∷ [] ≡ y ∷ [] =
    plain_are_one b 1 (number_bits b x) (x ∷ []) (y ∷ []) (begins x small refl) (begins y short same) in
    cc

-- ---- a pixel of a file

module _ (file : File) (size b n : ℕ) (pixels : List ℕ) (within : 10 + size ≤ length (bytes_of file))
    (has : BeginsWithPixels b n (bits_of (data_field file size)) pixels) (k d : ℕ) (some : k < n) where
  is_pixel : number_bits b (get_or pixels k d)
      ≡ take b (drop (8 * (10 + size) + b * k) (bits_of (bytes_of file)))
  is_pixel =
      let field : bits_of (data_field file size) ≡ drop (8 * (10 + size)) (bits_of (bytes_of file)) =
      ap bits_of (drop-drop size 10 (bytes_of file)) ∙ bits_drop (10 + size) (bytes_of file) within in
      sym (ap (λ (l : List ℕ). take b (drop (b * k) l)) (sym field ∙ has.written)
      ∙ window_is b pixels has.rest k d (omega (arith, some, has.count)))
      ∙ ap (take b) (drop-drop (b * k) (8 * (10 + size)) (bits_of (bytes_of file)))

  kept_pixel : (kept before after : List ℕ) → bytes_of file ≡ before ++ (kept ++ after) →
      8 * length before ≤ 8 * (10 + size) + b * k →
      8 * (10 + size) + b * k + b ≤ 8 * (length before + length kept) →
      number_bits b (get_or pixels k d)
      ≡ take b (drop (8 * (10 + size) + b * k - 8 * length before) (bits_of kept))
  kept_pixel kept before after is above below =
      let bits : bits_of (bytes_of file) ≡ bits_of before ++ (bits_of kept ++ bits_of after) =
      ap bits_of is ∙ bits_of-append before (kept ++ after)
      ∙ ap (λ (l : List ℕ). bits_of before ++ l) (bits_of-append kept after) in
      let front = length-bits_of before in
      let middle = length-bits_of kept in
      is_pixel ∙ ap (λ (l : List ℕ). take b (drop (8 * (10 + size) + b * k) l)) bits
      ∙ window_in (bits_of before) (bits_of kept) (bits_of after) (8 * (10 + size) + b * k) b
      (omega (arith, above, front))
      (omega (arith, below, front, middle))
      ∙ ap (λ (m : ℕ). take b (drop (8 * (10 + size) + b * k - m) (bits_of kept))) front

-- ---- two files

is_plain : (lossless : Option Lossless) → is_some lossless ≡ false → lossless ≡ None
is_plain None e = refl
is_plain (Some l) e = absurd (cc e)

pub kept_pixels : KeptPixelsAreSame
kept_pixels sent mended picture other image same opening first bodies others split splits opens plain kept before after
    front back is are level k d some above below =
    let read = opened_read first opening opens in
    let h = length read.header.bytes in
    let b = read.shape.structure.bits in
    let none : read.shape.lossless ≡ None =
    is_plain read.shape.lossless (sym (ap (λ (o : Opening). o.coded) (opening_is first opening read opens)) ∙ plain) in
    let n = read.shape.structure.columns * read.shape.structure.lines in
    let has : BeginsWithPixels b n (bits_of (data_field sent h)) picture.pixels =
    subst (λ (o : Option Lossless). HasPixels sent h read.shape.structure o picture.pixels) none
    (has_pixels sent first bodies split read picture image) in
    let had : BeginsWithPixels b n (bits_of (data_field mended h)) other.pixels =
    subst (λ (o : Option Lossless). HasPixels mended h read.shape.structure o other.pixels) none
    (has_pixels mended first others splits read other same) in
    let shape = same_shape sent first bodies split read picture image in
    let bits : picture.bits ≡ b = image.bits ∙ ap (λ (s : Shape). s.structure.bits) shape in
    let columns : picture.columns ≡ read.shape.structure.columns =
    image.columns ∙ ap (λ (s : Shape). s.structure.columns) shape in
    let lines : picture.lines ≡ read.shape.structure.lines =
    image.lines ∙ ap (λ (s : Shape). s.structure.lines) shape in
    let size : image.layout.header_bytes ≡ h =
    image.has_layout.is_size
    ∙ ap (λ (header : Header). length header.bytes) (same_header sent first bodies split read picture image) in
    let few : k < n = subst (λ (m : ℕ). k < m) (λ i. columns i * lines i) some in
    let place : (j : ℕ) → 8 * (10 + image.layout.header_bytes) + picture.bits * j ≡ 8 * (10 + h) + b * j =
    λ j i. 8 * (10 + size i) + bits i * j in
    let next : b * (k + 1) ≡ b * k + b = ap (λ (m : ℕ). b * m) (let e : k + 1 ≡ suc k = omega arith in e)
    ∙ mul-suc b k in
    let low : 8 * length before ≤ 8 * (10 + h) + b * k = omega (arith, above, place k) in
    let high : 8 * (10 + h) + b * k + b ≤ 8 * (length before + length kept) =
    omega (arith, below, place (k + 1), next) in
    let in_first = inside sent first bodies split read in
    let sent_long : 10 + h ≤ length (bytes_of sent) =
    omega (
      arith,
      in_first,
      ap (λ (l : List (List ℕ)). length (concat l)) split,
      length-append first (concat bodies),
    ) in
    let mended_long : 10 + h ≤ length (bytes_of mended) =
    omega (
      arith,
      in_first,
      ap (λ (l : List (List ℕ)). length (concat l)) splits,
      length-append first (concat others),
    ) in
    let one = kept_pixel sent h b n picture.pixels sent_long has k d few kept before after is low high in
    let two = kept_pixel mended h b n other.pixels mended_long had k d few kept front back are
    (omega (arith, low, level)) (omega (arith, high, level)) in
    one_pixel b (get_or other.pixels k d) (get_or picture.pixels k d) (had.small k d (omega (arith, few, had.count)))
    (has.small k d (omega (arith, few, has.count)))
    (two ∙ ap (λ (m : ℕ). take b (drop (8 * (10 + h) + b * k - 8 * m) (bits_of kept))) level ∙ sym one)
