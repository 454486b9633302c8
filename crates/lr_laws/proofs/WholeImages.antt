-- An image whose end fillers make has all its pixels, where its lines aren't coded.
use Rattle.std.proofs.Common.{◌≡◌, ℕ, zero, suc, ◌+◌, ◌-◌, ◌*◌, ◌/◌, ◌%◌, ◌<◌, ◌≤◌, Bool, true, false, cond, eqb, leb}
use Rattle.std.proofs.Common.{ltb, ◌&&◌}
use Rattle.std.proofs.Common.{Option, Some, None, List, [], ◌∷◌, ◌++◌, length, map, drop, refl, sym, ap, ◌∙◌}
use Rattle.std.proofs.Common.{subst}
use Rattle.std.proofs.Common.{arith, length-drop, Result, Ok, Err, inl, inr, max, min}
use Rattle.std.specs.Prelude.{find}
use Rattle.std.specs.List.{concat}
use Rattle.std.specs.Option.{option_map}
use Rattle.std.proofs.lemmas.Bool.Decides.{nat_tests}
use Rattle.std.proofs.lemmas.List.{drop-append-le}
use Rattle.std.proofs.lemmas.Nat.{le-div}
use Rattle.std.proofs.Math.Nat.{div-add-mod', mod-lt, mul_comm}
use Rattle.std.specs.Prelude.{replicate}
use Rattle.std.proofs.lemmas.List.{length-replicate}
use Rattle.lr_packet.specs.Verdict.{Good}
use Rattle.lr_bits.specs.File.{File, bytes_of, proper_of}
use Rattle.lr_file.specs.Files.{file_at, file_from, is_file, last_stretches, packets_of_key, size_of}
use Rattle.lr_file.specs.Standing.{open_from}
use Rattle.lr_file.specs.Steps.{is_next}
use Rattle.lr_file.proofs.Histories.{packets_of_key-own}
use Rattle.lr_file.proofs.Stretches.{and_left, is_file-one, longer}
use Rattle.lr_mend.specs.Mending.{Filling, Image, begins_file, can_fill, filler_body, fillers_before}
use Rattle.lr_mend.specs.Mending.{filling_of, gap_before, image_with}
use Rattle.lr_mend.specs.Mending.{continued_image, goes_on as goes_on_with, image_begun_by, filler_units}
use Rattle.lr_mend.proofs.Fillers.{fillers_before-not}
use Rattle.lr_mend.proofs.StayingFiles.{heard}
use Rattle.lr_headers.proofs.Readings.{headers_are_read}
use Rattle.lr_mend.proofs.StayingFiles.{ends, file_stretch-end, open_stretch}
use Rattle.std.specs.Prelude.{is_some}
use Rattle.lr_headers.specs.Headers.{header_of}
use Rattle.lr_headers.specs.Tiling.{Header, IsHeaderOf}
use Rattle.lr_headers.specs.declared.fields.Lossless.{Lossless}
use Rattle.lr_image.specs.Shapes.{shape_of}
use Rattle.lr_image.specs.declared.fault.ImageFault.{ImageFault}
use Rattle.lr_image.specs.declared.shape.Shape.{Shape}
use Rattle.lr_mend.specs.Openings.{Opening, opening_from, units_in, units_of_image}
use Rattle.lr_laws.proofs.SinceBeginning.{filler_begins_none, since-own, size_of-append, size_of-one}
use Rattle.lr_laws.proofs.LongerHeaders.{header_inside, is_long}
use Rattle.lr_laws.proofs.LongerHeaders.{header_longer}
use Rattle.lr_laws.proofs.MarkedHeaders.{of_header}
use Rattle.lr_image.specs.Shapes.{IsShapeOf, IsSize}
use Rattle.lr_image.specs.Images.{HasImageFault, HasOutcome, IsImageOf, LacksPixels, data_field}
use Rattle.lr_image.specs.Picture.{Picture}
use Rattle.lr_image.specs.Plain.{whole_pixels}
use Rattle.lr_image.proofs.EachFile.{files_have_outcomes}
use Rattle.lr_image.proofs.ShapeLemmas.{shape_sound}
use Rattle.lr_headers.proofs.Tilings.{headers_are_one, headers_have_no_fault}
use Rattle.lr_mend.specs.Laws.{packet_mended}
use Rattle.lr_mend.specs.Mending.{is_over, missing_before, needed_before}
use Rattle.std.proofs.lemmas.Bool.{leb-true}
use Rattle.lr_mend.specs.Mending.{Mended}
use Rattle.lr_laws.specs.SentImages.{since_beginning as since}
use Rattle.lr_laws.proofs.FirstPackets.{Grows, grows, latest}

-- ---- how many bytes an image needs

-- its first body has the header of one whose lines aren't coded, and it needs `need` bytes
pub record HasNeed (body : List ℕ) (need : ℕ) : Type 0 where
  pub header : Header
  pub is_header : header_of (drop 10 body) ≡ Ok header
  pub shape : Shape
  pub is_shape : shape_of header ≡ Ok shape
  pub plain : shape.lossless ≡ None
  pub need_is : need ≡ 10 + length header.bytes + units_of_image shape.structure None

-- what an opening says of that
record Accounts (body : List ℕ) (wanted : ℕ) : Type 0 where
  need : ℕ
  has : HasNeed body need
  enough : need ≤ length body + wanted

by_lossless : (body : List ℕ) (header : Header) (shape : Shape) (opening : Opening) → IsHeaderOf (drop 10 body) header →
    header_of (drop 10 body) ≡ Ok header → shape_of header ≡ Ok shape →
    opening ≡ opening_from shape (drop (length header.bytes) (drop 10 body)) → opening.coded ≡ false →
    (lossless : Option Lossless) → shape.lossless ≡ lossless → Accounts body opening.wanted
by_lossless body header shape opening is read same from plain None e =
    let rest = drop (length header.bytes) (drop 10 body) in
    let units = units_of_image shape.structure None in
    let wanted : opening.wanted ≡ units - length rest =
    ap (λ (o : Opening). o.wanted) from
    ∙ (λ i. units_of_image shape.structure (e i) - units_in (is_some (e i)) rest) in
    let inside = header_inside (drop 10 body) header is in
    let long = is_long (drop 10 body) header is in
    record {
      need = 10 + length header.bytes + units;
      has = record {
        header = header;
        is_header = read;
        shape = shape;
        is_shape = same;
        plain = e;
        need_is = refl;
      };
      enough = omega (
        arith,
        wanted,
        inside,
        long,
        length-drop (length header.bytes) (drop 10 body),
        length-drop 10 body,
      );
    }
by_lossless body header shape opening is read same from plain (Some l) e =
    let coded : opening.coded ≡ true =
    ap (λ (o : Opening). o.coded) from ∙ ap (λ (o : Option Lossless). is_some o) e in
    let never : true ≡ false = sym coded ∙ plain in
    absurd (cc never)

-- ---- what an open image has, and what it still wants

-- how many bytes the fillers before a packet have
body_length : (image : Image) (p : Good) → image.coded ≡ false →
    length (filler_body image p) ≡ length (filling_of image p)
body_length image p plain =
    ap (λ (b : Bool). length (cond b (filling_of image p) (replicate (length (filling_of image p)) 0))) plain
    ∙ length-replicate (length (filling_of image p)) 0

unit_is : (image : Image) (p : Good) → image.coded ≡ false → filler_units image p ≡ max 1 (length (filling_of image p))
unit_is image p plain = ap (λ (b : Bool). max 1 (units_in b (filling_of image p))) plain

pub some_filling : (most : ℕ) (image : Image) (p : Good) (k : ℕ) → fillers_before most image p ≡ suc k →
    0 < length (filling_of image p)
unfolding can_fill
some_filling most image p k many = by_can (can_fill image p) refl
  where
    by_can : (b : Bool) → can_fill image p ≡ b → 0 < length (filling_of image p)
    by_can true can =
        let some = and_left (ltb 0 (length (filling_of image p))) _ can in grind (arith, nat_tests, some)
    by_can false can = absurd (omega (arith, many, fillers_before-not most image p can))

pub units_same : (most : ℕ) (image : Image) (p : Good) → image.coded ≡ false → (n : ℕ) →
    fillers_before most image p ≡ n →
    filler_units image p * n ≡ n * length (filler_body image p)
units_same most image p plain zero none = omega arith
units_same most image p plain (suc k) many =
    let some = some_filling most image p k many in
    let unit : filler_units image p ≡ length (filler_body image p) =
    unit_is image p plain
    ∙ (let e : max 1 (length (filling_of image p)) ≡ length (filling_of image p) = omega (arith, some) in e)
    ∙ sym (body_length image p plain) in
    ap (λ u. u * suc k) unit ∙ mul_comm (length (filler_body image p)) (suc k)

-- ---- one packet more

pub begins_with : (p : Good) (image : Image) (k : Bool) (o : Option Opening) →
    cond k (option_map (image_begun_by p) o) None ≡ Some image →
    (opening : Opening) × ((o ≡ Some opening) × (image ≡ image_begun_by p opening))
begins_with p image true None e = cc
begins_with p image true (Some opening) e = (opening, (refl, (let h : image ≡ image_begun_by p opening = cc in h)))
begins_with p image false o e = cc

goes_with : (p : Good) (old image : Image) (n : ℕ) (k : Bool) → cond k (Some (image_with old n p)) None ≡ Some image →
    image ≡ image_with old n p
goes_with p old image n true e = let h : image ≡ image_with old n p = cc in h
goes_with p old image n false e = cc

pub continued : (most : ℕ) (p : Good) (o : Option Image) (image : Image) → continued_image most o p ≡ Some image →
    (old : Image) × ((o ≡ Some old) × (image ≡ image_with old (fillers_before most old p) p))
continued most p None image e = cc
continued most p (Some old) image e =
    (old, (refl, goes_with p old image (fillers_before most old p) (goes_on_with most old p) e))

-- of the packet's own key
module _ (most : ℕ) (packets : List Good) (p : Good) where
  abbrev stretch : List Good
  stretch = since p.vc p.apid (heard most packets ++ gap_before most packets p)

-- ---- a file with as many bytes has the image

bits_in : (x n : ℕ) → (x + 7) / 8 ≤ n → x ≤ 8 * n
bits_in x n h =
    let parts : (x + 7) / 8 * 8 + (x + 7) % 8 ≡ x + 7 = div-add-mod' (x + 7) 8 in
    let less : (x + 7) % 8 < 8 = mod-lt (x + 7) (let e : 0 < 8 = omega arith in e) in
    omega (arith, h, parts, less)

module _ (file : File) (need : ℕ) (first : List ℕ) (rest : List (List ℕ)) (split : file.bodies ≡ first ∷ rest)
    (has : HasNeed first need) (enough : need ≤ length (bytes_of file)) where
  first_has : IsHeaderOf (drop 10 first) has.header
  first_has =
      of_header (drop 10 first) has.header (header_of (drop 10 first)) has.is_header (headers_are_read (drop 10 first))

  proper_is : drop 10 first ++ concat rest ≡ proper_of file
  proper_is =
      let long = is_long (drop 10 first) has.header first_has in
      sym (drop-append-le 10 first (concat rest) (omega (arith, long, length-drop 10 first)))
      ∙ ap (λ (bodies : List (List ℕ)). drop 10 (concat bodies)) (sym split)

  file_has : IsHeaderOf (proper_of file) has.header
  file_has =
      subst (λ (proper : List ℕ). IsHeaderOf proper has.header) proper_is
      (header_longer (drop 10 first) has.header first_has (concat rest))

  abbrev shape : Shape
  shape = has.shape

  abbrev pixels : ℕ
  pixels = shape.structure.columns * shape.structure.lines

  size_sound : IsSize 1 shape.structure
  size_sound = by_plain shape.lossless has.plain (shape_sound has.header shape has.is_shape)
    where
      by_plain : (lossless : Option Lossless) → lossless ≡ None → IsShapeOf shape.structure lossless →
          IsSize 1 shape.structure
      by_plain None e is = is
      by_plain (Some l) e is = cc

  field_long : units_of_image shape.structure None ≤ length (data_field file (length has.header.bytes))
  field_long =
      omega (
        arith,
        enough,
        has.need_is,
        length-drop (length has.header.bytes) (proper_of file),
        length-drop 10 (bytes_of file),
      )

  whole : pixels ≤ whole_pixels shape.structure.bits (data_field file (length has.header.bytes))
  whole =
      let bits = shape.structure.bits in
      let field = length (data_field file (length has.header.bytes)) in
      let enough_bits : bits * pixels ≤ 8 * field = bits_in (bits * pixels) field field_long in
      le-div pixels (8 * field) bits (omega (arith, size_sound.least_bits))
      (subst (λ (n : ℕ). n ≤ 8 * field) (mul_comm bits pixels) enough_bits)

  same_header : (header : Header) → IsHeaderOf (proper_of file) header → header ≡ has.header
  same_header header is = headers_are_one (proper_of file) header has.header is file_has

  no_lack : (fault : ImageFault) →
      LacksPixels file (length has.header.bytes) shape.structure shape.lossless fault → ⊥
  no_lack fault lacks =
      let fails = subst (λ (l : Option Lossless).
      LacksPixels file (length has.header.bytes) shape.structure l fault) has.plain lacks in
      absurd (omega (arith, fails.few, whole))

  no_fault_of : (fault : ImageFault) → HasImageFault file fault → ⊥
  no_fault_of fault (inl (inl none)) =
      headers_have_no_fault (proper_of file) has.header none.cause file_has none.fails
  no_fault_of fault (inl (inr none)) =
      let same = same_header none.header none.is_header in
      let never : Err fault ≡ Ok shape = sym none.fails ∙ ap shape_of same ∙ has.is_shape in
      absurd (cc never)
  no_fault_of fault (inr none) =
      let same = same_header none.has_layout.header none.has_layout.is_header in
      let shapes : Ok none.layout.shape ≡ Ok shape =
      sym none.has_layout.is_shape ∙ ap shape_of same ∙ has.is_shape in
      let shape_same : none.layout.shape ≡ shape = cc in
      let size = none.has_layout.is_size ∙ ap (λ (h : Header). length h.bytes) same in
      let lacks = subst (λ (s : Shape).
      LacksPixels file none.layout.header_bytes s.structure s.lossless fault) shape_same none.lacks in
      no_lack fault (subst (λ (n : ℕ). LacksPixels file n shape.structure shape.lossless fault) size lacks)

  pub has_image : (picture : Picture) × IsImageOf file picture
  has_image = by_outcome (files_have_outcomes file).0 (files_have_outcomes file).1
    where
      by_outcome : (outcome : Result Picture ImageFault) → HasOutcome file outcome →
          (picture : Picture) × IsImageOf file picture
      by_outcome (Ok picture) is = (picture, is)
      by_outcome (Err fault) is = absurd (no_fault_of fault is)

-- ---- the files that fillers end

-- a packet with other flags than 2 or 3 ends no file
pub ending_flags : (ps : List Good) (p : Good) (file : File) → p.flags ≡ 0 → file_at ps p ≡ Some file → ⊥
unfolding file_at Grows
ending_flags ps p file none e =
    let qs = packets_of_key p.vc p.apid ps in
    let found = sym (ap (λ l. option_map (file_from p.vc p.apid) (find is_file (last_stretches l)))
    (packets_of_key-own ps p)
    ∙ ap (option_map (file_from p.vc p.apid)) (file_stretch-end qs p)) ∙ e in
    by_stretch (longer (ends p) p (is_file (p ∷ [])) (open_stretch qs)) found
    (λ s is. elim (grows (ends p) p (is_file (p ∷ [])) (open_stretch qs) s is) as (λ _. ⊥) [
      | inl alone ↦
          let three = and_left (eqb p.flags 3) _ (and_left _ _ (sym (is_file-one p) ∙ alone.0)) in
          other 3 three (omega arith)
      | inr on ↦
          let two = and_left (eqb p.flags 2) (is_next (open_from on.0) p) (and_left _ _ on.1.1.0) in
          other 2 two (omega arith)
    ])
  where
    other : (k : ℕ) → eqb p.flags k ≡ true → 0 < k → ⊥
    other k is some = let same : p.flags ≡ k = grind (arith, nat_tests, is) in absurd (omega (arith, same, none, some))

    by_stretch : (o : Option (List Good)) → option_map (file_from p.vc p.apid) o ≡ Some file →
        ((s : List Good) → o ≡ Some s → ⊥) → ⊥
    by_stretch None e' none_of = absurd (cc e')
    by_stretch (Some s) e' none_of = none_of s refl

same_begin : (o : Option Good) (a b : Good) → o ≡ Some a → o ≡ Some b → b ≡ a
same_begin o a b e f = let h : Some b ≡ Some a = sym f ∙ e in cc

-- all fillers of a gap
module _ (filling : Filling) (begin : Good) (need : ℕ) (has : HasNeed begin.body need) where
  abbrev Enough : ℕ → List Good → Type 0
  Enough n ps = filling.ends ≡ true → need ≤ size_of (since filling.vc filling.apid ps) + n * length filling.body

  -- one of them
  module _ (n count : ℕ) (before : List Mended)
      (is : latest filling.vc filling.apid (map packet_mended before) ≡ Some begin)
      (enough : Enough (suc n) (map packet_mended before)) where
    abbrev first : Good
    first = record {
      vc = filling.vc;
      apid = filling.apid;
      flags = cond (filling.ends && eqb n 0) 2 0;
      count = count;
      body = filling.body;
    }

    abbrev ps : List Good
    ps = map packet_mended before

    first_none : begins_file first ≡ false
    first_none = filler_begins_none (filling.ends && eqb n 0)

    now_size : size_of (since filling.vc filling.apid (ps ++ first ∷ []))
        ≡ size_of (since filling.vc filling.apid ps) + length filling.body
    now_size =
        let old = since filling.vc filling.apid ps in
        ap size_of (since-own ps first ∙ ap (λ (b : Bool). cond b (first ∷ []) (old ++ first ∷ [])) first_none)
        ∙ size_of-append old (first ∷ []) ∙ ap (λ k. size_of old + k) (size_of-one first)

-- ---- the gap of an image that is over

if_many : (b : Bool) (m k : ℕ) → cond b m 0 ≡ suc k → cond b m 0 ≡ m
if_many true m k e = refl
if_many false m k e = absurd (omega (arith, e))

-- where fillers come of an image that is over, they are as many as it needs
pub number_is : (most : ℕ) (image : Image) (p : Good) (k : ℕ) → fillers_before most image p ≡ suc k →
    is_over image p ≡ true → fillers_before most image p ≡ needed_before image p
unfolding fillers_before
number_is most image p k many over =
    let few : needed_before image p ≤ missing_before image p = leb-true _ _ over in
    if_many (can_fill image p && leb (image.fillers + min (missing_before image p) (needed_before image p)) most)
    (min (missing_before image p) (needed_before image p)) k many
    ∙ (let e : min (missing_before image p) (needed_before image p) ≡ needed_before image p = omega (arith, few) in e)
