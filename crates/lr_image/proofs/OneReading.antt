-- A file has one image, or one first fault.
use Rattle.std.proofs.Common.{◌≡◌, inl, inr, ◌<◌, ◌≤◌, ◌+◌, ◌-◌, ◌*◌, ◌/◌, ◌^◌, min, ℕ, List, [], ◌∷◌, ◌++◌, length}
use Rattle.std.proofs.Common.{Option, Some, None, Result, Ok, Err, refl, sym, ap, ◌∙◌, subst, arith}
use Rattle.std.proofs.Common.{length-append, pow_pos}
use Rattle.std.specs.List.{flat_map}
use Rattle.std.proofs.Math.Nat.{mul-le-mul_left}
use Rattle.lr_bits.specs.Bits.{bits_of, number_bits}
use Rattle.lr_bits.specs.File.{File, proper_of}
use Rattle.lr_bits.proofs.BitsLemmas.{length-bits_of}
use Rattle.lr_headers.specs.declared.fields.Structure.{Structure}
use Rattle.lr_headers.specs.declared.fields.Lossless.{Lossless}
use Rattle.lr_headers.specs.Tiling.{Header}
use Rattle.lr_headers.proofs.Tilings.{headers_are_one, headers_have_no_fault, header_faults_are_one}
use Rattle.lr_rice.specs.declared.fault.Cause.{Cause}
use Rattle.lr_rice.specs.CodedLines.{Form}
use Rattle.lr_rice.specs.Laws.{IsForm}
use Rattle.lr_rice.proofs.Reading.{take_numbers, take_numbers-is}
use Rattle.lr_rice.proofs.ReadingLines.{lines_are_one, lines_have_no_fault, faults_are_one}
use Rattle.lr_image.specs.declared.fault.ImageFault.{ImageFault}
use Rattle.lr_image.specs.declared.layout.Layout.{Layout}
use Rattle.lr_image.specs.declared.shape.Shape.{Shape}
use Rattle.lr_image.specs.Laws.{OutcomesAreOne}
use Rattle.lr_image.specs.Picture.{Picture}
use Rattle.lr_image.specs.Pieces.{GiveLines, PieceSite, PiecesFail, first_site, next_site}
use Rattle.lr_image.specs.Plain.{BeginsWithPixels, PixelsFail}
use Rattle.lr_image.specs.Images.{HasImageFault, HasLayout, HasNoHeader, HasNoLayout, HasNoPixels, HasNoShape}
use Rattle.lr_image.specs.Images.{HasPixels, IsImageOf, LacksPixels, data_field, data_pieces, line_form}
use Rattle.lr_image.specs.Shapes.{IsShapeOf, shape_of}
use Rattle.lr_image.proofs.PlainLemmas.{length-written}
use Rattle.lr_image.proofs.ShapeLemmas.{shape_sound}
use Rattle.lr_image.proofs.WholePixels.{form_is}

-- ---- pixels that stand one after another

abbrev values_in : Result (List ℕ × List ℕ) Cause → List ℕ
values_in (Ok read) = read.0
values_in (Err cause) = []

pub plain_are_one : (bits n : ℕ) (string pixels others : List ℕ) → BeginsWithPixels bits n string pixels
    → BeginsWithPixels bits n string others → pixels ≡ others
plain_are_one bits n string pixels others a b =
    let power : 0 < 2 ^ bits = pow_pos bits in
    let first : take_numbers bits (length pixels) (flat_map (number_bits bits) pixels ++ a.rest) ≡ Ok (pixels, a.rest) =
    take_numbers-is bits pixels a.rest (λ j inside. omega (arith, a.small j 0 inside)) in
    let second : take_numbers bits (length others) (flat_map (number_bits bits) others ++ b.rest) ≡ Ok
    (others, b.rest) =
    take_numbers-is bits others b.rest (λ j inside. omega (arith, b.small j 0 inside)) in
    let one : take_numbers bits n string ≡ Ok (pixels, a.rest) = rw (← a.count, a.written) first in
    let two : take_numbers bits n string ≡ Ok (others, b.rest) = rw (← b.count, b.written) second in
    ap values_in (sym one ∙ two)

plain_lacks_none : (bits n : ℕ) (bytes pixels : List ℕ) (fault : ImageFault) → 1 ≤ bits
    → BeginsWithPixels bits n (bits_of bytes) pixels → PixelsFail bits n bytes fault → ⊥
plain_lacks_none bits n bytes pixels fault some has fail =
    let front = flat_map (number_bits bits) pixels in
    let size : 8 * length bytes ≡ length front + length has.rest =
    sym (length-bits_of bytes) ∙ ap length has.written ∙ length-append front has.rest in
    let long : length front ≡ bits * n = length-written bits pixels ∙ ap (λ k. bits * k) has.count in
    let few = fail.few in
    let step : bits * (8 * length bytes / bits + 1) ≤ bits * n = mul-le-mul_left bits (omega arith) in
    let rest : 8 * length bytes < bits * (8 * length bytes / bits) + bits = omega arith in
    omega arith

-- ---- pixels that are coded without loss

lines_are : (form : Form) (each wanted : ℕ) (pieces : List (List ℕ)) (samples others : List ℕ) → IsForm form
    → GiveLines form each wanted pieces samples → GiveLines form each wanted pieces others → samples ≡ others
lines_are form each wanted [] samples others is a b = a.1 ∙ sym b.1
lines_are form each wanted (piece ∷ pieces) samples others is a b =
    let front = lines_are_one form is (min each wanted) a.front b.front a.begins.coding b.begins.coding a.begins.rest
    b.begins.rest a.begins.lines b.begins.lines (sym a.begins.is_string ∙ b.begins.is_string) in
    let back = lines_are form each (wanted - each) pieces a.back b.back is a.others b.others in
    a.are_samples ∙ ap (λ (l : List ℕ). l ++ a.back) front.0 ∙ ap (λ (l : List ℕ). b.front ++ l) back
    ∙ sym b.are_samples

lines_lack_none : (form : Form) (each : ℕ) (at : PieceSite) (pieces : List (List ℕ)) (samples : List ℕ)
    (fault : ImageFault) → IsForm form → GiveLines form each at.wanted pieces samples
    → PiecesFail form each at pieces fault → ⊥
lines_lack_none form each at [] samples fault is a b =
    let no_line = a.0 in
    let some = b.some in
    omega arith
lines_lack_none form each at (piece ∷ pieces) samples fault is a (inl b) =
    lines_have_no_fault form is (min each at.wanted) a.front (bits_of piece) b.rice a.begins b.fails
lines_lack_none form each at (piece ∷ pieces) samples fault is a (inr b) =
    lines_lack_none form each (next_site each at) pieces a.back fault is a.others b.later

pieces_fail_once : (form : Form) (each : ℕ) (at : PieceSite) (pieces : List (List ℕ)) (fault other : ImageFault)
    → IsForm form → PiecesFail form each at pieces fault → PiecesFail form each at pieces other → fault ≡ other
pieces_fail_once form each at [] fault other is a b = a.is_fault ∙ sym b.is_fault
pieces_fail_once form each at (piece ∷ pieces) fault other is (inl a) (inl b) =
    let same = faults_are_one form is (min each at.wanted) (bits_of piece) a.rice b.rice a.fails b.fails in
    let first = a.is_fault in
    let second = b.is_fault in
    cc
pieces_fail_once form each at (piece ∷ pieces) fault other is (inl a) (inr b) =
    absurd (lines_have_no_fault form is (min each at.wanted) b.front (bits_of piece) a.rice b.begins a.fails)
pieces_fail_once form each at (piece ∷ pieces) fault other is (inr a) (inl b) =
    absurd (lines_have_no_fault form is (min each at.wanted) a.front (bits_of piece) b.rice a.begins b.fails)
pieces_fail_once form each at (piece ∷ pieces) fault other is (inr a) (inr b) =
    pieces_fail_once form each (next_site each at) pieces fault other is a.later b.later

-- ---- both

pixels_are_one : (file : File) (size : ℕ) (s : Structure) (lossless : Option Lossless) (pixels others : List ℕ)
    → IsShapeOf s lossless → HasPixels file size s lossless pixels → HasPixels file size s lossless others
    → pixels ≡ others
pixels_are_one file size s None pixels others is a b =
    plain_are_one s.bits (s.columns * s.lines) (bits_of (data_field file size)) pixels others a b
pixels_are_one file size s (Some l) pixels others is a b =
    lines_are (line_form s l) l.lines s.lines (data_pieces file size) pixels others (form_is s l is.0 is.1) a b

pixels_lack_none : (file : File) (size : ℕ) (s : Structure) (lossless : Option Lossless) (pixels : List ℕ)
    (fault : ImageFault) → IsShapeOf s lossless → HasPixels file size s lossless pixels
    → LacksPixels file size s lossless fault → ⊥
pixels_lack_none file size s None pixels fault is a b =
    plain_lacks_none s.bits (s.columns * s.lines) (data_field file size) pixels fault is.least_bits a b
pixels_lack_none file size s (Some l) pixels fault is a b =
    lines_lack_none (line_form s l) l.lines (first_site s.lines) (data_pieces file size) pixels fault
    (form_is s l is.0 is.1) a b

lacks_once : (file : File) (size : ℕ) (s : Structure) (lossless : Option Lossless) (fault other : ImageFault)
    → IsShapeOf s lossless → LacksPixels file size s lossless fault → LacksPixels file size s lossless other
    → fault ≡ other
lacks_once file size s None fault other is a b = a.is_fault ∙ sym b.is_fault
lacks_once file size s (Some l) fault other is a b =
    pieces_fail_once (line_form s l) l.lines (first_site s.lines) (data_pieces file size) fault other
    (form_is s l is.0 is.1) a b

-- ---- images

picture_from : {a b c p q r : ℕ} {xs ys : List ℕ} → a ≡ p → b ≡ q → c ≡ r → xs ≡ ys
    → ◌≡◌ {A = Picture} (record { bits = a; columns = b; lines = c; pixels = xs })
    (record { bits = p; columns = q; lines = r; pixels = ys })
picture_from e f g h = rw (e, f, g, h) refl

layout_from : {m n : ℕ} {s t : Shape} → m ≡ n → s ≡ t
    → ◌≡◌ {A = Layout} (record { header_bytes = m; shape = s }) (record { header_bytes = n; shape = t })
layout_from e f = rw (e, f) refl

layouts_are_one : (file : File) (one other : Layout) → HasLayout file one → HasLayout file other → one ≡ other
layouts_are_one file one other a b =
    let header : a.header ≡ b.header = headers_are_one (proper_of file) a.header b.header a.is_header b.is_header in
    let again : shape_of a.header ≡ Ok other.shape = subst (λ (h : Header). shape_of h ≡ Ok other.shape)
    (sym header) b.is_shape in
    let first = a.is_shape in
    let shape : one.shape ≡ other.shape = cc in
    layout_from (a.is_size ∙ ap (λ (h : Header). length h.bytes) header ∙ sym b.is_size) shape

images_are_one : (file : File) (picture other : Picture) → IsImageOf file picture → IsImageOf file other
    → picture ≡ other
images_are_one file picture other a b =
    let same : a.layout ≡ b.layout = layouts_are_one file a.layout b.layout a.has_layout b.has_layout in
    let one = a.layout in
    let s = one.shape.structure in
    let pixels : HasPixels file one.header_bytes s one.shape.lossless other.pixels =
    subst (λ (l : Layout). HasPixels file l.header_bytes l.shape.structure l.shape.lossless other.pixels)
    (sym same) b.pixels in
    picture_from (a.bits ∙ ap (λ (l : Layout). l.shape.structure.bits) same ∙ sym b.bits)
    (a.columns ∙ ap (λ (l : Layout). l.shape.structure.columns) same ∙ sym b.columns)
    (a.lines ∙ ap (λ (l : Layout). l.shape.structure.lines) same ∙ sym b.lines)
    (pixels_are_one file one.header_bytes s one.shape.lossless picture.pixels other.pixels
    (shape_sound a.has_layout.header one.shape a.has_layout.is_shape) a.pixels pixels)

-- a header that is an image's has no fault of its own
no_layout_fault : (file : File) (layout : Layout) (fault : ImageFault) → HasLayout file layout
    → HasNoLayout file fault → ⊥
no_layout_fault file layout fault a (inl b) =
    headers_have_no_fault (proper_of file) a.header b.cause a.is_header b.fails
no_layout_fault file layout fault a (inr b) =
    let header : b.header ≡ a.header = headers_are_one (proper_of file) b.header a.header b.is_header a.is_header in
    let wrong : shape_of a.header ≡ Err fault = subst (λ (h : Header). shape_of h ≡ Err fault) header b.fails in
    let first = a.is_shape in
    cc

no_fault : (file : File) (picture : Picture) (fault : ImageFault) → IsImageOf file picture
    → HasImageFault file fault → ⊥
no_fault file picture fault a (inl b) = no_layout_fault file a.layout fault a.has_layout b
no_fault file picture fault a (inr b) =
    let same : b.layout ≡ a.layout = layouts_are_one file b.layout a.layout b.has_layout a.has_layout in
    let one = a.layout in
    pixels_lack_none file one.header_bytes one.shape.structure one.shape.lossless picture.pixels fault
    (shape_sound a.has_layout.header one.shape a.has_layout.is_shape) a.pixels
    (subst (λ (l : Layout). LacksPixels file l.header_bytes l.shape.structure l.shape.lossless fault) same b.lacks)

headers_fail_once : (file : File) (fault other : ImageFault) → HasNoHeader file fault → HasNoHeader file other
    → fault ≡ other
headers_fail_once file fault other a b =
    let same = header_faults_are_one (proper_of file) a.cause b.cause a.fails b.fails in
    let first = a.is_fault in
    let second = b.is_fault in
    cc

-- two faults of a header that is there
shapes_fail_once : (file : File) (fault other : ImageFault) → HasNoShape file fault → HasNoShape file other
    → fault ≡ other
shapes_fail_once file fault other a b =
    let header : b.header ≡ a.header = headers_are_one (proper_of file) b.header a.header b.is_header a.is_header in
    let again : shape_of a.header ≡ Err other = subst (λ (h : Header). shape_of h ≡ Err other) header b.fails in
    let first = a.fails in
    cc

layouts_fail_once : (file : File) (fault other : ImageFault) → HasNoLayout file fault → HasNoLayout file other
    → fault ≡ other
layouts_fail_once file fault other (inl a) (inl b) = headers_fail_once file fault other a b
layouts_fail_once file fault other (inl a) (inr b) =
    absurd (headers_have_no_fault (proper_of file) b.header a.cause b.is_header a.fails)
layouts_fail_once file fault other (inr a) (inl b) =
    absurd (headers_have_no_fault (proper_of file) a.header b.cause a.is_header b.fails)
layouts_fail_once file fault other (inr a) (inr b) = shapes_fail_once file fault other a b

pixels_fail_once : (file : File) (fault other : ImageFault) → HasNoPixels file fault → HasNoPixels file other
    → fault ≡ other
pixels_fail_once file fault other a b =
    let same : b.layout ≡ a.layout = layouts_are_one file b.layout a.layout b.has_layout a.has_layout in
    let one = a.layout in
    lacks_once file one.header_bytes one.shape.structure one.shape.lossless fault other
    (shape_sound a.has_layout.header one.shape a.has_layout.is_shape) a.lacks
    (subst (λ (l : Layout). LacksPixels file l.header_bytes l.shape.structure l.shape.lossless other) same b.lacks)

faults_are : (file : File) (fault other : ImageFault) → HasImageFault file fault → HasImageFault file other
    → fault ≡ other
faults_are file fault other (inl a) (inl b) = layouts_fail_once file fault other a b
faults_are file fault other (inl a) (inr b) = absurd (no_layout_fault file b.layout fault b.has_layout a)
faults_are file fault other (inr a) (inl b) = absurd (no_layout_fault file a.layout other a.has_layout b)
faults_are file fault other (inr a) (inr b) = pixels_fail_once file fault other a b

pub outcomes_are_one : OutcomesAreOne
outcomes_are_one file (Ok picture) (Ok other) a b = ap Ok (images_are_one file picture other a b)
outcomes_are_one file (Ok picture) (Err fault) a b = absurd (no_fault file picture fault a b)
outcomes_are_one file (Err fault) (Ok picture) a b = absurd (no_fault file picture fault b a)
outcomes_are_one file (Err fault) (Err other) a b = ap Err (faults_are file fault other a b)
