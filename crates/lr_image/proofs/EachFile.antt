-- Each file has an image or a first fault.
use Rattle.std.proofs.Common.{◌≡◌, ◌⊎◌, inl, inr, ◌<◌, ◌≤◌, ◌-◌, ◌*◌, ◌/◌, ◌^◌, min, ℕ, zero, suc, List, [], ◌∷◌}
use Rattle.std.proofs.Common.{◌++◌, length, map, All, Option, Some, None, Result, Ok, Err, refl, arith, pow_pos}
use Rattle.std.specs.Prelude.{MatchResult}
use Rattle.std.proofs.Math.Nat.{mul-le-mul_left}
use Rattle.std.proofs.lemmas.Bool.{cases_lt}
use Rattle.std.proofs.lemmas.Nat.Bits.{bit_at-lt}
use Rattle.lr_bits.specs.Bits.{bits_of}
use Rattle.lr_bits.specs.File.{File, proper_of}
use Rattle.lr_bits.proofs.BitsLemmas.{length-bits_of}
use Rattle.lr_headers.specs.declared.fault.HeaderFault.{HeaderFault}
use Rattle.lr_headers.specs.declared.fields.Structure.{Structure}
use Rattle.lr_headers.specs.declared.fields.Lossless.{Lossless}
use Rattle.lr_headers.specs.Headers.{header_of}
use Rattle.lr_headers.specs.Tiling.{Header, HasHeaderFault, IsHeaderOf}
use Rattle.lr_headers.proofs.Readings.{headers_are_read}
use Rattle.lr_rice.specs.CodedLines.{Form}
use Rattle.lr_rice.specs.Laws.{IsForm}
use Rattle.lr_rice.proofs.EachItem.{bits_from, fulls}
use Rattle.lr_rice.proofs.EachString.{lines_are_read}
use Rattle.lr_image.specs.declared.fault.ImageFault.{ImageFault}
use Rattle.lr_image.specs.declared.fault.ImageFault.TheVariants.{Headers, Rice, Short}
use Rattle.lr_image.specs.declared.shape.Shape.{Shape}
use Rattle.lr_image.specs.Laws.{FilesHaveOutcomes}
use Rattle.lr_image.specs.Picture.{Picture}
use Rattle.lr_image.specs.Pieces.{GiveLines, PieceSite, PiecesFail, first_site, next_site}
use Rattle.lr_image.specs.Plain.{BeginsWithPixels, PixelsFail, whole_pixels}
use Rattle.lr_image.specs.Images.{HasOutcome, HasPixels, LacksPixels, data_field, data_pieces, line_form}
use Rattle.lr_image.specs.Shapes.{IsShapeOf, shape_of}
use Rattle.lr_image.proofs.ShapeLemmas.{shape_sound}
use Rattle.lr_image.proofs.WholePixels.{form_is}

-- ---- the bits of bytes

all_small : (f : ℕ → ℕ) → ((n : ℕ) → f n < 2) → (places : List ℕ) → All (λ bit. bit < 2) (map f places)
all_small f each [] k d inside = absurd (omega arith)
all_small f each (place ∷ places) zero d inside = each place
all_small f each (place ∷ places) (suc k) d inside = all_small f each places k d (omega (arith, inside))

are_bits : (bytes : List ℕ) → All (λ bit. bit < 2) (bits_of bytes)
unfolding bits_of
are_bits bytes = all_small _ (λ place. bit_at-lt _ _) _

-- ---- pixels that stand one after another

all_below : (bits : ℕ) (pixels : List ℕ) → All (λ pixel. pixel ≤ 2 ^ bits - 1) pixels
    → All (λ pixel. pixel < 2 ^ bits) pixels
all_below bits pixels all k d inside = omega (arith, all k d inside, pow_pos bits)

plain_or_not : (bits n : ℕ) (bytes : List ℕ) → 1 ≤ bits
    → ((pixels : List ℕ) × BeginsWithPixels bits n (bits_of bytes) pixels)
    ⊎ ((fault : ImageFault) × PixelsFail bits n bytes fault)
plain_or_not bits n bytes some = elim (cases_lt (whole_pixels bits bytes) n) [
  | inl few ↦ inr (Short (whole_pixels bits bytes), record { few = few; is_fault = refl })
  | inr enough ↦ elim (fulls bits n (bits_of bytes) (bits_from (bits_of bytes) (are_bits bytes))) [
    | inl there ↦ inl (
      there.0,
      record {
        count = there.2;
        small = all_below bits there.0 there.3;
        rest = there.1;
        written = there.4;
      },
    )
    | inr short ↦
        let whole : bits * n ≤ bits * (8 * length bytes / bits) = mul-le-mul_left bits enough in
        absurd (omega (arith, whole, some, short.1.0, length-bits_of bytes))
  ]
]

-- ---- pixels that are coded without loss

module _ (form : Form) (is : IsForm form) (each : ℕ) where
  abbrev Pieces : PieceSite → List (List ℕ) → Type 0
  Pieces at pieces =
      ((samples : List ℕ) × GiveLines form each at.wanted pieces samples)
      ⊎ ((fault : ImageFault) × PiecesFail form each at pieces fault)

  none_or_short : (number done wanted : ℕ) → Pieces (record { number = number; done = done; wanted = wanted }) []
  none_or_short number done zero = inl ([], (refl, refl))
  none_or_short number done (suc wanted) =
      inr (Short (done * form.columns), record { some = omega arith; is_fault = refl })

  pieces_or_not : (at : PieceSite) (pieces : List (List ℕ)) → Pieces at pieces
  pieces_or_not at [] = none_or_short at.number at.done at.wanted
  pieces_or_not at (piece ∷ pieces) =
      elim (lines_are_read form is (min each at.wanted) (bits_of piece) (are_bits piece)) [
        | inr fails ↦
            inr (Rice at.number fails.0, inl (record { rice = fails.0; fails = fails.1; is_fault = refl }))
        | inl there ↦
            elim (pieces_or_not (next_site each at) pieces) [
              | inr later ↦
                  inr (later.0, inr (record { front = there.0; begins = there.1; later = later.1 }))
              | inl others ↦ inl (
                there.0 ++ others.0,
                record {
                  front = there.0;
                  begins = there.1;
                  back = others.0;
                  others = others.1;
                  are_samples = refl;
                },
              )
            ]
      ]

-- ---- files

pixels_or_not : (file : File) (size : ℕ) (s : Structure) (lossless : Option Lossless) → IsShapeOf s lossless
    → ((pixels : List ℕ) × HasPixels file size s lossless pixels)
    ⊎ ((fault : ImageFault) × LacksPixels file size s lossless fault)
pixels_or_not file size s None is = plain_or_not s.bits (s.columns * s.lines) (data_field file size) is.least_bits
pixels_or_not file size s (Some l) is =
    pieces_or_not (line_form s l) (form_is s l is.0 is.1) l.lines (first_site s.lines) (data_pieces file size)

abbrev Outcome : File → Type 0
Outcome file = (outcome : Result Picture ImageFault) × HasOutcome file outcome

module _ (file : File) (header : Header) (is_header : IsHeaderOf (proper_of file) header) where
  shape_or_not : (shape : Result Shape ImageFault) → shape_of header ≡ shape → Outcome file
  shape_or_not (Err fault) is =
      (Err fault, inl (inr (record { header = header; is_header = is_header; fails = is })))
  shape_or_not (Ok shape) is =
      elim (pixels_or_not file (length header.bytes) shape.structure shape.lossless (shape_sound header shape is)) [
        | inr lacks ↦ (
          Err lacks.0,
          inr (record {
            layout = record { header_bytes = length header.bytes; shape = shape };
            has_layout = record { header = header; is_header = is_header; is_size = refl; is_shape = is };
            lacks = lacks.1;
          }),
        )
        | inl has ↦ (
          Ok (record {
            bits = shape.structure.bits;
            columns = shape.structure.columns;
            lines = shape.structure.lines;
            pixels = has.0;
          }),
          record {
            layout = record { header_bytes = length header.bytes; shape = shape };
            has_layout = record { header = header; is_header = is_header; is_size = refl; is_shape = is };
            bits = refl;
            columns = refl;
            lines = refl;
            pixels = has.1;
          },
        )
      ]

header_or_not : (file : File) (header : Result Header HeaderFault)
    → MatchResult header (IsHeaderOf (proper_of file)) (HasHeaderFault (proper_of file)) → Outcome file
header_or_not file (Ok header) is = shape_or_not file header is (shape_of header) refl
header_or_not file (Err cause) fails =
    (Err (Headers cause), inl (inl (record { cause = cause; fails = fails; is_fault = refl })))

pub files_have_outcomes : FilesHaveOutcomes
files_have_outcomes file = header_or_not file (header_of (proper_of file)) (headers_are_read (proper_of file))
