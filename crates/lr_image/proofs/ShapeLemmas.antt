-- What holds of a shape without a fault.
use Rattle.std.proofs.Common.{◌≡◌, ◌≤◌, ◌*◌, ◌/◌, ◌%◌, ◌||◌, not, eqb, ltb, ℕ, zero, suc, Bool, true, false, cond}
use Rattle.std.proofs.Common.{Option, Some, None, Result, Ok, Err, refl, sym, subst, arith}
use Rattle.std.proofs.lemmas.Bool.{eqb-true, ltb-false}
use Rattle.lr_headers.specs.declared.fields.Structure.{Structure}
use Rattle.lr_headers.specs.declared.fields.Lossless.{Lossless}
use Rattle.lr_headers.specs.Tiling.{Header}
use Rattle.lr_headers.specs.Fields.{file_type, is_encrypted, lossless_of, structure_of}
use Rattle.lr_image.specs.declared.fault.ImageFault.{ImageFault}
use Rattle.lr_image.specs.declared.fault.ImageFault.TheVariants.{NotImage, Encrypted, Compression}
use Rattle.lr_image.specs.declared.shape.Shape.{Shape}
use Rattle.lr_image.specs.Shapes.{IsCoding, IsShape, IsSize, coded_shape, lossless_fault, lossless_shape, plain_shape}
use Rattle.lr_image.specs.Shapes.{most_pixels, shape_of, size_fault, structured_shape, unless}

no_fault : (b : Bool) (f : ImageFault) (rest : Option ImageFault) → cond b (Some f) rest ≡ None
    → (b ≡ false) × (rest ≡ None)
no_fault true f rest e = absurd (cc)
no_fault false f rest e = (refl, e)

none_of : (a b : Bool) → (a || b) ≡ false → (a ≡ false) × (b ≡ false)
none_of true b e = absurd (cc)
none_of false b e = (refl, e)

from_unless : (o : Option ImageFault) (r : Result Shape ImageFault) (shape : Shape) → unless o r ≡ Ok shape
    → (o ≡ None) × (r ≡ Ok shape)
from_unless (Some fault) r shape e = absurd (cc)
from_unless None r shape e = (refl, e)

not_zero : (n : ℕ) → eqb n 0 ≡ false → 1 ≤ n
not_zero zero e = absurd (cc)
not_zero (suc n) e = omega arith

not_false : (b : Bool) → not b ≡ false → b ≡ true
not_false true e = refl
not_false false e = sym e

is_even : (n : ℕ) → not (eqb n 0) ≡ false → n ≡ 0
is_even n e = eqb-true n 0 (not_false (eqb n 0) e)

size_sound : (least : ℕ) (s : Structure) → size_fault least s ≡ None → IsSize least s
unfolding size_fault
size_sound least s e =
    let a = no_fault (ltb s.bits least || ltb 16 s.bits) _ _ e in
    let b = no_fault (eqb s.columns 0 || eqb s.lines 0) _ _ a.1 in
    let c = no_fault (ltb most_pixels (s.columns * s.lines)) _ _ b.1 in
    let depth = none_of (ltb s.bits least) (ltb 16 s.bits) a.0 in
    let empty = none_of (eqb s.columns 0) (eqb s.lines 0) b.0 in
    record {
      least_bits = ltb-false s.bits least depth.0;
      most_bits = ltb-false 16 s.bits depth.1;
      columns = not_zero s.columns empty.0;
      lines = not_zero s.lines empty.1;
      few = ltb-false most_pixels (s.columns * s.lines) c.0;
    }

coding_sound : (l : Lossless) → lossless_fault l ≡ None → IsCoding l
unfolding lossless_fault
coding_sound l e =
    let a = no_fault (eqb (l.flags / 32 % 2) 0) _ _ e in
    let b = no_fault ((not (eqb (l.block % 2) 0) || ltb l.block 2) || ltb 64 l.block) _ _ a.1 in
    let c = no_fault (eqb l.lines 0) _ _ b.1 in
    let most = none_of (not (eqb (l.block % 2) 0) || ltb l.block 2) (ltb 64 l.block) b.0 in
    let least = none_of (not (eqb (l.block % 2) 0)) (ltb l.block 2) most.0 in
    record {
      least_block = ltb-false l.block 2 least.1;
      most_block = ltb-false 64 l.block most.1;
      even = is_even (l.block % 2) least.0;
      some = not_zero l.lines c.0;
    }

plain_sound : (s : Structure) (shape : Shape) → plain_shape s ≡ Ok shape → IsShape shape
plain_sound s shape e =
    let parts = from_unless (size_fault 1 s) (Ok (record { structure = s; lossless = None })) shape e in
    let made : Shape = record { structure = s; lossless = None } in
    let same : made ≡ shape = cc in
    subst IsShape same (size_sound 1 s parts.0)

lossless_sound : (s : Structure) (lossless : Option Lossless) (shape : Shape)
    → lossless_shape s lossless ≡ Ok shape → IsShape shape
lossless_sound s None shape e = absurd (cc)
lossless_sound s (Some l) shape e =
    let made : Shape = record { structure = s; lossless = Some l } in
    let size = from_unless (size_fault 5 s) (unless (lossless_fault l) (Ok made)) shape e in
    let coding = from_unless (lossless_fault l) (Ok made) shape size.1 in
    let same : made ≡ shape = cc in
    subst IsShape same (size_sound 5 s size.0, coding_sound l coding.0)

coded_by : (a b : Bool) (value : ℕ) (s : Structure) (lossless : Option Lossless) (shape : Shape)
    → cond a (plain_shape s) (cond b (lossless_shape s lossless) (Err (Compression value))) ≡ Ok shape → IsShape shape
coded_by true b value s lossless shape e = plain_sound s shape e
coded_by false true value s lossless shape e = lossless_sound s lossless shape e
coded_by false false value s lossless shape e = absurd (cc)

structured_by : (hidden : Bool) (s : Structure) (lossless : Option Lossless) (shape : Shape)
    → cond hidden (Err Encrypted) (coded_shape s lossless) ≡ Ok shape → IsShape shape
structured_by true s lossless shape e = absurd (cc)
structured_by false s lossless shape e =
    coded_by (eqb s.compression 0) (eqb s.compression 1) s.compression s lossless shape e

structured_sound : (structure : Option Structure) (header : Header) (shape : Shape)
    → structured_shape structure header ≡ Ok shape → IsShape shape
structured_sound None header shape e = absurd (cc)
structured_sound (Some s) header shape e = structured_by (is_encrypted header) s (lossless_of header) shape e

shaped_by : (other : Bool) (kind : ℕ) (header : Header) (shape : Shape)
    → cond other (Err (NotImage kind)) (structured_shape (structure_of header) header) ≡ Ok shape → IsShape shape
shaped_by true kind header shape e = absurd (cc)
shaped_by false kind header shape e = structured_sound (structure_of header) header shape e

pub shape_sound : (header : Header) (shape : Shape) → shape_of header ≡ Ok shape → IsShape shape
shape_sound header shape e = shaped_by (not (eqb (file_type header) 0)) (file_type header) header shape e
