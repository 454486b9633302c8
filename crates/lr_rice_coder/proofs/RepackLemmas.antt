-- From what the steps made to the file, or to the refusal.
use Rattle.std.proofs.Common.{◌≡◌, ℕ, ◌+◌, ◌<◌, ◌≤◌, List, length, Some, None, refl, sym, ap, ◌∙◌, subst, arith}
use Rattle.lr_bits.specs.File.{File, proper_of}
use Rattle.lr_headers.specs.Fields.{structure_of}
use Rattle.lr_headers.specs.Tiling.{Header, IsHeaderOf}
use Rattle.lr_headers.specs.declared.fields.Structure.{Structure}
use Rattle.lr_image.specs.Picture.{Picture, IsPicture}
use Rattle.lr_image.specs.Images.{IsImageOf}
use Rattle.lr_rice_coder.specs.Coded.{IsBlockSize}
use Rattle.lr_rice_coder.specs.Fronts.{IsCodedImage, MakesFile, MakingFails, file_with_lines, front_with, picture_with}
use Rattle.lr_rice_coder.specs.Refusals.{HasRepackFaultOrMemory}
use Rattle.lr_rice_coder.specs.Repacked.{IsRepacked, IsSource, other_records, repacked_file}
use Rattle.lr_rice_coder.specs.declared.fault.RepackFault.{RepackFault}
use Rattle.lr_rice_coder.specs.declared.fault.RepackFault.TheVariants as fault
use Rattle.lr_rice_coder.proofs.NewImages.{known}

-- what is known of the file where its image is coded
pub record IsReadFile (file : File) (picture : Picture) (header : Header) (s : Structure)
    (pixels others : List ℕ) : Type 0 where
  pub image : IsImageOf file picture
  pub deep : 5 ≤ picture.bits
  pub is_header : IsHeaderOf (proper_of file) header
  pub says : structure_of header ≡ Some s
  pub pixels_are : pixels ≡ picture.pixels
  pub others_are : others ≡ other_records header
  pub columns : s.columns < 65536
  pub lines : s.lines < 65536

pub no_structure : (file : File) (picture : Picture) (header : Header) → IsImageOf file picture
    → IsHeaderOf (proper_of file) header → structure_of header ≡ None → ⊥
no_structure file picture header image is_header none =
    let k = (known file picture header image is_header).1 in
    let says = k.says in
    cc

-- the image has the sizes that the header says
picture_said : (file : File) (picture : Picture) (header : Header) (s : Structure) (pixels others : List ℕ)
    → IsReadFile file picture header s pixels others → picture_with s pixels ≡ picture
picture_said file picture header s pixels others is =
    let found = known file picture header is.image is.is_header in
    let k = found.1 in
    let same : found.0 ≡ s = some_same found.0 s (sym k.says ∙ is.says) in
    ap (λ (t : Structure). picture_with t pixels) (sym same) ∙ ap (picture_with found.0) is.pixels_are
    ∙ picture_from k.bits k.columns k.lines
  where
    some_same : (a b : Structure) → Some a ≡ Some b → a ≡ b
    some_same a b e = cc

    picture_from : {a b c x y z : ℕ} {p : List ℕ} → x ≡ a → y ≡ b → z ≡ c
        → ◌≡◌ {A = Picture} (record { bits = a; columns = b; lines = c; pixels = p })
        (record { bits = x; columns = y; lines = z; pixels = p })
    picture_from e f g = rw (e, f, g) refl

pub can_be_coded : (file : File) (picture : Picture) (header : Header) (s : Structure) (pixels others : List ℕ)
    (block : ℕ)
    → IsReadFile file picture header s pixels others → IsBlockSize block → IsCodedImage s pixels block
can_be_coded file picture header s pixels others block is is_block =
    let same = picture_said file picture header s pixels others is in
    let k = (known file picture header is.image is.is_header).1 in
    record {
      picture = subst IsPicture (sym same) k.is;
      deep = omega (arith, is.deep, ap (λ (p : Picture). p.bits) same);
      some = omega (arith, k.size.columns, k.columns, ap (λ (p : Picture). p.columns) same);
      narrow = is.columns;
      low = is.lines;
      block_is = is_block;
    }

source : (file : File) (picture : Picture) (header : Header) (s : Structure) (pixels others : List ℕ)
    → IsReadFile file picture header s pixels others → IsSource file (picture_with s pixels) header
source file picture header s pixels others is =
    let same = picture_said file picture header s pixels others is in
    record {
      is_image = subst (IsImageOf file) (sym same) is.image;
      deep = omega (arith, is.deep, ap (λ (p : Picture). p.bits) same);
      is_header = is.is_header;
    }

same_file : (file : File) (header : Header) (s : Structure) (pixels others : List ℕ) (block : ℕ) (lines : List (List ℕ))
    → others ≡ other_records header
    → file_with_lines file s block others lines ≡ repacked_file file header (picture_with s pixels) block lines
unfolding front_with
same_file file header s pixels others block lines is =
    ap (λ (o : List ℕ). file_with_lines file s block o lines) is

pub repacked : (file : File) (picture : Picture) (header : Header) (s : Structure) (pixels others : List ℕ) (block : ℕ)
    (new : File) → IsReadFile file picture header s pixels others → MakesFile file s pixels
    (record { block = block; others = others }) new
    → IsRepacked file block new
repacked file picture header s pixels others block new is makes = record {
  picture = picture_with s pixels;
  header = header;
  source = source file picture header s pixels others is;
  narrow = record { counter = makes.counter; columns = is.columns; lines = is.lines };
  lines = makes.lines;
  coded = makes.coded;
  is_new = makes.is_new ∙ same_file file header s pixels others block makes.lines is.others_are;
  is_file = makes.is_file;
}

pub refused : (file : File) (picture : Picture) (header : Header) (s : Structure) (pixels others : List ℕ) (block : ℕ)
    (f : RepackFault) → IsReadFile file picture header s pixels others
    → MakingFails (picture_with s pixels) block others f → HasRepackFaultOrMemory file block f
refused file picture header s pixels others block (fault.Image cause) is fails = absurd fails
refused file picture header s pixels others block (fault.Depth bits) is fails = absurd fails
refused file picture header s pixels others block (fault.Line line) is fails = record {
  picture = picture_with s pixels;
  header = header;
  source = source file picture header s pixels others is;
  has = fails;
}
refused file picture header s pixels others block (fault.Header size) is fails = record {
  picture = picture_with s pixels;
  header = header;
  source = source file picture header s pixels others is;
  short = fails.short;
  size_is = fails.size_is ∙ ap (λ (l : List ℕ). 42 + length l) is.others_are ∙ omega arith;
  long = fails.long;
}
refused file picture header s pixels others block (fault.File size) is fails = record {
  picture = picture_with s pixels;
  header = header;
  source = source file picture header s pixels others is;
  short = fails.short;
  fits = omega (arith, fails.fits, ap length is.others_are);
  size_is = omega (arith, fails.size_is, ap length is.others_are);
  long = fails.long;
}
refused file picture header s pixels others block fault.NoMemory is fails = tt
