-- The pixels of a piece that stands in both files are the same.
use Rattle.std.proofs.Common.{◌≡◌, ℕ, suc, ◌+◌, ◌-◌, ◌*◌, ◌<◌, ◌≤◌, Option, Some, List, [], ◌∷◌, ◌++◌, length}
use Rattle.std.proofs.Common.{get_or, sym, ap, ◌∙◌, subst, arith, inl, inr, min}
use Rattle.std.proofs.Math.Nat.{add-mul, mul-le-mul_right, mul_comm, one-mul, suc-mul}
use Rattle.std.proofs.lemmas.Bool.{cases_lt}
use Rattle.std.proofs.lemmas.List.{get_or_append_left, get_or-append_right}
use Rattle.lr_bits.specs.Bits.{bits_of}
use Rattle.lr_headers.specs.Tiling.{Header}
use Rattle.lr_headers.specs.declared.fields.Lossless.{Lossless}
use Rattle.lr_image.specs.Images.{HasPixels, data_pieces, line_form}
use Rattle.lr_image.specs.Pieces.{GiveLines}
use Rattle.lr_image.specs.Shapes.{IsShapeOf}
use Rattle.lr_image.specs.declared.shape.Shape.{Shape}
use Rattle.lr_image.proofs.ShapeLemmas.{shape_sound}
use Rattle.lr_image.proofs.WholePixels.{form_is}
use Rattle.lr_laws.specs.SamePixels.{KeptLinesAreSame}
use Rattle.lr_laws.proofs.OnlyImages.{opened_read}
use Rattle.lr_laws.proofs.StandingImages.{has_pixels, same_header, same_shape}
use Rattle.lr_rice.specs.CodedLines.{BeginsWithLines, Form}
use Rattle.lr_rice.specs.Laws.{IsForm}
use Rattle.lr_rice.proofs.ReadingLines.{lines_are_one}
use Rattle.lr_rice.proofs.WholeLines.{lines_are_whole}

-- what begins a string is one list of samples, of a known length
same_front : (form : Form) → IsForm form → (n : ℕ) (string front other : List ℕ) →
    BeginsWithLines form n front string → BeginsWithLines form n other string → other ≡ front
same_front form is n string front other a b =
    sym (lines_are_one form is n front other a.coding b.coding a.rest b.rest a.lines b.lines
    (sym a.is_string ∙ b.is_string)).0

length-front : (form : Form) → IsForm form → (n : ℕ) (string front : List ℕ) → BeginsWithLines form n front string →
    length front ≡ n * form.columns
length-front form is n string front a = (lines_are_whole form is n front a.coding a.lines).whole

module _ (form : Form) (is : IsForm form) (each : ℕ) where
  kept_line : (before front : List (List ℕ)) (wanted : ℕ) (kept : List ℕ) (after back : List (List ℕ))
      (samples others : List ℕ) → length front ≡ length before →
      GiveLines form each wanted (before ++ (kept ∷ after)) samples →
      GiveLines form each wanted (front ++ (kept ∷ back)) others → (k d : ℕ) →
      k < wanted * form.columns → length before * (each * form.columns) ≤ k →
      k < (length before + 1) * (each * form.columns) → get_or others k d ≡ get_or samples k d
  kept_line [] [] wanted kept after back samples others level give gave k d inside above below =
      let n = min each wanted in
      let long = length-front form is n (bits_of kept) give.front give.begins in
      let same = same_front form is n (bits_of kept) give.front gave.front give.begins gave.begins in
      let each_one : (0 + 1) * (each * form.columns) ≡ each * form.columns = one-mul (each * form.columns) in
      let few : k < n * form.columns =
      elim (cases_lt each wanted) as (λ _. k < n * form.columns) [
        | inl less ↦
            let e : each ≡ n = omega (arith, less) in
            let f : k < each * form.columns = omega (arith, below, each_one) in
            subst (λ (m : ℕ). k < m * form.columns) e f
        | inr more ↦
            let e : wanted ≡ n = omega (arith, more) in
            subst (λ (m : ℕ). k < m * form.columns) e inside
      ] in
      ap (λ (l : List ℕ). get_or l k d) gave.are_samples
      ∙ get_or_append_left gave.front gave.back d k (omega (arith, few, long, ap length same))
      ∙ ap (λ (l : List ℕ). get_or l k d) same
      ∙ sym (ap (λ (l : List ℕ). get_or l k d) give.are_samples
      ∙ get_or_append_left give.front give.back d k (omega (arith, few, long)))
  kept_line [] (y ∷ front) wanted kept after back samples others level give gave k d inside above below =
      absurd (omega (arith, level))
  kept_line (x ∷ before) [] wanted kept after back samples others level give gave k d inside above below =
      absurd (omega (arith, level))
  kept_line (x ∷ before) (y ∷ front) wanted kept after back samples others level give gave k d inside above below =
      let n = min each wanted in
      let a = length-front form is n (bits_of x) give.front give.begins in
      let b = length-front form is n (bits_of y) gave.front gave.begins in
      let c = each * form.columns in
      let first : suc (length before) * c ≡ length before * c + c = suc-mul (length before) c in
      let second : (suc (length before) + 1) * c ≡ (length before + 1) * c + c =
      ap (λ (m : ℕ). m * c) (let e : suc (length before) + 1 ≡ suc (length before + 1) = omega arith in e)
      ∙ suc-mul (length before + 1) c in
      let enough : each ≤ wanted =
      elim (cases_lt wanted each) as (λ _. each ≤ wanted) [
        | inl less ↦
            let product : wanted * form.columns ≤ each * form.columns =
            mul-le-mul_right form.columns (omega (arith, less)) in
            absurd (omega (arith, product, inside, above, first))
        | inr more ↦ more
      ] in
      let all : n ≡ each = omega (arith, enough) in
      let one : length give.front ≡ c = a ∙ ap (λ (m : ℕ). m * form.columns) all in
      let two : length gave.front ≡ c = b ∙ ap (λ (m : ℕ). m * form.columns) all in
      let rest : wanted * form.columns ≡ (wanted - each) * form.columns + c =
      ap (λ (m : ℕ). m * form.columns) (let e : wanted ≡ wanted - each + each = omega (arith, enough) in e)
      ∙ add-mul (wanted - each) each form.columns in
      let past : c ≤ k = omega (arith, above, first) in
      ap (λ (l : List ℕ). get_or l k d) gave.are_samples
      ∙ get_or-append_right gave.front gave.back c k d two past
      ∙ kept_line before front (wanted - each) kept after back give.back gave.back (omega (arith, level)) give.others
      gave.others (k - c) d (omega (arith, inside, rest, past)) (omega (arith, above, first))
      (omega (arith, below, second, past))
      ∙ sym (ap (λ (l : List ℕ). get_or l k d) give.are_samples
      ∙ get_or-append_right give.front give.back c k d one past)

pub kept_lines : KeptLinesAreSame
kept_lines sent mended picture other image same opening first bodies others split splits opens l coded kept before
    after front back is are level k d some above below =
    let read = opened_read first opening opens in
    let h = length read.header.bytes in
    let s = read.shape.structure in
    let shape = same_shape sent first bodies split read picture image in
    let lossless : read.shape.lossless ≡ Some l = sym (ap (λ (t : Shape). t.lossless) shape) ∙ coded in
    let size : image.layout.header_bytes ≡ h =
    image.has_layout.is_size
    ∙ ap (λ (header : Header). length header.bytes) (same_header sent first bodies split read picture image) in
    let columns : picture.columns ≡ s.columns = image.columns ∙ ap (λ (t : Shape). t.structure.columns) shape in
    let lines : picture.lines ≡ s.lines = image.lines ∙ ap (λ (t : Shape). t.structure.lines) shape in
    let sound = subst (λ (o : Option Lossless). IsShapeOf s o) lossless
    (shape_sound read.header read.shape read.is_shape) in
    let give : GiveLines (line_form s l) l.lines s.lines (before ++ (kept ∷ after)) picture.pixels =
    subst (λ (pieces : List (List ℕ)). GiveLines (line_form s l) l.lines s.lines pieces picture.pixels)
    (sym (ap (data_pieces sent) size) ∙ is)
    (subst (λ (o : Option Lossless). HasPixels sent h s o picture.pixels) lossless
    (has_pixels sent first bodies split read picture image)) in
    let gave : GiveLines (line_form s l) l.lines s.lines (front ++ (kept ∷ back)) other.pixels =
    subst (λ (pieces : List (List ℕ)). GiveLines (line_form s l) l.lines s.lines pieces other.pixels)
    (sym (ap (data_pieces mended) size) ∙ are)
    (subst (λ (o : Option Lossless). HasPixels mended h s o other.pixels) lossless
    (has_pixels mended first others splits read other same)) in
    kept_line (line_form s l) (form_is s l sound.0 sound.1) l.lines before front s.lines kept after back picture.pixels
    other.pixels level give gave k d
    (subst (λ (m : ℕ). k < m) ((λ i. columns i * lines i) ∙ mul_comm s.columns s.lines) some)
    (subst (λ (m : ℕ). length before * (l.lines * m) ≤ k) columns above)
    (subst (λ (m : ℕ). k < (length before + 1) * (l.lines * m)) columns below)
