-- The lines of a PGM, one after another, are the bytes of all pixels.
use Rattle.std.proofs.Common.{◌≡◌, ◌≤◌, ◌+◌, ◌*◌, ℕ, zero, suc, List, [], ◌∷◌, ◌++◌, length, map, take, drop, sym}
use Rattle.std.proofs.Common.{ap, ◌∙◌, subst, arith, append-nil}
use Rattle.std.specs.List.{concat, flat_map, range_with_len}
use Rattle.std.proofs.Math.Seq.{take-add}
use Rattle.std.proofs.lemmas.Grind.{flat_map-append}
use Rattle.std.proofs.lemmas.List.{take_all}
use Rattle.std.proofs.lemmas.List.Folds.{concat-append}
use Rattle.std.proofs.lemmas.List.FromFn.{map-range_with_len_more}
use Rattle.lr_image.specs.Pgm.{head_text, line_bytes, pgm_text, pixel_bytes, rows_bytes}
use Rattle.lr_image.specs.Picture.{Picture, IsPicture}

module _ (picture : Picture) where
  abbrev first_lines : ℕ → List ℕ
  first_lines lines = concat (map (line_bytes picture) (range_with_len 0 lines))

  abbrev first_pixels : ℕ → List ℕ
  first_pixels count = flat_map (pixel_bytes picture.bits) (take count picture.pixels)

  one_line_more : (lines : ℕ) → first_lines (lines + 1) ≡ first_lines lines ++ line_bytes picture lines
  one_line_more lines =
      let line = line_bytes picture lines in
      ap (λ (l : List (List ℕ)). concat l) (map-range_with_len_more (line_bytes picture) 0 lines lines (omega arith))
      ∙ concat-append (map (line_bytes picture) (range_with_len 0 lines)) (line ∷ [])
      ∙ ap (λ (l : List ℕ). first_lines lines ++ l) (append-nil line)

  pixels_of_line : (lines : ℕ) → first_pixels ((lines + 1) * picture.columns)
      ≡ first_pixels (lines * picture.columns) ++ line_bytes picture lines
  pixels_of_line lines =
      let before = lines * picture.columns in
      let step : (lines + 1) * picture.columns ≡ before + picture.columns = omega arith in
      ap first_pixels step
      ∙ ap (λ (l : List ℕ). flat_map (pixel_bytes picture.bits) l) (take-add before picture.columns picture.pixels)
      ∙ flat_map-append (pixel_bytes picture.bits) (take before picture.pixels)
      (take picture.columns (drop before picture.pixels))

  lines_are_pixels : (lines : ℕ) → first_lines lines ≡ first_pixels (lines * picture.columns)
  lines_are_pixels zero =
      let none : 0 * picture.columns ≡ 0 = omega arith in
      sym (ap first_pixels none)
  lines_are_pixels (suc lines) =
      let next : lines + 1 ≡ suc lines = omega arith in
      subst (λ n. first_lines n ≡ first_pixels (n * picture.columns)) next
      (one_line_more lines ∙ ap (λ (l : List ℕ). l ++ line_bytes picture lines) (lines_are_pixels lines)
      ∙ sym (pixels_of_line lines))

  pub rows_are_pixels : IsPicture picture → rows_bytes picture ≡ flat_map (pixel_bytes picture.bits) picture.pixels
  rows_are_pixels is =
      let size : length picture.pixels ≤ picture.lines * picture.columns = omega (arith, is.whole) in
      lines_are_pixels picture.lines
      ∙ ap (λ (l : List ℕ). flat_map (pixel_bytes picture.bits) l)
      (take_all (picture.lines * picture.columns) picture.pixels size)

  -- the text is the head, and then the bytes of all pixels
  pub text_is : IsPicture picture
      → head_text picture ++ flat_map (pixel_bytes picture.bits) picture.pixels ≡ pgm_text picture
  unfolding pgm_text
  text_is is = ap (λ (l : List ℕ). head_text picture ++ l) (sym (rows_are_pixels is))
