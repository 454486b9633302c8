-- The file that is made of coded lines.
use Rattle.std.proofs.Common.{◌≡◌, ℕ, zero, suc, ◌+◌, ◌-◌, ◌*◌, ◌<◌, ◌≤◌, List, [], ◌∷◌, ◌++◌, length, map, take, drop}
use Rattle.std.proofs.Common.{All, refl, sym, ap, ◌∙◌, subst, arith, length-append}
use Rattle.std.specs.List.{AllZip, concat, range_with_len, sum_by}
use Rattle.std.proofs.lemmas.List.{append_assoc, append-nil, length-drop, length-take-le}
use Rattle.std.proofs.lemmas.List.FromFn.{length-map-range_with_len, map-range_with_len_more}
use Rattle.std.proofs.lemmas.List.Folds.{concat-append}
use Rattle.std.proofs.lemmas.List.Sums.{sum_by-cons}
use Rattle.std.proofs.lemmas.Nat.{mul-le}
use Rattle.lr_bits.specs.File.{File, IsFile, MakeFile, bytes_of, counter_of, file_of}
use Rattle.lr_bits.specs.declared.sizes.TheConstants.{IDLE_APPLICATION}
use Rattle.lr_bits.specs.Sizes.{most_body_bytes, most_file_bytes}
use Rattle.lr_bits.proofs.FileLemmas.{MakeFile-parts, file_of-parts}
use Rattle.lr_headers.specs.declared.fields.Structure.{Structure}
use Rattle.lr_rice.specs.CodedLines.{Form, form_of}
use Rattle.lr_image.specs.Pgm.{line_pixels}
use Rattle.lr_image.specs.Picture.{Picture}
use Rattle.lr_rice_coder.specs.Coded.{IsCodedLine, IsLong, byte_count}
use Rattle.lr_rice_coder.specs.Fronts.{AppendsLines, AppendsRow, HoldsLines, file_with_lines, front_with, picture_with}
use Rattle.lr_rice_coder.specs.declared.files.LineBytes.{LineBytes}
use Rattle.lr_rice_coder.specs.Refusals.{AreShort, IsLongAt}
use Rattle.lr_rice_coder.specs.Repacked.{AreCodedLines, form_with, line_size, rows_of}
use Rattle.lr_rice_coder.specs.Shortest.{shortest_string}
use Rattle.lr_rice_coder.proofs.LawLemmas.{fillings_are_whole}

-- ---- lists side by side

AllZip-push : {A B : Type 0} (R : A → B → Type 0) (xs : List A) (ys : List B) (x : A) (y : B) → AllZip R xs ys → R x y
    → AllZip R (xs ++ x ∷ []) (ys ++ y ∷ [])
AllZip-push R [] [] x y all last = (last, tt)
AllZip-push R [] (b ∷ ys) x y all last = absurd all
AllZip-push R (a ∷ xs) [] x y all last = absurd all
AllZip-push R (a ∷ xs) (b ∷ ys) x y all last = (all.0, AllZip-push R xs ys x y all.1 last)

AllZip-length : {A B : Type 0} (R : A → B → Type 0) (xs : List A) (ys : List B) → AllZip R xs ys → length xs ≡ length ys
AllZip-length R [] [] all = refl
AllZip-length R [] (b ∷ ys) all = absurd all
AllZip-length R (a ∷ xs) [] all = absurd all
AllZip-length R (a ∷ xs) (b ∷ ys) all = ap suc (AllZip-length R xs ys all.1)

-- the partner of the one at a place
AllZip-partner : {A B : Type 0} (R : A → B → Type 0) (f : ℕ → A) (from n k : ℕ) (ys : List B) → k < n
    → AllZip R (map f (range_with_len from n)) ys → (y : B) × R (f (from + k)) y
AllZip-partner R f from zero k ys inside all = absurd (omega arith)
AllZip-partner R f from (suc n) k [] inside all = absurd all
AllZip-partner R f from (suc n) zero (y ∷ ys) inside all =
    let here : from ≡ from + 0 = omega arith in
    (y, subst (λ (i : ℕ). R (f i) y) here all.0)
AllZip-partner R f from (suc n) (suc k) (y ∷ ys) inside all =
    let found = AllZip-partner R f (from + 1) n k ys (omega arith) all.1 in
    let there : from + 1 + k ≡ from + suc k = omega arith in
    (found.0, subst (λ (i : ℕ). R (f i) found.0) there found.1)

-- ---- lines

-- the first `count` lines are coded, and held as long as there is room for them
pub record LinesSoFar (picture : Picture) (block room count : ℕ) (old new : LineBytes) : Type 0 where
  pub lines : List (List ℕ)
  pub coded : AllZip (IsCodedLine (form_with picture block)) (map (line_pixels picture) (range_with_len 0 count)) lines
  pub size_is : new.size ≡ length (concat lines)
  pub lengths : new.size ≤ room → new.lengths ≡ old.lengths ++ map length lines
  pub bytes : new.size ≤ room → new.bytes ≡ concat lines
  pub few : new.size ≤ 65535 * count

-- a line as the code cuts it out
pub row_cut : (pixels : List ℕ) (columns wide line start : ℕ) → wide ≡ columns → start ≡ line * wide
    → take (start + wide - start) (drop start pixels) ≡ take columns (drop (line * columns) pixels)
row_cut pixels columns wide line start same at =
    let size : start + wide - start ≡ columns = omega (arith, same) in
    let place : start ≡ line * columns = at ∙ ap (λ (w : ℕ). line * w) same in
    ap (λ (n : ℕ). take n (drop start pixels)) size ∙ ap (λ (p : ℕ). take columns (drop p pixels)) place

pub line_whole : (picture : Picture) (line : ℕ) → length picture.pixels ≡ picture.columns * picture.lines
    → line < picture.lines → length (line_pixels picture line) ≡ picture.columns
line_whole picture line whole inside =
    let room : (line + 1) * picture.columns ≤ picture.lines * picture.columns =
    mul-le (line + 1) picture.columns picture.lines picture.columns (omega arith) (omega arith) in
    length-take-le picture.columns (drop (line * picture.columns) picture.pixels)
    (omega (arith, length-drop (line * picture.columns) picture.pixels, room, whole))

pub long_at : (picture : Picture) (block line : ℕ) (row : List ℕ) → row ≡ line_pixels picture line
    → length row ≡ picture.columns → IsLong (form_of picture.bits block (length row)) row → IsLongAt picture block line
long_at picture block line row is size long =
    subst (λ (l : List ℕ). IsLong (form_with picture block) l) is
    (subst (λ (n : ℕ). IsLong (form_of picture.bits block n) row) size long)

pub lines_more : (picture : Picture) (block room count size : ℕ) (row appended : List ℕ) (old now new : LineBytes)
    → LinesSoFar picture block room count old now → row ≡ line_pixels picture count → length row ≡ picture.columns
    → AppendsRow (form_of picture.bits block (length row)) row now.bytes appended size → new.size ≡ now.size + size
    → (new.size ≤ room → new.lengths ≡ now.lengths ++ size ∷ []) → (new.size ≤ room → new.bytes ≡ appended)
    → LinesSoFar picture block room (count + 1) old new
lines_more picture block room count size row appended old now new so_far is wide appends counted held kept =
    let rows = map (line_pixels picture) (range_with_len 0 count) in
    let lines = so_far.lines in
    let bytes = appends.bytes in
    let coded : IsCodedLine (form_with picture block) (line_pixels picture count) bytes =
    subst (λ (l : List ℕ). IsCodedLine (form_with picture block) l bytes) is
    (subst (λ (n : ℕ). IsCodedLine (form_of picture.bits block n) row bytes) wide appends.coded) in
    let longer : concat (lines ++ bytes ∷ []) ≡ concat lines ++ bytes =
    concat-append lines (bytes ∷ []) ∙ ap (λ (l : List ℕ). concat lines ++ l) (append-nil bytes) in
    record {
      lines = lines ++ bytes ∷ [];
      coded = subst (λ (l : List (List ℕ)). AllZip (IsCodedLine (form_with picture block)) l (lines ++ bytes ∷ []))
          (sym (map-range_with_len_more (line_pixels picture) 0 count count (omega arith)))
          (AllZip-push (IsCodedLine (form_with picture block)) rows lines (line_pixels picture count) bytes
          so_far.coded coded);
      size_is = omega (
        arith,
        counted,
        so_far.size_is,
        appends.size_is,
        ap length longer,
        length-append (concat lines) bytes,
      );
      lengths = λ fits. held fits ∙ ap (λ (n : ℕ). now.lengths ++ n ∷ []) appends.size_is
          ∙ ap (λ (l : List ℕ). l ++ length bytes ∷ []) (so_far.lengths (omega (arith, counted, fits)))
          ∙ append_assoc old.lengths (map length lines) (length bytes ∷ [])
          ∙ ap (λ (l : List ℕ). old.lengths ++ l) (sym (map-push lines bytes));
      bytes = λ fits. kept fits ∙ appends.appended
          ∙ ap (λ (l : List ℕ). l ++ bytes) (so_far.bytes (omega (arith, counted, fits))) ∙ sym longer;
      few = omega (arith, counted, so_far.few, appends.size_is, appends.coded.short);
    }
  where
    map-push : (lines : List (List ℕ)) (bytes : List ℕ)
        → map length (lines ++ bytes ∷ []) ≡ map length lines ++ length bytes ∷ []
    map-push [] bytes = refl
    map-push (l ∷ lines) bytes = ap (λ (x : List ℕ). length l ∷ x) (map-push lines bytes)

-- after the last line, with the lengths that were there before it
pub all_held : (picture : Picture) (block first room : ℕ) (old new : LineBytes)
    → AppendsLines picture block room old new → (first ≤ most_body_bytes → old.lengths ≡ first ∷ [])
    → (first ≤ most_body_bytes → first + room ≡ most_file_bytes) → picture.lines < 65536
    → HoldsLines picture block first new
all_held picture block first room old new made before whole low = record {
  lines = made.lines;
  coded = made.coded;
  size_is = made.size_is;
  lengths = λ short fits. made.lengths (omega (arith, whole short, fits))
      ∙ ap (λ (l : List ℕ). l ++ map length made.lines) (before short);
  bytes = λ short fits. made.bytes (omega (arith, whole short, fits));
  few = omega (arith, made.few, low);
}

coded_short : (form : Form) (row bytes : List ℕ) → IsCodedLine form row bytes → IsLong form row → ⊥
coded_short form row bytes coded long =
    omega (arith, coded.short, long, fillings_are_whole (shortest_string form row) bytes coded.fills)

pub short_so_far : (picture : Picture) (block count : ℕ) (lines : List (List ℕ))
    → AllZip (IsCodedLine (form_with picture block)) (map (line_pixels picture) (range_with_len 0 count)) lines
    → AreShort picture block count
short_so_far picture block count lines coded line inside long =
    let found = AllZip-partner (IsCodedLine (form_with picture block))
    (line_pixels picture) 0 count line lines inside coded in
    let here : 0 + line ≡ line = omega arith in
    coded_short (form_with picture block) (line_pixels picture line) found.0
    (subst (λ (i : ℕ). IsCodedLine (form_with picture block) (line_pixels picture i) found.0) here found.1) long

-- how many bytes all lines have
coded-size : (form : Form) (rows lines : List (List ℕ)) → AllZip (IsCodedLine form) rows lines
    → length (concat lines) ≡ sum_by (λ row. byte_count (shortest_string form row)) rows
coded-size form [] [] coded = refl
coded-size form [] (line ∷ lines) coded = absurd coded
coded-size form (row ∷ rows) [] coded = absurd coded
coded-size form (row ∷ rows) (line ∷ lines) coded =
    omega (
      arith,
      length-append line (concat lines),
      fillings_are_whole (shortest_string form row) line coded.0.fills,
      sum_by-cons (λ (r : List ℕ). byte_count (shortest_string form r)) row rows,
      coded-size form rows lines coded.1,
    )

pub lines_size : (picture : Picture) (block : ℕ) (lines : List (List ℕ)) → AreCodedLines picture block lines
    → length (concat lines) ≡ sum_by (line_size picture block) (rows_of picture)
lines_size picture block lines coded = coded-size (form_with picture block) (rows_of picture) lines coded

pub lines_count : (picture : Picture) (block : ℕ) (lines : List (List ℕ)) → AreCodedLines picture block lines
    → length lines ≡ picture.lines
lines_count picture block lines coded =
    sym (AllZip-length (IsCodedLine (form_with picture block)) (rows_of picture) lines coded)
    ∙ length-map-range_with_len (line_pixels picture) 0 picture.lines

bodies_short : (form : Form) (rows lines : List (List ℕ)) → AllZip (IsCodedLine form) rows lines
    → All (λ body. length body ≤ most_body_bytes) lines
bodies_short form [] [] coded k d inside = absurd (omega arith)
bodies_short form [] (line ∷ lines) coded k d inside = absurd coded
bodies_short form (row ∷ rows) [] coded k d inside = absurd coded
bodies_short form (row ∷ rows) (line ∷ lines) coded zero d inside = omega (arith, coded.0.short)
bodies_short form (row ∷ rows) (line ∷ lines) coded (suc k) d inside =
    bodies_short form rows lines coded.1 k d (omega arith)

-- the same file, by its parts
pub file_is : (vc apid : ℕ) (first : List ℕ) (picture : Picture) (block : ℕ) (lines : List (List ℕ)) → vc < 64
    → apid < IDLE_APPLICATION → AreCodedLines picture block lines → picture.lines < 65536 → 10 ≤ length first
    → length first ≤ most_body_bytes → length first + length (concat lines) ≤ most_file_bytes
    → IsFile (record { vc = vc; apid = apid; bodies = first ∷ lines })
file_is vc apid first picture block lines channel application coded narrow least short most = record {
  channel = channel;
  application = application;
  some = omega arith;
  few = omega (arith, lines_count picture block lines coded);
  short = first_too;
  least = omega (arith, length-append first (concat lines));
  most = omega (arith, length-append first (concat lines));
}
  where
    first_too : All (λ body. length body ≤ most_body_bytes) (first ∷ lines)
    first_too zero d inside = omega (arith, short)
    first_too (suc k) d inside = bodies_short (form_with picture block) (rows_of picture) lines coded k d (omega arith)

first_size : (counter : ℕ) (s : Structure) (block : ℕ) (others : List ℕ) (size : ℕ)
    → length (front_with counter s block others size) ≡ 42 + length others
unfolding front_with
first_size counter s block others size = omega arith

-- what the code hands in makes the file
pub record IsMade (file : File) (s : Structure) (block : ℕ) (others : List ℕ) (lines : List (List ℕ)) (vc apid : ℕ)
    (lengths bytes : List ℕ) : Type 0 where
  pub is_file : IsFile (file_with_lines file s block others lines)
  pub makes : MakeFile vc apid lengths bytes
  pub same : file_of vc apid lengths bytes ≡ file_with_lines file s block others lines

pub is_made : (file : File) (s : Structure) (pixels others : List ℕ) (block : ℕ) (lines : List (List ℕ))
    (lengths bytes all : List ℕ) (vc apid counter : ℕ) → AreCodedLines (picture_with s pixels) block lines
    → s.lines < 65536 → vc ≡ file.vc → vc < 64 → apid ≡ file.apid → apid < IDLE_APPLICATION → counter ≡ counter_of file
    → all ≡ concat lines → bytes ≡ front_with counter s block others (length all) ++ all
    → lengths ≡ (42 + length others) ∷ map length lines → 42 + length others ≤ most_body_bytes
    → 42 + length others + length all ≤ most_file_bytes → IsMade file s block others lines vc apid lengths bytes
is_made file s pixels others block lines lengths bytes all vc apid counter coded narrow vc_is vc_fits apid_is apid_fits
    counter_is all_is bytes_are lengths_are short few =
    let front = front_with (counter_of file) s block others (length (concat lines)) in
    let whole = file_with_lines file s block others lines in
    let wide = first_size (counter_of file) s block others (length (concat lines)) in
    let file_is_one : IsFile whole =
    file_is file.vc file.apid front (picture_with s pixels) block lines (omega (arith, vc_is, vc_fits))
    (omega (arith, apid_is, apid_fits)) coded narrow (omega (arith, wide)) (omega (arith, wide, short))
    (omega (arith, wide, few, ap length all_is)) in
    let makes = MakeFile-parts whole file_is_one in
    let sizes : map length whole.bodies ≡ lengths =
    ap (λ (n : ℕ). n ∷ map length lines) wide ∙ sym lengths_are in
    let joined : bytes_of whole ≡ bytes =
    sym (bytes_are ∙ ap (λ (l : List ℕ). front_with counter s block others (length l) ++ l) all_is
    ∙ ap (λ (n : ℕ). front_with n s block others (length (concat lines)) ++ concat lines) counter_is) in
    record {
      is_file = file_is_one;
      makes = subst (λ (v : ℕ). MakeFile v apid lengths bytes) (sym vc_is)
          (subst (λ (a : ℕ). MakeFile file.vc a lengths bytes) (sym apid_is)
          (subst (λ (l : List ℕ). MakeFile file.vc file.apid l bytes) sizes
          (subst (λ (b : List ℕ). MakeFile file.vc file.apid (map length whole.bodies) b) joined makes)));
      same = ap (λ (v : ℕ). file_of v apid lengths bytes) vc_is
          ∙ ap (λ (a : ℕ). file_of file.vc a lengths bytes) apid_is
          ∙ ap (λ (l : List ℕ). file_of file.vc file.apid l bytes) (sym sizes)
          ∙ ap (λ (b : List ℕ). file_of file.vc file.apid (map length whole.bodies) b) (sym joined)
          ∙ file_of-parts whole;
    }
