-- Files with what their lines note, and the files alone.
use Rattle.std.proofs.Common.{◌≡◌, ℕ, zero, suc, ◌<◌, ◌==◌, false, Some, None, List, [], ◌∷◌, ◌++◌, map, length}
use Rattle.std.proofs.Common.{get_or, refl, ◌∙◌, ap, arith}
use Rattle.std.specs.Prelude.{slice_get}
use Rattle.std.proofs.lemmas.List.{length-map, map-append}
use Rattle.lr_bits.specs.declared.outcome.Outcome.{Outcome}
use Rattle.lr_bits.specs.declared.placed.Placed.{Placed}
use Rattle.lr_layers.specs.Origins.{MarkedPlaced, fillers_in, marked_of_outcomes, placed_in}
use Rattle.lr_cmd_receive.specs.Noted.{NotedFile, noted_file, noted_of_outcomes, noted_where, noted_with}
use Rattle.lr_cmd_receive.specs.Noted.{placed_files, placed_of}

pub placed-append : (xs ys : List NotedFile) → placed_files (xs ++ ys) ≡ placed_files xs ++ placed_files ys
placed-append xs ys = map-append placed_of xs ys

pub placed_split : {files : List NotedFile} (xs ys : List NotedFile) → files ≡ xs ++ ys
    → placed_files files ≡ placed_files xs ++ placed_files ys
placed_split xs ys split = ap placed_files split ∙ placed-append xs ys

pub length-placed : (files : List NotedFile) → length (placed_files files) ≡ length files
length-placed files = length-map files placed_of

-- ---- files and numbers of fillers side by side

pub length-noted : (files : List Placed) (fillers : List ℕ) → length (noted_with files fillers) ≡ length files
length-noted [] fillers = refl
length-noted (placed ∷ files) [] = ap suc (length-noted files [])
length-noted (placed ∷ files) (count ∷ fillers) = ap suc (length-noted files fillers)

pub noted_at : (files : List Placed) (fillers : List ℕ) (i : ℕ) (x : Placed) (d : NotedFile) → i < length files
    → x ≡ get_or files i x → noted_file x (slice_get fillers i) ≡ get_or (noted_with files fillers) i d
noted_at [] fillers i x d inside is = absurd (omega (arith, inside))
noted_at (placed ∷ files) [] zero x d inside is = ap (λ (p : Placed). noted_file p None) is
noted_at (placed ∷ files) [] (suc i) x d inside is = noted_at files [] i x d (omega (arith, inside)) is
noted_at (placed ∷ files) (count ∷ fillers) zero x d inside is = ap (λ (p : Placed). noted_file p (Some count)) is
noted_at (placed ∷ files) (count ∷ fillers) (suc i) x d inside is =
    noted_at files fillers i x d (omega (arith, inside)) is

-- ---- the files of outcomes

-- those of more outcomes
pub noted_more : (mend : ℕ) (outcomes later : List Outcome) (more : List MarkedPlaced)
    → marked_of_outcomes mend (outcomes ++ later) ≡ marked_of_outcomes mend outcomes ++ more
    → noted_of_outcomes mend (outcomes ++ later)
    ≡ noted_of_outcomes mend outcomes ++ map (noted_where mend) more
unfolding noted_of_outcomes
noted_more mend outcomes later more is =
    ap (map (noted_where mend)) is ∙ map-append (noted_where mend) (marked_of_outcomes mend outcomes) more

-- where they are noted
pub mended_are : (mend : ℕ) (more : List MarkedPlaced) → (mend == 0) ≡ false
    → map (noted_where mend) more ≡ noted_with (map placed_in more) (map fillers_in more)
mended_are mend [] is = refl
mended_are mend (marked ∷ more) is =
    rw is (ap (λ (l : List NotedFile). noted_file marked.placed (Some marked.fillers) ∷ l) (mended_are mend more is))

-- and where they aren't
pub plain_are : (more : List MarkedPlaced) → map (noted_where 0) more ≡ noted_with (map placed_in more) []
plain_are [] = refl
plain_are (marked ∷ more) = ap (λ (l : List NotedFile). noted_file marked.placed None ∷ l) (plain_are more)

pub plain-append : (xs ys : List Placed) → noted_with (xs ++ ys) [] ≡ noted_with xs [] ++ noted_with ys []
plain-append [] ys = refl
plain-append (x ∷ xs) ys = ap (λ (l : List NotedFile). noted_file x None ∷ l) (plain-append xs ys)

-- those of outcomes of which none is mended
pub plain_noted : (outcomes : List Outcome)
    → noted_of_outcomes 0 outcomes ≡ noted_with (map placed_in (marked_of_outcomes 0 outcomes)) []
unfolding noted_of_outcomes
plain_noted outcomes = plain_are (marked_of_outcomes 0 outcomes)

-- the files alone are those that the layers place
pub placed_are : (mend : ℕ) (outcomes : List Outcome)
    → placed_files (noted_of_outcomes mend outcomes) ≡ map placed_in (marked_of_outcomes mend outcomes)
unfolding noted_of_outcomes
placed_are mend outcomes = all (marked_of_outcomes mend outcomes)
  where
    all : (more : List MarkedPlaced) → placed_files (map (noted_where mend) more) ≡ map placed_in more
    all [] = refl
    all (marked ∷ more) = ap (λ (l : List Placed). marked.placed ∷ l) (all more)
