-- What was seen so far, and one entry more.
use Rattle.std.proofs.Common.{◌≡◌, ℕ, zero, suc, ◌+◌, ◌<◌, Option, Some, Ok, List, [], ◌∷◌, ◌++◌}
use Rattle.std.proofs.Common.{length, take, refl, arith, ap, ◌∙◌, sym, subst, append-nil, length-append, slice_get}
use Rattle.std.proofs.Common.{get_or, inl, inr}
use Rattle.std.specs.List.{concat}
use Rattle.std.proofs.Math.Seq.{get_or-append_seam}
use Rattle.std.proofs.lemmas.Bool.{cases_lt}
use Rattle.std.proofs.lemmas.List.{get_or_append_left, take-append-le, take_all}
use Rattle.std.proofs.lemmas.List.Folds.{concat-append}
use Rattle.std.proofs.lemmas.Option.{slice_get_within}
use Rattle.lr_disk.specs.declared.disk.Disk.{Ghosts as DiskOf}
use Rattle.lr_shelf_format.specs.Way.{Way}
use Rattle.lr_shelf_format.specs.declared.entry.Entry.{Entry}
use Rattle.lr_cmd_shelf.specs.Queries.{Query, IsSeen, EntryView, Sight, entry_at}
use Rattle.lr_cmd_shelf.specs.Read.{AreSeen, EntriesSeen, WasSeen, entries_seen}

-- ---- one at the end

pub concat-push : (xs : List (List ℕ)) (x : List ℕ) → concat (xs ++ x ∷ []) ≡ concat xs ++ x
concat-push xs x = concat-append xs (x ∷ []) ∙ ap (λ (l : List ℕ). concat xs ++ l) (append-nil x)

get_before : {A : Type 0} (xs ys : List A) (i : ℕ) → i < length xs → slice_get (xs ++ ys) i ≡ slice_get xs i
get_before [] ys i h = absurd (omega (arith, h))
get_before (x ∷ xs) ys zero h = refl
get_before (x ∷ xs) ys (suc i) h = get_before xs ys i (omega (arith, h))

get_last : {A : Type 0} (xs : List A) (x : A) → slice_get (xs ++ x ∷ []) (length xs) ≡ Some x
get_last [] x = refl
get_last (y ∷ xs) x = get_last xs x

some_same : {A : Type 0} (a b : A) → Some a ≡ Some b → a ≡ b
some_same a b is = cc (is)

-- ---- what was seen

module _ {D : Type 0} (disk : DiskOf D) (d : D) (query : Query) (way : Way) (from : ℕ) where
  pub none_seen : AreSeen disk d (entries_seen query way from []) []
  none_seen = record {
    stand = λ i h. absurd (omega (arith, h));
    count = refl;
    become = λ i seen is. absurd (omega (arith, slice_get_within [] i seen is));
  }

  module _ (read : List EntryView) (texts : List (List ℕ))
      (are : AreSeen disk d (entries_seen query way from read) texts)
      (seen : EntryView)
      (text : List ℕ)
      (was : WasSeen disk d query.sees (entry_at way (from + length read)) (Some seen))
      (fate : query.fate read (from + length read) seen ≡ Ok text) where
    abbrev all : List EntryView
    all = read ++ seen ∷ []

    stand_more : (i : ℕ) → i < length all → WasSeen disk d query.sees (entry_at way (from + i)) (slice_get all i)
    stand_more i h = elim (cases_lt i (length read)) [
      | inl less ↦
          subst (λ (o : Option EntryView). WasSeen disk d query.sees (entry_at way (from + i)) o)
          (sym (get_before read (seen ∷ []) i less)) (are.stand i less)
      | inr more ↦
          let here : length read ≡ i = omega (arith, h, more, length-append read (seen ∷ [])) in
          subst (λ (k : ℕ). WasSeen disk d query.sees (entry_at way (from + k)) (slice_get all k)) here
          (subst (λ (o : Option EntryView). WasSeen disk d query.sees (entry_at way (from + length read)) o)
          (sym (get_last read seen)) was)
    ]

    become_more : (i : ℕ) (one : EntryView) → slice_get all i ≡ Some one
        → query.fate (take i all) (from + i) one ≡ Ok (get_or (texts ++ text ∷ []) i [])
    become_more i one is = elim (cases_lt i (length read)) [
      | inl less ↦
          ap (λ (r : List EntryView). query.fate r (from + i) one)
          (take-append-le i read (seen ∷ []) (omega (arith, less)))
          ∙ are.become i one (sym (get_before read (seen ∷ []) i less) ∙ is)
          ∙ ap (λ (t : List ℕ). Ok t)
          (sym (get_or_append_left texts (text ∷ []) [] i (omega (arith, less, are.count))))
      | inr more ↦
          let here : length read ≡ i =
          omega (arith, more, slice_get_within all i one is, length-append read (seen ∷ [])) in
          let same : seen ≡ one =
          some_same seen one (sym (get_last read seen) ∙ ap (slice_get all) here ∙ is) in
          let front : take i all ≡ read =
          take-append-le i read (seen ∷ []) (omega (arith, here)) ∙ take_all i read (omega (arith, here)) in
          let last : get_or (texts ++ text ∷ []) i [] ≡ text =
          ap (λ (k : ℕ). get_or (texts ++ text ∷ []) k []) (sym here ∙ sym are.count)
          ∙ get_or-append_seam texts text [] [] in
          ap (λ (r : List EntryView). query.fate r (from + i) one) front
          ∙ ap (λ (k : ℕ). query.fate read (from + k) one) (sym here)
          ∙ ap (query.fate read (from + length read)) (sym same) ∙ fate ∙ ap (λ (t : List ℕ). Ok t) (sym last)
    ]

    pub one_more_seen : AreSeen disk d (entries_seen query way from all) (texts ++ text ∷ [])
    one_more_seen = record {
      stand = stand_more;
      count = omega (
        arith,
        are.count,
        length-append read (seen ∷ []),
        length-append texts (text ∷ []),
      );
      become = become_more;
    }

-- the disk was read before, with the same contents
module _ {D : Type 0} (disk : DiskOf D) (d d1 : D) (told : disk.tells d → disk.tells d1)
    (same : disk.tells d → disk.contents d1 ≡ disk.contents d) where
  pub was_before : (sees : Sight) (entry : Entry) (seen : Option EntryView) → WasSeen disk d1 sees entry seen
      → WasSeen disk d sees entry seen
  was_before sees entry seen was = record {
    sight = was.sight;
    stands = λ t. subst (λ (l : List ℕ). IsSeen sees l entry seen) (same t) (was.stands (told t));
  }

  pub seen_before : (seen : EntriesSeen) (texts : List (List ℕ)) → AreSeen disk d1 seen texts
      → AreSeen disk d seen texts
  seen_before seen texts are = record {
    stand = λ i h.
        was_before seen.query.sees (entry_at seen.way (seen.from + i)) (slice_get seen.read i) (are.stand i h);
    count = are.count;
    become = are.become;
  }
