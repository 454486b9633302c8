-- Over every disk: where a shelf ends after more files, and whether there was room for them.
use Rattle.std.proofs.Common.{◌≡◌, inl, inr, ◌≤◌, ℕ, List, [], ◌∷◌, ◌++◌, min, refl, sym, ap, ◌∙◌}
use Rattle.std.proofs.Common.{subst, arith, append_assoc, append-nil}
use Rattle.lr_bits.specs.declared.placed.Placed.{Placed}
use Rattle.lr_bits.specs.Sizes.{most_u64}
use Rattle.lr_shelf_format.specs.Way.{Way}
use Rattle.lr_shelf.specs.Append.{item_for}
use Rattle.lr_shelf.specs.Kept.{kept_by, kept_with}
use Rattle.lr_shelf.specs.declared.shelf.Shelf.{Shelf}
use Rattle.lr_causes.specs.declared.cause.Cause.{Cause}
use Rattle.lr_causes.specs.declared.cause.Cause.TheVariants.{NoMemory, Refused}
use Rattle.lr_causes.specs.declared.cause.Refusal.TheVariants.{Capacity}
use Rattle.lr_shelf.specs.Prefixes.{HasRoom, end_with}
use Rattle.lr_shelf.proofs.Prefixes.{end_with-append}
use Rattle.lr_cmd_receive.specs.Onto.{IsFullWith}
use Rattle.lr_cmd_receive.specs.Shelved.{Grows, GrowsNoMore, shelf_in}
use Rattle.lr_causes.specs.Outside.{Outlets}

-- there is one file
pub some : (xs : List Placed) (x : Placed) (ys : List Placed) → xs ++ x ∷ ys ≡ [] → ⊥
some [] x ys is = cc (is)
some (y ∷ xs) x ys is = cc (is)

pub none_in : {X : Type 0} (xs ys : List X) → xs ++ ys ≡ [] → (xs ≡ []) × (ys ≡ [])
none_in {X} [] ys is = (refl, is)
none_in {X} (x ∷ xs) ys is = absurd (let no : x ∷ (xs ++ ys) ≡ [] = is in cc (no))

pub room_after : (way way' : Way) (xs ys : List Placed) → way'.end ≡ end_with way.end xs → way'.capacity ≡ way.capacity
    → HasRoom way xs → HasRoom way' ys → HasRoom way (xs ++ ys)
room_after way way' xs ys ends same first (inl none) =
    subst (λ (l : List Placed). HasRoom way l) (sym (ap (λ (l : List Placed). xs ++ l) none ∙ append-nil xs)) first
room_after way way' xs ys ends same first (inr fits) =
    inr (omega (arith, end_with-append way.end xs ys, ap (λ (n : ℕ). end_with n ys) ends, same, fits))

module _ {D O : Type 0} where
  -- no file
  pub grows_none : (shelf : Shelf) (w : Outlets D O) → Grows [] (shelf_in shelf w) (shelf_in shelf w)
  grows_none shelf w = record { ends = omega arith; same = refl; room = inl refl; none = λ is. (refl, refl) }

  module _ {xs ys : List Placed} {shelf shelf1 : Shelf} {w w1 : Outlets D O}
      (first : Grows xs (shelf_in shelf w) (shelf_in shelf1 w1)) where
    -- files after files
    pub grows_on : {shelf2 : Shelf} {w2 : Outlets D O} → Grows ys (shelf_in shelf1 w1) (shelf_in shelf2 w2)
        → Grows (xs ++ ys) (shelf_in shelf w) (shelf_in shelf2 w2)
    grows_on next = record {
      ends = next.ends ∙ ap (λ (n : ℕ). end_with n ys) first.ends
          ∙ sym (end_with-append (kept_by shelf).way.end xs ys);
      same = next.same ∙ first.same;
      room = room_after (kept_by shelf).way (kept_by shelf1).way xs ys first.ends first.same first.room next.room;
      none = λ is.
          let both = none_in xs ys is in
          let before = first.none both.0 in
          let after = next.none both.1 in
          (after.0 ∙ before.0, after.1 ∙ before.1);
    }

    full_on : {needed most : ℕ} → IsFullWith (kept_by shelf1).way needed most ys
        → IsFullWith (kept_by shelf).way needed most (xs ++ ys)
    full_on full =
        let way = (kept_by shelf).way in
        let there : end_with way.end ((xs ++ full.done) ++ full.next ∷ [])
        ≡ end_with (kept_by shelf1).way.end (full.done ++ full.next ∷ []) =
        ap (λ (l : List Placed). end_with way.end l) (append_assoc xs full.done (full.next ∷ []))
        ∙ end_with-append way.end xs (full.done ++ full.next ∷ [])
        ∙ ap (λ (n : ℕ). end_with n (full.done ++ full.next ∷ [])) (sym first.ends) in
        record {
          done = xs ++ full.done;
          next = full.next;
          rest = full.rest;
          split = ap (λ (l : List Placed). xs ++ l) full.split
              ∙ sym (append_assoc xs full.done (full.next ∷ full.rest));
          room = room_after way (kept_by shelf1).way xs full.done first.ends first.same first.room full.room;
          over = omega (arith, there, first.same, full.over);
          needs = full.needs ∙ ap (λ (n : ℕ). min n most_u64) (sym there);
          of = full.of ∙ first.same;
        }

    -- shelving stopped after some files
    pub stops_after : {cause : Cause} {w2 : Outlets D O} → GrowsNoMore cause ys (shelf_in shelf1 w1) w2
        → GrowsNoMore cause (xs ++ ys) (shelf_in shelf w) w2
    stops_after stops = record {
      full = λ needed most is. full_on (stops.full needed most is);
      none = λ is.
          let both = none_in xs ys is in
          let before = first.none both.0 in
          let after = stops.none both.1 in
          (after.0, after.1 ∙ before.0, after.2 ∙ before.1);
    }

  -- it stopped before more of them
  pub stops_before : {cause : Cause} {xs : List Placed} (ys : List Placed) {shelf : Shelf} {w w' : Outlets D O}
      → GrowsNoMore cause xs (shelf_in shelf w) w' → GrowsNoMore cause (xs ++ ys) (shelf_in shelf w) w'
  stops_before {cause} {xs} ys stops = record {
    full = λ needed most is.
        let full = stops.full needed most is in
        record {
          done = full.done;
          next = full.next;
          rest = full.rest ++ ys;
          split =
              ap (λ (l : List Placed). l ++ ys) full.split ∙ append_assoc full.done (full.next ∷ full.rest) ys;
          room = full.room;
          over = full.over;
          needs = full.needs;
          of = full.of;
        };
    none = λ is. stops.none (none_in xs ys is).0;
  }

  -- it stopped for want of memory, before anything was done
  pub stops_for_memory : (files : List Placed) (shelf : Shelf) (w : Outlets D O)
      → GrowsNoMore NoMemory files (shelf_in shelf w) w
  stops_for_memory files shelf w = record { full = λ needed most is. cc (is); none = λ is. (refl, refl, refl) }

  -- one file was appended, and its line put
  pub grows_one : (placed : Placed) (shelf shelf' : Shelf) (w w' : Outlets D O)
      → kept_by shelf' ≡ kept_with (item_for placed) (kept_by shelf)
      → end_with (kept_by shelf).way.end (placed ∷ []) ≤ (kept_by shelf).way.capacity
      → Grows (placed ∷ []) (shelf_in shelf w) (shelf_in shelf' w')
  grows_one placed shelf shelf' w w' kept fits = record {
    ends = omega (arith, ap (λ (k : Rattle.lr_shelf.specs.Kept.KeptShelf). k.way.end) kept);
    same = ap (λ (k : Rattle.lr_shelf.specs.Kept.KeptShelf). k.way.capacity) kept;
    room = inr fits;
    none = λ is. cc (is);
  }

  -- it wasn't, whatever the cause but the capacity
  pub stops_at_one : (cause : Cause) (placed : Placed) (shelf : Shelf) (w w' : Outlets D O)
      → ((needed most : ℕ) → cause ≡ Refused (Capacity needed most) → ⊥)
      → GrowsNoMore cause (placed ∷ []) (shelf_in shelf w) w'
  stops_at_one cause placed shelf w w' other = record {
    full = λ needed most is. absurd (other needed most is);
    none = λ is. cc (is);
  }
