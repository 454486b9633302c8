-- The ways out of `append` and `discard`.
use Rattle.std.proofs.Common.{◌≡◌, ◌≢◌, inl, inr, ℕ, ◌+◌, ◌≤◌, Bool, true, false, List, [], ◌∷◌}
use Rattle.std.proofs.Common.{◌++◌, length, take, drop}
use Rattle.std.proofs.Common.{Result, Ok, Err, refl, sym, ◌∙◌, ap, subst, arith, length-append}
use Rattle.lr_bits.specs.Faults.{Rose}
use Rattle.lr_bits.proofs.Telling.{tells_still}
use Rattle.lr_disk.specs.declared.disk.Disk.{Ghosts as DiskOf}
use Rattle.lr_disk.specs.Pending.{EachImageSince, NothingPending}
use Rattle.lr_disk.proofs.Moments.{stays, weaker}
use Rattle.lr_shelf_format.specs.Gates.{IsClosedAfter}
use Rattle.lr_shelf_format.specs.Items.{IsItem, Item, extent_of, head_of_item, item_bytes}
use Rattle.lr_shelf_format.specs.ShelfBytes.{StandsForShelf}
use Rattle.lr_shelf_format.specs.Way.{IsWay, MayJoin}
use Rattle.lr_shelf_format.specs.declared.entry.Entry.{Entry}
use Rattle.lr_shelf_format.proofs.ItemLemmas.{length-item_bytes}
use Rattle.lr_shelf.specs.Adding.{IsReady, StaysOutside, WithOrWithout}
use Rattle.lr_shelf.specs.Adds.{Adds, last_gate, new_end}
use Rattle.lr_shelf.specs.Calls.{IsFaultCounted}
use Rattle.lr_shelf.specs.Kept.{KeptShelf, kept_by, kept_with, shelf_on}
use Rattle.lr_shelf.specs.Shelf.{HasEitherWay, IsSettled, KeepsWay, StandsForEither}
use Rattle.lr_shelf.specs.declared.error.ShelfError.{ShelfError}
use Rattle.lr_shelf.specs.declared.error.ShelfError.TheVariants.{Disk, NotAShelf, NotEmpty}
use Rattle.lr_shelf.specs.declared.error.ShelfError.TheVariants.{Capacity, NoSuchFile, Crc}
use Rattle.lr_shelf.specs.declared.error.ShelfError.TheVariants.{NoMemory, Failed, Discarded}
use Rattle.lr_shelf.specs.declared.shelf.Shelf.{Shelf}
use Rattle.lr_shelf.proofs.AddingLemmas.{either_one, kept_after, ready_there, ready_way, shut_last}
use Rattle.lr_shelf.proofs.AddingLemmas.{way_after, way_either, with_it}

-- what a shelf keeps, of its parts
abbrev pub kept_made : ℕ → List Entry → ℕ → Bool → KeptShelf
kept_made capacity entries end failed = record {
  way = record { capacity = capacity; entries = entries; end = end };
  failed = failed;
}

-- a refusal other than `Disk` leaves the count
same_count : (A : Type 0) (n : ℕ) (error : ShelfError) → error ≢ Disk → IsFaultCounted {A = A} n n (Err error)
same_count A n Disk other = absurd (other refl)
same_count A n (NotAShelf at) other = refl
same_count A n (NotEmpty size) other = refl
same_count A n (Capacity needed capacity) other = refl
same_count A n (NoSuchFile count) other = refl
same_count A n (Crc stored computed) other = refl
same_count A n NoMemory other = refl
same_count A n Failed other = refl
same_count A n Discarded other = refl

module _ {A : Type 0} {D : Type 0} (disk : DiskOf D)
    (only_now : (d : D) (c : List ℕ) → disk.tells d → disk.left_since d (disk.moment d) c → disk.may_leave d c)
    (item : Item) (shelf : Shelf) (d : D) where
  error_of : (error error' : ShelfError) → ◌≡◌ {A = Result A ShelfError} (Err error) (Err error') → error ≡ error'
  error_of error error' same = cc (same)

  -- refused before the disk is written
  pub refused : (after : Shelf) (error : ShelfError) → error ≢ Disk → kept_by after ≡ kept_by shelf
      → Adds disk {A = A} item (shelf_on shelf d) (shelf_on after d) (Err error)
  refused after error other same = record {
    calls = record { tell = tells_still; counted = same_count A (disk.faults d) error other };
    untouched = inr (refl, same);
    failed = λ e. absurd (other (error_of _ _ e));
    working = tt;
    kept = tt;
    outside = λ told. record { before = refl; after = refl };
    outside_any_moment = λ told only. stays disk only_now d _ told (λ c image. still c (only c image));
    stands = λ told. tt;
    durable = λ told. tt;
    on_way = record {
      way = λ told keeps. tt;
      either = λ told keeps. inl keeps;
      any_moment = λ told keeps only.
          stays disk only_now d _ told
          (λ c image. inl (subst (λ (b : List ℕ). IsWay b (kept_by shelf).way) (sym (only c image)) keeps));
      bytes_any_moment = λ told keeps only.
          stays disk only_now d _ told
          (λ c image.
          inl (subst (IsClosedAfter (take (last_gate (kept_by shelf)) (disk.contents d))) (sym (only c image))
          (shut_last (disk.contents d) (kept_by shelf).way keeps)));
    };
    on_items = record {
      any_moment = λ capacity items s. stays disk only_now d _ s.told (unchanged capacity items s);
      acknowledged = λ capacity items s. tt;
      either = λ capacity items s. (inl s.on_disk.stands, unchanged capacity items s);
    };
  }
    where
      still : (c : List ℕ) → c ≡ disk.contents d
          → StaysOutside (last_gate (kept_by shelf)) (new_end item (kept_by shelf)) (disk.contents d) c
      still c same = record { before = ap (take _) same; after = ap (drop _) same }

      unchanged : (capacity : ℕ) (items : List Item) → IsSettled disk capacity items shelf d → (c : List ℕ)
          → disk.may_leave d c → StandsForEither capacity items item c
      unchanged capacity items s c image =
          inl (subst (λ (b : List ℕ). StandsForShelf b capacity items) (sym (s.on_disk.durable c image))
          s.on_disk.stands)

-- what is known when the item has been put, or not
module _ {D : Type 0} (disk : DiskOf D) (item : Item) (is : IsItem item) (shelf : Shelf)
    (may : MayJoin (kept_by shelf).way.entries (head_of_item item)) (d d' : D) (staged : List ℕ)
    (fits : new_end item (kept_by shelf) ≤ (kept_by shelf).way.capacity) (parts : staged ≡ item_bytes item ++ 0 ∷ [])
    (told : disk.tells d → disk.tells d') (untold : disk.tells d' → disk.tells d)
    (outside : disk.tells d
    → StaysOutside (last_gate (kept_by shelf)) (last_gate (kept_by shelf) + 1 + length staged) (disk.contents d)
    (disk.contents d'))
    (outside_moments : disk.tells d → NothingPending disk d
    → EachImageSince disk d d'
    (StaysOutside (last_gate (kept_by shelf)) (last_gate (kept_by shelf) + 1 + length staged) (disk.contents d)))
    (moments : (before item : List ℕ) → disk.tells d
    → IsReady before item staged (last_gate (kept_by shelf)) (disk.contents d)
    → NothingPending disk d
    → EachImageSince disk d d' (WithOrWithout before item))
    (counts_now : (d : D) (t : ℕ) (c : List ℕ) → disk.tells d → t ≤ disk.moment d → disk.may_leave d c
    → disk.left_since d t c) where
  size : 1 + length staged ≡ 2 + extent_of (head_of_item item)
  size = omega (arith, ap length parts, length-append (item_bytes item) (0 ∷ []), length-item_bytes item)

  place : last_gate (kept_by shelf) + 1 + length staged ≡ new_end item (kept_by shelf)
  place = omega (arith, size, shelf.some)

  at_any_moment : (capacity : ℕ) (items : List Item) → IsSettled disk capacity items shelf d
      → EachImageSince disk d d' (StandsForEither capacity items item)
  at_any_moment capacity items s =
      weaker disk.moment disk.left_since d d' _ _
      (either_one capacity items shelf (disk.contents d) item is may fits s.kept s.on_disk.stands)
      (moments _ _ s.told
      (ready_there capacity items shelf (disk.contents d) item is may fits s.kept s.on_disk.stands staged parts)
      s.on_disk.durable)

  bytes_moments : disk.tells d → KeepsWay (disk.contents d) shelf → NothingPending disk d
      → EachImageSince disk d d'
      (WithOrWithout (take (last_gate (kept_by shelf)) (disk.contents d)) (item_bytes item))
  bytes_moments t keeps only =
      moments _ _ t (ready_way (disk.contents d) (kept_by shelf).way keeps item is may staged parts) only

  way_moments : disk.tells d → KeepsWay (disk.contents d) shelf → NothingPending disk d
      → EachImageSince disk d d' (HasEitherWay (kept_by shelf).way item)
  way_moments t keeps only =
      weaker disk.moment disk.left_since d d' _ _
      (way_either (disk.contents d) (kept_by shelf).way keeps item is may fits) (bytes_moments t keeps only)

  now_either : (capacity : ℕ) (items : List Item) → IsSettled disk capacity items shelf d → (c : List ℕ)
      → disk.may_leave d' c → StandsForEither capacity items item c
  now_either capacity items s c image =
      let run = at_any_moment capacity items s in
      run.each c (counts_now d' (disk.moment d) c (told s.told) run.later image)

  -- it was put
  pub put : {A : Type 0} (answer : A) (after : Shelf) → disk.faults d' ≡ disk.faults d
      → (kept_by shelf).failed ≡ false
      → (disk.tells d
      → take (1 + length staged) (drop (last_gate (kept_by shelf)) (disk.contents d')) ≡ 1 ∷ staged)
      → (disk.tells d → NothingPending disk d')
      → ((before item : List ℕ) → disk.tells d
      → IsReady before item staged (last_gate (kept_by shelf)) (disk.contents d)
      → IsClosedAfter (before ++ 1 ∷ item) (disk.contents d'))
      → kept_by after ≡ kept_with item (kept_by shelf) → Adds disk {A = A} item (shelf_on shelf d)
      (shelf_on after d') (Ok answer)
  put {A = A} answer after count works stands durable done one = record {
    calls = record { tell = record { told = told; untold = untold }; counted = count };
    untouched = tt;
    failed = λ e. cc (e);
    working = works;
    kept = one;
    outside = λ t.
        subst (λ n. StaysOutside (last_gate (kept_by shelf)) n (disk.contents d) (disk.contents d')) place (outside t);
    outside_any_moment = λ t only.
        subst
        (λ n.
        EachImageSince disk d d'
        (StaysOutside (last_gate (kept_by shelf)) n (disk.contents d)))
        place (outside_moments t only);
    stands = λ t.
        subst
        (λ n. take n (drop (last_gate (kept_by shelf)) (disk.contents d')) ≡ 1 ∷ (item_bytes item ++ 0 ∷ []))
        size (stands t ∙ ap (λ (l : List ℕ). 1 ∷ l) parts);
    durable = durable;
    on_way = record {
      way = λ t keeps.
          subst (IsWay (disk.contents d')) (sym (ap (λ (k : KeptShelf). k.way) one))
          (way_after (disk.contents d) (kept_by shelf).way keeps item is may (disk.contents d')
          (done _ _ t (ready_way (disk.contents d) (kept_by shelf).way keeps item is may staged parts)));
      either = λ t keeps.
          inr (
            way_after (disk.contents d) (kept_by shelf).way keeps item is may (disk.contents d')
                (done _ _ t (ready_way (disk.contents d) (kept_by shelf).way keeps item is may staged parts)),
            fits,
          );
      any_moment = way_moments;
      bytes_any_moment = bytes_moments;
    };
    on_items = record {
      any_moment = at_any_moment;
      acknowledged = λ capacity items s. record {
        told = told s.told;
        kept = kept_after capacity items shelf (disk.contents d) item is may fits s.kept s.on_disk.stands after one;
        on_disk = record {
          stands = there capacity items s;
          durable = durable s.told;
        };
      };
      either = λ capacity items s. (inr (there capacity items s), now_either capacity items s);
    };
  }
    where
      there : (capacity : ℕ) (items : List Item) → IsSettled disk capacity items shelf d
          → StandsForShelf (disk.contents d') capacity (items ++ item ∷ [])
      there capacity items s =
          with_it capacity items shelf (disk.contents d) item is may fits s.kept s.on_disk.stands (disk.contents d')
          (done _ _ s.told
          (ready_there capacity items shelf (disk.contents d) item is may fits s.kept s.on_disk.stands staged parts))

  -- the disk failed
  pub stopped : {A : Type 0} (after : Shelf) → disk.faults d ≤ disk.faults d' → Rose (disk.faults d) (disk.faults d')
      → ((before item : List ℕ) → disk.tells d
      → IsReady before item staged (last_gate (kept_by shelf)) (disk.contents d)
      → WithOrWithout before item (disk.contents d'))
      → kept_by after ≡ record (kept_by shelf) { failed = true }
      → Adds disk {A = A} item (shelf_on shelf d) (shelf_on after d') (Err Disk)
  stopped {A = A} after later rose left keeps = record {
    calls = record { tell = record { told = told; untold = untold }; counted = (later, rose) };
    untouched = inl refl;
    failed = λ _. keeps;
    working = tt;
    kept = tt;
    outside = λ t.
        subst (λ n. StaysOutside (last_gate (kept_by shelf)) n (disk.contents d) (disk.contents d')) place (outside t);
    outside_any_moment = λ t only.
        subst
        (λ n.
        EachImageSince disk d d'
        (StaysOutside (last_gate (kept_by shelf)) n (disk.contents d)))
        place (outside_moments t only);
    stands = λ t. tt;
    durable = λ t. tt;
    on_way = record {
      way = λ t keeps. tt;
      either = λ t keeps.
          way_either (disk.contents d) (kept_by shelf).way keeps item is may fits (disk.contents d')
          (left _ _ t (ready_way (disk.contents d) (kept_by shelf).way keeps item is may staged parts));
      any_moment = way_moments;
      bytes_any_moment = bytes_moments;
    };
    on_items = record {
      any_moment = at_any_moment;
      acknowledged = λ capacity items s. tt;
      either = λ capacity items s. (
        either_one capacity items shelf (disk.contents d) item is may fits s.kept s.on_disk.stands (disk.contents d')
            (
            left _ _ s.told
            (ready_there capacity items shelf (disk.contents d) item is may fits s.kept s.on_disk.stands staged parts)
            ),
        now_either capacity items s,
      );
    };
  }
