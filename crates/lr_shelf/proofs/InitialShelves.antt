-- One file more, after what was there.
use Rattle.std.proofs.Common.{◌≡◌, ℕ, ◌+◌, ◌≤◌, List, [], ◌∷◌, ◌++◌, Result, Ok}
use Rattle.std.proofs.Common.{length, min, sym, ◌∙◌, ap, arith}
use Rattle.lr_bits.specs.declared.placed.Placed.{Placed}
use Rattle.lr_bits.specs.Sizes.{most_u64}
use Rattle.lr_disk.specs.declared.disk.Disk.{Ghosts as DiskOf}
use Rattle.lr_disk.specs.Pending.{EachImageSince}
use Rattle.lr_shelf_format.specs.Items.{IsItem, head_of_item}
use Rattle.lr_shelf_format.specs.Way.{Way, way_with}
use Rattle.lr_shelf.specs.Adds.{Adds, needed_by, new_end}
use Rattle.lr_shelf.specs.Append.{item_for}
use Rattle.lr_shelf.specs.Kept.{KeptShelf, kept_by, shelf_on}
use Rattle.lr_shelf.specs.declared.error.ShelfError.{ShelfError}
use Rattle.lr_shelf.specs.declared.shelf.Shelf.{Shelf}
use Rattle.lr_shelf.proofs.Prefixes.{capacity_stays, either_left, either_moments, either_now}
use Rattle.lr_shelf.proofs.Prefixes.{end_with-append, entries_after_files, one_after, way_end}
use Rattle.lr_shelf.proofs.Prefixes.{way_with_files-push}
use Rattle.lr_shelf.specs.InitialShelves.{InitialShelf, IsSettledOn, StandsWithEither}
use Rattle.lr_shelf.specs.Prefixes.{end_with}

-- ---- a shelf in memory

module _ {D : Type 0} (disk : DiskOf D) (done : List Placed) (shelf : Shelf) (d : D) where
  -- the number that the next file gets
  pub number_is : (initial : InitialShelf) → IsSettledOn initial done disk shelf d
      → length (kept_by shelf).way.entries ≡ length initial.way.entries + length done
  number_is initial s = ap (λ (w : Way). length w.entries) s.kept.way ∙ entries_after_files done initial.way

  pub capacity_is : (initial : InitialShelf) → IsSettledOn initial done disk shelf d
      → (kept_by shelf).way.capacity ≡ initial.way.capacity
  capacity_is initial s = ap (λ (w : Way). w.capacity) s.kept.way ∙ capacity_stays done initial.way

  -- where it would end with the next file
  pub ends : (placed : Placed) (initial : InitialShelf) → IsSettledOn initial done disk shelf d
      → new_end (item_for placed) (kept_by shelf) ≡ end_with initial.way.end (done ++ placed ∷ [])
  ends placed initial s =
      omega (
        arith,
        ap (λ (w : Way). w.end) s.kept.way,
        way_end done initial.way,
        end_with-append initial.way.end done (placed ∷ []),
      )

  -- and how a refusal tells that
  pub needed_is : (placed : Placed) (initial : InitialShelf) → IsSettledOn initial done disk shelf d
      → needed_by (item_for placed) (kept_by shelf) ≡ min (end_with initial.way.end (done ++ placed ∷ [])) most_u64
  needed_is placed initial s = ap (λ (n : ℕ). min n most_u64) (ends placed initial s)

-- ---- an append

module _ {D A : Type 0} (disk : DiskOf D)
    (leaves_contents : (d : D) → disk.tells d → disk.may_leave d (disk.contents d))
    (counts_now : (d : D) (t : ℕ) (c : List ℕ) → disk.tells d → t ≤ disk.moment d → disk.may_leave d c
    → disk.left_since d t c)
    (done : List Placed) (placed : Placed) (is : IsItem (item_for placed)) (shelf shelf' : Shelf) (d d' : D) where
  module _ (result : Result A ShelfError) (adds : Adds disk (item_for placed) (shelf_on shelf d)
      (shelf_on shelf' d') result) (initial : InitialShelf) (s : IsSettledOn initial done disk shelf d) where
    pub moments_on : EachImageSince disk d d' (StandsWithEither initial done placed)
    moments_on =
        either_moments disk leaves_contents counts_now initial.way initial.bytes done placed is shelf shelf' d d'
        s.told s.kept.way s.on_disk.stands s.on_disk.durable result adds

    pub left_on : (c : List ℕ) → disk.may_leave d' c → StandsWithEither initial done placed c
    left_on c image =
        either_left disk leaves_contents counts_now initial.way initial.bytes done placed is shelf shelf' d d' s.told
        s.kept.way s.on_disk.stands s.on_disk.durable result adds c image

    pub now_on : StandsWithEither initial done placed (disk.contents d')
    now_on =
        either_now disk leaves_contents counts_now initial.way initial.bytes done placed is shelf shelf' d d' s.told
        s.kept.way s.on_disk.stands s.on_disk.durable result adds

  -- the file was appended
  pub settled_on : (answer : A) → Adds disk (item_for placed) (shelf_on shelf d) (shelf_on shelf' d') (Ok answer)
      → (initial : InitialShelf) → IsSettledOn initial done disk shelf d
      → IsSettledOn initial (done ++ placed ∷ []) disk shelf' d'
  settled_on answer adds initial s = record {
    told = adds.calls.tell.told s.told;
    kept = record {
      way = ap (λ (k : KeptShelf). k.way) adds.kept ∙ ap (way_with (head_of_item (item_for placed))) s.kept.way
          ∙ sym (way_with_files-push done placed initial.way);
      working = ap (λ (k : KeptShelf). k.failed) adds.kept ∙ s.kept.working;
    };
    on_disk = record {
      stands = one_after disk leaves_contents counts_now initial.way initial.bytes done placed is shelf shelf' d d'
          s.told s.kept.way s.on_disk.stands s.on_disk.durable answer adds;
      durable = adds.durable s.told;
    };
  }
