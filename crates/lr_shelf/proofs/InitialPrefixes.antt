-- Prefixes of files after what was there: before any file, and with one more.
use Rattle.std.proofs.Common.{◌≡◌, ◌-◌, inl, inr, false, ℕ, List, [], ◌∷◌, ◌++◌, take, refl, sym, ◌∙◌, ap}
use Rattle.std.proofs.Common.{subst, arith, append_assoc, append-nil}
use Rattle.lr_bits.specs.declared.placed.Placed.{Placed}
use Rattle.lr_disk.specs.Reads.{IsUnwritten}
use Rattle.lr_disk.specs.declared.disk.Disk.{Ghosts as DiskOf}
use Rattle.lr_disk.specs.Pending.{EachImageSince, NothingPending}
use Rattle.lr_disk.proofs.Moments.{joined, weaker}
use Rattle.lr_shelf_format.specs.Way.{IsWay, Way}
use Rattle.lr_shelf.specs.Prefixes.{way_with_files}
use Rattle.lr_shelf.specs.Kept.{kept_by}
use Rattle.lr_shelf.specs.declared.shelf.Shelf.{Shelf}
use Rattle.lr_shelf.specs.InitialShelves.{InitialShelf, HoldsStill, initial_shelf}
use Rattle.lr_shelf.specs.InitialShelves.{KeepsOn, LeavesPrefixes, StandsForPrefix, StandsWith}
use Rattle.lr_shelf.specs.InitialShelves.{StandsWithEither}

-- ---- fronts

module _ (initial : InitialShelf) where
  pub front_none : (bytes : List ℕ) → StandsWith initial [] bytes → StandsForPrefix initial [] 0 bytes
  front_none bytes s = record { first = []; rest = []; split = refl; enough = omega arith; stands = s }

  pub front_more : (done more : List Placed) (n : ℕ) (bytes : List ℕ) → StandsForPrefix initial done n bytes
      → StandsForPrefix initial (done ++ more) n bytes
  front_more done more n bytes s = record {
    first = s.first;
    rest = s.rest ++ more;
    split = ap (λ (l : List Placed). l ++ more) s.split ∙ append_assoc s.first s.rest more;
    enough = s.enough;
    stands = s.stands;
  }

  either_front : (done : List Placed) (placed : Placed) (bytes : List ℕ) → StandsWithEither initial done placed bytes
      → StandsForPrefix initial (done ++ placed ∷ []) 0 bytes
  either_front done placed bytes (inl s) =
      record { first = done; rest = placed ∷ []; split = refl; enough = omega arith; stands = s }
  either_front done placed bytes (inr s) = record {
    first = done ++ placed ∷ [];
    rest = [];
    split = sym (append-nil (done ++ placed ∷ []));
    enough = omega arith;
    stands = s;
  }

module _ {D : Type 0} (disk : DiskOf D) (initial : InitialShelf) (d mid d' : D) (done : List Placed)
    (so_far : LeavesPrefixes disk initial done d mid) where
  -- more files that aren't there yet
  pub fronts_of_more : (more : List Placed) → LeavesPrefixes disk initial (done ++ more) d mid
  fronts_of_more more =
      weaker disk.moment disk.left_since d mid _ _ (λ c s. front_more initial done more 0 c s) so_far

  -- and then one more file came, or it didn't
  pub fronts_with : (placed : Placed)
      → EachImageSince disk mid d' (StandsWithEither initial done placed)
      → LeavesPrefixes disk initial (done ++ placed ∷ []) d d'
  fronts_with placed run =
      joined disk.moment disk.left_since d mid d' _ (fronts_of_more (placed ∷ []))
      (weaker disk.moment disk.left_since mid d' _ _ (λ c s. either_front initial done placed c s) run)

-- ---- what stands there before any file

pub begun_way : (way : Way) (bytes : List ℕ) → IsWay bytes way → StandsWith (initial_shelf way bytes) [] bytes
begun_way way bytes is = record {
  is_way = is;
  room = inl refl;
  each = λ k d inside. absurd (omega (arith, inside));
  front = sym (append-nil (take (way.end - 1) bytes));
}

-- a disk that was only read since
module _ {D : Type 0} (disk : DiskOf D) (initial : InitialShelf) (d d1 : D) (unwritten : IsUnwritten disk d d1)
    (stands : StandsWith initial [] (disk.contents d)) (only : NothingPending disk d) where
  pub still_holds : HoldsStill initial [] disk d1
  still_holds = record {
    stands = subst (StandsWith initial []) (sym unwritten.contents) stands;
    durable = λ c image. only c (unwritten.images c image) ∙ sym unwritten.contents;
  }

  pub still_left : EachImageSince disk d d1 (StandsWith initial [])
  still_left =
      weaker disk.moment disk.left_since d d1 _ _
      (λ c image. subst (StandsWith initial []) (sym (only c image)) stands) unwritten.any_moment

-- ---- the shelf in memory

-- one that got these files
pub keeps_on : (initial : InitialShelf) (files : List Placed) (shelf shelf' : Shelf) → KeepsOn initial [] shelf
    → (kept_by shelf').way ≡ way_with_files files (kept_by shelf).way → (kept_by shelf').failed ≡ false
    → KeepsOn initial files shelf'
keeps_on initial files shelf shelf' kept is working = record {
  way = is ∙ ap (way_with_files files) kept.way;
  working = working;
}
