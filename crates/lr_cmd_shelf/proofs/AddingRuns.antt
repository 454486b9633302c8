-- What a command that adds an item does, by what it read before and what adding the item answered.
use Rattle.std.proofs.Common.{◌≡◌, ◌⊎◌, inl, inr, ℕ, Result, Ok, Err, IfErr, List}
use Rattle.std.proofs.Common.{ap, ◌∙◌, sym, subst}
use Rattle.lr_disk.specs.Disk.{LeavesOnly}
use Rattle.lr_disk.specs.Reads.{IsOnlyRead, IsUnwritten}
use Rattle.lr_disk.specs.declared.disk.Disk.{Ghosts as DiskOf}
use Rattle.lr_disk.proofs.Moments.{only_read_joined}
use Rattle.lr_shelf_format.specs.Items.{Item}
use Rattle.lr_shelf_format.specs.ShelfBytes.{StandsForShelf}
use Rattle.lr_shelf_format.specs.Way.{IsWay}
use Rattle.lr_shelf_format.specs.declared.stored.Stored.{Stored}
use Rattle.lr_shelf.specs.Adds.{Adds}
use Rattle.lr_shelf.specs.Calls.{IsFaultCounted}
use Rattle.lr_shelf.specs.Kept.{KeptShelf, kept_by, shelf_on}
use Rattle.lr_shelf.proofs.Loaded.{IsReady}
use Rattle.lr_shelf.specs.Read.{Gets}
use Rattle.lr_shelf.specs.Shelf.{KeepsWay}
use Rattle.lr_shelf.specs.declared.shelf.Shelf.{Shelf}
use Rattle.lr_shelf.specs.declared.error.ShelfError.{ShelfError}
use Rattle.lr_shelf.specs.declared.error.ShelfError.TheVariants.{Disk as Disk'}

-- what a crash may have left has one property and the other
pub both : {D : Type 0} (moment : D → ℕ) (left_since : D → ℕ → List ℕ → Type 0) (old new : D) (P Q : List ℕ → Type 0)
    → LeavesOnly moment left_since old new P → LeavesOnly moment left_since old new Q
    → LeavesOnly moment left_since old new (λ c. P c × Q c)
both moment left_since old new P Q one other = record {
  later = one.later;
  each = λ c left. (one.each c left, other.each c left);
  before = λ t c le left. then c (one.before t c le left) (other.before t c le left);
  keeps = one.keeps;
} where
  then : {W : Type 0} (c : List ℕ) → W ⊎ P c → W ⊎ Q c → W ⊎ (P c × Q c)
  then c (inl was) is = inl was
  then c (inr now) (inl was) = inl was
  then c (inr now) (inr also) = inr (now, also)

-- ---- what was read

module _ {D : Type 0} (disk : DiskOf D) where
  module _ (reads_on : (x y z : D) → disk.only_read x y → disk.only_read y z → disk.only_read x z)
      (d d1 d2 : D) (old new : Shelf) (number : ℕ) (result : Result Stored ShelfError)
      (ready : IsReady disk d d1 old) (gets : Gets disk number (shelf_on old d1) (shelf_on new d2) result) where
    abbrev since : disk.tells d → IsUnwritten disk d1 d2
    since t = gets.reads.only_read.unwritten (ready.tell.told t)

    pub only_read_got : IsOnlyRead disk d d2
    only_read_got = only_read_joined disk reads_on d d1 d2 ready.tell.told ready.only_read gets.reads.only_read

    pub told_got : disk.tells d → disk.tells d2
    told_got t = gets.reads.calls.tell.told (ready.tell.told t)

    pub untold_got : disk.tells d2 → disk.tells d
    untold_got t = ready.tell.untold (gets.reads.calls.tell.untold t)

    pub ready_got : (stored : Stored) → result ≡ Ok stored → IsReady disk d d2 new
    ready_got stored is = record {
      tell = record { told = told_got; untold = untold_got };
      only_read = only_read_got;
      count =
          subst (λ (r : Result Stored ShelfError). IsFaultCounted (disk.faults d1) (disk.faults d2) r) is
          gets.reads.calls.counted ∙ ready.count;
      works = ap (λ (k : KeptShelf). k.failed) gets.kept ∙ ready.works;
      keeps = λ t.
          subst (λ (l : List ℕ). KeepsWay l new) (sym (since t).contents)
          (subst (λ (k : KeptShelf). IsWay (disk.contents d1) k.way) (sym gets.kept) (ready.keeps t));
      settled = λ capacity items t durable.
          let was = ready.settled capacity items t durable in
          record {
            told = told_got t;
            kept = record {
              way = ap (λ (k : KeptShelf). k.way) gets.kept ∙ was.kept.way;
              working = ap (λ (k : KeptShelf). k.failed) gets.kept ∙ was.kept.working;
            };
            on_disk = record {
              stands =
                  subst (λ (l : List ℕ). StandsForShelf l capacity items) (sym (since t).contents) was.on_disk.stands;
              durable = λ c image. was.on_disk.durable c ((since t).images c image) ∙ sym (since t).contents;
            };
          };
      synced = λ t c image. ready.synced t c ((since t).images c image) ∙ sym (since t).contents;
    }

-- ---- what adding an item refused

module _ {D : Type 0} (disk : DiskOf D) where
  module _ {A : Type 0} (d d1 d2 : D) (shelf shelf2 : Shelf) (item : Item) (ready : IsReady disk d d1 shelf)
      (answer : Result A ShelfError) (adding : Adds disk item (shelf_on shelf d1) (shelf_on shelf2 d2) answer) where
    pub told_through : disk.tells d → disk.tells d2
    told_through t = adding.calls.tell.told (ready.tell.told t)

    pub untold_through : disk.tells d2 → disk.tells d
    untold_through t = ready.tell.untold (adding.calls.tell.untold t)

    -- it was refused, and nothing was written
    module _ (error : ShelfError) (is : answer ≡ Err error) (not_disk : error ≡ Disk' → ⊥) where
      stays : d2 ≡ d1
      stays =
          by (subst (λ (r : Result A ShelfError). IfErr r
          (λ e. (e ≡ Disk') ⊎ ((d2 ≡ d1) × (kept_by shelf2 ≡ kept_by shelf)))) is adding.untouched) where
            by : (error ≡ Disk') ⊎ ((d2 ≡ d1) × (kept_by shelf2 ≡ kept_by shelf)) → d2 ≡ d1
            by (inl failed) = absurd (not_disk failed)
            by (inr same) = same.0

      pub only_read_still : IsOnlyRead disk d d2
      only_read_still = subst (λ (x : D). IsOnlyRead disk d x) (sym stays) ready.only_read

      pub count_still : disk.faults d2 ≡ disk.faults d
      count_still = ap disk.faults stays ∙ ready.count
