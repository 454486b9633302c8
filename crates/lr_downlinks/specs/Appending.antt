-- What `append_next` does.
use Rattle.std.specs.Prelude.{◌≡◌, ◌≢◌, ◌⊎◌, ℕ, Bool, true, false, List, [], ◌∷◌, ◌++◌, Some, None, slice_get}
use Rattle.std.specs.Prelude.{Result, Ok, Err, OnOk, OnErr, IfErr}
use Rattle.lr_bits.specs.declared.placed.Placed.{Placed}
use Rattle.lr_disk.specs.declared.disk.Disk.{Ghosts as DiskOf}
use Rattle.lr_shelf.specs.Append.{Appends}
use Rattle.lr_shelf.specs.Kept.{kept_by}
use Rattle.lr_shelf.specs.declared.error.ShelfError.{ShelfError}
use Rattle.lr_shelf.specs.declared.error.ShelfError.TheVariants.{Disk, NoMemory}
use Rattle.lr_shelf.specs.declared.shelf.Shelf.{Shelf}
use Rattle.lr_downlinks.specs.Books.{BookView, shelf_of_book}
use Rattle.lr_downlinks.specs.Merge.{times_in_order}

-- the book is as it was; of the shelf, all that it keeps
pub record IsSameBook {D : Type 0} (old new : BookView D) : Type 0 where
  pub shelf : kept_by new.shelf ≡ kept_by old.shelf
  pub disk : new.disk ≡ old.disk
  pub order : new.order ≡ old.order
  pub failed : new.failed ≡ old.failed

-- a book of these parts, of which nothing is said whether the disk failed
abbrev pub book_view_of : {D : Type 0} → Shelf → D → List ℕ → BookView D
book_view_of shelf d order = record { shelf = shelf; disk = d; order = order; failed = false }

-- an append of the shelf, as an answer of the book
abbrev pub answer_to : Result ℕ ShelfError → Result Bool ShelfError
answer_to (Ok number) = Ok true
answer_to (Err error) = Err error

-- whether the disk failed in an append, with this answer of the next one
abbrev pub failed_after : Bool → Result Bool ShelfError → Bool
failed_after failed (Err Disk) = true
failed_after failed _ = failed

-- there was no memory for the order
pub record WantsMemory {D : Type 0} (old new : BookView D) (result : Result Bool ShelfError) : Type 0 where
  pub result_is : result ≡ Err NoMemory
  pub same : IsSameBook old new

-- a file of this downlink
pub record DownlinkFile : Type 0 where
  pub downlink : ℕ
  pub placed : Placed

abbrev pub downlink_file : ℕ → Placed → DownlinkFile
downlink_file downlink placed = record { downlink = downlink; placed = placed }

-- all files of this downlink
pub record DownlinkFiles : Type 0 where
  pub downlink : ℕ
  pub files : List Placed

abbrev pub downlink_files : ℕ → List Placed → DownlinkFiles
downlink_files downlink files = record { downlink = downlink; files = files }

module _ {D : Type 0} (disk : DiskOf D) where
  -- the file was appended to the shelf, and the downlink to the order, or the shelf refused it
  pub record AppendsFile (next : DownlinkFile) (old new : BookView D) (result : Result Bool ShelfError) : Type 0 where
    pub answer : Result ℕ ShelfError
    pub appends : Appends disk next.placed (shelf_of_book old) (shelf_of_book new) answer
    pub result_is : result ≡ answer_to answer
    pub order : OnOk answer (new.order ≡ old.order ++ next.downlink ∷ [])
    pub order_stays : OnErr answer (new.order ≡ old.order)

  pub record AppendsNext (own : DownlinkFiles) (old new : BookView D) (result : Result Bool ShelfError) : Type 0 where
    -- `false` exactly where there is no file left, and then nothing is changed
    pub none : slice_get own.files (times_in_order own.downlink old.order) ≡ None
        → (result ≡ Ok false) × IsSameBook old new
    pub nothing : result ≡ Ok false → slice_get own.files (times_in_order own.downlink old.order) ≡ None
    -- else the next one is appended
    pub next : (placed : Placed) → slice_get own.files (times_in_order own.downlink old.order) ≡ Some placed
        → AppendsFile (downlink_file own.downlink placed) old new result ⊎ WantsMemory old new result
    -- a refusal but `Disk` leaves the book as it was, and after `Disk` it says so
    pub refused : IfErr result (λ error. error ≢ Disk → IsSameBook old new)
    pub failed : new.failed ≡ failed_after old.failed result
