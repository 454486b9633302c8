-- What a run leaves, from what the type of its book keeps.
use Rattle.std.proofs.Common.{◌≡◌, ◌⊎◌, inl, inr, ◌<◌, ◌+◌, ℕ, zero, suc, Bool, true, false, Some, List, [], ◌∷◌, ◌^◌}
use Rattle.std.proofs.Common.{◌++◌, length, take, map, refl, sym, ap, ◌∙◌, subst, arith}
use Rattle.std.specs.Prelude.{slice_get, option_map}
use Rattle.std.specs.Borrow.{GName}
use Rattle.std.proofs.lemmas.Option.{slice_get-map, slice_get_within}
use Rattle.std.proofs.Math.Seq.{take-append_seam}
use Rattle.lr_bits.specs.Faults.{Rose}
use Rattle.lr_bits.specs.declared.placed.Placed.{Placed}
use Rattle.lr_conv.specs.declared.line.LineCode.{LineCode}
use Rattle.lr_disk.specs.declared.disk.Disk.{Ghosts as DiskOf}
use Rattle.lr_shelf_format.specs.Items.{Item}
use Rattle.lr_shelf_format.specs.ShelfBytes.{StandsForShelf, entries_of}
use Rattle.lr_shelf.specs.Append.{item_for}
use Rattle.lr_shelf.specs.InitialShelves.{InitialShelf, StandsWith, StandsWithEither, shelf_before, with_files}
use Rattle.lr_shelf.specs.Kept.{KeptShelf, kept_by, shelf_on}
use Rattle.lr_shelf.specs.Shelf.{IsSettled}
use Rattle.lr_shelf.specs.declared.shelf.Shelf.{Shelf}
use Rattle.lr_shelf.proofs.OnShelves.{entries_of-append, entries_of-files, files_come_onto_shelves, settled_before}
use Rattle.lr_shelf.proofs.ItemsKept.{entry_count_is}
use Rattle.lr_downlinks.specs.Books.{BeginsRun, BookView, Broke, IsBookOf, KeepsBook, StandsOver}
use Rattle.lr_downlinks.specs.Books.{BookWorks, WorksOrBroke}
use Rattle.lr_downlinks.specs.Ending.{RunEndsWith}
use Rattle.lr_downlinks.specs.Members.{AreMembers}
use Rattle.lr_downlinks.specs.Merge.{IsNextOf, IsWhole, merge, times_in_order}
use Rattle.lr_downlinks.specs.Receipts.{HasFileAt}
use Rattle.lr_downlinks.specs.Room.{AllFit, NextDoesNotFit}
use Rattle.lr_downlinks.specs.Runs.{MergeEnds, MergesOver, merging, all_files}
use Rattle.lr_downlinks.specs.Appended.{HasAppended}
use Rattle.lr_downlinks.specs.Start.{Start, files_in, merged}
use Rattle.lr_downlinks.specs.Streams.{files_of_downlink}
use Rattle.lr_downlinks.specs.declared.member.Member.{Member}
use Rattle.lr_downlinks.specs.declared.run.RunEnd.{RunEnd}
use Rattle.lr_downlinks.specs.declared.run.RunEnd.TheVariants.{All, Disk, NoMemory, Capacity}
use Rattle.lr_shelf.proofs.Prefixes.{entries_after_files}
use Rattle.lr_downlinks.proofs.Merging.{get-merge, has_file, length-merge, merge-none}
use Rattle.lr_downlinks.proofs.Room.{full_where_all_do_not_fit}

-- ---- entries

get_after : {A : Type 0} (xs ys : List A) (k : ℕ) → slice_get (xs ++ ys) (length xs + k) ≡ slice_get ys k
get_after {A} [] ys k = let e : length {A = A} [] + k ≡ k = omega arith in ap (slice_get ys) e
get_after (x ∷ xs) ys k =
    let e : length (x ∷ xs) + k ≡ suc (length xs + k) = omega arith in
    ap (slice_get (x ∷ (xs ++ ys))) e ∙ get_after xs ys k

get_before : {A : Type 0} (xs ys : List A) (k : ℕ) (x : A) → slice_get xs k ≡ Some x → slice_get (xs ++ ys) k ≡ Some x
get_before [] ys k x e = absurd (cc (e))
get_before (y ∷ xs) ys zero x e = e
get_before (y ∷ xs) ys (suc k) x e = get_before xs ys k x e

module _ (capacity : ℕ) (items : List Item) (old : List ℕ) (stood : StandsForShelf old capacity items) (at : ℕ)
    (placed : Placed) where
  -- the entry of a file that was put after some items
  has_file_at : (files : List Placed) → slice_get files at ≡ Some placed → (bytes : List ℕ)
      → StandsWith (shelf_before capacity items old) files bytes
      → HasFileAt capacity (length (entries_of items) + at) placed bytes
  has_file_at files is bytes stands = record {
    items = with_files items files;
    stands = files_come_onto_shelves.some capacity items old bytes files stood stands;
    there =
        ap (λ (l : List Item). slice_get l (length (entries_of items) + at))
        (entries_of-append items (map item_for files)
        ∙ ap (λ (l : List Item). entries_of items ++ l) (entries_of-files files))
        ∙ get_after (entries_of items) (map item_for files) at
        ∙ slice_get-map item_for files at
        ∙ ap (option_map item_for) is;
  }

  -- also where one more came
  has_file_either : (files : List Placed) → slice_get files at ≡ Some placed → (more : Placed) (bytes : List ℕ)
      → StandsWithEither (shelf_before capacity items old) files more bytes
      → HasFileAt capacity (length (entries_of items) + at) placed bytes
  has_file_either files is more bytes (inl stands) = has_file_at files is bytes stands
  has_file_either files is more bytes (inr stands) =
      has_file_at (files ++ more ∷ []) (get_before files (more ∷ []) at placed is) bytes stands

-- ---- a run

module _ {D : Type 0} (disk : DiskOf D) (handed : Shelf → D → Type 0) (streams : List (List ℕ)) (line : LineCode)
    (shelf : Shelf) (name : GName) (d : D) where
  abbrev begun_as : Start
  begun_as = record { streams = streams; line = line; disk = name; way = (kept_by shelf).way }

  abbrev count : ℕ
  count = length streams

  abbrev files : ℕ → List Placed
  files = files_of_downlink line streams

  module _ (name' : GName) (book : BookView D) (keeps : KeepsBook disk begun_as handed name' book)
      (handed_in : handed shelf d) where
    over : StandsOver disk begun_as (shelf_on shelf d) book
    over = keeps.stands shelf d handed_in

    works : book.failed ≡ false → BookWorks disk begun_as (shelf_on shelf d) book
    works e = subst (λ (b : Bool). WorksOrBroke disk begun_as (shelf_on shelf d) b book) e over.state

    broke : book.failed ≡ true → Broke disk begun_as (shelf_on shelf d) book
    broke e = subst (λ (b : Bool). WorksOrBroke disk begun_as (shelf_on shelf d) b book) e over.state

    ends_for : (result : RunEnd) → RunEndsWith begun_as book result
        → MergeEnds (merging count files book.order) disk result (shelf_on shelf d) book.disk
    ends_for All ends = ((works ends.0).appended, ends.1)
    ends_for Disk ends =
        let b = broke ends in
        record { downlink = b.downlink; placed = b.placed; next = b.next; appended = b.appended }
    ends_for NoMemory ends = (works ends).appended
    ends_for (Capacity needed capacity) ends = ((works ends.0).appended, ends.1)

    -- where none has a file left, none has a next file
    no_next : IsWhole count files book.order → (downlink : ℕ) (placed : Placed)
        → IsNextOf count files book.order downlink placed → ⊥
    no_next whole downlink placed next =
        omega (
          arith,
          whole downlink next.known,
          slice_get_within (files downlink) (times_in_order downlink book.order) placed next.next,
        )

    whole_for : (result : RunEnd) → RunEndsWith begun_as book result → IsWhole count files book.order
        → (result ≡ All) ⊎ (result ≡ NoMemory)
    whole_for All ends whole = inl refl
    whole_for Disk ends whole = let b = broke ends in absurd (no_next whole b.downlink b.placed b.next)
    whole_for NoMemory ends whole = inr refl
    whole_for (Capacity needed capacity) ends whole =
        absurd (no_next whole ends.1.full.downlink ends.1.placed ends.1.full.least.next)

    full_for : (result : RunEnd) → RunEndsWith begun_as book result → (placed : Placed)
        → NextDoesNotFit count files book.order (kept_by shelf).way placed
        → (result ≡ Disk) ⊎ (result ≡ NoMemory)
        ⊎ ((needed : ℕ) × (result ≡ Capacity needed (kept_by shelf).way.capacity))
    full_for All ends placed full = absurd (no_next ends.1 full.downlink placed full.least.next)
    full_for Disk ends placed full = inl refl
    full_for NoMemory ends placed full = inr (inl refl)
    full_for (Capacity needed capacity) ends placed full = inr (inr (needed, ap (Capacity needed) ends.1.of))

    complete_for : (result : RunEnd) → RunEndsWith begun_as book result
        → (Rose (disk.faults d) (disk.faults book.disk) → ⊥) → AllFit count files (kept_by shelf).way
        → (result ≡ All) ⊎ (result ≡ NoMemory)
    complete_for All ends still fit = inl refl
    complete_for Disk ends still fit = absurd (still (broke ends).appended.rose)
    complete_for NoMemory ends still fit = inr refl
    complete_for (Capacity needed capacity) ends still fit =
        absurd
        (full_where_all_do_not_fit count files book.order (kept_by shelf).way ends.1.placed keeps.files.order_is
        ends.1.full fit)

    untouched_for : (result : RunEnd) → RunEndsWith begun_as book result → book.order ≡ []
        → (result ≡ Disk) ⊎ (book.disk ≡ d)
    untouched_for result ends none = by_end result ends where
      nothing : merge files book.order ≡ []
      nothing = ap (merge files) none ∙ merge-none files

      by_end : (result : RunEnd) → RunEndsWith begun_as book result → (result ≡ Disk) ⊎ (book.disk ≡ d)
      by_end All ends = inr ((works ends.0).appended.none nothing)
      by_end Disk ends = inl refl
      by_end NoMemory ends = inr ((works ends).appended.none nothing)
      by_end (Capacity needed capacity) ends = inr ((works ends.0).appended.none nothing)

    module _ (at : ℕ) (placed : Placed) (is : slice_get (merge files book.order) at ≡ Some placed) (capacity : ℕ)
        (items : List Item) (s : IsSettled disk capacity items shelf d) where
      abbrev before : InitialShelf
      before = shelf_before capacity items (disk.contents d)

      -- contents and crash images have the file at this number
      abbrev has_entry : ℕ → Type 0
      has_entry number =
          HasFileAt capacity number placed (disk.contents book.disk)
          × ((c : List ℕ) → disk.may_leave book.disk c → HasFileAt capacity number placed c)

      entry_appended : HasAppended disk (shelf_on shelf d) (merge files book.order) book.disk
          → has_entry (length (entries_of items) + at)
      entry_appended has =
          let still = (has.on before (settled_before disk capacity items shelf d s)).0 in (
            has_file_at capacity items (disk.contents d) s.on_disk.stands at placed (merge files book.order) is
                (disk.contents book.disk) still.stands,
            λ c image. has_file_at capacity items (disk.contents d) s.on_disk.stands at placed
                (merge files book.order) is c
                (subst (StandsWith before (merge files book.order)) (sym (still.durable c image)) still.stands),
          )

      entry_by_end : (result : RunEnd) → RunEndsWith begun_as book result → has_entry (length (entries_of items) + at)
      entry_by_end All ends = entry_appended (works ends.0).appended
      entry_by_end Disk ends =
          let has = (broke ends).appended in
          let either = (has.on before (settled_before disk capacity items shelf d s)).0 in (
            has_file_either capacity items (disk.contents d) s.on_disk.stands at placed (merge files book.order) is
                (broke ends).placed (disk.contents book.disk) either.contents,
            λ c image. has_file_either capacity items (disk.contents d) s.on_disk.stands at placed
                (merge files book.order) is (broke ends).placed c (either.images c image),
          )
      entry_by_end NoMemory ends = entry_appended (works ends).appended
      entry_by_end (Capacity needed most) ends = entry_appended (works ends.0).appended

      entry_in : (result : RunEnd) → RunEndsWith begun_as book result
          → has_entry (length (kept_by shelf).way.entries + at)
      entry_in result ends =
          subst (λ (n : ℕ). has_entry (n + at))
          (sym (entry_count_is capacity items shelf s.on_disk.stands.proper s.kept)) (entry_by_end result ends)

    merges : (result : RunEnd) → RunEndsWith begun_as book result
        → (fits : length (kept_by shelf).way.entries + length book.order < 2 ^ 64)
        → MergesOver disk (all_files count files) (shelf_on shelf d) book.disk (record {
          base = length (kept_by shelf).way.entries;
          order = book.order;
          result = result;
          numbered = fits;
        })
    merges result ends fits = record {
      base = refl;
      order_is = keeps.files.order_is;
      ends = ends_for result ends;
      untouched = untouched_for result ends;
      whole = whole_for result ends;
      full = full_for result ends;
      complete = complete_for result ends;
      receipts = λ at inside.
          let one = has_file count files book.order keeps.files.order_is at inside in (
            one.0,
            sym (get-merge count files book.order keeps.files.order_is at inside) ∙ one.1,
            λ capacity items s. entry_in at one.0 one.1 capacity items s result ends,
          );
    }

  -- the start is named
  pub merges_over : (start : Start) → streams ≡ start.streams → line ≡ start.line
      → BeginsRun disk start handed name (shelf_on shelf d) → (name' : GName) (book : BookView D)
      → KeepsBook disk start handed name' book → (result : RunEnd) → RunEndsWith start book result
      → (base : ℕ) → base ≡ length (kept_by shelf).way.entries → (order : List ℕ) → order ≡ book.order
      → (fits : base + length order < 2 ^ 64)
      → MergesOver disk (all_files (length streams) (files_of_downlink line streams)) (shelf_on shelf d) book.disk
      (record {
        base = base;
        order = order;
        result = result;
        numbered = fits;
      })
  merges_over start streams_is line_is begun name' book keeps result ends base base_is order order_is fits =
      based base (sym base_is) order (sym order_is) fits
    where
      start_is : start ≡ begun_as
      start_is = λ i. record {
        streams = sym streams_is i;
        line = sym line_is i;
        disk = begun.disk_is i;
        way = begun.way_is i;
      }

      keeps' : KeepsBook disk begun_as handed name' book
      keeps' = subst (λ (s : Start). KeepsBook disk s handed name' book) start_is keeps

      ends' : RunEndsWith begun_as book result
      ends' = subst (λ (s : Start). RunEndsWith s book result) start_is ends

      based : (n : ℕ) → length (kept_by shelf).way.entries ≡ n → (order : List ℕ) → book.order ≡ order
          → (fits : n + length order < 2 ^ 64)
          → MergesOver disk (all_files (length streams) (files_of_downlink line streams)) (shelf_on shelf d)
          book.disk (record {
            base = n;
            order = order;
            result = result;
            numbered = fits;
          })
      based n is order order_is =
          subst (λ (m : ℕ). (fits : m + length order < 2 ^ 64)
          → MergesOver disk (all_files (length streams) (files_of_downlink line streams)) (shelf_on shelf d)
          book.disk (record {
            base = m;
            order = order;
            result = result;
            numbered = fits;
          })) is
          (subst (λ (o : List ℕ). (fits : length (kept_by shelf).way.entries + length o < 2 ^ 64)
          → MergesOver disk (all_files (length streams) (files_of_downlink line streams)) (shelf_on shelf d)
          book.disk (record {
            base = length (kept_by shelf).way.entries;
            order = o;
            result = result;
            numbered = fits;
          })) order_is
          (merges name' book keeps' begun.handed_in result ends'))

-- there are no more entries than a number counts
pub order_fits : {D : Type 0} (start : Start) (book : BookView D) → IsBookOf start book → (base : ℕ)
    → base ≡ length start.way.entries → base + length book.order < 2 ^ 64
order_fits start book is base base_is =
    omega (
      arith,
      base_is,
      book.shelf.entries.ok.0,
      book.shelf.entries.ok.1,
      book.shelf.entries.small,
      ap (λ (k : KeptShelf). length k.way.entries) is.kept,
      entries_after_files (merged start book.order) start.way,
      length-merge (length start.streams) (files_in start) book.order is.order_is,
    )

-- the members come back, as many as there were
pub members_after : (start : Start) (members : List Member) (size : ℕ) (rest : List Member) → AreMembers start members
    → length members ≡ size → (now : List Member) → now ≡ take size (members ++ rest) → AreMembers start now
members_after start members size rest are size_is now is =
    subst (λ (l : List Member). AreMembers start l)
    (sym (is
    ∙ ap (λ (n : ℕ). take n (members ++ rest)) (sym size_is)
    ∙ take-append_seam members rest)) are
