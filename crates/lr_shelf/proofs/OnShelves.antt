-- Files that come onto the bytes of a shelf.
use Rattle.std.proofs.Common.{◌≡◌, inl, inr, ℕ, suc, ◌-◌, ◌≤◌, All, List, [], ◌∷◌, ◌++◌}
use Rattle.std.proofs.Common.{map, take, refl, sym, ◌∙◌, ap, subst, arith}
use Rattle.std.proofs.Common.{append_assoc, append-nil}
use Rattle.std.proofs.lemmas.List.{map_push, take_at}
use Rattle.std.specs.List.{flat_map}
use Rattle.lr_bits.specs.declared.placed.Placed.{Placed}
use Rattle.lr_shelf_format.specs.Gates.{IsClosedAfter, front}
use Rattle.lr_shelf_format.specs.Header.{header_bytes}
use Rattle.lr_shelf_format.specs.Items.{IsItem, IsProper, Item, head_of_item, item_bytes}
use Rattle.lr_shelf_format.specs.Items.{add_item, discard_item, old_item}
use Rattle.lr_shelf_format.specs.ShelfBytes.{StandsForShelf, end_of, entries_of}
use Rattle.lr_shelf_format.specs.Way.{Way, way_of}
use Rattle.lr_shelf_format.proofs.ReadingLemmas.{length-front}
use Rattle.lr_shelf_format.proofs.WalkLemmas.{IsProper-push}
use Rattle.lr_shelf_format.proofs.WayLemmas.{has_way}
use Rattle.lr_shelf.specs.Append.{item_for}
use Rattle.lr_disk.specs.declared.disk.Disk.{Ghosts as DiskOf}
use Rattle.lr_shelf.specs.InitialShelves.{FilesComeOntoShelves, IsSettledOn, StandsWith, shelf_before, with_files}
use Rattle.lr_shelf.specs.Shelf.{IsSettled}
use Rattle.lr_shelf.specs.declared.shelf.Shelf.{Shelf}
use Rattle.lr_shelf.specs.Prefixes.{HasRoom, gated_file, way_with_files}
use Rattle.lr_shelf.proofs.AddingLemmas.{All-push, front-push, shut_last, way_of-push}
use Rattle.lr_shelf.proofs.InitialPrefixes.{begun_way}
use Rattle.lr_shelf.proofs.Prefixes.{way_end}

-- files after the first one
with_files-more : (items : List Item) (placed : Placed) (files : List Placed)
    → with_files (items ++ item_for placed ∷ []) files ≡ with_files items (placed ∷ files)
with_files-more items placed files = append_assoc items (item_for placed ∷ []) (map item_for files)

pub way_of_items : (capacity : ℕ) (files : List Placed) (items : List Item)
    → way_with_files files (way_of capacity items) ≡ way_of capacity (with_files items files)
way_of_items capacity [] items = ap (way_of capacity) (sym (append-nil items))
way_of_items capacity (placed ∷ files) items =
    ap (way_with_files files) (way_of-push capacity items (item_for placed))
    ∙ way_of_items capacity files (items ++ item_for placed ∷ [])
    ∙ ap (way_of capacity) (with_files-more items placed files)

-- an Add item may follow any items
stays_proper : (files : List Placed) (items : List Item) → IsProper (map head_of_item items)
    → IsProper (map head_of_item (with_files items files))
stays_proper [] items proper =
    subst (λ (l : List Item). IsProper (map head_of_item l)) (sym (append-nil items)) proper
stays_proper (placed ∷ files) items proper =
    subst (λ (l : List Item). IsProper (map head_of_item l)) (with_files-more items placed files)
    (stays_proper files (items ++ item_for placed ∷ [])
    (subst IsProper (sym (map_push head_of_item items (item_for placed)))
    (IsProper-push (map head_of_item items) (head_of_item (item_for placed)) proper tt)))

-- the files stand after the items
front_is : (version capacity : ℕ) (files : List Placed) (items : List Item)
    → front (header_bytes version capacity) (map item_bytes items) ++ flat_map gated_file files
    ≡ front (header_bytes version capacity) (map item_bytes (with_files items files))
front_is version capacity [] items =
    append-nil (front (header_bytes version capacity) (map item_bytes items))
    ∙ ap (λ (l : List Item). front (header_bytes version capacity) (map item_bytes l)) (sym (append-nil items))
front_is version capacity (placed ∷ files) items =
    let header = header_bytes version capacity in
    sym (append_assoc (front header (map item_bytes items)) (gated_file placed) (flat_map gated_file files))
    ∙ ap (λ (l : List ℕ). l ++ flat_map gated_file files) (sym (front-push version capacity items (item_for placed)))
    ∙ front_is version capacity files (items ++ item_for placed ∷ [])
    ∙ ap (λ (l : List Item). front header (map item_bytes l)) (with_files-more items placed files)

each_with : (files : List Placed) (items : List Item) → All IsItem items → All IsItem (map item_for files)
    → All IsItem (with_files items files)
each_with [] items each more = subst (All IsItem) (sym (append-nil items)) each
each_with (placed ∷ files) items each more =
    subst (All IsItem) (with_files-more items placed files)
    (each_with files (items ++ item_for placed ∷ [])
    (All-push items (item_for placed) each (more 0 (item_for placed) (omega arith)))
    (λ k d inside. more (suc k) d (omega (arith, inside))))

still_fits : (capacity : ℕ) (items : List Item) (files : List Placed) → end_of items ≤ capacity
    → HasRoom (way_of capacity items) files → end_of (with_files items files) ≤ capacity
still_fits capacity items files fits (inl none) =
    subst (λ (l : List Item). end_of l ≤ capacity)
    (sym (ap (λ (l : List Placed). with_files items l) none ∙ append-nil items)) fits
still_fits capacity items files fits (inr room) =
    omega (
      arith,
      room,
      way_end files (way_of capacity items),
      ap (λ (w : Way). w.end) (way_of_items capacity files items),
    )

module _ (capacity : ℕ) (items : List Item) (old bytes : List ℕ) (files : List Placed)
    (stood : StandsForShelf old capacity items) (stands : StandsWith (shelf_before capacity items old) files bytes)
  where
    before : take (end_of items - 1) old ≡ front (header_bytes stood.version capacity) (map item_bytes items)
    before =
        ap (take (end_of items - 1)) stood.shut.split
        ∙ take_at (front (header_bytes stood.version capacity) (map item_bytes items))
        (stood.shut.gate ∷ stood.shut.rest) (end_of items - 1)
        (omega (arith, length-front stood.version capacity items))

    shut : IsClosedAfter (front (header_bytes stood.version capacity) (map item_bytes (with_files items files))) bytes
    shut =
        subst (λ (l : List ℕ). IsClosedAfter l bytes)
        (stands.front ∙ ap (λ (l : List ℕ). l ++ flat_map gated_file files) before
        ∙ front_is stood.version capacity files items)
        (shut_last bytes (way_with_files files (way_of capacity items)) stands.is_way)

come_onto : (capacity : ℕ) (items : List Item) (old bytes : List ℕ) (files : List Placed)
    → StandsForShelf old capacity items → StandsWith (shelf_before capacity items old) files bytes
    → StandsForShelf bytes capacity (with_files items files)
come_onto capacity items old bytes files stood stands = record {
  version = stood.version;
  known = stood.known;
  each = each_with files items stood.each stands.each;
  proper = stays_proper files items stood.proper;
  allowed = stood.allowed;
  fits = still_fits capacity items files stood.fits stands.room;
  shut = shut capacity items old bytes files stood stands;
}

pub files_come_onto_shelves : FilesComeOntoShelves
files_come_onto_shelves = record {
  none = λ capacity items bytes stands. begun_way (way_of capacity items) bytes (has_way bytes capacity items stands);
  some = come_onto;
}

-- ---- a shelf in memory, and its entries

-- one of these items, before any file
pub settled_before : {D : Type 0} (disk : DiskOf D) (capacity : ℕ) (items : List Item) (shelf : Shelf) (d : D)
    → IsSettled disk capacity items shelf d
    → IsSettledOn (shelf_before capacity items (disk.contents d)) [] disk shelf d
settled_before disk capacity items shelf d s = record {
  told = s.told;
  kept = record { way = s.kept.way; working = s.kept.working };
  on_disk = record {
    stands = files_come_onto_shelves.none capacity items (disk.contents d) s.on_disk.stands;
    durable = s.on_disk.durable;
  };
}

pub entries_of-append : (items more : List Item) → entries_of (items ++ more) ≡ entries_of items ++ entries_of more
entries_of-append [] more = refl
entries_of-append (old_item file ∷ items) more =
    ap (λ (l : List Item). old_item file ∷ l) (entries_of-append items more)
entries_of-append (add_item file origin ∷ items) more =
    ap (λ (l : List Item). add_item file origin ∷ l) (entries_of-append items more)
entries_of-append (discard_item number ∷ items) more = entries_of-append items more

pub entries_of-files : (files : List Placed) → entries_of (map item_for files) ≡ map item_for files
entries_of-files [] = refl
entries_of-files (placed ∷ files) = ap (λ (l : List Item). item_for placed ∷ l) (entries_of-files files)
