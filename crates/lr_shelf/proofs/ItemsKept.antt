-- The entries of a shelf of items.
use Rattle.std.proofs.Common.{◌≡◌, ◌+◌, ◌<◌, false, ℕ, zero, suc, Some, List, [], ◌∷◌, ◌++◌, length}
use Rattle.std.proofs.Common.{map, take, drop, All, refl, sym}
use Rattle.std.proofs.Common.{ap, ◌∙◌, subst, arith, append_assoc, length-append}
use Rattle.std.specs.List.{slice_get}
use Rattle.std.proofs.lemmas.List.{drop_at, take_at}
use Rattle.lr_shelf_format.specs.Header.{header_bytes}
use Rattle.lr_shelf_format.specs.Items.{IsItem, IsProper, Item, old_item, add_item, discard_item}
use Rattle.lr_shelf_format.specs.Items.{entry_count, extent_of, head_of_item, item_bytes}
use Rattle.lr_shelf_format.specs.ShelfBytes.{StandsForShelf, entries_of, steps_of}
use Rattle.lr_shelf_format.specs.Walk.{Step, heads_of}
use Rattle.lr_shelf_format.specs.Way.{Way, entries_after, entries_with, entries_with_gone, entry_in, item_at}
use Rattle.lr_shelf_format.specs.declared.entry.Entry.{Entry}
use Rattle.lr_shelf_format.specs.declared.item.ItemHead.{ItemHead}
use Rattle.lr_shelf_format.specs.declared.item.ItemHead.TheVariants.{Old, Add, Discard}
use Rattle.lr_shelf_format.proofs.HeaderLemmas.{length-header_bytes}
use Rattle.lr_shelf_format.proofs.ItemLemmas.{length-item_bytes}
use Rattle.lr_shelf_format.proofs.ReadingLemmas.{after_header, gated, heads_of-steps}
use Rattle.lr_shelf_format.proofs.WayLemmas.{length-entries_with_gone, of_walk}
use Rattle.lr_shelf.specs.Kept.{kept_by}
use Rattle.lr_shelf.specs.Shelf.{IsShelfOf}
use Rattle.lr_shelf.specs.declared.shelf.Shelf.{Shelf}

-- ---- their number

count_of_items : (items : List Item) → entry_count (map head_of_item items) ≡ length (entries_of items)
count_of_items [] = refl
count_of_items (old_item file ∷ items) = omega (arith, count_of_items items)
count_of_items (add_item file origin ∷ items) = omega (arith, count_of_items items)
count_of_items (discard_item number ∷ items) = count_of_items items

-- as many as there are Old and Add items
pub entry_count_is : (capacity : ℕ) (items : List Item) (shelf : Shelf) → IsProper (map head_of_item items)
    → IsShelfOf capacity items shelf → length (kept_by shelf).way.entries ≡ length (entries_of items)
entry_count_is capacity items shelf proper kept =
    let same : heads_of (steps_of 19 items) ≡ map head_of_item items = heads_of-steps 19 items in
    ap (λ (way : Way). length way.entries) kept.way
    ∙ (of_walk (steps_of 19 items) (subst IsProper (sym same) proper)).count
    ∙ ap entry_count same ∙ count_of_items items

-- ---- what stands at them

-- the item of this number stands at the entry
pub record StandsAt (bytes : List ℕ) (items : List Item) (number : ℕ) (entry : Entry) : Type 0 where
  pub item : Item
  pub is_it : slice_get (entries_of items) number ≡ Some item
  pub is_item : IsItem item
  pub bytes_are : item_at bytes entry ≡ item_bytes item

-- the entry of an item after this gate
abbrev entry_for : ℕ → ItemHead → Entry
entry_for gate head = record { gate = gate; extent = extent_of head; gone = false }

-- an entry at the end leaves those before it
in_front : (entries : List Entry) (entry : Entry) (n : ℕ) → n < length entries
    → entry_in (entries ++ entry ∷ []) n ≡ entry_in entries n
in_front [] entry n inside = absurd (omega (arith, inside))
in_front (first ∷ entries) entry zero inside = refl
in_front (first ∷ entries) entry (suc n) inside = in_front entries entry n (omega (arith, inside))

in_back : (entries : List Entry) (entry : Entry) → entry_in (entries ++ entry ∷ []) (length entries) ≡ entry
in_back [] entry = refl
in_back (first ∷ entries) entry = in_back entries entry

module _ (bytes : List ℕ) where
  -- one that is gone stands where it stood
  item_of_gone : (number : ℕ) (entries : List Entry) (n : ℕ)
      → item_at bytes (entry_in (entries_with_gone number entries) n) ≡ item_at bytes (entry_in entries n)
  item_of_gone number [] n = refl
  item_of_gone zero (first ∷ entries) zero = refl
  item_of_gone zero (first ∷ entries) (suc n) = refl
  item_of_gone (suc number) (first ∷ entries) zero = refl
  item_of_gone (suc number) (first ∷ entries) (suc n) = item_of_gone number entries n

  item_of_with : (gate : ℕ) (head : ItemHead) (entries : List Entry) (n : ℕ) → n < length entries
      → item_at bytes (entry_in (entries_with gate head entries) n) ≡ item_at bytes (entry_in entries n)
  item_of_with gate (Old head) entries n inside = ap (item_at bytes) (in_front entries _ n inside)
  item_of_with gate (Add head) entries n inside = ap (item_at bytes) (in_front entries _ n inside)
  item_of_with gate (Discard number) entries n inside = item_of_gone number entries n

  later_with : (gate : ℕ) (head : ItemHead) (entries : List Entry) (n : ℕ) → n < length entries
      → n < length (entries_with gate head entries)
  later_with gate (Old head) entries n inside = omega (
    arith,
    length-append entries (record { gate = gate; extent = extent_of (Old head); gone = false } ∷ []),
    inside,
  )
  later_with gate (Add head) entries n inside = omega (
    arith,
    length-append entries (record { gate = gate; extent = extent_of (Add head); gone = false } ∷ []),
    inside,
  )
  later_with gate (Discard number) entries n inside = omega (arith, length-entries_with_gone number entries, inside)

  item_of_after : (entries : List Entry) (steps : List Step) (n : ℕ) → n < length entries
      → item_at bytes (entry_in (entries_after entries steps) n) ≡ item_at bytes (entry_in entries n)
  item_of_after entries [] n inside = refl
  item_of_after entries (step ∷ steps) n inside =
      item_of_after (entries_with step.gate step.head entries) steps n (later_with step.gate step.head entries n inside)
      ∙ item_of_with step.gate step.head entries n inside

  item_there : (before : List ℕ) (gate : ℕ) (item : Item) (rest : List ℕ) (entry : Entry) → length before ≡ gate
      → bytes ≡ before ++ (1 ∷ (item_bytes item ++ rest)) → entry.gate ≡ gate
      → entry.extent ≡ extent_of (head_of_item item) → item_at bytes entry ≡ item_bytes item
  item_there before gate item rest entry place split gate_is extent_is =
      let one = item_bytes item in
      let further : bytes ≡ (before ++ 1 ∷ []) ++ (one ++ rest) =
      split ∙ sym (append_assoc before (1 ∷ []) (one ++ rest)) in
      let after : drop (entry.gate + 1) bytes ≡ one ++ rest =
      ap (drop (entry.gate + 1)) further
      ∙ drop_at (before ++ 1 ∷ []) (one ++ rest) (entry.gate + 1)
      (omega (arith, length-append before (1 ∷ []), place, gate_is)) in
      ap (take entry.extent) after ∙ take_at one rest entry.extent (length-item_bytes item ∙ sym extent_is)

  -- the entries of the items from a place on
  stands_at : (before : List ℕ) (from : ℕ) (items : List Item) (rest : List ℕ) (entries : List Entry) (k : ℕ)
      → length before ≡ from → bytes ≡ before ++ (gated items ++ rest) → All IsItem items
      → length entries + k < length (entries_after entries (steps_of from items))
      → StandsAt bytes items k (entry_in (entries_after entries (steps_of from items)) (length entries + k))
  stands_at before from [] rest entries k place split each inside = absurd (omega (arith, inside))
  stands_at before from (item ∷ items) rest entries k place split each inside =
      let one = item_bytes item in
      let next = from + 1 + extent_of (head_of_item item) in
      let further : bytes ≡ before ++ (1 ∷ (one ++ (gated items ++ rest))) =
      split ∙ ap (λ (l : List ℕ). before ++ (1 ∷ l)) (append_assoc one (gated items) rest) in
      let longer : length (before ++ (1 ∷ one)) ≡ next =
      omega (arith, length-append before (1 ∷ one), length-item_bytes item, place) in
      let more = further ∙ sym (append_assoc before (1 ∷ one) (gated items ++ rest)) in
      by_kind item k further (each 0 item (omega arith)) inside
      (λ es j within.
      stands_at (before ++ (1 ∷ one)) next items rest es j longer more
      (λ i d w. each (suc i) d (omega (arith, w))) within)
    where
      -- the first one
      first_of : (it : Item) (others : List Step)
          → bytes ≡ before ++ (1 ∷ (item_bytes it ++ (gated items ++ rest)))
          → item_at bytes
          (entry_in (entries_after (entries ++ entry_for from (head_of_item it) ∷ []) others) (length entries + 0))
          ≡ item_bytes it
      first_of it others there =
          ap
          (λ n. item_at bytes (entry_in (entries_after (entries ++ entry_for from (head_of_item it) ∷ []) others) n))
          (omega arith)
          ∙ item_of_after (entries ++ entry_for from (head_of_item it) ∷ []) others (length entries)
          (omega (arith, length-append entries (entry_for from (head_of_item it) ∷ [])))
          ∙ ap (item_at bytes) (in_back entries (entry_for from (head_of_item it)))
          ∙ item_there before from it (gated items ++ rest) (entry_for from (head_of_item it)) place there refl refl

      by_kind : (it : Item) (n : ℕ) → bytes ≡ before ++ (1 ∷ (item_bytes it ++ (gated items ++ rest))) → IsItem it
          → length entries + n < length (entries_after entries (steps_of from (it ∷ items)))
          → ((es : List Entry) (j : ℕ)
          → length es + j < length (entries_after es (steps_of (from + 1 + extent_of (head_of_item it)) items))
          → StandsAt bytes items j
          (entry_in (entries_after es (steps_of (from + 1 + extent_of (head_of_item it)) items)) (length es + j)))
          → StandsAt bytes (it ∷ items) n
          (entry_in (entries_after entries (steps_of from (it ∷ items))) (length entries + n))
      by_kind (old_item file) zero there is within others = record {
        item = old_item file;
        is_it = refl;
        is_item = is;
        bytes_are = first_of (old_item file)
            (steps_of (from + 1 + extent_of (head_of_item (old_item file))) items) there;
      }
      by_kind (old_item file) (suc n) there is within others =
          let it : Item = old_item file in
          let others_on = steps_of (from + 1 + extent_of (head_of_item it)) items in
          let es = entries ++ entry_for from (head_of_item it) ∷ [] in
          let index : length es + n ≡ length entries + suc n =
          omega (arith, length-append entries (entry_for from (head_of_item it) ∷ [])) in
          let one = others es n (omega (arith, within, index)) in
          record {
            item = one.item;
            is_it = one.is_it;
            is_item = one.is_item;
            bytes_are = ap (λ m. item_at bytes (entry_in (entries_after es others_on) m)) (sym index) ∙ one.bytes_are;
          }
      by_kind (add_item file origin) zero there is within others = record {
        item = add_item file origin;
        is_it = refl;
        is_item = is;
        bytes_are = first_of (add_item file origin)
            (steps_of (from + 1 + extent_of (head_of_item (add_item file origin))) items) there;
      }
      by_kind (add_item file origin) (suc n) there is within others =
          let it : Item = add_item file origin in
          let others_on = steps_of (from + 1 + extent_of (head_of_item it)) items in
          let es = entries ++ entry_for from (head_of_item it) ∷ [] in
          let index : length es + n ≡ length entries + suc n =
          omega (arith, length-append entries (entry_for from (head_of_item it) ∷ [])) in
          let one = others es n (omega (arith, within, index)) in
          record {
            item = one.item;
            is_it = one.is_it;
            is_item = one.is_item;
            bytes_are = ap (λ m. item_at bytes (entry_in (entries_after es others_on) m)) (sym index) ∙ one.bytes_are;
          }
      by_kind (discard_item number) n there is within others =
          let it : Item = discard_item number in
          let others_on = steps_of (from + 1 + extent_of (head_of_item it)) items in
          let es = entries_with_gone number entries in
          let index : length es + n ≡ length entries + n = omega (arith, length-entries_with_gone number entries) in
          let one = others es n (omega (arith, within, index)) in
          record {
            item = one.item;
            is_it = one.is_it;
            is_item = one.is_item;
            bytes_are = ap (λ m. item_at bytes (entry_in (entries_after es others_on) m)) (sym index) ∙ one.bytes_are;
          }

-- entry n of the items stands at the shelf's
pub entry_stands : (bytes : List ℕ) (capacity : ℕ) (items : List Item) (shelf : Shelf) (number : ℕ)
    → StandsForShelf bytes capacity items → IsShelfOf capacity items shelf → number < length (kept_by shelf).way.entries
    → StandsAt bytes items number (entry_in (kept_by shelf).way.entries number)
entry_stands bytes capacity items shelf number stands kept inside =
    let split = after_header bytes stands.version capacity items stands.shut in
    let entries : (kept_by shelf).way.entries ≡ entries_after [] (steps_of 19 items) =
    ap (λ (way : Way). way.entries) kept.way in
    subst (λ es. StandsAt bytes items number (entry_in es number)) (sym entries)
    (subst (λ n. StandsAt bytes items number (entry_in (entries_after [] (steps_of 19 items)) n)) (omega arith)
    (stands_at bytes (header_bytes stands.version capacity) 19 items (stands.shut.gate ∷ stands.shut.rest) [] number
    (length-header_bytes stands.version capacity) split stands.each (omega (arith, inside, ap length entries))))
