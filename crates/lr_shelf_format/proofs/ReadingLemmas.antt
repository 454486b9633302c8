-- What the bytes of a shelf stand for.
use Rattle.std.proofs.Common.{◌≡◌, ◌≢◌, ◌<◌, ◌+◌, ℕ, suc, List, [], ◌∷◌, ◌++◌, length, get_or, slice_index, take}
use Rattle.std.proofs.Common.{drop, map, All, refl, sym, ap, ◌∙◌, subst, arith, append_assoc, length-append}
use Rattle.std.specs.List.{flat_map, sum_by}
use Rattle.std.proofs.lemmas.List.{drop_at, get_or_at}
use Rattle.std.proofs.lemmas.List.Sums.{sum_by-cons}
use Rattle.lr_shelf_format.specs.Gates.{front, after_open_gate, IsClosedAfter}
use Rattle.lr_shelf_format.specs.Header.{HasHeader, header_bytes}
use Rattle.lr_shelf_format.specs.Items.{AreProper, Begins, IsItem, Item, extent_of, head_of_item, item_bytes}
use Rattle.lr_shelf_format.specs.ShelfBytes.{StandsForShelf, HasOneReading, IsOneWalk, end_of, steps_of}
use Rattle.lr_shelf_format.specs.Walk.{IsPath, LeadsToNextGate, heads_of}
use Rattle.lr_shelf_format.proofs.HeaderLemmas.{length-header_bytes, take-header_bytes, capacity_is}
use Rattle.lr_shelf_format.proofs.ItemLemmas.{begins_item, item_is, length-item_bytes}

-- all items, each after its open gate
abbrev pub gated : List Item → List ℕ
gated items = flat_map after_open_gate (map item_bytes items)

abbrev pub extent_of_item : Item → ℕ
extent_of_item item = extent_of (head_of_item item)

-- what stands after the header ends with the closed gate, so it tells where the items end
items_are : (items items' : List Item) (gate gate' : ℕ) (rest rest' : List ℕ) → All IsItem items → All IsItem items'
    → gate ≢ 1 → gate' ≢ 1
    → gated items ++ (gate ∷ rest) ≡ gated items' ++ (gate' ∷ rest') → items ≡ items'
items_are [] [] gate gate' rest rest' each each' shut shut' same = refl
items_are [] (item' ∷ items') gate gate' rest rest' each each' shut shut' same =
    absurd (shut (ap (λ (l : List ℕ). get_or l 0 0) same))
items_are (item ∷ items) [] gate gate' rest rest' each each' shut shut' same =
    absurd (shut' (sym (ap (λ (l : List ℕ). get_or l 0 0) same)))
items_are (item ∷ items) (item' ∷ items') gate gate' rest rest' each each' shut shut' same =
    let more = gated items ++ (gate ∷ rest) in
    let more' = gated items' ++ (gate' ∷ rest') in
    let tail_is : item_bytes item ++ more ≡ item_bytes item' ++ more' =
    sym (append_assoc (item_bytes item) (gated items) (gate ∷ rest)) ∙ ap (drop 1) same
    ∙ append_assoc (item_bytes item') (gated items') (gate' ∷ rest') in
    let first = item_is item item' more more' (each 0 item (omega arith)) (each' 0 item' (omega arith)) tail_is in
    let others = items_are items items' gate gate' rest rest' (λ k d inside. each (suc k) d (omega arith))
    (λ k d inside. each' (suc k) d (omega arith)) shut shut' first.1 in
    ap (λ i. i ∷ items) first.0 ∙ ap (λ is. item' ∷ is) others

-- what stands after the header
pub after_header : (bytes : List ℕ) (version capacity : ℕ) (items : List Item)
    → (shut : IsClosedAfter (front (header_bytes version capacity) (map item_bytes items)) bytes)
    → bytes ≡ header_bytes version capacity ++ (gated items ++ (shut.gate ∷ shut.rest))
after_header bytes version capacity items shut = shut.split
    ∙ append_assoc (header_bytes version capacity) (gated items) (shut.gate ∷ shut.rest)

pub length-gated : (items : List Item) → length (gated items) ≡ sum_by (λ item. extent_of (head_of_item item) + 1) items
length-gated [] = refl
length-gated (item ∷ items) =
    omega (
      arith,
      length-append (1 ∷ item_bytes item) (gated items),
      length-item_bytes item,
      length-gated items,
      sum_by-cons (λ (i : Item). extent_of (head_of_item i) + 1) item items,
    )

-- where the last gate stands
pub length-front : (version capacity : ℕ) (items : List Item)
    → length (front (header_bytes version capacity) (map item_bytes items)) + 1 ≡ end_of items
length-front version capacity items =
    omega (
      arith,
      length-append (header_bytes version capacity) (gated items),
      length-header_bytes version capacity,
      length-gated items,
    )

pub header_of-standing : (bytes : List ℕ) (capacity : ℕ) (items : List Item) → StandsForShelf bytes capacity items
    → HasHeader bytes capacity
header_of-standing bytes capacity items stands =
    let split = after_header bytes stands.version capacity items stands.shut in
    let long = length-append (front (header_bytes stands.version capacity) (map item_bytes items))
    (stands.shut.gate ∷ stands.shut.rest) in
    record {
      version = stands.version;
      known = stands.known;
      allowed = stands.allowed;
      whole = omega (arith, ap length stands.shut.split, long, length-front stands.version capacity items);
      stands = ap (take 19) split
          ∙ take-header_bytes stands.version capacity (gated items ++ (stands.shut.gate ∷ stands.shut.rest));
    }

pub has_one_reading : HasOneReading
has_one_reading bytes capacity capacity' items items' stands stands' =
    let same = capacity_is bytes capacity capacity' (header_of-standing bytes capacity items stands)
    (header_of-standing bytes capacity' items' stands') in
    let tail_is : gated items ++ (stands.shut.gate ∷ stands.shut.rest) ≡ gated items'
    ++ (stands'.shut.gate ∷ stands'.shut.rest) =
    sym (drop_at (header_bytes stands.version capacity) (gated items ++ (stands.shut.gate ∷ stands.shut.rest)) 19
    (length-header_bytes stands.version capacity))
    ∙ ap (drop 19) (sym (after_header bytes stands.version capacity items stands.shut)
    ∙ after_header bytes stands'.version capacity' items' stands'.shut)
    ∙ drop_at (header_bytes stands'.version capacity') (gated items' ++ (stands'.shut.gate ∷ stands'.shut.rest)) 19
    (length-header_bytes stands'.version capacity') in (
      same,
      items_are items items' stands.shut.gate stands'.shut.gate stands.shut.rest stands'.shut.rest stands.each
          stands'.each stands.shut.closed stands'.shut.closed tail_is,
    )

-- the gate after these bytes leads over the item after it
pub leads_over : (before : List ℕ) (item : Item) (bytes rest : List ℕ) → IsItem item
    → bytes ≡ before ++ (1 ∷ (item_bytes item ++ rest)) → 0 < length rest
    → LeadsToNextGate bytes (record { gate = length before; head = head_of_item item })
leads_over before item bytes rest is split more =
    let tail = item_bytes item ++ rest in
    let tail_is : drop (length before + 1) bytes ≡ tail =
    ap (drop (length before + 1)) (split ∙ sym (append_assoc before (1 ∷ []) tail))
    ∙ drop_at (before ++ 1 ∷ []) tail (length before + 1) (length-append before (1 ∷ [])) in
    record {
      is_open = ap (λ (l : List ℕ). slice_index l (length before)) split
          ∙ get_or_at before 1 tail 0 (length before) refl;
      begins = subst (λ (l : List ℕ). Begins l (head_of_item item)) (sym tail_is) (begins_item item rest is);
      inside = omega (
        arith,
        ap length split,
        length-append before (1 ∷ tail),
        length-append (item_bytes item) rest,
        length-item_bytes item,
      );
    }

-- the gates of these items are a path
path_over : (before : List ℕ) (from : ℕ) (items : List Item) (bytes rest : List ℕ) → All IsItem items
    → length before ≡ from → bytes ≡ before ++ (gated items ++ rest) → 0 < length rest
    → IsPath bytes from (steps_of from items) (from + length (gated items))
path_over before from [] bytes rest each place split more = omega arith
path_over before from (item ∷ items) bytes rest each place split more =
    let one = item_bytes item in
    let next = from + 1 + extent_of_item item in
    let size = length-item_bytes item in
    let further : bytes ≡ before ++ (1 ∷ (one ++ (gated items ++ rest))) = split
    ∙ ap (λ (l : List ℕ). before ++ (1 ∷ l)) (append_assoc one (gated items) rest) in
    let longer : length (before ++ (1 ∷ one)) ≡ next = omega (arith, length-append before (1 ∷ one), size) in
    let there = leads_over before item bytes (gated items ++ rest) (each 0 item (omega arith)) further
    (omega (arith, length-append (gated items) rest)) in
    let onward = path_over (before ++ (1 ∷ one)) next items bytes rest
    (λ k d inside. each (suc k) d (omega arith)) longer
    (further ∙ sym (append_assoc before (1 ∷ one) (gated items ++ rest))) more in
    let ends : next + length (gated items) ≡ from + length (gated (item ∷ items)) =
    omega (arith, length-append (1 ∷ one) (gated items), size) in (
      refl,
      subst (λ n. LeadsToNextGate bytes (record { gate = n; head = head_of_item item })) place there,
      subst (IsPath bytes next (steps_of next items)) ends onward,
    )

pub heads_of-steps : (gate : ℕ) (items : List Item) → heads_of (steps_of gate items) ≡ map head_of_item items
heads_of-steps gate [] = refl
heads_of-steps gate (item ∷ items) =
    ap (λ hs. head_of_item item ∷ hs) (heads_of-steps (gate + 1 + extent_of_item item) items)

pub is_one_walk : IsOneWalk
is_one_walk bytes capacity items stands =
    let gate = stands.shut.gate in
    let rest = stands.shut.rest in
    let version = stands.version in
    let split = after_header bytes version capacity items stands.shut in
    let path = path_over (header_bytes version capacity) 19 items bytes (gate ∷ rest) stands.each
    (length-header_bytes version capacity) split (omega arith) in
    let before = front (header_bytes version capacity) (map item_bytes items) in
    let last : length before ≡ 19 + sum_by (λ item. extent_of (head_of_item item) + 1) items =
    omega (arith, length-front version capacity items) in
    record {
      path = subst (λ n. IsPath bytes 19 (steps_of 19 items) (19 + n)) (length-gated items) path;
      proper = subst (AreProper []) (sym (heads_of-steps 19 items)) stands.proper;
      inside = omega (arith, ap length stands.shut.split, length-append before (gate ∷ rest), last);
      closed = λ is_open. stands.shut.closed
          (sym (ap (λ (l : List ℕ). slice_index l
          (19 + sum_by (λ item. extent_of (head_of_item item) + 1) items)) stands.shut.split
          ∙ get_or_at before gate rest 0 _ last) ∙ is_open);
    }
