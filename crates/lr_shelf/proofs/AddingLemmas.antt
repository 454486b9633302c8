-- One item more: what the bytes stand for, and the way through them.
use Rattle.std.proofs.Common.{◌≡◌, ◌≢◌, inl, inr, ℕ, zero, suc, ◌+◌, ◌-◌, ◌<◌, ◌≤◌, List, [], ◌∷◌, ◌++◌}
use Rattle.std.proofs.Common.{length, get_or, slice_index, take, drop, map, All, sym, ◌∙◌, ap, subst, arith}
use Rattle.std.proofs.Common.{append_assoc, length-append, length-take, take-append-drop}
use Rattle.std.proofs.lemmas.List.{drop_more, map_push, take_at, take-take, get_or_at}
use Rattle.std.proofs.lemmas.List.Sums.{sum_by_push}
use Rattle.lr_shelf_format.specs.Gates.{front, IsClosedAfter}
use Rattle.lr_shelf_format.specs.Header.{header_bytes}
use Rattle.lr_shelf_format.specs.Items.{IsItem, IsProper, Item, MayFollow, extent_of, head_of_item, item_bytes}
use Rattle.lr_shelf_format.specs.ShelfBytes.{StandsForShelf, end_of, steps_of}
use Rattle.lr_shelf_format.specs.Walk.{LeadsToNextGate, Step, heads_of}
use Rattle.lr_shelf_format.specs.Way.{IsWay, MayJoin, Way, entries_on, entries_with, way_of, way_with}
use Rattle.lr_shelf_format.specs.declared.entry.Entry.{Entry}
use Rattle.lr_shelf_format.proofs.ItemLemmas.{length-item_bytes}
use Rattle.lr_shelf_format.proofs.ReadingLemmas.{gated, heads_of-steps, leads_over, length-front, length-gated}
use Rattle.lr_shelf_format.proofs.WalkLemmas.{IsPath-push, IsPath-same, IsProper-push, heads_of-push, path_forward}
use Rattle.lr_shelf_format.proofs.WayLemmas.{AreOf, entries_after-push, may_follow, of_walk}
use Rattle.lr_shelf.specs.Adding.{IsReady, WithOrWithout}
use Rattle.lr_shelf.specs.Adds.{last_gate, new_end}
use Rattle.lr_shelf.specs.Kept.{KeptShelf, kept_by, kept_with}
use Rattle.lr_shelf.specs.Shelf.{HasEitherWay, IsShelfOf, StandsForEither}
use Rattle.lr_shelf.specs.declared.shelf.Shelf.{Shelf}
use Rattle.lr_shelf.proofs.Crash.{front_push}

-- ---- lists of items

end_of-push : (items : List Item) (item : Item)
    → end_of (items ++ item ∷ []) ≡ end_of items + 1 + extent_of (head_of_item item)
end_of-push items item = omega (arith, sum_by_push (λ (i : Item). extent_of (head_of_item i) + 1) items item)

pub front-push : (version capacity : ℕ) (items : List Item) (item : Item)
    → front (header_bytes version capacity) (map item_bytes (items ++ item ∷ []))
    ≡ front (header_bytes version capacity) (map item_bytes items) ++ 1 ∷ item_bytes item
front-push version capacity items item =
    ap (front (header_bytes version capacity)) (map_push item_bytes items item)
    ∙ front_push (header_bytes version capacity) (map item_bytes items) (item_bytes item)

step_at : ℕ → Item → Step
step_at gate item = record { gate = gate; head = head_of_item item }

steps_of-push : (gate : ℕ) (items : List Item) (item : Item)
    → steps_of gate (items ++ item ∷ []) ≡ steps_of gate items ++ step_at (gate + length (gated items)) item ∷ []
unfolding step_at
steps_of-push gate [] item = ap (λ g. step_at g item ∷ []) (omega arith)
steps_of-push gate (first ∷ items) item =
    let next = gate + 1 + extent_of (head_of_item first) in
    let place : next + length (gated items) ≡ gate + length (gated (first ∷ items)) =
    omega (arith, length-append (1 ∷ item_bytes first) (gated items), length-item_bytes first) in
    ap (λ l. step_at gate first ∷ l)
    (steps_of-push next items item ∙ ap (λ g. steps_of next items ++ step_at g item ∷ []) place)

way_made : ℕ → List Entry → ℕ → Way
way_made capacity entries end = record { capacity = capacity; entries = entries; end = end }

-- the way with an item more is the way of the items with it
pub way_of-push : (capacity : ℕ) (items : List Item) (item : Item)
    → way_with (head_of_item item) (way_of capacity items) ≡ way_of capacity (items ++ item ∷ [])
unfolding way_made step_at
way_of-push capacity items item =
    let head = head_of_item item in
    let steps = steps_of 19 items in
    let at : 19 + length (gated items) ≡ end_of items - 1 = omega (arith, length-gated items) in
    let entries : entries_on (steps_of 19 (items ++ item ∷ [])) ≡ entries_with (end_of items - 1) head
    (entries_on steps) =
    ap entries_on (steps_of-push 19 items item ∙ ap (λ g. steps ++ step_at g item ∷ []) at)
    ∙ entries_after-push [] steps (step_at (end_of items - 1) item) in
    ap (λ es. way_made capacity es (end_of items + 1 + extent_of head)) (sym entries)
    ∙ ap (way_made capacity (entries_on (steps_of 19 (items ++ item ∷ [])))) (sym (end_of-push items item))

pub All-push : (items : List Item) (item : Item) → All IsItem items → IsItem item → All IsItem (items ++ item ∷ [])
All-push [] item each is zero d inside = is
All-push [] item each is (suc k) d inside = absurd (omega arith)
All-push (first ∷ items) item each is zero d inside = each 0 d (omega arith)
All-push (first ∷ items) item each is (suc k) d inside =
    All-push items item (λ j e within. each (suc j) e (omega arith)) is k d (omega arith)

one_more : (capacity : ℕ) (items : List Item) (item : Item) (bytes bytes' : List ℕ) → IsItem item
    → MayFollow (map head_of_item items) (head_of_item item) → (stands : StandsForShelf bytes capacity items)
    → end_of items + 1 + extent_of (head_of_item item) ≤ capacity
    → IsClosedAfter (front (header_bytes stands.version capacity) (map item_bytes items) ++ 1 ∷ item_bytes item) bytes'
    → StandsForShelf bytes' capacity (items ++ item ∷ [])
one_more capacity items item bytes bytes' is may stands fits shut = record {
  version = stands.version;
  known = stands.known;
  each = All-push items item stands.each is;
  proper = subst IsProper (sym (map_push head_of_item items item))
      (IsProper-push (map head_of_item items) (head_of_item item) stands.proper may);
  allowed = stands.allowed;
  fits = omega (arith, end_of-push items item);
  shut = subst (λ (before : List ℕ). IsClosedAfter before bytes')
      (sym (front-push stands.version capacity items item)) shut;
}

-- ---- over a shelf of these items

module _ (capacity : ℕ) (items : List Item) (shelf : Shelf) (bytes : List ℕ) (item : Item) (is : IsItem item)
    (may : MayJoin (kept_by shelf).way.entries (head_of_item item))
    (fits : new_end item (kept_by shelf) ≤ (kept_by shelf).way.capacity) (kept : IsShelfOf capacity items shelf)
    (stands : StandsForShelf bytes capacity items) where
  ends : (kept_by shelf).way.end ≡ end_of items
  ends = ap (λ (way : Way). way.end) kept.way

  steps : List Step
  steps = steps_of 19 items

  follows : MayFollow (map head_of_item items) (head_of_item item)
  unfolding steps
  follows =
      let same : heads_of (steps_of 19 items) ≡ map head_of_item items = heads_of-steps 19 items in
      let proper : IsProper (heads_of (steps_of 19 items)) = subst IsProper (sym same) stands.proper in
      let of : AreOf (heads_of (steps_of 19 items)) (kept_by shelf).way.entries =
      subst (AreOf (heads_of (steps_of 19 items))) (sym (ap (λ (way : Way). way.entries) kept.way))
      (of_walk (steps_of 19 items) proper) in
      subst (λ hs. MayFollow hs (head_of_item item)) same
      (may_follow (heads_of (steps_of 19 items)) (kept_by shelf).way.entries (head_of_item item) of may)

  pub with_it : (c : List ℕ)
      → IsClosedAfter (front (header_bytes stands.version capacity) (map item_bytes items) ++ 1 ∷ item_bytes item) c
      → StandsForShelf c capacity (items ++ item ∷ [])
  with_it c shut =
      one_more capacity items item bytes c is follows stands
      (omega (arith, fits, ends, ap (λ (way : Way). way.capacity) kept.way)) shut

  pub either_one : (c : List ℕ)
      → WithOrWithout (front (header_bytes stands.version capacity) (map item_bytes items)) (item_bytes item) c
      → StandsForEither capacity items item c
  either_one c (inl shut) = inl (record {
    version = stands.version;
    known = stands.known;
    each = stands.each;
    proper = stands.proper;
    allowed = stands.allowed;
    fits = stands.fits;
    shut = shut;
  })
  either_one c (inr shut) = inr (with_it c shut)

  pub ready_there : (staged : List ℕ) → staged ≡ item_bytes item ++ 0 ∷ []
      → IsReady (front (header_bytes stands.version capacity) (map item_bytes items)) (item_bytes item) staged
      (last_gate (kept_by shelf)) bytes
  ready_there staged parts = record {
    place = omega (arith, length-front stands.version capacity items, ends);
    parts = parts;
    shut = stands.shut;
  }

  pub kept_after : (after : Shelf) → kept_by after ≡ kept_with item (kept_by shelf)
      → IsShelfOf capacity (items ++ item ∷ []) after
  kept_after after same = record {
    way = ap (λ (k : KeptShelf). k.way) same ∙ ap (way_with (head_of_item item)) kept.way
        ∙ way_of-push capacity items item;
    working = ap (λ (k : KeptShelf). k.failed) same ∙ kept.working;
  }

-- ---- over bytes whose way the shelf keeps

-- after the first bytes stands the gate
shut_there : (bytes : List ℕ) (last : ℕ) → last < length bytes → slice_index bytes last ≢ 1
    → IsClosedAfter (take last bytes) bytes
shut_there bytes last inside closed = record {
  gate = get_or bytes last 0;
  rest = drop (last + 1) bytes;
  split = sym (take-append-drop last bytes) ∙ ap (λ (l : List ℕ). take last bytes ++ l) (drop_more bytes last 0 inside);
  closed = closed;
}

module _ (bytes : List ℕ) (way : Way) (has : IsWay bytes way) where
  pub shut_last : IsClosedAfter (take (way.end - 1) bytes) bytes
  shut_last =
      subst (λ (n : ℕ). IsClosedAfter (take n bytes) bytes) (omega (arith, has.end))
      (shut_there bytes has.last has.walk.inside has.walk.closed)

  -- a closed gate there keeps the way
  pub way_still : (bytes' : List ℕ) → IsClosedAfter (take (way.end - 1) bytes) bytes' → IsWay bytes' way
  way_still bytes' shut =
      let at = has.last in
      let is_at : way.end - 1 ≡ at = omega (arith, has.end) in
      let before = take at bytes in
      let front : length before ≡ at = length-take at bytes ∙ omega (arith, has.walk.inside) in
      let tail : List ℕ = shut.gate ∷ shut.rest in
      let split : bytes' ≡ before ++ tail = shut.split ∙ ap (λ (n : ℕ). take n bytes ++ tail) is_at in
      let long : length bytes' ≡ at + length tail = omega (arith, ap length split, length-append before tail, front) in
      let same : take at bytes ≡ take at bytes' = sym (ap (take at) split ∙ take_at before tail at front) in
      let later : 19 ≤ at = path_forward bytes 19 at has.steps has.walk.path in
      record {
        steps = has.steps;
        last = at;
        header = record {
          version = has.header.version;
          known = has.header.known;
          allowed = has.header.allowed;
          whole = omega (arith, long, later);
          stands = sym (take-take 19 at bytes' later) ∙ ap (take 19) (sym same) ∙ take-take 19 at bytes later
              ∙ has.header.stands;
        };
        walk = record {
          path = IsPath-same bytes bytes' 19 at has.steps (omega (arith, long)) same has.walk.path;
          proper = has.walk.proper;
          inside = omega (arith, long);
          closed = λ is_open.
              shut.closed
              (
              sym (ap (λ (l : List ℕ). slice_index l at) split ∙ get_or_at before shut.gate shut.rest 0 at front)
              ∙ is_open
              );
        };
        entries = has.entries;
        end = has.end;
      }

  module _ (item : Item) (is : IsItem item) (may : MayJoin way.entries (head_of_item item)) where
    front_size : length (take (way.end - 1) bytes) ≡ way.end - 1
    front_size = length-take (way.end - 1) bytes ∙ omega (arith, has.walk.inside, has.end)

    pub ready_way : (staged : List ℕ) → staged ≡ item_bytes item ++ 0 ∷ []
        → IsReady (take (way.end - 1) bytes) (item_bytes item) staged (way.end - 1) bytes
    ready_way staged parts = record { place = front_size; parts = parts; shut = shut_last }

    pub way_after : (bytes' : List ℕ) → IsClosedAfter (take (way.end - 1) bytes ++ 1 ∷ item_bytes item) bytes'
        → IsWay bytes' (way_with (head_of_item item) way)
    way_after bytes' shut =
        let at = has.last in
        let is_at : way.end - 1 ≡ at = omega (arith, has.end) in
        let before = take at bytes in
        let head = head_of_item item in
        let step : Step = record { gate = at; head = head } in
        let size : length (item_bytes item) ≡ extent_of head = length-item_bytes item in
        let front : length before ≡ at =
        subst (λ (n : ℕ). length (take n bytes) ≡ n) is_at front_size in
        let tail : List ℕ = shut.gate ∷ shut.rest in
        let split : bytes' ≡ before ++ (1 ∷ (item_bytes item ++ tail)) =
        shut.split ∙ append_assoc (take (way.end - 1) bytes) (1 ∷ item_bytes item) tail
        ∙ ap (λ (n : ℕ). take n bytes ++ (1 ∷ (item_bytes item ++ tail))) is_at in
        let long : length bytes' ≡ at + 1 + extent_of head + length tail = omega (
          arith,
          ap length split,
          length-append before (1 ∷ (item_bytes item ++ tail)),
          length-append (item_bytes item) tail,
          size,
          front,
        ) in
        let same : take at bytes ≡ take at bytes' =
        sym (ap (take at) split ∙ take_at before (1 ∷ (item_bytes item ++ tail)) at front) in
        let later : 19 ≤ at = path_forward bytes 19 at has.steps has.walk.path in
        let old_path = IsPath-same bytes bytes' 19 at has.steps (omega (arith, long)) same has.walk.path in
        let leads = subst (λ (n : ℕ). LeadsToNextGate bytes' (record { gate = n; head = head })) front
        (leads_over before item bytes' tail is split (omega arith)) in
        let of : AreOf (heads_of has.steps) way.entries =
        subst (AreOf (heads_of has.steps)) (sym has.entries) (of_walk has.steps has.walk.proper) in
        let closed_front : length (before ++ 1 ∷ item_bytes item) ≡ at + 1 + extent_of head =
        omega (arith, length-append before (1 ∷ item_bytes item), size, front) in
        let at_gate : bytes' ≡ (before ++ 1 ∷ item_bytes item) ++ tail =
        split ∙ sym (append_assoc before (1 ∷ item_bytes item) tail) in
        record {
          steps = has.steps ++ step ∷ [];
          last = at + 1 + extent_of head;
          header = record {
            version = has.header.version;
            known = has.header.known;
            allowed = has.header.allowed;
            whole = omega (arith, long, later);
            stands = sym (take-take 19 at bytes' later) ∙ ap (take 19) (sym same) ∙ take-take 19 at bytes later
                ∙ has.header.stands;
          };
          walk = record {
            path = IsPath-push bytes' 19 has.steps step old_path leads;
            proper = subst IsProper (sym (heads_of-push has.steps step))
                (IsProper-push (heads_of has.steps) head has.walk.proper
                (may_follow (heads_of has.steps) way.entries head of may));
            inside = omega (arith, long);
            closed = λ is_open.
                shut.closed (
                sym (ap (λ (l : List ℕ). slice_index l (at + 1 + extent_of head)) at_gate
                ∙ get_or_at (before ++ 1 ∷ item_bytes item) shut.gate shut.rest 0
                (at + 1 + extent_of head) closed_front)
                ∙ is_open
                );
          };
          entries = ap (λ (n : ℕ). entries_with n head way.entries) is_at ∙ ap (entries_with at head) has.entries
              ∙ sym (entries_after-push [] has.steps step);
          end = omega (arith, has.end);
        }

    pub way_either : (way_with (head_of_item item) way).end ≤ way.capacity → (c : List ℕ)
        → WithOrWithout (take (way.end - 1) bytes) (item_bytes item) c → HasEitherWay way item c
    way_either fits c (inl shut) = inl (way_still c shut)
    way_either fits c (inr shut) = inr (way_after c shut, fits)
