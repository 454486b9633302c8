-- What the bytes of a shelf stand for: a capacity and a proper list of items.
use Rattle.std.specs.Prelude.{◌≡◌, ◌⊎◌, ◌≤◌, ◌+◌, ℕ, List, ◌∷◌, [], map, All}
use Rattle.std.specs.List.{sum_by}
use Rattle.lr_shelf_format.specs.Header.{IsCapacity, first_gate, header_bytes}
use Rattle.lr_shelf_format.specs.Items.{
  IsItem,
  IsProper,
  Item,
  old_item,
  add_item,
  discard_item,
  extent_of,
  head_of_item,
  item_bytes,
}
use Rattle.lr_shelf_format.specs.Gates.{front, IsClosedAfter}
use Rattle.lr_shelf_format.specs.Walk.{IsWalk, Step}

-- where a shelf of these items ends, its last gate included
abbrev pub end_of : List Item → ℕ
end_of items = first_gate + 1 + sum_by (λ item. extent_of (head_of_item item) + 1) items

-- The header for the capacity stands at 0, then for each item in turn an open gate and its bytes, and then a closed
-- gate, no farther than the capacity allows. Anything may follow.
pub record StandsForShelf (bytes : List ℕ) (capacity : ℕ) (items : List Item) : Type 0 where
  pub version : ℕ
  pub known : (version ≡ 1) ⊎ (version ≡ 2)
  pub each : All IsItem items
  pub proper : IsProper (map head_of_item items)
  pub allowed : IsCapacity capacity
  pub fits : end_of items ≤ capacity
  pub shut : IsClosedAfter (front (header_bytes version capacity) (map item_bytes items)) bytes

-- the entries: the Old and Add items, in their order
abbrev pub entries_of : List Item → List Item
entries_of [] = []
entries_of (old_item file ∷ items) = old_item file ∷ entries_of items
entries_of (add_item file origin ∷ items) = add_item file origin ∷ entries_of items
entries_of (discard_item number ∷ items) = entries_of items

-- no bytes stand for two shelves
abbrev pub HasOneReading : Type 0
HasOneReading =
    (bytes : List ℕ) (capacity capacity' : ℕ) (items items' : List Item) → StandsForShelf bytes capacity items
    → StandsForShelf bytes capacity' items' → (capacity ≡ capacity') × (items ≡ items')

-- the steps over these items, the first from that gate
abbrev pub steps_of : ℕ → List Item → List Step
steps_of gate [] = []
steps_of gate (item ∷ items) =
    record { gate = gate; head = head_of_item item } ∷ steps_of (gate + 1 + extent_of (head_of_item item)) items

-- the bytes of a shelf have one walk, over the gates of its items
abbrev pub IsOneWalk : Type 0
IsOneWalk =
    (bytes : List ℕ) (capacity : ℕ) (items : List Item) → StandsForShelf bytes capacity items
    → IsWalk bytes (steps_of first_gate items) (first_gate + sum_by (λ item. extent_of (head_of_item item) + 1) items)
