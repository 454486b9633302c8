-- The way with files at its end, whatever the records before them hold, and the room that they need.
use Rattle.std.specs.Prelude.{◌≡◌, ◌⊎◌, ◌≤◌, ◌+◌, ℕ, List, [], ◌∷◌}
use Rattle.std.specs.List.{sum_by}
use Rattle.lr_bits.specs.declared.placed.Placed.{Placed}
use Rattle.lr_shelf_format.specs.Gates.{after_open_gate}
use Rattle.lr_shelf_format.specs.Items.{extent_of, head_of_item, item_bytes}
use Rattle.lr_shelf_format.specs.Way.{Way, way_with}
use Rattle.lr_shelf.specs.Append.{item_for}

-- the way with the items of these files at its end
abbrev pub way_with_files : List Placed → Way → Way
way_with_files [] way = way
way_with_files (placed ∷ files) way = way_with_files files (way_with (head_of_item (item_for placed)) way)

-- an open gate, and the Add item of the file
abbrev pub gated_file : Placed → List ℕ
gated_file placed = after_open_gate (item_bytes (item_for placed))

-- ---- room

-- how many bytes the item of a file takes, with the gate after it
abbrev pub room_for : Placed → ℕ
room_for placed = extent_of (head_of_item (item_for placed)) + 1

-- where a shelf that ended there ends with these files
abbrev pub end_with : ℕ → List Placed → ℕ
end_with end files = end + sum_by room_for files

-- there is room for these files: there is none of them, or the end of the last one is inside the capacity
abbrev pub HasRoom : Way → List Placed → Type 0
HasRoom way files = (files ≡ []) ⊎ (end_with way.end files ≤ way.capacity)
