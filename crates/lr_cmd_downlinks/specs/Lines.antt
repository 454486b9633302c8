-- The lines that `downlinks` prints.
use Rattle.std.specs.Prelude.{ℕ, List, ◌++◌, codes, decimal, length}
use Rattle.std.specs.List.{flat_map, range_with_len, sum_by}
use Rattle.lr_downlinks.specs.Receipts.{receipts_of}
use Rattle.lr_downlinks.specs.declared.receipt.Receipt.{Receipt}

abbrev pub receipt_line : Receipt → List ℕ
receipt_line receipt = codes "receipt " ++ decimal receipt.downlink ++ codes " " ++ decimal receipt.place
    ++ codes " number " ++ decimal receipt.number ++ codes "\n"

-- those of one downlink, in the order of its files
abbrev pub downlink_lines : ℕ → List ℕ → ℕ → List ℕ
downlink_lines base order downlink = flat_map receipt_line (receipts_of base order downlink)

-- those of this many downlinks, one downlink after another
abbrev pub receipt_lines : ℕ → List ℕ → ℕ → List ℕ
receipt_lines base order count = flat_map (downlink_lines base order) (range_with_len 0 count)

-- how many streams there were, how many symbols in all of them, and how many files were put onto the shelf
abbrev pub last_line : List (List ℕ) → List ℕ → List ℕ
last_line streams order = codes "downlinks " ++ decimal (length streams) ++ codes " symbols "
    ++ decimal (sum_by length streams) ++ codes " files " ++ decimal (length order) ++ codes "\n"
