-- Receipts: which file of which downlink an entry of the shelf is.
use Rattle.std.specs.Prelude.{◌≡◌, ◌==◌, ◌+◌, ◌<◌, ℕ, List, [], ◌∷◌, length, take, cond, slice_get, slice_index}
use Rattle.std.specs.Prelude.{Option, Some, None}
use Rattle.lr_bits.specs.declared.placed.Placed.{Placed}
use Rattle.lr_shelf_format.specs.Items.{Item}
use Rattle.lr_shelf_format.specs.ShelfBytes.{StandsForShelf, entries_of}
use Rattle.lr_shelf.specs.Append.{item_for}
use Rattle.lr_downlinks.specs.Merge.{times_in_order}
use Rattle.lr_downlinks.specs.declared.receipt.Receipt.{Receipt}

-- the receipt of a place of an order: its downlink, how often that came before, and the number of the entry, where the
-- shelf had `base` entries before
abbrev pub receipt_at : ℕ → List ℕ → ℕ → Receipt
receipt_at base order at =
    let downlink = slice_index order at in
    record { downlink = downlink; place = times_in_order downlink (take at order); number = base + at }

-- the receipts of a downlink, where it came `place` times before and the next entry has this number
abbrev pub receipts_from : ℕ → ℕ → ℕ → List ℕ → List Receipt
receipts_from downlink place number [] = []
receipts_from downlink place number (one ∷ order) =
    cond (one == downlink)
    (record { downlink = downlink; place = place; number = number }
    ∷ receipts_from downlink (place + 1) (number + 1) order) (receipts_from downlink place (number + 1) order)

-- those of a downlink, in order
abbrev pub receipts_of : ℕ → List ℕ → ℕ → List Receipt
receipts_of base order downlink = receipts_from downlink 0 base order

-- the first receipt is given, or none is left now or later
abbrev pub GivesReceipt : List Receipt → Option Receipt → List Receipt → Type 0
GivesReceipt old None new = (old ≡ []) × (new ≡ [])
GivesReceipt old (Some receipt) new = old ≡ receipt ∷ new

-- the bytes stand for a shelf of this capacity, and its entry of this number is the file
pub record HasFileAt (capacity number : ℕ) (placed : Placed) (bytes : List ℕ) : Type 0 where
  pub items : List Item
  pub stands : StandsForShelf bytes capacity items
  pub there : slice_get (entries_of items) number ≡ Some (item_for placed)

-- of a downlink that stands n times in an order each place below n has a receipt
abbrev pub EachHasReceipt : ℕ → List ℕ → Type 0
EachHasReceipt base order =
    (downlink place : ℕ) → place < times_in_order downlink order
    → (at : ℕ) × (at < length order) × (receipt_at base order at ≡ record {
      downlink = downlink;
      place = place;
      number = base + at;
    })

-- no two are of the same file
abbrev pub ReceiptsDiffer : ℕ → List ℕ → Type 0
ReceiptsDiffer base order =
    (one other : ℕ) → one < length order → other < length order
    → (receipt_at base order one).downlink ≡ (receipt_at base order other).downlink
    → (receipt_at base order one).place ≡ (receipt_at base order other).place → one ≡ other
