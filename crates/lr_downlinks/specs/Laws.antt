-- What merges and receipts come to.
use Rattle.std.specs.Prelude.{◌≡◌, ◌<◌, ℕ, List, length, take, Some, slice_get, slice_index}
use Rattle.lr_bits.specs.declared.placed.Placed.{Placed}
use Rattle.lr_downlinks.specs.Merge.{IsOrder, merge, times_in_order}
use Rattle.lr_downlinks.specs.Receipts.{EachHasReceipt, ReceiptsDiffer, receipt_at, receipts_of}

-- at each place of a merge stands that file of the place's downlink which counts its earlier places, and no place is
-- without one
abbrev pub MergesKeepTheOrder : Type 0
MergesKeepTheOrder =
    (count : ℕ) (files : ℕ → List Placed) (order : List ℕ) → IsOrder count files order
    → (length (merge files order) ≡ length order)
    × ((at : ℕ) → at < length order → slice_get (merge files order) at
    ≡ slice_get (files (slice_index order at)) (times_in_order (slice_index order at) (take at order)))

-- each file that was appended has one receipt
abbrev pub EachFileHasAReceipt : Type 0
EachFileHasAReceipt = (base : ℕ) (order : List ℕ) → EachHasReceipt base order × ReceiptsDiffer base order

-- A downlink has as many receipts as it stands in the order. The one of place k is that of the place in the order where
-- the downlink stands and k of it stand before.
pub record AreReceiptsOf (base : ℕ) (order : List ℕ) (downlink : ℕ) : Type 0 where
  pub all : length (receipts_of base order downlink) ≡ times_in_order downlink order
  pub each : (at : ℕ) → at < length order → slice_index order at ≡ downlink
      → slice_get (receipts_of base order downlink) (times_in_order downlink (take at order))
      ≡ Some (receipt_at base order at)

abbrev pub ReceiptsComeInOrder : Type 0
ReceiptsComeInOrder = (base : ℕ) (order : List ℕ) (downlink : ℕ) → AreReceiptsOf base order downlink
