-- How often each downlink stands in an order, and where. No clause of a public call cites this.
use Rattle.std.specs.Prelude.{◌≡◌, ◌<◌, ℕ, List, Option, Some, None, length, slice_index, take}
use Rattle.lr_downlinks.specs.Merge.{times_in_order}
use Rattle.lr_downlinks.specs.declared.sizes.TheConstants.{MOST_DOWNLINKS}

-- the counts are those of the order, downlink by downlink
pub record AreCounts (counts order : List ℕ) : Type 0 where
  pub size : length counts ≡ MOST_DOWNLINKS
  pub each : (downlink : ℕ) → downlink < MOST_DOWNLINKS → slice_index counts downlink ≡ times_in_order downlink order

-- the first place at which a downlink stands in an order, or none where it doesn't stand there
abbrev pub FindsPlace : ℕ → List ℕ → Option ℕ → Type 0
FindsPlace downlink order None = times_in_order downlink order ≡ 0
FindsPlace downlink order (Some place) =
    (place < length order) × (slice_index order place ≡ downlink) × (times_in_order downlink (take place order) ≡ 0)
