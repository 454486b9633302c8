-- `discard N`: an entry is discarded on the disk, and then a line says so.
use Rattle.std.specs.Prelude.{◌≡◌, ◌⊎◌, ◌<◌, ◌≤◌, ℕ, true, false, Result, Ok, Err, List, length}
use Rattle.lr_shelf_format.specs.Items.{discard_item}
use Rattle.lr_shelf_format.specs.Way.{Way}
use Rattle.lr_catalog.specs.Discards.{discard_line}
use Rattle.lr_causes.specs.declared.cause.Refusal.{Refusal}
use Rattle.lr_causes.specs.declared.cause.Refusal.TheVariants.{NoSuchFile, Discarded}
use Rattle.lr_cmd_shelf.specs.Adding.{Addition, AdditionQuery}
use Rattle.lr_cmd_shelf.specs.Queries.{entry_at}

-- the entry is there and isn't gone
pub record MayGo (number : ℕ) (way : Way) : Type 0 where
  pub there : number < length way.entries
  pub stays : (entry_at way number).gone ≡ false

-- what is added: the Discard, and the line that tells it
abbrev pub discard_addition : ℕ → Addition
discard_addition number = record { item = discard_item number; text = discard_line number }

-- what is decided of bytes of this way: its number is refused, or that it is gone, or the Discard is added
abbrev pub DecidesDiscard : ℕ → List ℕ → Way → Result Addition Refusal → Type 0
DecidesDiscard number bytes way result =
    ((length way.entries ≤ number) × (result ≡ Err (NoSuchFile (length way.entries))))
    ⊎ (((number < length way.entries) × ((entry_at way number).gone ≡ true) × (result ≡ Err Discarded))
    ⊎ (MayGo number way × (result ≡ Ok (discard_addition number))))

-- its refusals, over any disk
abbrev pub RefusesDiscard : ℕ → Refusal → Type 0
RefusesDiscard number (NoSuchFile count) = count ≤ number
RefusesDiscard number Discarded = Unit {0}
RefusesDiscard number _ = ⊥

abbrev pub discard_query : ℕ → AdditionQuery
discard_query number = record {
  makes = λ addition. addition ≡ discard_addition number;
  decides = DecidesDiscard number;
  may_refuse = RefusesDiscard number;
}
