-- What reads the input, by its form. No clause of a public call cites this.
use Rattle.std.specs.Prelude.{◌≡◌, ◌+◌, ℕ, vec_capacity}
use Rattle.lr_forms.specs.declared.forms.Input.{Input}
use Rattle.lr_forms.specs.declared.forms.Input.TheVariants.{Symbols as Symbols', Units as Units'}
use Rattle.lr_reading.specs.declared.reader_parts.ReaderParts.{ReaderParts}
use Rattle.lr_reading.specs.declared.reader_parts.ReaderParts.TheVariants.{Symbols, Units}
use Rattle.lr_reading.specs.Intakes.{IsFreshIntake}
use Rattle.lr_reading.specs.Readers.{Shared, windows_for}
use Rattle.lr_reading.specs.WindowSources.{decoding_of}

-- the form of the input that it reads
abbrev pub input_of_parts : {H T : Type 0} → ReaderParts H T → Input
input_of_parts (Symbols symbol_parts) = Symbols' (decoding_of symbol_parts.intake)
input_of_parts (Units form) = Units' form

-- what those who work on it share
abbrev pub shared_of : {H T : Type 0} → ReaderParts H T → Shared
shared_of (Symbols symbol_parts) =
    record {
      seats = symbol_parts.pool.seats;
      cells = symbol_parts.pool.cells;
      windows =
          vec_capacity symbol_parts.intake.spare;
    }
shared_of (Units form) = record { seats = 0; cells = 0; windows = 0 }

-- nothing was taken, and at most this many bytes will be; of symbols, this many work on windows, the caller among them,
-- and there are as many windows as that takes
abbrev pub IsReadyFor : {H T : Type 0} → ℕ → ℕ → ReaderParts H T → Type 0
IsReadyFor workers most (Symbols symbol_parts) = IsFreshIntake most symbol_parts.intake
    × (symbol_parts.pool.seats + 1 ≡ workers)
    × (vec_capacity symbol_parts.intake.spare ≡ windows_for workers)
IsReadyFor workers most (Units form) = Unit {0}
