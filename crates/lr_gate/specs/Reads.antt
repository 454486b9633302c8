-- What the list of reads tells of a call.
use Rattle.std.specs.Prelude.{◌≡◌, ℕ, ◌+◌, ◌*◌, ◌%◌, ◌≢◌, List, [], ◌∷◌, ◌++◌, Some, None, ◌⊎◌}
use Rattle.lr_gatecore.specs.declared.sizes.TheConstants.{WORD_BASE}
use Rattle.lr_gate.specs.declared.view.Read.{Read}
use Rattle.lr_gate.specs.Steps.{read}

-- the read is one of these
abbrev pub ContainsRead : List Read → Read → Type 0
ContainsRead reads r = (before : List Read) × (after : List Read) × (reads ≡ before ++ r ∷ after)

-- a load of this word found this value
abbrev pub HasLoad : List Read → ℕ → ℕ → Type 0
HasLoad reads word found = ContainsRead reads (read word None found)

-- an exchange of this word that expected one value found another
abbrev pub HasMiss : List Read → ℕ → ℕ → Type 0
HasMiss reads word expected =
    (found : ℕ) × ContainsRead reads (read word (Some expected) found) × (found ≢ expected)

-- The cell was passed over: a load of its word found it not ready, or found a ready word, and an exchange that
-- expected just that word found another one
abbrev pub IsPassedOver : List Read → ℕ → Type 0
IsPassedOver reads cell =
    (found : ℕ) × HasLoad reads (cell + 1) found
    × ((found % 4 ≢ 1) ⊎ ((found % 4 ≡ 1) × HasMiss reads (cell + 1) found))

-- The job was claimed, in a ring of n cells: the last two reads are a load that found its cell's word ready, and an
-- exchange that expected just that word and found it
abbrev pub ClaimsJob : List Read → ℕ → ℕ → Type 0
ClaimsJob reads n job =
    (earlier : List Read)
    × (reads ≡ earlier ++ read (job % n + 1) None (job * WORD_BASE + 1)
    ∷ read (job % n + 1) (Some (job * WORD_BASE + 1)) (job * WORD_BASE + 1) ∷ [])
