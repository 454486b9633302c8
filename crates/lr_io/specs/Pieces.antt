-- What a call that puts bytes appended where it did not append all of them.
use Rattle.std.specs.Prelude.{◌≡◌, ◌<◌, ℕ, Option, List, ◌++◌, length, take}
use Rattle.std.specs.Io.KnownBytes.{Appends}

-- a prefix of the bytes that isn't all of them was appended
pub record PutsPart (bytes old new : List ℕ) : Type 0 where
  pub part : List ℕ
  pub rest : List ℕ
  pub split : bytes ≡ part ++ rest
  pub shorter : length part < length bytes
  pub put : new ≡ old ++ part

-- what a writer of std is known to hold grew by some prefix of the bytes, or by none of them
abbrev pub AppendsPrefix : Option (List ℕ) → Option (List ℕ) → List ℕ → Type 0
AppendsPrefix old new bytes = (count : ℕ) × Appends old new (take count bytes)
