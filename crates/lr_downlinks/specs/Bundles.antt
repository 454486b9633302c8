-- Bundles of streams: how many there are in one byte, 1 to 16, and then for each stream its length in eight bytes and
-- that many symbols, a byte each.
use Rattle.std.specs.Prelude.{◌≡◌, ◌<◌, ◌≤◌, ℕ, List, [], ◌∷◌, ◌++◌, length, take, All, ◌^◌, Result, Ok, Err}
use Rattle.byteorder.specs.Endian.{big_bytes}
use Rattle.lr_downlinks.specs.declared.sizes.TheConstants.{MOST_DOWNLINKS}
use Rattle.lr_downlinks.specs.declared.fault.BundleFault.{BundleFault}
use Rattle.lr_downlinks.specs.declared.fault.BundleFault.TheVariants.{Ended, Count, Rest}

-- a stream in a bundle: its length, and its symbols
abbrev pub part_of : List ℕ → List ℕ
part_of stream = big_bytes 8 (length stream) ++ stream

abbrev pub parts_of : List (List ℕ) → List ℕ
parts_of [] = []
parts_of (stream ∷ streams) = part_of stream ++ parts_of streams

-- these bytes are the bundle of these streams
pub record IsBundle (bytes : List ℕ) (streams : List (List ℕ)) : Type 0 where
  pub some : 1 ≤ length streams
  pub few : length streams ≤ MOST_DOWNLINKS
  pub short : All (λ stream. length stream < 2 ^ 64) streams
  pub bytes_are : bytes ≡ length streams ∷ parts_of streams

-- these bytes begin a bundle that goes on after them
pub record BeginsBundle (bytes : List ℕ) : Type 0 where
  pub rest : List ℕ
  pub some : 0 < length rest
  pub streams : List (List ℕ)
  pub whole : IsBundle (bytes ++ rest) streams

-- the first byte is this number, and no bundle has this many streams
pub record HasBadCount (bytes : List ℕ) (count : ℕ) : Type 0 where
  pub rest : List ℕ
  pub first : bytes ≡ count ∷ rest
  pub bad : (1 ≤ count) × (count ≤ MOST_DOWNLINKS) → ⊥

-- a bundle ends at that place, and bytes follow
pub record HasRest (bytes : List ℕ) (at : ℕ) : Type 0 where
  pub streams : List (List ℕ)
  pub front : IsBundle (take at bytes) streams
  pub more : at < length bytes

-- what bytes are read as: the streams of their bundle, or the fault for which they are none
abbrev pub IsReading : List ℕ → Result (List (List ℕ)) BundleFault → Type 0
IsReading bytes (Ok streams) = IsBundle bytes streams
IsReading bytes (Err (Ended at)) = (at ≡ length bytes) × BeginsBundle bytes
IsReading bytes (Err (Count count)) = HasBadCount bytes count
IsReading bytes (Err (Rest at)) = HasRest bytes at
