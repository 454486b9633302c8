-- What the pending writes and cuts of a disk in memory leave open, and what they don't.
use Rattle.std.specs.Prelude.{◌≡◌, ◌⊎◌, ◌<◌, ◌≤◌, ℕ, min, max, List, [], ◌∷◌, length, slice_index}
use Rattle.lr_disk.specs.Mem.{Pending, torn, cut, IsCrashImageOf, after_all, at_start, images}
use Rattle.lr_disk.specs.declared.past.Call.{Call}

-- no pending range has this place
abbrev pub IsOutside : List Pending → ℕ → Type 0
IsOutside [] k = Unit {0}
IsOutside (torn from to ∷ pending) k = ((k < from) ⊎ (to ≤ k)) × IsOutside pending k
IsOutside (cut n ∷ pending) k = IsOutside pending k

-- the least length and the greatest, from that of the durable bytes on
abbrev pub least : ℕ → List Pending → ℕ
least start [] = start
least start (torn from to ∷ pending) = least start pending
least start (cut n ∷ pending) = min n (least start pending)

abbrev pub greatest_end : ℕ → List Pending → ℕ
greatest_end start [] = start
greatest_end start (torn from to ∷ pending) = max to (greatest_end start pending)
greatest_end start (cut n ∷ pending) = greatest_end start pending

-- the durable bytes stand outside the pending ranges, and the length is one of those since the last sync
pub record KeepsTheRest (durable : List ℕ) (pending : List Pending) (c : List ℕ) : Type 0 where
  pub no_shorter : least (length durable) pending ≤ length c
  pub no_longer : length c ≤ greatest_end (length durable) pending
  pub outside : (k : ℕ) → k < length c → IsOutside pending k → slice_index c k ≡ slice_index durable k

-- so does each crash image
abbrev pub ImagesKeepTheRest : Type 0
ImagesKeepTheRest = (durable : List ℕ) (pending : List Pending) (c : List ℕ) → IsCrashImageOf durable pending c
    → KeepsTheRest durable pending c

-- and each list of bytes that does is a crash image, whatever the calls were
abbrev pub KeepersAreImages : Type 0
KeepersAreImages =
    (first log : List ℕ) (calls : List Call) (c : List ℕ)
    → KeepsTheRest (after_all log calls (at_start first)).durable (after_all log calls (at_start first)).pending c
    → images first log calls c
