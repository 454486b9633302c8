-- How a bundle is read. No clause of a public call cites this, but for the view of a bundle.
use Rattle.std.proofs.Common.{zero, suc}
use Rattle.std.specs.Prelude.{◌≡◌, ◌<◌, ◌≤◌, ◌+◌, ℕ, Option, Some, None, List, [], ◌∷◌, length, take, drop}
use Rattle.std.specs.Prelude.{slice_range, slice_index}
use Rattle.byteorder.specs.Endian.{big_number}
use Rattle.lr_downlinks.specs.declared.sizes.TheConstants.{MOST_BUNDLE_BYTES, MOST_DOWNLINKS}

-- the streams that end at these places, where the first one's length stands at a place, and each next one's at the end
-- of the one before
abbrev pub streams_between : List ℕ → ℕ → List ℕ → List (List ℕ)
streams_between bytes from [] = []
streams_between bytes from (end ∷ ends) = slice_range bytes (from + 8) end ∷ streams_between bytes end ends

-- where the length of the stream of this number stands
abbrev pub recording_start : ℕ → List ℕ → ℕ → ℕ
recording_start from ends zero = from
recording_start from ends (suc k) = slice_index ends k

-- where the last of them ends
abbrev pub last_end : ℕ → List ℕ → ℕ
last_end from [] = from
last_end from (end ∷ ends) = last_end end ends

-- each has its eight bytes before it, and ends inside
abbrev pub AreEnds : ℕ → ℕ → List ℕ → Type 0
AreEnds size from [] = Unit {0}
AreEnds size from (end ∷ ends) = (from + 8 ≤ end) × (end ≤ size) × AreEnds size end ends

-- what the type of a bundle keeps
pub record IsCutAt (bytes : List ℕ) (count : ℕ) (ends : List ℕ) : Type 0 where
  pub some : 1 ≤ count
  pub few : count ≤ MOST_DOWNLINKS
  pub room : length ends ≡ MOST_DOWNLINKS
  pub short : length bytes ≤ MOST_BUNDLE_BYTES
  pub are_ends : AreEnds (length bytes) 1 (take count ends)

-- the stream whose length stands at this place ends here
pub record IsEnd (bytes : List ℕ) (from end : ℕ) : Type 0 where
  pub after : from + 8 ≤ end
  pub inside : end ≤ length bytes
  pub size : big_number 8 (drop from bytes) + (from + 8) ≡ end

-- or it isn't all there: its length isn't, or its symbols aren't
abbrev pub FindsEnd : List ℕ → ℕ → Option ℕ → Type 0
FindsEnd bytes from None = length bytes < from + 8 + big_number 8 (drop from bytes)
FindsEnd bytes from (Some end) = IsEnd bytes from end

-- each of these streams is all there
abbrev pub AreFound : List ℕ → ℕ → List ℕ → Type 0
AreFound bytes from [] = Unit {0}
AreFound bytes from (end ∷ ends) = IsEnd bytes from end × AreFound bytes end ends

-- some of the streams are all there, and the one after them isn't; there are this many to be found
pub record BreaksOff (bytes : List ℕ) (count : ℕ) : Type 0 where
  pub ends : List ℕ
  pub fewer : length ends < count
  pub found : AreFound bytes 1 ends
  pub inside : last_end 1 ends ≤ length bytes
  pub missing : FindsEnd bytes (last_end 1 ends) None

abbrev pub FindsEnds : List ℕ → List ℕ → Option ℕ → Type 0
FindsEnds bytes ends None = BreaksOff bytes (length ends)
FindsEnds bytes ends (Some at) = AreFound bytes 1 ends × (at ≡ last_end 1 ends) × (at ≤ length bytes)
