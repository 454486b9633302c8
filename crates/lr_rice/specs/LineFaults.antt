-- The faults of coded lines: that of the first item, in the order of the bits, which can't be read. Items are
-- identifiers, references, sequences and numbers. A mapped value is tested once its last bit is there, both values of a
-- pair once the pair's sequence is there, and the run of a zero block once its sequence is there.
use Rattle.std.specs.Prelude.{◌≡◌, ◌<◌, ◌≤◌, ◌⊎◌, ℕ, zero, suc, ◌+◌, ◌*◌, ◌/◌, ◌^◌, Bool, false, List, [], ◌∷◌}
use Rattle.std.specs.Prelude.{◌++◌, length, IsTrue, IsFalse}
use Rattle.std.specs.List.{All, flat_map}
use Rattle.lr_bits.specs.Bits.{number_bits, zeros_and_one}
use Rattle.lr_rice.specs.declared.choice.BlockOption.{BlockOption}
use Rattle.lr_rice.specs.declared.choice.BlockOption.TheVariants.{ZeroBlock, SecondExtension, Split, Uncoded}
use Rattle.lr_rice.specs.declared.fault.Cause.{Cause}
use Rattle.lr_rice.specs.declared.fault.Cause.TheVariants.{Ended, OutOfRange, RunPastSegment}
use Rattle.lr_rice.specs.declared.fault.RiceFault.{RiceFault}
use Rattle.lr_rice.specs.declared.fault.RiceFault.TheVariants as fault
use Rattle.lr_rice.specs.CodedLines.{AreLines, BlockSite, Follow, Form, IsOption, Part, block_count, greatest}
use Rattle.lr_rice.specs.CodedLines.{head_string, identifier, pair_number, places, run_of, short_width, site_at}
use Rattle.lr_rice.specs.CodedLines.{string_from}

-- no sequence ends in the string
abbrev pub NoSequence : List ℕ → Type 0
NoSequence string = All (λ bit. bit ≡ 0) string

-- the first of this many values that can't be read, each written as a sequence
abbrev pub SequencesFail : ℕ → ℕ → List ℕ → Cause → Type 0
SequencesFail bits zero string cause = ⊥
SequencesFail bits (suc n) string cause =
    (NoSequence string × (cause ≡ Ended))
    ⊎ ((value : ℕ) × (rest : List ℕ) × (string ≡ zeros_and_one value ++ rest)
    × (((greatest bits < value) × (cause ≡ OutOfRange)) ⊎ ((value ≤ greatest bits) × SequencesFail bits n rest cause)))

-- of the values with these high parts the first whose k low bits aren't there, or that is too great
abbrev pub LowBitsFail : ℕ → ℕ → List ℕ → List ℕ → Cause → Type 0
LowBitsFail bits k [] string cause = ⊥
LowBitsFail bits k (high ∷ highs) string cause =
    ((length string < k) × (cause ≡ Ended))
    ⊎ ((low : ℕ) × (rest : List ℕ) × (low < 2 ^ k) × (string ≡ number_bits k low ++ rest)
    × (((greatest bits < high * 2 ^ k + low) × (cause ≡ OutOfRange))
    ⊎ ((high * 2 ^ k + low ≤ greatest bits) × LowBitsFail bits k highs rest cause)))

-- of this many values split by k bits: a high part isn't there, or the low bits fail
abbrev pub SplitsFail : ℕ → ℕ → ℕ → List ℕ → Cause → Type 0
SplitsFail bits k n string cause =
    (highs : List ℕ) × (rest : List ℕ) × (string ≡ flat_map zeros_and_one highs ++ rest)
    × (((length highs < n) × NoSequence rest × (cause ≡ Ended))
    ⊎ ((length highs ≡ n) × LowBitsFail bits k highs rest cause))

-- this many values can't be read, in an option in which each is written by itself
abbrev pub ValuesFail : ℕ → ℕ → BlockOption → List ℕ → Cause → Type 0
ValuesFail bits n (Split zero) string cause = SequencesFail bits n string cause
ValuesFail bits n (Split (suc k)) string cause = SplitsFail bits (suc k) n string cause
ValuesFail bits n Uncoded string cause = (length string < n * bits) × (cause ≡ Ended)
ValuesFail bits n option string cause = ⊥

-- The first of this many pairs that can't be read. The first value of the leading one isn't tested, if that is a line's
-- first.
abbrev pub PairsFail : ℕ → Bool → ℕ → List ℕ → Cause → Type 0
PairsFail bits lead zero string cause = ⊥
PairsFail bits lead (suc n) string cause =
    (NoSequence string × (cause ≡ Ended))
    ⊎ ((a : ℕ) × (b : ℕ) × (rest : List ℕ) × (string ≡ zeros_and_one (pair_number a b) ++ rest)
    × ((((greatest bits < b) ⊎ (IsFalse lead × (greatest bits < a))) × (cause ≡ OutOfRange))
    ⊎ ((b ≤ greatest bits) × (IsTrue lead ⊎ (a ≤ greatest bits)) × PairsFail bits false n rest cause)))

-- the run of a zero block isn't there, or has more blocks than are left
abbrev pub RunFails : ℕ → List ℕ → Cause → Type 0
RunFails left string cause =
    (NoSequence string × (cause ≡ Ended))
    ⊎ ((m : ℕ) × (rest : List ℕ) × (string ≡ zeros_and_one m ++ rest) × (left < run_of left m)
    × (cause ≡ RunPastSegment))

-- what stands after the identifier and the reference can't be read
abbrev pub BodyFails : BlockSite → BlockOption → List ℕ → Cause → Type 0
BodyFails site ZeroBlock string cause = RunFails site.left string cause
BodyFails site SecondExtension string cause = PairsFail site.bits site.first (site.block / 2) string cause
BodyFails site option string cause = ValuesFail site.bits (places site.block site.first 1) option string cause

-- The identifier isn't there: too few bits are left for a short one, or that bit isn't there which tells a zero block
-- from a second extension.
abbrev pub NoIdentifier : ℕ → List ℕ → Type 0
NoIdentifier bits string = (length string < short_width bits) ⊎ (string ≡ number_bits (short_width bits) 0)

-- the next part can't be read
abbrev pub PartFails : BlockSite → List ℕ → Cause → Type 0
PartFails site string cause =
    (NoIdentifier site.bits string × (cause ≡ Ended))
    ⊎ ((option : BlockOption) × (rest : List ℕ) × IsOption site.bits option × IsTrue site.first
    × (string ≡ identifier site.bits option ++ rest) × (length rest < site.bits) × (cause ≡ Ended))
    ⊎ ((option : BlockOption) × (reference : ℕ) × (rest : List ℕ) × IsOption site.bits option
    × (reference ≤ greatest site.bits) × (string ≡ head_string site.bits site.first reference option ++ rest)
    × BodyFails site option rest cause)

-- the line can't be read: parts of it are there, but not the next one
pub record LineFails (form : Form) (string : List ℕ) (cause : Cause) : Type 0 where
  pub reference : ℕ
  pub in_range : reference ≤ greatest form.bits
  pub parts : List Part
  pub at : ℕ
  pub follow : Follow form 0 parts at
  pub before : at < block_count form
  pub rest : List ℕ
  pub is_string : string ≡ string_from form reference 0 parts ++ rest
  pub fails : PartFails (site_at form at) rest cause

-- the fault of this cause in this line
abbrev pub fault_in : ℕ → Cause → RiceFault
fault_in line Ended = fault.Ended line
fault_in line OutOfRange = fault.OutOfRange line
fault_in line RunPastSegment = fault.RunPastSegment line

-- this many lines can't be read: some are there, but not the next one
pub record LinesFail (form : Form) (n : ℕ) (string : List ℕ) (fault : RiceFault) : Type 0 where
  pub line : ℕ
  pub before : line < n
  pub samples : List ℕ
  pub coding : List ℕ
  pub rest : List ℕ
  pub lines : AreLines form line samples coding
  pub is_string : string ≡ coding ++ rest
  pub cause : Cause
  pub fails : LineFails form rest cause
  pub is_fault : fault ≡ fault_in line cause

-- the same, or want of memory, which may come at any time
abbrev pub LinesFailOrMemory : Form → ℕ → List ℕ → RiceFault → Type 0
LinesFailOrMemory form n string fault.NoMemory = Unit {0}
LinesFailOrMemory form n string fault = LinesFail form n string fault
