-- What the steps of the decoder do: the samples as functions of what was read, and a part as it is read.
use Rattle.std.specs.Prelude.{◌≡◌, ◌≤◌, ℕ, ◌+◌, ◌-◌, ◌*◌, ◌/◌, ◌%◌, ◌==◌, nat_le, min, if◌then◌else◌, Bool, List, []}
use Rattle.std.specs.Prelude.{◌∷◌, ◌++◌, length, take, drop}
use Rattle.lr_rice.specs.declared.choice.BlockOption.{BlockOption}
use Rattle.lr_rice.specs.declared.choice.BlockOption.TheVariants.{ZeroBlock, Split, Uncoded}
use Rattle.lr_bits.specs.Bits.{zeros_and_one}
use Rattle.lr_rice.specs.declared.site.Site.{Site}
use Rattle.lr_rice.specs.CodedLines.{BlockSite, Part, Halves, Numbers, IsPart, body_string, greatest, option_of, run_of}
use Rattle.lr_rice.specs.CodedLines.{span_of, values_of}

-- the sample after the sample p, of a range from 0 to `most`, that has this mapped value
unfoldable pub sample_of : ℕ → ℕ → ℕ → ℕ
sample_of most p value =
    if nat_le value (2 * min p (most - p))
    then (if value % 2 == 0 then p + value / 2 else p - (value + 1) / 2)
    else (if nat_le p (most - p) then value else most - value)

-- the samples after the sample p that have these mapped values, and the last of them, or p
unfoldable pub samples_from : ℕ → ℕ → List ℕ → List ℕ
samples_from most p [] = []
samples_from most p (value ∷ values) = sample_of most p value ∷ samples_from most (sample_of most p value) values

unfoldable pub sample_after : ℕ → ℕ → List ℕ → ℕ
sample_after most p [] = p
sample_after most p (value ∷ values) = sample_after most (sample_of most p value) values

-- the places of a list, from the first on, where others are written over them
unfoldable pub places_after : List ℕ → List ℕ → List ℕ
places_after places written = take (length places) (written ++ drop (length written) places)

-- the values of all places of a block: the first place of a line has the mapped value 0
abbrev pub whole_block : Bool → List ℕ → List ℕ
whole_block first values = if first then 0 ∷ values else values

-- a block that isn't coded as a zero block
abbrev pub IsSingle : BlockOption → Type 0
IsSingle ZeroBlock = ⊥
IsSingle option = Unit {0}

-- a block in which each value is written by itself
abbrev pub IsPlain : BlockOption → Type 0
IsPlain (Split k) = Unit {0}
IsPlain Uncoded = Unit {0}
IsPlain option = ⊥

-- such a block with these values
abbrev pub plain_part : BlockOption → List ℕ → Part
plain_part (Split k) values = Halves k values
plain_part option values = Numbers values

-- what the program keeps of where a part stands
abbrev pub site_of : Site → BlockSite
site_of site = record { bits = site.bits; block = site.block; first = site.first; left = site.left }

-- a part in this option was read from `string`, before `rest`
pub record ReadsPart (site : BlockSite) (option : BlockOption) (string rest : List ℕ) (part : Part) : Type 0 where
  pub is_part : IsPart site part
  pub in_option : option_of part ≡ option
  pub is_string : string ≡ body_string site.bits site.first part ++ rest

-- a block was read, and these are the values of its places
pub record ReadsBlock (site : BlockSite) (option : BlockOption) (string rest places : List ℕ) : Type 0 where
  pub part : Part
  pub reads : ReadsPart site option string rest part
  pub one : span_of site.left part ≡ 1
  pub are_places : places ≡ whole_block site.first (values_of site part)

-- samples of this many blocks, which were written over the old places; `before` is the sample before them, and `last`
-- the last of them
pub record WrittenSamples : Type 0 where
  pub before : ℕ
  pub old : List ℕ
  pub new : List ℕ
  pub blocks : ℕ
  pub last : ℕ

-- a part was read, and its samples were written; the last one is known, if all have a place
pub record WritesPart (site : BlockSite) (option : BlockOption) (string rest : List ℕ) (samples : WrittenSamples)
    : Type 0 where
  pub part : Part
  pub reads : ReadsPart site option string rest part
  pub spans : span_of site.left part ≡ samples.blocks
  pub written : samples.new ≡ places_after samples.old
      (samples_from (greatest site.bits) samples.before (whole_block site.first (values_of site part)))
  pub is_last : length (whole_block site.first (values_of site part)) ≤ length samples.old →
      samples.last
      ≡ sample_after (greatest site.bits) samples.before (whole_block site.first (values_of site part))
  pub in_range : samples.last ≤ greatest site.bits

-- a sequence was read that stands for this many blocks, which are left in the segment
pub record IsRun (left blocks : ℕ) (string rest : List ℕ) : Type 0 where
  pub number : ℕ
  pub is_string : string ≡ zeros_and_one number ++ rest
  pub is_run : run_of left number ≡ blocks
  pub left_is : blocks ≤ left
