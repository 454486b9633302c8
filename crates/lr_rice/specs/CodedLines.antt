-- Losslessly coded lines (CCSDS 121.0-B, with the unit delay predictor): which strings of bits code a line, and of
-- which samples. A line is one reference interval; its segments have 64 blocks.
use Rattle.std.specs.Prelude.{◌≡◌, ◌<◌, ◌≤◌, ℕ, zero, suc, ◌+◌, ◌-◌, ◌*◌, ◌/◌, ◌%◌, ◌^◌, ◌==◌, nat_lt, nat_le, min}
use Rattle.std.specs.Prelude.{if◌then◌else◌, Bool, List, [], ◌∷◌, ◌++◌, length, take, replicate}
use Rattle.std.specs.List.{All, flat_map}
use Rattle.lr_bits.specs.Bits.{number_bits, zeros_and_one}
use Rattle.lr_rice.specs.declared.choice.BlockOption.{BlockOption}
use Rattle.lr_rice.specs.declared.choice.BlockOption.TheVariants.{ZeroBlock, SecondExtension, Split, Uncoded}

-- how lines are coded: samples of this many bits, blocks of this many samples, lines of this many columns
pub record Form : Type 0 where
  pub bits : ℕ
  pub block : ℕ
  pub columns : ℕ

abbrev pub form_of : ℕ → ℕ → ℕ → Form
form_of bits block columns = record { bits = bits; block = block; columns = columns }

-- the greatest sample of this many bits, and the greatest mapped value
abbrev pub greatest : ℕ → ℕ
greatest bits = 2 ^ bits - 1

-- a line has as many blocks as its columns need
abbrev pub block_count : Form → ℕ
block_count form = (form.columns + form.block - 1) / form.block

-- the blocks of a segment, which a run of zero blocks never passes (CCSDS 121.0-B)
abbrev pub segment_blocks : ℕ
segment_blocks = 64

-- how many blocks are left in the segment, the one at this place counted
abbrev pub left_in_segment : Form → ℕ → ℕ
left_in_segment form at = min (segment_blocks - at % segment_blocks) (block_count form - at)

-- where a part stands: how many bits a sample has, and how many samples a block; whether it is the line's first part;
-- and how many blocks are left in its segment, its own first one counted
pub record BlockSite : Type 0 where
  pub bits : ℕ
  pub block : ℕ
  pub first : Bool
  pub left : ℕ

-- the part that begins with the block of this place
abbrev pub site_at : Form → ℕ → BlockSite
site_at form at =
    record { bits = form.bits; block = form.block; first = at == 0; left = left_in_segment form at }

-- ---- identifiers

-- the bits of an identifier; that of a zero block or a second extension has one more
abbrev pub short_width : ℕ → ℕ
short_width bits = if nat_le bits 8 then 3 else 4

abbrev pub identifier : ℕ → BlockOption → List ℕ
identifier bits ZeroBlock = number_bits (short_width bits + 1) 0
identifier bits SecondExtension = number_bits (short_width bits + 1) 1
identifier bits (Split k) = number_bits (short_width bits) (k + 1)
identifier bits Uncoded = number_bits (short_width bits) (2 ^ short_width bits - 1)

-- values are split by at most 5 bits, or by at most 13
abbrev pub IsOption : ℕ → BlockOption → Type 0
IsOption bits (Split k) = k + 2 < 2 ^ short_width bits
IsOption bits option = Unit {0}

-- ---- the parts of a line

-- A zero block, with the number of its sequence; or one block in one of the other options, with its mapped values. A
-- second extension has besides the number that stands in the place of the reference, if the block is the first.
pub data Part : Type 0 where
  Zeros : ℕ → Part
  Pairs : ℕ → List ℕ → Part
  Halves : ℕ → List ℕ → Part
  Numbers : List ℕ → Part

abbrev pub option_of : Part → BlockOption
option_of (Zeros m) = ZeroBlock
option_of (Pairs lead values) = SecondExtension
option_of (Halves k values) = Split k
option_of (Numbers values) = Uncoded

-- how many blocks a zero block of this number stands for, where this many are left in the segment
abbrev pub run_of : ℕ → ℕ → ℕ
run_of left m = if nat_lt m 4 then m + 1 else (if m == 4 then left else m)

-- how many blocks the part stands for
abbrev pub span_of : ℕ → Part → ℕ
span_of left (Zeros m) = run_of left m
span_of left part = 1

-- how many mapped values this many blocks have: of a line's first one the reference takes the first place
abbrev pub places : ℕ → Bool → ℕ → ℕ
places block first span = span * block - (if first then 1 else 0)

abbrev pub values_of : BlockSite → Part → List ℕ
values_of site (Zeros m) = replicate (places site.block site.first (run_of site.left m)) 0
values_of site (Pairs lead values) = values
values_of site (Halves k values) = values
values_of site (Numbers values) = values

-- the values of one block
pub record AreValues (site : BlockSite) (values : List ℕ) : Type 0 where
  pub whole : length values ≡ places site.block site.first 1
  pub small : All (λ value. value ≤ greatest site.bits) values

abbrev pub IsPart : BlockSite → Part → Type 0
IsPart site (Zeros m) = run_of site.left m ≤ site.left
IsPart site (Pairs lead values) = AreValues site values
IsPart site (Halves k values) = IsOption site.bits (Split k) × AreValues site values
IsPart site (Numbers values) = AreValues site values

-- ---- their strings

-- the number of a pair
abbrev pub pair_number : ℕ → ℕ → ℕ
pair_number a b = (a + b) * (a + b + 1) / 2 + b

abbrev pub pairs_string : List ℕ → List ℕ
pairs_string (a ∷ b ∷ values) = zeros_and_one (pair_number a b) ++ pairs_string values
pairs_string (a ∷ []) = []
pairs_string [] = []

-- what stands after the identifier and the reference
abbrev pub body_string : ℕ → Bool → Part → List ℕ
body_string bits first (Zeros m) = zeros_and_one m
body_string bits first (Pairs lead values) = pairs_string (if first then lead ∷ values else values)
body_string bits first (Halves k values) =
    flat_map (λ value. zeros_and_one (value / 2 ^ k)) values ++ flat_map (number_bits k) values
body_string bits first (Numbers values) = flat_map (number_bits bits) values

-- the identifier, and in a line's first block the reference
abbrev pub head_string : ℕ → Bool → ℕ → BlockOption → List ℕ
head_string bits first reference option =
    identifier bits option ++ (if first then number_bits bits reference else [])

abbrev pub part_string : ℕ → Bool → ℕ → Part → List ℕ
part_string bits first reference part =
    head_string bits first reference (option_of part) ++ body_string bits first part

-- ---- lines

-- Parts that follow each other from one block of the line up to another one. Each begins before the line's end.
abbrev pub Follow : Form → ℕ → List Part → ℕ → Type 0
Follow form at [] end = at ≡ end
Follow form at (part ∷ parts) end =
    (at < block_count form) × (IsPart (site_at form at) part
    × Follow form (at + span_of (left_in_segment form at) part) parts end)

-- their values and their strings, joined
abbrev pub values_from : Form → ℕ → List Part → List ℕ
values_from form at [] = []
values_from form at (part ∷ parts) =
    values_of (site_at form at) part
    ++ values_from form (at + span_of (left_in_segment form at) part) parts

abbrev pub string_from : Form → ℕ → ℕ → List Part → List ℕ
string_from form reference at [] = []
string_from form reference at (part ∷ parts) =
    part_string form.bits (at == 0) reference part
    ++ string_from form reference (at + span_of (left_in_segment form at) part) parts

-- the string is a coding of the mapped values of a line that begins with the reference
pub record Codes (form : Form) (reference : ℕ) (values string : List ℕ) : Type 0 where
  pub parts : List Part
  pub follow : Follow form 0 parts (block_count form)
  pub are_values : values ≡ values_from form 0 parts
  pub is_string : string ≡ string_from form reference 0 parts

-- ---- samples

-- The mapped value of a sample after the sample p, of a range from 0 to `most`. With d for their difference and t for
-- the least way from p to an end of the range it is 2d for d from 0 to t, 2|d| - 1 for d from -t below 0, and t + |d|
-- for the others.
abbrev pub mapped_value : ℕ → ℕ → ℕ → ℕ
mapped_value most p sample =
    let t = min p (most - p) in
    if nat_le p sample
    then (if nat_le (sample - p) t then 2 * (sample - p) else t + (sample - p))
    else (if nat_le (p - sample) t then 2 * (p - sample) - 1 else t + (p - sample))

-- the samples after the sample p, one after the other, that have these mapped values
abbrev pub HaveValues : ℕ → ℕ → List ℕ → List ℕ → Type 0
HaveValues most p [] [] = Unit {0}
HaveValues most p (value ∷ values) (sample ∷ samples) =
    (sample ≤ most) × ((mapped_value most p sample ≡ value) × HaveValues most sample values samples)
HaveValues most p values samples = ⊥

-- The string codes a line of these samples. Those of the last block that are past the columns are dropped.
pub record IsLine (form : Form) (samples string : List ℕ) : Type 0 where
  pub reference : ℕ
  pub in_range : reference ≤ greatest form.bits
  pub values : List ℕ
  pub codes : Codes form reference values string
  pub others : List ℕ
  pub have_values : HaveValues (greatest form.bits) reference values others
  pub are_samples : samples ≡ take form.columns (reference ∷ others)

-- a line, and after it what is known to be others
pub record LineThen (form : Form) (Others : List ℕ → List ℕ → Type 0) (samples string : List ℕ) : Type 0 where
  pub line : List ℕ
  pub front : List ℕ
  pub is_line : IsLine form line front
  pub others : List ℕ
  pub back : List ℕ
  pub are_others : Others others back
  pub are_samples : samples ≡ line ++ others
  pub is_string : string ≡ front ++ back

-- this many lines, one after another
abbrev pub AreLines : Form → ℕ → List ℕ → List ℕ → Type 0
AreLines form zero samples string = (samples ≡ []) × (string ≡ [])
AreLines form (suc n) samples string = LineThen form (AreLines form n) samples string

-- the string begins with a coding of this many lines, of these samples
pub record BeginsWithLines (form : Form) (n : ℕ) (samples string : List ℕ) : Type 0 where
  pub coding : List ℕ
  pub rest : List ℕ
  pub lines : AreLines form n samples coding
  pub is_string : string ≡ coding ++ rest

-- the pixels grew by the samples of this many lines, with which the string begins
pub record GrowsByLines (form : Form) (n : ℕ) (string old new : List ℕ) : Type 0 where
  pub samples : List ℕ
  pub begins : BeginsWithLines form n samples string
  pub grown : new ≡ old ++ samples
