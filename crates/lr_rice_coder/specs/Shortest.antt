-- The string that a line is coded as (CCSDS 121.0-B). In each segment every maximal run of blocks whose mapped values
-- are all 0 is one zero block, and every other block has the shortest of the other options, on a tie the first of them.
-- Their order is second extension, splits by 0, 1 and more bits, uncoded.
use Rattle.std.specs.Prelude.{ℕ, zero, suc, ◌+◌, ◌-◌, ◌*◌, ◌^◌, ◌==◌, nat_lt, if◌then◌else◌, Bool, true, false}
use Rattle.std.specs.Prelude.{List, [], ◌∷◌, ◌++◌, length, take, drop, replicate}
use Rattle.lr_rice.specs.declared.choice.BlockOption.{BlockOption}
use Rattle.lr_rice.specs.declared.choice.BlockOption.TheVariants.{SecondExtension, Split, Uncoded}
use Rattle.lr_rice.specs.CodedLines.{Form, Part, Zeros, Pairs, Halves, Numbers, block_count, body_string, greatest}
use Rattle.lr_rice.specs.CodedLines.{identifier, left_in_segment, mapped_value, short_width, span_of, string_from}

-- ---- mapped values

-- those of samples after the sample p, one after another
abbrev pub mapped_from : ℕ → ℕ → List ℕ → List ℕ
mapped_from most p [] = []
mapped_from most p (sample ∷ samples) = mapped_value most p sample ∷ mapped_from most sample samples

-- how many places of a line's blocks are past its columns
abbrev pub places_past : Form → ℕ
places_past form = block_count form * form.block - form.columns

-- the values of all places of a line: 0 for the reference's, the mapped values, and 0 past the columns
abbrev pub line_places : Form → List ℕ → List ℕ
line_places form [] = []
line_places form (reference ∷ samples) =
    0 ∷ mapped_from (greatest form.bits) reference samples ++ replicate (places_past form) 0

-- the values of the places of one block
abbrev pub places_of_block : ℕ → List ℕ → ℕ → List ℕ
places_of_block block places at = take block (drop (at * block) places)

-- ---- runs

abbrev pub all_zero : List ℕ → Bool
all_zero [] = true
all_zero (zero ∷ values) = all_zero values
all_zero (suc value ∷ values) = false

-- how many blocks from this one on, of the next `most`, are all 0
unfoldable pub zero_run : ℕ → List ℕ → ℕ → ℕ → ℕ
zero_run block places zero at = 0
zero_run block places (suc most) at =
    if all_zero (places_of_block block places at) then suc (zero_run block places most (at + 1)) else 0

-- The number of a zero block for a run of this many blocks, where `left` are left in the segment. The number 4 stands
-- for a run of five or more blocks up to the segment's end.
abbrev pub run_number : ℕ → ℕ → ℕ
run_number left run = if nat_lt run 5 then run - 1 else (if run == left then 4 else run)

-- ---- options

-- the mapped values of a block: in a line's first one the reference takes the first place
abbrev pub block_values : Bool → List ℕ → List ℕ
block_values first places = if first then drop 1 places else places

-- a block of these values in an option
abbrev pub block_in : BlockOption → List ℕ → Part
block_in SecondExtension values = Pairs 0 values
block_in (Split k) values = Halves k values
block_in option values = Numbers values

-- how many bits a block of these places takes in an option, without the reference
abbrev pub cost_of : ℕ → Bool → List ℕ → BlockOption → ℕ
cost_of bits first places option =
    length (identifier bits option) + length (body_string bits first (block_in option (block_values first places)))

-- the second of two options where it is shorter, else the first
abbrev pub shorter_option : ℕ → Bool → List ℕ → BlockOption → BlockOption → BlockOption
shorter_option bits first places one other =
    if nat_lt (cost_of bits first places other) (cost_of bits first places one) then other else one

-- the shortest of the second extension and the splits by at most k bits
unfoldable pub shortest_up_to : ℕ → Bool → List ℕ → ℕ → BlockOption
shortest_up_to bits first places zero = shorter_option bits first places SecondExtension (Split 0)
shortest_up_to bits first places (suc k) =
    shorter_option bits first places (shortest_up_to bits first places k) (Split (suc k))

-- by how many bits values are split at most: 5 or 13
abbrev pub most_split : ℕ → ℕ
most_split bits = 2 ^ short_width bits - 3

-- the shortest of all options but the zero block
unfoldable pub shortest_option : ℕ → Bool → List ℕ → BlockOption
shortest_option bits first places =
    shorter_option bits first places (shortest_up_to bits first places (most_split bits)) Uncoded

-- ---- parts

-- the part at a block of the line
unfoldable pub next_part : Form → List ℕ → ℕ → Part
next_part form places at =
    let left = left_in_segment form at in
    let run = zero_run form.block places left at in
    let here = places_of_block form.block places at in
    let first = at == 0 in
    if run == 0
    then block_in (shortest_option form.bits first here) (block_values first here)
    else Zeros (run_number left run)

-- the parts from a block of the line on, at most this many
unfoldable pub parts_from : Form → List ℕ → ℕ → ℕ → List Part
parts_from form places zero at = []
parts_from form places (suc most) at =
    if nat_lt at (block_count form)
    then next_part form places at ∷ parts_from form places most
    (at + span_of (left_in_segment form at) (next_part form places at))
    else []

-- the string of the line of these samples, each part of which stands for a block or more
abbrev pub shortest_string : Form → List ℕ → List ℕ
shortest_string form [] = []
shortest_string form (reference ∷ samples) =
    string_from form reference 0
    (parts_from form (line_places form (reference ∷ samples)) (block_count form) 0)
