-- The attached sync marker of a frame (CCSDS 131.0-B, section 9.3), and its symbols.
use Rattle.std.specs.Prelude.{◌-◌, ◌==◌, false, Bool, List, map, take, drop}
use Rattle.std.specs.Int.{bit_at}
use Rattle.std.specs.List.{range_with_len}
use Rattle.lr_conv.specs.Convolution.{code}
use Rattle.lr_conv.specs.Levels.{last_level, levels, six_zeros}
use Rattle.lr_conv.specs.declared.line.LineCode.{LineCode}

-- the bits of 1A CF FC 1D, the most significant first
abbrev pub marker : List Bool
marker = map (λ k. bit_at 0x1ACFFC1D (31 - k) == 1) (range_with_len 0 32)

-- its first six bits
abbrev pub marker_start : List Bool
marker_start = take 6 marker

-- its last six levels, after a level 0, and the last of all
abbrev pub marker_end : LineCode → List Bool
marker_end line = drop 26 (levels line false marker)

abbrev pub last_marker_level : LineCode → Bool
last_marker_level line = last_level false (marker_end line)

-- the marker's tail: its symbols 12 to 63 after six levels 0
unfoldable pub tail_of : LineCode → List Bool
tail_of line = drop 12 (code line six_zeros (levels line false marker))

-- its symbols 12 to 63 after any six levels
abbrev pub tail_after : LineCode → List Bool → List Bool
tail_after line past = drop 12 (code line past (levels line (last_level false past) marker))
