-- What an uplink of `transmit` stands for. No clause of a public call cites this.
use Rattle.std.specs.Prelude.{ℕ, List, length, take, drop}
use Rattle.lr_bits.specs.File.{File}
use Rattle.lr_conv.specs.declared.line.LineCode.{LineCode}
use Rattle.lr_uplink.specs.declared.uplink.Uplink.{Uplink}
use Rattle.lr_uplink.specs.Sent.{sent}
use Rattle.lr_uplink.specs.Standing.{History, UplinkStandsFor}
use Rattle.lr_cmd_transmit.specs.Transmit.{blocks_for, frame_bytes}

-- these files were loaded, and the first frames of theirs, this many, were given and sent
abbrev pub history_at : ℕ → List File → ℕ → History
history_at wrong files given =
    record { files = files; given = given; blocks = blocks_for wrong (take given (sent files)) }

abbrev pub IsUplinkAt : LineCode → ℕ → List File → ℕ → Uplink → Type 0
IsUplinkAt line wrong files given uplink = UplinkStandsFor uplink line (history_at wrong files given)

-- all frames were
abbrev pub HasSent : LineCode → ℕ → List File → Uplink → Type 0
HasSent line wrong files uplink = IsUplinkAt line wrong files (length (sent files)) uplink

-- what is still to be sent
abbrev pub rest_bytes : LineCode → ℕ → List File → ℕ → List ℕ
rest_bytes line wrong files given =
    drop (length (frame_bytes line wrong (take given (sent files)))) (frame_bytes line wrong (sent files))
