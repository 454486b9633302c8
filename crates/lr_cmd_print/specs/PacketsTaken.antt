-- How far `packets` has come. No clause of a public call cites this.
use Rattle.std.specs.Prelude.{◌≡◌, ◌≤◌, ◌*◌, ℕ, Option, Some, None, List, length}
use Rattle.std.specs.List.{filter_map}
use Rattle.lr_bits.specs.declared.outcome.Outcome.{Outcome}
use Rattle.lr_bits.specs.declared.outcome.Outcome.TheVariants.{Restored, Lost}
use Rattle.lr_vc.specs.declared.channels.TheConstants.{MOST_ENDING_PACKETS}
use Rattle.lr_io.specs.declared.sink.Sink.{Ghosts as SinkOf}
use Rattle.lr_causes.specs.declared.cause.Cause.{Cause}
use Rattle.lr_causes.specs.Puts.{Puts}
use Rattle.lr_reading.specs.declared.arrival.Arrival.{Arrival}
use Rattle.lr_cmd_print.specs.declared.packet_lines.PacketLines.{PacketLines}
use Rattle.lr_cmd_print.specs.Packets.{lines_of_packets}
use Rattle.lr_cmd_print.specs.PacketsRead.{IsAfter}
use Rattle.lr_cmd_print.specs.Progress.{LinesStop, PutsButLast}

-- the frame of a block that was restored
abbrev pub restored_frame : Outcome → Option (List ℕ)
restored_frame (Restored corrected frame) = Some frame
restored_frame (Lost word) = None

unfoldable pub frames_in : List Arrival → List (List ℕ)
frames_in arrivals = filter_map (λ (arrival : Arrival). restored_frame arrival.outcome) arrivals

-- the lines of their packets
abbrev pub text_of_packets : List Arrival → List ℕ
text_of_packets arrivals = lines_of_packets (frames_in arrivals)

module _ {O : Type 0} (out : SinkOf O) where
  -- the lines of the packets of these frames were put, and the packets counted
  pub record PacketsTook (before : PacketLines O) (arrivals : List Arrival)
      (now : PacketLines O) : Type 0 where
    pub same_out : now.out.ghost_name ≡ before.out.ghost_name
    pub after : IsAfter now.channels.now now.counted (frames_in arrivals)
    pub few : now.counted.packets ≤ MOST_ENDING_PACKETS * length arrivals
    pub put : Puts out (lines_of_packets (frames_in arrivals)) before.out.now now.out.now

  -- they were not all put
  pub record PacketsStopped (before : PacketLines O) (arrivals : List Arrival) (cause : Cause)
      (now : PacketLines O) : Type 0 where
    pub same_out : now.out.ghost_name ≡ before.out.ghost_name
    pub stops : LinesStop out (lines_of_packets (frames_in arrivals)) cause
        before.out.now now.out.now
    pub others : PutsButLast out text_of_packets arrivals before.out.now now.out.now
