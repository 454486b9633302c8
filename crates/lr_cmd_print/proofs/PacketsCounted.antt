-- `packets` goes on by one frame.
use Rattle.std.proofs.Common.{◌≡◌, ℕ, ◌+◌, ◌%◌, List, [], ◌∷◌, ◌++◌, length, ap, ◌∙◌, sym, arith, length-append}
use Rattle.lr_bits.specs.Packet.{Packet}
use Rattle.lr_bits.specs.declared.sizes.TheConstants.{FRAME_BYTES}
use Rattle.lr_vc.specs.Standing.{KeptChannels, ChannelsStandFor}
use Rattle.lr_packet.specs.Verdict.{good_packets}
use Rattle.lr_packet.proofs.VerdictLemmas.{good_packets-append}
use Rattle.lr_forms.specs.declared.forms.Stop.{Stop}
use Rattle.lr_catalog.specs.declared.summary.Summary.TheVariants.{Packets}
use Rattle.lr_catalog.specs.Summaries.{summary_line}
use Rattle.lr_io.specs.declared.source.Source.{Ghosts as SourceOf}
use Rattle.lr_reading.specs.Reading.{units_of}
use Rattle.lr_reading.specs.Runs.{ReadsInput}
use Rattle.lr_forms.specs.declared.forms.Input.TheVariants.{Units}
use Rattle.lr_forms.specs.declared.forms.UnitForm.TheVariants.{Frames}
use Rattle.lr_reading.specs.declared.read_counts.ReadCounts.{ReadCounts}
use Rattle.lr_cmd_print.specs.declared.packet_count.PacketCount.{PacketCount}
use Rattle.lr_cmd_print.specs.Packets.{frames_read, packets_read, lines_from, packets_count, packets_last}
use Rattle.lr_cmd_print.specs.Added.{packets_added, lines_added}
use Rattle.lr_cmd_print.specs.PacketsRead.{IsAfter, IsPacketCount}
use Rattle.lr_cmd_print.proofs.Adding.{packets_read-push}
use Rattle.lr_cmd_print.proofs.FramesGoOn.{frames_counted}

-- what was composed is what is added
pub lines_are : (channels : KeptChannels) (counted : PacketCount) (frames : List (List ℕ)) (frame : List ℕ)
    → IsAfter channels counted frames
    → (cleared items listed : List Packet) → cleared ≡ [] → items ≡ cleared ++ packets_added frames frame
    → listed ≡ items
    → (fresh lines text : List ℕ) → fresh ≡ [] → lines ≡ fresh ++ lines_from counted.packets listed
    → text ≡ lines → text ≡ lines_added frames frame
unfolding lines_added
lines_are channels counted frames frame after cleared items listed none read same fresh lines text empty
    composed taken =
    let added : listed ≡ packets_added frames frame = same ∙ read ∙ ap (λ l. l ++ packets_added frames frame) none in
    taken ∙ composed ∙ ap (λ l. l ++ lines_from counted.packets listed) empty
    ∙ ap (lines_from counted.packets) added
    ∙ ap (λ k. lines_from k (packets_added frames frame)) after.all.packets

-- the packets that were counted are those that are added
pub counted_on : (channels now : KeptChannels) (counted then : PacketCount) (frames : List (List ℕ)) (frame : List ℕ)
    → IsAfter channels counted frames → length frame ≡ FRAME_BYTES
    → ChannelsStandFor now (frames_read (frames ++ frame ∷ []))
    → (cleared items listed : List Packet) → cleared ≡ [] → items ≡ cleared ++ packets_added frames frame
    → listed ≡ items
    → then.packets ≡ counted.packets + length listed → then.good ≡ counted.good + length (good_packets listed)
    → IsAfter now then (frames ++ frame ∷ [])
counted_on channels now counted then frames frame after whole stands cleared items listed none read same packets good =
    let more = packets_added frames frame in
    let all : packets_read (frames ++ frame ∷ []) ≡ packets_read frames ++ more =
    packets_read-push frames frame after.stands.frames whole in
    let items_are : items ≡ more = read ∙ ap (λ l. l ++ more) none in
    let listed_are : listed ≡ more = same ∙ items_are in
    record {
      stands = stands;
      all = record {
        packets = omega (
          arith,
          packets,
          after.all.packets,
          ap length all,
          length-append (packets_read frames) more,
          ap length listed_are,
        );
        good = omega (
          arith,
          good,
          after.all.good,
          ap (λ l. length (good_packets l)) all,
          ap length (good_packets-append (packets_read frames) more),
          length-append (good_packets (packets_read frames)) (good_packets more),
          ap (λ l. length (good_packets l)) listed_are,
        );
      };
    }

-- the last line of the packets that were counted
pub counted_line : (counted : PacketCount) (frames : List (List ℕ)) (count rest : ℕ) (stop : Stop)
    → IsPacketCount counted frames → summary_line (Packets count counted.packets counted.good rest) stop
    ≡ packets_count frames count rest stop
unfolding packets_count
counted_line counted frames count rest stop all =
    ap (λ k. summary_line (Packets count k counted.good rest) stop) all.packets
    ∙ ap (λ k. summary_line (Packets count (length (packets_read frames)) k rest) stop) all.good

-- it says how many frames and packets there are, and how long the rest is
pub packets_last_is : {S : Type 0} (source : SourceOf S) (limit : ℕ) (totals : ReadCounts) (bytes : List ℕ) (s s' : S)
    → ReadsInput source (Units Frames) limit bytes totals s s'
    → packets_last bytes totals.stop ≡ packets_count (units_of FRAME_BYTES bytes) totals.frames totals.left totals.stop
packets_last_is source limit totals bytes s s' ends =
    ap (λ k. packets_count (units_of FRAME_BYTES bytes) k (length bytes % FRAME_BYTES) totals.stop)
    (sym (ends.frames ∙ frames_counted bytes))
    ∙ ap (λ k. packets_count (units_of FRAME_BYTES bytes) totals.frames k totals.stop) (sym ends.left)
