-- `packets` goes on by one frame, and what it puts in all.
use Rattle.std.proofs.Common.{◌≡◌, ℕ, ◌+◌, ◌*◌, ◌<◌, ◌≤◌, List, [], ◌∷◌, ◌++◌, length, ap, ◌∙◌, sym}
use Rattle.std.proofs.Common.{refl, subst, arith, append_assoc, append-nil, length-append, take}
use Rattle.std.proofs.lemmas.List.{take-map}
use lib.Seq.{take-nil}
use Rattle.std.proofs.Common.{Result, Ok, Err, ◌^◌}
use Rattle.std.specs.Prelude.{All}
use Rattle.std.specs.Result.{result_ok}
use Rattle.std.specs.List.{filter_map}
use Rattle.std.proofs.lemmas.List.Elements.{All-nil, All-cons, All-head, All-tail, filter_map-append}
use Rattle.lr_bits.specs.declared.outcome.Outcome.TheVariants.{Restored, Lost}
use Rattle.lr_bits.specs.declared.outcome.Corrected.{Corrected}
use Rattle.lr_io.specs.declared.source.Source.{Ghosts as SourceOf}
use Rattle.lr_io.specs.declared.sink.Sink.{Ghosts as SinkOf}
use Rattle.lr_bits.specs.Packet.{Packet}
use Rattle.lr_bits.specs.declared.sizes.TheConstants.{FRAME_BYTES, ZONE_BYTES}
use Rattle.lr_bits.specs.Sizes.{most_u64}
use Rattle.lr_vc.specs.declared.channels.TheConstants.{MOST_ENDING_PACKETS}
use Rattle.lr_vc.proofs.History.{packets_of-append}
use Rattle.lr_vc.specs.Frame.{Fields, frame_of}
use Rattle.lr_vc.specs.Runs.{AreChannelFrames}
use Rattle.lr_vc.specs.Packets.{packets_of}
use Rattle.lr_vc.specs.Standing.{KeptChannels, ChannelsStandFor}
use Rattle.lr_packet.specs.Verdict.{good_packets}
use Rattle.lr_causes.specs.declared.cause.Cause.{Cause}
use Rattle.lr_causes.specs.Puts.{Puts, PutStops}
use Rattle.lr_reading.specs.Arrivals.{arrival_of, arrivals_of, arrivals_of_units}
use Rattle.lr_reading.specs.Inputs.{outcome_of_unit}
use Rattle.lr_reading.specs.Reading.{units_of}
use Rattle.lr_reading.specs.Readers.{leeway_for}
use Rattle.lr_reading.specs.Runs.{ReadsInput, TakesAll, TakesSome, course_of, lent}
use Rattle.lr_reading.specs.declared.arrival.Arrival.{Arrival}
use Rattle.lr_forms.specs.declared.forms.Input.TheVariants.{Units}
use Rattle.lr_forms.specs.declared.forms.UnitForm.TheVariants.{Frames}
use Rattle.lr_reading.specs.declared.read_counts.ReadCounts.{ReadCounts}
use Rattle.lr_reading.proofs.Coming.{no_arrivals}
use Rattle.lr_reading.proofs.Fronts.{All-first}
use Rattle.lr_reading.proofs.Whole.{units_long}
use Rattle.lr_cmd_print.specs.declared.packet_count.PacketCount.{PacketCount}
use Rattle.lr_cmd_print.specs.declared.packet_lines.PacketLines.{PacketLines}
use Rattle.lr_cmd_print.specs.Added.{lines_added}
use Rattle.lr_cmd_print.specs.Packets.{frames_read, packets_read, lines_from, lines_of_packets}
use Rattle.lr_cmd_print.specs.Packets.{packets_text, packets_printed}
use Rattle.lr_cmd_print.specs.PacketsRead.{IsAfter, IsPacketCount}
use Rattle.lr_cmd_print.specs.PacketsTaken.{restored_frame, frames_in, text_of_packets, PacketsTook, PacketsStopped}
use Rattle.lr_causes.specs.Outside.{pipe, pipe_of}
use Rattle.lr_cmd_print.specs.Printing.{Prints}
use Rattle.lr_cmd_print.specs.Progress.{LinesComeFirst, LinesStop}
use Rattle.lr_reading.proofs.Outcomes.{zone_is}
use Rattle.lr_cmd_print.proofs.Adding.{lines_of_packets-none, lines_of_packets-push}
use Rattle.lr_cmd_print.proofs.PacketsText.{lines_from-append}
use Rattle.lr_causes.proofs.Joining.{puts_both, puts_none}
use Rattle.lr_cmd_print.proofs.Lines.{all_but_one, come_first, due_put, lines_stop, lines_stopped}

-- ---- the frames of arrivals

frames_in-none : frames_in [] ≡ []
unfolding frames_in
frames_in-none = refl

frames_in-restored : (arrivals : List Arrival) (arrival : Arrival) (corrected : Corrected) (frame : List ℕ)
    → arrival.outcome ≡ Restored corrected frame
    → frames_in (arrivals ++ arrival ∷ []) ≡ frames_in arrivals ++ frame ∷ []
unfolding frames_in
frames_in-restored arrivals arrival corrected frame is =
    filter_map-append (λ (a : Arrival). restored_frame a.outcome) arrivals (arrival ∷ [])
    ∙ rw is refl

frames_in-lost : (arrivals : List Arrival) (arrival : Arrival) (word : ℕ) → arrival.outcome ≡ Lost word
    → frames_in (arrivals ++ arrival ∷ []) ≡ frames_in arrivals
unfolding frames_in
frames_in-lost arrivals arrival word is =
    filter_map-append (λ (a : Arrival). restored_frame a.outcome) arrivals (arrival ∷ [])
    ∙ rw is (append-nil (filter_map (λ (a : Arrival). restored_frame a.outcome) arrivals))

frames_in-append : (arrivals more : List Arrival) → frames_in (arrivals ++ more) ≡ frames_in arrivals ++ frames_in more
unfolding frames_in
frames_in-append arrivals more = filter_map-append (λ (a : Arrival). restored_frame a.outcome) arrivals more

frames_in-units : (units : List (List ℕ)) → frames_in (arrivals_of_units Frames units) ≡ units
unfolding frames_in arrivals_of_units
frames_in-units [] = refl
frames_in-units (unit ∷ units) = ap (λ (l : List (List ℕ)). unit ∷ l) (frames_in-units units)

frames_in-all : (bytes : List ℕ) → frames_in (arrivals_of (Units Frames) bytes) ≡ units_of FRAME_BYTES bytes
unfolding arrivals_of
frames_in-all bytes = frames_in-units (units_of FRAME_BYTES bytes)

-- ---- the lines of the first frames come first

read_at : (frame : List ℕ) (frames : List (List ℕ)) (r : Result Fields ℕ) → frame_of frame ≡ r
    → length frame ≡ FRAME_BYTES
    → AreChannelFrames (filter_map (λ f. result_ok (frame_of f)) frames)
    → AreChannelFrames (filter_map (λ f. result_ok (frame_of f)) (frame ∷ frames))
read_at frame frames (Ok fields) is long rest =
    rw is
    (All-cons (λ (f : Fields). length f.zone ≡ ZONE_BYTES) fields (filter_map (λ f. result_ok (frame_of f)) frames)
    (zone_is frame fields long is) rest)
read_at frame frames (Err version) is long rest = rw is rest

all_read : (frames : List (List ℕ)) → All (λ (frame : List ℕ). length frame ≡ FRAME_BYTES) frames
    → AreChannelFrames (frames_read frames)
unfolding frames_read
all_read [] all = All-nil (λ (f : Fields). length f.zone ≡ ZONE_BYTES)
all_read (frame ∷ frames) all =
    read_at frame frames (frame_of frame) refl (All-head (λ (u : List ℕ). length u ≡ FRAME_BYTES) frame frames all)
    (all_read frames (All-tail (λ (u : List ℕ). length u ≡ FRAME_BYTES) frame frames all))

lines_first : (frames more : List (List ℕ)) → All (λ (frame : List ℕ). length frame ≡ FRAME_BYTES) (frames ++ more)
    → (later : List ℕ) × (lines_of_packets (frames ++ more) ≡ lines_of_packets frames ++ later)
unfolding lines_of_packets packets_read frames_read
lines_first frames more all =
    let both : filter_map (λ f. result_ok (frame_of f)) (frames ++ more) ≡ frames_read frames ++ frames_read more =
    filter_map-append (λ f. result_ok (frame_of f)) frames more in
    let front : (later : List Packet)
    × (packets_of (frames_read frames ++ frames_read more) ≡ packets_of (frames_read frames) ++ later) =
    packets_of-append (frames_read frames) (frames_read more)
    (subst (λ (l : List Fields). AreChannelFrames l) both (all_read (frames ++ more) all)) in (
      lines_from (0 + length (packets_of (frames_read frames))) front.0,
      ap (λ (l : List Packet). lines_from 0 l) (ap packets_of both ∙ front.1)
          ∙ lines_from-append 0 (packets_of (frames_read frames)) front.0,
    )

-- so do those of the first arrivals
packets_grow : (bytes : List ℕ) (arrivals others : List Arrival)
    → arrivals_of (Units Frames) bytes ≡ arrivals ++ others
    → (first rest : List Arrival) → arrivals ≡ first ++ rest
    → (later : List ℕ) × (text_of_packets arrivals ≡ text_of_packets first ++ later)
packets_grow bytes arrivals others all first rest is =
    let units : units_of FRAME_BYTES bytes ≡ frames_in arrivals ++ frames_in others =
    sym (frames_in-all bytes) ∙ ap frames_in all ∙ frames_in-append arrivals others in
    let both : frames_in arrivals ≡ frames_in first ++ frames_in rest = ap frames_in is ∙ frames_in-append first rest
    in
    let long : All (λ (frame : List ℕ). length frame ≡ FRAME_BYTES) (frames_in arrivals) =
    All-first (λ (frame : List ℕ). length frame ≡ FRAME_BYTES) (frames_in arrivals) (frames_in others)
    (subst (λ (l : List (List ℕ)). All (λ (frame : List ℕ). length frame ≡ FRAME_BYTES) l) units
    (units_long Frames bytes)) in
    let front = lines_first (frames_in first) (frames_in rest)
    (subst (λ (l : List (List ℕ)). All (λ (frame : List ℕ). length frame ≡ FRAME_BYTES) l) both long) in
    (front.0, ap lines_of_packets both ∙ front.1)

-- those of the first arrivals are the first ones
frames_in-first : (given : List ℕ) (count : ℕ) → frames_in (take count (arrivals_of (Units Frames) given))
    ≡ take count (units_of FRAME_BYTES given)
unfolding arrivals_of arrivals_of_units
frames_in-first given count =
    let units : List (List ℕ) = units_of FRAME_BYTES given in
    ap frames_in (take-map (λ (unit : List ℕ). arrival_of (outcome_of_unit Frames unit)) count units)
    ∙ frames_in-units (take count units)

text_of_first : (given : List ℕ) (count : ℕ) → text_of_packets (take count (arrivals_of (Units Frames) given))
    ≡ lines_of_packets (take count (units_of FRAME_BYTES given))
text_of_first given count = ap lines_of_packets (frames_in-first given count)

-- of no bytes there are none
pub none_first : (count : ℕ) → lines_of_packets (take count (units_of FRAME_BYTES [])) ≡ []
none_first count = sym (text_of_first [] count)
    ∙ ap (λ (l : List Arrival). text_of_packets (take count l)) (no_arrivals (Units Frames))
    ∙ ap (λ (l : List Arrival). text_of_packets l) (take-nil count) ∙ ap lines_of_packets frames_in-none
    ∙ lines_of_packets-none

-- ---- the lines

frames_read-none : frames_read [] ≡ []
unfolding frames_read
frames_read-none = refl

packets_read-none : packets_read [] ≡ []
unfolding packets_read packets_of
packets_read-none = ap packets_of frames_read-none

begun_after : (channels : KeptChannels) (counted : PacketCount) → ChannelsStandFor channels [] → counted.packets ≡ 0
    → counted.good ≡ 0 → IsAfter channels counted []
begun_after channels counted stands packets good = record {
  stands = subst (λ (l : List Fields). ChannelsStandFor channels l) (sym frames_read-none) stands;
  all = record {
    packets = packets ∙ sym (ap length packets_read-none);
    good = good ∙ sym (ap (λ l. length (good_packets l)) packets_read-none);
  };
}

module _ {O : Type 0} (out : SinkOf O) where
  -- it begins
  pub packets_begun : (lines : PacketLines O) → ChannelsStandFor lines.channels.now [] → lines.counted.packets ≡ 0
      → lines.counted.good ≡ 0 → PacketsTook out lines [] lines
  packets_begun lines stands packets good = record {
    same_out = refl;
    after = subst (λ (l : List (List ℕ)). IsAfter lines.channels.now lines.counted l) (sym frames_in-none)
        (begun_after lines.channels.now lines.counted stands packets good);
    few = omega (arith, packets);
    put = subst (λ (l : List ℕ). Puts out l lines.out.now lines.out.now)
        (sym (ap lines_of_packets frames_in-none ∙ lines_of_packets-none)) (puts_none out lines.out.now);
  }

  module _ {before now : PacketLines O} {arrivals : List Arrival} (took : PacketsTook out before arrivals now)
      (arrival : Arrival) where
    -- there is room for the packets of one frame more
    pub room : FRAME_BYTES * (length arrivals + 1) ≤ most_u64 → now.counted.packets + MOST_ENDING_PACKETS < 2 ^ 64
    room few = omega (arith, few, took.few)

    -- a block was lost
    pub packets_lost : (word : ℕ) → arrival.outcome ≡ Lost word
        → PacketsTook out before (arrivals ++ arrival ∷ []) now
    packets_lost word is =
        let same = sym (frames_in-lost arrivals arrival word is) in
        record {
          same_out = took.same_out;
          after = subst (λ (l : List (List ℕ)). IsAfter now.channels.now now.counted l) same took.after;
          few = omega (arith, took.few, length-append arrivals (arrival ∷ []));
          put = subst (λ (l : List (List ℕ)). Puts out (lines_of_packets l) before.out.now now.out.now) same took.put;
        }

    module _ (corrected : Corrected) (frame : List ℕ) (is : arrival.outcome ≡ Restored corrected frame)
        (whole : length frame ≡ FRAME_BYTES) where
      more : lines_of_packets (frames_in (arrivals ++ arrival ∷ []))
          ≡ lines_of_packets (frames_in arrivals) ++ lines_added (frames_in arrivals) frame
      more = ap lines_of_packets (frames_in-restored arrivals arrival corrected frame is)
          ∙ lines_of_packets-push (frames_in arrivals) frame took.after.stands.frames whole

      -- the lines of its packets were put
      pub packets_put : (now' : PacketLines O) → now'.out.ghost_name ≡ now.out.ghost_name
          → IsAfter now'.channels.now now'.counted (frames_in arrivals ++ frame ∷ [])
          → now'.counted.packets ≤ now.counted.packets + MOST_ENDING_PACKETS
          → Puts out (lines_added (frames_in arrivals) frame) now.out.now now'.out.now
          → PacketsTook out before (arrivals ++ arrival ∷ []) now'
      packets_put now' same after few put = record {
        same_out = same ∙ took.same_out;
        after = subst (λ (l : List (List ℕ)). IsAfter now'.channels.now now'.counted l)
            (sym (frames_in-restored arrivals arrival corrected frame is)) after;
        few = omega (arith, took.few, few, length-append arrivals (arrival ∷ []));
        put = subst (λ (l : List ℕ). Puts out l before.out.now now'.out.now) (sym more)
            (puts_both out _ _ _ _ _ took.put put);
      }

      -- they weren't
      pub packets_stopped : (cause : Cause) (now' : PacketLines O) → now'.out.ghost_name ≡ now.out.ghost_name
          → PutStops out (lines_added (frames_in arrivals) frame) cause now.out.now now'.out.now
          → PacketsStopped out before (arrivals ++ arrival ∷ []) cause now'
      packets_stopped cause now' same stops = record {
        same_out = same ∙ took.same_out;
        stops = subst (λ (l : List ℕ). LinesStop out l cause before.out.now now'.out.now) (sym more)
            (lines_stop out (lines_of_packets (frames_in arrivals)) (lines_added (frames_in arrivals) frame)
            before.out.now now.out.now now'.out.now took.put cause stops);
        others = all_but_one out (λ l. text_of_packets l) arrivals before.out.now arrival
            (lines_added (frames_in arrivals) frame) now.out.now now'.out.now took.put cause stops;
      }

  module _ {S : Type 0} (source : SourceOf S) (limit : ℕ) {s s' : S} {before now : PacketLines O}
      (begun : PacketsTook out before [] before) where
    -- all frames were taken
    pub all_packets : {totals : ReadCounts}
        → TakesAll (course_of source (PacketsTook out) (Units Frames) limit (leeway_for (Units Frames) 1)) totals
        (lent s before) (lent s' now)
        → (now.out.ghost_name ≡ before.out.ghost_name) × ((bytes : List ℕ)
        × ReadsInput source (Units Frames) limit bytes totals s s'
        × IsPacketCount now.counted (units_of FRAME_BYTES bytes)
        × Puts out (packets_text bytes) before.out.now now.out.now
        × LinesComeFirst source (packets_printed limit) bytes s s')
    all_packets all =
        let took = all.taken before begun in
        let units = frames_in-all all.bytes in (
          took.same_out,
          (
            all.bytes,
            all.ends,
            subst (λ (l : List (List ℕ)). IsPacketCount now.counted l) units took.after.all,
            subst (λ (l : List (List ℕ)). Puts out (lines_of_packets l) before.out.now now.out.now) units took.put,
            come_first source (packets_printed limit) (λ l. text_of_packets l) text_of_first all.bytes s s'
                (arrivals_of (Units Frames) all.bytes) (packets_grow all.bytes (arrivals_of (Units Frames) all.bytes)
                [] (sym (append-nil (arrivals_of (Units Frames) all.bytes)))) refl (ap lines_of_packets units)
                all.in_time,
          ),
        )

    -- they were not
    pub some_packets : (cause : Cause)
        → TakesSome (course_of source (PacketsTook out) (Units Frames) limit (leeway_for (Units Frames) 1))
        (PacketsStopped out) cause (lent s before) (lent s' now)
        → (now.out.ghost_name ≡ before.out.ghost_name)
        × Prints (pipe_of source out) (packets_printed limit) cause (pipe s before.out.now)
        (pipe s' now.out.now)
    some_packets cause some =
        let stopped = some.stops before begun in
        let units : units_of FRAME_BYTES some.bytes ≡ frames_in some.passed ++ frames_in some.rest =
        sym (frames_in-all some.bytes) ∙ ap frames_in some.split ∙ frames_in-append some.passed some.rest in
        let first = lines_first (frames_in some.passed) (frames_in some.rest)
        (subst (λ (l : List (List ℕ)). All (λ (frame : List ℕ). length frame ≡ FRAME_BYTES) l) units
        (units_long Frames some.bytes)) in
        let parts : arrivals_of (Units Frames) some.bytes
        ≡ stopped.others.worked ++ (stopped.others.late ++ some.rest) =
        some.split ∙ ap (λ (l : List Arrival). l ++ some.rest) stopped.others.split
        ∙ append_assoc stopped.others.worked stopped.others.late some.rest in (
          stopped.same_out,
          lines_stopped source out (packets_printed limit) some.bytes (lines_of_packets (frames_in some.passed))
              first.0 s s' before.out.now now.out.now
              some.read (ap lines_of_packets units ∙ first.1)
              (due_put source (packets_printed limit) (λ l. text_of_packets l) text_of_first some.bytes s s'
              stopped.others.worked (packets_grow some.bytes stopped.others.worked
              (stopped.others.late ++ some.rest) parts) out before.out.now now.out.now some.passed
              stopped.others.late some.rest stopped.others.split stopped.others.one stopped.others.got some.split
              some.near some.close some.in_time)
              cause stopped.stops,
        )
