-- Frame after frame of files: the packets that a receiver finds in them are those of the files, in their order.
use Rattle.std.proofs.Common.{◌≡◌, ℕ, zero, suc, ◌+◌, ◌-◌, ◌*◌, ◌/◌, ◌%◌, ◌<◌, ◌≤◌, Bool, true, false, cond, List, []}
use Rattle.std.proofs.Common.{◌∷◌, ◌++◌, map, length, drop, refl, sym, ap, ap₂, ◌∙◌, subst, arith, append-nil}
use Rattle.std.proofs.Common.{append_assoc, length-append, length-drop, eq-eqb, inl, inr, Some}
use Rattle.std.proofs.Common.{unwrap_or, leb, ltb, ltb-true}
use Rattle.std.specs.Prelude.{find}
use Rattle.std.specs.Option.{option_map}
use Rattle.std.specs.List.{AllByRecursion as Each, concat, range_with_len}
use Rattle.std.proofs.lemmas.Bool.{cases_eq, cases_Bool, and_parts}
use Rattle.std.proofs.lemmas.List.{map-append, take-append-drop, length-take-le}
use Rattle.std.proofs.lemmas.List.Elements.{All-push}
use Rattle.std.proofs.lemmas.Simd.{map-map}
use Rattle.lr_vc.proofs.Lists.{Each_right}
use Rattle.lr_bits.specs.File.{File}
use Rattle.lr_bits.specs.Packet.{Packet}
use Rattle.lr_bits.specs.declared.sizes.TheConstants.{CHANNELS, FILL_CHANNEL, FRAME_COUNTS, ZONE_BYTES}
use Rattle.lr_vc.specs.Frame.{Fields, fields_of}
use Rattle.lr_vc.specs.Runs.{AreChannelFrames, channel_frames, runs_of}
use Rattle.lr_vc.specs.Packets.{packets_of}
use Rattle.lr_vc.specs.Standing.{open_packets, last_counter, last_run}
use Rattle.lr_vc.specs.Steps.{follows, packets_with, open_after}
use Rattle.lr_vc.proofs.History.{met, open_none, channel_frames-other, last_counter-own, open_packets-own}
use Rattle.lr_vc.proofs.History.{packets_at-next, packets_of-more}
use Rattle.lr_sent.specs.Carried.{TellsItsLength}
use Rattle.lr_sent.proofs.MadeFrames.{Reads, frame_reads}
use Rattle.lr_uplink.specs.Packets.{file_packets}
use Rattle.lr_uplink.specs.Received.{IsSendable}
use Rattle.lr_uplink.specs.Sent.{packet_starts_from, is_in_zone, sent_zone_at, sent_pointer_at, sent_frame_at}
use Rattle.lr_uplink.specs.Sent.{sent_frames_of, file_frames}
use Rattle.lr_uplink.specs.Sent.{frames_before, packets_before, sent_after}
use Rattle.lr_uplink.proofs.FilePackets.{file_tells, file_fills}
use Rattle.lr_uplink.proofs.Walking.{on}
use Rattle.lr_uplink.proofs.Zones.{Stage, step, concat-both}

-- ---- what is read of a frame

small_by : (t place : ℕ) (packets : List (List ℕ)) →
    unwrap_or (option_map (λ start. start - ZONE_BYTES * t) (find (is_in_zone t) (packet_starts_from place packets)))
    2047 < 2048
small_by t place [] = omega arith
small_by t place (packet ∷ packets) =
    let rest = find (is_in_zone t) (packet_starts_from (place + length packet) packets) in
    let Small : Bool → Type 0 =
    λ b. unwrap_or (option_map (λ start. start - ZONE_BYTES * t) (cond b (Some place) rest)) 2047 < 2048 in
    elim (cases_Bool (is_in_zone t place)) [
      | inl inside ↦
          let below : place < ZONE_BYTES * t + ZONE_BYTES =
          ltb-true place (ZONE_BYTES * t + ZONE_BYTES)
          (and_parts (leb (ZONE_BYTES * t) place) (ltb place (ZONE_BYTES * t + ZONE_BYTES)) inside).1 in
          subst Small (sym inside) (omega (arith, below))
      | inr outside ↦ subst Small (sym outside) (small_by t (place + length packet) packets)
    ]

pub pointer_small : (packets : List (List ℕ)) (t : ℕ) → sent_pointer_at packets t < 2048
unfolding sent_pointer_at
pointer_small packets t = small_by t 0 packets

pub read_frame : (vc counter : ℕ) (packets : List (List ℕ)) (t : ℕ) → vc < CHANNELS →
    Reads (sent_frame_at vc counter packets t) vc ((counter + t) % FRAME_COUNTS) (sent_pointer_at packets t)
    (sent_zone_at packets t)
read_frame vc counter packets t v =
    frame_reads vc ((counter + t) % FRAME_COUNTS) (sent_pointer_at packets t) (sent_zone_at packets t) v (omega arith)
    (pointer_small packets t)

pub zone_long : (packets : List (List ℕ)) (t : ℕ) → ZONE_BYTES * t + ZONE_BYTES ≤ length (concat packets) →
    length (sent_zone_at packets t) ≡ ZONE_BYTES
unfolding sent_zone_at
zone_long packets t h =
    length-take-le ZONE_BYTES (drop (ZONE_BYTES * t) (concat packets))
    (omega (arith, length-drop (ZONE_BYTES * t) (concat packets)))

pub zone_stream : (packets : List (List ℕ)) (t : ℕ) →
    sent_zone_at packets t ++ drop ZONE_BYTES (drop (ZONE_BYTES * t) (concat packets)) ≡ drop (ZONE_BYTES * t)
    (concat packets)
unfolding sent_zone_at
zone_stream packets t = take-append-drop ZONE_BYTES (drop (ZONE_BYTES * t) (concat packets))

-- ---- one frame more

-- the open packets of a channel
abbrev pub open_of : ℕ → List Fields → List (List ℕ)
open_of channel history = open_packets (last_run (runs_of (channel_frames channel history)))

frames_more : (history : List Fields) (f : Fields) → length f.zone ≡ ZONE_BYTES → AreChannelFrames history →
    AreChannelFrames (history ++ f ∷ [])
frames_more history f long h = All-push (λ f. length f.zone ≡ ZONE_BYTES) history f h long

packets_more : (history : List Fields) (f : Fields) → AreChannelFrames history → length f.zone ≡ ZONE_BYTES
    → (f.vc ≡ FILL_CHANNEL → ⊥) →
    packets_of (history ++ f ∷ [])
    ≡ packets_of history ++ packets_with f (met (channel_frames f.vc history) f.counter)
unfolding packets_with
packets_more history f frames long ne =
    packets_of-more history f (frames_more history f long frames)
    ∙ ap (λ ps. packets_of history ++ ps) (packets_at-next history f frames long ne)

open_more : (history : List Fields) (f : Fields) → AreChannelFrames history → length f.zone ≡ ZONE_BYTES →
    open_of f.vc (history ++ f ∷ []) ≡ open_after f (met (channel_frames f.vc history) f.counter)
unfolding open_after
open_more history f frames long = open_packets-own history f frames long

-- what the next frame meets, where it follows
met_next : (history : List Fields) (f : Fields) (counter : ℕ) → counter ≡ (f.counter + 1) % FRAME_COUNTS →
    met (channel_frames f.vc (history ++ f ∷ [])) counter ≡ open_of f.vc (history ++ f ∷ [])
met_next history f counter e =
    ap (λ o. cond (follows o counter) (open_of f.vc (history ++ f ∷ [])) []) (last_counter-own history f)
    ∙ ap (λ b. cond b (open_of f.vc (history ++ f ∷ [])) []) (eq-eqb counter ((f.counter + 1) % FRAME_COUNTS) e)

-- where nothing is open, nothing is met
met_none : (history : List Fields) (channel counter : ℕ) → open_of channel history ≡ [] →
    met (channel_frames channel history) counter ≡ []
met_none history channel counter none =
    let b = follows (last_counter (channel_frames channel history)) counter in
    ap (λ os. cond b os []) none
    ∙ elim b as (λ b. ◌≡◌ {A = List (List ℕ)} (cond b [] []) []) [ true ↦ refl | false ↦ refl ]

-- ---- the frames of packets

-- the frames of some packets were taken, after other frames
record Taken (vc : ℕ) (packets : List (List ℕ)) (history later : List Fields) (done : List (List ℕ)) : Type 0 where
  rest : List (List ℕ)
  split : packets ≡ done ++ rest
  found : packets_of (history ++ later) ≡ packets_of history ++ map (on vc) rest
  closed : open_of vc (history ++ later) ≡ []
  frames : AreChannelFrames (history ++ later)

module _ (vc counter : ℕ) (packets : List (List ℕ)) (channel : vc < FILL_CHANNEL) (tell : Each TellsItsLength packets)
    (total : ℕ) (whole : length (concat packets) ≡ ZONE_BYTES * total)
  where
    abbrev pub frame : ℕ → Fields
    frame t = fields_of (sent_frame_at vc counter packets t)

    reads : (t : ℕ) → Reads (sent_frame_at vc counter packets t) vc ((counter + t) % FRAME_COUNTS)
        (sent_pointer_at packets t)
        (sent_zone_at packets t)
    reads t = read_frame vc counter packets t (omega arith)

    long : (t : ℕ) → t < total → length (frame t).zone ≡ ZONE_BYTES
    long t inside = ap length (reads t).zone_is ∙ zone_long packets t (omega (arith, whole))

    -- after the last zone nothing is left
    nothing : (back : List (List ℕ)) → Each TellsItsLength back → length (concat back) ≡ 0 → back ≡ []
    nothing [] tells e = refl
    nothing (packet ∷ back) tells e = absurd (omega (arith, length-append packet (concat back), tells.0))

    all_done : (done met : List (List ℕ)) → Stage packets done met (ZONE_BYTES * total) → (packets ≡ done) × (met ≡ [])
    all_done done met s = elim s [
      | inl b ↦
          let none : length (concat b.back) ≡ 0 =
          omega (arith, whole, ap (λ ps. length (concat ps)) b.split, concat-both done b.back, b.size) in
          let empty = nothing b.back (Each_right TellsItsLength done b.back
          (subst (Each TellsItsLength) b.split tell)) none in
          (b.split ∙ ap (λ ps. done ++ ps) empty ∙ append-nil done, b.none)
      | inr w ↦
          absurd (omega (
            arith,
            whole,
            ap (λ ps. length (concat ps)) w.split,
            concat-both done (w.packet ∷ w.back),
            length-append w.packet (concat w.back),
            w.size,
            w.part,
          ))
    ]

    take_frames : (n t : ℕ) (history : List Fields) (done open_now : List (List ℕ)) → t + n ≡ total →
        AreChannelFrames history → Stage packets done open_now (ZONE_BYTES * t) → open_of vc history ≡ open_now →
        met (channel_frames vc history) ((counter + t) % FRAME_COUNTS) ≡ open_now →
        Taken vc packets history (map frame (range_with_len t n)) done
    take_frames zero t history done open_now e frames stage is meets =
        let place : ZONE_BYTES * t ≡ ZONE_BYTES * total = omega arith in
        let all = all_done done open_now (subst (λ p. Stage packets done open_now p) place stage) in
        let same : history ++ [] ≡ history = append-nil history in
        record {
          rest = [];
          split = all.0 ∙ sym (append-nil done);
          found = ap packets_of same ∙ sym (append-nil (packets_of history));
          closed = ap (open_of vc) same ∙ is ∙ all.1;
          frames = subst (λ (h : List Fields). AreChannelFrames h) (sym same) frames;
        }
    take_frames (suc n) t history done open_now e frames stage is meets =
        let f = frame t in
        let r = reads t in
        let size = long t (omega arith) in
        let more = history ++ f ∷ [] in
        let stream : f.zone ++ drop ZONE_BYTES (drop (ZONE_BYTES * t) (concat packets)) ≡ drop (ZONE_BYTES * t)
        (concat packets) =
        ap (λ z. z ++ drop ZONE_BYTES (drop (ZONE_BYTES * t) (concat packets))) r.zone_is ∙ zone_stream packets t in
        let s = step packets tell t f (drop ZONE_BYTES (drop (ZONE_BYTES * t) (concat packets))) size stream
        r.pointer_is done
        open_now
        stage in
        let meets_own : met (channel_frames f.vc history) f.counter ≡ open_now =
        ap₂ (λ c k. met (channel_frames c history) k) r.channel r.counter_is ∙ meets in
        let packets_now : packets_of more ≡ packets_of history ++ map (on vc) s.ended =
        packets_more history f frames size (λ fill. omega (arith, fill, r.channel))
        ∙ ap (λ os. packets_of history ++ packets_with f os) meets_own ∙ ap (λ ps. packets_of history ++ ps) s.with
        ∙ ap (λ c. packets_of history ++ map (on c) s.ended) r.channel in
        let open_own : open_of f.vc more ≡ s.open_packets =
        open_more history f frames size ∙ ap (open_after f) meets_own ∙ s.after in
        let next : (counter + (t + 1)) % FRAME_COUNTS ≡ (f.counter + 1) % FRAME_COUNTS = omega (arith, r.counter_is) in
        let met_own : met (channel_frames vc more) ((counter + (t + 1)) % FRAME_COUNTS) ≡ s.open_packets =
        ap (λ c. met (channel_frames c more) ((counter + (t + 1)) % FRAME_COUNTS)) (sym r.channel)
        ∙ met_next history f ((counter + (t + 1)) % FRAME_COUNTS) next ∙ open_own in
        let place : ZONE_BYTES * t + ZONE_BYTES ≡ ZONE_BYTES * (t + 1) = omega arith in
        let rest = take_frames n (t + 1) more (done ++ s.ended) s.open_packets (omega arith)
        (frames_more history f size frames)
        (subst (λ p. Stage packets (done ++ s.ended) s.open_packets p) place s.stage)
        (ap (λ c. open_of c more) (sym r.channel) ∙ open_own) met_own in
        let later = map frame (range_with_len (t + 1) n) in
        let joined : more ++ later ≡ history ++ f ∷ later = append_assoc history (f ∷ []) later in
        record {
          rest = s.ended ++ rest.rest;
          split = rest.split ∙ append_assoc done s.ended rest.rest;
          found = ap packets_of (sym joined) ∙ rest.found ∙ ap (λ ps. ps ++ map (on vc) rest.rest) packets_now
              ∙ append_assoc (packets_of history) (map (on vc) s.ended) (map (on vc) rest.rest)
              ∙ ap (λ ps. packets_of history ++ ps) (sym (map-append (on vc) s.ended rest.rest));
          closed = ap (open_of vc) (sym joined) ∙ rest.closed;
          frames = subst (λ (h : List Fields). AreChannelFrames h) joined rest.frames;
        }

    -- other channels stay as they are
    others_stay : (c n t : ℕ) (history : List Fields) → (c ≡ vc → ⊥) →
        open_of c (history ++ map frame (range_with_len t n)) ≡ open_of c history
    others_stay c zero t history other = ap (open_of c) (append-nil history)
    others_stay c (suc n) t history other =
        let f = frame t in
        ap (open_of c) (sym (append_assoc history (f ∷ []) (map frame (range_with_len (t + 1) n))))
        ∙ others_stay c n (t + 1) (history ++ f ∷ []) other
        ∙ ap (λ fs. open_packets (last_run (runs_of fs)))
        (channel_frames-other c history f (λ e. other (sym e ∙ (reads t).channel)))

-- ---- the frames of files

-- what is received of files that are sent after others
abbrev pub packets_after : List File → List File → List Packet
packets_after before [] = []
packets_after before (file ∷ files) =
    map (on file.vc) (file_packets (packets_before file.vc file.apid before) file)
    ++ packets_after (before ++ file ∷ []) files

-- nothing is open
abbrev pub AreClosed : List Fields → Type 0
AreClosed history = (c : ℕ) → open_of c history ≡ []

pub record Received (history : List Fields) (later : List Fields) (packets : List Packet) : Type 0 where
  pub found : packets_of (history ++ later) ≡ packets_of history ++ packets
  pub closed : AreClosed (history ++ later)
  pub frames : AreChannelFrames (history ++ later)

file_received : (vc counter : ℕ) (packets : List (List ℕ)) (history : List Fields) → vc < FILL_CHANNEL →
    Each TellsItsLength packets → length (concat packets) ≡ ZONE_BYTES * (length (concat packets) / ZONE_BYTES) →
    AreChannelFrames history → AreClosed history →
    Received history (map fields_of (sent_frames_of vc counter packets)) (map (on vc) packets)
unfolding sent_frames_of
file_received vc counter packets history channel tell whole frames closed =
    let total = length (concat packets) / ZONE_BYTES in
    let F = frame vc counter packets channel tell total whole in
    let start : Stage packets [] [] (ZONE_BYTES * 0) = inl (record {
      back = packets;
      split = refl;
      size = refl;
      none =
          refl;
    }) in
    let taken = take_frames vc counter packets channel tell total whole total 0 history [] [] (omega arith) frames
    start
    (closed vc) (met_none history vc ((counter + 0) % FRAME_COUNTS) (closed vc)) in
    let same = map-map fields_of (sent_frame_at vc counter packets) (range_with_len 0 total) in
    subst (λ (fs : List Fields). Received history fs (map (on vc) packets)) (sym same) (record {
      found = taken.found ∙ ap (λ ps. packets_of history ++ map (on vc) ps) (sym taken.split);
      closed = λ c. elim (cases_eq c vc) [
        | inl own ↦ ap (λ k. open_of k (history ++ map F (range_with_len 0 total))) own ∙ taken.closed
        | inr other ↦ others_stay vc counter packets channel tell total whole c total 0 history other ∙ closed c
      ];
      frames = taken.frames;
    })

pub files_received : (before files : List File) (history : List Fields) → Each IsSendable files →
    AreChannelFrames history → AreClosed history →
    Received history (map fields_of (sent_after before files)) (packets_after before files)
files_received before [] history each frames closed =
    let same : history ++ [] ≡ history = append-nil history in
    record {
      found = ap packets_of same ∙ sym (append-nil (packets_of history));
      closed = subst (λ (h : List Fields). AreClosed h) (sym same) closed;
      frames = subst (λ (h : List Fields). AreChannelFrames h) (sym same) frames;
    }
files_received before (file ∷ files) history each frames closed =
    let count = packets_before file.vc file.apid before in
    let packets = file_packets count file in
    let own = map fields_of (file_frames before file) in
    let one = file_received file.vc (frames_before file.vc before) packets history each.0.channel
    (file_tells count file each.0.is) (file_fills count file) frames closed in
    let rest = files_received (before ++ file ∷ []) files (history ++ own) each.1 one.frames one.closed in
    let later = map fields_of (sent_after (before ++ file ∷ []) files) in
    let all : map fields_of (sent_after before (file ∷ files)) ≡ own ++ later =
    map-append fields_of (file_frames before file) (sent_after (before ++ file ∷ []) files) in
    let joined : history ++ map fields_of (sent_after before (file ∷ files)) ≡ (history ++ own) ++ later =
    ap (λ (fs : List Fields). history ++ fs) all ∙ sym (append_assoc history own later) in
    record {
      found = ap packets_of joined ∙ rest.found
          ∙ ap (λ ps. ps ++ packets_after (before ++ file ∷ []) files) one.found
          ∙ append_assoc (packets_of history) (map (on file.vc) packets) (packets_after (before ++ file ∷ []) files);
      closed = subst (λ (h : List Fields). AreClosed h) (sym joined) rest.closed;
      frames = subst (λ (h : List Fields). AreChannelFrames h) (sym joined) rest.frames;
    }

-- without frames there are no packets, and none is open
pub no_packets : (packets_of [] ≡ []) × AreClosed []
unfolding packets_of channel_frames runs_of
no_packets = (refl, λ c. open_none)
