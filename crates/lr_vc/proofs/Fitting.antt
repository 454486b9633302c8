-- Packets fit the zones in which they came.
use Rattle.std.proofs.Common.{◌≡◌, ℕ, zero, suc, ◌+◌, ◌-◌, ◌*◌, ◌<◌, ◌≤◌, true, false, cond, not, ◌&&◌, List, [], ◌∷◌}
use Rattle.std.proofs.Common.{◌++◌, map, length, drop, filter, flat_map, sum_by, count_by, refl, sym, ap, ◌∙◌, subst}
use Rattle.std.proofs.Common.{⊎_elim, arith, append-nil, append_assoc, length-append, length-take, length-drop, min}
use Rattle.std.proofs.Common.{ltb, eqb, lt-ltb, le-ltb, eq-eqb, ne_eqb, eqb-true}
use Rattle.std.proofs.lemmas.Bool.{cases_lt, cases_eq, cases_Bool, and_right}
use Rattle.std.proofs.lemmas.List.Sums.{sum_by-cons, sum_by-append, sum_by_push}
use Rattle.std.proofs.lemmas.List.Filters.{sum_by-filter_both}
use Rattle.std.proofs.lemmas.List.Elements.{filter-append, All-from_recursion}
use Rattle.std.specs.List.{AllByRecursion as Each, enumerate_from}
use Rattle.lr_bits.specs.Packet.{Packet}
use Rattle.lr_bits.specs.declared.sizes.TheConstants.{FILL_CHANNEL, NO_PACKET_START, ZONE_BYTES}
use Rattle.lr_bits.proofs.ByKeys.{sums_by_key}
use Rattle.lr_vc.specs.Frame.{Fields}
use Rattle.lr_vc.specs.Runs.{Run, AreChannelFrames, channel_frames, runs_of}
use Rattle.lr_vc.specs.Packets.{zones_of, packet_end, is_whole, starts_of, packet_at, ends_in, packets_ending}
use Rattle.lr_vc.specs.Packets.{packets_in, packets_at, packets_of}
use Rattle.lr_vc.specs.Standing.{open_packets, last_counter, last_run}
use Rattle.lr_vc.specs.Steps.{follows, ends_with, completed_packet, continued_packet, packets_inside, starts_unfinished}
use Rattle.lr_vc.specs.Steps.{packets_with, open_after}
use Rattle.lr_vc.proofs.Lists.{Each_any, Each_left, Each_right, Each-map, Each-flat_map, filter_none}
use Rattle.lr_vc.proofs.Starts.{packet_end_is, is_whole_true}
use Rattle.lr_vc.proofs.Inside.{packets_inside-whole, packets_inside-rest, starts_unfinished-whole}
use Rattle.lr_vc.proofs.Inside.{starts_unfinished-rest}
use Rattle.lr_vc.proofs.Carried.{completed_packet-by, completed_packet-long, continued_packet-long}
use Rattle.lr_vc.proofs.Carried.{continued_packet-other, continued_packet-short, packets_with-late, packets_with-early}
use Rattle.lr_vc.proofs.Carried.{open_after-late, open_after-early}
use Rattle.lr_vc.proofs.History.{zones_each, met, open_none, channel_frames-other, open_packets-own, packets_of-more}
use Rattle.lr_vc.proofs.History.{packets_at-last, packets_at-next}

abbrev bytes_of : List Packet → ℕ
bytes_of packets = sum_by (λ packet. length packet.bytes) packets

-- a packet has no bytes after its end
packet_within : (channel : ℕ) (xs : List ℕ) (s : ℕ) → length (packet_at channel xs s).bytes ≤ packet_end xs s - s
unfolding packet_at
packet_within channel xs s = omega (arith, length-take (packet_end xs s - s) (drop s xs))

-- ---- one zone

-- packets that ended, and at most one that is open after them, have at most this many bytes
record Holds (whole : List Packet) (unfinished : List (List ℕ)) (most : ℕ) : Type 0 where
  few : length unfinished ≤ 1
  fit : bytes_of whole + sum_by length unfinished ≤ most

-- the packets from a place of a zone on
module _ (zone : List ℕ) (long : length zone ≡ ZONE_BYTES) (channel : ℕ) where
  abbrev HoldsFrom : ℕ → Type 0
  HoldsFrom s = Holds (packets_inside channel zone s) (map (λ t. drop t zone) (starts_unfinished zone s))
      (ZONE_BYTES - s)

  whole_from : (s : ℕ) → is_whole zone s ≡ true → HoldsFrom (packet_end zone s) → HoldsFrom s
  whole_from s whole later =
      let inside = (is_whole_true zone s whole).1 in
      let one = packet_at channel zone s in
      let rest = packets_inside channel zone (packet_end zone s) in
      rw (packets_inside-whole zone long channel s whole, starts_unfinished-whole zone long s whole)
      (record {
        few = later.few;
        fit = omega (
          arith,
          later.fit,
          inside,
          packet_end_is zone s,
          packet_within channel zone s,
          sum_by-cons (λ packet. length packet.bytes) one rest,
        );
      })

  rest_from : (s : ℕ) → is_whole zone s ≡ false → HoldsFrom s
  rest_from s part =
      rw (packets_inside-rest zone long channel s part, starts_unfinished-rest zone long s part)
      (⊎_elim (λ inside. rw (lt-ltb s ZONE_BYTES inside) (record {
        few = omega arith;
        fit = omega (arith, length-drop s zone);
      }))
      (λ past. rw (le-ltb s ZONE_BYTES past) (record { few = omega arith; fit = omega arith }))
      (cases_lt s ZONE_BYTES))

  inside_from : (steps s : ℕ) → ZONE_BYTES ≤ steps + s → HoldsFrom s
  inside_from zero s enough =
      ⊎_elim (λ whole. absurd (omega (arith, is_whole_true zone s whole, packet_end_is zone s)))
      (λ part. rest_from s part) (cases_Bool (is_whole zone s))
  inside_from (suc steps) s enough =
      ⊎_elim (λ whole. whole_from s whole (inside_from steps (packet_end zone s) (omega (arith, packet_end_is zone s))))
      (λ part. rest_from s part) (cases_Bool (is_whole zone s))

-- what the zone makes of an open packet
module _ (zone : List ℕ) (long : length zone ≡ ZONE_BYTES) (channel p : ℕ) where
  ended_within : (b : List ℕ) → bytes_of (completed_packet channel zone p b) ≤ packet_end (b ++ zone) 0
  unfolding completed_packet
  ended_within b =
      elim (ends_with b zone p) as (λ t. bytes_of (cond t (packet_at channel (b ++ zone) 0 ∷ []) []) ≤ packet_end
      (b ++ zone) 0)
      [ true ↦ omega (arith, packet_within channel (b ++ zone) 0) | false ↦ omega arith ]

  ended_early : (b : List ℕ) → p < ZONE_BYTES → bytes_of (completed_packet channel zone p b) ≤ length b + p
  ended_early b early =
      let end = packet_end (b ++ zone) 0 in
      let here = ltb p ZONE_BYTES && eqb end (length b + p) in
      ⊎_elim (λ e. omega (arith, ended_within b))
      (λ ne.
      let no : here ≡ false = and_right (ltb p ZONE_BYTES) (eqb end (length b + p)) (ne_eqb end (length b + p) ne) in
      let off : cond (eqb end (length b + ZONE_BYTES)) (eqb p NO_PACKET_START) here ≡ false =
      elim (eqb end (length b + ZONE_BYTES)) as (λ t. cond t (eqb p NO_PACKET_START) here ≡
      false) [ true ↦ ne_eqb p NO_PACKET_START (λ e. omega arith) | false ↦ no ] in
      rw (completed_packet-by b zone p channel false (sym off)) (omega arith))
      (cases_eq end (length b + p))

  one_carried : (b : List ℕ) →
      Holds (completed_packet channel zone p b) (continued_packet zone p b) (length b + min p ZONE_BYTES)
  one_carried b =
      ⊎_elim
      (λ beyond. rw (completed_packet-long b zone p channel beyond)
      (⊎_elim (λ e. rw (continued_packet-long b zone p beyond e)
      (record { few = omega arith; fit = omega (arith, length-append b zone) }))
      (λ ne. rw (continued_packet-other b zone p ne) (record { few = omega arith; fit = omega arith }))
      (cases_eq p NO_PACKET_START)))
      (λ within. rw (continued_packet-short b zone p within)
      (⊎_elim (λ early. record { few = omega arith; fit = omega (arith, ended_early b early) })
      (λ late. record { few = omega arith; fit = omega (arith, ended_within b) })
      (cases_lt p ZONE_BYTES)))
      (cases_lt (length b + ZONE_BYTES) (packet_end (b ++ zone) 0))

  -- and of at most one of them
  carried : (bs : List (List ℕ)) → length bs ≤ 1 → Holds (flat_map (completed_packet channel zone p) bs)
      (flat_map (continued_packet zone p) bs) (sum_by length bs + min p ZONE_BYTES)
  carried [] few = record { few = omega arith; fit = omega arith }
  carried (b ∷ []) few =
      let one = one_carried b in
      rw (append-nil (completed_packet channel zone p b), append-nil (continued_packet zone p b))
      (record { few = one.few; fit = omega (arith, one.fit) })
  carried (b ∷ b' ∷ bs) few = absurd (omega arith)

-- a frame's packets and the open one after them have the bytes of the open one that it meets and of its zone
frame_holds : (f : Fields) (bs : List (List ℕ)) → length f.zone ≡ ZONE_BYTES → length bs ≤ 1 →
    Holds (packets_with f bs) (open_after f bs) (sum_by length bs + ZONE_BYTES)
frame_holds f bs long few =
    let over = carried f.zone long f.vc f.pointer bs few in
    let ends = flat_map (completed_packet f.vc f.zone f.pointer) bs in
    ⊎_elim
    (λ early.
    let enough : ZONE_BYTES ≤ ZONE_BYTES + f.pointer = omega arith in
    let inside = inside_from f.zone long f.vc ZONE_BYTES f.pointer enough in
    rw (packets_with-early f bs early, open_after-early f bs early)
    (record {
      few = inside.few;
      fit = omega (
        arith,
        over.fit,
        inside.fit,
        sum_by-append (λ packet. length packet.bytes) ends (packets_inside f.vc f.zone f.pointer),
      );
    }))
    (λ late. rw (packets_with-late f bs late, open_after-late f bs late)
    (record { few = over.few; fit = omega (arith, over.fit) }))
    (cases_lt f.pointer ZONE_BYTES)

-- ---- a channel

abbrev packets_of_channel : ℕ → List Packet → List Packet
packets_of_channel channel packets = filter (λ packet. eqb packet.vc channel) packets

-- the packets of a frame come on its channel, and fill has none
packets_in_other : (channel : ℕ) (frames : List Fields) (x : ℕ × Fields)
    → ((x.1.vc ≡ FILL_CHANNEL → ⊥) → x.1.vc ≡ channel → ⊥) →
    Each (λ packet. eqb packet.vc channel ≡ false) (packets_in frames x)
unfolding packets_in packets_ending packet_at
packets_in_other channel frames x apart =
    let vc = x.1.vc in
    let P : Packet → Type 0 = λ packet. eqb packet.vc channel ≡ false in
    let runs = runs_of (channel_frames vc frames) in
    let ends = λ (run : Run). filter (ends_in run x.0) (starts_of run) in
    ⊎_elim (λ e. rw (eq-eqb vc FILL_CHANNEL e) tt)
    (λ ne. rw (ne_eqb vc FILL_CHANNEL ne)
    (Each-flat_map P (packets_ending vc x.0) runs (Each_any (λ run. Each P (packets_ending vc x.0 run))
    (λ run. Each-map P (packet_at vc (zones_of run)) (ends run)
    (Each_any (λ s. P (packet_at vc (zones_of run) s)) (λ s. ne_eqb vc channel (apart ne)) (ends run))) runs)))
    (cases_eq vc FILL_CHANNEL)

packets_of_fill : (frames : List Fields) → packets_of_channel FILL_CHANNEL (packets_of frames) ≡ []
unfolding packets_of
packets_of_fill frames =
    let P : Packet → Type 0 = λ packet. eqb packet.vc FILL_CHANNEL ≡ false in
    let all = enumerate_from 0 frames in
    filter_none (λ packet. eqb packet.vc FILL_CHANNEL) (flat_map (packets_in frames) all)
    (Each-flat_map P (packets_in frames) all (Each_any (λ x. Each P (packets_in frames x))
    (λ x. packets_in_other FILL_CHANNEL frames x (λ ne. ne)) all))

packets_of_other : (channel : ℕ) (history : List Fields) (f : Fields) → (f.vc ≡ channel → ⊥) →
    packets_of_channel channel (packets_at (history ++ f ∷ []) (length history)) ≡ []
packets_of_other channel history f ne =
    let x : ℕ × Fields = (length history, f) in
    ap (packets_of_channel channel) (packets_at-last history f)
    ∙ filter_none (λ packet. eqb packet.vc channel) (packets_in (history ++ f ∷ []) x)
    (packets_in_other channel (history ++ f ∷ []) x (λ _. ne))

-- the bytes that a frame's zone has for packets
abbrev room : Fields → ℕ
room frame = ZONE_BYTES * cond (not (eqb frame.vc FILL_CHANNEL)) 1 0

-- the packets of a channel, and the open one of its last run, have the room of its frames
abbrev HoldsOf : ℕ → List Fields → Type 0
HoldsOf channel history =
    Holds (packets_of_channel channel (packets_of history))
    (open_packets (last_run (runs_of (channel_frames channel history))))
    (sum_by room (filter (λ frame. eqb frame.vc channel) history))

holds_none : (channel : ℕ) → HoldsOf channel []
unfolding packets_of channel_frames runs_of
holds_none channel = rw open_none (record { few = omega arith; fit = omega arith })

-- the first of these frames are frames
front_frames : (history more : List Fields) → AreChannelFrames (history ++ more) → AreChannelFrames history
front_frames history more are =
    let P : Fields → Type 0 = λ f. length f.zone ≡ ZONE_BYTES in
    All-from_recursion P history (Each_left P history more (zones_each (history ++ more) are))

packets_of_channel-more : (channel : ℕ) (history : List Fields) (f : Fields) → AreChannelFrames (history ++ f ∷ []) →
    packets_of_channel channel (packets_of (history ++ f ∷ [])) ≡
    packets_of_channel channel (packets_of history) ++ packets_of_channel channel
    (packets_at (history ++ f ∷ []) (length history))
packets_of_channel-more channel history f are =
    ap (packets_of_channel channel) (packets_of-more history f are)
    ∙ filter-append (λ packet. eqb packet.vc channel) (packets_of history)
    (packets_at (history ++ f ∷ []) (length history))

-- one frame more of the channel, and one of any channel
holds_own : (history : List Fields) (f : Fields) → (f.vc ≡ FILL_CHANNEL → ⊥) → AreChannelFrames (history ++ f ∷ []) →
    HoldsOf f.vc history → HoldsOf f.vc (history ++ f ∷ [])
unfolding packets_with open_after
holds_own history f ne are h =
    let frames = front_frames history (f ∷ []) are in
    let long : length f.zone ≡ ZONE_BYTES =
    (Each_right (λ f. length f.zone ≡ ZONE_BYTES) history (f ∷ []) (zones_each (history ++ f ∷ []) are)).0 in
    let size = λ (packet : Packet). length packet.bytes in
    let old = open_packets (last_run (runs_of (channel_frames f.vc history))) in
    let bs = met (channel_frames f.vc history) f.counter in
    let meets : (length bs ≤ 1) × (sum_by length bs ≤ sum_by length old) =
    elim (follows (last_counter (channel_frames f.vc history)) f.counter) as
    (λ j. (length (cond j old []) ≤ 1) × (sum_by length (cond j old []) ≤ sum_by length old))
    [ true ↦ (h.few, omega arith) | false ↦ (omega arith, omega arith) ] in
    let step = frame_holds f bs long meets.0 in
    let own = λ (frame : Fields). eqb frame.vc f.vc in
    let new = packets_at (history ++ f ∷ []) (length history) in
    let ends : new ≡ packets_with f bs = packets_at-next history f frames long ne in
    let begins : open_packets (last_run (runs_of (channel_frames f.vc (history ++ f ∷ [])))) ≡ open_after f bs =
    open_packets-own history f frames long in
    let part =
    sum_by-filter_both (λ packet. eqb packet.vc f.vc) (λ packet. not (eqb packet.vc f.vc)) (λ _. refl) size new in
    let more : bytes_of (packets_of_channel f.vc (packets_of (history ++ f ∷ []))) ≡
    bytes_of (packets_of_channel f.vc (packets_of history)) + bytes_of (packets_of_channel f.vc new) =
    ap bytes_of (packets_of_channel-more f.vc history f are)
    ∙ sum_by-append size (packets_of_channel f.vc (packets_of history)) (packets_of_channel f.vc new) in
    let its_room : room f ≡ ZONE_BYTES = ap (λ b. ZONE_BYTES * cond (not b) 1 0) (ne_eqb f.vc FILL_CHANNEL ne) in
    let rooms : sum_by room (filter own (history ++ f ∷ [])) ≡ sum_by room (filter own history) + room f =
    ap (sum_by room) (filter-append own history (f ∷ [])
    ∙ ap (λ b. filter own history ++ cond b (f ∷ []) []) (eq-eqb f.vc f.vc refl))
    ∙ sum_by_push room (filter own history) f in
    record {
      few = subst (λ os. length os ≤ 1) (sym begins) step.few;
      fit = omega (
        arith,
        step.fit,
        meets.1,
        h.fit,
        ap bytes_of ends,
        ap (sum_by length) begins,
        part,
        more,
        its_room,
        rooms,
      );
    }

holds_more : (channel : ℕ) (history : List Fields) (f : Fields) → (channel ≡ FILL_CHANNEL → ⊥)
    → AreChannelFrames (history ++ f ∷ []) →
    HoldsOf channel history → HoldsOf channel (history ++ f ∷ [])
holds_more channel history f ne are h =
    ⊎_elim
    (λ own. subst (λ c. HoldsOf c (history ++ f ∷ [])) own
    (holds_own history f (λ e. ne (sym own ∙ e)) are (subst (λ c. HoldsOf c history) (sym own) h)))
    (λ other.
    let mine = λ (frame : Fields). eqb frame.vc channel in
    let packets : packets_of_channel channel (packets_of (history ++ f ∷ [])) ≡
    packets_of_channel channel (packets_of history) =
    packets_of_channel-more channel history f are ∙ ap (λ ps. packets_of_channel channel (packets_of history) ++ ps)
    (packets_of_other channel history f other)
    ∙ append-nil (packets_of_channel channel (packets_of history)) in
    let frames : filter mine (history ++ f ∷ []) ≡ filter mine history =
    filter-append mine history (f ∷ []) ∙ ap (λ b. filter mine history ++ cond b (f ∷ []) [])
    (ne_eqb f.vc channel other) ∙ append-nil (filter mine history) in
    rw (packets, frames, channel_frames-other channel history f other) h)
    (cases_eq f.vc channel)

holds_append : (channel : ℕ) (history more : List Fields) → (channel ≡ FILL_CHANNEL → ⊥)
    → AreChannelFrames (history ++ more) →
    HoldsOf channel history → HoldsOf channel (history ++ more)
holds_append channel history [] ne are h = subst (HoldsOf channel) (sym (append-nil history)) h
holds_append channel history (f ∷ fs) ne are h =
    let split : history ++ f ∷ fs ≡ (history ++ f ∷ []) ++ fs = sym (append_assoc history (f ∷ []) fs) in
    let all : AreChannelFrames ((history ++ f ∷ []) ++ fs) = subst AreChannelFrames split are in
    let next = holds_more channel history f ne (front_frames (history ++ f ∷ []) fs all) h in
    subst (HoldsOf channel) (sym split) (holds_append channel (history ++ f ∷ []) fs ne all next)

sum_by-room : (frames : List Fields) → sum_by room frames ≡ ZONE_BYTES * count_by
    (λ frame. not (eqb frame.vc FILL_CHANNEL)) frames
sum_by-room [] = refl
sum_by-room (f ∷ fs) =
    let one : Fields → ℕ = λ frame. cond (not (eqb frame.vc FILL_CHANNEL)) 1 0 in
    omega (arith, sum_by-room fs, sum_by-cons room f fs, sum_by-cons one f fs)

-- all packets have at most the room of all frames
pub packets_fit : (frames : List Fields) → AreChannelFrames frames →
    bytes_of (packets_of frames) ≤ ZONE_BYTES * count_by (λ frame. not (eqb frame.vc FILL_CHANNEL)) frames
packets_fit frames are =
    let each : (channel : ℕ) → bytes_of (packets_of_channel channel (packets_of frames)) ≤ sum_by room
    (filter (λ frame. eqb frame.vc channel) frames) =
    λ channel. ⊎_elim (λ fill. subst (λ c. bytes_of (packets_of_channel c (packets_of frames)) ≤ sum_by room
    (filter (λ frame. eqb frame.vc c) frames)) (sym fill)
    (rw (packets_of_fill frames) (omega arith)))
    (λ ne. omega (arith, (holds_append channel [] frames ne are (holds_none channel)).fit))
    (cases_eq channel FILL_CHANNEL) in
    omega (
      arith,
      sums_by_key eqb eqb-true (λ k. eq-eqb k k refl) (λ packet. packet.vc) (λ frame. frame.vc)
          (λ packet. length packet.bytes) room (packets_of frames) frames each,
      sum_by-room frames,
    )
