-- Each packet that comes of frames which carry packets is one of these.
use Rattle.std.proofs.Common.{◌≡◌, ℕ, zero, suc, ◌+◌, ◌-◌, ◌*◌, ◌/◌, ◌<◌, ◌≤◌, Bool, true, false, cond, List, [], ◌∷◌}
use Rattle.std.proofs.Common.{◌++◌, map, length, take, drop, filter, flat_map, get_or, refl, sym, ap, ◌∙◌, subst}
use Rattle.std.proofs.Common.{⊎_elim, arith, append_assoc, append-nil, length-append, length-drop, drop_at, add-zero}
use Rattle.std.proofs.Common.{ltb, eqb, eq-eqb, ltb-true, Contains}
use Rattle.std.specs.Prelude.{All}
use Rattle.std.specs.List.{AllByRecursion as Each, concat, enumerate_from, list_all, range_with_len}
use Rattle.std.proofs.lemmas.Bool.{and_parts, cases_eq, cond_both, false≢true}
use Rattle.std.proofs.lemmas.List.{drop-append-le, length-map, take-append-le, take_at}
use Rattle.std.proofs.lemmas.List.Elements.{All-from_recursion, All-tail, All-head}
use Rattle.std.proofs.lemmas.List.Folds.{concat-append}
use Rattle.std.proofs.lemmas.Simd.{map-map}
use Rattle.lr_bits.specs.Packet.{Packet, length_field_at}
use Rattle.lr_bits.specs.declared.sizes.TheConstants.{FILL_CHANNEL, ZONE_BYTES}
use Rattle.lr_vc.specs.Frame.{Fields}
use Rattle.lr_vc.specs.Runs.{Run, next_counter, channel_frames, put_before, runs_of}
use Rattle.lr_vc.specs.Packets.{zones_of, pointer_of, packet_end, has_header, is_whole, starts_from, starts_in_zone}
use Rattle.lr_vc.specs.Packets.{starts_of, zones_after, agrees, is_delivered, packet_at, ends_in, place_of}
use Rattle.lr_vc.specs.Packets.{packets_ending, packets_in, packets_of}
use Rattle.lr_vc.proofs.Lists.{Each-map, Each-flat_map, Each_any, Each_weaker, Each-range}
use Rattle.lr_vc.proofs.Starts.{length_field-append, length_field-behind, packet_end_is, has_header_true, is_whole_true}
use Rattle.lr_sent.specs.Carried.{TellsItsLength, IsEdge, frames_of_channel, AreCountedOn, CarryPackets}
use Rattle.lr_sent.specs.Carried.{PacketsWereSent}

-- ---- lists

pub All_right : {X : Type 0} (P : X → Type 0) (xs ys : List X) → All P (xs ++ ys) → All P ys
All_right P [] ys h = h
All_right P (x ∷ xs) ys h = All_right P xs ys (All-tail P x (xs ++ ys) h)

-- an element between two lists
between : (xs : List (List ℕ)) (y : List ℕ) (ys : List (List ℕ)) → Contains (xs ++ y ∷ ys) y
between [] y ys = (0, omega arith, refl)
between (x ∷ xs) y ys = let rest = between xs y ys in (suc rest.0, omega (arith, rest.1), rest.2)

-- what passes a filter passes its test
passed : {X : Type 0} (P : X → Type 0) (p : X → Bool) (xs : List X) → Each P xs
    → Each (λ x. P x × (p x ≡ true)) (filter p xs)
passed P p [] _ = tt
passed P p (x ∷ xs) h =
    let step : (b : Bool) → p x ≡ b → Each (λ x. P x × (p x ≡ true)) (cond b (x ∷ filter p xs) (filter p xs)) =
    λ b. elim b as (λ b. p x ≡ b → Each (λ x. P x × (p x ≡ true)) (cond b (x ∷ filter p xs) (filter p xs))) [
      | true ↦ λ e. ((h.0, e), passed P p xs h.1)
      | false ↦ λ e. passed P p xs h.1
    ] in
    step (p x) refl

-- ---- edges

module _ (packets : List (List ℕ)) (tell : All TellsItsLength packets) (zones later : List ℕ)
    (bytes : concat packets ≡ zones ++ later) where
  -- the packet that begins at an edge whose header is there
  record Begins (s : ℕ) : Type 0 where
    front : List (List ℕ)
    packet : List ℕ
    back : List (List ℕ)
    split : packets ≡ front ++ packet ∷ back
    size : length (concat front) ≡ s
    long : packet_end zones s ≡ s + length packet
    rest : drop s (zones ++ later) ≡ packet ++ concat back

  begins_by : (s : ℕ) (front back : List (List ℕ)) → packets ≡ front ++ back → length (concat front) ≡ s
      → s + 6 ≤ length zones → Begins s
  begins_by s front [] split size header =
      let none : length (concat packets) ≡ s = ap (λ ps. length (concat ps)) (split ∙ append-nil front) ∙ size in
      absurd (omega (arith, none, ap length bytes, length-append zones later))
  begins_by s front (packet ∷ back) split size header =
      let all : zones ++ later ≡ concat front ++ (packet ++ concat back) =
      sym bytes ∙ ap concat split ∙ concat-append front (packet ∷ back) in
      let tells : TellsItsLength packet =
      All-head TellsItsLength packet back
      (All_right TellsItsLength front (packet ∷ back) (subst (All TellsItsLength) split tell)) in
      let field : length_field_at zones s ≡ length_field_at packet 0 =
      sym (length_field-append zones later s header) ∙ ap (λ xs. length_field_at xs s) all
      ∙ ap (λ k. length_field_at (concat front ++ (packet ++ concat back)) k) (sym (add-zero s))
      ∙ length_field-behind (concat front) (packet ++ concat back) s 0 size
      ∙ length_field-append packet (concat back) 0 (omega (arith, tells)) in
      record {
        front = front;
        packet = packet;
        back = back;
        split = split;
        size = size;
        long = omega (arith, packet_end_is zones s, field, tells);
        rest = ap (drop s) all ∙ drop_at (concat front) (packet ++ concat back) s size;
      }

  begins : (s : ℕ) → IsEdge packets s → s + 6 ≤ length zones → Begins s
  begins s edge header = begins_by s edge.front edge.back edge.split edge.size header

  -- where a packet ends is an edge
  next_edge : (s : ℕ) → Begins s → IsEdge packets (packet_end zones s)
  next_edge s b = record {
    front = b.front ++ b.packet ∷ [];
    back = b.back;
    split = b.split ∙ sym (append_assoc b.front (b.packet ∷ []) b.back);
    size = omega (
      arith,
      b.size,
      b.long,
      ap length (concat-append b.front (b.packet ∷ [])),
      length-append (concat b.front) (concat (b.packet ∷ [])),
      length-append b.packet [],
    );
  }

  -- a whole packet at an edge is the one that was sent there
  packet_there : (channel s : ℕ) → IsEdge packets s → is_whole zones s ≡ true
      → Contains packets (packet_at channel zones s).bytes
  unfolding packet_at
  packet_there channel s edge whole =
      let there = is_whole_true zones s whole in
      let b = begins s edge there.0 in
      let size : packet_end zones s - s ≡ length b.packet = omega (arith, b.long) in
      let here : drop s (zones ++ later) ≡ drop s zones ++ later =
      drop-append-le s zones later (omega (arith, there.0)) in
      let same : take (packet_end zones s - s) (drop s zones) ≡ b.packet =
      sym (take-append-le (packet_end zones s - s) (drop s zones) later (omega (arith, length-drop s zones, there.1)))
      ∙ ap (take (packet_end zones s - s)) (sym here ∙ b.rest)
      ∙ take_at b.packet (concat b.back) (packet_end zones s - s) (sym size) in
      subst (λ xs. Contains packets xs) (sym same)
      (subst (λ ps. Contains ps b.packet) (sym b.split) (between b.front b.packet b.back))

  edges_from : (edge steps s : ℕ) → IsEdge packets s → Each (IsEdge packets) (starts_from zones edge steps s)
  unfolding starts_from
  edges_from edge zero s is = tt
  edges_from edge (suc steps) s is =
      let P : List ℕ → Type 0 = λ ks. Each (IsEdge packets) ks in
      let rest : P (cond (has_header zones s) (starts_from zones edge steps (packet_end zones s)) []) =
      cond_both (has_header zones s) _ _ P
      (λ e. edges_from edge steps (packet_end zones s) (next_edge s (begins s is (has_header_true zones s e))))
      (λ _. tt) in
      cond_both (ltb s edge) _ _ P (λ _. (is, rest)) (λ _. tt)

-- ---- the frames of a channel, with and without their places

frames_of_run : (channel n : ℕ) (frames : List Fields) →
    map (λ f. f.1) (filter (λ f. eqb f.1.vc channel) (enumerate_from n frames)) ≡ frames_of_channel channel frames
frames_of_run channel n [] = refl
frames_of_run channel n (frame ∷ frames) =
    let rest = frames_of_run channel (n + 1) frames in
    let later = filter (λ (f : ℕ × Fields). eqb f.1.vc channel) (enumerate_from (n + 1) frames) in
    elim (eqb frame.vc channel) as (λ b. map (λ (f : ℕ × Fields). f.1) (cond b ((n, frame) ∷ later) later) ≡
    cond b (frame ∷ frames_of_channel channel frames) (frames_of_channel channel frames))
    [ true ↦ ap (λ (fs : List Fields). frame ∷ fs) rest | false ↦ rest ]

zones_of_run : (run : Run) → concat (map (λ frame. frame.zone) (map (λ f. f.1) run)) ≡ zones_of run
unfolding zones_of
zones_of_run [] = refl
zones_of_run (f ∷ fs) = ap (λ xs. f.1.zone ++ xs) (zones_of_run fs)

-- frames that are counted on are one run
one_run : (f : ℕ × Fields) (fs : List (ℕ × Fields)) → AreCountedOn (map (λ f. f.1) (f ∷ fs))
    → runs_of (f ∷ fs) ≡ (f ∷ fs) ∷ []
unfolding runs_of put_before
one_run f [] counted = refl
one_run f (g ∷ gs) counted = rw (one_run g gs counted.1, eq-eqb g.1.counter (next_counter f.1.counter) counted.0) refl

each_run : (P : Run → Type 0) (fs : List (ℕ × Fields)) → AreCountedOn (map (λ f. f.1) fs) → P fs → Each P (runs_of fs)
unfolding runs_of
each_run P [] counted h = tt
each_run P (f ∷ fs) counted h = subst (Each P) (sym (one_run f fs counted)) (h, tt)

-- ---- the packets of a run

module _ (packets : List (List ℕ)) (tell : All TellsItsLength packets) (run : Run) (later : List ℕ)
    (bytes : concat packets ≡ zones_of run ++ later)
    (pointers : (zone : ℕ) → zone < length run → pointer_of run zone < ZONE_BYTES
    → IsEdge packets (ZONE_BYTES * zone + pointer_of run zone))
  where
    edges_in_zone : (zone : ℕ) → zone < length run → Each (IsEdge packets) (starts_in_zone run zone)
    unfolding starts_in_zone
    edges_in_zone zone inside =
        cond_both (ltb (pointer_of run zone) ZONE_BYTES) _ _ (Each (IsEdge packets))
        (λ e. edges_from packets tell (zones_of run) later bytes (ZONE_BYTES * zone + ZONE_BYTES) ZONE_BYTES
        (ZONE_BYTES * zone + pointer_of run zone)
        (pointers zone inside (ltb-true (pointer_of run zone) ZONE_BYTES e)))
        (λ _. tt)

    edges : Each (IsEdge packets) (starts_of run)
    unfolding starts_of
    edges =
        Each-flat_map (IsEdge packets) (starts_in_zone run) (range_with_len 0 (length run))
        (Each-range (λ zone. Each (IsEdge packets) (starts_in_zone run zone)) 0 (length run)
        (λ zone low high. edges_in_zone zone (omega arith)))

    ends_whole : (place s : ℕ) → ends_in run place s ≡ true → is_whole (zones_of run) s ≡ true
    unfolding ends_in is_delivered
    ends_whole place s e =
        let delivered = and_parts (is_delivered run s)
        (eqb (place_of run ((packet_end (zones_of run) s - 1) / ZONE_BYTES)) place) e in
        (and_parts (is_whole (zones_of run) s)
        (list_all (agrees run (packet_end (zones_of run) s)) (zones_after run s)) delivered.0).0

    run_packets : (channel place : ℕ)
        → Each (λ packet. Contains packets packet.bytes) (packets_ending channel place run)
    unfolding packets_ending
    run_packets channel place =
        let Sent : Packet → Type 0 = λ packet. Contains packets packet.bytes in
        let Ends : ℕ → Type 0 = λ s. IsEdge packets s × (ends_in run place s ≡ true) in
        Each-map Sent (packet_at channel (zones_of run)) (filter (ends_in run place) (starts_of run))
        (Each_weaker Ends (λ s. Sent (packet_at channel (zones_of run) s))
        (λ s h. packet_there packets tell (zones_of run) later bytes channel s h.0 (ends_whole place s h.1))
        (filter (ends_in run place) (starts_of run))
        (passed (IsEdge packets) (ends_in run place) (starts_of run) edges))

-- ---- all packets

module _ (channel : ℕ) (frames : List Fields) (packets : List (List ℕ)) (tell : All TellsItsLength packets)
    (carry : CarryPackets (frames_of_channel channel frames) packets)
  where
    abbrev run : Run
    run = channel_frames channel frames

    run_frames : map (λ f. f.1) run ≡ frames_of_channel channel frames
    unfolding channel_frames
    run_frames = frames_of_run channel 0 frames

    run_bytes : concat packets ≡ zones_of run ++ carry.later
    run_bytes =
        carry.bytes ∙ ap (λ (fs : List Fields). concat (map (λ frame. frame.zone) fs) ++ carry.later) (sym run_frames)
        ∙ ap (λ xs. xs ++ carry.later) (zones_of_run run)

    run_pointers : (zone : ℕ) → zone < length run → pointer_of run zone < ZONE_BYTES →
        IsEdge packets (ZONE_BYTES * zone + pointer_of run zone)
    unfolding pointer_of
    run_pointers zone inside points =
        let same : map (λ frame. frame.pointer) (frames_of_channel channel frames)
        ≡ map (λ (f : ℕ × Fields). f.1.pointer) run =
        ap (map (λ (frame : Fields). frame.pointer)) (sym run_frames)
        ∙ map-map (λ (frame : Fields). frame.pointer) (λ (f : ℕ × Fields). f.1) run in
        let long : length (frames_of_channel channel frames) ≡ length run =
        ap length (sym run_frames) ∙ length-map run (λ (f : ℕ × Fields). f.1) in
        subst (λ (ps : List ℕ). get_or ps zone 0 < ZONE_BYTES
        → IsEdge packets (ZONE_BYTES * zone + get_or ps zone 0)) same
        (carry.pointers zone (omega arith)) points

    packets_in_sent : (x : ℕ × Fields) →
        Each (λ packet. packet.vc ≡ channel → Contains packets packet.bytes) (packets_in frames x)
    unfolding packets_in packets_ending packet_at
    packets_in_sent x =
        let vc = x.1.vc in
        let P : Packet → Type 0 = λ packet. packet.vc ≡ channel → Contains packets packet.bytes in
        let Q : Packet → Type 0 = λ packet. Contains packets packet.bytes in
        let F = packets_ending vc x.0 in
        let ends = λ (run : Run). filter (ends_in run x.0) (starts_of run) in
        let all : Each P (flat_map F (runs_of (channel_frames vc frames))) =
        ⊎_elim
        (λ own.
        let counted : AreCountedOn (map (λ f. f.1) run) = subst AreCountedOn (sym run_frames) carry.counted in
        let mine : Each P (F run) =
        Each_weaker Q P (λ packet h _. h) (F run)
        (run_packets packets tell run carry.later run_bytes run_pointers vc x.0) in
        let same : runs_of (channel_frames vc frames) ≡ runs_of run = ap (λ c. runs_of (channel_frames c frames)) own in
        subst (λ (rs : List Run). Each P (flat_map F rs)) (sym same)
        (Each-flat_map P F (runs_of run) (each_run (λ r. Each P (F r)) run counted mine)))
        (λ other.
        Each-flat_map P F (runs_of (channel_frames vc frames)) (Each_any (λ r. Each P (F r))
        (λ r. Each-map P (packet_at vc (zones_of r)) (ends r)
        (Each_any (λ s. P (packet_at vc (zones_of r) s)) (λ s e. absurd (other e)) (ends r)))
        (runs_of (channel_frames vc frames))))
        (cases_eq vc channel) in
        cond_both (eqb vc FILL_CHANNEL) _ _ (Each P) (λ _. tt) (λ _. all)

pub packets_were_sent : PacketsWereSent
unfolding packets_of
packets_were_sent channel frames packets tell carry =
    let P : Packet → Type 0 = λ packet. packet.vc ≡ channel → Contains packets packet.bytes in
    All-from_recursion P (flat_map (packets_in frames) (enumerate_from 0 frames))
    (Each-flat_map P (packets_in frames) (enumerate_from 0 frames)
    (Each_any (λ x. Each P (packets_in frames x)) (packets_in_sent channel frames packets tell carry)
    (enumerate_from 0 frames)))

-- what holds of the channel of each frame that isn't fill holds of the channel of each packet
module _ (P : ℕ → Type 0) (frames : List Fields)
    (each : Each (λ frame. (frame.vc ≡ FILL_CHANNEL → ⊥) → P frame.vc) frames) where
  abbrev On : Packet → Type 0
  On packet = P packet.vc

  packets_in_by_channel : (x : ℕ × Fields) → ((x.1.vc ≡ FILL_CHANNEL → ⊥) → P x.1.vc) → Each On (packets_in frames x)
  unfolding packets_in packets_ending packet_at
  packets_in_by_channel x holds =
      let vc = x.1.vc in
      let runs = runs_of (channel_frames vc frames) in
      let ends = λ (run : Run). filter (ends_in run x.0) (starts_of run) in
      cond_both (eqb vc FILL_CHANNEL) _ _ (Each On) (λ _. tt)
      (λ e. let here : P vc = holds (λ fill. false≢true (sym e ∙ eq-eqb vc FILL_CHANNEL fill)) in
      Each-flat_map On (packets_ending vc x.0) runs (Each_any (λ run. Each On (packets_ending vc x.0 run))
      (λ run. Each-map On (packet_at vc (zones_of run)) (ends run)
      (Each_any (λ s. On (packet_at vc (zones_of run) s)) (λ s. here) (ends run))) runs))

  pub packets_by_channels : Each On (packets_of frames)
  unfolding packets_of
  packets_by_channels =
      let Q : ℕ × Fields → Type 0 = λ x. (x.1.vc ≡ FILL_CHANNEL → ⊥) → P x.1.vc in
      Each-flat_map On (packets_in frames) (enumerate_from 0 frames)
      (Each_weaker Q (λ x. Each On (packets_in frames x)) packets_in_by_channel (enumerate_from 0 frames)
      (enumerated 0 frames each))
    where
      enumerated : (n : ℕ) (fs : List Fields) → Each (λ f. (f.vc ≡ FILL_CHANNEL → ⊥) → P f.vc) fs →
          Each (λ x. (x.1.vc ≡ FILL_CHANNEL → ⊥) → P x.1.vc) (enumerate_from n fs)
      enumerated n [] _ = tt
      enumerated n (f ∷ fs) h = (h.0, enumerated (n + 1) fs h.1)
