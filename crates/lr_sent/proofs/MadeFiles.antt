-- The files of the test stream fit its frames.
use Rattle.std.proofs.Common.{◌≡◌, ◌⊎◌, ℕ, zero, suc, ◌+◌, ◌-◌, ◌*◌, ◌/◌, ◌%◌, ◌<◌, ◌≤◌, min, Bool, true, false, cond}
use Rattle.std.proofs.Common.{not, nat_eq, ltb, eqb, eq-eqb, ne_eqb, List, [], ◌∷◌, ◌++◌, inl, inr, refl, sym, ap}
use Rattle.std.proofs.Common.{◌∙◌, subst, arith, map, length, take, replicate, ◌||◌, length-take, length-drop}
use Rattle.std.proofs.Common.{length-append, append-nil, Result, Ok, Err, add-one, zero-add, Contains}
use Rattle.std.specs.Prelude.{All}
use Rattle.std.specs.List.{AllByRecursion as Each, sum_by, count_by, cons_option, range_with_len}
use Rattle.std.specs.Result.{result_ok}
use Rattle.std.proofs.lemmas.Bool.{cases_eq, cases_lt, cond_both, ltb-false}
use Rattle.std.proofs.lemmas.List.{take_at, length-replicate}
use Rattle.std.proofs.lemmas.List.Elements.{All-contains, All-from_recursion, recursion_from_All}
use Rattle.std.proofs.lemmas.List.FromFn.{take-map-range_with_len, filter_of_map_range_with_len_more}
use Rattle.std.proofs.lemmas.List.FromFn.{map-range_with_len_more, sum_by-map-range_with_len_more}
use Rattle.std.proofs.lemmas.List.FromFn.{length-map-range_with_len}
use Rattle.std.proofs.lemmas.List.Sums.{sum_by-cons, sum_by-le-sum_by}
use Rattle.lr_bits.specs.declared.outcome.Outcome.{Outcome}
use Rattle.lr_bits.specs.declared.outcome.Outcome.TheVariants.{Restored}
use Rattle.lr_bits.specs.Bits.{field_of}
use Rattle.lr_bits.specs.Crc.{crc_of}
use Rattle.lr_bits.specs.File.{File}
use Rattle.lr_bits.specs.Packet.{Packet}
use Rattle.lr_bits.specs.declared.sizes.TheConstants.{FILL_CHANNEL, IDLE_APPLICATION, ZONE_BYTES}
use Rattle.lr_vc.specs.Frame.{Fields, fields_of, version_of}
use Rattle.lr_vc.specs.Packets.{packets_of}
use Rattle.lr_vc.specs.Runs.{AreChannelFrames}
use Rattle.lr_vc.proofs.Fitting.{packets_fit}
use Rattle.lr_vc.proofs.Lists.{Each-map, Each_any}
use Rattle.lr_packet.specs.declared.packet.PacketFault.{PacketFault}
use Rattle.lr_packet.specs.declared.packet.PacketFault.TheVariants.{Version, Idle, TooShort, Crc}
use Rattle.lr_packet.specs.Head.{head_fields_of}
use Rattle.lr_packet.specs.Verdict.{Good, data_of, packet_body, stored_of, good_of, verdict_of, good_packets}
use Rattle.lr_file.specs.Laws.{Weights, file_weight, packet_weight}
use Rattle.lr_layers.specs.Layers.{frames_of_outcomes, good_of_outcomes, files_of_outcomes}
use Rattle.lr_layers.proofs.Fitting.{files_fit_the_packets}
use Rattle.lr_layers.specs.Origins.{placed_of_outcomes}
use Rattle.lr_layers.proofs.GoingOn.{have_origins}
use Rattle.lr_make.specs.Files.{image_packet, text_packet}
use Rattle.lr_make.specs.Frames.{frame_at, frame_of_round, fill_frame, packet_frame, text_start}
use Rattle.lr_make.specs.Standing.{image_frames, text_frames}
use Rattle.lr_make.proofs.Heads.{length-image_packet, length-text_packet}
use Rattle.lr_make.proofs.Rounds.{frame_at-turn, frame_at-images}
use Rattle.lr_sent.specs.Carried.{TellsItsLength, frames_of_channel, CarryPackets}
use Rattle.lr_sent.specs.Made.{made_outcomes, room_for_file, room_of_files, MadeFilesFit}
use Rattle.lr_sent.proofs.Carrying.{packets_were_sent, packets_by_channels}
use Rattle.lr_sent.proofs.MadeFrames.{Reads, packet_frame_reads, fill_frame_reads}
use Rattle.lr_sent.proofs.MadePackets.{image_tells, image_long, image_not_alone, text_tells, text_long}
use Rattle.lr_sent.proofs.MadeZones.{first_packets, sent_frame, carry, length-zone}

-- ---- the weights of packets

abbrev weights : Weights
weights = record { first = 20; last = 19; each = 2 }

abbrev weigh : Good → ℕ
weigh good = packet_weight weights good

abbrev weigh_verdict : Result Good PacketFault → ℕ
weigh_verdict (Ok good) = weigh good
weigh_verdict (Err fault) = 0

-- of a verdict by four rules, the third of which is broken by short packets
by_rules : (first second third fourth : Bool) (e1 e2 e3 e4 : PacketFault) (good : Good) (n : ℕ) →
    (third ≡ false → 3 * weigh good ≤ n)
    → 3 * weigh_verdict (cond first (Err e1) (cond second (Err e2)
    (cond third (Err e3) (cond fourth (Err e4) (Ok good))))) ≤ n
by_rules true second third fourth e1 e2 e3 e4 good n fits = omega arith
by_rules false true third fourth e1 e2 e3 e4 good n fits = omega arith
by_rules false false true fourth e1 e2 e3 e4 good n fits = omega arith
by_rules false false false true e1 e2 e3 e4 good n fits = omega arith
by_rules false false false false e1 e2 e3 e4 good n fits = fits refl

-- what the sequence flags add
abbrev flags_weight : ℕ → ℕ
flags_weight flags = cond (eqb flags 1 || eqb flags 3) 20 0 + cond (eqb flags 2 || eqb flags 3) 19 0

flags_of_one : (flags : ℕ) → flags < 3 → flags_weight flags ≤ 20
flags_of_one zero few = omega arith
flags_of_one (suc zero) few = omega arith
flags_of_one (suc (suc zero)) few = omega arith
flags_of_one (suc (suc (suc flags))) few = absurd (omega arith)

flags_of_any : (flags : ℕ) → flags_weight flags ≤ 39
flags_of_any flags =
    let first : cond (eqb flags 1 || eqb flags 3) 20 0 ≤ 20 =
    cond_both (eqb flags 1 || eqb flags 3) _ _ (λ n. n ≤ 20) (λ _. omega arith) (λ _. omega arith) in
    let last : cond (eqb flags 2 || eqb flags 3) 19 0 ≤ 19 =
    cond_both (eqb flags 2 || eqb flags 3) _ _ (λ n. n ≤ 19) (λ _. omega arith) (λ _. omega arith) in
    omega arith

-- a packet is long for what it weighs: a file's only packet has 99 bytes, and any other 42
IsLongEnough : List ℕ → Type 0
IsLongEnough bytes = (42 ≤ length bytes) × ((field_of bytes 16 2 < 3) ⊎ (99 ≤ length bytes))

body_fits : (packet : Packet) → IsLongEnough packet.bytes → ltb (length (data_of packet.bytes)) 2 ≡ false →
    3 * weigh (good_of packet) ≤ 4 * length packet.bytes
unfolding IsLongEnough
body_fits packet long enough =
    let flags = field_of packet.bytes 16 2 in
    let sizes : length (packet_body packet.bytes) + 8 ≤ length packet.bytes =
    omega (
      arith,
      ltb-false (length (data_of packet.bytes)) 2 enough,
      length-drop 6 packet.bytes,
      length-take (length (data_of packet.bytes) - 2) (data_of packet.bytes),
    ) in
    elim long.1 [
      | inl few ↦ omega (arith, sizes, long.0, flags_of_one flags few)
      | inr large ↦ omega (arith, sizes, large, flags_of_any flags)
    ]

packet_fits : (packet : Packet) → IsLongEnough packet.bytes
    → 3 * weigh_verdict (verdict_of packet) ≤ 4 * length packet.bytes
packet_fits packet long =
    let bytes = packet.bytes in
    by_rules (not (nat_eq (head_fields_of bytes).version 0)) (nat_eq (head_fields_of bytes).apid IDLE_APPLICATION)
    (ltb (length (data_of bytes)) 2) (not (nat_eq (stored_of bytes) (crc_of (packet_body bytes))))
    (Version (head_fields_of bytes).version) Idle TooShort (Crc (stored_of bytes) (crc_of (packet_body bytes)))
    (good_of packet)
    (4 * length bytes) (body_fits packet long)

verdict_more : (verdict : Result Good PacketFault) (goods : List Good) →
    sum_by weigh (cons_option (result_ok verdict) goods) ≡ weigh_verdict verdict + sum_by weigh goods
verdict_more (Ok good) goods = sum_by-cons weigh good goods
verdict_more (Err fault) goods = omega arith

good_fit : (packets : List Packet) → Each (λ packet. IsLongEnough packet.bytes) packets →
    3 * sum_by weigh (good_packets packets) ≤ 4 * sum_by (λ packet. length packet.bytes) packets
good_fit [] _ = omega arith
good_fit (packet ∷ packets) long =
    omega (
      arith,
      packet_fits packet long.0,
      verdict_more (verdict_of packet) (good_packets packets),
      good_fit packets long.1,
      sum_by-cons (λ (p : Packet). length p.bytes) packet packets,
    )

-- ---- the frames of the stream

module _ (start : ℕ) where
  abbrev images : ℕ → List ℕ
  images = image_packet start

  abbrev texts : ℕ → List ℕ
  texts = text_packet (text_start start)

  -- frame k, as it is read
  abbrev made_frame : ℕ → Fields
  made_frame k = fields_of (frame_at start k)

  abbrev pub made_frames : ℕ → List Fields
  made_frames n = map made_frame (range_with_len 0 n)

  image_frame : (k : ℕ) → k % 4 < 2
      → made_frame k ≡ sent_frame images (length-image_packet start) 0 (omega arith) (image_frames k)
  image_frame k turn = ap fields_of (frame_at-images start k turn)

  text_frame : (k : ℕ) → k % 4 ≡ 2
      → made_frame k ≡ sent_frame texts (length-text_packet (text_start start)) 5 (omega arith) (text_frames k)
  unfolding frame_of_round
  text_frame k turn =
      let count : k / 4 ≡ text_frames k = omega arith in
      ap fields_of (frame_at-turn start k 2 turn ∙ ap (packet_frame 5 texts) count)

  fill_frame_at : (k : ℕ) → k % 4 ≡ 3 → frame_at start k ≡ fill_frame (k / 4)
  unfolding frame_of_round
  fill_frame_at k turn = frame_at-turn start k 3 turn

  -- frame k is of the first channel, the second one or the third
  abbrev ByTurn : ℕ → Type 0
  ByTurn k = (k % 4 < 2) ⊎ ((k % 4 ≡ 2) ⊎ (k % 4 ≡ 3))

  turn_of : (k : ℕ) → ByTurn k
  turn_of k =
      elim (cases_lt (k % 4) 2) [
        | inl early ↦ inl early
        | inr late ↦
            elim (cases_eq (k % 4) 2) [ inl two ↦ inr (inl two) | inr other ↦ inr (inr (omega (arith, other))) ]
      ]

  -- what is read of it
  record IsSent (k vc : ℕ) : Type 0 where
    version : version_of (frame_at start k) ≡ 1
    channel : (made_frame k).vc ≡ vc
    long : length (made_frame k).zone ≡ ZONE_BYTES

  sent_as : (k : ℕ) {frame zone : List ℕ} {vc counter pointer : ℕ} → Reads frame vc counter pointer zone →
      frame_at start k ≡ frame → length zone ≡ ZONE_BYTES → IsSent k vc
  sent_as k reads same long = record {
    version = ap version_of same ∙ reads.version;
    channel = ap (λ z. (fields_of z).vc) same ∙ reads.channel;
    long = ap (λ z. length (fields_of z).zone) same ∙ ap length reads.zone_is ∙ long;
  }

  sent_image : (k : ℕ) → k % 4 < 2 → IsSent k 0
  sent_image k turn =
      sent_as k (packet_frame_reads 0 images (image_frames k) (omega arith)) (frame_at-images start k turn)
      (length-zone images (length-image_packet start) (image_frames k))

  sent_text : (k : ℕ) → k % 4 ≡ 2 → IsSent k 5
  unfolding frame_of_round
  sent_text k turn =
      sent_as k (packet_frame_reads 5 texts (k / 4) (omega arith)) (frame_at-turn start k 2 turn)
      (length-zone texts (length-text_packet (text_start start)) (k / 4))

  sent_fill : (k : ℕ) → k % 4 ≡ 3 → IsSent k FILL_CHANNEL
  sent_fill k turn =
      sent_as k (fill_frame_reads (k / 4)) (fill_frame_at k turn) (length-replicate {A = ℕ} ZONE_BYTES 0)

  sent_any : (k : ℕ) → (vc : ℕ) × IsSent k vc
  sent_any k =
      elim (turn_of k) [
        | inl image ↦ (0, sent_image k image)
        | inr other ↦ elim other [ inl text ↦ (5, sent_text k text) | inr fill ↦ (FILL_CHANNEL, sent_fill k fill) ]
      ]

  -- ---- the frames of a channel

  -- where frame n is the next one of the channel, or of another one
  abbrev NextOf : ℕ → (ℕ → Fields) → (ℕ → ℕ) → ℕ → Type 0
  NextOf channel sent count n =
      (((made_frame n).vc ≡ channel) × (made_frame n ≡ sent (count n)) × (count (suc n) ≡ count n + 1)) ⊎
      (((made_frame n).vc ≡ channel → ⊥) × (count (suc n) ≡ count n))

  channel_list : (channel : ℕ) (sent : ℕ → Fields) (count : ℕ → ℕ) → count 0 ≡ 0
      → ((n : ℕ) → NextOf channel sent count n) →
      (n : ℕ) → frames_of_channel channel (made_frames n) ≡ map sent (range_with_len 0 (count n))
  channel_list channel sent count none next zero = ap (λ m. map sent (range_with_len 0 m)) (sym none)
  channel_list channel sent count none next (suc n) =
      let test : Fields → Bool = λ frame. eqb frame.vc channel in
      let rest = channel_list channel sent count none next n in
      let more : frames_of_channel channel (made_frames (suc n)) ≡
      frames_of_channel channel (made_frames n) ++ cond (test (made_frame n)) (made_frame n ∷ []) [] =
      ap (λ m. frames_of_channel channel (made_frames m)) (sym (add-one n))
      ∙ filter_of_map_range_with_len_more test made_frame 0 n n (zero-add n) in
      elim (next n) [
        | inl own ↦
            more ∙ ap (λ b. frames_of_channel channel (made_frames n) ++ cond b (made_frame n ∷ []) [])
            (eq-eqb (made_frame n).vc channel own.0)
            ∙ ap (λ (fs : List Fields). fs ++ made_frame n ∷ []) rest
            ∙ ap (λ (f : Fields). map sent (range_with_len 0 (count n)) ++ f ∷ []) own.1
            ∙ sym (map-range_with_len_more sent 0 (count n) (count n) (zero-add (count n)))
            ∙ ap (λ m. map sent (range_with_len 0 m)) (sym own.2)
        | inr other ↦
            more ∙ ap (λ b. frames_of_channel channel (made_frames n) ++ cond b (made_frame n ∷ []) [])
            (ne_eqb (made_frame n).vc channel other.0)
            ∙ append-nil (frames_of_channel channel (made_frames n)) ∙ rest
            ∙ ap (λ m. map sent (range_with_len 0 m)) (sym other.1)
      ]

  next_image : (n : ℕ) → NextOf 0 (sent_frame images (length-image_packet start) 0 (omega arith)) image_frames n
  next_image n =
      elim (turn_of n) [
        | inl image ↦ inl ((sent_image n image).channel, image_frame n image, omega arith)
        | inr other ↦
            elim other [
              | inl text ↦ inr (λ e. omega (arith, e, (sent_text n text).channel), omega arith)
              | inr fill ↦ inr (λ e. omega (arith, e, (sent_fill n fill).channel), omega arith)
            ]
      ]

  next_text : (n : ℕ) → NextOf 5 (sent_frame texts (length-text_packet (text_start start)) 5 (omega arith))
      text_frames n
  next_text n =
      elim (turn_of n) [
        | inl image ↦ inr (λ e. omega (arith, e, (sent_image n image).channel), omega arith)
        | inr other ↦
            elim other [
              | inl text ↦ inl ((sent_text n text).channel, text_frame n text, omega arith)
              | inr fill ↦ inr (λ e. omega (arith, e, (sent_fill n fill).channel), omega arith)
            ]
      ]

  image_carry : (n : ℕ) → CarryPackets (frames_of_channel 0 (made_frames n))
      (first_packets images (ZONE_BYTES * image_frames n))
  image_carry n =
      subst (λ (fs : List Fields). CarryPackets fs (first_packets images (ZONE_BYTES * image_frames n)))
      (sym (channel_list 0 (sent_frame images (length-image_packet start) 0 (omega arith)) image_frames refl
      next_image n))
      (carry images (length-image_packet start) 0 (omega arith) (image_frames n))

  text_carry : (n : ℕ) → CarryPackets (frames_of_channel 5 (made_frames n))
      (first_packets texts (ZONE_BYTES * text_frames n))
  text_carry n =
      subst (λ (fs : List Fields). CarryPackets fs (first_packets texts (ZONE_BYTES * text_frames n)))
      (sym (channel_list 5 (sent_frame texts (length-text_packet (text_start start)) 5 (omega arith))
      text_frames refl next_text n))
      (carry texts (length-text_packet (text_start start)) 5 (omega arith) (text_frames n))

  -- ---- the packets of the frames

  all_first : (P : List ℕ → Type 0) (packets : ℕ → List ℕ) → ((p : ℕ) → P (packets p)) → (n : ℕ)
      → All P (first_packets packets n)
  all_first P packets each n =
      All-from_recursion P (first_packets packets n)
      (Each-map P packets (range_with_len 0 n) (Each_any (λ p. P (packets p)) each (range_with_len 0 n)))

  image_is_long : (p : ℕ) → IsLongEnough (images p)
  unfolding IsLongEnough
  image_is_long p = (omega (arith, image_long start p), inl (image_not_alone start p))

  text_is_long : (p : ℕ) → IsLongEnough (texts p)
  unfolding IsLongEnough
  text_is_long p = let long = text_long (text_start start) p in (omega (arith, long), inr (omega (arith, long)))

  packets_long : (n : ℕ) → Each (λ packet. IsLongEnough packet.bytes) (packets_of (made_frames n))
  packets_long n =
      let packets = packets_of (made_frames n) in
      let OnImages : Packet → Type 0 = λ packet. packet.vc ≡ 0
      → Contains (first_packets images (ZONE_BYTES * image_frames n)) packet.bytes in
      let OnTexts : Packet → Type 0 = λ packet. packet.vc ≡ 5
      → Contains (first_packets texts (ZONE_BYTES * text_frames n)) packet.bytes in
      let Either : Packet → Type 0 = λ packet. (packet.vc ≡ 0) ⊎ (packet.vc ≡ 5) in
      let of_images : Each OnImages packets =
      recursion_from_All OnImages packets
      (packets_were_sent 0 (made_frames n) (first_packets images (ZONE_BYTES * image_frames n))
      (all_first TellsItsLength images (image_tells start) (ZONE_BYTES * image_frames n)) (image_carry n)) in
      let of_texts : Each OnTexts packets =
      recursion_from_All OnTexts packets
      (packets_were_sent 5 (made_frames n) (first_packets texts (ZONE_BYTES * text_frames n))
      (all_first TellsItsLength texts (text_tells (text_start start)) (ZONE_BYTES * text_frames n)) (text_carry n)) in
      let channels : Each Either packets =
      packets_by_channels (λ vc. (vc ≡ 0) ⊎ (vc ≡ 5)) (made_frames n)
      (Each-map (λ f. (f.vc ≡ FILL_CHANNEL → ⊥) → (f.vc ≡ 0) ⊎ (f.vc ≡ 5)) made_frame (range_with_len 0 n)
      (Each_any (λ k. ((made_frame k).vc ≡ FILL_CHANNEL → ⊥) → ((made_frame k).vc ≡ 0) ⊎ ((made_frame k).vc ≡ 5))
      one_of_two (range_with_len 0 n))) in
      each_long n packets of_images of_texts channels
    where
      one_of_two : (k : ℕ) → ((made_frame k).vc ≡ FILL_CHANNEL → ⊥) → ((made_frame k).vc ≡ 0) ⊎ ((made_frame k).vc ≡ 5)
      one_of_two k not_fill =
          elim (turn_of k) [
            | inl image ↦ inl (sent_image k image).channel
            | inr other ↦
                elim other [
                  | inl text ↦ inr (sent_text k text).channel
                  | inr fill ↦ absurd (not_fill (sent_fill k fill).channel)
                ]
          ]

      each_long : (n : ℕ) (packets : List Packet) →
          Each (λ packet. packet.vc ≡ 0 → Contains (first_packets images (ZONE_BYTES * image_frames n)) packet.bytes)
          packets →
          Each (λ packet. packet.vc ≡ 5 → Contains (first_packets texts (ZONE_BYTES * text_frames n)) packet.bytes)
          packets →
          Each (λ packet. (packet.vc ≡ 0) ⊎ (packet.vc ≡ 5)) packets
          → Each (λ packet. IsLongEnough packet.bytes) packets
      each_long n [] _ _ _ = tt
      each_long n (packet ∷ packets) i t c = (
        elim c.0 [
          | inl image ↦
              All-contains IsLongEnough (first_packets images (ZONE_BYTES * image_frames n)) packet.bytes
              (all_first IsLongEnough images image_is_long (ZONE_BYTES * image_frames n)) (i.0 image)
          | inr text ↦
              All-contains IsLongEnough (first_packets texts (ZONE_BYTES * text_frames n)) packet.bytes
              (all_first IsLongEnough texts text_is_long (ZONE_BYTES * text_frames n)) (t.0 text)
        ],
        each_long n packets i.1 t.1 c.1,
      )

  -- ---- the frames that aren't fill

  abbrev carries : Fields → Bool
  carries frame = not (nat_eq frame.vc FILL_CHANNEL)

  carrying_few : (n : ℕ) → count_by carries (made_frames n) ≤ 3 * (n / 4) + min (n % 4) 3
  carrying_few zero = omega arith
  carrying_few (suc n) =
      let weight : Fields → ℕ = λ frame. cond (carries frame) 1 0 in
      let more : count_by carries (made_frames (suc n)) ≡ count_by carries (made_frames n) + weight (made_frame n) =
      ap (λ m. count_by carries (made_frames m)) (sym (add-one n))
      ∙ sum_by-map-range_with_len_more weight made_frame 0 n n (zero-add n) in
      let one : weight (made_frame n) ≤ 1 =
      cond_both (carries (made_frame n)) _ _ (λ m. m ≤ 1) (λ _. omega arith) (λ _. omega arith) in
      let rest = carrying_few n in
      elim (turn_of n) [
        | inl image ↦ omega (arith, more, one, rest)
        | inr other ↦
            elim other [
              | inl text ↦ omega (arith, more, one, rest)
              | inr fill ↦
                  let none : weight (made_frame n) ≡ 0 =
                  ap (λ (vc : ℕ). cond (not (nat_eq vc FILL_CHANNEL)) 1 0) (sent_fill n fill).channel in
                  omega (arith, more, none, rest)
            ]
      ]

  all_frames : (n : ℕ) → AreChannelFrames (made_frames n)
  all_frames n =
      All-from_recursion (λ f. length f.zone ≡ ZONE_BYTES) (made_frames n)
      (Each-map (λ f. length f.zone ≡ ZONE_BYTES) made_frame (range_with_len 0 n)
      (Each_any (λ k. length (made_frame k).zone ≡ ZONE_BYTES) (λ k. (sent_any k).1.long) (range_with_len 0 n)))

  -- ---- the files of the outcomes

  frames_made : (wrong a n : ℕ)
      → frames_of_outcomes (map (λ k. Restored (record { 0 = replicate 4 wrong }) (frame_at start k))
      (range_with_len a n))
      ≡ map made_frame (range_with_len a n)
  unfolding frames_of_outcomes
  frames_made wrong a zero = refl
  frames_made wrong a (suc n) =
      let rest = frames_made wrong (a + 1) n in
      let version : eqb (version_of (frame_at start a)) 1 ≡ true =
      eq-eqb (version_of (frame_at start a)) 1 (sent_any a).1.version in
      ap (λ b. cons_option (result_ok (cond b (Ok (made_frame a)) (Err (version_of (frame_at start a)))))
      (frames_of_outcomes (map (λ k. Restored (record { 0 = replicate 4 wrong }) (frame_at start k))
      (range_with_len (a + 1) n)))) version
      ∙ ap (λ (fs : List Fields). made_frame a ∷ fs) rest

  files_fit : (wrong n : ℕ) → 3 * sum_by (file_weight weights) (files_of_outcomes (made_outcomes start wrong n))
      ≤ 2652 * (n + 1)
  unfolding good_of_outcomes
  files_fit wrong n =
      let goods : good_of_outcomes (made_outcomes start wrong n) ≡ good_packets (packets_of (made_frames n)) =
      ap (λ (fs : List Fields). good_packets (packets_of fs)) (frames_made wrong 0 n) in
      omega (
        arith,
        files_fit_the_packets weights (made_outcomes start wrong n),
        ap (sum_by weigh) goods,
        good_fit (packets_of (made_frames n)) (packets_long n),
        packets_fit (made_frames n) (all_frames n),
        carrying_few n,
      )

-- some first outcomes are those of the first frames
front_made : (start wrong n : ℕ) (front later : List Outcome) → made_outcomes start wrong n ≡ front ++ later →
    (length front ≤ n) × (front ≡ made_outcomes start wrong (length front))
front_made start wrong n front later split =
    let one : ℕ → Outcome = λ k. Restored (record { 0 = replicate 4 wrong }) (frame_at start k) in
    let few : length front ≤ n = omega (
      arith,
      ap length split,
      length-append front later,
      length-map-range_with_len one 0 n,
    ) in (
      few,
      sym (take_at front later (length front) refl) ∙ ap (take (length front)) (sym split)
          ∙ take-map-range_with_len one 0 n (length front) few,
    )

pub made_files_fit : MadeFilesFit
made_files_fit start wrong n front later split =
    let is = front_made start wrong n front later split in
    let m = length front in
    let files = files_of_outcomes (made_outcomes start wrong m) in
    let sizes : room_of_files files ≤ sum_by (file_weight weights) files =
    sum_by-le-sum_by room_for_file (file_weight weights) files (λ file. omega arith) in
    subst (λ (outcomes : List Outcome). room_of_files (files_of_outcomes outcomes) ≤ ZONE_BYTES * (n + 1)) (sym is.1)
    (omega (arith, sizes, files_fit start wrong m, is.0))

-- the same of the files with their origins
pub placed_fit : (start wrong n : ℕ) (front later : List Outcome) → made_outcomes start wrong n ≡ front ++ later →
    room_of_files (map (λ placed. placed.file) (placed_of_outcomes front)) ≤ ZONE_BYTES * (n + 1)
placed_fit start wrong n front later split =
    let is = front_made start wrong n front later split in
    let frames : frames_of_outcomes front ≡ made_frames start (length front) =
    ap frames_of_outcomes is.1 ∙ frames_made start wrong 0 (length front) in
    subst (λ (files : List File). room_of_files files ≤ ZONE_BYTES * (n + 1))
    (sym (have_origins front (subst AreChannelFrames (sym frames) (all_frames start (length front)))))
    (made_files_fit start wrong n front later split)

-- each fourth frame is of the channel of fill
pub fill_channel : (start k : ℕ) → k % 4 ≡ 3 → field_of (frame_at start k) 10 6 ≡ FILL_CHANNEL
fill_channel start k turn = (sent_fill start k turn).channel
