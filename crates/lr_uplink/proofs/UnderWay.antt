-- The frames of files, one file after another, and what an uplink stands for.
use Rattle.std.proofs.Common.{◌≡◌, ℕ, ◌+◌, ◌*◌, ◌/◌, ◌%◌, ◌^◌, ◌<◌, ◌≤◌, ◌&&◌, Bool, true, false, cond, eqb}
use Rattle.std.proofs.Common.{Option, Some, None, unwrap_or, List, [], ◌∷◌, ◌++◌, map, length, take, drop, get_or, set}
use Rattle.std.proofs.Common.{refl, sym, ap, ap₂, ◌∙◌, subst, arith, append-nil, append_assoc, length-append}
use Rattle.std.proofs.Common.{length-drop, drop-drop, add-zero, eq-eqb, ne_eqb, inl, inr}
use Rattle.std.specs.List.{concat, range_with_len}
use Rattle.std.proofs.lemmas.Bool.{cases_eq, cases_lt}
use Rattle.std.proofs.lemmas.List.{get_or-append-add, get_or-set_same, get_or-set_other, take_more}
use Rattle.std.proofs.lemmas.List.{length_push, take-append-le, drop_all}
use Rattle.std.proofs.lemmas.List.FromFn.{length-map-range_with_len, get_or-map-range_with_len}
use Rattle.std.proofs.lemmas.List.Sums.{sum_by_push}
use Rattle.lr_bits.specs.File.{File}
use Rattle.lr_bits.specs.declared.sizes.TheConstants.{CHANNELS, FRAME_COUNTS, SEQUENCE_COUNTS, ZONE_BYTES}
use Rattle.lr_conv.specs.declared.line.LineCode.{LineCode}
use Rattle.lr_file.specs.Standing.{kept_of_key}
use Rattle.lr_file.proofs.KeyLemmas.{same_key}
use Rattle.lr_make.specs.Frames.{frame_for_zone}
use Rattle.lr_make.specs.Packets.{packet_for_body}
use Rattle.lr_sent.specs.Sent.{AreSentFor, IsSentFor}
use Rattle.lr_sent.proofs.MadePackets.{length-packet}
use Rattle.lr_uplink.specs.declared.sending.Sending.{Sending}
use Rattle.lr_uplink.specs.declared.uplink.Uplink.{Uplink}
use Rattle.lr_uplink.specs.Packets.{flags_at, body_packet, body_packets, file_packets, filled}
use Rattle.lr_uplink.specs.Pieces.{SetsCount}
use Rattle.lr_uplink.specs.Sent.{sent_zone_at, sent_pointer_at, sent_frame_at, sent_frames_of, frame_count}
use Rattle.lr_uplink.specs.Sent.{frames_before, packets_before}
use Rattle.lr_uplink.specs.Sent.{file_frames, sent_after, sent}
use Rattle.lr_uplink.specs.Progress.{IsSending, CountsStandFor, IsFileUnderWay, IsAtRest, SentFramesStandFor}
use Rattle.lr_uplink.specs.Standing.{History, UplinkStandsFor}
use Rattle.lr_uplink.proofs.FilePackets.{file_fills, file_length, filled_few}
use Rattle.lr_uplink.proofs.Places.{body_there, packets_total, split_length}

-- ---- frames

sent_after-append : (before xs ys : List File) →
    sent_after before (xs ++ ys) ≡ sent_after before xs ++ sent_after (before ++ xs) ys
sent_after-append before [] ys = ap (λ fs. sent_after fs ys) (sym (append-nil before))
sent_after-append before (x ∷ xs) ys =
    ap (λ fs. file_frames before x ++ fs) (sent_after-append (before ++ x ∷ []) xs ys
    ∙ ap (λ fs. sent_after (before ++ x ∷ []) xs ++ sent_after fs ys) (append_assoc before (x ∷ []) xs))
    ∙ sym (append_assoc (file_frames before x) (sent_after (before ++ x ∷ []) xs) (sent_after (before ++ x ∷ xs) ys))

pub sent-more : (files : List File) (file : File) → sent (files ++ file ∷ []) ≡ sent files ++ file_frames files file
unfolding sent
sent-more files file =
    sent_after-append [] files (file ∷ []) ∙ ap (λ fs. sent_after [] files ++ fs) (append-nil (file_frames files file))

-- the packets of a file that is sent after others
abbrev pub packets_of_file : List File → File → List (List ℕ)
packets_of_file before file = file_packets (packets_before file.vc file.apid before) file

abbrev pub total_of : List File → File → ℕ
total_of before file = length (concat (packets_of_file before file)) / ZONE_BYTES

pub length-file_frames : (before : List File) (file : File) → length (file_frames before file) ≡ total_of before file
unfolding sent_frames_of
length-file_frames before file =
    length-map-range_with_len (sent_frame_at file.vc (frames_before file.vc before) (packets_of_file before file)) 0
    (total_of before file)

pub get_or-file_frames : (before : List File) (file : File) (t : ℕ) → t < total_of before file →
    get_or (file_frames before file) t []
    ≡ sent_frame_at file.vc (frames_before file.vc before) (packets_of_file before file) t
unfolding sent_frames_of
get_or-file_frames before file t inside =
    get_or-map-range_with_len (sent_frame_at file.vc (frames_before file.vc before) (packets_of_file before file)) 0
    (total_of before file) t t [] inside (omega arith)

pub frame_count-is : (before : List File) (file : File) → frame_count file ≡ total_of before file
frame_count-is before file = ap (λ n. n / ZONE_BYTES) (file_length 0 (packets_before file.vc file.apid before) file)

-- ---- numbers before

pub frames-more : (c : ℕ) (files : List File) (file : File) →
    frames_before c (files ++ file ∷ []) ≡ frames_before c files + cond (eqb file.vc c) (frame_count file) 0
unfolding frames_before
frames-more c files file = sum_by_push (λ f. cond (eqb f.vc c) (frame_count f) 0) files file

pub packets-more : (vc apid : ℕ) (files : List File) (file : File) →
    packets_before vc apid (files ++ file ∷ [])
    ≡ packets_before vc apid files + cond (eqb file.vc vc && eqb file.apid apid) (length file.bodies) 0
unfolding packets_before
packets-more vc apid files file =
    sum_by_push (λ f. cond (eqb f.vc vc && eqb f.apid apid) (length f.bodies) 0) files file

-- counts take part modulo 2^14 alone
count_part : (apid count : ℕ) (bodies : List (List ℕ)) (ks : List ℕ) →
    map (body_packet apid (count % SEQUENCE_COUNTS) bodies) ks ≡ map (body_packet apid count bodies) ks
count_part apid count bodies [] = refl
count_part apid count bodies (k ∷ ks) =
    let same : (count % SEQUENCE_COUNTS + k) % SEQUENCE_COUNTS ≡ (count + k) % SEQUENCE_COUNTS = omega arith in
    ap₂ (λ (x : List ℕ) (xs : List (List ℕ)). x ∷ xs)
    (ap (λ n. packet_for_body apid (flags_at (length bodies) k) n (get_or bodies k [])) same)
    (count_part apid count bodies ks)

pub packets_modulo : (count : ℕ) (file : File) → file_packets (count % SEQUENCE_COUNTS) file ≡ file_packets count file
unfolding body_packets
packets_modulo count file =
    ap filled (count_part file.apid count file.bodies (range_with_len 0 (length file.bodies)))

-- a file has some bytes to send
pub some_bytes : (count : ℕ) (file : File) → 0 < length file.bodies → 0 < length (concat (file_packets count file))
some_bytes count file some =
    let packets = file_packets count file in
    let there = body_there count file 0 some in
    omega (
      arith,
      split_length 0 packets there.0,
      ap length there.1,
      length-packet file.apid (flags_at (length file.bodies) 0) ((count + 0) % SEQUENCE_COUNTS)
          (get_or file.bodies 0 []),
    )

-- ---- counts

pub counts_more : (old new : List ((ℕ × ℕ) × ℕ)) (files : List File) (file : File) (count : ℕ) →
    CountsStandFor old files → SetsCount old new file.vc file.apid count →
    count ≡ (unwrap_or (kept_of_key old file.vc file.apid) 0 + length file.bodies) % 65536 →
    CountsStandFor new (files ++ file ∷ [])
counts_more old new files file count stands sets is = record {
  once = sets.once;
  each = λ vc apid. each vc apid (eqb file.vc vc && eqb file.apid apid) refl;
}
  where
    each : (vc apid : ℕ) (own : Bool) → (eqb file.vc vc && eqb file.apid apid) ≡ own →
        unwrap_or (kept_of_key new vc apid) 0 ≡ packets_before vc apid (files ++ file ∷ []) % 65536
    each vc apid true e =
        let same = same_key file.vc vc file.apid apid e in
        let more : packets_before vc apid (files ++ file ∷ []) ≡ packets_before vc apid files + length file.bodies =
        packets-more vc apid files file
        ∙ ap (λ b. packets_before vc apid files + cond b (length file.bodies) 0) e in
        let before : unwrap_or (kept_of_key old file.vc file.apid) 0 ≡ packets_before vc apid files % 65536 =
        stands.each file.vc file.apid ∙ (λ i. packets_before (same.0 i) (same.1 i) files % 65536) in
        ap (λ o. unwrap_or o 0) (sets.values vc apid
        ∙ ap (λ b. cond b (Some count) (kept_of_key old vc apid)) e)
        ∙ is ∙ omega (arith, more, before)
    each vc apid false e =
        let more : packets_before vc apid (files ++ file ∷ []) ≡ packets_before vc apid files + 0 =
        packets-more vc apid files file
        ∙ ap (λ b. packets_before vc apid files + cond b (length file.bodies) 0) e in
        ap (λ o. unwrap_or o 0) (sets.values vc apid
        ∙ ap (λ b. cond b (Some count) (kept_of_key old vc apid)) e)
        ∙ stands.each vc apid ∙ ap (λ n. n % 65536) (sym (more ∙ add-zero (packets_before vc apid files)))

-- ---- a file that is loaded

pub loaded : (counters : List ℕ) (files : List File) (given : ℕ) (file : File) (sending : Sending) (count : ℕ) →
    IsAtRest counters files given → count ≡ packets_before file.vc file.apid files % 65536 →
    IsSending sending file (count % SEQUENCE_COUNTS) (concat (file_packets (count % SEQUENCE_COUNTS) file)) →
    IsFileUnderWay counters sending (files ++ file ∷ []) given
loaded counters files given file sending count rest is s =
    let before = packets_before file.vc file.apid files in
    let same : count % SEQUENCE_COUNTS ≡ before % SEQUENCE_COUNTS = omega (arith, is) in
    record {
      before = files;
      file = file;
      frames = 0;
      loaded = refl;
      count = omega (arith, rest.count);
      some = omega (arith, some_bytes before file s.part.is.some);
      left = subst (λ n. IsSending sending file (before % SEQUENCE_COUNTS) (concat n)) (packets_modulo before file)
          (subst (λ n. IsSending sending file n (concat (file_packets n file))) same s);
      counted = λ c below.
          let none : cond (eqb file.vc c) 0 0 ≡ 0 =
          elim (eqb file.vc c) as (λ b. ◌≡◌ {A = ℕ} (cond b 0 0) 0) [ true ↦ refl | false ↦ refl ] in
          rest.counted c below ∙ ap (λ n. n % 2 ^ 32) (omega (arith, none));
    }

-- ---- a file that is being sent

module _ {counters : List ℕ} {sending : Sending} {files : List File} {given : ℕ}
    (way : IsFileUnderWay counters sending files given) where
  abbrev before : List File
  before = way.before

  abbrev file : File
  file = way.file

  abbrev pub first_count : ℕ
  first_count = packets_before file.vc file.apid before

  abbrev packets : List (List ℕ)
  packets = file_packets first_count file

  abbrev total : ℕ
  total = total_of before file

  whole : length (concat packets) ≡ ZONE_BYTES * total
  whole = file_fills first_count file

  inside : way.frames < total
  inside = omega (arith, whole, way.some)

  sent_is : sent files ≡ sent before ++ file_frames before file
  sent_is = ap sent way.loaded ∙ sent-more before file

  sent_long : length (sent files) ≡ length (sent before) + total
  sent_long =
      ap length sent_is ∙ length-append (sent before) (file_frames before file)
      ∙ ap (λ n. length (sent before) + n) (length-file_frames before file)

  -- a frame is left
  pub is_left : given < length (sent files)
  is_left = omega (arith, sent_long, inside, way.count)

  pub room : ZONE_BYTES * way.frames + ZONE_BYTES ≤ length (concat (file_packets (first_count % SEQUENCE_COUNTS) file))
  room = omega (arith, whole, inside, ap (λ ps. length (concat ps)) (packets_modulo first_count file))

  pub left_is : IsSending sending file (first_count % SEQUENCE_COUNTS)
      (drop (ZONE_BYTES * way.frames) (concat (file_packets (first_count % SEQUENCE_COUNTS) file)))
  left_is =
      subst (λ ps. IsSending sending file (first_count % SEQUENCE_COUNTS) (drop (ZONE_BYTES * way.frames) (concat ps)))
      (sym (packets_modulo first_count file)) way.left

  -- the counter of its channel
  own_counter : get_or counters file.vc 0 ≡ (frames_before file.vc before + way.frames) % 2 ^ 32
  own_counter =
      way.counted file.vc way.left.part.is.channel
      ∙ ap (λ b. (frames_before file.vc before + cond b way.frames 0) % 2 ^ 32) (eq-eqb file.vc file.vc refl)

  -- the next frame
  pub frame_is : (frame : List ℕ) (counter : ℕ) → counter ≡ get_or counters file.vc 0 →
      frame ≡ frame_for_zone file.vc (counter % FRAME_COUNTS)
      (sent_pointer_at (file_packets (first_count % SEQUENCE_COUNTS) file) way.frames)
      (sent_zone_at (file_packets (first_count % SEQUENCE_COUNTS) file) way.frames) →
      frame ≡ get_or (sent files) given []
  frame_is frame counter is written =
      let number : counter % FRAME_COUNTS ≡ (frames_before file.vc before + way.frames) % FRAME_COUNTS =
      omega (arith, is, own_counter) in
      written ∙ ap₂ (λ n ps. frame_for_zone file.vc n (sent_pointer_at ps way.frames) (sent_zone_at ps way.frames))
      number
      (packets_modulo first_count file)
      ∙ sym (get_or-file_frames before file way.frames inside)
      ∙ sym (get_or-append-add (sent before) (file_frames before file) way.frames [])
      ∙ ap₂ (λ (fs : List (List ℕ)) n. get_or fs n []) (sym sent_is) (sym way.count)

  -- the counters after it
  module _ (wide : length counters ≡ CHANNELS) (counter : ℕ) (is : counter ≡ (get_or counters file.vc 0 + 1) %
      2 ^ 32) where
    abbrev later : List ℕ
    later = set counters file.vc counter

    later_counted : (c : ℕ) → c < CHANNELS → get_or later c 0
        ≡ (frames_before c before + cond (eqb file.vc c) (way.frames + 1) 0) % 2 ^ 32
    later_counted c below = elim (cases_eq c file.vc) [
      | inl own ↦
          let more : cond (eqb file.vc c) (way.frames + 1) 0 ≡ way.frames + 1 =
          ap (λ b. cond b (way.frames + 1) 0) (eq-eqb file.vc c (sym own)) in
          ap (λ k. get_or later k 0) own
          ∙ get_or-set_same counters file.vc counter 0 (omega (arith, wide, below, own)) ∙ is
          ∙ omega (arith, own_counter, more, ap (λ k. frames_before k before) own)
      | inr other ↦
          let apart : eqb file.vc c ≡ false = ne_eqb file.vc c (λ e. other (sym e)) in
          get_or-set_other counters file.vc c counter 0 other ∙ way.counted c below
          ∙ ap (λ b. (frames_before c before + cond b way.frames 0) % 2 ^ 32) apart
          ∙ ap (λ b. (frames_before c before + cond b (way.frames + 1) 0) % 2 ^ 32) (sym apart)
    ]

    -- the file goes on, or is done
    module _ (next : Sending) (rest : IsSending next file (first_count % SEQUENCE_COUNTS)
        (drop ZONE_BYTES (drop (ZONE_BYTES * way.frames)
        (concat (file_packets (first_count % SEQUENCE_COUNTS) file))))) where
      abbrev behind : List ℕ
      behind = drop ZONE_BYTES
          (drop (ZONE_BYTES * way.frames) (concat (file_packets (first_count % SEQUENCE_COUNTS) file)))

      behind_is : behind ≡ drop (ZONE_BYTES * (way.frames + 1)) (concat packets)
      behind_is =
          drop-drop ZONE_BYTES (ZONE_BYTES * way.frames) (concat (file_packets (first_count % SEQUENCE_COUNTS) file))
          ∙ ap₂ (λ k ps. drop k (concat ps)) (omega arith) (packets_modulo first_count file)

      pub goes_on : (behind ≡ [] → ⊥) → IsFileUnderWay later next files (given + 1)
      goes_on some =
          record {
            before = before;
            file = file;
            frames = way.frames + 1;
            loaded = way.loaded;
            count = omega (arith, way.count);
            some = more some;
            left = subst (IsSending next file (first_count % SEQUENCE_COUNTS)) behind_is rest;
            counted = later_counted;
          }
        where
          more : (behind ≡ [] → ⊥) → ZONE_BYTES * (way.frames + 1) < length (concat packets)
          more some = elim (cases_lt (ZONE_BYTES * (way.frames + 1)) (length (concat packets))) [
            | inl less ↦ less
            | inr past ↦ absurd (some (behind_is ∙ drop_all (ZONE_BYTES * (way.frames + 1)) (concat packets) past))
          ]

      pub is_done : behind ≡ [] → IsAtRest later files (given + 1)
      is_done none =
          let last : way.frames + 1 ≡ total =
          omega (
            arith,
            ap length (sym behind_is ∙ none),
            length-drop (ZONE_BYTES * (way.frames + 1)) (concat packets),
            whole,
            inside,
          ) in
          record {
            count = omega (arith, sent_long, way.count, last);
            counted = λ c below.
                let all : frames_before c files ≡ frames_before c before + cond (eqb file.vc c) (way.frames + 1) 0 =
                ap (frames_before c) way.loaded ∙ frames-more c before file
                ∙ ap (λ n. frames_before c before + cond (eqb file.vc c) n 0)
                (frame_count-is before file ∙ sym last) in
                later_counted c below ∙ ap (λ n. n % 2 ^ 32) (sym all);
          }

-- ---- what was given and what is left

pub given_most : (counters : List ℕ) (o : Option Sending) (files : List File) (given : ℕ) →
    SentFramesStandFor counters o files given → given ≤ length (sent files)
given_most counters None files given rest = omega (arith, rest.count)
given_most counters (Some sending) files given way = omega (arith, is_left way)

-- fewer than 2^32 frames are left
pub few_left : (counters : List ℕ) (o : Option Sending) (files : List File) (given : ℕ) →
    SentFramesStandFor counters o files given → length (sent files) < given + 2 ^ 32
few_left counters None files given rest = omega (arith, rest.count)
few_left counters (Some sending) files given way =
    let before = way.before in
    let file = way.file in
    let count : ℕ = packets_before file.vc file.apid before in
    let packets : List (List ℕ) = body_packets file.apid count file.bodies in
    let is = way.left.part.is in
    let total : length (sent files) ≡ length (sent before) + total_of before file =
    ap (λ fs. length (sent fs)) way.loaded ∙ ap length (sent-more before file)
    ∙ length-append (sent before) (file_frames before file)
    ∙ ap (λ n. length (sent before) + n) (length-file_frames before file) in
    let few : length (concat (packets_of_file before file)) ≤ length (concat packets) + 1768 = filled_few packets in
    let size : length (concat packets) ≡ length (concat file.bodies) + 8 * length file.bodies =
    packets_total file.apid count file.bodies in
    omega (arith, total, few, size, is.few, is.most, way.count)

pub rests : (counters : List ℕ) (o : Option Sending) (files : List File) (given : ℕ) →
    SentFramesStandFor counters o files given → given ≡ length (sent files) → IsAtRest counters files given
rests counters None files given rest all = rest
rests counters (Some sending) files given way all =
    absurd (omega (arith, is_left way, all))

-- ---- blocks

sent_for-more : (frames blocks : List (List ℕ)) (frame block : List ℕ) → AreSentFor frames blocks →
    IsSentFor frame block → AreSentFor (frames ++ frame ∷ []) (blocks ++ block ∷ [])
sent_for-more [] [] frame block are is = (is, tt)
sent_for-more [] (b ∷ blocks) frame block are is = absurd are
sent_for-more (f ∷ frames) [] frame block are is = absurd are
sent_for-more (f ∷ frames) (b ∷ blocks) frame block are is = (are.0, sent_for-more frames blocks frame block are.1 is)

pub block_more : (uplink : Uplink) (line : LineCode) (history : History) (block : List ℕ) →
    UplinkStandsFor uplink line history → length history.blocks < history.given →
    IsSentFor (get_or (sent history.files) (length history.blocks) []) block →
    AreSentFor (take (length (history.blocks ++ block ∷ [])) (sent history.files)) (history.blocks ++ block ∷ [])
block_more uplink line history block s some is =
    let frames = sent history.files in
    let n = length history.blocks in
    let most = given_most uplink.counters uplink.sending history.files history.given s.frames in
    let more : take (length (history.blocks ++ block ∷ [])) frames ≡ take n frames ++ get_or frames n [] ∷ [] =
    ap (λ k. take k frames) (length_push history.blocks block) ∙ take_more frames n [] (omega (arith, most)) in
    subst (λ fs. AreSentFor fs (history.blocks ++ block ∷ [])) (sym more)
    (sent_for-more (take n frames) history.blocks (get_or frames n []) block s.blocks is)

-- files that are loaded later leave the frames of those before
pub frames_stay : (files : List File) (file : File) (n : ℕ) → n ≤ length (sent files) →
    take n (sent (files ++ file ∷ [])) ≡ take n (sent files)
frames_stay files file n h =
    ap (take n) (sent-more files file) ∙ take-append-le n (sent files) (file_frames files file) h
