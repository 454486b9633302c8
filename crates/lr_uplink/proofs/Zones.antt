-- Zone after zone of packets that are sent one after another: the packets that end in a zone, and the one that is open
-- after it.
use Rattle.std.proofs.Common.{◌≡◌, ℕ, ◌+◌, ◌-◌, ◌*◌, ◌<◌, ◌≤◌, ◌⊎◌, ◌&&◌, true, false, List, [], ◌∷◌}
use Rattle.std.proofs.Common.{◌++◌, map, length, take, drop, refl, sym, ap, ap₂, ◌∙◌, subst, arith, append-nil}
use Rattle.std.proofs.Common.{append_assoc, length-append, length-drop, drop-drop, drop_at, ltb, leb, eqb, lt-ltb}
use Rattle.std.proofs.Common.{le-ltb, le-leb, eq-eqb, ne_eqb, cond, inl, inr, flat_map, Some, None, unwrap_or}
use Rattle.std.specs.Prelude.{find}
use Rattle.std.specs.Option.{option_map}
use Rattle.std.specs.List.{AllByRecursion as Each, concat}
use Rattle.std.proofs.lemmas.Bool.{cases_lt, lt-leb, and_left, and_right, and_from}
use Rattle.std.proofs.lemmas.List.{drop-append-le, take-append-le, take_at, take-append-drop}
use Rattle.lr_bits.specs.Packet.{Packet}
use Rattle.lr_bits.specs.declared.sizes.TheConstants.{NO_PACKET_START, ZONE_BYTES}
use Rattle.lr_vc.specs.Frame.{Fields}
use Rattle.lr_vc.specs.Packets.{packet_end, packet_at}
use Rattle.lr_vc.specs.Steps.{packets_with, open_after, packets_inside, starts_unfinished, completed_packet}
use Rattle.lr_vc.specs.Steps.{continued_packet}
use Rattle.lr_vc.proofs.Carried.{packets_with-late, packets_with-early, open_after-late, open_after-early}
use Rattle.lr_vc.proofs.Carried.{completed_packet-by, completed_packet-long, continued_packet-long}
use Rattle.lr_vc.proofs.Carried.{continued_packet-short}
use Rattle.lr_vc.proofs.Lists.{Each_left, Each_right}
use Rattle.lr_sent.specs.Carried.{TellsItsLength}
use Rattle.std.proofs.lemmas.List.Folds.{concat-append}
use Rattle.lr_uplink.specs.Sent.{packet_starts_from, is_in_zone, sent_pointer_at}
use Rattle.lr_uplink.proofs.Walking.{on, packet_ends, packet_there, walk}

-- ---- pointers

before_zone : (t place : ℕ) → place < ZONE_BYTES * t → is_in_zone t place ≡ false
before_zone t place h = and_left (leb (ZONE_BYTES * t) place) (ltb place (ZONE_BYTES * t + ZONE_BYTES))
    (lt-leb (ZONE_BYTES * t) place h)

after_zone : (t place : ℕ) → ZONE_BYTES * t + ZONE_BYTES ≤ place → is_in_zone t place ≡ false
after_zone t place h =
    and_right (leb (ZONE_BYTES * t) place) (ltb place (ZONE_BYTES * t + ZONE_BYTES))
    (le-ltb place (ZONE_BYTES * t + ZONE_BYTES) h)

in_zone : (t place : ℕ) → ZONE_BYTES * t ≤ place → place < ZONE_BYTES * t + ZONE_BYTES → is_in_zone t place ≡ true
in_zone t place l h =
    and_from (leb (ZONE_BYTES * t) place) (ltb place (ZONE_BYTES * t + ZONE_BYTES)) (le-leb (ZONE_BYTES * t) place l)
    (lt-ltb place (ZONE_BYTES * t + ZONE_BYTES) h)

-- what begins before a zone
early : (t place : ℕ) (done back : List (List ℕ)) → Each TellsItsLength done →
    place + length (concat done) ≤ ZONE_BYTES * t →
    find (is_in_zone t) (packet_starts_from place (done ++ back))
    ≡ find (is_in_zone t) (packet_starts_from (place + length (concat done)) back)
early t place [] back tell h = ap (λ n. find (is_in_zone t) (packet_starts_from n back)) (omega arith)
early t place (packet ∷ done) back tell h =
    let size = length-append packet (concat done) in
    let next : place + length packet + length (concat done) ≡ place + length (packet ++ concat done) =
    omega (arith, size) in
    let rest = packet_starts_from (place + length packet) (done ++ back) in
    ap (λ b. cond b (Some place) (find (is_in_zone t) rest))
    (before_zone t place (omega (arith, size, tell.0)))
    ∙ early t (place + length packet) done back tell.1 (omega (arith, size))
    ∙ ap (λ n. find (is_in_zone t) (packet_starts_from n back)) next

-- what begins after a zone
late : (t place : ℕ) (packets : List (List ℕ)) → ZONE_BYTES * t + ZONE_BYTES ≤ place →
    find (is_in_zone t) (packet_starts_from place packets) ≡ None
late t place [] h = refl
late t place (packet ∷ packets) h =
    ap (λ b. cond b (Some place) (find (is_in_zone t) (packet_starts_from (place + length packet) packets)))
    (after_zone t place h)
    ∙ late t (place + length packet) packets (omega arith)

-- ---- stages

-- the first packets are done, and nothing is open at this place
pub record Between (packets done open_packets : List (List ℕ)) (place : ℕ) : Type 0 where
  pub back : List (List ℕ)
  pub split : packets ≡ done ++ back
  pub size : length (concat done) ≡ place
  pub none : open_packets ≡ []

-- the first packets are done, and the next one is open, with these bytes
pub record Within (packets done open_packets : List (List ℕ)) (place : ℕ) : Type 0 where
  pub packet : List ℕ
  pub back : List (List ℕ)
  pub bytes : List ℕ
  pub split : packets ≡ done ++ packet ∷ back
  pub size : length (concat done) + length bytes ≡ place
  pub front : bytes ≡ take (length bytes) packet
  pub some : 0 < length bytes
  pub part : length bytes < length packet
  pub one : open_packets ≡ bytes ∷ []

abbrev pub Stage : List (List ℕ) → List (List ℕ) → List (List ℕ) → ℕ → Type 0
Stage packets done open_packets place = Between packets done open_packets place ⊎ Within packets done open_packets place

-- a frame ends these packets, and leaves this one open
pub record Step (packets done met : List (List ℕ)) (frame : Fields) (place : ℕ) : Type 0 where
  pub ended : List (List ℕ)
  pub open_packets : List (List ℕ)
  pub with : packets_with frame met ≡ map (on frame.vc) ended
  pub after : open_after frame met ≡ open_packets
  pub stage : Stage packets (done ++ ended) open_packets place

-- the same of what begins in its zone
record Begun (channel : ℕ) (packets done : List (List ℕ)) (zone : List ℕ) (q place : ℕ) : Type 0 where
  ended : List (List ℕ)
  open_packets : List (List ℕ)
  inside : packets_inside channel zone q ≡ map (on channel) ended
  opened : map (λ s. drop s zone) (starts_unfinished zone q) ≡ open_packets
  stage : Stage packets (done ++ ended) open_packets place

-- what is left after some bytes
pub drop-behind : (xs ys : List ℕ) (k n : ℕ) → n ≡ length xs + k → drop n (xs ++ ys) ≡ drop k ys
drop-behind xs ys k n e =
    ap (λ m. drop m (xs ++ ys)) e ∙ sym (drop-drop k (length xs) (xs ++ ys))
    ∙ ap (drop k) (drop_at xs ys (length xs) refl)

pub concat-both : (xs ys : List (List ℕ)) → length (concat (xs ++ ys)) ≡ length (concat xs) + length (concat ys)
concat-both xs ys = ap length (concat-append xs ys) ∙ length-append (concat xs) (concat ys)

module _ (packets : List (List ℕ)) (tell : Each TellsItsLength packets) where
  begun : (channel t q : ℕ) (done back : List (List ℕ)) (zone later : List ℕ) → length zone ≡ ZONE_BYTES
      → q ≤ ZONE_BYTES →
      packets ≡ done ++ back → length (concat done) ≡ ZONE_BYTES * t + q → drop q zone ++ later ≡ concat back →
      Begun channel packets done zone q (ZONE_BYTES * t + ZONE_BYTES)
  begun channel t q done back zone later long inside split size rest =
      let tells : Each TellsItsLength back =
      Each_right TellsItsLength done back (subst (Each TellsItsLength) split tell) in
      let w = walk channel zone long later q back tells inside rest in
      let both : packets ≡ (done ++ w.ended) ++ w.back =
      split ∙ ap (λ ps. done ++ ps) w.split ∙ sym (append_assoc done w.ended w.back) in
      let all = concat-both done w.ended in
      elim w.cases [
        | inl end ↦ record {
          ended = w.ended;
          open_packets = [];
          inside = w.inside;
          opened = ap (map (λ s. drop s zone)) end.1;
          stage = inl (record {
            back = w.back;
            split = both;
            size = omega (arith, all, w.place_is, end.0);
            none = refl;
          });
        }
        | inr g ↦
            let bytes = drop w.place zone in
            let count : length bytes ≡ ZONE_BYTES - w.place = omega (arith, length-drop w.place zone) in
            let short : length bytes ≤ length g.packet = omega (arith, count, g.long) in
            let same : bytes ++ later ≡ g.packet ++ concat g.more = w.rest ∙ ap concat g.split in
            record {
              ended = w.ended;
              open_packets = bytes ∷ [];
              inside = w.inside;
              opened = ap (map (λ s. drop s zone)) g.unfinished;
              stage = inr (record {
                packet = g.packet;
                back = g.more;
                bytes = bytes;
                split = both ∙ ap (λ ps. (done ++ w.ended) ++ ps) g.split;
                size = omega (arith, all, w.place_is, count, g.start);
                front = sym (take_at bytes later (length bytes) refl) ∙ ap (take (length bytes)) same
                    ∙ take-append-le (length bytes) g.packet (concat g.more) short;
                some = omega (arith, count, g.start);
                part = omega (arith, count, g.long);
                one = refl;
              });
            }
      ]

  module _ (t : ℕ) (frame : Fields) (later : List ℕ) (long : length frame.zone ≡ ZONE_BYTES)
      (stream : frame.zone ++ later ≡ drop (ZONE_BYTES * t) (concat packets)) (pointer : frame.pointer ≡ sent_pointer_at
      packets t) where
    -- the stream after the packets that are done
    behind : (done back : List (List ℕ)) → packets ≡ done ++ back → length (concat done) ≡ ZONE_BYTES * t →
        frame.zone ++ later ≡ concat back
    behind done back split size =
        stream ∙ ap (drop (ZONE_BYTES * t)) (ap concat split ∙ concat-append done back)
        ∙ drop_at (concat done) (concat back) (ZONE_BYTES * t) size

    -- where it begins with a packet
    pub first_pointer : (done : List (List ℕ)) (packet : List ℕ) (back : List (List ℕ)) → packets ≡ done ++ packet
        ∷ back →
        length (concat done) ≡ ZONE_BYTES * t → frame.pointer ≡ 0
    unfolding sent_pointer_at
    first_pointer done packet back split size =
        let tells : Each TellsItsLength (done ++ packet ∷ back) = subst (Each TellsItsLength) split tell in
        let place = 0 + length (concat done) in
        let found : find (is_in_zone t) (packet_starts_from 0 packets) ≡ Some place =
        ap (λ ps. find (is_in_zone t) (packet_starts_from 0 ps)) split
        ∙ early t 0 done (packet ∷ back) (Each_left TellsItsLength done (packet ∷ back) tells) (omega arith)
        ∙ ap (λ b. cond b (Some place) (find (is_in_zone t) (packet_starts_from (place + length packet) back)))
        (in_zone t place (omega arith) (omega arith)) in
        pointer ∙ ap (λ o. unwrap_or (option_map (λ start. start - ZONE_BYTES * t) o) NO_PACKET_START) found
        ∙ omega arith

    -- a stage between two packets
    between_step : (done back met : List (List ℕ)) → packets ≡ done ++ back → length (concat done) ≡ ZONE_BYTES * t →
        met ≡ [] → Step packets done met frame (ZONE_BYTES * t + ZONE_BYTES)
    between_step done [] met split size none =
        absurd (omega (arith, ap length (behind done [] split size), length-append frame.zone later, long))
    between_step done (packet ∷ back) met split size none =
        let first = first_pointer done packet back split size in
        let small : frame.pointer < ZONE_BYTES = omega arith in
        let b = begun frame.vc t 0 done (packet ∷ back) frame.zone later long (omega arith) split (omega arith)
        (behind done (packet ∷ back) split size) in
        record {
          ended = b.ended;
          open_packets = b.open_packets;
          with = packets_with-early frame met small
              ∙ ap₂ (λ os q. flat_map (completed_packet frame.vc frame.zone frame.pointer) os
              ++ packets_inside frame.vc frame.zone q) none first
              ∙ b.inside;
          after = open_after-early frame met small
              ∙ ap (λ q. map (λ s. drop s frame.zone) (starts_unfinished frame.zone q)) first ∙ b.opened;
          stage = b.stage;
        }

    -- a stage within a packet
    module _ (done met : List (List ℕ)) (w : Within packets done met (ZONE_BYTES * t)) where
      tells : Each TellsItsLength (done ++ w.packet ∷ w.back)
      tells = subst (Each TellsItsLength) w.split tell

      own : TellsItsLength w.packet
      own = (Each_right TellsItsLength done (w.packet ∷ w.back) tells).0

      joined : (w.bytes ++ frame.zone) ++ later ≡ w.packet ++ concat w.back
      joined =
          let n = length w.bytes in
          let place : length (concat done) + n ≡ ZONE_BYTES * t = w.size in
          let all : concat packets ≡ concat done ++ (w.packet ++ concat w.back) =
          ap concat w.split ∙ concat-append done (w.packet ∷ w.back) in
          let rest : frame.zone ++ later ≡ drop n w.packet ++ concat w.back =
          stream ∙ ap (λ k. drop k (concat packets)) (sym place)
          ∙ sym (drop-drop n (length (concat done)) (concat packets))
          ∙ ap (λ xs. drop n (drop (length (concat done)) xs)) all
          ∙ ap (drop n) (drop_at (concat done) (w.packet ++ concat w.back) (length (concat done)) refl)
          ∙ drop-append-le n w.packet (concat w.back) (omega (arith, w.part)) in
          append_assoc w.bytes frame.zone later ∙ ap₂ (λ xs ys. xs ++ ys) w.front rest
          ∙ sym (append_assoc (take n w.packet) (drop n w.packet) (concat w.back))
          ∙ ap (λ xs. xs ++ concat w.back) (take-append-drop n w.packet)

      both : length (w.bytes ++ frame.zone) ≡ length w.bytes + ZONE_BYTES
      both = omega (arith, length-append w.bytes frame.zone, long)

      end : packet_end (w.bytes ++ frame.zone) 0 ≡ length w.packet
      end =
          omega (
            arith,
            packet_ends (w.bytes ++ frame.zone) later w.packet (concat w.back) 0 (omega (arith, both)) joined own,
          )

      -- where the next packet starts
      found : find (is_in_zone t) (packet_starts_from 0 packets)
          ≡ find (is_in_zone t) (packet_starts_from (length (concat done) + length w.packet) w.back)
      found =
          let place = 0 + length (concat done) in
          ap (λ ps. find (is_in_zone t) (packet_starts_from 0 ps)) w.split
          ∙ early t 0 done (w.packet ∷ w.back) (Each_left TellsItsLength done (w.packet ∷ w.back) tells)
          (omega (arith, w.size))
          ∙ ap (λ b. cond b (Some place) (find (is_in_zone t) (packet_starts_from (place + length w.packet) w.back)))
          (before_zone t place (omega (arith, w.size, w.some)))
          ∙ ap (λ n. find (is_in_zone t) (packet_starts_from n w.back)) (omega arith)

      pub no_start : length w.bytes + ZONE_BYTES ≤ length w.packet → frame.pointer ≡ NO_PACKET_START
      unfolding sent_pointer_at
      no_start h =
          pointer ∙ ap (λ o. unwrap_or (option_map (λ start. start - ZONE_BYTES * t) o) NO_PACKET_START)
          (found ∙ late t (length (concat done) + length w.packet) w.back (omega (arith, w.size)))

      pub next_start : (next : List ℕ) (more : List (List ℕ)) → w.back ≡ next ∷ more →
          length w.packet < length w.bytes + ZONE_BYTES → frame.pointer ≡ length w.packet - length w.bytes
      unfolding sent_pointer_at
      next_start next more is h =
          let place = length (concat done) + length w.packet in
          let some : find (is_in_zone t) (packet_starts_from 0 packets) ≡ Some place =
          found ∙ ap (λ ps. find (is_in_zone t) (packet_starts_from place ps)) is
          ∙ ap (λ b. cond b (Some place) (find (is_in_zone t) (packet_starts_from (place + length next) more)))
          (in_zone t place (omega (arith, w.size, w.part)) (omega (arith, w.size))) in
          pointer ∙ ap (λ o. unwrap_or (option_map (λ start. start - ZONE_BYTES * t) o) NO_PACKET_START) some
          ∙ omega (arith, w.size)

      goes_on : length w.bytes + ZONE_BYTES < length w.packet
          → Step packets done met frame (ZONE_BYTES * t + ZONE_BYTES)
      goes_on h =
          let none = no_start (omega arith) in
          let far : ZONE_BYTES ≤ frame.pointer = omega arith in
          let n = length (w.bytes ++ frame.zone) in
          let beyond : length w.bytes + ZONE_BYTES < packet_end (w.bytes ++ frame.zone) 0 = omega (arith, end) in
          record {
            ended = [];
            open_packets = (w.bytes ++ frame.zone) ∷ [];
            with = packets_with-late frame met far
                ∙ ap (flat_map (completed_packet frame.vc frame.zone frame.pointer)) w.one
                ∙ ap (λ (ps : List Packet). ps ++ []) (completed_packet-long w.bytes frame.zone frame.pointer frame.vc
                beyond);
            after = open_after-late frame met far
                ∙ ap (flat_map (continued_packet frame.zone frame.pointer)) w.one
                ∙ ap (λ (os : List (List ℕ)). os ++ []) (continued_packet-long w.bytes frame.zone frame.pointer beyond
                none);
            stage = inr (record {
              packet = w.packet;
              back = w.back;
              bytes = w.bytes ++ frame.zone;
              split = w.split ∙ ap (λ ps. ps ++ w.packet ∷ w.back) (sym (append-nil done));
              size = omega (arith, w.size, both, ap (λ ps. length (concat ps)) (append-nil done));
              front = sym (take_at (w.bytes ++ frame.zone) later n refl) ∙ ap (take n) joined
                  ∙ take-append-le n w.packet (concat w.back) (omega (arith, both));
              some = omega (arith, both);
              part = omega (arith, both);
              one = refl;
            });
          }

      -- the packet, once it is all there
      is_packet : length w.packet ≤ length w.bytes + ZONE_BYTES →
          packet_at frame.vc (w.bytes ++ frame.zone) 0 ≡ on frame.vc w.packet
      is_packet h =
          packet_there frame.vc (w.bytes ++ frame.zone) later w.packet (concat w.back) 0 (omega (arith, both)) joined
          own

      done_split : packets ≡ (done ++ w.packet ∷ []) ++ w.back
      done_split = w.split ∙ sym (append_assoc done (w.packet ∷ []) w.back)

      done_size : length (concat (done ++ w.packet ∷ [])) ≡ length (concat done) + length w.packet
      done_size = omega (arith, concat-both done (w.packet ∷ []), ap length (append-nil w.packet))

      ends : length w.bytes + ZONE_BYTES ≡ length w.packet → Step packets done met frame (ZONE_BYTES * t + ZONE_BYTES)
      ends h =
          let none = no_start (omega arith) in
          let far : ZONE_BYTES ≤ frame.pointer = omega arith in
          let at = packet_end (w.bytes ++ frame.zone) 0 in
          let passes : true ≡ cond (eqb at (length w.bytes + ZONE_BYTES)) (eqb frame.pointer NO_PACKET_START)
          (ltb frame.pointer ZONE_BYTES && eqb at (length w.bytes + frame.pointer)) =
          sym (ap (λ b. cond b (eqb frame.pointer NO_PACKET_START)
          (ltb frame.pointer ZONE_BYTES && eqb at (length w.bytes + frame.pointer)))
          (eq-eqb at (length w.bytes + ZONE_BYTES) (omega (arith, end)))
          ∙ eq-eqb frame.pointer NO_PACKET_START none) in
          record {
            ended = w.packet ∷ [];
            open_packets = [];
            with = packets_with-late frame met far
                ∙ ap (flat_map (completed_packet frame.vc frame.zone frame.pointer)) w.one
                ∙ ap (λ (ps : List Packet). ps ++ [])
                (completed_packet-by w.bytes frame.zone frame.pointer frame.vc true passes
                ∙ ap (λ (p : Packet). p ∷ []) (is_packet (omega arith)));
            after = open_after-late frame met far
                ∙ ap (flat_map (continued_packet frame.zone frame.pointer)) w.one
                ∙ ap (λ (os : List (List ℕ)). os ++ []) (continued_packet-short w.bytes frame.zone frame.pointer
                (omega (arith, end)));
            stage = inl (record {
              back = w.back;
              split = done_split;
              size = omega (arith, done_size, w.size);
              none = refl;
            });
          }

      ends_inside : length w.packet < length w.bytes + ZONE_BYTES → (back : List (List ℕ)) → w.back ≡ back →
          Step packets done met frame (ZONE_BYTES * t + ZONE_BYTES)
      ends_inside h [] is =
          absurd (omega (
            arith,
            ap length joined,
            length-append (w.bytes ++ frame.zone) later,
            both,
            length-append w.packet (concat w.back),
            ap (λ ps. length (concat ps)) is,
          ))
      ends_inside h (next ∷ more) is =
          let q = length w.packet - length w.bytes in
          let starts : frame.pointer ≡ q = next_start next more is h in
          let small : frame.pointer < ZONE_BYTES = omega (arith, w.part) in
          let at = packet_end (w.bytes ++ frame.zone) 0 in
          let passes : true ≡ cond (eqb at (length w.bytes + ZONE_BYTES)) (eqb frame.pointer NO_PACKET_START)
          (ltb frame.pointer ZONE_BYTES && eqb at (length w.bytes + frame.pointer)) =
          sym (ap (λ b. cond b (eqb frame.pointer NO_PACKET_START)
          (ltb frame.pointer ZONE_BYTES && eqb at (length w.bytes + frame.pointer)))
          (ne_eqb at (length w.bytes + ZONE_BYTES) (λ e. omega (arith, end, e)))
          ∙ and_from (ltb frame.pointer ZONE_BYTES) (eqb at (length w.bytes + frame.pointer))
          (lt-ltb frame.pointer ZONE_BYTES small)
          (eq-eqb at (length w.bytes + frame.pointer) (omega (arith, end, w.part)))) in
          let rest : drop q frame.zone ++ later ≡ concat w.back =
          sym (drop-append-le q frame.zone later (omega arith))
          ∙ sym (drop-behind w.bytes (frame.zone ++ later) q (length w.packet) (omega (arith, w.part)))
          ∙ ap (drop (length w.packet)) (sym (append_assoc w.bytes frame.zone later) ∙ joined)
          ∙ drop_at w.packet (concat w.back) (length w.packet) refl in
          let b = begun frame.vc t q (done ++ w.packet ∷ []) w.back frame.zone later long (omega arith) done_split
          (omega (arith, done_size, w.size, w.part)) rest in
          record {
            ended = w.packet ∷ b.ended;
            open_packets = b.open_packets;
            with = packets_with-early frame met small
                ∙ ap₂ (λ os k. flat_map (completed_packet frame.vc frame.zone frame.pointer) os
                ++ packets_inside frame.vc frame.zone k) w.one starts
                ∙ ap₂ (λ (ps qs : List Packet). (ps ++ []) ++ qs)
                (completed_packet-by w.bytes frame.zone frame.pointer frame.vc true passes
                ∙ ap (λ (p : Packet). p ∷ []) (is_packet (omega arith))) b.inside;
            after = open_after-early frame met small
                ∙ ap (λ k. map (λ s. drop s frame.zone) (starts_unfinished frame.zone k)) starts ∙ b.opened;
            stage = subst (λ ps. Stage packets ps b.open_packets (ZONE_BYTES * t + ZONE_BYTES))
                (append_assoc done (w.packet ∷ []) b.ended) b.stage;
          }

      within_step : Step packets done met frame (ZONE_BYTES * t + ZONE_BYTES)
      within_step = elim (cases_lt (length w.bytes + ZONE_BYTES) (length w.packet)) [
        | inl beyond ↦ goes_on beyond
        | inr not_beyond ↦ elim (cases_lt (length w.packet) (length w.bytes + ZONE_BYTES)) [
          | inl inside ↦ ends_inside inside w.back refl
          | inr not_inside ↦ ends (omega arith)
        ]
      ]

    -- one frame more
    pub step : (done met : List (List ℕ)) → Stage packets done met (ZONE_BYTES * t) →
        Step packets done met frame (ZONE_BYTES * t + ZONE_BYTES)
    step done met s = elim s [
      | inl b ↦ between_step done b.back met b.split b.size b.none
      | inr w ↦ within_step done met w
    ]
