-- Where bodies stand in a file, and its packets one after another.
use Rattle.std.proofs.Common.{◌≡◌, ℕ, zero, suc, ◌+◌, ◌-◌, ◌*◌, ◌%◌, ◌<◌, ◌≤◌, false, cond, eqb, ltb, List, [], ◌∷◌}
use Rattle.std.proofs.Common.{◌++◌, map, length, take, drop, get_or, refl, sym, ap, ◌∙◌, subst, arith, append-nil}
use Rattle.std.proofs.Common.{length-append, length-drop, drop-cons, add-one, Option, Some, None}
use Rattle.std.specs.List.{AllByRecursion as Each, concat, range_with_len}
use Rattle.std.proofs.lemmas.Bool.{cond_both}
use Rattle.std.proofs.lemmas.List.{take_at, take-append-drop, length-take-le, get_or_append_left, get_or-append-add}
use Rattle.std.proofs.lemmas.List.{drop_all}
use Rattle.std.proofs.lemmas.List.FromFn.{length-map-range_with_len, get_or-map-range_with_len}
use Rattle.lr_bits.specs.File.{File, bytes_of}
use Rattle.lr_bits.specs.declared.sizes.TheConstants.{SEQUENCE_COUNTS, ZONE_BYTES}
use Rattle.lr_vc.specs.Frame.{Fields}
use Rattle.lr_sent.specs.Carried.{TellsItsLength}
use Rattle.std.proofs.lemmas.List.Folds.{concat-append}
use Rattle.lr_sent.proofs.MadePackets.{length-packet}
use Rattle.lr_uplink.specs.declared.packet.Packet.{Packet}
use Rattle.lr_uplink.specs.Packets.{flags_at, body_packet, body_packets, idle_packet, idle_packets, bytes_left}
use Rattle.lr_uplink.specs.Packets.{file_packets}
use Rattle.lr_uplink.specs.Pieces.{IsPacketOf}
use Rattle.lr_uplink.specs.Sent.{sent_zone_at, sent_pointer_at}
use Rattle.lr_uplink.proofs.Flowing.{zone_long, zone_stream}
use Rattle.lr_uplink.proofs.Zones.{Within, drop-behind, first_pointer, no_start, next_start}

-- ---- lists of lists

-- one more of them
pub take_more_of : (i : ℕ) (xs : List (List ℕ)) →
    length (concat (take (suc i) xs)) ≡ length (concat (take i xs)) + length (get_or xs i [])
take_more_of zero [] = refl
take_more_of (suc i) [] = refl
take_more_of zero (x ∷ xs) = omega (arith, ap length (append-nil x))
take_more_of (suc i) (x ∷ xs) =
    omega (
      arith,
      length-append x (concat (take (suc i) xs)),
      length-append x (concat (take i xs)),
      take_more_of i xs,
    )

-- the first ones are fewer
pub take_fewer : (i : ℕ) (xs : List (List ℕ)) → length (concat (take i xs)) ≤ length (concat xs)
take_fewer zero xs = omega arith
take_fewer (suc i) [] = omega arith
take_fewer (suc i) (x ∷ xs) =
    omega (arith, length-append x (concat (take i xs)), length-append x (concat xs), take_fewer i xs)

-- one of them, in all of them
pub one_of : (i : ℕ) (xs : List (List ℕ)) →
    take (length (get_or xs i [])) (drop (length (concat (take i xs))) (concat xs)) ≡ get_or xs i []
one_of zero [] = refl
one_of (suc i) [] = refl
one_of zero (x ∷ xs) = take_at x (concat xs) (length x) refl
one_of (suc i) (x ∷ xs) =
    ap (take (length (get_or xs i [])))
    (drop-behind x (concat xs) (length (concat (take i xs))) (length (x ++ concat (take i xs)))
    (length-append x (concat (take i xs))))
    ∙ one_of i xs

-- those after some of them
pub split_at : (i : ℕ) (xs : List (List ℕ)) → i < length xs → xs ≡ take i xs ++ get_or xs i [] ∷ drop (suc i) xs
split_at i xs inside =
    sym (take-append-drop i xs) ∙ ap (λ ys. take i xs ++ ys) (drop-cons xs i [] inside)

pub split_length : (i : ℕ) (xs : List (List ℕ)) → i < length xs →
    length (concat xs) ≡ length (concat (take i xs)) + (length (get_or xs i []) + length (concat (drop (suc i) xs)))
split_length i xs inside =
    let later = get_or xs i [] ∷ drop (suc i) xs in
    ap (λ ys. length (concat ys)) (split_at i xs inside) ∙ ap length (concat-append (take i xs) later)
    ∙ length-append (concat (take i xs)) (concat later)
    ∙ ap (λ n. length (concat (take i xs)) + n) (length-append (get_or xs i []) (concat (drop (suc i) xs)))

-- ---- the packets of a file

pub length-bodies : (apid count : ℕ) (bodies : List (List ℕ)) → length (body_packets apid count bodies) ≡ length bodies
unfolding body_packets
length-bodies apid count bodies = length-map-range_with_len (body_packet apid count bodies) 0 (length bodies)

pub body_at : (apid count : ℕ) (bodies : List (List ℕ)) (i : ℕ) → i < length bodies →
    get_or (body_packets apid count bodies) i [] ≡ body_packet apid count bodies i
unfolding body_packets
body_at apid count bodies i inside =
    get_or-map-range_with_len (body_packet apid count bodies) 0 (length bodies) i i [] inside (omega arith)

bodies_total : (apid count : ℕ) (bodies : List (List ℕ)) (a n : ℕ) → a + n ≡ length bodies →
    length (concat (map (body_packet apid count bodies) (range_with_len a n)))
    ≡ length (concat (drop a bodies)) + 8 * n
bodies_total apid count bodies a zero e = omega (arith, ap (λ ys. length (concat ys)) (drop_all a bodies (omega arith)))
bodies_total apid count bodies a (suc n) e =
    let own = body_packet apid count bodies a in
    let rest = concat (map (body_packet apid count bodies) (range_with_len (a + 1) n)) in
    let next : length (concat (drop (a + 1) bodies)) ≡ length (concat (drop (suc a) bodies)) =
    ap (λ k. length (concat (drop k bodies))) (add-one a) in
    omega (
      arith,
      length-append own rest,
      length-packet apid (flags_at (length bodies) a) ((count + a) % SEQUENCE_COUNTS) (get_or bodies a []),
      bodies_total apid count bodies (a + 1) n (omega arith),
      next,
      ap (λ ys. length (concat ys)) (drop-cons bodies a [] (omega arith)),
      length-append (get_or bodies a []) (concat (drop (suc a) bodies)),
    )

pub packets_total : (apid count : ℕ) (bodies : List (List ℕ)) →
    length (concat (body_packets apid count bodies)) ≡ length (concat bodies) + 8 * length bodies
unfolding body_packets
packets_total apid count bodies = bodies_total apid count bodies 0 (length bodies) (omega arith)

-- ---- packets by their places

-- the packet of a body
pub body_there : (count : ℕ) (file : File) (i : ℕ) → i < length file.bodies →
    (i < length (file_packets count file)) ×
    (get_or (file_packets count file) i [] ≡ body_packet file.apid count file.bodies i)
body_there count file i inside =
    let packets = body_packets file.apid count file.bodies in
    let idle = idle_packets (bytes_left (length (concat packets))) in
    let size = length-bodies file.apid count file.bodies in (
      omega (arith, size, length-append packets idle),
      get_or_append_left packets idle [] i (omega (arith, size)) ∙ body_at file.apid count file.bodies i inside,
    )

-- there is at most one idle packet
few_idle : (left : ℕ) → length (idle_packets left) ≤ 1
few_idle left =
    cond_both (eqb left 0) [] (idle_packet (cond (ltb left 7) (left + ZONE_BYTES) left) ∷ []) (λ ps. length ps ≤ 1)
    (λ _. omega arith) (λ _. omega arith)

pub file_packets_few : (count : ℕ) (file : File) → length (file_packets count file) ≤ length file.bodies + 1
file_packets_few count file =
    let packets = body_packets file.apid count file.bodies in
    let left = bytes_left (length (concat packets)) in
    omega (
      arith,
      length-append packets (idle_packets left),
      length-bodies file.apid count file.bodies,
      few_idle left,
    )

-- the idle packet, after those of the bodies
behind_bodies : (packets idle : List (List ℕ)) (bytes : List ℕ) (n : ℕ) (o : Option Packet) → length packets ≡ n →
    IsPacketOf idle bytes 0 o → IsPacketOf (packets ++ idle) bytes n o
behind_bodies packets idle bytes n None e h = omega (arith, length-append packets idle, h)
behind_bodies packets idle bytes n (Some packet) e h =
    let same : get_or (packets ++ idle) n [] ≡ get_or idle 0 [] =
    ap (λ k. get_or (packets ++ idle) k []) (omega (arith, e)) ∙ get_or-append-add packets idle 0 [] in
    record {
      there = omega (arith, length-append packets idle, h.there, e);
      carries = record {
        is = h.carries.is ∙ sym same;
        size = h.carries.size ∙ ap length (sym same);
        within = h.carries.within;
      };
    }

pub idle_there : (count : ℕ) (file : File) (bytes : List ℕ) (size : ℕ) (o : Option Packet) →
    size ≡ length (bytes_of file) + 8 * length file.bodies →
    IsPacketOf (idle_packets (bytes_left size)) bytes 0 o →
    IsPacketOf (file_packets count file) bytes (length file.bodies) o
idle_there count file bytes size o e h =
    let packets = body_packets file.apid count file.bodies in
    let total : size ≡ length (concat packets) = e ∙ sym (packets_total file.apid count file.bodies) in
    behind_bodies packets (idle_packets (bytes_left (length (concat packets)))) bytes (length file.bodies) o
    (length-bodies file.apid count file.bodies)
    (subst (λ n. IsPacketOf (idle_packets (bytes_left n)) bytes 0 o) total h)

-- ---- pointers

-- the frame of a zone, but for what takes no part here
abbrev frame_with : List (List ℕ) → ℕ → Fields
frame_with packets t = record {
  spacecraft = 0;
  vc = 0;
  counter = 0;
  replay = false;
  rest = 0;
  pointer = sent_pointer_at packets t;
  zone = sent_zone_at packets t;
}

module _ (packets : List (List ℕ)) (tell : Each TellsItsLength packets) (t i : ℕ)
    (room : ZONE_BYTES * t + ZONE_BYTES ≤ length (concat packets)) (inside : i < length packets) where
  abbrev own : List ℕ
  own = get_or packets i []

  abbrev later : List ℕ
  later = drop ZONE_BYTES (drop (ZONE_BYTES * t) (concat packets))

  -- where the zone begins, counted from the start of the packet
  start : (sent : ℕ) → sent ≤ length own →
      drop (ZONE_BYTES * t) (concat packets) ≡ drop sent own ++ concat (drop (suc i) packets) →
      length (concat (take i packets)) + sent ≡ ZONE_BYTES * t
  start sent few rest =
      omega (
        arith,
        split_length i packets inside,
        ap length rest,
        length-append (drop sent own) (concat (drop (suc i) packets)),
        length-drop sent own,
        length-drop (ZONE_BYTES * t) (concat packets),
      )

  pub pointer_first : drop (ZONE_BYTES * t) (concat packets) ≡ own ++ concat (drop (suc i) packets) →
      sent_pointer_at packets t ≡ 0
  pointer_first rest =
      first_pointer packets tell t (frame_with packets t) later (zone_long packets t room) (zone_stream packets t) refl
      (take i packets) own (drop (suc i) packets) (split_at i packets inside)
      (omega (arith, start 0 (omega arith) rest))

  within : (sent : ℕ) → 0 < sent → sent < length own →
      drop (ZONE_BYTES * t) (concat packets) ≡ drop sent own ++ concat (drop (suc i) packets) →
      Within packets (take i packets) (take sent own ∷ []) (ZONE_BYTES * t)
  within sent some part rest =
      let size : length (take sent own) ≡ sent = length-take-le sent own (omega arith) in
      record {
        packet = own;
        back = drop (suc i) packets;
        bytes = take sent own;
        split = split_at i packets inside;
        size = omega (arith, size, start sent (omega arith) rest);
        front = ap (λ n. take n own) (sym size);
        some = omega (arith, size);
        part = omega (arith, size);
        one = refl;
      }

  pub pointer_none : (sent : ℕ) → 0 < sent → sent < length own → sent + ZONE_BYTES ≤ length own →
      drop (ZONE_BYTES * t) (concat packets) ≡ drop sent own ++ concat (drop (suc i) packets) →
      sent_pointer_at packets t ≡ 2047
  unfolding within
  pointer_none sent some part far rest =
      let size : length (take sent own) ≡ sent = length-take-le sent own (omega arith) in
      no_start packets tell t (frame_with packets t) later (zone_long packets t room) (zone_stream packets t) refl
      (take i packets) (take sent own ∷ []) (within sent some part rest) (omega (arith, size))

  next_by : (sent : ℕ) → 0 < sent → sent < length own → length own < sent + ZONE_BYTES →
      drop (ZONE_BYTES * t) (concat packets) ≡ drop sent own ++ concat (drop (suc i) packets) →
      (back : List (List ℕ)) → drop (suc i) packets ≡ back → sent_pointer_at packets t ≡ length own - sent
  unfolding within
  next_by sent some part near rest [] is =
      absurd (omega (
        arith,
        ap length rest,
        length-append (drop sent own) (concat (drop (suc i) packets)),
        ap (λ ys. length (concat ys)) is,
        length-drop sent own,
        length-drop (ZONE_BYTES * t) (concat packets),
      ))
  next_by sent some part near rest (next ∷ more) is =
      let size : length (take sent own) ≡ sent = length-take-le sent own (omega arith) in
      next_start packets tell t (frame_with packets t) later (zone_long packets t room) (zone_stream packets t) refl
      (take i packets) (take sent own ∷ []) (within sent some part rest) next more is (omega (arith, size))
      ∙ ap (λ n. length own - n) size

  pub pointer_next : (sent : ℕ) → 0 < sent → sent < length own → length own < sent + ZONE_BYTES →
      drop (ZONE_BYTES * t) (concat packets) ≡ drop sent own ++ concat (drop (suc i) packets) →
      sent_pointer_at packets t ≡ length own - sent
  pointer_next sent some part near rest = next_by sent some part near rest (drop (suc i) packets) refl
