-- The packets inside a zone of packets that are sent one after another.
use Rattle.std.proofs.Common.{◌≡◌, ℕ, ◌+◌, ◌-◌, ◌<◌, ◌≤◌, ◌⊎◌, true, false, List, [], ◌∷◌, ◌++◌, map, length}
use Rattle.std.proofs.Common.{take, drop, refl, sym, ap, ap₂, ◌∙◌, arith, length-append, length-drop}
use Rattle.std.proofs.Common.{drop-drop, drop_at, le-ltb, lt-ltb, cond, inl, inr}
use Rattle.std.specs.List.{AllByRecursion as Each, concat}
use Rattle.std.proofs.lemmas.Bool.{cases_lt}
use Rattle.std.proofs.lemmas.List.{drop-append-le, take-append-le, take_at}
use Rattle.lr_bits.specs.Packet.{Packet}
use Rattle.lr_bits.specs.declared.sizes.TheConstants.{ZONE_BYTES}
use Rattle.lr_vc.specs.Packets.{packet_end, is_whole, packet_at}
use Rattle.lr_vc.specs.Steps.{packets_inside, starts_unfinished}
use Rattle.lr_vc.proofs.Inside.{packets_inside-whole, packets_inside-rest, starts_unfinished-whole}
use Rattle.lr_vc.proofs.Inside.{starts_unfinished-rest}
use Rattle.lr_vc.proofs.Starts.{packet_end-drop, packet_end-append, packet_end_is, is_whole_if, is_whole_no_header}
use Rattle.lr_vc.proofs.Starts.{is_whole_too_long}
use Rattle.lr_sent.specs.Carried.{TellsItsLength}

-- a packet of a channel
abbrev pub on : ℕ → List ℕ → Packet
on channel bytes = record { vc = channel; bytes = bytes }

-- where a packet ends, whose header is in these bytes
pub packet_ends : (zone later packet more : List ℕ) (q : ℕ) → q + 6 ≤ length zone
    → drop q zone ++ later ≡ packet ++ more →
    TellsItsLength packet → packet_end zone q ≡ q + length packet
packet_ends zone later packet more q header e tells =
    let rest = drop q zone in
    let there : 0 + 6 ≤ length rest = omega (arith, length-drop q zone) in
    let here : packet_end (rest ++ later) 0 ≡ packet_end (packet ++ more) 0 = ap (λ xs. packet_end xs 0) e in
    omega (
      arith,
      packet_end-drop zone q,
      packet_end-append rest later 0 there,
      here,
      packet_end-append packet more 0 (omega (arith, tells)),
      packet_end_is packet 0,
      tells,
    )

-- a packet that is all in these bytes
pub packet_there : (channel : ℕ) (zone later packet more : List ℕ) (q : ℕ) → q + length packet ≤ length zone →
    drop q zone ++ later ≡ packet ++ more → TellsItsLength packet → packet_at channel zone q ≡ on channel packet
unfolding packet_at
packet_there channel zone later packet more q inside e tells =
    let end = packet_ends zone later packet more q (omega (arith, tells)) e tells in
    let size : packet_end zone q - q ≡ length packet = omega (arith, end) in
    let fits : length packet ≤ length (drop q zone) = omega (arith, length-drop q zone) in
    ap (on channel)
    (ap (λ n. take n (drop q zone)) size ∙ sym (take-append-le (length packet) (drop q zone) later fits)
    ∙ ap (take (length packet)) e ∙ take_at packet more (length packet) refl)

-- a packet that begins in a zone and goes on after it
pub record Goes (zone : List ℕ) (q place : ℕ) (back : List (List ℕ)) : Type 0 where
  pub packet : List ℕ
  pub more : List (List ℕ)
  pub split : back ≡ packet ∷ more
  pub start : place < ZONE_BYTES
  pub long : ZONE_BYTES < place + length packet
  pub unfinished : starts_unfinished zone q ≡ place ∷ []

-- the packets inside a zone from a place on, and what goes on after it
pub record Walk (channel : ℕ) (zone later : List ℕ) (q : ℕ) (packets : List (List ℕ)) : Type 0 where
  pub ended : List (List ℕ)
  pub back : List (List ℕ)
  pub split : packets ≡ ended ++ back
  pub inside : packets_inside channel zone q ≡ map (on channel) ended
  pub place : ℕ
  pub place_is : place ≡ q + length (concat ended)
  pub rest : drop place zone ++ later ≡ concat back
  pub cases : ((place ≡ ZONE_BYTES) × (starts_unfinished zone q ≡ [])) ⊎ Goes zone q place back

module _ (channel : ℕ) (zone : List ℕ) (long : length zone ≡ ZONE_BYTES) (later : List ℕ) where
  at_end : (q : ℕ) (packets : List (List ℕ)) → q ≡ ZONE_BYTES → drop q zone ++ later ≡ concat packets →
      Walk channel zone later q packets
  at_end q packets e rest =
      let none : is_whole zone q ≡ false = is_whole_no_header zone q (omega arith) in
      record {
        ended = [];
        back = packets;
        split = refl;
        inside = packets_inside-rest zone long channel q none;
        place = q;
        place_is = omega arith;
        rest = rest;
        cases = inl (
          e,
          starts_unfinished-rest zone long q none ∙ ap (λ b. cond b (q ∷ []) [])
              (le-ltb q ZONE_BYTES (omega arith)),
        );
      }

  goes : (q : ℕ) (packet : List ℕ) (packets : List (List ℕ)) → q < ZONE_BYTES → ZONE_BYTES < q + length packet →
      TellsItsLength packet → drop q zone ++ later ≡ packet ++ concat packets →
      Walk channel zone later q (packet ∷ packets)
  goes q packet packets inside beyond tells rest =
      let none : is_whole zone q ≡ false = elim (cases_lt ZONE_BYTES (q + 6)) [
        | inl short ↦ is_whole_no_header zone q (omega arith)
        | inr there ↦ is_whole_too_long zone q
            (omega (arith, packet_ends zone later packet (concat packets) q (omega arith) rest tells))
      ] in
      record {
        ended = [];
        back = packet ∷ packets;
        split = refl;
        inside = packets_inside-rest zone long channel q none;
        place = q;
        place_is = omega arith;
        rest = rest;
        cases = inr (record {
          packet = packet;
          more = packets;
          split = refl;
          start = inside;
          long = beyond;
          unfinished = starts_unfinished-rest zone long q none
              ∙ ap (λ b. cond b (q ∷ []) []) (lt-ltb q ZONE_BYTES inside);
        });
      }

  -- one packet more that lies in the zone
  one_more : (q : ℕ) (packet : List ℕ) (packets : List (List ℕ)) → q + length packet ≤ ZONE_BYTES
      → TellsItsLength packet →
      drop q zone ++ later ≡ packet ++ concat packets → Walk channel zone later (q + length packet) packets →
      Walk channel zone later q (packet ∷ packets)
  one_more q packet packets fits tells rest w =
      let end : packet_end zone q ≡ q + length packet =
      packet_ends zone later packet (concat packets) q (omega (arith, tells)) rest tells in
      let whole : is_whole zone q ≡ true = is_whole_if zone q (omega (arith, tells)) (omega (arith, end)) in
      let next : starts_unfinished zone q ≡ starts_unfinished zone (q + length packet) =
      starts_unfinished-whole zone long q whole ∙ ap (starts_unfinished zone) end in
      record {
        ended = packet ∷ w.ended;
        back = w.back;
        split = ap (λ (ps : List (List ℕ)). packet ∷ ps) w.split;
        inside = packets_inside-whole zone long channel q whole
            ∙ ap₂ (λ p (ps : List Packet). p ∷ ps)
            (packet_there channel zone later packet (concat packets) q (omega arith) rest tells)
            (ap (packets_inside channel zone) end ∙ w.inside);
        place = w.place;
        place_is = omega (arith, w.place_is, length-append packet (concat w.ended));
        rest = w.rest;
        cases = elim w.cases [
          | inl done ↦ inl (done.0, next ∙ done.1)
          | inr g ↦ inr (record {
            packet = g.packet;
            more = g.more;
            split = g.split;
            start = g.start;
            long = g.long;
            unfinished = next ∙ g.unfinished;
          })
        ];
      }

  pub walk : (q : ℕ) (packets : List (List ℕ)) → Each TellsItsLength packets → q ≤ ZONE_BYTES →
      drop q zone ++ later ≡ concat packets → Walk channel zone later q packets
  walk q [] tell inside rest =
      let none : length (drop q zone ++ later) ≡ 0 = ap length rest in
      at_end q [] (omega (arith, none, length-append (drop q zone) later, length-drop q zone)) rest
  walk q (packet ∷ packets) tell inside rest =
      elim (cases_lt q ZONE_BYTES) [
        | inl low ↦ elim (cases_lt ZONE_BYTES (q + length packet)) [
          | inl beyond ↦ goes q packet packets low beyond tell.0 rest
          | inr fits ↦
              let size : length packet ≤ length (drop q zone) = omega (arith, length-drop q zone) in
              let behind : drop (q + length packet) zone ++ later ≡ concat packets =
              ap (λ xs. xs ++ later) (sym (drop-drop (length packet) q zone))
              ∙ sym (drop-append-le (length packet) (drop q zone) later size)
              ∙ ap (drop (length packet)) rest ∙ drop_at packet (concat packets) (length packet) refl in
              one_more q packet packets fits tell.0 rest (walk (q + length packet) packets tell.1 (omega arith) behind)
        ]
        | inr high ↦ at_end q (packet ∷ packets) (omega arith) rest
      ]
