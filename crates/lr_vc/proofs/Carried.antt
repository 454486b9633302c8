-- What the next zone makes of an open packet, by where the packet ends.
use Rattle.std.proofs.Common.{◌≡◌, ℕ, ◌+◌, ◌-◌, ◌<◌, ◌≤◌, Bool, false, cond, ◌&&◌, List, [], ◌∷◌, ◌++◌, length, take}
use Rattle.std.proofs.Common.{drop, map, flat_map, refl, sym, ap, ◌∙◌, ⊎_elim, arith, append-nil, length-append, ltb}
use Rattle.std.proofs.Common.{eqb, lt-ltb, le-ltb, eq-eqb, ne_eqb, suc}
use Rattle.std.proofs.lemmas.Bool.{cases_lt, and_right, and_left}
use Rattle.lr_bits.specs.Packet.{Packet, IsPacket}
use Rattle.lr_bits.specs.declared.sizes.TheConstants.{CHANNELS, NO_PACKET_START, ZONE_BYTES}
use Rattle.lr_vc.specs.Packets.{packet_end, packet_at}
use Rattle.lr_vc.specs.Frame.{Fields}
use Rattle.lr_vc.specs.Steps.{ends_with, goes_on_after, completed_packet, continued_packet, packets_inside}
use Rattle.lr_vc.specs.Steps.{starts_unfinished, packets_with, open_after}
use Rattle.lr_vc.proofs.Lists.{flat_map_none, Each_any}
use Rattle.lr_vc.proofs.Starts.{is_whole_if}
use Rattle.lr_vc.proofs.Inside.{is_packet_at}

-- the part of joined bytes that reaches past the first of them
take_across : (xs ys : List ℕ) (n : ℕ) → length xs ≤ n → take n (xs ++ ys) ≡ xs ++ take (n - length xs) ys
take_across [] ys n h = ap (λ k. take k ys) (omega arith)
take_across (x ∷ xs) ys n h =
    let one : n ≡ suc (n - 1) = omega arith in
    let rest : (n - 1) - length xs ≡ n - length (x ∷ xs) = omega arith in
    ap (λ k. take k (x ∷ (xs ++ ys))) one ∙ ap (λ zs. x ∷ zs)
    (take_across xs ys (n - 1) (omega arith) ∙ ap (λ k. xs ++ take k ys) rest)

module _ (b zone : List ℕ) (p : ℕ) where
  pub completed_packet-by : (channel : ℕ) (t : Bool) →
      t ≡ cond (eqb (packet_end (b ++ zone) 0) (length b + ZONE_BYTES)) (eqb p NO_PACKET_START)
      (ltb p ZONE_BYTES && eqb (packet_end (b ++ zone) 0) (length b + p)) →
      completed_packet channel zone p b ≡ cond t (packet_at channel (b ++ zone) 0 ∷ []) []
  unfolding completed_packet ends_with
  completed_packet-by channel t e = ap (λ t. cond t (packet_at channel (b ++ zone) 0 ∷ []) []) (sym e)

  pub completed_packet-long : (channel : ℕ) → length b + ZONE_BYTES < packet_end (b ++ zone) 0 →
      completed_packet channel zone p b ≡ []
  completed_packet-long channel h =
      let end = packet_end (b ++ zone) 0 in
      let apart = ne_eqb end (length b + ZONE_BYTES) (λ e. omega arith) in
      let no : (ltb p ZONE_BYTES && eqb end (length b + p)) ≡ false =
      ⊎_elim (λ small. and_right (ltb p ZONE_BYTES) (eqb end (length b + p))
      (ne_eqb end (length b + p) (λ e. omega arith)))
      (λ large. and_left (ltb p ZONE_BYTES) (eqb end (length b + p)) (le-ltb p ZONE_BYTES large))
      (cases_lt p ZONE_BYTES) in
      completed_packet-by channel false (sym (ap (λ t. cond t (eqb p NO_PACKET_START)
      (ltb p ZONE_BYTES && eqb end (length b + p))) apart
      ∙ no))

  pub continued_packet-long : length b + ZONE_BYTES < packet_end (b ++ zone) 0 → p ≡ NO_PACKET_START →
      continued_packet zone p b ≡ (b ++ zone) ∷ []
  unfolding continued_packet goes_on_after
  continued_packet-long h e =
      rw (lt-ltb (length b + ZONE_BYTES) (packet_end (b ++ zone) 0) h, eq-eqb p NO_PACKET_START e) refl

  pub continued_packet-other : (p ≡ NO_PACKET_START → ⊥) → continued_packet zone p b ≡ []
  unfolding continued_packet goes_on_after
  continued_packet-other ne =
      ap (λ t. cond t ((b ++ zone) ∷ []) []) (and_right (ltb (length b + ZONE_BYTES) (packet_end (b ++ zone) 0))
      (eqb p NO_PACKET_START)
      (ne_eqb p NO_PACKET_START ne))

  pub continued_packet-short : packet_end (b ++ zone) 0 ≤ length b + ZONE_BYTES → continued_packet zone p b ≡ []
  unfolding continued_packet goes_on_after
  continued_packet-short h =
      ap (λ t. cond t ((b ++ zone) ∷ []) []) (and_left (ltb (length b + ZONE_BYTES) (packet_end (b ++ zone) 0))
      (eqb p NO_PACKET_START)
      (le-ltb (length b + ZONE_BYTES) (packet_end (b ++ zone) 0) h))

  -- the bytes of the packet that ends with the zone
  pub packet_at-across : (channel e : ℕ) (all : List ℕ) → e ≡ packet_end (b ++ zone) 0 → length b ≤ e →
      all ≡ b ++ take (e - length b) zone →
      ◌≡◌ {A = Packet} (record { vc = channel; bytes = all }) (packet_at channel (b ++ zone) 0)
  unfolding packet_at
  packet_at-across channel e all end behind copied =
      ap (λ bytes. record { vc = channel; bytes = bytes })
      (copied ∙ sym (take_across b zone e behind) ∙ ap (λ k. take k (b ++ zone)) (omega (arith, end)))

  pub is_packet-across : (channel : ℕ) → channel < CHANNELS → length zone ≡ ZONE_BYTES →
      packet_end (b ++ zone) 0 ≤ length b + ZONE_BYTES →
      IsPacket (packet_at channel (b ++ zone) 0)
  is_packet-across channel fits long within =
      is_packet_at channel (b ++ zone) 0 fits (is_whole_if (b ++ zone) 0 (omega (arith, length-append b zone))
      (omega (arith, length-append b zone)))

-- where a packet starts in the zone, no open one goes on after it
pub flat_map-continued_packet : (zone : List ℕ) (p : ℕ) (met : List (List ℕ)) → p < ZONE_BYTES →
    flat_map (continued_packet zone p) met ≡ []
flat_map-continued_packet zone p met h =
    flat_map_none (continued_packet zone p) met (Each_any (λ b. continued_packet zone p b ≡ [])
    (λ b. continued_packet-other b zone p (λ e. omega arith)) met)

-- ---- a frame's step, by whether a packet starts in its zone

module _ (f : Fields) (met : List (List ℕ)) where
  pub packets_with-late : ZONE_BYTES ≤ f.pointer →
      packets_with f met ≡ flat_map (completed_packet f.vc f.zone f.pointer) met
  unfolding packets_with
  packets_with-late h = rw (le-ltb f.pointer ZONE_BYTES h)
      (append-nil (flat_map (completed_packet f.vc f.zone f.pointer) met))

  pub packets_with-early : f.pointer < ZONE_BYTES → packets_with f met ≡
      flat_map (completed_packet f.vc f.zone f.pointer) met ++ packets_inside f.vc f.zone f.pointer
  unfolding packets_with
  packets_with-early h = rw (lt-ltb f.pointer ZONE_BYTES h) refl

  pub open_after-late : ZONE_BYTES ≤ f.pointer → open_after f met ≡ flat_map (continued_packet f.zone f.pointer) met
  unfolding open_after
  open_after-late h = rw (le-ltb f.pointer ZONE_BYTES h) (append-nil (flat_map (continued_packet f.zone f.pointer) met))

  pub open_after-early : f.pointer < ZONE_BYTES →
      open_after f met ≡ map (λ s. drop s f.zone) (starts_unfinished f.zone f.pointer)
  unfolding open_after
  open_after-early h =
      ap (λ t. flat_map (continued_packet f.zone f.pointer) met
      ++ cond t (map (λ s. drop s f.zone) (starts_unfinished f.zone f.pointer)) []) (lt-ltb f.pointer ZONE_BYTES h)
      ∙ ap (λ os. os ++ map (λ s. drop s f.zone) (starts_unfinished f.zone f.pointer))
      (flat_map-continued_packet f.zone f.pointer met h)
