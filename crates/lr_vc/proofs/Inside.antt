-- The packets inside one zone, one after another.
use Rattle.std.proofs.Common.{◌≡◌, ℕ, suc, ◌+◌, ◌-◌, ◌<◌, ◌≤◌, true, false, cond, not, List, [], ◌∷◌, ◌++◌, map, length}
use Rattle.std.proofs.Common.{take, drop, get_or, filter, refl, sym, ap, ◌∙◌, ⊎_elim, arith, append_assoc, length-drop}
use Rattle.std.proofs.Common.{get_or-take, ltb, lt-ltb, le-ltb}
use Rattle.std.proofs.lemmas.List.{length-take-le}
use Rattle.std.proofs.lemmas.Bool.{cases_lt}
use Rattle.lr_bits.specs.Packet.{Packet, IsPacket}
use Rattle.lr_bits.specs.declared.sizes.TheConstants.{CHANNELS, ZONE_BYTES}
use Rattle.lr_vc.specs.Packets.{packet_end, is_whole, starts_from, packet_at}
use Rattle.lr_vc.specs.Steps.{starts_after, packets_inside, starts_unfinished}
use Rattle.lr_vc.proofs.Starts.{packet_end_is, packet_end-drop, length_field, is_whole_true, is_whole_false}
use Rattle.lr_vc.proofs.Starts.{has_header_if, has_header_not, starts_from_past, starts_from_steps}

-- what is whole is a packet
pub is_packet_at : (channel : ℕ) (xs : List ℕ) (s : ℕ) → channel < CHANNELS → is_whole xs s ≡ true →
    IsPacket (packet_at channel xs s)
unfolding packet_at
is_packet_at channel xs s fits whole =
    let both = is_whole_true xs s whole in
    let rest = drop s xs in
    let n = packet_end xs s - s in
    let shift = packet_end-drop xs s in
    let here = packet_end_is rest 0 in
    let long : length (take n rest) ≡ n = length-take-le n rest (omega (arith, length-drop s xs, both.1)) in
    let e4 : get_or (take n rest) 4 0 ≡ get_or rest 4 0 = get_or-take n rest 4 0 (omega arith) in
    let e5 : get_or (take n rest) 5 0 ≡ get_or rest 5 0 = get_or-take n rest 5 0 (omega arith) in
    record { channel = fits; whole = omega (arith, long, e4, e5, length_field (take n rest) 0, length_field rest 0) }

step_whole : (xs : List ℕ) (edge steps s : ℕ) → edge ≤ suc steps + s → length xs ≡ edge → is_whole xs s ≡ true →
    starts_from xs edge (suc steps) s ≡ s ∷ starts_from xs edge (suc steps) (packet_end xs s)
unfolding starts_from
step_whole xs edge steps s enough long whole =
    let both = is_whole_true xs s whole in
    let far = packet_end_is xs s in
    let header = has_header_if xs s both.0 in
    let inside : s < edge = omega (arith, both.0) in
    rw (lt-ltb s edge inside, header) (ap (λ ks. s ∷ ks)
    (starts_from_steps xs edge steps (suc steps) (packet_end xs s) (omega arith) (omega arith)))

step_part : (xs : List ℕ) (edge steps s : ℕ) → length xs ≡ edge → s < edge → is_whole xs s ≡ false →
    starts_from xs edge (suc steps) s ≡ s ∷ []
unfolding starts_from
step_part xs edge steps s long inside part =
    rw (lt-ltb s edge inside)
    (⊎_elim (λ short. rw (has_header_not xs s short) refl)
    (λ there.
    let beyond = is_whole_false xs s part there in
    rw (has_header_if xs s there, starts_from_past xs edge steps (packet_end xs s) (omega arith)) refl)
    (cases_lt (length xs) (s + 6)))

module _ (zone : List ℕ) (long : length zone ≡ ZONE_BYTES) where
  pub starts_after-whole : (s : ℕ) → is_whole zone s ≡ true →
      starts_after zone s ≡ s ∷ starts_after zone (packet_end zone s)
  unfolding starts_after
  starts_after-whole s whole = step_whole zone ZONE_BYTES (ZONE_BYTES - 1) s (omega arith) long whole

  starts_after-part : (s : ℕ) → s < ZONE_BYTES → is_whole zone s ≡ false → starts_after zone s ≡ s ∷ []
  unfolding starts_after
  starts_after-part s inside part = step_part zone ZONE_BYTES (ZONE_BYTES - 1) s long inside part

  starts_after-past : (s : ℕ) → ZONE_BYTES ≤ s → starts_after zone s ≡ []
  unfolding starts_after
  starts_after-past s h = starts_from_past zone ZONE_BYTES ZONE_BYTES s h

  pub packets_inside-whole : (channel s : ℕ) → is_whole zone s ≡ true →
      packets_inside channel zone s ≡ packet_at channel zone s ∷ packets_inside channel zone (packet_end zone s)
  unfolding packets_inside
  packets_inside-whole channel s whole =
      let rest = starts_after zone (packet_end zone s) in
      ap (λ ks. map (packet_at channel zone) (filter (is_whole zone) ks)) (starts_after-whole s whole)
      ∙ ap (λ b. map (packet_at channel zone) (cond b (s ∷ filter (is_whole zone) rest)
      (filter (is_whole zone) rest))) whole

  pub packets_inside-rest : (channel s : ℕ) → is_whole zone s ≡ false → packets_inside channel zone s ≡ []
  unfolding packets_inside
  packets_inside-rest channel s part =
      ⊎_elim (λ inside. ap (λ ks. map (packet_at channel zone) (filter (is_whole zone) ks))
      (starts_after-part s inside part)
      ∙ ap (λ b. map (packet_at channel zone) (cond b (s ∷ []) [])) part)
      (λ past. ap (λ ks. map (packet_at channel zone) (filter (is_whole zone) ks)) (starts_after-past s past))
      (cases_lt s ZONE_BYTES)

  pub starts_unfinished-whole : (s : ℕ) → is_whole zone s ≡ true →
      starts_unfinished zone s ≡ starts_unfinished zone (packet_end zone s)
  unfolding starts_unfinished
  starts_unfinished-whole s whole =
      let rest = starts_after zone (packet_end zone s) in
      let test = λ (k : ℕ). not (is_whole zone k) in
      ap (filter test) (starts_after-whole s whole) ∙ ap
      (λ b. cond (not b) (s ∷ filter test rest) (filter test rest)) whole

  pub starts_unfinished-rest : (s : ℕ) → is_whole zone s ≡ false →
      starts_unfinished zone s ≡ cond (ltb s ZONE_BYTES) (s ∷ []) []
  unfolding starts_unfinished
  starts_unfinished-rest s part =
      let test = λ (k : ℕ). not (is_whole zone k) in
      ⊎_elim (λ inside. ap (filter test) (starts_after-part s inside part) ∙ ap (λ b. cond (not b) (s ∷ []) []) part
      ∙ ap (λ b. cond b (s ∷ []) []) (sym (lt-ltb s ZONE_BYTES inside)))
      (λ past. ap (filter test) (starts_after-past s past) ∙
      ap (λ b. cond b (s ∷ []) []) (sym (le-ltb s ZONE_BYTES past)))
      (cases_lt s ZONE_BYTES)

-- one packet more, of what lies ahead
pub push_step : (channel s : ℕ) (zone : List ℕ) (done all : List Packet) → length zone ≡ ZONE_BYTES →
    is_whole zone s ≡ true →
    done ++ packets_inside channel zone s ≡ all → (done ++ packet_at channel zone s ∷ [])
    ++ packets_inside channel zone (packet_end zone s) ≡ all
push_step channel s zone done all long whole e =
    append_assoc done (packet_at channel zone s ∷ []) (packets_inside channel zone (packet_end zone s))
    ∙ ap (λ ps. done ++ ps) (sym (packets_inside-whole zone long channel s whole)) ∙ e

-- the bytes from a start to its end are its packet
pub packet_copied : (channel : ℕ) (xs : List ℕ) (s e : ℕ) (bytes : List ℕ) → bytes ≡ take (e - s) (drop s xs) →
    e ≡ packet_end xs s →
    ◌≡◌ {A = Packet} (record { vc = channel; bytes = bytes }) (packet_at channel xs s)
unfolding packet_at
packet_copied channel xs s e bytes copied end =
    ap (λ b. record { vc = channel; bytes = b }) (copied ∙ ap (λ k. take (k - s) (drop s xs)) end)
