-- The zones of a channel that sends packets one after another carry them.
use Rattle.std.proofs.Common.{◌≡◌, ℕ, zero, suc, ◌+◌, ◌-◌, ◌*◌, ◌<◌, ◌≤◌, Bool, true, List, [], ◌∷◌, ◌++◌, inl, inr}
use Rattle.std.proofs.Common.{refl, sym, ap, ap₂, ◌∙◌, subst, arith, map, length, take, drop, get_or, unwrap_or, eqb}
use Rattle.std.proofs.Common.{eqb-true, append-nil, add-one, zero-add, length-drop, length-take-le}
use Rattle.std.specs.List.{concat, list_any, range_with_len}
use Rattle.std.proofs.Math.Seq.{take-add}
use Rattle.std.proofs.lemmas.Bool.{cases_Bool}
use Rattle.std.proofs.lemmas.List.{map-append, take-append-drop, drop-append-le, take-append-le}
use Rattle.std.proofs.lemmas.List.FromFn.{map-range_with_len_more, get_or-map-range_with_len, length-map-range_with_len}
use Rattle.lr_bits.specs.declared.sizes.TheConstants.{CHANNELS, ZONE_BYTES}
use Rattle.lr_block.proofs.Searching.{cases_first}
use Rattle.lr_vc.specs.Frame.{Fields, fields_of}
use Rattle.lr_make.specs.Frames.{packet_frame}
use Rattle.lr_make.specs.Zones.{joined_packets, zone_at, is_start, pointer_at}
use Rattle.lr_make.proofs.Joining.{HaveBytes, joined-front, length-joined-least}
use Rattle.lr_sent.specs.Carried.{IsEdge, AreCountedOn, CarryPackets}
use Rattle.std.proofs.lemmas.List.Folds.{concat-append}
use Rattle.lr_sent.proofs.MadeFrames.{packet_frame_reads}

any_range : (p : ℕ → Bool) (a n : ℕ) → list_any p (range_with_len a n) ≡ true → (k : ℕ) × (a ≤ k) × (k < a + n)
    × (p k ≡ true)
any_range p a zero e = cc
any_range p a (suc n) e =
    elim (cases_Bool (p a)) [
      | inl t ↦ (a, omega arith, omega arith, t)
      | inr f ↦ let r = any_range p (a + 1) n (rw f at e) in (r.0, omega (arith, r.1), omega (arith, r.2), r.3)
    ]

range_both : (a m n : ℕ) → range_with_len a (m + n) ≡ range_with_len a m ++ range_with_len (a + m) n
range_both a zero n = ap₂ range_with_len (omega arith) (zero-add n)
range_both a (suc m) n =
    let e : suc m + n ≡ suc (m + n) = omega arith in
    let next : (a + 1) + m ≡ a + suc m = omega arith in
    ap (range_with_len a) e ∙ ap (λ ks. a ∷ ks) (range_both (a + 1) m n
    ∙ ap (λ k. range_with_len (a + 1) m ++ range_with_len k n) next)

-- the first packets
abbrev pub first_packets : (ℕ → List ℕ) → ℕ → List (List ℕ)
first_packets packets n = map packets (range_with_len 0 n)

module _ (packets : ℕ → List ℕ) (some : HaveBytes packets) where
  joined-is : (n : ℕ) → concat (first_packets packets n) ≡ joined_packets packets n
  unfolding joined_packets
  joined-is zero = refl
  joined-is (suc n) =
      let more : first_packets packets (suc n) ≡ first_packets packets n ++ packets n ∷ [] =
      ap (λ k. map packets (range_with_len 0 k)) (sym (add-one n))
      ∙ map-range_with_len_more packets 0 n n (zero-add n) in
      ap concat more ∙ concat-append (first_packets packets n) (packets n ∷ [])
      ∙ ap₂ (λ xs ys. xs ++ ys) (joined-is n) (append-nil (packets n))

  -- a place at which one of the first packets starts
  edge_at : (n place : ℕ) → place < n → is_start packets place ≡ true → IsEdge (first_packets packets n) place
  unfolding is_start
  edge_at n place inside starts =
      let k = any_range (λ k. eqb (length (joined_packets packets k)) place) 0 (place + 1) starts in
      let low : k.0 ≤ n = omega (arith, k.2) in
      let both : n ≡ k.0 + (n - k.0) = omega arith in
      record {
        front = first_packets packets k.0;
        back = map packets (range_with_len (0 + k.0) (n - k.0));
        split = ap (first_packets packets) both ∙ ap (map packets) (range_both 0 k.0 (n - k.0))
            ∙ map-append packets (range_with_len 0 k.0) (range_with_len (0 + k.0) (n - k.0));
        size = ap length (joined-is k.0) ∙ eqb-true (length (joined_packets packets k.0)) place k.3;
      }

  -- a zone of the first packets
  zone_in : (n t : ℕ) → ZONE_BYTES * (t + 1) ≤ n
      → zone_at packets t ≡ take ZONE_BYTES (drop (ZONE_BYTES * t) (joined_packets packets n))
  unfolding zone_at
  zone_in n t inside =
      let few = joined_packets packets (ZONE_BYTES * (t + 1)) in
      let more = joined-front packets (ZONE_BYTES * (t + 1)) n inside in
      let enough : ZONE_BYTES * (t + 1) ≤ length few = length-joined-least packets some (ZONE_BYTES * (t + 1)) in
      sym (ap (λ z. take ZONE_BYTES (drop (ZONE_BYTES * t) z)) more.1
      ∙ ap (take ZONE_BYTES) (drop-append-le (ZONE_BYTES * t) few more.0 (omega arith))
      ∙ take-append-le ZONE_BYTES (drop (ZONE_BYTES * t) few) more.0 (omega (arith, length-drop (ZONE_BYTES * t) few)))

  pub length-zone : (t : ℕ) → length (zone_at packets t) ≡ ZONE_BYTES
  unfolding zone_at
  length-zone t =
      let few = joined_packets packets (ZONE_BYTES * (t + 1)) in
      let enough : ZONE_BYTES * (t + 1) ≤ length few = length-joined-least packets some (ZONE_BYTES * (t + 1)) in
      length-take-le ZONE_BYTES (drop (ZONE_BYTES * t) few) (omega (arith, length-drop (ZONE_BYTES * t) few))

  -- the first zones, joined, are the first bytes
  zones_joined : (n m : ℕ) → ZONE_BYTES * m ≤ n → concat (map (zone_at packets) (range_with_len 0 m))
      ≡ take (ZONE_BYTES * m) (joined_packets packets n)
  zones_joined n zero inside = refl
  zones_joined n (suc m) inside =
      let all = joined_packets packets n in
      let more : map (zone_at packets) (range_with_len 0 (suc m)) ≡ map (zone_at packets) (range_with_len 0 m)
      ++ zone_at packets m ∷ [] =
      ap (λ k. map (zone_at packets) (range_with_len 0 k)) (sym (add-one m))
      ∙ map-range_with_len_more (zone_at packets) 0 m m (zero-add m) in
      let long : ZONE_BYTES * suc m ≡ ZONE_BYTES * m + ZONE_BYTES = omega arith in
      ap concat more ∙ concat-append (map (zone_at packets) (range_with_len 0 m)) (zone_at packets m ∷ [])
      ∙ ap₂ (λ xs ys. xs ++ ys) (zones_joined n m (omega arith)) (append-nil (zone_at packets m)
      ∙ zone_in n m (omega arith))
      ∙ sym (take-add (ZONE_BYTES * m) ZONE_BYTES all) ∙ ap (λ k. take k all) (sym long)

  module _ (vc : ℕ) (v : vc < CHANNELS) where
    -- frame t of the channel, as it is read
    abbrev pub sent_frame : ℕ → Fields
    sent_frame t = fields_of (packet_frame vc packets t)

    counted : (a n : ℕ) → AreCountedOn (map sent_frame (range_with_len a n))
    counted a zero = tt
    counted a (suc zero) = tt
    counted a (suc (suc n)) = (
      omega (
        arith,
        (packet_frame_reads vc packets a v).counter_is,
        (packet_frame_reads vc packets (a + 1) v).counter_is,
      ),
      counted (a + 1) (suc n),
    )

    zones_are : (a n : ℕ) → map (λ frame. frame.zone) (map sent_frame (range_with_len a n))
        ≡ map (zone_at packets) (range_with_len a n)
    zones_are a zero = refl
    zones_are a (suc n) = ap₂ (λ z zs. z ∷ zs) (packet_frame_reads vc packets a v).zone_is (zones_are (a + 1) n)

    pointers_are : (a n : ℕ) → map (λ frame. frame.pointer) (map sent_frame (range_with_len a n))
        ≡ map (pointer_at packets) (range_with_len a n)
    pointers_are a zero = refl
    pointers_are a (suc n) = ap₂ (λ z zs. z ∷ zs) (packet_frame_reads vc packets a v).pointer_is
        (pointers_are (a + 1) n)

    edge_pointed : (m t : ℕ) → t < m → pointer_at packets t < ZONE_BYTES
        → IsEdge (first_packets packets (ZONE_BYTES * m)) (ZONE_BYTES * t + pointer_at packets t)
    unfolding pointer_at
    edge_pointed m t inside points =
        let starts : ℕ → Bool = λ place. is_start packets (ZONE_BYTES * t + place) in
        elim (cases_first starts 0 ZONE_BYTES) [
          | inl none ↦ absurd (omega (arith, ap (λ z. unwrap_or z 2047) none.0))
          | inr found ↦
              let here : pointer_at packets t ≡ found.0 = ap (λ z. unwrap_or z 2047) found.1 in
              subst (λ p. IsEdge (first_packets packets (ZONE_BYTES * m)) (ZONE_BYTES * t + p)) (sym here)
              (edge_at (ZONE_BYTES * m) (ZONE_BYTES * t + found.0) (omega (arith, found.2)) found.3)
        ]

    pub carry : (m : ℕ) → CarryPackets (map sent_frame (range_with_len 0 m)) (first_packets packets (ZONE_BYTES * m))
    carry m =
        let all = joined_packets packets (ZONE_BYTES * m) in
        record {
          counted = counted 0 m;
          later = drop (ZONE_BYTES * m) all;
          bytes = joined-is (ZONE_BYTES * m) ∙ sym (take-append-drop (ZONE_BYTES * m) all)
              ∙ ap (λ xs. xs ++ drop (ZONE_BYTES * m) all)
              (sym (ap concat (zones_are 0 m) ∙ zones_joined (ZONE_BYTES * m) m (omega arith)));
          pointers = λ t inside points.
              let low : t < m = omega (arith, inside, length-map-range_with_len sent_frame 0 m) in
              let here : get_or (map (λ (frame : Fields). frame.pointer) (map sent_frame (range_with_len 0 m)))
              t 0 ≡ pointer_at packets t =
              ap (λ ps. get_or ps t 0) (pointers_are 0 m)
              ∙ get_or-map-range_with_len (pointer_at packets) 0 m t t 0 low (zero-add t) in
              subst (λ p. IsEdge (first_packets packets (ZONE_BYTES * m)) (ZONE_BYTES * t + p)) (sym here)
              (edge_pointed m t low (subst (λ p. p < ZONE_BYTES) here points));
        }
