-- Zones and pointers of a list of packets, and of packets without an end.
use Rattle.std.proofs.Common.{◌≡◌, ◌∙◌, ◌⊎◌, ◌+◌, ◌-◌, ◌*◌, ◌<◌, ◌≤◌, ◌++◌, ◌∷◌, ℕ, zero, suc, Bool, true, false, cond}
use Rattle.std.proofs.Common.{eqb, ltb, leb, ltb-true, le-leb, lt-ltb, eq-eqb, ne_eqb, List, [], Option, Some}
use Rattle.std.proofs.Common.{None, unwrap_or, length, map, take, drop, refl, sym, ap, ap₂, inl, inr, arith, append-nil}
use Rattle.std.proofs.Common.{length-append, length-drop, true≢false}
use Rattle.std.specs.Prelude.{find}
use Rattle.std.specs.List.{concat, list_any, range_with_len}
use Rattle.std.specs.Option.{option_map}
use Rattle.std.proofs.lemmas.Bool.{leb-true, and_from, and_parts, cases_Bool, cases_eq, cases_lt, or_left, or_right}
use Rattle.std.proofs.lemmas.Bool.{or_from}
use Rattle.std.proofs.lemmas.List.{drop-append-le, map-id, take-append-le}
use Rattle.std.proofs.lemmas.List.FromFn.{map-range_with_len_more}
use Rattle.lr_bits.specs.declared.sizes.TheConstants.{ZONE_BYTES}
use Rattle.lr_make.specs.Zones.{is_start, joined_packets, pointer_at, zone_at}
use Rattle.lr_uplink.specs.Sent.{is_in_zone, packet_starts_from, sent_pointer_at, sent_zone_at}
use Rattle.lr_uplink.specs.Agreeing.{ZonesAgree, first_packets}
use Rattle.lr_make.proofs.Joining.{HaveBytes, joined-front, joined-more, length-joined-least, length-joined-le}
use Rattle.std.proofs.lemmas.List.Folds.{concat-append}

-- how many bytes the first k packets have
abbrev starts : (ℕ → List ℕ) → ℕ → ℕ
starts packets k = length (joined_packets packets k)

-- the first packets of the list, joined, are the first packets, joined
concat_first : (packets : ℕ → List ℕ) (n : ℕ) → concat (first_packets packets n) ≡ joined_packets packets n
unfolding joined_packets
concat_first packets zero = refl
concat_first packets (suc n) =
    let e : suc n ≡ n + 1 = omega arith in
    ap (λ m. concat (first_packets packets m)) e
    ∙ ap concat (map-range_with_len_more packets 0 n n (omega arith))
    ∙ concat-append (first_packets packets n) (packets n ∷ [])
    ∙ ap₂ (λ x y. x ++ y) (concat_first packets n) (append-nil (packets n))
    ∙ sym (joined-more packets n)
    ∙ ap (joined_packets packets) (sym e)

-- ---- zones

-- bytes that stand among the first ones are the same with more after them
cut : (t : ℕ) (front rest : List ℕ) → ZONE_BYTES * (t + 1) ≤ length front
    → take ZONE_BYTES (drop (ZONE_BYTES * t) (front ++ rest)) ≡ take ZONE_BYTES (drop (ZONE_BYTES * t) front)
cut t front rest enough =
    ap (take ZONE_BYTES) (drop-append-le (ZONE_BYTES * t) front rest (omega (arith, enough)))
    ∙ take-append-le ZONE_BYTES (drop (ZONE_BYTES * t) front) rest
    (omega (arith, enough, length-drop (ZONE_BYTES * t) front))

module _ (packets : ℕ → List ℕ) (some : HaveBytes packets) where
  -- a zone of more packets
  zone_of_more : (t m n : ℕ) → m ≤ n → ZONE_BYTES * (t + 1) ≤ starts packets m
      → take ZONE_BYTES (drop (ZONE_BYTES * t) (joined_packets packets n))
      ≡ take ZONE_BYTES (drop (ZONE_BYTES * t) (joined_packets packets m))
  zone_of_more t m n le enough =
      let r = joined-front packets m n le in
      ap (λ bytes. take ZONE_BYTES (drop (ZONE_BYTES * t) bytes)) r.1 ∙ cut t (joined_packets packets m) r.0 enough

  zones : (n t : ℕ) → ZONE_BYTES * (t + 1) ≤ starts packets n
      → sent_zone_at (first_packets packets n) t ≡ zone_at packets t
  unfolding sent_zone_at zone_at
  zones n t enough =
      ap (λ bytes. take ZONE_BYTES (drop (ZONE_BYTES * t) bytes)) (concat_first packets n)
      ∙ elim (cases_lt n (ZONE_BYTES * (t + 1))) [
        | inl l ↦ sym (zone_of_more t n (ZONE_BYTES * (t + 1)) (omega arith) enough)
        | inr l ↦ zone_of_more t (ZONE_BYTES * (t + 1)) n l (length-joined-least packets some (ZONE_BYTES * (t + 1)))
      ]

  -- ---- pointers

  starts_are : (a n : ℕ) → packet_starts_from (starts packets a) (map packets (range_with_len a n))
      ≡ map (starts packets) (range_with_len a n)
  starts_are a zero = refl
  starts_are a (suc n) =
      let next : starts packets a + length (packets a) ≡ starts packets (a + 1) =
      sym (ap length (joined-more packets a) ∙ length-append (joined_packets packets a) (packets a)) in
      ap (λ l. starts packets a ∷ l)
      (ap (λ p. packet_starts_from p (map packets (range_with_len (a + 1) n))) next ∙ starts_are (a + 1) n)

  starts_of_first : (n : ℕ) → packet_starts_from 0 (first_packets packets n) ≡ map (starts packets) (range_with_len 0 n)
  unfolding joined_packets
  starts_of_first n = starts_are 0 n

-- the least place of which this is true
record Least (p : ℕ → Bool) (n : ℕ) : Type 0 where
  at : ℕ
  inside : at < n
  holds : p at ≡ true
  before : (j : ℕ) → j < at → p j ≡ false

search_least : (p : ℕ → Bool) (n : ℕ) → Least p n ⊎ ((j : ℕ) → j < n → p j ≡ false)
search_least p zero = inr (λ j h. absurd (omega arith))
search_least p (suc n) =
    elim (search_least p n) [
      | inl f ↦ inl (record { at = f.at; inside = omega (arith, f.inside); holds = f.holds; before = f.before })
      | inr none ↦ elim (cases_Bool (p n)) [
        | inl t ↦ inl (record { at = n; inside = omega arith; holds = t; before = none })
        | inr f ↦ inr (λ j h.
            elim (cases_lt j n) [
              | inl l ↦ none j l
              | inr l ↦ let e : j ≡ n = omega arith in ap p e ∙ f
            ])
      ]
    ]

find_least : (p : ℕ → Bool) (g : ℕ → ℕ) (a n k : ℕ) → a ≤ k → k < a + n → p (g k) ≡ true
    → ((j : ℕ) → a ≤ j → j < k → p (g j) ≡ false) → find p (map g (range_with_len a n)) ≡ Some (g k)
find_least p g a zero k l h holds before = absurd (omega arith)
find_least p g a (suc n) k l h holds before =
    let rest = find p (map g (range_with_len (a + 1) n)) in
    elim (cases_eq k a) [
      | inl same ↦
          ap (λ b. cond b (Some (g a)) rest) (ap (λ j. p (g j)) (sym same) ∙ holds) ∙ ap (λ j. Some (g j)) (sym same)
      | inr other ↦
          ap (λ b. cond b (Some (g a)) rest) (before a (omega arith) (omega (arith, other)))
          ∙ find_least p g (a + 1) n k (omega (arith, other)) (omega arith) holds (λ j m. before j (omega arith))
    ]

find_none : (p : ℕ → Bool) (g : ℕ → ℕ) (a n : ℕ) → ((j : ℕ) → a ≤ j → j < a + n → p (g j) ≡ false)
    → find p (map g (range_with_len a n)) ≡ None
find_none p g a zero none = refl
find_none p g a (suc n) none =
    ap (λ b. cond b (Some (g a)) (find p (map g (range_with_len (a + 1) n)))) (none a (omega arith) (omega arith))
    ∙ find_none p g (a + 1) n (λ j l h. none j (omega arith) (omega arith))

any_of : (p : ℕ → Bool) (a n k : ℕ) → a ≤ k → k < a + n → p k ≡ true → list_any p (range_with_len a n) ≡ true
any_of p a zero k l h e = absurd (omega arith)
any_of p a (suc n) k l h e =
    elim (cases_eq k a) [
      | inl same ↦ or_left (p a) (list_any p (range_with_len (a + 1) n)) (ap p (sym same) ∙ e)
      | inr other ↦ or_right (p a) (list_any p (range_with_len (a + 1) n))
          (any_of p (a + 1) n k (omega (arith, other)) (omega arith) e)
    ]

none_of : (p : ℕ → Bool) (a n : ℕ) → ((k : ℕ) → p k ≡ false) → list_any p (range_with_len a n) ≡ false
none_of p a zero none = refl
none_of p a (suc n) none =
    or_from (p a) (list_any p (range_with_len (a + 1) n)) (none a) (none_of p (a + 1) n none)

-- a place of a zone
in_zone : (t place : ℕ) → is_in_zone t place ≡ true
    → (ZONE_BYTES * t ≤ place) × (place < ZONE_BYTES * t + ZONE_BYTES)
in_zone t place h =
    let both = and_parts (leb (ZONE_BYTES * t) place) (ltb place (ZONE_BYTES * t + ZONE_BYTES)) h in
    (leb-true (ZONE_BYTES * t) place both.0, ltb-true place (ZONE_BYTES * t + ZONE_BYTES) both.1)

out_of_zone : (t place : ℕ) → is_in_zone t place ≡ false → ZONE_BYTES * t ≤ place
    → place < ZONE_BYTES * t + ZONE_BYTES → ⊥
out_of_zone t place out l h =
    true≢false (sym (and_from (leb (ZONE_BYTES * t) place) (ltb place (ZONE_BYTES * t + ZONE_BYTES))
    (le-leb (ZONE_BYTES * t) place l) (lt-ltb place (ZONE_BYTES * t + ZONE_BYTES) h)) ∙ out)

module _ (packets : ℕ → List ℕ) (some : HaveBytes packets) where
  -- whether a packet starts at a place of zone t
  abbrev starts_in : ℕ → ℕ → Bool
  starts_in t place = is_start packets (ZONE_BYTES * t + place)

  starts_there : (place k : ℕ) → starts packets k ≡ place → is_start packets place ≡ true
  unfolding is_start
  starts_there place k e =
      any_of (λ n. eqb (starts packets n) place) 0 (place + 1) k (omega arith)
      (omega (arith, e, length-joined-least packets some k)) (eq-eqb (starts packets k) place e)

  starts_nowhere : (place : ℕ) → ((k : ℕ) → starts packets k ≡ place → ⊥) → is_start packets place ≡ false
  unfolding is_start
  starts_nowhere place none =
      none_of (λ n. eqb (starts packets n) place) 0 (place + 1)
      (λ k. ne_eqb (starts packets k) place (none k))

  -- the first packets of a list that start in a zone
  abbrev found_in : ℕ → ℕ → Option ℕ
  found_in n t = find (is_in_zone t) (packet_starts_from 0 (first_packets packets n))

  pointers : (n t : ℕ) → ZONE_BYTES * (t + 1) ≤ starts packets n
      → sent_pointer_at (first_packets packets n) t ≡ pointer_at packets t
  unfolding sent_pointer_at pointer_at
  pointers n t enough =
      let sent : (found : Option ℕ) → find (is_in_zone t) (map (starts packets) (range_with_len 0 n)) ≡ found
      → unwrap_or (option_map (λ start. start - ZONE_BYTES * t) (found_in n t)) 2047
      ≡ unwrap_or (option_map (λ start. start - ZONE_BYTES * t) found) 2047 =
      λ found is. ap (λ l. unwrap_or (option_map (λ start. start - ZONE_BYTES * t) (find (is_in_zone t) l)) 2047)
      (starts_of_first packets some n)
      ∙ ap (λ f. unwrap_or (option_map (λ start. start - ZONE_BYTES * t) f) 2047) is in
      let places : (found : Option ℕ) → find (starts_in t) (map (λ p. p) (range_with_len 0 ZONE_BYTES)) ≡ found
      → unwrap_or (find (starts_in t) (range_with_len 0 ZONE_BYTES)) 2047 ≡ unwrap_or found 2047 =
      λ found is. ap (λ l. unwrap_or (find (starts_in t) l) 2047) (sym (map-id (range_with_len 0 ZONE_BYTES)))
      ∙ ap (λ f. unwrap_or f 2047) is in
      elim (search_least (λ k. is_in_zone t (starts packets k)) n) [
        | inl f ↦
            let zone = in_zone t (starts packets f.at) f.holds in
            let place = starts packets f.at - ZONE_BYTES * t in
            sent (Some (starts packets f.at))
            (find_least (is_in_zone t) (starts packets) 0 n f.at (omega arith) (omega (arith, f.inside)) f.holds
            (λ j l h. f.before j h))
            ∙ sym (places (Some place)
            (find_least (starts_in t) (λ p. p) 0 ZONE_BYTES place (omega arith) (omega (arith, zone.0, zone.1))
            (starts_there (ZONE_BYTES * t + place) f.at (omega (arith, zone.0)))
            (λ p l h. starts_nowhere (ZONE_BYTES * t + p) (λ k e.
            elim (cases_lt k f.at) [
              | inl less ↦ out_of_zone t (starts packets k) (f.before k less) (omega (arith, e))
                  (omega (arith, e, h, zone.1))
              | inr more ↦ omega (arith, e, h, zone.0, length-joined-le packets f.at k more)
            ]))))
        | inr none ↦
            sent None (find_none (is_in_zone t) (starts packets) 0 n (λ j l h. none j (omega arith)))
            ∙ sym (places None (find_none (starts_in t) (λ p. p) 0 ZONE_BYTES (λ p l h.
            starts_nowhere (ZONE_BYTES * t + p) (λ k e.
            elim (cases_lt k n) [
              | inl less ↦ out_of_zone t (starts packets k) (none k less) (omega (arith, e)) (omega (arith, e, h))
              | inr more ↦ omega (arith, e, h, enough, length-joined-le packets n k more)
            ]))))
      ]

pub zones_agree : ZonesAgree
zones_agree packets n t some enough =
    let fill : ZONE_BYTES * (t + 1) ≤ starts packets n = omega (arith, enough, ap length (concat_first packets n)) in
    (zones packets some n t fill, pointers packets some n t fill)
