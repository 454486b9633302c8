-- The packets of a file: they tell their lengths, fill their zones, and are received as the packets of its bodies.
use Rattle.std.proofs.Common.{◌≡◌, ℕ, zero, suc, ◌+◌, ◌*◌, ◌/◌, ◌%◌, ◌<◌, ◌≤◌, ◌⊎◌, cond, eqb, ltb, List, [], ◌∷◌}
use Rattle.std.proofs.Common.{◌++◌, map, length, get_or, refl, sym, ap, ap₂, ◌∙◌, subst, arith, append-nil}
use Rattle.std.proofs.Common.{length-append, eq-eqb, ne_eqb, lt-ltb, le-ltb, ltb-false, inl, inr}
use Rattle.std.specs.Prelude.{All, Result, Ok}
use Rattle.std.specs.Result.{result_ok}
use Rattle.std.specs.List.{AllByRecursion as Each, concat, cons_option, range_with_len}
use Rattle.std.proofs.lemmas.Bool.{cases_eq, cases_lt, cond_both}
use Rattle.std.proofs.lemmas.List.{get_or_append_left, get_or-append-add, map-append}
use Rattle.lr_bits.specs.File.{File, IsFile, bytes_of}
use Rattle.lr_bits.specs.declared.sizes.TheConstants.{SEQUENCE_COUNTS, ZONE_BYTES}
use Rattle.lr_bits.specs.Sizes.{most_body_bytes}
use Rattle.lr_packet.specs.declared.packet.PacketFault.{PacketFault}
use Rattle.lr_packet.specs.Verdict.{Good, good_packets, verdict_of}
use Rattle.lr_packet.proofs.VerdictLemmas.{good_packets-append}
use Rattle.lr_sent.specs.Carried.{TellsItsLength}
use Rattle.std.proofs.lemmas.List.Folds.{concat-append}
use Rattle.lr_sent.proofs.MadePackets.{length-packet, tells}
use Rattle.lr_vc.proofs.Lists.{Each-append, Each-map, Each-range}
use Rattle.lr_uplink.specs.Packets.{flags_at, body_packet, body_packets, idle_packet, bytes_left, idle_packets, filled}
use Rattle.lr_uplink.specs.Packets.{file_packets}
use Rattle.lr_uplink.specs.Received.{IsSendable}
use Rattle.lr_uplink.proofs.Verdicts.{is_good, length-idle, idle_tells, is_idle}
use Rattle.lr_uplink.proofs.Walking.{on}

-- ---- one of the bodies

-- what holds of all bytes holds of those of each body
each_body : (P : ℕ → Type 0) (bodies : List (List ℕ)) → All P (concat bodies) → (j : ℕ) → j < length bodies →
    All P (get_or bodies j [])
each_body P [] all j inside = absurd (omega arith)
each_body P (body ∷ bodies) all zero inside = λ k d low.
    let whole : k < length (body ++ concat bodies) = omega (arith, length-append body (concat bodies)) in
    subst P (get_or_append_left body (concat bodies) d k low) (all k d whole)
each_body P (body ∷ bodies) all (suc j) inside =
    each_body P bodies (λ k d low.
    let whole : length body + k < length (body ++ concat bodies) =
    omega (arith, length-append body (concat bodies)) in
    subst P (get_or-append-add body (concat bodies) k d) (all (length body + k) d whole)) j (omega arith)

flags_few : (n j : ℕ) → flags_at n j < 4
flags_few n j =
    cond_both (eqb n 1) _ _ (λ flags. flags < 4) (λ _. omega arith)
    (λ _. cond_both (eqb j 0) _ _ (λ flags. flags < 4) (λ _. omega arith)
    (λ _. cond_both (eqb (j + 1) n) _ _ (λ flags. flags < 4) (λ _. omega arith) (λ _. omega arith)))

-- ---- bodies

-- the good packet of body j
abbrev pub good_at : ℕ → ℕ → ℕ → List (List ℕ) → ℕ → Good
good_at vc apid count bodies j = record {
  vc = vc;
  apid = apid;
  flags = flags_at (length bodies) j;
  count = (count + j) % SEQUENCE_COUNTS;
  body = get_or bodies j [];
}

abbrev pub goods_of : ℕ → File → List Good
goods_of count file =
    map (good_at file.vc file.apid count file.bodies) (range_with_len 0 (length file.bodies))

module _ (file : File) (is : IsFile file) where
  short : (j : ℕ) → j < length file.bodies → length (get_or file.bodies j []) ≤ most_body_bytes
  short j inside = is.short j [] inside

  bodies_tell : (count : ℕ) → Each TellsItsLength (body_packets file.apid count file.bodies)
  unfolding body_packets
  bodies_tell count =
      Each-map TellsItsLength (body_packet file.apid count file.bodies) (range_with_len 0 (length file.bodies))
      (Each-range (λ j. TellsItsLength (body_packet file.apid count file.bodies j)) 0 (length file.bodies)
      (λ j low high. tells file.apid (flags_at (length file.bodies) j) ((count + j) % SEQUENCE_COUNTS)
      (get_or file.bodies j []) (short j (omega arith))))

  good_from : All (λ byte. byte < 256) (bytes_of file) → (count a n : ℕ) → a + n ≡ length file.bodies →
      good_packets (map (on file.vc) (map (body_packet file.apid count file.bodies) (range_with_len a n)))
      ≡ map (good_at file.vc file.apid count file.bodies) (range_with_len a n)
  good_from fit count a zero e = refl
  good_from fit count a (suc n) e =
      let inside : a < length file.bodies = omega arith in
      let one : verdict_of (on file.vc (body_packet file.apid count file.bodies a))
      ≡ Ok (good_at file.vc file.apid count file.bodies a) =
      is_good file.apid (flags_at (length file.bodies) a) ((count + a) % SEQUENCE_COUNTS) (get_or file.bodies a [])
      is.application (flags_few (length file.bodies) a) (omega arith) (short a inside)
      (each_body (λ byte. byte < 256) file.bodies fit a inside) file.vc in
      ap₂ (λ (r : Result Good PacketFault) (gs : List Good). cons_option (result_ok r) gs) one
      (good_from fit count (a + 1) n (omega arith))

-- ---- the idle packet

module _ (left : ℕ) (small : left < ZONE_BYTES) where
  abbrev size : ℕ
  size = cond (ltb left 7) (left + ZONE_BYTES) left

  sizes : (0 < left) → (7 ≤ size) × (size < 65543)
  sizes some =
      cond_both (ltb left 7) _ _ (λ n. (7 ≤ n) × (n < 65543)) (λ _. (omega arith, omega arith))
      (λ e. (omega (arith, ltb-false left 7 e), omega arith))

  idle_tell : Each TellsItsLength (idle_packets left)
  idle_tell = elim (cases_eq left 0) [
    | inl none ↦ subst (λ b. Each TellsItsLength (cond b [] (idle_packet size ∷ []))) (sym (eq-eqb left 0 none)) tt
    | inr some ↦
        let both = sizes (omega (arith, some)) in
        subst (λ b. Each TellsItsLength (cond b [] (idle_packet size ∷ []))) (sym (ne_eqb left 0 some))
        (idle_tells size both.0 both.1, tt)
  ]

  no_good : (vc : ℕ) → good_packets (map (on vc) (idle_packets left)) ≡ []
  no_good vc = elim (cases_eq left 0) [
    | inl none ↦ ap (λ b. good_packets (map (on vc) (cond b [] (idle_packet size ∷ [])))) (eq-eqb left 0 none)
    | inr some ↦
        let both = sizes (omega (arith, some)) in
        ap (λ b. good_packets (map (on vc) (cond b [] (idle_packet size ∷ [])))) (ne_eqb left 0 some)
        ∙ ap (λ (r : Result Good PacketFault). cons_option (result_ok r) []) (is_idle size both.0 both.1 vc)
  ]

  -- how many bytes it has: none, those that are left, or those and a zone
  idle_length : (length (concat (idle_packets left)) ≡ left) ⊎ (length (concat (idle_packets left)) ≡ left + ZONE_BYTES)
  idle_length = elim (cases_eq left 0) [
    | inl none ↦ inl (ap (λ b. length (concat (cond b [] (idle_packet size ∷ [])))) (eq-eqb left 0 none)
        ∙ sym none)
    | inr some ↦
        let both = sizes (omega (arith, some)) in
        let all : length (concat (idle_packets left)) ≡ size =
        ap (λ b. length (concat (cond b [] (idle_packet size ∷ [])))) (ne_eqb left 0 some)
        ∙ ap length (append-nil (idle_packet size)) ∙ length-idle size both.0 both.1 in
        elim (cases_lt left 7) [
          | inl few ↦ inr (all ∙ ap (λ b. cond b (left + ZONE_BYTES) left) (lt-ltb left 7 few))
          | inr enough ↦ inl (all ∙ ap (λ b. cond b (left + ZONE_BYTES) left) (le-ltb left 7 enough))
        ]
  ]

-- ---- all of them

module _ (packets : List (List ℕ)) where
  abbrev gap : ℕ
  gap = bytes_left (length (concat packets))

  gap_small : gap < ZONE_BYTES
  gap_small = omega arith

  filled_length : length (concat (filled packets)) ≡ length (concat packets) + length (concat (idle_packets gap))
  filled_length =
      ap length (concat-append packets (idle_packets gap))
      ∙ length-append (concat packets) (concat (idle_packets gap))

  pub fills : length (concat (filled packets)) ≡ ZONE_BYTES * (length (concat (filled packets)) / ZONE_BYTES)
  fills = elim (idle_length gap gap_small) [
    | inl one ↦ omega (arith, filled_length, one)
    | inr more ↦ omega (arith, filled_length, more)
  ]

-- the filling is short
pub filled_few : (packets : List (List ℕ)) → length (concat (filled packets)) ≤ length (concat packets) + 1768
filled_few packets = elim (idle_length (gap packets) (gap_small packets)) [
  | inl one ↦ omega (arith, filled_length packets, one, gap_small packets)
  | inr more ↦ omega (arith, filled_length packets, more, gap_small packets)
]

pub file_fills : (count : ℕ) (file : File) →
    length (concat (file_packets count file)) ≡ ZONE_BYTES * (length (concat (file_packets count file)) / ZONE_BYTES)
file_fills count file = fills (body_packets file.apid count file.bodies)

pub file_tells : (count : ℕ) (file : File) → IsFile file → Each TellsItsLength (file_packets count file)
file_tells count file is =
    let packets = body_packets file.apid count file.bodies in
    Each-append TellsItsLength packets (idle_packets (gap packets)) (bodies_tell file is count)
    (idle_tell (gap packets) (gap_small packets))

pub file_good : (count : ℕ) (file : File) → IsSendable file →
    good_packets (map (on file.vc) (file_packets count file)) ≡ goods_of count file
unfolding body_packets
file_good count file is =
    let packets = body_packets file.apid count file.bodies in
    ap good_packets (map-append (on file.vc) packets (idle_packets (gap packets)))
    ∙ good_packets-append (map (on file.vc) packets) (map (on file.vc) (idle_packets (gap packets)))
    ∙ ap₂ (λ (xs ys : List Good). xs ++ ys) (good_from file is.is is.bytes count 0 (length file.bodies) (omega arith))
    (no_good (gap packets) (gap_small packets) file.vc)
    ∙ append-nil (goods_of count file)

-- ---- how long they are, whatever the counts

bodies_length : (apid first second : ℕ) (bodies : List (List ℕ)) (a n : ℕ) →
    length (concat (map (body_packet apid first bodies) (range_with_len a n)))
    ≡ length (concat (map (body_packet apid second bodies) (range_with_len a n)))
bodies_length apid first second bodies a zero = refl
bodies_length apid first second bodies a (suc n) =
    let x = body_packet apid first bodies a in
    let y = body_packet apid second bodies a in
    let xs = concat (map (body_packet apid first bodies) (range_with_len (a + 1) n)) in
    let ys = concat (map (body_packet apid second bodies) (range_with_len (a + 1) n)) in
    omega (
      arith,
      length-append x xs,
      length-append y ys,
      bodies_length apid first second bodies (a + 1) n,
      length-packet apid (flags_at (length bodies) a) ((first + a) % SEQUENCE_COUNTS) (get_or bodies a []),
      length-packet apid (flags_at (length bodies) a) ((second + a) % SEQUENCE_COUNTS) (get_or bodies a []),
    )

pub file_length : (first second : ℕ) (file : File) →
    length (concat (file_packets first file)) ≡ length (concat (file_packets second file))
unfolding body_packets
file_length first second file =
    let xs = body_packets file.apid first file.bodies in
    let ys = body_packets file.apid second file.bodies in
    let same : length (concat xs) ≡ length (concat ys) =
    bodies_length file.apid first second file.bodies 0 (length file.bodies) in
    filled_length xs ∙ ap (λ n. n + length (concat (idle_packets (bytes_left n)))) same ∙ sym (filled_length ys)
