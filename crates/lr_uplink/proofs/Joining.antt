-- The good packets of a file are joined to that file, whatever came before.
use Rattle.std.proofs.Common.{◌≡◌, ℕ, zero, suc, ◌+◌, ◌%◌, ◌<◌, ◌≤◌, ◌&&◌, Bool, true, false, cond, eqb, leb, Option}
use Rattle.std.proofs.Common.{Some, None, List, [], ◌∷◌, ◌++◌, map, length, take, get_or, refl, sym, ap, ◌∙◌}
use Rattle.std.proofs.Common.{arith, append-nil, length-append, eq-eqb, ne_eqb, le-leb, add-one}
use Rattle.std.specs.Prelude.{find}
use Rattle.std.specs.Option.{option_map, option_to_list}
use Rattle.std.specs.List.{concat, range_with_len}
use Rattle.std.proofs.lemmas.Bool.{and_from}
use Rattle.std.proofs.lemmas.List.FromFn.{fill_by_all, map-range_with_len_more, length-map-range_with_len}
use Rattle.std.proofs.lemmas.List.FromFn.{take-map-range_with_len}
use Rattle.lr_bits.specs.File.{File, IsFile}
use Rattle.lr_bits.specs.declared.sizes.TheConstants.{SEQUENCE_COUNTS, TRANSPORT_HEADER_BYTES}
use Rattle.lr_bits.specs.Sizes.{most_file_bytes}
use Rattle.lr_packet.specs.Verdict.{Good}
use Rattle.lr_file.specs.Files.{packets_of_key, last_stretches, bodies_of, size_of, is_file, file_from, file_at}
use Rattle.lr_file.specs.Files.{files_after}
use Rattle.lr_file.specs.Standing.{is_open, open_from, last_count}
use Rattle.lr_file.specs.Steps.{is_next}
use Rattle.lr_file.proofs.Histories.{packets_of_key-own}
use Rattle.lr_file.proofs.OpenLemmas.{is_next-all}
use Rattle.lr_file.proofs.Stretches.{longer, find-end, is_open-end, is_file-end, is_open-one, is_file-one, size-end}
use Rattle.lr_file.proofs.Stretches.{length-bodies}
use Rattle.lr_uplink.specs.Packets.{flags_at}
use Rattle.lr_uplink.proofs.FilePackets.{good_at, goods_of}

-- the open stretch of a key
abbrev open_stretch : ℕ → ℕ → List Good → Option (List Good)
open_stretch vc apid packets = find is_open (last_stretches (packets_of_key vc apid packets))

-- one packet more
module _ (packets : List Good) (p : Good) where
  abbrev before : Option (List Good)
  before = open_stretch p.vc p.apid packets

  abbrev goes_on : List Good → Bool
  goes_on s = eqb p.flags 0 && is_next (open_from s) p

  abbrev ends : List Good → Bool
  ends s = (eqb p.flags 2 && is_next (open_from s) p) && leb 10 (size_of (s ++ p ∷ []))

  open_next : open_stretch p.vc p.apid (packets ++ p ∷ []) ≡ longer goes_on p (is_open (p ∷ [])) before
  open_next =
      ap (λ ps. find is_open (last_stretches ps)) (packets_of_key-own packets p)
      ∙ find-end is_open goes_on p (λ q qs. is_open-end q qs p) (packets_of_key p.vc p.apid packets)

  file_next : file_at packets p ≡ option_map (file_from p.vc p.apid) (longer ends p (is_file (p ∷ [])) before)
  unfolding file_at
  file_next =
      ap (λ ps. option_map (file_from p.vc p.apid) (find is_file (last_stretches ps))) (packets_of_key-own packets p)
      ∙ ap (option_map (file_from p.vc p.apid))
      (find-end is_file ends p (λ q qs. is_file-end q qs p) (packets_of_key p.vc p.apid packets))

  -- which flags it has
  other_flags : (k m : ℕ) → p.flags ≡ k → (k ≡ m → ⊥) → eqb p.flags m ≡ false
  other_flags k m e ne = ne_eqb p.flags m (λ h. ne (sym e ∙ h))

  not_alone : (k : ℕ) → p.flags ≡ k → (k ≡ 3 → ⊥) → is_file (p ∷ []) ≡ false
  not_alone k e ne =
      is_file-one p ∙ ap (λ b. (b && leb 10 (length p.body)) && leb (length p.body) most_file_bytes)
      (other_flags k 3 e ne)

  not_ending : (k : ℕ) → p.flags ≡ k → (k ≡ 2 → ⊥) → (s : List Good) → ends s ≡ false
  not_ending k e ne s =
      ap (λ b. (b && is_next (open_from s) p) && leb 10 (size_of (s ++ p ∷ []))) (other_flags k 2 e ne)

  not_going_on : (k : ℕ) → p.flags ≡ k → (k ≡ 0 → ⊥) → (s : List Good) → goes_on s ≡ false
  not_going_on k e ne s = ap (λ b. b && is_next (open_from s) p) (other_flags k 0 e ne)

  -- the packet alone, or nothing
  alone_or : (Q : List Good → Bool) → ((s : List Good) → Q s ≡ false) → (b : Bool) → (o : Option (List Good)) →
      longer Q p b o ≡ cond b (Some (p ∷ [])) None
  alone_or Q none b None = refl
  alone_or Q none b (Some s) = ap (λ q. cond q (Some (s ++ p ∷ [])) (cond b (Some (p ∷ [])) None)) (none s)

  -- no file ends with it
  no_file : (k : ℕ) → p.flags ≡ k → (k ≡ 2 → ⊥) → (k ≡ 3 → ⊥) → file_at packets p ≡ None
  no_file k e two three =
      file_next ∙ ap (option_map (file_from p.vc p.apid))
      (alone_or ends (not_ending k e two) (is_file (p ∷ [])) before
      ∙ ap (λ b. cond b (Some (p ∷ [])) None) (not_alone k e three))

  -- it is a file alone
  file_alone : p.flags ≡ 3 → TRANSPORT_HEADER_BYTES ≤ length p.body → length p.body ≤ most_file_bytes →
      file_at packets p ≡ Some (file_from p.vc p.apid (p ∷ []))
  file_alone e least most =
      let alone : is_file (p ∷ []) ≡ true =
      is_file-one p ∙ and_from (eqb p.flags 3 && leb 10 (length p.body)) (leb (length p.body) most_file_bytes)
      (and_from (eqb p.flags 3) (leb 10 (length p.body)) (eq-eqb p.flags 3 e) (le-leb 10 (length p.body) least))
      (le-leb (length p.body) most_file_bytes most) in
      file_next ∙ ap (option_map (file_from p.vc p.apid))
      (alone_or ends (not_ending 3 e (λ h. omega arith)) (is_file (p ∷ [])) before
      ∙ ap (λ b. cond b (Some (p ∷ [])) None) alone)

  -- it opens a file
  opens : p.flags ≡ 1 → length p.body ≤ most_file_bytes → open_stretch p.vc p.apid (packets ++ p ∷ []) ≡ Some (p ∷ [])
  opens e most =
      let alone : is_open (p ∷ []) ≡ true =
      is_open-one p ∙ and_from (eqb p.flags 1) (leb (length p.body) most_file_bytes) (eq-eqb p.flags 1 e)
      (le-leb (length p.body) most_file_bytes most) in
      open_next ∙ alone_or goes_on (not_going_on 1 e (λ h. omega arith)) (is_open (p ∷ [])) before
      ∙ ap (λ b. cond b (Some (p ∷ [])) None) alone

  -- it goes on with the open one
  more_open : (s : List Good) → before ≡ Some s → p.flags ≡ 0 → is_next (open_from s) p ≡ true →
      open_stretch p.vc p.apid (packets ++ p ∷ []) ≡ Some (s ++ p ∷ [])
  more_open s is e next =
      open_next ∙ ap (longer goes_on p (is_open (p ∷ []))) is
      ∙ ap (λ b. cond b (Some (s ++ p ∷ [])) (cond (is_open (p ∷ [])) (Some (p ∷ [])) None))
      (and_from (eqb p.flags 0) (is_next (open_from s) p) (eq-eqb p.flags 0 e) next)

  -- it ends the open one
  ends_file : (s : List Good) → before ≡ Some s → p.flags ≡ 2 → is_next (open_from s) p ≡ true →
      TRANSPORT_HEADER_BYTES ≤ size_of (s ++ p ∷ []) → file_at packets p ≡ Some (file_from p.vc p.apid (s ++ p ∷ []))
  ends_file s is e next least =
      file_next ∙ ap (λ o. option_map (file_from p.vc p.apid) (longer ends p (is_file (p ∷ [])) o)) is
      ∙ ap (λ b. option_map (file_from p.vc p.apid) (cond b (Some (s ++ p ∷ []))
      (cond (is_file (p ∷ [])) (Some (p ∷ [])) None)))
      (and_from (eqb p.flags 2 && is_next (open_from s) p) (leb 10 (size_of (s ++ p ∷ [])))
      (and_from (eqb p.flags 2) (is_next (open_from s) p) (eq-eqb p.flags 2 e) next)
      (le-leb 10 (size_of (s ++ p ∷ [])) least))

-- ---- lists

last_count-end : (s : List Good) (p : Good) → last_count (s ++ p ∷ []) ≡ p.count
last_count-end [] p = refl
last_count-end (q ∷ []) p = refl
last_count-end (q ∷ r ∷ qs) p = last_count-end (r ∷ qs) p

bodies-map : (g : ℕ → Good) (ks : List ℕ) → bodies_of (map g ks) ≡ map (λ k. (g k).body) ks
bodies-map g [] = refl
bodies-map g (k ∷ ks) = ap (λ bs. (g k).body ∷ bs) (bodies-map g ks)

front_shorter : (m : ℕ) (bodies : List (List ℕ)) → length (concat (take m bodies)) ≤ length (concat bodies)
front_shorter zero bodies = omega arith
front_shorter (suc m) [] = omega arith
front_shorter (suc m) (body ∷ bodies) =
    omega (
      arith,
      length-append body (concat (take m bodies)),
      length-append body (concat bodies),
      front_shorter m bodies,
    )

body_shorter : (j : ℕ) (bodies : List (List ℕ)) → length (get_or bodies j []) ≤ length (concat bodies)
body_shorter j [] = omega arith
body_shorter zero (body ∷ bodies) = omega (arith, length-append body (concat bodies))
body_shorter (suc j) (body ∷ bodies) = omega (arith, length-append body (concat bodies), body_shorter j bodies)

-- ---- the packets of a file

module _ (count : ℕ) (file : File) (is : IsFile file) where
  abbrev n : ℕ
  n = length file.bodies

  abbrev g : ℕ → Good
  g = good_at file.vc file.apid count file.bodies

  abbrev first : ℕ → List Good
  first j = map g (range_with_len 0 j)

  first_more : (j : ℕ) → first j ++ g j ∷ [] ≡ first (suc j)
  first_more j =
      sym (map-range_with_len_more g 0 j j (omega arith)) ∙ ap first (add-one j)

  all_bodies : file.bodies ≡ map (λ k. get_or file.bodies k []) (range_with_len 0 n)
  all_bodies = fill_by_all (λ k. get_or file.bodies k []) file.bodies n [] refl (λ k h. refl)

  bodies_first : (j : ℕ) → j ≤ n → bodies_of (first j) ≡ take j file.bodies
  bodies_first j h =
      bodies-map g (range_with_len 0 j) ∙ sym (take-map-range_with_len (λ k. get_or file.bodies k []) 0 n j h)
      ∙ ap (take j) (sym all_bodies)

  bodies_all : bodies_of (first n) ≡ file.bodies
  bodies_all = bodies-map g (range_with_len 0 n) ∙ sym all_bodies

  size_first : (j : ℕ) → j ≤ n → size_of (first j) ≤ most_file_bytes
  size_first j h =
      omega (arith, ap (λ bs. length (concat bs)) (bodies_first j h), front_shorter j file.bodies, is.most)

  size_all : TRANSPORT_HEADER_BYTES ≤ size_of (first n)
  size_all = omega (arith, ap (λ bs. length (concat bs)) bodies_all, is.least)

  whole : file_from file.vc file.apid (first n) ≡ file
  whole = ap (λ bs. record { vc = file.vc; apid = file.apid; bodies = bs }) bodies_all

  -- packet i + 1 follows
  follows : (i : ℕ) → suc i < n → is_next (open_from (first (suc i))) (g (suc i)) ≡ true
  follows i inside =
      let s = first (suc i) in
      let last : last_count s ≡ (count + i) % SEQUENCE_COUNTS =
      ap last_count (sym (first_more i)) ∙ last_count-end (first i) (g i) in
      let few : length (map length (bodies_of s)) ≡ suc i =
      length-bodies s ∙ length-map-range_with_len g 0 (suc i) in
      let room : size_of s + length (g (suc i)).body ≤ most_file_bytes =
      omega (
        arith,
        size-end s (g (suc i)),
        ap size_of (first_more (suc i)),
        size_first (suc (suc i)) (omega arith),
      ) in
      sym (is_next-all (open_from s) (g (suc i)) (omega (arith, last)) (omega (arith, few, is.few)))
      ∙ le-leb (size_of s + length (g (suc i)).body) most_file_bytes room

  -- flags
  several : (j : ℕ) → (n ≡ 1 → ⊥) → flags_at n j ≡ cond (eqb j 0) 1 (cond (eqb (j + 1) n) 2 0)
  several j ne = ap (λ b. cond b 3 (cond (eqb j 0) 1 (cond (eqb (j + 1) n) 2 0))) (ne_eqb n 1 ne)

  later_flags : (i : ℕ) → (n ≡ 1 → ⊥) → flags_at n (suc i) ≡ cond (eqb (suc i + 1) n) 2 0
  later_flags i ne =
      several (suc i) ne ∙ ap (λ b. cond b 1 (cond (eqb (suc i + 1) n) 2 0)) (ne_eqb (suc i) 0 (λ e. omega arith))

  rest_joined : (m i : ℕ) (earlier : List Good) → suc i + suc m ≡ n → (n ≡ 1 → ⊥) →
      open_stretch file.vc file.apid earlier ≡ Some (first (suc i)) →
      files_after earlier (map g (range_with_len (suc i) (suc m))) ≡ file ∷ []
  rest_joined zero i earlier e ne is_open_now =
      let p = g (suc i) in
      let last : p.flags ≡ 2 =
      later_flags i ne ∙ ap (λ b. cond b 2 0) (eq-eqb (suc i + 1) n (omega arith)) in
      let last_place : suc (suc i) ≡ n = omega arith in
      let all : first (suc i) ++ p ∷ [] ≡ first n = first_more (suc i) ∙ ap first last_place in
      let found : file_at earlier p ≡ Some file =
      ends_file earlier p (first (suc i)) is_open_now last (follows i (omega arith))
      (omega (arith, ap size_of all, size_all))
      ∙ ap (λ s. Some (file_from file.vc file.apid s)) all ∙ ap Some whole in
      ap (λ o. option_to_list o ++ []) found
  rest_joined (suc m) i earlier e ne is_open_now =
      let p = g (suc i) in
      let between : p.flags ≡ 0 =
      later_flags i ne ∙ ap (λ b. cond b 2 0) (ne_eqb (suc i + 1) n (λ h. omega (arith, h))) in
      let none : file_at earlier p ≡ None = no_file earlier p 0 between (λ h. omega arith) (λ h. omega arith) in
      let more : open_stretch file.vc file.apid (earlier ++ p ∷ []) ≡ Some (first (suc (suc i))) =
      more_open earlier p (first (suc i)) is_open_now between (follows i (omega arith)) ∙ ap Some (first_more (suc
      i)) in
      let next : range_with_len (suc i + 1) (suc m) ≡ range_with_len (suc (suc i)) (suc m) =
      ap (λ a. range_with_len a (suc m)) (add-one (suc i)) in
      ap (λ o. option_to_list o ++ files_after (earlier ++ p ∷ []) (map g (range_with_len (suc i + 1) (suc m)))) none
      ∙ ap (λ ks. files_after (earlier ++ p ∷ []) (map g ks)) next
      ∙ rest_joined m (suc i) (earlier ++ p ∷ []) (omega arith) ne more

  joined_by : (m : ℕ) (earlier : List Good) → n ≡ m → files_after earlier (map g (range_with_len 0 m)) ≡ file ∷ []
  joined_by zero earlier e = absurd (omega (arith, is.some))
  joined_by (suc zero) earlier e =
      let p = g 0 in
      let single : p.flags ≡ 3 =
      ap (λ b. cond b 3 (cond (eqb 0 0) 1 (cond (eqb (0 + 1) n) 2 0))) (eq-eqb n 1 e) in
      let all : p ∷ [] ≡ first n = ap first (sym e) in
      let size : size_of (p ∷ []) ≡ length p.body = ap length (append-nil p.body) in
      let least : TRANSPORT_HEADER_BYTES ≤ length p.body = omega (arith, size, ap size_of all, size_all) in
      let most : length p.body ≤ most_file_bytes = omega (arith, body_shorter 0 file.bodies, is.most) in
      ap (λ o. option_to_list o ++ []) (file_alone earlier p single least most
      ∙ ap (λ s. Some (file_from file.vc file.apid s)) all ∙ ap Some whole)
  joined_by (suc (suc m)) earlier e =
      let p = g 0 in
      let ne : (n ≡ 1 → ⊥) = λ h. omega (arith, h) in
      let begins : p.flags ≡ 1 = several 0 ne in
      let most : length p.body ≤ most_file_bytes = omega (arith, body_shorter 0 file.bodies, is.most) in
      let none : file_at earlier p ≡ None = no_file earlier p 1 begins (λ h. omega arith) (λ h. omega arith) in
      let open_now : open_stretch file.vc file.apid (earlier ++ p ∷ []) ≡ Some (first 1) = opens earlier p begins
      most in
      ap (λ o. option_to_list o ++ files_after (earlier ++ p ∷ []) (map g (range_with_len (0 + 1) (suc m)))) none
      ∙ rest_joined m 0 (earlier ++ p ∷ []) (omega arith) ne open_now

  pub file_joined : (earlier : List Good) → files_after earlier (goods_of count file) ≡ file ∷ []
  file_joined earlier = joined_by n earlier refl
