-- Each file has a body and ten bytes, and the files fit their packets.
use Rattle.std.proofs.Common.{◌≡◌, ℕ, ◌+◌, ◌*◌, ◌≤◌, Bool, true, false, cond, eqb, leb, ◌&&◌, Option, Some, None, List}
use Rattle.std.proofs.Common.{sym, eqb-true, [], ◌∷◌, ◌++◌, length, filter, refl, ap, ◌∙◌, subst, arith, length-append}
use Rattle.std.specs.Prelude.{find, All}
use Rattle.std.specs.List.{concat, sum_by}
use Rattle.std.specs.Option.{option_map, option_to_list}
use Rattle.std.proofs.lemmas.Bool.{cond_both, leb-true}
use Rattle.std.proofs.lemmas.Bool.Decides.{nat_tests}
use Rattle.std.proofs.lemmas.List.Elements.{All-nil, All-cons, All-append, filter-append}
use Rattle.std.proofs.lemmas.List.Sums.{sum_by-cons, sum_by-append, sum_by_push}
use Rattle.lr_bits.specs.File.{File, bytes_of}
use Rattle.lr_bits.specs.declared.sizes.TheConstants.{TRANSPORT_HEADER_BYTES}
use Rattle.lr_bits.proofs.ByKeys.{sums_by_key}
use Rattle.lr_packet.specs.Verdict.{Good}
use Rattle.lr_file.specs.Files.{packets_of_key, last_stretches, bodies_of, size_of, is_file, file_from, file_at}
use Rattle.lr_file.specs.Files.{files_after, files_of_packets, flags_of_file}
use Rattle.std.specs.Str.{bytes_eq}
use Rattle.lr_file.proofs.FileLaws.{end_with_two, several_flags}
use Rattle.lr_file.specs.Laws.{Weights, packet_weight, file_weight}
use Rattle.lr_file.specs.Standing.{is_open, open_from}
use Rattle.lr_file.specs.Steps.{is_next}
use Rattle.lr_file.proofs.Stretches.{longer, find-end, is_open-end, is_file-end, is_open-one, is_file-one, and_left}
use Rattle.lr_file.proofs.Stretches.{and_right, flags}
use Rattle.lr_file.proofs.Histories.{packets_of_key-own, packets_of_key-other}
use Rattle.lr_file.proofs.KeyLemmas.{same_key}

-- a file has a body, and ten bytes
abbrev IsFilled : File → Type 0
IsFilled file = (1 ≤ length file.bodies) × (TRANSPORT_HEADER_BYTES ≤ length (bytes_of file))

some_bodies : (bodies : List (List ℕ)) → TRANSPORT_HEADER_BYTES ≤ length (concat bodies) → 1 ≤ length bodies
some_bodies [] ten = absurd (omega arith)
some_bodies (body ∷ bodies) ten = omega arith

some_from : (vc apid : ℕ) (stretch : List Good) → is_file stretch ≡ true → IsFilled (file_from vc apid stretch)
unfolding is_file
some_from vc apid stretch is =
    let ten = leb-true 10 (size_of stretch) (and_right _ _ (and_left _ _ is)) in
    (some_bodies (bodies_of stretch) ten, ten)

some_turn : (vc apid : ℕ) (stretch : List Good) (stretches : List (List Good)) (is : Bool) → is_file stretch ≡ is →
    All IsFilled (option_to_list (option_map (file_from vc apid) (find is_file stretches))) →
    All IsFilled (option_to_list (option_map (file_from vc apid) (find is_file (stretch ∷ stretches))))
some_turn vc apid stretch stretches true is rest =
    rw is (All-cons IsFilled (file_from vc apid stretch) [] (some_from vc apid stretch is) (All-nil IsFilled))
some_turn vc apid stretch stretches false is rest = rw is rest

some_found : (vc apid : ℕ) (stretches : List (List Good)) →
    All IsFilled (option_to_list (option_map (file_from vc apid) (find is_file stretches)))
some_found vc apid [] = All-nil IsFilled
some_found vc apid (stretch ∷ stretches) =
    some_turn vc apid stretch stretches (is_file stretch) refl (some_found vc apid stretches)

some_behind : (before packets : List Good) → All IsFilled (files_after before packets)
unfolding file_at
some_behind before [] = All-nil IsFilled
some_behind before (p ∷ ps) =
    All-append IsFilled (option_to_list (file_at before p)) (files_after (before ++ p ∷ []) ps)
    (some_found p.vc p.apid (last_stretches (packets_of_key p.vc p.apid (before ++ p ∷ []))))
    (some_behind (before ++ p ∷ []) ps)

-- each file has a body, and ten bytes
pub files_some : (packets : List Good) → All IsFilled (files_of_packets packets)
unfolding files_of_packets
files_some packets = some_behind [] packets

-- a file is not found but where the test holds
found_turn : (Q : List Good → Bool) (stretch s : List Good) (stretches : List (List Good)) (is : Bool) →
    Q stretch ≡ is → (find Q stretches ≡ Some s → Q s ≡ true) → find Q (stretch ∷ stretches) ≡ Some s → Q s ≡ true
found_turn Q stretch s stretches true is rest e =
    let same : stretch ≡ s = let h : Some stretch ≡ Some s = rw is at e in cc in
    ap Q (sym same) ∙ is
found_turn Q stretch s stretches false is rest e = rest (rw is at e)

found : (Q : List Good → Bool) (s : List Good) (stretches : List (List Good)) → find Q stretches ≡ Some s → Q s ≡ true
found Q s [] e = cc
found Q s (stretch ∷ stretches) e = found_turn Q stretch s stretches (Q stretch) refl (found Q s stretches) e

longer_none : (Q : List Good → Bool) (p : Good) (alone : Bool) (o : Option (List Good)) →
    ((s : List Good) → Q s ≡ false) → alone ≡ false →
    longer Q p alone o ≡ None
longer_none Q p alone None none e = rw e refl
longer_none Q p alone (Some s) none e = rw (none s, e) refl

-- a packet ends an open file
abbrev ends : Good → List Good → Bool
ends p s = (eqb p.flags 2 && is_next (open_from s) p) && leb 10 (size_of (s ++ p ∷ []))

-- an open file goes on with a packet
abbrev goes_on : Good → List Good → Bool
goes_on p s = eqb p.flags 0 && is_next (open_from s) p

-- channels and applications
abbrev same : ℕ × ℕ → ℕ × ℕ → Bool
same k l = eqb k.0 l.0 && eqb k.1 l.1

same_self : (k : ℕ × ℕ) → same k k ≡ true
same_self k = grind (arith, nat_tests)

same_is : (k l : ℕ × ℕ) → same k l ≡ true → k ≡ l
same_is k l h = let both = same_key k.0 l.0 k.1 l.1 h in λ i. (both.0 i, both.1 i)

sum_by-filter-append : {X : Type 0} (f : X → ℕ) (test : X → Bool) (xs ys : List X) →
    sum_by f (filter test (xs ++ ys)) ≡ sum_by f (filter test xs) + sum_by f (filter test ys)
sum_by-filter-append f test xs ys =
    ap (sum_by f) (filter-append test xs ys) ∙ sum_by-append f (filter test xs) (filter test ys)

-- the flags of a stretch are those of a file
abbrev is_file_flags : List Good → Bool
is_file_flags stretch = bytes_eq (flags stretch) (flags_of_file (length stretch))

module _ (weights : Weights) where
  abbrev weigh : Good → ℕ
  weigh packet = packet_weight weights packet

  -- the weight of a stretch, if there is one
  abbrev weigh_some : Option (List Good) → ℕ
  weigh_some None = 0
  weigh_some (Some stretch) = sum_by weigh stretch

  -- the weight of a packet with these flags
  weigh_by_flags : (p : Good) (flags : ℕ) → p.flags ≡ flags →
      weigh p ≡ weigh (record { vc = p.vc; apid = p.apid; flags = flags; count = p.count; body = p.body })
  weigh_by_flags p flags e =
      ap (λ one. weigh (record { vc = p.vc; apid = p.apid; flags = one; count = p.count; body = p.body })) e

  -- the end of a file of several packets: the flags 0, any number of times, and then 2
  weigh_end : (r : Good) (rs : List Good) → end_with_two r rs ≡ true →
      weights.last + weights.each * length (bodies_of (r ∷ rs)) + size_of (r ∷ rs) ≡ sum_by weigh (r ∷ rs)
  weigh_end r [] is =
      let two = weigh_by_flags r 2 (eqb-true r.flags 2 (and_left (eqb r.flags 2) true is)) in
      omega (arith, two, sum_by-cons weigh r [], length-append r.body [])
  weigh_end r (s ∷ ss) is =
      let zero = weigh_by_flags r 0 (eqb-true r.flags 0 (and_left (eqb r.flags 0) (end_with_two s ss) is)) in
      omega (
        arith,
        zero,
        weigh_end s ss (and_right (eqb r.flags 0) (end_with_two s ss) is),
        sum_by-cons weigh r (s ∷ ss),
        length-append r.body (concat (bodies_of (s ∷ ss))),
      )

  weigh_file-of : (vc apid : ℕ) (stretch : List Good) → is_file_flags stretch ≡ true
      → TRANSPORT_HEADER_BYTES ≤ size_of stretch →
      file_weight weights (file_from vc apid stretch) ≡ sum_by weigh stretch
  weigh_file-of vc apid [] is ten = absurd (omega arith)
  weigh_file-of vc apid (p ∷ []) is ten =
      let three = weigh_by_flags p 3 (eqb-true p.flags 3 (and_left (eqb p.flags 3) true is)) in
      omega (arith, three, sum_by-cons weigh p [], length-append p.body [])
  weigh_file-of vc apid (p ∷ r ∷ rs) is ten =
      let both : (eqb p.flags 1 && end_with_two r rs) ≡ true = sym (several_flags p r rs) ∙ is in
      let one = weigh_by_flags p 1 (eqb-true p.flags 1 (and_left (eqb p.flags 1) (end_with_two r rs) both)) in
      omega (
        arith,
        one,
        weigh_end r rs (and_right (eqb p.flags 1) (end_with_two r rs) both),
        sum_by-cons weigh p (r ∷ rs),
        length-append p.body (concat (bodies_of (r ∷ rs))),
      )

  -- a file weighs what its packets do
  weigh_file-from : (vc apid : ℕ) (stretch : List Good) → is_file stretch ≡ true →
      file_weight weights (file_from vc apid stretch) ≡ sum_by weigh stretch
  unfolding is_file
  weigh_file-from vc apid stretch is =
      weigh_file-of vc apid stretch (and_left _ _ (and_left _ _ (and_left _ _ (and_left _ _ is))))
      (leb-true 10 (size_of stretch) (and_right _ _ (and_left _ _ is)))

  weigh_alone : (p : Good) (alone : Bool) (more : ℕ) → weigh_some (cond alone (Some (p ∷ [])) None) ≤ more + weigh p
  weigh_alone p true more = omega arith
  weigh_alone p false more = omega arith

  -- a stretch with one packet more, or the packet alone, has at most the weights of both
  weigh_longer : (Q : List Good → Bool) (p : Good) (alone : Bool) (o : Option (List Good)) →
      weigh_some (longer Q p alone o) ≤ weigh_some o + weigh p
  weigh_longer Q p alone None = weigh_alone p alone 0
  weigh_longer Q p alone (Some s) =
      cond_both (Q s) (Some (s ++ p ∷ [])) (cond alone (Some (p ∷ [])) None)
      (λ o. weigh_some o ≤ sum_by weigh s + weigh p)
      (λ e. omega (arith, sum_by_push weigh s p)) (λ e. weigh_alone p alone (sum_by weigh s))

  -- of the file that ends with a packet and the one that is open after it at most one is there
  weigh_both : (p : Good) (late : Bool) → leb 2 p.flags ≡ late → (o : Option (List Good)) →
      weigh_some (longer (ends p) p (is_file (p ∷ [])) o) + weigh_some
      (longer (goes_on p) p (is_open (p ∷ [])) o) ≤ weigh_some o + weigh p
  weigh_both p true e o =
      let zero : eqb p.flags 0 ≡ false = grind (arith, nat_tests) in
      let one : eqb p.flags 1 ≡ false = grind (arith, nat_tests) in
      rw (longer_none (goes_on p) p (is_open (p ∷ [])) o (λ s. rw zero refl) (rw (is_open-one p, one) refl))
      (omega (arith, weigh_longer (ends p) p (is_file (p ∷ [])) o))
  weigh_both p false e o =
      let two : eqb p.flags 2 ≡ false = grind (arith, nat_tests) in
      let three : eqb p.flags 3 ≡ false = grind (arith, nat_tests) in
      rw (longer_none (ends p) p (is_file (p ∷ [])) o (λ s. rw two refl) (rw (is_file-one p, three) refl))
      (omega (arith, weigh_longer (goes_on p) p (is_open (p ∷ [])) o))

  -- the weights of the open file, the files and the packets of a key
  abbrev weigh_open : ℕ × ℕ → List Good → ℕ
  weigh_open k packets = weigh_some (find is_open (last_stretches (packets_of_key k.0 k.1 packets)))

  abbrev weigh_files : ℕ × ℕ → List File → ℕ
  weigh_files k files = sum_by (file_weight weights) (filter (λ file. same (file.vc, file.apid) k) files)

  abbrev weigh_packets : ℕ × ℕ → List Good → ℕ
  weigh_packets k packets = sum_by weigh (packets_of_key k.0 k.1 packets)

  weigh_files-one : (k l : ℕ × ℕ) (own : Bool) → same k l ≡ own → (o : Option (List Good)) →
      ((s : List Good) → o ≡ Some s → is_file s ≡ true) →
      weigh_files l (option_to_list (option_map (file_from k.0 k.1) o)) ≡ cond own (weigh_some o) 0
  weigh_files-one k l true e None is = refl
  weigh_files-one k l false e None is = refl
  weigh_files-one k l true e (Some s) is = rw e (omega (arith, weigh_file-from k.0 k.1 s (is s refl)))
  weigh_files-one k l false e (Some s) is = rw e refl

  -- the file and the open file that one packet more makes weigh at most what was open and the packet
  abbrev Fits : List Good → Good → ℕ × ℕ → Type 0
  Fits before p k =
      weigh_files k (option_to_list (file_at before p)) + weigh_open k (before ++ p ∷ []) ≤ weigh_open k before
      + weigh_packets k (p ∷ [])

  fits_own : (before : List Good) (p : Good) → Fits before p (p.vc, p.apid)
  unfolding file_at
  fits_own before p =
      let own = packets_of_key p.vc p.apid before in
      let is = same_self (p.vc, p.apid) in
      let more = packets_of_key-own before p in
      let completed_file =
      ap (λ ps. find is_file (last_stretches ps)) more
      ∙ find-end is_file (ends p) p (λ q qs. is_file-end q qs p) own in
      let file_begun_by =
      ap (λ ps. find is_open (last_stretches ps)) more
      ∙ find-end is_open (goes_on p) p (λ q qs. is_open-end q qs p) own in
      let one : weigh_packets (p.vc, p.apid) (p ∷ []) ≡ weigh p = rw is (omega arith) in
      omega (
        arith,
        one,
        ap weigh_some completed_file,
        ap weigh_some file_begun_by,
        weigh_both p (leb 2 p.flags) refl (find is_open (last_stretches own)),
        weigh_files-one (p.vc, p.apid) (p.vc, p.apid) true is
            (find is_file (last_stretches (packets_of_key p.vc p.apid (before ++ p ∷ []))))
            (λ s. found is_file s (last_stretches (packets_of_key p.vc p.apid (before ++ p ∷ [])))),
      )

  fits_one : (before : List Good) (p : Good) (k : ℕ × ℕ) (own : Bool) → same (p.vc, p.apid) k ≡ own → Fits before p k
  unfolding file_at
  fits_one before p k true e = subst (Fits before p) (same_is (p.vc, p.apid) k e) (fits_own before p)
  fits_one before p k false e =
      rw (e, packets_of_key-other k.0 k.1 before p e)
      (omega (
        arith,
        weigh_files-one (p.vc, p.apid) k false e
            (find is_file (last_stretches (packets_of_key p.vc p.apid (before ++ p ∷ []))))
            (λ s. found is_file s (last_stretches (packets_of_key p.vc p.apid (before ++ p ∷ [])))),
      ))

  -- the files of a key after these packets fit what was open and the packets of the key
  fits_behind : (k : ℕ × ℕ) (before packets : List Good) →
      weigh_files k (files_after before packets) ≤ weigh_open k before + weigh_packets k packets
  fits_behind k before [] = omega arith
  fits_behind k before (p ∷ ps) =
      omega (
        arith,
        sum_by-filter-append (file_weight weights) (λ file. same (file.vc, file.apid) k)
            (option_to_list (file_at before p))
            (files_after (before ++ p ∷ []) ps),
        sum_by-filter-append weigh (λ q. same (q.vc, q.apid) k) (p ∷ []) ps,
        fits_one before p k (same (p.vc, p.apid) k) refl,
        fits_behind k (before ++ p ∷ []) ps,
      )

  -- the files fit their packets
  pub files_fit : (packets : List Good) → sum_by (file_weight weights) (files_of_packets packets) ≤ sum_by weigh packets
  unfolding files_of_packets
  files_fit packets =
      sums_by_key same same_is same_self (λ file. (file.vc, file.apid)) (λ p. (p.vc, p.apid))
      (file_weight weights) weigh
      (files_of_packets packets) packets
      (λ k. let fits = fits_behind k [] packets in omega arith)
