-- At most one file ends with the fillers of a gap.
use Rattle.std.proofs.Common.{◌≡◌, ℕ, zero, suc, ◌≤◌, Bool, true, false, cond, eqb, leb, ◌&&◌, Option, Some, None, List}
use Rattle.std.proofs.Common.{[], ◌∷◌, ◌++◌, length, map, refl, sym, ap, ◌∙◌, arith, eqb-true, take, ◌-◌}
use Rattle.std.specs.Prelude.{find, option_and_then, option_to_list}
use Rattle.std.specs.Option.{option_map}
use Rattle.std.proofs.lemmas.Bool.Decides.{nat_tests}
use Rattle.lr_mend.specs.declared.marks.MarkedFile.{MarkedFile}
use Rattle.lr_packet.specs.Verdict.{Good}
use Rattle.lr_file.specs.Files.{packets_of_key, last_stretches, size_of, is_file, file_from, file_at}
use Rattle.lr_file.specs.Standing.{open_from}
use Rattle.lr_file.specs.Steps.{is_next}
use Rattle.lr_file.proofs.Stretches.{longer, is_file-one, and_right}
use Rattle.lr_file.proofs.Histories.{packets_of_key-own}
use Rattle.lr_mend.specs.Laws.{packet_mended}
use Rattle.lr_mend.specs.Marks.{marked}
use Rattle.lr_mend.specs.MendedFiles.{files_of_gap, mended_file, mended_files_after}
use Rattle.lr_mend.specs.Mending.{Filling, Image, Mended, count_after, filler_of, fillers_before, fillers_from}
use Rattle.lr_mend.specs.Mending.{filling_before, gap_before, gap_of, mended_packets, open_image}
use Rattle.lr_mend.specs.Seams.{seams_of}
use Rattle.lr_mend.proofs.StayingFiles.{ends, file_stretch-end, open_stretch}

none_of : (Q : List Good → Bool) (p : Good) (alone : Bool) (o : Option (List Good)) → alone ≡ false →
    ((s : List Good) → Q s ≡ false) → longer Q p alone o ≡ None
none_of Q p alone None single never = rw single refl
none_of Q p alone (Some s) single never = rw (never s, single) refl

-- no file ends with a packet between
none_between : (ps : List Good) (p : Good) → p.flags ≡ 0 → file_at ps p ≡ None
unfolding file_at
none_between ps p between =
    let before = packets_of_key p.vc p.apid ps in
    let not_three : eqb p.flags 3 ≡ false = grind (arith, nat_tests, between) in
    let not_two : eqb p.flags 2 ≡ false = grind (arith, nat_tests, between) in
    let single : is_file (p ∷ []) ≡ false =
    is_file-one p ∙ ap (λ (b : Bool). (b && leb 10 (length p.body)) && leb (length p.body)
    Rattle.lr_bits.specs.Sizes.most_file_bytes) not_three in
    ap (λ qs. option_map (file_from p.vc p.apid) (find is_file (last_stretches qs))) (packets_of_key-own ps p)
    ∙ ap (option_map (file_from p.vc p.apid)) (file_stretch-end before p
    ∙ none_of (ends p) p (is_file (p ∷ [])) (open_stretch before) single
    (λ s. ap (λ (b : Bool). (b && is_next (open_from s) p) && leb 10 (size_of (s ++ p ∷ []))) not_two))

none_mended : (before : List Mended) (m : Mended) → m.packet.flags ≡ 0 → mended_file before m ≡ None
none_mended before m between =
    ap (option_and_then (λ file. marked file (seams_of m.packet.vc m.packet.apid (before ++ m ∷ [])).fillers))
    (none_between (map packet_mended before) m.packet between)

one_of : (o : Option MarkedFile) → length (option_to_list o ++ []) ≤ 1
one_of None = omega arith
one_of (Some file) = omega arith

later : (filling : Filling) (n count : ℕ) (before : List Mended) (last : Bool) → (filling.ends && eqb n 0) ≡ last →
    (m : Mended) → m.packet.flags ≡ cond last 2 0 →
    ((ms : List Mended) → length (mended_files_after ms (map filler_of (fillers_from filling n count))) ≤ 1) →
    length (option_to_list (mended_file before m)
    ++ mended_files_after (before ++ m ∷ []) (map filler_of (fillers_from filling n count))) ≤ 1
unfolding fillers_from
later filling zero count before true is m flags rest = one_of (mended_file before m)
later filling (suc n) count before true is m flags rest =
    let never : eqb (suc n) 0 ≡ true = and_right filling.ends (eqb (suc n) 0) is in
    let none : suc n ≡ 0 = eqb-true (suc n) 0 never in
    absurd (omega (arith, none))
later filling n count before false is m flags rest =
    let none = none_mended before m flags in
    rw none (rest (before ++ m ∷ []))

one_after : (filling : Filling) (n count : ℕ) (before : List Mended) →
    length (mended_files_after before (map filler_of (fillers_from filling n count))) ≤ 1
unfolding fillers_from
one_after filling zero count before = omega arith
one_after filling (suc n) count before =
    let first : Good = record {
      vc = filling.vc;
      apid = filling.apid;
      flags = cond (filling.ends && eqb n 0) 2 0;
      count = count;
      body = filling.body;
    } in
    later filling n (count_after count) before (filling.ends && eqb n 0) refl (filler_of first) refl
    (λ ms. one_after filling n (count_after count) ms)

one_in : (most : ℕ) (o : Option Image) (p : Good) (before : List Mended) →
    length (mended_files_after before (map filler_of (gap_of most o p))) ≤ 1
unfolding gap_of
one_in most None p before = omega arith
one_in most (Some image) p before =
    one_after (filling_before image p) (fillers_before most image p) (count_after image.count) before

pub one_file : (most : ℕ) (packets : List Good) (p : Good) → length (files_of_gap most packets p) ≤ 1
unfolding files_of_gap gap_before
one_file most packets p = one_in most (open_image most p.vc p.apid packets) p (mended_packets most packets)

-- the last one of at most one is all of them
pub popped : {T : Type 0} (all rest : List T) (last : Option T) → length all ≤ 1 → all ≡ rest ++ option_to_list last →
    rest ≡ take (length all - 1) all → option_to_list last ≡ all
popped {T} all rest last few split front =
    let short : length all - 1 ≡ 0 = omega (arith, few) in
    let none : rest ≡ [] = front ∙ ap (λ n. take n all) short in
    sym (split ∙ ap (λ (l : List T). l ++ option_to_list last) none)
