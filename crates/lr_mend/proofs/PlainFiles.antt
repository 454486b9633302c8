-- The files of the packets are among those of the mended ones, unmarked.
use Rattle.lr_bits.specs.declared.sizes.TheConstants.{SEQUENCE_COUNTS}
use Rattle.std.proofs.Common.{◌≡◌, ℕ, ◌+◌, ◌≤◌, ◌%◌, Bool, true, false, cond, eqb, leb, ◌&&◌, ◌||◌, Option, Some}
use Rattle.std.proofs.Common.{None, List, []}
use Rattle.std.proofs.Common.{◌∷◌, ◌++◌, length, map, refl, sym, ap, ◌∙◌, subst, append_assoc, inl, inr, arith}
use Rattle.std.specs.Prelude.{option_and_then, option_to_list, ◌⊎◌, find}
use Rattle.std.specs.Option.{option_map}
use Rattle.std.proofs.lemmas.List.{append-nil, map-append, nil_from_length}
use Rattle.lr_bits.specs.File.{File}
use Rattle.lr_mend.specs.declared.marks.MarkedFile.{MarkedFile}
use Rattle.lr_packet.specs.Verdict.{Good}
use Rattle.lr_file.specs.Files.{packets_of_key, last_stretches, size_of, is_file, file_from, file_at}
use Rattle.lr_file.specs.Files.{files_of_packets}
use Rattle.lr_file.specs.Standing.{FilesStandFor, KeptFiles, is_open, last_count, open_from}
use Rattle.lr_file.specs.Steps.{is_next}
use Rattle.lr_file.proofs.FileLaws.{files_of-more}
use Rattle.lr_file.proofs.Stretches.{longer, is_open-one, is_file-one, and_left, and_right}
use Rattle.lr_file.proofs.Histories.{packets_of_key-own, packets_of_key-other}
use Rattle.lr_file.proofs.KeyLemmas.{same_key}
use Rattle.lr_mend.specs.FileLaws.{AreAmong}
use Rattle.lr_mend.specs.Laws.{packet_mended}
use Rattle.lr_mend.specs.Marks.{marked, whole_file}
use Rattle.lr_mend.specs.Standing.{KeptImages}
use Rattle.lr_mend.specs.MendedFiles.{MendedStandFor, kept_mended}
use Rattle.lr_mend.specs.MendedFiles.{file_of_packet, files_ending, files_of_gap, mended_file, mended_files}
use Rattle.lr_mend.specs.MendedFiles.{mended_files_after}
use Rattle.lr_mend.specs.Mending.{Image, begins_file, came, filler_of, gap_before}
use Rattle.lr_mend.specs.Mending.{mended_packets, mended_with, open_image}
use Rattle.lr_mend.specs.Seams.{Seams, seams_of}
use Rattle.lr_mend.proofs.Counting.{nothing_missing}
use Rattle.lr_mend.proofs.FewFillers.{count_of, number_in, count_with, count_more, count_other, came_seams, came_count}
use Rattle.lr_mend.proofs.FewFillers.{same_self, few_fillers}
use Rattle.lr_mend.proofs.MendedTaking.{mended_files-append}
use Rattle.lr_mend.proofs.MendingLaws.{mended-more, no_gap, none_opens, nothing}
use Rattle.lr_mend.proofs.StayingFiles.{agrees, open_stretch, goes_on, ends, open_stretch-end, file_stretch-end}
use Rattle.lr_mend.proofs.StayingFiles.{fillers_before-nothing, file_stays, follows, heard, unflagged}

-- ---- one packet more

mended_files-more : (most : ℕ) (packets : List Good) (p : Good) →
    mended_files most (packets ++ p ∷ []) ≡ mended_files most packets ++ files_ending most packets p
unfolding mended_files files_of_gap file_of_packet
mended_files-more most packets p =
    let fillers = map filler_of (gap_before most packets p) in
    ap (mended_files_after []) (mended-more most packets p)
    ∙ mended_files-append [] (mended_packets most packets) (mended_with most packets p)
    ∙ ap (λ fs. mended_files_after [] (mended_packets most packets) ++ fs)
    (mended_files-append (mended_packets most packets) fillers (came p ∷ [])
    ∙ ap (λ fs. mended_files_after (mended_packets most packets) fillers ++ fs)
    (append-nil (option_to_list (mended_file (mended_packets most packets ++ fillers) (came p)))))

pub files_more : (most : ℕ) (packets : List Good) (p : Good) →
    mended_files most (packets ++ p ∷ []) ≡ mended_files most packets ++ files_ending most packets p
files_more = mended_files-more

-- ---- no fillers after a stretch that is open

-- a packet ends a longer stretch alone, or with the stretch before
Cases : (List Good → Bool) → Bool → Option (List Good) → Type 0
Cases Q alone o = (alone ≡ true) ⊎ ((s : List Good) × ((o ≡ Some s) × (Q s ≡ true)))

with_stretch : (Q : List Good → Bool) (p : Good) (s r : List Good) (k : Bool) → Q s ≡ k →
    cond k (Some (s ++ p ∷ [])) None ≡ Some r → Cases Q false (Some s)
unfolding Cases
with_stretch Q p s r true is e = inr (s, (refl, is))
with_stretch Q p s r false is e = cc

longer_cases : (Q : List Good → Bool) (p : Good) (alone : Bool) (o : Option (List Good)) (r : List Good) →
    longer Q p alone o ≡ Some r → Cases Q alone o
unfolding Cases
longer_cases Q p true o r e = inl refl
longer_cases Q p false None r e = cc
longer_cases Q p false (Some s) r e = with_stretch Q p s r (Q s) refl e

-- no fillers come before a packet that follows
number_none : (most : ℕ) (o : Option Image) (s : List Good) (p : Good) →
    ((image : Image) → o ≡ Some image → image.count ≡ last_count s) → is_next (open_from s) p ≡ true →
    number_in most o p ≡ 0
number_none most None s p same next = refl
number_none most (Some image) s p same next =
    let counted : p.count ≡ (image.count + 1) % SEQUENCE_COUNTS =
    follows s p next ∙ ap (λ n. (n + 1) % SEQUENCE_COUNTS) (sym (same image refl)) in
    fillers_before-nothing most image p (nothing_missing image.count p.count counted)

none_with : (n : ℕ) (b : Bool) → n ≡ 0 → cond b 0 n ≡ 0
none_with n true e = refl
none_with n false e = e

none_begun : (n : ℕ) (b : Bool) → b ≡ true → cond b 0 n ≡ 0
none_begun n b e = rw e refl

alone_begins : (p : Good) → is_open (p ∷ []) ≡ true → begins_file p ≡ true
alone_begins p is =
    let one = and_left (eqb p.flags 1) _ (sym (is_open-one p) ∙ is) in
    ap (λ (b : Bool). b || eqb p.flags 3) one

or_true : (b : Bool) → (b || true) ≡ true
or_true true = refl
or_true false = refl

file_begins : (p : Good) → is_file (p ∷ []) ≡ true → begins_file p ≡ true
file_begins p is =
    let three = and_left (eqb p.flags 3) _ (and_left _ _ (sym (is_file-one p) ∙ is)) in
    ap (λ (b : Bool). eqb p.flags 1 || b) three ∙ or_true (eqb p.flags 1)

-- how many fillers there are after the fillers before a packet that ends or goes on with what came before
abbrev Unfilled : ℕ → List Good → Type 0
Unfilled most packets = (vc apid : ℕ) (s : List Good) → open_stretch (packets_of_key vc apid packets) ≡ Some s →
    count_of vc apid (mended_packets most packets) ≡ 0

none_before : (most : ℕ) (packets : List Good) (p : Good) (s : List Good) → Unfilled most packets →
    open_stretch (packets_of_key p.vc p.apid packets) ≡ Some s → is_next (open_from s) p ≡ true →
    count_of p.vc p.apid (mended_packets most packets ++ map filler_of (gap_before most packets p)) ≡ 0
none_before most packets p s unfilled here next =
    let n = unfilled p.vc p.apid s here in
    let m = number_none most (open_image most p.vc p.apid packets) s p
    (λ image e. (agrees most packets).count p.vc p.apid s image here e) next in
    omega (arith, count_with most packets p, n, m)

none_own : (most : ℕ) (packets : List Good) (p : Good) (s : List Good) → Unfilled most packets →
    open_stretch (packets_of_key p.vc p.apid (packets ++ p ∷ [])) ≡ Some s →
    count_of p.vc p.apid (mended_packets most (packets ++ p ∷ [])) ≡ 0
unfolding Cases
none_own most packets p s unfilled e =
    let more = count_more most packets p (begins_file p) refl in
    let before = packets_of_key p.vc p.apid packets in
    let cases = longer_cases (goes_on p) p (is_open (p ∷ [])) (open_stretch before) s
    (sym (open_stretch-end before p) ∙ sym (ap open_stretch (packets_of_key-own packets p)) ∙ e) in
    elim cases as (λ _. count_of p.vc p.apid (mended_packets most (packets ++ p ∷ [])) ≡ 0) [
      | inl alone ↦ more ∙ none_begun _ (begins_file p) (alone_begins p alone)
      | inr on ↦ more ∙ none_with _ (begins_file p) (none_before most packets p on.0 unfilled on.1.0
          (and_right (eqb p.flags 0) (is_next (open_from on.0) p) on.1.1))
    ]

none_next : (most vc apid : ℕ) (packets : List Good) (p : Good) (s : List Good) → Unfilled most packets →
    (own : Bool) → (eqb p.vc vc && eqb p.apid apid) ≡ own →
    open_stretch (packets_of_key vc apid (packets ++ p ∷ [])) ≡ Some s →
    count_of vc apid (mended_packets most (packets ++ p ∷ [])) ≡ 0
none_next most vc apid packets p s unfilled true is e =
    let same = same_key p.vc vc p.apid apid is in
    (λ i. count_of (sym same.0 i) (sym same.1 i) (mended_packets most (packets ++ p ∷ [])))
    ∙ none_own most packets p s unfilled
    ((λ i. open_stretch (packets_of_key (same.0 i) (same.1 i) (packets ++ p ∷ []))) ∙ e)
none_next most vc apid packets p s unfilled false is e =
    count_other most vc apid packets p is
    ∙ unfilled vc apid s (sym (ap open_stretch (packets_of_key-other vc apid packets p is)) ∙ e)

none_after : (most : ℕ) (before later : List Good) → Unfilled most before → Unfilled most (before ++ later)
none_after most before [] unfilled =
    subst (λ (ps : List Good). Unfilled most ps) (sym (append-nil before)) unfilled
none_after most before (p ∷ later) unfilled =
    subst (λ (ps : List Good). Unfilled most ps) (append_assoc before (p ∷ []) later)
    (none_after most (before ++ p ∷ []) later
    (λ vc apid s e. none_next most vc apid before p s unfilled (eqb p.vc vc && eqb p.apid apid) refl e))

pub unfilled : (most : ℕ) (packets : List Good) → Unfilled most packets
unfilled most packets = none_after most [] packets (λ vc apid s e. cc)

-- ---- the file that ends with a packet is unmarked

some_of : (vc apid : ℕ) (o : Option (List Good)) (file : File) → option_map (file_from vc apid) o ≡ Some file →
    (r : List Good) × (o ≡ Some r)
some_of vc apid None file e = cc
some_of vc apid (Some r) file e = (r, refl)

unmarked : (most : ℕ) (packets : List Good) (p : Good) (file : File) → file_at packets p ≡ Some file →
    length (seams_of p.vc p.apid ((mended_packets most packets ++ map filler_of (gap_before most packets p)) ++ came p ∷
    [])).fillers ≡ 0
unfolding file_at Cases
unmarked most packets p file e =
    let ms = mended_packets most packets ++ map filler_of (gap_before most packets p) in
    let before = packets_of_key p.vc p.apid packets in
    let found = some_of p.vc p.apid _ file (sym (ap (λ ps. option_map (file_from p.vc p.apid) (find is_file
    (last_stretches ps))) (packets_of_key-own packets p)) ∙ e) in
    let cases = longer_cases (ends p) p (is_file (p ∷ [])) (open_stretch before) found.0
    (sym (file_stretch-end before p) ∙ found.1) in
    let count : count_of p.vc p.apid (ms ++ came p ∷ []) ≡ cond (begins_file p) 0 (count_of p.vc p.apid ms) =
    ap (λ (s : Seams). length s.fillers) (came_seams p.vc p.apid ms p (same_self p.vc p.apid))
    ∙ came_count (seams_of p.vc p.apid ms) p (begins_file p) refl in
    elim cases as (λ _. count_of p.vc p.apid (ms ++ came p ∷ []) ≡ 0) [
      | inl alone ↦ count ∙ none_begun _ (begins_file p) (file_begins p alone)
      | inr on ↦ count ∙ none_with _ (begins_file p) (none_before most packets p on.0 (unfilled most packets) on.1.0
          (and_right (eqb p.flags 2) (is_next (open_from on.0) p)
          (and_left _ (leb 10 (size_of (on.0 ++ p ∷ []))) on.1.1)))
    ]

heard_with : (most : ℕ) (packets : List Good) (gap : List Good) →
    map packet_mended (mended_packets most packets ++ map filler_of gap) ≡ heard most packets ++ gap
heard_with most packets gap =
    map-append packet_mended (mended_packets most packets) (map filler_of gap)
    ∙ ap (λ ps. heard most packets ++ ps) (unflagged gap)

-- so it is the one that ends with the packet among the mended ones
pub plain_is : (most : ℕ) (packets : List Good) (p : Good) (file : File) → file_at packets p ≡ Some file →
    mended_file (mended_packets most packets ++ map filler_of (gap_before most packets p)) (came p)
    ≡ Some (whole_file file)
plain_is most packets p file e =
    let gap = gap_before most packets p in
    let ms = mended_packets most packets ++ map filler_of gap in
    let fillers = (seams_of p.vc p.apid (ms ++ came p ∷ [])).fillers in
    let none : fillers ≡ [] = nil_from_length fillers (unmarked most packets p file e) in
    ap (option_and_then (λ file. marked file fillers)) (ap (λ ps. file_at ps p) (heard_with most packets gap)
    ∙ file_stays most packets p file e)
    ∙ ap (λ (l : List ℕ). marked file l) none

-- ---- the files of all packets

among_more : (files all more : List MarkedFile) → AreAmong files all → AreAmong files (all ++ more)
among_more [] all more h = tt
among_more (file ∷ files) [] more h = absurd h
among_more (file ∷ files) (other ∷ all) more h =
    elim h as (λ _. AreAmong (file ∷ files) ((other ∷ all) ++ more)) [
      | inl here ↦ inl (here.0, among_more files all more here.1)
      | inr later ↦ inr (among_more (file ∷ files) all more later)
    ]

among_one : (file : MarkedFile) (front : List MarkedFile) → AreAmong (file ∷ []) (front ++ file ∷ [])
among_one file [] = inl (refl, tt)
among_one file (other ∷ front) = inr (among_one file front)

among_both : (files all : List MarkedFile) (file : MarkedFile) (front : List MarkedFile) → AreAmong files all →
    AreAmong (files ++ file ∷ []) (all ++ (front ++ file ∷ []))
among_both [] [] file front h = among_one file front
among_both [] (other ∷ all) file front h = inr (among_both [] all file front tt)
among_both (one ∷ files) [] file front h = absurd h
among_both (one ∷ files) (other ∷ all) file front h =
    elim h as (λ _. AreAmong ((one ∷ files) ++ file ∷ []) ((other ∷ all) ++ (front ++ file ∷ []))) [
      | inl here ↦ inl (here.0, among_both files all file front here.1)
      | inr later ↦ inr (among_both (one ∷ files) all file front later)
    ]

ending_is : (most : ℕ) (packets : List Good) (p : Good) →
    files_ending most packets p ≡
    mended_files_after (mended_packets most packets) (map filler_of (gap_before most packets p))
    ++ option_to_list (mended_file (mended_packets most packets ++ map filler_of (gap_before most packets p)) (came p))
unfolding files_of_gap file_of_packet
ending_is most packets p = refl

-- the files of the packets, each without fillers
abbrev whole_files : List Good → List MarkedFile
whole_files packets = map whole_file (files_of_packets packets)

whole-more : (packets : List Good) (p : Good) →
    whole_files (packets ++ p ∷ []) ≡ whole_files packets ++ map whole_file (option_to_list (file_at packets p))
whole-more packets p =
    ap (map whole_file) (files_of-more packets p)
    ∙ map-append whole_file (files_of_packets packets) (option_to_list (file_at packets p))

among_next : (most : ℕ) (packets : List Good) (p : Good) (found : Option File) → file_at packets p ≡ found →
    AreAmong (whole_files packets) (mended_files most packets) →
    AreAmong (whole_files packets ++ map whole_file (option_to_list found))
    (mended_files most packets ++ files_ending most packets p)
among_next most packets p None e h =
    subst (λ (files : List MarkedFile). AreAmong files (mended_files most packets ++ files_ending most packets p))
    (sym (append-nil (whole_files packets)))
    (among_more (whole_files packets) (mended_files most packets) (files_ending most packets p) h)
among_next most packets p (Some file) e h =
    let front = mended_files_after (mended_packets most packets) (map filler_of (gap_before most packets p)) in
    subst (λ (ending : List MarkedFile). AreAmong (whole_files packets ++ whole_file file ∷ [])
    (mended_files most packets ++ ending))
    (sym (ending_is most packets p ∙ ap (λ o. front ++ option_to_list o) (plain_is most packets p file e)))
    (among_both (whole_files packets) (mended_files most packets) (whole_file file) front h)

among_after : (most : ℕ) (before later : List Good) → AreAmong (whole_files before) (mended_files most before) →
    AreAmong (whole_files (before ++ later)) (mended_files most (before ++ later))
among_after most before [] h =
    subst (λ (ps : List Good). AreAmong (whole_files ps) (mended_files most ps)) (sym (append-nil before)) h
among_after most before (p ∷ later) h =
    subst (λ (ps : List Good). AreAmong (whole_files ps) (mended_files most ps)) (append_assoc before (p ∷ []) later)
    (among_after most (before ++ p ∷ []) later
    (subst (λ (files : List MarkedFile). AreAmong files (mended_files most (before ++ p ∷ [])))
    (sym (whole-more before p))
    (subst (λ (all : List MarkedFile).
    AreAmong (whole_files before ++ map whole_file (option_to_list (file_at before p))) all)
    (sym (mended_files-more most before p)) (among_next most before p (file_at before p) refl h))))

none_among : (most : ℕ) → AreAmong (whole_files []) (mended_files most [])
unfolding files_of_packets
none_among most = tt

pub plain_among : (most : ℕ) (packets : List Good) → AreAmong (whole_files packets) (mended_files most packets)
plain_among most packets = among_after most [] packets (none_among most)

-- ---- no fillers allowed

packets_are : (ps : List Good) → map packet_mended (map came ps) ≡ ps
packets_are [] = refl
packets_are (p ∷ ps) = ap (λ qs. p ∷ qs) (packets_are ps)

-- the packets that came are those that are mended
pub unmended : (packets : List Good) → map packet_mended (mended_packets 0 packets) ≡ packets
unmended packets = ap (map packet_mended) (nothing packets) ∙ packets_are packets

pub unmarked_file : (o : Option File) → option_and_then (λ file. marked file []) o ≡ option_map whole_file o
unmarked_file None = refl
unmarked_file (Some file) = refl

zero_if : (n : ℕ) (b : Bool) → n ≤ 0 → cond b 0 n ≡ 0
zero_if n true h = refl
zero_if n false h = omega (arith, h)

pub plain_gap : (packets : List Good) (p : Good) → files_of_gap 0 packets p ≡ []
unfolding files_of_gap
plain_gap packets p = ap (λ gap. mended_files_after (mended_packets 0 packets) (map filler_of gap)) (no_gap packets p)

pub plain_file : (packets : List Good) (p : Good) →
    file_of_packet 0 packets p ≡ option_map whole_file (file_at packets p)
unfolding file_of_packet
plain_file packets p =
    let gap = gap_before 0 packets p in
    let ms = mended_packets 0 packets ++ map filler_of gap in
    let fillers = (seams_of p.vc p.apid (ms ++ came p ∷ [])).fillers in
    let count : length fillers ≡ 0 =
    ap (λ (s : Seams). length s.fillers) (came_seams p.vc p.apid ms p (same_self p.vc p.apid))
    ∙ came_count (seams_of p.vc p.apid ms) p (begins_file p) refl
    ∙ zero_if (count_of p.vc p.apid ms) (begins_file p) (few_fillers 0 packets p) in
    let none : fillers ≡ [] = nil_from_length fillers count in
    let heard_is : map packet_mended ms ≡ packets =
    ap (λ gap. map packet_mended (mended_packets 0 packets ++ map filler_of gap)) (no_gap packets p)
    ∙ ap (map packet_mended) (append-nil (mended_packets 0 packets))
    ∙ unmended packets in
    ap (λ ps. option_and_then (λ file. marked file fillers) (file_at ps p)) heard_is
    ∙ ap (λ (l : List ℕ). option_and_then (λ file. marked file l) (file_at packets p)) none
    ∙ unmarked_file (file_at packets p)

option_list : {A B : Type 0} (f : A → B) (o : Option A) → option_to_list (option_map f o) ≡ map f (option_to_list o)
option_list f None = refl
option_list f (Some x) = refl

plain_ending : (packets : List Good) (p : Good) →
    files_ending 0 packets p ≡ map whole_file (option_to_list (file_at packets p))
plain_ending packets p =
    (λ i. plain_gap packets p i ++ option_to_list (plain_file packets p i))
    ∙ option_list whole_file (file_at packets p)

plain_after : (before later : List Good) → mended_files 0 before ≡ whole_files before →
    mended_files 0 (before ++ later) ≡ whole_files (before ++ later)
plain_after before [] same =
    subst (λ (ps : List Good). mended_files 0 ps ≡ whole_files ps) (sym (append-nil before)) same
plain_after before (p ∷ later) same =
    subst (λ (ps : List Good). mended_files 0 ps ≡ whole_files ps) (append_assoc before (p ∷ []) later)
    (plain_after (before ++ p ∷ []) later (mended_files-more 0 before p
    ∙ (λ i. same i ++ plain_ending before p i) ∙ sym (whole-more before p)))

no_files : mended_files 0 [] ≡ whole_files []
unfolding mended_files files_of_packets mended_packets
no_files = refl

pub plain_same : (packets : List Good) → mended_files 0 packets ≡ whole_files packets
plain_same packets = plain_after [] packets no_files

-- ---- what is kept where no fillers are allowed

none_open : (vc apid : ℕ) (packets : List Good) → open_image 0 vc apid packets ≡ None
unfolding open_image
none_open vc apid packets = none_opens (packets_of_key vc apid packets)

-- the files that are kept are those of the packets
pub plain_stands : (images : KeptImages) (files : KeptFiles) (seams : List ((ℕ × ℕ) × Seams)) (packets : List Good) →
    images.most ≡ 0 → MendedStandFor (kept_mended images files seams) packets → FilesStandFor files packets
plain_stands images files seams packets none stands =
    subst (λ (ps : List Good). FilesStandFor files ps)
    (ap (λ (n : ℕ). map packet_mended (mended_packets n packets)) none ∙ unmended packets) stands.files

-- it stands for one packet more where the files do
pub stands_plain : (images : KeptImages) (seams : List ((ℕ × ℕ) × Seams)) (old new : KeptFiles) (packets : List Good)
    (p : Good) → images.most ≡ 0 → MendedStandFor (kept_mended images old seams) packets →
    ((ps : List Good) → FilesStandFor old ps → FilesStandFor new (ps ++ p ∷ [])) →
    MendedStandFor (kept_mended images new seams) (packets ++ p ∷ [])
stands_plain images seams old new packets p none stands more =
    let plain : map packet_mended (mended_packets images.most (packets ++ p ∷ [])) ≡ packets ++ p ∷ [] =
    ap (λ (n : ℕ). map packet_mended (mended_packets n (packets ++ p ∷ []))) none ∙ unmended (packets ++ p ∷ []) in
    record {
      unspent = refl;
      images = record {
        unspent = stands.images.unspent;
        once = stands.images.once;
        images = λ vc apid. stands.images.images vc apid
            ∙ (λ i. open_image (none i) vc apid packets) ∙ none_open vc apid packets
            ∙ sym ((λ i. open_image (none i) vc apid (packets ++ p ∷ [])) ∙ none_open vc apid (packets ++ p ∷ []));
      };
      files = subst (λ (ps : List Good). FilesStandFor new ps) (sym plain)
          (more packets (plain_stands images old seams packets none stands));
      seams = λ some. absurd (omega (arith, some, none));
    }
