-- The mended files without fillers are the files of the packets as they came.
use Rattle.std.proofs.Common.{◌≡◌, ℕ, zero, suc, ◌+◌, ◌<◌, Bool, true, false, cond, eqb, ◌&&◌, ◌||◌, not, Option, Some}
use Rattle.std.proofs.Common.{None, List, [], ◌∷◌, ◌++◌, length, map, filter, refl, sym, ap, ◌∙◌, subst, append_assoc}
use Rattle.std.proofs.Common.{arith, length-append}
use Rattle.std.specs.Prelude.{find, min, option_and_then, option_to_list}
use Rattle.std.specs.List.{fold}
use Rattle.std.specs.Option.{option_map}
use Rattle.std.proofs.lemmas.Bool.Decides.{nat_tests}
use Rattle.std.proofs.lemmas.List.{append-nil, map-append, nil_from_length}
use Rattle.std.proofs.lemmas.List.Elements.{filter-append}
use Rattle.std.proofs.lemmas.List.Sums.{fold-append}
use Rattle.lr_packet.specs.Verdict.{Good}
use Rattle.lr_bits.specs.File.{File}
use Rattle.lr_file.specs.Files.{file_at, file_from, files_of_packets, is_file, last_stretches, packets_of_key}
use Rattle.lr_file.proofs.FileLaws.{files_of-more}
use Rattle.lr_mend.specs.Laws.{packet_mended}
use Rattle.lr_mend.specs.Marks.{file_with, marked, whole_file}
use Rattle.lr_mend.specs.MendedFiles.{file_of_packet, files_ending, files_of_gap, mended_file, mended_files}
use Rattle.lr_mend.specs.MendedFiles.{mended_files_after}
use Rattle.lr_mend.specs.Mending.{Filling, Image, Mended, begins_file, came, count_after, filler_of, fillers_before}
use Rattle.lr_mend.specs.Mending.{fillers_from, filling_before, gap_before, gap_of, mended_packets, open_image}
use Rattle.lr_mend.specs.Seams.{Seams, mended_of_key, no_seams, seams_and, seams_of, seams_with}
use Rattle.lr_mend.specs.declared.marks.MarkedFile.{MarkedFile}
use Rattle.lr_mend.proofs.FewFillers.{same_self}
use Rattle.lr_mend.proofs.MendingLaws.{mended-more, packets_stay}
use Rattle.lr_mend.proofs.PlainFiles.{files_more, plain_is}
use Rattle.lr_laws.specs.MarkedPlaces.{filler_places, mended_stretch, stretch_and}
use Rattle.lr_laws.specs.SentImages.{since_and, since_beginning as since}
use Rattle.lr_laws.specs.WholeFiles.{WholeFilesAreThoseThatCame}
use Rattle.lr_laws.proofs.MarkedPlaces.{NoneBegins, bare, marked_of, none-key, none_begins, places_are}
use Rattle.lr_laws.proofs.SinceBeginning.{filler_begins_none}
use Rattle.lr_laws.proofs.Stretches.{file_is_stretch, since_in, since_in-end}

abbrev is_whole : MarkedFile → Bool
is_whole ended = eqb ended.fillers 0

-- ---- a file with fillers

marked_some : (file : File) (places : List ℕ) (ended : MarkedFile) → marked file places ≡ Some ended →
    0 < length places → eqb ended.fillers 0 ≡ false
marked_some file [] ended e some = absurd (omega (arith, some))
marked_some file (place ∷ places) ended e some = by_mark _ e
  where
    by_mark : (o : Option File) → option_map (file_with (place ∷ places)) o ≡ Some ended → eqb ended.fillers 0 ≡ false
    by_mark None e' = cc
    by_mark (Some with_mark) e' =
        let same : file_with (place ∷ places) with_mark ≡ ended = cc in
        let number : ended.fillers ≡ min 1023 (suc (length places)) = ap (λ (m : MarkedFile). m.fillers) (sym same) in
        grind (arith, nat_tests, number)

none_whole : (o : Option MarkedFile) → ((ended : MarkedFile) → o ≡ Some ended → eqb ended.fillers 0 ≡ false) →
    filter is_whole (option_to_list o) ≡ []
none_whole None has = refl
none_whole (Some ended) has = rw (has ended refl) refl

-- a filler is among those of the file that it ends
filler_counts : (ms : List Mended) (g : Good) → begins_file g ≡ false →
    0 < length (seams_of g.vc g.apid (ms ++ filler_of g ∷ [])).fillers
unfolding seams_of
filler_counts ms g none =
    let seams = seams_of g.vc g.apid ms in
    let with_it : seams_of g.vc g.apid (ms ++ filler_of g ∷ []) ≡ seams_and seams true =
    ap (fold seams_with no_seams) (filter-append (λ m. eqb m.packet.vc g.vc && eqb m.packet.apid g.apid) ms
    (filler_of g ∷ [])
    ∙ ap (λ (b : Bool). mended_of_key g.vc g.apid ms ++ cond b (filler_of g ∷ []) []) (same_self g.vc g.apid))
    ∙ fold-append seams_with no_seams (mended_of_key g.vc g.apid ms) (filler_of g ∷ [])
    ∙ ap (λ (b : Bool). cond b (record { packets = 1; fillers = [] }) (seams_and seams true)) none in
    omega (
      arith,
      ap (λ (s : Seams). length s.fillers) with_it,
      length-append seams.fillers (seams.packets ∷ []),
    )

ended_by_filler : (ms : List Mended) (g : Good) → begins_file g ≡ false →
    filter is_whole (option_to_list (mended_file ms (filler_of g))) ≡ []
ended_by_filler ms g none =
    none_whole (mended_file ms (filler_of g)) (λ ended e.
    let it = marked_of (seams_of g.vc g.apid (ms ++ filler_of g ∷ [])).fillers (file_at (map packet_mended ms) g) ended
    e in
    marked_some it.0 (seams_of g.vc g.apid (ms ++ filler_of g ∷ [])).fillers ended it.1.1 (filler_counts ms g none))

none_by_fillers : (filling : Filling) (n count : ℕ) (ms : List Mended) →
    filter is_whole (mended_files_after ms (map filler_of (fillers_from filling n count))) ≡ []
unfolding fillers_from
none_by_fillers filling zero count ms = refl
none_by_fillers filling (suc n) count ms =
    let first : Good = record {
      vc = filling.vc;
      apid = filling.apid;
      flags = cond (filling.ends && eqb n 0) 2 0;
      count = count;
      body = filling.body;
    } in
    filter-append is_whole (option_to_list (mended_file ms (filler_of first)))
    (mended_files_after (ms ++ filler_of first ∷ []) (map filler_of (fillers_from filling n (count_after count))))
    ∙ (λ i. ended_by_filler ms first (filler_begins_none (filling.ends && eqb n 0)) i
    ++ none_by_fillers filling n (count_after count) (ms ++ filler_of first ∷ []) i)

none_by_gap : (most : ℕ) (o : Option Image) (p : Good) (ms : List Mended) →
    filter is_whole (mended_files_after ms (map filler_of (gap_of most o p))) ≡ []
unfolding gap_of
none_by_gap most None p ms = refl
none_by_gap most (Some image) p ms =
    none_by_fillers (filling_before image p) (fillers_before most image p) (count_after image.count) ms

none_ended : (most : ℕ) (packets : List Good) (p : Good) → filter is_whole (files_of_gap most packets p) ≡ []
unfolding files_of_gap gap_before
none_ended most packets p =
    none_by_gap most (open_image most p.vc p.apid packets) p (mended_packets most packets)

-- ---- the packets that came, of mended ones

abbrev those_that_came : List Mended → List Mended
those_that_came ms = filter (λ m. not m.filler) ms

abbrev bare_came : List Mended → List Good
bare_came ms = map packet_mended (those_that_came ms)

came-end : (ms : List Mended) (m : Mended) →
    bare_came (ms ++ m ∷ []) ≡ bare_came ms ++ map packet_mended (cond (not m.filler) (m ∷ []) [])
came-end ms m =
    ap (map packet_mended) (filter-append (λ m. not m.filler) ms (m ∷ []))
    ∙ map-append packet_mended (those_that_came ms) (cond (not m.filler) (m ∷ []) [])

-- one more of a stretch
came_and : (stretch : List Mended) (m : Mended) → (m.filler ≡ true → begins_file m.packet ≡ false) →
    bare_came (stretch_and stretch m)
    ≡ fold since_and (bare_came stretch) (map packet_mended (cond (not m.filler) (m ∷ []) []))
came_and stretch m none = by_filler m.filler refl
  where
    by_start : (b : Bool) → m.filler ≡ false → bare_came (cond b (m ∷ []) (stretch ++ m ∷ []))
        ≡ cond b (m.packet ∷ []) (bare_came stretch ++ m.packet ∷ [])
    by_start true plain = ap (λ (b : Bool). map packet_mended (cond (not b) (m ∷ []) [])) plain
    by_start false plain =
        came-end stretch m
        ∙ ap (λ (b : Bool). bare_came stretch ++ map packet_mended (cond (not b) (m ∷ []) [])) plain

    by_filler : (f : Bool) → m.filler ≡ f → bare_came (stretch_and stretch m)
        ≡ fold since_and (bare_came stretch) (map packet_mended (cond (not m.filler) (m ∷ []) []))
    by_filler true is =
        ap (λ (b : Bool). bare_came (cond b (m ∷ []) (stretch ++ m ∷ []))) (none is)
        ∙ came-end stretch m
        ∙ ap (λ (f : Bool). bare_came stretch ++ map packet_mended (cond (not f) (m ∷ []) [])) is
        ∙ append-nil (bare_came stretch)
        ∙ sym (ap (λ (f : Bool). fold since_and (bare_came stretch) (map packet_mended (cond (not f) (m ∷ []) []))) is)
    by_filler false is =
        by_start (begins_file m.packet) is
        ∙ sym (ap (λ (f : Bool). fold since_and (bare_came stretch) (map packet_mended (cond (not f) (m ∷ []) []))) is)

came_all : (stretch ms : List Mended) → NoneBegins ms →
    bare_came (fold stretch_and stretch ms) ≡ fold since_and (bare_came stretch) (bare_came ms)
came_all stretch [] none = refl
came_all stretch (m ∷ ms) none =
    came_all (stretch_and stretch m) ms none.1
    ∙ ap (λ (l : List Good). fold since_and l (bare_came ms)) (came_and stretch m none.0)
    ∙ sym (fold-append since_and (bare_came stretch) (map packet_mended (cond (not m.filler) (m ∷ []) []))
    (bare_came ms))
    ∙ ap (fold since_and (bare_came stretch))
    (sym (map-append packet_mended (cond (not m.filler) (m ∷ []) []) (those_that_came ms))
    ∙ ap (map packet_mended) (sym (filter-append (λ m. not m.filler) (m ∷ []) ms)))

came_key : (vc apid : ℕ) (ms : List Mended) →
    bare_came (mended_of_key vc apid ms) ≡ packets_of_key vc apid (bare_came ms)
came_key vc apid [] = refl
came_key vc apid (m ∷ ms) =
    by_both (came_key vc apid ms) m.filler refl (eqb m.packet.vc vc && eqb m.packet.apid apid) refl
  where
    by_both : bare_came (mended_of_key vc apid ms) ≡ packets_of_key vc apid (bare_came ms) →
        (f : Bool) → m.filler ≡ f → (b : Bool) → (eqb m.packet.vc vc && eqb m.packet.apid apid) ≡ b →
        bare_came (mended_of_key vc apid (m ∷ ms)) ≡ packets_of_key vc apid (bare_came (m ∷ ms))
    by_both rest true is true own = rw (own, is) rest
    by_both rest true is false own = rw (own, is) rest
    by_both rest false is true own = rw (own, is) (rw own (ap (λ (l : List Good). m.packet ∷ l) rest))
    by_both rest false is false own = rw (own, is) (rw own rest)

came_since : (vc apid : ℕ) (ms : List Mended) → NoneBegins (mended_of_key vc apid ms) →
    bare_came (mended_stretch vc apid ms) ≡ since vc apid (bare_came ms)
came_since vc apid ms none =
    came_all [] (mended_of_key vc apid ms) none ∙ ap (λ (l : List Good). fold since_and [] l) (came_key vc apid ms)

-- a stretch without fillers
all_came : (place : ℕ) (stretch : List Mended) → filler_places place stretch ≡ [] → those_that_came stretch ≡ stretch
all_came place [] none = refl
all_came place (m ∷ ms) none = by_filler (all_came (place + 1) ms) m.filler refl
  where
    by_filler : (filler_places (place + 1) ms ≡ [] → those_that_came ms ≡ ms) → (f : Bool) → m.filler ≡ f →
        those_that_came (m ∷ ms) ≡ m ∷ ms
    by_filler rest true is =
        let never : place ∷ filler_places (place + 1) ms ≡ [] = rw is at none in cc
    by_filler rest false is =
        let later : filler_places (place + 1) ms ≡ [] = rw is at none in
        ap (λ (f : Bool). cond (not f) (m ∷ those_that_came ms) (those_that_came ms)) is
        ∙ ap (λ (l : List Mended). m ∷ l) (rest later)

-- ---- a stretch that is a file is found

found_one : (front s : List Good) → is_file s ≡ true → find is_file (last_stretches (front ++ s)) ≡ None → ⊥
unfolding is_file
found_one [] [] is none = cc
found_one [] (x ∷ xs) is none =
    let never : Some (x ∷ xs) ≡ None = rw is at none in cc
found_one (f ∷ front) s is none = by_test (found_one front s is) (is_file (f ∷ front ++ s)) none
  where
    by_test : (find is_file (last_stretches (front ++ s)) ≡ None → ⊥) → (b : Bool) →
        cond b (Some (f ∷ front ++ s)) (find is_file (last_stretches (front ++ s))) ≡ None → ⊥
    by_test later true e = cc
    by_test later false e = later e

abbrev HasFront : List Good → Type 0
HasFront qs = (front : List Good) × (qs ≡ front ++ since_in qs)

front_next : (qs : List Good) (p : Good) → HasFront qs → HasFront (qs ++ p ∷ [])
front_next qs p has = by_start (begins_file p) (since_in-end qs p)
  where
    by_start : (b : Bool) → since_in (qs ++ p ∷ []) ≡ cond b (p ∷ []) (since_in qs ++ p ∷ []) → HasFront (qs ++ p ∷ [])
    by_start true is = (qs, ap (λ (l : List Good). qs ++ l) (sym is))
    by_start false is = (
      has.0,
      ap (λ (l : List Good). l ++ p ∷ []) has.1
          ∙ append_assoc has.0 (since_in qs) (p ∷ [])
          ∙ ap (λ (l : List Good). has.0 ++ l) (sym is),
    )

front_after : (before later : List Good) → HasFront before → HasFront (before ++ later)
front_after before [] has = subst HasFront (sym (append-nil before)) has
front_after before (p ∷ later) has =
    subst HasFront (append_assoc before (p ∷ []) later) (front_after (before ++ p ∷ []) later (front_next before p has))

is_found : (ps : List Good) (p : Good) → is_file (since p.vc p.apid (ps ++ p ∷ [])) ≡ true → file_at ps p ≡ None → ⊥
unfolding file_at
is_found ps p is none =
    let qs = packets_of_key p.vc p.apid (ps ++ p ∷ []) in
    let front = front_after [] qs ([], refl) in
    found_one front.0 (since_in qs) is
    (ap (λ (l : List Good). find is_file (last_stretches l)) (sym front.1) ∙ by_none _ none)
  where
    by_none : (o : Option (List Good)) → option_map (file_from p.vc p.apid) o ≡ None → o ≡ None
    by_none None e = refl
    by_none (Some s) e = cc

-- ---- the file that ends with a packet

module _ (most : ℕ) (packets : List Good) (p : Good) where
  abbrev before : List Mended
  before = mended_packets most packets ++ map filler_of (gap_before most packets p)

  abbrev all : List Mended
  all = before ++ came p ∷ []

  all_is : mended_packets most (packets ++ p ∷ []) ≡ all
  all_is =
      mended-more most packets p
      ∙ sym (append_assoc (mended_packets most packets) (map filler_of (gap_before most packets p)) (came p ∷ []))

  none_starts : NoneBegins all
  none_starts = subst NoneBegins all_is (none_begins most (packets ++ p ∷ []))

  came_are : bare_came all ≡ packets ++ p ∷ []
  came_are = ap bare_came (sym all_is) ∙ packets_stay most (packets ++ p ∷ [])

  -- without fillers it is a file of the packets as they came
  whole_came : (file : File) → file_at (map packet_mended before) p ≡ Some file →
      length (seams_of p.vc p.apid all).fillers ≡ 0 → file_at packets p ≡ None → ⊥
  whole_came file e zero_fillers =
      let is = file_is_stretch (map packet_mended before) p file e in
      let stretch = mended_stretch p.vc p.apid all in
      let bare_is : since p.vc p.apid (map packet_mended before ++ p ∷ []) ≡ map packet_mended stretch =
      ap (since p.vc p.apid) (sym (map-append packet_mended before (came p ∷ []))) ∙ sym (bare p.vc p.apid all) in
      let one : is_file (map packet_mended stretch) ≡ true = ap is_file (sym bare_is) ∙ is.is_one in
      let none : filler_places 0 stretch ≡ [] =
      sym (places_are p.vc p.apid all none_starts one) ∙ nil_from_length (seams_of p.vc p.apid all).fillers zero_fillers
      in
      let same : map packet_mended stretch ≡ since p.vc p.apid (packets ++ p ∷ []) =
      ap (map packet_mended) (sym (all_came 0 stretch none))
      ∙ came_since p.vc p.apid all (none-key p.vc p.apid all none_starts)
      ∙ ap (since p.vc p.apid) came_are in
      is_found packets p (ap is_file (sym same) ∙ one)

  by_packet : (o : Option File) → file_at packets p ≡ o →
      filter is_whole (option_to_list (file_of_packet most packets p)) ≡ map whole_file (option_to_list o)
  unfolding file_of_packet
  by_packet (Some file) e =
      ap (λ (o : Option MarkedFile). filter is_whole (option_to_list o)) (plain_is most packets p file e)
  by_packet None e =
      none_whole (mended_file before (came p)) (λ ended ends.
      let it = marked_of (seams_of p.vc p.apid all).fillers (file_at (map packet_mended before) p) ended ends in
      by_count it.0 ended it.1.0 it.1.1 (length (seams_of p.vc p.apid all).fillers) refl)
    where
      by_count : (file : File) (ended : MarkedFile) → file_at (map packet_mended before) p ≡ Some file →
          marked file (seams_of p.vc p.apid all).fillers ≡ Some ended → (n : ℕ) →
          length (seams_of p.vc p.apid all).fillers ≡ n → eqb ended.fillers 0 ≡ false
      by_count file ended at is zero few = absurd (whole_came file at few e)
      by_count file ended at is (suc n) many =
          marked_some file (seams_of p.vc p.apid all).fillers ended is (omega (arith, many))

-- ---- all files

abbrev AreWhole : ℕ → List Good → Type 0
AreWhole most packets = filter is_whole (mended_files most packets) ≡ map whole_file (files_of_packets packets)

whole_next : (most : ℕ) (packets : List Good) (p : Good) → AreWhole most packets → AreWhole most (packets ++ p ∷ [])
whole_next most packets p are =
    ap (filter is_whole) (files_more most packets p)
    ∙ filter-append is_whole (mended_files most packets) (files_ending most packets p)
    ∙ ap (λ (l : List MarkedFile). filter is_whole (mended_files most packets) ++ l)
    (filter-append is_whole (files_of_gap most packets p) (option_to_list (file_of_packet most packets p))
    ∙ (λ i. none_ended most packets p i ++ by_packet most packets p (file_at packets p) refl i))
    ∙ ap (λ (l : List MarkedFile). l ++ map whole_file (option_to_list (file_at packets p))) are
    ∙ sym (map-append whole_file (files_of_packets packets) (option_to_list (file_at packets p)))
    ∙ ap (map whole_file) (sym (files_of-more packets p))

whole_after : (most : ℕ) (before later : List Good) → AreWhole most before → AreWhole most (before ++ later)
whole_after most before [] are = subst (AreWhole most) (sym (append-nil before)) are
whole_after most before (p ∷ later) are =
    subst (AreWhole most) (append_assoc before (p ∷ []) later)
    (whole_after most (before ++ p ∷ []) later (whole_next most before p are))

none_whole_yet : (most : ℕ) → AreWhole most []
unfolding mended_files files_of_packets mended_packets
none_whole_yet most = refl

pub whole_files_came : WholeFilesAreThoseThatCame
whole_files_came most packets = whole_after most [] packets (none_whole_yet most)
