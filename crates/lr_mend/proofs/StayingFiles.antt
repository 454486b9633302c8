-- A file that ends with a packet ends with it among the mended packets too.
use Rattle.lr_bits.specs.declared.sizes.TheConstants.{SEQUENCE_COUNTS}
use Rattle.std.proofs.Common.{◌≡◌, ℕ, zero, suc, ◌+◌, ◌%◌, Bool, true, false, cond, eqb, leb, ltb, ◌&&◌}
use Rattle.std.proofs.Common.{Option, Some, None, List, [], ◌∷◌, ◌++◌, map, refl, sym, ap, ◌∙◌, subst, arith}
use Rattle.std.proofs.Common.{append_assoc, eqb-true}
use Rattle.std.specs.Prelude.{find}
use Rattle.std.specs.Option.{option_map}
use Rattle.std.proofs.lemmas.Bool.Decides.{nat_tests}
use Rattle.std.proofs.lemmas.List.{append-nil, map-append}
use Rattle.std.proofs.lemmas.List.Elements.{filter-append}
use Rattle.lr_bits.specs.File.{File}
use Rattle.lr_packet.specs.Verdict.{Good}
use Rattle.lr_file.specs.Files.{packets_of_key, last_stretches, size_of, is_file, file_from, file_at}
use Rattle.lr_file.specs.Standing.{is_open, last_count, open_from}
use Rattle.lr_file.specs.Steps.{is_next}
use Rattle.lr_file.proofs.Stretches.{longer, find-end, is_open-end, is_file-end, is_open-one, is_file-one, and_left}
use Rattle.lr_file.proofs.Stretches.{and_right}
use Rattle.lr_file.proofs.Histories.{packets_of_key-own, packets_of_key-other}
use Rattle.lr_file.proofs.KeyLemmas.{same_key}
use Rattle.lr_mend.specs.Laws.{packet_mended}
use Rattle.lr_mend.specs.Mending.{Image, Filling, came, filler_of, gap_before, gap_of, mended_packets, mended_with}
use Rattle.lr_mend.specs.Mending.{next_image, continued_image, open_image, fillers_before, fillers_from, missing_before}
use Rattle.lr_mend.specs.Mending.{can_fill, filling_before, needed_before, count_after, image_begun_by, image_with}
use Rattle.lr_mend.specs.Mending.{goes_on as goes_on_with}
use Rattle.lr_mend.specs.Openings.{Opening, opening_of}
use Rattle.std.specs.Prelude.{min}
use Rattle.lr_mend.proofs.Counting.{nothing_missing}
use Rattle.lr_mend.proofs.ImageHistories.{open_image-own, open_image-other}
use Rattle.lr_mend.proofs.MendingLaws.{mended-more}

-- the open stretch of packets of one channel and application
abbrev pub open_stretch : List Good → Option (List Good)
open_stretch qs = find is_open (last_stretches qs)

-- the open stretch goes on with this packet
abbrev pub goes_on : Good → List Good → Bool
goes_on p s = eqb p.flags 0 && is_next (open_from s) p

abbrev pub ends : Good → List Good → Bool
ends p s = (eqb p.flags 2 && is_next (open_from s) p) && leb 10 (size_of (s ++ p ∷ []))

pub open_stretch-end : (qs : List Good) (p : Good) →
    open_stretch (qs ++ p ∷ []) ≡ longer (goes_on p) p (is_open (p ∷ [])) (open_stretch qs)
open_stretch-end qs p = find-end is_open (goes_on p) p (λ x xs. is_open-end x xs p) qs

pub file_stretch-end : (qs : List Good) (p : Good) →
    find is_file (last_stretches (qs ++ p ∷ [])) ≡ longer (ends p) p (is_file (p ∷ [])) (open_stretch qs)
file_stretch-end qs p = find-end is_file (ends p) p (λ x xs. is_file-end x xs p) qs

-- ---- what is the same where one stretch is that of another list

longer_alone : (Q : List Good → Bool) (p : Good) → ((s : List Good) → Q s ≡ false) → (o : Option (List Good)) →
    longer Q p true o ≡ Some (p ∷ [])
longer_alone Q p none None = refl
longer_alone Q p none (Some s) = rw (none s) refl

longer_some : (Q : List Good → Bool) (p : Good) (s r : List Good) (o' : Option (List Good)) (k : Bool) → Q s ≡ k →
    (Q s ≡ true → o' ≡ Some s) → cond k (Some (s ++ p ∷ [])) None ≡ Some r → longer Q p false o' ≡ Some r
longer_some Q p s r o' true k same e = rw (same k, k) e
longer_some Q p s r o' false k same e = cc

transfer : (Q : List Good → Bool) (p : Good) (alone : Bool) (o o' : Option (List Good)) (r : List Good) →
    (alone ≡ true → (s : List Good) → Q s ≡ false) →
    ((s : List Good) → o ≡ Some s → Q s ≡ true → o' ≡ Some s) →
    longer Q p alone o ≡ Some r → longer Q p alone o' ≡ Some r
transfer Q p true o o' r none same e =
    longer_alone Q p (none refl) o' ∙ sym (longer_alone Q p (none refl) o) ∙ e
transfer Q p false None o' r none same e = cc
transfer Q p false (Some s) o' r none same e =
    longer_some Q p s r o' (Q s) refl (same s refl) (let h : cond (Q s) (Some (s ++ p ∷ [])) None ≡ Some r = e in h)

alone_opens : (p : Good) → is_open (p ∷ []) ≡ true → (s : List Good) → goes_on p s ≡ false
alone_opens p is s =
    let one = and_left (eqb p.flags 1) _ (sym (is_open-one p) ∙ is) in
    let not_zero : eqb p.flags 0 ≡ false = grind (arith, nat_tests, one) in
    ap (λ (b : Bool). b && is_next (open_from s) p) not_zero

alone_is_file : (p : Good) → is_file (p ∷ []) ≡ true → (s : List Good) → ends p s ≡ false
alone_is_file p is s =
    let three = and_left (eqb p.flags 3) _ (and_left _ _ (sym (is_file-one p) ∙ is)) in
    let not_two : eqb p.flags 2 ≡ false = grind (arith, nat_tests, three) in
    ap (λ (b : Bool). (b && is_next (open_from s) p) && leb 10 (size_of (s ++ p ∷ []))) not_two

-- ---- counts of the last packets

last_count-end : (s : List Good) (p : Good) → last_count (s ++ p ∷ []) ≡ p.count
last_count-end [] p = refl
last_count-end (q ∷ []) p = refl
last_count-end (q ∷ r ∷ qs) p = last_count-end (r ∷ qs) p

count_of_some : (p : Good) (s r : List Good) (k alone : Bool) →
    cond k (Some (s ++ p ∷ [])) (cond alone (Some (p ∷ [])) None) ≡ Some r → last_count r ≡ p.count
count_of_some p s r true alone e =
    let same : s ++ p ∷ [] ≡ r = cc in ap last_count (sym same) ∙ last_count-end s p
count_of_some p s r false true e = let same : p ∷ [] ≡ r = cc in ap last_count (sym same)
count_of_some p s r false false e = cc

count_of_longer : (Q : List Good → Bool) (p : Good) (alone : Bool) (o : Option (List Good)) (r : List Good) →
    longer Q p alone o ≡ Some r → last_count r ≡ p.count
count_of_longer Q p true None r e = let same : p ∷ [] ≡ r = cc in ap last_count (sym same)
count_of_longer Q p false None r e = cc
count_of_longer Q p alone (Some s) r e =
    count_of_some p s r (Q s) alone e

count_of_begun : (p : Good) (image : Image) (k : Bool) (o : Option Opening) →
    cond k (option_map (image_begun_by p) o) None ≡ Some image → image.count ≡ p.count
count_of_begun p image true None e = cc
count_of_begun p image true (Some opening) e =
    ap (λ (i : Image). i.count) (let h : image ≡ image_begun_by p opening = cc in h)
count_of_begun p image false o e = cc

count_of_with : (p : Good) (old image : Image) (n : ℕ) (k : Bool) →
    cond k (Some (image_with old n p)) None ≡ Some image → image.count ≡ p.count
count_of_with p old image n true e = ap (λ (i : Image). i.count) (let h : image ≡ image_with old n p = cc in h)
count_of_with p old image n false e = cc

count_of_continued : (most : ℕ) (p : Good) (o : Option Image) (image : Image) →
    continued_image most o p ≡ Some image → image.count ≡ p.count
count_of_continued most p None image e = cc
count_of_continued most p (Some old) image e =
    count_of_with p old image (fillers_before most old p) (goes_on_with most old p) e

count_of_next : (most : ℕ) (p : Good) (o : Option Image) (image : Image) (first between : Bool) →
    eqb p.flags 1 ≡ first → eqb p.flags 0 ≡ between →
    next_image most o p ≡ Some image → image.count ≡ p.count
count_of_next most p o image true between f b e =
    count_of_begun p image (ltb 0 most) (opening_of p.body) (rw f at e)
count_of_next most p o image false true f b e = count_of_continued most p o image (rw (f, b) at e)
count_of_next most p o image false false f b e = let h : None ≡ Some image = rw (f, b) at e in cc

-- ---- the fillers before a packet that follows

none_if : (k : Bool) → ◌≡◌ {A = ℕ} (cond k 0 0) 0
none_if true = refl
none_if false = refl

pub fillers_before-nothing : (most : ℕ) (image : Image) (p : Good) → missing_before image p ≡ 0 →
    fillers_before most image p ≡ 0
unfolding fillers_before
fillers_before-nothing most image p none =
    let wanted : min (missing_before image p) (needed_before image p) ≡ 0 = omega (arith, none) in
    (λ i. cond (can_fill image p && leb (image.fillers + wanted i) most) (wanted i) 0)
    ∙ none_if (can_fill image p && leb (image.fillers + 0) most)

-- the packet's count follows that of the open stretch
pub follows : (s : List Good) (p : Good) → is_next (open_from s) p ≡ true
    → p.count ≡ (last_count s + 1) % SEQUENCE_COUNTS
unfolding is_next
follows s p next = eqb-true _ _ (and_left _ _ (and_left _ _ next))

gap_of-followed : (most : ℕ) (o : Option Image) (s : List Good) (p : Good) →
    ((image : Image) → o ≡ Some image → image.count ≡ last_count s) → is_next (open_from s) p ≡ true →
    gap_of most o p ≡ []
unfolding gap_of fillers_from
gap_of-followed most None s p same next = refl
gap_of-followed most (Some image) s p same next =
    let counted : p.count ≡ (image.count + 1) % SEQUENCE_COUNTS =
    follows s p next ∙ ap (λ n. (n + 1) % SEQUENCE_COUNTS) (sym (same image refl)) in
    let none = fillers_before-nothing most image p (nothing_missing image.count p.count counted) in
    ap (λ n. fillers_from (filling_before image p) n (count_after image.count)) none

-- ---- the mended packets without the flags

abbrev pub heard : ℕ → List Good → List Good
heard most packets = map packet_mended (mended_packets most packets)

pub unflagged : (gap : List Good) → map packet_mended (map filler_of gap) ≡ gap
unflagged [] = refl
unflagged (g ∷ gap) = ap (λ gs. g ∷ gs) (unflagged gap)

pub heard-more : (most : ℕ) (packets : List Good) (p : Good) →
    heard most (packets ++ p ∷ []) ≡ (heard most packets ++ gap_before most packets p) ++ p ∷ []
heard-more most packets p =
    ap (λ ms. map packet_mended ms) (mended-more most packets p)
    ∙ map-append packet_mended (mended_packets most packets) (mended_with most packets p)
    ∙ ap (λ ps. heard most packets ++ ps)
    (map-append packet_mended (map filler_of (gap_before most packets p)) (came p ∷ [])
    ∙ ap (λ ps. ps ++ p ∷ []) (unflagged (gap_before most packets p)))
    ∙ sym (append_assoc (heard most packets) (gap_before most packets p) (p ∷ []))

abbrev is_of_key : ℕ → ℕ → Good → Bool
is_of_key vc apid p = eqb p.vc vc && eqb p.apid apid

-- fillers are of the channel and application of their packet
others : (vc apid : ℕ) (filling : Filling) (n count : ℕ) → (eqb filling.vc vc && eqb filling.apid apid) ≡ false →
    packets_of_key vc apid (fillers_from filling n count) ≡ []
unfolding fillers_from
others vc apid filling zero count other = refl
others vc apid filling (suc n) count other = rw other (others vc apid filling n (count_after count) other)

gap_of-other : (most vc apid : ℕ) (o : Option Image) (p : Good) → is_of_key vc apid p ≡ false →
    packets_of_key vc apid (gap_of most o p) ≡ []
unfolding gap_of
gap_of-other most vc apid None p other = refl
gap_of-other most vc apid (Some image) p other =
    others vc apid (filling_before image p) (fillers_before most image p) (count_after image.count) other

-- ---- what holds after these packets

-- an open stretch of those that came is open among the mended ones too, and an open image beside it has the count of
-- its last packet
pub record Agrees (most : ℕ) (packets : List Good) : Type 0 where
  pub stretch : (vc apid : ℕ) (s : List Good) → open_stretch (packets_of_key vc apid packets) ≡ Some s →
      open_stretch (packets_of_key vc apid (heard most packets)) ≡ Some s
  pub count : (vc apid : ℕ) (s : List Good) (image : Image) →
      open_stretch (packets_of_key vc apid packets) ≡ Some s → open_image most vc apid packets ≡ Some image →
      image.count ≡ last_count s

-- nothing fills the gap before a packet that goes on with an open stretch
gap-followed : (most : ℕ) (packets : List Good) (p : Good) (s : List Good) → Agrees most packets →
    open_stretch (packets_of_key p.vc p.apid packets) ≡ Some s → is_next (open_from s) p ≡ true →
    gap_before most packets p ≡ []
unfolding gap_before
gap-followed most packets p s agrees here next =
    gap_of-followed most (open_image most p.vc p.apid packets) s p
    (λ image e. agrees.count p.vc p.apid s image here e) next

-- so the stretch is that of the mended packets and the fillers
same_stretch : (most : ℕ) (packets : List Good) (p : Good) (s : List Good) → Agrees most packets →
    open_stretch (packets_of_key p.vc p.apid packets) ≡ Some s → is_next (open_from s) p ≡ true →
    open_stretch (packets_of_key p.vc p.apid (heard most packets ++ gap_before most packets p)) ≡ Some s
same_stretch most packets p s agrees here next =
    ap (λ gap. open_stretch (packets_of_key p.vc p.apid (heard most packets ++ gap)))
    (gap-followed most packets p s agrees here next)
    ∙ ap (λ ps. open_stretch (packets_of_key p.vc p.apid ps)) (append-nil (heard most packets))
    ∙ agrees.stretch p.vc p.apid s here

-- ---- one packet more

stretch_own : (most : ℕ) (packets : List Good) (p : Good) (s : List Good) → Agrees most packets →
    open_stretch (packets_of_key p.vc p.apid (packets ++ p ∷ [])) ≡ Some s →
    open_stretch (packets_of_key p.vc p.apid (heard most (packets ++ p ∷ []))) ≡ Some s
stretch_own most packets p s agrees e =
    let before = packets_of_key p.vc p.apid packets in
    let mended = heard most packets ++ gap_before most packets p in
    ap (λ ps. open_stretch (packets_of_key p.vc p.apid ps)) (heard-more most packets p)
    ∙ ap open_stretch (packets_of_key-own mended p)
    ∙ open_stretch-end (packets_of_key p.vc p.apid mended) p
    ∙ transfer (goes_on p) p (is_open (p ∷ [])) (open_stretch before)
    (open_stretch (packets_of_key p.vc p.apid mended)) s
    (alone_opens p)
    (λ t here on. same_stretch most packets p t agrees here (and_right (eqb p.flags 0) (is_next (open_from t) p) on))
    (sym (open_stretch-end before p) ∙ sym (ap open_stretch (packets_of_key-own packets p)) ∙ e)

stretch_other : (most vc apid : ℕ) (packets : List Good) (p : Good) (s : List Good) → Agrees most packets →
    is_of_key vc apid p ≡ false →
    open_stretch (packets_of_key vc apid (packets ++ p ∷ [])) ≡ Some s →
    open_stretch (packets_of_key vc apid (heard most (packets ++ p ∷ []))) ≡ Some s
unfolding gap_before
stretch_other most vc apid packets p s agrees other e =
    let gap = gap_before most packets p in
    ap (λ ps. open_stretch (packets_of_key vc apid ps)) (heard-more most packets p)
    ∙ ap open_stretch (packets_of_key-other vc apid (heard most packets ++ gap) p other
    ∙ filter-append (is_of_key vc apid) (heard most packets) gap
    ∙ ap (λ ps. packets_of_key vc apid (heard most packets) ++ ps)
    (gap_of-other most vc apid (open_image most p.vc p.apid packets) p other)
    ∙ append-nil (packets_of_key vc apid (heard most packets)))
    ∙ agrees.stretch vc apid s (sym (ap open_stretch (packets_of_key-other vc apid packets p other)) ∙ e)

stretch_next : (most vc apid : ℕ) (packets : List Good) (p : Good) (s : List Good) → Agrees most packets →
    (own : Bool) → is_of_key vc apid p ≡ own →
    open_stretch (packets_of_key vc apid (packets ++ p ∷ [])) ≡ Some s →
    open_stretch (packets_of_key vc apid (heard most (packets ++ p ∷ []))) ≡ Some s
stretch_next most vc apid packets p s agrees true is e =
    let same = same_key p.vc vc p.apid apid is in
    (λ i. open_stretch (packets_of_key (sym same.0 i) (sym same.1 i) (heard most (packets ++ p ∷ []))))
    ∙ stretch_own most packets p s agrees
    ((λ i. open_stretch (packets_of_key (same.0 i) (same.1 i) (packets ++ p ∷ []))) ∙ e)
stretch_next most vc apid packets p s agrees false is e = stretch_other most vc apid packets p s agrees is e

count_own : (most : ℕ) (packets : List Good) (p : Good) (s : List Good) (image : Image) →
    open_stretch (packets_of_key p.vc p.apid (packets ++ p ∷ [])) ≡ Some s →
    open_image most p.vc p.apid (packets ++ p ∷ []) ≡ Some image → image.count ≡ last_count s
count_own most packets p s image e f =
    count_of_next most p (open_image most p.vc p.apid packets) image (eqb p.flags 1) (eqb p.flags 0) refl refl
    (sym (open_image-own most packets p) ∙ f)
    ∙ sym (count_of_longer (goes_on p) p (is_open (p ∷ [])) (open_stretch (packets_of_key p.vc p.apid packets)) s
    (sym (open_stretch-end (packets_of_key p.vc p.apid packets) p) ∙ sym
    (ap open_stretch (packets_of_key-own packets p)) ∙ e))

count_next : (most vc apid : ℕ) (packets : List Good) (p : Good) (s : List Good) (image : Image) →
    Agrees most packets → (own : Bool) → is_of_key vc apid p ≡ own →
    open_stretch (packets_of_key vc apid (packets ++ p ∷ [])) ≡ Some s →
    open_image most vc apid (packets ++ p ∷ []) ≡ Some image → image.count ≡ last_count s
count_next most vc apid packets p s image agrees true is e f =
    let same = same_key p.vc vc p.apid apid is in
    count_own most packets p s image
    ((λ i. open_stretch (packets_of_key (same.0 i) (same.1 i) (packets ++ p ∷ []))) ∙ e)
    ((λ i. open_image most (same.0 i) (same.1 i) (packets ++ p ∷ [])) ∙ f)
count_next most vc apid packets p s image agrees false is e f =
    agrees.count vc apid s image
    (sym (ap open_stretch (packets_of_key-other vc apid packets p is)) ∙ e)
    (sym (open_image-other most vc apid packets p is) ∙ f)

agrees_next : (most : ℕ) (packets : List Good) (p : Good) → Agrees most packets → Agrees most (packets ++ p ∷ [])
agrees_next most packets p agrees =
    record {
      stretch = λ vc apid s e. stretch_next most vc apid packets p s agrees (is_of_key vc apid p) refl e;
      count = λ vc apid s image e f. count_next most vc apid packets p s image agrees (is_of_key vc apid p) refl e f;
    }

agrees_none : (most : ℕ) → Agrees most []
agrees_none most = record { stretch = λ vc apid s e. cc; count = λ vc apid s image e f. cc }

agrees_after : (most : ℕ) (before later : List Good) → Agrees most before → Agrees most (before ++ later)
agrees_after most before [] agrees = subst (λ ps. Agrees most ps) (sym (append-nil before)) agrees
agrees_after most before (p ∷ later) agrees =
    subst (λ ps. Agrees most ps) (append_assoc before (p ∷ []) later)
    (agrees_after most (before ++ p ∷ []) later (agrees_next most before p agrees))

pub agrees : (most : ℕ) (packets : List Good) → Agrees most packets
agrees most packets = agrees_after most [] packets (agrees_none most)

-- ---- files

kept_file : (vc apid : ℕ) (o o' : Option (List Good)) (file : File) →
    ((r : List Good) → o ≡ Some r → o' ≡ Some r) →
    option_map (file_from vc apid) o ≡ Some file → option_map (file_from vc apid) o' ≡ Some file
kept_file vc apid None o' file same e = cc
kept_file vc apid (Some r) o' file same e = ap (option_map (file_from vc apid)) (same r refl) ∙ e

-- a file that ends with a packet ends with it after the mended packets and the fillers too
pub file_stays : (most : ℕ) (packets : List Good) (p : Good) (file : File) → file_at packets p ≡ Some file →
    file_at (heard most packets ++ gap_before most packets p) p ≡ Some file
unfolding file_at
file_stays most packets p file e =
    let before = packets_of_key p.vc p.apid packets in
    let mended = heard most packets ++ gap_before most packets p in
    let after = packets_of_key p.vc p.apid mended in
    ap (λ ps. option_map (file_from p.vc p.apid) (find is_file (last_stretches ps))) (packets_of_key-own mended p)
    ∙ ap (option_map (file_from p.vc p.apid)) (file_stretch-end after p)
    ∙ kept_file p.vc p.apid (longer (ends p) p (is_file (p ∷ [])) (open_stretch before))
    (longer (ends p) p (is_file (p ∷ [])) (open_stretch after)) file
    (λ r here. transfer (ends p) p (is_file (p ∷ [])) (open_stretch before) (open_stretch after) r (alone_is_file p)
    (λ t at on. same_stretch most packets p t (agrees most packets) at
    (and_right (eqb p.flags 2) (is_next (open_from t) p) (and_left _ (leb 10 (size_of (t ++ p ∷ []))) on))) here)
    (sym (ap (option_map (file_from p.vc p.apid)) (file_stretch-end before p))
    ∙ sym (ap (λ ps. option_map (file_from p.vc p.apid) (find is_file (last_stretches ps)))
    (packets_of_key-own packets p))
    ∙ e)
