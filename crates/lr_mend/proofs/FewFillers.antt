-- No file has more fillers than are allowed.
use Rattle.std.proofs.Common.{◌≡◌, ℕ, zero, suc, ◌+◌, ◌≤◌, Bool, true, false, cond, eqb, leb, ltb, ◌&&◌, ◌||◌}
use Rattle.std.proofs.Common.{Option, Some, None, List, [], ◌∷◌, ◌++◌, length, map, refl, sym, ap, ◌∙◌, subst, arith}
use Rattle.std.proofs.Common.{length-append, append_assoc}
use Rattle.std.specs.Prelude.{min}
use Rattle.std.specs.List.{fold}
use Rattle.std.specs.Option.{option_map}
use Rattle.std.proofs.lemmas.Bool.Decides.{nat_tests}
use Rattle.std.proofs.lemmas.List.{append-nil}
use Rattle.std.proofs.lemmas.List.Elements.{filter-append}
use Rattle.std.proofs.lemmas.List.Sums.{fold-append}
use Rattle.lr_bits.specs.Sizes.{most_file_bodies}
use Rattle.lr_packet.specs.Verdict.{Good}
use Rattle.lr_file.proofs.KeyLemmas.{same_key}
use Rattle.lr_mend.specs.Mending.{Image, Filling, Mended, came, filler_of, gap_before, gap_of, mended_packets}
use Rattle.lr_mend.specs.Mending.{next_image, continued_image, open_image, fillers_before, fillers_from, missing_before}
use Rattle.lr_mend.specs.Mending.{begins_file, can_fill, count_after, filling_before, goes_on, image_begun_by}
use Rattle.lr_mend.specs.Mending.{image_with}
use Rattle.lr_mend.specs.Mending.{needed_before}
use Rattle.lr_mend.specs.Openings.{Opening, opening_of}
use Rattle.lr_mend.specs.Seams.{Seams, no_seams, seams_with, mended_of_key, seams_of}
use Rattle.lr_mend.proofs.ImageHistories.{open_image-own, open_image-other}
use Rattle.lr_mend.proofs.MendingLaws.{mended-more}

abbrev is_of_key : ℕ → ℕ → Good → Bool
is_of_key vc apid p = eqb p.vc vc && eqb p.apid apid

-- how many fillers there are since the latest beginning
abbrev pub count_of : ℕ → ℕ → List Mended → ℕ
count_of vc apid ms = length (seams_of vc apid ms).fillers

-- ---- what fillers add

-- a filler begins no file
no_beginning : (b : Bool) → (eqb (cond b 2 0) 1 || eqb (cond b 2 0) 3) ≡ false
no_beginning true = refl
no_beginning false = refl

seams_after : (filling : Filling) (n count : ℕ) (seams : Seams) →
    length (fold seams_with seams (map filler_of (fillers_from filling n count))).fillers ≡ length seams.fillers + n
unfolding fillers_from
seams_after filling zero count seams = omega arith
seams_after filling (suc n) count seams =
    let next : Seams =
    record { packets = min most_file_bodies (seams.packets + 1); fillers = seams.fillers ++ seams.packets ∷ [] } in
    ap (λ (b : Bool). length (fold seams_with
    (cond b (record { packets = 1; fillers = [] }) next)
    (map filler_of (fillers_from filling n (count_after count)))).fillers) (no_beginning (filling.ends && eqb n 0))
    ∙ (let after = seams_after filling n (count_after count) next in
    omega (arith, after, length-append seams.fillers (seams.packets ∷ [])))

-- ---- whose they are

own_fillers : (filling : Filling) (n count vc apid : ℕ) → (eqb filling.vc vc && eqb filling.apid apid) ≡ true →
    mended_of_key vc apid (map filler_of (fillers_from filling n count)) ≡ map filler_of (fillers_from filling n count)
unfolding fillers_from
own_fillers filling zero count vc apid own = refl
own_fillers filling (suc n) count vc apid own =
    let first : Good = record {
      vc = filling.vc;
      apid = filling.apid;
      flags = cond (filling.ends && eqb n 0) 2 0;
      count = count;
      body = filling.body;
    } in
    rw own (ap (λ (ms : List Mended). filler_of first ∷ ms) (own_fillers filling n (count_after count) vc apid own))

other_fillers : (filling : Filling) (n count vc apid : ℕ) → (eqb filling.vc vc && eqb filling.apid apid) ≡ false →
    mended_of_key vc apid (map filler_of (fillers_from filling n count)) ≡ []
unfolding fillers_from
other_fillers filling zero count vc apid other = refl
other_fillers filling (suc n) count vc apid other =
    rw other (other_fillers filling n (count_after count) vc apid other)

-- how many fillers come before a packet
abbrev pub number_in : ℕ → Option Image → Good → ℕ
number_in most None p = 0
number_in most (Some image) p = fillers_before most image p

gap_adds : (most : ℕ) (o : Option Image) (p : Good) (seams : Seams) →
    length (fold seams_with seams (map filler_of (gap_of most o p))).fillers ≡ length seams.fillers + number_in most o p
unfolding gap_of
gap_adds most None p seams = omega arith
gap_adds most (Some image) p seams =
    seams_after (filling_before image p) (fillers_before most image p) (count_after image.count) seams

pub same_self : (n m : ℕ) → (eqb n n && eqb m m) ≡ true
same_self n m = grind (arith, nat_tests)

own_gap : (most : ℕ) (o : Option Image) (p : Good) →
    mended_of_key p.vc p.apid (map filler_of (gap_of most o p)) ≡ map filler_of (gap_of most o p)
unfolding gap_of
own_gap most None p = refl
own_gap most (Some image) p =
    own_fillers (filling_before image p) (fillers_before most image p) (count_after image.count) p.vc p.apid
    (same_self p.vc p.apid)

other_gap : (most vc apid : ℕ) (o : Option Image) (p : Good) → is_of_key vc apid p ≡ false →
    mended_of_key vc apid (map filler_of (gap_of most o p)) ≡ []
unfolding gap_of
other_gap most vc apid None p other = refl
other_gap most vc apid (Some image) p other =
    other_fillers (filling_before image p) (fillers_before most image p) (count_after image.count) vc apid other

-- ---- the image stays at the most

few_if : (n m most : ℕ) (can fits : Bool) → n ≤ most → leb (n + m) most ≡ fits → n + cond (can && fits) m 0 ≤ most
few_if n m most true true less fits = let h : n + m ≤ most = grind (arith, nat_tests, fits) in h
few_if n m most true false less fits = omega (arith, less)
few_if n m most false fits less is = omega (arith, less)

few_before : (most : ℕ) (image : Image) (p : Good) → image.fillers ≤ most →
    image.fillers + fillers_before most image p ≤ most
unfolding fillers_before
few_before most image p less =
    let wanted = min (missing_before image p) (needed_before image p) in
    few_if image.fillers wanted most (can_fill image p) (leb (image.fillers + wanted) most) less refl

-- ---- what holds after these packets

-- there are few fillers since the latest beginning, and an open image counts them
record AreFew (most vc apid : ℕ) (packets : List Good) : Type 0 where
  few : count_of vc apid (mended_packets most packets) ≤ most
  counted : (image : Image) → open_image most vc apid packets ≡ Some image →
      image.fillers ≡ count_of vc apid (mended_packets most packets)

-- after the fillers before a packet
few_with : (most : ℕ) (o : Option Image) (p : Good) (n : ℕ) → n ≤ most →
    ((image : Image) → o ≡ Some image → image.fillers ≡ n) → n + number_in most o p ≤ most
few_with most None p n few counted = omega (arith, few)
few_with most (Some image) p n few counted =
    let same = counted image refl in
    let h : image.fillers + fillers_before most image p ≤ most = few_before most image p (omega (arith, few, same)) in
    omega (arith, same, h)

gap_seams : (most : ℕ) (packets : List Good) (p : Good) →
    seams_of p.vc p.apid (mended_packets most packets ++ map filler_of (gap_before most packets p)) ≡
    fold seams_with (seams_of p.vc p.apid (mended_packets most packets))
    (map filler_of (gap_of most (open_image most p.vc p.apid packets) p))
unfolding seams_of gap_before
gap_seams most packets p =
    let gap = gap_of most (open_image most p.vc p.apid packets) p in
    let ms = mended_packets most packets in
    ap (fold seams_with no_seams) (filter-append (λ m. is_of_key p.vc p.apid m.packet) ms (map filler_of gap)
    ∙ ap (λ (l : List Mended). mended_of_key p.vc p.apid ms ++ l)
    (own_gap most (open_image most p.vc p.apid packets) p))
    ∙ fold-append seams_with no_seams (mended_of_key p.vc p.apid ms) (map filler_of gap)

pub count_with : (most : ℕ) (packets : List Good) (p : Good) →
    count_of p.vc p.apid (mended_packets most packets ++ map filler_of (gap_before most packets p)) ≡
    count_of p.vc p.apid (mended_packets most packets) + number_in most (open_image most p.vc p.apid packets) p
count_with most packets p =
    ap (λ (s : Seams). length s.fillers) (gap_seams most packets p)
    ∙ gap_adds most (open_image most p.vc p.apid packets) p (seams_of p.vc p.apid (mended_packets most packets))

few_then : (most : ℕ) (packets : List Good) (p : Good) → AreFew most p.vc p.apid packets →
    count_of p.vc p.apid (mended_packets most packets ++ map filler_of (gap_before most packets p)) ≤ most
few_then most packets p are =
    let h = few_with most (open_image most p.vc p.apid packets) p (count_of p.vc p.apid (mended_packets most packets))
    are.few are.counted in
    omega (arith, count_with most packets p, h)

-- ---- one packet more

-- with the packet that came
pub came_seams : (vc apid : ℕ) (ms : List Mended) (p : Good) → is_of_key vc apid p ≡ true →
    seams_of vc apid (ms ++ came p ∷ []) ≡ seams_with (seams_of vc apid ms) (came p)
unfolding seams_of
came_seams vc apid ms p own =
    ap (fold seams_with no_seams) (filter-append (λ m. is_of_key vc apid m.packet) ms (came p ∷ [])
    ∙ ap (λ (b : Bool). mended_of_key vc apid ms ++ cond b (came p ∷ []) []) own)
    ∙ fold-append seams_with no_seams (mended_of_key vc apid ms) (came p ∷ [])

-- a packet that came begins anew, or adds no filler
with_one : Seams → Seams
with_one seams = record { packets = min most_file_bodies (seams.packets + 1); fillers = seams.fillers ++ [] }

fillers_in : Seams → ℕ
fillers_in seams = length seams.fillers

pub came_count : (seams : Seams) (p : Good) (b : Bool) → begins_file p ≡ b →
    length (seams_with seams (came p)).fillers ≡ cond b 0 (length seams.fillers)
unfolding with_one fillers_in
came_count seams p true e =
    ap (λ (b : Bool). fillers_in (cond {A = Seams} b (record { packets = 1; fillers = [] }) (with_one seams))) e
came_count seams p false e =
    ap (λ (b : Bool). fillers_in (cond {A = Seams} b (record { packets = 1; fillers = [] }) (with_one seams))) e
    ∙ ap length (append-nil seams.fillers)

pub count_more : (most : ℕ) (packets : List Good) (p : Good) → (b : Bool) → begins_file p ≡ b →
    count_of p.vc p.apid (mended_packets most (packets ++ p ∷ [])) ≡
    cond b 0 (count_of p.vc p.apid (mended_packets most packets ++ map filler_of (gap_before most packets p)))
count_more most packets p b begins =
    let before = mended_packets most packets ++ map filler_of (gap_before most packets p) in
    ap (count_of p.vc p.apid) (mended-more most packets p
    ∙ sym (append_assoc (mended_packets most packets) (map filler_of (gap_before most packets p)) (came p ∷ [])))
    ∙ ap (λ (s : Seams). length s.fillers) (came_seams p.vc p.apid before p (same_self p.vc p.apid))
    ∙ came_count (seams_of p.vc p.apid before) p b begins

few_more : (most n : ℕ) (b : Bool) → n ≤ most → cond b 0 n ≤ most
few_more most n true few = omega arith
few_more most n false few = few

-- the fillers of the image after a packet
begun_none : (p : Good) (image : Image) (k : Bool) (o : Option Opening) →
    cond k (option_map (image_begun_by p) o) None ≡ Some image → image.fillers ≡ 0
begun_none p image true None e = cc
begun_none p image true (Some opening) e =
    ap (λ (i : Image). i.fillers) (let h : image ≡ image_begun_by p opening = cc in h)
begun_none p image false o e = cc

with_fillers : (p : Good) (old image : Image) (n : ℕ) (k : Bool) →
    cond k (Some (image_with old n p)) None ≡ Some image → image.fillers ≡ old.fillers + n
with_fillers p old image n true e =
    ap (λ (i : Image). i.fillers) (let h : image ≡ image_with old n p = cc in h)
with_fillers p old image n false e = cc

continued_fillers : (most : ℕ) (p : Good) (o : Option Image) (image : Image) (n : ℕ) →
    ((old : Image) → o ≡ Some old → old.fillers ≡ n) →
    continued_image most o p ≡ Some image → image.fillers ≡ n + number_in most o p
continued_fillers most p None image n same e = cc
continued_fillers most p (Some old) image n same e =
    with_fillers p old image (fillers_before most old p) (goes_on most old p) e
    ∙ ap (λ m. m + fillers_before most old p) (same old refl)

next_fillers : (most : ℕ) (p : Good) (o : Option Image) (image : Image) (n : ℕ) (first between : Bool) →
    eqb p.flags 1 ≡ first → eqb p.flags 0 ≡ between → ((old : Image) → o ≡ Some old → old.fillers ≡ n) →
    next_image most o p ≡ Some image → image.fillers ≡ cond (begins_file p) 0 (n + number_in most o p)
next_fillers most p o image n true between f b same e =
    begun_none p image (ltb 0 most) (opening_of p.body) (rw f at e)
    ∙ sym (ap (λ (b : Bool). cond (b || eqb p.flags 3) 0 (n + number_in most o p)) f)
next_fillers most p o image n false true f b same e =
    let not_three : eqb p.flags 3 ≡ false = grind (arith, nat_tests, b) in
    continued_fillers most p o image n same (rw (f, b) at e)
    ∙ sym (λ i. cond (f i || not_three i) 0 (n + number_in most o p))
next_fillers most p o image n false false f b same e = let h : None ≡ Some image = rw (f, b) at e in cc

are_own : (most : ℕ) (packets : List Good) (p : Good) → AreFew most p.vc p.apid packets →
    AreFew most p.vc p.apid (packets ++ p ∷ [])
are_own most packets p are =
    let n = count_of p.vc p.apid (mended_packets most packets) in
    let more = count_more most packets p (begins_file p) refl in
    record {
      few = subst (λ (m : ℕ). m ≤ most) (sym more) (few_more most
          (count_of p.vc p.apid (mended_packets most packets ++ map filler_of (gap_before most packets p)))
          (begins_file p) (few_then most packets p are));
      counted = λ image e.
          next_fillers most p (open_image most p.vc p.apid packets) image n (eqb p.flags 1) (eqb p.flags 0) refl refl
          are.counted (sym (open_image-own most packets p) ∙ e)
          ∙ ap (λ (m : ℕ). cond (begins_file p) 0 m) (sym (count_with most packets p))
          ∙ sym more;
    }

pub count_other : (most vc apid : ℕ) (packets : List Good) (p : Good) → is_of_key vc apid p ≡ false →
    count_of vc apid (mended_packets most (packets ++ p ∷ [])) ≡ count_of vc apid (mended_packets most packets)
unfolding seams_of gap_before
count_other most vc apid packets p other =
    let gap = gap_of most (open_image most p.vc p.apid packets) p in
    let ms = mended_packets most packets in
    let none : mended_of_key vc apid (map filler_of gap ++ came p ∷ []) ≡ [] =
    filter-append (λ m. is_of_key vc apid m.packet) (map filler_of gap) (came p ∷ [])
    ∙ (λ i. other_gap most vc apid (open_image most p.vc p.apid packets) p other i
    ++ cond (other i) (came p ∷ []) []) in
    ap (count_of vc apid) (mended-more most packets p)
    ∙ ap (λ (l : List Mended). length (fold seams_with no_seams l).fillers)
    (filter-append (λ m. is_of_key vc apid m.packet) ms (map filler_of gap ++ came p ∷ [])
    ∙ ap (λ (l : List Mended). mended_of_key vc apid ms ++ l) none ∙ append-nil (mended_of_key vc apid ms))

are_next : (most vc apid : ℕ) (packets : List Good) (p : Good) → ((vc apid : ℕ) → AreFew most vc apid packets) →
    (own : Bool) → is_of_key vc apid p ≡ own → AreFew most vc apid (packets ++ p ∷ [])
are_next most vc apid packets p are true is =
    let same = same_key p.vc vc p.apid apid is in
    subst (λ (vc : ℕ). AreFew most vc apid (packets ++ p ∷ [])) same.0
    (subst (λ (apid : ℕ). AreFew most p.vc apid (packets ++ p ∷ [])) same.1
    (are_own most packets p (are p.vc p.apid)))
are_next most vc apid packets p are false is =
    let same = count_other most vc apid packets p is in
    let before = are vc apid in
    record {
      few = subst (λ (m : ℕ). m ≤ most) (sym same) before.few;
      counted = λ image e. before.counted image (sym (open_image-other most vc apid packets p is) ∙ e) ∙ sym same;
    }

are_none : (most vc apid : ℕ) → AreFew most vc apid []
unfolding seams_of mended_packets open_image
are_none most vc apid = record { few = omega arith; counted = λ image e. cc }

are_after : (most : ℕ) (before later : List Good) → ((vc apid : ℕ) → AreFew most vc apid before) → (vc apid : ℕ) →
    AreFew most vc apid (before ++ later)
are_after most before [] are vc apid =
    subst (λ (ps : List Good). AreFew most vc apid ps) (sym (append-nil before)) (are vc apid)
are_after most before (p ∷ later) are vc apid =
    subst (λ (ps : List Good). AreFew most vc apid ps) (append_assoc before (p ∷ []) later)
    (are_after most (before ++ p ∷ []) later
    (λ vc apid. are_next most vc apid before p are (is_of_key vc apid p) refl) vc apid)

-- a file that ends with a packet, or with the fillers before it, has few fillers
pub few_fillers : (most : ℕ) (packets : List Good) (p : Good) →
    count_of p.vc p.apid (mended_packets most packets ++ map filler_of (gap_before most packets p)) ≤ most
few_fillers most packets p =
    few_then most packets p (are_after most [] packets (λ vc apid. are_none most vc apid) p.vc p.apid)
