-- The packet with which a file and an open image begin.
use Rattle.std.proofs.Common.{◌≡◌, ℕ, zero, suc, ◌+◌, ◌<◌, Bool, true, false, cond, eqb, ltb, ◌&&◌, ◌||◌, Option}
use Rattle.std.proofs.Common.{Some, None, List, [], ◌∷◌, ◌++◌, map, refl, sym, ap, ◌∙◌, subst, arith}
use Rattle.std.proofs.Common.{inl, inr}
use Rattle.std.proofs.Common.{append_assoc}
use Rattle.std.specs.Prelude.{◌⊎◌, find}
use Rattle.std.specs.List.{fold}
use Rattle.std.specs.Option.{option_map}
use Rattle.std.proofs.lemmas.Bool.Decides.{nat_tests}
use Rattle.std.proofs.lemmas.List.{append-nil}
use Rattle.std.proofs.lemmas.List.Elements.{filter-append}
use Rattle.std.proofs.lemmas.List.Sums.{fold-append}
use Rattle.lr_packet.specs.Verdict.{Good}
use Rattle.lr_bits.specs.File.{File}
use Rattle.lr_file.specs.Files.{bodies_of, file_at, file_from, is_file, last_stretches, packets_of_key}
use Rattle.lr_file.specs.Standing.{is_open, open_from}
use Rattle.lr_file.specs.Steps.{is_next}
use Rattle.lr_file.proofs.Histories.{packets_of_key-own}
use Rattle.lr_file.proofs.KeyLemmas.{same_key}
use Rattle.lr_file.proofs.Stretches.{and_left, is_file-one, is_open-one, longer}
use Rattle.lr_mend.specs.Mending.{Image, begins_file, continued_image}
use Rattle.lr_mend.specs.Mending.{gap_before}
use Rattle.lr_mend.specs.Mending.{filler_of, image_begun_by, mended_packets, next_image, open_image}
use Rattle.lr_mend.specs.Openings.{Opening, opening_of}
use Rattle.lr_mend.specs.Seams.{Seams, seams_of}
use Rattle.lr_mend.proofs.FewFillers.{count_more, count_of, count_other, count_with}
use Rattle.lr_mend.proofs.FewFillers.{number_in, same_self}
use Rattle.lr_mend.proofs.ImageHistories.{open_image-own, open_image-other}
use Rattle.lr_mend.proofs.StayingFiles.{ends, file_stretch-end, goes_on, open_stretch, open_stretch-end}

abbrev pub is_of_key : ℕ → ℕ → Good → Bool
is_of_key vc apid p = eqb p.vc vc && eqb p.apid apid

-- ---- the latest packet of a key that begins a file

abbrev pub begun : Option Good → Good → Option Good
begun b p = cond (begins_file p) (Some p) b

abbrev pub latest : ℕ → ℕ → List Good → Option Good
latest vc apid ps = fold begun None (packets_of_key vc apid ps)

pub latest-one : (vc apid : ℕ) (ps : List Good) (p : Good) (own : Bool) → is_of_key vc apid p ≡ own →
    latest vc apid (ps ++ p ∷ []) ≡ cond own (begun (latest vc apid ps) p) (latest vc apid ps)
latest-one vc apid ps p true is =
    ap (fold begun None) (filter-append (is_of_key vc apid) ps (p ∷ [])
    ∙ ap (λ (b : Bool). packets_of_key vc apid ps ++ cond b (p ∷ []) []) is)
    ∙ fold-append begun None (packets_of_key vc apid ps) (p ∷ [])
latest-one vc apid ps p false is =
    ap (fold begun None) (filter-append (is_of_key vc apid) ps (p ∷ [])
    ∙ ap (λ (b : Bool). packets_of_key vc apid ps ++ cond b (p ∷ []) []) is
    ∙ append-nil (packets_of_key vc apid ps))

pub latest-own : (ps : List Good) (p : Good) → latest p.vc p.apid (ps ++ p ∷ []) ≡ begun (latest p.vc p.apid ps) p
latest-own ps p = latest-one p.vc p.apid ps p true (same_self p.vc p.apid)

-- it opens an image
pub record Opens (o : Option Good) : Type 0 where
  pub begin : Good
  pub is : o ≡ Some begin
  pub opening : Opening
  pub opens : opening_of begin.body ≡ Some opening

-- ---- where there are fillers since then, or an image is open, it opens one

pub record Opened (most : ℕ) (packets : List Good) (vc apid : ℕ) : Type 0 where
  pub fillers : 0 < count_of vc apid (mended_packets most packets) → Opens (latest vc apid packets)
  pub image : (image : Image) → open_image most vc apid packets ≡ Some image → Opens (latest vc apid packets)

-- fillers come of an open image
some_number : (most : ℕ) (p : Good) (o : Option Image) → 0 < number_in most o p → (image : Image) × (o ≡ Some image)
some_number most p None some = absurd (omega (arith, some))
some_number most p (Some image) some = (image, refl)

by_count : (most : ℕ) (packets : List Good) (p : Good) → Opened most packets p.vc p.apid → (n : ℕ) →
    count_of p.vc p.apid (mended_packets most packets) ≡ n →
    0 < n + number_in most (open_image most p.vc p.apid packets) p → Opens (latest p.vc p.apid packets)
by_count most packets p are zero is some =
    let it = some_number most p (open_image most p.vc p.apid packets) (omega (arith, some)) in
    are.image it.0 it.1
by_count most packets p are (suc n) is some = are.fillers (omega (arith, is))

-- after the fillers before a packet too
pub opened_before : (most : ℕ) (packets : List Good) (p : Good) → Opened most packets p.vc p.apid →
    0 < count_of p.vc p.apid (mended_packets most packets ++ map filler_of (gap_before most packets p)) →
    Opens (latest p.vc p.apid packets)
opened_before most packets p are some =
    by_count most packets p are _ refl (omega (arith, some, count_with most packets p))

pub still : (o : Option Good) (p : Good) → begins_file p ≡ false → Opens o → Opens (begun o p)
still o p none it = subst Opens (sym (ap (λ (b : Bool). cond b (Some p) o) none)) it

fillers_own : (most : ℕ) (packets : List Good) (p : Good) → Opened most packets p.vc p.apid → (b : Bool) →
    begins_file p ≡ b → 0 < count_of p.vc p.apid (mended_packets most (packets ++ p ∷ [])) →
    Opens (begun (latest p.vc p.apid packets) p)
fillers_own most packets p are true e some = absurd (omega (arith, some, count_more most packets p true e))
fillers_own most packets p are false e some =
    still (latest p.vc p.apid packets) p e (opened_before most packets p are
    (omega (arith, some, count_more most packets p false e)))

begun_opens : (p : Good) (image : Image) (k : Bool) (o : Option Opening) →
    cond k (option_map (image_begun_by p) o) None ≡ Some image → (opening : Opening) × (o ≡ Some opening)
begun_opens p image true None e = cc
begun_opens p image true (Some opening) e = (opening, refl)
begun_opens p image false o e = cc

continued_was : (most : ℕ) (p : Good) (o : Option Image) (image : Image) → continued_image most o p ≡ Some image →
    (old : Image) × (o ≡ Some old)
continued_was most p None image e = cc
continued_was most p (Some old) image e = (old, refl)

image_own : (most : ℕ) (p : Good) (o : Option Image) (b : Option Good) → ((old : Image) → o ≡ Some old → Opens b) →
    (image : Image) (first between : Bool) → eqb p.flags 1 ≡ first → eqb p.flags 0 ≡ between →
    next_image most o p ≡ Some image → Opens (begun b p)
image_own most p o b was image true between f z e =
    let opening = begun_opens p image (ltb 0 most) (opening_of p.body) (rw f at e) in
    record {
      begin = p;
      is = ap (λ (first : Bool). cond (first || eqb p.flags 3) (Some p) b) f;
      opening = opening.0;
      opens = opening.1;
    }
image_own most p o b was image false true f z e =
    let old = continued_was most p o image (rw (f, z) at e) in
    let not_three : eqb p.flags 3 ≡ false = grind (arith, nat_tests, z) in
    still b p (λ i. f i || not_three i) (was old.0 old.1)
image_own most p o b was image false false f z e = let h : None ≡ Some image = rw (f, z) at e in cc

opened_own : (most : ℕ) (packets : List Good) (p : Good) → Opened most packets p.vc p.apid →
    Opened most (packets ++ p ∷ []) p.vc p.apid
opened_own most packets p are =
    let same = sym (latest-own packets p) in
    record {
      fillers = λ some. subst Opens same (fillers_own most packets p are (begins_file p) refl some);
      image = λ image e. subst Opens same (image_own most p (open_image most p.vc p.apid packets)
          (latest p.vc p.apid packets) are.image image (eqb p.flags 1) (eqb p.flags 0) refl refl
          (sym (open_image-own most packets p) ∙ e));
    }

opened_next : (most vc apid : ℕ) (packets : List Good) (p : Good) → ((vc apid : ℕ) → Opened most packets vc apid) →
    (own : Bool) → is_of_key vc apid p ≡ own → Opened most (packets ++ p ∷ []) vc apid
opened_next most vc apid packets p are true is =
    let same = same_key p.vc vc p.apid apid is in
    subst (λ (vc : ℕ). Opened most (packets ++ p ∷ []) vc apid) same.0
    (subst (λ (apid : ℕ). Opened most (packets ++ p ∷ []) p.vc apid) same.1
    (opened_own most packets p (are p.vc p.apid)))
opened_next most vc apid packets p are false is =
    let same = sym (latest-one vc apid packets p false is) in
    let before = are vc apid in
    record {
      fillers = λ some. subst Opens same
          (before.fillers (subst (λ (n : ℕ). 0 < n) (count_other most vc apid packets p is) some));
      image = λ image e. subst Opens same (before.image image (sym (open_image-other most vc apid packets p is) ∙ e));
    }

opened_none : (most vc apid : ℕ) → Opened most [] vc apid
unfolding mended_packets open_image Rattle.lr_mend.specs.Seams.seams_of
opened_none most vc apid = record { fillers = λ some. absurd (omega (arith, some)); image = λ image e. cc }

opened_after : (most : ℕ) (before later : List Good) → ((vc apid : ℕ) → Opened most before vc apid) → (vc apid : ℕ) →
    Opened most (before ++ later) vc apid
opened_after most before [] are vc apid =
    subst (λ (ps : List Good). Opened most ps vc apid) (sym (append-nil before)) (are vc apid)
opened_after most before (p ∷ later) are vc apid =
    subst (λ (ps : List Good). Opened most ps vc apid) (append_assoc before (p ∷ []) later)
    (opened_after most (before ++ p ∷ []) later
    (λ vc apid. opened_next most vc apid before p are (is_of_key vc apid p) refl) vc apid)

pub opened : (most : ℕ) (packets : List Good) (vc apid : ℕ) → Opened most packets vc apid
opened most packets = opened_after most [] packets (opened_none most)

-- ---- a file begins with it

-- what one packet more makes of a stretch: it alone, or the stretch and it
unfoldable pub Grows : (List Good → Bool) → Good → Bool → Option (List Good) → List Good → Type 0
Grows Q p alone o r = ((alone ≡ true) × (r ≡ p ∷ []))
    ⊎ ((s : List Good) × ((o ≡ Some s) × ((Q s ≡ true) × (r ≡ s ++ p ∷ []))))

grows_alone : (Q : List Good → Bool) (p : Good) (alone : Bool) (o : Option (List Good)) (r : List Good) →
    cond alone (Some (p ∷ [])) None ≡ Some r → Grows Q p alone o r
unfolding Grows
grows_alone Q p true o r e = inl (refl, (let h : p ∷ [] ≡ r = cc in sym h))
grows_alone Q p false o r e = cc

grows_with : (Q : List Good → Bool) (p : Good) (alone : Bool) (s r : List Good) (k : Bool) → Q s ≡ k →
    cond k (Some (s ++ p ∷ [])) (cond alone (Some (p ∷ [])) None) ≡ Some r → Grows Q p alone (Some s) r
unfolding Grows
grows_with Q p alone s r true is e = inr (s, (refl, (is, (let h : s ++ p ∷ [] ≡ r = cc in sym h))))
grows_with Q p alone s r false is e = grows_alone Q p alone (Some s) r e

pub grows : (Q : List Good → Bool) (p : Good) (alone : Bool) (o : Option (List Good)) (r : List Good) →
    longer Q p alone o ≡ Some r → Grows Q p alone o r
grows Q p alone None r e = grows_alone Q p alone None r e
grows Q p alone (Some s) r e = grows_with Q p alone s r (Q s) refl e

-- the stretch begins with this packet
record HasHead (s : List Good) (o : Option Good) : Type 0 where
  head : Good
  rest : List Good
  split : s ≡ head ∷ rest
  is : o ≡ Some head

pub no_beginning : (p : Good) (n : ℕ) → eqb p.flags n ≡ true → eqb n 1 ≡ false → eqb n 3 ≡ false → begins_file p ≡ false
no_beginning p n is one three =
    let same : p.flags ≡ n = grind (arith, nat_tests, is) in
    let a : eqb p.flags 1 ≡ false = ap (λ k. eqb k 1) same ∙ one in
    let b : eqb p.flags 3 ≡ false = ap (λ k. eqb k 3) same ∙ three in
    λ i. a i || b i

longer_head : (s : List Good) (o : Option Good) (p : Good) → begins_file p ≡ false → HasHead s o →
    HasHead (s ++ p ∷ []) (begun o p)
longer_head s o p none it =
    record {
      head = it.head;
      rest = it.rest ++ p ∷ [];
      split = ap (λ l. l ++ p ∷ []) it.split;
      is = ap (λ (b : Bool). cond b (Some p) o) none ∙ it.is;
    }

abbrev HaveHeads : List Good → Type 0
HaveHeads qs = (s : List Good) → open_stretch qs ≡ Some s → HasHead s (fold begun None qs)

one_head : (p : Good) (o : Option Good) → eqb p.flags 1 ≡ true → HasHead (p ∷ []) (begun o p)
one_head p o one =
    record { head = p; rest = []; split = refl; is = ap (λ (b : Bool). cond (b || eqb p.flags 3) (Some p) o) one }

heads_next : (qs : List Good) (p : Good) → HaveHeads qs → HaveHeads (qs ++ p ∷ [])
unfolding Grows
heads_next qs p have s e =
    let cases = grows (goes_on p) p (is_open (p ∷ [])) (open_stretch qs) s (sym (open_stretch-end qs p) ∙ e) in
    let same = fold-append begun None qs (p ∷ []) in
    subst (HasHead s) (sym same) (elim cases as (λ _. HasHead s (begun (fold begun None qs) p)) [
      | inl alone ↦
          subst (λ (l : List Good). HasHead l (begun (fold begun None qs) p)) (sym alone.1)
          (one_head p (fold begun None qs) (and_left (eqb p.flags 1) _ (sym (is_open-one p) ∙ alone.0)))
      | inr on ↦
          subst (λ (l : List Good). HasHead l (begun (fold begun None qs) p)) (sym on.1.1.1)
          (longer_head on.0 (fold begun None qs) p
          (no_beginning p 0 (and_left (eqb p.flags 0) (is_next (open_from on.0) p) on.1.1.0) refl refl)
          (have on.0 on.1.0))
    ])

heads_after : (before later : List Good) → HaveHeads before → HaveHeads (before ++ later)
heads_after before [] have = subst HaveHeads (sym (append-nil before)) have
heads_after before (p ∷ later) have =
    subst HaveHeads (append_assoc before (p ∷ []) later)
    (heads_after (before ++ p ∷ []) later (heads_next before p have))

heads : (qs : List Good) → HaveHeads qs
heads qs = heads_after [] qs (λ s e. cc)

-- the first body of a file that ends with a packet
pub record HasFirst (file : File) (o : Option Good) : Type 0 where
  pub first : Good
  pub rest : List (List ℕ)
  pub split : file.bodies ≡ first.body ∷ rest
  pub is : o ≡ Some first

file_first : (vc apid : ℕ) (o : Option (List Good)) (file : File) → option_map (file_from vc apid) o ≡ Some file →
    (b : Option Good) → ((s : List Good) → o ≡ Some s → HasHead s b) → HasFirst file b
file_first vc apid None file e b has = cc
file_first vc apid (Some s) file e b has =
    let same : file_from vc apid s ≡ file = cc in
    let it = has s refl in
    record {
      first = it.head;
      rest = bodies_of it.rest;
      split = sym (ap (λ (f : File). f.bodies) same) ∙ ap bodies_of it.split;
      is = it.is;
    }

alone_file : (p : Good) (o : Option Good) → eqb p.flags 3 ≡ true → HasHead (p ∷ []) (begun o p)
alone_file p o three =
    record {
      head = p;
      rest = [];
      split = refl;
      is = ap (λ (b : Bool). cond (eqb p.flags 1 || b) (Some p) o) three
          ∙ ap (λ (b : Bool). cond b (Some p) o) (or_true (eqb p.flags 1));
    }
  where
    or_true : (b : Bool) → (b || true) ≡ true
    or_true true = refl
    or_true false = refl

pub first_is : (ps : List Good) (p : Good) (file : File) → file_at ps p ≡ Some file →
    HasFirst file (latest p.vc p.apid (ps ++ p ∷ []))
unfolding file_at Grows
first_is ps p file e =
    let qs = packets_of_key p.vc p.apid ps in
    let b = latest p.vc p.apid ps in
    let found = sym (ap (λ l. option_map (file_from p.vc p.apid) (find is_file (last_stretches l)))
    (packets_of_key-own ps p)
    ∙ ap (option_map (file_from p.vc p.apid)) (file_stretch-end qs p)) ∙ e in
    file_first p.vc p.apid (longer (ends p) p (is_file (p ∷ [])) (open_stretch qs)) file found
    (latest p.vc p.apid (ps ++ p ∷ []))
    (λ s is. let cases = grows (ends p) p (is_file (p ∷ [])) (open_stretch qs) s is in
    subst (HasHead s) (sym (latest-own ps p)) (elim cases as (λ _. HasHead s (begun b p)) [
      | inl alone ↦
          subst (λ (l : List Good). HasHead l (begun b p)) (sym alone.1)
          (alone_file p b (and_left (eqb p.flags 3) _ (and_left _ _ (sym (is_file-one p) ∙ alone.0))))
      | inr on ↦
          subst (λ (l : List Good). HasHead l (begun b p)) (sym on.1.1.1)
          (longer_head on.0 b p
          (no_beginning p 2 (and_left (eqb p.flags 2) (is_next (open_from on.0) p) (and_left _ _ on.1.1.0)) refl refl)
          (heads qs on.0 on.1.0))
    ]))
