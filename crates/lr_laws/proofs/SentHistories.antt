-- What stands for an image that was sent, packet by packet of those that came.
use Rattle.std.proofs.Common.{◌≡◌, ℕ, zero, suc, ◌+◌, ◌-◌, ◌*◌, ◌<◌, ◌≤◌, Bool, true, false, cond, eqb, ltb}
use Rattle.std.proofs.Common.{◌&&◌, ◌||◌, Option, Some, None, List, [], ◌∷◌, ◌++◌, length, drop, refl, sym, ap}
use Rattle.std.proofs.Common.{◌∙◌, subst, arith, append_assoc, length-append, inl, inr, max, min}
use Rattle.std.proofs.lemmas.Bool.Decides.{nat_tests}
use Rattle.std.proofs.lemmas.List.{append-nil}
use Rattle.std.proofs.lemmas.List.Elements.{filter-append}
use Rattle.std.proofs.Math.Nat.{one-mul}
use Rattle.lr_bits.specs.declared.sizes.TheConstants.{SEQUENCE_COUNTS}
use Rattle.lr_packet.specs.Verdict.{Good}
use Rattle.lr_file.specs.Files.{bodies_of, is_file, packets_of_key, size_of}
use Rattle.lr_file.specs.Standing.{is_open, last_count, open_from}
use Rattle.lr_file.specs.Steps.{is_next}
use Rattle.lr_file.proofs.Histories.{packets_of_key-other, packets_of_key-own}
use Rattle.lr_file.proofs.KeyLemmas.{same_key}
use Rattle.lr_file.proofs.Stretches.{and_left, and_right}
use Rattle.lr_mend.specs.Mending.{Filling, Image, begins_file, count_after, fillers_before, fillers_from}
use Rattle.lr_mend.specs.Mending.{filling_before, filling_of, gap_before, gap_of, image_with}
use Rattle.lr_mend.specs.Mending.{next_image, open_image, filler_units}
use Rattle.lr_mend.specs.Openings.{Opening, opening_of, units_in}
use Rattle.lr_mend.proofs.ImageHistories.{open_image-other, open_image-own}
use Rattle.lr_mend.proofs.StayingFiles.{goes_on, heard, heard-more, open_stretch, open_stretch-end}
use Rattle.lr_laws.specs.SentImages.{Came, first_came, then_came, since_beginning as since}
use Rattle.lr_laws.proofs.CodedPieces.{length-one, some_of, some_of-append}
use Rattle.lr_laws.proofs.MendedStretches.{Fits, Kept, Matches, SentFile, Standing, fillers_few}
use Rattle.lr_laws.proofs.MendedStretches.{fillers_pieces, fillers_stretch, made_of, made_some, open_more}
use Rattle.lr_laws.proofs.MendedStretches.{pieces_in, pieces_more, step_matches}
use Rattle.lr_laws.proofs.FirstPackets.{Grows, grows}
use Rattle.lr_laws.proofs.SentPackets.{EachOf, Gap, came_last, came_none, each_back, each_front}
use Rattle.lr_laws.proofs.SentPackets.{first_of_file, gap_is}
use Rattle.lr_laws.proofs.SinceBeginning.{is_of_key, since-one, since-own, size_of-append, size_of-one}
use Rattle.lr_laws.proofs.WholeImages.{begins_with, continued}
use Rattle.lr_laws.proofs.WholeImages.{units_same}
use Rattle.lr_laws.proofs.MendedStretches.{fillers_size}

-- ---- what is known of a packet that came after others

fits_all : (F : List ℕ → Type 0) (ms : List Good) → EachOf (λ p. p.flags ≡ 0 → F p.body) ms →
    EachOf (λ p. p.flags ≡ 0) ms → EachOf (λ p. F p.body) ms
fits_all F [] fits flags = tt
fits_all F (m ∷ ms) fits flags = (fits.0 flags.0, fits_all F ms fits.1 flags.1)

pub record Later (c : SentFile) (sent missing : List Good) (p : Good) : Type 0 where
  pub gap : Gap sent missing p
  pub fits : EachOf (λ m. Fits c.s c.lossless c.size m.body) missing
  pub own : p.flags ≡ 0 → Fits c.s c.lossless c.size p.body

record Head (sent : List Good) : Type 0 where
  head : Good
  rest : List Good
  is : sent ≡ head ∷ rest

came_some : (sent came : List Good) → Came sent came → Head sent
came_some _ _ (first_came p) = record { head = p; rest = []; is = refl }
came_some _ _ (then_came sent came missing p before few) =
    let it = came_some sent came before in
    record {
      head = it.head;
      rest = it.rest ++ (missing ++ p ∷ []);
      is = ap (λ (l : List Good). l ++ (missing ++ p ∷ [])) it.is;
    }

pub later_is : (c : SentFile) (sent came missing : List Good) (p : Good) (lost : List Good) → Came sent came →
    c.whole ≡ sent ++ (missing ++ (p ∷ lost)) → Later c sent missing p
later_is c sent came missing p lost before split =
    let it = came_some sent came before in
    let one : is_file ((it.head ∷ it.rest) ++ (missing ++ (p ∷ lost))) ≡ true =
    ap is_file (ap (λ (l : List Good). l ++ (missing ++ (p ∷ lost))) (sym it.is) ∙ sym split) ∙ c.is_one in
    let gap : Gap sent missing p =
    subst (λ (l : List Good). Gap l missing p) (sym it.is) (gap_is it.head it.rest missing p lost one) in
    let P : Good → Type 0 = λ (m : Good). m.flags ≡ 0 → Fits c.s c.lossless c.size m.body in
    let all : EachOf P (missing ++ (p ∷ lost)) =
    each_back P sent (missing ++ (p ∷ lost)) (subst (EachOf P) split c.fits) in
    record {
      gap = gap;
      fits = fits_all (Fits c.s c.lossless c.size) missing (each_front P missing (p ∷ lost) all) gap.flags;
      own = (each_back P missing (p ∷ lost) all).0;
    }

-- ---- a packet that goes on with the stretch, after the fillers before it

pub matches_gap : (c : SentFile) (most : ℕ) (packets : List Good) (p : Good) (sent missing : List Good) →
    Standing c most packets p.vc p.apid sent → Later c sent missing p → length missing < SEQUENCE_COUNTS →
    (o : Option Image) → open_image most p.vc p.apid packets ≡ o → (t : List Good) →
    open_stretch (packets_of_key p.vc p.apid (heard most packets ++ gap_of most o p)) ≡ Some t →
    is_next (open_from t) p ≡ true → Matches c (sent ++ (missing ++ p ∷ [])) (t ++ p ∷ [])
unfolding gap_of fillers_from
matches_gap c most packets p sent missing standing later few None was t e next =
    let filling : Filling = record { vc = p.vc; apid = p.apid; body = []; ends = false } in
    step_matches c (heard most packets) t p filling 0 0 sent missing standing.stretch later.gap few (omega arith)
    later.fits (λ k none. absurd (omega (arith, none))) e next
matches_gap c most packets p sent missing standing later few (Some image) was t e next =
    let n = fillers_before most image p in
    step_matches c (heard most packets) t p (filling_before image p) n (count_after image.count) sent missing
    standing.stretch later.gap few (fillers_few most image p) later.fits
    (λ k many. made_of c most image p sent k many (standing.image image was) (λ first. later.own)) e next

-- ---- one packet more of the image

record Continued (most : ℕ) (packets : List Good) (p : Good) (image : Image) : Type 0 where
  old : Image
  was : open_image most p.vc p.apid packets ≡ Some old
  is : image ≡ image_with old (fillers_before most old p) p
  flags : p.flags ≡ 0

went_on : (most : ℕ) (packets : List Good) (p : Good) (image : Image) (first between : Bool) → eqb p.flags 1 ≡ first →
    eqb p.flags 0 ≡ between → begins_file p ≡ false →
    next_image most (open_image most p.vc p.apid packets) p ≡ Some image → Continued most packets p image
went_on most packets p image true between f z none e =
    let never : true ≡ false = sym (ap (λ (b : Bool). b || eqb p.flags 3) f) ∙ none in absurd (cc never)
went_on most packets p image false true f z none e =
    let it = continued most p (open_image most p.vc p.apid packets) image (rw (f, z) at e) in
    record { old = it.0; was = it.1.0; is = it.1.1; flags = grind (arith, nat_tests, z) }
went_on most packets p image false false f z none e = let h : None ≡ Some image = rw (f, z) at e in absurd (cc h)

no_first : (p : Good) (first : Bool) → eqb p.flags 1 ≡ first → begins_file p ≡ false → eqb p.flags 1 ≡ false
no_first p true f none =
    let never : true ≡ false = sym (ap (λ (b : Bool). b || eqb p.flags 3) f) ∙ none in absurd (cc never)
no_first p false f none = f

module _ (c : SentFile) (most : ℕ) (packets : List Good) (p : Good) (sent missing : List Good)
    (standing : Standing c most packets p.vc p.apid sent) (later : Later c sent missing p)
    (few : length missing < SEQUENCE_COUNTS) where
  abbrev listened : List Good
  listened = heard most packets ++ gap_before most packets p

  not_one : eqb p.flags 1 ≡ false
  not_one = no_first p (eqb p.flags 1) refl later.gap.none_begins

  now_heard : packets_of_key p.vc p.apid (heard most (packets ++ p ∷ []))
      ≡ packets_of_key p.vc p.apid listened ++ p ∷ []
  now_heard = ap (packets_of_key p.vc p.apid) (heard-more most packets p) ∙ packets_of_key-own listened p

  now_stretch : (t : List Good) →
      open_stretch (packets_of_key p.vc p.apid (heard most (packets ++ p ∷ []))) ≡ Some t →
      Matches c (sent ++ (missing ++ p ∷ [])) t
  unfolding gap_before
  now_stretch t e =
      let more = open_more (packets_of_key p.vc p.apid listened) p t not_one (sym (ap open_stretch now_heard) ∙ e) in
      subst (Matches c (sent ++ (missing ++ p ∷ []))) (sym more.is)
      (matches_gap c most packets p sent missing standing later few (open_image most p.vc p.apid packets) refl more.s
      more.was (and_right (eqb p.flags 0) (is_next (open_from more.s) p) more.on))

  now_image : (image : Image) → open_image most p.vc p.apid (packets ++ p ∷ []) ≡ Some image →
      Continued most packets p image
  now_image image e =
      went_on most packets p image (eqb p.flags 1) (eqb p.flags 0) refl refl later.gap.none_begins
      (sym (open_image-own most packets p) ∙ e)

  now_kept : (image : Image) → open_image most p.vc p.apid (packets ++ p ∷ []) ≡ Some image →
      Kept c (sent ++ (missing ++ p ∷ [])) image
  now_kept image e =
      let it = now_image image e in
      let old = standing.image it.old it.was in
      record {
        coded = ap (λ (i : Image). i.coded) it.is ∙ old.coded;
        fits = λ _. subst (Fits c.s c.lossless c.size) (sym (ap (λ (i : Image). i.body) it.is)) (later.own it.flags);
        early = λ first.
            let never : true ≡ false = sym first ∙ ap (λ (i : Image). i.first) it.is in absurd (cc never);
      }

  unit_one : (image : Image) → image.coded ≡ true → filler_units image p ≡ 1
  unit_one image coded =
      ap (λ (b : Bool). max 1 (units_in b (filling_of image p))) coded
      ∙ (let e : max 1 (min 1 (length (filling_of image p))) ≡ 1 = omega arith in e)

  now_enough : (image : Image) (t : List Good) → open_image most p.vc p.apid (packets ++ p ∷ []) ≡ Some image →
      open_stretch (packets_of_key p.vc p.apid (heard most (packets ++ p ∷ []))) ≡ Some t → c.opening.coded ≡ true →
      c.total ≤ pieces_in c t + image.wanted
  unfolding gap_before gap_of
  now_enough image t e f coded =
      let it = now_image image e in
      let old = it.old in
      let kept = standing.image old it.was in
      let n = fillers_before most old p in
      let filling = filling_before old p in
      let fillers = fillers_from filling n (count_after old.count) in
      let more = open_more (packets_of_key p.vc p.apid listened) p t not_one (sym (ap open_stretch now_heard) ∙ f) in
      let filled = fillers_stretch filling n (count_after old.count) (heard most packets) more.s
      (sym (ap (λ (o : Option Image). open_stretch (packets_of_key p.vc p.apid (heard most packets ++ gap_of most o p)))
      it.was) ∙ more.was) in
      let m = standing.stretch filled.s filled.was in
      let base = standing.enough old filled.s it.was filled.was coded in
      let split : t ≡ filled.s ++ (fillers ++ p ∷ []) =
      more.is ∙ ap (λ (l : List Good). l ++ p ∷ []) filled.is ∙ append_assoc filled.s fillers (p ∷ []) in
      let is_coded = kept.coded ∙ coded in
      let many : length (some_of (bodies_of fillers)) ≡ n =
      fillers_pieces filling n (count_after old.count)
      (λ k some. made_some c filling (made_of c most old p sent k some kept (λ first. later.own))) in
      let ends : length (some_of (bodies_of (fillers ++ p ∷ []))) ≡ n + min 1 (length p.body) =
      ap (λ (l : List (List ℕ)). length (some_of l)) (bodies-end fillers p)
      ∙ ap length (some_of-append (bodies_of fillers) (p.body ∷ []))
      ∙ length-append (some_of (bodies_of fillers)) (some_of (p.body ∷ []))
      ∙ (λ i. many i + length-one p.body i) in
      let pieces : pieces_in c t ≡ pieces_in c filled.s + (n + min 1 (length p.body)) =
      ap (pieces_in c) split ∙ pieces_more c filled.s c.first m.others (fillers ++ p ∷ []) m.is
      ∙ ap (λ (k : ℕ). pieces_in c filled.s + k) ends in
      let wanted : image.wanted ≡ old.wanted - (n + min 1 (length p.body)) =
      ap (λ (i : Image). i.wanted) it.is
      ∙ (λ i. old.wanted - (unit_one old is_coded i * n + units_in (is_coded i) p.body))
      ∙ ap (λ (k : ℕ). old.wanted - (k + min 1 (length p.body))) (one-mul n) in
      omega (arith, base, pieces, wanted)
    where
      bodies-end : (qs : List Good) (q : Good) → bodies_of (qs ++ q ∷ []) ≡ bodies_of qs ++ q.body ∷ []
      bodies-end [] q = refl
      bodies-end (x ∷ qs) q = ap (λ (l : List (List ℕ)). x.body ∷ l) (bodies-end qs q)

  now_plain : (image : Image) (t : List Good) → open_image most p.vc p.apid (packets ++ p ∷ []) ≡ Some image →
      open_stretch (packets_of_key p.vc p.apid (heard most (packets ++ p ∷ []))) ≡ Some t → c.opening.coded ≡ false →
      c.skip + c.total ≤ size_of t + image.wanted
  unfolding gap_before gap_of
  now_plain image t e f plain =
      let it = now_image image e in
      let old = it.old in
      let n = fillers_before most old p in
      let filling = filling_before old p in
      let fillers = fillers_from filling n (count_after old.count) in
      let more = open_more (packets_of_key p.vc p.apid listened) p t not_one (sym (ap open_stretch now_heard) ∙ f) in
      let filled = fillers_stretch filling n (count_after old.count) (heard most packets) more.s
      (sym (ap (λ (o : Option Image). open_stretch (packets_of_key p.vc p.apid (heard most packets ++ gap_of most o p)))
      it.was) ∙ more.was) in
      let base = standing.plain old filled.s it.was filled.was plain in
      let is_plain : old.coded ≡ false = (standing.image old it.was).coded ∙ plain in
      let units = units_same most old p is_plain n refl in
      let size : size_of t ≡ size_of filled.s + n * length filling.body + length p.body =
      ap size_of (more.is ∙ ap (λ (l : List Good). l ++ p ∷ []) filled.is)
      ∙ size_of-append (filled.s ++ fillers) (p ∷ [])
      ∙ (λ i. size_of-append filled.s fillers i + size_of-one p i)
      ∙ ap (λ (k : ℕ). size_of filled.s + k + length p.body) (fillers_size filling n (count_after old.count)) in
      let wanted : image.wanted ≡ old.wanted - (filler_units old p * n + length p.body) =
      ap (λ (i : Image). i.wanted) it.is
      ∙ ap (λ (b : Bool). old.wanted - (filler_units old p * n + units_in b p.body)) is_plain in
      omega (arith, base, size, wanted, units)

  own_next : Standing c most (packets ++ p ∷ []) p.vc p.apid (sent ++ (missing ++ p ∷ []))
  own_next = record { stretch = now_stretch; image = now_kept; enough = now_enough; plain = now_plain }

-- ---- the first packet of the image

record Begun (c : SentFile) (image : Image) : Type 0 where
  coded : image.coded ≡ c.opening.coded
  first : image.first ≡ true
  wanted : image.wanted ≡ c.opening.wanted

module _ (c : SentFile) (most : ℕ) (packets : List Good) (p : Good) (same : p ≡ c.first)
    (begins : begins_file p ≡ true) where
  first_stretch : (t : List Good) →
      open_stretch (packets_of_key p.vc p.apid (heard most (packets ++ p ∷ []))) ≡ Some t → t ≡ p ∷ []
  unfolding Grows
  first_stretch t e =
      let qs = packets_of_key p.vc p.apid (heard most packets ++ gap_before most packets p) in
      let now : packets_of_key p.vc p.apid (heard most (packets ++ p ∷ [])) ≡ qs ++ p ∷ [] =
      ap (packets_of_key p.vc p.apid) (heard-more most packets p)
      ∙ packets_of_key-own (heard most packets ++ gap_before most packets p) p in
      elim (grows (goes_on p) p (is_open (p ∷ [])) (open_stretch qs) t
      (sym (open_stretch-end qs p) ∙ sym (ap open_stretch now) ∙ e)) as (λ _. t ≡ p ∷ []) [
        | inl alone ↦ alone.1
        | inr on ↦ absurd (not_between (and_left (eqb p.flags 0) (is_next (open_from on.0) p) on.1.1.0))
      ]
    where
      not_between : eqb p.flags 0 ≡ true → ⊥
      not_between is =
          let none : p.flags ≡ 0 = grind (arith, nat_tests, is) in
          let never : true ≡ false = sym begins ∙ ap (λ (n : ℕ). eqb n 1 || eqb n 3) none in
          cc never

  begun : (image : Image) (first between : Bool) → eqb p.flags 1 ≡ first → eqb p.flags 0 ≡ between →
      next_image most (open_image most p.vc p.apid packets) p ≡ Some image → Begun c image
  begun image true between f z e =
      let it = begins_with p image (ltb 0 most) (opening_of p.body) (rw f at e) in
      let both : Some it.0 ≡ Some c.opening =
      sym it.1.0 ∙ ap (λ (q : Good). opening_of q.body) same ∙ c.opens in
      let opening : it.0 ≡ c.opening = cc in
      record {
        coded = ap (λ (i : Image). i.coded) it.1.1 ∙ ap (λ (o : Opening). o.coded) opening;
        first = ap (λ (i : Image). i.first) it.1.1;
        wanted = ap (λ (i : Image). i.wanted) it.1.1 ∙ ap (λ (o : Opening). o.wanted) opening;
      }
  begun image false true f z e =
      let none : p.flags ≡ 0 = grind (arith, nat_tests, z) in
      let never : true ≡ false = sym begins ∙ ap (λ (n : ℕ). eqb n 1 || eqb n 3) none in
      absurd (cc never)
  begun image false false f z e = let h : None ≡ Some image = rw (f, z) at e in absurd (cc h)

  first_image : (image : Image) → open_image most p.vc p.apid (packets ++ p ∷ []) ≡ Some image → Begun c image
  first_image image e =
      begun image (eqb p.flags 1) (eqb p.flags 0) refl refl (sym (open_image-own most packets p) ∙ e)

  own_first : Standing c most (packets ++ p ∷ []) p.vc p.apid (p ∷ [])
  own_first = record {
    stretch = λ t e.
        let is = first_stretch t e in
        record {
          later = [];
          others = [];
          sent_is = ap (λ (q : Good). q ∷ []) same;
          is = is ∙ ap (λ (q : Good). q ∷ []) same;
          stand = tt;
          count = ap last_count is;
        };
    image = λ image e.
        let it = first_image image e in
        record {
          coded = it.coded;
          fits = λ later. let never : true ≡ false = sym it.first ∙ later in absurd (cc never);
          early = λ _. refl;
        };
    enough = λ image t e f coded.
        let it = first_image image e in
        let pieces : pieces_in c t ≡ length (some_of (drop c.skip c.first.body ∷ [])) =
        ap (pieces_in c) (first_stretch t f ∙ ap (λ (q : Good). q ∷ []) same) in
        omega (arith, c.accounts coded, pieces, it.wanted);
    plain = λ image t e f coded.
        let it = first_image image e in
        let size : size_of t ≡ length c.first.body =
        ap size_of (first_stretch t f) ∙ size_of-one p ∙ ap (λ (q : Good). length q.body) same in
        omega (arith, c.plain coded, size, it.wanted);
  }

-- ---- a packet of another channel or application

others : (vc apid : ℕ) (filling : Filling) (n count : ℕ) → (eqb filling.vc vc && eqb filling.apid apid) ≡ false →
    packets_of_key vc apid (fillers_from filling n count) ≡ []
unfolding fillers_from
others vc apid filling zero count other = refl
others vc apid filling (suc n) count other = rw other (others vc apid filling n (count_after count) other)

gap_of-other : (most vc apid : ℕ) (o : Option Image) (p : Good) → is_of_key vc apid p ≡ false →
    packets_of_key vc apid (gap_of most o p) ≡ []
unfolding gap_of
gap_of-other most vc apid None p other = refl
gap_of-other most vc apid (Some image) p other =
    others vc apid (filling_before image p) (fillers_before most image p) (count_after image.count) other

pub heard-other : (most vc apid : ℕ) (packets : List Good) (p : Good) → is_of_key vc apid p ≡ false →
    packets_of_key vc apid (heard most (packets ++ p ∷ [])) ≡ packets_of_key vc apid (heard most packets)
unfolding gap_before
heard-other most vc apid packets p other =
    let gap = gap_before most packets p in
    ap (packets_of_key vc apid) (heard-more most packets p)
    ∙ packets_of_key-other vc apid (heard most packets ++ gap) p other
    ∙ filter-append (is_of_key vc apid) (heard most packets) gap
    ∙ ap (λ (ps : List Good). packets_of_key vc apid (heard most packets) ++ ps)
    (gap_of-other most vc apid (open_image most p.vc p.apid packets) p other)
    ∙ append-nil (packets_of_key vc apid (heard most packets))

other_next : (c : SentFile) (most vc apid : ℕ) (packets : List Good) (p : Good) (sent : List Good) →
    is_of_key vc apid p ≡ false → Standing c most packets vc apid sent →
    Standing c most (packets ++ p ∷ []) vc apid sent
other_next c most vc apid packets p sent other standing =
    let same : open_stretch (packets_of_key vc apid (heard most packets))
    ≡ open_stretch (packets_of_key vc apid (heard most (packets ++ p ∷ []))) =
    ap open_stretch (sym (heard-other most vc apid packets p other)) in
    let images = sym (open_image-other most vc apid packets p other) in
    record {
      stretch = λ t e. standing.stretch t (same ∙ e);
      image = λ image e. standing.image image (images ∙ e);
      enough = λ image t e f. standing.enough image t (images ∙ e) (same ∙ f);
      plain = λ image t e f. standing.plain image t (images ∙ e) (same ∙ f);
    }

-- ---- all packets

abbrev AreStanding : SentFile → ℕ → List Good → Type 0
AreStanding c most packets = (vc apid : ℕ) (sent lost : List Good) → c.whole ≡ sent ++ lost →
    Came sent (since vc apid packets) → Standing c most packets vc apid sent

first_same : (c : SentFile) (p : Good) (lost : List Good) → c.whole ≡ p ∷ lost → p ≡ c.first
first_same c p lost split = let h : p ∷ lost ≡ c.first ∷ c.rest = sym split ∙ c.begins in cc

first_begun : (c : SentFile) (p : Good) (lost : List Good) → c.whole ≡ p ∷ lost → begins_file p ≡ true
first_begun c p lost split = first_of_file p lost (ap is_file (sym split) ∙ c.is_one)

pub next_split : (sent missing : List Good) (p : Good) (lost whole so_far : List Good) → whole ≡ so_far ++ lost →
    so_far ≡ sent ++ (missing ++ p ∷ []) → whole ≡ sent ++ (missing ++ (p ∷ lost))
next_split sent missing p lost whole so_far split is =
    split ∙ ap (λ (l : List Good). l ++ lost) is ∙ append_assoc sent (missing ++ p ∷ []) lost
    ∙ ap (λ (l : List Good). sent ++ l) (append_assoc missing (p ∷ []) lost)

own_standing : (c : SentFile) (most : ℕ) (packets : List Good) (p : Good) → AreStanding c most packets →
    (sent lost : List Good) → c.whole ≡ sent ++ lost → (begins : Bool) → begins_file p ≡ begins →
    Came sent (cond begins (p ∷ []) (since p.vc p.apid packets ++ p ∷ [])) →
    Standing c most (packets ++ p ∷ []) p.vc p.apid sent
own_standing c most packets p are sent lost split true is came =
    elim (came_last sent (p ∷ []) came [] p refl) as (λ _. Standing c most (packets ++ p ∷ []) p.vc p.apid sent) [
      | inl one ↦
          subst (Standing c most (packets ++ p ∷ []) p.vc p.apid) (sym one.0)
          (own_first c most packets p
          (first_same c p lost (split ∙ ap (λ (l : List Good). l ++ lost) one.0)) is)
      | inr before ↦ absurd (came_none before.sent [] before.before refl)
    ]
own_standing c most packets p are sent lost split false is came =
    elim (came_last sent (since p.vc p.apid packets ++ p ∷ []) came (since p.vc p.apid packets) p refl)
    as (λ _. Standing c most (packets ++ p ∷ []) p.vc p.apid sent) [
      | inl one ↦
          let begins = first_begun c p lost (split ∙ ap (λ (l : List Good). l ++ lost) one.0) in
          let never : true ≡ false = sym begins ∙ is in
          absurd (cc never)
      | inr before ↦
          let whole = next_split before.sent before.missing p lost c.whole sent split before.is in
          subst (Standing c most (packets ++ p ∷ []) p.vc p.apid) (sym before.is)
          (own_next c most packets p before.sent before.missing
          (are p.vc p.apid before.sent (before.missing ++ (p ∷ lost)) whole before.before)
          (later_is c before.sent (since p.vc p.apid packets) before.missing p lost before.before whole) before.few)
    ]

standing_next : (c : SentFile) (most : ℕ) (packets : List Good) (p : Good) → AreStanding c most packets →
    (vc apid : ℕ) (own : Bool) → is_of_key vc apid p ≡ own → (sent lost : List Good) → c.whole ≡ sent ++ lost →
    Came sent (since vc apid (packets ++ p ∷ [])) → Standing c most (packets ++ p ∷ []) vc apid sent
standing_next c most packets p are vc apid true is sent lost split came =
    let same = same_key p.vc vc p.apid apid is in
    let here : Came sent (since p.vc p.apid (packets ++ p ∷ [])) =
    subst (Came sent) (λ i. since (sym same.0 i) (sym same.1 i) (packets ++ p ∷ [])) came in
    subst (λ (vc : ℕ). Standing c most (packets ++ p ∷ []) vc apid sent) same.0
    (subst (λ (apid : ℕ). Standing c most (packets ++ p ∷ []) p.vc apid sent) same.1
    (own_standing c most packets p are sent lost split (begins_file p) refl
    (subst (Came sent) (since-own packets p) here)))
standing_next c most packets p are vc apid false is sent lost split came =
    other_next c most vc apid packets p sent is
    (are vc apid sent lost split (subst (Came sent) (since-one vc apid packets p false is) came))

standing_after : (c : SentFile) (most : ℕ) (before later : List Good) → AreStanding c most before →
    AreStanding c most (before ++ later)
standing_after c most before [] are = subst (AreStanding c most) (sym (append-nil before)) are
standing_after c most before (p ∷ later) are =
    subst (AreStanding c most) (append_assoc before (p ∷ []) later)
    (standing_after c most (before ++ p ∷ []) later
    (λ vc apid sent lost split came.
    standing_next c most before p are vc apid (is_of_key vc apid p) refl sent lost split came))

pub standing : (c : SentFile) (most : ℕ) (packets : List Good) → AreStanding c most packets
standing c most packets =
    standing_after c most [] packets (λ vc apid sent lost split came. absurd (came_none sent [] came refl))
