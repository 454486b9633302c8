-- The mended packets of an image that was sent: as far as they are open, they stand for what was sent so far.
use Rattle.std.proofs.Common.{◌*◌}
use Rattle.std.proofs.Common.{◌≡◌, ℕ, zero, suc, ◌+◌, ◌-◌, ◌%◌, ◌<◌, ◌≤◌, Bool, true, false, cond, eqb, leb}
use Rattle.std.proofs.Common.{not, ◌&&◌, Option, Some, None, List, [], ◌∷◌, ◌++◌, length, drop, refl, sym, ap}
use Rattle.std.proofs.Common.{◌∙◌, subst, arith, append_assoc, length-append, inl, inr, min, replicate}
use Rattle.std.specs.Prelude.{is_some}
use Rattle.std.proofs.lemmas.Bool.Decides.{nat_tests}
use Rattle.std.proofs.lemmas.List.{append-nil, length-replicate, map-append}
use Rattle.std.proofs.Math.Nat.{mod-lt, suc-mul, zero-mul}
use Rattle.std.specs.List.{concat}
use Rattle.lr_bits.specs.declared.sizes.TheConstants.{SEQUENCE_COUNTS}
use Rattle.lr_headers.specs.declared.fields.Structure.{Structure}
use Rattle.lr_headers.specs.declared.fields.Lossless.{Lossless}
use Rattle.lr_image.specs.Images.{line_form}
use Rattle.lr_image.specs.Pieces.{piece_with}
use Rattle.lr_packet.specs.Verdict.{Good}
use Rattle.lr_file.specs.Files.{bodies_of, is_file, packets_of_key, size_of}
use Rattle.lr_file.specs.Standing.{is_open, last_count, open_from}
use Rattle.lr_file.specs.Steps.{is_next}
use Rattle.lr_file.proofs.Histories.{packets_of_key-own}
use Rattle.lr_file.proofs.Stretches.{and_left, and_right, is_open-one}
use Rattle.lr_mend.specs.Mending.{Filling, Image, can_fill, count_after, fillers_before, fillers_from}
use Rattle.lr_mend.specs.Mending.{filling_before, filling_of}
use Rattle.lr_mend.specs.Mending.{missing_before, needed_before, open_image}
use Rattle.lr_mend.specs.Openings.{Opening, opening_of}
use Rattle.lr_mend.proofs.StayingFiles.{follows, goes_on, heard, open_stretch, open_stretch-end}
use Rattle.lr_laws.specs.SentImages.{CanStandFor, HasLines, StandFor}
use Rattle.lr_laws.proofs.CodedPieces.{some_of, some_of-append}
use Rattle.lr_laws.proofs.FirstPackets.{Grows, grows}
use Rattle.lr_laws.proofs.SentPackets.{EachOf, Gap, counts_same, count_more, last_count-end}
use Rattle.lr_laws.proofs.WholeImages.{some_filling}

-- ---- what was sent

-- a body between that fillers can be made of
abbrev pub Fits : Structure → Option Lossless → ℕ → List ℕ → Type 0
Fits s None size body = length body ≡ size
Fits s (Some l) size body = HasLines (line_form s l) l.lines body

-- a file of an image: how many bytes stand before its data, and how many pieces its lines take where they are coded,
-- or how many bytes
pub record SentFile : Type 0 where
  pub s : Structure
  pub lossless : Option Lossless
  pub size : ℕ
  pub whole : List Good
  pub is_one : is_file whole ≡ true
  pub first : Good
  pub rest : List Good
  pub begins : whole ≡ first ∷ rest
  pub opening : Opening
  pub opens : opening_of first.body ≡ Some opening
  pub coded : opening.coded ≡ is_some lossless
  pub fits : EachOf (λ p. p.flags ≡ 0 → Fits s lossless size p.body) whole
  pub skip : ℕ
  pub total : ℕ
  pub inside : skip ≤ length first.body
  pub plain : opening.coded ≡ false → skip + total ≤ length first.body + opening.wanted
  pub accounts : opening.coded ≡ true → total ≤ length (some_of (drop skip first.body ∷ [])) + opening.wanted

-- how many pieces the bodies have
abbrev pub pieces_from : ℕ → List (List ℕ) → ℕ
pieces_from skip [] = 0
pieces_from skip (body ∷ bodies) = length (some_of (drop skip body ∷ bodies))

abbrev pub pieces_in : SentFile → List Good → ℕ
pieces_in c t = pieces_from c.skip (bodies_of t)

-- a stretch of mended packets stands for what was sent so far
pub record Matches (c : SentFile) (sent t : List Good) : Type 0 where
  pub later : List Good
  pub others : List Good
  pub sent_is : sent ≡ c.first ∷ later
  pub is : t ≡ c.first ∷ others
  pub stand : StandFor c.s c.lossless (bodies_of later) (bodies_of others)
  pub count : last_count t ≡ last_count sent

-- the open image is that of the file
pub record Kept (c : SentFile) (sent : List Good) (image : Image) : Type 0 where
  pub coded : image.coded ≡ c.opening.coded
  pub fits : image.first ≡ false → Fits c.s c.lossless c.size image.body
  pub early : image.first ≡ true → length sent ≡ 1

pub record Standing (c : SentFile) (most : ℕ) (packets : List Good) (vc apid : ℕ) (sent : List Good) : Type 0 where
  pub stretch : (t : List Good) → open_stretch (packets_of_key vc apid (heard most packets)) ≡ Some t → Matches c sent t
  pub image : (image : Image) → open_image most vc apid packets ≡ Some image → Kept c sent image
  pub enough : (image : Image) (t : List Good) → open_image most vc apid packets ≡ Some image →
      open_stretch (packets_of_key vc apid (heard most packets)) ≡ Some t → c.opening.coded ≡ true →
      c.total ≤ pieces_in c t + image.wanted
  pub plain : (image : Image) (t : List Good) → open_image most vc apid packets ≡ Some image →
      open_stretch (packets_of_key vc apid (heard most packets)) ≡ Some t → c.opening.coded ≡ false →
      c.skip + c.total ≤ size_of t + image.wanted

-- ---- pieces

pub pieces_more : (c : SentFile) (t : List Good) (first : Good) (others qs : List Good) → t ≡ first ∷ others →
    pieces_in c (t ++ qs) ≡ pieces_in c t + length (some_of (bodies_of qs))
pieces_more c t first others qs is =
    ap (λ (l : List Good). pieces_in c (l ++ qs)) is
    ∙ ap (λ (l : List (List ℕ)). length (some_of (drop c.skip first.body ∷ l)))
    (map-append (λ (p : Good). p.body) others qs)
    ∙ ap length (some_of-append (drop c.skip first.body ∷ bodies_of others) (bodies_of qs))
    ∙ length-append (some_of (drop c.skip first.body ∷ bodies_of others)) (some_of (bodies_of qs))
    ∙ ap (λ (l : List Good). pieces_in c l + length (some_of (bodies_of qs))) (sym is)

length-some : (body : List ℕ) (pieces : List (List ℕ)) → 0 < length body →
    length (piece_with body pieces) ≡ suc (length pieces)
length-some [] pieces some = absurd (omega (arith, some))
length-some (byte ∷ bytes) pieces some = refl

pub fillers_pieces : (filling : Filling) (n count : ℕ) → ((k : ℕ) → n ≡ suc k → 0 < length filling.body) →
    length (some_of (bodies_of (fillers_from filling n count))) ≡ n
unfolding fillers_from
fillers_pieces filling zero count some = refl
fillers_pieces filling (suc n) count some =
    length-some filling.body (some_of (bodies_of (fillers_from filling n (count_after count)))) (some n refl)
    ∙ ap suc (fillers_pieces filling n (count_after count) (λ k e. some n refl))

pub fillers_size : (filling : Filling) (n count : ℕ) → size_of (fillers_from filling n count) ≡ n * length filling.body
unfolding fillers_from
fillers_size filling zero count = sym (zero-mul (length filling.body))
fillers_size filling (suc n) count =
    omega (
      arith,
      fillers_size filling n (count_after count),
      suc-mul n (length filling.body),
      length-append filling.body (concat (bodies_of (fillers_from filling n (count_after count)))),
    )

-- ---- one packet more, and fillers

pub record More (qs : List Good) (p : Good) (r : List Good) : Type 0 where
  pub s : List Good
  pub was : open_stretch qs ≡ Some s
  pub on : goes_on p s ≡ true
  pub is : r ≡ s ++ p ∷ []

pub open_more : (qs : List Good) (p : Good) (r : List Good) → eqb p.flags 1 ≡ false →
    open_stretch (qs ++ p ∷ []) ≡ Some r → More qs p r
unfolding Grows
open_more qs p r other e =
    elim (grows (goes_on p) p (is_open (p ∷ [])) (open_stretch qs) r (sym (open_stretch-end qs p) ∙ e))
    as (λ _. More qs p r) [
      | inl alone ↦
          let never : true ≡ false =
          sym (and_left (eqb p.flags 1) _ (sym (is_open-one p) ∙ alone.0)) ∙ other in
          absurd (cc never)
      | inr on ↦ record { s = on.0; was = on.1.0; on = on.1.1.0; is = on.1.1.1 }
    ]

pub record Filled (filling : Filling) (n count : ℕ) (ps r : List Good) : Type 0 where
  pub s : List Good
  pub was : open_stretch (packets_of_key filling.vc filling.apid ps) ≡ Some s
  pub is : r ≡ s ++ fillers_from filling n count
  pub counts : (last_count r + 1) % SEQUENCE_COUNTS ≡ (last_count s + n + 1) % SEQUENCE_COUNTS

not_first : (b : Bool) → eqb (cond b 2 0) 1 ≡ false
not_first true = refl
not_first false = refl

pub fillers_stretch : (filling : Filling) (n count : ℕ) (ps r : List Good) →
    open_stretch (packets_of_key filling.vc filling.apid (ps ++ fillers_from filling n count)) ≡ Some r →
    Filled filling n count ps r
unfolding fillers_from
fillers_stretch filling zero count ps r e =
    let none : last_count r + 1 ≡ last_count r + 0 + 1 = omega arith in
    record {
      s = r;
      was = sym (ap (λ (l : List Good). open_stretch (packets_of_key filling.vc filling.apid l)) (append-nil ps)) ∙ e;
      is = sym (append-nil r);
      counts = ap (λ (k : ℕ). k % SEQUENCE_COUNTS) none;
    }
fillers_stretch filling (suc n) count ps r e =
    let f : Good = record {
      vc = filling.vc;
      apid = filling.apid;
      flags = cond (filling.ends && eqb n 0) 2 0;
      count = count;
      body = filling.body;
    } in
    let rest = fillers_from filling n (count_after count) in
    let it = fillers_stretch filling n (count_after count) (ps ++ f ∷ []) r
    (ap (λ (l : List Good). open_stretch (packets_of_key filling.vc filling.apid l)) (append_assoc ps (f ∷ []) rest)
    ∙ e) in
    let more = open_more (packets_of_key f.vc f.apid ps) f it.s (not_first (filling.ends && eqb n 0))
    (sym (ap open_stretch (packets_of_key-own ps f)) ∙ it.was) in
    let count_is : last_count it.s ≡ (last_count more.s + 1) % SEQUENCE_COUNTS =
    ap last_count more.is ∙ last_count-end more.s f
    ∙ follows more.s f (and_right (eqb f.flags 0) (is_next (open_from more.s) f) more.on) in
    record {
      s = more.s;
      was = more.was;
      is = it.is ∙ ap (λ (l : List Good). l ++ rest) more.is ∙ append_assoc more.s (f ∷ []) rest;
      counts = it.counts ∙ ap (λ (k : ℕ). (k + n + 1) % SEQUENCE_COUNTS) count_is ∙ count_more (last_count more.s) n;
    }

-- ---- fillers stand for what is missing

-- what a filler is made of
pub record Made (c : SentFile) (filling : Filling) : Type 0 where
  pub body : List ℕ
  pub fits : Fits c.s c.lossless c.size body
  pub some : 0 < length body
  pub is : filling.body ≡ cond c.opening.coded body (replicate (length body) 0)

can_stand : (s : Structure) (lossless : Option Lossless) (size : ℕ) (coded : Bool) (body filling : List ℕ) →
    coded ≡ is_some lossless → Fits s lossless size body → Fits s lossless size filling → 0 < length filling →
    CanStandFor s lossless body (cond coded filling (replicate (length filling) 0))
can_stand s None size coded body filling is fit fits some =
    ap (λ (b : Bool). length (cond b filling (replicate (length filling) 0))) is
    ∙ length-replicate (length filling) 0 ∙ fits ∙ sym fit
can_stand s (Some l) size coded body filling is fit fits some =
    subst (λ (b : Bool). CanStandFor s (Some l) body (cond b filling (replicate (length filling) 0))) (sym is)
    (some, fits)

length-made : (b : Bool) (body : List ℕ) → length (cond b body (replicate (length body) 0)) ≡ length body
length-made true body = refl
length-made false body = length-replicate (length body) 0

pub made_some : (c : SentFile) (filling : Filling) → Made c filling → 0 < length filling.body
made_some c filling made =
    let same = ap length made.is ∙ length-made c.opening.coded made.body in omega (arith, same, made.some)

stand_fill : (c : SentFile) (filling : Filling) (ms : List Good) (n count : ℕ) → n ≡ length ms →
    EachOf (λ p. Fits c.s c.lossless c.size p.body) ms → ((k : ℕ) → n ≡ suc k → Made c filling) →
    StandFor c.s c.lossless (bodies_of ms) (bodies_of (fillers_from filling n count))
unfolding fillers_from
stand_fill c filling [] zero count same fits made = tt
stand_fill c filling [] (suc n) count same fits made = absurd (omega (arith, same))
stand_fill c filling (m ∷ ms) zero count same fits made = absurd (omega (arith, same))
stand_fill c filling (m ∷ ms) (suc n) count same fits made =
    let it = made n refl in (
      inr (subst (λ (b : List ℕ). CanStandFor c.s c.lossless m.body b) (sym it.is)
          (can_stand c.s c.lossless c.size c.opening.coded m.body it.body c.coded fits.0 it.fits it.some)),
      stand_fill c filling ms n (count_after count) (omega (arith, same)) fits.1 (λ k e. it),
    )

stand_append : (s : Structure) (lossless : Option Lossless) (a a' b b' : List Good) →
    StandFor s lossless (bodies_of a) (bodies_of a') → StandFor s lossless (bodies_of b) (bodies_of b') →
    StandFor s lossless (bodies_of (a ++ b)) (bodies_of (a' ++ b'))
stand_append s lossless [] [] b b' front back = back
stand_append s lossless (x ∷ a) [] b b' front back = absurd front
stand_append s lossless [] (y ∷ a') b b' front back = absurd front
stand_append s lossless (x ∷ a) (y ∷ a') b b' front back =
    (front.0, stand_append s lossless a a' b b' front.1 back)

pub step_matches : (c : SentFile) (ps t : List Good) (p : Good) (filling : Filling) (n count : ℕ)
    (sent missing : List Good) →
    ((t : List Good) → open_stretch (packets_of_key filling.vc filling.apid ps) ≡ Some t → Matches c sent t) →
    Gap sent missing p → length missing < SEQUENCE_COUNTS → n < SEQUENCE_COUNTS →
    EachOf (λ p. Fits c.s c.lossless c.size p.body) missing → ((k : ℕ) → n ≡ suc k → Made c filling) →
    open_stretch (packets_of_key filling.vc filling.apid (ps ++ fillers_from filling n count)) ≡ Some t →
    is_next (open_from t) p ≡ true → Matches c (sent ++ (missing ++ p ∷ [])) (t ++ p ∷ [])
step_matches c ps t p filling n count sent missing stretch gap few less fits made e next =
    let it = fillers_stretch filling n count ps t e in
    let m = stretch it.s it.was in
    let fillers = fillers_from filling n count in
    let same : n ≡ length missing =
    counts_same (last_count sent) n (length missing) less few
    (ap (λ (k : ℕ). (k + n + 1) % SEQUENCE_COUNTS) (sym m.count) ∙ sym it.counts ∙ sym (follows t p next)
    ∙ gap.counted) in
    record {
      later = m.later ++ (missing ++ p ∷ []);
      others = m.others ++ (fillers ++ p ∷ []);
      sent_is = ap (λ (l : List Good). l ++ (missing ++ p ∷ [])) m.sent_is;
      is = ap (λ (l : List Good). l ++ p ∷ []) it.is ∙ append_assoc it.s fillers (p ∷ [])
          ∙ ap (λ (l : List Good). l ++ (fillers ++ p ∷ [])) m.is;
      stand = stand_append c.s c.lossless m.later m.others (missing ++ p ∷ []) (fillers ++ p ∷ []) m.stand
          (stand_append c.s c.lossless missing fillers (p ∷ []) (p ∷ [])
          (stand_fill c filling missing n count same fits made) (inl refl, tt));
      count = last_count-end t p
          ∙ sym (ap last_count (sym (append_assoc sent missing (p ∷ []))) ∙ last_count-end (sent ++ missing) p);
    }

-- ---- the fillers of an open image

filling_fits : (c : SentFile) (image : Image) (p : Good) (first between : Bool) → image.first ≡ first →
    eqb p.flags 0 ≡ between → (image.first ≡ false → Fits c.s c.lossless c.size image.body) →
    (image.first ≡ true → p.flags ≡ 0 → Fits c.s c.lossless c.size p.body) →
    0 < length (cond (not first) image.body (cond between p.body [])) →
    Fits c.s c.lossless c.size (cond (not first) image.body (cond between p.body []))
filling_fits c image p false between f z own lends some = own f
filling_fits c image p true true f z own lends some = lends f (grind (arith, nat_tests, z))
filling_fits c image p true false f z own lends some = absurd (omega (arith, some))

pub made_of : (c : SentFile) (most : ℕ) (image : Image) (p : Good) (sent : List Good) (k : ℕ) →
    fillers_before most image p ≡ suc k → Kept c sent image →
    (image.first ≡ true → p.flags ≡ 0 → Fits c.s c.lossless c.size p.body) → Made c (filling_before image p)
made_of c most image p sent k many kept lends =
    let some = some_filling most image p k many in
    record {
      body = filling_of image p;
      fits = filling_fits c image p image.first (eqb p.flags 0) refl refl kept.fits lends some;
      some = some;
      is = ap (λ (b : Bool). cond b (filling_of image p) (replicate (length (filling_of image p)) 0)) kept.coded;
    }

at_most : (b : Bool) (m n : ℕ) → m ≤ n → cond b m 0 ≤ n
at_most true m n less = less
at_most false m n less = omega arith

pub fillers_few : (most : ℕ) (image : Image) (p : Good) → fillers_before most image p < SEQUENCE_COUNTS
unfolding fillers_before
fillers_few most image p =
    let some : 0 < SEQUENCE_COUNTS = omega arith in
    let less = mod-lt (p.count + SEQUENCE_COUNTS - (image.count + 1)) some in
    let low = at_most
    (can_fill image p && leb (image.fillers + min (missing_before image p) (needed_before image p)) most)
    (min (missing_before image p) (needed_before image p)) (missing_before image p) (omega arith) in
    omega (arith, less, low)
