-- The gap before a packet of an image that is open is filled, and the image stays open.
use Rattle.std.proofs.Common.{◌≡◌, ℕ, suc, ◌+◌, ◌*◌, ◌%◌, ◌<◌, ◌≤◌, Bool, true, false, cond, eqb}
use Rattle.std.proofs.Common.{not, Option, Some, List, [], ◌∷◌, ◌++◌, length, refl, sym, ap}
use Rattle.std.proofs.Common.{◌∙◌, subst, arith, length-append, replicate}
use Rattle.std.proofs.lemmas.List.{length-replicate}
use Rattle.std.proofs.Math.Nat.{mul-le-mul_left, mul-le-mul_right, add-mul}
use Rattle.lr_bits.specs.Sizes.{most_file_bodies, most_file_bytes}
use Rattle.lr_bits.specs.declared.sizes.TheConstants.{SEQUENCE_COUNTS}
use Rattle.lr_packet.specs.Verdict.{Good}
use Rattle.lr_file.specs.Files.{packets_of_key, size_of}
use Rattle.lr_file.specs.Standing.{last_count}
use Rattle.lr_mend.specs.Mending.{Image, count_after, filler_body, fillers_before, fillers_from}
use Rattle.lr_mend.specs.Mending.{filling_before, filling_of, gap_before, gap_of}
use Rattle.lr_mend.specs.Mending.{open_image}
use Rattle.lr_mend.specs.Openings.{units_in}
use Rattle.lr_mend.proofs.StayingFiles.{heard, open_stretch}
use Rattle.lr_laws.proofs.MendedStretches.{SentFile, fillers_size, fillers_stretch}
use Rattle.lr_laws.proofs.OpenImages.{GoesOn, fillers_are, fillers_on, length-fillers, not_over}
use Rattle.lr_laws.proofs.SentHistories.{Later}
use Rattle.lr_laws.proofs.SentPackets.{EachOf}
use Rattle.lr_laws.proofs.SinceBeginning.{size_of-append}

-- ---- an image of which a mended file comes

-- a body that fillers can be made of
pub record Usable (coded : Bool) (unit longest : ℕ) (body : List ℕ) : Type 0 where
  pub some : 0 < length body
  pub units : units_in coded body ≡ unit
  pub short : length body ≤ longest

pub record Mendable (c : SentFile) : Type 0 where
  pub between : List Good
  pub last : Good
  pub split : c.whole ≡ c.first ∷ (between ++ last ∷ [])
  pub unit : ℕ
  pub some_unit : 0 < unit
  pub wanted : length between * unit < c.opening.wanted
  pub longest : ℕ
  pub usable : EachOf (λ p. p.flags ≡ 0 → Usable c.opening.coded unit longest p.body) c.whole
  pub fits : length c.first.body + length between * longest + length last.body ≤ most_file_bytes
  pub few : length c.whole ≤ most_file_bodies
  pub counted : c.first.count < SEQUENCE_COUNTS
  pub ten : 10 ≤ length c.first.body

-- after some of its packets, of which n came, it is open
pub record Opened (c : SentFile) (d : Mendable c) (most : ℕ) (packets : List Good) (vc apid : ℕ) (sent : List Good)
    (n : ℕ) : Type 0 where
  pub after : ℕ
  pub long : length sent ≡ suc after
  pub t : List Good
  pub stretch : open_stretch (packets_of_key vc apid (heard most packets)) ≡ Some t
  pub image : Image
  pub is_image : open_image most vc apid packets ≡ Some image
  pub count : image.count ≡ last_count sent
  pub same_count : last_count t ≡ last_count sent
  pub below : last_count sent < SEQUENCE_COUNTS
  pub coded : image.coded ≡ c.opening.coded
  pub fillers : image.fillers + n ≡ length sent
  pub wanted : image.wanted + after * d.unit ≡ c.opening.wanted
  pub usable : image.first ≡ false → Usable c.opening.coded d.unit d.longest image.body
  pub early : image.first ≡ true → n ≡ 1
  pub length_is : length t ≡ length sent
  pub size : size_of t ≤ length c.first.body + after * d.longest

-- ---- the gap before a packet

filling_usable : (coded : Bool) (unit longest : ℕ) (image : Image) (p : Good) (first between : Bool) →
    image.first ≡ first → eqb p.flags 0 ≡ between → (image.first ≡ false → Usable coded unit longest image.body) →
    (image.first ≡ true → p.flags ≡ 0) → (p.flags ≡ 0 → Usable coded unit longest p.body) →
    Usable coded unit longest (cond (not first) image.body (cond between p.body []))
filling_usable coded unit longest image p false between f z own none lends = own f
filling_usable coded unit longest image p true true f z own none lends = lends (none f)
filling_usable coded unit longest image p true false f z own none lends =
    let never : true ≡ false = sym (ap (λ (n : ℕ). eqb n 0) (none f)) ∙ z in absurd (cc never)

pub still_wanted : (wanted unit after m all : ℕ) → after + m ≤ all → all * unit < wanted + after * unit →
    m * unit < wanted
still_wanted wanted unit after m all less more =
    omega (arith, more, mul-le-mul_right unit less, add-mul after m unit)

-- the packets after those so far: some are missing, and then one comes
pub record NextOne (c : SentFile) (d : Mendable c) (most : ℕ) (packets : List Good) (p : Good)
    (sent missing : List Good) (n : ℕ) : Type 0 where
  pub opened : Opened c d most packets p.vc p.apid sent n
  pub later : Later c sent missing p
  pub few : length missing < SEQUENCE_COUNTS
  pub inside : opened.after + length missing ≤ length d.between
  pub allowed : length sent + length missing ≤ n + most
  pub own : p.flags ≡ 0 → Usable c.opening.coded d.unit d.longest p.body
  pub between : opened.image.first ≡ true → p.flags ≡ 0

module _ (c : SentFile) (d : Mendable c) (most : ℕ) (packets : List Good) (p : Good) (sent missing : List Good) (n : ℕ)
    (it : NextOne c d most packets p sent missing n) where
  abbrev pub image : Image
  image = it.opened.image

  abbrev pub m : ℕ
  m = length missing

  pub filling : Usable c.opening.coded d.unit d.longest (filling_of image p)
  filling =
      filling_usable c.opening.coded d.unit d.longest image p image.first (eqb p.flags 0) refl refl it.opened.usable
      it.between it.own

  pub goes : GoesOn image p d.unit m most
  goes = record {
    below = omega (arith, it.opened.count, it.opened.below);
    few = it.few;
    counted = it.later.gap.counted
        ∙ ap (λ (k : ℕ). (k + m + 1) % SEQUENCE_COUNTS) (sym it.opened.count);
    none_begins = it.later.gap.none_begins;
    some = filling.some;
    units = ap (λ (b : Bool). units_in b (filling_of image p)) it.opened.coded ∙ filling.units;
    some_unit = d.some_unit;
    wanted = still_wanted image.wanted d.unit it.opened.after m (length d.between) it.inside
        (omega (arith, d.wanted, it.opened.wanted));
    allowed = omega (arith, it.opened.fillers, it.allowed);
  }

  pub number : fillers_before most image p ≡ m
  number = fillers_are image p d.unit m most goes

  abbrev pub fillers : List Good
  fillers = fillers_from (filling_before image p) (fillers_before most image p) (count_after image.count)

  length-body : length (filler_body image p) ≡ length (filling_of image p)
  length-body = by_coded image.coded
    where
      by_coded : (b : Bool) → length (cond b (filling_of image p) (replicate (length (filling_of image p)) 0))
          ≡ length (filling_of image p)
      by_coded true = refl
      by_coded false = length-replicate (length (filling_of image p)) 0

  gap_is_filled : gap_before most packets p ≡ fillers
  unfolding gap_before gap_of
  gap_is_filled = ap (λ (o : Option Image). gap_of most o p) it.opened.is_image

  pub now : List Good
  now = it.opened.t ++ fillers

  pub now_is : now ≡ it.opened.t ++ fillers
  unfolding now
  now_is = refl

  pub now_long : length now ≡ length sent + m
  now_long =
      ap length now_is ∙ length-append it.opened.t fillers
      ∙ (λ i. it.opened.length_is i
      + (length-fillers (filling_before image p) (fillers_before most image p) (count_after image.count) ∙ number) i)

  filler_bytes : fillers_before most image p * length (filler_body image p) ≤ m * d.longest
  filler_bytes =
      let short : length (filler_body image p) ≤ d.longest = omega (arith, length-body, filling.short) in
      subst (λ (k : ℕ). k * length (filler_body image p) ≤ m * d.longest) (sym number)
      (mul-le-mul_left m short)

  pub now_size : size_of now ≤ length c.first.body + (it.opened.after + m) * d.longest
  now_size =
      let all : size_of now ≡ size_of it.opened.t + fillers_before most image p * length (filler_body image p) =
      ap size_of now_is ∙ size_of-append it.opened.t fillers
      ∙ ap (λ (k : ℕ). size_of it.opened.t + k)
      (fillers_size (filling_before image p) (fillers_before most image p) (count_after image.count)) in
      omega (arith, all, filler_bytes, it.opened.size, add-mul it.opened.after m d.longest)

  pub room : length c.first.body + (it.opened.after + m) * d.longest ≤ most_file_bytes
  room =
      let product : (it.opened.after + m) * d.longest ≤ length d.between * d.longest =
      mul-le-mul_right d.longest it.inside in
      omega (arith, product, d.fits)

  room_for_bodies : length sent + m < most_file_bodies
  room_for_bodies =
      let all : length c.whole ≡ suc (length d.between + 1) =
      ap length d.split ∙ ap suc (length-append d.between (d.last ∷ [])) in
      omega (arith, all, d.few, it.inside, it.opened.long)

  pub now_open : open_stretch (packets_of_key p.vc p.apid (heard most packets ++ gap_before most packets p)) ≡ Some now
  now_open =
      let size = filler_bytes in
      let old = it.opened.size in
      let products = add-mul it.opened.after m d.longest in
      ap (λ (gap : List Good). open_stretch (packets_of_key p.vc p.apid (heard most packets ++ gap))) gap_is_filled
      ∙ fillers_on (filling_before image p) (fillers_before most image p) (count_after image.count) (heard most packets)
      it.opened.t (not_over image p d.unit m most goes) it.opened.stretch
      (ap (λ (k : ℕ). (k + 1) % SEQUENCE_COUNTS) (it.opened.count ∙ sym it.opened.same_count))
      (omega (arith, number, it.opened.length_is, room_for_bodies)) (omega (arith, size, old, products, room))
      ∙ ap Some (sym now_is)

  pub now_counted : p.count ≡ (last_count now + 1) % SEQUENCE_COUNTS
  now_counted =
      let filled = fillers_stretch (filling_before image p) (fillers_before most image p) (count_after image.count)
      (heard most packets) now
      (sym (ap (λ (gap : List Good). open_stretch (packets_of_key p.vc p.apid (heard most packets ++ gap)))
      gap_is_filled) ∙ now_open) in
      let both : Some filled.s ≡ Some it.opened.t = sym filled.was ∙ it.opened.stretch in
      let same : filled.s ≡ it.opened.t = cc in
      it.later.gap.counted
      ∙ (λ i. (sym (ap last_count same ∙ it.opened.same_count) i + sym number i + 1) % SEQUENCE_COUNTS)
      ∙ sym filled.counts

  pub now_few : length now < most_file_bodies
  now_few = omega (arith, now_long, room_for_bodies)
