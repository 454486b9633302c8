-- Fillers end an image whose last packets are missing.
use Rattle.std.proofs.Common.{◌≡◌, ℕ, zero, suc, ◌+◌, ◌*◌, ◌%◌, ◌<◌, ◌≤◌, Bool, true, false, cond, eqb, leb, ltb, ◌&&◌}
use Rattle.std.proofs.Common.{◌||◌, not, Option, Some, None, List, [], ◌∷◌, ◌++◌, length, map, refl, sym, ap, ◌∙◌}
use Rattle.std.proofs.Common.{subst, arith, append_assoc, length-append, max, min}
use Rattle.std.specs.List.{concat}
use Rattle.std.proofs.lemmas.Bool.{leb-true}
use Rattle.std.proofs.lemmas.Bool.Decides.{nat_tests}
use Rattle.std.proofs.lemmas.List.{append-nil}
use Rattle.std.proofs.Math.Nat.{suc-mul}
use Rattle.lr_bits.specs.File.{File}
use Rattle.lr_bits.specs.Sizes.{most_file_bodies, most_file_bytes}
use Rattle.lr_bits.specs.declared.sizes.TheConstants.{SEQUENCE_COUNTS}
use Rattle.lr_packet.specs.Verdict.{Good}
use Rattle.lr_file.specs.Files.{bodies_of, file_at, file_from, packets_of_key, size_of}
use Rattle.lr_file.specs.Standing.{last_count, open_from}
use Rattle.lr_file.specs.Steps.{is_next}
use Rattle.lr_mend.specs.Mending.{Filling, Image, can_end, can_fill, count_after, fillers_before, fillers_from}
use Rattle.lr_mend.specs.Mending.{filling_before, filling_of, gap_before, gap_of, missing_before, needed_before}
use Rattle.lr_mend.specs.Mending.{begins_file, open_image}
use Rattle.lr_mend.proofs.Fillers.{fillers_before-all, fillers_wanted}
use Rattle.lr_mend.proofs.StayingFiles.{ends, heard, open_stretch}
use Rattle.lr_laws.specs.MendableImages.{AreWithinLimits, EndsWithFillers, MadeEndsCome, MayEnd}
use Rattle.lr_laws.specs.SentImages.{Came, since_beginning as since}
use Rattle.lr_laws.proofs.FilledGaps.{Mendable, Opened}
use Rattle.lr_laws.proofs.MendableImages.{last_file, least, mendable}
use Rattle.lr_laws.proofs.MendedStretches.{Matches, SentFile, fillers_size}
use Rattle.lr_laws.proofs.OpenImages.{fillers_on, length-fillers, next_is}
use Rattle.lr_laws.proofs.OpenedImages.{opened}
use Rattle.lr_laws.proofs.SentHistories.{standing}
use Rattle.lr_laws.proofs.SentImages.{sent_file}
use Rattle.lr_laws.proofs.SentPackets.{last_count-end}
use Rattle.lr_laws.proofs.SinceBeginning.{size_of-append, size_of-one}
use Rattle.lr_laws.proofs.Stretches.{are_since}

-- ---- fillers of which the last one ends the image

abbrev between : Filling → Filling
between filling = record { vc = filling.vc; apid = filling.apid; body = filling.body; ends = false }

-- the count after so many
abbrev advance : ℕ → ℕ → ℕ
advance zero count = count
advance (suc n) count = advance n (count_after count)

abbrev last_of : Filling → ℕ → Good
last_of filling count =
    record { vc = filling.vc; apid = filling.apid; flags = 2; count = count; body = filling.body }

split_fillers : (filling : Filling) (n count : ℕ) → filling.ends ≡ true →
    fillers_from filling (suc n) count
    ≡ fillers_from (between filling) n count ++ last_of filling (advance n count) ∷ []
unfolding fillers_from
split_fillers filling zero count e =
    ap (λ (b : Bool). record {
      vc = filling.vc;
      apid = filling.apid;
      flags = cond (b && true) 2 0;
      count = count;
      body = filling.body;
    } ∷ []) e
split_fillers filling (suc n) count e =
    let more : eqb (suc n) 0 ≡ false = grind (arith, nat_tests) in
    (λ i. record {
      vc = filling.vc;
      apid = filling.apid;
      flags = cond (e i && more i) 2 0;
      count = count;
      body = filling.body;
    } ∷ split_fillers filling n (count_after count) e i)

last_is : (filling : Filling) (n count : ℕ) (t : List Good) → count ≡ (last_count t + 1) % SEQUENCE_COUNTS →
    advance n count ≡ (last_count (t ++ fillers_from filling n count) + 1) % SEQUENCE_COUNTS
unfolding fillers_from
last_is filling zero count t counted =
    counted ∙ ap (λ (l : List Good). (last_count l + 1) % SEQUENCE_COUNTS) (sym (append-nil t))
last_is filling (suc n) count t counted =
    let f : Good = record {
      vc = filling.vc;
      apid = filling.apid;
      flags = cond (filling.ends && eqb n 0) 2 0;
      count = count;
      body = filling.body;
    } in
    last_is filling n (count_after count) (t ++ f ∷ [])
    (ap (λ (k : ℕ). (k + 1) % SEQUENCE_COUNTS) (sym (last_count-end t f)))
    ∙ ap (λ (l : List Good). (last_count l + 1) % SEQUENCE_COUNTS)
    (append_assoc t (f ∷ []) (fillers_from filling n (count_after count)))

-- ---- how many they are

not_first : (image : Image) (n : ℕ) → (image.first ≡ true → n ≡ 1) → 1 < n → (b : Bool) → image.first ≡ b →
    image.first ≡ false
not_first image n early many true is = absurd (omega (arith, early is, many))
not_first image n early many false is = is

module _ (most : ℕ) (image : Image) (p : Good) (later : image.first ≡ false) (some : 0 < length image.body)
    (may : MayEnd most image p) where
  can : can_fill image p ≡ true
  unfolding can_fill
  can =
      let filled : filling_of image p ≡ image.body =
      ap (λ (b : Bool). cond (not b) image.body (cond (eqb p.flags 0) p.body [])) later in
      let nonempty : ltb 0 (length (filling_of image p)) ≡ true = grind (arith, nat_tests, some, ap length filled) in
      (λ i. nonempty i && cond (may.over i) (not (may.forward i) && not (image.coded && later i)) (not
      (begins_file p)))
      ∙ by_coded image.coded
    where
      by_coded : (b : Bool) → not (b && false) ≡ true
      by_coded true = refl
      by_coded false = refl

  needed_is : fillers_before most image p ≡ needed_before image p
  needed_is =
      let few : needed_before image p ≤ missing_before image p = leb-true _ _ may.over in
      let wanted : fillers_wanted image p ≡ needed_before image p = omega (arith, few) in
      sym (fillers_before-all most image p can (omega (arith, wanted, may.allowed))) ∙ wanted

-- ---- the file

module _ (c : SentFile) (d : Mendable c) (most : ℕ) (packets : List Good) (p : Good) (sent : List Good) (n : ℕ)
    (at : Opened c d most packets p.vc p.apid sent n) (begins : Matches c sent at.t) (many : 1 < n)
    (may : MayEnd most at.image p)
    (within : AreWithinLimits (since p.vc p.apid (heard most packets) ++ gap_before most packets p)) where
  abbrev filling : Filling
  filling = filling_before at.image p

  abbrev count : ℕ
  count = count_after at.image.count

  later : at.image.first ≡ false
  later = not_first at.image n at.early many at.image.first refl

  number : fillers_before most at.image p ≡ needed_before at.image p
  number = needed_is most at.image p later (at.usable later).some may

  gap_is : gap_before most packets p ≡ fillers_from filling (needed_before at.image p) count
  unfolding gap_before gap_of
  gap_is =
      ap (λ (o : Option Image). gap_of most o p) at.is_image ∙ ap (λ (k : ℕ). fillers_from filling k count) number

  since_is : at.t ≡ since p.vc p.apid (heard most packets)
  since_is = are_since (packets_of_key p.vc p.apid (heard most packets)) at.t at.stretch

  counted : count ≡ (last_count at.t + 1) % SEQUENCE_COUNTS
  counted = ap (λ (k : ℕ). (k + 1) % SEQUENCE_COUNTS) (at.count ∙ sym at.same_count)

  by_number : (k : ℕ) → needed_before at.image p ≡ suc k → EndsWithFillers most packets p
  by_number k is = record {
    front = front;
    last = last;
    split = gap_split;
    file = file_from p.vc p.apid ((at.t ++ front) ++ last ∷ []);
    is = last_file (heard most packets ++ front) last (at.t ++ front) opened_on (λ i. (two i && next i) && ten i);
  }
    where
      front : List Good
      front = fillers_from (between filling) k count

      last : Good
      last = last_of filling (advance k count)

      gap_split : gap_before most packets p ≡ front ++ last ∷ []
      gap_split =
          gap_is ∙ ap (λ (j : ℕ). fillers_from filling j count) is ∙ split_fillers filling k count may.over

      long : length (at.t ++ front) ≡ length at.t + k
      long =
          length-append at.t front ∙ ap (λ (j : ℕ). length at.t + j) (length-fillers (between filling) k count)

      size : size_of (at.t ++ front) ≡ size_of at.t + k * length filling.body
      size =
          size_of-append at.t front
          ∙ ap (λ (j : ℕ). size_of at.t + j) (fillers_size (between filling) k count)

      all : since p.vc p.apid (heard most packets) ++ gap_before most packets p ≡ (at.t ++ front) ++ last ∷ []
      all =
          (λ i. sym since_is i ++ gap_split i) ∙ sym (append_assoc at.t front (last ∷ []))

      few : length at.t + k < most_file_bodies
      few =
          omega (arith, within.0, ap (λ (l : List Good). length l) all, length-append (at.t ++ front) (last ∷ []), long)

      short : size_of at.t + k * length filling.body + length filling.body ≤ most_file_bytes
      short =
          omega (
            arith,
            within.1,
            ap size_of all,
            size_of-append (at.t ++ front) (last ∷ []),
            size_of-one last,
            size,
          )

      opened_on : open_stretch (packets_of_key p.vc p.apid (heard most packets ++ front)) ≡ Some (at.t ++ front)
      opened_on =
          fillers_on (between filling) k count (heard most packets) at.t refl at.stretch counted
          (omega (arith, few)) (omega (arith, short))

      next : is_next (open_from (at.t ++ front)) last ≡ true
      next =
          next_is (at.t ++ front) last (last_is (between filling) k count at.t counted) (omega (arith, few, long))
          (omega (arith, short, size))

      two : eqb 2 2 ≡ true
      two = refl

      ten : leb 10 (size_of ((at.t ++ front) ++ last ∷ [])) ≡ true
      ten =
          let first : size_of at.t ≡ length c.first.body + size_of begins.others =
          ap size_of begins.is ∙ length-append c.first.body (concat (bodies_of begins.others)) in
          least (size_of ((at.t ++ front) ++ last ∷ []))
          (omega (arith, first, size, size_of-append (at.t ++ front) (last ∷ []), d.ten))

  pub ends_with : EndsWithFillers most packets p
  ends_with = by_needed (needed_before at.image p) refl
    where
      by_needed : (k : ℕ) → needed_before at.image p ≡ k → EndsWithFillers most packets p
      by_needed zero is = absurd (omega (arith, is))
      by_needed (suc k) is = by_number k is

by_lost : (c : SentFile) (d : Mendable c) (most : ℕ) (packets : List Good) (p : Good) (sent lost : List Good) →
    0 < most → c.whole ≡ sent ++ lost → 0 < length lost → Came sent (since p.vc p.apid packets) →
    1 < length (since p.vc p.apid packets) → length sent ≤ length (since p.vc p.apid packets) + most →
    (begun : Image) × ((open_image most p.vc p.apid packets ≡ Some begun)
    × (MayEnd most begun p →
    AreWithinLimits (since p.vc p.apid (heard most packets) ++ gap_before most packets p) →
    EndsWithFillers most packets p))
by_lost c d most packets p sent [] some split none came many few = absurd (omega (arith, none))
by_lost c d most packets p sent (l ∷ lost) some split more came many few =
    let at = opened c d most packets some p.vc p.apid sent l lost split came few in
    let begins = (standing c most packets p.vc p.apid sent (l ∷ lost) split came).stretch at.t at.stretch in (
      at.image,
      (
        at.is_image,
        λ may within.
            ends_with c d most packets p sent (length (since p.vc p.apid packets)) at begins many may within,
      ),
    )

pub made_ends : MadeEndsCome
made_ends most packets p whole sent came lost i d some split more since_is came_of many few =
    by_lost (sent_file p.vc p.apid whole i) (mendable p.vc p.apid whole i d) most packets p sent lost some split more
    (subst (Came sent) (sym since_is) came_of)
    (subst (λ (l : List Good). 1 < length l) (sym since_is) many)
    (subst (λ (l : List Good). length sent ≤ length l + most) (sym since_is) few)
