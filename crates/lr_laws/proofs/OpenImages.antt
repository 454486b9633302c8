-- An image of which packets are missing stays open as long as fillers can stand in for them.
use Rattle.std.proofs.Common.{◌≡◌, ℕ, zero, suc, ◌+◌, ◌-◌, ◌*◌, ◌/◌, ◌%◌, ◌<◌, ◌≤◌, Bool, true, false, cond, eqb, leb}
use Rattle.std.proofs.Common.{ltb, not, ◌&&◌, ◌||◌, Option, Some, None, List, [], ◌∷◌, ◌++◌, length, map, refl, sym, ap}
use Rattle.std.proofs.Common.{◌∙◌, subst, arith, append_assoc, length-append, inl, inr, max, min}
use Rattle.std.proofs.lemmas.Bool.Decides.{nat_tests}
use Rattle.std.proofs.lemmas.List.{append-nil}
use Rattle.std.proofs.Math.Nat.{div-add-mod', mod-lt, mul-le-mul_right, suc-mul}
use Rattle.lr_bits.specs.Sizes.{most_file_bodies, most_file_bytes}
use Rattle.lr_bits.specs.declared.sizes.TheConstants.{SEQUENCE_COUNTS}
use Rattle.lr_packet.specs.Verdict.{Good}
use Rattle.lr_file.specs.Files.{bodies_of, packets_of_key, size_of}
use Rattle.lr_file.specs.Standing.{is_open, last_count, open_from}
use Rattle.lr_file.specs.Steps.{is_next}
use Rattle.lr_file.proofs.Histories.{packets_of_key-own}
use Rattle.lr_file.proofs.Stretches.{length-bodies, longer}
use Rattle.lr_mend.specs.Mending.{Filling, Image, begins_file, can_end, can_fill, count_after, fillers_before}
use Rattle.lr_mend.specs.Mending.{fillers_from, filling_of, is_over}
use Rattle.lr_mend.specs.Mending.{goes_on as goes_on_with}
use Rattle.lr_mend.specs.Mending.{missing_before, needed_before, filler_units}
use Rattle.lr_mend.specs.Openings.{units_in}
use Rattle.lr_mend.proofs.StayingFiles.{goes_on, open_stretch, open_stretch-end}
use Rattle.lr_laws.proofs.SentPackets.{last_count-end}
use Rattle.lr_laws.proofs.SinceBeginning.{size_of-append, size_of-one}

-- ---- one packet more of an open stretch

pub next_is : (t : List Good) (p : Good) → p.count ≡ (last_count t + 1) % SEQUENCE_COUNTS →
    length t < most_file_bodies →
    size_of t + length p.body ≤ most_file_bytes → is_next (open_from t) p ≡ true
unfolding is_next
next_is t p count few short =
    let a : eqb p.count ((last_count t + 1) % SEQUENCE_COUNTS) ≡ true = grind (arith, nat_tests, count) in
    let lengths = length-bodies t in
    let b : ltb (length (map length (bodies_of t))) most_file_bodies ≡ true = grind (arith, nat_tests, few, lengths) in
    let c : leb (size_of t + length p.body) most_file_bytes ≡ true = grind (arith, nat_tests, short) in
    λ i. (a i && b i) && c i

pub on_with : (Q : List Good → Bool) (p : Good) (alone : Bool) (t : List Good) (o : Option (List Good)) → o ≡ Some t →
    Q t ≡ true → longer Q p alone o ≡ Some (t ++ p ∷ [])
on_with Q p alone t o is on =
    ap (longer Q p alone) is ∙ ap (λ (b : Bool). cond b (Some (t ++ p ∷ [])) (cond alone (Some (p ∷ [])) None)) on

pub stretch_on : (qs t : List Good) (p : Good) → open_stretch qs ≡ Some t → p.flags ≡ 0 →
    p.count ≡ (last_count t + 1) % SEQUENCE_COUNTS → length t < most_file_bodies →
    size_of t + length p.body ≤ most_file_bytes → open_stretch (qs ++ p ∷ []) ≡ Some (t ++ p ∷ [])
stretch_on qs t p is flags count few short =
    let zero_is : eqb p.flags 0 ≡ true = ap (λ (n : ℕ). eqb n 0) flags in
    let next = next_is t p count few short in
    open_stretch-end qs p
    ∙ on_with (goes_on p) p (is_open (p ∷ [])) t (open_stretch qs) is (λ i. zero_is i && next i)

-- fillers that end nothing
pub fillers_on : (filling : Filling) (n count : ℕ) (ps t : List Good) → filling.ends ≡ false →
    open_stretch (packets_of_key filling.vc filling.apid ps) ≡ Some t →
    count ≡ (last_count t + 1) % SEQUENCE_COUNTS → length t + n ≤ most_file_bodies →
    size_of t + n * length filling.body ≤ most_file_bytes →
    open_stretch (packets_of_key filling.vc filling.apid (ps ++ fillers_from filling n count))
    ≡ Some (t ++ fillers_from filling n count)
unfolding fillers_from
fillers_on filling zero count ps t ends is counted few short =
    ap (λ (l : List Good). open_stretch (packets_of_key filling.vc filling.apid l)) (append-nil ps) ∙ is
    ∙ ap Some (sym (append-nil t))
fillers_on filling (suc n) count ps t ends is counted few short =
    let f : Good = record {
      vc = filling.vc;
      apid = filling.apid;
      flags = cond (filling.ends && eqb n 0) 2 0;
      count = count;
      body = filling.body;
    } in
    let rest = fillers_from filling n (count_after count) in
    let flags : f.flags ≡ 0 = ap (λ (b : Bool). cond (b && eqb n 0) 2 0) ends in
    let product = suc-mul n (length filling.body) in
    let now : open_stretch (packets_of_key f.vc f.apid (ps ++ f ∷ [])) ≡ Some (t ++ f ∷ []) =
    ap open_stretch (packets_of_key-own ps f)
    ∙ stretch_on (packets_of_key f.vc f.apid ps) t f is flags counted (omega (arith, few))
    (omega (arith, short, product)) in
    let long : length (t ++ f ∷ []) ≡ length t + 1 = length-append t (f ∷ []) in
    let size : size_of (t ++ f ∷ []) ≡ size_of t + length filling.body =
    size_of-append t (f ∷ []) ∙ ap (λ (k : ℕ). size_of t + k) (size_of-one f) in
    ap (λ (l : List Good). open_stretch (packets_of_key filling.vc filling.apid l))
    (sym (append_assoc ps (f ∷ []) rest))
    ∙ fillers_on filling n (count_after count) (ps ++ f ∷ []) (t ++ f ∷ []) ends now
    (ap (λ (k : ℕ). (k + 1) % SEQUENCE_COUNTS) (sym (last_count-end t f))) (omega (arith, few, long))
    (omega (arith, short, product, size))
    ∙ ap Some (append_assoc t (f ∷ []) rest)

pub length-fillers : (filling : Filling) (n count : ℕ) → length (fillers_from filling n count) ≡ n
unfolding fillers_from
length-fillers filling zero count = refl
length-fillers filling (suc n) count = ap suc (length-fillers filling n (count_after count))

-- ---- how many fillers come

missing_is : (last count m : ℕ) → last < SEQUENCE_COUNTS → m < SEQUENCE_COUNTS →
    count ≡ (last + m + 1) % SEQUENCE_COUNTS →
    (count + SEQUENCE_COUNTS - (last + 1)) % SEQUENCE_COUNTS ≡ m
missing_is last count m below few is = omega (arith, below, few, is)

-- more than these are needed
needs_more : (wanted unit m : ℕ) → 0 < unit → m * unit < wanted → m < max 1 ((wanted + unit - 1) / unit)
needs_more wanted unit m some more =
    let q = (wanted + unit - 1) / unit in
    let parts : q * unit + (wanted + unit - 1) % unit ≡ wanted + unit - 1 = div-add-mod' (wanted + unit - 1) unit in
    let less : (wanted + unit - 1) % unit < unit = mod-lt (wanted + unit - 1) some in
    elim (Rattle.std.proofs.lemmas.Bool.cases_lt m q) as (λ _. m < max 1 q) [
      | inl below ↦ omega (arith, below)
      | inr above ↦
          let product : q * unit ≤ m * unit = mul-le-mul_right unit above in
          absurd (omega (arith, parts, less, product, more, some))
    ]

-- what is known of an image and of the packet that goes on with it
pub record GoesOn (image : Image) (p : Good) (unit m most : ℕ) : Type 0 where
  pub below : image.count < SEQUENCE_COUNTS
  pub few : m < SEQUENCE_COUNTS
  pub counted : p.count ≡ (image.count + m + 1) % SEQUENCE_COUNTS
  pub none_begins : begins_file p ≡ false
  pub some : 0 < length (filling_of image p)
  pub units : units_in image.coded (filling_of image p) ≡ unit
  pub some_unit : 0 < unit
  pub wanted : m * unit < image.wanted
  pub allowed : image.fillers + m ≤ most

module _ (image : Image) (p : Good) (unit m most : ℕ) (it : GoesOn image p unit m most) where
  missing : missing_before image p ≡ m
  missing = missing_is image.count p.count m it.below it.few it.counted

  pub unit_same : filler_units image p ≡ unit
  unit_same =
      ap (λ (u : ℕ). max 1 u) it.units ∙ (let e : max 1 unit ≡ unit = omega (arith, it.some_unit) in e)

  needed : m < needed_before image p
  needed =
      subst (λ (u : ℕ). m < max 1 ((image.wanted + u - 1) / u)) (sym unit_same)
      (needs_more image.wanted unit m it.some_unit it.wanted)

  pub not_over : is_over image p ≡ false
  not_over = grind (arith, nat_tests, needed, missing)

  can : can_fill image p ≡ true
  unfolding can_fill
  can =
      let some : ltb 0 (length (filling_of image p)) ≡ true = grind (arith, nat_tests, it.some) in
      (λ i. some i && cond (not_over i) (can_end image p) (not (it.none_begins i)))

  pub fillers_are : fillers_before most image p ≡ m
  unfolding fillers_before
  fillers_are =
      let least : min (missing_before image p) (needed_before image p) ≡ m = omega (arith, missing, needed) in
      let fits : leb (image.fillers + m) most ≡ true = grind (arith, nat_tests, it.allowed) in
      (λ i. cond (can i && leb (image.fillers + least i) most) (least i) 0)
      ∙ ap (λ (b : Bool). cond b m 0) fits

  pub on : goes_on_with most image p ≡ true
  unfolding goes_on_with
  on =
      let same : eqb m m ≡ true = grind (arith, nat_tests) in
      (λ i. not (not_over i) && eqb (fillers_are i) (missing i)) ∙ same
