-- An image that was sent stays open until its last packet.
use Rattle.std.proofs.Common.{◌≡◌, ℕ, suc, ◌+◌, ◌-◌, ◌*◌, ◌<◌, ◌≤◌, Bool, true, false, cond, eqb, leb}
use Rattle.std.proofs.Common.{◌&&◌, Option, Some, None, List, [], ◌∷◌, ◌++◌, length, refl, sym, ap}
use Rattle.std.proofs.Common.{◌∙◌, subst, arith, append_assoc, length-append, inl, inr}
use Rattle.std.proofs.lemmas.Bool.Decides.{nat_tests}
use Rattle.std.proofs.lemmas.List.{append-nil}
use Rattle.std.proofs.Math.Nat.{mul-le-mul_right, suc-mul, zero-mul, add-mul}
use Rattle.lr_bits.specs.Sizes.{most_file_bytes}
use Rattle.lr_bits.specs.declared.sizes.TheConstants.{SEQUENCE_COUNTS}
use Rattle.lr_packet.specs.Verdict.{Good}
use Rattle.lr_file.specs.Files.{is_file, packets_of_key, size_of}
use Rattle.lr_file.specs.Standing.{is_open, last_count, open_from}
use Rattle.lr_file.specs.Steps.{is_next}
use Rattle.lr_file.proofs.Histories.{packets_of_key-own}
use Rattle.lr_file.proofs.KeyLemmas.{same_key}
use Rattle.lr_file.proofs.Stretches.{is_open-one, longer}
use Rattle.lr_mend.specs.Mending.{Image, begins_file, fillers_before}
use Rattle.lr_mend.specs.Mending.{gap_before, image_begun_by, image_with}
use Rattle.lr_mend.specs.Mending.{next_image, open_image, filler_units}
use Rattle.lr_mend.specs.Openings.{opening_of, units_in}
use Rattle.lr_mend.proofs.ImageHistories.{open_image-other, open_image-own}
use Rattle.lr_mend.proofs.StayingFiles.{goes_on, heard, heard-more, open_stretch}
use Rattle.lr_mend.proofs.StayingFiles.{open_stretch-end}
use Rattle.lr_laws.specs.SentImages.{Came, since_beginning as since}
use Rattle.lr_laws.proofs.MendedStretches.{SentFile}
use Rattle.lr_laws.proofs.OpenImages.{on}
use Rattle.lr_laws.proofs.OpenImages.{stretch_on, unit_same}
use Rattle.lr_laws.proofs.SentHistories.{Later, heard-other, later_is, next_split, standing}
use Rattle.lr_laws.proofs.SentPackets.{Before, EachOf, came_last, came_none, each_back, first_is_one}
use Rattle.lr_laws.proofs.SentPackets.{first_of_file, last_count-end, no_last}
use Rattle.lr_laws.proofs.SinceBeginning.{is_of_key, since-one, since-own, size_of-append, size_of-one}
use Rattle.lr_mend.proofs.Fillers.{next-opens}
use Rattle.lr_laws.proofs.FilledGaps.{Mendable, NextOne, Opened, Usable, goes, now, now_counted}
use Rattle.lr_laws.proofs.FilledGaps.{now_few, now_long, now_open, now_size, number}
use Rattle.std.proofs.Math.Nat.{mod-lt, mul_comm}
use Rattle.lr_laws.proofs.MendedStretches.{Matches}

-- ---- a packet between

with_more : (sent missing : List Good) (p : Good) →
    length (sent ++ (missing ++ p ∷ [])) ≡ length sent + length missing + 1
with_more sent missing p =
    omega (arith, length-append sent (missing ++ p ∷ []), length-append missing (p ∷ []))

count_with : (sent missing : List Good) (p : Good) → last_count (sent ++ (missing ++ p ∷ [])) ≡ p.count
count_with sent missing p =
    ap last_count (sym (append_assoc sent missing (p ∷ []))) ∙ last_count-end (sent ++ missing) p

less_wanted : (wanted unit after m units made all : ℕ) → after + m + 1 ≤ all → all * unit < wanted + after * unit →
    made ≡ unit * m → units ≡ unit → (wanted - (made + units)) + suc (after + m) * unit ≡ wanted + after * unit
less_wanted wanted unit after m units made all less more made_is units_are =
    let products : (after + m) * unit ≡ after * unit + m * unit = add-mul after m unit in
    let next : suc (after + m) * unit ≡ (after + m) * unit + unit = suc-mul (after + m) unit in
    let most : suc (after + m) * unit ≤ all * unit = mul-le-mul_right unit (omega (arith, less)) in
    omega (arith, products, next, most, more, made_is, units_are, mul_comm unit m)

module _ (c : SentFile) (d : Mendable c) (most : ℕ) (packets : List Good) (p : Good) (sent missing : List Good) (n : ℕ)
    (it : NextOne c d most packets p sent missing n) where
  abbrev listened : List Good
  listened = heard most packets ++ gap_before most packets p

  now_heard : packets_of_key p.vc p.apid (heard most (packets ++ p ∷ []))
      ≡ packets_of_key p.vc p.apid listened ++ p ∷ []
  now_heard = ap (packets_of_key p.vc p.apid) (heard-more most packets p) ∙ packets_of_key-own listened p

  abbrev so_far : List Good
  so_far = now c d most packets p sent missing n it

  abbrev old : Image
  old = it.opened.image

  pub next : p.flags ≡ 0 → next_image most (open_image most p.vc p.apid packets) p
      ≡ Some (image_with old (fillers_before most old p) p)
  next flags =
      let m = length missing in
      let first : eqb p.flags 1 ≡ false = ap (λ (k : ℕ). eqb k 1) flags in
      let between : eqb p.flags 0 ≡ true = ap (λ (k : ℕ). eqb k 0) flags in
      let goes_on_it = on old p d.unit m most (goes c d most packets p sent missing n it) in
      ap (λ (o : Option Image). next_image most o p) it.opened.is_image
      ∙ rw (first, between, goes_on_it) refl

  went_on : p.flags ≡ 0 → it.opened.after + length missing + 1 ≤ length d.between →
      Opened c d most (packets ++ p ∷ []) p.vc p.apid (sent ++ (missing ++ p ∷ [])) (n + 1)
  went_on flags inside =
      let m = length missing in
      let own = it.own flags in
      let long = now_long c d most packets p sent missing n it in
      let size = now_size c d most packets p sent missing n it in
      let number_is = number c d most packets p sent missing n it in
      let unit = unit_same old p d.unit m most (goes c d most packets p sent missing n it) in
      let size_more : size_of (so_far ++ p ∷ []) ≡ size_of so_far + length p.body =
      size_of-append so_far (p ∷ []) ∙ ap (λ (k : ℕ). size_of so_far + k) (size_of-one p) in
      let product : suc (it.opened.after + m) * d.longest ≡ (it.opened.after + m) * d.longest + d.longest =
      suc-mul (it.opened.after + m) d.longest in
      let whole : suc (it.opened.after + m) * d.longest ≤ length d.between * d.longest =
      mul-le-mul_right d.longest (omega (arith, inside)) in
      let some : 0 < SEQUENCE_COUNTS = omega arith in
      record {
        after = suc (it.opened.after + m);
        long = omega (arith, with_more sent missing p, it.opened.long);
        t = so_far ++ p ∷ [];
        stretch = ap open_stretch now_heard
            ∙ stretch_on (packets_of_key p.vc p.apid listened) so_far p
            (now_open c d most packets p sent missing n it) flags
            (now_counted c d most packets p sent missing n it) (now_few c d most packets p sent missing n it)
            (omega (arith, size, product, whole, d.fits, own.short));
        image = image_with old (fillers_before most old p) p;
        is_image = open_image-own most packets p ∙ next flags;
        count = sym (count_with sent missing p);
        same_count = last_count-end so_far p ∙ sym (count_with sent missing p);
        below = subst (λ (k : ℕ). k < SEQUENCE_COUNTS)
            (sym it.later.gap.counted ∙ sym (count_with sent missing p))
            (mod-lt (last_count sent + m + 1) some);
        coded = it.opened.coded;
        fillers = omega (arith, number_is, it.opened.fillers, with_more sent missing p);
        wanted = less_wanted old.wanted d.unit it.opened.after m (units_in old.coded p.body)
            (filler_units old p * fillers_before most old p) (length d.between) inside
            (omega (arith, d.wanted, it.opened.wanted)) (λ i. unit i * number_is i)
            (ap (λ (b : Bool). units_in b p.body) it.opened.coded ∙ own.units)
            ∙ it.opened.wanted;
        usable = λ _. own;
        early = λ first. let never : true ≡ false = sym first in absurd (cc never);
        length_is = length-append so_far (p ∷ []) ∙ ap (λ (k : ℕ). k + 1) long ∙ sym (with_more sent missing p);
        size = omega (arith, size_more, size, product, own.short);
      }

-- ---- the first packet

alone_with : (Q : List Good → Bool) (p : Good) (alone : Bool) (o : Option (List Good)) → alone ≡ true →
    ((s : List Good) → Q s ≡ false) → longer Q p alone o ≡ Some (p ∷ [])
alone_with Q p alone None is none = ap (λ (b : Bool). cond b (Some (p ∷ [])) None) is
alone_with Q p alone (Some s) is none =
    ap (λ (b : Bool). cond b (Some (s ++ p ∷ [])) (cond alone (Some (p ∷ [])) None)) (none s)
    ∙ ap (λ (b : Bool). cond b (Some (p ∷ [])) None) is

first_opens : (c : SentFile) (d : Mendable c) (most : ℕ) (packets : List Good) (p : Good) → p ≡ c.first →
    p.flags ≡ 1 → 0 < most → Opened c d most (packets ++ p ∷ []) p.vc p.apid (p ∷ []) 1
first_opens c d most packets p same flags some =
    let listened = heard most packets ++ gap_before most packets p in
    let qs = packets_of_key p.vc p.apid listened in
    let now_heard : packets_of_key p.vc p.apid (heard most (packets ++ p ∷ [])) ≡ qs ++ p ∷ [] =
    ap (packets_of_key p.vc p.apid) (heard-more most packets p) ∙ packets_of_key-own listened p in
    let body : length p.body ≡ length c.first.body = ap (λ (q : Good). length q.body) same in
    let one : eqb p.flags 1 ≡ true = ap (λ (k : ℕ). eqb k 1) flags in
    let short : leb (length p.body) most_file_bytes
    ≡ true = first_short (length p.body) (omega (arith, body, d.fits)) in
    let none : eqb p.flags 0 ≡ false = ap (λ (k : ℕ). eqb k 0) flags in
    let size : size_of (p ∷ []) ≡ length p.body = size_of-one p in
    record {
      after = 0;
      long = refl;
      t = p ∷ [];
      stretch = ap open_stretch now_heard ∙ open_stretch-end qs p
          ∙ alone_with (goes_on p) p (is_open (p ∷ [])) (open_stretch qs)
          (is_open-one p ∙ (λ i. one i && short i))
          (λ s. ap (λ (b : Bool). b && is_next (open_from s) p) none);
      image = image_begun_by p c.opening;
      is_image = open_image-own most packets p
          ∙ next-opens most (open_image most p.vc p.apid packets) p c.opening flags some
          (ap (λ (q : Good). opening_of q.body) same ∙ c.opens);
      count = refl;
      same_count = refl;
      below = subst (λ (q : Good). q.count < SEQUENCE_COUNTS) (sym same) d.counted;
      coded = refl;
      fillers = refl;
      wanted = omega (arith, zero-mul d.unit);
      usable = λ later. let never : true ≡ false = later in absurd (cc never);
      early = λ _. refl;
      length_is = refl;
      size = omega (arith, size, body, zero-mul d.longest);
    }
  where
    first_short : (k : ℕ) → k ≤ most_file_bytes → leb k most_file_bytes ≡ true
    first_short k less = grind (arith, nat_tests, less)

-- ---- packets of others

other_opened : (c : SentFile) (d : Mendable c) (most vc apid : ℕ) (packets : List Good) (p : Good) (sent : List Good)
    (n : ℕ) → is_of_key vc apid p ≡ false → Opened c d most packets vc apid sent n →
    Opened c d most (packets ++ p ∷ []) vc apid sent n
other_opened c d most vc apid packets p sent n other it =
    record {
      after = it.after;
      long = it.long;
      t = it.t;
      stretch = ap open_stretch (heard-other most vc apid packets p other) ∙ it.stretch;
      image = it.image;
      is_image = open_image-other most vc apid packets p other ∙ it.is_image;
      count = it.count;
      same_count = it.same_count;
      below = it.below;
      coded = it.coded;
      fillers = it.fillers;
      wanted = it.wanted;
      usable = it.usable;
      early = it.early;
      length_is = it.length_is;
      size = it.size;
    }

-- ---- all packets but the last one

abbrev AreOpened : (c : SentFile) → Mendable c → ℕ → List Good → Type 0
AreOpened c d most packets = (vc apid : ℕ) (sent : List Good) (l : Good) (lost : List Good) →
    c.whole ≡ sent ++ (l ∷ lost) → Came sent (since vc apid packets) →
    length sent ≤ length (since vc apid packets) + most →
    Opened c d most packets vc apid sent (length (since vc apid packets))

record HeadTail (ps : List Good) : Type 0 where
  head : Good
  tail : List Good
  is : ps ≡ head ∷ tail

head_tail : (ms : List Good) (p : Good) (rest : List Good) → HeadTail (ms ++ (p ∷ rest))
head_tail [] p rest = record { head = p; tail = rest; is = refl }
head_tail (m ∷ ms) p rest = record { head = m; tail = ms ++ (p ∷ rest); is = refl }

length-whole : (c : SentFile) (d : Mendable c) → length c.whole ≡ length d.between + 2
length-whole c d =
    let all : length c.whole ≡ suc (length d.between + 1) =
    ap length d.split ∙ ap suc (length-append d.between (d.last ∷ [])) in
    omega (arith, all)

-- what came so far, and the next packet
module _ (c : SentFile) (d : Mendable c) (most : ℕ) (packets : List Good) (p : Good) (are : AreOpened c d most packets)
    (all lost : List Good) (split : c.whole ≡ all ++ lost) (b : Before all (since p.vc p.apid packets) p)
    (few : length all ≤ length (since p.vc p.apid packets) + 1 + most) where
  pub whole : c.whole ≡ b.sent ++ (b.missing ++ (p ∷ lost))
  whole = next_split b.sent b.missing p lost c.whole all split b.is

  pub long : length all ≡ length b.sent + length b.missing + 1
  long = ap length b.is ∙ with_more b.sent b.missing p

  pub before_it : Opened c d most packets p.vc p.apid b.sent (length (since p.vc p.apid packets))
  before_it =
      let ht = head_tail b.missing p lost in
      are p.vc p.apid b.sent ht.head ht.tail (whole ∙ ap (λ (l : List Good). b.sent ++ l) ht.is) b.before
      (omega (arith, few, long))

  pub later : Later c b.sent b.missing p
  later = later_is c b.sent (since p.vc p.apid packets) b.missing p lost b.before whole

  pub own : p.flags ≡ 0 → Usable c.opening.coded d.unit d.longest p.body
  own =
      let P : Good → Type 0 = λ (q : Good). q.flags ≡ 0 → Usable c.opening.coded d.unit d.longest q.body in
      (each_back P b.missing (p ∷ lost)
      (each_back P b.sent (b.missing ++ (p ∷ lost)) (subst (EachOf P) whole d.usable))).0

  pub lengths : length all + length lost ≡ length d.between + 2
  lengths = sym (length-append all lost) ∙ sym (ap length split) ∙ length-whole c d

  abbrev pub next_one : (before_it.image.first ≡ true → p.flags ≡ 0) →
      NextOne c d most packets p b.sent b.missing (length (since p.vc p.apid packets))
  next_one between = record {
    opened = before_it;
    later = later;
    few = b.few;
    inside = omega (arith, lengths, long, before_it.long);
    allowed = omega (arith, few, long);
    own = own;
    between = between;
  }

  -- the packets before it, from the first one on
  pub begins : Matches c b.sent before_it.t
  begins =
      (standing c most packets p.vc p.apid b.sent (b.missing ++ (p ∷ lost)) whole b.before).stretch before_it.t
      before_it.stretch

  pub front : all ≡ (c.first ∷ (begins.later ++ b.missing)) ++ p ∷ []
  front =
      b.is ∙ sym (append_assoc b.sent b.missing (p ∷ []))
      ∙ ap (λ (l : List Good). (l ++ b.missing) ++ p ∷ []) begins.sent_is

between_flags : (c : SentFile) (xs : List Good) (p l : Good) (lost : List Good) →
    c.whole ≡ (c.first ∷ xs ++ p ∷ []) ++ (l ∷ lost) → p.flags ≡ 0
between_flags c xs p l lost is = no_last c.first xs p l lost (ap is_file (sym is) ∙ c.is_one)

own_opened : (c : SentFile) (d : Mendable c) (most : ℕ) (packets : List Good) (p : Good) → 0 < most →
    AreOpened c d most packets → (sent : List Good) (l : Good) (lost : List Good) → c.whole ≡ sent ++ (l ∷ lost) →
    (starts : Bool) → begins_file p ≡ starts →
    Came sent (cond starts (p ∷ []) (since p.vc p.apid packets ++ p ∷ [])) →
    length sent ≤ length (cond starts (p ∷ []) (since p.vc p.apid packets ++ p ∷ [])) + most →
    Opened c d most (packets ++ p ∷ []) p.vc p.apid sent
    (length (cond starts (p ∷ []) (since p.vc p.apid packets ++ p ∷ [])))
own_opened c d most packets p some are sent l lost split true is came few =
    elim (came_last sent (p ∷ []) came [] p refl)
    as (λ _. Opened c d most (packets ++ p ∷ []) p.vc p.apid sent 1) [
      | inl one ↦
          let whole : c.whole ≡ p ∷ (l ∷ lost) = split ∙ ap (λ (s : List Good). s ++ (l ∷ lost)) one.0 in
          let same : p ≡ c.first = (let h : p ∷ (l ∷ lost) ≡ c.first ∷ c.rest = sym whole ∙ c.begins in cc) in
          subst (λ (s : List Good). Opened c d most (packets ++ p ∷ []) p.vc p.apid s 1) (sym one.0)
          (first_opens c d most packets p same (first_is_one p l lost (ap is_file (sym whole) ∙ c.is_one)) some)
      | inr before ↦ absurd (came_none before.sent [] before.before refl)
    ]
own_opened c d most packets p some are sent l lost split false is came few =
    let n = length (since p.vc p.apid packets) in
    let count : length (since p.vc p.apid packets ++ p ∷ []) ≡ n + 1 =
    length-append (since p.vc p.apid packets) (p ∷ []) in
    elim (came_last sent (since p.vc p.apid packets ++ p ∷ []) came (since p.vc p.apid packets) p refl)
    as (λ _. Opened c d most (packets ++ p ∷ []) p.vc p.apid sent (length (since p.vc p.apid packets ++ p ∷ []))) [
      | inl one ↦
          let whole : c.whole ≡ p ∷ (l ∷ lost) = split ∙ ap (λ (s : List Good). s ++ (l ∷ lost)) one.0 in
          let starts = first_of_file p (l ∷ lost) (ap is_file (sym whole) ∙ c.is_one) in
          let never : true ≡ false = sym starts ∙ is in
          absurd (cc never)
      | inr b ↦
          let fewer : length sent ≤ n + 1 + most = omega (arith, few, count) in
          let at = before_it c d most packets p are sent (l ∷ lost) split b fewer in
          let long_is = long c d most packets p are sent (l ∷ lost) split b fewer in
          let lengths_are = lengths c d most packets p are sent (l ∷ lost) split b fewer in
          let m = begins c d most packets p are sent (l ∷ lost) split b fewer in
          let flags = between_flags c (m.later ++ b.missing) p l lost
          (split ∙ ap (λ (s : List Good). s ++ (l ∷ lost))
          (front c d most packets p are sent (l ∷ lost) split b fewer)) in
          let it = next_one c d most packets p are sent (l ∷ lost) split b fewer (λ _. flags) in
          let now_it = went_on c d most packets p b.sent b.missing n it flags
          (omega (arith, lengths_are, long_is, at.long)) in
          subst (λ (k : ℕ). Opened c d most (packets ++ p ∷ []) p.vc p.apid sent k) (sym count)
          (subst (λ (s : List Good). Opened c d most (packets ++ p ∷ []) p.vc p.apid s (n + 1)) (sym b.is) now_it)
    ]

opened_next : (c : SentFile) (d : Mendable c) (most : ℕ) (packets : List Good) (p : Good) → 0 < most →
    AreOpened c d most packets → (vc apid : ℕ) (own : Bool) → is_of_key vc apid p ≡ own →
    (sent : List Good) (l : Good) (lost : List Good) → c.whole ≡ sent ++ (l ∷ lost) →
    Came sent (since vc apid (packets ++ p ∷ [])) → length sent ≤ length (since vc apid (packets ++ p ∷ [])) + most →
    Opened c d most (packets ++ p ∷ []) vc apid sent (length (since vc apid (packets ++ p ∷ [])))
opened_next c d most packets p some are vc apid true is sent l lost split came few =
    let same = same_key p.vc vc p.apid apid is in
    let keys : since vc apid (packets ++ p ∷ []) ≡ since p.vc p.apid (packets ++ p ∷ []) =
    (λ i. since (sym same.0 i) (sym same.1 i) (packets ++ p ∷ [])) in
    let all = keys ∙ since-own packets p in
    subst (λ (ps : List Good). Opened c d most (packets ++ p ∷ []) vc apid sent (length ps)) (sym all)
    (subst (λ (vc : ℕ). Opened c d most (packets ++ p ∷ []) vc apid sent
    (length (cond (begins_file p) (p ∷ []) (since p.vc p.apid packets ++ p ∷ [])))) same.0
    (subst (λ (apid : ℕ). Opened c d most (packets ++ p ∷ []) p.vc apid sent
    (length (cond (begins_file p) (p ∷ []) (since p.vc p.apid packets ++ p ∷ [])))) same.1
    (own_opened c d most packets p some are sent l lost split (begins_file p) refl (subst (Came sent) all came)
    (subst (λ (ps : List Good). length sent ≤ length ps + most) all few))))
opened_next c d most packets p some are vc apid false is sent l lost split came few =
    let all = since-one vc apid packets p false is in
    subst (λ (ps : List Good). Opened c d most (packets ++ p ∷ []) vc apid sent (length ps)) (sym all)
    (other_opened c d most vc apid packets p sent (length (since vc apid packets)) is
    (are vc apid sent l lost split (subst (Came sent) all came)
    (subst (λ (ps : List Good). length sent ≤ length ps + most) all few)))

opened_after : (c : SentFile) (d : Mendable c) (most : ℕ) (before rest : List Good) → 0 < most →
    AreOpened c d most before → AreOpened c d most (before ++ rest)
opened_after c d most before [] some are = subst (AreOpened c d most) (sym (append-nil before)) are
opened_after c d most before (p ∷ rest) some are =
    subst (AreOpened c d most) (append_assoc before (p ∷ []) rest)
    (opened_after c d most (before ++ p ∷ []) rest some
    (λ vc apid sent l lost split came few.
    opened_next c d most before p some are vc apid (is_of_key vc apid p) refl sent l lost split came few))

pub opened : (c : SentFile) (d : Mendable c) (most : ℕ) (packets : List Good) → 0 < most → AreOpened c d most packets
opened c d most packets some =
    opened_after c d most [] packets some (λ vc apid sent l lost split came few. absurd (came_none sent [] came refl))
