-- A mended file comes of an image that was sent.
use Rattle.std.proofs.Common.{◌≡◌, ℕ, ◌+◌, ◌*◌, ◌<◌, ◌≤◌, Bool, true, false, cond, eqb, leb}
use Rattle.std.proofs.Common.{◌&&◌, Option, Some, None, List, [], ◌∷◌, ◌++◌, length, refl, sym, ap}
use Rattle.std.proofs.Common.{◌∙◌, subst, arith, length-append, inl, inr, max, min}
use Rattle.std.specs.Option.{option_map}
use Rattle.std.specs.Prelude.{find}
use Rattle.std.proofs.lemmas.Bool.Decides.{nat_tests}
use Rattle.std.proofs.lemmas.List.{append-nil}
use Rattle.std.proofs.Math.Nat.{mul-le-mul_right, suc-mul, zero-mul}
use Rattle.lr_bits.specs.File.{File}
use Rattle.lr_bits.specs.Sizes.{most_file_bodies}
use Rattle.lr_packet.specs.Verdict.{Good}
use Rattle.lr_file.specs.Files.{bodies_of, file_at, file_from, is_file, last_stretches, packets_of_key, size_of}
use Rattle.lr_file.proofs.Histories.{packets_of_key-own}
use Rattle.lr_file.proofs.Stretches.{and_left, and_right}
use Rattle.lr_mend.specs.Mending.{begins_file, count_after, fillers_before, fillers_from}
use Rattle.lr_mend.specs.Mending.{filling_before, gap_before}
use Rattle.lr_mend.specs.Openings.{units_in}
use Rattle.lr_mend.proofs.StayingFiles.{ends, file_stretch-end, heard, open_stretch}
use Rattle.lr_laws.specs.SentImages.{Came, since_beginning as since}
use Rattle.lr_laws.proofs.MendedStretches.{SentFile}
use Rattle.lr_laws.proofs.OpenImages.{next_is}
use Rattle.lr_laws.proofs.OpenImages.{on_with}
use Rattle.lr_laws.proofs.SentPackets.{EachOf, came_last}
use Rattle.lr_laws.proofs.SinceBeginning.{since-own, size_of-append, size_of-one}
use Rattle.lr_laws.proofs.FilledGaps.{Mendable, Usable, now, now_counted}
use Rattle.lr_laws.proofs.FilledGaps.{now_few, now_is, now_open, now_size}
use Rattle.lr_laws.proofs.SentPackets.{last_flags, same_ends}
use Rattle.std.specs.List.{concat}
use Rattle.std.specs.Prelude.{is_some}
use Rattle.std.specs.List.{sum_by}
use Rattle.std.proofs.lemmas.Bool.{leb-true}
use Rattle.std.proofs.lemmas.List.Sums.{sum_by-cons}
use Rattle.lr_headers.specs.declared.fields.Structure.{Structure}
use Rattle.lr_headers.specs.declared.fields.Lossless.{Lossless}
use Rattle.lr_laws.specs.MendableImages.{IsMendable, MendedImagesCome}
use Rattle.lr_laws.specs.SentImages.{AreAlike, SentImage}
use Rattle.lr_laws.proofs.SentImages.{inside_first, packet_stands, standing_image, sent_file}
use Rattle.lr_laws.proofs.SentPackets.{each_front, each_of, gap_is}
use Rattle.lr_laws.proofs.OpenedImages.{before_it, begins, front, next_one, opened}

-- ---- the last packet

pub last_file : (ps : List Good) (p : Good) (t : List Good) →
    open_stretch (packets_of_key p.vc p.apid ps) ≡ Some t → ends p t ≡ true →
    file_at ps p ≡ Some (file_from p.vc p.apid (t ++ p ∷ []))
unfolding file_at
last_file ps p t is ending =
    let qs = packets_of_key p.vc p.apid ps in
    ap (λ l. option_map (file_from p.vc p.apid) (find is_file (last_stretches l))) (packets_of_key-own ps p)
    ∙ ap (option_map (file_from p.vc p.apid)) (file_stretch-end qs p
    ∙ on_with (ends p) p (is_file (p ∷ [])) t (open_stretch qs) is ending)

size_with : (t gap : List Good) (p : Good) (r : List Good) → r ≡ t ++ gap →
    size_of (r ++ p ∷ []) ≡ size_of t + size_of gap + length p.body
size_with t gap p r is =
    size_of-append r (p ∷ []) ∙ (λ i. (ap size_of is ∙ size_of-append t gap) i + size_of-one p i)

pub least : (k : ℕ) → 10 ≤ k → leb 10 k ≡ true
least k some = grind (arith, nat_tests, some)

ended : (c : SentFile) (d : Mendable c) (most : ℕ) (packets : List Good) (p : Good) → 0 < most →
    (came : List Good) → since p.vc p.apid (packets ++ p ∷ []) ≡ came → Came c.whole came → 2 < length came →
    length c.whole ≤ length came + most → (starts : Bool) → begins_file p ≡ starts →
    (file : File) × (file_at (heard most packets ++ gap_before most packets p) p ≡ Some file)
ended c d most packets p some came since_is came_of many few true is =
    let one : p ∷ [] ≡ came =
    sym (since-own packets p
    ∙ ap (λ (b : Bool). cond b (p ∷ []) (since p.vc p.apid packets ++ p ∷ [])) is) ∙ since_is in
    absurd (omega (arith, many, ap length one))
ended c d most packets p some came since_is came_of many few false is =
    let n = length (since p.vc p.apid packets) in
    let all : came ≡ since p.vc p.apid packets ++ p ∷ [] =
    sym since_is ∙ since-own packets p
    ∙ ap (λ (b : Bool). cond b (p ∷ []) (since p.vc p.apid packets ++ p ∷ [])) is in
    let count : length came ≡ n + 1 = ap length all ∙ length-append (since p.vc p.apid packets) (p ∷ []) in
    elim (came_last c.whole came came_of (since p.vc p.apid packets) p all)
    as (λ _. (file : File) × (file_at (heard most packets ++ gap_before most packets p) p ≡ Some file)) [
      | inl one ↦
          let none : n ≡ 0 = ap length one.1 in
          absurd (omega (arith, many, count, none))
      | inr b ↦
          let are = opened c d most packets some in
          let fewer : length c.whole ≤ n + 1 + most = omega (arith, few, count) in
          let split : c.whole ≡ c.whole ++ [] = sym (append-nil c.whole) in
          let at = before_it c d most packets p are c.whole [] split b fewer in
          let m = begins c d most packets p are c.whole [] split b fewer in
          let whole = front c d most packets p are c.whole [] split b fewer in
          let it = next_one c d most packets p are c.whole [] split b fewer
          (λ first. absurd (omega (arith, at.early first, many, count))) in
          let two = last_flags c.first (m.later ++ b.missing) p (ap is_file (sym whole) ∙ c.is_one) in
          let last = same_ends (c.first ∷ (m.later ++ b.missing)) (c.first ∷ d.between) p d.last
          (sym whole ∙ d.split) in
          let body : length p.body ≡ length d.last.body = ap (λ (q : Good). length q.body) last.1 in
          let r = now c d most packets p b.sent b.missing n it in
          let size = now_size c d most packets p b.sent b.missing n it in
          let product : (it.opened.after + length b.missing) * d.longest ≤ length d.between * d.longest =
          mul-le-mul_right d.longest it.inside in
          let next = next_is r p (now_counted c d most packets p b.sent b.missing n it)
          (now_few c d most packets p b.sent b.missing n it) (omega (arith, size, product, body, d.fits)) in
          let gap = fillers_from (filling_before it.opened.image p) (fillers_before most it.opened.image p)
          (count_after it.opened.image.count) in
          let at_t : List Good = it.opened.t in
          let first : size_of it.opened.t ≡ length c.first.body + size_of m.others =
          ap size_of m.is ∙ length-append c.first.body (concat (bodies_of m.others)) in
          let bytes = size_with at_t gap p r (now_is c d most packets p b.sent b.missing n it) in
          let ten = least (size_of (r ++ p ∷ [])) (omega (arith, first, bytes, d.ten)) in
          let flag : eqb p.flags 2 ≡ true = ap (λ (k : ℕ). eqb k 2) two in (
            file_from p.vc p.apid (r ++ p ∷ []),
            last_file (heard most packets ++ gap_before most packets p) p r
                (now_open c d most packets p b.sent b.missing n it) (λ i. (flag i && next i) && ten i),
          )
    ]

each_both : (P Q R : Good → Type 0) (ps : List Good) → ((p : Good) → P p → Q p → R p) → EachOf P ps → EachOf Q ps →
    EachOf R ps
each_both P Q R [] both some others = tt
each_both P Q R (p ∷ ps) both some others =
    (both p some.0 others.0, each_both P Q R ps both some.1 others.1)

-- ---- what is said of the packets that were sent

unit_of_bodies : (s : Structure) (lossless : Option Lossless) (coded : Bool) (sent : List Good) →
    coded ≡ is_some lossless → AreAlike s lossless sent → EachOf (λ p. p.flags ≡ 0 → 0 < length p.body) sent →
    (unit : ℕ) × ((0 < unit) × EachOf (λ p. p.flags ≡ 0 → units_in coded p.body ≡ unit) sent)
unit_of_bodies s None coded sent is alike some = (
  max 1 alike.0,
  (
    omega arith,
    each_both (λ p. p.flags ≡ 0 → length p.body ≡ alike.0) (λ p. p.flags ≡ 0 → 0 < length p.body)
        (λ p. p.flags ≡ 0 → units_in coded p.body ≡ max 1 alike.0) sent
        (λ p long has flags. let a = long flags in let b = has flags in
        ap (λ (k : Bool). units_in k p.body) is ∙ (let e : length p.body ≡ max 1 alike.0 = omega (arith, a, b) in e))
        (each_of (λ p. p.flags ≡ 0 → length p.body ≡ alike.0) sent alike.1) some,
  ),
)
unit_of_bodies s (Some l) coded sent is alike some = (
  1,
  (
    omega arith,
    each_both (λ p. p.flags ≡ 0 → 0 < length p.body) (λ p. p.flags ≡ 0 → 0 < length p.body)
        (λ p. p.flags ≡ 0 → units_in coded p.body ≡ 1) sent
        (λ p has _ flags. let b = has flags in
        ap (λ (k : Bool). units_in k p.body) is ∙ (let e : min 1 (length p.body) ≡ 1 = omega (arith, b) in e))
        some some,
  ),
)

sum_is : (f : Good → ℕ) (unit : ℕ) (ps : List Good) → EachOf (λ p. f p ≡ unit) ps →
    sum_by f ps ≡ length ps * unit
sum_is f unit [] each = sym (zero-mul unit)
sum_is f unit (p ∷ ps) each = omega
    (arith, sum_by-cons f p ps, each.0, sum_is f unit ps each.1, suc-mul (length ps) unit)

file_few : (sent : List Good) → is_file sent ≡ true → length sent ≤ most_file_bodies
unfolding is_file
file_few sent is =
    leb-true (length sent) most_file_bodies (and_right _ _ (and_left _ _ (and_left _ _ is)))

module _ (vc apid : ℕ) (sent : List Good) (i : SentImage vc apid sent) (d : IsMendable vc apid sent i) where
  abbrev c : SentFile
  c = sent_file vc apid sent i

  split_is : sent ≡ i.first ∷ (d.between ++ d.last ∷ [])
  split_is = i.begins ∙ ap (λ (l : List Good). i.first ∷ l) d.split

  abbrev some : EachOf (λ p. p.flags ≡ 0 → 0 < length p.body) sent
  some = each_of (λ p. p.flags ≡ 0 → 0 < length p.body) sent d.some

  abbrev unit_is : (unit : ℕ) × ((0 < unit) × EachOf (λ p. p.flags ≡ 0 → units_in i.opening.coded p.body ≡ unit) sent)
  unit_is =
      unit_of_bodies i.image.layout.shape.structure i.image.layout.shape.lossless i.opening.coded sent c.coded i.alike
      some

  between_units : EachOf (λ p. units_in i.opening.coded p.body ≡ unit_is.0) d.between
  between_units =
      let P : Good → Type 0 = λ (p : Good). p.flags ≡ 0 → units_in i.opening.coded p.body ≡ unit_is.0 in
      let gap = gap_is i.first [] d.between d.last [] (ap is_file (sym split_is) ∙ i.is_one) in
      let each = each_front P d.between (d.last ∷ []) (subst (EachOf P) split_is unit_is.1.1).1 in
      each_both P (λ p. p.flags ≡ 0) (λ p. units_in i.opening.coded p.body ≡ unit_is.0) d.between
      (λ p units flags. units flags) each gap.flags

  pub mendable : Mendable c
  mendable = record {
    between = d.between;
    last = d.last;
    split = split_is;
    unit = unit_is.0;
    some_unit = unit_is.1.0;
    wanted = omega (
      arith,
      d.wanted,
      sum_is (λ p. units_in i.opening.coded p.body) unit_is.0 d.between between_units,
    );
    longest = d.longest;
    usable = each_both (λ p. (p.flags ≡ 0 → 0 < length p.body) × (p.flags ≡ 0 → length p.body ≤ d.longest))
        (λ p. p.flags ≡ 0 → units_in i.opening.coded p.body ≡ unit_is.0)
        (λ p. p.flags ≡ 0 → Usable i.opening.coded unit_is.0 d.longest p.body) sent
        (λ p has units flags. record { some = has.0 flags; units = units flags; short = has.1 flags })
        (each_both (λ p. p.flags ≡ 0 → 0 < length p.body) (λ p. p.flags ≡ 0 → length p.body ≤ d.longest)
        (λ p. (p.flags ≡ 0 → 0 < length p.body) × (p.flags ≡ 0 → length p.body ≤ d.longest)) sent (λ p a b. (a, b)) some
        (each_of (λ p. p.flags ≡ 0 → length p.body ≤ d.longest) sent d.short))
        unit_is.1.1;
    fits = d.fits;
    few = file_few sent i.is_one;
    counted = d.counted;
    ten = omega (arith, inside_first vc apid sent i);
  }

pub mended_come : MendedImagesCome
mended_come most packets p sent came i d allowed since_is came_of many few =
    let it = ended (sent_file p.vc p.apid sent i) (mendable p.vc p.apid sent i d) most packets p allowed came since_is
    came_of many few (begins_file p) refl in
    let stands = packet_stands most packets p sent i (subst (Came sent) (sym since_is) came_of) it.0 it.1 in
    (it.0, (it.1, (stands, standing_image p.vc p.apid sent i it.0 stands)))
