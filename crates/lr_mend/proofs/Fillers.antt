-- The fillers of a gap: how many there are, and the next one.
use Rattle.std.proofs.Common.{◌≡◌, ℕ, zero, suc, ◌+◌, ◌-◌, ◌<◌, ◌≤◌, Bool, true, false, cond, eqb, leb, ltb, ◌&&◌}
use Rattle.std.proofs.Common.{List, [], ◌∷◌, Option, Some, None, Result, Ok, Err, sym, ap, ◌∙◌, refl, arith}
use Rattle.std.proofs.Common.{length, drop, min}
use Rattle.std.proofs.lemmas.List.{drop_all}
use Rattle.std.proofs.lemmas.Bool.Decides.{nat_tests}
use Rattle.lr_headers.specs.declared.fault.HeaderFault.{HeaderFault}
use Rattle.lr_headers.specs.declared.fault.HeaderFault.TheVariants.{Ended, NotPrimary, ShortRecord, Overrun}
use Rattle.lr_headers.specs.declared.fault.HeaderFault.TheVariants.{WrongLength, NoMemory}
use Rattle.lr_headers.specs.Tiling.{Header, HasHeaderFault, HasHeaderFaultOrMemory, IsHeaderOf}
use Rattle.lr_headers.specs.Headers.{header_of}
use Rattle.lr_headers.proofs.Readings.{header_is, fault_is}
use Rattle.lr_image.specs.Shapes.{shape_of}
use Rattle.lr_packet.specs.Verdict.{Good}
use Rattle.lr_mend.specs.Mending.{Image, Filling, fillers_from, fillers_before, can_fill, goes_on, missing_before}
use Rattle.lr_mend.specs.Mending.{needed_before, count_after}
use Rattle.lr_mend.specs.Mending.{next_image, continued_image, image_begun_by, image_with}
use Rattle.lr_mend.specs.Openings.{Opening, opening_by, opening_in, opening_of}
use Rattle.lr_mend.specs.Reading.{openings}
use Rattle.lr_mend.specs.declared.opening.Opening.{Opening as OpeningRead}
use Rattle.std.specs.Prelude.{IfOk, OnOk}

-- the first filler of some, and those after it
pub fillers_from-next : (filling : Filling) (left count flags : ℕ) → (left ≡ 0 → ⊥) →
    flags ≡ cond (filling.ends && eqb (left - 1) 0) 2 0 →
    fillers_from filling left count ≡
    record { vc = filling.vc; apid = filling.apid; flags = flags; count = count; body = filling.body }
    ∷ fillers_from filling (left - 1) (count_after count)
unfolding fillers_from
fillers_from-next filling zero count flags some is = absurd (some refl)
fillers_from-next filling (suc more) count flags some is =
    let less : suc more - 1 ≡ more = omega arith in
    let same : cond (filling.ends && eqb more 0) 2 0 ≡ flags =
    sym (is ∙ ap (λ (n : ℕ). cond (filling.ends && eqb n 0) 2 0) less) in
    λ i. record { vc = filling.vc; apid = filling.apid; flags = same i; count = count; body = filling.body }
    ∷ fillers_from filling (sym less i) (count_after count)

pub fillers_from-none : (filling : Filling) (left count : ℕ) → left ≡ 0 → fillers_from filling left count ≡ []
unfolding fillers_from
fillers_from-none filling zero count none = refl
fillers_from-none filling (suc more) count none = absurd (omega arith)

-- how many fillers come at most
abbrev pub fillers_wanted : Image → Good → ℕ
fillers_wanted image p = min (missing_before image p) (needed_before image p)

-- how many fillers come, test by test
pub fillers_before-all : (most : ℕ) (image : Image) (p : Good) → can_fill image p ≡ true →
    image.fillers + fillers_wanted image p ≤ most → fillers_wanted image p ≡ fillers_before most image p
unfolding fillers_before
fillers_before-all most image p can few =
    let fits : leb (image.fillers + fillers_wanted image p) most ≡ true = grind (arith, nat_tests, few) in
    rw (can, fits) refl

pub fillers_before-many : (most : ℕ) (image : Image) (p : Good) → can_fill image p ≡ true →
    most < image.fillers + fillers_wanted image p → 0 ≡ fillers_before most image p
unfolding fillers_before
fillers_before-many most image p can many =
    let none : leb (image.fillers + fillers_wanted image p) most ≡ false = grind (arith, nat_tests, many) in
    rw (can, none) refl

pub fillers_before-not : (most : ℕ) (image : Image) (p : Good) → can_fill image p ≡ false →
    0 ≡ fillers_before most image p
unfolding fillers_before
fillers_before-not most image p not_so = rw not_so refl

-- a fault that isn't want of memory is the header's
pub fault_of_header : (proper : List ℕ) (fault : HeaderFault) → (fault ≡ NoMemory → ⊥) →
    HasHeaderFaultOrMemory proper fault → HasHeaderFault proper fault
fault_of_header proper (Ended at) other has = has
fault_of_header proper NotPrimary other has = has
fault_of_header proper (ShortRecord at) other has = has
fault_of_header proper (Overrun at) other has = has
fault_of_header proper (WrongLength kind length) other has = has
fault_of_header proper NoMemory other has = absurd (other refl)

-- the opening of a header that is read, of a fault, and of too few bytes
pub opening_of-ok : (body : List ℕ) (header : Header) → IsHeaderOf (drop 10 body) header →
    opening_by (shape_of header) (drop (length header.bytes) (drop 10 body)) ≡ opening_of body
unfolding opening_of
opening_of-ok body header is = sym (ap (opening_in (drop 10 body)) (header_is (drop 10 body) header is))

pub opening_of-err : (body : List ℕ) (fault : HeaderFault) → HasHeaderFault (drop 10 body) fault →
    None ≡ opening_of body
unfolding opening_of
opening_of-err body fault has = sym (ap (opening_in (drop 10 body)) (fault_is (drop 10 body) fault has))

pub opening_of-short : (body : List ℕ) → length body < 10 → None ≡ opening_of body
unfolding opening_of header_of
opening_of-short body short =
    let few : length body ≤ 10 = omega arith in
    sym (ap (λ (proper : List ℕ). opening_in proper (header_of proper)) (drop_all 10 body few))

-- what isn't so, unless there is an error
pub unless_memory : {E P : Type 0} (r : Result (Option OpeningRead) E) (v : Option Opening) → IfOk r (λ o. o ≡ None) →
    OnOk r P → (P → None ≡ v) → IfOk r (λ o. openings o ≡ v)
unless_memory (Ok o) v is p f = ap openings is ∙ f p
unless_memory (Err e) v is p f = tt

-- the image that a packet with the flags 1 opens, if it opens one
pub next-opens : (most : ℕ) (kept : Option Image) (p : Good) (opening : Opening) → p.flags ≡ 1 → 0 < most →
    opening_of p.body ≡ Some opening → next_image most kept p ≡ Some (image_begun_by p opening)
next-opens most kept p opening one some begins =
    let allowed : ltb 0 most ≡ true = grind (arith, nat_tests, some) in
    rw (one, allowed, begins) refl

none_of : (b : Bool) → ◌≡◌ {A = Option Image} (cond b None None) None
none_of true = refl
none_of false = refl

pub next-none_begun : (most : ℕ) (kept : Option Image) (p : Good) → p.flags ≡ 1 → opening_of p.body ≡ None →
    next_image most kept p ≡ None
next-none_begun most kept p one none = rw (one, none) (none_of (ltb 0 most))

pub next-none_allowed : (most : ℕ) (kept : Option Image) (p : Good) → p.flags ≡ 1 → most ≤ 0 →
    next_image most kept p ≡ None
next-none_allowed most kept p one none =
    let not_allowed : ltb 0 most ≡ false = grind (arith, nat_tests, none) in
    rw (one, not_allowed) refl

-- a packet that is neither the first nor one between closes the image
pub next-none : (most : ℕ) (kept : Option Image) (p : Good) → (p.flags ≡ 1 → ⊥) → (p.flags ≡ 0 → ⊥) →
    next_image most kept p ≡ None
next-none most kept p first between =
    let not_one : eqb p.flags 1 ≡ false = grind (arith, nat_tests, first) in
    let not_zero : eqb p.flags 0 ≡ false = grind (arith, nat_tests, between) in
    rw (not_one, not_zero) refl

pub next-continues : (most : ℕ) (kept : Option Image) (p : Good) → p.flags ≡ 0 →
    next_image most kept p ≡ continued_image most kept p
next-continues most kept p between = rw between refl

-- what goes on of an open image, and of none
pub continued_image-some : (most : ℕ) (kept : Option Image) (image : Image) (p : Good) → kept ≡ Some image →
    goes_on most image p ≡ true →
    continued_image most kept p ≡ Some (image_with image (fillers_before most image p) p)
continued_image-some most kept image p e on = rw (e, on) refl

pub continued_image-closed : (most : ℕ) (kept : Option Image) (image : Image) (p : Good) → kept ≡ Some image →
    goes_on most image p ≡ false → continued_image most kept p ≡ None
continued_image-closed most kept image p e off = rw (e, off) refl

pub continued_image-none : (most : ℕ) (kept : Option Image) (p : Good) → kept ≡ None →
    continued_image most kept p ≡ None
continued_image-none most kept p e = rw e refl
