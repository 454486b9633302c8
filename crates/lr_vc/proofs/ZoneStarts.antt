-- What the start of a zone says, in the terms of its pointer.
use Rattle.std.proofs.Common.{Bool, List, [], cond, eqb, false, ltb, not, suc, true, ℕ, ◌&&◌, ◌+◌, ◌-◌, ◌<◌, ◌∷◌, ◌≡◌}
use Rattle.std.proofs.Common.{◌≤◌}
use Rattle.std.proofs.Common.{◌++◌, map, filter, drop, refl, ap, sym, ◌∙◌, lt-ltb, arith}
use Rattle.std.proofs.lemmas.Bool.Decides.{nat_tests}
use Rattle.lr_bits.specs.declared.sizes.TheConstants.{NO_PACKET_START, ZONE_BYTES}
use Rattle.lr_vc.specs.declared.channel.ZoneStart.{ZoneStart}
use Rattle.lr_vc.specs.declared.channel.ZoneStart.TheVariants.{At, Nowhere, Idle}
use Rattle.lr_vc.specs.Packets.{has_header, is_whole, packet_at, packet_end, starts_from}
use Rattle.lr_vc.specs.Steps.{zone_start_of, is_nowhere, ends_at, packets_inside, starts_after, starts_unfinished}

pub ends_at-pointer : (n e p : ℕ) →
    ends_at n e (zone_start_of p)
    ≡ cond (eqb e (n + ZONE_BYTES)) (eqb p NO_PACKET_START) (ltb p ZONE_BYTES && eqb e (n + p))
ends_at-pointer n e p = grind (arith, nat_tests)

pub is_nowhere-pointer : (p : ℕ) → is_nowhere (zone_start_of p) ≡ eqb p NO_PACKET_START
is_nowhere-pointer p = grind (arith, nat_tests)

pub at_is_inside : (p q : ℕ) → zone_start_of p ≡ At q → p < ZONE_BYTES
at_is_inside p q is = grind (arith, nat_tests)

pub nowhere_is_outside : (p : ℕ) → zone_start_of p ≡ Nowhere → ZONE_BYTES ≤ p
nowhere_is_outside p is = grind (arith, nat_tests)

pub idle_is_outside : (p : ℕ) → zone_start_of p ≡ Idle → ZONE_BYTES ≤ p
idle_is_outside p is = grind (arith, nat_tests)

-- what `agrees` answers, in the terms of a pointer
unfoldable pub test : ℕ → ℕ → ℕ → Bool
test e n q = cond (eqb e (n + ZONE_BYTES)) (eqb q NO_PACKET_START) (ltb q ZONE_BYTES && eqb e (n + q))

pub agrees_is : (n e p : ℕ) (start : ZoneStart) → start ≡ zone_start_of p → ends_at n e start ≡ test e n p
unfolding test
agrees_is n e p start is = ap (ends_at n e) is ∙ ends_at-pointer n e p

pub nowhere_not : (p : ℕ) (start : ZoneStart) → start ≡ zone_start_of p → is_nowhere start ≡ false
    → (p ≡ NO_PACKET_START → ⊥)
nowhere_not p start is isnt e =
    let t : eqb p NO_PACKET_START ≡ false = sym (ap is_nowhere is ∙ is_nowhere-pointer p)
    ∙ isnt in grind (arith, nat_tests)

pub nowhere_so : (p : ℕ) (start : ZoneStart) → start ≡ zone_start_of p → is_nowhere start ≡ true → p ≡ NO_PACKET_START
nowhere_so p start is sure =
    let t : eqb p NO_PACKET_START ≡ true = sym (ap is_nowhere is ∙ is_nowhere-pointer p)
    ∙ sure in grind (arith, nat_tests)

from_step : (zone : List ℕ) (edge n start : ℕ) → start < edge →
    starts_from zone edge (suc n) start
    ≡ start ∷ cond (has_header zone start) (starts_from zone edge n (packet_end zone start)) []
unfolding starts_from
from_step zone edge n start inside = rw (lt-ltb start edge inside) refl

-- a zone with a start in it has a packet that lies in it or one that goes on
some_start : (zone : List ℕ) (first : ℕ) → first < ZONE_BYTES →
    starts_after zone first
    ≡ first ∷ cond (has_header zone first) (starts_from zone ZONE_BYTES (ZONE_BYTES - 1) (packet_end zone first)) []
unfolding starts_after
some_start zone first inside = from_step zone ZONE_BYTES (ZONE_BYTES - 1) first inside

map_none : {A B : Type 0} (f : A → B) (xs : List A) → map f xs ≡ [] → xs ≡ []
map_none f [] e = refl
map_none f (x ∷ xs) e = cc

either_way : (zone : List ℕ) (vc first : ℕ) (more : List ℕ) (whole : Bool) → is_whole zone first ≡ whole →
    map (packet_at vc zone) (filter (is_whole zone) (first ∷ more)) ≡ [] →
    filter (λ start. not (is_whole zone start)) (first ∷ more) ≡ [] → ⊥
either_way zone vc first more true is none left = cc (rw is at none)
either_way zone vc first more false is none left = cc (rw is at left)

pub some_packet : (zone : List ℕ) (vc first : ℕ) → first < ZONE_BYTES → packets_inside vc zone first ≡ [] →
    map (λ start. drop start zone) (starts_unfinished zone first) ≡ [] → ⊥
unfolding packets_inside starts_unfinished
some_packet zone vc first inside none left =
    either_way zone vc first _ (is_whole zone first) refl
    (rw (some_start zone first inside) at none)
    (rw (some_start zone first inside) at (map_none _ _ left))

-- nothing is the whole of two lists
pub front_none : {A : Type 0} (xs ys : List A) → xs ++ ys ≡ [] → xs ≡ []
front_none [] ys e = refl
front_none (x ∷ xs) ys e = cc

pub back_none : {A : Type 0} (xs ys : List A) → xs ++ ys ≡ [] → ys ≡ []
back_none [] ys e = e
back_none (x ∷ xs) ys e = cc
