-- How a plan comes on.
use Rattle.std.proofs.Common.{◌≡◌, ◌<◌, ◌≤◌, ◌+◌, ◌*◌, ◌-◌, ℕ, zero, suc, List, [], ◌∷◌, ◌++◌, length, drop}
use Rattle.std.proofs.Common.{Result, Ok, Err, inl, inr, refl, sym, ap, ◌∙◌, subst, arith, append_assoc, append-nil}
use mathlib.Core.Option.{some, some-ne-none}
use lib.ListN.{get_elem?}
use Rattle.std.proofs.lemmas.List.{drop-drop, length-drop}
use Rattle.lr_headers.specs.declared.fields.Structure.{Structure}
use Rattle.lr_rice.specs.declared.fault.RiceFault.{RiceFault}
use Rattle.lr_image.specs.declared.fault.ImageFault.{ImageFault}
use Rattle.lr_image.specs.declared.fault.ImageFault.TheVariants.{Rice, Short}
use Rattle.lr_render.specs.Making.{StripsMake}
use Rattle.lr_render.specs.Plans.{IsStripAt, PlanView, planned_strips}
use Rattle.lr_render.specs.Standing.{HasKept, all_lines, in_front}
use Rattle.lr_render.specs.Strips.{FailsWith, GivesPixels}
use Rattle.lr_render.specs.declared.strip.StripSource.{StripSource}

-- the first of what is left is the one of that number
pub first_left : {X : Type 0} (xs : List X) (n : ℕ) (x : X) (rest : List X) → drop n xs ≡ x ∷ rest
    → get_elem? xs n ≡ some x
first_left [] zero x rest e = absurd (cc)
first_left [] (suc n) x rest e = absurd (cc)
first_left (y ∷ ys) zero x rest e = cc
first_left (y ∷ ys) (suc n) x rest e = first_left ys n x rest e

pub left_after : {X : Type 0} (xs : List X) (n : ℕ) (x : X) (rest : List X) → drop n xs ≡ x ∷ rest
    → drop (n + 1) xs ≡ rest
left_after {X} xs n x rest e = sym (drop-drop 1 n xs) ∙ ap (λ (l : List X). drop 1 l) e

pub left_from : {X : Type 0} (xs : List X) (n : ℕ) (x : X) → get_elem? xs n ≡ some x
    → drop n xs ≡ x ∷ drop (n + 1) xs
left_from [] n x e = absurd (some-ne-none x (sym e))
left_from {X} (y ∷ ys) zero x e =
    let one : 0 + 1 ≡ suc 0 = refl in
    let same : y ≡ x = cc in
    ap (λ (z : X). z ∷ ys) same
left_from {X} (y ∷ ys) (suc n) x e =
    let one : suc n + 1 ≡ suc (n + 1) = omega arith in
    left_from ys n x e ∙ ap (λ (k : ℕ). x ∷ drop k (y ∷ ys)) (sym one)

-- a strip more was given and kept, so fewer are left
pub fewer_left : (old given kept : PlanView) (strip : StripSource) → IsStripAt old old.given strip
    → given ≡ record old { given = old.given + 1 } → kept ≡ record given { kept = given.kept + 1 }
    → length (planned_strips kept) - kept.given < length (planned_strips old) - old.given
fewer_left old given kept strip at gives keeps =
    let strips = planned_strips old in
    let left = ap length (left_from strips old.given strip at) in
    rw (keeps, gives) (omega (arith, left, length-drop old.given strips))

-- nothing was kept
pub none_kept : (s : Structure) (strips : List StripSource) → all_lines strips ≤ s.lines → HasKept s strips 0 0 []
none_kept s strips few = record {
  fits = omega (arith, few);
  makes = λ outcome make. as_it_is outcome make;
}
  where
    as_it_is : (outcome : Result (List ℕ) ImageFault) → StripsMake s 0 0 strips outcome
        → StripsMake s 0 0 strips (in_front [] outcome)
    as_it_is (Ok pixels) make = make
    as_it_is (Err fault) make = make

module _ (s : Structure) (strips : List StripSource) (kept lines : ℕ) (pixels : List ℕ)
    (has : HasKept s strips kept lines pixels) where
  module _ (strip : StripSource) (rest : List StripSource) (left : drop kept strips ≡ strip ∷ rest) where
    pub fits_one : lines + strip.lines ≤ s.lines
    fits_one = omega (arith, has.fits, ap all_lines left)

    -- one strip more, with its pixels
    pub kept_more : (more : List ℕ) → GivesPixels strip more
        → HasKept s strips (kept + 1) (lines + strip.lines) (pixels ++ more)
    kept_more more gives = record {
      fits = omega (arith, has.fits, ap all_lines left, ap all_lines after);
      makes = λ outcome make. onward outcome
          (subst (λ (l : List StripSource). StripsMake s (kept + 1) (lines + strip.lines) l outcome) after make);
    }
      where
        after : drop (kept + 1) strips ≡ rest
        after = left_after strips kept strip rest left

        onward : (outcome : Result (List ℕ) ImageFault) → StripsMake s (kept + 1) (lines + strip.lines) rest outcome
            → StripsMake s 0 0 strips (in_front (pixels ++ more) outcome)
        onward (Ok back) make =
            let one : StripsMake s kept lines (strip ∷ rest) (Ok (more ++ back)) =
            record { front = more; gives = gives; back = back; others = make; are_pixels = refl } in
            subst (λ (l : List ℕ). StripsMake s 0 0 strips (Ok l)) (sym (append_assoc pixels more back))
            (has.makes (Ok (more ++ back))
            (subst (λ (l : List StripSource). StripsMake s kept lines l (Ok (more ++ back))) (sym left) one))
        onward (Err fault) make =
            let one : StripsMake s kept lines (strip ∷ rest) (Err fault) =
            inr (record { front = more; gives = gives; later = make }) in
            has.makes (Err fault)
            (subst (λ (l : List StripSource). StripsMake s kept lines l (Err fault)) (sym left) one)

    -- one that fails
    pub kept_fault : (rice : RiceFault) → FailsWith strip rice → StripsMake s 0 0 strips (Err (Rice kept rice))
    kept_fault rice fails =
        let one : StripsMake s kept lines (strip ∷ rest) (Err (Rice kept rice)) =
        inl (record { rice = rice; fails = fails; is_fault = refl }) in
        has.makes (Err (Rice kept rice))
        (subst (λ (l : List StripSource). StripsMake s kept lines l (Err (Rice kept rice))) (sym left) one)

  module _ (none : drop kept strips ≡ []) where
    -- all lines are there
    pub made_all : s.lines ≤ lines → StripsMake s 0 0 strips (Ok pixels)
    made_all enough =
        let end : StripsMake s kept lines [] (Ok []) = (enough, refl) in
        subst (λ (l : List ℕ). StripsMake s 0 0 strips (Ok l)) (append-nil pixels)
        (has.makes (Ok []) (subst (λ (l : List StripSource). StripsMake s kept lines l (Ok [])) (sym none) end))

    -- lines are missing
    pub made_short : lines < s.lines → StripsMake s 0 0 strips (Err (Short (lines * s.columns)))
    made_short few =
        let fault = Short (lines * s.columns) in
        let end : StripsMake s kept lines [] (Err (Short (lines * s.columns))) = (few, refl) in
        has.makes (Err (Short (lines * s.columns)))
        (subst (λ (l : List StripSource). StripsMake s kept lines l (Err (Short (lines * s.columns)))) (sym none) end)
