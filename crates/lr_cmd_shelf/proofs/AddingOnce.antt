-- Bytes decide one addition, or one refusal, of a command that adds an item.
use Rattle.std.proofs.Common.{◌≡◌, ◌<◌, inl, inr, ℕ, Result, Ok, Err, List}
use Rattle.std.proofs.Common.{min, arith, ap, ◌∙◌, sym, subst}
use Rattle.lr_bits.specs.Sizes.{most_u64}
use Rattle.lr_shelf_format.specs.Way.{Way, IsWay}
use Rattle.lr_shelf_format.proofs.WayLemmas.{has_one_way}
use Rattle.lr_causes.specs.declared.cause.Refusal.{Refusal}
use Rattle.lr_causes.specs.declared.cause.Refusal.TheVariants.{NotAShelf, Capacity}
use Rattle.lr_cmd_shelf.specs.Adding.{Addition, AdditionQuery, Fits, IsFullFor, IsRefusedOnWay}
use Rattle.lr_cmd_shelf.specs.Adding.{IsAddingRefused, MayAdd, way_added}

module _ (query : AdditionQuery)
    (once : (bytes : List ℕ) (way : Way) (one other : Result Addition Refusal) → query.decides bytes way one
    → query.decides bytes way other → one ≡ other) where
  pub one_way : (bytes : List ℕ) (way way' : Way) → IsWay bytes way → IsWay bytes way' → way ≡ way'
  one_way bytes way way' is is' = (has_one_way bytes).way way way' is is'

  -- ---- one refusal

  module _ (bytes : List ℕ) (way : Way) where
    full_once : (one other : Addition) (refusal refusal' : Refusal) → query.decides bytes way (Ok one)
        → query.decides bytes way (Ok other) → IsFullFor one.item way refusal → IsFullFor other.item way refusal'
        → refusal ≡ refusal'
    full_once one other refusal refusal' is is' full full' =
        let same = once bytes way (Ok one) (Ok other) is is' in
        let addition : one ≡ other = cc (same) in
        full.is ∙ ap (λ (a : Addition). Capacity (min (way_added a.item way).end most_u64) way.capacity)
        addition ∙ sym full'.is

    pub refused_once : (one other : Refusal) → IsRefusedOnWay query bytes way one
        → IsRefusedOnWay query bytes way other
        → one ≡ other
    refused_once one other (inl is) (inl is') =
        let same = once bytes way (Err one) (Err other) is is' in
        cc (same)
    refused_once one other (inl is) (inr is') =
        let same = once bytes way (Err one) (Ok is'.0) is is'.1 in
        cc (same)
    refused_once one other (inr is) (inl is') =
        let same = once bytes way (Ok is.0) (Err other) is.1 is' in
        cc (same)
    refused_once one other (inr is) (inr is') = full_once is.0 is'.0 one other is.1 is'.1 is.2 is'.2

    pub not_both : (refusal : Refusal) (addition : Addition) → IsRefusedOnWay query bytes way refusal
        → query.decides bytes way (Ok addition) → Fits addition.item way → ⊥
    not_both refusal addition (inl is) is' fits =
        let same = once bytes way (Err refusal) (Ok addition) is is' in
        cc (same)
    not_both refusal addition (inr is) is' fits =
        let same = once bytes way (Ok is.0) (Ok addition) is.1 is' in
        let one : is.0 ≡ addition = cc (same) in
        let over : way.capacity < (way_added addition.item way).end =
        subst (λ (a : Addition). way.capacity < (way_added a.item way).end) one is.2.over in
        omega (arith, over, fits)

  pub over_once : (bytes : List ℕ) (one other : Refusal) → IsAddingRefused query bytes one
      → IsAddingRefused query bytes other → one ≡ other
  over_once bytes one other (inl is) (inl is') =
      sym is.2 ∙ ap NotAShelf ((has_one_way bytes).place is.0 is'.0 is.1 is'.1) ∙ is'.2
  over_once bytes one other (inl is) (inr is') = absurd ((has_one_way bytes).none is'.0 is.0 is'.1 is.1)
  over_once bytes one other (inr is) (inl is') = absurd ((has_one_way bytes).none is.0 is'.0 is.1 is'.1)
  over_once bytes one other (inr is) (inr is') =
      refused_once bytes is.0 one other is.2
      (subst (λ (w : Way). IsRefusedOnWay query bytes w other) (one_way bytes is'.0 is.0 is'.1 is.1) is'.2)

  pub over_none : (bytes : List ℕ) (refusal : Refusal) (addition : Addition) → IsAddingRefused query bytes refusal
      → MayAdd query bytes addition → ⊥
  over_none bytes refusal addition (inl is) may = (has_one_way bytes).none may.way is.0 may.is_way is.1
  over_none bytes refusal addition (inr is) may =
      not_both bytes may.way refusal addition
      (subst (λ (w : Way). IsRefusedOnWay query bytes w refusal) (one_way bytes is.0 may.way is.1 may.is_way) is.2)
      may.decided may.fits
