use Rattle.std.proofs.Common.{◌≡◌, ℕ, ◌≤◌, ◌+◌, ◌∙◌, sym, subst, arith, List, length}
use Rattle.std.proofs.Math.ListN.{length-set}
use Rattle.lr_gf.specs.Field.{value_of}
use Rattle.lr_rs.specs.Words.{locator}
use Rattle.lr_rs.specs.RootLists.{IsRootList}
use Rattle.lr_rs.proofs.KeyEquation.{roots_start, roots_more, roots_skip}
use Rattle.lr_rs.proofs.TermSteps.{AreTerms, terms_start, terms_next, terms_value}
use Rattle.lr_rs.proofs.roots.find_roots.Goals as goal
use Rattle.lr_rs.proofs.roots.find_roots.Goals.{then-here-eq0, else-here-eq0}
use Rattle.lr_rs.specs.declared.sizes.TheConstants.{WORD_BYTES}

abbrev Kept : List ℕ → List ℕ → ℕ → ℕ → List ℕ → Type 0
Kept cs terms place count places = AreTerms cs terms place × IsRootList cs place count places × (count ≤ place)
    × (length places ≡ WORD_BYTES)

pub loop-place-init : goal.loop-place-init
loop-place-init c = (
  terms_start c.args.polynomial.now c.requires,
  roots_start c.args.polynomial.now c.args.places.now,
  omega arith,
  c.told-places,
)

pub loop-place-preserved : goal.loop-place-preserved
loop-place-preserved c =
    let terms : AreTerms c.args.polynomial.now c.step_terms.new.terms (c.loop-place.place + 1) =
    terms_next c.args.polynomial.now c.loop-place.terms c.step_terms.new.terms c.loop-place.place c.loop-place-test.true
    c.loop-place.invariant.0 c.step_terms.ensures.stepped c.step_terms.ensures.constant in
    let is : value_of c.args.polynomial.now (locator c.loop-place.place) ≡ c.here.inside.0 =
    sym (terms_value c.args.polynomial.now c.step_terms.new.terms c.loop-place.place c.told-polynomial
    c.loop-place-test.true terms)
    ∙ sym c.sum_of_terms-here.ensures ∙ sym c.here.view_is in
    elim c.if-here-eq0.branch [
      | then-here-eq0 w ↦
          subst (λ (n : ℕ). Kept c.args.polynomial.now c.step_terms.new.terms (c.loop-place.place + 1) n
          c.if-here-eq0.places) (sym w.count-is)
          (subst (λ (ps : List ℕ). Kept c.args.polynomial.now c.step_terms.new.terms (c.loop-place.place + 1)
          (c.loop-place.count + 1) ps) (sym w.places-is) (
            terms,
            roots_more c.args.polynomial.now c.loop-place.places c.loop-place.place c.loop-place.count
                c.loop-place.invariant.1
                (omega (arith, c.loop-place.invariant.2, c.loop-place.invariant.3)) (is ∙ w.if-here-eq0.true),
            omega (arith, c.loop-place.invariant.2),
            length-set c.loop-place.places c.loop-place.count c.loop-place.place ∙ c.loop-place.invariant.3,
          ))
      | else-here-eq0 w ↦
          subst (λ (n : ℕ). Kept c.args.polynomial.now c.step_terms.new.terms (c.loop-place.place + 1) n
          c.if-here-eq0.places) (sym w.count-is)
          (subst (λ (ps : List ℕ). Kept c.args.polynomial.now c.step_terms.new.terms (c.loop-place.place + 1)
          c.loop-place.count ps) (sym w.places-is) (
            terms,
            roots_skip c.args.polynomial.now c.loop-place.places c.loop-place.place c.loop-place.count
                c.loop-place.invariant.1 (λ e. w.if-here-eq0.false (sym is ∙ e)),
            omega (arith, c.loop-place.invariant.2),
            c.loop-place.invariant.3,
          ))
    ]
