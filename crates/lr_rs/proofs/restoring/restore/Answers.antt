use Rattle.std.proofs.Common.{◌≡◌, ◌<◌, ◌∙◌, ℕ, List, refl, sym, ap, subst, arith, slice_index}
use Rattle.std.proofs.lemmas.List.Elements.{All-from_get_or}
use Rattle.std.proofs.lemmas.Bool.{false≢true}
use Rattle.lr_gf.specs.Systems.{entry}
use Rattle.lr_rs.specs.Words.{distance, IsCodeword, IsRestored}
use Rattle.lr_rs.proofs.KeyEquation.{at_most_sixteen}
use Rattle.lr_rs.proofs.Exactness.{Found, there_is_a_solution, it_is_the_codeword, distance-self}
use Rattle.lr_rs.proofs.restoring.restore.Goals.{After-fill_equations, After-is_codeword-2}
use Rattle.lr_rs.proofs.restoring.restore.Goals as goal
use Rattle.lr_rs.specs.declared.sizes.TheConstants.{WORD_BYTES}

pub returns-then-is_codeword-clause-restored : goal.returns-then-is_codeword-clause-restored
returns-then-is_codeword-clause-restored c = record {
  is_word = c.is_codeword.ensures.word;
  is_codeword = c.is_codeword.ensures.codeword.0 (cc);
  near = omega (arith, distance-self WORD_BYTES c.args.word.now);
}

pub returns-then-is_codeword-clause-changed : goal.returns-then-is_codeword-clause-changed
returns-then-is_codeword-clause-changed c = sym (distance-self WORD_BYTES c.args.word.now)

-- the polynomial isn't 0, so it has at most sixteen roots
pub returns-then-count-gt-MOST_ERRORS-clause-none : goal.returns-then-count-gt-MOST_ERRORS-clause-none
returns-then-count-gt-MOST_ERRORS-clause-none c c' r =
    let nonzero = c.kernel.ensures.nonzero (cc) in
    let few = at_most_sixteen c.kernel.new.x c.find_roots-count.new.places c.find_roots-count.result
    c.find_roots-count.ensures.long
    (All-from_get_or (λ a. a < 256) c.kernel.new.x 0 (λ i h. c.kernel.ensures.elements (cc) i))
    c.find_roots-count.ensures.list nonzero.0 nonzero.1 nonzero.2 in
    absurd (omega (arith, few))

-- what is found before the equations are solved
found : (c : After-fill_equations) → Found c.args.word.now c.kernel.new.x c.find_roots-count.new.places
    c.find_roots-count.result (slice_index c.syndromes_of.new.syndromes) (entry c.fill_key_equation.new.system)
found c = record {
  values = λ j h. c.syndromes_of.ensures j h ∙ c.is_codeword.ensures.remainder.same j h;
  filled = c.fill_key_equation.ensures;
  kernel = c.kernel.ensures.sent (cc);
  long = c.find_roots-count.ensures.long;
  list = c.find_roots-count.ensures.list;
  few = c.if-count-gt-MOST_ERRORS.false;
}

-- the error values would be a solution
pub returns-in-Err-clause-none : goal.returns-in-Err-clause-none
returns-in-Err-clause-none c c' r =
    c.in-Err.ensures.none _
    (there_is_a_solution (found (goal.at.returns-in-Err-clause-none c).After-fill_equations) r c.fill_equations.ensures)

-- the corrected word would be the codeword
same : (c : After-is_codeword-2) → Found c.args.word.now c.kernel.new.x c.find_roots-count.new.places
    c.find_roots-count.result (slice_index c.syndromes_of.new.syndromes) (entry c.fill_key_equation.new.system) →
    (c' : List ℕ) → IsRestored c.args.word.now c' → c.correct.new.word ≡ c'
same c f c' r =
    it_is_the_codeword f r c.fill_equations.ensures c.solve.new.x c.correct.new.word c.in_default.ensures.ok
    c.in_default.ensures.elements c.is_codeword-2.ensures.word c.correct.ensures.changed c.correct.ensures.kept

pub returns-then-not-is_codeword-clause-none : goal.returns-then-not-is_codeword-clause-none
returns-then-not-is_codeword-clause-none c c' r =
    let to = goal.at.returns-then-not-is_codeword-clause-none c in
    let is = same to.After-is_codeword-2 (found to.After-fill_equations) c' r in
    absurd (false≢true (sym c.if-not-is_codeword.true
    ∙ c.is_codeword-2.ensures.codeword.1 (subst IsCodeword (sym is) r.is_codeword)))

pub returns-then-not-is_codeword-clause-same : goal.returns-then-not-is_codeword-clause-same
returns-then-not-is_codeword-clause-same c = refl

-- and no farther away than it
pub returns-then-changed-gt-MOST_ERRORS-clause-none : goal.returns-then-changed-gt-MOST_ERRORS-clause-none
returns-then-changed-gt-MOST_ERRORS-clause-none c c' r =
    let to = goal.at.returns-then-changed-gt-MOST_ERRORS-clause-none c in
    let is = same to.After-is_codeword-2 (found to.After-fill_equations) c' r in
    absurd (omega (
      arith,
      c.distance_of-changed.ensures.value,
      ap (distance WORD_BYTES c.args.word.now) is,
      r.near,
      c.if-changed-gt-MOST_ERRORS.true,
    ))

pub returns-clause-restored : goal.returns-clause-restored
returns-clause-restored c = record {
  is_word = c.is_codeword-2.ensures.word;
  is_codeword = c.is_codeword-2.ensures.codeword.0 (cc);
  near = omega (arith, c.distance_of-changed.ensures.value, c.if-changed-gt-MOST_ERRORS.false);
}

pub returns-clause-changed : goal.returns-clause-changed
returns-clause-changed c = c.distance_of-changed.ensures.value
