use Rattle.std.proofs.Common.{arith, ap, refl, subst, sym, ◌∙◌, ◌≡◌, ◌+◌, ℕ, ℤ, List}
use Rattle.std.specs.Prelude.{Option}
use Rattle.lr_block.specs.Randomiser.{randomised_block}
use Rattle.lr_conv.specs.Passes.{number_of}
use Rattle.lr_conv.specs.declared.line.LineCode.{LineCode}
use Rattle.lr_redecode.specs.Redecoded.{block_by, known_after, nothing, outcome_by, outcome_after, with_block}
use Rattle.lr_redecode.proofs.First.{first_block}
use Rattle.lr_redecode.proofs.Rounds.{IsRound, all_round, first_round, no_further, one_more}
use Rattle.lr_redecode.proofs.redecoder.Redecoder.outcome.Goals as goal
use Rattle.lr_redecode.proofs.redecoder.Redecoder.outcome.Goals.{
  then-before-count+then-count-lt4,
  else-before-count,
  else-before-count-via-then-before-count+else-count-lt4,
  else-before-count-via-else-before-count,
}

moved : (line : LineCode) (w : List ℤ) (turn b before : ℕ) (k known : List (Option (List ℕ))) → b ≡ before → k ≡ known →
    IsRound line w turn before known → IsRound line w turn b k
moved line w turn b before k known e f r =
    subst (λ (x : ℕ). IsRound line w turn x k) (sym e)
    (subst (λ (x : List (Option (List ℕ))). IsRound line w turn before x) (sym f) r)

pub loop-turn-init : goal.loop-turn-init
loop-turn-init c =
    let w = c.args.window.now in
    first_round c.args.line w 0 0 c.known_with-known.result refl refl
    (c.known_with-known.ensures ∙ ap (with_block nothing)
    (c.derandomise.ensures ∙ ap randomised_block c.requires.path ∙ first_block c.args.line w))

pub loop-turn-preserved : goal.loop-turn-preserved
loop-turn-preserved c =
    let line = c.args.line in
    let w = c.args.window.now in
    let turn = c.loop-turn.turn in
    let here = c.loop-turn.invariant in
    elim c.if-before-count.branch [
      | then-before-count+then-count-lt4 v ↦
          moved line w (turn + 1) _ _ _ _ v.before-is v.known-is
          (one_more line w turn c.loop-turn.before c.count_of-count.result c.loop-turn.known _ here
          c.count_of-count.ensures
          (v.known_with-known-then-count-lt4.ensures ∙ ap (with_block c.loop-turn.known) v.fill_block.ensures))
      | else-before-count v ↦
          moved line w (turn + 1) _ _ _ _ v.before-is v.known-is
          (elim v.else-before-count.branch [
            | else-before-count-via-then-before-count+else-count-lt4 u ↦
                all_round line w turn c.loop-turn.before c.loop-turn.known here
                (let few = u.if-count-lt4.false in let e = c.count_of-count.ensures in omega arith)
            | else-before-count-via-else-before-count u ↦
                no_further line w turn c.loop-turn.before c.loop-turn.known here
                (let none = u.if-before-count.false in let e = c.count_of-count.ensures in omega arith)
          ])
    ]

pub returns : goal.returns
unfolding outcome_after
returns c =
    let line = c.args.line in
    let w = c.args.window.now in
    let at : c.loop-turn.turn + 1 ≡ number_of c.args.passes = omega (arith, c.further_passes-turn-end.ensures) in
    let first = c.derandomise.ensures ∙ ap randomised_block c.requires.path ∙ first_block line w in
    let last = c.loop-turn.invariant.known_is ∙ ap (known_after line w) at in
    c.outcome_of.ensures ∙ ap (λ (b : List ℕ). outcome_by b c.loop-turn.known) first
    ∙ ap (outcome_by (block_by line w nothing)) last
