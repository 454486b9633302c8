use Rattle.std.proofs.Common.{arith, ap, sym, ◌∙◌, ◌≡◌, ◌+◌, ◌-◌}
use Rattle.lr_trellis.specs.Words.{decisions, state_back}
use Rattle.lr_trellis.proofs.EightSteps.{back_more, still_below}
use Rattle.lr_trellis.proofs.way_back.states_back.Goals as goal

pub loop-i-preserved : goal.loop-i-preserved
unfolding decisions
loop-i-preserved c =
    let older = decisions c.args.words.now in
    let i = c.loop-i.i in
    let here = c.loop-i.invariant in
    record {
      low_below = still_below _ c.loop-i.low c.older_state-low.result here.low_below c.older_state-low.ensures;
      high_below = still_below _ c.loop-i.high c.older_state-high.result here.high_below c.older_state-high.ensures;
      low_left = here.low_left ∙ back_more older c.args.first i (i - 1) c.loop-i.low c.older_state-low.result
          (omega arith) c.older_state-low.ensures;
      high_left = here.high_left ∙ back_more older (c.args.first + c.args.apart) i (i - 1) c.loop-i.high
          c.older_state-high.result (omega arith) c.older_state-high.ensures;
    }

pub returns-clause-low : goal.returns-clause-low
returns-clause-low c =
    let none : c.loop-i.i ≡ 0 = omega arith in
    sym (c.loop-i.invariant.low_left
    ∙ ap (λ k. state_back (decisions c.args.words.now) c.args.first k c.loop-i.low) none)

pub returns-clause-high : goal.returns-clause-high
returns-clause-high c =
    let none : c.loop-i.i ≡ 0 = omega arith in
    sym (c.loop-i.invariant.high_left
    ∙ ap (λ k. state_back (decisions c.args.words.now) (c.args.first + c.args.apart) k c.loop-i.high) none)
