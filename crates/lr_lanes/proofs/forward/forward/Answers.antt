use Rattle.std.proofs.Common.{rules, arith, ap, ◌∙◌, ◌≡◌, ◌+◌, ◌*◌, ◌++◌, ℕ, pos, slice_index, slice_index_or, List}
use Rattle.std.proofs.lemmas.Int.{to_z-of_z}
use mir.Syntax.{w8}
use mir.Val.{SFits}
use Rattle.lr_conv.specs.Convolution.{first_of_seven, second_of_seven}
use Rattle.lr_trellis.specs.Path.{symbol_cost}
use Rattle.lr_trellis.specs.Trellis.{branch_of}
use Rattle.lr_trellis.specs.Words.{branch_by}
use Rattle.lr_trellis.proofs.Forward.{none, more, all}
use Rattle.lr_lanes.proofs.forward.forward.Goals as goal

pub loop-i-init : goal.loop-i-init
loop-i-init c = record {
  low_size = c.lanes_of.ensures.low_size;
  high_size = c.lanes_of.ensures.high_size;
  steps =
      none c.args.line c.args.window.now (c.lanes_of.result.0 ++ c.lanes_of.result.1) c.args.words.now
      (λ s l. ap (λ (z : List ℕ). slice_index z s) c.lanes_of.ensures.value ∙ c.start_costs.ensures s l);
}

pub step-stepped-requires-clause-old : goal.step-stepped-requires-clause-old
step-stepped-requires-clause-old c = λ s l. omega (arith, c.loop-i.invariant.steps.bound s l)

pub loop-i-preserved : goal.loop-i-preserved
unfolding branch_of
loop-i-preserved c =
    let w = c.args.window.now in
    let i = c.loop-i.i in
    let here = slice_index_or w (2 * i) (pos 0) in
    let next = slice_index_or w (2 * i + 1) (pos 0) in
    let fits_here : SFits w8 here = search rules in
    let fits_next : SFits w8 next = search rules in
    let values : (m : ℕ) → branch_by c.pair_costs-costs.result m ≡
    symbol_cost (first_of_seven m) here + symbol_cost (second_of_seven c.args.line m) next =
    simp to_z-of_z at c.pair_costs-costs.ensures.value in
    record {
      low_size = c.step-stepped.ensures.low_size;
      high_size = c.step-stepped.ensures.high_size;
      steps = more c.args.line w i c.step-stepped.result.word (c.loop-i.low ++ c.loop-i.high)
          (c.step-stepped.result.low
          ++ c.step-stepped.result.high) c.loop-i.words c.pair_costs-costs.result c.loop-i.invariant.steps values
          c.pair_costs-costs.ensures.most c.step-stepped.ensures.least c.step-stepped.ensures.decided (omega arith);
    }

pub returns : goal.returns
returns c =
    let decided =
    all c.args.line c.args.window.now c.loop-i.i c.args.steps (c.loop-i.low ++ c.loop-i.high) c.loop-i.words
    (omega arith) c.loop-i.invariant.steps in
    record {
      decided = decided.decided;
      least = λ s l. c.all_costs.ensures s l ∙ decided.least s l;
      most = decided.most;
    }
