use Rattle.std.proofs.Common.{rules, arith, refl, ◌≡◌, ◌+◌, ◌*◌, ℕ, pos, slice_index_or}
use Rattle.std.proofs.lemmas.Int.{to_z-of_z}
use mir.Syntax.{w8}
use mir.Val.{SFits}
use Rattle.lr_conv.specs.Convolution.{first_of_seven, second_of_seven}
use Rattle.lr_trellis.specs.Path.{symbol_cost}
use Rattle.lr_trellis.specs.Trellis.{branch_of}
use Rattle.lr_trellis.specs.Words.{branch_by}
use Rattle.lr_trellis.proofs.Forward.{from_decided, more, all, costs_fit}
use Rattle.lr_trellis.proofs.steps.take_step.Goals as goal

pub step-requires-clause-old : goal.step-requires-clause-old
step-requires-clause-old c =
    costs_fit c.args.line c.args.window.now c.args.i c.args.words.now c.args.old.now (omega arith) c.requires.decided

pub returns : goal.returns
unfolding branch_of
returns c =
    let line = c.args.line in
    let w = c.args.window.now in
    let i = c.args.i in
    let here = slice_index_or w (2 * i) (pos 0) in
    let next = slice_index_or w (2 * i + 1) (pos 0) in
    let fits_here : SFits w8 here = search rules in
    let fits_next : SFits w8 next = search rules in
    let values : (m : ℕ) → branch_by c.pair_costs-costs.result m ≡
    symbol_cost (first_of_seven m) here + symbol_cost (second_of_seven line m) next =
    simp to_z-of_z at c.pair_costs-costs.ensures.value in
    all line w (i + 1) (i + 1) _ _ refl
    (more line w i c.step.result c.args.old.now c.step.new.new c.args.words.now c.pair_costs-costs.result
    (from_decided line w i c.args.words.now c.args.old.now c.requires.decided) values c.pair_costs-costs.ensures.most
    c.step.ensures.least c.step.ensures.decided (omega arith))
