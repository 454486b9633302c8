use Rattle.std.proofs.Common.{refl, rules, arith, subst, ◌∙◌, ◌≡◌, ◌+◌, ◌*◌, ◌++◌, ◌≤◌, ℕ, pos}
use Rattle.std.proofs.Common.{length, reverse, slice_index_or}
use Rattle.std.proofs.lemmas.Int.{to_z-of_z}
use mir.Syntax.{w8}
use mir.Val.{SFits}
use Rattle.lr_conv.specs.Convolution.{first_of_seven, second_of_seven}
use Rattle.lr_conv.specs.Levels.{levels}
use Rattle.lr_conv.proofs.Lines.{length-levels}
use Rattle.lr_trellis.specs.Path.{symbol_cost}
use Rattle.lr_trellis.specs.Trellis.{branch_of, end_before, is_odd, read_back}
use Rattle.lr_trellis.specs.Words.{branch_by, decisions, last_one}
use Rattle.lr_trellis.specs.declared.costs.TheConstants.{STEP_COST}
use Rattle.lr_pinned.specs.Steps.{pinned_branch}
use Rattle.lr_pinned.proofs.Bounds.{costs_fit}
use Rattle.lr_trellis.proofs.LeastRead.{end_chosen}
use Rattle.lr_pinned.proofs.Strings.{read_is_found}
use Rattle.lr_pinned.proofs.Unique.{agreeing, is_named}
use Rattle.lr_pinned.proofs.decode.last_state.Goals as goal

pub end_state-end-requires-clause-costs : goal.end_state-end-requires-clause-costs
end_state-end-requires-clause-costs c = λ s l.
    omega (
      arith,
      costs_fit c.args.line c.args.pins.now c.args.window.now (length c.args.pins.now + 5)
          c.args.words.now c.args.costs.now (omega arith) c.requires.decided s l,
    )

pub returns-clause-read : goal.returns-clause-read
unfolding branch_of
returns-clause-read c = λ x first size low walk.
    let line = c.args.line in
    let pins = c.args.pins.now in
    let w = c.args.window.now in
    let n = length pins in
    let d = decisions c.args.words.now in
    let last = c.pair_costs-last.result in
    let l = last_one line c.args.costs.now last in
    let s1 = c.bits_back.result in
    let here = slice_index_or w (2 * (n + 5)) (pos 0) in
    let next = slice_index_or w (2 * (n + 5) + 1) (pos 0) in
    let fits_here : SFits w8 here = search rules in
    let fits_next : SFits w8 next = search rules in
    let values : (m : ℕ) → branch_by last m ≡ symbol_cost (first_of_seven m) here
    + symbol_cost (second_of_seven line m) next = simp to_z-of_z at c.pair_costs-last.ensures.value in
    let last_most : (m : ℕ) → branch_of line w (n + 5) m ≤ STEP_COST =
    λ m. subst (λ k. k ≤ STEP_COST) (values m) (c.pair_costs-last.ensures.most m) in
    let known : read_back d (n + 5) (end_before line l) ≡
    reverse (levels line (is_odd s1) c.bits_back.new.out) ++ read_back d n s1 =
    subst (λ s. read_back d (n + 5) s ≡ reverse (levels line (is_odd s1) c.bits_back.new.out)
    ++ read_back d n s1) c.end_state-end.ensures c.bits_back.ensures.path in
    let found =
    read_is_found line pins w d n x
    (levels line
    (is_odd s1) c.bits_back.new.out) s1 first l c.requires.decided.decided c.requires.decided.most last_most
    c.requires.bits refl
    c.requires.window size
    (length-levels line (is_odd s1) c.bits_back.new.out ∙ c.bits_back.auto.out)
    c.bits_back.ensures.state low
    (end_chosen line (pinned_branch line pins w) w n c.args.costs.now last c.requires.decided.least values)
    known walk in
    let long : length w ≡ 2 * length x + 12 = omega arith in
    (agreeing line pins w x long found.agrees found.least, is_named line pins w x long found.least)
