use Rattle.std.proofs.Common.{◌∙◌, ◌++◌, ◌/◌, ◌^◌, refl, sym}
use Rattle.lr_trellis.proofs.Butterflies.{each_cost, each_state}
use Rattle.lr_lanes.specs.Lanes.{in_order}
use Rattle.lr_lanes.proofs.SignedStep.{merged, raised, raised_at}
use Rattle.lr_lanes.proofs.TurnedWord.{high_bit, high_second, low_second}
use Rattle.lr_lanes.proofs.narrow_step.narrow_step.Goals as goal

pub returns-clause-least : goal.returns-clause-least
returns-clause-least c = λ pairs held s l.
    sym (raised_at (c.all_states.result.0 ++ c.all_states.result.1) s l)
    ∙ each_cost pairs (in_order (c.args.low ++ c.args.high))
    (raised (c.all_states.result.0 ++ c.all_states.result.1)) c.seconds_of.result (c.seconds_of.result / 2 ^ 32)
    (merged pairs c.args.costs c.args.low c.args.high c.lane_costs-costs.result c.path_costs.result
    c.other_path_costs.result c.other_path_costs-2.result c.path_costs-2.result c.lesser_of-even_firsts.result.0
    c.lesser_of-odd_firsts.result.0 (c.all_states.result.0 ++ c.all_states.result.1) c.seconds_of.result
    (c.seconds_of.result / 2 ^ 32) c.requires.low held c.requires.least c.requires.most
    c.lane_costs-costs.ensures.value c.path_costs.ensures.value c.other_path_costs.ensures.value
    c.other_path_costs-2.ensures.value c.path_costs-2.ensures.value c.lesser_of-even_firsts.ensures.least
    (λ k h. low_second c.seconds_of.result c.lesser_of-even_firsts.result.1 k _ (c.seconds_of.ensures.even k h)
    (c.lesser_of-even_firsts.ensures.firsts k h)) c.lesser_of-odd_firsts.ensures.least
    (λ k h. high_second c.seconds_of.result c.lesser_of-odd_firsts.result.1 k _ (c.seconds_of.ensures.odd k h)
    (c.lesser_of-odd_firsts.ensures.firsts k h)) c.all_states.ensures.even c.all_states.ensures.odd) s l

pub returns-clause-decided : goal.returns-clause-decided
returns-clause-decided c = λ pairs held.
    each_state pairs (in_order (c.args.low ++ c.args.high))
    (raised (c.all_states.result.0 ++ c.all_states.result.1)) c.seconds_of.result (c.seconds_of.result / 2 ^ 32)
    c.seconds_of.result
    (merged pairs c.args.costs c.args.low c.args.high c.lane_costs-costs.result c.path_costs.result
    c.other_path_costs.result c.other_path_costs-2.result c.path_costs-2.result c.lesser_of-even_firsts.result.0
    c.lesser_of-odd_firsts.result.0 (c.all_states.result.0 ++ c.all_states.result.1) c.seconds_of.result
    (c.seconds_of.result / 2 ^ 32) c.requires.low held c.requires.least c.requires.most
    c.lane_costs-costs.ensures.value c.path_costs.ensures.value c.other_path_costs.ensures.value
    c.other_path_costs-2.ensures.value c.path_costs-2.ensures.value c.lesser_of-even_firsts.ensures.least
    (λ k h. low_second c.seconds_of.result c.lesser_of-even_firsts.result.1 k _ (c.seconds_of.ensures.even k h)
    (c.lesser_of-even_firsts.ensures.firsts k h)) c.lesser_of-odd_firsts.ensures.least
    (λ k h. high_second c.seconds_of.result c.lesser_of-odd_firsts.result.1 k _ (c.seconds_of.ensures.odd k h)
    (c.lesser_of-odd_firsts.ensures.firsts k h)) c.all_states.ensures.even c.all_states.ensures.odd)
    (λ k h. refl) (λ k h. sym (high_bit c.seconds_of.result k))
