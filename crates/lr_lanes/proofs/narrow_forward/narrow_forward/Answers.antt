use Rattle.std.proofs.Common.{slice_set, arith, ap, subst, sym, ◌∙◌, ◌≡◌, ◌+◌, ◌%◌, ◌++◌, ℕ, List, slice_index}
use Rattle.lr_trellis.proofs.Forward.{Forward, all, from_decided}
use Rattle.lr_lanes.specs.Lanes.{IsWithin, lane_of, pair_costs_of}
use Rattle.lr_lanes.proofs.LaneOrder.{in_order_at, lane_low}
use Rattle.lr_lanes.proofs.Merging.{low_at, high_at}
use Rattle.lr_lanes.proofs.Narrow.{base_bound, costs_at, costs_from, first_costs, first_state, first_within, further}
use Rattle.lr_lanes.proofs.Narrow.{lane_above, last_costs, near_lanes, one_more, same_costs, still_above}
use Rattle.lr_lanes.proofs.narrow_forward.narrow_forward.Goals as goal

pub narrow_lanes_of-low-requires-clause-small : goal.narrow_lanes_of-low-requires-clause-small
narrow_lanes_of-low-requires-clause-small c = λ k l.
    let here = lane_low k l in
    omega (
      arith,
      c.turned.ensures.value k l,
      low_at c.lanes_of.result.0 c.lanes_of.result.1 c.lanes_of.ensures.low_size (lane_of k) here,
      ap (λ (z : List ℕ). slice_index z (lane_of k)) c.lanes_of.ensures.value,
      first_costs c.args.line c.args.window.now c.forward.new.words c.forward.result c.forward.ensures (lane_of k)
          (omega (arith, here)),
    )

pub narrow_lanes_of-high-requires-clause-small : goal.narrow_lanes_of-high-requires-clause-small
narrow_lanes_of-high-requires-clause-small c = λ k l.
    let here = lane_low k l in
    omega (
      arith,
      c.turned-2.ensures.value k l,
      high_at c.lanes_of.result.0 c.lanes_of.result.1 c.lanes_of.ensures.low_size (lane_of k),
      ap (λ (z : List ℕ). slice_index z (lane_of k + 32)) c.lanes_of.ensures.value,
      first_costs c.args.line c.args.window.now c.forward.new.words c.forward.result c.forward.ensures (lane_of k + 32)
          (omega (arith, here)),
    )

pub loop-i-init : goal.loop-i-init
loop-i-init c =
    let low = c.narrow_lanes_of-low.result in
    let high = c.narrow_lanes_of-high.result in
    let state =
    first_state c.forward.result c.lanes_of.result.0 c.lanes_of.result.1 c.turned.result c.turned-2.result low high
    c.lanes_of.ensures.low_size c.turned.ensures.size c.narrow_lanes_of-low.ensures.size c.lanes_of.ensures.value
    c.turned.ensures.value c.turned-2.ensures.value c.narrow_lanes_of-low.ensures.value
    c.narrow_lanes_of-high.ensures.value in
    record {
      low_size = c.narrow_lanes_of-low.ensures.size;
      high_size = c.narrow_lanes_of-high.ensures.size;
      costs_size = c.costs_at-costs.ensures.size;
      costs = c.costs_at-costs.ensures.value;
      within =
          first_within c.forward.result c.lanes_of.result.0 c.lanes_of.result.1 c.turned.result c.turned-2.result low
          high c.lanes_of.ensures.low_size c.turned.ensures.size c.narrow_lanes_of-low.ensures.size
          c.lanes_of.ensures.value c.turned.ensures.value c.turned-2.ensures.value c.narrow_lanes_of-low.ensures.value
          c.narrow_lanes_of-high.ensures.value
          (first_costs c.args.line c.args.window.now c.forward.new.words c.forward.result c.forward.ensures);
      above = λ s l. omega (arith, state s l);
      steps =
          same_costs c.args.line c.args.window.now 6 c.forward.result (costs_from 0 (low ++ high)) c.forward.new.words
          (from_decided c.args.line c.args.window.now 6 c.forward.new.words c.forward.result c.forward.ensures)
          (λ s l. omega (arith, costs_at 0 (low ++ high) s l, state s l));
    }

pub with_room-roomy-requires-clause-near : goal.with_room-roomy-requires-clause-near
with_room-roomy-requires-clause-near c =
    near_lanes (c.loop-i.low ++ c.loop-i.high) c.loop-i.base c.loop-i.invariant.above c.args.line c.args.window.now
    c.loop-i.i c.loop-i.words (omega arith) c.loop-i.invariant.steps

pub with_room-roomy-requires-clause-base : goal.with_room-roomy-requires-clause-base
with_room-roomy-requires-clause-base c =
    omega (
      arith,
      base_bound c.args.line c.args.window.now c.loop-i.i c.loop-i.base (c.loop-i.low ++ c.loop-i.high) c.loop-i.words
          c.loop-i.invariant.steps,
    )

pub with_room-roomy-requires-clause-above : goal.with_room-roomy-requires-clause-above
with_room-roomy-requires-clause-above c =
    lane_above (c.loop-i.low ++ c.loop-i.high) c.loop-i.base c.loop-i.invariant.above 0 (omega arith)

pub narrow_step-stepped-requires-clause-least : goal.narrow_step-stepped-requires-clause-least
narrow_step-stepped-requires-clause-least c = λ s l. omega (arith, c.with_room-roomy.ensures.within.least s l)

pub narrow_step-stepped-requires-clause-most : goal.narrow_step-stepped-requires-clause-most
narrow_step-stepped-requires-clause-most c = λ s l. omega (arith, c.with_room-roomy.ensures.within.most s l)

pub overflow_add-base : goal.overflow_add-base
overflow_add-base c =
    let bound =
    base_bound c.args.line c.args.window.now c.loop-i.i c.loop-i.base (c.loop-i.low ++ c.loop-i.high) c.loop-i.words
    c.loop-i.invariant.steps in
    let state = in_order_at (c.loop-i.low ++ c.loop-i.high) 0 (omega arith) in
    record { fits = omega (arith, bound, state, c.from.ensures, c.with_room-roomy.ensures.same 0 (omega arith)) }

pub loop-i-preserved : goal.loop-i-preserved
loop-i-preserved c =
    let line = c.args.line in
    let window = c.args.window.now in
    let i = c.loop-i.i in
    let held = c.loop-i.invariant in
    let roomy = c.with_room-roomy.result.low ++ c.with_room-roomy.result.high in
    let stepped = c.narrow_step-stepped.result.low ++ c.narrow_step-stepped.result.high in
    let costs = c.loop-i.invariant.costs in
    let least = c.narrow_step-stepped.ensures.least (pair_costs_of line window i) costs in
    let steps_more : i % 32 + 1 ≡ (i + 1 + 31) % 32 + 1 = omega arith in
    let above =
    still_above line window i c.narrow_step-stepped.result.word c.loop-i.base c.with_room-roomy.result.base
    (c.loop-i.low ++ c.loop-i.high) roomy stepped c.loop-i.words held.steps held.above c.with_room-roomy.ensures.same
    costs.most least (c.narrow_step-stepped.ensures.decided (pair_costs_of line window i) costs) (omega arith) in
    record {
      low_size = c.narrow_step-stepped.ensures.low_size;
      high_size = c.narrow_step-stepped.ensures.high_size;
      costs_size = c.costs_at-costs-in-loop-i.ensures.size;
      costs = c.costs_at-costs-in-loop-i.ensures.value;
      within =
          subst (λ (n : ℕ). IsWithin n stepped) steps_more
          (further (pair_costs_of line window i) roomy stepped (i % 32) c.with_room-roomy.ensures.within costs.most
          least);
      above = λ s l. omega (arith, above s l, c.from.ensures);
      steps =
          subst (λ (n : ℕ). Forward line window (i + 1) (costs_from (c.with_room-roomy.result.base + n) stepped)
          (slice_set c.loop-i.words i c.narrow_step-stepped.result.word)) (sym c.from.ensures)
          (one_more line window i c.narrow_step-stepped.result.word c.loop-i.base c.with_room-roomy.result.base
          (c.loop-i.low ++ c.loop-i.high) roomy stepped c.loop-i.words held.steps held.above
          c.with_room-roomy.ensures.same costs.most least
          (c.narrow_step-stepped.ensures.decided (pair_costs_of line window i) costs) (omega arith));
    }

pub state_costs-requires-clause-base : goal.state_costs-requires-clause-base
state_costs-requires-clause-base c =
    omega (
      arith,
      base_bound c.args.line c.args.window.now c.loop-i.i c.loop-i.base (c.loop-i.low ++ c.loop-i.high) c.loop-i.words
          c.loop-i.invariant.steps,
    )

pub state_costs-requires-clause-above : goal.state_costs-requires-clause-above
state_costs-requires-clause-above c = λ k l.
    omega (
      arith,
      low_at c.loop-i.low c.loop-i.high c.loop-i.invariant.low_size k l,
      lane_above (c.loop-i.low ++ c.loop-i.high) c.loop-i.base c.loop-i.invariant.above k (omega arith),
    )

pub state_costs-requires-2-clause-base : goal.state_costs-requires-2-clause-base
state_costs-requires-2-clause-base c =
    omega (
      arith,
      base_bound c.args.line c.args.window.now c.loop-i.i c.loop-i.base (c.loop-i.low ++ c.loop-i.high) c.loop-i.words
          c.loop-i.invariant.steps,
    )

pub state_costs-requires-2-clause-above : goal.state_costs-requires-2-clause-above
state_costs-requires-2-clause-above c = λ k l.
    omega (
      arith,
      high_at c.loop-i.low c.loop-i.high c.loop-i.invariant.low_size k,
      lane_above (c.loop-i.low ++ c.loop-i.high) c.loop-i.base c.loop-i.invariant.above (k + 32) (omega arith),
    )

pub returns : goal.returns
returns c =
    let low = c.loop-i.low in
    let high = c.loop-i.high in
    let base = c.loop-i.base in
    let held = c.loop-i.invariant in
    let decided =
    all c.args.line c.args.window.now c.loop-i.i c.args.steps (costs_from base (low ++ high)) c.loop-i.words
    (omega arith) held.steps in
    record {
      decided = decided.decided;
      least = λ s l. c.all_costs.ensures s l
          ∙ last_costs base low high c.state_costs.result c.state_costs-2.result c.turned-3.result c.turned-4.result
          held.low_size c.state_costs.ensures.size c.turned-3.ensures.size c.state_costs.ensures.value
          c.state_costs-2.ensures.value c.turned-3.ensures.value c.turned-4.ensures.value s l
          ∙ decided.least s l;
      most = decided.most;
    }
