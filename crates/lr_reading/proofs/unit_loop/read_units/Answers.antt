use Rattle.std.proofs.Common.{◌∙◌, ◌+◌, ◌*◌, ◌≤◌, refl, ap, arith}
use Rattle.std.proofs.lemmas.Result.{err_from_is_err_and}
use Rattle.lr_bits.specs.declared.outcome.Outcome.{Outcome}
use Rattle.lr_bits.specs.declared.sizes.TheConstants.{FRAME_BYTES}
use Rattle.lr_reading.specs.Arrivals.{arrival_of}
use Rattle.lr_reading.specs.Inputs.{outcome_of_unit}
use Rattle.lr_reading.proofs.UnitLoop.{units_begun, frames_fit, may_take, units_stopped, units_more, units_ended}
use Rattle.lr_reading.proofs.unit_loop.read_units.Goals as goal

pub units-init : goal.units-init
units-init g c =
    units_begun g.S.Source g.C.Consumer.took c.args.form g.row.N c.args.most c.requires.size c.new-units.result
    c.new-units.ensures c.args.source.now c.args.consumer.now

pub returns-in-Ended-clause-all : goal.returns-in-Ended-clause-all
returns-in-Ended-clause-all g c =
    units_ended g.S.Source g.C.Consumer.took c.args.form g.row.N c.args.most c.requires.size c.units.invariant
    c.in-Ended.stop c.in-Ended.ensures.gathered c.in-Ended.ensures.reason _ refl c.bytes_taken.ensures refl
    c.len.ensures

pub take-requires-clause-few : goal.take-requires-clause-few
take-requires-clause-few g c =
    may_take g.S.Source g.C.Consumer.took c.args.form g.row.N c.args.most c.requires.size c.units.invariant
    c.in-Whole.ensures.gathered c.in-Whole.ensures.reason _ c.requires.few c.requires.ready.0 c.requires.ready.1

pub returns-in_err-take-in-Whole-clause-some : goal.returns-in_err-take-in-Whole-clause-some
returns-in_err-take-in-Whole-clause-some g c =
    let p = err_from_is_err_and c.from_residual.result c.from_residual.ensures.1 in
    let is = c.unit_outcome-outcome.ensures.value ∙ ap (outcome_of_unit c.args.form) c.unit.ensures in
    rw (p.1, p.2)
    (units_stopped g.S.Source g.C.Consumer.took c.args.form g.row.N c.args.most c.requires.size c.units.invariant
    c.in-Whole.ensures.gathered c.in-Whole.ensures.reason _ (ap (λ (o : Outcome). arrival_of o) is)
    g.C.Consumer.stopped _ c.take.new.self c.in_err-take-in-Whole.ensures.stops)

pub overflow_add-frames : goal.overflow_add-frames
overflow_add-frames g c =
    let fits : FRAME_BYTES * (c.units.frames + 1) ≤ c.args.most =
    frames_fit g.S.Source g.C.Consumer.took c.args.form g.row.N c.args.most c.requires.size c.units.invariant
    c.in-Whole.ensures.gathered c.in-Whole.ensures.reason in
    omega (arith, fits)

pub units-preserved : goal.units-preserved
units-preserved g c =
    let is = c.unit_outcome-outcome.ensures.value ∙ ap (outcome_of_unit c.args.form) c.unit.ensures in
    units_more g.S.Source g.C.Consumer.took c.args.form g.row.N c.args.most c.requires.size c.units.invariant
    c.in-Whole.ensures.gathered c.in-Whole.ensures.reason _ (ap (λ (o : Outcome). arrival_of o) is) c.clear.new.self
    c.clear.ensures c.take.new.self c.in_ok-take-in-Whole.ensures.takes
