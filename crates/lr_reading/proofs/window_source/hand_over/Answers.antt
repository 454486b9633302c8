use Rattle.std.proofs.Common.{◌++◌, ◌∷◌, [], subst}
use Rattle.std.proofs.lemmas.Result.{err_from_is_err_and}
use Rattle.lr_reading.specs.declared.arrival.Arrival.{Arrival}
use Rattle.lr_reading.proofs.WindowLeading.{arrival_is}
use Rattle.lr_reading.proofs.window_source.hand_over.Goals as goal

pub returns-clause-takes : goal.returns-clause-takes
returns-clause-takes g c = λ before arrivals took.
    subst (λ (a : Arrival). g.C.Consumer.took before (arrivals ++ a ∷ []) c.take.new.self)
    (arrival_is c.args.done.window c.position_of.result c.args.done c.requires.is c.position_of.ensures.place
    c.position_of.ensures.positive)
    (c.in_ok-take.ensures.takes before arrivals took)

pub returns-in_err-take-clause-stops : goal.returns-in_err-take-clause-stops
returns-in_err-take-clause-stops g c = λ before arrivals took.
    let p = err_from_is_err_and c.from_residual.result c.from_residual.ensures.1 in
    rw (p.1, p.2)
    (subst (λ (a : Arrival). g.C.Consumer.stopped before (arrivals ++ a ∷ []) c.in_err-take.field-0.0 c.take.new.self)
    (arrival_is c.args.done.window c.position_of.result c.args.done c.requires.is c.position_of.ensures.place
    c.position_of.ensures.positive)
    (c.in_err-take.ensures.stops before arrivals took))
