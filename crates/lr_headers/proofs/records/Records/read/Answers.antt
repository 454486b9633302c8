use Rattle.std.proofs.Common.{◌≡◌, ◌++◌, ◌∷◌, [], length, take, rules, arith}
use Rattle.std.proofs.lemmas.List.{length-take-le}
use Rattle.lr_headers.proofs.Tilings.{front_more, record_ends}
use Rattle.lr_headers.proofs.records.Records.read.Goals as goal

pub loop-place-preserved : goal.loop-place-preserved
loop-place-preserved c =
    let bytes = take c.in_ok-end.end c.args.proper.now in
    let e = c.in_ok-entry.entry in
    let place = c.loop-place.place in
    let long : length bytes ≡ c.in_ok-end.end = length-take-le c.in_ok-end.end c.args.proper.now
    c.in_ok-end.ensures.inside in
    let ends = record_ends bytes place e c.in_ok-entry.ensures.ok in
    let step : c.from-place-in-loop-place.result ≡ e.length = search rules in
    let items : c.push-in-loop-place.new.self.items ≡ c.loop-place.entries.items ++ e ∷ [] = search rules in
    let front = front_more bytes c.loop-place.entries.items place e c.loop-place.invariant.front
    c.in_ok-entry.ensures.ok in
    record { front = rw (items, step) front; within = omega arith }

pub returns-in_err-end-clause-first : goal.returns-in_err-end-clause-first
returns-in_err-end-clause-first c = search (rules, arith)
