use Rattle.std.proofs.Common.{◌+◌, ◌<◌, ◌≤◌, arith}
use Rattle.std.proofs.lemmas.List.Elements.{All-from_get_or}
use Rattle.lr_io.proofs.places.reach.Goals as goal

pub returns-clause-most : goal.returns-clause-most
returns-clause-most c = record {
  within = c.loop-place.invariant.within;
  stops = All-from_get_or (λ place. c.args.from < place → c.args.from + c.loop-place.count ≤ place) c.args.places.now 0
      (λ k inside. c.loop-place.invariant.stops k (omega arith));
  farthest = c.loop-place.invariant.farthest;
}
