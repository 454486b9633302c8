use Rattle.std.proofs.Common.{rules, refl, ◌∙◌}
use Rattle.lr_reading.specs.Reading.{at_source}
use Rattle.lr_reading.proofs.Gathering.{joined, joined_on, none_gathered}
use Rattle.lr_reading.proofs.units.UnitFeed.next.Goals as goal

pub loop-self-init : goal.loop-self-init
loop-self-init g c = record {
  gathered = none_gathered g.S.Source g.row.N (at_source c.args.self.now c.args.source.now) (search rules);
  kept = refl;
  short = search rules;
}

pub loop-self-preserved : goal.loop-self-preserved
loop-self-preserved g c = record {
  gathered = joined_on g.S.Source g.row.N c.loop-self.invariant.gathered (c.in-Ok.ensures.went_on (search rules));
  kept = c.in-Ok.ensures.cause.kept ∙ c.loop-self.invariant.kept;
  short = c.in-Ok.ensures.short;
}

pub returns-then-is_at_limit-clause-gathered : goal.returns-then-is_at_limit-clause-gathered
returns-then-is_at_limit-clause-gathered g c = c.loop-self.invariant.gathered.0

pub returns-clause-gathered : goal.returns-clause-gathered
returns-clause-gathered g c = c.loop-self.invariant.gathered

pub returns-in-Ok-eq0-clause-gathered : goal.returns-in-Ok-eq0-clause-gathered
returns-in-Ok-eq0-clause-gathered g c =
    joined g.S.Source g.row.N c.loop-self.invariant.gathered c.take.ensures.gathered

pub returns-in-Err-clause-gathered : goal.returns-in-Err-clause-gathered
returns-in-Err-clause-gathered g c =
    joined g.S.Source g.row.N c.loop-self.invariant.gathered c.take.ensures.gathered
