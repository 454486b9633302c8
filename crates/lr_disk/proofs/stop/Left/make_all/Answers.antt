use Rattle.std.proofs.Common.{arith, subst, sym, take, ◌∙◌}
use Rattle.lr_disk.specs.Left.{ShowsLeft}
use Rattle.lr_disk.specs.Mem.{State, after_all, reach, span}
use Rattle.lr_disk.proofs.Steps.{after_more, greatest_at, reach_more, span_more}
use Rattle.lr_disk.specs.declared.past.Call.TheVariants.{Kept}
use Rattle.lr_disk.proofs.stop.Left.make_all.Goals as goal

pub make-requires-clause-logged : goal.make-requires-clause-logged
make-requires-clause-logged c =
    let within = greatest_at reach reach_more c.args.calls.now c.loop-call.call-index Kept c.loop-call-test.true in
    omega (arith, c.requires.logged, within)

pub make-requires-clause-small : goal.make-requires-clause-small
make-requires-clause-small c =
    let within = greatest_at span span_more c.args.calls.now c.loop-call.call-index Kept c.loop-call-test.true in
    omega (arith, c.requires.small, within)

pub loop-call-preserved : goal.loop-call-preserved
loop-call-preserved c = record {
  room = c.make.ensures.room ∙ c.loop-call.invariant.room;
  shows = λ s shows.
      subst (λ (t : State). ShowsLeft t c.make.new.self)
      (sym (after_more c.args.log.now c.args.calls.now c.loop-call.call-index Kept s c.loop-call-test.true))
      (c.make.ensures.shows (after_all c.args.log.now (take c.loop-call.call-index c.args.calls.now) s)
      (c.loop-call.invariant.shows s shows));
}
