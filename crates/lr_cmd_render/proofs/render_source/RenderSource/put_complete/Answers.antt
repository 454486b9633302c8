use Rattle.std.proofs.Common.{refl, arith}
use Rattle.std.proofs.lemmas.Result.{err_from_is_err_and}
use Rattle.lr_cmd_render.proofs.Leading.{puts_more}
use Rattle.lr_cmd_render.proofs.Stopping.{outcome_stops}
use Rattle.lr_cmd_render.proofs.UnderWay.{few_counted, puts_goes, puts_images, puts_kept, still_goes, same_but_queue}
use Rattle.lr_cmd_render.proofs.render_source.RenderSource.put_complete.Goals as goal

pub loop-plan-init : goal.loop-plan-init
loop-plan-init g c = record {
  goes = λ led goes. goes;
  put = record {
    same = record { disk = refl; out = refl; shelf = refl; next = refl; refusal = refl; room = refl };
    left = omega arith;
    given = λ given. given;
  };
}

pub take_complete-requires : goal.take_complete-requires
take_complete-requires g c =
    let r = c.requires in
    (c.loop-plan.invariant.goes r.0 r.1).has_jobs.each

pub put_outcome-requires-clause-kept : goal.put_outcome-requires-clause-kept
put_outcome-requires-clause-kept g c =
    let r = c.requires in
    puts_kept g.D.Disk g.O.Sink (c.loop-plan.invariant.goes r.0 r.1) c.in-Some.plan
    _ (same_but_queue _ c.take_complete.new.self c.take_complete.ensures.room)
    c.in-Some.ensures.taken

pub put_outcome-requires-clause-few : goal.put_outcome-requires-clause-few
put_outcome-requires-clause-few g c =
    let r = c.requires in
    few_counted g.D.Disk g.O.Sink (c.loop-plan.invariant.goes r.0 r.1) c.in-Some.plan
    _ (same_but_queue _ c.take_complete.new.self c.take_complete.ensures.room)
    c.in-Some.ensures.taken

pub loop-plan-preserved : goal.loop-plan-preserved
loop-plan-preserved g c =
    let r = c.requires in
    record {
      goes = λ led goes.
          puts_goes g.D.Disk g.O.Sink (c.loop-plan.invariant.goes led goes) c.in-Some.plan _
          (record {
            disk = refl;
            out = refl;
            shelf = refl;
            next = refl;
            refusal = refl;
            room = c.take_complete.ensures.room;
          }) c.in-Some.ensures.taken c.in_ok-put_outcome.ensures.puts;
      put = puts_more g.D.Disk g.O.Sink c.loop-plan.invariant.put
          (puts_images g.D.Disk g.O.Sink (c.loop-plan.invariant.goes r.0 r.1) c.in-Some.plan _
          (record {
            disk = refl;
            out = refl;
            shelf = refl;
            next = refl;
            refusal = refl;
            room = c.take_complete.ensures.room;
          }) c.in-Some.ensures.taken);
    }

pub returns-in_err-put_outcome-clause-stops : goal.returns-in_err-put_outcome-clause-stops
returns-in_err-put_outcome-clause-stops g c = λ led goes.
    let p = err_from_is_err_and c.from_residual.result c.from_residual.ensures.1 in
    rw (p.1, p.2)
    (outcome_stops g.D.Disk g.O.Sink g.met.D.Disk.only_now g.met.D.Disk.reads_none
    g.met.D.Disk.reads_on (c.loop-plan.invariant.goes led goes)
    c.in-Some.plan (record c.loop-plan.self { queue = c.take_complete.new.self }) _
    (record { disk = refl; out = refl; shelf = refl; next = refl; refusal = refl; room = c.take_complete.ensures.room })
    c.in-Some.ensures.taken refl refl refl c.in_err-put_outcome.field-0.0 c.in_err-put_outcome.ensures.stops)

pub returns-clause-puts : goal.returns-clause-puts
returns-clause-puts g c = λ led goes. record {
  goes = still_goes g.D.Disk g.O.Sink (c.loop-plan.invariant.goes led goes) _
      (record {
        disk = refl;
        out = refl;
        shelf = refl;
        next = refl;
        refusal = refl;
        room = c.take_complete.ensures.room;
      }) refl refl c.in_default.ensures.taken.0;
  first = c.in_default.ensures.taken.1;
}
