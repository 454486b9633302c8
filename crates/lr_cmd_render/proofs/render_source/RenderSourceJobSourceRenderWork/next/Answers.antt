use Rattle.std.proofs.Common.{refl, arith, sym, subst}
use Rattle.std.proofs.lemmas.Result.{err_from_is_err_and}
use Rattle.lr_causes.specs.declared.cause.Cause.{Cause}
use Rattle.lr_cmd_render.specs.Leading.{StopsFor}
use Rattle.lr_cmd_render.proofs.Leading.{gives_job, gives_later, gives_over, puts_left, told_true}
use Rattle.lr_cmd_render.proofs.Stopping.{memory_stops, refusal_stops}
use Rattle.lr_cmd_render.proofs.UnderWay.{none_all_given, none_fewer, none_goes, same_but_queue}
use Rattle.lr_cmd_render.proofs.render_source.RenderSourceJobSourceRenderWork.next.Goals as goal

pub entries-init : goal.entries-init
entries-init g c = record { stands = λ led at. at; left = omega arith }

pub next_strip-requires : goal.next_strip-requires
next_strip-requires g c =
    let r = c.requires in
    (c.entries.invariant.stands r.0 r.1).goes.has_jobs.each

pub returns-in_err-strip-clause-stops : goal.returns-in_err-strip-clause-stops
returns-in_err-strip-clause-stops g c = λ led at.
    let p = err_from_is_err_and c.from_residual.result c.from_residual.ensures.1 in
    rw (p.1, p.2)
    (memory_stops g.D.Disk g.O.Sink g.met.D.Disk.only_now g.met.D.Disk.reads_none
    g.met.D.Disk.reads_on (c.entries.invariant.stands led at).goes _ refl
    refl refl c.in_err-strip.ensures.some)

pub returns-in-Some-clause-gives : goal.returns-in-Some-clause-gives
returns-in-Some-clause-gives g c = λ led at.
    gives_job g.D.Disk g.O.Sink (c.entries.invariant.stands led at) c.args.self.now
    c.entries.invariant.left _ (same_but_queue _ _ c.next_strip.ensures.room) refl refl c.in-Some.strip
    (rw c.in-Some.is at c.in_ok-strip.ensures.gives)

pub put_complete-requires : goal.put_complete-requires
put_complete-requires g c =
    let r = c.requires in (
      r.0,
      none_goes g.D.Disk g.O.Sink (c.entries.invariant.stands r.0 r.1).goes c.next_strip.new.self
          c.next_strip.ensures.room (rw c.in_default.is at c.in_ok-strip.ensures.gives),
    )

pub returns-in_err-put_complete-clause-stops : goal.returns-in_err-put_complete-clause-stops
returns-in_err-put_complete-clause-stops g c = λ led at.
    let p = err_from_is_err_and c.from_residual-in_err-put_complete.result
    c.from_residual-in_err-put_complete.ensures.1 in
    rw (p.1, p.2)
    (c.in_err-put_complete.ensures.stops led
    (none_goes g.D.Disk g.O.Sink (c.entries.invariant.stands led at).goes c.next_strip.new.self
    c.next_strip.ensures.room (rw c.in_default.is at c.in_ok-strip.ensures.gives)))

pub returns-in_err-refuse-clause-stops : goal.returns-in_err-refuse-clause-stops
returns-in_err-refuse-clause-stops g c = λ led at.
    let p = err_from_is_err_and c.from_residual-in_err-refuse.result c.from_residual-in_err-refuse.ensures.1 in
    let is = c.in_err-refuse.ensures.refused in
    let stands = c.in_ok-put_complete.ensures.puts led
    (none_goes g.D.Disk g.O.Sink (c.entries.invariant.stands led at).goes c.next_strip.new.self
    c.next_strip.ensures.room (rw c.in_default.is at c.in_ok-strip.ensures.gives)) in
    rw (p.1, p.2)
    (subst (λ (k : Cause). StopsFor g.D.Disk g.O.Sink led.start k c.put_complete.new.self) (sym is.1)
    (refusal_stops g.D.Disk g.O.Sink g.met.D.Disk.only_now g.met.D.Disk.reads_none
    g.met.D.Disk.reads_on stands.goes is.0 is.2 is.3))

pub returns-then-is_last-clause-gives : goal.returns-then-is_last-clause-gives
returns-then-is_last-clause-gives g c = λ led at.
    let goes = (c.entries.invariant.stands led at).goes in
    let put = c.in_ok-put_complete.ensures.same in
    let gives = rw c.in_default.is at c.in_ok-strip.ensures.gives in
    gives_over g.D.Disk g.O.Sink
    (c.in_ok-put_complete.ensures.puts led
    (none_goes g.D.Disk g.O.Sink goes c.next_strip.new.self c.next_strip.ensures.room gives)) c.args.self.now
    (omega (
      arith,
      puts_left g.D.Disk g.O.Sink put,
      c.entries.invariant.left,
      none_fewer g.D.Disk g.O.Sink goes c.next_strip.new.self c.next_strip.ensures.room gives,
    ))
    (record {
      given = put.given
          (none_all_given g.D.Disk g.O.Sink goes c.next_strip.new.self c.next_strip.ensures.room gives);
      all = told_true g.D.Disk g.O.Sink _ _ c.is_last.result c.if-is_last.true c.is_last.ensures;
      waits = c.in_ok-refuse.ensures.none;
    })

pub returns-then-is_full-clause-gives : goal.returns-then-is_full-clause-gives
returns-then-is_full-clause-gives g c = λ led at.
    let goes = (c.entries.invariant.stands led at).goes in
    let put = c.in_ok-put_complete.ensures.same in
    let gives = rw c.in_default.is at c.in_ok-strip.ensures.gives in
    let stands = c.in_ok-put_complete.ensures.puts led
    (none_goes g.D.Disk g.O.Sink goes c.next_strip.new.self c.next_strip.ensures.room gives) in
    gives_later g.D.Disk g.O.Sink stands c.args.self.now
    (omega (
      arith,
      puts_left g.D.Disk g.O.Sink put,
      c.entries.invariant.left,
      none_fewer g.D.Disk g.O.Sink goes c.next_strip.new.self c.next_strip.ensures.room gives,
    ))
    (put.given
    (none_all_given g.D.Disk g.O.Sink goes c.next_strip.new.self c.next_strip.ensures.room gives))
    (omega (
      arith,
      stands.goes.room,
      c.put_complete.new.self.queue.images.ok.0,
      c.is_full.ensures.0 c.if-is_full.true,
    ))

pub read_next-requires-clause-going : goal.read_next-requires-clause-going
read_next-requires-clause-going g c =
    let r = c.requires in (
      r.0,
      (c.in_ok-put_complete.ensures.puts r.0
          (none_goes g.D.Disk g.O.Sink (c.entries.invariant.stands r.0 r.1).goes c.next_strip.new.self
          c.next_strip.ensures.room (rw c.in_default.is at c.in_ok-strip.ensures.gives))).goes,
    )

pub read_next-requires-clause-given : goal.read_next-requires-clause-given
read_next-requires-clause-given g c =
    let r = c.requires in
    c.in_ok-put_complete.ensures.same.given
    (none_all_given g.D.Disk g.O.Sink (c.entries.invariant.stands r.0 r.1).goes c.next_strip.new.self
    c.next_strip.ensures.room (rw c.in_default.is at c.in_ok-strip.ensures.gives))

pub returns-in_err-read_next-clause-stops : goal.returns-in_err-read_next-clause-stops
returns-in_err-read_next-clause-stops g c = λ led at.
    let p = err_from_is_err_and c.from_residual-in_err-read_next.result
    c.from_residual-in_err-read_next.ensures.1 in
    let stands = c.in_ok-put_complete.ensures.puts led
    (none_goes g.D.Disk g.O.Sink (c.entries.invariant.stands led at).goes c.next_strip.new.self
    c.next_strip.ensures.room (rw c.in_default.is at c.in_ok-strip.ensures.gives)) in
    rw (p.1, p.2) (c.in_err-read_next.ensures.stops led stands.goes)

pub entries-preserved : goal.entries-preserved
entries-preserved g c =
    let r = c.requires in
    let gives = rw c.in_default.is at c.in_ok-strip.ensures.gives in
    let one = c.in_ok-read_next.ensures.one in
    record {
      stands = λ led at.
          let stands = c.in_ok-put_complete.ensures.puts led
          (none_goes g.D.Disk g.O.Sink (c.entries.invariant.stands led at).goes c.next_strip.new.self
          c.next_strip.ensures.room gives) in
          record {
            goes = c.in_ok-read_next.ensures.reads led stands.goes;
            first = one.first stands.first;
          };
      left = omega (
        arith,
        one.left,
        puts_left g.D.Disk g.O.Sink c.in_ok-put_complete.ensures.same,
        c.entries.invariant.left,
        none_fewer g.D.Disk g.O.Sink (c.entries.invariant.stands r.0 r.1).goes c.next_strip.new.self
            c.next_strip.ensures.room gives,
      );
    }
