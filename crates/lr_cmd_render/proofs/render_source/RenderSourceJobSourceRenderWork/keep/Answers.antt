use Rattle.std.proofs.Common.{◌+◌, refl, sym, subst}
use Rattle.std.proofs.lemmas.Result.{err_from_is_err_and}
use Rattle.lr_causes.specs.declared.cause.Cause.{Cause}
use Rattle.lr_cmd_shelf.proofs.Texts.{on_err, on_ok}
use Rattle.lr_cmd_render.specs.Leading.{IsSameBut, StopsFor}
use Rattle.lr_cmd_render.proofs.Leading.{kept_all, kept_goes, kept_same, keeps_on, may_keep_first, some_kept}
use Rattle.lr_cmd_render.proofs.Stopping.{memory_stops, refusal_stops}
use Rattle.lr_cmd_render.proofs.UnderWay.{same_but_queue}
use Rattle.lr_cmd_render.proofs.render_source.RenderSourceJobSourceRenderWork.keep.Goals as goal

pub keep-requires : goal.keep-requires
keep-requires g c =
    let r = c.requires in
    may_keep_first g.D.Disk g.O.Sink r.1 c.args.done r.2

pub put_complete-requires : goal.put_complete-requires
put_complete-requires g c =
    let r = c.requires in (
      record r.0 { kept = r.0.kept + 1 },
      kept_goes g.D.Disk g.O.Sink r.1 c.args.done r.2 _ (same_but_queue _ c.keep.new.self c.keep.ensures.room)
          refl refl c.in_ok-keep.ensures.kept,
    )

pub returns-in_err-keep-clause-stops : goal.returns-in_err-keep-clause-stops
returns-in_err-keep-clause-stops g c = λ led at next.
    let p = err_from_is_err_and c.from_residual.result c.from_residual.ensures.1 in
    rw (p.1, p.2)
    (memory_stops g.D.Disk g.O.Sink g.met.D.Disk.only_now g.met.D.Disk.reads_none
    g.met.D.Disk.reads_on at.goes _ refl refl refl
    (some_kept g.D.Disk g.O.Sink at c.args.done next))

pub returns-in_err-put_complete-clause-stops : goal.returns-in_err-put_complete-clause-stops
returns-in_err-put_complete-clause-stops g c = λ led at next.
    let p = err_from_is_err_and c.from_residual-in_err-put_complete.result
    c.from_residual-in_err-put_complete.ensures.1 in
    rw (p.1, p.2)
    (c.in_err-put_complete.ensures.stops (record led { kept = led.kept + 1 })
    (kept_goes g.D.Disk g.O.Sink at c.args.done next _ (same_but_queue _ c.keep.new.self c.keep.ensures.room) refl
    refl c.in_ok-keep.ensures.kept))

pub returns-clause-keeps : goal.returns-clause-keeps
returns-clause-keeps g c = λ led at next.
    let mid = record c.args.self.now { queue = c.keep.new.self } in
    let same : IsSameBut c.args.self.now mid =
    record { disk = refl; out = refl; shelf = refl; next = refl; refusal = refl; room = c.keep.ensures.room } in
    on_ok c.refuse.result
    (λ waits.
    keeps_on g.D.Disk g.O.Sink same
    (kept_same g.D.Disk g.O.Sink at c.args.done next mid same refl refl c.in_ok-keep.ensures.kept)
    (kept_all g.D.Disk g.O.Sink at c.args.done next mid same refl refl c.in_ok-keep.ensures.kept)
    c.in_ok-put_complete.ensures.same waits
    (c.in_ok-put_complete.ensures.puts (record led { kept = led.kept + 1 })
    (kept_goes g.D.Disk g.O.Sink at c.args.done next mid same refl refl c.in_ok-keep.ensures.kept)))
    c.refuse.ensures.none

pub returns-clause-stops : goal.returns-clause-stops
returns-clause-stops g c = λ led at next.
    let stands = c.in_ok-put_complete.ensures.puts (record led { kept = led.kept + 1 })
    (kept_goes g.D.Disk g.O.Sink at c.args.done next _ (same_but_queue _ c.keep.new.self c.keep.ensures.room) refl
    refl c.in_ok-keep.ensures.kept) in
    on_err c.refuse.result
    (λ cause is.
    subst (λ (k : Cause). StopsFor g.D.Disk g.O.Sink led.start k c.put_complete.new.self) (sym is.1)
    (refusal_stops g.D.Disk g.O.Sink g.met.D.Disk.only_now g.met.D.Disk.reads_none
    g.met.D.Disk.reads_on stands.goes is.0 is.2 is.3))
    c.refuse.ensures.refused
