use Rattle.std.proofs.Common.{refl, subst, arith}
use Rattle.lr_causes.specs.declared.cause.Cause.{Cause}
use Rattle.lr_cmd_render.specs.Contents.{ReadStops}
use Rattle.lr_cmd_render.specs.Leading.{way_of_source}
use Rattle.lr_cmd_render.proofs.ReadingOn.{reads_refusal, takes_goes, takes_one}
use Rattle.lr_cmd_render.proofs.Stopping.{read_stops}
use Rattle.lr_cmd_render.proofs.UnderWay.{count_is}
use Rattle.lr_cmd_render.proofs.render_source.RenderSource.read_next.Goals as goal

pub returns-in-Ok-clause-reads : goal.returns-in-Ok-clause-reads
returns-in-Ok-clause-reads g c = λ led goes.
    let e = c.in-Ok.ensures in
    takes_goes g.D.Disk g.O.Sink g.met.D.Disk.reads_on goes _ c.take_in.new.self refl refl refl refl refl
    c.requires.none e.reads e.same
    c.requires.more c.in-Ok.content c.take_in.ensures e.content c.requires.given

pub returns-in-Ok-clause-one : goal.returns-in-Ok-clause-one
returns-in-Ok-clause-one g c =
    let e = c.in-Ok.ensures in
    takes_one g.D.Disk g.O.Sink g.met.D.Disk.reads_on c.requires.going.1 _ c.take_in.new.self refl refl refl refl
    refl c.requires.none e.reads
    e.same c.requires.more c.in-Ok.content c.take_in.ensures c.requires.none

pub returns-in-Refused-clause-reads : goal.returns-in-Refused-clause-reads
returns-in-Refused-clause-reads g c = λ led goes.
    let e = c.in-Err.ensures in
    let before = c.args.self.now in
    let refused =
    subst
    (λ (cause : Cause). ReadStops g.D.Disk (way_of_source before) before.next cause before.disk.now
    c.read_content.new.disk)
    c.in-Refused.is e.stops in
    reads_refusal g.D.Disk g.O.Sink g.met.D.Disk.reads_on goes _ refl refl refl e.reads refused.0 refl refl refl refl
    (omega (arith, c.requires.more, count_is g.D.Disk g.O.Sink goes)) c.in-Refused.refusal refl refused.1

pub returns-in_default-clause-stops : goal.returns-in_default-clause-stops
returns-in_default-clause-stops g c = λ led goes.
    let e = c.in-Err.ensures in
    read_stops g.D.Disk g.O.Sink g.met.D.Disk.only_now g.met.D.Disk.reads_none g.met.D.Disk.reads_on
    goes _ refl refl e.reads
    (omega (arith, c.requires.more, count_is g.D.Disk g.O.Sink goes)) c.in-Err.cause c.in_default.not-Refused e.stops
