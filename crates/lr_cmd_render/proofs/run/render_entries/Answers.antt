use Rattle.std.proofs.Common.{rules, arith}
use Rattle.lr_shelf.specs.Kept.{kept_by}
use Rattle.lr_cmd_render.proofs.Stopping.{nothing_put}
use Rattle.lr_cmd_render.proofs.Driven.{source_ready}
use Rattle.lr_cmd_render.proofs.run.render_entries.Goals as goal

pub returns-then-len-ge-MOST_ENTRIES : goal.returns-then-len-ge-MOST_ENTRIES
returns-then-len-ge-MOST_ENTRIES g c =
    nothing_put g.D.Disk g.O.Sink g.met.D.Disk.only_now g.met.D.Disk.reads_none
    (kept_by c.args.shelf).way c.args.disk.now c.args.out.now

pub go-driven-requires : goal.go-driven-requires
go-driven-requires g c =
    let ready = c.requires.ready in
    let working = c.requires.working in
    let none = c.requires.fresh.none in
    let room = c.requires.fresh.room in
    search (rules, arith, source_ready g.D.Disk g.O.Sink g.met.D.Disk.only_now g.met.D.Disk.reads_none)
