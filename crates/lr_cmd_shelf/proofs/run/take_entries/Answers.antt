use Rattle.std.proofs.Common.{◌≡◌, ◌∙◌, ◌+◌, ◌<◌, ◌^◌, sym, ap, refl, arith, length}
use Rattle.std.proofs.lemmas.Result.{err_from_is_err_and}
use Rattle.lr_bits.proofs.Telling.{tells_both, tells_still}
use Rattle.lr_disk.proofs.Moments.{only_read_joined, only_read_yet}
use Rattle.lr_shelf.specs.Kept.{KeptShelf, kept_by}
use Rattle.lr_causes.specs.Outside.{outlets, outlets_of}
use Rattle.lr_causes.specs.declared.cause.Cause.TheVariants.{Refused}
use Rattle.lr_causes.specs.declared.cause.Refusal.TheVariants.{NoSuchFile}
use Rattle.lr_cmd_shelf.specs.Queries.{query_on}
use Rattle.lr_cmd_shelf.proofs.Texts.{on_noted, on_sure}
use Rattle.lr_cmd_shelf.proofs.Taking.{so_first, so_more, not_allowed, entry_stopped, last_gathered, last_stopped}
use Rattle.lr_cmd_shelf.proofs.Taking.{entry_undone, stops_gathers, text_undone}
use Rattle.lr_cmd_shelf.proofs.run.take_entries.Goals as goal

pub returns-in_default-clause-stops : goal.returns-in_default-clause-stops
returns-in_default-clause-stops g c =
    let query = g.C.ReadsEntries.query c.args.command.now in
    stops_gathers (outlets_of g.D.Disk g.O.Sink) (query_on query (kept_by c.args.shelf.now).way)
    (outlets c.args.disk.now c.args.out.now) (outlets c.args.disk.now c.args.out.now)
    (g.C.ReadsEntries.gathers c.args.command.now) (Refused (NoSuchFile c.len-count.result)) (λ done. done)
    (not_allowed g.D.Disk g.O.Sink query (kept_by c.args.shelf.now).way
    c.args.disk.now c.args.out.now g.met.D.Disk.only_now
    (g.met.D.Disk.reads_none c.args.disk.now) c.len-count.result c.len-count.ensures
    (sym c.range.ensures.is ∙ c.in_default.is))

pub loop-number-init : goal.loop-number-init
loop-number-init g c = record {
  kept = refl;
  tell = tells_still;
  reads = only_read_yet g.D.Disk g.met.D.Disk.only_now c.args.disk.now (g.met.D.Disk.reads_none c.args.disk.now);
  disk_count = refl;
  so_far =
      so_first g.D.Disk g.O.Sink (g.C.ReadsEntries.query c.args.command.now) (kept_by c.args.shelf.now).way
      c.in-Some.range c.args.disk.now c.args.out.now
      (g.C.ReadsEntries.gathers c.args.command.now c.args.gathered) c.requires.fresh;
}

pub entry-requires-clause-there : goal.entry-requires-clause-there
entry-requires-clause-there g c =
    let same : length (kept_by c.loop-number.shelf).way.entries ≡ length (kept_by c.args.shelf.now).way.entries =
    ap (λ (k : KeptShelf). length k.way.entries) c.loop-number.invariant.kept in
    omega (arith, same, c.loop-number-test.true, c.in-Some.ensures.inside, c.len-count.ensures)

pub entry-requires-clause-working : goal.entry-requires-clause-working
entry-requires-clause-working g c = ap (λ (k : KeptShelf). k.failed) c.loop-number.invariant.kept ∙ c.requires.working

pub returns-in_err-entry-clause-stops : goal.returns-in_err-entry-clause-stops
returns-in_err-entry-clause-stops g c =
    let inv = c.loop-number.invariant in
    let p = err_from_is_err_and c.from_residual.result c.from_residual.ensures.1 in
    let query = g.C.ReadsEntries.query c.args.command.now in
    let e = c.in_err-entry.ensures in
    let allowed = ap query.range (sym c.len-count.ensures) ∙ sym c.range.ensures.is ∙ c.in-Some.is in
    let way = ap (λ (k : KeptShelf). k.way) inv.kept in
    let stops = rw way at (e.stops inv.so_far.read inv.so_far.gathered) in
    rw (p.1, p.2)
    (stops_gathers (outlets_of g.D.Disk g.O.Sink) (query_on query (kept_by c.args.shelf.now).way)
    (outlets c.args.disk.now c.args.out.now) (outlets c.entry.new.disk c.entry.new.out)
    (g.C.ReadsEntries.gathers c.args.command.now) c.in_err-entry.field-0.0
    (entry_undone g.D.Disk g.O.Sink query (kept_by c.args.shelf.now).way inv.so_far.read c.loop-number.number
    c.loop-number.disk c.entry.new.disk c.loop-number.out c.entry.new.out c.in_err-entry.field-0.0 stops)
    (entry_stopped g.D.Disk g.O.Sink query _ _ _ _ allowed _ _ _ _ c.entry.new.out inv.so_far inv.tell.told
    inv.tell.untold
    inv.reads inv.disk_count g.met.D.Disk.reads_on c.entry.new.disk c.loop-number-test.true e.reads.tell.told
    e.reads.tell.untold e.reads.only_read
    c.in_err-entry.field-0.0 stops (e.counted inv.so_far.read inv.so_far.gathered)))

pub loop-number-preserved : goal.loop-number-preserved
loop-number-preserved g c =
    let inv = c.loop-number.invariant in
    let e = c.in_ok-entry.ensures in
    let query = g.C.ReadsEntries.query c.args.command.now in
    let way = ap (λ (k : KeptShelf). k.way) inv.kept in
    let few : length inv.so_far.read + 1 < 2 ^ 64 = omega (arith, inv.so_far.few, c.loop-number-test.true) in
    record {
      kept = e.reads.kept ∙ inv.kept;
      tell = tells_both inv.tell e.reads.tell;
      reads = only_read_joined g.D.Disk g.met.D.Disk.reads_on c.args.disk.now c.loop-number.disk c.entry.new.disk
          inv.tell.told inv.reads e.reads.only_read;
      disk_count = e.same ∙ inv.disk_count;
      so_far =
          so_more g.D.Disk g.O.Sink query (kept_by c.args.shelf.now).way c.in-Some.range c.args.disk.now c.args.out.now
          (g.C.ReadsEntries.gathers c.args.command.now c.loop-number.gathered) c.loop-number.number c.loop-number.out
          c.entry.new.out inv.so_far c.loop-number-test.true c.loop-number.disk
          inv.tell.told (λ t. (inv.reads.unwritten t).contents)
          (g.C.ReadsEntries.gathers c.args.command.now c.entry.new.gathered)
          c.entry.new.disk
          (rw way at (e.takes inv.so_far.read few inv.so_far.gathered));
    }

pub returns-clause-takes : goal.returns-clause-takes
returns-clause-takes g c =
    let inv = c.loop-number.invariant in
    let query = g.C.ReadsEntries.query c.args.command.now in
    let allowed = ap query.range (sym c.len-count.ensures) ∙ sym c.range.ensures.is ∙ c.in-Some.is in
    let way = ap (λ (k : KeptShelf). k.way) inv.kept in
    let takes = rw way at (c.last.ensures.takes inv.so_far.read inv.so_far.gathered) in
    on_noted c.last.result
    (λ puts. last_gathered g.D.Disk g.O.Sink query _ _ _ _ allowed _ _ _ _ c.last.new.out inv.so_far inv.tell.told
    inv.tell.untold
    inv.reads inv.disk_count (c.loop-number.auto.number-end c.in-Some.ensures.ordered) c.loop-number-test.false puts
    (g.C.ReadsEntries.gathers c.args.command.now) c.loop-number.gathered inv.so_far.gathered)
    takes (c.last.ensures.tells inv.so_far.read inv.so_far.gathered)

pub returns-clause-stops : goal.returns-clause-stops
returns-clause-stops g c =
    let inv = c.loop-number.invariant in
    let query = g.C.ReadsEntries.query c.args.command.now in
    let allowed = ap query.range (sym c.len-count.ensures) ∙ sym c.range.ensures.is ∙ c.in-Some.is in
    let way = ap (λ (k : KeptShelf). k.way) inv.kept in
    let stops = simp way at (c.last.ensures.stops inv.so_far.read inv.so_far.gathered) in
    let sure = rw way at (c.last.ensures.sure inv.so_far.read inv.so_far.gathered) in
    on_sure c.last.result
    (λ cause stops some. stops_gathers (outlets_of g.D.Disk g.O.Sink) (query_on query (kept_by c.args.shelf.now).way)
    (outlets c.args.disk.now c.args.out.now) (outlets c.loop-number.disk c.last.new.out)
    (g.C.ReadsEntries.gathers c.args.command.now) cause
    (text_undone g.D.Disk g.O.Sink (query.last (kept_by c.args.shelf.now).way inv.so_far.read) c.loop-number.out
    c.last.new.out cause stops)
    (last_stopped g.D.Disk g.O.Sink query _ _ _ _ allowed _ _ _ _ c.last.new.out inv.so_far inv.tell.told
    inv.tell.untold
    inv.reads inv.disk_count (c.loop-number.auto.number-end c.in-Some.ensures.ordered) c.loop-number-test.false cause
    stops some))
    stops sure
