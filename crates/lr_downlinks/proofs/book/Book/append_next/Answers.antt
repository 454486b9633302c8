use Rattle.std.proofs.Common.{◌≡◌, Some, length, refl, sym, subst}
use Rattle.std.proofs.lemmas.Bool.{ltb-true}
use Rattle.std.proofs.lemmas.Option.{slice_get_read}
use Rattle.std.specs.Prelude.{slice_get}
use Rattle.lr_downlinks.specs.Merge.{IsNextOf, times_in_order}
use Rattle.lr_downlinks.specs.Start.{files_in}
use Rattle.lr_downlinks.proofs.Keeping.{next_kept, some_next}
use Rattle.lr_downlinks.proofs.book.Book.append_next.Goals as goal
use Rattle.lr_downlinks.proofs.book.Book.append_next.Goals.{After-self-1}

-- the next file was found
found : (g : _) (c : After-self-1 g)
    → slice_get c.args.files.now (times_in_order c.args.downlink c.self.inside.order) ≡ Some c.in-Some.placed.now
found g c =
    let files = c.args.files.now in
    let place = c.count-place.result in
    let l = c.in-Some.ensures.lookup in
    subst (λ k. slice_get files k ≡ Some c.in-Some.placed.now) c.count-place.ensures
    (slice_get_read files (length files) place c.in-Some.placed.now refl (ltb-true place (length files) (sym l.0)) l.1)

next_of : (g : _) (c : After-self-1 g)
    → IsNextOf (length (g.N.RunStart.start).streams) (files_in g.N.RunStart.start) c.self.inside.order c.args.downlink
    c.in-Some.placed.now
next_of g c = record {
  known = c.requires.known;
  next = subst (λ files. slice_get files (times_in_order c.args.downlink c.self.inside.order)
      ≡ Some c.in-Some.placed.now)
      c.requires.files (found g c);
}

pub invariant_of-self : goal.invariant_of-self
invariant_of-self g c =
    rw c.is_failed_after-self-inside.ensures
    (next_kept g.D.Disk g.met.D.Disk.leaves_contents g.met.D.Disk.counts_now g.N.RunStart.start
    g.N.RunStart.handed c.self.inside.disk.ghost_name (record {
      shelf = c.self.inside.shelf;
      disk = c.self.inside.disk.now;
      order = c.self.inside.order;
      failed = c.self.inside.failed;
    }) c.self.invariant c.args.downlink c.in-Some.placed.now c.is_item.ensures (next_of g c)
    c.append_file-answer.new.shelf c.append_file-answer.new.disk c.append_file-answer.new.order
    c.append_file-answer.result c.append_file-answer.ensures)

pub returns-clause-appends : goal.returns-clause-appends
returns-clause-appends g c =
    rw (← c.self.view_is, c.is_failed_after-self-inside.ensures)
    (some_next g.D.Disk c.args.downlink c.args.files.now (record {
      shelf = c.self.inside.shelf;
      disk = c.self.inside.disk.now;
      order = c.self.inside.order;
      failed = c.self.inside.failed;
    }) c.in-Some.placed.now (found g c) c.append_file-answer.new.shelf c.append_file-answer.new.disk
    c.append_file-answer.new.order c.append_file-answer.result c.append_file-answer.ensures)

pub returns-clause-is : goal.returns-clause-is
returns-clause-is g c = (invariant_of-self g c).files

pub returns-clause-stands : goal.returns-clause-stands
returns-clause-stands g c = (invariant_of-self g c).stands
