use Rattle.std.proofs.Common.{◌<◌, ◌+◌, ℕ, List, length, sym, ap, subst, ◌∙◌, ◌^◌}
use Rattle.lr_downlinks.specs.Books.{BookView}
use Rattle.lr_downlinks.specs.Ending.{RunEndsWith}
use Rattle.lr_downlinks.proofs.Running.{merges_over, order_fits}
use Rattle.lr_downlinks.proofs.downlinks.run_named.Goals as goal

pub invariant_of-result : goal.invariant_of-result
invariant_of-result g c = record {
  numbered =
      subst (λ (l : List ℕ). c.len-base.result + length l < 2 ^ 64) (sym c.into_bytes.ensures)
      (order_fits g.N.RunStart.start _ c.book.invariant.files c.len-base.result
      (c.len-base.ensures ∙ sym (ap (λ w. length w.entries) c.requires.begun.way_is)));
}

pub returns-clause-runs : goal.returns-clause-runs
returns-clause-runs g c =
    merges_over g.D.Disk g.N.RunStart.handed c.args.bundle.now c.args.line c.args.shelf
    c.args.lent.disk.ghost_name c.args.lent.disk.now g.N.RunStart.start c.requires.streams c.requires.line
    c.requires.begun _ _ c.book.invariant c.fill_book-book.result.1
    (subst (λ (b : BookView g.row.D.Denot). RunEndsWith g.N.RunStart.start b c.fill_book-book.result.1)
    (sym c.book.view_is) c.fill_book-book.ensures)
    c.len-base.result c.len-base.ensures _ c.into_bytes.ensures _
