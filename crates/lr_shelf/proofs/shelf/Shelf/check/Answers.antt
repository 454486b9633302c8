use Rattle.std.proofs.Common.{rules, Some, ◌∙◌, sym, subst}
use Rattle.lr_shelf.specs.Asked.{entry_of}
use Rattle.lr_shelf.specs.Kept.{kept_by}
use Rattle.lr_shelf.specs.Pieces.{IsExamined}
use Rattle.lr_shelf_format.specs.Way.{item_at}
use Rattle.lr_shelf_format.specs.declared.entry.Entry.{Entry}
use Rattle.lr_shelf.proofs.Bytes.{file_stands, stored_read}
use Rattle.lr_shelf.proofs.shelf.Shelf.check.Goals as goal

pub returns : goal.returns
returns g c = record {
  reads = search rules;
  kept = search rules;
  refused = search rules;
  askable = search rules;
  sound = search rules;
  file =
      let asked = c.in_ok-entry.ensures.ok in
      let contents = g.D.Disk.contents c.args.disk.now in
      let entry = entry_of (kept_by c.args.self.now) c.args.number in (
        stored_read (item_at contents entry),
        λ told.
            let found =
            subst (λ (e : Entry). IsExamined contents e (Some c.in-Some.sums)) asked.is
            (subst (IsExamined contents c.in_ok-entry.entry) c.in-Some.is (c.in_ok-sums.ensures.found told)) in
            file_stands contents entry found.0 found.1.fit
            (sym found.1.stored ∙ c.if-stored-computed.false ∙ found.1.computed) asked.askable.stays,
      );
}
