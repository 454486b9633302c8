use Rattle.std.proofs.Common.{◌∙◌, Option, ap}
use Rattle.std.specs.Option.{option_map}
use Rattle.lr_headers.specs.declared.entry.Entry.{Entry}
use Rattle.lr_headers.specs.Fields.{contents_of}
use Rattle.lr_headers.proofs.Tilings.{find_sized, tiled_inside}
use Rattle.lr_headers.proofs.records.Records.contents_of_kind.Goals as goal

pub returns-clause-value : goal.returns-clause-value
returns-clause-value c =
    let header = c.args.self.now in
    c.contents.ensures.value ∙ ap (λ (e : Option Entry). option_map (contents_of header.bytes) e)
    (find_sized header.bytes c.args.kind c.args.size header.entries c.requires.fixed
    (tiled_inside header c.contents.ensures.tiled))
