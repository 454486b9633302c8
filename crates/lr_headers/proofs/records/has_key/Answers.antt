use Rattle.lr_headers.proofs.Tilings.{tiled_inside}
use Rattle.lr_headers.proofs.records.has_key.Goals as goal

pub contents_of-requires : goal.contents_of-requires
contents_of-requires c =
    let inside = tiled_inside
    (record { bytes = c.args.bytes.now; entries = c.args.entries.now }) c.requires c.loop-entry.entry-index
    (record { kind = 0; at = 0; length = 0 }) c.loop-entry-test.true in
    record { inside = inside.ends; long = inside.long }
