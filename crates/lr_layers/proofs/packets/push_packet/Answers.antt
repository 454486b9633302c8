use Rattle.std.proofs.Common.{List, map, sym, subst, ◌++◌, ◌∷◌, []}
use Rattle.lr_packet.specs.Reading.{good}
use Rattle.lr_packet.specs.Verdict.{Good}
use Rattle.lr_layers.specs.declared.packets.Joiner.{Joiner}
use Rattle.lr_layers.specs.Origins.{packet_of}
use Rattle.lr_layers.specs.Starts.{AtHand, Joins, found}
use Rattle.lr_layers.proofs.Joining.{good_one, here, joins_packet, one_stands, origin_told}
use Rattle.lr_layers.proofs.packets.push_packet.Goals as goal

pub returns-in_ok-push_file-in-Ok-2-clause-joins : goal.returns-in_ok-push_file-in-Ok-2-clause-joins
returns-in_ok-push_file-in-Ok-2-clause-joins c outcomes before stand is =
    let g = good c.in-Ok.good in
    let now = c.args.now in
    let mend = c.args.joiner.now.files.images.most in
    let at : AtHand = record {
      mend = mend;
      counted = c.args.counted;
      outcomes = outcomes;
      place = now.start.place;
      before = before;
    } in
    let old = found c.args.out.now.items c.args.fillers.now.items in
    let between = found c.push_file.new.out.items c.push_file.new.fillers.items in
    let new = found c.push_file-in-Ok.new.out.items c.push_file-in-Ok.new.fillers.items in
    let joiner : Joiner = record { files = c.push.new.self; starts = c.note.new.self } in
    let notes = c.in_ok-note-in-Ok.ensures stand.starts.once in
    let stands = c.in_ok-ended-in-Ok.ensures.stands (map packet_of before) stand.files in
    let after = one_stands mend c.args.counted outcomes before g now is _ stand.starts joiner notes stands in
    subst (λ (l : List Good). Joins at l joiner old new)
    (sym (good_one c.args.raw.now g c.in-Ok.ensures))
    (joins_packet mend c.args.counted outcomes before g now is _ stand.starts joiner notes stands old between new
    c.in_ok-ended-in-Ok.ended.by_fillers c.in_ok-ended-in-Ok.ended.by_packet c.origin_from-first.result
    c.origin_from-second.result
    (c.in_ok-ended-in-Ok.ensures.gap (map packet_of before) stand.files)
    (c.in_ok-ended-in-Ok.ensures.file (map packet_of before) stand.files)
    (origin_told outcomes before g now is c.args.joiner.now.starts stand.starts c.start_of-before.result
    c.start_of-before.ensures c.origin_from-first.result c.origin_from-first.ensures)
    (origin_told outcomes (before ++ here now g ∷ []) g now is joiner.starts after.starts c.start_of-since.result
    c.start_of-since.ensures c.origin_from-second.result c.origin_from-second.ensures)
    c.in_ok-push_file-in-Ok.ensures.added c.in_ok-push_file-in-Ok-2.ensures.added)
