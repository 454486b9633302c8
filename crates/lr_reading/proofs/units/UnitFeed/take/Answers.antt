use Rattle.std.proofs.Common.{rules, sym, refl, [], ◌≤◌, ◌+◌, ◌-◌, length}
use Rattle.std.proofs.lemmas.List.{length-take-le}
use Rattle.lr_bits.specs.declared.sizes.TheConstants.{FRAME_SYMBOLS}
use Rattle.lr_reading.proofs.Asking.{gave}
use Rattle.lr_reading.proofs.Gathering.{none_taken, piece_gathered, piece_taken}
use Rattle.lr_reading.proofs.units.UnitFeed.take.Goals as goal

pub returns-clause-gathered : goal.returns-clause-gathered
returns-clause-gathered g c =
    let inside = c.self.inside in
    let room = inside.filled + c.if-left-room.most - inside.filled in
    let filled : inside.filled ≤ length inside.buffer = search rules in
    let enough : c.in_ok-count.count ≤ length c.take.new.into = search rules in
    let few : inside.taken + c.in_ok-count.count ≤ inside.most = search rules in
    piece_taken g.S.Source g.row.N c.args.source.now c.take.new.self c.args.self.now inside.buffer c.take.new.into
    inside.filled room c.in_ok-count.count inside.taken inside.most filled enough few
    c.in_ok-count.ensures.tell.told c.in_ok-count.ensures.tell.untold c.in_ok-count.ensures.moved
    (gave g.S.Source c.args.source.now c.take.new.self _ _ c.in_ok-count.ensures.asked
    (length-take-le c.in_ok-count.count c.take.new.into enough)) c.requires.room c.self.view_is

pub returns-clause-went_on : goal.returns-clause-went_on
returns-clause-went_on g c some =
    let inside = c.self.inside in
    let room = inside.filled + c.if-left-room.most - inside.filled in
    let filled : inside.filled ≤ length inside.buffer = search rules in
    let enough : c.in_ok-count.count ≤ length c.take.new.into = search rules in
    let fits : c.in_ok-count.count ≤ FRAME_SYMBOLS = search rules in
    let few : inside.taken + c.in_ok-count.count ≤ inside.most = search rules in
    piece_gathered g.S.Source g.row.N c.args.source.now c.take.new.self c.args.self.now inside.buffer c.take.new.into
    inside.filled room c.in_ok-count.count inside.taken inside.most filled enough few
    c.in_ok-count.ensures.tell.told c.in_ok-count.ensures.tell.untold c.in_ok-count.ensures.moved
    (gave g.S.Source c.args.source.now c.take.new.self _ _ c.in_ok-count.ensures.asked
    (length-take-le c.in_ok-count.count c.take.new.into enough)) c.requires.room c.self.view_is some fits
    c.in_ok-count.ensures.cause.kept

pub returns-in_err-count-clause-gathered : goal.returns-in_err-count-clause-gathered
returns-in_err-count-clause-gathered g c =
    let inside = c.self.inside in
    let room = inside.filled + c.if-left-room.most - inside.filled in
    let filled : inside.filled ≤ length inside.buffer = search rules in
    let few : inside.taken ≤ inside.most = search rules in
    none_taken g.S.Source g.row.N c.args.source.now c.take.new.self c.args.self.now inside.buffer c.take.new.into
    inside.filled room inside.taken inside.most filled few c.in_err-count.ensures.tell.told
    c.in_err-count.ensures.tell.untold
    (λ tells. sym (c.in_err-count.ensures.failed tells))
    (gave g.S.Source c.args.source.now c.take.new.self _ [] c.in_err-count.ensures.asked refl) c.requires.room
    c.self.view_is
