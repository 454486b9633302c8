use Rattle.std.proofs.Common.{◌≡◌, Option, Ok, [], OnOk, IfErr, subst}
use Rattle.lr_headers.specs.declared.fields.Segment.{Segment}
use Rattle.lr_cmd_shelf.specs.Assemble.{is_without, join_fate, member_of, member_with, members_of, skipped_of}
use Rattle.lr_cmd_shelf.specs.Gathered.{GathersMembers, IsStop, with_member, with_skipped}
use Rattle.lr_cmd_shelf.proofs.Assembling.{can_count, gathers_more, puts_nothing, stops_here}
use Rattle.lr_cmd_shelf.proofs.Texts.{on_ok, on_err}
use Rattle.lr_cmd_shelf.proofs.assemble.AssembleRangeReadsFiles.file.Goals as goal

pub returns-clause-puts : goal.returns-clause-puts
returns-clause-puts g c = λ read gathers.
    let s = c.args.self.now in
    let opened = c.args.opened.now in
    let members = members_of s.apid s.image read in
    on_ok c.take_file.result (puts_nothing g.O.Sink (join_fate members (member_of s.apid s.image opened))
    c.args.arg6.now)
    (subst (λ (o : Option Segment). OnOk c.take_file.result (join_fate members (member_with o opened.image) ≡ Ok []))
    c.in_ok-segment.ensures
    (c.take_file.ensures.fits members (skipped_of s.apid s.image read) gathers))

pub returns-clause-gathered : goal.returns-clause-gathered
returns-clause-gathered g c = λ read few gathers.
    let s = c.args.self.now in
    let opened = c.args.opened.now in
    let members = members_of s.apid s.image read in
    let skipped = skipped_of s.apid s.image read in
    let counts = can_count s.apid s.image read few in
    on_ok c.take_file.result (gathers_more s.apid s.image read opened c.take_file.new.gathering)
    (subst
    (λ (o : Option Segment). OnOk c.take_file.result (GathersMembers (with_member members (member_with o opened.image))
    (with_skipped skipped (is_without o opened.image)) c.take_file.new.gathering))
    c.in_ok-segment.ensures (c.take_file.ensures.gathered members skipped counts.0 counts.1 gathers))

pub returns-clause-stops : goal.returns-clause-stops
returns-clause-stops g c = λ read gathers.
    let s = c.args.self.now in
    let opened = c.args.opened.now in
    let members = members_of s.apid s.image read in
    on_err c.take_file.result (stops_here g.O.Sink (join_fate members (member_of s.apid s.image opened))
    c.args.arg6.now)
    (subst (λ (o : Option Segment). IfErr c.take_file.result (IsStop (join_fate members (member_with o opened.image))))
    c.in_ok-segment.ensures
    (c.take_file.ensures.stops members (skipped_of s.apid s.image read) gathers))
