use Rattle.std.proofs.Common.{◌≡◌, Option, Some, None, Result, Ok, subst}
use Rattle.lr_shelf.specs.Kept.{kept_by}
use Rattle.lr_shelf_format.specs.declared.stored.Stored.{Stored}
use Rattle.lr_causes.specs.declared.cause.Cause.{Cause}
use Rattle.lr_refusals.specs.Errors.{IsFileOrGone}
use Rattle.lr_refusals.proofs.Entries.{gives_cause, gives_file, gives_gone}
use Rattle.lr_cmd_render.proofs.Reading.{content_stands, content_stops}
use Rattle.lr_cmd_render.proofs.content.read_content.Goals as goal

pub returns-in-Ok-clause-content : goal.returns-in-Ok-clause-content
returns-in-Ok-clause-content g c =
    let stored = c.in-Ok-Some.stored in
    let given : c.file_or_gone.result ≡ Ok (Some stored) = cc in
    let finds = gives_file g.D.Disk c.args.number c.args.shelf.now c.get.new.self c.args.disk.now c.get.new.disk
    c.get.result c.get.ensures stored
    (subst (λ (r : Result (Option Stored) Cause). IsFileOrGone c.get.result r) given c.file_or_gone.ensures) in
    content_stands g.D.Disk (kept_by c.args.shelf.now) c.args.number c.args.disk.now stored finds c.in-Ok.content
    c.in-Ok.ensures

pub returns-in-Ok-None-clause-content : goal.returns-in-Ok-None-clause-content
returns-in-Ok-None-clause-content g c =
    let given : c.file_or_gone.result ≡ Ok None = cc in
    let gone = gives_gone g.D.Disk c.args.number c.args.shelf.now c.get.new.self c.args.disk.now c.get.new.disk
    c.get.result c.get.ensures
    (subst (λ (r : Result (Option Stored) Cause). IsFileOrGone c.get.result r) given c.file_or_gone.ensures) in
    λ t. gone.2

pub returns-in-Err-clause-stops : goal.returns-in-Err-clause-stops
returns-in-Err-clause-stops g c =
    let cause = c.in-Err.cause in
    let refuses = gives_cause g.D.Disk c.args.number c.args.shelf.now c.get.new.self c.args.disk.now c.get.new.disk
    c.get.result c.get.ensures cause
    (subst (λ (r : Result (Option Stored) Cause). IsFileOrGone c.get.result r) c.in-Err.is c.file_or_gone.ensures) in
    rw refuses.cause_is
    (content_stops g.D.Disk (kept_by c.args.shelf.now) c.args.number c.args.disk.now c.get.new.disk c.requires.working
    c.requires.there refuses.error refuses.stays refuses.refused refuses.counted)
