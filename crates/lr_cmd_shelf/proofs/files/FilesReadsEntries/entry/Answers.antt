use Rattle.std.proofs.Common.{◌≡◌, Option, Some, None, Result, Ok, subst, refl}
use Rattle.lr_causes.specs.declared.cause.Cause.{Cause}
use Rattle.lr_refusals.specs.Errors.{IsFileOrGone}
use Rattle.lr_refusals.proofs.Entries.{gives_cause, gives_file, gives_gone}
use Rattle.lr_shelf.specs.Kept.{kept_by}
use Rattle.lr_shelf_format.specs.declared.stored.Stored.{Stored}
use Rattle.lr_cmd_shelf.specs.Files.{query_of_files}
use Rattle.lr_cmd_shelf.proofs.Filing.{fewer, get_stops, opened_stands, stops_file, stops_gone, takes_file, takes_gone}
use Rattle.lr_cmd_shelf.proofs.Texts.{on_both, on_ok, on_err}
use Rattle.lr_cmd_shelf.proofs.files.FilesReadsEntries.entry.Goals as goal

pub returns-in-Ok-clause-takes : goal.returns-in-Ok-clause-takes
returns-in-Ok-clause-takes g c = λ read few gathered.
    let query = g.C.ReadsFiles.query c.args.self.now.0 in
    let stored = c.in-Ok-Some.stored in
    let given : c.file_or_gone.result ≡ Ok (Some stored) = cc in
    let finds = gives_file g.D.Disk c.args.number c.args.shelf.now c.get.new.self c.args.disk.now c.get.new.disk
    c.get.result c.get.ensures stored
    (subst (λ (r : Result (Option Stored) Cause). IsFileOrGone c.get.result r) given c.file_or_gone.ensures) in
    let stands = opened_stands g.D.Disk (kept_by c.args.shelf.now) c.args.number c.args.disk.now query stored
    c.in-Ok.opened c.in-Ok.ensures.same c.in-Ok.ensures.seen finds in
    on_both c.file.result
    (takes_file g.D.Disk g.O.Sink (kept_by c.args.shelf.now) c.args.number c.args.disk.now c.requires.working
    c.requires.there query read c.get.new.disk c.args.out.now c.file.new.out c.in-Ok.opened stands.0 stands.1
    (g.C.ReadsFiles.gathers c.args.self.now.0 c.file.new.gathered))
    (c.file.ensures.puts _ gathered) (c.file.ensures.gathered _ (fewer read few) gathered)

pub returns-in-Ok-clause-stops : goal.returns-in-Ok-clause-stops
returns-in-Ok-clause-stops g c = λ read gathered.
    let query = g.C.ReadsFiles.query c.args.self.now.0 in
    let stored = c.in-Ok-Some.stored in
    let given : c.file_or_gone.result ≡ Ok (Some stored) = cc in
    let finds = gives_file g.D.Disk c.args.number c.args.shelf.now c.get.new.self c.args.disk.now c.get.new.disk
    c.get.result c.get.ensures stored
    (subst (λ (r : Result (Option Stored) Cause). IsFileOrGone c.get.result r) given c.file_or_gone.ensures) in
    let stands = opened_stands g.D.Disk (kept_by c.args.shelf.now) c.args.number c.args.disk.now query stored
    c.in-Ok.opened c.in-Ok.ensures.same c.in-Ok.ensures.seen finds in
    on_err c.file.result
    (stops_file g.D.Disk g.O.Sink (kept_by c.args.shelf.now) c.args.number c.args.disk.now c.requires.working
    c.requires.there query read c.get.new.disk c.args.out.now c.file.new.out c.in-Ok.opened stands.0 stands.1)
    (c.file.ensures.stops _ gathered)

pub returns-in-Ok-None-clause-takes : goal.returns-in-Ok-None-clause-takes
returns-in-Ok-None-clause-takes g c = λ read few gathered.
    let given : c.file_or_gone.result ≡ Ok None = cc in
    let gone = gives_gone g.D.Disk c.args.number c.args.shelf.now c.get.new.self c.args.disk.now c.get.new.disk
    c.get.result c.get.ensures
    (subst (λ (r : Result (Option Stored) Cause). IsFileOrGone c.get.result r) given c.file_or_gone.ensures) in
    on_ok c.gone_entry.result
    (λ puts.
    takes_gone g.D.Disk g.O.Sink (kept_by c.args.shelf.now) c.args.number c.args.disk.now c.requires.working
    c.requires.there (g.C.ReadsFiles.query c.args.self.now.0) read c.get.new.disk c.args.out.now c.gone_entry.new.out
    gone (g.C.ReadsFiles.gathers c.args.self.now.0 c.args.gathered.now) puts gathered)
    c.gone_entry.ensures.puts

pub returns-in-Ok-None-clause-stops : goal.returns-in-Ok-None-clause-stops
returns-in-Ok-None-clause-stops g c = λ read gathered.
    let given : c.file_or_gone.result ≡ Ok None = cc in
    let gone = gives_gone g.D.Disk c.args.number c.args.shelf.now c.get.new.self c.args.disk.now c.get.new.disk
    c.get.result c.get.ensures
    (subst (λ (r : Result (Option Stored) Cause). IsFileOrGone c.get.result r) given c.file_or_gone.ensures) in
    on_err c.gone_entry.result
    (stops_gone g.D.Disk g.O.Sink (kept_by c.args.shelf.now) c.args.number c.args.disk.now c.requires.working
    c.requires.there (g.C.ReadsFiles.query c.args.self.now.0) read c.get.new.disk c.args.out.now c.gone_entry.new.out
    gone)
    c.gone_entry.ensures.stops

pub returns-in-Err-clause-stops : goal.returns-in-Err-clause-stops
returns-in-Err-clause-stops g c = λ read gathered.
    let cause = c.in-Err.cause in
    let refuses = gives_cause g.D.Disk c.args.number c.args.shelf.now c.get.new.self c.args.disk.now c.get.new.disk
    c.get.result c.get.ensures cause
    (subst (λ (r : Result (Option Stored) Cause). IsFileOrGone c.get.result r) c.in-Err.is c.file_or_gone.ensures) in
    rw refuses.cause_is
    (get_stops g.D.Disk g.O.Sink (kept_by c.args.shelf.now) c.args.number c.args.disk.now c.requires.working
    c.requires.there (query_of_files (g.C.ReadsFiles.query c.args.self.now.0)) read c.get.new.disk c.args.out.now
    refuses.error (λ stored computed is. refl) refuses.stays refuses.refused)
