use Rattle.std.proofs.Common.{◌≡◌, ◌++◌, ◌∷◌, [], Option, Some, None, Result, Ok, refl, subst, sym}
use Rattle.std.proofs.lemmas.List.{map-append}
use Rattle.lr_causes.proofs.Joining.{puts_none}
use Rattle.lr_causes.specs.declared.cause.Cause.{Cause}
use Rattle.lr_cmd_shelf.specs.declared.opened.Opened.{Opened}
use Rattle.lr_cmd_shelf.specs.Files.{files_of}
use Rattle.lr_cmd_shelf.proofs.Filing.{get_stops, stops_file, takes_file, takes_gone}
use Rattle.lr_cmd_shelf.proofs.Texts.{on_both, on_err}
use Rattle.lr_refusals.specs.Errors.{IsFileOrGone}
use Rattle.lr_refusals.proofs.Entries.{gives_cause, gives_file, gives_gone}
use Rattle.lr_shelf.specs.Kept.{kept_by}
use Rattle.lr_shelf_format.specs.declared.stored.Stored.{Stored}
use Rattle.lr_cmd_transmit.specs.Standing.{HasSent}
use Rattle.lr_cmd_transmit.specs.Transmit.{transmit_files_query, files_read, transmit_query, sending}
use Rattle.lr_cmd_transmit.proofs.transmit.TransmitRangeReadsEntries.entry.Goals as goal

-- a file at whose image no one looks
abbrev opened_of : Stored → Opened
opened_of stored = record { stored = stored; image = None }

pub returns-in-Ok-Some-clause-takes : goal.returns-in-Ok-Some-clause-takes
returns-in-Ok-Some-clause-takes g c = λ read few gathered.
    let s = c.args.self.now in
    let stored = c.in-Ok-Some.stored in
    let given : c.file_or_gone.result ≡ Ok (Some stored) = cc in
    let finds = gives_file g.D.Disk c.args.number c.args.shelf.now c.get.new.self c.args.disk.now c.get.new.disk
    c.get.result c.get.ensures stored
    (subst (λ (r : Result (Option Stored) Cause). IsFileOrGone c.get.result r) given c.file_or_gone.ensures) in
    let opened = opened_of stored in
    let more : files_read (files_of read) ++ stored.file ∷ [] ≡ files_read (files_of read ++ opened ∷ []) =
    sym (map-append (λ (o : Opened). o.stored.file) (files_of read) (opened ∷ [])) in
    on_both c.send_file.result
    (λ puts sent.
    takes_file g.D.Disk g.O.Sink (kept_by c.args.shelf.now) c.args.number c.args.disk.now c.requires.working
    c.requires.there (transmit_files_query (sending s.from s.to s.wrong s.line)) read c.get.new.disk c.args.out.now
    c.send_file.new.out
    opened finds tt
    (λ files. HasSent s.line s.wrong (files_read files) c.send_file.new.uplink) puts
    (subst (λ files. HasSent s.line s.wrong files c.send_file.new.uplink) more sent))
    (c.send_file.ensures.puts s.line (files_read (files_of read)) gathered)
    (c.send_file.ensures.sent s.line (files_read (files_of read)) gathered)

pub returns-in-Ok-Some-clause-stops : goal.returns-in-Ok-Some-clause-stops
returns-in-Ok-Some-clause-stops g c = λ read gathered.
    let s = c.args.self.now in
    let stored = c.in-Ok-Some.stored in
    let given : c.file_or_gone.result ≡ Ok (Some stored) = cc in
    let finds = gives_file g.D.Disk c.args.number c.args.shelf.now c.get.new.self c.args.disk.now c.get.new.disk
    c.get.result c.get.ensures stored
    (subst (λ (r : Result (Option Stored) Cause). IsFileOrGone c.get.result r) given c.file_or_gone.ensures) in
    on_err c.send_file.result
    (stops_file g.D.Disk g.O.Sink (kept_by c.args.shelf.now) c.args.number c.args.disk.now c.requires.working
    c.requires.there (transmit_files_query (sending s.from s.to s.wrong s.line)) read c.get.new.disk c.args.out.now
    c.send_file.new.out (opened_of stored) finds tt)
    (c.send_file.ensures.stops s.line (files_read (files_of read)) gathered)

pub returns-in-Ok-None-clause-takes : goal.returns-in-Ok-None-clause-takes
returns-in-Ok-None-clause-takes g c = λ read few gathered.
    let s = c.args.self.now in
    let given : c.file_or_gone.result ≡ Ok None = cc in
    let gone = gives_gone g.D.Disk c.args.number c.args.shelf.now c.get.new.self c.args.disk.now c.get.new.disk
    c.get.result c.get.ensures
    (subst (λ (r : Result (Option Stored) Cause). IsFileOrGone c.get.result r) given c.file_or_gone.ensures) in
    takes_gone g.D.Disk g.O.Sink (kept_by c.args.shelf.now) c.args.number c.args.disk.now c.requires.working
    c.requires.there (transmit_files_query (sending s.from s.to s.wrong s.line)) read c.get.new.disk c.args.out.now
    c.args.out.now
    gone
    (λ files. HasSent s.line s.wrong (files_read files) c.args.uplink.now)
    (record { text = []; is = refl; puts = puts_none g.O.Sink c.args.out.now }) gathered

pub returns-in-Err-clause-stops : goal.returns-in-Err-clause-stops
returns-in-Err-clause-stops g c = λ read gathered.
    let s = c.args.self.now in
    let cause = c.in-Err.cause in
    let refuses = gives_cause g.D.Disk c.args.number c.args.shelf.now c.get.new.self c.args.disk.now c.get.new.disk
    c.get.result c.get.ensures cause
    (subst (λ (r : Result (Option Stored) Cause). IsFileOrGone c.get.result r) c.in-Err.is c.file_or_gone.ensures) in
    rw refuses.cause_is
    (get_stops g.D.Disk g.O.Sink (kept_by c.args.shelf.now) c.args.number c.args.disk.now c.requires.working
    c.requires.there (transmit_query (sending s.from s.to s.wrong s.line)) read c.get.new.disk c.args.out.now
    refuses.error (λ stored computed is. refl) refuses.stays refuses.refused)
