use Rattle.std.proofs.Common.{Option, None, refl, sym, ◌∙◌, subst}
use Rattle.lr_bits.specs.File.{File}
use Rattle.lr_packet.specs.Reading.{good}
use Rattle.lr_file.specs.Standing.{Open, kept_of_key}
use Rattle.lr_file.specs.Steps.{IsBuilt, IsFileOf}
use Rattle.lr_file.proofs.KeyLemmas.{get-kept, sets_key, continued_file-some, continued_file-dropped}
use Rattle.lr_file.proofs.KeyLemmas.{continued_file-none}
use Rattle.lr_file.proofs.files.end.Goals as goal

pub returns-in_default-clause-files : goal.returns-in_default-clause-files
returns-in_default-clause-files c =
    sets_key c.args.files.now c.remove.new.self
    (good c.args.packet.now) None c.remove.ensures.updates.0 c.remove.ensures.ordered

pub returns-in_default-clause-file : goal.returns-in_default-clause-file
returns-in_default-clause-file c =
    let old = c.args.files.now in
    let p = good c.args.packet.now in
    let none = sym (get-kept old p.vc p.apid) ∙ sym c.in_default.ensures.value in
    let result : Option File = None in
    subst (λ (file : Option Open). IsFileOf p file result)
    (sym (continued_file-none (kept_of_key old.entries p.vc p.apid) p none)) refl

pub returns-then-not-is_followed_by-clause-files : goal.returns-then-not-is_followed_by-clause-files
returns-then-not-is_followed_by-clause-files c =
    sets_key c.args.files.now c.remove.new.self
    (good c.args.packet.now) None c.remove.ensures.updates.0 c.remove.ensures.ordered

pub returns-then-not-is_followed_by-clause-file : goal.returns-then-not-is_followed_by-clause-file
returns-then-not-is_followed_by-clause-file c =
    let old = c.args.files.now in
    let p = good c.args.packet.now in
    let some = sym (get-kept old p.vc p.apid) ∙ sym c.in-Some.ensures.value in
    let result : Option File = None in
    subst (λ (file : Option Open). IsFileOf p file result)
    (sym (continued_file-dropped (kept_of_key old.entries p.vc p.apid) c.in-Some.file p some
    (sym c.if-not-is_followed_by.ensures))) refl

pub returns-in_err-append-clause-files : goal.returns-in_err-append-clause-files
returns-in_err-append-clause-files c =
    sets_key c.args.files.now c.remove.new.self
    (good c.args.packet.now) None c.remove.ensures.updates.0 c.remove.ensures.ordered

pub returns-clause-files : goal.returns-clause-files
returns-clause-files c =
    sets_key c.args.files.now c.remove.new.self
    (good c.args.packet.now) None c.remove.ensures.updates.0 c.remove.ensures.ordered

pub returns-clause-file : goal.returns-clause-file
returns-clause-file c =
    let old = c.args.files.now in
    let p = good c.args.packet.now in
    let some = sym (get-kept old p.vc p.apid) ∙ sym c.in-Some.ensures.value in
    subst (λ (file : Option Open). IsFileOf p file c.finish.result)
    (sym (continued_file-some (kept_of_key old.entries p.vc p.apid) c.in-Some.file p some
    (sym c.if-not-is_followed_by.ensures)))
    (subst (λ (file : Open). IsBuilt p.vc p.apid file c.finish.result) c.in_ok-append.ensures c.finish.ensures)

pub returns-in_err-append-clause-succeeds : goal.returns-in_err-append-clause-succeeds
returns-in_err-append-clause-succeeds c none =
    let old = c.args.files.now in
    let p = good c.args.packet.now in
    let some = sym (get-kept old p.vc p.apid) ∙ sym c.in-Some.ensures.value in
    let goes_on = continued_file-some (kept_of_key old.entries p.vc p.apid) c.in-Some.file p some
    (sym c.if-not-is_followed_by.ensures) in
    absurd (cc (goes_on, none))
