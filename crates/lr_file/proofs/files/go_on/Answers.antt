use Rattle.std.proofs.Common.{◌≡◌, Option, Some, None, sym, ap, ◌∙◌, subst, rules, arith}
use Rattle.lr_packet.specs.Reading.{good}
use Rattle.lr_file.specs.Standing.{Open, kept_of_key}
use Rattle.lr_file.specs.Steps.{SetsKey, open_file_with}
use Rattle.lr_file.proofs.KeyLemmas.{get-kept, on_ok, written, sets_key, sets_key_again, unsets_key}
use Rattle.lr_file.proofs.KeyLemmas.{continued_file-some, continued_file-dropped, continued_file-none}
use Rattle.lr_file.proofs.files.go_on.Goals as goal

pub returns-in_default-clause-file : goal.returns-in_default-clause-file
returns-in_default-clause-file c =
    let old = c.args.files.now in
    let new = c.get_mut.follows.lender-at-none in
    let p = good c.args.packet.now in
    let none = sym (get-kept old p.vc p.apid) ∙ sym c.in_default.ensures.value in
    subst (λ (file : Option Open). SetsKey old.entries new.entries p file)
    (sym (continued_file-none (kept_of_key old.entries p.vc p.apid) p none))
    (unsets_key old new p c.get_mut.follows.holds-at-none c.get_mut.ensures.ordered none)

pub returns-then-is_followed_by-clause-file : goal.returns-then-is_followed_by-clause-file
returns-then-is_followed_by-clause-file c =
    let old = c.args.files.now in
    let p = good c.args.packet.now in
    let file = c.in-Some.file.now in
    let after = c.append.new.self in
    let new = c.get_mut.follows.lender after in
    let some = sym (get-kept old p.vc p.apid) ∙ sym c.in-Some.ensures.value in
    on_ok c.append.result
    (λ _ (longer : after ≡ open_file_with file p).
    subst (λ (file : Option Open). SetsKey old.entries new.entries p file)
    (ap Some longer ∙ sym (continued_file-some (kept_of_key old.entries p.vc p.apid) file p some
    (sym c.if-is_followed_by.ensures)))
    (sets_key old new p (Some after) (written old new (p.vc, p.apid) file after c.in-Some.ensures.value
    (c.get_mut.follows.holds after)) (c.get_mut.follows.holds after).4))
    c.append.ensures

pub returns-clause-file : goal.returns-clause-file
returns-clause-file c =
    let old = c.args.files.now in
    let p = good c.args.packet.now in
    let file = c.in-Some.file.now in
    let between = c.get_mut.follows.lender file in
    let new = c.remove.new.self in
    let some = sym (get-kept old p.vc p.apid) ∙ sym c.in-Some.ensures.value in
    subst (λ (file : Option Open). SetsKey old.entries new.entries p file)
    (sym (continued_file-dropped (kept_of_key old.entries p.vc p.apid) file p some (sym c.if-is_followed_by.ensures)))
    (sets_key_again old between new p (Some file) None (written old between
    (p.vc, p.apid) file file c.in-Some.ensures.value
    (c.get_mut.follows.holds file)) c.remove.ensures.updates.0 c.remove.ensures.ordered)

pub returns-then-is_followed_by-clause-succeeds : goal.returns-then-is_followed_by-clause-succeeds
returns-then-is_followed_by-clause-succeeds c none =
    let old = c.args.files.now in
    let p = good c.args.packet.now in
    let some = sym (get-kept old p.vc p.apid) ∙ sym c.in-Some.ensures.value in
    let goes_on = continued_file-some (kept_of_key old.entries p.vc p.apid) c.in-Some.file.now p some
    (sym c.if-is_followed_by.ensures) in
    absurd (cc (goes_on, none))

pub returns-in_default-clause-succeeds : goal.returns-in_default-clause-succeeds
returns-in_default-clause-succeeds c = search (rules, arith)
