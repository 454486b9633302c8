use Rattle.std.proofs.Common.{◌≡◌, ℕ, Option, Some, None, sym, ap, ◌∙◌, subst}
use Rattle.lr_packet.specs.Reading.{good}
use Rattle.lr_file.specs.Standing.{kept_of_key}
use Rattle.lr_file.specs.Steps.{SetsKey}
use Rattle.lr_file.proofs.KeyLemmas.{get-kept, on_ok, written, sets_key, sets_key_again, unsets_key}
use Rattle.lr_mend.specs.Mending.{Image, image_with}
use Rattle.lr_mend.proofs.Fillers.{continued_image-some, continued_image-closed, continued_image-none}
use Rattle.lr_mend.proofs.mender.go_on.Goals as goal

pub returns-in_default : goal.returns-in_default
returns-in_default c =
    let old = c.args.images.now in
    let new = c.get_mut.follows.lender-at-none in
    let p = good c.args.packet.now in
    let none = sym (get-kept old p.vc p.apid) ∙ sym c.in_default.ensures.value in
    subst (λ (image : Option Image). SetsKey old.entries new.entries p image)
    (sym (continued_image-none c.args.most (kept_of_key old.entries p.vc p.apid) p none))
    (unsets_key old new p c.get_mut.follows.holds-at-none c.get_mut.ensures.ordered none)

pub returns-then-goes_on : goal.returns-then-goes_on
returns-then-goes_on c =
    let old = c.args.images.now in
    let p = good c.args.packet.now in
    let image = c.in-Some.image.now in
    let after = c.go_on.new.self in
    let new = c.get_mut.follows.lender after in
    let some = sym (get-kept old p.vc p.apid) ∙ sym c.in-Some.ensures.value in
    on_ok c.go_on.result
    (λ _ (longer : after ≡ image_with image c.fillers_before-fillers.result p).
    subst (λ (image : Option Image). SetsKey old.entries new.entries p image)
    (ap Some (longer ∙ ap (λ (n : ℕ). image_with image n p) c.fillers_before-fillers.ensures.value)
    ∙ sym (continued_image-some c.args.most (kept_of_key old.entries p.vc p.apid) image p some
    (sym c.if-goes_on.ensures)))
    (sets_key old new p (Some after) (written old new (p.vc, p.apid) image after c.in-Some.ensures.value
    (c.get_mut.follows.holds after)) (c.get_mut.follows.holds after).4))
    c.go_on.ensures

pub returns : goal.returns
returns c =
    let old = c.args.images.now in
    let p = good c.args.packet.now in
    let image = c.in-Some.image.now in
    let between = c.get_mut.follows.lender image in
    let new = c.remove.new.self in
    let some = sym (get-kept old p.vc p.apid) ∙ sym c.in-Some.ensures.value in
    subst (λ (image : Option Image). SetsKey old.entries new.entries p image)
    (sym (continued_image-closed c.args.most (kept_of_key old.entries p.vc p.apid) image p some
    (sym c.if-goes_on.ensures)))
    (sets_key_again old between new p (Some image) None (written old between
    (p.vc, p.apid) image image c.in-Some.ensures.value
    (c.get_mut.follows.holds image)) c.remove.ensures.updates.0 c.remove.ensures.ordered)
