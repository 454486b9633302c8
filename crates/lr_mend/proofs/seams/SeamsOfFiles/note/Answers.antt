use Rattle.std.proofs.Common.{◌≡◌, ℕ, true, false, Option, Some, List, [], refl, ap, sym, ◌∙◌, subst}
use Rattle.std.specs.Prelude.{unwrap_or}
use Rattle.std.specs.BTreeMap.{BTreeMap}
use Rattle.lr_packet.specs.Reading.{good}
use Rattle.lr_file.specs.Standing.{kept_of_key}
use Rattle.lr_file.specs.Steps.{SetsKey}
use Rattle.lr_file.proofs.KeyLemmas.{get-kept, on_ok, sets_key, written}
use Rattle.lr_mend.specs.Mending.{Mended, begins_file}
use Rattle.lr_mend.specs.Seams.{Seams, no_seams, seams_and, seams_with}
use Rattle.lr_mend.proofs.seams.SeamsOfFiles.note.Goals as goal

-- the packet begins a file, or not
begun : (seams : Seams) (m : Mended) → begins_file m.packet ≡ true →
    seams_with seams m ≡ (let s : Seams = record { packets = 1; fillers = [] } in s)
begun seams m is = rw is refl

gone_on : (seams : Seams) (m : Mended) → begins_file m.packet ≡ false → seams_with seams m ≡ seams_and seams m.filler
gone_on seams m is = rw is refl

pub returns-then-begins_file : goal.returns-then-begins_file
returns-then-begins_file c once =
    let old = c.self.inside.seams in
    let new = c.insert.new.self in
    let p = good c.args.packet.now in
    let m : Mended = record { packet = p; filler = c.args.filler } in
    let known = unwrap_or (kept_of_key c.args.self.now p.vc p.apid) no_seams in
    let is = c.of.ensures ∙ sym (begun known m (sym c.begins_file.ensures ∙ c.if-begins_file.true)) in
    subst (λ (kept : List ((ℕ × ℕ) × Seams)). SetsKey kept new.entries p (Some (seams_with known m))) c.self.view_is
    (subst (λ (s : Seams). SetsKey old.entries new.entries p (Some s)) is
    (sets_key old new p (Some c.of.result) c.in_ok-insert.ensures.updates.0 c.in_ok-insert.ensures.ordered))

pub returns-in-Some : goal.returns-in-Some
returns-in-Some c once =
    let old = c.self.inside.seams in
    let p = good c.args.packet.now in
    let m : Mended = record { packet = p; filler = c.args.filler } in
    let seams = c.in-Some.seams.now in
    let after = c.add.new.self in
    let new = c.get_mut.follows.lender after in
    let known = unwrap_or (kept_of_key c.args.self.now p.vc p.apid) no_seams in
    let some = sym (get-kept old p.vc p.apid) ∙ sym c.in-Some.ensures.value in
    let same : known ≡ seams =
    ap (λ (kept : List ((ℕ × ℕ) × Seams)). unwrap_or (kept_of_key kept p.vc p.apid) no_seams) (sym c.self.view_is)
    ∙ ap (λ (o : Option Seams). unwrap_or o no_seams) some in
    on_ok c.add.result
    (λ _ (more : after ≡ seams_and seams c.args.filler).
    let is : after ≡ seams_with known m =
    more ∙ sym (gone_on known m (sym c.begins_file.ensures ∙ c.if-begins_file.false)
    ∙ ap (λ (s : Seams). seams_and s c.args.filler) same) in
    subst (λ (kept : List ((ℕ × ℕ) × Seams)). SetsKey kept new.entries p (Some (seams_with known m))) c.self.view_is
    (subst (λ (s : Seams). SetsKey old.entries new.entries p (Some s)) is
    (sets_key old new p (Some after) (written old new (p.vc, p.apid) seams after c.in-Some.ensures.value
    (c.get_mut.follows.holds after)) (c.get_mut.follows.holds after).4)))
    c.add.ensures

pub returns : goal.returns
returns c once =
    let old = c.self.inside.seams in
    let between = c.get_mut.follows.lender-at-none in
    let new = c.insert-2.new.self in
    let p = good c.args.packet.now in
    let m : Mended = record { packet = p; filler = c.args.filler } in
    let after = c.add-2.new.self in
    let known = unwrap_or (kept_of_key c.args.self.now p.vc p.apid) no_seams in
    let none = sym (get-kept old p.vc p.apid) ∙ sym c.in_default.ensures.value in
    let same : known ≡ no_seams =
    ap (λ (kept : List ((ℕ × ℕ) × Seams)). unwrap_or (kept_of_key kept p.vc p.apid) no_seams) (sym c.self.view_is)
    ∙ ap (λ (o : Option Seams). unwrap_or o no_seams) none in
    let is : after ≡ seams_with known m =
    c.in_ok-add.ensures ∙ ap (λ (s : Seams). seams_and s c.args.filler) (c.of-seams.ensures ∙ sym same)
    ∙ sym (gone_on known m (sym c.begins_file.ensures ∙ c.if-begins_file.false)) in
    let sets =
    sets_key between new p (Some after) c.in_ok-insert-2.ensures.updates.0 c.in_ok-insert-2.ensures.ordered in
    subst (λ (kept : List ((ℕ × ℕ) × Seams)). SetsKey kept new.entries p (Some (seams_with known m))) c.self.view_is
    (subst (λ (s : Seams). SetsKey old.entries new.entries p (Some s)) is
    (subst (λ (kept : List ((ℕ × ℕ) × Seams)). SetsKey kept new.entries p (Some after))
    (ap (λ (b : BTreeMap (ℕ × ℕ) Seams). b.entries) c.get_mut.follows.holds-at-none) sets))
