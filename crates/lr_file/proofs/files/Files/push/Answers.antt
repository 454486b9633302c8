use Rattle.std.proofs.Common.{◌≡◌, ◌≤◌, Option, length, sym, ap, ◌∙◌, subst, rules, arith}
use Rattle.lr_bits.specs.File.{File}
use Rattle.lr_bits.specs.Sizes.{most_file_bytes}
use Rattle.lr_packet.specs.Reading.{good}
use Rattle.lr_file.specs.Standing.{Open, KeptFiles, FilesStandFor, kept_of_key}
use Rattle.lr_file.specs.Steps.{IsFileOf, JoinsNothing, completed_file}
use Rattle.lr_file.proofs.KeyLemmas.{on_ok, if_ok}
use Rattle.lr_file.proofs.Histories.{stands_next, file_at-built}
use Rattle.lr_file.proofs.files.Files.push.Goals as goal

pub returns-clause-stands : goal.returns-clause-stands
returns-clause-stands c =
    let p = good c.args.packet.now in
    let short : length p.body ≤ most_file_bytes = omega (arith, c.args.packet.now.body_fits) in
    let old : KeptFiles = record { spent = c.self.inside.spent; files = c.self.inside.files.entries } in
    let new : KeptFiles = record { spent = c.is_err-self-inside.result; files = c.join-result.new.files.entries } in
    λ packets stands.
    on_ok c.join-result.result
    (λ fine sets. stands_next old new packets p short (c.is_err-self-inside.ensures.value ∙ fine) sets
    (subst (λ (kept : KeptFiles). FilesStandFor kept packets) (sym c.self.view_is) stands))
    c.join-result.ensures.files

pub returns-clause-file : goal.returns-clause-file
returns-clause-file c =
    let p = good c.args.packet.now in
    let short : length p.body ≤ most_file_bytes = omega (arith, c.args.packet.now.body_fits) in
    let old : KeptFiles = record { spent = c.self.inside.spent; files = c.self.inside.files.entries } in
    λ packets stands.
    let before = subst (λ (kept : KeptFiles). FilesStandFor kept packets) (sym c.self.view_is) stands in
    if_ok c.join-result.result
    (λ (file : Option File) built.
    file_at-built packets p file short (subst (λ (kept : Option Open). IsFileOf p (completed_file kept p) file)
    (before.files p.vc p.apid) built))
    c.join-result.ensures.file

pub returns-clause-spends : goal.returns-clause-spends
returns-clause-spends c = search (rules, arith)

pub returns-clause-succeeds : goal.returns-clause-succeeds
returns-clause-succeeds c unspent none =
    let p = good c.args.packet.now in
    let seen : kept_of_key c.args.self.now.files p.vc p.apid ≡ kept_of_key c.self.inside.files.entries p.vc p.apid =
    ap (λ (kept : KeptFiles). kept_of_key kept.files p.vc p.apid) (sym c.self.view_is) in
    c.join-result.ensures.succeeds (subst (λ (kept : Option Open). JoinsNothing kept p) seen none)
