use Rattle.std.proofs.Common.{rules, ◌≡◌, ℕ, ap, ◌-◌, ◌≤◌, ◌++◌, length, take, drop, set, All, sym, subst, ◌∙◌, true}
use Rattle.std.proofs.Common.{false}
use Rattle.std.proofs.Common.{inl, inr, arith, length-drop, length-take}
use borrow.Rule.Slice.PartMut.{post_of}
use Rattle.lr_rice.specs.CodedLines.{BlockSite, body_string, greatest}
use Rattle.lr_rice.specs.Samples.{ReadsBlock, plain_part, site_of}
use Rattle.lr_rice.proofs.ItemLemmas.{OnOk_from, OnOk_both}
use Rattle.lr_rice.proofs.BlockLemmas.{leading_block, pairs_block, plain_block, behind_first, places_behind}
use Rattle.lr_rice.proofs.values.read_block.Goals as goal

pub returns-then-site-clause-ok : goal.returns-then-site-clause-ok
returns-then-site-clause-ok c =
    let site : BlockSite = site_of c.args.site in
    let values = c.read_pairs.new.values in
    let whole = c.args.reader.now in
    let rest = c.read_pairs.new.reader in
    let size : length values ≡ site.block = c.read_pairs.auto.values ∙ c.requires.size in
    subst (λ first. ReadsBlock (record site { first = first }) c.args.option whole rest (set values 0 0))
    (sym c.if-site.true)
    (subst (λ option. ReadsBlock (record site { first = true }) option whole rest (set values 0 0))
    (sym c.in-SecondExtension.is)
    (leading_block site whole rest values size (omega (arith, c.args.site.least_block))
    (λ k inside behind. (c.in_ok-read_pairs-in-SecondExtension).ensures.small k inside (inl behind))
    (c.in_ok-read_pairs-in-SecondExtension).ensures.ok))

pub returns-else-site-clause-ok : goal.returns-else-site-clause-ok
returns-else-site-clause-ok c =
    let site : BlockSite = site_of c.args.site in
    let values = c.read_pairs.new.values in
    let whole = c.args.reader.now in
    let rest = c.read_pairs.new.reader in
    let size : length values ≡ site.block = c.read_pairs.auto.values ∙ c.requires.size in
    subst (λ first. ReadsBlock (record site { first = first }) c.args.option whole rest values) (sym c.if-site.false)
    (subst (λ option. ReadsBlock (record site { first = false }) option whole rest values) (sym c.in-SecondExtension.is)
    (pairs_block site whole rest values size
    (λ k inside. (c.in_ok-read_pairs-in-SecondExtension).ensures.small k inside (inr c.if-site.false))
    (c.in_ok-read_pairs-in-SecondExtension).ensures.ok))

pub returns-in_default-clause-ok : goal.returns-in_default-clause-ok
returns-in_default-clause-ok c =
    let site : BlockSite = site_of c.args.site in
    let places = c.args.places.now in
    let n = length places in
    let f = c.from.result in
    let values = c.read_values.new.values in
    let whole = c.args.reader.now in
    let rest = c.read_values.new.reader in
    let all = take f places ++ (values ++ post_of f (n - f) places) in
    let size : length values ≡ n - f = c.read_values.auto.values ∙ length-take (n - f) (drop f places)
    ∙ omega (arith, length-drop f places) in
    let Read : Type 0 = whole ≡ body_string site.bits true (plain_part c.args.option values) ++ rest in
    let Small : Type 0 = All (λ value. value ≤ greatest site.bits) values in
    OnOk_from c.read_values.result (Read × Small) (ReadsBlock site c.args.option whole rest all)
    (λ both. plain_block site c.args.option whole rest values all c.requires.single
    c.in_default.not-SecondExtension c.requires.option
    (record {
      whole = size ∙ ap (λ (k : ℕ). k - f) c.requires.size ∙ places_behind site.block f site.first c.from.ensures;
      small = both.1;
    })
    both.0
    (behind_first site.first places values f c.from.ensures c.requires.clear
    (omega (arith, c.requires.size, c.args.site.least_block)) size))
    (OnOk_both c.read_values.result Read Small c.read_values.ensures.ok c.read_values.ensures.small)

pub returns-in_default-clause-err : goal.returns-in_default-clause-err
returns-in_default-clause-err c = search rules
