use Rattle.std.proofs.Common.{List, ℕ, ◌++◌, ◌∙◌, ap, codes}
use Rattle.lr_catalog.specs.Records.{projection_words}
use Rattle.lr_catalog.specs.Texts.{escaped_text}
use Rattle.lr_catalog.proofs.Lines.{put_three}
use Rattle.lr_catalog.proofs.records.put_navigation.Goals as goal

pub returns : goal.returns
returns c =
    let head = c.in_ok-extend.ensures in
    let name = c.in_ok-put_escaped.ensures
    ∙ ap (λ (t : List ℕ). c.extend.new.self ++ escaped_text t) c.trim_end.ensures in
    put_three c.put_words.result c.args.out.now (codes " navigation ") _ (projection_words c.args.navigation.now)
    c.extend.new.self c.put_escaped.new.out c.put_words.new.out head.ok name
    (c.put_words.ensures.ok _ c.projection_words.ensures)
