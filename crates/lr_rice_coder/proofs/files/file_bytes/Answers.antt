use Rattle.std.proofs.Common.{◌++◌, ℕ, List, length, ap, ◌∙◌}
use Rattle.lr_rice_coder.specs.Fronts.{front_with}
use Rattle.lr_rice_coder.proofs.files.file_bytes.Goals as goal

pub returns-clause-ok : goal.returns-clause-ok
returns-clause-ok c =
    let lines = c.args.lines.now in
    let front = λ (n : ℕ). front_with n c.args.structure c.args.block c.args.others.now (length lines) in
    c.in_ok-extend.ensures.ok ∙ ap (λ (l : List ℕ). l ++ lines) (c.in_ok-bytes.ensures
    ∙ ap front c.counter-counter.ensures)
