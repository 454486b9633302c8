use Rattle.std.proofs.Common.{List, ℕ, length, ap, ◌∙◌, sym}
use Rattle.lr_downlinks.proofs.Bundling.{count_is}
use Rattle.lr_downlinks.proofs.bundle.Bundle.streams.Goals as goal

pub returns-clause-count : goal.returns-clause-count
returns-clause-count c =
    sym (count_is c.self.inside.bytes c.self.inside.count c.self.inside.ends c.self.invariant)
    ∙ ap (λ (l : List (List ℕ)). length l) c.self.view_is
