use Rattle.std.proofs.Common.{arith}
use Rattle.std.proofs.lemmas.Bool.{ltb-true}
use Rattle.lr_rice_coder.proofs.SearchLemmas.{pairs_are_longer}
use Rattle.lr_rice_coder.proofs.cost.has_shorter_pairs.Goals as goal

pub returns-else-sum-count : goal.returns-else-sum-count
returns-else-sum-count c =
    let heavy = pairs_are_longer c.args.first c.args.places.now (omega (arith, c.requires.some)) c.requires.even
    c.requires.clear (omega (arith, c.requires.count, c.requires.sum, c.if-sum-count.false)) in (
      λ less. absurd (omega (arith, ltb-true _ _ less, c.if-sum-count.false)),
      λ few. absurd (omega (arith, heavy, few, c.requires.bound, c.requires.count, c.requires.sum)),
    )
