use Rattle.std.proofs.Common.{◌≤◌, ℕ, List, [], Result, Ok, Err, IfOk, OnErr, ◌++◌, take, drop}
use Rattle.std.proofs.Common.{length, length-append, refl, arith}
use Rattle.std.proofs.lemmas.List.{length-take-le}
use Rattle.lr_bits.specs.declared.refusals.Failed.{Failed}
use Rattle.lr_io.specs.declared.source.Source.{Ghosts as SourceOf}
use Rattle.lr_reading.specs.Reading.{AsksOnce}
use Rattle.lr_reading.proofs.Asking.{gave}
use Rattle.lr_reading.proofs.symbols.take_within.Goals as goal

-- what a call gave, where it may have failed
gave_some : {S : Type 0} (source : SourceOf S) (s s' : S) (answer : Result ℕ Failed)
    (into rest : List ℕ) → IfOk answer (λ n. n ≤ length into) → source.asked s answer s'
    → IfOk answer (λ n. AsksOnce source s (take n (into ++ rest)) s')
gave_some source s s' (Ok n) into rest within asked = gave source s s' (Ok n) (take n (into ++ rest)) asked
    (length-take-le n (into ++ rest) (omega (arith, within, length-append into rest)))
gave_some source s s' (Err failed) into rest within asked = tt

gave_none : {S : Type 0} (source : SourceOf S) (s s' : S) (answer : Result ℕ Failed) → source.asked s answer s'
    → OnErr answer (AsksOnce source s [] s')
gave_none source s s' (Ok n) asked = tt
gave_none source s s' (Err failed) asked = gave source s s' (Err failed) [] asked refl

pub returns-clause-asked : goal.returns-clause-asked
returns-clause-asked g c =
    gave_some g.S.Source c.args.source.now c.take.new.self c.take.result c.take.new.into
    (drop c.args.size c.args.into.now) c.take.ensures.within c.take.ensures.asked

pub returns-clause-refused : goal.returns-clause-refused
returns-clause-refused g c =
    gave_none g.S.Source c.args.source.now c.take.new.self c.take.result c.take.ensures.asked
