use Rattle.std.proofs.Common.{
  arith,
  refl,
  length-append,
  length-drop,
  length-take,
  ◌≡◌,
  ◌++◌,
  ℕ,
  List,
  length,
  drop,
  min,
  rules,
  subst,
}
use Rattle.lr_io.proofs.Moving.{moved_on}
use Rattle.lr_io.proofs.PlaceLemmas.{moves_of_both}
use Rattle.lr_io.specs.MemSource.{cut_places, failing_places, left_of, bytes_moved}
use Rattle.lr_io.specs.Places.{MovesMost}
use Rattle.lr_io.proofs.source.MemSourceSource.take.Goals as goal

pub returns-clause-moved : goal.returns-clause-moved
returns-clause-moved c =
    moved_on c.args.self.now.bytes.items c.args.self.now.at c.reach-count.result c.copy_from_slice.new.self
    c.args.into.now (search rules) (search rules)

pub returns-clause-most : goal.returns-clause-most
returns-clause-most c =
    let self = c.args.self.now in
    let wanted : c.min-most.result ≡ min
    (length (c.copy_from_slice.new.self ++ drop c.reach-count.result c.args.into.now)) (length (left_of self)) =
    omega (
      arith,
      length-drop self.at self.bytes.items,
      length-append c.copy_from_slice.new.self (drop c.reach-count.result c.args.into.now),
      length-drop c.reach-count.result c.args.into.now,
      length-take c.reach-count.result c.args.into.now,
      c.reach-count.ensures.most.within,
      c.reach.ensures.most.within,
    ) in
    let failing : MovesMost (failing_places self) (bytes_moved self) c.min-most.result c.reach.result =
    subst (λ (l : List ℕ). MovesMost l (bytes_moved self) c.min-most.result c.reach.result) c.deref-3.ensures.value
    c.reach.ensures.most in
    let cuts : MovesMost (cut_places self) (bytes_moved self) c.reach.result c.reach-count.result =
    subst (λ (l : List ℕ). MovesMost l (bytes_moved self) c.reach.result c.reach-count.result) c.deref-2.ensures.value
    c.reach-count.ensures.most in
    subst (λ (n : ℕ). MovesMost (cut_places self ++ failing_places self) (bytes_moved self) n c.reach-count.result)
    wanted
    (moves_of_both (cut_places self) (failing_places self)
    (bytes_moved self) c.min-most.result c.reach.result c.reach-count.result failing cuts)

pub returns-then-contains-clause-untouched : goal.returns-then-contains-clause-untouched
returns-then-contains-clause-untouched c = refl

pub returns-then-contains-clause-spent : goal.returns-then-contains-clause-spent
returns-then-contains-clause-spent c = search (rules, arith)

pub returns-clause-asked : goal.returns-clause-asked
returns-clause-asked c = record {
  same = record { bytes = refl; cuts = refl };
  same_failing = refl;
  moved = refl;
  stops = (returns-clause-most c).stops;
}
