use Rattle.std.proofs.Common.{arith, ◌≡◌, ◌+◌, slice_index}
use Rattle.lr_lanes.specs.declared.narrow_forward.TheConstants.{MIDDLE}
use Rattle.lr_lanes.proofs.Merging.{low_at, high_at, both_halves}
use Rattle.lr_lanes.proofs.narrow_forward.with_room.Goals as goal

pub centred-requires-2-clause-least : goal.centred-requires-2-clause-least
centred-requires-2-clause-least c = λ k l.
    omega (
      arith,
      c.requires.near 0 (k + 32) (omega arith) (omega arith),
      low_at c.args.low c.args.high c.requires.low 0 (omega arith),
      high_at c.args.low c.args.high c.requires.low k,
    )

pub centred-requires-2-clause-most : goal.centred-requires-2-clause-most
centred-requires-2-clause-most c = λ k l.
    omega (
      arith,
      c.requires.within.most (k + 32) (omega arith),
      high_at c.args.low c.args.high c.requires.low k,
    )

pub returns-clause-same : goal.returns-clause-same
returns-clause-same c = λ s l.
    let moved =
    both_halves (λ x y. y + slice_index c.args.low 0 ≡ x + MIDDLE) c.args.low c.args.high c.centred.result
    c.centred-2.result c.requires.low c.centred.ensures.size c.centred.ensures.value c.centred-2.ensures.value s l in
    omega (
      arith,
      moved,
      low_at c.args.low c.args.high c.requires.low 0 (omega arith),
      c.requires.above,
      c.from.ensures,
      c.from-2.ensures,
    )

pub returns-clause-within : goal.returns-clause-within
returns-clause-within c =
    let moved =
    both_halves (λ x y. y + slice_index c.args.low 0 ≡ x + MIDDLE) c.args.low c.args.high c.centred.result
    c.centred-2.result c.requires.low c.centred.ensures.size c.centred.ensures.value c.centred-2.ensures.value in
    let first = low_at c.args.low c.args.high c.requires.low 0 (omega arith) in
    record {
      least = λ s l. omega (arith, moved s l, first, c.requires.near 0 s (omega arith) l);
      most = λ s l. omega (arith, moved s l, first, c.requires.near s 0 l (omega arith));
    }

pub returns-then-step-ne0-clause-within : goal.returns-then-step-ne0-clause-within
returns-then-step-ne0-clause-within c = record {
  least = λ s l. omega (arith, c.requires.within.least s l, c.if-step-ne0.true);
  most = λ s l. omega (arith, c.requires.within.most s l, c.if-step-ne0.true);
}
