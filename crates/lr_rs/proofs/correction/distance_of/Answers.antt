use Rattle.std.proofs.Common.{◌≡◌, ◌≢◌, ℕ, suc, ◌+◌, List, slice_index, arith, ap, add-one, refl}
use Rattle.lr_gf.proofs.Elimination.{if_same, if_other}
use Rattle.lr_rs.specs.Words.{distance}
use Rattle.lr_rs.proofs.correction.distance_of.Goals as goal
use Rattle.lr_rs.proofs.correction.distance_of.Goals.{then-a-i, else-a-i}

distance-same : (n : ℕ) (a b : List ℕ) → slice_index a n ≡ slice_index b n → distance (n + 1) a b ≡ distance n a b
unfolding distance
distance-same n a b e = rw add-one (omega (arith, if_same {X = ℕ} (slice_index a n) (slice_index b n) 0 1 e))

distance-other : (n : ℕ) (a b : List ℕ) → slice_index a n ≢ slice_index b n → distance (n + 1) a b ≡ distance n a b + 1
unfolding distance
distance-other n a b e = let a1 : n + 1 ≡ suc n = add-one n in
    rw a1 (ap (λ z. distance n a b + z) (if_other {X = ℕ} (slice_index a n) (slice_index b n) 0 1 e))

pub loop-i-init : goal.loop-i-init
unfolding distance
loop-i-init c = (refl, omega arith)

pub loop-i-preserved : goal.loop-i-preserved
loop-i-preserved c = elim c.if-a-i.branch [
  | then-a-i w ↦ (
    omega (
      arith,
      w.count-is,
      c.loop-i.invariant.0,
      distance-other c.loop-i.i c.args.a.now c.args.b.now w.if-a-i.true,
    ),
    omega (arith, w.count-is, c.loop-i.invariant.1),
  )
  | else-a-i w ↦ (
    omega (
      arith,
      w.count-is,
      c.loop-i.invariant.0,
      distance-same c.loop-i.i c.args.a.now c.args.b.now w.if-a-i.false,
    ),
    omega (arith, w.count-is, c.loop-i.invariant.1),
  )
]
