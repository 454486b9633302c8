use Rattle.std.proofs.Common.{◌≡◌, ◌<◌, ℕ, ℤ, Bool, true, false, List, arith, map}
use Rattle.std.specs.Prelude.{bit_and, bit_or, count_ones, not}
use Rattle.lr_lock.specs.Hits.{agreeing, leans}
use Rattle.lr_lock.specs.Planes.{number_of}
use Rattle.lr_lock.proofs.Bits.{hits_are, opposite_are}
use Rattle.lr_lock.proofs.planes.polarity_in.Goals as goal

module _ (above below ones zeros : ℕ) (tail : List Bool) (symbols : List ℤ)
    (a : above ≡ number_of (map (leans true) symbols)) (b : below ≡ number_of (map (leans false) symbols))
    (o : ones ≡ number_of tail) (z : zeros ≡ number_of (map not tail)) where
  hits : count_ones (bit_or (bit_and above ones) (bit_and below zeros)) ≡ agreeing true tail symbols
  hits = let h = hits_are tail symbols in cc

  opposite : count_ones (bit_or (bit_and below ones) (bit_and above zeros)) ≡ agreeing false tail symbols
  opposite = let h = opposite_are tail symbols in cc

pub returns-then-hits-least : goal.returns-then-hits-least
returns-then-hits-least c =
    λ tail symbols masks shows. omega (
      arith,
      c.if-hits-least.true,
      hits _ _ _ _ tail symbols shows.above shows.below masks.ones masks.zeros,
    )

pub returns-then-opposite-least : goal.returns-then-opposite-least
returns-then-opposite-least c =
    λ tail symbols masks shows. omega (
      arith,
      c.if-opposite-least.true,
      opposite _ _ _ _ tail symbols shows.above shows.below masks.ones masks.zeros,
    )

pub returns-else-opposite-least : goal.returns-else-opposite-least
returns-else-opposite-least c = λ tail symbols masks shows positive.
    elim positive as (λ p. agreeing p tail symbols < c.args.least) [
      | true ↦ omega
          (arith, c.if-hits-least.false, hits _ _ _ _ tail symbols shows.above shows.below masks.ones masks.zeros)
      | false ↦ omega (
        arith,
        c.if-opposite-least.false,
        opposite _ _ _ _ tail symbols shows.above shows.below masks.ones masks.zeros,
      )
    ]
