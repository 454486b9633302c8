use Rattle.std.proofs.Common.{◌≡◌, ◌∷◌, ◌++◌, ◌∙◌, ap, sym, ℤ, Bool, true, false, [], map}
use Rattle.std.proofs.lemmas.List.{length-map, map-append}
use Rattle.std.proofs.lemmas.Int.{to_z-of_z}
use mir.Syntax.{w8}
use mir.Val.{SFits, bool_byte}
use Rattle.lr_lock.specs.Hits.{leans}
use Rattle.lr_lock.specs.Planes.{number_of}
use Rattle.lr_lock.proofs.Bits.{byte_is, moved_is}
use Rattle.lr_lock.proofs.planes.next_planes.Goals as goal

pub returns : goal.returns
returns c = λ first rest size shows.
    let fits : SFits w8 c.args.symbol = c.ranges.symbol in
    let up : c.from.result ≡ bool_byte (leans true c.args.symbol) = simp to_z-of_z at c.from.ensures in
    let down : c.from-2.result ≡ bool_byte (leans false c.args.symbol) = simp to_z-of_z at c.from-2.ensures in
    let more : (f : ℤ → Bool) → number_of (map f rest ++ f c.args.symbol ∷ []) ≡
    number_of (map f (rest ++ c.args.symbol ∷ [])) =
    λ f. ap number_of (sym (map-append f rest (c.args.symbol ∷ []))) in
    record {
      above = moved_is c.args.planes.above c.from.result (leans true first) (leans true c.args.symbol)
          (map (leans true) rest) (length-map rest (leans true) ∙ size) shows.above
          (up ∙ byte_is (leans true c.args.symbol)) ∙ more (leans true);
      below = moved_is c.args.planes.below c.from-2.result (leans false first) (leans false c.args.symbol)
          (map (leans false) rest) (length-map rest (leans false) ∙ size) shows.below
          (down ∙ byte_is (leans false c.args.symbol)) ∙ more (leans false);
    }
