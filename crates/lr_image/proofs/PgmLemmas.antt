-- The bytes of pixels that have no more than 8 bits.
use Rattle.std.proofs.Common.{◌≡◌, ◌<◌, ◌≤◌, ◌%◌, ◌^◌, ℕ, suc, List, [], ◌∷◌, ◌++◌, All, map, refl, sym, ap, ◌∙◌}
use Rattle.std.proofs.Common.{rules, tests, arith}
use Rattle.std.specs.List.{flat_map}
use Rattle.std.proofs.lemmas.List.Concat.{flat_map-cons}
use Rattle.std.proofs.Math.Pow.{pow_mono}
use Rattle.lr_image.specs.Pgm.{pixel_bytes}

one_byte : (bits pixel : ℕ) → bits ≤ 8 → pixel_bytes bits pixel ≡ pixel ∷ []
one_byte bits pixel few = search (rules, tests)

pub low_bytes_are : (bits : ℕ) (row : List ℕ) → bits ≤ 8 → All (λ pixel. pixel < 2 ^ bits) row
    → map (λ pixel. pixel % 256) row ≡ flat_map (pixel_bytes bits) row
low_bytes_are bits [] few small = refl
low_bytes_are bits (pixel ∷ row) few small =
    let most : 2 ^ bits ≤ 2 ^ 8 = pow_mono few in
    let fits : pixel % 256 ≡ pixel = omega (arith, small 0 pixel (omega arith)) in
    let rest = low_bytes_are bits row few (λ k d inside. small (suc k) d (omega arith)) in
    ap (λ p. p ∷ map (λ q. q % 256) row) fits ∙ ap (λ l. pixel ∷ l) rest
    ∙ ap (λ l. l ++ flat_map (pixel_bytes bits) row) (sym (one_byte bits pixel few))
    ∙ sym (flat_map-cons (pixel_bytes bits) pixel row)
