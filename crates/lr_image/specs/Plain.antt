-- Pixels that stand one after another, each in the same number of bits, with nothing between lines.
use Rattle.std.specs.Prelude.{◌≡◌, ◌<◌, ◌*◌, ◌/◌, ◌^◌, ℕ, List, ◌++◌, length, All}
use Rattle.std.specs.List.{flat_map}
use Rattle.lr_bits.specs.Bits.{number_bits}
use Rattle.lr_image.specs.declared.fault.ImageFault.{ImageFault}
use Rattle.lr_image.specs.declared.fault.ImageFault.TheVariants.{Short}

-- the string of bits begins with n pixels
pub record BeginsWithPixels (bits n : ℕ) (string pixels : List ℕ) : Type 0 where
  pub count : length pixels ≡ n
  pub small : All (λ pixel. pixel < 2 ^ bits) pixels
  pub rest : List ℕ
  pub written : string ≡ flat_map (number_bits bits) pixels ++ rest

-- how many whole pixels the bytes have
abbrev pub whole_pixels : ℕ → List ℕ → ℕ
whole_pixels bits bytes = 8 * length bytes / bits

-- the bytes have fewer than n pixels
pub record PixelsFail (bits n : ℕ) (bytes : List ℕ) (fault : ImageFault) : Type 0 where
  pub few : whole_pixels bits bytes < n
  pub is_fault : fault ≡ Short (whole_pixels bits bytes)
