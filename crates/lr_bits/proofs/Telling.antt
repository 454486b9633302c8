-- What two calls keep of what a device tells.
use Rattle.lr_bits.specs.Telling.{KeepsTelling}

-- nothing was called
pub tells_still : {A : Type 0} → KeepsTelling A A
tells_still = record { told = λ t. t; untold = λ t. t }

-- one call after another
pub tells_both : {A B C : Type 0} → KeepsTelling A B → KeepsTelling B C → KeepsTelling A C
tells_both first second = record {
  told = λ t. second.told (first.told t);
  untold = λ t. first.untold (second.untold t);
}
