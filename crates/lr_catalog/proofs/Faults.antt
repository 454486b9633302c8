-- The first fault of a header.
use Rattle.std.proofs.Common.{◌≡◌, List, ℕ, Err, refl}
use Rattle.lr_headers.specs.declared.fault.HeaderFault.{HeaderFault}
use Rattle.lr_headers.specs.declared.fault.HeaderFault.TheVariants.{
  Ended,
  NotPrimary,
  ShortRecord,
  Overrun,
  WrongLength,
  NoMemory,
}
use Rattle.lr_headers.specs.Headers.{header_of}
use Rattle.lr_headers.specs.Tiling.{HasHeaderFaultOrMemory}
use Rattle.lr_headers.proofs.Readings.{fault_is}

-- a fault that isn't want of memory is that of the header
pub is_fault : (proper : List ℕ) (fault : HeaderFault) → HasHeaderFaultOrMemory proper fault → (fault ≡ NoMemory → ⊥)
    → header_of proper ≡ Err fault
is_fault proper (Ended at) has not = fault_is proper (Ended at) has
is_fault proper NotPrimary has not = fault_is proper NotPrimary has
is_fault proper (ShortRecord at) has not = fault_is proper (ShortRecord at) has
is_fault proper (Overrun at) has not = fault_is proper (Overrun at) has
is_fault proper (WrongLength kind size) has not = fault_is proper (WrongLength kind size) has
is_fault proper NoMemory has not = absurd (not refl)
