-- Which files have an outcome of `repack`: all.
use Rattle.std.specs.Prelude.{◌<◌, ℕ, All, Result}
use Rattle.lr_bits.specs.File.{File, IsFile, bytes_of}
use Rattle.lr_rice_coder.specs.Coded.{IsBlockSize}
use Rattle.lr_rice_coder.specs.Refusals.{HasRepackOutcome}
use Rattle.lr_rice_coder.specs.declared.fault.RepackFault.{RepackFault}

-- a file is coded anew, or has a first refusal
abbrev pub RepacksHaveOutcomes : Type 0
RepacksHaveOutcomes =
    (file : File) (block : ℕ) → IsFile file → All (λ byte. byte < 256) (bytes_of file) → IsBlockSize block
    → (outcome : Result File RepackFault) × HasRepackOutcome file block outcome
