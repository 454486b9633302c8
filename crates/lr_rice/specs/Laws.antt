-- What is said of all codings of lines.
use Rattle.std.specs.Prelude.{◌≡◌, ◌⊎◌, ◌<◌, ◌≤◌, ℕ, ◌*◌, ◌%◌, All, List, ◌++◌, length}
use Rattle.lr_rice.specs.declared.fault.RiceFault.{RiceFault}
use Rattle.lr_rice.specs.CodedLines.{Form, AreLines, BeginsWithLines, greatest}
use Rattle.lr_rice.specs.LineFaults.{LinesFail}

-- lines can be coded so: samples of 5 to 16 bits, blocks of an even number of samples from 2 to 64, at least one column
pub record IsForm (form : Form) : Type 0 where
  pub least_bits : 5 ≤ form.bits
  pub most_bits : form.bits ≤ 16
  pub least_block : 2 ≤ form.block
  pub most_block : form.block ≤ 64
  pub even : form.block % 2 ≡ 0
  pub some : 1 ≤ form.columns

-- Of two codings of n lines none is a proper prefix of the other: what begins with both begins with one coding, of one
-- list of samples.
abbrev pub LinesAreOne : Type 0
LinesAreOne =
    (form : Form) → IsForm form → (n : ℕ) (samples others coding another rest more : List ℕ)
    → AreLines form n samples coding → AreLines form n others another → coding ++ rest ≡ another ++ more
    → (samples ≡ others) × (coding ≡ another)

-- what begins with a coding of n lines has no fault in n lines
abbrev pub LinesHaveNoFault : Type 0
LinesHaveNoFault =
    (form : Form) → IsForm form → (n : ℕ) (samples string : List ℕ) (fault : RiceFault)
    → BeginsWithLines form n samples string → LinesFail form n string fault → ⊥

-- there is one first fault
abbrev pub FaultsAreOne : Type 0
FaultsAreOne =
    (form : Form) → IsForm form → (n : ℕ) (string : List ℕ) (fault other : RiceFault)
    → LinesFail form n string fault → LinesFail form n string other → fault ≡ other

-- Each string of bits begins with a coding of n lines, or has a fault in them. `LinesHaveNoFault` says that it never
-- has both.
abbrev pub LinesAreRead : Type 0
LinesAreRead =
    (form : Form) → IsForm form → (n : ℕ) (string : List ℕ) → All (λ bit. bit < 2) string
    → ((samples : List ℕ) × BeginsWithLines form n samples string)
    ⊎ ((fault : RiceFault) × LinesFail form n string fault)

-- this many lines have this many samples, each of them in range
pub record AreSamples (form : Form) (n : ℕ) (samples : List ℕ) : Type 0 where
  pub whole : length samples ≡ n * form.columns
  pub small : All (λ sample. sample ≤ greatest form.bits) samples

abbrev pub LinesAreWhole : Type 0
LinesAreWhole =
    (form : Form) → IsForm form → (n : ℕ) (samples coding : List ℕ)
    → AreLines form n samples coding → AreSamples form n samples
