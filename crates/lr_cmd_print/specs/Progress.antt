-- How far a call has come that prints lines. No clause of a public call cites this.
use Rattle.std.specs.Prelude.{◌≡◌, ◌≤◌, List, ℕ, ◌++◌, length}
use Rattle.lr_bits.specs.Telling.{KeepsTelling}
use Rattle.lr_io.specs.declared.sink.Sink.{Ghosts as SinkOf}
use Rattle.lr_causes.specs.declared.cause.Cause.{Cause}
use Rattle.lr_causes.specs.declared.cause.Cause.TheVariants.{Failed, NoMemory}
use Rattle.lr_causes.specs.declared.cause.Party.TheVariants.{Output}
use Rattle.lr_causes.specs.Puts.{GotFirst, PutFails, PutsPrefix}
use Rattle.lr_cmd_print.specs.Printing.{AreSoInTime, Printed}
use Rattle.lr_io.specs.declared.source.Source.{Ghosts as SourceOf}
use Rattle.lr_reading.specs.Reading.{WhenLastAsked}
use Rattle.lr_reading.specs.declared.arrival.Arrival.{Arrival}

-- a text begins with these lines
abbrev pub IsFirstOf : (first all : List ℕ) → Type 0
IsFirstOf first all = (more : List ℕ) × (all ≡ first ++ more)

-- the lines of these bytes begin with those of the first windows, blocks or frames; and with those of what counted when
-- the source was last asked
pub record LinesComeFirst {S : Type 0} (source : SourceOf S) (printed : Printed) (bytes : List ℕ) (s s' : S) : Type 0
  where
    pub of_bytes : (count : ℕ) → IsFirstOf (printed.first bytes count) (printed.lines bytes)
    pub in_time : WhenLastAsked source (AreSoInTime printed (λ first. IsFirstOf first (printed.lines bytes))) bytes s s'

module _ {O : Type 0} (out : SinkOf O) where
  -- the text of these arrivals was put, but perhaps for that of the last one
  pub record PutsButLast (text : List Arrival → List ℕ) (arrivals : List Arrival) (o o' : O) : Type 0 where
    pub worked : List Arrival
    pub late : List Arrival
    pub split : arrivals ≡ worked ++ late
    pub one : length late ≤ 1
    pub got : GotFirst out (text worked) o o'

  -- a prefix of the text was put
  pub record PutsSome (text : List ℕ) (o o' : O) : Type 0 where
    pub tell : KeepsTelling (out.tells o) (out.tells o')
    pub front : out.tells o → PutsPrefix text (out.contents o) (out.contents o')
    pub kept : out.faults o' ≡ out.faults o

  -- what became of lines that were not all put
  abbrev pub LinesStop : List ℕ → Cause → O → O → Type 0
  LinesStop text (Failed Output) o o' = PutFails out text o o'
  LinesStop text NoMemory o o' = PutsSome text o o'
  LinesStop text _ o o' = ⊥
