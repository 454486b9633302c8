-- What a command that prints lines of the bytes read does to the source and to `out`, for each cause.
use Rattle.std.specs.Prelude.{◌≡◌, ◌⊎◌, ◌+◌, ℕ, List, ◌++◌}
use Rattle.lr_bits.specs.Faults.{Rose}
use Rattle.lr_bits.specs.Telling.{KeepsTelling}
use Rattle.lr_io.specs.Pieces.{PutsPart}
use Rattle.lr_forms.specs.declared.forms.Input.{Input}
use Rattle.lr_forms.specs.declared.forms.Stop.{Stop}
use Rattle.lr_forms.specs.declared.forms.Stop.TheVariants.{End, Limit, Fault}
use Rattle.lr_causes.specs.declared.cause.Cause.{Cause}
use Rattle.lr_causes.specs.declared.cause.Cause.TheVariants.{Done, Failed, NoMemory}
use Rattle.lr_causes.specs.declared.cause.Party.TheVariants.{Source, Output}
use Rattle.lr_causes.specs.Outside.{Pipe, PipeOf}
use Rattle.lr_causes.specs.Puts.{GotFirst, PutsPrefix}
use Rattle.lr_reading.specs.Readers.{HaveCome, Leeway, MayWait}
use Rattle.lr_reading.specs.Reading.{IsRead, EndsFor, WhenLastAsked}

-- What a command prints: its lines of the bytes read, those of the first windows, blocks or frames of them, and its
-- last line. And what it reads for that: the form of its input, how many frames may wait, and the most bytes
pub record Printed : Type 0 where
  pub lines : List ℕ → List ℕ
  pub first : List ℕ → (count : ℕ) → List ℕ
  pub last : List ℕ → Stop → List ℕ
  pub input : Input
  pub leeway : Leeway
  pub limit : ℕ

-- As the source is asked, which gave these bytes in these pieces: it is so of the lines of those that count, but for
-- the few that may wait.
abbrev pub AreSoInTime : Printed → (List ℕ → Type 0) → List ℕ → List (List ℕ) → Type 0
AreSoInTime printed IsSo given pieces =
    (count few : ℕ) → MayWait printed.input printed.leeway given pieces few
    → HaveCome printed.input printed.leeway.tail given (count + few) → IsSo (printed.first given count)

module _ {S O : Type 0} (world : PipeOf S O) (printed : Printed) where
  -- all lines of the bytes read were put, and the last line
  pub record PrintsAll (stop : Stop) (w w' : Pipe S O) : Type 0 where
    pub bytes : List ℕ
    pub read : IsRead world.source printed.limit bytes w.source w'.source
    pub reason : EndsFor world.source stop printed.limit bytes w.source w'.source
    pub tell : KeepsTelling (world.out.tells w.out) (world.out.tells w'.out)
    pub put : world.out.tells w.out
        → world.out.contents w'.out ≡ world.out.contents w.out ++ (printed.lines bytes ++ printed.last bytes stop)
    pub out_count : world.out.faults w'.out ≡ world.out.faults w.out

  -- No line of these bytes was put off. However the call ended, the lines are put of all but the last few, and of those
  -- that as many symbols or bytes follow as `ahead` says. And no line waited for the source, as `AreSoInTime` says
  pub record PutsNoLineOff (bytes : List ℕ) (w w' : Pipe S O) : Type 0 where
    pub timely : (count : ℕ) → HaveCome printed.input 0 bytes (count + printed.leeway.at_end)
        → GotFirst world.out (printed.first bytes count) w.out w'.out
    pub timely_in_bytes : (count : ℕ) → HaveCome printed.input printed.leeway.ahead bytes count
        → GotFirst world.out (printed.first bytes count) w.out w'.out
    pub in_time : WhenLastAsked world.source
        (AreSoInTime printed (λ text. GotFirst world.out text w.out w'.out)) bytes w.source w'.source

  -- `out` failed in a line of the bytes read: a prefix of their lines was put, and not all of it
  pub record CutInLines (w w' : Pipe S O) : Type 0 where
    pub bytes : List ℕ
    pub read : IsRead world.source printed.limit bytes w.source w'.source
    pub tell : KeepsTelling (world.out.tells w.out) (world.out.tells w'.out)
    pub part : world.out.tells w.out
        → PutsPart (printed.lines bytes) (world.out.contents w.out) (world.out.contents w'.out)
    pub keeps_up : PutsNoLineOff bytes w w'
    pub rose : Rose (world.out.faults w.out) (world.out.faults w'.out)

  -- `out` failed in the last line: all lines were put, and then a prefix of the last one that isn't all of it
  pub record CutInLast (w w' : Pipe S O) : Type 0 where
    pub bytes : List ℕ
    pub stop : Stop
    pub read : IsRead world.source printed.limit bytes w.source w'.source
    pub reason : EndsFor world.source stop printed.limit bytes w.source w'.source
    pub tell : KeepsTelling (world.out.tells w.out) (world.out.tells w'.out)
    pub part : world.out.tells w.out
        → PutsPart (printed.last bytes stop) (world.out.contents w.out ++ printed.lines bytes)
        (world.out.contents w'.out)
    pub rose : Rose (world.out.faults w.out) (world.out.faults w'.out)

  -- memory was refused: a prefix of the lines of the bytes read was put, and nothing of the last line
  pub record StopsForMemory (w w' : Pipe S O) : Type 0 where
    pub bytes : List ℕ
    pub read : IsRead world.source printed.limit bytes w.source w'.source
    pub tell : KeepsTelling (world.out.tells w.out) (world.out.tells w'.out)
    pub front : world.out.tells w.out
        → PutsPrefix (printed.lines bytes) (world.out.contents w.out) (world.out.contents w'.out)
    pub keeps_up : PutsNoLineOff bytes w w'
    pub out_count : world.out.faults w'.out ≡ world.out.faults w.out

  -- how such a command ends, for each cause that it may have
  abbrev pub Prints : Cause → Pipe S O → Pipe S O → Type 0
  Prints Done w w' = PrintsAll End w w' ⊎ PrintsAll Limit w w'
  Prints (Failed Source) w w' = PrintsAll Fault w w'
  Prints (Failed Output) w w' = CutInLines w w' ⊎ CutInLast w w'
  Prints NoMemory w w' = StopsForMemory w w'
  Prints _ w w' = ⊥
