-- How far `decode` has come. No clause of a public call cites this.
use Rattle.std.specs.Prelude.{◌≡◌, List, length, count_by}
use Rattle.lr_io.specs.declared.sink.Sink.{Ghosts as SinkOf}
use Rattle.lr_bits.specs.Outcomes.{is_restored}
use Rattle.lr_causes.specs.declared.cause.Cause.{Cause}
use Rattle.lr_causes.specs.Puts.{Puts}
use Rattle.lr_reading.specs.Arrivals.{outcomes_of_arrivals}
use Rattle.lr_reading.specs.declared.arrival.Arrival.{Arrival}
use Rattle.lr_cmd_print.specs.declared.outcome_lines.OutcomeLines.{OutcomeLines}
use Rattle.lr_cmd_print.specs.OutcomeLines.{text_of_outcomes}
use Rattle.lr_cmd_print.specs.Progress.{LinesStop, PutsButLast}

module _ {O : Type 0} (out : SinkOf O) where
  -- the lines of these outcomes were put, and those that are restored counted
  pub record OutcomesTook (before : OutcomeLines O) (arrivals : List Arrival)
      (now : OutcomeLines O) : Type 0 where
    pub same_out : now.out.ghost_name ≡ before.out.ghost_name
    pub count : now.outcomes ≡ length arrivals
    pub restored : now.restored ≡ count_by is_restored (outcomes_of_arrivals arrivals)
    pub put : Puts out (text_of_outcomes arrivals) before.out.now now.out.now

  -- they were not all put
  pub record OutcomesStopped (before : OutcomeLines O) (arrivals : List Arrival) (cause : Cause)
      (now : OutcomeLines O) : Type 0 where
    pub same_out : now.out.ghost_name ≡ before.out.ghost_name
    pub stops : LinesStop out (text_of_outcomes arrivals) cause before.out.now now.out.now
    pub others : PutsButLast out text_of_outcomes arrivals before.out.now now.out.now
