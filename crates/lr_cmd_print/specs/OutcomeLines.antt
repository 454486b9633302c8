-- The lines of outcomes that come one after another. No clause of a public call cites this.
use Rattle.std.specs.Prelude.{ℕ, Option, Some, None, List}
use Rattle.lr_bits.specs.declared.outcome.Outcome.{Outcome}
use Rattle.lr_catalog.specs.Outcomes.{block_line, window_line}
use Rattle.lr_reading.specs.Lines.{numbered_lines}
use Rattle.lr_reading.specs.declared.arrival.Arrival.{Arrival}
use Rattle.lr_reading.specs.declared.arrival.Position.{Position}

-- the line of a window, which has a place among the symbols, or of a block
abbrev pub outcome_text : ℕ → Option Position → Outcome → List ℕ
outcome_text place (Some position) outcome =
    window_line place position.place position.positive outcome
outcome_text place None outcome = block_line place outcome

abbrev pub text_of_outcomes : List Arrival → List ℕ
text_of_outcomes arrivals =
    numbered_lines (λ place (arrival : Arrival).
    outcome_text place arrival.position arrival.outcome) 0 arrivals
