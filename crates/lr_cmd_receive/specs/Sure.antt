-- The source and the sink of a trial, which never fail. A closure's clause names them by these words.
-- No clause of a public call cites this.
use Rattle.std.specs.Prelude.{[]}
use Rattle.lr_io.specs.SureSource.{left_of}
use Rattle.lr_io.specs.declared.sink.Sink.{Ghosts as SinkOf}
use Rattle.lr_io.specs.declared.sink.SureSink.{SureSink}
use Rattle.lr_io.specs.declared.source.Source.{Ghosts as SourceOf}
use Rattle.lr_io.specs.declared.source.SureSource.{SureSource}

-- it tells the bytes that are left
abbrev pub sure_source : SourceOf SureSource
sure_source = record {
  faults = λ _. 0;
  tells = λ _. Unit {0};
  left = left_of;
  asked = λ _ _ _. Unit {0};
}

-- it tells nothing
abbrev pub sure_sink : SinkOf SureSink
sure_sink = record { faults = λ _. 0; tells = λ _. ⊥; contents = λ _. [] }
