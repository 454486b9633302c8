-- What a trial comes to, by what became of its receiving.
use Rattle.std.proofs.Common.{◌≡◌, ℕ, List, [], refl, sym, ap, subst, arith, append-nil}
use Rattle.lr_bits.proofs.Telling.{tells_still}
use Rattle.lr_io.specs.declared.sink.Sink.{Ghosts as SinkOf}
use Rattle.lr_disk.specs.declared.disk.Disk.{Ghosts as DiskOf}
use Rattle.lr_forms.specs.declared.forms.Stop.TheVariants.{End}
use Rattle.lr_causes.specs.declared.cause.Cause.{Cause}
use Rattle.lr_causes.specs.declared.cause.Cause.TheVariants.{Done, Failed, NoMemory, Refused}
use Rattle.lr_causes.specs.declared.cause.Party.TheVariants.{Source, Disk, Output}
use Rattle.lr_cmd_receive.specs.declared.receive_counts.ReceiveCounts.{ReceiveCounts}
use Rattle.lr_cmd_receive.specs.declared.test_stream.TheConstants.{TEST_DECODING}
use Rattle.lr_forms.specs.declared.forms.Input.TheVariants.{Symbols}
use Rattle.lr_causes.specs.Causes.{counts}
use Rattle.lr_cmd_receive.specs.Receive.{receive_last}
use Rattle.lr_cmd_receive.specs.Reception.{sums_line, PutsLast, LastStops}
use Rattle.lr_cmd_receive.specs.Shelved.{StopsTrial}
use Rattle.lr_cmd_receive.specs.Trial.{HoldsTrialPart, OutEnds, trial_files}
use Rattle.lr_cmd_receive.specs.Filling.{FillEnds, FillsDisk, Fills, StopsFilling}
use Rattle.lr_causes.specs.Puts.{PutFails, Puts}
use Rattle.lr_causes.proofs.Counting.{counts_tell}
use Rattle.lr_cmd_receive.proofs.Causing.{first_disk, first_out, first_stays}
use Rattle.lr_causes.specs.Counts.{CountsTell}
use Rattle.lr_cmd_receive.specs.First.{SourceBesides}
use Rattle.lr_causes.specs.Outside.{outlets, outlets_of}

module _ {D O : Type 0} (disk : DiskOf D) (out : SinkOf O) (symbols : List ℕ) (d d' : D) (o o' : O)
    (done : FillsDisk disk symbols Done d d') where
  all_held : disk.tells d → HoldsTrialPart disk symbols 0 d'
  all_held told =
      let durable = done.ends.0 told in
      let files = trial_files symbols in
      record {
        contents = record {
          first = files;
          rest = [];
          split = sym (append-nil files);
          enough = omega arith;
          stands = durable.stands;
        };
        images = durable.durable;
      }

  left_by : (cause : Cause) → FillEnds disk symbols cause d d' → FillsDisk disk symbols cause d d'
  left_by cause ends = record {
    tell = done.tell;
    ends = ends;
    got = done.got;
    any_moment = done.any_moment;
  }

  module _ (sums : ReceiveCounts) (line : sums_line sums ≡ receive_last 0 (Symbols TEST_DECODING) symbols End) where
    pub last_stops : (cause : Cause) → LastStops out sums cause o o'
        → Fills (outlets_of disk out) symbols cause (outlets d o) (outlets d' o')
    last_stops (Failed Output) stops = record {
      on_disk = left_by (Failed Output) done.ends.0;
      on_out = subst (λ (l : List ℕ). PutFails out l o o') line stops;
      by_out = stops.tell;
      first = first_out 0 0 (disk.faults d) (disk.faults d') (out.faults o) (out.faults o') stops.rose done.ends.1;
    }
    last_stops NoMemory stops = record {
      on_disk = left_by NoMemory all_held;
      on_out = stops;
      by_out = record { told = λ t. subst out.tells (sym stops) t; untold = λ t. subst out.tells stops t };
      first = first_stays NoMemory 0 0 (disk.faults d) (disk.faults d') (out.faults o) (out.faults o') tt tt
          done.ends.1 (ap out.faults stops);
    }
    last_stops _ stops = absurd stops

    -- it was
    pub last_put : PutsLast out sums o o' → Fills (outlets_of disk out) symbols Done (outlets d o) (outlets d' o')
    last_put puts = record {
      on_disk = done;
      on_out = subst (λ (l : List ℕ). Puts out l o o') line puts;
      by_out = puts.tell;
      first = counts_tell SourceBesides Done (counts 0 (disk.faults d) (out.faults o))
          (counts 0 (disk.faults d') (out.faults o')) tt (λ not none. refl) (λ not none. done.ends.1)
          (λ not none. puts.kept);
    }

-- it wasn't composed, since the trial stopped before
module _ {D O : Type 0} (disk : DiskOf D) (out : SinkOf O) (symbols : List ℕ) (d d' : D) (o : O) where
  silent : (cause : Cause) → StopsTrial cause → OutEnds out symbols cause o o
  silent Done stops = absurd stops
  silent (Failed Source) stops = absurd stops
  silent (Failed Output) stops = absurd stops
  silent (Failed Disk) stops = refl
  silent _ stops = refl

  beside_out : (cause : Cause) → StopsTrial cause
      → CountsTell SourceBesides cause (counts 0 (disk.faults d) 0) (counts 0 (disk.faults d') 0)
      → CountsTell SourceBesides cause (counts 0 (disk.faults d) (out.faults o))
      (counts 0 (disk.faults d') (out.faults o))
  beside_out Done stops first = absurd stops
  beside_out (Failed Source) stops first = absurd stops
  beside_out (Failed Output) stops first = absurd stops
  beside_out (Failed Disk) stops first =
      first_disk 0 0 (disk.faults d) (disk.faults d') (out.faults o) (out.faults o) first.named refl
  beside_out NoMemory stops first =
      first_stays NoMemory 0 0 (disk.faults d) (disk.faults d') (out.faults o) (out.faults o) tt tt
      (first.others Disk (λ is. cc (is)) (λ b. b)) refl
  beside_out (Refused refusal) stops first =
      first_stays (Refused refusal) 0 0 (disk.faults d) (disk.faults d') (out.faults o) (out.faults o) tt tt
      (first.others Disk (λ is. cc (is)) (λ b. b)) refl
  beside_out _ stops first = absurd stops

  pub stream_stops : (cause : Cause) → StopsFilling disk symbols cause d d'
      → Fills (outlets_of disk out) symbols cause (outlets d o) (outlets d' o)
  stream_stops cause stops = record {
    on_disk = stops.fills;
    on_out = silent cause stops.kind;
    by_out = tells_still;
    first = beside_out cause stops.kind stops.first;
  }
