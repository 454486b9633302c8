-- Where few frames may wait, more may.
use Rattle.std.proofs.Common.{◌+◌, ℕ, List, Option, Some, None, inl, inr, ⊎_elim}
use Rattle.lr_causes.specs.Outside.{Outside, World, outlets_in, world_outlets, world_pipe, pipe_in}
use Rattle.lr_cmd_print.specs.Decode.{decode_printed}
use Rattle.lr_cmd_print.proofs.Lines.{prints_loosely}
use Rattle.lr_causes.specs.declared.cause.Cause.{Cause}
use Rattle.lr_forms.specs.declared.forms.Input.{Input}
use Rattle.lr_reading.specs.Readers.{leeway_for}
use Rattle.lr_reading.proofs.Asking.{when_too}
use Rattle.lr_reading.proofs.Leeways.{IsStricter, ahead_too, at_end_too, stricter_alone, tail_too, wait_too}
use Rattle.lr_cmd_receive.specs.Receive.{AreInTime, PutsNoFileOff, ReceiveRun, Receives, Run, receive_query}
use Rattle.lr_shelf.specs.InitialShelves.{InitialShelf}
use Rattle.lr_station.specs.Effects.{IsKnownAlone, alone}
use Rattle.lr_station.specs.Runs.{Runs}
use Rattle.lr_words.specs.Commands.{IsInRange}
use Rattle.lr_words.specs.declared.command.Command.{Command}
use Rattle.lr_words.specs.declared.command.Command.TheVariants.{Downlinks, Intake}
use Rattle.lr_words.specs.declared.command.IntakeAction.TheVariants.{Decode, Receive}

-- the run, where this many work
abbrev run_by : (mend : ℕ) → Input → (limit workers : ℕ) → InitialShelf → List ℕ → Run
run_by mend input limit workers initial bytes = record {
  asked = receive_query mend input workers limit;
  initial = initial;
  bytes = bytes;
}

module _ {S D O : Type 0} {world : World S D O} {mend : ℕ} {input : Input} {w w' : Outside S D O}
    {few many limit : ℕ} (is : IsStricter (leeway_for input few) (leeway_for input many)) where
  fewer_wait : {initial : InitialShelf} {bytes : List ℕ}
      → PutsNoFileOff world (run_by mend input limit few initial bytes) w w'
      → PutsNoFileOff world (run_by mend input limit many initial bytes) w w'
  fewer_wait {initial} {bytes} keeps = record {
    timely = λ count come. keeps.timely count (at_end_too input is bytes count come);
    timely_in_bytes = λ count come. keeps.timely_in_bytes count (ahead_too input is bytes count come);
    in_time = when_too world.source
        (AreInTime (world_outlets world) (run_by mend input limit few initial bytes) (outlets_in w) (outlets_in w'))
        (AreInTime (world_outlets world) (run_by mend input limit many initial bytes) (outlets_in w) (outlets_in w'))
        bytes
        w.source w'.source (λ given pieces due count wait may have. due count wait
        (wait_too input is given pieces wait may) (tail_too input is given (count + wait) have)) keeps.in_time;
  }

  -- what was there is the same for both
  same_onto : {cause : Cause} {initial : InitialShelf} {bytes : List ℕ}
      → Receives world (run_by mend input limit few initial bytes) cause w w'
      → Receives world (run_by mend input limit many initial bytes) cause w w'
  same_onto onto = record {
    held = onto.held;
    any_moment = onto.any_moment;
    stops = λ undone. ⊎_elim (λ shelving. inl shelving)
        (λ last. inr (last.0, record { stop = last.1.stop; reason = last.1.reason; part = last.1.part }, last.2))
        (onto.stops undone);
    complete = onto.complete;
  }

  pub run_within : {cause : Cause} → ReceiveRun world (receive_query mend input few limit) cause w w'
      → ReceiveRun world (receive_query mend input many limit) cause w w'
  run_within {cause} run = record {
    causes = run.causes;
    counted = run.counted;
    tell = run.tell;
    bytes = run.bytes;
    read = run.read;
    onto = record {
      way = λ way told is only. same_onto (run.onto.way way told is only);
      keeps_up = λ initial told stands only. fewer_wait (run.onto.keeps_up initial told stands only);
    };
    ended = λ done.
        let ended = run.ended done in
        record {
          stop = ended.stop;
          is = ended.is;
          reason = ended.reason;
          number = ended.number;
          got = ended.got;
          numbered = ended.numbered;
          stand = ended.stand;
        };
    stopped = λ undone.
        let stopped = run.stopped undone in
        record {
          number = stopped.number;
          lines = ⊎_elim (λ lines. inl lines)
              (λ last. inr (last.0, record { stop = last.1.stop; reason = last.1.reason; part = last.1.part }))
              stopped.lines;
          numbered = stopped.numbered;
        };
    wants = run.wants;
    capacity = record { full = run.capacity.full; nothing_fits = run.capacity.nothing_fits };
    alone = record { only_read = run.alone.only_read; silent = run.alone.silent; unasked = run.alone.unasked };
    writes = run.writes;
  }

-- ---- what is run on the caller's thread alone, whatever W the words give

module _ {S D O : Type 0} (world : World S D O) (cause : Cause) (w w' : Outside S D O) where
  -- it does what the command does, but for `downlinks`
  pub from_alone : (command : Option Command) → IsKnownAlone command → IsInRange command
      → Runs world (alone command) cause w w' → Runs world command cause w w'
  from_alone None known range run = run
  from_alone (Some command) known range run = by command known range run where
    by : (command : Command) → IsKnownAlone (Some command) → IsInRange (Some command)
        → Runs world (alone (Some command)) cause w w' → Runs world (Some command) cause w w'
    by (Downlinks line) known range run = absurd known
    by (Intake (Receive mend) input workers most) known range run =
        run_within (stricter_alone input workers range.2.0) run
    by (Intake Decode input workers most) known range run = (
      run.0,
      prints_loosely (world_pipe world) (decode_printed input 1 most) (leeway_for input workers)
          (stricter_alone input workers range.2.0) (pipe_in w) (pipe_in w') cause run.1,
    )
    by _ known range run = run
