-- A command that may not change the shelf only reads the disk.
use Rattle.std.proofs.Common.{◌≡◌, inl, inr, false, ℕ, List, Option, Some, None, refl, sym, subst}
use Rattle.lr_causes.specs.declared.cause.Cause.{Cause}
use Rattle.lr_causes.specs.Outside.{Outside, World}
use Rattle.lr_disk.specs.Reads.{IsOnlyRead}
use Rattle.lr_disk.proofs.Moments.{only_read_yet}
use Rattle.lr_words.specs.Commands.{command_of, may_write, writes_shelf}
use Rattle.lr_words.proofs.Writing.{only_writers}
use Rattle.lr_words.specs.declared.command.Command.{Command}
use Rattle.lr_words.specs.declared.command.Command.TheVariants.{Init, Frames, Intake, Downlinks}
use Rattle.lr_words.specs.declared.command.Command.TheVariants.{OnShelf, OnFile, Render, Assemble}
use Rattle.lr_words.specs.declared.command.Command.TheVariants.{Transmit, Repack, Make, Trial}
use Rattle.lr_words.specs.declared.command.FileAction.TheVariants.{Extract, Show, Export, Discard}
use Rattle.lr_words.specs.declared.command.FrameLines.TheVariants.{Frames as EachFrame, Packets as EachPacket}
use Rattle.lr_words.specs.declared.command.IntakeAction.TheVariants.{Decode, Receive}
use Rattle.lr_words.specs.declared.command.ShelfAction.TheVariants.{List as ListAll, Verify}
use Rattle.lr_station.specs.Effects.{alone, effect_of}
use Rattle.lr_station.specs.Runs.{HasEffect, RunsOrNot}

module _ {S D O : Type 0} (world : World S D O)
    (only_now : (d : D) (c : List ℕ) → world.disk.tells d → world.disk.left_since d (world.disk.moment d) c
    → world.disk.may_leave d c)
    (reads_none : (d : D) → world.disk.only_read d d) (cause : Cause) (w w' : Outside S D O) where
  -- a disk that is as it was
  untouched : w'.disk ≡ w.disk → IsOnlyRead world.disk w.disk w'.disk
  untouched same =
      subst (λ (d : D). IsOnlyRead world.disk w.disk d) (sym same)
      (only_read_yet world.disk only_now w.disk (reads_none w.disk))

  by_effect : (command : Command) → may_write command ≡ false → HasEffect world (effect_of command) cause w w'
      → IsOnlyRead world.disk w.disk w'.disk
  by_effect (Init capacity) still run = absurd (cc (still))
  by_effect (Frames EachFrame most) still run = untouched run.0
  by_effect (Frames EachPacket most) still run = untouched run.0
  by_effect (Intake Decode input workers most) still run = untouched run.0
  by_effect (Intake (Receive mend) input workers most) still run = absurd (cc (still))
  by_effect (Downlinks line) still run = absurd (cc (still))
  by_effect (OnShelf ListAll) still run = run.1.runs.only_read
  by_effect (OnShelf Verify) still run = run.1.runs.only_read
  by_effect (OnFile Extract number) still run = run.1.runs.only_read
  by_effect (OnFile Show number) still run = run.1.runs.only_read
  by_effect (OnFile Export number) still run = run.1.runs.only_read
  by_effect (OnFile Discard number) still run = absurd (cc (still))
  by_effect (Render workers) still run = run.1.runs.only_read
  by_effect (Assemble from to apid image) still run = run.1.runs.only_read
  by_effect (Transmit from to wrong line) still run = run.1.runs.only_read
  by_effect (Repack number block) still run = absurd (cc (still))
  by_effect (Make start frames wrong form) still run = untouched run.1
  by_effect (Trial start frames wrong workers) still run = absurd (cc (still))

  pub by_command : (command : Command) → may_write command ≡ false → RunsOrNot world (Some command) cause w w'
      → IsOnlyRead world.disk w.disk w'.disk
  by_command command still (inl run) = by_effect command still run
  by_command command still (inr stops) = untouched stops.disk_stays

  by_none : RunsOrNot world None cause w w' → IsOnlyRead world.disk w.disk w'.disk
  by_none (inl run) = untouched run.disk_stays
  by_none (inr stops) = untouched stops.disk_stays

  by_words : (words : List (List ℕ)) → writes_shelf words ≡ false → (command : Option Command)
      → command_of words ≡ command → RunsOrNot world command cause w w' → IsOnlyRead world.disk w.disk w'.disk
  by_words words still None is run = by_none run
  by_words words still (Some command) is run = by_command command (only_writers words still command is) run

  by_alone : (words : List (List ℕ)) → writes_shelf words ≡ false → (command : Option Command)
      → command_of words ≡ command → RunsOrNot world (alone command) cause w w' → IsOnlyRead world.disk w.disk w'.disk
  by_alone words still None is run = by_none run
  by_alone words still (Some (Downlinks line)) is run = by_none run
  by_alone words still (Some (Intake Decode input workers most)) is run =
      by_command (Intake Decode input 1 most) (only_writers words still (Intake Decode input workers most) is) run
  by_alone words still (Some (Intake (Receive mend) input workers most)) is run =
      let reads = only_writers words still (Intake (Receive mend) input workers most) is in
      absurd (cc (reads))
  by_alone words still (Some command) is run = by_command command (only_writers words still command is) run

  pub only_reads : (words : List (List ℕ)) → writes_shelf words ≡ false → RunsOrNot world (command_of words) cause w w'
      → IsOnlyRead world.disk w.disk w'.disk
  only_reads words still run = by_words words still (command_of words) refl run

  pub alone_reads : (words : List (List ℕ)) → writes_shelf words ≡ false
      → RunsOrNot world (alone (command_of words)) cause w w' → IsOnlyRead world.disk w.disk w'.disk
  alone_reads words still run = by_alone words still (command_of words) refl run
