use Rattle.std.proofs.Common.{◌≤◌, ap, sym, subst, arith, List, [], ℕ, length}
use Rattle.lr_shelf_format.specs.ShelfBytes.{end_of}
use Rattle.lr_shelf.specs.InitialShelves.{with_files}
use Rattle.lr_refusals.proofs.Answering.{given, refused}
use Rattle.lr_cmd_receive.specs.Trial.{trial_capacity, trial_files}
use Rattle.lr_cmd_receive.proofs.Fitting.{made_length, made_files_fit}
use Rattle.lr_cmd_receive.proofs.TrialEnding.{init_stops, filled, withdrawn}
use Rattle.lr_cmd_receive.proofs.trial_run.trial_with.Goals as goal

pub fill-requires-clause-few : goal.fill-requires-clause-few
fill-requires-clause-few g c =
    omega (
      arith,
      c.requires.few,
      ap length c.in-Ok.ensures.bytes,
      made_length c.args.made.start c.args.made.wrong
          c.args.made.frames,
    )

pub fill-requires-clause-fit : goal.fill-requires-clause-fit
fill-requires-clause-fit g c =
    subst (λ (l : List ℕ). end_of (with_files [] (trial_files l)) ≤ trial_capacity)
    (sym c.in-Ok.ensures.bytes)
    (made_files_fit c.args.made.start c.args.made.wrong c.args.made.frames c.requires.few c.in-Ok.ensures.received)

pub returns-in-Err-shelf_answer : goal.returns-in-Err-shelf_answer
returns-in-Err-shelf_answer g c =
    let so = refused c.init.result c.shelf_answer.result c.shelf_answer.ensures c.in-Err-shelf_answer.cause
    c.in-Err-shelf_answer.is in
    rw (sym c.in-Ok.ensures.bytes, so.2)
    (init_stops g.D.Disk g.O.Sink c.in-Ok.symbols.items c.args.disk.now c.init.new.disk c.args.out.now c.init.result
    c.init.ensures so.0 so.1)

pub returns-in-NoMemory : goal.returns-in-NoMemory
returns-in-NoMemory g c =
    rw (sym c.in-Ok.ensures.bytes)
    (withdrawn g.D.Disk g.O.Sink c.in-Ok.symbols.items c.args.disk.now c.init.new.disk c.args.out.now c.init.result
    c.init.ensures (given c.init.result c.shelf_answer.result c.shelf_answer.ensures tt
    c.in-Ok-shelf_answer.is) c.fill.new.disk c.fill.new.out c.in-NoMemory.ensures _ _ c.withdraw.ensures.kind
    c.withdraw.ensures.tell.told c.withdraw.ensures.tell.untold c.withdraw.ensures.first c.withdraw.ensures.ends
    c.withdraw.ensures.left c.withdraw.ensures.any_moment)

pub returns-in_default : goal.returns-in_default
returns-in_default g c =
    rw (sym c.in-Ok.ensures.bytes)
    (filled g.D.Disk g.O.Sink c.in-Ok.symbols.items c.args.disk.now c.init.new.disk c.args.out.now c.init.result
    c.init.ensures (given c.init.result c.shelf_answer.result c.shelf_answer.ensures tt
    c.in-Ok-shelf_answer.is) c.fill.new.disk c.fill.new.out c.fill.result c.fill.ensures
    c.in_default.not-NoMemory)
