use Rattle.std.proofs.Common.{take}
use Rattle.lr_cmd_receive.specs.Noted.{noted_with}
use Rattle.lr_cmd_receive.specs.Shelved.{HasShelved, shelf_in}
use Rattle.lr_causes.specs.Outside.{outlets, outlets_of}
use Rattle.lr_cmd_receive.proofs.shelve.shelve_all.Given as goal

abbrev pub invariant-loop-place : goal.invariant-loop-place
invariant-loop-place g l = record {
  so_far : HasShelved (outlets_of g.D.Disk g.O.Sink) (take l.place (noted_with l.files l.fillers))
      (shelf_in l.fn.shelf (outlets l.fn.disk l.fn.out)) (shelf_in l.shelf (outlets l.disk l.out));
}
