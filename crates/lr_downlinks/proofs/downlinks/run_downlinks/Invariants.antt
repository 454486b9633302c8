use Rattle.std.proofs.Common.{◌≡◌}
use Rattle.lr_shelf.specs.Kept.{kept_by}
use Rattle.lr_downlinks.proofs.downlinks.run_downlinks.Given as goal

-- what the run begins with
abbrev pub ghosts-run_named : goal.ghosts-run_named
ghosts-run_named g a = record {
  start = record {
    streams = a.bundle.now;
    line = a.line;
    disk = a.lent.disk.ghost_name;
    way = (kept_by a.shelf).way;
  };
  handed = λ shelf d. (shelf ≡ a.shelf) × (d ≡ a.lent.disk.now);
}
