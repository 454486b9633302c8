use Rattle.std.proofs.Common.{◌≡◌, ◌+◌, ◌-◌, ◌≤◌, ◌<◌, length, take, min}
use Rattle.lr_bits.specs.Telling.{KeepsTelling}
use Rattle.lr_disk.specs.Disk.{Elapses, FollowsWrite, KeepsImages, Torn, Written}
use Rattle.lr_disk.proofs.file.write_whole.Given as goal

abbrev pub invariant-loop-done : goal.invariant-loop-done
invariant-loop-done g l =
    let file = g.F.RandomAccessFile in
    let old = l.fn.file in
    record {
      within : l.done ≤ length l.bytes;
      tell : KeepsTelling (file.tells old) (file.tells l.file);
      errors : file.tells old → file.errors l.file ≡ file.errors old;
      none : file.tells old → l.done ≡ 0 → file.contents l.file ≡ file.contents old;
      some : file.tells old → 0 < l.done
          → Written l.at (take l.done l.bytes) (file.contents old) (file.contents l.file);
      crash : file.tells old → FollowsWrite (Torn (min l.at (length (file.contents old))) (l.at + length l.bytes))
          (file.may_leave old) (file.may_leave l.file);
      kept : file.tells old → KeepsImages (file.may_leave old) (file.may_leave l.file);
      time : file.tells old → Elapses (file.moment old) (file.moment l.file)
          (file.left_since old) (file.left_since l.file) (file.may_leave l.file);
    }

abbrev pub decreases-loop-done : goal.decreases-loop-done
decreases-loop-done g l = length l.initial.bytes - l.done
