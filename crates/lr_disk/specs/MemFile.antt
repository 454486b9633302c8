-- A disk in memory as a file.
use Rattle.std.specs.Prelude.{ℕ}
use Rattle.lr_disk.specs.declared.mem.MemDisk.{MemDisk}
use Rattle.lr_disk.specs.declared.mem_file.MemFile.{MemFile}

-- the disk
abbrev pub disk_in : MemFile → MemDisk
disk_in file = file.disk

-- how many bytes a call moves at most
abbrev pub most_moved : MemFile → ℕ
most_moved file = file.most
