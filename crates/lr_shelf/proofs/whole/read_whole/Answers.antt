use Rattle.lr_shelf.proofs.WholeReading.{none_closed, none_short, read_there}
use Rattle.lr_shelf.proofs.whole.read_whole.Goals as goal
use Rattle.lr_shelf.proofs.whole.read_whole.Goals.{then-read-size-via-then-read-size}
use Rattle.lr_shelf.proofs.whole.read_whole.Goals.{then-read-size-via-else-read-size+then-buffer-ne-OPEN_GATE}

pub returns-then-read-size-clause-whole : goal.returns-then-read-size-clause-whole
returns-then-read-size-clause-whole g c told has =
    let bytes = g.D.Disk.contents c.args.disk.now in
    let buffer = c.read_front.new.buffer in
    let read = c.in_ok-read.ensures in
    elim c.then-read-size.branch [
      | then-read-size-via-then-read-size w ↦
          none_short bytes c.args.entry buffer c.in_ok-read.read (read.count told) (read.bytes told)
          w.if-read-size.true has
      | then-read-size-via-else-read-size+then-buffer-ne-OPEN_GATE w ↦
          none_closed bytes c.args.entry buffer c.in_ok-read.read (read.count told) (read.bytes told)
          w.if-read-size.false w.if-buffer-ne-OPEN_GATE.true has
    ]

pub returns-clause-whole : goal.returns-clause-whole
returns-clause-whole g c told =
    let read = c.in_ok-read.ensures in
    read_there (g.D.Disk.contents c.args.disk.now) c.args.entry c.read_front.new.buffer c.in_ok-read.read
    (read.count told) (read.bytes told) read.fit c.if-read-size.false c.if-buffer-ne-OPEN_GATE.false
