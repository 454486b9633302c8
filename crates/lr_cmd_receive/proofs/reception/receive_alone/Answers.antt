use Rattle.std.proofs.Common.{rules, ap, sym}
use Rattle.lr_reading.specs.Readers.{ReaderView}
use Rattle.lr_cmd_receive.proofs.Loading.{not_made}
use Rattle.lr_causes.specs.Outside.{outside, world_of}
use Rattle.lr_cmd_receive.specs.Receive.{receive_query}
use Rattle.lr_cmd_receive.proofs.reception.receive_alone.Goals as goal

pub returns-in-Err : goal.returns-in-Err
returns-in-Err g c =
    not_made (world_of g.S.Source g.D.Disk g.O.Sink) g.met.D.Disk.only_now
    (receive_query c.args.mend c.args.input 1 c.args.most)
    (outside c.args.source.now c.args.disk.now c.args.out.now)
    (g.met.D.Disk.reads_none c.args.disk.now)

pub returns : goal.returns
returns g c = c.receive_with.ensures c.args.input 1 c.args.most (
    rw (
      sym (ap (λ (r : ReaderView). r.input) c.in-Ok.ensures),
      sym (ap (λ (r : ReaderView). r.most) c.in-Ok.ensures),
      sym (ap (λ (r : ReaderView). r.workers) c.in-Ok.ensures),
    )
    (search rules))
