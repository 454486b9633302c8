use Rattle.std.proofs.Common.{rules, refl, subst, sym}
use Rattle.lr_causes.specs.Puts.{Puts}
use Rattle.lr_cmd_print.specs.Packets.{packets_text}
use Rattle.std.proofs.lemmas.Result.{err_from_is_err_and}
use Rattle.lr_cmd_print.proofs.PacketsGoOn.{packets_begun, all_packets, some_packets}
use Rattle.lr_cmd_print.proofs.packet_lines.put_each_packet.Goals as goal

pub read_alone-requires-clause-ready : goal.read_alone-requires-clause-ready
read_alone-requires-clause-ready g c κs within = (_, packets_begun g.O.Sink _ c.new-channels.ensures refl refl)

pub returns-in_err-totals-clause-stopped : goal.returns-in_err-totals-clause-stopped
returns-in_err-totals-clause-stopped g c =
    let p = err_from_is_err_and c.from_residual.result c.from_residual.ensures.1 in
    let t = some_packets g.O.Sink g.S.Source c.args.reader.most
    (packets_begun g.O.Sink _ c.new-channels.ensures refl refl) _
    (rw c.requires.input at c.in_err-totals.ensures) in
    let same = t.0 in
    let stops = t.1 in
    rw (p.1, p.2) (search rules)

pub returns-clause-all : goal.returns-clause-all
returns-clause-all g c =
    let t = all_packets g.O.Sink g.S.Source c.args.reader.most
    (packets_begun g.O.Sink _ c.new-channels.ensures refl refl)
    (rw c.requires.input at c.in_ok-totals.ensures) in
    let all = t.1 in (
      all.0,
      all.1,
      all.2,
      subst (λ o. Puts g.O.Sink (packets_text all.0) c.args.out.now o) (sym (c.out-2-1.given.1 (sym t.0))) all.3,
      all.4,
    )
