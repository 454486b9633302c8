use Rattle.std.proofs.Common.{rules, ap, sym}
use Rattle.lr_reading.specs.Readers.{ReaderView}
use Rattle.lr_cmd_print.specs.Decode.{decode_printed}
use Rattle.lr_cmd_print.proofs.DecodeText.{none_first}
use Rattle.lr_cmd_print.proofs.Lines.{none_read}
use Rattle.lr_cmd_print.proofs.outcome_lines.decode_alone.Goals as goal

pub returns-in-Err : goal.returns-in-Err
returns-in-Err g c =
    none_read g.S.Source g.O.Sink (decode_printed c.args.input 1 c.args.most) (none_first c.args.input)
    c.args.source.now c.args.out.now

pub decode_with-requires-clause-leads : goal.decode_with-requires-clause-leads
decode_with-requires-clause-leads g c = (
  c.in-Ok.reader.workers,
  rw (
    sym (ap (λ (r : ReaderView). r.input) c.in-Ok.ensures),
    sym (ap (λ (r : ReaderView). r.most) c.in-Ok.ensures),
  )
      (search rules),
)
