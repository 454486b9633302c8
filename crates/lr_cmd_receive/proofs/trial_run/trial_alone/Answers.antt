use Rattle.std.proofs.Common.{rules, ap, sym}
use Rattle.lr_reading.specs.Readers.{ReaderView}
use Rattle.lr_cmd_receive.proofs.trial_run.trial_alone.Goals as goal

pub trial_with-requires-clause-leads : goal.trial_with-requires-clause-leads
trial_with-requires-clause-leads g c = (
  c.in-Ok.reader.workers,
  rw (
    sym (ap (λ (r : ReaderView). r.input) c.in-Ok.ensures),
    sym (ap (λ (r : ReaderView). r.most) c.in-Ok.ensures),
  )
      (search rules),
)
