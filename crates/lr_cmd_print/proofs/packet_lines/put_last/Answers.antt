use Rattle.std.proofs.Common.{◌≡◌, ◌++◌, List, ℕ, IfOk, IfErr, subst, ap, ◌∙◌}
use Rattle.lr_catalog.specs.declared.summary.Summary.TheVariants.{Packets}
use Rattle.lr_catalog.specs.Summaries.{summary_line}
use Rattle.lr_cmd_print.specs.Packets.{packets_count}
use Rattle.lr_causes.specs.Puts.{Puts, PutStops}
use Rattle.lr_cmd_print.proofs.PacketsCounted.{counted_line}
use Rattle.lr_cmd_print.proofs.packet_lines.put_last.Goals as goal

pub returns-clause-put : goal.returns-clause-put
returns-clause-put g c =
    λ frames all.
    let totals = c.args.totals.now in
    let counted = c.args.counted in
    let line : c.as_slice.result.now ≡ packets_count frames totals.frames totals.left totals.stop =
    c.as_slice.ensures ∙ c.in_ok-summary_line.ensures.ok
    ∙ ap (λ l. l ++ summary_line (Packets totals.frames counted.packets counted.good totals.left)
    totals.stop) c.new-line.ensures
    ∙ counted_line counted frames totals.frames totals.left totals.stop all in
    subst (λ (l : List ℕ). IfOk c.put_text.result (λ _. Puts g.O.Sink l c.args.out.now c.put_text.new.out)) line
    c.put_text.ensures.put

pub returns-clause-stopped : goal.returns-clause-stopped
returns-clause-stopped g c =
    λ frames all.
    let totals = c.args.totals.now in
    let counted = c.args.counted in
    let line : c.as_slice.result.now ≡ packets_count frames totals.frames totals.left totals.stop =
    c.as_slice.ensures ∙ c.in_ok-summary_line.ensures.ok
    ∙ ap (λ l. l ++ summary_line (Packets totals.frames counted.packets counted.good totals.left)
    totals.stop) c.new-line.ensures
    ∙ counted_line counted frames totals.frames totals.left totals.stop all in
    subst (λ (l : List ℕ). IfErr c.put_text.result
    (λ cause. PutStops g.O.Sink l cause c.args.out.now c.put_text.new.out)) line c.put_text.ensures.stopped
