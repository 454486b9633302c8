use Rattle.std.proofs.Common.{inl, inr, ⊎_elim, ◌∙◌}
use Rattle.lr_shelf_format.proofs.Results.{on_ok}
use Rattle.lr_cmd_receive.specs.Trial.{trial_capacity}
use Rattle.lr_cmd_receive.proofs.Withdrawing.{has_gate, stays, gone, cleared_moments, read_moments}
use Rattle.lr_cmd_receive.proofs.withdrawal.take_away.Goals as goal

pub returns-then-branch-clause-ends : goal.returns-then-branch-clause-ends
returns-then-branch-clause-ends g c told items durable =
    let read = c.in_ok-is_first_gate_open.ensures in
    let long = has_gate (g.D.Disk.contents c.args.disk.now) trial_capacity items durable.stands in
    stays g.D.Disk items c.args.disk.now c.is_first_gate_open.new.disk durable (read.reads.only_read.unwritten told)
    ((read.gate told long).0 c.if-branch.true)

pub returns-clause-ends : goal.returns-clause-ends
returns-clause-ends g c told items durable =
    let read = c.in_ok-is_first_gate_open.ensures in
    let long = has_gate (g.D.Disk.contents c.args.disk.now) trial_capacity items durable.stands in
    on_ok c.clear.result
    (gone g.D.Disk items c.args.disk.now c.is_first_gate_open.new.disk durable (read.reads.only_read.unwritten told)
    (λ is_open. cc (c.if-branch.false, (read.gate told long).1 is_open)) c.clear.new.disk)
    (c.clear.ensures.cleared (read.reads.tell.told told))

pub returns-clause-any_moment : goal.returns-clause-any_moment
returns-clause-any_moment g c told items durable =
    let read = c.in_ok-is_first_gate_open.ensures in
    let long = has_gate (g.D.Disk.contents c.args.disk.now) trial_capacity items durable.stands in
    cleared_moments g.D.Disk items c.args.disk.now c.is_first_gate_open.new.disk durable
    (read.reads.only_read.unwritten told)
    (λ is_open. cc (c.if-branch.false, (read.gate told long).1 is_open)) c.clear.new.disk
    (c.clear.ensures.any_moment (read.reads.tell.told told))

pub returns-in_err-is_first_gate_open-clause-left : goal.returns-in_err-is_first_gate_open-clause-left
returns-in_err-is_first_gate_open-clause-left g c told =
    inr (c.in_err-is_first_gate_open.ensures.reads.only_read.unwritten told).contents

pub returns-then-branch-clause-left : goal.returns-then-branch-clause-left
returns-then-branch-clause-left g c told =
    inr (c.in_ok-is_first_gate_open.ensures.reads.only_read.unwritten told).contents

pub returns-clause-left : goal.returns-clause-left
returns-clause-left g c told =
    let reads = c.in_ok-is_first_gate_open.ensures.reads in
    ⊎_elim (λ none. inl none) (λ same. inr (same ∙ (reads.only_read.unwritten told).contents))
    (c.clear.ensures.left (reads.tell.told told))

pub returns-in_err-is_first_gate_open-clause-any_moment : goal.returns-in_err-is_first_gate_open-clause-any_moment
returns-in_err-is_first_gate_open-clause-any_moment g c told items durable =
    read_moments g.D.Disk items c.args.disk.now c.is_first_gate_open.new.disk durable
    (c.in_err-is_first_gate_open.ensures.reads.only_read.unwritten told)

pub returns-then-branch-clause-any_moment : goal.returns-then-branch-clause-any_moment
returns-then-branch-clause-any_moment g c told items durable =
    read_moments g.D.Disk items c.args.disk.now c.is_first_gate_open.new.disk durable
    (c.in_ok-is_first_gate_open.ensures.reads.only_read.unwritten told)
