use Rattle.lr_cmd_receive.proofs.withdrawal.withdraw.Goals as goal

pub returns-in-Ok-clause-ends : goal.returns-in-Ok-clause-ends
returns-in-Ok-clause-ends g c told items durable is = c.in-Ok.ensures.ends told items durable

pub returns-in-Ok-clause-left : goal.returns-in-Ok-clause-left
returns-in-Ok-clause-left g c told = c.take_away.ensures.left told

pub returns-in-Err-clause-left : goal.returns-in-Err-clause-left
returns-in-Err-clause-left g c told = c.take_away.ensures.left told
