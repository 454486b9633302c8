use Rattle.std.proofs.Common.{◌≡◌, Bool, cond, [], ap, ◌∙◌, sym, subst}
use Rattle.std.specs.Option.{option_to_list}
use Rattle.lr_vc.specs.Standing.{KeptChannel}
use Rattle.lr_vc.specs.Steps.{met_by}
use Rattle.lr_vc.proofs.channel.Channel.meet.Goals as goal
use Rattle.lr_vc.proofs.channel.Channel.meet.Goals.{then-is_next, else-is_next+in-Some-1, else-is_next+in-None-1}

pub returns-clause-met : goal.returns-clause-met
unfolding met_by
returns-clause-met c =
    let list = option_to_list c.self.inside.open_packet in
    let Met : KeptChannel → Type 0 = λ k. option_to_list c.if-is_next.result ≡ met_by k c.args.counter in
    let by = λ (t : Bool). cond t list [] in
    subst Met c.self.view_is
    (elim c.if-is_next.branch [
      | then-is_next w ↦ ap option_to_list (w.result-is ∙ c.take-open_packet.ensures.value)
          ∙ sym (ap by (sym c.is_next.ensures ∙ w.if-is_next.true))
      | else-is_next+in-Some-1 w ↦ ap option_to_list w.result-is
          ∙ sym (ap by (sym c.is_next.ensures ∙ w.if-is_next.false))
      | else-is_next+in-None-1 w ↦ ap option_to_list w.result-is
          ∙ sym (ap by (sym c.is_next.ensures ∙ w.if-is_next.false))
    ])
