-- Which moves the steps are.
use Rattle.std.proofs.Common.{◌≡◌, ℕ, ◌+◌, ◌%◌, ◌≤◌, List, length, set, sym, refl, ap, ap₂, ◌∙◌, arith, mod-lt, le_refl}
use mathlib.Core.Option.{some-injective}
use Rattle.lr_gatecore.specs.declared.stage.Stage.{Stage}
use Rattle.lr_gatecore.specs.declared.stage.Stage.TheVariants.{Ready, Busy, Done}
use Rattle.lr_gatecore.specs.Machine.{Machine}
use Rattle.lr_gate.specs.declared.view.View.{View}
use Rattle.lr_gate.specs.Shows.{held_job, Shows}
use Rattle.lr_gate.specs.Steps.{after_claim, after_finish}
use Rattle.lr_gate.specs.Moves.{PutIsMove, ClaimIsMove, FinishIsMove, TakeIsMove, StopIsMove}
use Rattle.lr_gatecore.proofs.Lists.{at_length}
use Rattle.lr_gate.proofs.Lists.{none_not_some}
use Rattle.lr_gate.proofs.Alike.{Alike, seat_steps, first_after}
use Rattle.lr_gate.proofs.Keeps.{St, put_shows, ring}
use Rattle.lr_gate.proofs.Takes.{take_shows, stop_shows}
use Rattle.lr_gate.proofs.Works.{claim_shows, finish_at}
use Rattle.lr_gate.proofs.Shown.{busy_by}

module _ {J D : Type 0} (f : J → D) (crew : ℕ) where
  pub put_moves : (n : ℕ) (s : St J D) (r : Shows f (ring n crew) s) → PutIsMove f (ring n crew) s r
  unfolding put_shows
  put_moves n s r j running few room = let many : length r.stages ≡ length r.me.jobs = r.as_many in (
    put_shows f crew n s r j few room,
    (
      (let b : r.me.taken ≤ length r.stages = r.behind in
          omega arith),
      running,
      sym many,
      refl,
    ),
  )

  same_machine : (st : List Stage) (me me' : View J) → Alike me me'
      → ◌≡◌ {A = Machine} record { stages = st; taken = me'.taken; stopped = me'.stopped } record {
        stages = st;
        taken = me.taken;
        stopped = me.stopped;
      }
  same_machine st me me' a = ap₂ (λ t b. record { stages = st; taken = t; stopped = b }) a.taken a.stopped

  pub claim_moves : (n : ℕ) (s : St J D) (r : Shows f (ring n crew) s) → ClaimIsMove f (ring n crew) s r
  unfolding claim_shows
  claim_moves n s r w p v k j at live free has job = let b = at_length r.stages p Ready has.1 in
      let in_n : length r.stages ≤ r.me.taken + n = r.within in
      let v' : View J = after_claim v k (held_job (p % n) p j) in
      let front = first_after s.views w v v' r.me r.first at (seat_steps v _ _ _) in
      let low = at_length s.views w v at in let many = r.seats in let most = r.crew in (
        claim_shows f crew n s r w p v k j at live free has.0 (omega arith) has.1 job,
        (
          omega arith,
          mod-lt p r.some_cell,
          (λ i h. let by = busy_by f crew n s r i w h.1 in
              let is : by.3.0 ≡ v = some-injective by.3.0 v (sym by.3.1 ∙ at) in
              none_not_some (held_job (i % n) i by.0) (sym free ∙ (ap (λ (u : View J). u.held) (sym is) ∙ by.3.2))),
          has,
          refl,
          same_machine (set r.stages p (Busy w)) r.me front.0 front.2,
        ),
      )

  pub finish_moves : (n : ℕ) (s : St J D) (r : Shows f (ring n crew) s) → FinishIsMove f (ring n crew) s r
  unfolding finish_at
  finish_moves n s r w v h at live is = let g = (r.each_seat w v at live).holds h is in
      let v' : View J = after_finish v h.job in
      let front = first_after s.views w v v' r.me r.first at (seat_steps v _ _ _) in (
        finish_at f crew n s r w v h at live is g.0 g.2 g.3,
        ((g.0, g.2), same_machine (set r.stages h.job Done) r.me front.0 front.2),
      )

  pub take_moves : (n : ℕ) (s : St J D) (r : Shows f (ring n crew) s) → TakeIsMove f (ring n crew) s r
  unfolding take_shows
  take_moves n s r going full =
      (take_shows f crew n s r going full, ((le_refl r.me.taken, r.taking_is going), refl, refl))

  pub stop_moves : (n : ℕ) (s : St J D) (r : Shows f (ring n crew) s) → StopIsMove f (ring n crew) s r
  unfolding stop_shows
  stop_moves n s r running = (stop_shows f crew n s r, (running, refl, refl))
