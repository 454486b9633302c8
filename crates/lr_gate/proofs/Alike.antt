-- A step that changes none of what the rule reads of the conductor's view.
use Rattle.std.proofs.Common.{◌≡◌, ℕ, ◌≤◌, ◌≢◌, ◌&&◌, ◌==◌, Bool, true, false, List, set, sym, refl, ap, ap₂, ◌∙◌}
use Rattle.std.proofs.Common.{subst, ⊎_elim, true≢false, Option}
use mathlib.Core.Option.{some, some-injective}
use mathlib.Core.Logic.{dite}
use native.Mathlib.Decide.{ℕ_discrete}
use lib.ListN.{get_elem?}
use Rattle.atomic_table.proofs.Lists.{at_set, set_here, set_else}
use Rattle.lr_gatecore.specs.declared.stage.Stage.{Stage}
use Rattle.lr_gate.specs.declared.view.Held.{Held}
use Rattle.lr_gate.specs.declared.view.Read.{Read}
use Rattle.lr_gate.specs.declared.view.View.{View}
use Rattle.lr_gate.specs.Shows.{is_being_taken, IsSeatShown, IsJoinedView}
use Rattle.lr_gatecore.proofs.Lists.{at_length}

module _ {J : Type 0} where
  pub record Alike (me me' : View J) : Type 0 where
    pub spent : me'.spent ≡ me.spent
    pub stocked : me'.stocked ≡ me.stocked
    pub stopped : me'.stopped ≡ me.stopped
    pub taking : me'.taking ≡ me.taking
    pub taken : me'.taken ≡ me.taken
    pub split_off : me'.split_off ≡ me.split_off
    pub jobs : me'.jobs ≡ me.jobs

  -- a seat's step changes what it holds, finished and read
  pub seat_steps : (v : View J) (held : Option (Held J)) (finished : List ℕ) (reads : List Read)
      → Alike v record v { held = held; finished = finished; reads = reads }
  seat_steps v held finished reads = record {
    spent = refl;
    stocked = refl;
    stopped = refl;
    taking = refl;
    taken = refl;
    split_off = refl;
    jobs = refl;
  }

  -- the conductor's view after a step of some seat
  abbrev pub FirstAfter : List (View J) → ℕ → View J → View J → Type 0
  FirstAfter views id v' me = (me' : View J) × (get_elem? (set views id v') 0 ≡ some me') × Alike me me'

  pub first_after : (views : List (View J)) (id : ℕ) (v v' me : View J) → get_elem? views 0 ≡ some me
      → get_elem? views id ≡ some v → Alike v v' → FirstAfter views id v' me
  first_after views id v v' me first at like = dite (ℕ_discrete id 0)
      (λ e. let is : v ≡ me = some-injective v me (sym at ∙ (ap (get_elem? views) e ∙ first)) in (
        v',
        ap (get_elem? (set views id v')) (sym e) ∙ set_here views id v' (at_length views id v at),
        subst (λ x. Alike x v') is like,
      ))
      (λ ne. (me, set_else views id 0 v' (λ e. ne (sym e)) ∙ first, seat_steps me me.held me.finished me.reads))

  pub hidden_same : (me me' : View J) (p : ℕ) → Alike me me' → is_being_taken me' p ≡ is_being_taken me p
  hidden_same me me' p a = ap₂ (λ (b : Bool) (t : ℕ). b && (p == t)) a.taking a.taken

  pub seat_same : (me me' : View J) (stages : List Stage) (n j : ℕ) (v : View J) → Alike me me'
      → IsSeatShown me stages n j v → IsSeatShown me' stages n j v
  seat_same me me' stages n j v a ok = record {
    numbered = ok.numbered;
    holds = λ h is. let k = ok.holds h is in (
      subst (λ z. z ≤ h.job) (sym a.taken) k.0,
      k.1,
      k.2,
      subst (λ xs. get_elem? xs h.job ≡ some h.what)
          (sym a.jobs) k.3,
    );
  }

  abbrev pub Spents : List (View J) → Type 0
  Spents views = (j : ℕ) (v : View J) → get_elem? views j ≡ some v → v.spent ≡ true → IsJoinedView v

  pub spents_stay : (views : List (View J)) (id : ℕ) (v' : View J) → v'.spent ≡ false → Spents views
      → Spents (set views id v')
  spents_stay views id v' live old j u at gone = ⊎_elim
      (λ (x : (j ≡ id) × (v' ≡ u)). absurd (true≢false (sym gone ∙ (ap (λ (y : View J). y.spent) (sym x.1) ∙ live))))
      (λ (x : (j ≢ id) × (get_elem? views j ≡ some u)). old j u x.1 gone)
      (at_set views id j v' u at)
