-- A seat noted a load, and nothing else changed.
use Rattle.std.proofs.Common.{◌≡◌, ℕ, ◌+◌, ◌%◌, ◌<◌, ◌≤◌, ◌≢◌, false, length, set, sym, refl, ap, ◌∙◌}
use Rattle.std.proofs.Common.{subst, ⊎_elim, length-set}
use mathlib.Core.Option.{some}
use lib.ListN.{get_elem?}
use Rattle.atomic_table.proofs.Lists.{at_set}
use Rattle.lr_gatecore.specs.declared.stage.Stage.TheVariants.{Busy}
use Rattle.lr_gatecore.specs.declared.sizes.TheConstants.{MOST_JOBS}
use Rattle.lr_gate.specs.declared.view.Read.{Read}
use Rattle.lr_gate.specs.declared.view.View.{View}
use Rattle.lr_gate.specs.Shows.{held_job, Shows, place_in}
use Rattle.lr_gate.specs.Steps.{after_read}
use Rattle.lr_gate.proofs.Lists.{same_finishes}
use Rattle.lr_gate.proofs.Alike.{Alike, seat_steps, first_after, hidden_same, seat_same, spents_stay}
use Rattle.lr_gate.proofs.Keeps.{St, held_stays, lies_stay, ring}

module _ {J D : Type 0} (f : J → D) (crew : ℕ) where
  pub read_shows : (n : ℕ) (s : St J D) (r : Shows f (ring n crew) s) (id : ℕ) (v : View J) (k : Read)
      → get_elem? s.views id ≡ some v → v.spent ≡ false
      → Shows f (ring n crew) record { words = s.words; homes = s.homes; views = set s.views id (after_read v k) }
  read_shows n s r id v k at live = let v' : View J = after_read v k in
      let s' : St J D = record { words = s.words; homes = s.homes; views = set s.views id v' } in
      let front = first_after s.views id v v' r.me r.first at (seat_steps v _ _ _) in let me' : View J = front.0 in
      let same : Alike r.me me' = front.2 in
      let taken : me'.taken ≡ r.me.taken = same.taken in record {
        stages = r.stages;
        me = me';
        first = front.1;
        awake = same.spent ∙ r.awake;
        some_cell = r.some_cell;
        sized = r.sized;
        wide = r.wide;
        as_many = r.as_many ∙ ap length (sym same.jobs);
        behind = subst (λ z. z ≤ length r.stages) (sym taken) r.behind;
        within = subst (λ z. length r.stages ≤ z + n) (sym taken) r.within;
        stop_is = r.stop_is ∙ ap Rattle.lr_gate.specs.Shows.flag (sym same.stopped);
        taking_is = λ e. ap (get_elem? r.stages) taken ∙ r.taking_is (sym same.taking ∙ e);
        past = λ p l. r.past p (subst (λ z. p < z) taken l);
        few = subst (λ xs. length xs ≤ MOST_JOBS) (sym same.jobs) r.few;
        finishes = λ i. same_finishes i s.views id v v' at refl ∙ r.finishes i;
        seats = length-set s.views id v' ∙ (r.seats ∙ ap (λ z. z + 1) (sym same.split_off));
        crew = subst (λ z. z ≤ crew) (sym same.split_off) r.crew;
        each_cell = λ q a b. let ok = r.each_cell q (subst (λ z. z ≤ q) taken a)
            (subst (λ z. q < z + n) taken b) in record {
              word = ok.word;
              lies = lies_stay f r.me me' s s' (place_in n q) same.stocked
                  (hidden_same r.me me' q same) (λ x e. subst (λ xs. get_elem? xs q ≡ some x) (sym same.jobs) e) refl
                  (λ w x. held_stays s.views id v v' w (held_job (q % n) q x) at refl) (get_elem? r.stages q) ok.lies;
            };
        each_seat = λ j u e up. seat_same r.me me' r.stages n j u same (⊎_elim
            (λ (x : (j ≡ id) × (v' ≡ u)). let ok = r.each_seat id v at live in
            let is : u.held ≡ v.held = ap (λ (y : View J). y.held) (sym x.1) in
            record {
              numbered = ap (λ (y : View J). y.number) (sym x.1) ∙ (ok.numbered ∙ sym x.0);
              holds = λ h he. let g = ok.holds h (sym is ∙ he) in
                  (g.0, g.1, subst (λ (z : ℕ). get_elem? r.stages h.job ≡ some (Busy z)) (sym x.0) g.2, g.3);
            })
            (λ (x : (j ≢ id) × (get_elem? s.views j ≡ some u)). r.each_seat j u x.1 up)
            (at_set s.views id j v' u e));
        each_spent = spents_stay s.views id v' live r.each_spent;
      }
