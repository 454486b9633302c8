-- The steps of the conductor keep the rule.
use Rattle.std.proofs.Common.{◌≡◌, ℕ, zero, suc, ◌+◌, ◌*◌, ◌%◌, ◌<◌, ◌≤◌, ◌≢◌, Bool, cond, List, [], ◌∷◌, ◌++◌}
use Rattle.std.proofs.Common.{length, set, sym, refl, ap, ◌∙◌, subst, ⊎_elim, arith, length-set, length-append}
use Rattle.std.proofs.Common.{get_or-set_same, get_or-set_other, mod-lt}
use mathlib.Core.Option.{none, some, some-injective, some-ne-none}
use mathlib.Core.Option as maybe
use mathlib.Core.Logic.{dite}
use native.Mathlib.Decide.{ℕ_discrete}
use lib.ListN.{get_elem?}
use Rattle.atomic_table.specs.Table.{State, Step, step, Act, keeps, stepped, Valid, Allows, carried_after, rest}
use Rattle.atomic_table.specs.Table as table
use Rattle.atomic_table.proofs.Lists.{at_set, set_here, set_else, at_longer, at_last}
use Rattle.lr_gate.specs.declared.slot_value.SlotValue.{SlotValue}
use Rattle.lr_gate.specs.declared.slot_value.SlotValue.TheVariants.{Empty, Given, Made}
use Rattle.lr_gate.specs.declared.view.Held.{Held}
use Rattle.lr_gate.specs.declared.view.View.{View}
use Rattle.lr_gatecore.specs.declared.ring_size.RingSize.{RingSize}
use Rattle.lr_gatecore.specs.declared.stage.Stage.{Stage}
use Rattle.lr_gatecore.specs.declared.stage.Stage.TheVariants.{Ready, Busy, Done}
use Rattle.lr_gate.specs.Words.{cell_word, finish_count}
use Rattle.lr_gate.specs.Shows.{held_job, IsHeldBy, is_being_taken, Lies, IsCellShown, Shows, JobPlace, place_in}
use Rattle.lr_gate.specs.Steps.{SeatState, after_put, put_view, PutTells}
use Rattle.lr_gate.proofs.Alike.{spents_stay}
use Rattle.lr_gatecore.specs.declared.sizes.TheConstants.{MOST_JOBS, WORD_BASE}
use Rattle.lr_gatecore.proofs.Lists.{snoc_else, at_length}
use Rattle.lr_gate.proofs.Lists.{other_cell, same_finishes}

module _ {J : Type 0} where
  pub held_stays : (views : List (View J)) (id : ℕ) (v v' : View J) (w : ℕ) (h : Held J)
      → get_elem? views id ≡ some v → v'.held ≡ v.held → IsHeldBy views w h → IsHeldBy (set views id v') w h
  held_stays views id v v' w h at same k = dite (ℕ_discrete w id)
      (λ e. let u : k.0 ≡ v = some-injective k.0 v (sym k.1 ∙ (ap (get_elem? views) e ∙ at)) in (
        v',
        ap (get_elem? (set views id v')) e ∙ set_here views id v' (at_length views id v at),
        same
            ∙ (ap (λ (x : View J). x.held) (sym u) ∙ k.2),
      ))
      (λ ne. (k.0, set_else views id w v' ne ∙ k.1, k.2))

abbrev pub Homes : Type 0 → Type 0 → Type 0
Homes J D = List (maybe.Option (SlotValue J D))

abbrev pub St : Type 0 → Type 0 → Type 0
St J D = State (SlotValue J D) (View J)

-- a ring with n cells
abbrev pub ring : ℕ → ℕ → RingSize
ring n workers = record { cells = n; workers = workers }

module _ {J D : Type 0} (f : J → D) where
  pub lies_stay : (me me' : View J) (s s' : St J D) (p : JobPlace)
      → me'.stocked ≡ me.stocked → is_being_taken me' p.job ≡ is_being_taken me p.job
      → ((x : J) → get_elem? me.jobs p.job ≡ some x → get_elem? me'.jobs p.job ≡ some x)
      → get_elem? s'.homes p.cell ≡ get_elem? s.homes p.cell
      → ((w : ℕ) (j : J) → IsHeldBy s.views w (held_job p.cell p.job j)
      → IsHeldBy s'.views w (held_job p.cell p.job j))
      → (o : maybe.Option Stage) → Lies f me s p o → Lies f me' s' p o
  lies_stay me me' s s' p st hid more same who none k =
      same ∙ (k ∙ ap (λ (b : Bool). some (cond b none (some Empty))) (sym st))
  lies_stay me me' s s' p st hid more same who (some Ready) k = (k.0, more k.0 k.1, same ∙ k.2)
  lies_stay me me' s s' p st hid more same who (some (Busy w)) k = (k.0, more k.0 k.1, same ∙ k.2, who w k.0 k.3)
  lies_stay me me' s s' p st hid more same who (some Done) k =
      (k.0, more k.0 k.1, same ∙ (k.2 ∙ ap (λ (b : Bool). some (cond b none (some (Made (f k.0))))) (sym hid)))

module _ {J D : Type 0} (f : J → D) (crew : ℕ) where
  pub put_ends : (i : ℕ) (l : List Stage) → finish_count (get_elem? l i) ≡ finish_count (get_elem? (l ++ Ready ∷ []) i)
  put_ends zero [] = refl
  put_ends (suc i) [] = refl
  put_ends zero (x ∷ xs) = refl
  put_ends (suc i) (x ∷ xs) = put_ends i xs

  -- the next job goes into its cell
  unfoldable pub put_shows : (n : ℕ) (s : St J D) (r : Shows f (ring n crew) s) (j : J) → length r.me.jobs < MOST_JOBS
      → length r.me.jobs < r.me.taken + n
      → Shows f (ring n crew) record {
        words = set s.words (length r.me.jobs % n + 1) (length r.me.jobs * WORD_BASE + 1);
        homes = set s.homes (length r.me.jobs % n) (some (Given j));
        views = set s.views 0 (after_put r.me j);
      }
  put_shows n s r j few room = let p : ℕ = length r.me.jobs in let t : ℕ = r.me.taken in let c : ℕ = p % n in
      let me' : View J = after_put r.me j in let st' : List Stage = r.stages ++ Ready ∷ [] in
      let many : length r.stages ≡ p = r.as_many in let beh : t ≤ length r.stages = r.behind in
      let near : c < n = mod-lt p r.some_cell in let homes' : Homes J D = set s.homes c (some (Given j)) in
      let views' : List (View J) = set s.views 0 me' in
      let words' : List ℕ = set s.words (c + 1) (p * WORD_BASE + 1) in
      let s' : St J D = record { words = words'; homes = homes'; views = views' } in
      let some_view : 0 < length s.views = at_length s.views 0 r.me r.first in
      let long : length st' ≡ length r.stages + 1 = length-append r.stages (Ready ∷ []) in
      let here : get_elem? st' p ≡ some Ready = at_last r.stages Ready p many in
      let wide : length s.words ≡ n + 1 = r.wide in record {
        stages = st';
        me = me';
        first = set_here s.views 0 me' some_view;
        awake = r.awake;
        some_cell = r.some_cell;
        sized = length-set s.homes c (some (Given j)) ∙ r.sized;
        wide = length-set s.words (c + 1) (p * WORD_BASE + 1) ∙ r.wide;
        as_many = omega (arith, long, length-append r.me.jobs (j ∷ []));
        behind = omega (arith, long);
        within = omega (arith, long);
        stop_is = get_or-set_other s.words (c + 1) 0 (p * WORD_BASE + 1) 0 (λ e. omega arith) ∙ r.stop_is;
        taking_is = λ e. at_longer r.stages (Ready ∷ []) t Done (r.taking_is e);
        past = λ q a. at_longer r.stages (Ready ∷ []) q Done (r.past q a);
        few = omega (arith, length-append r.me.jobs (j ∷ []));
        finishes = λ i. same_finishes i s.views 0 r.me me' r.first refl ∙ (r.finishes i ∙ put_ends i r.stages);
        seats = length-set s.views 0 me' ∙ r.seats;
        crew = r.crew;
        each_spent = spents_stay s.views 0 me' r.awake r.each_spent;
        each_cell = λ q a b. dite (ℕ_discrete q p)
            (λ e. subst (λ (z : ℕ). IsCellShown f me' st' s' (place_in n z)) (sym e) record {
              word = get_or-set_same s.words (c + 1) (p * WORD_BASE + 1) 0 (omega arith) ∙ ap (cell_word p) (sym here);
              lies = subst (Lies f me' s' (place_in n p)) (sym here) (
                j,
                at_last r.me.jobs j p refl,
                set_here s.homes c (some (Given j)) (subst (λ (m : ℕ). c < m) (sym r.sized) near),
              );
            })
            (λ ne. let ok = r.each_cell q a b in
            let apart : q % n ≢ c = other_cell p q n (omega arith) (omega arith) ne in
            let stage : get_elem? st' q ≡ get_elem? r.stages q = snoc_else r.stages Ready q
            (λ e. ne (e ∙ many)) in record {
              word = get_or-set_other s.words (c + 1) (q % n + 1) (p * WORD_BASE + 1) 0 (λ e. apart (omega arith))
                  ∙ (ok.word ∙ ap (cell_word q) (sym stage));
              lies = subst (Lies f me' s' (place_in n q)) (sym stage)
                  (lies_stay f r.me me' s s' (place_in n q) refl refl
                  (at_longer r.me.jobs (j ∷ []) q)
                  (set_else s.homes c (q % n) (some (Given j)) apart)
                  (λ w x. held_stays s.views 0 r.me me' w (held_job (q % n) q x) r.first refl)
                  (get_elem? r.stages q) ok.lies);
            });
        each_seat = λ i v at live. ⊎_elim
            (λ (x : (i ≡ 0) × (me' ≡ v)). let e : v.held ≡ r.me.held = ap (λ (y : View J). y.held) (sym x.1) in
            let ok = r.each_seat i r.me (ap (get_elem? s.views) x.0 ∙ r.first) (ap (λ (y : View J). y.spent) x.1
            ∙ live) in
            record {
              numbered = ap (λ (y : View J). y.number) (sym x.1) ∙ ok.numbered;
              holds = λ h is. let k = ok.holds h (sym e ∙ is) in (
                k.0,
                k.1,
                at_longer r.stages (Ready ∷ []) h.job (Busy i) k.2,
                at_longer r.me.jobs (j ∷ []) h.job h.what k.3,
              );
            })
            (λ (x : (i ≢ 0) × (get_elem? s.views i ≡ some v)). let ok = r.each_seat i v x.1 live in
            record {
              numbered = ok.numbered;
              holds = λ h is. let k = ok.holds h is in (
                k.0,
                k.1,
                at_longer r.stages (Ready ∷ []) h.job (Busy i) k.2,
                at_longer r.me.jobs (j ∷ []) h.job h.what k.3,
              );
            })
            (at_set s.views 0 i me' v at);
      }

  abbrev pub Goes : ℕ → St J D → ℕ → ℕ → SeatState J D → ℕ → (SeatState J D → Type 0) → Type 0
  Goes n s i id m new then = (w : View J) × (a : Act (SlotValue J D)) × Valid s.homes m.1 a
      × Shows f (ring n crew) (stepped s i new id m.1 w a) × then (w, carried_after m.1 a)

  pub puts_go : (n slots id : ℕ) (m : SeatState J D) (i new c p : ℕ) (j : J) (more : List (ℕ × SlotValue J D))
      → id ≡ 0 → m.1 ≡ (c, Given j) ∷ more → p ≡ length m.0.jobs → c ≡ p % n → i ≡ c + 1 → new ≡ p * WORD_BASE + 1
      → p < MOST_JOBS → p < m.0.taken + n
      → Allows (Shows f (ring n crew)) slots id m i (λ _. new) (λ _. PutTells (step slots i new 0 none) m new)
  puts_go n slots id m i new c p j more first has many cell word new_is few room s r wide at _ =
      let is : r.me ≡ m.0 = some-injective r.me m.0 (sym r.first ∙ (ap (get_elem? s.views) (sym first) ∙ at)) in
      let q : ℕ = length r.me.jobs in let pq : p ≡ q = many ∙ ap (λ (v : View J). length v.jobs) (sym is) in
      let room' : q < r.me.taken + n = subst (λ (v : View J). length v.jobs < v.taken + n) (sym is)
      (subst (λ (z : ℕ). z < m.0.taken + n) many room) in
      let c' : c ≡ q % n = cell ∙ ap (λ (z : ℕ). z % n) pq in
      let i' : i ≡ q % n + 1 = word ∙ ap (λ (z : ℕ). z + 1) c' in
      let n' : new ≡ q * WORD_BASE + 1 = new_is ∙ ap (λ (z : ℕ). z * WORD_BASE + 1) pq in
      let told : SeatState J D → Type 0 = PutTells (step slots i new 0 none) m new in
      let S : List (ℕ × SlotValue J D) → ℕ → ℕ → ℕ → View J
      → Type 0 = λ cs x y z v. Shows f (ring n crew) record {
        words = set s.words x y;
        homes = table.put_back s.homes cs;
        views = set s.views z (after_put v j);
      } in
      let start : S ((q % n, Given j) ∷ more) (q % n + 1) (q * WORD_BASE + 1) 0 r.me = put_shows n s r j
      (subst (λ (z : ℕ). z < MOST_JOBS) pq few) room' in
      let now : S m.1 i new id m.0 = subst (λ cs. S cs i new id m.0) (sym has)
      (subst (λ z. S ((z, Given j) ∷ more) i new id m.0) (sym c')
      (subst (λ x. S ((q % n, Given j) ∷ more) x new id m.0) (sym i')
      (subst (λ y. S ((q % n, Given j) ∷ more) (q % n + 1) y id m.0) (sym n')
      (subst (λ z. S ((q % n, Given j) ∷ more) (q % n + 1) (q * WORD_BASE + 1) z m.0) (sym first)
      (subst (λ v. S ((q % n, Given j) ∷ more) (q % n + 1) (q * WORD_BASE + 1) 0 v) is start))))) in (
        after_put m.0 j,
        table.gives,
        tt,
        now,
        ap (λ (cs : List (ℕ × SlotValue J D)). (put_view m.0 cs, rest m.1)) (sym has),
      )
