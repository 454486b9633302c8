-- The steps of a worker keep the rule.
use Rattle.std.proofs.Common.{◌≡◌, ℕ, ◌+◌, ◌*◌, ◌%◌, ◌<◌, ◌≤◌, ◌≢◌, ◌&&◌, ◌==◌, Bool, true, false, cond, List}
use Rattle.std.proofs.Common.{length, set, sym, refl, ap, ◌∙◌, subst, ⊎_elim, arith, length-set, get_or-set_same}
use Rattle.std.proofs.Common.{get_or-set_other, mod-lt, ne_eqb, eq-eqb, Some, None}
use mathlib.Core.Option.{none, some, some-injective, some-ne-none}
use mathlib.Core.Option as maybe
use mathlib.Core.Logic.{dite}
use native.Mathlib.Decide.{ℕ_discrete}
use lib.ListN.{get_elem?}
use Rattle.atomic_table.proofs.Lists.{at_set, set_here, set_else}
use Rattle.lr_gate.specs.declared.slot_value.SlotValue.TheVariants.{Made}
use Rattle.lr_gate.specs.declared.view.Held.{Held}
use Rattle.lr_gate.specs.declared.view.Read.{Read}
use Rattle.lr_gate.specs.declared.view.View.{View}
use Rattle.lr_gatecore.specs.declared.stage.Stage.{Stage}
use Rattle.lr_gatecore.specs.declared.stage.Stage.TheVariants.{Ready, Busy, Done}
use Rattle.lr_gate.specs.Words.{cell_word, finish_count}
use Rattle.lr_gate.specs.Shows.{flag, held_job, IsHeldBy, is_being_taken, Lies, IsCellShown, Shows, place_in}
use Rattle.lr_gate.specs.Steps.{after_claim, after_finish}
use Rattle.lr_gatecore.specs.declared.sizes.TheConstants.{MOST_JOBS, WORD_BASE}
use Rattle.lr_gatecore.proofs.Lists.{at_length}
use Rattle.lr_gate.proofs.Lists.{other_cell, none_not_some, inside, same_finishes, one_more}
use Rattle.lr_gate.proofs.Alike.{Alike, seat_steps, first_after, hidden_same, seat_same, spents_stay}
use Rattle.lr_gate.proofs.Keeps.{St, Homes, lies_stay, ring}
use Rattle.lr_gate.proofs.Takes.{not_hidden}

-- stages told apart
abbrev pub number : maybe.Option Stage → ℕ
number none = 0
number (some Ready) = 1
number (some Done) = 2
number (some (Busy w)) = 3 + w

pub differ : (o : maybe.Option Stage) (a b : Stage) → o ≡ some a → o ≡ some b → number (some a) ≡ number (some b)
differ o a b x y = ap number (sym x ∙ y)

pub unlike_done : number (some Ready) ≡ number (some Done) → ⊥
unlike_done e = omega arith

pub unlike_busy : (i : ℕ) → number (some Ready) ≡ number (some (Busy i)) → ⊥
unlike_busy i e = omega arith

pub busy_not_done : (i : ℕ) → number (some (Busy i)) ≡ number (some Done) → ⊥
busy_not_done i e = omega arith

pub one_owner : (i j : ℕ) → number (some (Busy i)) ≡ number (some (Busy j)) → i ≡ j
one_owner i j e = let x : 3 + i ≡ 3 + j = e in omega arith

pub no_more : (m : ℕ) (t : Bool) → m + cond t 0 0 ≡ m
no_more m true = let e : m + 0 ≡ m = omega arith in e
no_more m false = let e : m + 0 ≡ m = omega arith in e

pub ended_set : (l : List Stage) (p i : ℕ) (a b : Stage) → get_elem? l p ≡ some a → finish_count (some a) ≡ 0
    → finish_count (get_elem? (set l p b) i) ≡ finish_count (get_elem? l i) + cond (i == p) (finish_count (some b)) 0
ended_set l p i a b at old = dite (ℕ_discrete i p)
    (λ e. let x : finish_count (get_elem? (set l p b) i) ≡ finish_count
    (some b) = ap (λ (z : ℕ). finish_count (get_elem? (set l p b) z)) e
    ∙ ap finish_count (set_here l p b (at_length l p a at)) in
    let y : finish_count (get_elem? l i) ≡ 0 = ap (λ (z : ℕ). finish_count (get_elem? l z)) e
    ∙ (ap finish_count at ∙ old) in
    let z : cond (i == p) (finish_count (some b)) 0 ≡ finish_count (some b) =
    ap (λ (t : Bool). cond t (finish_count (some b)) 0) (eq-eqb i p e) in omega (arith, x, y, z))
    (λ ne. let x : finish_count (get_elem? (set l p b) i) ≡ finish_count (get_elem? l i) = ap finish_count
    (set_else l p i b ne) in
    let z : cond (i == p) (finish_count (some b)) 0 ≡ 0 =
    ap (λ (t : Bool). cond t (finish_count (some b)) 0) (ne_eqb i p ne) in omega (arith, x, z))

pub not_true : (b : Bool) → (b ≡ true → ⊥) → b ≡ false
not_true true h = absurd (h refl)
not_true false h = refl

module _ {J : Type 0} where
  -- a seat that holds nothing takes a cell: what the others hold stays
  pub held_apart : (views : List (View J)) (id : ℕ) (v v' : View J) (w : ℕ) (h : Held J)
      → get_elem? views id ≡ some v → (v.held ≡ Some h → ⊥) → IsHeldBy views w h → IsHeldBy (set views id v') w h
  held_apart views id v v' w h at never k = dite (ℕ_discrete w id)
      (λ e. absurd (never
      (ap (λ (y : View J). y.held) (sym (some-injective k.0 v (sym k.1 ∙ (ap (get_elem? views) e ∙ at)))) ∙ k.2)))
      (λ ne. (k.0, set_else views id w v' ne ∙ k.1, k.2))

module _ {J D : Type 0} (f : J → D) (crew : ℕ) where
  -- a ready cell is claimed
  unfoldable pub claim_shows : (n : ℕ) (s : St J D) (r : Shows f (ring n crew) s) (id p : ℕ) (v : View J) (k : Read)
      (j : J) → get_elem? s.views id ≡ some v → v.spent ≡ false → v.held ≡ None
      → r.me.taken ≤ p → p < r.me.taken + n → get_elem? r.stages p ≡ some Ready → get_elem? r.me.jobs p ≡ some j
      → Shows f (ring n crew) record {
        words = set s.words (p % n + 1) (p * WORD_BASE + (4 * id + 3));
        homes = set s.homes (p % n) none;
        views = set s.views id (after_claim v k (held_job (p % n) p j));
      }
  claim_shows n s r id p v k j at live free a b stage job = let c : ℕ = p % n in
      let v' : View J = after_claim v k (held_job c p j) in let views' : List (View J) = set s.views id v' in
      let homes' : Homes J D = set s.homes c none in
      let x : ℕ = p * WORD_BASE + (4 * id + 3) in let words' : List ℕ = set s.words (c + 1) x in
      let st' : List Stage = set r.stages p (Busy id) in let near : c < n = mod-lt p r.some_cell in
      let t : ℕ = r.me.taken in
      let wide : length s.words ≡ n + 1 = r.wide in
      let here : get_elem? st' p ≡ some (Busy id) = set_here r.stages p (Busy id) (at_length r.stages p Ready stage) in
      let s' : St J D = record { words = words'; homes = homes'; views = views' } in
      let nothing : (h : Held J) → v.held ≡ Some h → ⊥ = λ h e. none_not_some h (sym free ∙ e) in
      let front = first_after s.views id v v' r.me r.first at (seat_steps v _ _ _) in
      let me' : View J = front.0 in let same : Alike r.me me' = front.2 in
      let taken : me'.taken ≡ r.me.taken = same.taken in let live' : v'.spent ≡ false = live in
      let more : (q : ℕ) (x : J) → get_elem? r.me.jobs q ≡ some x
      → get_elem? me'.jobs q ≡ some x = λ q x e. subst (λ xs. get_elem? xs q ≡ some x) (sym same.jobs) e in record {
        stages = st';
        me = me';
        first = front.1;
        awake = same.spent ∙ r.awake;
        some_cell = r.some_cell;
        sized = length-set s.homes c none ∙ r.sized;
        wide = length-set s.words (c + 1) x ∙ r.wide;
        as_many = length-set r.stages p (Busy id) ∙ (r.as_many ∙ ap length (sym same.jobs));
        behind = let g : t ≤ length r.stages = r.behind in let l = (length-set r.stages p (Busy id)) in
            omega (arith, g, l, taken);
        within = let g : length r.stages ≤ t + n = r.within in let l = (length-set r.stages p (Busy id)) in
            omega (arith, g, l, taken);
        stop_is = get_or-set_other s.words (c + 1) 0 x 0 (λ e. omega arith) ∙ (r.stop_is ∙ ap flag (sym same.stopped));
        taking_is = λ e'. let e : r.me.taking ≡ true = sym same.taking ∙ e' in
            ap (get_elem? st') taken
            ∙ (set_else r.stages p t (Busy id) (λ is. let w = differ (get_elem? r.stages p) Ready Done stage
            (ap (get_elem? r.stages) (sym is) ∙ r.taking_is e) in absurd (unlike_done w)) ∙ r.taking_is e);
        past = λ q l'. let l : q < t = subst (λ z. q < z) taken l' in
            set_else r.stages p q (Busy id) (λ is. omega arith) ∙ r.past q l;
        few = subst (λ xs. length xs ≤ MOST_JOBS) (sym same.jobs) r.few;
        finishes = λ i. same_finishes i s.views id v v' at refl
            ∙ (r.finishes i ∙ sym (ended_set r.stages p i Ready (Busy id) stage refl
            ∙ no_more (finish_count (get_elem? r.stages i)) (i == p)));
        seats = length-set s.views id v' ∙ (r.seats ∙ ap (λ z. z + 1) (sym same.split_off));
        crew = subst (λ z. z ≤ crew) (sym same.split_off) r.crew;
        each_spent = spents_stay s.views id v' live' r.each_spent;
        each_cell = λ q l' u'. let l : t ≤ q = subst (λ z. z ≤ q) taken l' in
            let u : q < t + n = subst (λ z. q < z + n) taken u' in dite (ℕ_discrete q p)
            (λ e. subst (λ (z : ℕ). IsCellShown f me' st' s' (place_in n z)) (sym e) record {
              word = get_or-set_same s.words (c + 1) x 0 (omega arith) ∙ ap (cell_word p) (sym here);
              lies = subst (Lies f me' s' (place_in n p)) (sym here) (
                j,
                more p j job,
                set_here s.homes c none (subst (λ (m : ℕ). c < m) (sym r.sized) near),
                (v', set_here s.views id v' (at_length s.views id v at), refl),
              );
            })
            (λ ne. let ok = r.each_cell q l u in
            let apart : q % n ≢ c = other_cell p q n (omega arith) (omega arith) ne in
            let stays : get_elem? st' q ≡ get_elem? r.stages q = set_else r.stages p q (Busy id) ne in record {
              word = get_or-set_other s.words (c + 1) (q % n + 1) x 0 (λ e. apart (omega arith))
                  ∙ (ok.word ∙ ap (cell_word q) (sym stays));
              lies = subst (Lies f me' s' (place_in n q)) (sym stays)
                  (lies_stay f r.me me' s s' (place_in n q) same.stocked
                  (hidden_same r.me me' q same) (more q) (set_else s.homes c (q % n) none apart)
                  (λ w y. held_apart s.views id v v' w (held_job (q % n) q y) at
                  (nothing (held_job (q % n) q y))) (get_elem? r.stages q) ok.lies);
            });
        each_seat = λ i u e up. seat_same r.me me' st' n i u same (⊎_elim
            (λ (y : (i ≡ id) × (v' ≡ u)). record {
              numbered = ap (λ (z : View J). z.number) (sym y.1) ∙ ((r.each_seat id v at live).numbered ∙ sym y.0);
              holds = λ h he. let is : held_job c p j ≡ h = inside (held_job c p j) h
                  (ap (λ (z : View J). z.held) y.1 ∙ he) in
                  subst (λ (g : Held J). (t ≤ g.job) × (g.cell ≡ g.job % n)
                  × (get_elem? st' g.job ≡ some (Busy i)) × (get_elem? r.me.jobs g.job ≡ some g.what)) is
                  (a, refl, subst (λ (z : ℕ). get_elem? st' p ≡ some (Busy z)) (sym y.0) here, job);
            })
            (λ (y : (i ≢ id) × (get_elem? s.views i ≡ some u)). let ok = r.each_seat i u y.1 up in record {
              numbered = ok.numbered;
              holds = λ h he. let g = ok.holds h he in (
                g.0,
                g.1,
                set_else r.stages p h.job (Busy id)
                    (λ is. unlike_busy i (differ (get_elem? r.stages p) Ready (Busy i) stage
                    (ap (get_elem? r.stages) (sym is) ∙ g.2))) ∙ g.2,
                g.3,
              );
            })
            (at_set s.views id i v' u e));
      }

  -- the held job is finished, in the cell where it lies
  unfoldable pub finish_at : (n : ℕ) (s : St J D) (r : Shows f (ring n crew) s) (id : ℕ) (v : View J) (h : Held J)
      → get_elem? s.views id ≡ some v → v.spent ≡ false → v.held ≡ Some h
      → r.me.taken ≤ h.job → get_elem? r.stages h.job ≡ some (Busy id) → get_elem? r.me.jobs h.job ≡ some h.what
      → Shows f (ring n crew) record {
        words = set s.words (h.job % n + 1) (h.job * WORD_BASE + 2);
        homes = set s.homes (h.job % n) (some (Made (f h.what)));
        views = set s.views id (after_finish v h.job);
      }
  finish_at n s r id v h at live holds a stage job = let p : ℕ = h.job in let c : ℕ = p % n in
      let v' : View J = after_finish v p in let views' : List (View J) = set s.views id v' in
      let homes' : Homes J D = set s.homes c (some (Made (f h.what))) in let x : ℕ = p * WORD_BASE + 2 in
      let words' : List ℕ = set s.words (c + 1) x in let st' : List Stage = set r.stages p Done in
      let near : c < n = mod-lt p r.some_cell in let t : ℕ = r.me.taken in
      let wide : length s.words ≡ n + 1 = r.wide in
      let below : p < length r.stages = at_length r.stages p (Busy id) stage in
      let in_n : length r.stages ≤ t + n = r.within in
      let here : get_elem? st' p ≡ some Done = set_here r.stages p Done below in
      let s' : St J D = record { words = words'; homes = homes'; views = views' } in
      let calm : r.me.taking ≡ true → p ≡ t
      → ⊥ = λ e is. busy_not_done id (differ (get_elem? r.stages p) (Busy id) Done stage
      (ap (get_elem? r.stages) is ∙ r.taking_is e)) in
      let plain : is_being_taken r.me p ≡ false = dite (ℕ_discrete p t)
      (λ e. ap (λ (b : Bool). b && (p == t)) (not_true r.me.taking (λ y. calm y e))) (λ ne. not_hidden r.me p ne) in
      let front = first_after s.views id v v' r.me r.first at (seat_steps v _ _ _) in
      let me' : View J = front.0 in let same : Alike r.me me' = front.2 in
      let taken : me'.taken ≡ r.me.taken = same.taken in let live' : v'.spent ≡ false = live in
      let more : (q : ℕ) (x : J) → get_elem? r.me.jobs q ≡ some x
      → get_elem? me'.jobs q ≡ some x = λ q x e. subst (λ xs. get_elem? xs q ≡ some x) (sym same.jobs) e in record {
        stages = st';
        me = me';
        first = front.1;
        awake = same.spent ∙ r.awake;
        some_cell = r.some_cell;
        sized = length-set s.homes c (some (Made (f h.what))) ∙ r.sized;
        wide = length-set s.words (c + 1) x ∙ r.wide;
        as_many = length-set r.stages p Done ∙ (r.as_many ∙ ap length (sym same.jobs));
        behind = let g : t ≤ length r.stages = r.behind in let l = (length-set r.stages p Done) in
            omega (arith, g, l, taken);
        within = let g : length r.stages ≤ t + n = r.within in let l = (length-set r.stages p Done) in
            omega (arith, g, l, taken);
        stop_is = get_or-set_other s.words (c + 1) 0 x 0 (λ e. omega arith) ∙ (r.stop_is ∙ ap flag (sym same.stopped));
        taking_is = λ e'. let e : r.me.taking ≡ true = sym same.taking ∙ e' in
            ap (get_elem? st') taken ∙ (set_else r.stages p t Done (λ is. calm e (sym is)) ∙ r.taking_is e);
        past = λ q l'. let l : q < t = subst (λ z. q < z) taken l' in
            set_else r.stages p q Done (λ is. omega arith) ∙ r.past q l;
        few = subst (λ xs. length xs ≤ MOST_JOBS) (sym same.jobs) r.few;
        finishes = λ i. one_more i p s.views id v v' at refl
            ∙ (ap (λ (z : ℕ). z + cond (i == p) 1 0) (r.finishes i)
            ∙ sym (ended_set r.stages p i (Busy id) Done stage refl));
        seats = length-set s.views id v' ∙ (r.seats ∙ ap (λ z. z + 1) (sym same.split_off));
        crew = subst (λ z. z ≤ crew) (sym same.split_off) r.crew;
        each_spent = spents_stay s.views id v' live' r.each_spent;
        each_cell = λ q l' u'. let l : t ≤ q = subst (λ z. z ≤ q) taken l' in
            let u : q < t + n = subst (λ z. q < z + n) taken u' in dite (ℕ_discrete q p)
            (λ e. subst (λ (z : ℕ). IsCellShown f me' st' s' (place_in n z)) (sym e) record {
              word = get_or-set_same s.words (c + 1) x 0 (omega arith) ∙ ap (cell_word p) (sym here);
              lies = subst (Lies f me' s' (place_in n p)) (sym here) (
                h.what,
                more p h.what job,
                set_here s.homes c (some (Made (f h.what)))
                    (subst (λ (m : ℕ). c < m) (sym r.sized) near)
                    ∙ ap (λ (b : Bool). some (cond b none (some (Made (f h.what)))))
                    (sym (hidden_same r.me me' p same ∙ plain)),
              );
            })
            (λ ne. let ok = r.each_cell q l u in
            let apart : q % n ≢ c = other_cell p q n (omega arith) (omega arith) ne in
            let stays : get_elem? st' q ≡ get_elem? r.stages q = set_else r.stages p q Done ne in record {
              word = get_or-set_other s.words (c + 1) (q % n + 1) x 0 (λ e. apart (omega arith))
                  ∙ (ok.word ∙ ap (cell_word q) (sym stays));
              lies = subst (Lies f me' s' (place_in n q)) (sym stays)
                  (lies_stay f r.me me' s s' (place_in n q) same.stocked
                  (hidden_same r.me me' q same) (more q) (set_else s.homes c (q % n) (some (Made (f h.what))) apart)
                  (λ w y. held_apart s.views id v v' w (held_job (q % n) q y) at
                  (λ e. ne (ap (λ (z : Held J). z.job) (sym (inside h (held_job (q % n) q y) (sym holds ∙ e))))))
                  (get_elem? r.stages q) ok.lies);
            });
        each_seat = λ i u e up. seat_same r.me me' st' n i u same (⊎_elim
            (λ (y : (i ≡ id) × (v' ≡ u)). record {
              numbered = ap (λ (z : View J). z.number) (sym y.1) ∙ ((r.each_seat id v at live).numbered ∙ sym y.0);
              holds = λ h' he. absurd (none_not_some h' (ap (λ (z : View J). z.held) y.1 ∙ he));
            })
            (λ (y : (i ≢ id) × (get_elem? s.views i ≡ some u)). let ok = r.each_seat i u y.1 up in record {
              numbered = ok.numbered;
              holds = λ h' he. let k = ok.holds h' he in (
                k.0,
                k.1,
                set_else r.stages p h'.job Done
                    (λ is. y.0 (sym (one_owner id i (differ (get_elem? r.stages p) (Busy id) (Busy i) stage
                    (ap (get_elem? r.stages) (sym is) ∙ k.2))))) ∙ k.2,
                k.3,
              );
            })
            (at_set s.views id i v' u e));
      }

  -- the held job is finished
  pub finish_shows : (n : ℕ) (s : St J D) (r : Shows f (ring n crew) s) (id : ℕ) (v : View J) (h : Held J)
      → get_elem? s.views id ≡ some v → v.spent ≡ false → v.held ≡ Some h
      → Shows f (ring n crew) record {
        words = set s.words (h.cell + 1) (h.job * WORD_BASE + 2);
        homes = set s.homes h.cell (some (Made (f h.what)));
        views = set s.views id (after_finish v h.job);
      }
  finish_shows n s r id v h at live holds = let ok = r.each_seat id v at live in let g = ok.holds h holds in
      subst (λ (z : ℕ). Shows f (ring n crew) record {
        words = set s.words (z + 1) (h.job * WORD_BASE + 2);
        homes = set s.homes z (some (Made (f h.what)));
        views = set s.views id (after_finish v h.job);
      }) (sym g.1)
      (finish_at n s r id v h at live holds g.0 g.2 g.3)
