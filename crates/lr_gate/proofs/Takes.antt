-- The steps of take, and those that change no cell.
use Rattle.std.proofs.Common.{◌≡◌, ℕ, zero, suc, ◌+◌, ◌*◌, ◌%◌, ◌<◌, ◌≤◌, ◌≢◌, ◌&&◌, ◌==◌, Bool, true, false, cond}
use Rattle.std.proofs.Common.{List, [], ◌∷◌, ◌++◌, length, get_or, set, sym, refl, ap, ◌∙◌, subst, ⊎_elim, arith}
use Rattle.std.proofs.Common.{le_refl, length-set, length-append, get_or-set_same, get_or-set_other, mod-lt, ne_eqb}
use Rattle.std.proofs.Common.{eq-eqb, Option, Some, None}
use Rattle.std.proofs.Math.Nat.{add-mod_right, mul-add-mod_self_left}
use Rattle.std.proofs.lemmas.List.{set-get_or}
use mathlib.Core.Option.{none, some, some-injective, some-ne-none}
use mathlib.Core.Option as maybe
use mathlib.Core.Logic.{dite}
use native.Mathlib.Decide.{ℕ_discrete}
use lib.ListN.{get_elem?}
use Rattle.atomic_table.specs.Table.{step, keeps, takes, Allows, Splits}
use Rattle.atomic_table.proofs.Lists.{at_set, set_here, set_else, at_longer}
use Rattle.lr_gate.specs.declared.slot_value.SlotValue.TheVariants.{Empty, Made}
use Rattle.lr_gate.specs.declared.view.Read.{Read}
use Rattle.lr_gate.specs.declared.view.View.{View}
use Rattle.lr_gatecore.specs.declared.stage.Stage.{Stage}
use Rattle.lr_gatecore.specs.declared.stage.Stage.TheVariants.{Ready, Busy, Done}
use Rattle.lr_gate.specs.Words.{stage_code, cell_word}
use Rattle.lr_gate.specs.Shows.{held_job, is_being_taken, IsSeatShown, Lies, IsCellShown, Shows, place_in}
use Rattle.lr_gate.specs.Steps.{FoundAlone, read, SeatState, after_read, after_grab, after_take, after_split}
use Rattle.lr_gate.specs.Steps.{new_view, GrabTells, TakeTells, StopTells, after_stop}
use Rattle.lr_gatecore.specs.declared.sizes.TheConstants.{WORD_BASE}
use Rattle.lr_gatecore.proofs.Lists.{at_above, at_length}
use Rattle.lr_gate.proofs.Lists.{at_below, other_cell, tag_of, at_end, none_not_some, same_finishes, finishes_end}
use Rattle.lr_gate.proofs.Alike.{spents_stay}
use Rattle.lr_gate.proofs.Keeps.{St, Homes, held_stays, lies_stay, Goes, ring}
use Rattle.lr_gate.proofs.Looks.{read_shows}
use Rattle.lr_gate.proofs.Alone.{found_alone}

module _ {J : Type 0} where
  abbrev pub Seats : View J → List Stage → ℕ → List (View J) → Type 0
  Seats me stages n views = (j : ℕ) (v : View J) → get_elem? views j ≡ some v → v.spent ≡ false
      → IsSeatShown me stages n j v

  -- the conductor's view changes, and each busy job stays one
  pub seats_stay : (me me' : View J) (stages stages' : List Stage) (n : ℕ) (views : List (View J))
      → get_elem? views 0 ≡ some me → me'.number ≡ me.number → me'.spent ≡ me.spent → me'.held ≡ me.held
      → ((p : ℕ) (x : J) → get_elem? me.jobs p ≡ some x → get_elem? me'.jobs p ≡ some x)
      → ((p w : ℕ) → me.taken ≤ p → get_elem? stages p ≡ some (Busy w)
      → (me'.taken ≤ p) × (get_elem? stages' p ≡ some (Busy w))) → Seats me stages n views
      → Seats me' stages' n (set views 0 me')
  seats_stay me me' stages stages' n views at number spent held more stay old j v e live = ⊎_elim
      (λ (x : (j ≡ 0) × (me' ≡ v)). let ok = old j me (ap (get_elem? views) x.0 ∙ at) (sym spent
      ∙ (ap (λ (y : View J). y.spent) x.1 ∙ live)) in
      record {
        numbered = ap (λ (y : View J). y.number) (sym x.1) ∙ (number ∙ ok.numbered);
        holds = λ h is. let k = ok.holds h (sym held ∙ (ap (λ (y : View J). y.held) x.1 ∙ is)) in
            let s = stay h.job j k.0 k.2 in (s.0, k.1, s.1, more h.job h.what k.3);
      })
      (λ (x : (j ≢ 0) × (get_elem? views j ≡ some v)). let ok = old j v x.1 live in
      record {
        numbered = ok.numbered;
        holds = λ h is. let k = ok.holds h is in let s = stay h.job j k.0 k.2 in
            (s.0, k.1, s.1, more h.job h.what k.3);
      })
      (at_set views 0 j me' v e)

  pub not_hidden : (me : View J) (p : ℕ) → p ≢ me.taken → is_being_taken me p ≡ false
  not_hidden me p ne = go me.taking
    where
      go : (b : Bool) → (b && (p == me.taken)) ≡ false
      go true = ne_eqb p me.taken ne
      go false = refl

  pub idle_shows : (me : View J) (p : ℕ) → me.taking ≡ false → is_being_taken me p ≡ false
  idle_shows me p e = ap (λ (b : Bool). b && (p == me.taken)) e

  pub taking_hides : (me : View J) → me.taking ≡ true → is_being_taken me me.taken ≡ true
  taking_hides me e = ap (λ (b : Bool). b && (me.taken == me.taken)) e ∙ eq-eqb me.taken me.taken refl

module _ {J D : Type 0} (f : J → D) (crew : ℕ) where
  -- the oldest job is done, and its slot is taken out
  pub grab_shows : (n : ℕ) (s : St J D) (r : Shows f (ring n crew) s) (k : Read) → r.me.taking ≡ false
      → get_elem? r.stages r.me.taken ≡ some Done
      → Shows f (ring n crew) record {
        words = s.words;
        homes = set s.homes (r.me.taken % n) none;
        views = set s.views 0 (after_grab r.me k);
      }
  grab_shows n s r k idle is = let me' : View J = after_grab r.me k in let t : ℕ = r.me.taken in
      let c : ℕ = t % n in let homes' : Homes J D = set s.homes c none in
      let views' : List (View J) = set s.views 0 me' in
      let pos : 0 < n = r.some_cell in let near : c < n = mod-lt t pos in
      let s' : St J D = record { words = s.words; homes = homes'; views = views' } in record {
        stages = r.stages;
        me = me';
        first = set_here s.views 0 me' (at_length s.views 0 r.me r.first);
        awake = r.awake;
        some_cell = r.some_cell;
        sized = length-set s.homes c none ∙ r.sized;
        wide = r.wide;
        as_many = r.as_many;
        behind = r.behind;
        within = r.within;
        stop_is = r.stop_is;
        taking_is = λ _. is;
        past = r.past;
        few = r.few;
        finishes = λ i. same_finishes i s.views 0 r.me me' r.first refl ∙ r.finishes i;
        seats = length-set s.views 0 me' ∙ r.seats;
        crew = r.crew;
        each_spent = spents_stay s.views 0 me' r.awake r.each_spent;
        each_cell = λ q a b. let ok = r.each_cell q a b in dite (ℕ_discrete q t)
            (λ e. subst (λ (z : ℕ). IsCellShown f me' r.stages s' (place_in n z)) (sym e)
            (let here = r.each_cell t (le_refl t) (omega arith) in
            let lies : Lies f r.me s (place_in n t)
            (some Done) = subst (Lies f r.me s (place_in n t)) is here.lies in record {
              word = here.word;
              lies = subst (Lies f me' s' (place_in n t)) (sym is) (
                lies.0,
                lies.1,
                set_here s.homes c none (subst (λ (m : ℕ). c < m) (sym r.sized) near)
                    ∙ ap (λ (b : Bool). some (cond b none (some (Made (f lies.0))))) (sym (taking_hides me' refl)),
              );
            }))
            (λ ne. record {
              word = ok.word;
              lies = lies_stay f r.me me' s s' (place_in n q) refl (not_hidden me' q ne
                  ∙ sym (idle_shows r.me q idle)) (λ x e. e)
                  (set_else s.homes c (q % n) none (other_cell t q n (omega arith) b ne))
                  (λ w x. held_stays s.views 0 r.me me' w (held_job (q % n) q x) r.first refl)
                  (get_elem? r.stages q) ok.lies;
            });
        each_seat = seats_stay r.me me' r.stages r.stages n s.views r.first refl refl refl (λ p x e. e)
            (λ p w a e. (a, e)) r.each_seat;
      }

  -- the conductor splits a seat off
  split_shows : (n : ℕ) (s : St J D) (r : Shows f (ring n crew) s) → r.me.split_off < crew
      → Shows f (ring n crew) record {
        words = s.words;
        homes = s.homes;
        views = set s.views 0 (after_split r.me) ++ new_view (r.me.split_off + 1) ∷ [];
      }
  split_shows n s r room = let me' : View J = after_split r.me in
      let new : View J = new_view (r.me.split_off + 1) in let old' : List (View J) = set s.views 0 me' in
      let s' : St J D = record { words = s.words; homes = s.homes; views = old' ++ new ∷ [] } in
      let some_view = at_length s.views 0 r.me r.first in
      let first' = set_here s.views 0 me' some_view in
      let long : length old' ≡ r.me.split_off + 1 = length-set s.views 0 me' ∙ r.seats in record {
        stages = r.stages;
        me = me';
        first = at_longer old' (new ∷ []) 0 me' first';
        awake = r.awake;
        some_cell = r.some_cell;
        sized = r.sized;
        wide = r.wide;
        as_many = r.as_many;
        behind = r.behind;
        within = r.within;
        stop_is = r.stop_is;
        taking_is = r.taking_is;
        past = r.past;
        few = r.few;
        finishes = λ i. finishes_end i old' new refl ∙ (same_finishes i s.views 0 r.me me' r.first refl ∙ r.finishes i);
        seats = length-append old' (new ∷ []) ∙ ap (λ (z : ℕ). z + 1) long;
        crew = let g : r.me.split_off + 1 ≤ crew = omega arith in g;
        each_spent = λ j v e gone. ⊎_elim
            (λ (x : get_elem? old' j ≡ some v). spents_stay s.views 0 me' r.awake r.each_spent j v x gone)
            (λ (x : (j ≡ length old') × (new ≡ v)). absurd
            (Rattle.std.proofs.Common.true≢false (sym gone ∙ ap (λ (y : View J). y.spent) (sym x.1))))
            (at_end old' new v j e);
        each_cell = λ q a b. let ok = r.each_cell q a b in record {
          word = ok.word;
          lies = lies_stay f r.me me' s s' (place_in n q) refl refl (λ x e. e) refl
              (λ w x k. let h = held_stays s.views 0 r.me me' w (held_job (q % n) q x) r.first refl k in
              (h.0, at_longer old' (new ∷ []) w h.0 h.1, h.2)) (get_elem? r.stages q) ok.lies;
        };
        each_seat = λ j v e live. ⊎_elim
            (λ (x : get_elem? old' j ≡ some v).
            seats_stay r.me me' r.stages r.stages n s.views r.first refl refl refl (λ p x e. e)
            (λ p w a b. (a, b)) r.each_seat j v x live)
            (λ (x : (j ≡ length old') × (new ≡ v)). record {
              numbered = ap (λ (y : View J). y.number) (sym x.1) ∙ (sym long ∙ sym x.0);
              holds = λ h is. absurd (none_not_some h (ap (λ (y : View J). y.held) x.1 ∙ is));
            }) (at_end old' new v j e);
      }

  pub done_not_busy : (o : maybe.Option Stage) (w : ℕ) → o ≡ some Done → o ≡ some (Busy w) → ⊥
  done_not_busy o w a b = let bad : some (Busy w) ≡ some Done = sym b ∙ a in cc

  pub past_take : (l : List Stage) (t p : ℕ) → get_elem? l t ≡ some Done → (p < t → get_elem? l p ≡ some Done)
      → p < t + 1 → get_elem? l p ≡ some Done
  past_take l t p is old a = dite (ℕ_discrete p t) (λ e. ap (get_elem? l) e ∙ is) (λ ne. old (omega arith))

  -- the slot was emptied, and the cell is free again
  unfoldable pub take_shows : (n : ℕ) (s : St J D) (r : Shows f (ring n crew) s) → r.me.taking ≡ true
      → r.me.stocked ≡ true → Shows f (ring n crew) record {
        words = set s.words (r.me.taken % n + 1) 0;
        homes = s.homes;
        views = set s.views 0 (after_take r.me);
      }
  take_shows n s r going full = let me' : View J = after_take r.me in let t : ℕ = r.me.taken in
      let c : ℕ = t % n in let views' : List (View J) = set s.views 0 me' in
      let words' : List ℕ = set s.words (c + 1) 0 in
      let pos : 0 < n = r.some_cell in let near : c < n = mod-lt t pos in
      let s' : St J D = record { words = words'; homes = s.homes; views = views' } in let is = r.taking_is going in
      let below : t < length r.stages = at_length r.stages t Done is in
      let wide : length s.words ≡ n + 1 = r.wide in let in_n : length r.stages ≤ t + n = r.within in record {
        stages = r.stages;
        me = me';
        first = set_here s.views 0 me' (at_length s.views 0 r.me r.first);
        awake = r.awake;
        some_cell = r.some_cell;
        sized = r.sized;
        wide = length-set s.words (c + 1) 0 ∙ r.wide;
        as_many = r.as_many;
        behind = let g : t + 1 ≤ length r.stages = omega arith in g;
        within = let g : length r.stages ≤ t + 1 + n = omega arith in g;
        stop_is = get_or-set_other s.words (c + 1) 0 0 0 (λ e. omega arith) ∙ r.stop_is;
        taking_is = λ e. absurd (Rattle.std.proofs.Common.true≢false (sym e));
        past = λ p a. past_take r.stages t p is (r.past p) a;
        few = r.few;
        finishes = λ i. same_finishes i s.views 0 r.me me' r.first refl ∙ r.finishes i;
        seats = length-set s.views 0 me' ∙ r.seats;
        crew = r.crew;
        each_spent = spents_stay s.views 0 me' r.awake r.each_spent;
        each_cell = λ q a b. let a' : t + 1 ≤ q = a in let b' : q < t + 1 + n = b in dite (ℕ_discrete q (t + n))
            (λ e. subst (λ (z : ℕ). IsCellShown f me' r.stages s' (place_in n z)) (sym e)
            (let turn : (t + n) % n ≡ c = add-mod_right t n in
            let out : get_elem? r.stages (t + n) ≡ none = at_above r.stages (t + n) in_n in
            let here = r.each_cell t (le_refl t) (omega arith) in
            let lies : Lies f r.me s (place_in n t)
            (some Done) = subst (Lies f r.me s (place_in n t)) is here.lies in record {
              word = ap (λ (z : ℕ). get_or words' (z + 1) 0) turn
                  ∙ (get_or-set_same s.words (c + 1) 0 0 (omega arith) ∙ ap (cell_word (t + n)) (sym out));
              lies = subst (Lies f me' s' (place_in n (t + n))) (sym out)
                  (ap (get_elem? s.homes) turn
                  ∙ (lies.2 ∙ (ap (λ (b : Bool). some (cond b none (some (Made (f lies.0)))))
                  (taking_hides r.me going) ∙ ap (λ (b : Bool). some (cond b none (some Empty))) (sym full))));
            }))
            (λ ne. let ok = r.each_cell q (omega arith) (omega arith) in
            let apart : q % n ≢ c = other_cell t q n (omega arith) (omega arith) (λ e. omega arith) in record {
              word = get_or-set_other s.words (c + 1) (q % n + 1) 0 0 (λ e. apart (omega arith)) ∙ ok.word;
              lies = lies_stay f r.me me' s s' (place_in n q) refl (idle_shows me' q refl
                  ∙ sym (not_hidden r.me q (λ e. omega arith))) (λ x e. e) refl
                  (λ w x. held_stays s.views 0 r.me me' w (held_job (q % n) q x) r.first refl)
                  (get_elem? r.stages q) ok.lies;
            });
        each_seat = seats_stay r.me me' r.stages r.stages n s.views r.first refl refl refl (λ p x e. e)
            (λ p w a e. (
              dite (ℕ_discrete p t)
                  (λ x. absurd (done_not_busy (get_elem? r.stages p) w (ap (get_elem? r.stages) x ∙ is) e))
                  (λ ne. let g : t + 1 ≤ p = omega arith in g),
              e,
            )) r.each_seat;
      }

  -- the conductor only notes the load
  look_on : (n slots id : ℕ) (m : SeatState J D) (i : ℕ) (s : St J D) (r : Shows f (ring n crew) s) → id ≡ 0
      → r.me ≡ m.0 → FoundAlone slots i m.0 (get_or s.words i 0) → get_or s.words i 0 % 4 ≢ 2
      → Goes f crew n s i id m (get_or s.words i 0) (GrabTells f (step slots i 0 0 none) m (get_or s.words i 0))
  look_on n slots id m i s r first is lone other = let found : ℕ = get_or s.words i 0 in
      let k : Read = read i None found in
      let S : List ℕ → ℕ → View J → Type 0 = λ ws z v. Shows f (ring n crew) record {
        words = ws;
        homes = s.homes;
        views = set s.views z (after_read v k);
      } in
      let start : S s.words 0 r.me = read_shows f crew n s r 0 r.me k r.first r.awake in
      let now : S (set s.words i found) id m.0 = subst (λ ws. S ws id m.0) (sym (set-get_or s.words i 0))
      (subst (λ z. S s.words z m.0) (sym first) (subst (λ v. S s.words 0 v) is start)) in
      (after_read m.0 k, keeps, tt, now, ((λ e. absurd (other e)), (λ _. refl), lone))

  -- the conductor takes the slot
  grab_on : (n slots id : ℕ) (m : SeatState J D) (i : ℕ) (s : St J D) (r : Shows f (ring n crew) s) → slots ≡ n → id ≡ 0
      → r.me ≡ m.0 → m.0.taking ≡ false → FoundAlone slots i m.0 (get_or s.words i 0)
      → get_elem? r.stages r.me.taken ≡ some Done → get_or s.words i 0 % 4 ≡ 2
      → Goes f crew n s i id m (get_or s.words i 0) (GrabTells f (step slots i 0 0 none) m (get_or s.words i 0))
  grab_on n slots id m i s r sized first is idle lone stage two = let found : ℕ = get_or s.words i 0 in
      let k : Read = read i None found in let t : ℕ = r.me.taken in let pos : 0 < n = r.some_cell in
      let idle' : r.me.taking ≡ false = ap (λ (v : View J). v.taking) is ∙ idle in
      let lies : Lies f r.me s (place_in n t) (some Done) =
      subst (Lies f r.me s (place_in n t)) stage (r.each_cell t (le_refl t) (omega arith)).lies in let j : J = lies.0 in
      let home : get_elem? s.homes (t % n) ≡ some (some (Made (f j))) = lies.2
      ∙ ap (λ (b : Bool). some (cond b none (some (Made (f j))))) (idle_shows r.me t idle') in
      let place : t % n ≡ m.0.taken % slots = ap (λ (v : View J). v.taken % n) is
      ∙ ap (λ (z : ℕ). m.0.taken % z) (sym sized) in
      let S : List ℕ → ℕ → ℕ → View J → Type 0 = λ ws z c v. Shows f (ring n crew) record {
        words = ws;
        homes = set s.homes c none;
        views = set s.views z (after_grab v k);
      } in
      let start : S s.words 0 (t % n) r.me = grab_shows n s r k idle' stage in
      let now : S (set s.words i found) id
      (m.0.taken % slots) m.0 = subst (λ ws. S ws id (m.0.taken % slots) m.0) (sym (set-get_or s.words i 0))
      (subst (λ z. S s.words z (m.0.taken % slots) m.0) (sym first)
      (subst (λ c. S s.words 0 c m.0) place (subst (λ v. S s.words 0 (t % n) v) is start))) in (
        after_grab m.0 k,
        takes (m.0.taken % slots) (Made (f j)),
        ap (get_elem? s.homes) (sym place) ∙ home,
        now,
        (
          (λ _. (j, subst (λ (v : View J). get_elem? v.jobs v.taken ≡ some j) is lies.1, refl)),
          (λ ne. absurd (ne two)),
          lone,
        ),
      )

  -- take's load
  grab_cases : (n slots id : ℕ) (m : SeatState J D) (i : ℕ) (s : St J D) (r : Shows f (ring n crew) s) → slots ≡ n
      → id ≡ 0 → r.me ≡ m.0 → m.0.taking ≡ false → FoundAlone slots i m.0 (get_or s.words i 0)
      → (st : Stage) → get_elem? r.stages r.me.taken ≡ some st
      → get_or s.words i 0 ≡ r.me.taken * WORD_BASE + stage_code st
      → Goes f crew n s i id m (get_or s.words i 0) (GrabTells f (step slots i 0 0 none) m (get_or s.words i 0))
  grab_cases n slots id m i s r sized first is idle lone Ready stage found =
      look_on n slots id m i s r first is lone
      (λ e. let tag : get_or s.words i 0 % 4 ≡ 1 = ap (λ (z : ℕ). z % 4) found ∙ tag_of r.me.taken 1 in
      absurd (omega (arith, e, tag)))
  grab_cases n slots id m i s r sized first is idle lone Done stage found =
      grab_on n slots id m i s r sized first is idle lone stage (ap (λ (z : ℕ). z % 4) found ∙ tag_of r.me.taken 2)
  grab_cases n slots id m i s r sized first is idle lone (Busy w) stage found = look_on n slots id m i s r first is lone
      (λ e. let tag : get_or s.words i 0 % 4 ≡ 3 = ap (λ (z : ℕ). z % 4) found
      ∙ (tag_of r.me.taken (4 * w + 3) ∙ mul-add-mod_self_left 4 w 3) in absurd (omega (arith, e, tag)))

  pub grabs_go : (n slots id : ℕ) (m : SeatState J D) (i : ℕ) → slots ≡ n → id ≡ 0 → m.0.taken < length m.0.jobs
      → m.0.taking ≡ false → i ≡ m.0.taken % n + 1
      → Allows (Shows f (ring n crew)) slots id m i (λ z. z) (GrabTells f (step slots i 0 0 none) m)
  grabs_go n slots id m i sized first some_job idle word s r wide at _ =
      let is : r.me ≡ m.0 = some-injective r.me m.0 (sym r.first ∙ (ap (get_elem? s.views) (sym first) ∙ at)) in
      let got = at_below r.stages r.me.taken (subst (λ (v : View J). v.taken < length r.stages) (sym is)
      (subst (λ (z : ℕ). m.0.taken < z) (ap (λ (v : View J). length v.jobs) (sym is) ∙ sym r.as_many) some_job)) in
      let w : i ≡ r.me.taken % n + 1 = word ∙ ap (λ (v : View J). v.taken % n + 1) (sym is) in
      let pos : 0 < n = r.some_cell in
      let live : m.0.spent ≡ false = ap (λ (v : View J). v.spent) (sym is) ∙ r.awake in
      let lone : FoundAlone slots i m.0 (get_or s.words i 0) = subst (λ z. FoundAlone z i m.0
      (get_or s.words i 0)) (sym sized) (found_alone f crew n s r id m.0 i at live) in
      grab_cases n slots id m i s r sized first is idle lone got.0 got.1 (ap (λ (z : ℕ). get_or s.words z 0) w
      ∙ ((r.each_cell r.me.taken (le_refl r.me.taken) (omega arith)).word ∙ ap (cell_word r.me.taken) got.1))

  -- take's store
  pub takes_go : (n slots id : ℕ) (m : SeatState J D) (i : ℕ) → id ≡ 0 → m.0.taking ≡ true → m.0.stocked ≡ true
      → i ≡ m.0.taken % n + 1
      → Allows (Shows f (ring n crew)) slots id m i (λ _. 0) (λ _. TakeTells (step slots i 0 0 none) m 0)
  takes_go n slots id m i first going full word s r wide at _ =
      let is : r.me ≡ m.0 = some-injective r.me m.0 (sym r.first ∙ (ap (get_elem? s.views) (sym first) ∙ at)) in
      let w : i ≡ r.me.taken % n + 1 = word ∙ ap (λ (v : View J). v.taken % n + 1) (sym is) in
      let S : ℕ → ℕ → View J → Type 0 = λ x z v. Shows f (ring n crew) record {
        words = set s.words x 0;
        homes = s.homes;
        views = set s.views z (after_take v);
      } in
      let start : S (r.me.taken % n + 1) 0 r.me = take_shows n s r (ap (λ (v : View J). v.taking) is ∙ going)
      (ap (λ (v : View J). v.stocked) is ∙ full) in
      let now : S i id m.0 = subst (λ x. S x id m.0) (sym w)
      (subst (λ z. S (r.me.taken % n + 1) z m.0) (sym first) (subst (λ v. S (r.me.taken % n + 1) 0 v) is start)) in
      (after_take m.0, keeps, tt, now, refl)

  -- a new worker's seat
  pub splits_go : (n id : ℕ) (v : View J) → id ≡ 0 → v.split_off < crew
      → Splits (Shows f (ring n crew)) id v (after_split v) (new_view (v.split_off + 1))
  splits_go n id v first room s r at =
      let is : r.me ≡ v = some-injective r.me v (sym r.first ∙ (ap (get_elem? s.views) (sym first) ∙ at)) in
      let S : ℕ → View J → Type 0 = λ z u. Shows f (ring n crew) record {
        words = s.words;
        homes = s.homes;
        views = set s.views z (after_split u) ++ new_view (u.split_off + 1) ∷ [];
      } in
      let start : S 0 r.me = split_shows n s r (subst (λ (u : View J). u.split_off < crew) (sym is) room) in
      subst (λ z. S z v) (sym first) (subst (λ u. S 0 u) is start)

  -- the stop word is set
  unfoldable pub stop_shows : (n : ℕ) (s : St J D) (r : Shows f (ring n crew) s) → Shows f (ring n crew)
      record { words = set s.words 0 1; homes = s.homes; views = set s.views 0 (after_stop r.me) }
  stop_shows n s r = let me' : View J = after_stop r.me in let wide : length s.words ≡ n + 1 = r.wide in
      let s' : St J D = record { words = set s.words 0 1; homes = s.homes; views = set s.views 0 me' } in record {
        stages = r.stages;
        me = me';
        first = set_here s.views 0 me' (at_length s.views 0 r.me r.first);
        awake = r.awake;
        some_cell = r.some_cell;
        sized = r.sized;
        wide = length-set s.words 0 1 ∙ r.wide;
        as_many = r.as_many;
        behind = r.behind;
        within = r.within;
        stop_is = get_or-set_same s.words 0 1 0 (omega arith);
        taking_is = r.taking_is;
        past = r.past;
        few = r.few;
        finishes = λ i. same_finishes i s.views 0 r.me me' r.first refl ∙ r.finishes i;
        seats = length-set s.views 0 me' ∙ r.seats;
        crew = r.crew;
        each_spent = spents_stay s.views 0 me' r.awake r.each_spent;
        each_cell = λ q a b. let ok = r.each_cell q a b in
            record {
              word = get_or-set_other s.words 0 (q % n + 1) 1 0 (λ e. omega arith) ∙ ok.word;
              lies = lies_stay f r.me me' s s' (place_in n q) refl refl (λ x e. e) refl
                  (λ w x. held_stays s.views 0 r.me me' w (held_job (q % n) q x) r.first refl)
                  (get_elem? r.stages q) ok.lies;
            };
        each_seat = seats_stay r.me me' r.stages r.stages n s.views r.first refl refl refl (λ p x e. e)
            (λ p w a e. (a, e)) r.each_seat;
      }

  pub stops_go : (n slots id : ℕ) (m : SeatState J D) → id ≡ 0
      → Allows (Shows f (ring n crew)) slots id m 0 (λ _. 1) (λ _. StopTells (step slots 0 1 0 none) m 1)
  stops_go n slots id m first s r wide at _ =
      let is : r.me ≡ m.0 = some-injective r.me m.0 (sym r.first ∙ (ap (get_elem? s.views) (sym first) ∙ at)) in
      let S : ℕ → View J → Type 0 = λ z v. Shows f (ring n crew) record {
        words = set s.words 0 1;
        homes = s.homes;
        views = set s.views z (after_stop v);
      } in
      let start : S 0 r.me = stop_shows n s r in
      (after_stop m.0, keeps, tt, subst (λ z. S z m.0) (sym first) (subst (λ v. S 0 v) is start), refl)
