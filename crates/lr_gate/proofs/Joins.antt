-- The conductor takes a worker's seat in.
use Rattle.std.proofs.Common.{◌≡◌, ℕ, zero, suc, ◌+◌, ◌%◌, ◌≢◌, List, [], ◌∷◌, ◌++◌, set, sym, refl, ap, ◌∙◌, subst}
use Rattle.std.proofs.Common.{⊎_elim, arith, length-set, true≢false, None}
use mathlib.Core.Option.{some, some-injective, some-ne-none}
use lib.ListN.{get_elem?}
use Rattle.atomic_table.specs.Table.{Joins}
use Rattle.atomic_table.proofs.Lists.{at_set, set_here, set_else}
use Rattle.lr_gate.specs.declared.view.View.{View}
use Rattle.lr_gate.specs.Shows.{held_job, count_of, finishes_of, IsJoinedView, Shows, place_in}
use Rattle.lr_gate.specs.Steps.{after_join, spent_view}
use Rattle.lr_gatecore.proofs.Lists.{at_length}
use Rattle.lr_gate.proofs.Lists.{none_not_some}
use Rattle.lr_gate.proofs.Keeps.{St, lies_stay, ring}
use Rattle.lr_gate.proofs.Works.{held_apart}

times_both : (i : ℕ) (xs ys : List ℕ) → count_of i (xs ++ ys) ≡ count_of i xs + count_of i ys
times_both i [] ys = let e : count_of i ys ≡ 0 + count_of i ys = omega arith in e
times_both i (x ∷ xs) ys = let e = times_both i xs ys in omega (arith, e)

module _ {J : Type 0} where
  -- a list of finished jobs that takes the place of another changes the count by their difference
  changed : (i : ℕ) (vs : List (View J)) (k : ℕ) (v v' : View J) → get_elem? vs k ≡ some v
      → finishes_of i (set vs k v') + count_of i v.finished ≡ finishes_of i vs + count_of i v'.finished
  changed i [] k v v' at = absurd (some-ne-none v (sym at))
  changed i (x ∷ xs) zero v v' at =
      let e : count_of i v.finished ≡ count_of i x.finished = ap (λ (y : View J). count_of i y.finished)
      (sym (some-injective x v at)) in omega (arith, e)
  changed i (x ∷ xs) (suc k) v v' at = let e = changed i xs k v v' at in omega (arith, e)

  both_counts : (i : ℕ) (vs : List (View J)) (k : ℕ) (v w : View J) → get_elem? vs 0 ≡ some v
      → get_elem? (set vs 0 (after_join v w)) k ≡ some w
      → finishes_of i (set (set vs 0 (after_join v w)) k spent_view) ≡ finishes_of i vs
  both_counts i vs k v w at there = let a = changed i vs 0 v (after_join v w) at in
      let b = changed i (set vs 0 (after_join v w)) k w spent_view there in
      let c = times_both i v.finished w.finished in omega (arith, a, b, c)

module _ {J D : Type 0} (f : J → D) (crew : ℕ) where
  join_shows : (n : ℕ) (s : St J D) (r : Shows f (ring n crew) s) (k : ℕ) (w : View J) → k ≢ 0
      → get_elem? (set s.views 0 (after_join r.me w)) k ≡ some w → w.held ≡ None
      → Shows f (ring n crew) record {
        words = s.words;
        homes = s.homes;
        views = set (set s.views 0 (after_join r.me w)) k spent_view;
      }
  join_shows n s r k w other there free = let me' : View J = after_join r.me w in
      let mid : List (View J) = set s.views 0 me' in
      let s' : St J D = record { words = s.words; homes = s.homes; views = set mid k spent_view } in
      let first : get_elem? mid 0 ≡ some me' = set_here s.views 0 me' (at_length s.views 0 r.me r.first) in record {
        stages = r.stages;
        me = me';
        first = set_else mid k 0 spent_view (λ e. other (sym e)) ∙ first;
        awake = r.awake;
        some_cell = r.some_cell;
        sized = r.sized;
        wide = r.wide;
        as_many = r.as_many;
        behind = r.behind;
        within = r.within;
        stop_is = r.stop_is;
        taking_is = r.taking_is;
        past = r.past;
        few = r.few;
        finishes = λ i. both_counts i s.views k r.me w r.first there ∙ r.finishes i;
        seats = length-set mid k spent_view ∙ (length-set s.views 0 me' ∙ r.seats);
        crew = r.crew;
        each_cell = λ q a b. let ok = r.each_cell q a b in record {
          word = ok.word;
          lies = lies_stay f r.me me' s s' (place_in n q) refl refl (λ x e. e) refl
              (λ by x h. held_apart mid k w spent_view by (held_job (q % n) q x) there
              (λ e. none_not_some (held_job (q % n) q x) (sym free ∙ e))
              (Rattle.lr_gate.proofs.Keeps.held_stays s.views 0 r.me me' by
              (held_job (q % n) q x) r.first refl h)) (get_elem? r.stages q) ok.lies;
        };
        each_seat = λ j v e live. ⊎_elim
            (λ (x : (j ≡ k) × (spent_view ≡ v)). absurd (true≢false (ap (λ (y : View J). y.spent) x.1 ∙ live)))
            (λ (x : (j ≢ k) × (get_elem? mid j ≡ some v)). ⊎_elim
            (λ (y : (j ≡ 0) × (me' ≡ v)). let ok = r.each_seat j r.me (ap (get_elem? s.views) y.0 ∙ r.first)
            (ap (λ (z : View J). z.spent) y.1 ∙ live) in
            record {
              numbered = ap (λ (z : View J). z.number) (sym y.1) ∙ ok.numbered;
              holds = λ h is. ok.holds h (ap (λ (z : View J). z.held) y.1 ∙ is);
            })
            (λ (y : (j ≢ 0) × (get_elem? s.views j ≡ some v)). let ok = r.each_seat j v y.1 live in
            record { numbered = ok.numbered; holds = ok.holds })
            (at_set s.views 0 j me' v x.1))
            (at_set mid k j spent_view v e);
        each_spent = λ j v e gone. ⊎_elim
            (λ (x : (j ≡ k) × (spent_view ≡ v)). subst IsJoinedView x.1 record {
              nothing = refl;
              no_job = refl;
              no_read = refl;
            })
            (λ (x : (j ≢ k) × (get_elem? mid j ≡ some v)). ⊎_elim
            (λ (y : (j ≡ 0) × (me' ≡ v)). absurd
            (true≢false (sym gone ∙ (ap (λ (z : View J). z.spent) (sym y.1) ∙ r.awake))))
            (λ (y : (j ≢ 0) × (get_elem? s.views j ≡ some v)). r.each_spent j v y.1 gone)
            (at_set s.views 0 j me' v x.1))
            (at_set mid k j spent_view v e);
      }

  pub joins_go : (n id : ℕ) (v : View J) (k : ℕ) (w : View J) → id ≡ 0 → w.held ≡ None
      → Joins (Shows f (ring n crew)) id v k w (after_join v w) spent_view
  joins_go n id v k w first free s r at other there =
      let is : r.me ≡ v = some-injective r.me v (sym r.first ∙ (ap (get_elem? s.views) (sym first) ∙ at)) in
      let S : ℕ → View J → Type 0 = λ z u. Shows f (ring n crew) record {
        words = s.words;
        homes = s.homes;
        views = set (set s.views z (after_join u w)) k spent_view;
      } in
      let there' : get_elem? (set s.views 0 (after_join r.me w)) k ≡ some w = ap (λ z. get_elem?
      (set s.views z (after_join r.me w)) k) (sym first)
      ∙ (ap (λ (u : View J). get_elem? (set s.views id (after_join u w)) k) is ∙ there) in
      let start : S 0 r.me = join_shows n s r k w (λ e. other (e ∙ sym first)) there' free in
      subst (λ z. S z v) (sym first) (subst (λ u. S 0 u) is start)
