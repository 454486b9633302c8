-- How the ring starts.
use Rattle.std.proofs.Common.{◌≡◌, ℕ, zero, suc, ◌+◌, ◌%◌, ◌<◌, ◌≤◌, Bool, true, false, cond, List, [], ◌∷◌, ◌++◌}
use Rattle.std.proofs.Common.{map, length, get_or, set, replicate, sym, refl, ap, ◌∙◌, subst, ⊎_elim, arith, le_refl}
use Rattle.std.proofs.Common.{length-set, mod-lt, mod-eq_of_lt, append_assoc, append-nil, zero-le, Option, Some, None}
use Rattle.std.proofs.lemmas.List.{set-get_or}
use mathlib.Core.Option.{none, some, some-injective, some-ne-none}
use mathlib.Core.Option as maybe
use mathlib.Core.Logic.{dite}
use native.Mathlib.Decide.{ℕ_discrete}
use lib.ListN.{get_elem?, length-map, length-replicate}
use Rattle.atomic_table.specs.Table.{step, Act, keeps, takes, chain, Valid, Allows, carried_after, homes_after, opening}
use Rattle.atomic_table.proofs.Lists.{set_here, set_else}
use Rattle.lr_gate.specs.declared.slot_value.SlotValue.{SlotValue}
use Rattle.lr_gate.specs.declared.slot_value.SlotValue.TheVariants.{Empty}
use Rattle.lr_gate.specs.declared.view.View.{View}
use Rattle.lr_gate.specs.Shows.{Lies, Shows, place_in}
use Rattle.lr_gate.specs.Steps.{SeatState, new_view, after_stock, free_cells, StockTells}
use Rattle.lr_gatecore.proofs.Lists.{at_above, at_length}
use Rattle.lr_gate.proofs.Lists.{at_end, none_not_some, same_finishes, free_snoc_at}
use Rattle.lr_gate.proofs.Alike.{spents_stay}
use Rattle.lr_gate.proofs.Keeps.{St, Homes, ring}
use Rattle.lr_gate.proofs.Takes.{seats_stay}

zeros : (k j : ℕ) → ◌≡◌ {A = ℕ} (get_or (replicate k 0) j 0) 0
zeros zero j = refl
zeros (suc k) zero = refl
zeros (suc k) (suc j) = zeros k j

abbrev Row : Type 0 → Type 0 → Type 0
Row J D = List (ℕ × SlotValue J D)

module _ {J D : Type 0} where
  blank : (n i : ℕ) → i < n → get_elem? (map some (replicate {A = SlotValue J D} n Empty)) i ≡ some (some Empty)
  blank zero i near = absurd (omega arith)
  blank (suc n) zero near = refl
  blank (suc n) (suc i) near = blank n i (omega arith)

  -- all slots below m are taken, so that the first is in front
  take_all : ℕ → Act (SlotValue J D)
  take_all zero = keeps
  take_all (suc m) = chain (takes m Empty) (take_all m)

  all_valid : (m : ℕ) (hs : Homes J D) (cs : Row J D) → ((j : ℕ) → j < m → get_elem? hs j ≡ some (some Empty))
      → Valid hs cs (take_all m)
  unfolding take_all
  all_valid zero hs cs h = tt
  all_valid (suc m) hs cs h = (
    h m (omega arith),
    all_valid m (set hs m none) ((m, Empty) ∷ cs)
        (λ j l. set_else hs m j none (λ e. omega arith) ∙ h j (omega arith)),
  )

  homes_out : (m : ℕ) (hs : Homes J D) (cs : Row J D) (j : ℕ) → m ≤ j
      → get_elem? (homes_after hs cs (take_all m)) j ≡ get_elem? hs j
  unfolding take_all
  homes_out zero hs cs j l = refl
  homes_out (suc m) hs cs j l = homes_out m (set hs m none) ((m, Empty) ∷ cs) j (omega arith)
      ∙ set_else hs m j none (λ e. omega arith)

  homes_long : (m : ℕ) (hs : Homes J D) (cs : Row J D) → length (homes_after hs cs (take_all m)) ≡ length hs
  unfolding take_all
  homes_long zero hs cs = refl
  homes_long (suc m) hs cs = homes_long m (set hs m none) ((m, Empty) ∷ cs) ∙ length-set hs m none

  homes_taken : (m : ℕ) (hs : Homes J D) (cs : Row J D) (j : ℕ) → m ≤ length hs → j < m
      → get_elem? (homes_after hs cs (take_all m)) j ≡ some none
  unfolding take_all
  homes_taken zero hs cs j long l = absurd (omega arith)
  homes_taken (suc m) hs cs j long l = let hs' : Homes J D = set hs m none in
      let cs' : Row J D = (m, Empty) ∷ cs in dite (ℕ_discrete j m)
      (λ e. ap (get_elem? (homes_after hs' cs' (take_all m))) e
      ∙ (homes_out m hs' cs' m (le_refl m) ∙ set_here hs m none (omega arith)))
      (λ ne. homes_taken m hs' cs' j (let x : length hs' ≡ length hs = length-set hs m none in
      omega arith) (omega arith))

  carried_all : (n m : ℕ) (cs : Row J D) → m ≤ n → carried_after cs (take_all m) ≡ free_cells n 0 m ++ cs
  unfolding take_all
  carried_all n zero cs l = refl
  carried_all n (suc m) cs l = carried_all n m ((m, Empty) ∷ cs) (omega arith)
      ∙ (sym (append_assoc (free_cells n 0 m) ((m, Empty) ∷ []) cs)
      ∙ ap (λ (xs : Row J D). xs ++ cs) (ap (λ (z : ℕ). free_cells n 0 m ++ (z, Empty) ∷ [])
      (sym (ap (λ (z : ℕ). z % n) (let e : 0 + m ≡ m = omega arith in
      e) ∙ mod-eq_of_lt (let g : m < n = omega arith in g))) ∙ free_snoc_at n 0 m))

module _ {J D : Type 0} (f : J → D) (crew : ℕ) where
  -- all cells are free and at home
  pub opens : (n : ℕ) → 0 < n → Shows f (ring n crew) (opening (replicate (n + 1) 0) (replicate n Empty) (new_view 0))
  opens n pos = let hs : List (SlotValue J D) = replicate n Empty in let me : View J = new_view 0 in record {
    stages = [];
    me = me;
    first = refl;
    awake = refl;
    some_cell = pos;
    sized = length-map hs some ∙ length-replicate n Empty;
    wide = length-replicate (n + 1) 0;
    as_many = refl;
    behind = omega arith;
    within = omega arith;
    stop_is = zeros (n + 1) 0;
    taking_is = λ e. absurd (Rattle.std.proofs.Common.true≢false (sym e));
    past = λ p l. absurd (omega arith);
    few = omega arith;
    finishes = λ i. refl;
    seats = refl;
    crew = omega arith;
    each_spent = λ j v e gone. ⊎_elim (λ (x : get_elem? [] j ≡ some v). absurd (some-ne-none v (sym x)))
        (λ (x : (j ≡ 0) × (me ≡ v)). absurd
        (Rattle.std.proofs.Common.true≢false (sym gone ∙ ap (λ (y : View J). y.spent) (sym x.1)))) (at_end [] me v j e);
    each_cell = λ q a b. record { word = zeros (n + 1) (q % n + 1); lies = blank n (q % n) (mod-lt q pos) };
    each_seat = λ j v e live. ⊎_elim (λ (x : get_elem? [] j ≡ some v). absurd (some-ne-none v (sym x)))
        (λ (x : (j ≡ 0) × (me ≡ v)). record {
          numbered = ap (λ (y : View J). y.number) (sym x.1) ∙ sym x.0;
          holds = λ h is. absurd (none_not_some h (ap (λ (y : View J). y.held) x.1 ∙ is));
        })
        (at_end [] me v j e);
  }

  -- the conductor picks all cells up
  stock_shows : (n : ℕ) (s : St J D) (r : Shows f (ring n crew) s) (homes' : List (maybe.Option (SlotValue J D)))
      → r.me.jobs ≡ [] → length homes' ≡ n → ((c : ℕ) → c < n → get_elem? homes' c ≡ some none)
      → Shows f (ring n crew) record { words = s.words; homes = homes'; views = set s.views 0 (after_stock r.me) }
  stock_shows n s r homes' none_put long out = let me' : View J = after_stock r.me in
      let s' : St J D = record { words = s.words; homes = homes'; views = set s.views 0 me' } in
      let empty : length r.stages ≡ 0 = r.as_many ∙ ap length none_put in record {
        stages = r.stages;
        me = me';
        first = set_here s.views 0 me' (at_length s.views 0 r.me r.first);
        awake = r.awake;
        some_cell = r.some_cell;
        sized = long;
        wide = r.wide;
        as_many = r.as_many;
        behind = r.behind;
        within = r.within;
        stop_is = r.stop_is;
        taking_is = r.taking_is;
        past = r.past;
        few = r.few;
        finishes = λ i. same_finishes i s.views 0 r.me me' r.first refl ∙ r.finishes i;
        seats = length-set s.views 0 me' ∙ r.seats;
        crew = r.crew;
        each_spent = spents_stay s.views 0 me' r.awake r.each_spent;
        each_cell = λ q a b. let ok = r.each_cell q a b in
            let free : get_elem? r.stages q ≡ none = at_above r.stages q (omega arith) in
            record {
              word = ok.word;
              lies = subst (Lies f me' s' (place_in n q)) (sym free)
                  (out (q % n) (mod-lt q r.some_cell));
            };
        each_seat = seats_stay r.me me' r.stages r.stages n s.views r.first refl refl refl (λ p x e. e)
            (λ p w a e. (a, e)) r.each_seat;
      }

  pub stocks_go : (n slots id : ℕ) (m : SeatState J D) (i : ℕ) → slots ≡ n → id ≡ 0 → m ≡ (new_view 0, [])
      → Allows (Shows f (ring n crew)) slots id m i (λ z. z) (StockTells (step slots i 0 0 none) m)
  stocks_go n slots id m i sized first start s r wide at _ = let found : ℕ = get_or s.words i 0 in
      let fresh : m.0 ≡ new_view 0 = ap (λ (x : SeatState J D). x.0) start in
      let is : r.me ≡ m.0 = some-injective r.me m.0 (sym r.first ∙ (ap (get_elem? s.views) (sym first) ∙ at)) in
      let is' : r.me ≡ new_view 0 = is ∙ fresh in
      let no_job : r.me.jobs ≡ [] = ap (λ (v : View J). v.jobs) is' in
      let home : (j : ℕ) → j < n → get_elem? s.homes j ≡ some (some Empty) = λ j l.
      let t : r.me.taken ≡ 0 = ap (λ (v : View J). v.taken) is' in
      let none_out : length r.stages ≡ 0 = r.as_many ∙ ap length no_job in
      let ok = r.each_cell j (omega arith) (omega arith) in
      let free : get_elem? r.stages j ≡ none = at_above r.stages j (omega arith) in
      let lies : Lies f r.me s (place_in n j) none =
      subst (Lies f r.me s (place_in n j)) free ok.lies in
      ap (get_elem? s.homes) (sym (mod-eq_of_lt l))
      ∙ (lies ∙ ap (λ (b : Bool). some (cond b none (some Empty))) (ap (λ (v : View J). v.stocked) is')) in
      let act : Act (SlotValue J D) = take_all n in
      let homes' : List (maybe.Option (SlotValue J D)) = homes_after s.homes m.1 act in
      let S : List ℕ → ℕ → View J → Type 0 = λ ws z v. Shows f (ring n crew) record {
        words = ws;
        homes = homes';
        views = set s.views z (after_stock v);
      } in
      let start' : S s.words 0 r.me = stock_shows n s r homes' no_job (homes_long n s.homes m.1 ∙ r.sized)
      (λ c l. homes_taken n s.homes m.1 c (subst (λ (z : ℕ). n ≤ z) (sym r.sized) (le_refl n)) l) in
      let now : S (set s.words i found) id m.0 = subst (λ ws. S ws id m.0) (sym (set-get_or s.words i 0))
      (subst (λ z. S s.words z m.0) (sym first) (subst (λ v. S s.words 0 v) is start')) in (
        after_stock m.0,
        act,
        all_valid n s.homes m.1 home,
        now,
        ap (λ (cs : Row J D). (after_stock m.0, cs)) (carried_all n n m.1 (le_refl n)
            ∙ (ap (λ (cs : Row J D). free_cells n 0 n ++ cs) (ap (λ (x : SeatState J D). x.1) start)
            ∙ (append-nil (free_cells n 0 n) ∙ ap (λ (z : ℕ). free_cells z 0 z) (sym sized)))),
      )
