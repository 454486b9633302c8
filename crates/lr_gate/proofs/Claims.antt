-- What the steps of a claim and a finish need and tell.
use Rattle.std.proofs.Common.{◌≡◌, ℕ, zero, suc, ◌+◌, ◌-◌, ◌*◌, ◌/◌, ◌%◌, ◌<◌, ◌≤◌, ◌≢◌, eqb, false, List, []}
use Rattle.std.proofs.Common.{◌∷◌, ◌++◌, length, get_or, set, sym, refl, ap, ◌∙◌, subst, arith, mod-lt, suc-mul}
use Rattle.std.proofs.Common.{div-add-mod', lt_of_not-le, Some, None}
use Rattle.std.proofs.lemmas.List.{set-get_or}
use Rattle.std.proofs.lemmas.Nat.{mod-mul-add}
use Rattle.std.proofs.Math.Nat.{mul-add-mod_self_left}
use mathlib.Core.Option.{none, some, some-injective, some-ne-none}
use mathlib.Core.Option as maybe
use native.Mathlib.Decide.{dec_le}
use prog.Atomic.{either}
use lib.ListN.{get_elem?}
use Rattle.atomic_table.specs.Table.{State, Step, step, Act, keeps, takes, stepped, Valid, Allows, carried_after, rest}
use Rattle.atomic_table.specs.Table as table
use Rattle.atomic_table.proofs.Lists.{exchanged}
use Rattle.lr_gate.specs.declared.slot_value.SlotValue.{SlotValue}
use Rattle.lr_gate.specs.declared.slot_value.SlotValue.TheVariants.{Given, Made}
use Rattle.lr_gate.specs.declared.view.Held.{Held}
use Rattle.lr_gate.specs.declared.view.Read.{Read}
use Rattle.lr_gate.specs.declared.view.View.{View}
use Rattle.lr_gatecore.specs.declared.stage.Stage.{Stage}
use Rattle.lr_gatecore.specs.declared.stage.Stage.TheVariants.{Ready, Busy, Done}
use Rattle.lr_gate.specs.Words.{cell_word, finish_count}
use Rattle.lr_gate.specs.Shows.{held_job, count_of, finishes_of, Lies, Shows, place_in}
use Rattle.lr_gate.specs.Steps.{FoundAlone, read, SeatState, after_read, after_claim, after_finish, LookTells}
use Rattle.lr_gate.specs.Steps.{ClaimTells, FinishTells}
use Rattle.lr_gatecore.specs.declared.sizes.TheConstants.{MOST_JOBS, WORD_BASE}
use Rattle.lr_gatecore.proofs.Lists.{at_length}
use Rattle.lr_gate.proofs.Lists.{tag_of}
use Rattle.lr_gate.proofs.Keeps.{St, Goes, ring}
use Rattle.lr_gate.proofs.Looks.{read_shows}
use Rattle.lr_gate.proofs.Alone.{found_alone}
use Rattle.lr_gate.proofs.Works.{claim_shows, finish_shows}

-- each cell has one job number in the window
abbrev pub Spot : ℕ → ℕ → ℕ → Type 0
Spot n t c = (p : ℕ) × (t ≤ p) × (p < t + n) × (p % n ≡ c)

spot_by : (n t c : ℕ) → c < n → Dec (t % n ≤ c) → t % n < n → Spot n t c
spot_by n t c near (yes le) low = let q : ℕ = t / n in let x : ℕ = q * n in let y : ℕ = t % n in
    let e : x + y ≡ t = div-add-mod' t n in let le' : y ≤ c = le in (
      q * n + c,
      (let g : t ≤ x + c = omega arith in g),
      (let low' : y < n = low in
          let g : x + c < t + n = omega arith in g),
      mod-mul-add q n c near,
    )
spot_by n t c near (no g) low = let q : ℕ = t / n in let x : ℕ = q * n in let y : ℕ = t % n in
    let e : x + y ≡ t = div-add-mod' t n in let more : c < y = lt_of_not-le g in let z : ℕ = suc q * n in
    let next : z ≡ x + n = suc-mul q n in (
      suc q * n + c,
      (let low' : y < n = low in let h : t ≤ z + c = omega arith in
          h),
      (let h : z + c < t + n = omega arith in h),
      mod-mul-add (suc q) n c near,
    )

pub spot : (n t c : ℕ) → 0 < n → c < n → Spot n t c
spot n t c pos near = spot_by n t c near (dec_le (t % n) c) (mod-lt t pos)

ready_tag : (o : maybe.Option Stage) (p : ℕ) → cell_word p o % 4 ≡ 1 → o ≡ some Ready
ready_tag none p e = absurd (omega (arith, e))
ready_tag (some Ready) p e = refl
ready_tag (some Done) p e = let t = tag_of p 2 in absurd (omega (arith, e, t))
ready_tag (some (Busy w)) p e = let t : (p * WORD_BASE + (4 * w + 3)) % 4 ≡ 3 = tag_of p (4 * w + 3)
    ∙ mul-add-mod_self_left 4 w 3 in absurd (omega (arith, e, t))

module _ {J : Type 0} where
  -- where no list has the number, a seat's list doesn't
  none_there : (i : ℕ) (vs : List (View J)) (k : ℕ) (v : View J) → get_elem? vs k ≡ some v → finishes_of i vs ≡ 0
      → count_of i v.finished ≡ 0
  none_there i [] k v at e = absurd (some-ne-none v (sym at))
  none_there i (x ∷ xs) zero v at e = ap (λ (y : View J). count_of i y.finished) (sym (some-injective x v at))
      ∙ (let g : count_of i x.finished ≡ 0 = omega (arith, e) in g)
  none_there i (x ∷ xs) (suc k) v at e = none_there i xs k v at (omega (arith, e))

module _ {J D : Type 0} (f : J → D) (crew : ℕ) where
  -- a cell whose word is ready
  abbrev IsReady : (n : ℕ) (s : St J D) → Shows f (ring n crew) s → ℕ → ℕ → Type 0
  IsReady n s r c found = (p : ℕ) × (r.me.taken ≤ p) × (p < r.me.taken + n) × (p % n ≡ c)
      × (get_elem? r.stages p ≡ some Ready) × (found ≡ p * WORD_BASE + 1) × (p < MOST_JOBS)

  ready_at : (n : ℕ) (s : St J D) (r : Shows f (ring n crew) s) (c : ℕ) → c < n → get_or s.words (c + 1) 0 % 4 ≡ 1
      → IsReady n s r c (get_or s.words (c + 1) 0)
  ready_at n s r c near one = let at = spot n r.me.taken c r.some_cell near in let p : ℕ = at.0 in
      let ok = r.each_cell p at.1 at.2 in
      let found : get_or s.words (c + 1) 0 ≡ cell_word p (get_elem? r.stages p) = ap (λ (z : ℕ). get_or s.words
      (z + 1) 0) (sym at.3) ∙ ok.word in
      let stage = ready_tag (get_elem? r.stages p) p (ap (λ (z : ℕ). z % 4) (sym found) ∙ one) in
      let below : p < length r.stages = at_length r.stages p Ready stage in
      (p, at.1, at.2, at.3, stage, found ∙ ap (cell_word p) stage, omega (arith, below, r.as_many, r.few))

  lone_at : (n slots id : ℕ) (m : SeatState J D) (i : ℕ) (s : St J D) (r : Shows f (ring n crew) s)
      → length s.homes ≡ slots → get_elem? s.views id ≡ some m.0 → m.0.spent ≡ false
      → FoundAlone slots i m.0 (get_or s.words i 0)
  lone_at n slots id m i s r wide at live =
      subst (λ (z : ℕ). FoundAlone z i m.0 (get_or s.words i 0)) (sym r.sized ∙ wide)
      (found_alone f crew n s r id m.0 i at live)

  -- a read that leaves the word as it found it keeps the rule
  found_stays : (n : ℕ) (s : St J D) (r : Shows f (ring n crew) s) (id : ℕ) (v : View J) (i : ℕ) (k : Read)
      → get_elem? s.views id ≡ some v → v.spent ≡ false
      → Shows f (ring n crew) record {
        words = set s.words i (get_or s.words i 0);
        homes = s.homes;
        views = set s.views id (after_read v k);
      }
  found_stays n s r id v i k at live =
      let views : List (View J) = set s.views id (after_read v k) in
      subst (λ ws. Shows f (ring n crew) record { words = ws; homes = s.homes; views = views })
      (sym (set-get_or s.words i 0)) (read_shows f crew n s r id v k at live)

  pub looks_go : (n slots id : ℕ) (m : SeatState J D) (i : ℕ) → m.0.spent ≡ false → i < n + 1
      → Allows (Shows f (ring n crew)) slots id m i (λ z. z) (LookTells f (step slots i 0 0 none) m)
  looks_go n slots id m i live near s r wide at _ = let found : ℕ = get_or s.words i 0 in
      let k : Read = read i None found in (
        after_read m.0 k,
        keeps,
        tt,
        found_stays n s r id m.0 i k at live,
        (
          refl,
          (λ one pos. let c : ℕ = i - 1 in let ic : i ≡ c + 1 = omega arith in
              let g = ready_at n s r c (omega arith) (subst (λ (z : ℕ). get_or s.words z 0 % 4 ≡ 1) ic one) in
              (g.0, g.6, ap (λ (z : ℕ). get_or s.words z 0) ic ∙ g.5)),
          lone_at n slots id m i s r wide at live,
        ),
      )

  -- the seat's last read is a load of this word, which found this value
  abbrev pub LastRead : View J → ℕ → ℕ → Type 0
  LastRead v i old = (earlier : List Read) × (v.reads ≡ earlier ++ read i None old ∷ [])

  -- the expected word was found
  claim_on : (n slots id : ℕ) (m : SeatState J D) (i old new q : ℕ) (s : St J D) (r : Shows f (ring n crew) s)
      → m.0.spent ≡ false → m.0.held ≡ None → 0 < i → i < n + 1 → old ≡ q * WORD_BASE + 1
      → new ≡ old + 4 * m.0.number + 2 → LastRead m.0 i old
      → length s.homes ≡ slots → get_elem? s.views id ≡ some m.0 → get_or s.words i 0 ≡ old
      → Goes f crew n s i id m new (ClaimTells f (step slots i old new none) m (get_or s.words i 0))
  claim_on n slots id m i old new q s r live free pos near old_is new_is last wide at hit =
      let found : ℕ = get_or s.words i 0 in let k : Read = read i (Some old) found in let c : ℕ = i - 1 in
      let ic : i ≡ c + 1 = omega arith in
      let is : m.0.number ≡ id = (r.each_seat id m.0 at live).numbered in
      let tag_old : old % 4 ≡ 1 = ap (λ (z : ℕ). z % 4) old_is ∙ tag_of q 1 in
      let tag : found % 4 ≡ 1 = ap (λ (z : ℕ). z % 4) hit ∙ tag_old in
      let g = ready_at n s r c (omega arith) (subst (λ (z : ℕ). get_or s.words z 0 % 4 ≡ 1) ic tag) in
      let p : ℕ = g.0 in let found_is : found ≡ p * WORD_BASE + 1 = ap (λ (z : ℕ). get_or s.words z 0) ic ∙ g.5 in
      let lies : Lies f r.me s (place_in n p) (some Ready) =
      subst (Lies f r.me s (place_in n p)) g.4 (r.each_cell p g.1 g.2).lies in let j : J = lies.0 in
      let S : ℕ → ℕ → ℕ → Type 0 = λ x y z. Shows f (ring n crew) record {
        words = set s.words x y;
        homes = set s.homes z none;
        views = set s.views id (after_claim m.0 k (held_job z p j));
      } in
      let start : S (p % n + 1) (p * WORD_BASE + (4 * id + 3))
      (p % n) = claim_shows f crew n s r id p m.0 k j at live free g.1 g.2 g.4 lies.1 in
      let new' : p * WORD_BASE + (4 * id + 3) ≡ new = omega (arith, new_is, found_is, hit, is) in
      let now : S i new c = subst (λ x. S x new c) (sym ic)
      (subst (λ y. S (c + 1) y c) new' (subst (λ z. S (z + 1) (p * WORD_BASE + (4 * id + 3)) z) g.3 start)) in
      let place : p % slots + 1 ≡ i = ap (λ (z : ℕ). p % z + 1) (sym wide ∙ r.sized)
      ∙ (ap (λ (z : ℕ). z + 1) g.3 ∙ sym ic) in
      let fresh : count_of p m.0.finished ≡ 0 = none_there p s.views id m.0 at (r.finishes p ∙ ap finish_count g.4) in
      let own : m.0.number ≡ 0
      → (m.0.taken ≤ p) × (get_elem? m.0.jobs p ≡ some j) =
      λ e. let me : r.me ≡ m.0 = some-injective r.me m.0 (sym r.first ∙ (ap (get_elem? s.views) (sym e ∙ is) ∙ at)) in
      (subst (λ (v : View J). v.taken ≤ p) me g.1, subst (λ (v : View J). get_elem? v.jobs p ≡ some j) me lies.1) in (
        after_claim m.0 k (held_job c p j),
        takes c (Given j),
        ap (get_elem? s.homes) (sym g.3) ∙ lies.2,
        now,
        (
          (last.0, last.1, tag_old),
          (λ _. (p, j, sym hit ∙ found_is, place, fresh, own, refl)),
          (λ miss. absurd (miss hit)),
          lone_at n slots id m i s r wide at live,
        ),
      )

  claim_off : (n slots id : ℕ) (m : SeatState J D) (i old new q : ℕ) (s : St J D) (r : Shows f (ring n crew) s)
      → m.0.spent ≡ false → old ≡ q * WORD_BASE + 1 → LastRead m.0 i old → length s.homes ≡ slots
      → get_elem? s.views id ≡ some m.0 → get_or s.words i 0 ≢ old
      → Goes f crew n s i id m (get_or s.words i 0) (ClaimTells f (step slots i old new none) m (get_or s.words i 0))
  claim_off n slots id m i old new q s r live old_is last wide at miss = let found : ℕ = get_or s.words i 0 in
      let k : Read = read i (Some old) found in (
        after_read m.0 k,
        keeps,
        tt,
        found_stays n s r id m.0 i k at live,
        (
          (last.0, last.1, ap (λ (z : ℕ). z % 4) old_is ∙ tag_of q 1),
          (λ hit. absurd (miss hit)),
          (λ _. refl),
          lone_at n slots id m i s r wide at live,
        ),
      )

  pub claims_go : (n slots id : ℕ) (m : SeatState J D) (i old new q : ℕ) → m.0.spent ≡ false → m.0.held ≡ None
      → 0 < i → i < n + 1 → old ≡ q * WORD_BASE + 1 → new ≡ old + 4 * m.0.number + 2 → LastRead m.0 i old
      → Allows (Shows f (ring n crew)) slots id m i (λ z. either (eqb z old) new z)
      (ClaimTells f (step slots i old new none) m)
  claims_go n slots id m i old new q live free pos near old_is new_is last s r wide at _ =
      let found : ℕ = get_or s.words i 0 in
      exchanged found old new (λ z. Goes f crew n s i id m z (ClaimTells f (step slots i old new none) m found))
      (claim_on n slots id m i old new q s r live free pos near old_is new_is last wide at)
      (claim_off n slots id m i old new q s r live old_is last wide at)

  pub finishes_go : (n slots id : ℕ) (m : SeatState J D) (i new c : ℕ) (h : Held J) (more : List (ℕ × SlotValue J D))
      → m.0.spent ≡ false → m.0.held ≡ Some h → h.cell ≡ c → m.1 ≡ (c, Made (f h.what)) ∷ more → i ≡ c + 1
      → new ≡ h.job * WORD_BASE + 2
      → Allows (Shows f (ring n crew)) slots id m i (λ _. new) (λ _. FinishTells f (step slots i new 0 none) m new)
  finishes_go n slots id m i new c h more live holds cell has word new_is s r wide at _ =
      let S : List (ℕ × SlotValue J D) → ℕ → ℕ → Type 0 = λ cs x y. Shows f (ring n crew) record {
        words = set s.words x y;
        homes = table.put_back s.homes cs;
        views = set s.views id (after_finish m.0 h.job);
      } in
      let start : S ((h.cell, Made (f h.what)) ∷ more) (h.cell + 1)
      (h.job * WORD_BASE + 2) = finish_shows f crew n s r id m.0 h at live holds in
      let now : S m.1 i new = subst (λ cs. S cs i new) (sym has)
      (subst (λ x. S ((c, Made (f h.what)) ∷ more) x new) (sym word)
      (subst (λ y. S ((c, Made (f h.what)) ∷ more) (c + 1) y) (sym new_is)
      (subst (λ z. S ((z, Made (f h.what)) ∷ more) (z + 1) (h.job * WORD_BASE + 2)) cell start))) in
      (after_finish m.0 h.job, table.gives, tt, now, (h, holds, refl))
