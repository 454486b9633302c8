-- The steps of a core, from what its window shows.
use Rattle.std.proofs.Common.{◌≡◌, ℕ, zero, suc, ◌+◌, ◌-◌, ◌%◌, ◌<◌, ◌≤◌, ◌≢◌, ◌⊎◌, inl, inr, ⊎_elim, Bool, true}
use Rattle.std.proofs.Common.{false, cond, List, [], ◌∷◌, ◌++◌, length, set, drop, replicate, sym, refl, ap, ◌∙◌}
use Rattle.std.proofs.Common.{subst, arith, mod-lt, length-append, append_assoc, ◌^◌}
use Rattle.std.proofs.lemmas.List.{length-replicate}
use mathlib.Core.Option.{some, some-ne-none, some-injective}
use lib.ListN.{get_elem?}
use Rattle.lr_gatecore.specs.declared.event.Event.{Event}
use Rattle.lr_gatecore.specs.declared.event.Event.TheVariants.{Put, Claim, Finish, Take, Stop}
use Rattle.lr_gatecore.specs.declared.ring_size.RingSize.{RingSize}
use Rattle.lr_gatecore.specs.declared.stage.Stage.{Stage}
use Rattle.lr_gatecore.specs.declared.stage.Stage.TheVariants.{Ready, Busy, Done}
use Rattle.lr_gatecore.specs.Machine.{Machine, Entry, HasStage, Moves, IsRefused, EventsLead}
use Rattle.lr_gatecore.specs.Core.{MachineSteps, machine_of, IsKept}
use Rattle.lr_gatecore.specs.declared.sizes.TheConstants.{MOST_JOBS}
use Rattle.lr_gatecore.proofs.Lists.{at_length}
use Rattle.lr_gatecore.proofs.Window.{past_at, past_set, past_more}
use Rattle.lr_gatecore.proofs.Cells.{one_job, place_is}
use Rattle.lr_gatecore.proofs.States.{next_state}

pub window_has : (t k : ℕ) (w : List Stage) (b : Bool) (st : Stage) → get_elem? w k ≡ some st
    → HasStage (machine_of t w b) (t + k) st
window_has t k w b st e = (omega arith, past_at t k Done w ∙ e)

pub has_window : (t i : ℕ) (w : List Stage) (b : Bool) (st : Stage) → HasStage (machine_of t w b) i st
    → (k : ℕ) × (i ≡ t + k) × (get_elem? w k ≡ some st)
has_window t i w b st h = let e : i ≡ t + (i - t) = (let le : t ≤ i = h.0 in omega arith) in
    (i - t, e, sym (past_at t (i - t) Done w) ∙ (ap (get_elem? (replicate t Done ++ w)) (sym e) ∙ h.1))

-- after a move the core keeps what it kept
pub kept_after : (size : RingSize) (t t' : ℕ) (b : Bool) (w w' : List Stage) (capacity capacity' : ℕ) (e : Event)
    → IsKept size t b w capacity
    → MachineSteps size (machine_of t w b) e true (machine_of t' w' b)
    → length w' ≤ size.cells → size.cells ≤ capacity' → t' + length w' ≤ MOST_JOBS → IsKept size t' b w' capacity'
kept_after size t t' b w w' capacity capacity' e old steps fits room few = record {
  some_cell = old.some_cell;
  most_cells = old.most_cells;
  fits = fits;
  room = room;
  few = few;
  state = next_state size (machine_of t w b) e steps.0 (machine_of t' w' b) old.state steps.1;
}

pub put_moves : (size : RingSize) (t : ℕ) (w : List Stage) (b : Bool) → length w < size.cells → b ≡ false
    → MachineSteps size (machine_of t w b) Put true (machine_of t (w ++ Ready ∷ []) b)
put_moves size t w b room runs = (
  length (replicate t Done ++ w),
  (
    omega (arith, length-append (replicate t Done) w, length-replicate t Done),
    runs,
    refl,
    ap (λ (xs : List Stage). record { stages = xs; taken = t; stopped = b })
        (sym (append_assoc (replicate t Done) w (Ready ∷ []))),
  ),
)

pub claim_busy : (size : RingSize) (t k worker cell : ℕ) (w : List Stage) (b : Bool)
    → get_elem? w k ≡ some (Busy worker) → MachineSteps size (machine_of t w b) (Claim worker cell) false
    (machine_of t w b)
claim_busy size t k worker cell w b e = (λ job n mv. mv.2 (t + k) (window_has t k w b (Busy worker) e), refl)

pub claim_other : (size : RingSize) (t worker cell : ℕ) (w : List Stage) (b : Bool) → 0 < size.cells
    → cell < size.cells → length w ≤ size.cells
    → ¬ (get_elem? w ((cell + size.cells - t % size.cells) % size.cells) ≡ some Ready)
    → MachineSteps size (machine_of t w b) (Claim worker cell) false (machine_of t w b)
claim_other size t worker cell w b pos near short not =
    let k : ℕ = (cell + size.cells - t % size.cells) % size.cells in
    let low : k < size.cells = mod-lt (cell + size.cells - t % size.cells) pos in (
      λ job n mv. let h = has_window t job w b Ready mv.3 in let q : ℕ = h.0 in let below = at_length w q Ready h.2 in
          let is : job ≡ t + q = h.1 in let same : job ≡ t + k = one_job job (t + k) size.cells (omega arith)
          (omega arith) (mv.4 ∙ sym (place_is t cell size.cells pos near)) in
          not (ap (get_elem? w) (let e : k ≡ q = omega arith in e) ∙ h.2),
      refl,
    )

pub claim_moves : (size : RingSize) (t worker cell : ℕ) (w : List Stage) (b : Bool) → 0 < size.cells
    → worker < size.workers → cell < size.cells → ((k : ℕ) → ¬ (get_elem? w k ≡ some (Busy worker)))
    → get_elem? w ((cell + size.cells - t % size.cells) % size.cells) ≡ some Ready
    → MachineSteps size (machine_of t w b) (Claim worker cell) true
    (machine_of t (set w ((cell + size.cells - t % size.cells) % size.cells) (Busy worker)) b)
claim_moves size t worker cell w b pos low near free is =
    let k : ℕ = (cell + size.cells - t % size.cells) % size.cells in (
      t + k,
      (
        low,
        near,
        λ i h. let x = has_window t i w b (Busy worker) h in free x.0 x.2,
        window_has t k w b Ready is,
        place_is t cell size.cells pos near,
        ap (λ (xs : List Stage). record { stages = xs; taken = t; stopped = b })
            (sym (past_set t k Done (Busy worker) w)),
      ),
    )

pub finish_none : (size : RingSize) (t worker : ℕ) (w : List Stage) (b : Bool)
    → ((k : ℕ) → ¬ (get_elem? w k ≡ some (Busy worker)))
    → MachineSteps size (machine_of t w b) (Finish worker) false (machine_of t w b)
finish_none size t worker w b free = (λ job n mv. let x = has_window t job w b (Busy worker) mv.0 in free x.0 x.2, refl)

pub finish_moves : (size : RingSize) (t k worker : ℕ) (w : List Stage) (b : Bool) → get_elem? w k ≡ some (Busy worker)
    → MachineSteps size (machine_of t w b) (Finish worker) true (machine_of t (set w k Done) b)
finish_moves size t k worker w b is = (
  t + k,
  (
    window_has t k w b (Busy worker) is,
    ap (λ (xs : List Stage). record { stages = xs; taken = t; stopped = b }) (sym (past_set t k Done Done w)),
  ),
)

pub take_none : (size : RingSize) (t : ℕ) (w : List Stage) (b : Bool) → ¬ (get_elem? w 0 ≡ some Done)
    → MachineSteps size (machine_of t w b) Take false (machine_of t w b)
take_none size t w b not = (
  λ job n mv. let x = has_window t job w b Done mv.0 in
      let is : job ≡ t = mv.1 in let at : job ≡ t + x.0 = x.1 in
      not (ap (get_elem? w) (let e : 0 ≡ x.0 = omega arith in e) ∙ x.2),
  refl,
)

behind : (t : ℕ) (w rest : List Stage) → get_elem? w 0 ≡ some Done → rest ≡ drop 1 w
    → replicate (t + 1) Done ++ rest ≡ replicate t Done ++ w
behind t [] rest is e = absurd (some-ne-none Done (sym is))
behind t (x ∷ xs) rest is e = ap (λ (ys : List Stage). replicate (t + 1) Done ++ ys) e
    ∙ (past_more t Done xs ∙ ap (λ (y : Stage). replicate t Done ++ y ∷ xs) (sym (some-injective x Done is)))

pub take_moves : (size : RingSize) (t : ℕ) (w rest : List Stage) (b : Bool) → get_elem? w 0 ≡ some Done
    → rest ≡ drop 1 w → MachineSteps size (machine_of t w b) Take true (machine_of (t + 1) rest b)
take_moves size t w rest b is e = let at = window_has t 0 w b Done is in let z : t + 0 ≡ t = omega arith in (
  t,
  (
    subst (λ (i : ℕ). HasStage (machine_of t w b) i Done) z at,
    refl,
    ap (λ (xs : List Stage). record { stages = xs; taken = t + 1; stopped = b }) (behind t w rest is e),
  ),
)

-- one event more
module _ (size : RingSize) where
  abbrev Longer : Machine → List Event → List Entry → Event → Bool → Machine → Type 0
  Longer m events log e b n = (more : List Entry) × EventsLead size m (events ++ e ∷ []) more n
      × (length more ≡ length log + cond b 1 0)

  pub leads_end : (m : Machine) (events : List Event) (log : List Entry) (n : Machine) (e : Event) (b : Bool)
      (n' : Machine) → EventsLead size m events log n → MachineSteps size n e b n'
      → Longer m events log e b n'
  leads_end m [] log n e true n' old new = let start : Moves size m e new.0 n' =
      subst (λ (x : Machine). Moves size x e new.0 n') old.1 new.1 in (
        record { event = e; job = new.0 } ∷ [],
        inl (new.0, n', [], start, (refl, refl), refl),
        (let z : length log ≡ 0 = ap length old.0 in omega arith),
      )
  leads_end m [] log n e false n' old new = let start : IsRefused size m e =
      subst (λ (x : Machine). IsRefused size x e) old.1 new.0 in
      ([], inr (start, (refl, new.1 ∙ old.1)), (let z : length log ≡ 0 = ap length old.0 in omega arith))
  leads_end m (x ∷ xs) log n e b n' old new = ⊎_elim
      (λ o. let more = leads_end o.1 xs o.2 n e b n' o.4 new in (
        record { event = x; job = o.0 } ∷ more.0,
        inl (o.0, o.1, more.0, o.3, more.1, refl),
        (let z : length log ≡ suc (length o.2) = ap length o.5 in let y : length more.0 ≡ length o.2 + cond b 1 0 =
            more.2 in omega arith),
      ))
      (λ o. let more = leads_end m xs log n e b n' o.1 new in (more.0, inr (o.0, more.1), more.2)) old

  -- a refused event or a move changes how many jobs were put by one at most
  pub put_more : (m n : Machine) (e : Event) (b : Bool) → MachineSteps size m e b n
      → length n.stages ≤ length m.stages + 1
  put_more m n e false s = let z : length n.stages ≡ length m.stages = ap (λ (x : Machine). length x.stages) s.1 in
      omega arith
  put_more m n Put true s = let z : length n.stages ≡ length (m.stages ++ Ready ∷ []) =
      ap (λ (x : Machine). length x.stages) s.1.3 in omega (arith, length-append m.stages (Ready ∷ []))
  put_more m n (Claim w c) true s = let z = ap (λ (x : Machine). length x.stages) s.1.5 in
      let y = Rattle.std.proofs.Common.length-set m.stages s.0 (Busy w) in omega arith
  put_more m n (Finish w) true s = let z = ap (λ (x : Machine). length x.stages) s.1.1 in
      let y = Rattle.std.proofs.Common.length-set m.stages s.0 Done in omega arith
  put_more m n Take true s = let z : length n.stages ≡ length m.stages =
      ap (λ (x : Machine). length x.stages) s.1.2 in omega arith
  put_more m n Stop true s = let z : length n.stages ≡ length m.stages =
      ap (λ (x : Machine). length x.stages) s.1.2 in omega arith
