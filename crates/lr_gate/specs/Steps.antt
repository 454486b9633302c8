-- What each step makes of its seat's view, and tells.
use Rattle.std.specs.Prelude.{◌≡◌, ℕ, zero, suc, ◌+◌, ◌-◌, ◌*◌, ◌%◌, ◌<◌, ◌≤◌, ◌≢◌, true, false, List, [], ◌∷◌}
use Rattle.std.specs.Prelude.{◌++◌, length, Option, Some, None}
use mathlib.Core.Option.{some}
use lib.ListN.{get_elem?}
use Rattle.atomic_table.specs.Table.{Me, Step, rest}
use Rattle.lr_gatecore.specs.declared.sizes.TheConstants.{MOST_JOBS, WORD_BASE}
use Rattle.lr_gate.specs.declared.slot_value.SlotValue.{SlotValue}
use Rattle.lr_gate.specs.declared.slot_value.SlotValue.TheVariants.{Empty, Given, Made}
use Rattle.lr_gate.specs.declared.view.Held.{Held}
use Rattle.lr_gate.specs.declared.view.Read.{Read}
use Rattle.lr_gate.specs.declared.view.View.{View}
use Rattle.lr_gate.specs.Shows.{held_job, count_of}

abbrev pub read : ℕ → Option ℕ → ℕ → Read
read w e n = record { word = w; expected = e; found = n }

module _ {J : Type 0} where
  -- the view of a seat that is new
  abbrev pub new_view : ℕ → View J
  new_view k = record {
    number = k;
    spent = false;
    stocked = false;
    stopped = false;
    taking = false;
    taken = 0;
    split_off = 0;
    jobs = [];
    held = None;
    finished = [];
    reads = [];
  }

  -- the view of a seat that was joined into another
  abbrev pub spent_view : View J
  spent_view = record (new_view 0) { spent = true }

  abbrev pub after_put : View J → J → View J
  after_put v j = record v { jobs = v.jobs ++ j ∷ [] }

  abbrev pub after_split : View J → View J
  after_split v = record v { split_off = v.split_off + 1 }

  abbrev pub after_stock : View J → View J
  after_stock v = record v { stocked = true }

  abbrev pub after_read : View J → Read → View J
  after_read v k = record v { reads = v.reads ++ k ∷ [] }

  abbrev pub after_grab : View J → Read → View J
  after_grab v k = record v { taking = true; reads = v.reads ++ k ∷ [] }

  abbrev pub after_stop : View J → View J
  after_stop v = record v { stopped = true }

  abbrev pub after_claim : View J → Read → Held J → View J
  after_claim v k h = record v { held = Some h; reads = v.reads ++ k ∷ [] }

  abbrev pub after_finish : View J → ℕ → View J
  after_finish v p = record v { held = None; finished = v.finished ++ p ∷ [] }

  abbrev pub after_take : View J → View J
  after_take v = record v { taking = false; taken = v.taken + 1 }

  abbrev pub after_join : View J → View J → View J
  after_join v w = record v { finished = v.finished ++ w.finished }

  -- Where no seat was split off and the conductor holds no cell, its view tells what a cell's word is
  abbrev pub FoundAlone : ℕ → ℕ → View J → ℕ → Type 0
  FoundAlone n word v found =
      v.split_off ≡ 0 → v.number ≡ 0 → v.held ≡ None
      → ((p : ℕ) → v.taken ≤ p → p < length v.jobs → p % n + 1 ≡ word
      → (count_of p v.finished ≡ 0 → found ≡ p * WORD_BASE + 1)
      × (count_of p v.finished ≢ 0 → found ≡ p * WORD_BASE + 2))
      × ((p : ℕ) → p < v.taken → count_of p v.finished ≢ 0)

-- a seat's view, and the slots that it holds
abbrev pub SeatState : Type 0 → Type 0 → Type 0
SeatState J D = Me (SlotValue J D) (View J)

module _ {J D : Type 0} where
  abbrev pub given_view : View J → SlotValue J D → View J
  given_view v Empty = v
  given_view v (Given j) = after_put v j
  given_view v (Made d) = v

  abbrev pub put_view : View J → List (ℕ × SlotValue J D) → View J
  put_view v [] = v
  put_view v (x ∷ xs) = given_view v x.1

  -- put's store: the job that lies in the slot taken last goes home
  abbrev pub PutTells : Step (SlotValue J D) → SeatState J D → ℕ → SeatState J D → Type 0
  PutTells st m r m' = m' ≡ (put_view m.0 m.1, rest m.1)

  -- stop's store
  abbrev pub StopTells : Step (SlotValue J D) → SeatState J D → ℕ → SeatState J D → Type 0
  StopTells st m r m' = m' ≡ (after_stop m.0, m.1)

  -- take's store
  abbrev pub TakeTells : Step (SlotValue J D) → SeatState J D → ℕ → SeatState J D → Type 0
  TakeTells st m r m' = m' ≡ (after_take m.0, m.1)

  -- the free cells from p on, m of them, of a ring of n
  abbrev pub free_cells : ℕ → ℕ → ℕ → List (ℕ × SlotValue J D)
  free_cells n p zero = []
  free_cells n p (suc m) = (p % n, Empty) ∷ free_cells n (p + 1) m

  -- the conductor's first load: it picks all cells up
  abbrev pub StockTells : Step (SlotValue J D) → SeatState J D → ℕ → SeatState J D → Type 0
  StockTells st m r m' = m' ≡ (after_stock m.0, free_cells st.slots 0 st.slots)

  module _ (gives : J → D) where
    -- take's load: where the job is done, its slot is taken out, and holds what the job gives
    abbrev pub GrabTells : Step (SlotValue J D) → SeatState J D → ℕ → SeatState J D → Type 0
    GrabTells st m r m' =
        (r % 4 ≡ 2 → (j : J) × (get_elem? m.0.jobs m.0.taken ≡ some j)
        × (m' ≡ (after_grab m.0 (read st.word None r), (m.0.taken % st.slots, Made (gives j)) ∷ m.1)))
        × (r % 4 ≢ 2 → m' ≡ (after_read m.0 (read st.word None r), m.1))
        × FoundAlone st.slots st.word m.0 r

    -- a load of the stop word, or of a cell's word by a claim: a ready word tells the number of its job
    abbrev pub LookTells : Step (SlotValue J D) → SeatState J D → ℕ → SeatState J D → Type 0
    LookTells st m r m' =
        (m' ≡ (after_read m.0 (read st.word None r), m.1))
        × (r % 4 ≡ 1 → 0 < st.word → (p : ℕ) × (p < MOST_JOBS) × (r ≡ p * WORD_BASE + 1))
        × FoundAlone st.slots st.word m.0 r

    -- claim's exchange, of the word c + 1. It expects a ready word, which the seat's last read found in this very
    -- word. Where that word is still there, the seat holds the cell and its job, which no list of finished jobs has;
    -- the conductor knows it as one of its own jobs
    abbrev pub ClaimTells : Step (SlotValue J D) → SeatState J D → ℕ → SeatState J D → Type 0
    ClaimTells st m r m' =
        ((earlier : List Read) × (m.0.reads ≡ earlier ++ read st.word None st.first ∷ []) × (st.first % 4 ≡ 1))
        × (r ≡ st.first → (p : ℕ) × (j : J) × (st.first ≡ p * WORD_BASE + 1) × (p % st.slots + 1 ≡ st.word)
        × (count_of p m.0.finished ≡ 0)
        × (m.0.number ≡ 0 → (m.0.taken ≤ p) × (get_elem? m.0.jobs p ≡ some j))
        × (m' ≡ (
          after_claim m.0 (read st.word (Some st.first) r) (held_job (st.word - 1) p j),
          (st.word - 1, Given j) ∷ m.1,
        )))
        × (r ≢ st.first → m' ≡ (after_read m.0 (read st.word (Some st.first) r), m.1))
        × FoundAlone st.slots st.word m.0 r

    -- finish's store
    abbrev pub FinishTells : Step (SlotValue J D) → SeatState J D → ℕ → SeatState J D → Type 0
    FinishTells st m r m' = (h : Held J) × (m.0.held ≡ Some h) × (m' ≡ (after_finish m.0 h.job, rest m.1))
