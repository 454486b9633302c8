-- Which moves of the machine the steps of a ring are.
use Rattle.std.specs.Prelude.{◌≡◌, ℕ, ◌+◌, ◌*◌, ◌%◌, ◌<◌, true, false, length, slice_set, Some, None}
use mathlib.Core.Option.{some, none}
use lib.ListN.{get_elem?}
use Rattle.atomic_table.specs.Table.{State}
use Rattle.lr_gatecore.specs.declared.event.Event.TheVariants.{Put, Claim, Finish, Take, Stop}
use Rattle.lr_gatecore.specs.declared.ring_size.RingSize.{RingSize}
use Rattle.lr_gatecore.specs.declared.stage.Stage.TheVariants.{Ready}
use Rattle.lr_gatecore.specs.Machine.{Machine, Moves, HasStage, Entry}
use Rattle.lr_gatecore.specs.Story.{log_entry}
use Rattle.lr_gatecore.specs.declared.sizes.TheConstants.{MOST_JOBS, WORD_BASE}
use Rattle.lr_gate.specs.declared.slot_value.SlotValue.{SlotValue}
use Rattle.lr_gate.specs.declared.slot_value.SlotValue.TheVariants.{Given, Made}
use Rattle.lr_gate.specs.declared.view.Held.{Held}
use Rattle.lr_gate.specs.declared.view.Read.{Read}
use Rattle.lr_gate.specs.declared.view.View.{View}
use Rattle.lr_gate.specs.Shows.{held_job, Shows, machine_size, machine_shown}
use Rattle.lr_gate.specs.Steps.{after_put, after_claim, after_finish, after_take, after_stop}

module _ {J D : Type 0} (gives : J → D) (size : RingSize) where
  -- the machine m goes by this move to the one that the table t shows
  abbrev pub IsMove : Machine → Entry → State (SlotValue J D) (View J) → Type 0
  IsMove m move t =
      (q : Shows gives size t) × Moves (machine_size size) m move.event move.job (machine_shown gives size t q)

  -- the store of a put
  abbrev pub PutIsMove : (s : State (SlotValue J D) (View J)) → Shows gives size s → Type 0
  PutIsMove s r =
      (j : J) → r.me.stopped ≡ false → length r.me.jobs < MOST_JOBS → length r.me.jobs < r.me.taken + size.cells
      → IsMove (machine_shown gives size s r) (log_entry Put (length r.me.jobs)) record {
        words = slice_set s.words (length r.me.jobs % size.cells + 1) (length r.me.jobs * WORD_BASE + 1);
        homes = slice_set s.homes (length r.me.jobs % size.cells) (some (Given j));
        views = slice_set s.views 0 (after_put r.me j);
      }

  -- the exchange of a claim that finds the word that it expects
  abbrev pub ClaimIsMove : (s : State (SlotValue J D) (View J)) → Shows gives size s → Type 0
  ClaimIsMove s r =
      (w p : ℕ) (v : View J) (k : Read) (j : J) → get_elem? s.views w ≡ some v → v.spent ≡ false
      → v.held ≡ None → HasStage (machine_shown gives size s r) p Ready → get_elem? r.me.jobs p ≡ some j
      → IsMove (machine_shown gives size s r) (log_entry (Claim w (p % size.cells)) p) record {
        words = slice_set s.words (p % size.cells + 1) (p * WORD_BASE + (4 * w + 3));
        homes = slice_set s.homes (p % size.cells) none;
        views = slice_set s.views w (after_claim v k (held_job (p % size.cells) p j));
      }

  -- the store of a finish
  abbrev pub FinishIsMove : (s : State (SlotValue J D) (View J)) → Shows gives size s → Type 0
  FinishIsMove s r =
      (w : ℕ) (v : View J) (h : Held J) → get_elem? s.views w ≡ some v → v.spent ≡ false → v.held ≡ Some h
      → IsMove (machine_shown gives size s r) (log_entry (Finish w) h.job) record {
        words = slice_set s.words (h.job % size.cells + 1) (h.job * WORD_BASE + 2);
        homes = slice_set s.homes (h.job % size.cells) (some (Made (gives h.what)));
        views = slice_set s.views w (after_finish v h.job);
      }

  -- the store of a take
  abbrev pub TakeIsMove : (s : State (SlotValue J D) (View J)) → Shows gives size s → Type 0
  TakeIsMove s r =
      r.me.taking ≡ true → r.me.stocked ≡ true
      → IsMove (machine_shown gives size s r) (log_entry Take r.me.taken) record {
        words = slice_set s.words (r.me.taken % size.cells + 1) 0;
        homes = s.homes;
        views = slice_set s.views 0 (after_take r.me);
      }

  -- the store of a stop
  abbrev pub StopIsMove : (s : State (SlotValue J D) (View J)) → Shows gives size s → Type 0
  StopIsMove s r =
      r.me.stopped ≡ false
      → IsMove (machine_shown gives size s r) (log_entry Stop (length r.stages)) record {
        words = slice_set s.words 0 1;
        homes = s.homes;
        views = slice_set s.views 0 (after_stop r.me);
      }

abbrev pub StepsAreMoves : {J D : Type 0} → (J → D) → Type 0
StepsAreMoves {J} {D} gives =
    (size : RingSize) (s : State (SlotValue J D) (View J)) (r : Shows gives size s)
    → PutIsMove gives size s r × ClaimIsMove gives size s r × FinishIsMove gives size s r
    × TakeIsMove gives size s r × StopIsMove gives size s r
