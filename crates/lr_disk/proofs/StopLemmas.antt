-- What a stop leaves is a crash image.
use Rattle.std.proofs.Common.{◌≡◌, ◌⊎◌, inl, inr, ℕ, ◌+◌, ◌-◌, ◌<◌, ◌≤◌, min, max, List, [], ◌∷◌}
use Rattle.std.proofs.Common.{◌++◌, length, get_or, take, drop}
use Rattle.std.proofs.Common.{append_assoc, Bool, true, false, if◌then◌else◌, ◌==◌, refl, sym, ◌∙◌}
use Rattle.std.proofs.Common.{ap, subst, arith, length-append, length-take, length-drop}
use Rattle.std.proofs.lemmas.List.{take_all, take_at, drop_at, length-replicate}
use Rattle.std.specs.Prelude.{replicate}
use Rattle.lr_disk.specs.Disk.{Torn}
use Rattle.lr_disk.specs.Mem.{Pending, State, torn, cut, after, after_all, at_start, over_written}
use Rattle.lr_disk.specs.Mem.{state_at, IsImage, IsCrashImageOf, step_contents}
use Rattle.lr_disk.specs.Stop.{with_filler, filled_between, inside, left_of_kind}
use Rattle.lr_disk.specs.declared.past.Call.{Call}
use Rattle.lr_disk.specs.declared.past.Call.TheVariants.{Kept, Wrote, Shortened, Synced}
use Rattle.lr_disk.proofs.Steps.{after_more}

length-filled_between : (from to : ℕ) (bytes : List ℕ) → from ≤ length bytes → from ≤ to
    → length (filled_between from to bytes) ≡ max (length bytes) to
length-filled_between from to bytes low order =
    omega (
      arith,
      length-append (take from bytes) (replicate (to - from) 0x7F ++ drop to bytes),
      length-take from bytes,
      length-append (replicate (to - from) 0x7F) (drop to bytes),
      length-replicate {A = ℕ} (to - from) 0x7F,
      length-drop to bytes,
    )

torn_filled : (from to : ℕ) (bytes : List ℕ) → from ≤ length bytes → from ≤ to
    → Torn from to bytes (filled_between from to bytes)
torn_filled from to bytes low order =
    let middle : List ℕ = replicate (to - from) 0x7F in
    let front : length (take from bytes) ≡ from = omega (arith, length-take from bytes) in
    let head : length (take from bytes ++ middle) ≡ to =
    omega (arith, length-append (take from bytes) middle, front, length-replicate {A = ℕ} (to - from) 0x7F) in
    record {
      before = take_at (take from bytes) (middle ++ drop to bytes) from front;
      after = ap (drop to) (sym (append_assoc (take from bytes) middle (drop to bytes)))
          ∙ drop_at (take from bytes ++ middle) (drop to bytes) to head;
      no_shorter = omega (arith, length-filled_between from to bytes low order);
      no_longer = omega (arith, length-filled_between from to bytes low order);
    }

-- the contents and the bytes with the filler are crash images, of one length
record IsStoppable (s : State) : Type 0 where
  contents : IsImage s s.contents
  filler : IsImage s (with_filler s.durable s.pending)
  size : length (with_filler s.durable s.pending) ≡ length s.contents

stoppable_after : (log : List ℕ) (call : Call) (s : State) → IsStoppable s → IsStoppable (after log call s)
stoppable_after log Kept s is = is
stoppable_after log (Wrote at from count) s is =
    let piece = take count (drop from log) in
    let low : min at (length s.contents) ≤ length (with_filler s.durable s.pending) = omega (arith, is.size) in
    let order : min at (length s.contents) ≤ at + length piece = omega arith in
    record {
      contents = step_contents log (Wrote at from count) s is.contents;
      filler = (with_filler s.durable s.pending, is.filler, torn_filled _ _ _ low order);
      size = length-filled_between _ _ _ low order ∙ omega (arith, is.size, (over_written at piece s.contents).size);
    }
stoppable_after log (Shortened n) s is = record {
  contents = step_contents log (Shortened n) s is.contents;
  filler = (with_filler s.durable s.pending, is.filler, record { kept = n; enough = omega arith; front = refl });
  size = omega (arith, length-take n (with_filler s.durable s.pending), length-take n s.contents, is.size);
}
stoppable_after log Synced s is = record { contents = refl; filler = refl; size = refl }

stoppable_all : (log : List ℕ) (calls : List Call) (s : State) → IsStoppable s → IsStoppable (after_all log calls s)
stoppable_all log [] s is = is
stoppable_all log (call ∷ calls) s is = stoppable_all log calls (after log call s) (stoppable_after log call s is)

stoppable_inside : (log : List ℕ) (call : Call) (s : State) → IsStoppable s → IsStoppable (inside log call s)
stoppable_inside log Kept s is = is
stoppable_inside log (Wrote at from count) s is = stoppable_after log (Wrote at from count) s is
stoppable_inside log (Shortened n) s is = stoppable_after log (Shortened n) s is
stoppable_inside log Synced s is = is

durable_is_image : (durable : List ℕ) (pending : List Pending) → IsCrashImageOf durable pending durable
durable_is_image durable [] = refl
durable_is_image durable (torn from to ∷ pending) = (
  durable,
  durable_is_image durable pending,
  record { before = refl; after = refl; no_shorter = omega arith; no_longer = omega arith },
)
durable_is_image durable (cut n ∷ pending) = (
  durable,
  durable_is_image durable pending,
  record {
    kept = n + length durable;
    enough = omega arith;
    front =
        sym (take_all (n + length durable) durable (omega arith));
  },
)

kind_is_image : (kind : ℕ) (s : State) → IsStoppable s → IsImage s (left_of_kind kind s)
kind_is_image kind s is = chosen (kind == 0) (kind == 1)
  where
    last : (one : Bool) → IsImage s (if one then s.contents else with_filler s.durable s.pending)
    last true = is.contents
    last false = is.filler

    chosen : (none one : Bool)
        → IsImage s (if none then s.durable else if one then s.contents else with_filler s.durable s.pending)
    chosen true one = durable_is_image s.durable s.pending
    chosen false one = last one

-- a crash image inside a call is one of its start, or of its return
inside_is : (log : List ℕ) (call : Call) (s : State) (c : List ℕ) → IsImage (inside log call s) c → IsImage s c
    ⊎ IsImage (after log call s) c
inside_is log Kept s c image = inl image
inside_is log (Wrote at from count) s c image = inr image
inside_is log (Shortened n) s c image = inr image
inside_is log Synced s c image = inl image

pub stop_is_image : (first log : List ℕ) (calls : List Call) (number kind : ℕ) (call : Call) → number < length calls
    → call ≡ get_or calls number call
    → IsImage (state_at first log calls number) (left_of_kind kind (inside log call (state_at first log calls number)))
    ⊎ IsImage (state_at first log calls (number + 1))
    (left_of_kind kind (inside log call (state_at first log calls number)))
stop_is_image first log calls number kind call inside' there =
    let s = state_at first log calls number in
    let c = left_of_kind kind (inside log call s) in
    let start : IsStoppable (at_start first) = record { contents = refl; filler = refl; size = refl } in
    let image = kind_is_image kind (inside log call s)
    (stoppable_inside log call s (stoppable_all log (take number calls) (at_start first) start)) in
    let next : after log call s ≡ state_at first log calls (number + 1) =
    ap (λ (one : Call). after log one s) there ∙ sym (after_more log calls number call (at_start first) inside') in
    elim (inside_is log call s c image) [
      | inl was ↦ inl was
      | inr now ↦
          inr (subst (λ (t : State). IsImage t c) next now)
    ]
