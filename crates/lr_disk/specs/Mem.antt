-- A disk in memory keeps what it had at first and each call. What a crash may leave follows from these.
use Rattle.std.specs.Prelude.{◌≡◌, ◌≤◌, ◌+◌, ◌-◌, ℕ, min, max, List, [], ◌∷◌, ◌++◌, length, take, drop, replicate, refl}
use Rattle.std.proofs.Common.{inl, inr, sym, ◌∙◌, ap, subst, arith, length-append, length-take, length-drop}
use Rattle.std.proofs.lemmas.List.{take_at, drop_at, take_all, drop_all, take-take, take-append-le}
use Rattle.std.proofs.lemmas.List.{drop-append-le, append-nil, length-replicate}
use Rattle.std.proofs.lemmas.Bool.{cases_lt}
use Rattle.lr_disk.specs.Disk.{Written, Torn, Cut}
use Rattle.lr_disk.specs.declared.past.Call.{Call}
use Rattle.lr_disk.specs.declared.past.Call.TheVariants.{Kept, Wrote, Shortened, Synced}

-- what is pending: a range that may hold any bytes, or a length that may have been cut to
pub data Pending : Type 0 where
  torn : (from to : ℕ) → Pending
  cut : (n : ℕ) → Pending

-- what a crash leaves for sure, what is pending since, the newest first, and what reads give
pub record State : Type 0 where
  pub durable : List ℕ
  pub pending : List Pending
  pub contents : List ℕ

abbrev pub at_start : List ℕ → State
at_start bytes = record { durable = bytes; pending = []; contents = bytes }

-- the bytes, with zeros up to that length
abbrev pub with_zeros : ℕ → List ℕ → List ℕ
with_zeros n bytes = bytes ++ replicate (n - length bytes) 0

-- these bytes at that place; a gap is filled with zeros
abbrev pub written_over : ℕ → List ℕ → List ℕ → List ℕ
written_over at bytes old = take at (with_zeros (at + length bytes) old) ++ bytes
    ++ drop (at + length bytes) (with_zeros (at + length bytes) old)

abbrev pub over : ℕ → List ℕ → State → State
over at bytes s = record {
  durable = s.durable;
  pending = torn (min at (length s.contents)) (at + length bytes) ∷ s.pending;
  contents = written_over at bytes s.contents;
}

-- the state after a call, whose bytes stand in the log
abbrev pub after : List ℕ → Call → State → State
after log Kept s = s
after log (Wrote at from count) s = over at (take count (drop from log)) s
after log (Shortened n) s = record { durable = s.durable; pending = cut n ∷ s.pending; contents = take n s.contents }
after log Synced s = record { durable = s.contents; pending = []; contents = s.contents }

abbrev pub after_all : List ℕ → List Call → State → State
after_all log [] s = s
after_all log (call ∷ calls) s = after_all log calls (after log call s)

-- how much of the log the calls read
abbrev pub reach : List Call → ℕ
reach [] = 0
reach (Wrote at from count ∷ calls) = max (from + count) (reach calls)
reach (call ∷ calls) = reach calls

-- where the writes end that go farthest
abbrev pub span : List Call → ℕ
span [] = 0
span (Wrote at from count ∷ calls) = max (at + count) (span calls)
span (call ∷ calls) = span calls

-- a crash image of these pending steps
abbrev pub IsCrashImageOf : List ℕ → List Pending → List ℕ → Type 0
IsCrashImageOf durable [] c = c ≡ durable
IsCrashImageOf durable (torn from to ∷ pending) c = (d : List ℕ) × IsCrashImageOf durable pending d × Torn from to d c
IsCrashImageOf durable (cut n ∷ pending) c = (d : List ℕ) × IsCrashImageOf durable pending d × Cut n d c

abbrev pub IsImage : State → List ℕ → Type 0
IsImage s c = IsCrashImageOf s.durable s.pending c

-- what a crash now may leave
abbrev pub images : List ℕ → List ℕ → List Call → List ℕ → Type 0
images first log calls c = IsImage (after_all log calls (at_start first)) c

-- the state after the first k calls
abbrev pub state_at : List ℕ → List ℕ → List Call → ℕ → State
state_at first log calls k = after_all log (take k calls) (at_start first)

-- a crash after the first k calls, for a k from t on, may leave this
pub record LeftSince (first log : List ℕ) (calls : List Call) (t : ℕ) (c : List ℕ) : Type 0 where
  pub moment : ℕ
  pub not_before : t ≤ moment
  pub not_after : moment ≤ length calls
  pub image : IsImage (state_at first log calls moment) c

-- what a write of these bytes leaves
pub over_written : (at : ℕ) (bytes old : List ℕ) → Written at bytes old (written_over at bytes old)
over_written at bytes old =
    let n = at + length bytes in
    let zeros : List ℕ = replicate (n - length old) 0 in
    let p : List ℕ = with_zeros n old in
    let long : length p ≡ max (length old) n =
    omega (arith, length-append old zeros, length-replicate {A = ℕ} (n - length old) 0) in
    let front : length (take at p) ≡ at = omega (arith, length-take at p) in
    let front_two : length (take at p ++ bytes) ≡ n = omega (arith, length-append (take at p) bytes) in
    let m = min at (length old) in
    record {
      before =
          take-append-le m (take at p ++ bytes) (drop n p) (omega arith)
          ∙ take-append-le m (take at p) bytes (omega arith)
          ∙ take-take m at p (omega arith) ∙ take-append-le m old zeros (omega arith);
      here =
          ap (λ (l : List ℕ). take (length bytes) l)
          (drop-append-le at (take at p ++ bytes) (drop n p) (omega arith)
          ∙ ap (λ (l : List ℕ). l ++ drop n p) (drop_at (take at p) bytes at front))
          ∙ take_at bytes (drop n p) (length bytes) refl;
      after = drop_at (take at p ++ bytes) (drop n p) n front_two ∙ beyond n old;
      size = omega (arith, length-append (take at p ++ bytes) (drop n p), length-drop n p);
    }
  where
    beyond : (n : ℕ) (old : List ℕ) → drop n (with_zeros n old) ≡ drop n old
    beyond n old = elim (cases_lt (length old) n) [
      | inl long ↦
          drop_all n (with_zeros n old)
          (omega (
            arith,
            length-append old (replicate (n - length old) 0),
            length-replicate {A = ℕ} (n - length old) 0,
          ))
          ∙ sym (drop_all n old (omega arith))
      | inr short ↦
          let none : n - length old ≡ 0 = omega arith in
          drop-append-le n old (replicate (n - length old) 0) short
          ∙ ap (λ (l : List ℕ). drop n old ++ l) (ap (λ (k : ℕ). replicate k 0) none) ∙ append-nil (drop n old)
    ]

pub written_torn : (at : ℕ) (bytes old new : List ℕ) → Written at bytes old new
    → Torn (min at (length old)) (at + length bytes) old new
written_torn at bytes old new w =
    record { before = w.before; after = w.after; no_shorter = omega (arith, w.size); no_longer = omega (arith, w.size) }

-- the contents are a crash image
pub step_contents : (log : List ℕ) (call : Call) (s : State) → IsImage s s.contents
    → IsImage (after log call s) (after log call s).contents
step_contents log Kept s image = image
step_contents log (Wrote at from count) s image =
    (s.contents, image, written_torn _ _ _ _ (over_written at (take count (drop from log)) s.contents))
step_contents log (Shortened n) s image = (s.contents, image, record { kept = n; enough = omega arith; front = refl })
step_contents log Synced s image = refl

contents_after : (log : List ℕ) (calls : List Call) (s : State) → IsImage s s.contents
    → IsImage (after_all log calls s) (after_all log calls s).contents
contents_after log [] s image = image
contents_after log (call ∷ calls) s image = contents_after log calls (after log call s) (step_contents log call s image)

pub leaves_its_contents : (first log : List ℕ) (calls : List Call) (contents : List ℕ)
    → contents ≡ (after_all log calls (at_start first)).contents
    → IsImage (after_all log calls (at_start first)) contents
leaves_its_contents first log calls contents same =
    subst (λ (c : List ℕ). IsImage (after_all log calls (at_start first)) c) (sym same)
    (contents_after log calls (at_start first) refl)

pub counts_this_moment : (first log : List ℕ) (calls : List Call) (t : ℕ) (c : List ℕ) → t ≤ length calls
    → IsImage (after_all log calls (at_start first)) c → LeftSince first log calls t c
counts_this_moment first log calls t c le image = record {
  moment = length calls;
  not_before = le;
  not_after = omega arith;
  image = subst (λ (l : List Call). IsImage (after_all log l (at_start first)) c)
      (sym (take_all (length calls) calls (omega arith))) image;
}

pub only_this_moment : (first log : List ℕ) (calls : List Call) (c : List ℕ)
    → LeftSince first log calls (length calls) c → IsImage (after_all log calls (at_start first)) c
only_this_moment first log calls c left =
    subst (λ (l : List Call). IsImage (after_all log l (at_start first)) c)
    (take_all left.moment calls (omega (arith, left.not_before))) left.image
