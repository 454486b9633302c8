-- Each list of bytes that keeps what the pending writes and cuts don't leave open is a crash image.
use Rattle.std.proofs.Common.{◌≡◌, inl, inr, ℕ, ◌+◌, ◌-◌, ◌<◌, ◌≤◌, min, max, List, [], ◌∷◌, ◌++◌}
use Rattle.std.proofs.Common.{length, get_or, take, drop, map, refl, sym, ◌∙◌, ap, subst, arith}
use Rattle.std.proofs.Common.{length-append, length-take, length-drop}
use Rattle.std.specs.List.{range_with_len}
use Rattle.std.proofs.lemmas.Bool.{cases_lt}
use Rattle.std.proofs.lemmas.List.{take_at, drop_at, take_all, drop_all, take-append-le, append-nil}
use Rattle.std.proofs.lemmas.List.{get_or_append_left, get_or-append_right, get_or-take}
use Rattle.std.proofs.lemmas.List.{get_or-drop, nil_from_length}
use Rattle.std.proofs.lemmas.Grind.{same_number_lists}
use Rattle.std.proofs.lemmas.List.FromFn.{length-map-range_with_len, get_or-map-range_with_len}
use Rattle.lr_disk.specs.Disk.{Torn, Cut}
use Rattle.lr_disk.specs.Mem.{Pending, State, torn, cut, IsImage, IsCrashImageOf, after, after_all}
use Rattle.lr_disk.specs.Mem.{at_start, step_contents}
use Rattle.lr_disk.specs.declared.past.Call.{Call}
use Rattle.lr_disk.specs.declared.past.Call.TheVariants.{Kept, Wrote, Shortened, Synced}
use Rattle.lr_disk.proofs.RangeLemmas.{no_longer_than}
use Rattle.lr_disk.specs.Ranges.{KeepsTheRest, KeepersAreImages, least, greatest_end}

-- the durable bytes from one place to another, with zeros where there are none
filler : List ℕ → ℕ → ℕ → List ℕ
filler durable from to = map (λ k. get_or durable k 0) (range_with_len from (to - from))

length-filler : (durable : List ℕ) (from to : ℕ) → length (filler durable from to) ≡ to - from
unfolding filler
length-filler durable from to = length-map-range_with_len (λ k. get_or durable k 0) from (to - from)

filler_at : (durable : List ℕ) (from to k : ℕ) → from ≤ k → k < to
    → get_or (filler durable from to) (k - from) 0 ≡ get_or durable k 0
unfolding filler
filler_at durable from to k low high =
    get_or-map-range_with_len (λ j. get_or durable j 0) from (to - from) (k - from) k 0 (omega arith) (omega arith)

least_first : (start : ℕ) (pending : List Pending) → least start pending ≤ greatest_end start pending
least_first start [] = omega arith
least_first start (torn from to ∷ pending) = omega (arith, least_first start pending)
least_first start (cut n ∷ pending) = omega (arith, least_first start pending)

-- some prefix of c, and then durable bytes
module _ (durable : List ℕ) (pending : List Pending) (c : List ℕ) (m n : ℕ) (short : m ≤ length c) (later : m ≤ n) where
  front : List ℕ
  front = take m c ++ filler durable m n

  front_size : length (take m c) ≡ m
  front_size = length-take m c ∙ omega arith

  length-front : length (take m c ++ filler durable m n) ≡ n
  length-front = omega (arith, length-append (take m c) (filler durable m n), front_size, length-filler durable m n)

  front_at : (k : ℕ) → k < n → (k < m → get_or c k 0 ≡ get_or durable k 0)
      → get_or (take m c ++ filler durable m n) k 0 ≡ get_or durable k 0
  front_at k inside same = elim (cases_lt k m) [
    | inl below ↦ get_or_append_left (take m c) (filler durable m n) 0 k (omega (arith, front_size))
        ∙ get_or-take m c k 0 below ∙ same below
    | inr beyond ↦ get_or-append_right (take m c) (filler durable m n) m k 0 front_size beyond
        ∙ filler_at durable m n k beyond inside
  ]

before_cut : (durable : List ℕ) (pending : List Pending) (c : List ℕ) (n : ℕ)
    → KeepsTheRest durable (cut n ∷ pending) c → (d : List ℕ) × KeepsTheRest durable pending d × Cut n d c
before_cut durable pending c n keeps = elim (cases_lt (length c) (least (length durable) pending)) [
  | inl short ↦
      let low = least (length durable) pending in
      let m = length c in
      let all : take m c ≡ c = take_all m c (omega arith) in
      let size = length-front durable pending c m low (omega arith) (omega arith) in (
        take m c ++ filler durable m low,
        record {
          no_shorter = omega (arith, size);
          no_longer = omega (arith, size, least_first (length durable) pending);
          outside = λ k inside outside. front_at durable pending c m low (omega arith) (omega arith) k
              (omega (arith, size, inside)) (λ below. keeps.outside k below outside);
        },
        record {
          kept = m;
          enough = omega (arith, keeps.no_shorter, short);
          front =
              sym (take_at (take m c) (filler durable m low) m
              (front_size durable pending c m low (omega arith) (omega arith)) ∙ all);
        },
      )
  | inr long ↦ (
    c,
    record { no_shorter = long; no_longer = keeps.no_longer; outside = keeps.outside },
    record { kept = n + length c; enough = omega arith; front = sym (take_all (n + length c) c (omega arith)) },
  )
]

before_torn : (durable : List ℕ) (pending : List Pending) (c : List ℕ) (from to : ℕ) → from ≤ to
    → from ≤ greatest_end (length durable) pending → KeepsTheRest durable (torn from to ∷ pending) c
    → (d : List ℕ) × KeepsTheRest durable pending d × Torn from to d c
before_torn durable pending c from to order low keeps = elim (cases_lt to (length c)) [
  | inl long ↦
      let m = from in
      let head = take m c ++ filler durable m to in
      let size = length-front durable pending c m to (omega arith) order in
      let d = head ++ drop to c in
      let total : length d ≡ length c = omega (arith, length-append head (drop to c), size, length-drop to c) in (
        d,
        record {
          no_shorter = omega (arith, total, keeps.no_shorter);
          no_longer = omega (arith, total, keeps.no_longer, long);
          outside = λ k inside outside. elim (cases_lt k to) [
            | inl inner ↦ get_or_append_left head (drop to c) 0 k (omega (arith, size))
                ∙ front_at durable pending c m to (omega arith) order k inner
                (λ below. keeps.outside k (omega arith) (inl below, outside))
            | inr beyond ↦ get_or-append_right head (drop to c) to k 0 size beyond ∙ get_or-drop to c (k - to) 0
                ∙ ap (λ j. get_or c j 0) (omega arith)
                ∙ keeps.outside k (omega (arith, total, inside)) (inr beyond, outside)
          ];
        },
        record {
          before = sym (take-append-le from head (drop to c) (omega (arith, size))
              ∙ take_at (take m c) (filler durable m to) from (front_size durable pending c m to (omega arith) order));
          after = sym (drop_at head (drop to c) to size);
          no_shorter = omega (arith, total);
          no_longer = omega (arith, total);
        },
      )
  | inr short ↦
      let m = min from (length c) in
      let n = max (least (length durable) pending) m in
      let d = take m c ++ filler durable m n in
      let size = length-front durable pending c m n (omega arith) (omega arith) in (
        d,
        record {
          no_shorter = omega (arith, size);
          no_longer = omega (arith, size, least_first (length durable) pending, low);
          outside = λ k inside outside. front_at durable pending c m n (omega arith) (omega arith) k
              (omega (arith, size, inside)) (λ below. keeps.outside k (omega arith) (inl (omega arith), outside));
        },
        record {
          before = (first m n (λ all. omega (arith, all, keeps.no_shorter)) refl);
          after = drop_all to c short ∙ sym (drop_all to d (omega (arith, size, keeps.no_shorter, short)));
          no_shorter = omega (arith, size, keeps.no_shorter);
          no_longer = omega (arith, size, short);
        },
      )
]
  where
    first : (m n : ℕ) → (length c < from → n ≡ m) → m ≡ min from (length c)
        → take from c ≡ take from (take m c ++ filler durable m n)
    first m n same is = elim (cases_lt (length c) from) [
      | inl all ↦
          let none : filler durable m n ≡ [] =
          nil_from_length (filler durable m n) (length-filler durable m n ∙ omega (arith, same all)) in
          let whole : take m c ++ filler durable m n ≡ c = ap (λ l. take m c ++ l) none ∙ append-nil (take m c)
          ∙ take_all m c (omega (arith, is, all)) in
          sym (ap (take from) whole)
      | inr some ↦
          let at : m ≡ from = omega (arith, is, some) in
          ap (λ j. take j c) (sym at)
          ∙ sym (subst (λ j. take j (take m c ++ filler durable m n) ≡ take m c) at
          (take_at (take m c) (filler durable m n) m (length-take m c ∙ omega (arith, is))))
    ]

-- each range began inside the bytes of then, and ends no earlier
abbrev IsOrderly : ℕ → List Pending → Type 0
IsOrderly start [] = Unit {0}
IsOrderly start (torn from to ∷ pending) = (from ≤ to) × (from ≤ greatest_end start pending) × IsOrderly start pending
IsOrderly start (cut n ∷ pending) = IsOrderly start pending

keeper_is_image : (durable : List ℕ) (pending : List Pending) (c : List ℕ) → IsOrderly (length durable) pending
    → KeepsTheRest durable pending c → IsCrashImageOf durable pending c
keeper_is_image durable [] c orderly keeps =
    same_number_lists c durable (omega (arith, keeps.no_shorter, keeps.no_longer))
    (λ k inside. keeps.outside k inside tt)
keeper_is_image durable (torn from to ∷ pending) c orderly keeps =
    let before = before_torn durable pending c from to orderly.0 orderly.1 keeps in
    (before.0, keeper_is_image durable pending before.0 orderly.2 before.1, before.2)
keeper_is_image durable (cut n ∷ pending) c orderly keeps =
    let before = before_cut durable pending c n keeps in
    (before.0, keeper_is_image durable pending before.0 orderly before.1, before.2)

-- so it is after any calls
orderly_after : (log : List ℕ) (calls : List Call) (s : State) → IsImage s s.contents
    → IsOrderly (length s.durable) s.pending
    → IsOrderly (length (after_all log calls s).durable) (after_all log calls s).pending
orderly_after log [] s image orderly = orderly
orderly_after log (Kept ∷ calls) s image orderly = orderly_after log calls s image orderly
orderly_after log (Wrote at from count ∷ calls) s image orderly =
    orderly_after log calls (after log (Wrote at from count) s) (step_contents log (Wrote at from count) s image)
    (omega arith, omega (arith, no_longer_than s.durable s.pending s.contents image), orderly)
orderly_after log (Shortened n ∷ calls) s image orderly =
    orderly_after log calls (after log (Shortened n) s) (step_contents log (Shortened n) s image) orderly
orderly_after log (Synced ∷ calls) s image orderly = orderly_after log calls (after log Synced s) refl tt

pub keepers_are_images : KeepersAreImages
keepers_are_images first log calls c keeps =
    keeper_is_image _ _ c (orderly_after log calls (at_start first) refl tt) keeps
