-- How the rest is appended.
use Rattle.std.proofs.Common.{◌≡◌, ◌≢◌, ◌⊎◌, inl, inr, ◌<◌, ◌≤◌, ◌+◌, ℕ, min, Bool, true, false}
use Rattle.std.proofs.Common.{Some, None, Result, Ok, Err, List, [], ◌∷◌, ◌++◌, length}
use Rattle.std.proofs.Common.{refl, sym, ap, ◌∙◌, subst, ⊎_elim, get_or, arith}
use Rattle.std.specs.Prelude.{slice_get, OnOk, OnErr, IfErr}
use Rattle.std.proofs.lemmas.Bool.{cases_eq}
use Rattle.std.proofs.lemmas.Option.{slice_get_cases}
use Rattle.lr_bits.specs.declared.placed.Placed.{Placed}
use Rattle.lr_bits.specs.Sizes.{most_u64}
use Rattle.lr_disk.specs.declared.disk.Disk.{Ghosts as DiskOf}
use Rattle.lr_shelf_format.specs.Way.{Way}
use Rattle.lr_shelf.specs.Adds.{new_end}
use Rattle.lr_shelf.specs.Append.{Appends, IsAppendRefusal, item_for}
use Rattle.lr_shelf.specs.Kept.{KeptShelf, kept_by}
use Rattle.lr_shelf.specs.declared.error.ShelfError.{ShelfError}
use Rattle.lr_shelf.specs.declared.error.ShelfError.TheVariants.{Disk, Capacity, NoMemory, Failed}
use Rattle.lr_downlinks.specs.Appending.{AppendsFile, AppendsNext, IsSameBook, WantsMemory}
use Rattle.lr_downlinks.specs.Appending.{answer_to, failed_after, downlink_file, downlink_files}
use Rattle.lr_downlinks.specs.Books.{BookView, IsBookOf, shelf_of_book}
use Rattle.lr_downlinks.specs.Ending.{DoesNotFitAt, RunEndsWith, BookGoesOn, IsLeftAt}
use Rattle.lr_downlinks.specs.Merge.{times_in_order}
use Rattle.lr_shelf.specs.Prefixes.{way_with_files}
use Rattle.lr_downlinks.specs.Start.{Start, files_in, merged}
use Rattle.lr_downlinks.specs.declared.run.RunEnd.TheVariants.{Capacity as EndCapacity}
use Rattle.lr_shelf.proofs.Prefixes.{capacity_stays, end_more}
use Rattle.lr_downlinks.proofs.Merging.{times-later, times-same}

module _ {D : Type 0} (disk : DiskOf D) (start : Start) (downlink : ℕ) (old new : BookView D) where
  -- what is kept, of the files in order
  way_is : IsBookOf start old → (kept_by old.shelf).way ≡ way_with_files (merged start old.order) start.way
  way_is is = ap (λ (k : KeptShelf). k.way) is.kept

  -- the order goes on
  longer : (result : Result Bool ShelfError) → (placed : Placed)
      → AppendsFile disk (downlink_file downlink placed) old new result ⊎ WantsMemory old new result
      → BookGoesOn old new
  longer result placed (inr wants) e = omega (arith, ap (times_in_order e) wants.same.order)
  longer result placed (inl a) e = by_answer a.answer a.order a.order_stays where
    by_answer : (answer : Result ℕ ShelfError)
        → OnOk answer (new.order ≡ old.order ++ downlink ∷ [])
        → OnErr answer (new.order ≡ old.order) → times_in_order e old.order ≤ times_in_order e new.order
    by_answer (Ok number) more same = omega (
      arith,
      ap (times_in_order e) more,
      times-later e old.order
          (downlink ∷ []),
    )
    by_answer (Err error) more same = omega (arith, ap (times_in_order e) same)

  module _ (result : Result Bool ShelfError) (next : AppendsNext disk
      (downlink_files downlink (files_in start downlink)) old new result)
    where
      -- there is a next file, or there is none
      pub goes_on : BookGoesOn old new
      goes_on e =
          ⊎_elim
          (λ (t : (x : Placed) × (times_in_order downlink old.order < length (files_in start downlink))
          × (slice_get (files_in start downlink) (times_in_order downlink old.order) ≡ Some x)
          × (get_or (files_in start downlink) (times_in_order downlink old.order) x ≡ x)).
          longer result t.0 (next.next t.0 t.2) e)
          (λ (t : (length (files_in start downlink) ≤ times_in_order downlink old.order)
          × (slice_get (files_in start downlink) (times_in_order downlink old.order) ≡ None)).
          omega (arith, ap (times_in_order e) (next.none t.1).1.order))
          (slice_get_cases (files_in start downlink) (times_in_order downlink old.order)).1

      -- what was refused
      pub has_next : (error : ShelfError) → result ≡ Err error
          → (placed : Placed) × (slice_get (files_in start downlink) (times_in_order downlink old.order) ≡ Some placed)
      has_next error is =
          ⊎_elim
          (λ (t : (x : Placed) × (times_in_order downlink old.order < length (files_in start downlink))
          × (slice_get (files_in start downlink) (times_in_order downlink old.order) ≡ Some x)
          × (get_or (files_in start downlink) (times_in_order downlink old.order) x ≡ x)). (t.0, t.2))
          (λ (t : (length (files_in start downlink) ≤ times_in_order downlink old.order)
          × (slice_get (files_in start downlink) (times_in_order downlink old.order) ≡ None)).
          let e = (next.none t.1).0 in absurd (cc (e, is)))
          (slice_get_cases (files_in start downlink) (times_in_order downlink old.order)).1

      -- one more was appended
      pub one_more : result ≡ Ok true
          → (times_in_order downlink new.order ≡ times_in_order downlink old.order + 1)
          × (times_in_order downlink old.order < length (files_in start downlink))
      one_more is =
          ⊎_elim
          (λ (t : (x : Placed) × (times_in_order downlink old.order < length (files_in start downlink))
          × (slice_get (files_in start downlink) (times_in_order downlink old.order) ≡ Some x)
          × (get_or (files_in start downlink) (times_in_order downlink old.order) x ≡ x)). (
            by_kind t.0 (next.next t.0 t.2),
            t.1,
          ))
          (λ (t : (length (files_in start downlink) ≤ times_in_order downlink old.order)
          × (slice_get (files_in start downlink) (times_in_order downlink old.order) ≡ None)).
          let e = (next.none t.1).0 in absurd (cc (e, is)))
          (slice_get_cases (files_in start downlink) (times_in_order downlink old.order)).1
        where
          by_answer : (answer : Result ℕ ShelfError) → Ok true ≡ answer_to answer
              → OnOk answer (new.order ≡ old.order ++ downlink ∷ [])
              → times_in_order downlink new.order ≡ times_in_order downlink old.order + 1
          by_answer (Ok number) e more = ap (times_in_order downlink) more ∙ times-same downlink old.order
          by_answer (Err error) e more = absurd (cc (e))

          by_kind : (placed : Placed)
              → AppendsFile disk (downlink_file downlink placed) old new result ⊎ WantsMemory old new result
              → times_in_order downlink new.order ≡ times_in_order downlink old.order + 1
          by_kind placed (inl a) = by_answer a.answer (sym is ∙ a.result_is) a.order
          by_kind placed (inr wants) = let e = wants.result_is in absurd (cc (e, is))

      -- all were appended
      pub all_there : IsBookOf start old → downlink < length start.streams → result ≡ Ok false
          → times_in_order downlink new.order ≡ length (files_in start downlink)
      all_there is known e =
          ⊎_elim
          (λ (t : (x : Placed) × (times_in_order downlink old.order < length (files_in start downlink))
          × (slice_get (files_in start downlink) (times_in_order downlink old.order) ≡ Some x)
          × (get_or (files_in start downlink) (times_in_order downlink old.order) x ≡ x)).
          let none = next.nothing e in let some = t.2 in absurd (cc (none, some)))
          (λ (t : (length (files_in start downlink) ≤ times_in_order downlink old.order)
          × (slice_get (files_in start downlink) (times_in_order downlink old.order) ≡ None)).
          omega (arith, ap (times_in_order downlink) (next.none t.1).1.order, is.order_is.few downlink known, t.0))
          (slice_get_cases (files_in start downlink) (times_in_order downlink old.order)).1

      -- a refusal but `Disk` left the book
      same_book : (error : ShelfError) → result ≡ Err error → error ≢ Disk → IsSameBook old new
      same_book error is other =
          subst (λ (r : Result Bool ShelfError). IfErr r (λ e. e ≢ Disk → IsSameBook old new)) is next.refused other

      module _ (is_book : IsBookOf start old) (works : old.failed ≡ false) where
        full_at : (placed : Placed)
            → slice_get (files_in start downlink) (times_in_order downlink old.order) ≡ Some placed
            → (needed capacity : ℕ) → IsAppendRefusal (item_for placed) (kept_by old.shelf) (Capacity needed capacity)
            → IsSameBook old new → DoesNotFitAt start downlink needed capacity new
        full_at placed some needed capacity refusal same =
            let files : List Placed = merged start new.order in
            let way : (kept_by old.shelf).way ≡ way_with_files files start.way =
            way_is is_book ∙ ap (λ (o : List ℕ). way_with_files (merged start o) start.way) (sym same.order) in
            let most : (kept_by old.shelf).way.capacity ≡ start.way.capacity =
            ap (λ (w : Way). w.capacity) way ∙ capacity_stays files start.way in
            let end : new_end (item_for placed) (kept_by old.shelf)
            ≡ (way_with_files (files ++ placed ∷ []) start.way).end =
            omega (arith, ap (λ (w : Way). w.end) way, end_more files placed start.way) in
            record {
              placed = placed;
              next = ap (λ (o : List ℕ). slice_get (files_in start downlink) (times_in_order downlink o)) same.order
                  ∙ some;
              over = omega (arith, refusal.1, most, end);
              needs = refusal.2 ∙ ap (λ (n : ℕ). min n most_u64) end;
              of = refusal.3 ∙ most;
            }

        left_for : (placed : Placed)
            → slice_get (files_in start downlink) (times_in_order downlink old.order) ≡ Some placed
            → (error : ShelfError) → IsAppendRefusal (item_for placed) (kept_by old.shelf) error → result ≡ Err error
            → IsLeftAt start downlink new error
        left_for placed some Disk refusal is = next.failed ∙ ap (failed_after old.failed) is
        left_for placed some (Capacity needed capacity) refusal is = (
          next.failed ∙ ap (failed_after old.failed) is ∙ works,
          full_at placed some needed capacity refusal (same_book (Capacity needed capacity) is (λ e. cc (e))),
        )
        left_for placed some NoMemory refusal is = next.failed ∙ ap (failed_after old.failed) is ∙ works
        left_for placed some Failed refusal is =
            let kept : (kept_by old.shelf).failed ≡ old.failed = ap (λ (k : KeptShelf). k.failed) is_book.kept in
            absurd (cc (refusal, kept, works))
        left_for placed some _ refusal is = absurd refusal

        left_by : (placed : Placed)
            → slice_get (files_in start downlink) (times_in_order downlink old.order) ≡ Some placed
            → (error : ShelfError) → result ≡ Err error → (answer : Result ℕ ShelfError)
            → Appends disk placed (shelf_of_book old) (shelf_of_book new) answer
            → answer_to answer ≡ Err error
            → IsLeftAt start downlink new error
        left_by placed some error is (Ok number) a e = absurd (cc (e))
        left_by placed some error is (Err refused) a e =
            let same : refused ≡ error = cc (e) in
            left_for placed some error
            (subst (IsAppendRefusal (item_for placed) (kept_by old.shelf)) same a.refused) is

        -- why a file was refused
        pub left_at : (error : ShelfError) → result ≡ Err error → IsLeftAt start downlink new error
        left_at error is =
            let has = has_next error is in
            ⊎_elim
            (λ (a : AppendsFile disk (downlink_file downlink has.0) old new result).
            left_by has.0 has.1 error is a.answer a.appends (sym a.result_is ∙ is))
            (λ (w : WantsMemory old new result).
            let same : NoMemory ≡ error = by_err NoMemory error (sym w.result_is ∙ is) in
            subst (IsLeftAt start downlink new) same (w.same.failed ∙ works))
            (next.next has.0 has.1)
          where
            by_err : (one other : ShelfError) → ◌≡◌ {A = Result Bool ShelfError} (Err one) (Err other) → one ≡ other
            by_err one other e = cc (e)

        -- after an append nothing failed
        pub still_works : result ≡ Ok true → new.failed ≡ false
        still_works is = next.failed ∙ ap (failed_after old.failed) is ∙ works

        pub works_on : result ≡ Ok false → new.failed ≡ false
        works_on is = next.failed ∙ ap (failed_after old.failed) is ∙ works

-- ---- the end

module _ {D : Type 0} (start : Start) (book : BookView D) where
  abbrev pub AreDone : ℕ → Type 0
  AreDone n = (downlink : ℕ) → downlink < n → times_in_order downlink book.order ≡ length (files_in start downlink)

  pub ends_full : (downlink needed capacity : ℕ) → IsLeftAt start downlink book (Capacity needed capacity)
      → downlink < length start.streams → AreDone downlink
      → RunEndsWith start book (EndCapacity needed capacity)
  ends_full downlink needed capacity left known done = (
    left.0,
    record {
      placed = left.1.placed;
      full = record {
        downlink = downlink;
        least = record { next = record { known = known; next = left.1.next }; least = done };
        over = left.1.over;
      };
      needs = left.1.needs;
      of = left.1.of;
    },
  )

  -- neither the disk nor the capacity
  pub ends_other : (downlink : ℕ) (error : ShelfError) → IsLeftAt start downlink book error → error ≢ Disk
      → book.failed ≡ false
  ends_other downlink Disk left other = absurd (other refl)
  ends_other downlink (Capacity needed capacity) left other = left.0
  ends_other downlink NoMemory left other = left
  ends_other downlink _ left other = absurd left

-- downlinks that are done stay so
pub done_still : {D : Type 0} (start : Start) (old new : BookView D) (n : ℕ) → n ≤ length start.streams
    → AreDone start old n → BookGoesOn old new → IsBookOf start new → AreDone start new n
done_still start old new n few done on is downlink inside =
    omega (arith, done downlink inside, on downlink, is.order_is.few downlink (omega (arith, inside, few)))

-- one more is
pub done_more : {D : Type 0} (start : Start) (book : BookView D) (n : ℕ) → AreDone start book n
    → times_in_order n book.order ≡ length (files_in start n) → AreDone start book (n + 1)
done_more start book n done here downlink inside =
    ⊎_elim (λ (same : downlink ≡ n).
    subst (λ (k : ℕ). times_in_order k book.order ≡ length (files_in start k)) (sym same) here)
    (λ (other : downlink ≡ n → ⊥). done downlink (omega (arith, inside, other))) (cases_eq downlink n)
