-- What a book keeps, from one append to the next.
use Rattle.std.proofs.Common.{◌≡◌, ◌≢◌, ◌⊎◌, inl, inr, ◌≤◌, ℕ, Bool, true, false, Some, Result, Ok, Err, List, []}
use Rattle.std.proofs.Common.{◌∷◌, ◌++◌, length, refl, sym, ap, ◌∙◌, subst, ⊎_elim}
use Rattle.std.specs.Prelude.{slice_get, OnOk, OnErr, IfErr}
use Rattle.std.specs.Borrow.{GName}
use Rattle.lr_bits.specs.declared.placed.Placed.{Placed}
use Rattle.lr_disk.specs.declared.disk.Disk.{Ghosts as DiskOf}
use Rattle.lr_shelf_format.specs.Items.{IsItem, head_of_item}
use Rattle.lr_shelf_format.specs.Way.{Way, way_with}
use Rattle.lr_shelf.specs.Append.{Appends, item_for}
use Rattle.lr_shelf.specs.Kept.{KeptShelf, kept_by, kept_with, shelf_on}
use Rattle.lr_shelf.specs.declared.error.ShelfError.{ShelfError}
use Rattle.lr_shelf.specs.declared.error.ShelfError.TheVariants.{Disk}
use Rattle.lr_shelf.specs.declared.shelf.Shelf.{Shelf}
use Rattle.lr_downlinks.specs.Appending.{AppendsFile, AppendsNext, IsSameBook, WantsMemory}
use Rattle.lr_downlinks.specs.Appending.{answer_to, failed_after, book_view_of, downlink_file}
use Rattle.lr_downlinks.specs.Appending.{downlink_files}
use Rattle.lr_downlinks.specs.Books.{BeginsRun, BookView, IsBookOf, KeepsBook, StandsOver}
use Rattle.lr_downlinks.specs.Books.{BookWorks, WorksOrBroke, shelf_of_book}
use Rattle.lr_downlinks.specs.Merge.{IsNextOf, times_in_order}
use Rattle.lr_shelf.specs.Prefixes.{way_with_files}
use Rattle.lr_downlinks.specs.Appended.{HasAppended}
use Rattle.lr_downlinks.specs.Start.{Start, files_in, merged}
use Rattle.lr_shelf.proofs.Prefixes.{way_with_files-push}
use Rattle.lr_shelf.proofs.InitialPrefixes.{keeps_on}
use Rattle.lr_downlinks.proofs.Growing.{none_appended, one_appended, one_failed}
use Rattle.lr_downlinks.proofs.Merging.{merge-none, merge-push, order_more, order_none}

-- ---- books

module _ {D : Type 0} (start : Start) (shelf : Shelf) (same_way : (kept_by shelf).way ≡ start.way)
    (book : BookView D) (is : IsBookOf start book) where
  -- the way of its shelf, from the one of the shelf that was handed in
  book_way : (kept_by book.shelf).way ≡ way_with_files (merged start book.order) (kept_by shelf).way
  book_way = ap (λ (k : KeptShelf). k.way) is.kept ∙ ap (way_with_files (merged start book.order)) (sym same_way)

  -- no append met a fault
  book_works : (disk : DiskOf D) (d : D) → book.failed ≡ false
      → HasAppended disk (shelf_on shelf d) (merged start book.order) book.disk
      → BookWorks disk start (shelf_on shelf d) book
  book_works disk d working appended = record {
    appended = appended;
    keeps = λ initial s.
        keeps_on initial (merged start book.order) shelf book.shelf s.kept book_way
        (ap (λ (k : KeptShelf). k.failed) is.kept ∙ working);
  }

module _ {D : Type 0} (disk : DiskOf D)
    (leaves_contents : (d : D) → disk.tells d → disk.may_leave d (disk.contents d))
    (counts_now : (d : D) (t : ℕ) (c : List ℕ) → disk.tells d → t ≤ disk.moment d → disk.may_leave d c
    → disk.left_since d t c)
    (start : Start) (handed : Shelf → D → Type 0) (name : GName) where
  -- the same shelf, as far as it keeps something
  state_same : (shelf : Shelf) (d : D) (old : BookView D) (shelf' : Shelf) → kept_by shelf' ≡ kept_by old.shelf
      → (failed : Bool) → WorksOrBroke disk start (shelf_on shelf d) failed old
      → WorksOrBroke disk start (shelf_on shelf d) failed (record {
        shelf = shelf';
        disk = old.disk;
        order = old.order;
        failed = old.failed;
      })
  state_same shelf d old shelf' same false works = record {
    appended = works.appended;
    keeps = λ initial s.
        let is = works.keeps initial s in
        record {
          way = ap (λ (k : KeptShelf). k.way) same ∙ is.way;
          working = ap (λ (k : KeptShelf). k.failed) same ∙ is.working;
        };
  }
  state_same shelf d old shelf' same true broke = record {
    downlink = broke.downlink;
    placed = broke.placed;
    next = broke.next;
    appended = broke.appended;
  }

  module _ (old : BookView D) (keeps : KeepsBook disk start handed name old) where
    failed_is : (kept_by old.shelf).failed ≡ old.failed
    failed_is = ap (λ (k : KeptShelf). k.failed) keeps.files.kept

    -- nothing was changed
    pub same_kept : (new : BookView D) → IsSameBook old new → KeepsBook disk start handed name new
    same_kept new same =
        let at : BookView D = record { shelf = new.shelf; disk = old.disk; order = old.order; failed = old.failed } in
        let kept : KeepsBook disk start handed name at = record {
          same_disk = keeps.same_disk;
          few = keeps.few;
          files = record { order_is = keeps.files.order_is; kept = same.shelf ∙ keeps.files.kept };
          stands = λ shelf d is.
              let over = keeps.stands shelf d is in
              record {
                same_way = over.same_way;
                state = state_same shelf d old new.shelf same.shelf old.failed over.state;
              };
        } in
        subst (λ (d : D). KeepsBook disk start handed name (record {
          shelf = new.shelf;
          disk = d;
          order = new.order;
          failed = new.failed;
        })) (sym same.disk)
        (subst (λ (o : List ℕ). KeepsBook disk start handed name (record {
          shelf = new.shelf;
          disk = old.disk;
          order = o;
          failed = new.failed;
        })) (sym same.order)
        (subst (λ (b : Bool). KeepsBook disk start handed name (record {
          shelf = new.shelf;
          disk = old.disk;
          order = old.order;
          failed = b;
        })) (sym same.failed) kept))

    module _ (shelf : Shelf) (d : D) (over : StandsOver disk start (shelf_on shelf d) old) where
      works_if : old.failed ≡ false → BookWorks disk start (shelf_on shelf d) old
      works_if e = subst (λ (b : Bool). WorksOrBroke disk start (shelf_on shelf d) b old) e over.state

      way_is : (kept_by old.shelf).way ≡ way_with_files (merged start old.order) (kept_by shelf).way
      way_is = book_way start shelf over.same_way old keeps.files

    module _ (downlink : ℕ) (placed : Placed) (is_item : IsItem (item_for placed))
        (next : IsNextOf (length start.streams) (files_in start) old.order downlink placed) where
      more : merged start (old.order ++ downlink ∷ []) ≡ merged start old.order ++ placed ∷ []
      more = merge-push (length start.streams) (files_in start) old.order downlink placed next

      -- the file was appended
      pub more_kept : (shelf' : Shelf) (d' : D) (number : ℕ)
          → Appends disk placed (shelf_of_book old) (shelf_on shelf' d') (Ok number)
          → KeepsBook disk start handed name (record {
            shelf = shelf';
            disk = d';
            order = old.order ++ downlink ∷ [];
            failed = old.failed;
          })
      more_kept shelf' d' number a =
          let works : old.failed ≡ false = sym failed_is ∙ a.adds.working in
          let grown : BookView D = record {
            shelf = shelf';
            disk = d';
            order = old.order ++ downlink ∷ [];
            failed = old.failed;
          } in
          let files : IsBookOf start grown = record {
            order_is = order_more (length start.streams) (files_in start) old.order downlink placed
                keeps.files.order_is next;
            kept = kept_more a.adds.kept;
          } in
          record {
            same_disk = keeps.same_disk;
            few = keeps.few;
            files = files;
            stands = λ shelf d is.
                let over = keeps.stands shelf d is in
                record {
                  same_way = over.same_way;
                  state = subst (λ (b : Bool). WorksOrBroke disk start (shelf_on shelf d) b grown) (sym works)
                      (book_works start shelf over.same_way grown files disk d works
                      (appended_more shelf d over (works_if shelf d over works)));
                };
          }
        where
          kept_more : kept_by shelf' ≡ kept_with (item_for placed) (kept_by old.shelf)
              → kept_by shelf' ≡ record {
                way = way_with_files (merged start (old.order ++ downlink ∷ [])) start.way;
                failed = old.failed;
              }
          kept_more one =
              let way : way_with_files (merged start (old.order ++ downlink ∷ [])) start.way
              ≡ way_with (head_of_item (item_for placed)) (way_with_files (merged start old.order) start.way) =
              ap (λ (l : List Placed). way_with_files l start.way) more
              ∙ way_with_files-push (merged start old.order) placed start.way in
              one ∙ ap (kept_with (item_for placed)) keeps.files.kept
              ∙ ap (λ (w : Way). record { way = w; failed = old.failed }) (sym way)

          appended_more : (shelf : Shelf) (d : D) → StandsOver disk start (shelf_on shelf d) old
              → BookWorks disk start (shelf_on shelf d) old
              → HasAppended disk (shelf_on shelf d) (merged start (old.order ++ downlink ∷ [])) d'
          appended_more shelf d over was =
              subst (λ (l : List Placed). HasAppended disk (shelf_on shelf d) l d') (sym more)
              (one_appended disk shelf d (merged start old.order) placed old.shelf shelf' old.disk d'
              (way_is shelf d over) was.appended leaves_contents counts_now is_item was.keeps number a.adds)

      -- the disk failed in it
      pub broke_kept : (shelf' : Shelf) (d' : D) → Appends disk placed (shelf_of_book old)
          (shelf_on shelf' d') (Err Disk)
          → KeepsBook disk start handed name (record {
            shelf = shelf';
            disk = d';
            order = old.order;
            failed = true;
          })
      broke_kept shelf' d' a =
          let works : old.failed ≡ false = sym failed_is ∙ a.refused.0 in
          record {
            same_disk = keeps.same_disk;
            few = keeps.few;
            files = record {
              order_is = keeps.files.order_is;
              kept = a.adds.failed refl
                  ∙ ap (λ (k : KeptShelf). record { way = k.way; failed = true }) keeps.files.kept;
            };
            stands = λ shelf d is.
                let over = keeps.stands shelf d is in
                let was = works_if shelf d over works in
                record {
                  same_way = over.same_way;
                  state = record {
                    downlink = downlink;
                    placed = placed;
                    next = next;
                    appended = one_failed disk shelf d (merged start old.order) placed old.shelf shelf' old.disk d'
                        (way_is shelf d over) was.appended leaves_contents counts_now is_item was.keeps a.adds;
                  };
                };
          }

      -- it was refused before anything was written
      pub refused_kept : (shelf : Shelf) (d : D) (error : ShelfError) → error ≢ Disk
          → Appends disk placed (shelf_of_book old) (shelf_on shelf d) (Err error)
          → (d ≡ old.disk) × (kept_by shelf ≡ kept_by old.shelf)
      refused_kept shelf d error other a =
          ⊎_elim (λ (is : error ≡ Disk). absurd (other is))
          (λ (same : (d ≡ old.disk) × (kept_by shelf ≡ kept_by old.shelf)). same) a.adds.untouched

      -- whatever it answered
      one_kept : (shelf : Shelf) (d : D) (order : List ℕ) (answer : Result ℕ ShelfError)
          → Appends disk placed (shelf_of_book old) (shelf_on shelf d) answer
          → OnOk answer (order ≡ old.order ++ downlink ∷ [])
          → OnErr answer (order ≡ old.order)
          → KeepsBook disk start handed name (record {
            shelf = shelf;
            disk = d;
            order = order;
            failed = failed_after old.failed (answer_to answer);
          })
      one_kept shelf d order (Ok number) a longer same =
          subst (λ (o : List ℕ). KeepsBook disk start handed name (record {
            shelf = shelf;
            disk = d;
            order = o;
            failed = old.failed;
          })) (sym longer) (more_kept shelf d number a)
      one_kept shelf d order (Err Disk) a longer same =
          subst (λ (o : List ℕ). KeepsBook disk start handed name (record {
            shelf = shelf;
            disk = d;
            order = o;
            failed = true;
          })) (sym same) (broke_kept shelf d a)
      one_kept shelf d order (Err error) a longer same =
          let is = refused_kept shelf d error (λ e. cc (e)) a in
          same_kept (record { shelf = shelf; disk = d; order = order; failed = old.failed })
          (record { shelf = is.1; disk = is.0; order = same; failed = refl })

      pub next_kept : (shelf : Shelf) (d : D) (order : List ℕ) (result : Result Bool ShelfError)
          → AppendsFile disk (downlink_file downlink placed) (book_view_of old.shelf old.disk old.order)
          (book_view_of shelf d order)
          result
          ⊎ WantsMemory (book_view_of old.shelf old.disk old.order) (book_view_of shelf d order) result
          → KeepsBook disk start handed name (record {
            shelf = shelf;
            disk = d;
            order = order;
            failed = failed_after old.failed result;
          })
      next_kept shelf d order result (inl a) =
          subst (λ (r : Result Bool ShelfError). KeepsBook disk start handed name (record {
            shelf = shelf;
            disk = d;
            order = order;
            failed = failed_after old.failed r;
          })) (sym a.result_is) (one_kept shelf d order a.answer a.appends a.order a.order_stays)
      next_kept shelf d order result (inr wants) =
          same_kept (record { shelf = shelf; disk = d; order = order; failed = failed_after old.failed result })
          (record {
            shelf = wants.same.shelf;
            disk = wants.same.disk;
            order = wants.same.order;
            failed = ap (failed_after old.failed) wants.result_is;
          })

-- ---- what a call answers

module _ {D : Type 0} (disk : DiskOf D) (downlink : ℕ) (files : List Placed) (old : BookView D) where
  module _ (placed : Placed) (some : slice_get files (times_in_order downlink old.order) ≡ Some placed)
      (shelf : Shelf) (d : D)
      (order : List ℕ) where
    one_refused : (answer : Result ℕ ShelfError) → Appends disk placed (shelf_of_book old)
        (shelf_on shelf d) answer
        → OnErr answer (order ≡ old.order)
        → IfErr (answer_to answer) (λ error. error ≢ Disk → IsSameBook old (record {
          shelf = shelf;
          disk = d;
          order = order;
          failed = failed_after old.failed (answer_to answer);
        }))
    one_refused (Ok number) a same = tt
    one_refused (Err Disk) a same = λ other. absurd (other refl)
    one_refused (Err error) a same = λ other.
        ⊎_elim (λ (is : error ≡ Disk). absurd (other is))
        (λ (is : (d ≡ old.disk) × (kept_by shelf ≡ kept_by old.shelf)).
        record { shelf = is.1; disk = is.0; order = same; failed = refl }) a.adds.untouched

    not_false : (answer : Result ℕ ShelfError) → answer_to answer ≡ Ok false → ⊥
    not_false (Ok number) e = cc (e)
    not_false (Err error) e = cc (e)

    pub some_next : (result : Result Bool ShelfError)
        → AppendsFile disk (downlink_file downlink placed) (book_view_of old.shelf old.disk old.order)
        (book_view_of shelf d order)
        result
        ⊎ WantsMemory (book_view_of old.shelf old.disk old.order) (book_view_of shelf d order) result
        → AppendsNext disk (downlink_files downlink files) old (record {
          shelf = shelf;
          disk = d;
          order = order;
          failed = failed_after old.failed result;
        }) result
    some_next result (inl a) = record {
      none = λ none. absurd (cc (none, some));
      nothing = λ e. absurd (not_false a.answer (sym a.result_is ∙ e));
      next = λ placed' some'.
          let same : placed ≡ placed' = cc (some, some') in
          inl (subst (λ (p : Placed). AppendsFile disk (downlink_file downlink p) old (record {
            shelf = shelf;
            disk = d;
            order = order;
            failed = failed_after old.failed result;
          }) result) same (record {
            answer = a.answer;
            appends = a.appends;
            result_is = a.result_is;
            order = a.order;
            order_stays = a.order_stays;
          }));
      refused = subst (λ (r : Result Bool ShelfError). IfErr r
          (λ error. error ≢ Disk → IsSameBook old (record {
            shelf = shelf;
            disk = d;
            order = order;
            failed = failed_after old.failed r;
          }))) (sym a.result_is) (one_refused a.answer a.appends a.order_stays);
      failed = refl;
    }
    some_next result (inr wants) =
        let new : BookView D = record {
          shelf = shelf;
          disk = d;
          order = order;
          failed = failed_after old.failed result;
        } in
        let same : IsSameBook old new = record {
          shelf = wants.same.shelf;
          disk = wants.same.disk;
          order = wants.same.order;
          failed = ap (failed_after old.failed) wants.result_is;
        } in
        record {
          none = λ none. absurd (cc (none, some));
          nothing = λ e. absurd (cc (e, wants.result_is));
          next = λ placed' some'. inr (record { result_is = wants.result_is; same = same });
          refused = any_same result (λ error other. same);
          failed = refl;
        }
      where
        any_same : {P : ShelfError → Type 0} (r : Result Bool ShelfError)
            → ((error : ShelfError) → P error) → IfErr r P
        any_same (Ok b) all = tt
        any_same (Err error) all = all error

-- ---- the beginning

module _ {D : Type 0} (disk : DiskOf D)
    (only_now : (d : D) (c : List ℕ) → disk.tells d → disk.left_since d (disk.moment d) c → disk.may_leave d c)
    (start : Start) (handed : Shelf → D → Type 0) (shelf : Shelf) (name : GName) (d : D)
    (working : (kept_by shelf).failed ≡ false) (begun : BeginsRun disk start handed name (shelf_on shelf d))
    (few : length start.streams ≤ 16) where
  abbrev opened : BookView D
  opened = record { shelf = shelf; disk = d; order = []; failed = false }

  opened_is : IsBookOf start opened
  opened_is = record {
    order_is = order_none (length start.streams) (files_in start);
    kept =
        ap (λ (b : Bool). record { way = (kept_by shelf).way; failed = b }) working
        ∙ ap (λ (w : Way). record { way = w; failed = false })
        (sym begun.way_is
        ∙ sym (ap (λ (l : List Placed). way_with_files l start.way) (merge-none (files_in start))));
  }

  begins_over : StandsOver disk start (shelf_on shelf d) opened
  begins_over = record {
    same_way = sym begun.way_is;
    state = book_works start shelf (sym begun.way_is) opened opened_is disk d refl
        (subst (λ (l : List Placed). HasAppended disk (shelf_on shelf d) l d) (sym (merge-none (files_in start)))
        (none_appended disk only_now shelf d));
  }

  begins : KeepsBook disk start handed name opened
  begins = record {
    same_disk = sym begun.disk_is;
    few = few;
    files = opened_is;
    stands = λ shelf' d' is.
        let same = begun.only shelf' d' is in
        subst (λ (s : Shelf). StandsOver disk start (shelf_on s d') opened) (sym same.0)
        (subst (λ (e : D). StandsOver disk start (shelf_on shelf e) opened) (sym same.1) begins_over);
  }

  -- also where the order is known to be empty
  pub keeps_begun : (order : List ℕ) → order ≡ []
      → KeepsBook disk start handed name (record { shelf = shelf; disk = d; order = order; failed = false })
  keeps_begun order is =
      subst (λ (l : List ℕ).
      KeepsBook disk start handed name (record { shelf = shelf; disk = d; order = l; failed = false })) (sym is) begins
