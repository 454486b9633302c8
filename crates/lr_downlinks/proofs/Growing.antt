-- One file more: what becomes of the disk since it was handed in.
use Rattle.std.proofs.Common.{◌≡◌, ◌≤◌, ℕ, min, Result, Ok, Err, List, [], ◌∷◌, ◌++◌}
use Rattle.std.proofs.Common.{length, take, drop, refl, sym, ap, ◌∙◌, subst, arith, length-append}
use Rattle.lr_bits.specs.Faults.{Rose}
use Rattle.lr_bits.specs.declared.placed.Placed.{Placed}
use Rattle.lr_bits.proofs.Telling.{tells_both, tells_still}
use Rattle.lr_disk.specs.declared.disk.Disk.{Ghosts as DiskOf}
use Rattle.lr_disk.specs.Pending.{EachImageSince, NothingPending}
use Rattle.lr_disk.proofs.Moments.{joined, stays, weaker}
use Rattle.lr_shelf_format.specs.Items.{IsItem, head_of_item}
use Rattle.lr_shelf_format.specs.Way.{IsWay, Way, way_with}
use Rattle.lr_shelf.specs.Adding.{StaysOutside}
use Rattle.lr_shelf.specs.Adds.{Adds, last_gate, new_end}
use Rattle.lr_shelf.specs.Append.{item_for}
use Rattle.lr_shelf.specs.InitialShelves.{InitialShelf, IsSettledOn, KeepsOn, LeavesPrefixes}
use Rattle.lr_shelf.specs.InitialShelves.{StandsForPrefix, StandsWith}
use Rattle.lr_shelf.specs.Kept.{KeptShelf, kept_by, shelf_on}
use Rattle.lr_shelf.specs.Shelf.{HasEitherWay, KeepsWay}
use Rattle.lr_shelf.specs.declared.error.ShelfError.{ShelfError}
use Rattle.lr_shelf.specs.declared.error.ShelfError.TheVariants.{Disk}
use Rattle.lr_shelf.specs.declared.shelf.Shelf.{Shelf}
use Rattle.lr_shelf.specs.Prefixes.{way_with_files}
use Rattle.lr_shelf.proofs.Prefixes.{end_later, end_more, way_with_files-push}
use Rattle.lr_shelf.proofs.InitialPrefixes.{front_none, fronts_with}
use Rattle.lr_shelf.proofs.InitialShelves.{left_on, moments_on, now_on, settled_on}
use Rattle.lr_shelf.proofs.Staying.{outside_further, outside_on}
use Rattle.lr_downlinks.specs.Appended.{HasAppended, MayHaveAppended}

-- ---- the beginning

module _ {D : Type 0} (disk : DiskOf D)
    (only_now : (d : D) (c : List ℕ) → disk.tells d → disk.left_since d (disk.moment d) c → disk.may_leave d c)
    (shelf : Shelf) (d : D) where
  pub none_appended : HasAppended disk (shelf_on shelf d) [] d
  none_appended = record {
    tell = tells_still;
    count = refl;
    none = λ is. refl;
    outside = λ t. record { before = refl; after = refl };
    durable = λ t only. only;
    outside_any_moment = λ t only.
        stays disk only_now d (StaysOutside (last_gate (kept_by shelf)) (kept_by shelf).way.end (disk.contents d)) t
        (λ c image. same_outside c (only c image));
    way = λ t keeps. keeps;
    on = λ initial s. (
      s.on_disk,
      stays disk only_now d (StandsForPrefix initial [] 0) s.told
          (λ c image. front_none initial c
          (subst (StandsWith initial []) (sym (s.on_disk.durable c image)) s.on_disk.stands)),
    );
  }
    where
      same_outside : (c : List ℕ) → c ≡ disk.contents d
          → StaysOutside (last_gate (kept_by shelf)) (kept_by shelf).way.end (disk.contents d) c
      same_outside c is = record {
        before = ap (take (min (last_gate (kept_by shelf)) (length (disk.contents d)))) is;
        after = ap (drop (kept_by shelf).way.end) is;
      }

-- ---- one more

module _ {D : Type 0} (disk : DiskOf D) (shelf : Shelf) (d : D) (files : List Placed) (placed : Placed)
    (old new : Shelf) (mid d' : D) (way_is : (kept_by old).way ≡ way_with_files files (kept_by shelf).way)
    (so_far : HasAppended disk (shelf_on shelf d) files mid) where
  gate_later : last_gate (kept_by shelf) ≤ last_gate (kept_by old)
  gate_later = omega (arith, end_later files (kept_by shelf).way, ap (λ (w : Way). w.end) way_is)

  end_is : new_end (item_for placed) (kept_by old) ≡ (way_with_files (files ++ placed ∷ []) (kept_by shelf).way).end
  end_is = omega (arith, ap (λ (w : Way). w.end) way_is, end_more files placed (kept_by shelf).way)

  further : (way_with_files files (kept_by shelf).way).end
      ≤ (way_with_files (files ++ placed ∷ []) (kept_by shelf).way).end
  further = omega (arith, end_more files placed (kept_by shelf).way)

  outside_one : (c : List ℕ) → disk.tells d
      → StaysOutside (last_gate (kept_by old)) (new_end (item_for placed) (kept_by old)) (disk.contents mid) c
      → StaysOutside (last_gate (kept_by shelf)) (way_with_files (files ++ placed ∷ []) (kept_by shelf).way).end
      (disk.contents d) c
  outside_one c t one =
      outside_on (last_gate (kept_by shelf)) (last_gate (kept_by old))
      (way_with_files files (kept_by shelf).way).end (way_with_files (files ++ placed ∷ []) (kept_by shelf).way).end
      (disk.contents d) (disk.contents mid) c gate_later further (so_far.outside t)
      (subst (λ (n : ℕ). StaysOutside (last_gate (kept_by old)) n (disk.contents mid) c) end_is one)

  keeps_way : disk.tells d → KeepsWay (disk.contents d) shelf → KeepsWay (disk.contents mid) old
  keeps_way t keeps = subst (IsWay (disk.contents mid)) (sym way_is) (so_far.way t keeps)

  module _ {A : Type 0} (result : Result A ShelfError) (adds : Adds disk (item_for placed) (shelf_on old mid)
      (shelf_on new d') result) where
    outside_moments : disk.tells d → NothingPending disk d
        → EachImageSince disk d d'
        (StaysOutside (last_gate (kept_by shelf)) (way_with_files (files ++ placed ∷ []) (kept_by shelf).way).end
        (disk.contents d))
    outside_moments t only =
        let gate = last_gate (kept_by shelf) in
        let to = (way_with_files files (kept_by shelf).way).end in
        let to' = (way_with_files (files ++ placed ∷ []) (kept_by shelf).way).end in
        joined disk.moment disk.left_since d mid d' (StaysOutside gate to' (disk.contents d))
        (weaker disk.moment disk.left_since d mid (StaysOutside gate to (disk.contents d))
        (StaysOutside gate to' (disk.contents d))
        (λ c one. outside_further gate to to' (disk.contents d) c further one) (so_far.outside_any_moment t only))
        (weaker disk.moment disk.left_since mid d'
        (StaysOutside (last_gate (kept_by old)) (new_end (item_for placed) (kept_by old)) (disk.contents mid))
        (StaysOutside gate to' (disk.contents d)) (λ c one. outside_one c t one)
        (adds.outside_any_moment (so_far.tell.told t) (so_far.durable t only)))

  module _ (leaves_contents : (d : D) → disk.tells d → disk.may_leave d (disk.contents d))
      (counts_now : (d : D) (t : ℕ) (c : List ℕ) → disk.tells d → t ≤ disk.moment d → disk.may_leave d c
      → disk.left_since d t c)
      (is_item : IsItem (item_for placed))
      (keeps : (initial : InitialShelf) → IsSettledOn initial [] disk shelf d → KeepsOn initial files old) where
    settled_mid : (initial : InitialShelf) → IsSettledOn initial [] disk shelf d
        → IsSettledOn initial files disk old mid
    settled_mid initial s = record {
      told = so_far.tell.told s.told;
      kept = keeps initial s;
      on_disk = (so_far.on initial s).0;
    }

    fronts_moments : {A : Type 0} (result : Result A ShelfError)
        → Adds disk (item_for placed) (shelf_on old mid) (shelf_on new d') result → (initial : InitialShelf)
        → IsSettledOn initial [] disk shelf d
        → LeavesPrefixes disk initial (files ++ placed ∷ []) d d'
    fronts_moments result adds initial s =
        fronts_with disk initial d mid d' files (so_far.on initial s).1 placed
        (moments_on disk leaves_contents counts_now files placed is_item old new mid d' result adds initial
        (settled_mid initial s))

    -- the file was appended
    pub one_appended : {A : Type 0} (answer : A) → Adds disk (item_for placed) (shelf_on old mid) (shelf_on new d')
        (Ok answer)
        → HasAppended disk (shelf_on shelf d) (files ++ placed ∷ []) d'
    one_appended answer adds =
        let way : (kept_by new).way ≡ way_with_files (files ++ placed ∷ []) (kept_by shelf).way =
        ap (λ (k : KeptShelf). k.way) adds.kept
        ∙ ap (way_with (head_of_item (item_for placed))) way_is
        ∙ sym (way_with_files-push files placed (kept_by shelf).way) in
        record {
          tell = tells_both so_far.tell adds.calls.tell;
          count = adds.calls.counted ∙ so_far.count;
          none = λ is. absurd (omega (
            arith,
            ap (λ (l : List Placed). length l) is,
            length-append files (placed ∷ []),
          ));
          outside = λ t. outside_one (disk.contents d') t (adds.outside (so_far.tell.told t));
          durable = λ t only. adds.durable (so_far.tell.told t);
          outside_any_moment = λ t only. outside_moments (Ok answer) adds t only;
          way = λ t keeps. subst (IsWay (disk.contents d')) way
              (adds.on_way.way (so_far.tell.told t) (keeps_way t keeps));
          on = λ initial s. (
            (settled_on disk leaves_contents counts_now files placed is_item old new mid d' answer adds initial
                (settled_mid initial s)).on_disk,
            fronts_moments (Ok answer) adds initial s,
          );
        }

    -- the disk failed in it
    pub one_failed : {A : Type 0}
        → Adds disk {A = A} (item_for placed) (shelf_on old mid) (shelf_on new d') (Err Disk)
        → MayHaveAppended disk (shelf_on shelf d) files placed d'
    one_failed adds = record {
      tell = tells_both so_far.tell adds.calls.tell;
      later = subst (λ (n : ℕ). n ≤ disk.faults d') so_far.count adds.calls.counted.0;
      rose = subst (λ (n : ℕ). Rose n (disk.faults d')) so_far.count adds.calls.counted.1;
      outside = λ t. outside_one (disk.contents d') t (adds.outside (so_far.tell.told t));
      outside_any_moment = λ t only. outside_moments (Err Disk) adds t only;
      way = λ t keeps.
          subst (λ (w : Way). HasEitherWay w (item_for placed) (disk.contents d')) way_is
          (adds.on_way.either (so_far.tell.told t) (keeps_way t keeps));
      on = λ initial s.
          let before = settled_mid initial s in (
            record {
              contents =
                  now_on disk leaves_contents counts_now files placed is_item old new mid d' (Err Disk) adds initial
                  before;
              images =
                  left_on disk leaves_contents counts_now files placed is_item old new mid d' (Err Disk) adds initial
                  before;
            },
            fronts_moments (Err Disk) adds initial s,
          );
    }
