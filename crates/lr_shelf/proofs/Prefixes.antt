-- Files that come after a way: one file more.
use Rattle.std.proofs.Common.{◌≡◌, inl, inr, ⊎_elim, false, ℕ, ◌+◌, ◌-◌, ◌≤◌, List, [], ◌∷◌, ◌++◌, Ok, Result}
use Rattle.std.proofs.Common.{All, length, map, take, slice_index, refl, sym, ◌∙◌, ap, subst, arith}
use Rattle.std.proofs.Common.{append_assoc, length-append, length-take}
use Rattle.std.proofs.lemmas.List.{append-nil, get_or_at, map_push, take_at}
use Rattle.std.proofs.lemmas.List.Sums.{sum_by-append}
use Rattle.std.specs.List.{flat_map}
use Rattle.lr_bits.specs.declared.placed.Placed.{Placed}
use Rattle.lr_disk.specs.declared.disk.Disk.{Ghosts as DiskOf}
use Rattle.lr_disk.specs.Pending.{EachImageSince, NothingPending}
use Rattle.lr_shelf_format.specs.Gates.{IsClosedAfter}
use Rattle.lr_shelf_format.specs.Items.{IsItem, Item, extent_of, head_of_item, item_bytes}
use Rattle.lr_shelf_format.specs.Way.{IsWay, Way, way_with}
use Rattle.lr_shelf_format.proofs.ItemLemmas.{length-item_bytes}
use Rattle.lr_shelf_format.proofs.WayLemmas.{has_one_way}
use Rattle.lr_shelf.specs.Adding.{WithOrWithout}
use Rattle.lr_shelf.specs.Adds.{Adds, last_gate}
use Rattle.lr_shelf.specs.Append.{item_for}
use Rattle.lr_shelf.specs.InitialShelves.{StandsWith, StandsWithEither, initial_shelf}
use Rattle.lr_shelf.specs.Prefixes.{end_with, gated_file, room_for, way_with_files}
use Rattle.lr_shelf.specs.Kept.{KeptShelf, kept_by, shelf_on}
use Rattle.lr_shelf.specs.Shelf.{HasEitherWay, KeepsWay}
use Rattle.lr_shelf.specs.declared.error.ShelfError.{ShelfError}
use Rattle.lr_shelf.specs.declared.shelf.Shelf.{Shelf}
use Rattle.lr_shelf.proofs.AddingLemmas.{All-push, way_still}

-- ---- ways

pub way_with_files-push : (files : List Placed) (placed : Placed) (way : Way)
    → way_with_files (files ++ placed ∷ []) way ≡ way_with (head_of_item (item_for placed)) (way_with_files files way)
way_with_files-push [] placed way = refl
way_with_files-push (first ∷ files) placed way =
    way_with_files-push files placed (way_with (head_of_item (item_for first)) way)

pub capacity_stays : (files : List Placed) (way : Way) → (way_with_files files way).capacity ≡ way.capacity
capacity_stays [] way = refl
capacity_stays (placed ∷ files) way = capacity_stays files (way_with (head_of_item (item_for placed)) way)

pub end_later : (files : List Placed) (way : Way) → way.end ≤ (way_with_files files way).end
end_later [] way = omega arith
end_later (placed ∷ files) way = omega (arith, end_later files (way_with (head_of_item (item_for placed)) way))

pub end_more : (files : List Placed) (placed : Placed) (way : Way)
    → (way_with_files (files ++ placed ∷ []) way).end
    ≡ (way_with_files files way).end + 1 + extent_of (head_of_item (item_for placed))
end_more files placed way = ap (λ (w : Way). w.end) (way_with_files-push files placed way)

pub entries_after_files : (files : List Placed) (way : Way)
    → length (way_with_files files way).entries ≡ length way.entries + length files
entries_after_files [] way = omega arith
entries_after_files (placed ∷ files) way =
    omega (
      arith,
      entries_after_files files (way_with (head_of_item (item_for placed)) way),
      length-append way.entries (record {
        gate = way.end - 1;
        extent = extent_of (head_of_item (item_for placed));
        gone = false;
      } ∷ []),
    )

-- more files end later
pub end_with-append : (end : ℕ) (xs ys : List Placed) → end_with end (xs ++ ys) ≡ end_with (end_with end xs) ys
end_with-append end xs ys = omega (arith, sum_by-append room_for xs ys)

-- where a way ends with files
pub way_end : (files : List Placed) (way : Way) → (way_with_files files way).end ≡ end_with way.end files
way_end [] way = omega arith
way_end (placed ∷ files) way =
    let next = way_with (head_of_item (item_for placed)) way in
    omega (arith, way_end files next, end_with-append way.end (placed ∷ []) files)

-- ---- the bytes before the last gate

gated-push : (files : List Placed) (placed : Placed)
    → flat_map gated_file (files ++ placed ∷ []) ≡ flat_map gated_file files ++ gated_file placed
gated-push [] placed = append-nil (gated_file placed)
gated-push (first ∷ files) placed =
    ap (λ (l : List ℕ). gated_file first ++ l) (gated-push files placed)
    ∙ sym (append_assoc (gated_file first) (flat_map gated_file files) (gated_file placed))

module _ (bytes : List ℕ) (way : Way) (has : IsWay bytes way) where
  front_long : length (take (way.end - 1) bytes) ≡ way.end - 1
  front_long = length-take (way.end - 1) bytes ∙ omega (arith, has.walk.inside, has.end)

  -- the last gate is closed: the bytes before it stay
  front_still : (c : List ℕ) → IsClosedAfter (take (way.end - 1) bytes) c
      → take (way.end - 1) c ≡ take (way.end - 1) bytes
  front_still c shut =
      ap (take (way.end - 1)) shut.split
      ∙ take_at (take (way.end - 1) bytes) (shut.gate ∷ shut.rest) (way.end - 1) front_long

  module _ (item : Item) (c : List ℕ)
      (shut : IsClosedAfter (take (way.end - 1) bytes ++ 1 ∷ item_bytes item) c) where
    -- it is open, and after it stands an item
    front_with : take ((way_with (head_of_item item) way).end - 1) c ≡ take (way.end - 1) bytes ++ 1 ∷ item_bytes item
    front_with =
        let before = take (way.end - 1) bytes ++ 1 ∷ item_bytes item in
        let size : length before ≡ (way_with (head_of_item item) way).end - 1 = omega (
          arith,
          length-append (take (way.end - 1) bytes) (1 ∷ item_bytes item),
          length-item_bytes item,
          front_long,
          has.end,
        ) in
        ap (take ((way_with (head_of_item item) way).end - 1)) shut.split
        ∙ take_at before (shut.gate ∷ shut.rest) ((way_with (head_of_item item) way).end - 1) size

    gate_open : slice_index c (way.end - 1) ≡ 1
    gate_open =
        ap (λ (l : List ℕ). slice_index l (way.end - 1))
        (shut.split ∙ append_assoc (take (way.end - 1) bytes) (1 ∷ item_bytes item) (shut.gate ∷ shut.rest))
        ∙ get_or_at (take (way.end - 1) bytes) 1 (item_bytes item ++ shut.gate ∷ shut.rest) 0 (way.end - 1) front_long

    not_without : IsWay c way → ⊥
    not_without is =
        let last : way.end - 1 ≡ is.last = omega (arith, is.end) in
        is.walk.closed (subst (λ (n : ℕ). slice_index c n ≡ 1) last gate_open)

-- ---- one file more

module _ (way : Way) (old : List ℕ) (files : List Placed) (placed : Placed) (is : IsItem (item_for placed)) where
  module _ (bytes : List ℕ) (has : StandsWith (initial_shelf way old) files bytes) (c : List ℕ) where
    without_one : IsClosedAfter (take ((way_with_files files way).end - 1) bytes) c
        → StandsWith (initial_shelf way old) files c
    without_one shut = record {
      is_way = way_still bytes (way_with_files files way) has.is_way c shut;
      room = has.room;
      each = has.each;
      front = front_still bytes (way_with_files files way) has.is_way c shut ∙ has.front;
    }

    with_one : IsClosedAfter (take ((way_with_files files way).end - 1) bytes ++ gated_file placed) c
        → HasEitherWay (way_with_files files way) (item_for placed) c
        → StandsWith (initial_shelf way old) (files ++ placed ∷ []) c
    with_one shut (inl without) =
        absurd (not_without bytes (way_with_files files way) has.is_way (item_for placed) c shut without)
    with_one shut (inr more) = record {
      is_way = subst (IsWay c) (sym (way_with_files-push files placed way)) more.0;
      room = inr (omega (
        arith,
        more.1,
        way_end files way,
        capacity_stays files way,
        end_with-append way.end files (placed ∷ []),
      ));
      each = subst (All IsItem) (sym (map_push item_for files placed))
          (All-push (map item_for files) (item_for placed) has.each is);
      front = ap (λ (w : Way). take (w.end - 1) c) (way_with_files-push files placed way)
          ∙ front_with bytes (way_with_files files way) has.is_way (item_for placed) c shut
          ∙ ap (λ (l : List ℕ). l ++ gated_file placed) has.front
          ∙ append_assoc (take (way.end - 1) old) (flat_map gated_file files) (gated_file placed)
          ∙ ap (λ (l : List ℕ). take (way.end - 1) old ++ l) (sym (gated-push files placed));
    }

    either_one : HasEitherWay (way_with_files files way) (item_for placed) c
        → WithOrWithout (take ((way_with_files files way).end - 1) bytes) (item_bytes (item_for placed)) c
        → StandsWithEither (initial_shelf way old) files placed c
    either_one ways (inl shut) = inl (without_one shut)
    either_one ways (inr shut) = inr (with_one shut ways)

-- ---- what an append leaves, over a way that the shelf keeps

module _ {D : Type 0} (disk : DiskOf D)
    (leaves_contents : (d : D) → disk.tells d → disk.may_leave d (disk.contents d))
    (counts_now : (d : D) (t : ℕ) (c : List ℕ) → disk.tells d → t ≤ disk.moment d → disk.may_leave d c
    → disk.left_since d t c)
    (way : Way) (old : List ℕ) (files : List Placed) (placed : Placed) (is : IsItem (item_for placed))
    (shelf shelf' : Shelf) (d d' : D)
    (told : disk.tells d) (way_is : (kept_by shelf).way ≡ way_with_files files way)
    (has : StandsWith (initial_shelf way old) files (disk.contents d)) (only : NothingPending disk d) where
  keeps : KeepsWay (disk.contents d) shelf
  keeps = subst (IsWay (disk.contents d)) (sym way_is) has.is_way

  either_there : (c : List ℕ) → HasEitherWay (kept_by shelf).way (item_for placed) c
      → WithOrWithout (take (last_gate (kept_by shelf)) (disk.contents d)) (item_bytes (item_for placed)) c
      → StandsWithEither (initial_shelf way old) files placed c
  either_there c ways bytes =
      either_one way old files placed is (disk.contents d) has c
      (subst (λ (w : Way). HasEitherWay w (item_for placed) c) way_is ways)
      (subst (λ (w : Way). WithOrWithout (take (w.end - 1) (disk.contents d)) (item_bytes (item_for placed)) c) way_is
      bytes)

  module _ {A : Type 0} (result : Result A ShelfError)
      (adds : Adds disk (item_for placed) (shelf_on shelf d) (shelf_on shelf' d') result) where
    pub either_moments : EachImageSince disk d d' (StandsWithEither (initial_shelf way old) files placed)
    either_moments =
        let ways = adds.on_way.any_moment told keeps only in
        let bytes = adds.on_way.bytes_any_moment told keeps only in
        record {
          later = ways.later;
          each = λ c left. either_there c (ways.each c left) (bytes.each c left);
          before = λ t c le left.
              ⊎_elim (λ was. inl was)
              (λ now. ⊎_elim (λ was. inl was) (λ then. inr (either_there c now then)) (bytes.before t c le left))
              (ways.before t c le left);
          keeps = ways.keeps;
        }

    pub either_left : (c : List ℕ) → disk.may_leave d' c → StandsWithEither (initial_shelf way old) files placed c
    either_left c image =
        either_moments.each c (counts_now d' (disk.moment d) c (adds.calls.tell.told told) either_moments.later image)

    pub either_now : StandsWithEither (initial_shelf way old) files placed (disk.contents d')
    either_now = either_left (disk.contents d') (leaves_contents d' (adds.calls.tell.told told))

  -- the file was appended
  pub one_after : {A : Type 0} (answer : A) → Adds disk (item_for placed) (shelf_on shelf d) (shelf_on shelf' d')
      (Ok answer)
      → StandsWith (initial_shelf way old) (files ++ placed ∷ []) (disk.contents d')
  one_after answer adds = ⊎_elim not_there (λ has'. has') (either_now (Ok answer) adds)
    where
      grown : IsWay (disk.contents d') (way_with (head_of_item (item_for placed)) (way_with_files files way))
      grown = subst (λ (w : Way). IsWay (disk.contents d') (way_with (head_of_item (item_for placed)) w)) way_is
          (subst (λ (k : KeptShelf). IsWay (disk.contents d') k.way) adds.kept (adds.on_way.way told keeps))

      not_there : StandsWith (initial_shelf way old) files (disk.contents d')
          → StandsWith (initial_shelf way old) (files ++ placed ∷ []) (disk.contents d')
      not_there without =
          let same = (has_one_way (disk.contents d')).way (way_with_files files way)
          (way_with (head_of_item (item_for placed)) (way_with_files files way)) without.is_way grown in
          absurd (omega (arith, ap (λ (w : Way). w.end) same))
