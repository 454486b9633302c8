-- A shelf on which nothing stands is taken away.
use Rattle.std.proofs.Common.{◌≡◌, ◌≢◌, ◌⊎◌, inl, inr, ℕ, ◌+◌, ◌-◌, ◌<◌, ◌≤◌, min, List, [], ◌∷◌}
use Rattle.std.proofs.Common.{◌++◌, length, slice_index, map, take, refl, sym, ◌∙◌, ap, subst}
use Rattle.std.proofs.Common.{arith, append_assoc, length-append, length-take}
use Rattle.std.proofs.lemmas.Bool.{cases_lt}
use Rattle.std.proofs.Math.Seq.{take-append-add}
use Rattle.lr_disk.specs.declared.disk.Disk.{Ghosts as DiskOf}
use Rattle.lr_disk.specs.Disk.{Cut}
use Rattle.lr_disk.specs.Reads.{IsUnwritten}
use Rattle.lr_disk.specs.Pending.{EachImageSince, NothingPending}
use Rattle.lr_disk.proofs.Moments.{Cut-refl, joined, weaker}
use Rattle.lr_shelf_format.specs.Gates.{front}
use Rattle.lr_shelf_format.specs.Header.{header_bytes}
use Rattle.lr_shelf_format.specs.Items.{Item, item_bytes}
use Rattle.lr_shelf_format.specs.ShelfBytes.{StandsForShelf}
use Rattle.lr_shelf_format.specs.Walk.{IsOpen}
use Rattle.lr_shelf_format.proofs.ReadingLemmas.{is_one_walk, length-front}
use Rattle.lr_shelf.specs.Init.{IsBlank}
use Rattle.lr_shelf.specs.Shelf.{IsDurable}
use Rattle.lr_cmd_receive.specs.Filling.{IsWithdrawn, LeavesBlankOrItems}
use Rattle.lr_cmd_receive.specs.Trial.{trial_capacity, IsBare}

-- ---- the first gate

pub has_gate : (bytes : List ℕ) (capacity : ℕ) (items : List Item) → StandsForShelf bytes capacity items
    → 19 < length bytes
has_gate bytes capacity items stands = omega (arith, (is_one_walk bytes capacity items stands).inside)

-- it is open exactly where an item stands
first_gate : (bytes : List ℕ) (capacity : ℕ) (items : List Item) → StandsForShelf bytes capacity items
    → ((items ≡ []) × (IsOpen bytes 19 → ⊥)) ⊎ ((items ≢ []) × IsOpen bytes 19)
first_gate bytes capacity [] stands =
    let walk = is_one_walk bytes capacity [] stands in
    inl (refl, subst (λ n. slice_index bytes n ≢ 1) (sym walk.path) walk.closed)
first_gate bytes capacity (item ∷ items) stands =
    let walk = is_one_walk bytes capacity (item ∷ items) stands in inr (λ none. cc (none), walk.path.1.is_open)

-- ---- what a cut of an empty shelf may leave

module _ (capacity : ℕ) (old c : List ℕ) (stands : StandsForShelf old capacity []) (cut : Cut 0 old c) where
  short : cut.kept < 20 → IsBlank capacity c
  short less =
      let size : length c ≡ min cut.kept (length old) = ap length cut.front ∙ length-take cut.kept old in
      record {
        few = omega (arith, size, less);
        reading =
            inl (λ capacity' has. omega (arith, has.whole, size, less));
      }

  long : 20 ≤ cut.kept → StandsForShelf c capacity []
  long enough =
      let before = front (header_bytes stands.version capacity) (map item_bytes []) in
      let gate = stands.shut.gate in
      let rest = stands.shut.rest in
      let more = cut.kept - 20 in
      let first = before ++ gate ∷ [] in
      let size : length first ≡ 20 =
      omega (arith, length-append before (gate ∷ []), length-front stands.version capacity []) in
      let whole : old ≡ first ++ rest = stands.shut.split ∙ sym (append_assoc before (gate ∷ []) rest) in
      let count : cut.kept ≡ length first + more = omega (arith, size, enough) in
      let left : c ≡ first ++ take more rest =
      cut.front ∙ ap (take cut.kept) whole ∙ ap (λ n. take n (first ++ rest)) count
      ∙ take-append-add first rest more in
      record {
        version = stands.version;
        known = stands.known;
        each = stands.each;
        proper = stands.proper;
        allowed = stands.allowed;
        fits = stands.fits;
        shut = record {
          gate = gate;
          rest = take more rest;
          split = left ∙ append_assoc before (gate ∷ []) (take more rest);
          closed = stands.shut.closed;
        };
      }

  cut_empty : IsBlank capacity c ⊎ (StandsForShelf c capacity [] × Cut 20 old c)
  cut_empty = elim (cases_lt cut.kept 20) [
    | inl less ↦ inl (short less)
    | inr enough ↦ inr (long enough, record { kept = cut.kept; enough = enough; front = cut.front })
  ]

-- ---- the whole

module _ {D : Type 0} (disk : DiskOf D) (items : List Item) (d mid : D)
    (durable : IsDurable disk trial_capacity items d) (unwritten : IsUnwritten disk d mid) where
  still : IsDurable disk trial_capacity items mid
  still = record {
    stands = subst (λ (l : List ℕ). StandsForShelf l trial_capacity items) (sym unwritten.contents) durable.stands;
    durable = λ c image. durable.durable c (unwritten.images c image) ∙ sym unwritten.contents;
  }

  -- the gate was read
  pub read_moments : LeavesBlankOrItems disk items d mid
  read_moments =
      weaker disk.moment disk.left_since d mid (disk.may_leave d) _
      (λ c image.
      let same : c ≡ disk.contents d = durable.durable c image in
      inr (
        subst (λ (l : List ℕ). StandsForShelf l trial_capacity items) (sym same) durable.stands,
        subst (Cut 20 (disk.contents d)) (sym same) (Cut-refl 20 (disk.contents d)),
      )) unwritten.any_moment

  gate : ((items ≡ []) × (IsOpen (disk.contents d) 19 → ⊥)) ⊎ ((items ≢ []) × IsOpen (disk.contents d) 19)
  gate = first_gate (disk.contents d) trial_capacity items durable.stands

  -- it is open
  pub stays : IsOpen (disk.contents d) 19 → IsWithdrawn disk items mid
  stays is_open =
      inr (elim gate [ inl none ↦ absurd (none.1 is_open) | inr some ↦ some.0 ], still)

  -- it is closed
  module _ (closed : IsOpen (disk.contents d) 19 → ⊥) where
    no_items : items ≡ []
    no_items = elim gate [ inl none ↦ none.0 | inr some ↦ absurd (closed some.1) ]

    pub gone : (d' : D) → IsBare disk d' → IsWithdrawn disk items d'
    gone d' bare = inl (no_items, bare)

    cut_items : (c : List ℕ) → Cut 0 (disk.contents mid) c
        → IsBlank trial_capacity c ⊎ (StandsForShelf c trial_capacity items × Cut 20 (disk.contents d) c)
    cut_items c cut =
        subst (λ (l : List Item). IsBlank trial_capacity c
        ⊎ (StandsForShelf c trial_capacity l × Cut 20 (disk.contents d) c)) (sym no_items)
        (cut_empty trial_capacity (disk.contents d) c
        (subst (λ (l : List Item). StandsForShelf (disk.contents d) trial_capacity l) no_items durable.stands)
        (subst (λ (l : List ℕ). Cut 0 l c) unwritten.contents cut))

    pub cleared_moments : (d' : D)
        → (NothingPending disk mid
        → EachImageSince disk mid d' (Cut 0 (disk.contents mid)))
        → LeavesBlankOrItems disk items d d'
    cleared_moments d' clears =
        joined disk.moment disk.left_since d mid d' _ read_moments
        (weaker disk.moment disk.left_since mid d' _ _ cut_items (clears still.durable))
