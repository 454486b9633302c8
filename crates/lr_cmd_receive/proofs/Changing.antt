-- What changes on the disk while files are shelved.
use Rattle.std.proofs.Common.{◌≡◌, ◌⊎◌, ◌-◌, inl, inr, ℕ, List, [], ◌++◌, refl, sym, ap, ◌∙◌, subst, arith}
use Rattle.std.proofs.Common.{append_assoc, append-nil, ⊎_elim, ◌≤◌, min, length, take, drop, length-take, length-drop}
use Rattle.std.proofs.lemmas.List.{drop_all, take-take}
use Rattle.lr_bits.specs.declared.placed.Placed.{Placed}
use Rattle.lr_disk.specs.declared.disk.Disk.{Ghosts as DiskOf}
use Rattle.lr_disk.specs.Disk.{Cut, LeavesOnly}
use Rattle.lr_disk.specs.Pending.{EachImageSince}
use Rattle.lr_disk.proofs.Moments.{joined, weaker}
use Rattle.lr_shelf_format.specs.Way.{Way, way_of}
use Rattle.lr_shelf.specs.Adding.{StaysOutside}
use Rattle.lr_shelf.specs.Prefixes.{HasRoom, end_with}
use Rattle.lr_shelf.proofs.Prefixes.{end_with-append}
use Rattle.lr_shelf.proofs.Staying.{outside_on, outside_same}
use Rattle.lr_cmd_receive.specs.Onto.{ChangesFor, ChangesImagesFor}
use Rattle.lr_cmd_receive.proofs.Growing.{room_after}

-- nothing was written
pub no_change : (way : Way) (files : List Placed) (old new : List ℕ) → new ≡ old → ChangesFor way files old new
no_change way files old new same = record {
  first = [];
  rest = files;
  split = refl;
  room = inl refl;
  outside = outside_same (way.end - 1) (end_with way.end []) old new same;
}

-- all of these files may have been
pub change_for : (way : Way) (files : List Placed) (old new : List ℕ) → HasRoom way files
    → StaysOutside (way.end - 1) (end_with way.end files) old new → ChangesFor way files old new
change_for way files old new room outside =
    record { first = files; rest = []; split = sym (append-nil files); room = room; outside = outside }

-- after files that were shelved
module _ (way way' : Way) (xs : List Placed) (old mid new : List ℕ) (ends : way'.end ≡ end_with way.end xs)
    (first : StaysOutside (way.end - 1) (end_with way.end xs) old mid) where
  pub stays_after : (ys : List Placed) → StaysOutside (way'.end - 1) (end_with way'.end ys) mid new
      → StaysOutside (way.end - 1) (end_with way.end (xs ++ ys)) old new
  stays_after ys second =
      let there : end_with way'.end ys ≡ end_with way.end (xs ++ ys) =
      ap (λ (n : ℕ). end_with n ys) ends ∙ sym (end_with-append way.end xs ys) in
      outside_on (way.end - 1) (way'.end - 1) (end_with way.end xs) (end_with way.end (xs ++ ys)) old mid new
      (omega (arith, ends)) (omega (arith, end_with-append way.end xs ys)) first
      (subst (λ (n : ℕ). StaysOutside (way'.end - 1) n mid new) there second)

  pub change_after : (ys : List Placed) → way'.capacity ≡ way.capacity → HasRoom way xs → ChangesFor way' ys mid new
      → ChangesFor way (xs ++ ys) old new
  change_after ys same room changes = record {
    first = xs ++ changes.first;
    rest = changes.rest;
    split = ap (λ (l : List Placed). xs ++ l) changes.split ∙ sym (append_assoc xs changes.first changes.rest);
    room = room_after way way' xs changes.first ends same room changes.room;
    outside = stays_after changes.first changes.outside;
  }

-- among more files
pub change_among : (way : Way) (files more : List Placed) (old new : List ℕ) → ChangesFor way files old new
    → ChangesFor way (files ++ more) old new
change_among way files more old new changes = record {
  first = changes.first;
  rest = changes.rest ++ more;
  split = ap (λ (l : List Placed). l ++ more) changes.split ∙ append_assoc changes.first changes.rest more;
  room = changes.room;
  outside = changes.outside;
}

-- what stands on an empty shelf, cut after its header and gate
pub change_cut : (capacity : ℕ) (files : List Placed) (old mid c : List ℕ) → length old ≤ 20
    → ChangesFor (way_of capacity []) files old mid → Cut 20 mid c → ChangesFor (way_of capacity []) files old c
change_cut capacity files old mid c small changes cut =
    let e = end_with 20 changes.first in
    let k = min 19 (length old) in
    let none : drop e old ≡ [] = drop_all e old (omega (arith, small)) in
    let short : length mid ≤ e =
    omega (arith, length-drop e mid, ap (λ (l : List ℕ). length l) (changes.outside.after ∙ none)) in
    let size : length c ≡ min cut.kept (length mid) =
    ap (λ (l : List ℕ). length l) cut.front ∙ length-take cut.kept mid in
    record {
      first = changes.first;
      rest = changes.rest;
      split = changes.split;
      room = changes.room;
      outside = record {
        before = ap (take k) cut.front ∙ take-take k cut.kept mid (omega (arith, cut.enough)) ∙ changes.outside.before;
        after = drop_all e c (omega (arith, size, short)) ∙ sym none;
      };
    }

-- ---- at each moment

-- both are so of each image
pub both_of : {D : Type 0} (moment : D → ℕ) (left_since : D → ℕ → List ℕ → Type 0) (old new : D)
    (P Q : List ℕ → Type 0) → LeavesOnly moment left_since old new P → LeavesOnly moment left_since old new Q
    → LeavesOnly moment left_since old new (λ c. P c × Q c)
both_of moment left_since old new P Q first second = record {
  later = first.later;
  each = λ c left. (first.each c left, second.each c left);
  before = λ t c le left.
      ⊎_elim (λ was. inl was)
      (λ p. ⊎_elim (λ was. inl was) (λ q. inr (p, q)) (second.before t c le left))
      (first.before t c le left);
  keeps = first.keeps;
}

module _ {D : Type 0} (disk : DiskOf D) where
  -- more files that aren't there yet
  pub images_among : (way : Way) (files more : List Placed) (d d' : D)
      → (d' ≡ d) ⊎ ChangesImagesFor disk way files d d' → (d' ≡ d) ⊎ ChangesImagesFor disk way (files ++ more) d d'
  images_among way files more d d' (inl same) = inl same
  images_among way files more d d' (inr run) =
      inr (weaker disk.moment disk.left_since d d' _ _
      (λ c changes. change_among way files more (disk.contents d) c changes) run)

  -- one run after another
  module _ (way way' : Way) (xs ys : List Placed) (d mid d' : D) (ends : way'.end ≡ end_with way.end xs)
      (same : way'.capacity ≡ way.capacity) (room : HasRoom way xs)
      (first : StaysOutside (way.end - 1) (end_with way.end xs) (disk.contents d) (disk.contents mid)) where
    further : ChangesImagesFor disk way' ys mid d'
        → EachImageSince disk mid d' (ChangesFor way (xs ++ ys) (disk.contents d))
    further run =
        weaker disk.moment disk.left_since mid d' _ _
        (λ c changes.
        change_after way way' xs (disk.contents d) (disk.contents mid) c ends first ys same room changes) run

    pub images_after : (mid ≡ d) ⊎ ChangesImagesFor disk way xs d mid
        → (d' ≡ mid) ⊎ ChangesImagesFor disk way' ys mid d'
        → (d' ≡ d) ⊎ ChangesImagesFor disk way (xs ++ ys) d d'
    images_after (inl still) (inl stays) = inl (stays ∙ still)
    images_after (inl still) (inr run) =
        inr (subst (λ (x : D). EachImageSince disk x d' (ChangesFor way (xs ++ ys) (disk.contents d))) still
        (further run))
    images_after (inr run) (inl stays) =
        subst (λ (x : D). (x ≡ d) ⊎ ChangesImagesFor disk way (xs ++ ys) d x) (sym stays)
        (images_among way xs ys d mid (inr run))
    images_after (inr run) (inr next) =
        inr (joined disk.moment disk.left_since d mid d' _
        (weaker disk.moment disk.left_since d mid _ _
        (λ c changes. change_among way xs ys (disk.contents d) c changes) run) (further next))
