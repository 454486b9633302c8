-- The files of an order take no more room than those of all downlinks.
use Rattle.std.proofs.Common.{◌≡◌, ◌⊎◌, inl, inr, ◌<◌, ◌≤◌, ◌+◌, ℕ, zero, suc, Option, Some, None}
use Rattle.std.proofs.Common.{List, [], ◌∷◌, ◌++◌, length, take, drop, All, get_or, refl, sym}
use Rattle.std.proofs.Common.{ap, ◌∙◌, subst, arith, append_assoc, length-append}
use Rattle.std.specs.Prelude.{slice_get}
use Rattle.std.specs.Option.{option_to_list}
use Rattle.std.proofs.lemmas.Bool.{cases_lt}
use Rattle.std.proofs.lemmas.List.{append-nil, take-append-drop, take_more}
use Rattle.std.proofs.lemmas.List.Elements.{All-head, All-tail}
use Rattle.std.proofs.lemmas.Option.{get_or_from_slice_get, slice_get_cases, slice_get_within}
use Rattle.lr_bits.specs.declared.placed.Placed.{Placed}
use Rattle.lr_shelf_format.specs.Items.{extent_of, head_of_item}
use Rattle.lr_shelf_format.specs.Way.{Way, way_with}
use Rattle.lr_shelf.specs.Append.{item_for}
use Rattle.lr_downlinks.specs.Merge.{merge, merge_after, times_in_order}
use Rattle.lr_downlinks.specs.Room.{AllFit, FullWhereAllDoNotFit, NextDoesNotFit, files_of_all}
use Rattle.lr_shelf.specs.Prefixes.{way_with_files}
use Rattle.lr_shelf.proofs.Prefixes.{end_more}
use Rattle.lr_downlinks.proofs.Merging.{times-later, times-same, times-stays}

-- the bytes of a file's item, with its gate
abbrev bytes_for : Placed → ℕ
bytes_for placed = 1 + extent_of (head_of_item (item_for placed))

abbrev bytes_for_all : List Placed → ℕ
bytes_for_all [] = 0
bytes_for_all (placed ∷ files) = bytes_for placed + bytes_for_all files

bytes-append : (xs ys : List Placed) → bytes_for_all (xs ++ ys) ≡ bytes_for_all xs + bytes_for_all ys
bytes-append [] ys = omega arith
bytes-append (x ∷ xs) ys = omega (arith, bytes-append xs ys)

-- one file more of a list
one_more : (xs : List Placed) (k : ℕ) (placed : Placed) → slice_get xs k ≡ Some placed
    → bytes_for_all (take (k + 1) xs) ≡ bytes_for_all (take k xs) + bytes_for placed
one_more xs k placed is =
    let more : take (k + 1) xs ≡ take k xs ++ placed ∷ [] =
    take_more xs k placed (slice_get_within xs k placed is)
    ∙ ap (λ (p : Placed). take k xs ++ p ∷ []) (get_or_from_slice_get xs k placed placed is) in
    omega (arith, ap (λ (l : List Placed). bytes_for_all l) more, bytes-append (take k xs) (placed ∷ []))

front_room : (xs : List Placed) (k m : ℕ) → k ≤ m → bytes_for_all (take k xs) ≤ bytes_for_all (take m xs)
front_room xs zero m below = omega arith
front_room [] (suc k) m below = omega arith
front_room (x ∷ xs) (suc k) zero below = absurd (omega (arith, below))
front_room (x ∷ xs) (suc k) (suc m) below = omega (arith, front_room xs k m (omega (arith, below)))

whole_room : (xs : List Placed) (k : ℕ) → bytes_for_all (take k xs) ≤ bytes_for_all xs
whole_room xs k =
    omega (
      arith,
      ap (λ (l : List Placed). bytes_for_all l) (take-append-drop k xs),
      bytes-append (take k xs) (drop k xs),
    )

module _ (files : ℕ → List Placed) where
  -- of the first downlinks, as many files of each as an order counts
  abbrev taken : List ℕ → ℕ → ℕ
  taken order zero = 0
  taken order (suc n) = taken order n + bytes_for_all (take (times_in_order n order) (files n))

  taken_few : (order : List ℕ) (n : ℕ) → taken order n ≤ bytes_for_all (files_of_all files n)
  taken_few order zero = omega arith
  taken_few order (suc n) =
      omega (
        arith,
        taken_few order n,
        whole_room (files n) (times_in_order n order),
        bytes-append (files_of_all files n) (files n),
      )

  -- those of a downlink are among those of all
  of_downlink : (d n : ℕ) → d < n → length (files d) ≤ length (files_of_all files n)
  of_downlink d zero below = absurd (omega (arith, below))
  of_downlink d (suc n) below = by_place (λ less. of_downlink d n less) (cases_lt d n) where
    by_place : (d < n → length (files d) ≤ length (files_of_all files n)) → (d < n) ⊎ (n ≤ d)
        → length (files d) ≤ length (files_of_all files (suc n))
    by_place earlier (inl less) =
        omega (arith, earlier less, length-append (files_of_all files n) (files n))
    by_place earlier (inr last) =
        let same : d ≡ n = omega (arith, below, last) in
        subst (λ (m : ℕ). length (files m) ≤ length (files_of_all files (suc n))) (sym same)
        (omega (arith, length-append (files_of_all files n) (files n)))

  taken_later : (order more : List ℕ) (n : ℕ) → taken order n ≤ taken (order ++ more) n
  taken_later order more zero = omega arith
  taken_later order more (suc n) =
      omega (
        arith,
        taken_later order more n,
        front_room (files n) (times_in_order n order) (times_in_order n (order ++ more)) (times-later n order more),
      )

  -- a later downlink's file changes nothing
  taken_stays : (order : List ℕ) (d n : ℕ) → n ≤ d → taken (order ++ d ∷ []) n ≡ taken order n
  taken_stays order d zero below = refl
  taken_stays order d (suc n) below =
      let other : times_in_order n (order ++ d ∷ []) ≡ times_in_order n order =
      times-stays n d order (λ e. omega (arith, below, e)) in
      omega (
        arith,
        taken_stays order d n (omega (arith, below)),
        ap (λ (k : ℕ). bytes_for_all (take k (files n))) other,
      )

  -- the next file of a downlink
  taken_more : (order : List ℕ) (d n : ℕ) (placed : Placed) → d < n
      → slice_get (files d) (times_in_order d order) ≡ Some placed
      → taken (order ++ d ∷ []) n ≡ taken order n + bytes_for placed
  taken_more order d zero placed below is = absurd (omega (arith, below))
  taken_more order d (suc n) placed below is =
      by_place (λ less. taken_more order d n placed less is) (cases_lt d n)
    where
      here : taken (order ++ d ∷ []) (suc d) ≡ taken order (suc d) + bytes_for placed
      here =
          omega (
            arith,
            taken_stays order d d (omega arith),
            ap (λ (k : ℕ). bytes_for_all (take k (files d))) (times-same d order),
            one_more (files d) (times_in_order d order) placed is,
          )

      by_place : (d < n → taken (order ++ d ∷ []) n ≡ taken order n + bytes_for placed) → (d < n) ⊎ (n ≤ d)
          → taken (order ++ d ∷ []) (suc n) ≡ taken order (suc n) + bytes_for placed
      by_place earlier (inl less) =
          let other : times_in_order n (order ++ d ∷ []) ≡ times_in_order n order =
          times-stays n d order (λ e. omega (arith, less, e)) in
          omega (arith, earlier less, ap (λ (k : ℕ). bytes_for_all (take k (files n))) other)
      by_place earlier (inr last) =
          let same : d ≡ n = omega (arith, below, last) in
          subst (λ (m : ℕ). taken (order ++ d ∷ []) (suc m) ≡ taken order (suc m) + bytes_for placed) same here

  one_step : (count d : ℕ) (before : List ℕ) → d < count
      → bytes_for_all (option_to_list (slice_get (files d) (times_in_order d before))) + taken before count
      ≤ taken (before ++ d ∷ []) count
  one_step count d before known = by_file (slice_get_cases (files d) (times_in_order d before)).1 where
    by_file : ((x : Placed) × (times_in_order d before < length (files d))
        × (slice_get (files d) (times_in_order d before) ≡ Some x)
        × (get_or (files d) (times_in_order d before) x ≡ x))
        ⊎ ((length (files d) ≤ times_in_order d before) × (slice_get (files d) (times_in_order d before) ≡ None))
        → bytes_for_all (option_to_list (slice_get (files d) (times_in_order d before))) + taken before count
        ≤ taken (before ++ d ∷ []) count
    by_file (inl found) =
        omega (
          arith,
          ap (λ (o : Option Placed). bytes_for_all (option_to_list o)) found.2,
          taken_more before d count found.0 known found.2,
        )
    by_file (inr none) =
        omega (
          arith,
          ap (λ (o : Option Placed). bytes_for_all (option_to_list o)) none.1,
          taken_later before (d ∷ []) count,
        )

  merge_room : (count : ℕ) (before order : List ℕ) → All (λ d. d < count) order
      → bytes_for_all (merge_after files before order) + taken before count ≤ taken (before ++ order) count
  merge_room count before [] known = omega (arith, ap (λ (l : List ℕ). taken l count) (append-nil before))
  merge_room count before (d ∷ order) known =
      omega (
        arith,
        merge_room count (before ++ d ∷ []) order (All-tail (λ d. d < count) d order known),
        bytes-append (option_to_list (slice_get (files d) (times_in_order d before)))
            (merge_after files (before ++ d ∷ []) order),
        ap (λ (l : List ℕ). taken l count) (append_assoc before (d ∷ []) order),
        one_step count d before (All-head (λ d. d < count) d order known),
      )

end_after : (files : List Placed) (way : Way) → (way_with_files files way).end ≡ way.end + bytes_for_all files
end_after [] way = omega arith
end_after (placed ∷ files) way = omega (arith, end_after files (way_with (head_of_item (item_for placed)) way))

-- one that doesn't fit is one of all, and all together end after it
all_do_not_fit : (count : ℕ) (files : ℕ → List Placed) (order : List ℕ) (way : Way) (placed : Placed)
    → All (λ d. d < count) order → NextDoesNotFit count files order way placed → AllFit count files way → ⊥
unfolding merge
all_do_not_fit count files order way placed known full (inl none) =
    omega (
      arith,
      ap (λ (l : List Placed). length l) none,
      of_downlink files full.downlink count full.least.next.known,
      slice_get_within (files full.downlink) (times_in_order full.downlink order) placed full.least.next.next,
    )
all_do_not_fit count files order way placed known full (inr fits) =
    omega (
      arith,
      full.over,
      fits,
      end_after (files_of_all files count) way,
      end_more (merge_after files [] order) placed way,
      end_after (merge_after files [] order) way,
      merge_room files count [] order known,
      taken_more files order full.downlink count placed full.least.next.known full.least.next.next,
      taken_few files (order ++ full.downlink ∷ []) count,
    )

pub full_where_all_do_not_fit : FullWhereAllDoNotFit
full_where_all_do_not_fit count files order way placed is full =
    all_do_not_fit count files order way placed is.known full
