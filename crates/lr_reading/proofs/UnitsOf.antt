-- The units that were read one after another are the units of the bytes.
use Rattle.std.proofs.Common.{◌≡◌, ℕ, ◌+◌, ◌*◌, ◌/◌, ◌<◌, List, [], ◌∷◌, ◌++◌, length, take, drop}
use Rattle.std.proofs.Common.{map, ap, ◌∙◌, sym, refl, subst, arith, append_assoc, length-append}
use Rattle.std.specs.Prelude.{All}
use Rattle.std.specs.List.{concat, range_with_len, enumerate_from}
use Rattle.std.proofs.Math.Seq.{drop-append_seam, take-append_seam}
use Rattle.std.proofs.Math.Nat.{mul-add-div, div-eq_of_lt}
use Rattle.std.proofs.lemmas.List.Elements.{All-head, All-tail}
use Rattle.lr_reading.specs.Reading.{unit_of, units_of}

-- each with its place, and one more
pub enumerate_from-push : {X : Type 0} (n : ℕ) (xs : List X) (x : X) → enumerate_from n (xs ++ x ∷ [])
    ≡ enumerate_from n xs ++ (n + length xs, x) ∷ []
enumerate_from-push {X} n [] x = ap (λ (k : ℕ). (k, x) ∷ []) (omega arith)
enumerate_from-push {X} n (y ∷ ys) x =
    ap (λ l. (n, y) ∷ l) (enumerate_from-push (n + 1) ys x
    ∙ ap (λ (k : ℕ). enumerate_from (n + 1) ys ++ (k, x) ∷ []) (omega arith))

module _ (n : ℕ) where
  pub length-concat : (units : List (List ℕ)) → All (λ unit. length unit ≡ n) units
      → length (concat units) ≡ n * length units
  length-concat [] whole = omega arith
  length-concat (unit ∷ units) whole =
      omega (
        arith,
        length-append unit (concat units),
        All-head (λ (u : List ℕ). length u ≡ n) unit units whole,
        length-concat units (All-tail (λ (u : List ℕ). length u ≡ n) unit units whole),
      )

  -- the unit at a place, after as many bytes as the units before it have
  unit_at : (before unit rest : List ℕ) (place : ℕ) → length before ≡ n * place → length unit ≡ n
      → unit_of n (before ++ (unit ++ rest)) place ≡ unit
  unit_at before unit rest place long is =
      let behind : drop (n * place) (before ++ (unit ++ rest)) ≡ unit ++ rest =
      subst (λ k. drop k (before ++ (unit ++ rest)) ≡ unit ++ rest) long (drop-append_seam before (unit ++ rest)) in
      ap (take n) behind ∙ subst (λ k. take k (unit ++ rest) ≡ unit) is (take-append_seam unit rest)

  units_behind : (before : List ℕ) (place : ℕ) (units : List (List ℕ)) (rest : List ℕ)
      → length before ≡ n * place → All (λ unit. length unit ≡ n) units
      → map (unit_of n (before ++ (concat units ++ rest))) (range_with_len place (length units)) ≡ units
  units_behind before place [] rest long whole = refl
  units_behind before place (unit ∷ units) rest long whole =
      let here : unit_of n (before ++ ((unit ++ concat units) ++ rest)) place ≡ unit =
      ap (λ l. unit_of n (before ++ l) place) (append_assoc unit (concat units) rest)
      ∙ unit_at before unit (concat units ++ rest) place long
      (All-head (λ (u : List ℕ). length u ≡ n) unit units whole) in
      let longer : length (before ++ unit) ≡ n * (place + 1) =
      omega (arith, length-append before unit, long, All-head (λ (u : List ℕ). length u ≡ n) unit units whole) in
      let same : (before ++ unit) ++ (concat units ++ rest) ≡ before ++ ((unit ++ concat units) ++ rest) =
      append_assoc before unit (concat units ++ rest)
      ∙ ap (λ l. before ++ l) (sym (append_assoc unit (concat units) rest)) in
      let others : map (unit_of n (before ++ ((unit ++ concat units) ++ rest)))
      (range_with_len (place + 1) (length units)) ≡ units =
      subst (λ l. map (unit_of n l) (range_with_len (place + 1) (length units)) ≡ units) same
      (units_behind (before ++ unit) (place + 1) units rest longer
      (All-tail (λ (u : List ℕ). length u ≡ n) unit units whole)) in
      ap (λ u. u ∷ map (unit_of n (before ++ ((unit ++ concat units) ++ rest)))
      (range_with_len (place + 1) (length units))) here ∙ ap (λ l. unit ∷ l) others

  module _ (positive : 0 < n) (units : List (List ℕ)) (held : List ℕ)
      (whole : All (λ unit. length unit ≡ n) units) (short : length held < n) where
    pub long : length (concat units ++ held) ≡ n * length units + length held
    long = length-append (concat units) held ∙ ap (λ k. k + length held) (length-concat units whole)

    pub count_is : length (concat units ++ held) / n ≡ length units
    count_is = ap (λ k. k / n) long ∙ mul-add-div positive (length units) (length held)
        ∙ ap (λ k. length units + k) (div-eq_of_lt short) ∙ omega arith

    pub units_are : units_of n (concat units ++ held) ≡ units
    unfolding units_of
    units_are = ap (λ k. map (unit_of n (concat units ++ held)) (range_with_len 0 k)) count_is
        ∙ units_behind [] 0 units held (omega arith) whole
