-- Lists in general: what holds of each element, filters, and ranges that grow at their end.
use Rattle.std.proofs.Common.{◌≡◌, ℕ, zero, suc, ◌+◌, ◌<◌, ◌≤◌, Bool, true, false, cond, ◌&&◌, List, [], ◌∷◌, ◌++◌, map}
use Rattle.std.proofs.Common.{length, filter, flat_map, refl, sym, ap, ap₂, ◌∙◌, arith, append-nil}
use Rattle.std.proofs.Common.{true≢false, take, length-take}
use Rattle.std.proofs.lemmas.List.{map-id, take-append-le}
use Rattle.std.proofs.lemmas.List.FromFn.{map-range_with_len_more}
use Rattle.std.specs.List.{AllByRecursion as Each, list_all, range_with_len, enumerate_from}

module _ {X : Type 0} where
  pub Each-append : (P : X → Type 0) (xs ys : List X) → Each P xs → Each P ys → Each P (xs ++ ys)
  Each-append P [] ys _ k = k
  Each-append P (x ∷ xs) ys h k = (h.0, Each-append P xs ys h.1 k)

  pub Each_left : (P : X → Type 0) (xs ys : List X) → Each P (xs ++ ys) → Each P xs
  Each_left P [] ys _ = tt
  Each_left P (x ∷ xs) ys h = (h.0, Each_left P xs ys h.1)

  pub Each_right : (P : X → Type 0) (xs ys : List X) → Each P (xs ++ ys) → Each P ys
  Each_right P [] ys h = h
  Each_right P (x ∷ xs) ys h = Each_right P xs ys h.1

  pub Each_weaker : (P Q : X → Type 0) → ((x : X) → P x → Q x) → (xs : List X) → Each P xs → Each Q xs
  Each_weaker P Q f [] _ = tt
  Each_weaker P Q f (x ∷ xs) h = (f x h.0, Each_weaker P Q f xs h.1)

  pub Each_any : (P : X → Type 0) → ((x : X) → P x) → (xs : List X) → Each P xs
  Each_any P f [] = tt
  Each_any P f (x ∷ xs) = (f x, Each_any P f xs)

  pub Each-filter : (P : X → Type 0) (p : X → Bool) (xs : List X) → Each P xs → Each P (filter p xs)
  Each-filter P p [] _ = tt
  Each-filter P p (x ∷ xs) h =
      elim (p x) as (λ b. Each P (cond b (x ∷ filter p xs) (filter p xs))) [
        | true ↦
            (h.0, Each-filter P p xs h.1)
        | false ↦ Each-filter P p xs h.1
      ]

  pub filter_same : (p q : X → Bool) (xs : List X) → Each (λ x. p x ≡ q x) xs → filter p xs ≡ filter q xs
  filter_same p q [] _ = refl
  filter_same p q (x ∷ xs) h = rw (h.0, filter_same p q xs h.1) refl

  pub filter_none : (p : X → Bool) (xs : List X) → Each (λ x. p x ≡ false) xs → filter p xs ≡ []
  filter_none p [] _ = refl
  filter_none p (x ∷ xs) h = rw (h.0, filter_none p xs h.1) refl

  pub list_all_same : (p q : X → Bool) (xs : List X) → Each (λ x. p x ≡ q x) xs → list_all p xs ≡ list_all q xs
  list_all_same p q [] _ = refl
  list_all_same p q (x ∷ xs) h = rw (h.0, list_all_same p q xs h.1) refl

  pub list_all_from_each : (p : X → Bool) (xs : List X) → Each (λ x. p x ≡ true) xs → list_all p xs ≡ true
  list_all_from_each p [] _ = refl
  list_all_from_each p (x ∷ xs) h = rw (h.0, list_all_from_each p xs h.1) refl

  pub each_from_list_all : (p : X → Bool) (xs : List X) → list_all p xs ≡ true → Each (λ x. p x ≡ true) xs
  each_from_list_all p [] _ = tt
  each_from_list_all p (x ∷ xs) h =
      let step : (b : Bool) → p x ≡ b → (b && list_all p xs) ≡ true → Each (λ x. p x ≡ true) (x ∷ xs) =
      λ b. elim b as (λ b. p x ≡ b → (b && list_all p xs) ≡ true →
      Each (λ x. p x ≡ true) (x ∷ xs)) [
        | true ↦ λ e k. (e, each_from_list_all p xs k)
        | false ↦ λ e k.
            absurd (true≢false (sym k))
      ] in
      step (p x) refl h

module _ {X Y : Type 0} where
  -- two filters that agree, and what is made of the elements that pass
  pub map_filter_same : (f g : X → Y) (p q : X → Bool) (xs : List X) →
      Each (λ x. (p x ≡ q x) × (q x ≡ true → f x ≡ g x)) xs → map f (filter p xs) ≡ map g (filter q xs)
  map_filter_same f g p q [] _ = refl
  map_filter_same f g p q (x ∷ xs) h =
      let step : (b : Bool) → q x ≡ b → map f (cond b (x ∷ filter p xs) (filter p xs)) ≡
      map g (cond b (x ∷ filter q xs) (filter q xs)) =
      λ b. elim b as (λ b. q x ≡ b → map f (cond b (x ∷ filter p xs) (filter p xs)) ≡
      map g (cond b (x ∷ filter q xs) (filter q xs))) [
        | true ↦ λ e. ap₂ (λ y ys. y ∷ ys) (h.0.1 e) (map_filter_same f g p q xs h.1)
        | false ↦ λ e.
            map_filter_same f g p q xs h.1
      ] in
      rw h.0.0 (step (q x) refl)

  pub flat_map_same : (f g : X → List Y) (xs : List X) → Each (λ x. f x ≡ g x) xs → flat_map f xs ≡ flat_map g xs
  flat_map_same f g [] _ = refl
  flat_map_same f g (x ∷ xs) h = rw (h.0, flat_map_same f g xs h.1) refl

  pub flat_map_none : (f : X → List Y) (xs : List X) → Each (λ x. f x ≡ []) xs → flat_map f xs ≡ []
  flat_map_none f [] _ = refl
  flat_map_none f (x ∷ xs) h = rw (h.0, flat_map_none f xs h.1) refl

  pub Each-map : (P : Y → Type 0) (f : X → Y) (xs : List X) → Each (λ x. P (f x)) xs → Each P (map f xs)
  Each-map P f [] _ = tt
  Each-map P f (x ∷ xs) h = (h.0, Each-map P f xs h.1)

  pub Each-flat_map : (P : Y → Type 0) (f : X → List Y) (xs : List X) → Each (λ x. Each P (f x)) xs →
      Each P (flat_map f xs)
  Each-flat_map P f [] _ = tt
  Each-flat_map P f (x ∷ xs) h = Each-append P (f x) (flat_map f xs) h.0 (Each-flat_map P f xs h.1)

  pub filter-map : (p : Y → Bool) (f : X → Y) (xs : List X) → filter p (map f xs) ≡ map f (filter (λ x. p (f x)) xs)
  filter-map p f [] = refl
  filter-map p f (x ∷ xs) =
      rw (filter-map p f xs) (elim (p (f x)) as (λ b. cond b (f x ∷ map f (filter (λ x. p (f x)) xs))
      (map f (filter (λ x. p (f x)) xs)) ≡ map f (cond b (x ∷ filter (λ x. p (f x)) xs)
      (filter (λ x. p (f x)) xs))) [ true ↦ refl | false ↦ refl ])

pub range_more : (a n : ℕ) → range_with_len a (n + 1) ≡ range_with_len a n ++ (a + n) ∷ []
range_more a n =
    sym (map-id (range_with_len a (n + 1))) ∙ map-range_with_len_more (λ k. k) a n (a + n) refl
    ∙ ap (λ ks. ks ++ (a + n) ∷ []) (map-id (range_with_len a n))

pub Each-range : (P : ℕ → Type 0) (a n : ℕ) → ((k : ℕ) → a ≤ k → k < a + n → P k) → Each P (range_with_len a n)
Each-range P a zero h = tt
Each-range P a (suc n) h =
    (h a (omega arith) (omega arith), Each-range P (a + 1) n (λ k low high. h k (omega arith) (omega arith)))

pub enumerate_from-append : {X : Type 0} (n : ℕ) (xs ys : List X) →
    enumerate_from n (xs ++ ys) ≡ enumerate_from n xs ++ enumerate_from (n + length xs) ys
enumerate_from-append n [] ys = ap (λ k. enumerate_from k ys) (omega arith)
enumerate_from-append n (x ∷ xs) ys =
    ap (λ zs. (n, x) ∷ zs) (enumerate_from-append (n + 1) xs ys
    ∙ ap (λ k. enumerate_from (n + 1) xs ++ enumerate_from k ys) (omega arith))

pub Each-enumerate_from : {X : Type 0} (n : ℕ) (xs : List X) →
    Each (λ f. (n ≤ f.0) × (f.0 < n + length xs)) (enumerate_from n xs)
Each-enumerate_from n [] = tt
Each-enumerate_from {X} n (x ∷ xs) =
    let P : ℕ × X → Type 0 = λ f. (n + 1 ≤ f.0) × (f.0 < (n + 1) + length xs) in
    let Q : ℕ × X → Type 0 = λ f. (n ≤ f.0) × (f.0 < n + length (x ∷ xs)) in (
      (omega arith, omega arith),
      Each_weaker P Q (λ f h. (omega arith, omega arith)) (enumerate_from (n + 1) xs)
          (Each-enumerate_from (n + 1) xs),
    )

-- a list that begins with an older one still does with more after it
pub front_kept : {X : Type 0} (old done more : List X) → take (length old) done ≡ old →
    take (length old) (done ++ more) ≡ old
front_kept old done more e =
    let long : length old ≤ length done = omega (arith, ap length e, length-take (length old) done) in
    take-append-le (length old) done more long ∙ e

pub append_none : {X : Type 0} (xs ys : List X) → ys ≡ [] → xs ≡ xs ++ ys
append_none xs ys e = sym (ap (λ zs. xs ++ zs) e ∙ append-nil xs)
