-- Sums of functions, and how many of their values are not 0.
use Rattle.std.proofs.Common.{◌≡◌, ◌≢◌, ℕ, zero, suc, ◌+◌, ◌<◌, ◌≤◌, cond, eqb, refl, sym, ap, ◌∙◌, arith, inl, inr}
use Rattle.std.proofs.Common.{add-zero}
use Rattle.std.specs.Int.Bits.{bit_xor, xor_assoc, xor_comm, xor_self, xor_zero_r, xor_lt}
use Rattle.std.proofs.lemmas.Bool.{cases_eq}
use Rattle.std.proofs.lemmas.Bool.Decides.{eqb_tells}
use Rattle.lr_gf.specs.Sums.{sum_of, weight}
use Rattle.lr_gf.proofs.Linear.{Linear, linear-zero, swap_middle}

pub sum_of-same : (n : ℕ) (f g : ℕ → ℕ) → ((i : ℕ) → i < n → f i ≡ g i) → sum_of n f ≡ sum_of n g
unfolding sum_of
sum_of-same zero f g h = refl
sum_of-same (suc n) f g h =
    ap (λ x. bit_xor x (f n)) (sum_of-same n f g (λ i k. h i (omega arith)))
    ∙ ap (bit_xor (sum_of n g)) (h n (omega arith))

pub sum_of-zero : (n : ℕ) (f : ℕ → ℕ) → ((i : ℕ) → i < n → f i ≡ 0) → sum_of n f ≡ 0
unfolding sum_of
sum_of-zero zero f h = refl
sum_of-zero (suc n) f h = ap (λ x. bit_xor x (f n)) (sum_of-zero n f (λ i k. h i (omega arith))) ∙ h n (omega arith)

pub sum_of-add : (n : ℕ) (f g : ℕ → ℕ) → sum_of n (λ i. bit_xor (f i) (g i)) ≡ bit_xor (sum_of n f) (sum_of n g)
unfolding sum_of
sum_of-add zero f g = refl
sum_of-add (suc n) f g =
    ap (λ x. bit_xor x (bit_xor (f n) (g n))) (sum_of-add n f g) ∙ swap_middle (sum_of n f) (sum_of n g) (f n) (g n)

pub sum_of-linear : (n : ℕ) (l f : ℕ → ℕ) → Linear l → sum_of n (λ i. l (f i)) ≡ l (sum_of n f)
unfolding sum_of
sum_of-linear zero l f p = sym (linear-zero l p)
sum_of-linear (suc n) l f p =
    ap (λ x. bit_xor x (l (f n))) (sum_of-linear n l f p) ∙ sym (p.additive (sum_of n f) (f n))

pub sum_of-swap : (n m : ℕ) (f : ℕ → ℕ → ℕ)
    → sum_of n (λ i. sum_of m (λ j. f i j)) ≡ sum_of m (λ j. sum_of n (λ i. f i j))
unfolding sum_of
sum_of-swap zero m f = sym (sum_of-zero m (λ j. 0) (λ i k. refl))
sum_of-swap (suc n) m f =
    ap (λ x. bit_xor x (sum_of m (λ j. f n j))) (sum_of-swap n m f)
    ∙ sym (sum_of-add m (λ j. sum_of n (λ i. f i j)) (λ j. f n j))

pub sum_of-lt : (n : ℕ) (f : ℕ → ℕ) → ((i : ℕ) → i < n → f i < 256) → sum_of n f < 256
unfolding sum_of
sum_of-lt zero f h = omega arith
sum_of-lt (suc n) f h = xor_lt 8 (sum_of n f) (f n) (sum_of-lt n f (λ i k. h i (omega arith))) (h n (omega arith))

-- all but one of the values are 0
pub sum_of-one : (n p : ℕ) (f : ℕ → ℕ) → p < n → ((i : ℕ) → i < n → i ≢ p → f i ≡ 0) → sum_of n f ≡ f p
unfolding sum_of
sum_of-one zero p f h k = absurd (omega arith)
sum_of-one (suc n) p f h k =
    elim (cases_eq p n) [
      | inl e ↦
          ap (λ x. bit_xor x (f n)) (sum_of-zero n f (λ i j. k i (omega arith) (omega arith))) ∙ ap f (sym e)
      | inr ne ↦
          ap (bit_xor (sum_of n f)) (k n (omega arith) (λ e. ne (sym e))) ∙ xor_zero_r (sum_of n f)
          ∙ sum_of-one n p f (omega (arith, ne)) (λ i j. k i (omega arith))
    ]

-- all but two of the values are 0
pub sum_of-two : (n p q : ℕ) (f : ℕ → ℕ) → p < n → q < n → p ≢ q → ((i : ℕ) → i < n → i ≢ p → i ≢ q → f i ≡ 0)
    → sum_of n f ≡ bit_xor (f p) (f q)
unfolding sum_of
sum_of-two zero p q f h k d z = absurd (omega arith)
sum_of-two (suc n) p q f h k d z =
    elim (cases_eq q n) [
      | inl e ↦
          ap (λ x. bit_xor x (f n)) (sum_of-one n p f (omega (arith, d)) (λ i j ne. z i (omega arith) ne (omega arith)))
          ∙ ap (λ i. bit_xor (f p) (f i)) (sym e)
      | inr ne ↦
          elim (cases_eq p n) [
            | inl e ↦
                ap (λ x. bit_xor x (f n))
                (sum_of-one n q f (omega (arith, ne)) (λ i j nq. z i (omega arith) (omega arith) nq))
                ∙ xor_comm (f q) (f n) ∙ ap (λ i. bit_xor (f i) (f q)) (sym e)
            | inr np ↦
                ap (bit_xor (sum_of n f)) (z n (omega arith) (λ u. np (sym u)) (λ u. ne (sym u)))
                ∙ xor_zero_r (sum_of n f)
                ∙ sum_of-two n p q f (omega (arith, np)) (omega (arith, ne)) d (λ i j. z i (omega arith))
          ]
    ]

pub same_from_sum : (a b : ℕ) → bit_xor a b ≡ 0 → a ≡ b
same_from_sum a b h =
    sym (xor_zero_r a) ∙ ap (bit_xor a) (sym (xor_self b)) ∙ sym (xor_assoc a b b) ∙ ap (λ x. bit_xor x b) h

-- the weight of one value
mark : ℕ → ℕ
mark a = cond (eqb a 0) 0 1

mark-zero : (a : ℕ) → a ≡ 0 → mark a ≡ 0
unfolding mark
mark-zero a h = rw h refl

mark-nonzero : (a : ℕ) → a ≢ 0 → mark a ≡ 1
unfolding mark
mark-nonzero a h = elim (eqb_tells a 0) [ inl e ↦ absurd (h e.1) | inr n ↦ rw n.0 refl ]

mark-le-one : (a : ℕ) → mark a ≤ 1
mark-le-one a = elim (cases_eq a 0) [ inl e ↦ omega (arith, mark-zero a e) | inr ne ↦ omega (arith, mark-nonzero a ne) ]

mark-le : (a b : ℕ) → (a ≡ 0 → b ≡ 0) → mark b ≤ mark a
mark-le a b h = elim (cases_eq a 0) [
  | inl e ↦ omega (arith, mark-zero b (h e))
  | inr ne ↦ omega (arith, mark-nonzero a ne, mark-le-one b)
]

mark-none : (a : ℕ) → mark a ≡ 0 → a ≡ 0
mark-none a h = elim (cases_eq a 0) [ inl e ↦ e | inr ne ↦ absurd (omega (arith, mark-nonzero a ne)) ]

mark-add : (a b : ℕ) → mark (bit_xor a b) ≤ mark a + mark b
mark-add a b =
    elim (cases_eq a 0) [
      | inl e ↦ let f : bit_xor a b ≡ b = ap (λ x. bit_xor x b) e in omega (arith, ap mark f)
      | inr ne ↦ omega (arith, mark-nonzero a ne, mark-le-one (bit_xor a b))
    ]

weight-suc : (n : ℕ) (f : ℕ → ℕ) → weight (suc n) f ≡ weight n f + mark (f n)
unfolding weight mark
weight-suc n f = refl

weight-nil : (f : ℕ → ℕ) → weight 0 f ≡ 0
unfolding weight
weight-nil f = refl

pub weight-le : (n : ℕ) (f g : ℕ → ℕ) → ((i : ℕ) → i < n → f i ≡ 0 → g i ≡ 0) → weight n g ≤ weight n f
weight-le zero f g h = omega (arith, weight-nil f, weight-nil g)
weight-le (suc n) f g h =
    omega (
      arith,
      weight-suc n f,
      weight-suc n g,
      weight-le n f g (λ i k. h i (omega arith)),
      mark-le (f n) (g n) (h n (omega arith)),
    )

pub weight-none : (n : ℕ) (f : ℕ → ℕ) → weight n f ≡ 0 → (i : ℕ) → i < n → f i ≡ 0
weight-none zero f h i k = absurd (omega arith)
weight-none (suc n) f h i k =
    elim (cases_eq i n) [
      | inl e ↦ ap f e ∙ mark-none (f n) (omega (arith, weight-suc n f))
      | inr ne ↦ weight-none n f (omega (arith, weight-suc n f)) i (omega (arith, ne))
    ]

pub weight-zero : (n : ℕ) (f : ℕ → ℕ) → ((i : ℕ) → i < n → f i ≡ 0) → weight n f ≡ 0
weight-zero zero f h = weight-nil f
weight-zero (suc n) f h =
    omega (arith, weight-suc n f, weight-zero n f (λ i k. h i (omega arith)), mark-zero (f n) (h n (omega arith)))

pub weight-le-all : (n : ℕ) (f : ℕ → ℕ) → weight n f ≤ n
weight-le-all zero f = omega (arith, weight-nil f)
weight-le-all (suc n) f = omega (arith, weight-suc n f, weight-le-all n f, mark-le-one (f n))

pub weight-less : (n p : ℕ) (f g : ℕ → ℕ) → p < n → f p ≢ 0 → g p ≡ 0 → ((i : ℕ) → i < n → f i ≡ 0 → g i ≡ 0)
    → weight n g + 1 ≤ weight n f
weight-less zero p f g h nz z k = absurd (omega arith)
weight-less (suc n) p f g h nz z k =
    elim (cases_eq p n) [
      | inl e ↦
          let nz' : f n ≢ 0 = λ q. nz (ap f e ∙ q) in
          let z' : g n ≡ 0 = ap g (sym e) ∙ z in
          omega (
            arith,
            weight-suc n f,
            weight-suc n g,
            mark-nonzero (f n) nz',
            mark-zero (g n) z',
            weight-le n f g (λ i j. k i (omega arith)),
          )
      | inr ne ↦
          omega (
            arith,
            weight-suc n f,
            weight-suc n g,
            mark-le (f n) (g n) (k n (omega arith)),
            weight-less n p f g (omega (arith, ne)) nz z (λ i j. k i (omega arith)),
          )
    ]

pub weight-more : (n p : ℕ) (f g : ℕ → ℕ) → ((i : ℕ) → i < n → i ≢ p → f i ≡ 0 → g i ≡ 0) → weight n g ≤ weight n f + 1
weight-more zero p f g h = omega (arith, weight-nil f, weight-nil g)
weight-more (suc n) p f g h =
    elim (cases_eq n p) [
      | inl e ↦
          omega (
            arith,
            weight-suc n f,
            weight-suc n g,
            mark-le-one (g n),
            weight-le n f g (λ i k. h i (omega arith) (omega arith)),
          )
      | inr ne ↦
          omega (
            arith,
            weight-suc n f,
            weight-suc n g,
            mark-le (f n) (g n) (h n (omega arith) ne),
            weight-more n p f g (λ i k. h i (omega arith)),
          )
    ]

pub weight-some_zero : (n : ℕ) (f : ℕ → ℕ) → weight n f < n → (p : ℕ) × (p < n) × (f p ≡ 0)
weight-some_zero zero f h = absurd (omega arith)
weight-some_zero (suc n) f h =
    elim (cases_eq (f n) 0) [
      | inl e ↦ (n, omega arith, e)
      | inr ne ↦
          let r = weight-some_zero n f (omega (arith, weight-suc n f, mark-nonzero (f n) ne)) in
          (r.0, omega (arith, r.1), r.2)
    ]

pub weight-add : (n : ℕ) (f g : ℕ → ℕ) → weight n (λ i. bit_xor (f i) (g i)) ≤ weight n f + weight n g
weight-add zero f g = omega (arith, weight-nil f, weight-nil g, weight-nil (λ i. bit_xor (f i) (g i)))
weight-add (suc n) f g =
    omega (
      arith,
      weight-suc n f,
      weight-suc n g,
      weight-suc n (λ i. bit_xor (f i) (g i)),
      weight-add n f g,
      mark-add (f n) (g n),
    )

pub weight-suc_zero : (n : ℕ) (f : ℕ → ℕ) → f n ≡ 0 → weight (suc n) f ≡ weight n f
weight-suc_zero n f h = omega (arith, weight-suc n f, mark-zero (f n) h)

pub weight-suc_le : (n : ℕ) (f : ℕ → ℕ) → weight (suc n) f ≤ weight n f + 1
weight-suc_le n f = omega (arith, weight-suc n f, mark-le-one (f n))

pub weight-suc_one : (n : ℕ) (f : ℕ → ℕ) → f n ≢ 0 → weight (suc n) f ≡ weight n f + 1
weight-suc_one n f h = omega (arith, weight-suc n f, mark-nonzero (f n) h)

-- the first values are 0
pub sum_of-skip : (n m : ℕ) (f : ℕ → ℕ) → ((i : ℕ) → i < n → f i ≡ 0) → sum_of (n + m) f ≡ sum_of m (λ k. f (n + k))
unfolding sum_of
sum_of-skip n zero f h = rw add-zero (sum_of-zero n f h)
sum_of-skip n (suc m) f h =
    let e : n + suc m ≡ suc (n + m) = omega arith in
    rw e (ap (λ z. bit_xor z (f (n + m))) (sum_of-skip n m f h))

pub weight-skip : (n m : ℕ) (f : ℕ → ℕ) → ((i : ℕ) → i < n → f i ≡ 0) → weight (n + m) f ≤ m
weight-skip n zero f h = rw add-zero (omega (arith, weight-zero n f h))
weight-skip n (suc m) f h =
    let e : n + suc m ≡ suc (n + m) = omega arith in
    rw e (omega (arith, weight-suc_le (n + m) f, weight-skip n m f h))
