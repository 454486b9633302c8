-- The key equation: what is in the kernel of the syndromes is zero at each place in error.
use Rattle.std.proofs.Common.{◌≡◌, ◌≢◌, ℕ, suc, ◌+◌, ◌-◌, ◌<◌, ◌≤◌, List, [], ◌∷◌, length, get_or, set, take, map}
use Rattle.std.proofs.Common.{slice_index, All, add-one, refl, sym, ap, ◌∙◌, arith, inl, inr}
use Rattle.std.specs.Int.Bits.{bit_xor, xor_zero_r}
use Rattle.std.proofs.lemmas.Bool.{cases_eq, cases_lt}
use Rattle.std.proofs.lemmas.List.{get_or-set_same, get_or-set_other, get_or-map, length-map, map-append, take_more}
use Rattle.lr_gf.specs.Dual.{conventional_of}
use Rattle.lr_gf.proofs.DualLaws.{conventional-lt}
use Rattle.lr_rs.specs.Words.{word_value, locator}
use Rattle.lr_rs.specs.RootLists.{IsRootList}
use Rattle.std.proofs.lemmas.List.Elements.{All-get_or}
use Rattle.lr_gf.proofs.Roots.{roots_of_value}
use Rattle.lr_gf.specs.Sums.{sum_of, weight}
use Rattle.lr_gf.specs.Field.{times, power, value_of}
use Rattle.lr_gf.proofs.Laws.{below, commute, group, times-zero-left, linear-times-right, linear-times-left}
use Rattle.lr_gf.proofs.Powers.{power-add, times-nonzero, value-push}
use Rattle.lr_gf.proofs.Values.{value_as_sum}
use Rattle.lr_gf.proofs.SumLaws.{sum_of-same, sum_of-linear, sum_of-swap, weight-le, weight-suc_zero, weight-suc_one}
use Rattle.lr_gf.proofs.Vanishing.{vanishing}
use Rattle.lr_rs.proofs.Locators.{locators}
use Rattle.lr_rs.specs.declared.sizes.TheConstants.{CHECK_BYTES, WORD_BYTES}

-- one term: (e (c x^a)) x^b = c (e x^(b + a))
term : (e c x a b : ℕ) → x < 256 → times (times e (times c (power x a))) (power x b)
    ≡ times (times e (power x (b + a))) c
term e c x a b h =
    ap (λ z. times (times e z) (power x b)) (commute c (power x a))
    ∙ ap (λ z. times z (power x b)) (sym (group e (power x a) c))
    ∙ group (times e (power x a)) c (power x b) ∙ ap (times (times e (power x a))) (commute c (power x b))
    ∙ sym (group (times e (power x a)) (power x b) c)
    ∙ ap (λ z. times z c) (group e (power x a) (power x b)
    ∙ ap (times e) (commute (power x a) (power x b) ∙ sym (power-add x b a h)))

-- sums of e_p Λ(x_p) x_p^b, by the sums of e_p x_p^j
pub key_sum : (cs : List ℕ) (e : ℕ → ℕ) (b : ℕ) → length cs ≡ 17
    → sum_of WORD_BYTES (λ p. times (times (e p) (value_of cs (locator p))) (power (locator p) b))
    ≡ sum_of 17 (λ k. times (sum_of WORD_BYTES (λ p. times (e p) (power (locator p) (b + (16 - k))))) (get_or cs k 0))
key_sum cs e b h =
    sum_of-same WORD_BYTES (λ p. times (times (e p) (value_of cs (locator p))) (power (locator p) b))
    (λ p. sum_of 17 (λ k. times (times (e p) (power (locator p) (b + (16 - k)))) (get_or cs k 0)))
    (λ p j.
    ap (λ z. times (times (e p) z) (power (locator p) b)) (value_as_sum cs 17 (locator p) h)
    ∙ ap (λ z. times z (power (locator p) b))
    (sym (sum_of-linear 17 (times (e p)) (λ k. times (get_or cs k 0) (power (locator p) (16 - k)))
    (linear-times-right (e p))))
    ∙ sym (sum_of-linear 17 (λ z. times z (power (locator p) b))
    (λ k. times (e p) (times (get_or cs k 0) (power (locator p) (16 - k))))
    (linear-times-left (power (locator p) b)))
    ∙ sum_of-same 17 (λ k. times (times (e p) (times (get_or cs k 0) (power (locator p) (16 - k))))
    (power (locator p) b))
    (λ k. times (times (e p) (power (locator p) (b + (16 - k)))) (get_or cs k 0))
    (λ k l. term (e p) (get_or cs k 0) (locator p) (16 - k) b (locators.below p j)))
    ∙ sum_of-swap WORD_BYTES 17 (λ p k. times (times (e p) (power (locator p) (b + (16 - k)))) (get_or cs k 0))
    ∙ sum_of-same 17 (λ k. sum_of WORD_BYTES (λ p. times (times (e p) (power (locator p) (b + (16 - k))))
    (get_or cs k 0)))
    (λ k. times (sum_of WORD_BYTES (λ p. times (e p) (power (locator p) (b + (16 - k))))) (get_or cs k 0))
    (λ k l. sum_of-linear WORD_BYTES (λ z. times z (get_or cs k 0))
    (λ p. times (e p) (power (locator p) (b + (16 - k)))) (linear-times-left (get_or cs k 0)))

-- each place in error is a root
pub error_is_root : (cs : List ℕ) (e s : ℕ → ℕ) → length cs ≡ 17 →
    ((p : ℕ) → p < WORD_BYTES → value_of cs (locator p) < 256)
    → ((p : ℕ) → p < WORD_BYTES → e p < 256) → weight WORD_BYTES e ≤ 16
    → ((j : ℕ) → j < CHECK_BYTES → s j ≡ sum_of WORD_BYTES (λ p. times (e p) (power (locator p) (112 + j))))
    → ((i : ℕ) → i < 16 → sum_of 17 (λ k. times (s (i + (16 - k))) (get_or cs k 0)) ≡ 0)
    → (p : ℕ) → p < WORD_BYTES → e p ≢ 0 → value_of cs (locator p) ≡ 0
error_is_root cs e s h small bytes few is sent p hp ne =
    times-nonzero (e p) (value_of cs (locator p)) (bytes p hp) (small p hp) ne
    (vanishing 16 255 112 (λ p. times (e p) (value_of cs (locator p))) locator locators
    (λ i k. below (e i) (value_of cs (locator i)))
    (omega (
      arith,
      few,
      weight-le WORD_BYTES e (λ p. times (e p) (value_of cs (locator p)))
          (λ i k z. ap (λ y. times y (value_of cs (locator i))) z ∙ times-zero-left (value_of cs (locator i))),
    ))
    (λ i hi.
    key_sum cs e (112 + i) h
    ∙ sum_of-same 17 (λ k. times (sum_of WORD_BYTES (λ p. times (e p) (power (locator p) (112 + i + (16 - k)))))
    (get_or cs k 0))
    (λ k. times (s (i + (16 - k))) (get_or cs k 0))
    (λ k l.
    let exponent : 112 + i + (16 - k) ≡ 112 + (i + (16 - k)) = omega arith in
    ap (λ z. times z (get_or cs k 0))
    (ap (λ m. sum_of WORD_BYTES (λ p. times (e p) (power (locator p) m))) exponent ∙
    sym (is (i + (16 - k)) (omega arith))))
    ∙ sent i hi)
    p hp)

pub roots_start : (cs ps : List ℕ) → IsRootList cs 0 0 ps
unfolding sum_of weight
roots_start cs ps = record {
  many = refl;
  below_limit = λ l h. absurd (omega arith);
  sums = λ g h. refl;
  different = λ l r h. absurd (omega arith);
  roots = λ l h. absurd (omega arith);
  covers = λ p h. absurd (omega arith);
}

pub roots_skip : (cs ps : List ℕ) (limit count : ℕ) → IsRootList cs limit count ps
    → value_of cs (locator limit) ≢ 0 → IsRootList cs (limit + 1) count ps
unfolding sum_of
roots_skip cs ps limit count r ne = record {
  many = rw add-one (omega (arith, r.many, weight-suc_one limit (λ p. value_of cs (locator p)) ne));
  below_limit = λ l h. omega (arith, r.below_limit l h);
  sums = λ g h. rw add-one
      (ap (λ z. bit_xor z (g limit)) (r.sums g (λ p k. h p (omega arith)))
      ∙ ap (bit_xor (sum_of count (λ l. g (get_or ps l 0)))) (h limit (omega arith) ne)
      ∙ xor_zero_r (sum_of count (λ l. g (get_or ps l 0))));
  different = r.different;
  roots = r.roots;
  covers = λ p h e. elim (cases_eq p limit) [
    | inl q ↦
        absurd (ne (ap (λ z. value_of cs (locator z)) (sym q) ∙ e))
    | inr q ↦ r.covers p (omega (arith, q)) e
  ];
}

pub roots_more : (cs ps : List ℕ) (limit count : ℕ) → IsRootList cs limit count ps → count < length ps
    → value_of cs (locator limit) ≡ 0
    → IsRootList cs (limit + 1) (count + 1) (set ps count limit)
unfolding sum_of
roots_more cs ps limit count r room e = record {
  many = let a : limit + 1 ≡ suc limit = add-one limit in
      rw a (omega (arith, r.many, weight-suc_zero limit (λ p. value_of cs (locator p)) e));
  below_limit = λ l h. elim (cases_eq l count) [
    | inl q ↦ omega (arith, ap (λ z. get_or (set ps count limit) z 0) q ∙ get_or-set_same ps count limit 0 room)
    | inr q ↦ omega (arith, get_or-set_other ps count l limit 0 q, r.below_limit l (omega (arith, q)))
  ];
  sums = λ g h.
      let a : limit + 1 ≡ suc limit = add-one limit in
      let b : count + 1 ≡ suc count = add-one count in
      rw (a, b)
      (ap (λ z. bit_xor z (g limit)) (r.sums g (λ p k. h p (omega arith))
      ∙ sum_of-same count (λ l. g (get_or ps l 0)) (λ l. g (get_or (set ps count limit) l 0))
      (λ l k. ap g (sym (get_or-set_other ps count l limit 0 (omega arith)))))
      ∙ ap (bit_xor (sum_of count (λ l. g (get_or (set ps count limit) l 0))))
      (ap g (sym (get_or-set_same ps count limit 0 room))));
  different = λ i j hi hj same.
      elim (cases_eq i count) [
        | inl a ↦ elim (cases_eq j count) [
          | inl b ↦ a ∙ sym b
          | inr b ↦ absurd (omega (
            arith,
            r.below_limit j (omega (arith, b)),
            get_or-set_other ps count j limit 0 b,
            same,
            ap (λ z. get_or (set ps count limit) z 0) a,
            get_or-set_same ps count limit 0 room,
          ))
        ]
        | inr a ↦ elim (cases_eq j count) [
          | inl b ↦ absurd (omega (
            arith,
            r.below_limit i (omega (arith, a)),
            get_or-set_other ps count i limit 0 a,
            same,
            ap (λ z. get_or (set ps count limit) z 0) b,
            get_or-set_same ps count limit 0 room,
          ))
          | inr b ↦ r.different i j (omega (arith, a)) (omega (arith, b))
              (sym (get_or-set_other ps count i limit 0 a) ∙ same ∙ get_or-set_other ps count j limit 0 b)
        ]
      ];
  roots = λ l h. elim (cases_eq l count) [
    | inl q ↦ ap (λ z. value_of cs (locator z)) (ap (λ z. get_or (set ps count limit) z 0) q
        ∙ get_or-set_same ps count limit 0 room) ∙ e
    | inr q ↦ ap (λ z. value_of cs (locator z)) (get_or-set_other ps count l limit 0 q) ∙ r.roots l (omega (arith, q))
  ];
  covers = λ p h z. elim (cases_eq p limit) [
    | inl q ↦ (count, omega arith, get_or-set_same ps count limit 0 room ∙ sym q)
    | inr q ↦
        let w = r.covers p (omega (arith, q)) z in
        (w.0, omega (arith, w.1), get_or-set_other ps count w.0 limit 0 (omega (arith, w.1)) ∙ w.2)
  ];
}

-- a polynomial of 17 coefficients that aren't all 0 has at most 16 roots
pub at_most_sixteen : (cs ps : List ℕ) (count : ℕ) → length cs ≡ 17 → All (λ c. c < 256) cs →
    IsRootList cs WORD_BYTES count ps
    → (k : ℕ) → k < 17 → get_or cs k 0 ≢ 0 → count ≤ 16
at_most_sixteen cs ps count h small r k hk ne =
    elim (cases_lt 16 count) [
      | inl many ↦ absurd (ne (all_zero_at cs k (omega arith)
          (roots_of_value 17 255 cs locator h locators small (omega (arith, r.many)))))
      | inr few ↦ few
    ]
  where
    all_zero_at : (cs : List ℕ) (k : ℕ) → k < length cs → All (λ c. c ≡ 0) cs → get_or cs k 0 ≡ 0
    all_zero_at cs k h all = All-get_or (λ c. c ≡ 0) cs k 0 h all

-- a word's value, by its coefficients
pub value_of_word : (word : List ℕ) (x : ℕ) → length word ≡ WORD_BYTES → value_of (map conventional_of word) x
    ≡ word_value word x
unfolding word_value
value_of_word word x h =
    value_as_sum (map conventional_of word) 255 x (simp length-map h)
    ∙ sum_of-same WORD_BYTES (λ k. times (get_or (map conventional_of word) k 0) (power x (255 - 1 - k)))
    (λ i. times (conventional_of (slice_index word i)) (power x (254 - i)))
    (λ k l. ap (λ z. times z (power x (254 - k))) (get_or-map conventional_of word k 0 0 (omega arith)))

-- one byte more
pub word_more : (word : List ℕ) (i sum item x : ℕ) → i < length word → item ≡ conventional_of (get_or word i 0)
    → sum ≡ value_of (map conventional_of (take i word)) x → bit_xor (times sum x) item
    ≡ value_of (map conventional_of (take (i + 1) word)) x
word_more word i sum item x h f s =
    ap (λ z. bit_xor (times z x) item) s ∙ ap (bit_xor (times (value_of (map conventional_of (take i word)) x) x)) f
    ∙ sym (value-push (map conventional_of (take i word)) (conventional_of (get_or word i 0)) x
    (conventional-lt (get_or word i 0)))
    ∙ ap (λ l. value_of l x)
    (sym (ap (map conventional_of) (take_more word i 0 h)
    ∙ map-append conventional_of (take i word) (get_or word i 0 ∷ [])))
