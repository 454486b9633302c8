-- A polynomial whose coefficients aren't all 0 has fewer roots than coefficients.
use Rattle.std.proofs.Common.{◌≡◌, ℕ, zero, suc, ◌+◌, ◌<◌, ◌≤◌, List, [], ◌∷◌, ◌++◌, length, reverse, All, refl, sym}
use Rattle.std.proofs.Common.{ap, ◌∙◌, arith}
use Rattle.std.specs.Int.Bits.{bit_xor, xor_assoc, xor_comm, xor_self, xor_zero_r, xor_lt}
use Rattle.std.proofs.lemmas.List.Elements.{All-head, All-tail, All-nil, All-cons, All-same, All-push}
use Rattle.std.proofs.lemmas.List.{reverse-append, reverse-reverse, length-reverse}
use Rattle.lr_gf.specs.Field.{times, value_of}
use Rattle.lr_gf.proofs.Laws.{times-lt, times-comm, times-assoc, times-add-left, times-add-right, times-zero-right}
use Rattle.lr_gf.proofs.Powers.{times-nonzero, value-push}
use Rattle.lr_gf.proofs.Linear.{swap_middle}
use Rattle.lr_gf.specs.Sums.{weight}
use Rattle.lr_gf.proofs.SumLaws.{same_from_sum, weight-le, weight-more, weight-some_zero}
use Rattle.lr_gf.proofs.Vanishing.{AreNodes}

-- the value, with the lowest coefficient first
unfoldable pub low : List ℕ → ℕ → ℕ
low [] x = 0
low (c ∷ cs) x = bit_xor c (times x (low cs x))

-- the quotient by the polynomial x - r
quotient : ℕ → List ℕ → List ℕ
quotient r [] = []
quotient r (c ∷ []) = []
quotient r (c ∷ d ∷ ds) = low (d ∷ ds) r ∷ quotient r (d ∷ ds)

pub low-lt : (cs : List ℕ) (x : ℕ) → All (λ c. c < 256) cs → x < 256 → low cs x < 256
unfolding low
low-lt [] x h k = omega arith
low-lt (c ∷ cs) x h k = xor_lt 8 c (times x (low cs x)) (All-head (λ c. c < 256) c cs h)
    (times-lt x (low cs x) k (low-lt cs x (All-tail (λ c. c < 256) c cs h) k))

quotient-lt : (r : ℕ) (cs : List ℕ) → r < 256 → All (λ c. c < 256) cs → All (λ c. c < 256) (quotient r cs)
unfolding quotient
quotient-lt r [] k h = All-nil (λ c. c < 256)
quotient-lt r (c ∷ []) k h = All-nil (λ c. c < 256)
quotient-lt r (c ∷ d ∷ ds) k h =
    let t = All-tail (λ c. c < 256) c (d ∷ ds) h in
    All-cons (λ c. c < 256) (low (d ∷ ds) r) (quotient r (d ∷ ds)) (low-lt (d ∷ ds) r t k) (quotient-lt r (d ∷ ds) k t)

quotient-length : (r c : ℕ) (cs : List ℕ) → length (quotient r (c ∷ cs)) ≡ length cs
unfolding quotient
quotient-length r c [] = refl
quotient-length r c (d ∷ ds) = ap suc (quotient-length r d ds)

cancel : (a b c : ℕ) → bit_xor (bit_xor c b) (bit_xor a c) ≡ bit_xor a b
cancel a b c =
    xor_comm (bit_xor c b) (bit_xor a c) ∙ xor_assoc a c (bit_xor c b)
    ∙ ap (bit_xor a) (sym (xor_assoc c c b) ∙ ap (λ z. bit_xor z b) (xor_self c))

-- one coefficient more: (c + x s(x)) - (c + r s(r)) = (x - r) (s(r) + x q(x))
division : (c x r u v q : ℕ) → x < 256 → r < 256 → v < 256 → q < 256 → bit_xor u v ≡ times (bit_xor x r) q
    → bit_xor (bit_xor c (times x u)) (bit_xor c (times r v)) ≡ times (bit_xor x r) (bit_xor v (times x q))
division c x r u v q hx hr hv hq e =
    let d : bit_xor x r < 256 = xor_lt 8 x r hx hr in
    let left : bit_xor (bit_xor c (times x u)) (bit_xor c (times r v)) ≡ bit_xor (times x u) (times r v) =
    swap_middle c (times x u) c (times r v) ∙ ap (λ z. bit_xor z (bit_xor (times x u) (times r v))) (xor_self c) in
    let inner : times (bit_xor x r) (times x q) ≡ bit_xor (times x u) (times x v) =
    sym (times-assoc (bit_xor x r) x q d hx hq) ∙ ap (λ z. times z q) (times-comm (bit_xor x r) x d hx)
    ∙ times-assoc x (bit_xor x r) q hx d hq ∙ ap (times x) (sym e) ∙ times-add-right x u v in
    let right : times (bit_xor x r) (bit_xor v (times x q)) ≡ bit_xor (times x u) (times r v) =
    times-add-right (bit_xor x r) v (times x q)
    ∙ ap (λ z. bit_xor z (times (bit_xor x r) (times x q))) (times-add-left x r v)
    ∙ ap (bit_xor (bit_xor (times x v) (times r v))) inner
    ∙ cancel (times x u) (times r v) (times x v) in
    left ∙ sym right

-- p(x) - p(r) = (x - r) q(x)
divided : (r x : ℕ) (cs : List ℕ) → r < 256 → x < 256 → All (λ c. c < 256) cs
    → bit_xor (low cs x) (low cs r) ≡ times (bit_xor x r) (low (quotient r cs) x)
unfolding low quotient
divided r x [] hr hx h = sym (times-zero-right (bit_xor x r))
divided r x (c ∷ []) hr hx h =
    ap (λ z. bit_xor (bit_xor c z) (bit_xor c (times r 0))) (times-zero-right x)
    ∙ ap (λ z. bit_xor (bit_xor c 0) (bit_xor c z)) (times-zero-right r)
    ∙ xor_self (bit_xor c 0) ∙ sym (times-zero-right (bit_xor x r))
divided r x (c ∷ d ∷ ds) hr hx h =
    let t : All (λ c. c < 256) (d ∷ ds) = All-tail (λ c. c < 256) c (d ∷ ds) h in
    division c x r (low (d ∷ ds) x) (low (d ∷ ds) r) (low (quotient r (d ∷ ds)) x) hx hr (low-lt (d ∷ ds) r t hr)
    (low-lt (quotient r (d ∷ ds)) x (quotient-lt r (d ∷ ds) hr t) hx) (divided r x (d ∷ ds) hr hx t)

-- only 0 has a quotient and a remainder that are 0
from_quotient : (r : ℕ) (cs : List ℕ) → All (λ c. c ≡ 0) (quotient r cs) → low cs r ≡ 0 → All (λ c. c ≡ 0) cs
unfolding low quotient
from_quotient r [] h e = All-nil (λ c. c ≡ 0)
from_quotient r (c ∷ []) h e =
    All-cons (λ c. c ≡ 0) c [] (sym (xor_zero_r c) ∙ ap (bit_xor c) (sym (times-zero-right r)) ∙ e)
    (All-nil (λ c. c ≡ 0))
from_quotient r (c ∷ d ∷ ds) h e =
    let head : low (d ∷ ds) r ≡ 0 = All-head (λ c. c ≡ 0) (low (d ∷ ds) r) (quotient r (d ∷ ds)) h in
    let tail = from_quotient r (d ∷ ds) (All-tail (λ c. c ≡ 0) (low (d ∷ ds) r) (quotient r (d ∷ ds)) h) head in
    All-cons (λ c. c ≡ 0) c (d ∷ ds)
    (sym (xor_zero_r c) ∙ ap (bit_xor c) (sym (ap (times r) head ∙ times-zero-right r)) ∙ e) tail

pub few_roots : (m n : ℕ) (cs : List ℕ) (x : ℕ → ℕ) → length cs ≡ m → AreNodes n x → All (λ c. c < 256) cs
    → m + weight n (λ i. low cs (x i)) ≤ n → All (λ c. c ≡ 0) cs
few_roots m n [] x e nodes small many = All-nil (λ c. c ≡ 0)
few_roots zero n (c ∷ cs) x e nodes small many = absurd (omega arith)
few_roots (suc m) n (c ∷ cs) x e nodes small many =
    let root = weight-some_zero n (λ i. low (c ∷ cs) (x i)) (omega arith) in
    let p : ℕ = root.0 in
    let here : root.0 < n = root.1 in
    let r : x root.0 < 256 = nodes.below root.0 here in
    let shorter : length (quotient (x root.0) (c ∷ cs)) ≡ m = omega (arith, quotient-length (x root.0) c cs) in
    let fewer : weight n (λ i. low (quotient (x root.0) (c ∷ cs)) (x i)) ≤ weight n (λ i. low (c ∷ cs) (x i)) + 1 =
    weight-more n root.0 (λ i. low (c ∷ cs) (x i)) (λ i. low (quotient (x root.0) (c ∷ cs)) (x i))
    (λ i k d z. times-nonzero (bit_xor (x i) (x root.0)) (low (quotient (x root.0) (c ∷ cs)) (x i))
    (xor_lt 8 (x i) (x root.0) (nodes.below i k) r)
    (low-lt (quotient (x root.0) (c ∷ cs)) (x i) (quotient-lt (x root.0) (c ∷ cs) r small) (nodes.below i k))
    (λ q. d (nodes.different i root.0 k here (same_from_sum (x i) (x root.0) q)))
    (sym (divided (x root.0) (x i) (c ∷ cs) r (nodes.below i k) small)
    ∙ ap (λ w. bit_xor w (low (c ∷ cs) (x root.0))) z ∙ root.2)) in
    from_quotient (x root.0) (c ∷ cs)
    (few_roots m n (quotient (x root.0) (c ∷ cs)) x shorter nodes (quotient-lt (x root.0) (c ∷ cs) r small)
    (omega arith)) root.2

All-reverse : (cs : List ℕ) → All (λ c. c < 256) cs → All (λ c. c < 256) (reverse cs)
All-reverse [] h = h
All-reverse (c ∷ cs) h =
    All-same (λ c. c < 256) (reverse (c ∷ cs)) (reverse cs ++ c ∷ []) (reverse-append (c ∷ []) cs)
    (All-push (λ c. c < 256) (reverse cs) c (All-reverse cs (All-tail (λ c. c < 256) c cs h))
    (All-head (λ c. c < 256) c cs h))

All-reverse_zero : (cs : List ℕ) → All (λ c. c ≡ 0) cs → All (λ c. c ≡ 0) (reverse cs)
All-reverse_zero [] h = h
All-reverse_zero (c ∷ cs) h =
    All-same (λ c. c ≡ 0) (reverse (c ∷ cs)) (reverse cs ++ c ∷ []) (reverse-append (c ∷ []) cs)
    (All-push (λ c. c ≡ 0) (reverse cs) c (All-reverse_zero cs (All-tail (λ c. c ≡ 0) c cs h))
    (All-head (λ c. c ≡ 0) c cs h))

pub low-reverse : (cs : List ℕ) (x : ℕ) → All (λ c. c < 256) cs → x < 256 → value_of (reverse cs) x ≡ low cs x
unfolding low value_of
low-reverse [] x h k = refl
low-reverse (c ∷ cs) x h k =
    let t : All (λ c. c < 256) cs = All-tail (λ c. c < 256) c cs h in
    ap (λ l. value_of l x) (reverse-append (c ∷ []) cs)
    ∙ value-push (reverse cs) c x (All-head (λ c. c < 256) c cs h)
    ∙ ap (λ z. bit_xor (times z x) c) (low-reverse cs x t k)
    ∙ xor_comm (times (low cs x) x) c ∙ ap (bit_xor c) (times-comm (low cs x) x (low-lt cs x t k) k)

-- the same with the highest coefficient first
pub roots_of_value : (m n : ℕ) (cs : List ℕ) (x : ℕ → ℕ) → length cs ≡ m → AreNodes n x → All (λ c. c < 256) cs
    → m + weight n (λ i. value_of cs (x i)) ≤ n → All (λ c. c ≡ 0) cs
roots_of_value m n cs x h nodes small many =
    let turned = All-reverse cs small in
    let back : reverse (reverse cs) ≡ cs = reverse-reverse cs in
    let same : (i : ℕ) → i < n → value_of cs (x i) ≡ low (reverse cs) (x i) =
    λ i k. ap (λ l. value_of l (x i)) (sym back) ∙ low-reverse (reverse cs) (x i) turned (nodes.below i k) in
    let all : All (λ c. c ≡ 0) (reverse cs) =
    few_roots m n (reverse cs) x (length-reverse cs ∙ h) nodes turned
    (omega (arith, weight-le n (λ i. value_of cs (x i)) (λ i. low (reverse cs) (x i)) (λ i k z. sym (same i k) ∙ z))) in
    All-same (λ c. c ≡ 0) cs (reverse (reverse cs)) (sym back) (All-reverse_zero (reverse cs) all)
