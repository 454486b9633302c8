-- Each cell has one job number in a window of as many as there are cells.
use Rattle.std.proofs.Common.{◌≡◌, ℕ, suc, ◌+◌, ◌-◌, ◌*◌, ◌/◌, ◌%◌, ◌<◌, ◌≤◌, sym, ap, ◌∙◌, mul-le-mul_right, suc-mul}
use Rattle.std.proofs.Common.{lt_of_not-le, div-add-mod', mod-lt, mod-eq_of_lt, arith}
use Rattle.std.proofs.lemmas.Nat.{mod-mul-add}
use Rattle.std.proofs.Math.Nat.{add-mod_right}
use native.Mathlib.Decide.{dec_le}

further : (x y n : ℕ) → x < y → x * n + n ≤ y * n
further x y n h = let a : suc x * n ≤ y * n = mul-le-mul_right n h in omega (arith, suc-mul x n)

turns : (a b n : ℕ) → a ≤ b → b < a + n → a % n ≡ b % n → Dec (b / n ≤ a / n) → a ≡ b
turns a b n le lt e (yes d) = let m : b / n * n ≤ a / n * n = mul-le-mul_right n d in let p = div-add-mod' a n in
    let q = div-add-mod' b n in
    let x : ℕ = a / n * n in let y : ℕ = b / n * n in let r : ℕ = b % n in
    let p' : x + r ≡ a = ap (λ (k : ℕ). x + k) (sym e) ∙ p in let q' : y + r ≡ b = q in let m' : y ≤ x = m in
    omega arith
turns a b n le lt e (no d) = let m = further (a / n) (b / n) n (lt_of_not-le d) in let p = div-add-mod' a n in
    let q = div-add-mod' b n in
    let x : ℕ = a / n * n in let y : ℕ = b / n * n in let r : ℕ = b % n in
    let p' : x + r ≡ a = ap (λ (k : ℕ). x + k) (sym e) ∙ p in let q' : y + r ≡ b = q in let m' : x + n ≤ y = m in
    absurd (omega arith)

one_by : (p q n : ℕ) → p < q + n → q < p + n → p % n ≡ q % n → Dec (p ≤ q) → p ≡ q
one_by p q n a b e (yes le) = turns p q n le b e (dec_le (q / n) (p / n))
one_by p q n a b e (no g) = let l = lt_of_not-le g in sym (turns q p n (omega arith) a (sym e) (dec_le (p / n) (q / n)))

-- two jobs less than n apart that lie in one cell are one job
pub one_job : (p q n : ℕ) → p < q + n → q < p + n → p % n ≡ q % n → p ≡ q
one_job p q n a b e = one_by p q n a b e (dec_le p q)

place_by : (t c n : ℕ) → c < n → t % n < n → Dec (t % n ≤ c) → (t + (c + n - t % n) % n) % n ≡ c
place_by t c n near low (yes le) = let x : ℕ = t / n * n in let y : ℕ = t % n in
    let e : x + y ≡ t = div-add-mod' t n in let le' : y ≤ c = le in
    let turn : (c + n - y) % n ≡ c - y = ap (λ (z : ℕ). z % n) (let g : c + n - y ≡ c - y + n = omega arith in
    g) ∙ (add-mod_right (c - y) n ∙ mod-eq_of_lt (let g : c - y < n = omega arith in g)) in
    ap (λ (z : ℕ). (t + z) % n) turn ∙ (ap (λ (z : ℕ). z % n) (let g : t + (c - y) ≡ x + c = omega arith in
    g) ∙ mod-mul-add (t / n) n c near)
place_by t c n near low (no g) = let x : ℕ = t / n * n in let y : ℕ = t % n in
    let e : x + y ≡ t = div-add-mod' t n in let more : c < y = lt_of_not-le g in let low' : y < n = low in
    let z : ℕ = suc (t / n) * n in let next : z ≡ x + n = suc-mul (t / n) n in
    let turn : (c + n - y) % n ≡ c + n - y = mod-eq_of_lt (let g : c + n - y < n = omega arith in g) in
    ap (λ (z : ℕ). (t + z) % n) turn ∙ (ap (λ (z : ℕ). z % n) (let g : t + (c + n - y) ≡ z + c = omega arith in
    g) ∙ mod-mul-add (suc (t / n)) n c near)

-- the place in the window of the cell's job
pub place_is : (t c n : ℕ) → 0 < n → c < n → (t + (c + n - t % n) % n) % n ≡ c
place_is t c n pos near = place_by t c n near (mod-lt t pos) (dec_le (t % n) c)
