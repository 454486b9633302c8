-- The even states and the odd ones, interleaved.
use Rattle.std.proofs.Common.{arith, ap, ◌∙◌, ◌≡◌, ◌+◌, ◌-◌, ◌*◌, ◌/◌, ◌%◌, ◌<◌, ◌++◌, ℕ, List, length, get_or}
use Rattle.std.proofs.Math.ListN.{get_or-append}
use Rattle.std.proofs.Math.Seq.{get_or-append_right}
use Rattle.lr_lanes.proofs.Placed.{placed}
use Rattle.std.specs.Prelude.{map}
use Rattle.std.specs.List.{range_with_len}

-- where the state s stands in the even states and then the odd ones
place_in_word : ℕ → ℕ
place_in_word s = s / 2 + 32 * (s % 2)

even_at : (evens odds : List ℕ) (k : ℕ) → length evens ≡ 32 → k < 32 →
    get_or (evens ++ odds) (place_in_word (2 * k)) 0 ≡ get_or evens k 0
unfolding place_in_word
even_at evens odds k size l =
    let at : 2 * k / 2 + 32 * (2 * k % 2) ≡ k = omega arith in
    ap (λ p. get_or (evens ++ odds) p 0) at ∙ get_or-append evens odds 0 k (omega arith)

odd_at : (evens odds : List ℕ) (k : ℕ) → length evens ≡ 32 → k < 32 →
    get_or (evens ++ odds) (place_in_word (2 * k + 1)) 0 ≡ get_or odds k 0
unfolding place_in_word
odd_at evens odds k size l =
    let at : (2 * k + 1) / 2 + 32 * ((2 * k + 1) % 2) ≡ k + 32 = omega arith in
    let later : k + 32 - length evens ≡ k = omega arith in
    ap (λ p. get_or (evens ++ odds) p 0) at ∙ get_or-append_right evens odds (k + 32) 0 (omega arith)
    ∙ ap (λ p. get_or odds p 0) later

-- all states in the order of their numbers
unfoldable pub in_order : List ℕ → List ℕ → List ℕ
in_order evens odds = map (λ s. get_or (evens ++ odds) (s / 2 + 32 * (s % 2)) 0) (range_with_len 0 64)

pub evens_placed : (evens odds : List ℕ) → length evens ≡ 32 → (k : ℕ) → k < 32 →
    get_or (in_order evens odds) (2 * k) 0 ≡ get_or evens k 0
unfolding place_in_word in_order
evens_placed evens odds size k l =
    placed (λ s. get_or (evens ++ odds) (s / 2 + 32 * (s % 2)) 0) 64 (2 * k) (omega arith) ∙ even_at evens odds k size l

pub odds_placed : (evens odds : List ℕ) → length evens ≡ 32 → (k : ℕ) → k < 32 →
    get_or (in_order evens odds) (2 * k + 1) 0 ≡ get_or odds k 0
unfolding place_in_word in_order
odds_placed evens odds size k l =
    placed (λ s. get_or (evens ++ odds) (s / 2 + 32 * (s % 2)) 0) 64 (2 * k + 1) (omega arith)
    ∙ odd_at evens odds k size l
