-- Lanes that are read at literal places.
use Rattle.std.proofs.Common.{arith, zero-add, ◌∙◌, ap, ◌≡◌, ◌<◌, ℕ, get_or}
use Rattle.std.proofs.lemmas.List.{get_or-map}
use Rattle.std.proofs.lemmas.List.FromFn.{get_or-range_with_len, length-range_with_len}
use Rattle.std.specs.Prelude.{map}
use Rattle.std.specs.List.{range_with_len}

pub placed : (f : ℕ → ℕ) (n k : ℕ) → k < n → get_or (map f (range_with_len 0 n)) k 0 ≡ f k
placed f n k l =
    get_or-map f (range_with_len 0 n) k 0 0 (let size = length-range_with_len 0 n in omega arith)
    ∙ ap f (get_or-range_with_len 0 n k 0 l ∙ zero-add k)
