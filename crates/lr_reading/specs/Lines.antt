-- Lines that are numbered.
use Rattle.std.specs.Prelude.{ℕ, List, map}
use Rattle.std.specs.List.{concat, enumerate_from}

-- the lines of these items, each with its number, from this one on
unfoldable pub numbered_lines : {A : Type 0} → (ℕ → A → List ℕ) → ℕ → List A → List ℕ
numbered_lines {A} line number items =
    concat (map (λ (item : ℕ × A). line item.0 item.1) (enumerate_from number items))
