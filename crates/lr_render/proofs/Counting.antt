-- How many strips the lines of an image need that isn't compressed.
use Rattle.std.proofs.Common.{◌≡◌, ◌<◌, ◌≤◌, ◌+◌, ◌-◌, ◌/◌, ℕ, zero, suc, inl, inr, ap, ◌∙◌, refl, arith}
use Rattle.std.proofs.Math.Nat.{add-div_right, div-eq_of_lt}
use Rattle.std.proofs.lemmas.Bool.{cases_lt}
use Rattle.std.proofs.lemmas.Nat.{div_below, le-div}
use Rattle.lr_headers.specs.declared.fields.Structure.{Structure}
use Rattle.lr_render.specs.Tiling.{plain_count, strip_lines}

-- a strip has a line at least
pub strip_lines-some : (s : Structure) → 1 ≤ strip_lines s
strip_lines-some s = omega arith

-- lines in parts of `each`
pub none_needed : (each : ℕ) → 1 ≤ each → (0 + (each - 1)) / each ≡ 0
none_needed each some = div-eq_of_lt (omega arith)

one_more : (each left count : ℕ) → 1 ≤ each → suc count ≡ (left + (each - 1)) / each
    → count ≡ (left - each + (each - 1)) / each
one_more each left count some counts =
    elim (cases_lt each left) [
      | inl more ↦
          let apart : left + (each - 1) ≡ left - each + (each - 1) + each = omega arith in
          let all : suc count ≡ (left - each + (each - 1)) / each + 1 = counts ∙ ap (λ (n : ℕ). n / each) apart
          ∙ add-div_right (left - each + (each - 1)) some in
          omega arith
      | inr last ↦
          let none : left - each ≡ 0 = omega arith in
          let few : (left + (each - 1)) / each < 2 = div_below (left + (each - 1)) each 2 some (omega arith) in
          let end : (left - each + (each - 1)) / each ≡ 0 = ap (λ (n : ℕ). (n + (each - 1)) / each) none
          ∙ none_needed each some in
          omega arith
    ]

-- no strip is needed for no line alone
pub no_line : (s : Structure) (left : ℕ) → 0 ≡ plain_count s left → left ≡ 0
no_line s zero counts = refl
no_line s (suc left) counts =
    let some = strip_lines-some s in
    let fit : 1 ≤ plain_count s (suc left) = le-div 1 (suc left + (strip_lines s - 1)) (strip_lines s) some
    (omega arith) in
    absurd (omega arith)

-- a strip that is needed has a line, and what the others need is the rest
pub some_line : (s : Structure) (left count : ℕ) → suc count ≡ plain_count s left → 1 ≤ left
some_line s zero count counts =
    let none = none_needed (strip_lines s) (strip_lines-some s) in
    absurd (omega arith)
some_line s (suc left) count counts = omega arith

pub line_more : (s : Structure) (left count : ℕ) → suc count ≡ plain_count s left
    → count ≡ plain_count s (left - strip_lines s)
line_more s left count counts = one_more (strip_lines s) left count (strip_lines-some s) counts
