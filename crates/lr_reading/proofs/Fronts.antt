-- Fronts of a list.
use Rattle.std.proofs.Common.{◌≡◌, ◌≤◌, ◌-◌, ◌+◌, ℕ, List, ◌++◌, length, take, drop, sym, ◌∙◌, ap, subst, arith}
use Rattle.std.specs.Prelude.{All}
use Rattle.std.proofs.lemmas.List.Elements.{All-take}
use Rattle.std.proofs.Math.Seq.{take-add, take-append_seam}
use Rattle.std.proofs.lemmas.List.{take-append-drop, take-append-le}

-- of two fronts of a list the shorter one is a prefix of the other
pub front_of : {A : Type 0} (one waiting other late : List A) → one ++ waiting ≡ other ++ late
    → length one ≤ length other → one ++ drop (length one) other ≡ other
front_of one waiting other late same le =
    let here : take (length one) other ≡ one =
    sym (take-append-le (length one) other late le) ∙ ap (take (length one)) (sym same)
    ∙ take-append_seam one waiting in
    ap (λ l. l ++ drop (length one) other) (sym here) ∙ take-append-drop (length one) other

-- a longer front is a shorter one, and more
pub take_on : {A : Type 0} (list : List A) (few many : ℕ) → few ≤ many
    → take many list ≡ take few list ++ take (many - few) (drop few list)
take_on list few many le =
    let sum : many ≡ few + (many - few) = omega arith in
    ap (λ (n : ℕ). take n list) sum ∙ take-add few (many - few) list

-- what holds of all holds of all of a front
pub All-first : {A : Type 0} (P : A → Type 0) (first others : List A) → All P (first ++ others) → All P first
All-first P first others all =
    subst (All P) (take-append_seam first others) (All-take P (length first) (first ++ others) all)
