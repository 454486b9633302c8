-- Places at which a call stops.
use Rattle.std.specs.Prelude.{Contains}
use Rattle.std.proofs.Common.{sym, subst, ◌≡◌, inl, inr, ⊎_elim, ℕ, ◌+◌, ◌<◌, ◌≤◌, List, ◌++◌, ◌∙◌, arith}
use Rattle.std.proofs.lemmas.List.Elements.{All-append, All-weaker, Contains-append_left, Contains-append_right}
use Rattle.lr_io.specs.Places.{MovesMost}

-- places of two kinds: those of the second are asked first, and those of the first up to what was answered
pub moves_of_both : (first second : List ℕ) (from most mid count : ℕ) → MovesMost second from most mid
    → MovesMost first from mid count → MovesMost (first ++ second) from most count
moves_of_both first second from most mid count before after = record {
  within = omega (arith, before.within, after.within);
  stops = All-append (λ place. from < place → from + count ≤ place) first second after.stops
      (
      All-weaker (λ place. from < place → from + mid ≤ place) (λ place. from < place → from + count ≤ place)
      (λ place stops ahead. omega (arith, stops ahead, after.within)) second before.stops
      );
  farthest =
      ⊎_elim
      (
      λ all. ⊎_elim (λ most. inl (all ∙ most))
      (λ there. inr (Contains-append_right first second (from + count) (here all there))) before.farthest
      )
      (λ there. inr (Contains-append_left first second (from + count) there)) after.farthest;
}
  where
    here : count ≡ mid → Contains second (from + mid) → Contains second (from + count)
    here all there = subst (λ (n : ℕ). Contains second (from + n)) (sym all) there
