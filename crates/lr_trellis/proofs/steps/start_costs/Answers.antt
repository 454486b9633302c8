use Rattle.std.proofs.Common.{ap, refl, ◌∙◌, ◌≡◌, ◌≢◌, ◌<◌, ℕ, Bool, true, false, cond, eqb, get_or, get_or-set_other}
use Rattle.std.proofs.Common.{List, slice_set, subst, get_or-set_same, length}
use Rattle.std.proofs.lemmas.Bool.{eqb-true, eqb-false}
use Rattle.std.proofs.lemmas.List.{get_or-replicate}
use Rattle.std.specs.Prelude.{replicate}
use Rattle.lr_trellis.specs.Trellis.{start_state}
use Rattle.lr_trellis.proofs.steps.start_costs.Goals as goal

same_at : (xs : List ℕ) (p : ℕ) → p < length xs → get_or (slice_set xs p 0) p 0 ≡ 0
same_at xs p room = rw get_or-set_same refl

start_list : (s p x : ℕ) (t : Bool) → eqb s p ≡ t → s < 64 → get_or (slice_set (replicate 64 x) p 0) s 0 ≡ cond t 0 x
start_list s p x true e l =
    let same : s ≡ p = eqb-true s p e in subst (λ q. get_or (slice_set (replicate 64 x) q 0) s 0 ≡ 0) same
    (same_at (replicate 64 x) s l)
start_list s p x false e l = let ne : s ≢ p = eqb-false s p e in rw get_or-set_other (get_or-replicate 64 s x 0 l)

pub returns : goal.returns
returns c s l =
    ap (λ p. get_or (slice_set (replicate 64 4148329) p 0) s 0) c.start.ensures.value
    ∙ start_list s (start_state c.args.line) 4148329 (eqb s (start_state c.args.line)) refl l
