-- One step more of a forward pass, whatever computes it.
use Rattle.std.proofs.Common.{arith, refl, ap, sym, subst, ◌∙◌, cond, add-one, below_more, get_or, get_or-set_other}
use Rattle.std.proofs.Common.{get_or-set_same, ◌≡◌, ◌≢◌, ◌+◌, ◌*◌, ◌/◌, ◌^◌, ◌<◌, ◌≤◌, ℕ, ℤ, zero, suc, min, nat_lt}
use Rattle.std.proofs.Common.{slice_index, slice_set, List, length, Bool, true, false, eqb}
use Rattle.lr_conv.specs.declared.line.LineCode.{LineCode}
use Rattle.lr_trellis.specs.Trellis.{least_cost, older_bit, branch_of, start_of, start_state}
use Rattle.lr_trellis.specs.Words.{branch_by, decision_of, decisions, IsDecided}
use Rattle.lr_trellis.specs.declared.costs.TheConstants.{STEP_COST}

-- after i steps: the costs, with a bound on them, and the words of the steps
pub record Forward (line : LineCode) (w : List ℤ) (i : ℕ) (old words : List ℕ) : Type 0 where
  pub costs : (s : ℕ) → s < 64 → slice_index old s ≡ least_cost (start_of line) (branch_of line w) i s
  pub bound : (s : ℕ) → s < 64 → slice_index old s ≤ 4148329 + STEP_COST * i
  pub decided : (k s : ℕ) → k < i → s < 64 → decisions words k s ≡ older_bit (start_of line) (branch_of line w) k s
  pub most : (k m : ℕ) → k < i → branch_of line w k m ≤ STEP_COST

start_bound : (t : Bool) → cond t 0 4148329 ≤ 4148329
start_bound true = omega arith
start_bound false = omega arith

-- before the first step
pub none : (line : LineCode) (w : List ℤ) (old words : List ℕ) →
    ((s : ℕ) → s < 64 → slice_index old s ≡ start_of line s) → Forward line w 0 old words
none line w old words starts = record {
  costs = starts;
  bound = λ s l. omega (arith, starts s l, start_bound (eqb s (start_state line)));
  decided = λ k s l m. absurd (omega arith);
  most = λ k m l. absurd (omega arith);
}

module _
    (line : LineCode)
    (w : List ℤ)
    (i word : ℕ)
    (old new words costs : List ℕ)
    (before : Forward line w i old words)
    (branches : (m : ℕ) → branch_by costs m ≡ branch_of line w i m)
    (below : (m : ℕ) → branch_by costs m ≤ STEP_COST)
    (least : (s : ℕ) → s < 64 → slice_index new s ≡ min (slice_index old (s / 2) + branch_by costs s)
    (slice_index old (s / 2 + 32) + branch_by costs (s + 64)))
    (chosen : (s : ℕ) → s < 64 → decision_of word s ≡ nat_lt (slice_index old (s / 2 + 32) + branch_by costs (s + 64))
    (slice_index old (s / 2) + branch_by costs s))
    (room : i < length words)
  where
    more_costs : (s : ℕ) → s < 64 → slice_index new s ≡ least_cost (start_of line) (branch_of line w) (suc i) s
    more_costs s l =
        let low = before.costs (s / 2) (omega arith) in
        let high = before.costs (s / 2 + 32) (omega arith) in
        let near = branches s in
        let far = branches (s + 64) in
        let all = least s l in
        cc

    more_bound : (s : ℕ) → s < 64 → slice_index new s ≤ 4148329 + STEP_COST * (i + 1)
    more_bound s l = omega (arith, least s l, before.bound (s / 2) (omega arith), below s)

    decided_here : (s : ℕ) → s < 64 → decision_of word s ≡ older_bit (start_of line) (branch_of line w) i s
    decided_here s l =
        let low = before.costs (s / 2) (omega arith) in
        let high = before.costs (s / 2 + 32) (omega arith) in
        let near = branches s in
        let far = branches (s + 64) in
        let all = chosen s l in
        cc

    other_word : (k : ℕ) → k < i → get_or (slice_set words i word) k 0 ≡ get_or words k 0
    other_word k l = let ne : k ≢ i = omega arith in rw get_or-set_other refl

    this_word : get_or (slice_set words i word) i 0 ≡ word
    this_word = rw get_or-set_same refl

    more_decided : (k : ℕ) → k < i + 1 → (s : ℕ) → s < 64 →
        decisions (slice_set words i word) k s ≡ older_bit (start_of line) (branch_of line w) k s
    unfolding decisions
    more_decided =
        below_more _ _
        (λ k l s m. ap (λ z. decision_of z s) (other_word k l) ∙ before.decided k s l m)
        (λ s m. ap (λ z. decision_of z s) this_word ∙ decided_here s m)

    more_most : (k : ℕ) → k < i + 1 → (m : ℕ) → branch_of line w k m ≤ STEP_COST
    more_most = below_more _ _ (λ k l m. before.most k m l) (λ m. subst (λ x. x ≤ STEP_COST) (branches m) (below m))

    pub more : Forward line w (i + 1) new (slice_set words i word)
    more = record {
      costs = λ s l. more_costs s l ∙ ap (λ k. least_cost (start_of line) (branch_of line w) k s) (sym (add-one i));
      bound = more_bound;
      decided = λ k s l m. more_decided k l s m;
      most = λ k m l. more_most k l m;
    }

pub all : (line : LineCode) (w : List ℤ) (i steps : ℕ) (old words : List ℕ) → i ≡ steps → Forward line w i old words →
    IsDecided line w steps words old
all line w i steps old words e f =
    subst (λ n. IsDecided line w n words old) e (record { decided = f.decided; least = f.costs; most = f.most })

-- a bound on the least costs
module _ (line : LineCode) (w : List ℤ) (steps : ℕ)
    (most : (i m : ℕ) → i < steps → branch_of line w i m ≤ STEP_COST) where
  best_bound : (i s : ℕ) → i ≤ steps → least_cost (start_of line) (branch_of line w) i s ≤ 4148329 + STEP_COST * i
  best_bound zero s l = omega (arith, start_bound (eqb s (start_state line)))
  best_bound (suc i) s l = omega (arith, best_bound i (s / 2) (omega arith), most i s (omega arith))

pub costs_fit : (line : LineCode) (w : List ℤ) (steps : ℕ) (words costs : List ℕ) → steps ≤ 8165 →
    IsDecided line w steps words costs → (s : ℕ) → s < 64 → slice_index costs s + STEP_COST < 2 ^ 32
costs_fit line w steps words costs few d s l =
    omega (arith, d.least s l, best_bound line w steps d.most steps s (omega arith))

-- what is decided has the bound too
pub from_decided : (line : LineCode) (w : List ℤ) (i : ℕ) (words costs : List ℕ) → IsDecided line w i words costs →
    Forward line w i costs words
from_decided line w i words costs d = record {
  costs = d.least;
  bound = λ s l. omega (arith, d.least s l, best_bound line w i d.most i s (omega arith));
  decided = d.decided;
  most = d.most;
}
