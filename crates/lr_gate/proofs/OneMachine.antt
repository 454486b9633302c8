-- Tables with the same words, of which as many jobs were taken, show the same machine.
use Rattle.std.proofs.Common.{◌≡◌, ℕ, suc, ◌+◌, ◌%◌, Bool, true, false, List, [], ◌∷◌, get_or}
use Rattle.std.proofs.Common.{sym, refl, ap, ap₂, ◌∙◌, arith}
use mathlib.Core.Option.{some, none, some-injective, some-ne-none}
use mathlib.Core.Option as maybe
use mathlib.Core.Logic.{dite}
use native.Mathlib.Decide.{dec_lt}
use lib.ListN.{get_elem?}
use Rattle.lr_gatecore.specs.declared.stage.Stage.{Stage}
use Rattle.lr_gatecore.specs.declared.stage.Stage.TheVariants.{Ready, Busy, Done}
use Rattle.lr_gate.specs.Words.{cell_word}
use Rattle.lr_gate.specs.Shows.{flag, Shows, machine_shown}
use Rattle.lr_gatecore.proofs.Lists.{at_above}
use Rattle.lr_gate.proofs.Keeps.{St, ring}

-- a cell's word tells the stage of its job
same_stage : (p : ℕ) (a b : maybe.Option Stage) → cell_word p a ≡ cell_word p b → a ≡ b
same_stage p none none e = refl
same_stage p none (some Ready) e = absurd (omega arith)
same_stage p none (some Done) e = absurd (omega arith)
same_stage p none (some (Busy w)) e = absurd (omega arith)
same_stage p (some Ready) none e = absurd (omega arith)
same_stage p (some Ready) (some Ready) e = refl
same_stage p (some Ready) (some Done) e = absurd (omega arith)
same_stage p (some Ready) (some (Busy w)) e = absurd (omega arith)
same_stage p (some Done) none e = absurd (omega arith)
same_stage p (some Done) (some Ready) e = absurd (omega arith)
same_stage p (some Done) (some Done) e = refl
same_stage p (some Done) (some (Busy w)) e = absurd (omega arith)
same_stage p (some (Busy w)) none e = absurd (omega arith)
same_stage p (some (Busy w)) (some Ready) e = absurd (omega arith)
same_stage p (some (Busy w)) (some Done) e = absurd (omega arith)
same_stage p (some (Busy w)) (some (Busy v)) e = let x : w ≡ v = omega arith in ap (λ (k : ℕ). some (Busy k)) x

same_flag : (a b : Bool) → flag a ≡ flag b → a ≡ b
same_flag true true e = refl
same_flag false false e = refl
same_flag true false e = absurd (omega arith)
same_flag false true e = absurd (omega arith)

same_list : {A : Type 0} (xs ys : List A) → ((i : ℕ) → get_elem? xs i ≡ get_elem? ys i) → xs ≡ ys
same_list [] [] h = refl
same_list [] (y ∷ ys) h = absurd (some-ne-none y (sym (h 0)))
same_list (x ∷ xs) [] h = absurd (some-ne-none x (h 0))
same_list (x ∷ xs) (y ∷ ys) h =
    ap₂ (λ a l. a ∷ l) (some-injective x y (h 0)) (same_list xs ys (λ i. h (suc i)))

module _ {J D : Type 0} (f : J → D) (n workers : ℕ) where
  stage_same : (s t : St J D) (r : Shows f (ring n workers) s) (q : Shows f (ring n workers) t) → t.words ≡ s.words
      → q.me.taken ≡ r.me.taken → (i : ℕ) → get_elem? q.stages i ≡ get_elem? r.stages i
  stage_same s t r q words taken i = dite (dec_lt i r.me.taken)
      (λ old. q.past i (omega arith) ∙ sym (r.past i old))
      (λ new. dite (dec_lt i (r.me.taken + n))
      (λ near. same_stage i (get_elem? q.stages i) (get_elem? r.stages i)
      (sym (q.each_cell i (omega arith) (omega arith)).word
      ∙ (ap (λ (ws : List ℕ). get_or ws (i % n + 1) 0) words ∙ (r.each_cell i (omega arith) near).word)))
      (λ far. at_above q.stages i (let w = q.within in omega arith)
      ∙ sym (at_above r.stages i (let w = r.within in omega arith))))

  pub same_words : (s t : St J D) (r : Shows f (ring n workers) s) (q : Shows f (ring n workers) t) → t.words ≡ s.words
      → q.me.taken ≡ r.me.taken → machine_shown f (ring n workers) t q ≡ machine_shown f (ring n workers) s r
  same_words s t r q words taken =
      let stopped : q.me.stopped ≡ r.me.stopped = same_flag q.me.stopped r.me.stopped
      (sym q.stop_is ∙ (ap (λ (ws : List ℕ). get_or ws 0 0) words ∙ r.stop_is)) in
      let stages : q.stages ≡ r.stages = same_list q.stages r.stages (stage_same s t r q words taken) in
      ap (λ (l : List Stage). record { stages = l; taken = q.me.taken; stopped = q.me.stopped }) stages
      ∙ ap₂ (λ (k : ℕ) (b : Bool). record { stages = r.stages; taken = k; stopped = b }) taken stopped
