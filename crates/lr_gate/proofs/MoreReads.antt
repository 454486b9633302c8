-- Reads of a list stay reads of a longer one.
use Rattle.std.proofs.Common.{◌≡◌, ℕ, ◌+◌, inl, inr, ⊎_elim, List, [], ◌∷◌, ◌++◌, sym, ap, ◌∙◌, append_assoc}
use Rattle.std.proofs.Common.{append-nil, Some, None}
use Rattle.lr_gate.specs.declared.view.Read.{Read}
use Rattle.lr_gate.specs.declared.view.View.{View}
use Rattle.lr_gate.specs.Steps.{read}
use Rattle.lr_gate.specs.Reads.{ContainsRead, HasMiss, IsPassedOver, ClaimsJob}
use Rattle.lr_gate.specs.Calls.{with_reads, after_work}

pub among_longer : (xs ys : List Read) (r : Read) → ContainsRead xs r → ContainsRead (xs ++ ys) r
among_longer xs ys r a = (a.0, a.1 ++ ys, ap (λ zs. zs ++ ys) a.2 ∙ append_assoc a.0 (r ∷ a.1) ys)

pub among_behind : (xs ys : List Read) (r : Read) → ContainsRead ys r → ContainsRead (xs ++ ys) r
among_behind xs ys r a = (xs ++ a.0, a.1, ap (λ zs. xs ++ zs) a.2 ∙ sym (append_assoc xs a.0 (r ∷ a.1)))

missed_longer : (xs ys : List Read) (word expected : ℕ) → HasMiss xs word expected → HasMiss (xs ++ ys) word expected
missed_longer xs ys word expected m = (m.0, among_longer xs ys (read word (Some expected) m.0) m.1, m.2)

missed_behind : (xs ys : List Read) (word expected : ℕ) → HasMiss ys word expected → HasMiss (xs ++ ys) word expected
missed_behind xs ys word expected m = (m.0, among_behind xs ys (read word (Some expected) m.0) m.1, m.2)

pub passed_longer : (xs ys : List Read) (c : ℕ) → IsPassedOver xs c → IsPassedOver (xs ++ ys) c
passed_longer xs ys c p = (
  p.0,
  among_longer xs ys (read (c + 1) None p.0) p.1,
  ⊎_elim inl (λ q. inr (q.0, missed_longer xs ys (c + 1) p.0 q.1)) p.2,
)

pub passed_behind : (xs ys : List Read) (c : ℕ) → IsPassedOver ys c → IsPassedOver (xs ++ ys) c
passed_behind xs ys c p = (
  p.0,
  among_behind xs ys (read (c + 1) None p.0) p.1,
  ⊎_elim inl (λ q. inr (q.0, missed_behind xs ys (c + 1) p.0 q.1)) p.2,
)

pub claimed_behind : (xs ys : List Read) (n p : ℕ) → ClaimsJob ys n p → ClaimsJob (xs ++ ys) n p
claimed_behind xs ys n p c = (xs ++ c.0, ap (λ zs. xs ++ zs) c.1 ∙ sym (append_assoc xs c.0 _))

module _ {J : Type 0} where
  pub no_reads : (v : View J) → v ≡ with_reads v []
  no_reads v = sym (ap (λ (rs : List Read). record v { reads = rs }) (append-nil v.reads))

  pub more_reads : (v : View J) (xs ys : List Read) → with_reads (with_reads v xs) ys ≡ with_reads v (xs ++ ys)
  more_reads v xs ys = ap (λ (rs : List Read). record v { reads = rs }) (append_assoc v.reads xs ys)

  pub more_work : (v : View J) (xs ys : List Read) (p : ℕ)
      → after_work (with_reads v xs) ys p ≡ after_work v (xs ++ ys) p
  more_work v xs ys p = ap (λ (rs : List Read). record v { finished = v.finished ++ p ∷ []; reads = rs })
      (append_assoc v.reads xs ys)
