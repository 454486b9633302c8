-- What is read at a gate tells of the item there.
use Rattle.std.proofs.Common.{◌≡◌, ◌+◌, ◌≤◌, ℕ, List, None, Result, Ok, Err, IfOk, length, take, drop, refl, sym}
use Rattle.std.proofs.Common.{◌∙◌, ap, subst, arith, length-take, length-drop}
use Rattle.lr_shelf_format.specs.Items.{Begins, extent_of}
use Rattle.lr_shelf_format.specs.Way.{HasRecord}
use Rattle.lr_shelf_format.specs.declared.entry.Entry.{Entry}
use Rattle.lr_shelf_format.specs.declared.item.ItemHead.{ItemHead}
use Rattle.lr_shelf_format.specs.declared.item.ItemHead.TheVariants.{Discard}
use Rattle.lr_shelf_format.proofs.ItemLemmas.{head_is}
use Rattle.lr_shelf.specs.Gate.{IsGateIn}
use Rattle.lr_shelf.specs.Pieces.{HasHead, IsHeadAt}
use Rattle.lr_shelf.specs.declared.gate.Gate.{Gate}
use Rattle.lr_shelf.specs.declared.gate.Gate.TheVariants.{Closed, Open, Broken}
use Rattle.lr_shelf.proofs.Gates.{begins_here, gate_there}
use Rattle.lr_shelf.proofs.Records.{form_of, head_from}

module _ (bytes into : List ℕ) (entry : Entry) (same : into ≡ take 13 (drop entry.gate bytes)) where
  pub head_there : (head : ItemHead) → entry.gate + 13 ≤ length bytes → IsGateIn into (Open head)
      → entry.extent ≡ extent_of head → HasHead bytes entry head
  head_there head long is size =
      let there = gate_there bytes entry.gate (Open head)
      (subst (λ (l : List ℕ). IsGateIn l (Open head)) same is) in
      record { is_open = there.0; whole = long; begins = there.1; extent = size }

  pub no_head : (found : Gate) → IsGateIn into found
      → ((head : ItemHead) → found ≡ Open head → entry.extent ≡ extent_of head → ⊥)
      → (head : ItemHead) → HasHead bytes entry head → ⊥
  no_head Closed is other head has =
      gate_there bytes entry.gate Closed (subst (λ (l : List ℕ). IsGateIn l Closed) same is) has.is_open
  no_head Broken is other head has =
      is.1
      (
      omega (
        arith,
        ap length same,
        length-take 13 (drop entry.gate bytes),
        length-drop entry.gate bytes,
        has.whole,
      )
      )
      head
      (subst (λ (l : List ℕ). Begins (take 12 (drop 1 l)) head) (sym same)
      (begins_here bytes entry.gate head has.begins))
  no_head (Open first) is other head has =
      let there = gate_there bytes entry.gate (Open first)
      (subst (λ (l : List ℕ). IsGateIn l (Open first)) same is) in
      let heads : head ≡ first = head_is (drop (entry.gate + 1) bytes) head first has.begins there.1 in
      other first refl (has.extent ∙ ap extent_of heads)

-- no record is where no head is
pub no_record : (bytes : List ℕ) (entry : Entry) → IsHeadAt bytes entry None → HasRecord bytes entry → ⊥
no_record bytes entry none has = none has.form.head (head_from bytes entry has)

-- or where a Discard is
pub no_discard : (bytes : List ℕ) (entry : Entry) (number : ℕ) → HasHead bytes entry (Discard number)
    → HasRecord bytes entry → ⊥
no_discard bytes entry number there has = form_of bytes entry has (Discard number) there

pub if_ok : {A E : Type 0} (P Q : A → Type 0) (r : Result A E) → ((x : A) → P x → Q x) → IfOk r P → IfOk r Q
if_ok P Q (Ok x) to is = to x is
if_ok P Q (Err e) to is = tt
