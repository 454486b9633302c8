use Rattle.std.proofs.Common.{◌≡◌, ◌+◌, ◌*◌, ◌<◌, ◌++◌, ◌∷◌, [], ℕ, List, refl, sym, subst, arith, get_or}
use Rattle.std.proofs.Common.{Bool, true, false}
use Rattle.std.specs.Prelude.{◌↔◌, ◌&&◌, IsTrue}
use Rattle.std.proofs.lemmas.Bool.{false≢true}
use Rattle.lr_rs.specs.Words.{IsCodeword}
use Rattle.lr_rs.specs.Division.{IsRemainderOf}
use Rattle.lr_block.specs.Blocks.{every_fourth, word_of}
use Rattle.lr_block.proofs.Interleaving.{below_four, every_fourth-none, every_fourth-more, length-every_fourth}
use Rattle.lr_block.proofs.restoring.are_codewords.Invariants.{AreRemainders}
use Rattle.lr_block.proofs.restoring.are_codewords.Goals as goal
use Rattle.lr_rs.specs.declared.sizes.TheConstants.{WORD_BYTES}

of_none : (block rest : List ℕ) (k : ℕ) → IsRemainderOf [] rest → IsRemainderOf (every_fourth 0 block k) rest
of_none block rest k = subst (λ bytes. IsRemainderOf bytes rest) (sym (every_fourth-none block k))

-- one byte more of a word
of_more : (block old new : List ℕ) (k count place : ℕ) → place ≡ 4 * count + k
    → ((bytes : List ℕ) → IsRemainderOf bytes old → IsRemainderOf (bytes ++ get_or block place 0 ∷ []) new)
    → IsRemainderOf (every_fourth count block k) old → IsRemainderOf (every_fourth (count + 1) block k) new
of_more block old new k count place e step r =
    subst (λ bytes. IsRemainderOf bytes new) (sym (every_fourth-more count block k place e))
    (step (every_fourth count block k) r)

pub loop-i-init : goal.loop-i-init
loop-i-init c =
    let block = c.args.block.now in
    record {
      in_first = of_none block c.new-first.result 0 c.new-first.ensures;
      in_second = of_none block c.new-second.result 1 c.new-second.ensures;
      in_third = of_none block c.new-third.result 2 c.new-third.ensures;
      in_fourth = of_none block c.new-fourth.result 3 c.new-fourth.ensures;
    }

pub loop-i-preserved : goal.loop-i-preserved
loop-i-preserved c =
    let block = c.args.block.now in
    let i = c.loop-i.i in
    let old = c.loop-i.invariant in
    record {
      in_first = of_more block c.loop-i.first c.with_byte-first.result 0 i (4 * i) (omega arith)
          c.with_byte-first.ensures old.in_first;
      in_second = of_more block c.loop-i.second c.with_byte-second.result 1 i (4 * i + 1) (omega arith)
          c.with_byte-second.ensures old.in_second;
      in_third = of_more block c.loop-i.third c.with_byte-third.result 2 i (4 * i + 2) (omega arith)
          c.with_byte-third.ensures old.in_third;
      in_fourth = of_more block c.loop-i.fourth c.with_byte-fourth.result 3 i (4 * i + 3) (omega arith)
          c.with_byte-fourth.ensures old.in_fourth;
    }

-- four tests, one for each word
all_four : (a b c d : Bool) (P : ℕ → Type 0) → (IsTrue a ↔ P 0) → (IsTrue b ↔ P 1) → (IsTrue c ↔ P 2) → (IsTrue d ↔ P 3)
    → IsTrue (((a && b) && c) && d) ↔ ((k : ℕ) → k < 4 → P k)
all_four true true true true P p q r s = (λ _. below_four P (p.0 refl) (q.0 refl) (r.0 refl) (s.0 refl), λ all. refl)
all_four false b c d P p q r s = (λ h. absurd (false≢true h), λ all. absurd (false≢true (p.1 (all 0 (omega arith)))))
all_four true false c d P p q r s = (λ h. absurd (false≢true h), λ all. absurd (false≢true (q.1 (all 1 (omega arith)))))
all_four true true false d P p q r s =
    (λ h. absurd (false≢true h), λ all. absurd (false≢true (r.1 (all 2 (omega arith)))))
all_four true true true false P p q r s =
    (λ h. absurd (false≢true h), λ all. absurd (false≢true (s.1 (all 3 (omega arith)))))

pub returns : goal.returns
returns c =
    let block = c.args.block.now in
    let whole : c.loop-i.i ≡ WORD_BYTES = omega arith in
    let rest : AreRemainders block WORD_BYTES c.loop-i.first c.loop-i.second c.loop-i.third c.loop-i.fourth =
    subst (λ count. AreRemainders block count c.loop-i.first c.loop-i.second c.loop-i.third c.loop-i.fourth)
    whole c.loop-i.invariant in
    all_four c.is_of_codeword-in_first.result c.is_of_codeword-in_second.result
    c.is_of_codeword-in_third.result c.is_of_codeword-in_fourth.result (λ k. IsCodeword (word_of block k))
    (c.is_of_codeword-in_first.ensures (word_of block 0) rest.in_first (length-every_fourth WORD_BYTES block 0))
    (c.is_of_codeword-in_second.ensures (word_of block 1) rest.in_second (length-every_fourth WORD_BYTES block 1))
    (c.is_of_codeword-in_third.ensures (word_of block 2) rest.in_third (length-every_fourth WORD_BYTES block 2))
    (c.is_of_codeword-in_fourth.ensures (word_of block 3) rest.in_fourth (length-every_fourth WORD_BYTES block 3))
