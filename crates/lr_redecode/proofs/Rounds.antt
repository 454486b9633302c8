-- What the rounds keep, and where they end.
use Rattle.std.proofs.Common.{◌≡◌, ℕ, ℤ, zero, suc, ◌+◌, ◌<◌, ◌≤◌, ◌⊎◌, inl, inr, ⊎_elim, List, [], ◌∷◌, refl, sym, ap}
use Rattle.std.proofs.Common.{subst, ◌∙◌, arith}
use Rattle.std.specs.Prelude.{Option, Some, None, is_none}
use Rattle.std.proofs.lemmas.Bool.{true≢false}
use Rattle.std.proofs.str.Laws.{order}
use Rattle.lr_conv.specs.declared.line.LineCode.{LineCode}
use Rattle.lr_block.specs.Blocks.{word_of}
use Rattle.lr_block.specs.Outcomes.{restored_of}
use Rattle.lr_redecode.specs.Redecoded.{block_by, count_known, known_after, known_or, known_word, next}
use Rattle.lr_redecode.specs.Redecoded.{one_if_some, with_block}

-- ---- one word
grows : (a r : Option (List ℕ)) → one_if_some a ≤ one_if_some (known_or a r)
grows None r = omega arith
grows (Some w) r = omega arith

most_one : (a : Option (List ℕ)) → one_if_some a ≤ 1
most_one None = omega arith
most_one (Some w) = omega arith

same_if : (a r : Option (List ℕ)) → one_if_some (known_or a r) ≡ one_if_some a → known_or a r ≡ a
same_if (Some w) r e = refl
same_if None None e = refl
same_if None (Some w) e = absurd (omega (arith, e))

kept : (a r : Option (List ℕ)) (w : List ℕ) → a ≡ Some w → known_or a r ≡ Some w
kept a r w e = ap (λ o. known_or o r) e

-- ---- four words
abbrev pub IsFour : List (Option (List ℕ)) → Type 0
IsFour known = known ≡ known_word known 0 ∷ known_word known 1 ∷ known_word known 2 ∷ known_word known 3 ∷ []

pub with_block_is : (known : List (Option (List ℕ))) (block : List ℕ) → with_block known block ≡
    known_or (known_word known 0) (restored_of (word_of block 0))
    ∷ known_or (known_word known 1) (restored_of (word_of block 1))
    ∷ known_or (known_word known 2) (restored_of (word_of block 2))
    ∷ known_or (known_word known 3) (restored_of (word_of block 3)) ∷ []
unfolding with_block
with_block_is known block = refl

four_with : (known : List (Option (List ℕ))) (block : List ℕ) → IsFour (with_block known block)
unfolding with_block
four_with known block = refl

pub four_after : (line : LineCode) (w : List ℤ) (n : ℕ) → IsFour (known_after line w n)
four_after line w zero = refl
four_after line w (suc n) = four_with (known_after line w n) (block_by line w (known_after line w n))

pub same_four : (a b c d e f g h : Option (List ℕ)) → a ≡ e → b ≡ f → c ≡ g → d ≡ h →
    a ∷ b ∷ c ∷ d ∷ [] ≡ e ∷ f ∷ g ∷ h ∷ []
same_four a b c d e f g h p q r s = cc

module _ (known : List (Option (List ℕ))) (block : List ℕ) where
  abbrev word : ℕ → Option (List ℕ)
  word k = known_word known k

  abbrev more : ℕ → Option (List ℕ)
  more k = known_or (word k) (restored_of (word_of block k))

  count_is : count_known (with_block known block) ≡
      one_if_some (more 0) + one_if_some (more 1) + one_if_some (more 2) + one_if_some (more 3)
  count_is = ap count_known (with_block_is known block)

  count_grows : count_known known ≤ count_known (with_block known block)
  count_grows =
      omega (
        arith,
        count_is,
        grows (word 0) (restored_of (word_of block 0)),
        grows (word 1) (restored_of (word_of block 1)),
        grows (word 2) (restored_of (word_of block 2)),
        grows (word 3) (restored_of (word_of block 3)),
      )

  -- where no further word is known, nothing changed
  settled : IsFour known → count_known (with_block known block) ≡ count_known known → with_block known block ≡ known
  settled four e =
      let g0 = grows (word 0) (restored_of (word_of block 0)) in
      let g1 = grows (word 1) (restored_of (word_of block 1)) in
      let g2 = grows (word 2) (restored_of (word_of block 2)) in
      let g3 = grows (word 3) (restored_of (word_of block 3)) in
      let c = count_is in
      with_block_is known block
      ∙ same_four (more 0) (more 1) (more 2) (more 3) (word 0) (word 1) (word 2) (word 3)
      (same_if (word 0) _ (omega arith))
      (same_if (word 1) _ (omega arith))
      (same_if (word 2) _ (omega arith))
      (same_if (word 3) _ (omega arith))
      ∙ sym four

  count_most : count_known known ≤ 4
  count_most = omega (arith, most_one (word 0), most_one (word 1), most_one (word 2), most_one (word 3))

  more_most : count_known (with_block known block) ≤ 4
  more_most = omega (arith, count_is, most_one (more 0), most_one (more 1), most_one (more 2), most_one (more 3))

  -- nor where all are known
  full : IsFour known → 4 ≤ count_known known → with_block known block ≡ known
  full four e = settled four (omega (arith, count_grows, more_most))

  kept_with : (k : ℕ) (w : List ℕ) → IsFour known → known_word known k ≡ Some w →
      known_word (with_block known block) k ≡ Some w
  unfolding with_block
  kept_with zero w four e = kept _ _ w e
  kept_with (suc zero) w four e = kept _ _ w e
  kept_with (suc (suc zero)) w four e = kept _ _ w e
  kept_with (suc (suc (suc zero))) w four e = kept _ _ w e
  kept_with (suc (suc (suc (suc k)))) w four e =
      let none : known_word known (suc (suc (suc (suc k)))) ≡ None =
      ap (λ all. known_word all (suc (suc (suc (suc k))))) four in
      absurd (true≢false (ap is_none (sym none ∙ e)))

-- ---- the rounds
module _ (line : LineCode) (w : List ℤ) where
  abbrev after : ℕ → List (Option (List ℕ))
  after = known_after line w

  pub full_after : (n : ℕ) → 4 ≤ count_known (after n) → after (suc n) ≡ after n
  full_after n e = full (after n) (block_by line w (after n)) (four_after line w n) e

  settled_after : (n : ℕ) → count_known (after (suc n)) ≡ count_known (after n) → after (suc n) ≡ after n
  settled_after n e = settled (after n) (block_by line w (after n)) (four_after line w n) e

  more_or_fixed : (n : ℕ) → (after (suc n) ≡ after n) ⊎ (count_known (after n) < count_known (after (suc n)))
  more_or_fixed n =
      ⊎_elim
      (λ (l : count_known (after n) < count_known (after (suc n))). inr l)
      (λ (l : count_known (after (suc n)) ≤ count_known (after n)).
      inl (settled_after n (omega (arith, count_grows (after n) (block_by line w (after n))))))
      (order (count_known (after n)) (count_known (after (suc n))))

  reach : (n : ℕ) → (after (suc n) ≡ after n) ⊎ (n < count_known (after (suc n)))
  reach zero =
      ⊎_elim
      (λ (e : after 1 ≡ after 0). inl e)
      (λ (l : count_known (after 0) < count_known (after 1)). inr (omega arith))
      (more_or_fixed 0)
  reach (suc n) =
      ⊎_elim
      (λ (e : after (suc n) ≡ after n). inl (ap (next line w) e))
      (λ (l : n < count_known (after (suc n))).
      ⊎_elim
      (λ (e : after (suc (suc n)) ≡ after (suc n)). inl e)
      (λ (m : count_known (after (suc n)) < count_known (after (suc (suc n)))). inr (omega arith))
      (more_or_fixed (suc n)))
      (reach n)

  fifth : after 5 ≡ after 4
  fifth =
      ⊎_elim
      (λ (e : after 5 ≡ after 4). e)
      (λ (l : 4 < count_known (after 5)).
      absurd (omega (arith, l, more_most (after 4) (block_by line w (after 4)))))
      (reach 4)

  pub fixed : (n : ℕ) → 4 ≤ n → after n ≡ after 4
  fixed zero l = absurd (omega arith)
  fixed (suc n) l =
      ⊎_elim
      (λ (few : n < 4). let e : suc n ≡ 4 = omega arith in ap after e)
      (λ (many : 4 ≤ n). ap (next line w) (fixed n many) ∙ fifth)
      (order n 4)

  pub kept_after : (n k : ℕ) (word : List ℕ) → known_word (after n) k ≡ Some word →
      known_word (after (n + 1)) k ≡ Some word
  kept_after n k word e =
      let s : n + 1 ≡ suc n = omega arith in
      ap (λ m. known_word (after m) k) s
      ∙ kept_with (after n) (block_by line w (after n)) k word (four_after line w n) e

  -- ---- the loop: what is known after some further paths, and how many words were known before the last one
  pub record IsRound (turn before : ℕ) (known : List (Option (List ℕ))) : Type 0 where
    pub known_is : known ≡ after (turn + 1)
    pub low : before ≤ count_known known
    pub settles : count_known known ≡ before → next line w known ≡ known

  four_round : (n : ℕ) (known : List (Option (List ℕ))) → known ≡ after n → IsFour known
  four_round n known e = subst IsFour (sym e) (four_after line w n)

  later : (turn : ℕ) (known : List (Option (List ℕ))) → known ≡ after (turn + 1) →
      next line w known ≡ after (turn + 1 + 1)
  later turn known e =
      let s : suc (turn + 1) ≡ turn + 1 + 1 = omega arith in ap (next line w) e ∙ ap after s

  pub first_round : (turn before : ℕ) (known : List (Option (List ℕ))) → turn ≡ 0 → before ≡ 0 → known ≡ after 1 →
      IsRound turn before known
  first_round turn before known t b e =
      let at : turn + 1 ≡ 1 = omega arith in
      record {
        known_is = e ∙ ap after (sym at);
        low = omega arith;
        settles = λ same. ap (next line w) e
            ∙ ap (next line w) (settled_after 0 (omega (arith, ap count_known e, same))) ∙ sym e;
      }

  pub one_more : (turn before count : ℕ) (known more : List (Option (List ℕ))) → IsRound turn before known →
      count ≡ count_known known → more ≡ next line w known → IsRound (turn + 1) count more
  one_more turn before count known more r c e =
      let four = four_round (turn + 1) known r.known_is in
      record {
        known_is = e ∙ later turn known r.known_is;
        low = omega (arith, count_grows known (block_by line w known), ap count_known e, c);
        settles = λ same. ap (next line w) (e ∙ settled known (block_by line w known) four
            (omega (arith, ap count_known e, same, c))) ∙ sym e;
      }

  settled_round : (turn before : ℕ) (known : List (Option (List ℕ))) → IsRound turn before known →
      next line w known ≡ known → IsRound (turn + 1) before known
  settled_round turn before known r s =
      record { known_is = sym s ∙ later turn known r.known_is; low = r.low; settles = r.settles }

  pub no_further : (turn before : ℕ) (known : List (Option (List ℕ))) → IsRound turn before known →
      count_known known ≤ before → IsRound (turn + 1) before known
  no_further turn before known r l =
      let low = r.low in settled_round turn before known r (r.settles (omega arith))

  pub all_round : (turn before : ℕ) (known : List (Option (List ℕ))) → IsRound turn before known →
      4 ≤ count_known known → IsRound (turn + 1) before known
  all_round turn before known r l =
      settled_round turn before known r (full known (block_by line w known) (four_round (turn + 1) known r.known_is) l)
