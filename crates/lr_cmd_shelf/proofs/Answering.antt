-- Bytes have one answer; the texts that are begun are a prefix of it; and what was read on the way to it.
use Rattle.std.proofs.Common.{◌≡◌, inl, inr, ℕ, zero, suc, ◌+◌, ◌-◌, ◌<◌, ◌≤◌, Option, Some, None}
use Rattle.std.proofs.Common.{Result, Ok, Err, List, [], ◌∷◌, ◌++◌, length, refl, arith, ap, ◌∙◌}
use Rattle.std.proofs.Common.{sym, subst, append-nil, append_assoc}
use Rattle.lr_shelf_format.specs.Way.{Way}
use Rattle.lr_shelf_format.proofs.WayLemmas.{has_one_way}
use Rattle.lr_causes.specs.declared.cause.Refusal.{Refusal}
use Rattle.lr_causes.specs.declared.cause.Refusal.TheVariants.{NotAShelf}
use Rattle.lr_cmd_shelf.specs.declared.range.Range.{Range}
use Rattle.lr_cmd_shelf.specs.Queries.{Query, Answer, IsSeen, EntryView, done_answer, refused_answer}
use Rattle.lr_cmd_shelf.specs.Queries.{entry_at, fate_of, answer_of, then_rest, AnswersFrom}
use Rattle.lr_cmd_shelf.specs.Queries.{AnswersIn, AnswersOn, BegunOn, IsAnswer, IsBegun}
use Rattle.lr_cmd_shelf.specs.Queries.{without_last, query_over}
use Rattle.lr_cmd_shelf.specs.Reached.{ReachesEntry}
use Rattle.lr_cmd_shelf.specs.Sights.{SeesImages}
use Rattle.lr_cmd_shelf.proofs.Seeing.{seen_once}

-- a text was given or refused, not both
pub ok_is : {A B : Type 0} (r : Result A B) (a a' : A) → r ≡ Ok a → r ≡ Ok a' → a ≡ a'
ok_is r a a' is is' = cc (is, is')

pub err_is : {A B : Type 0} (r : Result A B) (e e' : B) → r ≡ Err e → r ≡ Err e' → e ≡ e'
err_is r e e' is is' = cc (is, is')

pub ok_or_err : {A B : Type 0} (r : Result A B) (a : A) (e : B) → r ≡ Ok a → r ≡ Err e → ⊥
ok_or_err r a e is is' = cc (is, is')

pub some_is : {A : Type 0} (a a' : A) → Some a ≡ Some a' → a ≡ a'
some_is a a' is = cc (is)

pub some_or_none : {A : Type 0} (o : Option A) (a : A) → o ≡ Some a → o ≡ None → ⊥
some_or_none o a is is' = cc (is, is')

-- ---- one answer

module _ (query : Query) (images : SeesImages query.sees) (bytes : List ℕ) (way : Way) where
  -- what becomes of what stands there
  pub fates : (read : List EntryView) (number : ℕ) (one other : Option EntryView)
      → IsSeen query.sees bytes (entry_at way number) one
      → IsSeen query.sees bytes (entry_at way number) other
      → fate_of query way read number one ≡ fate_of query way read number other
  fates read number one other is is' =
      ap (fate_of query way read number) (seen_once query.sees images bytes (entry_at way number) one other is is')

  pub from_is : (left number : ℕ) (read : List EntryView) (one other : Answer)
      → AnswersFrom (query_over query bytes way) left number read one
      → AnswersFrom (query_over query bytes way) left number read other
      → one ≡ other
  from_is zero number read one other is is' = is ∙ sym is'
  from_is (suc left) number read one other (inl a) (inl b) =
      let same = some_is a.seen b.seen
      (seen_once query.sees images bytes (entry_at way number) (Some a.seen) (Some b.seen) a.stands b.stands) in
      let text = ok_is (query.fate read number b.seen) a.text b.text
      (ap (query.fate read number) (sym same) ∙ a.fate) b.fate in
      let rest = from_is left (number + 1) (read ++ b.seen ∷ []) a.rest b.rest
      (subst (λ (f : EntryView). AnswersFrom (query_over query bytes way) left (number + 1) (read ++ f ∷ []) a.rest)
      same a.after)
      b.after in
      a.is ∙ ap (λ (t : List ℕ). then_rest t a.rest) text ∙ ap (then_rest b.text) rest ∙ sym b.is
  from_is (suc left) number read one other (inl a) (inr b) =
      absurd (ok_or_err (fate_of query way read number b.seen) a.text b.refusal
      (fates read number b.seen (Some a.seen) b.stands a.stands ∙ a.fate) b.fate)
  from_is (suc left) number read one other (inr a) (inl b) =
      absurd (ok_or_err (fate_of query way read number a.seen) b.text a.refusal
      (fates read number a.seen (Some b.seen) a.stands b.stands ∙ b.fate) a.fate)
  from_is (suc left) number read one other (inr a) (inr b) =
      let refusal = err_is (fate_of query way read number b.seen) a.refusal b.refusal
      (fates read number b.seen a.seen b.stands a.stands ∙ a.fate) b.fate in
      a.is ∙ ap (λ (r : Refusal). refused_answer [] r) refusal ∙ sym b.is

  in_is : (range : Option Range) (one other : Answer) → AnswersIn (query_over query bytes way) range one
      → AnswersIn (query_over query bytes way) range other → one ≡ other
  in_is None one other is is' = is ∙ sym is'
  in_is (Some range) one other is is' = from_is (range.to - range.from) range.from [] one other is is'

-- bytes have one answer
pub answer_is : (query : Query) → SeesImages query.sees → (bytes : List ℕ) (one other : Answer)
    → IsAnswer query bytes one → IsAnswer query bytes other → one ≡ other
answer_is query images bytes one other (inl a) (inl b) =
    a.2 ∙ ap (λ (n : ℕ). refused_answer [] (NotAShelf n)) ((has_one_way bytes).place a.0 b.0 a.1 b.1) ∙ sym b.2
answer_is query images bytes one other (inl a) (inr b) = absurd ((has_one_way bytes).none b.0 a.0 b.1 a.1)
answer_is query images bytes one other (inr a) (inl b) = absurd ((has_one_way bytes).none a.0 b.0 a.1 b.1)
answer_is query images bytes one other (inr a) (inr b) =
    in_is query images bytes b.0 (query.range (length b.0.entries)) one other
    (subst (λ (w : Way). AnswersOn (query_over query bytes w) one) ((has_one_way bytes).way a.0 b.0 a.1 b.1) a.2) b.2

-- ---- the texts that are begun

-- these bytes begin with those
abbrev pub StartsWith : List ℕ → List ℕ → Type 0
StartsWith text whole = (rest : List ℕ) × (whole ≡ text ++ rest)

module _ (query : Query) (images : SeesImages query.sees) (bytes : List ℕ) (way : Way) where
  front_from : (passed left number : ℕ) (read : List EntryView) (begun answer : Answer) → passed ≤ left
      → begun.refusal ≡ None → AnswersFrom (query_over (without_last query) bytes way) passed number read begun
      → AnswersFrom (query_over query bytes way) left number read answer → StartsWith begun.text answer.text
  front_from zero left number read begun answer few none is is' =
      (answer.text, ap (λ (a : Answer). a.text ++ answer.text) (sym is))
  front_from (suc passed) zero number read begun answer few none is is' = absurd (omega (arith, few))
  front_from (suc passed) (suc left) number read begun answer few none (inl a) (inl b) =
      let same = some_is a.seen b.seen
      (seen_once query.sees images bytes (entry_at way number) (Some a.seen) (Some b.seen) a.stands b.stands) in
      let text = ok_is (query.fate read number b.seen) a.text b.text
      (ap (query.fate read number) (sym same) ∙ a.fate) b.fate in
      let more = front_from passed left (number + 1) (read ++ b.seen ∷ []) a.rest b.rest (omega (arith, few))
      (ap (λ (x : Answer). x.refusal) (sym a.is) ∙ none)
      (subst (λ (f : EntryView). AnswersFrom (query_over (without_last query) bytes way) passed (number + 1)
      (read ++ f ∷ []) a.rest)
      same a.after) b.after in (
        more.0,
        ap (λ (x : Answer). x.text) b.is ∙ ap (λ (l : List ℕ). b.text ++ l) more.1
            ∙ sym (append_assoc b.text a.rest.text more.0)
            ∙ ap (λ (l : List ℕ). (l ++ a.rest.text) ++ more.0) (sym text)
            ∙ ap (λ (x : Answer). x.text ++ more.0) (sym a.is),
      )
  front_from (suc passed) (suc left) number read begun answer few none (inl a) (inr b) =
      absurd (ok_or_err (fate_of query way read number b.seen) a.text b.refusal
      (fates query images bytes way read number b.seen (Some a.seen) b.stands a.stands ∙ a.fate) b.fate)
  front_from (suc passed) (suc left) number read begun answer few none (inr a) is' =
      absurd (some_or_none begun.refusal a.refusal (ap (λ (x : Answer). x.refusal) a.is) none)

  front_on : (passed left : ℕ) (text : List ℕ) (answer : Answer)
      → BegunOn (query_over query bytes way) passed left text
      → AnswersOn (query_over query bytes way) answer → StartsWith text answer.text
  front_on passed left text answer begun is =
      front_from passed (begun.range.to - begun.range.from) begun.range.from []
      (done_answer text None) answer (omega (arith, begun.inside)) refl begun.texts
      (subst (λ (r : Option Range). AnswersIn (query_over query bytes way) r answer) begun.allowed is)

-- what is begun is a prefix of the answer
pub begun_front : (query : Query) → SeesImages query.sees → (bytes : List ℕ) (passed left : ℕ) (text : List ℕ)
    (answer : Answer)
    → IsBegun query bytes passed left text → IsAnswer query bytes answer → StartsWith text answer.text
begun_front query images bytes passed left text answer (inl nothing) is =
    (answer.text, ap (λ (l : List ℕ). l ++ answer.text) (sym nothing.1))
begun_front query images bytes passed left text answer (inr begun) (inl none) =
    absurd ((has_one_way bytes).none begun.0 none.0 begun.1 none.1)
begun_front query images bytes passed left text answer (inr begun) (inr some) =
    front_on query images bytes some.0 passed left text answer
    (subst (λ (w : Way). BegunOn (query_over query bytes w) passed left text)
    ((has_one_way bytes).way begun.0 some.0 begun.1 some.1) begun.2)
    some.2

-- ---- what was read

module _ (query : Query) (bytes : List ℕ) (way : Way) (from : ℕ) where
  pub reaches_first : ReachesEntry (query_over query bytes way) from from [] []
  reaches_first = record { on = λ last tells to inside rest is. is }

  module _ (number : ℕ) (read : List EntryView) (text : List ℕ)
      (reaches : ReachesEntry (query_over query bytes way) from number read text)
    where
      together : (one : List ℕ) (rest : Answer)
          → then_rest text (then_rest one rest) ≡ then_rest (text ++ one) rest
      together one rest =
          ap (λ (t : List ℕ). record { text = t; refusal = rest.refusal; note = rest.note })
          (sym (append_assoc text one rest.text))

      -- one entry more
      pub reaches_more : (seen : EntryView) → IsSeen query.sees bytes (entry_at way number) (Some seen)
          → (one : List ℕ)
          → query.fate read number seen ≡ Ok one
          → ReachesEntry (query_over query bytes way) from (number + 1) (read ++ seen ∷ []) (text ++ one)
      reaches_more seen stands one fate = record {
        on = λ last tells to inside rest is.
            let left : to - number ≡ suc (to - (number + 1)) = omega (arith, inside) in
            let whole = then_rest one rest in
            subst (AnswersFrom (query_over (record query { last = last; note = tells }) bytes way) (to - from) from
            [])
            (together one rest)
            (reaches.on last tells to (omega (arith, inside)) whole
            (subst
            (λ n. AnswersFrom (query_over (record query { last = last; note = tells }) bytes way) n number read whole)
            (sym left)
            (inl (record {
              seen = seen;
              text = one;
              rest = rest;
              stands = stands;
              fate = fate;
              after = is;
              is = refl;
            }))));
      }

      -- the run is refused here
      pub refused_here : (to : ℕ) → number < to → (seen : Option EntryView) (refusal : Refusal)
          → IsSeen query.sees bytes (entry_at way number) seen → fate_of query way read number seen ≡ Err refusal
          → AnswersFrom (query_over query bytes way) (to - from) from [] (refused_answer text refusal)
      refused_here to more seen refusal stands fate =
          let left : to - number ≡ suc (to - (number + 1)) = omega (arith, more) in
          subst
          (λ (t : List ℕ). AnswersFrom (query_over query bytes way) (to - from) from []
          (refused_answer t refusal)) (append-nil text)
          (reaches.on query.last query.note to (omega (arith, more)) (refused_answer [] refusal)
          (subst (λ n. AnswersFrom (query_over query bytes way) n number read (refused_answer [] refusal)) (sym left)
          (inr (record { seen = seen; refusal = refusal; stands = stands; fate = fate; is = refl }))))

      -- the texts before this number
      pub begun_before : AnswersFrom (query_over (without_last query) bytes way) (number - from) from []
          (done_answer text None)
      begun_before =
          let none : number - number ≡ 0 = omega arith in
          subst
          (λ (t : List ℕ). AnswersFrom (query_over (without_last query) bytes way) (number - from) from []
          (done_answer t None)) (append-nil text)
          (reaches.on (λ w r. Ok []) (λ r. None) number (omega arith) (done_answer [] None)
          (subst (λ n. AnswersFrom (query_over (without_last query) bytes way) n number read (done_answer [] None))
          (sym none) refl))

      -- all were read
      pub ends_here : (to : ℕ) → number ≤ to → to ≤ number → (last : Result (List ℕ) Refusal)
          → query.last way read ≡ last
          → AnswersFrom (query_over query bytes way) (to - from) from []
          (then_rest text (answer_of last (query.note read)))
      ends_here to inside all last is =
          let none : to - number ≡ 0 = omega (arith, all) in
          reaches.on query.last query.note to (omega (arith, inside)) (answer_of last (query.note read))
          (subst (λ n. AnswersFrom (query_over query bytes way) n number read (answer_of last (query.note read)))
          (sym none)
          (ap (λ (l : Result (List ℕ) Refusal). answer_of l (query.note read)) (sym is)))
