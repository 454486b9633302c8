-- The packets of a file that was sent: their flags and counts, and which of them came.
use Rattle.std.proofs.Common.{◌≡◌, ℕ, suc, ◌+◌, ◌%◌, ◌<◌, true, false, eqb, leb, ◌&&◌, ◌||◌, List, [], ◌∷◌, ◌++◌}
use Rattle.std.proofs.Common.{length, refl, sym, ap, ◌∙◌, subst, arith, append_assoc, ◌⊎◌, inl, inr}
use Rattle.std.specs.Prelude.{All}
use Rattle.std.proofs.lemmas.Bool.Decides.{nat_tests}
use Rattle.std.proofs.lemmas.List.{append-nil}
use Rattle.lr_bits.specs.declared.sizes.TheConstants.{SEQUENCE_COUNTS}
use Rattle.lr_packet.specs.Verdict.{Good}
use Rattle.lr_file.specs.Files.{is_file, size_of}
use Rattle.lr_file.specs.Standing.{is_open, last_count, open_from}
use Rattle.lr_file.specs.Steps.{is_next}
use Rattle.lr_file.proofs.Stretches.{and_left, and_right, is_file-end, is_file-one, is_open-end, is_open-one}
use Rattle.lr_mend.specs.Mending.{begins_file}
use Rattle.lr_mend.proofs.StayingFiles.{follows}
use Rattle.lr_laws.specs.SentImages.{Came, first_came, then_came}
use Rattle.lr_laws.proofs.SinceBeginning.{first_begins, only_begins}

-- ---- each of a list

abbrev pub EachOf : (Good → Type 0) → List Good → Type 0
EachOf P [] = Unit {0}
EachOf P (p ∷ ps) = P p × EachOf P ps

pub each_of : (P : Good → Type 0) (ps : List Good) → All P ps → EachOf P ps
each_of P [] all = tt
each_of P (p ∷ ps) all = (all 0 p (omega arith), each_of P ps (λ k d inside. all (suc k) d (omega (arith, inside))))

pub each_front : (P : Good → Type 0) (ps qs : List Good) → EachOf P (ps ++ qs) → EachOf P ps
each_front P [] qs each = tt
each_front P (p ∷ ps) qs each = (each.0, each_front P ps qs each.1)

pub each_back : (P : Good → Type 0) (ps qs : List Good) → EachOf P (ps ++ qs) → EachOf P qs
each_back P [] qs each = each
each_back P (p ∷ ps) qs each = each_back P ps qs each.1

-- ---- ends of lists

nothing_ends : (p : Good) (ps qs : List Good) → [] ≡ (ps ++ (p ∷ qs)) → ⊥
nothing_ends p [] qs e = cc
nothing_ends p (q ∷ ps) qs e = cc

pub same_ends : (xs ys : List Good) (p q : Good) → xs ++ p ∷ [] ≡ ys ++ q ∷ [] → (xs ≡ ys) × (p ≡ q)
same_ends [] [] p q e = (refl, (let h : p ≡ q = cc in h))
same_ends [] (y ∷ ys) p q e = let h : [] ≡ ys ++ q ∷ [] = cc in absurd (nothing_ends q ys [] h)
same_ends (x ∷ xs) [] p q e =
    let h : xs ++ p ∷ [] ≡ [] = cc in absurd (nothing_ends p xs [] (sym h))
same_ends (x ∷ xs) (y ∷ ys) p q e =
    let h : x ≡ y = cc in
    let it = same_ends xs ys p q (let g : xs ++ p ∷ [] ≡ ys ++ q ∷ [] = cc in g) in
    ((λ i. h i ∷ it.0 i), it.1)

pub last_count-end : (s : List Good) (p : Good) → last_count (s ++ p ∷ []) ≡ p.count
last_count-end [] p = refl
last_count-end (q ∷ []) p = refl
last_count-end (q ∷ r ∷ qs) p = last_count-end (r ∷ qs) p

-- ---- what came last

pub record Before (all came : List Good) (p : Good) : Type 0 where
  pub sent : List Good
  pub missing : List Good
  pub is : all ≡ sent ++ (missing ++ p ∷ [])
  pub before : Came sent came
  pub few : length missing < SEQUENCE_COUNTS

pub came_last : (all came : List Good) → Came all came → (xs : List Good) (p : Good) → came ≡ xs ++ p ∷ [] →
    ((all ≡ p ∷ []) × (xs ≡ [])) ⊎ Before all xs p
came_last _ _ (first_came q) xs p e =
    let same = same_ends [] xs q p e in
    inl ((λ i. same.1 i ∷ []), sym same.0)
came_last _ _ (then_came sent came missing q before few) xs p e =
    let same = same_ends came xs q p e in
    inr (record {
      sent = sent;
      missing = missing;
      is = ap (λ (r : Good). sent ++ (missing ++ r ∷ [])) same.1;
      before = subst (λ (ps : List Good). Came sent ps) same.0 before;
      few = few;
    })

pub came_none : (all came : List Good) → Came all came → came ≡ [] → ⊥
came_none _ _ (first_came q) e = cc
came_none _ _ (then_came sent came missing q before few) e = nothing_ends q came [] (sym e)

-- ---- flags and counts

flags_are : (p : Good) (n : ℕ) → eqb p.flags n ≡ true → p.flags ≡ n
flags_are p n is = grind (arith, nat_tests, is)

pub record Follows (s : List Good) (p : Good) (n : ℕ) : Type 0 where
  pub is_run : is_open s ≡ true
  pub flags : p.flags ≡ n
  pub counted : p.count ≡ (last_count s + 1) % SEQUENCE_COUNTS

open_step : (x : Good) (xs : List Good) (p : Good) → is_open (x ∷ xs ++ p ∷ []) ≡ true → Follows (x ∷ xs) p 0
open_step x xs p is =
    let both = sym (is_open-end x xs p) ∙ is in
    let on = and_right (is_open (x ∷ xs)) _ both in
    record {
      is_run = and_left (is_open (x ∷ xs)) _ both;
      flags = flags_are p 0 (and_left (eqb p.flags 0) _ on);
      counted = follows (x ∷ xs) p (and_right (eqb p.flags 0) (is_next (open_from (x ∷ xs)) p) on);
    }

file_step : (x : Good) (xs : List Good) (p : Good) → is_file (x ∷ xs ++ p ∷ []) ≡ true → Follows (x ∷ xs) p 2
file_step x xs p is =
    let both = sym (is_file-end x xs p) ∙ is in
    let on = and_left (eqb p.flags 2 && is_next (open_from (x ∷ xs)) p) (leb 10 (size_of (x ∷ xs ++ p ∷ [])))
    (and_right (is_open (x ∷ xs)) _ both) in
    record {
      is_run = and_left (is_open (x ∷ xs)) _ both;
      flags = flags_are p 2 (and_left (eqb p.flags 2) _ on);
      counted = follows (x ∷ xs) p (and_right (eqb p.flags 2) (is_next (open_from (x ∷ xs)) p) on);
    }

-- what comes before another packet of a file is open
file_open : (x : Good) (xs : List Good) (l : Good) (lost : List Good) → is_file ((x ∷ xs) ++ (l ∷ lost)) ≡ true →
    is_open (x ∷ xs) ≡ true
file_open x xs l [] is = (file_step x xs l is).is_run
file_open x xs l (m ∷ lost) is =
    (open_step x xs l (file_open x (xs ++ l ∷ []) m lost
    (ap is_file (append_assoc (x ∷ xs) (l ∷ []) (m ∷ lost)) ∙ is))).is_run

pub count_more : (c n : ℕ) →
    ((c + 1) % SEQUENCE_COUNTS + n + 1) % SEQUENCE_COUNTS ≡ (c + suc n + 1) % SEQUENCE_COUNTS
count_more c n = omega arith

pub counts_same : (c n m : ℕ) → n < SEQUENCE_COUNTS → m < SEQUENCE_COUNTS →
    (c + n + 1) % SEQUENCE_COUNTS ≡ (c + m + 1) % SEQUENCE_COUNTS → n ≡ m
counts_same c n m few less same = omega (arith, few, less, same)

-- packets between, after others
record Between (s ms : List Good) : Type 0 where
  is_run : is_open s ≡ true
  flags : EachOf (λ p. p.flags ≡ 0) ms
  counted : (last_count (s ++ ms) + 1) % SEQUENCE_COUNTS ≡ (last_count s + length ms + 1) % SEQUENCE_COUNTS

open_missing : (x : Good) (xs ms : List Good) → is_open ((x ∷ xs) ++ ms) ≡ true → Between (x ∷ xs) ms
open_missing x xs [] is =
    let none : last_count (x ∷ xs) + 1 ≡ last_count (x ∷ xs) + 0 + 1 = omega arith in
    record {
      is_run = sym (ap is_open (append-nil (x ∷ xs))) ∙ is;
      flags = tt;
      counted = ap (λ (l : List Good). (last_count l + 1) % SEQUENCE_COUNTS) (append-nil (x ∷ xs))
          ∙ ap (λ (n : ℕ). n % SEQUENCE_COUNTS) none;
    }
open_missing x xs (m ∷ ms) is =
    let later = open_missing x (xs ++ m ∷ []) ms (ap is_open (append_assoc (x ∷ xs) (m ∷ []) ms) ∙ is) in
    let here = open_step x xs m later.is_run in
    let count : last_count (x ∷ xs ++ m ∷ []) ≡ (last_count (x ∷ xs) + 1) % SEQUENCE_COUNTS =
    last_count-end (x ∷ xs) m ∙ here.counted in
    record {
      is_run = here.is_run;
      flags = (here.flags, later.flags);
      counted = ap (λ (l : List Good). (last_count l + 1) % SEQUENCE_COUNTS) (sym (append_assoc (x ∷ xs) (m ∷ []) ms))
          ∙ later.counted ∙ ap (λ (n : ℕ). (n + length ms + 1) % SEQUENCE_COUNTS) count
          ∙ count_more (last_count (x ∷ xs)) (length ms);
    }

-- the packets missing before one that came
pub record Gap (sent missing : List Good) (p : Good) : Type 0 where
  pub flags : EachOf (λ p. p.flags ≡ 0) missing
  pub counted : p.count ≡ (last_count sent + length missing + 1) % SEQUENCE_COUNTS
  pub none_begins : begins_file p ≡ false

neither : (p : Good) (n : ℕ) → p.flags ≡ n → (eqb n 1 ≡ false) × (eqb n 3 ≡ false) → begins_file p ≡ false
neither p n is none =
    let a : eqb p.flags 1 ≡ false = ap (λ k. eqb k 1) is ∙ none.0 in
    let b : eqb p.flags 3 ≡ false = ap (λ k. eqb k 3) is ∙ none.1 in
    λ i. a i || b i

gap_from : (x : Good) (xs missing : List Good) (p : Good) (n : ℕ) → (eqb n 1 ≡ false) × (eqb n 3 ≡ false) →
    Follows (x ∷ (xs ++ missing)) p n → Gap (x ∷ xs) missing p
gap_from x xs missing p n none on =
    let between = open_missing x xs missing on.is_run in
    record { flags = between.flags; counted = on.counted ∙ between.counted; none_begins = neither p n on.flags none }

pub gap_is : (x : Good) (xs missing : List Good) (p : Good) (lost : List Good) →
    is_file ((x ∷ xs) ++ (missing ++ (p ∷ lost))) ≡ true → Gap (x ∷ xs) missing p
gap_is x xs missing p [] is =
    gap_from x xs missing p 2 (refl, refl)
    (file_step x (xs ++ missing) p (ap is_file (append_assoc (x ∷ xs) missing (p ∷ [])) ∙ is))
gap_is x xs missing p (l ∷ lost) is =
    let all : ((x ∷ xs) ++ missing ++ p ∷ []) ++ (l ∷ lost) ≡ (x ∷ xs) ++ (missing ++ (p ∷ l ∷ lost)) =
    append_assoc ((x ∷ xs) ++ missing) (p ∷ []) (l ∷ lost) ∙ append_assoc (x ∷ xs) missing (p ∷ l ∷ lost) in
    gap_from x xs missing p 0 (refl, refl)
    (open_step x (xs ++ missing) p (file_open x (xs ++ missing ++ p ∷ []) l lost (ap is_file all ∙ is)))

-- a packet after which others come doesn't end the file
pub no_last : (x : Good) (xs : List Good) (p l : Good) (lost : List Good) →
    is_file ((x ∷ xs ++ p ∷ []) ++ (l ∷ lost)) ≡ true → p.flags ≡ 0
no_last x xs p l lost is = (open_step x xs p (file_open x (xs ++ p ∷ []) l lost is)).flags

-- and one after which none comes ends it
pub last_flags : (x : Good) (xs : List Good) (p : Good) → is_file (x ∷ xs ++ p ∷ []) ≡ true → p.flags ≡ 2
last_flags x xs p is = (file_step x xs p is).flags

-- the first packet begins the file
pub first_of_file : (x : Good) (xs : List Good) → is_file (x ∷ xs) ≡ true → begins_file x ≡ true
first_of_file x [] is =
    only_begins x (and_left (eqb x.flags 3) _ (and_left _ _ (sym (is_file-one x) ∙ is)))
first_of_file x (l ∷ xs) is =
    first_begins x (and_left (eqb x.flags 1) _ (sym (is_open-one x) ∙ file_open x [] l xs is))

-- and where others come after it its flags are 1
pub first_is_one : (x l : Good) (xs : List Good) → is_file (x ∷ l ∷ xs) ≡ true → x.flags ≡ 1
first_is_one x l xs is =
    flags_are x 1 (and_left (eqb x.flags 1) _ (sym (is_open-one x) ∙ file_open x [] l xs is))
