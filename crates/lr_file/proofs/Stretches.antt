-- The stretches that end with the last packet, and what one packet more makes of them.
use Rattle.std.proofs.Common.{◌≡◌, ℕ, zero, suc, ◌+◌, ◌-◌, ◌%◌, Bool, true, false, cond, eqb, ltb, leb, ◌&&◌, Option}
use Rattle.std.proofs.Common.{Some, None, List, [], ◌∷◌, ◌++◌, length, map, refl, sym, ap, ◌∙◌, arith, length-append}
use Rattle.std.proofs.Common.{append_assoc}
use Rattle.std.specs.Prelude.{find, replicate}
use Rattle.std.specs.List.{concat}
use Rattle.std.specs.Str.{bytes_eq}
use Rattle.std.proofs.Math.Bool.{and-true, and_assoc, and-false}
use Rattle.std.proofs.lemmas.List.{append-nil}
use Rattle.lr_bits.specs.declared.sizes.TheConstants.{SEQUENCE_COUNTS}
use Rattle.lr_bits.specs.Sizes.{most_file_bodies, most_file_bytes}
use Rattle.lr_packet.specs.Verdict.{Good}
use Rattle.lr_file.specs.Files.{last_stretches, flags_of_file, are_counted_on, bodies_of, size_of, is_file}
use Rattle.lr_file.specs.Standing.{is_open, flags_of_open, last_count, open_from}
use Rattle.lr_file.specs.Steps.{is_next}
use Rattle.std.proofs.lemmas.Bool.Decides.{nat_tests}

abbrev pub flags : List Good → List ℕ
flags stretch = map (λ p. p.flags) stretch

abbrev pub counts : List Good → List ℕ
counts stretch = map (λ p. p.count) stretch

-- n zeros
abbrev pub zeros : ℕ → List ℕ
zeros n = replicate n 0

-- the flags are all 0
abbrev pub are_zeros : List Good → Bool
are_zeros stretch = bytes_eq (flags stretch) (zeros (length stretch))

-- the count of a packet follows the last one of a stretch
abbrev pub is_counted_on : List Good → Good → Bool
is_counted_on stretch p = eqb p.count ((last_count stretch + 1) % SEQUENCE_COUNTS)

flags-end : (qs : List Good) (p : Good) (k : ℕ) →
    bytes_eq (flags (qs ++ p ∷ [])) (zeros (length qs) ++ k ∷ []) ≡ (are_zeros qs && eqb p.flags k)
flags-end [] p k = and-true (eqb p.flags k)
flags-end (q ∷ qs) p k =
    ap (λ b. eqb q.flags 0 && b) (flags-end qs p k) ∙ sym (and_assoc (eqb q.flags 0) (are_zeros qs) (eqb p.flags k))

zeros-end : (n : ℕ) → zeros (suc n) ≡ zeros n ++ 0 ∷ []
zeros-end zero = refl
zeros-end (suc n) = ap (λ zs. 0 ∷ zs) (zeros-end n)

length-end : (qs : List Good) (p : Good) → length (qs ++ p ∷ []) ≡ suc (length qs)
length-end [] p = refl
length-end (q ∷ qs) p = ap suc (length-end qs p)

open_flags : (q : Good) (qs : List Good) →
    bytes_eq (flags (q ∷ qs)) (flags_of_open (length (q ∷ qs))) ≡ (eqb q.flags 1 && are_zeros qs)
open_flags q qs =
    let less : suc (length qs) - 1 ≡ length qs = omega arith in
    ap (λ n. eqb q.flags 1 && bytes_eq (flags qs) (zeros n)) less

are_zeros-end : (qs : List Good) (p : Good) → are_zeros (qs ++ p ∷ []) ≡ (are_zeros qs && eqb p.flags 0)
are_zeros-end qs p =
    ap (λ n. bytes_eq (flags (qs ++ p ∷ [])) (zeros n)) (length-end qs p)
    ∙ ap (λ zs. bytes_eq (flags (qs ++ p ∷ [])) zs) (zeros-end (length qs))
    ∙ flags-end qs p 0

open_flags-end : (q : Good) (qs : List Good) (p : Good) →
    bytes_eq (flags (q ∷ qs ++ p ∷ [])) (flags_of_open (length (q ∷ qs ++ p ∷ []))) ≡
    ((eqb q.flags 1 && are_zeros qs) && eqb p.flags 0)
open_flags-end q qs p =
    open_flags q (qs ++ p ∷ []) ∙ ap (λ b. eqb q.flags 1 && b) (are_zeros-end qs p)
    ∙ sym (and_assoc (eqb q.flags 1) (are_zeros qs) (eqb p.flags 0))

file_flags-end : (q : Good) (qs : List Good) (p : Good) →
    bytes_eq (flags (q ∷ qs ++ p ∷ [])) (flags_of_file (length (q ∷ qs ++ p ∷ []))) ≡
    ((eqb q.flags 1 && are_zeros qs) && eqb p.flags 2)
file_flags-end q qs p =
    let long = length-end qs p in
    let not_one : eqb (suc (length (qs ++ p ∷ []))) 1 ≡ false = grind (arith, nat_tests, long) in
    let less : suc (length (qs ++ p ∷ [])) - 2 ≡ length qs = omega (arith, long) in
    ap (λ (b : Bool). bytes_eq (flags (q ∷ qs ++ p ∷ []))
    (cond b (3 ∷ []) ((1 ∷ zeros (suc (length (qs ++ p ∷ [])) - 2)) ++ (2 ∷ [])))) not_one
    ∙ ap (λ n. bytes_eq (flags (q ∷ qs ++ p ∷ [])) ((1 ∷ zeros n) ++ (2 ∷ []))) less
    ∙ ap (λ b. eqb q.flags 1 && b) (flags-end qs p 2)
    ∙ sym (and_assoc (eqb q.flags 1) (are_zeros qs) (eqb p.flags 2))

counted-end : (q : Good) (qs : List Good) (p : Good) →
    are_counted_on (counts (q ∷ qs ++ p ∷ [])) ≡ (are_counted_on (counts (q ∷ qs)) && is_counted_on (q ∷ qs) p)
counted-end q [] p = and-true (eqb p.count ((q.count + 1) % SEQUENCE_COUNTS))
counted-end q (r ∷ qs) p =
    let here = eqb r.count ((q.count + 1) % SEQUENCE_COUNTS) in
    ap (λ b. here && b) (counted-end r qs p) ∙ sym (and_assoc here (are_counted_on (counts (r ∷ qs)))
    (is_counted_on (r ∷ qs) p))

pub length-bodies : (s : List Good) → length (map length (bodies_of s)) ≡ length s
length-bodies [] = refl
length-bodies (q ∷ qs) = ap suc (length-bodies qs)

pub concat-end : (s : List Good) (p : Good) → concat (bodies_of (s ++ p ∷ [])) ≡ concat (bodies_of s) ++ p.body
concat-end [] p = append-nil p.body
concat-end (q ∷ qs) p =
    ap (λ bs. q.body ++ bs) (concat-end qs p) ∙ sym (append_assoc q.body (concat (bodies_of qs)) p.body)

pub size-end : (s : List Good) (p : Good) → size_of (s ++ p ∷ []) ≡ size_of s + length p.body
size-end s p = ap length (concat-end s p) ∙ length-append (concat (bodies_of s)) p.body

pub and_left : (a b : Bool) → (a && b) ≡ true → a ≡ true
and_left true b h = refl
and_left false b h = h

pub and_right : (a b : Bool) → (a && b) ≡ true → b ≡ true
and_right true b h = h
and_right false b h = cc

-- The tests of an open file and one packet more, in two orders. The limits with the packet imply those without.
open_tests : (flag counted few most z f few' most' : Bool) → (few' ≡ true → few ≡ true) → (most' ≡ true → most ≡ true) →
    ((((flag && z) && (counted && f)) && few') && most') ≡
    ((((flag && counted) && few) && most) && (z && ((f && few') && most')))
open_tests true true few most true true true true h g =
    sym (ap (λ (b : Bool). (b && most) && true) (h refl) ∙ ap (λ (b : Bool). b && true) (g refl))
open_tests true true few most true true true false h g = sym (and-false (few && most))
open_tests true true few most true true false most' h g = sym (and-false (few && most))
open_tests true true few most true false few' most' h g = sym (and-false (few && most))
open_tests true true few most false f few' most' h g = sym (and-false (few && most))
open_tests true false few most z f few' most' h g = ap (λ (b : Bool). (b && few') && most') (and-false z)
open_tests false counted few most z f few' most' h g = refl

-- the same with one test more
file_tests : (flag counted few most z f few' most' least : Bool) → (few' ≡ true → few ≡ true) →
    (most' ≡ true → most ≡ true) →
    (((((flag && z) && (counted && f)) && few') && least) && most') ≡
    ((((flag && counted) && few) && most) && ((z && ((f && few') && most')) && least))
file_tests flag counted few most z f few' most' true h g =
    ap (λ (b : Bool). b && most') (and-true (((flag && z) && (counted && f)) && few'))
    ∙ open_tests flag counted few most z f few' most' h g
    ∙ ap (λ (b : Bool). (((flag && counted) && few) && most) && b) (sym (and-true (z && ((f && few') && most'))))
file_tests flag counted few most z f few' most' false h g =
    ap (λ (b : Bool). b && most') (and-false (((flag && z) && (counted && f)) && few'))
    ∙ sym (ap (λ (b : Bool). (((flag && counted) && few) && most) && b) (and-false (z && ((f && few') && most')))
    ∙ and-false (((flag && counted) && few) && most))

few_before : (n : ℕ) → ltb n most_file_bodies ≡ true → leb n most_file_bodies ≡ true
few_before n h = grind (arith, nat_tests)

most_before : (n m : ℕ) → leb (n + m) most_file_bytes ≡ true → leb n most_file_bytes ≡ true
most_before n m h = grind (arith, nat_tests)

few-end : (q : Good) (qs : List Good) (p : Good) →
    leb (length (q ∷ qs ++ p ∷ [])) most_file_bodies ≡ ltb (length (map length (bodies_of (q ∷ qs)))) most_file_bodies
few-end q qs p =
    ap (λ n. leb (suc n) most_file_bodies) (length-end qs p) ∙
    ap (λ n. ltb n most_file_bodies) (sym (length-bodies (q ∷ qs)))

few_earlier : (q : Good) (qs : List Good) → ltb (length (map length (bodies_of (q ∷ qs)))) most_file_bodies ≡ true →
    leb (length (q ∷ qs)) most_file_bodies ≡ true
few_earlier q qs h = few_before (length (q ∷ qs)) (ap (λ n. ltb n most_file_bodies) (sym (length-bodies (q ∷ qs))) ∙ h)

-- an open file and one packet more is an open file, where that goes on with it
pub is_open-end : (q : Good) (qs : List Good) (p : Good) →
    is_open (q ∷ qs ++ p ∷ []) ≡ (is_open (q ∷ qs) && (eqb p.flags 0 && is_next (open_from (q ∷ qs)) p))
unfolding is_open is_next
is_open-end q qs p =
    let flag = eqb q.flags 1 && are_zeros qs in
    let counted = are_counted_on (counts (q ∷ qs)) in
    let few = leb (length (q ∷ qs)) most_file_bodies in
    let most = leb (size_of (q ∷ qs)) most_file_bytes in
    let few' = ltb (length (map length (bodies_of (q ∷ qs)))) most_file_bodies in
    let most' = leb (size_of (q ∷ qs) + length p.body) most_file_bytes in
    let tests : Bool = (eqb p.flags 0 && ((is_counted_on (q ∷ qs) p && few') && most')) in
    (λ i. ((open_flags-end q qs p i && counted-end q qs p i) && few-end q qs p i) && leb
    (size-end (q ∷ qs) p i) most_file_bytes)
    ∙ open_tests flag counted few most (eqb p.flags 0) (is_counted_on (q ∷ qs) p) few' most' (few_earlier q qs)
    (most_before (size_of (q ∷ qs)) (length p.body))
    ∙ ap (λ (b : Bool). (((b && counted) && few) && most) && tests) (sym (open_flags q qs))

-- an open file and one packet more is a file, where that ends it
pub is_file-end : (q : Good) (qs : List Good) (p : Good) →
    is_file (q ∷ qs ++ p ∷ []) ≡ (is_open (q ∷ qs) && ((eqb p.flags 2 && is_next (open_from (q ∷ qs)) p) && leb 10
    (size_of (q ∷ qs ++ p ∷ []))))
unfolding is_open is_next is_file
is_file-end q qs p =
    let flag = eqb q.flags 1 && are_zeros qs in
    let counted = are_counted_on (counts (q ∷ qs)) in
    let few = leb (length (q ∷ qs)) most_file_bodies in
    let most = leb (size_of (q ∷ qs)) most_file_bytes in
    let few' = ltb (length (map length (bodies_of (q ∷ qs)))) most_file_bodies in
    let most' = leb (size_of (q ∷ qs) + length p.body) most_file_bytes in
    let least = leb 10 (size_of (q ∷ qs ++ p ∷ [])) in
    let tests : Bool = ((eqb p.flags 2 && ((is_counted_on (q ∷ qs) p && few') && most')) && least) in
    (λ i. (((file_flags-end q qs p i && counted-end q qs p i) && few-end q qs p i) && least) && leb
    (size-end (q ∷ qs) p i) most_file_bytes)
    ∙ file_tests flag counted few most (eqb p.flags 2) (is_counted_on (q ∷ qs) p) few' most' least (few_earlier q qs)
    (most_before (size_of (q ∷ qs)) (length p.body))
    ∙ ap (λ (b : Bool). (((b && counted) && few) && most) && tests) (sym (open_flags q qs))

-- one packet alone
pub is_open-one : (p : Good) → is_open (p ∷ []) ≡ (eqb p.flags 1 && leb (length p.body) most_file_bytes)
unfolding is_open
is_open-one p =
    ap (λ bs. (((eqb p.flags 1 && true) && true) && true) && leb (length bs) most_file_bytes) (append-nil p.body)
    ∙ ap (λ (b : Bool). b && leb (length p.body) most_file_bytes) (and-true _ ∙ and-true _ ∙ and-true (eqb p.flags 1))

pub is_file-one : (p : Good) →
    is_file (p ∷ []) ≡ ((eqb p.flags 3 && leb 10 (length p.body)) && leb (length p.body) most_file_bytes)
unfolding is_file
is_file-one p =
    ap (λ bs. ((((eqb p.flags 3 && true) && true) && true) && leb 10 (length bs)) && leb (length bs) most_file_bytes)
    (append-nil p.body)
    ∙ ap (λ (b : Bool). (b && leb 10 (length p.body)) && leb (length p.body) most_file_bytes)
    (and-true _ ∙ and-true _ ∙ and-true (eqb p.flags 3))

-- a stretch that doesn't begin with flags 1 is no open file
pub not_open : (q : Good) (qs : List Good) → eqb q.flags 1 ≡ false → is_open (q ∷ qs) ≡ false
unfolding is_open
not_open q qs h =
    ap (λ (b : Bool). ((b && are_counted_on (counts (q ∷ qs))) && leb (length (q ∷ qs)) most_file_bodies) && leb
    (size_of (q ∷ qs)) most_file_bytes)
    (open_flags q qs ∙ ap (λ (b : Bool). b && are_zeros qs) h)

-- after the first packet of an open file the flags are 0
pub zeros_behind : (q : Good) (qs : List Good) → is_open (q ∷ qs) ≡ true → are_zeros qs ≡ true
unfolding is_open
zeros_behind q qs h =
    and_right (eqb q.flags 1) (are_zeros qs)
    (sym (open_flags q qs) ∙ and_left _ _ (and_left _ _ (and_left _ _ h)))

pub begun_by_one : (q : Good) → eqb q.flags 0 ≡ true → eqb q.flags 1 ≡ false
begun_by_one q h = grind (arith, nat_tests)

-- where the flags are 0 no stretch is open
none_open : (qs : List Good) → are_zeros qs ≡ true → find is_open (last_stretches qs) ≡ None
none_open [] h = refl
none_open (q ∷ qs) h =
    rw (not_open q qs (begun_by_one q (and_left _ _ h))) (none_open qs (and_right _ _ h))

-- the stretch with one packet more, or the packet alone
abbrev pub longer : (List Good → Bool) → Good → Bool → Option (List Good) → Option (List Good)
longer Q p alone None = cond alone (Some (p ∷ [])) None
longer Q p alone (Some s) = cond (Q s) (Some (s ++ p ∷ [])) (cond alone (Some (p ∷ [])) None)

-- a step of `find-end`, by cases on the longest stretch
turn : (P Q : List Good → Bool) (p x : Good) (xs : List Good) (o k : Bool) →
    is_open (x ∷ xs) ≡ o → Q (x ∷ xs) ≡ k → P (x ∷ xs ++ p ∷ []) ≡ (o && k) →
    find P (last_stretches (xs ++ p ∷ [])) ≡ longer Q p (P (p ∷ [])) (find is_open (last_stretches xs)) →
    find P (last_stretches (x ∷ xs ++ p ∷ [])) ≡ longer Q p (P (p ∷ [])) (find is_open (last_stretches (x ∷ xs)))
turn P Q p x xs true true o k both below = rw (both, o, k) refl
turn P Q p x xs true false o k both below =
    let none = none_open xs (zeros_behind x xs o) in
    rw (both, o, k) (below ∙ ap (longer Q p (P (p ∷ []))) none)
turn P Q p x xs false k' o k both below = rw (both, o) below

-- The first stretch that passes a test of an open file and one packet more is the one open file with it, or else the
-- packet alone.
pub find-end : (P Q : List Good → Bool) (p : Good) →
    ((q : Good) (qs : List Good) → P (q ∷ qs ++ p ∷ []) ≡ (is_open (q ∷ qs) && Q (q ∷ qs))) →
    (ps : List Good) →
    find P (last_stretches (ps ++ p ∷ [])) ≡ longer Q p (P (p ∷ [])) (find is_open (last_stretches ps))
find-end P Q p each [] = refl
find-end P Q p each (x ∷ xs) =
    turn P Q p x xs (is_open (x ∷ xs)) (Q (x ∷ xs)) refl refl (each x xs) (find-end P Q p each xs)
