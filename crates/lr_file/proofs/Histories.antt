-- What is kept stands for the packets so far, and goes on to stand for them with one packet more.
use Rattle.std.proofs.Common.{◌≡◌, ℕ, ◌<◌, ◌≤◌, Bool, true, false, cond, eqb, leb, ◌&&◌, Option, Some, None, List, []}
use Rattle.std.proofs.Common.{◌∷◌, ◌++◌, length, map, refl, sym, ap, ◌∙◌, subst, arith}
use Rattle.std.specs.Prelude.{find, SomeIff}
use Rattle.std.specs.Option.{option_map}
use Rattle.std.proofs.lemmas.Bool.Decides.{nat_tests}
use Rattle.std.proofs.lemmas.List.{append-nil}
use Rattle.std.proofs.lemmas.List.Elements.{filter-append}
use Rattle.lr_bits.specs.File.{File}
use Rattle.lr_bits.specs.Sizes.{most_file_bytes}
use Rattle.lr_packet.specs.Verdict.{Good}
use Rattle.lr_file.specs.Files.{packets_of_key, last_stretches, bodies_of, size_of, is_file, file_from, file_at}
use Rattle.lr_file.specs.Standing.{Open, KeptFiles, AreAscending, FilesStandFor, kept_of_key, is_open, last_count}
use Rattle.lr_file.specs.Standing.{open_from}
use Rattle.lr_file.specs.Standing.{open_file}
use Rattle.lr_file.specs.Steps.{file_begun_by, open_file_with, is_next, next_open, completed_file, SetsKey, IsBuilt}
use Rattle.lr_file.specs.Steps.{IsFileOf}
use Rattle.lr_file.proofs.Stretches.{longer, find-end, is_open-end, is_file-end, is_open-one, is_file-one, concat-end}
use Rattle.lr_file.proofs.KeyLemmas.{same_key}

own : (n m : ℕ) → (eqb n n && eqb m m) ≡ true
own n m = grind (arith, nat_tests)

abbrev is_of_key : ℕ → ℕ → Good → Bool
is_of_key vc apid p = eqb p.vc vc && eqb p.apid apid

-- the packets of a key, with one packet more of it or of another
pub packets_of_key-own : (packets : List Good) (p : Good) →
    packets_of_key p.vc p.apid (packets ++ p ∷ []) ≡ packets_of_key p.vc p.apid packets ++ p ∷ []
packets_of_key-own packets p =
    filter-append (is_of_key p.vc p.apid) packets (p ∷ [])
    ∙ ap (λ (b : Bool). packets_of_key p.vc p.apid packets ++ cond b (p ∷ []) []) (own p.vc p.apid)

pub packets_of_key-other : (vc apid : ℕ) (packets : List Good) (p : Good) → is_of_key vc apid p ≡ false →
    packets_of_key vc apid (packets ++ p ∷ []) ≡ packets_of_key vc apid packets
packets_of_key-other vc apid packets p other =
    filter-append (is_of_key vc apid) packets (p ∷ [])
    ∙ ap (λ (b : Bool). packets_of_key vc apid packets ++ cond b (p ∷ []) []) other
    ∙ append-nil (packets_of_key vc apid packets)

lengths-end : (s : List Good) (p : Good) →
    map length (bodies_of (s ++ p ∷ [])) ≡ map length (bodies_of s) ++ length p.body ∷ []
lengths-end [] p = refl
lengths-end (q ∷ qs) p = ap (λ ns. length q.body ∷ ns) (lengths-end qs p)

last_count-end : (s : List Good) (p : Good) → last_count (s ++ p ∷ []) ≡ p.count
last_count-end [] p = refl
last_count-end (q ∷ []) p = refl
last_count-end (q ∷ r ∷ qs) p = last_count-end (r ∷ qs) p

open_from-end : (s : List Good) (p : Good) → open_from (s ++ p ∷ []) ≡ open_file_with (open_from s) p
open_from-end s p i = record { lengths = lengths-end s p i; bytes = concat-end s p i; count = last_count-end s p i }

open_from-one : (p : Good) → open_from (p ∷ []) ≡ file_begun_by p
open_from-one p i = record { lengths = length p.body ∷ []; bytes = append-nil p.body i; count = p.count }

and_true : (b c : Bool) → c ≡ true → (b && c) ≡ b
and_true true c h = h
and_true false c h = refl

fits : (n : ℕ) → n ≤ most_file_bytes → leb n most_file_bytes ≡ true
fits n h = grind (arith, nat_tests)

-- one packet alone is an open file, or a file, by its flags
open_alone : (p : Good) → length p.body ≤ most_file_bytes → is_open (p ∷ []) ≡ eqb p.flags 1
open_alone p short = is_open-one p ∙ and_true (eqb p.flags 1) _ (fits (length p.body) short)

file_alone : (p : Good) → length p.body ≤ most_file_bytes → is_file (p ∷ []) ≡ (eqb p.flags 3 && leb 10 (length p.body))
file_alone p short = is_file-one p ∙ and_true (eqb p.flags 3 && leb 10 (length p.body)) _ (fits (length p.body) short)

no_flags : (n k m : ℕ) → k < m → eqb n k ≡ true → eqb n m ≡ true → ⊥
no_flags n k m less h g = let e : ⊥ = grind (arith, nat_tests) in e

goes_on : (s : List Good) (p : Good) (next : Bool) →
    option_map open_from (cond next (Some (s ++ p ∷ [])) None) ≡ cond next (Some (open_file_with (open_from s) p)) None
goes_on s p true = ap Some (open_from-end s p)
goes_on s p false = refl

-- the open file of a stretch with one packet more, where there may be a stretch
longer_open : (p : Good) → length p.body ≤ most_file_bytes →
    (first between : Bool) → eqb p.flags 1 ≡ first → eqb p.flags 0 ≡ between → (o : Option (List Good)) →
    option_map open_from (longer (λ s. eqb p.flags 0 && is_next (open_from s) p) p (is_open (p ∷ [])) o) ≡
    next_open (option_map open_from o) p
longer_open p short true true f b o = absurd (no_flags p.flags 0 1 (omega arith) b f)
longer_open p short true false f b None = rw (open_alone p short, f) (ap Some (open_from-one p))
longer_open p short true false f b (Some s) = rw (open_alone p short, f, b) (ap Some (open_from-one p))
longer_open p short false true f b None = rw (open_alone p short, f, b) refl
longer_open p short false true f b (Some s) = rw (open_alone p short, f, b) (goes_on s p (is_next (open_from s) p))
longer_open p short false false f b None = rw (open_alone p short, f, b) refl
longer_open p short false false f b (Some s) = rw (open_alone p short, f, b) refl

-- the open file after one packet more of its key
open_file-own : (packets : List Good) (p : Good) → length p.body ≤ most_file_bytes →
    open_file p.vc p.apid (packets ++ p ∷ []) ≡ next_open (open_file p.vc p.apid packets) p
unfolding open_file
open_file-own packets p short =
    ap (λ ps. option_map open_from (find is_open (last_stretches ps))) (packets_of_key-own packets p)
    ∙ ap (option_map open_from) (find-end is_open (λ s. eqb p.flags 0 && is_next (open_from s) p) p
    (λ q qs. is_open-end q qs p) (packets_of_key p.vc p.apid packets))
    ∙ longer_open p short (eqb p.flags 1) (eqb p.flags 0) refl refl
    (find is_open (last_stretches (packets_of_key p.vc p.apid packets)))

open_file-other : (vc apid : ℕ) (packets : List Good) (p : Good) → is_of_key vc apid p ≡ false →
    open_file vc apid (packets ++ p ∷ []) ≡ open_file vc apid packets
unfolding open_file
open_file-other vc apid packets p other =
    ap (λ ps. option_map open_from (find is_open (last_stretches ps))) (packets_of_key-other vc apid packets p other)

least_false : (n : ℕ) → (10 ≤ n → ⊥) → leb 10 n ≡ false
least_false n h = grind (arith, nat_tests, h)

least_true : (n : ℕ) → 10 ≤ n → leb 10 n ≡ true
least_true n h = grind (arith, nat_tests)

some_iff : (file : Option File) (n : ℕ) (v : File) → SomeIff file (10 ≤ n) v → file ≡ cond (leb 10 n) (Some v) None
some_iff None n v h = rw (least_false n h) refl
some_iff (Some x) n v h = rw (least_true n h.0) (ap Some h.1)

map_cond : (vc apid : ℕ) (b : Bool) (s : List Good) →
    cond b (Some (file_from vc apid s)) None ≡ option_map (file_from vc apid) (cond b (Some s) None)
map_cond vc apid true s = refl
map_cond vc apid false s = refl

-- what is built of a stretch is its file, if it has ten bytes
built : (vc apid : ℕ) (s : List Good) (file : Option File) → 0 < length (bodies_of s) →
    IsBuilt vc apid (open_from s) file →
    file ≡ option_map (file_from vc apid) (cond (leb 10 (size_of s)) (Some s) None)
built vc apid s file some h =
    some_iff file (size_of s) (file_from vc apid s) (h (bodies_of s) some refl refl)
    ∙ map_cond vc apid (leb 10 (size_of s)) s

built_alone : (p : Good) (file : Option File) → IsBuilt p.vc p.apid (file_begun_by p) file →
    file ≡ option_map (file_from p.vc p.apid) (cond (leb 10 (length p.body)) (Some (p ∷ [])) None)
built_alone p file h =
    built p.vc p.apid (p ∷ []) file (omega arith) (subst (λ (o : Open). IsBuilt p.vc p.apid o file)
    (sym (open_from-one p)) h)
    ∙ ap (λ bs. option_map (file_from p.vc p.apid) (cond (leb 10 (length bs)) (Some (p ∷ [])) None)) (append-nil p.body)

some-end : (s : List Good) (p : Good) → 0 < length (bodies_of (s ++ p ∷ []))
some-end [] p = omega arith
some-end (q ∷ qs) p = omega arith

built_end : (s : List Good) (p : Good) (file : Option File) (next : Bool) →
    IsFileOf p (cond next (Some (open_file_with (open_from s) p)) None) file →
    file ≡ option_map (file_from p.vc p.apid) (cond (next && leb 10 (size_of (s ++ p ∷ []))) (Some (s ++ p ∷ [])) None)
built_end s p file true h =
    built p.vc p.apid (s ++ p ∷ []) file (some-end s p) (subst (λ (o : Open). IsBuilt p.vc p.apid o file)
    (sym (open_from-end s p)) h)
built_end s p file false h = h

-- the file of a stretch with one packet more, where there may be a stretch
longer_file : (p : Good) → length p.body ≤ most_file_bytes →
    (single last : Bool) → eqb p.flags 3 ≡ single → eqb p.flags 2 ≡ last →
    (o : Option (List Good)) (file : Option File) →
    IsFileOf p (completed_file (option_map open_from o) p) file →
    file ≡ option_map (file_from p.vc p.apid) (longer (λ s.
    (eqb p.flags 2 && is_next (open_from s) p) && leb 10 (size_of (s ++ p ∷ []))) p (is_file (p ∷ [])) o)
longer_file p short true true s l o file h = absurd (no_flags p.flags 2 3 (omega arith) l s)
longer_file p short true false s l None file h = rw (file_alone p short, s) (built_alone p file (rw s at h))
longer_file p short true false s l (Some t) file h = rw (file_alone p short, s, l) (built_alone p file (rw s at h))
longer_file p short false true s l None file h = rw (file_alone p short, s) (rw (s, l) at h)
longer_file p short false true s l (Some t) file h =
    rw (file_alone p short, s, l) (built_end t p file (is_next (open_from t) p) (rw (s, l) at h))
longer_file p short false false s l None file h = rw (file_alone p short, s) (rw (s, l) at h)
longer_file p short false false s l (Some t) file h = rw (file_alone p short, s, l) (rw (s, l) at h)

-- what is built of the bodies that a packet ends is the file that ends with it
pub file_at-built : (packets : List Good) (p : Good) (file : Option File) → length p.body ≤ most_file_bytes →
    IsFileOf p (completed_file (open_file p.vc p.apid packets) p) file → file ≡ file_at packets p
unfolding file_at open_file
file_at-built packets p file short h =
    longer_file p short (eqb p.flags 3) (eqb p.flags 2) refl refl
    (find is_open (last_stretches (packets_of_key p.vc p.apid packets))) file h
    ∙ sym (ap (option_map (file_from p.vc p.apid))
    (find-end is_file (λ s. (eqb p.flags 2 && is_next (open_from s) p) && leb 10 (size_of (s ++ p ∷ []))) p
    (λ q qs. is_file-end q qs p) (packets_of_key p.vc p.apid packets)))
    ∙ sym (ap (λ ps. option_map (file_from p.vc p.apid) (find is_file (last_stretches ps)))
    (packets_of_key-own packets p))

pub stands_new : (kept : KeptFiles) → kept.spent ≡ false → kept.files ≡ [] → AreAscending kept.files
    → FilesStandFor kept []
unfolding open_file kept_of_key
stands_new kept unspent none once =
    record { unspent = unspent; once = once; files = λ vc apid. ap (λ files. kept_of_key files vc apid) none }

-- what is kept of each key after one packet more
kept_next : (old new : KeptFiles) (packets : List Good) (p : Good) → length p.body ≤ most_file_bytes →
    SetsKey old.files new.files p (next_open (kept_of_key old.files p.vc p.apid) p) → FilesStandFor old packets →
    (vc apid : ℕ) (own : Bool) → is_of_key vc apid p ≡ own →
    kept_of_key new.files vc apid ≡ open_file vc apid (packets ++ p ∷ [])
kept_next old new packets p short sets h vc apid true e =
    let same = same_key p.vc vc p.apid apid e in
    sets.values vc apid
    ∙ ap (λ (b : Bool). cond b (next_open (kept_of_key old.files p.vc p.apid) p) (kept_of_key old.files vc apid)) e
    ∙ ap (λ (o : Option Open). next_open o p) (h.files p.vc p.apid)
    ∙ sym (open_file-own packets p short)
    ∙ (λ i. open_file (same.0 i) (same.1 i) (packets ++ p ∷ []))
kept_next old new packets p short sets h vc apid false e =
    sets.values vc apid
    ∙ ap (λ (b : Bool). cond b (next_open (kept_of_key old.files p.vc p.apid) p) (kept_of_key old.files vc apid)) e
    ∙ h.files vc apid
    ∙ sym (open_file-other vc apid packets p e)

pub stands_next : (old new : KeptFiles) (packets : List Good) (p : Good) → length p.body ≤ most_file_bytes →
    new.spent ≡ false →
    SetsKey old.files new.files p (next_open (kept_of_key old.files p.vc p.apid) p) → FilesStandFor old packets →
    FilesStandFor new (packets ++ p ∷ [])
stands_next old new packets p short unspent sets h =
    record {
      unspent = unspent;
      once = sets.once;
      files = λ vc apid.
          kept_next old new packets p short sets h vc apid (is_of_key vc apid p) refl;
    }
