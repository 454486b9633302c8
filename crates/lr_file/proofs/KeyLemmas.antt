-- What a map of open files keeps of a channel and application, and what a write to it does.
use Rattle.std.proofs.Common.{◌≡◌, ℕ, Bool, true, false, cond, eqb, ◌&&◌, Option, Some, None, List, refl, sym, ap, ◌∙◌}
use Rattle.std.proofs.Common.{subst, arith}
use Rattle.std.proofs.lemmas.Bool.Decides.{nat_tests}
use Rattle.std.specs.Prelude.{IsSome, Result, Ok, Err, OnOk, IfOk, is_err}
use Rattle.std.specs.BTreeMap.{BTreeMap, WritesThrough, get, is_at}
use Rattle.std.specs.Map.{lookup}
use Rattle.std.specs.Cmp.{tied_then, unsigned_tied}
use Rattle.std.specs.Ordering.{nat_cmp}
use Rattle.lr_packet.specs.Verdict.{Good}
use Rattle.lr_file.specs.Standing.{Open, AreAscending, key_cmp, kept_of_key}
use Rattle.lr_file.specs.Steps.{SetsKey, continued_file, is_next, open_file_with}
use Rattle.lr_file.proofs.Stretches.{and_left, and_right}

-- a key is found where both its numbers agree
pub is_at-key : (x y : ℕ × ℕ) → is_at (key_cmp x) y ≡ (eqb x.0 y.0 && eqb x.1 y.1)
is_at-key x y =
    sym (tied_then (nat_cmp x.0 y.0) (nat_cmp x.1 y.1)) ∙ (λ i. unsigned_tied x.0 y.0 i && unsigned_tied x.1 y.1 i)

pub get-kept : {V : Type 0} (files : BTreeMap (ℕ × ℕ) V) (vc apid : ℕ) →
    get key_cmp files (vc, apid) ≡ kept_of_key files.entries vc apid
unfolding kept_of_key
get-kept files vc apid i = lookup (λ key. is_at-key (vc, apid) key i) files.entries

-- a write at a key sets the file of this key and leaves the others
pub sets_key : {V : Type 0} (old new : BTreeMap (ℕ × ℕ) V) (packet : Good) (file : Option V) →
    ((q : ℕ × ℕ) → get key_cmp new q ≡ cond (is_at (key_cmp (packet.vc, packet.apid)) q) file (get key_cmp old q)) →
    AreAscending new.entries → SetsKey old.entries new.entries packet file
sets_key {V} old new packet file writes once =
    record {
      once = once;
      values = λ vc apid.
          sym (get-kept new vc apid) ∙ writes (vc, apid)
          ∙ (λ i. cond (is_at-key (packet.vc, packet.apid) (vc, apid) i) file (get-kept old vc apid i));
    }

-- the same, where another value was written at the key before
pub sets_key_again : {V : Type 0} (old between new : BTreeMap (ℕ × ℕ) V) (packet : Good) (first : Option V)
    (file : Option V) →
    ((q : ℕ × ℕ) → get key_cmp between q ≡ cond (is_at (key_cmp (packet.vc, packet.apid)) q) first
    (get key_cmp old q)) →
    ((q : ℕ × ℕ) → get key_cmp new q ≡ cond (is_at (key_cmp (packet.vc, packet.apid)) q) file (get key_cmp between q)) →
    AreAscending new.entries → SetsKey old.entries new.entries packet file
sets_key_again {V} old between new packet first file before writes once =
    let over : (b : Bool) (o : Option V) → cond b file (cond b first o) ≡ cond b file o =
    λ b o. elim b as (λ b. cond b file (cond b first o) ≡ cond b file o) [ true ↦ refl | false ↦ refl ] in
    sets_key old new packet file (λ q.
    writes q ∙ ap (λ o. cond (is_at (key_cmp (packet.vc, packet.apid)) q) file o) (before q)
    ∙ over (is_at (key_cmp (packet.vc, packet.apid)) q) (get key_cmp old q)) once

pub same_key : (n m k l : ℕ) → (eqb n m && eqb k l) ≡ true → (n ≡ m) × (k ≡ l)
same_key n m k l h =
    let first = and_left (eqb n m) (eqb k l) h in
    let second = and_right (eqb n m) (eqb k l) h in
    let e : n ≡ m = grind (arith, nat_tests, first) in
    let f : k ≡ l = grind (arith, nat_tests, second) in
    (e, f)

kept_none : {V : Type 0} (files : List ((ℕ × ℕ) × V)) (packet : Good) (vc apid : ℕ) (own : Bool) →
    (eqb packet.vc vc && eqb packet.apid apid) ≡ own →
    kept_of_key files packet.vc packet.apid ≡ None → kept_of_key files vc apid
    ≡ cond own None (kept_of_key files vc apid)
kept_none files packet vc apid true e none =
    let same = same_key packet.vc vc packet.apid apid e in
    sym (λ i. kept_of_key files (same.0 i) (same.1 i)) ∙ none
kept_none files packet vc apid false e none = refl

-- where there is no open file, none is set by nothing
pub unsets_key : {V : Type 0} (old new : BTreeMap (ℕ × ℕ) V) (packet : Good) → new ≡ old → AreAscending old.entries →
    kept_of_key old.entries packet.vc packet.apid ≡ None → SetsKey old.entries new.entries packet None
unsets_key {V} old new packet same once none =
    record {
      once = subst (λ (files : BTreeMap (ℕ × ℕ) V). AreAscending files.entries) (sym same) once;
      values = λ vc apid.
          ap (λ (files : BTreeMap (ℕ × ℕ) V). kept_of_key files.entries vc apid) same
          ∙ kept_none old.entries packet vc apid (eqb packet.vc vc && eqb packet.apid apid) refl none;
    }

-- what goes on of an open file, and of none
pub continued_file-some : (kept : Option Open) (file : Open) (packet : Good) → kept ≡ Some file →
    is_next file packet ≡ true → continued_file kept packet ≡ Some (open_file_with file packet)
continued_file-some kept file packet e next = rw (e, next) refl

pub continued_file-dropped : (kept : Option Open) (file : Open) (packet : Good) → kept ≡ Some file →
    is_next file packet ≡ false → continued_file kept packet ≡ None
continued_file-dropped kept file packet e next = rw (e, next) refl

pub continued_file-none : (kept : Option Open) (packet : Good) → kept ≡ None → continued_file kept packet ≡ None
continued_file-none kept packet e = rw e refl

-- a value written where there was one
pub written : {V : Type 0} (old new : BTreeMap (ℕ × ℕ) V) (key : ℕ × ℕ) (before after : V) →
    Some before ≡ get key_cmp old key →
    WritesThrough key_cmp (key_cmp key) old after new → (q : ℕ × ℕ) →
    get key_cmp new q ≡ cond (is_at (key_cmp key) q) (Some after) (get key_cmp old q)
written {V} old new key before after found writes = (writes.3 (subst (IsSome {T = V}) found refl)).0

-- what follows of an `Ok`
pub on_ok : {T E P Q : Type 0} (r : Result T E) → (is_err r ≡ false → P → Q) → OnOk r P → OnOk r Q
on_ok (Ok x) f h = f refl h
on_ok (Err e) f h = h

pub if_ok : {T E : Type 0} {P Q : T → Type 0} (r : Result T E) → ((x : T) → P x → Q x) → IfOk r P → IfOk r Q
if_ok (Ok x) f h = f x h
if_ok (Err e) f h = h
