-- The packets since the latest one that begins a file, their bodies and how many bytes they have.
use Rattle.std.proofs.Common.{◌≡◌, ℕ, ◌+◌, Bool, true, false, cond, eqb}
use Rattle.std.proofs.Common.{◌&&◌}
use Rattle.std.proofs.Common.{◌||◌, List, [], ◌∷◌, ◌++◌, length, refl, ap, ◌∙◌}
use Rattle.std.proofs.Common.{arith, length-append}
use Rattle.std.specs.List.{concat, fold}
use Rattle.std.proofs.lemmas.List.{append-nil}
use Rattle.std.proofs.lemmas.List.Elements.{filter-append}
use Rattle.std.proofs.lemmas.List.Sums.{fold-append}
use Rattle.lr_packet.specs.Verdict.{Good}
use Rattle.lr_file.specs.Files.{bodies_of, packets_of_key, size_of}
use Rattle.lr_mend.specs.Mending.{begins_file}
use Rattle.lr_mend.proofs.FewFillers.{same_self}
use Rattle.lr_laws.specs.SentImages.{since_and, since_beginning as since}

abbrev pub is_of_key : ℕ → ℕ → Good → Bool
is_of_key vc apid p = eqb p.vc vc && eqb p.apid apid

-- ---- the packets since the latest beginning

pub since-one : (vc apid : ℕ) (ps : List Good) (p : Good) (own : Bool) → is_of_key vc apid p ≡ own →
    since vc apid (ps ++ p ∷ []) ≡ cond own (since_and (since vc apid ps) p) (since vc apid ps)
since-one vc apid ps p true is =
    ap (fold since_and []) (filter-append (is_of_key vc apid) ps (p ∷ [])
    ∙ ap (λ (b : Bool). packets_of_key vc apid ps ++ cond b (p ∷ []) []) is)
    ∙ fold-append since_and [] (packets_of_key vc apid ps) (p ∷ [])
since-one vc apid ps p false is =
    ap (fold since_and []) (filter-append (is_of_key vc apid) ps (p ∷ [])
    ∙ ap (λ (b : Bool). packets_of_key vc apid ps ++ cond b (p ∷ []) []) is
    ∙ append-nil (packets_of_key vc apid ps))

pub since-own : (ps : List Good) (p : Good) → since p.vc p.apid (ps ++ p ∷ []) ≡ since_and (since p.vc p.apid ps) p
since-own ps p = since-one p.vc p.apid ps p true (same_self p.vc p.apid)

pub first_begins : (p : Good) → eqb p.flags 1 ≡ true → begins_file p ≡ true
first_begins p one = ap (λ (b : Bool). b || eqb p.flags 3) one

pub only_begins : (p : Good) → eqb p.flags 3 ≡ true → begins_file p ≡ true
only_begins p three = ap (λ (b : Bool). eqb p.flags 1 || b) three ∙ or_true (eqb p.flags 1)
  where
    or_true : (b : Bool) → (b || true) ≡ true
    or_true true = refl
    or_true false = refl

-- ---- how many bytes they have

pub size_of-append : (xs ys : List Good) → size_of (xs ++ ys) ≡ size_of xs + size_of ys
size_of-append [] ys = omega arith
size_of-append (x ∷ xs) ys =
    omega (
      arith,
      size_of-append xs ys,
      length-append x.body (concat (bodies_of (xs ++ ys))),
      length-append x.body (concat (bodies_of xs)),
    )

pub size_of-one : (p : Good) → size_of (p ∷ []) ≡ length p.body
size_of-one p = ap length (append-nil p.body)

pub filler_begins_none : (b : Bool) → (eqb (cond b 2 0) 1 || eqb (cond b 2 0) 3) ≡ false
filler_begins_none true = refl
filler_begins_none false = refl
