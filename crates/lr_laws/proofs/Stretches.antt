-- A file that ends with a packet is the stretch since the latest beginning.
use Rattle.std.proofs.Common.{◌≡◌, ℕ, Bool, true, false, cond, eqb, leb, ◌&&◌, Option, Some, None, List, [], ◌∷◌, ◌++◌}
use Rattle.std.proofs.Common.{length, refl, sym, ap, ◌∙◌, subst, append_assoc, inl, inr}
use Rattle.std.specs.Prelude.{◌⊎◌, find}
use Rattle.std.specs.List.{fold}
use Rattle.std.specs.Option.{option_map}
use Rattle.std.proofs.lemmas.List.{append-nil}
use Rattle.std.proofs.lemmas.List.Sums.{fold-append}
use Rattle.lr_packet.specs.Verdict.{Good}
use Rattle.lr_bits.specs.File.{File}
use Rattle.lr_bits.specs.Sizes.{most_file_bodies}
use Rattle.lr_file.specs.Files.{file_at, file_from, is_file, last_stretches, packets_of_key, size_of}
use Rattle.lr_file.specs.Standing.{is_open, open_from}
use Rattle.lr_file.specs.Steps.{is_next}
use Rattle.lr_file.proofs.Histories.{packets_of_key-own}
use Rattle.lr_file.proofs.Stretches.{and_left, and_right, is_file-one, is_open-one, longer}
use Rattle.lr_mend.specs.Mending.{begins_file}
use Rattle.lr_mend.proofs.StayingFiles.{ends, file_stretch-end, goes_on, open_stretch, open_stretch-end}
use Rattle.lr_laws.specs.SentImages.{since_and, since_beginning as since}
use Rattle.lr_laws.proofs.FirstPackets.{Grows, grows, no_beginning}
use Rattle.lr_laws.proofs.SinceBeginning.{first_begins, only_begins, since-own}

-- the packets since the latest beginning, of those of one channel and application
abbrev pub since_in : List Good → List Good
since_in qs = fold since_and [] qs

pub since_in-end : (qs : List Good) (p : Good) → since_in (qs ++ p ∷ []) ≡ since_and (since_in qs) p
since_in-end qs p = fold-append since_and [] qs (p ∷ [])

began : (qs : List Good) (p : Good) → begins_file p ≡ true → p ∷ [] ≡ since_in (qs ++ p ∷ [])
began qs p is =
    sym (since_in-end qs p ∙ ap (λ (b : Bool). cond b (p ∷ []) (since_in qs ++ p ∷ [])) is)

went_on : (qs s : List Good) (p : Good) → begins_file p ≡ false → s ≡ since_in qs →
    s ++ p ∷ [] ≡ since_in (qs ++ p ∷ [])
went_on qs s p none same =
    ap (λ (l : List Good). l ++ p ∷ []) same
    ∙ sym (since_in-end qs p ∙ ap (λ (b : Bool). cond b (p ∷ []) (since_in qs ++ p ∷ [])) none)

-- ---- the open stretch

abbrev pub AreSince : List Good → Type 0
AreSince qs = (s : List Good) → open_stretch qs ≡ Some s → s ≡ since_in qs

since_next : (qs : List Good) (p : Good) → AreSince qs → AreSince (qs ++ p ∷ [])
unfolding Grows
since_next qs p are s e =
    let cases = grows (goes_on p) p (is_open (p ∷ [])) (open_stretch qs) s (sym (open_stretch-end qs p) ∙ e) in
    elim cases as (λ _. s ≡ since_in (qs ++ p ∷ [])) [
      | inl alone ↦
          alone.1 ∙ began qs p (first_begins p (and_left (eqb p.flags 1) _ (sym (is_open-one p) ∙ alone.0)))
      | inr on ↦
          on.1.1.1 ∙ went_on qs on.0 p
          (no_beginning p 0 (and_left (eqb p.flags 0) (is_next (open_from on.0) p) on.1.1.0) refl refl)
          (are on.0 on.1.0)
    ]

since_after : (before later : List Good) → AreSince before → AreSince (before ++ later)
since_after before [] are = subst AreSince (sym (append-nil before)) are
since_after before (p ∷ later) are =
    subst AreSince (append_assoc before (p ∷ []) later) (since_after (before ++ p ∷ []) later (since_next before p are))

pub are_since : (qs : List Good) → AreSince qs
are_since qs = since_after [] qs (λ s e. cc)

-- ---- the file

found_holds : (Q : List Good → Bool) (ls : List (List Good)) (s : List Good) → find Q ls ≡ Some s → Q s ≡ true
found_holds Q [] s e = cc
found_holds Q (l ∷ ls) s e = by_test (found_holds Q ls s) (Q l) refl e
  where
    by_test : (find Q ls ≡ Some s → Q s ≡ true) → (b : Bool) → Q l ≡ b → cond b (Some l) (find Q ls) ≡ Some s →
        Q s ≡ true
    by_test later true is e' = let same : l ≡ s = cc in ap Q (sym same) ∙ is
    by_test later false is e' = later e'

-- these packets are a file
pub record IsStretch (vc apid : ℕ) (s : List Good) (file : File) : Type 0 where
  pub is_one : is_file s ≡ true
  pub same : file ≡ file_from vc apid s

found_file : (vc apid : ℕ) (o : Option (List Good)) (file : File) → option_map (file_from vc apid) o ≡ Some file →
    (s : List Good) × ((o ≡ Some s) × (file ≡ file_from vc apid s))
found_file vc apid None file e = cc
found_file vc apid (Some s) file e = (s, (refl, (let h : file ≡ file_from vc apid s = cc in h)))

ended_since : (qs : List Good) (p : Good) (s : List Good) → find is_file (last_stretches (qs ++ p ∷ [])) ≡ Some s →
    s ≡ since_in (qs ++ p ∷ [])
unfolding Grows
ended_since qs p s e =
    let cases = grows (ends p) p (is_file (p ∷ [])) (open_stretch qs) s (sym (file_stretch-end qs p) ∙ e) in
    elim cases as (λ _. s ≡ since_in (qs ++ p ∷ [])) [
      | inl alone ↦
          alone.1
          ∙ began qs p (only_begins p (and_left (eqb p.flags 3) _ (and_left _ _ (sym (is_file-one p) ∙ alone.0))))
      | inr on ↦
          on.1.1.1 ∙ went_on qs on.0 p
          (no_beginning p 2 (and_left (eqb p.flags 2) (is_next (open_from on.0) p)
          (and_left _ (leb 10 (size_of (on.0 ++ p ∷ []))) on.1.1.0)) refl refl)
          (are_since qs on.0 on.1.0)
    ]

-- the file that ends with a packet is the stretch since the latest beginning
pub file_is_stretch : (ps : List Good) (p : Good) (file : File) → file_at ps p ≡ Some file →
    IsStretch p.vc p.apid (since p.vc p.apid (ps ++ p ∷ [])) file
unfolding file_at
file_is_stretch ps p file e =
    let qs = packets_of_key p.vc p.apid ps in
    let own = packets_of_key-own ps p in
    let found = found_file p.vc p.apid (find is_file (last_stretches (packets_of_key p.vc p.apid (ps ++ p ∷ [])))) file
    e in
    let s = found.0 in
    let at_end : find is_file (last_stretches (qs ++ p ∷ [])) ≡ Some s =
    sym (ap (λ (l : List Good). find is_file (last_stretches l)) own) ∙ found.1.0 in
    let same : s ≡ since p.vc p.apid (ps ++ p ∷ []) = ended_since qs p s at_end ∙ ap since_in (sym own) in
    record {
      is_one = ap is_file (sym same) ∙ found_holds is_file (last_stretches (qs ++ p ∷ [])) s at_end;
      same = found.1.1 ∙ ap (file_from p.vc p.apid) same;
    }

-- a file has no more packets than it may have
pub few_bodies : (s : List Good) → is_file s ≡ true → leb (length s) most_file_bodies ≡ true
unfolding is_file
few_bodies s is = and_right _ (leb (length s) most_file_bodies) (and_left _ _ (and_left _ _ is))
