-- Mended packets that are taken one after another, and their files.
use Rattle.std.proofs.Common.{◌≡◌, ℕ, Bool, true, false, cond, eqb, ◌&&◌, Option, Some, List, [], ◌∷◌, ◌++◌, map}
use Rattle.std.proofs.Common.{refl, sym, ap, ◌∙◌, subst, append_assoc}
use Rattle.std.specs.Prelude.{unwrap_or, option_and_then, option_to_list}
use Rattle.std.specs.List.{fold}
use Rattle.std.proofs.lemmas.List.{append-nil, map-append}
use Rattle.std.proofs.lemmas.List.Elements.{filter-append}
use Rattle.std.proofs.lemmas.List.Sums.{fold-append}
use Rattle.std.proofs.lemmas.Bool.Decides.{nat_tests}
use Rattle.std.proofs.Common.{arith}
use Rattle.lr_bits.specs.File.{File}
use Rattle.lr_mend.specs.declared.marks.MarkedFile.{MarkedFile}
use Rattle.lr_packet.specs.Verdict.{Good}
use Rattle.lr_file.specs.Files.{file_at}
use Rattle.lr_file.specs.Standing.{AreAscending, KeptFiles, FilesStandFor, kept_of_key}
use Rattle.lr_file.specs.Steps.{SetsKey}
use Rattle.lr_file.proofs.KeyLemmas.{same_key}
use Rattle.lr_mend.specs.Laws.{packet_mended}
use Rattle.lr_mend.specs.Marks.{marked}
use Rattle.lr_mend.specs.MendedFiles.{KeptMended, kept_mended, MendedStandFor}
use Rattle.lr_mend.specs.MendedFiles.{SeamsStandFor, TakesMended, TakesOneMended}
use Rattle.lr_mend.specs.MendedFiles.{mended_file}
use Rattle.lr_mend.specs.MendedFiles.{mended_files_after}
use Rattle.lr_mend.specs.Standing.{KeptImages, MenderStandsFor}
use Rattle.lr_mend.proofs.MendingLaws.{mended-more}
use Rattle.std.specs.Prelude.{Result, Ok, Err, OnOk, IfOk, is_err}
use Rattle.lr_mend.specs.Mending.{Mended, came, filler_of, gap_before, mended_packets}
use Rattle.lr_mend.specs.Seams.{Seams, no_seams, mended_of_key, seams_of, seams_with}

-- ---- seams

abbrev is_of_key : ℕ → ℕ → Good → Bool
is_of_key vc apid p = eqb p.vc vc && eqb p.apid apid

same_self : (n m : ℕ) → (eqb n n && eqb m m) ≡ true
same_self n m = grind (arith, nat_tests)

seams_of-own : (ms : List Mended) (m : Mended) →
    seams_of m.packet.vc m.packet.apid (ms ++ m ∷ []) ≡ seams_with (seams_of m.packet.vc m.packet.apid ms) m
unfolding seams_of
seams_of-own ms m =
    let vc = m.packet.vc in
    let apid = m.packet.apid in
    ap (λ l. fold seams_with no_seams l) (filter-append (λ m. is_of_key vc apid m.packet) ms (m ∷ [])
    ∙ ap (λ (b : Bool). mended_of_key vc apid ms ++ cond b (m ∷ []) []) (same_self vc apid))
    ∙ fold-append seams_with no_seams (mended_of_key vc apid ms) (m ∷ [])

seams_of-other : (vc apid : ℕ) (ms : List Mended) (m : Mended) → is_of_key vc apid m.packet ≡ false →
    seams_of vc apid (ms ++ m ∷ []) ≡ seams_of vc apid ms
unfolding seams_of
seams_of-other vc apid ms m other =
    ap (λ l. fold seams_with no_seams l) (filter-append (λ m. is_of_key vc apid m.packet) ms (m ∷ [])
    ∙ ap (λ (b : Bool). mended_of_key vc apid ms ++ cond b (m ∷ []) []) other
    ∙ append-nil (mended_of_key vc apid ms))

pub seams_new : (kept : List ((ℕ × ℕ) × Seams)) → kept ≡ [] → AreAscending kept → SeamsStandFor kept []
unfolding seams_of kept_of_key
seams_new kept none once =
    record { once = once; seams = λ vc apid. ap (λ l. unwrap_or (kept_of_key l vc apid) no_seams) none }

kept_next : (old new : List ((ℕ × ℕ) × Seams)) (ms : List Mended) (m : Mended) →
    SetsKey old new m.packet (Some (seams_with (unwrap_or (kept_of_key old m.packet.vc m.packet.apid) no_seams) m)) →
    SeamsStandFor old ms → (vc apid : ℕ) (own : Bool) → is_of_key vc apid m.packet ≡ own →
    unwrap_or (kept_of_key new vc apid) no_seams ≡ seams_of vc apid (ms ++ m ∷ [])
kept_next old new ms m sets stands vc apid true e =
    let own = m.packet in
    let same = same_key own.vc vc own.apid apid e in
    let next = Some (seams_with (unwrap_or (kept_of_key old own.vc own.apid) no_seams) m) in
    ap (λ (o : Option Seams). unwrap_or o no_seams) (sets.values vc apid
    ∙ ap (λ (b : Bool). cond b next (kept_of_key old vc apid)) e)
    ∙ ap (λ (s : Seams). seams_with s m) (stands.seams own.vc own.apid)
    ∙ sym (seams_of-own ms m)
    ∙ (λ i. seams_of (same.0 i) (same.1 i) (ms ++ m ∷ []))
kept_next old new ms m sets stands vc apid false e =
    let own = m.packet in
    let next = Some (seams_with (unwrap_or (kept_of_key old own.vc own.apid) no_seams) m) in
    ap (λ (o : Option Seams). unwrap_or o no_seams) (sets.values vc apid
    ∙ ap (λ (b : Bool). cond b next (kept_of_key old vc apid)) e)
    ∙ stands.seams vc apid
    ∙ sym (seams_of-other vc apid ms m e)

pub seams_next : (old new : List ((ℕ × ℕ) × Seams)) (ms : List Mended) (m : Mended) →
    SetsKey old new m.packet (Some (seams_with (unwrap_or (kept_of_key old m.packet.vc m.packet.apid) no_seams) m)) →
    SeamsStandFor old ms → SeamsStandFor new (ms ++ m ∷ [])
seams_next old new ms m sets stands =
    record {
      once = sets.once;
      seams = λ vc apid. kept_next old new ms m sets stands vc apid (is_of_key vc apid m.packet) refl;
    }

-- ---- files

pub mended_files-append : (before xs ys : List Mended) →
    mended_files_after before (xs ++ ys) ≡ mended_files_after before xs ++ mended_files_after (before ++ xs) ys
mended_files-append before [] ys = ap (λ b. mended_files_after b ys) (sym (append-nil before))
mended_files-append before (x ∷ xs) ys =
    ap (λ fs. option_to_list (mended_file before x) ++ fs)
    (mended_files-append (before ++ x ∷ []) xs ys
    ∙ ap (λ b. mended_files_after (before ++ x ∷ []) xs ++ mended_files_after b ys) (append_assoc before (x ∷ []) xs))
    ∙ sym (append_assoc (option_to_list (mended_file before x)) (mended_files_after (before ++ x ∷ []) xs)
    (mended_files_after (before ++ x ∷ xs) ys))

pub takes_none : (before : List Mended) (kept : KeptFiles) (noted : List ((ℕ × ℕ) × Seams)) (old : List MarkedFile) →
    FilesStandFor kept (map packet_mended before) → SeamsStandFor noted before
    → TakesMended before [] kept noted old old
takes_none before kept noted old files seams =
    record {
      files = subst (λ (ms : List Mended). FilesStandFor kept (map packet_mended ms)) (sym (append-nil before)) files;
      seams = subst (λ (ms : List Mended). SeamsStandFor noted ms) (sym (append-nil before)) seams;
      added = sym (append-nil old);
    }

pub takes_more : (before first second : List Mended) {kept later : KeptFiles} {noted after : List ((ℕ × ℕ) × Seams)}
    {old between new : List MarkedFile} → TakesMended before first kept noted old between →
    TakesMended (before ++ first) second later after between new →
    TakesMended before (first ++ second) later after old new
takes_more before first second {kept} {later} {noted} {after} {old} {between} {new} a b =
    record {
      files = subst (λ (ms : List Mended). FilesStandFor later (map packet_mended ms))
          (append_assoc before first second)
          b.files;
      seams = subst (λ (ms : List Mended). SeamsStandFor after ms) (append_assoc before first second) b.seams;
      added = b.added ∙ ap (λ fs. fs ++ mended_files_after (before ++ first) second) a.added
          ∙ append_assoc old (mended_files_after before first) (mended_files_after (before ++ first) second)
          ∙ ap (λ fs. old ++ fs) (sym (mended_files-append before first second));
    }

-- one packet more
pub takes_one : (before : List Mended) (m : Mended) (kept : KeptFiles) (noted : List ((ℕ × ℕ) × Seams))
    (found : Option File) (result : Option MarkedFile) →
    FilesStandFor kept (map packet_mended before ++ m.packet ∷ []) → SeamsStandFor noted (before ++ m ∷ []) →
    file_at (map packet_mended before) m.packet ≡ found →
    option_and_then (λ file. marked file (seams_of m.packet.vc m.packet.apid (before ++ m ∷ [])).fillers) found
    ≡ result →
    TakesOneMended before m kept noted result
takes_one before m kept noted found result files seams at is =
    record {
      files = subst (λ ps. FilesStandFor kept ps) (sym (map-append packet_mended before (m ∷ []))) files;
      seams = seams;
      ends = sym (ap (option_and_then (λ file. marked file
          (seams_of m.packet.vc m.packet.apid (before ++ m ∷ [])).fillers)) at ∙ is);
    }

-- and the file that ends with it is appended
pub takes_and : (before : List Mended) (m : Mended) {kept : KeptFiles} {noted : List ((ℕ × ℕ) × Seams)}
    {file : Option MarkedFile} {old new : List MarkedFile} → TakesOneMended before m kept noted file →
    new ≡ old ++ option_to_list file → TakesMended before (m ∷ []) kept noted old new
takes_and before m {kept} {noted} {file} {old} {new} one added =
    record {
      files = one.files;
      seams = one.seams;
      added = added ∙ ap (λ o. old ++ option_to_list o) one.ends
          ∙ ap (λ fs. old ++ fs) (sym (append-nil (option_to_list (mended_file before m))));
    }

-- some of the fillers of a gap were taken
pub record TakesSome (before : List Mended) (gap left : List Good) (kept : KeptFiles) (noted : List ((ℕ × ℕ) × Seams))
    (old new : List MarkedFile) : Type 0 where
  pub done : List Good
  pub split : gap ≡ done ++ left
  pub takes : TakesMended before (map filler_of done) kept noted old new

pub takes_filler : (before : List Mended) (gap left later : List Good) (filler : Good) {kept after : KeptFiles}
    {noted next : List ((ℕ × ℕ) × Seams)} {old between new : List MarkedFile} → left ≡ filler ∷ later →
    (some : TakesSome before gap left kept noted old between) →
    TakesMended (before ++ map filler_of some.done) (filler_of filler ∷ []) after next between new →
    TakesSome before gap later after next old new
takes_filler before gap left later filler {kept} {after} {noted} {next} {old} {between} {new} is some one =
    record {
      done = some.done ++ filler ∷ [];
      split = some.split ∙ ap (λ l. some.done ++ l) is ∙ sym (append_assoc some.done (filler ∷ []) later);
      takes = subst (λ (ms : List Mended). TakesMended before ms after next old new)
          (sym (map-append filler_of some.done (filler ∷ [])))
          (takes_more before (map filler_of some.done) (filler_of filler ∷ []) some.takes one);
    }

pub takes_all : (before : List Mended) (gap left : List Good) {kept : KeptFiles} {noted : List ((ℕ × ℕ) × Seams)}
    {old new : List MarkedFile} → left ≡ [] → TakesSome before gap left kept noted old new →
    TakesMended before (map filler_of gap) kept noted old new
takes_all before gap left {kept} {noted} {old} {new} none some =
    subst (λ (l : List Good). TakesMended before (map filler_of l) kept noted old new)
    (sym (some.split ∙ ap (λ l. some.done ++ l) none ∙ append-nil some.done)) some.takes

-- what follows of an `Ok`
pub taken_on : {T E Q : Type 0} {P : T → Type 0} (r : Result T E) → IfOk r P →
    (is_err r ≡ false → (x : T) → P x → Q) → OnOk r Q
taken_on (Ok x) p f = f refl x p
taken_on (Err e) p f = tt

-- what stands isn't spent
pub stands_unspent : {kept : KeptMended} (inside : KeptMended) (packets : List Good) → inside ≡ kept →
    MendedStandFor kept packets → MendedStandFor (kept_mended inside.images inside.files inside.seams) packets
stands_unspent inside packets is stands =
    let all = subst (λ (k : KeptMended). MendedStandFor k packets) (sym is) stands in
    record { unspent = refl; images = all.images; files = all.files; seams = all.seams }

-- what is kept after a packet and its fillers stands for the packets
pub stands_more : (images : KeptImages) (files : KeptFiles) (seams : List ((ℕ × ℕ) × Seams)) (most : ℕ)
    (packets : List Good) (p : Good) (file : Option MarkedFile) → images.most ≡ most →
    MenderStandsFor images (packets ++ p ∷ []) →
    TakesOneMended (mended_packets most packets ++ map filler_of (gap_before most packets p)) (came p) files
    seams file →
    MendedStandFor (kept_mended images files seams) (packets ++ p ∷ [])
stands_more images files seams most packets p file same stands takes =
    let ms = mended_packets most packets in
    let fillers = map filler_of (gap_before most packets p) in
    let all : mended_packets images.most (packets ++ p ∷ []) ≡ (ms ++ fillers) ++ came p ∷ [] =
    ap (λ (n : ℕ). mended_packets n (packets ++ p ∷ [])) same ∙ mended-more most packets p
    ∙ sym (append_assoc ms fillers (came p ∷ [])) in
    record {
      unspent = refl;
      images = stands;
      files = subst (λ (ms : List Mended). FilesStandFor files (map packet_mended ms)) (sym all) takes.files;
      seams = λ some. subst (λ (ms : List Mended). SeamsStandFor seams ms) (sym all) takes.seams;
    }
