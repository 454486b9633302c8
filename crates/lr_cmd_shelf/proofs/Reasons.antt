-- Each reason that `extract` and `verify` have for a refusal.
use Rattle.std.proofs.Common.{◌≡◌, ◌⊎◌, ◌<◌, ◌≤◌, ◌+◌, ◌-◌, inl, inr, ℕ, zero, suc, Bool, true}
use Rattle.std.proofs.Common.{false, Option, Some, None, Result, Ok, Err, List, [], ◌∷◌, ◌++◌}
use Rattle.std.proofs.Common.{length, refl, arith, ap, ◌∙◌, sym, subst}
use Rattle.std.specs.Prelude.{if◌then◌else◌, ltb}
use Rattle.std.proofs.lemmas.Bool.{cases_lt, lt-ltb, le-ltb}
use Rattle.std.proofs.lemmas.List.{append-nil}
use Rattle.lr_bits.specs.File.{proper_of}
use Rattle.lr_image.specs.Pgm.{pgm_text}
use Rattle.lr_image.specs.Picture.{Picture}
use Rattle.lr_image.specs.Images.{HasOutcome}
use Rattle.lr_image.specs.declared.fault.ImageFault.{ImageFault}
use Rattle.lr_shelf_format.specs.Way.{Way, IsWay, Sound, Bad, HasSoundRecord, IsFound}
use Rattle.lr_shelf_format.specs.declared.stored.Stored.{Stored}
use Rattle.lr_shelf_format.proofs.WayLemmas.{has_one_way}
use Rattle.lr_causes.specs.declared.cause.Refusal.{Refusal}
use Rattle.lr_causes.specs.declared.cause.Refusal.TheVariants.{NotAShelf, NoSuchFile, BadChecksum}
use Rattle.lr_causes.specs.declared.cause.Refusal.TheVariants.{Discarded, CannotExport}
use Rattle.lr_causes.specs.declared.fault.ExportFault.{ExportFault}
use Rattle.lr_cmd_shelf.specs.declared.range.Range.{Range}
use Rattle.lr_cmd_shelf.specs.Queries.{Query, Answer, entry_at, answer_of, fate_of, AnswersFrom}
use Rattle.lr_cmd_shelf.specs.Queries.{AnswersIn, AnswersOn, IsAnswer, IsRefusedFor, IsSeen}
use Rattle.lr_cmd_shelf.specs.Queries.{EntryView, Whole, Wrong, Absent, done_answer, plain}
use Rattle.lr_cmd_shelf.specs.Queries.{refused_answer, query_over, Sight, no_image}
use Rattle.lr_cmd_shelf.specs.Export.{export_query}
use Rattle.lr_refusals.specs.Errors.{image_fault}
use Rattle.lr_cmd_shelf.specs.declared.opened.Opened.{Opened}
use Rattle.lr_cmd_shelf.specs.Files.{one_entry, query_of_files, query_of_one, refused_for}
use Rattle.lr_cmd_shelf.specs.Laws.{HasReasons, ExtractHasReasons, HasExportReasons, ExportHasReasons, SaysWhy}
use Rattle.lr_cmd_shelf.specs.Laws.{HasFirstReasons, OneFilePutsOneText, ShowHasReasons, VerifyHasReasons}
use Rattle.lr_cmd_shelf.specs.Looking.{each_image}
use Rattle.lr_cmd_shelf.specs.Sights.{no_image_sight}
use Rattle.lr_cmd_shelf.specs.Show.{show_text}
use Rattle.lr_cmd_shelf.specs.Verify.{none_bad, verdict, verify_query}
use Rattle.lr_cmd_shelf.proofs.Answering.{err_is, some_is, some_or_none}
use Rattle.lr_cmd_shelf.proofs.Verifying.{none_bad-absent, none_bad-whole, none_bad-wrong}
use Rattle.lr_cmd_shelf.proofs.Seeing.{seen_once}

abbrev chosen : ℕ → Bool → Option Range
chosen number b = if b then Some (record { from = number; to = number + 1 }) else None

range_of : (number : ℕ) (b : Bool) (range : Range) → chosen number b ≡ Some range → range.to ≤ range.from + 1
range_of number true range is = ends (some_is (record { from = number; to = number + 1 }) range is) where
  ends : ◌≡◌ {A = Range} (record { from = number; to = number + 1 }) range → range.to ≤ range.from + 1
  ends same = subst (λ (r : Range). r.to ≤ r.from + 1) same (omega arith)
range_of number false range is = cc (is)

-- ---- commands of one entry

module _ (query : Query) (number : ℕ) (ranges : (count : ℕ) → query.range count ≡ one_entry number count)
    (bytes : List ℕ) (way : Way) (is : IsWay bytes way) where
  in_range : (b : Bool) → ltb number (length way.entries) ≡ b → (answer : Answer)
      → AnswersIn (query_over query bytes way) (chosen number b) answer → IsAnswer query bytes answer
  in_range b same answer from =
      inr (
        way,
        is,
        subst (λ (r : Option Range). AnswersIn (query_over query bytes way) r answer)
            (ap (chosen number) (sym same) ∙ sym (ranges (length way.entries))) from,
      )

  -- there is no such entry
  none_there : length way.entries ≤ number → IsRefusedFor query bytes (NoSuchFile (length way.entries))
  none_there beyond = (
    refused_answer [] (NoSuchFile (length way.entries)),
    in_range false (le-ltb number (length way.entries) beyond) (refused_answer [] (NoSuchFile (length way.entries)))
        refl,
    refl,
  )

  module _ (there : number < length way.entries) where
    -- what the one entry answers is what the bytes do
    one_entry_is : (answer : Answer) → AnswersFrom (query_over query bytes way) 1 number [] answer
        → IsAnswer query bytes answer
    one_entry_is answer from =
        let one : number + 1 - number ≡ 1 = omega arith in
        in_range true (lt-ltb number (length way.entries) there) answer
        (subst (λ n. AnswersFrom (query_over query bytes way) n number [] answer) (sym one) from)

    from_one : (answer : Answer) → IsAnswer query bytes answer
        → AnswersFrom (query_over query bytes way) 1 number [] answer
    from_one answer (inl none) = absurd ((has_one_way bytes).none way none.0 is none.1)
    from_one answer (inr some) =
        let one : number + 1 - number ≡ 1 = omega arith in
        subst (λ n. AnswersFrom (query_over query bytes way) n number [] answer) one
        (subst (λ (r : Option Range). AnswersIn (query_over query bytes way) r answer)
        (ranges (length way.entries) ∙ ap (chosen number) (lt-ltb number (length way.entries) there))
        (subst (λ (w : Way). AnswersOn (query_over query bytes w) answer)
        ((has_one_way bytes).way some.0 way some.1 is) some.2))

    stopped : (seen : Option EntryView) (refusal : Refusal) → IsSeen query.sees bytes (entry_at way number) seen
        → fate_of query way [] number seen ≡ Err refusal → IsRefusedFor query bytes refusal
    stopped seen refusal stands fate = (
      refused_answer [] refusal,
      one_entry_is (refused_answer [] refusal)
          (inr (record { seen = seen; refusal = refusal; stands = stands; fate = fate; is = refl })),
      refl,
    )

    -- its text is the only one
    put_one : ((read : List EntryView) → answer_of (query.last way read) (query.note read) ≡ done_answer [] None)
        → (seen : EntryView) → IsSeen query.sees bytes (entry_at way number) (Some seen) → (text : List ℕ)
        → query.fate [] number seen ≡ Ok text → IsAnswer query bytes (done_answer text None)
    put_one nothing seen stands text fate =
        one_entry_is (done_answer text None)
        (inl (record {
          seen = seen;
          text = text;
          rest = done_answer [] None;
          stands = stands;
          fate = fate;
          after = sym (nothing ([] ++ seen ∷ []));
          is = ap (λ (l : List ℕ). done_answer l None) (sym (append-nil text));
        }))

-- what a command on a file's number refuses before it sees the file
module _ (number : ℕ) (bytes : List ℕ) (way : Way) (is : IsWay bytes way) (sees : Sight)
    (fate : ℕ → Opened → Result (List ℕ) Refusal) where
  abbrev asked : Query
  asked = query_of_files (query_of_one sees fate number)

  ranges_are : (count : ℕ) → asked.range count ≡ one_entry number count
  ranges_are count = refl

  first_reasons : HasFirstReasons asked number bytes way
  first_reasons = record {
    no_file = none_there asked number ranges_are bytes way is;
    gone = λ there gone.
        stopped asked number ranges_are bytes way is there (Some Absent) Discarded gone refl;
    no_record = λ there none.
        stopped asked number ranges_are bytes way is there None (NotAShelf (entry_at way number).gate) none refl;
    bad = λ there stored computed found.
        stopped asked number ranges_are bytes way is there (Some (Wrong stored computed)) BadChecksum found refl;
  }

-- ---- `extract` and `show`

module _ (text : ℕ → Stored → List ℕ) (number : ℕ) (bytes : List ℕ) (way : Way) (is : IsWay bytes way) where
  -- what puts such a text of a file
  abbrev query : ℕ → Query
  query n = query_of_files (query_of_one no_image (λ m opened. Ok (text m opened.stored)) n)

  module _ (there : number < length way.entries) where
    -- what a record with the right checksum is found to be
    not_refused : (entry_at way number).gone ≡ false → HasSoundRecord bytes (entry_at way number)
        → (seen : Option EntryView) → IsSeen no_image bytes (entry_at way number) seen → (refusal : Refusal)
        → fate_of (query number) way [] number seen ≡ Err refusal → ⊥
    not_refused stays sound None stands refusal fate = stands.1 sound.has
    not_refused stays sound (Some (Whole opened)) stands refusal fate = cc (fate)
    not_refused stays sound (Some (Wrong s c)) stands refusal fate =
        stands.4 (stands.2 ∙ sound.right ∙ sym stands.3)
    not_refused stays sound (Some Absent) stands refusal fate = cc (stays, stands)

    right_from : (entry_at way number).gone ≡ false → HasSoundRecord bytes (entry_at way number) → (answer : Answer)
        → AnswersFrom (query_over (query number) bytes way) 1 number [] answer → answer.refusal ≡ None
    right_from stays sound answer (inl a) =
        ap (λ (x : Answer). x.refusal) a.is ∙ ap (λ (x : Answer). x.refusal) a.after
    right_from stays sound answer (inr b) =
        absurd (not_refused stays sound b.seen b.stands b.refusal b.fate)

  abbrev one : (count : ℕ) → (query number).range count ≡ one_entry number count
  one count = refl

  reasons : HasReasons query text number bytes way
  reasons = record {
    first = first_reasons number bytes way is no_image _;
    sound = λ there stored stands.
        put_one (query number) number one bytes way is there (λ read. refl) (plain stored) (stands, tt)
        (text number stored) refl;
    right = λ there stays sound answer from.
        right_from there stays sound answer
        (from_one (query number) number one bytes way is there answer from);
  }

pub has_reasons : ExtractHasReasons
has_reasons number bytes way is = reasons (λ n stored. proper_of stored.file) number bytes way is

pub show_has_reasons : ShowHasReasons
show_has_reasons number bytes way is = reasons show_text number bytes way is

pub one_file_puts_one_text : OneFilePutsOneText
one_file_puts_one_text looks fate number = record {
  one = λ count range allowed. range_of number _ range allowed;
  nothing_last = λ way read. refl;
}

-- ---- `export`

module _ (number : ℕ) (bytes : List ℕ) (way : Way) (is : IsWay bytes way) where
  abbrev once : (count : ℕ) → (export_query number).range count ≡ one_entry number count
  once count = refl

  abbrev with_outcome : Stored → Result Picture ImageFault → EntryView
  with_outcome stored outcome = Whole (record { stored = stored; image = Some outcome })

  module _ (there : number < length way.entries) (stored : Stored)
      (stands : IsFound bytes (entry_at way number) (Some (Sound stored))) where
    faulty : (fault : ImageFault) → HasOutcome stored.file (Err fault) → (word : ExportFault)
        → image_fault fault ≡ Some word → IsRefusedFor (export_query number) bytes (CannotExport word)
    faulty fault has word named =
        stopped (export_query number) number once bytes way is there (Some (with_outcome stored (Err fault)))
        (CannotExport word) (stands, has) (ap refused_for named)

    pictured : (picture : Picture) → HasOutcome stored.file (Ok picture)
        → IsAnswer (export_query number) bytes (done_answer (pgm_text picture) None)
    pictured picture has =
        put_one (export_query number) number once bytes way is there (λ read. refl) (with_outcome stored (Ok picture))
        (stands, has) (pgm_text picture) refl

  export_reasons : HasExportReasons number bytes way
  export_reasons = record {
    first = first_reasons number bytes way is each_image _;
    fault = faulty;
    image = pictured;
  }

pub has_export_reasons : ExportHasReasons
has_export_reasons number bytes way is = export_reasons number bytes way is

-- ---- `verify`

spoilt : (read : List EntryView) (seen : EntryView) → none_bad read ≡ false → none_bad (read ++ seen ∷ []) ≡ false
spoilt read (Whole opened) bad = none_bad-whole read opened ∙ bad
spoilt read (Wrong stored computed) bad = none_bad-wrong read stored computed
spoilt read Absent bad = none_bad-absent read ∙ bad

module _ (bytes : List ℕ) (way : Way) where
  abbrev From : (left number : ℕ) → List EntryView → Answer → Type 0
  From left number read answer = AnswersFrom (query_over verify_query bytes way) left number read answer

  -- it is refused at an entry only where that has no record
  at_none : (read : List EntryView) (number : ℕ) (seen : Option EntryView) (refusal : Refusal)
      → fate_of verify_query way read number seen ≡ Err refusal
      → (seen ≡ None) × (NotAShelf (entry_at way number).gate ≡ refusal)
  at_none read number None refusal fate = (
    refl,
    err_is (fate_of verify_query way read number None) (NotAShelf (entry_at way number).gate) refusal
        refl fate,
  )
  at_none read number (Some seen) refusal fate = cc (fate)

  none_from : (left number : ℕ) (read : List EntryView) (answer : Answer) → From left number read answer → (which : ℕ)
      → number ≤ which → which < number + left → IsFound bytes (entry_at way which) None
      → (at : ℕ) × (answer.refusal ≡ Some (NotAShelf at))
  none_from zero number read answer is which above below none = absurd (omega (arith, above, below))
  none_from (suc left) number read answer (inl a) which above below none = elim (cases_lt number which) [
    | inl later ↦
        let rest = none_from left (number + 1) (read ++ a.seen ∷ []) a.rest a.after which (omega (arith, later))
        (omega (arith, below)) none in
        (rest.0, ap (λ (x : Answer). x.refusal) a.is ∙ rest.1)
    | inr here ↦
        let same : which ≡ number = omega (arith, above, here) in
        absurd (some_or_none (Some a.seen) a.seen refl
        (seen_once no_image no_image_sight bytes (entry_at way number) (Some a.seen) None a.stands
        (subst (λ n. IsFound bytes (entry_at way n) None) same none)))
  ]
  none_from (suc left) number read answer (inr b) which above below none =
      let stop = at_none read number b.seen b.refusal b.fate in
      ((entry_at way number).gate, ap (λ (x : Answer). x.refusal) b.is ∙ ap Some (sym stop.1))

  module _ (stand : (each : ℕ) → each < length way.entries → IsFound bytes (entry_at way each) None → ⊥) where
    no_stop : (number : ℕ) → number < length way.entries → (read : List EntryView) (seen : Option EntryView)
        (refusal : Refusal) → IsSeen no_image bytes (entry_at way number) seen
        → fate_of verify_query way read number seen ≡ Err refusal → ⊥
    no_stop number there read seen refusal stands fate =
        let stop = at_none read number seen refusal fate in
        stand number there (subst (IsSeen no_image bytes (entry_at way number)) stop.0 stands)

    -- a wrong checksum was read
    spoilt_from : (left number : ℕ) (read : List EntryView) (answer : Answer) → number + left ≤ length way.entries
        → none_bad read ≡ false → From left number read answer → answer.refusal ≡ Some BadChecksum
    spoilt_from zero number read answer few bad is =
        ap (λ (x : Answer). x.refusal) is ∙ ap (λ (b : Bool). (answer_of (verdict b) None).refusal) bad
    spoilt_from (suc left) number read answer few bad (inl a) =
        ap (λ (x : Answer). x.refusal) a.is
        ∙ spoilt_from left (number + 1) (read ++ a.seen ∷ []) a.rest (omega (arith, few)) (spoilt read a.seen bad)
        a.after
    spoilt_from (suc left) number read answer few bad (inr b) =
        absurd (no_stop number (omega (arith, few)) read b.seen b.refusal b.stands b.fate)

    bad_from : (left number : ℕ) (read : List EntryView) (answer : Answer) → number + left ≤ length way.entries
        → From left number read answer → (which : ℕ) → number ≤ which → which < number + left
        → (stored computed : ℕ) → IsFound bytes (entry_at way which) (Some (Bad stored computed))
        → answer.refusal ≡ Some BadChecksum
    bad_from zero number read answer few is which above below stored computed bad =
        absurd (omega (arith, above, below))
    bad_from (suc left) number read answer few (inl a) which above below stored computed bad =
        elim (cases_lt number which) [
          | inl later ↦
              ap (λ (x : Answer). x.refusal) a.is
              ∙ bad_from left (number + 1) (read ++ a.seen ∷ []) a.rest (omega (arith, few)) a.after which
              (omega (arith, later)) (omega (arith, below)) stored computed bad
          | inr here ↦
              let same : which ≡ number = omega (arith, above, here) in
              let found : a.seen ≡ Wrong stored computed =
              some_is a.seen (Wrong stored computed)
              (seen_once no_image no_image_sight bytes (entry_at way number) (Some a.seen)
              (Some (Wrong stored computed))
              a.stands
              (subst (λ n. IsFound bytes (entry_at way n) (Some (Bad stored computed))) same bad)) in
              ap (λ (x : Answer). x.refusal) a.is
              ∙ spoilt_from left (number + 1) (read ++ a.seen ∷ []) a.rest (omega (arith, few))
              (ap (λ (f : EntryView). none_bad (read ++ f ∷ [])) found ∙ none_bad-wrong read stored computed) a.after
        ]
    bad_from (suc left) number read answer few (inr b) which above below stored computed bad =
        absurd (no_stop number (omega (arith, few)) read b.seen b.refusal b.stands b.fate)

  module _ (right : (each : ℕ) → each < length way.entries
      → ((entry_at way each).gone ≡ true) ⊎ HasSoundRecord bytes (entry_at way each)) where
    no_none : (each : ℕ) → ((entry_at way each).gone ≡ true) ⊎ HasSoundRecord bytes (entry_at way each)
        → IsFound bytes (entry_at way each) None → ⊥
    no_none each (inl gone) none = cc (gone, none.0)
    no_none each (inr sound) none = none.1 sound.has

    no_bad : (each : ℕ) → ((entry_at way each).gone ≡ true) ⊎ HasSoundRecord bytes (entry_at way each)
        → (stored computed : ℕ) → IsFound bytes (entry_at way each) (Some (Bad stored computed)) → ⊥
    no_bad each (inl gone) stored computed bad = cc (gone, bad.0)
    no_bad each (inr sound) stored computed bad = bad.4 (bad.2 ∙ sound.right ∙ sym bad.3)

    stays_right : (each : ℕ) → each < length way.entries → (read : List EntryView) (seen : EntryView)
        → IsSeen no_image bytes (entry_at way each) (Some seen) → none_bad read ≡ true
        → none_bad (read ++ seen ∷ []) ≡ true
    stays_right each there read (Whole opened) stands good = none_bad-whole read opened ∙ good
    stays_right each there read (Wrong stored computed) stands good =
        absurd (no_bad each (right each there) stored computed stands)
    stays_right each there read Absent stands good = none_bad-absent read ∙ good

    sound_from : (left number : ℕ) (read : List EntryView) (answer : Answer) → number + left ≤ length way.entries
        → none_bad read ≡ true → From left number read answer → answer.refusal ≡ None
    sound_from zero number read answer few good is =
        ap (λ (x : Answer). x.refusal) is ∙ ap (λ (b : Bool). (answer_of (verdict b) None).refusal) good
    sound_from (suc left) number read answer few good (inl a) =
        ap (λ (x : Answer). x.refusal) a.is
        ∙ sound_from left (number + 1) (read ++ a.seen ∷ []) a.rest (omega (arith, few))
        (stays_right number (omega (arith, few)) read a.seen a.stands good) a.after
    sound_from (suc left) number read answer few good (inr b) =
        absurd (no_stop (λ each there. no_none each (right each there)) number (omega (arith, few)) read b.seen
        b.refusal b.stands b.fate)

  on_all : (answer : Answer) → IsWay bytes way → IsAnswer verify_query bytes answer
      → From (length way.entries - 0) 0 [] answer
  on_all answer is (inl none) = absurd ((has_one_way bytes).none way none.0 is none.1)
  on_all answer is (inr some) =
      subst (λ (w : Way). AnswersOn (query_over verify_query bytes w) answer)
      ((has_one_way bytes).way some.0 way some.1 is) some.2

  why : (answer : Answer) → IsWay bytes way → IsAnswer verify_query bytes answer → SaysWhy bytes way answer
  why answer is one =
      let all = on_all answer is one in
      record {
        no_record = λ number there none.
            none_from (length way.entries - 0) 0 [] answer all number (omega arith) (omega (arith, there)) none;
        bad = λ stand number there stored computed bad.
            bad_from stand (length way.entries - 0) 0 [] answer (omega arith) all number (omega arith)
            (omega (arith, there)) stored computed bad;
        sound = λ right. sound_from right (length way.entries - 0) 0 [] answer (omega arith) refl all;
      }

pub says_why : VerifyHasReasons
says_why bytes way answer is one = why bytes way answer is one
