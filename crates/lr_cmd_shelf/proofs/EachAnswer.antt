-- Bytes have an answer to each thing that is asked of them.
use Rattle.std.proofs.Common.{◌≡◌, inl, inr, ◌<◌, ◌+◌, ◌-◌, Bool, true, false, ℕ, zero, suc, Option, Some, None}
use Rattle.std.proofs.Common.{Result, Ok, Err, List, [], ◌∷◌, ◌++◌, All, length, refl}
use Rattle.lr_bits.specs.File.{File}
use Rattle.lr_image.specs.Picture.{Picture}
use Rattle.lr_image.specs.declared.fault.ImageFault.{ImageFault}
use Rattle.lr_image.proofs.EachFile.{files_have_outcomes}
use Rattle.lr_shelf_format.specs.Way.{Bad, EntryState, Gone, IsFound, Sound, Way}
use Rattle.lr_shelf_format.specs.declared.entry.Entry.{Entry}
use Rattle.lr_shelf_format.proofs.SomeEntry.{some_found}
use Rattle.lr_shelf_format.proofs.SomeWay.{some_way}
use Rattle.lr_causes.specs.declared.cause.Refusal.{Refusal}
use Rattle.lr_causes.specs.declared.cause.Refusal.TheVariants.{NoSuchFile, NotAShelf}
use Rattle.lr_cmd_shelf.specs.declared.range.Range.{Range}
use Rattle.lr_cmd_shelf.specs.Queries.{Absent, Answer, AnswersFrom, AnswersIn, Query, IsAnswer}
use Rattle.lr_cmd_shelf.specs.Queries.{IsSeen, Sight, EntryView, Whole, Wrong, answer_of}
use Rattle.lr_cmd_shelf.specs.Queries.{entry_at, fate_of, refused_answer, then_rest, query_over}
use Rattle.lr_cmd_shelf.specs.Laws.{HasAnAnswer, query_of}
use Rattle.lr_cmd_shelf.specs.Looking.{IsLooked}
use Rattle.lr_cmd_shelf.specs.Sights.{SeesImages}
use Rattle.lr_cmd_shelf.proofs.Seeing.{asked_sight}

-- ---- what is seen at an entry

looked : (looks : Bool) (file : File) → (image : Option (Result Picture ImageFault)) × IsLooked looks file image
looked true file = let there = files_have_outcomes file in (Some there.0, there.1)
looked false file = (None, tt)

module _ (sees : Sight) (images : SeesImages sees) (bytes : List ℕ) (entry : Entry) where
  abbrev SeenThere : Type 0
  SeenThere = (seen : Option EntryView) × IsSeen sees bytes entry seen

  seen_by : (found : Option EntryState) → IsFound bytes entry found → SeenThere
  seen_by None is = (None, is)
  seen_by (Some (Sound stored)) is =
      let sight = images stored in
      let image = looked sight.0 stored.file in
      (Some (Whole (record { stored = stored; image = image.0 })), (is, sight.1.looked image.0 image.1))
  seen_by (Some (Bad stored computed)) is = (Some (Wrong stored computed), is)
  seen_by (Some Gone) is = (Some Absent, is)

  seen_there : All (λ byte. byte < 256) bytes → SeenThere
  seen_there fit = let there = some_found bytes fit entry in seen_by there.0 there.1

-- ---- answers

module _ (query : Query) (images : SeesImages query.sees) (bytes : List ℕ)
    (fit : All (λ byte. byte < 256) bytes) where
  module _ (way : Way) where
    abbrev From : (left number : ℕ) → List EntryView → Type 0
    From left number read = (answer : Answer) × AnswersFrom (query_over query bytes way) left number read answer

    -- the fate of what is seen at an entry, and then of the others
    from_entry : (left number : ℕ) (read : List EntryView)
        → ((seen : EntryView) → From left (number + 1) (read ++ seen ∷ [])) → (seen : Option EntryView)
        → IsSeen query.sees bytes (entry_at way number) seen → (fate : Result (List ℕ) Refusal)
        → fate_of query way read number seen ≡ fate → From (suc left) number read
    from_entry left number read after seen stands (Err refusal) is = (
      refused_answer [] refusal,
      inr (record { seen = seen; refusal = refusal; stands = stands; fate = is; is = refl }),
    )
    from_entry left number read after None stands (Ok text) is = absurd (cc (is))
    from_entry left number read after (Some seen) stands (Ok text) is =
        let rest = after seen in (
          then_rest text rest.0,
          inl (record {
            seen = seen;
            text = text;
            rest = rest.0;
            stands = stands;
            fate = is;
            after = rest.1;
            is = refl;
          }),
        )

    answers_from : (left number : ℕ) (read : List EntryView) → From left number read
    answers_from zero number read = (answer_of (query.last way read) (query.note read), refl)
    answers_from (suc left) number read =
        let there = seen_there query.sees images bytes (entry_at way number) fit in
        from_entry left number read (λ seen. answers_from left (number + 1) (read ++ seen ∷ [])) there.0 there.1
        (fate_of query way read number there.0) refl

    answers_in : (range : Option Range) → (answer : Answer) × AnswersIn (query_over query bytes way) range answer
    answers_in None = (refused_answer [] (NoSuchFile (length way.entries)), refl)
    answers_in (Some range) = answers_from (range.to - range.from) range.from []

  some_answer : (answer : Answer) × IsAnswer query bytes answer
  some_answer = elim (some_way bytes) [
    | inl way ↦
        let there = answers_in way.0 (query.range (length way.0.entries)) in
        (there.0, inr (way.0, way.1, there.1))
    | inr none ↦ (refused_answer [] (NotAShelf none.0), inl (none.0, none.1, refl))
  ]

pub has_an_answer : HasAnAnswer
has_an_answer asked bytes fit = some_answer (query_of asked) (asked_sight asked) bytes fit
