-- What `render` answers is the text of the images of all entries.
use Rattle.std.proofs.Common.{◌≡◌, inl, inr, ◌+◌, ◌-◌, ◌<◌, ℕ, zero, suc, true, Option, Some, None, Result, Ok, Err}
use Rattle.std.proofs.Common.{List, [], ◌∷◌, ◌++◌, length, refl, sym, ap, ◌∙◌, subst, arith, append-nil, slice_get}
use Rattle.std.proofs.Common.{All, drop, get_or, take}
use Rattle.std.specs.List.{concat}
use Rattle.std.proofs.Math.Nat.{sub-zero}
use Rattle.lr_image.specs.Picture.{Picture}
use Rattle.lr_image.specs.declared.fault.ImageFault.{ImageFault}
use Rattle.lr_shelf_format.specs.Way.{Way}
use Rattle.lr_shelf_format.specs.declared.entry.Entry.{Entry}
use Rattle.lr_shelf_format.proofs.WayLemmas.{has_one_way}
use Rattle.lr_causes.specs.Outside.{Outlets, OutletsOf}
use Rattle.lr_causes.specs.declared.cause.Cause.{Cause}
use Rattle.lr_causes.specs.declared.cause.Cause.TheVariants.{Done, DoneWith}
use Rattle.lr_causes.specs.declared.cause.Refusal.TheVariants.{BadChecksum}
use Rattle.lr_causes.specs.declared.note.Note.{Note}
use Rattle.lr_cmd_shelf.specs.declared.opened.Opened.{Opened}
use Rattle.lr_cmd_shelf.specs.declared.range.Range.{Range}
use Rattle.lr_cmd_shelf.specs.Files.{files_of}
use Rattle.lr_cmd_shelf.specs.Looking.{IsLooked, each_image}
use Rattle.lr_cmd_shelf.specs.Queries.{Answer, AnswersFrom, AnswersOn, IsSeen, IsSight, EntryView}
use Rattle.lr_cmd_shelf.specs.Queries.{Whole, Wrong, Absent, query_over, entry_at}
use Rattle.lr_cmd_shelf.specs.Read.{reading_by}
use Rattle.lr_cmd_shelf.specs.Runs.{RunsOver, TakesAll}
use Rattle.lr_cmd_render.specs.Render.{image_text, render_query}
use Rattle.lr_cmd_render.specs.Rendered.{HasRendered, IsRendered, IsTextOf, RenderPutsImages, Renders, images_text}
use Rattle.lr_cmd_shelf.proofs.Answering.{ok_is, ok_or_err, some_is, some_or_none}

get_or_drop_one : (texts : List (List ℕ)) (i : ℕ) → get_or (drop 1 texts) i [] ≡ get_or texts (suc i) []
get_or_drop_one [] i = refl
get_or_drop_one (text ∷ texts) i = refl

looked_image : (bytes : List ℕ) (entry : Entry) (opened : Opened) (image : Option (Result Picture ImageFault))
    → opened.image ≡ image → IsLooked true opened.stored.file image
    → IsSeen each_image bytes entry (Some (Whole opened)) → IsTextOf bytes entry (image_text opened.image)
looked_image bytes entry opened (Some outcome) is looked seen =
    inr (record { stored = opened.stored; found = seen.0; outcome = outcome; has = looked; is = ap image_text is })
looked_image bytes entry opened None is looked seen = absurd looked

text_of : (bytes : List ℕ) (way : Way) (number : ℕ) (read : List EntryView) (seen : EntryView) (text : List ℕ)
    → IsSeen each_image bytes (entry_at way number) (Some seen)
    → render_query.fate read number seen ≡ Ok text → IsTextOf bytes (entry_at way number) text
text_of bytes way number read (Whole opened) text seen fate =
    subst (IsTextOf bytes (entry_at way number))
    (ok_is (Ok (image_text opened.image)) (image_text opened.image) text refl fate)
    (looked_image bytes (entry_at way number) opened opened.image refl seen.1 seen)
text_of bytes way number read (Wrong stored computed) text seen fate =
    absurd (ok_or_err (Err BadChecksum) text BadChecksum fate refl)
text_of bytes way number read Absent text seen fate = inl (seen, ok_is (Ok text) text [] refl (sym fate))

rendered : (bytes : List ℕ) (way : Way) (left number : ℕ) (read : List EntryView) (answer : Answer)
    → AnswersFrom (query_over render_query bytes way) left number read answer → answer.refusal ≡ None
    → IsRendered bytes way left number answer.text
rendered bytes way zero number read answer is sound = ap (λ (a : Answer). a.text) is
rendered bytes way (suc left) number read answer (inl goes) sound =
    let same : goes.rest.refusal ≡ None = sym (ap (λ (a : Answer). a.refusal) goes.is) ∙ sound in
    record {
      one = goes.text;
      is_one = text_of bytes way number read goes.seen goes.text goes.stands goes.fate;
      others = goes.rest.text;
      are_others = rendered bytes way left (number + 1) (read ++ goes.seen ∷ []) goes.rest goes.after same;
      joined = ap (λ (a : Answer). a.text) goes.is;
    }
rendered bytes way (suc left) number read answer (inr stops) sound =
    absurd (some_or_none answer.refusal stops.refusal (ap (λ (a : Answer). a.refusal) stops.is) sound)

pub render_puts_images : RenderPutsImages
render_puts_images bytes way answer is (inl none) sound = absurd ((has_one_way bytes).none way none.0 is none.1)
render_puts_images bytes way answer is (inr some) sound =
    let on = subst (λ (w : Way). AnswersOn (query_over render_query bytes w) answer)
    ((has_one_way bytes).way some.0 way some.1 is)
    some.2 in
    subst (λ (n : ℕ). IsRendered bytes way n 0 answer.text) (sub-zero (length way.entries))
    (rendered bytes way (length way.entries - 0) 0 [] answer on sound)

-- ---- what a run that is done put

-- the text of an entry, by what was seen there
abbrev IsTextSeen : EntryView → List ℕ → Type 0
IsTextSeen (Whole opened) text = text ≡ image_text opened.image
IsTextSeen (Wrong stored computed) text = ⊥
IsTextSeen Absent text = text ≡ []

text_seen : (read : List EntryView) (number : ℕ) (seen : EntryView) (text : List ℕ)
    → render_query.fate read number seen ≡ Ok text → IsTextSeen seen text
text_seen read number (Whole opened) text fate =
    sym (ok_is (Ok (image_text opened.image)) (image_text opened.image) text refl fate)
text_seen read number (Wrong stored computed) text fate =
    absurd (ok_or_err (Err BadChecksum) text BadChecksum fate refl)
text_seen read number Absent text fate = sym (ok_is (Ok []) [] text refl fate)

-- each has its text
abbrev AreTexts : List EntryView → List (List ℕ) → Type 0
AreTexts read texts = (i : ℕ) (one : EntryView) → slice_get read i ≡ Some one → IsTextSeen one (get_or texts i [])

joined_texts : (read : List EntryView) (texts : List (List ℕ)) → length texts ≡ length read → AreTexts read texts
    → concat texts ≡ images_text (files_of read)
joined_texts [] [] same are = refl
joined_texts [] (text ∷ texts) same are = absurd (omega (arith, same))
joined_texts (seen ∷ read) [] same are = absurd (omega (arith, same))
joined_texts (Whole opened ∷ read) (text ∷ texts) same are =
    ap (λ (l : List ℕ). l ++ concat texts) (are 0 (Whole opened) refl)
    ∙ ap (λ (l : List ℕ). image_text opened.image ++ l)
    (joined_texts read texts (omega (arith, same)) (λ i one is. are (suc i) one is))
joined_texts (Wrong stored computed ∷ read) (text ∷ texts) same are = absurd (are 0 (Wrong stored computed) refl)
joined_texts (Absent ∷ read) (text ∷ texts) same are =
    ap (λ (l : List ℕ). l ++ concat texts) (are 0 Absent refl)
    ∙ joined_texts read texts (omega (arith, same)) (λ i one is. are (suc i) one is)

abbrev IsFoundOf : Opened → Type 0
IsFoundOf opened = each_image opened.stored opened.image

all_more : (opened : Opened) (files : List Opened) → IsFoundOf opened → All IsFoundOf files
    → All IsFoundOf (opened ∷ files)
all_more opened files found all zero d inside = found
all_more opened files found all (suc k) d inside = all k d (omega (arith, inside))

all_found : (read : List EntryView) → ((i : ℕ) → i < length read → IsSight each_image (slice_get read i))
    → All IsFoundOf (files_of read)
all_found [] sights = λ k d inside. absurd (omega (arith, inside))
all_found (Whole opened ∷ read) sights =
    all_more opened (files_of read) (sights 0 (omega arith))
    (all_found read (λ i inside. sights (suc i) (omega (arith, inside))))
all_found (Wrong stored computed ∷ read) sights =
    all_found read (λ i inside. sights (suc i) (omega (arith, inside)))
all_found (Absent ∷ read) sights = all_found read (λ i inside. sights (suc i) (omega (arith, inside)))

module _ (bytes : List ℕ) (way : Way) where
  first_rendered : (left number : ℕ) (seen : EntryView) (read : List EntryView) (text : List ℕ)
      → IsSeen each_image bytes (entry_at way number) (Some seen) → IsTextSeen seen text
      → IsRendered bytes way left (number + 1) (images_text (files_of read))
      → IsRendered bytes way (suc left) number (images_text (files_of (seen ∷ read)))
  first_rendered left number (Whole opened) read text stands is rest = record {
    one = image_text opened.image;
    is_one = looked_image bytes (entry_at way number) opened opened.image refl stands.1 stands;
    others = images_text (files_of read);
    are_others = rest;
    joined = refl;
  }
  first_rendered left number (Wrong stored computed) read text stands is rest = absurd is
  first_rendered left number Absent read text stands is rest = record {
    one = [];
    is_one = inl (stands, refl);
    others = images_text (files_of read);
    are_others = rest;
    joined = refl;
  }

  all_rendered : (left number : ℕ) (read : List EntryView) (texts : List (List ℕ)) → length read ≡ left
      → AreTexts read texts
      → ((i : ℕ) → i < length read → IsSeen each_image bytes (entry_at way (number + i)) (slice_get read i))
      → IsRendered bytes way left number (images_text (files_of read))
  all_rendered zero number [] texts all are stand = refl
  all_rendered (suc left) number [] texts all are stand = absurd (omega (arith, all))
  all_rendered zero number (seen ∷ read) texts all are stand = absurd (omega (arith, all))
  all_rendered (suc left) number (seen ∷ read) texts all are stand =
      first_rendered left number seen read (get_or texts 0 [])
      (subst (λ n. IsSeen each_image bytes (entry_at way n) (Some seen)) (omega arith) (stand 0 (omega arith)))
      (are 0 seen refl)
      (all_rendered left (number + 1) read (drop 1 texts) (omega (arith, all))
      (λ i one is. subst (IsTextSeen one) (sym (get_or_drop_one texts i)) (are (suc i) one is))
      (λ i h. subst (λ n. IsSeen each_image bytes (entry_at way n) (slice_get read i)) (omega arith)
      (stand (suc i) (omega (arith, h)))))

module _ {D O : Type 0} (world : OutletsOf D O) (w w' : Outlets D O) where
  puts_rendered : (note : Note) → TakesAll world (reading_by render_query) w w' (Some note)
      → HasRendered world (DoneWith note) w w'
  puts_rendered note all =
      let taken = all.taken in
      let files = files_of taken.read in
      let range : taken.range ≡ record { from = 0; to = length taken.way.entries } =
      some_is taken.range _ (sym taken.allowed) in
      let start : taken.range.from ≡ 0 = ap (λ (r : Range). r.from) range in
      let whole : taken.range.to ≡ length taken.way.entries = ap (λ (r : Range). r.to) range in
      let are : AreTexts taken.read taken.texts =
      λ i one is. text_seen (take i taken.read) (taken.range.from + i) one (get_or taken.texts i [])
      (taken.are.become i one is) in
      let last : all.last ≡ [] = sym (ok_is (Ok []) [] all.last refl all.ends.is) in
      let text : concat taken.texts ++ all.last ≡ images_text files =
      ap (λ (l : List ℕ). concat taken.texts ++ l) last ∙ append-nil (concat taken.texts)
      ∙ joined_texts taken.read taken.texts taken.are.count are in
      record {
        files = files;
        found = all_found taken.read (λ i inside. (taken.are.stand i inside).sight);
        put = λ told. all.put told ∙ ap (λ (l : List ℕ). world.out.contents w.out ++ l) text;
        counted = ap DoneWith (some_is note _ (sym all.note_is));
        are = λ t. (
          taken.way,
          taken.is_way t,
          all_rendered (world.disk.contents w.disk) taken.way (length taken.way.entries) 0 taken.read taken.texts
              (omega (arith, all.ends.all, start, whole)) are
              (λ i inside. subst (λ n. IsSeen each_image (world.disk.contents w.disk) (entry_at taken.way (n + i))
              (slice_get taken.read i)) start ((taken.are.stand i inside).stands t)),
        );
      }

  pub has_rendered : (cause : Cause) → RunsOver world render_query cause w w' → Renders world cause w w'
  has_rendered Done runs done = absurd (some_or_none _ _ refl runs.runs.takes.note_is)
  has_rendered (DoneWith note) runs done = puts_rendered note runs.runs.takes
  has_rendered _ runs done = absurd done
