-- What is gathered of the segments of an image.
use Rattle.std.proofs.Common.{◌≡◌, ◌<◌, ◌≤◌, ◌+◌, ℕ, Bool, true, false, cond, Option, Some, None, Result, Ok, Err}
use Rattle.std.proofs.Common.{List, [], ◌∷◌, ◌++◌, length, refl, sym, ap, ◌∙◌, subst, arith, eq-eqb, ◌^◌}
use Rattle.std.proofs.Common.{IfOk, IfErr}
use Rattle.std.specs.Prelude.{◌≢◌}
use Rattle.std.specs.List.{cons_option}
use Rattle.lr_bits.specs.declared.refusals.NoMemory.{NoMemory as NoMemory''}
use Rattle.std.proofs.lemmas.List.{append-nil}
use Rattle.std.proofs.lemmas.List.Elements.{filter_map-append}
use Rattle.std.proofs.lemmas.List.Sums.{count_by-le-length, sum_by-append}
use Rattle.std.proofs.lemmas.Bool.{ne_eqb}
use Rattle.lr_bits.specs.File.{File, proper_of}
use Rattle.lr_catalog.proofs.Faults.{is_fault}
use Rattle.lr_headers.proofs.Readings.{header_is}
use Rattle.lr_headers.specs.Fields.{segment_of}
use Rattle.lr_headers.specs.Tiling.{Header, HasHeaderFaultOrMemory, IsHeaderOf}
use Rattle.lr_headers.specs.declared.fault.HeaderFault.{HeaderFault}
use Rattle.lr_headers.specs.declared.fault.HeaderFault.TheVariants.{NoMemory as NoMemory'}
use Rattle.lr_headers.specs.declared.fields.Segment.{Segment}
use Rattle.lr_image.specs.Pgm.{pgm_text}
use Rattle.lr_io.specs.declared.sink.Sink.{Ghosts as SinkOf}
use Rattle.lr_segment.specs.Canvas.{Member, whole_picture}
use Rattle.lr_causes.specs.declared.cause.Cause.{Cause}
use Rattle.lr_causes.specs.declared.cause.Cause.TheVariants.{Done, DoneWith, Usage, Failed, NoMemory, Refused}
use Rattle.lr_causes.specs.declared.cause.Party.TheVariants.{Source, Disk, Output}
use Rattle.lr_causes.specs.declared.cause.Refusal.{Refusal}
use Rattle.lr_cmd_shelf.specs.declared.gathering.Gathering.{Gathering}
use Rattle.lr_cmd_shelf.specs.declared.opened.Opened.{Opened}
use Rattle.lr_cmd_shelf.specs.Assemble.{whole_fate, if_of, is_without, member_of, members_of}
use Rattle.lr_cmd_shelf.specs.Assemble.{segment_for_image, segment_read, skipped_of}
use Rattle.lr_cmd_shelf.specs.Gathered.{GathersMembers, IsStop, with_member, with_skipped}
use Rattle.lr_cmd_shelf.specs.Steps.{PutsText, TextStops}
use Rattle.lr_cmd_shelf.proofs.Exporting.{pgm_some}
use Rattle.lr_causes.proofs.Joining.{puts_none}

-- ---- the segment of a file

module _ (apid image : ℕ) (file : File) where
  pub other_application : (file.apid ≡ apid → ⊥) → None ≡ segment_for_image apid image file
  unfolding segment_for_image
  other_application other = rw (ne_eqb file.apid apid other) refl

  module _ (same : file.apid ≡ apid) where
    no_header : (fault : HeaderFault) → HasHeaderFaultOrMemory (proper_of file) fault → (fault ≡ NoMemory' → ⊥)
        → None ≡ segment_for_image apid image file
    unfolding segment_for_image
    no_header fault has not = rw (eq-eqb file.apid apid same, is_fault (proper_of file) fault has not) refl

    of_header : (header : Header) → IsHeaderOf (proper_of file) header → (segment : Option Segment)
        → segment ≡ segment_of header → if_of image segment ≡ segment_for_image apid image file
    unfolding segment_for_image
    of_header header is segment of = rw (eq-eqb file.apid apid same, header_is (proper_of file) header is, of) refl

    -- by how the header was read, where memory wasn't wanting for that
    pub segment_is : (read : Result Header HeaderFault) (given : Result (Option Segment) NoMemory'')
        → IfOk read (IsHeaderOf (proper_of file)) → IfErr read (HasHeaderFaultOrMemory (proper_of file))
        → IfOk given (λ segment. (segment ≡ if_of image (segment_read read)) × (read ≢ Err NoMemory'))
        → IfOk given (λ segment. segment ≡ segment_for_image apid image file)
    segment_is read (Err none) is has made = tt
    segment_is (Ok header) (Ok segment) is has made = made.0 ∙ of_header header is (segment_of header) refl
    segment_is (Err fault) (Ok segment) is has made = made.0 ∙ no_header fault has (λ e. made.1 (ap Err e))

-- ---- one file more

one_more : (members : List Member) (o : Option Member) → members ++ cons_option o [] ≡ with_member members o
one_more members None = append-nil members
one_more members (Some m) = refl

length-cons_option : (o : Option Member) (members : List Member) → length (cons_option o members) ≤ length members + 1
length-cons_option None members = omega arith
length-cons_option (Some m) members = omega arith

count_more : (count : ℕ) (b : Bool) → count + (0 + cond b 1 0) ≡ with_skipped count b
count_more count true = omega arith
count_more count false = omega arith

module _ (apid image : ℕ) where
  members_more : (read : List Opened) (opened : Opened)
      → members_of apid image (read ++ opened ∷ [])
      ≡ with_member (members_of apid image read) (member_of apid image opened)
  members_more read opened =
      filter_map-append (member_of apid image) read (opened ∷ [])
      ∙ one_more (members_of apid image read) (member_of apid image opened)

  skipped_more : (read : List Opened) (opened : Opened)
      → skipped_of apid image (read ++ opened ∷ [])
      ≡ with_skipped (skipped_of apid image read)
      (is_without (segment_for_image apid image opened.stored.file) opened.image)
  skipped_more read opened =
      sum_by-append (λ (o : Opened). cond (is_without (segment_for_image apid image o.stored.file) o.image) 1 0) read
      (opened ∷ [])
      ∙ count_more (skipped_of apid image read)
      (is_without (segment_for_image apid image opened.stored.file) opened.image)

  few_members : (read : List Opened) → length (members_of apid image read) ≤ length read
  few_members [] = omega arith
  few_members (opened ∷ read) =
      omega (arith, few_members read, length-cons_option (member_of apid image opened) (members_of apid image read))

  -- what was gathered, of one file more
  pub gathers_more : (read : List Opened) (opened : Opened) (gathering : Gathering)
      → GathersMembers (with_member (members_of apid image read) (member_of apid image opened))
      (with_skipped (skipped_of apid image read)
      (is_without (segment_for_image apid image opened.stored.file) opened.image))
      gathering
      → GathersMembers (members_of apid image (read ++ opened ∷ [])) (skipped_of apid image (read ++ opened ∷ []))
      gathering
  gathers_more read opened gathering gathers =
      subst (λ n. GathersMembers (members_of apid image (read ++ opened ∷ [])) n gathering)
      (sym (skipped_more read opened))
      (subst
      (λ (l : List Member). GathersMembers l (with_skipped (skipped_of apid image read)
      (is_without (segment_for_image apid image opened.stored.file) opened.image)) gathering)
      (sym (members_more read opened)) gathers)

  pub can_count : (read : List Opened) → length read + 1 < 2 ^ 64
      → (length (members_of apid image read) + 1 < 2 ^ 64) × (skipped_of apid image read + 1 < 2 ^ 64)
  can_count read few =
      let skipped =
      count_by-le-length (λ (o : Opened). is_without (segment_for_image apid image o.stored.file) o.image) read in
      (omega (arith, few, few_members read), omega (arith, few, skipped))

-- ---- why nothing was put

module _ {O : Type 0} (out : SinkOf O) (fate : Result (List ℕ) Refusal) (o : O) where
  pub puts_nothing : fate ≡ Ok [] → PutsText out fate o o
  puts_nothing is = record { text = []; is = is; puts = puts_none out o }

  pub stops_here : (cause : Cause) → IsStop fate cause → TextStops out fate cause o o
  stops_here NoMemory stop = refl
  stops_here (Refused refusal) stop = (stop, refl)
  stops_here Done stop = absurd stop
  stops_here (DoneWith told) stop = absurd stop
  stops_here Usage stop = absurd stop
  stops_here (Failed Source) stop = absurd stop
  stops_here (Failed Disk) stop = absurd stop
  stops_here (Failed Output) stop = absurd stop

-- ---- the last text

-- it isn't empty
pub assembled_some : (members : List Member) → whole_fate members ≡ Ok [] → ⊥
assembled_some [] is = cc (is)
assembled_some (first ∷ members) is =
    let picture = whole_picture first (first ∷ members) in
    let none : pgm_text picture ≡ [] = in_ok (pgm_text picture) is in
    omega (arith, pgm_some picture, ap (λ (l : List ℕ). length l) none) where
      in_ok : (text : List ℕ) → ◌≡◌ {A = Result (List ℕ) Refusal} (Ok text) (Ok []) → text ≡ []
      in_ok text same = cc (same)
