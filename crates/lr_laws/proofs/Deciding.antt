-- The commands that add an item decide one thing of each shelf.
use Rattle.std.proofs.Common.{◌≡◌, ℕ, zero, suc, ◌+◌, ◌*◌, ◌<◌, Bool, true, false, cond, Option, Some, None, Result}
use Rattle.std.proofs.Common.{Ok, Err, List, [], ◌∷◌, ◌++◌, length, map, All, refl, sym, ap, ◌∙◌, subst, arith}
use Rattle.std.proofs.Common.{inl, inr, drop, option_map}
use Rattle.std.specs.List.{flat_map}
use Rattle.std.proofs.lemmas.Bool.{cases_lt}
use Rattle.std.proofs.lemmas.List.{get_or_past}
use Rattle.byteorder.specs.Endian.{big_bytes}
use Rattle.lr_bits.specs.Crc.{crc_of}
use Rattle.lr_bits.specs.File.{File, IsFile, bytes_of}
use Rattle.lr_headers.specs.Tiling.{Header}
use Rattle.lr_headers.specs.Fields.{file_type, lossless_of, structure_of}
use Rattle.lr_headers.specs.declared.fields.Lossless.{Lossless}
use Rattle.lr_headers.specs.declared.fields.Structure.{Structure}
use Rattle.lr_rice.specs.CodedLines.{Form}
use Rattle.lr_image.specs.Images.{HasImageFault, LacksPixels}
use Rattle.lr_image.specs.Pieces.{PieceSite, PiecesFail, first_site, next_site}
use Rattle.lr_image.specs.Shapes.{coded_shape, lossless_fault, lossless_shape, plain_shape, shape_of, size_fault}
use Rattle.lr_image.specs.Shapes.{structured_shape, unless}
use Rattle.lr_image.specs.declared.fault.ImageFault.{ImageFault}
use Rattle.lr_image.specs.declared.fault.ImageFault.TheVariants.{BlockSize as BlockSize'}
use Rattle.lr_image.specs.declared.fault.ImageFault.TheVariants.{Compression as Compression', Depth as Depth'}
use Rattle.lr_image.specs.declared.fault.ImageFault.TheVariants.{Empty as Empty', Encrypted as Encrypted'}
use Rattle.lr_image.specs.declared.fault.ImageFault.TheVariants.{Flags as Flags'}
use Rattle.lr_image.specs.declared.fault.ImageFault.TheVariants.{LinesPerPacket as LinesPerPacket'}
use Rattle.lr_image.specs.declared.fault.ImageFault.TheVariants.{NoMemory, NotImage as NotImage'}
use Rattle.lr_image.specs.declared.fault.ImageFault.TheVariants.{TooLarge as TooLarge'}
use Rattle.lr_image.specs.declared.shape.Shape.{Shape}
use Rattle.lr_bits.specs.declared.placed.Origin.{Origin}
use Rattle.lr_shelf_format.specs.Items.{Holds, IsItem, add_bytes, item_bytes, item_of_file, item_of_stored, old_bytes}
use Rattle.lr_shelf_format.specs.Record.{body_of, bytes_of_head, head_of_file, origin_bytes}
use Rattle.lr_shelf_format.specs.Way.{Bad, EntryState, Gone, IsFound, Sound, Way, item_at}
use Rattle.lr_shelf_format.specs.declared.stored.Stored.{Stored}
use Rattle.lr_shelf_format.proofs.SomeEntry.{some_found}
use Rattle.lr_shelf_format.proofs.WayLemmas.{found_once}
use Rattle.lr_rice_coder.specs.Coded.{IsBlockSize}
use Rattle.lr_rice_coder.specs.Refusals.{HasRepackFault, HasRepackOutcome}
use Rattle.lr_rice_coder.specs.declared.fault.RepackFault.{RepackFault}
use Rattle.lr_rice_coder.specs.declared.fault.RepackFault.TheVariants as fault
use Rattle.lr_rice_coder.proofs.OneRepack.{repacks_are_one}
use Rattle.lr_refusals.specs.Errors.{image_fault}
use Rattle.lr_causes.specs.declared.cause.Refusal.{Refusal}
use Rattle.lr_causes.specs.declared.cause.Refusal.TheVariants.{BadChecksum, CannotExport, CannotRepack, Discarded}
use Rattle.lr_causes.specs.declared.cause.Refusal.TheVariants.{NoSuchFile, NotAShelf}
use Rattle.lr_causes.specs.declared.fault.CodingFault.TheVariants.{Depth, File as LongFile, Header as LongHeader}
use Rattle.lr_causes.specs.declared.fault.CodingFault.TheVariants.{Line}
use Rattle.lr_causes.specs.declared.fault.ExportFault.{ExportFault}
use Rattle.lr_cmd_shelf.specs.Adding.{Addition}
use Rattle.lr_cmd_shelf.specs.Discard.{discard_addition, discard_query}
use Rattle.lr_cmd_shelf.specs.Queries.{entry_at}
use Rattle.lr_cmd_shelf.specs.Repack.{DecidesCoded, DecidesFound, repack_addition, repack_query}
use Rattle.lr_cmd_shelf.specs.Repack.{repack_refusal}
use Rattle.lr_laws.proofs.Repacking.{Small, dropped_small, places_small, repacks_have_outcomes, small_places}
use Rattle.lr_laws.proofs.Repacking.{taken_small}
use Rattle.lr_laws.specs.Additions.{AdditionsAreDecided, AdditionsAreOne, HasDecision, IsDecidedOnce}

-- ---- no image lacks memory

abbrev Lacks : Option ImageFault → Type 0
Lacks fault = fault ≡ Some NoMemory

-- a fault that is there under a condition, and others else
either : (b : Bool) (fault : ImageFault) (others : Option ImageFault) → (Some fault ≡ Some NoMemory → ⊥)
    → (Lacks others → ⊥) → Lacks (cond b (Some fault) others) → ⊥
either true fault others one two is = one is
either false fault others one two is = two is

size_lacks : (least : ℕ) (s : Structure) → Lacks (size_fault least s) → ⊥
unfolding size_fault
size_lacks least s =
    either _ (Depth' s.bits) _ (λ is. cc (is))
    (either _ Empty' _ (λ is. cc (is))
    (either _ (TooLarge' (s.columns * s.lines)) None (λ is. cc (is)) (λ is. cc (is))))

lossless_lacks : (l : Lossless) → Lacks (lossless_fault l) → ⊥
unfolding lossless_fault
lossless_lacks l =
    either _ (Flags' l.flags) _ (λ is. cc (is))
    (either _ (BlockSize' l.block) _ (λ is. cc (is)) (either _ LinesPerPacket' None (λ is. cc (is)) (λ is. cc (is))))

abbrev Fails : Result Shape ImageFault → Type 0
Fails shape = shape ≡ Err NoMemory

unless_fails : (fault : Option ImageFault) (shape : Result Shape ImageFault) → (Lacks fault → ⊥) → (Fails shape → ⊥)
    → Fails (unless fault shape) → ⊥
unless_fails (Some fault) shape one two is = one (cc (is))
unless_fails None shape one two is = two is

chosen : (b : Bool) (one other : Result Shape ImageFault) → (Fails one → ⊥) → (Fails other → ⊥)
    → Fails (cond b one other) → ⊥
chosen true one other first second is = first is
chosen false one other first second is = second is

lossless_fails : (s : Structure) (l : Option Lossless) → Fails (lossless_shape s l) → ⊥
lossless_fails s None is = cc (is)
lossless_fails s (Some l) is =
    let shape : Result Shape ImageFault = Ok (record { structure = s; lossless = Some l }) in
    unless_fails (size_fault 5 s) (unless (lossless_fault l) shape) (size_lacks 5 s)
    (unless_fails (lossless_fault l) shape (lossless_lacks l) (λ no. cc (no))) is

coded_fails : (s : Structure) (l : Option Lossless) → Fails (coded_shape s l) → ⊥
coded_fails s l =
    chosen _ (plain_shape s) _
    (unless_fails (size_fault 1 s) (Ok (record { structure = s; lossless = None })) (size_lacks 1 s) (λ no. cc (no)))
    (chosen _ (lossless_shape s l) (Err (Compression' s.compression)) (lossless_fails s l) (λ no. cc (no)))

structured_fails : (s : Option Structure) (header : Header) → Fails (structured_shape s header) → ⊥
structured_fails None header is = cc (is)
structured_fails (Some s) header is =
    chosen _ (Err Encrypted') (coded_shape s (lossless_of header)) (λ no. cc (no))
    (coded_fails s (lossless_of header)) is

shape_fails : (header : Header) → Fails (shape_of header) → ⊥
shape_fails header =
    chosen _ (Err (NotImage' (file_type header))) (structured_shape (structure_of header) header) (λ no. cc (no))
    (structured_fails (structure_of header) header)

pieces_fail : (form : Form) (each : ℕ) (at : PieceSite) (pieces : List (List ℕ))
    → PiecesFail form each at pieces NoMemory → ⊥
pieces_fail form each at [] fails = let is = fails.is_fault in cc (is)
pieces_fail form each at (piece ∷ pieces) (inl here) = let is = here.is_fault in cc (is)
pieces_fail form each at (piece ∷ pieces) (inr later) = pieces_fail form each (next_site each at) pieces later.later

pixels_lack : (file : File) (size : ℕ) (s : Structure) (l : Option Lossless) → LacksPixels file size s l NoMemory → ⊥
pixels_lack file size s None lacks = let is = lacks.is_fault in cc (is)
pixels_lack file size s (Some l) lacks = pieces_fail _ l.lines (first_site s.lines) _ lacks

no_memory : (file : File) → HasImageFault file NoMemory → ⊥
no_memory file (inl (inl none)) = let is = none.is_fault in cc (is)
no_memory file (inl (inr none)) = shape_fails none.header none.fails
no_memory file (inr lacks) =
    pixels_lack file lacks.layout.header_bytes lacks.layout.shape.structure lacks.layout.shape.lossless lacks.lacks

-- ---- a file that was refused

abbrev Refused : RepackFault → Type 0
Refused f = (refusal : Refusal) × (repack_refusal f ≡ Some refusal)

by_cause : (cause : ImageFault) → (cause ≡ NoMemory → ⊥) → (e : Option ExportFault) → image_fault cause ≡ e
    → Refused (fault.Image cause)
by_cause cause never (Some e) is = (CannotExport e, ap (option_map CannotExport) is)
by_cause cause never None is = absurd (never (none_is cause is))
  where
    none_is : (cause : ImageFault) → image_fault cause ≡ None → cause ≡ NoMemory
    none_is NoMemory is = refl
    none_is _ is = cc (is)

refused_for : (file : File) (block : ℕ) (f : RepackFault) → HasRepackFault file block f → Refused f
refused_for file block (fault.Image cause) has =
    by_cause cause (λ is. no_memory file (subst (λ (c : ImageFault). HasImageFault file c) is has))
    (image_fault cause) refl
refused_for file block (fault.Depth bits) has = (CannotRepack Depth, refl)
refused_for file block (fault.Line line) has = (CannotRepack Line, refl)
refused_for file block (fault.Header size) has = (CannotRepack LongHeader, refl)
refused_for file block (fault.File size) has = (CannotRepack LongFile, refl)
refused_for file block fault.NoMemory has = absurd has

-- ---- the bytes of a file that stands on a shelf

behind : (front rest : List ℕ) → Small (front ++ rest) → Small rest
behind [] rest small = small
behind (byte ∷ front) rest small = behind front rest (λ place. small (suc place))

before : (front rest : List ℕ) → Small (front ++ rest) → Small front
before [] rest small place = let none : List ℕ = [] in omega (arith, get_or_past none place 0 (omega arith))
before (byte ∷ front) rest small zero = small 0
before (byte ∷ front) rest small (suc place) = before front rest (λ k. small (suc k)) place

module _ (file : File) where
  abbrev lengths : List ℕ
  lengths = flat_map (big_bytes 2) (map length file.bodies)

  old_small : Small (old_bytes file) → Small (bytes_of file)
  unfolding old_bytes
  old_small small =
      let head = bytes_of_head (head_of_file file) in
      behind lengths (bytes_of file) (behind head (body_of file)
      (before (head ++ body_of file) (big_bytes 2 (crc_of (head ++ body_of file))) small))

  add_small : (origin : Origin) → Small (add_bytes file origin) → Small (bytes_of file)
  unfolding add_bytes
  add_small origin small =
      let head = bytes_of_head (head_of_file file) in
      let all = head ++ (origin_bytes origin ++ body_of file) in
      let content : List ℕ = 0x80 ∷ all in
      behind lengths (bytes_of file) (behind (origin_bytes origin) (body_of file) (behind head
      (origin_bytes origin ++ body_of file)
      (behind (0x80 ∷ []) all (before content (big_bytes 2 (crc_of content)) small))))

  file_small : (origin : Option Origin) → Small (item_bytes (item_of_file file origin)) → Small (bytes_of file)
  file_small None small = old_small small
  file_small (Some origin) small = add_small origin small

  is_file_by : (origin : Option Origin) → IsItem (item_of_file file origin) → IsFile file
  is_file_by None is = is
  is_file_by (Some origin) is = is.0

-- ---- what is decided

module _ (bytes : List ℕ) (way : Way) (number block : ℕ) where
  abbrev Found : Type 0
  Found = Option EntryState

  discard_by : (gone : Bool) → (entry_at way number).gone ≡ gone → number < length way.entries
      → HasDecision (discard_query number) bytes way
  discard_by true is there = (Err Discarded, inr (inl (there, is, refl)))
  discard_by false is there = (Ok (discard_addition number), inr (inr (record { there = there; stays = is }, refl)))

  discard_decided : HasDecision (discard_query number) bytes way
  discard_decided = elim (cases_lt number (length way.entries)) [
    | inl there ↦ discard_by (entry_at way number).gone refl there
    | inr past ↦ (Err (NoSuchFile (length way.entries)), inl (omega (arith, past), refl))
  ]

  -- what comes of a file that is coded anew, or refused
  coded_by : (stored : Stored) (outcome : Result File RepackFault) → HasRepackOutcome stored.file block outcome
      → (result : Result Addition Refusal) × DecidesCoded number way stored outcome result
  coded_by stored (Ok new) has = (Ok (repack_addition number way stored new), refl)
  coded_by stored (Err f) has =
      let there = refused_for stored.file block f has in (Err there.0, (there.0, there.1, refl))

  module _ (fit : All (λ byte. byte < 256) bytes) (is_block : IsBlockSize block) where
    stored_by : (stored : Stored) → Holds (item_at bytes (entry_at way number)) stored
        → (result : Result Addition Refusal) × DecidesFound number block way (Some (Sound stored)) result
    stored_by stored holds =
        let entry = entry_at way number in
        let item : Small (item_at bytes entry) =
        taken_small entry.extent (drop (entry.gate + 1) bytes)
        (dropped_small (entry.gate + 1) bytes (small_places bytes fit)) in
        let all : Small (item_bytes (item_of_stored stored)) = subst Small (sym holds.bytes_are) item in
        let there = repacks_have_outcomes stored.file block (is_file_by stored.file stored.origin holds.is_item)
        (places_small (bytes_of stored.file) (file_small stored.file stored.origin all)) is_block in
        let coded = coded_by stored there.0 there.1 in
        (coded.0, (there.0, there.1, coded.1))

    found_by : (found : Found) → IsFound bytes (entry_at way number) found
        → (result : Result Addition Refusal) × DecidesFound number block way found result
    found_by None is = (Err (NotAShelf (entry_at way number).gate), refl)
    found_by (Some Gone) is = (Err Discarded, refl)
    found_by (Some (Bad stored computed)) is = (Err BadChecksum, refl)
    found_by (Some (Sound stored)) is = stored_by stored is.2

    repack_decided : HasDecision (repack_query number block) bytes way
    repack_decided = elim (cases_lt number (length way.entries)) [
      | inl there ↦
          let found = some_found bytes fit (entry_at way number) in
          let decided = found_by found.0 found.1 in
          (decided.0, inr (there, (found.0, found.1, decided.1)))
      | inr past ↦ (Err (NoSuchFile (length way.entries)), inl (omega (arith, past), refl))
    ]

  -- ---- and nothing else

  no_both : (gone : Bool) → gone ≡ false → gone ≡ true → ⊥
  no_both gone stays is = cc (stays, is)

  discard_once : IsDecidedOnce (discard_query number) bytes way
  discard_once one other (inl a) (inl b) = a.1 ∙ sym b.1
  discard_once one other (inl a) (inr (inl b)) = absurd (omega (arith, a.0, b.0))
  discard_once one other (inl a) (inr (inr b)) = absurd (omega (arith, a.0, b.0.there))
  discard_once one other (inr (inl a)) (inl b) = absurd (omega (arith, a.0, b.0))
  discard_once one other (inr (inl a)) (inr (inl b)) = a.2 ∙ sym b.2
  discard_once one other (inr (inl a)) (inr (inr b)) = absurd (no_both _ b.0.stays a.1)
  discard_once one other (inr (inr a)) (inl b) = absurd (omega (arith, a.0.there, b.0))
  discard_once one other (inr (inr a)) (inr (inl b)) = absurd (no_both _ a.0.stays b.1)
  discard_once one other (inr (inr a)) (inr (inr b)) = a.1 ∙ sym b.1

  some_same : (a b : Refusal) → Some a ≡ Some b → a ≡ b
  some_same a b is = cc (is)

  coded_once : (stored : Stored) (outcome : Result File RepackFault) (one other : Result Addition Refusal)
      → DecidesCoded number way stored outcome one → DecidesCoded number way stored outcome other → one ≡ other
  coded_once stored (Ok new) one other a b = a ∙ sym b
  coded_once stored (Err f) one other a b =
      a.2 ∙ ap (λ (r : Refusal). Err r) (some_same a.0 b.0 (sym a.1 ∙ b.1)) ∙ sym b.2

  found_decides_once : (found : Found) (one other : Result Addition Refusal) → DecidesFound number block way found one
      → DecidesFound number block way found other → one ≡ other
  found_decides_once None one other a b = a ∙ sym b
  found_decides_once (Some Gone) one other a b = a ∙ sym b
  found_decides_once (Some (Bad stored computed)) one other a b = a ∙ sym b
  found_decides_once (Some (Sound stored)) one other a b =
      let same = repacks_are_one stored.file block a.0 b.0 a.1 b.1 in
      coded_once stored b.0 one other
      (subst (λ (o : Result File RepackFault). DecidesCoded number way stored o one) same a.2) b.2

  repack_once : IsDecidedOnce (repack_query number block) bytes way
  repack_once one other (inl a) (inl b) = a.1 ∙ sym b.1
  repack_once one other (inl a) (inr b) = absurd (omega (arith, a.0, b.0))
  repack_once one other (inr a) (inl b) = absurd (omega (arith, a.0, b.0))
  repack_once one other (inr a) (inr b) =
      let same = found_once bytes (entry_at way number) a.1.0 b.1.0 a.1.1 b.1.1 in
      found_decides_once b.1.0 one other
      (subst (λ (f : Found). DecidesFound number block way f one) same a.1.2) b.1.2

pub additions_are_decided : AdditionsAreDecided
additions_are_decided bytes way number block fit is is_block =
    (discard_decided bytes way number block, repack_decided bytes way number block fit is_block)

pub additions_are_one : AdditionsAreOne
additions_are_one bytes way number block = (discard_once bytes way number block, repack_once bytes way number block)
