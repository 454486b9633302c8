-- Only files with the header of an image have fillers.
use Rattle.std.proofs.Common.{◌≡◌, ℕ, zero, suc, ◌<◌, Bool, true, false, cond, eqb, ◌&&◌, ◌||◌, Option}
use Rattle.std.proofs.Common.{Some, None, List, [], ◌∷◌, ◌++◌, length, map, drop, refl, sym, ap, ◌∙◌, subst, arith}
use Rattle.std.proofs.Common.{append_assoc, length-drop, Result, Ok, Err}
use Rattle.std.specs.Prelude.{option_and_then, option_to_list}
use Rattle.std.specs.List.{concat}
use Rattle.std.proofs.lemmas.List.{append-nil, drop-append-le, map-append}
use Rattle.lr_packet.specs.Verdict.{Good}
use Rattle.lr_bits.specs.File.{File, proper_of}
use Rattle.lr_file.specs.Files.{file_at}
use Rattle.lr_mend.specs.Laws.{packet_mended}
use Rattle.lr_mend.specs.Mending.{Filling, Image, Mended, begins_file, came, count_after, fillers_from}
use Rattle.lr_mend.specs.Mending.{filling_before, gap_before, gap_of}
use Rattle.lr_mend.specs.Mending.{fillers_before, filler_of, mended_packets, open_image}
use Rattle.lr_mend.specs.Openings.{Opening, opening_by, opening_in, opening_of}
use Rattle.lr_mend.specs.Marks.{mark_text, marked, whole_file}
use Rattle.lr_mend.specs.MendedFiles.{file_of_packet, files_ending, files_of_gap, mended_file, mended_files}
use Rattle.lr_mend.specs.MendedFiles.{mended_files_after}
use Rattle.lr_mend.specs.Seams.{Seams, seams_of}
use Rattle.lr_mend.specs.declared.marks.MarkedFile.{MarkedFile}
use Rattle.lr_headers.specs.Headers.{header_of}
use Rattle.lr_headers.specs.Tiling.{Header, IsHeaderOf}
use Rattle.lr_headers.specs.declared.fault.HeaderFault.{HeaderFault}
use Rattle.lr_headers.proofs.Readings.{header_is, headers_are_read}
use Rattle.lr_image.specs.Shapes.{shape_of}
use Rattle.lr_image.specs.declared.fault.ImageFault.{ImageFault}
use Rattle.lr_image.specs.declared.shape.Shape.{Shape}
use Rattle.std.specs.Prelude.{All}
use Rattle.std.proofs.lemmas.List.Elements.{All-append, All-cons, All-nil}
use Rattle.lr_laws.specs.OnlyImages.{IsOfImage, OnlyImages}
use Rattle.lr_laws.proofs.LongerHeaders.{after, is_long}
use Rattle.lr_laws.proofs.LongerHeaders.{header_longer}
use Rattle.lr_laws.proofs.MarkedHeaders.{is_marked, marked_header_is, of_header}
use Rattle.lr_laws.proofs.MarkedShapes.{same_shape}
use Rattle.lr_mend.proofs.PlainFiles.{files_more}
use Rattle.lr_mend.proofs.StayingFiles.{heard, heard-more, unflagged}
use Rattle.lr_mend.proofs.FewFillers.{came_count, came_seams, count_of}
use Rattle.lr_mend.proofs.FewFillers.{same_self}
use Rattle.lr_laws.proofs.FirstPackets.{is_of_key}
use Rattle.lr_laws.proofs.FirstPackets.{HasFirst, Opens, begun, first_is, latest, latest-one, latest-own, opened}
use Rattle.lr_laws.proofs.FirstPackets.{opened_before, still}

-- ---- what an opening says of the header

pub record Read (proper : List ℕ) (read : Result Header HeaderFault) : Type 0 where
  pub header : Header
  pub is : read ≡ Ok header
  pub shape : Shape
  pub is_shape : shape_of header ≡ Ok shape

shape_read : (proper : List ℕ) (header : Header) (rest : List ℕ) (r : Result Shape ImageFault) → shape_of header ≡ r →
    (opening : Opening) → opening_by r rest ≡ Some opening → Read proper (Ok header)
shape_read proper header rest (Ok shape) is opening e =
    record { header = header; is = refl; shape = shape; is_shape = is }
shape_read proper header rest (Err fault) is opening e = cc

opening_read : (proper : List ℕ) (read : Result Header HeaderFault) (opening : Opening) →
    opening_in proper read ≡ Some opening → Read proper read
opening_read proper (Ok header) opening e =
    shape_read proper header (drop (length header.bytes) proper) (shape_of header) refl opening e
opening_read proper (Err fault) opening e = cc

pub opened_read : (body : List ℕ) (opening : Opening) → opening_of body ≡ Some opening →
    Read (drop 10 body) (header_of (drop 10 body))
unfolding opening_of
opened_read body opening e = opening_read (drop 10 body) (header_of (drop 10 body)) opening e

-- a marked file whose first body opens an image
module _ (file : File) (place : ℕ) (places : List ℕ) (m : MarkedFile) (marks : marked file (place ∷ places) ≡ Some m)
    (first : Good) (rest : List (List ℕ)) (split : file.bodies ≡ first.body ∷ rest) (opening : Opening)
    (opens : opening_of first.body ≡ Some opening) where
  it : Read (drop 10 first.body) (header_of (drop 10 first.body))
  it = opened_read first.body opening opens

  first_has : IsHeaderOf (drop 10 first.body) it.header
  first_has =
      of_header (drop 10 first.body) it.header (header_of (drop 10 first.body)) it.is
      (headers_are_read (drop 10 first.body))

  proper_is : drop 10 first.body ++ concat rest ≡ proper_of file
  proper_is =
      let long = is_long (drop 10 first.body) it.header first_has in
      sym (drop-append-le 10 first.body (concat rest) (omega (arith, long, length-drop 10 first.body)))
      ∙ ap (λ (bodies : List (List ℕ)). drop 10 (concat bodies)) (sym split)

  file_has : IsHeaderOf (proper_of file) it.header
  file_has =
      subst (λ (proper : List ℕ). IsHeaderOf proper it.header) proper_is
      (header_longer (drop 10 first.body) it.header first_has (concat rest))

  of_image : IsOfImage m.file
  of_image =
      let known = is_marked file place places m it.header file_has marks in
      let text = mark_text (place ∷ places) (length file.bodies) in
      record {
        header = after text it.header.bytes file_has.tiled.least known.few known.fits it.header;
        is_header = header_is (proper_of m.file) _ (marked_header_is file (place ∷ places) m it.header file_has known);
        shape = it.shape;
        is_shape = same_shape text it.header file_has.tiled known.few known.fits ∙ it.is_shape;
      }

-- ---- the files of mended packets

abbrev Wanted : MarkedFile → Type 0
Wanted m = 0 < m.fillers → IsOfImage m.file

same_begin : (o : Option Good) (a b : Good) → o ≡ Some a → o ≡ Some b → a ≡ b
same_begin o a b e f = let h : Some a ≡ Some b = sym e ∙ f in cc

by_places : (file : File) (places : List ℕ) (m : MarkedFile) (o : Option Good) → marked file places ≡ Some m →
    HasFirst file o → (0 < length places → Opens o) → Wanted m
by_places file [] m o e first opens some =
    let same : whole_file file ≡ m = cc in
    absurd (omega (arith, some, ap (λ (m : MarkedFile). m.fillers) same))
by_places file (place ∷ places) m o e first opens some =
    let it = opens (omega arith) in
    of_image file place places m e first.first first.rest first.split it.opening
    (ap (λ (p : Good). opening_of p.body) (same_begin o first.first it.begin first.is it.is) ∙ it.opens)

by_file : (o : Option File) (places : List ℕ) (m : MarkedFile) (b : Option Good) →
    option_and_then (λ file. marked file places) o ≡ Some m → ((file : File) → o ≡ Some file → HasFirst file b) →
    (0 < length places → Opens b) → Wanted m
by_file None places m b e first opens = cc
by_file (Some file) places m b e first opens = by_places file places m b e (first file refl) opens

-- a file that ends with one of them
pub one_wanted : (before : List Mended) (m : Mended) (file : MarkedFile) → mended_file before m ≡ Some file →
    (0 < count_of m.packet.vc m.packet.apid (before ++ m ∷ []) →
    Opens (latest m.packet.vc m.packet.apid (map packet_mended before ++ m.packet ∷ []))) → Wanted file
one_wanted before m file e opens =
    by_file (file_at (map packet_mended before) m.packet)
    (seams_of m.packet.vc m.packet.apid (before ++ m ∷ [])).fillers file
    (latest m.packet.vc m.packet.apid (map packet_mended before ++ m.packet ∷ [])) e
    (first_is (map packet_mended before) m.packet) opens

pub all_of : (P : MarkedFile → Type 0) (o : Option MarkedFile) → ((m : MarkedFile) → o ≡ Some m → P m) →
    All P (option_to_list o)
all_of P None each = All-nil P
all_of P (Some m) each = All-cons P m [] (each m refl) (All-nil P)

filler_begins_none : (b : Bool) → (eqb (cond b 2 0) 1 || eqb (cond b 2 0) 3) ≡ false
filler_begins_none true = refl
filler_begins_none false = refl

-- those that end with fillers
all_fillers : (filling : Filling) (n count : ℕ) (before : List Mended) →
    Opens (latest filling.vc filling.apid (map packet_mended before)) →
    All Wanted (mended_files_after before (map filler_of (fillers_from filling n count)))
unfolding fillers_from
all_fillers filling zero count before opens = All-nil Wanted
all_fillers filling (suc n) count before opens =
    let first : Good = record {
      vc = filling.vc;
      apid = filling.apid;
      flags = cond (filling.ends && eqb n 0) 2 0;
      count = count;
      body = filling.body;
    } in
    let none : begins_file first ≡ false = filler_begins_none (filling.ends && eqb n 0) in
    let now : Opens (latest filling.vc filling.apid (map packet_mended before ++ first ∷ [])) =
    subst Opens (sym (latest-own (map packet_mended before) first))
    (still (latest filling.vc filling.apid (map packet_mended before)) first none opens) in
    All-append Wanted (option_to_list (mended_file before (filler_of first)))
    (mended_files_after (before ++ filler_of first ∷ []) (map filler_of (fillers_from filling n (count_after count))))
    (all_of Wanted (mended_file before (filler_of first))
    (λ file e. one_wanted before (filler_of first) file e (λ _. now)))
    (all_fillers filling n (count_after count) (before ++ filler_of first ∷ [])
    (subst (λ (ps : List Good). Opens (latest filling.vc filling.apid ps))
    (sym (map-append packet_mended before (filler_of first ∷ []))) now))

all_gap : (most : ℕ) (o : Option Image) (p : Good) (before : List Mended) →
    ((image : Image) → o ≡ Some image → Opens (latest p.vc p.apid (map packet_mended before))) →
    All Wanted (mended_files_after before (map filler_of (gap_of most o p)))
unfolding gap_of
all_gap most None p before opens = All-nil Wanted
all_gap most (Some image) p before opens =
    all_fillers (filling_before image p) (fillers_before most image p) (count_after image.count) before
    (opens image refl)

-- what begins nothing leaves the latest beginning as it is
same_of : (b : Option Good) (own : Bool) → cond own b b ≡ b
same_of b true = refl
same_of b false = refl

latest_none : (vc apid : ℕ) (ps : List Good) (p : Good) → begins_file p ≡ false →
    latest vc apid (ps ++ p ∷ []) ≡ latest vc apid ps
latest_none vc apid ps p none =
    latest-one vc apid ps p (is_of_key vc apid p) refl
    ∙ ap (λ (b : Bool). cond (is_of_key vc apid p) (cond b (Some p) (latest vc apid ps)) (latest vc apid ps)) none
    ∙ same_of (latest vc apid ps) (is_of_key vc apid p)

-- fillers begin nothing, so the latest beginning is that of the packets that came
latest_fillers : (filling : Filling) (n count vc apid : ℕ) (ps : List Good) →
    latest vc apid (ps ++ fillers_from filling n count) ≡ latest vc apid ps
unfolding fillers_from
latest_fillers filling zero count vc apid ps = ap (latest vc apid) (append-nil ps)
latest_fillers filling (suc n) count vc apid ps =
    let first : Good = record {
      vc = filling.vc;
      apid = filling.apid;
      flags = cond (filling.ends && eqb n 0) 2 0;
      count = count;
      body = filling.body;
    } in
    ap (latest vc apid) (sym (append_assoc ps (first ∷ []) (fillers_from filling n (count_after count))))
    ∙ latest_fillers filling n (count_after count) vc apid (ps ++ first ∷ [])
    ∙ latest_none vc apid ps first (filler_begins_none (filling.ends && eqb n 0))

latest_gap : (most vc apid : ℕ) (o : Option Image) (p : Good) (ps : List Good) →
    latest vc apid (ps ++ gap_of most o p) ≡ latest vc apid ps
unfolding gap_of
latest_gap most vc apid None p ps = ap (latest vc apid) (append-nil ps)
latest_gap most vc apid (Some image) p ps =
    latest_fillers (filling_before image p) (fillers_before most image p) (count_after image.count) vc apid ps

unfoldable pub SameLatest : ℕ → List Good → Type 0
SameLatest most packets = (vc apid : ℕ) → latest vc apid (heard most packets) ≡ latest vc apid packets

with_gap : (most : ℕ) (packets : List Good) (p : Good) → SameLatest most packets → (vc apid : ℕ) →
    latest vc apid (heard most packets ++ gap_before most packets p) ≡ latest vc apid packets
unfolding gap_before SameLatest
with_gap most packets p same vc apid =
    latest_gap most vc apid (open_image most p.vc p.apid packets) p (heard most packets) ∙ same vc apid

same_next : (most : ℕ) (packets : List Good) (p : Good) → SameLatest most packets → SameLatest most (packets ++ p ∷ [])
unfolding SameLatest
same_next most packets p same vc apid =
    let own = is_of_key vc apid p in
    ap (latest vc apid) (heard-more most packets p)
    ∙ latest-one vc apid (heard most packets ++ gap_before most packets p) p own refl
    ∙ ap (λ (b : Option Good). cond own (begun b p) b) (with_gap most packets p same vc apid)
    ∙ sym (latest-one vc apid packets p own refl)

same_after : (most : ℕ) (before later : List Good) → SameLatest most before → SameLatest most (before ++ later)
same_after most before [] same = subst (SameLatest most) (sym (append-nil before)) same
same_after most before (p ∷ later) same =
    subst (SameLatest most) (append_assoc before (p ∷ []) later)
    (same_after most (before ++ p ∷ []) later (same_next most before p same))

same_none : (most : ℕ) → SameLatest most []
unfolding SameLatest mended_packets
same_none most vc apid = refl

pub same_latest : (most : ℕ) (packets : List Good) → SameLatest most packets
same_latest most packets = same_after most [] packets (same_none most)

-- ---- all files

positive : (n : ℕ) (b : Bool) → 0 < cond b 0 n → (b ≡ false) × (0 < n)
positive n true h = absurd (omega (arith, h))
positive n false h = (refl, h)

-- the file of the packet itself
packet_wanted : (most : ℕ) (packets : List Good) (p : Good) (file : MarkedFile) →
    file_of_packet most packets p ≡ Some file → Wanted file
unfolding file_of_packet SameLatest
packet_wanted most packets p file e =
    let gap = gap_before most packets p in
    let before = mended_packets most packets ++ map filler_of gap in
    let heard_is : map packet_mended before ≡ heard most packets ++ gap =
    map-append packet_mended (mended_packets most packets) (map filler_of gap)
    ∙ ap (λ l. heard most packets ++ l) (unflagged gap) in
    one_wanted before (came p) file e (λ some.
    let count = ap (λ (s : Seams). length s.fillers) (came_seams p.vc p.apid before p (same_self p.vc p.apid))
    ∙ came_count (seams_of p.vc p.apid before) p (begins_file p) refl in
    let both = positive (count_of p.vc p.apid before) (begins_file p) (subst (λ (n : ℕ). 0 < n) count some) in
    let opens = opened_before most packets p (opened most packets p.vc p.apid) both.1 in
    subst Opens (sym (latest-own (map packet_mended before) p
    ∙ ap (λ (l : List Good). begun (latest p.vc p.apid l) p) heard_is
    ∙ ap (λ (b : Option Good). begun b p) (with_gap most packets p (same_latest most packets) p.vc p.apid)))
    (still (latest p.vc p.apid packets) p both.0 opens))

all_ending : (most : ℕ) (packets : List Good) (p : Good) → All Wanted (files_ending most packets p)
unfolding files_of_gap gap_before SameLatest
all_ending most packets p =
    All-append Wanted (files_of_gap most packets p) (option_to_list (file_of_packet most packets p))
    (all_gap most (open_image most p.vc p.apid packets) p (mended_packets most packets)
    (λ image e. subst Opens (sym (same_latest most packets p.vc p.apid))
    ((opened most packets p.vc p.apid).image image e)))
    (all_of Wanted (file_of_packet most packets p) (λ file e. packet_wanted most packets p file e))

all_after : (most : ℕ) (before later : List Good) → All Wanted (mended_files most before) →
    All Wanted (mended_files most (before ++ later))
all_after most before [] all =
    subst (λ (ps : List Good). All Wanted (mended_files most ps)) (sym (append-nil before)) all
all_after most before (p ∷ later) all =
    subst (λ (ps : List Good). All Wanted (mended_files most ps)) (append_assoc before (p ∷ []) later)
    (all_after most (before ++ p ∷ []) later
    (subst (All Wanted) (sym (files_more most before p))
    (All-append Wanted (mended_files most before) (files_ending most before p) all (all_ending most before p))))

none_first : (most : ℕ) → All Wanted (mended_files most [])
unfolding mended_files mended_packets
none_first most = All-nil Wanted

pub only_images : OnlyImages
only_images most packets = all_after most [] packets (none_first most)
