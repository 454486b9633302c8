-- The mended files of an image that was sent have an image.
use Rattle.lr_image.specs.Picture.{Picture}
use Rattle.std.proofs.Common.{◌≡◌, ℕ, ◌+◌, ◌-◌, ◌≤◌, Bool, true, false, cond, eqb, leb}
use Rattle.std.proofs.Common.{◌&&◌, Option, Some, None, List, [], ◌∷◌, ◌++◌, length, map, drop, refl, sym, ap}
use Rattle.std.proofs.Common.{◌∙◌, subst, arith, length-drop, ◌⊎◌, inl, inr, min, Result}
use Rattle.std.specs.Prelude.{find, is_some, option_and_then}
use Rattle.std.specs.Option.{option_map}
use Rattle.std.proofs.lemmas.List.{append-nil, map-append}
use Rattle.lr_bits.specs.File.{File}
use Rattle.lr_packet.specs.Verdict.{Good}
use Rattle.lr_file.specs.Files.{bodies_of, file_at, file_from, is_file, last_stretches, packets_of_key, size_of}
use Rattle.lr_file.specs.Standing.{open_from}
use Rattle.lr_file.specs.Steps.{is_next}
use Rattle.lr_file.proofs.Histories.{packets_of_key-own}
use Rattle.lr_file.proofs.Stretches.{and_left, and_right, is_file-one, longer}
use Rattle.lr_headers.specs.declared.fields.Structure.{Structure}
use Rattle.lr_headers.specs.declared.fields.Lossless.{Lossless}
use Rattle.lr_image.specs.Images.{line_form}
use Rattle.lr_image.specs.declared.fault.ImageFault.{ImageFault}
use Rattle.lr_image.specs.declared.shape.Shape.{Shape}
use Rattle.lr_mend.specs.Laws.{packet_mended}
use Rattle.lr_mend.specs.Marks.{marked, whole_file}
use Rattle.lr_mend.specs.MendedFiles.{file_of_packet, mended_file}
use Rattle.lr_mend.specs.Mending.{begins_file, came, filler_of}
use Rattle.lr_mend.specs.Mending.{gap_before, mended_packets}
use Rattle.lr_mend.specs.Mending.{open_image}
use Rattle.lr_mend.specs.Openings.{Opening, opening_by, opening_from, opening_in, opening_of, units_in, units_of_image}
use Rattle.lr_mend.specs.Seams.{seams_of}
use Rattle.lr_mend.specs.declared.marks.MarkedFile.{MarkedFile}
use Rattle.lr_mend.proofs.StayingFiles.{ends, file_stretch-end, heard, open_stretch, unflagged}
use Rattle.lr_laws.specs.SentImages.{StandFor, StandsForImage}
use Rattle.lr_laws.specs.SentImages.{AreAlike, Came, HasImageLike, HasLines, SentImage}
use Rattle.lr_laws.specs.SentImages.{SentImagesAreRead, since_beginning as since}
use Rattle.lr_laws.proofs.CodedPieces.{some_of}
use Rattle.lr_laws.proofs.CodedPieces.{length-one}
use Rattle.lr_laws.proofs.MarkedImages.{marked_images}
use Rattle.lr_laws.proofs.MendedStretches.{Fits, Matches, SentFile}
use Rattle.lr_laws.proofs.FirstPackets.{Grows, grows, no_beginning}
use Rattle.lr_laws.proofs.OnlyImages.{all_of, opened_read}
use Rattle.lr_laws.proofs.SentHistories.{later_is, matches_gap, next_split, standing}
use Rattle.lr_laws.proofs.SentPackets.{EachOf, came_last, came_none, each_of, first_of_file}
use Rattle.lr_laws.proofs.StandingImages.{FirstRead, before_data}
use Rattle.lr_laws.proofs.StandingImages.{inside, same_shape, standing_files}
use Rattle.lr_laws.proofs.SinceBeginning.{only_begins}
use Rattle.lr_laws.proofs.SinceBeginning.{since-own}

-- ---- what a file that was sent says of itself

pub opening_is : (body : List ℕ) (opening : Opening) (read : FirstRead body) → opening_of body ≡ Some opening →
    opening ≡ opening_from read.shape (drop (length read.header.bytes) (drop 10 body))
unfolding opening_of
opening_is body opening read opens =
    let rest = drop (length read.header.bytes) (drop 10 body) in
    let both : Some opening ≡ Some (opening_from read.shape rest) =
    sym opens ∙ ap (opening_in (drop 10 body)) read.is
    ∙ ap (λ (r : Result Shape ImageFault). opening_by r rest) read.is_shape in
    cc

pub fits_of : (s : Structure) (lossless : Option Lossless) (sent : List Good) → AreAlike s lossless sent →
    (size : ℕ) × EachOf (λ p. p.flags ≡ 0 → Fits s lossless size p.body) sent
fits_of s None sent alike = (alike.0, each_of (λ p. p.flags ≡ 0 → length p.body ≡ alike.0) sent alike.1)
fits_of s (Some l) sent alike = (0, each_of (λ p. p.flags ≡ 0 → HasLines (line_form s l) l.lines p.body) sent alike)

same_stand : (s : Structure) (lossless : Option Lossless) (bodies : List (List ℕ)) → StandFor s lossless bodies bodies
same_stand s lossless [] = tt
same_stand s lossless (body ∷ bodies) = (inl refl, same_stand s lossless bodies)

module _ (vc apid : ℕ) (sent : List Good) (i : SentImage vc apid sent) where
  abbrev pub read : FirstRead i.first.body
  read = opened_read i.first.body i.opening i.opens

  pub split : bodies_of sent ≡ i.first.body ∷ bodies_of i.others
  split = ap bodies_of i.begins

  pub shape_same : i.image.layout.shape ≡ read.shape
  shape_same = same_shape (file_from vc apid sent) i.first.body (bodies_of i.others) split read i.picture i.image

  pub opening_same : i.opening ≡ opening_from read.shape (drop (length read.header.bytes) (drop 10 i.first.body))
  opening_same = opening_is i.first.body i.opening read i.opens

  pub accounts : i.opening.coded ≡ true →
      units_of_image read.shape.structure read.shape.lossless
      ≤ length (some_of (drop (before_data i.first.body read) i.first.body ∷ [])) + i.opening.wanted
  accounts coded =
      let rest = drop (length read.header.bytes) (drop 10 i.first.body) in
      let is : is_some read.shape.lossless ≡ true = sym (ap (λ (o : Opening). o.coded) opening_same) ∙ coded in
      let wanted : i.opening.wanted
      ≡ units_of_image read.shape.structure read.shape.lossless - min 1 (length rest) =
      ap (λ (o : Opening). o.wanted) opening_same
      ∙ ap (λ (b : Bool). units_of_image read.shape.structure read.shape.lossless - units_in b rest) is in
      omega (
        arith,
        wanted,
        length-one (drop (before_data i.first.body read) i.first.body),
        length-drop (before_data i.first.body read) i.first.body,
        length-drop (length read.header.bytes) (drop 10 i.first.body),
        length-drop 10 i.first.body,
      )

  pub inside_first : before_data i.first.body read ≤ length i.first.body
  inside_first = inside (file_from vc apid sent) i.first.body (bodies_of i.others) split read

  pub plain_accounts : i.opening.coded ≡ false →
      before_data i.first.body read + units_of_image read.shape.structure read.shape.lossless
      ≤ length i.first.body + i.opening.wanted
  plain_accounts plain =
      let rest = drop (length read.header.bytes) (drop 10 i.first.body) in
      let is : is_some read.shape.lossless ≡ false = sym (ap (λ (o : Opening). o.coded) opening_same) ∙ plain in
      let wanted : i.opening.wanted ≡ units_of_image read.shape.structure read.shape.lossless - length rest =
      ap (λ (o : Opening). o.wanted) opening_same
      ∙ ap (λ (b : Bool). units_of_image read.shape.structure read.shape.lossless - units_in b rest) is in
      omega (
        arith,
        wanted,
        inside_first,
        length-drop (length read.header.bytes) (drop 10 i.first.body),
        length-drop 10 i.first.body,
      )

  abbrev pub sent_file : SentFile
  sent_file =
      let fits = fits_of i.image.layout.shape.structure i.image.layout.shape.lossless sent i.alike in
      record {
        s = i.image.layout.shape.structure;
        lossless = i.image.layout.shape.lossless;
        size = fits.0;
        whole = sent;
        is_one = i.is_one;
        first = i.first;
        rest = i.others;
        begins = i.begins;
        opening = i.opening;
        opens = i.opens;
        coded = ap (λ (o : Opening). o.coded) opening_same
            ∙ ap (λ (s : Shape). is_some s.lossless) (sym shape_same);
        fits = fits.1;
        skip = before_data i.first.body read;
        total = units_of_image read.shape.structure read.shape.lossless;
        inside = inside_first;
        plain = plain_accounts;
        accounts = accounts;
      }

  -- a file that matches all that was sent
  pub matching_stands : (t : List Good) → Matches sent_file sent t → StandsForImage i (file_from vc apid t)
  matching_stands t m =
      let same : m.later ≡ i.others =
      (let h : i.first ∷ m.later ≡ i.first ∷ i.others = sym m.sent_is ∙ i.begins in cc) in
      record {
        others = bodies_of m.others;
        bodies = ap bodies_of m.is;
        stand = subst (λ (l : List Good). StandFor i.image.layout.shape.structure i.image.layout.shape.lossless
            (bodies_of l) (bodies_of m.others)) same m.stand;
      }

  pub standing_image : (file : File) → StandsForImage i file → HasImageLike i.picture file
  standing_image file it =
      standing_files (file_from vc apid sent) file i.picture i.image i.opening i.first.body (bodies_of i.others)
      it.others split it.bodies i.opens it.stand

  pub sent_stands : StandsForImage i (file_from vc apid sent)
  sent_stands = record {
    others = bodies_of i.others;
    bodies = split;
    stand = same_stand i.image.layout.shape.structure i.image.layout.shape.lossless (bodies_of i.others);
  }

-- ---- the file that ends with a packet

abbrev pub Ends : List Good → Good → File → Type 0
Ends ps p file =
    ((is_file (p ∷ []) ≡ true) × (file ≡ file_from p.vc p.apid (p ∷ [])))
    ⊎ ((s : List Good) × ((open_stretch (packets_of_key p.vc p.apid ps) ≡ Some s)
    × ((ends p s ≡ true) × (file ≡ file_from p.vc p.apid (s ++ p ∷ [])))))

by_stretch : (vc apid : ℕ) (o : Option (List Good)) (file : File) → option_map (file_from vc apid) o ≡ Some file →
    (t : List Good) × ((o ≡ Some t) × (file ≡ file_from vc apid t))
by_stretch vc apid None file e = cc
by_stretch vc apid (Some t) file e = (t, (refl, (let h : file ≡ file_from vc apid t = cc in h)))

pub file_ends : (ps : List Good) (p : Good) (file : File) → file_at ps p ≡ Some file → Ends ps p file
unfolding file_at Grows
file_ends ps p file e =
    let qs = packets_of_key p.vc p.apid ps in
    let found = sym (ap (λ l. option_map (file_from p.vc p.apid) (find is_file (last_stretches l)))
    (packets_of_key-own ps p)
    ∙ ap (option_map (file_from p.vc p.apid)) (file_stretch-end qs p)) ∙ e in
    let it = by_stretch p.vc p.apid (longer (ends p) p (is_file (p ∷ [])) (open_stretch qs)) file found in
    elim (grows (ends p) p (is_file (p ∷ [])) (open_stretch qs) it.0 it.1.0) as (λ _. Ends ps p file) [
      | inl alone ↦ inl (alone.0, it.1.1 ∙ ap (file_from p.vc p.apid) alone.1)
      | inr on ↦ inr (on.0, (on.1.0, (on.1.1.0, it.1.1 ∙ ap (file_from p.vc p.apid) on.1.1.1)))
    ]

-- a marked file has an image, if the file has
marked_image : (picture : Picture) (file : File) (places : List ℕ) (m : MarkedFile) → marked file places ≡ Some m →
    HasImageLike picture file → HasImageLike picture m.file
marked_image picture file [] m e image =
    let same : whole_file file ≡ m = cc in subst (λ (m : MarkedFile). HasImageLike picture m.file) same image
marked_image picture file (place ∷ places) m e image =
    record {
      other = image.other;
      is = marked_images file place places m image.other e image.is;
      bits = image.bits;
      columns = image.columns;
      lines = image.lines;
    }

pub image_of : (picture : Picture) (o : Option File) (places : List ℕ) (m : MarkedFile) →
    option_and_then (λ file. marked file places) o ≡ Some m → ((file : File) → o ≡ Some file →
    HasImageLike picture file) → HasImageLike picture m.file
image_of picture None places m e image = cc
image_of picture (Some file) places m e image = marked_image picture file places m e (image file refl)

-- ---- an image whose last packet came

module _ (most : ℕ) (packets : List Good) (p : Good) (sent : List Good) (i : SentImage p.vc p.apid sent)
    (came_of : Came sent (since p.vc p.apid (packets ++ p ∷ []))) where
  abbrev c : SentFile
  c = sent_file p.vc p.apid sent i

  came_by : (begins : Bool) → begins_file p ≡ begins →
      Came sent (cond begins (p ∷ []) (since p.vc p.apid packets ++ p ∷ []))
  came_by begins is =
      subst (Came sent) (since-own packets p
      ∙ ap (λ (b : Bool). cond b (p ∷ []) (since p.vc p.apid packets ++ p ∷ [])) is) came_of

  alone_stands : is_file (p ∷ []) ≡ true → StandsForImage i (file_from p.vc p.apid (p ∷ []))
  alone_stands is =
      let begins = only_begins p (and_left (eqb p.flags 3) _ (and_left _ _ (sym (is_file-one p) ∙ is))) in
      elim (came_last sent (p ∷ []) (came_by true begins) [] p refl) as
      (λ _. StandsForImage i (file_from p.vc p.apid (p ∷ []))) [
        | inl one ↦ subst (λ (l : List Good). StandsForImage i (file_from p.vc p.apid l)) one.0
            (sent_stands p.vc p.apid sent i)
        | inr before ↦ absurd (came_none before.sent [] before.before refl)
      ]

  last_stands : (t : List Good) →
      open_stretch (packets_of_key p.vc p.apid (heard most packets ++ gap_before most packets p)) ≡ Some t →
      ends p t ≡ true → StandsForImage i (file_from p.vc p.apid (t ++ p ∷ []))
  unfolding gap_before
  last_stands t e ending =
      let both = and_left (eqb p.flags 2 && is_next (open_from t) p) (leb 10 (size_of (t ++ p ∷ []))) ending in
      let two = and_left (eqb p.flags 2) (is_next (open_from t) p) both in
      let none = no_beginning p 2 two refl refl in
      elim (came_last sent (since p.vc p.apid packets ++ p ∷ []) (came_by false none)
      (since p.vc p.apid packets) p refl)
      as (λ _. StandsForImage i (file_from p.vc p.apid (t ++ p ∷ []))) [
        | inl one ↦
            let begins = first_of_file p [] (ap is_file (sym one.0) ∙ i.is_one) in
            let never : true ≡ false = sym begins ∙ none in
            absurd (cc never)
        | inr before ↦
            let whole = next_split before.sent before.missing p [] sent sent (sym (append-nil sent)) before.is in
            let later = later_is c before.sent (since p.vc p.apid packets) before.missing p [] before.before whole in
            let stands = standing c most packets p.vc p.apid before.sent (before.missing ++ (p ∷ [])) whole
            before.before in
            let m = matches_gap c most packets p before.sent before.missing stands later before.few
            (open_image most p.vc p.apid packets) refl t e (and_right (eqb p.flags 2) (is_next (open_from t) p) both) in
            matching_stands p.vc p.apid sent i (t ++ p ∷ [])
            (subst (λ (l : List Good). Matches c l (t ++ p ∷ [])) (sym before.is) m)
      ]

  pub packet_stands : (file : File) → file_at (heard most packets ++ gap_before most packets p) p ≡ Some file →
      StandsForImage i file
  packet_stands file e =
      elim (file_ends (heard most packets ++ gap_before most packets p) p file e) as
      (λ _. StandsForImage i file) [
        | inl alone ↦ subst (StandsForImage i) (sym alone.1) (alone_stands alone.0)
        | inr on ↦ subst (StandsForImage i) (sym on.1.1.1) (last_stands on.0 on.1.0 on.1.1.0)
      ]

pub sent_images : SentImagesAreRead
unfolding file_of_packet
sent_images most packets p sent i came_of =
    let gap = gap_before most packets p in
    let before = mended_packets most packets ++ map filler_of gap in
    let same : map packet_mended before ≡ heard most packets ++ gap =
    map-append packet_mended (mended_packets most packets) (map filler_of gap)
    ∙ ap (λ (l : List Good). heard most packets ++ l) (unflagged gap) in
    all_of (λ (m : MarkedFile). HasImageLike i.picture m.file) (mended_file before (came p))
    (λ m e. image_of i.picture (file_at (map packet_mended before) p)
    (seams_of p.vc p.apid (before ++ came p ∷ [])).fillers m e
    (λ file at. standing_image p.vc p.apid sent i file
    (packet_stands most packets p sent i came_of file (ap (λ (l : List Good). file_at l p) (sym same) ∙ at))))
