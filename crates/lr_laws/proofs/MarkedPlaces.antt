-- The places that a mark names are those of the fillers.
use Rattle.std.proofs.Common.{◌≡◌, ℕ, zero, suc, ◌+◌, ◌≤◌, Bool, true, false, cond, eqb, leb, ◌&&◌, ◌||◌, Option, Some}
use Rattle.std.proofs.Common.{None, List, [], ◌∷◌, ◌++◌, length, map, refl, sym, ap, ◌∙◌, subst, append_assoc, arith}
use Rattle.std.proofs.Common.{length-append}
use Rattle.std.specs.Prelude.{min, option_and_then}
use Rattle.std.specs.List.{fold}
use Rattle.std.proofs.lemmas.Bool.Decides.{nat_tests}
use Rattle.std.proofs.lemmas.List.{append-nil, map-append, length-map}
use Rattle.std.proofs.lemmas.List.Sums.{fold-append}
use Rattle.lr_packet.specs.Verdict.{Good}
use Rattle.lr_bits.specs.File.{File}
use Rattle.lr_bits.specs.Sizes.{most_file_bodies}
use Rattle.lr_file.specs.Files.{bodies_of, file_at, is_file, packets_of_key}
use Rattle.lr_mend.specs.Laws.{packet_mended}
use Rattle.lr_mend.specs.Marks.{marked}
use Rattle.lr_mend.specs.MendedFiles.{mended_file}
use Rattle.lr_mend.specs.Mending.{Filling, Image, Mended, begins_file, came, count_after, filler_of, fillers_before}
use Rattle.lr_mend.specs.Mending.{fillers_from, filling_before, gap_before, gap_of, mended_after, mended_packets}
use Rattle.lr_mend.specs.Mending.{mended_with, open_image}
use Rattle.lr_mend.specs.Seams.{Seams, mended_of_key, no_seams, seams_and, seams_of, seams_with}
use Rattle.lr_mend.specs.declared.marks.MarkedFile.{MarkedFile}
use Rattle.lr_laws.specs.MarkedPlaces.{FilesAreMadeOfMended, IsMadeOf, filler_places, mended_stretch, stretch_and}
use Rattle.lr_laws.specs.SentImages.{since_and, since_beginning as since}
use Rattle.lr_laws.proofs.SinceBeginning.{filler_begins_none}
use Rattle.lr_laws.proofs.Stretches.{few_bodies, file_is_stretch}

-- ---- no filler begins a file

abbrev pub NoneBegins : List Mended → Type 0
NoneBegins [] = Unit {0}
NoneBegins (m ∷ ms) = (m.filler ≡ true → begins_file m.packet ≡ false) × NoneBegins ms

none-append : (xs ys : List Mended) → NoneBegins xs → NoneBegins ys → NoneBegins (xs ++ ys)
none-append [] ys first second = second
none-append (x ∷ xs) ys first second = (first.0, none-append xs ys first.1 second)

pub none-front : (xs ys : List Mended) → NoneBegins (xs ++ ys) → NoneBegins xs
none-front [] ys both = tt
none-front (x ∷ xs) ys both = (both.0, none-front xs ys both.1)

pub none-key : (vc apid : ℕ) (ms : List Mended) → NoneBegins ms → NoneBegins (mended_of_key vc apid ms)
none-key vc apid [] none = tt
none-key vc apid (m ∷ ms) none = by_key (none-key vc apid ms none.1) (eqb m.packet.vc vc && eqb m.packet.apid apid)
  where
    by_key : NoneBegins (mended_of_key vc apid ms) → (b : Bool) →
        NoneBegins (cond b (m ∷ mended_of_key vc apid ms) (mended_of_key vc apid ms))
    by_key rest true = (none.0, rest)
    by_key rest false = rest

none_of_fillers : (filling : Filling) (n count : ℕ) → NoneBegins (map filler_of (fillers_from filling n count))
unfolding fillers_from
none_of_fillers filling zero count = tt
none_of_fillers filling (suc n) count =
    ((λ is. filler_begins_none (filling.ends && eqb n 0)), none_of_fillers filling n (count_after count))

none_of_gap : (most : ℕ) (o : Option Image) (p : Good) → NoneBegins (map filler_of (gap_of most o p))
unfolding gap_of
none_of_gap most None p = tt
none_of_gap most (Some image) p =
    none_of_fillers (filling_before image p) (fillers_before most image p) (count_after image.count)

none_after : (most : ℕ) (before packets : List Good) → NoneBegins (mended_after most before packets)
unfolding gap_before
none_after most before [] = tt
none_after most before (p ∷ packets) =
    none-append (mended_with most before p) (mended_after most (before ++ p ∷ []) packets)
    (none-append (map filler_of (gap_before most before p)) (came p ∷ [])
    (none_of_gap most (open_image most p.vc p.apid before) p)
    ((λ (is : false ≡ true). cc), tt))
    (none_after most (before ++ p ∷ []) packets)

pub none_begins : (most : ℕ) (packets : List Good) → NoneBegins (mended_packets most packets)
unfolding mended_packets
none_begins most packets = none_after most [] packets

-- ---- the places of the fillers

-- those of one packet more
places-end : (place : ℕ) (ms : List Mended) (m : Mended) →
    filler_places place (ms ++ m ∷ []) ≡ filler_places place ms ++ cond m.filler ((place + length ms) ∷ []) []
places-end place [] m =
    let same : place ≡ place + 0 = omega arith in
    append-nil (cond m.filler (place ∷ []) []) ∙ ap (λ (k : ℕ). cond m.filler (k ∷ []) []) same
places-end place (x ∷ ms) m =
    let here = cond x.filler (place ∷ []) [] in
    let same : place + 1 + length ms ≡ place + suc (length ms) = omega arith in
    ap (λ (l : List ℕ). here ++ l) (places-end (place + 1) ms m
    ∙ ap (λ (k : ℕ). filler_places (place + 1) ms ++ cond m.filler (k ∷ []) []) same)
    ∙ sym (append_assoc here (filler_places (place + 1) ms) (cond m.filler ((place + suc (length ms)) ∷ []) []))

-- what is kept of packets is where the fillers are among those since the latest beginning
record Tells (stretch : List Mended) (seams : Seams) : Type 0 where
  packets : seams.packets ≡ min most_file_bodies (length stretch)
  places : length stretch ≤ most_file_bodies → seams.fillers ≡ filler_places 0 stretch

tells_more : (stretch : List Mended) (seams : Seams) (m : Mended) → Tells stretch seams →
    Tells (stretch ++ m ∷ []) (seams_and seams m.filler)
tells_more stretch seams m tells =
    let long = length-append stretch (m ∷ []) in
    record {
      packets = omega (arith, long, tells.packets);
      places = λ few.
          let place : seams.packets ≡ 0 + length stretch = omega (arith, long, tells.packets, few) in
          (λ i. tells.places (omega (arith, long, few)) i ++ cond m.filler (place i ∷ []) [])
          ∙ sym (places-end 0 stretch m);
    }

tells_first : (m : Mended) → m.filler ≡ false → Tells (m ∷ []) (record { packets = 1; fillers = [] })
tells_first m plain =
    record {
      packets = omega arith;
      places = λ few. sym (ap (λ (b : Bool). cond b (0 ∷ []) [] ++ []) plain);
    }

tells_and : (stretch : List Mended) (seams : Seams) (m : Mended) → (m.filler ≡ true → begins_file m.packet ≡ false) →
    Tells stretch seams → Tells (stretch_and stretch m) (seams_with seams m)
tells_and stretch seams m none tells = by_start (begins_file m.packet) refl
  where
    by_filler : (b : Bool) → m.filler ≡ b → begins_file m.packet ≡ true → m.filler ≡ false
    by_filler true is begins = let never : true ≡ false = sym begins ∙ none is in cc
    by_filler false is begins = is

    by_start : (b : Bool) → begins_file m.packet ≡ b →
        Tells (cond b (m ∷ []) (stretch ++ m ∷ []))
        (cond b (record { packets = 1; fillers = [] }) (seams_and seams m.filler))
    by_start true begins = tells_first m (by_filler m.filler refl begins)
    by_start false begins = tells_more stretch seams m tells

tells_all : (stretch : List Mended) (seams : Seams) (ms : List Mended) → NoneBegins ms → Tells stretch seams →
    Tells (fold stretch_and stretch ms) (fold seams_with seams ms)
tells_all stretch seams [] none tells = tells
tells_all stretch seams (m ∷ ms) none tells =
    tells_all (stretch_and stretch m) (seams_with seams m) ms none.1 (tells_and stretch seams m none.0 tells)

told : (vc apid : ℕ) (ms : List Mended) → NoneBegins ms → Tells (mended_stretch vc apid ms) (seams_of vc apid ms)
unfolding seams_of
told vc apid ms none =
    tells_all [] no_seams (mended_of_key vc apid ms) (none-key vc apid ms none)
    (record { packets = omega arith; places = λ few. refl })

-- ---- the packets without what they say of fillers

bare_and : (stretch : List Mended) (m : Mended) →
    map packet_mended (stretch_and stretch m) ≡ since_and (map packet_mended stretch) m.packet
bare_and stretch m = by_start (begins_file m.packet)
  where
    by_start : (b : Bool) → map packet_mended (cond b (m ∷ []) (stretch ++ m ∷ []))
        ≡ cond b (m.packet ∷ []) (map packet_mended stretch ++ m.packet ∷ [])
    by_start true = refl
    by_start false = map-append packet_mended stretch (m ∷ [])

bare_all : (stretch ms : List Mended) →
    map packet_mended (fold stretch_and stretch ms) ≡ fold since_and (map packet_mended stretch) (map packet_mended ms)
bare_all stretch [] = refl
bare_all stretch (m ∷ ms) =
    bare_all (stretch_and stretch m) ms
    ∙ ap (λ (l : List Good). fold since_and l (map packet_mended ms)) (bare_and stretch m)

bare_key : (vc apid : ℕ) (ms : List Mended) →
    map packet_mended (mended_of_key vc apid ms) ≡ packets_of_key vc apid (map packet_mended ms)
bare_key vc apid [] = refl
bare_key vc apid (m ∷ ms) = by_key (bare_key vc apid ms) (eqb m.packet.vc vc && eqb m.packet.apid apid)
  where
    by_key : map packet_mended (mended_of_key vc apid ms) ≡ packets_of_key vc apid (map packet_mended ms) → (b : Bool) →
        map packet_mended (cond b (m ∷ mended_of_key vc apid ms) (mended_of_key vc apid ms))
        ≡ cond b (m.packet ∷ packets_of_key vc apid (map packet_mended ms))
        (packets_of_key vc apid (map packet_mended ms))
    by_key rest true = ap (λ (l : List Good). m.packet ∷ l) rest
    by_key rest false = rest

pub bare : (vc apid : ℕ) (ms : List Mended) →
    map packet_mended (mended_stretch vc apid ms) ≡ since vc apid (map packet_mended ms)
bare vc apid ms =
    bare_all [] (mended_of_key vc apid ms) ∙ ap (λ (l : List Good). fold since_and [] l) (bare_key vc apid ms)

bodies_are : (ms : List Mended) → bodies_of (map packet_mended ms) ≡ map (λ m. m.packet.body) ms
bodies_are [] = refl
bodies_are (m ∷ ms) = ap (λ (l : List (List ℕ)). m.packet.body ∷ l) (bodies_are ms)

-- ---- the file

pub marked_of : (places : List ℕ) (o : Option File) (ended : MarkedFile) →
    option_and_then (λ file. marked file places) o ≡ Some ended →
    (file : File) × ((o ≡ Some file) × (marked file places ≡ Some ended))
marked_of places None ended e = cc
marked_of places (Some file) ended e = (file, (refl, e))

-- what is kept of the packets of a file
pub places_are : (vc apid : ℕ) (ms : List Mended) → NoneBegins ms →
    is_file (map packet_mended (mended_stretch vc apid ms)) ≡ true →
    (seams_of vc apid ms).fillers ≡ filler_places 0 (mended_stretch vc apid ms)
places_are vc apid ms none is =
    let stretch = mended_stretch vc apid ms in
    let few = few_bodies (map packet_mended stretch) is in
    let short : length stretch ≤ most_file_bodies = grind (arith, nat_tests, few, length-map stretch packet_mended) in
    (told vc apid ms none).places short

pub made_of : (before : List Mended) (m : Mended) (ended : MarkedFile) → NoneBegins (before ++ m ∷ []) →
    mended_file before m ≡ Some ended →
    IsMadeOf (mended_stretch m.packet.vc m.packet.apid (before ++ m ∷ [])) ended
made_of before m ended none e =
    let p = m.packet in
    let all = before ++ m ∷ [] in
    let stretch = mended_stretch p.vc p.apid all in
    let it = marked_of (seams_of p.vc p.apid all).fillers (file_at (map packet_mended before) p) ended e in
    let is = file_is_stretch (map packet_mended before) p it.0 it.1.0 in
    let bare_is : since p.vc p.apid (map packet_mended before ++ p ∷ []) ≡ map packet_mended stretch =
    ap (since p.vc p.apid) (sym (map-append packet_mended before (m ∷ []))) ∙ sym (bare p.vc p.apid all) in
    let one : is_file (map packet_mended stretch) ≡ true = ap is_file (sym bare_is) ∙ is.is_one in
    record {
      file = it.0;
      bodies = ap (λ (f : File). f.bodies) is.same ∙ ap bodies_of bare_is ∙ bodies_are stretch;
      is_marked = ap (λ (places : List ℕ). marked it.0 places) (sym (places_are p.vc p.apid all none one)) ∙ it.1.1;
    }

pub files_are_made : FilesAreMadeOfMended
files_are_made most packets before later m ended split e =
    made_of before m ended
    (none-front (before ++ m ∷ []) later
    (subst NoneBegins (split ∙ sym (append_assoc before (m ∷ []) later)) (none_begins most packets))) e
