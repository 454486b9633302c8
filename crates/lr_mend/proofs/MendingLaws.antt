-- Laws of mended packets: what one packet more adds, no fillers allowed, and what is left without the fillers.
use Rattle.std.proofs.Common.{◌≡◌, ℕ, Bool, true, false, cond, eqb, ltb, not, Option, None, List, [], ◌∷◌}
use Rattle.std.proofs.Common.{◌++◌, map, filter, refl, sym, ap, ◌∙◌, append_assoc}
use Rattle.std.specs.List.{fold}
use Rattle.std.proofs.lemmas.List.{append-nil, map-append}
use Rattle.std.proofs.lemmas.List.Elements.{filter-append}
use Rattle.lr_packet.specs.Verdict.{Good}
use Rattle.lr_file.specs.Files.{packets_of_key}
use Rattle.lr_mend.specs.Laws.{packet_mended}
use Rattle.lr_mend.specs.Mending.{Mended, Image, came, filler_of, gap_before, gap_of, mended_after, mended_packets}
use Rattle.lr_mend.specs.Mending.{mended_with, next_image, open_image}
use Rattle.lr_mend.specs.Mending.{image_begun_by}
use Rattle.lr_mend.specs.Openings.{opening_of}
use Rattle.std.specs.Option.{option_map}

-- the mended packets of lists in a row
pub mended_after-append : (most : ℕ) (before xs ys : List Good) →
    mended_after most before (xs ++ ys) ≡ mended_after most before xs ++ mended_after most (before ++ xs) ys
mended_after-append most before [] ys = ap (λ b. mended_after most b ys) (sym (append-nil before))
mended_after-append most before (x ∷ xs) ys =
    ap (λ ms. mended_with most before x ++ ms)
    (mended_after-append most (before ++ x ∷ []) xs ys
    ∙ ap (λ b. mended_after most (before ++ x ∷ []) xs ++ mended_after most b ys) (append_assoc before (x ∷ []) xs))
    ∙ sym (append_assoc (mended_with most before x) (mended_after most (before ++ x ∷ []) xs)
    (mended_after most (before ++ x ∷ xs) ys))

-- one packet more adds itself, and before it its fillers
pub mended-more : (most : ℕ) (packets : List Good) (packet : Good) →
    mended_packets most (packets ++ packet ∷ []) ≡ mended_packets most packets ++ mended_with most packets packet
unfolding mended_packets
mended-more most packets packet =
    mended_after-append most [] packets (packet ∷ [])
    ∙ ap (λ ms. mended_after most [] packets ++ ms) (append-nil (mended_with most packets packet))

-- where no fillers are allowed, no image opens
none_next : (p : Good) (first between : Bool) →
    cond first (cond (ltb 0 0) (option_map (image_begun_by p) (opening_of p.body)) None) (cond between None None) ≡ None
none_next p true between = refl
none_next p false true = refl
none_next p false false = refl

pub none_opens : (ps : List Good) → fold (next_image 0) None ps ≡ None
none_opens [] = refl
none_opens (p ∷ ps) =
    ap (λ (o : Option Image). fold (next_image 0) o ps) (none_next p (eqb p.flags 1) (eqb p.flags 0)) ∙ none_opens ps

pub no_gap : (before : List Good) (p : Good) → gap_before 0 before p ≡ []
unfolding gap_before open_image gap_of
no_gap before p = ap (λ (o : Option Image). gap_of 0 o p) (none_opens (packets_of_key p.vc p.apid before))

nothing_after : (before packets : List Good) → mended_after 0 before packets ≡ map came packets
nothing_after before [] = refl
nothing_after before (p ∷ ps) =
    λ i. (map filler_of (no_gap before p i) ++ came p ∷ []) ++ nothing_after (before ++ p ∷ []) ps i

pub nothing : (packets : List Good) → mended_packets 0 packets ≡ map came packets
unfolding mended_packets
nothing packets = nothing_after [] packets

-- the packets that came, of mended ones
abbrev those_that_came : List Mended → List Good
those_that_came ms = map packet_mended (filter (λ m. not m.filler) ms)

came-append : (xs ys : List Mended) → those_that_came (xs ++ ys) ≡ those_that_came xs ++ those_that_came ys
came-append xs ys =
    ap (λ ms. map packet_mended ms) (filter-append (λ m. not m.filler) xs ys)
    ∙ map-append packet_mended (filter (λ m. not m.filler) xs) (filter (λ m. not m.filler) ys)

no_fillers : (gap : List Good) → those_that_came (map filler_of gap) ≡ []
no_fillers [] = refl
no_fillers (g ∷ gap) = no_fillers gap

came_with : (most : ℕ) (before : List Good) (p : Good) → those_that_came (mended_with most before p) ≡ p ∷ []
came_with most before p =
    came-append (map filler_of (gap_before most before p)) (came p ∷ [])
    ∙ ap (λ ps. ps ++ p ∷ []) (no_fillers (gap_before most before p))

came_after : (most : ℕ) (before packets : List Good) → those_that_came (mended_after most before packets) ≡ packets
came_after most before [] = refl
came_after most before (p ∷ ps) =
    came-append (mended_with most before p) (mended_after most (before ++ p ∷ []) ps)
    ∙ (λ i. came_with most before p i ++ came_after most (before ++ p ∷ []) ps i)

pub packets_stay : (most : ℕ) (packets : List Good) → those_that_came (mended_packets most packets) ≡ packets
unfolding mended_packets
packets_stay most packets = came_after most [] packets

-- the mended packets of a prefix are a prefix
pub mended-go_on : (most : ℕ) (packets later : List Good) →
    (more : List Mended) × (mended_packets most (packets ++ later) ≡ mended_packets most packets ++ more)
unfolding mended_packets
mended-go_on most packets later = (mended_after most packets later, mended_after-append most [] packets later)
