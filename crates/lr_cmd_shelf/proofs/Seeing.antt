-- What is seen at an entry: one thing, if anything.
use Rattle.std.proofs.Common.{◌≡◌, ℕ, Bool, true, false, Option, Some, None, Result, List, refl, ap, subst}
use Rattle.lr_bits.specs.File.{File}
use Rattle.lr_image.proofs.OneReading.{outcomes_are_one}
use Rattle.lr_image.specs.Picture.{Picture}
use Rattle.lr_image.specs.declared.fault.ImageFault.{ImageFault}
use Rattle.lr_shelf_format.specs.Way.{EntryState, Sound, Bad, Gone, IsFound}
use Rattle.lr_shelf_format.specs.declared.entry.Entry.{Entry}
use Rattle.lr_shelf_format.specs.declared.stored.Stored.{Stored}
use Rattle.lr_shelf_format.proofs.WayLemmas.{found_once}
use Rattle.lr_cmd_shelf.specs.declared.opened.Opened.{Opened}
use Rattle.lr_cmd_shelf.specs.Laws.{Asked, Looks, AtNone, AtImages, query_of, sight_of}
use Rattle.lr_cmd_shelf.specs.Looking.{IsLooked}
use Rattle.lr_cmd_shelf.specs.Queries.{EntryView, Whole, Wrong, Absent, IsSeen, Sight}
use Rattle.lr_cmd_shelf.specs.Sights.{SeesImages, images_sight, no_image_sight}

-- one image, or one first fault
looked_once : (looks : Bool) (file : File) (one other : Option (Result Picture ImageFault)) → IsLooked looks file one
    → IsLooked looks file other → one ≡ other
looked_once true file (Some one) (Some other) is is' =
    ap (λ (r : Result Picture ImageFault). Some r) (outcomes_are_one file one other is is')
looked_once true file (Some one) None is is' = absurd is'
looked_once true file None other is is' = absurd is
looked_once false file None None is is' = refl
looked_once false file None (Some other) is is' = absurd is'
looked_once false file (Some one) other is is' = absurd is

-- and so of what is seen of it
image_once : (sees : Sight) → SeesImages sees → (stored : Stored) (one other : Option (Result Picture ImageFault))
    → sees stored one → sees stored other → one ≡ other
image_once sees images stored one other is is' =
    let sight = images stored in
    looked_once sight.0 stored.file one other (sight.1.only one is) (sight.1.only other is')

opened_is : {s t : Stored} {i j : Option (Result Picture ImageFault)} → s ≡ t → i ≡ j
    → ◌≡◌ {A = Opened} (record { stored = s; image = i }) (record { stored = t; image = j })
opened_is p q = rw (p, q) refl

module _ (sees : Sight) (images : SeesImages sees) (bytes : List ℕ) (entry : Entry) where
  same_file : (one other : Opened) → Sound one.stored ≡ Sound other.stored
      → sees one.stored one.image → sees other.stored other.image → one ≡ other
  same_file one other same is is' =
      let stored : one.stored ≡ other.stored = cc (same) in
      opened_is stored (image_once sees images other.stored one.image other.image
      (subst (λ (s : Stored). sees s one.image) stored is) is')

  -- what was found there, of what is seen
  abbrev found_in : Option EntryView → Option EntryState
  found_in None = None
  found_in (Some (Whole opened)) = Some (Sound opened.stored)
  found_in (Some (Wrong stored computed)) = Some (Bad stored computed)
  found_in (Some Absent) = Some Gone

  is_found : (seen : Option EntryView) → IsSeen sees bytes entry seen → IsFound bytes entry (found_in seen)
  is_found None is = is
  is_found (Some (Whole opened)) is = is.0
  is_found (Some (Wrong stored computed)) is = is
  is_found (Some Absent) is = is

  found_same : (one other : Option EntryView) → IsSeen sees bytes entry one → IsSeen sees bytes entry other
      → found_in one ≡ found_in other
  found_same one other is is' =
      found_once bytes entry (found_in one) (found_in other) (is_found one is) (is_found other is')

  once : (one other : Option EntryView) → found_in one ≡ found_in other → IsSeen sees bytes entry one
      → IsSeen sees bytes entry other → one ≡ other
  once None None same is is' = refl
  once None (Some (Whole b)) same is is' = cc (same)
  once None (Some (Wrong s c)) same is is' = cc (same)
  once None (Some Absent) same is is' = cc (same)
  once (Some (Whole a)) None same is is' = cc (same)
  once (Some (Whole a)) (Some (Whole b)) same is is' =
      ap (λ (o : Opened). Some (Whole o)) (same_file a b (some_in same) is.1 is'.1) where
        some_in : Some (Sound a.stored) ≡ Some (Sound b.stored) → Sound a.stored ≡ Sound b.stored
        some_in both = cc (both)
  once (Some (Whole a)) (Some (Wrong s c)) same is is' = cc (same)
  once (Some (Whole a)) (Some Absent) same is is' = cc (same)
  once (Some (Wrong s c)) None same is is' = cc (same)
  once (Some (Wrong s c)) (Some (Whole b)) same is is' = cc (same)
  once (Some (Wrong s c)) (Some (Wrong s' c')) same is is' = cc (same)
  once (Some (Wrong s c)) (Some Absent) same is is' = cc (same)
  once (Some Absent) None same is is' = cc (same)
  once (Some Absent) (Some (Whole b)) same is is' = cc (same)
  once (Some Absent) (Some (Wrong s c)) same is is' = cc (same)
  once (Some Absent) (Some Absent) same is is' = refl

-- one thing is seen
pub seen_once : (sees : Sight) → SeesImages sees → (bytes : List ℕ) (entry : Entry) (one other : Option EntryView)
    → IsSeen sees bytes entry one → IsSeen sees bytes entry other → one ≡ other
seen_once sees images bytes entry one other is is' =
    once sees images bytes entry one other (found_same sees images bytes entry one other is is') is is'

-- ---- what is asked, as plain data

looks_sight : (looks : Looks) → SeesImages (sight_of looks)
looks_sight AtNone = no_image_sight
looks_sight (AtImages those) = images_sight those

pub asked_sight : (asked : Asked) → SeesImages (query_of asked).sees
asked_sight asked = looks_sight asked.looks
