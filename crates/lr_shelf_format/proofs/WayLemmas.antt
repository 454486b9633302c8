-- The entries of a walk, and ways.
use Rattle.std.proofs.Common.{◌≡◌, inl, inr, ◌<◌, ◌+◌, ◌||◌, ◌==◌, Bool, true, false, ℕ, zero, suc}
use Rattle.std.proofs.Common.{Option, Some, None, List, [], ◌∷◌, ◌++◌, length, refl, sym, ap, ◌∙◌, subst, arith}
use Rattle.std.proofs.Common.{append_assoc, length-append}
use Rattle.std.specs.List.{sum_by}
use Rattle.std.proofs.lemmas.List.{append-nil}
use Rattle.std.proofs.Math.Dec.{eqb-suc-suc, eqb-suc-zero, eqb-zero-suc}
use Rattle.lr_bits.specs.File.{File}
use Rattle.lr_bits.specs.declared.placed.Origin.{Origin}
use Rattle.lr_shelf_format.specs.Items.{AreProper, Holds, IsProper, MayFollow, entry_count, extent_of, head_of_item}
use Rattle.lr_shelf_format.specs.Items.{is_gone, item_bytes, item_of_file, item_of_stored}
use Rattle.lr_shelf_format.specs.ShelfBytes.{steps_of}
use Rattle.lr_shelf_format.specs.Walk.{IsOpen, IsWalk, Step, heads_of}
use Rattle.lr_shelf_format.specs.Way.{Sound, Bad, Gone, HasOneWay, HasWay, IsFoundOnce, IsNoShelfAt, IsWay, MayJoin}
use Rattle.lr_shelf_format.specs.Way.{Way}
use Rattle.lr_shelf_format.specs.Way.{entries_after, entries_on, entries_with, entries_with_gone, entry_in, item_at}
use Rattle.lr_shelf_format.specs.declared.entry.Entry.{Entry}
use Rattle.lr_shelf_format.specs.declared.item.ItemHead.{ItemHead}
use Rattle.lr_shelf_format.specs.declared.item.ItemHead.TheVariants.{Old, Add, Discard}
use Rattle.lr_shelf_format.specs.declared.stored.Stored.{Stored}
use Rattle.lr_shelf_format.proofs.ItemLemmas.{item_is}
use Rattle.lr_shelf_format.proofs.HeaderLemmas.{capacity_is}
use Rattle.lr_shelf_format.proofs.ReadingLemmas.{header_of-standing, is_one_walk}
use Rattle.lr_shelf_format.proofs.SomeWay.{some_way}
use Rattle.lr_shelf_format.proofs.WalkLemmas.{IsEnd, same_ends}

-- ---- truth values

or_false : (a : Bool) → (a || false) ≡ a
or_false true = refl
or_false false = refl

or_assoc : (a b c : Bool) → (a || (b || c)) ≡ ((a || b) || c)
or_assoc true b c = refl
or_assoc false b c = refl

or_turn : (a b : Bool) → (a || (b || false)) ≡ (b || a)
or_turn true true = refl
or_turn true false = refl
or_turn false true = refl
or_turn false false = refl

-- ---- the entries of heads

is_gone-push : (heads : List ItemHead) (head : ItemHead) (n : ℕ)
    → is_gone (heads ++ head ∷ []) n ≡ (is_gone heads n || is_gone (head ∷ []) n)
is_gone-push [] head n = refl
is_gone-push (Old first ∷ heads) head n = is_gone-push heads head n
is_gone-push (Add first ∷ heads) head n = is_gone-push heads head n
is_gone-push (Discard number ∷ heads) head n =
    ap (λ b. (number == n) || b) (is_gone-push heads head n)
    ∙ or_assoc (number == n) (is_gone heads n) (is_gone (head ∷ []) n)

entry_count-push : (heads : List ItemHead) (head : ItemHead)
    → entry_count (heads ++ head ∷ []) ≡ entry_count heads + entry_count (head ∷ [])
entry_count-push [] head = omega arith
entry_count-push (Old first ∷ heads) head = omega (arith, entry_count-push heads head)
entry_count-push (Add first ∷ heads) head = omega (arith, entry_count-push heads head)
entry_count-push (Discard number ∷ heads) head = entry_count-push heads head

-- the entries are those of the heads, and those are gone that a head discards
pub record AreOf (heads : List ItemHead) (entries : List Entry) : Type 0 where
  pub count : length entries ≡ entry_count heads
  pub gone : (number : ℕ) → (entry_in entries number).gone ≡ is_gone heads number

pub may_join : (heads : List ItemHead) (entries : List Entry) (head : ItemHead) → AreOf heads entries
    → MayFollow heads head → MayJoin entries head
may_join heads entries (Old head) of may = tt
may_join heads entries (Add head) of may = tt
may_join heads entries (Discard number) of may = (omega (arith, may.0, of.count), of.gone number ∙ may.1)

pub may_follow : (heads : List ItemHead) (entries : List Entry) (head : ItemHead) → AreOf heads entries
    → MayJoin entries head → MayFollow heads head
may_follow heads entries (Old head) of may = tt
may_follow heads entries (Add head) of may = tt
may_follow heads entries (Discard number) of may = (omega (arith, may.0, of.count), sym (of.gone number) ∙ may.1)

-- an entry that stays, at the end
gone-push : (entries : List Entry) (entry : Entry) (n : ℕ) → entry.gone ≡ false
    → (entry_in (entries ++ entry ∷ []) n).gone ≡ (entry_in entries n).gone
gone-push [] entry zero stays = stays
gone-push [] entry (suc n) stays = refl
gone-push (first ∷ entries) entry zero stays = refl
gone-push (first ∷ entries) entry (suc n) stays = gone-push entries entry n stays

pub length-entries_with_gone : (number : ℕ) (entries : List Entry)
    → length (entries_with_gone number entries) ≡ length entries
length-entries_with_gone number [] = refl
length-entries_with_gone zero (entry ∷ entries) = refl
length-entries_with_gone (suc number) (entry ∷ entries) = ap suc (length-entries_with_gone number entries)

gone-with_gone : (number : ℕ) (entries : List Entry) (n : ℕ) → number < length entries
    → (entry_in (entries_with_gone number entries) n).gone ≡ ((number == n) || (entry_in entries n).gone)
gone-with_gone number [] n inside = absurd (omega (arith, inside))
gone-with_gone zero (entry ∷ entries) zero inside = refl
gone-with_gone zero (entry ∷ entries) (suc n) inside = ap (λ b. b || (entry_in entries n).gone) (sym (eqb-zero-suc n))
gone-with_gone (suc number) (entry ∷ entries) zero inside = ap (λ b. b || entry.gone) (sym (eqb-suc-zero number))
gone-with_gone (suc number) (entry ∷ entries) (suc n) inside =
    gone-with_gone number entries n (omega (arith, inside))
    ∙ ap (λ b. b || (entry_in entries n).gone) (sym (eqb-suc-suc number n))

pub of_with : (heads : List ItemHead) (entries : List Entry) (gate : ℕ) (head : ItemHead) → AreOf heads entries
    → MayFollow heads head
    → AreOf (heads ++ head ∷ []) (entries_with gate head entries)
of_with heads entries gate (Old head) of may = record {
  count = omega (
    arith,
    length-append entries (record { gate = gate; extent = extent_of (Old head); gone = false } ∷ []),
    entry_count-push heads (Old head),
    of.count,
  );
  gone = λ n. gone-push entries _ n refl ∙ of.gone n
      ∙ sym (is_gone-push heads (Old head) n ∙ or_false (is_gone heads n));
}
of_with heads entries gate (Add head) of may = record {
  count = omega (
    arith,
    length-append entries (record { gate = gate; extent = extent_of (Add head); gone = false } ∷ []),
    entry_count-push heads (Add head),
    of.count,
  );
  gone = λ n. gone-push entries _ n refl ∙ of.gone n
      ∙ sym (is_gone-push heads (Add head) n ∙ or_false (is_gone heads n));
}
of_with heads entries gate (Discard number) of may = record {
  count = omega (arith, length-entries_with_gone number entries, entry_count-push heads (Discard number), of.count);
  gone = λ n. gone-with_gone number entries n (omega (arith, may.0, of.count))
      ∙ ap (λ b. (number == n) || b) (of.gone n)
      ∙ sym (is_gone-push heads (Discard number) n ∙ or_turn (is_gone heads n) (number == n));
}

of_after : (before : List ItemHead) (entries : List Entry) (steps : List Step) → AreOf before entries
    → AreProper before (heads_of steps)
    → AreOf (before ++ heads_of steps) (entries_after entries steps)
of_after before entries [] of proper = subst (λ hs. AreOf hs entries) (sym (append-nil before)) of
of_after before entries (step ∷ steps) of proper =
    subst (λ hs. AreOf hs (entries_after (entries_with step.gate step.head entries) steps))
    (append_assoc before (step.head ∷ []) (heads_of steps))
    (of_after (before ++ step.head ∷ []) (entries_with step.gate step.head entries) steps
    (of_with before entries step.gate step.head of proper.0) proper.1)

-- the entries of a proper walk are those of its heads
pub of_walk : (steps : List Step) → IsProper (heads_of steps) → AreOf (heads_of steps) (entries_on steps)
of_walk steps proper = of_after [] [] steps (record { count = refl; gone = λ n. refl }) proper

pub entries_after-push : (entries : List Entry) (steps : List Step) (step : Step)
    → entries_after entries (steps ++ step ∷ []) ≡ entries_with step.gate step.head (entries_after entries steps)
entries_after-push entries [] step = refl
entries_after-push entries (first ∷ steps) step =
    entries_after-push (entries_with first.gate first.head entries) steps step

-- ---- ways

way_made : ℕ → List Entry → ℕ → Way
way_made capacity entries end = record { capacity = capacity; entries = entries; end = end }

module _ (bytes : List ℕ) where
  walk_ends : (steps : List Step) (last : ℕ) → IsWalk bytes steps last → IsEnd bytes (heads_of steps) last
  walk_ends steps last walk head leads may = walk.closed leads.is_open

  way_is : (way way' : Way) → IsWay bytes way → IsWay bytes way' → way ≡ way'
  unfolding way_made
  way_is way way' is is' =
      let same = same_ends bytes [] 19 is.last is'.last is.steps is'.steps is.walk.path is'.walk.path is.walk.proper
      is'.walk.proper
      (walk_ends is.steps is.last is.walk) (walk_ends is'.steps is'.last is'.walk) in
      let entries : way.entries ≡ way'.entries = is.entries ∙ ap entries_on same.0 ∙ sym is'.entries in
      let end : way.end ≡ way'.end = is.end ∙ ap (λ n. n + 1) same.1 ∙ sym is'.end in
      ap (λ c. way_made c way.entries way.end) (capacity_is bytes way.capacity way'.capacity is.header is'.header)
      ∙ ap (λ es. way_made way'.capacity es way.end) entries ∙ ap (way_made way'.capacity way'.entries) end

  no_way : (way : Way) (at : ℕ) → IsWay bytes way → IsNoShelfAt bytes at → ⊥
  no_way way at is (inl none) = none.1 way.capacity is.header
  no_way way at is (inr some) =
      let broken = some.1 in
      let same = same_ends bytes [] 19 is.last at is.steps broken.steps is.walk.path broken.path is.walk.proper
      broken.proper
      (walk_ends is.steps is.last is.walk) broken.broken in
      is.walk.closed (subst (IsOpen bytes) (sym same.1) broken.is_open)

  one_place : (at at' : ℕ) → IsNoShelfAt bytes at → IsNoShelfAt bytes at' → at ≡ at'
  one_place at at' (inl none) (inl none') = none.0 ∙ sym none'.0
  one_place at at' (inl none) (inr some) = absurd (none.1 some.0.0 some.0.1)
  one_place at at' (inr some) (inl none) = absurd (none.1 some.0.0 some.0.1)
  one_place at at' (inr some) (inr some') =
      (
      same_ends bytes [] 19 at at' some.1.steps some'.1.steps some.1.path some'.1.path some.1.proper some'.1.proper
      some.1.broken some'.1.broken
      ).1

  pub has_one_way : HasOneWay bytes
  has_one_way = record { way = way_is; none = no_way; place = one_place; some = some_way bytes }

pub has_way : HasWay
has_way bytes capacity items stands = record {
  steps = steps_of 19 items;
  last = 19 + sum_by (λ item. extent_of (head_of_item item) + 1) items;
  header = header_of-standing bytes capacity items stands;
  walk = is_one_walk bytes capacity items stands;
  entries = refl;
  end = omega arith;
}

-- ---- entries

stored_made : File → Option Origin → Stored
stored_made file origin = record { file = file; origin = origin }

one_stored : (file file' : File) (origin origin' : Option Origin)
    → item_of_file file origin ≡ item_of_file file' origin'
    → stored_made file origin ≡ stored_made file' origin'
one_stored file file' None None same = cc (same)
one_stored file file' None (Some origin') same = cc (same)
one_stored file file' (Some origin) None same = cc (same)
one_stored file file' (Some origin) (Some origin') same = cc (same)

-- bytes hold one file
pub stored_is : (bytes : List ℕ) (stored stored' : Stored) → Holds bytes stored → Holds bytes stored' → stored ≡ stored'
unfolding stored_made
stored_is bytes stored stored' holds holds' =
    let same : item_bytes (item_of_stored stored) ++ [] ≡ item_bytes (item_of_stored stored') ++ [] =
    ap (λ (l : List ℕ). l ++ []) (holds.bytes_are ∙ sym holds'.bytes_are) in
    one_stored stored.file stored'.file stored.origin stored'.origin
    (item_is (item_of_stored stored) (item_of_stored stored') [] [] holds.is_item holds'.is_item same).0

no_both : (gone : Bool) → gone ≡ false → gone ≡ true → ⊥
no_both gone stays is = cc (stays, is)

pub found_once : (bytes : List ℕ) (entry : Entry) → IsFoundOnce bytes entry
found_once bytes entry None None is is' = refl
found_once bytes entry None (Some (Sound stored)) is is' = absurd (is.1 is'.1.has)
found_once bytes entry None (Some (Bad s c)) is is' = absurd (is.1 is'.1)
found_once bytes entry None (Some Gone) is is' = absurd (no_both entry.gone is.0 is')
found_once bytes entry (Some (Sound stored)) None is is' = absurd (is'.1 is.1.has)
found_once bytes entry (Some (Sound stored)) (Some (Sound stored')) is is' =
    ap (λ (s : Stored). Some (Sound s)) (stored_is (item_at bytes entry) stored stored' is.2 is'.2)
found_once bytes entry (Some (Sound stored)) (Some (Bad s c)) is is' = absurd (is'.4 (is'.2 ∙ is.1.right ∙ sym is'.3))
found_once bytes entry (Some (Sound stored)) (Some Gone) is is' = absurd (no_both entry.gone is.0 is')
found_once bytes entry (Some (Bad s c)) None is is' = absurd (is'.1 is.1)
found_once bytes entry (Some (Bad s c)) (Some (Sound stored)) is is' = absurd (is.4 (is.2 ∙ is'.1.right ∙ sym is.3))
found_once bytes entry (Some (Bad s c)) (Some (Bad s' c')) is is' =
    ap (λ (k : ℕ). Some (Bad k c)) (is.2 ∙ sym is'.2) ∙ ap (λ (k : ℕ). Some (Bad s' k)) (is.3 ∙ sym is'.3)
found_once bytes entry (Some (Bad s c)) (Some Gone) is is' = absurd (no_both entry.gone is.0 is')
found_once bytes entry (Some Gone) None is is' = absurd (no_both entry.gone is'.0 is)
found_once bytes entry (Some Gone) (Some (Sound stored)) is is' = absurd (no_both entry.gone is'.0 is)
found_once bytes entry (Some Gone) (Some (Bad s c)) is is' = absurd (no_both entry.gone is'.0 is)
found_once bytes entry (Some Gone) (Some Gone) is is' = refl
