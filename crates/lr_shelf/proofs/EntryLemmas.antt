-- The entries that a shelf keeps.
use Rattle.std.proofs.Common.{◌≡◌, ◌<◌, ◌≤◌, ◌+◌, true, ℕ, zero, suc, List, [], ◌∷◌, ◌++◌, length}
use Rattle.std.proofs.Common.{get_or, set, ap, arith}
use Rattle.lr_shelf_format.specs.Items.{extent_of}
use Rattle.lr_shelf_format.specs.Way.{entries_with, entries_with_gone}
use Rattle.lr_shelf_format.specs.declared.entry.Entry.{Entry}
use Rattle.lr_shelf_format.specs.declared.item.ItemHead.{ItemHead}
use Rattle.lr_shelf_format.specs.declared.item.ItemHead.TheVariants.{Old, Add, Discard}
use Rattle.lr_shelf.specs.Walking.{EndBefore}

-- ---- one entry is marked

entry_gone : Entry → Entry
entry_gone entry = record { gate = entry.gate; extent = entry.extent; gone = true }

pub marked : (entries : List Entry) (number : ℕ) (entry : Entry) → number < length entries
    → entry ≡ get_or entries number entry
    → set entries number (record { gate = entry.gate; extent = entry.extent; gone = true })
    ≡ entries_with_gone number entries
unfolding entry_gone
marked [] number entry inside is = absurd (omega (arith, inside))
marked (first ∷ entries) zero entry inside is = ap (λ (e : Entry). entry_gone e ∷ entries) is
marked (first ∷ entries) (suc number) entry inside is =
    ap (λ (es : List Entry). first ∷ es) (marked entries number entry (omega (arith, inside)) is)

-- ---- where they end

pub EndBefore-later : (end end' : ℕ) (entries : List Entry) → end ≤ end' → EndBefore end entries
    → EndBefore end' entries
EndBefore-later end end' entries later low k d inside = omega (arith, low k d inside, later)

EndBefore-push : (end : ℕ) (entries : List Entry) (entry : Entry) → entry.gate + 1 + entry.extent < end
    → EndBefore end entries → EndBefore end (entries ++ entry ∷ [])
EndBefore-push end [] entry here low zero d inside = here
EndBefore-push end [] entry here low (suc k) d inside = absurd (omega (arith, inside))
EndBefore-push end (first ∷ entries) entry here low zero d inside = low 0 d (omega arith)
EndBefore-push end (first ∷ entries) entry here low (suc k) d inside =
    EndBefore-push end entries entry here (λ j e within. low (suc j) e (omega (arith, within))) k d
    (omega (arith, inside))

EndBefore-gone : (end number : ℕ) (entries : List Entry) → EndBefore end entries
    → EndBefore end (entries_with_gone number entries)
EndBefore-gone end number [] low k d inside = absurd (omega (arith, inside))
EndBefore-gone end zero (first ∷ entries) low zero d inside = low 0 d (omega arith)
EndBefore-gone end zero (first ∷ entries) low (suc k) d inside = low (suc k) d inside
EndBefore-gone end (suc number) (first ∷ entries) low zero d inside = low 0 d (omega arith)
EndBefore-gone end (suc number) (first ∷ entries) low (suc k) d inside =
    EndBefore-gone end number entries (λ j e within. low (suc j) e (omega (arith, within))) k d (omega (arith, inside))

-- with an item more
pub EndBefore-with : (end end' gate : ℕ) (head : ItemHead) (entries : List Entry) → gate + 1 + extent_of head < end'
    → end ≤ end' → EndBefore end entries → EndBefore end' (entries_with gate head entries)
EndBefore-with end end' gate (Old head) entries here later low =
    EndBefore-push end' entries _ here (EndBefore-later end end' entries later low)
EndBefore-with end end' gate (Add head) entries here later low =
    EndBefore-push end' entries _ here (EndBefore-later end end' entries later low)
EndBefore-with end end' gate (Discard number) entries here later low =
    EndBefore-gone end' number entries (EndBefore-later end end' entries later low)
