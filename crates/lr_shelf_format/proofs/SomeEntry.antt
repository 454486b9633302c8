-- That something is found at each entry.
use Rattle.std.proofs.Common.{◌≡◌, ◌⊎◌, inl, inr, ◌<◌, ◌≤◌, ◌+◌, ◌*◌, Bool, true, false, ℕ, zero, suc, Option, Some}
use Rattle.std.proofs.Common.{None, List, [], ◌∷◌, length, sum, slice_index, drop, All, refl, subst, arith}
use Rattle.std.proofs.lemmas.Bool.{cases_eq}
use Rattle.std.proofs.lemmas.List.Elements.{All-take}
use Rattle.lr_shelf_format.specs.Items.{Begins, HasBody, HasForm, Holds, IsFileRecord, computed_checksum}
use Rattle.lr_shelf_format.specs.Items.{stored_checksum}
use Rattle.lr_shelf_format.specs.Record.{file_of_body, numbers_in, origin_of_bytes}
use Rattle.lr_shelf_format.specs.Way.{Bad, EntryState, Gone, HasRecord, IsFound, Sound, item_at}
use Rattle.lr_shelf_format.specs.declared.entry.Entry.{Entry}
use Rattle.lr_shelf_format.specs.declared.item.ItemHead.{ItemHead}
use Rattle.lr_shelf_format.specs.declared.item.ItemHead.TheVariants.{Old, Add, Discard}
use Rattle.lr_shelf_format.specs.declared.record.RecordHead.{RecordHead}
use Rattle.lr_shelf_format.specs.declared.stored.Stored.{Stored}
use Rattle.lr_shelf_format.proofs.ItemLemmas.{head_is, holds_add, holds_old}
use Rattle.lr_shelf_format.proofs.NumberLemmas.{AreBytes, AreBytes-drop}
use Rattle.lr_shelf_format.proofs.SomeWay.{Known, known_as, known_both, known_le, some_begun}

-- ---- records

all_with : (most x : ℕ) (xs : List ℕ) → (x ≤ most) × All (λ one. one ≤ most) xs → All (λ one. one ≤ most) (x ∷ xs)
all_with most x xs both zero d inside = both.0
all_with most x xs both (suc k) d inside = both.1 k d (omega (arith, inside))

known_all : (most : ℕ) (xs : List ℕ) → Known (All (λ one. one ≤ most) xs)
known_all most [] = inl (λ k d inside. absurd (omega arith))
known_all most (x ∷ xs) =
    known_as (all_with most x xs) (λ all. (all 0 0 (omega arith), λ k d inside. all (suc k) d (omega (arith, inside))))
    (known_both (known_le x most) (known_all most xs))

known_body : (head : RecordHead) (place : ℕ) (bytes : List ℕ) → Known (HasBody head place bytes)
known_body head place bytes =
    known_as (λ parts. record { size = parts.0.0; short = parts.0.1; whole = parts.1 })
    (λ has. ((has.size, has.short), has.whole))
    (known_both (known_both (cases_eq _ _) (known_all _ (numbers_in head.packets (drop place bytes)))) (cases_eq _ _))

known_form : (bytes : List ℕ) (head : ItemHead) → Known (HasForm bytes head)
known_form bytes (Old head) = known_body head 11 bytes
known_form bytes (Add head) = known_body head 36 bytes
known_form bytes (Discard number) = inr (λ form. form)

known_file : (bytes : List ℕ) → Known (IsFileRecord bytes)
known_file bytes = elim (some_begun bytes) [
  | inr none ↦ inr (λ is. none is.head is.begins)
  | inl found ↦ elim (known_form bytes found.0) [
    | inl form ↦ inl (record { head = found.0; begins = found.1; form = form })
    | inr other ↦
        inr (λ is. other (subst (HasForm bytes) (head_is bytes is.head found.0 is.begins found.1) is.form))
  ]
]

known_record : (bytes : List ℕ) (entry : Entry) → Known (HasRecord bytes entry)
known_record bytes entry =
    known_as (λ parts. record { is_open = parts.0.0; inside = parts.0.1; form = parts.1 })
    (λ has. ((has.is_open, has.inside), has.form))
    (known_both (known_both (cases_eq (slice_index bytes entry.gate) 1) (known_le _ (length bytes)))
    (known_file (item_at bytes entry)))

-- ---- what stands there

stored_there : (item : List ℕ) → AreBytes item → stored_checksum item ≡ computed_checksum item → (head : ItemHead)
    → Begins item head → HasForm item head → (stored : Stored) × Holds item stored
stored_there item fit right (Old head) begins form = (
  record { file = file_of_body head (drop 11 item); origin = None },
  holds_old item fit right head (file_of_body head (drop 11 item)) begins form refl,
)
stored_there item fit right (Add head) begins form = (
  record { file = file_of_body head (drop 36 item); origin = Some (origin_of_bytes (drop 12 item)) },
  holds_add item fit right head (file_of_body head (drop 36 item)) begins form refl,
)
stored_there item fit right (Discard number) begins form = absurd form

module _ (bytes : List ℕ) (fit : AreBytes bytes) (entry : Entry) where
  abbrev FoundThere : Type 0
  FoundThere = (found : Option EntryState) × IsFound bytes entry found

  item_fits : AreBytes (item_at bytes entry)
  item_fits =
      All-take (λ byte. byte < 256) entry.extent (drop (entry.gate + 1) bytes)
      (AreBytes-drop (entry.gate + 1) bytes fit)

  sound_or_bad : entry.gone ≡ false → HasRecord bytes entry → FoundThere
  sound_or_bad stays has =
      let item = item_at bytes entry in
      elim (cases_eq (stored_checksum item) (computed_checksum item)) [
        | inr differ ↦ (
          Some (Bad (stored_checksum item) (computed_checksum item)),
          (stays, has, refl, refl, differ),
        )
        | inl right ↦
            let there = stored_there item item_fits right has.form.head has.form.begins has.form.form in
            (Some (Sound there.0), (stays, record { has = has; right = right }, there.1))
      ]

  found_by : (gone : Bool) → entry.gone ≡ gone → FoundThere
  found_by true is = (Some Gone, is)
  found_by false is = elim (known_record bytes entry) [
    | inl has ↦ sound_or_bad is has
    | inr never ↦ (None, (is, never))
  ]

  pub some_found : FoundThere
  some_found = found_by entry.gone refl
