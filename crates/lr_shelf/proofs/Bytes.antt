-- What was read is of bytes, and an item of bytes with the right checksum holds a file.
use Rattle.std.proofs.Common.{◌≡◌, ◌<◌, ◌+◌, ℕ, false, Some, None, All, List, take, drop, refl, sym}
use Rattle.std.proofs.Common.{subst, Bool, true, slice_index, ◌==◌, arith, ap}
use Rattle.std.proofs.Math.Seq.{take-add}
use Rattle.std.proofs.lemmas.Bool.{eqb-false, eqb-true}
use Rattle.std.proofs.lemmas.List.{drop-drop}
use Rattle.std.proofs.lemmas.List.Elements.{All-append, All-take}
use Rattle.lr_shelf_format.specs.Items.{Begins, HasForm, Holds, computed_checksum, stored_checksum}
use Rattle.lr_shelf_format.specs.Record.{file_of_body, head_of, origin_of_bytes}
use Rattle.lr_shelf_format.specs.Way.{HasRecord, Sound, IsFound, item_at}
use Rattle.lr_shelf_format.specs.declared.entry.Entry.{Entry}
use Rattle.lr_shelf_format.specs.declared.item.ItemHead.{ItemHead}
use Rattle.lr_shelf_format.specs.declared.item.ItemHead.TheVariants.{Old, Add, Discard}
use Rattle.lr_shelf_format.specs.declared.record.RecordHead.{RecordHead}
use Rattle.lr_shelf_format.specs.declared.stored.Stored.{Stored}
use Rattle.lr_shelf_format.proofs.ItemLemmas.{holds_add, holds_old}

abbrev pub IsByte : ℕ → Type 0
IsByte one = one < 256

pub fit_piece : (size : ℕ) (buffer piece : List ℕ) → All IsByte buffer → take size buffer ≡ piece → All IsByte piece
fit_piece size buffer piece fit same = subst (All IsByte) same (All-take IsByte size buffer fit)

-- an item, its checksum apart, and its checksum
pub fit_item : (bytes : List ℕ) (entry : Entry) (size : ℕ) → entry.extent ≡ size + 2
    → All IsByte (take size (drop (entry.gate + 1) bytes))
    → All IsByte (take 2 (drop (entry.gate + 1 + size) bytes)) → All IsByte (item_at bytes entry)
fit_item bytes entry size extent front end =
    let all = drop (entry.gate + 1) bytes in
    subst (λ n. All IsByte (take n all)) (sym extent)
    (subst (All IsByte) (sym (take-add size 2 all))
    (All-append IsByte (take size all) (take 2 (drop size all)) front
    (subst (λ (l : List ℕ). All IsByte (take 2 l)) (sym (drop-drop size (entry.gate + 1) bytes)) end)))

-- ---- the file in an item

stored_by : Bool → List ℕ → Stored
stored_by true bytes =
    record {
      file = file_of_body (head_of (drop 1 bytes)) (drop 36 bytes);
      origin = Some
          (origin_of_bytes (drop 12 bytes));
    }
stored_by false bytes = record { file = file_of_body (head_of bytes) (drop 11 bytes); origin = None }

-- by the first byte of the item, an Add or an Old one
pub stored_read : List ℕ → Stored
stored_read bytes = stored_by (slice_index bytes 0 == 0x80) bytes

module _ (bytes : List ℕ) (fit : All IsByte bytes) (right : stored_checksum bytes ≡ computed_checksum bytes) where
  holds_by : (head : ItemHead) → Begins bytes head → HasForm bytes head → (b : Bool)
      → (slice_index bytes 0 == 0x80) ≡ b → Holds bytes (stored_by b bytes)
  unfolding stored_by
  holds_by (Old head) begins form true is =
      absurd (omega (
        arith,
        begins.0.channel,
        ap (λ (h : RecordHead). h.vc) begins.1,
        eqb-true (slice_index bytes 0) 0x80 is,
      ))
  holds_by (Old head) begins form false is =
      holds_old bytes fit right head (file_of_body (head_of bytes) (drop 11 bytes)) begins form
      (ap (λ (h : RecordHead). file_of_body h (drop 11 bytes)) (sym begins.1))
  holds_by (Add head) begins form true is =
      holds_add bytes fit right head (file_of_body (head_of (drop 1 bytes)) (drop 36 bytes)) begins form
      (ap (λ (h : RecordHead). file_of_body h (drop 36 bytes)) (sym begins.2))
  holds_by (Add head) begins form false is =
      absurd (eqb-false (slice_index bytes 0) 0x80 is begins.0)
  holds_by (Discard number) begins form b is = absurd form

  holds_read : (head : ItemHead) → Begins bytes head → HasForm bytes head → Holds bytes (stored_read bytes)
  unfolding stored_read
  holds_read head begins form = holds_by head begins form (slice_index bytes 0 == 0x80) refl

-- a file stands at the entry
pub file_stands : (bytes : List ℕ) (entry : Entry) → HasRecord bytes entry → All IsByte (item_at bytes entry)
    → stored_checksum (item_at bytes entry) ≡ computed_checksum (item_at bytes entry) → entry.gone ≡ false
    → IsFound bytes entry (Some (Sound (stored_read (item_at bytes entry))))
file_stands bytes entry has fit right stays =
    let holds = holds_read (item_at bytes entry) fit right has.form.head has.form.begins has.form.form in
    (stays, record { has = has; right = right }, holds)
