-- What is read at an entry of a shelf. No clause of a public call cites this.
use Rattle.std.specs.Prelude.{◌≡◌, ℕ, Option, Some, Result, Ok, Err, List}
use Rattle.lr_bits.specs.Faults.{Rose}
use Rattle.lr_disk.specs.declared.disk.Disk.{Ghosts as DiskOf}
use Rattle.lr_image.specs.Images.{HasImageFault}
use Rattle.lr_image.specs.declared.fault.ImageFault.{ImageFault}
use Rattle.lr_render.specs.Plans.{IsNewPlan, PlanView}
use Rattle.lr_shelf_format.specs.Way.{Way, Gone, Sound, IsFound}
use Rattle.lr_shelf_format.specs.declared.stored.Stored.{Stored}
use Rattle.lr_causes.specs.declared.cause.Cause.{Cause}
use Rattle.lr_causes.specs.declared.cause.Cause.TheVariants.{Failed, NoMemory, Refused}
use Rattle.lr_causes.specs.declared.cause.Party.TheVariants.{Disk}
use Rattle.lr_causes.specs.declared.cause.Refusal.{Refusal}
use Rattle.lr_cmd_shelf.specs.Queries.{EntryView, entry_at, fate_of}
use Rattle.lr_cmd_shelf.specs.Read.{WasSeen}
use Rattle.lr_cmd_render.specs.Render.{render_query}
use Rattle.lr_cmd_render.specs.declared.content.Content.{Content}
use Rattle.lr_cmd_render.specs.declared.content.Content.TheVariants.{Gone as AGone, NoImage, Image}

-- what a file holds by its plan, or by the fault for which it has none
abbrev pub content_by : Result PlanView ImageFault → Content
content_by (Ok plan) = Image plan
content_by (Err fault) = NoImage

-- what this file holds
abbrev pub IsContentOf : Stored → Content → Type 0
IsContentOf stored AGone = ⊥
IsContentOf stored NoImage = (fault : ImageFault) × HasImageFault stored.file fault
IsContentOf stored (Image plan) = IsNewPlan stored.file plan

module _ {D : Type 0} (disk : DiskOf D) (way : Way) (number : ℕ) where
  -- this file stands there
  abbrev pub ReadsFile : D → Stored → Type 0
  ReadsFile d stored = disk.tells d → IsFound (disk.contents d) (entry_at way number) (Some (Sound stored))

  -- nothing does any more
  abbrev pub FindsGone : D → Type 0
  FindsGone d = disk.tells d → IsFound (disk.contents d) (entry_at way number) (Some Gone)

  -- what stands there holds this
  abbrev pub IsContent : D → Content → Type 0
  IsContent d AGone = FindsGone d
  IsContent d NoImage = (stored : Stored) × ReadsFile d stored × IsContentOf stored NoImage
  IsContent d (Image plan) = (stored : Stored) × ReadsFile d stored × IsContentOf stored (Image plan)

  -- what stands there is refused
  pub record IsRefusedAt (d : D) (refusal : Refusal) : Type 0 where
    pub seen : Option EntryView
    pub was : WasSeen disk d render_query.sees (entry_at way number) seen
    pub fate : (read : List EntryView) → fate_of render_query way read number seen ≡ Err refusal

  -- why the entry was not read
  abbrev pub ReadStops : Cause → D → D → Type 0
  ReadStops (Failed Disk) d d' = Rose (disk.faults d) (disk.faults d')
  ReadStops NoMemory d d' = disk.faults d' ≡ disk.faults d
  ReadStops (Refused refusal) d d' = (disk.faults d' ≡ disk.faults d) × IsRefusedAt d refusal
  ReadStops _ d d' = ⊥
