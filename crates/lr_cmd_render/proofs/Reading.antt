-- What is read at an entry, or why nothing is.
use Rattle.std.proofs.Common.{◌≡◌, ◌<◌, ℕ, true, false, Some, None, Err, length, refl, sym, ap, arith}
use Rattle.lr_disk.specs.declared.disk.Disk.{Ghosts as DiskOf}
use Rattle.lr_shelf_format.specs.declared.stored.Stored.{Stored}
use Rattle.lr_shelf.specs.Calls.{IsFaultCounted}
use Rattle.lr_shelf.specs.Kept.{KeptShelf}
use Rattle.lr_shelf.specs.Read.{IsGetRefusal}
use Rattle.lr_shelf.specs.declared.error.ShelfError.{ShelfError}
use Rattle.lr_shelf.specs.declared.error.ShelfError.TheVariants.{Disk, NotAShelf as NotAShelf', NotEmpty, Capacity}
use Rattle.lr_shelf.specs.declared.error.ShelfError.TheVariants.{NoSuchFile, Crc, NoMemory, Failed, Discarded}
use Rattle.lr_refusals.specs.Errors.{cause_of}
use Rattle.lr_causes.specs.declared.cause.Refusal.TheVariants.{NotAShelf}
use Rattle.lr_cmd_shelf.specs.Queries.{Wrong}
use Rattle.lr_cmd_render.specs.Contents.{IsContent, IsContentOf, ReadStops, ReadsFile}
use Rattle.lr_cmd_render.specs.declared.content.Content.{Content}
use Rattle.lr_cmd_render.specs.declared.content.Content.TheVariants.{Gone, NoImage, Image}

-- what a file holds that stands there
pub content_stands : {D : Type 0} (disk : DiskOf D) (kept : KeptShelf) (number : ℕ) (d : D) (stored : Stored)
    → ReadsFile disk kept.way number d stored → (content : Content) → IsContentOf stored content
    → IsContent disk kept.way number d content
content_stands disk kept number d stored reads Gone holds = absurd holds
content_stands disk kept number d stored reads NoImage holds = (stored, reads, holds)
content_stands disk kept number d stored reads (Image plan) holds = (stored, reads, holds)

pub content_stops : {D : Type 0} (disk : DiskOf D) (kept : KeptShelf) (number : ℕ) (d d' : D) → kept.failed ≡ false
    → number < length kept.way.entries → (error : ShelfError) → (error ≡ Discarded → ⊥)
    → IsGetRefusal disk kept number d error
    → IsFaultCounted {A = Stored} (disk.faults d) (disk.faults d') (Err error)
    → ReadStops disk kept.way number (cause_of error) d d'
content_stops disk kept number d d' works there Disk stays refusal counted = counted.1
content_stops disk kept number d d' works there (NotAShelf' at) stays refusal counted = (
  counted,
  record {
    seen = None;
    was = record { sight = tt; stands = refusal.1.1 };
    fate = λ read. ap (λ (n : ℕ). Err (NotAShelf n)) (sym refusal.1.0);
  },
)
content_stops disk kept number d d' works there (NotEmpty size) stays refusal counted = absurd refusal.1
content_stops disk kept number d d' works there (Capacity needed most) stays refusal counted = absurd refusal.1
content_stops disk kept number d d' works there (NoSuchFile count) stays refusal counted =
    absurd (omega (arith, there, refusal.1, refusal.2))
content_stops disk kept number d d' works there (Crc stored computed) stays refusal counted = (
  counted,
  record {
    seen = Some (Wrong stored computed);
    was = record { sight = tt; stands = refusal.1.1 };
    fate = λ read. refl;
  },
)
content_stops disk kept number d d' works there NoMemory stays refusal counted = counted
content_stops disk kept number d d' works there Failed stays refusal counted = absurd (both works refusal) where
  both : kept.failed ≡ false → kept.failed ≡ true → ⊥
  both well failed = cc (well, failed)
content_stops disk kept number d d' works there Discarded stays refusal counted = absurd (stays refl)
