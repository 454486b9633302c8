-- Entries that were read ahead are settled, one after another.
use Rattle.std.proofs.Common.{◌≡◌, ◌<◌, ◌≤◌, ◌+◌, ℕ, cond, not, Some}
use Rattle.std.proofs.Common.{Result, Ok, Err, List, [], ◌∷◌, ◌++◌, length, refl, sym, ap, ◌∙◌, subst, arith}
use Rattle.std.proofs.Common.{append-nil}
use Rattle.std.proofs.lemmas.List.Sums.{sum_by_push}
use Rattle.lr_bits.specs.File.{File}
use Rattle.lr_bits.proofs.Telling.{tells_still}
use Rattle.lr_io.specs.declared.sink.Sink.{Ghosts as SinkOf}
use Rattle.lr_disk.specs.declared.disk.Disk.{Ghosts as DiskOf}
use Rattle.lr_image.specs.Picture.{Picture}
use Rattle.lr_image.specs.Images.{HasOutcome}
use Rattle.lr_image.specs.declared.fault.ImageFault.{ImageFault}
use Rattle.lr_shelf_format.specs.Way.{Way}
use Rattle.lr_shelf_format.specs.declared.stored.Stored.{Stored}
use Rattle.lr_causes.specs.Puts.{Puts}
use Rattle.lr_cmd_shelf.specs.declared.opened.Opened.{Opened}
use Rattle.lr_cmd_shelf.specs.Queries.{Absent, EntryView, Whole}
use Rattle.lr_cmd_shelf.specs.Files.{files_of}
use Rattle.lr_cmd_render.specs.Render.{image_text, images_in, is_image, render_query, skipped_in}
use Rattle.lr_cmd_shelf.proofs.Filing.{files_of-absent, files_of-whole}
use Rattle.lr_cmd_shelf.proofs.Taking.{so_more}
use Rattle.lr_cmd_render.specs.Leading.{Ahead, AreAhead, Imageless, IsTally, Pending, Settles, settled_to}
use Rattle.lr_cmd_render.specs.Leading.{AheadStandsAt, Vacant, count_in, imageless_in, pending_in, way_of_source}
use Rattle.lr_cmd_render.specs.Outcomes.{tally_with}
use Rattle.lr_cmd_render.specs.declared.render_source.RenderSource.{RenderSource}
use Rattle.lr_cmd_render.specs.declared.tally.Tally.{Tally}

-- ---- counts

abbrev pub opened_with : Stored → Result Picture ImageFault → Opened
opened_with stored outcome = record { stored = stored; image = Some outcome }

-- a whole entry more is counted by its image
images_more : (read : List EntryView) (opened : Opened)
    → images_in (files_of (read ++ Whole opened ∷ [])) ≡ images_in (files_of read) + cond (is_image opened.image) 1 0
images_more read opened =
    ap images_in (files_of-whole read opened)
    ∙ sum_by_push (λ (o : Opened). cond (is_image o.image) 1 0) (files_of read) opened

skipped_more : (read : List EntryView) (opened : Opened)
    → skipped_in (files_of (read ++ Whole opened ∷ []))
    ≡ skipped_in (files_of read) + cond (not (is_image opened.image)) 1 0
skipped_more read opened =
    ap skipped_in (files_of-whole read opened)
    ∙ sum_by_push (λ (o : Opened). cond (not (is_image o.image)) 1 0) (files_of read) opened

tally_vacant : (rest : List Ahead) (tally : Tally) (read : List EntryView) → IsTally (Vacant ∷ rest) tally read
    → IsTally rest tally (read ++ Absent ∷ [])
tally_vacant rest tally read is = record {
  images = is.images ∙ ap images_in (sym (files_of-absent read));
  skipped = is.skipped ∙ ap (λ (l : List Opened). skipped_in l + imageless_in rest) (sym (files_of-absent read));
}

tally_imageless : (stored : Stored) (fault : ImageFault) (rest : List Ahead) (tally : Tally) (read : List EntryView)
    → IsTally (Imageless stored fault ∷ rest) tally read
    → IsTally rest tally (read ++ Whole (opened_with stored (Err fault)) ∷ [])
tally_imageless stored fault rest tally read is =
    let opened = opened_with stored (Err fault) in
    record {
      images = omega (arith, is.images, images_more read opened);
      skipped = omega (arith, is.skipped, skipped_more read opened);
    }

tally_pending : (stored : Stored) (outcome : Result Picture ImageFault) (rest : List Ahead) (tally : Tally)
    (read : List EntryView) → IsTally (Pending stored ∷ rest) tally read
    → IsTally rest (tally_with outcome tally) (read ++ Whole (opened_with stored outcome) ∷ [])
tally_pending stored (Ok picture) rest tally read is =
    let opened = opened_with stored (Ok picture) in
    record {
      images = omega (arith, is.images, images_more read opened);
      skipped = omega (arith, is.skipped, skipped_more read opened);
    }
tally_pending stored (Err fault) rest tally read is =
    let opened = opened_with stored (Err fault) in
    record {
      images = omega (arith, is.images, images_more read opened);
      skipped = omega (arith, is.skipped, skipped_more read opened);
    }

-- ---- the entries ahead

module _ {D O : Type 0} (disk : DiskOf D) (out : SinkOf O) (start : RenderSource D O) where
  abbrev way : Way
  way = way_of_source start

  abbrev d : D
  d = start.disk.now

  nothing_put : (o : O) → Puts out [] o o
  nothing_put o =
      record { tell = tells_still; put = λ t. sym (append-nil (out.contents o)); kept = refl }

  module _ (number : ℕ) (more : number < count_in start) (o : O) where
    vacant : (rest : List Ahead) (tally : Tally) → Settles disk out start (settled_to (Vacant ∷ rest) tally number) o
        → AheadStandsAt disk way d number Vacant → Settles disk out start (settled_to rest tally (number + 1)) o
    vacant rest tally so stands =
        so_more disk out render_query way (record { from = 0; to = count_in start }) d start.out.now
        (IsTally (Vacant ∷ rest) tally) number o o so more d (λ t. t) (λ t. refl) (IsTally rest tally) d (record {
          seen = Absent;
          was = record { sight = tt; stands = stands };
          puts = record { text = []; is = refl; puts = nothing_put o };
          gathered = tally_vacant rest tally so.read so.gathered;
        })

    imageless : (stored : Stored) (fault : ImageFault) (rest : List Ahead) (tally : Tally)
        → Settles disk out start (settled_to (Imageless stored fault ∷ rest) tally number) o
        → AheadStandsAt disk way d number (Imageless stored fault)
        → Settles disk out start (settled_to rest tally (number + 1)) o
    imageless stored fault rest tally so stands =
        so_more disk out render_query way (record { from = 0; to = count_in start }) d start.out.now
        (IsTally (Imageless stored fault ∷ rest) tally) number o o so more d (λ t. t) (λ t. refl)
        (IsTally rest tally) d (record {
          seen = Whole (opened_with stored (Err fault));
          was = record { sight = stands.1; stands = λ t. (stands.0 t, stands.1) };
          puts = record { text = []; is = refl; puts = nothing_put o };
          gathered = tally_imageless stored fault rest tally so.read so.gathered;
        })

    -- the image at the entry was put, if there is one
    pub pending : (stored : Stored) (outcome : Result Picture ImageFault) (rest : List Ahead) (tally : Tally) (o' : O)
        → Settles disk out start (settled_to (Pending stored ∷ rest) tally number) o
        → AheadStandsAt disk way d number (Pending stored) → HasOutcome stored.file outcome
        → Puts out (image_text (Some outcome)) o o'
        → Settles disk out start (settled_to rest (tally_with outcome tally) (number + 1)) o'
    pending stored outcome rest tally o' so stands has puts =
        so_more disk out render_query way (record { from = 0; to = count_in start }) d start.out.now
        (IsTally (Pending stored ∷ rest) tally) number o o' so more d (λ t. t) (λ t. refl)
        (IsTally rest (tally_with outcome tally)) d (record {
          seen = Whole (opened_with stored outcome);
          was = record { sight = has; stands = λ t. (stands t, has) };
          puts = record { text = image_text (Some outcome); is = refl; puts = puts };
          gathered = tally_pending stored outcome rest tally so.read so.gathered;
        })

  -- the entry of the first image under way, and what is ahead of it
  pub record FirstPending (tally : Tally) (end : ℕ) (o : O) (file : File) (files : List File) : Type 0 where
    pub number : ℕ
    pub stored : Stored
    pub rest : List Ahead
    pub file_is : stored.file ≡ file
    pub files_are : pending_in rest ≡ files
    pub stands : AheadStandsAt disk way d number (Pending stored)
    pub are_ahead : AreAhead disk way d (number + 1) rest
    pub reached : number + 1 + length rest ≡ end
    pub settles : Settles disk out start (settled_to (Pending stored ∷ rest) tally number) o

  pub first_pending : (ahead : List Ahead) (tally : Tally) (number end : ℕ) (o : O) (file : File) (files : List File)
      → number + length ahead ≡ end → end ≤ count_in start → AreAhead disk way d number ahead
      → Settles disk out start (settled_to ahead tally number) o → pending_in ahead ≡ file ∷ files
      → FirstPending tally end o file files
  first_pending [] tally number end o file files reached inside are so is = absurd (no_files is) where
    no_files : {l : List File} → [] ≡ file ∷ l → ⊥
    no_files same = cc (same)
  first_pending (Vacant ∷ ahead) tally number end o file files reached inside are so is =
      first_pending ahead tally (number + 1) end o file files (omega (arith, reached)) inside are.1
      (vacant number (omega (arith, reached, inside)) o ahead tally so are.0) is
  first_pending (Imageless stored fault ∷ ahead) tally number end o file files reached inside are so is =
      first_pending ahead tally (number + 1) end o file files (omega (arith, reached)) inside are.1
      (imageless number (omega (arith, reached, inside)) o stored fault ahead tally so are.0) is
  first_pending (Pending stored ∷ ahead) tally number end o file files reached inside are so is = record {
    number = number;
    stored = stored;
    rest = ahead;
    file_is = first_of is;
    files_are = others_of is;
    stands = are.0;
    are_ahead = are.1;
    reached = omega (arith, reached);
    settles = so;
  }
    where
      first_of : stored.file ∷ pending_in ahead ≡ file ∷ files → stored.file ≡ file
      first_of same = cc (same)

      others_of : stored.file ∷ pending_in ahead ≡ file ∷ files → pending_in ahead ≡ files
      others_of same = cc (same)

  -- where no image is under way, all entries that were read are settled
  pub none_pending : (ahead : List Ahead) (tally : Tally) (number end : ℕ) (o : O) → number + length ahead ≡ end
      → end ≤ count_in start → AreAhead disk way d number ahead
      → Settles disk out start (settled_to ahead tally number) o
      → pending_in ahead ≡ [] → Settles disk out start (settled_to [] tally end) o
  none_pending [] tally number end o reached inside are so is =
      subst (λ (n : ℕ). Settles disk out start (settled_to [] tally n) o) (omega (arith, reached)) so
  none_pending (Vacant ∷ ahead) tally number end o reached inside are so is =
      none_pending ahead tally (number + 1) end o (omega (arith, reached)) inside are.1
      (vacant number (omega (arith, reached, inside)) o ahead tally so are.0) is
  none_pending (Imageless stored fault ∷ ahead) tally number end o reached inside are so is =
      none_pending ahead tally (number + 1) end o (omega (arith, reached)) inside are.1
      (imageless number (omega (arith, reached, inside)) o stored fault ahead tally so are.0) is
  none_pending (Pending stored ∷ ahead) tally number end o reached inside are so is = absurd (no_files is) where
    no_files : {l : List File} → stored.file ∷ l ≡ [] → ⊥
    no_files same = cc (same)
