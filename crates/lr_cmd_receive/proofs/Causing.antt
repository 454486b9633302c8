-- Causes and counts.
use Rattle.std.proofs.Common.{◌≡◌, inl, inr, ℕ, List, true, false, Result, Err, refl, ap, subst, sym, arith}
use Rattle.lr_bits.specs.Faults.{Rose}
use Rattle.lr_io.specs.declared.sink.Sink.{Ghosts as SinkOf}
use Rattle.lr_io.specs.declared.source.Source.{Ghosts as SourceOf}
use Rattle.lr_disk.specs.declared.disk.Disk.{Ghosts as DiskOf}
use Rattle.lr_shelf_format.specs.Items.{Item}
use Rattle.lr_shelf.specs.Append.{IsAppendRefusal}
use Rattle.lr_shelf.specs.Calls.{IsFaultCounted}
use Rattle.lr_shelf.specs.Kept.{KeptShelf}
use Rattle.lr_shelf.specs.declared.error.ShelfError.{ShelfError}
use Rattle.lr_shelf.specs.declared.error.ShelfError.TheVariants.{Disk as Disk'}
use Rattle.lr_shelf.specs.declared.error.ShelfError.TheVariants.{NotAShelf as NotAShelf'}
use Rattle.lr_shelf.specs.declared.error.ShelfError.TheVariants.{NotEmpty as NotEmpty'}
use Rattle.lr_shelf.specs.declared.error.ShelfError.TheVariants.{Capacity as Capacity'}
use Rattle.lr_shelf.specs.declared.error.ShelfError.TheVariants.{NoSuchFile as NoSuchFile'}
use Rattle.lr_shelf.specs.declared.error.ShelfError.TheVariants.{Crc as Crc', NoMemory as NoMemory'}
use Rattle.lr_shelf.specs.declared.error.ShelfError.TheVariants.{Failed as Failed'}
use Rattle.lr_shelf.specs.declared.error.ShelfError.TheVariants.{Discarded as Discarded'}
use Rattle.lr_forms.specs.declared.forms.Stop.{Stop}
use Rattle.lr_forms.specs.declared.forms.Stop.TheVariants.{End, Limit, Fault}
use Rattle.lr_causes.specs.declared.cause.Cause.{Cause}
use Rattle.lr_causes.specs.declared.cause.Cause.TheVariants.{Done, Failed, NoMemory, Refused}
use Rattle.lr_causes.proofs.Counting.{counts_tell}
use Rattle.lr_causes.specs.declared.cause.Party.TheVariants.{Source, Disk, Output}
use Rattle.lr_causes.specs.Causes.{IsCaused, cause_at, counts}
use Rattle.lr_refusals.specs.Errors.{cause_of}
use Rattle.lr_causes.specs.Puts.{PutStops}
use Rattle.lr_reading.specs.Reading.{EndsFor}
use Rattle.lr_causes.specs.Counts.{CountsTell}
use Rattle.lr_cmd_receive.specs.First.{SourceBesides}
use Rattle.lr_cmd_receive.specs.Shelved.{MayStop}

-- by the counts of the disk and of `out`: where the source may have failed besides
pub first_stays : (cause : Cause) (s s' d d' o o' : ℕ) → SourceBesides cause Source
    → IsCaused cause (counts s d o) (counts s' d' o') → d' ≡ d → o' ≡ o
    → CountsTell SourceBesides cause (counts s d o) (counts s' d' o')
first_stays cause s s' d d' o o' may named same_disk same_out =
    counts_tell SourceBesides cause (counts s d o) (counts s' d' o') named (λ not none. absurd (none may))
    (λ not none. same_disk) (λ not none. same_out)

-- the disk failed
pub first_disk : (s s' d d' o o' : ℕ) → Rose d d' → o' ≡ o
    → CountsTell SourceBesides (Failed Disk) (counts s d o) (counts s' d' o')
first_disk s s' d d' o o' rose same_out =
    counts_tell SourceBesides (Failed Disk) (counts s d o) (counts s' d' o') rose (λ not none. absurd (none tt))
    (λ not none. absurd (not refl)) (λ not none. same_out)

-- `out` failed
pub first_out : (s s' d d' o o' : ℕ) → Rose o o' → d' ≡ d
    → CountsTell SourceBesides (Failed Output) (counts s d o) (counts s' d' o')
first_out s s' d d' o o' rose same_disk =
    counts_tell SourceBesides (Failed Output) (counts s d o) (counts s' d' o') rose (λ not none. absurd (none tt))
    (λ not none. same_disk) (λ not none. absurd (not refl))

-- counts that stayed before
pub first_later : (cause : Cause) (s s' d0 d1 d2 o0 o1 o2 : ℕ) → d1 ≡ d0 → o1 ≡ o0
    → CountsTell SourceBesides cause (counts s d1 o1) (counts s' d2 o2)
    → CountsTell SourceBesides cause (counts s d0 o0) (counts s' d2 o2)
first_later cause s s' d0 d1 d2 o0 o1 o2 d o first =
    subst (λ (k : ℕ). CountsTell SourceBesides cause (counts s d0 k) (counts s' d2 o2)) o
    (subst (λ (k : ℕ). CountsTell SourceBesides cause (counts s k o1) (counts s' d2 o2)) d first)

pub none_rose : Rose 0 0 → ⊥
none_rose (inl h) = omega arith
none_rose (inr h) = omega arith

-- shelving stopped, whatever became of the source
pub first_beside : (cause : Cause) (s s' d d' o o' : ℕ) → MayStop cause
    → CountsTell SourceBesides cause (counts 0 d o) (counts 0 d' o')
    → CountsTell SourceBesides cause (counts s d o) (counts s' d' o')
first_beside Done s s' d d' o o' may first = absurd may
first_beside (Failed Source) s s' d d' o o' may first = absurd may
first_beside (Failed Disk) s s' d d' o o' may first =
    first_disk s s' d d' o o' first.named (first.others Output (λ is. cc (is)) (λ b. b))
first_beside (Failed Output) s s' d d' o o' may first =
    first_out s s' d d' o o' first.named (first.others Disk (λ is. cc (is)) (λ b. b))
first_beside NoMemory s s' d d' o o' may first =
    first_stays NoMemory s s' d d' o o' tt tt (first.others Disk (λ is. cc (is)) (λ b. b))
    (first.others Output (λ is. cc (is)) (λ b. b))
first_beside (Refused refusal) s s' d d' o o' may first =
    first_stays (Refused refusal) s s' d d' o o' tt tt (first.others Disk (λ is. cc (is)) (λ b. b))
    (first.others Output (λ is. cc (is)) (λ b. b))
first_beside _ s s' d d' o o' may first = absurd may

-- the same disk and the same sink
pub first_same : {D O : Type 0} (disk : DiskOf D) (out : SinkOf O) (cause : Cause) (s s' d o : ℕ) (d1 d2 : D)
    (o1 o2 : O) → CountsTell SourceBesides cause (counts s d o) (counts s' (disk.faults d1) (out.faults o1))
    → d2 ≡ d1 → o2 ≡ o1
    → CountsTell SourceBesides cause (counts s d o) (counts s' (disk.faults d2) (out.faults o2))
first_same {D} {O} disk out cause s s' d o d1 d2 o1 o2 first same_disk same_out =
    subst (λ (x : O). CountsTell SourceBesides cause (counts s d o) (counts s' (disk.faults d2) (out.faults x)))
    (sym same_out)
    (subst (λ (x : D). CountsTell SourceBesides cause (counts s d o) (counts s' (disk.faults x) (out.faults o1)))
    (sym same_disk) first)

-- why no more was taken is a cause
pub first_end : {S : Type 0} (source : SourceOf S) (stop : Stop) (limit : ℕ) (bytes : List ℕ) (s s' : S)
    → EndsFor source stop limit bytes s s'
    → CountsTell SourceBesides (cause_at stop) (counts (source.faults s) 0 0) (counts (source.faults s') 0 0)
first_end source End limit bytes s s' why =
    counts_tell SourceBesides Done (counts (source.faults s) 0 0) (counts (source.faults s') 0 0) tt
    (λ not none. why.2) (λ not none. refl) (λ not none. refl)
first_end source Limit limit bytes s s' why =
    counts_tell SourceBesides Done (counts (source.faults s) 0 0) (counts (source.faults s') 0 0) tt
    (λ not none. why.1) (λ not none. refl) (λ not none. refl)
first_end source Fault limit bytes s s' why =
    counts_tell SourceBesides (Failed Source) (counts (source.faults s) 0 0) (counts (source.faults s') 0 0) why.1
    (λ not none. absurd (not refl)) (λ not none. refl) (λ not none. refl)

-- and neither the disk nor `out` failed
pub first_done : (stop : Stop) (s s' d d' o o' : ℕ)
    → CountsTell SourceBesides (cause_at stop) (counts s 0 0) (counts s' 0 0)
    → d' ≡ d → o' ≡ o → CountsTell SourceBesides (cause_at stop) (counts s d o) (counts s' d' o')
first_done End s s' d d' o o' first same_disk same_out =
    counts_tell SourceBesides Done (counts s d o) (counts s' d' o') tt
    (λ not none. first.others Source not none) (λ not none. same_disk) (λ not none. same_out)
first_done Limit s s' d d' o o' first same_disk same_out =
    counts_tell SourceBesides Done (counts s d o) (counts s' d' o') tt
    (λ not none. first.others Source not none) (λ not none. same_disk) (λ not none. same_out)
first_done Fault s s' d d' o o' first same_disk same_out =
    counts_tell SourceBesides (Failed Source) (counts s d o) (counts s' d' o') first.named
    (λ not none. absurd (not refl)) (λ not none. same_disk) (λ not none. same_out)

-- a text wasn't put
pub first_put : {O : Type 0} (out : SinkOf O) (text : List ℕ) (cause : Cause) (s s' d d' : ℕ) (o o' : O)
    → PutStops out text cause o o' → d' ≡ d
    → CountsTell SourceBesides cause (counts s d (out.faults o)) (counts s' d' (out.faults o'))
first_put out text (Failed Output) s s' d d' o o' stops same =
    first_out s s' d d' (out.faults o) (out.faults o') stops.rose same
first_put out text NoMemory s s' d d' o o' stops same =
    first_stays NoMemory s s' d d' (out.faults o) (out.faults o') tt tt same (ap out.faults stops)
first_put out text _ s s' d d' o o' stops same = absurd stops

-- a call on a shelf that works was refused
pub first_refused : {A : Type 0} (e : ShelfError) (result : Result A ShelfError) (s s' d d' o : ℕ) → result ≡ Err e
    → (e ≡ Failed' → ⊥) → IsFaultCounted d d' result
    → CountsTell SourceBesides (cause_of e) (counts s d o) (counts s' d' o)
first_refused {A} e result s s' d d' o is works counted =
    by_error e works (subst (λ (r : Result A ShelfError). IsFaultCounted d d' r) is counted)
  where
    by_error : (x : ShelfError) → (x ≡ Failed' → ⊥) → IsFaultCounted {A = A} d d' (Err x)
        → CountsTell SourceBesides (cause_of x) (counts s d o) (counts s' d' o)
    by_error Disk' works c = first_disk s s' d d' o o c.1 refl
    by_error Failed' works c = absurd (works refl)
    by_error (NotAShelf' at) works c = first_stays (cause_of (NotAShelf' at)) s s' d d' o o tt tt c refl
    by_error (NotEmpty' size) works c = first_stays (cause_of (NotEmpty' size)) s s' d d' o o tt tt c refl
    by_error (Capacity' needed capacity) works c =
        first_stays (cause_of (Capacity' needed capacity)) s s' d d' o o tt tt c refl
    by_error (NoSuchFile' count) works c = first_stays (cause_of (NoSuchFile' count)) s s' d d' o o tt tt c refl
    by_error (Crc' stored computed) works c = first_stays (cause_of (Crc' stored computed)) s s' d d' o o tt tt c refl
    by_error NoMemory' works c = first_stays (cause_of NoMemory') s s' d d' o o tt tt c refl
    by_error Discarded' works c = first_stays (cause_of Discarded') s s' d d' o o tt tt c refl

-- a shelf that works isn't refused as one that failed
pub append_works : (item : Item) (kept : KeptShelf) (e : ShelfError) → IsAppendRefusal item kept e
    → kept.failed ≡ false
    → e ≡ Failed' → ⊥
append_works item kept e refusal works is =
    let failed : kept.failed ≡ true = subst (λ (x : ShelfError). IsAppendRefusal item kept x) is refusal in
    cc (failed, works)
