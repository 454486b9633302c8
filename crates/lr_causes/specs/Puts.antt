-- What a call that puts a text appended of it.
use Rattle.std.specs.Prelude.{◌≡◌, List, ℕ, ◌++◌}
use Rattle.lr_bits.specs.Faults.{Rose}
use Rattle.lr_bits.specs.Telling.{KeepsTelling}
use Rattle.lr_io.specs.declared.sink.Sink.{Ghosts as SinkOf}
use Rattle.lr_io.specs.Pieces.{PutsPart}
use Rattle.lr_causes.specs.declared.cause.Cause.{Cause}
use Rattle.lr_causes.specs.declared.cause.Cause.TheVariants.{Failed, NoMemory}
use Rattle.lr_causes.specs.declared.cause.Party.TheVariants.{Output}

-- a prefix of the bytes was appended, perhaps all of them
pub record PutsPrefix (bytes old new : List ℕ) : Type 0 where
  pub front : List ℕ
  pub rest : List ℕ
  pub split : bytes ≡ front ++ rest
  pub put : new ≡ old ++ front

module _ {O : Type 0} (out : SinkOf O) where
  -- `out` got this text
  abbrev pub GotText : List ℕ → O → O → Type 0
  GotText text o o' = out.tells o → out.contents o' ≡ out.contents o ++ text

  -- it got this text first, and perhaps more
  abbrev pub GotFirst : List ℕ → O → O → Type 0
  GotFirst text o o' = out.tells o → (more : List ℕ) × (out.contents o' ≡ out.contents o ++ (text ++ more))

  -- it got this text, and then a prefix of the line that isn't all of it
  abbrev pub GotPart : List ℕ → List ℕ → O → O → Type 0
  GotPart text line o o' = out.tells o → PutsPart line (out.contents o ++ text) (out.contents o')

  -- the text was put
  pub record Puts (text : List ℕ) (o o' : O) : Type 0 where
    pub tell : KeepsTelling (out.tells o) (out.tells o')
    pub put : GotText text o o'
    pub kept : out.faults o' ≡ out.faults o

  -- a prefix of the text was put that isn't all of it
  pub record PutFails (text : List ℕ) (o o' : O) : Type 0 where
    pub tell : KeepsTelling (out.tells o) (out.tells o')
    pub part : out.tells o → PutsPart text (out.contents o) (out.contents o')
    pub rose : Rose (out.faults o) (out.faults o')

  -- what became of a text that wasn't put, for each cause that this may have
  abbrev pub PutStops : List ℕ → Cause → O → O → Type 0
  PutStops text (Failed Output) o o' = PutFails text o o'
  PutStops text NoMemory o o' = o' ≡ o
  PutStops text _ o o' = ⊥
