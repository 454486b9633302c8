-- A piece of the source after what is held of a unit.
use Rattle.std.proofs.Common.{◌≡◌, ℕ, ◌+◌, ◌≤◌, ◌<◌, ◌⊎◌, List, [], ◌++◌, take, length, ap, ◌∙◌}
use Rattle.std.proofs.Common.{sym, subst, refl, arith, append_assoc, append-nil, add-zero}
use Rattle.std.proofs.Common.{length-append, inl, inr, ⊎_elim}
use Rattle.std.proofs.lemmas.List.{length-take-le, take-append-le}
use Rattle.std.proofs.Math.Seq.{take-append-add}
use borrow.Rule.Slice.PartMut.{put_mid, post_of}
use Rattle.lr_bits.proofs.Telling.{tells_both, tells_still}
use Rattle.lr_bits.specs.declared.sizes.TheConstants.{FRAME_SYMBOLS}
use Rattle.lr_io.specs.declared.source.Source.{Ghosts as SourceOf}
use Rattle.lr_reading.proofs.Asking.{came_none, came_on, came_once, last_one}
use Rattle.lr_reading.specs.Gathering.{UnitState, Gathers, GathersOn}
use Rattle.lr_reading.specs.Reading.{AsksOnce, LastCall, AtSource, at_source}

take-put_mid_more : (buffer piece : List ℕ) (filled room count : ℕ) → filled ≤ length buffer
    → count ≤ length piece → take (filled + count) (put_mid filled room buffer piece) ≡ take filled buffer
    ++ take count piece
take-put_mid_more buffer piece filled room count inside enough =
    let front = take filled buffer in
    let behind = piece ++ post_of filled room buffer in
    subst (λ k. take (k + count) (front ++ behind) ≡ front ++ take count behind)
    (length-take-le filled buffer inside) (take-append-add front behind count)
    ∙ ap (λ ys. front ++ ys) (take-append-le count piece (post_of filled room buffer) enough)

abbrev gathered : List ℕ → ℕ → ℕ → UnitState
gathered held taken most = record { held = held; taken = taken; most = most }

module _ {S : Type 0} (source : SourceOf S) (n : ℕ) where
  -- the source wasn't asked for more of this piece, or only while what was held and came of it was no whole unit
  abbrev NeedsPiece : List ℕ → List ℕ → S → S → Type 0
  NeedsPiece held piece s s' =
      ((piece ≡ []) × (s' ≡ s)) ⊎ LastCall source (λ given pieces. length (held ++ given) < n) piece s s'

  -- a piece was written after the bytes that were held
  module _ (s s' : S) (before : UnitState) (buffer into : List ℕ) (filled room count taken most : ℕ)
      (inside : filled ≤ length buffer) (enough : count ≤ length into) (few : taken + count ≤ most)
      (told : source.tells s → source.tells s') (untold : source.tells s' → source.tells s)
      (moved : source.tells s → source.left s ≡ take count into ++ source.left s')
      (asked : AsksOnce source s (take count into) s') (short : length before.held < n)
      (is : gathered (take filled buffer) taken most ≡ before) where
    abbrev filled_up : UnitState
    filled_up = gathered (take (filled + count) (put_mid filled room buffer into)) (taken + count) most

    pub piece_taken : Gathers source n (at_source before s) (at_source filled_up s')
    piece_taken = record {
      piece = take count into;
      held = take-put_mid_more buffer into filled room count inside enough
          ∙ ap (λ (g : UnitState). g.held ++ take count into) is;
      taken = ap (λ k. taken + k) (sym (length-take-le count into enough))
          ∙ ap (λ (g : UnitState). g.taken + length (take count into)) is;
      most = ap (λ (g : UnitState). g.most) is;
      few = few;
      tell = record { told = told; untold = untold };
      moved = moved;
      in_need = inr (last_one source (λ given pieces. length (before.held ++ given) < n) [] (take count into)
          (take count into) s s s' (λ told. refl) (came_none source s) asked refl
          (omega (arith, length-append before.held [], short)));
    }

    -- and it gave some bytes
    pub piece_gathered : 0 < count → count ≤ FRAME_SYMBOLS → source.faults s' ≡ source.faults s
        → GathersOn source n (at_source before s) (at_source filled_up s')
    unfolding piece_taken
    piece_gathered some fits kept =
        let long = length-take-le count into enough in (
          piece_taken,
          came_once source (take count into) s s' asked (omega (arith, some, long)) (omega (arith, fits, long)) kept,
        )

  -- the call failed, whatever was written
  pub none_taken : (s s' : S) (before : UnitState) (buffer into : List ℕ) (filled room taken most : ℕ)
      → filled ≤ length buffer → taken ≤ most
      → (source.tells s → source.tells s') → (source.tells s' → source.tells s)
      → (source.tells s → source.left s ≡ source.left s')
      → AsksOnce source s [] s' → length before.held < n → gathered (take filled buffer) taken most ≡ before
      → Gathers source n (at_source before s)
      (at_source (gathered (take filled (put_mid filled room buffer into)) taken most) s')
  none_taken s s' before buffer into filled room taken most inside few told untold moved asked short is =
      subst (λ (k : ℕ). Gathers source n (at_source before s)
      (at_source (gathered (take k (put_mid filled room buffer into)) taken most) s')) (add-zero filled)
      (subst (λ (k : ℕ). Gathers source n (at_source before s)
      (at_source (gathered (take (filled + 0) (put_mid filled room buffer into)) k most) s')) (add-zero taken)
      (piece_taken s s' before buffer into filled room 0 taken most inside (omega arith) (omega (arith, few)) told
      untold moved asked short is))

  -- nothing was asked
  nothing_taken : (now : AtSource UnitState S) → now.state.taken ≤ now.state.most → Gathers source n now now
  nothing_taken now few = record {
    piece = [];
    held = sym (append-nil now.state.held);
    taken = omega arith;
    most = refl;
    few = few;
    tell = tells_still;
    moved = λ t. refl;
    in_need = inl (refl, refl);
  }

  pub none_gathered : (now : AtSource UnitState S) → now.state.taken ≤ now.state.most → GathersOn source n now now
  unfolding nothing_taken
  none_gathered now few = (nothing_taken now few, came_none source now.source)

  -- one piece after another
  pub joined : {before between now : AtSource UnitState S} → GathersOn source n before between
      → Gathers source n between now → Gathers source n before now
  joined {before} {between} {now} so_far second = record {
    piece = first.piece ++ second.piece;
    held = second.held ∙ ap (λ l. l ++ second.piece) first.held
        ∙ append_assoc before.state.held first.piece second.piece;
    taken = omega (arith, first.taken, second.taken, length-append first.piece second.piece);
    most = second.most ∙ first.most;
    few = second.few;
    tell = tells_both first.tell second.tell;
    moved = λ tells. first.moved tells ∙ ap (λ l. first.piece ++ l) (second.moved (first.tell.told tells))
        ∙ sym (append_assoc first.piece second.piece (source.left now.source));
    in_need = ⊎_elim no_more (λ last. inr (later last)) second.in_need;
  }
    where
      first : Gathers source n before between
      first = so_far.0

      no_more : (second.piece ≡ []) × (now.source ≡ between.source)
          → NeedsPiece before.state.held (first.piece ++ second.piece) before.source now.source
      no_more none = subst (λ (l : List ℕ). NeedsPiece before.state.held l before.source now.source)
          (sym (ap (λ (l : List ℕ). first.piece ++ l) none.0 ∙ append-nil first.piece))
          (subst (λ (x : S). NeedsPiece before.state.held first.piece before.source x) (sym none.1) first.in_need)

      later : LastCall source (λ given pieces. length (between.state.held ++ given) < n) second.piece between.source
          now.source
          → LastCall source (λ given pieces. length (before.state.held ++ given) < n) (first.piece ++ second.piece)
          before.source now.source
      later last = record {
        last = last.last;
        given = first.piece ++ last.given;
        piece = last.piece;
        split = ap (λ (l : List ℕ). first.piece ++ l) last.split
            ∙ sym (append_assoc first.piece last.given last.piece);
        asked = last.asked;
        moved = λ tells. first.moved tells ∙ ap (λ (l : List ℕ). first.piece ++ l) (last.moved (first.tell.told tells))
            ∙ sym (append_assoc first.piece last.given (source.left last.last));
        before = came_on source first.piece last.given before.source between.source last.last so_far.1 last.before;
        so = subst (λ (l : List ℕ). length l < n)
            (ap (λ (l : List ℕ). l ++ last.given) first.held ∙ append_assoc before.state.held first.piece last.given)
            last.so;
      }

  -- and where each call gave some
  pub joined_on : {before between now : AtSource UnitState S} → GathersOn source n before between
      → GathersOn source n between now → GathersOn source n before now
  unfolding joined
  joined_on {before} {between} {now} first second = (
    joined first second.0,
    came_on source first.0.piece second.0.piece before.source between.source now.source first.1 second.1,
  )
