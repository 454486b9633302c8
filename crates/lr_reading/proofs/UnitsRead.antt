-- Units that were read, one after another.
use Rattle.std.proofs.Common.{◌≡◌, inl, inr, ⊎_elim, ℕ, ◌+◌, ◌<◌, List, [], ◌∷◌, ◌++◌, length, ap}
use Rattle.std.proofs.Common.{◌∙◌, sym, refl, subst, arith, append_assoc, append-nil, length-append}
use Rattle.std.specs.List.{concat}
use Rattle.std.proofs.lemmas.List.Folds.{concat-append}
use Rattle.std.proofs.lemmas.List.Elements.{All-nil, All-push}
use Rattle.lr_bits.specs.Faults.{Rose}
use Rattle.lr_bits.proofs.Telling.{tells_both, tells_still}
use Rattle.lr_io.specs.declared.source.Source.{Ghosts as SourceOf}
use Rattle.lr_forms.specs.declared.forms.Stop.{Stop}
use Rattle.lr_forms.specs.declared.forms.Stop.TheVariants.{End, Limit, Fault}
use Rattle.lr_reading.specs.declared.next.Next.TheVariants.{Ended}
use Rattle.lr_reading.specs.Gathering.{UnitSizes, UnitState, IsShortOfOne, Gathers, GathersFor, GathersOn, units_end}
use Rattle.lr_reading.specs.Gathering.{ReadsUnits, EndsUnits}
use Rattle.lr_reading.specs.Reading.{CameInPieces, EndsFor, LastCall, AtSource, WhenLastAsked, at_source}
use Rattle.lr_reading.proofs.Asking.{came_none, came_on, none_failed, stops_asking, when_too}

-- the bytes of one unit more
pub concat-push : (units : List (List ℕ)) (unit : List ℕ) → concat (units ++ unit ∷ []) ++ [] ≡ concat units ++ unit
concat-push units unit = append-nil (concat (units ++ unit ∷ [])) ∙ concat-append units (unit ∷ [])
    ∙ ap (λ l. concat units ++ l) (append-nil unit)

module _ {S : Type 0} (source : SourceOf S) (sizes : UnitSizes) where
  abbrev n : ℕ
  n = sizes.unit

  -- nothing is read
  pub begun : (s : S) → ReadsUnits source sizes [] s
      (at_source (record { held = []; taken = 0; most = sizes.limit }) s)
  begun s = record {
    whole = All-nil (λ (u : List ℕ). length u ≡ n);
    taken = refl;
    most = refl;
    few = omega arith;
    tell = tells_still;
    moved = λ t. refl;
    going_on = came_none source s;
    in_need = inl (refl, refl);
  }

  -- more of a unit was gathered
  module _ {units : List (List ℕ)} {s : S} {before now : AtSource UnitState S}
      (reads : ReadsUnits source sizes units s before) (more : Gathers source n before now) where
    abbrev held : List ℕ
    held = before.state.held

    abbrev old : List ℕ
    old = concat units ++ held

    abbrev bytes : List ℕ
    bytes = concat units ++ now.state.held

    same : old ++ more.piece ≡ bytes
    same = append_assoc (concat units) held more.piece ∙ ap (λ l. concat units ++ l) (sym more.held)

    all : length bytes ≡ now.state.taken
    all = ap length (sym same) ∙ length-append old more.piece ∙ ap (λ k. k + length more.piece) (sym reads.taken)
        ∙ sym more.taken

    moved : source.tells s → source.left s ≡ bytes ++ source.left now.source
    moved tells = reads.moved tells ∙ ap (λ l. old ++ l) (more.moved (reads.tell.told tells))
        ∙ sym (append_assoc old more.piece (source.left now.source)) ∙ ap (λ l. l ++ source.left now.source) same

    -- the last call is one that gathers more of a unit, if that makes any
    needed : WhenLastAsked source (λ given pieces. IsShortOfOne n units given) bytes s now.source
    needed = ⊎_elim no_more (λ last. inr (later last)) more.in_need
      where
        no_more : (more.piece ≡ []) × (now.source ≡ before.source)
            → WhenLastAsked source (λ given pieces. IsShortOfOne n units given) bytes s now.source
        no_more none = subst (λ (l : List ℕ). WhenLastAsked source (λ given pieces. IsShortOfOne n units given) l s
            now.source) (sym (append-nil old) ∙ ap (λ (l : List ℕ). old ++ l) (sym none.0) ∙ same)
            (subst (λ (x : S). WhenLastAsked source (λ given pieces. IsShortOfOne n units given) old s x)
            (sym none.1) reads.in_need)

        later : LastCall source (λ given pieces. length (held ++ given) < n) more.piece before.source now.source
            → LastCall source (λ given pieces. IsShortOfOne n units given) bytes s now.source
        later last = record {
          last = last.last;
          given = old ++ last.given;
          piece = last.piece;
          split = sym same ∙ ap (λ (l : List ℕ). old ++ l) last.split ∙ sym (append_assoc old last.given last.piece);
          asked = last.asked;
          moved = λ tells. reads.moved tells ∙ ap (λ (l : List ℕ). old ++ l) (last.moved (reads.tell.told tells))
              ∙ sym (append_assoc old last.given (source.left last.last));
          before = came_on source old last.given s before.source last.last reads.going_on last.before;
          so = record {
            first = units;
            others = [];
            split = sym (append-nil units);
            begun = held ++ last.given;
            short = last.so;
            is = append_assoc (concat units) held last.given;
          };
        }

    -- and the reading ended with a rest
    pub ended : (stop : Stop) → GathersFor source n (Ended stop) before.source now
        → EndsUnits source sizes (units_end units (length now.state.held) stop) s now.source
    ended stop why = record {
      held = now.state.held;
      long = refl;
      short = short_of stop why;
      whole = reads.whole;
      read = record {
        tell = tells_both reads.tell more.tell;
        moved = moved;
        few = omega (arith, all, more.few, more.most, reads.most);
        asked = stops_asking source (λ given pieces. IsShortOfOne n units given) bytes s now.source needed;
      };
      in_need = needed;
      reason = reason_of stop why;
    }
      where
        short_of : (x : Stop) → GathersFor source n (Ended x) before.source now → length now.state.held < n
        short_of End w = w.0
        short_of Limit w = w.0
        short_of Fault w = w.0

        still : source.faults before.source ≡ source.faults s
        still = none_failed source old s before.source reads.going_on

        reason_of : (x : Stop) → GathersFor source n (Ended x) before.source now
            → EndsFor source x sizes.limit bytes s now.source
        reason_of End w =
            (omega (arith, all, w.1, more.most, reads.most), λ tells. w.2 (reads.tell.told tells), w.3 ∙ still)
        reason_of Limit w = (omega (arith, all, w.1, more.most, reads.most), w.2 ∙ still)
        reason_of Fault w =
            (omega (arith, all, w.1, more.most, reads.most), subst (λ k. Rose k (source.faults now.source)) still w.2)

  -- more of a unit was gathered, and each call gave some
  pub gathered_more : {units : List (List ℕ)} {s : S} {before now : AtSource UnitState S}
      → ReadsUnits source sizes units s before → GathersOn source n before now → ReadsUnits source sizes units s now
  gathered_more {units} {s} {before} {now} reads gathers = record {
    whole = reads.whole;
    taken = sym (all reads gathers.0);
    most = gathers.0.most ∙ reads.most;
    few = omega (arith, gathers.0.few, gathers.0.most, reads.most);
    tell = tells_both reads.tell gathers.0.tell;
    moved = moved reads gathers.0;
    going_on = subst (λ (l : List ℕ). CameInPieces source l s now.source) (same reads gathers.0)
        (came_on source (concat units ++ before.state.held) gathers.0.piece s before.source now.source reads.going_on
        gathers.1);
    in_need = needed reads gathers.0;
  }

  -- a whole unit is handed on
  pub cleared : {units : List (List ℕ)} {s : S} {now : AtSource UnitState S} → ReadsUnits source sizes units s now
      → length now.state.held ≡ n
      → ReadsUnits source sizes (units ++ now.state.held ∷ []) s
      (at_source (record { held = []; taken = now.state.taken; most = now.state.most }) now.source)
  cleared {units} {s} {now} reads whole = record {
    whole = All-push (λ (u : List ℕ). length u ≡ n) units now.state.held reads.whole whole;
    taken = reads.taken ∙ ap length is;
    most = reads.most;
    few = reads.few;
    tell = reads.tell;
    moved = λ tells. reads.moved tells ∙ ap (λ l. l ++ source.left now.source) is;
    going_on = subst (λ (l : List ℕ). CameInPieces source l s now.source) is reads.going_on;
    in_need = subst (λ (l : List ℕ). WhenLastAsked source
        (λ given pieces. IsShortOfOne n (units ++ now.state.held ∷ []) given) l s now.source) is
        (when_too source (λ given pieces. IsShortOfOne n units given)
        (λ given pieces. IsShortOfOne n (units ++ now.state.held ∷ []) given) (concat units ++ now.state.held) s
        now.source (λ given pieces short. one_more given short) reads.in_need);
  }
    where
      is : concat units ++ now.state.held ≡ concat (units ++ now.state.held ∷ []) ++ []
      is = sym (concat-push units now.state.held)

      one_more : (given : List ℕ) → IsShortOfOne n units given → IsShortOfOne n (units ++ now.state.held ∷ []) given
      one_more given so = record {
        first = so.first;
        others = so.others ++ now.state.held ∷ [];
        split = ap (λ (l : List (List ℕ)). l ++ now.state.held ∷ []) so.split
            ∙ append_assoc so.first so.others (now.state.held ∷ []);
        begun = so.begun;
        short = so.short;
        is = so.is;
      }
