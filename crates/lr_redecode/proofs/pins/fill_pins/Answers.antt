use Rattle.std.proofs.Common.{arith, ◌≡◌, ◌≢◌, ◌∙◌, ◌/◌, ◌%◌, ◌<◌, ℕ, Bool, List, length, below_more, get_or}
use Rattle.std.proofs.Common.{get_or-set_other, get_or-set_same, refl, slice_set}
use Rattle.std.specs.Prelude.{Option, None}
use Rattle.std.proofs.Math.ListN.{length-set}
use Rattle.std.proofs.lemmas.List.FromFn.{fill_by_all}
use Rattle.lr_redecode.specs.Redecoded.{known_word, pin_by, pins_of}
use Rattle.lr_redecode.proofs.pins.fill_pins.Goals as goal

other_at : (xs : List (Option Bool)) (p i : ℕ) (v : Option Bool) → i ≢ p →
    get_or (slice_set xs p v) i None ≡ get_or xs i None
other_at xs p i v ne = rw get_or-set_other refl

same_at : (xs : List (Option Bool)) (p : ℕ) (v : Option Bool) → p < length xs → get_or (slice_set xs p v) p None ≡ v
same_at xs p v room = rw get_or-set_same refl

pub loop-i-preserved : goal.loop-i-preserved
loop-i-preserved c =
    let pins = c.loop-i.pins in
    let i = c.loop-i.i in
    let here = c.loop-i.invariant in
    record {
      long = length-set pins i c.pin_of.result ∙ here.long;
      done = below_more _ _
          (λ k l. other_at pins i k c.pin_of.result (omega arith) ∙ here.done k l)
          (same_at pins i c.pin_of.result (omega arith) ∙ c.pin_of.ensures);
    }

pub returns : goal.returns
unfolding pins_of
returns c =
    fill_by_all (λ i. pin_by i (known_word c.args.known.now (i / 8 % 4))) c.loop-i.pins 8160 None
    c.loop-i.invariant.long
    (λ k l. c.loop-i.invariant.done k (omega arith))
