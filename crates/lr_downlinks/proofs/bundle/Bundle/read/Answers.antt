use Rattle.std.proofs.Common.{List, ℕ, Ok, Err, length, refl, sym, ap, subst, ◌∙◌, arith}
use Rattle.std.specs.Prelude.{slice_get}
use Rattle.lr_shelf_format.proofs.NumberLemmas.{AreBytes}
use Rattle.lr_downlinks.specs.Readings.{AreFound, BreaksOff}
use Rattle.lr_downlinks.specs.declared.fault.BundleFault.TheVariants.{Count, Ended, Rest}
use Rattle.lr_downlinks.proofs.Bundling.{bad_count, cut_at, drop_size, ended_early, front_size, has_rest, no_bytes}
use Rattle.lr_downlinks.proofs.Bundling.{whole_bundle}
use Rattle.lr_downlinks.proofs.BundleReading.{one_reading}
use Rattle.lr_downlinks.proofs.bundle.Bundle.read.Goals.{then-count-eq0-via-then-count-eq0}
use Rattle.lr_downlinks.proofs.bundle.Bundle.read.Goals.{then-count-eq0-via-else-count-eq0+then-count-gt-MOST_DOWNLINKS}
use Rattle.lr_downlinks.proofs.bundle.Bundle.read.Goals as goal

pub returns-in_default-clause-reading : goal.returns-in_default-clause-reading
returns-in_default-clause-reading c =
    no_bytes c.args.bytes (c.in_default.ensures.value ∙ ap (λ (l : List ℕ). slice_get l 0) c.as_slice-all.ensures)

pub returns-then-count-eq0-clause-reading : goal.returns-then-count-eq0-clause-reading
returns-then-count-eq0-clause-reading c =
    bad_count c.args.bytes c.in-Some.first.now
    (ap (λ (l : List ℕ). slice_get l 0) (sym c.as_slice-all.ensures) ∙ sym c.in-Some.ensures.value)
    (λ both. elim c.then-count-eq0.branch [
      | then-count-eq0-via-then-count-eq0 w ↦ omega (arith, w.if-count-eq0.true, both.0)
      | then-count-eq0-via-else-count-eq0+then-count-gt-MOST_DOWNLINKS w ↦
          omega (arith, w.if-count-gt-MOST_DOWNLINKS.true, both.1)
    ])

pub returns-then-count-eq0-clause-only : goal.returns-then-count-eq0-clause-only
returns-then-count-eq0-clause-only c =
    λ reading is. one_reading c.args.bytes (Err (Count c.in-Some.first.now)) reading
    (returns-then-count-eq0-clause-reading c) is

pub invariant_of-result : goal.invariant_of-result
invariant_of-result c =
    cut_at c.args.bytes c.in-Some.first.now
    (ap (λ (l : List ℕ). slice_get l 0) (sym c.as_slice-all.ensures) ∙ sym c.in-Some.ensures.value)
    (subst (λ (l : List ℕ). AreBytes l) c.as_slice-all.ensures c.find_ends.ensures.fit)
    c.requires (omega (arith, c.if-count-eq0.false)) c.if-count-gt-MOST_DOWNLINKS.false c.find_ends.new.ends
    (c.find_ends.ensures.size ∙ front_size c.in-Some.first.now _ refl c.if-count-gt-MOST_DOWNLINKS.false) _
    (drop_size c.in-Some.first.now _ refl)
    (subst (λ (l : List ℕ). AreFound l 1 c.find_ends.new.ends) c.as_slice-all.ensures
    c.in-Some-find_ends.ensures.found.0)

pub returns-in-None-clause-reading : goal.returns-in-None-clause-reading
returns-in-None-clause-reading c = (
  sym (ap (λ (l : List ℕ). length l) (sym c.as_slice-all.ensures)),
  ended_early c.args.bytes c.in-Some.first.now
      (ap (λ (l : List ℕ). slice_get l 0) (sym c.as_slice-all.ensures) ∙ sym c.in-Some.ensures.value)
      (subst (λ (l : List ℕ). AreBytes l) c.as_slice-all.ensures c.find_ends.ensures.fit)
      c.requires (omega (arith, c.if-count-eq0.false)) c.if-count-gt-MOST_DOWNLINKS.false c.find_ends.new.ends
      (c.find_ends.ensures.size ∙ front_size c.in-Some.first.now _ refl c.if-count-gt-MOST_DOWNLINKS.false)
      (subst (λ (l : List ℕ). BreaksOff l (length c.find_ends.new.ends)) c.as_slice-all.ensures
      c.in-None.ensures.found),
)

pub returns-in-None-clause-only : goal.returns-in-None-clause-only
returns-in-None-clause-only c =
    λ reading is. one_reading c.args.bytes (Err (Ended (length c.as_slice-all.result.now))) reading
    (returns-in-None-clause-reading c) is

pub returns-in-Some-find_ends-clause-reading : goal.returns-in-Some-find_ends-clause-reading
returns-in-Some-find_ends-clause-reading c =
    has_rest c.args.bytes c.in-Some.first.now
    (ap (λ (l : List ℕ). slice_get l 0) (sym c.as_slice-all.ensures) ∙ sym c.in-Some.ensures.value)
    (subst (λ (l : List ℕ). AreBytes l) c.as_slice-all.ensures c.find_ends.ensures.fit)
    c.requires (omega (arith, c.if-count-eq0.false)) c.if-count-gt-MOST_DOWNLINKS.false c.find_ends.new.ends
    (c.find_ends.ensures.size ∙ front_size c.in-Some.first.now _ refl c.if-count-gt-MOST_DOWNLINKS.false)
    c.in-Some-find_ends.at (subst (λ (l : List ℕ). AreFound l 1 c.find_ends.new.ends) c.as_slice-all.ensures
    c.in-Some-find_ends.ensures.found.0) c.in-Some-find_ends.ensures.found.1
    (omega (arith, c.if-at-size.true, ap (λ (l : List ℕ). length l) c.as_slice-all.ensures))

pub returns-in-Some-find_ends-clause-only : goal.returns-in-Some-find_ends-clause-only
returns-in-Some-find_ends-clause-only c =
    λ reading is. one_reading c.args.bytes (Err (Rest c.in-Some-find_ends.at)) reading
    (returns-in-Some-find_ends-clause-reading c) is

pub returns-in-Some-2-clause-reading : goal.returns-in-Some-2-clause-reading
returns-in-Some-2-clause-reading c =
    whole_bundle c.args.bytes c.in-Some.first.now
    (ap (λ (l : List ℕ). slice_get l 0) (sym c.as_slice-all.ensures) ∙ sym c.in-Some.ensures.value)
    (subst (λ (l : List ℕ). AreBytes l) c.as_slice-all.ensures c.find_ends.ensures.fit)
    c.requires (omega (arith, c.if-count-eq0.false)) c.if-count-gt-MOST_DOWNLINKS.false c.find_ends.new.ends
    (c.find_ends.ensures.size ∙ front_size c.in-Some.first.now _ refl c.if-count-gt-MOST_DOWNLINKS.false) _
    c.in-Some-find_ends.at (subst (λ (l : List ℕ). AreFound l 1 c.find_ends.new.ends) c.as_slice-all.ensures
    c.in-Some-find_ends.ensures.found.0) c.in-Some-find_ends.ensures.found.1
    (omega (arith, c.if-at-size.false, ap (λ (l : List ℕ). length l) c.as_slice-all.ensures))

pub returns-in-Some-2-clause-only : goal.returns-in-Some-2-clause-only
returns-in-Some-2-clause-only c =
    λ reading is. one_reading c.args.bytes (Ok _) reading (returns-in-Some-2-clause-reading c) is
