use Rattle.std.proofs.Common.{◌≡◌, ℕ, ◌≤◌, ◌+◌, ◌*◌, ◌++◌, ◌∷◌, [], List, length, take, ap, ◌∙◌, sym, subst, arith}
use Rattle.std.proofs.Common.{length-append}
use Rattle.std.specs.Prelude.{Bool, IsOk, if◌then◌else◌}
use Rattle.std.proofs.lemmas.List.{take_all}
use Rattle.lr_bits.specs.declared.outcome.Outcome.{Outcome}
use Rattle.lr_packet.specs.Verdict.{Good, good_packets}
use Rattle.lr_layers.specs.Origins.{PlacedPacket, at_place}
use Rattle.lr_layers.specs.Starts.{AtHand, IsNow, JoinerStandsFor, Joins, found}
use Rattle.lr_layers.proofs.Joining.{joins_more, good_more, none_good, keeps_on}
use Rattle.lr_layers.proofs.packets.push_packets.Goals as goal
use Rattle.lr_layers.proofs.packets.push_packets.Goals.{then-branch, else-branch}

pub loop-raw-preserved : goal.loop-raw-preserved
loop-raw-preserved c =
    let so_far = c.loop-raw.invariant in
    let step = c.in_ok-push_packet.ensures in
    let packets = c.args.packets.now in
    let place = c.args.now.start.place in
    let first = good_packets (take c.loop-raw.raw-index packets) in
    let one = good_packets (c.raw-item.result ∷ []) in
    let more = good_more packets c.loop-raw.raw-index c.raw-item.result c.loop-raw-test.true c.raw-item.is in
    let counted : length (good_packets (take (c.loop-raw.raw-index + 1) packets)) ≡ length first + length one =
    ap length more ∙ length-append first one in
    let most = c.args.joiner.now.files.images.most in
    let old = found c.args.out.now.items c.args.fillers.now.items in
    let between = found c.loop-raw.out.items c.loop-raw.fillers.items in
    let new = found c.push_packet.new.out.items c.push_packet.new.fillers.items in
    let joins =
    λ (outcomes : List Outcome) (before : List PlacedPacket)
    (stand : JoinerStandsFor c.args.joiner.now outcomes before) (is : IsNow outcomes c.args.now).
    let at : AtHand = record {
      mend = most;
      counted = c.args.counted;
      outcomes = outcomes;
      place = place;
      before = before;
    } in
    let a = so_far.joins outcomes before stand is in
    let b = subst (λ (mend : ℕ). Joins (record {
      mend = mend;
      counted = c.args.counted;
      outcomes = outcomes;
      place = place;
      before = before ++ at_place place first;
    }) one c.push_packet.new.joiner between new) so_far.mend
    (step.joins outcomes (before ++ at_place place first) a.stands is) in
    subst (λ (l : List Good). Joins at l c.push_packet.new.joiner old new) (sym more)
    (joins_more at first one a b) in
    let kept = keeps_on old between new so_far.kept step.kept in
    let more_files : length new.files ≤ length between.files + 2 * length one =
    subst (λ k. length new.files ≤ length between.files + 2 * k) step.good step.few in
    let plain_files : most ≡ 0 → length new.files ≤ length between.files + length one =
    λ none. subst (λ k. length new.files ≤ length between.files + k) step.good
    (step.few_plain (so_far.mend ∙ none)) in
    elim c.if-branch.branch [
      | then-branch w ↦
          let good : 1 ≡ length one = ap (λ (b : Bool). if b then 1 else 0) (sym w.if-branch.true) ∙ step.good in
          record {
            joins = joins;
            mend = step.mend ∙ so_far.mend;
            good = omega (arith, counted, good, w.good-is, so_far.good);
            few = omega (arith, w.good-is, so_far.few);
            few_files = omega (arith, w.good-is, so_far.few_files, more_files, good);
            few_plain = λ none. omega (arith, w.good-is, so_far.few_plain none, plain_files none, good);
            kept = kept;
          }
      | else-branch w ↦
          let bad : 0 ≡ length one = ap (λ (b : Bool). if b then 1 else 0) (sym w.if-branch.false) ∙ step.good in
          record {
            joins = joins;
            mend = step.mend ∙ so_far.mend;
            good = omega (arith, counted, bad, w.good-is, so_far.good);
            few = omega (arith, w.good-is, so_far.few);
            few_files = omega (arith, w.good-is, so_far.few_files, more_files, bad);
            few_plain = λ none. omega (arith, w.good-is, so_far.few_plain none, plain_files none, bad);
            kept = kept;
          }
    ]

pub returns-clause-joins : goal.returns-clause-joins
returns-clause-joins c outcomes before stand is =
    let at : AtHand = record {
      mend = c.args.joiner.now.files.images.most;
      counted = c.args.counted;
      outcomes = outcomes;
      place = c.args.now.start.place;
      before = before;
    } in
    let old = found c.args.out.now.items c.args.fillers.now.items in
    let new = found c.loop-raw.out.items c.loop-raw.fillers.items in
    subst (λ l. Joins at (good_packets l) c.loop-raw.joiner old new)
    (take_all c.loop-raw.raw-index c.args.packets.now c.loop-raw-test.false)
    (c.loop-raw.invariant.joins outcomes before stand is)

pub returns-in_err-push_packet-clause-succeeds : goal.returns-in_err-push_packet-clause-succeeds
returns-in_err-push_packet-clause-succeeds c none =
    let ok = c.push_packet.ensures.succeeds (none_good c.args.packets.now c.loop-raw.raw-index c.raw-item.result
    c.loop-raw-test.true c.raw-item.is none) in
    absurd (cc (subst (λ r. IsOk r) c.in_err-push_packet.was ok))
