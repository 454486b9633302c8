use Rattle.std.proofs.Common.{◌+◌, ◌-◌, ℕ, List, length, take, drop, ap, ◌∙◌, arith, tests}
use Rattle.lr_image.proofs.PieceLemmas.{body_inside, body_is, is_body, none_comes, passed, piece_comes}
use Rattle.lr_image.proofs.pieces.next_piece.Goals as goal

pub overflow_add-body : goal.overflow_add-body
overflow_add-body c =
    let file = c.args.file.now in
    let place = c.loop-place.place in
    let size = c.from-length.result in
    let is = is_body file place size c.lengths-lengths.result.now c.lengths-lengths.ensures.value
    c.loop-place-test.true c.from-length.ensures in
    let most = c.bytes-bytes.ensures.file.most in
    omega (arith, body_inside file place size c.loop-place.invariant.inside is.0 is.1)

pub slice_bounds-body-end : goal.slice_bounds-body-end
slice_bounds-body-end c =
    let file = c.args.file.now in
    let place = c.loop-place.place in
    let size = c.from-length.result in
    let is = is_body file place size c.lengths-lengths.result.now c.lengths-lengths.ensures.value
    c.loop-place-test.true c.from-length.ensures in
    omega (
      arith,
      body_inside file place size c.loop-place.invariant.inside is.0 is.1,
      ap length c.bytes-bytes.ensures.value,
    )

pub returns-then-not-is_empty-clause-some : goal.returns-then-not-is_empty-clause-some
returns-then-not-is_empty-clause-some c =
    let file = c.args.file.now in
    let place = c.loop-place.place in
    let size = c.from-length.result in
    let now = c.loop-place.invariant in
    let is = is_body file place size c.lengths-lengths.result.now c.lengths-lengths.ensures.value
    c.loop-place-test.true c.from-length.ensures in
    let part = c.part_after-piece.ensures
    ∙ ap (λ (l : List ℕ). drop place.skipped (take (place.bytes + size - place.bytes) (drop place.bytes l)))
    c.bytes-bytes.ensures.value
    ∙ ap (drop place.skipped) (body_is file place size now.inside is.0 is.1) in
    rw c.saturating_sub-place.ensures (now.same ∙ piece_comes file place size now.inside is.0 is.1
    c.part_after-piece.result.now part (grind (arith, tests)))

pub returns-then-not-is_empty-clause-place : goal.returns-then-not-is_empty-clause-place
returns-then-not-is_empty-clause-place c =
    let file = c.args.file.now in
    let place = c.loop-place.place in
    let size = c.from-length.result in
    let is = is_body file place size c.lengths-lengths.result.now c.lengths-lengths.ensures.value
    c.loop-place-test.true c.from-length.ensures in
    rw c.saturating_sub-place.ensures (passed file place size c.loop-place.invariant.inside is.0 is.1)

pub loop-place-preserved : goal.loop-place-preserved
loop-place-preserved c =
    let file = c.args.file.now in
    let place = c.loop-place.place in
    let size = c.from-length.result in
    let now = c.loop-place.invariant in
    let is = is_body file place size c.lengths-lengths.result.now c.lengths-lengths.ensures.value
    c.loop-place-test.true c.from-length.ensures in
    let part = c.part_after-piece.ensures
    ∙ ap (λ (l : List ℕ). drop place.skipped (take (place.bytes + size - place.bytes) (drop place.bytes l)))
    c.bytes-bytes.ensures.value
    ∙ ap (drop place.skipped) (body_is file place size now.inside is.0 is.1) in
    rw c.saturating_sub-place.ensures (record {
      inside = passed file place size now.inside is.0 is.1;
      same = now.same ∙ none_comes file place size now.inside is.0 is.1 c.part_after-piece.result.now part
          (grind (arith, tests));
    })
