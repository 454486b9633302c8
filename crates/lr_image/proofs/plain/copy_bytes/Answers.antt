use Rattle.std.proofs.Common.{◌≡◌, ◌++◌, ◌∷◌, [], length, take, sym, ap, ◌∙◌, arith}
use Rattle.std.proofs.lemmas.List.{length-take-le, take_all, take_more, take_more_set}
use Rattle.lr_image.proofs.plain.copy_bytes.Goals as goal

pub loop-place-preserved : goal.loop-place-preserved
loop-place-preserved c =
    let front = take (length c.args.pixels.now) c.args.bytes.now in
    let place = c.loop-place.place in
    let pixels = c.loop-place.pixels in
    let size = c.loop-place.auto.pixels in
    let long : length front ≡ length c.args.pixels.now = length-take-le
    (length c.args.pixels.now) c.args.bytes.now c.requires in
    take_more_set pixels place c.from.result (omega arith)
    ∙ ap (λ l. l ++ c.from.result ∷ []) c.loop-place.invariant
    ∙ ap (λ b. take place front ++ b ∷ []) c.from.ensures
    ∙ sym (take_more front place 0 c.loop-place-test.true)

pub returns : goal.returns
returns c =
    let front = take (length c.args.pixels.now) c.args.bytes.now in
    let place = c.loop-place.place in
    let size = c.loop-place.auto.pixels in
    let long : length front ≡ length c.args.pixels.now = length-take-le
    (length c.args.pixels.now) c.args.bytes.now c.requires in
    sym (take_all place c.loop-place.pixels (omega arith)) ∙ c.loop-place.invariant ∙ take_all place front (omega arith)
