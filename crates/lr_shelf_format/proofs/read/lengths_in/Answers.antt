use Rattle.std.proofs.Common.{◌≡◌, ◌-◌, ◌*◌, ◌++◌, ◌∷◌, [], List, ℕ, length, take, drop, sym, ap, ◌∙◌}
use Rattle.std.proofs.lemmas.List.{take_rest}
use Rattle.byteorder.specs.Endian.{big_number}
use Rattle.lr_shelf_format.specs.Record.{numbers_in}
use Rattle.lr_shelf_format.proofs.LengthLemmas.{numbers_in-add}
use Rattle.lr_shelf_format.proofs.read.lengths_in.Goals as goal

pub loop-place-preserved : goal.loop-place-preserved
loop-place-preserved c =
    let pairs = c.args.pairs.now in
    let place = c.loop-place.place in
    let given : c.read_u16.result ≡ big_number 2 (take (length pairs - 2 * place) (drop (2 * place) pairs)) =
    c.read_u16.ensures in
    let there : c.read_u16.result ≡ big_number 2 (drop (2 * place) pairs) = given
    ∙ ap (big_number 2) (take_rest pairs (2 * place)) in
    c.in_ok-push.ensures.ok ∙ ap (λ (l : List ℕ). l ++ c.read_u16.result ∷ []) c.loop-place.invariant
    ∙ ap (λ n. numbers_in place pairs ++ n ∷ []) there
    ∙ sym (numbers_in-add place 1 pairs)
