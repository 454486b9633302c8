use Rattle.std.proofs.Common.{ap, ◌∙◌, ◌≡◌, ◌+◌, ◌*◌, sym, arith, length}
use Rattle.lr_trellis.specs.Path.{IsNearestPath, bytes_of_bits}
use Rattle.lr_trellis.specs.Trellis.{read_back}
use Rattle.lr_trellis.specs.Words.{decisions}
use Rattle.lr_trellis.proofs.OnePath.{nearest_path_is_the_one}
use Rattle.lr_trellis.proofs.decode.read_bytes.Goals as goal

pub returns : goal.returns
returns c =
    let read = c.bytes_back.ensures.read in
    let steps : 0 + 8 * length c.bytes_back.new.out ≡ 8 * length c.args.out.now = omega arith in
    let nearest : IsNearestPath c.args.line c.args.window.now read.bits =
    c.last_state-state.ensures.read read.bits c.bytes_back.result (omega (arith, read.size)) c.bytes_back.ensures.state
    (ap (λ n. read_back (decisions c.args.words.now) n c.last_state-state.result) (sym steps) ∙ read.path) in
    read.packed ∙ ap bytes_of_bits (nearest_path_is_the_one c.args.line c.args.window.now read.bits nearest)
