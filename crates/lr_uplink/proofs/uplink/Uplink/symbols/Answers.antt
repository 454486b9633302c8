use Rattle.std.proofs.Common.{◌∙◌, ap, sym, subst, arith, ◌++◌}
use Rattle.std.proofs.lemmas.List.{length_push}
use Rattle.lr_conv.specs.LineEncoder.{LineEncoderStandsFor}
use Rattle.lr_sent.specs.Sent.{bits_of_blocks, symbols_of_blocks}
use Rattle.lr_uplink.proofs.Coding.{bits-more, symbols-more}
use Rattle.lr_uplink.proofs.UnderWay.{block_more}
use Rattle.lr_uplink.proofs.uplink.Uplink.symbols.Goals as goal

pub returns-clause-symbols : goal.returns-clause-symbols
returns-clause-symbols c = λ line history s.
    symbols-more line history.blocks c.args.block.now
    ∙ ap (λ more. symbols_of_blocks line history.blocks ++ more)
    (sym (c.put_symbols.ensures.symbols line (bits_of_blocks history.blocks) s.encoder))

pub returns-clause-block : goal.returns-clause-block
returns-clause-block c = λ line history s some is. record {
  files = s.files;
  counts = s.counts;
  frames = s.frames;
  given = omega (arith, length_push history.blocks c.args.block.now, some);
  blocks = block_more c.args.self.now line history c.args.block.now s some is;
  encoder =
      subst (LineEncoderStandsFor c.put_symbols.new.encoder line) (sym (bits-more history.blocks c.args.block.now))
      (c.put_symbols.ensures.moves line (bits_of_blocks history.blocks) s.encoder);
}
