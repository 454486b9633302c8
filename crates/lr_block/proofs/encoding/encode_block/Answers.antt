use Rattle.std.proofs.Common.{arith}
use Rattle.lr_block.proofs.Interleaving.{codewords_more, is_encoded, is_only_encoded}
use Rattle.lr_block.proofs.encoding.encode_block.Goals as goal

pub loop-k-preserved : goal.loop-k-preserved
loop-k-preserved c = record {
  long = c.put_word.array_long;
  each =
      codewords_more c.args.frame.now c.loop-k.block c.put_word.new.block c.take_information.new.information
      c.encode.new.word c.loop-k.k c.loop-k-test.true
      c.loop-k.invariant.each c.put_word.ensures.kept c.take_information.ensures c.put_word.ensures.put
      (record {
        is_word = c.encode.ensures.word;
        is_codeword = c.encode.ensures.codeword;
        begins =
            c.encode.ensures.begins;
        only = c.encode.ensures.only;
      });
}

pub returns-clause-encoded : goal.returns-clause-encoded
returns-clause-encoded c =
    is_encoded c.args.frame.now c.loop-k.block c.told-frame c.loop-k.invariant.long
    (λ k h. c.loop-k.invariant.each k (omega arith))

pub returns-clause-only : goal.returns-clause-only
returns-clause-only c other =
    is_only_encoded c.args.frame.now c.loop-k.block other c.loop-k.invariant.long
    (λ k h. c.loop-k.invariant.each k (omega arith))
