use Rattle.std.proofs.Common.{refl, ap, ◌∙◌, arith}
use Rattle.std.proofs.lemmas.Result.{err_from_is_err_and}
use Rattle.lr_make.specs.Stream.{symbol_stream}
use Rattle.lr_make.specs.Symbols.{symbols_at, bytes_of_symbols}
use Rattle.lr_cmd_receive.proofs.Making.{symbols_more, put_none, put_next, put_cut}
use Rattle.lr_cmd_receive.proofs.test_stream.make_symbols.Goals as goal

pub frames-init : goal.frames-init
unfolding symbol_stream
frames-init g c = record {
  stands = c.in-Ok.ensures;
  put = put_none (λ n. bytes_of_symbols (symbol_stream c.args.start c.args.wrong n))
      (λ n. bytes_of_symbols (symbols_at c.args.start c.args.wrong n))
      (λ n. symbols_more c.args.start c.args.wrong n) g.O.Sink refl c.args.out.now;
  few = omega arith;
}

pub returns-in_err-put_text-clause-failed : goal.returns-in_err-put_text-clause-failed
returns-in_err-put_text-clause-failed g c =
    let so = c.frames.invariant in
    let p = err_from_is_err_and c.from_residual.result c.from_residual.ensures.1 in
    rw p.1
    (put_cut (λ n. bytes_of_symbols (symbol_stream c.args.start c.args.wrong n))
    (λ n. bytes_of_symbols (symbols_at c.args.start c.args.wrong n))
    (λ n. symbols_more c.args.start c.args.wrong n) g.O.Sink c.frames.made c.args.frames
    (omega (arith, c.frames-test.true)) c.put_bytes.new.bytes (c.put_bytes.ensures
    ∙ ap bytes_of_symbols (c.next_symbols.ensures.symbols c.args.start c.args.wrong c.frames.made
    so.stands)) c.args.out.now c.frames.out c.put_text.new.out so.put c.in_err-put_text.ensures.failed)

pub frames-preserved : goal.frames-preserved
frames-preserved g c =
    let so = c.frames.invariant in record {
      stands = c.next_symbols.ensures.moves c.args.start c.args.wrong c.frames.made so.stands;
      put = put_next (λ n. bytes_of_symbols (symbol_stream c.args.start c.args.wrong n))
          (λ n. bytes_of_symbols (symbols_at c.args.start c.args.wrong n))
          (λ n. symbols_more c.args.start c.args.wrong n) g.O.Sink c.frames.made c.put_bytes.new.bytes
          (c.put_bytes.ensures ∙ ap bytes_of_symbols
          (c.next_symbols.ensures.symbols c.args.start c.args.wrong c.frames.made so.stands)) c.args.out.now
          c.frames.out c.put_text.new.out so.put c.in_ok-put_text.ensures.put;
      few = omega (arith, c.frames-test.true);
    }
