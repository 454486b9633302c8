use Rattle.std.proofs.Common.{◌≡◌, ℕ, ◌++◌, sym, ap, subst, ◌∙◌, arith, ⊎_elim}
use Rattle.std.proofs.lemmas.Bool.{cases_lt}
use Rattle.lr_make.specs.Blocks.{block_at}
use Rattle.lr_make.specs.Frames.{frame_at}
use Rattle.lr_make.specs.Received.{IsReceivedAs}
use Rattle.lr_make.specs.Stream.{symbol_stream}
use Rattle.lr_make.specs.Symbols.{bytes_of_symbols}
use Rattle.lr_cmd_receive.specs.Made.{made_bytes}
use Rattle.lr_cmd_receive.proofs.Making.{symbols_more}
use Rattle.lr_cmd_receive.proofs.trial_run.stream.Goals as goal

pub frames-init : goal.frames-init
unfolding symbol_stream
frames-init c = record {
  stands = c.in_ok-maker.ensures;
  bytes = c.in_ok-all.ensures.items;
  received = λ k below. absurd (omega (arith, below));
  few = omega arith;
}

pub frames-preserved : goal.frames-preserved
frames-preserved c =
    let so = c.frames.invariant in
    let start = c.args.start in
    let wrong = c.args.wrong in
    record {
      stands = c.next_symbols.ensures.moves start wrong c.frames.made so.stands;
      bytes =
          c.in_ok-extend_from_slice.ensures.items ∙ ap (λ l. l ++ c.put_bytes.new.bytes) so.bytes
          ∙ ap (λ l. bytes_of_symbols (symbol_stream start wrong c.frames.made) ++ l) (c.put_bytes.ensures
          ∙ ap bytes_of_symbols (c.next_symbols.ensures.symbols start wrong c.frames.made so.stands))
          ∙ sym (symbols_more start wrong c.frames.made);
      received = λ k below.
          ⊎_elim (λ before. so.received k before)
          (λ last. subst (λ (j : ℕ). IsReceivedAs wrong (frame_at start j) (block_at start wrong j))
          (omega (arith, below, last)) (c.next_symbols.ensures.received start wrong c.frames.made so.stands))
          (cases_lt k c.frames.made);
      few = omega (arith, c.frames-test.true);
    }

pub returns-clause-bytes : goal.returns-clause-bytes
unfolding made_bytes
returns-clause-bytes c =
    let so = c.frames.invariant in
    let all : c.frames.made ≡ c.args.frames = omega (arith, so.few, c.frames-test.false) in
    so.bytes ∙ ap (λ n. bytes_of_symbols (symbol_stream c.args.start c.args.wrong n)) all
