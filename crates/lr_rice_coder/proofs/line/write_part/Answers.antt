use Rattle.std.proofs.Common.{◌≡◌, ◌+◌, ◌-◌, ◌*◌, ◌^◌, ◌≤◌, ◌++◌, take, drop, ap, sym, ◌∙◌, arith, nat_eq}
use Rattle.std.proofs.Math.Nat.{pow-le-pow_right}
use Rattle.std.proofs.lemmas.List.{append_assoc}
use Rattle.std.proofs.lemmas.Nat.{pow_pos}
use Rattle.lr_bits.specs.Bits.{zeros_and_one}
use Rattle.lr_rice.specs.declared.choice.BlockOption.TheVariants.{ZeroBlock}
use Rattle.lr_rice.specs.CodedLines.{Zeros, body_string, greatest, head_string, left_in_segment, part_string, span_of}
use Rattle.lr_rice_coder.specs.Shortest.{places_of_block, block_in, block_values, next_part}
use Rattle.lr_rice_coder.specs.Shortest.{run_number, shortest_option}
use Rattle.lr_rice_coder.specs.Shortest.{zero_run}
use Rattle.lr_rice_coder.specs.Writing.{form_in}
use Rattle.lr_rice_coder.proofs.PartLemmas.{cut-small, next_part-block, next_part-run, option_of-block_in}
use Rattle.lr_rice_coder.proofs.PartLemmas.{run_of-number, slice, span_of-block_in, zero_run-le}
use Rattle.lr_rice_coder.proofs.line.write_part.Goals as goal

pub returns-then-run-gt0 : goal.returns-then-run-gt0
returns-then-run-gt0 c =
    let line = c.args.line.now in
    let form = form_in line in
    let at = c.args.at in
    let places = line.places.now in
    let left = left_in_segment form at in
    let run = c.run_at-run.result in
    let is : run ≡ zero_run form.block places left at =
    c.run_at-run.ensures ∙ ap (λ n. zero_run form.block places n at) c.left_in_segment-left.ensures in
    let few : run ≤ left = omega (arith, is, zero_run-le form.block places left at) in
    let next : next_part form places at ≡ Zeros (run_number left run) =
    next_part-run form places at run is c.if-run-gt0.true in
    let number : c.run_number.result ≡ run_number left run =
    c.run_number.ensures ∙ ap (λ n. run_number n run) c.left_in_segment-left.ensures in
    let head = head_string form.bits (nat_eq at 0) line.reference ZeroBlock in
    record {
      whole = c.in_ok-sequence.ensures ∙ ap (λ n. c.write_head.new.writer ++ zeros_and_one n) number
          ∙ ap (λ l. l ++ zeros_and_one (run_number left run)) c.in_ok-write_head.ensures
          ∙ append_assoc c.args.writer.now head (zeros_and_one (run_number left run))
          ∙ ap (λ part. c.args.writer.now ++ part_string form.bits (nat_eq at 0) line.reference part) (sym next);
      spans = sym (ap (span_of left) next ∙ run_of-number left run c.if-run-gt0.true few);
      some = c.if-run-gt0.true;
      inside = few;
    }

pub shortest_option-option-requires-clause-small : goal.shortest_option-option-requires-clause-small
shortest_option-option-requires-clause-small c k d inside =
    let line = c.args.line.now in
    let start = c.args.at * line.block in
    let small = cut-small line.places.now (greatest line.bits) (start + line.block - start) start
    c.requires.line.places.small k d inside in
    let most : 2 ^ line.bits ≤ 2 ^ 16 =
    pow-le-pow_right {n = 2} (omega arith) {i = line.bits} {j = 16} c.requires.line.form.most_bits in
    omega (arith, small, most)

pub write_block-requires-clause-small : goal.write_block-requires-clause-small
write_block-requires-clause-small c k d inside =
    let line = c.args.line.now in
    let start = c.args.at * line.block in
    let small = cut-small line.places.now (greatest line.bits) (start + line.block - start) start
    c.requires.line.places.small k d inside in
    omega (arith, small, pow_pos line.bits)

pub returns : goal.returns
returns c =
    let line = c.args.line.now in
    let form = form_in line in
    let at = c.args.at in
    let first = nat_eq at 0 in
    let places = line.places.now in
    let left = left_in_segment form at in
    let none : zero_run form.block places left at ≡ 0 =
    ap (λ n. zero_run form.block places n at) (sym c.left_in_segment-left.ensures) ∙ sym c.run_at-run.ensures
    ∙ omega (arith, c.if-run-gt0.false) in
    let here = places_of_block form.block places at in
    let cut : take (at * line.block + line.block - at * line.block) (drop (at * line.block) places) ≡ here =
    slice line.block at places in
    let option = c.shortest_option-option.result in
    let best : option ≡ shortest_option form.bits first here =
    c.shortest_option-option.ensures.value ∙ ap (shortest_option form.bits first) cut in
    let values = block_values first here in
    let part = block_in option values in
    let next : next_part form places at ≡ part =
    next_part-block form places at none ∙ ap (λ o. block_in o values) (sym best) in
    let head = head_string form.bits first line.reference option in
    let body = body_string form.bits first part in
    record {
      whole = c.in_ok-write_block.ensures
          ∙ ap (λ l. c.write_head-2.new.writer ++ body_string form.bits first
          (block_in option (block_values first l))) cut
          ∙ ap (λ l. l ++ body) c.in_ok-write_head-2.ensures ∙ append_assoc c.args.writer.now head body
          ∙ ap (λ o. c.args.writer.now ++ (head_string form.bits first line.reference o ++ body))
          (sym (option_of-block_in option values c.shortest_option-option.ensures.single))
          ∙ ap (λ p. c.args.writer.now ++ part_string form.bits first line.reference p) (sym next);
      spans = sym (ap (span_of left) next ∙ span_of-block_in left option values);
      some = omega arith;
      inside = omega (arith, c.requires.inside);
    }
