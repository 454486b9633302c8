use Rattle.std.proofs.Common.{ap, sym, ◌∙◌}
use Rattle.lr_packet.specs.Reading.{good}
use Rattle.std.specs.Option.{option_map}
use Rattle.lr_mend.specs.Marks.{whole_file}
use Rattle.lr_mend.proofs.PlainFiles.{plain_file, plain_gap, plain_stands, stands_plain}
use Rattle.lr_mend.proofs.mended.take_plain.Goals as goal

pub returns-clause-takes : goal.returns-clause-takes
returns-clause-takes c images seams packets none stands =
    let p = good c.args.packet.now in
    let old = plain_stands images c.args.files.now seams packets none stands in
    record {
      stands = stands_plain images seams c.args.files.now c.push.new.self packets p none stands
          c.in_ok-file.ensures.stands;
      gap = sym (plain_gap packets p);
      file = c.whole.ensures ∙ ap (option_map whole_file) (c.in_ok-file.ensures.file packets old)
          ∙ sym (plain_file packets p);
    }
