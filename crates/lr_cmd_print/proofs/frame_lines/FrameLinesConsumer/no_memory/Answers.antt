use Rattle.lr_cmd_print.specs.FrameLines.{text_of_frames}
use Rattle.lr_cmd_print.proofs.Lines.{all_but_none, none_stopped}
use Rattle.lr_cmd_print.proofs.frame_lines.FrameLinesConsumer.no_memory.Goals as goal

pub returns : goal.returns
returns g c = λ before arrivals took. record {
  same_out = took.same_out;
  stops = none_stopped g.O.Sink (λ l. text_of_frames l) arrivals before.out.now c.args.self.now.out.now took.put;
  others = all_but_none g.O.Sink (λ l. text_of_frames l) arrivals before.out.now c.args.self.now.out.now took.put;
}
