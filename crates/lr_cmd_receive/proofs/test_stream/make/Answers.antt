use Rattle.std.proofs.Common.{sym, subst}
use Rattle.lr_make.specs.Stream.{symbol_stream}
use Rattle.lr_forms.specs.declared.forms.Output.{Output}
use Rattle.lr_forms.specs.declared.forms.Output.TheVariants.{Units}
use Rattle.lr_make.specs.Symbols.{bytes_of_symbols}
use Rattle.lr_cmd_receive.specs.Made.{made_bytes, MakeEnds, test_frames}
use Rattle.lr_cmd_receive.proofs.Making.{make_ends}
use Rattle.lr_cmd_receive.proofs.test_stream.make.Goals as goal

pub returns-in-Symbols-clause-ends : goal.returns-in-Symbols-clause-ends
unfolding made_bytes
returns-in-Symbols-clause-ends g c =
    let e = c.make_symbols.ensures in
    let text = bytes_of_symbols (symbol_stream c.args.start c.args.wrong c.args.frames) in
    subst (λ (f : Output). MakeEnds g.O.Sink (made_bytes f (test_frames c.args.start c.args.frames c.args.wrong))
    c.cause_of.result c.args.out.now c.make_symbols.new.out) (sym c.in-Symbols.is)
    (make_ends g.O.Sink text c.args.out.now c.make_symbols.new.out c.make_symbols.result c.cause_of.result e.put
    e.failed e.cause c.cause_of.ensures.done c.cause_of.ensures.stopped)

pub returns-in-Units-clause-ends : goal.returns-in-Units-clause-ends
returns-in-Units-clause-ends g c =
    let e = c.make_units.ensures in
    let text = made_bytes (Units c.in-Units.form) (test_frames c.args.start c.args.frames c.args.wrong) in
    subst (λ (f : Output). MakeEnds g.O.Sink (made_bytes f (test_frames c.args.start c.args.frames c.args.wrong))
    c.cause_of-in-Units.result c.args.out.now c.make_units.new.out) (sym c.in-Units.is)
    (make_ends g.O.Sink text c.args.out.now c.make_units.new.out c.make_units.result c.cause_of-in-Units.result
    e.put e.failed e.cause c.cause_of-in-Units.ensures.done c.cause_of-in-Units.ensures.stopped)
