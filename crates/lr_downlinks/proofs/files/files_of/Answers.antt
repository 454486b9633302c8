use Rattle.std.proofs.Common.{List, sym, subst, ◌∙◌}
use Rattle.lr_bits.specs.declared.placed.Placed.{Placed}
use Rattle.lr_downlinks.specs.Decoding.{IsDecodedSoFar, coded_stream}
use Rattle.lr_downlinks.proofs.Decoding.{decoded_all, decoded_more, decoded_none, outcomes_few}
use Rattle.lr_downlinks.proofs.files.files_of.Goals as goal

pub windows-init : goal.windows-init
windows-init c = record {
  decoded =
      subst (λ (l : List Placed).
      IsDecodedSoFar (coded_stream c.args.line c.args.stream.now) 0 c.in_ok-lock.lock c.new-layers.result l)
      (sym c.new-files.ensures.items)
      (decoded_none c.args.line c.args.stream.now c.in_ok-lock.lock c.new-layers.result c.in_ok-lock.ensures.stands
      c.in_ok-lock.ensures.line c.in_ok-lock.ensures.unfinished c.new-layers.ensures);
  window_line = c.in_ok-window.ensures.line ∙ sym c.in_ok-lock.ensures.line;
  one_pass = c.in_ok-window.ensures.passes;
}

pub show_next-requires-clause-line : goal.show_next-requires-clause-line
show_next-requires-clause-line c = c.windows.invariant.window_line

pub show_next-requires-clause-passes : goal.show_next-requires-clause-passes
show_next-requires-clause-passes c = c.windows.invariant.one_pass

pub show_next-requires-clause-is_fed : goal.show_next-requires-clause-is_fed
show_next-requires-clause-is_fed c =
    (c.args.line, c.windows.invariant.decoded.given, c.windows.invariant.decoded.is_fed)

pub push_outcome-requires : goal.push_outcome-requires
push_outcome-requires c =
    outcomes_few c.args.line c.args.stream.now c.windows.fed c.windows.lock c.windows.layers c.windows.files.items
    c.windows.invariant.decoded c.requires

pub windows-preserved : goal.windows-preserved
windows-preserved c =
    let is = c.windows.invariant.decoded in
    record {
      decoded =
          decoded_more c.args.line c.args.stream.now c.windows.fed c.windows.lock c.windows.layers
          c.windows.files.items is c.in-Some.taken c.show_next.new.lock c.show_next.new.window
          (c.in-Some.ensures.shows c.args.line is.given is.is_fed) c.outcome-outcome.result c.outcome-outcome.ensures
          c.push_outcome.new.self c.push_outcome.new.files.items
          (λ outcomes stand. (
            c.in_ok-push_outcome.ensures.stands 0 outcomes stand,
            c.in_ok-push_outcome.ensures.files 0 outcomes stand,
          ));
      window_line = c.show_next.ensures.line;
      one_pass = c.show_next.ensures.passes;
    }

pub windows-smaller : goal.windows-smaller
windows-smaller c = c.in-Some.ensures.fewer

pub returns : goal.returns
returns c =
    let is = c.windows.invariant.decoded in
    decoded_all c.args.line c.args.stream.now c.windows.fed c.windows.lock c.windows.layers c.windows.files.items is
    c.show_next.new.lock c.show_next.new.window (c.in_default.ensures.shows c.args.line is.given is.is_fed)
