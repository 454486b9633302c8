use Rattle.std.proofs.Common.{◌+◌, ℕ, List, [], length, sym, ap, ◌∙◌, arith}
use Rattle.std.specs.Prelude.{slice_index, slice_index_or, slice_range}
use Rattle.lr_downlinks.specs.Readings.{recording_start}
use Rattle.lr_downlinks.proofs.Bundling.{stream_of}
use Rattle.lr_downlinks.proofs.bundle.Bundle.stream.Goals as goal

pub start_in-start-requires : goal.start_in-start-requires
start_in-start-requires c =
    let is = stream_of c.self.inside.bytes c.self.inside.count c.self.inside.ends c.self.invariant c.args.downlink
    (omega (arith, c.requires, ap (λ (l : List (List ℕ)). length l) c.self.view_is)) in
    omega (arith, is.below)

pub offset_bounds-self-inside-downlink : goal.offset_bounds-self-inside-downlink
offset_bounds-self-inside-downlink c =
    let is = stream_of c.self.inside.bytes c.self.inside.count c.self.inside.ends c.self.invariant c.args.downlink
    (omega (arith, c.requires, ap (λ (l : List (List ℕ)). length l) c.self.view_is)) in
    omega (arith, is.below)

pub bounds-self-inside-downlink : goal.bounds-self-inside-downlink
bounds-self-inside-downlink c =
    let is = stream_of c.self.inside.bytes c.self.inside.count c.self.inside.ends c.self.invariant c.args.downlink
    (omega (arith, c.requires, ap (λ (l : List (List ℕ)). length l) c.self.view_is)) in
    omega (arith, is.below)

pub overflow_add-result : goal.overflow_add-result
overflow_add-result c =
    let is = stream_of c.self.inside.bytes c.self.inside.count c.self.inside.ends c.self.invariant c.args.downlink
    (omega (arith, c.requires, ap (λ (l : List (List ℕ)). length l) c.self.view_is)) in
    omega (arith, c.start_in-start.ensures, is.after, is.inside, c.self.invariant.short)

pub slice_bounds-result-count : goal.slice_bounds-result-count
slice_bounds-result-count c =
    let is = stream_of c.self.inside.bytes c.self.inside.count c.self.inside.ends c.self.invariant c.args.downlink
    (omega (arith, c.requires, ap (λ (l : List (List ℕ)). length l) c.self.view_is)) in
    omega (arith, c.start_in-start.ensures, is.after)

pub slice_bounds-result-start : goal.slice_bounds-result-start
slice_bounds-result-start c =
    let is = stream_of c.self.inside.bytes c.self.inside.count c.self.inside.ends c.self.invariant c.args.downlink
    (omega (arith, c.requires, ap (λ (l : List (List ℕ)). length l) c.self.view_is)) in
    omega (arith, c.start_in-start.ensures, is.after)

pub slice_bounds-result-end : goal.slice_bounds-result-end
slice_bounds-result-end c =
    let is = stream_of c.self.inside.bytes c.self.inside.count c.self.inside.ends c.self.invariant c.args.downlink
    (omega (arith, c.requires, ap (λ (l : List (List ℕ)). length l) c.self.view_is)) in
    omega (arith, is.inside, ap (λ (l : List ℕ). length l) c.as_slice.ensures)

pub returns-clause-value : goal.returns-clause-value
returns-clause-value c =
    let is = stream_of c.self.inside.bytes c.self.inside.count c.self.inside.ends c.self.invariant c.args.downlink
    (omega (arith, c.requires, ap (λ (l : List (List ℕ)). length l) c.self.view_is)) in
    let end = slice_index c.self.inside.ends c.args.downlink in
    ap (λ (n : ℕ). slice_range c.as_slice.result.now (n + 8) end) c.start_in-start.ensures
    ∙ ap (λ (l : List ℕ). slice_range l (recording_start 1 c.self.inside.ends c.args.downlink + 8) end)
    c.as_slice.ensures
    ∙ sym is.stream_is
    ∙ ap (λ (l : List (List ℕ)). slice_index_or l c.args.downlink []) c.self.view_is
