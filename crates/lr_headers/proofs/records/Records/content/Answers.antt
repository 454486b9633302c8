use Rattle.std.proofs.Common.{ℕ, List, ◌<◌, length, rules, ◌∙◌, ap}
use Rattle.lr_headers.specs.Tiling.{Header}
use Rattle.lr_headers.specs.Fields.{content_in}
use Rattle.lr_headers.proofs.Tilings.{IsInside, first_taken, later_taken, taken}
use Rattle.lr_headers.proofs.records.Records.content.Goals.{After-index-entry}
use Rattle.lr_headers.proofs.records.Records.content.Goals as goal

abbrev header_of : After-index-entry → Header
header_of c = record { bytes = c.self.inside.header.now; entries = c.self.inside.entries.items }

inside : (c : After-index-entry) → IsInside c.self.inside.header.now c.index-entry.result.now
inside c =
    let there : c.args.place < length c.self.inside.entries.items = search rules in
    taken (header_of c) c.self.invariant c.args.place c.index-entry.result.now there c.index-entry.ensures

pub contents_of-requires-clause-inside : goal.contents_of-requires-clause-inside
contents_of-requires-clause-inside c =
    (inside (goal.at.contents_of-requires-clause-inside c).After-index-entry).ends

pub contents_of-requires-clause-long : goal.contents_of-requires-clause-long
contents_of-requires-clause-long c = (inside (goal.at.contents_of-requires-clause-long c).After-index-entry).long

pub content_in-requires-clause-right : goal.content_in-requires-clause-right
content_in-requires-clause-right c = (inside (goal.at.content_in-requires-clause-right c).After-index-entry).right

pub returns-then-entry-eq0 : goal.returns-then-entry-eq0
returns-then-entry-eq0 c = λ e is.
    let first = first_taken (header_of (goal.at.returns-then-entry-eq0 c).After-index-entry) c.args.self.now
    c.self.view_is c.args.place c.index-entry.result.now c.index-entry.ensures c.if-entry-eq0.true e is in
    rw (c.file_type.ensures, c.header_length.ensures, c.data_bits.ensures) first

pub returns : goal.returns
returns c = λ e is.
    c.content_in.ensures
    ∙ ap (λ (contents : List ℕ). content_in c.index-entry.result.now contents) c.contents_of.ensures.value
    ∙ later_taken (header_of (goal.at.returns c).After-index-entry) c.args.self.now c.self.view_is c.args.place
    c.index-entry.result.now c.index-entry.ensures c.if-entry-eq0.false e is
