use Rattle.std.proofs.Common.{◌<◌, length, rules, ◌∙◌}
use Rattle.lr_headers.specs.Tiling.{Header}
use Rattle.lr_headers.proofs.Tilings.{contents_taken, taken}
use Rattle.lr_headers.proofs.records.Records.contents_at.Goals as goal

pub contents_of-requires-clause-inside : goal.contents_of-requires-clause-inside
contents_of-requires-clause-inside c =
    let own = c.self.inside in
    let header : Header = record { bytes = own.header.now; entries = own.entries.items } in
    let there : c.args.place < length own.entries.items = search rules in
    let e = taken header c.self.invariant c.args.place c.index.result.now there c.index.ensures in
    e.ends

pub contents_of-requires-clause-long : goal.contents_of-requires-clause-long
contents_of-requires-clause-long c =
    let own = c.self.inside in
    let header : Header = record { bytes = own.header.now; entries = own.entries.items } in
    let there : c.args.place < length own.entries.items = search rules in
    let e = taken header c.self.invariant c.args.place c.index.result.now there c.index.ensures in
    e.long

pub returns : goal.returns
returns c = λ e is.
    let own = c.self.inside in
    let header : Header = record { bytes = own.header.now; entries = own.entries.items } in
    c.contents_of.ensures.value
    ∙ contents_taken header c.args.self.now c.self.view_is c.args.place c.index.result.now c.index.ensures e is
