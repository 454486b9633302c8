use Rattle.std.proofs.Common.{◌≡◌, ◌∙◌, ℕ, Some, arith, rules}
use Rattle.std.specs.List.{find}
use Rattle.lr_headers.specs.declared.entry.Entry.{Entry}
use Rattle.lr_headers.specs.Tiling.{Header, IsTiled}
use Rattle.lr_headers.specs.Fields.{is_sized}
use Rattle.lr_headers.proofs.Tilings.{IsInside, found, sized_length, tiled_inside}
use Rattle.lr_headers.proofs.records.Records.contents.Goals as goal

inside_found : (header : Header) (kind size : ℕ) (e : Entry) → IsTiled header
    → find (is_sized kind size) header.entries ≡ Some e
    → IsInside header.bytes e × (e.length ≡ size)
inside_found header kind size e tiled is =
    let both = found (IsInside header.bytes) (is_sized kind size) header.entries e (tiled_inside header tiled) is in
    (both.0, sized_length kind size e both.1)

pub contents_of-requires-clause-inside : goal.contents_of-requires-clause-inside
contents_of-requires-clause-inside c =
    let inside = c.self.inside in
    let header : Header = record { bytes = inside.header.now; entries = inside.entries.items } in
    let is : find (is_sized c.args.kind c.args.size) inside.entries.items ≡ Some c.in_ok-entry.entry = search rules in
    let both = inside_found header c.args.kind c.args.size c.in_ok-entry.entry c.self.invariant is in
    let ends = both.0.ends in
    omega arith

pub contents_of-requires-clause-long : goal.contents_of-requires-clause-long
contents_of-requires-clause-long c =
    let inside = c.self.inside in
    let header : Header = record { bytes = inside.header.now; entries = inside.entries.items } in
    let is : find (is_sized c.args.kind c.args.size) inside.entries.items ≡ Some c.in_ok-entry.entry = search rules in
    let both = inside_found header c.args.kind c.args.size c.in_ok-entry.entry c.self.invariant is in
    both.0.long

pub returns-clause-size : goal.returns-clause-size
returns-clause-size c =
    let inside = c.self.inside in
    let header : Header = record { bytes = inside.header.now; entries = inside.entries.items } in
    let is : find (is_sized c.args.kind c.args.size) inside.entries.items ≡ Some c.in_ok-entry.entry = search rules in
    let both = inside_found header c.args.kind c.args.size c.in_ok-entry.entry c.self.invariant is in
    c.contents_of.ensures.size ∙ both.1
