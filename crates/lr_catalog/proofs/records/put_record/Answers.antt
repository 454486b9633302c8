use Rattle.std.proofs.Common.{◌≡◌}
use Rattle.lr_catalog.proofs.Lines.{record_is}
use Rattle.lr_catalog.proofs.records.put_record.Goals as goal

pub returns : goal.returns
returns c = λ e is.
    let same : c.entry.result ≡ e = let at = c.entry.ensures in cc (at, is) in
    let words = c.in_ok-put_words.ensures in
    record_is c.extend.result c.args.records.now e c.entry.result c.content.result c.contents_at.result.now
    c.args.out.now c.put_words.new.out c.put_content.new.out c.extend.new.self same (c.content.ensures e is)
    (c.contents_at.ensures e is) (words.ok _ c.record_words.ensures) c.in_ok-put_content.ensures c.extend.ensures.ok
