use Rattle.lr_bits.specs.File.{declared_bits_of, proper_of, real_bits_of}
use Rattle.lr_headers.specs.Headers.{header_of}
use Rattle.lr_catalog.specs.Entries.{bits_words, file_line, file_words, key_words, origin_words, size_words, type_word}
use Rattle.lr_catalog.proofs.Lines.{put_line}
use Rattle.lr_catalog.proofs.entries.put_file.Goals as goal

pub returns : goal.returns
unfolding file_line file_words
returns c =
    let file = c.args.file.now in
    let key = c.in_ok-put_words.ensures in
    let size = c.in_ok-put_words-2.ensures in
    let bits = c.in_ok-put_words-3.ensures in
    let middle = c.in_ok-extend.ensures in
    let origin = c.in_ok-put_words-4.ensures in
    put_line c.extend-2.result c.args.out.now (key_words c.args.number file) (size_words file)
    (bits_words (declared_bits_of file) (real_bits_of file)) _ (type_word (header_of (proper_of file)))
    (origin_words c.args.origin) c.put_words.new.out c.put_words-2.new.out c.put_words-3.new.out c.extend.new.self
    c.put_type.new.out c.put_words-4.new.out c.extend-2.new.self (key.ok _ c.key_words.ensures)
    (size.ok _ c.size_words.ensures)
    (rw (← c.declared_bits.ensures, ← c.real_bits.ensures) (bits.ok _ c.bits_words.ensures)) middle.ok
    (rw (← c.proper.ensures.value) c.in_ok-put_type.ensures) (origin.ok _ c.origin_words.ensures) c.extend-2.ensures.ok
