use Rattle.std.proofs.Common.{◌≡◌, ap, ◌∙◌, ℕ, List, length, map, arith}
use Rattle.std.proofs.lemmas.List.{take_rest}
use Rattle.byteorder.specs.Endian.{big_number}
use Rattle.lr_headers.specs.Tiling.{number_at}
use Rattle.lr_mend.proofs.Marking.{all_pass, first_in, first_is, first_le, long_body, long_file, long_size, short_first}
use Rattle.lr_mend.proofs.Marking.{short_size, size_in}
use Rattle.lr_mend.proofs.marks.header_to_mark.Goals as goal
use Rattle.lr_mend.proofs.marks.header_to_mark.Goals.{then-size-via-then-size, then-size-via-else-size+then-size-first}
use Rattle.lr_mend.proofs.marks.header_to_mark.Goals.{then-first-mark-gt-MOST_BODY_BYTES-via-then-first-mark-gt-MOST_BODY_BYTES}
use Rattle.lr_mend.proofs.marks.header_to_mark.Goals.{then-first-mark-gt-MOST_BODY_BYTES-via-else-first-mark-gt-MOST_BODY_BYTES+then-bytes-mark-gt-MOST_FILE_BYTES}

pub returns-then-bytes-lt-SIZE_END-clause-none : goal.returns-then-bytes-lt-SIZE_END-clause-none
returns-then-bytes-lt-SIZE_END-clause-none c =
    let file = c.args.file.now in
    let bytes = ap length c.bytes-bytes.ensures.value in
    short_first c.args.mark.now file
    (omega (arith, first_le file.bodies, bytes, c.if-bytes-lt-SIZE_END.true))

pub returns-clause-size : goal.returns-clause-size
unfolding number_at
returns-clause-size c =
    let bytes = c.bytes-bytes.result.now in
    c.read_u32-size.ensures ∙ ap (λ (l : List ℕ). big_number 4 l) (take_rest bytes 14)
    ∙ ap (λ (l : List ℕ). number_at 4 14 l) c.bytes-bytes.ensures.value

pub returns-then-size-clause-none : goal.returns-then-size-clause-none
unfolding number_at
returns-then-size-clause-none c =
    let file = c.args.file.now in
    let mark = c.args.mark.now in
    let bytes = c.bytes-bytes.result.now in
    let size : c.read_u32-size.result ≡ size_in file =
    c.read_u32-size.ensures ∙ ap (λ (l : List ℕ). big_number 4 l) (take_rest bytes 14)
    ∙ ap (λ (l : List ℕ). number_at 4 14 l) c.bytes-bytes.ensures.value in
    let first : c.from-first.result ≡ first_in file =
    c.from-first.ensures ∙ c.length.ensures ∙ first_is (map length file.bodies) in
    elim c.then-size.branch [
      | then-size-via-then-size w ↦ short_size mark file (omega (arith, size, w.if-size.true))
      | then-size-via-else-size+then-size-first w ↦
          long_size mark file (omega (arith, size, first, w.if-size-first.true))
    ]

pub returns-then-first-mark-gt-MOST_BODY_BYTES-clause-none : goal.returns-then-first-mark-gt-MOST_BODY_BYTES-clause-none
returns-then-first-mark-gt-MOST_BODY_BYTES-clause-none c =
    let file = c.args.file.now in
    let mark = c.args.mark.now in
    let bytes = ap length c.bytes-bytes.ensures.value in
    let first : c.from-first.result ≡ first_in file =
    c.from-first.ensures ∙ c.length.ensures ∙ first_is (map length file.bodies) in
    elim c.then-first-mark-gt-MOST_BODY_BYTES.branch [
      | then-first-mark-gt-MOST_BODY_BYTES-via-then-first-mark-gt-MOST_BODY_BYTES w ↦
          long_body mark file (omega (arith, first, w.if-first-mark-gt-MOST_BODY_BYTES.true))
      | then-first-mark-gt-MOST_BODY_BYTES-via-else-first-mark-gt-MOST_BODY_BYTES+then-bytes-mark-gt-MOST_FILE_BYTES w ↦
          long_file mark file (omega (arith, bytes, w.if-bytes-mark-gt-MOST_FILE_BYTES.true))
    ]

pub returns-clause-some : goal.returns-clause-some
unfolding number_at
returns-clause-some c =
    let file = c.args.file.now in
    let mark = c.args.mark.now in
    let bytes = c.bytes-bytes.result.now in
    let count = ap length c.bytes-bytes.ensures.value in
    let size : c.read_u32-size.result ≡ size_in file =
    c.read_u32-size.ensures ∙ ap (λ (l : List ℕ). big_number 4 l) (take_rest bytes 14)
    ∙ ap (λ (l : List ℕ). number_at 4 14 l) c.bytes-bytes.ensures.value in
    let first : c.from-first.result ≡ first_in file =
    c.from-first.ensures ∙ c.length.ensures ∙ first_is (map length file.bodies) in
    all_pass mark file (omega (arith, size, c.if-size.false))
    (omega (arith, size, first, c.if-size-first.false))
    (omega (arith, first, c.if-first-mark-gt-MOST_BODY_BYTES.false))
    (omega (arith, count, c.if-bytes-mark-gt-MOST_FILE_BYTES.false))
