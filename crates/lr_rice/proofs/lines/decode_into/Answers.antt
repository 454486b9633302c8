use Rattle.std.proofs.Common.{◌≡◌, ◌+◌, ◌-◌, ◌*◌, ◌<◌, ◌≤◌, ◌++◌, ℕ, List, length, take, drop, sym, ◌∙◌, subst, arith}
use Rattle.std.proofs.Common.{length-drop}
use Rattle.std.proofs.Math.Nat.{mul-le-mul_left}
use Rattle.std.proofs.lemmas.List.{length-take-le}
use Rattle.std.proofs.lemmas.Slice.{take-put_mid}
use borrow.Rule.Slice.PartMut.{put_mid}
use Rattle.lr_bits.specs.Bits.{bits_of}
use Rattle.lr_rice.specs.CodedLines.{Form, form_of}
use Rattle.lr_rice.specs.LineFaults.{LinesFail}
use Rattle.lr_rice.proofs.ReadingLines.{lines_have_no_fault}
use Rattle.lr_rice.proofs.LinesLemmas.{LinesRead, line_more, line_fails, with_columns, fails_with_columns}
use Rattle.lr_rice.proofs.lines.decode_into.Goals as goal

-- the row of a line
row_size : (columns line lines : ℕ) (out : List ℕ) → line < lines → length out ≡ columns * lines →
    length (take (columns * line + columns - columns * line) (drop (columns * line) out)) ≡ columns
row_size columns line lines out before size =
    let room : columns * (line + 1) ≤ columns * lines = mul-le-mul_left columns (omega arith) in
    length-take-le (columns * line + columns - columns * line) (drop (columns * line) out)
    (omega (arith, length-drop (columns * line) out, room)) ∙ omega arith

fails : (c : goal.After-in_line) → LinesFail (form_of c.args.bits c.args.block c.args.columns) c.args.lines
    (bits_of c.args.coded.now) c.in_line.result
fails c =
    let columns = c.args.columns in
    let line = c.loop-line.line in
    let out = c.loop-line.out in
    let form : Form = form_of c.args.bits c.args.block columns in
    let size = row_size columns line c.args.lines out (omega arith) (c.loop-line.auto.out ∙ c.requires.places) in
    line_fails form c.args.lines line (take (columns * line) out)
    (bits_of c.args.coded.now) c.loop-line.reader c.in-Err.cause c.in_line.result (omega arith) c.loop-line.invariant
    (fails_with_columns c.args.bits c.args.block columns
    (length (take (columns * line + columns - columns * line) (drop (columns * line) out))) c.loop-line.reader
    c.in-Err.cause size c.in-Err.ensures.err)
    c.in_line.ensures

pub returns-in-Err-clause-err : goal.returns-in-Err-clause-err
returns-in-Err-clause-err c = fails c

pub returns-in-Err-clause-exact : goal.returns-in-Err-clause-exact
returns-in-Err-clause-exact c samples begins =
    absurd (lines_have_no_fault (form_of c.args.bits c.args.block c.args.columns)
    (record {
      least_bits = c.requires.bits.0;
      most_bits = c.requires.bits.1;
      least_block = c.requires.block.0;
      most_block = c.requires.block.1;
      even = c.requires.block.2;
      some = c.requires.columns.0;
    })
    c.args.lines samples (bits_of c.args.coded.now) c.in_line.result begins (fails c))

pub loop-line-preserved : goal.loop-line-preserved
loop-line-preserved c =
    let columns = c.args.columns in
    let line = c.loop-line.line in
    let out = c.loop-line.out in
    let new = c.decode_line.new.out in
    let form : Form = form_of c.args.bits c.args.block columns in
    let size = row_size columns line c.args.lines out (omega arith) (c.loop-line.auto.out ∙ c.requires.places) in
    let room : columns * (line + 1) ≤ columns * c.args.lines = mul-le-mul_left columns (omega arith) in
    let long : length new ≡ columns = c.decode_line.auto.out ∙ size in
    let put : take (columns * (line + 1))
    (put_mid (columns * line) (columns * line + columns - columns * line) out new) ≡ take (columns * line) out ++ new =
    take-put_mid (columns * line) (columns * line + columns - columns * line) out new (columns * (line + 1))
    (omega (arith, long)) (omega (arith, room, c.loop-line.auto.out, c.requires.places)) in
    let coding = c.in-Ok.ensures.ok.0 in
    subst (λ l. LinesRead form (line + 1) l (bits_of c.args.coded.now) c.decode_line.new.reader) (sym put)
    (line_more form line (take (columns * line) out)
    (bits_of c.args.coded.now) c.loop-line.reader c.decode_line.new.reader new coding c.loop-line.invariant
    (with_columns c.args.bits c.args.block columns
    (length (take (columns * line + columns - columns * line) (drop (columns * line) out))) new coding size
    c.in-Ok.ensures.ok.1)
    c.in-Ok.ensures.ok.2)
