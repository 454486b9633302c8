use Rattle.std.proofs.Common.{◌<◌, ◌∙◌, arith, rules}
use Rattle.std.proofs.lemmas.List.{take_rest}
use Rattle.lr_bits.proofs.Telling.{tells_both}
use Rattle.lr_disk.proofs.Pieces.{WrittenSoFar, elapsed_on, follows_on, torn_now, written_on}
use Rattle.lr_disk.proofs.file.write_whole.Goals as goal

pub returns-in_err-count-clause-torn : goal.returns-in_err-count-clause-torn
returns-in_err-count-clause-torn g c tells =
    let kept = c.loop-done.invariant in
    torn_now c.args.at c.loop-done.done c.args.bytes.now _ (g.F.RandomAccessFile.contents c.args.file.now)
    (g.F.RandomAccessFile.contents c.loop-done.file) kept.within
    (take_rest c.args.bytes.now c.loop-done.done) (record { none = kept.none tells; some = kept.some tells })
    (g.F.RandomAccessFile.contents c.write_at.new.self)
    (c.write_at.ensures.torn (kept.tell.told tells))

pub returns-in_err-count-clause-crash : goal.returns-in_err-count-clause-crash
returns-in_err-count-clause-crash g c tells =
    let kept = c.loop-done.invariant in
    follows_on c.args.at c.loop-done.done c.args.bytes.now _ (g.F.RandomAccessFile.contents c.args.file.now)
    (g.F.RandomAccessFile.contents c.loop-done.file) kept.within
    (take_rest c.args.bytes.now c.loop-done.done) (record { none = kept.none tells; some = kept.some tells })
    (g.F.RandomAccessFile.may_leave c.args.file.now) (g.F.RandomAccessFile.may_leave c.loop-done.file)
    (g.F.RandomAccessFile.may_leave c.write_at.new.self) (kept.crash tells)
    (c.write_at.ensures.crash (kept.tell.told tells))

pub returns-then-count-eq0-clause-torn : goal.returns-then-count-eq0-clause-torn
returns-then-count-eq0-clause-torn g c tells =
    let kept = c.loop-done.invariant in
    torn_now c.args.at c.loop-done.done c.args.bytes.now _ (g.F.RandomAccessFile.contents c.args.file.now)
    (g.F.RandomAccessFile.contents c.loop-done.file) kept.within
    (take_rest c.args.bytes.now c.loop-done.done) (record { none = kept.none tells; some = kept.some tells })
    (g.F.RandomAccessFile.contents c.write_at.new.self)
    (c.write_at.ensures.torn (kept.tell.told tells))

pub returns-then-count-eq0-clause-crash : goal.returns-then-count-eq0-clause-crash
returns-then-count-eq0-clause-crash g c tells =
    let kept = c.loop-done.invariant in
    follows_on c.args.at c.loop-done.done c.args.bytes.now _ (g.F.RandomAccessFile.contents c.args.file.now)
    (g.F.RandomAccessFile.contents c.loop-done.file) kept.within
    (take_rest c.args.bytes.now c.loop-done.done) (record { none = kept.none tells; some = kept.some tells })
    (g.F.RandomAccessFile.may_leave c.args.file.now) (g.F.RandomAccessFile.may_leave c.loop-done.file)
    (g.F.RandomAccessFile.may_leave c.write_at.new.self) (kept.crash tells)
    (c.write_at.ensures.crash (kept.tell.told tells))

pub loop-done-preserved : goal.loop-done-preserved
loop-done-preserved g c =
    let file = g.F.RandomAccessFile in
    let old = c.args.file.now in
    let mid = c.loop-done.file in
    let kept = c.loop-done.invariant in
    let call = c.in_ok-count.ensures in
    let more : 0 < c.in_ok-count.count = search rules in
    let so_far : file.tells old
    → WrittenSoFar c.args.at c.loop-done.done c.args.bytes.now (file.contents old) (file.contents mid) =
    λ tells. record { none = kept.none tells; some = kept.some tells } in
    let rest_is = take_rest c.args.bytes.now c.loop-done.done in
    record {
      within = search rules;
      tell = tells_both kept.tell call.tell;
      errors = λ tells. (call.errors (kept.tell.told tells)).none more ∙ kept.errors tells;
      none = λ tells no. absurd (omega arith);
      some = λ tells some.
          written_on c.args.at c.loop-done.done c.args.bytes.now _ (file.contents old) (file.contents mid) kept.within
          rest_is (so_far tells) c.in_ok-count.count (file.contents c.write_at.new.self)
          (call.written (kept.tell.told tells) more);
      crash = λ tells. follows_on c.args.at c.loop-done.done c.args.bytes.now _ (file.contents old) (file.contents mid)
          kept.within rest_is (so_far tells) (file.may_leave old) (file.may_leave mid)
          (file.may_leave c.write_at.new.self)
          (kept.crash tells) (call.crash (kept.tell.told tells));
      kept = λ tells f image. call.kept (kept.tell.told tells) f (kept.kept tells f image);
      time = λ tells. elapsed_on (file.left_since old) (file.left_since mid) (file.left_since c.write_at.new.self)
          (file.may_leave mid) (file.may_leave c.write_at.new.self) (kept.time tells) (call.time (kept.tell.told tells))
          (call.kept (kept.tell.told tells));
    }
