use Rattle.std.proofs.Common.{arith, ◌≡◌, ◌+◌, ◌-◌, length, rules, ◌∙◌, ap, ℕ}
use Rattle.lr_bits.proofs.Telling.{tells_both}
use Rattle.lr_disk.specs.Disk.{bytes_at}
use Rattle.std.proofs.lemmas.Grind.{common_steps}
use Rattle.lr_disk.proofs.Pieces.{elapsed_on, read_on}
use Rattle.lr_disk.proofs.file.fill.Goals as goal

pub loop-filled-preserved : goal.loop-filled-preserved
loop-filled-preserved g c =
    let file = g.F.RandomAccessFile in
    let old = c.args.file.now in
    let kept = c.loop-filled.invariant in
    let read = c.in_ok-count.ensures in
    let size : length c.read_at.new.into ≡ length c.loop-filled.into - c.loop-filled.filled = search rules in
    let place : c.in_ok-place.place ≡ c.args.at + c.loop-filled.filled = search rules in
    record {
      within = search rules;
      tell = tells_both kept.tell read.tell;
      errors = λ tells. (read.errors (kept.tell.told tells)).none ∙ kept.errors tells;
      low = λ tells. omega (arith, read.low (kept.tell.told tells), place);
      bytes = λ tells. read_on c.args.at c.loop-filled.filled c.in_ok-count.count
          (length c.loop-filled.into - c.loop-filled.filled)
          c.loop-filled.into c.read_at.new.into (file.contents old) kept.within size read.within (kept.bytes tells)
          (read.bytes (kept.tell.told tells) ∙ ap (bytes_at c.in_ok-place.place c.in_ok-count.count)
          (kept.contents tells)
          ∙ ap (λ (k : ℕ). bytes_at k c.in_ok-count.count (file.contents old)) place);
      contents = λ tells. read.contents (kept.tell.told tells) ∙ kept.contents tells;
      crash = λ tells f. (
        λ image. (kept.crash tells f).0 ((read.crash (kept.tell.told tells) f).0 image),
        λ image. (read.crash (kept.tell.told tells) f).1 ((kept.crash tells f).1 image),
      );
      time = λ tells. elapsed_on (file.left_since old) (file.left_since c.loop-filled.file)
          (file.left_since c.read_at.new.self)
          (file.may_leave c.loop-filled.file) (file.may_leave c.read_at.new.self) (kept.time tells)
          (read.time (kept.tell.told tells))
          (λ f image. (read.crash (kept.tell.told tells) f).1 image);
    }

pub returns-then-count-eq0-clause-count : goal.returns-then-count-eq0-clause-count
returns-then-count-eq0-clause-count g c = grind (arith, common_steps)
