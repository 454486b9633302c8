use Rattle.std.proofs.Common.{rules, ◌≡◌, ℕ, take, drop, subst, arith}
use Rattle.lr_shelf.proofs.Bytes.{fit_piece}
use Rattle.lr_shelf.proofs.pieces.number_at.Goals as goal

pub returns-clause-value : goal.returns-clause-value
returns-clause-value g c told =
    let read = c.in_ok-read_front.ensures in
    let there = drop c.args.at (g.D.Disk.contents c.args.disk.now) in
    let count : c.in_ok-read_front.field-0 ≡ 2 = omega (arith, read.within, c.if-branch-lt-CHECKSUM_BYTES.false) in
    let same : take 2 c.read_front.new.buffer ≡ take 2 there =
    subst (λ (n : ℕ). take n c.read_front.new.buffer ≡ take n there) count (read.bytes told) in (
      search (rules, arith),
      search (rules, arith),
      fit_piece 2 c.read_front.new.buffer (take 2 there) read.fit same,
    )
