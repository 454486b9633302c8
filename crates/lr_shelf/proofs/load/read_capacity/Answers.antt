use Rattle.std.proofs.Common.{◌≡◌, take, subst, arith}
use Rattle.lr_shelf.proofs.HeaderReading.{found_there}
use Rattle.lr_shelf.proofs.load.read_capacity.Goals as goal

pub returns-clause-found : goal.returns-clause-found
returns-clause-found g c told =
    let contents = g.D.Disk.contents c.args.disk.now in
    let into = c.read.new.into in
    let count : c.in_ok-count.count ≡ 20 = omega (arith, c.in_ok-count.ensures.within, c.read.auto.into) in
    let same : take 20 into ≡ take 20 contents =
    subst (λ n. take n into ≡ take n contents) count (c.in_ok-count.ensures.bytes told) in
    found_there into contents c.read_header.result same (omega (arith, c.read.auto.into))
    (omega (arith, c.in_ok-count.ensures.count told, c.read.auto.into)) c.read_header.ensures.found
    c.read_header.ensures.none
