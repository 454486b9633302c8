use Rattle.std.proofs.Common.{◌≡◌, ◌∙◌, ap, length, arith}
use Rattle.std.proofs.lemmas.List.{with_items_is}
use Rattle.lr_shelf.proofs.ahead.Ahead.fill.Goals as goal

pub invariant_of-self : goal.invariant_of-self
invariant_of-self g c =
    let buffer = c.args.self.now.buffer in
    let new = c.read_front.new.buffer in
    let same : length new ≡ buffer.len = omega (arith, c.read_front.auto.buffer, c.deref_mut.ensures.len) in
    let long : length new ≡ 65536 =
    omega (arith, c.read_front.auto.buffer, ap length c.deref_mut.ensures.value, c.args.self.now.whole) in
    record {
      whole = ap length (with_items_is buffer new same) ∙ long;
      inside = omega arith;
      page = c.next_size-self.ensures.page;
      fits = c.next_size-self.ensures.fits;
    }

pub invariant_of-self-2 : goal.invariant_of-self-2
invariant_of-self-2 g c =
    let buffer = c.args.self.now.buffer in
    let new = c.read_front.new.buffer in
    let same : length new ≡ buffer.len = omega (arith, c.read_front.auto.buffer, c.deref_mut.ensures.len) in
    let long : length new ≡ 65536 =
    omega (arith, c.read_front.auto.buffer, ap length c.deref_mut.ensures.value, c.args.self.now.whole) in
    record {
      whole = ap length (with_items_is buffer new same) ∙ long;
      inside = c.in_ok-self.ensures.within;
      page = c.next_size-self.ensures.page;
      fits = c.next_size-self.ensures.fits;
    }
