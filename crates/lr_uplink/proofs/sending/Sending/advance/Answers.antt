use Rattle.std.proofs.Common.{◌+◌, ap, arith, length, take, add-one}
use Rattle.std.specs.List.{concat}
use Rattle.lr_uplink.proofs.Places.{take_more_of, take_fewer, file_packets_few}
use Rattle.lr_uplink.proofs.sending.Sending.advance.Goals as goal

pub overflow_add-self : goal.overflow_add-self
overflow_add-self c =
    let self = c.args.self.now in
    omega (
      arith,
      self.taken_is,
      take_fewer (self.index + 1) self.file.bodies,
      c.body_size.ensures.file.most,
      c.body_size.ensures.small,
    )

pub invariant_of-self : goal.invariant_of-self
invariant_of-self c =
    let self = c.args.self.now in
    let at = c.in-Some.ensures.packet in
    record {
      count_fits = self.count_fits;
      index_fits = omega (
        arith,
        at.there,
        file_packets_few self.count self.file,
        c.body_size.ensures.file.few,
      );
      taken_is = omega (
        arith,
        self.taken_is,
        c.body_size.ensures.value,
        take_more_of (self.index + 1) self.file.bodies,
        ap (λ k. length (concat (take k self.file.bodies))) (add-one (self.index + 1)),
      );
      within = at.carries.within;
      sent_fits = omega arith;
    }
