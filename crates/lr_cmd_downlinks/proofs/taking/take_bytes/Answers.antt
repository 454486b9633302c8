use Rattle.std.proofs.Common.{◌≡◌, ◌≤◌, ◌+◌, ℕ, Result, length, length-append, take, subst, sym, ap, ◌∙◌, List}
use Rattle.std.proofs.Common.{◌++◌, arith, rules}
use Rattle.std.proofs.lemmas.List.{length-take-le, take-append-le}
use Rattle.lr_bits.specs.declared.refusals.Failed.{Failed}
use Rattle.lr_bits.specs.declared.sizes.TheConstants.{FRAME_SYMBOLS}
use Rattle.lr_downlinks.specs.declared.sizes.TheConstants.{MOST_BUNDLE_BYTES}
use Rattle.lr_reading.specs.Reading.{HasGiven}
use Rattle.lr_cmd_downlinks.proofs.Taken.{HasTaken, took_more, wants_more, always_refused}
use Rattle.lr_cmd_downlinks.proofs.taking.take_bytes.Goals as goal

pub returns-in_err-extend-in-Ok-clause-refused : goal.returns-in_err-extend-in-Ok-clause-refused
returns-in_err-extend-in-Ok-clause-refused g c =
    let bytes = c.pieces.bytes in
    let piece = take c.in-Ok.count c.take.new.into in
    let size : length piece ≡ c.in-Ok.count = length-take-le c.in-Ok.count c.take.new.into c.in-Ok.ensures.within in
    let room : c.pieces.size + c.in-Ok.count ≤ (MOST_BUNDLE_BYTES + 1) = search (rules, arith) in
    let within : c.in-Ok.count ≤ FRAME_SYMBOLS = search (rules, arith) in
    always_refused c.from_residual.result
    (wants_more g.S.Source bytes piece c.args.source.now c.pieces.source c.take.new.self c.pieces.invariant.so_far
    c.take.ensures.tell.told c.take.ensures.tell.untold c.take.result c.take.ensures.asked
    (subst (λ (r : Result ℕ Failed). HasGiven r piece) (sym c.in-Ok.is) size) c.in-Ok.ensures.moved
    (search (rules, arith)) (search (rules, arith)) (omega (arith, size, within))
    (omega (arith, length-append bytes piece, size, room, c.pieces.invariant.size)))

pub pieces-preserved : goal.pieces-preserved
pieces-preserved g c =
    let bytes = c.pieces.bytes in
    let piece = take c.in-Ok.count c.take.new.into in
    let size : length piece ≡ c.in-Ok.count = length-take-le c.in-Ok.count c.take.new.into c.in-Ok.ensures.within in
    let within : c.in-Ok.count ≤ FRAME_SYMBOLS = search (rules, arith) in
    let grown : c.extend.new.self ≡ bytes ++ piece = c.in_ok-extend-in-Ok.ensures.ok
    ∙ ap (λ (l : List ℕ). bytes ++ l) (take-append-le c.in-Ok.count c.take.new.into _ c.in-Ok.ensures.within) in
    record {
      so_far = subst (λ (l : List ℕ). HasTaken g.S.Source l c.args.source.now c.take.new.self) (sym grown)
          (took_more g.S.Source bytes piece c.args.source.now c.pieces.source c.take.new.self
          c.pieces.invariant.so_far c.take.ensures.tell.told c.take.ensures.tell.untold c.take.result
          c.take.ensures.asked
          (subst (λ (r : Result ℕ Failed). HasGiven r piece) (sym c.in-Ok.is) size) c.in-Ok.ensures.moved
          (search (rules, arith)) (search (rules, arith)) (omega (arith, size, within)));
      size = omega (
        arith,
        ap (λ (l : List ℕ). length l) grown,
        length-append bytes piece,
        size,
        c.pieces.invariant.size,
      );
      few = search (rules, arith);
    }

pub returns-in-Err-clause-taken : goal.returns-in-Err-clause-taken
returns-in-Err-clause-taken g c = search (rules, arith)

pub returns-clause-taken : goal.returns-clause-taken
returns-clause-taken g c = search (rules, arith)
