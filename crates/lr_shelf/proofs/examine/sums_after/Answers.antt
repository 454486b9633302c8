use Rattle.std.proofs.Common.{rules, ◌≡◌, ◌+◌, ◌-◌, ◌≤◌, Some, List, ℕ, length, sym, ◌∙◌, subst, arith}
use Rattle.lr_shelf.specs.Pieces.{AddUpTo, IsChecksumAt, IsNumberAt, IsTotalAt}
use Rattle.lr_shelf.proofs.Bytes.{fit_item}
use Rattle.lr_shelf.proofs.Records.{adds_from, computed_is, has_body, stored_is}
use Rattle.lr_shelf.proofs.examine.sums_after.Goals as goal

pub returns-in_default-clause-found : goal.returns-in_default-clause-found
returns-in_default-clause-found g c told has =
    let b = g.D.Disk.contents c.args.disk.now in
    let entry = c.args.entry in
    let head = c.args.head in
    let front = c.args.front in
    let none : (total : ℕ) → AddUpTo b (entry.gate + 1 + front) head.packets total → ⊥ =
    subst (IsTotalAt b (entry.gate + 1 + front) head.packets) c.in_default.is (c.in_ok-total.ensures.value told) in
    none head.bytes (adds_from b entry front head has)

pub returns-then-total-from-clause-found : goal.returns-then-total-from-clause-found
returns-then-total-from-clause-found g c told has =
    let b = g.D.Disk.contents c.args.disk.now in
    let entry = c.args.entry in
    let head = c.args.head in
    let front = c.args.front in
    let sums : AddUpTo b (entry.gate + 1 + front) head.packets c.in-Some.total =
    subst (IsTotalAt b (entry.gate + 1 + front) head.packets) c.in-Some.is (c.in_ok-total.ensures.value told) in
    let from : c.from.result ≡ head.bytes = search rules in
    c.if-total-from.true (sums.total_is ∙ sym (adds_from b entry front head has).total_is ∙ sym from)

pub returns-clause-found : goal.returns-clause-found
returns-clause-found g c told =
    let disk = g.D.Disk in
    let b = disk.contents c.args.disk.now in
    let entry = c.args.entry in
    let head = c.args.head in
    let front = c.args.front in
    let item = entry.gate + 1 in
    let size = entry.extent - 2 in
    let sums : AddUpTo b (item + front) head.packets c.in-Some.total =
    subst (IsTotalAt b (item + front) head.packets) c.in-Some.is (c.in_ok-total.ensures.value told) in
    let from : c.from.result ≡ head.bytes = search rules in
    let long : c.from-2.result ≡ entry.extent = search rules in
    let first = c.add_up.ensures.reads in
    let second = c.checksum_of.ensures.reads in
    let told2 = first.tell.told told in
    let same2 = (first.only_read.unwritten told).contents in
    let told3 = second.tell.told told2 in
    let same3 = (second.only_read.unwritten told2).contents ∙ same2 in
    let computed : IsChecksumAt b item size (Some c.in-Some-2.computed) =
    subst (λ (n : ℕ). IsChecksumAt b item (n - 2) (Some c.in-Some-2.computed)) long
    (subst (λ (l : List ℕ). IsChecksumAt l item (c.from-2.result - 2) (Some c.in-Some-2.computed)) same2
    (subst (IsChecksumAt (disk.contents c.add_up.new.disk) item (c.from-2.result - 2)) c.in-Some-2.is
    (c.in_ok-computed.ensures.value told2))) in
    let stored : IsNumberAt b (item + size) (Some c.in-Some-3.stored) =
    subst (λ (n : ℕ). IsNumberAt b (item + (n - 2)) (Some c.in-Some-3.stored)) long
    (subst (λ (l : List ℕ). IsNumberAt l (item + (c.from-2.result - 2)) (Some c.in-Some-3.stored)) same3
    (subst (IsNumberAt (disk.contents c.checksum_of.new.disk) (item + (c.from-2.result - 2))) c.in-Some-3.is
    (c.in_ok-stored.ensures.value told3))) in
    let whole : c.in-Some.total ≡ head.bytes = c.if-total-from.false ∙ from in
    let inside : item + entry.extent ≤ length b = omega (arith, stored.0, c.requires.extent) in (
      has_body b entry front head c.requires.extent
          (subst (AddUpTo b (item + front) head.packets) whole sums) inside,
      record {
        stored = stored_is b entry inside (omega (arith, c.requires.extent)) c.in-Some-3.stored stored;
        computed = computed_is b entry inside c.in-Some-2.computed computed;
        fit = fit_item b entry size (omega (arith, c.requires.extent)) computed.2 stored.2;
      },
    )
