use Rattle.std.proofs.Common.{◌≡◌, ◌⊎◌, get_or, Bool, IsTrue, true, false, not, ◌∷◌, [], take, drop, refl, sym, ap}
use Rattle.std.proofs.Common.{◌∙◌, subst, arith}
use Rattle.std.proofs.lemmas.Slice.Eq.{bytes_eq-Decides}
use Rattle.byteorder.specs.Endian.{big_number}
use Rattle.byteorder.specs.Numbers.{big_from-take}
use Rattle.lr_shelf_format.specs.Header.{header_bytes}
use Rattle.lr_shelf_format.proofs.HeaderLemmas.{capacity_in, take-header_bytes, version_is}
use Rattle.lr_shelf_format.proofs.header.read_header.Goals as goal
use Rattle.lr_shelf_format.proofs.header.read_header.Goals.{
  then-capacity-lt-LEAST_CAPACITY-via-then-capacity-lt-LEAST_CAPACITY,
  then-capacity-lt-LEAST_CAPACITY-via-else-capacity-lt-LEAST_CAPACITY+then-capacity-gt-MOST_CAPACITY,
}

is_true : (b : Bool) → not b ≡ false → b ≡ true
is_true b = elim b as (λ v. not v ≡ false → v ≡ true) [ true ↦ λ e. refl | false ↦ λ e. cc (e) ]

pub returns-then-capacity-lt-LEAST_CAPACITY-clause-none : goal.returns-then-capacity-lt-LEAST_CAPACITY-clause-none
returns-then-capacity-lt-LEAST_CAPACITY-clause-none c capacity has =
    let given : c.read_u64-capacity.result ≡ big_number 8 (take 11 (drop 9 c.args.bytes.now)) =
    c.read_u64-capacity.ensures in
    let read = given ∙ big_from-take 0 8 11 (drop 9 c.args.bytes.now) (omega arith)
    ∙ capacity_in c.args.bytes.now capacity has in
    elim c.then-capacity-lt-LEAST_CAPACITY.branch [
      | then-capacity-lt-LEAST_CAPACITY-via-then-capacity-lt-LEAST_CAPACITY w ↦ omega (arith, read, has.allowed.least)
      | then-capacity-lt-LEAST_CAPACITY-via-else-capacity-lt-LEAST_CAPACITY+then-capacity-gt-MOST_CAPACITY w ↦
          omega (arith, read, has.allowed.most)
    ]

pub returns-then-ne-clause-none : goal.returns-then-ne-clause-none
returns-then-ne-clause-none c capacity has =
    let version = get_or c.args.bytes.now 8 0 in
    let given : c.read_u64-capacity.result ≡ big_number 8 (take 11 (drop 9 c.args.bytes.now)) =
    c.read_u64-capacity.ensures in
    let read = given ∙ big_from-take 0 8 11 (drop 9 c.args.bytes.now) (omega arith)
    ∙ capacity_in c.args.bytes.now capacity has in
    let made : take 19 c.header_of_version-header.result ≡ header_bytes has.version capacity =
    ap (take 19) c.header_of_version-header.ensures ∙ take-header_bytes version c.read_u64-capacity.result (0 ∷ [])
    ∙ ap (header_bytes version) read
    ∙ ap (λ v. header_bytes v capacity) (version_is c.args.bytes.now capacity has) in
    let unequal : c.ne.result ≡ false =
    c.ne.ensures ∙ ap not
    ((bytes_eq-Decides (take 19 c.args.bytes.now) (take 19 c.header_of_version-header.result)).1
    (has.stands ∙ sym made)) in
    cc (unequal, c.if-ne.true)

pub returns-then-not-is_known-clause-none : goal.returns-then-not-is_known-clause-none
returns-then-not-is_known-clause-none c capacity has =
    let version : get_or c.args.bytes.now 8 0 ≡ has.version = version_is c.args.bytes.now capacity has in
    let known : IsTrue c.is_known.result =
    c.is_known.ensures.1 (subst (λ v. (v ≡ 1) ⊎ (v ≡ 2)) (sym version) has.known) in
    cc (known, c.if-not-is_known.true)

pub returns-clause-found : goal.returns-clause-found
returns-clause-found c =
    let version = get_or c.args.bytes.now 8 0 in
    let same = (bytes_eq-Decides (take 19 c.args.bytes.now) (take 19 c.header_of_version-header.result)).0
    (is_true _ (sym c.ne.ensures ∙ c.if-ne.false)) in
    record {
      version = version;
      known = c.is_known.ensures.0 c.if-not-is_known.false;
      allowed = record { least = omega arith; most = omega arith };
      whole = omega arith;
      stands = same ∙ ap (take 19) c.header_of_version-header.ensures
          ∙ take-header_bytes version c.read_u64-capacity.result (0 ∷ []);
    }
