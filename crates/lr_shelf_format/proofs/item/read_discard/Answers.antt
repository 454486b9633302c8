use Rattle.std.proofs.Common.{◌≡◌, Bool, true, false, not, [], ◌∷◌, take, drop, refl, sym, ap, ◌∙◌, arith}
use Rattle.std.proofs.lemmas.List.{take_at}
use Rattle.std.proofs.lemmas.Slice.Eq.{bytes_eq-Decides}
use Rattle.byteorder.specs.Endian.{big_number}
use Rattle.byteorder.specs.Numbers.{big_from-take}
use Rattle.lr_shelf_format.specs.Items.{discard_bytes}
use Rattle.lr_shelf_format.proofs.ItemLemmas.{begun_discard, length-discard_bytes}
use Rattle.lr_shelf_format.proofs.item.read_discard.Goals as goal

is_true : (b : Bool) → not b ≡ false → b ≡ true
is_true b = elim b as (λ v. not v ≡ false → v ≡ true) [ true ↦ λ e. refl | false ↦ λ e. cc (e) ]

pub returns-then-ne-clause-none : goal.returns-then-ne-clause-none
returns-then-ne-clause-none c head begins =
    let given : c.read_u64-number.result ≡ big_number 8 (take 11 (drop 1 c.args.bytes.now)) =
    c.read_u64-number.ensures in
    let read : c.read_u64-number.result ≡ big_number 8 (drop 1 c.args.bytes.now) = given
    ∙ big_from-take 0 8 11 (drop 1 c.args.bytes.now) (omega arith) in
    let made : take 11 c.discard_of-item.result ≡ discard_bytes (big_number 8 (drop 1 c.args.bytes.now)) =
    ap (take 11) c.discard_of-item.ensures
    ∙ take_at (discard_bytes c.read_u64-number.result) (0 ∷ []) 11
    (length-discard_bytes c.read_u64-number.result) ∙ ap discard_bytes read in
    let unequal : c.ne.result ≡ false =
    c.ne.ensures ∙ ap not
    ((bytes_eq-Decides (take 11 c.args.bytes.now) (take 11 c.discard_of-item.result)).1
    (begun_discard c.args.bytes.now head begins c.requires ∙ sym made)) in
    cc (unequal, c.if-ne.true)

pub returns-clause-found : goal.returns-clause-found
returns-clause-found c =
    let same = (bytes_eq-Decides (take 11 c.args.bytes.now) (take 11 c.discard_of-item.result)).0
    (is_true _ (sym c.ne.ensures ∙ c.if-ne.false)) in (
      omega arith,
      same ∙ ap (take 11) c.discard_of-item.ensures
          ∙ take_at (discard_bytes c.read_u64-number.result) (0 ∷ []) 11
          (length-discard_bytes c.read_u64-number.result),
    )
