use Rattle.std.proofs.Common.{◌≡◌, ◌++◌, ◌/◌, ◌^◌, ℕ, map, ap, sym, ◌∙◌, true}
use Rattle.std.specs.List.{flat_map}
use Rattle.lr_bits.specs.Bits.{number_bits, zeros_and_one}
use Rattle.lr_rice.specs.declared.choice.BlockOption.TheVariants.{Split}
use Rattle.lr_rice.specs.CodedLines.{body_string}
use Rattle.lr_rice.specs.Samples.{plain_part}
use Rattle.lr_rice.proofs.ItemLemmas.{split_by_none, split_is, OnOk_from, OnOk_both}
use Rattle.lr_rice.proofs.values.read_values.Goals as goal

pub returns-then-k-eq0-clause-ok : goal.returns-then-k-eq0-clause-ok
returns-then-k-eq0-clause-ok c =
    let whole = c.args.reader.now in
    let values = c.read_sequences.new.values in
    let rest = c.read_sequences.new.reader in
    let same : c.args.option ≡ Split 0 = c.in-Split.is ∙ ap Split c.if-k-eq0.true in
    OnOk_from c.read_sequences.result (whole ≡ flat_map zeros_and_one values ++ rest)
    (whole ≡ body_string c.args.bits true (plain_part c.args.option values) ++ rest)
    (λ is. is ∙ ap (λ l. l ++ rest) (sym (split_by_none values))
    ∙ ap (λ o. body_string c.args.bits true (plain_part o values) ++ rest) (sym same))
    c.read_sequences.ensures.ok

pub returns-in-Ok-clause-ok : goal.returns-in-Ok-clause-ok
returns-in-Ok-clause-ok c =
    let k = c.in-Split.k in
    let whole = c.args.reader.now in
    let now = c.read_highs.new.reader in
    let highs = c.read_highs.new.values in
    let values = c.read_lows.new.values in
    let rest = c.read_lows.new.reader in
    let Low : Type 0 = now ≡ flat_map (number_bits k) values ++ rest in
    let High : Type 0 = map (λ (v : ℕ). v / 2 ^ k) values ≡ highs in
    OnOk_from c.read_lows.result (Low × High)
    (whole ≡ body_string c.args.bits true (plain_part c.args.option values) ++ rest)
    (λ both. split_is k highs values whole now rest c.in-Ok.ensures.ok both.0 both.1
    ∙ ap (λ o. body_string c.args.bits true (plain_part o values) ++ rest) (sym c.in-Split.is))
    (OnOk_both c.read_lows.result Low High c.read_lows.ensures.ok c.read_lows.ensures.highs)
