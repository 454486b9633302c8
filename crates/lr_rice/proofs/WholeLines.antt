-- How many samples coded lines have, and how great these are.
use Rattle.std.proofs.Common.{◌≡◌, ◌≤◌, ◌+◌, ◌*◌, ℕ, zero, suc, List, [], ◌∷◌, length, All, refl, sym, ap, ◌∙◌, subst}
use Rattle.std.proofs.Common.{arith, length-append}
use Rattle.std.proofs.lemmas.List.{length-take-le}
use Rattle.std.proofs.lemmas.List.Elements.{All-append, All-take}
use Rattle.lr_rice.specs.CodedLines.{Form, HaveValues, IsLine, block_count, greatest, values_from}
use Rattle.lr_rice.specs.Laws.{AreSamples, IsForm, LinesAreWhole}
use Rattle.lr_rice.proofs.LineLemmas.{places_from, places-length, places-values}

HaveValues-length : (most p : ℕ) (values samples : List ℕ) → HaveValues most p values samples
    → length samples ≡ length values
HaveValues-length most p [] [] have = refl
HaveValues-length most p [] (sample ∷ samples) have = absurd have
HaveValues-length most p (value ∷ values) [] have = absurd have
HaveValues-length most p (value ∷ values) (sample ∷ samples) have =
    ap suc (HaveValues-length most sample values samples have.1.1)

HaveValues-small : (most p : ℕ) (values samples : List ℕ) → HaveValues most p values samples
    → All (λ sample. sample ≤ most) samples
HaveValues-small most p [] [] have k d inside = absurd (omega arith)
HaveValues-small most p [] (sample ∷ samples) have k d inside = absurd have
HaveValues-small most p (value ∷ values) [] have k d inside = absurd have
HaveValues-small most p (value ∷ values) (sample ∷ samples) have zero d inside = have.0
HaveValues-small most p (value ∷ values) (sample ∷ samples) have (suc k) d inside =
    HaveValues-small most sample values samples have.1.1 k d (omega arith)

-- the blocks of a line have at least its columns
enough_blocks : (form : Form) → 1 ≤ form.block → form.columns ≤ block_count form * form.block
enough_blocks form wide = omega arith

some_blocks : (form : Form) → 1 ≤ form.block → 1 ≤ form.columns → 1 ≤ block_count form
some_blocks form wide some = from (block_count form) (enough_blocks form wide)
  where
    from : (n : ℕ) → form.columns ≤ n * form.block → 1 ≤ n
    from zero h = absurd (omega arith)
    from (suc n) h = omega arith

line-length : (form : Form) (samples string : List ℕ) → IsForm form → IsLine form samples string
    → length samples ≡ form.columns
line-length form samples string is line =
    let block : 1 ≤ form.block = omega (arith, is.least_block) in
    let parts = line.codes.parts in
    let blocks = some_blocks form block is.some in
    let all : length (places_from form 0 parts) + 0 * form.block ≡ block_count form * form.block =
    places-length form 0 parts (block_count form) block line.codes.follow in
    let values : length (places_from form 0 parts) ≡ suc (length (values_from form 0 parts)) =
    ap length (places-values form parts (block_count form) blocks line.codes.follow) in
    let others : length line.others ≡ length (values_from form 0 parts) =
    HaveValues-length (greatest form.bits) line.reference line.values line.others line.have_values
    ∙ ap length line.codes.are_values in
    let enough = enough_blocks form block in
    ap length line.are_samples ∙ length-take-le form.columns (line.reference ∷ line.others) (omega arith)

with_reference : (most reference : ℕ) (others : List ℕ) → reference ≤ most → All (λ sample. sample ≤ most) others
    → All (λ sample. sample ≤ most) (reference ∷ others)
with_reference most reference others first rest zero d inside = first
with_reference most reference others first rest (suc k) d inside = rest k d (omega arith)

line-small : (form : Form) (samples string : List ℕ) → IsLine form samples string
    → All (λ sample. sample ≤ greatest form.bits) samples
line-small form samples string line =
    let P : ℕ → Type 0 = λ sample. sample ≤ greatest form.bits in
    let others = HaveValues-small (greatest form.bits) line.reference line.values line.others line.have_values in
    subst (λ (l : List ℕ). All P l) (sym line.are_samples) (All-take P form.columns (line.reference ∷ line.others)
    (with_reference (greatest form.bits) line.reference line.others line.in_range others))

no_samples : (form : Form) (samples : List ℕ) → samples ≡ [] → AreSamples form 0 samples
no_samples form samples is = let size : length samples ≡ 0 = ap length is in record {
  whole = omega arith;
  small = λ k d inside. absurd (omega arith);
}

pub lines_are_whole : LinesAreWhole
lines_are_whole form is zero samples coding lines = no_samples form samples lines.0
lines_are_whole form is (suc n) samples coding lines =
    let one = line-length form lines.line lines.front is lines.is_line in
    let more = lines_are_whole form is n lines.others lines.back lines.are_others in
    let both = length-append lines.line lines.others in
    let size : length samples ≡ length lines.line + length lines.others = ap length lines.are_samples ∙ both in
    let many = more.whole in
    let P : ℕ → Type 0 = λ sample. sample ≤ greatest form.bits in record {
      whole = omega arith;
      small = subst (λ (l : List ℕ). All P l) (sym lines.are_samples)
          (All-append P lines.line lines.others (line-small form lines.line lines.front lines.is_line) more.small);
    }
