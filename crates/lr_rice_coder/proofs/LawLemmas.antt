-- The shortest string codes the line, and is read as it.
use Rattle.std.proofs.Common.{◌≡◌, ℕ, suc, ◌+◌, ◌-◌, ◌*◌, ◌%◌, ◌<◌, ◌≤◌, List, [], ◌∷◌, ◌++◌, length, get_or, take}
use Rattle.std.proofs.Common.{drop, replicate, refl, sym, ap, ◌∙◌, subst, arith, inl, inr, All, length-append}
use Rattle.std.proofs.lemmas.List.{append-nil, drop_at, take_at, get_or-drop, length-replicate}
use Rattle.lr_bits.specs.Bits.{bits_of, number_bits}
use Rattle.lr_bits.proofs.BitsLemmas.{length-bits_of}
use Rattle.lr_bits.proofs.ReaderLemmas.{bits_of-cons, get_or-number_bits, length-number_bits}
use Rattle.std.specs.Int.{bit_at}
use Rattle.std.proofs.lemmas.Nat.Bits.{same_from_bits_below}
use Rattle.std.proofs.lemmas.Nat.{pow_pos}
use Rattle.lr_rice.specs.CodedLines.{AreLines, Codes, Form, IsLine, block_count, greatest, mapped_value}
use Rattle.lr_rice.specs.Laws.{IsForm}
use Rattle.lr_rice.specs.Samples.{samples_from, sample_after}
use Rattle.lr_rice.proofs.LineLemmas.{block_count-pos, places-values}
use Rattle.lr_rice.proofs.ReadingLines.{lines_are_one}
use Rattle.lr_rice.proofs.SampleLemmas.{HaveValues-samples_from, sample_of-mapped_value, samples_from-append}
use Rattle.lr_rice.proofs.SampleLemmas.{samples_from-cons}
use Rattle.lr_rice_coder.specs.Coded.{IsCodable}
use Rattle.lr_rice_coder.specs.Laws.{CodedIsDecoded, CodedLinesAreOne, DecodingGivesTheLine, FillingsAreWhole, IsRow}
use Rattle.lr_rice_coder.specs.Laws.{ShortestCodesLine, line_values}
use Rattle.lr_rice_coder.specs.Shortest.{line_places, mapped_from, parts_from, places_past, shortest_string}
use Rattle.lr_rice_coder.specs.Writing.{ArePlaces}
use Rattle.lr_rice_coder.proofs.CodingLemmas.{parts-follow}
use Rattle.lr_rice_coder.proofs.PartLemmas.{first_place, length-line_places, line_places-small}

pub block-wide : (form : Form) → IsCodable form → 8 ≤ form.block
block-wide form is = elim is.block [
  | inl e ↦ omega (arith, e)
  | inr f ↦ elim f [ inl e ↦ omega (arith, e) | inr g ↦ elim g [ inl e ↦ omega (arith, e) | inr e ↦ omega (arith, e) ] ]
]

pub block-most : (form : Form) → IsCodable form → form.block ≤ 64
block-most form is = elim is.block [
  | inl e ↦ omega (arith, e)
  | inr f ↦ elim f [ inl e ↦ omega (arith, e) | inr g ↦ elim g [ inl e ↦ omega (arith, e) | inr e ↦ omega (arith, e) ] ]
]

pub block-even : (form : Form) → IsCodable form → form.block % 2 ≡ 0
block-even form is = elim is.block [
  | inl e ↦ omega (arith, e)
  | inr f ↦ elim f [ inl e ↦ omega (arith, e) | inr g ↦ elim g [ inl e ↦ omega (arith, e) | inr e ↦ omega (arith, e) ] ]
]

row-small : (form : Form) (samples : List ℕ) → IsRow form samples → (k : ℕ) → k < length samples
    → get_or samples k 0 ≤ greatest form.bits
row-small form samples row k inside = omega (arith, row.small k 0 inside, pow_pos form.bits)

pub row_places : (form : Form) (reference : ℕ) (samples : List ℕ) → IsRow form (reference ∷ samples)
    → ArePlaces form (line_places form (reference ∷ samples))
row_places form reference samples row =
    let wide = block-wide form row.codable in
    record {
      wide = omega (arith, wide);
      size = length-line_places form (reference ∷ samples) (omega arith) row.columns (omega (arith, wide));
      small = line_places-small form (reference ∷ samples) (row-small form (reference ∷ samples) row);
      clear = first_place form (reference ∷ samples);
    }

samples_from-nil : (most p : ℕ) → samples_from most p [] ≡ []
unfolding samples_from
samples_from-nil most p = refl

-- the same of any row
pub places_are : (form : Form) (samples places : List ℕ) → IsRow form samples → 1 ≤ length samples
    → places ≡ line_places form samples → ArePlaces form places
places_are form [] places row some is = absurd (omega arith)
places_are form (reference ∷ samples) places row some is =
    subst (ArePlaces form) (sym is) (row_places form reference samples row)

-- mapped values lead back to their samples
samples_from-mapped : (most p : ℕ) (samples : List ℕ) → p ≤ most
    → ((k : ℕ) → k < length samples → get_or samples k 0 ≤ most)
    → samples_from most p (mapped_from most p samples) ≡ samples
samples_from-mapped most p [] in_range small = samples_from-nil most p
samples_from-mapped most p (sample ∷ samples) in_range small =
    let here = sample_of-mapped_value most p sample in_range (small 0 (omega arith)) in
    samples_from-cons most p (mapped_value most p sample) (mapped_from most sample samples)
    ∙ ap (λ s. s ∷ samples_from most s (mapped_from most sample samples)) here
    ∙ ap (λ l. sample ∷ l) (samples_from-mapped most sample samples (small 0 (omega arith))
    (λ k inside. small (suc k) (omega arith)))

pub shortest_codes : (form : Form) (reference : ℕ) (samples : List ℕ) → IsRow form (reference ∷ samples) →
    Codes form reference (line_values form (reference ∷ samples)) (shortest_string form (reference ∷ samples))
shortest_codes form reference samples row =
    let all = line_places form (reference ∷ samples) in
    let are = row_places form reference samples row in
    let wide = block-wide form row.codable in
    let parts = parts_from form all (block_count form) 0 in
    let both = parts-follow form all (block_count form) 0 are (omega arith) (omega arith) in
    let some = block_count-pos form (omega (arith, wide)) (omega (arith, row.columns)) in
    let none : 0 * form.block ≡ 0 = omega arith in
    let start : drop (0 * form.block) all ≡ all = ap (λ (k : ℕ). drop k all) none in
    record {
      parts = parts;
      follow = both.0;
      are_values = ap (drop 1) (sym start ∙ sym both.1 ∙ places-values form parts (block_count form) some both.0);
      is_string = refl;
    }

pub shortest_codes_line : ShortestCodesLine
shortest_codes_line form reference samples row =
    let most = greatest form.bits in
    let codes = shortest_codes form reference samples row in
    let values = line_values form (reference ∷ samples) in
    let all = line_places form (reference ∷ samples) in
    let are = row_places form reference samples row in
    let small = row-small form (reference ∷ samples) row in
    let mapped = mapped_from most reference samples in
    let zeros : List ℕ = replicate (places_past form) 0 in
    let more = samples_from most (sample_after most reference mapped) zeros in
    let behind : samples_from most reference values ≡ samples ++ more =
    samples_from-append most reference mapped zeros
    ∙ ap (λ l. l ++ more) (samples_from-mapped most reference samples (small 0 (omega arith))
    (λ k inside. small (suc k) (omega arith))) in
    record {
      codes = codes;
      line = record {
        reference = reference;
        in_range = small 0 (omega arith);
        values = values;
        codes = codes;
        others = samples_from most reference values;
        have_values = HaveValues-samples_from most reference values (small 0 (omega arith))
            (λ k inside. subst (λ v. v ≤ most) (sym (get_or-drop 1 all k 0)) (are.small (1 + k)));
        are_samples = sym (ap (λ l. take form.columns (reference ∷ l)) behind
            ∙ take_at (reference ∷ samples) more form.columns (sym row.columns));
      };
    }

one_line : (form : Form) (samples string : List ℕ) → IsLine form samples string → AreLines form 1 samples string
one_line form samples string line = record {
  line = samples;
  front = string;
  is_line = line;
  others = [];
  back = [];
  are_others = (refl, refl);
  are_samples = sym (append-nil samples);
  is_string = sym (append-nil string);
}

pub coded_is_decoded : CodedIsDecoded
coded_is_decoded form reference samples bytes row fills =
    let string = shortest_string form (reference ∷ samples) in
    record {
      coding = string;
      rest = replicate fills.zeros 0;
      lines = one_line form (reference ∷ samples) string (shortest_codes_line form reference samples row).line;
      is_string = fills.whole;
    }

form_is : (form : Form) (samples : List ℕ) → IsRow form samples → 1 ≤ length samples → IsForm form
form_is form samples row some =
    let wide = block-wide form row.codable in
    record {
      least_bits = row.codable.least_bits;
      most_bits = row.codable.most_bits;
      least_block = omega (arith, wide);
      most_block = block-most form row.codable;
      even = block-even form row.codable;
      some = omega (arith, row.columns, some);
    }

pub decoding_gives_the_line : DecodingGivesTheLine
decoding_gives_the_line form reference samples bytes old new row fills grows =
    let mine = coded_is_decoded form reference samples bytes row fills in
    let both = lines_are_one form (form_is form (reference ∷ samples) row (omega arith)) 1 grows.samples
    (reference ∷ samples) grows.begins.coding mine.coding grows.begins.rest mine.rest grows.begins.lines mine.lines
    (sym grows.begins.is_string ∙ mine.is_string) in
    grows.grown ∙ ap (λ l. old ++ l) both.0

-- ---- fillings

pub fillings_are_whole : FillingsAreWhole
fillings_are_whole string bytes fills =
    omega (
      arith,
      ap length fills.whole,
      length-append string (replicate fills.zeros 0),
      length-replicate {A = ℕ} fills.zeros 0,
      length-bits_of bytes,
      fills.few,
    )

same_byte : (a b : ℕ) → a < 256 → b < 256 → number_bits 8 a ≡ number_bits 8 b → a ≡ b
same_byte a b fa fb same =
    same_from_bits_below 8 a b fa fb (λ i inside.
    let place : 8 - 1 - (7 - i) ≡ i = omega arith in
    ap (λ (k : ℕ). bit_at a k) (sym place) ∙ sym (get_or-number_bits 8 a (7 - i) (omega arith))
    ∙ ap (λ bits. get_or bits (7 - i) 0) same ∙ get_or-number_bits 8 b (7 - i) (omega arith)
    ∙ ap (λ (k : ℕ). bit_at b k) place)

same_bytes : (bytes others : List ℕ) → All (λ byte. byte < 256) bytes → All (λ byte. byte < 256) others
    → bits_of bytes ≡ bits_of others → bytes ≡ others
same_bytes [] [] small also same = refl
same_bytes [] (b ∷ others) small also same =
    absurd (omega (arith, ap length same, length-bits_of [], length-bits_of (b ∷ others)))
same_bytes (a ∷ bytes) [] small also same =
    absurd (omega (arith, ap length same, length-bits_of [], length-bits_of (a ∷ bytes)))
same_bytes (a ∷ bytes) (b ∷ others) small also same =
    let split : number_bits 8 a ++ bits_of bytes ≡ number_bits 8 b ++ bits_of others =
    sym (bits_of-cons a bytes) ∙ same ∙ bits_of-cons b others in
    let first : number_bits 8 a ≡ number_bits 8 b =
    sym (take_at (number_bits 8 a) (bits_of bytes) 8 (length-number_bits 8 a)) ∙ ap (take 8) split
    ∙ take_at (number_bits 8 b) (bits_of others) 8 (length-number_bits 8 b) in
    let rest : bits_of bytes ≡ bits_of others =
    sym (drop_at (number_bits 8 a) (bits_of bytes) 8 (length-number_bits 8 a)) ∙ ap (drop 8) split
    ∙ drop_at (number_bits 8 b) (bits_of others) 8 (length-number_bits 8 b) in
    ap (λ x. x ∷ bytes) (same_byte a b (small 0 0 (omega arith)) (also 0 0 (omega arith)) first)
    ∙ ap (λ l. b ∷ l) (same_bytes bytes others (λ k d inside. small (suc k) d (omega arith))
    (λ k d inside. also (suc k) d (omega arith)) rest)

pub coded_lines_are_one : CodedLinesAreOne
coded_lines_are_one form samples bytes other one two =
    let string = shortest_string form samples in
    let fills = one.fills in
    let also = two.fills in
    let whole = fillings_are_whole string bytes fills in
    let size = fillings_are_whole string other also in
    let zeros : fills.zeros ≡ also.zeros =
    omega (
      arith,
      ap length fills.whole,
      length-append string (replicate fills.zeros 0),
      length-replicate {A = ℕ} fills.zeros 0,
      length-bits_of bytes,
      ap length also.whole,
      length-append string (replicate also.zeros 0),
      length-replicate {A = ℕ} also.zeros 0,
      length-bits_of other,
    ) in
    same_bytes bytes other one.small two.small
    (fills.whole ∙ ap (λ n. string ++ replicate n 0) zeros ∙ sym also.whole)
