-- Each string of bits begins with a part of a line, or has a first fault.
use Rattle.std.proofs.Common.{◌≡◌, ◌⊎◌, ℕ, zero, suc, ◌/◌, ◌%◌, ◌≤◌, Bool, true, false, List, []}
use Rattle.std.proofs.Common.{◌∷◌, ◌++◌, length, refl, sym, ap, ◌∙◌, subst, arith, inl, inr}
use Rattle.std.proofs.lemmas.Bool.{cases_lt}
use Rattle.std.proofs.lemmas.List.{append_assoc, append-nil, get_or_default}
use Rattle.lr_bits.specs.Bits.{number_bits}
use Rattle.lr_rice.specs.declared.choice.BlockOption.{BlockOption}
use Rattle.lr_rice.specs.declared.choice.BlockOption.TheVariants.{ZeroBlock, SecondExtension, Split, Uncoded}
use Rattle.lr_rice.specs.declared.fault.Cause.{Cause}
use Rattle.lr_rice.specs.declared.fault.Cause.TheVariants.{Ended, RunPastSegment}
use Rattle.lr_rice.specs.CodedLines.{BlockSite, IsOption, IsPart, Part}
use Rattle.lr_rice.specs.CodedLines.{Zeros, Pairs, Halves, Numbers, body_string, greatest, head_string}
use Rattle.lr_rice.specs.CodedLines.{identifier, option_of, pairs_string, part_string}
use Rattle.lr_rice.specs.CodedLines.{places, run_of}
use Rattle.lr_rice.specs.LineFaults.{BodyFails}
use Rattle.lr_rice.specs.LineFaults.{PartFails}
use Rattle.lr_rice.proofs.ItemLemmas.{split_by_none}
use Rattle.lr_rice.proofs.EachItem.{AreBits, Tested, bits_after, fulls, named, number, pairs, sequence, sequences}
use Rattle.lr_rice.proofs.EachItem.{splits, true_false}

-- ---- what stands after a head

-- a part in this option, or why there is none
abbrev Body : BlockSite → BlockOption → List ℕ → Type 0
Body site option string =
    ((part : Part) × (rest : List ℕ) × (option_of part ≡ option) × IsPart site part
    × (string ≡ body_string site.bits site.first part ++ rest))
    ⊎ ((cause : Cause) × BodyFails site option string cause)

run_body : (site : BlockSite) (string : List ℕ) → AreBits string → Body site ZeroBlock string
run_body site string are = elim (sequence string are) [
  | inr none ↦ inr (Ended, inl (none, refl))
  | inl there ↦ elim (cases_lt site.left (run_of site.left there.0)) [
    | inl past ↦ inr (RunPastSegment, inr (there.0, there.1, there.2, past, refl))
    | inr inside ↦ inl (Zeros there.0, there.1, refl, inside, there.2)
  ]
]

-- the values after the leading one
pairs_part : (site : BlockSite) (first : Bool) (string values rest : List ℕ) → 1 ≤ site.block
    → length values ≡ site.block → Tested site.bits first values → string ≡ pairs_string values ++ rest
    → Body (record site { first = first }) SecondExtension string
pairs_part site true string [] rest wide size tested is = absurd (omega (arith, wide, size))
pairs_part site true string (lead ∷ values) rest wide size tested is = inl (
  Pairs lead values,
  rest,
  refl,
  record {
    whole = omega (arith, size);
    small = λ k d inside. subst (λ v. v ≤ greatest site.bits) (get_or_default values k 0 d inside)
        (tested (suc k) (omega (arith, inside)) (inl (omega arith)));
  },
  is,
)
pairs_part site false string values rest wide size tested is = inl (
  Pairs 0 values,
  rest,
  refl,
  record {
    whole = omega (arith, size);
    small = λ k d inside. subst (λ v. v ≤ greatest site.bits) (get_or_default values k 0 d inside)
        (tested k inside (inr refl));
  },
  is,
)

body : (site : BlockSite) (option : BlockOption) (string : List ℕ) → 1 ≤ site.block → site.block % 2 ≡ 0
    → IsOption site.bits option → AreBits string → Body site option string
body site ZeroBlock string wide even is are = run_body site string are
body site SecondExtension string wide even is are =
    elim (pairs site.bits site.first (site.block / 2) string are) [
      | inr fails ↦ inr fails
      | inl there ↦
          pairs_part site site.first string there.0 there.1 wide (omega (arith, there.2, even)) there.3 there.4
    ]
body site (Split zero) string wide even is are =
    elim (sequences site.bits (places site.block site.first 1) string are) [
      | inr fails ↦ inr fails
      | inl there ↦ inl (
        Halves 0 there.0,
        there.1,
        refl,
        (is, record { whole = there.2; small = there.3 }),
        there.4 ∙ ap (λ l. l ++ there.1) (sym (split_by_none there.0)),
      )
    ]
body site (Split (suc k)) string wide even is are =
    elim (splits site.bits (suc k) (places site.block site.first 1) string are) [
      | inr fails ↦ inr fails
      | inl there ↦
          inl (Halves (suc k) there.0, there.1, refl, (is, record { whole = there.2; small = there.3 }), there.4)
    ]
body site Uncoded string wide even is are =
    elim (fulls site.bits (places site.block site.first 1) string are) [
      | inr fails ↦ inr fails
      | inl there ↦ inl (Numbers there.0, there.1, refl, record { whole = there.2; small = there.3 }, there.4)
    ]

-- ---- parts

-- a part after this reference, or why there is none
abbrev pub Given : BlockSite → ℕ → List ℕ → Type 0
Given site reference string =
    ((part : Part) × (rest : List ℕ) × IsPart site part
    × (string ≡ part_string site.bits site.first reference part ++ rest))
    ⊎ ((cause : Cause) × PartFails site string cause)

given : (site : BlockSite) (reference : ℕ) (option : BlockOption) (string later : List ℕ) → 1 ≤ site.block
    → site.block % 2 ≡ 0 → IsOption site.bits option → reference ≤ greatest site.bits
    → string ≡ head_string site.bits site.first reference option ++ later → AreBits later
    → Given site reference string
given site reference option string later wide even is in_range same are =
    elim (body site option later wide even is are) [
      | inr fails ↦ inr (fails.0, inr (inr (option, reference, later, is, in_range, same, fails.1)))
      | inl there ↦ inl (
        there.0,
        there.1,
        there.3,
        same ∙ ap (λ o. head_string site.bits site.first reference o ++ later) (sym there.2)
            ∙ ap (λ l. head_string site.bits site.first reference (option_of there.0) ++ l) there.4
            ∙ sym (append_assoc (head_string site.bits site.first reference (option_of there.0))
            (body_string site.bits site.first there.0) there.1),
      )
    ]

head_later : (bits reference : ℕ) (first : Bool) (option : BlockOption) → first ≡ false
    → identifier bits option ≡ head_string bits first reference option
head_later bits reference true option other = absurd (true_false other)
head_later bits reference false option other = sym (append-nil (identifier bits option))

pub later_part : (site : BlockSite) (reference : ℕ) (string : List ℕ) → 1 ≤ site.block → site.block % 2 ≡ 0
    → reference ≤ greatest site.bits → site.first ≡ false → AreBits string → Given site reference string
later_part site reference string wide even in_range other are = elim (named site.bits string are) [
  | inr none ↦ inr (Ended, inl (none, refl))
  | inl there ↦
      given site reference there.0 string there.1 wide even there.2 in_range
      (there.3 ∙ ap (λ l. l ++ there.1) (head_later site.bits reference site.first there.0 other))
      (bits_after string (identifier site.bits there.0) there.1 there.3 are)
]

head_first : (bits reference : ℕ) (first : Bool) (option : BlockOption) → first ≡ true
    → identifier bits option ++ number_bits bits reference ≡ head_string bits first reference option
head_first bits reference true option is = refl
head_first bits reference false option is = absurd (true_false (sym is))

-- the first part, with the reference
abbrev pub FirstPart : BlockSite → List ℕ → Type 0
FirstPart site string =
    ((reference : ℕ) × (reference ≤ greatest site.bits) × (part : Part) × (rest : List ℕ)
    × IsPart site part × (string ≡ part_string site.bits site.first reference part ++ rest))
    ⊎ ((cause : Cause) × PartFails site string cause)

with_reference : (site : BlockSite) (reference : ℕ) (string : List ℕ) → reference ≤ greatest site.bits
    → Given site reference string → FirstPart site string
with_reference site reference string in_range (inr fails) = inr fails
with_reference site reference string in_range (inl there) =
    inl (reference, in_range, there.0, there.1, there.2, there.3)

pub first_part : (site : BlockSite) (string : List ℕ) → 1 ≤ site.block → site.block % 2 ≡ 0 → site.first ≡ true
    → AreBits string → FirstPart site string
first_part site string wide even is_first are = elim (named site.bits string are) [
  | inr none ↦ inr (Ended, inl (none, refl))
  | inl there ↦
      let after = bits_after string (identifier site.bits there.0) there.1 there.3 are in
      elim (number site.bits there.1 after) [
        | inr short ↦ inr (Ended, inr (inl (there.0, there.1, there.2, is_first, there.3, short, refl)))
        | inl read ↦
            let in_range : read.0 ≤ greatest site.bits = omega (arith, read.2) in
            with_reference site read.0 string in_range
            (given site read.0 there.0 string read.1 wide even there.2 in_range
            (there.3 ∙ ap (λ l. identifier site.bits there.0 ++ l) read.3
            ∙ sym (append_assoc (identifier site.bits there.0) (number_bits site.bits read.0) read.1)
            ∙ ap (λ l. l ++ read.1) (head_first site.bits read.0 site.first there.0 is_first))
            (bits_after there.1 (number_bits site.bits read.0) read.1 read.3 after))
      ]
]
