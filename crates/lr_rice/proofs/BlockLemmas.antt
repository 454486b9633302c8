-- Blocks and zero blocks as they are read.
use Rattle.std.proofs.Common.{◌≡◌, ℕ, zero, suc, ◌-◌, ◌*◌, ◌<◌, ◌≤◌, Bool, true, false, List, [], ◌∷◌, ◌++◌, length}
use Rattle.std.proofs.Common.{get_or, take, drop, set, replicate, refl, sym, ap, ◌∙◌, subst, arith, length-drop}
use Rattle.std.specs.Prelude.{if◌then◌else◌}
use mir.Val.{bool_byte}
use borrow.Rule.Slice.PartMut.{post_of}
use Rattle.std.proofs.lemmas.List.{append-nil, drop_all, get_or_default}
use Rattle.std.proofs.lemmas.Nat.{mul-le}
use Rattle.std.proofs.lemmas.Bool.Decides.{nat_tests}
use Rattle.lr_rice.specs.declared.choice.BlockOption.{BlockOption}
use Rattle.lr_rice.specs.declared.choice.BlockOption.TheVariants.{ZeroBlock, SecondExtension, Split, Uncoded}
use Rattle.lr_rice.specs.CodedLines.{AreValues, BlockSite, IsOption, Zeros, Pairs, Halves, Numbers, body_string}
use Rattle.lr_rice.specs.CodedLines.{greatest}
use Rattle.lr_rice.specs.CodedLines.{pairs_string, places, run_of, values_of}
use Rattle.lr_rice.specs.Samples.{IsRun, IsSingle, ReadsBlock, WritesPart, places_after, plain_part, sample_after}
use Rattle.lr_rice.specs.Samples.{samples_from, whole_block}
use Rattle.lr_rice.proofs.SampleLemmas.{sample_after-zeros}

pub plain_block : (site : BlockSite) (option : BlockOption) (string rest values all : List ℕ)
    → IsSingle option → (option ≡ SecondExtension → ⊥) → IsOption site.bits option →
    AreValues site values → string ≡ body_string site.bits true (plain_part option values) ++ rest
    → all ≡ whole_block site.first values → ReadsBlock site option string rest all
plain_block site ZeroBlock string rest values all single other is_option are is same = absurd single
plain_block site SecondExtension string rest values all single other is_option are is same = absurd (other refl)
plain_block site (Split k) string rest values all single other is_option are is same =
    record {
      part = Halves k values;
      reads = record { is_part = (is_option, are); in_option = refl; is_string = is };
      one = refl;
      are_places = same;
    }
plain_block site Uncoded string rest values all single other is_option are is same =
    record {
      part = Numbers values;
      reads = record { is_part = are; in_option = refl; is_string = is };
      one = refl;
      are_places = same;
    }

pub pairs_block : (site : BlockSite) (string rest values : List ℕ) → length values ≡ site.block →
    ((k : ℕ) → k < length values → get_or values k 0 ≤ greatest site.bits) → string ≡ pairs_string values ++ rest →
    ReadsBlock (record site { first = false }) SecondExtension string rest values
pairs_block site string rest values size small is =
    record {
      part = Pairs 0 values;
      reads = record {
        is_part = record {
          whole = size ∙ omega arith;
          small = λ k d inside. subst (λ v. v ≤ greatest site.bits) (get_or_default values k 0 d inside)
              (small k inside);
        };
        in_option = refl;
        is_string = is;
      };
      one = refl;
      are_places = refl;
    }

pub leading_block : (site : BlockSite) (string rest values : List ℕ) → length values ≡ site.block → 1 ≤ site.block →
    ((k : ℕ) → k < length values → 0 < k → get_or values k 0 ≤ greatest site.bits) →
    string ≡ pairs_string values ++ rest →
    ReadsBlock (record site { first = true }) SecondExtension string rest (set values 0 0)
leading_block site string rest [] size some small is = absurd (omega arith)
leading_block site string rest (lead ∷ values) size some small is =
    record {
      part = Pairs lead values;
      reads = record {
        is_part = record {
          whole = omega arith;
          small = λ k d inside. subst (λ v. v ≤ greatest site.bits) (get_or_default values k 0 d inside)
              (small (suc k) (omega arith) (omega arith));
        };
        in_option = refl;
        is_string = is;
      };
      one = refl;
      are_places = refl;
    }

-- the values after the first place of a line
pub behind_first : (first : Bool) (places values : List ℕ) (skipped : ℕ) → skipped ≡ bool_byte first
    → get_or places 0 0 ≡ 0 → 1 ≤ length places → length values ≡ length places - skipped →
    take skipped places ++ (values ++ post_of skipped (length places - skipped) places) ≡ whole_block first values
behind_first first places values skipped is clear some size =
    let none : post_of skipped (length places - skipped) places ≡ [] = drop_all (length places - skipped)
    (drop skipped places) (omega (arith, length-drop skipped places)) in
    ap (λ l. take skipped places ++ (values ++ l)) none ∙ ap (λ l. take skipped places ++ l) (append-nil values)
    ∙ ap (λ n. take n places ++ values) is
    ∙ front first places values clear some
  where
    front : (first : Bool) (places values : List ℕ) → get_or places 0 0 ≡ 0 → 1 ≤ length places
        → take (bool_byte first) places ++ values ≡ whole_block first values
    front false places values clear some = refl
    front true [] values clear some = absurd (omega arith)
    front true (place ∷ places) values clear some = ap (λ x. x ∷ values) clear

pub places_behind : (n skipped : ℕ) (first : Bool) → skipped ≡ bool_byte first → n - skipped ≡ places n first 1
places_behind n skipped true is = omega arith
places_behind n skipped false is = omega arith

-- ---- runs

pub run_of-pos : (left m : ℕ) → 1 ≤ left → 1 ≤ run_of left m
run_of-pos left m some = grind (arith, nat_tests)

pub whole_block-zeros : (first : Bool) (n : ℕ) → 1 ≤ n
    → whole_block first (replicate (n - (if first then 1 else 0)) 0) ≡ replicate n 0
whole_block-zeros false n some = ap (λ k. replicate k 0) (omega arith)
whole_block-zeros true zero some = absurd (omega arith)
whole_block-zeros true (suc n) some = ap (λ k. 0 ∷ replicate k 0) (omega arith)

pub run_written : (site : BlockSite) (p : ℕ) (string rest old new : List ℕ) (blocks : ℕ)
    → 1 ≤ site.left → 1 ≤ site.block → p ≤ greatest site.bits → IsRun site.left blocks string rest
    → new ≡ places_after old (samples_from (greatest site.bits) p (replicate (blocks * site.block) 0)) →
    WritesPart site ZeroBlock string rest
    (record { before = p; old = old; new = new; blocks = blocks; last = p })
run_written site p string rest old new blocks some wide in_range run written =
    let span : 1 ≤ run_of site.left run.number = run_of-pos site.left run.number some in
    let most = greatest site.bits in
    let all : whole_block site.first (values_of site (Zeros run.number)) ≡ replicate (blocks * site.block) 0 =
    whole_block-zeros site.first (run_of site.left run.number * site.block)
    (omega (arith, mul-le 1 1 (run_of site.left run.number) site.block span wide))
    ∙ ap (λ n. replicate (n * site.block) 0) run.is_run in
    record {
      part = Zeros run.number;
      reads = record { is_part = omega (arith, run.is_run, run.left_is); in_option = refl; is_string = run.is_string };
      spans = run.is_run;
      written = written ∙ ap (λ l. places_after old (samples_from most p l)) (sym all);
      is_last = λ enough. sym (ap (sample_after most p) all ∙ sample_after-zeros most p (blocks * site.block));
      in_range = in_range;
    }
