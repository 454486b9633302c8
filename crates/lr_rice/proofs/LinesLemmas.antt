-- Lines one after another.
use Rattle.std.proofs.Common.{◌≡◌, ℕ, zero, suc, ◌+◌, ◌<◌, List, [], ◌++◌, refl, sym, ap, ◌∙◌, subst, arith}
use Rattle.std.proofs.lemmas.List.{append_assoc, append-nil}
use Rattle.lr_rice.specs.declared.fault.Cause.{Cause}
use Rattle.lr_rice.specs.declared.fault.RiceFault.{RiceFault}
use Rattle.lr_rice.specs.CodedLines.{AreLines, Form, IsLine, form_of}
use Rattle.lr_rice.specs.LineFaults.{LineFails, LinesFail, fault_in}

-- this many lines were read
pub record LinesRead (form : Form) (n : ℕ) (samples string rest : List ℕ) : Type 0 where
  pub coding : List ℕ
  pub lines : AreLines form n samples coding
  pub is_string : string ≡ coding ++ rest

-- one line more at the end
AreLines-more : (form : Form) (n : ℕ) (samples coding line more : List ℕ) → AreLines form n samples coding
    → IsLine form line more → AreLines form (suc n) (samples ++ line) (coding ++ more)
AreLines-more form zero samples coding line more are is = record {
  line = line;
  front = more;
  is_line = is;
  others = [];
  back = [];
  are_others = (refl, refl);
  are_samples = ap (λ l. l ++ line) are.0 ∙ sym (append-nil line);
  is_string = ap (λ l. l ++ more) are.1 ∙ sym (append-nil more);
}
AreLines-more form (suc n) samples coding line more are is = record {
  line = are.line;
  front = are.front;
  is_line = are.is_line;
  others = are.others ++ line;
  back = are.back ++ more;
  are_others = AreLines-more form n are.others are.back line more are.are_others is;
  are_samples = ap (λ l. l ++ line) are.are_samples ∙ append_assoc are.line are.others line;
  is_string = ap (λ l. l ++ more) are.is_string ∙ append_assoc are.front are.back more;
}

pub line_more : (form : Form) (n : ℕ) (samples string now rest line more : List ℕ)
    → LinesRead form n samples string now → IsLine form line more → now ≡ more ++ rest →
    LinesRead form (n + 1) (samples ++ line) string rest
line_more form n samples string now rest line more read is next =
    let next_line : suc n ≡ n + 1 = omega arith in
    record {
      coding = read.coding ++ more;
      lines = subst (λ (k : ℕ). AreLines form k (samples ++ line) (read.coding ++ more)) next_line
          (AreLines-more form n samples read.coding line more read.lines is);
      is_string = read.is_string ∙ ap (λ l. read.coding ++ l) next ∙ sym (append_assoc read.coding more rest);
    }

pub line_fails : (form : Form) (n line : ℕ) (samples string rest : List ℕ) (cause : Cause) (fault : RiceFault)
    → line < n → LinesRead form line samples string rest → LineFails form rest cause →
    fault ≡ fault_in line cause → LinesFail form n string fault
line_fails form n line samples string rest cause fault before read fails is =
    record {
      line = line;
      before = before;
      samples = samples;
      coding = read.coding;
      rest = rest;
      lines = read.lines;
      is_string = read.is_string;
      cause = cause;
      fails = fails;
      is_fault = is;
    }

pub with_columns : (bits block columns size : ℕ) (line coding : List ℕ) → size ≡ columns
    → IsLine (form_of bits block size) line coding →
    IsLine (form_of bits block columns) line coding
with_columns bits block columns size line coding same is =
    subst (λ (n : ℕ). IsLine (form_of bits block n) line coding) same is

pub fails_with_columns : (bits block columns size : ℕ) (string : List ℕ) (cause : Cause) → size ≡ columns
    → LineFails (form_of bits block size) string cause →
    LineFails (form_of bits block columns) string cause
fails_with_columns bits block columns size string cause same fails =
    subst (λ (n : ℕ). LineFails (form_of bits block n) string cause) same fails
