-- Texts that are put one after the other.
use Rattle.std.proofs.Common.{◌≡◌, ◌<◌, ◌+◌, ℕ, zero, suc, List, [], ◌∷◌, ◌++◌, Some, Result, Ok, Err, OnOk, length}
use Rattle.std.proofs.Common.{get_or, take, refl, ap, sym, ◌∙◌, append_assoc, append-nil, codes, arith}
use Rattle.std.proofs.lemmas.Grind.{flat_map-append}
use Rattle.std.proofs.lemmas.List.{take_more}
use Rattle.std.specs.List.{concat, flat_map, slice_get}
use Rattle.lr_headers.specs.declared.contents.Content.{Content}
use Rattle.lr_headers.specs.declared.entry.Entry.{Entry}
use Rattle.lr_headers.specs.declared.fault.HeaderFault.{HeaderFault}
use Rattle.lr_headers.specs.declared.fault.HeaderFault.TheVariants.{NoMemory}
use Rattle.lr_headers.specs.declared.fields.Stamp.{Stamp}
use Rattle.lr_headers.specs.Fields.{content_of, contents_of}
use Rattle.lr_headers.specs.Stamps.{IsStampText, stamp_text}
use Rattle.lr_headers.specs.Tiling.{HasHeaderFaultOrMemory, Header}
use Rattle.lr_headers.proofs.Days.{stamp_texts_are_one}
use Rattle.lr_catalog.specs.Records.{content_words, fault_line, header_lines, record_line, record_words}
use Rattle.lr_catalog.proofs.Faults.{is_fault}

module _ {T E : Type 0} where
  -- a text that is another one
  pub put_same : (r : Result T E) (old text same new : List ℕ) → text ≡ same → OnOk r (new ≡ old ++ text)
      → OnOk r (new ≡ old ++ same)
  put_same (Ok x) old text same new is put = put ∙ ap (λ (t : List ℕ). old ++ t) is
  put_same (Err x) old text same new is put = put

  pub put_stamp : (r : Result T E) (stamp : Stamp) (old middle new : List ℕ) → middle ≡ old ++ codes " stamp "
      → OnOk r ((text : List ℕ) × IsStampText stamp text × (new ≡ middle ++ text))
      → OnOk r (new ≡ old ++ (codes " stamp " ++ stamp_text stamp))
  put_stamp (Ok x) stamp old middle new is put =
      put.2 ∙ ap (λ (m : List ℕ). m ++ put.0) is
      ∙ ap (λ (t : List ℕ). (old ++ codes " stamp ") ++ t) (stamp_texts_are_one stamp put.0 put.1)
      ∙ append_assoc old (codes " stamp ") (stamp_text stamp)
  put_stamp (Err x) stamp old middle new is put = put

  pub put_three : (r : Result T E) (old a b c first second new : List ℕ) → first ≡ old ++ a → second ≡ first ++ b
      → OnOk r (new ≡ second ++ c) → OnOk r (new ≡ old ++ (a ++ b ++ c))
  put_three (Ok x) old a b c first second new e0 e1 put = put ∙ rw (e1, e0) (simp append_assoc)
  put_three (Err x) old a b c first second new e0 e1 put = put

  pub put_line : (r : Result T E) (old key size bits middle kind origin t0 t1 t2 t3 t4 t5 new : List ℕ)
      → t0 ≡ old ++ key → t1 ≡ t0 ++ size → t2 ≡ t1 ++ bits → t3 ≡ t2 ++ middle → t4 ≡ t3 ++ kind → t5 ≡ t4 ++ origin
      → OnOk r (new ≡ t5 ++ codes "\n")
      → OnOk r (new ≡ old ++ concat (key ∷ size ∷ bits ∷ middle ∷ kind ∷ origin ∷ codes "\n" ∷ []))
  put_line (Ok x) old key size bits middle kind origin t0 t1 t2 t3 t4 t5 new e0 e1 e2 e3 e4 e5 put =
      put ∙ rw (e5, e4, e3, e2, e1, e0) (simp (append_assoc, append-nil))
  put_line (Err x) old key size bits middle kind origin t0 t1 t2 t3 t4 t5 new e0 e1 e2 e3 e4 e5 put = put

  pub put_fault : (r : Result T E) (proper : List ℕ) (fault : HeaderFault) (old new : List ℕ)
      → HasHeaderFaultOrMemory proper fault → OnOk r (new ≡ old ++ fault_line fault) → OnOk r (fault ≡ NoMemory → ⊥)
      → OnOk r (new ≡ old ++ header_lines proper)
  unfolding header_lines
  put_fault (Ok x) proper fault old new has put not = let is = is_fault proper fault has not in rw is put
  put_fault (Err x) proper fault old new has put not = put

-- the text of a record's line
pub record_is : {T E : Type 0} (r : Result T E) (header : Header) (e entry : Entry) (content : Content)
    (contents old first second new : List ℕ) → entry ≡ e → content ≡ content_of header e
    → contents ≡ contents_of header.bytes e → first ≡ old ++ record_words entry
    → second ≡ first ++ content_words content contents → OnOk r (new ≡ second ++ codes "\n")
    → OnOk r (new ≡ old ++ record_line header e)
unfolding record_line
record_is r header e entry content contents old first second new same says holds e0 e1 put =
    put_three r old (record_words e) (content_words (content_of header e) (contents_of header.bytes e)) (codes "\n")
    first second new (rw (← same) e0) (rw (← says, ← holds) e1) put

there : (es : List Entry) (place : ℕ) (d : Entry) → place < length es → slice_get es place ≡ Some (get_or es place d)
there [] place d inside = absurd (omega arith)
there (e ∷ es) zero d inside = refl
there (e ∷ es) (suc place) d inside = there es place d (omega arith)

-- the texts of the records so far, and of the next one
pub next_line : (f : Entry → List ℕ) (es : List Entry) (place : ℕ) (lines new : List ℕ) → place < length es
    → lines ≡ flat_map f (take place es) → ((e : Entry) → slice_get es place ≡ Some e → new ≡ lines ++ f e)
    → new ≡ flat_map f (take (place + 1) es)
next_line f es place lines new inside is put =
    let d : Entry = record { kind = 0; at = 0; length = 0 } in
    let e = get_or es place d in
    put e (there es place d inside) ∙ ap (λ (l : List ℕ). l ++ f e) is
    ∙ sym (ap (λ (xs : List Entry). flat_map f xs) (take_more es place d inside)
    ∙ flat_map-append f (take place es) (e ∷ [])
    ∙ ap (λ (l : List ℕ). flat_map f (take place es) ++ l) (append-nil (f e)))
