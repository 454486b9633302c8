-- What a call on a shelf answered, by what became of it.
use Rattle.std.proofs.Common.{◌≡◌, Result, Ok, Err, IfErr, IfOk, refl, sym, ap, ◌∙◌, subst}
use Rattle.lr_shelf.specs.declared.error.ShelfError.{ShelfError}
use Rattle.lr_causes.specs.declared.cause.Cause.{Cause}
use Rattle.lr_refusals.specs.Errors.{answer_by, cause_of}

of_given : {A : Type 0} (answer : Result A ShelfError) (given : A) → answer_by answer ≡ Ok given → answer ≡ Ok given
of_given (Ok other) given is = cc (is)
of_given (Err error) given is = cc (is)

of_refused : {A : Type 0} (answer : Result A ShelfError) (cause : Cause) → answer_by answer ≡ Err cause
    → (error : ShelfError) × (answer ≡ Err error) × (cause ≡ cause_of error)
of_refused (Ok given) cause is = cc (is)
of_refused (Err error) cause is = (error, refl, cc (is))

-- what is so of what was given is so of this
pub value_is : {A E : Type 0} (P : A → Type 0) (answer : Result A E) (it : A) → answer ≡ Ok it → IfOk answer P → P it
value_is {A} {E} P answer it is so = subst (λ (r : Result A E). IfOk r P) is so

-- what is so of each error is so of this one
pub error_is : {A E : Type 0} (P : E → Type 0) (answer : Result A E) (error : E) → answer ≡ Err error
    → IfErr answer P → P error
error_is {A} {E} P answer error is so = subst (λ (r : Result A E). IfErr r P) is so

module _ {A : Type 0} (answer : Result A ShelfError) (became : Result A Cause) (by : became ≡ answer_by answer) where
  -- what it gave
  pub given : (it : A) → became ≡ Ok it → answer ≡ Ok it
  given it is = of_given answer it (sym by ∙ is)

  -- the error whose cause it is
  pub refused : (cause : Cause) → became ≡ Err cause
      → (error : ShelfError) × (answer ≡ Err error) × (cause ≡ cause_of error)
  refused cause is = of_refused answer cause (sym by ∙ is)

  -- where there is no cause, there is no error
  pub unrefused : ((cause : Cause) → became ≡ Err cause → ⊥) → (error : ShelfError) → answer ≡ Err error → ⊥
  unrefused none error is = none (cause_of error) (by ∙ ap answer_by is)
