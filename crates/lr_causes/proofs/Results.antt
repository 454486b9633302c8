-- Facts about a call's answer.
use Rattle.std.proofs.Common.{◌≡◌, Result, Ok, Err, OnOk, OnErr, IfOk, IfErr, subst, sym}

pub on_ok : {T E P Q : Type 0} (r : Result T E) → OnOk r P → (P → Q) → OnOk r Q
on_ok (Ok x) p f = f p
on_ok (Err e) p f = tt

pub on_ok_both : {T E P P' Q : Type 0} (r : Result T E) → OnOk r P → OnOk r P' → (P → P' → Q) → OnOk r Q
on_ok_both (Ok x) p q f = f p q
on_ok_both (Err e) p q f = tt

-- a fact of every `Ok`
pub if_ok_on : {T E P Q : Type 0} (r : Result T E) → IfOk r (λ _. P) → (P → Q) → OnOk r Q
if_ok_on (Ok x) p f = f p
if_ok_on (Err e) p f = tt

-- a call that has one error
pub if_err_one : {T E P : Type 0} (Q : E → Type 0) (error : E) (r : Result T E) → IfErr r (λ e. e ≡ error)
    → OnErr r P → (P → Q error) → IfErr r Q
if_err_one Q error (Ok x) is p f = tt
if_err_one Q error (Err e) is p f = subst Q (sym is) (f p)
