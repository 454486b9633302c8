-- What an answer says, in other words.
use Rattle.std.proofs.Common.{Result, Ok, Err, OnOk, OnErr}

pub if_ok : {A E P : Type 0} (r : Result A E) → P → OnOk r P
if_ok (Ok x) p = p
if_ok (Err e) p = tt

pub if_err : {A E P : Type 0} (r : Result A E) → P → OnErr r P
if_err (Ok x) p = tt
if_err (Err e) p = p
