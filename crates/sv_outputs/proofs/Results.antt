-- What a clause on a result says, carried over.
use Rattle.std.proofs.Common.{Result, Ok, Err}
use Rattle.std.specs.Prelude.{IfErr, IfOk, OnOk}

pub both_ok : {T E : Type 0} (P Q R : T → Type 0) (r : Result T E) → IfOk r P → IfOk r Q → ((x : T) → P x → Q x → R x) → IfOk r R
both_ok P Q R (Ok x) p q f = f x p q
both_ok P Q R (Err e) p q f = tt

pub on_ok : {T E : Type 0} (P Q : Type 0) (r : Result T E) → OnOk r P → (P → Q) → OnOk r Q
on_ok P Q (Ok x) p f = f p
on_ok P Q (Err e) p f = tt

pub if_err : {T E : Type 0} (P Q : E → Type 0) (r : Result T E) → IfErr r P → ((e : E) → P e → Q e) → IfErr r Q
if_err P Q (Ok x) p f = tt
if_err P Q (Err e) p f = f e p
