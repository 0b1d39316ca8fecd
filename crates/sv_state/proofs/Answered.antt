-- What an answer that is no error says.
use Rattle.std.proofs.Common.{◌≡◌, false}
use Rattle.std.specs.Prelude.{is_err, IfOk, OnOk, Result, Ok, Err}

pub ok-so : {T E : Type 0} (r : Result T E) (P Q : T → Type 0) → ((x : T) → P x → Q x) → IfOk r P → IfOk r Q
ok-so (Ok x) P Q h p = h x p
ok-so (Err e) P Q h p = tt

pub ok-holds : {T E : Type 0} (r : Result T E) (P : Type 0) → is_err r ≡ false → OnOk r P → P
ok-holds (Ok x) P fine p = p
ok-holds (Err e) P fine p = absurd (cc)
