-- What a call says of its answer.
use Rattle.std.proofs.Common.{◌≡◌, false, is_err, Option, Some, None, IsSome, OnSome, Result, Ok, Err, OnOk, OnErr, IfOk}

-- ---- where it cannot have failed

pub fine_holds : {T E : Type 0} (r : Result T E) (P Q : Type 0) → OnErr r P → (P → ⊥) → OnOk r Q → Q
fine_holds (Ok x) P Q failed never q = q
fine_holds (Err e) P Q failed never q = absurd (never failed)

pub some_holds : {T : Type 0} (r : Option T) (Q : Type 0) → IsSome r → OnSome r Q → Q
some_holds (Some x) Q some q = q
some_holds None Q some q = absurd (cc)

-- ---- where one thing follows from another
pub ok-map : {T E : Type 0} (r : Result T E) (P Q : T → Type 0) → ((x : T) → P x → Q x) → IfOk r P → IfOk r Q
ok-map (Ok x) P Q then p = then x p
ok-map (Err e) P Q then p = p

pub err-map : {T E : Type 0} (r : Result T E) (P Q : Type 0) → (P → Q) → OnErr r P → OnErr r Q
err-map (Ok x) P Q then p = p
err-map (Err e) P Q then p = then p

-- a call whose answer was seen to be no error
pub ok_holds : {T E : Type 0} (r : Result T E) (P : Type 0) → is_err r ≡ false → OnOk r P → P
ok_holds (Ok x) P fine p = p
ok_holds (Err e) P fine p = absurd (cc)
