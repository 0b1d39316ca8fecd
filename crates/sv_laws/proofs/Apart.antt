-- What is two things is not one.
use Rattle.std.proofs.Common.{◌≡◌, true, false}
use Rattle.sv_model.specs.declared.records.FileStatus.TheVariants.{Pending, Live, Obsolete, Grabbed, Gone}

pub true_false : {A : Type 0} → true ≡ false → A
true_false e = absurd (cc)

pub false_true : {A : Type 0} → false ≡ true → A
false_true e = absurd (cc)

pub pending_live : {A : Type 0} → Pending ≡ Live → A
pending_live e = absurd (cc)

pub pending_obsolete : {A : Type 0} → Pending ≡ Obsolete → A
pending_obsolete e = absurd (cc)

pub pending_grabbed : {A : Type 0} → Pending ≡ Grabbed → A
pending_grabbed e = absurd (cc)

pub pending_gone : {A : Type 0} → Pending ≡ Gone → A
pending_gone e = absurd (cc)

pub live_pending : {A : Type 0} → Live ≡ Pending → A
live_pending e = absurd (cc)

pub live_obsolete : {A : Type 0} → Live ≡ Obsolete → A
live_obsolete e = absurd (cc)

pub live_grabbed : {A : Type 0} → Live ≡ Grabbed → A
live_grabbed e = absurd (cc)

pub live_gone : {A : Type 0} → Live ≡ Gone → A
live_gone e = absurd (cc)

pub obsolete_pending : {A : Type 0} → Obsolete ≡ Pending → A
obsolete_pending e = absurd (cc)

pub obsolete_grabbed : {A : Type 0} → Obsolete ≡ Grabbed → A
obsolete_grabbed e = absurd (cc)

pub obsolete_gone : {A : Type 0} → Obsolete ≡ Gone → A
obsolete_gone e = absurd (cc)

pub grabbed_pending : {A : Type 0} → Grabbed ≡ Pending → A
grabbed_pending e = absurd (cc)

pub grabbed_live : {A : Type 0} → Grabbed ≡ Live → A
grabbed_live e = absurd (cc)

pub grabbed_gone : {A : Type 0} → Grabbed ≡ Gone → A
grabbed_gone e = absurd (cc)
