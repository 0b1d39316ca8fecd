-- A lane asks the books for a name by which it has no handle.
use Rattle.std.proofs.Common.{List, None, Option, Some, [], ap, inl, refl, slice_get, subst, sym, ℕ, ◌∙◌, ◌≡◌}
use Rattle.std.specs.Prelude.{IsSomeAnd}
use Rattle.sv_borrows.specs.Desks.{IsCleanedUp}
use Rattle.sv_db.specs.Handles.{HasNone}
use Rattle.sv_db.specs.Locals.{HandlesFit}
use Rattle.sv_db.specs.Named.{asked_view}
use Rattle.sv_db.proofs.Naming.{no-own}
use Rattle.sv_model.specs.Books.{Books}
use Rattle.sv_model.specs.Families.{IsOwn}
use Rattle.sv_model.specs.declared.records.Family.{Family}
use Rattle.sv_rule.specs.Blanks.{no_locks}
use Rattle.sv_rule.specs.LockPlays.{IsTold, gave_db, took_db}
use Rattle.sv_rule.specs.Views.{LaneView, Locks}

pub asked-clean : (v : LaneView) → v.owes ≡ [] → (a : Books) (u : LaneView) → u ≡ took_db a v → IsTold v a → IsCleanedUp a a u u
asked-clean v owes a u took told = subst (λ (z : LaneView). IsCleanedUp a a z z) (sym took) (
  inl refl,
  told.accounted,
  (v.known.seen, λ f. refl, ap (λ l. record (took_db a v) { owes = l }) owes),
)

pub asked-is : (v : LaneView) → v.locks ≡ no_locks → (a : Books) (u : LaneView) → u ≡ took_db a v → (w : LaneView)
    → w ≡ gave_db a u.known.task u → w ≡ asked_view a v
asked-is v locks a u took w gave =
    gave ∙ (λ i. gave_db a (took i).known.task (took i))
    ∙ ap (λ (k : Locks). record (asked_view a v) { locks = k }) (ap (λ (k : Locks). record k { db = None }) locks ∙ sym locks)

pub none-own : (names : List (Option (List ℕ))) (v : LaneView) → HandlesFit names v → (name : List ℕ) → HasNone name names
    → (b : Books) → IsTold v b → (l : ℕ) → l ≡ v.known.lane → (f : ℕ)
    → IsSomeAnd (slice_get b.families f) (IsOwn l name) → ⊥
none-own names v h name none b told l lane f own = by (slice_get b.families f) refl own
  where
    by : (o : Option Family) → slice_get b.families f ≡ o → IsSomeAnd o (IsOwn l name) → ⊥
    by None e own = absurd own
    by (Some x) e own = no-own names v h name none b told.fits v.known.lane told.accounted f x e
        (subst (λ k. IsOwn k name x) lane own)
