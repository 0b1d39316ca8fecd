-- What a lane does between a taking of the DB lock and its giving.
use Rattle.std.proofs.Common.{Some, [], ap, refl, subst, sym, ℕ, ◌∙◌, ◌≡◌, ◌≤◌}
use Rattle.std.specs.Prelude.{Err, IfErr, IfOk, Ok, Result}
use Rattle.sv_borrows.specs.Desks.{AreAlike, IsCleanedUp, MayGo, at_desk, owed_of}
use Rattle.sv_borrows.specs.Lending.{IsFree, IsLent, IsNotLent, MayLend, cleaned_view}
use Rattle.sv_borrows.proofs.Accounted.{may-go}
use Rattle.sv_borrows.proofs.CurrentRefs.{has-current, still-current}
use Rattle.sv_model.specs.Books.{Books}
use Rattle.sv_model.specs.Lists.{Every, In, at}
use Rattle.sv_model.specs.Tasks.{Task}
use Rattle.sv_model.specs.Turns.{IsAccounted}
use Rattle.sv_model.proofs.Entries.{in-none}
use Rattle.sv_rule.specs.LockPlays.{IsTold, MayGiveDb, gave_db, took_db}
use Rattle.sv_rule.specs.ReferencePlays.{added}
use Rattle.sv_rule.specs.Views.{Bodied, LaneView, Locks, idle}
use Rattle.sv_slots.specs.Borrows.{borrowed}
use Rattle.sv_slots.specs.declared.refs.Sub.{Sub}
use Rattle.sv_slots.proofs.Unchanged.{gives_found}
use Rattle.sv_state.specs.Currents.{HasCurrentAt}

-- ---- answers

pub if-ok : {A X : Type 0} (P Q : A → Type 0) (r : Result A X) → ((x : A) → P x → Q x) → IfOk r P → IfOk r Q
if-ok P Q (Ok x) f h = f x h
if-ok P Q (Err e) f h = h

pub if-err : {A X : Type 0} (P Q : X → Type 0) (r : Result A X) → ((x : X) → P x → Q x) → IfErr r P → IfErr r Q
if-err P Q (Ok x) f h = h
if-err P Q (Err e) f h = f e h

pub either : {A X : Type 0} (C : Type 0) (P : A → Type 0) (Q : X → Type 0) (r : Result A X) → ((x : A) → P x → C)
    → ((e : X) → Q e → C) → IfOk r P → IfErr r Q → C
either C P Q (Ok x) f g h k = f x h
either C P Q (Err e) f g h k = g e k

-- ----

module _ (v : LaneView) (free : IsFree v) (a : Books) (u : LaneView) (took : u ≡ took_db a v) (told : IsTold v a) where
  pub taken-owes : (left : Sub) → v.owes ≡ owed_of left → Every (λ p. 256 ≤ p) (owed_of left)
      → (u.owes ≡ owed_of left) × MayGo a left
  taken-owes left owes big = (ap (λ (z : LaneView). z.owes) took ∙ owes, may-go a v told left owes big)

  module _ (b : Books) (w : LaneView) (cleaned : IsCleanedUp a b u w) where
    pub lends-current : (f : ℕ) → MayLend f v → HasCurrentAt b f
    lends-current f lend =
        let none : In f v.seat.ends → ⊥ = λ has. in-none f (subst (In f) free.ends has) in
        still-current a b f cleaned.0 (has-current a f (told.currents f lend.0 lend.1 none))

    is_cleaned : w ≡ cleaned_view a b cleaned.2.0 v
    is_cleaned = cleaned.2.2 ∙ ap (λ (z : LaneView). record (at_desk b [] cleaned.2.0 z) { owes = [] }) took

    -- the lane gives the books that it has at its desk
    gives : (x : LaneView) → x.seat ≡ v.seat → x.locks ≡ record v.locks { db = Some (record { books = b; work = idle; due = [] }) }
        → x.known.lane ≡ v.known.lane → x.known.task ≡ v.known.task → MayGiveDb x b x.known.task
    gives x seat locks lane task =
        gives_found x (record { books = b; work = idle; due = [] }) (ap (λ z. z.spent) seat ∙ free.alive)
        (ap (λ (k : Locks). k.db) locks) refl refl (ap (λ (k : Locks). k.cell) locks ∙ ap (λ (k : Locks). k.cell) free.locks)
        (subst (λ (z : ℕ × Task). IsAccounted z.0 b z.1)
        (λ i. (sym lane i, sym task i)) (subst (λ (z : LaneView). IsAccounted z.known.lane b z.known.task) took cleaned.1))

    pub gives-cleaned : (x : LaneView) → x ≡ w → MayGiveDb x b x.known.task
    gives-cleaned x e = subst (λ (z : LaneView). MayGiveDb z b z.known.task) (sym (e ∙ is_cleaned))
        (gives (cleaned_view a b cleaned.2.0 v) refl refl refl refl)

    pub gives-lent : (f : ℕ) (y : Bodied) (x : LaneView) → x ≡ borrowed f y.pack (added y w) → MayGiveDb x b x.known.task
    gives-lent f y x e = subst (λ (z : LaneView). MayGiveDb z b z.known.task)
        (sym (e ∙ ap (λ (z : LaneView). borrowed f y.pack (added y z)) is_cleaned))
        (gives (borrowed f y.pack (added y (cleaned_view a b cleaned.2.0 v))) refl refl refl refl)

    alike : AreAlike cleaned.2.0 v.known.seen
    alike f = cleaned.2.1 f ∙ ap (λ (z : LaneView). at 0 z.known.seen f) took

    pub is-lent : (f : ℕ) (y : Bodied) (x : LaneView) → x ≡ borrowed f y.pack (added y w) → (z : LaneView)
        → z ≡ gave_db b x.known.task x → IsLent f y v z
    is-lent f y x e z gave =
        let here : x ≡ borrowed f y.pack (added y (cleaned_view a b cleaned.2.0 v))
        = e ∙ ap (λ (k : LaneView). borrowed f y.pack (added y k)) is_cleaned in
        (a, b, cleaned.2.0, cleaned.0, alike, gave ∙ (λ i. gave_db b (here i).known.task (here i)))

    pub is-not-lent : (x : LaneView) → x ≡ w → (z : LaneView) → z ≡ gave_db b x.known.task x → IsNotLent v z
    is-not-lent x e z gave =
        let here : x ≡ cleaned_view a b cleaned.2.0 v = e ∙ is_cleaned in
        (a, b, cleaned.2.0, cleaned.0, alike, gave ∙ (λ i. gave_db b (here i).known.task (here i)))
