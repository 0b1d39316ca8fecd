-- A put while its lane has the DB lock.
use Rattle.std.proofs.Common.{Err, List, None, Ok, Result, [], ap, refl, subst, sym, ℕ, ◌∙◌, ◌∷◌, ◌≡◌}
use Rattle.std.specs.Prelude.{IfErr, IfOk, OnErr}
use Rattle.sv_borrows.specs.Desks.{GoesOn, IsAtDesk}
use Rattle.sv_cells.specs.Calls.{memtables_refusal}
use Rattle.sv_installs.proofs.Changed.{changes-none, changes-through}
use Rattle.sv_installs.specs.Changing.{Changes}
use Rattle.sv_model.specs.Books.{Books}
use Rattle.sv_model.specs.Refusals.{IsDue, Refuses, first_due}
use Rattle.sv_model.specs.declared.refusals.Refusal.{Refusal}
use Rattle.sv_model.specs.declared.writes.Row.{Row}
use Rattle.sv_puts.proofs.PutChanges.{changes-append, changes-switch, has-met}
use Rattle.sv_puts.proofs.PutLaws.{Clear, answers-add, answers-switch, plan-refused, switch-refused}
use Rattle.sv_puts.specs.Locked.{PutsLocked}
use Rattle.sv_puts.specs.Putting.{Accepts, Answers, Switches}
use Rattle.sv_puts.specs.Rows.{Appends}
use Rattle.sv_puts.specs.Switching.{SwitchesTo}
use Rattle.sv_registry.specs.Calls.{make_refusal}
use Rattle.sv_rule.specs.Views.{LaneView}
use Rattle.sv_state.specs.Planning.{IsPlanOf, Planned, write_refusal}
use Rattle.sv_state.specs.Seen.{StateSeen}
use Rattle.sv_state.specs.declared.planning.Plan.{Plan}
use Rattle.sv_state.specs.declared.planning.Plan.TheVariants.{Add, Switch}

-- nothing changed
pub changes-same : (a b : Books) (v : LaneView) → IsAtDesk a [] v → b ≡ a → Changes a b v v
changes-same a b v d e = subst (λ (z : Books). Changes a z v v) (sym e)
    (changes-none a v v d.own (v.known.seen, λ f. refl, λ i. record v { locks = record v.locks { db = d.db i } }))

-- the plan is refused
pub locked-refused : (l : ℕ) (name : List ℕ) (row : Row) (a b : Books) (v : LaneView) (r : Result Plan Refusal)
    (e : Refusal) → IsAtDesk a [] v → r ≡ Err e → Planned a l name (write_refusal a) (IsPlanOf a) r → b ≡ a
    → PutsLocked l name row (Err e) a b v v
locked-refused l name row a b v r e d is p same = record {
  answers = plan-refused l a b name row r e is p same;
  changes = changes-same a b v d same;
  met = tt;
}

-- what an append answers
module _ (l : ℕ) (a b : Books) (f : ℕ) (row : Row) (v w : LaneView) (lane : v.known.lane ≡ l) where
  accepts : (n : ℕ) → Appends a b f row n v w → Accepts l a b f row n
  accepts n h = subst (λ (k : ℕ). Accepts k a b f row n) lane
      (record { mem = h.mem; written = h.written; number_is = h.number_is })

  accepts-if : (r : Result ℕ Refusal) → IfOk r (λ n. Appends a b f row n v w) → IfOk r (Accepts l a b f row)
  accepts-if (Ok n) h = accepts n h
  accepts-if (Err e) h = tt

pub kept-if : (a b : Books) (v w : LaneView) (r : Result ℕ Refusal) → IfErr r (λ e. (b ≡ a) × GoesOn a [] v w)
    → OnErr r (b ≡ a)
kept-if a b v w (Ok n) h = tt
kept-if a b v w (Err e) h = h.0

-- what a refusal leaves, by the books of the state
pub err-books : (s t : StateSeen) (a : Books) → s.books ≡ a → (v w : LaneView) (r : Result ℕ Refusal)
    → IfErr r (λ e. (t ≡ s) × GoesOn s.books [] v w) → IfErr r (λ e. (t.books ≡ a) × GoesOn a [] v w)
err-books s t a same v w (Ok n) h = tt
err-books s t a same v w (Err e) h =
    (ap (λ (z : StateSeen). z.books) h.0 ∙ same, subst (λ (z : Books). GoesOn z [] v w) same h.1)

-- without a switch
pub locked-add : (l : ℕ) (name : List ℕ) (row : Row) (a b : Books) (v w : LaneView) (f c : ℕ) (p : Clear l a name (Add f c))
    (r : Result ℕ Refusal) → v.known.lane ≡ l → IsAtDesk a [] v → IfOk r (λ n. Appends a b f row n v w)
    → IfErr r (λ e. (b ≡ a) × GoesOn a [] v w) → Refuses None r → PutsLocked l name row r a b v w
locked-add l name row a b v w f c p r lane d ok err ref = by r ok err
    (answers-add l a b name row r f c p (accepts-if l a b f row v w lane r ok) ref (kept-if a b v w r err))
  where
    by : (r : Result ℕ Refusal) → IfOk r (λ n. Appends a b f row n v w) → IfErr r (λ e. (b ≡ a) × GoesOn a [] v w)
        → Answers l name row r a b → PutsLocked l name row r a b v w
    by (Ok n) ok err said = record {
      answers = said;
      changes = changes-append a b f row n v w ok;
      met = (p.meant, has-met a b f row n v w ok p.meant.family p.is.0);
    }
    by (Err e) ok err said = record {
      answers = said;
      changes = subst (λ (z : Books). Changes a z v w) (sym err.0) (changes-none a v w d.own err.1);
      met = tt;
    }

-- the switch is refused
pub locked-switch-refused : (l : ℕ) (name : List ℕ) (row : Row) (a b : Books) (v w : LaneView) (f c : ℕ)
    (p : Clear l a name (Switch f c)) (e : Refusal) → IsAtDesk a [] v
    → IsDue (first_due (memtables_refusal a.memtables ∷ make_refusal a.supers ∷ [])) e → b ≡ a → GoesOn a [] v w
    → PutsLocked l name row (Err e) a b v w
locked-switch-refused l name row a b v w f c p e d due same goes = record {
  answers = switch-refused l a b name row f c p e due same;
  changes = subst (λ (z : Books). Changes a z v w) (sym same) (changes-none a v w d.own goes);
  met = tt;
}

-- after a switch
module _ (l : ℕ) (name : List ℕ) (row : Row) (a m b : Books) (v u w : LaneView) (f c k : ℕ)
    (p : Clear l a name (Switch f c)) (r : Result ℕ Refusal) (lane : v.known.lane ≡ l)
    (switched : SwitchesTo a m f v u k) (desk : IsAtDesk m [] u) where
  went : Switches f a m
  went = (switched.made, switched.switched, switched.installs.cleans)

  before : Changes a m v u
  before = changes-switch a m f k v u switched

  lane_u : u.known.lane ≡ l
  lane_u = ap (λ (z : LaneView). z.known.lane) switched.installs.is ∙ lane

  pub locked-switch : IfOk r (λ n. Appends m b f row n u w) → IfErr r (λ e. (b ≡ m) × GoesOn m [] u w) → Refuses None r
      → PutsLocked l name row r a b v w
  locked-switch ok err ref = by r ok err
      (answers-switch l a b name row r m f c p went (accepts-if l m b f row u w lane_u r ok) ref (kept-if m b u w r err))
    where
      by : (r : Result ℕ Refusal) → IfOk r (λ n. Appends m b f row n u w) → IfErr r (λ e. (b ≡ m) × GoesOn m [] u w)
          → Answers l name row r a b → PutsLocked l name row r a b v w
      by (Ok n) ok err said = record {
        answers = said;
        changes = changes-through a m b v u w before (changes-append m b f row n u w ok);
        met = (p.meant, has-met m b f row n u w ok p.meant.family p.is.0);
      }
      by (Err e) ok err said = record {
        answers = said;
        changes = changes-through a m b v u w before
            (subst (λ (z : Books). Changes m z u w) (sym err.0) (changes-none m u w desk.own err.1));
        met = tt;
      }

-- the desk after a switch
pub switched-desk : (a m : Books) (f k : ℕ) (v u : LaneView) → IsAtDesk a [] v → SwitchesTo a m f v u k
    → IsAtDesk m [] u
switched-desk a m f k v u d h = subst (IsAtDesk m []) (sym h.installs.is)
    (record { alive = d.alive; db = refl; cell = d.cell; own = h.installs.own })
