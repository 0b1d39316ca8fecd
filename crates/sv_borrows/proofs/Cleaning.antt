-- A lane that has the DB lock cleans a SuperVersion up.
use Rattle.std.proofs.Common.{List, Some, [], ap, arith, inr, inl, refl, subst, sym, ℕ, ◌+◌, ◌*◌, ◌<◌, ◌∙◌, ◌∷◌, ◌≡◌, ◌≤◌}
use Rattle.sv_borrows.specs.Desks.{GoesOn, IsAtDesk, IsCleanedUp, MayGo, at_desk, due_at, owed_of}
use Rattle.sv_borrows.proofs.Accounted.{accounted-still, went-free}
use Rattle.sv_borrows.proofs.Alike.{alike-itself}
use Rattle.sv_borrows.proofs.Lists.{without-first}
use Rattle.sv_laws.specs.Cleaning.{AreCellsGone, IsCleaned}
use Rattle.sv_model.specs.After.{After}
use Rattle.sv_model.specs.Books.{Books}
use Rattle.sv_model.specs.Lawful.{Lawful}
use Rattle.sv_model.specs.Lists.{Every, In, at, same, total}
use Rattle.sv_model.specs.Turns.{EndsSuper, Turns}
use Rattle.sv_model.specs.declared.records.SuperVersion.{SuperVersion}
use Rattle.sv_rule.specs.Blanks.{desk_of}
use Rattle.sv_rule.specs.Held.{Free}
use Rattle.sv_rule.specs.ReferencePlays.{MaySettle, settled}
use Rattle.sv_rule.specs.Sums.{without}
use Rattle.sv_rule.specs.Views.{Desk, LaneView, idle}
use Rattle.sv_rule.proofs.Sums.{same-self}
use Rattle.sv_slots.proofs.Laws.{desk_is_of}
use Rattle.sv_slots.specs.declared.refs.Owed.{Owed}
use Rattle.sv_slots.specs.declared.refs.Sub.{Sub}
use Rattle.sv_slots.specs.declared.refs.Sub.TheVariants.{Last}
use Rattle.sv_state.specs.Follows.{Follows}
use Rattle.sv_state.specs.Gone.{IsFree, SuperGoes}
use Rattle.sv_turns.specs.Called.{IsCalled}
use Rattle.sv_turns.proofs.Cleanups.{cleaned-ends, cleaned-turns}

-- nothing was owed
pub nothing-cleaned : (a : Books) (v : LaneView) → IsAtDesk a [] v → v.owes ≡ [] → IsCleanedUp a a v v
nothing-cleaned a v at_d none = (
  inl refl,
  at_d.own,
  (
    v.known.seen,
    alike-itself v.known.seen,
    λ i. record v {
      locks = record v.locks { db = at_d.db i };
      owes = none i;
    },
  ),
)

module _ (a b : Books) (v : LaneView) (at_d : IsAtDesk a [] v) (s : ℕ) (x : SuperVersion) (h : IsCleaned a b s x)
    (lawful : Lawful b) (later : After a b) (cells : List ℕ) (gone : AreCellsGone a.memtables b.memtables cells)
    (p : ℕ) (p_is : p ≡ s * 256 + x.place) (owes : v.owes ≡ p ∷ []) where
  called : IsCalled v.known.lane a v.known.task b
  called = record { own = at_d.own; lawful = lawful; later = later }

  turns : Turns v.known.lane a v.known.task b v.known.task []
  turns = cleaned-turns v.known.lane a b v.known.task called s x h

  pub may-settle : 256 ≤ p → MaySettle v p b v.known.task cells
  may-settle big = record {
    alive = at_d.alive;
    desk = record { books = a; work = idle; due = [] };
    has = at_d.db;
    big = big;
    owed = omega (arith, ap (total (same p)) owes, same-self p);
    turns = turns;
    gone = subst (λ (n : ℕ). EndsSuper a b n cells) (sym p_is)
        (cleaned-ends v.known.lane a b v.known.task called s x h cells gone);
    cell = at_d.cell;
  }

  module _ (w : LaneView) (is : w ≡ settled p b v.known.task cells (desk_of v) v) where
    view_is : w ≡ record v { locks = record v.locks { db = Some (record { books = b; work = idle; due = cells }) }; owes = [] }
    view_is =
        let d : desk_of v ≡ record { books = a; work = idle; due = [] } = desk_is_of v (record { books = a; work = idle; due = [] }) at_d.db in
        is ∙ ap (λ (k : Desk). settled p b v.known.task cells k v) d
        ∙ ap (λ (l : List ℕ). record v { locks = record v.locks { db = Some (record { books = b; work = idle; due = cells }) }; owes = l })
        (ap (without p) owes ∙ without-first p [])

    pub settled-desk : IsAtDesk b (due_at w) w
    settled-desk = subst (λ (z : LaneView). IsAtDesk b (due_at z) z) (sym view_is) (record {
      alive = at_d.alive;
      db = refl;
      cell = at_d.cell;
      own = accounted-still v.known.lane a b v.known.task at_d.own turns;
    })

    pub settled-due : Every (λ c. In c cells) (due_at w)
    settled-due = subst (λ (z : LaneView). Every (λ c. In c cells) (due_at z)) (sym view_is)
        (λ i c e. record { at = i; is = e })

    pub cleaned-up : (u : LaneView) → GoesOn b [] w u → IsCleanedUp a b v u
    cleaned-up u k = (
      inr (s, x, h),
      accounted-still v.known.lane a b v.known.task at_d.own turns,
      (k.0, (λ f. k.1 f ∙ ap (λ (z : LaneView). at 0 z.known.seen f) view_is), k.2 ∙ ap (at_desk b [] k.0) view_is),
    )

-- ---- of what is owed

module _ (a m b : Books) (same_books : m ≡ a) (v : LaneView) (at_d : IsAtDesk a [] v) (left : Sub) (owed : Owed)
    (is : left ≡ Last owed) (owes : (v.owes ≡ owed_of left) × MayGo a left) (p : ℕ) (p_same : p ≡ owed.pack)
    (cells : List ℕ) (gone : (free : IsFree m p) → SuperGoes m free.serial free.it b cells) (follows : Follows m b) where
  go : MayGo a (Last owed)
  go = subst (MayGo a) is owes.1

  free : IsFree m p
  free = subst (λ (z : Books × ℕ). IsFree z.0 z.1) (λ i. (sym same_books i, sym p_same i)) go.1

  goes : SuperGoes a free.serial free.it b cells
  goes = subst (λ (z : Books). SuperGoes z free.serial free.it b cells) same_books (gone free)

  comes : Follows a b
  comes = subst (λ (z : Books). Follows z b) same_books follows

  one : v.owes ≡ owed.pack ∷ []
  one = owes.0 ∙ ap owed_of is

  pack_is : owed.pack ≡ free.serial * 256 + free.it.place
  pack_is = sym p_same ∙ free.pack_is

  pub owed-settles : MaySettle v owed.pack b v.known.task cells
  owed-settles = may-settle a b v at_d free.serial free.it goes.cleaned comes.sound.lawful comes.after cells goes.cells_are
      owed.pack pack_is one go.0

  pub owed-free : Every (λ c. (c < 64) × Free b.memtables c) cells
  owed-free = went-free a b at_d.own.lawful free.serial free.it goes.cleaned cells goes.cells_are

  module _ (w : LaneView) (settles : w ≡ settled owed.pack b v.known.task cells (desk_of v) v) where
    pub owed-desk : IsAtDesk b (due_at w) w
    owed-desk = settled-desk a b v at_d free.serial free.it goes.cleaned comes.sound.lawful comes.after cells goes.cells_are
        owed.pack pack_is one w settles

    pub owed-due : Every (λ c. In c cells) (due_at w)
    owed-due = settled-due a b v at_d free.serial free.it goes.cleaned comes.sound.lawful comes.after cells goes.cells_are
        owed.pack pack_is one w settles

    pub owed-cleaned : (u : LaneView) → GoesOn b [] w u → IsCleanedUp a b v u
    owed-cleaned u k = cleaned-up a b v at_d free.serial free.it goes.cleaned comes.sound.lawful comes.after cells
        goes.cells_are owed.pack pack_is one w settles u k
