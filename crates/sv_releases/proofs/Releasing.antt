-- A release takes the DB lock and gives it.
use Rattle.std.proofs.Common.{Err, List, None, Ok, Result, Some, [], ap, arith, inl, inr, refl, subst, sym, ℕ, ⊎_elim, ◌++◌, ◌+◌, ◌∙◌, ◌∷◌, ◌≡◌, ◌≤◌}
use Rattle.std.specs.Prelude.{IfErr, IfOk}
use mathlib.Core.Logic.{dite}
use native.Mathlib.Decide.{dec_le}
use Rattle.sv_borrows.specs.Grown.{Cleans}
use Rattle.sv_borrows.specs.Lending.{IsFree}
use Rattle.sv_family.specs.Refused.{release_refusal}
use Rattle.sv_laws.specs.Families.{IsReleased, IsRetired, released}
use Rattle.sv_model.specs.Books.{Books}
use Rattle.sv_model.specs.Lists.{at, times}
use Rattle.sv_model.specs.Refusals.{RefusesExactly}
use Rattle.sv_model.specs.Tasks.{Task, handle, handle_in}
use Rattle.sv_model.specs.Turns.{IsAccounted}
use Rattle.sv_model.specs.declared.records.Family.{Family}
use Rattle.sv_model.specs.declared.refusals.Refusal.{Refusal}
use Rattle.sv_releases.proofs.Lost.{bit-on, lost, lost-none, lost-one}
use Rattle.sv_releases.specs.Releasing.{Answers, ClosesLocked, IsMeant, Releases, ReleasesLocked, Retires, gone_on, release_view}
use Rattle.sv_rule.proofs.Basics.{append_none}
use Rattle.sv_rule.specs.Blanks.{desk_of}
use Rattle.sv_rule.specs.LockPlays.{IsTold, MayGiveDb, gave_db, took_db}
use Rattle.sv_rule.specs.Sums.{put, without}
use Rattle.sv_rule.specs.Views.{Bodied, Desk, LaneView, Locks, idle}
use Rattle.sv_slots.proofs.Laws.{desk_is_of}
use Rattle.sv_slots.proofs.Unchanged.{gives_found}
use Rattle.sv_turns.specs.Owned.{releases}

add-none : (n : ℕ) → n ≡ n + 0
add-none n = omega arith

-- what the lane has of its own as it gives the books b
abbrev pub task_left : Books → LaneView → Task
task_left b w = record w.known.task {
  handles = lost w.known.lane (desk_of w).books.families b.families 0 w.known.task.handles;
}

module _ (v : LaneView) (free : IsFree v) (a : Books) (u : LaneView) (took : u ≡ took_db a v) (told : IsTold v a)
    (name : List ℕ) (b : Books) (w : LaneView) where
  abbrev l : ℕ
  l = v.known.lane

  own-task : Task
  own-task = v.known.task

  -- the lane has a handle of the family that it means
  held : (f : ℕ) → IsMeant l name a f → 1 ≤ times f v.known.task.handles
  held f meant = dite (dec_le 1 f)
      (λ other. omega (arith, told.accounted.handles f other, one))
      (λ n.
      let first : f ≡ 0 = omega (arith, n) in
      omega (arith, told.accounted.default, ap (λ (k : ℕ). times k v.known.task.handles) first))
    where
      one : handle a.families l f ≡ 1
      one = ap (handle_in l) meant.at ∙ bit-on meant.it.handles l meant.own.handle

  locks : record v.locks { db = None } ≡ v.locks
  locks = ap (λ (k : Locks). record k { db = None }) free.locks ∙ sym free.locks

  -- what is to be shown: the state may be given, and then the release is as it should
  abbrev Ends : Result (Unit {0}) Refusal → Type 0
  Ends r = MayGiveDb w b (task_left b w)
      × ((z : LaneView) → z ≡ gave_db b (task_left b w) w → Releases l name r v z)

  -- ---- the lane did nothing to the table

  module _ (same : w ≡ u) where
    here : w ≡ took_db a v
    here = same ∙ took

    left-is : task_left b w ≡ record v.known.task { handles = lost l a.families b.families 0 v.known.task.handles }
    left-is = ap (task_left b) here

    still : (t : Task) → task_left b w ≡ t → (r : Result (Unit {0}) Refusal) → Answers l name r a b v.known.task t
        → (z : LaneView) → z ≡ gave_db b (task_left b w) w → Releases l name r v z
    still t t_is r answers z gave = record {
      found = a;
      left = b;
      fits = told.fits;
      task = t;
      answers = answers;
      more = [];
      seen = v.known.seen;
      looked = v.slots.looked;
      adds = 0;
      alike = λ g. refl;
      is = gave ∙ (λ i. gave_db b (t_is i) (here i))
          ∙ (λ i. record (release_view a b t [] v.known.seen v.slots.looked 0 v) {
            known = record v.known {
              found = v.known.found ++ a ∷ [];
              left = v.known.left ++ b ∷ [];
              bodies = append_none v.known.bodies i;
              task = t;
            };
            locks = locks i;
            counts = record v.counts { adds = add-none v.counts.adds i };
          });
    }

    pub ends-refused : (e : Refusal) → release_refusal a.families l name ≡ Some e → b ≡ a → Ends (Err e)
    ends-refused e due kept = (
      subst (λ (z : LaneView × Books × Task). MayGiveDb z.0 z.1 z.2) (λ i. (sym here i, sym kept i, sym task-is i))
          (gives_found (took_db a v) (record { books = a; work = idle; due = [] }) free.alive refl refl refl
          (ap (λ (k : Locks). k.cell) free.locks) told.accounted),
      still v.known.task task-is (Err e) (record { refused = due; closes = tt; stays = (kept, refl) }),
    )
      where
        task-is : task_left b w ≡ v.known.task
        task-is = left-is
            ∙ ap (λ (n : List ℕ). record v.known.task { handles = n })
            (ap (λ (z : Books). lost l a.families z.families 0 v.known.task.handles) kept
            ∙ lost-none l a.families 0 v.known.task.handles)

    module _ (f : ℕ) (meant : IsMeant l name a f) (is : IsReleased a b f l) (none : release_refusal a.families l name ≡ None) where
      closed-task : task_left b w ≡ releases f v.known.task
      closed-task = left-is
          ∙ ap (λ (n : List ℕ). record v.known.task { handles = n })
          (ap (λ (z : Books). lost l a.families z.families 0 v.known.task.handles) is.is
          ∙ lost-one l a.families f is.it is.at is.handle 0 v.known.task.handles
          ∙ ap (λ (k : ℕ). without k v.known.task.handles) (omega arith))

      pub ends-closed : MayGiveDb u b (releases f u.known.task) → Ends (Ok tt)
      ends-closed gives = (
        subst (λ (z : LaneView × Task). MayGiveDb z.0 b z.1)
            (λ i. (sym same i, (ap (λ (y : LaneView). releases f y.known.task) took ∙ sym closed-task) i)) gives,
        still (releases f v.known.task) closed-task (Ok tt) (record {
          refused = none;
          closes = (f, meant, inl is, held f meant, refl);
          stays = tt;
        }),
      )

  -- ---- the family is retired

  module _ (f : ℕ) (meant : IsMeant l name a f) (m : Books) (is : IsRetired a m f l)
      (k : Retires f m b (releases f u.known.task) u w) (none : release_refusal a.families l name ≡ None) where
    abbrev t : Task
    t = releases f v.known.task

    retired-here : w ≡ gone_on b t k.more k.seen (put 0 v.slots.looked f 0) 1 (took_db a v)
    retired-here = k.is ∙ ap (λ (y : LaneView). gone_on b (releases f y.known.task) k.more k.seen (put 0 y.slots.looked f 0) 1 y) took

    retired-task : task_left b w ≡ t
    retired-task = ap (task_left b) retired-here
        ∙ ap (λ (n : List ℕ). record v.known.task { handles = n }) (lost-none l b.families 0 t.handles)

    pub ends-retired : Ends (Ok tt)
    ends-retired = (
      subst (λ (z : LaneView × Task). MayGiveDb z.0 b z.1) (λ i. (sym retired-here i, sym retired-task i))
          (gives_found (gone_on b t k.more k.seen (put 0 v.slots.looked f 0) 1 (took_db a v))
          (record { books = b; work = idle; due = [] }) free.alive refl refl refl (ap (λ (k : Locks). k.cell) free.locks)
          (subst (λ (y : LaneView). IsAccounted y.known.lane b (releases f y.known.task)) took k.own)),
      λ z gave. record {
        found = a;
        left = b;
        fits = told.fits;
        task = t;
        answers = record { refused = none; closes = (f, meant, inr (m, is, k.cleans), held f meant, refl); stays = tt };
        more = k.more;
        seen = k.seen;
        looked = put 0 v.slots.looked f 0;
        adds = 1;
        alike = λ g. k.alike g ∙ ap (λ (y : LaneView). at 0 y.known.seen g) took;
        is = gave ∙ (λ i. gave_db b (retired-task i) (retired-here i))
            ∙ (λ i. record (release_view a b t k.more k.seen (put 0 v.slots.looked f 0) 1 v) { locks = locks i });
      },
    )

  pub ends : (r : Result (Unit {0}) Refusal) → ReleasesLocked l name r a b u w → Ends r
  ends (Err e) h = ends-refused h.stays.1 e h.refused h.stays.0
  ends (Ok tt) h =
      let c = h.closes in
      ⊎_elim
      (λ k. ends-closed k.2 c.0 c.1 k.0 h.refused k.1)
      (λ k. ends-retired c.0 c.1 k.0 k.1 k.2 h.refused)
      c.2

  -- of the lane by its number
  pub ends-of : (lane : ℕ) → lane ≡ v.known.lane → (r : Result (Unit {0}) Refusal) → ReleasesLocked lane name r a b u w
      → MayGiveDb w b (task_left b w)
      × ((z : LaneView) → z ≡ gave_db b (task_left b w) w → Releases lane name r v z)
  ends-of lane is r h =
      let both = ends r (subst (λ (n : ℕ). ReleasesLocked n name r a b u w) is h) in (
        both.0,
        λ z gave. subst (λ (n : ℕ). Releases n name r v z) (sym is) (both.1 z gave),
      )
