-- What a lane has after an open or a drop of a family: it is between two calls as before, and by its handles it means what
-- the books say.
use Rattle.std.proofs.Common.{List, Some, [], ap, arith, refl, set, subst, suc, sym, true, ℕ, ◌+◌, ◌∙◌, ◌∷◌, ◌≡◌}
use Rattle.std.specs.Prelude.{slice_get}
use Rattle.sv_borrows.proofs.Growing.{grows-fits, in-last}
use Rattle.sv_borrows.specs.Grown.{Grows}
use Rattle.sv_borrows.specs.Lending.{IsAtRest}
use Rattle.sv_handles.specs.Handling.{GivesHandle, turned_view}
use Rattle.sv_laws.proofs.GrownRegisters.{placed-set}
use Rattle.sv_model.proofs.AfterLaws.{continues-itself}
use Rattle.sv_model.specs.After.{After}
use Rattle.sv_model.specs.Books.{Books}
use Rattle.sv_model.specs.Lists.{Every, same, times}
use Rattle.sv_model.specs.Numbers.{IsRegistered}
use Rattle.sv_model.specs.Tasks.{Task}
use Rattle.sv_model.specs.declared.records.Family.{Family}
use Rattle.sv_model.specs.declared.records.FileStatus.TheVariants.{Gone}
use Rattle.sv_rule.specs.Fits.{Fits, IsGoneSnapshot}
use Rattle.sv_rule.specs.Views.{LaneView}
use Rattle.sv_turns.specs.Owned.{opens_family}

-- what it knows but for its handles
turned-grows : (a b : Books) (v : LaneView) → Grows v.known (turned_view a b v.known.task v).known
turned-grows a b v = record {
  base = refl;
  found = (a ∷ [], refl);
  left = (b ∷ [], refl);
  bodies = continues-itself v.known.bodies;
  rows = continues-itself v.known.rows;
  reads = continues-itself v.known.reads;
  seen = λ f. omega arith;
}

module _ (a b : Books) (t : Task) (v w : LaneView) (is : w ≡ turned_view a b t v) where
  -- it is at rest
  pub turned-rests : IsAtRest v → IsAtRest w
  turned-rests rest = subst IsAtRest (sym is) (record {
    free = record {
      alive = rest.free.alive;
      locks = rest.free.locks;
      ends = rest.free.ends;
      few = rest.free.few;
    };
    owes = rest.owes;
    away_all = rest.away_all;
  })

  -- Books that fit what it knows now fit what it knew before: of what it has of its own only handles changed.
  pub turned-fits : t.removed ≡ v.known.task.removed → t.ended ≡ v.known.task.ended → (c : Books) → Fits c w.known
      → Fits c v.known
  turned-fits removed ended c fits =
      let k = subst (λ (z : LaneView). Fits c z.known) is fits in
      grows-fits v.known (turned_view a b v.known.task v).known (turned-grows a b v) c (record {
        lawful = k.lawful;
        start = k.start;
        found = k.found;
        left = k.left;
        mine = k.mine;
        bodies = k.bodies;
        rows = k.rows;
        reads = k.reads;
        seen = k.seen;
        removed = subst (Every (λ n. IsRegistered c.files.numbers n Gone)) removed k.removed;
        ended = subst (Every (IsGoneSnapshot c.snapshots)) ended k.ended;
        round = k.round;
        frames = k.frames;
      })

  -- books that fit come after those that it left
  pub turned-after : (c : Books) → Fits c w.known → After b c
  turned-after c fits =
      let h = in-last v.known.left b in
      (subst (λ (z : LaneView). Fits c z.known) is fits).left h.at b h.is

-- ---- an open

module _ (l : ℕ) (name : List ℕ) (a b : Books) (v w : LaneView) (f : ℕ) (h : GivesHandle l name a b v w f) where
  -- the lane has one handle more, and it is of this family
  pub opened-count : (g : ℕ) → times g w.known.task.handles ≡ same g f + times g v.known.task.handles
  opened-count g = ap (λ (z : LaneView). times g z.known.task.handles) h.is

  pub opened-rests : IsAtRest v → IsAtRest w
  opened-rests = turned-rests a b (opens_family f v.known.task) v w h.is

  pub opened-fits : (c : Books) → Fits c w.known → Fits c v.known
  opened-fits = turned-fits a b (opens_family f v.known.task) v w h.is refl refl

  -- in all books that fit what it knows then, the family has the name
  pub opened-named : (c : Books) → Fits c w.known → (it : Family) × (slice_get c.families f ≡ Some it) × (it.name ≡ name)
  opened-named c fits =
      let after = turned-after a b (opens_family f v.known.task) v w h.is c fits in
      let o = h.opened in
      let x : Family = record o.it { handles = set o.it.handles l true } in
      let now : slice_get b.families f ≡ Some x = ap (λ (z : Books). slice_get z.families f) o.is
      ∙ (placed-set a.families f o.it x o.at).here in
      let y = after.families (suc f) x now in
      (y.0, y.1, y.2.name ∙ h.name_is)
