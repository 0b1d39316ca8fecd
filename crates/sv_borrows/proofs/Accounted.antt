-- What a lane has of its own after a cleanup, or a write, is the books' still.
use Rattle.std.proofs.Common.{List, Some, [], ap, arith, subst, sym, refl, ℕ, zero, suc, ◌∷◌, ◌∙◌, ◌≡◌, ◌≤◌, ◌<◌, ◌/◌, ◌%◌, ◌+◌, ◌*◌, ◌≢◌}
use Rattle.std.specs.Prelude.{slice_get, length}
use Rattle.sv_borrows.specs.Desks.{MayGo, owed_of}
use Rattle.sv_laws.specs.Cleaning.{AreCellsGone, IsCleaned}
use Rattle.sv_model.specs.Books.{Books}
use Rattle.sv_model.specs.Lawful.{Lawful}
use Rattle.sv_model.specs.Lists.{Every, In}
use Rattle.sv_model.specs.Named.{IsLiveMemtable}
use Rattle.sv_model.specs.Registers.{entry}
use Rattle.sv_model.specs.Supers.{LiveAt, current_of, pack_at, pack_of_serial, current_serial}
use Rattle.sv_model.specs.Tasks.{Task}
use Rattle.sv_model.specs.Turns.{IsAccounted, Turns}
use Rattle.sv_model.specs.declared.records.Memtable.{Memtable}
use Rattle.sv_model.specs.declared.records.SuperVersion.{SuperVersion}
use Rattle.sv_model.specs.declared.records.Top.{Top}
use Rattle.sv_model.specs.declared.writes.Write.{Write}
use Rattle.sv_model.proofs.Entries.{get_none, in-left, some}
use Rattle.sv_rule.specs.Held.{Free}
use Rattle.sv_rule.specs.LockPlays.{IsTold}
use Rattle.sv_rule.specs.Views.{LaneView}
use Rattle.sv_slots.specs.declared.refs.Sub.{Sub}
use Rattle.sv_slots.specs.declared.refs.Sub.TheVariants.{Last, More}
use Rattle.sv_state.specs.Gone.{IsFree}

pub accounted-still : {more : List Write} (l : ℕ) (a b : Books) (t : Task) → IsAccounted l a t → Turns l a t b t more
    → IsAccounted l b t
accounted-still l a b t c h = record {
  lawful = h.counts.lawful;
  quiet = h.counts.quiet;
  loud = h.counts.loud;
  holds = omega (arith, c.holds, h.counts.holds);
  handles = λ f some. omega (arith, c.handles f some, h.counts.handles f);
  default = c.default;
  output = λ o e. (
    omega (arith, (c.output o e).0, h.counts.outputs o.meta.number),
    (let w = h.counts.later.metas in subst (In o.meta) (sym w.1) (in-left o.meta a.metas w.0 (c.output o e).1)),
  );
  job = λ k i. omega (arith, c.job k i, h.counts.grabbed k.number);
  jobs = omega (arith, c.jobs, h.counts.jobs);
}

-- ---- cells of memtables that went

-- no memtable that is not Gone has such a cell, and it is one of the table's
pub went-free : (a b : Books) → Lawful a → (s : ℕ) (x : SuperVersion) → IsCleaned a b s x → (cells : List ℕ)
    → AreCellsGone a.memtables b.memtables cells → Every (λ c. (c < 64) × Free b.memtables c) cells
went-free a b lawful s x h cells gone i c e =
    let w = (gone.exact c).0 (record { at = i; is = e }) in
    let cell = lawful.cells w.id w.it w.at w.was_live in (
      omega (arith, cell.0, w.is),
      λ o. let was = ((h.memtables.exact o.id).0 (record { it = o.it; at = o.at; live = o.live })).0 in
          let mem : was.it.cell ≡ w.it.cell = same_cell o.id o.it o.at was.it was.at ∙ o.is ∙ sym w.is in
          let id : o.id ≡ w.id = cell.1 o.id was.it was.at was.live mem in
          w.gone (subst (λ n. IsLiveMemtable b.memtables n) id
          (record { it = o.it; at = o.at; live = o.live })),
    )
  where
    same_cell : (n : ℕ) (y : Memtable) → entry b.memtables n ≡ Some y → (z : Memtable) → entry a.memtables n ≡ Some z
        → z.cell ≡ y.cell
    same_cell n y d z q = let k = h.memtables.goes n z q in
        sym k.2.cell ∙ ap (λ (m : Memtable). m.cell) (some (sym k.1 ∙ d))

-- ---- what is owed may go

get-lt : {A : Type 0} (l : List A) (n : ℕ) (x : A) → slice_get l n ≡ Some x → n < length l
get-lt [] n x e = absurd (get_none n x e)
get-lt (y ∷ l) zero x e = omega arith
get-lt (y ∷ l) (suc n) x e = omega (arith, get-lt l n x e)

current_is : (b : Books) (f s : ℕ) (t : Top) (x : SuperVersion) → slice_get b.tops f ≡ Some t → t.current ≡ Some s
    → entry b.supers s ≡ Some x → current_of b f ≡ s * 256 + x.place
current_is b f s t x at is has =
    ap (λ o. pack_of_serial b.supers (current_serial o)) at ∙ ap (pack_of_serial b.supers) is ∙ ap (pack_at s) has

-- a SuperVersion that is Live, and current of no family, may be cleaned up
pub is-free : (b : Books) → Lawful b → (p : ℕ) → LiveAt b.supers (p / 256) (p % 256)
    → ((f : ℕ) → f < 16 → p ≢ current_of b f) → IsFree b p
is-free b lawful p live none = record {
  serial = p / 256;
  it = live.sv;
  at = live.is;
  live = live.live;
  pack_is = omega (arith, live.place_is);
  free = λ f t at is. none f (near f t at)
      (omega (arith, live.place_is, current_is b f (p / 256) t live.sv at is live.is));
}
  where
    near : (f : ℕ) (t : Top) → slice_get b.tops f ≡ Some t → f < 16
    near f t at = omega (arith, get-lt b.tops f t at, lawful.paired, lawful.limits.families)

-- what a taking of the DB lock tells of what a lane owes
pub may-go : (b : Books) (v : LaneView) → IsTold v b → (left : Sub) → v.owes ≡ owed_of left → Every (λ p. 256 ≤ p) (owed_of left)
    → MayGo b left
may-go b v told More owes big = tt
may-go b v told (Last owed) owes big =
    let p = owed.pack in
    let large : 256 ≤ p = big 0 p refl in
    let h = told.owed p large (record { at = 0; is = ap (λ l. slice_get l 0) owes }) in
    (large, is-free b told.accounted.lawful p h.0 h.1)
