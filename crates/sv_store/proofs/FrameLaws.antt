-- The store stands where what it rests on is as it was.
use Rattle.std.proofs.Common.{◌≡◌, ◌⊎◌, ℕ, List, Option, Some, None, set, sym, ap, ◌∙◌, subst, false}
use Rattle.std.specs.Prelude.{IfOk, OnErr, OnOk, Ok, Err, Result, slice_get}
use mathlib.Core.Logic.{dite}
use native.Mathlib.Decide.{ℕ_discrete}
use Rattle.sv_model.specs.declared.records.Family.{Family}
use Rattle.sv_model.specs.declared.records.Memtable.{Memtable}
use Rattle.sv_model.specs.declared.writes.Write.{Write}
use Rattle.sv_model.specs.declared.records.Top.{Top}
use Rattle.sv_model.specs.declared.refusals.Refusal.{Refusal}
use Rattle.sv_model.specs.Books.{Books}
use Rattle.sv_model.specs.Cells.{Cell}
use Rattle.sv_model.specs.Families.{is_retired}
use Rattle.sv_model.specs.Named.{HasCurrent}
use Rattle.sv_model.specs.Registers.{entry}
use Rattle.sv_model.specs.Steady.{Sound}
use Rattle.sv_laws.specs.Families.{IsDropped, IsOpened}
use Rattle.sv_laws.specs.Snapping.{IsSnapped}
use Rattle.sv_laws.proofs.GrownRegisters.{placed-set}
use Rattle.sv_laws.proofs.Handles.{not-retired, not-retired-open}
use Rattle.sv_state.specs.Currents.{HasCurrentAt, OwnHaveCurrents}
use Rattle.sv_state.specs.Seen.{StateSeen}
use Rattle.sv_state.specs.Taken.{IsEnded}
use Rattle.sv_store.specs.Cells.{CellsHold}
use Rattle.sv_store.specs.Standing.{IsStill, Rests, Stands}

-- the lane has a current by each name that it means something by
pub own-currents : (b : Books) (cells : List (Option Cell)) → Stands b cells None → (lane : ℕ) (name : List ℕ) → OwnHaveCurrents b lane name
own-currents b cells h lane name f x at own = h.currents f x at (not-retired x lane own.handle)

module _ (a b : Books) (cells : List (Option Cell)) (h : Stands a cells None) (sound : Sound b) where
  -- the same SuperVersions, families and currents, and other cells
  pub cells-stand : (new : List (Option Cell)) → b.supers ≡ a.supers → b.families ≡ a.families → b.tops ≡ a.tops → CellsHold b.journal b.memtables new → Stands b new None
  cells-stand new supers families tops hold = record {
    sound = sound;
    currents = λ f x at stands.
        let c = h.currents f x (ap (λ l. slice_get l f) (sym families) ∙ at) stands in
        record { top = c.top; at = ap (λ l. slice_get l f) tops ∙ c.at; serial = c.serial; is = c.is };
    alone = λ n x at live.
        let k = h.alone n x (ap (λ l. entry l n) (sym supers) ∙ at) live in
        subst (λ (T : List Top). HasCurrent T n ⊎ ⊥) (sym tops) k;
    goes = tt;
    cells_hold = hold;
  }

  pub same-stands : b.supers ≡ a.supers → b.families ≡ a.families → b.tops ≡ a.tops → b.journal ≡ a.journal → b.memtables ≡ a.memtables → Stands b cells None
  same-stands supers families tops journal memtables =
      cells-stand cells supers families tops
      (subst (λ (z : List Write × List Memtable). CellsHold z.0 z.1 cells) (λ i. (sym journal i, sym memtables i)) h.cells_hold)

  -- a family that is not retired changes, and its current stands
  pub family-stands : (f : ℕ) (it y : Family) → slice_get a.families f ≡ Some it → is_retired it ≡ false → b ≡ record a { families = set a.families f y } → Stands b cells None
  family-stands f it y at open_ is = record {
    sound = sound;
    currents = λ g x e stands.
        let c : HasCurrentAt a g = dite (ℕ_discrete g f)
        (λ q. subst (HasCurrentAt a) (sym q) (h.currents f it at open_))
        (λ q. h.currents g x (sym ((placed-set a.families f it y at).others g q) ∙ ap (λ (z : Books). slice_get z.families g) (sym is) ∙ e) stands) in
        record { top = c.top; at = ap (λ (z : Books). slice_get z.tops g) is ∙ c.at; serial = c.serial; is = c.is };
    alone = λ n x e live.
        let k = h.alone n x (ap (λ (z : Books). entry z.supers n) (sym is) ∙ e) live in
        subst (λ (z : Books). HasCurrent z.tops n ⊎ ⊥) (sym is) k;
    goes = tt;
    cells_hold = subst (λ (z : Books). CellsHold z.journal z.memtables cells) (sym is) h.cells_hold;
  }

-- ---- families

pub opened-rests : (a b : StateSeen) (cells : List (Option Cell)) → Rests a.books cells → Sound b.books → (lane : ℕ) (r : Result ℕ Refusal)
    → IfOk r (λ id. IsOpened a.books b.books id lane) → OnErr r (b ≡ a) → Rests b.books cells
opened-rests a b cells h sound lane (Ok f) o k = record {
  stands = family-stands a.books b.books cells h.stands sound f o.it _ o.at (not-retired-open o.it o.stands) o.is;
  still = subst (λ (z : Books). IsStill z.files) (sym o.is) h.still;
}
opened-rests a b cells h sound lane (Err e) o k = subst (λ (z : StateSeen). Rests z.books cells) (sym k) h

pub dropped-rests : (a b : StateSeen) (cells : List (Option Cell)) → Rests a.books cells → Sound b.books → (lane : ℕ) (r : Result ℕ Refusal)
    → IfOk r (λ id. IsDropped a.books b.books id lane) → OnErr r (b ≡ a) → Rests b.books cells
dropped-rests a b cells h sound lane (Ok f) o k = record {
  stands = family-stands a.books b.books cells h.stands sound f o.it _ o.at (not-retired o.it lane o.handle) o.is;
  still = subst (λ (z : Books). IsStill z.files) (sym o.is) h.still;
}
dropped-rests a b cells h sound lane (Err e) o k = subst (λ (z : StateSeen). Rests z.books cells) (sym k) h

-- ---- file numbers and snapshots

-- only file numbers changed, and they are still
pub files-rests : (a b : Books) (cells : List (Option Cell)) → Rests a cells → Sound b → b ≡ record a { files = b.files } → IsStill b.files → Rests b cells
files-rests a b cells h sound is still = record {
  stands = same-stands a b cells h.stands sound (ap (λ (z : Books). z.supers) is) (ap (λ (z : Books). z.families) is) (ap (λ (z : Books). z.tops) is)
      (ap (λ (z : Books). z.journal) is) (ap (λ (z : Books). z.memtables) is);
  still = still;
}

pub snapshots-rests : (a b : Books) (cells : List (Option Cell)) → Rests a cells → Sound b → b ≡ record a { snapshots = b.snapshots } → Rests b cells
snapshots-rests a b cells h sound is = record {
  stands = same-stands a b cells h.stands sound (ap (λ (z : Books). z.supers) is) (ap (λ (z : Books). z.families) is) (ap (λ (z : Books). z.tops) is)
      (ap (λ (z : Books). z.journal) is) (ap (λ (z : Books). z.memtables) is);
  still = subst (λ (z : Books). IsStill z.files) (sym is) h.still;
}

pub snapped-rests : {T : Type 0} (a b : StateSeen) (cells : List (Option Cell)) → Rests a.books cells → Sound b.books → (X Y : T → Type 0) (r : Result T Refusal)
    → IfOk r (λ made. IsSnapped a.books b.books × X made × Y made) → OnErr r (b ≡ a) → Rests b.books cells
snapped-rests a b cells h sound X Y (Ok n) o k =
    snapshots-rests a.books b.books cells h sound (o.0.is ∙ ap (λ l. record a.books { snapshots = l }) (sym (ap (λ (z : Books). z.snapshots) o.0.is)))
snapped-rests a b cells h sound X Y (Err e) o k = subst (λ (z : StateSeen). Rests z.books cells) (sym k) h

pub unsnapped-rests : {T : Type 0} (a b : StateSeen) (cells : List (Option Cell)) → Rests a.books cells → Sound b.books → (id : ℕ) (r : Result T Refusal)
    → OnOk r (IsEnded a.books id b.books) → OnErr r (b ≡ a) → Rests b.books cells
unsnapped-rests a b cells h sound id (Ok n) o k =
    snapshots-rests a.books b.books cells h sound (o.is.is ∙ ap (λ l. record a.books { snapshots = l }) (sym (ap (λ (z : Books). z.snapshots) o.is.is)))
unsnapped-rests a b cells h sound id (Err e) o k = subst (λ (z : StateSeen). Rests z.books cells) (sym k) h
