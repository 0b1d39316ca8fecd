-- A flush and a compaction that end: the current before waits, and goes.
use Rattle.std.proofs.Common.{◌≡◌, ◌+◌, ◌++◌, ◌∷◌, ℕ, List, [], length, Option, Some, None, refl, sym, ap, ◌∙◌, subst}
use Rattle.std.specs.Prelude.{slice_get, slice_set}
use Rattle.sv_model.specs.declared.records.FileMeta.{FileMeta}
use Rattle.sv_model.specs.declared.records.Family.{Family}
use Rattle.sv_model.specs.declared.records.FileStatus.TheVariants.{Live, Obsolete}
use Rattle.sv_model.specs.declared.records.Memtable.{Memtable}
use Rattle.sv_model.specs.declared.records.SuperVersion.{SuperVersion}
use Rattle.sv_model.specs.declared.records.Top.{Top}
use Rattle.sv_model.specs.declared.writes.Write.{Write}
use Rattle.sv_model.specs.declared.sv_refs.SvRef.{SvRef}
use Rattle.sv_model.specs.Books.{Books}
use Rattle.sv_model.specs.Cells.{Cell}
use Rattle.sv_model.specs.Numbers.{IsSettled}
use Rattle.sv_model.specs.Registers.{entry}
use Rattle.sv_model.specs.Steady.{Sound}
use Rattle.sv_model.proofs.Registers.{entry-old}
use Rattle.sv_laws.specs.Captures.{IsFileCaptured, IsGivenUp}
use Rattle.sv_laws.specs.Growing.{IsPlaced}
use Rattle.sv_laws.specs.Installs.{IsOpen, live_super, next_top}
use Rattle.sv_laws.specs.NewCurrents.{IsCompacted, IsFlushed}
use Rattle.sv_laws.proofs.Apart.{grabbed_live, obsolete_grabbed}
use Rattle.sv_laws.proofs.GrownRegisters.{placed-set}
use Rattle.sv_laws.proofs.Settled.{settled_only}
use Rattle.sv_objects.specs.declared.bodies.Body.{Body}
use Rattle.sv_state.specs.Finishing.{CanFinish}
use Rattle.sv_state.specs.Refs.{IsKept}
use Rattle.sv_store.specs.Cells.{CellsHold}
use Rattle.sv_store.specs.Going.{PackGoes, Renews}
use Rattle.sv_store.specs.Installing.{CanInstall}
use Rattle.sv_store.specs.Standing.{IsStill, Stands}
use Rattle.sv_store.specs.Writing.{CanObey}
use Rattle.sv_store.proofs.OutputLaws.{open-current, settled-still}
use Rattle.sv_store.proofs.StandLaws.{current-goes, installed-stands}
use Rattle.sv_store.proofs.StillLaws.{cleaned-still}

-- the family of the captured number is this one
pub same-family : (a : Books) (cells : List (Option Cell)) (f g : ℕ) (file : FileMeta) → CanInstall a cells f file → (now : _) (F : _) → IsSettled g file.number now a.files F → f ≡ g
same-family a cells f g file can now F st = settled_only g file.number now a.files F st can.stands.sound.lawful.numbers f file.number can.captured refl

pub can-finish : (a : Books) (cells : List (Option Cell)) (f : ℕ) (file : FileMeta) → CanInstall a cells f file → CanFinish a f file
can-finish a cells f file can = record {
  it = can.is_open.family;
  at = can.is_open.family_at;
  captured = can.captured;
  covered = can.covered;
  current = λ q. open-current a f can.serial can.it can.is_open;
}

-- ---- the family has a new current

-- its new current is over the Version made last, and its memtables, the families and the journal are as they were
pub record IsOverLast (a m : Books) (f : ℕ) : Type 0 where
  pub s : ℕ
  pub c : SuperVersion
  pub is_open : IsOpen a f s c
  pub x : SuperVersion
  pub supers : m.supers ≡ a.supers ++ x ∷ []
  pub tops : m.tops ≡ slice_set a.tops f (next_top a (length a.versions + 1))
  pub families : m.families ≡ a.families
  pub journal : m.journal ≡ a.journal
  pub memtables : m.memtables ≡ a.memtables

pub flushed-over : (a m : Books) (f : ℕ) (file : FileMeta) → IsFlushed a m f file → IsOverLast a m f
flushed-over a m f file w = record {
  s = w.s;
  c = w.c;
  is_open = w.is_open;
  x = live_super (record w.c.descriptor { list = length a.lists + 1; version = length a.versions + 1 }) w.place;
  supers = ap (λ (z : Books). z.supers) w.is;
  tops = ap (λ (z : Books). z.tops) w.is;
  families = ap (λ (z : Books). z.families) w.is;
  journal = ap (λ (z : Books). z.journal) w.is;
  memtables = ap (λ (z : Books). z.memtables) w.is;
}

pub compacted-over : (a m : Books) (f : ℕ) (file : FileMeta) → IsCompacted a m f file → IsOverLast a m f
compacted-over a m f file w = record {
  s = w.s;
  c = w.c;
  is_open = w.is_open;
  x = live_super (record w.c.descriptor { version = length a.versions + 1 }) w.place;
  supers = ap (λ (z : Books). z.supers) w.is;
  tops = ap (λ (z : Books). z.tops) w.is;
  families = ap (λ (z : Books). z.families) w.is;
  journal = ap (λ (z : Books). z.journal) w.is;
  memtables = ap (λ (z : Books). z.memtables) w.is;
}

module _ (a m : Books) (cells : List (Option Cell)) (h : Stands a cells None) (sound : Sound m) (f : ℕ) (w : IsOverLast a m f)
    (old : Option (SvRef Body)) (kept : (t : Top) → slice_get a.tops f ≡ Some t → IsKept a t.current old) where
  abbrev last : Top
  last = next_top a (length a.versions + 1)

  -- the current before waits
  pub over-obeys : CanObey m cells None old
  over-obeys =
      let p = placed-set a.tops f w.is_open.current.top last w.is_open.current.at in
      let r = installed-stands a m cells cells h sound f w.x last
      w.supers
      (subst (λ l. IsPlaced a.tops l f last) (sym w.tops) p)
      refl
      (λ g y d e. ap (λ (l : List Family). slice_get l g) (sym w.families) ∙ e)
      (subst (λ (z : List Write × List Memtable). CellsHold z.0 z.1 cells) (λ i. (sym w.journal i, sym w.memtables i)) h.cells_hold)
      w.s w.c w.is_open old kept in
      record { within = λ cell mem e. absurd (cc); r = r.0; old_is = r.1; stands = r.2 }

  -- and goes
  pub over-renews : (R : Books → Books → Type 0) → R a m → (b : Books) → ((r : SvRef Body) → old ≡ Some r → PackGoes m b r.pack) → Renews R f a b
  over-renews R is b goes =
      let can = over-obeys in
      let on : entry m.supers w.s ≡ Some w.c = ap (λ (l : List SuperVersion). entry l w.s) w.supers ∙ entry-old a.supers _ w.s w.c w.is_open.current.has in
      record {
        mid = m;
        is = is;
        goes = current-goes a m b f w.s w.c h.sound sound w.is_open old kept can.r can.old_is on (goes can.r can.old_is);
      }

module _ (a m : Books) (cells : List (Option Cell)) (h : Stands a cells None) (sound : Sound m) (f : ℕ) (file : FileMeta) (w : IsFlushed a m f file)
    (old : Option (SvRef Body)) (kept : (t : Top) → slice_get a.tops f ≡ Some t → IsKept a t.current old) where
  pub flushed-obeys : CanObey m cells None old
  flushed-obeys = over-obeys a m cells h sound f (flushed-over a m f file w) old kept

  pub flushed-renews : (b : Books) → ((r : SvRef Body) → old ≡ Some r → PackGoes m b r.pack) → Renews (λ x y. IsFlushed x y f file) f a b
  flushed-renews = over-renews a m cells h sound f (flushed-over a m f file w) old kept (λ x y. IsFlushed x y f file) w

-- the number that is given up was captured for this family
pub own-given : (a b : Books) (cells : List (Option Cell)) (f : ℕ) (file : FileMeta) → CanInstall a cells f file → ((g : ℕ) × IsGivenUp a b g file.number)
    → IsGivenUp a b f file.number
own-given a b cells f file can g = subst (λ n. IsGivenUp a b n file.number) (sym (same-family a cells f g.0 file can Obsolete b.files g.1.settled)) g.1

-- ---- nothing is under way after it

module _ (a m b : Books) (f : ℕ) (file : FileMeta) (h : IsFileCaptured a m f file) (still : IsStill a.files) where
  settled-renews : (R : Books → Books → Type 0) → ((x y : Books) → R x y → IsSettled f file.number Live x.files y.files) → Renews R f m b → IsStill b.files
  settled-renews R settles r =
      cleaned-still r.mid b r.goes.s r.goes.x r.goes.cleaned (settled-still a m f file h r.mid.files Live (λ q. grabbed_live q) (settles m r.mid r.is) still)

  pub flushed-still : Renews (λ x y. IsFlushed x y f file) f m b → IsStill b.files
  flushed-still r = settled-renews (λ x y. IsFlushed x y f file) (λ x y w. w.settled) r

  pub compacted-still : Renews (λ x y. IsCompacted x y f file) f m b → IsStill b.files
  compacted-still r = settled-renews (λ x y. IsCompacted x y f file) (λ x y w. w.settled) r

  pub given-still : IsGivenUp m b f file.number → IsStill b.files
  given-still g = settled-still a m f file h b.files Obsolete (λ q. obsolete_grabbed (sym q)) g.settled still
