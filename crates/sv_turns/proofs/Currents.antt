-- Turns of calls that make a SuperVersion a family's current, and of which it is the current then.
use Rattle.std.proofs.Common.{None, Some, [], ap, arith, false, length, refl, set, subst, sym, ℕ, ◌++◌, ◌+◌, ◌<◌, ◌∙◌, ◌∷◌, ◌≡◌, ◌≤◌}
use Rattle.std.specs.Prelude.{slice_get}
use mathlib.Core.Logic.{dite}
use native.Mathlib.Decide.{ℕ_discrete}
use Rattle.sv_model.specs.Books.{Books}
use Rattle.sv_model.specs.Families.{is_retired}
use Rattle.sv_model.specs.Journal.{of_family}
use Rattle.sv_model.specs.Registers.{entry}
use Rattle.sv_model.specs.Supers.{current_of, current_serial, pack, pack_at, pack_of_serial}
use Rattle.sv_model.specs.Tasks.{Task, handle}
use Rattle.sv_model.specs.Turns.{NoneRetires, Opens, Turns}
use Rattle.sv_model.specs.declared.records.Descriptor.{Descriptor}
use Rattle.sv_model.specs.declared.records.Family.{Family}
use Rattle.sv_model.specs.declared.records.SuperVersion.{SuperVersion}
use Rattle.sv_model.specs.declared.records.Top.{Top}
use Rattle.sv_model.specs.declared.settings.Options.{Options}
use Rattle.sv_model.specs.declared.records.FileMeta.{FileMeta}
use Rattle.sv_model.proofs.Basics.{none_some}
use Rattle.sv_model.proofs.Entries.{some}
use Rattle.sv_model.proofs.Registers.{entry-new, entry_le}
use Rattle.sv_laws.specs.Growing.{IsPlaced}
use Rattle.sv_laws.specs.Installs.{IsOpen, live_super, next_top}
use Rattle.sv_laws.specs.NewCurrents.{IsCompacted, IsFlushed, IsOptionSet, IsSwitched}
use Rattle.sv_laws.proofs.GrownRegisters.{placed-set}
use Rattle.sv_laws.proofs.Handles.{not-retired-open}
use Rattle.sv_turns.specs.Called.{IsCalled, next_pack}
use Rattle.sv_turns.proofs.Families.{at-here, at-other, handles-same, none_retires}
use Rattle.sv_turns.proofs.Frames.{append_none, handles-stand, no_writes, snapshots-stand, turns-files_stand}

-- A SuperVersion more is the current of an open family.
module _ (a b : Books) (f s : ℕ) (o : SuperVersion) (p : IsOpen a f s o) (d : Descriptor) (place version : ℕ)
    (within : place < 256) (family : d.family ≡ f) (supers : b.supers ≡ a.supers ++ live_super d place ∷ [])
    (tops : b.tops ≡ set a.tops f (next_top a version)) where
  x : SuperVersion
  x = live_super d place

  placed : IsPlaced a.tops (set a.tops f (next_top a version)) f (next_top a version)
  placed = placed-set a.tops f p.current.top (next_top a version) p.current.at

  top-here : slice_get b.tops f ≡ Some (next_top a version)
  top-here = ap (λ z. slice_get z f) tops ∙ placed.here

  current-here : current_of b f ≡ next_pack a place
  current-here = ap (λ o. pack_of_serial b.supers (current_serial o)) top-here
      ∙ ap (pack_at (length a.supers + 1)) (ap (λ z. entry z (length a.supers + 1)) supers
      ∙ entry-new a.supers (live_super d place) (length a.supers + 1) refl)

  -- the family had a current
  had-current : 256 ≤ current_of a f
  had-current =
      let e : current_of a f ≡ pack s o.place = ap (λ q. pack_of_serial a.supers (current_serial q)) p.current.at
      ∙ ap (pack_of_serial a.supers) p.current.is ∙ ap (pack_at s) p.current.has in
      omega (arith, e, (entry_le a.supers s o p.current.has).0)

  pub opens : NoneRetires a.families b.families → ((y : Family) → slice_get b.families f ≡ Some y → is_retired y ≡ false)
      → ((g : ℕ) (y : Family) → slice_get b.families g ≡ Some y → slice_get a.families g ≡ None → g ≡ f)
      → Opens a b f (next_pack a place)
  opens families stands fresh = record {
    super = live_super d place;
    supers = supers;
    serial = omega (arith, within);
    place = omega (arith, within);
    live = refl;
    family = family;
    current = current-here;
    others = λ g ne. ap (λ z. slice_get z g) tops ∙ placed.others g ne;
    had = λ t e. (s, ap (λ (z : Top). z.current) (some (sym e ∙ p.current.at)) ∙ p.current.is);
    first = λ z t q. omega (arith, z, had-current);
    families = families;
    stands = stands;
    fresh = fresh;
  }

-- The families stand.
module _ (a b : Books) (f s : ℕ) (o : SuperVersion) (p : IsOpen a f s o) (same : b.families ≡ a.families) where
  pub none_retire : NoneRetires a.families b.families
  none_retire = subst (NoneRetires a.families) (sym same)
      (record { goes = λ g y e. (y, e, refl); long = omega arith })

  pub stands-open : (y : Family) → slice_get b.families f ≡ Some y → is_retired y ≡ false
  stands-open y e = ap is_retired (some (sym e ∙ ap (λ z. slice_get z f) same ∙ p.family_at))
      ∙ not-retired-open p.family p.stands

  pub none-fresh : (g : ℕ) (y : Family) → slice_get b.families g ≡ Some y → slice_get a.families g ≡ None → g ≡ f
  none-fresh g y e none = absurd (none_some y (sym none ∙ sym (ap (λ z. slice_get z g) same) ∙ e))

module _ (l : ℕ) (a b : Books) (t : Task) (c : IsCalled l a t b) (f : ℕ) where
  -- the family of an open family's current
  of-current : (s : ℕ) (o : SuperVersion) → IsOpen a f s o → o.descriptor.family ≡ f
  of-current s o p =
      let w = c.own.lawful.tops f s p.family p.current.top p.family_at p.current.at p.current.is in
      ap (λ (z : SuperVersion). z.descriptor.family) (some (sym p.current.has ∙ w.at)) ∙ w.family_is

  -- Options are set.
  pub option_set-turns : (o : Options) → IsOptionSet a b f o → Turns l a t b t []
  option_set-turns o h =
      turns-files_stand l a b t c t [] (ap (λ (z : Books). z.files) h.is) refl refl refl refl refl refl
      (ap (λ (z : Books). z.journal) h.is ∙ append_none a.journal) (no_writes l)
      (handles-stand l a.families b.families t.handles
      (handles-same a.families b.families f h.is_open.family (record h.is_open.family { options = o })
      h.is_open.family_at (ap (λ (z : Books). z.families) h.is) refl))
      (snapshots-stand a.snapshots b.snapshots t.ended (ap (λ (z : Books). z.snapshots) h.is))

  pub option_set-opens : (o : Options) (h : IsOptionSet a b f o) → Opens a b f (next_pack a h.place)
  option_set-opens o h =
      let y : Family = record h.is_open.family { options = o } in
      let at_f = h.is_open.family_at in
      let is = ap (λ (z : Books). z.families) h.is in
      opens a b f h.s h.c h.is_open (record h.c.descriptor { options = o }) h.place h.c.descriptor.version
      h.room.within (of-current h.s h.c h.is_open) (ap (λ (z : Books). z.supers) h.is)
      (ap (λ (z : Books). z.tops) h.is) (none_retires a.families b.families f h.is_open.family y at_f is refl)
      (λ z e. ap is_retired (some (sym e ∙ at-here a.families b.families f h.is_open.family y at_f is))
      ∙ not-retired-open y h.is_open.stands)
      (λ g z e none. dite (ℕ_discrete g f) (λ q. q)
      (λ ne. absurd (none_some z (sym none ∙ sym (at-other a.families b.families f h.is_open.family y at_f is g ne)
      ∙ e))))

  -- The active memtable is frozen.
  pub switched-turns : IsSwitched a b f → Turns l a t b t []
  switched-turns h =
      turns-files_stand l a b t c t [] (ap (λ (z : Books). z.files) h.is) refl refl refl refl refl refl
      (ap (λ (z : Books). z.journal) h.is ∙ append_none a.journal) (no_writes l)
      (handles-stand l a.families b.families t.handles
      (λ k g. ap (λ (z : Books). handle z.families k g) h.is))
      (snapshots-stand a.snapshots b.snapshots t.ended (ap (λ (z : Books). z.snapshots) h.is))

  pub switched-opens : (h : IsSwitched a b f) → Opens a b f (next_pack a h.place)
  switched-opens h =
      let same = ap (λ (z : Books). z.families) h.is in
      opens a b f h.s h.c h.is_open (record h.c.descriptor {
        active = length a.memtables + 1;
        list = length a.lists + 1;
        base = length (of_family f a.journal);
      }) h.place h.c.descriptor.version h.room.within (of-current h.s h.c h.is_open)
      (ap (λ (z : Books). z.supers) h.is) (ap (λ (z : Books). z.tops) h.is)
      (none_retire a b f h.s h.c h.is_open same) (stands-open a b f h.s h.c h.is_open same)
      (none-fresh a b f h.s h.c h.is_open same)

  pub flushed-opens : (file : FileMeta) (h : IsFlushed a b f file) → Opens a b f (next_pack a h.place)
  flushed-opens file h =
      let same = ap (λ (z : Books). z.families) h.is in
      opens a b f h.s h.c h.is_open (record h.c.descriptor {
        list = length a.lists + 1;
        version = length a.versions + 1;
      }) h.place (length a.versions + 1) h.room.within (of-current h.s h.c h.is_open)
      (ap (λ (z : Books). z.supers) h.is) (ap (λ (z : Books). z.tops) h.is)
      (none_retire a b f h.s h.c h.is_open same) (stands-open a b f h.s h.c h.is_open same)
      (none-fresh a b f h.s h.c h.is_open same)

  pub compacted-opens : (file : FileMeta) (h : IsCompacted a b f file) → Opens a b f (next_pack a h.place)
  compacted-opens file h =
      let same = ap (λ (z : Books). z.families) h.is in
      opens a b f h.s h.c h.is_open (record h.c.descriptor { version = length a.versions + 1 }) h.place
      (length a.versions + 1) h.room.within (of-current h.s h.c h.is_open) (ap (λ (z : Books). z.supers) h.is)
      (ap (λ (z : Books). z.tops) h.is) (none_retire a b f h.s h.c h.is_open same)
      (stands-open a b f h.s h.c h.is_open same) (none-fresh a b f h.s h.c h.is_open same)
