-- Writes and switches.
use Rattle.std.proofs.Common.{◌≡◌, ◌<◌, ◌+◌, ◌∷◌, ◌++◌, ℕ, true, List, [], length, Option, Some, refl, sym, ap, ◌∙◌, subst}
use Rattle.std.specs.Prelude.{slice_set}
use Rattle.sv_model.specs.declared.writes.Write.{Write}
use Rattle.sv_model.specs.declared.records.Descriptor.{Descriptor}
use Rattle.sv_model.specs.declared.records.Memtable.{Memtable}
use Rattle.sv_model.specs.declared.records.MemtableList.{MemtableList}
use Rattle.sv_model.specs.declared.records.SuperVersion.{SuperVersion}
use Rattle.sv_model.specs.declared.records.Top.{Top}
use Rattle.sv_model.specs.After.{After, KeepsMemtable}
use Rattle.sv_model.specs.Books.{Books}
use Rattle.sv_model.specs.Cells.{Cell}
use Rattle.sv_model.specs.Journal.{borne_by, of_family}
use Rattle.sv_model.specs.Registers.{entry, GoesOn}
use Rattle.sv_model.specs.Steady.{Sound}
use Rattle.sv_model.proofs.AfterLaws.{memtable-itself}
use Rattle.sv_model.proofs.Registers.{entry-new, goes-push}
use Rattle.sv_laws.specs.Changes.{switched, written}
use Rattle.sv_laws.specs.Installs.{IsOpen, live_super}
use Rattle.sv_laws.specs.NewCurrents.{IsSwitched}
use Rattle.sv_model.proofs.Entries.{some}
use Rattle.sv_laws.proofs.Kept.{sound-kept}
use Rattle.sv_laws.proofs.OpenFamilies.{of_f, says}
use Rattle.sv_objects.specs.declared.bodies.Body.{Body}
use Rattle.sv_objects.specs.declared.bodies.Held.{Held}
use Rattle.sv_objects.specs.declared.objects.Objects.{Objects}
use Rattle.sv_objects.specs.Cleanups.{with_objects}
use Rattle.sv_objects.specs.Makings.{IsCellOf, SwitchMade}
use Rattle.sv_objects.specs.Shown.{shown}
use Rattle.sv_state.specs.Refs.{AreFrozenAt, IsBodyOf, IsRefOf}
use Rattle.sv_state.specs.Writing.{CanSwitch}
use Rattle.sv_state.proofs.References.{frozen-push, new-ref}
use Rattle.sv_state.proofs.Stays.{cell-stays, frozen-stay}

-- ---- a write

pub write-law : (a : Books) (k : Sound a) (f serial : ℕ) (it : SuperVersion) (o : IsOpen a f serial it) (w : Write) (J : List Write) → w.family ≡ f → w.mem ≡ it.descriptor.active → w.lane < 32
    → length a.journal < 262144 → length (borne_by it.descriptor.active a.journal) < 65536 → J ≡ a.journal ++ w ∷ [] → Sound (record a { journal = J }) × After a (record a { journal = J })
write-law a k f serial it o w J family mem lane few rows is = sound-kept a (record a { journal = J }) k (written f w (record {
  s = serial;
  c = it;
  is_open = o;
  family_is = family;
  mem_is = mem;
  by_lane = lane;
  few = few;
  few_rows = subst (λ m. length (borne_by m a.journal) < 65536) (sym mem) rows;
  is = ap (λ (l : List Write). record a { journal = l }) is;
}))

-- ---- a switch

module _ (rest : Books) (o p : Objects) (k : Sound (with_objects rest o)) (f : ℕ) (cell : ℕ) (frozen : Cell) (can : CanSwitch (with_objects rest o) f frozen) (d : Descriptor) (d_is : d ≡ can.it.descriptor) (base : ℕ) (base_is : base ≡ length (of_family f rest.journal)) (held : Held) (pack : ℕ) (body : Body) (m : SwitchMade o d base held p pack body) (T : List Top) (T_is : T ≡ slice_set rest.tops f (record { current = Some (length o.supers + 1); last = body.descriptor.version })) where
  abbrev a : Books
  a = with_objects rest o

  abbrev pub b : Books
  b = record (with_objects rest p) { tops = T }

  abbrev it : SuperVersion
  it = can.it

  abbrev next : Descriptor
  next = record it.descriptor { active = length o.memtables + 1; list = length o.lists + 1; base = length (of_family f rest.journal) }

  list : MemtableList
  list = (says a k f can.serial it can.is_open).list

  list_at : entry o.lists it.descriptor.list ≡ Some list
  unfolding list
  list_at = (says a k f can.serial it can.is_open).list_at

  supers_is : p.supers ≡ o.supers ++ live_super next m.ref.place ∷ []
  supers_is = m.ref.made ∙ (λ i. o.supers ++ live_super (record (d_is i) { active = length o.memtables + 1; list = length o.lists + 1; base = base_is i }) m.ref.place ∷ [])

  memtables_is : p.memtables ≡ o.memtables ++ record { family = f; first = length (of_family f rest.journal); cell = m.cell; live = true } ∷ []
  memtables_is =
      m.memtables
      ∙ (λ i. o.memtables ++ record { family = (ap (λ (z : Descriptor). z.family) d_is ∙ of_f a k f can.serial it can.is_open) i; first = base_is i; cell = m.cell; live = true } ∷ [])

  lists_is : p.lists ≡ o.lists ++ record { members = list.members ++ it.descriptor.active ∷ []; live = true } ∷ []
  lists_is =
      m.lists list (ap (λ (z : Descriptor). entry o.lists z.list) d_is ∙ list_at)
      ∙ (λ i. o.lists ++ record { members = list.members ++ (d_is i).active ∷ []; live = true } ∷ [])

  descriptor_is : body.descriptor ≡ next
  descriptor_is = m.ref.body_is.descriptor_is ∙ (λ i. record (d_is i) { active = length o.memtables + 1; list = length o.lists + 1; base = base_is i })

  pub is-switched : IsSwitched a b f
  is-switched = record {
    s = can.serial;
    c = it;
    is_open = can.is_open;
    place = m.ref.place;
    room = m.ref.room;
    cell = m.cell;
    cell_room = m.cell_room;
    list = list;
    list_at = list_at;
    row = can.row;
    is = λ i. record rest {
      supers = supers_is i;
      memtables = memtables_is i;
      lists = lists_is i;
      versions = m.versions i;
      files = m.files i;
      tops = (T_is ∙ ap (λ (z : Descriptor). slice_set rest.tops f (record { current = Some (length o.supers + 1); last = z.version })) descriptor_is) i;
    };
  }

  pub switch-law : Sound b × After a b
  switch-law = sound-kept a b k (switched f is-switched)

  abbrev fresh : Memtable
  fresh = record { family = f; first = length (of_family f rest.journal); cell = m.cell; live = true }

  pub fresh_at : entry p.memtables (length o.memtables + 1) ≡ Some (record { family = f; first = length (of_family f rest.journal); cell = m.cell; live = true })
  fresh_at = ap (λ l. entry l (length o.memtables + 1)) memtables_is ∙ entry-new o.memtables fresh (length o.memtables + 1) refl

  pub vacant_is : ◌≡◌ {A = Option (ℕ × ℕ)} (Some (body.cell, body.descriptor.active)) (Some (m.cell, length o.memtables + 1))
  vacant_is = λ i. Some (m.ref.body_is.cell_is i, (descriptor_is i).active)

  module _ (old : Body) (w : IsBodyOf a it.descriptor old) (cell_is : cell ≡ old.cell) (shown_is : shown held.frozen.items ≡ shown old.frozen ++ (cell, frozen) ∷ []) (files_is : held.files.items ≡ old.files) where
    goes : GoesOn KeepsMemtable o.memtables p.memtables
    goes = subst (GoesOn KeepsMemtable o.memtables) (sym memtables_is) (goes-push KeepsMemtable o.memtables fresh memtable-itself)

    same-list : w.list ≡ list
    same-list = some (sym w.list_at ∙ list_at)

    frozen-are : AreFrozenAt rest.journal p.memtables (list.members ++ it.descriptor.active ∷ []) (shown body.frozen)
    frozen-are =
        subst (AreFrozenAt rest.journal p.memtables (list.members ++ it.descriptor.active ∷ [])) (sym (m.ref.body_is.frozen_are ∙ shown_is))
        (frozen-push rest.journal p.memtables list.members (shown old.frozen) it.descriptor.active (cell, frozen)
        (subst (λ (z : MemtableList). AreFrozenAt rest.journal p.memtables z.members (shown old.frozen)) same-list (frozen-stay rest.journal rest.journal o.memtables p.memtables goes w.list.members (shown old.frozen) (λ n i. refl) w.frozen))
        (record { cell = cell-stays o.memtables p.memtables goes it.descriptor.active cell (subst (IsCellOf o.memtables it.descriptor.active) (sym cell_is) w.cell); rows = can.frozen_is }))

    pub switch-ref : IsRefOf b (length o.supers + 1) pack body
    switch-ref = new-ref b o.supers next m.ref.place pack body supers_is m.ref.pack_is (record {
      descriptor_is = descriptor_is;
      cell = record { it = fresh; at = fresh_at; is = sym m.ref.body_is.cell_is };
      list = record { members = list.members ++ it.descriptor.active ∷ []; live = true };
      list_at = ap (λ l. entry l (length o.lists + 1)) lists_is ∙ entry-new o.lists (record { members = list.members ++ it.descriptor.active ∷ []; live = true }) (length o.lists + 1) refl;
      frozen = frozen-are;
      version = w.version;
      version_at = ap (λ l. entry l it.descriptor.version) m.versions ∙ w.version_at;
      files_are = m.ref.body_is.files_are ∙ files_is ∙ w.files_are;
    })
