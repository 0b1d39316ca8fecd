-- A family is made.
use Rattle.std.proofs.Common.{◌≡◌, ◌+◌, ◌∷◌, ◌++◌, ℕ, suc, ⊎_elim, true, false, List, [], length, length-append, length-set, Option, Some, refl, sym, ap, ◌∙◌, subst, arith}
use Rattle.std.specs.Prelude.{replicate, slice_get}
use Rattle.std.proofs.lemmas.List.{same_from_push}
use Rattle.sv_model.specs.declared.records.Descriptor.{Descriptor}
use Rattle.sv_model.specs.declared.records.Family.{Family}
use Rattle.sv_model.specs.declared.records.Memtable.{Memtable}
use Rattle.sv_model.specs.declared.records.Top.{Top}
use Rattle.sv_model.specs.declared.sv_refs.SvRef.{SvRef}
use Rattle.sv_model.specs.After.{After}
use Rattle.sv_model.specs.Books.{Books}
use Rattle.sv_model.specs.Families.{AreFamilies, first_options}
use Rattle.sv_model.specs.Registers.{entry}
use Rattle.sv_model.specs.Steady.{Sound}
use Rattle.sv_model.proofs.Registers.{entry-new, entry-old, entry_push}
use Rattle.sv_family.specs.Calls.{IsCreated, new_family}
use Rattle.sv_laws.specs.Changes.{created}
use Rattle.sv_laws.specs.Installs.{live_super}
use Rattle.sv_laws.specs.NewCurrents.{IsFamilyMade}
use Rattle.sv_laws.proofs.GrownRegisters.{get_within}
use Rattle.sv_laws.proofs.Kept.{sound-kept}
use Rattle.sv_objects.specs.declared.bodies.Body.{Body}
use Rattle.sv_objects.specs.declared.objects.Objects.{Objects}
use Rattle.sv_objects.specs.Cleanups.{with_objects}
use Rattle.sv_objects.specs.Makings.{FamilyMade}
use Rattle.sv_state.specs.Refs.{AreFrozenAt, IsKept, IsRefOf, IsState}
use Rattle.sv_state.proofs.References.{new-ref}
use Rattle.sv_state.proofs.Stays.{kept-stays}

pub taken_back : {A : Type 0} (old pushed left : List A) (x y : A) → pushed ≡ old ++ x ∷ [] → pushed ≡ left ++ y ∷ [] → left ≡ old
taken_back old pushed left x y e split = (same_from_push left old y x (sym split ∙ e)).0

-- a call by which one family more has something on top
pub pushes-state : (a b : Books) (held : List (Option (SvRef Body))) → IsState a held → Sound b × After a b → (u : Top) (r : Option (SvRef Body))
    → b.tops ≡ a.tops ++ u ∷ [] → IsKept b u.current r → IsState b (held ++ r ∷ [])
pushes-state a b held h law u r is kept = record {
  sound = law.0;
  kept = record {
    paired = omega (arith, length-append held (r ∷ []), h.kept.paired, ap (λ (l : List Top). length l) is, length-append a.tops (u ∷ []));
    each = λ g w e. ⊎_elim
        (λ o. let k = h.kept.each g w o in (k.0, entry-old held (r ∷ []) (suc g) k.0 k.1, kept-stays a b law.1 w.current k.0 k.2))
        (λ o.
        let same : suc g ≡ length held + 1 = omega (arith, o.0, h.kept.paired) in
        (r, entry-new held r (suc g) same, subst (λ (z : Top). IsKept b z.current r) (sym o.1) kept))
        (entry_push a.tops u (suc g) w (ap (λ l. slice_get l g) (sym is) ∙ e));
  };
}

module _ (rest : Books) (o p : Objects) (k : Sound (with_objects rest o)) (lane : ℕ) (name : List ℕ) (id : ℕ) (F : List Family) (made : IsCreated rest.families lane name id F) (lawful : AreFamilies F) (pack : ℕ) (body : Body) (m : FamilyMade o id first_options p pack body) (T : List Top) (T_is : T ≡ rest.tops ++ record { current = Some (length o.supers + 1); last = body.descriptor.version } ∷ []) where
  abbrev a : Books
  a = with_objects rest o

  abbrev b : Books
  b = record (with_objects rest p) { families = F; tops = T }

  abbrev r : Family
  r = new_family lane name

  abbrev next : Descriptor
  next = record { family = length rest.families; active = length o.memtables + 1; list = length o.lists + 1; version = length o.versions + 1; base = 0; options = first_options }

  long : length F ≡ length rest.families + 1
  long = ap (λ (l : List Family). length l) made.made ∙ length-append rest.families (r ∷ [])

  here : slice_get F (length rest.families) ≡ Some r
  here = ap (λ l. slice_get l (length rest.families)) made.made ∙ entry-new rest.families r (suc (length rest.families)) (omega arith)

  free : (g : ℕ) (y : Family) → slice_get rest.families g ≡ Some y → y.dropped ≡ false → r.name ≡ y.name → ⊥
  free g y e stands same =
      let q = lawful.distinct name g (length rest.families) y r (ap (λ l. slice_get l g) made.made ∙ entry-old rest.families (r ∷ []) (suc g) y e) here (record { name_is = sym same; stands = stands }) (record { name_is = refl; stands = refl }) in
      omega (arith, q, get_within rest.families g y e)

  supers_is : p.supers ≡ o.supers ++ live_super next m.place ∷ []
  supers_is = m.supers ∙ ap (λ n. o.supers ++ live_super (record { family = n; active = length o.memtables + 1; list = length o.lists + 1; version = length o.versions + 1; base = 0; options = first_options }) m.place ∷ []) made.next

  abbrev fresh : Memtable
  fresh = record { family = length rest.families; first = 0; cell = m.cell; live = true }

  memtables_is : p.memtables ≡ o.memtables ++ record { family = length rest.families; first = 0; cell = m.cell; live = true } ∷ []
  memtables_is = m.memtables ∙ ap (λ n. o.memtables ++ record { family = n; first = 0; cell = m.cell; live = true } ∷ []) made.next

  descriptor_is : body.descriptor ≡ next
  descriptor_is = m.descriptor_is ∙ ap (λ n. record { family = n; active = length o.memtables + 1; list = length o.lists + 1; version = length o.versions + 1; base = 0; options = first_options }) made.next

  pub is-made : IsFamilyMade a b (new_family lane name)
  is-made = record {
    place = m.place;
    room = m.room;
    cell = m.cell;
    cell_room = m.cell_room;
    few = omega (arith, long, lawful.few);
    stands = refl;
    in_range = record { rows_least = omega arith; rows_most = omega arith; lists_least = omega arith; lists_most = omega arith };
    handles = length-set (replicate 32 false) lane true;
    name_free = free;
    is = λ i. record rest {
      supers = supers_is i;
      memtables = memtables_is i;
      lists = m.lists i;
      versions = m.versions i;
      files = m.files i;
      families = made.made i;
      tops = (T_is ∙ ap (λ (z : Descriptor). rest.tops ++ record { current = Some (length o.supers + 1); last = z.version } ∷ []) descriptor_is) i;
    };
  }

  pub made-law : Sound b × After a b
  made-law = sound-kept a b k (created (new_family lane name) is-made)

  pub fresh_at : entry p.memtables (length o.memtables + 1) ≡ Some (record { family = length rest.families; first = 0; cell = m.cell; live = true })
  fresh_at = ap (λ l. entry l (length o.memtables + 1)) memtables_is ∙ entry-new o.memtables fresh (length o.memtables + 1) refl

  pub vacant_is : ◌≡◌ {A = Option (ℕ × ℕ)} (Some (body.cell, body.descriptor.active)) (Some (m.cell, length o.memtables + 1))
  vacant_is = λ i. Some (m.cell_is i, (descriptor_is i).active)

  pub made-ref : IsRefOf b (length o.supers + 1) pack body
  made-ref = new-ref b o.supers next m.place pack body supers_is m.pack_is (record {
    descriptor_is = descriptor_is;
    cell = record { it = fresh; at = fresh_at; is = sym m.cell_is };
    list = record { members = []; live = true };
    list_at = ap (λ l. entry l (length o.lists + 1)) m.lists ∙ entry-new o.lists (record { members = []; live = true }) (length o.lists + 1) refl;
    frozen = subst (AreFrozenAt rest.journal p.memtables []) (sym m.frozen_are) tt;
    version = record { files = []; live = true };
    version_at = ap (λ l. entry l (length o.versions + 1)) m.versions ∙ entry-new o.versions (record { files = []; live = true }) (length o.versions + 1) refl;
    files_are = m.files_are;
  })
