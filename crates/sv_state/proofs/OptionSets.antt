-- An option is set.
use Rattle.std.proofs.Common.{◌≡◌, ◌+◌, ◌∷◌, ◌++◌, ℕ, suc, false, List, [], length, Option, Some, None, refl, sym, ap, ◌∙◌, subst, arith}
use Rattle.std.specs.Prelude.{IsSomeAnd, option_map, slice_get, slice_set}
use mathlib.Core.Logic.{dite}
use native.Mathlib.Decide.{ℕ_discrete}
use Rattle.sv_model.specs.declared.records.Descriptor.{Descriptor}
use Rattle.sv_model.specs.declared.records.Family.{Family}
use Rattle.sv_model.specs.declared.records.SuperVersion.{SuperVersion}
use Rattle.sv_model.specs.declared.records.Top.{Top}
use Rattle.sv_model.specs.declared.settings.OptionName.{OptionName}
use Rattle.sv_model.specs.declared.settings.Options.{Options}
use Rattle.sv_model.specs.After.{After}
use Rattle.sv_model.specs.Books.{Books}
use Rattle.sv_model.specs.Cells.{Cell}
use Rattle.sv_model.specs.Families.{AreFamilies, InRange, IsOwn, IsOwnStanding}
use Rattle.sv_model.specs.Registers.{entry}
use Rattle.sv_model.specs.Steady.{Sound}
use Rattle.sv_model.proofs.Registers.{entry-else, entry-same}
use Rattle.sv_family.specs.Calls.{IsChanged, as_set}
use Rattle.sv_laws.specs.Changes.{option_set}
use Rattle.sv_laws.specs.Installs.{IsOpen, live_super}
use Rattle.sv_laws.specs.NewCurrents.{IsOptionSet}
use Rattle.sv_model.proofs.Entries.{some}
use Rattle.sv_laws.proofs.Kept.{sound-kept}
use Rattle.sv_objects.specs.declared.bodies.Body.{Body}
use Rattle.sv_objects.specs.declared.bodies.Held.{Held}
use Rattle.sv_objects.specs.declared.objects.Objects.{Objects}
use Rattle.sv_objects.specs.Cleanups.{with_objects}
use Rattle.sv_objects.specs.Makings.{IsCellOf, RefMade}
use Rattle.sv_objects.specs.Shown.{shown}
use Rattle.sv_state.specs.Currents.{HasCurrentAt}
use Rattle.sv_state.specs.Refs.{AreFrozenAt, IsBodyOf, IsRefOf}
use Rattle.sv_state.proofs.References.{new-ref}

pub some-and : (o : Option Family) (P : Family → Type 0) → IsSomeAnd o P → (x : Family) × (o ≡ Some x) × P x
some-and (Some x) P h = (x, refl, h)
some-and None P h = absurd h

pub options-read : (families : List Family) (f : ℕ) (x : Family) (o : Options) → slice_get families f ≡ Some x → option_map (λ z. z.options) (slice_get families f) ≡ Some o → o ≡ x.options
options-read families f x o at e = sym (some (sym (ap (option_map (λ (z : Family). z.options)) at) ∙ e))

-- the family that is found is the one that is changed
pub same-own : (old new : List Family) (lane : ℕ) (name : List ℕ) (option : OptionName) (value f g : ℕ) (x : Family) → slice_get old f ≡ Some x → IsOwn lane name x
    → IsChanged (IsOwnStanding lane name) (as_set option value) old g new → AreFamilies new → f ≡ g
same-own old new lane name option value f g x at own h lawful = dite (ℕ_discrete f g)
    (λ q. q)
    (λ q. lawful.meant lane name f g x (as_set option value h.it)
    (ap (λ l. slice_get l f) h.changed ∙ entry-else old (suc g) (suc f) (as_set option value h.it) (λ e. q (omega (arith, e))) ∙ at)
    (ap (λ l. slice_get l g) h.changed ∙ entry-same old (suc g) h.it (as_set option value h.it) h.at) own (record { name_is = h.was.own.name_is; handle = h.was.own.handle }))

-- the current of a family that a lane means
module _ (a : Books) (k : Sound a) (f : ℕ) (x : Family) (at : slice_get a.families f ≡ Some x) (stands : x.dropped ≡ false) (cur : HasCurrentAt a f) where
  abbrev pub own-it : SuperVersion
  own-it = (k.lawful.tops f cur.serial x cur.top at cur.at cur.is).it

  abbrev pub own-open : IsOpen a f cur.serial own-it
  own-open = record {
    current = record { top = cur.top; at = cur.at; is = cur.is; has = (k.lawful.tops f cur.serial x cur.top at cur.at cur.is).at };
    family = x;
    family_at = at;
    stands = stands;
  }

module _ (rest : Books) (o p : Objects) (k : Sound (with_objects rest o)) (f serial : ℕ) (it : SuperVersion) (open_ : IsOpen (with_objects rest o) f serial it) (opt : Options) (range : InRange opt) (d : Descriptor) (d_is : d ≡ record it.descriptor { options = opt }) (cell : ℕ) (held : Held) (pack : ℕ) (body : Body) (m : RefMade o.supers d cell held p.supers pack body) (same : p ≡ record o { supers = p.supers }) (F : List Family) (F_is : F ≡ slice_set rest.families f (record open_.family { options = opt })) (T : List Top) (T_is : T ≡ slice_set rest.tops f (record { current = Some (length o.supers + 1); last = body.descriptor.version })) where
  abbrev a : Books
  a = with_objects rest o

  abbrev b : Books
  b = record (with_objects rest p) { families = F; tops = T }

  abbrev next : Descriptor
  next = record it.descriptor { options = opt }

  supers_is : p.supers ≡ o.supers ++ live_super next m.place ∷ []
  supers_is = m.made ∙ ap (λ z. o.supers ++ live_super z m.place ∷ []) d_is

  descriptor_is : body.descriptor ≡ next
  descriptor_is = m.body_is.descriptor_is ∙ d_is

  pub is-option-set : IsOptionSet a b f opt
  is-option-set = record {
    s = serial;
    c = it;
    is_open = open_;
    place = m.place;
    room = m.room;
    in_range = range;
    is = λ i. record rest {
      supers = supers_is i;
      memtables = (same i).memtables;
      lists = (same i).lists;
      versions = (same i).versions;
      files = (same i).files;
      families = F_is i;
      tops = (T_is ∙ ap (λ (z : Descriptor). slice_set rest.tops f (record { current = Some (length o.supers + 1); last = z.version })) descriptor_is) i;
    };
  }

  pub option-law : Sound b × After a b
  option-law = sound-kept a b k (option_set f opt is-option-set)

  pub option-ref : (old : Body) → IsBodyOf a it.descriptor old → cell ≡ old.cell → shown held.frozen.items ≡ shown old.frozen → held.files.items ≡ old.files
      → IsRefOf b (length o.supers + 1) pack body
  option-ref old w cell_is shown_is files_is = new-ref b o.supers next m.place pack body supers_is m.pack_is (record {
    descriptor_is = descriptor_is;
    cell = subst (λ (z : Objects × ℕ). IsCellOf z.0.memtables it.descriptor.active z.1) (λ i. (sym same i, sym (m.body_is.cell_is ∙ cell_is) i)) w.cell;
    list = w.list;
    list_at = ap (λ (z : Objects). entry z.lists it.descriptor.list) same ∙ w.list_at;
    frozen = subst (λ (z : Objects × List (ℕ × Cell)). AreFrozenAt rest.journal z.0.memtables w.list.members z.1) (λ i. (sym same i, sym (m.body_is.frozen_are ∙ shown_is) i)) w.frozen;
    version = w.version;
    version_at = ap (λ (z : Objects). entry z.versions it.descriptor.version) same ∙ w.version_at;
    files_are = m.body_is.files_are ∙ files_is ∙ w.files_are;
  })
