-- The books of the tests change as the laws of the books have it.
use Rattle.std.proofs.Common.{List, None, Some, [], arith, inl, refl, suc, true, zero, ℕ, ◌∷◌, ◌≡◌}
use Rattle.std.specs.Prelude.{Bool, slice_get}
use Rattle.sv_laws.proofs.Kept.{sound-kept}
use Rattle.sv_laws.proofs.Opened.{opening-sound}
use Rattle.sv_laws.specs.Changes.{cleaned, current_ended, option_set}
use Rattle.sv_laws.specs.Cleaning.{AreCellsGone, Ends, IsCleaned}
use Rattle.sv_laws.specs.Families.{IsCurrentEnded}
use Rattle.sv_laws.specs.NewCurrents.{IsOptionSet}
use Rattle.sv_model.proofs.Entries.{entry_none, every_none, get_none}
use Rattle.sv_model.specs.After.{After, KeepsList, KeepsMemtable, KeepsVersion}
use Rattle.sv_model.specs.Described.{IsFileOf}
use Rattle.sv_model.specs.Families.{InRange, default_family, first_options}
use Rattle.sv_model.specs.Lists.{bit, total}
use Rattle.sv_model.specs.Named.{NamedList, NamedMemtable, NamedVersion, list_live, memtable_live, version_live}
use Rattle.sv_model.specs.Registers.{entry}
use Rattle.sv_model.specs.Steady.{Sound}
use Rattle.sv_model.specs.Tasks.{Task}
use Rattle.sv_model.specs.Turns.{EndsCurrent, EndsSuper, IsAccounted, Opens, Turns}
use Rattle.sv_model.specs.declared.records.SuperVersion.{SuperVersion}
use Rattle.sv_rule.specs.Fits.{BodyFits, IsFrozenAt}
use Rattle.sv_slots_tests.proofs.FirstWorld.{by-four, first-world, some_is}
use Rattle.sv_slots_tests.specs.Stages.{cleaned_books, ended_books, installed_books, new_bodied, new_pack, new_super, old_pack}
use Rattle.sv_slots_tests.specs.World.{memtable_of, no_list, no_version, super_of, top_of, world_books}
use Rattle.sv_turns.proofs.Cleanups.{cleaned-ends, cleaned-turns}
use Rattle.sv_turns.proofs.Currents.{option_set-opens, option_set-turns}
use Rattle.sv_turns.proofs.Families.{current_ended-ends, current_ended-turns}
use Rattle.sv_turns.specs.Called.{IsCalled}

none_some : {A : Type 0} (x : A) → None ≡ Some x → ⊥
none_some x e = absurd (cc)

-- ---- an option is set, to what it was

in-range : InRange first_options
in-range = record {
  rows_least = omega arith;
  rows_most = omega arith;
  lists_least = omega arith;
  lists_most = omega arith;
}

no-place : (k : ℕ) (s : SuperVersion) → entry world_books.supers k ≡ Some s → s.live ≡ true → s.place ≡ 4 → ⊥
no-place zero s e = absurd (none_some s e)
no-place (suc k) s e = by-four (super_of 0) (super_of 1) (super_of 2) (super_of 3)
    (λ i y. y.live ≡ true → y.place ≡ 4 → ⊥) (λ l p. omega (arith, p)) (λ l p. omega (arith, p))
    (λ l p. omega (arith, p)) (λ l p. omega (arith, p)) k s e

four-live : total (λ (s : SuperVersion). bit s.live) world_books.supers ≡ 4
four-live = refl

option-is-set : IsOptionSet world_books installed_books 0 first_options
option-is-set = record {
  s = 1;
  c = super_of 0;
  is_open = record {
    current = record { top = top_of 0; at = refl; is = refl; has = refl };
    family = default_family;
    family_at = refl;
    stands = refl;
  };
  place = 4;
  room = record {
    few = omega arith;
    few_live = omega (arith, four-live);
    within = omega arith;
    free = no-place;
  };
  in_range = in-range;
  is = refl;
}

installed-sound : Sound installed_books × After world_books installed_books
installed-sound = sound-kept world_books installed_books (opening-sound world_books first-world)
    (option_set 0 first_options option-is-set)

-- ---- the first SuperVersion of family 0 is Gone, and nothing else

ended-none : {A : Type 0} (Keeps : A → A → Type 0) (live : A → Bool) (Named : ℕ → Type 0) (l : List A)
    → ((x : A) → Keeps x x) → ((n : ℕ) (x : A) → entry l n ≡ Some x → Named n) → Ends Keeps live Named l l
ended-none Keeps live Named l keeps named = record {
  long = refl;
  goes = λ n x e. (x, e, keeps x);
  exact = λ n. (λ w. (w, named n w.it w.at), λ w. w.0);
}

of-four : {A : Type 0} (a b c d : A) (P : ℕ → Type 0) → P 1 → P 2 → P 3 → P 4 → (n : ℕ) (y : A)
    → entry (a ∷ b ∷ c ∷ d ∷ []) n ≡ Some y → P n
of-four a b c d P p q r s zero y e = absurd (none_some y e)
of-four a b c d P p q r s (suc n) y e = by-four a b c d (λ i z. P (suc i)) p q r s n y e

no-current : (f : ℕ) (t : _) → slice_get installed_books.tops f ≡ Some t → t.current ≡ Some 1 → ⊥
no-current = by-four (record { current = Some 5; last = 1 }) (top_of 1) (top_of 2) (top_of 3)
    (λ i t. t.current ≡ Some 1 → ⊥) (λ e. omega (arith, some_is e)) (λ e. omega (arith, some_is e))
    (λ e. omega (arith, some_is e)) (λ e. omega (arith, some_is e))

is-cleaned : IsCleaned installed_books cleaned_books 1 (super_of 0)
is-cleaned = record {
  at = refl;
  live = refl;
  free = no-current;
  memtables = ended-none KeepsMemtable memtable_live (NamedMemtable cleaned_books.supers cleaned_books.lists)
      cleaned_books.memtables (λ x. record { family = refl; first = refl; cell = refl; gone = λ e. e })
      (of-four (memtable_of 0) (memtable_of 1) (memtable_of 2) (memtable_of 3)
      (NamedMemtable cleaned_books.supers cleaned_books.lists)
      (inl (5, new_super, refl, record { live = refl; is = refl }))
      (inl (2, super_of 1, refl, record { live = refl; is = refl }))
      (inl (3, super_of 2, refl, record { live = refl; is = refl }))
      (inl (4, super_of 3, refl, record { live = refl; is = refl })));
  lists = ended-none KeepsList list_live (NamedList cleaned_books.supers) cleaned_books.lists
      (λ x. record { members = refl; gone = λ e. e })
      (of-four no_list no_list no_list no_list (NamedList cleaned_books.supers)
      (5, new_super, refl, record { live = refl; is = refl }) (2, super_of 1, refl, record { live = refl; is = refl })
      (3, super_of 2, refl, record { live = refl; is = refl }) (4, super_of 3, refl, record { live = refl; is = refl }));
  versions = ended-none KeepsVersion version_live
      (NamedVersion cleaned_books.supers cleaned_books.families cleaned_books.tops) cleaned_books.versions
      (λ x. record { files = refl; gone = λ e. e })
      (of-four no_version no_version no_version no_version
      (NamedVersion cleaned_books.supers cleaned_books.families cleaned_books.tops)
      (inl (5, new_super, refl, record { live = refl; is = refl }))
      (inl (2, super_of 1, refl, record { live = refl; is = refl }))
      (inl (3, super_of 2, refl, record { live = refl; is = refl }))
      (inl (4, super_of 3, refl, record { live = refl; is = refl })));
  numbers = record { long = refl; goes = λ n x e. absurd (entry_none n x e) };
  is = refl;
}

no-cells : AreCellsGone installed_books.memtables cleaned_books.memtables []
no-cells = record {
  exact = λ c. (
    λ i. absurd (get_none i.at c i.is),
    λ w. absurd (w.gone (record { it = w.it; at = w.at; live = w.was_live })),
  );
  once = λ i j x e d. absurd (get_none i x e);
}

cleaned-sound : Sound cleaned_books × After installed_books cleaned_books
cleaned-sound = sound-kept installed_books cleaned_books installed-sound.0 (cleaned 1 (super_of 0) is-cleaned)

-- ---- family 0 has no current any more

is-ended : IsCurrentEnded world_books ended_books 0
is-ended = record { it = default_family; at = refl; stands = refl; top = top_of 0; on = refl; is = refl }

ended-sound : Sound ended_books × After world_books ended_books
ended-sound = sound-kept world_books ended_books (opening-sound world_books first-world) (current_ended 0 is-ended)

-- ---- what a lane does by them

module _ (l : ℕ) (t : Task) where
  install-called : IsAccounted l world_books t → IsCalled l world_books t installed_books
  install-called own = record { own = own; lawful = installed-sound.0.lawful; later = installed-sound.1 }

  pub install-turns : IsAccounted l world_books t → Turns l world_books t installed_books t []
  install-turns own = option_set-turns l world_books installed_books t (install-called own) 0 first_options option-is-set

  pub install-opens : IsAccounted l world_books t → Opens world_books installed_books 0 new_pack
  unfolding option-is-set
  install-opens own = option_set-opens l world_books installed_books t (install-called own) 0 first_options option-is-set

  cleanup-called : IsAccounted l installed_books t → IsCalled l installed_books t cleaned_books
  cleanup-called own = record { own = own; lawful = cleaned-sound.0.lawful; later = cleaned-sound.1 }

  pub cleanup-turns : IsAccounted l installed_books t → Turns l installed_books t cleaned_books t []
  cleanup-turns own = cleaned-turns l installed_books cleaned_books t (cleanup-called own) 1 (super_of 0) is-cleaned

  pub cleanup-ends : IsAccounted l installed_books t → EndsSuper installed_books cleaned_books old_pack []
  cleanup-ends own =
      cleaned-ends l installed_books cleaned_books t (cleanup-called own) 1 (super_of 0) is-cleaned [] no-cells

  end-called : IsAccounted l world_books t → IsCalled l world_books t ended_books
  end-called own = record { own = own; lawful = ended-sound.0.lawful; later = ended-sound.1 }

  pub end-turns : IsAccounted l world_books t → Turns l world_books t ended_books t []
  end-turns own = current_ended-turns l world_books ended_books t (end-called own) 0 is-ended

  pub end-ends : IsAccounted l world_books t → EndsCurrent world_books ended_books 0
  end-ends own = current_ended-ends l world_books ended_books t (end-called own) 0 is-ended

-- ---- the new SuperVersion

pub new-fits : BodyFits installed_books new_bodied
new-fits = record {
  serial = 5;
  super = new_super;
  at = refl;
  pack_is = refl;
  within = omega arith;
  descriptor = refl;
  fits = record {
    active = memtable_of 0;
    active_at = refl;
    active_family = refl;
    base = refl;
    within = omega arith;
    list = no_list;
    list_at = refl;
    version = no_version;
    version_at = refl;
    middle = 0;
    files = record { joins = refl; each = every_none (IsFileOf [] [] 0); above = λ j m q. absurd (get_none j m q) };
    members = refl;
  };
  cell_is = refl;
  members = refl;
  frozen = every_none (IsFrozenAt installed_books);
  files = refl;
}
