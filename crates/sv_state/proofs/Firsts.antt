-- The first books, with their reference.
use Rattle.std.proofs.Common.{◌≡◌, ◌<◌, ◌≤◌, ◌+◌, ◌*◌, ◌∷◌, ◌++◌, ◌⊎◌, ⊎_elim, ℕ, zero, suc, Bool, true, List, [], length, Some, refl, sym, ap, ◌∙◌, subst, arith}
use Rattle.std.specs.Prelude.{slice_get}
use Rattle.sv_model.specs.declared.writes.Write.{Write}
use Rattle.sv_model.specs.declared.records.FileMeta.{FileMeta}
use Rattle.sv_model.specs.declared.records.Snapshot.{Snapshot}
use Rattle.sv_model.specs.declared.records.Descriptor.{Descriptor}
use Rattle.sv_model.specs.declared.records.Family.{Family}
use Rattle.sv_model.specs.declared.records.Top.{Top}
use Rattle.sv_model.specs.declared.sv_refs.SvRef.{SvRef}
use Rattle.sv_model.specs.Families.{default_family, first_options}
use Rattle.sv_model.specs.Named.{memtable_live, super_live}
use Rattle.sv_model.specs.Openings.{opening_books}
use Rattle.sv_model.specs.Places.{IsLeastFree, cell_of, place_of}
use Rattle.sv_model.specs.Registers.{entry}
use Rattle.sv_files.specs.Calls.{opened}
use Rattle.sv_laws.specs.Installs.{live_super}
use Rattle.sv_model.proofs.Entries.{get_one}
use Rattle.sv_laws.proofs.Opened.{first-sound}
use Rattle.sv_objects.specs.declared.bodies.Body.{Body}
use Rattle.sv_objects.specs.declared.objects.Objects.{Objects}
use Rattle.sv_objects.specs.Makings.{FamilyMade}
use Rattle.sv_state.specs.Refs.{AreFrozenAt, IsBodyOf, IsKept, IsState}

least-zero : {A : Type 0} (live : A → Bool) (place : A → ℕ) (p : ℕ) → IsLeastFree live place [] p → p ≡ 0
least-zero live place p h = ⊎_elim (λ e. e) (λ more. let w = h.lower 0 more in absurd (none w.0 w.1 w.2)) cases
  where
    cases : (p ≡ 0) ⊎ (0 < p)
    cases = grind arith

    none : {B : Type 0} (n : ℕ) (x : B) → entry [] n ≡ Some x → ⊥
    none zero x e = absurd (cc)
    none (suc n) x e = absurd (cc)

module _ (o p : Objects) (next pack : ℕ) (body : Body) (h : FamilyMade o 0 first_options p pack body) (supers : o.supers ≡ []) (memtables : o.memtables ≡ []) (lists : o.lists ≡ []) (versions : o.versions ≡ []) (files : o.files ≡ opened next []) where
  place : h.place ≡ 0
  place = least-zero super_live place_of h.place (subst (λ l. IsLeastFree super_live place_of l h.place) supers h.least)

  cell : h.cell ≡ 0
  cell = least-zero memtable_live cell_of h.cell (subst (λ l. IsLeastFree memtable_live cell_of l h.cell) memtables h.cell_least)

  abbrev pub first : Descriptor
  first = record { family = 0; active = 1; list = 1; version = 1; base = 0; options = first_options }

  made-supers : p.supers ≡ live_super first 0 ∷ []
  made-supers = h.supers ∙ (λ i. supers i ++ live_super (record { family = 0; active = length (memtables i) + 1; list = length (lists i) + 1; version = length (versions i) + 1; base = 0; options = first_options }) (place i) ∷ [])

  made-memtables : p.memtables ≡ record { family = 0; first = 0; cell = 0; live = true } ∷ []
  made-memtables = h.memtables ∙ (λ i. memtables i ++ record { family = 0; first = 0; cell = cell i; live = true } ∷ [])

  made-lists : p.lists ≡ record { members = []; live = true } ∷ []
  made-lists = h.lists ∙ (λ i. lists i ++ record { members = []; live = true } ∷ [])

  made-versions : p.versions ≡ record { files = []; live = true } ∷ []
  made-versions = h.versions ∙ (λ i. versions i ++ record { files = []; live = true } ∷ [])

  pub pack_is : pack ≡ 1 * 256 + 0
  pack_is = h.pack_is ∙ (λ i. (length (supers i) + 1) * 256 + place i)

  descriptor_is : body.descriptor ≡ first
  descriptor_is = h.descriptor_is ∙ (λ i. record { family = 0; active = length (memtables i) + 1; list = length (lists i) + 1; version = length (versions i) + 1; base = 0; options = first_options })

  pub first-books : (J : List Write) (N : List Snapshot) (M : List FileMeta) (F : List Family) (T : List Top) → J ≡ [] → N ≡ [] → M ≡ [] → F ≡ default_family ∷ []
      → T ≡ record { current = Some 1; last = body.descriptor.version } ∷ []
      → record { journal = J; supers = p.supers; memtables = p.memtables; lists = p.lists; versions = p.versions; files = p.files; metas = M; families = F; tops = T; snapshots = N } ≡ opening_books next
  first-books J N M F T j n m f t =
      let top : T ≡ record { current = Some 1; last = 1 } ∷ [] = t ∙ ap (λ (d : Descriptor). record { current = Some 1; last = d.version } ∷ []) descriptor_is in
      λ i. record {
        journal = j i;
        supers = made-supers i;
        memtables = made-memtables i;
        lists = made-lists i;
        versions = made-versions i;
        files = (h.files ∙ files) i;
        metas = m i;
        families = f i;
        tops = top i;
        snapshots = n i;
      }

  pub first-state : 1 ≤ next → next ≤ 18446744073709551615 → (r : SvRef Body) → r.pack ≡ pack → r.body.value ≡ body → IsState (opening_books next) (Some r ∷ [])
  first-state least most r e g = record {
    sound = first-sound next least most;
    kept = record {
      paired = refl;
      each = λ i t at. let one = get_one (record { current = Some 1; last = 1 }) i t at in (
        Some r,
        ap (slice_get (Some r ∷ [])) one.0,
        subst (λ (z : Top). IsKept (opening_books next) z.current (Some r)) (sym one.1) (record {
          it = live_super first 0;
          at = refl;
          pack_is = e ∙ pack_is;
          body_is = subst (IsBodyOf (opening_books next) first) (sym g) (record {
            descriptor_is = descriptor_is;
            cell = record { it = record { family = 0; first = 0; cell = 0; live = true }; at = refl; is = sym cell ∙ sym h.cell_is };
            list = record { members = []; live = true };
            list_at = refl;
            frozen = subst (AreFrozenAt [] (record { family = 0; first = 0; cell = 0; live = true } ∷ []) []) (sym h.frozen_are) tt;
            version = record { files = []; live = true };
            version_at = refl;
            files_are = h.files_are;
          });
        }),
      );
    };
  }
