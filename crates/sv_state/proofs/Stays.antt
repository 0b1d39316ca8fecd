-- What is kept of references stays so in later books.
use Rattle.std.proofs.Common.{◌≡◌, ◌+◌, ◌*◌, ◌∷◌, ℕ, List, [], Option, Some, None, length, refl, sym, ap, ◌∙◌, subst}
use Rattle.std.specs.Prelude.{slice_get}
use Rattle.sv_model.specs.declared.writes.Write.{Write}
use Rattle.sv_model.specs.declared.records.Memtable.{Memtable}
use Rattle.sv_model.specs.declared.records.Top.{Top}
use Rattle.sv_model.specs.declared.sv_refs.SvRef.{SvRef}
use Rattle.sv_model.specs.After.{After, KeepsMemtable}
use Rattle.sv_model.specs.Books.{Books}
use Rattle.sv_model.specs.Cells.{Cell}
use Rattle.sv_model.specs.Journal.{borne_by, rows_of}
use Rattle.sv_model.specs.Lists.{In}
use Rattle.sv_model.specs.Registers.{entry, GoesOn}
use Rattle.sv_model.specs.Steady.{Sound}
use Rattle.sv_objects.specs.declared.bodies.Body.{Body}
use Rattle.sv_objects.specs.Makings.{IsCellOf}
use Rattle.sv_objects.specs.Shown.{shown}
use Rattle.sv_model.proofs.Entries.{in-suc}
use Rattle.sv_state.specs.Refs.{AreFrozenAt, IsKept, IsRefOf, IsState}

pub cell-stays : (M N : List Memtable) → GoesOn KeepsMemtable M N → (m cell : ℕ) → IsCellOf M m cell → IsCellOf N m cell
cell-stays M N goes m cell h = let t = goes m h.it h.at in record { it = t.0; at = t.1; is = t.2.cell ∙ h.is }

pub frozen-stay : (J K : List Write) (M N : List Memtable) → GoesOn KeepsMemtable M N → (ms : List ℕ) (xs : List (ℕ × Cell))
    → ((m : ℕ) → In m ms → borne_by m K ≡ borne_by m J) → AreFrozenAt J M ms xs → AreFrozenAt K N ms xs
frozen-stay J K M N goes [] [] same h = tt
frozen-stay J K M N goes [] (x ∷ xs) same h = h
frozen-stay J K M N goes (m ∷ ms) [] same h = h
frozen-stay J K M N goes (m ∷ ms) (x ∷ xs) same h = (
  record {
    cell = cell-stays M N goes m x.0 h.0.cell;
    rows = h.0.rows ∙ ap (λ (l : List Write). record { id = m; rows = rows_of l }) (sym (same m (record { at = 0; is = refl })));
  },
  frozen-stay J K M N goes ms xs (λ n i. same n (in-suc n m ms i)) h.1,
)

module _ (a b : Books) (after : After a b) where
  pub ref-stays : (serial pack : ℕ) (body : Body) → IsRefOf a serial pack body → IsRefOf b serial pack body
  ref-stays serial pack body h =
      let s = after.supers serial h.it h.at in
      let w = h.body_is in
      let l = after.lists h.it.descriptor.list w.list w.list_at in
      let v = after.versions h.it.descriptor.version w.version w.version_at in
      let same = sym s.2.descriptor in
      record {
        it = s.0;
        at = s.1;
        pack_is = h.pack_is ∙ ap (λ p. serial * 256 + p) (sym s.2.place);
        body_is = record {
          descriptor_is = w.descriptor_is ∙ same;
          cell = subst (λ d. IsCellOf b.memtables d.active body.cell) same (cell-stays a.memtables b.memtables after.memtables h.it.descriptor.active body.cell w.cell);
          list = l.0;
          list_at = subst (λ d. entry b.lists d.list ≡ Some l.0) same l.1;
          frozen = subst (λ ms. AreFrozenAt b.journal b.memtables ms (shown body.frozen)) (sym l.2.members)
              (frozen-stay a.journal b.journal a.memtables b.memtables after.memtables w.list.members (shown body.frozen) (λ m i. after.rows h.it.descriptor.list m w.list w.list_at i) w.frozen);
          version = v.0;
          version_at = subst (λ d. entry b.versions d.version ≡ Some v.0) same v.1;
          files_are = w.files_are ∙ sym v.2.files;
        };
      }

  pub kept-stays : (current : Option ℕ) (r : Option (SvRef Body)) → IsKept a current r → IsKept b current r
  kept-stays None None h = tt
  kept-stays None (Some r) h = h
  kept-stays (Some s) None h = h
  kept-stays (Some s) (Some r) h = ref-stays s r.pack r.body.value h

-- a call that leaves what families have on top
pub keeps-state : (a b : Books) (held : List (Option (SvRef Body))) → IsState a held → Sound b × After a b → b.tops ≡ a.tops
    → IsState b held
keeps-state a b held h law same = record {
  sound = law.0;
  kept = record {
    paired = h.kept.paired ∙ ap (λ (l : List Top). length l) (sym same);
    each = λ f t e. let k = h.kept.each f t (ap (λ l. slice_get l f) (sym same) ∙ e) in (k.0, k.1, kept-stays a b law.1 t.current k.0 k.2);
  };
}
