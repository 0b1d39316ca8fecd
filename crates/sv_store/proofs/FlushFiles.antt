-- The file that a flush plans, over the memtables of the list.
use Rattle.std.proofs.Common.{◌≡◌, ◌<◌, ◌++◌, ◌∷◌, ℕ, List, [], length, refl, sym, ap, ◌∙◌, subst, arith}
use Rattle.std.specs.declared.sync.Arc.{Arc}
use Rattle.sv_model.specs.declared.records.FileMeta.{FileMeta}
use Rattle.sv_model.specs.declared.records.Memtable.{Memtable}
use Rattle.sv_model.specs.declared.records.MemtableList.{MemtableList}
use Rattle.sv_model.specs.declared.records.SuperVersion.{SuperVersion}
use Rattle.sv_model.specs.declared.records.Version.{Version}
use Rattle.sv_model.specs.declared.writes.Row.{Row}
use Rattle.sv_model.specs.declared.writes.Write.{Write}
use Rattle.sv_model.specs.Books.{Books}
use Rattle.sv_model.specs.Cells.{Cell}
use Rattle.sv_model.specs.Ranges.{reach_of}
use Rattle.sv_model.specs.Registers.{entry}
use Rattle.sv_model.specs.Steady.{Sound}
use Rattle.sv_model.proofs.Entries.{some}
use Rattle.sv_laws.specs.Captures.{IsFlushBegun}
use Rattle.sv_laws.proofs.OpenFamilies.{ends-at, of_f, one-current, says}
use Rattle.sv_outputs.specs.Flushing.{AreWritesOf, rows_in}
use Rattle.sv_outputs.specs.Planned.{PlansFlush, rows_borne}
use Rattle.sv_objects.specs.declared.bodies.Body.{Body}
use Rattle.sv_objects.specs.Shown.{shown}
use Rattle.sv_state.specs.Refs.{AreFrozenAt, IsBodyOf}
use Rattle.sv_store.specs.Emptying.{IsEmptied, rows_at}
use Rattle.sv_store.specs.Flushing.{Begins}

-- the rows of the frozen memtables are those that the list's memtables bear
pub frozen-rows : {Z : Type 0} (J : List Write) (M : List Memtable) (ms : List ℕ) (xs : List (ℕ × Arc Cell Z)) → AreFrozenAt J M ms (shown xs) → rows_in xs ≡ rows_borne J ms
frozen-rows J M [] [] h = refl
frozen-rows J M [] (x ∷ xs) h = absurd h
frozen-rows J M (m ∷ ms) [] h = absurd h
frozen-rows J M (m ∷ ms) (x ∷ xs) h = λ i. (ap (λ (z : Cell). z.rows) h.0.rows i) ++ (frozen-rows J M ms xs h.1 i)

module _ (a b : Books) (k : Sound a) (f : ℕ) (file : FileMeta) (h : IsFlushBegun a b f file) where
  pub plans : PlansFlush a h.c.descriptor file
  plans =
      let d = says a k f h.s h.c h.is_open in
      record {
        describes = d;
        some = subst (λ (l : MemtableList). 0 < length l.members) (some (sym h.list_at ∙ d.list_at)) h.some;
        from_is = h.from_is ∙ ap (λ (v : Version). reach_of v.files) (some (sym h.version_at ∙ d.version_at));
        to_is = h.to_is;
        kind = h.kind;
        cuts = h.captured.cuts.cuts;
      }

  pub begins : IsEmptied a f → Begins a b f file
  begins e =
      let same : e.begin.it ≡ h.c = one-current a.tops a.supers f e.begin.serial h.s e.begin.it h.c e.begin.is_open.current h.is_open.current in
      record {
        begun = h;
        whole = omega (arith, h.to_is, ends-at a k f h.s h.c h.is_open, ap (λ (x : SuperVersion). rows_at a x) same, e.empty);
      }

  -- the rows of the frozen memtables of the current are those of the plan
  pub due-rows : (body : Body) → IsBodyOf b h.c.descriptor body → rows_in body.frozen ≡ rows_borne a.journal plans.describes.list.members
  due-rows body w =
      let journal : b.journal ≡ a.journal = ap (λ (z : Books). z.journal) h.captured.is in
      let members : w.list.members ≡ plans.describes.list.members =
      ap (λ (l : MemtableList). l.members)
      (some (sym w.list_at ∙ ap (λ (z : Books). entry z.lists h.c.descriptor.list) h.captured.is ∙ plans.describes.list_at)) in
      frozen-rows b.journal b.memtables w.list.members body.frozen w.frozen ∙ (λ i. rows_borne (journal i) (members i))

  pub due-own : (rows : List Row) → rows ≡ rows_borne a.journal plans.describes.list.members → AreWritesOf a.journal h.c.descriptor.family file (rows_borne a.journal plans.describes.list.members)
      → AreWritesOf a.journal f file rows
  due-own rows q own = subst (λ (z : ℕ × List Row). AreWritesOf a.journal z.0 file z.1) (λ i. (of_f a k f h.s h.c h.is_open i, sym q i)) own
