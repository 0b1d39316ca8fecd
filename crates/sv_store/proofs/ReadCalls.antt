-- Where the lane's family can be read.
use Rattle.std.proofs.Common.{◌≡◌, ℕ, List, length, Option, Some, None, refl, sym, ◌∙◌, subst, arith}
use Rattle.std.specs.Prelude.{IsSomeAnd, slice_get}
use Rattle.sv_model.specs.declared.records.Family.{Family}
use Rattle.sv_model.specs.declared.records.Version.{Version}
use Rattle.sv_model.specs.Books.{Books}
use Rattle.sv_model.specs.Cells.{Cell}
use Rattle.sv_model.specs.Described.{FilesStand}
use Rattle.sv_model.specs.Families.{IsOwn}
use Rattle.sv_model.specs.Snapshots.{IsClear}
use Rattle.sv_model.proofs.Entries.{some}
use Rattle.sv_laws.proofs.CutLaws.{cut-ascend, cut-now}
use Rattle.sv_reads.proofs.BodyParts.{clear_after}
use Rattle.sv_state.specs.Currents.{HasCurrentAt}
use Rattle.sv_state.specs.Taken.{IsCut}
use Rattle.sv_store.specs.Reading.{CanReadAt, IsEnd}
use Rattle.sv_store.specs.Standing.{Stands}
use Rattle.sv_store.proofs.FrameLaws.{own-currents}

-- ---- the family that the lane means

some-and : (o : Option Family) (P : Family → Type 0) → IsSomeAnd o P → (x : Family) × (o ≡ Some x) × P x
some-and None P h = absurd h
some-and (Some x) P h = (x, refl, h)

module _ (b : Books) (cells : List (Option Cell)) (h : Stands b cells None) (name : List ℕ) (f : ℕ) (own : IsSomeAnd (slice_get b.families f) (IsOwn 0 name)) where
  it : (x : Family) × (slice_get b.families f ≡ Some x) × IsOwn 0 name x
  it = some-and (slice_get b.families f) (IsOwn 0 name) own

  pub own-current : HasCurrentAt b f
  own-current = own-currents b cells h 0 name f it.0 it.1 it.2

  -- at its last write
  pub can-read-end : (cut : ℕ) → IsEnd b f cut → CanReadAt b f cut
  can-read-end cut end = record {
    current = own-current;
    within = omega (arith, end);
    clear = λ file last.
        let l = h.sound.lawful.lasts f last.top last.top_at in
        let same = some (sym l.at ∙ last.version_at) in
        let stand : FilesStand b.files.numbers b.metas f last.version.files l.to = subst (λ (v : Version). FilesStand b.files.numbers b.metas f v.files l.to) same l.files in
        clear_after 0 last.version.files l.to cut stand.joins (λ i x e. (stand.each i x e).some) (omega (arith, end, l.within)) last.has.at file last.has.is;
  }

  -- at a Live snapshot
  pub can-read-cut : (id cut : ℕ) → IsCut b id f cut → CanReadAt b f cut
  can-read-cut id cut c =
      let law = h.sound.lawful in
      let at = law.snapshots.within id c.it c.found in
      record {
        current = own-current;
        within = omega (arith, c.is, cut-ascend b.journal f c.it.at (length b.journal) at, cut-now b.journal f);
        clear = λ file last. subst (λ n. IsClear n file) (sym c.is) (law.snapshots.lasts id c.it c.found c.live f file last);
      }
