-- What goes with a SuperVersion: just what it named and nothing else names; which cells become free.
use Rattle.std.proofs.Common.{◌≡◌, ℕ, ◌⊎◌, inl, inr, ⊎_elim, true, false, List, Some, sym, ap, ◌∙◌, subst}
use Rattle.sv_model.specs.declared.records.SuperVersion.{SuperVersion}
use Rattle.sv_model.specs.declared.records.Memtable.{Memtable}
use Rattle.sv_model.specs.declared.records.MemtableList.{MemtableList}
use Rattle.sv_model.specs.declared.records.Version.{Version}
use Rattle.sv_model.specs.declared.records.RegisteredFile.{RegisteredFile}
use Rattle.sv_model.specs.declared.records.FileStatus.TheVariants.{Live}
use Rattle.sv_model.specs.Lists.{In}
use Rattle.sv_model.specs.Named.{numbers_of, IsLive, memtable_live, list_live, version_live, UsesMemtable, UsesList, UsesVersion, NamedFile}
use Rattle.sv_model.specs.Registers.{entry, GoesOn}
use Rattle.sv_model.specs.After.{KeepsMemtable, KeepsList, KeepsVersion}
use Rattle.sv_model.specs.Books.{Books}
use Rattle.sv_model.specs.Numbers.{IsRegistered}
use Rattle.sv_model.specs.Lawful.{Lawful}
use Rattle.sv_model.specs.Steady.{Sound}
use Rattle.sv_laws.specs.Cleaning.{IsCleaned, Went}
use Rattle.sv_model.proofs.Entries.{some}
use Rattle.sv_laws.proofs.Registers.{goes-back, has-keep, live-back}
use Rattle.sv_laws.proofs.EndsLaws.{files-live}

module _ (a b : Books) (k : Sound a) (s : ℕ) (x : SuperVersion) (h : IsCleaned a b s x) where
  law : Lawful a
  law = k.lawful

  abbrev y : SuperVersion
  y = record x { live = false }

  abbrev N : List RegisteredFile
  N = b.files.numbers

  gm : GoesOn KeepsMemtable a.memtables b.memtables
  gm = h.memtables.goes

  gl : GoesOn KeepsList a.lists b.lists
  gl = h.lists.goes

  gv : GoesOn KeepsVersion a.versions b.versions
  gv = h.versions.goes

  -- a list that goes is that of the SuperVersion
  pub list-went : (l : ℕ) → IsLive list_live a.lists l → IsLive list_live b.lists l ⊎ (x.descriptor.list ≡ l)
  list-went l w =
      ⊎_elim
      (λ o. inl ((h.lists.exact l).1 (w, o)))
      (λ o. inr o.is)
      (has-keep (UsesList l) a.supers s x y h.at ((law.lists l).0 w))

  -- a memtable that goes is the active one, or a member of the list
  pub memtable-went : (m : ℕ) → IsLive memtable_live a.memtables m
      → IsLive memtable_live b.memtables m ⊎ ((x.descriptor.active ≡ m) ⊎ ((z : MemtableList) × (entry a.lists x.descriptor.list ≡ Some z) × In m z.members))
  memtable-went m w = ⊎_elim
      (λ o. ⊎_elim (λ u. inl ((h.memtables.exact m).1 (w, inl u))) (λ u. inr (inl u.is)) (has-keep (UsesMemtable m) a.supers s x y h.at o))
      (λ o. ⊎_elim
      (λ u. inl ((h.memtables.exact m).1 (
        w,
        inr (
          o.0,
          u.it,
          u.at,
          record {
            live = u.live;
            has = (let t = gl o.0 o.1 o.2 in subst (In m) (ap (λ (q : MemtableList). q.members) (some (sym t.1 ∙ u.at))) (subst (In m) (sym t.2.members) o.3.has));
          },
        ),
      )))
      (λ u. inr (inr (o.1, ap (entry a.lists) u ∙ o.2, o.3.has)))
      (list-went o.0 (record { it = o.1; at = o.2; live = o.3.live })))
      ((law.memtables m).0 w)

  -- a Version that goes is that of the SuperVersion
  pub version-went : (v : ℕ) → IsLive version_live a.versions v
      → IsLive version_live b.versions v ⊎ (x.descriptor.version ≡ v)
  version-went v w = ⊎_elim
      (λ o. ⊎_elim (λ u. inl ((h.versions.exact v).1 (w, inl u))) (λ u. inr u.is) (has-keep (UsesVersion v) a.supers s x y h.at o))
      (λ o. inl ((h.versions.exact v).1 (w, inr o)))
      ((law.versions v).0 w)

  -- a file that becomes Obsolete is one of that Version
  pub file-went : (n : ℕ) → IsRegistered a.files.numbers n Live
      → IsRegistered b.files.numbers n Live ⊎ ((v : Version) × (entry a.versions x.descriptor.version ≡ Some v) × In n (numbers_of v.files))
  file-went n w =
      let o = (law.files n).0 w in
      ⊎_elim
      (λ u. inl (files-live (NamedFile b.versions) a.files.numbers N h.numbers n w (
        o.0,
        u.it,
        u.at,
        record {
          live = u.live;
          has = (let t = gv o.0 o.1 o.2 in subst (λ (q : Version). In n (numbers_of q.files)) (some (sym t.1 ∙ u.at)) (subst (λ l. In n (numbers_of l)) (sym t.2.files) o.3.has));
        },
      )))
      (λ u. inr (o.1, ap (entry a.versions) u ∙ o.2, o.3.has))
      (version-went o.0 (record { it = o.1; at = o.2; live = o.3.live }))

  -- no Live memtable is in a cell of one that went
  pub went-free : (c : ℕ) → Went a.memtables b.memtables c → (m : ℕ) (z : Memtable) → entry b.memtables m ≡ Some z
      → z.live ≡ true → z.cell ≡ c → ⊥
  went-free c w m z at live q =
      let t = goes-back KeepsMemtable a.memtables b.memtables gm h.memtables.long m z at in
      let same =
      (law.cells w.id w.it w.at w.was_live).1 m t.0 t.1 (live-back t.0.live z.live t.2.gone live) (sym t.2.cell ∙ q ∙ sym w.is) in
      w.gone (record { it = z; at = ap (entry b.memtables) (sym same) ∙ at; live = live })

  -- one memtable went from a cell
  pub went-once : (c : ℕ) (v w : Went a.memtables b.memtables c) → v.id ≡ w.id
  went-once c v w = (law.cells w.id w.it w.at w.was_live).1 v.id v.it v.at v.was_live (v.is ∙ sym w.is)
