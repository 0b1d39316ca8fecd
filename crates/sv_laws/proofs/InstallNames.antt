-- A SuperVersion becomes current: what is Live is named, and what is named is Live.
use Rattle.std.proofs.Common.{ℕ, ◌+◌, ◌⊎◌, inl, inr, ⊎_elim, List, [], ◌∷◌, ◌++◌, length, Some, sym, ap, ◌∙◌, subst}
use Rattle.std.specs.Prelude.{slice_get, ◌↔◌}
use mathlib.Core.Logic.{dite}
use native.Mathlib.Decide.{ℕ_discrete}
use Rattle.sv_model.specs.declared.records.SuperVersion.{SuperVersion}
use Rattle.sv_model.specs.declared.records.Memtable.{Memtable}
use Rattle.sv_model.specs.declared.records.MemtableList.{MemtableList}
use Rattle.sv_model.specs.declared.records.Version.{Version}
use Rattle.sv_model.specs.declared.records.Family.{Family}
use Rattle.sv_model.specs.declared.records.Top.{Top}
use Rattle.sv_model.specs.declared.records.FileStatus.TheVariants.{Pending, Live}
use Rattle.sv_model.specs.Lists.{In}
use Rattle.sv_model.specs.Named.{HasMember, HasFile, numbers_of, IsLive, memtable_live, list_live, version_live, UsesMemtable, UsesList, UsesVersion, HasLast, NamedMemtable, NamedVersion, NamedList, NamedFile}
use Rattle.sv_model.specs.Registers.{GoesOn}
use Rattle.sv_model.specs.After.{KeepsMemtable, KeepsList, KeepsVersion, KeepsNumber}
use Rattle.sv_model.specs.Books.{Books, FileRegister}
use Rattle.sv_model.specs.Numbers.{IsRegistered}
use Rattle.sv_model.specs.Lawful.{Lawful}
use Rattle.sv_model.specs.Steady.{Sound}
use Rattle.sv_model.proofs.Registers.{goes-same}
use Rattle.sv_model.proofs.AfterLaws.{memtable-itself, list-itself, version-itself, number-itself}
use Rattle.sv_laws.specs.Installs.{Installs, IsNewMemtable, IsNewList, IsNewVersion}
use Rattle.sv_model.proofs.Entries.{some, has-old, has-new, has_push}
use Rattle.sv_laws.proofs.GrownRegisters.{grown_entry, grown-old, grown-goes, grown-has, placed_get}
use Rattle.sv_laws.proofs.Settled.{marked-goes, marked-keeps, marked_is}
use Rattle.sv_laws.proofs.Apart.{live_pending, pending_gone}

module _ (a b : Books) (k : Sound a) (f : ℕ) (r : Family) (x : SuperVersion) (h : Installs a b f r x) where
  abbrev S : List SuperVersion
  S = a.supers ++ x ∷ []

  abbrev top : Top
  top = record { current = Some (length a.supers + 1); last = x.descriptor.version }

  abbrev PM : ℕ → Memtable → Type 0
  PM = IsNewMemtable a f x.descriptor.active

  abbrev PL : ℕ → MemtableList → Type 0
  PL = IsNewList a x.descriptor.active x.descriptor.list

  abbrev PV : ℕ → Version → Type 0
  PV = IsNewVersion b.files.numbers x.descriptor.version

  law : Lawful a
  law = k.lawful

  pub memtables-on : GoesOn KeepsMemtable a.memtables b.memtables
  memtables-on = grown-goes PM a.memtables b.memtables h.memtables KeepsMemtable memtable-itself

  pub lists-on : GoesOn KeepsList a.lists b.lists
  lists-on = grown-goes PL a.lists b.lists h.lists KeepsList list-itself

  pub versions-on : GoesOn KeepsVersion a.versions b.versions
  versions-on = grown-goes PV a.versions b.versions h.versions KeepsVersion version-itself

  pub numbers-on : GoesOn KeepsNumber a.files.numbers b.files.numbers
  numbers-on = ⊎_elim
      (λ q. subst (λ (F : FileRegister). GoesOn KeepsNumber a.files.numbers F.numbers) (sym q) (goes-same KeepsNumber a.files.numbers number-itself))
      (λ w. marked-goes w.number Pending Live a.files.numbers b.files.numbers w.settled.numbers (λ e. absurd (pending_gone e)))
      h.files

  live-m : (m : ℕ) → IsLive memtable_live a.memtables m → IsLive memtable_live b.memtables m
  live-m m w = record { it = w.it; at = grown-old PM a.memtables b.memtables h.memtables m w.it w.at; live = w.live }

  pub memtables_law : (m : ℕ) → IsLive memtable_live b.memtables m ↔ NamedMemtable S b.lists m
  memtables_law m = (
    λ w. ⊎_elim
        (λ e. ⊎_elim (λ o. inl (has-old (UsesMemtable m) a.supers x o)) (λ o. inr (grown-has PL a.lists b.lists h.lists (HasMember m) o)) ((law.memtables m).0 (record { it = w.it; at = e; live = w.live })))
        (λ q. inl (has-new (UsesMemtable m) a.supers x (record { live = h.live; is = sym q.1.is_active })))
        (grown_entry PM a.memtables b.memtables h.memtables m w.it w.at),
    ⊎_elim
        (λ w. ⊎_elim (λ o. live-m m ((law.memtables m).1 (inl o))) (λ o. subst (IsLive memtable_live b.memtables) o.is h.active_live) (has_push (UsesMemtable m) a.supers x w))
        (λ w. ⊎_elim
        (λ o. live-m m ((law.memtables m).1 (inr (w.0, w.1, o, w.3))))
        (λ o. live-m m (o.1.members m w.3.has).0)
        (grown_entry PL a.lists b.lists h.lists w.0 w.1 w.2)),
  )

  pub lists_law : (l : ℕ) → IsLive list_live b.lists l ↔ NamedList S l
  lists_law l = (
    λ w. ⊎_elim
        (λ e. has-old (UsesList l) a.supers x ((law.lists l).0 (record { it = w.it; at = e; live = w.live })))
        (λ q. has-new (UsesList l) a.supers x (record { live = h.live; is = sym q.1.is_list }))
        (grown_entry PL a.lists b.lists h.lists l w.it w.at),
    λ w. ⊎_elim
        (λ o. let t = (law.lists l).1 o in record {
          it = t.it;
          at = grown-old PL a.lists b.lists h.lists l t.it t.at;
          live = t.live;
        })
        (λ o. subst (IsLive list_live b.lists) o.is h.list_lives)
        (has_push (UsesList l) a.supers x w),
  )

  live-v : (v : ℕ) → IsLive version_live a.versions v → IsLive version_live b.versions v
  live-v v w = record { it = w.it; at = grown-old PV a.versions b.versions h.versions v w.it w.at; live = w.live }

  last-to : (v : ℕ) → HasLast v a.families a.tops → NamedVersion S b.families b.tops v
  last-to v w = dite (ℕ_discrete w.id f)
      (λ q.
      let had = h.had w.top (ap (slice_get a.tops) (sym q) ∙ w.on) in
      let t = law.tops w.id had.0 w.family w.top w.at w.on had.1 in
      inl (has-old (UsesVersion v) a.supers x (had.0, t.it, t.at, record { live = t.live; is = t.last_is ∙ w.is })))
      (λ q. inr (record {
        id = w.id;
        family = w.family;
        top = w.top;
        at = h.families.others w.id q ∙ w.at;
        on = h.tops.others w.id q ∙ w.on;
        stands = w.stands;
        is = w.is;
      }))

  last-from : (v : ℕ) → HasLast v b.families b.tops → IsLive version_live b.versions v
  last-from v w = ⊎_elim
      (λ q. subst (IsLive version_live b.versions) (ap (λ (t : Top). t.last) (sym q.1) ∙ w.is) h.version_lives)
      (λ q. live-v v ((law.versions v).1 (inr (record {
        id = w.id;
        family = w.family;
        top = w.top;
        at = sym (h.families.others w.id q.0) ∙ w.at;
        on = q.1;
        stands = w.stands;
        is = w.is;
      }))))
      (placed_get a.tops b.tops f top h.tops w.id w.top w.on)

  pub versions_law : (v : ℕ) → IsLive version_live b.versions v ↔ NamedVersion S b.families b.tops v
  versions_law v = (
    λ w. ⊎_elim
        (λ e. ⊎_elim (λ o. inl (has-old (UsesVersion v) a.supers x o)) (last-to v) ((law.versions v).0 (record { it = w.it; at = e; live = w.live })))
        (λ q. inl (has-new (UsesVersion v) a.supers x (record { live = h.live; is = sym q.1.is_version })))
        (grown_entry PV a.versions b.versions h.versions v w.it w.at),
    ⊎_elim
        (λ w. ⊎_elim (λ o. live-v v ((law.versions v).1 (inl o))) (λ o. subst (IsLive version_live b.versions) o.is h.version_lives) (has_push (UsesVersion v) a.supers x w))
        (last-from v),
  )

  live-n : (n : ℕ) → IsRegistered a.files.numbers n Live → IsRegistered b.files.numbers n Live
  live-n n w = ⊎_elim
      (λ q. subst (λ (F : FileRegister). IsRegistered F.numbers n Live) (sym q) w)
      (λ o. marked-keeps o.number Pending Live a.files.numbers b.files.numbers o.settled.numbers n Live (λ e. live_pending e) w)
      h.files

  live_n : (n : ℕ) → IsRegistered b.files.numbers n Live → IsRegistered a.files.numbers n Live ⊎ NamedFile b.versions n
  live_n n w = ⊎_elim
      (λ q. inl (subst (λ (F : FileRegister). IsRegistered F.numbers n Live) q w))
      (λ o. ⊎_elim
      (λ e. inl e)
      (λ e. inr (
        x.descriptor.version,
        o.it,
        o.at,
        record {
          live = ap (λ (v : Version). v.live) (some (sym o.at ∙ h.version_lives.at)) ∙ h.version_lives.live;
          has = subst (λ i. In i (numbers_of o.it.files)) (sym e.0) o.has;
        },
      ))
      (marked_is o.number Pending Live a.files.numbers b.files.numbers o.settled.numbers n Live w))
      h.files

  pub files_law : (n : ℕ) → IsRegistered b.files.numbers n Live ↔ NamedFile b.versions n
  files_law n = (
    λ w. ⊎_elim
        (λ o. grown-has PV a.versions b.versions h.versions (HasFile n) ((law.files n).0 o))
        (λ o. o)
        (live_n n w),
    λ w. ⊎_elim
        (λ o. live-n n ((law.files n).1 (w.0, w.1, o, w.3)))
        (λ o. o.1.files n w.3.has)
        (grown_entry PV a.versions b.versions h.versions w.0 w.1 w.2),
  )
