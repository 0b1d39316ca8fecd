-- How a cleanup begins: the list and the Version go where nothing names them, and what is to be looked at.
use Rattle.std.proofs.Common.{◌≡◌, ℕ, ◌⊎◌, inl, inr, ⊎_elim, true, false, List, [], length, Option, Some, None, refl, sym, ap, ◌∙◌, subst}
use Rattle.std.specs.Prelude.{slice_get}
use Rattle.sv_model.specs.declared.records.SuperVersion.{SuperVersion}
use Rattle.sv_model.specs.declared.records.MemtableList.{MemtableList}
use Rattle.sv_model.specs.declared.records.Version.{Version}
use Rattle.sv_model.specs.Lists.{In}
use Rattle.sv_model.specs.Named.{HasMember, HasFile, IsLive, list_live, version_live, UsesMemtable, UsesList, UsesVersion, NamedMemtable, NamedVersion, NamedList, NamedFile}
use Rattle.sv_model.specs.Registers.{entry, change, Has, GoesOn}
use Rattle.sv_model.specs.After.{KeepsMemtable, KeepsList, KeepsVersion}
use Rattle.sv_model.specs.Books.{Books}
use Rattle.sv_model.specs.Steady.{Sound}
use Rattle.sv_model.proofs.Registers.{entry-else, entry_change, goes-same, goes-change, length-change}
use Rattle.sv_model.proofs.AfterLaws.{memtable-itself, list-itself, version-itself}
use Rattle.sv_laws.specs.Midst.{Midst, MidstFiles, Frees, EndsList, EndsVersion}
use Rattle.sv_laws.specs.Cleaning.{Ends}
use Rattle.sv_model.proofs.Entries.{in-none}
use Rattle.sv_laws.proofs.Registers.{goes-back, has-shrink, has-keep, live-back}
use Rattle.sv_laws.proofs.EndsLaws.{ends-of}
use Rattle.sv_laws.proofs.MidstLaws.{member-or-not, file-or-not}
use Rattle.sv_laws.proofs.Apart.{false_true}

module _ (a : Books) (k : Sound a) (s : ℕ) (x : SuperVersion) (at : entry a.supers s ≡ Some x) (live : x.live ≡ true) where
  abbrev S : List SuperVersion
  S = change a.supers s (record x { live = false })

  list-lives : IsLive list_live a.lists x.descriptor.list
  list-lives = (k.lawful.lists x.descriptor.list).1 (s, x, at, record { live = live; is = refl })

  version-lives : IsLive version_live a.versions x.descriptor.version
  version-lives = (k.lawful.versions x.descriptor.version).1 (inl (s, x, at, record { live = live; is = refl }))

  -- the lists
  pub lists-ended : (freed : Option ℕ) (L : List MemtableList) (given : List ℕ)
      → Frees (Has (UsesList x.descriptor.list) S) x.descriptor.list freed → EndsList a.lists freed L given
      → Ends KeepsList list_live (NamedList S) a.lists L
  lists-ended None L given f e =
      ends-of KeepsList list_live (NamedList S) a.lists L (λ y z r. r.gone) (ap length e.0)
      (subst (GoesOn KeepsList a.lists) (sym e.0) (goes-same KeepsList a.lists list-itself)) (λ l. (
        λ w. ⊎_elim
            (λ o. o)
            (λ o. subst (λ i. Has (UsesList i) S) o.is f)
            (has-keep (UsesList l) a.supers s x (record x { live = false }) at ((k.lawful.lists l).0 (subst (λ K. IsLive list_live K l) e.0 w))),
        λ w. subst (λ K. IsLive list_live K l) (sym e.0) ((k.lawful.lists l).1 (has-shrink (UsesList l) a.supers s (record x { live = false }) (λ u. false_true u.live) w)),
      ))
  lists-ended (Some d) L given f e =
      let z = list-lives in
      let new = e z.it (ap (entry a.lists) f.0 ∙ z.at) in
      let y : MemtableList = record z.it { live = false } in
      let d_at : entry a.lists d ≡ Some z.it = ap (entry a.lists) f.0 ∙ z.at in
      let K : List MemtableList = change a.lists d y in
      subst (Ends KeepsList list_live (NamedList S) a.lists) (sym new.0)
      (ends-of KeepsList list_live (NamedList S) a.lists K (λ u v r. r.gone) (length-change a.lists d y) (goes-change KeepsList a.lists d z.it y list-itself d_at (record { members = refl; gone = λ _. refl })) (λ l. (
        λ w. ⊎_elim
            (λ q. false_true (sym (ap (λ (u : MemtableList). u.live) q.1) ∙ w.live))
            (λ q. ⊎_elim (λ o. o) (λ o. absurd (q.0 (sym o.is ∙ sym f.0))) (has-keep (UsesList l) a.supers s x (record x { live = false }) at ((k.lawful.lists l).0 (record { it = w.it; at = q.1; live = w.live }))))
            (entry_change a.lists d l y w.it w.at),
        λ w. let o = (k.lawful.lists l).1 (has-shrink (UsesList l) a.supers s (record x { live = false }) (λ u. false_true u.live) w) in
            record {
              it = o.it;
              at = entry-else a.lists d l y (λ q. f.1 (subst (λ i. Has (UsesList i) S) (q ∙ f.0) w)) ∙ o.at;
              live = o.live;
            },
      )))

  -- a member of a list before is one of a list afterwards, or is given
  member-kept : (freed : Option ℕ) (L : List MemtableList) (given : List ℕ)
      → Frees (Has (UsesList x.descriptor.list) S) x.descriptor.list freed → EndsList a.lists freed L given → (m : ℕ)
      → Has (HasMember m) a.lists → Has (HasMember m) L ⊎ In m given
  member-kept None L given f e m w = inl (subst (Has (HasMember m)) (sym e.0) w)
  member-kept (Some d) L given f e m w =
      let z = list-lives in
      let d_at : entry a.lists d ≡ Some z.it = ap (entry a.lists) f.0 ∙ z.at in
      let new = e z.it d_at in
      ⊎_elim
      (λ o. inl o)
      (λ none. ⊎_elim (λ o. inl (subst (Has (HasMember m)) (sym new.0) o)) (λ o. inr ((new.1.exact m).1 (o.has, none))) (has-keep (HasMember m) a.lists d z.it (record z.it { live = false }) d_at w))
      (member-or-not m L)

  -- The memtables to look at: the active one where it is freed, and the members that are given.
  pub midst-begins : (active list : Option ℕ) (L : List MemtableList) (given left : List ℕ)
      → Frees (Has (UsesMemtable x.descriptor.active) S) x.descriptor.active active
      → Frees (Has (UsesList x.descriptor.list) S) x.descriptor.list list → EndsList a.lists list L given
      → ((n : ℕ) → active ≡ Some n → In n left) → ((n : ℕ) → In n given → In n left) → Midst (NamedMemtable S L) a.memtables a.memtables left []
  midst-begins active list L given left fa fl e ia ig =
      let ends = lists-ended list L given fl e in
      record {
        long = refl;
        goes = goes-same KeepsMemtable a.memtables memtable-itself;
        live = λ m w. ⊎_elim
            (λ o. ⊎_elim (λ u. inl (inl u)) (λ u. by m u.is active fa ia) (has-keep (UsesMemtable m) a.supers s x (record x { live = false }) at o))
            (λ o. ⊎_elim (λ u. inl (inr u)) (λ u. inr (ig m u)) (member-kept list L given fl e m o))
            ((k.lawful.memtables m).0 w);
        named = λ m. ⊎_elim
            (λ o. (k.lawful.memtables m).1 (inl (has-shrink (UsesMemtable m) a.supers s (record x { live = false }) (λ u. false_true u.live) o)))
            (λ o. let t = goes-back KeepsList a.lists L ends.goes ends.long o.0 o.1 o.2 in (k.lawful.memtables m).1 (inr (
              o.0,
              t.0,
              t.1,
              record {
                live = live-back t.0.live o.1.live t.2.gone o.3.live;
                has = subst (In m) t.2.members o.3.has;
              },
            )));
        went = record {
          exact = λ c. (λ i. absurd (in-none c i), λ w. absurd (w.gone (record { it = w.it; at = w.at; live = w.was_live })));
          once = λ i j c p q. none_at i c p;
        };
      }
    where
      by : (m : ℕ) → x.descriptor.active ≡ m → (o : Option ℕ)
          → Frees (Has (UsesMemtable x.descriptor.active) S) x.descriptor.active o
          → ((n : ℕ) → o ≡ Some n → In n left) → NamedMemtable S L m ⊎ In m left
      by m q (Some n) g i = inr (subst (λ j. In j left) (g.0 ∙ q) (i n refl))
      by m q None g i = inl (inl (subst (λ j. Has (UsesMemtable j) S) q g))

      none_at : {B : Type 0} (i c : ℕ) → slice_get [] i ≡ Some c → B
      none_at i c p = absurd (cc)

  -- The Versions: that of the SuperVersion goes where no other names it and it is no last one.
  pub versions-ended : (gone : Option ℕ) (V : List Version) (given : List ℕ)
      → Frees (NamedVersion S a.families a.tops x.descriptor.version) x.descriptor.version gone
      → EndsVersion a.versions gone V given
      → Ends KeepsVersion version_live (NamedVersion S a.families a.tops) a.versions V
  versions-ended None V given f e =
      ends-of KeepsVersion version_live (NamedVersion S a.families a.tops) a.versions V (λ y z r. r.gone)
      (ap length e.0)
      (subst (GoesOn KeepsVersion a.versions) (sym e.0) (goes-same KeepsVersion a.versions version-itself))
      (λ v. (
        λ w. ⊎_elim
            (λ o. ⊎_elim (λ u. inl u) (λ u. subst (NamedVersion S a.families a.tops) u.is f) (has-keep (UsesVersion v) a.supers s x (record x { live = false }) at o))
            (λ o. inr o)
            ((k.lawful.versions v).0 (subst (λ K. IsLive version_live K v) e.0 w)),
        λ w. subst (λ K. IsLive version_live K v) (sym e.0) ((k.lawful.versions v).1 (before v w)),
      ))
    where
      before : (v : ℕ) → NamedVersion S a.families a.tops v → NamedVersion a.supers a.families a.tops v
      before v = ⊎_elim
          (λ w. inl (has-shrink (UsesVersion v) a.supers s (record x { live = false }) (λ u. false_true u.live) w))
          (λ w. inr w)
  versions-ended (Some d) V given f e =
      let z = version-lives in
      let d_at : entry a.versions d ≡ Some z.it = ap (entry a.versions) f.0 ∙ z.at in
      let new = e z.it d_at in
      let y : Version = record z.it { live = false } in
      let K : List Version = change a.versions d y in
      subst (Ends KeepsVersion version_live (NamedVersion S a.families a.tops) a.versions) (sym new.0)
      (ends-of KeepsVersion version_live (NamedVersion S a.families a.tops) a.versions K (λ u v r. r.gone) (length-change a.versions d y) (goes-change KeepsVersion a.versions d z.it y version-itself d_at (record { files = refl; gone = λ _. refl })) (λ v. (
        λ w. ⊎_elim
            (λ q. false_true (sym (ap (λ (u : Version). u.live) q.1) ∙ w.live))
            (λ q. ⊎_elim
            (λ o. ⊎_elim (λ u. inl u) (λ u. absurd (q.0 (sym u.is ∙ sym f.0))) (has-keep (UsesVersion v) a.supers s x (record x { live = false }) at o))
            (λ o. inr o)
            ((k.lawful.versions v).0 (record { it = w.it; at = q.1; live = w.live })))
            (entry_change a.versions d v y w.it w.at),
        λ w. let o = (k.lawful.versions v).1 (⊎_elim (λ u. inl (has-shrink (UsesVersion v) a.supers s (record x { live = false }) (λ i. false_true i.live) u)) (λ u. inr u) w) in
            record {
              it = o.it;
              at = entry-else a.versions d v y (λ q. f.1 (subst (NamedVersion S a.families a.tops) (q ∙ f.0) w)) ∙ o.at;
              live = o.live;
            },
      )))

  -- the files to look at are those that are given
  pub midst-files-begin : (gone : Option ℕ) (V : List Version) (given : List ℕ)
      → Frees (NamedVersion S a.families a.tops x.descriptor.version) x.descriptor.version gone
      → EndsVersion a.versions gone V given → MidstFiles (λ n. NamedFile V n) a.files.numbers a.files.numbers given
  midst-files-begin gone V given f e = record {
    long = refl;
    goes = λ i z at. (z, at, inl refl);
    live = λ n w. by gone f e n ((k.lawful.files n).0 w);
  }
    where
      by : (o : Option ℕ) → Frees (NamedVersion S a.families a.tops x.descriptor.version) x.descriptor.version o
          → EndsVersion a.versions o V given → (n : ℕ) → NamedFile a.versions n → NamedFile V n ⊎ In n given
      by None g c n w = inl (subst (Has (HasFile n)) (sym c.0) w)
      by (Some d) g c n w =
          let z = version-lives in
          let d_at : entry a.versions d ≡ Some z.it = ap (entry a.versions) g.0 ∙ z.at in
          let new = c z.it d_at in
          ⊎_elim
          (λ o. inl o)
          (λ none. ⊎_elim (λ o. inl (subst (Has (HasFile n)) (sym new.0) o)) (λ o. inr ((new.1.exact n).1 (o.has, none))) (has-keep (HasFile n) a.versions d z.it (record z.it { live = false }) d_at w))
          (file-or-not n V)
