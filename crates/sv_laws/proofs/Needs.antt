-- What sound books give to the conditions of the parts' calls.
use Rattle.std.proofs.Common.{◌≡◌, ◌≢◌, ◌<◌, ◌≤◌, ℕ, ◌+◌, ⊎_elim, false, List, [], ◌∷◌, ◌++◌, length, Some, refl, sym, ap, ◌∙◌, subst, arith, length-append}
use Rattle.sv_model.specs.declared.writes.Write.{Write}
use Rattle.sv_model.specs.declared.records.SuperVersion.{SuperVersion}
use Rattle.sv_model.specs.declared.records.Memtable.{Memtable}
use Rattle.sv_model.specs.declared.records.MemtableList.{MemtableList}
use Rattle.sv_model.specs.declared.records.Version.{Version}
use Rattle.sv_model.specs.declared.records.RegisteredFile.{RegisteredFile}
use Rattle.sv_model.specs.declared.records.FileStatus.TheVariants.{Pending}
use Rattle.sv_model.specs.Journal.{borne_by}
use Rattle.sv_model.specs.Lists.{In, total, bit}
use Rattle.sv_model.specs.Named.{IsLive, memtable_live, NamedFile}
use Rattle.sv_model.specs.Ranges.{FilesJoin, reach_of}
use Rattle.sv_model.specs.Registers.{entry, change, GoesOn}
use Rattle.sv_model.specs.After.{KeepsMemtable}
use Rattle.sv_model.specs.Books.{Books}
use Rattle.sv_model.specs.Numbers.{IsRegistered}
use Rattle.sv_model.specs.Described.{MembersJoin}
use Rattle.sv_model.specs.Steady.{Sound, IsCurrent}
use Rattle.sv_model.specs.declared.holders.TheConstants.{MAX_HOLDERS}
use Rattle.sv_model.proofs.Registers.{entry-else, total-change, goes-change}
use Rattle.sv_model.proofs.AfterLaws.{memtable-itself}
use Rattle.sv_model.proofs.NumberLaws.{one_entry}
use Rattle.sv_model.proofs.Entries.{some, in-cons, in-suc, in-none, in_append}
use Rattle.sv_laws.specs.Installs.{IsOpen}
use Rattle.sv_laws.proofs.StillFits.{join-on, join-append, join_reach}
use Rattle.sv_laws.proofs.OpenFamilies.{current-top, says, member, active-lives}
use Rattle.sv_laws.proofs.Apart.{pending_live}

late : (J : List Write) (M : List Memtable) (f : ℕ) (ms : List ℕ) (from to m : ℕ) (it : Memtable)
    → MembersJoin J M f from ms to → In m ms → entry M m ≡ Some it → from ≤ it.first
late J M f [] from to m it j i h = absurd (in-none m i)
late J M f (n ∷ ms) from to m it j i h = ⊎_elim
    (λ q. omega (arith, j.0.first_is, ap (λ (x : Memtable). x.first) (some (sym j.0.at ∙ ap (entry M) (sym q) ∙ h))))
    (λ o. omega (arith, late J M f ms (from + length (borne_by n J)) to m it j.1 o h))
    (in-cons m n ms i)

-- Live memtables whose ranges join are at most as many as are Live.
pub few-live : (J : List Write) (f : ℕ) (ms : List ℕ) (M : List Memtable) (from to : ℕ) → MembersJoin J M f from ms to
    → ((m : ℕ) → In m ms → IsLive memtable_live M m) → length ms ≤ total (λ x. bit x.live) M
few-live J f [] M from to j lives = omega arith
few-live J f (n ∷ ms) M from to j lives =
    let h = lives n (record { at = 0; is = refl }) in
    let y : Memtable = record h.it { live = false } in
    let N = change M n y in
    let goes : GoesOn KeepsMemtable M N = goes-change KeepsMemtable M n h.it y memtable-itself h.at (record {
      family = refl;
      first = refl;
      cell = refl;
      gone = λ _. refl;
    }) in
    let one : bit h.it.live ≡ 1 = ap bit h.live in
    let less = total-change (λ (x : Memtable). bit x.live) M n h.it y h.at in
    let rest = few-live J f ms N (from + length (borne_by n J)) to (join-on J M N goes f ms (from + length (borne_by n J)) to j.1)
    (λ m i. let o = lives m (in-suc m n ms i) in
    let apart : m ≢ n =
    λ q. (let l = late J M f ms (from + length (borne_by n J)) to m h.it j.1 i (ap (entry M) q ∙ h.at) in let s : j.0.it ≡ h.it = some (sym j.0.at ∙ h.at) in omega (arith, l, j.0.first_is, j.0.some, ap (λ (x : Memtable). x.first) s)) in
    record { it = o.it; at = entry-else M n m y apart ∙ o.at; live = o.live }) in
    omega (arith, rest, less, one)

module _ (a : Books) (k : Sound a) where
  pub few-lists : length a.lists < MAX_HOLDERS
  few-lists = omega (arith, k.steady.lists_made, k.lawful.limits.supers)

  pub few-memtables : length a.memtables < MAX_HOLDERS
  few-memtables = omega (arith, k.steady.memtables_made, k.lawful.limits.supers)

  pub few-versions : length a.versions < MAX_HOLDERS
  few-versions = omega (arith, k.steady.versions_made, k.lawful.limits.supers)

  -- a current is of one family: one that was and is no more is current of none
  pub one-family : (f g s : ℕ) (x y : SuperVersion) → IsCurrent a.tops a.supers f s x
      → IsCurrent a.tops a.supers g s y → f ≡ g
  one-family f g s x y p q =
      let t = current-top a k.lawful f s p.top p.at p.is in
      let u = current-top a k.lawful g s q.top q.at q.is in
      sym t.2.family_is ∙ ap (λ (z : SuperVersion). z.descriptor.family) (some (sym t.2.at ∙ u.2.at)) ∙ u.2.family_is

  -- no Version has a Pending file
  pub unnamed : (n : ℕ) → IsRegistered a.files.numbers n Pending → NamedFile a.versions n → ⊥
  unnamed n w h =
      let l = (k.lawful.files n).1 h in
      let q = one_entry a.files.numbers n w.0 l.0 w.1 l.1 (k.lawful.numbers.once n) w.2 l.2 w.3.number_is l.3.number_is in
      pending_live
      (sym w.3.status_is ∙ ap (λ (z : RegisteredFile). z.status) (some (sym w.2 ∙ ap (entry a.files.numbers) q ∙ l.2)) ∙ l.3.status_is)

  module _ (f s : ℕ) (c : SuperVersion) (o : IsOpen a f s c) where
    -- a memtable more has room in the list
    pub few-members : 0 < length (borne_by c.descriptor.active a.journal) → (z : MemtableList)
        → entry a.lists c.descriptor.list ≡ Some z → length z.members < 64
    few-members row z e =
        let d = says a k f s c o in
        let J = a.journal in
        let g = c.descriptor.family in
        let old : MembersJoin J a.memtables g d.middle z.members c.descriptor.base =
        subst (λ (u : MemtableList). MembersJoin J a.memtables g d.middle u.members c.descriptor.base)
        (some (sym d.list_at ∙ e)) d.members in
        let last : MembersJoin J a.memtables g c.descriptor.base (c.descriptor.active ∷ []) (c.descriptor.base + length (borne_by c.descriptor.active J)) =
        (record { it = d.active; at = d.active_at; family_is = d.active_family; first_is = sym d.base; some = row }, refl) in
        let all =
        join-append J a.memtables g z.members (c.descriptor.active ∷ []) d.middle c.descriptor.base
        (c.descriptor.base + length (borne_by c.descriptor.active J)) old last in
        let h = few-live J g (z.members ++ c.descriptor.active ∷ []) a.memtables d.middle (c.descriptor.base + length (borne_by c.descriptor.active J)) all
        (λ m i. ⊎_elim (λ j. (member a k f s c o m z e j).0) (λ j. ⊎_elim (λ q. subst (IsLive memtable_live a.memtables) (sym q) (active-lives a k f s c o)) (λ q. absurd (in-none m q)) (in-cons m c.descriptor.active [] j)) (in_append m z.members (c.descriptor.active ∷ []) i)) in
        omega (arith, h, k.lawful.limits.live_memtables, length-append z.members (c.descriptor.active ∷ []))

    -- the files of the current's Version join from 0 to their reach
    pub reaches : (v : Version) → entry a.versions c.descriptor.version ≡ Some v
        → FilesJoin 0 v.files (reach_of v.files)
    reaches v e =
        let d = says a k f s c o in
        let j : FilesJoin 0 v.files d.middle =
        subst (λ (u : Version). FilesJoin 0 u.files d.middle) (some (sym d.version_at ∙ e)) d.files.joins in
        subst (FilesJoin 0 v.files) (sym (join_reach v.files 0 d.middle j)) j
