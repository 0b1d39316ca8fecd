-- What stands after a close.
use Rattle.std.proofs.Common.{◌≡◌, inl, inr, ⊎_elim, ℕ, Bool, true, false, Some, None, refl, sym, ap, ◌∙◌, subst}
use Rattle.std.specs.Prelude.{slice_get}
use Rattle.sv_model.specs.declared.records.Family.{Family}
use Rattle.sv_model.specs.declared.records.FileStatus.{FileStatus}
use Rattle.sv_model.specs.declared.records.FileStatus.TheVariants.{Gone, Grabbed, Live, Obsolete, Pending}
use Rattle.sv_model.specs.declared.records.MemtableList.{MemtableList}
use Rattle.sv_model.specs.declared.records.Memtable.{Memtable}
use Rattle.sv_model.specs.declared.records.RegisteredFile.{RegisteredFile}
use Rattle.sv_model.specs.declared.records.SuperVersion.{SuperVersion}
use Rattle.sv_model.specs.declared.records.Top.{Top}
use Rattle.sv_model.specs.Books.{Books, files_of}
use Rattle.sv_model.specs.Families.{is_retired}
use Rattle.sv_model.specs.Lists.{In}
use Rattle.sv_model.specs.Named.{HasLast, UsesVersion, list_live, memtable_live, numbers_of, super_live}
use Rattle.sv_model.specs.Numbers.{IsRegistered}
use Rattle.sv_model.specs.Registers.{Has, entry}
use Rattle.sv_model.specs.Steady.{Sound}
use Rattle.sv_journal.specs.Calls.{AreEnded}
use Rattle.sv_laws.proofs.Apart.{false_true}
use Rattle.sv_laws.proofs.Handles.{not-retired-open}
use Rattle.sv_laws.proofs.StillFits.{files-at}
use Rattle.sv_state.specs.Currents.{IsShownFile}
use Rattle.sv_store.specs.Closing.{IsClosed, IsSettledNumber}
use Rattle.sv_store.specs.Standing.{IsAlone, IsStill}

not-live : (b : Bool) → (b ≡ true → ⊥) → b ≡ false
not-live true h = absurd (h refl)
not-live false h = refl

module _ (b : Books) (sound : Sound b) (alone : IsAlone b) (still : IsStill b.files)
    (tops : (f : ℕ) (t : Top) → slice_get b.tops f ≡ Some t → t.current ≡ None)
    (retired : (f : ℕ) (x : Family) → slice_get b.families f ≡ Some x → x.dropped ≡ true → is_retired x ≡ true)
    (snapshots : AreEnded b.snapshots) where
  no-super : (n : ℕ) (x : SuperVersion) → entry b.supers n ≡ Some x → x.live ≡ true → ⊥
  no-super n x at l =
      let h = alone n x at l in
      let z : None ≡ Some n = sym (tops h.0 h.1 h.2) ∙ h.3 in
      absurd (cc)

  no-list : (n : ℕ) (x : MemtableList) → entry b.lists n ≡ Some x → x.live ≡ true → ⊥
  no-list n x at l = let h = (sound.lawful.lists n).0 (record { it = x; at = at; live = l }) in no-super h.0 h.1 h.2 h.3.live

  no-memtable : (n : ℕ) (x : Memtable) → entry b.memtables n ≡ Some x → x.live ≡ true → ⊥
  no-memtable n x at l = ⊎_elim
      (λ h. no-super h.0 h.1 h.2 h.3.live)
      (λ h. no-list h.0 h.1 h.2 h.3.live)
      ((sound.lawful.memtables n).0 (record { it = x; at = at; live = l }))

  -- a family that is not retired is not dropped
  stands : (f : ℕ) (x : Family) → slice_get b.families f ≡ Some x → is_retired x ≡ false → x.dropped ≡ false
  stands f x at r = not-live x.dropped (λ d. false_true (sym r ∙ retired f x at d))

  -- a Live number is that of a file that stands
  shown : (n : ℕ) → IsRegistered b.files.numbers n Live → IsShownFile b n
  shown n r =
      let v = (sound.lawful.files n).0 r in
      ⊎_elim
      (λ (h : Has (UsesVersion v.0) b.supers). absurd (no-super h.0 h.1 h.2 h.3.live))
      (λ (h : HasLast v.0 b.families b.tops). record {
        family = h.id;
        stands = record { it = h.family; at = h.at; stands = stands h.id h.family h.at h.stands; top = h.top; on = h.on };
        has = subst (λ l. In n (numbers_of l)) (sym (ap (files_of b.versions) h.is ∙ files-at b.versions v.0 v.1 v.2)) v.3.has;
      })
      ((sound.lawful.versions v.0).0 (record { it = v.1; at = v.2; live = v.3.live }))

  settled : (i : ℕ) (x : RegisteredFile) → entry b.files.numbers i ≡ Some x → IsSettledNumber b x
  settled i x at = by x.status refl
    where
      by : (s : FileStatus) → x.status ≡ s → IsSettledNumber b x
      by Gone q = inl q
      by Obsolete q = inr (inl q)
      by Live q = inr (inr (q, shown x.number (i, x, at, record { number_is = refl; status_is = q })))
      by Grabbed q = absurd (still.given_back x.number (i, x, at, record { number_is = refl; status_is = q }))
      by Pending q =
          let p = sound.lawful.numbers.pending i x at q in
          absurd (let z : Some x.number ≡ None = still.idle p.0 (Some x.number) p.2 in cc)

  -- a file that stands is Live
  live : (n : ℕ) → IsShownFile b n → IsRegistered b.files.numbers n Live
  live n s =
      let v = s.stands.top.last in
      let named = (sound.lawful.versions v).1 (inr (record {
        id = s.family;
        family = s.stands.it;
        top = s.stands.top;
        at = s.stands.at;
        on = s.stands.on;
        stands = not-retired-open s.stands.it s.stands.stands;
        is = refl;
      })) in
      (sound.lawful.files n).1 (
        v,
        named.it,
        named.at,
        record {
          live = named.live;
          has = subst (λ l. In n (numbers_of l)) (files-at b.versions v named.it named.at) s.has;
        },
      )

  pub is-closed : IsClosed b
  is-closed = record {
    tops = tops;
    retired = retired;
    supers = λ n x at. not-live (super_live x) (no-super n x at);
    lists = λ n x at. not-live (list_live x) (no-list n x at);
    memtables = λ n x at. not-live (memtable_live x) (no-memtable n x at);
    snapshots = snapshots;
    numbers = settled;
    files = live;
  }
