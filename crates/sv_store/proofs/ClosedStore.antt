-- The close, put together: holds and snapshots end, then currents, then files are removed.
use Rattle.std.proofs.Common.{◌≡◌, ◌<◌, ⊎_elim, ℕ, List, Option, Some, None, length, refl, sym, ap, ◌∙◌, subst, arith}
use Rattle.std.specs.Prelude.{slice_get, sum}
use Rattle.std.proofs.lemmas.List.{length-map}
use Rattle.sv_model.specs.declared.records.Family.{Family}
use Rattle.sv_model.specs.declared.records.FileStatus.TheVariants.{Gone}
use Rattle.sv_model.specs.declared.records.Snapshot.{Snapshot}
use Rattle.sv_model.specs.declared.records.Top.{Top}
use Rattle.sv_model.specs.Books.{Books, FileRegister}
use Rattle.sv_model.specs.Cells.{Cell}
use Rattle.sv_model.specs.Numbers.{IsRegistered}
use Rattle.sv_model.specs.Steady.{Sound}
use Rattle.sv_files.specs.Calls.{without_holds}
use Rattle.sv_journal.specs.Calls.{AreEnded}
use Rattle.sv_laws.proofs.GrownRegisters.{get_within}
use Rattle.sv_state.specs.Follows.{Follows}
use Rattle.sv_store.specs.Closing.{Closes, ClosesFiles, IsClosed, LetsGo}
use Rattle.sv_store.specs.Ending.{CanClose, CanRemove, EndsCurrents, EndsSnapshots, RemovesObsolete}
use Rattle.sv_store.specs.Removals.{DirSeen, ended, with_gone}
use Rattle.sv_store.specs.Standing.{IsAlone, IsStill, Rests}
use Rattle.sv_store.proofs.ClosedBooks.{is-closed}
use Rattle.sv_store.proofs.EndedNumbers.{still-gone}
use Rattle.sv_store.proofs.LeftNumbers.{gone-exact}
use Rattle.sv_store.proofs.StillLaws.{still-same}

-- holds and snapshots ended
abbrev pub at_rest : Books → List Snapshot → Books
at_rest a snapshots = record a { files = without_holds a.files; snapshots = snapshots }

pub rested : (a m b : Books) → m ≡ record a { files = m.files } → m.files ≡ without_holds a.files → EndsSnapshots m b → b ≡ at_rest a b.snapshots
rested a m b only ended h = h.is ∙ ap (λ (z : Books). record z { snapshots = b.snapshots }) (only ∙ ap (λ (z : FileRegister). record a { files = z }) ended)

module _ (a b : Books) (cells : List (Option Cell)) (rests : Rests a cells) (e : b ≡ at_rest a b.snapshots) where
  pub rest-still : IsStill b.files
  rest-still = subst (λ (z : Books). IsStill z.files) (sym e) (still-same a.files (without_holds a.files) rests.still refl refl refl)

  pub can-close : CanClose b
  can-close = subst CanClose (sym e) (record {
    alone = λ n x at l. ⊎_elim (λ h. h) (λ h. absurd h) (rests.stands.alone n x at l);
    currents = λ f x at stands. let c = rests.stands.currents f x at stands in record { top = c.top; at = c.at; serial = c.serial; is = c.is };
  })

  module _ (m : Books) (h : EndsCurrents b m 16) where
    pub can-remove : CanRemove m.files
    can-remove = record {
      still = h.still rest-still;
      free = ap (λ (z : Books). sum z.files.holds) h.makes.is ∙ ap (λ (z : Books). sum z.files.holds) e;
    }

    module _ (sound : Sound m) (follows : Follows b m) (alone : IsAlone m) (none : AreEnded b.snapshots)
        (n : Books) (d : DirSeen) (only : n ≡ record m { files = n.files }) (sound_n : Sound n) (r : RemovesObsolete m.files n.files d) where
      few-tops : (f : ℕ) (t : Top) → slice_get m.tops f ≡ Some t → f < 16
      few-tops f t at = omega (arith, get_within m.tops f t at, sound.lawful.paired, sound.lawful.limits.families)

      few-families : (f : ℕ) (x : Family) → slice_get m.families f ≡ Some x → f < 16
      few-families f x at = omega (arith, get_within m.families f x at, sound.lawful.limits.families)

      pub closed-books : IsClosed n
      closed-books = is-closed n sound_n
          (subst IsAlone (sym only) alone)
          (subst IsStill (sym r.is) (still-gone m.files r.gone can-remove.still))
          (λ f t at. let q = ap (λ (z : Books). slice_get z.tops f) (sym only) ∙ at in (h.ended f (few-tops f t q)).none t q)
          (λ f x at. let q = ap (λ (z : Books). slice_get z.families f) (sym only) ∙ at in (h.ended f (few-families f x q)).retired x q)
          (subst (λ (z : Books). AreEnded z.snapshots) (sym (only ∙ ap (λ (z : Books). record z { files = n.files }) h.makes.is)) none)

      is : n ≡ record (at_rest a b.snapshots) {
        supers = m.supers;
        memtables = m.memtables;
        lists = m.lists;
        versions = m.versions;
        files = with_gone (without_holds (record a.files { numbers = m.files.numbers })) r.gone;
        families = m.families;
        tops = m.tops;
      }
      is = only
          ∙ ap (λ (z : FileRegister). record m { files = z }) r.is
          ∙ ap (λ (z : Books). record z { files = with_gone z.files r.gone }) h.makes.is
          ∙ ap (λ (z : Books). record z {
            supers = m.supers;
            memtables = m.memtables;
            lists = m.lists;
            versions = m.versions;
            files = with_gone (record z.files { numbers = m.files.numbers }) r.gone;
            families = m.families;
            tops = m.tops;
          }) e

      lasts : (f : ℕ) (t : Top) → slice_get a.tops f ≡ Some t → slice_get n.tops f ≡ Some (record t { current = None })
      lasts f t at =
          let q = ap (λ (z : Books). slice_get z.tops f) e ∙ at in
          let few : f < 16 = omega (arith, get_within b.tops f t q, paired, many) in
          ap (λ (z : Books). slice_get z.tops f) only ∙ (h.ended f few).top t q
        where
          paired : length b.tops ≡ length b.families
          paired = ap (λ (z : Books). length z.tops) e ∙ rests.stands.sound.lawful.paired ∙ sym (ap (λ (z : Books). length z.families) e)

          many : length b.families < 17
          many = omega (arith, ap (λ (z : Books). length z.families) e, rests.stands.sound.lawful.limits.families)

      families : (f : ℕ) (x : Family) → slice_get a.families f ≡ Some x → (y : Family) × (slice_get n.families f ≡ Some y) × LetsGo x y
      families f x at =
          let q = ap (λ (z : Books). slice_get z.families f) e ∙ at in
          let few : f < 16 = omega (arith, get_within a.families f x at, rests.stands.sound.lawful.limits.families) in
          let y = (h.ended f few).family_is x q in
          (y.0, ap (λ (z : Books). slice_get z.families f) only ∙ y.1, y.2)

      pub closes-books : length b.snapshots ≡ length a.snapshots → Closes a n
      closes-books taken = record {
        supers = ap (λ (z : Books). length z.supers) only ∙ h.makes.supers ∙ ap (λ (z : Books). length z.supers) e;
        memtables = ap (λ (z : Books). length z.memtables) only ∙ h.makes.memtables ∙ ap (λ (z : Books). length z.memtables) e;
        lists = ap (λ (z : Books). length z.lists) only ∙ h.makes.lists ∙ ap (λ (z : Books). length z.lists) e;
        versions = ap (λ (z : Books). length z.versions) only ∙ h.makes.versions ∙ ap (λ (z : Books). length z.versions) e;
        numbers = ap (λ (z : FileRegister). length z.numbers) r.is ∙ length-map m.files.numbers (ended r.gone) ∙ h.makes.numbers ∙ ap (λ (z : Books). length z.files.numbers) e;
        snapshots = ap (λ (z : Books). length z.snapshots) only ∙ ap (λ (z : Books). length z.snapshots) h.makes.is ∙ taken;
        lasts = lasts;
        families = families;
        is = subst (λ (z : Books). z ≡ record a {
          supers = z.supers;
          memtables = z.memtables;
          lists = z.lists;
          versions = z.versions;
          files = without_holds (record a.files { numbers = z.files.numbers });
          families = z.families;
          tops = z.tops;
          snapshots = z.snapshots;
        })
            (sym is)
            refl;
      }

      -- what is Gone stays so
      stays-gone : (k : ℕ) → IsRegistered a.files.numbers k Gone → IsRegistered m.files.numbers k Gone
      stays-gone k g =
          let q = subst (λ (z : Books). IsRegistered z.files.numbers k Gone) (sym e) g in
          let y = follows.after.numbers q.0 q.1 q.2 in
          (q.0, y.0, y.1, record { number_is = y.2.number ∙ q.3.number_is; status_is = y.2.gone q.3.status_is })

      was-gone : (k : ℕ) → IsRegistered m.files.numbers k Gone → IsRegistered a.files.numbers k Gone
      was-gone k g = subst (λ (z : Books). IsRegistered z.files.numbers k Gone) e (h.makes.gone k g)

      pub closes-files : ClosesFiles a.files n.files d
      closes-files = record {
        gone = r.gone;
        exact = λ k.
            let x = gone-exact m.files n.files d r sound.lawful.numbers.once k in
            ((λ i. let o = x.0 i in (o.0, λ g. o.1 (stays-gone k g))), (λ o. x.1 (o.0, λ g. o.1 (was-gone k g))));
        files = r.files;
      }
