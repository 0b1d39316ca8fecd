-- Each change keeps active memtables frozen that are no current's.
use Rattle.std.proofs.Common.{◌≡◌, ◌≢◌, ◌+◌, ◌⊎◌, inl, inr, ⊎_elim, ℕ, true, false, List, [], ◌∷◌, ◌++◌, length, Some, None, refl, sym, ◌∙◌, ap, subst, arith}
use Rattle.std.specs.Prelude.{slice_get, slice_set}
use Rattle.sv_model.specs.declared.records.Descriptor.{Descriptor}
use Rattle.sv_model.specs.declared.records.MemtableList.{MemtableList}
use Rattle.sv_model.specs.declared.records.SuperVersion.{SuperVersion}
use Rattle.sv_model.specs.declared.records.Top.{Top}
use Rattle.sv_model.specs.After.{KeepsList}
use Rattle.sv_model.specs.Books.{Books}
use Rattle.sv_model.specs.Journal.{of_family}
use Rattle.sv_model.specs.Lists.{In}
use Rattle.sv_model.specs.Families.{first_options}
use Rattle.sv_model.specs.Openings.{opening_books}
use Rattle.sv_model.specs.Registers.{GoesOn, change, entry}
use Rattle.sv_model.specs.Steady.{IsCurrent, Sound}
use Rattle.sv_model.proofs.Basics.{apart_or, none_some}
use Rattle.sv_model.proofs.Registers.{entry-new, entry_change, entry_le, entry_push, goes-push, goes-same}
use Rattle.sv_model.proofs.AfterLaws.{list-itself}
use Rattle.sv_laws.specs.Changes.{Changes, cleaned, compacted, created, current_ended, dropped, flush_begun, flushed, forgotten, given_up, grabbed, held, merge_planned, opened, option_set, released, retired, snapped, stray, switched, unsnapped, written}
use Rattle.sv_laws.specs.Cleaning.{IsCleaned}
use Rattle.sv_laws.specs.Growing.{IsPlaced}
use Rattle.sv_laws.specs.Installs.{live_super, next_top}
use Rattle.sv_laws.proofs.GrownRegisters.{placed-push, placed-set}
use Rattle.sv_model.proofs.Entries.{entry_one, in-right, some}
use Rattle.sv_laws.proofs.OpenFamilies.{current-top, of_f}
use Rattle.sv_replies.specs.FrozenActives.{ActivesAreFrozen, WasListed}
use Rattle.sv_replies.proofs.AfterLemmas.{has-later}

-- a member of a list stays one
listed-later : (a b : Books) (m : ℕ) → GoesOn KeepsList a.lists b.lists → WasListed a m → WasListed b m
listed-later a b m goes h =
    has-later KeepsList (λ l. In m l.members) (λ l. In m l.members) (λ x y kept it. subst (λ (ms : List ℕ). In m ms) (sym kept.members) it) a.lists b.lists goes h

same-lists : (a b : Books) → b.lists ≡ a.lists → GoesOn KeepsList a.lists b.lists
same-lists a b same =
    subst (λ (l : List MemtableList). GoesOn KeepsList a.lists l) (sym same) (goes-same KeepsList a.lists list-itself)

more-lists : (a b : Books) (l : MemtableList) → b.lists ≡ a.lists ++ l ∷ [] → GoesOn KeepsList a.lists b.lists
more-lists a b l more =
    subst (λ (z : List MemtableList). GoesOn KeepsList a.lists z) (sym more) (goes-push KeepsList a.lists l list-itself)

module _ (a b : Books) (frozen : ActivesAreFrozen a) where
  -- no SuperVersion is made, and each current was one
  kept : ((n : ℕ) (x : SuperVersion) → entry b.supers n ≡ Some x → (y : SuperVersion) × (entry a.supers n ≡ Some y) × (x.descriptor ≡ y.descriptor))
      → ((f n : ℕ) (x : SuperVersion) → IsCurrent b.tops b.supers f n x → (y : SuperVersion) × IsCurrent a.tops a.supers f n y × (x.descriptor ≡ y.descriptor))
      → GoesOn KeepsList a.lists b.lists → ActivesAreFrozen b
  kept was current goes n x at s c is =
      let y = was n x at in
      let d = current x.descriptor.family s c is in
      let active : x.descriptor.active ≡ y.0.descriptor.active = ap (λ (z : Descriptor). z.active) y.2 in
      ⊎_elim
      (λ same. inl (active ∙ same ∙ ap (λ (z : Descriptor). z.active) (sym d.2)))
      (λ listed. inr (subst (λ m. WasListed b m) (sym active) (listed-later a b y.0.descriptor.active goes listed)))
      (frozen n y.0 y.1 s d.0 (subst (λ f. IsCurrent a.tops a.supers f s d.0) (ap (λ (z : Descriptor). z.family) y.2) d.1))

  same_supers : b.supers ≡ a.supers → (n : ℕ) (x : SuperVersion) → entry b.supers n ≡ Some x
      → (y : SuperVersion) × (entry a.supers n ≡ Some y) × (x.descriptor ≡ y.descriptor)
  same_supers same n x at = (x, ap (λ (l : List SuperVersion). entry l n) (sym same) ∙ at, refl)

  -- nor do the tops change
  pub stands : b.supers ≡ a.supers → b.tops ≡ a.tops → b.lists ≡ a.lists → ActivesAreFrozen b
  stands supers tops lists =
      kept (same_supers supers)
      (λ f n x is. (x, record { top = is.top; at = ap (λ (l : List Top). slice_get l f) (sym tops) ∙ is.at; is = is.is; has = ap (λ (l : List SuperVersion). entry l n) (sym supers) ∙ is.has }, refl))
      (same-lists a b lists)

  -- a family's current ends
  pub ends : (g : ℕ) (t : Top) → slice_get a.tops g ≡ Some t → b.supers ≡ a.supers
      → b.tops ≡ slice_set a.tops g (record t { current = None }) → b.lists ≡ a.lists → ActivesAreFrozen b
  ends g t at supers tops lists =
      let placed : IsPlaced a.tops b.tops g (record t { current = None }) = subst (λ (l : List Top). IsPlaced a.tops l g (record t { current = None })) (sym tops) (placed-set a.tops g t (record t { current = None }) at) in
      kept (same_supers supers)
      (λ f n x is. elim (apart_or f g) [
        | inl here ↦ absurd (let top : is.top ≡ record t { current = None } = some (sym is.at ∙ ap (slice_get b.tops) here ∙ placed.here) in none_some n (ap (λ (z : Top). z.current) (sym top) ∙ is.is))
        | inr away ↦ (x, record { top = is.top; at = sym (placed.others f away) ∙ is.at; is = is.is; has = ap (λ (l : List SuperVersion). entry l n) (sym supers) ∙ is.has }, refl)
      ])
      (same-lists a b lists)

-- A SuperVersion is made as a family's current, over the active memtable of the one before or over a new one while that
-- one's is frozen; or the family is new.
module _ (a b : Books) (sound : Sound a) (frozen : ActivesAreFrozen a) (f : ℕ) (y : SuperVersion) (top : Top)
    (supers : b.supers ≡ a.supers ++ y ∷ []) (placed : IsPlaced a.tops b.tops f top) (current : top.current ≡ Some (length a.supers + 1))
    (of : y.descriptor.family ≡ f) (goes : GoesOn KeepsList a.lists b.lists)
    (before : (n : ℕ) (x : SuperVersion) → entry a.supers n ≡ Some x → x.descriptor.family ≡ f
    → (x.descriptor.active ≡ y.descriptor.active) ⊎ WasListed b x.descriptor.active) where
  made : (n : ℕ) (x : SuperVersion) → entry b.supers n ≡ Some x
      → (entry a.supers n ≡ Some x) ⊎ ((n ≡ length a.supers + 1) × (x ≡ y))
  made n x at = entry_push a.supers y n x (ap (λ (l : List SuperVersion). entry l n) (sym supers) ∙ at)

  -- the family's current is the new one
  current_is : (s : ℕ) (c : SuperVersion) → IsCurrent b.tops b.supers f s c → c ≡ y
  current_is s c is =
      let same : is.top ≡ top = some (sym is.at ∙ placed.here) in
      let serial : s ≡ length a.supers + 1 = some (sym is.is ∙ ap (λ (t : Top). t.current) same ∙ current) in
      some (sym is.has ∙ ap (entry b.supers) serial ∙ ap (λ (l : List SuperVersion). entry l (length a.supers + 1)) supers ∙ entry-new a.supers y (length a.supers + 1) refl)

  -- that of another family is as it was
  current_else : (g s : ℕ) (c : SuperVersion) → g ≢ f → IsCurrent b.tops b.supers g s c
      → IsCurrent a.tops a.supers g s c
  current_else g s c away is =
      let at : slice_get a.tops g ≡ Some is.top = sym (placed.others g away) ∙ is.at in
      let it = (current-top a sound.lawful g s is.top at is.is).2 in
      record {
        top = is.top;
        at = at;
        is = is.is;
        has = ⊎_elim
            (λ old. old)
            (λ new. absurd (let lt = (entry_le a.supers s it.it it.at).1 in omega (arith, lt, new.0)))
            (made s c is.has);
      }

  pub installs : ActivesAreFrozen b
  installs n x at s c is = ⊎_elim
      (λ old. elim (apart_or x.descriptor.family f) [
        | inl here ↦
            let it = current_is s c (subst (λ g. IsCurrent b.tops b.supers g s c) here is) in
            ⊎_elim (λ same. inl (same ∙ ap (λ (z : SuperVersion). z.descriptor.active) (sym it))) (λ listed. inr listed) (before n x old here)
        | inr away ↦ ⊎_elim
            (λ same. inl same)
            (λ listed. inr (listed-later a b x.descriptor.active goes listed))
            (frozen n x old s c (current_else x.descriptor.family s c away is))
      ])
      (λ new.
      let it = current_is s c (subst (λ g. IsCurrent b.tops b.supers g s c) (ap (λ (z : SuperVersion). z.descriptor.family) new.1 ∙ of) is) in
      inl (ap (λ (z : SuperVersion). z.descriptor.active) (new.1 ∙ sym it)))
      (made n x at)

-- ---- each change

module _ (a b : Books) (sound : Sound a) (frozen : ActivesAreFrozen a) where
  -- what was so of a family's SuperVersions, over its current
  over_current : (f s : ℕ) (c : SuperVersion) → IsCurrent a.tops a.supers f s c → GoesOn KeepsList a.lists b.lists
      → (n : ℕ) (x : SuperVersion)
      → entry a.supers n ≡ Some x → x.descriptor.family ≡ f
      → (x.descriptor.active ≡ c.descriptor.active) ⊎ WasListed b x.descriptor.active
  over_current f s c is goes n x at of = ⊎_elim
      (λ same. inl same)
      (λ listed. inr (listed-later a b x.descriptor.active goes listed))
      (frozen n x at s c (subst (λ g. IsCurrent a.tops a.supers g s c) (sym of) is))

  set_top : (f : ℕ) (t top : Top) → slice_get a.tops f ≡ Some t → b.tops ≡ slice_set a.tops f top
      → IsPlaced a.tops b.tops f top
  set_top f t top at tops = subst (λ (l : List Top). IsPlaced a.tops l f top) (sym tops) (placed-set a.tops f t top at)

  cleaned_kept : (s : ℕ) (x : SuperVersion) → IsCleaned a b s x → ActivesAreFrozen b
  cleaned_kept s x h =
      let supers : b.supers ≡ change a.supers s (record x { live = false }) = ap (λ (z : Books). z.supers) h.is in
      let was : (n : ℕ) (z : SuperVersion) → entry b.supers n ≡ Some z → (y : SuperVersion) × (entry a.supers n ≡ Some y) × (z.descriptor ≡ y.descriptor) = λ n z at. ⊎_elim
      (λ here. (x, ap (entry a.supers) here.0 ∙ h.at, ap (λ (q : SuperVersion). q.descriptor) here.1))
      (λ old. (z, old.1, refl))
      (entry_change a.supers s n (record x { live = false }) z (ap (λ (l : List SuperVersion). entry l n) (sym supers) ∙ at)) in
      kept a b frozen was
      (λ f n z is.
      let y = was n z is.has in
      (y.0, record { top = is.top; at = ap (λ (q : Books). slice_get q.tops f) (sym h.is) ∙ is.at; is = is.is; has = y.1 }, y.2))
      h.lists.goes

  frozen_kept : Changes a b → ActivesAreFrozen b
  frozen_kept (written f w h) =
      stands a b frozen (ap (λ (x : Books). x.supers) h.is) (ap (λ (x : Books). x.tops) h.is) (ap (λ (x : Books). x.lists) h.is)
  frozen_kept (flush_begun f file h) =
      stands a b frozen (ap (λ (x : Books). x.supers) h.captured.is) (ap (λ (x : Books). x.tops) h.captured.is) (ap (λ (x : Books). x.lists) h.captured.is)
  frozen_kept (merge_planned f file h) =
      stands a b frozen (ap (λ (x : Books). x.supers) h.captured.is) (ap (λ (x : Books). x.tops) h.captured.is) (ap (λ (x : Books). x.lists) h.captured.is)
  frozen_kept (given_up f n h) =
      stands a b frozen (ap (λ (x : Books). x.supers) h.is) (ap (λ (x : Books). x.tops) h.is) (ap (λ (x : Books). x.lists) h.is)
  frozen_kept (opened f lane h) =
      stands a b frozen (ap (λ (x : Books). x.supers) h.is) (ap (λ (x : Books). x.tops) h.is) (ap (λ (x : Books). x.lists) h.is)
  frozen_kept (dropped f lane h) =
      stands a b frozen (ap (λ (x : Books). x.supers) h.is) (ap (λ (x : Books). x.tops) h.is) (ap (λ (x : Books). x.lists) h.is)
  frozen_kept (released f lane h) =
      stands a b frozen (ap (λ (x : Books). x.supers) h.is) (ap (λ (x : Books). x.tops) h.is) (ap (λ (x : Books). x.lists) h.is)
  frozen_kept (grabbed h) =
      stands a b frozen (ap (λ (x : Books). x.supers) h.is) (ap (λ (x : Books). x.tops) h.is) (ap (λ (x : Books). x.lists) h.is)
  frozen_kept (stray n h) =
      stands a b frozen (ap (λ (x : Books). x.supers) h.is) (ap (λ (x : Books). x.tops) h.is) (ap (λ (x : Books). x.lists) h.is)
  frozen_kept (held h) =
      stands a b frozen (ap (λ (x : Books). x.supers) h.is) (ap (λ (x : Books). x.tops) h.is) (ap (λ (x : Books). x.lists) h.is)
  frozen_kept (snapped h) =
      stands a b frozen (ap (λ (x : Books). x.supers) h.is) (ap (λ (x : Books). x.tops) h.is) (ap (λ (x : Books). x.lists) h.is)
  frozen_kept (unsnapped n x h) =
      stands a b frozen (ap (λ (z : Books). z.supers) h.is) (ap (λ (z : Books). z.tops) h.is) (ap (λ (z : Books). z.lists) h.is)
  frozen_kept (retired f lane h) =
      ends a b frozen f h.top h.on (ap (λ (x : Books). x.supers) h.is) (ap (λ (x : Books). x.tops) h.is) (ap (λ (x : Books). x.lists) h.is)
  frozen_kept (forgotten f h) =
      ends a b frozen f h.top h.on (ap (λ (x : Books). x.supers) h.is) (ap (λ (x : Books). x.tops) h.is) (ap (λ (x : Books). x.lists) h.is)
  frozen_kept (current_ended f h) =
      ends a b frozen f h.top h.on (ap (λ (x : Books). x.supers) h.is) (ap (λ (x : Books). x.tops) h.is) (ap (λ (x : Books). x.lists) h.is)
  frozen_kept (cleaned s x h) = cleaned_kept s x h
  frozen_kept (option_set f o h) =
      let goes = same-lists a b (ap (λ (x : Books). x.lists) h.is) in
      installs a b sound frozen f (live_super (record h.c.descriptor { options = o }) h.place) (next_top a h.c.descriptor.version) (ap (λ (x : Books). x.supers) h.is)
      (set_top f h.is_open.current.top (next_top a h.c.descriptor.version) h.is_open.current.at (ap (λ (x : Books). x.tops) h.is)) refl (of_f a sound f h.s h.c h.is_open) goes
      (over_current f h.s h.c h.is_open.current goes)
  frozen_kept (flushed f file h) =
      let goes = more-lists a b (record { members = h.back; live = true }) (ap (λ (x : Books). x.lists) h.is) in
      installs a b sound frozen f (live_super (record h.c.descriptor { list = length a.lists + 1; version = length a.versions + 1 }) h.place) (next_top a (length a.versions + 1)) (ap (λ (x : Books). x.supers) h.is)
      (set_top f h.is_open.current.top (next_top a (length a.versions + 1)) h.is_open.current.at (ap (λ (x : Books). x.tops) h.is)) refl (of_f a sound f h.s h.c h.is_open) goes
      (over_current f h.s h.c h.is_open.current goes)
  frozen_kept (compacted f file h) =
      let goes = same-lists a b (ap (λ (x : Books). x.lists) h.is) in
      installs a b sound frozen f (live_super (record h.c.descriptor { version = length a.versions + 1 }) h.place) (next_top a (length a.versions + 1)) (ap (λ (x : Books). x.supers) h.is)
      (set_top f h.is_open.current.top (next_top a (length a.versions + 1)) h.is_open.current.at (ap (λ (x : Books). x.tops) h.is)) refl (of_f a sound f h.s h.c h.is_open) goes
      (over_current f h.s h.c h.is_open.current goes)
  frozen_kept (switched f h) =
      let lists = ap (λ (x : Books). x.lists) h.is in
      let goes = more-lists a b (record { members = h.list.members ++ h.c.descriptor.active ∷ []; live = true }) lists in
      installs a b sound frozen f (live_super (record h.c.descriptor { active = length a.memtables + 1; list = length a.lists + 1; base = length (of_family f a.journal) }) h.place) (next_top a h.c.descriptor.version) (ap (λ (x : Books). x.supers) h.is)
      (set_top f h.is_open.current.top (next_top a h.c.descriptor.version) h.is_open.current.at (ap (λ (x : Books). x.tops) h.is)) refl (of_f a sound f h.s h.c h.is_open) goes
      (λ n x at of. ⊎_elim
      (λ same. inr (
        length a.lists + 1,
        record { members = h.list.members ++ h.c.descriptor.active ∷ []; live = true },
        ap (λ (l : List MemtableList). entry l (length a.lists + 1)) lists ∙ entry-new a.lists (record { members = h.list.members ++ h.c.descriptor.active ∷ []; live = true }) (length a.lists + 1) refl,
        in-right x.descriptor.active h.list.members (h.c.descriptor.active ∷ []) (record { at = 0; is = ap Some (sym same) }),
      ))
      (λ listed. inr listed)
      (over_current f h.s h.c h.is_open.current goes n x at of))
  frozen_kept (created r h) =
      let paired = sound.lawful.paired in
      installs a b sound frozen (length a.tops)
      (live_super (record { family = length a.families; active = length a.memtables + 1; list = length a.lists + 1; version = length a.versions + 1; base = 0; options = r.options }) h.place)
      (next_top a (length a.versions + 1)) (ap (λ (x : Books). x.supers) h.is)
      (subst (λ (l : List Top). IsPlaced a.tops l (length a.tops) (next_top a (length a.versions + 1))) (sym (ap (λ (x : Books). x.tops) h.is)) (placed-push a.tops (next_top a (length a.versions + 1))))
      refl (sym paired) (more-lists a b (record { members = []; live = true }) (ap (λ (x : Books). x.lists) h.is))
      (λ n x at of. absurd (let lt = sound.steady.supers_of n x at in omega (arith, lt, of, paired)))

pub frozen-kept : (a b : Books) → Sound a → ActivesAreFrozen a → Changes a b → ActivesAreFrozen b
frozen-kept a b sound frozen changed = frozen_kept a b sound frozen changed

abbrev first-super : SuperVersion
first-super =
    record { descriptor = record { family = 0; active = 1; list = 1; version = 1; base = 0; options = first_options }; place = 0; live = true }

pub frozen-first : (next : ℕ) → ActivesAreFrozen (opening_books next)
frozen-first next n x at s c is =
    inl (ap (λ (z : SuperVersion). z.descriptor.active) ((entry_one first-super n x at).1 ∙ sym (entry_one first-super s c is.has).1))
