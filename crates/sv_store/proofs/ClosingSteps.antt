-- One family after the other is let go at the close.
use Rattle.std.proofs.Common.{◌≡◌, ◌≢◌, ◌<◌, ◌+◌, ◌⊎◌, ⊎_elim, ℕ, Bool, true, false, Option, Some, None, length, refl, sym, ap, ◌∙◌, subst, arith}
use Rattle.std.specs.Prelude.{slice_get}
use Rattle.sv_model.specs.declared.records.Family.{Family}
use Rattle.sv_model.specs.declared.records.FileStatus.{FileStatus}
use Rattle.sv_model.specs.declared.records.FileStatus.TheVariants.{Gone, Live, Obsolete}
use Rattle.sv_model.specs.declared.records.SuperVersion.{SuperVersion}
use Rattle.sv_model.specs.declared.records.Top.{Top}
use Rattle.sv_model.specs.declared.sv_refs.SvRef.{SvRef}
use Rattle.sv_model.specs.Books.{Books}
use Rattle.sv_model.specs.Families.{is_retired}
use Rattle.sv_model.specs.Numbers.{IsRegistered}
use Rattle.sv_model.specs.Steady.{Sound}
use Rattle.sv_model.proofs.Entries.{some}
use Rattle.sv_model.proofs.Registers.{length-change}
use Rattle.sv_laws.specs.Cleaning.{IsCleaned, without}
use Rattle.sv_laws.specs.Growing.{IsPlaced}
use Rattle.sv_laws.proofs.Apart.{live_obsolete, obsolete_gone}
use Rattle.sv_objects.specs.declared.bodies.Body.{Body}
use Rattle.sv_state.specs.Currents.{HasCurrentAt}
use Rattle.sv_state.specs.declared.installs.Install.{Install}
use Rattle.sv_state.specs.Gone.{IsFree, TellsEnd}
use Rattle.sv_state.specs.Refs as refs
use Rattle.sv_store.specs.Closing.{LetsGo}
use Rattle.sv_store.specs.Ending.{EndsCurrent, EndsCurrents, IsKept, IsLetGo, LetsFamilyGo, LosesCurrent, MakesNothing, MayReclaim}
use Rattle.sv_store.specs.Standing.{HaveCurrents, IsAlone, IsStill}
use Rattle.sv_store.proofs.EndedCurrents.{gone-alone, lost-free, ref}
use Rattle.sv_store.proofs.HeldLaws.{none-cleaned}
use Rattle.sv_store.proofs.StillLaws.{cleaned-still}

-- ---- one family

module _ (a m b : Books) (f : ℕ) (w : LosesCurrent a m f) (l : LetsFamilyGo a m f) (x : SuperVersion) (g : IsCleaned m b w.s x) where
  -- no number gets another status than Obsolete by a cleanup
  stays-so : (t : FileStatus) → (t ≡ Obsolete → ⊥) → (n : ℕ) → IsRegistered b.files.numbers n t → IsRegistered a.files.numbers n t
  stays-so t other n r =
      subst (λ (z : Books). IsRegistered z.files.numbers n t) w.is (none-cleaned t other m b w.s x g n r)

  makes : MakesNothing a b
  makes = record {
    supers = ap (λ (z : Books). length z.supers) g.is ∙ length-change m.supers w.s (record x { live = false }) ∙ ap (λ (z : Books). length z.supers) w.is;
    memtables = g.memtables.long ∙ ap (λ (z : Books). length z.memtables) w.is;
    lists = g.lists.long ∙ ap (λ (z : Books). length z.lists) w.is;
    versions = g.versions.long ∙ ap (λ (z : Books). length z.versions) w.is;
    numbers = g.numbers.long ∙ ap (λ (z : Books). length z.files.numbers) w.is;
    gone = stays-so Gone (λ q. obsolete_gone (sym q));
    lives = stays-so Live (λ q. live_obsolete q);
    is = subst (λ (z : Books). z ≡ record a {
      supers = z.supers;
      memtables = z.memtables;
      lists = z.lists;
      versions = z.versions;
      files = record a.files { numbers = z.files.numbers };
      families = z.families;
      tops = z.tops;
    })
        (sym (g.is ∙ ap (λ (z : Books). record z {
          supers = without m.supers w.s x;
          memtables = b.memtables;
          lists = b.lists;
          versions = b.versions;
          files = record z.files { numbers = b.files.numbers };
        }) w.is))
        refl;
  }

  pub current-ends : EndsCurrent a b f
  current-ends = record {
    top = w.top;
    on = w.on;
    placed = subst (λ (z : Books). IsPlaced a.tops z.tops f (record w.top { current = None })) (sym g.is) w.placed;
    lets_go = record {
      it = l.it;
      at = l.at;
      now = l.now;
      lets_go = l.lets_go;
      retired = l.retired;
      placed = subst (λ (z : Books). IsPlaced a.families z.families f l.now) (sym g.is) l.placed;
    };
    still = λ s. cleaned-still m b w.s x g (subst (λ (z : Books). IsStill z.files) (sym w.is) s);
    makes = makes;
  }

module _ (a m : Books) (sound : Sound a) (f : ℕ) (w : LosesCurrent a m f) (install : Install) (family : install.family ≡ f) (tells : TellsEnd a install) where
  pub kept : (t : Top) → slice_get a.tops f ≡ Some t → refs.IsKept a t.current install.old
  kept t at = tells.old t (ap (slice_get a.tops) family ∙ at)

  abbrev pub may-reclaim : MayReclaim m install.old
  may-reclaim = let r = ref a m sound f w install.old kept in record { r = r.0; old_is = r.1; free = lost-free a m sound f w install.old kept }

  module _ (b : Books) (goes : (r : SvRef Body) → install.old ≡ Some r → (free : IsFree m r.pack) → IsCleaned m b free.serial free.it) where
    reclaimed : IsCleaned m b w.s (ref a m sound f w install.old kept).2.it
    reclaimed = let r = may-reclaim in goes r.r r.old_is r.free

    pub reclaimed-alone : IsAlone a → IsAlone b
    reclaimed-alone alone = gone-alone a m sound f w install.old kept alone b reclaimed

    pub reclaimed-ends : LetsFamilyGo a m f → EndsCurrent a b f
    reclaimed-ends l = current-ends a m b f w l (ref a m sound f w install.old kept).2.it reclaimed

-- ---- nothing is made

pub makes-none : (a : Books) → MakesNothing a a
makes-none a = record { supers = refl; memtables = refl; lists = refl; versions = refl; numbers = refl; gone = λ n r. r; lives = λ n r. r; is = refl }

makes-through : (a m b : Books) → MakesNothing a m → MakesNothing m b → MakesNothing a b
makes-through a m b h k = record {
  supers = k.supers ∙ h.supers;
  memtables = k.memtables ∙ h.memtables;
  lists = k.lists ∙ h.lists;
  versions = k.versions ∙ h.versions;
  numbers = k.numbers ∙ h.numbers;
  gone = λ n r. h.gone n (k.gone n r);
  lives = λ n r. h.lives n (k.lives n r);
  is = k.is ∙ ap (λ (z : Books). record z {
    supers = b.supers;
    memtables = b.memtables;
    lists = b.lists;
    versions = b.versions;
    files = record z.files { numbers = b.files.numbers };
    families = b.families;
    tops = b.tops;
  }) h.is;
}

-- ---- the families up to one

pub none-ended : (a : Books) → EndsCurrents a a 0
none-ended a = record {
  ended = λ f lt. absurd (omega (arith, lt));
  kept = λ f le. record { top = refl; family_is = refl };
  still = λ s. s;
  makes = makes-none a;
}

below-or : (f n : ℕ) → f < n + 1 → (f < n) ⊎ (f ≡ n)
below-or f n lt = grind arith

stays : (a m b : Books) (f : ℕ) → slice_get b.tops f ≡ slice_get m.tops f → slice_get b.families f ≡ slice_get m.families f → IsLetGo a m f → IsLetGo a b f
stays a m b f tops families h = record {
  top = λ t e. tops ∙ h.top t e;
  family_is = λ x e. let y = h.family_is x e in (y.0, families ∙ y.1, y.2);
  none = λ t e. h.none t (sym tops ∙ e);
  retired = λ y e. h.retired y (sym families ∙ e);
}

keeps : (a m b : Books) (f : ℕ) → slice_get b.tops f ≡ slice_get m.tops f → slice_get b.families f ≡ slice_get m.families f → IsKept a m f → IsKept a b f
keeps a m b f tops families h = record { top = tops ∙ h.top; family_is = families ∙ h.family_is }

module _ (a m : Books) (n : ℕ) (h : EndsCurrents a m n) where
  at-n : IsKept a m n
  at-n = h.kept n (omega arith)

  module _ (b : Books) (e : EndsCurrent m b n) where
    here : IsLetGo a b n
    here = record {
      top = λ t q.
          let same : e.top ≡ t = some (sym e.on ∙ at-n.top ∙ q) in
          e.placed.here ∙ ap (λ (z : Top). Some (record z { current = None })) same;
      family_is = λ x q.
          let same : e.lets_go.it ≡ x = some (sym e.lets_go.at ∙ at-n.family_is ∙ q) in
          (e.lets_go.now, e.lets_go.placed.here, subst (λ (z : Family). LetsGo z e.lets_go.now) same e.lets_go.lets_go);
      none = λ t q. ap (λ (z : Top). z.current) (some (sym q ∙ e.placed.here));
      retired = λ y q gone.
          let same : e.lets_go.now ≡ y = some (sym e.lets_go.placed.here ∙ q) in
          subst (λ (z : Family). is_retired z ≡ true) same
          (e.lets_go.retired (sym e.lets_go.lets_go.dropped ∙ ap (λ (z : Family). z.dropped) same ∙ gone));
    }

    -- the next one has a current, which goes
    pub one-ended : EndsCurrents a b (n + 1)
    one-ended = record {
      ended = λ f lt. ⊎_elim
          (λ o. let apart : f ≢ n = λ q. omega (arith, o, q) in stays a m b f (e.placed.others f apart) (e.lets_go.placed.others f apart) (h.ended f o))
          (λ q. subst (IsLetGo a b) (sym q) here)
          (below-or f n lt);
      kept = λ f le. let apart : f ≢ n = λ q. omega (arith, le, q) in keeps a m b f (e.placed.others f apart) (e.lets_go.placed.others f apart) (h.kept f (omega (arith, le)));
      still = λ s. e.still (h.still s);
      makes = makes-through a m b h.makes e.makes;
    }

  -- the next one has none
  module _ (currents : HaveCurrents a) (none : HasCurrentAt m n → ⊥) where
    no-current : (t : Top) → slice_get m.tops n ≡ Some t → t.current ≡ None
    no-current t e = by t.current refl
      where
        by : (o : Option ℕ) → t.current ≡ o → t.current ≡ None
        by None q = q
        by (Some s) q = absurd (none (record { top = t; at = e; serial = s; is = q }))

    gone-family : (x : Family) → slice_get a.families n ≡ Some x → is_retired x ≡ true
    gone-family x e = by (is_retired x) refl
      where
        by : (r : Bool) → is_retired x ≡ r → is_retired x ≡ true
        by true q = q
        by false q = let c = currents n x e q in absurd (none (record { top = c.top; at = at-n.top ∙ c.at; serial = c.serial; is = c.is }))

    gone-here : IsLetGo a m n
    gone-here = record {
      top = λ t e.
          let at = at-n.top ∙ e in
          at ∙ ap (λ (o : Option ℕ). Some (record t { current = o })) (no-current t at);
      family_is = λ x e. (x, at-n.family_is ∙ e, record { name = refl; options = refl; dropped = refl; standing = λ q. refl });
      none = no-current;
      retired = λ y e q. gone-family y (sym at-n.family_is ∙ e);
    }

    pub none-there : EndsCurrents a m (n + 1)
    none-there = record {
      ended = λ f lt. ⊎_elim (λ o. h.ended f o) (λ q. subst (IsLetGo a m) (sym q) gone-here) (below-or f n lt);
      kept = λ f le. h.kept f (omega (arith, le));
      still = h.still;
      makes = h.makes;
    }
