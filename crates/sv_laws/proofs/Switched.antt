-- The active memtable of a family is frozen.
use Rattle.sv_model.specs.Named.{IsLiveMemtable}
use Rattle.std.proofs.Common.{ℕ, ◌+◌, inl, inr, ⊎_elim, true, List, [], ◌∷◌, ◌++◌, length, refl, sym, ap, ◌∙◌, subst, arith, set}
use mathlib.Core.List.{append_assoc}
use Rattle.sv_model.specs.declared.writes.Write.{Write}
use Rattle.sv_model.specs.declared.records.SuperVersion.{SuperVersion}
use Rattle.sv_model.specs.declared.records.Memtable.{Memtable}
use Rattle.sv_model.specs.declared.records.MemtableList.{MemtableList}
use Rattle.sv_model.specs.Journal.{of_family}
use Rattle.sv_model.specs.Books.{Books}
use Rattle.sv_model.specs.After.{KeepsMemtable, After}
use Rattle.sv_model.specs.Described.{MembersJoin}
use Rattle.sv_model.specs.Steady.{Sound}
use Rattle.sv_model.proofs.Registers.{entry-new, entry_le, goes-push}
use Rattle.sv_model.proofs.AfterLaws.{memtable-itself}
use Rattle.sv_laws.specs.NewCurrents.{IsSwitched}
use Rattle.sv_laws.specs.Installs.{next_top, live_super}
use Rattle.sv_model.proofs.Entries.{some, in_append, in-cons, in-none}
use Rattle.sv_laws.proofs.StillFits.{join-on, join-append}
use Rattle.sv_laws.proofs.Installed.{installed}
use Rattle.sv_laws.proofs.GrownRegisters.{placed-set, placed-same}
use Rattle.sv_laws.proofs.OpenFamilies.{of_f, options_are, ends-at, says, active-lives, version-lives, member, was, had, in-range, name-free, last-same, paired-set, fresh-mem}
use Rattle.sv_laws.proofs.OpenFamilies.{last-still, has-handles}

module _ (a b : Books) (k : Sound a) (f : ℕ) where
  pub switched : IsSwitched a b f → Sound b × After a b
  switched h =
      let c = h.c in
      let p = h.is_open in
      let d = says a k f h.s c p in
      let n = length (of_family f a.journal) in
      let of = of_f a k f h.s c p in
      let x : SuperVersion =
      live_super (record c.descriptor { active = length a.memtables + 1; list = length a.lists + 1; base = n })
      h.place in
      let y : Memtable = record { family = f; first = n; cell = h.cell; live = true } in
      let z : MemtableList = record { members = h.list.members ++ c.descriptor.active ∷ []; live = true } in
      let e : Books = record a {
        supers = a.supers ++ x ∷ [];
        memtables = a.memtables ++ y ∷ [];
        lists = a.lists ++ z ∷ [];
        tops = set a.tops f (next_top a c.descriptor.version);
      } in
      let old : MembersJoin a.journal a.memtables c.descriptor.family d.middle h.list.members c.descriptor.base =
      subst
      (λ (u : MemtableList). MembersJoin a.journal a.memtables c.descriptor.family d.middle u.members c.descriptor.base)
      (some (sym d.list_at ∙ h.list_at)) d.members in
      let last : MembersJoin a.journal a.memtables c.descriptor.family c.descriptor.base (c.descriptor.active ∷ []) n =
      (record { it = d.active; at = d.active_at; family_is = d.active_family; first_is = sym d.base; some = h.row }, ends-at a k f h.s c p) in
      let all =
      join-append a.journal a.memtables c.descriptor.family h.list.members (c.descriptor.active ∷ []) d.middle
      c.descriptor.base n old last in
      subst (λ (u : Books). Sound u × After a u) (sym h.is) (installed a e k f p.family x (record {
        rest = refl;
        family_is = of;
        live = refl;
        room = h.room;
        memtables = inr (
          y,
          refl,
          record {
            is_active = refl;
            live = refl;
            family_is = refl;
            first_is = refl;
            room = h.cell_room;
          },
        );
        lists = inr (
          z,
          refl,
          record {
            is_list = refl;
            live = refl;
            members = λ m i. ⊎_elim
                (λ j. let t = member a k f h.s c p m h.list h.list_at j in (t.0, omega (arith, entry_le a.memtables m t.0.it t.0.at)))
                (λ j. ⊎_elim
                (λ q. let t = active-lives a k f h.s c p in (subst (IsLiveMemtable a.memtables) (sym q) t, omega (arith, q, entry_le a.memtables c.descriptor.active t.it t.at)))
                (λ q. absurd (in-none m q))
                (in-cons m c.descriptor.active [] j))
                (in_append m h.list.members (c.descriptor.active ∷ []) i);
          },
        );
        versions = inl refl;
        files = inl refl;
        active_live = record { it = y; at = entry-new a.memtables y (length a.memtables + 1) refl; live = refl };
        list_lives = record { it = z; at = entry-new a.lists z (length a.lists + 1) refl; live = refl };
        version_lives = version-lives a k f h.s c p;
        describes = record {
          active = y;
          active_at = entry-new a.memtables y (length a.memtables + 1) refl;
          active_family = sym of;
          base = refl;
          within = omega (arith, ap (λ i. length (of_family i a.journal)) of);
          list = z;
          list_at = entry-new a.lists z (length a.lists + 1) refl;
          version = d.version;
          version_at = d.version_at;
          middle = d.middle;
          files = d.files;
          members = join-on a.journal a.memtables (a.memtables ++ y ∷ [])
              (goes-push KeepsMemtable a.memtables y memtable-itself) c.descriptor.family
              (h.list.members ++ c.descriptor.active ∷ []) d.middle n all;
        };
        ends = omega (arith, ap (λ (l : List Write). length l) (fresh-mem a k f h.s c p));
        awaited = λ i q. let w = k.steady.awaited f i h.s c q p.current in record {
          file = w.file;
          covered = w.covered;
          number_is = w.number_is;
          some = w.some;
          list = z;
          list_at = entry-new a.lists z (length a.lists + 1) refl;
          version = w.version;
          version_at = w.version_at;
          fits = ⊎_elim
              (λ u. inl (record {
                from_is = u.from_is;
                above = u.above;
                front = u.front;
                back = u.back ++ c.descriptor.active ∷ [];
                parts = ap (λ (l : MemtableList). l.members ++ c.descriptor.active ∷ [])
                    (some (sym h.list_at ∙ w.list_at))
                    ∙ ap (λ l. l ++ c.descriptor.active ∷ []) u.parts
                    ∙ append_assoc u.front u.back (c.descriptor.active ∷ []);
                joins = join-on a.journal a.memtables (a.memtables ++ y ∷ [])
                    (goes-push KeepsMemtable a.memtables y memtable-itself) c.descriptor.family u.front w.file.from
                    w.file.to u.joins;
              }))
              (λ u. inr u)
              w.fits;
        };
        lasts = λ file w.
            inl
            (last-still a k f h.s c p (set a.tops f (next_top a c.descriptor.version)) (placed-set a.tops f p.current.top (next_top a c.descriptor.version) p.current.at).here file w);
        families = placed-same a.families f p.family p.family_at;
        tops = placed-set a.tops f p.current.top (next_top a c.descriptor.version) p.current.at;
        paired = paired-set a k f h.s c p (next_top a c.descriptor.version);
        more = omega arith;
        few_families = k.lawful.limits.families;
        stands = p.stands;
        options_are = options_are a k f h.s c p;
        in_range = in-range a k f h.s c p;
        handles = has-handles a k f h.s c p;
        name_free = name-free a k f h.s c p;
        was = was a k f h.s c p;
        had = had a k f h.s c p;
        onward = inl refl;
        reach = last-same a k f h.s c p;
      }))
