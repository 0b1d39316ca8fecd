-- A family's options are set.
use Rattle.std.proofs.Common.{ℕ, inl, inr, [], ◌∷◌, ◌++◌, refl, sym, ◌∙◌, subst, arith, set, length-set}
use Rattle.sv_model.specs.declared.settings.Options.{Options}
use Rattle.sv_model.specs.declared.records.SuperVersion.{SuperVersion}
use Rattle.sv_model.specs.Books.{Books}
use Rattle.sv_model.specs.After.{After}
use Rattle.sv_model.specs.Steady.{Sound}
use Rattle.sv_laws.specs.NewCurrents.{IsOptionSet}
use Rattle.sv_laws.specs.Installs.{next_top, live_super}
use Rattle.sv_laws.proofs.Installed.{installed}
use Rattle.sv_laws.proofs.GrownRegisters.{placed-set}
use Rattle.sv_laws.proofs.OpenFamilies.{of_f, ends-at, says, active-lives, list-lives, version-lives, was, had, name-free, last-same, paired-set}
use Rattle.sv_laws.proofs.OpenFamilies.{last-still, has-handles}

module _ (a b : Books) (k : Sound a) (f : ℕ) where
  pub option-set : (o : Options) → IsOptionSet a b f o → Sound b × After a b
  option-set o h =
      let c = h.c in
      let p = h.is_open in
      let d = says a k f h.s c p in
      let x : SuperVersion = live_super (record c.descriptor { options = o }) h.place in
      let e : Books = record a {
        supers = a.supers ++ x ∷ [];
        families = set a.families f (record p.family { options = o });
        tops = set a.tops f (next_top a c.descriptor.version);
      } in
      subst (λ (z : Books). Sound z × After a z) (sym h.is)
      (installed a e k f (record p.family { options = o }) x (record {
        rest = refl;
        family_is = of_f a k f h.s c p;
        live = refl;
        room = h.room;
        memtables = inl refl;
        lists = inl refl;
        versions = inl refl;
        files = inl refl;
        active_live = active-lives a k f h.s c p;
        list_lives = list-lives a k f h.s c p;
        version_lives = version-lives a k f h.s c p;
        describes = record {
          active = d.active;
          active_at = d.active_at;
          active_family = d.active_family;
          base = d.base;
          within = d.within;
          list = d.list;
          list_at = d.list_at;
          version = d.version;
          version_at = d.version_at;
          middle = d.middle;
          files = d.files;
          members = d.members;
        };
        ends = ends-at a k f h.s c p;
        awaited = λ n q. let w = k.steady.awaited f n h.s c q p.current in record {
          file = w.file;
          covered = w.covered;
          number_is = w.number_is;
          some = w.some;
          list = w.list;
          list_at = w.list_at;
          version = w.version;
          version_at = w.version_at;
          fits = w.fits;
        };
        lasts = λ file w.
            inl
            (last-still a k f h.s c p (set a.tops f (next_top a c.descriptor.version)) (placed-set a.tops f p.current.top (next_top a c.descriptor.version) p.current.at).here file w);
        families = placed-set a.families f p.family (record p.family { options = o }) p.family_at;
        tops = placed-set a.tops f p.current.top (next_top a c.descriptor.version) p.current.at;
        paired = paired-set a k f h.s c p (next_top a c.descriptor.version)
            ∙ sym (length-set a.families f (record p.family { options = o }));
        more = omega (arith, length-set a.families f (record p.family { options = o }));
        few_families = omega
            (arith, length-set a.families f (record p.family { options = o }), k.lawful.limits.families);
        stands = p.stands;
        options_are = refl;
        in_range = h.in_range;
        handles = has-handles a k f h.s c p;
        name_free = name-free a k f h.s c p;
        was = was a k f h.s c p;
        had = had a k f h.s c p;
        onward = inr (h.s, c, p.current, refl);
        reach = last-same a k f h.s c p;
      }))
