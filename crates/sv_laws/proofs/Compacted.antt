-- A compaction ends.
use Rattle.std.proofs.Common.{◌≡◌, ℕ, ◌+◌, inl, inr, ⊎_elim, true, [], ◌∷◌, ◌++◌, length, refl, sym, ap, ◌∙◌, subst, arith, set}
use Rattle.sv_model.specs.declared.records.SuperVersion.{SuperVersion}
use Rattle.sv_model.specs.declared.records.Version.{Version}
use Rattle.sv_model.specs.declared.records.FileMeta.{FileMeta}
use Rattle.sv_model.specs.declared.records.FileStatus.TheVariants.{Live}
use Rattle.sv_model.specs.Ranges.{reach_of}
use Rattle.sv_model.specs.Books.{Books}
use Rattle.sv_model.specs.After.{After}
use Rattle.sv_model.specs.Numbers.{IsRegistered}
use Rattle.sv_model.specs.Described.{IsFileOf}
use Rattle.sv_model.specs.Steady.{Sound}
use Rattle.sv_model.proofs.Registers.{entry-new}
use Rattle.sv_laws.specs.NewCurrents.{IsCompacted}
use Rattle.sv_laws.specs.Installs.{next_top, live_super}
use Rattle.sv_model.proofs.Entries.{get_one, in-cons, in-none}
use Rattle.sv_laws.proofs.GrownRegisters.{placed-set, placed-same}
use Rattle.sv_laws.proofs.StillFits.{join_reach, files-at}
use Rattle.sv_laws.proofs.Installed.{installed}
use Rattle.sv_laws.proofs.OpenFamilies.{of_f, options_are, ends-at, says, active-lives, list-lives, was, had, in-range, name-free, last-files, paired-set}
use Rattle.sv_laws.proofs.OpenFamilies.{has-handles}
use Rattle.sv_laws.proofs.Outputs.{is-merge, now-live, none-captured, file-of, last-output, was-awaited}

module _ (a b : Books) (k : Sound a) (f : ℕ) (file : FileMeta) where
  pub compacted : IsCompacted a b f file → Sound b × After a b
  compacted h =
      let c = h.c in
      let p = h.is_open in
      let d = says a k f h.s c p in
      let of = of_f a k f h.s c p in
      let merge = is-merge a b k f h.s c p file h.covered h.settled h.kind d.version d.version_at in
      let x : SuperVersion = live_super (record c.descriptor { version = length a.versions + 1 }) h.place in
      let v : Version = record { files = file ∷ []; live = true } in
      let e : Books = record a {
        supers = a.supers ++ x ∷ [];
        versions = a.versions ++ v ∷ [];
        files = b.files;
        tops = set a.tops f (next_top a (length a.versions + 1));
      } in
      let ends : file.to ≡ d.middle = merge.to_is ∙ join_reach d.version.files 0 d.middle d.files.joins in
      subst (λ (u : Books). Sound u × After a u) (sym h.is) (installed a e k f p.family x (record {
        rest = refl;
        family_is = of;
        live = refl;
        room = h.room;
        memtables = inl refl;
        lists = inl refl;
        versions = inr (
          v,
          refl,
          record {
            is_version = refl;
            live = refl;
            files = λ n i. ⊎_elim
                (λ q. subst (λ j. IsRegistered b.files.numbers j Live) (sym q) (now-live a b k f h.s c p file h.covered h.settled))
                (λ j. absurd (in-none n j))
                (in-cons n file.number [] i);
          },
        );
        files = inr (record {
          number = file.number;
          settled = h.settled;
          it = v;
          at = entry-new a.versions v (length a.versions + 1) refl;
          has = record { at = 0; is = refl };
        });
        active_live = active-lives a k f h.s c p;
        list_lives = list-lives a k f h.s c p;
        version_lives = record { it = v; at = entry-new a.versions v (length a.versions + 1) refl; live = refl };
        describes = record {
          active = d.active;
          active_at = d.active_at;
          active_family = d.active_family;
          base = d.base;
          within = d.within;
          list = d.list;
          list_at = d.list_at;
          version = v;
          version_at = entry-new a.versions v (length a.versions + 1) refl;
          middle = d.middle;
          files = record {
            joins = (merge.from_is, ends);
            each = λ i m q.
                subst (IsFileOf b.files.numbers a.metas c.descriptor.family) (sym (get_one file i m q).1)
                (file-of a b k f h.s c p file h.covered h.settled);
            above = λ i m q low. absurd (omega (arith, (get_one file i m q).0));
          };
          members = d.members;
        };
        ends = ends-at a k f h.s c p;
        awaited = λ n q. absurd (none-captured a b k f h.s c p file h.covered h.settled n q);
        lasts = λ m w. inr (was-awaited a b k f h.s c p file h.covered h.settled m (⊎_elim (λ q. q) (λ q. absurd (in-none m q))
            (in-cons m file [] (last-output a b k f h.s c p file h.covered h.settled v (set a.tops f (next_top a (length a.versions + 1))) (placed-set a.tops f p.current.top (next_top a (length a.versions + 1)) p.current.at).here m w))));
        families = placed-same a.families f p.family p.family_at;
        tops = placed-set a.tops f p.current.top (next_top a (length a.versions + 1)) p.current.at;
        paired = paired-set a k f h.s c p (next_top a (length a.versions + 1));
        more = omega arith;
        few_families = k.lawful.limits.families;
        stands = p.stands;
        options_are = options_are a k f h.s c p;
        in_range = in-range a k f h.s c p;
        handles = has-handles a k f h.s c p;
        name_free = name-free a k f h.s c p;
        was = was a k f h.s c p;
        had = had a k f h.s c p;
        onward = inr (h.s, c, p.current, refl);
        reach = λ t q. omega (
          arith,
          ap reach_of (last-files a k f h.s c p t q d.version d.version_at),
          merge.to_is,
          ap reach_of
              (files-at (a.versions ++ v ∷ []) (length a.versions + 1) v (entry-new a.versions v (length a.versions + 1) refl)),
        );
      }))
