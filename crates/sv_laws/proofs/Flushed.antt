-- A flush ends.
use Rattle.std.proofs.Common.{◌≡◌, ◌<◌, ◌≤◌, ℕ, suc, ◌+◌, inl, inr, ⊎_elim, true, false, List, [], ◌∷◌, ◌++◌, length, Some, refl, sym, ap, ◌∙◌, subst, arith, set}
use Rattle.std.specs.Prelude.{slice_get}
use Rattle.sv_model.specs.declared.writes.Write.{Write}
use Rattle.sv_model.specs.declared.records.SuperVersion.{SuperVersion}
use Rattle.sv_model.specs.declared.records.Memtable.{Memtable}
use Rattle.sv_model.specs.declared.records.MemtableList.{MemtableList}
use Rattle.sv_model.specs.declared.records.Version.{Version}
use Rattle.sv_model.specs.declared.records.FileMeta.{FileMeta}
use Rattle.sv_model.specs.declared.records.FileStatus.TheVariants.{Live}
use Rattle.sv_model.specs.Journal.{borne_by}
use Rattle.sv_model.specs.Lists.{In, Every}
use Rattle.sv_model.specs.Ranges.{reach_of}
use Rattle.sv_model.specs.Registers.{entry}
use Rattle.sv_model.specs.Books.{Books}
use Rattle.sv_model.specs.After.{After}
use Rattle.sv_model.specs.Numbers.{IsRegistered}
use Rattle.sv_model.specs.Described.{MembersJoin, IsFileOf}
use Rattle.sv_model.specs.Steady.{Sound}
use Rattle.sv_model.proofs.Registers.{entry-new, entry_push}
use Rattle.sv_laws.specs.NewCurrents.{IsFlushed}
use Rattle.sv_laws.specs.Installs.{next_top, live_super}
use Rattle.sv_model.proofs.Entries.{some, every_push, in-cons, in-none, in-right, in_append}
use Rattle.sv_laws.proofs.GrownRegisters.{placed-set, placed-same}
use Rattle.sv_laws.proofs.StillFits.{join-le, file-on, files-join-push, join_reach, files-at}
use Rattle.sv_laws.proofs.Installed.{installed}
use Rattle.sv_laws.proofs.OpenFamilies.{numbers_push, numbers-push, of_f, options_are, ends-at, says, active-lives, member, was, had, in-range, name-free, last-files, paired-set}
use Rattle.sv_laws.proofs.OpenFamilies.{last_is, has-handles}
use Rattle.sv_laws.proofs.Outputs.{is-some, is-flush, numbers-go, now-live, still, none-captured, file-of, says-files, last-output, was-awaited}

-- Two ways to part members at a write are one: what comes after the file's memtables begins at its end.
pub parted-join : (J : List Write) (M : List Memtable) (f : ℕ) (front back low high : List ℕ) (from to base : ℕ)
    → MembersJoin J M f from front to → MembersJoin J M f from (front ++ back) base → front ++ back ≡ low ++ high
    → Every (λ m. (it : Memtable) → entry M m ≡ Some it → it.first < to) low
    → Every (λ m. (it : Memtable) → entry M m ≡ Some it → to ≤ it.first) high
    → MembersJoin J M f to high base
parted-join J M f [] back [] high from to base h j e l u =
    subst (λ i. MembersJoin J M f i high base) h (subst (λ ms. MembersJoin J M f from ms base) e j)
parted-join J M f [] back (m ∷ low) high from to base h j e l u =
    let t : MembersJoin J M f from (m ∷ (low ++ high)) base = subst (λ ms. MembersJoin J M f from ms base) e j in
    absurd (omega (arith, l 0 m refl t.0.it t.0.at, t.0.first_is, h))
parted-join J M f (m ∷ front) back [] high from to base h j e l u =
    absurd
    (omega (arith, u 0 m (ap (λ ms. slice_get ms 0) (sym e)) h.0.it h.0.at, h.0.first_is, h.0.some, join-le J M f front (from + length (borne_by m J)) to h.1))
parted-join J M f (m ∷ front) back (n ∷ low) high from to base h j e l u =
    let rest : front ++ back ≡ low ++ high = cc in
    parted-join J M f front back low high (from + length (borne_by m J)) to base h.1 j.1 rest (λ i x q. l (suc i) x q) u

above-push : (files : List FileMeta) (file : FileMeta)
    → ((i : ℕ) (m : FileMeta) → slice_get files i ≡ Some m → 0 < i → m.bottom.last ≡ false) → file.bottom.last ≡ false
    → (i : ℕ) (m : FileMeta) → slice_get (files ++ file ∷ []) i ≡ Some m → 0 < i → m.bottom.last ≡ false
above-push files file h kind i m e low =
    ⊎_elim (λ o. h i m o low) (λ o. ap (λ (u : FileMeta). u.bottom.last) o.1 ∙ kind) (entry_push files file (suc i) m e)

module _ (a b : Books) (k : Sound a) (f : ℕ) (file : FileMeta) where
  pub flushed : IsFlushed a b f file → Sound b × After a b
  flushed h =
      let c = h.c in
      let p = h.is_open in
      let d = says a k f h.s c p in
      let of = of_f a k f h.s c p in
      let flush = is-flush a b k f h.s c p file h.covered h.settled h.kind h.list h.list_at h.version h.version_at in
      let old = says-files a b k f h.s c p file h.covered h.settled h.version h.version_at in
      let g = numbers-go a b k f h.s c p file h.covered h.settled in
      let x : SuperVersion =
      live_super (record c.descriptor { list = length a.lists + 1; version = length a.versions + 1 }) h.place in
      let z : MemtableList = record { members = h.back; live = true } in
      let v : Version = record { files = h.version.files ++ file ∷ []; live = true } in
      let e : Books = record a {
        supers = a.supers ++ x ∷ [];
        lists = a.lists ++ z ∷ [];
        versions = a.versions ++ v ∷ [];
        files = b.files;
        tops = set a.tops f (next_top a (length a.versions + 1));
      } in
      let reach : reach_of h.version.files ≡ d.middle = join_reach h.version.files 0 d.middle old.joins in
      let begins : file.from ≡ d.middle = flush.from_is ∙ reach in
      let members : MembersJoin a.journal a.memtables c.descriptor.family file.from (flush.front ++ flush.back) c.descriptor.base =
      subst (λ ms. MembersJoin a.journal a.memtables c.descriptor.family file.from ms c.descriptor.base)
      (ap (λ (l : MemtableList). l.members) (some (sym d.list_at ∙ h.list_at)) ∙ flush.parts)
      (subst (λ i. MembersJoin a.journal a.memtables c.descriptor.family i d.list.members c.descriptor.base) (sym begins) d.members) in
      let left =
      parted-join a.journal a.memtables c.descriptor.family flush.front flush.back h.parted.front h.back file.from
      file.to c.descriptor.base flush.joins members (sym flush.parts ∙ h.parted.parts) h.parted.low
      h.parted.high in
      let joins = files-join-push h.version.files file 0 d.middle old.joins begins in
      subst (λ (u : Books). Sound u × After a u) (sym h.is) (installed a e k f p.family x (record {
        rest = refl;
        family_is = of;
        live = refl;
        room = h.room;
        memtables = inl refl;
        lists = inr (
          z,
          refl,
          record {
            is_list = refl;
            live = refl;
            members = λ m i.
                member a k f h.s c p m h.list h.list_at
                (subst (In m) (sym h.parted.parts) (in-right m h.parted.front h.back i));
          },
        );
        versions = inr (
          v,
          refl,
          record {
            is_version = refl;
            live = refl;
            files = λ n i. ⊎_elim
                (λ j. still a b k f h.s c p file h.covered h.settled h.version h.version_at n j)
                (λ q. subst (λ j. IsRegistered b.files.numbers j Live) (sym q) (now-live a b k f h.s c p file h.covered h.settled))
                (numbers_push h.version.files file n i);
          },
        );
        files = inr (record {
          number = file.number;
          settled = h.settled;
          it = v;
          at = entry-new a.versions v (length a.versions + 1) refl;
          has = numbers-push h.version.files file;
        });
        active_live = active-lives a k f h.s c p;
        list_lives = record { it = z; at = entry-new a.lists z (length a.lists + 1) refl; live = refl };
        version_lives = record { it = v; at = entry-new a.versions v (length a.versions + 1) refl; live = refl };
        describes = record {
          active = d.active;
          active_at = d.active_at;
          active_family = d.active_family;
          base = d.base;
          within = d.within;
          list = z;
          list_at = entry-new a.lists z (length a.lists + 1) refl;
          version = v;
          version_at = entry-new a.versions v (length a.versions + 1) refl;
          middle = file.to;
          files = record {
            joins = joins;
            each = every_push (IsFileOf b.files.numbers a.metas c.descriptor.family) h.version.files file
                (λ i m q. file-on a.files.numbers b.files.numbers g a.metas a.metas (λ _ j. j) c.descriptor.family m (old.each i m q))
                (file-of a b k f h.s c p file h.covered h.settled);
            above = above-push h.version.files file old.above h.kind;
          };
          members = left;
        };
        ends = ends-at a k f h.s c p;
        awaited = λ n q. absurd (none-captured a b k f h.s c p file h.covered h.settled n q);
        lasts = λ m w. ⊎_elim
            (λ i. inl (record {
              top = p.current.top;
              top_at = p.current.at;
              version = h.version;
              version_at = ap (entry a.versions) (sym (last_is a k f h.s c p)) ∙ h.version_at;
              has = i;
            }))
            (λ i. inr (was-awaited a b k f h.s c p file h.covered h.settled m (⊎_elim (λ q. q) (λ q. absurd (in-none m q)) (in-cons m file [] i))))
            (in_append m h.version.files (file ∷ []) (last-output a b k f h.s c p file h.covered h.settled v (set a.tops f (next_top a (length a.versions + 1))) (placed-set a.tops f p.current.top (next_top a (length a.versions + 1)) p.current.at).here m w));
        families = placed-same a.families f p.family p.family_at;
        tops = placed-set a.tops f p.current.top (next_top a (length a.versions + 1)) p.current.at;
        paired = paired-set a k f h.s c p (next_top a (length a.versions + 1));
        more = omega arith;
        few_families = k.lawful.limits.families;
        stands = p.stands;
        options_are = options_are a k f h.s c p;
        in_range = in-range a k f h.s c p;
        handles = has-handles a k f h.s c p;
        name_free = name-free a k f h.s c p;
        was = was a k f h.s c p;
        had = had a k f h.s c p;
        onward = inr (h.s, c, p.current, refl);
        reach = λ t q. omega (
          arith,
          ap reach_of (last-files a k f h.s c p t q h.version h.version_at),
          flush.from_is,
          is-some a b k f h.s c p file h.covered h.settled,
          ap reach_of
              (files-at (a.versions ++ v ∷ []) (length a.versions + 1) v (entry-new a.versions v (length a.versions + 1) refl)),
          join_reach (h.version.files ++ file ∷ []) 0 file.to joins,
        );
      }))
