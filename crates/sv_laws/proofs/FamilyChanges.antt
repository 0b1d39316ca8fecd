-- Of one family the handles, the drop or the current changes.
use Rattle.sv_model.specs.Registers.{entry}
use Rattle.sv_laws.proofs.BorneRows.{borne-on}
use Rattle.sv_model.specs.Snapshots.{IsLastFile}
use Rattle.sv_model.specs.Ranges.{reach_of}
use Rattle.sv_laws.proofs.SnapshotLaws.{snapshots-kept}
use Rattle.sv_model.specs.Journal.{of_family}
use Rattle.sv_model.specs.declared.records.FileMeta.{FileMeta}
use Rattle.std.proofs.Common.{◌≡◌, ◌≢◌, ℕ, ◌⊎◌, inl, inr, ⊎_elim, Bool, true, false, List, length, Some, refl, sym, ap, ◌∙◌, subst, arith, set, length-set}
use Rattle.std.specs.Prelude.{slice_get}
use mathlib.Core.Logic.{dite}
use native.Mathlib.Decide.{ℕ_discrete}
use Rattle.sv_model.specs.declared.records.SuperVersion.{SuperVersion}
use Rattle.sv_model.specs.declared.records.Family.{Family}
use Rattle.sv_model.specs.declared.records.Top.{Top}
use Rattle.sv_model.specs.After.{KeepsSuper, KeepsMemtable, KeepsList, KeepsVersion, KeepsNumber, KeepsFamily, After, KeepsSnapshot}
use Rattle.sv_model.specs.Books.{Books, files_of}
use Rattle.sv_model.specs.Families.{is_retired, IsDefault, InRange}
use Rattle.sv_model.specs.Named.{HasLast, NamedVersion}
use Rattle.sv_model.specs.Lawful.{Lawful}
use Rattle.sv_model.specs.Described.{LastFits, IsTop}
use Rattle.sv_model.specs.Steady.{Sound, IsCurrent}
use Rattle.sv_model.proofs.Registers.{goes-same}
use Rattle.sv_model.proofs.AfterLaws.{continues-itself, super-itself, memtable-itself, list-itself, version-itself, number-itself, family-itself, snapshot-itself}
use Rattle.sv_laws.specs.Families.{ChangesFamily}
use Rattle.sv_laws.specs.Growing.{IsPlaced}
use Rattle.sv_model.proofs.Entries.{some}
use Rattle.sv_model.proofs.Basics.{none_some}
use Rattle.sv_laws.proofs.GrownRegisters.{placed_get, placed-goes, placed-set}

not-dropped : (b c : Bool) → (b ≡ true → c ≡ true) → c ≡ false → b ≡ false
not-dropped false c h e = refl
not-dropped true c h e = let f : c ≡ true = h refl in absurd (cc)

bool : (b : Bool) → (b ≡ true) ⊎ (b ≡ false)
bool true = inl refl
bool false = inr refl

module _ (a b : Books) (k : Sound a) (f : ℕ) (o y : Family) (t u : Top) (h : ChangesFamily a b f o y t u) where
  law : Lawful a
  law = k.lawful

  abbrev G : List Family
  G = set a.families f y

  abbrev T : List Top
  T = set a.tops f u

  abbrev e : Books
  e = record a { families = G; tops = T }

  pf : IsPlaced a.families G f y
  pf = placed-set a.families f o y h.at

  pt : IsPlaced a.tops T f u
  pt = placed-set a.tops f t u h.on

  was-current : (s : ℕ) → u.current ≡ Some s → t.current ≡ Some s
  was-current s c = ⊎_elim (λ q. sym q ∙ c) (λ q. absurd (none_some s (sym q ∙ c))) h.current

  last-to : (v : ℕ) → HasLast v a.families a.tops → NamedVersion a.supers G T v
  last-to v w = dite (ℕ_discrete w.id f)
      (λ q.
      let o_is : w.family ≡ o = some (sym w.at ∙ ap (slice_get a.families) q ∙ h.at) in
      let t_is : w.top ≡ t = some (sym w.on ∙ ap (slice_get a.tops) q ∙ h.on) in
      let last : t.last ≡ v = ap (λ (z : Top). z.last) (sym t_is) ∙ w.is in
      ⊎_elim
      (λ r. let had = h.had r (ap is_retired (sym o_is) ∙ w.stands) in let i = law.tops f had.0 o t h.at h.on had.1 in inl (had.0, i.it, i.at, record { live = i.live; is = i.last_is ∙ last }))
      (λ r. inr (record { id = f; family = y; top = u; at = pf.here; on = pt.here; stands = r; is = h.last_is ∙ last }))
      (bool (is_retired y)))
      (λ q. inr (record {
        id = w.id;
        family = w.family;
        top = w.top;
        at = pf.others w.id q ∙ w.at;
        on = pt.others w.id q ∙ w.on;
        stands = w.stands;
        is = w.is;
      }))

  last-from : (v : ℕ) → HasLast v G T → HasLast v a.families a.tops
  last-from v w = dite (ℕ_discrete w.id f)
      (λ q.
      let y_is : w.family ≡ y = some (sym w.at ∙ ap (slice_get G) q ∙ pf.here) in
      let u_is : w.top ≡ u = some (sym w.on ∙ ap (slice_get T) q ∙ pt.here) in
      record {
        id = f;
        family = o;
        top = t;
        at = h.at;
        on = h.on;
        stands = h.back (ap is_retired (sym y_is) ∙ w.stands);
        is = sym h.last_is ∙ ap (λ (z : Top). z.last) (sym u_is) ∙ w.is;
      })
      (λ q. record {
        id = w.id;
        family = w.family;
        top = w.top;
        at = sym (pf.others w.id q) ∙ w.at;
        on = sym (pt.others w.id q) ∙ w.on;
        stands = w.stands;
        is = w.is;
      })

  fam : (g : ℕ) (z : Family) → slice_get G g ≡ Some z
      → ((g ≡ f) × (z ≡ y)) ⊎ ((g ≢ f) × (slice_get a.families g ≡ Some z))
  fam = placed_get a.families G f y pf

  top : (g : ℕ) (z : Top) → slice_get T g ≡ Some z → ((g ≡ f) × (z ≡ u)) ⊎ ((g ≢ f) × (slice_get a.tops g ≡ Some z))
  top = placed_get a.tops T f u pt

  lasts_law : (g : ℕ) (w : Top) → slice_get T g ≡ Some w
      → LastFits a.journal a.versions a.files.numbers a.metas g w.last
  lasts_law g w we = ⊎_elim
      (λ q. subst (λ (i : ℕ × ℕ). LastFits a.journal a.versions a.files.numbers a.metas i.0 i.1) (λ i. (sym q.0 i, (sym h.last_is ∙ ap (λ (j : Top). j.last) (sym q.1)) i)) (law.lasts f t h.on))
      (λ q. law.lasts g w q.1)
      (top g w we)

  -- a file of a last Version was one
  last_back : (g : ℕ) (m : FileMeta) → IsLastFile a.versions T g m → IsLastFile a.versions a.tops g m
  last_back g m w = ⊎_elim
      (λ q. record {
        top = t;
        top_at = ap (slice_get a.tops) q.0 ∙ h.on;
        version = w.version;
        version_at = ap (entry a.versions) (sym h.last_is ∙ ap (λ (j : Top). j.last) (sym q.1)) ∙ w.version_at;
        has = w.has;
      })
      (λ q. record { top = w.top; top_at = q.1; version = w.version; version_at = w.version_at; has = w.has })
      (top g w.top w.top_at)

  tops_law : (g s : ℕ) (z : Family) (w : Top) → slice_get G g ≡ Some z → slice_get T g ≡ Some w → w.current ≡ Some s
      → IsTop a.journal a.supers g z w.last s
  tops_law g s z w ze we cur = ⊎_elim
      (λ q.
      let z_is : y ≡ z = sym (some (sym ze ∙ ap (slice_get G) q.0 ∙ pf.here)) in
      let i = law.tops f s o t h.at h.on (was-current s (ap (λ (j : Top). j.current) (sym q.1) ∙ cur)) in
      record {
        it = i.it;
        at = i.at;
        live = i.live;
        family_is = i.family_is ∙ sym q.0;
        last_is = i.last_is ∙ sym h.last_is ∙ ap (λ (j : Top). j.last) (sym q.1);
        options_are = i.options_are ∙ sym h.options_are ∙ ap (λ (j : Family). j.options) z_is;
        greatest = λ n x at of_g. i.greatest n x at (of_g ∙ q.0);
        ends = i.ends ∙ ap (λ j. length (of_family j a.journal)) (sym q.0);
      })
      (λ q. law.tops g s z w (sym (pf.others g q.0) ∙ ze) q.1 cur)
      (top g w we)

  -- a family that is not dropped was not, and had its name
  open_back : (g : ℕ) (z : Family) → slice_get G g ≡ Some z → z.dropped ≡ false
      → (w : Family) × (slice_get a.families g ≡ Some w) × (w.dropped ≡ false) × (z.name ≡ w.name)
  open_back g z ze st = ⊎_elim
      (λ q. (o, ap (slice_get a.families) q.0 ∙ h.at, not-dropped o.dropped y.dropped h.dropped (ap (λ (j : Family). j.dropped) (sym q.1) ∙ st), ap (λ (j : Family). j.name) q.1 ∙ h.name_is))
      (λ q. (z, q.1, st, refl))
      (fam g z ze)

  default_law : IsDefault G
  default_law = dite (ℕ_discrete 0 f)
      (λ q. record {
        it = y;
        at = ap (slice_get G) q ∙ pf.here;
        name_is = h.name_is
            ∙ ap (λ (j : Family). j.name) (some (sym h.at ∙ ap (slice_get a.families) (sym q) ∙ law.default.at))
            ∙ law.default.name_is;
        stands = h.default (sym q);
      })
      (λ q. record {
        it = law.default.it;
        at = pf.others 0 q ∙ law.default.at;
        name_is = law.default.name_is;
        stands = law.default.stands;
      })

  current_back : (g s : ℕ) (x : SuperVersion) → IsCurrent T a.supers g s x → IsCurrent a.tops a.supers g s x
  current_back g s x c = ⊎_elim
      (λ q. record {
        top = t;
        at = ap (slice_get a.tops) q.0 ∙ h.on;
        is = was-current s (ap (λ (j : Top). j.current) (sym q.1) ∙ c.is);
        has = c.has;
      })
      (λ q. record { top = c.top; at = q.1; is = c.is; has = c.has })
      (top g c.top c.at)

  sound : Sound e
  sound = record {
    lawful = record {
      memtables = law.memtables;
      lists = law.lists;
      versions = λ v. (
        λ w. ⊎_elim (λ i. inl i) (last-to v) ((law.versions v).0 w),
        ⊎_elim (λ i. (law.versions v).1 (inl i)) (λ i. (law.versions v).1 (inr (last-from v i))),
      );
      files = law.files;
      descriptors = law.descriptors;
      lasts = lasts_law;
      rows = law.rows;
      tops = tops_law;
      paired = length-set a.tops f u ∙ law.paired ∙ sym (length-set a.families f y);
      numbers = law.numbers;
      metas = law.metas;
      cuts = law.cuts;
      snapshots = snapshots-kept a e law.snapshots (record {
        journal = continues-itself a.journal;
        snapshots = refl;
        lasts = λ g m i. inl (last_back g m i);
        awaited = λ g m i. inl i;
      });
      places = law.places;
      cells = law.cells;
      distinct = λ g i z w ze we zd wd n. let p = open_back g z ze zd in let q = open_back i w we wd in law.distinct g i p.0 q.0 p.1 q.1 p.2 q.2 (sym p.3 ∙ n ∙ q.3);
      default = default_law;
      limits = record {
        families = omega (arith, law.limits.families, length-set a.families f y);
        supers = law.limits.supers;
        live_supers = law.limits.live_supers;
        live_memtables = law.limits.live_memtables;
        captured = law.limits.captured;
        writes = law.limits.writes;
        holds = law.limits.holds;
        jobs = law.limits.jobs;
        options = λ g z ze. ⊎_elim
            (λ q. subst InRange (sym h.options_are ∙ ap (λ (j : Family). j.options) (sym q.1)) (law.limits.options f o h.at))
            (λ q. law.limits.options g z q.1)
            (fam g z ze);
      };
    };
    steady = record {
      borne = λ i w at.
          borne-on (length a.memtables) (length a.families) (length a.memtables) (length G) w (omega arith)
          (omega (arith, length-set a.families f y)) (k.steady.borne i w at);
      supers_of = λ n x at. omega (arith, k.steady.supers_of n x at, length-set a.families f y);
      listed = λ l m z at i. let j = k.steady.listed l m z at i in record {
        it = j.it;
        at = j.at;
        before = λ s x c. j.before s x (current_back j.it.family s x c);
      };
      awaited = λ g n s x ca c. k.steady.awaited g n s x ca (current_back g s x c);
      covers = k.steady.covers;
      retired = λ g z w ze we r. ⊎_elim
          (λ q. ap (λ (j : Top). j.current) q.1 ∙ h.ended (ap is_retired (sym (some (sym ze ∙ ap (slice_get G) q.0 ∙ pf.here))) ∙ r))
          (λ q. k.steady.retired g z w (sym (pf.others g q.0) ∙ ze) q.1 r)
          (top g w we);
      busy = λ g n c. omega (arith, k.steady.busy g n c, length-set a.families f y);
      captured = k.steady.captured;
      holds = k.steady.holds;
      handles = λ g z ze. ⊎_elim
          (λ q. ap (λ (j : Family). length j.handles) q.1 ∙ h.handles ∙ k.steady.handles f o h.at)
          (λ q. k.steady.handles g z q.1)
          (fam g z ze);
      memtables_made = k.steady.memtables_made;
      lists_made = k.steady.lists_made;
      versions_made = k.steady.versions_made;
    };
  }

  after : After a e
  after = record {
    journal = continues-itself a.journal;
    supers = goes-same KeepsSuper a.supers super-itself;
    memtables = goes-same KeepsMemtable a.memtables memtable-itself;
    lists = goes-same KeepsList a.lists list-itself;
    versions = goes-same KeepsVersion a.versions version-itself;
    numbers = goes-same KeepsNumber a.files.numbers number-itself;
    metas = continues-itself a.metas;
    next = omega arith;
    families = placed-goes a.families G f y pf KeepsFamily family-itself
        (λ z ze. let q : o ≡ z = some (sym h.at ∙ ze) in record {
          name = h.name_is ∙ ap (λ (j : Family). j.name) q;
          dropped = λ d. h.dropped (ap (λ (j : Family). j.dropped) q ∙ d);
        });
    tops = λ g w we. dite (ℕ_discrete g f)
        (λ q. let t_is : t ≡ w = some (sym h.on ∙ ap (slice_get a.tops) (sym q) ∙ we) in (
          u,
          ap (slice_get T) q ∙ pt.here,
          record {
            reach = omega (
              arith,
              ap (λ j. reach_of (files_of a.versions j)) (ap (λ (j : Top). j.last) (sym t_is) ∙ sym h.last_is),
            );
            ended = λ _ none. ⊎_elim (λ r. r ∙ ap (λ (j : Top). j.current) t_is ∙ none) (λ r. r) h.current;
          },
        ))
        (λ q. (w, pt.others g q ∙ we, record { reach = omega arith; ended = λ _ z. z }));
    rows = λ l m z at i. refl;
    snapshots = goes-same KeepsSnapshot a.snapshots snapshot-itself;
  }

  pub family-changed : Sound b × After a b
  family-changed = subst (λ (z : Books). Sound z × After a z) (sym h.is) (sound, after)
