-- The books of an opening with files and writes are sound.
use Rattle.sv_model.specs.Named.{numbers_of}
use Rattle.sv_model.specs.declared.records.FileMeta.{FileMeta}
use Rattle.sv_model.specs.Snapshots.{SnapshotsStand}
use Rattle.sv_model.specs.declared.records.Version.{Version}
use Rattle.std.proofs.Common.{◌≡◌, ◌<◌, ◌≤◌, ◌==◌, ◌&&◌, ℕ, zero, suc, inl, ⊎_elim, Bool, true, false, List, [], ◌∷◌, length, take, drop, Some, refl, sym, ap, ◌∙◌, subst, arith, replicate, None, inr, Option}
use Rattle.std.specs.Prelude.{slice_get}
use Rattle.sv_model.specs.declared.writes.Write.{Write}
use Rattle.sv_model.specs.declared.records.SuperVersion.{SuperVersion}
use Rattle.sv_model.specs.declared.records.Memtable.{Memtable}
use Rattle.sv_model.specs.declared.records.MemtableList.{MemtableList}
use Rattle.sv_model.specs.declared.records.Family.{Family}
use Rattle.sv_model.specs.declared.records.Top.{Top}
use Rattle.sv_model.specs.Journal.{borne_by, of_family}
use Rattle.sv_model.specs.Lists.{In, total, bit}
use Rattle.sv_model.specs.Registers.{entry}
use Rattle.sv_model.specs.Books.{Books}
use Rattle.sv_model.specs.Families.{is_retired, InRange, default_name, first_options}
use Rattle.sv_model.specs.Described.{Describes, IsFileOf}
use Rattle.sv_model.specs.Steady.{Sound}
use Rattle.sv_model.specs.Openings.{IsOpening, first_super, first_memtable, opening_books}
use Rattle.sv_model.proofs.Entries.{some, in-none, get_one, every_none, entry_none, get_none, entry_one}
use Rattle.sv_model.proofs.Basics.{none_some}
use Rattle.sv_model.proofs.Registers.{get-some}
use Rattle.sv_laws.proofs.GrownRegisters.{get_within}
use Rattle.sv_laws.proofs.BorneRows.{unborne}

bits : {A : Type 0} (live : A → Bool) (l : List A) → total (λ x. bit (live x)) l ≤ length l
bits live [] = omega arith
bits live (x ∷ l) = omega (arith, one (live x), bits live l)
  where
    one : (b : Bool) → bit b ≤ 1
    one true = omega arith
    one false = omega arith

no-snapshot : (journal : List Write) (versions : List Version) (captured : List (Option ℕ)) (metas : List FileMeta) (tops : List Top)
    → SnapshotsStand journal versions captured metas tops []
no-snapshot journal versions captured metas tops = record {
  within = λ n s e. absurd (entry_none n s e);
  few = omega arith;
  made = omega arith;
  lasts = λ n s e. absurd (entry_none n s e);
  awaited = λ n s e. absurd (entry_none n s e);
}

module _ (b : Books) (h : IsOpening b) where
  -- an object of a register is that of a family
  family-of : {A : Type 0} (l : List A) → length l ≡ length b.families → (n : ℕ) (x : A) → entry l n ≡ Some x
      → (i : ℕ) × (y : Family) × (n ≡ suc i) × (slice_get b.families i ≡ Some y) × (slice_get l i ≡ Some x)
  family-of l q zero x e = absurd (cc)
  family-of l q (suc i) x e =
      let y = get-some b.families i (omega (arith, get_within l i x e, q)) in (i, y.0, refl, y.1, e)

  super-of : (n : ℕ) (r : SuperVersion) → entry b.supers n ≡ Some r
      → (i : ℕ) × (y : Family) × (n ≡ suc i) × (slice_get b.families i ≡ Some y) × (r ≡ first_super b.journal i y.options)
  super-of n r e =
      let t = family-of b.supers h.supers_made n r e in (t.0, t.1, t.2, t.3, some (sym t.4 ∙ h.supers t.0 t.1 t.3))

  memtable-of : (n : ℕ) (r : Memtable) → entry b.memtables n ≡ Some r
      → (i : ℕ) × (y : Family) × (n ≡ suc i) × (slice_get b.families i ≡ Some y) × (r ≡ first_memtable b.journal i)
  memtable-of n r e =
      let t = family-of b.memtables h.memtables_made n r e in
      (t.0, t.1, t.2, t.3, some (sym t.4 ∙ h.memtables t.0 t.1 t.3))

  list-of : (n : ℕ) (r : MemtableList) → entry b.lists n ≡ Some r
      → (i : ℕ) × (y : Family) × (n ≡ suc i) × (slice_get b.families i ≡ Some y) × (r ≡ record { members = []; live = true })
  list-of n r e =
      let t = family-of b.lists h.lists_made n r e in (t.0, t.1, t.2, t.3, some (sym t.4 ∙ h.lists t.0 t.1 t.3))

  no-member : (n m : ℕ) (r : MemtableList) → entry b.lists n ≡ Some r → In m r.members → ⊥
  no-member n m r e i = in-none m (subst (λ (u : MemtableList). In m u.members) (list-of n r e).4 i)

  none : (m : ℕ) → 0 < m → borne_by m b.journal ≡ []
  none m p = unborne b.journal m (λ i w e. omega (arith, p, (h.writes i w e).0))

  open-of : (i : ℕ) (y : Family) → slice_get b.families i ≡ Some y → is_retired y ≡ false
  open-of i y e = ap (λ c. c && (total bit y.handles == 0)) (h.stand i y e)

  describes : (i : ℕ) (y : Family) → slice_get b.families i ≡ Some y
      → Describes b.journal b.memtables b.lists b.versions b.files.numbers b.metas (first_super b.journal i y.options).descriptor
  describes i y e = let v = h.versions i y e in record {
    active = first_memtable b.journal i;
    active_at = h.memtables i y e;
    active_family = refl;
    base = refl;
    within = omega arith;
    list = record { members = []; live = true };
    list_at = h.lists i y e;
    version = v.it;
    version_at = v.at;
    middle = length (of_family i b.journal);
    files = v.files;
    members = refl;
  }

  pub opening-sound : Sound b
  opening-sound = record {
    lawful = record {
      memtables = λ m. (
        λ w. let t = memtable-of m w.it w.at in inl (suc t.0, first_super b.journal t.0 t.1.options, h.supers t.0 t.1 t.3, record { live = refl; is = sym t.2 }),
        ⊎_elim
            (λ w. let t = super-of w.0 w.1 w.2 in let q : suc t.0 ≡ m = ap (λ (r : SuperVersion). r.descriptor.active) (sym t.4) ∙ w.3.is in record {
              it = first_memtable b.journal t.0;
              at = ap (entry b.memtables) (sym q) ∙ h.memtables t.0 t.1 t.3;
              live = refl;
            })
            (λ w. absurd (no-member w.0 m w.1 w.2 w.3.has)),
      );
      lists = λ l. (
        λ w. let t = list-of l w.it w.at in (suc t.0, first_super b.journal t.0 t.1.options, h.supers t.0 t.1 t.3, record { live = refl; is = sym t.2 }),
        λ w. let t = super-of w.0 w.1 w.2 in let q : suc t.0 ≡ l = ap (λ (r : SuperVersion). r.descriptor.list) (sym t.4) ∙ w.3.is in record {
          it = record { members = []; live = true };
          at = ap (entry b.lists) (sym q) ∙ h.lists t.0 t.1 t.3;
          live = refl;
        },
      );
      versions = λ v. (
        λ w. let t = family-of b.versions h.versions_made v w.it w.at in inl (suc t.0, first_super b.journal t.0 t.1.options, h.supers t.0 t.1 t.3, record { live = refl; is = sym t.2 }),
        ⊎_elim
            (λ w. let t = super-of w.0 w.1 w.2 in let q : suc t.0 ≡ v = ap (λ (r : SuperVersion). r.descriptor.version) (sym t.4) ∙ w.3.is in let u = h.versions t.0 t.1 t.3 in record {
              it = u.it;
              at = ap (entry b.versions) (sym q) ∙ u.at;
              live = u.live;
            })
            (λ w. let u = h.versions w.id w.family w.at in let q : suc w.id ≡ v = ap (λ (r : Top). r.last) (some (sym (h.tops w.id w.family w.at) ∙ w.on)) ∙ w.is in record {
              it = u.it;
              at = ap (entry b.versions) (sym q) ∙ u.at;
              live = u.live;
            }),
      );
      files = h.files;
      descriptors = λ n r e live. let t = super-of n r e in subst (λ (w : SuperVersion). Describes b.journal b.memtables b.lists b.versions b.files.numbers b.metas w.descriptor) (sym t.4) (describes t.0 t.1 t.3);
      lasts = λ f t te. let y = get-some b.families f (omega (arith, get_within b.tops f t te, h.tops_made)) in let v = h.versions f y.0 y.1 in
          record {
            version = v.it;
            at = ap (λ (u : Top). entry b.versions u.last) (some (sym te ∙ h.tops f y.0 y.1)) ∙ v.at;
            to = length (of_family f b.journal);
            files = v.files;
            within = omega arith;
          };
      rows = λ m r e. let t = memtable-of m r e in let no = none m (omega (arith, t.2)) in record {
        within = omega (arith, ap (λ (u : Memtable). u.first) t.4, ap (λ (u : Memtable). length (of_family u.family b.journal)) t.4);
        rows = no ∙ sym (ap (λ (l : List Write). take (length l) (drop r.first (of_family r.family b.journal))) no);
        few = omega (arith, ap (λ (l : List Write). length l) no);
      };
      tops = λ f s y t ye te cur.
          let one : suc f ≡ s = some (ap (λ (u : Top). u.current) (some (sym (h.tops f y ye) ∙ te)) ∙ cur) in
          record {
            it = first_super b.journal f y.options;
            at = ap (entry b.supers) (sym one) ∙ h.supers f y ye;
            live = refl;
            family_is = refl;
            last_is = ap (λ (u : Top). u.last) (some (sym (h.tops f y ye) ∙ te));
            options_are = refl;
            greatest = λ n r e of. let u = super-of n r e in omega (arith, u.2, ap (λ (w : SuperVersion). w.descriptor.family) u.4, of, one);
            ends = omega (arith, ap (λ (l : List Write). length l) (none (suc f) (omega arith)));
          };
      paired = h.tops_made;
      numbers = h.numbers;
      metas = h.metas;
      cuts = h.cuts;
      snapshots = subst (SnapshotsStand b.journal b.versions b.files.captured b.metas b.tops) (sym h.snapshots) (no-snapshot b.journal b.versions b.files.captured b.metas b.tops);
      places = λ n r e live. let t = super-of n r e in (omega (arith, ap (λ (w : SuperVersion). w.place) t.4, get_within b.families t.0 t.1 t.3, h.most), λ k w g l p. let u = super-of k w g in omega (arith, t.2, u.2, p, ap (λ (z : SuperVersion). z.place) t.4, ap (λ (z : SuperVersion). z.place) u.4));
      cells = λ n r e live. let t = memtable-of n r e in (omega (arith, ap (λ (w : Memtable). w.cell) t.4, get_within b.families t.0 t.1 t.3, h.most), λ k w g l p. let u = memtable-of k w g in omega (arith, t.2, u.2, p, ap (λ (z : Memtable). z.cell) t.4, ap (λ (z : Memtable). z.cell) u.4));
      distinct = λ f g x y e w p q n. h.distinct f g x y e w n;
      default = h.default;
      limits = record {
        families = h.most;
        supers = omega (arith, h.supers_made, h.most);
        live_supers = omega (arith, bits (λ (r : SuperVersion). r.live) b.supers, h.supers_made, h.most);
        live_memtables = omega (arith, bits (λ (r : Memtable). r.live) b.memtables, h.memtables_made, h.most);
        captured = h.few_files;
        writes = h.few;
        holds = λ i n e. omega (arith, h.holds i n e);
        jobs = omega (arith, h.jobs);
        options = h.options;
      };
    };
    steady = record {
      borne = λ i w e. let t = h.writes i w e in record { family_made = t.2; by = inr (t.0, t.1) };
      supers_of = λ n r e. let t = super-of n r e in omega (arith, ap (λ (w : SuperVersion). w.descriptor.family) t.4, get_within b.families t.0 t.1 t.3);
      listed = λ l m z e i. absurd (no-member l m z e i);
      awaited = λ f n s x c _. absurd (h.idle f n c);
      covers = λ f n m c _ _. absurd (h.idle f n c);
      retired = λ f y t ye te r. absurd (let z : false ≡ true = sym (open-of f y ye) ∙ r in cc);
      busy = λ f n c. absurd (h.idle f n c);
      captured = h.captured;
      holds = h.lanes;
      handles = h.handles;
      memtables_made = omega (arith, h.memtables_made, h.supers_made);
      lists_made = omega (arith, h.lists_made, h.supers_made);
      versions_made = omega (arith, h.versions_made, h.supers_made);
    };
  }

-- ---- the first opening, of an empty folder

replicated : {A : Type 0} (a : A) (n i : ℕ) (b : A) → slice_get (replicate n a) i ≡ Some b → b ≡ a
replicated a zero i b e = absurd (cc)
replicated a (suc n) zero b e = sym (some e)
replicated a (suc n) (suc i) b e = replicated a n i b e

first_range : InRange first_options
first_range = record {
  rows_least = omega arith;
  rows_most = omega arith;
  lists_least = omega arith;
  lists_most = omega arith;
}

abbrev first_family : Family
first_family = record { name = default_name; options = first_options; dropped = false; handles = replicate 32 true }

uncaptured : (f n : ℕ) → slice_get (replicate 16 None) f ≡ Some (Some n) → ⊥
uncaptured f n e = none_some n (sym (replicated None 16 f (Some n) e))

-- what a family of it has at its place
at-first : {A : Type 0} (P : ℕ → Family → A) (x : A) (i : ℕ) (y : Family) → slice_get (first_family ∷ []) i ≡ Some y
    → P 0 first_family ≡ x → slice_get (x ∷ []) i ≡ Some (P i y)
at-first P x i y e q =
    let t = get_one first_family i y e in
    ap (slice_get (x ∷ [])) t.0 ∙ ap Some (sym q ∙ (λ j. P (sym t.0 j) (sym t.1 j)))

pub first-opening : (next : ℕ) → 1 ≤ next → next ≤ 18446744073709551615 → IsOpening (opening_books next)
first-opening next least most = record {
  most = omega arith;
  supers_made = refl;
  memtables_made = refl;
  lists_made = refl;
  versions_made = refl;
  tops_made = refl;
  supers = λ i y e. at-first (λ j z. first_super [] j z.options) (first_super [] 0 first_options) i y e refl;
  memtables = λ i y e. at-first (λ j z. first_memtable [] j) (first_memtable [] 0) i y e refl;
  lists = λ i y e. at-first (λ j z. record { members = []; live = true }) (record { members = []; live = true }) i y e refl;
  versions = λ i y e. record {
    it = record { files = []; live = true };
    at = at-first (λ j z. record { files = []; live = true }) (record { files = []; live = true }) i y e refl;
    live = refl;
    files = record { joins = refl; each = every_none (IsFileOf [] [] i); above = λ j m q. absurd (get_none j m q) };
  };
  tops = λ i y e. at-first (λ j z. record { current = Some (suc j); last = suc j }) (record { current = Some 1; last = 1 }) i y e refl;
  stand = λ i y e. ap (λ (z : Family). z.dropped) (get_one first_family i y e).1;
  handles = λ i y e. ap (λ (z : Family). length z.handles) (get_one first_family i y e).1;
  options = λ i y e. subst (λ (z : Family). InRange z.options) (sym (get_one first_family i y e).1) first_range;
  distinct = λ f g x y e d n. (get_one first_family f x e).0 ∙ sym (get_one first_family g y d).0;
  default = record { it = first_family; at = refl; name_is = refl; stands = refl };
  writes = λ i w e. absurd (get_none i w e);
  few = omega arith;
  numbers = record {
    once = λ n. omega arith;
    below = λ i x e. absurd (entry_none i x e);
    pending = λ i x e p. absurd (entry_none i x e);
    held = λ f n e. absurd (uncaptured f n e);
    drawn = λ i x e p. absurd (entry_none i x e);
    grabbed = λ i x e p f n q. absurd (entry_none i x e);
    least = least;
    most = most;
  };
  metas = refl;
  cuts = λ i m e. absurd (get_none i m e);
  files = λ n. (
    λ w. absurd (entry_none w.0 w.1 w.2),
    λ w. absurd (in-none n (subst (λ (v : Version). In n (numbers_of v.files)) (entry_one (record { files = []; live = true }) w.0 w.1 w.2).1 w.3.has)),
  );
  few_files = omega arith;
  idle = uncaptured;
  captured = refl;
  holds = λ i n e. replicated 0 32 i n e;
  lanes = refl;
  jobs = refl;
  snapshots = refl;
}

pub first-sound : (next : ℕ) → 1 ≤ next → next ≤ 18446744073709551615 → Sound (opening_books next)
first-sound next least most = opening-sound (opening_books next) (first-opening next least most)
