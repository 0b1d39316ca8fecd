-- What fits what a lane knows goes on to fit, in lawful books that come after.
use Rattle.std.proofs.Common.{List, Some, [], ap, arith, drop, inl, inr, length, refl, slice_get, subst, suc, sym, take, ℕ, ⊎_elim, ◌+◌, ◌==◌, ◌∙◌, ◌∷◌, ◌≡◌, ◌≤◌}
use Rattle.std.proofs.lemmas.List.{length-map}
use mathlib.Core.Logic.{dite}
use native.Mathlib.Decide.{dec_le}
use Rattle.sv_model.specs.After.{After, Continues, KeepsFamily, KeepsNumber, KeepsSuper}
use Rattle.sv_model.specs.Books.{Books}
use Rattle.sv_model.specs.Described.{Describes, FilesStand, IsFileOf, MembersJoin}
use Rattle.sv_model.specs.Flat.{IsFlatOf}
use Rattle.sv_model.specs.HeldFiles.{IsFileText}
use Rattle.sv_model.specs.Journal.{borne_by, by_lane, of_family, row_of, rows_of}
use Rattle.sv_model.specs.Lawful.{Lawful}
use Rattle.sv_model.specs.Lists.{In, same}
use Rattle.sv_model.specs.Numbers.{IsRegistered}
use Rattle.sv_model.specs.Registers.{GoesOn}
use Rattle.sv_model.specs.declared.records.Descriptor.{Descriptor}
use Rattle.sv_model.specs.declared.records.FileMeta.{FileMeta}
use Rattle.sv_model.specs.declared.records.FileStatus.TheVariants.{Gone}
use Rattle.sv_model.specs.declared.records.RegisteredFile.{RegisteredFile}
use Rattle.sv_model.specs.declared.records.SuperVersion.{SuperVersion}
use Rattle.sv_model.specs.declared.writes.Write.{Write}
use Rattle.sv_model.proofs.AfterLaws.{after-through, continues-through}
use Rattle.sv_rule.specs.Fits.{BodyFits, Fits, IsClosed, IsFrozenAt, IsGoneSnapshot, ReadFits, RowsFit, Together}
use Rattle.sv_model.specs.Supers.{IsSerialOf}
use Rattle.sv_rule.specs.Views.{Bodied, FileRead, FrozenAt, Known, Load, RowsRead}
use Rattle.sv_rule.proofs.Basics.{every_map, some_is}
use Rattle.sv_rule.proofs.CurrentLaws.{pack_le, serial_le}
use Rattle.sv_rule.proofs.LaterBooks.{get-map, goes-long, in-more, pack-after, writes-after}
use Rattle.sv_model.proofs.PassedRows.{continues-filter, continues-length, continues-map, passed-stays, range-stays}
use Rattle.sv_model.proofs.Registers.{entry-some}
use Rattle.sv_model.proofs.Metas.{captured-goes}

pub continues-on : {A : Type 0} (a b c : List A) → Continues a b → Continues b c → Continues a c
continues-on = continues-through

-- ---- files

pub text-stays : (j k : List Write) → Continues j k → (f : ℕ) (file : FileMeta) (bytes : List ℕ)
    → IsFileText j f file bytes → IsFileText k f file bytes
text-stays j k h f file bytes t = record {
  within = omega (
    arith,
    t.within,
    continues-length (of_family f j) (of_family f k)
        (continues-filter (λ (w : Write). w.family == f) j k h),
  );
  rows = t.rows;
  flat = subst (λ l. IsFlatOf file.from file.to file.bottom l t.rows)
      (sym (range-stays j k h f file.from file.to t.within)) t.flat;
  table = t.table;
  is = t.is;
}

pub gone-stays : (a b : List RegisteredFile) → GoesOn KeepsNumber a b → (n : ℕ) → IsRegistered a n Gone
    → IsRegistered b n Gone
gone-stays a b goes n h = let w = goes h.0 h.1 h.2 in (
  h.0,
  w.0,
  w.1,
  record { number_is = w.2.number ∙ h.3.number_is; status_is = w.2.gone h.3.status_is },
)

module _ (a b : Books) (h : After a b) where
  file-after : (f : ℕ) (x : FileMeta) → IsFileOf a.files.numbers a.metas f x → IsFileOf b.files.numbers b.metas f x
  file-after f x k = record {
    captured = captured-goes a.files.numbers b.files.numbers h.numbers f x.number
        k.captured;
    covers = in-more a.metas b.metas h.metas x k.covers;
    some = k.some;
  }

  -- ---- what a SuperVersion names fits together for ever

  -- members of a list keep their rows
  join-after : (f : ℕ) (ms : List ℕ) (from to : ℕ) → ((m : ℕ) → In m ms → borne_by m b.journal ≡ borne_by m a.journal)
      → MembersJoin a.journal a.memtables f from ms to → MembersJoin b.journal b.memtables f from ms to
  join-after f [] from to same k = k
  join-after f (m ∷ ms) from to same k =
      let t = h.memtables m k.0.it k.0.at in
      let q : length (borne_by m a.journal) ≡ length (borne_by m b.journal) = sym
      (ap (λ (l : List Write). length l) (same m (record { at = 0; is = refl }))) in
      let rest : MembersJoin b.journal b.memtables f (from + length (borne_by m a.journal)) ms to =
      join-after f ms (from + length (borne_by m a.journal)) to (λ n i. same n (record { at = suc i.at; is = i.is }))
      k.1 in (
        record {
          it = t.0;
          at = t.1;
          family_is = t.2.family ∙ k.0.family_is;
          first_is = t.2.first ∙ k.0.first_is;
          some = omega (arith, k.0.some, q);
        },
        subst (λ n. MembersJoin b.journal b.memtables f (from + n) ms to) q rest,
      )

  pub describes-after : (d : Descriptor) → Describes a.journal a.memtables a.lists a.versions a.files.numbers a.metas
      d → Describes b.journal b.memtables b.lists b.versions b.files.numbers b.metas d
  describes-after d k =
      let m = h.memtables d.active k.active k.active_at in
      let l = h.lists d.list k.list k.list_at in
      let v = h.versions d.version k.version k.version_at in
      let joined = join-after d.family k.list.members k.middle d.base (λ n i. h.rows d.list n k.list k.list_at i)
      k.members in
      record {
        active = m.0;
        active_at = m.1;
        active_family = m.2.family ∙ k.active_family;
        base = k.base ∙ sym m.2.first;
        within = omega (arith, k.within, writes-after a b h d.family);
        list = l.0;
        list_at = l.1;
        version = v.0;
        version_at = v.1;
        middle = k.middle;
        files = subst (λ xs. FilesStand b.files.numbers b.metas d.family xs k.middle) (sym v.2.files)
            (record {
              joins = k.files.joins;
              each = λ i x e. file-after d.family x (k.files.each i x e);
              above = k.files.above;
            });
        members = subst (λ ms. MembersJoin b.journal b.memtables d.family k.middle ms d.base) (sym l.2.members) joined;
      }

  -- ---- bodies

  frozen-after : (x : FrozenAt) → borne_by x.frozen.id b.journal ≡ borne_by x.frozen.id a.journal → IsFrozenAt a x
      → IsFrozenAt b x
  frozen-after x same k = let w = h.memtables x.frozen.id k.it k.at in record {
    it = w.0;
    at = w.1;
    cell_is = w.2.cell ∙ k.cell_is;
    frozen_is = k.frozen_is ∙ ap (λ (l : List Write). record { id = x.frozen.id; rows = rows_of l }) (sym same);
  }

  pub body-after : (x : Bodied) → BodyFits a x → BodyFits b x
  unfolding describes-after
  body-after x t =
      let s = h.supers t.serial t.super t.at in
      let d = s.2.descriptor in
      let fits : Describes b.journal b.memtables b.lists b.versions b.files.numbers b.metas t.super.descriptor =
      describes-after t.super.descriptor t.fits in
      let active_cell : fits.active.cell ≡ t.fits.active.cell =
      (h.memtables t.super.descriptor.active t.fits.active t.fits.active_at).2.cell in
      let members : fits.list.members ≡ t.fits.list.members =
      (h.lists t.super.descriptor.list t.fits.list t.fits.list_at).2.members in
      let files : fits.version.files ≡ t.fits.version.files =
      (h.versions t.super.descriptor.version t.fits.version t.fits.version_at).2.files in
      record {
        serial = t.serial;
        super = record t.super { live = s.0.live };
        at = s.1 ∙ ap Some (same_super t.super s.0 d s.2.place);
        pack_is = t.pack_is;
        within = t.within;
        descriptor = t.descriptor;
        fits = fits;
        cell_is = t.cell_is ∙ sym active_cell;
        members = members ∙ t.members;
        frozen = λ i y e. frozen-after y (h.rows t.super.descriptor.list y.frozen.id t.fits.list t.fits.list_at
            (record {
              at = i;
              is = ap (λ l. slice_get l i) t.members
                  ∙ get-map (λ (k : FrozenAt). k.frozen.id) x.body.frozen i y e;
            })) (t.frozen i y e);
        files = t.files ∙ sym files;
      }
    where
      same_super : (x y : SuperVersion) → y.descriptor ≡ x.descriptor → y.place ≡ x.place
          → y ≡ record x { live = y.live }
      same_super x y d p = λ i. record { descriptor = d i; place = p i; live = y.live }

  -- ---- rows

  pub closed-after : (m n : ℕ) → IsClosed a.journal a.lists a.memtables m n → IsClosed b.journal b.lists b.memtables m n
  closed-after m n = ⊎_elim
      (λ c. let w = h.lists c.id c.list c.at in inl (record {
        id = c.id;
        list = w.0;
        at = w.1;
        has = subst (In m) (sym w.2.members) c.has;
      }))
      (λ c. let w = h.memtables m c.it c.at in inr (record {
        it = w.0;
        at = w.1;
        past = omega (
          arith,
          c.past,
          w.2.first,
          ap (λ f. length (of_family f b.journal)) w.2.family,
          writes-after a b h c.it.family,
        );
      }))

  -- a memtable that is closed bears what it bore
  pub closed-same : (m : ℕ) → Lawful b → IsClosed a.journal a.lists a.memtables m (length (borne_by m a.journal))
      → borne_by m b.journal ≡ borne_by m a.journal
  closed-same m lawful = ⊎_elim
      (λ c. h.rows c.id m c.list c.at c.has)
      (λ c. let w = h.memtables m c.it c.at in
      passed-stays a.journal b.journal h.journal m c.it.family c.it.first
      (subst (λ (z : ℕ × ℕ). borne_by m b.journal ≡ take (length (borne_by m b.journal))
      (drop z.0 (of_family z.1 b.journal))) (λ i. (w.2.first i, w.2.family i)) (lawful.rows m w.0 w.1).rows)
      c.past)

  rows-after : Lawful b → (x : RowsRead) → RowsFit a x → RowsFit b x
  rows-after lawful x t = record {
    front = continues-on x.rows (rows_of (borne_by x.mem a.journal)) (rows_of (borne_by x.mem b.journal)) t.front
        (continues-map row_of (borne_by x.mem a.journal) (borne_by x.mem b.journal)
        (continues-filter (λ (w : Write). w.mem == x.mem) a.journal b.journal h.journal));
    whole = λ e. let w = t.whole e in
        let same : length x.rows ≡ length (borne_by x.mem a.journal) = ap length (sym w.0)
        ∙ length-map (borne_by x.mem a.journal) row_of in (
          ap rows_of (closed-same x.mem lawful (subst (IsClosed a.journal a.lists a.memtables x.mem) same w.1)) ∙ w.0,
          closed-after x.mem (length x.rows) w.1,
        );
  }

  read-after : (x : FileRead) → ReadFits a x → ReadFits b x
  read-after x t = record {
    family = t.family;
    captured = captured-goes a.files.numbers b.files.numbers h.numbers t.family x.number t.captured;
    file = t.file;
    covers = in-more a.metas b.metas h.metas t.file t.covers;
    number = t.number;
    bytes = t.bytes;
    given = t.given;
    text = text-stays a.journal b.journal h.journal t.family t.file t.bytes t.text;
  }

  -- ---- loads

  -- a serial that was made before is of the family that it is of now
  serial-before : (f t : ℕ) → t ≤ length a.supers → IsSerialOf b.supers f t → IsSerialOf a.supers f t
  serial-before f t low k =
      let pos = (serial_le b.supers f t k).0 in
      let x = entry-some a.supers t pos low in
      let z = h.supers t x.0 x.1 in
      record {
        sv = x.0;
        is = x.1;
        family = ap (λ (d : Descriptor). d.family) (sym z.2.descriptor)
            ∙ (ap (λ (y : SuperVersion). y.descriptor.family) (some_is (sym z.1 ∙ k.is)) ∙ k.family);
      }

  pub together-after : (frame : List Load) → Together a.supers frame → Together b.supers frame
  together-after frame all i x at_x j y at_y two big_x big_y = let k = all i x at_x j y at_y two big_x big_y in record {
    left = pack-after a b h x.family x.pack k.left;
    right = pack-after a b h y.family y.pack k.right;
    none = λ t of past. dite (dec_le t (length a.supers))
        (λ low. k.none t (serial-before x.family t low of) past)
        (λ high. omega (arith, pack_le k.right));
  }

  -- ---- all of it

  pub fits-after : Lawful b → (k : Known) → Fits a k → Fits b k
  fits-after lawful k t = record {
    lawful = lawful;
    start = after-through k.start.books a b t.start h;
    found = every_map (λ c. After c a) (λ c. After c b) k.found (λ c z. after-through c a b z h) t.found;
    left = every_map (λ c. After c a) (λ c. After c b) k.left (λ c z. after-through c a b z h) t.left;
    mine = continues-on k.mine (by_lane k.lane a.journal) (by_lane k.lane b.journal) t.mine
        (continues-filter (λ (w : Write). w.lane == k.lane) a.journal b.journal h.journal);
    bodies = every_map (BodyFits a) (BodyFits b) k.bodies body-after t.bodies;
    rows = every_map (RowsFit a) (RowsFit b) k.rows (rows-after lawful) t.rows;
    reads = λ told. every_map (ReadFits a) (ReadFits b) k.reads read-after (t.reads told);
    seen = λ f. omega (arith, t.seen f, writes-after a b h f);
    removed = every_map (λ n. IsRegistered a.files.numbers n Gone) (λ n. IsRegistered b.files.numbers n Gone)
        k.task.removed (gone-stays a.files.numbers b.files.numbers h.numbers) t.removed;
    ended = every_map (IsGoneSnapshot a.snapshots) (IsGoneSnapshot b.snapshots) k.task.ended
        (λ n z. let w = h.snapshots n z.0 z.1 in (w.0, w.1, w.2.gone z.2)) t.ended;
    round = omega (arith, t.round, supers-long, families-long);
    frames = every_map (Together a.supers) (Together b.supers) k.frames together-after t.frames;
  }
    where
      supers-long : length a.supers ≤ length b.supers
      supers-long = goes-long KeepsSuper a.supers b.supers h.supers

      families-long : length a.families ≤ length b.families
      families-long = goes-long KeepsFamily a.families b.families h.families
