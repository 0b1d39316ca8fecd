-- Memtables that are new with a SuperVersion, and families that are made with their first ones.
use Rattle.std.proofs.Common.{Bool, List, None, Option, Some, [], ap, arith, drop, false, length, length-drop, map, refl, replicate, set, suc, sym, take, true, zero, ℕ, ◌++◌, ◌+◌, ◌<◌, ◌∙◌, ◌∷◌, ◌≡◌, ◌≢◌, ◌≤◌}
use Rattle.std.specs.Prelude.{slice_get}
use mathlib.Core.Logic.{dite}
use native.Mathlib.Decide.{ℕ_discrete}
use Rattle.sv_model.specs.Books.{Books}
use Rattle.sv_model.specs.Described.{BearsFrom}
use Rattle.sv_model.specs.Families.{is_retired}
use Rattle.sv_model.specs.Journal.{borne_by, of_family}
use Rattle.sv_model.specs.Lists.{at, bit, same}
use Rattle.sv_model.specs.Registers.{entry}
use Rattle.sv_model.specs.Steady.{Sound}
use Rattle.sv_model.specs.Supers.{current_serial, pack_at, pack_of_serial}
use Rattle.sv_model.specs.Tasks.{Task, handle, handle_in}
use Rattle.sv_model.specs.Turns.{IsNewMemtable, Opens, Turns}
use Rattle.sv_model.specs.declared.records.Descriptor.{Descriptor}
use Rattle.sv_model.specs.declared.records.Family.{Family}
use Rattle.sv_model.specs.declared.records.Memtable.{Memtable}
use Rattle.sv_model.specs.declared.writes.Write.{Write}
use Rattle.sv_model.proofs.Basics.{none_some}
use Rattle.sv_model.proofs.Entries.{some}
use Rattle.sv_model.proofs.Lists.{same_here, same_other}
use Rattle.sv_model.proofs.Registers.{entry-new}
use Rattle.sv_laws.specs.NewCurrents.{IsFamilyMade, IsSwitched}
use Rattle.sv_laws.specs.Installs.{live_super, next_top}
use Rattle.sv_laws.proofs.BorneRows.{mem-within, unborne}
use Rattle.sv_laws.proofs.GrownRegisters.{get_within, placed-push}
use Rattle.sv_laws.proofs.Handles.{not-retired-open}
use Rattle.sv_turns.specs.Called.{IsCalled, next_pack}
use Rattle.sv_turns.specs.Owned.{opens_family}
use Rattle.sv_turns.proofs.Families.{bit-set}
use Rattle.sv_turns.proofs.Frames.{append_none, no_writes, snapshots-stand, turns-files_stand}

some_is : {A : Type 0} {x y : A} → Some x ≡ Some y → x ≡ y
some_is e = some e

length-push : {A : Type 0} (l : List A) (y : A) → length (l ++ y ∷ []) ≡ length l + 1
length-push [] y = refl
length-push (x ∷ l) y = omega (arith, length-push l y)

bit-here : (hs : List Bool) (l : ℕ) → l < length hs → at 0 (map bit (set hs l true)) l ≡ 1
bit-here [] l h = absurd (omega arith)
bit-here (x ∷ hs) zero h = refl
bit-here (x ∷ hs) (suc l) h = bit-here hs l (omega arith)

length-take_le : {A : Type 0} (n : ℕ) (l : List A) → length (take n l) ≤ length l
length-take_le zero l = omega arith
length-take_le (suc n) [] = omega arith
length-take_le (suc n) (x ∷ l) = omega (arith, length-take_le n l)

none-long : {A : Type 0} (l : List A) → length l ≡ 0 → l ≡ []
none-long [] e = refl
none-long (x ∷ l) e = absurd (omega (arith, e))

-- a memtable that begins where its family's writes end has no rows
rows-none : (journal : List Write) (m : ℕ) (it : Memtable) → BearsFrom journal m it
    → it.first ≡ length (of_family it.family journal) → borne_by m journal ≡ []
rows-none journal m it h e =
    let F = of_family it.family journal in
    none-long (borne_by m journal) (omega (
      arith,
      ap length h.rows,
      length-take_le (length (borne_by m journal)) (drop it.first F),
      length-drop it.first F,
      e,
    ))

module _ (l : ℕ) (a b : Books) (t : Task) (c : IsCalled l a t b) where
  -- a switch makes a memtable in the cell
  pub switched-memtable : (f : ℕ) (h : IsSwitched a b f) → IsNewMemtable a b h.cell
      (record { family = f; first = length (of_family f a.journal); cell = h.cell; live = true })
  switched-memtable f h =
      let m : Memtable = record { family = f; first = length (of_family f a.journal); cell = h.cell; live = true } in
      let memtables : b.memtables ≡ a.memtables ++ m ∷ [] = ap (λ (z : Books). z.memtables) h.is in
      record {
        memtables = memtables;
        cell = refl;
        live = refl;
        no_rows = rows-none b.journal (length a.memtables + 1) m
            (c.lawful.rows (length a.memtables + 1) m (ap (λ z. entry z (length a.memtables + 1)) memtables
            ∙ entry-new a.memtables m (length a.memtables + 1) refl))
            (ap (λ (z : Books). length (of_family f z.journal)) (sym h.is));
      }

-- ---- a family that is made

-- the bits of no handles but one
bits-none : (n k : ℕ) → at 0 (map bit (replicate n false)) k ≡ 0
bits-none zero k = refl
bits-none (suc n) zero = refl
bits-none (suc n) (suc k) = bits-none n k

module _ (l : ℕ) (a b : Books) (t : Task) (c : IsCalled l a t b) (r : Family) (h : IsFamilyMade a b r) where
  abbrev pub n : ℕ
  n = length a.families

  families : b.families ≡ a.families ++ r ∷ []
  families = ap (λ (z : Books). z.families) h.is

  family-here : slice_get b.families n ≡ Some r
  family-here = ap (λ z. slice_get z n) families ∙ (placed-push a.families r).here

  family-other : (g : ℕ) → g ≢ n → slice_get b.families g ≡ slice_get a.families g
  family-other g ne = ap (λ z. slice_get z g) families ∙ (placed-push a.families r).others g ne

  -- no family has the next id
  none-there : (y : Family) → slice_get a.families n ≡ Some y → ⊥
  none-there y e = omega (arith, get_within a.families n y e)

  handle_none : (k : ℕ) → handle a.families k n ≡ 0
  handle_none k = by (slice_get a.families n) refl
    where
      by : (o : Option Family) → slice_get a.families n ≡ o → handle_in k o ≡ 0
      by None e = refl
      by (Some y) e = absurd (none-there y e)

  -- The lane alone has a handle of it.
  pub made-turns : l < 32 → r.handles ≡ set (replicate 32 false) l true → Turns l a t b (opens_family n t) []
  made-turns near own =
      let mine : handle b.families l n ≡ 1 = ap (handle_in l) family-here
      ∙ ap (λ z. at 0 (map bit z) l) own ∙ bit-here (replicate 32 false) l near in
      let first : 0 < n = omega (arith, get_within a.families 0 c.own.lawful.default.it c.own.lawful.default.at) in
      turns-files_stand l a b t c (opens_family n t) [] (ap (λ (z : Books). z.files) h.is) refl refl refl refl refl
      refl (ap (λ (z : Books). z.journal) h.is ∙ append_none a.journal) (no_writes l)
      (record {
        own = λ g. dite (ℕ_discrete g n)
            (λ q. omega (
              arith,
              ap (handle b.families l) q,
              ap (handle a.families l) q,
              mine,
              handle_none l,
              ap (λ z. same z n) q,
              same_here n,
            ))
            (λ ne. omega (arith, ap (handle_in l) (family-other g ne), same_other g n ne));
        others = λ k g ne. dite (ℕ_discrete g n)
            (λ q. ap (handle b.families k) q ∙ ap (handle_in k) family-here ∙ ap (λ z. at 0 (map bit z) k) own
            ∙ bit-set (replicate 32 false) l k true ne ∙ bits-none 32 k ∙ sym (handle_none k)
            ∙ sym (ap (handle a.families k) q))
            (λ d. ap (handle_in k) (family-other g d));
        default = omega (arith, same_other 0 n (λ e. omega (arith, e, first)));
      })
      (snapshots-stand a.snapshots b.snapshots t.ended (ap (λ (z : Books). z.snapshots) h.is))

  -- Its first SuperVersion is its current. The books before are sound, so that none was of the family.
  pub made-opens : Sound a → Opens a b n (next_pack a h.place)
  made-opens sound =
      let d : Descriptor = record {
        family = n;
        active = length a.memtables + 1;
        list = length a.lists + 1;
        version = length a.versions + 1;
        base = 0;
        options = r.options;
      } in
      let x = live_super d h.place in
      let top = next_top a (length a.versions + 1) in
      let supers : b.supers ≡ a.supers ++ x ∷ [] = ap (λ (z : Books). z.supers) h.is in
      let tops : b.tops ≡ a.tops ++ top ∷ [] = ap (λ (z : Books). z.tops) h.is in
      let paired : length a.tops ≡ n = c.own.lawful.paired in
      let here : slice_get b.tops n ≡ Some top = ap (λ z. slice_get z n) tops
      ∙ ap (slice_get (a.tops ++ top ∷ [])) (sym paired) ∙ (placed-push a.tops top).here in
      record {
        super = x;
        supers = supers;
        serial = omega (arith, h.room.within);
        place = omega (arith, h.room.within);
        live = refl;
        family = refl;
        current = ap (λ o. pack_of_serial b.supers (current_serial o)) here
            ∙ ap (pack_at (length a.supers + 1)) (ap (λ z. entry z (length a.supers + 1)) supers
            ∙ entry-new a.supers x (length a.supers + 1) refl);
        others = λ g ne. ap (λ z. slice_get z g) tops ∙ (placed-push a.tops top).others g (λ e. ne (e ∙ paired));
        had = λ y e. absurd (omega (arith, get_within a.tops n y e, paired));
        first = λ z s q. omega (arith, sound.steady.supers_of s q.sv q.is, q.family);
        families = record {
          goes = λ g y e. (y, family-other g (λ q. none-there y (ap (slice_get a.families) (sym q) ∙ e)) ∙ e, refl);
          long = omega (arith, ap length families, length-push a.families r);
        };
        stands = λ y e. ap is_retired (some_is (sym e ∙ family-here))
            ∙ not-retired-open r h.stands;
        fresh = λ g y e none. dite (ℕ_discrete g n) (λ q. q)
            (λ ne. absurd (none_some y (sym none ∙ sym (family-other g ne) ∙ e)));
      }

  pub made-memtable : Sound a → IsNewMemtable a b h.cell
      (record { family = n; first = 0; cell = h.cell; live = true })
  made-memtable sound = record {
    memtables = ap (λ (z : Books). z.memtables) h.is;
    cell = refl;
    live = refl;
    no_rows = ap (λ (z : Books). borne_by (length a.memtables + 1) z.journal) h.is
        ∙ unborne a.journal (length a.memtables + 1)
        (λ i w e. omega (arith, mem-within (length a.memtables) n w (sound.steady.borne i w e)));
  }
