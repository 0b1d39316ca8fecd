-- What the parts of a SuperVersion say of a key, in books that fit what a lane read of them.
use Rattle.std.proofs.Common.{List, Option, [], ap, arith, length, refl, subst, suc, sym, take, ℕ, min, ◌++◌, ◌+◌, ◌-◌, ◌∙◌, ◌∷◌, ◌≡◌, ◌≤◌, map}
use Rattle.std.proofs.lemmas.List.{length-append, length-map}
use Rattle.sv_model.specs.After.{Continues}
use Rattle.sv_model.specs.Books.{Books}
use Rattle.sv_model.specs.Cells.{Cell}
use Rattle.sv_model.specs.Described.{BearsFrom, Describes, FilesStand}
use Rattle.sv_model.specs.Files.{Files}
use Rattle.sv_model.specs.Flat.{range_of}
use Rattle.sv_model.specs.HeldFiles.{HoldsText}
use Rattle.sv_model.specs.Journal.{borne_by, look, row_of, rows_of}
use Rattle.sv_model.specs.Lawful.{Lawful}
use Rattle.sv_model.specs.Lists.{Every}
use Rattle.sv_model.specs.Reads.{Serves}
use Rattle.sv_model.specs.declared.records.FileMeta.{FileMeta}
use Rattle.sv_model.specs.declared.writes.Op.{Op}
use Rattle.sv_model.specs.declared.writes.Row.{Row}
use Rattle.sv_model.specs.declared.writes.Write.{Write}
use Rattle.sv_model.proofs.FlatRanges.{range_front}
use Rattle.sv_reads.specs.Bodies.{HaveRows}
use Rattle.sv_reads.specs.Files.{Serve}
use Rattle.sv_reads.specs.Parts.{FindsAfter, FindsBefore, chosen, rows_in}
use Rattle.sv_reads.proofs.BodyParts.{borne_range, clear_after, frozen_range, parts_look}
use Rattle.sv_rule.specs.Fits.{BodyFits, IsFrozenAt}
use Rattle.sv_rule.specs.Views.{Bodied, FrozenAt}

-- the frozen memtables of a body, with their cells
abbrev pub pairs_of : List FrozenAt → List (ℕ × Cell)
pairs_of [] = []
pairs_of (k ∷ ks) = (k.cell, k.frozen) ∷ pairs_of ks

have_rows : (b : Books) (ks : List FrozenAt) → Every (IsFrozenAt b) ks
    → HaveRows b.journal (map (λ k. k.frozen.id) ks) (pairs_of ks)
have_rows b [] all = tt
have_rows b (k ∷ ks) all = (
  ap (λ (z : Cell). z.rows) (all 0 k refl).frozen_is,
  have_rows b ks (λ i x e. all (suc i) x e),
)

take-front : {A : Type 0} (l m : List A) → take (length l) (l ++ m) ≡ l
take-front [] m = refl
take-front (x ∷ l) m = ap (λ z. x ∷ z) (take-front l m)

module _ (b : Books) (lawful : Lawful b) (x : Bodied) (fits : BodyFits b x) where
  abbrev J : List Write
  J = b.journal

  abbrev f : ℕ
  f = x.body.descriptor.family

  abbrev base : ℕ
  base = x.body.descriptor.base

  abbrev pub d : Describes b.journal b.memtables b.lists b.versions b.files.numbers b.metas fits.super.descriptor
  d = fits.fits

  family_is : f ≡ fits.super.descriptor.family
  family_is = ap (λ z. z.family) fits.descriptor

  base_is : base ≡ fits.super.descriptor.base
  base_is = ap (λ z. z.base) fits.descriptor

  bears : BearsFrom J fits.super.descriptor.active d.active
  bears = lawful.rows fits.super.descriptor.active d.active d.active_at

  -- ---- the active memtable

  module _ (rows : List Row) (mem : ℕ) (mem_is : mem ≡ x.body.descriptor.active)
      (front : Continues rows (rows_of (borne_by mem J))) where
    active_is : mem ≡ fits.super.descriptor.active
    active_is = mem_is ∙ ap (λ z. z.active) fits.descriptor

    abbrev all : List Row
    all = rows_of (borne_by fits.super.descriptor.active J)

    whole : Continues rows all
    whole = subst (λ m. Continues rows (rows_of (borne_by m J))) active_is front

    long : length all ≡ length (borne_by fits.super.descriptor.active J)
    long = length-map (borne_by fits.super.descriptor.active J) row_of

    few : length rows ≤ length (borne_by fits.super.descriptor.active J)
    few = omega (arith, ap (λ l. length l) whole.1, length-append rows whole.0, long)

    pub active-range : range_of J f base (base + length rows) ≡ rows
    active-range =
        let s = fits.super.descriptor in
        let n = length (borne_by s.active J) in
        let own : d.active.family ≡ f = d.active_family ∙ sym family_is in
        let first : d.active.first ≡ base = sym d.base ∙ sym base_is in
        let range : range_of J f base (base + n) ≡ all
        = (λ i. range_of J (sym own i) (sym first i) (sym first i + n)) ∙ borne_range J s.active d.active bears in
        let count : (base + length rows) - base ≡ length rows = omega arith in
        sym (range_front J f base (base + length rows) (base + n) (omega arith) (omega (arith, few)))
        ∙ ap (λ k. take k (range_of J f base (base + n))) count
        ∙ ap (take (length rows)) (range ∙ whole.1)
        ∙ take-front rows whole.0

    pub serves : Serves b f (base + length rows) fits.super
    serves = record {
      family_is = sym family_is;
      begins = omega (arith, base_is);
      ends = omega (arith, base_is, few);
    }

  -- ---- the frozen ones

  pub frozen-parts : (range_of J f d.middle base ≡ rows_in (pairs_of x.body.frozen))
      × (d.middle + length (rows_in (pairs_of x.body.frozen)) ≡ base)
  frozen-parts =
      let rows : HaveRows J d.list.members (pairs_of x.body.frozen)
      = subst (λ l. HaveRows J l (pairs_of x.body.frozen)) (sym fits.members) (have_rows b x.body.frozen fits.frozen) in
      let h = frozen_range J b.memtables fits.super.descriptor.family d.middle d.list.members (pairs_of x.body.frozen)
      fits.super.descriptor.base lawful.rows d.members rows in (
        (λ i. range_of J (family_is i) d.middle (base_is i)) ∙ h.0,
        h.1 ∙ sym base_is,
      )

  -- ---- the files

  pub body-files : FilesStand b.files.numbers b.metas f x.body.files d.middle
  body-files =
      subst (λ (z : ℕ × List FileMeta). FilesStand b.files.numbers b.metas z.0 z.1 d.middle)
      (λ i. (sym family_is i, sym fits.files i)) d.files

  pub files-serve : (all : Files) (cut : ℕ) → base ≤ cut → Every (HoldsText all J f) x.body.files
      → Serve all J f x.body.files d.middle cut
  files-serve all cut le held = record {
    joins = body-files.joins;
    held = held;
    clear = clear_after 0 x.body.files d.middle cut body-files.joins (λ i file e. (body-files.each i file e).some)
        (omega (arith, frozen-parts.1, le));
    above = body-files.above;
  }

  -- ---- all of them

  module _ (rows : List Row) (mem : ℕ) (mem_is : mem ≡ x.body.descriptor.active)
      (front : Continues rows (rows_of (borne_by mem J))) (key : List ℕ) (newest newer : Option Op)
      (old : Option (List ℕ))
      (active : FindsAfter base rows key (base + length rows) newest)
      (older : FindsBefore base (pairs_of x.body.frozen) key (base + length rows) newer)
      (files : look J f (min (base + length rows) d.middle) key ≡ old) where
    pub looks : look J f (base + length rows) key ≡ chosen newest (chosen newer old)
    looks = parts_look J f d.middle base (base + length rows) key (base + length rows) rows (pairs_of x.body.frozen) newest
        newer old (omega arith) (omega arith) (active-range rows mem mem_is front) active frozen-parts.0 frozen-parts.1
        older files
