-- What a read found, in all books that fit what the lane knows then.
use Rattle.std.proofs.Common.{inl, inr, ⊎_elim, ◌⊎◌, List, None, Option, Some, [], ap, arith, length, min, option_map, refl, subst, sym, take, true, ℕ, map, ◌++◌, ◌+◌, ◌-◌, ◌/◌, ◌<◌, ◌∙◌, ◌∷◌, ◌≡◌, ◌≤◌}
use Rattle.std.specs.Prelude.{Err, IsSomeAnd, Ok, Result, false, is_some, option_and_then}
use Rattle.sv_borrows.specs.Grown.{Grows}
use Rattle.sv_borrows.specs.Parts.{frozen_at}
use Rattle.sv_borrows.proofs.Growing.{Base, in-front}
use Rattle.sv_gets.specs.Reading.{FindsIn, MayRead, MetAt, Reads, ReadsFiles, StopsRead, is_told, reads_in}
use Rattle.sv_gets.proofs.Looking.{body-files, d, files-serve, looks, pairs_of, serves}
use Rattle.sv_gets.proofs.Texts.{reads-hold}
use Rattle.std.proofs.lemmas.List.{length-map}
use Rattle.sv_model.specs.Books.{Books, end_of}
use Rattle.sv_model.specs.Cells.{Cell}
use Rattle.sv_model.specs.Files.{Files}
use Rattle.sv_model.specs.Journal.{borne_by, look, newest_op, row_of, rows_of, value_of}
use Rattle.sv_model.specs.Lists.{Every, In, at}
use Rattle.sv_model.specs.Reads.{Serves}
use Rattle.sv_model.specs.Registers.{entry}
use Rattle.sv_model.specs.Supers.{end_at, end_in}
use Rattle.sv_model.specs.declared.refusals.Refusal.{Refusal}
use Rattle.sv_model.specs.declared.refusals.Refusal.TheVariants as refusal
use Rattle.sv_model.specs.declared.writes.Op.{Op}
use Rattle.sv_model.proofs.AfterLaws.{continues-itself}
use Rattle.sv_model.proofs.Entries.{in-right, some}
use Rattle.sv_reads.specs.Files.{FilesAnswer, Looks}
use Rattle.sv_reads.specs.Parts.{FindsAfter, FindsBefore, chosen, rows_in}
use Rattle.sv_reads.proofs.PartLooks.{finds_after}
use Rattle.sv_rule.specs.Fits.{BodyFits, Fits, ReadFits, RowsFit}
use Rattle.sv_rule.specs.Views.{Bodied, LaneView}

-- the frozen memtables of a body with their cells
pub pairs-frozen : (l : List (ℕ × Cell)) → pairs_of (map frozen_at l) ≡ l
pairs-frozen [] = refl
pairs-frozen (x ∷ l) = ap (λ z. x ∷ z) (pairs-frozen l)

-- what is found, whatever it is
any-before : (base : ℕ) (frozen : List (ℕ × Cell)) (key : List ℕ) (cut : ℕ)
    → FindsBefore base frozen key cut (newest_op key (take (cut - (base - length (rows_in frozen))) (rows_in frozen)))
any-before base frozen key cut few = finds_after (base - length (rows_in frozen)) (rows_in frozen) key cut
    (newest_op key (take (cut - (base - length (rows_in frozen))) (rows_in frozen))) refl

none_op : (o : Option Op) → None ≡ option_map value_of o → o ≡ None
none_op None e = refl
none_op (Some op) e = absurd (cc)

some_op : (o : Option Op) (v : Option (List ℕ)) → Some v ≡ option_map value_of o → (op : Op) × (o ≡ Some op) × (v ≡ value_of op)
some_op None v e = absurd (cc)
some_op (Some op) v e = (op, refl, some e)

module _ (f : ℕ) (x : Bodied) (v : LaneView) (may : MayRead f x v) (key : List ℕ) (found : Option (Option (List ℕ)))
    (cut : ℕ) (w : LaneView) (reads : Reads 1 v w) (m : MetAt f x key found cut v w) where
  -- ---- in books that fit what the lane knows at last

  module _ (u : LaneView) (bodies : u.known.bodies ≡ v.known.bodies) (grows : Grows w.known u.known) (b : Books)
      (fits : Fits b u.known) where
    body : BodyFits b x
    body = let has = subst (In x) (sym bodies) may.has in fits.bodies has.at x has.is

    row : RowsFit b m.read
    row = let has = in-front m.read w.known.rows u.known.rows grows.rows m.has in fits.rows has.at m.read has.is

    serial_is : x.pack / 256 ≡ body.serial
    serial_is = omega (arith, body.pack_is, body.within)

    seen-serves : IsSomeAnd (entry b.supers (x.pack / 256)) (Serves b f cut)
    seen-serves =
        let s = serves b fits.lawful x body m.read.rows m.read.mem m.mem row.front in
        subst (λ (o : Option _). IsSomeAnd o (Serves b f cut)) (sym (ap (entry b.supers) serial_is ∙ body.at))
        (subst (λ (z : ℕ × ℕ). Serves b z.0 z.1 body.super) (λ i. (may.shown.family i, sym m.cut_is i)) s)

    seen-reaches : (at 0 v.known.seen f ≤ cut) ⊎ (end_at b x.pack ≤ cut)
    seen-reaches = ⊎_elim (λ le. inl le) (λ whole. inr (ends (row.whole whole).0)) m.reaches
      where
        ends : rows_of (borne_by m.read.mem b.journal) ≡ m.read.rows → end_at b x.pack ≤ cut
        ends e =
            let t = body in
            let mem : m.read.mem ≡ t.super.descriptor.active = m.mem ∙ ap (λ z. z.active) t.descriptor in
            let count : length (borne_by t.super.descriptor.active b.journal) ≡ length m.read.rows
            = sym (length-map (borne_by t.super.descriptor.active b.journal) row_of)
            ∙ ap (λ n. length (rows_of (borne_by n b.journal))) (sym mem) ∙ ap length e in
            let end : end_at b x.pack ≡ end_of b.journal t.super = ap (λ n. end_in b.journal (entry b.supers n)) serial_is
            ∙ ap (end_in b.journal) t.at in
            omega (arith, end, count, m.cut_is, ap (λ z. z.base) t.descriptor)

    module _ (newer : Option Op) (old : Option (List ℕ))
        (older : FindsBefore x.body.descriptor.base (pairs_of x.body.frozen) key cut newer)
        (files : look b.journal f (min cut (d b fits.lawful x body).middle) key ≡ old) where
      found-looks : look b.journal f cut key ≡ chosen m.op (chosen newer old)
      found-looks =
          let base = x.body.descriptor.base in
          let own = may.shown.family in
          ap (λ n. look b.journal f n key) m.cut_is
          ∙ subst (λ g. look b.journal g (base + length m.read.rows) key ≡ chosen m.op (chosen newer old)) own
          (looks b fits.lawful x body m.read.rows m.read.mem m.mem row.front key m.op newer old
          (subst (λ n. FindsAfter base m.read.rows key n m.op) m.cut_is m.newest)
          (subst (λ n. FindsBefore base (pairs_of x.body.frozen) key n newer) m.cut_is older)
          (subst (λ (z : ℕ × ℕ). look b.journal z.0 (min z.1 (d b fits.lawful x body).middle) key ≡ old)
          (λ i. (sym own i, m.cut_is i)) files))

  -- ---- in the active memtable

  same-grows : Grows w.known w.known
  same-grows = record {
    base = refl;
    found = continues-itself w.known.found;
    left = continues-itself w.known.left;
    bodies = continues-itself w.known.bodies;
    rows = continues-itself w.known.rows;
    reads = continues-itself w.known.reads;
    seen = λ g. omega arith;
  }

  pub finds-active : (value : Option (List ℕ)) → found ≡ Some value → FindsIn f x key value cut v w
  finds-active value is = record {
    finds = λ b fits. record {
      serves = seen-serves w reads.bodies same-grows b fits;
      found_is = λ told.
          let o = some_op m.op value (sym is ∙ m.found_is) in
          let base = x.body.descriptor.base in
          let frozen = pairs_of x.body.frozen in
          let newer = newest_op key (take (cut - (base - length (rows_in frozen))) (rows_in frozen)) in
          let old = look b.journal f (min cut (d b fits.lawful x (body w reads.bodies same-grows b fits)).middle) key in
          found-looks w reads.bodies same-grows b fits newer old (any-before base frozen key cut) refl
          ∙ ap (λ z. chosen z (chosen newer old)) o.1 ∙ sym o.2;
    };
    floor = m.floor;
    reaches = λ b fits. seen-reaches w reads.bodies same-grows b fits;
    seen = m.seen;
  }

  module _ (none : found ≡ None) where
    op_none : m.op ≡ None
    op_none = none_op m.op (sym none ∙ m.found_is)

    -- ---- in the frozen ones

    pub finds-frozen : (op : Op) → FindsBefore x.body.descriptor.base (pairs_of x.body.frozen) key cut (Some op)
        → FindsIn f x key (value_of op) cut v w
    finds-frozen op older = record {
      finds = λ b fits. record {
        serves = seen-serves w reads.bodies same-grows b fits;
        found_is = λ told.
            let old = look b.journal f (min cut (d b fits.lawful x (body w reads.bodies same-grows b fits)).middle) key in
            found-looks w reads.bodies same-grows b fits (Some op) old older refl
            ∙ ap (λ z. chosen z (value_of op)) op_none;
      };
      floor = m.floor;
      reaches = λ b fits. seen-reaches w reads.bodies same-grows b fits;
      seen = m.seen;
    }

    -- ---- in the files

    module _ (older : FindsBefore x.body.descriptor.base (pairs_of x.body.frozen) key cut None)
        (result : Result (Option Op) Refusal) (u : LaneView) (more : Reads 0 w u)
        (r : ReadsFiles x key cut result w u) where
      bodies_u : u.known.bodies ≡ v.known.bodies
      bodies_u = more.bodies ∙ reads.bodies

      told_is : is_told u ≡ is_some r.told
      told_is = ap (λ (z : Base). is_some z.1.disk.files) more.grows.base ∙ sym r.as_first

      -- where the directory tells its files, they serve
      files-look : (b : Books) → (fits : Fits b u.known) → is_told u ≡ true
          → Looks b.journal f (min cut (d b fits.lawful x (body u bodies_u more.grows b fits)).middle) key result
      files-look b fits told = by r.told refl
        where
          t : BodyFits b x
          t = body u bodies_u more.grows b fits

          base_le : x.body.descriptor.base ≤ cut
          base_le = omega (arith, m.cut_is)

          by : (o : Option Files) → r.told ≡ o → Looks b.journal f (min cut (d b fits.lawful x t).middle) key result
          by None e = absurd (let z : false ≡ true = sym (ap is_some e) ∙ sym told_is ∙ told in cc)
          by (Some all) e =
              let all_fit : Every (ReadFits b) (w.known.reads ++ reads_in r.told x.body.files)
              = subst (Every (ReadFits b)) r.reads (fits.reads told) in
              let own : Every (ReadFits b) (reads_in (Some all) x.body.files)
              = subst (λ o. Every (ReadFits b) (reads_in o x.body.files)) e
              (λ i z at. let has = in-right z w.known.reads (reads_in r.told x.body.files) (record { at = i; is = at }) in all_fit has.at z has.is) in
              let held = reads-hold b fits.lawful all x.body.descriptor.family x.body.files
              (λ i file at. (body-files b fits.lawful x t).each i file at) own in
              subst (λ g. Looks b.journal g (min cut (d b fits.lawful x t).middle) key result) may.shown.family
              (r.looks all b.journal x.body.descriptor.family (d b fits.lawful x t).middle e
              (files-serve b fits.lawful x t all cut base_le held))

      pub finds-files : (op : Option Op) → result ≡ Ok op → FindsIn f x key (option_and_then value_of op) cut v u
      finds-files op ok = record {
        finds = λ b fits. record {
          serves = seen-serves u bodies_u more.grows b fits;
          found_is = λ told. found-looks u bodies_u more.grows b fits None (option_and_then value_of op) older
              (subst (λ z. Looks b.journal f (min cut (d b fits.lawful x (body u bodies_u more.grows b fits)).middle) key z) ok
              (files-look b fits told))
              ∙ ap (λ z. chosen z (option_and_then value_of op)) op_none;
        };
        floor = m.floor;
        reaches = λ b fits. seen-reaches u bodies_u more.grows b fits;
        seen = omega (arith, m.seen, more.grows.seen f);
      }

      pub stops-at : (e : Refusal) → result ≡ Err e
          → ((n : ℕ) → result ≡ Err (refusal.DirFault n) → w.counts.faults < u.counts.faults) → StopsRead v u e
      stops-at e err failed = by e err (subst (λ z. FilesAnswer r.told x.body.files key cut z) err r.answer)
        where
          by : (e : Refusal) → result ≡ Err e → FilesAnswer r.told x.body.files key cut (Err e) → StopsRead v u e
          by refusal.OutOfMemory err a = tt
          by (refusal.DirFault n) err a = omega (arith, failed n err, reads.faults)
          by (refusal.BadFile n place) err a = λ told b fits.
              subst (λ z. Looks b.journal f (min cut (d b fits.lawful x (body u bodies_u more.grows b fits)).middle) key z) err
              (files-look b fits told)
          by e err a = absurd a
