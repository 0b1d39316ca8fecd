-- What the parts of a SuperVersion have, by the books: so that what is found in them, part by part, is what the family's
-- writes up to the cut leave.
use Rattle.std.proofs.Common.{◌≡◌, ◌≤◌, ◌<◌, ◌+◌, ◌-◌, ℕ, zero, suc, min, true, List, [], ◌∷◌, ◌++◌, length, length-append, take, drop, slice_get, Option, Some, inl, inr, refl, sym, ap, ◌∙◌, arith}
use Rattle.std.specs.Option.{option_or}
use Rattle.std.proofs.lemmas.List.{length-map}
use Rattle.sv_model.specs.declared.records.FileMeta.{FileMeta}
use Rattle.sv_model.specs.declared.records.Memtable.{Memtable}
use Rattle.sv_model.specs.declared.records.Version.{Version}
use Rattle.sv_model.specs.declared.writes.Op.{Op}
use Rattle.sv_model.specs.declared.writes.Row.{Row}
use Rattle.sv_model.specs.declared.writes.Write.{Write}
use Rattle.sv_model.specs.Books.{Books}
use Rattle.sv_model.specs.Cells.{Cell}
use Rattle.sv_model.specs.Described.{BearsFrom, FilesStand, IsRange, MembersJoin}
use Rattle.sv_model.specs.Files.{Files}
use Rattle.sv_model.specs.Flat.{range_of}
use Rattle.sv_model.specs.HeldFiles.{LiveAreHeld}
use Rattle.sv_model.specs.Journal.{borne_by, look, newest_op, of_family, row_of, rows_of}
use Rattle.sv_model.specs.Lawful.{Lawful}
use Rattle.sv_model.specs.Lists.{Every, In}
use Rattle.sv_model.specs.Named.{numbers_of}
use Rattle.sv_model.specs.Ranges.{FilesJoin}
use Rattle.sv_model.specs.Registers.{entry, EachEntry}
use Rattle.sv_model.specs.Snapshots.{IsClear}
use Rattle.sv_model.proofs.FlatRanges.{range_none, newest_op_append}
use Rattle.sv_model.proofs.Ranges.{ranges_join}
use Rattle.sv_reads.specs.Bodies.{HaveRows}
use Rattle.sv_reads.specs.Files.{Serve}
use Rattle.sv_reads.specs.Parts.{FindsAfter, FindsBefore, chosen, rows_in}
use Rattle.sv_reads.proofs.PartLooks.{part_upto}

-- ---- memtables

abbrev no_writes : List Write
no_writes = []

take_none : (n : ℕ) → take n no_writes ≡ no_writes
take_none zero = refl
take_none (suc n) = refl

front_of : (a n m : ℕ) (ws : List Write) → m ≡ a + n → drop a (take m ws) ≡ take n (drop a ws)
front_of zero n m ws e = let same : m ≡ n = omega (arith, e) in ap (λ (k : ℕ). take k ws) same
front_of (suc a) n zero ws e = absurd (omega (arith, e))
front_of (suc a) n (suc m) [] e = sym (take_none n)
front_of (suc a) n (suc m) (w ∷ ws) e = front_of a n m ws (omega (arith, e))

-- the writes that a memtable bears are those after its first
pub borne_range : (journal : List Write) (m : ℕ) (it : Memtable) → BearsFrom journal m it
    → range_of journal it.family it.first (it.first + length (borne_by m journal)) ≡ rows_of (borne_by m journal)
borne_range journal m it bears =
    let count = length (borne_by m journal) in
    ap rows_of (front_of it.first count (it.first + count) (of_family it.family journal) refl ∙ sym bears.rows)

member_range : (journal : List Write) (memtables : List Memtable) (family from m : ℕ)
    → EachEntry (BearsFrom journal) memtables → IsRange journal memtables family from m
    → range_of journal family from (from + length (borne_by m journal)) ≡ rows_of (borne_by m journal)
member_range journal memtables family from m bears range =
    let count = length (borne_by m journal) in
    let first = range.first_is in
    let own = range.family_is in
    (λ i. range_of journal (sym own i) (sym first i) (sym first i + count))
    ∙ borne_range journal m range.it (bears m range.it range.at)

-- the rows of the frozen memtables of a list are those of the writes that its members cover
pub frozen_range : (journal : List Write) (memtables : List Memtable) (family from : ℕ) (members : List ℕ)
    (xs : List (ℕ × Cell)) (to : ℕ) → EachEntry (BearsFrom journal) memtables
    → MembersJoin journal memtables family from members to → HaveRows journal members xs
    → (range_of journal family from to ≡ rows_in xs) × (from + length (rows_in xs) ≡ to)
frozen_range journal memtables family from [] [] to bears joins rows =
    (ap (range_of journal family from) (sym joins) ∙ range_none journal family from, omega (arith, joins))
frozen_range journal memtables family from [] (x ∷ xs) to bears joins rows = absurd rows
frozen_range journal memtables family from (m ∷ ms) [] to bears joins rows = absurd rows
frozen_range journal memtables family from (m ∷ ms) (x ∷ xs) to bears joins rows =
    let mid = from + length (borne_by m journal) in
    let rest = frozen_range journal memtables family mid ms xs to bears joins.1 rows.1 in
    let here = member_range journal memtables family from m bears joins.0 in
    let count : length x.1.rows ≡ length (borne_by m journal) =
    ap length rows.0 ∙ length-map (borne_by m journal) row_of in
    let ends = rest.1 in (
      sym (ranges_join journal family from mid to (omega arith) (omega (arith, ends)))
          ∙ (λ i. here i ++ rest.0 i)
          ∙ ap (λ (l : List Row). l ++ rows_in xs) (sym rows.0),
      omega (arith, length-append x.1.rows (rows_in xs), count, ends),
    )

-- ---- files

number_at : (files : List FileMeta) (i : ℕ) (file : FileMeta) → slice_get files i ≡ Some file
    → slice_get (numbers_of files) i ≡ Some file.number
number_at [] i file e = absurd (cc e)
number_at (g ∷ files) zero file e = let same : g ≡ file = cc e in ap (λ (f : FileMeta). Some f.number) same
number_at (g ∷ files) (suc i) file e = number_at files i file e

-- Where a directory holds what the books say, the files of a Live Version serve a read at a cut of which they are clear.
pub version_serves : (b : Books) (all : Files) (family v : ℕ) (version : Version) (reach cut : ℕ) → Lawful b
    → LiveAreHeld b all → entry b.versions v ≡ Some version → version.live ≡ true
    → FilesStand b.files.numbers b.metas family version.files reach → Every (IsClear cut) version.files
    → Serve all b.journal family version.files reach cut
version_serves b all family v version reach cut lawful held at live stand clear = record {
  joins = stand.joins;
  held = λ i file e.
      let is = stand.each i file e in
      let has : In file.number (numbers_of version.files) = record { at = i; is = number_at version.files i file e } in
      held file.number ((lawful.files file.number).1 (v, version, at, record { live = live; has = has })) family file
      is.captured is.covers refl;
  clear = clear;
  above = stand.above;
}

-- files that end at the cut or before it are clear of it
pub clear_after : (from : ℕ) (files : List FileMeta) (to cut : ℕ) → FilesJoin from files to
    → Every (λ file. file.from < file.to) files → to ≤ cut → Every (IsClear cut) files
clear_after from files to cut joins some le i file e = inr
    (inl (omega (arith, ends from files to i file joins some e)))
  where
    up : (from : ℕ) (files : List FileMeta) (to : ℕ) → FilesJoin from files to → Every (λ f. f.from < f.to) files
        → from ≤ to
    up from [] to joins some = omega (arith, joins)
    up from (g ∷ files) to joins some =
        let rest = up g.to files to joins.1 (λ i x e. some (suc i) x e) in
        let here = some 0 g refl in
        omega (arith, joins.0, rest, here)

    ends : (from : ℕ) (files : List FileMeta) (to i : ℕ) (file : FileMeta) → FilesJoin from files to
        → Every (λ f. f.from < f.to) files → slice_get files i ≡ Some file → file.to ≤ to
    ends from [] to i file joins some e = absurd (cc e)
    ends from (g ∷ files) to zero file joins some e =
        let same : g ≡ file = cc e in
        let rest = up g.to files to joins.1 (λ i x e. some (suc i) x e) in
        omega (arith, ap (λ (f : FileMeta). f.to) same, rest)
    ends from (g ∷ files) to (suc i) file joins some e = ends g.to files to i file joins.1 (λ i x e. some (suc i) x e)
        e

-- ---- a read of all parts

-- What is found in the active memtable, in the frozen ones and in the files is what the writes up to the cut leave.
module _ (journal : List Write) (family reach base end : ℕ) (key : List ℕ) (cut : ℕ) (rows : List Row)
    (frozen : List (ℕ × Cell)) (newest : Option Op) (newer : Option Op) (old : Option (List ℕ)) where
  pub parts_look : cut ≤ end → base ≤ end → range_of journal family base end ≡ rows
      → FindsAfter base rows key cut newest
      → range_of journal family reach base ≡ rows_in frozen → reach + length (rows_in frozen) ≡ base
      → FindsBefore base frozen key cut newer
      → look journal family (min cut reach) key ≡ old → look journal family cut key ≡ chosen newest (chosen newer old)
  parts_look within le active_is active frozen_are sum waiting files =
      let before = waiting (omega (arith, sum)) in
      let first : base - length (rows_in frozen) ≡ reach = omega (arith, sum) in
      let whole : cut ≡ min cut end = omega (arith, within) in
      let from_first = before.looks journal family base (omega arith)
      (ap (λ (n : ℕ). range_of journal family n base) first ∙ frozen_are) in
      ap (λ (n : ℕ). look journal family n key) whole
      ∙ active.looks journal family end le active_is
      ∙ ap (chosen newest)
      (from_first ∙ ap (λ (n : ℕ). chosen newer (look journal family (min cut n) key)) first ∙ ap (chosen newer) files)

-- no write comes after the one place and up to one before it
past : (from to : ℕ) (ws : List Write) → to ≤ from → drop from (take to ws) ≡ no_writes
past from zero ws le = drop_none from
  where
    drop_none : (n : ℕ) → drop n no_writes ≡ no_writes
    drop_none zero = refl
    drop_none (suc n) = refl
past zero (suc to) ws le = absurd (omega arith)
past (suc from) (suc to) [] le = refl
past (suc from) (suc to) (w ∷ ws) le = past from to ws (omega arith)

pub range_past : (journal : List Write) (family from to : ℕ) → to ≤ from → range_of journal family from to ≡ []
range_past journal family from to le = ap rows_of (past from to (of_family family journal) le)

-- What is found in the active memtable, or else in the frozen ones, is the newest of the writes after those that the
-- files cover, up to the cut: so a value that is found there needs no file.
pub parts_unread : (journal : List Write) (family reach base end : ℕ) (key : List ℕ) (cut : ℕ) (rows : List Row)
    (frozen : List (ℕ × Cell)) (newest newer : Option Op) → reach ≤ cut → cut ≤ end → base ≤ end
    → range_of journal family base end ≡ rows → FindsAfter base rows key cut newest
    → range_of journal family reach base ≡ rows_in frozen → reach + length (rows_in frozen) ≡ base
    → FindsBefore base frozen key cut newer
    → newest_op key (range_of journal family reach cut) ≡ option_or newest newer
parts_unread journal family reach base end key cut rows frozen newest newer above within le active_is active frozen_are sum waiting =
    let before = waiting (omega (arith, sum)) in
    let first : base - length (rows_in frozen) ≡ reach = omega (arith, sum) in
    let low : min cut reach ≡ reach = omega (arith, above) in
    let high : min cut end ≡ cut = omega (arith, within) in
    let mid = min cut base in
    let some : reach ≤ base = omega (arith, sum) in
    let here : newest_op key (range_of journal family mid cut) ≡ newest =
    sym (active.newest
    ∙ ap (λ (l : List Row). newest_op key (take (cut - base) l)) (sym active_is)
    ∙ ap (newest_op key) (part_upto journal family base cut end le)
    ∙ ap (λ (n : ℕ). newest_op key (range_of journal family mid n)) high) in
    let there : newest_op key (range_of journal family reach mid) ≡ newer =
    sym (before.newest
    ∙ (λ i. newest_op key (take (cut - first i) (sym frozen_are i)))
    ∙ ap (newest_op key) (part_upto journal family reach cut base some)
    ∙ ap (λ (n : ℕ). newest_op key (range_of journal family n mid)) low) in
    ap (newest_op key) (sym (ranges_join journal family reach mid cut (omega (arith, sum, above)) (omega arith)))
    ∙ newest_op_append key (range_of journal family reach mid) (range_of journal family mid cut)
    ∙ (λ i. option_or (here i) (there i))
