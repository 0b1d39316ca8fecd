-- The tables of files that are due can be merged, and the merge has a text.
use Rattle.std.proofs.Common.{◌-◌, ◌≡◌, ◌<◌, ◌≤◌, ◌^◌, ℕ, suc, Bool, true, false, List, [], ◌∷◌, drop, length, Option, Some, slice_get, refl, sym, ap, subst, ◌∙◌, arith}
use Rattle.sv_model.specs.declared.writes.Write.{Write}
use Rattle.sv_model.specs.declared.cuts.Bottom.{Bottom}
use Rattle.sv_model.specs.declared.records.FileMeta.{FileMeta}
use Rattle.sv_model.specs.declared.tables.Table.{Table}
use Rattle.sv_model.specs.Files.{Files}
use Rattle.sv_model.specs.Flat.{IsFlat}
use Rattle.sv_model.specs.Lists.{Every}
use Rattle.sv_model.specs.Ranges.{FilesJoin}
use Rattle.sv_model.specs.Snapshots.{IsClear}
use Rattle.sv_model.specs.TableText.{HasText, IsWellFormed, table_text}
use Rattle.sv_merge.specs.Merging.{AreFlats, AreWellFormed, EachClear, IsMergeOf, Joined, NoneLast}
use Rattle.sv_outputs.specs.Merging.{AreMergeable, IsMergeDue, IsMergeText}
use Rattle.sv_outputs.specs.Reading.{AreRead, IsRead}

-- ---- the tables are as their files

pub read_count : (told : Option Files) (files : List FileMeta) (tables : List Table) → AreRead told files tables → length tables ≡ length files
read_count told [] [] h = refl
read_count told [] (t ∷ tables) h = absurd h
read_count told (f ∷ files) [] h = absurd h
read_count told (f ∷ files) (t ∷ tables) h = ap suc (read_count told files tables h.1)

tables_join : (told : Option Files) (from : ℕ) (files : List FileMeta) (tables : List Table) (to : ℕ) → AreRead told files tables → FilesJoin from files to → Joined from tables to
tables_join told from [] [] to h joins = joins
tables_join told from [] (t ∷ tables) to h joins = absurd h
tables_join told from (f ∷ files) [] to h joins = absurd h
tables_join told from (f ∷ files) (t ∷ tables) to h joins =
    (h.0.over.from_is ∙ joins.0, subst (λ (n : ℕ). Joined n tables to) (sym h.0.over.to_is) (tables_join told f.to files tables to h.1 joins.1))

none_last : (told : Option Files) (files : List FileMeta) (tables : List Table) → AreRead told files tables → Every (λ f. f.bottom.last ≡ false) files → NoneLast tables
none_last told [] [] h each = tt
none_last told [] (t ∷ tables) h each = absurd h
none_last told (f ∷ files) [] h each = absurd h
none_last told (f ∷ files) (t ∷ tables) h each =
    (ap (λ (b : Bottom). b.last) h.0.over.bottom_is ∙ each 0 f refl, none_last told files tables h.1 (λ i x e. each (suc i) x e))

above_first : (told : Option Files) (files : List FileMeta) (tables : List Table) → AreRead told files tables
    → ((i : ℕ) (f : FileMeta) → slice_get files i ≡ Some f → 0 < i → f.bottom.last ≡ false) → NoneLast (drop 1 tables)
above_first told [] [] h each = tt
above_first told [] (t ∷ tables) h each = absurd h
above_first told (f ∷ files) [] h each = absurd h
above_first told (f ∷ files) (t ∷ tables) h each =
    none_last told files tables h.1 (λ i x e. each (suc i) x e (let p : 0 < suc i = omega arith in p))

-- the file with the range of its table
abbrev ranged : FileMeta → Table → FileMeta
ranged f t = record { number = f.number; from = t.from; to = t.to; bottom = t.bottom }

ranged_is : (told : Option Files) (f : FileMeta) (t : Table) → IsRead told f t → f ≡ ranged f t
ranged_is told f t r = λ i. record { number = f.number; from = (sym r.over.from_is) i; to = (sym r.over.to_is) i; bottom = (sym r.over.bottom_is) i }

each_clear : (told : Option Files) (cuts : List ℕ) (files : List FileMeta) (tables : List Table) → AreRead told files tables
    → Every (λ f. Every (λ cut. IsClear cut f) cuts) files → EachClear cuts tables
each_clear told cuts [] [] h each = tt
each_clear told cuts [] (t ∷ tables) h each = absurd h
each_clear told cuts (f ∷ files) [] h each = absurd h
each_clear told cuts (f ∷ files) (t ∷ tables) h each =
    (subst (λ (g : FileMeta). Every (λ cut. IsClear cut g) cuts) (ranged_is told f t h.0) (each 0 f refl), each_clear told cuts files tables h.1 (λ i x e. each (suc i) x e))

all_well : (told : Option Files) (files : List FileMeta) (tables : List Table) → AreRead told files tables → AreWellFormed tables
all_well told [] [] h = tt
all_well told [] (t ∷ tables) h = absurd h
all_well told (f ∷ files) [] h = absurd h
all_well told (f ∷ files) (t ∷ tables) h = (h.0.over.text.has.well_formed, all_well told files tables h.1)

pub mergeable : (told : Option Files) (files : List FileMeta) (tables : List Table) (file : FileMeta) → AreRead told files tables → IsMergeDue files file → AreMergeable tables file
mergeable told files tables file h due =
    let count = read_count told files tables h in
    record {
      some = let k = due.some in omega arith;
      joined = tables_join told file.from files tables file.to h due.joins;
      above = above_first told files tables h due.above;
      kind = due.kind;
      cuts = due.cuts;
      clear = each_clear told file.bottom.cuts files tables h due.clear;
      well = all_well told files tables h;
      few = due.few;
    }

-- ---- what was merged

joined_end : (from : ℕ) (tables : List Table) (a b : ℕ) → Joined from tables a → Joined from tables b → a ≡ b
joined_end from [] a b h k = sym h ∙ k
joined_end from (t ∷ tables) a b h k = joined_end t.to tables a b h.1 k.1

pub joined_ends : (from to other : ℕ) (last : ℕ) (tables : List Table) → 1 ≤ length tables → Joined from tables to → Joined other tables last → (from ≡ other) × (to ≡ last)
joined_ends from to other last [] some h k = absurd (omega arith)
joined_ends from to other last (t ∷ tables) some h k = (sym h.0 ∙ k.0, joined_end t.to tables to last h.1 k.1)

-- The table is the merge of the tables, over the file's range.
pub record IsMerge (tables : List Table) (file : FileMeta) (t : Table) : Type 0 where
  pub due : AreMergeable tables file
  pub range : Joined t.from tables t.to
  pub bottom_is : t.bottom ≡ file.bottom
  pub merge : IsMergeOf tables t.to file.bottom t.rows
  pub flat : (journal : List Write) (family : ℕ) → AreFlats journal family tables → (file.bottom.last ≡ false → NoneLast tables) → IsFlat journal family t.from t.to file.bottom t.rows
  pub well : AreWellFormed tables → t.to - t.from < 2 ^ 32 → IsWellFormed t.from t.to file.bottom t.rows

pub never : (b : Bool) → b ≡ true → b ≡ false → ⊥
never true e f = cc
never false e f = cc

module _ (tables : List Table) (file : FileMeta) (t : Table) (h : IsMerge tables file t) where
  ends : (t.from ≡ file.from) × (t.to ≡ file.to)
  ends = joined_ends t.from t.to file.from file.to tables h.due.some h.range h.due.joined

  pub merged_well : IsWellFormed t.from t.to t.bottom t.rows
  merged_well =
      let to_is = ends.1 in
      let few : t.to - t.from < 2 ^ 32 = let k = h.due.few in omega arith in
      subst (λ (b : Bottom). IsWellFormed t.from t.to b t.rows) (sym h.bottom_is) (h.well h.due.well few)

  abbrev over : Table
  over = record { from = file.from; to = file.to; bottom = file.bottom; rows = t.rows }

  same : t ≡ over
  same = λ i. record { from = ends.0 i; to = ends.1 i; bottom = h.bottom_is i; rows = t.rows }

  pub merged_text : (bytes : List ℕ) → bytes ≡ table_text t.from t.to t.bottom t.rows → HasText t.from t.to t.bottom t.rows → IsMergeText tables file bytes
  merged_text bytes is table = record {
    rows = t.rows;
    merge = subst (λ (n : ℕ). IsMergeOf tables n file.bottom t.rows) ends.1 h.merge;
    flat = λ journal family flats.
        subst (λ (n : ℕ). IsFlat journal family file.from n file.bottom t.rows) ends.1
        (subst (λ (n : ℕ). IsFlat journal family n t.to file.bottom t.rows) ends.0 (h.flat journal family flats (λ e. absurd (never file.bottom.last h.due.kind e))));
    table = subst (λ (u : Table). HasText u.from u.to u.bottom u.rows) same table;
    is = is ∙ ap (λ (u : Table). table_text u.from u.to u.bottom u.rows) same;
  }
