-- The file that is planned over what a SuperVersion names is due.
use Rattle.std.proofs.Common.{◌+◌, ◌-◌, ◌≡◌, ◌<◌, ◌≤◌, ℕ, List, [], ◌∷◌, length, sym, ap, subst, ◌∙◌, arith}
use Rattle.sv_model.specs.declared.records.Descriptor.{Descriptor}
use Rattle.sv_model.specs.declared.records.FileMeta.{FileMeta}
use Rattle.sv_model.specs.declared.records.Memtable.{Memtable}
use Rattle.sv_model.specs.declared.writes.Write.{Write}
use Rattle.sv_model.specs.Books.{Books}
use Rattle.sv_model.specs.Described.{BearsFrom, MembersJoin}
use Rattle.sv_model.specs.Journal.{borne_by, of_family}
use Rattle.sv_model.specs.Lawful.{Lawful}
use Rattle.sv_model.specs.Ranges.{FilesJoin, reach_from}
use Rattle.sv_model.specs.Registers.{EachEntry}
use Rattle.sv_outputs.specs.Flushing.{AreWritesOf, IsFlushDue}
use Rattle.sv_outputs.specs.Merging.{IsMergeDue}
use Rattle.sv_outputs.specs.Planned.{PlansFlush, PlansMerge, rows_borne}
use Rattle.sv_outputs.proofs.MembersRows.{family_le, members_le, members_rows, range_count}

join_reach : (files : List FileMeta) (from to : ℕ) → FilesJoin from files to → reach_from from files ≡ to
join_reach [] from to h = h
join_reach (f ∷ files) from to h = join_reach files f.to to h.1

some_rows : (journal : List Write) (memtables : List Memtable) (family from : ℕ) (members : List ℕ) (to : ℕ) → EachEntry (BearsFrom journal) memtables
    → 0 < length members → MembersJoin journal memtables family from members to → from < to
some_rows journal memtables family from [] to each some h = absurd (omega arith)
some_rows journal memtables family from (m ∷ members) to each some h =
    let le = members_le journal memtables family each (from + length (borne_by m journal)) members to h.1 in
    let one = h.0.some in
    omega arith

-- ---- a flush

module _ (b : Books) (d : Descriptor) (file : FileMeta) (law : Lawful b) (h : PlansFlush b d file) where
  abbrev named : List ℕ
  named = h.describes.list.members

  joins : MembersJoin b.journal b.memtables d.family file.from named file.to
  joins =
      let t = h.describes in
      let begins : file.from ≡ t.middle = h.from_is ∙ join_reach t.version.files 0 t.middle t.files.joins in
      subst (λ (n : ℕ). MembersJoin b.journal b.memtables d.family file.from named n) (sym h.to_is)
      (subst (λ (n : ℕ). MembersJoin b.journal b.memtables d.family n named d.base) (sym begins) t.members)

  pub flush_own : AreWritesOf b.journal d.family file (rows_borne b.journal named)
  flush_own = record {
    within = subst (λ (n : ℕ). n ≤ length (of_family d.family b.journal)) (sym h.to_is) h.describes.within;
    are = members_rows b.journal b.memtables d.family law.rows file.from named file.to joins;
  }

  pub flush_due : IsFlushDue (rows_borne b.journal named) file
  flush_due =
      let own = flush_own in
      let within = own.within in
      let less : file.from < file.to = some_rows b.journal b.memtables d.family file.from named file.to law.rows h.some joins in
      let count : length (rows_borne b.journal named) ≡ file.to - file.from = ap length own.are ∙ range_count b.journal d.family file.from file.to within in
      let few = family_le d.family b.journal in
      let writes = law.limits.writes in
      record {
        some = less;
        count = omega arith;
        kind = h.kind;
        cuts = h.cuts;
        few = omega arith;
      }

-- ---- a compaction

pub merge_due : (b : Books) (d : Descriptor) (file : FileMeta) → Lawful b → (h : PlansMerge b d file) → IsMergeDue h.describes.version.files file
merge_due b d file law h =
    let t = h.describes in
    let files = t.version.files in
    let ends : file.to ≡ t.middle = h.to_is ∙ join_reach files 0 t.middle t.files.joins in
    let joins : FilesJoin file.from files file.to =
    subst (λ (n : ℕ). FilesJoin file.from files n) (sym ends) (subst (λ (n : ℕ). FilesJoin n files t.middle) (sym h.from_is) t.files.joins) in
    let le = members_le b.journal b.memtables d.family law.rows t.middle t.list.members d.base t.members in
    let base = t.within in
    let few = family_le d.family b.journal in
    let writes = law.limits.writes in
    record {
      some = let k = h.some in omega arith;
      joins = joins;
      above = t.files.above;
      kind = h.kind;
      cuts = h.cuts;
      clear = h.clear;
      few = omega arith;
    }
