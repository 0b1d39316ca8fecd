-- Where the files hold what was written, what they answer is what a read of the family up to the cut answers.
use Rattle.std.proofs.Common.{◌≡◌, ◌≤◌, ◌<◌, ◌-◌, ◌⊎◌, ℕ, suc, min, false, inl, inr, ⊎_elim, List, [], ◌∷◌, ◌++◌, take, slice_get, Option, Some, None, refl, sym, ap, subst, ◌∙◌, arith}
use Rattle.std.specs.Prelude.{IsSomeAnd, Result, Ok, Err, option_and_then}
use Rattle.sv_model.specs.declared.records.FileMeta.{FileMeta}
use Rattle.sv_model.specs.declared.refusals.Refusal.{Refusal}
use Rattle.sv_model.specs.declared.refusals.Refusal.TheVariants as refusal
use Rattle.sv_model.specs.declared.writes.Op.{Op}
use Rattle.sv_model.specs.declared.writes.Row.{Row}
use Rattle.sv_model.specs.declared.writes.Write.{Write}
use Rattle.sv_model.specs.Files.{Files, file_of}
use Rattle.sv_model.specs.Flat.{range_of}
use Rattle.sv_model.specs.HeldFiles.{HoldsText, IsFileText}
use Rattle.sv_model.specs.Journal.{look, newest_op, value_of}
use Rattle.sv_model.specs.Lists.{Every}
use Rattle.sv_model.specs.Ranges.{FilesJoin}
use Rattle.sv_model.specs.Snapshots.{IsClear}
use Rattle.sv_model.specs.TableText.{IsTextOf}
use Rattle.sv_model.proofs.FlatRanges.{range_fit}
use Rattle.sv_model.proofs.FlatReads.{flat_op, flat_value}
use Rattle.sv_table.proofs.FileText.{texts_are}
use Rattle.sv_table.specs.Lookups.{op_upto}
use Rattle.sv_file_checks.specs.Checks.{FileIsBad, IsGoodFile}
use Rattle.sv_file_checks.proofs.CheckLaws.{file_not_bad}
use Rattle.sv_reads.specs.Parts.{chosen}
use Rattle.sv_reads.specs.OneFile.{BytesTell, ContentTells, FileTells}
use Rattle.sv_reads.specs.Files.{IsReached, FilesAnswer, Serve, Looks}
use Rattle.sv_reads.proofs.PartLooks.{look_part}

-- ---- what a file holds

held_text : (journal : List Write) (family : ℕ) (file : FileMeta) (o : Option (List ℕ))
    → IsSomeAnd o (IsFileText journal family file)
    → (bytes : List ℕ) × (o ≡ Some bytes) × IsFileText journal family file bytes
held_text journal family file None h = absurd h
held_text journal family file (Some bytes) h = (bytes, refl, h)

text_of : (journal : List Write) (family : ℕ) (file : FileMeta) (bytes : List ℕ)
    (h : IsFileText journal family file bytes) → IsTextOf bytes file.from file.to file.bottom h.rows
text_of journal family file bytes h = record { has = h.table; are = inl h.is }

-- it is good
held_good : (journal : List Write) (family : ℕ) (file : FileMeta) (o : Option (List ℕ))
    → IsSomeAnd o (IsFileText journal family file) → IsGoodFile file o
held_good journal family file None h = absurd h
held_good journal family file (Some bytes) h = record { rows = h.rows; text = text_of journal family file bytes h }

-- ---- what one file tells

-- what was found is that of the rows that were written
record IsWritten (journal : List Write) (family : ℕ) (file : FileMeta) (key : List ℕ) (cut : ℕ)
    (found : Option Op) : Type 0 where
  bytes : List ℕ
  text : IsFileText journal family file bytes
  found_is : found ≡ op_upto key cut text.rows

module _ (all : Files) (journal : List Write) (family : ℕ) (key : List ℕ) (cut : ℕ) where
  is_written : (file : FileMeta) (found : Option Op) → HoldsText all journal family file
      → FileTells (Some all) key cut found file → IsWritten journal family file key cut found
  is_written file found held tells =
      let t = held_text journal family file (file_of file.number all) held in
      let read : BytesTell file key cut found t.0 = subst (ContentTells file key cut found) (sym tells.holds ∙ t.1)
      tells.tells in
      let s = texts_are t.0 file.from file.to file.from file.to file.bottom file.bottom read.rows t.2.rows read.text
      (text_of journal family file t.0 t.2) in
      record { bytes = t.0; text = t.2; found_is = read.found_is ∙ ap (op_upto key cut) s.rows_are }

  module _ (file : FileMeta) (found : Option Op) (held : HoldsText all journal family file) (clear : IsClear cut file)
      (tells : FileTells (Some all) key cut found file) where
    abbrev writes : List Row
    writes = range_of journal family file.from file.to

    abbrev read : IsWritten journal family file key cut found
    read = is_written file found held tells

    some : file.from ≤ file.to
    some = let h = read.text.table.well_formed.range in omega arith

    -- where something may lie below
    pub file_op : file.bottom.last ≡ false
        → found ≡ newest_op key (take (cut - file.from) (range_of journal family file.from file.to))
    file_op above =
        let text = read.text in
        read.found_is
        ∙ flat_op file.from file.to file.bottom writes text.rows text.table.well_formed.cuts
        (range_fit journal family file.from file.to some) text.flat cut clear key above

    pub file_look : file.bottom.last ≡ false
        → look journal family (min cut file.to) key ≡ chosen found (look journal family (min cut file.from) key)
    file_look above =
        look_part journal family file.from file.to key cut some
        ∙ ap (λ (o : Option Op). chosen o (look journal family (min cut file.from) key)) (sym (file_op above))

    -- where nothing does
    pub first_look : file.from ≡ 0 → look journal family (min cut file.to) key ≡ option_and_then value_of found
    first_look first =
        let text = read.text in
        let low : min cut file.from ≡ 0 = omega (arith, first) in
        let value =
        ap (option_and_then value_of) read.found_is
        ∙ flat_value file.from file.to file.bottom writes text.rows text.table.well_formed.cuts
        (range_fit journal family file.from file.to some) text.flat cut clear key in
        look_part journal family file.from file.to key cut some
        ∙ ap (λ (n : ℕ). chosen (newest_op key (take (cut - file.from) writes)) (look journal family n key)) low
        ∙ nothing_older (newest_op key (take (cut - file.from) writes))
        ∙ sym value
      where
        nothing_older : (o : Option Op) → chosen o None ≡ option_and_then value_of o
        nothing_older None = refl
        nothing_older (Some op) = refl

-- ---- files that join

join_split : (from : ℕ) (older : List FileMeta) (file : FileMeta) (newer : List FileMeta) (to : ℕ)
    → FilesJoin from (older ++ file ∷ newer) to → FilesJoin from older file.from × FilesJoin file.to newer to
join_split from [] file newer to joins = (sym joins.0, joins.1)
join_split from (g ∷ older) file newer to joins =
    let rest = join_split g.to older file newer to joins.1 in
    ((joins.0, rest.0), rest.1)

every_newer : (P : FileMeta → Type 0) (older : List FileMeta) (file : FileMeta) (newer : List FileMeta)
    → Every P (older ++ file ∷ newer) → Every P newer
every_newer P [] file newer all = λ i x e. all (suc i) x e
every_newer P (g ∷ older) file newer all = every_newer P older file newer (λ i x e. all (suc i) x e)

every_here : (P : FileMeta → Type 0) (older : List FileMeta) (file : FileMeta) (newer : List FileMeta)
    → Every P (older ++ file ∷ newer) → P file
every_here P [] file newer all = all 0 file refl
every_here P (g ∷ older) file newer all = every_here P older file newer (λ i x e. all (suc i) x e)

abbrev IsAbove : FileMeta → Type 0
IsAbove file = file.bottom.last ≡ false

abbrev AreAbove : List FileMeta → Type 0
AreAbove files = (i : ℕ) (file : FileMeta) → slice_get files i ≡ Some file → 0 < i → IsAbove file

above_newer : (older : List FileMeta) (file : FileMeta) (newer : List FileMeta) → AreAbove (older ++ file ∷ newer)
    → Every IsAbove newer
above_newer [] file newer above = λ i x e. above (suc i) x e (omega arith)
above_newer (g ∷ older) file newer above = every_newer IsAbove older file newer
    (λ i x e. above (suc i) x e (omega arith))

-- the first file, or one of which no rows are left out
first_or_above : (older : List FileMeta) (file : FileMeta) (newer : List FileMeta) (to : ℕ)
    → FilesJoin 0 (older ++ file ∷ newer) to → AreAbove (older ++ file ∷ newer) → (file.from ≡ 0) ⊎ IsAbove file
first_or_above [] file newer to joins above = inl joins.0
first_or_above (g ∷ older) file newer to joins above =
    inr (every_here IsAbove older file newer (λ i x e. above (suc i) x e (omega arith)))

-- ---- what all files answer

module _ (all : Files) (journal : List Write) (family : ℕ) (key : List ℕ) (cut : ℕ) where
  -- files without a row of the key change nothing
  passed_look : (from : ℕ) (files : List FileMeta) (to : ℕ) → FilesJoin from files to
      → Every (HoldsText all journal family) files → Every (IsClear cut) files → Every IsAbove files
      → Every (FileTells (Some all) key cut None) files
      → look journal family (min cut to) key ≡ look journal family (min cut from) key
  passed_look from [] to joins held clear above passed =
      ap (λ (n : ℕ). look journal family (min cut n) key) (sym joins)
  passed_look from (file ∷ files) to joins held clear above passed =
      passed_look file.to files to joins.1 (λ i x e. held (suc i) x e) (λ i x e. clear (suc i) x e)
      (λ i x e. above (suc i) x e) (λ i x e. passed (suc i) x e)
      ∙ file_look all journal family key cut file None (held 0 file refl) (clear 0 file refl) (passed 0 file refl)
      (above 0 file refl)
      ∙ ap (λ (n : ℕ). look journal family (min cut n) key) joins.0

  module _ (files : List FileMeta) (reach : ℕ) (serve : Serve all journal family files reach cut) where
    -- the newer files change nothing
    module _ (file : FileMeta) (reached : IsReached (Some all) key cut files file) where
      abbrev stand : Serve all journal family (reached.older ++ file ∷ reached.newer) reach cut
      stand = subst (λ (l : List FileMeta). Serve all journal family l reach cut) reached.stands serve

      reached_look : look journal family (min cut reach) key ≡ look journal family (min cut file.to) key
      reached_look =
          passed_look file.to reached.newer reach
          (join_split 0 reached.older file reached.newer reach stand.joins).1
          (every_newer (HoldsText all journal family) reached.older file reached.newer stand.held)
          (every_newer (IsClear cut) reached.older file reached.newer stand.clear)
          (above_newer reached.older file reached.newer stand.above)
          reached.passed

      found_look : (op : Op) → FileTells (Some all) key cut (Some op) file
          → look journal family (min cut reach) key ≡ value_of op
      found_look op tells =
          let held = every_here (HoldsText all journal family) reached.older file reached.newer stand.held in
          let clear = every_here (IsClear cut) reached.older file reached.newer stand.clear in
          reached_look ∙ ⊎_elim
          (λ (first : file.from ≡ 0). first_look all journal family key cut file (Some op) held clear tells first)
          (λ (above : IsAbove file). file_look all journal family key cut file (Some op) held clear tells above)
          (first_or_above reached.older file reached.newer reach stand.joins stand.above)

      bad_look : (place : ℕ) → FileIsBad (Some all) file place → ⊥
      bad_look place bad =
          let held = every_here (HoldsText all journal family) reached.older file reached.newer stand.held in
          file_not_bad all file place (held_good journal family file (file_of file.number all) held) bad

  none_look : (files : List FileMeta) (reach : ℕ) → Serve all journal family files reach cut
      → Every (FileTells (Some all) key cut None) files → look journal family (min cut reach) key ≡ None
  none_look [] reach serve passed =
      let low : min cut reach ≡ 0 = omega (arith, serve.joins) in
      ap (λ (n : ℕ). look journal family n key) low
  none_look (file ∷ files) reach serve passed =
      passed_look file.to files reach serve.joins.1 (λ i x e. serve.held (suc i) x e)
      (λ i x e. serve.clear (suc i) x e) (λ i x e. serve.above (suc i) x e (omega arith))
      (λ i x e. passed (suc i) x e)
      ∙ first_look all journal family key cut file None (serve.held 0 file refl) (serve.clear 0 file refl)
      (passed 0 file refl) serve.joins.0

  answer_looks : (files : List FileMeta) (reach : ℕ) (result : Result (Option Op) Refusal)
      → Serve all journal family files reach cut → FilesAnswer (Some all) files key cut result
      → Looks journal family (min cut reach) key result
  answer_looks files reach (Ok None) serve h = none_look files reach serve h
  answer_looks files reach (Ok (Some op)) serve h = found_look files reach serve h.0 h.1 op h.2
  answer_looks files reach (Err (refusal.BadFile number place)) serve h = bad_look files reach serve h.0 h.1 place h.3
  answer_looks files reach (Err e) serve h = tt

-- what the files answer where the directory tells these files
pub told_looks : (told : Option Files) (all : Files) (journal : List Write) (family : ℕ) (key : List ℕ) (cut : ℕ)
    (files : List FileMeta) (reach : ℕ) (result : Result (Option Op) Refusal) → told ≡ Some all
    → Serve all journal family files reach cut → FilesAnswer told files key cut result
    → Looks journal family (min cut reach) key result
told_looks told all journal family key cut files reach result e serve h =
    answer_looks all journal family key cut files reach result serve
    (subst (λ (t : Option Files). FilesAnswer t files key cut result) e h)
