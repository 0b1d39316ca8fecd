-- Where the files hold the texts of their ranges' flats, the merge is the flat of the whole range.
use Rattle.std.proofs.Common.{◌≡◌, inl, inr, ◌≤◌, ℕ, suc, List, [], ◌∷◌, ◌++◌, length, Option, Some, None, Result, Ok, Err, refl, subst, arith}
use Rattle.std.specs.Prelude.{IfErr, IsSomeAnd, OnOk}
use Rattle.sv_model.specs.declared.writes.Write.{Write}
use Rattle.sv_model.specs.declared.records.FileMeta.{FileMeta}
use Rattle.sv_model.specs.declared.refusals.Refusal.{Refusal}
use Rattle.sv_model.specs.declared.refusals.Refusal.TheVariants as refusal
use Rattle.sv_model.specs.declared.tables.Table.{Table}
use Rattle.sv_model.specs.Files.{Files, file_of}
use Rattle.sv_model.specs.Flat.{IsFlat}
use Rattle.sv_model.specs.HeldFiles.{HoldsText, IsFileText}
use Rattle.sv_model.specs.Journal.{of_family}
use Rattle.sv_model.specs.Lists.{Every}
use Rattle.sv_model.specs.Ranges.{FilesJoin}
use Rattle.sv_table.proofs.FileText.{texts_are}
use Rattle.sv_dir.specs.Files.{PutsFile}
use Rattle.sv_merge.specs.Merging.{AreFlats, IsFlatTable}
use Rattle.sv_file_checks.specs.Checks.{FileIsBad, IsGoodFile}
use Rattle.sv_file_checks.proofs.CheckLaws.{file_not_bad}
use Rattle.sv_outputs.specs.Compacting.{MergeRefused, PutsFlat}
use Rattle.sv_outputs.specs.Merging.{IsMergeDue, IsMergeText}
use Rattle.sv_outputs.specs.Reading.{AreRead, IsRead, ReadsRefused}

-- ---- one file

holds_text : (journal : List Write) (family : ℕ) (file : FileMeta) (content : Option (List ℕ)) (bytes : List ℕ) → content ≡ Some bytes
    → IsSomeAnd content (IsFileText journal family file) → IsFileText journal family file bytes
holds_text journal family file content bytes is h = let k = subst (λ (c : Option (List ℕ)). IsSomeAnd c (IsFileText journal family file)) is h in k

flat_table : (all : Files) (journal : List Write) (family : ℕ) (file : FileMeta) (t : Table) → IsRead (Some all) file t → HoldsText all journal family file → IsFlatTable journal family t
flat_table all journal family file t r holds =
    let text = holds_text journal family file (file_of file.number all) r.bytes r.held holds in
    let well = r.over.text.has.well_formed in
    let s = texts_are r.bytes file.from file.to t.from t.to file.bottom t.bottom text.rows t.rows (record { has = text.table; are = inl text.is }) r.over.text in
    let told : Table = record { from = file.from; to = file.to; bottom = file.bottom; rows = text.rows } in
    let same : told ≡ t = (λ i. record { from = s.from_is i; to = s.to_is i; bottom = s.bottom_is i; rows = s.rows_are i }) in
    record {
      range = let k = well.range in omega arith;
      cuts = well.cuts;
      flat = subst (λ (u : Table). IsFlat journal family u.from u.to u.bottom u.rows) same text.flat;
    }

pub are_flats : (all : Files) (journal : List Write) (family : ℕ) (files : List FileMeta) (tables : List Table) → AreRead (Some all) files tables
    → Every (HoldsText all journal family) files → AreFlats journal family tables
are_flats all journal family [] [] h holds = tt
are_flats all journal family [] (t ∷ tables) h holds = absurd h
are_flats all journal family (f ∷ files) [] h holds = absurd h
are_flats all journal family (f ∷ files) (t ∷ tables) h holds =
    (flat_table all journal family f t h.0 (holds 0 f refl), are_flats all journal family files tables h.1 (λ i x e. holds (suc i) x e))

-- ---- the range

held_within : (journal : List Write) (family : ℕ) (file : FileMeta) (content : Option (List ℕ)) → IsSomeAnd content (IsFileText journal family file) → file.to ≤ length (of_family family journal)
held_within journal family file None h = absurd h
held_within journal family file (Some bytes) h = h.within

-- the writes up to the last file's end are made
pub end_within : (all : Files) (journal : List Write) (family from : ℕ) (files : List FileMeta) (to : ℕ) → 1 ≤ length files → FilesJoin from files to
    → Every (HoldsText all journal family) files → to ≤ length (of_family family journal)
end_within all journal family from [] to some joins holds = absurd (omega arith)
end_within all journal family from (f ∷ []) to some joins holds =
    let here = held_within journal family f (file_of f.number all) (holds 0 f refl) in
    let end : f.to ≡ to = joins.1 in
    omega arith
end_within all journal family from (f ∷ g ∷ files) to some joins holds =
    end_within all journal family f.to (g ∷ files) to (omega arith) joins.1 (λ i x e. holds (suc i) x e)

-- the text of the merge is the file's
pub merge_file : (all : Files) (journal : List Write) (family : ℕ) (files : List FileMeta) (tables : List Table) (file : FileMeta) (bytes : List ℕ) → IsMergeDue files file
    → Every (HoldsText all journal family) files → AreRead (Some all) files tables → IsMergeText tables file bytes → IsFileText journal family file bytes
merge_file all journal family files tables file bytes due holds read text = record {
  within = end_within all journal family file.from files file.to due.some due.joins holds;
  rows = text.rows;
  flat = text.flat journal family (are_flats all journal family files tables read holds);
  table = text.table;
  is = text.is;
}

-- ---- no file is bad

held_good : (journal : List Write) (family : ℕ) (file : FileMeta) (content : Option (List ℕ)) → IsSomeAnd content (IsFileText journal family file) → IsGoodFile file content
held_good journal family file None h = absurd h
held_good journal family file (Some bytes) h = record { rows = h.rows; text = record { has = h.table; are = inl h.is } }

in_middle : {A : Type 0} (P : A → Type 0) (older : List A) (x : A) (newer : List A) → Every P (older ++ x ∷ newer) → P x
in_middle P [] x newer h = h 0 x refl
in_middle P (y ∷ older) x newer h = in_middle P older x newer (λ i z e. h (suc i) z e)

reads_not_bad : (all : Files) (journal : List Write) (family : ℕ) (told : Option Files) (files : List FileMeta) (number place : ℕ) → told ≡ Some all
    → Every (HoldsText all journal family) files → ReadsRefused told files (refusal.BadFile number place) → ⊥
reads_not_bad all journal family told files number place is holds r =
    let file = r.file in
    let here = in_middle (HoldsText all journal family) r.reached.older file r.reached.newer (subst (λ (l : List FileMeta). Every (HoldsText all journal family) l) r.reached.stands holds) in
    let good = held_good journal family file (file_of file.number all) here in
    file_not_bad all file place good (subst (λ (t : Option Files). FileIsBad t file place) is r.refused.1)

pub not_bad : (all : Files) (journal : List Write) (family : ℕ) (files : List FileMeta) (file : FileMeta) (before after : Option Files) (e : Refusal) → before ≡ Some all
    → Every (HoldsText all journal family) files → MergeRefused files file before after e → PutsFlat journal family file before after (Err e)
not_bad all journal family files file before after (refusal.BadFile number place) is holds (inl r) = reads_not_bad all journal family before files number place is holds r.0
not_bad all journal family files file before after (refusal.BadFile number place) is holds (inr r) = absurd r.1
not_bad all journal family files file before after e is holds r = tt

-- the output was put or refused
pub flat_put : (all : Files) (journal : List Write) (family : ℕ) (files : List FileMeta) (file : FileMeta) (before after : Option Files) (bytes : List ℕ) (r : Result (Unit {0}) Refusal) → before ≡ Some all
    → Every (HoldsText all journal family) files → IsFileText journal family file bytes → OnOk r (PutsFile file.number bytes before after) → IfErr r (MergeRefused files file before after)
    → PutsFlat journal family file before after r
flat_put all journal family files file before after bytes (Ok x) is holds text puts refused = (bytes, text, puts)
flat_put all journal family files file before after bytes (Err e) is holds text puts refused = not_bad all journal family files file before after e is holds refused
