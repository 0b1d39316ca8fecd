-- Of files that were read in order, each is good; and the first that could not be read is refused.
use Rattle.std.proofs.Common.{◌+◌, ◌≡◌, ◌<◌, ℕ, zero, suc, List, [], ◌∷◌, ◌++◌, take, drop, get_or, length, Option, Some, None, slice_get, sym, ap, subst, ◌∙◌, drop-cons}
use Rattle.std.specs.Prelude.{IfErr, Result, Ok, Err}
use Rattle.std.proofs.lemmas.List.{take-append-drop, take_more}
use Rattle.sv_model.specs.declared.cuts.Bottom.{Bottom}
use Rattle.sv_model.specs.declared.records.FileMeta.{FileMeta}
use Rattle.sv_model.specs.declared.refusals.Refusal.{Refusal}
use Rattle.sv_model.specs.declared.refusals.Refusal.TheVariants as refusal
use Rattle.sv_model.specs.declared.tables.Table.{Table}
use Rattle.sv_model.specs.Files.{Files}
use Rattle.sv_model.specs.Lists.{Every}
use Rattle.sv_model.specs.TableText.{IsTextOf}
use Rattle.sv_model.proofs.Entries.{every_none}
use Rattle.sv_file_checks.specs.Checks.{Holds, IsGoodFile, IsTextFor, ReadRefusal}
use Rattle.sv_outputs.specs.Reading.{AreRead, IsGoodIn, IsReached, IsRead, IsTableOver, ReadsRefused, TableRefusal}

-- ---- one file

pub text_over : (file : FileMeta) (bytes : List ℕ) (table : Table) → IsTableOver file bytes table → IsTextFor file bytes
text_over file bytes table h = record {
  rows = table.rows;
  text = subst (λ (b : Bottom). IsTextOf bytes file.from file.to b table.rows) h.bottom_is
      (subst (λ (n : ℕ). IsTextOf bytes file.from n table.bottom table.rows) h.to_is
      (subst (λ (n : ℕ). IsTextOf bytes n table.to table.bottom table.rows) h.from_is h.text));
}

good_read : (told : Option Files) (file : FileMeta) (table : Table) → IsRead told file table → IsGoodIn told file
good_read None file table h = tt
good_read (Some files) file table h = subst (λ (c : Option (List ℕ)). IsGoodFile file c) (sym h.held) (text_over file h.bytes table h.over)

-- what a refusal of bytes says of a file that holds them
pub bytes_refused : (told : Option Files) (file : FileMeta) (bytes : List ℕ) (e : Refusal) → Holds told file (Some bytes)
    → TableRefusal file bytes e → ReadRefusal told file e
bytes_refused told file bytes (refusal.BadFile number place) held r = (r.0, record { content = Some bytes; holds = held; bad = r.1 })
bytes_refused told file bytes refusal.OutOfMemory held r = tt
bytes_refused told file bytes e held r = absurd r

pub refused_of : (told : Option Files) (file : FileMeta) (bytes : List ℕ) (r : Result Table Refusal) → Holds told file (Some bytes)
    → IfErr r (TableRefusal file bytes) → IfErr r (ReadRefusal told file)
refused_of told file bytes (Ok table) held h = tt
refused_of told file bytes (Err e) held h = bytes_refused told file bytes e held h

-- ---- several

pub every_cons : {A : Type 0} (P : A → Type 0) (x : A) (xs : List A) → P x → Every P xs → Every P (x ∷ xs)
every_cons {A} P x xs here others i y e = by i e
  where
    by : (n : ℕ) → slice_get (x ∷ xs) n ≡ Some y → P y
    by zero is = let q : x ≡ y = cc in subst P q here
    by (suc n) is = others n y is

pub all_good : (told : Option Files) (files : List FileMeta) (tables : List Table) → AreRead told files tables → Every (IsGoodIn told) files
all_good told [] [] h = every_none (IsGoodIn told)
all_good told [] (table ∷ tables) h = absurd h
all_good told (file ∷ files) [] h = absurd h
all_good told (file ∷ files) (table ∷ tables) h =
    every_cons (IsGoodIn told) file files (good_read told file table h.0) (all_good told files tables h.1)

read-push : (told : Option Files) (files : List FileMeta) (tables : List Table) (file : FileMeta) (table : Table) → AreRead told files tables → IsRead told file table
    → AreRead told (files ++ file ∷ []) (tables ++ table ∷ [])
read-push told [] [] file table h r = (r, tt)
read-push told [] (t ∷ tables) file table h r = absurd h
read-push told (f ∷ files) [] file table h r = absurd h
read-push told (f ∷ files) (t ∷ tables) file table h r = (h.0, read-push told files tables file table h.1 r)

-- one more was read
pub read_more : (told : Option Files) (files : List FileMeta) (i : ℕ) (file : FileMeta) (tables : List Table) (table : Table) → i < length files → file ≡ get_or files i file
    → AreRead told (take i files) tables → IsRead told file table → AreRead told (take (i + 1) files) (tables ++ table ∷ [])
read_more told files i file tables table lt is h r =
    let more : take i files ++ file ∷ [] ≡ take (i + 1) files = sym (take_more files i file lt ∙ ap (λ (x : FileMeta). take i files ++ x ∷ []) (sym is)) in
    subst (λ (l : List FileMeta). AreRead told l (tables ++ table ∷ [])) more (read-push told (take i files) tables file table h r)

reached_at : (told : Option Files) (files : List FileMeta) (i : ℕ) (file : FileMeta) (tables : List Table) → i < length files → file ≡ get_or files i file
    → AreRead told (take i files) tables → IsReached told files file
reached_at told files i file tables lt is h = record {
  older = take i files;
  newer = drop (suc i) files;
  stands = sym (take-append-drop i files) ∙ ap (λ (l : List FileMeta). take i files ++ l) (drop-cons files i file lt ∙ ap (λ (x : FileMeta). x ∷ drop (suc i) files) (sym is));
  good = all_good told (take i files) tables h;
}

-- the next could not be read
pub refused_at : (told : Option Files) (files : List FileMeta) (i : ℕ) (file : FileMeta) (tables : List Table) (e : Refusal) → i < length files → file ≡ get_or files i file
    → AreRead told (take i files) tables → ReadRefusal told file e → ReadsRefused told files e
refused_at told files i file tables e lt is h r = record { file = file; reached = reached_at told files i file tables lt is h; refused = r }
