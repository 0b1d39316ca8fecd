-- What a lane read of files is their text, in books that fit.
use Rattle.std.proofs.Common.{List, Some, [], ap, refl, subst, suc, sym, zero, ℕ, ◌∙◌, ◌∷◌, ◌≡◌}
use Rattle.std.specs.Prelude.{IsSomeAnd}
use Rattle.sv_gets.specs.Reading.{reads_in}
use Rattle.sv_model.specs.Books.{Books}
use Rattle.sv_model.specs.Described.{IsFileOf}
use Rattle.sv_model.specs.Files.{Files, file_of}
use Rattle.sv_model.specs.HeldFiles.{HoldsText, IsFileText}
use Rattle.sv_model.specs.Lawful.{Lawful}
use Rattle.sv_model.specs.Lists.{Every}
use Rattle.sv_model.specs.declared.records.FileMeta.{FileMeta}
use Rattle.sv_model.specs.declared.records.RegisteredFile.{RegisteredFile}
use Rattle.sv_model.proofs.Entries.{get_none, some}
use Rattle.sv_model.proofs.Metas.{one-meta}
use Rattle.sv_rule.specs.Fits.{ReadFits}
use Rattle.sv_rule.proofs.Statuses.{once-same}

module _ (b : Books) (lawful : Lawful b) where
  -- a file that was read has the text of its meta
  read-holds : (all : Files) (f : ℕ) (file : FileMeta) → IsFileOf b.files.numbers b.metas f file
      → ReadFits b (record { number = file.number; bytes = file_of file.number all }) → HoldsText all b.journal f file
  read-holds all f file is was =
      let p = was.captured in let q = is.captured in
      let e : p.1 ≡ q.1 = once-same b.files.numbers file.number p.0 q.0 p.1 q.1 (lawful.numbers.once file.number) p.2 q.2
      p.3.number_is q.3.number_is in
      let family : was.family ≡ f = some (sym p.3.family_is ∙ ap (λ (z : RegisteredFile). z.family) e ∙ q.3.family_is) in
      let same : was.file ≡ file = one-meta b.files.numbers b.files.captured b.files.next b.metas lawful.numbers lawful.metas was.file file was.covers is.covers was.number in
      subst (λ o. IsSomeAnd o (IsFileText b.journal f file)) (sym was.given)
      (subst (λ (z : ℕ × FileMeta). IsFileText b.journal z.0 z.1 was.bytes) (λ i. (family i, same i)) was.text)

  -- so it is of all files of a body
  pub reads-hold : (all : Files) (f : ℕ) (files : List FileMeta) → Every (IsFileOf b.files.numbers b.metas f) files
      → Every (ReadFits b) (reads_in (Some all) files) → Every (HoldsText all b.journal f) files
  reads-hold all f [] are fits = λ i file e. absurd (get_none i file e)
  reads-hold all f (x ∷ files) are fits = first
      (reads-hold all f files (λ i z e. are (suc i) z e) (λ i z e. fits (suc i) z e))
    where
      first : Every (HoldsText all b.journal f) files → Every (HoldsText all b.journal f) (x ∷ files)
      first rest zero file e = subst (HoldsText all b.journal f) (some e) (read-holds all f x (are 0 x refl) (fits 0 _ refl))
      first rest (suc i) file e = rest i file e
