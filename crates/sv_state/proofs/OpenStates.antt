-- The state of a store that was kept: its fields are the books of an opening.
use Rattle.std.proofs.Common.{◌≡◌, ℕ, List, [], Option, map, sym, ap, ◌∙◌, subst}
use Rattle.sv_model.specs.declared.records.Family.{Family}
use Rattle.sv_model.specs.declared.records.FileMeta.{FileMeta}
use Rattle.sv_model.specs.declared.records.Snapshot.{Snapshot}
use Rattle.sv_model.specs.declared.writes.Write.{Write}
use Rattle.sv_model.specs.declared.openings.OpenFamily.{OpenFamily}
use Rattle.sv_model.specs.declared.openings.Opening.{Opening}
use Rattle.sv_model.specs.declared.sv_refs.SvRef.{SvRef}
use Rattle.sv_model.specs.Books.{Books, FileRegister}
use Rattle.sv_model.specs.Families.{AreFamilies}
use Rattle.sv_model.specs.Numbers.{FilesStand}
use Rattle.sv_model.specs.Openings.{IsOpening}
use Rattle.sv_model.specs.Steady.{Sound}
use Rattle.sv_laws.proofs.Opened.{opening-sound}
use Rattle.sv_files.specs.Calls.{live_file, opened}
use Rattle.sv_family.specs.Openings.{open_families}
use Rattle.sv_objects.specs.declared.bodies.Body.{Body}
use Rattle.sv_state.specs.declared.begun.Begun.{Begun}
use Rattle.sv_state.specs.Begun.{IsBegun}
use Rattle.sv_state.specs.Openings.{MayOpen, opened_books, opening_files, opening_numbers, opening_writes}
use Rattle.sv_state.specs.Refs.{IsState}
use Rattle.sv_state.proofs.OpenBooks.{opened-opening}
use Rattle.sv_state.proofs.OpenRefs.{open-state}

-- what is said of the state
pub record IsOpened (families : List OpenFamily) (next : ℕ) (b : Books) (held : List (Option (SvRef Body))) : Type 0 where
  pub books : b ≡ opened_books families next
  pub opening : IsOpening b
  pub sound : Sound b
  pub state : IsState b held

pub state-opened : (opening : Opening) (next : ℕ) → MayOpen opening next → (kept : List OpenFamily) → kept ≡ opening.families.items
    → (files : FileRegister) → files ≡ opened next (map live_file (opening_numbers 0 kept)) → FilesStand files
    → (families : List Family) → families ≡ open_families kept → AreFamilies families
    → (begun : Begun) → IsBegun kept begun → begun.objects.files ≡ files
    → (metas : List FileMeta) → metas ≡ opening_files kept → (journal : List Write) → journal ≡ opening_writes 0 kept → (snapshots : List Snapshot) → snapshots ≡ []
    → IsOpened opening.families.items next (record { journal = journal; supers = begun.objects.supers; memtables = begun.objects.memtables; lists = begun.objects.lists; versions = begun.objects.versions; files = begun.objects.files; metas = metas; families = families; tops = begun.tops.items; snapshots = snapshots }) begun.held.items
state-opened opening next h kept kept_is files files_are stand families families_are lawful begun is_begun begun_files metas metas_are journal writes_are snapshots none =
    let l = opening.families.items in
    let start : IsBegun l begun = subst (λ k. IsBegun k begun) kept_is is_begun in
    let numbers : files ≡ opened next (map live_file (opening_numbers 0 l)) = files_are ∙ ap (λ k. opened next (map live_file (opening_numbers 0 k))) kept_is in
    let all : families ≡ open_families l = families_are ∙ ap open_families kept_is in
    let books : record { journal = journal; supers = begun.objects.supers; memtables = begun.objects.memtables; lists = begun.objects.lists; versions = begun.objects.versions; files = begun.objects.files; metas = metas; families = families; tops = begun.tops.items; snapshots = snapshots } ≡ opened_books l next = λ i. record {
      journal = (writes_are ∙ ap (opening_writes 0) kept_is) i;
      supers = start.supers i;
      memtables = start.memtables i;
      lists = start.lists i;
      versions = start.versions i;
      files = (begun_files ∙ numbers) i;
      metas = (metas_are ∙ ap opening_files kept_is) i;
      families = all i;
      tops = start.tops i;
      snapshots = none i;
    } in
    let is : IsOpening (opened_books l next) = opened-opening l next h.most h.each h.few (subst FilesStand numbers stand) (subst AreFamilies all lawful) in
    let sound : Sound (opened_books l next) = opening-sound (opened_books l next) is in
    record {
      books = books;
      opening = subst IsOpening (sym books) is;
      sound = subst Sound (sym books) sound;
      state = subst (λ b. IsState b begun.held.items) (sym books) (open-state l next sound begun start);
    }
