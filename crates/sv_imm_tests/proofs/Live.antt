-- Which lists and Versions are live after a call.
use Rattle.std.proofs.Common.{◌≡◌, ℕ, ◌+◌, ◌<◌, [], List, Some, length, refl, sym, ap, subst, ◌∙◌, arith}
use Rattle.std.proofs.lemmas.List.{length_push}
use Rattle.std.proofs.lemmas.Option.{same_Some}
use Rattle.sv_model.specs.declared.records.MemtableList.{MemtableList}
use Rattle.sv_model.specs.declared.records.Version.{Version}
use Rattle.sv_model.specs.declared.records.FileMeta.{FileMeta}
use Rattle.sv_model.specs.Named.{IsLiveList, IsLiveVersion}
use Rattle.sv_model.specs.Registers.{entry}
use Rattle.sv_model.proofs.Registers.{entry-new, length-change}
use Rattle.sv_imm.specs.Changes as lists
use Rattle.sv_version.specs.Changes as versions

pub list-length : (old : List MemtableList) (members : List ℕ) (new : List MemtableList) (id : ℕ) → lists.IsMade old members new id → length new ≡ length old + 1
list-length old members new id made = ap length made.made ∙ length_push old (lists.live_list members)

pub list_made : (old : List MemtableList) (members : List ℕ) (new : List MemtableList) (id : ℕ) → lists.IsMade old members new id → IsLiveList new id
list_made old members new id made = record {
  it = lists.live_list members;
  at = subst (λ (l : List MemtableList). entry l id ≡ Some (lists.live_list members)) (sym made.made) (entry-new old (lists.live_list members) id made.next);
  live = refl;
}

pub list-length_kept : (old new : List MemtableList) (answer : List ℕ) (id : ℕ) → lists.IsReleased old id new answer → IsLiveList old id → length new ≡ length old
list-length_kept old new answer id released was = ap length (released.gone was.it was.at) ∙ length-change old id (lists.gone_list was.it)

pub version-length : (old : List Version) (files : List FileMeta) (new : List Version) (id : ℕ) → versions.IsMade old files new id → length new ≡ length old + 1
version-length old files new id made = ap length made.made ∙ length_push old (versions.live_version files)

pub version_made : (old : List Version) (files : List FileMeta) (new : List Version) (id : ℕ) → versions.IsMade old files new id → IsLiveVersion new id
version_made old files new id made = record {
  it = versions.live_version files;
  at = subst (λ (l : List Version). entry l id ≡ Some (versions.live_version files)) (sym made.made) (entry-new old (versions.live_version files) id made.next);
  live = refl;
}

pub version-length_kept : (old new : List Version) (answer : List ℕ) (id : ℕ) → versions.IsReleased old id new answer → IsLiveVersion old id → length new ≡ length old
version-length_kept old new answer id released was = ap length (released.gone was.it was.at) ∙ length-change old id (versions.gone_version was.it)

pub list_empty : (old new : List MemtableList) (id : ℕ) → lists.IsMade old [] new id → (l : MemtableList) → entry new id ≡ Some l → length l.members < 64
list_empty old new id made l at =
    let there = subst (λ (all : List MemtableList). entry all id ≡ Some (lists.live_list [])) (sym made.made) (entry-new old (lists.live_list []) id made.next) in
    let e = ap (λ (x : MemtableList). length x.members) (same_Some (lists.live_list []) l (sym there ∙ at)) in
    omega arith
