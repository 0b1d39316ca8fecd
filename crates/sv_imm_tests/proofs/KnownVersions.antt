-- What is known of a register that is a list of known Versions.
use Rattle.std.proofs.Common.{◌≡◌, ℕ, ◌++◌, ◌∷◌, [], List, Some, refl, sym, ap, subst, ◌∙◌, arith}
use Rattle.std.proofs.lemmas.Option.{same_Some}
use Rattle.sv_model.specs.declared.records.Version.{Version}
use Rattle.sv_model.specs.declared.records.FileMeta.{FileMeta}
use Rattle.sv_model.specs.Lists.{total, times}
use Rattle.sv_model.specs.Named.{IsLiveVersion, HasFile, numbers_of}
use Rattle.sv_model.specs.Ranges.{FilesJoin}
use Rattle.sv_model.specs.Registers.{entry, Has}
use Rattle.sv_model.proofs.Lists.{times_in}
use Rattle.sv_model.proofs.Registers.{total_entry}
use Rattle.sv_version.specs.Changes.{IsMade, live_version}
use Rattle.sv_imm_tests.proofs.Known.{there}

pub version_live : (all known : List Version) (id : ℕ) (files : List FileMeta) → all ≡ known → entry known id ≡ Some (live_version files) → IsLiveVersion all id
version_live all known id files e at = record {
  it = live_version files;
  at = there all known id (live_version files) e at;
  live = refl;
}

pub version_joins : (all known : List Version) (id : ℕ) (files : List FileMeta) (to next : ℕ) → all ≡ known → entry known id ≡ Some (live_version files) → FilesJoin 0 files to → next ≡ to → (v : Version) → entry all id ≡ Some v → FilesJoin 0 v.files next
version_joins all known id files to next e at joins next_is v is =
    subst (λ n. FilesJoin 0 v.files n) (sym next_is) (subst (λ (x : Version). FilesJoin 0 x.files to) (same_Some (live_version files) v (sym (there all known id (live_version files) e at) ∙ is)) joins)

pub version_made : (old known : List Version) (files : List FileMeta) (new : List Version) (id : ℕ) → old ≡ known → IsMade old files new id → new ≡ known ++ live_version files ∷ []
version_made old known files new id e made = made.made ∙ ap (λ (l : List Version). l ++ live_version files ∷ []) e

-- a Version with one more file
pub version_added : (old known : List Version) (files : List FileMeta) (f file : FileMeta) (new : List Version) (id : ℕ) → old ≡ known → f ≡ file → IsMade old (files ++ f ∷ []) new id → new ≡ known ++ live_version (files ++ file ∷ []) ∷ []
version_added old known files f file new id e f_is made =
    version_made old known (files ++ f ∷ []) new id e made ∙ ap (λ (g : FileMeta). known ++ live_version (files ++ g ∷ []) ∷ []) f_is

-- a file whose number stands in no Version
absent : (number : ℕ) (all known : List Version) → all ≡ known → total (λ (v : Version). times number (numbers_of v.files)) known ≡ 0 → Has (HasFile number) all → ⊥
absent number all known e none h =
    let n = ap (λ (l : List Version). total (λ (v : Version). times number (numbers_of v.files)) l) e in
    let a = total_entry (λ (v : Version). times number (numbers_of v.files)) all h.0 h.1 h.2 in
    let b = times_in number (numbers_of h.1.files) h.3.has in
    omega arith

pub unnamed : (number n : ℕ) (all known : List Version) → all ≡ known → n ≡ number → total (λ (v : Version). times number (numbers_of v.files)) known ≡ 0 → Has (HasFile n) all → ⊥
unnamed number n all known e n_is none there = absent number all known e none (subst (λ k. Has (HasFile k) all) n_is there)
