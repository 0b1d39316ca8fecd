-- What a flush and a compaction share: the plan's refusal, and the file that is put.
use Rattle.std.specs.Prelude.{◌≡◌, ◌⊎◌, ℕ, List, Option, Some}
use Rattle.sv_model.specs.declared.refusals.Refusal.{Refusal}
use Rattle.sv_model.specs.declared.records.FileMeta.{FileMeta}
use Rattle.sv_model.specs.declared.writes.Write.{Write}
use Rattle.sv_model.specs.Books.{Books}
use Rattle.sv_model.specs.Files.{Files}
use Rattle.sv_model.specs.HeldFiles.{IsFileText}
use Rattle.sv_model.specs.Refusals.{IsDue}
use Rattle.sv_dir.specs.Files.{PutsFile}
use Rattle.sv_family.specs.Refused.{change_refusal}
use Rattle.sv_state.specs.Planning.{MeantAt}

-- The lane means no family by the name, or a dropped one, or the family's current meets this refusal.
abbrev pub IsPlanRefused : (b : Books) (name : List ℕ) → (MeantAt b 0 name → Option Refusal) → Refusal → Type 0
IsPlanRefused b name fault e = (change_refusal b.families 0 name ≡ Some e) ⊎ ((m : MeantAt b 0 name) × IsDue (fault m) e)

-- The text of what the file's range of the family's writes leaves is put under the file's number.
pub record PutsText (journal : List Write) (family : ℕ) (file : FileMeta) (before after : Option Files) : Type 0 where
  pub bytes : List ℕ
  pub text : IsFileText journal family file bytes
  pub put : PutsFile file.number bytes before after
