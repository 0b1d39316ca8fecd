-- The file that a compaction writes, and when it is refused.
use Rattle.std.specs.Prelude.{◌≡◌, ◌⊎◌, ℕ, List, Option, Result, Ok, Err}
use Rattle.sv_model.specs.declared.writes.Write.{Write}
use Rattle.sv_model.specs.declared.records.FileMeta.{FileMeta}
use Rattle.sv_model.specs.declared.refusals.Refusal.{Refusal}
use Rattle.sv_model.specs.declared.refusals.Refusal.TheVariants as refusal
use Rattle.sv_model.specs.declared.tables.Table.{Table}
use Rattle.sv_model.specs.Files.{Files}
use Rattle.sv_model.specs.HeldFiles.{IsFileText}
use Rattle.sv_model.specs.Lists.{Every}
use Rattle.sv_dir.specs.Files.{PutsFile}
use Rattle.sv_outputs.specs.Merging.{IsMergeText}
use Rattle.sv_outputs.specs.Putting.{OutputRefused}
use Rattle.sv_outputs.specs.Reading.{AreRead, IsGoodIn, ReadsRefused}

-- The bytes are the text of the merge of the tables that the files hold.
pub record IsMergeOfFiles (told : Option Files) (files : List FileMeta) (file : FileMeta) (bytes : List ℕ) : Type 0 where
  pub tables : List Table
  pub read : AreRead told files tables
  pub text : IsMergeText tables file bytes

-- A compaction was refused: at the first file that could not be read, and the files are as they were; or all files are
-- good, and the output was refused.
abbrev pub MergeRefused : List FileMeta → FileMeta → Option Files → Option Files → Refusal → Type 0
MergeRefused files file before after e =
    (ReadsRefused before files e × (after ≡ before))
    ⊎ (Every (IsGoodIn before) files × OutputRefused file.number before after e)

-- The file of the range's flat was put; or the call was refused, but not for a bad file.
abbrev pub PutsFlat : List Write → ℕ → FileMeta → Option Files → Option Files → Result Unit Refusal → Type 0
PutsFlat journal family file before after (Ok x) = (bytes : List ℕ) × IsFileText journal family file bytes × PutsFile file.number bytes before after
PutsFlat journal family file before after (Err (refusal.BadFile number place)) = ⊥
PutsFlat journal family file before after (Err e) = Unit {0}
