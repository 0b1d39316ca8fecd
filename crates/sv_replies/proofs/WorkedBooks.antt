-- What the books of worked examples are made of.
use Rattle.std.specs.Prelude.{◌≡◌, ℕ, Bool, true, false, List, [], ◌∷◌, Some, None, replicate, codes}
use Rattle.sv_model.specs.declared.writes.Op.{Op}
use Rattle.sv_model.specs.declared.writes.Write.{Write}
use Rattle.sv_model.specs.declared.records.SuperVersion.{SuperVersion}
use Rattle.sv_model.specs.declared.records.Memtable.{Memtable}
use Rattle.sv_model.specs.declared.records.MemtableList.{MemtableList}
use Rattle.sv_model.specs.declared.records.Version.{Version}
use Rattle.sv_model.specs.declared.records.FileMeta.{FileMeta}
use Rattle.sv_model.specs.declared.records.Family.{Family}
use Rattle.sv_model.specs.declared.records.RegisteredFile.{RegisteredFile}
use Rattle.sv_model.specs.declared.records.FileStatus.{FileStatus}
use Rattle.sv_model.specs.Books.{FileRegister}
use Rattle.sv_model.specs.Families.{first_options}
use Rattle.sv_script.specs.Answered.{Answered}
use Rattle.sv_script.specs.declared.commands.Command.{Command}
use Rattle.sv_script.specs.declared.replies.Reply.{Reply}
use Rattle.sv_replies.specs.Settings.{Setting}

-- one lane, over a directory that tells its files; and the first of two lanes
abbrev pub alone : Setting
alone = record { lane = 0; lanes = 1; told = true }

abbrev pub first_of_two : Setting
first_of_two = record { lane = 0; lanes = 2; told = true }

abbrev pub home : List ℕ
home = codes "default"

abbrev pub cold : List ℕ
cold = codes "cold"

abbrev pub a : List ℕ
a = codes "a"

abbrev pub one : List ℕ
one = codes "1"

abbrev pub line : Command → Reply → Answered
line command reply = record { command = command; reply = reply }

abbrev pub write : ℕ → ℕ → List ℕ → Op → Write
write family mem key op = record { family = family; key = key; op = op; mem = mem; lane = 0 }

abbrev pub super : ℕ → ℕ → ℕ → ℕ → ℕ → SuperVersion
super family active list version base = record {
  descriptor = record { family = family; active = active; list = list; version = version; base = base; options = first_options };
  place = 0;
  live = false;
}

abbrev pub memtable : ℕ → ℕ → Memtable
memtable family first = record { family = family; first = first; cell = 0; live = false }

abbrev pub list : List ℕ → MemtableList
list members = record { members = members; live = false }

abbrev pub version : List FileMeta → Version
version files = record { files = files; live = false }

abbrev pub file : ℕ → ℕ → ℕ → Bool → List ℕ → FileMeta
file number from to last cuts =
    record { number = number; from = from; to = to; bottom = record { last = last; cuts = cuts } }

abbrev pub number_for : ℕ → ℕ → FileStatus → RegisteredFile
number_for family number status = record { number = number; status = status; family = Some family }

abbrev pub numbers : List RegisteredFile → ℕ → FileRegister
numbers all next = record { numbers = all; captured = replicate 16 None; holds = replicate 32 0; jobs = 0; next = next }

abbrev pub family : List ℕ → Bool → Family
family name dropped = record { name = name; options = first_options; dropped = dropped; handles = replicate 32 false }

-- ---- what is not so

pub no_op : (o : Op) → None ≡ Some o → ⊥
no_op o e = absurd (cc)

pub one_op : (p o : Op) → Some p ≡ Some o → p ≡ o
one_op p o e = cc

pub has_files : (f : FileMeta) (files : List FileMeta) → f ∷ files ≡ [] → ⊥
has_files f files e = absurd (cc)
