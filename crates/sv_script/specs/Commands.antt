-- The commands of the language, by the words that follow the lane's number.
use Rattle.std.specs.Prelude.{ℕ, List, [], ◌∷◌, Option, Some, None, Result, Ok, Err, if◌then◌else◌, codes}
use Rattle.std.specs.Str.{bytes_eq}
use Rattle.sv_model.specs.Names.{name_of}
use Rattle.sv_model.specs.declared.settings.OptionName.{OptionName}
use Rattle.sv_model.specs.declared.settings.OptionName.TheVariants as options
use Rattle.sv_script.specs.declared.scripts.BadKind.{BadKind}
use Rattle.sv_script.specs.declared.scripts.BadKind.TheVariants as kinds
use Rattle.sv_script.specs.declared.commands.Command.{Command}
use Rattle.sv_script.specs.declared.commands.Command.TheVariants as commands
use Rattle.sv_script.specs.declared.parsing.verbs.Verb.{Verb}
use Rattle.sv_script.specs.declared.parsing.verbs.Verb.TheVariants as verbs
use Rattle.sv_script.specs.Words.{Words}
use Rattle.sv_script.specs.Items.{item_of}
use Rattle.sv_script.specs.Numbers.{number_of}
use Rattle.sv_script.specs.Reading.{◌>>=◌, or_bad}

-- A word read as a name, as an item, as a number, as the name of an option.
abbrev pub name : List ℕ → Result (List ℕ) BadKind
name word = or_bad kinds.Name (name_of word)

abbrev pub item : List ℕ → Result (List ℕ) BadKind
item word = or_bad kinds.Item (item_of word)

abbrev pub number : List ℕ → Result ℕ BadKind
number word = or_bad kinds.Number (number_of word)

unfoldable pub option_of : List ℕ → Option OptionName
option_of word =
    if bytes_eq word (codes "memtable_rows") then Some options.MemtableRows
    else if bytes_eq word (codes "max_immutable") then Some options.MaxImmutable
    else None

abbrev pub option_name : List ℕ → Result OptionName BadKind
option_name word = or_bad kinds.Option (option_of word)

-- The words after a command, read in order; their number is tested first.
unfoldable pub put_of : Words → Result Command BadKind
put_of (a ∷ b ∷ c ∷ []) = do
  family ← name a
  key ← item b
  value ← item c
  Ok (commands.Put family key value)
put_of _ = Err kinds.Count

unfoldable pub family_and_key : Words → Result (List ℕ × List ℕ) BadKind
family_and_key (a ∷ b ∷ []) = do
  family ← name a
  key ← item b
  Ok (family, key)
family_and_key _ = Err kinds.Count

unfoldable pub pin_and_key : Words → Result (ℕ × List ℕ) BadKind
pin_and_key (a ∷ b ∷ []) = do
  pin ← number a
  key ← item b
  Ok (pin, key)
pin_and_key _ = Err kinds.Count

unfoldable pub gets_of : Words → Result Command BadKind
gets_of (a ∷ b ∷ c ∷ []) = do
  snapshot ← number a
  family ← name b
  key ← item c
  Ok (commands.Gets snapshot family key)
gets_of _ = Err kinds.Count

unfoldable pub set_of : Words → Result Command BadKind
set_of (a ∷ b ∷ c ∷ []) = do
  family ← name a
  option ← option_name b
  value ← number c
  Ok (commands.Set family option value)
set_of _ = Err kinds.Count

unfoldable pub family_alone : Words → Result (List ℕ) BadKind
family_alone (a ∷ []) = name a
family_alone _ = Err kinds.Count

unfoldable pub number_alone : Words → Result ℕ BadKind
number_alone (a ∷ []) = number a
number_alone _ = Err kinds.Count

unfoldable pub alone : Command → Words → Result Command BadKind
alone command [] = Ok command
alone command (_ ∷ _) = Err kinds.Count

-- what a command's words are
unfoldable pub of_verb : Verb → Words → Result Command BadKind
of_verb verbs.Put words = put_of words
of_verb verbs.Delete words = family_and_key words >>= λ x. Ok (commands.Delete x.0 x.1)
of_verb verbs.Get words = family_and_key words >>= λ x. Ok (commands.Get x.0 x.1)
of_verb verbs.Getp words = pin_and_key words >>= λ x. Ok (commands.Getp x.0 x.1)
of_verb verbs.Flush words = family_alone words >>= λ f. Ok (commands.Flush f)
of_verb verbs.Compact words = family_alone words >>= λ f. Ok (commands.Compact f)
of_verb verbs.Create words = family_alone words >>= λ f. Ok (commands.Create f)
of_verb verbs.Open words = family_alone words >>= λ f. Ok (commands.Open f)
of_verb verbs.Release words = family_alone words >>= λ f. Ok (commands.Release f)
of_verb verbs.Drop words = family_alone words >>= λ f. Ok (commands.Drop f)
of_verb verbs.Set words = set_of words
of_verb verbs.Pin words = family_alone words >>= λ f. Ok (commands.Pin f)
of_verb verbs.Unpin words = number_alone words >>= λ n. Ok (commands.Unpin n)
of_verb verbs.Hold words = alone commands.Hold words
of_verb verbs.Unhold words = alone commands.Unhold words
of_verb verbs.Live words = alone commands.Live words
of_verb verbs.Purge words = alone commands.Purge words
of_verb verbs.Scan words = alone commands.Scan words
of_verb verbs.Rest words = alone commands.Rest words
of_verb verbs.Snap words = alone commands.Snap words
of_verb verbs.Gets words = gets_of words
of_verb verbs.Unsnap words = number_alone words >>= λ n. Ok (commands.Unsnap n)

-- the words that name commands
abbrev pub verbs_by_word : List (List ℕ × Verb)
verbs_by_word =
    (codes "put", verbs.Put)
    ∷ (codes "delete", verbs.Delete)
    ∷ (codes "get", verbs.Get)
    ∷ (codes "getp", verbs.Getp)
    ∷ (codes "flush", verbs.Flush)
    ∷ (codes "compact", verbs.Compact)
    ∷ (codes "create", verbs.Create)
    ∷ (codes "open", verbs.Open)
    ∷ (codes "release", verbs.Release)
    ∷ (codes "drop", verbs.Drop)
    ∷ (codes "set", verbs.Set)
    ∷ (codes "pin", verbs.Pin)
    ∷ (codes "unpin", verbs.Unpin)
    ∷ (codes "hold", verbs.Hold)
    ∷ (codes "unhold", verbs.Unhold)
    ∷ (codes "live", verbs.Live)
    ∷ (codes "purge", verbs.Purge)
    ∷ (codes "scan", verbs.Scan)
    ∷ (codes "rest", verbs.Rest)
    ∷ (codes "snap", verbs.Snap)
    ∷ (codes "gets", verbs.Gets)
    ∷ (codes "unsnap", verbs.Unsnap)
    ∷ []

-- what stands beside the word in the table
abbrev pub named_by : List (List ℕ × Verb) → List ℕ → Option Verb
named_by [] word = None
named_by (named ∷ table) word = if bytes_eq word named.0 then Some named.1 else named_by table word

-- which command a word names
unfoldable pub verb_of : List ℕ → Option Verb
verb_of word = named_by verbs_by_word word

-- the command that words are: its own word, and those that it wants
unfoldable pub command_of : Words → Result Command BadKind
command_of [] = Err kinds.Command
command_of (word ∷ words) = do
  verb ← or_bad kinds.Command (verb_of word)
  of_verb verb words
