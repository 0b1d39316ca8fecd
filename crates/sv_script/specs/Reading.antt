-- How words are read one after another, and what a function that reads some answers.
use Rattle.std.specs.Prelude.{◌≡◌, ℕ, Option, Some, None, Result, Ok, Err}
use Rattle.sv_script.specs.declared.scripts.BadKind.{BadKind}
use Rattle.sv_script.specs.declared.scripts.ScriptError.{ScriptError}
use Rattle.sv_script.specs.declared.scripts.ScriptError.TheVariants as script_errors
use Rattle.sv_script.specs.declared.parsing.errors.WordError.{WordError}
use Rattle.sv_script.specs.declared.parsing.errors.WordError.TheVariants as errors

infixl 10 ◌>>=◌
abbrev pub ◌>>=◌ : {A B : Type 0} → Result A BadKind → (A → Result B BadKind) → Result B BadKind
(Ok x) >>= f = f x
(Err kind) >>= f = Err kind

-- what is there, else this kind
abbrev pub or_bad : {A : Type 0} → BadKind → Option A → Result A BadKind
or_bad kind (Some x) = Ok x
or_bad kind None = Err kind

abbrev pub Fails : {A : Type 0} → WordError → Result A BadKind → Type 0
Fails errors.OutOfMemory read = Unit {0}
Fails (errors.Bad kind) read = read ≡ Err kind

-- The answer is what reading gives; out of memory may stand in place of any.
abbrev pub Gives : {A : Type 0} → Result A WordError → Result A BadKind → Type 0
Gives (Ok x) read = read ≡ Ok x
Gives (Err error) read = Fails error read

-- why the words of the line of this number are not read
abbrev pub error_at : ℕ → WordError → ScriptError
error_at number (errors.Bad kind) = script_errors.Bad (record { line = number; kind = kind })
error_at number errors.OutOfMemory = script_errors.OutOfMemory
