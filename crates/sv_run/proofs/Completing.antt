-- Where nothing is wrong with the words and the script and nothing fails, the lines are answered.
use Rattle.std.proofs.Common.{◌≡◌, ◌≤◌, ◌+◌, inl, inr, ℕ, true, false, List, [], ◌∷◌, length, Option, Some, None, Result, Ok, Err, refl, sym, ap, ◌∙◌, subst, arith}
use Rattle.std.specs.Prelude.{IsSome, IsSomeAnd, IfSome, codes}
use Rattle.sv_model.specs.declared.End.{End}
use Rattle.sv_model.specs.declared.End.TheVariants as end
use Rattle.sv_model.specs.Faults.{Rose, RoseBy}
use Rattle.sv_script.specs.declared.Script.{Script}
use Rattle.sv_script.specs.declared.BadLine.{BadLine}
use Rattle.sv_script.specs.Script.{script_of}
use Rattle.sv_run.specs.declared.outcomes.Done.{Done}
use Rattle.sv_run.specs.declared.outcomes.Status.{Status}
use Rattle.sv_run.specs.declared.outcomes.Status.TheVariants as status
use Rattle.sv_run.specs.Ends.{IsScript, IsBad, IsDoneAs, Ends, Completes, Helps, faults_at_close, left_of}
use Rattle.sv_run.specs.Handed.{Input, Directory, Output}
use Rattle.sv_run.specs.RunWords.{AreRun, IsHelp, dir_word}
use Rattle.sv_run.specs.Transfers.{IsLong}

apart : (r : Result Script BadLine) (s : Script) (b : BadLine) → r ≡ Ok s → r ≡ Err b → ⊥
apart r s b e f = absurd (cc)

not_bad : (left : Option (List ℕ)) (script : Script) (bad : BadLine) → IsSomeAnd left (IsScript script) → IfSome left (IsBad bad) → ⊥
not_bad None script bad h k = h
not_bad (Some bytes) script bad h k = apart (script_of bytes) script bad h.is k.is

not_long : (left : Option (List ℕ)) (script : Script) → IsSomeAnd left (IsScript script) → IsLong left → ⊥
not_long None script h k = h
not_long (Some bytes) script h k = absurd (omega (arith, h.few, k))

some_left : (l : List ℕ) → (l ≡ [] → ⊥) → 1 ≤ length l
some_left [] h = absurd (h refl)
some_left (x ∷ l) h = omega arith

not_clean : end.DirFault ≡ end.Clean → ⊥
not_clean e = cc

-- a close that failed at the directory failed at some number
rose_at_close : (ended : End) (left : List ℕ) (told before now : ℕ) → ended ≡ end.DirFault → ((left ≡ []) → ended ≡ end.Clean) → RoseBy (told + faults_at_close ended left) before now → Rose before now
rose_at_close ended left told before now is clean rose =
    let some = some_left left (λ none. not_clean (sym is ∙ clean none)) in
    let all = subst (λ z. RoseBy (told + faults_at_close z left) before now) is rose in
    omega (arith, some, all)

closed_refusal : (i : Input) (d : Directory) (done : Done) → IsDoneAs end.DirFault i d done → Rose d.before d.now
closed_refusal i d done h =
    let ran = h.is.ran in
    rose_at_close done.end (left_of done) _ d.before d.now h.close ran.clean.1 ran.faults

pub completes : (i : Input) (d : Directory) (o : Output) (stands : Option Done) (answer : Status) → Ends i d o stands answer → Completes i d o answer
completes i d o stands status.Ok e are script holds reads asks writes = inl refl
completes i d o stands status.OutOfMemory e are script holds reads asks writes = inr refl
completes i d o None status.Usage e are script holds reads asks writes = absurd (e.0.0.0 are)
completes i d o (Some done) status.Usage e are script holds reads asks writes = absurd (e.0.1)
completes i d o None (status.BadScript bad) e are script holds reads asks writes = absurd (not_bad i.left script bad holds e.0.1.0)
completes i d o (Some done) (status.BadScript bad) e are script holds reads asks writes = absurd (e.0.1)
completes i d o None status.ScriptTooLong e are script holds reads asks writes = absurd (not_long i.left script holds e.0.1.0)
completes i d o (Some done) status.ScriptTooLong e are script holds reads asks writes = absurd (e.0.1)
completes i d o None status.ReadFault e are script holds reads asks writes = absurd (reads e.0.1.0)
completes i d o (Some done) status.ReadFault e are script holds reads asks writes = absurd (e.0.1)
completes i d o None status.DirFault e are script holds reads asks writes = absurd (asks e.0.1.rose)
completes i d o (Some done) status.DirFault e are script holds reads asks writes = absurd (asks (closed_refusal i d done e.0.1))
completes i d o stands status.WriteFault e are script holds reads asks writes = absurd (writes e.rose)

none_path : (o : Option (List ℕ)) → o ≡ None → IsSome o → ⊥
none_path None e h = absurd (let q : false ≡ true = h in cc)
none_path (Some path) e h = absurd (cc)

-- who asks for help asks for no run
help_runs : (words : List (List ℕ)) → IsHelp words → AreRun words → ⊥
help_runs words help (inl run) = absurd (let q : codes "--help" ∷ [] ≡ codes "run" ∷ [] = sym help ∙ run in cc)
help_runs words help (inr path) = none_path (dir_word words) (ap dir_word help) path

pub helps : (i : Input) (d : Directory) (o : Output) (stands : Option Done) (answer : Status) → Ends i d o stands answer → Helps i o answer
helps i d o stands status.Ok e help writes = inl refl
helps i d o stands status.OutOfMemory e help writes = inr refl
helps i d o None status.Usage e help writes = absurd (e.0.0.1 help)
helps i d o (Some done) status.Usage e help writes = absurd (help_runs i.words help e.0.0)
helps i d o None (status.BadScript bad) e help writes = absurd (help_runs i.words help e.0.0)
helps i d o (Some done) (status.BadScript bad) e help writes = absurd (help_runs i.words help e.0.0)
helps i d o None status.ScriptTooLong e help writes = absurd (help_runs i.words help e.0.0)
helps i d o (Some done) status.ScriptTooLong e help writes = absurd (help_runs i.words help e.0.0)
helps i d o None status.ReadFault e help writes = absurd (help_runs i.words help e.0.0)
helps i d o (Some done) status.ReadFault e help writes = absurd (help_runs i.words help e.0.0)
helps i d o None status.DirFault e help writes = absurd (help_runs i.words help e.0.0)
helps i d o (Some done) status.DirFault e help writes = absurd (help_runs i.words help e.0.0)
helps i d o stands status.WriteFault e help writes = absurd (writes e.rose)
