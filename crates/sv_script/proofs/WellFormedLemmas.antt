-- Every script is well formed, from the grammar alone: `script_of` against `IsWellFormed`.
use Rattle.std.proofs.Common.{◌≡◌, ℕ, ◌+◌, ◌≤◌, ◌<◌, max, Bool, true, false, cond, ◌&&◌, leb, ltb, List, [], ◌∷◌}
use Rattle.std.proofs.Common.{map, fold, length, Option, Some, None, Result, Ok}
use Rattle.std.proofs.Common.{Err, IfOk, refl, sym, ap, subst, ◌∙◌, arith}
use Rattle.std.specs.Prelude.{T}
use Rattle.std.proofs.lemmas.Bool.Decides.{nat_tests}
use Rattle.std.proofs.lemmas.List.Elements.{All-from_recursion}
use Rattle.std.proofs.lemmas.List.Sums.{sum_by-cons}
use Rattle.std.specs.List.{AllByRecursion, count_by}
use Rattle.sv_model.specs.declared.limits.TheConstants.{MAX_LANES}
use Rattle.sv_script.specs.declared.scripts.TheConstants.{MAX_COMMANDS}
use Rattle.sv_script.specs.declared.scripts.BadKind.{BadKind}
use Rattle.sv_script.specs.declared.scripts.BadKind.TheVariants as kinds
use Rattle.sv_script.specs.declared.scripts.BadLine.{BadLine}
use Rattle.sv_script.specs.declared.scripts.Line.{Line}
use Rattle.sv_script.specs.declared.scripts.Script.{Script}
use Rattle.sv_script.specs.declared.scripts.ScriptError.{ScriptError}
use Rattle.sv_script.specs.declared.commands.Command.{Command}
use Rattle.sv_script.specs.Built.{IsBuilt, is_built, may_run}
use Rattle.sv_script.specs.Commands.{command_of}
use Rattle.sv_script.specs.Numbers.{in_lanes, lane_of, number_of}
use Rattle.sv_script.specs.Reading.{◌>>=◌, or_bad}
use Rattle.sv_script.specs.Script.{IsParsed, command_line, is_phase_end, is_skipped, lane_and_command, lanes_of}
use Rattle.sv_script.specs.Script.{lines_from, phases_of, script_of, then_lines, with_counts}
use Rattle.sv_script.specs.Words.{Words, Lines, lines_of_words}
use Rattle.sv_script.specs.ScriptLaws.{AreInOrder, IsRunnable, IsWellFormed}

-- ---- what was read where reading gave something

bind_ok : {A B : Type 0} (r : Result A BadKind) (f : A → Result B BadKind) (y : B) → (r >>= f) ≡ Ok y
    → (x : A) × (r ≡ Ok x) × (f x ≡ Ok y)
bind_ok (Ok x) f y e = (x, refl, e)
bind_ok (Err kind) f y e = absurd (cc)

guard_ok : {A : Type 0} (b : Bool) (r : Result A BadKind) (y : A) (kind : BadKind)
    → cond {A = Result A BadKind} b r (Err kind) ≡ Ok y → (b ≡ true) × (r ≡ Ok y)
guard_ok true r y kind e = (refl, e)
guard_ok false r y kind e = absurd (cc)

there : {A : Type 0} (o : Option A) (y : A) (kind : BadKind) → or_bad kind o ≡ Ok y → o ≡ Some y
there (Some x) y kind e = cc
there None y kind e = absurd (cc)

both : (a b : Bool) → (a && b) ≡ true → (a ≡ true) × (b ≡ true)
both true b e = (refl, e)
both false b e = absurd (cc)

kept : (b : Bool) (m n : ℕ) → cond {A = Option ℕ} b (Some m) None ≡ Some n → (b ≡ true) × (m ≡ n)
kept true m n e = (refl, cc)
kept false m n e = absurd (cc)

-- ---- one line

built : (command : Command) → is_built command ≡ true → IsBuilt command
built command e = subst T (sym e) tt

is_lane : (o : Option ℕ) (n : ℕ) → in_lanes o ≡ Some n → 1 ≤ n
is_lane None n e = absurd (cc)
is_lane (Some m) n e =
    let k = kept (leb 1 m && leb m MAX_LANES) m n e in
    let h = both (leb 1 m) (leb m MAX_LANES) k.0 in
    let a : leb 1 m ≡ true = h.0 in
    let b : m ≡ n = k.1 in
    grind (arith, nat_tests)

-- a lane and a command that are read
record IsRead (read : ℕ × Command) : Type 0 where
  lane : read.0 ≡ 1
  built : IsBuilt read.1

abbrev checked : ℕ → Command → Result (ℕ × Command) BadKind
checked lane command = cond (may_run lane command) (Ok (lane, command)) (Err kinds.Unbuilt)

read_ok : (words : Words) (read : ℕ × Command) → lane_and_command words ≡ Ok read → IsRead read
unfolding lane_and_command lane_of
read_ok [] read e = absurd (cc)
read_ok (word ∷ words) read e =
    let l = bind_ok (or_bad kinds.Lane (in_lanes (number_of word)))
    (λ lane. command_of words >>= λ command. checked lane command) read e in
    let c = bind_ok (command_of words) (λ command. checked l.0 command) read l.2 in
    let g = guard_ok (may_run l.0 c.0) (Ok (l.0, c.0)) read kinds.Unbuilt c.2 in
    let same : (l.0, c.0) ≡ read = cc in
    let h = both (leb l.0 1) (is_built c.0) g.0 in
    let low : 1 ≤ l.0 = is_lane (number_of word) l.0 (there (in_lanes (number_of word)) l.0 kinds.Lane l.1) in
    let high : leb l.0 1 ≡ true = h.0 in
    let one : l.0 ≡ 1 = grind (arith, nat_tests) in
    subst IsRead {x = (l.0, c.0)} same (record { lane = one; built = built c.0 h.1 })

line_ok : (before : ℕ) (words : Words) (read : ℕ × Command) → command_line before words ≡ Ok read
    → (before < MAX_COMMANDS) × IsRead read
unfolding command_line
line_ok before words read e =
    let g = guard_ok (ltb before MAX_COMMANDS) (lane_and_command words) read kinds.Commands e in
    let few : ltb before MAX_COMMANDS ≡ true = g.0 in
    (grind (arith, nat_tests), read_ok words read g.1)

-- ---- line by line

-- lines that are read, from a number and a phase on, after so many command lines
record Good (number phase before phases : ℕ) (lines : List Line) : Type 0 where
  runnable : AllByRecursion (IsRunnable phases) lines
  order : AreInOrder number phase lines
  few : before + length lines ≤ MAX_COMMANDS

lower : (m n p q : ℕ) (lines : List Line) → n ≤ m → p ≤ q → AreInOrder m q lines → AreInOrder n p lines
lower m n p q [] a b h = tt
lower m n p q (line ∷ lines) a b h =
    let i : m ≤ line.line = h.0 in
    let j : q ≤ line.phase = h.1 in
    (omega arith, omega arith, h.2)

parted : (number phase : ℕ) (read : ℕ × Command) (rest : Result (List Line) BadLine) (lines : List Line)
    → then_lines number phase (Ok read) rest ≡ Ok lines
    → (more : List Line) × (rest ≡ Ok more)
    × (record { line = number; lane = read.0; phase = phase; command = read.1 } ∷ more ≡ lines)
parted number phase read (Ok more) lines e = (more, refl, cc)
parted number phase read (Err bad) lines e = absurd (cc)

module _ (phases : ℕ) where
  -- lines that fit into the phases are good from wherever they are read
  abbrev Goes : Lines → Type 0
  Goes rest = (number phase before : ℕ) (lines : List Line) → 1 ≤ number → before ≤ MAX_COMMANDS
      → phase + count_by is_phase_end rest + 1 ≤ phases → lines_from number phase before rest ≡ Ok lines
      → Good number phase before phases lines

  module _ (n p b : ℕ) (words : Words) (rest : Lines) (lines : List Line) (one : 1 ≤ n) (few : b ≤ MAX_COMMANDS)
      (fits : p + count_by is_phase_end (words ∷ rest) + 1 ≤ phases) (more : Goes rest)
      (e : lines_from n p b (words ∷ rest) ≡ Ok lines) where
    counted : (ends : Bool) → is_phase_end words ≡ ends
        → count_by is_phase_end (words ∷ rest) ≡ cond ends 1 0 + count_by is_phase_end rest
    counted ends en =
        sum_by-cons (λ x. cond (is_phase_end x) 1 0) words rest
        ∙ ap (λ (c : Bool). cond c 1 0 + count_by is_phase_end rest) en

    -- of a line that is no command line, the lines after it are good
    passed : (q : ℕ) → p ≤ q → q + count_by is_phase_end rest + 1 ≤ phases
        → lines_from n p b (words ∷ rest) ≡ lines_from (n + 1) q b rest → Good n p b phases lines
    passed q le room same =
        let g = more (n + 1) q b lines (omega arith) few room (sym same ∙ e) in
        record { runnable = g.runnable; order = lower (n + 1) n p q lines (omega arith) le g.order; few = g.few }

    by_line : (skipped : Bool) → is_skipped words ≡ skipped → (ends : Bool) → is_phase_end words ≡ ends
        → (read : Result (ℕ × Command) BadKind) → command_line b words ≡ read → Good n p b phases lines
    unfolding lines_from
    by_line true sk ends en read re =
        let c = counted ends en in
        passed p (omega arith) (omega arith) (rw sk refl)
    by_line false sk true en read re =
        let c = counted true en in
        passed (p + 1) (omega arith) (omega arith) (rw (sk, en) refl)
    by_line false sk false en (Err kind) re =
        let same : lines_from n p b (words ∷ rest) ≡ Err (record { line = n; kind = kind }) = rw (sk, en, re) refl in
        absurd (cc)
    by_line false sk false en (Ok read) re =
        let after = lines_from (n + 1) p (b + 1) rest in
        let same : lines_from n p b (words ∷ rest) ≡ then_lines n p (Ok read) after = rw (sk, en, re) refl in
        let ok = line_ok b words read re in
        let q = parted n p read after lines (sym same ∙ e) in
        let c = counted false en in
        let room : b < MAX_COMMANDS = ok.0 in
        let g = more (n + 1) p (b + 1) q.0 (omega arith) (omega arith) (omega arith) q.1 in
        let size : b + 1 + length q.0 ≤ MAX_COMMANDS = g.few in
        let line : Line = record { line = n; lane = read.0; phase = p; command = read.1 } in
        let first : Good n p b phases (line ∷ q.0) = record {
          runnable = (
            record { numbered = one; phase = omega arith; lane = ok.1.lane; built = ok.1.built },
            g.runnable,
          );
          order = (omega arith, omega arith, g.order);
          few = omega arith;
        } in
        subst (Good n p b phases) {x = line ∷ q.0} q.2 first

  good : (parts : Lines) → Goes parts
  unfolding lines_from
  good [] = λ n p b ls one few fits e.
      let nil : [] ≡ ls = cc in
      subst (Good n p b phases) nil (record { runnable = tt; order = tt; few = omega arith })
  good (words ∷ rest) = λ n p b ls one few fits e.
      by_line n p b words rest ls one few fits (good rest) e
      (is_skipped words) refl (is_phase_end words) refl (command_line b words) refl

  -- every lane is 1
  most_one : (lines : List Line) → AllByRecursion (IsRunnable phases) lines
      → fold max 1 (map (λ line. line.lane) lines) ≡ 1
  most_one [] h = refl
  most_one (line ∷ lines) h =
      let e : line.lane ≡ 1 = h.0.lane in
      rw e (most_one lines h.1)

  one_lane : (lines : List Line) → AllByRecursion (IsRunnable phases) lines → lanes_of lines ≡ 1
  unfolding lanes_of
  one_lane lines h = most_one lines h

-- ---- the script

script_well : (all : Lines) (read : Result (List Line) BadLine) (script : Script)
    → lines_from 1 0 0 all ≡ read → with_counts all read ≡ Ok script → IsWellFormed script
unfolding phases_of lanes_of
script_well all (Err bad) script l e = absurd (cc)
script_well all (Ok lines) script l e =
    let phases = count_by is_phase_end all + 1 in
    let g = good phases all 1 0 0 lines (omega arith) (omega arith) (omega arith) l in
    let made : Script = record { lanes = lanes_of lines; phases = phases; lines = lines } in
    let same : made ≡ script = cc in
    let first : IsWellFormed made = record {
      lanes = one_lane phases lines g.runnable;
      runnable = All-from_recursion (IsRunnable phases) lines g.runnable;
      order = g.order;
      few = omega arith;
    } in
    subst IsWellFormed same first

well_formed : (bytes : List ℕ) (script : Script) → script_of bytes ≡ Ok script → IsWellFormed script
unfolding script_of
well_formed bytes script e = script_well (lines_of_words bytes) (lines_from 1 0 0 (lines_of_words bytes)) script refl e

pub parsed_well : (bytes : List ℕ) (result : Result Script ScriptError) → IsParsed (script_of bytes) result
    → IfOk result (λ script. IsWellFormed script)
parsed_well bytes (Ok script) e = well_formed bytes script e
parsed_well bytes (Err error) e = tt
