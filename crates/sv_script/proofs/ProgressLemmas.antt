-- Lines read one after another: how `finish` goes on.
use Rattle.std.proofs.Common.{◌≡◌, ℕ, ◌+◌, Bool, true, false, cond, eqb, List, [], ◌∷◌, ◌++◌, ◌<◌, ◌≤◌}
use Rattle.std.proofs.Common.{map, drop, get_or, length, Result, Ok, Err}
use Rattle.std.proofs.Common.{refl, sym, ap, ◌∙◌, append_assoc, arith}
use Rattle.std.proofs.lemmas.Bool.Decides.{nat_tests}
use Rattle.std.proofs.lemmas.List.{append-nil, at_drop_all, at_drop_more, length_push}
use Rattle.std.proofs.lemmas.List.Splits.{length-slice_split}
use Rattle.std.proofs.lemmas.List.Sums.{count_by-le-length, sum_by-cons}
use Rattle.std.specs.List.{count_by, slice_split}
use Rattle.std.specs.Str.Lines.{strip_carriage_return}
use Rattle.sv_script.specs.declared.scripts.BadKind.{BadKind}
use Rattle.sv_script.specs.declared.scripts.BadLine.{BadLine}
use Rattle.sv_script.specs.declared.scripts.Line.{Line}
use Rattle.sv_script.specs.declared.scripts.Script.{Script}
use Rattle.sv_script.specs.declared.scripts.ScriptError.{ScriptError}
use Rattle.sv_script.specs.declared.scripts.ScriptError.TheVariants as errors
use Rattle.sv_script.specs.declared.commands.Command.{Command}
use Rattle.sv_script.specs.declared.parsing.errors.WordError.{WordError}
use Rattle.sv_script.specs.declared.parsing.errors.WordError.TheVariants as word_errors
use Rattle.sv_script.specs.declared.parsing.progress.Progress.{Progress}
use Rattle.sv_script.specs.Progress.{StopsAt, finish, finish_at, whole}
use Rattle.sv_script.specs.Reading.{Fails, error_at}
use Rattle.sv_script.specs.Script.{IsParsed, command_line, is_phase_end, is_skipped, lanes_of, lines_from}
use Rattle.sv_script.specs.Script.{phases_of, script_of, then_lines, with_counts}
use Rattle.sv_script.specs.Words.{Words, Lines, lines_of_words, words_of}

-- ---- one line, by its words

-- a skipped line ends no phase
skipped-no_end : (words : Words) → is_skipped words ≡ true → is_phase_end words ≡ false
skipped-no_end [] e = refl
skipped-no_end ([] ∷ words) e = refl
skipped-no_end ((byte ∷ bytes) ∷ words) e =
    let h : byte ≡ 35 = grind (arith, nat_tests) in rw h refl

then-read : (phases number phase lane : ℕ) (command : Command) (front : List Line) (read : Result (List Line) BadLine)
    → whole phases front (then_lines number phase (Ok (lane, command)) read)
    ≡ whole phases (front ++ record { line = number; lane = lane; phase = phase; command = command } ∷ []) read
then-read phases number phase lane command front (Ok lines) =
    ap (λ (ls : List Line). Ok (record { lanes = lanes_of ls; phases = phases; lines = ls })) (simp append_assoc)
then-read phases number phase lane command front (Err bad) = refl

module _ (number phase : ℕ) (front : List Line) (words : Words) (rest : Lines) where
  pub finish-skipped : is_skipped words ≡ true
      → finish_at number phase front (words ∷ rest) ≡ finish_at (number + 1) phase front rest
  unfolding lines_from
  finish-skipped e = rw (e, skipped-no_end words e) refl

  module _ (some : is_skipped words ≡ false) where
    pub finish-phase_end : is_phase_end words ≡ true
        → finish_at number phase front (words ∷ rest) ≡ finish_at (number + 1) (phase + 1) front rest
    unfolding lines_from
    finish-phase_end ends =
        let before = length front in
        let lines : lines_from number phase before (words ∷ rest) ≡ lines_from (number + 1) (phase + 1) before rest =
        rw (some, ends) refl in
        let counted : count_by is_phase_end (words ∷ rest) ≡ 1 + count_by is_phase_end rest =
        sum_by-cons (λ x. cond (is_phase_end x) 1 0) words rest
        ∙ ap (λ (b : Bool). cond b 1 0 + count_by is_phase_end rest) ends in
        let phases : phase + count_by is_phase_end (words ∷ rest) + 1 ≡ phase + 1 + count_by is_phase_end rest + 1 =
        omega (arith, counted) in
        ap (λ (n : ℕ). whole n front (lines_from number phase before (words ∷ rest))) phases
        ∙ ap (whole (phase + 1 + count_by is_phase_end rest + 1) front) lines

    module _ (goes_on : is_phase_end words ≡ false) where
      pub finish-command : (lane : ℕ) (command : Command) → command_line (length front) words ≡ Ok (lane, command)
          → finish_at number phase front (words ∷ rest)
          ≡ finish_at (number + 1) phase
          (front ++ record { line = number; lane = lane; phase = phase; command = command } ∷ []) rest
      unfolding lines_from
      finish-command lane command e =
          let line : Line = record { line = number; lane = lane; phase = phase; command = command } in
          rw (some, goes_on, e, length_push front line)
          (then-read (phase + count_by is_phase_end rest + 1) number phase lane command front
          (lines_from (number + 1) phase (length front + 1) rest))

      finish-bad : (kind : BadKind) → command_line (length front) words ≡ Err kind
          → finish_at number phase front (words ∷ rest) ≡ Err (record { line = number; kind = kind })
      unfolding lines_from
      finish-bad kind e = rw (some, goes_on, e) refl

-- a command line that is not read
pub stops : (read : Progress) (words : Words) (error : WordError)
    → is_skipped words ≡ false → is_phase_end words ≡ false → Fails error (command_line (length read.lines) words)
    → StopsAt read words (error_at read.number error)
stops read words word_errors.OutOfMemory some goes_on e = tt
stops read words (word_errors.Bad kind) some goes_on e =
    λ rest. finish-bad read.number read.phase read.lines words rest some goes_on kind e

-- ---- line by line

-- the words of a line of bytes
abbrev pub line_words : List ℕ → Words
line_words line = words_of (strip_carriage_return line)

abbrev pub pieces : List ℕ → List (List ℕ)
pieces bytes = slice_split (λ byte. eqb byte 10) bytes

-- There are at most as many lines as bytes, and one more.
pub pieces_few : (bytes : List ℕ) → length (pieces bytes) ≤ length bytes + 1
pieces_few bytes =
    let h = length-slice_split (λ byte. eqb byte 10) bytes in
    let few = count_by-le-length (λ byte. eqb byte 10) bytes in
    omega arith

begun : (phases : ℕ) (all : Lines) (read : Result (List Line) BadLine) → phases ≡ phases_of all
    → whole phases [] read ≡ with_counts all read
begun phases all (Ok lines) e = rw e refl
begun phases all (Err bad) e = refl

pub begins : (bytes : List ℕ) → finish_at 1 0 [] (map line_words (drop 0 (pieces bytes))) ≡ script_of bytes
unfolding script_of lines_of_words phases_of
begins bytes =
    let all : Lines = map line_words (pieces bytes) in
    begun (0 + count_by is_phase_end all + 1) all (lines_from 1 0 0 all) (omega arith)

module _ (read : Progress) (ps : List (List ℕ)) (i : ℕ) (total : Result Script BadLine) where
  abbrev pub Left : Type 0
  Left = finish read (map line_words (drop i ps)) ≡ total

  -- the next line of those that are left
  pub next_line : (p d : List ℕ) → i < length ps → p ≡ get_or ps i d → Left
      → finish read (line_words p ∷ map line_words (drop (i + 1) ps)) ≡ total
  next_line p d lt e so_far =
      rw e (sym (at_drop_more (λ (xs : List (List ℕ)). finish read (map line_words xs)) ps i d lt) ∙ so_far)

  -- no line is left
  pub ends : length ps ≤ i → Left
      → total ≡ Ok (record { lanes = lanes_of read.lines; phases = read.phase + 1; lines = read.lines })
  unfolding lines_from
  ends le so_far =
      let all : finish read (map line_words (drop i ps)) ≡ finish read [] =
      at_drop_all (λ (xs : List (List ℕ)). finish read (map line_words xs)) ps i le in
      let phases : read.phase + 0 + 1 ≡ read.phase + 1 = omega arith in
      let none : finish read []
      ≡ Ok (record { lanes = lanes_of read.lines; phases = read.phase + 1; lines = read.lines }) =
      rw (append-nil read.lines, phases) refl in
      sym so_far ∙ all ∙ none

pub fails : (e : ScriptError) (read : Progress) (words : Words) (rest : Lines) (total : Result Script BadLine)
    → StopsAt read words e → finish read (words ∷ rest) ≡ total → IsParsed total (Err e)
fails (errors.Bad bad) read words rest total h so_far = sym so_far ∙ h rest
fails errors.OutOfMemory read words rest total h so_far = tt
