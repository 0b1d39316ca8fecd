-- The lines of the one lane, with their replies.
use Rattle.std.specs.Prelude.{◌≡◌, ◌≤◌, ℕ, List, Option, is_some, map}
use Rattle.sv_model.specs.Books.{Books}
use Rattle.sv_model.specs.Faults.{RoseBy}
use Rattle.sv_model.specs.Files.{Files}
use Rattle.sv_script.specs.Answered.{answered, dir_faults}
use Rattle.sv_script.specs.declared.replies.Reply.{Reply}
use Rattle.sv_script.specs.declared.scripts.Line.{Line}
use Rattle.sv_replies.specs.Makes.{MakesAll}
use Rattle.sv_replies.specs.Told.{AloneTold}
use Rattle.sv_state.specs.Follows.{Follows}
use Rattle.sv_answers.specs.Answered.{IsHeld, LeavesOthers, alone}

-- the books, the files of the directory, where it tells them, and its count of faults
pub record Moment : Type 0 where
  pub books : Books
  pub files : Option Files
  pub faults : ℕ

-- Each line has one reply, in order. The lane was told so, and nothing else: its replies fit the books, the journal has
-- just the writes that were accepted, each get looked at just those before it, nothing was purged or ended twice, and
-- what was made is what the replies show. The directory failed at least as often as the lane was told. No Gone number
-- has a file, where none had one before the first line, and of the directory only files of registered numbers changed.
pub record Played (start now : Moment) (lines : List Line) (replies : List (ℕ × Reply)) : Type 0 where
  pub numbers : map (λ (r : ℕ × Reply). r.0) replies ≡ map (λ line. line.line) lines
  pub lane : AloneTold (alone (is_some start.files)) now.books (answered lines replies)
  pub told : is_some now.files ≡ is_some start.files
  pub held : IsHeld now.books now.files
  pub others : LeavesOthers start.books now.books start.files now.files
  pub later : start.faults ≤ now.faults
  pub faults : RoseBy (dir_faults (answered lines replies)) start.faults now.faults
  pub follows : Follows start.books now.books
  pub makes : MakesAll start.books now.books (answered lines replies)
