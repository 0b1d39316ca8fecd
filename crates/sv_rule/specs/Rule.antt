-- The rule of the table, in its eight parts.
use Rattle.std.specs.Prelude.{Option}
use Rattle.atomic_table.specs.Table.{State}
use Rattle.sv_model.specs.Books.{Books}
use Rattle.sv_model.specs.Cells.{Cell}
use Rattle.sv_rule.specs.declared.parts.Stored.{Stored}
use Rattle.sv_rule.specs.Views.{LaneView, Work, Disk, Start, Body}
use Rattle.sv_rule.specs.Table.{word, reference, number, slot, holders, owers, round_word}
use Rattle.sv_rule.specs.Home.{Home}
use Rattle.sv_rule.specs.Ledger.{Ledger}
use Rattle.sv_rule.specs.Numbers.{Numbers}
use Rattle.sv_rule.specs.Rounds.{Rounds}
use Rattle.sv_rule.specs.Sweep.{Sweep}
use Rattle.sv_rule.specs.Fresh.{Fresh}
use Rattle.sv_rule.specs.Held.{Held}
use Rattle.sv_rule.specs.InHand.{WorkHeld}

module _ {S D C B : Type 0} (books : S → Books) (disk : D → Disk) (cell : C → Option Cell) (body : B → Body) where
  pub record Kept (s : State (Stored S D C B) LaneView) : Type 0 where
    -- the books and the work, at home or in hand; what was so at the opening; and the directory
    pub b : Books
    pub work : Work
    pub start : Start
    pub d : Disk
    -- the parts
    pub home : Home books disk b work d s
    pub ledger : Ledger b.supers (reference s) (holders s) (owers s) s.views
    pub numbers : Numbers b work (number s)
    pub rounds : Rounds b work (word s round_word) (number s) s.views
    pub sweep : Sweep work (number s) (slot s) s.views
    pub fresh : Fresh b (number s) s.views
    pub held : Held cell body b start.disk d s
    pub in_hand : WorkHeld b work start d (number s) s.views
