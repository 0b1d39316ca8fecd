-- The words and slots of the table by their meaning, and who holds a SuperVersion.
use Rattle.std.specs.Prelude.{ℕ, ◌+◌, ◌*◌, slice_index, List}
use lib.ListN.{get_elem?}
use mathlib.Core.Option as maybe
use Rattle.atomic_table.specs.Table.{State}
use Rattle.sv_model.specs.Lists.{total, same, at}
use Rattle.sv_rule.specs.Views.{LaneView, SlotView, away, held, borrow}
use Rattle.sv_rule.specs.Blanks.{nobody}
use Rattle.sv_rule.specs.Sums.{below}

-- ---- the 851 words and the 578 slots

-- the locks: word 0 of the state, word 1 of the directory, then one of each cell
abbrev pub cell_word : ℕ → ℕ
cell_word c = 2 + c

abbrev pub number_word : ℕ → ℕ
number_word f = 66 + f

abbrev pub round_word : ℕ
round_word = 82

abbrev pub reference_word : ℕ → ℕ
reference_word place = 83 + place

-- the slot words are numbered by lane and family
abbrev pub spot : ℕ → ℕ → ℕ
spot lane family = lane * 16 + family

abbrev pub slot_word : ℕ → ℕ
slot_word i = 339 + i

abbrev pub slot_home : ℕ → ℕ
slot_home i = 66 + i

-- out of the table's bounds, out with a seat, or at home
abbrev pub Box : Type 0 → Type 0
Box A = maybe.Option (maybe.Option A)

-- ---- what views have

abbrev pub slot_of : LaneView → ℕ → SlotView
slot_of v f = at away v.slots.slot f

-- what lane l has of its slot of family f, and what it cached there
abbrev pub slot_at : List LaneView → ℕ → ℕ → SlotView
slot_at vs l f = slot_of (at nobody vs l) f

abbrev pub cached_at : List LaneView → ℕ → ℕ → ℕ
cached_at vs l f = at 0 (at nobody vs l).slots.cached f

-- how often a slot in a view names the pack
abbrev pub names : ℕ → SlotView → ℕ
names p away = 0
names p (held q) = same p q
names p (borrow q n) = same p q

-- how often a view holds the pack
abbrev pub holds : ℕ → LaneView → ℕ
holds p v = total (names p) v.slots.slot + total (same p) v.hand

abbrev pub owes : ℕ → LaneView → ℕ
owes p v = total (same p) v.owes

module _ {S : Type 0} (s : State S LaneView) where
  abbrev pub word : ℕ → ℕ
  word i = slice_index s.words i

  abbrev pub home : ℕ → Box S
  home k = get_elem? s.homes k

  abbrev pub number : ℕ → ℕ
  number f = word (number_word f)

  abbrev pub reference : ℕ → ℕ
  reference k = word (reference_word k)

  abbrev pub slot : ℕ → ℕ
  slot i = word (slot_word i)

  -- how many hold the pack: number words, slot words, slots in views, and references in hand
  abbrev pub holders : ℕ → ℕ
  holders p = below (λ f. same p (number f)) 16 + below (λ i. same p (slot i)) 512 + total (holds p) s.views

  abbrev pub owers : ℕ → ℕ
  owers p = total (owes p) s.views
