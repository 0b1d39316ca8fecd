-- What the work of the lane with the DB lock means for the words.
use Rattle.std.specs.Prelude.{◌≢◌, ℕ, ◌==◌, cond, nat_le, ◌<◌, ◌≤◌, true, List}
use Rattle.sv_model.specs.Lists.{total, same}
use Rattle.sv_model.specs.Books.{Books}
use Rattle.sv_model.specs.Supers.{current_of}
use Rattle.sv_rule.specs.Views.{Work, idle, opens, begun, sweeping}
use Rattle.sv_rule.specs.Table.{spot}

-- the family of a work that is set or begun: its number word may differ from its current
abbrev pub excepts : ℕ → Work → ℕ
excepts f (opens g) = same g f
excepts f (begun g) = same g f
excepts f w = 0

-- a work that is set, and one that is begun
abbrev pub sets : Work → ℕ
sets (opens g) = 1
sets w = 0

abbrev pub sets_on : ℕ → Work → ℕ
sets_on f (opens g) = same g f
sets_on f w = 0

abbrev pub begins : Work → ℕ
begins (begun g) = 1
begins w = 0

-- The pack that the slot of family f of lane l may name, where n is the number word: in a sweep of f the old pack,
-- and none once the lane is passed.
abbrev pub fit : Work → ℕ → ℕ → ℕ → ℕ
fit (sweeping g old m mid taken) f l n = cond (g == f) (cond (nat_le m l) old 0) n
fit w f l n = n

-- a sweep is in the middle of slot i
abbrev pub middle : ℕ → Work → ℕ
middle i (sweeping f old m true taken) = same (spot m f) i
middle i w = 0

-- the old pack of a sweep is not the number word
abbrev pub Apart : (ℕ → ℕ) → Work → Type 0
Apart number (sweeping g old m mid taken) = g < 16 → 256 ≤ old → old ≢ number g
Apart number w = Unit {0}

-- The lane of a work has in hand the new current, or the old pack once more than the sweep took and has not dropped.
abbrev pub Stock : Books → Work → List ℕ → Type 0
Stock b idle hand = Unit {0}
Stock b (opens f) hand = 256 ≤ current_of b f → 0 < total (same (current_of b f)) hand
Stock b (begun f) hand = 256 ≤ current_of b f → 0 < total (same (current_of b f)) hand
Stock b (sweeping f old m mid taken) hand = 256 ≤ old → taken < total (same old) hand
