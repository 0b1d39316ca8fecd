-- Each part of the rule, computed on the small world.
use Rattle.sv_model.specs.declared.writes.Op.TheVariants as op
use Rattle.std.proofs.Common.{None, Some, [], ap, arith, inl, length, refl, suc, true, zero, ℕ, ◌*◌, ◌+◌, ◌∷◌, ◌≡◌, ◌≤◌}
use Rattle.sv_model.specs.Described.{IsFileOf}
use Rattle.sv_model.specs.Journal.{by_lane}
use Rattle.sv_model.specs.Lists.{Every, same, times, total, at}
use Rattle.sv_model.specs.Registers.{entry}
use Rattle.sv_model.specs.declared.records.Memtable.{Memtable}
use Rattle.sv_rule.specs.Fits.{BodyFits, IsFrozenAt}
use Rattle.sv_rule.specs.Fresh.{FreshOf}
use Rattle.sv_rule.specs.Held.{Occupied, Says, has_rows, is_vacant}
use Rattle.sv_rule.specs.Holding.{by_hand, by_number, by_word, holders_of}
use Rattle.sv_rule.specs.Numbers.{NumberOk}
use Rattle.sv_rule.specs.Rounds.{Loaded}
use Rattle.sv_rule.specs.Sums.{below}
use Rattle.sv_model.specs.Supers.{IsPackOf, current_of, has_current}
use Rattle.sv_model.specs.Tasks.{handle, has_job}
use Rattle.sv_rule.specs.Sweep.{Right}
use Rattle.sv_rule.specs.Table.{cached_at, holders, number, owers, reference, slot, slot_at, slot_of, spot, word}
use Rattle.sv_rule.specs.Tasks.{all_adds, has_db, has_dir, is_spent, joined_count, lanes}
use Rattle.sv_rule.specs.UnderWay.{Apart, Stock, fit, middle, sets}
use Rattle.sv_rule.specs.Views.{LaneView}
use Rattle.sv_rule.proofs.Basics.{every_cons, every_none, get_none, some_is}
use Rattle.sv_rule.proofs.CurrentLaws.{serial_le}
use Rattle.sv_rule.proofs.SmallWorld.{Small, b, it, lane0, lane1, m1, m2, s1, s2, vs, work}

-- ---- Home

pub home-small : (total has_db vs ≡ word Small 0) × (total has_dir vs ≡ word Small 1)
    × ((l : ℕ) → total (lanes l) vs ≡ same l 0 + same l 1) × (total is_spent vs ≡ total joined_count vs)
home-small = (refl, refl, (λ l. omega arith), refl)

-- ---- Ledger

pub ledger-small : (reference Small 0 ≡ 1 * 4294967296 + holders Small 256)
    × (reference Small 1 ≡ 2 * 4294967296 + holders Small 513) × (owers Small 256 ≡ 0)
unfolding below
ledger-small = (refl, refl, refl)

pub holders-small : (holders_of Small 256 ≡ by_word 16 ∷ by_hand 0 0 ∷ []) × (holders_of Small 513 ≡ by_number 0 ∷ [])
holders-small = (refl, refl)

-- ---- Numbers

pub current-small : current_of b 0 ≡ 513
current-small = refl

pack1 : IsPackOf b.supers 0 256
pack1 = record { sv = s1; is = refl; family = refl; place = refl }

pack2 : IsPackOf b.supers 0 513
pack2 = record { sv = s2; is = refl; family = refl; place = refl }

pub number-small : NumberOk b work 0 (number Small 0)
number-small = record {
  current = λ _. refl;
  marks = λ z. absurd (omega (arith, z));
  is = λ _. pack2;
  other = λ z. absurd (omega arith);
  last = λ _ t s. inl (serial_le b.supers 0 t s).1;
  first = λ z. absurd (omega arith);
  ends = λ _. refl;
}

-- ---- Rounds

pub round-small : (word Small 82 ≡ total all_adds vs) ×
    (word Small 82 + below (has_current b) 16 + sets work ≤ length b.supers + length b.families)
unfolding below
round-small = (refl, omega arith)

-- what lane 1 loaded in this round is the number word still
pub loaded-small : Every (Loaded b work 0 (number Small)) lane1.loads
loaded-small = every_cons (Loaded b work 0 (number Small)) (record { family = 0; pack = 513 }) [] (record {
  near = omega arith;
  is = λ _. pack2;
  still = λ n. absurd (n refl);
  after = λ _ _ t s newer. absurd (omega (arith, (serial_le b.supers 0 t s).1, newer));
}) (every_none (Loaded b work 0 (number Small)))

-- ---- Sweep

-- lane 0 is passed, and its slot is empty
pub passed-small : Right (fit work 0 0 (number Small 0)) (middle (spot 0 0) work) (slot Small (spot 0 0))
    (number Small 0) (cached_at vs 0 0) (slot_at vs 0 0)
passed-small = record {
  empty = λ _. refl;
  full = λ z. absurd (omega (arith, z));
  out = λ z. absurd (omega (arith, z));
  cached = λ z. absurd (omega (arith, z));
  fitting = λ z. absurd (omega (arith, z));
  used = λ z. absurd (omega (arith, z));
  away = λ _ z. absurd (omega (arith, z));
  none = λ _. refl;
}

-- lane 1 is not, and its slot has the old pack
pub unpassed-small : Right (fit work 0 1 (number Small 0)) (middle (spot 1 0) work) (slot Small (spot 1 0))
    (number Small 0) (cached_at vs 1 0) (slot_at vs 1 0)
unpassed-small = record {
  empty = λ z. absurd (omega (arith, z));
  full = λ _. refl;
  out = λ _ z. absurd (omega (arith, z));
  cached = λ _. refl;
  fitting = λ _. refl;
  used = λ z. absurd (omega (arith, z));
  away = λ _ _ z. absurd (omega (arith, z));
  none = λ z. absurd (omega arith);
}

pub stock-small : Apart (number Small) work × Stock b work lane0.hand
stock-small = ((λ _ _ e. omega (arith, e)), (λ _. omega arith))

-- ---- Fresh

pub fresh-small : FreshOf b (number Small 0) 0 (slot_of lane1 0) (at 0 lane1.slots.cached 0)
    (at 0 lane1.slots.looked 0) (at 0 lane1.known.seen 0)
fresh-small = record {
  slot = λ z. absurd (omega (arith, z));
  cached = λ _. record { is = pack1; below = λ _. omega arith; none = λ z. absurd (omega (arith, z)) };
  looked = λ _. record { is = pack2; below = λ _. omega arith; none = λ z. absurd (omega (arith, z)) };
  floor = omega arith;
  seen_is = omega arith;
}

-- ---- Held

-- cell 0 has the row of memtable 1, cell 1 has memtable 2 without rows, and cell 2 is vacant
pub cells-small : Says b vs 0 (Some (record { id = 1; rows = record { key = 107 ∷ []; op = op.Delete } ∷ [] }))
    × Says b vs 1 (Some (record { id = 2; rows = [] })) × Says b vs 2 None
cells-small = (
  has_rows (record { id = 1; it = m1; at = refl; live = refl; is = refl }) refl,
  has_rows (record { id = 2; it = m2; at = refl; live = refl; is = refl }) refl,
  is_vacant no_memtable refl,
)
  where
    no_cell : (n : ℕ) (m : Memtable) → entry b.memtables n ≡ Some m → m.cell ≡ 2 → ⊥
    no_cell zero m e is = absurd (cc)
    no_cell (suc zero) m e is = omega (arith, ap (λ (x : Memtable). x.cell) (some_is e), is)
    no_cell (suc (suc zero)) m e is = omega (arith, ap (λ (x : Memtable). x.cell) (some_is e), is)
    no_cell (suc (suc (suc n))) m e is = absurd (cc)

    no_memtable : Occupied b.memtables 2 → ⊥
    no_memtable o = no_cell o.id o.it o.at o.is

-- ---- Work

pub work-small : (by_lane 1 b.journal ≡ lane1.known.mine) × (by_lane 0 b.journal ≡ lane0.known.mine)
    × (total (λ (u : LaneView). has_job u.known.task) vs ≡ b.files.jobs)
    × (handle b.families 1 0 ≡ times 0 lane1.known.task.handles)
work-small = (refl, refl, refl, refl)

-- ---- what fits

pub body-small : BodyFits b it
body-small = record {
  serial = 1;
  super = s1;
  at = refl;
  pack_is = refl;
  within = omega arith;
  descriptor = refl;
  fits = record {
    active = m1;
    active_at = refl;
    active_family = refl;
    base = refl;
    within = omega arith;
    list = record { members = []; live = true };
    list_at = refl;
    version = record { files = []; live = true };
    version_at = refl;
    middle = 0;
    files = record {
      joins = refl;
      each = every_none (IsFileOf b.files.numbers b.metas 0);
      above = λ i f e. absurd (get_none i f e);
    };
    members = refl;
  };
  cell_is = refl;
  members = refl;
  frozen = every_none (IsFrozenAt b);
  files = refl;
}
