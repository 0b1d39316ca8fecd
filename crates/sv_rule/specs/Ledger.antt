-- Each reference word counts the holders of the SuperVersion at its place.
use Rattle.std.specs.Prelude.{◌≡◌, ◌≢◌, ◌⊎◌, ℕ, ◌+◌, ◌*◌, ◌<◌, ◌≤◌, List, length}
use Rattle.sv_model.specs.declared.records.SuperVersion.{SuperVersion}
use Rattle.sv_rule.specs.Sums.{Each}
use Rattle.sv_model.specs.Supers.{LiveAt, pack}
use Rattle.sv_rule.specs.Views.{LaneView}

-- No SuperVersion is Live at place k, and its word w is 0. By h a pack's holders are counted, by o the views that owe
-- its cleanup.
pub record Vacant (supers : List SuperVersion) (h o : ℕ → ℕ) (k w : ℕ) : Type 0 where
  pub word : w ≡ 0
  pub dead : (t : ℕ) → LiveAt supers t k → ⊥
  pub unheld : (t : ℕ) → 0 < t → h (pack t k) ≡ 0
  pub unowed : (t : ℕ) → 0 < t → o (pack t k) ≡ 0

-- One SuperVersion is Live at place k, and its word w has its serial and its count. Where no one holds it, one view
-- owes its cleanup.
pub record Counted (supers : List SuperVersion) (h o : ℕ → ℕ) (k w : ℕ) : Type 0 where
  pub serial : ℕ
  pub word : w ≡ serial * 4294967296 + h (pack serial k)
  pub live : LiveAt supers serial k
  pub only : (t : ℕ) → LiveAt supers t k → t ≡ serial
  pub others_unheld : (t : ℕ) → 0 < t → t ≢ serial → h (pack t k) ≡ 0
  pub others_unowed : (t : ℕ) → 0 < t → t ≢ serial → o (pack t k) ≡ 0
  pub owed : h (pack serial k) ≡ 0 → o (pack serial k) ≡ 1
  pub unowed : 0 < h (pack serial k) → o (pack serial k) ≡ 0

-- every place, by the reference words
abbrev pub Places : List SuperVersion → (ℕ → ℕ) → (ℕ → ℕ) → (ℕ → ℕ) → Type 0
Places supers ref h o = (k : ℕ) → k < 256 → Vacant supers h o k (ref k) ⊎ Counted supers h o k (ref k)

-- so many references a lane may have in hand
abbrev pub most_hand : ℕ
most_hand = 65600

pub record Ledger (supers : List SuperVersion) (ref h o : ℕ → ℕ) (vs : List LaneView) : Type 0 where
  pub places : Places supers ref h o
  pub hands : Each (λ j v. length v.hand ≤ most_hand) vs
