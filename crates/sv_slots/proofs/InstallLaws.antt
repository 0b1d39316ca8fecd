-- The laws of installs, at the words that the code computes.
use Rattle.std.proofs.Common.{List, Some, ap, false, length, subst, sym, true, ℕ, ◌%◌, ◌*◌, ◌+◌, ◌/◌, ◌<◌, ◌^◌, ◌∙◌, ◌∷◌, ◌≡◌, ◌≤◌, Option}
use Rattle.atomic_table.specs.Table.{Allows, Me, rest}
use Rattle.sv_model.specs.Books.{Books}
use Rattle.sv_model.specs.Cells.{Cell}
use Rattle.sv_rule_slots.proofs.NumberSwaps.{renumbers}
use Rattle.sv_rule_slots.proofs.Opens.{opens_place}
use Rattle.sv_rule_slots.proofs.Passes.{passes}
use Rattle.sv_rule_slots.proofs.RoundAdds.{rounds_ended}
use Rattle.sv_rule_slots.proofs.Settles.{settles_place}
use Rattle.sv_rule_slots.proofs.Sweeps.{sweeps}
use Rattle.sv_rule.specs.Blanks.{desk_of, old_in, taken_in}
use Rattle.sv_rule.specs.Ledger.{most_hand}
use Rattle.sv_rule.specs.ReferencePlays.{MayOpen, MaySettle, Opened, Settled}
use Rattle.sv_rule.specs.RoundPlays.{EndedCurrent, MayEndCurrent, MaySwap, Numbered}
use Rattle.sv_rule.specs.Rule.{Kept}
use Rattle.sv_rule.specs.SweepPlays.{Passed, Sweeps, Swept}
use Rattle.sv_rule.specs.Table.{number_word, slot_home, slot_word, spot}
use Rattle.sv_rule.specs.Views.{Bodied, Body, Desk, Disk, LaneView, sweeping}
use Rattle.sv_model.specs.Tasks.{Task}
use Rattle.sv_rule.specs.declared.parts.Stored.{Stored}
use Rattle.sv_rule.specs.declared.parts.Stored.TheVariants as is
use Rattle.sv_slots.proofs.Laws.{desk_is_of}
use Rattle.sv_slots.proofs.SlotSteps.{front_of}
use Rattle.sv_slots.specs.Seats.{CarriesNothing}

module _ {S D C B : Type 0} (books : S → Books) (disk : D → Disk) (cell : C → Option Cell) (body : B → Body)
    (n id : ℕ) (m : Me (Stored S D C B) LaneView) where
  pub opens_at : (f : ℕ) (x : Bodied) (b : Books) (u : Task) (d : Desk) (p : ℕ) → p ≡ x.pack → d ≡ desk_of m.0
      → MayOpen m.0 f x b u
      → Allows (Kept books disk cell body) n id m (83 + p % 256) (λ _. p / 256 * 4294967296 + 1) (Opened f x b u d m)
  opens_at f x b u d p is desk may = subst
      (λ (z : ℕ × Desk). Allows (Kept books disk cell body) n id m (83 + z.0 % 256)
      (λ _. z.0 / 256 * 4294967296 + 1) (Opened f x b u z.1 m))
      (λ q. (sym is q, (sym (desk_is_of m.0 may.desk may.has) ∙ sym desk) q))
      (opens_place books disk cell body n id m f x b u may)

  pub ends_at : (f : ℕ) (b : Books) (u : Task) (d : Desk) → d ≡ desk_of m.0 → MayEndCurrent m.0 f b u
      → Allows (Kept books disk cell body) n id m 82 (λ y. (y + 1) % 2 ^ 64) (EndedCurrent f b u d m)
  ends_at f b u d desk may = subst
      (λ (z : Desk). Allows (Kept books disk cell body) n id m 82 (λ y. (y + 1) % 2 ^ 64) (EndedCurrent f b u z m))
      (sym (desk_is_of m.0 may.desk may.has) ∙ sym desk) (rounds_ended books disk cell body n id m f b u may)

  pub numbers_at : (f p i x : ℕ) (olds : List Bodied) (d : Desk) → i ≡ number_word f → x ≡ p → d ≡ desk_of m.0
      → MaySwap m.0 f p olds → Allows (Kept books disk cell body) n id m i (λ _. x) (Numbered d f p olds m)
  numbers_at f p i x olds d at_word is desk may = subst
      (λ (z : ℕ × ℕ × Desk). Allows (Kept books disk cell body) n id m z.0 (λ _. z.1) (Numbered z.2 f p olds m))
      (λ q. (sym at_word q, sym is q, (sym (desk_is_of m.0 may.desk may.has) ∙ sym desk) q))
      (renumbers books disk cell body n id m f p olds may)

  pub settles_at : (p q : ℕ) (b : Books) (u : Task) (cells : List ℕ) (d : Desk) → q ≡ p → d ≡ desk_of m.0
      → MaySettle m.0 p b u cells
      → Allows (Kept books disk cell body) n id m (83 + q % 256) (λ _. 0) (Settled p b u cells d m)
  settles_at p q b u cells d is desk may = subst
      (λ (z : ℕ × Desk). Allows (Kept books disk cell body) n id m (83 + z.0 % 256) (λ _. 0)
      (Settled p b u cells z.1 m))
      (λ k. (sym is k, (sym (desk_is_of m.0 may.desk may.has) ∙ sym desk) k))
      (settles_place books disk cell body n id m p b u cells may)

  module _ (f l i : ℕ) (at_word : i ≡ slot_word (spot l f)) (near : f < 16) (low : l < 32) (d : Desk) (old taken : ℕ)
      (same_desk : d ≡ desk_of m.0) (same_old : old ≡ old_in d.work) (same_taken : taken ≡ taken_in d.work)
      (alive : m.0.seat.spent ≡ false) where
    desk_has : {mid : _} → Sweeps m.0 f l mid → m.0.locks.db ≡ Some d
    desk_has at = at.has ∙ ap (λ (z : Desk). Some z) (sym same_desk)

    desk_work : {mid : _} → Sweeps m.0 f l mid → d.work ≡ sweeping f old l mid taken
    desk_work {mid} at = subst (λ (z : ℕ × ℕ). d.work ≡ sweeping f z.0 l mid z.1)
        (λ c. (sym same_old c, sym same_taken c))
        (subst (λ (z : Desk). z.work ≡ sweeping f (old_in z.work) l mid (taken_in z.work)) (sym same_desk) at.work)

    pub sweeps_at : Sweeps m.0 f l false → length m.0.hand < most_hand
        → Allows (Kept books disk cell body) n id m i (λ _. 2) (Swept body d f old l taken m)
    sweeps_at at room = subst
        (λ (z : ℕ). Allows (Kept books disk cell body) n id m z (λ _. 2) (Swept body d f old l taken m)) (sym at_word)
        (sweeps books disk cell body n id m d f old l taken near low alive (desk_has at) (desk_work at) room)

    pub passes_at : Sweeps m.0 f l true → CarriesNothing l f m.1
        → Allows (Kept books disk cell body) n id m i (λ _. 0) (Passed d f old l taken m)
    passes_at at front = subst
        (λ (z : ℕ). Allows (Kept books disk cell body) n id m z (λ _. 0) (Passed d f old l taken m)) (sym at_word)
        (subst (λ (c : List (ℕ × Stored S D C B)). Allows (Kept books disk cell body) n id (m.0, c)
        (slot_word (spot l f)) (λ _. 0) (Passed d f old l taken (m.0, c))) (sym front.1)
        (passes books disk cell body n id m.0 front.0 d f old l taken near low alive (desk_has at) (desk_work at)))

-- a slot sweep found a pack
module _ {S D C B : Type 0} (body : B → Body) (d : Desk) (f old l taken r slot : ℕ)
    (m m₁ : Me (Stored S D C B) LaneView) (swept : Swept body d f old l taken m r m₁) (big : 256 ≤ r)
    (slot_is : slot ≡ slot_home (spot l f)) where
  pub sweep_carries : m₁.1 ≡ (slot, is.Cached (swept.cached big).0) ∷ rest m₁.1
  sweep_carries = front_of m₁.1 m.1 (slot_home (spot l f)) slot (is.Cached (swept.cached big).0)
      (ap (λ (z : Me (Stored S D C B) LaneView). z.1) (swept.cached big).2) slot_is

  pub sweep_emptied : (m₂ : Me (Stored S D C B) LaneView) → m₂ ≡ (m₁.0, (slot, is.Nothing) ∷ rest m₁.1)
      → CarriesNothing l f m₂.1
  sweep_emptied m₂ e = (
    rest m₁.1,
    ap (λ (z : Me (Stored S D C B) LaneView). z.1) e ∙ ap (λ (z : ℕ). (z, is.Nothing) ∷ rest m₁.1) slot_is,
  )
