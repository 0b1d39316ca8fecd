-- What a lane carries, along takings and givings of locks.
use Rattle.std.proofs.Common.{List, None, Option, Some, [], ap, arith, drop, length, subst, sym, ℕ, ◌+◌, ◌<◌, ◌∙◌, ◌∷◌, ◌≡◌, ◌≤◌}
use Rattle.atomic_table.specs.Table.{rest}
use Rattle.sv_model.specs.Books.{Books}
use Rattle.sv_model.specs.Cells.{Cell}
use Rattle.sv_model.specs.Lists.{same, times, at}
use Rattle.sv_model.specs.declared.writes.Write.{Write}
use Rattle.sv_rule.proofs.Sums.{same-self}
use Rattle.sv_rule.specs.LockPlays.{gave_cell, gave_db, gave_dir, took_cell, took_db, took_dir, wrote_cell}
use Rattle.sv_model.specs.Tasks.{Task}
use Rattle.sv_rule.specs.Table.{cell_word}
use Rattle.sv_rule.specs.Tasks.{some_count}
use Rattle.sv_rule.specs.Views.{Desk, Disk, FileRead, LaneView, SlotView, away}
use Rattle.sv_rule.specs.declared.parts.Stored.{Stored}
use Rattle.sv_rule.specs.declared.parts.Stored.TheVariants as is
use Rattle.sv_slots.proofs.CarriedBySteps.{first_is}
use Rattle.sv_slots.proofs.Turns.{ahead-times}
use Rattle.sv_slots.specs.Carried.{Carries, ahead, many_out, nothings, out_cell, out_lock, out_of}
use Rattle.sv_slots.specs.Seats.{CarriesAt}

parts : (k : ℕ) (l : List ℕ) → 0 < length l → ahead k l ≡ 0 → l ≡ k ∷ drop 1 l
parts k [] less z = absurd (omega arith)
parts k (y ∷ l) less z = ap (λ x. x ∷ l) (first_is k y l z)

module _ {S D C B : Type 0} (v w : LaneView) (c d : List (ℕ × Stored S D C B)) (out out' : List ℕ)
    (h : Carries v c out) where
  -- one slot more is out
  more : (i : ℕ) → ((k : ℕ) → out_of k w ≡ same k i + out_of k v) → many_out w ≡ 1 + many_out v
      → w.slots.slot ≡ v.slots.slot → CarriesAt i c d → out' ≡ i ∷ out → Carries w d out'
  more i e m s t is_out = subst (λ (l : List ℕ). Carries w d l) (sym is_out) (record {
    stands = t ∙ ap (λ (z : List (ℕ × Stored S D C B)). (i, is.Nothing) ∷ z) h.stands;
    each = λ k. omega (arith, h.each k, e k);
    many = omega (arith, h.many, m);
    few = subst (λ (l : List SlotView). length l ≤ 16) (sym s) h.few;
    none_held = λ f p y. h.none_held f p (sym (ap (λ (l : List SlotView). at away l f) s) ∙ y);
  })

  -- one fewer
  fewer : (i : ℕ) → ((k : ℕ) → out_of k w + same k i ≡ out_of k v) → many_out w + 1 ≡ many_out v
      → w.slots.slot ≡ v.slots.slot → ahead i out ≡ 0 → d ≡ rest c → out' ≡ drop 1 out → Carries w d out'
  fewer i e m s first t is_out =
      let split = parts i out (omega (arith, h.many, m)) first in record {
        stands = t ∙ (ap (λ (z : List (ℕ × Stored S D C B)). rest z) (h.stands ∙ ap nothings split)
            ∙ ap nothings (sym is_out));
        each = λ k. ap (times k) is_out ∙ omega (arith, h.each k, e k, ap (times k) split);
        many = ap length is_out ∙ omega (arith, h.many, m, ap length split);
        few = subst (λ (l : List SlotView). length l ≤ 16) (sym s) h.few;
        none_held = λ f p y. h.none_held f p (sym (ap (λ (l : List SlotView). at away l f) s) ∙ y);
      }

  pub takes_state : (b : Books) → w ≡ took_db b v → v.locks.db ≡ None → CarriesAt 0 c d → out' ≡ 0 ∷ out
      → Carries w d out'
  takes_state b e free = more 0
      (λ k. let z : out_lock k 0 v.locks.db ≡ 0 = ap (out_lock k 0) free in ap (out_of k) e ∙ omega (arith, z))
      (ap many_out e ∙ omega (arith, ap some_count free)) (ap (λ z. z.slots.slot) e)

  pub gives_state : (b : Books) (u : Task) (x : Desk) → w ≡ gave_db b u v → v.locks.db ≡ Some x → ahead 0 out ≡ 0
      → d ≡ rest c → out' ≡ drop 1 out → Carries w d out'
  gives_state b u x e has = fewer 0
      (λ k. let z : out_lock k 0 v.locks.db ≡ same k 0 = ap (out_lock k 0) has in
      ap (λ y. out_of k y + same k 0) e ∙ omega (arith, z))
      (ap (λ y. many_out y + 1) e ∙ omega (arith, ap some_count has)) (ap (λ z. z.slots.slot) e)

  pub takes_dir : (x : Disk) → w ≡ took_dir x v → v.locks.dir ≡ None → CarriesAt 1 c d → out' ≡ 1 ∷ out
      → Carries w d out'
  takes_dir x e free = more 1
      (λ k. let z : out_lock k 1 v.locks.dir ≡ 0 = ap (out_lock k 1) free in ap (out_of k) e ∙ omega (arith, z))
      (ap many_out e ∙ omega (arith, ap some_count free)) (ap (λ z. z.slots.slot) e)

  pub gives_dir : (u : Task) (reads : List FileRead) (names : List (List ℕ)) (lists rise : ℕ) (x : Disk)
      → w ≡ gave_dir u reads names lists rise v → v.locks.dir ≡ Some x → ahead 1 out ≡ 0 → d ≡ rest c
      → out' ≡ drop 1 out → Carries w d out'
  gives_dir u reads names lists rise x e has = fewer 1
      (λ k. let z : out_lock k 1 v.locks.dir ≡ same k 1 = ap (out_lock k 1) has in
      ap (λ y. out_of k y + same k 1) e ∙ omega (arith, z))
      (ap (λ y. many_out y + 1) e ∙ omega (arith, ap some_count has)) (ap (λ z. z.slots.slot) e)

  pub takes_cell : (n : ℕ) (x : Option Cell) → w ≡ took_cell n x v → v.locks.cell ≡ None
      → CarriesAt (cell_word n) c d → out' ≡ cell_word n ∷ out → Carries w d out'
  takes_cell n x e free = more (cell_word n)
      (λ k. let z : out_cell k v.locks.cell ≡ 0 = ap (out_cell k) free in ap (out_of k) e ∙ omega (arith, z))
      (ap many_out e ∙ omega (arith, ap some_count free)) (ap (λ z. z.slots.slot) e)

  pub gives_cell : (n f cut : ℕ) (x : Option Cell) → w ≡ gave_cell f cut v
      → v.locks.cell ≡ Some (record { number = n; found = x }) → ahead (cell_word n) out ≡ 0 → d ≡ rest c
      → out' ≡ drop 1 out → Carries w d out'
  gives_cell n f cut x e has = fewer (cell_word n)
      (λ k. let z : out_cell k v.locks.cell ≡ same k (cell_word n) = ap (out_cell k) has in
      ap (λ y. out_of k y + same k (cell_word n)) e ∙ omega (arith, z))
      (ap (λ y. many_out y + 1) e ∙ omega (arith, ap some_count has)) (ap (λ z. z.slots.slot) e)

  pub writes_cell : (k₀ : Desk) (n : ℕ) (b : Books) (u : Task) (writes : List Write) (f s : ℕ) (x : Option Cell)
      (y : Desk) → w ≡ wrote_cell k₀ n b u writes f s v → v.locks.db ≡ Some y
      → v.locks.cell ≡ Some (record { number = n; found = x }) → ahead (cell_word n) out ≡ 0 → d ≡ rest c
      → out' ≡ drop 1 out → Carries w d out'
  writes_cell k₀ n b u writes f s x y e db has = fewer (cell_word n)
      (λ k. let z : out_cell k v.locks.cell ≡ same k (cell_word n) = ap (out_cell k) has in
      let z' : out_lock k 0 v.locks.db ≡ same k 0 = ap (out_lock k 0) db in
      ap (λ y. out_of k y + same k (cell_word n)) e ∙ omega (arith, z, z'))
      (ap (λ y. many_out y + 1) e ∙ omega (arith, ap some_count has, ap some_count db)) (ap (λ z. z.slots.slot) e)

module _ {S D C B : Type 0} (v : LaneView) (c : List (ℕ × Stored S D C B)) (out : List ℕ) (h : Carries v c out) where
  pub has_state : (x : Desk) → v.locks.db ≡ Some x → ahead 0 out < length out
  has_state x e =
      let one : out_lock 0 0 v.locks.db ≡ 1 = ap (out_lock 0 0) e ∙ same-self 0 in
      ahead-times 0 out (omega (arith, h.each 0, one))

  pub has_dir : (x : Disk) → v.locks.dir ≡ Some x → ahead 1 out < length out
  has_dir x e =
      let one : out_lock 1 1 v.locks.dir ≡ 1 = ap (out_lock 1 1) e ∙ same-self 1 in
      ahead-times 1 out (omega (arith, h.each 1, one))

  pub has_cell : (k n : ℕ) (x : Option Cell) → k ≡ cell_word n
      → v.locks.cell ≡ Some (record { number = n; found = x }) → ahead k out < length out
  has_cell k n x is e = subst (λ (z : ℕ). ahead z out < length out) (sym is)
      (let one : out_cell (cell_word n) v.locks.cell ≡ 1 = ap (out_cell (cell_word n)) e
      ∙ same-self (cell_word n) in
      ahead-times (cell_word n) out (omega (arith, h.each (cell_word n), one)))
