-- What callers need of an install, and of the slots after its sweep.
use Rattle.std.proofs.Common.{Bool, Option, Some, [], ap, arith, cond, eq-eqb, false, length, nat_le, refl, subst, sym, ℕ, ⊎_elim, ◌+◌, ◌/◌, ◌<◌, ◌∙◌, ◌∷◌, ◌≡◌, ◌≤◌}
use mathlib.Core.Logic.{dite}
use native.Mathlib.Decide.{ℕ_discrete}
use Rattle.atomic_table.specs.Table.{State}
use Rattle.sv_model.specs.Books.{Books}
use Rattle.sv_model.specs.Cells.{Cell}
use Rattle.sv_model.specs.Lawful.{Lawful}
use Rattle.sv_model.specs.Registers.{entry}
use Rattle.sv_model.proofs.Registers.{entry-old, entry_push}
use Rattle.sv_rule.specs.Numbers.{NumberOk}
use Rattle.sv_rule.specs.Rule.{Kept}
use Rattle.sv_model.specs.Supers.{IsPackOf, IsSerialOf, current_of}
use Rattle.sv_model.specs.Turns.{Opens}
use Rattle.sv_rule.specs.Sweep.{Right}
use Rattle.sv_rule.specs.Table.{cached_at, number, slot, slot_at, spot}
use Rattle.sv_rule.specs.UnderWay.{excepts, fit, middle}
use Rattle.sv_rule.specs.Views.{Body, Disk, LaneView, Work, begun, idle, sweeping}
use Rattle.sv_rule.specs.declared.parts.Stored.{Stored}
use Rattle.sv_rule.proofs.CurrentLaws.{current_is, current_marks, current_newest, one_pack, pack_le, pack_serial}
use Rattle.sv_rule.proofs.Sums.{by_less, same-self}

-- The number word that an install finds is the current that the family had before.
pub old_number : (a b : Books) (f p r : ℕ) → Lawful a → Lawful b → Opens a b f p → NumberOk b (begun f) f r
    → r ≡ current_of a f
old_number a b f p r before lawful h o = dite (ℕ_discrete r 0)
    (λ z. by_less (current_of a f) 256
    (λ small. z ∙ sym (current_marks a f small))
    (λ big. let k = current_is a before f big in
    let e = o.first (omega (arith, same-self f)) z (current_of a f / 256)
    (longer (current_of a f / 256) (pack_serial k)) in
    absurd (omega (arith, e, ap (λ (x : ℕ). x / 256) h.current, pack_le k, h.serial))))
    (λ n. let r_big : 256 ≤ r = by_less r 256 (λ y. absurd (n (o.marks y))) (λ y. y) in let k = o.is r_big in
    ⊎_elim
    (λ (old : entry a.supers (r / 256) ≡ Some k.sv).
    let was : IsPackOf a.supers f r = record { sv = k.sv; is = old; family = k.family; place = k.place } in
    by_less (current_of a f) 256
    (λ small. absurd (h.first (current_marks a f small) (r / 256) (pack_serial was)))
    (λ big. let c = current_is a before f big in
    let low = current_newest a before f big (r / 256) (pack_serial was) in
    let high : current_of a f / 256 ≤ r / 256 = ⊎_elim (λ y. y)
    (λ y. absurd (omega (arith, y.1, ap (λ (x : ℕ). x / 256) h.current, pack_le c, h.serial)))
    (o.last r_big (current_of a f / 256) (longer (current_of a f / 256) (pack_serial c))) in
    one_pack a.supers f f r (current_of a f) was c (omega (arith, low, high))))
    (λ (new : (r / 256 ≡ length a.supers + 1) × (k.sv ≡ h.super)).
    let now : IsPackOf b.supers f (current_of b f) = current_is b lawful f (omega (arith, h.current, h.serial)) in
    absurd (o.other (omega (arith, same-self f)) r_big (one_pack b.supers f f r (current_of b f) k now
    (omega (arith, new.0, h.serial, h.current)))))
    (entry_push a.supers h.super (r / 256) k.sv (ap (λ l. entry l (r / 256)) (sym h.supers) ∙ k.is)))
  where
    longer : (t : ℕ) → IsSerialOf a.supers f t → IsSerialOf b.supers f t
    longer t s = record {
      sv = s.sv;
      is = ap (λ l. entry l t) h.supers
          ∙ entry-old a.supers (h.super ∷ []) t s.sv s.is;
      family = s.family;
    }

module _ {S D C B : Type 0} (books : S → Books) (disk : D → Disk) (cell : C → Option Cell) (body : B → Body)
    (s : State (Stored S D C B) LaneView) (kept : Kept books disk cell body s) where
  -- while no work is under way, a slot at home caches its family's current or nothing
  pub no_old_slot : kept.work ≡ idle → (l f : ℕ) → l < 32 → f < 16 → 256 ≤ slot s (spot l f)
      → slot s (spot l f) ≡ current_of kept.b f
  no_old_slot resting l f low near big =
      let right = subst (λ (w : Work). Right (fit w f l (number s f)) (middle (spot l f) w) (slot s (spot l f))
      (number s f) (cached_at s.views l f) (slot_at s.views l f)) resting (kept.sweep.right l f low near) in
      right.fitting big ∙ (kept.numbers.word f near).current (ap (excepts f) resting)

  -- in a sweep the lanes passed have no old one
  pub passed_slot : (f old m taken : ℕ) → kept.work ≡ sweeping f old m false taken → (l : ℕ) → l < 32 → f < 16 → l < m
      → slot s (spot l f) < 256
  passed_slot f old m taken sweeps l low near passed =
      let right = subst (λ (w : Work). Right (fit w f l (number s f)) (middle (spot l f) w) (slot s (spot l f))
      (number s f) (cached_at s.views l f) (slot_at s.views l f)) sweeps (kept.sweep.right l f low near) in
      by_less (slot s (spot l f)) 256 (λ y. y)
      (λ big. absurd (omega (arith, right.fitting big, big, none_fits)))
    where
      le_false : nat_le m l ≡ false
      le_false = grind (arith, passed)

      none_fits : fit (sweeping f old m false taken) f l (number s f) ≡ 0
      none_fits = ap (λ (q : Bool). cond q (cond (nat_le m l) old 0) (number s f)) (eq-eqb f f refl)
          ∙ ap (λ (q : Bool). cond q old 0) le_false
