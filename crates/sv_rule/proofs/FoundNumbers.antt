-- The number word that an install or a retirement finds is the pack of the family's current before it.
use Rattle.std.proofs.Common.{List, ap, arith, subst, sym, ℕ, ⊎_elim, ◌/◌, ◌<◌, ◌∙◌, ◌≡◌, ◌≤◌}
use mathlib.Core.Logic.{dite}
use native.Mathlib.Decide.{dec_le}
use Rattle.sv_model.proofs.Registers.{entry_push}
use Rattle.sv_model.specs.After.{After}
use Rattle.sv_model.specs.Books.{Books}
use Rattle.sv_model.specs.Lawful.{Lawful}
use Rattle.sv_model.specs.Registers.{entry}
use Rattle.sv_model.specs.Supers.{IsPackOf, IsSerialOf, current_of, current_serial, pack_of_serial}
use Rattle.sv_model.specs.Turns.{EndsCurrent, Opens}
use Rattle.sv_model.specs.declared.records.SuperVersion.{SuperVersion}
use Rattle.sv_rule.proofs.CurrentLaws.{current_is, current_marks, current_newest, one_pack, pack_le, pack_serial}
use Rattle.sv_rule.proofs.LaterBooks.{serial-after}
use Rattle.sv_rule.proofs.NumberTurns.{new-pack}
use Rattle.sv_rule.proofs.Sums.{same-self}
use Rattle.sv_rule.specs.Numbers.{NumberOk}
use Rattle.sv_rule.specs.UnderWay.{excepts}
use Rattle.sv_rule.specs.Views.{begun}

module _ (a : Books) (before : Lawful a) (f r : ℕ) where
  -- the newest SuperVersion of a family is its current
  newest-is : 256 ≤ current_of a f → IsPackOf a.supers f r → current_of a f / 256 ≤ r / 256 → r ≡ current_of a f
  newest-is big is newest = one_pack a.supers f f r (current_of a f) is (current_is a before f big)
      (omega (arith, newest, current_newest a before f big (r / 256) (pack_serial is)))

begun_one : (f : ℕ) → 0 < excepts f (begun f)
begun_one f = omega (arith, same-self f)

-- ---- a SuperVersion was made

module _ (a b : Books) (later : After a b) (before : Lawful a) (f p r : ℕ) (h : Opens a b f p)
    (k : NumberOk b (begun f) f r) where
  now-new : current_of b f / 256 ≡ p / 256
  now-new = ap (λ (z : ℕ). z / 256) h.current

  -- the word is not the new pack's
  was-there : 256 ≤ r → IsPackOf a.supers f r
  was-there big =
      let is = k.is big in
      ⊎_elim
      (λ e. record { sv = is.sv; is = e; family = is.family; place = is.place })
      (λ e. absurd (k.other (begun_one f) big
      (one_pack b.supers f f r p is (new-pack a b later before f p h) (e.0 ∙ sym h.serial) ∙ sym h.current)))
      (entry_push a.supers h.super (r / 256) is.sv (ap (λ l. entry l (r / 256)) (sym h.supers) ∙ is.is))

  had-none : current_of a f ≡ 0 → r ≡ current_of a f
  had-none none = dite (dec_le 256 r)
      (λ big. absurd (h.first none (r / 256) (pack_serial (was-there big))))
      (λ n. k.marks (omega (arith, n)) ∙ sym none)

  module _ (big : 256 ≤ current_of a f) where
    cur : IsPackOf a.supers f (current_of a f)
    cur = current_is a before f big

    not-new : current_of a f / 256 ≡ current_of b f / 256 → ⊥
    not-new e = omega (arith, e, now-new, pack_le cur, h.serial)

    had-one : r ≡ current_of a f
    had-one =
        let kept = serial-after a b later f (current_of a f / 256) (pack_serial cur) in
        dite (dec_le 256 r)
        (λ y. newest-is a before f r big (was-there y)
        (⊎_elim (λ z. z) (λ z. absurd (not-new z.1)) (k.last y (current_of a f / 256) kept)))
        (λ n. absurd (not-new (k.first (begun_one f) (k.marks (omega (arith, n))) (current_of a f / 256) kept)))

  -- An install finds the pack of the current that the family had, 0 where it had none.
  pub install-found : r ≡ current_of a f
  install-found = dite (dec_le 256 (current_of a f)) had-one
      (λ n. had-none (current_marks a f (omega (arith, n))))

-- ---- the family has no current any more

module _ (a b : Books) (before : Lawful a) (f r : ℕ) (h : EndsCurrent a b f) (big : 256 ≤ current_of a f)
    (k : NumberOk b (begun f) f r) where
  none-now : current_of b f ≡ 0
  none-now = ap (λ t. pack_of_serial b.supers (current_serial t)) h.on ∙ ap (pack_of_serial b.supers) h.none

  ended : IsSerialOf b.supers f (current_of a f / 256)
  ended = subst (λ (s : List SuperVersion). IsSerialOf s f (current_of a f / 256)) (sym h.supers)
      (pack_serial (current_is a before f big))

  not-none : current_of a f / 256 ≡ current_of b f / 256 → ⊥
  not-none e = omega (arith, e, ap (λ (z : ℕ). z / 256) none-now, big)

  -- A retirement finds the pack of the current that the family had.
  pub end-found : r ≡ current_of a f
  end-found = dite (dec_le 256 r)
      (λ y. newest-is a before f r big (subst (λ (s : List SuperVersion). IsPackOf s f r) h.supers (k.is y))
      (⊎_elim (λ z. z) (λ z. absurd (not-none z.1)) (k.last y (current_of a f / 256) ended)))
      (λ n. absurd (not-none (k.first (begun_one f) (k.marks (omega (arith, n))) (current_of a f / 256) ended)))
