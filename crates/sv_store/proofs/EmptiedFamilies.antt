-- A family whose active memtable is emptied: the books that follow, in which no number becomes anything but Obsolete.
use Rattle.std.proofs.Common.{◌≡◌, ℕ, Bool, true, false, sym, ap, subst}
use Rattle.std.specs.Prelude.{nat_lt}
use Rattle.sv_model.specs.declared.records.FileStatus.{FileStatus}
use Rattle.sv_model.specs.declared.records.FileStatus.TheVariants.{Obsolete}
use Rattle.sv_model.specs.After.{After}
use Rattle.sv_model.specs.Books.{Books}
use Rattle.sv_model.specs.Steady.{Sound}
use Rattle.sv_model.proofs.AfterLaws.{after-itself}
use Rattle.sv_laws.specs.Changes.{cleaned, switched}
use Rattle.sv_laws.proofs.Kept.{sound-kept}
use Rattle.sv_state.specs.Follows.{Follows}
use Rattle.sv_store.specs.Emptying.{Empties, SwitchesIf, rows_at}
use Rattle.sv_store.specs.Writing.{Switches}
use Rattle.sv_store.proofs.HeldLaws.{NoneBecome, none-cleaned, none-same, none-through}
use Rattle.sv_store.proofs.StandLaws.{follows-through}

step : (a b : Books) → Sound b × After a b → Follows a b
step a b h = record { sound = h.0; after = h.1 }

pub switch-follows : (f : ℕ) (a b : Books) → Sound a → Switches f a b → Follows a b
switch-follows f a b sound w =
    let m = step a w.mid (sound-kept a w.mid sound (switched f w.is)) in
    follows-through a w.mid b m (step w.mid b (sound-kept w.mid b m.sound (cleaned w.goes.s w.goes.x w.goes.cleaned)))

pub emptied-follows : (a b : Books) (f : ℕ) → Sound a → Empties a b f → Follows a b
emptied-follows a b f sound e = by (nat_lt 0 (rows_at a e.it)) e.switched
  where
    by : (t : Bool) → SwitchesIf t f a b → Follows a b
    by true w = switch-follows f a b sound w
    by false same = subst (λ (z : Books). Follows a z) (sym same) (record { sound = sound; after = after-itself a })

-- ---- numbers

module _ (s : FileStatus) (other : s ≡ Obsolete → ⊥) (a b : Books) (f : ℕ) where
  pub none-switched : Switches f a b → NoneBecome s a b
  none-switched w =
      none-through s a w.mid b (none-same s a w.mid (ap (λ (z : Books). z.files.numbers) w.is.is))
      (none-cleaned s other w.mid b w.goes.s w.goes.x w.goes.cleaned)

  pub none-emptied : Empties a b f → NoneBecome s a b
  none-emptied e = by (nat_lt 0 (rows_at a e.it)) e.switched
    where
      by : (t : Bool) → SwitchesIf t f a b → NoneBecome s a b
      by true w = none-switched w
      by false same = none-same s a b (ap (λ (z : Books). z.files.numbers) same)
