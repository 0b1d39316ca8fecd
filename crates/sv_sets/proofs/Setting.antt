-- A set takes the DB lock and gives it.
use Rattle.std.proofs.Common.{Err, List, None, Ok, Result, [], ap, arith, refl, subst, sym, ℕ, ◌+◌, ◌/◌, ◌<◌, ◌∙◌, ◌≡◌}
use Rattle.std.specs.Prelude.{IfOk, OnErr, length}
use Rattle.sv_borrows.specs.Desks.{IsAtDesk}
use Rattle.sv_borrows.specs.Lending.{IsFree}
use Rattle.sv_installs.specs.Installing.{renewed}
use Rattle.sv_model.proofs.Registers.{entry_le}
use Rattle.sv_model.specs.Books.{Books}
use Rattle.sv_model.specs.Lists.{at}
use Rattle.sv_model.specs.declared.refusals.Refusal.{Refusal}
use Rattle.sv_model.specs.declared.settings.OptionName.{OptionName}
use Rattle.sv_puts.proofs.Putting.{taken-desk}
use Rattle.sv_rule.specs.Fits.{BodyFits}
use Rattle.sv_rule.specs.LockPlays.{IsTold, MayGiveDb, gave_db, took_db}
use Rattle.sv_rule.specs.Views.{Bodied, LaneView, Locks, idle}
use Rattle.sv_sets.specs.Locked.{RenewsLocked, SetsLocked}
use Rattle.sv_sets.specs.Setting.{Renews, Sets, asked, renewed_view}
use Rattle.sv_slots.proofs.Unchanged.{gives_found}

-- a body that fits is of a SuperVersion that the books have
pub below-next : (b : Books) (x : Bodied) → BodyFits b x → x.pack / 256 < length b.supers + 1
below-next b x h = omega (arith, h.pack_is, h.within, (entry_le b.supers h.serial h.super h.at).1)

module _ (v : LaneView) (free : IsFree v) (a : Books) (u : LaneView) (took : u ≡ took_db a v) (told : IsTold v a)
    (l : ℕ) (name : List ℕ) (option : OptionName) (value : ℕ) (r : Result ℕ Refusal) (b : Books) (w : LaneView)
    (h : SetsLocked l name option value r a b u w) where
  desk : IsAtDesk a [] u
  desk = taken-desk v free a u took told

  left-desk : IsAtDesk b [] w
  left-desk = by r h.ok h.err
    where
      by : (r : Result ℕ Refusal) → IfOk r (λ n. RenewsLocked l name option value n a b u w) → OnErr r ((b ≡ a) × (w ≡ u))
          → IsAtDesk b [] w
      by (Ok n) k e = subst (IsAtDesk b []) (sym k.installs.is)
          (record { alive = desk.alive; db = refl; cell = desk.cell; own = k.installs.own })
      by (Err x) k e = subst (λ (z : Books). IsAtDesk z [] w) (sym e.0) (subst (IsAtDesk a []) (sym e.1) desk)

  pub gives-set : MayGiveDb w b w.known.task
  gives-set = gives_found w (record { books = b; work = idle; due = [] }) left-desk.alive left-desk.db refl refl
      left-desk.cell left-desk.own

  locks : record v.locks { db = None } ≡ v.locks
  locks = ap (λ (k : Locks). record k { db = None }) free.locks ∙ sym free.locks

  module _ (z : LaneView) (gave : z ≡ gave_db b w.known.task w) where
    renews : (n : ℕ) → RenewsLocked l name option value n a b u w → Renews l name option value n a b v z
    renews n k = let i = k.installs in record {
      family = k.family;
      made = k.made;
      sets = record { set = k.set; serial_is = k.serial_is; cleans = i.cleans };
      new = i.new;
      new_is = i.new_is;
      above = λ x has. omega (arith, below-next a x (told.fits.bodies has.at x has.is), k.serial_is);
      more = i.more;
      seen = i.seen;
      alike = λ g. i.alike g ∙ ap (λ (y : LaneView). at 0 y.known.seen g) took;
      is = gave ∙ ap (λ (y : LaneView). gave_db b y.known.task y) i.is
          ∙ ap (λ (y : LaneView). gave_db b y.known.task (renewed k.family i.new b i.more i.seen y)) took
          ∙ (λ j. record (renewed_view k.family i.new a b i.more i.seen v) { locks = locks j });
    }

    pub sets : Sets l name option value r v z
    sets = record {
      found = a;
      left = b;
      refused = h.refused;
      ok = on-ok r h.ok;
      err = on-err r h.err;
    }
      where
        on-ok : (r : Result ℕ Refusal) → IfOk r (λ n. RenewsLocked l name option value n a b u w)
            → IfOk r (λ n. Renews l name option value n a b v z)
        on-ok (Ok n) k = renews n k
        on-ok (Err x) k = tt

        on-err : (r : Result ℕ Refusal) → OnErr r ((b ≡ a) × (w ≡ u)) → OnErr r ((b ≡ a) × (z ≡ asked a b v))
        on-err (Ok n) e = tt
        on-err (Err x) e = (
          e.0,
          gave ∙ ap (λ (y : LaneView). gave_db b y.known.task y) (e.1 ∙ took)
              ∙ (λ j. record (asked a b v) { locks = locks j }),
        )
