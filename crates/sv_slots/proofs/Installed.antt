-- What a lane knows along an install, a retirement, a sweep and a cleanup.
use Rattle.std.proofs.Common.{List, None, Option, Some, ap, arith, length, refl, subst, sym, ℕ, ◌<◌, ◌∙◌, ◌≡◌}
use Rattle.sv_model.specs.Tasks.{Task}
use Rattle.sv_model.specs.Supers.{current_of, current_serial, pack_of_serial}
use Rattle.atomic_table.specs.Table.{Me}
use Rattle.sv_model.specs.Books.{Books}
use Rattle.sv_model.specs.Lists.{Every}
use Rattle.sv_model.specs.declared.records.Top.{Top}
use Rattle.sv_model.specs.declared.sv_refs.SvRef.{SvRef}
use Rattle.sv_rule.specs.Blanks.{desk_of}
use Rattle.sv_rule.specs.Fits.{BodyFits}
use Rattle.sv_rule.specs.Numbers.{NumberOk}
use Rattle.sv_rule.specs.ReferencePlays.{MayOpen, opened, settled}
use Rattle.sv_rule.specs.RoundPlays.{MayEndCurrent, MaySwap, Numbered, ended_current, numbered, rounded}
use Rattle.sv_rule.specs.SweepPlays.{Sweeps}
use Rattle.sv_rule.specs.Tasks.{some_count}
use Rattle.sv_rule.specs.Views.{Bodied, Body, Desk, LaneView, begun, opens}
use Rattle.sv_slots.proofs.CarriedByCalls.{beside, seated}
use Rattle.sv_slots.proofs.ToldCounts.{told_of}
use Rattle.sv_slots.specs.Installs.{IsSwept, installed, retired}

module _ {A : Type 0} (f p : ℕ) (x : Bodied) (b : Books) (u : Task) (olds : List Bodied) (m m₁ m₂ : Me A LaneView)
    (may : MayOpen m.0 f x b u) (e₁ : m₁ ≡ (opened f x b u (desk_of m.0) m.0, m.1)) where
  abbrev W₁ : LaneView
  W₁ = opened f x b u (desk_of m.0) m.0

  at₁ : m₁.0 ≡ W₁
  at₁ = ap (λ (z : Me A LaneView). z.0) e₁

  pub begins : (m₁.0.locks.db ≡ Some (desk_of m₁.0)) × ((desk_of m₁.0).work ≡ opens f)
  begins = subst (λ (z : LaneView). (z.locks.db ≡ Some (desk_of z)) × ((desk_of z).work ≡ opens f)) (sym at₁)
      (refl, refl)

  module _ (e₂ : m₂ ≡ (rounded f (desk_of m₁.0) m₁.0, m₁.1)) where
    abbrev W₂ : LaneView
    W₂ = rounded f (desk_of W₁) W₁

    at₂ : m₂.0 ≡ W₂
    at₂ = ap (λ (z : Me A LaneView). z.0) e₂ ∙ ap (λ (z : LaneView). rounded f (desk_of z) z) at₁

    pub may_swap : p ≡ x.pack → Every (BodyFits b) olds → length m.0.hand < 65599 → MaySwap m₂.0 f p olds
    may_swap is bodies room = subst (λ (z : LaneView). MaySwap z f p olds) (sym at₂) (record {
      alive = may.alive;
      desk = desk_of W₂;
      has = refl;
      begun_is = refl;
      near = may.near;
      is = is ∙ sym may.made.current;
      bodies = bodies;
      room = omega (arith, room);
    })

    module _ (r : ℕ) (m₃ : Me A LaneView) (is : p ≡ x.pack) (e₃ : Numbered (desk_of m₂.0) f p olds m₂ r m₃) where
      pub is_installed : m₃.0 ≡ installed f x b u olds r m.0
      is_installed = ap (λ (z : Me A LaneView). z.0) e₃.is
          ∙ (ap (λ (z : LaneView). numbered (desk_of z) f p olds r z) at₂
          ∙ (λ i. numbered (desk_of W₂) f (is i) olds r W₂))

      pub install_was : NumberOk b (begun f) f r
      install_was = subst (λ (z : LaneView). NumberOk (desk_of z).books (begun f) f r) at₂ e₃.was

      pub install_carried : m₃.1 ≡ m.1
      install_carried = ap (λ (z : Me A LaneView). z.1) e₃.is
          ∙ (ap (λ (z : Me A LaneView). z.1) e₂ ∙ ap (λ (z : Me A LaneView). z.1) e₁)

module _ {A : Type 0} (f : ℕ) (b : Books) (u : Task) (olds : List Bodied) (m m₁ : Me A LaneView)
    (may : MayEndCurrent m.0 f b u) (e₁ : m₁ ≡ (ended_current f b u (desk_of m.0) m.0, m.1)) where
  abbrev R₁ : LaneView
  R₁ = ended_current f b u (desk_of m.0) m.0

  at_r : m₁.0 ≡ R₁
  at_r = ap (λ (z : Me A LaneView). z.0) e₁

  no_current_now : current_of b f ≡ 0
  no_current_now = ap (λ (t : Option Top). pack_of_serial b.supers (current_serial t)) may.ended.on
      ∙ ap (λ (t : Option ℕ). pack_of_serial b.supers t) may.ended.none

  pub may_swap_none : Every (BodyFits b) olds → length m.0.hand < 65600 → MaySwap m₁.0 f 0 olds
  may_swap_none bodies room = subst (λ (z : LaneView). MaySwap z f 0 olds) (sym at_r) (record {
    alive = may.alive;
    desk = desk_of R₁;
    has = refl;
    begun_is = refl;
    near = may.near;
    is = sym no_current_now;
    bodies = bodies;
    room = room;
  })

  module _ (r : ℕ) (m₂ : Me A LaneView) (e₂ : Numbered (desk_of m₁.0) f 0 olds m₁ r m₂) where
    pub is_retired_now : m₂.0 ≡ retired f b u olds r m.0
    is_retired_now = ap (λ (z : Me A LaneView). z.0) e₂.is
        ∙ ap (λ (z : LaneView). numbered (desk_of z) f 0 olds r z) at_r

    pub retire_was : NumberOk b (begun f) f r
    retire_was = subst (λ (z : LaneView). NumberOk (desk_of z).books (begun f) f r) at_r e₂.was

    pub retire_carried : m₂.1 ≡ m.1
    retire_carried = ap (λ (z : Me A LaneView). z.1) e₂.is ∙ ap (λ (z : Me A LaneView). z.1) e₁

-- the lane has the DB lock before and after, and nothing else of what it carries changed
abbrev pub Works : LaneView → LaneView → Type 0
Works old new = (seated new ≡ seated old) × (some_count new.locks.db ≡ some_count old.locks.db)
    × (beside new ≡ beside old) × (told_of new ≡ told_of old)

pub installed_works : (f r : ℕ) (x : Bodied) (b : Books) (u : Task) (olds : List Bodied) (v w : LaneView) (d : Desk)
    → v.locks.db ≡ Some d → w ≡ installed f x b u olds r v → Works v w
installed_works f r x b u olds v w d has e =
    (ap seated e, ap (λ z. some_count z.locks.db) e ∙ sym (ap some_count has), ap beside e, ap told_of e)

pub retired_works : (f r : ℕ) (b : Books) (u : Task) (olds : List Bodied) (v w : LaneView) (d : Desk)
    → v.locks.db ≡ Some d → w ≡ retired f b u olds r v → Works v w
retired_works f r b u olds v w d has e =
    (ap seated e, ap (λ z. some_count z.locks.db) e ∙ sym (ap some_count has), ap beside e, ap told_of e)

pub settled_works : (p : ℕ) (b : Books) (u : Task) (cells : List ℕ) (v w : LaneView) (d : Desk)
    → v.locks.db ≡ Some d → w ≡ settled p b u cells (desk_of v) v → Works v w
settled_works p b u cells v w d has e =
    (ap seated e, ap (λ z. some_count z.locks.db) e ∙ sym (ap some_count has), ap beside e, ap told_of e)

pub swept_works : {B : Type 0} (body : B → Body) (f l : ℕ) (o : Option (SvRef B)) (v w : LaneView)
    → Sweeps v f l Rattle.std.proofs.Common.false → IsSwept body f l o v w → Works v w
swept_works body f l None v w at e =
    (ap seated e, ap (λ z. some_count z.locks.db) e ∙ sym (ap some_count at.has), ap beside e, ap told_of e)
swept_works body f l (Some sv) v w at e =
    (ap seated e.2, ap (λ z. some_count z.locks.db) e.2 ∙ sym (ap some_count at.has), ap beside e.2, ap told_of e.2)
