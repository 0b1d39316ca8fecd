-- The family that a lane means, with its current, and what its reference tells of it.
use Rattle.std.proofs.Common.{◌≡◌, ◌≤◌, ◌+◌, ◌-◌, inl, inr, ℕ, Bool, true, false, cond, List, length, Option, Some, None, refl, sym, ap, ◌∙◌, subst, arith}
use Rattle.std.specs.Prelude.{Err, nat_lt, slice_get}
use Rattle.sv_model.specs.declared.records.Descriptor.{Descriptor}
use Rattle.sv_model.specs.declared.records.Family.{Family}
use Rattle.sv_model.specs.declared.records.FileMeta.{FileMeta}
use Rattle.sv_model.specs.declared.records.Version.{Version}
use Rattle.sv_model.specs.declared.refusals.Refusal.{Refusal}
use Rattle.sv_model.specs.declared.refusals.Refusal.TheVariants as refusal
use Rattle.sv_model.specs.Books.{Books}
use Rattle.sv_model.specs.Families.{IsOwn}
use Rattle.sv_model.specs.Journal.{of_family}
use Rattle.sv_model.specs.Refusals.{IsDue}
use Rattle.sv_model.specs.Steady.{Sound}
use Rattle.sv_family.specs.Refused.{change_refusal}
use Rattle.sv_model.proofs.Entries.{some}
use Rattle.sv_laws.proofs.OpenFamilies.{ends-at, says}
use Rattle.sv_objects.specs.declared.bodies.Body.{Body}
use Rattle.sv_state.specs.declared.planning.Plan.TheVariants.{Add, Switch}
use Rattle.sv_state.specs.Currents.{HasCurrentAt}
use Rattle.sv_state.specs.Planning.{compact_refusal, IsCellIf, IsPlanOf, MeantAt, Planned, active_rows, is_switch_due}
use Rattle.sv_state.specs.Refs.{IsBodyOf}
use Rattle.sv_state.proofs.Finishes.{list-paired}
use Rattle.sv_state.proofs.OptionSets.{own-it, own-open}
use Rattle.sv_model.proofs.Basics.{none_some}

pub due-exactly : (due : Option Refusal) (e : Refusal) → due ≡ Some e → IsDue due e
due-exactly due refusal.OutOfMemory h = tt
due-exactly due e h = h

-- only want of memory comes where nothing is due
pub only-memory : (d due : Option Refusal) (e : Refusal) → d ≡ None → IsDue d e → IsDue due e
only-memory d due refusal.OutOfMemory h w = tt
only-memory d due e h w = absurd (none_some e (sym h ∙ w))

pub told-so : {T : Type 0} (b : Books) (lane : ℕ) (name : List ℕ) (fault : MeantAt b lane name → Option Refusal) (is : MeantAt b lane name → T → Type 0) (e : Refusal) → change_refusal b.families lane name ≡ Some e
    → Planned {T = T} b lane name fault is (Err e)
told-so b lane name fault is e h = inl (e, h, refl)

-- a compaction is refused
pub merge-refused : (a b : Books) → a ≡ b → (lane : ℕ) (name : List ℕ) (is : MeantAt b lane name → FileMeta → Type 0) (m : MeantAt a lane name) (e : Refusal) → IsDue (compact_refusal a m) e
    → Planned {T = FileMeta} b lane name (compact_refusal b) is (Err e)
merge-refused a b q lane name is m e h =
    let t : (n : MeantAt b lane name) × IsDue (compact_refusal b n) e = subst (λ (z : Books). (n : MeantAt z lane name) × IsDue (compact_refusal z n) e) q (m, h) in
    inr (t.0, t.1, tt)

module _ (a : Books) (k : Sound a) (lane : ℕ) (name : List ℕ) (f : ℕ) (x : Family) (at : slice_get a.families f ≡ Some x) (own : IsOwn lane name x) (stands : x.dropped ≡ false) (cur : HasCurrentAt a f) where
  abbrev pub meant : MeantAt a lane name
  meant = record {
    family = f;
    serial = cur.serial;
    it = own-it a k f x at stands cur;
    is_open = own-open a k f x at stands cur;
    own = own;
    list = (says a k f cur.serial (own-it a k f x at stands cur) (own-open a k f x at stands cur)).list;
    list_at = (says a k f cur.serial (own-it a k f x at stands cur) (own-open a k f x at stands cur)).list_at;
    version = (says a k f cur.serial (own-it a k f x at stands cur) (own-open a k f x at stands cur)).version;
    version_at = (says a k f cur.serial (own-it a k f x at stands cur) (own-open a k f x at stands cur)).version_at;
  }

  module _ (body : Body) (w : IsBodyOf a (own-it a k f x at stands cur).descriptor body) where
    ends : body.descriptor.base + active_rows a meant ≡ length (of_family f a.journal)
    ends = ap (λ (d : Descriptor). d.base + active_rows a meant) w.descriptor_is ∙ ends-at a k f cur.serial (own-it a k f x at stands cur) (own-open a k f x at stands cur)

    pub base-below : (n : ℕ) → n ≡ length (of_family f a.journal) → body.descriptor.base ≤ n
    base-below n e = omega (arith, ends, e)

    pub rows-are : (n : ℕ) → n ≡ length (of_family f a.journal) → n - body.descriptor.base ≡ active_rows a meant
    rows-are n e = minus n body.descriptor.base (active_rows a meant) (e ∙ sym ends)
      where
        minus : (n b r : ℕ) → n ≡ b + r → n - b ≡ r
        minus n b r e = omega (arith, e)

    pub members-are : length body.frozen ≡ length meant.list.members
    members-are = list-paired a (own-it a k f x at stands cur).descriptor body w meant.list meant.list_at

    pub plan-is : (s : Bool) → s ≡ is_switch_due (active_rows a meant) x.options → IsPlanOf a meant (cond s (Switch f body.cell) (Add f body.cell))
    plan-is true e = (refl, w.cell, sym e)
    plan-is false e = (refl, w.cell, sym e)

    pub cell-if : (s : Bool) → s ≡ nat_lt 0 (active_rows a meant) → IsCellIf a.memtables meant.it.descriptor.active (nat_lt 0 (active_rows a meant)) (cond s (Some body.cell) None)
    cell-if s e = subst (λ z. IsCellIf a.memtables meant.it.descriptor.active z (cond s (Some body.cell) None)) e (by s)
      where
        by : (z : Bool) → IsCellIf a.memtables meant.it.descriptor.active z (cond z (Some body.cell) None)
        by true = w.cell
        by false = tt

    pub files-are : body.files ≡ meant.version.files
    files-are = w.files_are ∙ ap (λ (v : Version). v.files) (some (sym w.version_at ∙ meant.version_at))
