-- A handle is closed in the state, under the DB lock.
use Rattle.std.proofs.Common.{Err, List, None, Ok, Option, Some, [], ap, arith, false, inl, inr, length, refl, subst, sym, true, ℕ, ◌+◌, ◌<◌, ◌∙◌, ◌∷◌, ◌≡◌, ◌≤◌}
use Rattle.std.specs.Prelude.{slice_get, slice_set}
use Rattle.std.proofs.lemmas.Slice.Eq.{bytes_eq-Decides}
use Rattle.sv_borrows.proofs.CurrentRefs.{current-big, current-pack}
use Rattle.sv_borrows.specs.Desks.{IsAtDesk}
use Rattle.sv_family.specs.Refused.{default_refusal, find_refusal, release_refusal}
use Rattle.sv_laws.proofs.GrownRegisters.{placed-set}
use Rattle.sv_laws.specs.Families.{IsReleased, IsRetired, released}
use Rattle.sv_model.proofs.Entries.{in-left, some}
use Rattle.sv_model.proofs.RefusalLaws.{none_due}
use Rattle.sv_model.specs.Books.{Books}
use Rattle.sv_model.specs.Families.{IsOwn, default_name, is_retired}
use Rattle.sv_model.specs.Lists.{In, same, total}
use Rattle.sv_model.specs.Tasks.{Task}
use Rattle.sv_model.specs.Turns.{IsAccounted, Turns}
use Rattle.sv_model.specs.declared.records.Family.{Family}
use Rattle.sv_model.specs.declared.refusals.Refusal.{Refusal}
use Rattle.sv_model.specs.declared.sv_refs.SvRef.{SvRef}
use Rattle.sv_objects.specs.declared.bodies.Body.{Body}
use Rattle.sv_releases.specs.Releasing.{ClosesLocked, IsMeant, MayRetire, ReleasesLocked, Retires}
use Rattle.sv_rule.proofs.CurrentLaws.{get_lt}
use Rattle.sv_rule.specs.LockPlays.{MayGiveDb}
use Rattle.sv_rule.specs.Views.{LaneView, idle}
use Rattle.sv_slots.specs.declared.table.TheConstants.{MAX_HAND}
use Rattle.sv_state.specs.Currents.{HasCurrentAt}
use Rattle.sv_state.specs.Follows.{Follows}
use Rattle.sv_state.specs.Gone.{IsReleasedAs, TellsEnd}
use Rattle.sv_state.specs.Refs.{IsKept, IsRefOf}
use Rattle.sv_state.specs.declared.installs.Install.{Install}
use Rattle.sv_turns.proofs.Families.{released-stands, released-turns, retired-ends, retired-turns}
use Rattle.sv_turns.proofs.Unrefused.{not-default}
use Rattle.sv_turns.specs.Called.{IsCalled}
use Rattle.sv_turns.specs.Owned.{releases}

-- what the state tells of a release that it did, of the books that it had
pub record IsLetGo (a b : Books) (l : ℕ) (name : List ℕ) (family : Option ℕ) : Type 0 where
  pub follows : Follows a b
  pub released : IsReleasedAs a b l name family
  pub none : release_refusal a.families l name ≡ None

pub let-go : (x a b : Books) → x ≡ a → (l : ℕ) (name : List ℕ) (family : Option ℕ) → Follows x b
    → IsReleasedAs x b l name family → release_refusal x.families l name ≡ None → IsLetGo a b l name family
let-go x a b same l name family h k n =
    subst (λ (z : Books). IsLetGo z b l name family) same (record { follows = h; released = k; none = n })

not-the-default : (name : List ℕ) → default_refusal name ≡ None → name ≡ default_name → ⊥
not-the-default name e q = absurd (cc (
  e,
  (bytes_eq-Decides name default_name).1 q,
))

module _ (a b : Books) (v : LaneView) (desk : IsAtDesk a [] v) (name : List ℕ) (follows : Follows a b) where
  abbrev l : ℕ
  l = v.known.lane

  called : IsCalled l a v.known.task b
  called = record { own = desk.own; lawful = follows.sound.lawful; later = follows.after }

  -- ---- the family goes on

  pub closed : release_refusal a.families l name ≡ None → IsReleasedAs a b l name None
      → (f : ℕ) × IsMeant l name a f × ClosesLocked l a b v v f
  closed none (f, x, at_f, own, is) = (
    f,
    record { it = x; at = at_f; own = own },
    inl (is, gives, refl),
  )
    where
      other : 0 < f
      other = not-default a desk.own.lawful f x at_f
          (λ e. not-the-default name (none_due (default_refusal name) (find_refusal a.families l name ∷ []) none).0
          (sym own.name_is ∙ e))

      gives : MayGiveDb v b (releases f v.known.task)
      gives = record {
        alive = desk.alive;
        desk = record { books = a; work = idle; due = [] };
        has = desk.db;
        resting = refl;
        due = refl;
        cell = desk.cell;
        turns = released-turns l a b v.known.task called f is other;
        stands = released-stands l a b v.known.task called f l is;
      }

  -- ---- it is retired

  module _ (f : ℕ) (is : IsRetired a b f l) where
    task : Task
    task = releases f v.known.task

    turns : Turns l a v.known.task b (releases f v.known.task) []
    turns = retired-turns l a b v.known.task called f is

    now-own : IsAccounted l b (releases f v.known.task)
    now-own = record {
      lawful = turns.counts.lawful;
      quiet = turns.counts.quiet;
      loud = turns.counts.loud;
      holds = omega (arith, desk.own.holds, turns.counts.holds);
      handles = λ g other. omega (arith, desk.own.handles g other, turns.counts.handles g);
      default = omega (arith, desk.own.default, turns.counts.default);
      output = λ o e. (
        omega (arith, (desk.own.output o e).0, turns.counts.outputs o.meta.number),
        (let w = turns.counts.later.metas in subst (In o.meta) (sym w.1) (in-left o.meta a.metas w.0 (desk.own.output o e).1)),
      );
      job = λ k i. omega (arith, desk.own.job k i, turns.counts.grabbed k.number);
      jobs = omega (arith, desk.own.jobs, turns.counts.jobs);
    }

    abbrev has-a : HasCurrentAt a f
    has-a = record { top = is.top; at = is.on; serial = is.s; is = is.current }

    module _ (install : Install) (family : install.family ≡ f) (tells : TellsEnd a install) where
      kept : IsKept a (Some is.s) install.old
      kept = subst (λ o. IsKept a o install.old) is.current
          (tells.old is.top (ap (λ n. slice_get a.tops n) family ∙ is.on))

      pub has-old : (r : SvRef Body) × (install.old ≡ Some r)
      has-old = by install.old kept
        where
          by : (o : Option (SvRef Body)) → IsKept a (Some is.s) o → (r : SvRef Body) × (o ≡ Some r)
          by None h = absurd h
          by (Some r) h = (r, refl)

      pub may-retire : (r : SvRef Body) → install.old ≡ Some r → v.owes ≡ [] → total (same 0) v.hand ≡ 0
          → length v.hand + 1 < MAX_HAND → MayRetire b f r.pack (releases f v.known.task) v
      may-retire r old owes hand room = record {
        found = a;
        desk = desk;
        near = near;
        turns = turns;
        own = now-own;
        ended = retired-ends l a b v.known.task called f l is;
        family = released is.it l;
        family_at = ap (λ (z : Books). slice_get z.families f) is.is
            ∙ (placed-set a.families f is.it (released is.it l) is.at).here;
        family_is = is.retired;
        was = current-pack a desk.own.lawful f has-a r.pack r.body.value ref;
        big = current-big a desk.own.lawful f has-a r.pack r.body.value ref;
        owes = owes;
        hand = hand;
        room = room;
      }
        where
          ref : IsRefOf a is.s r.pack r.body.value
          ref = subst (IsKept a (Some is.s)) old kept

          near : f < 16
          near = omega (arith, get_lt a.families f is.it is.at, desk.own.lawful.limits.families)

-- ---- what the state did, of the books that it had

module _ (x a b : Books) (same_books : x ≡ a) (l : ℕ) (v : LaneView) (lane : l ≡ v.known.lane) (desk : IsAtDesk a [] v)
    (name : List ℕ) where
  pub locked-refused : (e : Refusal) → release_refusal x.families l name ≡ Some e → b ≡ x
      → ReleasesLocked l name (Err e) a b v v
  locked-refused e due kept = record {
    refused = ap (λ (z : Books). release_refusal z.families l name) (sym same_books) ∙ due;
    closes = tt;
    stays = (kept ∙ same_books, refl);
  }

  module _ (family : Option ℕ) (follows : Follows x b) (is : IsReleasedAs x b l name family)
      (none : release_refusal x.families l name ≡ None) where
    pub done : IsLetGo a b v.known.lane name family
    done = let-go x a b same_books v.known.lane name family follows
        (subst (λ (n : ℕ). IsReleasedAs x b n name family) lane is)
        (subst (λ (n : ℕ). release_refusal x.families n name ≡ None) lane none)

  pub locked-closed : IsLetGo a b v.known.lane name None → ReleasesLocked l name (Ok tt) a b v v
  locked-closed q = subst (λ (n : ℕ). ReleasesLocked n name (Ok tt) a b v v) (sym lane) (record {
    refused = q.none;
    closes = closed a b v desk name q.follows q.none q.released;
    stays = tt;
  })

  module _ (install : Install) (q : IsLetGo a b v.known.lane name (Some install.family)) (told : TellsEnd x install) where
    tells : TellsEnd a install
    tells = subst (λ (z : Books). TellsEnd z install) same_books told

    pub ending-old : (r : SvRef Body) × (install.old ≡ Some r)
    ending-old = has-old a b v desk name q.follows install.family q.released.3 install refl tells

    pub ending-may : (r : SvRef Body) → install.old ≡ Some r → v.owes ≡ [] → total (same 0) v.hand ≡ 0
        → length v.hand + 1 < MAX_HAND → MayRetire b install.family r.pack (releases install.family v.known.task) v
    ending-may = may-retire a b v desk name q.follows install.family q.released.3 install refl tells

    pub locked-retired : (c : Books) (w : LaneView)
        → Retires install.family b c (releases install.family v.known.task) v w → ReleasesLocked l name (Ok tt) a c v w
    locked-retired c w k = subst (λ (n : ℕ). ReleasesLocked n name (Ok tt) a c v w) (sym lane) (record {
      refused = q.none;
      closes = (
        install.family,
        record { it = q.released.0; at = q.released.1; own = q.released.2 },
        inr (b, q.released.3, k),
      );
      stays = tt;
    })
