-- Handles that come and go.
use Rattle.std.proofs.Common.{Err, List, None, Ok, Result, Option, Some, [], ap, arith, length, refl, slice_get, slice_set, subst, suc, sym, ℕ, ⊎_elim, ◌++◌, ◌+◌, ◌<◌, ◌∙◌, ◌∷◌, ◌≡◌, ◌≢◌, ◌≤◌, ◌⊎◌}
use Rattle.std.proofs.lemmas.List.{length-set}
use Rattle.atomic_table.specs.Seated.{TableId}
use mathlib.Core.Logic.{dite}
use native.Mathlib.Decide.{ℕ_discrete}
use Rattle.sv_borrows.proofs.Growing.{grows-fits}
use Rattle.sv_borrows.specs.Grown.{Grows}
use Rattle.sv_db.proofs.Keeping.{Carries, handled-local, still-handles}
use Rattle.sv_db.proofs.Naming.{name_at}
use Rattle.sv_db.specs.Handles.{ClosesOwn, HasNone, IsHandleOf}
use Rattle.sv_db.specs.Locals.{HandlesFit, IsLocal, PinsFit, has_name}
use Rattle.sv_db.specs.Pins.{IsPin, pin_count}
use Rattle.sv_laws.proofs.GrownRegisters.{placed-set}
use Rattle.sv_model.proofs.AfterLaws.{continues-itself}
use Rattle.sv_model.proofs.Entries.{some}
use Rattle.sv_model.specs.Books.{Books}
use Rattle.sv_model.specs.Lists.{Every, at, same, times, total}
use Rattle.sv_model.specs.Numbers.{IsRegistered}
use Rattle.sv_model.specs.Tasks.{Task}
use Rattle.sv_model.specs.declared.records.Family.{Family}
use Rattle.sv_model.specs.declared.refusals.Refusal.{Refusal}
use Rattle.sv_model.specs.declared.sv_refs.SvRef.{SvRef}
use Rattle.sv_objects.specs.declared.bodies.Body.{Body as Kept}
use Rattle.sv_releases.specs.Releasing.{IsMeant, Releases, release_view}
use Rattle.sv_rule.proofs.CurrentLaws.{get_lt}
use Rattle.sv_rule.proofs.Sums.{same-else, same-self, total-without}
use Rattle.sv_rule.specs.Fits.{Fits}
use Rattle.sv_rule.specs.Sums.{without}
use Rattle.sv_rule.specs.Views.{Bodied, Known, LaneView}
use Rattle.sv_rule.specs.declared.parts.Parts.{Ghosts}
use Rattle.sv_slots.specs.Known.{IsSameSeat, view_of}
use Rattle.sv_slots.specs.declared.table.LaneSeat.{LaneSeat}
use Rattle.sv_turns.specs.Owned.{releases}

-- ---- of what a lane has of its own, only the handles change

fits-before : (k : Known) (hs : List ℕ) (c : Books) → Fits c (record k { task = record k.task { handles = hs } }) → Fits c k
fits-before k hs c t = record {
  lawful = t.lawful;
  start = t.start;
  found = t.found;
  left = t.left;
  mine = t.mine;
  bodies = t.bodies;
  rows = t.rows;
  reads = t.reads;
  seen = t.seen;
  removed = t.removed;
  ended = t.ended;
  round = t.round;
  frames = t.frames;
}

module _ (a b : Books) (more : List Bodied) (seen looked : List ℕ) (adds : ℕ) (v : LaneView)
    (alike : (f : ℕ) → at 0 seen f ≡ at 0 v.known.seen f) (hs : List ℕ) where
  abbrev pub handled : LaneView
  handled = release_view a b (record v.known.task { handles = hs }) more seen looked adds v

  abbrev own : Known
  own = record v.known { task = record v.known.task { handles = hs } }

  handled-grows : Grows own handled.known
  handled-grows = record {
    base = refl;
    found = (a ∷ [], refl);
    left = (b ∷ [], refl);
    bodies = (more, refl);
    rows = continues-itself v.known.rows;
    reads = continues-itself v.known.reads;
    seen = λ f. omega (arith, alike f);
  }

  pub handled-carries : Carries v handled
  handled-carries = record {
    seat = refl;
    locks = refl;
    away = λ f was. was;
    owes = refl;
    lane = refl;
    bodies = (more, refl);
    fits = λ c t. fits-before v.known hs c (grows-fits own handled.known handled-grows c t);
  }

-- ---- a handle goes

module _ (names : List (Option (List ℕ))) (v : LaneView) (fit : HandlesFit names v) (name : List ℕ) where
  -- the family that the lane means by the name is that of its handle of the name
  pub own-place : (l : ℕ) (a : Books) → Fits a v.known → (f : ℕ) → IsMeant l name a f → 1 ≤ times f v.known.task.handles
      → IsHandleOf name names f
  own-place l a fits f meant has =
      let near : f < 16 = omega (arith, get_lt a.families f meant.it meant.at, fits.lawful.limits.families) in
      let named = name_at (slice_get names f) (omega (arith, fit.count f near, has)) in
      let it = fit.named f named.0 named.1 a fits in
      let same : it.it ≡ meant.it = some (sym it.at ∙ meant.at) in
      let name_is : named.0 ≡ name = sym it.name_is ∙ ap (λ (z : Family). z.name) same ∙ meant.own.name_is in
      named.1 ∙ ap (λ n. Some (Some n)) name_is

  module _ (g : ℕ) (is : IsHandleOf name names g) where
    there : slice_get (slice_set names g None) g ≡ Some None
    there = (placed-set names g (Some name) None is).here

    back : (k : ℕ) (n : List ℕ) → k ≢ g → IsHandleOf n (slice_set names g None) k → IsHandleOf n names k
    back k n ne own = sym ((placed-set names g (Some name) None is).others k ne) ∙ own

    gone : (k : ℕ) (n : List ℕ) → k ≡ g → IsHandleOf n (slice_set names g None) k → ⊥
    gone k n e own = absurd (let none : None ≡ Some n = some (sym there ∙ ap (slice_get (slice_set names g None)) (sym e) ∙ own) in cc)

    pub closes-fit : (w : LaneView) → 1 ≤ times g v.known.task.handles → w.known.task.handles ≡ without g v.known.task.handles
        → ((c : Books) → Fits c w.known → Fits c v.known) → HandlesFit (slice_set names g None) w
    closes-fit w has handles fits = record {
      long = length-set names g None ∙ fit.long;
      count = λ k near. dite (ℕ_discrete k g)
          (λ e. omega (
            arith,
            ap (times k) handles,
            total-without g v.known.task.handles has k,
            fit.count k near,
            ap has_name (ap (slice_get (slice_set names g None)) e ∙ there),
            ap has_name (ap (slice_get names) e ∙ is),
            ap (same k) (sym e),
            same-self k,
          ))
          (λ ne. omega (
            arith,
            ap (times k) handles,
            total-without g v.known.task.handles has k,
            fit.count k near,
            ap has_name ((placed-set names g (Some name) None is).others k ne),
            same-else k g (λ e. ne (sym e)),
          ));
      named = λ k n own c t. dite (ℕ_discrete k g) (λ e. absurd (gone k n e own))
          (λ ne. fit.named k n (back k n ne own) c (fits c t));
      distinct = λ j k n one other. dite (ℕ_discrete j g) (λ e. absurd (gone j n e one))
          (λ nj. dite (ℕ_discrete k g) (λ e. absurd (gone k n e other))
          (λ nk. fit.distinct j k n (back j n nj one) (back k n nk other)));
    }

-- ---- a release

-- what it carries, with these handles
pub record Carried (v w : LaneView) (hs : List ℕ) : Type 0 where
  pub carries : Carries v w
  pub handles : w.known.task.handles ≡ hs
  pub hand : w.hand ≡ v.hand

releases-carries : (l : ℕ) (name : List ℕ) (r : Result (Unit {0}) Refusal) (v w : LaneView) (h : Releases l name r v w)
    (hs : List ℕ) → h.task ≡ record v.known.task { handles = hs } → Carried v w hs
releases-carries l name r v w h hs task_is = record {
  carries = subst (Carries v) (sym is) (handled-carries h.found h.left h.more h.seen h.looked h.adds v h.alike hs);
  handles = ap (λ (z : LaneView). z.known.task.handles) is;
  hand = ap (λ (z : LaneView). z.hand) is;
}
  where
    is : w ≡ handled h.found h.left h.more h.seen h.looked h.adds v h.alike hs
    is = h.is ∙ ap (λ (u : Task). release_view h.found h.left u h.more h.seen h.looked h.adds v) task_is

module _ {P S D C B : Type 0} {g : Ghosts P S D C B} (t : TableId) (lanes lane : ℕ) (names : List (Option (List ℕ)))
    (pins : List (Option (SvRef Kept))) (old new : LaneSeat P S D C B g) (same_seat : IsSameSeat old new)
    (was : IsLocal t lanes lane names pins old) (name : List ℕ) where
  pub refused-local : (e : Refusal) → Releases lane name (Err e) (view_of old) (view_of new) → IsLocal t lanes lane names pins new
  refused-local e h =
      let v = view_of old in let w = view_of new in
      let k = releases-carries lane name (Err e) v w h v.known.task.handles h.answers.stays.1 in
      handled-local t lanes lane names pins old new same_seat k.carries was names k.hand
      (still-handles v w k.carries names k.handles was.handles)

  module _ (h : Releases lane name (Ok tt) (view_of old) (view_of new)) where
    own-here : IsHandleOf name names h.answers.closes.0
    own-here = own-place names (view_of old) was.handles name lane h.found h.fits h.answers.closes.0 h.answers.closes.1
        h.answers.closes.3

    -- so the handle is closed that it had
    pub closed-own : (after : List (Option (List ℕ))) → ClosesOwn name names after ⊎ (HasNone name names × (after ≡ names))
        → ClosesOwn name names after
    closed-own after c = ⊎_elim (λ k. k) (λ k. absurd (k.0 h.answers.closes.0 own-here)) c

    pub released-local : (after : List (Option (List ℕ))) → ClosesOwn name names after → IsLocal t lanes lane after pins new
    released-local after c =
        let v = view_of old in let w = view_of new in
        let same : h.answers.closes.0 ≡ c.family = was.handles.distinct h.answers.closes.0 c.family name own-here c.own in
        let k = releases-carries lane name (Ok tt) v w h (without c.family v.known.task.handles)
        (h.answers.closes.4 ∙ ap (λ n. releases n v.known.task) same) in
        subst (λ z. IsLocal t lanes lane z pins new) (sym c.is)
        (handled-local t lanes lane names pins old new same_seat k.carries was (slice_set names c.family None) k.hand
        (closes-fit names v was.handles name c.family c.own w (subst (λ n. 1 ≤ times n v.known.task.handles) same h.answers.closes.3)
        k.handles k.carries.fits))

-- no pin is of the pack 0
no-pin : (pins : List (Option (SvRef Kept))) → ((n : ℕ) (sv : SvRef Kept) → IsPin pins n sv → 256 ≤ sv.pack)
    → total (pin_count 0) pins ≡ 0
no-pin [] big = refl
no-pin (None ∷ pins) big = omega (arith, no-pin pins (λ n sv is. big (suc n) sv is))
no-pin (Some sv ∷ pins) big = omega (
  arith,
  same-else 0 sv.pack (λ e. omega (arith, e, big 0 sv refl)),
  no-pin pins (λ n k is. big (suc n) k is),
)

pub no-zero : (pins : List (Option (SvRef Kept))) (v : LaneView) → PinsFit pins v → total (same 0) v.hand ≡ 0
no-zero pins v fit = omega (arith, fit.hand 0, no-pin pins (λ n sv is. (fit.each n sv is).shown.pack))
