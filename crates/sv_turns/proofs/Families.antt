-- Turns of handles, of a family's drop and its retirement, and of the end of a current.
use Rattle.std.proofs.Common.{Bool, List, None, Some, [], ap, arith, cond, eq-eqb, false, length, map, ne_eqb, refl, set, suc, sym, true, zero, ℕ, ◌+◌, ◌<◌, ◌∙◌, ◌∷◌, ◌≡◌, ◌≢◌, ◌≤◌}
use Rattle.std.specs.Prelude.{slice_get}
use mathlib.Core.Logic.{dite}
use native.Mathlib.Decide.{ℕ_discrete}
use Rattle.sv_model.specs.Books.{Books}
use Rattle.sv_model.specs.Families.{is_retired}
use Rattle.sv_model.specs.Lists.{at, bit, same, times}
use Rattle.sv_model.specs.Tasks.{Task, handle, handle_in}
use Rattle.sv_model.specs.Turns.{EndsCurrent, NoneRetires, Stands, Turns}
use Rattle.sv_model.specs.declared.records.Family.{Family}
use Rattle.sv_model.proofs.Entries.{some}
use Rattle.sv_model.proofs.Lists.{same_here, same_other}
use Rattle.sv_laws.specs.Families.{IsCurrentEnded, IsDropped, IsOpened, IsReleased, IsRetired, released}
use Rattle.sv_laws.proofs.GrownRegisters.{placed-set}
use Rattle.sv_laws.proofs.Handles.{not-retired, not-retired-open}
use Rattle.sv_turns.specs.Called.{IsCalled, MovesHandles}
use Rattle.sv_turns.specs.Owned.{opens_family, releases, without}
use Rattle.sv_turns.proofs.Frames.{append_none, handles-stand, no_writes, snapshots-stand, true_not_false, turns-files_stand}

-- ---- lists that are set

pub get-here : {A : Type 0} (l : List A) (f : ℕ) (z y : A) → slice_get l f ≡ Some z → slice_get (set l f y) f ≡ Some y
get-here l f z y e = (placed-set l f z y e).here

pub get-other : {A : Type 0} (l : List A) (f : ℕ) (z y : A) → slice_get l f ≡ Some z → (g : ℕ) → g ≢ f
    → slice_get (set l f y) g ≡ slice_get l g
get-other l f z y e = (placed-set l f z y e).others

pub long-set : {A : Type 0} (l : List A) (f : ℕ) (y : A) → length (set l f y) ≡ length l
long-set [] f y = refl
long-set (x ∷ l) zero y = refl
long-set (x ∷ l) (suc f) y = ap suc (long-set l f y)

-- a bit of a list
bit_at : (hs : List Bool) (l : ℕ) (h : Bool) → slice_get hs l ≡ Some h → at 0 (map bit hs) l ≡ bit h
bit_at [] l h e = absurd (cc)
bit_at (x ∷ hs) zero h e = ap bit (some e)
bit_at (x ∷ hs) (suc l) h e = bit_at hs l h e

pub bit-set : (hs : List Bool) (l k : ℕ) (h : Bool) → k ≢ l → at 0 (map bit (set hs l h)) k ≡ at 0 (map bit hs) k
bit-set [] l k h ne = refl
bit-set (x ∷ hs) zero zero h ne = absurd (ne refl)
bit-set (x ∷ hs) zero (suc k) h ne = refl
bit-set (x ∷ hs) (suc l) zero h ne = refl
bit-set (x ∷ hs) (suc l) (suc k) h ne = bit-set hs l k h (λ e. ne (ap suc e))

-- a number that a list has is out once
pub times-without : (f : ℕ) (l : List ℕ) → 1 ≤ times f l → (g : ℕ) → times g (without f l) + same g f ≡ times g l
times-without f [] h g = absurd (omega arith)
times-without f (x ∷ l) h g = dite (ℕ_discrete x f)
    (λ e. omega (arith, ap (λ b. times g (cond b l (x ∷ without f l))) (eq-eqb x f e), ap (same g) e))
    (λ n. omega (
      arith,
      ap (λ b. times g (cond b l (x ∷ without f l))) (ne_eqb x f n),
      times-without f l (omega (arith, h, same_other f x (λ e. n (sym e)))) g,
    ))

-- ---- one family changes

module _ (F G : List Family) (f : ℕ) (o y : Family) (at_f : slice_get F f ≡ Some o) (is : G ≡ set F f y) where
  pub at-here : slice_get G f ≡ Some y
  at-here = ap (λ z. slice_get z f) is ∙ get-here F f o y at_f

  pub at-other : (g : ℕ) → g ≢ f → slice_get G g ≡ slice_get F g
  at-other g ne = ap (λ z. slice_get z g) is ∙ get-other F f o y at_f g ne

  pub family-long : length G ≡ length F
  family-long = ap length is ∙ long-set F f y

  -- handles of other families stand
  pub handle-other : (k g : ℕ) → g ≢ f → handle G k g ≡ handle F k g
  handle-other k g ne = ap (handle_in k) (at-other g ne)

  pub handle-here : (k : ℕ) → handle G k f ≡ at 0 (map bit y.handles) k
  handle-here k = ap (handle_in k) at-here

  pub handle_was : (k : ℕ) → handle F k f ≡ at 0 (map bit o.handles) k
  handle_was k = ap (handle_in k) at_f

  -- all handles stand
  pub handles-same : y.handles ≡ o.handles → (k g : ℕ) → handle G k g ≡ handle F k g
  handles-same e k g = dite (ℕ_discrete g f)
      (λ q. ap (handle G k) q ∙ handle-here k ∙ ap (λ z. at 0 (map bit z) k) e ∙ sym (handle_was k)
      ∙ sym (ap (handle F k) q))
      (λ ne. handle-other k g ne)

  -- of one lane its handle changes
  pub handles-other_lane : (l : ℕ) (h : Bool) → y.handles ≡ set o.handles l h → (k g : ℕ) → k ≢ l
      → handle G k g ≡ handle F k g
  handles-other_lane l h e k g n = dite (ℕ_discrete g f)
      (λ q. ap (handle G k) q ∙ handle-here k ∙ ap (λ z. at 0 (map bit z) k) e ∙ bit-set o.handles l k h n
      ∙ sym (handle_was k) ∙ sym (ap (handle F k) q))
      (λ ne. handle-other k g ne)

  pub none_retires : is_retired y ≡ is_retired o → NoneRetires F G
  none_retires same_retired = record { goes = goes; long = omega (arith, family-long) }
    where
      goes : (g : ℕ) (x : Family) → slice_get F g ≡ Some x → (z : Family) × (slice_get G g ≡ Some z)
          × (is_retired z ≡ is_retired x)
      goes g x e = dite (ℕ_discrete g f)
          (λ q. (y, ap (slice_get G) q ∙ at-here, same_retired ∙ ap is_retired (some (sym at_f ∙ ap (slice_get F) (sym q) ∙ e))))
          (λ ne. (x, at-other g ne ∙ e, refl))

  -- the family is retired by it, and no other
  pub others_retire : (g : ℕ) (x z : Family) → g ≢ f → slice_get F g ≡ Some x → slice_get G g ≡ Some z
      → is_retired z ≡ is_retired x
  others_retire g x z ne e d = ap is_retired (some (sym d ∙ at-other g ne ∙ e))

-- ---- the calls

module _ (l : ℕ) (a b : Books) (t : Task) (c : IsCalled l a t b) (f : ℕ) where
  -- A family is dropped: handles stay.
  pub dropped-turns : (lane : ℕ) → IsDropped a b f lane → Turns l a t b t []
  dropped-turns lane h =
      let y : Family = record h.it { dropped = true } in
      turns-files_stand l a b t c t [] (ap (λ (z : Books). z.files) h.is) refl refl refl refl refl refl
      (ap (λ (z : Books). z.journal) h.is ∙ append_none a.journal) (no_writes l)
      (handles-stand l a.families b.families t.handles
      (handles-same a.families b.families f h.it y h.at (ap (λ (z : Books). z.families) h.is) refl))
      (snapshots-stand a.snapshots b.snapshots t.ended (ap (λ (z : Books). z.snapshots) h.is))

  pub dropped-stands : (lane : ℕ) → IsDropped a b f lane → Stands a b
  dropped-stands lane h =
      let y : Family = record h.it { dropped = true } in
      let families = ap (λ (z : Books). z.families) h.is in
      record {
        supers = ap (λ (z : Books). z.supers) h.is;
        tops = ap (λ (z : Books). z.tops) h.is;
        memtables = ap (λ (z : Books). z.memtables) h.is;
        families = none_retires a.families b.families f h.it y h.at families
            (not-retired y lane h.handle ∙ sym (not-retired h.it lane h.handle));
        long = family-long a.families b.families f h.it y h.at families;
      }

  -- The lane gets a handle, where it had none; the family is not the default one.
  pub opened-turns : (h : IsOpened a b f l) → 0 < f → slice_get h.it.handles l ≡ Some false
      → Turns l a t b (opens_family f t) []
  opened-turns h other none =
      let y : Family = record h.it { handles = set h.it.handles l true } in
      let families = ap (λ (z : Books). z.families) h.is in
      let now : handle b.families l f ≡ 1 = handle-here a.families b.families f h.it y h.at families l
      ∙ bit_at (set h.it.handles l true) l true (get-here h.it.handles l false true none) in
      let before : handle a.families l f ≡ 0 = handle_was a.families b.families f h.it y h.at families l
      ∙ bit_at h.it.handles l false none in
      turns-files_stand l a b t c (opens_family f t) [] (ap (λ (z : Books). z.files) h.is) refl refl refl refl refl
      refl (ap (λ (z : Books). z.journal) h.is ∙ append_none a.journal) (no_writes l)
      (record {
        own = λ g. dite (ℕ_discrete g f)
            (λ q. omega (
              arith,
              ap (handle b.families l) q,
              ap (handle a.families l) q,
              now,
              before,
              ap (λ z. same z f) q,
              same_here f,
            ))
            (λ ne. omega (
              arith,
              handle-other a.families b.families f h.it y h.at families l g ne,
              same_other g f ne,
            ));
        others = λ k g ne. handles-other_lane a.families b.families f h.it y h.at families l true refl k g ne;
        default = omega (arith, same_other 0 f (λ e. omega (arith, e, other)));
      })
      (snapshots-stand a.snapshots b.snapshots t.ended (ap (λ (z : Books). z.snapshots) h.is))

  pub opened-stands : (lane : ℕ) → IsOpened a b f lane → Stands a b
  opened-stands lane h =
      let y : Family = record h.it { handles = set h.it.handles lane true } in
      let families = ap (λ (z : Books). z.families) h.is in
      record {
        supers = ap (λ (z : Books). z.supers) h.is;
        tops = ap (λ (z : Books). z.tops) h.is;
        memtables = ap (λ (z : Books). z.memtables) h.is;
        families = none_retires a.families b.families f h.it y h.at families
            (not-retired-open y h.stands ∙ sym (not-retired-open h.it h.stands));
        long = family-long a.families b.families f h.it y h.at families;
      }

  -- The lane gives its handle of a family that is not the default one.
  module _ (it : Family) (at_f : slice_get a.families f ≡ Some it) (held : slice_get it.handles l ≡ Some true)
      (other : 0 < f) (families : b.families ≡ set a.families f (released it l)) where
    abbrev y : Family
    y = released it l

    release-handles : MovesHandles l a.families b.families t.handles (without f t.handles)
    release-handles =
        let now : handle b.families l f ≡ 0 = handle-here a.families b.families f it y at_f families l
        ∙ bit_at (set it.handles l false) l false (get-here it.handles l true false held) in
        let before : handle a.families l f ≡ 1 = handle_was a.families b.families f it y at_f families l
        ∙ bit_at it.handles l true held in
        let has : 1 ≤ times f t.handles = omega (arith, before, c.own.handles f other) in
        record {
          own = λ g. dite (ℕ_discrete g f)
              (λ q. omega (
                arith,
                ap (handle b.families l) q,
                ap (handle a.families l) q,
                now,
                before,
                times-without f t.handles has g,
                ap (λ z. same z f) q,
                same_here f,
              ))
              (λ ne. omega (
                arith,
                handle-other a.families b.families f it y at_f families l g ne,
                times-without f t.handles has g,
                same_other g f ne,
              ));
          others = λ k g ne. handles-other_lane a.families b.families f it y at_f families l false refl k g ne;
          default = omega (
            arith,
            times-without f t.handles has 0,
            same_other 0 f (λ e. omega (arith, e, other)),
          );
        }

  pub released-turns : IsReleased a b f l → 0 < f → Turns l a t b (releases f t) []
  released-turns h other =
      turns-files_stand l a b t c (releases f t) [] (ap (λ (z : Books). z.files) h.is) refl refl refl refl refl refl
      (ap (λ (z : Books). z.journal) h.is ∙ append_none a.journal) (no_writes l)
      (release-handles h.it h.at h.handle other (ap (λ (z : Books). z.families) h.is))
      (snapshots-stand a.snapshots b.snapshots t.ended (ap (λ (z : Books). z.snapshots) h.is))

  pub released-stands : (lane : ℕ) → IsReleased a b f lane → Stands a b
  released-stands lane h =
      let families = ap (λ (z : Books). z.families) h.is in
      record {
        supers = ap (λ (z : Books). z.supers) h.is;
        tops = ap (λ (z : Books). z.tops) h.is;
        memtables = ap (λ (z : Books). z.memtables) h.is;
        families = none_retires a.families b.families f h.it (released h.it lane) h.at families
            (h.kept ∙ sym (not-retired h.it lane h.handle));
        long = family-long a.families b.families f h.it (released h.it lane) h.at families;
      }

  -- a family that is retired is not the default one
  retired-other : IsRetired a b f l → 0 < f
  retired-other h = by f refl
    where
      by : (n : ℕ) → f ≡ n → 0 < n
      by zero e =
          let d = c.own.lawful.default in
          let stands : h.it.dropped ≡ false = ap (λ (z : Family). z.dropped)
          (some (sym h.at ∙ ap (slice_get a.families) e ∙ d.at)) ∙ d.stands in
          true_not_false (sym h.retired ∙ not-retired-open (released h.it l) stands)
      by (suc n) e = omega arith

  pub retired-turns : IsRetired a b f l → Turns l a t b (releases f t) []
  retired-turns h =
      turns-files_stand l a b t c (releases f t) [] (ap (λ (z : Books). z.files) h.is) refl refl refl refl refl refl
      (ap (λ (z : Books). z.journal) h.is ∙ append_none a.journal) (no_writes l)
      (release-handles h.it h.at h.handle (retired-other h) (ap (λ (z : Books). z.families) h.is))
      (snapshots-stand a.snapshots b.snapshots t.ended (ap (λ (z : Books). z.snapshots) h.is))

  pub retired-ends : (lane : ℕ) → IsRetired a b f lane → EndsCurrent a b f
  retired-ends lane h =
      let families = ap (λ (z : Books). z.families) h.is in
      let tops = ap (λ (z : Books). z.tops) h.is in
      let y = released h.it lane in
      record {
        supers = ap (λ (z : Books). z.supers) h.is;
        memtables = ap (λ (z : Books). z.memtables) h.is;
        top = record h.top { current = None };
        on = ap (λ z. slice_get z f) tops ∙ get-here a.tops f h.top (record h.top { current = None }) h.on;
        none = refl;
        others = λ g ne. ap (λ z. slice_get z g) tops
            ∙ get-other a.tops f h.top (record h.top { current = None }) h.on g ne;
        long = family-long a.families b.families f h.it y h.at families;
        families = others_retire a.families b.families f h.it y h.at families;
        same = λ x z e d r. ap is_retired (some (sym d ∙ ap (λ q. slice_get q f) families
            ∙ get-here a.families f h.it y h.at)) ∙ h.retired;
      }

  -- At the close a current ends.
  pub current_ended-turns : IsCurrentEnded a b f → Turns l a t b t []
  current_ended-turns h =
      turns-files_stand l a b t c t [] (ap (λ (z : Books). z.files) h.is) refl refl refl refl refl refl
      (ap (λ (z : Books). z.journal) h.is ∙ append_none a.journal) (no_writes l)
      (handles-stand l a.families b.families t.handles
      (λ k g. ap (λ (z : Books). handle z.families k g) h.is))
      (snapshots-stand a.snapshots b.snapshots t.ended (ap (λ (z : Books). z.snapshots) h.is))

  pub current_ended-ends : IsCurrentEnded a b f → EndsCurrent a b f
  current_ended-ends h =
      let families = ap (λ (z : Books). z.families) h.is in
      let tops = ap (λ (z : Books). z.tops) h.is in
      record {
        supers = ap (λ (z : Books). z.supers) h.is;
        memtables = ap (λ (z : Books). z.memtables) h.is;
        top = record h.top { current = None };
        on = ap (λ z. slice_get z f) tops ∙ get-here a.tops f h.top (record h.top { current = None }) h.on;
        none = refl;
        others = λ g ne. ap (λ z. slice_get z g) tops
            ∙ get-other a.tops f h.top (record h.top { current = None }) h.on g ne;
        long = ap length families;
        families = λ g x z ne e d. ap is_retired (some (sym d ∙ ap (λ q. slice_get q g) families ∙ e));
        same = λ x z e d r. ap is_retired (some (sym d ∙ ap (λ q. slice_get q f) families ∙ e)) ∙ r;
      }
