-- What a lane was told stays within the books as they go on, and what one more answer adds is within them.
use Rattle.std.proofs.Common.{◌≡◌, ◌≢◌, ◌≤◌, ◌⊎◌, inl, inr, ⊎_elim, ℕ, Bool, true, false, max, List, length, Option, Some, refl, sym, ap, subst, arith}
use Rattle.std.specs.Prelude.{if◌then◌else◌, bytes_eq}
use Rattle.std.proofs.Math.Nat.{max-le, le-max_left, le-max_right}
use Rattle.std.proofs.lemmas.Bool.{cases_lt}
use Rattle.std.proofs.lemmas.Bool.Decides.{eqb_tells}
use Rattle.std.proofs.lemmas.Slice.Eq.{bytes_eq-Decides}
use Rattle.sv_model.specs.After.{After, KeepsSnapshot}
use Rattle.sv_model.specs.Books.{Books}
use Rattle.sv_model.specs.Journal.{of_family}
use Rattle.sv_replies.specs.Known.{FamilyKnown, Known, as_dropped, flushed_to, learns, met, reached_to, saw, with_at, with_handle}
use Rattle.sv_replies.specs.Knows.{Knows, KnowsFamily, LastReaches}
use Rattle.sv_replies.specs.Moments.{IsAt, IsIn, IsOf, WasDropped}
use Rattle.sv_replies.specs.SnapLaw.{IsOver}
use Rattle.sv_replies.proofs.AfterLemmas.{count-later, dropped-later, goes_on-length, in-register, named-later, of-later}

-- ---- as books go on

-- the files of a family's last Version reach as far
pub reach-later : (a b : Books) (family upto : ℕ) → After a b → IsAt (LastReaches a upto) a.tops family
    → IsAt (LastReaches b upto) b.tops family
reach-later a b family upto after h =
    let at = after.tops family h.0 h.1 in
    (at.0, at.1, omega (arith, h.2, at.2.reach))

pub over-later : (a b : Books) (n : ℕ) → After a b → IsIn IsOver a.snapshots n → IsIn IsOver b.snapshots n
over-later a b n after h =
    in-register KeepsSnapshot IsOver IsOver (λ x y kept is. kept.gone is) a.snapshots b.snapshots n after.snapshots h

knows_family-later : (a b : Books) (f : ℕ) (x : FamilyKnown) → After a b → KnowsFamily a f x → KnowsFamily b f x
knows_family-later a b f x after h = record {
  seen = omega (arith, h.seen, count-later a.journal b.journal f after.journal);
  serial = ⊎_elim (λ none. inl none) (λ is. inr (of-later a b f x.serial after is)) h.serial;
  flushed = h.flushed;
  reached = ⊎_elim (λ none. inl none) (λ is. inr (reach-later a b f x.reached after is)) h.reached;
  dropped = λ is. dropped-later a b f after (h.dropped is);
}

pub knows-later : (a b : Books) (k : Known) → After a b → Knows a k → Knows b k
knows-later a b k after h = record {
  families = λ f. knows_family-later a b f (k.families f) after (h.families f);
  handles = λ name f is. named-later a b f name after (h.handles name f is);
  named = λ name f is. named-later a b f name after (h.named name f is);
  created = omega (arith, h.created, goes_on-length _ a.families b.families after.families);
  file = omega (arith, h.file, after.next);
  pins = λ n p is. of-later a b p.family p.serial after (h.pins n p is);
  snapshots = λ n is. let at = after.snapshots n (h.snapshots n is).0 (h.snapshots n is).1 in (at.0, at.1);
  ended = λ n is. over-later a b n after (h.ended n is);
}

-- ---- functions with another answer at one place

pub at-here : {A : Type 0} (f : ℕ → A) (at : ℕ) (x : A) (n : ℕ) → n ≡ at → with_at f at x n ≡ x
at-here f at x n e = ⊎_elim
    (λ is. ap (λ (b : Bool). if b then x else f n) is.0)
    (λ other. absurd (other.1 e))
    (eqb_tells n at)

pub at-other : {A : Type 0} (f : ℕ → A) (at : ℕ) (x : A) (n : ℕ) → n ≢ at → with_at f at x n ≡ f n
at-other f at x n d = ⊎_elim
    (λ is. absurd (d is.1))
    (λ other. ap (λ (b : Bool). if b then x else f n) other.0)
    (eqb_tells n at)

-- what holds of each answer, and of the other one
pub at_holds : {A : Type 0} (P : ℕ → A → Type 0) (f : ℕ → A) (at : ℕ) (x : A) → ((n : ℕ) → P n (f n)) → P at x
    → (n : ℕ) → P n (with_at f at x n)
at_holds {A} P f at x each here n = ⊎_elim
    (λ is. subst (λ (y : A). P n y) (sym (at-here f at x n is.1)) (subst (λ m. P m x) (sym is.1) here))
    (λ other. subst (λ (y : A). P n y) (sym (at-other f at x n other.1)) (each n))
    (eqb_tells n at)

pub unequal : (x y : List ℕ) → (bytes_eq x y ≡ true) ⊎ (bytes_eq x y ≡ false)
unequal x y = at (bytes_eq x y) refl
  where
    at : (b : Bool) → bytes_eq x y ≡ b → (bytes_eq x y ≡ true) ⊎ (bytes_eq x y ≡ false)
    at true e = inl e
    at false e = inr e

-- the same of names
pub handle_holds : (P : List ℕ → Option ℕ → Type 0) (handles : List ℕ → Option ℕ) (name : List ℕ) (f : Option ℕ)
    → ((other : List ℕ) → P other (handles other)) → P name f → (other : List ℕ)
    → P other (with_handle handles name f other)
handle_holds P handles name f each here other = ⊎_elim
    (λ is.
    let same : other ≡ name = (bytes_eq-Decides other name).0 is in
    subst (λ (y : Option ℕ). P other y) (sym (ap (λ (b : Bool). if b then f else handles other) is)) (subst (λ m. P m f) (sym same) here))
    (λ is. subst (λ (y : Option ℕ). P other y) (sym (ap (λ (b : Bool). if b then f else handles other) is)) (each other))
    (unequal other name)

-- ---- more of a family

-- what is known of one family is more, and within the books
pub knows-learns : (b : Books) (k : Known) (more : FamilyKnown → FamilyKnown) (f : ℕ) → Knows b k
    → KnowsFamily b f (more (k.families f)) → Knows b (learns more (Some f) k)
knows-learns b k more f h new = record {
  families = at_holds (λ g x. KnowsFamily b g x) k.families f (more (k.families f)) h.families new;
  handles = h.handles;
  named = h.named;
  created = h.created;
  file = h.file;
  pins = h.pins;
  snapshots = h.snapshots;
  ended = h.ended;
}

max_is : (n m : ℕ) → (max n m ≡ n) ⊎ (max n m ≡ m)
max_is n m = elim (cases_lt n m) [
  | inl lt ↦ inr (let most : max n m ≤ m = max-le (omega (arith, lt)) (omega arith) in omega (arith, most, le-max_right n m))
  | inr ge ↦ inl (let most : max n m ≤ n = max-le (omega arith) (omega (arith, ge)) in omega (arith, most, le-max_left n m))
]

max_of : (P : ℕ → Type 0) (n m : ℕ) → P n → P m → P (max n m)
max_of P n m p q = ⊎_elim
    (λ e. subst P (sym e) p)
    (λ e. subst P (sym e) q)
    (max_is n m)

max_both : (n m to : ℕ) → n ≤ m → max n to ≤ max m to
max_both n m to le = max-le (omega (arith, le, le-max_left m to)) (le-max_right m to)

max_more : (n m to : ℕ) → n ≤ m → n ≤ max m to
max_more n m to le = omega (arith, le, le-max_left m to)

module _ (b : Books) (f : ℕ) (x : FamilyKnown) (h : KnowsFamily b f x) where
  pub knows-saw : (n : ℕ) → n ≤ length (of_family f b.journal) → KnowsFamily b f (saw n x)
  knows-saw n within =
      record { seen = max-le h.seen within; serial = h.serial; flushed = h.flushed; reached = h.reached; dropped = h.dropped }

  pub knows-met : (sv : ℕ) → IsIn (IsOf f) b.supers sv → KnowsFamily b f (met sv x)
  knows-met sv of = record {
    seen = h.seen;
    serial = max_of (λ s. (s ≡ 0) ⊎ IsIn (IsOf f) b.supers s) x.serial sv h.serial (inr of);
    flushed = h.flushed;
    reached = h.reached;
    dropped = h.dropped;
  }

  pub knows-flushed : (to : ℕ) → IsAt (LastReaches b to) b.tops f → KnowsFamily b f (flushed_to to x)
  knows-flushed to at = record {
    seen = h.seen;
    serial = h.serial;
    flushed = max_both x.flushed x.reached to h.flushed;
    reached = max_of (λ s. (s ≡ 0) ⊎ IsAt (LastReaches b s) b.tops f) x.reached to h.reached (inr at);
    dropped = h.dropped;
  }

  pub knows-reached : (to : ℕ) → IsAt (LastReaches b to) b.tops f → KnowsFamily b f (reached_to to x)
  knows-reached to at = record {
    seen = h.seen;
    serial = h.serial;
    flushed = max_more x.flushed x.reached to h.flushed;
    reached = max_of (λ s. (s ≡ 0) ⊎ IsAt (LastReaches b s) b.tops f) x.reached to h.reached (inr at);
    dropped = h.dropped;
  }

  pub knows-dropped : WasDropped b f → KnowsFamily b f (as_dropped x)
  knows-dropped is =
      record { seen = h.seen; serial = h.serial; flushed = h.flushed; reached = h.reached; dropped = λ e. is }
