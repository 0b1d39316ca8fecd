-- The round word and what lanes loaded, from step to step.
use Rattle.std.proofs.Common.{List, ap, arith, inl, inr, length, refl, set, subst, sym, ℕ, ⊎_elim, ◌+◌, ◌/◌, ◌<◌, ◌∙◌, ◌≡◌, ◌≢◌, ◌≤◌}
use mathlib.Core.Logic.{dite}
use mathlib.Core.Option.{some}
use native.Mathlib.Decide.{dec_le, ℕ_discrete}
use lib.ListN.{get_elem?}
use Rattle.sv_model.specs.After.{After}
use Rattle.sv_model.specs.Books.{Books}
use Rattle.sv_model.specs.Lawful.{Lawful}
use Rattle.sv_model.specs.Lists.{Every, same, total}
use Rattle.sv_model.proofs.AfterLaws.{after-itself}
use Rattle.sv_rule.specs.Fits.{Together}
use Rattle.sv_rule.specs.Numbers.{Numbers}
use Rattle.sv_rule.specs.Rounds.{Loaded, Rounds}
use Rattle.sv_rule.specs.Sums.{below}
use Rattle.sv_model.specs.Supers.{IsSerialOf, current_of, has_current}
use Rattle.sv_model.specs.Turns.{Opens}
use Rattle.sv_rule.specs.Table.{number}
use Rattle.sv_rule.specs.Tasks.{all_adds}
use Rattle.sv_rule.specs.UnderWay.{begins, excepts, sets, sets_on}
use Rattle.sv_rule.specs.Views.{Joined, LaneView, Load, Work, begun, idle, opens, sweeping}
use Rattle.sv_rule.proofs.Basics.{each_set}
use Rattle.sv_rule.proofs.CurrentLaws.{current_marks, one_family, pack_le, pack_serial, serial_le}
use Rattle.sv_rule.proofs.LaterBooks.{pack-after}
use Rattle.sv_rule.proofs.NumberTurns.{opens-back}
use Rattle.sv_rule.proofs.StepLaws.{rounds_view}
use Rattle.sv_rule.proofs.Sums.{same-self, total-set}

sets_except : (f : ℕ) (w : Work) → 0 < sets_on f w → 0 < excepts f w
sets_except f idle h = absurd (omega arith)
sets_except f (opens g) h = h
sets_except f (begun g) h = absurd (omega arith)
sets_except f (sweeping g old m mid taken) h = absurd (omega arith)

except_sets : (f : ℕ) (w : Work) → begins w ≡ 0 → 0 < excepts f w → 0 < sets_on f w
except_sets f idle n h = absurd (omega arith)
except_sets f (opens g) n h = h
except_sets f (begun g) n h = absurd (omega arith)
except_sets f (sweeping g old m mid taken) n h = absurd (omega arith)

-- what is said of a work
abbrev pub rounds_of : Work → ℕ × ℕ × (ℕ → ℕ)
rounds_of w = (sets w, begins w, λ f. sets_on f w)

-- ---- what was loaded

-- a SuperVersion that comes while a work is set or begun is the last
last_of_all : (b : Books) (work : Work) (number : ℕ → ℕ) (f t : ℕ) → Numbers b work number → f < 16
    → IsSerialOf b.supers f t → 0 < excepts f work → t ≡ current_of b f / 256 → t ≡ length b.supers
last_of_all b work number f t k near of works is =
    let pos = (serial_le b.supers f t of).0 in
    is ∙ k.top f near works (dite (dec_le 256 (current_of b f)) (λ z. z)
    (λ z. absurd (omega (
      arith,
      current_marks b f (omega arith),
      ap (λ (y : ℕ). y / 256) (current_marks b f (omega arith)),
    ))))

-- the number word as it is loaded
pub loaded-now : (b : Books) (work : Work) (moved : ℕ) (number : ℕ → ℕ) (f : ℕ) → f < 16
    → (0 < begins work → 16 ≤ moved) → Numbers b work number
    → Loaded b work moved number (record { family = f; pack = number f })
loaded-now b work moved number f near none k = let o = k.word f near in record {
  near = near;
  is = o.is;
  still = λ _. refl;
  after = λ s big t of past. ⊎_elim (λ z. absurd (omega arith))
      (λ z. inr (
        except_sets f work (dite (ℕ_discrete (begins work) 0) (λ e. e)
            (λ n. absurd (omega (arith, none (omega arith))))) z.0,
        z.1,
      )) (o.last big t of);
}

-- what is loaded in one round was current together
pub loaded-together : (b : Books) (work : Work) (round : ℕ) (number : ℕ → ℕ) (vs : List LaneView)
    → Numbers b work number → (r : Rounds b work round number vs) → (loads : List Load)
    → Every (Loaded b work r.moved number) loads → Together b.supers loads
loaded-together b work round number vs k r loads all i x at_x j y at_y two big_x big_y =
    let lx = all i x at_x in
    let ly = all j y at_y in
    let of_x = lx.is big_x in
    let of_y = ly.is big_y in record {
      left = of_x;
      right = of_y;
      none = λ t of past. let other : t ≢ y.pack / 256 = λ e. two
          (one_family (subst (λ (z : ℕ). IsSerialOf b.supers x.family z) e of) (pack_serial of_y)) in
          let y_le : y.pack / 256 ≤ length b.supers = pack_le of_y in
          dite (ℕ_discrete x.family r.moved)
          (λ m. let y_is : y.pack ≡ number y.family = ly.still (λ z. two (m ∙ sym z)) in
          ⊎_elim
          (λ (e : t ≡ number x.family / 256). let g = r.greatest (omega (arith, lx.near)) y.family ly.near
          (omega (arith, ap number m, (serial_le b.supers x.family t of).0)) in
          omega (arith, ap (λ (z : ℕ). z / 256) y_is, ap (λ (z : ℕ). number z / 256) m))
          (λ (e : (0 < sets_on x.family work) × (t ≡ current_of b x.family / 256)). omega
          (arith, last_of_all b work number x.family t k lx.near of (sets_except x.family work e.0) e.1))
          (lx.after m big_x t of past))
          (λ n. let x_is : x.pack ≡ number x.family = lx.still n in
          ⊎_elim
          (λ (e : t ≤ number x.family / 256). absurd (omega (arith, ap (λ (z : ℕ). z / 256) x_is)))
          (λ (e : (0 < excepts x.family work) × (t ≡ current_of b x.family / 256)). omega
          (arith, last_of_all b work number x.family t k lx.near of e.0 e.1))
          ((k.word x.family lx.near).last (omega (arith, x_is)) t of));
    }

-- where no SuperVersion is new, and number words, currents and what is set stand
pub loaded-turn : (a b : Books) → After a b → ((f t : ℕ) → IsSerialOf b.supers f t → IsSerialOf a.supers f t)
    → (work work' : Work) (moved : ℕ) (number₀ number₁ : ℕ → ℕ) → ((f : ℕ) → f < 16 → number₁ f ≡ number₀ f)
    → ((f : ℕ) → sets_on f work' ≡ sets_on f work) → ((f : ℕ) → 0 < sets_on f work → current_of b f ≡ current_of a f)
    → (x : Load) → Loaded a work moved number₀ x → Loaded b work' moved number₁ x
loaded-turn a b later back work work' moved number₀ number₁ numbers e currents x h = record {
  near = h.near;
  is = λ big. pack-after a b later x.family x.pack (h.is big);
  still = λ n. h.still n ∙ sym (numbers x.family h.near);
  after = λ s big t of past. ⊎_elim
      (λ z. inl (z ∙ ap (λ (y : ℕ). y / 256) (sym (numbers x.family h.near))))
      (λ z. inr (omega (arith, e x.family, z.0), z.1 ∙ ap (λ c. c / 256) (sym (currents x.family z.0))))
      (h.after s big t (back x.family t of) past);
}

-- the same where the books stand
pub loaded-work : (b : Books) (work work' : Work) (moved : ℕ) (number₀ number₁ : ℕ → ℕ)
    → ((f : ℕ) → f < 16 → number₁ f ≡ number₀ f) → ((f : ℕ) → sets_on f work' ≡ sets_on f work) → (x : Load)
    → Loaded b work moved number₀ x → Loaded b work' moved number₁ x
loaded-work b work work' moved number₀ number₁ numbers e = loaded-turn b b (after-itself b) (λ f t s. s) work work'
    moved number₀ number₁ numbers e (λ f z. refl)

-- where a SuperVersion is made
pub loaded-opens : (a b : Books) (later : After a b) (before : Lawful a) (f p : ℕ) (h : Opens a b f p) (moved : ℕ)
    (number₀ number₁ : ℕ → ℕ) → ((g : ℕ) → g < 16 → number₁ g ≡ number₀ g) → (x : Load)
    → Loaded a idle moved number₀ x → Loaded b (opens f) moved number₁ x
loaded-opens a b later before f p h moved number₀ number₁ numbers x l = record {
  near = l.near;
  is = λ y. pack-after a b later x.family x.pack (l.is y);
  still = λ n. l.still n ∙ sym (numbers x.family l.near);
  after = λ s y t of past. ⊎_elim
      (λ old. ⊎_elim (λ z. inl (z ∙ ap (λ (c : ℕ). c / 256) (sym (numbers x.family l.near))))
      (λ z. absurd (omega (arith, z.0))) (l.after s y t old past))
      (λ made. inr (
        omega (arith, ap (same f) made.1, same-self f),
        made.0
            ∙ sym (ap (λ z. current_of b z / 256) made.1 ∙ ap (λ z. z / 256) h.current),
      ))
      (opens-back a b later before f p h x.family t of);
}

-- ---- the part

-- the view of the stepping lane is another, and the rest is as it was
module _ (a b : Books) (work work' : Work) (round₀ round₁ : ℕ) (number₀ number₁ : ℕ → ℕ) (vs : List LaneView) (id : ℕ)
    (v w : LaneView) (me : get_elem? vs id ≡ some v) (rounds : round₁ ≡ round₀)
    (numbers : (f : ℕ) → f < 16 → number₁ f ≡ number₀ f) where
  pub rounds-set : begins work' ≡ begins work → (old : Rounds a work round₀ number₀ vs)
      → ((x : Load) → Loaded a work old.moved number₀ x → Loaded b work' old.moved number₁ x)
      → round₀ + below (has_current b) 16 + sets work' ≤ length b.supers + length b.families
      → all_adds w ≡ all_adds v → w.known.round ≤ round₀
      → (w.known.round ≡ round₀ → Every (Loaded b work' old.moved number₁) w.loads)
      → Rounds b work' round₁ number₁ (set vs id w)
  rounds-set same_begins old loads_on bound adds low loaded = record {
    moved = old.moved;
    begun_none = λ z. old.begun_none (omega (arith, same_begins));
    greatest = λ m g l big. omega (
      arith,
      old.greatest m g l (omega (arith, numbers old.moved m)),
      numbers old.moved m,
      numbers g l,
    );
    sum = omega (arith, rounds, old.sum, total-set all_adds vs id v w me, adds);
    bound = omega (arith, rounds);
    low = each_set (λ j u. u.known.round ≤ round₁) vs id w (omega (arith, rounds))
        (λ j u e. omega (arith, old.low j u e, rounds));
    loaded = each_set (λ j u. u.known.round ≡ round₁ → Every (Loaded b work' old.moved number₁) u.loads) vs id w
        (λ z. loaded (z ∙ rounds)) (λ j u e z i x y. loads_on x (old.loaded j u e (z ∙ rounds) i x y));
  }

  -- the same where the view says the same of rounds
  pub rounds-on : begins work' ≡ begins work → (old : Rounds a work round₀ number₀ vs)
      → ((x : Load) → Loaded a work old.moved number₀ x → Loaded b work' old.moved number₁ x)
      → round₀ + below (has_current b) 16 + sets work' ≤ length b.supers + length b.families
      → rounds_view w ≡ rounds_view v → Rounds b work' round₁ number₁ (set vs id w)
  rounds-on same_begins old loads_on bound stand = rounds-set same_begins old loads_on bound
      (ap (λ (z : ℕ × List Load × ℕ × List Joined). z.2 + total (λ (o : Joined). o.counts.adds) z.3) stand)
      (omega (arith, old.low id v me, ap (λ (z : ℕ × List Load × ℕ × List Joined). z.0) stand))
      (subst (λ (z : ℕ × List Load × ℕ × List Joined). z.0 ≡ round₀ → Every (Loaded b work' old.moved number₁) z.1)
      (sym stand) (λ z i x y. loads_on x (old.loaded id v me z i x y)))

-- a step that leaves books, rounds and number words
pub rounds-work : (b : Books) (work work' : Work) (round₀ round₁ : ℕ) (number₀ number₁ : ℕ → ℕ) (vs : List LaneView)
    (id : ℕ) (v w : LaneView) → get_elem? vs id ≡ some v → round₁ ≡ round₀
    → ((f : ℕ) → f < 16 → number₁ f ≡ number₀ f) → rounds_of work' ≡ rounds_of work
    → rounds_view w ≡ rounds_view v → Rounds b work round₀ number₀ vs → Rounds b work' round₁ number₁ (set vs id w)
rounds-work b work work' round₀ round₁ number₀ number₁ vs id v w me rounds numbers e stand old = rounds-on b b work
    work' round₀ round₁ number₀ number₁ vs id v w me rounds numbers (ap (λ (z : ℕ × ℕ × (ℕ → ℕ)). z.1) e) old
    (loaded-work b work work' old.moved number₀ number₁ numbers (λ f. ap (λ (z : ℕ × ℕ × (ℕ → ℕ)). z.2 f) e))
    (omega (arith, old.bound, ap (λ (z : ℕ × ℕ × (ℕ → ℕ)). z.0) e)) stand
