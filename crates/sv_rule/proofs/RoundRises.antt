-- The round word and what was loaded, as the round rises and as a number word changes.
use Rattle.std.proofs.Common.{Bool, List, None, Option, Some, ap, arith, cond, inl, inr, length, refl, set, slice_get, subst, sym, ℕ, ⊎_elim, ◌+◌, ◌/◌, ◌<◌, ◌==◌, ◌∙◌, ◌≡◌, ◌≢◌, ◌≤◌, ◌⊎◌}
use mathlib.Core.Logic.{dite}
use mathlib.Core.Option.{some}
use native.Mathlib.Decide.{dec_le, ℕ_discrete}
use lib.ListN.{get_elem?}
use Rattle.sv_model.specs.After.{After}
use Rattle.sv_model.specs.Books.{Books}
use Rattle.sv_model.specs.Lawful.{Lawful}
use Rattle.sv_model.specs.Lists.{Every, total}
use Rattle.sv_model.specs.declared.records.Top.{Top}
use Rattle.sv_rule.specs.Numbers.{Numbers}
use Rattle.sv_rule.specs.Rounds.{Loaded, Rounds}
use Rattle.sv_rule.specs.Sums.{below}
use Rattle.sv_model.specs.Supers.{current_of, has_current}
use Rattle.sv_model.specs.Turns.{Opens}
use Rattle.sv_rule.specs.Tasks.{all_adds}
use Rattle.sv_rule.specs.Views.{Joined, LaneView, Load, Work, begun, sweeping}
use Rattle.sv_rule.proofs.Basics.{each_set, get-past}
use Rattle.sv_rule.proofs.CurrentLaws.{HasTop, current_big, get_lt, has-top, has_current_le, has_current_one, pack_le, some-at}
use Rattle.sv_rule.proofs.NumberTurns.{opens-long, opens-others}
use Rattle.sv_rule.proofs.NumberWorks.{new-is-last}
use Rattle.sv_rule.proofs.StepLaws.{rounds_view}
use Rattle.sv_rule.proofs.Sums.{below-put, below-same, total-set}

-- ---- the bound

-- as many families have a current
pub has-current-same : (a b : Books) → ((f : ℕ) → current_of b f ≡ current_of a f)
    → below (has_current b) 16 ≡ below (has_current a) 16
has-current-same a b e = below-same (has_current a) (has_current b) 16 (λ k _. ap (λ c. cond (c == 0) 0 1) (e k))

-- one family more, or another current of one
pub bound-opens : (a b : Books) (later : After a b) (before : Lawful a) (lawful : Lawful b) (f p round : ℕ)
    (h : Opens a b f p) → f < 16 → 256 ≤ p → round + below (has_current a) 16 + 0 ≤ length a.supers + length
    a.families → round + below (has_current b) 16 + 1 ≤ length b.supers + length b.families
bound-opens a b later before lawful f p round h near big old =
    let moved = below-put (has_current a) (has_current b) f 16 near
    (λ k n. ap (λ c. cond (c == 0) 0 1) (opens-others a b later before f p h k n)) in
    let now = has_current_one b f (omega (arith, h.current)) in
    let long = opens-long a b later before f p h in
    ⊎_elim
    (λ (had : has_current a f ≡ 1). omega (arith, old, moved, now, had, long, h.serial, h.families.long))
    (λ (new : length a.families + 1 ≤ length b.families). omega
    (arith, old, moved, now, has_current_le a f, long, h.serial, new))
    (by_top (slice_get a.tops f) refl)
  where
    t : HasTop b f
    t = has-top b lawful f (omega (arith, h.current))

    by_top : (o : Option Top) → slice_get a.tops f ≡ o → (has_current a f ≡ 1)
        ⊎ (length a.families + 1 ≤ length b.families)
    by_top None e = inr (omega (arith, get-past a.tops f e, get_lt b.families f t.family t.family_at, before.paired))
    by_top (Some x) e =
        let s = h.had x e in
        let y = some-at a.families f (omega (arith, get_lt a.tops f x e, before.paired)) in
        inl (has_current_one a f (current_big a before f record {
          family = y.0;
          family_at = y.1;
          top = x;
          top_at = e;
          serial = s.0;
          is = s.1;
        }))

-- ---- the round word rises

pub rounds-rise : (a b : Books) (work : Work) (f round₀ round₁ : ℕ) (number₀ number₁ : ℕ → ℕ) (vs : List LaneView)
    (id : ℕ) (v w : LaneView) → get_elem? vs id ≡ some v → round₁ ≡ round₀ + 1
    → round₀ + 1 + below (has_current b) 16 ≤ length b.supers + length b.families → w.known.round ≡ v.known.round
    → w.counts.adds ≡ v.counts.adds + 1 → w.joined ≡ v.joined
    → Rounds a work round₀ number₀ vs → Rounds b (begun f) round₁ number₁ (set vs id w)
rounds-rise a b work f round₀ round₁ number₀ number₁ vs id v w me rises bound same_round adds joined old = record {
  moved = 16;
  begun_none = λ _. omega arith;
  greatest = λ m. absurd (omega arith);
  sum = omega (
    arith,
    rises,
    old.sum,
    total-set all_adds vs id v w me,
    adds,
    ap (λ (z : List Joined). total (λ (o : Joined). o.counts.adds) z) joined,
  );
  bound = omega (arith, rises, bound);
  low = each_set (λ j u. u.known.round ≤ round₁) vs id w (omega (arith, old.low id v me, same_round))
      (λ j u e. omega (arith, old.low j u e));
  loaded = each_set (λ j u. u.known.round ≡ round₁ → Every (Loaded b (begun f) 16 number₁) u.loads) vs id w
      (λ z. absurd (omega (arith, old.low id v me, same_round))) (λ j u e z. absurd (omega (arith, old.low j u e)));
}

-- ---- the number word of a begun work becomes the current

module _ (b : Books) (f : ℕ) (near : f < 16) (round₀ round₁ : ℕ) (number₀ number₁ : ℕ → ℕ)
    (k : Numbers b (begun f) number₀) (here : number₁ f ≡ current_of b f)
    (else : (g : ℕ) → g < 16 → g ≢ f → number₁ g ≡ number₀ g) where
  load-moves : (old m taken : ℕ) (mid : Bool) (moved : ℕ) → 16 ≤ moved → (x : Load)
      → Loaded b (begun f) moved number₀ x → Loaded b (sweeping f old m mid taken) f number₁ x
  load-moves old m taken mid moved none x l = record {
    near = l.near;
    is = l.is;
    still = λ n. l.still (λ e. omega (arith, l.near)) ∙ sym (else x.family l.near n);
    after = λ s big t of past. let q_is : x.pack ≡ number₀ x.family = l.still (λ e. omega (arith, l.near)) in
        ⊎_elim (λ z. absurd (omega (arith, ap (λ (y : ℕ). y / 256) q_is)))
        (λ z. inl (z.1 ∙ ap (λ (y : ℕ). y / 256) (ap (current_of b) s ∙ (sym here ∙ ap number₁ (sym s)))))
        ((k.word x.family l.near).last (omega (arith, q_is)) t of);
  }

  pub rounds-moved : (old m taken : ℕ) (mid : Bool) (vs : List LaneView) (id : ℕ) (v w : LaneView)
      → get_elem? vs id ≡ some v → round₁ ≡ round₀ → rounds_view w ≡ rounds_view v
      → Rounds b (begun f) round₀ number₀ vs → Rounds b (sweeping f old m mid taken) round₁ number₁ (set vs id w)
  rounds-moved old m taken mid vs id v w me same_round stand r = let none : 16 ≤ r.moved = r.begun_none
      (omega arith) in let on = load-moves old m taken mid r.moved none in record {
        moved = f;
        begun_none = λ z. absurd (omega arith);
        greatest = λ _ g l big. dite (ℕ_discrete g f)
            (λ e. omega (arith, ap number₁ e))
            (λ n. let o = k.word g l in dite (dec_le 256 (number₀ g))
            (λ y. omega (
              arith,
              pack_le (o.is y),
              new-is-last b f near number₀ number₁ k here else (omega (arith, here)),
              here,
              else g l n,
            ))
            (λ y. omega (
              arith,
              o.marks (omega arith),
              else g l n,
              ap (λ (z : ℕ). z / 256) (else g l n ∙ o.marks (omega arith)),
            )));
        sum = omega (
          arith,
          same_round,
          r.sum,
          total-set all_adds vs id v w me,
          ap (λ (z : ℕ × List Load × ℕ × List Joined). z.2 + total (λ (o : Joined). o.counts.adds) z.3) stand,
        );
        bound = omega (arith, same_round, r.bound);
        low = each_set (λ j u. u.known.round ≤ round₁) vs id w
            (omega (arith, r.low id v me, same_round, ap (λ (z : ℕ × List Load × ℕ × List Joined). z.0) stand))
            (λ j u e. omega (arith, r.low j u e, same_round));
        loaded = each_set (λ j u. u.known.round ≡ round₁ → Every (Loaded b (sweeping f old m mid taken) f number₁)
            u.loads) vs id w
            (subst (λ (z : ℕ × List Load × ℕ × List Joined). z.0 ≡ round₁
            → Every (Loaded b (sweeping f old m mid taken) f number₁) z.1) (sym stand)
            (λ z i x y. on x (r.loaded id v me (z ∙ same_round) i x y)))
            (λ j u e z i x y. on x (r.loaded j u e (z ∙ same_round) i x y));
      }
