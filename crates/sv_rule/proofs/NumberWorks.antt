-- The number words, as only the work changes, or as the one of a begun work becomes the current.
use Rattle.std.proofs.Common.{Bool, ap, arith, inl, inr, length, refl, subst, sym, ℕ, ⊎_elim, ◌/◌, ◌<◌, ◌∙◌, ◌≡◌, ◌≢◌, ◌≤◌}
use mathlib.Core.Logic.{dite}
use native.Mathlib.Decide.{dec_le, ℕ_discrete}
use Rattle.sv_model.specs.Books.{Books}
use Rattle.sv_model.specs.Places.{taken}
use Rattle.sv_rule.specs.Fresh.{Past}
use Rattle.sv_rule.specs.Numbers.{NumberOk, Numbers}
use Rattle.sv_model.specs.Supers.{IsPackOf, current_of}
use Rattle.sv_rule.specs.Table.{number}
use Rattle.sv_rule.specs.UnderWay.{excepts}
use Rattle.sv_rule.specs.Views.{Work, begun, sweeping}
use Rattle.sv_rule.proofs.CurrentLaws.{current_ends, current_is, current_marks, one_pack, pack_big, pack_le, serial_le}
use Rattle.sv_rule.proofs.Sums.{same-else, same-self}

-- ---- only the work changes

pub numbers-work : (b : Books) (work work' : Work) (number : ℕ → ℕ) → ((f : ℕ) → excepts f work' ≡ excepts f work)
    → Numbers b work number → Numbers b work' number
numbers-work b work work' number e h = record {
  lawful = h.lawful;
  word = λ f l. let k = h.word f l in record {
    current = λ z. k.current (sym (e f) ∙ z);
    marks = k.marks;
    is = k.is;
    other = λ z. k.other (omega (arith, e f));
    last = λ big t y. ⊎_elim (λ z. inl z) (λ z. inr (omega (arith, e f, z.0), z.1)) (k.last big t y);
    first = λ z. k.first (omega (arith, e f));
    ends = k.ends;
  };
  top = λ f l z. h.top f l (omega (arith, e f));
  default = λ z. h.default (omega (arith, z, e 0));
  based = h.based;
}

-- ---- the number word of a begun work becomes the current

module _ (b : Books) (f : ℕ) (near : f < 16) (number number' : ℕ → ℕ) (k : Numbers b (begun f) number)
    (here : number' f ≡ current_of b f) (else : (g : ℕ) → g < 16 → g ≢ f → number' g ≡ number g) where
  begun_one : 0 < excepts f (begun f)
  begun_one = omega (arith, same-self f)

  -- the new number is after the old
  pub new-is-last : 256 ≤ current_of b f → current_of b f / 256 ≡ length b.supers
  new-is-last big = k.top f near begun_one big

  pub renumbered : (old m taken : ℕ) (mid : Bool) → Numbers b (sweeping f old m mid taken) number'
  renumbered old m taken mid = record {
    lawful = k.lawful;
    word = λ g l. dite (ℕ_discrete g f)
        (λ e. subst (λ (z : ℕ). NumberOk b (sweeping f old m mid taken) z (number' z)) (sym e)
        (subst (λ (z : ℕ). NumberOk b (sweeping f old m mid taken) f z) (sym here) record {
          current = λ _. refl;
          marks = current_marks b f;
          is = current_is b k.lawful f;
          other = λ z. absurd (omega arith);
          last = λ big t s. inl (omega (arith, (serial_le b.supers f t s).1, new-is-last big));
          first = λ z. absurd (omega arith);
          ends = current_ends b k.lawful f;
        }))
        (λ n. subst (λ (z : ℕ). NumberOk b (sweeping f old m mid taken) g z) (sym (else g l n))
        (let o = k.word g l in record {
          current = λ _. o.current (same-else f g n);
          marks = o.marks;
          is = o.is;
          other = λ z. absurd (omega arith);
          last = λ big t s. ⊎_elim (λ z. inl z) (λ z. absurd (omega (arith, z.0, same-else f g n))) (o.last big t s);
          first = λ z. absurd (omega arith);
          ends = o.ends;
        }));
    top = λ g l z. absurd (omega arith);
    default = λ z. absurd (omega (arith, z));
    based = k.based;
  }

  pub past-renumbered : (q : ℕ) → Past b (number f) f q → Past b (number' f) f q
  past-renumbered q h = record {
    is = h.is;
    below = λ pos. let big : 256 ≤ current_of b f = dite (dec_le 256 (current_of b f)) (λ z. z)
        (λ z. absurd (omega (arith, current_marks b f (omega arith), here))) in
        omega (arith, pack_le h.is, new-is-last big, here);
    none = λ z e. let two = pack_big h.is in omega (arith, here);
  }

  pub now-renumbered : 256 ≤ number' f → Past b (number' f) f (number' f)
  now-renumbered big = record {
    is = subst (λ (z : ℕ). IsPackOf b.supers f z) (sym here)
        (current_is b k.lawful f (omega (arith, here)));
    below = λ _. omega arith;
    none = λ z. absurd (omega arith);
  }

  -- no pack of the past is the new number
  pub not-new : (q : ℕ) → 256 ≤ q → Past b (number f) f q → q ≢ number' f
  not-new q big h e = let is : q ≡ current_of b f = e ∙ here in let top = new-is-last (omega (arith, is)) in
      dite (ℕ_discrete (number f) 0)
      (λ z. h.none z is)
      (λ n. let o = k.word f near in let r_big : 256 ≤ number f = dite (dec_le 256 (number f)) (λ z. z)
      (λ z. absurd (n (o.marks (omega arith)))) in
      o.other begun_one r_big (one_pack b.supers f f (number f) (current_of b f) (o.is r_big)
      (current_is b k.lawful f (omega (arith, is)))
      (omega (arith, pack_le (o.is r_big), h.below (omega arith), top, ap (λ (z : ℕ). z / 256) is))))
