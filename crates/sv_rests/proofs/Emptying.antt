-- The slots of a lane are emptied, one family after the other.
use Rattle.std.proofs.Common.{Bool, List, [], ap, arith, false, inl, inr, length, refl, subst, suc, sym, true, ℕ, ◌++◌, ◌+◌, ◌<◌, ◌∙◌, ◌∷◌, ◌≡◌, ◌≢◌, ◌≤◌}
use Rattle.std.specs.Prelude.{cond, nat_le}
use Rattle.std.proofs.lemmas.Bool.{le-leb, lt-leb}
use mathlib.Core.List.{append_assoc}
use mathlib.Core.Logic.{dite}
use native.Mathlib.Decide.{ℕ_discrete}
use Rattle.sv_borrows.proofs.Growing.{in-last}
use Rattle.sv_model.specs.Books.{Books}
use Rattle.sv_model.specs.Lists.{at}
use Rattle.sv_model.specs.Supers.{current_of}
use Rattle.sv_model.proofs.Entries.{in-left}
use Rattle.sv_rests.specs.Resting.{AreEmptied, GivesUp, IsFound, RestsTo, is_pack, pack_count}
use Rattle.sv_rule.specs.Blanks.{desk_of}
use Rattle.sv_rule.specs.ReferencePlays.{learnt}
use Rattle.sv_rule.specs.SlotPlays.{slotted}
use Rattle.sv_rule.specs.Sums.{below, put}
use Rattle.sv_rule.specs.Table.{slot_of}
use Rattle.sv_rule.specs.Views.{Bodied, LaneView, Slots, away}
use Rattle.sv_rule.proofs.Basics.{append_none}
use Rattle.sv_rule.proofs.Sums.{at-put_else, at-put_same, below-same, below_le}

-- ---- counts

pub is-pack-big : (r : ℕ) → 256 ≤ r → is_pack r ≡ 1
is-pack-big r big = ap (λ b. cond b 1 0) (le-leb 256 r big)

pub is-pack-low : (r : ℕ) → r < 256 → is_pack r ≡ 0
is-pack-low r low = ap (λ b. cond b 1 0) (lt-leb 256 r low)

is-pack-most : (r : ℕ) → is_pack r ≤ 1
is-pack-most r = by (nat_le 256 r)
  where
    by : (b : Bool) → cond b 1 0 ≤ 1
    by true = omega arith
    by false = omega arith

pub pack-count-most : (n : ℕ) (s : Slots) → pack_count n s ≤ n
pack-count-most n s = below_le (λ f. is_pack (at 0 s.met f)) n (λ f. is-pack-most (at 0 s.met f))

count-next : (n r : ℕ) (s t : Slots) → ((f : ℕ) → f ≢ n → at 0 t.met f ≡ at 0 s.met f) → at 0 t.met n ≡ r
    → pack_count (suc n) t ≡ pack_count n s + is_pack r
unfolding below
count-next n r s t else here = omega (
  arith,
  below-same (λ f. is_pack (at 0 s.met f)) (λ f. is_pack (at 0 t.met f)) n (λ f low. ap is_pack (else f (λ e. omega (arith, low, e)))),
  ap is_pack here,
)

length-last : {A : Type 0} (l : List A) (x : A) → length (l ++ x ∷ []) ≡ suc (length l)
length-last [] x = refl
length-last (y ∷ l) x = ap suc (length-last l x)

-- ---- one family more

-- the slots after a step on that of family n, which found r and left nothing cached
abbrev next_slots : ℕ → ℕ → Slots → Slots
next_slots n r s = record s {
  slot = put away s.slot n away;
  cached = put 0 s.cached n 0;
  met = put 0 s.met n r;
}

-- what was given up is so still where the lane knows one more
still-found : (b : Books) (more : List Bodied) (x : List Bodied) (f r had : ℕ) → IsFound b more f r had → IsFound b (more ++ x) f r had
still-found b more x f r had (inl low) = inl low
still-found b more x f r had (inr h) = inr (record {
  it = h.it;
  has = in-left h.it more x h.has;
  shown = h.shown;
  is = h.is;
  was_cached = h.was_cached;
  current = h.current;
})

module _ (n : ℕ) (b : Books) (s u : Slots) (more : List Bodied) (h : AreEmptied n b more s u)
    (away_was : at away u.slot n ≡ away) (r : ℕ) (x : List Bodied) (here : IsFound b (more ++ x) n r (at 0 u.cached n)) where
  met_next : (f : ℕ) → f ≢ n → at 0 (next_slots n r u).met f ≡ at 0 u.met f
  met_next f ne = at-put_else 0 u.met n f r ne

  cached_next : (f : ℕ) → f ≢ n → at 0 (next_slots n r u).cached f ≡ at 0 u.cached f
  cached_next f ne = at-put_else 0 u.cached n f 0 ne

  pub emptied-next : AreEmptied (suc n) b (more ++ x) s (next_slots n r u)
  emptied-next = record {
    emptied = λ f low. dite (ℕ_discrete f n)
        (λ e. ap (at 0 (next_slots n r u).cached) e ∙ at-put_same 0 u.cached n 0)
        (λ ne. cached_next f ne ∙ h.emptied f (omega (arith, low, ne)));
    found = λ f low. dite (ℕ_discrete f n)
        (λ e. subst (λ g. IsFound b (more ++ x) g (at 0 (next_slots n r u).met g) (at 0 s.cached g)) (sym e)
        (subst (λ k. IsFound b (more ++ x) n k (at 0 s.cached n)) (sym (at-put_same 0 u.met n r))
        (subst (λ k. IsFound b (more ++ x) n r k) (h.cached n (omega arith)) here)))
        (λ ne. subst (λ k. IsFound b (more ++ x) f k (at 0 s.cached f)) (sym (met_next f ne))
        (still-found b more x f (at 0 u.met f) (at 0 s.cached f) (h.found f (omega (arith, low, ne)))));
    slot = λ f. dite (ℕ_discrete f n)
        (λ e. ap (at away (next_slots n r u).slot) e ∙ at-put_same away u.slot n away ∙ sym away_was ∙ ap (at away u.slot) (sym e) ∙ h.slot f)
        (λ ne. at-put_else away u.slot n f away ne ∙ h.slot f);
    looked = h.looked;
    cached = λ f past. cached_next f (λ e. omega (arith, past, e)) ∙ h.cached f (omega (arith, past));
    met = λ f past. met_next f (λ e. omega (arith, past, e)) ∙ h.met f (omega (arith, past));
  }

  pub counts-next : pack_count (suc n) (next_slots n r u) ≡ pack_count n u + is_pack r
  counts-next = count-next n r u (next_slots n r u) met_next (at-put_same 0 u.met n r)

-- ---- under the DB lock

abbrev pub bit : Bool → ℕ
bit true = 1
bit false = 0

pub bit-most : (b : Bool) → bit b ≤ 1
bit-most true = omega arith
bit-most false = omega arith

pub rests-to-none : (v : LaneView) → RestsTo 0 0 v v
unfolding below
rests-to-none v = record {
  more = [];
  slots = v.slots;
  is = ap (λ l. record v { known = record v.known { bodies = l } }) (append_none v.known.bodies);
  emptied = record {
    emptied = λ f low. absurd (omega (arith, low));
    found = λ f low. absurd (omega (arith, low));
    slot = λ f. refl;
    looked = refl;
    cached = λ f past. refl;
    met = λ f past. refl;
  };
  counted = refl;
  bodies = refl;
}

module _ (n count : ℕ) (v u : LaneView) (h : RestsTo n count v u) where
  pub rests-to-slot : (f : ℕ) → slot_of u f ≡ slot_of v f
  rests-to-slot f = ap (λ (z : LaneView). slot_of z f) h.is ∙ h.emptied.slot f

  pub rests-to-count : count ≤ n
  rests-to-count = omega (arith, h.counted, pack-count-most n h.slots)

  desk_same : desk_of u ≡ desk_of v
  desk_same = ap desk_of h.is

  slots_same : u.slots ≡ h.slots
  slots_same = ap (λ (z : LaneView). z.slots) h.is

  away_here : slot_of v n ≡ away → at away h.slots.slot n ≡ away
  away_here was = h.emptied.slot n ∙ was

  -- the slot of the next family is given up
  pub rests-to-next : (b : Bool) (w : LaneView) → slot_of v n ≡ away → GivesUp n b u w → RestsTo (suc n) (count + bit b) v w
  rests-to-next true w was (x, shown, had, current, is) = record {
    more = h.more ++ x ∷ [];
    slots = next_slots n x.pack h.slots;
    is = is ∙ ap (λ (z : LaneView). learnt (x ∷ []) (slotted n away 0 x.pack z)) h.is
        ∙ ap (λ l. record v { slots = next_slots n x.pack h.slots; known = record v.known { bodies = l } })
        (append_assoc v.known.bodies h.more (x ∷ []));
    emptied = emptied-next n (desk_of v).books v.slots h.slots h.more h.emptied (away_here was) x.pack (x ∷ []) here;
    counted = omega (
      arith,
      h.counted,
      counts-next n (desk_of v).books v.slots h.slots h.more h.emptied (away_here was) x.pack (x ∷ []) here,
      is-pack-big x.pack shown.pack,
    );
    bodies = omega (arith, h.bodies, length-last h.more x);
  }
    where
      here : IsFound (desk_of v).books (h.more ++ x ∷ []) n x.pack (at 0 h.slots.cached n)
      here = inr (record {
        it = x;
        has = in-last h.more x;
        shown = shown;
        is = refl;
        was_cached = had ∙ ap (λ (z : Slots). at 0 z.cached n) slots_same;
        current = current ∙ ap (λ d. current_of d.books n) desk_same;
      })
  rests-to-next false w was (r, low, is) = record {
    more = h.more;
    slots = next_slots n r h.slots;
    is = is ∙ ap (slotted n away 0 r) h.is;
    emptied = subst (λ l. AreEmptied (suc n) (desk_of v).books l v.slots (next_slots n r h.slots)) (sym (append_none h.more))
        (emptied-next n (desk_of v).books v.slots h.slots h.more h.emptied (away_here was) r [] (inl low));
    counted = omega (
      arith,
      h.counted,
      counts-next n (desk_of v).books v.slots h.slots h.more h.emptied (away_here was) r [] (inl low),
      is-pack-low r (omega (arith, low)),
    );
    bodies = omega (arith, h.bodies);
  }

  pub rests-to-more : (b : Bool) (w : LaneView) (m : ℕ) → slot_of v n ≡ away → GivesUp n b u w → m ≡ count + bit b
      → RestsTo (n + 1) m v w
  rests-to-more b w m was gives e =
      let next : suc n ≡ n + 1 = omega arith in
      subst (λ z. RestsTo z m v w) next (subst (λ z. RestsTo (suc n) z v w) (sym e) (rests-to-next b w was gives))
