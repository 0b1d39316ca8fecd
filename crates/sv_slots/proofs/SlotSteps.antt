-- Two steps on one slot as one, and what lies at the front.
use Rattle.std.proofs.Common.{Bool, List, Some, [], ap, arith, cond, eq-eqb, false, get_or, le-leb, nat_le, ne_eqb, refl, suc, sym, true, zero, ℕ, ◌+◌, ◌<◌, ◌∙◌, ◌∷◌, ◌≡◌, ◌≢◌, ◌≤◌}
use Rattle.atomic_table.specs.Table.{rest}
use Rattle.sv_model.specs.Lists.{same, total, at}
use Rattle.sv_model.specs.declared.sv_refs.SvRef.{SvRef}
use Rattle.sv_rule.proofs.Sums.{at-put_same}
use Rattle.sv_rule.specs.ReferencePlays.{learnt}
use Rattle.sv_rule.specs.SlotPlays.{checked, counted, is_free, is_idle, looked, looked_by, reached, rested, slotted}
use Rattle.sv_rule.specs.Sums.{put, without}
use Rattle.sv_rule.specs.Table.{slot_of}
use Rattle.sv_rule.specs.Views.{Bodied, Body, Desk, LaneView, SlotView, Work, away, begun, borrow, held, idle, opens, sweeping}
use Rattle.sv_rule.specs.declared.parts.Stored.{Stored}
use Rattle.sv_rule.specs.declared.parts.Stored.TheVariants as is
use Rattle.sv_slots.specs.Borrows.{handed, saw}
use Rattle.sv_slots.specs.Seats.{bodied}

pub put_put : {A : Type 0} (d : A) (l : List A) (i : ℕ) (a b : A) → put d (put d l i a) i b ≡ put d l i b
put_put d [] zero a b = refl
put_put d [] (suc i) a b = ap (λ l. d ∷ l) (put_put d [] i a b)
put_put d (x ∷ xs) zero a b = refl
put_put d (x ∷ xs) (suc i) a b = ap (λ l. x ∷ l) (put_put d xs i a b)

-- counts that do not rise
pub none_counted : (v : LaneView) → counted 0 0 0 v ≡ v
none_counted v =
    let a : v.counts.uses + 0 ≡ v.counts.uses = omega arith in
    let b : v.counts.misses + 0 ≡ v.counts.misses = omega arith in
    let c : v.counts.swept + 0 ≡ v.counts.swept = omega arith in
    λ i. record v { counts = record v.counts { uses = a i; misses = b i; swept = c i } }

pub counted_twice : (k l n k' l' n' : ℕ) (v : LaneView)
    → counted k' l' n' (counted k l n v) ≡ counted (k + k') (l + l') (n + n') v
counted_twice k l n k' l' n' v =
    let a : v.counts.uses + k + k' ≡ v.counts.uses + (k + k') = omega arith in
    let b : v.counts.misses + l + l' ≡ v.counts.misses + (l + l') = omega arith in
    let c : v.counts.swept + n + n' ≡ v.counts.swept + (n + n') = omega arith in
    λ i. record v { counts = record v.counts { uses = a i; misses = b i; swept = c i } }

pub front_of : {A : Type 0} (c more : List (ℕ × A)) (i j : ℕ) (y : A) → c ≡ (i, y) ∷ more → j ≡ i
    → c ≡ (j, y) ∷ rest c
front_of c more i j y e s = e ∙ ((λ k. (sym s k, y) ∷ more) ∙ (λ k. (j, y) ∷ rest (sym e k)))

pub checked_yes : (r n : ℕ) → 0 < r → checked (held r) r n ≡ borrow r n
checked_yes zero n pos = absurd (omega arith)
checked_yes (suc r) n pos = ap (λ b. cond b (borrow (suc r) n) (held (suc r))) (eq-eqb (suc r) (suc r) refl)

pub checked_no : (r now n : ℕ) → now ≢ r → checked (held r) now n ≡ held r
checked_no zero now n ne = refl
checked_no (suc r) now n ne = ap (λ b. cond b (borrow (suc r) n) (held (suc r)))
    (ne_eqb (suc r) now (λ e. ne (sym e)))

held_not_free : (r : ℕ) → 0 < r → is_free (held r) ≡ false
held_not_free zero h = absurd (omega arith)
held_not_free (suc r) h = refl

-- a load lends nothing to a lane whose slot has a pack
pub looked_plain : (f now r : ℕ) (v : LaneView) → slot_of v f ≡ held r → 0 < r → looked f now v ≡ looked_by false f now v
looked_plain f now r v e pos = ap (λ (b : Bool). looked_by (cond b (cond (is_idle v.locks.db)
    (cond (nat_le 256 now) (nat_le 1 (total (same now) v.hand)) false) false) false) f now v)
    (ap is_free e ∙ held_not_free r pos)

-- nor to one that has no slot
pub looked_away : (f now : ℕ) (v : LaneView) → slot_of v f ≡ away → looked f now v ≡ looked_by false f now v
looked_away f now v e = ap (λ (b : Bool). looked_by (cond b (cond (is_idle v.locks.db)
    (cond (nat_le 256 now) (nat_le 1 (total (same now) v.hand)) false) false) false) f now v) (ap is_free e)

idle_is : (d : Desk) → d.work ≡ idle → is_idle (Some d) ≡ true
idle_is d e = ap (λ (z : Work). elim z as (λ _. Bool)
    [ idle ↦ true | opens _ ↦ false | begun _ ↦ false | sweeping _ _ _ _ _ ↦ false ]) e

-- A load lends the current to a lane with an empty slot and a reference in hand, under the DB lock with no work.
pub looked_lent : (f now : ℕ) (v : LaneView) (d : Desk) → slot_of v f ≡ held 0 → v.locks.db ≡ Some d → d.work ≡ idle
    → 256 ≤ now → 0 < total (same now) v.hand → looked f now v ≡ looked_by true f now v
looked_lent f now v d e has resting big count =
    let a = ap is_free e in
    let b = ap is_idle has ∙ idle_is d resting in
    let c = le-leb 256 now big in
    let h = le-leb 1 (total (same now) v.hand) (omega arith) in
    λ k. looked_by (cond (a k) (cond (b k) (cond (c k) (h k) false) false) false) f now v

pub reached_pos : (p : ℕ) (hand : List ℕ) → 0 < p → reached p hand ≡ p ∷ hand
reached_pos zero hand h = absurd (omega arith)
reached_pos (suc p) hand h = refl

pack_in : {S D C B : Type 0} → Stored S D C B → ℕ
pack_in (is.Cached x) = x.pack
pack_in _ = 0

-- ---- two steps on one slot as one

-- these slots in place of the lane's
unfoldable pub with_slots : List SlotView → LaneView → LaneView
with_slots l v = record v { slots = record v.slots { slot = l } }

-- a load, after a step that left the slot as x
pub saw_checked : (f now k l c r : ℕ) (x : SlotView) (bs : List Bodied) (v : LaneView)
    → looked_by false f now (learnt bs (counted k l 0 (slotted f x c r v)))
    ≡ learnt bs (saw f now (counted k l 0 (slotted f (checked x now (at 0 v.known.seen f)) c r v)))
unfolding with_slots
saw_checked f now k l c r x bs v =
    let s = at 0 v.known.seen f in
    let l₀ = v.slots.slot in
    let w = learnt bs (saw f now (counted k l 0 (slotted f x c r v))) in
    let e : put away (put away l₀ f x) f (checked (at away (put away l₀ f x) f) now s)
    ≡ put away l₀ f (checked x now s)
    = put_put away l₀ f x (checked (at away (put away l₀ f x) f) now s)
    ∙ ap (λ z. put away l₀ f (checked z now s)) (at-put_same away l₀ f x) in
    ap (λ (z : List SlotView). with_slots z w) e

pub saw_lent : (f now c r : ℕ) (x : SlotView) (v : LaneView)
    → looked_by true f now (counted 0 0 0 (slotted f x c r v))
    ≡ counted 0 0 0 (record (saw f now (slotted f (borrow now (at 0 v.known.seen f)) c r v)) { hand = without now v.hand })
unfolding with_slots
saw_lent f now c r x v =
    let s = at 0 v.known.seen f in
    let l₀ = v.slots.slot in
    let w = counted 0 0 0 (record (saw f now (slotted f (borrow now s) c r v)) { hand = without now v.hand }) in
    ap (λ (z : List SlotView). with_slots z w) (put_put away l₀ f x (borrow now s))

-- the slot goes home
pub rested_slotted : (f p k l n c r : ℕ) (x : SlotView) (bs : List Bodied) (v : LaneView) → 0 < p
    → rested f p (learnt bs (counted k l n (slotted f x c r v)))
    ≡ handed p (learnt bs (counted k l n (slotted f away c r v)))
unfolding with_slots
rested_slotted f p k l n c r x bs v pos =
    let w = handed p (learnt bs (counted k l n (slotted f x c r v))) in
    let e = put_put away v.slots.slot f x away in
    let h : reached p v.hand ≡ p ∷ v.hand = reached_pos p v.hand pos in
    (λ i. record (with_slots (e i) w) { hand = h i })

pub rested_none : (f k l n c r : ℕ) (x : SlotView) (v : LaneView)
    → rested f 0 (counted k l n (slotted f x c r v)) ≡ counted k l n (slotted f away c r v)
unfolding with_slots
rested_none f k l n c r x v =
    let w = counted k l n (slotted f x c r v) in
    ap (λ (z : List SlotView). with_slots z w) (put_put away v.slots.slot f x away)

pub rested_saw : (f p now k l c r : ℕ) (x : SlotView) (bs : List Bodied) (v : LaneView) → 0 < p
    → rested f p (learnt bs (saw f now (counted k l 0 (slotted f x c r v))))
    ≡ handed p (learnt bs (saw f now (counted k l 0 (slotted f away c r v))))
unfolding with_slots
rested_saw f p now k l c r x bs v pos =
    let w = handed p (learnt bs (saw f now (counted k l 0 (slotted f x c r v)))) in
    let e = put_put away v.slots.slot f x away in
    let h : reached p v.hand ≡ p ∷ v.hand = reached_pos p v.hand pos in
    (λ i. record (with_slots (e i) w) { hand = h i })

pub pack_same : {S D C B : Type 0} (c : List (ℕ × Stored S D C B)) (slot : ℕ) (a b : SvRef B)
    → c ≡ (slot, is.Cached a) ∷ rest c → c ≡ (slot, is.Cached b) ∷ rest c → b.pack ≡ a.pack
unfolding pack_in
pack_same {S} {D} {C} {B} c slot a b x y =
    ap (λ (l : List (ℕ × Stored S D C B)). pack_in (get_or l 0 (0, is.Cached a)).1) (sym y ∙ x)

body_in : {S D C B : Type 0} → (B → Body) → Body → Stored S D C B → Body
body_in body d (is.Cached x) = body x.body.value
body_in body d _ = d

pub body_same : {S D C B : Type 0} (body : B → Body) (c : List (ℕ × Stored S D C B)) (slot : ℕ) (a b : SvRef B)
    → c ≡ (slot, is.Cached a) ∷ rest c → c ≡ (slot, is.Cached b) ∷ rest c → bodied body b ≡ bodied body a
unfolding body_in
body_same {S} {D} {C} {B} body c slot a b x y =
    let d = body a.body.value in
    let p = pack_same c slot a b x y in
    let q = ap (λ (l : List (ℕ × Stored S D C B)). body_in body d (get_or l 0 (0, is.Cached a)).1) (sym y ∙ x) in
    λ i. record { pack = p i; body = q i }
