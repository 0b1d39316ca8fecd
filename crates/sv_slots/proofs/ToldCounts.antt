-- What a lane counted goes with its view.
use Rattle.std.proofs.Common.{Bool, None, Option, Some, ap, arith, false, refl, subst, sym, true, ℕ, ◌+◌, ◌∙◌, ◌≡◌}
use Rattle.sv_model.specs.Lists.{bit}
use Rattle.sv_model.specs.declared.sv_refs.SvRef.{SvRef}
use Rattle.sv_rule.specs.SeatPlays.{split_right}
use Rattle.sv_rule.specs.Views.{Body, LaneView}
use Rattle.sv_slots.specs.Borrows.{IsBack, IsMiss, IsRested, was_swept}
use Rattle.sv_slots.specs.Counters.{Rises, Tells, at_most, more}
use Rattle.sv_slots.specs.declared.borrows.Back.{Back}
use Rattle.sv_slots.specs.declared.borrows.Back.TheVariants.{Kept, Swept}
use Rattle.sv_slots.specs.declared.borrows.Miss.{Miss}
use Rattle.sv_slots.specs.declared.borrows.Miss.TheVariants.{Empty, Stale}
use Rattle.sv_slots.specs.declared.counters.Counts.{Counts}

-- the numbers of a view that are told
abbrev pub told_of : LaneView → ℕ × ℕ × ℕ
told_of v = (v.counts.uses, v.counts.misses, v.counts.swept)

-- a step that counts nothing
pub tells_stand : (v w : LaneView) (c : Counts) → told_of w ≡ told_of v → Tells c v → Tells c w
tells_stand v w c e h = record {
  uses = h.uses ∙ ap (λ (z : ℕ × ℕ × ℕ). at_most z.0) (sym e);
  misses = h.misses ∙ ap (λ (z : ℕ × ℕ × ℕ). at_most z.1) (sym e);
  swept = h.swept ∙ ap (λ (z : ℕ × ℕ × ℕ). at_most z.2) (sym e);
}

rises : (k : Bool) (c n d m : ℕ) → c ≡ at_most n → d ≡ more k c → m ≡ n + bit k → d ≡ at_most m
rises false c n d m h r e = omega (arith, h, r, e)
rises true c n d m h r e = omega (arith, h, r, e)

-- a step that counts so much
pub tells_more : (k l n : Bool) (c d : Counts) (v w : LaneView) → Rises k l n c d
    → told_of w ≡ (v.counts.uses + bit k, v.counts.misses + bit l, v.counts.swept + bit n) → Tells c v → Tells d w
tells_more k l n c d v w r e h = record {
  uses = rises k c.uses v.counts.uses d.uses w.counts.uses h.uses r.uses (ap (λ (z : ℕ × ℕ × ℕ). z.0) e);
  misses = rises l c.misses v.counts.misses d.misses w.counts.misses h.misses r.misses (ap (λ (z : ℕ × ℕ × ℕ). z.1) e);
  swept = rises n c.swept v.counts.swept d.swept w.counts.swept h.swept r.swept (ap (λ (z : ℕ × ℕ × ℕ). z.2) e);
}

pub tells_miss : {P S D C B : Type 0} (body : B → Body) (f : ℕ) (x : Miss P S D C B) (old new : LaneView)
    (c d : Counts) → IsMiss body f x old new → Rises true true false c d → Tells c old → Tells d new
tells_miss body f Empty old new c d h r t = tells_more true true false c d old new r (ap told_of h.2) t
tells_miss body f (Stale sv now) old new c d h r t = tells_more true true false c d old new r (ap told_of h.view) t

pub tells_back : {P S D C B : Type 0} (body : B → Body) (f : ℕ) (sv : SvRef B) (b : Back P S D C B)
    (old new : LaneView) (c d : Counts) → IsBack body f sv b old new → Rises false false (was_swept b) c d
    → Tells c old → Tells d new
tells_back body f sv Kept old new c d h r t =
    let e = ap told_of h in
    tells_more false false false c d old new r
    (e ∙ (λ i. (none old.counts.uses i, none old.counts.misses i, none old.counts.swept i))) t
  where
    none : (n : ℕ) → n ≡ n + 0
    none n = omega arith
tells_back body f sv (Swept x) old new c d h r t = tells_more false false true c d old new r (ap told_of h.1) t

pub tells_rest : {B : Type 0} (body : B → Body) (f : ℕ) (o : Option (SvRef B)) (old new : LaneView) (c : Counts)
    → IsRested body f o old new → Tells c old → Tells c new
tells_rest body f None old new c h t = tells_stand old new c (ap told_of h.2) t
tells_rest body f (Some sv) old new c h t = tells_stand old new c (ap told_of h.view) t

-- a new lane counted nothing
pub tells_new : (w v : LaneView) (c : Counts) → w ≡ split_right v → c ≡ record { uses = 0; misses = 0; swept = 0 }
    → Tells c w
tells_new w v c e none = subst (λ (z : LaneView × Counts). Tells z.1 z.0) (λ k. (sym e k, sym none k)) (record {
  uses = refl;
  misses = refl;
  swept = refl;
})
