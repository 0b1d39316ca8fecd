-- Where no other lane is: all snapshots and all holds stay the lane's own.
use Rattle.std.proofs.Common.{◌≡◌, ◌≢◌, ◌+◌, ◌⊎◌, inl, inr, ⊎_elim, ℕ, Bool, true, false, List, length, Some, sym, ◌∙◌, ap, subst, arith}
use Rattle.std.specs.Prelude.{slice_set, sum}
use Rattle.std.proofs.lemmas.List.Sums.{sum_by-set}
use Rattle.std.proofs.lemmas.Option.{get_or_from_slice_get}
use Rattle.sv_model.specs.declared.records.Snapshot.{Snapshot}
use Rattle.sv_model.specs.Books.{Books}
use Rattle.sv_model.specs.Registers.{entry}
use Rattle.sv_model.proofs.Basics.{apart_or}
use Rattle.sv_model.proofs.Registers.{entry_change, entry_push}
use Rattle.sv_laws.specs.Snapping.{IsSnapped, IsUnsnapped}
use Rattle.sv_laws.proofs.GrownRegisters.{get_within}
use Rattle.sv_replies.specs.Known.{Known, with_at}
use Rattle.sv_replies.specs.Knows.{AllAreOwn, OwnAre}
use Rattle.sv_replies.specs.SnapLaw.{IsOver}
use Rattle.sv_replies.specs.Moments.{IsIn}
use Rattle.sv_replies.proofs.KnowsLaws.{at-here, at-other}

-- the snapshots and the holds stand, and the lane knows of no fewer snapshots
pub alone-kept : (a b : Books) (k l : Known) → b.snapshots ≡ a.snapshots → b.files.holds ≡ a.files.holds
    → l.holds ≡ k.holds
    → ((n : ℕ) → k.snapshots n ≡ true → l.snapshots n ≡ true) → l.ended ≡ k.ended → AllAreOwn a k → AllAreOwn b l
alone-kept a b k l snapshots holds own more ended h = record {
  taken = λ n x at. more n (h.taken n x (ap (λ (s : List Snapshot). entry s n) (sym snapshots) ∙ at));
  over = λ n over. ap (λ (e : ℕ → Bool). e n) ended ∙ h.over n (subst (λ (s : List Snapshot). IsIn IsOver s n) snapshots over);
  holds = ap sum holds ∙ h.holds ∙ sym own;
}

-- one more number is so
pub still_true : (f : ℕ → Bool) (at n : ℕ) → f n ≡ true → with_at f at true n ≡ true
still_true f at n is = elim (apart_or n at) [
  | inl here ↦ at-here f at true n here
  | inr away ↦ at-other f at true n away ∙ is
]

true_false : {A : Type 0} → true ≡ false → A
true_false e = absurd (cc)

-- ---- a snapshot is taken

pub alone-snap : (a b : Books) (k : Known) (n : ℕ) → IsSnapped a b → n ≡ length a.snapshots + 1 → AllAreOwn a k
    → AllAreOwn b (record k { snapshots = with_at k.snapshots n true })
alone-snap a b k n h number own = record {
  taken = λ m x at. ⊎_elim
      (λ old. still_true k.snapshots n m (own.taken m x old))
      (λ new. at-here k.snapshots n true m (new.0 ∙ sym number))
      (pushed m x at);
  over = λ m over. ⊎_elim
      (λ old. own.over m (over.0, old, over.2))
      (λ new. true_false (sym (ap (λ (z : Snapshot). z.live) new.1) ∙ over.2))
      (pushed m over.0 over.1);
  holds = ap (λ (x : Books). sum x.files.holds) h.is ∙ own.holds;
}
  where
    pushed : (m : ℕ) (x : Snapshot) → entry b.snapshots m ≡ Some x
        → (entry a.snapshots m ≡ Some x) ⊎ ((m ≡ length a.snapshots + 1) × (x ≡ record { at = length a.journal; live = true }))
    pushed m x at =
        entry_push a.snapshots (record { at = length a.journal; live = true }) m x (ap (λ (z : Books). entry z.snapshots m) (sym h.is) ∙ at)

-- ---- and ended

pub alone-unsnap : (a b : Books) (k : Known) (n : ℕ) (x : Snapshot) → IsUnsnapped a b n x → AllAreOwn a k
    → AllAreOwn b (record k { snapshots = with_at k.snapshots n true; ended = with_at k.ended n true })
alone-unsnap a b k n x h own = record {
  taken = λ m y at. ⊎_elim
      (λ here. at-here k.snapshots n true m here.0)
      (λ old. still_true k.snapshots n m (own.taken m y old.1))
      (changed m y at);
  over = λ m over. ⊎_elim
      (λ here. at-here k.ended n true m here.0)
      (λ old. still_true k.ended n m (own.over m (over.0, old.1, over.2)))
      (changed m over.0 over.1);
  holds = ap (λ (z : Books). sum z.files.holds) h.is ∙ own.holds;
}
  where
    changed : (m : ℕ) (y : Snapshot) → entry b.snapshots m ≡ Some y
        → ((m ≡ n) × (y ≡ record x { live = false })) ⊎ ((m ≢ n) × (entry a.snapshots m ≡ Some y))
    changed m y at =
        entry_change a.snapshots n m (record x { live = false }) y (ap (λ (z : Books). entry z.snapshots m) (sym h.is) ∙ at)

-- ---- a hold begins or ends

pub alone-hold : (lane : ℕ) (a b : Books) (k : Known) (count : ℕ) → OwnAre lane a k → AllAreOwn a k
    → b ≡ record a { files = record a.files { holds = slice_set a.files.holds lane count } }
    → AllAreOwn b (record k { holds = count })
alone-hold lane a b k count mine own is = record {
  taken = λ n x at. own.taken n x (ap (λ (z : Books). entry z.snapshots n) (sym is) ∙ at);
  over = λ n over. own.over n (over.0, ap (λ (z : Books). entry z.snapshots n) (sym is) ∙ over.1, over.2);
  holds =
      let all = sum_by-set (λ x. x) a.files.holds lane count 0 (get_within a.files.holds lane k.holds mine.holds) in
      let before = get_or_from_slice_get a.files.holds lane k.holds 0 mine.holds in
      let now = ap (λ (z : Books). sum z.files.holds) is in
      omega (arith, all, before, now, own.holds);
}
