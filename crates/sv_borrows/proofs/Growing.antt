-- Knowledge that grows, and the books that are taken and given.
use Rattle.std.proofs.Common.{List, [], ap, arith, length, refl, subst, suc, sym, zero, ℕ, ◌++◌, ◌+◌, ◌∙◌, ◌∷◌, ◌≡◌, ◌≤◌}
use mathlib.Core.List.{append_assoc}
use Rattle.std.specs.Prelude.{is_some, slice_get, Some}
use Rattle.sv_borrows.specs.Grown.{Givings, Grows, Paired, base_of}
use Rattle.sv_model.specs.After.{After, Continues}
use Rattle.sv_model.specs.Books.{Books}
use Rattle.sv_model.specs.Journal.{by_lane}
use Rattle.sv_model.specs.Lists.{Every, In}
use Rattle.sv_model.specs.Numbers.{IsRegistered}
use Rattle.sv_model.specs.Tasks.{Task}
use Rattle.sv_model.specs.declared.records.FileStatus.TheVariants.{Gone}
use Rattle.sv_model.specs.declared.writes.Write.{Write}
use Rattle.sv_model.proofs.Entries.{get_none}
use Rattle.sv_model.proofs.AfterLaws.{continues-through}
use Rattle.sv_rule.specs.Fits.{BodyFits, Fits, IsGoneSnapshot, ReadFits, RowsFit, Together}
use Rattle.sv_rule.specs.Views.{Known, Load, Start}
use Rattle.sv_rule.proofs.Basics.{append_none}

-- ---- lists

pub in-last : {A : Type 0} (l : List A) (x : A) → In x (l ++ x ∷ [])
in-last [] x = record { at = 0; is = refl }
in-last (y ∷ l) x = let h = in-last l x in record { at = suc h.at; is = h.is }

get-front : {A : Type 0} (l m : List A) (i : ℕ) (x : A) → slice_get l i ≡ Some x → slice_get (l ++ m) i ≡ Some x
get-front [] m i x e = absurd (get_none i x e)
get-front (y ∷ l) m zero x e = e
get-front (y ∷ l) m (suc i) x e = get-front l m i x e

-- what holds of the longer list holds of the shorter
every-front : {A : Type 0} (P : A → Type 0) (l k : List A) → Continues l k → Every P k → Every P l
every-front P l k h all i x e = all i x (subst (λ z. slice_get z i ≡ Some x) (sym h.1) (get-front l h.0 i x e))

pub in-front : {A : Type 0} (x : A) (l k : List A) → Continues l k → In x l → In x k
in-front x l k h has = record { at = has.at; is = subst (λ z. slice_get z has.at ≡ Some x) (sym h.1) (get-front l h.0 has.at x has.is) }

-- ---- knowledge

pub grows-on : (u v w : Known) → Grows u v → Grows v w → Grows u w
grows-on u v w h k = record {
  base = k.base ∙ h.base;
  found = continues-through u.found v.found w.found h.found k.found;
  left = continues-through u.left v.left w.left h.left k.left;
  bodies = continues-through u.bodies v.bodies w.bodies h.bodies k.bodies;
  rows = continues-through u.rows v.rows w.rows h.rows k.rows;
  reads = continues-through u.reads v.reads w.reads h.reads k.reads;
  seen = λ f. omega (arith, h.seen f, k.seen f);
}

abbrev pub Base : Type 0
Base = ℕ × Start × Task × List Write × ℕ × List (List Load)

-- what fits the later fits the earlier
pub grows-fits : (v w : Known) → Grows v w → (b : Books) → Fits b w → Fits b v
grows-fits v w h b t =
    let base : base_of w ≡ base_of v = h.base in
    record {
      lawful = t.lawful;
      start = subst (λ (z : Base). After z.1.books b) base t.start;
      found = every-front (λ a. After a b) v.found w.found h.found t.found;
      left = every-front (λ a. After a b) v.left w.left h.left t.left;
      mine = subst (λ (z : Base). Continues z.3 (by_lane z.0 b.journal)) base t.mine;
      bodies = every-front (BodyFits b) v.bodies w.bodies h.bodies t.bodies;
      rows = every-front (RowsFit b) v.rows w.rows h.rows t.rows;
      reads = λ told. every-front (ReadFits b) v.reads w.reads h.reads
          (t.reads (ap (λ (z : Base). is_some z.1.disk.files) base ∙ told));
      seen = λ f. omega (arith, h.seen f, t.seen f);
      removed = subst (λ (z : Base). Every (λ n. IsRegistered b.files.numbers n Gone) z.2.removed) base t.removed;
      ended = subst (λ (z : Base). Every (IsGoneSnapshot b.snapshots) z.2.ended) base t.ended;
      round = subst (λ (z : Base). z.4 ≤ length b.supers + length b.families) base t.round;
      frames = subst (λ (z : Base). Every (Together b.supers) z.5) base t.frames;
    }

-- ---- givings

join : {A : Type 0} (a b c k l : List A) → b ≡ a ++ k → c ≡ b ++ l → c ≡ a ++ (k ++ l)
join a b c k l h q = q ∙ ap (λ z. z ++ l) h ∙ append_assoc a k l

module _ (R : Books → Books → Type 0) where
  pub givings-none : (v w : Known) → w.found ≡ v.found → w.left ≡ v.left → Givings R v w
  givings-none v w f l =
      record { takings = []; givings = []; found = f ∙ append_none v.found; left = l ∙ append_none v.left; each = tt }

  pub givings-one : (v w : Known) (a b : Books) → R a b → w.found ≡ v.found ++ a ∷ [] → w.left ≡ v.left ++ b ∷ []
      → Givings R v w
  givings-one v w a b r f l = record { takings = a ∷ []; givings = b ∷ []; found = f; left = l; each = (r, tt) }

  paired-on : (k l m n : List Books) → Paired R k l → Paired R m n → Paired R (k ++ m) (l ++ n)
  paired-on [] [] m n h q = q
  paired-on [] (b ∷ l) m n h q = absurd h
  paired-on (a ∷ k) [] m n h q = absurd h
  paired-on (a ∷ k) (b ∷ l) m n h q = (h.0, paired-on k l m n h.1 q)

  pub givings-on : (u v w : Known) → Givings R u v → Givings R v w → Givings R u w
  givings-on u v w h k = record {
    takings = h.takings ++ k.takings;
    givings = h.givings ++ k.givings;
    found = join u.found v.found w.found h.takings k.takings h.found k.found;
    left = join u.left v.left w.left h.givings k.givings h.left k.left;
    each = paired-on h.takings h.givings k.takings k.givings h.each k.each;
  }
