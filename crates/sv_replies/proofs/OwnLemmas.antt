-- What the lane alone changes, in the books and in what it was told: its handles, its holds and its accepted writes.
use Rattle.std.proofs.Common.{◌≡◌, ◌+◌, ◌≢◌, ◌⊎◌, ◌↔◌, ◌==◌, inl, inr, ⊎_elim, ℕ, Bool, true, false, cond, List, [], ◌∷◌, ◌++◌, length, Option, Some, None, sym, ◌∙◌, ap, subst, eq-eqb}
use Rattle.std.specs.Prelude.{slice_get, if◌then◌else◌}
use Rattle.std.proofs.lemmas.List.{length_push}
use Rattle.std.proofs.lemmas.List.Elements.{filter-append}
use Rattle.std.proofs.lemmas.Slice.Eq.{bytes_eq-Decides}
use Rattle.sv_model.specs.declared.records.Family.{Family}
use Rattle.sv_model.specs.declared.writes.Write.{Write}
use Rattle.sv_model.specs.Books.{Books}
use Rattle.sv_model.specs.Families.{IsOwn}
use Rattle.sv_model.specs.Journal.{by_lane}
use Rattle.sv_laws.specs.Writes.{IsWritten}
use Rattle.sv_model.proofs.Entries.{some}
use Rattle.sv_laws.specs.Growing.{IsPlaced}
use Rattle.sv_replies.specs.Known.{Known, has_handle, with_handle, wrote}
use Rattle.sv_replies.specs.Knows.{OwnAre}
use Rattle.sv_replies.specs.Moments.{IsAt}
use Rattle.sv_replies.proofs.KnowsLaws.{unequal}
use Rattle.sv_model.proofs.Basics.{apart_or, none_some}

abbrev Own : ℕ → List ℕ → List Family → ℕ → Type 0
Own lane name families f = IsAt (IsOwn lane name) families f

-- ---- books in which the lane's own are as they were

pub record KeepsOwn (lane : ℕ) (a b : Books) : Type 0 where
  pub handles : (name : List ℕ) (f : ℕ) → Own lane name a.families f ↔ Own lane name b.families f
  pub holds : slice_get b.files.holds lane ≡ slice_get a.files.holds lane
  pub writes : by_lane lane b.journal ≡ by_lane lane a.journal

pub own-kept : (lane : ℕ) (a b : Books) (k l : Known) → KeepsOwn lane a b → l.handles ≡ k.handles → l.holds ≡ k.holds
    → l.accepted ≡ k.accepted
    → OwnAre lane a k → OwnAre lane b l
own-kept lane a b k l keeps handles holds accepted own = record {
  handles = λ name f. (
    λ e. (keeps.handles name f).0 ((own.handles name f).0 (ap (λ (h : List ℕ → Option ℕ). h name) (sym handles) ∙ e)),
    λ at. ap (λ (h : List ℕ → Option ℕ). h name) handles ∙ (own.handles name f).1 ((keeps.handles name f).1 at),
  );
  holds = keeps.holds ∙ own.holds ∙ ap Some (sym holds);
  writes = ap (λ (l : List Write). length l) keeps.writes ∙ own.writes ∙ sym accepted;
}

-- the families, the holds and the journal stand
pub keeps-all : (lane : ℕ) (a b : Books) → b.families ≡ a.families → b.files.holds ≡ a.files.holds
    → b.journal ≡ a.journal → KeepsOwn lane a b
keeps-all lane a b families holds journal = record {
  handles = λ name f. (
    λ at. subst (λ (l : List Family). Own lane name l f) (sym families) at,
    λ at. subst (λ (l : List Family). Own lane name l f) families at,
  );
  holds = ap (λ (l : List ℕ). slice_get l lane) holds;
  writes = ap (by_lane lane) journal;
}

-- a family keeps its name and the lane's handle
pub placed_own : (lane : ℕ) (a b : List Family) (f : ℕ) (x y : Family) → IsPlaced a b f y → slice_get a f ≡ Some x
    → y.name ≡ x.name
    → slice_get y.handles lane ≡ slice_get x.handles lane → (name : List ℕ) (g : ℕ)
    → Own lane name a g ↔ Own lane name b g
placed_own lane a b f x y placed at named handle name g = elim (apart_or g f) [
  | inl here ↦ (
    λ own.
        let same : own.0 ≡ x = some (sym own.1 ∙ ap (slice_get a) here ∙ at) in
        (y, ap (slice_get b) here ∙ placed.here, record { name_is = named ∙ ap (λ (z : Family). z.name) (sym same) ∙ own.2.name_is; handle = handle ∙ ap (λ (z : Family). slice_get z.handles lane) (sym same) ∙ own.2.handle }),
    λ own.
        let same : own.0 ≡ y = some (sym own.1 ∙ ap (slice_get b) here ∙ placed.here) in
        (x, ap (slice_get a) here ∙ at, record { name_is = sym named ∙ ap (λ (z : Family). z.name) (sym same) ∙ own.2.name_is; handle = sym handle ∙ ap (λ (z : Family). slice_get z.handles lane) (sym same) ∙ own.2.handle }),
  )
  | inr apart ↦ (
    λ own. (own.0, placed.others g apart ∙ own.1, own.2),
    λ own. (own.0, sym (placed.others g apart) ∙ own.1, own.2),
  )
]

-- ---- a write of the lane

module _ (lane : ℕ) (a b : Books) (f : ℕ) (w : Write) (h : IsWritten a b f w) (mine : w.lane ≡ lane) where
  pub lane-writes : by_lane lane b.journal ≡ by_lane lane a.journal ++ w ∷ []
  lane-writes =
      ap (λ (x : Books). by_lane lane x.journal) h.is ∙ filter-append (λ (z : Write). z.lane == lane) a.journal (w ∷ [])
      ∙ ap (λ q. by_lane lane a.journal ++ cond q (w ∷ []) []) (eq-eqb w.lane lane mine)

  pub own-write : (k : Known) (o : Option ℕ) (n : ℕ) → o ≡ Some f → OwnAre lane a k → OwnAre lane b (wrote o n k)
  own-write k o n has own = subst (λ z. OwnAre lane b (wrote z n k)) (sym has) (record {
    handles = λ name g. (
      λ e. subst (λ (l : List Family). Own lane name l g) (sym families) ((own.handles name g).0 e),
      λ at. (own.handles name g).1 (subst (λ (l : List Family). Own lane name l g) families at),
    );
    holds = ap (λ (x : Books). slice_get x.files.holds lane) h.is ∙ own.holds;
    writes = ap (λ (l : List Write). length l) lane-writes ∙ length_push (by_lane lane a.journal) w ∙ ap (λ n. n + 1) own.writes;
  })
    where
      families : b.families ≡ a.families
      families = ap (λ (x : Books). x.families) h.is

-- ---- handles

module _ (lane : ℕ) (handles : List ℕ → Option ℕ) (name : List ℕ) (o : Option ℕ) where
  -- what is under the name, and under each other one
  pub under-name : (other : List ℕ) → other ≡ name → with_handle handles name o other ≡ o
  under-name other e = ap (λ (q : Bool). if q then o else handles other) ((bytes_eq-Decides other name).1 e)

  pub under-other : (other : List ℕ) → other ≢ name → with_handle handles name o other ≡ handles other
  under-other other d = ⊎_elim
      (λ same. absurd (d ((bytes_eq-Decides other name).0 same)))
      (λ apart. ap (λ (q : Bool). if q then o else handles other) apart)
      (unequal other name)

pub name_or : (x y : List ℕ) → (x ≡ y) ⊎ (x ≢ y)
name_or x y = ⊎_elim
    (λ same. inl ((bytes_eq-Decides x y).0 same))
    (λ apart. inr (λ e. absurd (let q : true ≡ false = sym ((bytes_eq-Decides x y).1 e) ∙ apart in cc)))
    (unequal x y)

-- The families with one that is the lane's own under the name, in place of none of that name.
module _ (lane : ℕ) (a b : Books) (k : Known) (own : OwnAre lane a k) (name : List ℕ) (id : ℕ) (r : Family)
    (placed : IsPlaced a.families b.families id r) (is : IsOwn lane name r) (free : k.handles name ≡ None)
    (before : (x : Family) (other : List ℕ) → slice_get a.families id ≡ Some x → IsOwn lane other x → other ≡ name)
    (holds : b.files.holds ≡ a.files.holds) (journal : b.journal ≡ a.journal) where
  here_only : (other : List ℕ) → IsOwn lane other r → other ≡ name
  here_only other own = sym own.name_is ∙ is.name_is

  to : (other : List ℕ) (f : ℕ) → with_handle k.handles name (Some id) other ≡ Some f → Own lane other b.families f
  to other f e = ⊎_elim
      (λ same.
      let at : id ≡ f = some (sym (under-name lane k.handles name (Some id) other same) ∙ e) in
      subst (λ g. Own lane other b.families g) at (subst (λ (n : List ℕ). Own lane n b.families id) (sym same) (r, placed.here, is)))
      (λ apart.
      let old = (own.handles other f).0 (sym (under-other lane k.handles name (Some id) other apart) ∙ e) in
      let away : f ≢ id = λ q. apart (before old.0 other (ap (slice_get a.families) (sym q) ∙ old.1) old.2) in
      (old.0, placed.others f away ∙ old.1, old.2))
      (name_or other name)

  from : (other : List ℕ) (f : ℕ) → Own lane other b.families f → with_handle k.handles name (Some id) other ≡ Some f
  from other f at = elim (apart_or f id) [
    | inl here ↦
        let same : at.0 ≡ r = some (sym at.1 ∙ ap (slice_get b.families) here ∙ placed.here) in
        under-name lane k.handles name (Some id) other (here_only other (subst (IsOwn lane other) same at.2)) ∙ ap Some (sym here)
    | inr away ↦
        let old = (own.handles other f).1 (at.0, sym (placed.others f away) ∙ at.1, at.2) in
        under-other lane k.handles name (Some id) other (λ e. none_some f (sym free ∙ (ap k.handles (sym e) ∙ old))) ∙ old
  ]

  pub own-handle : OwnAre lane b (has_handle name id k)
  own-handle = record {
    handles = λ other f. (to other f, from other f);
    holds = ap (λ (l : List ℕ). slice_get l lane) holds ∙ own.holds;
    writes = ap (λ (l : List Write). length (by_lane lane l)) journal ∙ own.writes;
  }
