-- The lane's own goes on: with handles taken and given back, with families dropped, with holds.
use Rattle.std.proofs.Common.{◌≡◌, ◌≢◌, ◌<◌, inl, inr, ⊎_elim, ℕ, true, false, List, length, Some, None, refl, sym, ◌∙◌, ap, subst, arith}
use Rattle.std.specs.Prelude.{slice_get, slice_set}
use Rattle.sv_model.specs.declared.records.Family.{Family}
use Rattle.sv_model.specs.declared.writes.Write.{Write}
use Rattle.sv_model.specs.declared.settings.Options.{Options}
use Rattle.sv_model.specs.Books.{Books}
use Rattle.sv_model.specs.Families.{IsOwn}
use Rattle.sv_model.specs.Journal.{by_lane}
use Rattle.sv_model.proofs.Basics.{apart_or, none_some}
use Rattle.sv_laws.specs.Families.{IsDropped, IsOpened, released}
use Rattle.sv_laws.specs.Growing.{IsPlaced}
use Rattle.sv_laws.specs.NewCurrents.{IsFamilyMade, IsOptionSet}
use Rattle.sv_laws.proofs.GrownRegisters.{get_within, placed-push, placed-set}
use Rattle.sv_model.proofs.Registers.{get-some}
use Rattle.sv_model.proofs.Entries.{some}
use Rattle.sv_replies.specs.Known.{Known, as_dropped, has_handle, learns, with_handle}
use Rattle.sv_replies.specs.Knows.{OwnAre}
use Rattle.sv_replies.specs.Moments.{IsAt}
use Rattle.sv_replies.proofs.OwnLemmas.{KeepsOwn, name_or, own-handle, own-kept, placed_own, under-name, under-other}

set_here : {A : Type 0} (l : List A) (n : ℕ) (x : A) → n < length l → slice_get (slice_set l n x) n ≡ Some x
set_here l n x within = let y = get-some l n within in (placed-set l n y.0 x y.1).here

-- ---- a family is made by the lane, or opened

module _ (lane : ℕ) (a b : Books) (k : Known) (own : OwnAre lane a k) (name : List ℕ) (free : k.handles name ≡ None) where
  pub own-create : (r : Family) → IsFamilyMade a b r → IsOwn lane name r
      → OwnAre lane b (has_handle name (length a.families) k)
  own-create r h is =
      own-handle lane a b k own name (length a.families) r
      (subst (λ (l : List Family). IsPlaced a.families l (length a.families) r) (sym (ap (λ (x : Books). x.families) h.is)) (placed-push a.families r))
      is free
      (λ x other at has. absurd (let lt = get_within a.families (length a.families) x at in omega (arith, lt)))
      (ap (λ (x : Books). x.files.holds) h.is) (ap (λ (x : Books). x.journal) h.is)

  pub own-open : (f : ℕ) (h : IsOpened a b f lane) → h.it.name ≡ name → lane < length h.it.handles
      → OwnAre lane b (has_handle name f k)
  own-open f h is within =
      own-handle lane a b k own name f (record h.it { handles = slice_set h.it.handles lane true })
      (subst (λ (l : List Family). IsPlaced a.families l f (record h.it { handles = slice_set h.it.handles lane true })) (sym (ap (λ (x : Books). x.families) h.is)) (placed-set a.families f h.it (record h.it { handles = slice_set h.it.handles lane true }) h.at))
      (record { name_is = is; handle = set_here h.it.handles lane true within }) free
      (λ x other at has. sym has.name_is ∙ ap (λ (z : Family). z.name) (some (sym at ∙ h.at)) ∙ is)
      (ap (λ (x : Books). x.files.holds) h.is) (ap (λ (x : Books). x.journal) h.is)

-- ---- a handle is given back

module _ (lane : ℕ) (a b : Books) (k : Known) (own : OwnAre lane a k) (name : List ℕ) (f : ℕ) (it : Family)
    (at : slice_get a.families f ≡ Some it) (handle : slice_get it.handles lane ≡ Some true) (is : it.name ≡ name)
    (families : b.families ≡ slice_set a.families f (released it lane))
    (holds : b.files.holds ≡ a.files.holds) (journal : b.journal ≡ a.journal) where
  placed : IsPlaced a.families b.families f (released it lane)
  placed =
      subst (λ (l : List Family). IsPlaced a.families l f (released it lane)) (sym families) (placed-set a.families f it (released it lane) at)

  -- it was the lane's only one of the name
  only : (g : ℕ) → IsAt (IsOwn lane name) a.families g → g ≡ f
  only g h =
      some (sym ((own.handles name g).1 h) ∙ (own.handles name f).1 (it, at, record { name_is = is; handle = handle }))

  given_back : (other : List ℕ) → IsOwn lane other (released it lane) → ⊥
  given_back other h =
      absurd (let e : false ≡ true = some (sym (set_here it.handles lane false (get_within it.handles lane true handle)) ∙ h.handle) in cc)

  to : (other : List ℕ) (g : ℕ) → with_handle k.handles name None other ≡ Some g → IsAt (IsOwn lane other) b.families g
  to other g e = ⊎_elim
      (λ same. absurd (none_some g (sym (under-name lane k.handles name None other same) ∙ e)))
      (λ apart.
      let old = (own.handles other g).0 (sym (under-other lane k.handles name None other apart) ∙ e) in
      let away : g ≢ f = λ q. apart (sym old.2.name_is ∙ ap (λ (z : Family). z.name) (some (sym old.1 ∙ ap (slice_get a.families) q ∙ at)) ∙ is) in
      (old.0, placed.others g away ∙ old.1, old.2))
      (name_or other name)

  from : (other : List ℕ) (g : ℕ) → IsAt (IsOwn lane other) b.families g
      → with_handle k.handles name None other ≡ Some g
  from other g h = elim (apart_or g f) [
    | inl here ↦ absurd (given_back other (subst (IsOwn lane other) (some (sym h.1 ∙ ap (slice_get b.families) here ∙ placed.here)) h.2))
    | inr away ↦
        let before : IsAt (IsOwn lane other) a.families g = (h.0, sym (placed.others g away) ∙ h.1, h.2) in
        under-other lane k.handles name None other (λ e. away (only g (subst (λ (n : List ℕ). IsAt (IsOwn lane n) a.families g) e before)))
        ∙ (own.handles other g).1 before
  ]

  pub own-release : OwnAre lane b (record k { handles = with_handle k.handles name None })
  own-release = record {
    handles = λ other g. (to other g, from other g);
    holds = ap (λ (l : List ℕ). slice_get l lane) holds ∙ own.holds;
    writes = ap (λ (l : List Write). length (by_lane lane l)) journal ∙ own.writes;
  }

-- ---- a family is dropped, or has other options

pub own-drop : (lane : ℕ) (a b : Books) (k : Known) (f by : ℕ) → (h : IsDropped a b f by) → OwnAre lane a k
    → OwnAre lane b (learns as_dropped (Some f) k)
own-drop lane a b k f by h own =
    own-kept lane a b k (learns as_dropped (Some f) k) (record {
      handles = placed_own lane a.families b.families f h.it (record h.it { dropped = true })
          (subst (λ (l : List Family). IsPlaced a.families l f (record h.it { dropped = true })) (sym (ap (λ (x : Books). x.families) h.is)) (placed-set a.families f h.it (record h.it { dropped = true }) h.at))
          h.at refl refl;
      holds = ap (λ (x : Books). slice_get x.files.holds lane) h.is;
      writes = ap (λ (x : Books). by_lane lane x.journal) h.is;
    }) refl refl refl own

pub keeps-set : (lane : ℕ) (a b : Books) (f : ℕ) (o : Options) → IsOptionSet a b f o → KeepsOwn lane a b
keeps-set lane a b f o h = record {
  handles = placed_own lane a.families b.families f h.is_open.family (record h.is_open.family { options = o })
      (subst (λ (l : List Family). IsPlaced a.families l f (record h.is_open.family { options = o })) (sym (ap (λ (x : Books). x.families) h.is)) (placed-set a.families f h.is_open.family (record h.is_open.family { options = o }) h.is_open.family_at))
      h.is_open.family_at refl refl;
  holds = ap (λ (x : Books). slice_get x.files.holds lane) h.is;
  writes = ap (λ (x : Books). by_lane lane x.journal) h.is;
}

-- ---- a hold of the lane begins or ends

pub own-hold : (lane : ℕ) (a b : Books) (k : Known) (count : ℕ) → OwnAre lane a k
    → b ≡ record a { files = record a.files { holds = slice_set a.files.holds lane count } }
    → OwnAre lane b (record k { holds = count })
own-hold lane a b k count own is = record {
  handles = λ name f. (
    λ e. subst (λ (x : Books). IsAt (IsOwn lane name) x.families f) (sym is) ((own.handles name f).0 e),
    λ at. (own.handles name f).1 (subst (λ (x : Books). IsAt (IsOwn lane name) x.families f) is at),
  );
  holds = ap (λ (x : Books). slice_get x.files.holds lane) is ∙ set_here a.files.holds lane count (get_within a.files.holds lane k.holds own.holds);
  writes = ap (λ (x : Books). length (by_lane lane x.journal)) is ∙ own.writes;
}
