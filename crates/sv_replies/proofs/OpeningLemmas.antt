-- At the opening a lane knows of its handle of `default`, and of nothing else.
use Rattle.std.proofs.Common.{◌≡◌, ◌<◌, inl, ⊎_elim, ℕ, zero, suc, Bool, true, false, List, Option, Some, None, refl, sym, ◌∙◌, ap, subst, arith, replicate}
use Rattle.std.specs.Prelude.{slice_get, if◌then◌else◌}
use Rattle.std.proofs.lemmas.Slice.Eq.{bytes_eq-Decides}
use Rattle.sv_model.specs.declared.records.Family.{Family}
use Rattle.sv_model.specs.declared.records.Snapshot.{Snapshot}
use Rattle.sv_model.specs.Books.{Books}
use Rattle.sv_model.specs.Registers.{entry}
use Rattle.sv_model.specs.Families.{IsOwn, default_family, default_name}
use Rattle.sv_model.specs.Openings.{IsOpening, opening_books}
use Rattle.sv_laws.proofs.GrownRegisters.{get_within}
use Rattle.sv_model.proofs.Entries.{some}
use Rattle.sv_replies.specs.Known.{at_first}
use Rattle.sv_replies.specs.Knows.{AllAreOwn, Knows, OwnAre}
use Rattle.sv_replies.specs.Moments.{IsAt, IsNamed}
use Rattle.sv_replies.proofs.KnowsLaws.{unequal}
use Rattle.sv_model.proofs.Basics.{none_some}

-- the one handle is that of `default`
only_default : (name : List ℕ) (f : ℕ) → at_first.handles name ≡ Some f → (name ≡ default_name) × (f ≡ 0)
only_default name f e = ⊎_elim
    (λ same. ((bytes_eq-Decides name default_name).0 same, some (sym e ∙ ap (λ (q : Bool). pick q) same)))
    (λ apart. absurd (none_some f (sym (ap (λ (q : Bool). pick q) apart) ∙ e)))
    (unequal name default_name)
  where
    pick : Bool → Option ℕ
    pick q = if q then Some 0 else None

has_default : (name : List ℕ) → name ≡ default_name → at_first.handles name ≡ Some 0
has_default name e = ap (λ (q : Bool). if q then Some 0 else None) ((bytes_eq-Decides name default_name).1 e)

not_yet : {A : Type 0} → false ≡ true → A
not_yet e = absurd (cc)

pub opening-knows : (b : Books) → IsOpening b → Knows b at_first
opening-knows b h = record {
  families = λ f. record { seen = omega arith; serial = inl refl; flushed = omega arith; reached = inl refl; dropped = λ e. not_yet e };
  handles = λ name f e.
      let is = only_default name f e in
      subst (λ (n : List ℕ). IsNamed b f n) (sym is.0) (subst (λ g. IsNamed b g default_name) (sym is.1) (h.default.it, h.default.at, h.default.name_is));
  named = λ name f e. not_yet e;
  created = omega (arith, get_within b.families 0 h.default.it h.default.at);
  file = omega (arith, h.numbers.least);
  pins = λ n p e. absurd (let q : None ≡ Some p = e in cc);
  snapshots = λ n e. not_yet e;
  ended = λ n e. not_yet e;
}

-- ---- a database that begins empty

same_in : {A : Type 0} (x : A) (n i : ℕ) → i < n → slice_get (replicate n x) i ≡ Some x
same_in x zero i lt = absurd (omega (arith, lt))
same_in x (suc n) zero lt = refl
same_in x (suc n) (suc i) lt = same_in x n i (omega (arith, lt))

pub first-own : (next lane : ℕ) → lane < 32 → OwnAre lane (opening_books next) at_first
first-own next lane lt = record {
  handles = λ name f. (to name f, from name f);
  holds = same_in 0 32 lane lt;
  writes = refl;
}
  where
    to : (name : List ℕ) (f : ℕ) → at_first.handles name ≡ Some f
        → IsAt (IsOwn lane name) (opening_books next).families f
    to name f e =
        let is = only_default name f e in
        subst (λ g. IsAt (IsOwn lane name) (opening_books next).families g) (sym is.1)
        (default_family, refl, record { name_is = sym is.0; handle = same_in true 32 lane lt })

    from : (name : List ℕ) (f : ℕ) → IsAt (IsOwn lane name) (opening_books next).families f
        → at_first.handles name ≡ Some f
    from name zero h =
        let same : h.0 ≡ default_family = some (sym h.1) in
        has_default name (sym h.2.name_is ∙ ap (λ (x : Family). x.name) same)
    from name (suc f) h = absurd (let e = h.1 in cc)

pub first-alone : (next : ℕ) → AllAreOwn (opening_books next) at_first
first-alone next = record {
  taken = λ n x e. absurd (nothing n x e);
  over = λ n h. absurd (nothing n h.0 h.1);
  holds = refl;
}
  where
    nothing : (n : ℕ) (x : Snapshot) → entry (opening_books next).snapshots n ≡ Some x → ⊥
    nothing zero x e = absurd (cc)
    nothing (suc n) x e = absurd (cc)
