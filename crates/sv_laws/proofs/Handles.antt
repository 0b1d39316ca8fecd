-- A family's handles, its drop, its retirement, and the end of its current.
use Rattle.std.proofs.Common.{◌≡◌, ◌==◌, ◌&&◌, ℕ, zero, suc, inl, inr, Bool, true, false, List, [], ◌∷◌, Some, None, refl, sym, ap, ◌∙◌, arith, set, length-set, ne_eqb}
use Rattle.std.specs.Prelude.{slice_get}
use Rattle.sv_model.specs.declared.records.Family.{Family}
use Rattle.sv_model.specs.declared.records.Top.{Top}
use Rattle.sv_model.specs.Lists.{total, bit}
use Rattle.sv_model.specs.After.{After}
use Rattle.sv_model.specs.Books.{Books}
use Rattle.sv_model.specs.Families.{is_retired}
use Rattle.sv_model.specs.Steady.{Sound}
use Rattle.sv_model.proofs.Lists.{total_at}
use Rattle.sv_laws.specs.Families.{IsDropped, IsOpened, IsReleased, IsRetired, IsForgotten, IsCurrentEnded, released, without_handles}
use Rattle.sv_model.proofs.Entries.{some}
use Rattle.sv_model.proofs.Registers.{get-some}
use Rattle.sv_laws.proofs.GrownRegisters.{get_within}
use Rattle.sv_laws.proofs.FamilyChanges.{family-changed}
use Rattle.sv_laws.proofs.Apart.{false_true}

set-self : {A : Type 0} (l : List A) (f : ℕ) (x : A) → slice_get l f ≡ Some x → set l f x ≡ l
set-self [] f x e = absurd (cc)
set-self (y ∷ l) zero x e = let q : x ≡ y = sym (some e) in ap (λ z. z ∷ l) q
set-self (y ∷ l) (suc f) x e = ap (λ z. y ∷ z) (set-self l f x e)

-- a family with a handle is not retired
pub not-retired : (y : Family) (lane : ℕ) → slice_get y.handles lane ≡ Some true → is_retired y ≡ false
not-retired y lane e =
    by y.dropped (total bit y.handles == 0)
    (ne_eqb (total bit y.handles) 0 (λ q. omega (arith, total_at bit y.handles lane true e, q)))
  where
    by : (b c : Bool) → c ≡ false → (b && c) ≡ false
    by true c h = h
    by false c h = refl

pub not-retired-open : (y : Family) → y.dropped ≡ false → is_retired y ≡ false
not-retired-open y e = ap (λ b. b && (total bit y.handles == 0)) e

module _ (a b : Books) (k : Sound a) (f : ℕ) where
  top-of : (y : Family) → slice_get a.families f ≡ Some y → (t : Top) × (slice_get a.tops f ≡ Some t)
  top-of y e = get-some a.tops f (omega (arith, get_within a.families f y e, k.lawful.paired))

  pub dropped : (lane : ℕ) → IsDropped a b f lane → Sound b × After a b
  dropped lane h =
      let t = top-of h.it h.at in
      let y : Family = record h.it { dropped = true } in
      let open_ : is_retired y ≡ false = not-retired y lane h.handle in
      family-changed a b k f h.it y t.0 t.0 (record {
        at = h.at;
        on = t.1;
        name_is = refl;
        options_are = refl;
        handles = refl;
        dropped = λ _. refl;
        default = λ q. absurd (omega (arith, h.other, q));
        last_is = refl;
        current = inl refl;
        back = λ _. not-retired h.it lane h.handle;
        ended = λ r. false_true (sym open_ ∙ r);
        had = λ r. false_true (sym open_ ∙ r);
        is = h.is
            ∙ ap (λ (T : List Top). record a { families = set a.families f y; tops = T }) (sym (set-self a.tops f t.0 t.1));
      })

  default-stands : (y : Family) → slice_get a.families f ≡ Some y → f ≡ 0 → y.dropped ≡ false
  default-stands y e q =
      let d = k.lawful.default in
      ap (λ (z : Family). z.dropped) (some (sym e ∙ ap (slice_get a.families) q ∙ d.at)) ∙ d.stands

  pub opened : (lane : ℕ) → IsOpened a b f lane → Sound b × After a b
  opened lane h =
      let t = top-of h.it h.at in
      let y : Family = record h.it { handles = set h.it.handles lane true } in
      let open_ : is_retired y ≡ false = not-retired-open y h.stands in
      family-changed a b k f h.it y t.0 t.0 (record {
        at = h.at;
        on = t.1;
        name_is = refl;
        options_are = refl;
        handles = length-set h.it.handles lane true;
        dropped = λ e. e;
        default = λ q. h.stands;
        last_is = refl;
        current = inl refl;
        back = λ _. not-retired-open h.it h.stands;
        ended = λ r. false_true (sym open_ ∙ r);
        had = λ r. false_true (sym open_ ∙ r);
        is = h.is
            ∙ ap (λ (T : List Top). record a { families = set a.families f y; tops = T }) (sym (set-self a.tops f t.0 t.1));
      })

  pub let-go : (lane : ℕ) → IsReleased a b f lane → Sound b × After a b
  let-go lane h =
      let t = top-of h.it h.at in
      let y : Family = released h.it lane in
      family-changed a b k f h.it y t.0 t.0 (record {
        at = h.at;
        on = t.1;
        name_is = refl;
        options_are = refl;
        handles = length-set h.it.handles lane false;
        dropped = λ e. e;
        default = λ q. default-stands h.it h.at q;
        last_is = refl;
        current = inl refl;
        back = λ _. not-retired h.it lane h.handle;
        ended = λ r. false_true (sym h.kept ∙ r);
        had = λ r. false_true (sym h.kept ∙ r);
        is = h.is
            ∙ ap (λ (T : List Top). record a { families = set a.families f y; tops = T }) (sym (set-self a.tops f t.0 t.1));
      })

  pub retired : (lane : ℕ) → IsRetired a b f lane → Sound b × After a b
  retired lane h =
      let y : Family = released h.it lane in
      family-changed a b k f h.it y h.top (record h.top { current = None }) (record {
        at = h.at;
        on = h.on;
        name_is = refl;
        options_are = refl;
        handles = length-set h.it.handles lane false;
        dropped = λ e. e;
        default = λ q. default-stands h.it h.at q;
        last_is = refl;
        current = inr refl;
        back = λ _. not-retired h.it lane h.handle;
        ended = λ _. refl;
        had = λ _ _. (h.s, h.current);
        is = h.is;
      })

  pub forgotten : IsForgotten a b f → Sound b × After a b
  forgotten h =
      let y : Family = without_handles h.it in
      let gone : is_retired y ≡ true = ap (λ b. b && (total bit y.handles == 0)) h.gone in
      family-changed a b k f h.it y h.top (record h.top { current = None }) (record {
        at = h.at;
        on = h.on;
        name_is = refl;
        options_are = refl;
        handles = sym (k.steady.handles f h.it h.at);
        dropped = λ e. e;
        default = λ q. default-stands h.it h.at q;
        last_is = refl;
        current = inr refl;
        back = λ r. false_true (sym r ∙ gone);
        ended = λ _. refl;
        had = λ _ _. (h.s, h.current);
        is = h.is;
      })

  pub ended : IsCurrentEnded a b f → Sound b × After a b
  ended h =
      family-changed a b k f h.it h.it h.top (record h.top { current = None }) (record {
        at = h.at;
        on = h.on;
        name_is = refl;
        options_are = refl;
        handles = refl;
        dropped = λ e. e;
        default = λ q. h.stands;
        last_is = refl;
        current = inr refl;
        back = λ e. e;
        ended = λ _. refl;
        had = λ r q. false_true (sym q ∙ r);
        is = h.is
            ∙ ap (λ (F : List Family). record a { families = F; tops = set a.tops f (record h.top { current = None }) }) (sym (set-self a.families f h.it h.at));
      })
