-- The files that are shown under a hold are those of the families' currents.
use Rattle.std.proofs.Common.{◌≡◌, ℕ, List, Result, Ok, Err, Option, None, sym, ap, ◌∙◌, subst}
use Rattle.std.specs.Prelude.{IfOk}
use Rattle.sv_model.specs.declared.records.FileMeta.{FileMeta}
use Rattle.sv_model.specs.declared.records.Top.{Top}
use Rattle.sv_model.specs.declared.refusals.Refusal.{Refusal}
use Rattle.sv_model.specs.Books.{Books, files_of}
use Rattle.sv_model.specs.Cells.{Cell}
use Rattle.sv_model.specs.Lists.{In}
use Rattle.sv_model.specs.Named.{numbers_of}
use Rattle.sv_model.specs.Numbers.{AreInOrder}
use Rattle.sv_model.specs.Registers.{entry}
use Rattle.sv_model.proofs.Entries.{some}
use Rattle.sv_laws.proofs.Handles.{not-retired-open}
use Rattle.sv_laws.proofs.StillFits.{files-at}
use Rattle.sv_state.specs.Currents.{IsShownFile}
use Rattle.sv_store.specs.LiveFiles.{IsCurrentFile, StandingHaveCurrents}
use Rattle.sv_store.specs.Standing.{Stands}
use Rattle.sv_store.proofs.ReadParts.{current-last, now-through}

module _ (b : Books) (cells : List (Option Cell)) (h : Stands b cells None) where
  shown-current : (n : ℕ) → IsShownFile b n → IsCurrentFile b n
  shown-current n s =
      let law = h.sound.lawful in
      let at = h.currents s.family s.stands.it s.stands.at (not-retired-open s.stands.it s.stands.stands) in
      let t = now-through b law s.family at in
      let top : t.1.current.top ≡ s.stands.top = some (sym t.1.current.at ∙ s.stands.on) in
      let last = current-last b law s.family at.serial t.1.super t.1.current ∙ ap (λ (z : Top). z.last) top in
      let files : files_of b.versions s.stands.top.last ≡ t.0.files = files-at b.versions s.stands.top.last t.0 (ap (entry b.versions) (sym last) ∙ t.1.version_at) in
      record {
        family = s.family;
        it = s.stands.it;
        at = s.stands.at;
        stands = s.stands.stands;
        serial = at.serial;
        super = t.1.super;
        current = t.1.current;
        version = t.0;
        version_at = t.1.version_at;
        has = subst (λ (l : List FileMeta). In n (numbers_of l)) files s.has;
      }

  current-shown : (n : ℕ) → IsCurrentFile b n → IsShownFile b n
  current-shown n c =
      let last = current-last b h.sound.lawful c.family c.serial c.super c.current in
      let files : files_of b.versions c.current.top.last ≡ c.version.files = files-at b.versions c.current.top.last c.version (ap (entry b.versions) (sym last) ∙ c.version_at) in
      record {
        family = c.family;
        stands = record { it = c.it; at = c.at; stands = c.stands; top = c.current.top; on = c.current.at };
        has = subst (λ (l : List FileMeta). In n (numbers_of l)) (sym files) c.has;
      }

  pub in-order : (numbers : List ℕ) → AreInOrder (IsShownFile b) numbers → AreInOrder (IsCurrentFile b) numbers
  in-order numbers o = record {
    exact = λ n. (λ i. shown-current n ((o.exact n).0 i), λ c. (o.exact n).1 (current-shown n c));
    rising = o.rising;
  }

  pub order-if : {T : Type 0} (r : Result T Refusal) (items : T → List ℕ) → IfOk r (λ x. AreInOrder (IsShownFile b) (items x)) → IfOk r (λ x. AreInOrder (IsCurrentFile b) (items x))
  order-if (Ok x) items o = in-order (items x) o
  order-if (Err e) items o = tt

  pub have-currents : StandingHaveCurrents b
  have-currents f it at stands =
      let c = h.currents f it at (not-retired-open it stands) in
      let t = now-through b h.sound.lawful f c in
      (c.serial, t.1.super, t.1.current)
