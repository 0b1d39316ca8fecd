-- The books while an output is under way, and after it is given up or settled.
use Rattle.std.proofs.Common.{◌≡◌, ◌∷◌, ⊎_elim, ℕ, List, [], Option, Some, None, refl, sym, ap, ◌∙◌, subst, arith}
use Rattle.std.specs.Prelude.{slice_get}
use mathlib.Core.Logic.{dite}
use native.Mathlib.Decide.{ℕ_discrete}
use Rattle.sv_model.specs.declared.records.FileMeta.{FileMeta}
use Rattle.sv_model.specs.declared.records.FileStatus.{FileStatus}
use Rattle.sv_model.specs.declared.records.FileStatus.TheVariants.{Grabbed, Pending}
use Rattle.sv_model.specs.declared.records.RegisteredFile.{RegisteredFile}
use Rattle.sv_model.specs.declared.records.SuperVersion.{SuperVersion}
use Rattle.sv_model.specs.Books.{Books, FileRegister}
use Rattle.sv_model.specs.Cells.{Cell}
use Rattle.sv_model.specs.Lists.{In}
use Rattle.sv_model.specs.Numbers.{IsRegistered, IsSettled}
use Rattle.sv_model.specs.Registers.{entry}
use Rattle.sv_model.specs.Steady.{Sound}
use Rattle.sv_model.proofs.Entries.{in-right, some}
use Rattle.sv_model.proofs.Registers.{entry_push, get-some}
use Rattle.sv_laws.specs.Captures.{IsFileCaptured, IsGivenUp}
use Rattle.sv_laws.specs.Installs.{IsOpen}
use Rattle.sv_laws.proofs.Apart.{pending_grabbed}
use Rattle.sv_laws.proofs.GrownRegisters.{get_within, placed-set}
use Rattle.sv_laws.proofs.Settled.{marked_is, settled-others}
use Rattle.sv_objects.specs.declared.bodies.Body.{Body}
use Rattle.sv_state.specs.Currents.{HasCurrentAt}
use Rattle.sv_state.specs.Refs.{IsBodyOf, IsRefOf}
use Rattle.sv_store.specs.Installing.{CanInstall}
use Rattle.sv_store.specs.Standing.{IsStill, Stands}
use Rattle.sv_store.proofs.FrameLaws.{same-stands}

-- no output is under way for a family that was made
pub idle-of : (b : Books) → Sound b → IsStill b.files → (f s : ℕ) (c : SuperVersion) → IsOpen b f s c → slice_get b.files.captured f ≡ Some None
idle-of b k still f s c o =
    let g = get-some b.files.captured f (omega (arith, k.steady.captured, k.lawful.limits.families, get_within b.families f o.family o.family_at)) in
    g.1 ∙ ap (λ (x : Option ℕ). Some x) (still.idle f g.0 g.1)

pub open-current : (b : Books) (f s : ℕ) (c : SuperVersion) → IsOpen b f s c → HasCurrentAt b f
open-current b f s c o = record { top = o.current.top; at = o.current.at; serial = s; is = o.current.is }

-- ---- a number is captured

module _ (a b : Books) (f : ℕ) (file : FileMeta) (h : IsFileCaptured a b f file) where
  pub captured-open : (s : ℕ) (c : SuperVersion) → IsOpen a f s c → IsOpen b f s c
  captured-open s c o = record {
    current = record {
      top = o.current.top;
      at = ap (λ (z : Books). slice_get z.tops f) h.is ∙ o.current.at;
      is = o.current.is;
      has = ap (λ (z : Books). entry z.supers s) h.is ∙ o.current.has;
    };
    family = o.family;
    family_at = ap (λ (z : Books). slice_get z.families f) h.is ∙ o.family_at;
    stands = o.stands;
  }

  pub captured-here : slice_get b.files.captured f ≡ Some (Some file.number)
  captured-here =
      ap (λ (z : Books). slice_get z.files.captured f) h.is
      ∙ (placed-set a.files.captured f None (Some a.files.next) h.idle).here
      ∙ ap (λ n. Some (Some n)) (sym h.number_is)

  pub captured-stands : (cells : List (Option Cell)) → Stands a cells None → Sound b → Stands b cells None
  captured-stands cells st sound =
      same-stands a b cells st sound (ap (λ (z : Books). z.supers) h.is) (ap (λ (z : Books). z.families) h.is) (ap (λ (z : Books). z.tops) h.is)
      (ap (λ (z : Books). z.journal) h.is) (ap (λ (z : Books). z.memtables) h.is)

  pub can-install : (cells : List (Option Cell)) → Stands a cells None → Sound b → (s : ℕ) (c : SuperVersion) → IsOpen a f s c → CanInstall b cells f file
  can-install cells st sound s c o = record {
    stands = captured-stands cells st sound;
    serial = s;
    it = c;
    is_open = captured-open s c o;
    captured = captured-here;
    covered = subst (λ (z : Books). In file z.metas) (sym h.is) (in-right file a.metas (file ∷ []) (record { at = 0; is = refl }));
  }

  -- ---- it is settled

  -- nothing is under way any more
  pub settled-still : (F : FileRegister) (now : FileStatus) → (Grabbed ≡ now → ⊥) → IsSettled f file.number now b.files F → IsStill a.files → IsStill F
  settled-still F now other st still = record {
    jobs = ap (λ (z : FileRegister). z.jobs) st.rest ∙ ap (λ (z : Books). z.files.jobs) h.is ∙ still.jobs;
    idle = λ g x e. dite (ℕ_discrete g f)
        (λ q.
        let here = (placed-set b.files.captured f (Some file.number) None captured-here).here in
        sym (some (sym here ∙ ap (λ (z : FileRegister). slice_get z.captured f) (sym st.rest) ∙ ap (slice_get F.captured) (sym q) ∙ e)))
        (λ q.
        still.idle g x
        (sym ((placed-set a.files.captured f None (Some a.files.next) h.idle).others g q) ∙ ap (λ (z : Books). slice_get z.files.captured g) (sym h.is)
        ∙ sym (settled-others f file.number now b.files F st g q) ∙ e));
    given_back = λ n q. ⊎_elim
        (λ w. was n w)
        (λ w. other w.1)
        (marked_is file.number Pending now b.files.numbers F.numbers st.numbers n Grabbed q);
  }
    where
      was : (n : ℕ) → IsRegistered b.files.numbers n Grabbed → ⊥
      was n w = ⊎_elim
          (λ o. still.given_back n (w.0, w.1, o, w.3))
          (λ o. pending_grabbed (ap (λ (z : RegisteredFile). z.status) (sym o.1) ∙ w.3.status_is))
          (entry_push a.files.numbers _ w.0 w.1 (ap (λ (z : Books). entry z.files.numbers w.0) (sym h.is) ∙ w.2))

-- ---- it is given up

pub given-stands : (a b : Books) (cells : List (Option Cell)) → Stands a cells None → Sound b → (f n : ℕ) → IsGivenUp a b f n → Stands b cells None
given-stands a b cells st sound f n g =
    same-stands a b cells st sound (ap (λ (z : Books). z.supers) g.is) (ap (λ (z : Books). z.families) g.is) (ap (λ (z : Books). z.tops) g.is)
    (ap (λ (z : Books). z.journal) g.is) (ap (λ (z : Books). z.memtables) g.is)

-- ---- the reference of the current

pub ref-body : (b : Books) (s pack : ℕ) (body : Body) (c : SuperVersion) → IsRefOf b s pack body → entry b.supers s ≡ Some c → IsBodyOf b c.descriptor body
ref-body b s pack body c r has = subst (λ (z : SuperVersion). IsBodyOf b z.descriptor body) (some (sym r.at ∙ has)) r.body_is
