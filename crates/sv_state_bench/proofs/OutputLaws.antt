-- Outputs begin, end and are given up.
use Rattle.std.proofs.Common.{◌≡◌, ◌≢◌, ◌<◌, ◌∷◌, ◌++◌, ◌⊎◌, inl, inr, ⊎_elim, ℕ, List, [], length, set, Option, Some, None, refl, sym, ap, ◌∙◌, subst, arith}
use Rattle.std.specs.Prelude.{slice_get}
use Rattle.sv_model.specs.declared.records.FileMeta.{FileMeta}
use Rattle.sv_model.specs.declared.records.FileStatus.{FileStatus}
use Rattle.sv_model.specs.declared.records.RegisteredFile.{RegisteredFile}
use Rattle.sv_model.specs.Books.{Books, FileRegister}
use Rattle.sv_model.specs.Cells.{Cell}
use Rattle.sv_model.specs.Lists.{In}
use Rattle.sv_model.specs.Numbers.{IsSettled}
use Rattle.sv_model.specs.Registers.{entry}
use Rattle.sv_model.specs.Steady.{Sound}
use Rattle.sv_model.proofs.Entries.{in-left, in-right, some}
use Rattle.sv_model.proofs.NumberLaws.{one_entry}
use Rattle.sv_model.proofs.Registers.{get-some}
use Rattle.sv_laws.specs.Captures.{IsFileCaptured, IsGivenUp}
use Rattle.sv_laws.specs.Growing.{IsPlaced}
use Rattle.sv_laws.proofs.GrownRegisters.{placed-push, placed-set, placed_get}
use Rattle.sv_laws.proofs.Handles.{not-retired-open}
use Rattle.sv_state.specs.Capturing.{IsUnderWay}
use Rattle.sv_state.specs.Finishing.{CanFinish}
use Rattle.sv_state_bench.specs.Standing.{AreOutputs, IsOutput, Stands}
use Rattle.sv_state_bench.proofs.Standings.{files-stand}

-- one family has captured a number
one-captor : (a : Books) → Sound a → (f g n : ℕ) → slice_get a.files.captured f ≡ Some (Some n) → slice_get a.files.captured g ≡ Some (Some n) → f ≡ g
one-captor a k f g n p q =
    let u = k.lawful.numbers.held f n p in
    let w = k.lawful.numbers.held g n q in
    let N = a.files.numbers in
    let at = one_entry N n u.0 w.0 u.1 w.1 (k.lawful.numbers.once n) u.2 w.2 u.3.number_is w.3.number_is in
    let one : u.1 ≡ w.1 = some (sym u.2 ∙ ap (entry N) at ∙ w.2) in
    some (sym u.3.family_is ∙ ap (λ (x : RegisteredFile). x.family) one ∙ w.3.family_is)

pub can-finish : (a : Books) (A : List Cell) (O : List (Option FileMeta)) (W : List (Option ℕ)) → Stands a A O W → (i : ℕ) (file : FileMeta) → slice_get O i ≡ Some (Some file)
    → (f : ℕ) × CanFinish a f file
can-finish a A O W h i file at =
    let o = h.outputs_are.each i file at in
    let y = get-some a.families o.0 (h.sound.steady.busy o.0 file.number o.1.captured) in
    (o.0, record { it = y.0; at = y.1; captured = o.1.captured; covered = o.1.covered; current = λ d. h.currents o.0 y.0 y.1 (not-retired-open y.0 d) })

pub under-way : (a : Books) (A : List Cell) (O : List (Option FileMeta)) (W : List (Option ℕ)) → Stands a A O W → (i : ℕ) (file : FileMeta) → slice_get O i ≡ Some (Some file)
    → IsUnderWay a file.number
under-way a A O W h i file at = let o = h.outputs_are.each i file at in record { family = o.0; is = o.1.captured }

-- ---- an output ends

pub settled-outputs : (a b : Books) → Sound a → (O : List (Option FileMeta)) → AreOutputs a O → (i : ℕ) (file : FileMeta) → slice_get O i ≡ Some (Some file)
    → (f : ℕ) (now : FileStatus) → IsSettled f file.number now a.files b.files → b.metas ≡ a.metas → AreOutputs b (set O i None)
settled-outputs a b k O h i file at f now s metas = record {
  each = λ j x e.
      let q = was j x e in
      let o = h.each j x q.1 in (
        o.0,
        record {
          captured = ap (λ (r : FileRegister). slice_get r.captured o.0) s.rest
              ∙ (placed-set a.files.captured f (Some file.number) None s.was).others o.0 (λ g. q.0 (h.once j i x file q.1 at (one x o.0 o.1 g)))
              ∙ o.1.captured;
          covered = record { at = o.1.covered.at; is = ap (λ l. slice_get l o.1.covered.at) metas ∙ o.1.covered.is };
        },
      );
  once = λ j l x y d e n. h.once j l x y (was j x d).1 (was l y e).1 n;
}
  where
    was : (j : ℕ) (x : FileMeta) → slice_get (set O i None) j ≡ Some (Some x) → (j ≢ i) × (slice_get O j ≡ Some (Some x))
    was j x e = ⊎_elim
        (λ q. let z : Some x ≡ None = q.1 in absurd (cc))
        (λ q. q)
        (placed_get O (set O i None) i None (placed-set O i (Some file) None at) j (Some x) e)

    one : (x : FileMeta) (g : ℕ) → IsOutput a g x → g ≡ f → x.number ≡ file.number
    one x g o q = some (some (sym o.captured ∙ ap (slice_get a.files.captured) q ∙ s.was))

pub given-up-stands : (a b : Books) (A : List Cell) (O : List (Option FileMeta)) (W : List (Option ℕ)) → Stands a A O W → Sound b → (i : ℕ) (file : FileMeta)
    → slice_get O i ≡ Some (Some file) → (f : ℕ) → IsGivenUp a b f file.number → Stands b A (set O i None) W
given-up-stands a b A O W h sound i file at f g =
    subst (λ (z : Books). Stands z A (set O i None) W) (sym g.is)
    (files-stand a A O (set O i None) W h b.files a.metas (ap (λ (r : FileRegister). r.jobs) g.settled.rest ∙ h.jobs) (subst Sound g.is sound)
    (settled-outputs a (record a { files = b.files }) h.sound O h.outputs_are i file at f _ g.settled refl))

-- none is under way at the place
pub emptied-stands : (a : Books) (A : List Cell) (O : List (Option FileMeta)) (W : List (Option ℕ)) → Stands a A O W → (i : ℕ) → i < length O → Stands a A (set O i None) W
emptied-stands a A O W h i low =
    let g = get-some O i low in
    record {
      sound = h.sound;
      currents = h.currents;
      jobs = h.jobs;
      actives_are = h.actives_are;
      many = h.many;
      outputs_are = record {
        each = λ j x e. h.outputs_are.each j x (was g.0 g.1 j x e);
        once = λ j l x y d e n. h.outputs_are.once j l x y (was g.0 g.1 j x d) (was g.0 g.1 l y e) n;
      };
      waiting_are = h.waiting_are;
    }
  where
    was : (z : Option FileMeta) → slice_get O i ≡ Some z → (j : ℕ) (x : FileMeta) → slice_get (set O i None) j ≡ Some (Some x) → slice_get O j ≡ Some (Some x)
    was z at j x e = ⊎_elim
        (λ q. let v : Some x ≡ None = q.1 in absurd (cc))
        (λ q. q.1)
        (placed_get O (set O i None) i None (placed-set O i z None at) j (Some x) e)

-- ---- an output begins

pub begun-stands : (a b : Books) (A : List Cell) (O : List (Option FileMeta)) (W : List (Option ℕ)) → Stands a A O W → Sound b → (f : ℕ) (file : FileMeta)
    → IsFileCaptured a b f file → Stands b A (O ++ Some file ∷ []) W
begun-stands a b A O W h sound f file c =
    subst (λ (z : Books). Stands z A (O ++ Some file ∷ []) W) (sym c.is)
    (files-stand a A O (O ++ Some file ∷ []) W h _ _ h.jobs (subst Sound c.is sound) (record {
      each = λ i x e. ⊎_elim
          (λ q. (
            f,
            let n : file.number ≡ x.number = ap (λ (z : FileMeta). z.number) (sym q.1) in record {
              captured = p.here ∙ ap (λ n. Some (Some n)) (sym c.number_is ∙ n);
              covered = subst (λ y. In y (a.metas ++ file ∷ [])) (sym q.1) (in-right file a.metas (file ∷ []) (record { at = 0; is = refl }));
            },
          ))
          (λ q.
          let o = h.outputs_are.each i x q in (
            o.0,
            record {
              captured = p.others o.0 (λ g. let z : Some x.number ≡ None = some (sym o.1.captured ∙ ap (slice_get a.files.captured) g ∙ c.idle) in absurd (cc)) ∙ o.1.captured;
              covered = in-left x a.metas (file ∷ []) o.1.covered;
            },
          ))
          (was i x e);
      once = λ i j x y d e n. ⊎_elim
          (λ u. ⊎_elim (λ v. u.0 ∙ sym v.0) (λ v. absurd (new j y v (sym n ∙ ap (λ (z : FileMeta). z.number) u.1))) (was j y e))
          (λ u. ⊎_elim (λ v. absurd (new i x u (n ∙ ap (λ (z : FileMeta). z.number) v.1))) (λ v. h.outputs_are.once i j x y u v n) (was j y e))
          (was i x d);
    }))
  where
    p : IsPlaced a.files.captured (set a.files.captured f (Some a.files.next)) f (Some a.files.next)
    p = placed-set a.files.captured f None (Some a.files.next) c.idle

    was : (i : ℕ) (x : FileMeta) → slice_get (O ++ Some file ∷ []) i ≡ Some (Some x) → ((i ≡ length O) × (x ≡ file)) ⊎ (slice_get O i ≡ Some (Some x))
    was i x e = ⊎_elim
        (λ q. inl (q.0, some q.1))
        (λ q. inr q.1)
        (placed_get O (O ++ Some file ∷ []) (length O) (Some file) (placed-push O (Some file)) i (Some x) e)

    -- a number that is captured is below the next one
    new : (i : ℕ) (x : FileMeta) → slice_get O i ≡ Some (Some x) → x.number ≡ file.number → ⊥
    new i x e n =
        let o = h.outputs_are.each i x e in
        let w = h.sound.lawful.numbers.held o.0 x.number o.1.captured in
        omega (arith, h.sound.lawful.numbers.below w.0 w.1 w.2, w.3.number_is, n, c.number_is)
