-- The lines of a report.
use Rattle.std.proofs.Common.{◌≡◌, ◌≤◌, ◌+◌, ◌∷◌, ◌++◌, ℕ, zero, suc, List, [], length, drop, Some, refl, sym, ap, ◌∙◌, subst, arith}
use Rattle.std.specs.Prelude.{cond, slice_get}
use Rattle.std.proofs.lemmas.List.{append_assoc}
use Rattle.sv_model.specs.declared.writes.Write.{Write}
use Rattle.sv_model.specs.declared.records.Family.{Family}
use Rattle.sv_model.specs.declared.records.Top.{Top}
use Rattle.sv_model.specs.declared.records.Version.{Version}
use Rattle.sv_model.specs.declared.reports.FamilyLine.{FamilyLine}
use Rattle.sv_model.specs.declared.records.FileMeta.{FileMeta}
use Rattle.sv_model.specs.Books.{Books, files_of}
use Rattle.sv_model.specs.Named.{numbers_of}
use Rattle.sv_model.specs.Summaries.{family_line, family_lines}
use Rattle.sv_model.proofs.Entries.{get_none, some}
use Rattle.sv_state.specs.Currents.{StandsAt}

module _ (J : List Write) (V : List Version) where
  -- the line at this place is that of its family
  step : (n : ℕ) (F : List Family) (T : List Top) (x : Family) (t : Top) (i : ℕ) → slice_get F i ≡ Some x → slice_get T i ≡ Some t
      → family_lines J V n (drop i F) (drop i T) ≡ family_line J V n x t ∷ family_lines J V (n + 1) (drop (suc i) F) (drop (suc i) T)
  step n [] T x t i e g = absurd (get_none i x e)
  step n (y ∷ F) [] x t i e g = absurd (get_none i t g)
  step n (y ∷ F) (u ∷ T) x t zero e g = λ j. family_line J V n (some e j) (some g j) ∷ family_lines J V (n + 1) F T
  step n (y ∷ F) (u ∷ T) x t (suc i) e g = step n F T x t i e g

  pub lines-more : (F : List Family) (T : List Top) (x : Family) (t : Top) (i : ℕ) (lines new : List FamilyLine) (line : FamilyLine) (all : List FamilyLine)
      → slice_get F i ≡ Some x → slice_get T i ≡ Some t → line ≡ family_line J V i x t → new ≡ lines ++ line ∷ []
      → lines ++ family_lines J V i (drop i F) (drop i T) ≡ all
      → new ++ family_lines J V (i + 1) (drop (i + 1) F) (drop (i + 1) T) ≡ all
  lines-more F T x t i lines new line all e g is push h =
      let rest : List FamilyLine = family_lines J V (i + 1) (drop (i + 1) F) (drop (i + 1) T) in
      let one : suc i ≡ i + 1 = omega arith in
      ap (λ l. l ++ rest) (push ∙ ap (λ z. lines ++ z ∷ []) is)
      ∙ append_assoc lines (family_line J V i x t ∷ []) rest
      ∙ ap (λ k. lines ++ family_line J V i x t ∷ family_lines J V (i + 1) (drop k F) (drop k T)) (sym one)
      ∙ ap (λ l. lines ++ l) (sym (step i F T x t i e g))
      ∙ h

  drop-none : (i : ℕ) → ◌≡◌ {A = List Top} (drop i []) []
  drop-none zero = refl
  drop-none (suc i) = refl

  none : (n : ℕ) (F : List Family) (T : List Top) (i : ℕ) → length F ≤ i → family_lines J V n (drop i F) (drop i T) ≡ []
  none n [] T zero le = refl
  none n [] T (suc i) le = refl
  none n (y ∷ F) T zero le = absurd (omega (arith, le))
  none n (y ∷ F) [] (suc i) le = subst (λ T. family_lines J V n (drop i F) T ≡ []) (drop-none i) (none n F [] i (omega (arith, le)))
  none n (y ∷ F) (u ∷ T) (suc i) le = none n F T i (omega (arith, le))

  pub lines-end : (F : List Family) (T : List Top) (i : ℕ) (lines all : List FamilyLine) → length F ≤ i
      → lines ++ family_lines J V i (drop i F) (drop i T) ≡ all → lines ≡ all
  lines-end F T i lines all le h = sym (append-none lines) ∙ ap (λ l. lines ++ l) (sym (none i F T i le)) ∙ h
    where
      append-none : (l : List FamilyLine) → l ++ [] ≡ l
      append-none [] = refl
      append-none (x ∷ l) = ap (λ z. x ∷ z) (append-none l)

-- the numbers of the files of a family that is not dropped
pub shown-files : (b : Books) (f : ℕ) (st : StandsAt b f) (numbers : List ℕ) (files : List FileMeta) → numbers ≡ numbers_of files → files ≡ files_of b.versions st.top.last
    → (it : Family) (top : Top) → slice_get b.families f ≡ Some it → slice_get b.tops f ≡ Some top → numbers ≡ cond it.dropped [] (numbers_of (files_of b.versions top.last))
shown-files b f st numbers files e is it top at on =
    e
    ∙ ap numbers_of (is ∙ ap (λ (t : Top). files_of b.versions t.last) (some (sym st.on ∙ on)))
    ∙ ap (λ d. cond d [] (numbers_of (files_of b.versions top.last))) (sym st.stands ∙ ap (λ (x : Family). x.dropped) (some (sym st.at ∙ at)))
