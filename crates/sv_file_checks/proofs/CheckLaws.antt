-- A file is good or bad, and not both; and a read of a bad one is refused.
use Rattle.std.proofs.Common.{◌≡◌, ◌==◌, ◌⊎◌, inl, inr, ℕ, Bool, true, false, List, [], ◌∷◌, Option, Some, None, bytes_eq, refl, sym, ap, subst, ◌∙◌}
use Rattle.std.proofs.lemmas.Bool.Decides.{Decides-eqb}
use Rattle.std.proofs.lemmas.Slice.Eq.{bytes_eq-Decides}
use Rattle.sv_model.specs.declared.writes.Kept.{Kept}
use Rattle.sv_model.specs.declared.cuts.Bottom.{Bottom}
use Rattle.sv_model.specs.declared.records.FileMeta.{FileMeta}
use Rattle.sv_model.specs.declared.refusals.Refusal.{Refusal}
use Rattle.sv_model.specs.declared.refusals.Refusal.TheVariants as refusal
use Rattle.sv_model.specs.Files.{Files, file_of}
use Rattle.sv_model.specs.TableText.{IsTextOf, IsTableFile, flag}
use Rattle.sv_table.proofs.FileText.{texts_are}
use Rattle.sv_file_checks.specs.Checks.{first_failing, other_field, AreBad, IsBadAt, IsGoodFile, IsTextFor, Holds, FileIsBad, BytesRefusal, ReadRefusal}

-- ---- the range

passed : (b : Bool) (place : ℕ) (tests : List (Bool × ℕ)) → first_failing ((b, place) ∷ tests) ≡ None → (b ≡ true) × (first_failing tests ≡ None)
passed true place tests e = (refl, e)
passed false place tests e = absurd (cc)

same_flag : (a b : Bool) → flag a ≡ flag b → a ≡ b
same_flag true true e = refl
same_flag false false e = refl
same_flag true false e = absurd (cc)
same_flag false true e = absurd (cc)

-- no field is another
pub record HasRange (file : FileMeta) (from to : ℕ) (bottom : Bottom) : Type 0 where
  pub from_is : from ≡ file.from
  pub to_is : to ≡ file.to
  pub bottom_is : bottom ≡ file.bottom

pub has_range : (file : FileMeta) (from to : ℕ) (bottom : Bottom) → other_field file from to bottom ≡ None → HasRange file from to bottom
has_range file from to bottom e =
    let cuts = (bytes_eq bottom.cuts file.bottom.cuts, 25) ∷ [] in
    let lasts = (flag bottom.last == flag file.bottom.last, 24) ∷ cuts in
    let tos = (to == file.to, 16) ∷ lasts in
    let a = passed (from == file.from) 8 tos e in
    let b = passed (to == file.to) 16 lasts a.1 in
    let c = passed (flag bottom.last == flag file.bottom.last) 24 cuts b.1 in
    let d = passed (bytes_eq bottom.cuts file.bottom.cuts) 25 [] c.1 in
    let last = same_flag bottom.last file.bottom.last ((Decides-eqb (flag bottom.last) (flag file.bottom.last)).0 c.0) in
    let same = (bytes_eq-Decides bottom.cuts file.bottom.cuts).0 d.0 in
    record {
      from_is = (Decides-eqb from file.from).0 a.0;
      to_is = (Decides-eqb to file.to).0 b.0;
      bottom_is = λ i. record { last = last i; cuts = same i };
    }

pub text_for : (file : FileMeta) (bytes : List ℕ) (from to : ℕ) (bottom : Bottom) (rows : List Kept) → other_field file from to bottom ≡ None → IsTextOf bytes from to bottom rows → IsTextFor file bytes
text_for file bytes from to bottom rows e text =
    let h = has_range file from to bottom e in record {
      rows = rows;
      text = subst (λ (b : Bottom). IsTextOf bytes file.from file.to b rows) h.bottom_is
          (subst (λ (n : ℕ). IsTextOf bytes file.from n bottom rows) h.to_is (subst (λ (n : ℕ). IsTextOf bytes n to bottom rows) h.from_is text));
    }

pass : (b : Bool) (place : ℕ) (tests : List (Bool × ℕ)) → b ≡ true → first_failing tests ≡ None → first_failing ((b, place) ∷ tests) ≡ None
pass b place tests is e = ap (λ (x : Bool). first_failing ((x, place) ∷ tests)) is ∙ e

own_field : (file : FileMeta) → other_field file file.from file.to file.bottom ≡ None
own_field file =
    let cuts = (bytes_eq file.bottom.cuts file.bottom.cuts, 25) ∷ [] in
    let lasts = (flag file.bottom.last == flag file.bottom.last, 24) ∷ cuts in
    let tos = (file.to == file.to, 16) ∷ lasts in
    pass (file.from == file.from) 8 tos ((Decides-eqb file.from file.from).1 refl)
    (pass (file.to == file.to) 16 lasts ((Decides-eqb file.to file.to).1 refl)
    (pass (flag file.bottom.last == flag file.bottom.last) 24 cuts ((Decides-eqb (flag file.bottom.last) (flag file.bottom.last)).1 refl)
    (pass (bytes_eq file.bottom.cuts file.bottom.cuts) 25 [] ((bytes_eq-Decides file.bottom.cuts file.bottom.cuts).1 refl) refl)))

-- ---- good and bad

-- bytes that are the file's are not bad
pub not_bad : (file : FileMeta) (bytes : List ℕ) (place : ℕ) → IsTextFor file bytes → AreBad file bytes place → ⊥
not_bad file bytes place good (inl none) =
    none.none (record { from = file.from; to = file.to; bottom = file.bottom; rows = good.rows; text = good.text })
not_bad file bytes place good (inr other) =
    let s = texts_are bytes other.from other.to file.from file.to other.bottom file.bottom other.rows good.rows other.text good.text in
    let own : other_field file other.from other.to other.bottom ≡ None =
    ap (λ (n : ℕ). other_field file n other.to other.bottom) s.from_is
    ∙ ap (λ (n : ℕ). other_field file file.from n other.bottom) s.to_is
    ∙ ap (λ (b : Bottom). other_field file file.from file.to b) s.bottom_is
    ∙ own_field file in
    let never : Some place ≡ None = sym other.other ∙ own in
    cc

pub good_not_bad : (file : FileMeta) (content : Option (List ℕ)) (place : ℕ) → IsGoodFile file content → IsBadAt file content place → ⊥
good_not_bad file None place good bad = good
good_not_bad file (Some bytes) place good bad = not_bad file bytes place good bad

pub file_not_bad : (all : Files) (file : FileMeta) (place : ℕ) → IsGoodFile file (file_of file.number all) → FileIsBad (Some all) file place → ⊥
file_not_bad all file place good bad =
    good_not_bad file (file_of file.number all) place good (subst (λ (c : Option (List ℕ)). IsBadAt file c place) (sym bad.holds) bad.bad)

-- ---- refusals

-- a file that holds bad bytes is bad
pub bytes_refused : (told : Option Files) (file : FileMeta) (bytes : List ℕ) (e : Refusal) → Holds told file (Some bytes) → BytesRefusal file bytes e → ReadRefusal told file e
bytes_refused told file bytes (refusal.BadFile n place) held r = (r.0, record { content = Some bytes; holds = held; bad = r.1 })
bytes_refused told file bytes e held r = absurd r
