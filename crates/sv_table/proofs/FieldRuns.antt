-- The longest run of fields, from one field on.
use Rattle.std.proofs.Common.{◌≡◌, ℕ, ◌≤◌, List, [], ◌∷◌, ◌++◌, length, Result, Ok, Err, refl, sym, ap, subst, ◌∙◌, append_assoc, arith, inl, inr}
use Rattle.std.specs.List.{concat}
use Rattle.std.proofs.lemmas.List.{length-append}
use Rattle.sv_model.specs.TableTextFields.{Field, after, IsField, AreFields}
use Rattle.sv_table.specs.Reading.{◌>>=◌}
use Rattle.sv_table.proofs.OneField.{same_front, Stuck, Reads}

-- The longest run of fields from this one on leaves that many bytes.
pub record Stops (field : Field) (bytes : List ℕ) (left : ℕ) : Type 0 where
  pub fields : List (List ℕ)
  pub rest : List ℕ
  pub are : AreFields field fields
  pub parts : bytes ≡ concat fields ++ rest
  pub leaves : length rest ≡ left
  pub longest : (others : List (List ℕ)) (more : List ℕ) → AreFields field others → bytes ≡ concat others ++ more → left ≤ length more

pub stuck_stops : (field : Field) (bytes : List ℕ) → Stuck field bytes → Stops field bytes (length bytes)
stuck_stops field bytes stuck = record {
  fields = [];
  rest = bytes;
  are = tt;
  parts = refl;
  leaves = refl;
  longest = longest;
}
  where
    longest : (others : List (List ℕ)) (more : List ℕ) → AreFields field others → bytes ≡ concat others ++ more → length bytes ≤ length more
    longest [] more are e = omega (arith, ap length e)
    longest (text ∷ others) more are e = absurd (stuck.none text (concat others ++ more) are.0 (e ∙ append_assoc text (concat others) more))

pub step_stops : (field : Field) (bytes text rest : List ℕ) (left : ℕ) → bytes ≡ text ++ rest → IsField field text → Stops (after field text) rest left → Stops field bytes left
step_stops field bytes text rest left parts is s = record {
  fields = text ∷ s.fields;
  rest = s.rest;
  are = (is, s.are);
  parts = parts ∙ ap (λ (x : List ℕ). text ++ x) s.parts ∙ sym (append_assoc text (concat s.fields) s.rest);
  leaves = s.leaves;
  longest = longest;
}
  where
    longest : (others : List (List ℕ)) (more : List ℕ) → AreFields field others → bytes ≡ concat others ++ more → left ≤ length more
    longest [] more are e = omega (arith, ap length (sym e ∙ parts), length-append text rest, ap length s.parts, length-append (concat s.fields) s.rest, s.leaves)
    longest (other ∷ others) more are e =
        let split : other ++ (concat others ++ more) ≡ text ++ rest = sym (append_assoc other (concat others) more) ∙ sym e ∙ parts in
        let same = same_front other text (concat others ++ more) rest split (are.0.whole ∙ sym is.whole) in
        s.longest others more (subst (λ (x : List ℕ). AreFields (after field x) others) same.0 are.1) (sym same.1)

-- A reader goes over a run of fields, to the field that `next` tells, or stops where the run does.
pub record Walks (field : Field) {X : Type 0} (next : X → Field) (bytes : List ℕ) (read : Result (X × List ℕ) ℕ) : Type 0 where
  pub fails : (left : ℕ) → read ≡ Err left → Stops field bytes left
  pub goes : (x : X) (rest : List ℕ) → read ≡ Ok (x, rest) → (left : ℕ) → Stops (next x) rest left → Stops field bytes left

abbrev failed : (A : Type 0) → ℕ → Result A ℕ
failed A n = Err n

err_is : (A : Type 0) (m n : ℕ) → failed A m ≡ failed A n → m ≡ n
err_is A m n e = cc

abbrev done : {A : Type 0} → A → Result A ℕ
done x = Ok x

pub ok_is : {A : Type 0} (x y : A) → done x ≡ done y → x ≡ y
ok_is x y e = cc

pub walks_field : (field : Field) {X : Type 0} (value : List ℕ → X) (next : X → Field) (bytes : List ℕ) (read : Result (X × List ℕ) ℕ) → ((text : List ℕ) → after field text ≡ next (value text)) → Reads field value bytes read → Walks field next bytes read
walks_field field {X} value next bytes read on (inl f) = record {
  fails = λ left e. let clash : Ok (value f.text, f.rest) ≡ Err left = sym f.gives ∙ e in absurd (cc clash);
  goes = λ x rest e left s.
      let found : X × List ℕ = (value f.text, f.rest) in
      let same = ok_is found (x, rest) (sym f.gives ∙ e) in
      let here = subst (λ (p : X × List ℕ). Stops (next p.0) p.1 left) (sym same) s in
      step_stops field bytes f.text f.rest left f.parts f.is (subst (λ (z : Field). Stops z f.rest left) (sym (on f.text)) here);
}
walks_field field {X} value next bytes read on (inr s) = record {
  fails = λ left e. subst (Stops field bytes) (err_is (X × List ℕ) (length bytes) left (sym s.0 ∙ e)) (stuck_stops field bytes s.1);
  goes = λ x rest e left _. let clash : Err (length bytes) ≡ Ok (x, rest) = sym s.0 ∙ e in absurd (cc clash);
}

pub walks_then : {X Y : Type 0} (field : Field) (next : X → Field) (last : Y → Field) (bytes : List ℕ) (read : Result (X × List ℕ) ℕ) (k : X × List ℕ → Result (Y × List ℕ) ℕ)
    → Walks field next bytes read → ((x : X) (rest : List ℕ) → read ≡ Ok (x, rest) → Walks (next x) last rest (k (x, rest))) → Walks field last bytes (read >>= k)
walks_then {X} {Y} field next last bytes (Ok p) k w then = record {
  fails = λ left e. w.goes p.0 p.1 refl left ((then p.0 p.1 refl).fails left e);
  goes = λ y rest e left s. w.goes p.0 p.1 refl left ((then p.0 p.1 refl).goes y rest e left s);
}
walks_then {X} {Y} field next last bytes (Err m) k w then = record {
  fails = λ left e. w.fails left (ap (λ (n : ℕ). Err n) (err_is (Y × List ℕ) m left e));
  goes = λ y rest e left s. let clash : Err m ≡ Ok (y, rest) = e in absurd (cc clash);
}

-- nothing more is read
pub walks_done : {X : Type 0} (next : X → Field) (x : X) (bytes : List ℕ) → Walks (next x) next bytes (Ok (x, bytes))
walks_done {X} next x bytes = record {
  fails = λ left e. let clash : Ok (x, bytes) ≡ Err left = e in absurd (cc clash);
  goes = λ y rest e left s.
      let here : X × List ℕ = (x, bytes) in
      subst (λ (p : X × List ℕ). Stops (next p.0) p.1 left) (sym (ok_is here (y, rest) e)) s;
}
