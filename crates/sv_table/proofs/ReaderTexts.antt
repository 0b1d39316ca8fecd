-- A reader and a text fit together: what is read is spelled so, and what is spelled so is read.
use Rattle.std.proofs.Common.{◌≡◌, ℕ, List, [], ◌++◌, Result, Ok, Err, refl, sym, ap, subst, ◌∙◌, append_assoc, inl, inr}
use Rattle.sv_model.specs.TableTextFields.{Field, IsField}
use Rattle.sv_table.specs.Reading.{◌>>=◌}
use Rattle.sv_table.proofs.OneField.{IsBytes, Reads, again, bytes_text, bytes_rest}
use Rattle.sv_table.proofs.FieldRuns.{ok_is}

-- the bytes are the text of what was read, and the rest
pub record Takes {X : Type 0} (text : X → List ℕ) (Fits : X → Type 0) (bytes : List ℕ) (x : X × List ℕ) : Type 0 where
  pub parts : bytes ≡ text x.0 ++ x.1
  pub rest_fits : IsBytes x.1
  pub fits : Fits x.0

pub record Spells {X : Type 0} (text : X → List ℕ) (Fits : X → Type 0) (read : List ℕ → Result (X × List ℕ) ℕ) : Type 0 where
  pub takes : (bytes : List ℕ) (x : X × List ℕ) → IsBytes bytes → read bytes ≡ Ok x → Takes text Fits bytes x
  pub again : (x : X) (rest : List ℕ) → Fits x → read (text x ++ rest) ≡ Ok (x, rest)

pub bind_ok : {A B : Type 0} (r : Result A ℕ) (f : A → Result B ℕ) (y : B) → (r >>= f) ≡ Ok y → (x : A) × (r ≡ Ok x) × (f x ≡ Ok y)
bind_ok (Ok x) f y e = (x, refl, e)
bind_ok (Err d) f y e = absurd cc

pub bind_path : {A B : Type 0} (read : Result A ℕ) (k : A → Result B ℕ) (x : A) (y : Result B ℕ) → read ≡ Ok x → k x ≡ y → (read >>= k) ≡ y
bind_path read k x y is goes = ap (λ r. r >>= k) is ∙ goes

-- ---- one field

field_takes : (field : Field) {X : Type 0} (value : List ℕ → X) (text : X → List ℕ) (Fits : X → Type 0) (bytes : List ℕ) (read : Result (X × List ℕ) ℕ) (x : X × List ℕ)
    → ((t : List ℕ) → IsField field t → IsBytes t → (text (value t) ≡ t) × Fits (value t)) → IsBytes bytes → Reads field value bytes read → read ≡ Ok x → Takes text Fits bytes x
field_takes field {X} value text Fits bytes read x told fits (inl f) e =
    let both = subst IsBytes f.parts fits in
    let found : X × List ℕ = (value f.text, f.rest) in
    let t = told f.text f.is (bytes_text f.text f.rest both) in
    subst (Takes text Fits bytes) (ok_is found x (sym f.gives ∙ e)) (record {
      parts = f.parts ∙ ap (λ (z : List ℕ). z ++ f.rest) (sym t.0);
      rest_fits = bytes_rest f.text f.rest both;
      fits = t.1;
    })
field_takes field {X} value text Fits bytes read x told fits (inr s) e =
    let clash : Err _ ≡ Ok x = sym s.0 ∙ e in absurd (cc clash)

pub spells_field : (field : Field) {X : Type 0} (value : List ℕ → X) (text : X → List ℕ) (Fits : X → Type 0) (read : List ℕ → Result (X × List ℕ) ℕ)
    → ((bytes : List ℕ) → Reads field value bytes (read bytes))
    → ((t : List ℕ) → IsField field t → IsBytes t → (text (value t) ≡ t) × Fits (value t))
    → ((x : X) → Fits x → IsField field (text x) × (value (text x) ≡ x))
    → Spells text Fits read
spells_field field {X} value text Fits read reads told spelled = record {
  takes = λ bytes x fits e. field_takes field value text Fits bytes (read bytes) x told fits (reads bytes) e;
  again = λ x rest f.
      again field value (text x) rest (read (text x ++ rest)) (reads (text x ++ rest)) (spelled x f).0 ∙ ap (λ (z : X). Ok (z, rest)) (spelled x f).1;
}

-- ---- one after the other

-- nothing is read
pub spells_done : {C : Type 0} (c : C) → Spells (λ (x : C). []) (λ x. x ≡ c) (λ bytes. Ok (c, bytes))
spells_done {C} c = record {
  takes = λ bytes x fits e.
      let made : C × List ℕ = (c, bytes) in
      subst (Takes (λ (z : C). []) (λ z. z ≡ c) bytes) (ok_is made x e) (record { parts = refl; rest_fits = fits; fits = refl });
  again = λ x rest f. ap (λ (z : C). Ok (z, rest)) (sym f);
}

-- A part of what is read comes first, and tells how the rest is read.
module _ {A C : Type 0} (part : C → A) (head : A → List ℕ) (HeadFits : A → Type 0) (first : List ℕ → Result (A × List ℕ) ℕ)
    (tail : A → C → List ℕ) (TailFits : A → C → Type 0) (next : A → List ℕ → Result (C × List ℕ) ℕ) (text : C → List ℕ) (Fits : C → Type 0) where
  pub record Joins : Type 0 where
    pub texts : (c : C) → Fits c → text c ≡ head (part c) ++ tail (part c) c
    pub whole : (a : A) (c : C) → HeadFits a → TailFits a c → (part c ≡ a) × Fits c
    pub parts : (c : C) → Fits c → HeadFits (part c) × TailFits (part c) c

  bind_takes : Joins → Spells head HeadFits first → ((a : A) → HeadFits a → Spells (tail a) (TailFits a) (next a)) → (bytes : List ℕ) (x : C × List ℕ) → IsBytes bytes → (first bytes >>= λ a. next a.0 a.1) ≡ Ok x → Takes text Fits bytes x
  bind_takes joins h t bytes x fits e =
      let b = bind_ok (first bytes) (λ a. next a.0 a.1) x e in
      let one = h.takes bytes b.0 fits b.1 in
      let two = (t b.0.0 one.fits).takes b.0.1 x one.rest_fits b.2 in
      let w = joins.whole b.0.0 x.0 one.fits two.fits in
      record {
        parts = one.parts ∙ ap (λ (z : List ℕ). head b.0.0 ++ z) two.parts
            ∙ sym (append_assoc (head b.0.0) (tail b.0.0 x.0) x.1)
            ∙ ap (λ (a : A). (head a ++ tail a x.0) ++ x.1) (sym w.0)
            ∙ ap (λ (z : List ℕ). z ++ x.1) (sym (joins.texts x.0 w.1));
        rest_fits = two.rest_fits;
        fits = w.1;
      }

  pub spells_bind : Joins → Spells head HeadFits first → ((a : A) → HeadFits a → Spells (tail a) (TailFits a) (next a)) → Spells text Fits (λ bytes. first bytes >>= λ a. next a.0 a.1)
  spells_bind joins h t = record {
    takes = bind_takes joins h t;
    again = λ c rest f.
        let p = joins.parts c f in
        let a = part c in
        ap (λ (z : List ℕ). first (z ++ rest) >>= λ y. next y.0 y.1) (joins.texts c f)
        ∙ ap (λ (z : List ℕ). first z >>= λ y. next y.0 y.1) (append_assoc (head a) (tail a c) rest)
        ∙ bind_path (first (head a ++ (tail a c ++ rest))) (λ y. next y.0 y.1) (a, tail a c ++ rest) (Ok (c, rest)) (h.again a (tail a c ++ rest) p.0) ((t a p.0).again c rest p.1);
  }

-- ---- the same in other words

pub respelled : {X : Type 0} (text other : X → List ℕ) (Fits Other : X → Type 0) (read : List ℕ → Result (X × List ℕ) ℕ)
    → ((x : X) → Fits x → (text x ≡ other x) × Other x) → ((x : X) → Other x → Fits x) → Spells text Fits read → Spells other Other read
respelled text other Fits Other read there back s = record {
  takes = λ bytes x fits e.
      let t = s.takes bytes x fits e in
      let w = there x.0 t.fits in
      record { parts = t.parts ∙ ap (λ (z : List ℕ). z ++ x.1) w.0; rest_fits = t.rest_fits; fits = w.1 };
  again = λ x rest f.
      let g = back x f in
      ap (λ (z : List ℕ). read (z ++ rest)) (sym (there x g).0) ∙ s.again x rest g;
}
