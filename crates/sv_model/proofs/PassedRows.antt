-- A journal that goes on: the writes of a family, a memtable and a lane go on too.
use Rattle.std.proofs.Common.{◌≡◌, ℕ, zero, suc, ◌+◌, ◌<◌, ◌≤◌, ◌==◌, Bool, true, false, cond, List, [], ◌∷◌, ◌++◌, length, take, drop, map, filter, refl, ap, ◌∙◌, arith, length-append, append-nil}
use Rattle.std.proofs.lemmas.List.{take-append-le}
use Rattle.std.proofs.lemmas.List.Elements.{filter-append}
use Rattle.sv_model.specs.declared.writes.Write.{Write}
use Rattle.sv_model.specs.Journal.{of_family, borne_by, rows_of}
use Rattle.sv_model.specs.Flat.{range_of}
use Rattle.sv_model.specs.Lists.{total, bit}
use Rattle.sv_model.specs.After.{Continues}

pub continues-filter : {A : Type 0} (p : A → Bool) (a b : List A) → Continues a b → Continues (filter p a) (filter p b)
continues-filter p a b h = (filter p h.0, ap (filter p) h.1 ∙ filter-append p a h.0)

map-append : {A B : Type 0} (f : A → B) (a b : List A) → map f (a ++ b) ≡ map f a ++ map f b
map-append f [] b = refl
map-append f (x ∷ a) b = ap (λ l. f x ∷ l) (map-append f a b)

pub continues-map : {A B : Type 0} (f : A → B) (a b : List A) → Continues a b → Continues (map f a) (map f b)
continues-map f a b h = (map f h.0, ap (map f) h.1 ∙ map-append f a h.0)

pub continues-length : {A : Type 0} (a b : List A) → Continues a b → length a ≤ length b
continues-length a b h = omega (arith, ap length h.1, length-append a h.0)

pub range-stays : (j k : List Write) → Continues j k → (family from to : ℕ) → to ≤ length (of_family family j)
    → range_of k family from to ≡ range_of j family from to
range-stays j k h family from to within =
    let g = continues-filter (λ (w : Write). w.family == family) j k h in
    ap (λ l. rows_of (drop from l)) (ap (take to) g.1 ∙ take-append-le to (of_family family j) g.0 within)

-- ---- a memtable that was passed by a write of its family bears no more

module _ {A : Type 0} (g : A → ℕ) where
  total-drop-le : (n : ℕ) (l : List A) → total g (drop n l) ≤ total g l
  total-drop-le zero l = omega arith
  total-drop-le (suc n) [] = omega arith
  total-drop-le (suc n) (x ∷ l) = omega (arith, total-drop-le n l)

  total-take-le : (n : ℕ) (l : List A) → total g (take n l) ≤ total g l
  total-take-le zero l = omega arith
  total-take-le (suc n) [] = omega arith
  total-take-le (suc n) (x ∷ l) = omega (arith, total-take-le n l)

  filter_one : (b : Bool) (x : A) (f l : List A) → total g f ≤ total g l → total g (cond b (x ∷ f) f) ≤ g x + total g l
  filter_one true x f l h = omega arith
  filter_one false x f l h = omega arith

  total-filter-le : (p : A → Bool) (l : List A) → total g (filter p l) ≤ total g l
  total-filter-le p [] = omega arith
  total-filter-le p (x ∷ l) = filter_one (p x) x (filter p l) l (total-filter-le p l)

length_one : {A : Type 0} (b : Bool) (x : A) (f : List A) (n : ℕ) → length f ≡ n → length (cond b (x ∷ f) f) ≡ bit b + n
length_one true x f n h = omega arith
length_one false x f n h = omega arith

length-filter : {A : Type 0} (p : A → Bool) (l : List A) → length (filter p l) ≡ total (λ x. bit (p x)) l
length-filter p [] = refl
length-filter p (x ∷ l) = length_one (p x) x (filter p l) (total (λ y. bit (p y)) l) (length-filter p l)

take_one : {A : Type 0} (p : A → Bool) (n : ℕ) (b : Bool) (x : A) (f : List A) → p x ≡ b
    → ((k : ℕ) → total (λ y. bit (p y)) (take k f) ≡ length (take k f))
    → total (λ y. bit (p y)) (take n (cond b (x ∷ f) f)) ≡ length (take n (cond b (x ∷ f) f))
take_one p n false x f e h = h n
take_one p zero true x f e h = refl
take_one p (suc n) true x f e h = omega (arith, h n, ap bit e)

take_nil : {A : Type 0} (g : A → ℕ) (n : ℕ) → total g (take n []) ≡ length {A = A} (take n [])
take_nil g zero = refl
take_nil g (suc n) = refl

total-take-filter : {A : Type 0} (p : A → Bool) (n : ℕ) (l : List A)
    → total (λ x. bit (p x)) (take n (filter p l)) ≡ length (take n (filter p l))
total-take-filter p n [] = take_nil (λ x. bit (p x)) n
total-take-filter p n (x ∷ l) = take_one p n (p x) x (filter p l) refl (λ k. total-take-filter p k l)

take-take : {A : Type 0} (n k : ℕ) (l : List A) → n ≤ k → take n (take k l) ≡ take n l
take-take zero k l h = refl
take-take (suc n) zero l h = absurd (omega arith)
take-take (suc n) (suc k) [] h = refl
take-take (suc n) (suc k) (x ∷ l) h = ap (λ z. x ∷ z) (take-take n k l (omega arith))

length-take-le : {A : Type 0} (n : ℕ) (l : List A) → n ≤ length l → length (take n l) ≡ n
length-take-le zero l h = refl
length-take-le (suc n) [] h = absurd (omega arith)
length-take-le (suc n) (x ∷ l) h = let e = length-take-le n l (omega arith) in omega (arith, e)

take-drop-append : {A : Type 0} (n p : ℕ) (l m : List A) → p + n ≤ length l
    → take n (drop p (l ++ m)) ≡ take n (drop p l)
take-drop-append n zero l m h = take-append-le n l m (omega arith)
take-drop-append n (suc p) [] m h = absurd (omega arith)
take-drop-append n (suc p) (x ∷ l) m h = take-drop-append n p l m (omega arith)

none_more : {A : Type 0} (l : List A) → length l ≤ 0 → l ≡ []
none_more [] h = refl
none_more (x ∷ l) h = absurd (omega arith)

-- the memtable's writes are not more than those of its family that are not after the one that passes it
bound : (j k : List Write) (m family first r : ℕ) → Continues (of_family family j) (of_family family k)
    → borne_by m k ≡ take (length (borne_by m k)) (drop first (of_family family k))
    → length (borne_by m j) ≡ r → first + r < length (of_family family j) → length (borne_by m k) ≤ r
bound j k m family first r families bears is past =
    let p : Write → Bool = λ w. w.mem == m in
    let g : Write → ℕ = λ w. bit (p w) in
    let F = of_family family j in
    let more : (suc r ≤ length (borne_by m k)) → ⊥ = λ long.
    let front : take (suc r) (borne_by m k) ≡ take (suc r) (drop first F) =
    ap (take (suc r)) bears ∙ take-take (suc r) (length (borne_by m k)) (drop first (of_family family k)) long
    ∙ ap (λ l. take (suc r) (drop first l)) families.1 ∙ take-drop-append (suc r) first F families.0 (omega arith) in
    let own : total g (take (suc r) (borne_by m k)) ≡ suc r =
    total-take-filter p (suc r) k ∙ length-take-le (suc r) (borne_by m k) long in
    let a : total g (take (suc r) (drop first F)) ≤ total g F = total_part g (suc r) first F in
    let b : total g F ≤ total g j = total-filter-le g (λ (w : Write). w.family == family) j in
    let c : length (borne_by m j) ≡ total g j = length-filter p j in
    let d : total g (take (suc r) (borne_by m k)) ≡ total g (take (suc r) (drop first F)) = ap (total g) front in
    omega arith
    in grind (arith, more)
  where
    total_part : {A : Type 0} (g : A → ℕ) (n p : ℕ) (l : List A) → total g (take n (drop p l)) ≤ total g l
    total_part g n p l = omega (arith, total-take-le g n (drop p l), total-drop-le g p l)

-- A memtable bears the writes of its family from its first on. One write of the family after them, which is not
-- its own, ends it for ever.
pub passed-stays : (j k : List Write) → Continues j k → (m family first : ℕ)
    → borne_by m k ≡ take (length (borne_by m k)) (drop first (of_family family k))
    → first + length (borne_by m j) < length (of_family family j)
    → borne_by m k ≡ borne_by m j
passed-stays j k h m family first bears past =
    let more = continues-filter (λ (w : Write). w.mem == m) j k h in
    let few : length (borne_by m k) ≤ length (borne_by m j) =
    bound j k m family first (length (borne_by m j)) (continues-filter (λ (w : Write). w.family == family) j k h)
    bears refl past in
    let none : length more.0 ≤ 0 = omega (arith, ap length more.1, length-append (borne_by m j) more.0) in
    more.1 ∙ ap (λ l. borne_by m j ++ l) (none_more more.0 none) ∙ append-nil (borne_by m j)
