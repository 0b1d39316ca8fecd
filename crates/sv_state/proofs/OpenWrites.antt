-- The writes, the numbers and the files of the families that were kept: which are whose.
use Rattle.std.proofs.Common.{◌≡◌, ◌≢◌, ◌==◌, ◌≤◌, ◌<◌, ⊎_elim, ℕ, zero, suc, ◌+◌, cond, List, [], ◌∷◌, ◌++◌, length, map, Some, slice_get, ne_eqb, eq-eqb, arith, refl, sym, ap, ◌∙◌, subst}
use Rattle.std.proofs.lemmas.List.{length-append, length-map, map-append}
use Rattle.std.proofs.lemmas.List.Elements.{filter-append}
use Rattle.sv_model.specs.declared.records.FileMeta.{FileMeta}
use Rattle.sv_model.specs.declared.records.RegisteredFile.{RegisteredFile}
use Rattle.sv_model.specs.declared.writes.Row.{Row}
use Rattle.sv_model.specs.declared.writes.Write.{Write}
use Rattle.sv_model.specs.declared.openings.OpenFamily.{OpenFamily}
use Rattle.sv_model.specs.Journal.{of_family}
use Rattle.sv_model.specs.Lists.{In, Every, same, times}
use Rattle.sv_model.specs.Named.{numbers_of}
use Rattle.sv_model.specs.Numbers.{captured_numbers, registered}
use Rattle.sv_model.specs.Ranges.{FilesJoin}
use Rattle.sv_model.proofs.Entries.{every_none, in-cons, in-left, in-none, in-right, in-suc, in_append, some}
use Rattle.sv_model.proofs.Lists.{total-append}
use Rattle.sv_files.specs.Calls.{live_file}
use Rattle.sv_state.specs.Openings.{IsOpenFamily, numbered, opening_files, opening_numbers, opening_write, opening_writes}

-- ---- lists
pub every-append : {A : Type 0} (P : A → Type 0) (xs ys : List A) → Every P xs → Every P ys → Every P (xs ++ ys)
every-append P [] ys h k i y e = k i y e
every-append P (x ∷ xs) ys h k zero y e = h zero y e
every-append P (x ∷ xs) ys h k (suc i) y e = every-append P xs ys (λ j z q. h (suc j) z q) k i y e

every-map : {A B : Type 0} (P : B → Type 0) (g : A → B) (xs : List A) → ((x : A) → P (g x)) → Every P (map g xs)
every-map P g [] h i y e = absurd (cc)
every-map P g (x ∷ xs) h zero y e = subst P (some e) (h x)
every-map P g (x ∷ xs) h (suc i) y e = every-map P g xs h i y e

-- ---- the writes of one family
own-writes : (id : ℕ) (rows : List Row) → length (of_family id (map (opening_write id) rows)) ≡ length rows
own-writes id [] = refl
own-writes id (r ∷ rows) =
    let rest = of_family id (map (opening_write id) rows) in
    ap (λ b. length (cond b (opening_write id r ∷ rest) rest)) (eq-eqb id id refl) ∙ ap suc (own-writes id rows)

other-writes : (g id : ℕ) (rows : List Row) → id ≢ g → length (of_family g (map (opening_write id) rows)) ≡ 0
other-writes g id [] d = refl
other-writes g id (r ∷ rows) d =
    let rest = of_family g (map (opening_write id) rows) in
    ap (λ b. length (cond b (opening_write id r ∷ rest) rest)) (ne_eqb id g d) ∙ other-writes g id rows d

split-writes : (g id : ℕ) (f : OpenFamily) (l : List OpenFamily)
    → length (of_family g (opening_writes id (f ∷ l))) ≡ length (of_family g (map (opening_write id) f.writes.items)) + length (of_family g (opening_writes (suc id) l))
split-writes g id f l =
    let own = map (opening_write id) f.writes.items in
    ap (λ (z : List Write). length z) (filter-append (λ (w : Write). w.family == g) own (opening_writes (suc id) l))
    ∙ length-append (of_family g own) (of_family g (opening_writes (suc id) l))

later-writes : (g id : ℕ) (l : List OpenFamily) → g < id → length (of_family g (opening_writes id l)) ≡ 0
later-writes g id [] h = refl
later-writes g id (f ∷ l) h =
    omega (arith, split-writes g id f l, other-writes g id f.writes.items (λ e. omega (arith, e, h)), later-writes g (suc id) l (omega (arith, h)))

pub family-writes : (g id i : ℕ) (l : List OpenFamily) (f : OpenFamily) → g ≡ id + i → slice_get l i ≡ Some f
    → length (of_family g (opening_writes id l)) ≡ length f.writes.items
family-writes g id i [] f q e = absurd (cc)
family-writes g id zero (x ∷ l) f q e =
    let p : id ≡ g = omega (arith, q) in
    subst (λ k. length (of_family k (opening_writes id (x ∷ l))) ≡ length f.writes.items) p
    (omega (arith, split-writes id id x l, own-writes id x.writes.items, later-writes id (suc id) l (omega arith), ap (λ (z : OpenFamily). length z.writes.items) (some e)))
family-writes g id (suc i) (x ∷ l) f q e =
    omega (arith, split-writes g id x l, other-writes g id x.writes.items (λ z. omega (arith, z, q)), family-writes g (suc id) i l f (omega (arith, q)) e)

-- no memtable bears an opening write, and no lane made it
pub bare-writes : (id n : ℕ) (l : List OpenFamily) → id + length l ≤ n → Every (λ w. (w.mem ≡ 0) × (w.lane ≡ 255) × (w.family < n)) (opening_writes id l)
bare-writes id n [] h = every_none (λ (w : Write). (w.mem ≡ 0) × (w.lane ≡ 255) × (w.family < n))
bare-writes id n (f ∷ l) h =
    every-append _ (map (opening_write id) f.writes.items) (opening_writes (suc id) l)
    (every-map _ (opening_write id) f.writes.items (λ r. (refl, refl, omega (arith, h))))
    (bare-writes (suc id) n l (omega (arith, h)))

-- ---- the files
pub every-file : (P : FileMeta → Type 0) (l : List OpenFamily) → Every (λ f. Every P f.files.items) l → Every P (opening_files l)
every-file P [] h = every_none P
every-file P (f ∷ l) h = every-append P f.files.items (opening_files l) (h 0 f refl) (every-file P l (λ i g e. h (suc i) g e))

pub file-in : (m : FileMeta) (i : ℕ) (l : List OpenFamily) (f : OpenFamily) → slice_get l i ≡ Some f → In m f.files.items → In m (opening_files l)
file-in m i [] f e h = absurd (cc)
file-in m zero (g ∷ l) f e h = in-left m g.files.items (opening_files l) (subst (λ (z : OpenFamily). In m z.files.items) (sym (some e)) h)
file-in m (suc i) (g ∷ l) f e h = in-right m g.files.items (opening_files l) (file-in m i l f e h)

-- each file covers a write at least
few-files : (from : ℕ) (files : List FileMeta) (to : ℕ) → FilesJoin from files to → Every (λ m. m.from < m.to) files → from + length files ≤ to
few-files from [] to joins some_ = omega (arith, joins)
few-files from (m ∷ files) to joins some_ = omega (arith, joins.0, some_ 0 m refl, few-files m.to files to joins.1 (λ i x e. some_ (suc i) x e))

pub few-numbers : (id : ℕ) (l : List OpenFamily) → Every IsOpenFamily l → length (opening_numbers id l) ≤ length (opening_writes id l)
few-numbers id [] h = omega arith
few-numbers id (f ∷ l) h =
    let k = h 0 f refl in
    omega (
      arith,
      length-append (map (numbered id) f.files.items) (opening_numbers (suc id) l),
      length-append (map (opening_write id) f.writes.items) (opening_writes (suc id) l),
      length-map f.files.items (numbered id),
      length-map f.writes.items (opening_write id),
      few-files 0 f.files.items (length f.writes.items) k.joins k.some,
      few-numbers (suc id) l (λ i g e. h (suc i) g e),
    )

-- ---- the numbers
plain : (id : ℕ) (files : List FileMeta) → map (λ (p : ℕ × ℕ). p.1) (map (numbered id) files) ≡ numbers_of files
plain id [] = refl
plain id (m ∷ files) = ap (λ z. m.number ∷ z) (plain id files)

pub plain-numbers : (id : ℕ) (l : List OpenFamily) → map (λ (p : ℕ × ℕ). p.1) (opening_numbers id l) ≡ numbers_of (opening_files l)
plain-numbers id [] = refl
plain-numbers id (f ∷ l) =
    map-append (λ (p : ℕ × ℕ). p.1) (map (numbered id) f.files.items) (opening_numbers (suc id) l)
    ∙ (λ i. plain id f.files.items i ++ plain-numbers (suc id) l i)
    ∙ sym (map-append (λ (m : FileMeta). m.number) f.files.items (opening_files l))

pub captured-live : (files : List (ℕ × ℕ)) → captured_numbers (map live_file files) ≡ map (λ (p : ℕ × ℕ). p.1) files
captured-live [] = refl
captured-live (p ∷ files) = ap (λ z. p.1 ∷ z) (captured-live files)

in-numbered : (id n : ℕ) (files : List FileMeta) → In n (numbers_of files) → In (id, n) (map (numbered id) files)
in-numbered id n [] h = absurd (in-none n h)
in-numbered id n (m ∷ files) h =
    ⊎_elim
    (λ q. record { at = 0; is = ap (λ k. Some (id, k)) (sym q) })
    (λ j. in-suc (id, n) (numbered id m) (map (numbered id) files) (in-numbered id n files j))
    (in-cons n m.number (numbers_of files) h)

-- the number of a file of family i stands there with the family
pub number-in : (n g id i : ℕ) (l : List OpenFamily) (f : OpenFamily) → g ≡ id + i → slice_get l i ≡ Some f → In n (numbers_of f.files.items)
    → In (g, n) (opening_numbers id l)
number-in n g id i [] f q e h = absurd (cc)
number-in n g id zero (x ∷ l) f q e h =
    let p : id ≡ g = omega (arith, q) in
    subst (λ k. In (k, n) (opening_numbers id (x ∷ l))) p
    (in-left (id, n) (map (numbered id) x.files.items) (opening_numbers (suc id) l) (in-numbered id n x.files.items (subst (λ (z : OpenFamily). In n (numbers_of z.files.items)) (sym (some e)) h)))
number-in n g id (suc i) (x ∷ l) f q e h =
    in-right (g, n) (map (numbered id) x.files.items) (opening_numbers (suc id) l) (number-in n g (suc id) i l f (omega (arith, q)) e h)

numbered-in : (id : ℕ) (p : ℕ × ℕ) (files : List FileMeta) → In p (map (numbered id) files) → In p.1 (numbers_of files)
numbered-in id p [] h = absurd (in-none p h)
numbered-in id p (m ∷ files) h =
    ⊎_elim
    (λ q. record { at = 0; is = ap (λ (k : ℕ × ℕ). Some k.1) (sym q) })
    (λ j. in-suc p.1 m.number (numbers_of files) (numbered-in id p files j))
    (in-cons p (numbered id m) (map (numbered id) files) h)

-- what stands there is the number of a file of some family
pub in-number : (id : ℕ) (p : ℕ × ℕ) (l : List OpenFamily) → In p (opening_numbers id l)
    → (i : ℕ) × (f : OpenFamily) × (slice_get l i ≡ Some f) × In p.1 (numbers_of f.files.items)
in-number id p [] h = absurd (in-none p h)
in-number id p (f ∷ l) h =
    ⊎_elim
    (λ q. (0, f, refl, numbered-in id p f.files.items q))
    (λ q. let t = in-number (suc id) p l q in (suc t.0, t.1, t.2, t.3))
    (in_append p (map (numbered id) f.files.items) (opening_numbers (suc id) l) h)

-- a number of a family is registered at least as often as it stands in its files
own-registered : (n id : ℕ) (files : List FileMeta) → registered n (map live_file (map (numbered id) files)) ≡ times n (numbers_of files)
own-registered n id [] = refl
own-registered n id (m ∷ files) = ap (λ k. same n m.number + k) (own-registered n id files)

split-registered : (n id : ℕ) (f : OpenFamily) (l : List OpenFamily)
    → registered n (map live_file (opening_numbers id (f ∷ l))) ≡ times n (numbers_of f.files.items) + registered n (map live_file (opening_numbers (suc id) l))
split-registered n id f l =
    let own = map (numbered id) f.files.items in
    let rest = opening_numbers (suc id) l in
    ap (registered n) (map-append live_file own rest)
    ∙ total-append (λ (y : RegisteredFile). same n y.number) (map live_file own) (map live_file rest)
    ∙ ap (λ k. k + registered n (map live_file rest)) (own-registered n id f.files.items)

pub part-registered : (n id i : ℕ) (l : List OpenFamily) (f : OpenFamily) → slice_get l i ≡ Some f
    → times n (numbers_of f.files.items) ≤ registered n (map live_file (opening_numbers id l))
part-registered n id i [] f e = absurd (cc)
part-registered n id zero (x ∷ l) f e = omega (arith, split-registered n id x l, ap (λ (z : OpenFamily). times n (numbers_of z.files.items)) (some e))
part-registered n id (suc i) (x ∷ l) f e = omega (arith, split-registered n id x l, part-registered n (suc id) i l f e)
