-- What is so of books is so of all that come after them.
use Rattle.std.proofs.Common.{◌≡◌, ◌≤◌, ◌+◌, ◌==◌, inl, inr, ℕ, suc, Bool, cond, true, List, [], ◌∷◌, ◌++◌, length, take, Option, Some, None, refl, sym, ◌∙◌, ap, subst, arith}
use Rattle.std.specs.Prelude.{slice_get, IsSomeAnd, is_some, count_by, option_and_then}
use Rattle.std.proofs.lemmas.List.{length-append, take-append-le}
use Rattle.std.proofs.lemmas.List.Elements.{filter-append}
use Rattle.std.proofs.lemmas.List.Sums.{sum_by-cons}
use Rattle.sv_model.specs.declared.writes.Write.{Write}
use Rattle.sv_model.specs.declared.writes.Op.{Op}
use Rattle.sv_model.specs.declared.records.Descriptor.{Descriptor}
use Rattle.sv_model.specs.declared.records.SuperVersion.{SuperVersion}
use Rattle.sv_model.specs.declared.records.FileMeta.{FileMeta}
use Rattle.sv_model.specs.declared.records.RegisteredFile.{RegisteredFile}
use Rattle.sv_model.specs.Journal.{of_family, borne_by, look, rows_of, newest_op, value_of}
use Rattle.sv_model.specs.Lists.{In}
use Rattle.sv_model.specs.Registers.{entry, GoesOn, Has}
use Rattle.sv_model.specs.Books.{Books, end_of}
use Rattle.sv_model.specs.After.{After, Continues, KeepsMemtable, KeepsNumber, KeepsSuper, KeepsFamily}
use Rattle.sv_model.specs.Reads.{IsWrite, IsWrittenAt, Serves, LooksAt, IsCapturedFor, IsOutput}
use Rattle.sv_model.specs.Moments.{BeginsFrom, WasStalled, WasFlushed, ReachesTo, WereManyMemtables, WereManyLive, WereAllMade, WereAllNumbered, WasCapturedFor}
use Rattle.sv_model.specs.Numbers.{registered}
use Rattle.sv_model.proofs.NumberLaws.{one_entry}
use Rattle.sv_model.proofs.Registers.{entry-old}
use Rattle.sv_replies.specs.Moments.{IsAt, IsIn, IsNamed, IsOf, IsTaken, WasDropped}

-- ---- registers

-- the same by places from 0
abbrev GoesAt : {A : Type 0} → (A → A → Type 0) → List A → List A → Type 0
GoesAt {A} R a b = (k : ℕ) (x : A) → slice_get a k ≡ Some x → (y : A) × (slice_get b k ≡ Some y) × R x y

same_item : {A : Type 0} (x y : A) → Some x ≡ Some y → x ≡ y
same_item x y e = cc

goes_at-length : {A : Type 0} (R : A → A → Type 0) (a b : List A) → GoesAt R a b → length a ≤ length b
goes_at-length R [] b g = omega arith
goes_at-length R (x ∷ a) [] g = absurd (let h = (g 0 x refl).1 in cc)
goes_at-length R (x ∷ a) (y ∷ b) g = let h = goes_at-length R a b (λ k z at. g (suc k) z at) in omega (arith, h)

-- a register only grows
pub goes_on-length : {A : Type 0} (R : A → A → Type 0) (a b : List A) → GoesOn R a b → length a ≤ length b
goes_on-length R a b g = goes_at-length R a b (λ k x at. g (suc k) x at)

goes_at-count : {A : Type 0} (R : A → A → Type 0) (p : A → Bool) → ((x y : A) → R x y → p y ≡ p x) → (a b : List A)
    → GoesAt R a b → count_by p a ≤ count_by p b
goes_at-count R p same [] b g = omega arith
goes_at-count R p same (x ∷ a) [] g = absurd (let h = (g 0 x refl).1 in cc)
goes_at-count R p same (x ∷ a) (y ∷ b) g =
    let rest = goes_at-count R p same a b (λ k z at. g (suc k) z at) in
    let first = g 0 x refl in
    let here : p y ≡ p x = ap p (same_item y first.0 first.1) ∙ same x first.0 first.2 in
    let one : (n m : ℕ) → cond (p y) n m ≡ cond (p x) n m = λ n m. ap (λ q. cond q n m) here in
    omega (arith, rest, one 1 0, sum_by-cons (λ z. cond (p z) 1 0) x a, sum_by-cons (λ z. cond (p z) 1 0) y b)

-- of what is kept there are at least as many
pub goes_on-count : {A : Type 0} (R : A → A → Type 0) (p : A → Bool) → ((x y : A) → R x y → p y ≡ p x)
    → (a b : List A) → GoesOn R a b → count_by p a ≤ count_by p b
goes_on-count R p same a b g = goes_at-count R p same a b (λ k x at. g (suc k) x at)

-- what a record keeps
pub has-later : {A : Type 0} (R : A → A → Type 0) (P Q : A → Type 0) → ((x y : A) → R x y → P x → Q y)
    → (a b : List A) → GoesOn R a b → Has P a → Has Q b
has-later R P Q keeps a b g h =
    let at = g h.0 h.1 h.2 in
    (h.0, at.0, at.1, keeps h.1 at.0 at.2 h.3)

pub in-register : {A : Type 0} (R : A → A → Type 0) (P Q : A → Type 0) → ((x y : A) → R x y → P x → Q y)
    → (a b : List A) (n : ℕ) → GoesOn R a b → IsIn P a n → IsIn Q b n
in-register R P Q keeps a b n g h =
    let at = g n h.0 h.1 in
    (at.0, at.1, keeps h.0 at.0 at.2 h.2)

pub at-register : {A : Type 0} (R : A → A → Type 0) (P Q : A → Type 0) → ((x y : A) → R x y → P x → Q y)
    → (a b : List A) (n : ℕ) → GoesOn R a b → IsAt P a n → IsAt Q b n
at-register R P Q keeps a b n g h =
    let at = g (suc n) h.0 h.1 in
    (at.0, at.1, keeps h.0 at.0 at.2 h.2)

get-front : {A : Type 0} (a more : List A) (k : ℕ) (x : A) → slice_get a k ≡ Some x → slice_get (a ++ more) k ≡ Some x
get-front a more k x at = entry-old a more (suc k) x at

pub in-later : {A : Type 0} (x : A) (a b : List A) → Continues a b → In x a → In x b
in-later x a b more h = record { at = h.at; is = subst (λ z. slice_get z h.at ≡ Some x) (sym more.1) (get-front a more.0 h.at x h.is) }

pub continues-length : {A : Type 0} (a b : List A) → Continues a b → length a ≤ length b
continues-length a b more = omega (arith, ap length more.1, length-append a more.0)

-- ---- the journal

-- the writes of a family go on
pub of_family-later : (a b : List Write) (family : ℕ) (more : Continues a b)
    → of_family family b ≡ of_family family a ++ of_family family more.0
of_family-later a b family more =
    ap (of_family family) more.1 ∙ filter-append (λ (w : Write). w.family == family) a more.0

pub count-later : (a b : List Write) (family : ℕ) → Continues a b
    → length (of_family family a) ≤ length (of_family family b)
count-later a b family more =
    omega (arith, ap length (of_family-later a b family more), length-append (of_family family a) (of_family family more.0))

borne-later : (a b : List Write) (mem : ℕ) → Continues a b → length (borne_by mem a) ≤ length (borne_by mem b)
borne-later a b mem more =
    omega (arith, ap (λ z. length (borne_by mem z)) more.1, ap length (filter-append (λ (w : Write). w.mem == mem) a more.0), length-append (borne_by mem a) (borne_by mem more.0))

pub written-later : (a b : Books) (lane family : ℕ) (key : List ℕ) (op : Op) (n : ℕ) → After a b
    → IsWrittenAt a lane family key op n → IsWrittenAt b lane family key op n
written-later a b lane family key op n after h =
    at (entry (of_family family a.journal) n) refl h
  where
    at : (found : Option Write) → entry (of_family family a.journal) n ≡ found → IsSomeAnd found (IsWrite lane key op)
        → IsWrittenAt b lane family key op n
    at None is h = absurd h
    at (Some w) is h =
        let there : entry (of_family family b.journal) n ≡ Some w =
        ap (λ z. entry z n) (of_family-later a.journal b.journal family after.journal) ∙ entry-old (of_family family a.journal) (of_family family after.journal.0) n w is in
        subst (λ z. IsSomeAnd z (IsWrite lane key op)) (sym there) h

-- ---- reads

-- a SuperVersion ends no earlier
pub end-later : (a b : Books) (x y : SuperVersion) → After a b → KeepsSuper x y
    → end_of a.journal x ≤ end_of b.journal y
end-later a b x y after kept =
    let grows : length (borne_by x.descriptor.active a.journal) ≤ length (borne_by x.descriptor.active b.journal) = borne-later a.journal b.journal x.descriptor.active after.journal in
    let ends : end_of b.journal y ≡ x.descriptor.base + length (borne_by x.descriptor.active b.journal) = ap (λ (d : Descriptor). d.base + length (borne_by d.active b.journal)) kept.descriptor in
    omega (arith, ends, grows)

serves-later : (a b : Books) (family cut serial : ℕ) → After a b
    → IsSomeAnd (entry a.supers serial) (Serves a family cut)
    → IsSomeAnd (entry b.supers serial) (Serves b family cut)
serves-later a b family cut serial after h =
    at (entry a.supers serial) refl h
  where
    at : (found : Option SuperVersion) → entry a.supers serial ≡ found → IsSomeAnd found (Serves a family cut)
        → IsSomeAnd (entry b.supers serial) (Serves b family cut)
    at None is h = absurd h
    at (Some s) is h =
        let kept = after.supers serial s is in
        let same : kept.0.descriptor ≡ s.descriptor = kept.2.descriptor in
        let base : kept.0.descriptor.base ≡ s.descriptor.base = ap (λ (d : Descriptor). d.base) same in
        subst (λ z. IsSomeAnd z (Serves b family cut)) (sym kept.1)
        (record {
          family_is = ap (λ (d : Descriptor). d.family) same ∙ h.family_is;
          begins = omega (arith, base, h.begins);
          ends = omega (arith, end-later a b s kept.0 after kept.2, h.ends);
        })

-- what the first writes of a family leave does not change as more come
pub look-later : (a b : List Write) (family cut : ℕ) (key : List ℕ) → Continues a b
    → cut ≤ length (of_family family a) → look b family cut key ≡ look a family cut key
look-later a b family cut key more few =
    let whole : take cut (of_family family b) ≡ take cut (of_family family a) =
    ap (take cut) (of_family-later a b family more) ∙ take-append-le cut (of_family family a) (of_family family more.0) few in
    ap (λ z. option_and_then value_of (newest_op key (rows_of z))) whole

pub looks-later : (told : Bool) (a b : Books) (family : ℕ) (key : List ℕ) (found : Option (List ℕ)) (cut serial : ℕ)
    → After a b → cut ≤ length (of_family family a.journal) → LooksAt told a family key found cut serial
    → LooksAt told b family key found cut serial
looks-later told a b family key found cut serial after few h = record {
  serves = serves-later a b family cut serial after h.serves;
  found_is = λ is. look-later a.journal b.journal family cut key after.journal few ∙ h.found_is is;
}

-- ---- families and SuperVersions

named_keeps : (name : List ℕ) (x y : _) → KeepsFamily x y → x.name ≡ name → y.name ≡ name
named_keeps name x y kept is = kept.name ∙ is

pub named-later : (a b : Books) (id : ℕ) (name : List ℕ) → After a b → IsNamed a id name → IsNamed b id name
named-later a b id name after h =
    at-register KeepsFamily (λ x. x.name ≡ name) (λ x. x.name ≡ name) (named_keeps name) a.families b.families id after.families h

pub taken-later : (a b : Books) (name : List ℕ) → After a b → IsTaken a name → IsTaken b name
taken-later a b name after h =
    has-later KeepsFamily (λ x. x.name ≡ name) (λ x. x.name ≡ name) (named_keeps name) a.families b.families after.families h

pub dropped-later : (a b : Books) (id : ℕ) → After a b → WasDropped a id → WasDropped b id
dropped-later a b id after h =
    at-register KeepsFamily (λ x. x.dropped ≡ true) (λ x. x.dropped ≡ true) (λ x y kept is. kept.dropped is) a.families b.families id after.families h

pub of-later : (a b : Books) (family serial : ℕ) → After a b → IsIn (IsOf family) a.supers serial
    → IsIn (IsOf family) b.supers serial
of-later a b family serial after h =
    in-register KeepsSuper (IsOf family) (IsOf family) (λ x y kept is. ap (λ (d : Descriptor). d.family) kept.descriptor ∙ is) a.supers b.supers serial after.supers h

-- ---- files

captured_keeps : (family number : ℕ) (x y : RegisteredFile) → KeepsNumber x y → IsCapturedFor family number x
    → IsCapturedFor family number y
captured_keeps family number x y kept h =
    record { number_is = kept.number ∙ h.number_is; family_is = kept.family ∙ h.family_is }

pub captured-later : (a b : Books) (family number : ℕ) → After a b → WasCapturedFor a family number
    → WasCapturedFor b family number
captured-later a b family number after h =
    has-later KeepsNumber (IsCapturedFor family number) (IsCapturedFor family number) (captured_keeps family number) a.files.numbers b.files.numbers after.numbers h

pub output-later : (a b : Books) (family : ℕ) (file : FileMeta) → After a b → IsOutput a family file
    → IsOutput b family file
output-later a b family file after h = record {
  captured = captured-later a b family file.number after h.captured;
  covers = in-later file a.metas b.metas after.metas h.covers;
  named = has-later _ (λ v. In file v.files) (λ v. In file v.files) (λ x y kept it. subst (λ z. In file z) (sym kept.files) it) a.versions b.versions after.versions h.named;
}

pub reaches-later : (a b : Books) (family upto : ℕ) (file : FileMeta) → After a b → ReachesTo a family upto file
    → ReachesTo b family upto file
reaches-later a b family upto file after h = record {
  captured = captured-later a b family file.number after h.captured;
  covers = in-later file a.metas b.metas after.metas h.covers;
  reaches = h.reaches;
}

-- a number is captured for one family
pub one_family : (b : Books) → ((n : ℕ) → registered n b.files.numbers ≤ 1) → (n f g : ℕ) → WasCapturedFor b f n
    → WasCapturedFor b g n → f ≡ g
one_family b once n f g p q =
    let same = one_entry b.files.numbers n p.0 q.0 p.1 q.1 (once n) p.2 q.2 p.3.number_is q.3.number_is in
    let it : p.1 ≡ q.1 = same_item p.1 q.1 (sym p.2 ∙ subst (λ i. entry b.files.numbers p.0 ≡ entry b.files.numbers i) same refl ∙ q.2) in
    same_item f g (sym p.3.family_is ∙ ap (λ (x : RegisteredFile). x.family) it ∙ q.3.family_is)

-- ---- moments

begins_keeps : (family first : ℕ) → (x y : _) → KeepsMemtable x y → BeginsFrom family first x
    → BeginsFrom family first y
begins_keeps family first x y kept h =
    record { family_is = kept.family ∙ h.family_is; from = omega (arith, kept.first, h.from) }

pub stalled-later : (a b : Books) (family flushed : ℕ) → After a b → WasStalled a family flushed
    → WasStalled b family flushed
unfolding has-later
stalled-later a b family flushed after h = record {
  one = has-later KeepsMemtable (BeginsFrom family flushed) (BeginsFrom family flushed) (begins_keeps family flushed) a.memtables b.memtables after.memtables h.one;
  other = has-later KeepsMemtable (BeginsFrom family flushed) (BeginsFrom family flushed) (begins_keeps family flushed) a.memtables b.memtables after.memtables h.other;
  apart = h.apart;
}

pub flushed-later : (a b : Books) (family upto : ℕ) → After a b → WasFlushed a family upto → WasFlushed b family upto
flushed-later a b family upto after (inl none) = inl none
flushed-later a b family upto after (inr found) = inr (found.0, reaches-later a b family upto found.0 after found.1)

pub many_memtables-later : (a b : Books) → After a b → WereManyMemtables a → WereManyMemtables b
many_memtables-later a b after h = omega (arith, goes_on-length _ a.memtables b.memtables after.memtables, h)

pub many_live-later : (a b : Books) → After a b → WereManyLive a → WereManyLive b
many_live-later a b after h = omega (arith, goes_on-length _ a.supers b.supers after.supers, h)

pub all_made-later : (a b : Books) → After a b → WereAllMade a → WereAllMade b
all_made-later a b after h = omega (arith, goes_on-length _ a.supers b.supers after.supers, h)

pub all_numbered-later : (a b : Books) → After a b → WereAllNumbered a → WereAllNumbered b
all_numbered-later a b after (inl made) = inl (all_made-later a b after made)
all_numbered-later a b after (inr (inl many)) =
    inr (inl (omega (arith, many, goes_on-count KeepsNumber (λ f. is_some f.family) (λ x y kept. ap is_some kept.family) a.files.numbers b.files.numbers after.numbers)))
all_numbered-later a b after (inr (inr ended)) = inr (inr (omega (arith, ended, after.next)))
