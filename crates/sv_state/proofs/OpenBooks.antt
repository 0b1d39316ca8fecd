-- The books of a store that was kept are those of an opening.
use Rattle.std.proofs.Common.{◌≡◌, ◌≤◌, ℕ, zero, suc, true, List, [], ◌∷◌, length, map, replicate, Some, None, arith, refl, sym, ap, ◌∙◌, subst}
use Rattle.std.specs.Prelude.{slice_get}
use Rattle.sv_model.specs.declared.records.Family.{Family}
use Rattle.sv_model.specs.declared.records.FileMeta.{FileMeta}
use Rattle.sv_model.specs.declared.records.FileStatus.TheVariants.{Live}
use Rattle.sv_model.specs.declared.records.RegisteredFile.{RegisteredFile}
use Rattle.sv_model.specs.declared.records.Version.{Version}
use Rattle.sv_model.specs.declared.openings.OpenFamily.{OpenFamily}
use Rattle.sv_model.specs.declared.openings.Opening.{Opening}
use Rattle.sv_model.specs.declared.limits.TheConstants.{MAX_FAMILIES, MAX_WRITES}
use Rattle.sv_model.specs.Books.{Books}
use Rattle.sv_model.specs.Described.{IsFileOf}
use Rattle.sv_model.specs.Families.{AreFamilies}
use Rattle.sv_model.specs.Journal.{of_family}
use Rattle.sv_model.specs.Lists.{In, Every}
use Rattle.sv_model.specs.Named.{HasFile, NamedFile, numbers_of}
use Rattle.sv_model.specs.Numbers.{FilesStand, HasStatus, IsRegistered}
use Rattle.sv_model.specs.Openings.{IsFirstVersion, IsOpening}
use Rattle.sv_model.specs.Ranges.{FilesJoin}
use Rattle.sv_model.specs.Registers.{entry}
use Rattle.sv_model.proofs.Entries.{some}
use Rattle.sv_version.specs.Changes.{live_version}
use Rattle.sv_version.specs.KeptVersions.{IsSound}
use Rattle.sv_files.specs.Calls.{AreNamed, live_file, opened}
use Rattle.sv_family.specs.Openings.{AreOpen, open_families}
use Rattle.sv_family.proofs.OpenFamilies.{length-open, open-at}
use Rattle.sv_state.specs.Openings.{IsOpenFamily, MayOpen, by_id, open_list, open_memtable, open_super, open_top, open_version, opened_books, opening_files, opening_numbers, opening_writes}
use Rattle.sv_state.proofs.OpenLists.{at-by_id, by_id-at, length-by_id}
use Rattle.sv_state.proofs.OpenWrites.{bare-writes, captured-live, every-file, family-writes, few-numbers, file-in, in-number, number-in, part-registered, plain-numbers}

-- ---- what may be opened meets what the calls below ask
module _ (opening : Opening) (next : ℕ) (h : MayOpen opening next) where
  pub open-families : AreOpen opening.families.items
  open-families = record {
    most = h.most;
    default = h.default;
    names = h.names;
    options = λ i f e. (h.each i f e).options;
  }

  pub named-numbers : AreNamed next (opening_numbers 0 opening.families.items)
  named-numbers = record {
    few = omega (arith, few-numbers 0 opening.families.items h.each, h.few);
    apart = subst (λ (l : List ℕ). (i j n : ℕ) → slice_get l i ≡ Some n → slice_get l j ≡ Some n → i ≡ j) (sym (plain-numbers 0 opening.families.items)) h.distinct;
    within = λ i p e.
        let at : slice_get (numbers_of (opening_files opening.families.items)) i ≡ Some p.1 =
        ap (λ (l : List ℕ). slice_get l i) (sym (plain-numbers 0 opening.families.items)) ∙ plain-at (opening_numbers 0 opening.families.items) i p e in
        let w = h.within i p.1 at in
        (w.0, omega (arith, w.1, h.next_is));
  }
    where
      plain-at : (l : List (ℕ × ℕ)) (i : ℕ) (p : ℕ × ℕ) → slice_get l i ≡ Some p → slice_get (map (λ (q : ℕ × ℕ). q.1) l) i ≡ Some p.1
      plain-at [] i p e = absurd (cc)
      plain-at (q ∷ l) zero p e = ap (λ (k : ℕ × ℕ). Some k.1) (some e)
      plain-at (q ∷ l) (suc i) p e = plain-at l i p e

pub sound-files : (next : ℕ) (l : List OpenFamily) → Every IsOpenFamily l → FilesStand (opened next (map live_file (opening_numbers 0 l)))
    → Every (λ f. IsSound (live_version f.files.items)) l
sound-files next l each book i f e = record {
  once = λ n. omega (arith, part-registered n 0 i l f e, book.numbers.once n);
  joins = (length f.writes.items, (each i f e).joins);
}

-- ---- what is in a fresh register of file numbers
no-capture : (k f n : ℕ) → slice_get (replicate k None) f ≡ Some (Some n) → ⊥
no-capture zero f n e = absurd (cc)
no-capture (suc k) zero n e = let z : None ≡ Some n = some e in absurd (cc)
no-capture (suc k) (suc f) n e = no-capture k f n e

no-hold : (k i n : ℕ) → slice_get (replicate k 0) i ≡ Some n → n ≡ 0
no-hold zero i n e = absurd (cc)
no-hold (suc k) zero n e = sym (some e)
no-hold (suc k) (suc i) n e = no-hold k i n e

live-at : (l : List (ℕ × ℕ)) (i : ℕ) (p : ℕ × ℕ) → slice_get l i ≡ Some p → slice_get (map live_file l) i ≡ Some (live_file p)
live-at [] i p e = absurd (cc)
live-at (q ∷ l) zero p e = ap (λ k. Some (live_file k)) (some e)
live-at (q ∷ l) (suc i) p e = live-at l i p e

at-live : (l : List (ℕ × ℕ)) (i : ℕ) (x : RegisteredFile) → slice_get (map live_file l) i ≡ Some x → (p : ℕ × ℕ) × (slice_get l i ≡ Some p) × (x ≡ live_file p)
at-live [] i x e = absurd (cc)
at-live (p ∷ l) zero x e = (p, refl, sym (some e))
at-live (p ∷ l) (suc i) x e = at-live l i x e

-- ---- the books
module _ (l : List OpenFamily) (next : ℕ) (most : length l ≤ MAX_FAMILIES) (each : Every IsOpenFamily l) (few : length (opening_writes 0 l) ≤ MAX_WRITES)
    (book : FilesStand (opened next (map live_file (opening_numbers 0 l)))) (law : AreFamilies (open_families l)) where
  abbrev pub b : Books
  b = opened_books l next

  even : {A : Type 0} (make : ℕ → OpenFamily → A) → length (by_id make 0 l) ≡ length (open_families l)
  even make = length-by_id make 0 l ∙ sym (length-open l)

  written : (i : ℕ) (f : OpenFamily) → slice_get l i ≡ Some f → length (of_family i (opening_writes 0 l)) ≡ length f.writes.items
  written i f e = family-writes i 0 i l f (omega arith) e

  made : {A : Type 0} (make : ℕ → OpenFamily → A) (i : ℕ) (f : OpenFamily) → slice_get l i ≡ Some f → slice_get (by_id make 0 l) i ≡ Some (make i f)
  made make i f e = by_id-at make 0 i i l f (omega arith) e

  options-of : (i : ℕ) (y : Family) (e : slice_get (open_families l) i ≡ Some y) → y.options ≡ (open-at l i y e).it.options
  options-of i y e = ap (λ (z : Family). z.options) (open-at l i y e).is

  file-of : (i : ℕ) (f : OpenFamily) → slice_get l i ≡ Some f → Every (IsFileOf b.files.numbers b.metas i) f.files.items
  file-of i f e k m at =
      let there = number-in m.number i 0 i l f (omega arith) e (record { at = k; is = numbers-at f.files.items k m at }) in
      record {
        captured = (suc there.at, live_file (i, m.number), live-at (opening_numbers 0 l) there.at (i, m.number) there.is, record { number_is = refl; family_is = refl });
        covers = file-in m i l f e (record { at = k; is = at });
        some = (each i f e).some k m at;
      }
    where
      numbers-at : (files : List FileMeta) (k : ℕ) (m : FileMeta) → slice_get files k ≡ Some m → slice_get (numbers_of files) k ≡ Some m.number
      numbers-at [] k m q = absurd (cc)
      numbers-at (x ∷ files) zero m q = ap (λ (z : FileMeta). Some z.number) (some q)
      numbers-at (x ∷ files) (suc k) m q = numbers-at files k m q

  first-version : (i : ℕ) (y : Family) → slice_get b.families i ≡ Some y → IsFirstVersion b i
  first-version i y e =
      let t = open-at l i y e in
      let f = t.it in
      let k = each i f t.at in
      record {
        it = open_version i f;
        at = made open_version i f t.at;
        live = refl;
        files = record {
          joins = subst (λ n. FilesJoin 0 f.files.items n) (sym (written i f t.at)) k.joins;
          each = file-of i f t.at;
          above = k.above;
        };
      }

  -- a number is registered where a Version names its file
  named-at : (n k : ℕ) (x : RegisteredFile) → entry b.files.numbers k ≡ Some x → HasStatus n Live x → NamedFile b.versions n
  named-at n zero x e s = absurd (cc)
  named-at n (suc k) x e s =
      let p = at-live (opening_numbers 0 l) k x e in
      let t = in-number 0 p.0 l (record { at = k; is = p.1 }) in
      let q : p.0.1 ≡ n = ap (λ (z : RegisteredFile). z.number) (sym p.2) ∙ s.number_is in
      (suc t.0, open_version t.0 t.1, made open_version t.0 t.1 t.2, record { live = refl; has = subst (λ m. In m (numbers_of t.1.files.items)) q t.3 })

  file-at : (n k : ℕ) (v : Version) → entry b.versions k ≡ Some v → HasFile n v → IsRegistered b.files.numbers n Live
  file-at n zero v e h = absurd (cc)
  file-at n (suc i) v e h =
      let t = at-by_id open_version 0 i i l v (omega arith) e in
      let has : In n (numbers_of t.0.files.items) = subst (λ (z : Version). In n (numbers_of z.files)) t.2 h.has in
      let there = number-in n i 0 i l t.0 (omega arith) t.1 has in
      (suc there.at, live_file (i, n), live-at (opening_numbers 0 l) there.at (i, n) there.is, record { number_is = refl; status_is = refl })

  pub opened-opening : IsOpening b
  opened-opening = record {
    most = law.few;
    supers_made = even open_super;
    memtables_made = even open_memtable;
    lists_made = even open_list;
    versions_made = even open_version;
    tops_made = even open_top;
    supers = λ i y e. let t = open-at l i y e in
        made open_super i t.it t.at ∙ (λ j. Some (record { descriptor = record { family = i; active = suc i; list = suc i; version = suc i; base = sym (written i t.it t.at) j; options = sym (options-of i y e) j }; place = i; live = true }));
    memtables = λ i y e. let t = open-at l i y e in
        made open_memtable i t.it t.at ∙ ap (λ n. Some (record { family = i; first = n; cell = i; live = true })) (sym (written i t.it t.at));
    lists = λ i y e. let t = open-at l i y e in made open_list i t.it t.at;
    versions = first-version;
    tops = λ i y e. let t = open-at l i y e in made open_top i t.it t.at;
    stand = λ i y e. ap (λ (z : Family). z.dropped) (open-at l i y e).is;
    handles = law.lanes;
    options = law.options;
    distinct = λ f g x y e d n. law.distinct x.name f g x y e d
        (record { name_is = refl; stands = ap (λ (z : Family). z.dropped) (open-at l f x e).is })
        (record { name_is = sym n; stands = ap (λ (z : Family). z.dropped) (open-at l g y d).is });
    default = law.default;
    writes = bare-writes 0 (length (open_families l)) l (omega (arith, length-open l));
    few = few;
    numbers = book.numbers;
    metas = sym (captured-live (opening_numbers 0 l) ∙ plain-numbers 0 l);
    cuts = every-file _ l (λ i f e. (each i f e).cuts);
    files = λ n. (λ w. named-at n w.0 w.1 w.2 w.3, λ w. file-at n w.0 w.1 w.2 w.3);
    few_files = book.few;
    idle = no-capture 16;
    captured = book.families;
    holds = no-hold 32;
    lanes = book.lanes;
    jobs = refl;
    snapshots = refl;
  }
