-- The cuts of Live snapshots: whether a cut is one of them, and gathering those inside a range.
use Rattle.std.proofs.Common.{◌≡◌, ◌≢◌, ◌<◌, ◌≤◌, ◌+◌, ◌==◌, ◌&&◌, ◌||◌, ◌⊎◌, inl, inr, ⊎_elim, ℕ, zero, suc, Bool, true, false, List, [], ◌∷◌, ◌++◌, length, take, map, Some, refl, sym, ap, ◌∙◌, subst, arith, ne_eqb}
use Rattle.std.specs.Prelude.{slice_get, slice_index_or}
use Rattle.std.specs.List.{list_any, list_all}
use Rattle.std.proofs.lemmas.Option.{get_or_from_slice_get, slice_get_within}
use Rattle.std.proofs.Math.Seq.{take-suc}
use Rattle.sv_model.specs.declared.writes.Write.{Write}
use Rattle.sv_model.specs.declared.records.Snapshot.{Snapshot}
use Rattle.sv_model.specs.declared.records.FileMeta.{FileMeta}
use Rattle.sv_model.specs.Lists.{bit, total}
use Rattle.sv_model.specs.Registers.{entry, EachEntry}
use Rattle.sv_model.specs.Snapshots.{cut_of, IsClear}
use Rattle.sv_laws.specs.Snapping.{AreGathered, HasLiveCuts, IsCutOf}
use Rattle.sv_laws.proofs.GatheredCuts.{cut-left, cut-taken}
use Rattle.sv_model.proofs.Entries.{some}
use Rattle.sv_journal.specs.declared.live.LiveSnapshot.{LiveSnapshot}
use Rattle.sv_journal.specs.Calls.{is_live_cut}
use Rattle.sv_journal.specs.Kept.{AreLive, snapshot_of}

-- ---- tests over a list

or-true : (b : Bool) → (b || true) ≡ true
or-true true = refl
or-true false = refl

and-false : (b : Bool) → (b && false) ≡ false
and-false true = refl
and-false false = refl

any-at : {A : Type 0} (p : A → Bool) (l : List A) (i : ℕ) (x : A) → slice_get l i ≡ Some x → p x ≡ true → list_any p l ≡ true
any-at p [] i x e h = absurd (cc)
any-at p (y ∷ l) zero x e h = ap (λ b. b || list_any p l) (ap p (some e) ∙ h)
any-at p (y ∷ l) (suc i) x e h = ap (λ b. p y || b) (any-at p l i x e h) ∙ or-true (p y)

any-none : {A : Type 0} (p : A → Bool) (l : List A) → ((i : ℕ) (x : A) → slice_get l i ≡ Some x → p x ≡ false) → list_any p l ≡ false
any-none p [] h = refl
any-none p (y ∷ l) h = ap (λ b. b || list_any p l) (h 0 y refl) ∙ any-none p l (λ i x e. h (suc i) x e)

pub all-not : {A : Type 0} (p : A → Bool) (l : List A) (i : ℕ) (x : A) → slice_get l i ≡ Some x → p x ≡ false → list_all p l ≡ false
all-not p [] i x e h = absurd (cc)
all-not p (y ∷ l) zero x e h = ap (λ b. b && list_all p l) (ap p (some e) ∙ h)
all-not p (y ∷ l) (suc i) x e h = ap (λ b. p y && b) (all-not p l i x e h) ∙ and-false (p y)

pub all-so : {A : Type 0} (p : A → Bool) (l : List A) → ((i : ℕ) (x : A) → slice_get l i ≡ Some x → p x ≡ true) → list_all p l ≡ true
all-so p [] h = refl
all-so p (y ∷ l) h = ap (λ b. b && list_all p l) (h 0 y refl) ∙ all-so p l (λ i x e. h (suc i) x e)

same-cut : (m n : ℕ) → m ≡ n → (m == n) ≡ true
same-cut m n e = grind arith

-- ---- one cut

module _ (J : List Write) (S : List Snapshot) (live : List LiveSnapshot) (h : AreLive J S live) (f : ℕ) (within : f < 16) where
  pub read : (i : ℕ) (r : LiveSnapshot) → slice_get live i ≡ Some r → slice_index_or r.cuts f 0 ≡ cut_of J r.at f
  read i r e = get_or_from_slice_get r.cuts f (cut_of J r.at f) 0 ((h.cuts i r e).cuts f within)

  pub cut-live : (cut i : ℕ) (r : LiveSnapshot) → slice_get live i ≡ Some r → slice_index_or r.cuts f 0 ≡ cut → is_live_cut J S f cut ≡ true
  cut-live cut i r e q = by r.id (h.each i r e)
    where
      by : (n : ℕ) → entry S n ≡ Some (snapshot_of r) → is_live_cut J S f cut ≡ true
      by zero g = absurd (cc)
      by (suc n) g = any-at (λ s. s.live && (cut_of J s.at f == cut)) S n (snapshot_of r) g (same-cut (cut_of J r.at f) cut (sym (read i r e) ∙ q))

  pub cut-none : (cut : ℕ) → ((i : ℕ) (r : LiveSnapshot) → slice_get live i ≡ Some r → slice_index_or r.cuts f 0 ≢ cut) → is_live_cut J S f cut ≡ false
  cut-none cut none = any-none (λ s. s.live && (cut_of J s.at f == cut)) S (λ i s e. by s.live i s refl e)
    where
      by : (b : Bool) (i : ℕ) (s : Snapshot) → s.live ≡ b → slice_get S i ≡ Some s → (s.live && (cut_of J s.at f == cut)) ≡ false
      by false i s l e = ap (λ c. c && (cut_of J s.at f == cut)) l
      by true i s l e =
          let r = h.all (suc i) s e l in
          let same : snapshot_of r.0 ≡ s = some (sym (h.each r.1.at r.0 r.1.is) ∙ ap (entry S) r.2 ∙ e) in
          let apart : cut_of J s.at f ≢ cut = λ q. none r.1.at r.0 r.1.is (read r.1.at r.0 r.1.is ∙ ap (λ (z : Snapshot). cut_of J z.at f) same ∙ q) in
          ap (λ c. c && (cut_of J s.at f == cut)) l ∙ ne_eqb (cut_of J s.at f) cut apart

  -- ---- gathering

  abbrev pub seen : ℕ → List Snapshot
  seen n = map snapshot_of (take n live)

  module _ (from to last n : ℕ) (cuts : List ℕ) (r : LiveSnapshot) (at : slice_get live n ≡ Some r) (g : AreGathered J f from to last (seen n) cuts) where
    abbrev cut : ℕ
    cut = slice_index_or r.cuts f 0

    cut_is : cut ≡ cut_of J r.at f
    cut_is = read n r at

    map-push : (xs : List LiveSnapshot) (x : LiveSnapshot) → map snapshot_of (xs ++ x ∷ []) ≡ map snapshot_of xs ++ snapshot_of x ∷ []
    map-push [] x = refl
    map-push (y ∷ xs) x = ap (λ l. snapshot_of y ∷ l) (map-push xs x)

    more : seen n ++ snapshot_of r ∷ [] ≡ seen (n + 1)
    more =
        let one : suc n ≡ n + 1 = omega arith in
        sym (map-push (take n live) r)
        ∙ ap (λ x. map snapshot_of (take n live ++ x ∷ [])) (sym (get_or_from_slice_get live n r r at))
        ∙ ap (map snapshot_of) (sym (take-suc live n r (slice_get_within live n r at)))
        ∙ ap (λ m. map snapshot_of (take m live)) one

    seen_before : (xs : List LiveSnapshot) (k i : ℕ) (s : Snapshot) → slice_get (map snapshot_of (take k xs)) i ≡ Some s
        → (t : LiveSnapshot) × (slice_get xs i ≡ Some t) × (i < k) × (s ≡ snapshot_of t)
    seen_before [] zero i s e = absurd (cc)
    seen_before [] (suc k) i s e = absurd (cc)
    seen_before (x ∷ xs) zero i s e = absurd (cc)
    seen_before (x ∷ xs) (suc k) zero s e = (x, refl, omega arith, sym (some e))
    seen_before (x ∷ xs) (suc k) (suc i) s e = let o = seen_before xs k i s e in (o.0, o.1, omega (arith, o.2), o.3)

    before : EachEntry (λ i t. t.at ≤ r.at) (seen n)
    before zero s e = absurd (cc)
    before (suc i) s e =
        let o = seen_before live n i s e in
        let p = h.order i n o.0 r o.1 at o.2 in
        omega (arith, p.at, ap (λ (z : Snapshot). z.at) o.3)

    pub passed-low : cut ≤ last → AreGathered J f from to last (seen (n + 1)) cuts
    passed-low low =
        subst (λ l. AreGathered J f from to last l cuts) more
        (cut-left J f from to last (seen n) cuts (snapshot_of r) g before (inl (omega (arith, low, cut_is))))

    pub passed-high : to ≤ cut → AreGathered J f from to last (seen (n + 1)) cuts
    passed-high high =
        subst (λ l. AreGathered J f from to last l cuts) more
        (cut-left J f from to last (seen n) cuts (snapshot_of r) g before (inr (omega (arith, high, cut_is))))

    pub gathered-more : last < cut → cut < to → AreGathered J f from to cut (seen (n + 1)) (cuts ++ cut ∷ [])
    gathered-more above below =
        subst (λ c. AreGathered J f from to c (seen (n + 1)) (cuts ++ c ∷ [])) (sym cut_is)
        (subst (λ l. AreGathered J f from to (cut_of J r.at f) l (cuts ++ cut_of J r.at f ∷ [])) more
        (cut-taken J f from to last (seen n) cuts (snapshot_of r) g refl (omega (arith, above, cut_is)) (omega (arith, below, cut_is))))

  lives-seen : (xs : List LiveSnapshot) (k : ℕ) → total (λ s. bit s.live) (map snapshot_of (take k xs)) ≤ k
  lives-seen [] zero = omega arith
  lives-seen [] (suc k) = omega arith
  lives-seen (x ∷ xs) zero = omega arith
  lives-seen (x ∷ xs) (suc k) = omega (arith, lives-seen xs k)

  pub room-left : (from to last n : ℕ) (cuts : List ℕ) → AreGathered J f from to last (seen n) cuts → n < length live → length cuts < 64
  room-left from to last n cuts g lt = omega (arith, g.few, lives-seen live n, h.few, lt)

  take_all : (xs : List LiveSnapshot) → take (length xs) xs ≡ xs
  take_all [] = refl
  take_all (x ∷ xs) = ap (λ l. x ∷ l) (take_all xs)

  get-map : (xs : List LiveSnapshot) (i : ℕ) (r : LiveSnapshot) → slice_get xs i ≡ Some r → slice_get (map snapshot_of xs) i ≡ Some (snapshot_of r)
  get-map [] i r e = absurd (cc)
  get-map (x ∷ xs) zero r e = ap (λ (z : LiveSnapshot). Some (snapshot_of z)) (some e)
  get-map (x ∷ xs) (suc i) r e = get-map xs i r e

  get_map : (xs : List LiveSnapshot) (i : ℕ) (s : Snapshot) → slice_get (map snapshot_of xs) i ≡ Some s → (r : LiveSnapshot) × (slice_get xs i ≡ Some r) × (s ≡ snapshot_of r)
  get_map [] i s e = absurd (cc)
  get_map (x ∷ xs) zero s e = (x, refl, sym (some e))
  get_map (x ∷ xs) (suc i) s e = get_map xs i s e

  pub all-seen : (last n : ℕ) (file : FileMeta) → length live ≤ n → n ≤ length live → AreGathered J f file.from file.to last (seen n) file.bottom.cuts → HasLiveCuts J S f file
  all-seen last n file le ge given =
      let whole : n ≡ length live = omega (arith, le, ge) in
      let g : AreGathered J f file.from file.to last (map snapshot_of live) file.bottom.cuts =
      subst (λ l. AreGathered J f file.from file.to last (map snapshot_of l) file.bottom.cuts) (ap (λ k. take k live) whole ∙ take_all live) given in
      record {
        clear = λ m s e l.
            let r = h.all m s e l in
            let same : snapshot_of r.0 ≡ s = some (sym (h.each r.1.at r.0 r.1.is) ∙ ap (entry S) r.2 ∙ e) in
            subst (λ (z : Snapshot). IsClear (cut_of J z.at f) file) same (g.clear (suc r.1.at) (snapshot_of r.0) (get-map live r.1.at r.0 r.1.is) refl);
        live = λ cut i. let o = g.live cut i in by cut o.0 o.1 o.2 o.3;
        cuts = record {
          ascend = g.ascend;
          few = omega (arith, g.few, lives-seen live (length live), ap (λ l. total (λ (s : Snapshot). bit s.live) (map snapshot_of l)) (take_all live), h.few);
        };
      }
    where
      by : (cut m : ℕ) (s : Snapshot) → entry (map snapshot_of live) m ≡ Some s → IsCutOf J f cut s → (k : ℕ) × (t : Snapshot) × (entry S k ≡ Some t) × IsCutOf J f cut t
      by cut zero s e o = absurd (cc)
      by cut (suc m) s e o =
          let r = get_map live m s e in
          (r.0.id, snapshot_of r.0, h.each m r.0 r.1, subst (IsCutOf J f cut) r.2 o)

-- ---- reads of the code

split : (i n : ℕ) → i < n + 1 → (i < n) ⊎ (i ≡ n)
split i n lt = grind arith

pub none-more : (items : List LiveSnapshot) (f g wanted n : ℕ) (d : LiveSnapshot) → g ≡ f
    → slice_index_or (slice_index_or items n d).cuts g 0 ≢ wanted
    → ((i : ℕ) (r : LiveSnapshot) → i < n → slice_get items i ≡ Some r → slice_index_or r.cuts f 0 ≢ wanted)
    → (i : ℕ) (r : LiveSnapshot) → i < n + 1 → slice_get items i ≡ Some r → slice_index_or r.cuts f 0 ≢ wanted
none-more items f g wanted n d same here before i r lt e = ⊎_elim
    (λ o. before i r o e)
    (λ o q.
    let is : slice_index_or items n d ≡ r = get_or_from_slice_get items n r d (ap (slice_get items) (sym o) ∙ e) in
    here (ap (λ (z : LiveSnapshot). slice_index_or z.cuts g 0) is ∙ ap (λ k. slice_index_or r.cuts k 0) same ∙ q))
    (split i n lt)

pub entry-read : (S : List Snapshot) (id i : ℕ) (s d : Snapshot) → entry S id ≡ Some s → id ≡ i + 1 → slice_index_or S i d ≡ s
entry-read S id i s d e q = get_or_from_slice_get S i s d (subst (λ k. entry S k ≡ Some s) (let u : id ≡ suc i = omega (arith, q) in u) e)
