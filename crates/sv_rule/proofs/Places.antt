-- How the ledger goes from step to step, by the reference words, the holders and the owers alone.
use Rattle.std.proofs.Common.{List, Some, [], ap, arith, inl, inr, length, subst, suc, sym, true, zero, ℕ, ⊎_elim, ◌*◌, ◌++◌, ◌+◌, ◌<◌, ◌∙◌, ◌∷◌, ◌≡◌, ◌≢◌, ◌≤◌, ◌⊎◌}
use mathlib.Core.Logic.{dite}
use native.Mathlib.Decide.{ℕ_discrete}
use Rattle.sv_model.specs.Registers.{entry}
use Rattle.sv_model.specs.declared.records.SuperVersion.{SuperVersion}
use Rattle.sv_model.proofs.Basics.{none_some}
use Rattle.sv_model.proofs.Registers.{entry-new, entry-old, entry_push}
use Rattle.sv_rule.specs.Ledger.{Counted, Places, Vacant}
use Rattle.sv_model.specs.Supers.{LiveAt, pack}
use Rattle.sv_rule.specs.Table.{word}
use Rattle.sv_rule.proofs.Basics.{some_is}

live_pos : (b : List SuperVersion) (t k : ℕ) → LiveAt b t k → 0 < t
live_pos b zero k l = absurd (none_some l.sv l.is)
live_pos b (suc t) k l = omega arith

-- where nothing is changed at a place, it stays as it was
pub place_same : (b b' : List SuperVersion) (r r' : ℕ) (h h' o o' : ℕ → ℕ) (k : ℕ) → r' ≡ r
    → ((t : ℕ) → 0 < t → h' (pack t k) ≡ h (pack t k)) → ((t : ℕ) → 0 < t → o' (pack t k) ≡ o (pack t k))
    → ((t : ℕ) → LiveAt b' t k → LiveAt b t k) → ((t : ℕ) → LiveAt b t k → LiveAt b' t k) → Vacant b h o k r
    ⊎ Counted b h o k r → Vacant b' h' o' k r' ⊎ Counted b' h' o' k r'
place_same b b' r₀ r₁ h h' o o' k r hs os back on = ⊎_elim
    (λ (v : Vacant b h o k r₀). inl record {
      word = r ∙ v.word;
      dead = λ t l. v.dead t (back t l);
      unheld = λ t z. hs t z ∙ v.unheld t z;
      unowed = λ t z. os t z ∙ v.unowed t z;
    })
    (λ (c : Counted b h o k r₀). let z = live_pos b c.serial k c.live in let e = hs c.serial z in
    let f = os c.serial z in inr record {
      serial = c.serial;
      word = omega (arith, r, c.word);
      live = on c.serial c.live;
      only = λ t l. c.only t (back t l);
      others_unheld = λ t y n. hs t y ∙ c.others_unheld t y n;
      others_unowed = λ t y n. os t y ∙ c.others_unowed t y n;
      owed = λ y. f ∙ c.owed (sym e ∙ y);
      unowed = λ y. f ∙ c.unowed (omega arith);
    })

module _ (b : List SuperVersion) (ref ref' h h' o o' : ℕ → ℕ) where
  pub places_same : ((k : ℕ) → k < 256 → ref' k ≡ ref k) → ((q : ℕ) → 256 ≤ q → h' q ≡ h q)
      → ((q : ℕ) → 256 ≤ q → o' q ≡ o q) → Places b ref h o → Places b ref' h' o'
  places_same rs hs os ps k l = place_same b b (ref k) (ref' k) h h' o o' k (rs k l)
      (λ t z. hs (pack t k) (omega arith)) (λ t z. os (pack t k) (omega arith)) (λ t y. y) (λ t y. y) (ps k l)

  -- a place with a holder
  pub held_place : Places b ref h o → (t k : ℕ) → 0 < t → k < 256 → 0 < h (pack t k)
      → (ref k ≡ t * 4294967296 + h (pack t k)) × LiveAt b t k × (o (pack t k) ≡ 0)
  held_place ps t k z l held = ⊎_elim
      (λ (v : Vacant b h o k (ref k)). absurd (omega (arith, v.unheld t z)))
      (λ (c : Counted b h o k (ref k)). dite (ℕ_discrete t c.serial)
      (λ e. (
        c.word ∙ ap (λ (x : ℕ). x * 4294967296 + h (pack x k)) (sym e),
        subst (λ (x : ℕ). LiveAt b x k) (sym e) c.live,
        ap (λ (x : ℕ). o (pack x k)) e ∙ c.unowed (subst (λ (x : ℕ). 0 < h (pack x k)) e held),
      ))
      (λ n. absurd (omega (arith, c.others_unheld t z n))))
      (ps k l)

  -- one pack has other holders, or an ower, and its place another word
  pub places_at : Places b ref h o → (t k : ℕ) → 0 < t → k < 256 → ((j : ℕ) → j ≢ k → ref' j ≡ ref j)
      → ((q : ℕ) → q ≢ pack t k → h' q ≡ h q) → ((q : ℕ) → q ≢ pack t k → o' q ≡ o q)
      → 0 < h (pack t k) → ref' k ≡ t * 4294967296 + h' (pack t k) → (h' (pack t k) ≡ 0 → o' (pack t k) ≡ 1)
      → (0 < h' (pack t k) → o' (pack t k) ≡ 0) → Places b ref' h' o'
  places_at ps t k z l rs hs os held word owed unowed j m = dite (ℕ_discrete j k)
      (λ e. subst (λ (x : ℕ). Vacant b h' o' x (ref' x) ⊎ Counted b h' o' x (ref' x)) (sym e)
      (⊎_elim (λ (v : Vacant b h o k (ref k)). absurd (omega (arith, v.unheld t z)))
      (λ (c : Counted b h o k (ref k)). dite (ℕ_discrete t c.serial)
      (λ s. inr record {
        serial = t;
        word = word;
        live = subst (λ (x : ℕ). LiveAt b x k) (sym s) c.live;
        only = λ u l. c.only u l ∙ sym s;
        others_unheld = λ u y n. hs (pack u k) (λ w. n (omega arith)) ∙ c.others_unheld u y (λ w. n (w ∙ sym s));
        others_unowed = λ u y n. os (pack u k) (λ w. n (omega arith)) ∙ c.others_unowed u y (λ w. n (w ∙ sym s));
        owed = owed;
        unowed = unowed;
      })
      (λ n. absurd (omega (arith, c.others_unheld t z n))))
      (ps k l)))
      (λ n. place_same b b (ref j) (ref' j) h h' o o' j (rs j n) (λ u y. hs (pack u j) (λ w. n (omega arith)))
      (λ u y. os (pack u j) (λ w. n (omega arith))) (λ u y. y) (λ u y. y) (ps j m))

one_place : (supers : List SuperVersion) (t j k : ℕ) → LiveAt supers t j → LiveAt supers t k → j ≡ k
one_place supers t j k l m = sym l.place_is ∙ (ap (λ (x : SuperVersion). x.place) (some_is (sym l.is ∙ m.is))
    ∙ m.place_is)

-- a place is closed, when nothing holds its SuperVersion any more
pub places_close : (supers supers' : List SuperVersion) (ref ref' h h' o o' : ℕ → ℕ) (t k : ℕ) → 0 < t → k < 256
    → LiveAt supers t k → Places supers ref h o → 0 < o (pack t k) → ((j : ℕ) → j ≢ k → ref' j ≡ ref j) → ref' k ≡ 0
    → ((q : ℕ) → h' q ≡ h q) → ((q : ℕ) → q ≢ pack t k → o' q ≡ o q) → o' (pack t k) + 1 ≡ o (pack t k)
    → ((u j : ℕ) → LiveAt supers' u j → (u ≢ t) × LiveAt supers u j)
    → ((u j : ℕ) → u ≢ t → LiveAt supers u j → LiveAt supers' u j) → Places supers' ref' h' o'
places_close supers supers' ref ref' h h' o o' t k pos near was ps owed rs word hs os one back on j l = dite
    (ℕ_discrete j k)
    (λ e. subst (λ (x : ℕ). Vacant supers' h' o' x (ref' x) ⊎ Counted supers' h' o' x (ref' x)) (sym e)
    (⊎_elim (λ (v : Vacant supers h o k (ref k)). absurd (omega (arith, v.unowed t pos)))
    (λ (c : Counted supers h o k (ref k)). dite (ℕ_discrete t c.serial)
    (λ s. let free : h (pack t k) ≡ 0 = dite (ℕ_discrete (h (pack t k)) 0) (λ z. z)
    (λ z. absurd (omega (
      arith,
      ap (λ (x : ℕ). o (pack x k)) s,
      c.unowed (omega (arith, ap (λ (x : ℕ). h (pack x k)) s)),
    ))) in
    let single : o (pack t k) ≡ 1 = ap (λ (x : ℕ). o (pack x k)) s
    ∙ c.owed (ap (λ (x : ℕ). h (pack x k)) (sym s) ∙ free) in inl record {
      word = word;
      dead = λ u y. let z = back u k y in z.0 (c.only u z.1 ∙ sym s);
      unheld = λ u y. hs (pack u k) ∙ dite (ℕ_discrete u t) (λ z. ap (λ (x : ℕ). h (pack x k)) z ∙ free)
          (λ n. c.others_unheld u y (λ z. n (z ∙ sym s)));
      unowed = λ u y. dite (ℕ_discrete u t) (λ z. ap (λ (x : ℕ). o' (pack x k)) z ∙ omega (arith, one, single))
          (λ n. os (pack u k) (λ z. n (omega arith)) ∙ c.others_unowed u y (λ z. n (z ∙ sym s)));
    })
    (λ n. absurd (omega (arith, c.others_unowed t pos n))))
    (ps k near)))
    (λ n. ⊎_elim
    (λ (v : Vacant supers h o j (ref j)). inl record {
      word = rs j n ∙ v.word;
      dead = λ u y. v.dead u (back u j y).1;
      unheld = λ u z. hs (pack u j) ∙ v.unheld u z;
      unowed = λ u z. os (pack u j) (λ w. n (omega arith))
          ∙ v.unowed u z;
    })
    (λ (c : Counted supers h o j (ref j)). let z = live_pos supers c.serial j c.live in inr record {
      serial = c.serial;
      word = omega (arith, rs j n, c.word, hs (pack c.serial j));
      live = dite (ℕ_discrete c.serial t) (λ s. absurd (n
          (one_place supers t j k (subst (λ (x : ℕ). LiveAt supers x j) s c.live) was))) (λ s. on c.serial j s c.live);
      only = λ u y. c.only u (back u j y).1;
      others_unheld = λ u y m. hs (pack u j) ∙ c.others_unheld u y m;
      others_unowed = λ u y m. os (pack u j) (λ w. n (omega arith)) ∙ c.others_unowed u y m;
      owed = λ y. os (pack c.serial j) (λ w. n (omega arith)) ∙ c.owed (sym (hs (pack c.serial j)) ∙ y);
      unowed = λ y. os (pack c.serial j) (λ w. n (omega arith)) ∙ c.unowed (omega (arith, hs (pack c.serial j)));
    })
    (ps j l))

-- the SuperVersion of serial t is new, at place k, where none was Live
pub record IsOpened (old new : List SuperVersion) (t k : ℕ) : Type 0 where
  pub sv : SuperVersion
  pub is_new : new ≡ old ++ sv ∷ []
  pub serial : t ≡ length old + 1
  pub live : sv.live ≡ true
  pub place : sv.place ≡ k
  pub free : (u : ℕ) → LiveAt old u k → ⊥

-- a place is opened, with one holder
module _ (supers supers' : List SuperVersion) (ref ref' h h' o o' : ℕ → ℕ) (t k : ℕ)
    (opened : IsOpened supers supers' t k) where
  longer : (u j : ℕ) → LiveAt supers u j → LiveAt supers' u j
  longer u j l = record {
    sv = l.sv;
    is = ap (λ (x : List SuperVersion). entry x u) opened.is_new
        ∙ entry-old supers (opened.sv ∷ []) u l.sv l.is;
    live = l.live;
    place_is = l.place_is;
  }

  pushed : (u j : ℕ) (l : LiveAt supers' u j) → (entry supers u ≡ Some l.sv)
      ⊎ ((u ≡ length supers + 1) × (l.sv ≡ opened.sv))
  pushed u j l = entry_push supers opened.sv u l.sv (ap (λ (x : List SuperVersion). entry x u) (sym opened.is_new)
      ∙ l.is)

  shorter : (u j : ℕ) → j ≢ k → LiveAt supers' u j → LiveAt supers u j
  shorter u j n l = ⊎_elim (λ e. record { sv = l.sv; is = e; live = l.live; place_is = l.place_is })
      (λ e. absurd (n (sym l.place_is ∙ (ap (λ (x : SuperVersion). x.place) e.1 ∙ opened.place))))
      (pushed u j l)

  only_new : (u : ℕ) → LiveAt supers' u k → u ≡ t
  only_new u l = ⊎_elim (λ e. absurd (opened.free u record {
    sv = l.sv;
    is = e;
    live = l.live;
    place_is = l.place_is;
  })) (λ e. e.0 ∙ sym opened.serial) (pushed u k l)

  newest : LiveAt supers' t k
  newest = record {
    sv = opened.sv;
    is = ap (λ (x : List SuperVersion). entry x t) opened.is_new
        ∙ entry-new supers opened.sv t opened.serial;
    live = opened.live;
    place_is = opened.place;
  }

  pub places_open : Places supers ref h o → k < 256 → ((j : ℕ) → j ≢ k → ref' j ≡ ref j)
      → ((q : ℕ) → q ≢ pack t k → h' q ≡ h q) → ((q : ℕ) → o' q ≡ o q) → h' (pack t k) ≡ h (pack t k) + 1
      → ref' k ≡ t * 4294967296 + 1 → Places supers' ref' h' o'
  places_open ps l rs hs os one word j m = dite (ℕ_discrete j k)
      (λ e. subst (λ (x : ℕ). Vacant supers' h' o' x (ref' x) ⊎ Counted supers' h' o' x (ref' x)) (sym e)
      (⊎_elim (λ (v : Vacant supers h o k (ref k)). let z : 0 < t = omega (arith, opened.serial) in inr record {
        serial = t;
        word = omega (arith, word, one, v.unheld t z);
        live = newest;
        only = λ u l. only_new u l;
        others_unheld = λ u y n. hs (pack u k) (λ w. n (omega arith)) ∙ v.unheld u y;
        others_unowed = λ u y n. os (pack u k) ∙ v.unowed u y;
        owed = λ y. absurd (omega (arith, one));
        unowed = λ y. os (pack t k) ∙ v.unowed t z;
      })
      (λ (c : Counted supers h o k (ref k)). absurd (opened.free c.serial c.live)) (ps k l)))
      (λ n. place_same supers supers' (ref j) (ref' j) h h' o o' j (rs j n)
      (λ u y. hs (pack u j) (λ w. n (omega arith))) (λ u y. os (pack u j)) (λ u. shorter u j n) (λ u. longer u j)
      (ps j m))
