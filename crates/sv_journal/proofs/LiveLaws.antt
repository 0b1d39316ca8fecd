-- The Live snapshots: one more, one fewer, and where one stands.
use Rattle.std.proofs.Common.{◌≡◌, ◌≢◌, ◌<◌, ◌≤◌, ◌+◌, ◌⊎◌, inl, inr, ⊎_elim, ℕ, zero, suc, Bool, true, false, List, [], ◌∷◌, ◌++◌, length, Option, Some, None, refl, sym, ap, ◌∙◌, subst, arith, length-append}
use Rattle.std.specs.Prelude.{slice_get, unwrap_or, option_map}
use Rattle.std.specs.List.{remove}
use Rattle.std.proofs.lemmas.List.Edits.{length-remove}
use Rattle.sv_model.specs.declared.writes.Write.{Write}
use Rattle.sv_model.specs.declared.records.Snapshot.{Snapshot}
use Rattle.sv_model.specs.Lists.{In, bit}
use Rattle.sv_model.specs.Registers.{entry, change}
use Rattle.sv_model.proofs.Lists.{total-push}
use Rattle.sv_model.proofs.Registers.{entry-old, entry-new, entry_push, entry_le, entry-else, entry_change, total-change, length-change}
use Rattle.sv_laws.proofs.CutLaws.{cut-now}
use Rattle.sv_laws.proofs.GrownRegisters.{get_within}
use Rattle.sv_model.proofs.Entries.{some, every_push, in-left, in-right}
use Rattle.sv_laws.proofs.Apart.{false_true}
use Rattle.sv_journal.specs.declared.live.LiveSnapshot.{LiveSnapshot}
use Rattle.sv_journal.specs.Calls.{IsNewest, is_live_snapshot}
use Rattle.sv_journal.specs.Kept.{AreCounts, AreLive, HasCuts, IsNone, IsPlaceOf, Precedes, snapshot_of}

-- ---- a list without one item

pub remove_get : {A : Type 0} (xs : List A) (i j : ℕ) (x : A) → slice_get (remove xs i) j ≡ Some x
    → (k : ℕ) × (slice_get xs k ≡ Some x) × (((j < i) × (k ≡ j)) ⊎ ((i ≤ j) × (k ≡ suc j)))
remove_get [] zero j x e = absurd (cc)
remove_get [] (suc i) j x e = absurd (cc)
remove_get (y ∷ xs) zero j x e = (suc j, e, inr (omega arith, refl))
remove_get (y ∷ xs) (suc i) zero x e = (zero, e, inl (omega arith, refl))
remove_get (y ∷ xs) (suc i) (suc j) x e =
    let h = remove_get xs i j x e in
    (suc h.0, h.1, ⊎_elim (λ o. inl (omega (arith, o.0), ap suc o.1)) (λ o. inr (omega (arith, o.0), ap suc o.1)) h.2)

pub get-remove : {A : Type 0} (xs : List A) (i k : ℕ) (x : A) → slice_get xs k ≡ Some x → k ≢ i → In x (remove xs i)
get-remove [] i k x e apart = absurd (cc)
get-remove (y ∷ xs) zero zero x e apart = absurd (apart refl)
get-remove (y ∷ xs) zero (suc k) x e apart = record { at = k; is = e }
get-remove (y ∷ xs) (suc i) zero x e apart = record { at = zero; is = e }
get-remove (y ∷ xs) (suc i) (suc k) x e apart =
    let h = get-remove xs i k x e (λ q. apart (ap suc q)) in record { at = suc h.at; is = h.is }

-- ---- whether a number is that of a Live snapshot

live-in : (o : Option Snapshot) → (unwrap_or (option_map (λ (s : Snapshot). s.live) o) false ≡ false) ⊎ ((s : Snapshot) × (o ≡ Some s) × (s.live ≡ true))
live-in None = inl refl
live-in (Some s) = by s.live refl
  where
    by : (b : Bool) → s.live ≡ b → (s.live ≡ false) ⊎ ((t : Snapshot) × (Some s ≡ Some t) × (t.live ≡ true))
    by true e = inr (s, refl, e)
    by false e = inl e

module _ (J : List Write) (S : List Snapshot) (live : List LiveSnapshot) (h : AreLive J S live) where
  pub none-live : (id : ℕ) → IsNone live id → is_live_snapshot S id ≡ false
  none-live id none = ⊎_elim
      (λ e. e)
      (λ o. let r = h.all id o.0 o.1 o.2 in absurd (none r.1.at r.0 r.1.is r.2))
      (live-in (entry S id))

  pub place-entry : (id p : ℕ) (q : IsPlaceOf live id p) → entry S id ≡ Some (snapshot_of q.it)
  place-entry id p q = ap (entry S) (sym q.is) ∙ h.each p q.it q.at

  pub place-live : (id p : ℕ) → IsPlaceOf live id p → is_live_snapshot S id ≡ true
  place-live id p q = ap (λ o. unwrap_or (option_map (λ (s : Snapshot). s.live) o) false) (place-entry id p q)

  -- ---- the last one

  pub newest-live : (n : ℕ) (r : LiveSnapshot) → n + 1 ≡ length live → slice_get live n ≡ Some r → IsNewest S r.id
  newest-live n r last at = record {
    it = snapshot_of r;
    found = h.each n r at;
    live = refl;
    last = λ m s e l.
        let t = h.all m s e l in
        ⊎_elim
        (λ lt. let o = h.order t.1.at n t.0 r t.1.is at lt in omega (arith, o.id, t.2))
        (λ q. let same : t.0 ≡ r = some (sym t.1.is ∙ ap (slice_get live) q ∙ at) in omega (arith, t.2, ap (λ (z : LiveSnapshot). z.id) same))
        (before t.1.at n (get_within live t.1.at t.0 t.1.is) last);
  }
    where
      before : (i k : ℕ) → i < length live → k + 1 ≡ length live → (i < k) ⊎ (i ≡ k)
      before i k lt e = grind arith

  -- ---- one more

  module _ (counts : List ℕ) (c : AreCounts J counts) (few : length S < 1048576) (room : length live < 64) where
    abbrev pub next : LiveSnapshot
    next = record { id = length S + 1; at = length J; cuts = counts }

    pub live-more : AreLive J (S ++ record { at = length J; live = true } ∷ []) (live ++ next ∷ [])
    live-more = record {
      each = λ i r e. ⊎_elim
          (λ o. entry-old S (snapshot_of next ∷ []) r.id (snapshot_of r) (h.each i r o))
          (λ o. subst (λ (z : LiveSnapshot). entry (S ++ snapshot_of next ∷ []) z.id ≡ Some (snapshot_of z)) (sym o.1) (entry-new S (snapshot_of next) (length S + 1) refl))
          (entry_push live next (suc i) r e);
      all = λ n s e l. ⊎_elim
          (λ o. let r = h.all n s o l in (r.0, in-left r.0 live (next ∷ []) r.1, r.2))
          (λ o. (next, in-right next live (next ∷ []) (record { at = 0; is = refl }), sym o.0))
          (entry_push S (snapshot_of next) n s e);
      order = λ i j r t e g lt. ⊎_elim
          (λ o. ⊎_elim
          (λ p. h.order i j r t o p lt)
          (λ p. subst (Precedes r) (sym p.1) (record {
            id = omega (arith, (entry_le S r.id (snapshot_of r) (h.each i r o)).1);
            at = (h.cuts i r o).within;
          }))
          (entry_push live next (suc j) t g))
          (λ o. absurd (omega (arith, o.0, lt, get_within (live ++ next ∷ []) j t g, length-append live (next ∷ []))))
          (entry_push live next (suc i) r e);
      cuts = every_push (HasCuts J) live next h.cuts (record {
        within = omega arith;
        cuts = λ f within. c f within ∙ ap Some (sym (cut-now J f));
      });
      count = omega (arith, h.count, length-append live (next ∷ []), total-push (λ (s : Snapshot). bit s.live) S (snapshot_of next));
      few = omega (arith, room, length-append live (next ∷ []));
      made = omega (arith, few, length-append S (snapshot_of next ∷ []));
    }

  -- ---- one fewer

  module _ (id p : ℕ) (q : IsPlaceOf live id p) (y : Snapshot) (gone : y.live ≡ false) where
    others : (k : ℕ) (r : LiveSnapshot) → slice_get live k ≡ Some r → k ≢ p → r.id ≢ id
    others k r e apart same = by (grind arith)
      where
        by : (k < p) ⊎ (p < k) → ⊥
        by (inl lt) = let o = h.order k p r q.it e q.at lt in omega (arith, o.id, same, q.is)
        by (inr lt) = let o = h.order p k q.it r q.at e lt in omega (arith, o.id, same, q.is)

    away : (i j k : ℕ) → ((j < i) × (k ≡ j)) ⊎ ((i ≤ j) × (k ≡ suc j)) → k ≢ i
    away i j k = ⊎_elim (λ o e. omega (arith, o.0, o.1, e)) (λ o e. omega (arith, o.0, o.1, e))

    rises : (i j k m n : ℕ) → j < m → ((j < i) × (k ≡ j)) ⊎ ((i ≤ j) × (k ≡ suc j)) → ((m < i) × (n ≡ m)) ⊎ ((i ≤ m) × (n ≡ suc m)) → k < n
    rises i j k m n lt = ⊎_elim
        (λ o. ⊎_elim (λ u. omega (arith, o.1, u.1, lt)) (λ u. omega (arith, o.1, u.1, lt)))
        (λ o. ⊎_elim (λ u. omega (arith, o.0, u.0, lt)) (λ u. omega (arith, o.1, u.1, lt)))

    pub live-fewer : AreLive J (change S id y) (remove live p)
    live-fewer = record {
      each = λ i r e.
          let k = remove_get live p i r e in
          entry-else S id r.id y (others k.0 r k.1 (away p i k.0 k.2)) ∙ h.each k.0 r k.1;
      all = λ n s e l. ⊎_elim
          (λ o. false_true (sym gone ∙ ap (λ (z : Snapshot). z.live) (sym o.1) ∙ l))
          (λ o.
          let r = h.all n s o.1 l in
          (r.0, get-remove live p r.1.at r.0 r.1.is (λ e. o.0 (sym r.2 ∙ ap (λ (z : LiveSnapshot). z.id) (some (sym r.1.is ∙ ap (slice_get live) e ∙ q.at)) ∙ q.is)), r.2))
          (entry_change S id n y s e);
      order = λ i j r t e g lt.
          let k = remove_get live p i r e in
          let m = remove_get live p j t g in
          h.order k.0 m.0 r t k.1 m.1 (rises p i k.0 j m.0 lt k.2 m.2);
      cuts = λ i r e. let k = remove_get live p i r e in h.cuts k.0 r k.1;
      count = omega (
        arith,
        h.count,
        length-remove live p (get_within live p q.it q.at),
        total-change (λ (s : Snapshot). bit s.live) S id (snapshot_of q.it) y (place-entry id p q),
        ap bit gone,
      );
      few = omega (arith, h.few, length-remove live p (get_within live p q.it q.at));
      made = omega (arith, h.made, length-change S id y);
    }
