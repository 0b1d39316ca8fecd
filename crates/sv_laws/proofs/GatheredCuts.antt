-- Gathering the cuts of Live snapshots, one snapshot after the other.
use Rattle.std.proofs.Common.{◌≡◌, ◌<◌, ◌≤◌, ◌⊎◌, ℕ, inl, inr, ⊎_elim, true, false, List, [], ◌∷◌, ◌++◌, refl, sym, ap, ◌∙◌, subst, arith, length-append}
use Rattle.sv_model.specs.declared.writes.Write.{Write}
use Rattle.sv_model.specs.declared.records.FileMeta.{FileMeta}
use Rattle.sv_model.specs.declared.records.Snapshot.{Snapshot}
use Rattle.sv_model.specs.Lists.{In, bit, total}
use Rattle.sv_model.specs.Flat.{CutsFrom}
use Rattle.sv_model.specs.Registers.{EachEntry}
use Rattle.sv_model.specs.Snapshots.{cut_of}
use Rattle.sv_model.proofs.Lists.{total-push}
use Rattle.sv_model.proofs.Registers.{entry_push}
use Rattle.sv_laws.specs.Snapping.{AreGathered, HasLiveCuts, IsCutOf}
use Rattle.sv_model.proofs.Entries.{in-none, in-cons, in-suc, in-left, in-right, in_append, entry_none, has-old, has-new}
use Rattle.sv_laws.proofs.CutLaws.{cut-ascend}
use Rattle.sv_laws.proofs.Apart.{false_true}

cuts-push : (cuts : List ℕ) (low high cut : ℕ) → low < cut → ((c : ℕ) → In c cuts → c < cut) → cut < high
    → CutsFrom low cuts high → CutsFrom low (cuts ++ cut ∷ []) high
cuts-push [] low high cut above each below h = (omega (arith, above), omega (arith, below), tt)
cuts-push (c ∷ cuts) low high cut above each below h = (
  h.0,
  h.1,
  cuts-push cuts c high cut (each c (record { at = 0; is = refl })) (λ d i. each d (in-suc d c cuts i)) below h.2,
)

module _ (journal : List Write) (family from to : ℕ) where
  abbrev cut : Snapshot → ℕ
  cut s = cut_of journal s.at family

  pub none-gathered : AreGathered journal family from to from [] []
  none-gathered = record {
    ascend = tt;
    begins = omega arith;
    greatest = λ c i. absurd (in-none c i);
    last_is = inl refl;
    live = λ c i. absurd (in-none c i);
    clear = λ n s e. absurd (entry_none n s e);
    few = omega arith;
  }

  module _ (last : ℕ) (seen : List Snapshot) (cuts : List ℕ) (s : Snapshot) (h : AreGathered journal family from to last seen cuts) where
    -- one more snapshot, with no cut more
    left : (s.live ≡ true → In (cut s) cuts ⊎ ((to ≤ cut s) ⊎ (cut s ≤ from)))
        → AreGathered journal family from to last (seen ++ s ∷ []) cuts
    left out = record {
      ascend = h.ascend;
      begins = h.begins;
      greatest = h.greatest;
      last_is = h.last_is;
      live = λ c i. has-old (IsCutOf journal family c) seen s (h.live c i);
      clear = λ n t e l. ⊎_elim
          (λ o. h.clear n t o l)
          (λ o. subst (λ (z : Snapshot). In (cut z) cuts ⊎ ((to ≤ cut z) ⊎ (cut z ≤ from))) (sym o.1) (out (ap (λ (z : Snapshot). z.live) (sym o.1) ∙ l)))
          (entry_push seen s n t e);
      few = omega (arith, h.few, total-push (λ (t : Snapshot). bit t.live) seen s);
    }

    pub gone-left : s.live ≡ false → AreGathered journal family from to last (seen ++ s ∷ []) cuts
    gone-left gone = left (λ l. false_true (sym gone ∙ l))

    -- a cut that is not above the last one, or not inside the range
    pub cut-left : EachEntry (λ n t. t.at ≤ s.at) seen → (cut s ≤ last) ⊎ (to ≤ cut s)
        → AreGathered journal family from to last (seen ++ s ∷ []) cuts
    cut-left later out = left (λ l. ⊎_elim
        (λ low. ⊎_elim
        (λ first. inr (inr (omega (arith, low, first))))
        (λ i.
        let t = h.live last i in
        let up = cut-ascend journal family t.1.at s.at (later t.0 t.1 t.2) in
        let same : last ≡ cut s = omega (arith, low, up, t.3.is) in
        inl (subst (λ c. In c cuts) same i))
        h.last_is)
        (λ high. inr (inl high))
        out)

    -- a cut more
    pub cut-taken : s.live ≡ true → last < cut s → cut s < to
        → AreGathered journal family from to (cut s) (seen ++ s ∷ []) (cuts ++ cut s ∷ [])
    cut-taken live above below = record {
      ascend = cuts-push cuts from to (cut s) (omega (arith, h.begins, above))
          (λ c i. omega (arith, h.greatest c i, above)) below h.ascend;
      begins = omega (arith, h.begins, above);
      greatest = λ c i. ⊎_elim
          (λ o. omega (arith, h.greatest c o, above))
          (λ o. omega (arith, new c o))
          (in_append c cuts (cut s ∷ []) i);
      last_is = inr (in-right (cut s) cuts (cut s ∷ []) (record { at = 0; is = refl }));
      live = λ c i. ⊎_elim
          (λ o. has-old (IsCutOf journal family c) seen s (h.live c o))
          (λ o. has-new (IsCutOf journal family c) seen s (record { live = live; is = sym (new c o) }))
          (in_append c cuts (cut s ∷ []) i);
      clear = λ n t e l. ⊎_elim
          (λ o. ⊎_elim (λ p. inl (in-left (cut t) cuts (cut s ∷ []) p)) (λ p. inr p) (h.clear n t o l))
          (λ o. inl (subst (λ (z : Snapshot). In (cut z) (cuts ++ cut s ∷ [])) (sym o.1) (in-right (cut s) cuts (cut s ∷ []) (record { at = 0; is = refl }))))
          (entry_push seen s n t e);
      few = omega
          (arith, h.few, total-push (λ (t : Snapshot). bit t.live) seen s, length-append cuts (cut s ∷ []), ap bit live);
    }
      where
        new : (c : ℕ) → In c (cut s ∷ []) → c ≡ cut s
        new c o = ⊎_elim (λ q. q) (λ q. absurd (in-none c q)) (in-cons c (cut s) [] o)

-- when all were seen
pub all-gathered : (journal : List Write) (family last : ℕ) (snapshots : List Snapshot) (file : FileMeta)
    → total (λ s. bit s.live) snapshots ≤ 64
    → AreGathered journal family file.from file.to last snapshots file.bottom.cuts → HasLiveCuts journal snapshots family file
all-gathered journal family last snapshots file most h = record {
  clear = h.clear;
  live = h.live;
  cuts = record { ascend = h.ascend; few = omega (arith, h.few, most) };
}
