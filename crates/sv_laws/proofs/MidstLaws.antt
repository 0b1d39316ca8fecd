-- In the midst of a cleanup: one memtable and one file looked at.
use Rattle.std.proofs.Common.{◌≡◌, ◌≢◌, ◌<◌, ◌≤◌, ℕ, suc, ◌⊎◌, inl, inr, ⊎_elim, Bool, true, false, cond, List, [], ◌∷◌, ◌++◌, length, Some, refl, sym, ap, ◌∙◌, subst, arith}
use Rattle.std.specs.Prelude.{slice_get, ◌↔◌}
use mathlib.Core.Logic.{dite}
use native.Mathlib.Decide.{ℕ_discrete}
use Rattle.sv_model.specs.declared.records.Memtable.{Memtable}
use Rattle.sv_model.specs.declared.records.MemtableList.{MemtableList}
use Rattle.sv_model.specs.declared.records.Version.{Version}
use Rattle.sv_model.specs.declared.records.RegisteredFile.{RegisteredFile}
use Rattle.sv_model.specs.declared.records.FileStatus.TheVariants.{Live, Obsolete}
use Rattle.sv_model.specs.Lists.{In, Distinct, total, times, same}
use Rattle.sv_model.specs.Named.{HasMember, HasFile, numbers_of, IsLive, memtable_live}
use Rattle.sv_model.specs.Registers.{entry, change, Has, EachEntry}
use Rattle.sv_model.specs.After.{KeepsMemtable}
use Rattle.sv_model.specs.Numbers.{registered, IsMarked}
use Rattle.sv_model.proofs.Lists.{times_in, in_times}
use Rattle.sv_model.proofs.Registers.{entry-same, entry-else, entry_change, entry_push, total_entry, has_total, goes-change, goes-on, length-change}
use Rattle.sv_model.proofs.AfterLaws.{memtable-itself}
use Rattle.sv_model.proofs.NumberLaws.{one_entry}
use Rattle.sv_model.proofs.Entries.{some, in-cons, in-none, in-left, in-right, in_append}
use Rattle.sv_laws.specs.Midst.{Midst, MidstFiles}
use Rattle.sv_laws.specs.Cleaning.{Went, Ends, EndsFiles}
use Rattle.sv_laws.proofs.Settled.{marked_entry}
use Rattle.sv_laws.proofs.Registers.{goes-back, live-back, total-same}
use Rattle.sv_laws.proofs.EndsLaws.{ends-of}
use Rattle.sv_laws.proofs.Apart.{false_true, live_obsolete}

-- ---- is it named at all

-- whether a record is so, where a count tells
has-or-not : {A : Type 0} (P : A → Type 0) (w : A → ℕ) (l : List A) → ((x : A) → 0 < w x → P x)
    → ((x : A) → P x → 0 < w x) → Has P l ⊎ (Has P l → ⊥)
has-or-not P w l to from = dite (ℕ_discrete (total w l) 0)
    (λ q. inr (λ h. omega (arith, total_entry w l h.0 h.1 h.2, from h.1 h.3, q)))
    (λ q. inl (let h = has_total w l (omega arith) in (h.0, h.1, h.2, to h.1 h.3)))

counted : (b : Bool) (n : ℕ) → 0 < cond b n 0 → (b ≡ true) × (0 < n)
counted true n h = (refl, h)
counted false n h = absurd (omega arith)

count-of : (b : Bool) (n : ℕ) → b ≡ true → 0 < n → 0 < cond b n 0
count-of b n e h = omega (arith, h, ap (λ c. cond c n 0) e)

pub member-or-not : (m : ℕ) (l : List MemtableList) → Has (HasMember m) l ⊎ (Has (HasMember m) l → ⊥)
member-or-not m l = has-or-not (HasMember m) (λ z. cond z.live (times m z.members) 0) l
    (λ z h. let c = counted z.live (times m z.members) h in record { live = c.0; has = in_times m z.members c.1 })
    (λ z h. count-of z.live (times m z.members) h.live (times_in m z.members h.has))

pub file-or-not : (n : ℕ) (l : List Version) → Has (HasFile n) l ⊎ (Has (HasFile n) l → ⊥)
file-or-not n l = has-or-not (HasFile n) (λ z. cond z.live (times n (numbers_of z.files)) 0) l
    (λ z h. let c = counted z.live (times n (numbers_of z.files)) h in record { live = c.0; has = in_times n (numbers_of z.files) c.1 })
    (λ z h. count-of z.live (times n (numbers_of z.files)) h.live (times_in n (numbers_of z.files) h.has))

-- ---- one memtable looked at

module _ (Named : ℕ → Type 0) (old now : List Memtable) (m : ℕ) (left cells : List ℕ) (h : Midst Named old now (m ∷ left) cells) where
  rest-of : (n : ℕ) → (n ≡ m → Named n) → Named n ⊎ In n (m ∷ left) → Named n ⊎ In n left
  rest-of n here c = ⊎_elim (λ q. inl q) (λ i. ⊎_elim (λ q. inl (here q)) (λ j. inr j) (in-cons n m left i)) c

  pub midst-named : Named m → Midst Named old now left cells
  midst-named p = record {
    long = h.long;
    goes = h.goes;
    live = λ n w. rest-of n (λ q. subst Named (sym q) p) (h.live n w);
    named = h.named;
    went = h.went;
  }

  pub midst-gone : (IsLive memtable_live now m → ⊥) → Midst Named old now left cells
  midst-gone p = record {
    long = h.long;
    goes = h.goes;
    live = λ n w. rest-of n (λ q. absurd (p (subst (IsLive memtable_live now) q w))) (h.live n w);
    named = h.named;
    went = h.went;
  }

  module _ (it : Memtable) (at : entry now m ≡ Some it) (live : it.live ≡ true) (free : Named m → ⊥) (apart : EachEntry (λ n y. y.live ≡ true → EachEntry (λ k z. z.live ≡ true → z.cell ≡ y.cell → k ≡ n) old) old) where
    abbrev pub dead : Memtable
    dead = record it { live = false }

    abbrev pub then : List Memtable
    then = change now m (record it { live = false })

    was : (x : Memtable) × (entry old m ≡ Some x) × KeepsMemtable x it
    was = goes-back KeepsMemtable old now h.goes h.long m it at

    was-live : was.0.live ≡ true
    was-live = live-back was.0.live it.live was.2.gone live

    alive_back : (n : ℕ) → IsLive memtable_live then n → (n ≢ m) × IsLive memtable_live now n
    alive_back n w = ⊎_elim
        (λ q. false_true (sym (ap (λ (z : Memtable). z.live) q.1) ∙ w.live))
        (λ q. (q.0, record { it = w.it; at = q.1; live = w.live }))
        (entry_change now m n dead w.it w.at)

    alive-on : (n : ℕ) → n ≢ m → IsLive memtable_live now n → IsLive memtable_live then n
    alive-on n d w = record { it = w.it; at = entry-else now m n dead d ∙ w.at; live = w.live }

    exact : (c : ℕ) → In c (cells ++ it.cell ∷ []) ↔ Went old then c
    exact c = (
      λ i. ⊎_elim
          (λ j. let w = (h.went.exact c).0 j in record {
            id = w.id;
            it = w.it;
            at = w.at;
            was_live = w.was_live;
            gone = λ u. w.gone (alive_back w.id u).1;
            is = w.is;
          })
          (λ j. record {
            id = m;
            it = was.0;
            at = was.1;
            was_live = was-live;
            gone = λ u. (alive_back m u).0 refl;
            is = sym was.2.cell ∙ sym (⊎_elim (λ q. q) (λ q. absurd (in-none c q)) (in-cons c it.cell [] j));
          })
          (in_append c cells (it.cell ∷ []) i),
      λ w. dite (ℕ_discrete w.id m)
          (λ q. in-right c cells (it.cell ∷ []) (record {
            at = 0;
            is = ap Some
                (was.2.cell ∙ ap (λ (z : Memtable). z.cell) (some (sym was.1 ∙ ap (entry old) (sym q) ∙ w.at)) ∙ w.is);
          }))
          (λ q. in-left c cells (it.cell ∷ []) ((h.went.exact c).1 (record {
            id = w.id;
            it = w.it;
            at = w.at;
            was_live = w.was_live;
            gone = λ u. w.gone (alive-on w.id q u);
            is = w.is;
          }))),
    )

    not-in : In it.cell cells → ⊥
    not-in i =
        let w = (h.went.exact it.cell).0 i in
        let q = apart m was.0 was.1 was-live w.id w.it w.at w.was_live (w.is ∙ was.2.cell) in
        w.gone (record { it = it; at = ap (entry now) q ∙ at; live = live })

    place : (i c : ℕ) → slice_get (cells ++ it.cell ∷ []) i ≡ Some c
        → (slice_get cells i ≡ Some c) ⊎ ((i ≡ length cells) × (c ≡ it.cell))
    place i c e = ⊎_elim (λ q. inl q) (λ q. inr (omega (arith, q.0), q.1)) (entry_push cells it.cell (suc i) c e)

    once : Distinct (cells ++ it.cell ∷ [])
    once i j c e d = ⊎_elim
        (λ p. ⊎_elim (λ q. h.went.once i j c p q) (λ q. absurd (not-in (record { at = i; is = p ∙ ap Some q.1 }))) (place j c d))
        (λ p. ⊎_elim (λ q. absurd (not-in (record { at = j; is = q ∙ ap Some p.1 }))) (λ q. p.0 ∙ sym q.0) (place j c d))
        (place i c e)

    pub midst-ended : Midst Named old (change now m (record it { live = false })) left (cells ++ it.cell ∷ [])
    midst-ended = record {
      long = length-change now m dead ∙ h.long;
      goes = goes-on KeepsMemtable old now then
          (λ x y z p q. record {
            family = q.family ∙ p.family;
            first = q.first ∙ p.first;
            cell = q.cell ∙ p.cell;
            gone = λ e. q.gone (p.gone e);
          })
          h.goes
          (goes-change KeepsMemtable now m it dead memtable-itself at (record {
            family = refl;
            first = refl;
            cell = refl;
            gone = λ _. refl;
          }));
      live = λ n w. let t = alive_back n w in rest-of n (λ q. absurd (t.0 q)) (h.live n t.1);
      named = λ n p. alive-on n (λ q. free (subst Named q p)) (h.named n p);
      went = record { exact = exact; once = once };
    }

-- at the end
pub midst-whole : (Named : ℕ → Type 0) (old now : List Memtable) (cells : List ℕ) → Midst Named old now [] cells
    → Ends KeepsMemtable memtable_live Named old now
midst-whole Named old now cells h =
    ends-of KeepsMemtable memtable_live Named old now (λ x y r. r.gone) h.long h.goes
    (λ n. (λ w. ⊎_elim (λ q. q) (λ q. absurd (in-none n q)) (h.live n w), h.named n))

-- ---- one file looked at

pub midst-file : (Named : ℕ → Type 0) (old now then : List RegisteredFile) (n : ℕ) (left : List ℕ)
    → ((k : ℕ) → registered k old ≤ 1) → MidstFiles Named old now (n ∷ left) → (Named n → ⊥)
    → IsMarked n Live Obsolete now then → MidstFiles Named old then left
midst-file Named old now then n left once h free mark = record {
  long = ap length mark.marked ∙ length-change now mark.at (record mark.it { status = Obsolete }) ∙ h.long;
  goes = λ i x e. let t = h.goes i x e in dite (ℕ_discrete i mark.at)
      (λ q.
      let y_is : t.0 ≡ mark.it = some (sym t.1 ∙ ap (entry now) q ∙ mark.found) in
      let same : t.0 ≡ x =
      ⊎_elim (λ o. o) (λ o. live_obsolete (sym mark.had.status_is ∙ ap (λ (z : RegisteredFile). z.status) (sym y_is ∙ o.0))) t.2 in
      let it_is : mark.it ≡ x = sym y_is ∙ same in (
        record mark.it { status = Obsolete },
        ap (entry then) q ∙ ap (λ l. entry l mark.at) mark.marked
            ∙ entry-same now mark.at mark.it (record mark.it { status = Obsolete }) mark.found,
        inr
            (ap (λ (z : RegisteredFile). record z { status = Obsolete }) it_is, ap (λ (z : RegisteredFile). z.status) (sym it_is) ∙ mark.had.status_is, λ p. free (subst Named (ap (λ (z : RegisteredFile). z.number) (sym it_is) ∙ mark.had.number_is) p)),
      ))
      (λ q. (t.0, ap (λ l. entry l i) mark.marked ∙ entry-else now mark.at i (record mark.it { status = Obsolete }) q ∙ t.1, t.2));
  live = λ k w. ⊎_elim
      (λ q. live_obsolete (sym w.3.status_is ∙ ap (λ (z : RegisteredFile). z.status) q.1))
      (λ q. ⊎_elim
      (λ p. inl p)
      (λ i. ⊎_elim (λ o. absurd (q.0 (one_entry now n w.0 mark.at w.1 mark.it (omega (arith, once n, sums n)) q.1 mark.found (w.3.number_is ∙ o) mark.had.number_is))) (λ j. inr j) (in-cons k n left i))
      (h.live k (w.0, w.1, q.1, w.3)))
      (marked_entry n Live Obsolete now then mark w.0 w.1 w.2);
}
  where
    sums : (k : ℕ) → registered k now ≡ registered k old
    sums k = total-same (λ x y. (y ≡ x) ⊎ ((y ≡ record x { status = Obsolete }) × (x.status ≡ Live) × (Named x.number → ⊥))) (λ x. same k x.number)
        (λ x y t. ⊎_elim (λ q. ap (λ (z : RegisteredFile). same k z.number) q) (λ q. ap (λ (z : RegisteredFile). same k z.number) q.0) t) old now h.long h.goes

pub midst-files-whole : (Named : ℕ → Type 0) (old now : List RegisteredFile) → MidstFiles Named old now []
    → EndsFiles Named old now
midst-files-whole Named old now h = record {
  long = h.long;
  goes = λ i x e. let t = h.goes i x e in (
    t.0,
    t.1,
    ⊎_elim
        (λ q. inl (
          q,
          λ live. ⊎_elim (λ p. p) (λ p. absurd (in-none x.number p)) (h.live x.number (
            i,
            t.0,
            t.1,
            record {
              number_is = ap (λ (z : RegisteredFile). z.number) q;
              status_is = ap (λ (z : RegisteredFile). z.status) q ∙ live;
            },
          )),
        ))
        (λ q. inr q)
        t.2,
  );
}
