-- The counts beside a register of holders, as holders are added, end and are taken back.
use Rattle.std.proofs.Common.{◌≡◌, ℕ, zero, suc, ◌+◌, ◌*◌, ◌-◌, ◌<◌, ◌≤◌, ◌⊎◌, inl, inr, Bool, true, false, List, [], ◌∷◌, ◌++◌, length, get_or, set, Some, arith, refl, sym, ap, subst, ◌∙◌}
use Rattle.std.proofs.lemmas.List.{length_push}
use Rattle.std.proofs.lemmas.Option.{same_Some}
use Rattle.sv_model.specs.declared.counts.Counts.{Counts}
use Rattle.sv_model.specs.Counts.{count_of}
use Rattle.sv_model.specs.Lists.{IsChosen, total, times}
use Rattle.sv_model.specs.Named.{IsLive}
use Rattle.sv_model.specs.Registers.{entry, change, Has}
use Rattle.sv_model.specs.Holders.{Holds, namings, AreCounted, IsLetGo}
use Rattle.sv_model.specs.declared.holders.TheConstants.{MAX_HOLDERS}
use Rattle.sv_model.proofs.Lists.{total-push, times_in, in_times}
use Rattle.sv_model.proofs.Registers.{entry_le, entry_push, entry-old, entry-new, entry_change, entry-code, change-code, total_entry, has_total, total-change, length-change}
use Rattle.sv_model.proofs.Freed.{chosen-same}

live_or : (b : Bool) → (b ≡ true) ⊎ (b ≡ false)
live_or true = inl refl
live_or false = inr refl

zero_from : (n : ℕ) → (0 < n → ⊥) → n ≡ 0
zero_from zero none = refl
zero_from (suc n) none = absurd (none (omega arith))

-- ---- what one record counts
module _ {A : Type 0} (numbers : A → List ℕ) (live : A → Bool) where
  namings_live : (n : ℕ) (x : A) → live x ≡ true → namings numbers live n x ≡ times n (numbers x)
  namings_live n x is = rw is refl

  namings_gone : (n : ℕ) (x : A) → live x ≡ false → namings numbers live n x ≡ 0
  namings_gone n x gone = rw gone refl

  namings-le : (n : ℕ) (x : A) → times n (numbers x) ≤ 64 → namings numbers live n x ≤ 64
  namings-le n x seldom = elim (live_or (live x)) [
    | inl is ↦ let a = namings_live n x is in omega arith
    | inr gone ↦ let a = namings_gone n x gone in omega arith
  ]

  named_holds : (n : ℕ) (x : A) → 0 < namings numbers live n x → Holds numbers live n x
  named_holds n x more = elim (live_or (live x)) [
    | inl is ↦ let a = namings_live n x is in record { live = is; has = in_times n (numbers x) (omega arith) }
    | inr gone ↦ let a = namings_gone n x gone in absurd (omega arith)
  ]

  holds_named : (n : ℕ) (x : A) → Holds numbers live n x → 0 < namings numbers live n x
  holds_named n x h = let a = namings_live n x h.live in let b = times_in n (numbers x) h.has in omega arith

  all-le : (n : ℕ) (l : List A) → ((k : ℕ) (x : A) → entry l k ≡ Some x → times n (numbers x) ≤ 64) → total (namings numbers live n) l ≤ length l * 64
  all-le n [] seldom = omega arith
  all-le n (x ∷ l) seldom =
      let rest : (k : ℕ) (y : A) → entry l k ≡ Some y → times n (numbers y) ≤ 64 = tail n x l seldom in
      let a = all-le n l rest in
      let b = namings-le n x (seldom 1 x refl) in
      omega arith
    where
      tail : (n : ℕ) (x : A) (l : List A) → ((k : ℕ) (y : A) → entry (x ∷ l) k ≡ Some y → times n (numbers y) ≤ 64) → (k : ℕ) (y : A) → entry l k ≡ Some y → times n (numbers y) ≤ 64
      tail n x l seldom zero y is = absurd (cc)
      tail n x l seldom (suc k) y is = seldom (suc (suc k)) y is

-- ---- what the code reads
module _ {A : Type 0} (live : A → Bool) where
  -- a Live record at index n - 1
  pub found_read : (l self : List A) (n : ℕ) (x : A) → l ≡ self → IsLive live self n → x ≡ get_or l (n - 1) x → (entry l n ≡ Some x) × (live x ≡ true)
  found_read l self n x same there read =
      let at_it : entry l n ≡ Some there.it = ap (λ z. entry z n) same ∙ there.at in
      let within = entry_le l n there.it at_it in
      let at = entry-code l n (n - 1) x (omega arith) (omega arith) read in
      let e : there.it ≡ x = same_Some there.it x (sym at_it ∙ at) in
      (at, sym (ap live e) ∙ there.live)

  -- the last one
  pub found_last : (l self rest : List A) (x : A) → l ≡ self → l ≡ rest ++ x ∷ [] → IsLive live self (length self) → (entry l (length l) ≡ Some x) × (live x ≡ true)
  found_last l self rest x same split there =
      let n = ap length split ∙ length_push rest x in
      let at : entry l (length l) ≡ Some x = subst (λ all. entry all (length l) ≡ Some x) (sym split) (entry-new rest x (length l) n) in
      let at_it : entry l (length l) ≡ Some there.it = ap (λ z. entry z (length z)) same ∙ there.at in
      let e : there.it ≡ x = same_Some there.it x (sym at_it ∙ at) in
      (at, sym (ap live e) ∙ there.live)

pub written : {A : Type 0} (l : List A) (n : ℕ) (x y : A) → entry l n ≡ Some x → set l (n - 1) y ≡ change l n y
written l n x y at = let within = entry_le l n x at in change-code l n (n - 1) y (omega arith)

-- ---- the counts of all
module _ {A : Type 0} (numbers : A → List ℕ) (live : A → Bool) (sound : A → Type 0) where
  pub counted-none : (l : List A) (counts : Counts) → l ≡ [] → ((n : ℕ) → count_of counts n ≡ 0) → AreCounted numbers live sound l counts
  counted-none l counts none zeros = subst (λ z. AreCounted numbers live sound z counts) (sym none) (record {
    counted = zeros;
    each = λ n x is. absurd (no_entry n x is);
    few = omega arith;
  })
    where
      no_entry : (n : ℕ) (x : A) → entry [] n ≡ Some x → ⊥
      no_entry zero x is = cc
      no_entry (suc n) x is = cc

  -- a count stays far below the greatest
  pub count-le : (l : List A) (counts : Counts) (n : ℕ) → ((x : A) (k : ℕ) → sound x → times k (numbers x) ≤ 64) → AreCounted numbers live sound l counts → count_of counts n ≤ 274877906880
  count-le l counts n seldom so =
      let a = all-le numbers live n l (λ k x is. seldom x n (so.each k x is)) in
      let b = so.counted n in
      let c = so.few in
      omega arith

  count_has : (l : List A) (counts : Counts) (n : ℕ) → AreCounted numbers live sound l counts → 0 < count_of counts n → Has (Holds numbers live n) l
  count_has l counts n so more =
      let a = so.counted n in
      let h = has_total (namings numbers live n) l (omega arith) in
      (h.0, h.1, h.2, named_holds numbers live n h.1 h.3)

  has_count : (l : List A) (counts : Counts) (n : ℕ) → AreCounted numbers live sound l counts → Has (Holds numbers live n) l → 0 < count_of counts n
  has_count l counts n so h =
      let a = so.counted n in
      let b = total_entry (namings numbers live n) l h.0 h.1 h.2 in
      let d = holds_named numbers live n h.1 h.3 in
      omega arith

  -- what nothing names, by the counts
  chosen_unnamed : (l : List A) (counts : Counts) (all given : List ℕ) → AreCounted numbers live sound l counts → IsChosen (λ n. count_of counts n ≡ 0) all given → IsChosen (λ n. Has (Holds numbers live n) l → ⊥) all given
  chosen_unnamed l counts all given so chosen = chosen-same (λ n. count_of counts n ≡ 0) (λ n. Has (Holds numbers live n) l → ⊥) all given (λ n. (
    (λ none h. let some = has_count l counts n so h in absurd (omega arith)),
    (λ unnamed. zero_from (count_of counts n) (λ more. unnamed (count_has l counts n so more))),
  )) chosen

  -- ---- steps
  pub counted-same : (l now : List A) (counts new : Counts) → now ≡ l → AreCounted numbers live sound l counts → ((n : ℕ) → count_of new n ≡ count_of counts n) → AreCounted numbers live sound now new
  counted-same l now counts new same so counts_same = subst (λ z. AreCounted numbers live sound z new) (sym same) (record {
    counted = λ n. counts_same n ∙ so.counted n;
    each = so.each;
    few = so.few;
  })

  pub counted-added : (l now : List A) (counts new : Counts) (x : A) → now ≡ l ++ x ∷ [] → AreCounted numbers live sound l counts → live x ≡ true → sound x → length l < MAX_HOLDERS → ((n : ℕ) → count_of new n ≡ count_of counts n + times n (numbers x)) → AreCounted numbers live sound now new
  counted-added l now counts new x now_is so is x_sound few up = subst (λ z. AreCounted numbers live sound z new) (sym now_is) (record {
    counted = λ n.
        let a = up n in
        let b = so.counted n in
        let c = namings_live numbers live n x is in
        let d = total-push (namings numbers live n) l x in
        omega arith;
    each = λ n y at. elim (entry_push l x n y at) [
      | inl old ↦ so.each n y old
      | inr last ↦ subst sound (sym last.1) x_sound
    ];
    few = let a = length_push l x in omega arith;
  })

  -- a Live record counts each number that it names
  pub counted-within : (l : List A) (counts : Counts) (k : ℕ) (x : A) (n : ℕ) → AreCounted numbers live sound l counts → entry l k ≡ Some x → live x ≡ true → times n (numbers x) ≤ count_of counts n
  counted-within l counts k x n so at is =
      let a = total_entry (namings numbers live n) l k x at in
      let b = namings_live numbers live n x is in
      let d = so.counted n in
      omega arith

  -- a Live record ends
  pub counted-ended : (l now : List A) (counts new : Counts) (k : ℕ) (x y : A) → now ≡ change l k y → AreCounted numbers live sound l counts → entry l k ≡ Some x → live x ≡ true → live y ≡ false → sound y → ((n : ℕ) → count_of counts n ≡ count_of new n + times n (numbers x)) → AreCounted numbers live sound now new
  counted-ended l now counts new k x y now_is so at is gone y_sound down = subst (λ z. AreCounted numbers live sound z new) (sym now_is) (record {
    counted = λ n.
        let a = down n in
        let b = so.counted n in
        let d = total-change (namings numbers live n) l k x y at in
        let e = namings_live numbers live n x is in
        let f = namings_gone numbers live n y gone in
        omega arith;
    each = λ n z there. elim (entry_change l k n y z there) [
      | inl here ↦ subst sound (sym here.1) y_sound
      | inr other ↦ so.each n z other.1
    ];
    few = let a = length-change l k y in let b = so.few in omega arith;
  })

  pub let_go : (ends : A → A) (l self now : List A) (new : Counts) (k : ℕ) (x : A) (given : List ℕ) → l ≡ self → now ≡ change l k (ends x) → AreCounted numbers live sound now new → entry l k ≡ Some x → IsChosen (λ n. count_of new n ≡ 0) (numbers x) given → IsLetGo numbers live ends self k now given
  let_go ends l self now new k x given same now_is so at chosen =
      let at_self : entry self k ≡ Some x = ap (λ z. entry z k) (sym same) ∙ at in
      let unnamed = chosen_unnamed now new (numbers x) given so chosen in
      record {
        gone = λ y there. (let e : x ≡ y = same_Some x y (sym at_self ∙ there) in now_is ∙ ap (λ z. change z k (ends x)) same ∙ ap (λ z. change self k (ends z)) e);
        given = λ y there. (let e : x ≡ y = same_Some x y (sym at_self ∙ there) in subst (λ z. IsChosen (λ n. Has (Holds numbers live n) now → ⊥) (numbers z) given) e unnamed);
      }

  -- the last record is taken back
  pub counted-back : (l rest : List A) (counts new : Counts) (x : A) → l ≡ rest ++ x ∷ [] → AreCounted numbers live sound l counts → live x ≡ true → ((n : ℕ) → count_of counts n ≡ count_of new n + times n (numbers x)) → AreCounted numbers live sound rest new
  counted-back l rest counts new x split was is down =
      let so : AreCounted numbers live sound (rest ++ x ∷ []) counts = subst (λ z. AreCounted numbers live sound z counts) split was in record {
        counted = λ n.
            let a = down n in
            let b = so.counted n in
            let d = total-push (namings numbers live n) rest x in
            let e = namings_live numbers live n x is in
            omega arith;
        each = λ k y at. so.each k y (entry-old rest (x ∷ []) k y at);
        few = let a = length_push rest x in let b = so.few in omega arith;
      }

  pub named_is : (l self : List A) (counts : Counts) (n c : ℕ) → l ≡ self → AreCounted numbers live sound l counts → c ≡ count_of counts n → (0 < c → Has (Holds numbers live n) self) × (Has (Holds numbers live n) self → 0 < c)
  named_is l self counts n c same so c_is = (
    (λ more. subst (λ z. Has (Holds numbers live n) z) same (count_has l counts n so (omega arith))),
    (λ has. let some = has_count l counts n so (subst (λ z. Has (Holds numbers live n) z) (sym same) has) in omega arith),
  )
