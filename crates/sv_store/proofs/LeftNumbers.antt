-- The numbers that a close leaves.
use Rattle.std.proofs.Common.{◌≡◌, ◌<◌, ◌≤◌, ◌+◌, ◌⊎◌, inl, inr, ⊎_elim, ◌↔◌, ℕ, zero, suc, Bool, true, false, cond, List, [], ◌∷◌, length, get_or, Option, Some, None, refl, sym, ap, ◌∙◌, subst, arith}
use Rattle.std.specs.Prelude.{IfSome, nat_lt, slice_get, sum}
use Rattle.std.specs.List.Sorted.{IsStrictlyIncreasing}
use Rattle.std.proofs.lemmas.Option.{slice_get_within}
use Rattle.sv_model.specs.declared.records.FileStatus.TheVariants.{Gone, Obsolete}
use Rattle.sv_model.specs.declared.records.RegisteredFile.{RegisteredFile}
use Rattle.sv_model.specs.declared.refusals.Refusal.{Refusal}
use Rattle.sv_model.specs.declared.refusals.Refusal.TheVariants as refusal
use Rattle.sv_model.specs.Books.{FileRegister}
use Rattle.sv_model.specs.Lists.{In, IsPartOf}
use Rattle.sv_model.specs.Numbers.{AreInOrder, IsReady, IsRegistered, NumbersStand, least_captured, registered}
use Rattle.sv_model.specs.Summaries.{ascending, obsolete_of, obsolete_registered, place_number}
use Rattle.sv_model.proofs.AscendingLists.{Rises, in-here, in-later, in_cons, in_none, rises_from}
use Rattle.sv_model.specs.Files.{Files}
use Rattle.sv_model.specs.Registers.{entry}
use Rattle.sv_files.specs.Calls.{disabled}
use Rattle.sv_model.proofs.Entries.{some}
use Rattle.sv_model.proofs.NumberLaws.{one_entry}
use Rattle.sv_laws.proofs.Apart.{obsolete_gone}
use Rattle.sv_laws.proofs.ObsoleteNumbers.{left_is, listed, lists}
use Rattle.sv_store.specs.Closing.{EndsAs}
use Rattle.sv_store.specs.Ending.{RemovesObsolete, end_after}
use Rattle.sv_store.specs.Removals.{DirSeen, FilesGoIfTold, LeftAs, Removes, RemovesSome, ended, with_gone}
use Rattle.sv_store.specs.Standing.{IsStill}
use Rattle.sv_store.proofs.EndedNumbers.{ended-or, entry-mapped, in-is, is-in, is_in, mapped-entry, none-gone, ready-still}
use Rattle.sv_store.proofs.RemovalSteps.{dir_seen}
use Rattle.sv_store.proofs.TriedNumbers.{part-in}

-- ---- a part of a list that rises

part-rises : (l m : List ℕ) → IsPartOf l m → Rises m → Rises l
part-rises [] m p r = tt
part-rises (x ∷ xs) [] p r = absurd p
part-rises (x ∷ xs) (y ∷ ys) p r = ⊎_elim
    (λ o. (λ n i. subst (λ z. z < n) (sym o.0) (r.0 n (part-in xs ys n o.1 i)), part-rises xs ys o.1 r.1))
    (λ o. part-rises (x ∷ xs) ys o r.1)
    p

strictly : (l : List ℕ) → Rises l → IsStrictlyIncreasing l
strictly [] r k lt = absurd (omega (arith, lt))
strictly (x ∷ []) r k lt = absurd (omega (arith, lt))
strictly (x ∷ y ∷ l) r zero lt = r.0 y (in-here y l)
strictly (x ∷ y ∷ l) r (suc k) lt =
    let q : suc (k + 1) ≡ suc k + 1 = omega arith in
    subst (λ m. get_or (y ∷ l) k 0 < get_or (x ∷ y ∷ l) m 0) q (strictly (y ∷ l) r.1 k (omega (arith, lt)))

-- ---- what is listed as left

place-from : (n x : ℕ) (l : List ℕ) → In n (place_number x l) → (n ≡ x) ⊎ In n l
place-from n x [] i = in_cons n x [] i
place-from n x (y ∷ l) i = by (nat_lt x y) (place-from n x l) i
  where
    by : (b : Bool) → (In n (place_number x l) → (n ≡ x) ⊎ In n l) → In n (cond b (x ∷ y ∷ l) (y ∷ place_number x l)) → (n ≡ x) ⊎ In n (y ∷ l)
    by true rest q = in_cons n x (y ∷ l) q
    by false rest q = ⊎_elim
        (λ e. inr (subst (λ z. In z (y ∷ l)) (sym e) (in-here y l)))
        (λ j. ⊎_elim (λ e. inl e) (λ k. inr (in-later n y l k)) (rest j))
        (in_cons n y (place_number x l) q)

ascending-from : (n : ℕ) (l : List ℕ) → In n (ascending l) → In n l
ascending-from n [] i = i
ascending-from n (x ∷ l) i = ⊎_elim
    (λ e. subst (λ z. In z (x ∷ l)) (sym e) (in-here x l))
    (λ j. in-later n x l (ascending-from n l j))
    (place-from n x (ascending l) i)

-- each is Obsolete
pub left-obsolete : (numbers : List RegisteredFile) (n : ℕ) → In n (obsolete_of numbers) → IsRegistered numbers n Obsolete
left-obsolete numbers n i = listed numbers n (ascending-from n (obsolete_registered numbers) i)

-- ---- the bound where nothing is captured

no-bound : (l : List (Option ℕ)) → ((f : ℕ) (c : Option ℕ) → slice_get l f ≡ Some c → c ≡ None) → least_captured l ≡ 18446744073709551615
no-bound [] h = refl
no-bound (c ∷ l) h = ap (λ z. least_captured (z ∷ l)) (h 0 c refl) ∙ no-bound l (λ f z e. h (suc f) z e)

pub all-ready : (r : FileRegister) → IsStill r → NumbersStand r.numbers r.captured r.next → (n : ℕ) → IsRegistered r.numbers n Obsolete → IsReady r n
all-ready r still stand n o = record {
  obsolete = o;
  below = omega (arith, stand.below o.0 o.1 o.2, o.3.number_is, stand.most, no-bound r.captured still.idle);
}

-- ---- what is left

all-left : (left : List ℕ) (files : Option Files) → FilesGoIfTold [] left files files
all-left left None = tt
all-left left (Some files) = record { absent = λ n i. absurd (in_none n i); same_or_absent = λ n i. inl refl; others = λ name apart. refl }

-- none was tried
pub none-removed : (r : FileRegister) (files : Option Files) (faults : ℕ) → RemovesObsolete r r (dir_seen files files faults faults)
none-removed r files faults = record {
  gone = [];
  ready = λ n i. absurd (in_none n i);
  is = none-gone r;
  files = all-left (obsolete_of r.numbers) files;
  later = omega arith;
}

module _ (old new : FileRegister) (d : DirSeen) (numbers gone left : List ℕ) (ready : AreInOrder (IsReady old) numbers) (r : Removes old new d numbers gone left)
    (still : IsStill old) (stand : NumbersStand old.numbers old.captured old.next) (once : (n : ℕ) → registered n new.numbers ≤ 1) where
  left-now : (n : ℕ) → In n left → IsRegistered new.numbers n Obsolete
  left-now n i =
      let t = (r.tried.left_are.exact n).0 i in
      subst (λ (z : FileRegister). IsRegistered z.numbers n Obsolete) (sym r.is)
      (ready-still old gone n ((ready.exact n).0 t.0) t.1).obsolete

  now-left : (n : ℕ) → IsRegistered new.numbers n Obsolete → In n left
  now-left n o =
      let q : IsRegistered (with_gone old gone).numbers n Obsolete = subst (λ (z : FileRegister). IsRegistered z.numbers n Obsolete) r.is o in
      let x = mapped-entry (ended gone) old.numbers q.0 q.1 q.2 in
      ⊎_elim
      (λ g. obsolete_gone (sym q.3.status_is ∙ ap (λ (z : RegisteredFile). z.status) x.2 ∙ g))
      (λ same.
      let q_is : q.1 ≡ x.0 = x.2 ∙ same in
      let was : IsRegistered old.numbers n Obsolete = (q.0, x.0, x.1, record { number_is = ap (λ (z : RegisteredFile). z.number) (sym q_is) ∙ q.3.number_is; status_is = ap (λ (z : RegisteredFile). z.status) (sym q_is) ∙ q.3.status_is }) in
      (r.tried.left_are.exact n).1 (
        (ready.exact n).1 (all-ready old still stand n was),
        (λ i.
            let k : is_in x.0.number gone ≡ true = in-is x.0.number gone (subst (λ z. In z gone) (sym was.3.number_is) i) in
            let s : (ended gone x.0).status ≡ Gone = ap (λ (b : Bool). cond b Gone x.0.status) k in
            obsolete_gone (sym was.3.status_is ∙ ap (λ (z : RegisteredFile). z.status) (sym same) ∙ s)),
      ))
      (ended-or gone x.0)

  left-is : left ≡ obsolete_of new.numbers
  left-is = left_is new.numbers left once (record {
    exact = λ n. (left-now n, now-left n);
    rising = strictly left (part-rises left numbers r.tried.left_are.order (rises_from numbers ready.rising));
  })

  pub removes-obsolete : RemovesObsolete old new d
  removes-obsolete = record {
    gone = gone;
    ready = λ n i. (ready.exact n).0 (part-in gone numbers n r.tried.gone_are i);
    is = r.is;
    files = subst (λ l. FilesGoIfTold gone l d.files d.later) left-is r.files;
    later = r.later;
  }

  pub left-as : (P : List ℕ → Type 0) → P left → P (obsolete_of new.numbers)
  left-as P = subst P left-is

some-place : (n : ℕ) (l : List ℕ) → place_number n l ≡ [] → ⊥
some-place n [] e = absurd (cc)
some-place n (y ∷ l) e = by (nat_lt n y) e
  where
    by : (b : Bool) → cond b (n ∷ y ∷ l) (y ∷ place_number n l) ≡ [] → ⊥
    by true q = absurd (cc)
    by false q = absurd (cc)

none-listed : (l : List ℕ) → ascending l ≡ [] → l ≡ []
none-listed [] e = refl
none-listed (n ∷ l) e = absurd (some-place n (ascending l) e)

-- where none is listed none is Obsolete
none-obsolete : (numbers : List RegisteredFile) (n : ℕ) → obsolete_of numbers ≡ [] → IsRegistered numbers n Obsolete → ⊥
none-obsolete numbers n e o = in_none n (subst (In n) (none-listed (obsolete_registered numbers) e) (lists numbers n o))

-- ---- how a close ends

-- where memory was wanted for the list some number is left
pub short-ends : (r : FileRegister) (e : Refusal) → (((n : ℕ) → IsReady r n → ⊥) → disabled r ≡ Some e) → sum r.holds ≡ 0 → 1 ≤ length (obsolete_of r.numbers)
short-ends r e h free = by (obsolete_of r.numbers) refl
  where
    clear : disabled r ≡ None
    clear = ap (λ n. cond (nat_lt 0 n) (Some (refusal.Disabled n)) None) free

    by : (l : List ℕ) → obsolete_of r.numbers ≡ l → 1 ≤ length l
    by [] q = absurd (let z : None ≡ Some e = sym clear ∙ h (λ n o. none-obsolete r.numbers n q o.obsolete) in cc)
    by (n ∷ l) q = omega arith

ends-as : (left : List ℕ) (d : DirSeen) (e : Refusal) → LeftAs left d e → EndsAs (end_after (Some e)) left d.before d.now
ends-as left d (refusal.DirFault n) h = (omega (arith, slice_get_within left 0 n h.0), h.1)
ends-as left d refusal.OutOfMemory h = h
ends-as left d e h = absurd h

module _ (old new : FileRegister) (d : DirSeen) (numbers : List ℕ) (ready : AreInOrder (IsReady old) numbers) (still : IsStill old)
    (stand : NumbersStand old.numbers old.captured old.next) (once : (n : ℕ) → registered n new.numbers ≤ 1) where
  pub tried-removes : (r : Option Refusal) → (r ≡ None → Removes old new d numbers numbers []) → IfSome r (RemovesSome old new d numbers) → RemovesObsolete old new d
  tried-removes None all some = removes-obsolete old new d numbers numbers [] ready (all refl) still stand once
  tried-removes (Some e) all some = removes-obsolete old new d numbers some.gone some.left ready some.removes still stand once

  pub tried-ends : (r : Option Refusal) → (r ≡ None → Removes old new d numbers numbers []) → IfSome r (RemovesSome old new d numbers)
      → EndsAs (end_after r) (obsolete_of new.numbers) d.before d.now
  tried-ends None all some = left-as old new d numbers numbers [] ready (all refl) still stand once (λ l. l ≡ []) refl
  tried-ends (Some e) all some =
      left-as old new d numbers some.gone some.left ready some.removes still stand once (λ l. EndsAs (end_after (Some e)) l d.before d.now)
      (ends-as some.left d e some.answer)

-- ---- what became Gone

module _ (old new : FileRegister) (d : DirSeen) (r : RemovesObsolete old new d) (once : (n : ℕ) → registered n old.numbers ≤ 1) where
  pub gone-exact : (n : ℕ) → In n r.gone ↔ (IsRegistered new.numbers n Gone × (IsRegistered old.numbers n Gone → ⊥))
  gone-exact n = (forth, λ p. back p.0 p.1)
    where
      forth : In n r.gone → IsRegistered new.numbers n Gone × (IsRegistered old.numbers n Gone → ⊥)
      forth i =
          let o = (r.ready n i).obsolete in
          let k : is_in o.1.number r.gone ≡ true = in-is o.1.number r.gone (subst (λ z. In z r.gone) (sym o.3.number_is) i) in (
            subst (λ (z : FileRegister). IsRegistered z.numbers n Gone) (sym r.is)
                (o.0, ended r.gone o.1, entry-mapped (ended r.gone) old.numbers o.0 o.1 o.2, record { number_is = o.3.number_is; status_is = ap (λ (b : Bool). cond b Gone o.1.status) k }),
            (λ g.
                let place = one_entry old.numbers n o.0 g.0 o.1 g.1 (once n) o.2 g.2 o.3.number_is g.3.number_is in
                let same : o.1 ≡ g.1 = some (sym o.2 ∙ ap (entry old.numbers) place ∙ g.2) in
                obsolete_gone (sym o.3.status_is ∙ ap (λ (z : RegisteredFile). z.status) same ∙ g.3.status_is)),
          )

      back : IsRegistered new.numbers n Gone → (IsRegistered old.numbers n Gone → ⊥) → In n r.gone
      back g not =
          let q : IsRegistered (with_gone old r.gone).numbers n Gone = subst (λ (z : FileRegister). IsRegistered z.numbers n Gone) r.is g in
          let x = mapped-entry (ended r.gone) old.numbers q.0 q.1 q.2 in
          let number_is : x.0.number ≡ n = ap (λ (z : RegisteredFile). z.number) (sym x.2) ∙ q.3.number_is in
          by q.0 x.0 x.1 number_is (ap (λ (z : RegisteredFile). z.status) (sym x.2) ∙ q.3.status_is) (is_in x.0.number r.gone) refl
        where
          by : (i : ℕ) (x : RegisteredFile) → entry old.numbers i ≡ Some x → x.number ≡ n → (ended r.gone x).status ≡ Gone → (b : Bool) → is_in x.number r.gone ≡ b → In n r.gone
          by i x at number_is status_is true e = subst (λ z. In z r.gone) number_is (is-in x.number r.gone e)
          by i x at number_is status_is false e = absurd (not (i, x, at, record { number_is = number_is; status_is = ap (λ (b : Bool). cond b Gone x.status) (sym e) ∙ status_is }))
