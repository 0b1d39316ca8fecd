-- What is kept beside the numbers, after a push, the end of the last one, and a new status.
use Rattle.std.proofs.Common.{◌≡◌, ◌≢◌, ℕ, suc, ◌+◌, ◌<◌, ◌≤◌, inl, inr, ⊎_elim, ◌↔◌, Bool, false, cond, List, [], ◌∷◌, ◌++◌, length, get_or, Option, Some, None, IsTrue, is_some, slice_get, set, arith, refl, sym, ap, subst, ◌∙◌, length-set, length-append}
use Rattle.std.specs.Prelude.{if◌then◌else◌}
use Rattle.std.specs.List.Sorted.{IsStrictlyIncreasing}
use Rattle.std.specs.Ordering.{nat_cmp, is_eq}
use Rattle.std.specs.BTreeMap.{BTreeMap, get, UpdatesBy}
use Rattle.std.proofs.lemmas.Bool.Decides.{nat_tests}
use Rattle.std.proofs.lemmas.Option.{get_or_from_slice_get}
use Rattle.std.specs.VecDeque.{deque_len}
use Rattle.std.specs.declared.collections.VecDeque.{VecDeque}
use Rattle.std.specs.declared.alloc.Global.{Global}
use Rattle.sv_model.specs.declared.records.RegisteredFile.{RegisteredFile}
use Rattle.sv_model.specs.declared.records.FileStatus.{FileStatus}
use Rattle.sv_model.specs.declared.records.FileStatus.TheVariants.{Obsolete}
use Rattle.sv_model.specs.Lists.{In}
use Rattle.sv_model.specs.Numbers.{AreInOrder, IsRegistered, registered}
use Rattle.sv_model.specs.Registers.{entry}
use Rattle.sv_model.specs.Summaries.{is_obsolete}
use Rattle.sv_model.proofs.Lists.{total-push, total-set}
use Rattle.sv_model.proofs.Registers.{entry-old, entry-new, entry_push, entry-same, entry-else, entry_change}
use Rattle.sv_files.specs.Kept.{AreKept, KeepsPositions}
use Rattle.sv_files.proofs.Registered.{some_is, with_status, registered-at, at_registered, status-is, registered-some, obsolete-is, count-le, once_push, once-front, push_is, push-old, push-new, registered_mark, mark_is, mark-other, mark-new}
use Rattle.sv_model.proofs.Basics.{apart_or}

-- ---- the map
other_key : (k q : ℕ) → k ≢ q → is_eq (nat_cmp k q) ≡ false
other_key k q apart = grind (arith, nat_tests)

other_stays : (m n : BTreeMap ℕ ℕ) (k q : ℕ) (w : Option ℕ) → UpdatesBy nat_cmp (nat_cmp k) m n w → k ≢ q → get nat_cmp n q ≡ get nat_cmp m q
other_stays m n k q w updates apart = updates.2 q (other_key k q apart)

-- the map has a number exactly where it is registered
pub has-place : (places : BTreeMap ℕ ℕ) (l : List RegisteredFile) (n : ℕ) → KeepsPositions places l → 0 < registered n l → (p : ℕ) × (get nat_cmp places n ≡ Some p)
has-place places l n h more =
    let r = at_registered l n more in (r.0, ap (get nat_cmp places) (sym r.3) ∙ h.has r.0 r.1 r.2)

pub is_registered : (places : BTreeMap ℕ ℕ) (l : List RegisteredFile) (n : ℕ) → KeepsPositions places l → IsTrue (is_some (get nat_cmp places n)) ↔ (0 < registered n l)
is_registered places l n h = (
  λ some. by-case (get nat_cmp places n) refl some,
  λ more. (let p = has-place places l n h more in subst (λ (o : Option ℕ). IsTrue (is_some o)) (sym p.1) refl),
)
  where
    by-case : (o : Option ℕ) → get nat_cmp places n ≡ o → IsTrue (is_some o) → 0 < registered n l
    by-case (Some p) is some =
        let x = h.found n p is in
        let r = registered-at l p x.0 x.1 in omega (arith, ap (λ k. registered k l) x.2)
    by-case None is some = absurd (cc)

-- what the code reads at the place of a number
pub read-is : (places : BTreeMap ℕ ℕ) (l : List RegisteredFile) (n p : ℕ) (x : RegisteredFile) → KeepsPositions places l → get nat_cmp places n ≡ Some p → x ≡ get_or l p x → (slice_get l p ≡ Some x) × (x.number ≡ n)
read-is places l n p x h at read =
    let y = h.found n p at in
    let is : x ≡ y.0 = read ∙ get_or_from_slice_get l p y.0 x y.1 in
    (y.1 ∙ ap Some (sym is), ap (λ (z : RegisteredFile). z.number) is ∙ y.2)

-- ---- a number is registered last
module _ (l : List RegisteredFile) (places left : BTreeMap ℕ ℕ) (y : RegisteredFile) where
  pub positions_push : KeepsPositions places l → registered y.number l ≡ 0 → UpdatesBy nat_cmp (nat_cmp y.number) places left (Some (length l)) → KeepsPositions left (l ++ y ∷ [])
  positions_push h new updates = record {
    found = λ n q is. elim (apart_or y.number n) [
      | inl here ↦
          let q_is : q ≡ length l = some_is q (length l) (sym is ∙ ap (get nat_cmp left) (sym here) ∙ updates.1) in
          (y, entry-new l y (suc q) (omega arith), here)
      | inr apart ↦
          let z = h.found n q (sym (other_stays places left y.number n (Some (length l)) updates apart) ∙ is) in
          (z.0, entry-old l (y ∷ []) (suc q) z.0 z.1, z.2)
    ];
    has = λ q z at. elim (entry_push l y (suc q) z at) [
      | inl old ↦
          let apart : y.number ≢ z.number = λ same. (let r = registered-at l q z old in omega (arith, ap (λ k. registered k l) same)) in
          other_stays places left y.number z.number (Some (length l)) updates apart ∙ h.has q z old
      | inr last ↦
          let q_is : q ≡ length l = omega (arith, last.0) in
          ap (get nat_cmp left) (ap (λ (r : RegisteredFile). r.number) last.1) ∙ updates.1 ∙ ap Some (sym q_is)
    ];
  }

  pub positions_front : KeepsPositions places (l ++ y ∷ []) → registered y.number l ≡ 0 → UpdatesBy nat_cmp (nat_cmp y.number) places left None → KeepsPositions left l
  positions_front h new updates = record {
    found = λ n q is. elim (apart_or y.number n) [
      | inl here ↦
          let both : Some q ≡ None = sym is ∙ ap (get nat_cmp left) (sym here) ∙ updates.1 in absurd (cc)
      | inr apart ↦
          let z = h.found n q (sym (other_stays places left y.number n None updates apart) ∙ is) in
          elim (entry_push l y (suc q) z.0 z.1) [
            | inl old ↦ (z.0, old, z.2)
            | inr last ↦ absurd (apart (ap (λ (r : RegisteredFile). r.number) (sym last.1) ∙ z.2))
          ]
    ];
    has = λ q z at.
        let apart : y.number ≢ z.number = λ same. (let r = registered-at l q z at in omega (arith, ap (λ k. registered k l) same)) in
        other_stays places left y.number z.number None updates apart ∙ h.has q z (entry-old l (y ∷ []) (suc q) z at);
  }

-- ---- a status changes
pub positions_mark : (places : BTreeMap ℕ ℕ) (l : List RegisteredFile) (p : ℕ) (x : RegisteredFile) (now : FileStatus) → KeepsPositions places l → slice_get l p ≡ Some x → KeepsPositions places (set l p (with_status x now))
positions_mark places l p x now h was = record {
  found = λ n q is. (
      let y = h.found n q is in
      elim (apart_or q p) [
        | inl here ↦
            let y_is : y.0 ≡ x = some_is y.0 x (sym y.1 ∙ ap (slice_get l) here ∙ was) in
            (with_status x now, ap (slice_get (set l p (with_status x now))) here ∙ entry-same l (suc p) x (with_status x now) was, ap (λ (z : RegisteredFile). z.number) (sym y_is) ∙ y.2)
        | inr apart ↦ (y.0, entry-else l (suc p) (suc q) (with_status x now) (λ e. apart (omega arith)) ∙ y.1, y.2)
      ]);
  has = λ q y at. elim (entry_change l (suc p) (suc q) (with_status x now) y at) [
    | inl here ↦
        let q_is : q ≡ p = omega (arith, here.0) in
        ap (get nat_cmp places) (ap (λ (z : RegisteredFile). z.number) here.1) ∙ h.has p x was ∙ ap Some (sym q_is)
    | inr other ↦ h.has q y other.1
  ];
}

-- ---- the queue
-- A number's place in the queue is set, and no other's.
pub record IsSet (number : ℕ) (was now : Bool) (old new : List ℕ) : Type 0 where
  pub rising : IsStrictlyIncreasing new
  pub now_is : IsTrue now ↔ In number new
  pub others : (n : ℕ) → n ≢ number → (In n new ↔ In n old)
  pub long : length new + cond was 1 0 ≡ length old + cond now 1 0

-- what a call says of the queue
pub is-set : (number : ℕ) (was now was_is now_is : Bool) (old new : VecDeque ℕ Global) → was ≡ was_is → now ≡ now_is → IsStrictlyIncreasing new.items → IsTrue now ↔ In number new.items
    → ((n : ℕ) → n ≢ number → (In n new.items ↔ In n old.items)) → deque_len new + cond was 1 0 ≡ deque_len old + cond now 1 0 → IsSet number was_is now_is old.items new.items
is-set number was now was_is now_is old new was_same now_same rising here others long =
    subst (λ (b : Bool). IsSet number was_is b old.items new.items) now_same
    (subst (λ (b : Bool). IsSet number b now old.items new.items) was_same
    (record { rising = rising; now_is = here; others = others; long = omega (arith, long, old.ok.0, new.ok.0) }))

pub was-in : (l : List RegisteredFile) (q : List ℕ) (i : ℕ) (x : RegisteredFile) → ((n : ℕ) → registered n l ≤ 1) → AreInOrder (λ n. IsRegistered l n Obsolete) q → entry l i ≡ Some x → IsTrue (is_obsolete x.status) ↔ In x.number q
was-in l q i x once h at = (
  λ is. (h.exact x.number).1 (i, x, at, record { number_is = refl; status_is = (obsolete-is x.status).0 is }),
  λ there. (obsolete-is x.status).1 (status-is l x.number i x Obsolete (once x.number) at refl ((h.exact x.number).0 there)),
)

-- there is room for a number whose status changes
pub room-mark : (l : List RegisteredFile) (places : BTreeMap ℕ ℕ) (q : List ℕ) (long room : ℕ) → AreKept l places q room → (p : ℕ) (x : RegisteredFile) (now : FileStatus) (was_bit now_bit : Bool)
    → slice_get l p ≡ Some x → long ≡ length q → was_bit ≡ is_obsolete x.status → now_bit ≡ is_obsolete now → long + (if now_bit then 1 else 0) ≤ room + (if was_bit then 1 else 0)
room-mark l places q long room h p x now was_bit now_bit at long_is was_is now_is =
    let y = with_status x now in
    let e = total-set (λ (z : RegisteredFile). if is_obsolete z.status then 1 else 0) l p x y at in
    let le = count-le (set l p y) in
    let same = length-set l p y in
    omega (arith, h.counted, h.enough, ap {B = ℕ} (λ (b : Bool). if b then 1 else 0) was_is, ap {B = ℕ} (λ (b : Bool). if b then 1 else 0) now_is)

-- ---- all of it
module _ (l : List RegisteredFile) (places : BTreeMap ℕ ℕ) (q new : List ℕ) (room more : ℕ) (h : AreKept l places q room) where
  pub kept_mark : (p : ℕ) (x : RegisteredFile) (now : FileStatus) → slice_get l p ≡ Some x → IsSet x.number (is_obsolete x.status) (is_obsolete now) q new → room ≤ more → AreKept (set l p (with_status x now)) places new more
  kept_mark p x now at s wide = record {
    once = λ n. omega (arith, h.once n, registered_mark l (suc p) x now at n);
    positions = positions_mark places l p x now h.positions at;
    in_order = record {
      rising = s.rising;
      exact = λ n. elim (apart_or n x.number) [
        | inl here ↦ (
          λ there. subst (λ k. IsRegistered (set l p (with_status x now)) k Obsolete) (sym here) (subst (IsRegistered (set l p (with_status x now)) x.number) ((obsolete-is now).0 (s.now_is.1 (subst (λ k. In k new) here there))) (mark-new l (suc p) x now at)),
          λ r. subst (λ k. In k new) (sym here) (s.now_is.0 ((obsolete-is now).1 (status-is (set l p (with_status x now)) n (suc p) (with_status x now) Obsolete (omega (arith, h.once n, registered_mark l (suc p) x now at n)) (entry-same l (suc p) x (with_status x now) at) (sym here) r))),
        )
        | inr apart ↦ (
          λ there. mark-other l (suc p) x now at n Obsolete apart ((h.in_order.exact n).0 ((s.others n apart).0 there)),
          λ r. ⊎_elim (λ o. absurd (apart o.0)) (λ o. (s.others n apart).1 ((h.in_order.exact n).1 o)) (mark_is l (suc p) x now at n Obsolete r),
        )
      ];
    };
    counted = (let e = total-set (λ (z : RegisteredFile). cond (is_obsolete z.status) 1 0) l p x (with_status x now) at in omega (arith, h.counted, s.long));
    enough = omega (arith, h.enough, length-set l p (with_status x now));
  }

  pub kept_push : (left : BTreeMap ℕ ℕ) (y : RegisteredFile) → registered y.number l ≡ 0 → UpdatesBy nat_cmp (nat_cmp y.number) places left (Some (length l)) → IsSet y.number false (is_obsolete y.status) q new → length l + 1 ≤ more → AreKept (l ++ y ∷ []) left new more
  kept_push left y fresh updates s wide = record {
    once = once_push l y h.once fresh;
    positions = positions_push l places left y h.positions fresh updates;
    in_order = record {
      rising = s.rising;
      exact = λ n. elim (apart_or n y.number) [
        | inl here ↦ (
          λ there. subst (λ k. IsRegistered (l ++ y ∷ []) k Obsolete) (sym here) (subst (IsRegistered (l ++ y ∷ []) y.number) ((obsolete-is y.status).0 (s.now_is.1 (subst (λ k. In k new) here there))) (push-new l y)),
          λ r. subst (λ k. In k new) (sym here) (s.now_is.0 ((obsolete-is y.status).1 (status-is (l ++ y ∷ []) n (length l + 1) y Obsolete (once_push l y h.once fresh n) (entry-new l y (length l + 1) refl) (sym here) r))),
        )
        | inr apart ↦ (
          λ there. push-old l y n Obsolete ((h.in_order.exact n).0 ((s.others n apart).0 there)),
          λ r. ⊎_elim (λ o. (s.others n apart).1 ((h.in_order.exact n).1 o)) (λ o. absurd (apart o.0)) (push_is l y n Obsolete r),
        )
      ];
    };
    counted = (let e = total-push (λ (z : RegisteredFile). cond (is_obsolete z.status) 1 0) l y in omega (arith, h.counted, s.long));
    enough = omega (arith, length-append l (y ∷ []));
  }

-- the last number is registered no more
pub kept_front : (l : List RegisteredFile) (places left : BTreeMap ℕ ℕ) (q new : List ℕ) (room more : ℕ) (y : RegisteredFile) → AreKept (l ++ y ∷ []) places q room → UpdatesBy nat_cmp (nat_cmp y.number) places left None → IsSet y.number (is_obsolete y.status) false q new → room ≤ more → AreKept l left new more
kept_front l places left q new room more y h updates s wide =
    let front = once-front l y h.once in
    record {
      once = front.0;
      positions = positions_front l places left y h.positions front.1 updates;
      in_order = record {
        rising = s.rising;
        exact = λ n. elim (apart_or n y.number) [
          | inl here ↦ (
            λ there. absurd (cannot (s.now_is.1 (subst (λ k. In k new) here there))),
            λ r. absurd (let c = registered-some l n Obsolete r in omega (arith, front.1, ap (λ k. registered k l) here)),
          )
          | inr apart ↦ (
            λ there. ⊎_elim (λ o. o) (λ o. absurd (apart o.0)) (push_is l y n Obsolete ((h.in_order.exact n).0 ((s.others n apart).0 there))),
            λ r. (s.others n apart).1 ((h.in_order.exact n).1 (push-old l y n Obsolete r)),
          )
        ];
      };
      counted = (let e = total-push (λ (z : RegisteredFile). cond (is_obsolete z.status) 1 0) l y in omega (arith, h.counted, s.long));
      enough = omega (arith, h.enough, length-append l (y ∷ []));
    }
  where
    cannot : IsTrue false → ⊥
    cannot e = cc
