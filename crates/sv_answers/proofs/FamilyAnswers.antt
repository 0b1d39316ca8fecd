-- Families that the store makes, opens and drops, and the replies.
use Rattle.std.proofs.Common.{◌≡◌, ◌<◌, ⊎_elim, ℕ, zero, suc, Bool, true, false, not, List, [], ◌∷◌, length, Option, Some, None, refl, sym, ◌∙◌, ap, subst, arith}
use Rattle.std.specs.Prelude.{IfOk, IsSome, IsSomeAnd, OnErr, Result, Ok, Err, is_some, nat_le, slice_get}
use Rattle.std.specs.Str.{bytes_eq}
use Rattle.sv_model.specs.declared.records.Family.{Family}
use Rattle.sv_model.specs.declared.refusals.Refusal.{Refusal}
use Rattle.sv_model.specs.declared.refusals.Refusal.TheVariants as refusal
use Rattle.sv_model.specs.Books.{Books}
use Rattle.sv_model.specs.Families.{IsOwn, IsStanding, default_name}
use Rattle.sv_model.specs.Refusals.{Refuses, RefusesExactly, first_due}
use Rattle.sv_model.proofs.Entries.{some}
use Rattle.sv_model.proofs.RefusalLaws.{none_due, none_due-next}
use Rattle.sv_cells.specs.Calls.{memtables_refusal}
use Rattle.sv_registry.specs.Calls.{make_refusal}
use Rattle.sv_family.specs.Calls.{IsFreshTo, new_family}
use Rattle.sv_family.specs.Refused.{change_refusal, create_refusal, default_refusal, drop_refusal, dropped_refusal, find_refusal, handle_refusal, has_handle, limit_refusal, open_refusal, release_refusal, stands, taken_refusal, when}
use Rattle.sv_laws.specs.Families.{IsDropped, IsOpened}
use Rattle.sv_laws.specs.NewCurrents.{IsFamilyMade}
use Rattle.sv_state.specs.Follows.{Follows}
use Rattle.sv_store.specs.Seen.{StoreSeen}
use Rattle.sv_script.specs.declared.commands.Command.{Command}
use Rattle.sv_script.specs.declared.commands.Command.TheVariants as command
use Rattle.sv_script.specs.declared.replies.Reply.{Reply}
use Rattle.sv_script.specs.declared.replies.Reply.TheVariants as reply
use Rattle.sv_replies.specs.Answers.{Answers, KnowsAll}
use Rattle.sv_replies.specs.CreateLaw.{CreateMet}
use Rattle.sv_replies.specs.DropLaw.{DropMet}
use Rattle.sv_replies.specs.Due.{cause_where, default_cause, due, dropped_cause, first_of, handle_cause, refuses}
use Rattle.sv_replies.specs.Known.{Known}
use Rattle.sv_replies.specs.ReplyFits.{ReplyFits}
use Rattle.sv_replies.proofs.AnswersLaws.{KeepsAll, keeps-same, refused-answers}
use Rattle.sv_replies.proofs.AnswersOfFamilies.{create-answers, drop-answers, open-answers}
use Rattle.sv_replies.proofs.DueLemmas.{first-here, first-next, known-handle, known-none}
use Rattle.sv_replies.proofs.MetLaws.{fits_due, fits_met, through}
use Rattle.sv_replies.proofs.MomentLemmas.{none_stands}
use Rattle.sv_answers.specs.Answered.{alone}
use Rattle.sv_answers.proofs.HandleLemmas.{change-fits, change-free, no_own, no_standing, own-handle, standing-at}
use Rattle.sv_answers.proofs.RefusalCases.{due-or, first-then, is-full, is-many_memtables, last-due, test-due}

module _ (told : Bool) (a b : StoreSeen) (next : Follows a.books b.books) (k : Known) (all : KnowsAll (alone told) a.books k) where
  same-keeps : b ≡ a → KeepsAll 0 a.books b.books
  same-keeps q = subst (λ (z : StoreSeen). KeepsAll 0 a.books z.books) (sym q) (keeps-same 0 a.books)

  -- a refusal that leaves the store as it was, and fits the books found
  pub refused-same : (c : Command) (e : Refusal) → b ≡ a → ReplyFits (alone told) a.books k c (reply.Refused e)
      → Answers (alone told) a.books b.books k c (reply.Refused e)
  refused-same c e q fits =
      refused-answers (alone told) a.books b.books k c e all next.after (same-keeps q)
      (subst (λ (z : StoreSeen). ReplyFits (alone told) z.books k c (reply.Refused e)) (sym q) fits)

-- ---- create

module _ (told : Bool) (a : Books) (k : Known) (all : KnowsAll (alone told) a k) (name : List ℕ) where
  due_is : due k (command.Create name) ≡ None
  due_is = refl

  met : (e : Refusal) → CreateMet a k name e → ReplyFits (alone told) a k (command.Create name) (reply.Refused e)
  met e h = fits_met (alone told) a k (command.Create name) e due_is h

  create-free : create_refusal a.families 0 name ≡ None → k.handles name ≡ None
  create-free none =
      let t = none_due (taken_refusal a.families name) (handle_refusal a.families 0 name ∷ limit_refusal a.families ∷ []) none in
      let h = none_due (handle_refusal a.families 0 name) (limit_refusal a.families ∷ []) t.1 in
      by (has_handle a.families 0 name) refl h.0
    where
      by : (d : Bool) → has_handle a.families 0 name ≡ d → handle_refusal a.families 0 name ≡ None → k.handles name ≡ None
      by true has none = let q : Some refusal.AlreadyOpen ≡ None = sym (ap (λ z. when z refusal.AlreadyOpen) has) ∙ none in absurd (cc)
      by false has none = known-none 0 a k name all.own (no_own (alone told) a k all.knows all.own name has)

  by-handle : (e : Refusal) → handle_refusal a.families 0 name ≡ Some e → CreateMet a k name e
  by-handle e h =
      let t = test-due (has_handle a.families 0 name) (Some refusal.AlreadyOpen) e h in
      let same : refusal.AlreadyOpen ≡ e = (let q : Some refusal.AlreadyOpen ≡ Some e = t.1 in cc) in
      let f = own-handle (alone told) a k all.knows all.own name t.0 in
      subst (λ z. CreateMet a k name z) same (subst (λ o. IsSome o) (sym f.1) refl)

  by-name : (e : Refusal) → taken_refusal a.families name ≡ Some e → CreateMet a k name e
  by-name e h =
      let t = test-due (stands a.families name) (Some refusal.NameTaken) e h in
      let same : refusal.NameTaken ≡ e = (let q : Some refusal.NameTaken ≡ Some e = t.1 in cc) in
      let at = standing-at (alone told) a k all.knows all.own name t.0 in
      subst (λ z. CreateMet a k name z) same (at.0, at.1, at.2, at.3.name_is)

  by-limit : (e : Refusal) → has_handle a.families 0 name ≡ false → limit_refusal a.families ≡ Some e → CreateMet a k name e
  by-limit e none h =
      let t = test-due (nat_le 16 (length a.families)) (Some refusal.TooManyFamilies) e h in
      let same : refusal.TooManyFamilies ≡ e = (let q : Some refusal.TooManyFamilies ≡ Some e = t.1 in cc) in
      subst (λ z. CreateMet a k name z) same
      (record { free = known-none 0 a k name all.own (no_own (alone told) a k all.knows all.own name none); was = (let many = t.0 in grind arith) })

  by-memtables : (e : Refusal) → k.handles name ≡ None → memtables_refusal a.memtables ≡ Some e → CreateMet a k name e
  by-memtables e free h = let z = is-many_memtables a e h in
      subst (λ y. CreateMet a k name y) (sym z.0) (record { free = free; was = z.1 })

  by-supers : (e : Refusal) → k.handles name ≡ None → make_refusal a.supers ≡ Some e → CreateMet a k name e
  by-supers e free h = ⊎_elim
      (λ z. subst (λ y. CreateMet a k name y) (sym z.0) (record { free = free; was = z.1 }))
      (λ z. subst (λ y. CreateMet a k name y) (sym z.0) (record { free = free; was = z.1 }))
      (is-full a e h)

  no-handle : handle_refusal a.families 0 name ≡ None → has_handle a.families 0 name ≡ false
  no-handle none = by (has_handle a.families 0 name) refl
    where
      by : (d : Bool) → has_handle a.families 0 name ≡ d → has_handle a.families 0 name ≡ false
      by true has = let q : Some refusal.AlreadyOpen ≡ None = sym (ap (λ z. when z refusal.AlreadyOpen) has) ∙ none in absurd (cc)
      by false has = has

  by-families : (e : Refusal) → create_refusal a.families 0 name ≡ Some e → CreateMet a k name e
  by-families e h = ⊎_elim (by-name e)
      (λ t. ⊎_elim (by-handle e)
      (λ u. by-limit e (no-handle u.0) (last-due (limit_refusal a.families) e u.1))
      (first-then (handle_refusal a.families 0 name) (limit_refusal a.families ∷ []) e t.1))
      (first-then (taken_refusal a.families name) (handle_refusal a.families 0 name ∷ limit_refusal a.families ∷ []) e h)

  create-met : (e : Refusal) → first_due (create_refusal a.families 0 name ∷ memtables_refusal a.memtables ∷ make_refusal a.supers ∷ []) ≡ Some e
      → CreateMet a k name e
  create-met e h = ⊎_elim (by-families e)
      (λ t. ⊎_elim (by-memtables e (create-free t.0))
      (λ u. by-supers e (create-free t.0) (last-due (make_refusal a.supers) e u.1))
      (first-then (memtables_refusal a.memtables) (make_refusal a.supers ∷ []) e t.1))
      (first-then (create_refusal a.families 0 name) (memtables_refusal a.memtables ∷ make_refusal a.supers ∷ []) e h)

abbrev pub create_replied : Result ℕ Refusal → Reply
create_replied (Ok id) = reply.Create id
create_replied (Err e) = reply.Refused e

pub create-replies : (told : Bool) (a b : StoreSeen) → Follows a.books b.books → (k : Known) → KnowsAll (alone told) a.books k
    → (name : List ℕ) (r : Result ℕ Refusal)
    → IfOk r (λ id. (id ≡ length a.books.families) × IsFamilyMade a.books b.books (new_family 0 name))
    → Refuses (first_due (create_refusal a.books.families 0 name ∷ memtables_refusal a.books.memtables ∷ make_refusal a.books.supers ∷ [])) r
    → OnErr r (b ≡ a) → Answers (alone told) a.books b.books k (command.Create name) (create_replied r)
create-replies told a b next k all name (Ok id) made due_ kept =
    create-answers (alone told) a.books b.books k all next.after name (new_family 0 name) id made.1 (record { name_is = refl; handle = refl })
    (create-free told a.books k all name (none_due (create_refusal a.books.families 0 name) (memtables_refusal a.books.memtables ∷ make_refusal a.books.supers ∷ []) due_).0) made.0
create-replies told a b next k all name (Err e) made due_ kept =
    refused-same told a b next k all (command.Create name) e kept
    (⊎_elim
    (λ out. subst (λ z. ReplyFits (alone told) a.books k (command.Create name) (reply.Refused z)) (sym out) tt)
    (λ is. met told a.books k all name e (create-met told a.books k all name e is))
    (due-or (first_due (create_refusal a.books.families 0 name ∷ memtables_refusal a.books.memtables ∷ make_refusal a.books.supers ∷ [])) e due_))

-- ---- open

module _ (told : Bool) (a : Books) (k : Known) (all : KnowsAll (alone told) a k) (name : List ℕ) where
  open-taken : (e : Refusal) → handle_refusal a.families 0 name ≡ Some e → ReplyFits (alone told) a k (command.Open name) (reply.Refused e)
  open-taken e h =
      let t = test-due (has_handle a.families 0 name) (Some refusal.AlreadyOpen) e h in
      let same : refusal.AlreadyOpen ≡ e = (let q : Some refusal.AlreadyOpen ≡ Some e = t.1 in cc) in
      let f = own-handle (alone told) a k all.knows all.own name t.0 in
      subst (λ z. ReplyFits (alone told) a k (command.Open name) (reply.Refused z)) same
      (fits_due (alone told) a k (command.Open name) (refuses refusal.AlreadyOpen) refusal.AlreadyOpen
      (ap (λ (o : Option ℕ). cause_where (is_some o) (refuses refusal.AlreadyOpen)) f.1) (λ q. absurd (cc)) refl)

  open-free : handle_refusal a.families 0 name ≡ None → k.handles name ≡ None
  open-free none = known-none 0 a k name all.own (no_own (alone told) a k all.knows all.own name (no-handle told a k all name none))

  open-due : handle_refusal a.families 0 name ≡ None → due k (command.Open name) ≡ None
  open-due none = ap (λ (o : Option ℕ). cause_where (is_some o) (refuses refusal.AlreadyOpen)) (open-free none)

  open-none : (e : Refusal) → handle_refusal a.families 0 name ≡ None → when (not (stands a.families name)) refusal.NoFamily ≡ Some e
      → ReplyFits (alone told) a k (command.Open name) (reply.Refused e)
  open-none e free h =
      let t = test-due (not (stands a.families name)) (Some refusal.NoFamily) e h in
      let same : refusal.NoFamily ≡ e = (let q : Some refusal.NoFamily ≡ Some e = t.1 in cc) in
      subst (λ z. ReplyFits (alone told) a k (command.Open name) (reply.Refused z)) same
      (fits_met (alone told) a k (command.Open name) refusal.NoFamily (open-due free)
      (none_stands a k name all.knows (no_standing (alone told) a k all.knows all.own name (unstood (stands a.families name) t.0))))
    where
      unstood : (b : Bool) → not b ≡ true → b ≡ false
      unstood true h = let q : false ≡ true = h in absurd (cc)
      unstood false h = refl

has-lane : (handles : List Bool) (lane : ℕ) → slice_get handles lane ≡ Some false → lane < length handles
has-lane [] lane h = let q : None ≡ Some false = h in absurd (cc)
has-lane (x ∷ handles) zero h = omega arith
has-lane (x ∷ handles) (suc lane) h = omega (arith, has-lane handles lane h)

abbrev pub open_replied : Result ℕ Refusal → Reply
open_replied (Ok id) = reply.Open id
open_replied (Err e) = reply.Refused e

pub open-replies : (told : Bool) (a b : StoreSeen) → Follows a.books b.books → (k : Known) → KnowsAll (alone told) a.books k
    → (name : List ℕ) (r : Result ℕ Refusal)
    → IfOk r (λ id. IsOpened a.books b.books id 0)
    → IfOk r (λ id. IsSomeAnd (slice_get a.books.families id) (IsStanding name))
    → IfOk r (IsFreshTo 0 a.books.families)
    → RefusesExactly (open_refusal a.books.families 0 name) r
    → OnErr r (b ≡ a) → Answers (alone told) a.books b.books k (command.Open name) (open_replied r)
open-replies told a b next k all name (Ok id) is named fresh due_ kept =
    let free = (none_due (handle_refusal a.books.families 0 name) (when (not (stands a.books.families name)) refusal.NoFamily ∷ []) due_).0 in
    open-answers (alone told) a.books b.books k all next.after name id is
    (subst (λ o. IsSomeAnd o (IsStanding name)) is.at named).name_is (has-lane is.it.handles 0 (ap (λ (f : Family). slice_get f.handles 0) (some (sym is.at ∙ fresh.at)) ∙ fresh.none))
    (open-free told a.books k all name free) (open-due told a.books k all name free)
open-replies told a b next k all name (Err e) is named fresh due_ kept =
    refused-same told a b next k all (command.Open name) e kept
    (⊎_elim (open-taken told a.books k all name e)
    (λ t. open-none told a.books k all name e t.0 (last-due (when (not (stands a.books.families name)) refusal.NoFamily) e t.1))
    (first-then (handle_refusal a.books.families 0 name) (when (not (stands a.books.families name)) refusal.NoFamily ∷ []) e due_))

-- ---- drop

module _ (told : Bool) (a : Books) (k : Known) (all : KnowsAll (alone told) a k) (name : List ℕ) where
  drop-is : default_refusal name ≡ None → due k (command.Drop name) ≡ first_of (handle_cause k name ∷ dropped_cause k name ∷ [])
  drop-is none = by (bytes_eq name default_name) refl
    where
      by : (d : Bool) → bytes_eq name default_name ≡ d → due k (command.Drop name) ≡ first_of (handle_cause k name ∷ dropped_cause k name ∷ [])
      by true is = let q : Some refusal.IsDefault ≡ None = sym (ap (λ z. when z refusal.IsDefault) is) ∙ none in absurd (cc)
      by false is = first-next (default_cause name) (handle_cause k name ∷ dropped_cause k name ∷ []) (ap (λ z. cause_where z (refuses refusal.IsDefault)) is)

  drop-default : (e : Refusal) → default_refusal name ≡ Some e → ReplyFits (alone told) a k (command.Drop name) (reply.Refused e)
  drop-default e h =
      let t = test-due (bytes_eq name default_name) (Some refusal.IsDefault) e h in
      let same : refusal.IsDefault ≡ e = (let q : Some refusal.IsDefault ≡ Some e = t.1 in cc) in
      subst (λ z. ReplyFits (alone told) a k (command.Drop name) (reply.Refused z)) same
      (fits_due (alone told) a k (command.Drop name) (refuses refusal.IsDefault) refusal.IsDefault
      (first-here (default_cause name) (handle_cause k name ∷ dropped_cause k name ∷ []) (refuses refusal.IsDefault) (ap (λ z. cause_where z (refuses refusal.IsDefault)) t.0))
      (λ q. absurd (cc)) refl)

  drop-change : (e : Refusal) → default_refusal name ≡ None → change_refusal a.families 0 name ≡ Some e
      → ReplyFits (alone told) a k (command.Drop name) (reply.Refused e)
  drop-change e free h =
      change-fits (alone told) a k all.knows all.own name (command.Drop name) e h (drop-is free)
      (λ f has dropped. through (k.handles name) f (λ g. DropMet a refusal.Dropped g) has dropped)

  drop-refused : (e : Refusal) → drop_refusal a.families 0 name ≡ Some e → ReplyFits (alone told) a k (command.Drop name) (reply.Refused e)
  drop-refused e h = by (default_refusal name) refl
    where
      next-two : (x y : Option Refusal) → first_due (first_due (None ∷ x ∷ []) ∷ y ∷ []) ≡ Some e → first_due (x ∷ y ∷ []) ≡ Some e
      next-two None y q = q
      next-two (Some z) y q = q

      by : (o : Option Refusal) → default_refusal name ≡ o → ReplyFits (alone told) a k (command.Drop name) (reply.Refused e)
      by (Some r) is =
          let q : Some r ≡ Some e = sym (ap (λ z. first_due (first_due (z ∷ find_refusal a.families 0 name ∷ []) ∷ dropped_refusal a.families 0 name ∷ [])) is) ∙ h in
          let same : r ≡ e = cc in
          drop-default e (is ∙ ap Some same)
      by None is = drop-change e is (next-two (find_refusal a.families 0 name) (dropped_refusal a.families 0 name) (sym (ap (λ z. first_due (first_due (z ∷ find_refusal a.families 0 name ∷ []) ∷ dropped_refusal a.families 0 name ∷ [])) is) ∙ h))

abbrev pub drop_replied : Result ℕ Refusal → Reply
drop_replied (Ok id) = reply.Drop
drop_replied (Err e) = reply.Refused e

pub drop-replies : (told : Bool) (a b : StoreSeen) → Follows a.books b.books → (k : Known) → KnowsAll (alone told) a.books k
    → (name : List ℕ) (r : Result ℕ Refusal)
    → IfOk r (λ id. IsDropped a.books b.books id 0)
    → IfOk r (λ id. IsSomeAnd (slice_get a.books.families id) (IsOwn 0 name))
    → RefusesExactly (drop_refusal a.books.families 0 name) r
    → OnErr r (b ≡ a) → Answers (alone told) a.books b.books k (command.Drop name) (drop_replied r)
drop-replies told a b next k all name (Err e) is own due_ kept =
    refused-same told a b next k all (command.Drop name) e kept (drop-refused told a.books k all name e due_)
drop-replies told a b next k all name (Ok id) is own due_ kept =
    let F = a.books.families in
    let s = alone told in
    let c = command.Drop name in
    let released = (none_due (release_refusal F 0 name) (dropped_refusal F 0 name ∷ []) due_).0 in
    let other = (none_due (default_refusal name) (find_refusal F 0 name ∷ []) released).0 in
    let mine = subst (λ o. IsSomeAnd o (IsOwn 0 name)) is.at own in
    let has = known-handle 0 a.books k name id all.own (is.it, is.at, mine) in
    let found = (none_due (find_refusal F 0 name) [] (none_due (default_refusal name) (find_refusal F 0 name ∷ []) released).1).0 in
    let free = change-free s a.books k all.knows all.own name
    (none_due-next (find_refusal F 0 name) (dropped_refusal F 0 name ∷ []) found (none_due (release_refusal F 0 name) (dropped_refusal F 0 name ∷ []) due_).1) in
    drop-answers s a.books b.books k all next.after name id is has (free.2 c (drop-is told a.books k all name other))
