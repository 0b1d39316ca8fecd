-- Reads of the store, and the replies.
use Rattle.std.proofs.Common.{◌≡◌, ◌⊎◌, inl, inr, ⊎_elim, ℕ, Bool, true, false, List, [], ◌∷◌, length, Option, Some, None, refl, sym, ◌∙◌, ap, subst, cond, ◌&&◌}
use Rattle.std.specs.Prelude.{IfOk, IsSomeAnd, Result, Ok, Err, is_some, nat_le, option_map, slice_get}
use Rattle.sv_model.specs.declared.records.Family.{Family}
use Rattle.sv_model.specs.declared.refusals.Refusal.{Refusal}
use Rattle.sv_model.specs.declared.refusals.Refusal.TheVariants as refusal
use Rattle.sv_model.specs.declared.keys.TheConstants.{MAX_KEY}
use Rattle.sv_model.specs.Books.{Books}
use Rattle.sv_model.specs.Families.{IsOwn}
use Rattle.sv_model.specs.Files.{Files}
use Rattle.sv_model.specs.HeldFiles.{LiveAreHeld}
use Rattle.sv_model.specs.Journal.{look}
use Rattle.sv_model.specs.Lawful.{Lawful}
use Rattle.sv_model.specs.Refusals.{IsDue, key_refusal}
use Rattle.sv_model.proofs.AfterLaws.{after-itself}
use Rattle.sv_family.specs.Refused.{find_refusal}
use Rattle.sv_store.specs.declared.reads.Got.{Got}
use Rattle.sv_store.specs.Reading.{Finds, GetStops, Gets, IsEnd, NamesFile, RefusesOr, Stops, StopsAtFile}
use Rattle.sv_script.specs.declared.commands.Command.{Command}
use Rattle.sv_script.specs.declared.commands.Command.TheVariants as command
use Rattle.sv_script.specs.declared.replies.Reply.{Reply}
use Rattle.sv_script.specs.declared.replies.Reply.TheVariants as reply
use Rattle.sv_replies.specs.Answers.{Answers, KnowsAll}
use Rattle.sv_replies.specs.Due.{Cause, due, first_of, handle_cause, key_cause, no_handle, refuses}
use Rattle.sv_replies.specs.GetLaw as GetLaw
use Rattle.sv_replies.specs.GetLaw.{ReadMet}
use Rattle.sv_replies.specs.Known.{Known}
use Rattle.sv_replies.specs.ReadReply.{read_reply}
use Rattle.sv_replies.specs.ReplyFits.{MayRunOut, ReplyFits}
use Rattle.sv_replies.specs.Unread.{FindsUnread}
use Rattle.sv_replies.proofs.AnswersLaws.{get-answers, keeps-same, refused-answers}
use Rattle.sv_replies.proofs.DueLemmas.{first-here, first-next, get-free, handle-due, key-free, known-handle}
use Rattle.sv_replies.proofs.GetLemmas.{current-gets, current-of}
use Rattle.sv_replies.proofs.MetLaws.{fits_due, fits_met, through}
use Rattle.sv_answers.specs.Answered.{IsHeld, alone}
use Rattle.sv_answers.proofs.HandleLemmas.{find-fits}
use Rattle.sv_answers.proofs.RefusalCases.{due-or}

-- ---- refusals

-- a refusal of a read at a file, as the reply has it
pub read-met : (told : Option Files) (b : Books) (family : ℕ) (key : List ℕ) (cut : ℕ) (e : Refusal) → IsHeld b told
    → StopsAtFile b told family key cut e → ReadMet (alone (is_some told)) b e family
read-met told b family key cut e held stops = by e stops.names stops.held
  where
    untold : (told : Option Files) → ((all : Files) → told ≡ Some all → ⊥) → is_some told ≡ false
    untold None none = refl
    untold (Some all) none = absurd (none all refl)

    by : (e : Refusal) → NamesFile b family stops.version e
        → ((all : Files) → told ≡ Some all → LiveAreHeld b all → (number place : ℕ) → e ≡ refusal.BadFile number place → ⊥)
        → ReadMet (alone (is_some told)) b e family
    by (refusal.DirFault number) names good = names.1
    by (refusal.BadFile number place) names good = (untold told (λ all is. good all is (held all is) number place refl), names.1)
    by e names good = absurd names

pub stops-or : (told : Option Files) (b : Books) (family : ℕ) (key : List ℕ) (cut : ℕ) (e : Refusal) → Stops b told family key cut e
    → (e ≡ refusal.OutOfMemory) ⊎ StopsAtFile b told family key cut e
stops-or told b family key cut refusal.OutOfMemory h = inl refl
stops-or told b family key cut e h = inr h

-- ---- gets

module _ (told : Option Files) (b : Books) (law : Lawful b) (held : IsHeld b told) (k : Known) (all : KnowsAll (alone (is_some told)) b k) (name key : List ℕ)
    (in_key : key_refusal (length key) ≡ None) where
  none-due : k.handles name ≡ None → due k (command.Get name key) ≡ Some (no_handle name)
  none-due none =
      first-next (key_cause key) (handle_cause k name ∷ []) (key-free key in_key) ∙ first-here (handle_cause k name) [] (no_handle name) (handle-due k name none)

  pub looked : (f : ℕ) (got : Got) → Finds b told f key got.cut got.value got.sv → is_some told ≡ true → look b.journal f got.cut key ≡ got.value
  looked f got finds is = by told refl is
    where
      by : (o : Option Files) → told ≡ o → is_some o ≡ true → look b.journal f got.cut key ≡ got.value
      by (Some files) e t = finds.held files e (held files e)
      by None e t = let q : false ≡ true = t in absurd (cc)

  pub own-handle-of : (f : ℕ) → IsSomeAnd (slice_get b.families f) (IsOwn 0 name) → k.handles name ≡ Some f
  own-handle-of f own = by (slice_get b.families f) refl own
    where
      by : (o : Option Family) → slice_get b.families f ≡ o → IsSomeAnd o (IsOwn 0 name) → k.handles name ≡ Some f
      by (Some x) at is = known-handle 0 b k name f all.own (x, at, is)
      by None at is = absurd is

  found-answers : (got : Got) → Gets b told name key (IsEnd b) got
      → Answers (alone (is_some told)) b b k (command.Get name key) (read_reply got.value got.cut got.sv)
  found-answers got gets =
      let f = gets.family in
      let s = alone (is_some told) in
      let finds = gets.finds in
      let x = finds.through.super in
      let current = finds.through.current in
      let has = own-handle-of f gets.own in
      let unread : FindsUnread b f key got.value got.cut x =
      record { version = finds.version; at = finds.through.version_at; above = finds.above; alone = finds.alone } in
      let is = current-gets b law f got.sv x current s k key got.value all.knows
      (subst (λ n. s.told ≡ true → look b.journal f n key ≡ got.value) gets.cut_is (looked f got finds))
      (subst (λ n. FindsUnread b f key got.value n x) gets.cut_is unread) in
      get-answers s b b k name key f got.value got.cut got.sv all (after-itself b) (keeps-same 0 b) has (get-free k name key f in_key has)
      (subst (λ n. GetLaw.Gets s b k key got.value n got.sv f) (sym gets.cut_is) is)
      (x, current.has, current-of b law f got.sv x current) (λ one. gets.cut_is)

  stop-fits : (e : Refusal) → GetStops b told name key (IsEnd b) e
      → ReplyFits (alone (is_some told)) b k (command.Get name key) (reply.Refused e)
  stop-fits e h = ⊎_elim
      (λ out. subst (λ z. ReplyFits (alone (is_some told)) b k (command.Get name key) (reply.Refused z)) (sym out) tt)
      (λ stops.
      let has = own-handle-of h.family h.own in
      fits_met (alone (is_some told)) b k (command.Get name key) e (get-free k name key h.family in_key has)
      (through (k.handles name) h.family (ReadMet (alone (is_some told)) b e) has (read-met told b h.family key h.cut e held stops)))
      (stops-or told b h.family key h.cut e h.stops)

  refused-fits : (e : Refusal) → RefusesOr {T = Got} (find_refusal b.families 0 name) (GetStops b told name key (IsEnd b)) (Err e)
      → ReplyFits (alone (is_some told)) b k (command.Get name key) (reply.Refused e)
  refused-fits e h = by (find_refusal b.families 0 name) refl h
    where
      by : (o : Option Refusal) → find_refusal b.families 0 name ≡ o → RefusesOr {T = Got} o (GetStops b told name key (IsEnd b)) (Err e)
          → ReplyFits (alone (is_some told)) b k (command.Get name key) (reply.Refused e)
      by None is stops = stop-fits e stops
      by (Some d) is same = find-fits (alone (is_some told)) b k all.knows all.own name (command.Get name key) e (is ∙ ap Some (sym same)) none-due

abbrev pub got_reply : Result Got Refusal → Reply
got_reply (Ok got) = read_reply got.value got.cut got.sv
got_reply (Err e) = reply.Refused e

pub get-replies : (told : Option Files) (b : Books) → Lawful b → IsHeld b told → (k : Known) → KnowsAll (alone (is_some told)) b k
    → (name key : List ℕ) → key_refusal (length key) ≡ None → (r : Result Got Refusal)
    → IfOk r (Gets b told name key (IsEnd b))
    → RefusesOr (find_refusal b.families 0 name) (GetStops b told name key (IsEnd b)) r
    → Answers (alone (is_some told)) b b k (command.Get name key) (got_reply r)
get-replies told b law held k all name key in_key (Ok got) found refused = found-answers told b law held k all name key in_key got found
get-replies told b law held k all name key in_key (Err e) found refused =
    refused-answers (alone (is_some told)) b b k (command.Get name key) e all (after-itself b) (keeps-same 0 b)
    (refused-fits told b law held k all name key in_key e refused)

-- ---- what is no key

pub no-want : (n : ℕ) (e : Refusal) → key_refusal n ≡ Some e → e ≡ refusal.OutOfMemory → ⊥
no-want n e h = by (nat_le 1 n && nat_le n MAX_KEY) h
  where
    by : (d : Bool) → cond d None (Some (refusal.KeyLength n)) ≡ Some e → e ≡ refusal.OutOfMemory → ⊥
    by true h out = let q : None ≡ Some e = h in absurd (cc)
    by false h out = let q : Some (refusal.KeyLength n) ≡ Some e = h in let z : refusal.KeyLength n ≡ refusal.OutOfMemory = cc in absurd (cc)

-- a command that is refused first for its key
pub key-replies : (told : Bool) (b : Books) (k : Known) (c : Command) (key : List ℕ) (rest : List (Option Cause)) (e : Refusal)
    → KnowsAll (alone told) b k → due k c ≡ first_of (key_cause key ∷ rest) → MayRunOut c → IsDue (key_refusal (length key)) e
    → Answers (alone told) b b k c (reply.Refused e)
key-replies told b k c key rest e all is out h =
    refused-answers (alone told) b b k c e all (after-itself b) (keeps-same 0 b)
    (⊎_elim
    (λ q. subst (λ z. ReplyFits (alone told) b k c (reply.Refused z)) (sym q) out)
    (λ q. fits_due (alone told) b k c (refuses e) e (is ∙ first-here (key_cause key) rest (refuses e) (ap (option_map refuses) q)) (no-want (length key) e q) refl)
    (due-or (key_refusal (length key)) e h))

-- the same of a key that was made of the bytes
pub get-replies-as : (told : Option Files) (b : Books) → Lawful b → IsHeld b told → (k : Known) → KnowsAll (alone (is_some told)) b k
    → (name key made : List ℕ) → made ≡ key → key_refusal (length key) ≡ None → (r : Result Got Refusal)
    → IfOk r (Gets b told name made (IsEnd b))
    → RefusesOr (find_refusal b.families 0 name) (GetStops b told name made (IsEnd b)) r
    → Answers (alone (is_some told)) b b k (command.Get name key) (got_reply r)
get-replies-as told b law held k all name key made same in_key r found refused =
    get-replies told b law held k all name key in_key r
    (subst (λ z. IfOk r (Gets b told name z (IsEnd b))) same found)
    (subst (λ z. RefusesOr {T = Got} (find_refusal b.families 0 name) (GetStops b told name z (IsEnd b)) r) same refused)
