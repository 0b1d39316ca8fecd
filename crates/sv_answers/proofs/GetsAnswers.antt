-- Reads of the store at a snapshot, and the replies.
use Rattle.std.proofs.Common.{◌≡◌, ⊎_elim, ℕ, Bool, true, false, not, List, [], ◌∷◌, length, Option, Some, None, refl, sym, ◌∙◌, ap, subst}
use Rattle.std.specs.Prelude.{IfOk, Result, Ok, Err, is_some}
use Rattle.sv_model.specs.declared.refusals.Refusal.{Refusal}
use Rattle.sv_model.specs.declared.refusals.Refusal.TheVariants as refusal
use Rattle.sv_model.specs.declared.records.Snapshot.{Snapshot}
use Rattle.sv_model.specs.Books.{Books}
use Rattle.sv_model.specs.Files.{Files}
use Rattle.sv_model.specs.Journal.{look}
use Rattle.sv_model.specs.Lawful.{Lawful}
use Rattle.sv_model.specs.Registers.{entry}
use Rattle.sv_model.specs.Refusals.{first_due, key_refusal}
use Rattle.sv_model.proofs.AfterLaws.{after-itself}
use Rattle.sv_model.proofs.Entries.{some}
use Rattle.sv_family.specs.Refused.{find_refusal}
use Rattle.sv_journal.specs.Calls.{is_live_snapshot, snapshot_refusal}
use Rattle.sv_state.specs.Taken.{IsCut}
use Rattle.sv_store.specs.declared.reads.Got.{Got}
use Rattle.sv_store.specs.Reading.{GetStops, Gets, RefusesOr}
use Rattle.sv_script.specs.declared.commands.Command.TheVariants as command
use Rattle.sv_script.specs.declared.replies.Reply.TheVariants as reply
use Rattle.sv_replies.specs.Answers.{Answers, KnowsAll}
use Rattle.sv_replies.specs.Due.{due, handle_cause, key_cause, no_handle}
use Rattle.sv_replies.specs.GetLaw.{ReadMet}
use Rattle.sv_replies.specs.GetsLaw as GetsLaw
use Rattle.sv_replies.specs.GetsLaw.{GetsMet}
use Rattle.sv_replies.specs.Known.{Known}
use Rattle.sv_replies.specs.ReadReply.{read_reply}
use Rattle.sv_replies.specs.ReplyFits.{ReplyFits}
use Rattle.sv_replies.specs.SnapLaw.{MayUse}
use Rattle.sv_replies.specs.Unread.{FindsUnread}
use Rattle.sv_replies.proofs.AnswersLaws.{keeps-same, refused-answers}
use Rattle.sv_replies.proofs.AnswersOfReads.{gets-answers}
use Rattle.sv_replies.proofs.DueLemmas.{first-here, first-next, gets-free, handle-due, key-free}
use Rattle.sv_replies.proofs.GetLemmas.{current-of}
use Rattle.sv_replies.proofs.GetsLemmas.{current-gets_at}
use Rattle.sv_replies.proofs.MetLaws.{fits_met, through}
use Rattle.sv_answers.specs.Answered.{IsHeld, alone}
use Rattle.sv_answers.proofs.HandleLemmas.{find-fits, handle-is}
use Rattle.sv_answers.proofs.HoldAnswers.{none-such}
use Rattle.sv_answers.proofs.ReadAnswers.{got_reply, looked, own-handle-of, read-met, stops-or}
use Rattle.sv_answers.proofs.RefusalCases.{first-then, last-due, negated, test-due}

module _ (told : Option Files) (b : Books) (law : Lawful b) (held : IsHeld b told) (k : Known) (all : KnowsAll (alone (is_some told)) b k) (n : ℕ) (name key : List ℕ)
    (in_key : key_refusal (length key) ≡ None) where
  none-due : k.handles name ≡ None → due k (command.Gets n name key) ≡ Some (no_handle name)
  none-due none =
      first-next (key_cause key) (handle_cause k name ∷ []) (key-free key in_key) ∙ first-here (handle_cause k name) [] (no_handle name) (handle-due k name none)

  -- the lane may read at a snapshot that is Live
  may-use : (x : Snapshot) → entry b.snapshots n ≡ Some x → x.live ≡ true → MayUse (alone (is_some told)) k n
  may-use x at live = record { stays = by (k.ended n) refl; alone = λ one. (all.alone refl).taken n x at }
    where
      by : (e : Bool) → k.ended n ≡ e → k.ended n ≡ false
      by false q = q
      by true q =
          let over = all.knows.ended n q in
          let same : over.0 ≡ x = some (sym over.1 ∙ at) in
          let z : false ≡ true = sym over.2 ∙ ap (λ (s : Snapshot). s.live) same ∙ live in
          absurd (cc)

  found-answers : (got : Got) → Gets b told name key (IsCut b n) got
      → Answers (alone (is_some told)) b b k (command.Gets n name key) (read_reply got.value got.cut got.sv)
  found-answers got gets =
      let f = gets.family in
      let s = alone (is_some told) in
      let finds = gets.finds in
      let cut = gets.cut_is in
      let x = finds.through.super in
      let current = finds.through.current in
      let has = own-handle-of told b law held k all name key in_key f gets.own in
      let unread : FindsUnread b f key got.value got.cut x =
      record { version = finds.version; at = finds.through.version_at; above = finds.above; alone = finds.alone } in
      let is = current-gets_at b law f got.sv x current s k n cut.it key got.value all.knows (may-use cut.it cut.found cut.live) cut.found
      (subst (λ m. s.told ≡ true → look b.journal f m key ≡ got.value) cut.is (looked told b law held k all name key in_key f got finds))
      (subst (λ m. FindsUnread b f key got.value m x) cut.is unread) in
      gets-answers s b b k all (after-itself b) (keeps-same 0 b) n cut.it name key f got.value got.cut got.sv has (gets-free k name n key f in_key has)
      (subst (λ m. GetsLaw.GetsAt s b k n key got.value m got.sv f) (sym cut.is) is) cut.found
      (x, current.has, current-of b law f got.sv x current)

  -- a read that stopped at a file, or for want of memory
  stop-fits : (e : Refusal) → GetStops b told name key (IsCut b n) e
      → ReplyFits (alone (is_some told)) b k (command.Gets n name key) (reply.Refused e)
  stop-fits e h = ⊎_elim
      (λ out. subst (λ z. ReplyFits (alone (is_some told)) b k (command.Gets n name key) (reply.Refused z)) (sym out) tt)
      (λ stops.
      let has = own-handle-of told b law held k all name key in_key h.family h.own in
      fits_met (alone (is_some told)) b k (command.Gets n name key) e (gets-free k name n key h.family in_key has)
      (through (k.handles name) h.family (GetsMet (alone (is_some told)) b k n e) has (as-read e h.family (read-met told b h.family key h.cut e held stops))))
      (stops-or told b h.family key h.cut e h.stops)
    where
      as-read : (e : Refusal) (f : ℕ) → ReadMet (alone (is_some told)) b e f → GetsMet (alone (is_some told)) b k n e f
      as-read refusal.NoSnapshot f met = absurd met
      as-read e f met = met

  missing-fits : (e : Refusal) → find_refusal b.families 0 name ≡ None → snapshot_refusal b.snapshots n ≡ Some e
      → ReplyFits (alone (is_some told)) b k (command.Gets n name key) (reply.Refused e)
  missing-fits e found h =
      let t = test-due (not (is_live_snapshot b.snapshots n)) (Some refusal.NoSnapshot) e h in
      let same : refusal.NoSnapshot ≡ e = (let q : Some refusal.NoSnapshot ≡ Some e = t.1 in cc) in
      let f = handle-is (alone (is_some told)) b k all.knows all.own name found in
      subst (λ z. ReplyFits (alone (is_some told)) b k (command.Gets n name key) (reply.Refused z)) same
      (fits_met (alone (is_some told)) b k (command.Gets n name key) refusal.NoSnapshot (gets-free k name n key f.0 in_key f.1)
      (through (k.handles name) f.0 (GetsMet (alone (is_some told)) b k n refusal.NoSnapshot) f.1
      (none-such (is_some told) b k all n (negated (is_live_snapshot b.snapshots n) t.0))))

  refused-fits : (e : Refusal)
      → RefusesOr {T = Got} (first_due (find_refusal b.families 0 name ∷ snapshot_refusal b.snapshots n ∷ [])) (GetStops b told name key (IsCut b n)) (Err e)
      → ReplyFits (alone (is_some told)) b k (command.Gets n name key) (reply.Refused e)
  refused-fits e h = by (first_due (find_refusal b.families 0 name ∷ snapshot_refusal b.snapshots n ∷ [])) refl h
    where
      by : (o : Option Refusal) → first_due (find_refusal b.families 0 name ∷ snapshot_refusal b.snapshots n ∷ []) ≡ o
          → RefusesOr {T = Got} o (GetStops b told name key (IsCut b n)) (Err e)
          → ReplyFits (alone (is_some told)) b k (command.Gets n name key) (reply.Refused e)
      by None is stops = stop-fits e stops
      by (Some d) is same = ⊎_elim
          (λ q. find-fits (alone (is_some told)) b k all.knows all.own name (command.Gets n name key) e q none-due)
          (λ t. missing-fits e t.0 (last-due (snapshot_refusal b.snapshots n) e t.1))
          (first-then (find_refusal b.families 0 name) (snapshot_refusal b.snapshots n ∷ []) e (is ∙ ap Some (sym same)))

pub gets-replies : (told : Option Files) (b : Books) → Lawful b → IsHeld b told → (k : Known) → KnowsAll (alone (is_some told)) b k
    → (n : ℕ) (name key made : List ℕ) → made ≡ key → key_refusal (length key) ≡ None → (r : Result Got Refusal)
    → IfOk r (Gets b told name made (IsCut b n))
    → RefusesOr (first_due (find_refusal b.families 0 name ∷ snapshot_refusal b.snapshots n ∷ [])) (GetStops b told name made (IsCut b n)) r
    → Answers (alone (is_some told)) b b k (command.Gets n name key) (got_reply r)
gets-replies told b law held k all n name key made same in_key (Ok got) found refused =
    found-answers told b law held k all n name key in_key got (subst (λ z. Gets b told name z (IsCut b n) got) same found)
gets-replies told b law held k all n name key made same in_key (Err e) found refused =
    refused-answers (alone (is_some told)) b b k (command.Gets n name key) e all (after-itself b) (keeps-same 0 b)
    (refused-fits told b law held k all n name key in_key e
    (subst (λ z. RefusesOr {T = Got} (first_due (find_refusal b.families 0 name ∷ snapshot_refusal b.snapshots n ∷ [])) (GetStops b told name z (IsCut b n)) (Err e)) same refused))
