-- Where one lane is, its replies fit as those of all lanes.
use Rattle.std.proofs.Common.{◌≡◌, ℕ, Bool, true, false, List, [], ◌∷◌, length, map, Option, Some, None, refl, sym, ◌∙◌, ap, subst}
use Rattle.std.specs.Prelude.{slice_get, take, cond, is_none, nat_le, ◌&&◌, IsSomeAnd}
use Rattle.sv_model.specs.declared.refusals.Refusal.TheVariants as refusal
use Rattle.sv_model.specs.Books.{Books}
use Rattle.sv_model.specs.Journal.{by_lane, change_of}
use Rattle.sv_model.specs.Lists.{Distinct, Every, In}
use Rattle.sv_model.proofs.Entries.{get_one}
use Rattle.sv_script.specs.Answered.{Answered}
use Rattle.sv_script.specs.declared.commands.Command.{Command}
use Rattle.sv_script.specs.declared.commands.Command.TheVariants as command
use Rattle.sv_script.specs.declared.replies.Reply.{Reply}
use Rattle.sv_script.specs.declared.replies.Reply.TheVariants as reply
use Rattle.sv_replies.specs.Due.{cause_where, due, first_of, no_handle, of_refusal}
use Rattle.sv_replies.specs.Known.{Known, known_after}
use Rattle.sv_replies.specs.LanesFit.{IsOfLanes, LanesFit, accepted, ended_of, missing_in, purged_of}
use Rattle.sv_replies.specs.ReplyFits.{Refused, RepliesFit, ReplyFits}
use Rattle.sv_replies.specs.Settings.{Setting}
use Rattle.sv_replies.specs.SnapLaw.{NoSuch}
use Rattle.sv_replies.proofs.EndedLemmas.{ended-front, ended-shown}
use Rattle.sv_replies.proofs.OnceLemmas.{ended-alone, purged-alone}

abbrev only : Bool → Setting
only told = record { lane = 0; lanes = 1; told = told }

some_is : (o : Option ℕ) (X : Type 0) → IsSomeAnd o (λ f. X) → X
some_is None X h = absurd h
some_is (Some f) X h = h

-- a read at a snapshot that there is none of, after the tests of its words
at_gets : (told : Bool) (b : Books) (k : Known) (m : ℕ) (name key : List ℕ)
    → Refused (only told) b k (command.Gets m name key) refusal.NoSnapshot (due k (command.Gets m name key))
    → NoSuch (only told) b k m
at_gets told b k m name key = by (nat_le 1 (length key) && nat_le (length key) 64) (k.handles name)
  where
    by : (ok : Bool) (o : Option ℕ)
        → Refused (only told) b k (command.Gets m name key) refusal.NoSnapshot (first_of (of_refusal (cond ok None (Some (refusal.KeyLength (length key)))) ∷ cause_where (is_none o) (no_handle name) ∷ []))
        → NoSuch (only told) b k m
    by false o h = absurd (cc)
    by true None h = absurd h
    by true (Some f) h = some_is (k.handles name) (NoSuch (only told) b k m) h

-- what a reply that fits says of a snapshot that it misses
missed : (told : Bool) (b : Books) (k : Known) (c : Command) (r : Reply) (n : ℕ) → ReplyFits (only told) b k c r
    → In n (missing_in c r) → k.snapshots n ≡ true → k.ended n ≡ true
missed told b k (command.Unsnap m) (reply.Refused refusal.NoSnapshot) n fits has shown =
    let same = (get_one m has.at n has.is).1 in
    subst (λ i. k.ended i ≡ true) (sym same) (fits.alone refl (subst (λ i. k.snapshots i ≡ true) same shown))
missed told b k (command.Gets m name key) (reply.Refused refusal.NoSnapshot) n fits has shown =
    let same = (get_one m has.at n has.is).1 in
    subst (λ i. k.ended i ≡ true) (sym same) ((at_gets told b k m name key fits).alone refl (subst (λ i. k.snapshots i ≡ true) same shown))
missed told b k c r n fits has shown = absurd (let e = has.is in cc)

-- The lane's replies fit, its accepted writes are the journal, and no number and no snapshot went twice.
pub one-lane : (told : Bool) (b : Books) (all : List Answered) → RepliesFit (only told) b all
    → map change_of (by_lane 0 b.journal) ≡ accepted all → Every (IsOfLanes 1) b.journal
    → Distinct (purged_of all) → Distinct (ended_of all) → LanesFit told b (all ∷ [])
one-lane told b all fits journal writes purged_once ended_once = record {
  each = λ lane l at.
      let is = get_one all lane l at in
      subst (λ (z : List Answered). RepliesFit (record { lane = lane; lanes = 1; told = told }) b z) (sym is.1)
      (subst (λ i. RepliesFit (record { lane = i; lanes = 1; told = told }) b all) (sym is.0) fits);
  journal = record {
    each = λ lane l at.
        let is = get_one all lane l at in
        ap (λ i. map change_of (by_lane i b.journal)) is.0 ∙ journal ∙ ap accepted (sym is.1);
    only = writes;
  };
  purged_once = subst (λ (z : List ℕ). Distinct z) (sym (purged-alone all)) purged_once;
  ended_once = subst (λ (z : List ℕ). Distinct z) (sym (ended-alone all)) ended_once;
  missing = λ lane n snapshot l a at here has shown.
      let is = get_one all lane l at in
      let place : slice_get all n ≡ Some a = ap (λ (z : List Answered). slice_get z n) (sym is.1) ∙ here in
      let once : (known_after (take n all)).snapshots snapshot ≡ true = ap (λ (z : List Answered). (known_after (take n z)).snapshots snapshot) (sym is.1) ∙ shown in
      subst (λ (z : List ℕ). In snapshot z) (sym (ended-alone all))
      (ended-front snapshot all n
      (ended-shown snapshot (take n all) (missed told b (known_after (take n all)) a.command a.reply snapshot (fits n a place) has once)));
}
