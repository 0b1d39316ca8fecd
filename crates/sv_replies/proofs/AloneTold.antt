-- Where no other lane is: what a lane was told goes on by one reply, and fits as the replies of all lanes.
use Rattle.std.proofs.Common.{◌≡◌, ◌<◌, ◌≤◌, ◌+◌, inl, inr, ℕ, suc, zero, Bool, List, [], ◌∷◌, ◌++◌, length, map, Option, Some, None, refl, sym, ◌∙◌, ap, subst, arith, eq-eqb, cond, ◌==◌}
use Rattle.std.specs.Prelude.{IsSomeAnd, slice_get}
use Rattle.std.specs.List.Sorted.{IsStrictlyIncreasing}
use Rattle.std.proofs.lemmas.Bool.{cases_lt}
use Rattle.sv_model.specs.declared.records.FileStatus.TheVariants.{Gone}
use Rattle.sv_model.specs.declared.writes.Write.{Write}
use Rattle.sv_model.specs.After.{After}
use Rattle.sv_model.specs.Books.{Books}
use Rattle.sv_model.specs.Journal.{Change, by_lane, change_of, of_family}
use Rattle.sv_model.specs.Lawful.{Lawful}
use Rattle.sv_model.specs.Lists.{Distinct, Every, In}
use Rattle.sv_model.specs.Numbers.{IsRegistered}
use Rattle.sv_model.specs.Openings.{opening_books}
use Rattle.sv_model.proofs.Entries.{get_none, get_one}
use Rattle.sv_script.specs.Answered.{Answered}
use Rattle.sv_script.specs.declared.commands.Command.{Command}
use Rattle.sv_script.specs.declared.commands.Command.TheVariants as command
use Rattle.sv_script.specs.declared.replies.Reply.{Reply}
use Rattle.sv_script.specs.declared.replies.Reply.TheVariants as reply
use Rattle.sv_replies.specs.Answers.{Answers, Finds, NoneGone, SeesEnd}
use Rattle.sv_replies.specs.GetsSeeAll.{SeesAll, count_in}
use Rattle.sv_replies.specs.Known.{Known, known_after}
use Rattle.sv_replies.specs.LanesFit.{LanesFit, accepted, ended_by, purged_by}
use Rattle.sv_replies.specs.Moments.{IsIn}
use Rattle.sv_replies.specs.ReplyFits.{ReplyFits}
use Rattle.sv_replies.specs.Settings.{Setting}
use Rattle.sv_replies.specs.SnapLaw.{IsOver}
use Rattle.sv_replies.specs.Told.{AloneTold, AreGone, AreOver, LaneTold}
use Rattle.sv_replies.proofs.OnceLemmas.{ended-once, one-distinct, purged-once}
use Rattle.sv_replies.proofs.OneLane.{one-lane}
use Rattle.sv_replies.proofs.SeesLaws.{count-changes, sees-push}
use Rattle.sv_replies.proofs.ToldLaws.{lane_told-none, lane_told-push}

-- ---- all writes are the lane's

own-all : (lane : ℕ) (journal : List Write) → Every (λ (w : Write). w.lane ≡ lane) journal → by_lane lane journal ≡ journal
own-all lane [] h = refl
own-all lane (w ∷ journal) h =
    ap (λ q. cond q (w ∷ by_lane lane journal) (by_lane lane journal)) (eq-eqb w.lane lane (h 0 w refl))
    ∙ ap (λ (l : List Write). w ∷ l) (own-all lane journal (λ i x e. h (suc i) x e))

get-front : (xs ys : List Write) (n : ℕ) → n < length xs → slice_get (xs ++ ys) n ≡ slice_get xs n
get-front [] ys n lt = absurd (omega (arith, lt))
get-front (x ∷ xs) ys zero lt = refl
get-front (x ∷ xs) ys (suc n) lt = get-front xs ys n (omega (arith, lt))

writes-push : (lane : ℕ) (a b : Books) → After a b → Every (λ (w : Write). w.lane ≡ lane) a.journal
    → ((n : ℕ) (w : Write) → length a.journal ≤ n → slice_get b.journal n ≡ Some w → w.lane ≡ lane)
    → Every (λ (w : Write). w.lane ≡ lane) b.journal
writes-push lane a b after old new n w at = elim (cases_lt n (length a.journal)) [
  | inl lt ↦ old n w (sym (get-front a.journal after.journal.0 n lt) ∙ (ap (λ (l : List Write). slice_get l n) (sym after.journal.1) ∙ at))
  | inr ge ↦ new n w (omega (arith, ge)) at
]

-- ---- gets

some-map : (o : Option ℕ) (P Q : ℕ → Type 0) → ((f : ℕ) → P f → Q f) → IsSomeAnd o P → IsSomeAnd o Q
some-map None P Q to h = absurd h
some-map (Some f) P Q to h = to f h

module _ (s : Setting) (one : s.lanes ≡ 1) (a : Books) (all : List Answered) (journal : map change_of a.journal ≡ accepted all) where
  sees-end : (name : List ℕ) (cut : ℕ) → SeesEnd a (known_after all) name cut
      → IsSomeAnd ((known_after all).handles name) (λ f. cut ≡ count_in f (accepted all))
  sees-end name cut h =
      some-map ((known_after all).handles name) (λ f. cut ≡ length (of_family f a.journal)) (λ f. cut ≡ count_in f (accepted all))
      (λ f e. e ∙ sym (count-changes f a.journal) ∙ ap (count_in f) journal) h

  sees-found : (c : Command) (r : Reply) → Finds s a (known_after all) c r → SeesAll (known_after all) (accepted all) c r
  sees-found (command.Get name key) (reply.Found value cut sv) h = sees-end name cut (h one)
  sees-found (command.Get name key) (reply.Absent cut sv) h = sees-end name cut (h one)
  sees-found c r h = tt

-- ---- what went

-- the numbers are new, and went
record HaveGone (a b : Books) (numbers : List ℕ) : Type 0 where
  rising : IsStrictlyIncreasing numbers
  new : NoneGone a numbers
  gone : AreGone b numbers

none-gone : (a b : Books) → HaveGone a b []
none-gone a b = record {
  rising = λ i lt. absurd (omega (arith, lt));
  new = λ n has is. get_none has.at n has.is;
  gone = λ n has. absurd (get_none has.at n has.is);
}

module _ (s : Setting) (a b : Books) (k : Known) where
  have-gone : (c : Command) (r : Reply) → ReplyFits s b k c r → Finds s a k c r → HaveGone a b (purged_by r)
  have-gone command.Purge (reply.Purge numbers) fits finds = record { rising = fits.1.rising; new = finds; gone = fits.1.gone }
  have-gone command.Scan (reply.Scan numbers) fits finds = record { rising = fits.1.rising; new = finds; gone = fits.1.gone }
  have-gone c (reply.Purge numbers) fits finds = absurd fits.1
  have-gone c (reply.Scan numbers) fits finds = absurd fits.1
  have-gone c r fits finds = none-gone a b

  still-there : (c : Command) (r : Reply) → Finds s a k c r → (n : ℕ) → In n (ended_by c r) → IsIn IsOver a.snapshots n → ⊥
  still-there (command.Unsnap m) reply.Unsnap finds n has over =
      finds (subst (λ i. IsIn IsOver a.snapshots i) ((get_one m has.at n has.is).1) over)
  still-there c r finds n has over = absurd (let e = has.is in cc)

  each-once : (c : Command) (r : Reply) → Distinct (ended_by c r)
  each-once (command.Unsnap m) reply.Unsnap = one-distinct m
  each-once c r = λ i j x p q. absurd (get_none i x p)

  are-over : (c : Command) (r : Reply) → ReplyFits s b k c r → AreOver b (ended_by c r)
  are-over (command.Unsnap m) reply.Unsnap fits n has =
      subst (λ i. IsIn IsOver b.snapshots i) (sym ((get_one m has.at n has.is).1)) fits.1.over
  are-over c r fits n has = absurd (let e = has.is in cc)

-- ---- all together

pub alone-push : (s : Setting) (a b : Books) (all : List Answered) (x : Answered) → s.lanes ≡ 1 → Lawful a → Lawful b
    → After a b → AloneTold s a all → Answers s a b (known_after all) x.command x.reply → AloneTold s b (all ++ x ∷ [])
alone-push s a b all x one law still after told answers =
    let k = known_after all in
    let went = have-gone s a b k x.command x.reply answers.fits answers.finds in
    let purged = purged-once a b all x after told.purged told.purged_once went.rising went.new went.gone in
    let ended = ended-once a b all x after told.ended told.ended_once (each-once s a b k x.command x.reply)
    (still-there s a b k x.command x.reply answers.finds) (are-over s a b k x.command x.reply answers.fits) in
    let whole : map change_of a.journal ≡ accepted all = ap (map change_of) (sym (own-all s.lane a.journal told.writes)) ∙ told.lane.journal in
    record {
      lane = lane_told-push s a b all x law still after told.lane answers;
      writes = writes-push s.lane a b after told.writes answers.own;
      sees = sees-push all x told.sees (sees-found s one a all whole x.command x.reply answers.finds);
      purged_once = purged.0;
      purged = purged.1;
      ended_once = ended.0;
      ended = ended.1;
    }

-- of a database that begins empty
pub alone-none : (s : Setting) (next : ℕ) → s.lane < 32 → 1 ≤ next → next ≤ 18446744073709551615
    → AloneTold s (opening_books next) []
alone-none s next within least most = record {
  lane = lane_told-none s next within least most;
  writes = λ i w e. absurd (get_none i w e);
  sees = λ n a e. absurd (get_none n a e);
  purged_once = λ i j x p q. absurd (get_none i x p);
  purged = λ n has. absurd (get_none has.at n has.is);
  ended_once = λ i j x p q. absurd (get_none i x p);
  ended = λ n has. absurd (get_none has.at n has.is);
}

-- its replies fit as those of all lanes
pub alone-fits : (told : Bool) (b : Books) (all : List Answered) → AloneTold (record { lane = 0; lanes = 1; told = told }) b all
    → LanesFit told b (all ∷ [])
alone-fits told b all h =
    one-lane told b all h.lane.told.fits h.lane.journal (λ i w e. inl (let mine = h.writes i w e in omega (arith, mine))) h.purged_once h.ended_once
