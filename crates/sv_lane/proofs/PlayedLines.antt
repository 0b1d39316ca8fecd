-- The lines that were answered, one after another.
use Rattle.std.proofs.Common.{◌≡◌, ◌<◌, ◌+◌, ℕ, List, [], ◌∷◌, ◌++◌, is_some, length, take, get_or, refl, sym, ◌∙◌, ap, subst, arith}
use Rattle.std.proofs.lemmas.List.{length-take, map-append, take_more}
use Rattle.sv_model.specs.Books.{Books}
use Rattle.sv_model.specs.Faults.{RoseBy}
use Rattle.sv_model.specs.Steady.{Sound}
use Rattle.sv_model.proofs.Lists.{total-push}
use Rattle.sv_script.specs.Answered.{Answered, answered, dir_faults, fault_by}
use Rattle.sv_script.specs.declared.commands.Command.{Command}
use Rattle.sv_script.specs.declared.replies.Reply.{Reply}
use Rattle.sv_script.specs.declared.scripts.Line.{Line}
use Rattle.sv_replies.specs.Told.{AloneTold}
use Rattle.sv_replies.specs.Makes.{Makes, MakesAll, draws_by}
use Rattle.sv_replies.proofs.AloneTold.{alone-push}
use Rattle.sv_replies.proofs.GrowsLaws.{makes-none, makes-push}
use Rattle.sv_replies.specs.Known.{known_after}
use Rattle.sv_state.specs.Follows.{Follows}
use Rattle.sv_model.proofs.AfterLaws.{after-itself, after-through}
use Rattle.sv_store.proofs.AbsentFiles.{leaves-through, same-leaves}
use Rattle.sv_answers.specs.Answered.{CountsReply, IsAnswered, IsHeld, LeavesOthers, alone}
use Rattle.sv_lane.specs.Played.{Moment, Played}

-- what one command does
pub record Step (old new : Moment) (command : Command) (reply : Reply) : Type 0 where
  pub answered : IsHeld old.books old.files → IsAnswered (is_some old.files) old.books new.books command reply
  pub faults : CountsReply reply old.faults new.faults
  pub held : IsHeld old.books old.files → IsHeld new.books new.files
  pub told : is_some new.files ≡ is_some old.files
  pub others : LeavesOthers old.books new.books old.files new.files
  pub follows : Follows old.books new.books
  pub makes : Makes old.books new.books reply (draws_by command reply)

answered-push : (lines : List Line) (replies : List (ℕ × Reply)) (line : Line) (r : ℕ × Reply) → length lines ≡ length replies
    → answered (lines ++ line ∷ []) (replies ++ r ∷ []) ≡ answered lines replies ++ record { command = line.command; reply = r.1 } ∷ []
answered-push [] [] line r e = refl
answered-push [] (s ∷ replies) line r e = absurd (omega (arith, e))
answered-push (l ∷ lines) [] line r e = absurd (omega (arith, e))
answered-push (l ∷ lines) (s ∷ replies) line r e =
    ap (λ z. record { command = l.command; reply = s.1 } ∷ z) (answered-push lines replies line r (omega (arith, e)))

rose-on : (n m a b c : ℕ) → RoseBy n a b → RoseBy m b c → RoseBy (n + m) a c
rose-on n m a b c one two = omega (arith, one, two)

follows-on : (a m b : Books) → Follows a m → Follows m b → Follows a b
follows-on a m b h k = record { sound = k.sound; after = after-through a m b h.after k.after }

played-push : (start old new : Moment) (lines : List Line) (replies : List (ℕ × Reply)) (line : Line) (r : Reply) → length lines ≡ length replies
    → Played start old lines replies → Step old new line.command r → Played start new (lines ++ line ∷ []) (replies ++ (line.line, r) ∷ [])
played-push start old new lines replies line r e played step =
    let all = answered lines replies in
    let x : Answered = record { command = line.command; reply = r } in
    let pushed = answered-push lines replies line (line.line, r) e in
    let reply = subst (λ b. IsAnswered b old.books new.books line.command r) played.told (step.answered played.held) in
    record {
      numbers = map-append (λ (p : ℕ × Reply). p.0) replies ((line.line, r) ∷ []) ∙ ap (λ z. z ++ line.line ∷ []) played.numbers
          ∙ sym (map-append (λ (l : Line). l.line) lines (line ∷ []));
      lane = subst (AloneTold (alone (is_some start.files)) new.books) (sym pushed)
          (alone-push (alone (is_some start.files)) old.books new.books all x refl played.follows.sound.lawful step.follows.sound.lawful step.follows.after played.lane
          (reply (known_after all) played.lane.lane.known));
      told = step.told ∙ played.told;
      held = step.held played.held;
      others = leaves-through start.books old.books new.books step.follows.after start.files old.files new.files played.others step.others;
      later = omega (arith, played.later, step.faults.later);
      faults = subst (λ n. RoseBy n start.faults new.faults) (sym (ap dir_faults pushed ∙ total-push (λ (a : Answered). fault_by a.reply) all x))
          (rose-on (dir_faults all) (fault_by r) start.faults old.faults new.faults played.faults step.faults.rose);
      follows = follows-on start.books old.books new.books played.follows step.follows;
      makes = subst (λ (z : List Answered). MakesAll start.books new.books z) (sym pushed)
          (makes-push start.books old.books new.books all x step.follows.after.metas played.makes step.makes);
    }

-- one line more
pub played-more : (start old new : Moment) (lines : List Line) (replies : List (ℕ × Reply)) (i : ℕ) (line : Line) (r : Reply) → i < length lines
    → length replies ≡ i → line ≡ get_or lines i line → Played start old (take i lines) replies → Step old new line.command r
    → Played start new (take (i + 1) lines) (replies ++ (line.line, r) ∷ [])
played-more start old new lines replies i line r lt e is played step =
    subst (λ z. Played start new z (replies ++ (line.line, r) ∷ [])) (ap (λ z. take i lines ++ z ∷ []) is ∙ sym (take_more lines i line lt))
    (played-push start old new (take i lines) replies line r (omega (arith, length-take i lines, e)) played step)

-- before the first line
pub played-none : (s : Moment) (lines : List Line) → AloneTold (alone (is_some s.files)) s.books [] → IsHeld s.books s.files → Sound s.books
    → Played s s (take 0 lines) []
played-none s lines lane held sound = record {
  numbers = refl;
  lane = lane;
  told = refl;
  held = held;
  others = same-leaves s.books s.books (λ n has. has) s.files;
  later = omega arith;
  faults = omega arith;
  follows = record { sound = sound; after = after-itself s.books };
  makes = makes-none s.books;
}
