-- Gets see all that was accepted before them, reply by reply.
use Rattle.std.proofs.Common.{◌≡◌, ◌==◌, ℕ, suc, Bool, true, false, cond, List, [], ◌∷◌, ◌++◌, length, map, Option, Some, None, refl, sym, ◌∙◌, ap}
use Rattle.std.specs.Prelude.{filter}
use Rattle.sv_model.specs.declared.writes.Write.{Write}
use Rattle.sv_model.specs.Books.{Books}
use Rattle.sv_model.specs.Journal.{Change, change_of, of_family}
use Rattle.sv_script.specs.Answered.{Answered}
use Rattle.sv_script.specs.declared.commands.Command.TheVariants as command
use Rattle.sv_replies.specs.GetsSeeAll.{GetsSeeAll, SeesAll, count_in}
use Rattle.sv_replies.specs.Known.{known_after}
use Rattle.sv_replies.specs.LanesFit.{accepted}
use Rattle.sv_replies.specs.ReadReply.{read_reply}
use Rattle.sv_replies.proofs.MetLaws.{through}
use Rattle.sv_replies.proofs.RepliesFitLaws.{each-push}

pub sees-push : (all : List Answered) (x : Answered) → GetsSeeAll all
    → SeesAll (known_after all) (accepted all) x.command x.reply → GetsSeeAll (all ++ x ∷ [])
sees-push all x each here =
    each-push (λ before a. SeesAll (known_after before) (accepted before) a.command a.reply) all x each here

pub count-changes : (f : ℕ) (journal : List Write) → count_in f (map change_of journal) ≡ length (of_family f journal)
count-changes f [] = refl
count-changes f (w ∷ journal) = by (w.family == f) (count-changes f journal)
  where
    by : (b : Bool) → count_in f (map change_of journal) ≡ length (of_family f journal)
        → length (cond b (change_of w ∷ filter (λ (c : Change). c.family == f) (map change_of journal)) (filter (λ (c : Change). c.family == f) (map change_of journal)))
        ≡ length (cond b (w ∷ of_family f journal) (of_family f journal))
    by true h = ap suc h
    by false h = h

-- A get at the end of a journal that is just the accepted writes sees all of them.
pub get-sees : (b : Books) (all : List Answered) (name key : List ℕ) (f : ℕ) (found : Option (List ℕ)) (cut sv : ℕ)
    → map change_of b.journal ≡ accepted all
    → (known_after all).handles name ≡ Some f → cut ≡ length (of_family f b.journal)
    → SeesAll (known_after all) (accepted all) (command.Get name key) (read_reply found cut sv)
get-sees b all name key f found cut sv journal has end = by found
  where
    whole : cut ≡ count_in f (accepted all)
    whole = end ∙ sym (count-changes f b.journal) ∙ ap (count_in f) journal

    by : (o : Option (List ℕ)) → SeesAll (known_after all) (accepted all) (command.Get name key) (read_reply o cut sv)
    by (Some value) = through ((known_after all).handles name) f (λ g. cut ≡ count_in g (accepted all)) has whole
    by None = through ((known_after all).handles name) f (λ g. cut ≡ count_in g (accepted all)) has whole
