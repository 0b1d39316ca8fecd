-- What a lane was told stays so as the books go on, and goes on by one reply.
use Rattle.std.proofs.Common.{◌≡◌, ◌<◌, ◌≤◌, inl, inr, ℕ, zero, suc, List, [], ◌∷◌, ◌++◌, length, take, refl, sym, ◌∙◌, ap, subst, arith}
use Rattle.std.proofs.lemmas.Bool.{cases_lt}
use Rattle.std.proofs.lemmas.List.{length_push, take_all, take-append-le}
use Rattle.sv_model.specs.After.{After}
use Rattle.sv_model.specs.Books.{Books}
use Rattle.sv_model.specs.Journal.{Change}
use Rattle.sv_model.specs.Lawful.{Lawful}
use Rattle.sv_model.specs.Openings.{opening_books}
use Rattle.sv_model.proofs.Entries.{get_none}
use Rattle.sv_laws.proofs.Opened.{first-opening}
use Rattle.sv_script.specs.Answered.{Answered}
use Rattle.sv_replies.specs.Answers.{Answers, KnowsAll}
use Rattle.sv_replies.specs.Known.{Known, at_first, known_after, learn}
use Rattle.sv_replies.specs.Knows.{Knows}
use Rattle.sv_replies.specs.LanesFit.{change_asked}
use Rattle.sv_replies.specs.ReplyFits.{ReplyFits}
use Rattle.sv_replies.specs.Settings.{Setting}
use Rattle.sv_replies.specs.Told.{LaneTold, Told}
use Rattle.sv_replies.proofs.AcceptedLemmas.{accepted-push}
use Rattle.sv_replies.proofs.OpeningLemmas.{first-alone, first-own, opening-knows}
use Rattle.sv_replies.proofs.ReplyFitsLaws.{fits-later}
use Rattle.sv_replies.proofs.KnowsLaws.{knows-later}
use Rattle.sv_replies.proofs.RepliesFitLaws.{known-push, replies-push}

abbrev no_replies : List Answered
no_replies = []

none-taken : (n : ℕ) → take n no_replies ≡ no_replies
none-taken zero = refl
none-taken (suc n) = refl

pub told-none : (s : Setting) (b : Books) → Knows b at_first → Told s b []
told-none s b knows = record {
  fits = λ n a at. absurd (get_none n a at);
  knows = λ n. subst (λ (l : List Answered). Knows b (known_after l)) (sym (none-taken n)) knows;
}

pub told-later : (s : Setting) (a b : Books) (all : List Answered) → Lawful a → Lawful b → After a b → Told s a all
    → Told s b all
told-later s a b all law still after told = record {
  fits = λ n x at. fits-later s a b (known_after (take n all)) (told.knows n) law still after x.command x.reply (told.fits n x at);
  knows = λ n. knows-later a b (known_after (take n all)) after (told.knows n);
}

-- all that is known
pub told-knows : (s : Setting) (b : Books) (all : List Answered) → Told s b all → Knows b (known_after all)
told-knows s b all told =
    subst (λ (l : List Answered). Knows b (known_after l)) (take_all (length all) all (omega arith)) (told.knows (length all))

-- One reply more, after a change of the books.
pub told-push : (s : Setting) (a b : Books) (all : List Answered) (x : Answered) → Lawful a → Lawful b → After a b
    → Told s a all
    → ReplyFits s b (known_after all) x.command x.reply → Knows b (learn (known_after all) x.command x.reply)
    → Told s b (all ++ x ∷ [])
told-push s a b all x law still after told fits knows =
    let later = told-later s a b all law still after told in
    record {
      fits = replies-push s b all x later.fits fits;
      knows = λ n. elim (cases_lt (length all) n) [
        | inl lt ↦
            subst (λ (l : List Answered). Knows b (known_after l)) (sym (take_all n (all ++ x ∷ []) (omega (arith, lt, length_push all x))))
            (subst (λ (k : Known). Knows b k) (sym (known-push all x)) knows)
        | inr ge ↦
            subst (λ (l : List Answered). Knows b (known_after l)) (sym (take-append-le n all (x ∷ []) (omega (arith, ge)))) (later.knows n)
      ];
    }

-- ---- in the lane's own books

pub lane_told-push : (s : Setting) (a b : Books) (all : List Answered) (x : Answered) → Lawful a → Lawful b
    → After a b → LaneTold s a all
    → Answers s a b (known_after all) x.command x.reply → LaneTold s b (all ++ x ∷ [])
lane_told-push s a b all x law still after told answers = record {
  told = told-push s a b all x law still after told.told answers.fits answers.still.knows;
  known = subst (λ (k : Known). KnowsAll s b k) (sym (known-push all x)) answers.still;
  journal = answers.asked ∙ ap (λ (l : List Change). l ++ change_asked (known_after all) x.command x.reply) told.journal ∙ sym (accepted-push all x);
}

-- of a database that begins empty
pub lane_told-none : (s : Setting) (next : ℕ) → s.lane < 32 → 1 ≤ next → next ≤ 18446744073709551615
    → LaneTold s (opening_books next) []
lane_told-none s next within least most =
    let knows = opening-knows (opening_books next) (first-opening next least most) in
    record {
      told = told-none s (opening_books next) knows;
      known = record { knows = knows; own = first-own next s.lane within; alone = λ one. first-alone next };
      journal = refl;
    }
