-- What an answered command adds and finds, where that is nothing, and how it goes on as the books do.
use Rattle.std.proofs.Common.{◌≡◌, ◌<◌, ◌≤◌, ◌⊎◌, inl, inr, ⊎_elim, ℕ, List, [], ◌∷◌, ◌++◌, length, Option, Some, None, refl, sym, ◌∙◌, ap, subst, arith}
use Rattle.std.specs.Prelude.{slice_get}
use Rattle.std.proofs.lemmas.Option.{slice_get_within}
use Rattle.std.proofs.lemmas.Bool.{cases_lt}
use Rattle.sv_model.specs.declared.refusals.Refusal.{Refusal}
use Rattle.sv_model.specs.declared.writes.Write.{Write}
use Rattle.sv_model.specs.After.{After}
use Rattle.sv_model.specs.Books.{Books}
use Rattle.sv_model.proofs.Entries.{get_push}
use Rattle.sv_laws.specs.Writes.{IsWritten}
use Rattle.sv_script.specs.declared.commands.Command.{Command}
use Rattle.sv_script.specs.declared.commands.Command.TheVariants as command
use Rattle.sv_script.specs.declared.replies.Reply.{Reply}
use Rattle.sv_script.specs.declared.replies.Reply.TheVariants as reply
use Rattle.sv_replies.specs.Answers.{AddsOwn, Finds, SeesEnd}
use Rattle.sv_replies.specs.Known.{Known}
use Rattle.sv_replies.specs.ReadReply.{read_reply}
use Rattle.sv_replies.specs.Settings.{Setting}

-- ---- writes

pub adds-none : (lane : ℕ) (a b : Books) → b.journal ≡ a.journal → AddsOwn lane a b
adds-none lane a b same n w beyond at =
    absurd (let within = slice_get_within a.journal n w (ap (λ (l : List Write). slice_get l n) (sym same) ∙ at) in omega (arith, within, beyond))

pub adds-one : (lane f : ℕ) (a b : Books) (w : Write) → IsWritten a b f w → w.lane ≡ lane → AddsOwn lane a b
adds-one lane f a b w is mine n v beyond at = ⊎_elim
    (λ old. absurd (let within = slice_get_within a.journal n v old in omega (arith, within, beyond)))
    (λ last. ap (λ (z : Write). z.lane) last ∙ mine)
    (get_push a.journal w n v (ap (λ (z : Books). slice_get z.journal n) (sym is.is) ∙ at))

-- where the first of two changes adds none, or the second
pub adds-after : (lane : ℕ) (a m b : Books) → m.journal ≡ a.journal → AddsOwn lane m b → AddsOwn lane a b
adds-after lane a m b same adds n w beyond at = adds n w (let e = ap (λ (l : List Write). length l) same in omega (arith, e, beyond)) at

pub adds-before : (lane : ℕ) (a m b : Books) → b.journal ≡ m.journal → AddsOwn lane a m → AddsOwn lane a b
adds-before lane a m b same adds n w beyond at = adds n w beyond (ap (λ (l : List Write). slice_get l n) (sym same) ∙ at)

-- ---- what is found

pub finds-refused : (s : Setting) (a : Books) (k : Known) (c : Command) (e : Refusal) → Finds s a k c (reply.Refused e)
finds-refused s a k (command.Get name key) e = tt
finds-refused s a k command.Purge e = tt
finds-refused s a k command.Scan e = tt
finds-refused s a k (command.Unsnap snapshot) e = tt
finds-refused s a k c e = tt

pub finds-read : (s : Setting) (a : Books) (k : Known) (name key : List ℕ) (found : Option (List ℕ)) (cut sv : ℕ)
    → (s.lanes ≡ 1 → SeesEnd a k name cut) → Finds s a k (command.Get name key) (read_reply found cut sv)
finds-read s a k name key (Some value) cut sv sees = sees
finds-read s a k name key None cut sv sees = sees
