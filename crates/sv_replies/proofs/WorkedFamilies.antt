-- The laws tried on a family that is made, written, flushed, dropped and released.
use Rattle.std.proofs.Common.{◌≡◌, ℕ, ⊎_elim, Bool, true, false, List, [], ◌∷◌, Some, None, refl, sym, ap, subst, ◌∙◌, arith, take}
use Rattle.std.specs.Prelude.{codes, if◌then◌else◌}
use Rattle.std.proofs.lemmas.Bool.Decides.{eqb_tells}
use Rattle.sv_model.specs.declared.writes.Op.TheVariants as op
use Rattle.sv_model.specs.declared.refusals.Refusal.TheVariants as refusal
use Rattle.sv_model.specs.declared.records.FileStatus.TheVariants.{Gone}
use Rattle.sv_model.specs.declared.settings.OptionName.TheVariants.{MemtableRows, MaxImmutable}
use Rattle.sv_model.specs.declared.records.Family.{Family}
use Rattle.sv_model.specs.Books.{Books}
use Rattle.sv_model.specs.Families.{default_family}
use Rattle.sv_script.specs.Answered.{Answered}
use Rattle.sv_script.specs.declared.commands.Command.TheVariants as command
use Rattle.sv_script.specs.declared.replies.Reply.TheVariants as reply
use Rattle.sv_replies.specs.Known.{known_after}
use Rattle.sv_replies.specs.Due.{due, refuses, no_handle}
use Rattle.sv_replies.specs.Moments.{IsNamed, WasDropped}
use Rattle.sv_replies.specs.ReplyFits.{ReplyFits}
use Rattle.sv_replies.proofs.WorkedBooks.{alone, first_of_two, home, cold, one, line, write, super, memtable, list, version, file, family, number_for, numbers, has_files, no_op}

abbrev k : List ℕ
k = codes "k"

abbrev seven : List ℕ
seven = codes "7"

abbrev rows : List Answered
rows =
    line (command.Create cold) (reply.Create 1)
    ∷ line (command.Put cold k seven) (reply.Put 1)
    ∷ line (command.Flush cold) (reply.Flush 1 0 1)
    ∷ line (command.Drop cold) reply.Drop
    ∷ line (command.Get cold k) (reply.Found seven 1 4)
    ∷ line (command.Put cold k one) (reply.Refused refusal.Dropped)
    ∷ line command.Purge (reply.Purge [])
    ∷ line (command.Release cold) reply.Release
    ∷ line (command.Get cold k) (reply.Refused refusal.NoFamily)
    ∷ line command.Purge (reply.Purge (1 ∷ []))
    ∷ []

abbrev books : Books
books = record {
  journal = write 1 2 k (op.Put seven) ∷ [];
  supers = super 0 1 1 1 0 ∷ super 1 2 2 2 0 ∷ super 1 3 3 2 1 ∷ super 1 3 4 3 1 ∷ [];
  memtables = memtable 0 0 ∷ memtable 1 0 ∷ memtable 1 1 ∷ [];
  lists = list [] ∷ list [] ∷ list (2 ∷ []) ∷ list [] ∷ [];
  versions = version [] ∷ version [] ∷ version (file 1 0 1 false [] ∷ []) ∷ [];
  files = numbers (number_for 1 1 Gone ∷ []) 2;
  metas = file 1 0 1 false [] ∷ [];
  families = default_family ∷ family cold true ∷ [];
  tops = record { current = None; last = 1 } ∷ record { current = None; last = 3 } ∷ [];
  snapshots = [];
}

cold_named : IsNamed books 1 cold
cold_named = (family cold true, refl, refl)

cold_dropped : WasDropped books 1
cold_dropped = (family cold true, refl, refl)

fits-create : ReplyFits alone books (known_after (take 0 rows)) (command.Create cold) (reply.Create 1)
fits-create = (refl, record { free = refl; newer = omega arith; named = cold_named })

fits-put : ReplyFits alone books (known_after (take 1 rows)) (command.Put cold k seven) (reply.Put 1)
fits-put = (refl, record { later = omega arith; written = record { lane_is = refl; key_is = refl; op_is = refl } })

fits-drop : ReplyFits alone books (known_after (take 3 rows)) (command.Drop cold) reply.Drop
fits-drop = (refl, cold_dropped)

-- a dropped family is read through the handle
fits-get : ReplyFits alone books (known_after (take 4 rows)) (command.Get cold k) (reply.Found seven 1 4)
fits-get = (
  refl,
  record {
    later = omega arith;
    newer = omega arith;
    within = omega arith;
    looks = record { serves = record { family_is = refl; begins = omega arith; ends = omega arith }; found_is = λ told. refl };
    unread = (super 1 3 4 3 1, refl, record { version = version (file 1 0 1 false [] ∷ []); at = refl; above = λ o e. absurd (no_op o e); alone = λ e. absurd (has_files (file 1 0 1 false []) [] e) });
  },
)

-- and is neither written nor dropped again
fits-dropped : ReplyFits alone books (known_after (take 5 rows)) (command.Put cold k one) (reply.Refused refusal.Dropped)
fits-dropped = refl

dropped_twice : ReplyFits alone books (known_after (take 5 rows)) (command.Drop cold) reply.Drop → ⊥
dropped_twice h = absurd (let e = h.0 in cc)

fits-release : ReplyFits alone books (known_after (take 7 rows)) (command.Release cold) reply.Release
fits-release = (refl, tt)

released_default : due (known_after rows) (command.Release home) ≡ Some (refuses refusal.IsDefault)
released_default = refl

-- Without a handle the family is read no more. That the name is taken would fit too, since a family had it.
no : false ≡ true → ⊥
no e = absurd (cc)

only_shown : (id : ℕ) → (known_after (take 8 rows)).named cold id ≡ true → WasDropped books id
only_shown id e = ⊎_elim
    (λ is. subst (λ n. WasDropped books n) (sym is.1) cold_dropped)
    (λ other. absurd (no (sym (ap (λ (b : Bool). if b then true else false) other.0) ∙ e)))
    (eqb_tells id 1)

fits-no_family : ReplyFits alone books (known_after (take 8 rows)) (command.Get cold k) (reply.Refused refusal.NoFamily)
fits-no_family = only_shown

other_refusal : ReplyFits alone books (known_after (take 8 rows)) (command.Get cold k) (reply.Refused refusal.Dropped)
    → ⊥
other_refusal h = h

read_without : ReplyFits alone books (known_after (take 8 rows)) (command.Get cold k) (reply.Found seven 1 4) → ⊥
read_without h = absurd (let e = h.0 in cc)

-- the order of refusals: an option's range before the handle, the handle before all else
option_first : due (known_after (take 8 rows)) (command.Set cold MemtableRows 0) ≡ Some (refuses (refusal.BadOption 0 1 65536))
option_first = refl

handle_next : due (known_after (take 8 rows)) (command.Set cold MaxImmutable 8) ≡ Some (no_handle cold)
handle_next = refl

open_again : due (known_after (take 1 rows)) (command.Open cold) ≡ Some (refuses refusal.AlreadyOpen)
open_again = refl

same_family : (x y : Family) → Some x ≡ Some y → x ≡ y
same_family x y e = cc

-- an id that the lane made before, and a family that stands while an opening says that there is none
made_before : ReplyFits first_of_two books (known_after (take 8 rows)) (command.Create cold) (reply.Create 1) → ⊥
made_before h = absurd (omega (arith, h.1.newer))

standing : ReplyFits first_of_two (record books { families = default_family ∷ family cold false ∷ [] }) (known_after (take 8 rows)) (command.Open cold) (reply.Refused refusal.NoFamily)
    → ⊥
standing h =
    let w = h 1 refl in absurd (let e : false ≡ true = ap (λ (f : Family). f.dropped) (same_family (family cold false) w.0 w.1) ∙ w.2 in cc)
