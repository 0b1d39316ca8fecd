-- The laws tried on pins, on a read through one, and on rests.
use Rattle.std.proofs.Common.{◌≡◌, ℕ, true, false, List, [], ◌∷◌, Some, None, refl, arith, take, inl}
use Rattle.sv_model.specs.declared.writes.Op.TheVariants as op
use Rattle.sv_model.specs.declared.records.FileMeta.{FileMeta}
use Rattle.sv_model.specs.declared.refusals.Refusal.TheVariants as refusal
use Rattle.sv_model.specs.declared.records.FileStatus.TheVariants.{Gone, Live}
use Rattle.sv_model.specs.Books.{Books}
use Rattle.sv_model.specs.Families.{default_family}
use Rattle.sv_script.specs.Answered.{Answered}
use Rattle.sv_script.specs.declared.commands.Command.TheVariants as command
use Rattle.sv_script.specs.declared.replies.Reply.TheVariants as reply
use Rattle.sv_replies.specs.Due.{due, refuses}
use Rattle.sv_replies.specs.Known.{known_after}
use Rattle.sv_replies.specs.ReplyFits.{ReplyFits}
use Rattle.sv_replies.proofs.WorkedBooks.{alone, home, a, one, line, write, super, memtable, list, version, file, number_for, numbers, has_files, no_op}

abbrev two : List ℕ
two = 50 ∷ []

abbrev rows : List Answered
rows =
    line (command.Put home a one) (reply.Put 1)
    ∷ line (command.Flush home) (reply.Flush 1 0 1)
    ∷ line (command.Put home a two) (reply.Put 2)
    ∷ line (command.Flush home) (reply.Flush 2 1 2)
    ∷ line (command.Pin home) (reply.Pin 0 5)
    ∷ line (command.Compact home) (reply.Compact 3 0 2)
    ∷ line command.Purge (reply.Purge [])
    ∷ line (command.Getp 0 a) (reply.Found two 2 5)
    ∷ line (command.Unpin 0) reply.Unpin
    ∷ line command.Purge (reply.Purge (1 ∷ 2 ∷ []))
    ∷ line (command.Get home a) (reply.Found two 2 6)
    ∷ []

abbrev first_file : FileMeta
first_file = file 1 0 1 false []

abbrev second : FileMeta
second = file 2 1 2 false []

abbrev merged : FileMeta
merged = file 3 0 2 true []

abbrev books : Books
books = record {
  journal = write 0 1 a (op.Put one) ∷ write 0 2 a (op.Put two) ∷ [];
  supers = super 0 1 1 1 0 ∷ super 0 2 2 1 1 ∷ super 0 2 3 2 1 ∷ super 0 3 4 2 2 ∷ super 0 3 5 3 2 ∷ super 0 3 5 4 2 ∷ [];
  memtables = memtable 0 0 ∷ memtable 0 1 ∷ memtable 0 2 ∷ [];
  lists = list [] ∷ list (1 ∷ []) ∷ list [] ∷ list (2 ∷ []) ∷ list [] ∷ [];
  versions = version [] ∷ version (first_file ∷ []) ∷ version (first_file ∷ second ∷ []) ∷ version (merged ∷ []) ∷ [];
  files = numbers (number_for 0 1 Gone ∷ number_for 0 2 Gone ∷ number_for 0 3 Live ∷ []) 4;
  metas = first_file ∷ second ∷ merged ∷ [];
  families = default_family ∷ [];
  tops = record { current = None; last = 4 } ∷ [];
  snapshots = [];
}

fits-pin : ReplyFits alone books (known_after (take 4 rows)) (command.Pin home) (reply.Pin 0 5)
fits-pin = (refl, record { least = refl; newer = omega arith; of = (super 0 3 5 3 2, refl, refl) })

fits-getp : ReplyFits alone books (known_after (take 7 rows)) (command.Getp 0 a) (reply.Found two 2 5)
fits-getp = (
  refl,
  record {
    serial_is = refl;
    later = inl (omega arith);
    within = omega arith;
    looks = record { serves = record { family_is = refl; begins = omega arith; ends = omega arith }; found_is = λ told. refl };
    unread = (super 0 3 5 3 2, refl, record { version = version (first_file ∷ second ∷ []); at = refl; above = λ o e. absurd (no_op o e); alone = λ e. absurd (has_files first_file (second ∷ []) e) });
  },
)

-- through another SuperVersion than that of the pin
other_super : ReplyFits alone books (known_after (take 7 rows)) (command.Getp 0 a) (reply.Found two 2 6) → ⊥
other_super h = absurd (omega (arith, h.1.serial_is))

-- a pin that was given up, or one that is not the least free
fits-no_pin : ReplyFits alone books (known_after (take 9 rows)) (command.Getp 0 a) (reply.Refused refusal.NoPin)
fits-no_pin = refl

pinned_again : ReplyFits alone books (known_after (take 5 rows)) (command.Pin home) (reply.Pin 0 5) → ⊥
pinned_again h = absurd (let e = h.1.least in cc)

free_again : ReplyFits alone books (known_after (take 9 rows)) (command.Pin home) (reply.Pin 0 5)
free_again = (refl, record { least = refl; newer = omega arith; of = (super 0 3 5 3 2, refl, refl) })

no_pin : due (known_after rows) (command.Unpin 16) ≡ Some (refuses refusal.NoPin)
no_pin = refl

-- a pin older than what the lane was shown
old_pin : ReplyFits alone books (known_after rows) (command.Pin home) (reply.Pin 0 5) → ⊥
old_pin h = absurd (omega (arith, h.1.newer))

-- ---- rests

abbrev rests : List Answered
rests =
    line (command.Get home a) (reply.Absent 0 1)
    ∷ line command.Rest (reply.Rest 1)
    ∷ line command.Rest (reply.Rest 0)
    ∷ []

fits-rest : ReplyFits alone books (known_after (take 1 rests)) command.Rest (reply.Rest 1)
fits-rest = (refl, omega arith)

fits-rest_again : ReplyFits alone books (known_after (take 2 rests)) command.Rest (reply.Rest 0)
fits-rest_again = (refl, omega arith)

rests_twice : ReplyFits alone books (known_after (take 2 rests)) command.Rest (reply.Rest 1) → ⊥
rests_twice h = absurd (omega (arith, h.1))
