-- The laws tried on a put, gets and a flush of one key whose answers are known, and on answers that are wrong.
use Rattle.std.proofs.Common.{◌≡◌, false, List, [], ◌∷◌, Some, None, refl, sym, ap, ◌∙◌, arith, take, inr}
use Rattle.std.specs.Prelude.{codes, replicate}
use Rattle.sv_model.specs.declared.writes.Op.TheVariants as op
use Rattle.sv_model.specs.declared.refusals.Refusal.TheVariants as refusal
use Rattle.sv_model.specs.declared.records.FileStatus.TheVariants.{Live}
use Rattle.sv_model.specs.declared.records.SuperVersion.{SuperVersion}
use Rattle.sv_model.specs.declared.records.Version.{Version}
use Rattle.sv_model.specs.Books.{Books}
use Rattle.sv_model.specs.Families.{default_family}
use Rattle.sv_model.specs.Journal.{value_of}
use Rattle.sv_model.specs.Registers.{entry}
use Rattle.sv_model.proofs.Basics.{none_some}
use Rattle.sv_script.specs.Answered.{Answered}
use Rattle.sv_script.specs.declared.commands.Command.TheVariants as command
use Rattle.sv_script.specs.declared.replies.Reply.TheVariants as reply
use Rattle.sv_replies.specs.Known.{at_first, known_after}
use Rattle.sv_replies.specs.Due.{due, refuses, no_handle}
use Rattle.sv_replies.specs.ReplyFits.{ReplyFits}
use Rattle.sv_replies.proofs.WorkedBooks.{alone, first_of_two, home, a, one, line, write, super, memtable, list, version, file, number_for, numbers, has_files, no_op, one_op}

abbrev rows : List Answered
rows =
    line (command.Put home a one) (reply.Put 1)
    ∷ line (command.Get home a) (reply.Found one 1 1)
    ∷ line (command.Get home a) (reply.Found one 1 1)
    ∷ line (command.Flush home) (reply.Flush 1 0 1)
    ∷ line (command.Get home a) (reply.Found one 1 3)
    ∷ line (command.Flush home) (reply.Refused refusal.NothingToFlush)
    ∷ []

-- after close: the SuperVersion of the opening, that of the switch, and that of the flush
abbrev books : Books
books = record {
  journal = write 0 1 a (op.Put one) ∷ [];
  supers = super 0 1 1 1 0 ∷ super 0 2 2 1 1 ∷ super 0 2 3 2 1 ∷ [];
  memtables = memtable 0 0 ∷ memtable 0 1 ∷ [];
  lists = list [] ∷ list (1 ∷ []) ∷ list [] ∷ [];
  versions = version [] ∷ version (file 1 0 1 false [] ∷ []) ∷ [];
  files = numbers (number_for 0 1 Live ∷ []) 2;
  metas = file 1 0 1 false [] ∷ [];
  families = default_family ∷ [];
  tops = record { current = None; last = 2 } ∷ [];
  snapshots = [];
}

fits-put : ReplyFits alone books (known_after (take 0 rows)) (command.Put home a one) (reply.Put 1)
fits-put = (refl, record { later = omega arith; written = record { lane_is = refl; key_is = refl; op_is = refl } })

fits-get : ReplyFits alone books (known_after (take 1 rows)) (command.Get home a) (reply.Found one 1 1)
fits-get = (
  refl,
  record {
    later = omega arith;
    newer = omega arith;
    within = omega arith;
    looks = record { serves = record { family_is = refl; begins = omega arith; ends = omega arith }; found_is = λ told. refl };
    unread = (super 0 1 1 1 0, refl, record { version = version []; at = refl; above = λ o e. ap value_of (sym (one_op (op.Put one) o e)); alone = λ e. refl });
  },
)

fits-flush : ReplyFits alone books (known_after (take 3 rows)) (command.Flush home) (reply.Flush 1 0 1)
fits-flush = (
  refl,
  record {
    range = omega arith;
    later = omega arith;
    newer = omega arith;
    cuts = [];
    output = record {
      captured = (1, number_for 0 1 Live, refl, record { number_is = refl; family_is = refl });
      covers = record { at = 0; is = refl };
      named = (2, version (file 1 0 1 false [] ∷ []), refl, record { at = 0; is = refl });
    };
  },
)

fits-get_after : ReplyFits alone books (known_after (take 4 rows)) (command.Get home a) (reply.Found one 1 3)
fits-get_after = (
  refl,
  record {
    later = omega arith;
    newer = omega arith;
    within = omega arith;
    looks = record { serves = record { family_is = refl; begins = omega arith; ends = omega arith }; found_is = λ told. refl };
    unread = (super 0 2 3 2 1, refl, record { version = version (file 1 0 1 false [] ∷ []); at = refl; above = λ o e. absurd (no_op o e); alone = λ e. absurd (has_files (file 1 0 1 false []) [] e) });
  },
)

fits-nothing : ReplyFits alone books (known_after (take 5 rows)) (command.Flush home) (reply.Refused refusal.NothingToFlush)
fits-nothing =
    inr (file 1 0 1 false [], record { captured = (1, number_for 0 1 Live, refl, record { number_is = refl; family_is = refl }); covers = record { at = 0; is = refl }; reaches = omega arith })

-- ---- what does not fit

one_super : (x y : SuperVersion) → Some x ≡ Some y → x ≡ y
one_super x y e = cc

one_version : (x y : Version) → Some x ≡ Some y → x ≡ y
one_version x y e = cc

-- a value that is not there any more or not yet, and a SuperVersion older than the lane was shown
stale : ReplyFits alone books (known_after (take 1 rows)) (command.Get home a) (reply.Absent 1 1) → ⊥
stale h = absurd (none_some one (sym (h.1.looks.found_is refl)))

-- a value from a memtable is promised where the directory tells nothing too
untold : ReplyFits (record { lane = 0; lanes = 1; told = false }) books (known_after (take 1 rows)) (command.Get home a) (reply.Absent 1 1)
    → ⊥
untold h =
    let it = h.1.unread in
    let same : super 0 1 1 1 0 ≡ it.0 = one_super (super 0 1 1 1 0) it.0 it.1 in
    let at : entry books.versions 1 ≡ Some it.2.version = ap (λ (s : SuperVersion). entry books.versions s.descriptor.version) same ∙ it.2.at in
    let none : it.2.version.files ≡ [] = ap (λ (v : Version). v.files) (sym (one_version (version []) it.2.version at)) in
    absurd (none_some one (sym (it.2.alone none)))

unseen : ReplyFits alone books (known_after (take 1 rows)) (command.Get home a) (reply.Absent 0 1) → ⊥
unseen h = absurd (omega (arith, h.1.later))

older : ReplyFits alone books (known_after rows) (command.Get home a) (reply.Found one 1 1) → ⊥
older h = absurd (omega (arith, h.1.newer))

-- the same write twice, and the same file
written_before : ReplyFits alone books (known_after (take 1 rows)) (command.Put home a one) (reply.Put 1) → ⊥
written_before h = absurd (omega (arith, h.1.later))

shown_before : ReplyFits alone books (known_after rows) (command.Flush home) (reply.Flush 1 0 1) → ⊥
shown_before h = absurd (omega (arith, h.1.newer))

-- a family that is busy, where no other lane is
busy : ReplyFits alone books (known_after rows) (command.Flush home) (reply.Refused (refusal.Busy 1)) → ⊥
busy h = absurd (omega (arith, h.0))

busy-of_other : ReplyFits first_of_two books (known_after rows) (command.Flush home) (reply.Refused (refusal.Busy 1))
busy-of_other = (omega arith, (1, number_for 0 1 Live, refl, record { number_is = refl; family_is = refl }))

-- a bad file, where the directory tells its files
bad_file : ReplyFits alone books (known_after rows) (command.Get home a) (reply.Refused (refusal.BadFile 1 0)) → ⊥
bad_file h = absurd (let e = h.0 in cc)

-- ---- what is due by the words alone

key_of_65 : due at_first (command.Put home (replicate 65 107) one) ≡ Some (refuses (refusal.KeyLength 65))
key_of_65 = refl

key_of_64 : due at_first (command.Put home (replicate 64 107) one) ≡ None
key_of_64 = refl

value_of_1025 : due at_first (command.Put home a (replicate 1025 118)) ≡ Some (refuses (refusal.ValueLength 1025))
value_of_1025 = refl

empty_key : due at_first (command.Get home []) ≡ Some (refuses (refusal.KeyLength 0))
empty_key = refl

other_family : due at_first (command.Flush (codes "cold")) ≡ Some (no_handle (codes "cold"))
other_family = refl

no_pin : due at_first (command.Getp 0 a) ≡ Some (refuses refusal.NoPin)
no_pin = refl

-- memory runs out at a put, and never at an unhold
put-runs_out : ReplyFits alone books at_first (command.Put home a one) (reply.Refused refusal.OutOfMemory)
put-runs_out = tt

unhold-runs_out : ReplyFits alone books at_first command.Unhold (reply.Refused refusal.OutOfMemory) → ⊥
unhold-runs_out h = h
