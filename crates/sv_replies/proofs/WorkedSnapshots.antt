-- The laws tried on a snapshot whose reads outlast a delete, a flush and a compaction.
use Rattle.std.proofs.Common.{◌≡◌, ◌≤◌, ℕ, ⊎_elim, true, false, List, [], ◌∷◌, Some, None, refl, sym, ap, subst, ◌∙◌, arith, take, inr}
use Rattle.std.proofs.lemmas.Bool.Decides.{eqb_tells}
use Rattle.sv_model.specs.declared.writes.Op.TheVariants as op
use Rattle.sv_model.specs.declared.records.FileMeta.{FileMeta}
use Rattle.sv_model.specs.declared.refusals.Refusal.TheVariants as refusal
use Rattle.sv_model.specs.declared.records.FileStatus.TheVariants.{Gone, Live}
use Rattle.sv_model.specs.declared.records.Snapshot.{Snapshot}
use Rattle.sv_model.specs.Books.{Books}
use Rattle.sv_model.specs.Families.{default_family}
use Rattle.sv_model.specs.Snapshots.{cut_of}
use Rattle.sv_script.specs.Answered.{Answered}
use Rattle.sv_script.specs.declared.commands.Command.TheVariants as command
use Rattle.sv_script.specs.declared.replies.Reply.TheVariants as reply
use Rattle.sv_replies.specs.Known.{FamilyKnown, known_after, nothing_known, saw}
use Rattle.sv_replies.specs.ReplyFits.{ReplyFits}
use Rattle.sv_replies.proofs.KnowsLaws.{at-other}
use Rattle.sv_replies.proofs.WorkedBooks.{alone, first_of_two, home, a, one, line, write, super, memtable, list, version, file, number_for, numbers, has_files, no_op}

abbrev rows : List Answered
rows =
    line (command.Put home a one) (reply.Put 1)
    ∷ line command.Snap (reply.Snap 1 1)
    ∷ line (command.Put home a (50 ∷ [])) (reply.Put 2)
    ∷ line (command.Delete home a) (reply.Delete 3)
    ∷ line (command.Flush home) (reply.Flush 1 0 3)
    ∷ line (command.Gets 1 home a) (reply.Found one 1 3)
    ∷ line (command.Compact home) (reply.Compact 2 0 3)
    ∷ line (command.Gets 1 home a) (reply.Found one 1 4)
    ∷ line (command.Get home a) (reply.Absent 3 4)
    ∷ line (command.Compact home) (reply.Refused refusal.NothingToCompact)
    ∷ line (command.Unsnap 1) reply.Unsnap
    ∷ line (command.Gets 1 home a) (reply.Refused refusal.NoSnapshot)
    ∷ line (command.Compact home) (reply.Compact 3 0 3)
    ∷ []

abbrev flushed : FileMeta
flushed = file 1 0 3 false (1 ∷ [])

abbrev merged : FileMeta
merged = file 2 0 3 true (1 ∷ [])

abbrev last : FileMeta
last = file 3 0 3 true []

abbrev ended : Snapshot
ended = record { at = 1; live = false }

abbrev books : Books
books = record {
  journal = write 0 1 a (op.Put one) ∷ write 0 1 a (op.Put (50 ∷ [])) ∷ write 0 1 a op.Delete ∷ [];
  supers = super 0 1 1 1 0 ∷ super 0 2 2 1 3 ∷ super 0 2 3 2 3 ∷ super 0 2 3 3 3 ∷ super 0 2 3 4 3 ∷ [];
  memtables = memtable 0 0 ∷ memtable 0 3 ∷ [];
  lists = list [] ∷ list (1 ∷ []) ∷ list [] ∷ [];
  versions = version [] ∷ version (flushed ∷ []) ∷ version (merged ∷ []) ∷ version (last ∷ []) ∷ [];
  files = numbers (number_for 0 1 Gone ∷ number_for 0 2 Gone ∷ number_for 0 3 Live ∷ []) 4;
  metas = flushed ∷ merged ∷ last ∷ [];
  families = default_family ∷ [];
  tops = record { current = None; last = 4 } ∷ [];
  snapshots = ended ∷ [];
}

covers : (f : ℕ) → ((known_after (take 1 rows)).families f).seen ≤ cut_of books.journal 1 f
covers f = ⊎_elim
    (λ is. subst (λ g. ((known_after (take 1 rows)).families g).seen ≤ cut_of books.journal 1 g) (sym is.1) (omega arith))
    (λ other.
    let none : ((known_after (take 1 rows)).families f).seen ≡ 0 = ap (λ (z : FamilyKnown). z.seen) (at-other (λ g. nothing_known) 0 (saw 1 nothing_known) f other.1) in
    omega (arith, none))
    (eqb_tells f 0)

fits-snap : ReplyFits alone books (known_after (take 1 rows)) command.Snap (reply.Snap 1 1)
fits-snap =
    (refl, record { new = refl; stands = (ended, refl, refl); within = omega arith; covers = covers; own = refl })

-- a place before what the lane had written
early : ReplyFits alone books (known_after (take 1 rows)) command.Snap (reply.Snap 1 0) → ⊥
early h = absurd (omega (arith, h.1.covers 0))

-- a read at the snapshot goes on after the flush and the compaction
fits-gets : ReplyFits alone books (known_after (take 5 rows)) (command.Gets 1 home a) (reply.Found one 1 3)
fits-gets = (
  refl,
  record {
    may = record { stays = refl; alone = λ one. refl };
    newer = omega arith;
    through = (super 0 2 3 2 3, refl, record { family_is = refl; ends = omega arith });
    cut_is = (ended, refl, record { is = refl; within = omega arith });
    found_is = λ told. refl;
    unread = (super 0 2 3 2 3, refl, record { version = version (flushed ∷ []); at = refl; above = λ o e. absurd (no_op o e); alone = λ e. absurd (has_files flushed [] e) });
  },
)

fits-gets_after : ReplyFits alone books (known_after (take 7 rows)) (command.Gets 1 home a) (reply.Found one 1 4)
fits-gets_after = (
  refl,
  record {
    may = record { stays = refl; alone = λ one. refl };
    newer = omega arith;
    through = (super 0 2 3 3 3, refl, record { family_is = refl; ends = omega arith });
    cut_is = (ended, refl, record { is = refl; within = omega arith });
    found_is = λ told. refl;
    unread = (super 0 2 3 3 3, refl, record { version = version (merged ∷ []); at = refl; above = λ o e. absurd (no_op o e); alone = λ e. absurd (has_files merged [] e) });
  },
)

same_snapshot : (x y : Snapshot) → Some x ≡ Some y → x ≡ y
same_snapshot x y e = cc

-- a read at the journal's end
at_end : ReplyFits alone books (known_after (take 7 rows)) (command.Gets 1 home a) (reply.Absent 3 4) → ⊥
at_end h =
    absurd (let at = h.1.cut_is in let e : 3 ≡ cut_of books.journal 1 0 = at.2.is ∙ ap (λ (x : Snapshot). cut_of books.journal x.at 0) (sym (same_snapshot ended at.0 at.1)) in omega (arith, e))

fits-nothing : ReplyFits alone books (known_after (take 9 rows)) (command.Compact home) (reply.Refused refusal.NothingToCompact)
fits-nothing = inr (
  merged,
  record {
    reaches = record { captured = (2, number_for 0 2 Gone, refl, record { number_is = refl; family_is = refl }); covers = record { at = 1; is = refl }; reaches = omega arith };
    last = refl;
  },
)

fits-unsnap : ReplyFits alone books (known_after (take 10 rows)) (command.Unsnap 1) reply.Unsnap
fits-unsnap = (refl, record { may = record { stays = refl; alone = λ one. refl }; over = (ended, refl, refl) })

fits-no_snapshot : ReplyFits alone books (known_after (take 11 rows)) (command.Gets 1 home a) (reply.Refused refusal.NoSnapshot)
fits-no_snapshot = record { over = λ shown. (ended, refl, refl); alone = λ one shown. refl }

-- that it is over before the lane ended it, where no other lane is; and a read at it or its end after that
early_end : ReplyFits alone books (known_after (take 10 rows)) (command.Gets 1 home a) (reply.Refused refusal.NoSnapshot)
    → ⊥
early_end h = absurd (let e = h.alone refl refl in cc)

read_after : ReplyFits first_of_two books (known_after (take 11 rows)) (command.Gets 1 home a) (reply.Found one 1 4) → ⊥
read_after h = absurd (let e = h.1.may.stays in cc)

ended_twice : ReplyFits first_of_two books (known_after (take 11 rows)) (command.Unsnap 1) reply.Unsnap → ⊥
ended_twice h = absurd (let e = h.1.may.stays in cc)

no_memory : ReplyFits alone books (known_after rows) (command.Unsnap 1) (reply.Refused refusal.OutOfMemory) → ⊥
no_memory h = h
