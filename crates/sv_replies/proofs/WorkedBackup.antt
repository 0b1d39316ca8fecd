-- The laws tried on a backup: files listed under a hold, a compaction, and purges before and after its end.
use Rattle.std.proofs.Common.{◌≡◌, ◌<◌, ◌≤◌, ◌+◌, ℕ, zero, suc, true, false, List, [], ◌∷◌, Some, None, refl, arith, take, subst}
use Rattle.std.specs.Prelude.{codes, slice_get, slice_index}
use Rattle.sv_model.specs.declared.writes.Op.TheVariants as op
use Rattle.sv_model.specs.declared.records.Family.{Family}
use Rattle.sv_model.specs.declared.records.FileMeta.{FileMeta}
use Rattle.sv_model.specs.declared.refusals.Refusal.TheVariants as refusal
use Rattle.sv_model.specs.declared.records.FileStatus.TheVariants.{Gone, Live}
use Rattle.sv_model.specs.Books.{Books}
use Rattle.sv_model.specs.Families.{default_family}
use Rattle.sv_model.specs.Lists.{In}
use Rattle.sv_model.specs.Moments.{WasCapturedFor}
use Rattle.sv_model.specs.Named.{numbers_of}
use Rattle.sv_model.specs.Numbers.{IsRegistered}
use Rattle.sv_model.specs.Ranges.{FilesJoin}
use Rattle.sv_model.specs.Registers.{Has}
use Rattle.sv_script.specs.Answered.{Answered}
use Rattle.sv_script.specs.declared.commands.Command.TheVariants as command
use Rattle.sv_script.specs.declared.replies.Reply.TheVariants as reply
use Rattle.sv_replies.specs.Known.{known_after}
use Rattle.sv_replies.specs.Due.{due, refuses}
use Rattle.sv_replies.specs.LiveLaw.{CoversFamily}
use Rattle.sv_replies.specs.ReplyFits.{ReplyFits}
use Rattle.sv_replies.proofs.WorkedBooks.{alone, home, a, one, line, write, super, memtable, list, version, file, number_for, numbers}

abbrev b : List ℕ
b = codes "b"

abbrev two : List ℕ
two = codes "2"

abbrev rows : List Answered
rows =
    line (command.Put home a one) (reply.Put 1)
    ∷ line (command.Flush home) (reply.Flush 1 0 1)
    ∷ line (command.Put home b two) (reply.Put 2)
    ∷ line (command.Flush home) (reply.Flush 2 1 2)
    ∷ line command.Live (reply.Refused refusal.NoHold)
    ∷ line command.Hold (reply.Hold 1)
    ∷ line command.Live (reply.Live (1 ∷ 2 ∷ []))
    ∷ line (command.Compact home) (reply.Compact 3 0 2)
    ∷ line (command.Compact home) (reply.Refused refusal.NothingToCompact)
    ∷ line command.Purge (reply.Refused (refusal.Disabled 1))
    ∷ line command.Unhold (reply.Unhold 0)
    ∷ line command.Purge (reply.Purge (1 ∷ 2 ∷ []))
    ∷ []

abbrev first_file : FileMeta
first_file = file 1 0 1 false []

abbrev second : FileMeta
second = file 2 1 2 false []

abbrev merged : FileMeta
merged = file 3 0 2 true []

abbrev books : Books
books = record {
  journal = write 0 1 a (op.Put one) ∷ write 0 2 b (op.Put two) ∷ [];
  supers = super 0 1 1 1 0 ∷ super 0 2 2 1 1 ∷ super 0 2 3 2 1 ∷ super 0 3 4 2 2 ∷ super 0 3 5 3 2 ∷ super 0 3 5 4 2 ∷ [];
  memtables = memtable 0 0 ∷ memtable 0 1 ∷ memtable 0 2 ∷ [];
  lists = list [] ∷ list (1 ∷ []) ∷ list [] ∷ list (2 ∷ []) ∷ list [] ∷ [];
  versions = version [] ∷ version (first_file ∷ []) ∷ version (first_file ∷ second ∷ []) ∷ version (merged ∷ []) ∷ [];
  files = numbers (number_for 0 1 Gone ∷ number_for 0 2 Gone ∷ number_for 0 3 Live ∷ []) 4;
  metas = first_file ∷ second ∷ merged ∷ [];
  families = default_family ∷ [];
  tops = record { current = None; last = 4 } ∷ [];
  snapshots = [];
}

fits-no_hold : ReplyFits alone books (known_after (take 4 rows)) command.Live (reply.Refused refusal.NoHold)
fits-no_hold = refl

fits-hold : ReplyFits alone books (known_after (take 5 rows)) command.Hold (reply.Hold 1)
fits-hold = (refl, refl)

-- ---- the list

first_captured : WasCapturedFor books 0 1
first_captured = (1, number_for 0 1 Gone, refl, record { number_is = refl; family_is = refl })

second_captured : WasCapturedFor books 0 2
second_captured = (2, number_for 0 2 Gone, refl, record { number_is = refl; family_is = refl })

one_item : (x y : ℕ) → Some x ≡ Some y → x ≡ y
one_item x y e = cc

captured : (at n : ℕ) → slice_get (1 ∷ 2 ∷ []) at ≡ Some n → WasCapturedFor books 0 n
captured zero n e = subst (WasCapturedFor books 0) (one_item 1 n e) first_captured
captured (suc zero) n e = subst (WasCapturedFor books 0) (one_item 2 n e) second_captured
captured (suc (suc at)) n e = absurd (cc)

covers : (at : ℕ) (f : FileMeta) → slice_get (first_file ∷ second ∷ []) at ≡ Some f → In f books.metas
covers zero f e = record { at = 0; is = e }
covers (suc zero) f e = record { at = 1; is = e }
covers (suc (suc at)) f e = absurd (cc)

of_default : CoversFamily books 2 0 (1 ∷ 2 ∷ [])
of_default = record {
  files = first_file ∷ second ∷ [];
  exact = λ n. (λ has. record { listed = has; captured = captured has.at n has.is }, λ h. h.listed);
  covers = λ f has. covers has.at f has.is;
  to = 2;
  joins = (refl, (refl, refl));
  far = omega arith;
}

rising : (k : ℕ) → k + 1 < 2 → slice_index (1 ∷ 2 ∷ []) k < slice_index (1 ∷ 2 ∷ []) (k + 1)
rising zero lt = omega arith
rising (suc k) lt = absurd (omega (arith, lt))

named : (at n : ℕ) → slice_get (1 ∷ 2 ∷ []) at ≡ Some n → Has (λ v. In n (numbers_of v.files)) books.versions
named zero n e = (3, version (first_file ∷ second ∷ []), refl, record { at = 0; is = e })
named (suc zero) n e = (3, version (first_file ∷ second ∷ []), refl, record { at = 1; is = e })
named (suc (suc at)) n e = absurd (cc)

each : (f : ℕ) (x : Family) → slice_get books.families f ≡ Some x
    → CoversFamily books ((known_after (take 6 rows)).families f).reached f (1 ∷ 2 ∷ [])
each zero x e = of_default
each (suc f) x e = absurd (cc)

fits-live : ReplyFits alone books (known_after (take 6 rows)) command.Live (reply.Live (1 ∷ 2 ∷ []))
fits-live =
    (refl, record { rising = rising; captured = λ n has. (0, omega arith, captured has.at n has.is); named = λ n has. named has.at n has.is; covers = λ f x at stands. each f x at })

-- a list that leaves out the files
no_files : (to : ℕ) (files : List FileMeta) → FilesJoin 0 files to → 2 ≤ to → ((n : ℕ) → In n (numbers_of files) → ⊥)
    → ⊥
no_files to [] joins far none = absurd (omega (arith, joins, far))
no_files to (f ∷ files) joins far none = none f.number (record { at = 0; is = refl })

not_in : (n : ℕ) → In n [] → ⊥
not_in n has = absurd (let e = has.is in cc)

short : ReplyFits alone books (known_after (take 6 rows)) command.Live (reply.Live []) → ⊥
short h =
    let c = h.1.covers 0 default_family refl refl in
    no_files c.to c.files c.joins c.far (λ n has. not_in n ((c.exact n).0 has).listed)

-- ---- the compaction and the purges

fits-compact : ReplyFits alone books (known_after (take 7 rows)) (command.Compact home) (reply.Compact 3 0 2)
fits-compact = (
  refl,
  record {
    whole = refl;
    some = omega arith;
    far = omega arith;
    newer = omega arith;
    cuts = [];
    output = record {
      captured = (3, number_for 0 3 Live, refl, record { number_is = refl; family_is = refl });
      covers = record { at = 2; is = refl };
      named = (4, version (merged ∷ []), refl, record { at = 0; is = refl });
    };
  },
)

fits-disabled : ReplyFits alone books (known_after (take 9 rows)) command.Purge (reply.Refused (refusal.Disabled 1))
fits-disabled = record { some = omega arith; least = omega arith; alone = λ one. refl }

other_count : ReplyFits alone books (known_after (take 9 rows)) command.Purge (reply.Refused (refusal.Disabled 2)) → ⊥
other_count h = absurd (let e = h.alone refl in omega (arith, e))

purged_under_hold : ReplyFits alone books (known_after (take 9 rows)) command.Purge (reply.Purge (1 ∷ 2 ∷ [])) → ⊥
purged_under_hold h = absurd (let e = h.0 in cc)

fits-unhold : ReplyFits alone books (known_after (take 10 rows)) command.Unhold (reply.Unhold 0)
fits-unhold = (refl, refl)

gone : (at n : ℕ) → slice_get (1 ∷ 2 ∷ []) at ≡ Some n → IsRegistered books.files.numbers n Gone
gone zero n e = (1, number_for 0 1 Gone, refl, record { number_is = one_item 1 n e; status_is = refl })
gone (suc zero) n e = (2, number_for 0 2 Gone, refl, record { number_is = one_item 2 n e; status_is = refl })
gone (suc (suc at)) n e = absurd (cc)

fits-purge : ReplyFits alone books (known_after (take 11 rows)) command.Purge (reply.Purge (1 ∷ 2 ∷ []))
fits-purge = (refl, record { rising = rising; gone = λ n has. gone has.at n has.is })

-- an unhold without a hold
no_hold : due (known_after rows) command.Unhold ≡ Some (refuses refusal.NoHold)
no_hold = refl
