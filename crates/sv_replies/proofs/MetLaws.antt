-- Refused commands: when the reply fits, and that what a moment's books gave is so of all later ones.
use Rattle.std.proofs.Common.{◌≡◌, ◌≤◌, inl, inr, ⊎_elim, ℕ, List, length, Option, Some, None, refl, sym, ◌∙◌, subst, arith}
use Rattle.std.specs.Prelude.{IsSomeAnd}
use Rattle.sv_model.specs.declared.refusals.Refusal.{Refusal}
use Rattle.sv_model.specs.declared.refusals.Refusal.TheVariants as refusal
use Rattle.sv_model.specs.After.{After, KeepsNumber}
use Rattle.sv_model.specs.Books.{Books}
use Rattle.sv_script.specs.declared.commands.Command.{Command}
use Rattle.sv_script.specs.declared.commands.Command.TheVariants as command
use Rattle.sv_script.specs.declared.replies.Reply.TheVariants as reply
use Rattle.sv_replies.specs.Known.{Known, Pinned}
use Rattle.sv_replies.specs.Settings.{Setting}
use Rattle.sv_replies.specs.Moments.{NamedAreDropped, WasMerged}
use Rattle.sv_replies.specs.Due.{Cause, ComesOf, NoHandle, due, held, no_handle, refuses}
use Rattle.sv_replies.specs.PutLaw.{WriteMet}
use Rattle.sv_replies.specs.GetLaw.{ReadMet}
use Rattle.sv_replies.specs.GetsLaw.{GetsMet}
use Rattle.sv_replies.specs.FlushLaw.{FlushMet}
use Rattle.sv_replies.specs.CompactLaw.{CompactMet}
use Rattle.sv_replies.specs.CreateLaw.{CreateMet}
use Rattle.sv_replies.specs.OpenLaw.{OpenMet}
use Rattle.sv_replies.specs.DropLaw.{DropMet}
use Rattle.sv_replies.specs.SetLaw.{SetMet}
use Rattle.sv_replies.specs.PurgeLaw.{IsKnownNumber, PurgeMet, ScanMet}
use Rattle.sv_replies.specs.SnapLaw.{NoSuch, SnapMet, UnsnapMet}
use Rattle.sv_replies.specs.ReplyFits.{MayRunOut, Met, Refused, ReplyFits}
use Rattle.sv_replies.proofs.KnowsLaws.{over-later}
use Rattle.sv_replies.proofs.AfterLemmas.{all_made-later, all_numbered-later, captured-later, continues-length, dropped-later, flushed-later, goes_on-length, has-later, many_live-later, many_memtables-later, reaches-later, stalled-later, taken-later}

-- ---- what is so of the item

pub through : {A : Type 0} (o : Option A) (x : A) (P : A → Type 0) → o ≡ Some x → P x → IsSomeAnd o P
through o x P e p = subst (λ z. IsSomeAnd z P) (sym e) p

pub some_and : {A : Type 0} (P Q : A → Type 0) → ((x : A) → P x → Q x) → (o : Option A) → IsSomeAnd o P → IsSomeAnd o Q
some_and P Q h None p = absurd p
some_and P Q h (Some x) p = h x p

-- ---- when a refusal fits

-- no refusal for which memory is wanted is one that the books of a moment gave
met_in-memory : (s : Setting) (b : Books) (k : Known) (c : Command) → Met s b k c refusal.OutOfMemory → MayRunOut c
met_in-memory s b k (command.Unpin pin) met = met
met_in-memory s b k command.Hold met = met
met_in-memory s b k command.Unhold met = met
met_in-memory s b k command.Rest met = met
met_in-memory s b k (command.Unsnap snapshot) met = met
met_in-memory s b k c met = tt

-- where none is due, one that the books of its moment gave
pub fits_met : (s : Setting) (b : Books) (k : Known) (c : Command) (e : Refusal) → due k c ≡ None → Met s b k c e
    → ReplyFits s b k c (reply.Refused e)
fits_met s b k c refusal.OutOfMemory none met = met_in-memory s b k c met
fits_met s b k c e none met = subst (λ d. Refused s b k c e d) (sym none) met

-- the one that is due
pub fits_due : (s : Setting) (b : Books) (k : Known) (c : Command) (cause : Cause) (e : Refusal)
    → due k c ≡ Some cause → (e ≡ refusal.OutOfMemory → ⊥) → ComesOf s b k cause e
    → ReplyFits s b k c (reply.Refused e)
fits_due s b k c cause refusal.OutOfMemory is other comes = absurd (other refl)
fits_due s b k c cause e is other comes = subst (λ d. Refused s b k c e d) (sym is) comes

-- ---- what a moment gave stays

module _ (s : Setting) (a b : Books) (k : Known) (after : After a b) where
  journal-longer : length a.journal ≤ length b.journal
  journal-longer = continues-length a.journal b.journal after.journal

  families-longer : length a.families ≤ length b.families
  families-longer = goes_on-length _ a.families b.families after.families

  snapshots-longer : length a.snapshots ≤ length b.snapshots
  snapshots-longer = goes_on-length _ a.snapshots b.snapshots after.snapshots

  merged-later : (family upto : ℕ) → WasMerged a family upto → WasMerged b family upto
  merged-later family upto (inl none) = inl none
  merged-later family upto (inr found) =
      inr (found.0, record { reaches = reaches-later a b family upto found.0 after found.1.reaches; last = found.1.last })

  named_dropped-later : (name : List ℕ) → NamedAreDropped a k name → NamedAreDropped b k name
  named_dropped-later name h = λ id is. dropped-later a b id after (h id is)

  known_number-later : (n : ℕ) → IsKnownNumber a n → IsKnownNumber b n
  known_number-later n h =
      has-later KeepsNumber (λ f. f.number ≡ n) (λ f. f.number ≡ n) (λ x y kept is. kept.number ∙ is) a.files.numbers b.files.numbers after.numbers h

  no_such-later : (n : ℕ) → NoSuch s a k n → NoSuch s b k n
  no_such-later n h = record { over = λ is. over-later a b n after (h.over is); alone = h.alone }

  write_met : (e : Refusal) (f : ℕ) → WriteMet a k e f → WriteMet b k e f
  write_met refusal.Dropped f h = dropped-later a b f after h
  write_met refusal.JournalFull f h = omega (arith, journal-longer, h)
  write_met refusal.Stalled f h = stalled-later a b f (k.families f).flushed after h
  write_met refusal.TooManyMemtables f h = many_memtables-later a b after h
  write_met refusal.RegisterFull f h = all_made-later a b after h
  write_met refusal.TooManyLive f h = many_live-later a b after h
  write_met e f h = absurd h

  read_met : (e : Refusal) (f : ℕ) → ReadMet s a e f → ReadMet s b e f
  read_met (refusal.DirFault number) f h = captured-later a b f number after h
  read_met (refusal.BadFile number place) f h = (h.0, captured-later a b f number after h.1)
  read_met e f h = absurd h

  gets_met : (snapshot : ℕ) (e : Refusal) (f : ℕ) → GetsMet s a k snapshot e f → GetsMet s b k snapshot e f
  gets_met snapshot refusal.NoSnapshot f h = no_such-later snapshot h
  gets_met snapshot (refusal.DirFault number) f h = captured-later a b f number after h
  gets_met snapshot (refusal.BadFile number place) f h = (h.0, captured-later a b f number after h.1)
  gets_met snapshot e f h = absurd h

  flush_met : (e : Refusal) (f : ℕ) → FlushMet s a k e f → FlushMet s b k e f
  flush_met refusal.Dropped f h = dropped-later a b f after h
  flush_met (refusal.Busy number) f h = (h.0, captured-later a b f number after h.1)
  flush_met refusal.NothingToFlush f h = flushed-later a b f (k.families f).seen after h
  flush_met refusal.RegisterFull f h = all_numbered-later a b after h
  flush_met refusal.TooManyMemtables f h = many_memtables-later a b after h
  flush_met refusal.TooManyLive f h = many_live-later a b after h
  flush_met (refusal.DirFault number) f h = captured-later a b f number after h
  flush_met e f h = absurd h

  compact_met : (e : Refusal) (f : ℕ) → CompactMet s a k e f → CompactMet s b k e f
  compact_met refusal.Dropped f h = dropped-later a b f after h
  compact_met (refusal.Busy number) f h = (h.0, captured-later a b f number after h.1)
  compact_met refusal.NothingToCompact f h = merged-later f (k.families f).flushed h
  compact_met refusal.RegisterFull f h = all_numbered-later a b after h
  compact_met refusal.TooManyLive f h = many_live-later a b after h
  compact_met (refusal.DirFault number) f h = captured-later a b f number after h
  compact_met (refusal.BadFile number place) f h = (h.0, captured-later a b f number after h.1)
  compact_met e f h = absurd h

  create_met : (name : List ℕ) (e : Refusal) → CreateMet a k name e → CreateMet b k name e
  create_met name refusal.NameTaken h = taken-later a b name after h
  create_met name refusal.AlreadyOpen h = h
  create_met name refusal.TooManyFamilies h = record { free = h.free; was = omega (arith, families-longer, h.was) }
  create_met name refusal.TooManyMemtables h = record { free = h.free; was = many_memtables-later a b after h.was }
  create_met name refusal.RegisterFull h = record { free = h.free; was = all_made-later a b after h.was }
  create_met name refusal.TooManyLive h = record { free = h.free; was = many_live-later a b after h.was }
  create_met name e h = absurd h

  open_met : (name : List ℕ) (e : Refusal) → OpenMet a k name e → OpenMet b k name e
  open_met name refusal.NoFamily h = named_dropped-later name h
  open_met name e h = absurd h

  drop_met : (e : Refusal) (f : ℕ) → DropMet a e f → DropMet b e f
  drop_met refusal.Dropped f h = dropped-later a b f after h
  drop_met e f h = absurd h

  set_met : (e : Refusal) (f : ℕ) → SetMet a e f → SetMet b e f
  set_met refusal.Dropped f h = dropped-later a b f after h
  set_met refusal.RegisterFull f h = all_made-later a b after h
  set_met refusal.TooManyLive f h = many_live-later a b after h
  set_met e f h = absurd h

  purge_met : (e : Refusal) → PurgeMet s a k e → PurgeMet s b k e
  purge_met (refusal.Disabled count) h = h
  purge_met (refusal.DirFault number) h = known_number-later number h
  purge_met e h = absurd h

  scan_met : (e : Refusal) → ScanMet s a k e → ScanMet s b k e
  scan_met (refusal.Disabled count) h = h
  scan_met (refusal.DirFault number) h = ⊎_elim (λ none. inl none) (λ is. inr (known_number-later number is)) h
  scan_met e h = absurd h

  snap_met : (e : Refusal) → SnapMet a e → SnapMet b e
  snap_met refusal.RegisterFull h = omega (arith, snapshots-longer, h)
  snap_met refusal.TooManySnapshots h = omega (arith, snapshots-longer, h)
  snap_met e h = absurd h

  unsnap_met : (n : ℕ) (e : Refusal) → UnsnapMet s a k n e → UnsnapMet s b k n e
  unsnap_met n refusal.NoSnapshot h = no_such-later n h
  unsnap_met n e h = absurd h

  -- of each command
  pub met-later : (c : Command) (e : Refusal) → Met s a k c e → Met s b k c e
  met-later (command.Put name key value) e met =
      some_and (WriteMet a k e) (WriteMet b k e) (λ f h. write_met e f h) (k.handles name) met
  met-later (command.Delete name key) e met =
      some_and (WriteMet a k e) (WriteMet b k e) (λ f h. write_met e f h) (k.handles name) met
  met-later (command.Get name key) e met =
      some_and (ReadMet s a e) (ReadMet s b e) (λ f h. read_met e f h) (k.handles name) met
  met-later (command.Getp pin key) e met =
      some_and (λ (p : Pinned). ReadMet s a e p.family) (λ (p : Pinned). ReadMet s b e p.family) (λ p h. read_met e p.family h) (k.pins pin) met
  met-later (command.Gets n name key) e met =
      some_and (GetsMet s a k n e) (GetsMet s b k n e) (λ f h. gets_met n e f h) (k.handles name) met
  met-later (command.Flush name) e met =
      some_and (FlushMet s a k e) (FlushMet s b k e) (λ f h. flush_met e f h) (k.handles name) met
  met-later (command.Compact name) e met =
      some_and (CompactMet s a k e) (CompactMet s b k e) (λ f h. compact_met e f h) (k.handles name) met
  met-later (command.Create name) e met = create_met name e met
  met-later (command.Open name) e met = open_met name e met
  met-later (command.Drop name) e met =
      some_and (DropMet a e) (DropMet b e) (λ f h. drop_met e f h) (k.handles name) met
  met-later (command.Set name option value) e met =
      some_and (SetMet a e) (SetMet b e) (λ f h. set_met e f h) (k.handles name) met
  met-later command.Purge e met = purge_met e met
  met-later command.Scan e met = scan_met e met
  met-later command.Snap e met = snap_met e met
  met-later (command.Unsnap n) e met = unsnap_met n e met
  met-later c e met = absurd met

  no_handle-later : (name : List ℕ) (e : Refusal) → NoHandle a k name e → NoHandle b k name e
  no_handle-later name refusal.NoFamily h = named_dropped-later name h
  no_handle-later name refusal.NotOpen h = taken-later a b name after h
  no_handle-later name e h = absurd h

  comes-later : (cause : Cause) (e : Refusal) → ComesOf s a k cause e → ComesOf s b k cause e
  comes-later (refuses r) e h = h
  comes-later (no_handle name) e h = no_handle-later name e h
  comes-later (held own) e h = h

  refused-later : (c : Command) (e : Refusal) (d : Option Cause) → Refused s a k c e d → Refused s b k c e d
  refused-later c e (Some cause) h = comes-later cause e h
  refused-later c e None h = met-later c e h

  -- a refusal fits all later books
  pub refusal-later : (c : Command) (e : Refusal) → ReplyFits s a k c (reply.Refused e)
      → ReplyFits s b k c (reply.Refused e)
  refusal-later c refusal.OutOfMemory h = h
  refusal-later c e h = refused-later c e (due k c) h
