-- A reply that fits books fits all sound books that come after them.
use Rattle.std.proofs.Common.{◌≡◌, ◌≤◌, ◌+◌, inl, inr, ⊎_elim, ℕ, List, length, take, drop, Option, Some, None, sym, ◌∙◌, ap, subst, arith}
use Rattle.std.proofs.lemmas.List.{take-append-le}
use Rattle.sv_model.specs.declared.writes.Write.{Write}
use Rattle.sv_model.specs.declared.writes.Op.{Op}
use Rattle.sv_model.specs.declared.writes.Op.TheVariants as op
use Rattle.sv_model.specs.declared.records.Descriptor.{Descriptor}
use Rattle.sv_model.specs.declared.records.FileMeta.{FileMeta}
use Rattle.sv_model.specs.declared.records.FileStatus.TheVariants.{Gone}
use Rattle.sv_model.specs.declared.records.RegisteredFile.{RegisteredFile}
use Rattle.sv_model.specs.declared.records.SuperVersion.{SuperVersion}
use Rattle.sv_model.specs.declared.settings.OptionName.{OptionName}
use Rattle.sv_model.specs.After.{After, KeepsList, KeepsNumber, KeepsSnapshot, KeepsSuper}
use Rattle.sv_model.specs.Books.{Books, end_of}
use Rattle.sv_model.specs.Journal.{borne_by, by_lane, newest_op, of_family, rows_of}
use Rattle.sv_model.specs.Lawful.{Lawful}
use Rattle.sv_model.specs.Lists.{In}
use Rattle.sv_model.specs.Numbers.{HasStatus}
use Rattle.sv_model.specs.Ranges.{reach_of}
use Rattle.sv_model.specs.Registers.{entry, Has}
use Rattle.sv_model.specs.Snapshots.{cut_of}
use Rattle.sv_laws.proofs.CutLaws.{cut-ascend, cut-now}
use Rattle.sv_laws.proofs.SnapshotLaws.{cut-stays}
use Rattle.sv_script.specs.declared.commands.Command.{Command}
use Rattle.sv_script.specs.declared.commands.Command.TheVariants as command
use Rattle.sv_script.specs.declared.replies.Reply.{Reply}
use Rattle.sv_script.specs.declared.replies.Reply.TheVariants as reply
use Rattle.sv_replies.specs.Known.{Known, Pinned}
use Rattle.sv_replies.specs.Knows.{Knows}
use Rattle.sv_replies.specs.Settings.{Setting}
use Rattle.sv_replies.specs.Moments.{IsIn}
use Rattle.sv_replies.specs.Unread.{FindsUnread, IsFoundUnread, newest_unread}
use Rattle.sv_replies.specs.PutLaw.{Writes}
use Rattle.sv_replies.specs.GetLaw.{Gets}
use Rattle.sv_replies.specs.GetpLaw.{EndsAt, GetsPinned}
use Rattle.sv_replies.specs.GetsLaw.{CutsAt, EndsFrom, GetsAt}
use Rattle.sv_replies.specs.FlushLaw.{Flushes}
use Rattle.sv_replies.specs.CompactLaw.{Compacts}
use Rattle.sv_replies.specs.CreateLaw.{Creates}
use Rattle.sv_replies.specs.SetLaw.{HasOption, Sets, value_of}
use Rattle.sv_replies.specs.PinLaw.{Pins}
use Rattle.sv_replies.specs.PurgeLaw.{Purges}
use Rattle.sv_replies.specs.SnapLaw.{Snaps, StandsAt, Unsnaps}
use Rattle.sv_replies.specs.ReplyFits.{ReplyFits, Shows}
use Rattle.sv_replies.proofs.KnowsLaws.{over-later}
use Rattle.sv_replies.proofs.AfterLemmas.{continues-length, count-later, dropped-later, end-later, has-later, in-register, looks-later, look-later, named-later, of_family-later, of-later, output-later, written-later}
use Rattle.sv_replies.proofs.MetLaws.{refusal-later, some_and}
use Rattle.sv_replies.proofs.LivesLaws.{lives-later}

module _ (s : Setting) (a b : Books) (k : Known) (knows : Knows a k) (law : Lawful a) (still : Lawful b) (after : After a b) where
  grows : (f : ℕ) → length (of_family f a.journal) ≤ length (of_family f b.journal)
  grows f = count-later a.journal b.journal f after.journal

  -- ---- writes and reads

  writes : (key : List ℕ) (op : Op) (n f : ℕ) → Writes s a k key op n f → Writes s b k key op n f
  writes key op n f h = record { later = h.later; written = written-later a b s.lane f key op n after h.written }

  -- what is found without a file
  unread_keeps : (f : ℕ) (key : List ℕ) (found : Option (List ℕ)) (cut : ℕ) → cut ≤ length (of_family f a.journal)
      → (x y : SuperVersion) → KeepsSuper x y
      → FindsUnread a f key found cut x → FindsUnread b f key found cut y
  unread_keeps f key found cut few x y kept h =
      let v = after.versions x.descriptor.version h.version h.at in
      let whole : take cut (of_family f b.journal) ≡ take cut (of_family f a.journal) =
      ap (take cut) (of_family-later a.journal b.journal f after.journal) ∙ take-append-le cut (of_family f a.journal) (of_family f after.journal.0) few in
      let same : newest_unread b f key cut v.0 ≡ newest_unread a f key cut h.version =
      ap (λ (z : List FileMeta). newest_op key (rows_of (drop (reach_of z) (take cut (of_family f b.journal))))) v.2.files
      ∙ ap (λ (z : List Write). newest_op key (rows_of (drop (reach_of h.version.files) z))) whole in
      record {
        version = v.0;
        at = ap (λ (d : Descriptor). entry b.versions d.version) kept.descriptor ∙ v.1;
        above = λ o e. h.above o (sym same ∙ e);
        alone = λ none. look-later a.journal b.journal f cut key after.journal few ∙ h.alone (sym v.2.files ∙ none);
      }

  unread : (f : ℕ) (key : List ℕ) (found : Option (List ℕ)) (cut sv : ℕ) → cut ≤ length (of_family f a.journal)
      → IsFoundUnread a f key found cut sv → IsFoundUnread b f key found cut sv
  unread f key found cut sv few h =
      in-register KeepsSuper (FindsUnread a f key found cut) (FindsUnread b f key found cut) (unread_keeps f key found cut few) a.supers b.supers sv after.supers h

  gets : (key : List ℕ) (found : Option (List ℕ)) (cut sv f : ℕ) → Gets s a k key found cut sv f
      → Gets s b k key found cut sv f
  gets key found cut sv f h = record {
    later = h.later;
    newer = h.newer;
    within = omega (arith, h.within, grows f);
    looks = looks-later s.told a b f key found cut sv after h.within h.looks;
    unread = unread f key found cut sv h.within h.unread;
  }

  -- where a SuperVersion ends whose active memtable is frozen
  ends_keeps : (cut : ℕ) (x y : SuperVersion) → KeepsSuper x y → EndsAt a cut x → EndsAt b cut y
  ends_keeps cut x y kept h =
      let l = h.frozen in
      let rows : borne_by x.descriptor.active b.journal ≡ borne_by x.descriptor.active a.journal = after.rows l.0 x.descriptor.active l.1 l.2 l.3 in
      let ends : end_of b.journal y ≡ x.descriptor.base + length (borne_by x.descriptor.active b.journal) = ap (λ (d : Descriptor). d.base + length (borne_by d.active b.journal)) kept.descriptor in
      record {
        end = h.end ∙ ap (λ (z : List Write). x.descriptor.base + length z) (sym rows) ∙ sym ends;
        frozen =
            subst (λ m. Has (λ z. In m z.members) b.lists) (sym (ap (λ (d : Descriptor). d.active) kept.descriptor))
            (has-later KeepsList (λ z. In x.descriptor.active z.members) (λ z. In x.descriptor.active z.members)
            (λ p q keeps it. subst (λ (ms : List ℕ). In x.descriptor.active ms) (sym keeps.members) it) a.lists b.lists after.lists l);
      }

  gets_pinned : (key : List ℕ) (found : Option (List ℕ)) (cut sv : ℕ) (p : Pinned)
      → GetsPinned s a k key found cut sv p → GetsPinned s b k key found cut sv p
  gets_pinned key found cut sv p h = record {
    serial_is = h.serial_is;
    later = ⊎_elim (λ far. inl far) (λ at. inr (in-register KeepsSuper (EndsAt a cut) (EndsAt b cut) (ends_keeps cut) a.supers b.supers sv after.supers at)) h.later;
    within = omega (arith, h.within, grows p.family);
    looks = looks-later s.told a b p.family key found cut sv after h.within h.looks;
    unread = unread p.family key found cut sv h.within h.unread;
  }

  through_keeps : (f cut : ℕ) (x y : SuperVersion) → KeepsSuper x y → EndsFrom a f cut x → EndsFrom b f cut y
  through_keeps f cut x y kept h = record {
    family_is = ap (λ (d : Descriptor). d.family) kept.descriptor ∙ h.family_is;
    ends = omega (arith, h.ends, end-later a b x y after kept);
  }

  cut_keeps : (f cut : ℕ) (x y : _) → KeepsSnapshot x y → CutsAt a f cut x → CutsAt b f cut y
  cut_keeps f cut x y kept h = record {
    is = h.is ∙ sym (cut-stays a.journal b.journal after.journal x.at f h.within) ∙ ap (λ at. cut_of b.journal at f) (sym kept.at);
    within = omega (arith, h.within, kept.at, continues-length a.journal b.journal after.journal);
  }

  -- a cut is within the family's writes
  cut_within : (f cut n : ℕ) → IsIn (CutsAt a f cut) a.snapshots n → cut ≤ length (of_family f a.journal)
  cut_within f cut n h =
      omega (arith, h.2.is, cut-ascend a.journal f h.0.at (length a.journal) h.2.within, cut-now a.journal f)

  gets_at : (n : ℕ) (key : List ℕ) (found : Option (List ℕ)) (cut sv f : ℕ) → GetsAt s a k n key found cut sv f
      → GetsAt s b k n key found cut sv f
  gets_at n key found cut sv f h = record {
    may = h.may;
    newer = h.newer;
    through = in-register KeepsSuper (EndsFrom a f cut) (EndsFrom b f cut) (through_keeps f cut) a.supers b.supers sv after.supers h.through;
    cut_is = in-register KeepsSnapshot (CutsAt a f cut) (CutsAt b f cut) (cut_keeps f cut) a.snapshots b.snapshots n after.snapshots h.cut_is;
    found_is = λ is. look-later a.journal b.journal f cut key after.journal (cut_within f cut n h.cut_is) ∙ h.found_is is;
    unread = unread f key found cut sv (cut_within f cut n h.cut_is) h.unread;
  }

  -- ---- files

  flushes : (number from to f : ℕ) → Flushes a k number from to f → Flushes b k number from to f
  flushes number from to f h =
      record { range = h.range; later = h.later; newer = h.newer; cuts = h.cuts; output = output-later a b f _ after h.output }

  compacts : (number from to f : ℕ) → Compacts a k number from to f → Compacts b k number from to f
  compacts number from to f h =
      record { whole = h.whole; some = h.some; far = h.far; newer = h.newer; cuts = h.cuts; output = output-later a b f _ after h.output }

  gone_keeps : (n : ℕ) (x y : RegisteredFile) → KeepsNumber x y → HasStatus n Gone x → HasStatus n Gone y
  gone_keeps n x y kept h = record { number_is = kept.number ∙ h.number_is; status_is = kept.gone h.status_is }

  purges : (numbers : List ℕ) → Purges a numbers → Purges b numbers
  purges numbers h = record {
    rising = h.rising;
    gone = λ n has. has-later KeepsNumber (HasStatus n Gone) (HasStatus n Gone) (gone_keeps n) a.files.numbers b.files.numbers after.numbers (h.gone n has);
  }

  -- ---- families

  creates : (name : List ℕ) (id : ℕ) → Creates a k name id → Creates b k name id
  creates name id h = record { free = h.free; newer = h.newer; named = named-later a b id name after h.named }

  option_keeps : (f : ℕ) (option : OptionName) (value : ℕ) (x y : SuperVersion) → KeepsSuper x y
      → HasOption f option value x → HasOption f option value y
  option_keeps f option value x y kept h = record {
    family_is = ap (λ (d : Descriptor). d.family) kept.descriptor ∙ h.family_is;
    value_is = ap (λ (d : Descriptor). value_of option d.options) kept.descriptor ∙ h.value_is;
  }

  sets : (option : OptionName) (value sv f : ℕ) → Sets a k option value sv f → Sets b k option value sv f
  sets option value sv f h = record {
    newer = h.newer;
    set = in-register KeepsSuper (HasOption f option value) (HasOption f option value) (option_keeps f option value) a.supers b.supers sv after.supers h.set;
  }

  pins : (pin sv f : ℕ) → Pins a k pin sv f → Pins b k pin sv f
  pins pin sv f h = record { least = h.least; newer = h.newer; of = of-later a b f sv after h.of }

  -- ---- snapshots

  snaps : (n at : ℕ) → Snaps s a k n at → Snaps s b k n at
  snaps n at h = record {
    new = h.new;
    stands = in-register KeepsSnapshot (StandsAt at) (StandsAt at) (λ x y kept is. kept.at ∙ is) a.snapshots b.snapshots n after.snapshots h.stands;
    within = omega (arith, h.within, continues-length a.journal b.journal after.journal);
    covers = λ f. omega (arith, h.covers f, cut-stays a.journal b.journal after.journal at f h.within);
    own = ap (λ z. length (by_lane s.lane z)) (ap (take at) after.journal.1 ∙ take-append-le at a.journal after.journal.0 h.within) ∙ h.own;
  }

  unsnaps : (n : ℕ) → Unsnaps s a k n → Unsnaps s b k n
  unsnaps n h = record { may = h.may; over = over-later a b n after h.over }

  -- ---- each answer

  pub shows-later : (c : Command) (r : Reply) → Shows s a k c r → Shows s b k c r
  shows-later (command.Put name key value) (reply.Put n) h =
      some_and _ _ (writes key (op.Put value) n) (k.handles name) h
  shows-later (command.Delete name key) (reply.Delete n) h = some_and _ _ (writes key op.Delete n) (k.handles name) h
  shows-later (command.Get name key) (reply.Found value cut sv) h =
      some_and _ _ (gets key (Some value) cut sv) (k.handles name) h
  shows-later (command.Get name key) (reply.Absent cut sv) h = some_and _ _ (gets key None cut sv) (k.handles name) h
  shows-later (command.Getp pin key) (reply.Found value cut sv) h =
      some_and _ _ (gets_pinned key (Some value) cut sv) (k.pins pin) h
  shows-later (command.Getp pin key) (reply.Absent cut sv) h = some_and _ _ (gets_pinned key None cut sv) (k.pins pin) h
  shows-later (command.Gets n name key) (reply.Found value cut sv) h =
      some_and _ _ (gets_at n key (Some value) cut sv) (k.handles name) h
  shows-later (command.Gets n name key) (reply.Absent cut sv) h =
      some_and _ _ (gets_at n key None cut sv) (k.handles name) h
  shows-later (command.Flush name) (reply.Flush number from to) h =
      some_and _ _ (flushes number from to) (k.handles name) h
  shows-later (command.Compact name) (reply.Compact number from to) h =
      some_and _ _ (compacts number from to) (k.handles name) h
  shows-later (command.Create name) (reply.Create id) h = creates name id h
  shows-later (command.Open name) (reply.Open id) h = named-later a b id name after h
  shows-later (command.Release name) reply.Release h = tt
  shows-later (command.Drop name) reply.Drop h = some_and _ _ (λ f is. dropped-later a b f after is) (k.handles name) h
  shows-later (command.Set name option value) (reply.Set sv) h = some_and _ _ (sets option value sv) (k.handles name) h
  shows-later (command.Pin name) (reply.Pin pin sv) h = some_and _ _ (pins pin sv) (k.handles name) h
  shows-later (command.Unpin pin) reply.Unpin h = tt
  shows-later command.Hold (reply.Hold count) h = h
  shows-later command.Unhold (reply.Unhold count) h = h
  shows-later command.Live (reply.Live numbers) h = lives-later a b k knows law still after numbers h
  shows-later command.Purge (reply.Purge numbers) h = purges numbers h
  shows-later command.Scan (reply.Scan numbers) h = purges numbers h
  shows-later command.Rest (reply.Rest count) h = h
  shows-later command.Snap (reply.Snap n at) h = snaps n at h
  shows-later (command.Unsnap n) reply.Unsnap h = unsnaps n h
  shows-later c r h = absurd h

  pub fits-later : (c : Command) (r : Reply) → ReplyFits s a k c r → ReplyFits s b k c r
  fits-later c (reply.Refused e) h = refusal-later s a b k after c e h
  fits-later c r h = (h.0, shows-later c r h.1)
