-- A flush and a compaction end.
use Rattle.std.proofs.Common.{◌≡◌, ◌≤◌, ◌+◌, ◌∷◌, ◌++◌, ⊎_elim, ℕ, zero, suc, true, false, Bool, List, [], length, Some, refl, sym, ap, ◌∙◌, subst, arith, drop}
use Rattle.std.specs.declared.sync.Arc.{Arc}
use Rattle.std.specs.Prelude.{IfOk, Result, Ok, Err, option_map, slice_get, slice_set}
use Rattle.sv_model.specs.declared.records.Descriptor.{Descriptor}
use Rattle.sv_model.specs.declared.records.Family.{Family}
use Rattle.sv_model.specs.declared.records.FileMeta.{FileMeta}
use Rattle.sv_model.specs.declared.records.FileStatus.TheVariants.{Live, Obsolete, Pending}
use Rattle.sv_model.specs.declared.records.Memtable.{Memtable}
use Rattle.sv_model.specs.declared.records.MemtableList.{MemtableList}
use Rattle.sv_model.specs.declared.records.SuperVersion.{SuperVersion}
use Rattle.sv_model.specs.declared.records.Top.{Top}
use Rattle.sv_model.specs.declared.records.Version.{Version}
use Rattle.sv_model.specs.declared.refusals.Refusal.{Refusal}
use Rattle.sv_model.specs.declared.sv_refs.SvRef.{SvRef}
use Rattle.sv_model.specs.After.{After}
use Rattle.sv_model.specs.Books.{Books, FileRegister}
use Rattle.sv_model.specs.Cells.{Cell}
use Rattle.sv_model.specs.Described.{MembersJoin}
use Rattle.sv_model.specs.Named.{NamedFile}
use Rattle.sv_model.specs.Numbers.{IsRegistered, IsSettled}
use Rattle.sv_model.specs.Ranges.{FilesJoin, reach_of}
use Rattle.sv_model.specs.Registers.{entry}
use Rattle.sv_model.specs.Steady.{IsAwaited, Sound}
use Rattle.sv_model.proofs.Registers.{entry-new}
use Rattle.sv_files.specs.Calls.{Settles}
use Rattle.sv_laws.specs.Captures.{IsGivenUp}
use Rattle.sv_laws.specs.Changes.{compacted, flushed, given_up}
use Rattle.sv_laws.specs.Installs.{IsOpen, live_super}
use Rattle.sv_laws.specs.NewCurrents.{IsCompacted, IsFlushed, IsParted}
use Rattle.sv_laws.proofs.Apart.{true_false}
use Rattle.sv_model.proofs.Entries.{some}
use Rattle.sv_model.proofs.Metas.{one-meta}
use Rattle.sv_laws.proofs.Kept.{sound-kept}
use Rattle.sv_laws.proofs.Needs.{few-live, reaches, unnamed}
use Rattle.sv_laws.proofs.OpenFamilies.{member, says}
use Rattle.sv_objects.specs.declared.bodies.Body.{Body}
use Rattle.sv_objects.specs.declared.objects.Objects.{Objects}
use Rattle.sv_objects.specs.Cleanups.{with_objects}
use Rattle.sv_objects.specs.Makings.{IsCellOf}
use Rattle.sv_objects.specs.Shown.{shown}
use Rattle.sv_state.specs.Finishing.{BodyCompacted, BodyFlushed, CanFinish, HasFront}
use Rattle.sv_state.specs.Refs.{AreFrozenAt, IsBodyOf, IsRefOf}
use Rattle.sv_state.proofs.Fronts.{front-parted}
use Rattle.sv_state.proofs.OptionSets.{own-it, own-open}
use Rattle.sv_state.proofs.References.{frozen-drop, frozen_long, new-ref}

pub dropped-read : (families : List Family) (f : ℕ) (x : Family) (r : Bool) → slice_get families f ≡ Some x → option_map (λ (z : Family). z.dropped) (slice_get families f) ≡ Some r → x.dropped ≡ r
dropped-read families f x r at e = some (sym (ap (option_map (λ (z : Family). z.dropped)) at) ∙ e)

-- ---- an output that is given up

pub was-pending : (a : Books) (k : Sound a) (f n : ℕ) → slice_get a.files.captured f ≡ Some (Some n) → IsRegistered a.files.numbers n Pending
was-pending a k f n e = let w = k.lawful.numbers.held f n e in (w.0, w.1, w.2, record { number_is = w.3.number_is; status_is = w.3.status_is })

pub give-up : (rest : Books) (o p : Objects) → p ≡ o → (f n : ℕ) → slice_get o.files.captured f ≡ Some (Some n) → (F : FileRegister) → Settles n Obsolete p.files F
    → IsGivenUp (with_objects rest o) (record (with_objects rest p) { files = F }) f n
give-up rest o p same f n captured F h =
    subst (λ (q : Objects). Settles n Obsolete q.files F → IsGivenUp (with_objects rest o) (record (with_objects rest q) { files = F }) f n) (sym same)
    (λ s. record { settled = subst (λ g. IsSettled g n Obsolete o.files F) (sym (s.only f captured)) s.settled; is = refl }) h

pub given-law : (a b : Books) (k : Sound a) (f n : ℕ) → IsGivenUp a b f n → Sound b × After a b
given-law a b k f n h = sound-kept a b k (given_up f n h)

-- ---- what the end of an output may rely on

module _ (a : Books) (k : Sound a) (f : ℕ) (file : FileMeta) (can : CanFinish a f file) (stands : can.it.dropped ≡ false) where
  abbrev pub done-it : SuperVersion
  done-it = own-it a k f can.it can.at stands (can.current stands)

  abbrev pub done-open : IsOpen a f (can.current stands).serial done-it
  done-open = own-open a k f can.it can.at stands (can.current stands)

  awaits : IsAwaited a.journal a.memtables a.lists a.versions a.metas file.number done-it.descriptor
  awaits = k.steady.awaited f file.number (can.current stands).serial done-it can.captured done-open.current

  file_is : awaits.file ≡ file
  file_is =
      one-meta a.files.numbers a.files.captured a.files.next a.metas k.lawful.numbers k.lawful.metas awaits.file file
      awaits.covered can.covered awaits.number_is

  same-version : (v : Version) → entry a.versions done-it.descriptor.version ≡ Some v → awaits.version ≡ v
  same-version v e = some (sym awaits.version_at ∙ e)

  pub merge-from : file.bottom.last ≡ true → file.from ≡ 0
  merge-from kind = ⊎_elim
      (λ u. true_false (sym kind ∙ ap (λ (m : FileMeta). m.bottom.last) (sym file_is) ∙ u.above))
      (λ u. ap (λ (m : FileMeta). m.from) (sym file_is) ∙ u.from_is)
      awaits.fits

  pub merge-covers : file.bottom.last ≡ true → (v : Version) → entry a.versions done-it.descriptor.version ≡ Some v → FilesJoin 0 v.files file.to
  merge-covers kind v e = ⊎_elim
      (λ u. true_false (sym kind ∙ ap (λ (m : FileMeta). m.bottom.last) (sym file_is) ∙ u.above))
      (λ u. subst (FilesJoin 0 v.files) (ap (λ (z : Version). reach_of z.files) (sym (same-version v e)) ∙ sym u.to_is ∙ ap (λ (m : FileMeta). m.to) file_is) (reaches a k f (can.current stands).serial done-it done-open v e))
      awaits.fits

  pub flush-joins : file.bottom.last ≡ false → (v : Version) → entry a.versions done-it.descriptor.version ≡ Some v → FilesJoin 0 v.files file.from
  flush-joins kind v e = ⊎_elim
      (λ u. subst (FilesJoin 0 v.files) (ap (λ (z : Version). reach_of z.files) (sym (same-version v e)) ∙ sym u.from_is ∙ ap (λ (m : FileMeta). m.from) file_is) (reaches a k f (can.current stands).serial done-it done-open v e))
      (λ u. true_false (sym u.last_is ∙ ap (λ (m : FileMeta). m.bottom.last) file_is ∙ kind))
      awaits.fits

  pub not-named : NamedFile a.versions file.number → ⊥
  not-named = unnamed a k file.number (was-pending a k f file.number can.captured)

  joined : (z : MemtableList) → entry a.lists done-it.descriptor.list ≡ Some z → MembersJoin a.journal a.memtables done-it.descriptor.family (says a k f (can.current stands).serial done-it done-open).middle z.members done-it.descriptor.base
  joined z e =
      let d = says a k f (can.current stands).serial done-it done-open in
      subst (λ (u : MemtableList). MembersJoin a.journal a.memtables done-it.descriptor.family d.middle u.members done-it.descriptor.base) (some (sym d.list_at ∙ e)) d.members

  pub few-in-list : (z : MemtableList) → entry a.lists done-it.descriptor.list ≡ Some z → length z.members ≤ 64
  few-in-list z e =
      let d = says a k f (can.current stands).serial done-it done-open in
      omega (arith, k.lawful.limits.live_memtables, few-live a.journal done-it.descriptor.family z.members a.memtables d.middle done-it.descriptor.base (joined z e) (λ m i. (member a k f (can.current stands).serial done-it done-open m z e i).0))

  pub list-parted : (z : MemtableList) → entry a.lists done-it.descriptor.list ≡ Some z → (n : ℕ) → HasFront a.memtables file.to z.members n → IsParted a.memtables file.to z.members (drop n z.members)
  list-parted z e n h =
      let d = says a k f (can.current stands).serial done-it done-open in
      front-parted a.journal a.memtables done-it.descriptor.family z.members d.middle done-it.descriptor.base file.to n (joined z e) h

-- the frozen memtables of a body are as many as the members of its list
shown_long : {Z : Type 0} (l : List (ℕ × Arc Cell Z)) → length (shown l) ≡ length l
shown_long [] = refl
shown_long (x ∷ l) = ap suc (shown_long l)

pub list-paired : (a : Books) (d : Descriptor) (body : Body) (w : IsBodyOf a d body) (l : MemtableList) → entry a.lists d.list ≡ Some l → length body.frozen ≡ length l.members
list-paired a d body w l e =
    sym (shown_long body.frozen) ∙ frozen_long a.journal a.memtables w.list.members (shown body.frozen) w.frozen ∙ ap (λ (z : MemtableList). length z.members) (some (sym w.list_at ∙ e))

pub ok-map : (r : Result (SvRef Body) Refusal) (P Q : SvRef Body → Type 0) → ((x : SvRef Body) → P x → Q x) → IfOk r P → IfOk r Q
ok-map (Ok x) P Q h p = h x p
ok-map (Err e) P Q h p = tt

-- the output is settled for this family
pub settled-for : (a : Books) (f n : ℕ) → slice_get a.files.captured f ≡ Some (Some n) → (G F : FileRegister) → G ≡ a.files → Settles n Live G F → IsSettled f n Live a.files F
settled-for a f n captured G F same h =
    let s : Settles n Live a.files F = subst (λ z. Settles n Live z F) same h in
    subst (λ g. IsSettled g n Live a.files F) (sym (s.only f captured)) s.settled

-- ---- a compaction

module _ (rest : Books) (o p : Objects) (k : Sound (with_objects rest o)) (f : ℕ) (file : FileMeta) (can : CanFinish (with_objects rest o) f file) (stands : can.it.dropped ≡ false) (kind : file.bottom.last ≡ true) (old : Body) (w : IsBodyOf (with_objects rest o) (done-it (with_objects rest o) k f file can stands).descriptor old) (pack : ℕ) (body : Body) (m : BodyCompacted o old file p pack body) (F : FileRegister) (done : Settles file.number Live p.files F) (T : List Top) (T_is : T ≡ slice_set rest.tops f (record { current = Some (length o.supers + 1); last = body.descriptor.version })) where
  abbrev a : Books
  a = with_objects rest o

  abbrev pub compacted-books : Books
  compacted-books = record (with_objects rest p) { files = F; tops = T }

  abbrev it : SuperVersion
  it = done-it a k f file can stands

  abbrev next : Descriptor
  next = record it.descriptor { version = length o.versions + 1 }

  supers_is : p.supers ≡ o.supers ++ live_super next m.made.ref.place ∷ []
  supers_is = m.made.ref.made ∙ ap (λ (z : Descriptor). o.supers ++ live_super (record z { version = length o.versions + 1 }) m.made.ref.place ∷ []) w.descriptor_is

  descriptor_is : body.descriptor ≡ next
  descriptor_is = m.made.ref.body_is.descriptor_is ∙ ap (λ (z : Descriptor). record z { version = length o.versions + 1 }) w.descriptor_is

  pub is-compacted : IsCompacted a compacted-books f file
  is-compacted = record {
    s = (can.current stands).serial;
    c = it;
    is_open = done-open a k f file can stands;
    place = m.made.ref.place;
    room = m.made.ref.room;
    covered = can.covered;
    kind = kind;
    settled = settled-for a f file.number can.captured p.files F m.made.files done;
    is = λ i. record rest {
      supers = supers_is i;
      memtables = m.made.memtables i;
      lists = m.made.lists i;
      versions = m.made.versions i;
      files = F;
      tops = (T_is ∙ ap (λ (z : Descriptor). slice_set rest.tops f (record { current = Some (length o.supers + 1); last = z.version })) descriptor_is) i;
    };
  }

  pub compacted-law : Sound compacted-books × After a compacted-books
  compacted-law = sound-kept a compacted-books k (compacted f file is-compacted)

  pub compacted-ref : IsRefOf compacted-books (length o.supers + 1) pack body
  compacted-ref = new-ref compacted-books o.supers next m.made.ref.place pack body supers_is m.made.ref.pack_is (record {
    descriptor_is = descriptor_is;
    cell = subst (λ (z : List Memtable × ℕ). IsCellOf z.0 it.descriptor.active z.1) (λ i. (sym m.made.memtables i, sym m.made.ref.body_is.cell_is i)) w.cell;
    list = w.list;
    list_at = ap (λ l. entry l it.descriptor.list) m.made.lists ∙ w.list_at;
    frozen = subst (λ (z : List Memtable × List (ℕ × Cell)). AreFrozenAt rest.journal z.0 w.list.members z.1) (λ i. (sym m.made.memtables i, sym (m.made.ref.body_is.frozen_are ∙ m.frozen_are) i)) w.frozen;
    version = record { files = file ∷ []; live = true };
    version_at = ap (λ l. entry l (length o.versions + 1)) m.made.versions ∙ entry-new o.versions (record { files = file ∷ []; live = true }) (length o.versions + 1) refl;
    files_are = m.made.ref.body_is.files_are ∙ m.files_are;
  })

-- ---- a flush

shown-drop : {Z : Type 0} (n : ℕ) (l : List (ℕ × Arc Cell Z)) → shown (drop n l) ≡ drop n (shown l)
shown-drop zero l = refl
shown-drop (suc n) [] = refl
shown-drop (suc n) (x ∷ l) = shown-drop n l

module _ (rest : Books) (o p : Objects) (k : Sound (with_objects rest o)) (f : ℕ) (file : FileMeta) (can : CanFinish (with_objects rest o) f file) (stands : can.it.dropped ≡ false) (kind : file.bottom.last ≡ false) (old : Body) (w : IsBodyOf (with_objects rest o) (done-it (with_objects rest o) k f file can stands).descriptor old) (pack : ℕ) (body : Body) (m : BodyFlushed o old file p pack body) (F : FileRegister) (done : Settles file.number Live p.files F) (T : List Top) (T_is : T ≡ slice_set rest.tops f (record { current = Some (length o.supers + 1); last = body.descriptor.version })) where
  abbrev from : Books
  from = with_objects rest o

  abbrev pub flushed-books : Books
  flushed-books = record (with_objects rest p) { files = F; tops = T }

  abbrev was : SuperVersion
  was = done-it from k f file can stands

  abbrev now : Descriptor
  now = record was.descriptor { list = length o.lists + 1; version = length o.versions + 1 }

  made_is : p.supers ≡ o.supers ++ live_super now m.made.ref.place ∷ []
  made_is = m.made.ref.made ∙ ap (λ (z : Descriptor). o.supers ++ live_super (record z { list = length o.lists + 1; version = length o.versions + 1 }) m.made.ref.place ∷ []) w.descriptor_is

  now_is : body.descriptor ≡ now
  now_is = m.made.ref.body_is.descriptor_is ∙ ap (λ (z : Descriptor). record z { list = length o.lists + 1; version = length o.versions + 1 }) w.descriptor_is

  new_list : MemtableList
  new_list = record { members = drop m.count w.list.members; live = true }

  lists_is : p.lists ≡ o.lists ++ record { members = drop m.count w.list.members; live = true } ∷ []
  lists_is = m.made.lists w.list (ap (λ (z : Descriptor). entry o.lists z.list) w.descriptor_is ∙ w.list_at)

  versions_is : p.versions ≡ o.versions ++ record { files = w.version.files ++ file ∷ []; live = true } ∷ []
  versions_is = m.made.versions w.version (ap (λ (z : Descriptor). entry o.versions z.version) w.descriptor_is ∙ w.version_at)

  pub is-flushed : IsFlushed from flushed-books f file
  is-flushed = record {
    s = (can.current stands).serial;
    c = was;
    is_open = done-open from k f file can stands;
    place = m.made.ref.place;
    room = m.made.ref.room;
    covered = can.covered;
    kind = kind;
    list = w.list;
    list_at = w.list_at;
    back = drop m.count w.list.members;
    parted = list-parted from k f file can stands w.list w.list_at m.count (m.front w.list (ap (λ (z : Descriptor). entry o.lists z.list) w.descriptor_is ∙ w.list_at));
    version = w.version;
    version_at = w.version_at;
    settled = settled-for from f file.number can.captured p.files F m.made.files done;
    is = λ i. record rest {
      supers = made_is i;
      memtables = m.made.memtables i;
      lists = lists_is i;
      versions = versions_is i;
      files = F;
      tops = (T_is ∙ ap (λ (z : Descriptor). slice_set rest.tops f (record { current = Some (length o.supers + 1); last = z.version })) now_is) i;
    };
  }

  pub flushed-law : Sound flushed-books × After from flushed-books
  flushed-law = sound-kept from flushed-books k (flushed f file is-flushed)

  frozen_are : shown body.frozen ≡ drop m.count (shown old.frozen)
  frozen_are = m.made.ref.body_is.frozen_are ∙ m.frozen_are ∙ shown-drop m.count old.frozen

  pub flushed-ref : IsRefOf flushed-books (length o.supers + 1) pack body
  flushed-ref = new-ref flushed-books o.supers now m.made.ref.place pack body made_is m.made.ref.pack_is (record {
    descriptor_is = now_is;
    cell = subst (λ (z : List Memtable × ℕ). IsCellOf z.0 was.descriptor.active z.1) (λ i. (sym m.made.memtables i, sym m.made.ref.body_is.cell_is i)) w.cell;
    list = record { members = drop m.count w.list.members; live = true };
    list_at = ap (λ l. entry l (length o.lists + 1)) lists_is ∙ entry-new o.lists (record { members = drop m.count w.list.members; live = true }) (length o.lists + 1) refl;
    frozen = subst (λ (z : List Memtable × List (ℕ × Cell)). AreFrozenAt rest.journal z.0 (drop m.count w.list.members) z.1) (λ i. (sym m.made.memtables i, sym frozen_are i)) (frozen-drop rest.journal o.memtables m.count w.list.members (shown old.frozen) w.frozen);
    version = record { files = w.version.files ++ file ∷ []; live = true };
    version_at = ap (λ l. entry l (length o.versions + 1)) versions_is ∙ entry-new o.versions (record { files = w.version.files ++ file ∷ []; live = true }) (length o.versions + 1) refl;
    files_are = m.made.ref.body_is.files_are ∙ m.files_are ∙ ap (λ l. l ++ file ∷ []) w.files_are;
  })
