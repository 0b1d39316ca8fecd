-- The file that a compaction plans, over the files of the current's Version.
use Rattle.std.proofs.Common.{◌≡◌, ◌<◌, inl, inr, ℕ, List, length, Option, Some, Err, sym, ap, ◌∙◌, subst, arith, refl}
use Rattle.std.specs.Prelude.{slice_get}
use Rattle.sv_model.specs.declared.records.Descriptor.{Descriptor}
use Rattle.sv_model.specs.declared.records.FileMeta.{FileMeta}
use Rattle.sv_model.specs.declared.records.Version.{Version}
use Rattle.sv_model.specs.declared.refusals.Refusal.{Refusal}
use Rattle.sv_model.specs.declared.writes.Write.{Write}
use Rattle.sv_model.specs.Books.{Books}
use Rattle.sv_model.specs.Cells.{Cell}
use Rattle.sv_model.specs.Files.{Files}
use Rattle.sv_model.specs.HeldFiles.{HoldsText, IsFileText, LiveAreHeld}
use Rattle.sv_model.specs.Lawful.{Lawful}
use Rattle.sv_model.specs.Lists.{Every}
use Rattle.sv_model.specs.Ranges.{reach_of}
use Rattle.sv_model.specs.Registers.{entry}
use Rattle.sv_model.specs.Snapshots.{IsClear, IsLastFile}
use Rattle.sv_model.specs.Steady.{Sound}
use Rattle.sv_model.proofs.Entries.{some}
use Rattle.sv_dir.specs.Files.{PutsFile}
use Rattle.sv_laws.specs.Captures.{IsMergePlanned}
use Rattle.sv_laws.specs.Installs.{IsOpen}
use Rattle.sv_laws.proofs.OpenFamilies.{last_is, says}
use Rattle.sv_outputs.specs.Compacting.{IsMergeOfFiles, MergeRefused, PutsFlat}
use Rattle.sv_outputs.specs.Merging.{IsMergeDue}
use Rattle.sv_outputs.specs.Planned.{DescribesIn, PlansMerge}
use Rattle.sv_objects.specs.declared.bodies.Body.{Body}
use Rattle.sv_reads.proofs.BodyParts.{version_serves}
use Rattle.sv_state.specs.Currents.{HasCurrentAt}
use Rattle.sv_state.specs.Refs.{IsBodyOf, IsRefOf}
use Rattle.sv_store.specs.Compacting.{CanMerge, PutsMerge, StopsMerge}
use Rattle.sv_store.specs.Installing.{CanInstall}
use Rattle.sv_store.proofs.OutputLaws.{can-install, captured-here, captured-open, ref-body}
use Rattle.sv_store.proofs.ReadParts.{current-files, current-live}

module _ (a b : Books) (k : Sound a) (f : ℕ) (file : FileMeta) (h : IsMergePlanned a b f file) where
  abbrev d : DescribesIn a h.c.descriptor
  d = says a k f h.s h.c h.is_open

  version-is : h.version ≡ d.version
  version-is = some (sym h.version_at ∙ d.version_at)

  -- the files are those of the family's last Version
  lasts : (i : ℕ) (g : FileMeta) → slice_get h.version.files i ≡ Some g → IsLastFile a.versions a.tops f g
  lasts i g e = record {
    top = h.is_open.current.top;
    top_at = h.is_open.current.at;
    version = h.version;
    version_at = ap (entry a.versions) (sym (last_is a k f h.s h.c h.is_open)) ∙ h.version_at;
    has = record { at = i; is = e };
  }

  -- each cut is that of a Live snapshot, of which each of the files is clear
  clear : Every (λ g. Every (λ cut. IsClear cut g) file.bottom.cuts) h.version.files
  clear i g e j cut q =
      let w = h.captured.cuts.live cut (record { at = j; is = q }) in
      subst (λ n. IsClear n g) w.3.is (k.lawful.snapshots.lasts w.0 w.1 w.2 w.3.live f g (lasts i g e))

  plans : PlansMerge a h.c.descriptor file
  plans = record {
    describes = d;
    some = subst (λ (v : Version). 0 < length v.files) version-is h.some;
    from_is = h.from_is;
    to_is = h.to_is ∙ ap (λ (v : Version). reach_of v.files) version-is;
    kind = h.kind;
    cuts = h.captured.cuts.cuts;
    clear = subst (λ (v : Version). Every (λ g. Every (λ cut. IsClear cut g) file.bottom.cuts) v.files) version-is clear;
  }

  -- the files of the current's body are those of the Version
  pub body-files : (body : Body) → IsBodyOf b h.c.descriptor body → body.files ≡ h.version.files
  body-files body w =
      w.files_are
      ∙ ap (λ (v : Version). v.files)
      (some (sym w.version_at ∙ ap (λ (z : Books). entry z.versions h.c.descriptor.version) h.captured.is ∙ h.version_at))

  -- each of them holds its text where the directory holds what was written
  hold-texts : (all : Files) → LiveAreHeld a all → Every (HoldsText all a.journal f) h.version.files
  hold-texts all held =
      let current = h.is_open.current in
      let l = (k.lawful.versions h.c.descriptor.version).1 (inl (h.s, h.c, current.has, record { live = current-live a k.lawful f h.s h.c current; is = refl })) in
      let live = ap (λ (v : Version). v.live) (some (sym h.version_at ∙ l.at)) ∙ l.live in
      let stand = current-files a k.lawful f h.s h.c current h.version h.version_at in
      (version_serves a all f h.c.descriptor.version h.version _ 0 k.lawful held h.version_at live stand (λ i g e. inr (inr (omega arith)))).held

  module _ (files : List FileMeta) (same : files ≡ h.version.files) (F G : Option Files) where
    pub merge-due : ((z : Books) (x : Descriptor) (y : FileMeta) → Lawful z → (p : PlansMerge z x y) → IsMergeDue p.describes.version.files y) → IsMergeDue files file
    unfolding plans
    merge-due due = subst (λ l. IsMergeDue l file) (sym (same ∙ ap (λ (v : Version). v.files) version-is)) (due a h.c.descriptor file k.lawful plans)

    texts : (all : Files) → LiveAreHeld a all → Every (HoldsText all a.journal f) files
    texts all held = subst (Every (HoldsText all a.journal f)) (sym same) (hold-texts all held)

    pub puts-merge : (bytes : List ℕ) × IsMergeOfFiles F files file bytes × PutsFile file.number bytes F G
        → ((all : Files) (journal : List Write) (family : ℕ) → F ≡ Some all → Every (HoldsText all journal family) files
        → (bytes : List ℕ) × IsFileText journal family file bytes × PutsFile file.number bytes F G)
        → PutsMerge a f h.version.files file F G
    puts-merge w flat = record {
      merged = subst (λ l. (bytes : List ℕ) × IsMergeOfFiles F l file bytes × PutsFile file.number bytes F G) same w;
      held = λ all is held. let t = flat all a.journal f is (texts all held) in record { bytes = t.0; text = t.1; put = t.2 };
    }

    pub stops-merge : (e : Refusal) → MergeRefused files file F G e
        → ((all : Files) (journal : List Write) (family : ℕ) → F ≡ Some all → Every (HoldsText all journal family) files → PutsFlat journal family file F G (Err e))
        → StopsMerge a h.version.files file F G e
    stops-merge e w flat = record {
      refused = subst (λ l. MergeRefused l file F G e) same w;
      held = λ all is held number place bad. subst (λ z. PutsFlat a.journal f file F G (Err z)) bad (flat all a.journal f is (texts all held));
    }

-- ---- while it is under way

module _ (a m : Books) (cells : List (Option Cell)) (f : ℕ) (file : FileMeta) (can : CanMerge a m cells f file) where
  pub number-here : slice_get m.files.captured f ≡ Some (Some file.number)
  number-here = captured-here a m f file can.planned.captured

  current-open : IsOpen m f can.planned.s can.planned.c
  current-open = captured-open a m f file can.planned.captured can.planned.s can.planned.c can.planned.is_open

  abbrev pub current-at : (g : ℕ) → g ≡ f → HasCurrentAt m g
  current-at g q = record {
    top = can.planned.is_open.current.top;
    at = ap (slice_get m.tops) q ∙ ap (λ (z : Books). slice_get z.tops f) can.planned.captured.is ∙ can.planned.is_open.current.at;
    serial = can.planned.s;
    is = can.planned.is_open.current.is;
  }

  pub files-of : (g : ℕ) → g ≡ f → (pack : ℕ) (body : Body) → ((at : HasCurrentAt m g) → IsRefOf m at.serial pack body) → body.files ≡ can.planned.version.files
  files-of g q pack body ref =
      body-files a m can.rests.stands.sound f file can.planned body
      (ref-body m can.planned.s pack body can.planned.c (ref (current-at g q)) current-open.current.has)

  pub may-install : CanInstall m cells f file
  may-install = can-install a m f file can.planned.captured cells can.rests.stands can.sound can.planned.s can.planned.c can.planned.is_open
