-- What a read answers, by what was found in the memtables and in the files.
use Rattle.std.proofs.Common.{◌≡◌, ◌≤◌, ◌-◌, ℕ, min, nat_le, true, inl, inr, List, [], ◌∷◌, ◌++◌, take, Option, Some, None, Result, Ok, Err, refl, sym, ap, ◌∙◌, subst, arith}
use Rattle.std.specs.Prelude.{option_and_then}
use Rattle.std.proofs.lemmas.Bool.{cases_Bool, leb-true, leb-false}
use Rattle.sv_model.specs.declared.records.FileMeta.{FileMeta}
use Rattle.sv_model.specs.declared.records.Version.{Version}
use Rattle.sv_model.specs.declared.refusals.Refusal.{Refusal}
use Rattle.sv_model.specs.declared.refusals.Refusal.TheVariants as refusal
use Rattle.sv_model.specs.declared.writes.Op.{Op}
use Rattle.sv_model.specs.declared.writes.Write.{Write}
use Rattle.sv_model.specs.Books.{Books}
use Rattle.sv_model.specs.Described.{IsFileOf}
use Rattle.sv_model.specs.Files.{Files}
use Rattle.sv_model.specs.Flat.{range_of}
use Rattle.sv_model.specs.HeldFiles.{LiveAreHeld}
use Rattle.sv_model.specs.Journal.{look, newest_op, value_of}
use Rattle.sv_model.specs.Lawful.{Lawful}
use Rattle.sv_model.specs.Lists.{In}
use Rattle.sv_model.specs.Moments.{WasCapturedFor}
use Rattle.sv_model.specs.Named.{numbers_of}
use Rattle.sv_model.specs.Ranges.{reach_of}
use Rattle.sv_model.specs.Registers.{entry}
use Rattle.sv_model.proofs.Entries.{in-suc, some}
use Rattle.sv_model.proofs.FlatRanges.{range_whole}
use Rattle.sv_reads.specs.Files.{FilesAnswer, IsReached, Looks, LooksServed, Serve}
use Rattle.sv_reads.specs.Parts.{chosen}
use Rattle.sv_reads.proofs.BodyParts.{range_past, version_serves}
use Rattle.sv_reads.proofs.PartLooks.{look_part}
use Rattle.sv_store.specs.Reading.{CanReadAt, Finds, IsThrough, NamesFile, Stops, StopsAtFile, newest_unfiled}
use Rattle.sv_store.proofs.ReadParts.{current-files, current-last, current-live, current-reach, describes}

-- ---- a read up to a cut looks at the writes after those in the files, and then at those

pub look-split : (J : List Write) (f reach cut : ℕ) (key : List ℕ)
    → look J f cut key ≡ chosen (newest_op key (range_of J f reach cut)) (look J f (min cut reach) key)
look-split J f reach cut key = elim (cases_Bool (nat_le reach cut)) [
  | inl some ↦
      let le = leb-true reach cut some in
      let same : cut ≡ min cut cut = omega arith in
      ap (λ (n : ℕ). look J f n key) same
      ∙ look_part J f reach cut key cut le
      ∙ ap (λ l. chosen (newest_op key l) (look J f (min cut reach) key)) (whole le)
  | inr other ↦
      let gt = leb-false reach cut other in
      let low : cut ≡ min cut reach = omega (arith, gt) in
      ap (λ (n : ℕ). look J f n key) low
      ∙ ap (λ l. chosen (newest_op key l) (look J f (min cut reach) key)) (sym (range_past J f reach cut (omega (arith, gt))))
]
  where
    whole : reach ≤ cut → take (cut - reach) (range_of J f reach cut) ≡ range_of J f reach cut
    whole le = range_whole J f reach cut cut le (omega arith)

-- ---- the file of a number

number-in : (older newer : List FileMeta) (file : FileMeta) → In file.number (numbers_of (older ++ file ∷ newer))
number-in [] newer file = record { at = 0; is = refl }
number-in (x ∷ older) newer file = in-suc file.number x.number (numbers_of (older ++ file ∷ newer)) (number-in older newer file)

file-in : (older newer : List FileMeta) (file : FileMeta) → In file (older ++ file ∷ newer)
file-in [] newer file = record { at = 0; is = refl }
file-in (x ∷ older) newer file = in-suc file x (older ++ file ∷ newer) (file-in older newer file)

none-stands : (older newer : List FileMeta) (file : FileMeta) → [] ≡ older ++ file ∷ newer → ⊥
none-stands [] newer file e = absurd (cc)
none-stands (x ∷ older) newer file e = absurd (cc)

module _ (b : Books) (law : Lawful b) (told : Option Files) (f : ℕ) (key : List ℕ) (cut : ℕ) (serial : ℕ) (version : Version)
    (through : IsThrough b f serial version) where
  abbrev J : List Write
  J = b.journal

  -- ---- a row in a memtable

  memory-looks : (op : Op) → newest_unfiled b f version key cut ≡ Some op → look J f cut key ≡ value_of op
  memory-looks op e = look-split J f (reach_of version.files) cut key ∙ ap (λ o. chosen o (look J f (min cut (reach_of version.files)) key)) e

  pub memory-finds : (op : Op) → newest_unfiled b f version key cut ≡ Some op → Finds b told f key cut (value_of op) serial
  memory-finds op e = record {
    version = version;
    through = through;
    above = λ o q. ap value_of (some (sym q ∙ e));
    below = λ none. let z : Some op ≡ None = sym e ∙ none in absurd (cc);
    alone = λ bare. memory-looks op e;
    held = λ all is hold. memory-looks op e;
  }

  -- ---- no row in a memtable

  module _ (none : newest_unfiled b f version key cut ≡ None) where
    files-look : look J f cut key ≡ look J f (min cut (reach_of version.files)) key
    files-look = look-split J f (reach_of version.files) cut key ∙ ap (λ o. chosen o (look J f (min cut (reach_of version.files)) key)) none

    -- without files nothing was written up to the cut
    none-found : (found : Option Op) → version.files ≡ [] → FilesAnswer told version.files key cut (Ok found) → look J f cut key ≡ option_and_then value_of found
    none-found None bare answer =
        let low : min cut (reach_of version.files) ≡ 0 = ap (λ (l : List FileMeta). min cut (reach_of l)) bare ∙ omega arith in
        files-look ∙ ap (λ (n : ℕ). look J f n key) low
    none-found (Some op) bare answer = absurd (none-stands answer.1.older answer.1.newer answer.0 (sym bare ∙ answer.1.stands))

    module _ (can : CanReadAt b f cut) where
      serve : (all : Files) → LiveAreHeld b all → Serve all J f version.files (reach_of version.files) cut
      serve all hold =
          let x = through.super in
          let current = through.current in
          let l = (law.versions x.descriptor.version).1 (inl (serial, x, current.has, record { live = current-live b law f serial x current; is = refl })) in
          let live : version.live ≡ true = ap (λ (v : Version). v.live) (some (sym through.version_at ∙ l.at)) ∙ l.live in
          let stand = current-files b law f serial x current version through.version_at in
          let reach = current-reach b law f serial x current version through.version_at in
          subst (λ n. Serve all J f version.files n cut) (sym reach)
          (version_serves b all f x.descriptor.version version (describes b law f serial x current).middle cut law hold through.version_at live stand
          (λ i file e. can.clear file (record {
            top = current.top;
            top_at = current.at;
            version = version;
            version_at = ap (entry b.versions) (sym (current-last b law f serial x current)) ∙ through.version_at;
            has = record { at = i; is = e };
          })))

      module _ (r : Result (Option Op) Refusal) (answer : FilesAnswer told version.files key cut r) (looks : LooksServed told version.files key cut r) where
        served : (all : Files) → told ≡ Some all → LiveAreHeld b all → Looks J f (min cut (reach_of version.files)) key r
        served all is hold = looks all J f (reach_of version.files) is (serve all hold)

        pub files-find : (found : Option Op) → r ≡ Ok found → Finds b told f key cut (option_and_then value_of found) serial
        files-find found ok =
            let answer_ok = subst (λ (z : Result (Option Op) Refusal). FilesAnswer told version.files key cut z) ok answer in
            record {
              version = version;
              through = through;
              above = λ o q. let z : None ≡ Some o = sym none ∙ q in absurd (cc);
              below = λ same. record { found = found; answer = answer_ok; value_is = refl };
              alone = λ bare. none-found found bare answer_ok;
              held = λ all is hold. files-look ∙ subst (λ (z : Result (Option Op) Refusal). Looks J f (min cut (reach_of version.files)) key z) ok (served all is hold);
            }

        -- the number is that of a file of the Version
        is-named : (file : FileMeta) → IsReached told key cut version.files file → (number : ℕ) → number ≡ file.number
            → In number (numbers_of version.files) × WasCapturedFor b f number
        is-named file reached number is =
            let stand = current-files b law f serial through.super through.current version through.version_at in
            let has = subst (λ (l : List FileMeta). In file l) (sym reached.stands) (file-in reached.older reached.newer file) in
            let it : IsFileOf b.files.numbers b.metas f file = stand.each has.at file has.is in
            subst (λ n. In n (numbers_of version.files) × WasCapturedFor b f n) (sym is)
            (subst (λ (l : List FileMeta). In file.number (numbers_of l)) (sym reached.stands) (number-in reached.older reached.newer file), it.captured)

        names : (e : Refusal) → (FilesAnswer told version.files key cut (Err e)) → (e ≡ refusal.OutOfMemory → ⊥) → NamesFile b f version e
        names (refusal.DirFault number) a other = is-named a.0 a.1 number a.2
        names (refusal.BadFile number place) a other = is-named a.0 a.1 number a.2
        names refusal.OutOfMemory a other = absurd (other refl)
        names e a other = absurd a

        not-bad : (e : Refusal) → Looks J f (min cut (reach_of version.files)) key (Err e) → (number place : ℕ) → e ≡ refusal.BadFile number place → ⊥
        not-bad e h number place is = subst (λ z. Looks J f (min cut (reach_of version.files)) key (Err z)) is h

        stops-at : (e : Refusal) → r ≡ Err e → (e ≡ refusal.OutOfMemory → ⊥) → StopsAtFile b told f key cut e
        stops-at e err other =
            let answer_err = subst (λ (z : Result (Option Op) Refusal). FilesAnswer told version.files key cut z) err answer in
            record {
              serial = serial;
              version = version;
              through = through;
              below = none;
              answer = answer_err;
              names = names e answer_err other;
              held = λ all is hold. not-bad e (subst (λ (z : Result (Option Op) Refusal). Looks J f (min cut (reach_of version.files)) key z) err (served all is hold));
            }

        pub files-stop : (e : Refusal) → r ≡ Err e → Stops b told f key cut e
        files-stop refusal.OutOfMemory err = tt
        files-stop e err = stops-at e err (λ q. absurd (cc))
