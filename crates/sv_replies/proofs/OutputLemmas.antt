-- The file of a flush or a compaction that ended: it is an output of the family, and its number was drawn before.
use Rattle.std.proofs.Common.{◌≡◌, ◌<◌, ◌+◌, ℕ, Bool, List, [], ◌∷◌, ◌++◌, length, Some, refl, sym, ◌∙◌, ap, subst, arith}
use Rattle.std.specs.Prelude.{slice_get, slice_set}
use Rattle.sv_model.specs.declared.records.FileMeta.{FileMeta}
use Rattle.sv_model.specs.declared.records.FileStatus.TheVariants.{Pending, Live}
use Rattle.sv_model.specs.declared.records.Top.{Top}
use Rattle.sv_model.specs.Books.{Books}
use Rattle.sv_model.specs.Lists.{In}
use Rattle.sv_model.specs.Moments.{WasCapturedFor}
use Rattle.sv_model.specs.Numbers.{IsSettled}
use Rattle.sv_model.specs.Ranges.{reach_from, reach_of}
use Rattle.sv_model.specs.Reads.{IsOutput}
use Rattle.sv_model.specs.Steady.{Sound}
use Rattle.sv_model.specs.Registers.{entry}
use Rattle.sv_model.proofs.Registers.{entry-new}
use Rattle.sv_laws.proofs.Settled.{marked-here}
use Rattle.sv_laws.proofs.GrownRegisters.{placed-set}
use Rattle.sv_laws.proofs.StillFits.{files-at}
use Rattle.sv_replies.specs.Knows.{LastReaches}
use Rattle.sv_replies.specs.Moments.{IsAt}

reach_from-push : (from : ℕ) (files : List FileMeta) (file : FileMeta) → reach_from from (files ++ file ∷ []) ≡ file.to
reach_from-push from [] file = refl
reach_from-push from (f ∷ files) file = reach_from-push f.to files file

pub reach_of-push : (files : List FileMeta) (file : FileMeta) → reach_of (files ++ file ∷ []) ≡ file.to
reach_of-push files file = reach_from-push 0 files file

module _ (a b : Books) (f : ℕ) (file : FileMeta) (settled : IsSettled f file.number Live a.files b.files) where
  pub is-captured : WasCapturedFor b f file.number
  is-captured = (
    settled.numbers.at,
    record settled.numbers.it { status = Live },
    marked-here file.number Pending Live a.files.numbers b.files.numbers settled.numbers,
    record { number_is = settled.numbers.had.number_is; family_is = settled.of },
  )

  pub below-next : Sound a → file.number < a.files.next
  below-next sound =
      omega (arith, sound.lawful.numbers.below settled.numbers.at settled.numbers.it settled.numbers.found, settled.numbers.had.number_is)

  -- the Version made last has the file
  pub is-output : (files : List FileMeta) (live : Bool) → In file a.metas → b.metas ≡ a.metas → In file files
      → b.versions ≡ a.versions ++ record { files = files; live = live } ∷ [] → IsOutput b f file
  is-output files live covered metas has versions = record {
    captured = is-captured;
    covers = subst (λ (z : List FileMeta). In file z) (sym metas) covered;
    named = (
      length a.versions + 1,
      record { files = files; live = live },
      ap (λ z. entry z (length a.versions + 1)) versions ∙ entry-new a.versions (record { files = files; live = live }) (length a.versions + 1) refl,
      has,
    );
  }

  -- and is the family's last one
  pub reaches : (files : List FileMeta) (live : Bool) (t u : Top) → slice_get a.tops f ≡ Some t
      → u.last ≡ length a.versions + 1
      → b.tops ≡ slice_set a.tops f u → b.versions ≡ a.versions ++ record { files = files; live = live } ∷ []
      → reach_of files ≡ file.to → IsAt (LastReaches b file.to) b.tops f
  reaches files live t u at last tops versions reach = (
    u,
    ap (λ (z : List Top). slice_get z f) tops ∙ (placed-set a.tops f t u at).here,
    let there : entry b.versions u.last ≡ Some (record { files = files; live = live }) =
        ap (λ n. entry b.versions n) last ∙ ap (λ z. entry z (length a.versions + 1)) versions
        ∙ entry-new a.versions (record { files = files; live = live }) (length a.versions + 1) refl in
        omega (arith, reach, ap reach_of (files-at b.versions u.last (record { files = files; live = live }) there)),
  )
