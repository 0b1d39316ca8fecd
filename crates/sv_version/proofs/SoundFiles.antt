-- The files of a new Version: their ranges join, and each number stands once.
use Rattle.std.proofs.Common.{◌≡◌, ℕ, zero, suc, ◌+◌, ◌<◌, ◌≤◌, ◌⊎◌, inl, inr, true, List, [], ◌∷◌, ◌++◌, Some, arith, refl, sym, ap, subst, ◌∙◌}
use Rattle.std.proofs.lemmas.List.{map_push}
use Rattle.std.proofs.lemmas.Option.{same_Some}
use Rattle.sv_model.specs.declared.records.Version.{Version}
use Rattle.sv_model.specs.declared.records.FileMeta.{FileMeta}
use Rattle.sv_model.specs.Lists.{same, times}
use Rattle.sv_model.specs.Named.{IsLiveVersion, HasFile, numbers_of}
use Rattle.sv_model.specs.Ranges.{FilesJoin}
use Rattle.sv_model.specs.Registers.{entry, Has}
use Rattle.sv_model.proofs.Lists.{total-push, same-le, same_is, in_times}
use Rattle.sv_model.proofs.Ranges.{join-push}
use Rattle.sv_version.specs.Changes.{live_version}
use Rattle.sv_version.specs.KeptVersions.{IsSound}

zero_or_more : (n : ℕ) → (n ≡ 0) ⊎ (0 < n)
zero_or_more zero = inl refl
zero_or_more (suc n) = inr (omega arith)

-- one more file
times-numbers_push : (n : ℕ) (files : List FileMeta) (f : FileMeta) → times n (numbers_of (files ++ f ∷ [])) ≡ times n (numbers_of files) + same n f.number
times-numbers_push n files f = ap (times n) (map_push (λ (g : FileMeta). g.number) files f) ∙ total-push (same n) (numbers_of files) f.number

-- a file that no Live Version names, after the files of a Live one
once-added : (v : Version) (f : FileMeta) → ((n : ℕ) → times n (numbers_of v.files) ≤ 1) → (0 < times f.number (numbers_of v.files) → ⊥) → (n : ℕ) → times n (numbers_of (v.files ++ f ∷ [])) ≤ 1
once-added v f once absent n =
    let push = times-numbers_push n v.files f in
    let one = same-le n f.number in
    let was = once n in
    elim (zero_or_more (same n f.number)) [
      | inl none ↦ omega arith
      | inr more ↦ elim (zero_or_more (times f.number (numbers_of v.files))) [
        | inl none ↦ let a = ap (λ m. times m (numbers_of v.files)) (same_is n f.number more) in omega arith
        | inr some ↦ absurd (absent some)
      ]
    ]

pub sound-added : (versions : List Version) (id : ℕ) (v : Version) (f : FileMeta) (files : List FileMeta) → (live : IsLiveVersion versions id) → entry versions id ≡ Some v → IsSound v → FilesJoin 0 v.files f.from → (Has (HasFile f.number) versions → ⊥) → files ≡ v.files ++ f ∷ [] → IsSound (live_version files)
sound-added versions id v f files live at sound joins unnamed files_are =
    let e : live.it ≡ v = same_Some live.it v (sym live.at ∙ at) in
    let is_live : v.live ≡ true = sym (ap (λ (x : Version). x.live) e) ∙ live.live in
    subst (λ (l : List FileMeta). IsSound (live_version l)) (sym files_are) (record {
      once = once-added v f sound.once (λ some. unnamed (id, v, at, record { live = is_live; has = in_times f.number (numbers_of v.files) some }));
      joins = (f.to, join-push 0 v.files f joins);
    })

pub sound-alone : (f : FileMeta) (files : List FileMeta) → f.from ≡ 0 → files ≡ f ∷ [] → IsSound (live_version files)
sound-alone f files begins files_are = subst (λ (l : List FileMeta). IsSound (live_version l)) (sym files_are) (record {
  once = λ n. let one = same-le n f.number in omega arith;
  joins = (f.to, (begins, refl));
})
