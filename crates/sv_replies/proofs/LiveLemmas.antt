-- The files of the current Versions, as they are listed for a lane with a hold: why the reply fits.
use Rattle.std.proofs.Common.{◌≡◌, ℕ, zero, suc, false, List, [], ◌∷◌, Some, None, refl, sym, ◌∙◌, ap, subst}
use Rattle.std.specs.Prelude.{slice_get}
use Rattle.sv_model.specs.declared.records.Family.{Family}
use Rattle.sv_model.specs.declared.records.FileMeta.{FileMeta}
use Rattle.sv_model.specs.declared.records.SuperVersion.{SuperVersion}
use Rattle.sv_model.specs.declared.records.Version.{Version}
use Rattle.sv_model.specs.Books.{Books}
use Rattle.sv_model.specs.Described.{IsFileOf}
use Rattle.sv_model.specs.Lists.{In}
use Rattle.sv_model.specs.Moments.{WasCapturedFor}
use Rattle.sv_model.specs.Named.{numbers_of}
use Rattle.sv_model.specs.Registers.{entry}
use Rattle.sv_model.specs.Steady.{IsCurrent, Sound}
use Rattle.sv_laws.specs.Installs.{IsOpen}
use Rattle.sv_laws.proofs.GrownRegisters.{get_within}
use Rattle.sv_model.proofs.Entries.{in-suc, some}
use Rattle.sv_laws.proofs.OpenFamilies.{of_f, one-current, says}
use Rattle.sv_script.specs.declared.commands.Command.TheVariants as command
use Rattle.sv_script.specs.declared.replies.Reply.TheVariants as reply
use Rattle.sv_replies.specs.Due.{due}
use Rattle.sv_replies.specs.Known.{Known}
use Rattle.sv_replies.specs.Knows.{Knows}
use Rattle.sv_replies.specs.Listed.{AreCurrentFiles, IsCurrentFile, StandingHaveCurrents}
use Rattle.sv_replies.specs.LiveLaw.{CoversFamily, IsListedFor, Lives}
use Rattle.sv_replies.specs.ReplyFits.{ReplyFits}
use Rattle.sv_replies.specs.Settings.{Setting}
use Rattle.sv_replies.proofs.AfterLemmas.{one_family}
use Rattle.sv_replies.proofs.MomentLemmas.{reached}

-- the file of a number
pub record HasNumber (files : List FileMeta) (n : ℕ) : Type 0 where
  pub file : FileMeta
  pub has : In file files
  pub is : file.number ≡ n

number_at : (files : List FileMeta) (i n : ℕ) → slice_get (numbers_of files) i ≡ Some n → HasNumber files n
number_at [] i n e = absurd (cc)
number_at (f ∷ files) zero n e = record { file = f; has = record { at = 0; is = refl }; is = some e }
number_at (f ∷ files) (suc i) n e =
    let rest = number_at files i n e in
    record { file = rest.file; has = in-suc rest.file f files rest.has; is = rest.is }

module _ (b : Books) (sound : Sound b) (k : Known) (knows : Knows b k) (numbers : List ℕ) (h : AreCurrentFiles b numbers) where
  open-at : (n : ℕ) → (c : IsCurrentFile b n) → IsOpen b c.family c.s c.x
  open-at n c = record { current = c.current; family = c.it; family_at = c.at; stands = c.stands }

  -- a file of a current Version is the family's
  of-family : (f s : ℕ) (x : SuperVersion) → IsOpen b f s x → (version : Version)
      → entry b.versions x.descriptor.version ≡ Some version
      → (n : ℕ) → In n (numbers_of version.files) → WasCapturedFor b f n
  of-family f s x o version at n has =
      let d = says b sound f s x o in
      let same : d.version ≡ version = some (sym d.version_at ∙ at) in
      let file = number_at version.files has.at n has.is in
      let it : IsFileOf b.files.numbers b.metas x.descriptor.family file.file =
      d.files.each file.has.at file.file (ap (λ (v : Version). slice_get v.files file.has.at) same ∙ file.has.is) in
      subst (λ m. WasCapturedFor b f m) file.is (subst (λ g. WasCapturedFor b g file.file.number) (of_f b sound f s x o) it.captured)

  captured : (n : ℕ) → (c : IsCurrentFile b n) → WasCapturedFor b c.family n
  captured n c = of-family c.family c.s c.x (open-at n c) c.version c.version_at n c.has

  -- one that is captured for a family is of its current Version
  listed : (f s : ℕ) (x : SuperVersion) → IsCurrent b.tops b.supers f s x → (version : Version)
      → entry b.versions x.descriptor.version ≡ Some version
      → (n : ℕ) → IsListedFor b numbers f n → In n (numbers_of version.files)
  listed f s x current version at n l =
      let c = (h.exact n).0 l.listed in
      let same : c.family ≡ f = one_family b sound.lawful.numbers.once n c.family f (captured n c) l.captured in
      let its : c.x ≡ x = one-current b.tops b.supers f c.s s c.x x (subst (λ g. IsCurrent b.tops b.supers g c.s c.x) same c.current) current in
      let versions : c.version ≡ version = some (sym c.version_at ∙ ap (λ (z : SuperVersion). entry b.versions z.descriptor.version) its ∙ at) in
      subst (λ (v : Version). In n (numbers_of v.files)) versions c.has

  covers : StandingHaveCurrents b → (f : ℕ) (y : Family) → slice_get b.families f ≡ Some y → y.dropped ≡ false
      → CoversFamily b (k.families f).reached f numbers
  covers all f y at stands =
      let t = all f y at stands in
      let o : IsOpen b f t.s t.x = record { current = t.current; family = y; family_at = at; stands = stands } in
      let d = says b sound f t.s t.x o in
      record {
        files = d.version.files;
        exact = λ n. (
          λ has. record {
            listed = (h.exact n).1 (record { family = f; it = y; at = at; stands = stands; s = t.s; x = t.x; current = t.current; version = d.version; version_at = d.version_at; has = has });
            captured = of-family f t.s t.x o d.version d.version_at n has;
          },
          λ l. listed f t.s t.x t.current d.version d.version_at n l,
        );
        covers = λ file has. (d.files.each has.at file has.is).covers;
        to = d.middle;
        joins = d.files.joins;
        far = reached b f t.s t.x sound o k knows;
      }

  lives : StandingHaveCurrents b → Lives b k numbers
  lives all = record {
    rising = h.rising;
    captured = λ n has. let c = (h.exact n).0 has in (c.family, get_within b.families c.family c.it c.at, captured n c);
    named = λ n has. let c = (h.exact n).0 has in (c.x.descriptor.version, c.version, c.version_at, c.has);
    covers = covers all;
  }

  pub live-fits : (s : Setting) → StandingHaveCurrents b → due k command.Live ≡ None
      → ReplyFits s b k command.Live (reply.Live numbers)
  live-fits s all none = (none, lives all)
