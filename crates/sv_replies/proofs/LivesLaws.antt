-- A list of files that fits books fits all lawful books that come after them.
use Rattle.std.proofs.Common.{◌≡◌, ⊎_elim, ℕ, suc, Bool, true, false, List, [], Option, Some, None, refl, sym, ◌∙◌, ap, subst, arith}
use Rattle.std.specs.Prelude.{slice_get}
use Rattle.sv_model.specs.declared.records.Family.{Family}
use Rattle.sv_model.specs.After.{After, KeepsVersion}
use Rattle.sv_model.specs.Books.{Books}
use Rattle.sv_model.specs.Lawful.{Lawful}
use Rattle.sv_model.specs.Lists.{In}
use Rattle.sv_model.specs.Moments.{WasCapturedFor}
use Rattle.sv_model.specs.Named.{numbers_of}
use Rattle.sv_laws.proofs.GrownRegisters.{get_within}
use Rattle.sv_model.proofs.Registers.{get-some}
use Rattle.sv_model.proofs.Entries.{in-none, some}
use Rattle.sv_replies.specs.Known.{Known}
use Rattle.sv_replies.specs.Knows.{Knows}
use Rattle.sv_replies.specs.LiveLaw.{CoversFamily, IsListedFor, Lives}
use Rattle.sv_replies.proofs.AfterLemmas.{captured-later, goes_on-length, has-later, in-later, one_family}

module _ (a b : Books) (k : Known) (knows : Knows a k) (law : Lawful a) (still : Lawful b) (after : After a b) where
  back : (numbers : List ℕ) → Lives a k numbers → (f n : ℕ) → IsListedFor b numbers f n → WasCapturedFor a f n
  back numbers h f n l =
      let c = h.captured n l.listed in
      subst (λ g. WasCapturedFor a g n) (one_family b still.numbers.once n c.0 f (captured-later a b c.0 n after c.2) l.captured) c.2

  covers-old : (numbers : List ℕ) → Lives a k numbers → (f : ℕ) → CoversFamily a (k.families f).reached f numbers
      → CoversFamily b (k.families f).reached f numbers
  covers-old numbers h f c = record {
    files = c.files;
    exact = λ n. (
      λ has. let l = (c.exact n).0 has in record { listed = l.listed; captured = captured-later a b f n after l.captured },
      λ l. (c.exact n).1 (record { listed = l.listed; captured = back numbers h f n l }),
    );
    covers = λ file has. in-later file a.metas b.metas after.metas (c.covers file has);
    to = c.to;
    joins = c.joins;
    far = c.far;
  }

  -- of a family that was made since nothing is listed and nothing is known
  none_at : (o : Option Family) (x : Family) → o ≡ None → o ≡ Some x → ⊥
  none_at o x none is = absurd (let e : None ≡ Some x = sym none ∙ is in cc)

  unknown : (f : ℕ) → slice_get a.families f ≡ None → (k.families f).reached ≡ 0
  unknown f none = ⊎_elim
      (λ is. is)
      (λ at. absurd (let y = get-some a.families f (omega (arith, get_within a.tops f at.0 at.1, law.paired)) in none_at (slice_get a.families f) y.0 none y.1))
      (knows.families f).reached

  covers-new : (numbers : List ℕ) → Lives a k numbers → (f : ℕ) → slice_get a.families f ≡ None
      → CoversFamily b (k.families f).reached f numbers
  covers-new numbers h f none = record {
    files = [];
    exact = λ n. (
      λ has. absurd (in-none n has),
      λ l.
          let c = h.captured n l.listed in
          let same = one_family b still.numbers.once n c.0 f (captured-later a b c.0 n after c.2) l.captured in
          let y = get-some a.families f (omega (arith, c.1, same)) in
          absurd (none_at (slice_get a.families f) y.0 none y.1),
    );
    covers = λ file has. absurd (in-none file has);
    to = 0;
    joins = refl;
    far = omega (arith, unknown f none);
  }

  stood : (o x : Family) → (o.dropped ≡ true → x.dropped ≡ true) → x.dropped ≡ false → o.dropped ≡ false
  stood o x keeps stands = by o.dropped refl
    where
      by : (d : Bool) → o.dropped ≡ d → o.dropped ≡ false
      by true is = absurd (let e : true ≡ false = sym (keeps is) ∙ stands in cc)
      by false is = is

  covers : (numbers : List ℕ) → Lives a k numbers → (f : ℕ) (x : Family) → slice_get b.families f ≡ Some x
      → x.dropped ≡ false → CoversFamily b (k.families f).reached f numbers
  covers numbers h f x at stands = by (slice_get a.families f) refl
    where
      by : (o : Option Family) → slice_get a.families f ≡ o → CoversFamily b (k.families f).reached f numbers
      by None is = covers-new numbers h f is
      by (Some o) is =
          let kept = after.families (suc f) o is in
          let same : kept.0 ≡ x = some (sym kept.1 ∙ at) in
          covers-old numbers h f (h.covers f o is (stood o kept.0 kept.2.dropped (ap (λ (y : Family). y.dropped) same ∙ stands)))

  pub lives-later : (numbers : List ℕ) → Lives a k numbers → Lives b k numbers
  lives-later numbers h = record {
    rising = h.rising;
    captured = λ n has.
        let c = h.captured n has in
        (c.0, omega (arith, c.1, goes_on-length _ a.families b.families after.families), captured-later a b c.0 n after c.2);
    named = λ n has. has-later KeepsVersion (λ v. In n (numbers_of v.files)) (λ v. In n (numbers_of v.files))
        (λ x y kept it. subst (λ z. In n (numbers_of z)) (sym kept.files) it) a.versions b.versions after.versions (h.named n has);
    covers = covers numbers h;
  }
