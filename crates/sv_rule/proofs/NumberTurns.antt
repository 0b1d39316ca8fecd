-- The number words, as the books in hand change.
-- ---- SuperVersions and currents stand
use Rattle.std.proofs.Common.{List, None, Option, Some, [], ap, arith, inl, inr, length, length-append, refl, slice_get, subst, sym, ℕ, ⊎_elim, ◌/◌, ◌∙◌, ◌∷◌, ◌≡◌, ◌≢◌, ◌≤◌, ◌⊎◌}
use mathlib.Core.Logic.{dite}
use native.Mathlib.Decide.{ℕ_discrete}
use Rattle.sv_model.specs.After.{After}
use Rattle.sv_model.specs.Books.{Books}
use Rattle.sv_model.specs.Lawful.{Lawful}
use Rattle.sv_model.specs.Lists.{same, at}
use Rattle.sv_model.specs.Registers.{EachEntry, entry}
use Rattle.sv_model.specs.declared.records.SuperVersion.{SuperVersion}
use Rattle.sv_model.specs.declared.records.Top.{Top}
use Rattle.sv_model.proofs.Registers.{entry-new, entry_push}
use Rattle.sv_rule.specs.Numbers.{IsBased, Numbers}
use Rattle.sv_model.specs.Supers.{IsPackOf, IsSerialOf, LiveAt, current_in, current_of, current_serial, end_at, pack, pack_at, pack_of_serial, writes}
use Rattle.sv_model.specs.Turns.{EndsCurrent, EndsSuper, Opens, Stands}
use Rattle.sv_rule.specs.Table.{number}
use Rattle.sv_rule.specs.UnderWay.{excepts}
use Rattle.sv_rule.specs.Views.{Work, begun, idle, opens}
use Rattle.sv_rule.proofs.Basics.{some_is, true_not}
use Rattle.sv_rule.proofs.CurrentLaws.{current_big, current_ends, get_lt, pack_le, some-at}
use Rattle.sv_rule.proofs.LaterBooks.{based-after, based-live, end-same, pack-after}
use Rattle.sv_rule.proofs.Sums.{same-else, same-self}

pub current-stands : (a b : Books) → Stands a b → (f : ℕ) → current_of b f ≡ current_of a f
current-stands a b s f = λ i. current_in (s.supers i) (s.tops i) f

pub based-stands : (a b : Books) → After a b → b.supers ≡ a.supers → EachEntry (λ t x. IsBased a.memtables x) a.supers
    → EachEntry (λ t x. IsBased b.memtables x) b.supers
based-stands a b later same all t x at =
    let z = later.supers t x (ap (λ l. entry l t) (sym same) ∙ at) in
    let e : z.0 ≡ x = some_is (sym z.1 ∙ at) in
    subst (IsBased b.memtables) e (based-after a b later x z.0 z.2 (all t x (ap (λ l. entry l t) (sym same) ∙ at)))

module _ (a b : Books) (later : After a b) (lawful : Lawful b) (stands : Stands a b) where
  serial_back : (f t : ℕ) → IsSerialOf b.supers f t → IsSerialOf a.supers f t
  serial_back f t = subst (λ z. IsSerialOf z f t) stands.supers

  -- a write comes only while no work is under way
  pub numbers-stands : (work : Work) (number : ℕ → ℕ) → (work ≡ idle) ⊎ (b.journal ≡ a.journal)
      → Numbers a work number → Numbers b work number
  numbers-stands work number still k = record {
    lawful = lawful;
    word = λ f l. let o = k.word f l in let same_now = current-stands a b stands f in record {
      current = λ z. o.current z ∙ sym same_now;
      marks = o.marks;
      is = λ big. pack-after a b later f (number f) (o.is big);
      other = λ z big e. o.other z big (e ∙ same_now);
      last = λ big t s. ⊎_elim (λ z. inl z) (λ z. inr (z.0, z.1 ∙ ap (λ c. c / 256) (sym same_now)))
          (o.last big t (serial_back f t s));
      first = λ z e t s. o.first z e t (serial_back f t s) ∙ ap (λ c. c / 256) (sym same_now);
      ends = λ big. ⊎_elim
          (λ (e : work ≡ idle). let is : number f ≡ current_of b f = o.current (ap (excepts f) e) ∙ sym same_now in
          subst (λ c. end_at b c ≡ writes b.journal f) (sym is) (current_ends b lawful f (omega (arith, is))))
          (λ (e : b.journal ≡ a.journal). end-same a b later e f (number f) (o.is big)
          ∙ (o.ends big ∙ ap (λ j. writes j f) (sym e)))
          still;
    };
    top = λ f l z big. let same_now = current-stands a b stands f in
        omega (
          arith,
          k.top f l z (omega (arith, same_now)),
          same_now,
          ap (λ (z : List SuperVersion). length z) stands.supers,
        );
    default = k.default;
    based = based-stands a b later stands.supers k.based;
  }

-- ---- a SuperVersion is made

module _ (a b : Books) (later : After a b) (before : Lawful a) (f p : ℕ) (h : Opens a b f p) where
  pub new-pack : IsPackOf b.supers f p
  new-pack = record {
    sv = h.super;
    is = ap (λ l. entry l (p / 256)) h.supers
        ∙ entry-new a.supers h.super (p / 256) h.serial;
    family = h.family;
    place = h.place;
  }

  pub opens-long : length b.supers ≡ p / 256
  opens-long = omega (
    arith,
    ap (λ (z : List SuperVersion). length z) h.supers,
    length-append a.supers (h.super ∷ []),
    h.serial,
  )

  pub opens-back : (g t : ℕ) → IsSerialOf b.supers g t → IsSerialOf a.supers g t ⊎ ((t ≡ p / 256) × (g ≡ f))
  opens-back g t s = ⊎_elim
      (λ e. inl (record { sv = s.sv; is = e; family = s.family }))
      (λ e. inr (e.0 ∙ sym h.serial, sym s.family ∙ (ap (λ (z : SuperVersion). z.descriptor.family) e.1 ∙ h.family)))
      (entry_push a.supers h.super t s.sv (ap (λ l. entry l t) (sym h.supers) ∙ s.is))

  pub old-not-new : (g q : ℕ) → IsPackOf a.supers g q → q ≢ p
  old-not-new g q k e = omega (arith, pack_le k, h.serial, ap (λ z. z / 256) e)

  -- the packs of other currents
  pub opens-others : (g : ℕ) → g ≢ f → current_of b g ≡ current_of a g
  opens-others g n = ap (λ o. pack_of_serial b.supers (current_serial o)) (h.others g n)
      ∙ by_top (slice_get a.tops g) refl
    where
      by_serial : (t : Top) → slice_get a.tops g ≡ Some t → (o : Option ℕ) → t.current ≡ o
          → pack_of_serial b.supers o ≡ pack_of_serial a.supers o
      by_serial t at None e = refl
      by_serial t at (Some s) e =
          let y = some-at a.families g (omega (arith, get_lt a.tops g t at, before.paired)) in
          let k = before.tops g s y.0 t y.1 at e in
          let z = later.supers s k.it k.at in
          ap (pack_at s) z.1 ∙ ((λ i. pack s (z.2.place i)) ∙ sym (ap (pack_at s) k.at))

      by_top : (o : Option Top) → slice_get a.tops g ≡ o
          → pack_of_serial b.supers (current_serial o) ≡ pack_of_serial a.supers (current_serial o)
      by_top None e = refl
      by_top (Some t) e = by_serial t e t.current refl

  -- `default` was there before, and had a current
  had_default : 0 ≡ f → 256 ≤ current_of a 0
  had_default e =
      let default = before.default in
      let t = some-at a.tops 0 (omega (arith, get_lt a.families 0 default.it default.at, before.paired)) in
      let s = h.had t.0 (ap (slice_get a.tops) (sym e) ∙ t.1) in
      current_big a before 0 record {
        family = default.it;
        family_at = default.at;
        top = t.0;
        top_at = t.1;
        serial = s.0;
        is = s.1;
      }

  -- the old number word stays, and the work is set
  pub numbers-opens : (number : ℕ → ℕ) → Lawful b → b.journal ≡ a.journal → Numbers a idle number
      → Numbers b (opens f) number
  numbers-opens number lawful journal k = record {
    lawful = lawful;
    word = λ g l. let o = k.word g l in record {
      current = λ z. o.current refl ∙ sym (opens-others g (λ e. omega (arith, ap (same f) e, same-self f)));
      marks = o.marks;
      is = λ y. pack-after a b later g (number g) (o.is y);
      other = λ z y e. dite (ℕ_discrete g f)
          (λ s. old-not-new g (number g) (o.is y) (e ∙ (ap (current_of b) s ∙ h.current)))
          (λ n. omega (arith, same-else f g n));
      last = λ y t s. ⊎_elim
          (λ old. ⊎_elim (λ z. inl z) (λ z. absurd (omega (arith, z.0))) (o.last y t old))
          (λ made. inr (
            omega (arith, ap (same f) made.1, same-self f),
            made.0
                ∙ sym (ap (λ z. current_of b z / 256) made.1 ∙ ap (λ z. z / 256) h.current),
          ))
          (opens-back g t s);
      first = λ z e t s. ⊎_elim
          (λ old. dite (ℕ_discrete g f)
          (λ y. absurd (h.first (sym (o.current refl ∙ ap (current_of a) y) ∙ e) t
          (subst (λ c. IsSerialOf a.supers c t) y old)))
          (λ n. absurd (omega (arith, same-else f g n))))
          (λ made. made.0 ∙ sym (ap (λ c. current_of b c / 256) made.1 ∙ ap (λ c. c / 256) h.current))
          (opens-back g t s);
      ends = λ y. end-same a b later journal g (number g) (o.is y) ∙ (o.ends y ∙ ap (λ z. writes z g) (sym journal));
    };
    top = λ g l z y. dite (ℕ_discrete g f)
        (λ e. ap (λ c. current_of b c / 256) e ∙ (ap (λ c. c / 256) h.current ∙ sym opens-long))
        (λ n. absurd (omega (arith, same-else f g n)));
    default = λ z. dite (ℕ_discrete 0 f)
        (λ e. omega (arith, had_default e, (k.word 0 (omega arith)).current refl))
        (λ n. absurd (omega (arith, z, same-else f 0 n)));
    based = λ t x at. ⊎_elim
        (λ old. let z = later.supers t x old in subst (IsBased b.memtables) (some_is (sym z.1 ∙ at))
        (based-after a b later x z.0 z.2 (k.based t x old)))
        (λ made. based-live b lawful t x at (ap (λ (z : SuperVersion). z.live) made.1 ∙ h.live))
        (entry_push a.supers h.super t x (ap (λ l. entry l t) (sym h.supers) ∙ at));
  }

-- ---- a SuperVersion is Gone

module _ (a b : Books) (later : After a b) (p : ℕ) (cells : List ℕ) (h : EndsSuper a b p cells) where
  pub gone-back : (g t : ℕ) → IsSerialOf b.supers g t → IsSerialOf a.supers g t
  gone-back g t k = dite (ℕ_discrete t (p / 256))
      (λ s. record {
        sv = h.gone.sv;
        is = ap (entry a.supers) s ∙ h.gone.was;
        family = ap (λ (z : SuperVersion). z.descriptor.family)
            (some_is (sym h.gone.is ∙ (ap (entry b.supers) (sym s) ∙ k.is))) ∙ k.family;
      })
      (λ n. record { sv = k.sv; is = sym (h.gone.others t n) ∙ k.is; family = k.family })

  pub gone-current : (g : ℕ) → current_of b g ≡ current_of a g
  gone-current g = ap (λ z. pack_of_serial b.supers (current_serial (slice_get z g))) h.tops
      ∙ by (current_serial (slice_get a.tops g))
    where
      at_serial : (s : ℕ) → pack_at s (entry b.supers s) ≡ pack_at s (entry a.supers s)
      at_serial s = dite (ℕ_discrete s (p / 256))
          (λ e. ap (λ z. pack_at s (entry b.supers z)) e
          ∙ (ap (pack_at s) h.gone.is ∙ sym (ap (λ z. pack_at s (entry a.supers z)) e ∙ ap (pack_at s) h.gone.was)))
          (λ n. ap (pack_at s) (h.gone.others s n))

      by : (o : Option ℕ) → pack_of_serial b.supers o ≡ pack_of_serial a.supers o
      by None = refl
      by (Some s) = at_serial s

  pub numbers-gone : (work : Work) (number : ℕ → ℕ) → Lawful b → b.journal ≡ a.journal → Numbers a work number
      → Numbers b work number
  numbers-gone work number lawful journal k = record {
    lawful = lawful;
    word = λ g l. let o = k.word g l in record {
      current = λ z. o.current z ∙ sym (gone-current g);
      marks = o.marks;
      is = λ y. pack-after a b later g (number g) (o.is y);
      other = λ z y e. o.other z y (e ∙ gone-current g);
      last = λ y t s. ⊎_elim (λ z. inl z) (λ z. inr (z.0, z.1 ∙ ap (λ c. c / 256) (sym (gone-current g))))
          (o.last y t (gone-back g t s));
      first = λ z e t s. o.first z e t (gone-back g t s) ∙ ap (λ c. c / 256) (sym (gone-current g));
      ends = λ y. end-same a b later journal g (number g) (o.is y) ∙ (o.ends y ∙ ap (λ z. writes z g) (sym journal));
    };
    top = λ g l z y. omega (arith, k.top g l z (omega (arith, gone-current g)), gone-current g, h.gone.long);
    default = k.default;
    based = λ t x at. dite (ℕ_discrete t (p / 256))
        (λ s. let z = later.supers t h.gone.sv (ap (entry a.supers) s ∙ h.gone.was) in
        subst (IsBased b.memtables) (some_is (sym z.1 ∙ at))
        (based-after a b later h.gone.sv z.0 z.2 (k.based t h.gone.sv (ap (entry a.supers) s ∙ h.gone.was))))
        (λ n. let was = sym (h.gone.others t n) ∙ at in let z = later.supers t x was in
        subst (IsBased b.memtables) (some_is (sym z.1 ∙ at)) (based-after a b later x z.0 z.2 (k.based t x was)));
  }

  pub live-gone : (u j : ℕ) → LiveAt b.supers u j → (u ≢ p / 256) × LiveAt a.supers u j
  live-gone u j l = dite (ℕ_discrete u (p / 256))
      (λ s. absurd (true_not (sym l.live ∙ ap (λ (z : SuperVersion). z.live)
      (some_is (sym l.is ∙ (ap (entry b.supers) s ∙ h.gone.is))))))
      (λ n. (n, record { sv = l.sv; is = sym (h.gone.others u n) ∙ l.is; live = l.live; place_is = l.place_is }))

  pub live-stays : (u j : ℕ) → u ≢ p / 256 → LiveAt a.supers u j → LiveAt b.supers u j
  live-stays u j n l = record { sv = l.sv; is = h.gone.others u n ∙ l.is; live = l.live; place_is = l.place_is }

-- ---- a family's current ends

module _ (a b : Books) (later : After a b) (f : ℕ) (h : EndsCurrent a b f) where
  pub ended-current : current_of b f ≡ 0
  ended-current = ap (λ o. pack_of_serial b.supers (current_serial o)) h.on ∙ ap (pack_of_serial b.supers) h.none

  pub ended-others : (g : ℕ) → g ≢ f → current_of b g ≡ current_of a g
  ended-others g n = λ i. pack_of_serial (h.supers i) (current_serial (h.others g n i))

  pub numbers-ended : (number : ℕ → ℕ) → Lawful b → b.journal ≡ a.journal → 256 ≤ number f → Numbers a idle number
      → Numbers b (begun f) number
  numbers-ended number lawful journal big k = record {
    lawful = lawful;
    word = λ g l. let o = k.word g l in record {
      current = λ z. o.current refl ∙ sym (ended-others g (λ e. omega (arith, ap (same f) e, same-self f)));
      marks = o.marks;
      is = λ y. pack-after a b later g (number g) (o.is y);
      other = λ z y e. dite (ℕ_discrete g f) (λ s. omega (arith, e, ap (current_of b) s, ended-current))
          (λ n. omega (arith, same-else f g n));
      last = λ y t s. ⊎_elim (λ z. inl z) (λ z. absurd (omega (arith, z.0)))
          (o.last y t (subst (λ z. IsSerialOf z g t) h.supers s));
      first = λ z e. dite (ℕ_discrete g f) (λ y. absurd (omega (arith, ap number y)))
          (λ n. absurd (omega (arith, same-else f g n)));
      ends = λ y. end-same a b later journal g (number g) (o.is y) ∙ (o.ends y ∙ ap (λ z. writes z g) (sym journal));
    };
    top = λ g l z y. dite (ℕ_discrete g f) (λ e. absurd (omega (arith, ap (current_of b) e, ended-current)))
        (λ n. absurd (omega (arith, same-else f g n)));
    default = λ z. dite (ℕ_discrete 0 f) (λ e. omega (arith, big, ap number e))
        (λ n. absurd (omega (arith, z, same-else f 0 n)));
    based = based-stands a b later h.supers k.based;
  }
