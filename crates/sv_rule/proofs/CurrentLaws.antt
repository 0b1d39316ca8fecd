-- What lawful books say of currents, by their packs.
use Rattle.std.proofs.Common.{Bool, List, None, Option, Some, [], ap, arith, cond, eq-eqb, false, inr, length, ne_eqb, refl, slice_get, suc, sym, true, zero, ℕ, ⊎_elim, ◌%◌, ◌/◌, ◌<◌, ◌==◌, ◌∙◌, ◌∷◌, ◌≡◌, ◌≤◌, ◌⊎◌}
use Rattle.sv_model.specs.Books.{Books}
use Rattle.sv_model.specs.Described.{IsTop}
use Rattle.sv_model.specs.Lawful.{Lawful}
use Rattle.sv_model.specs.Registers.{entry}
use Rattle.sv_model.specs.declared.records.Family.{Family}
use Rattle.sv_model.specs.declared.records.SuperVersion.{SuperVersion}
use Rattle.sv_model.specs.declared.records.Top.{Top}
use Rattle.sv_model.proofs.Basics.{none_some}
use Rattle.sv_model.proofs.Registers.{entry_le}
use Rattle.sv_model.specs.Lists.{at}
use Rattle.sv_model.specs.Supers.{IsPackOf, IsSerialOf, LiveAt, current_of, current_serial, end_at, end_in, has_current, pack, pack_at, pack_of_serial, writes}
use Rattle.sv_rule.proofs.Basics.{some_is}

pub some-at : {A : Type 0} (l : List A) (n : ℕ) → n < length l → (x : A) × (slice_get l n ≡ Some x)
some-at [] n h = absurd (omega arith)
some-at (x ∷ l) zero h = (x, refl)
some-at (x ∷ l) (suc n) h = some-at l n (omega arith)

pub get_lt : {A : Type 0} (l : List A) (n : ℕ) (x : A) → slice_get l n ≡ Some x → n < length l
get_lt [] n x e = absurd (cc)
get_lt (y ∷ l) zero x e = omega arith
get_lt (y ∷ l) (suc n) x e = let h = get_lt l n x e in omega arith

-- ---- serials and packs

-- a serial is one of those made
pub serial_le : (supers : List SuperVersion) (f t : ℕ) → IsSerialOf supers f t → (0 < t) × (t ≤ length supers)
serial_le supers f t h = entry_le supers t h.sv h.is

pub pack_serial : {supers : List SuperVersion} {f p : ℕ} → IsPackOf supers f p → IsSerialOf supers f (p / 256)
pack_serial h = record { sv = h.sv; is = h.is; family = h.family }

pub pack_le : {supers : List SuperVersion} {f p : ℕ} → IsPackOf supers f p → p / 256 ≤ length supers
pack_le {supers} {f} {p} h = (serial_le supers f (p / 256) (pack_serial h)).1

pub pack_big : {supers : List SuperVersion} {f p : ℕ} → IsPackOf supers f p → 256 ≤ p
pack_big {supers} {f} {p} h = let z = (serial_le supers f (p / 256) (pack_serial h)).0 in omega arith

-- a serial has one family, and one pack
pub one_family : {supers : List SuperVersion} {f g t : ℕ} → IsSerialOf supers f t → IsSerialOf supers g t → f ≡ g
one_family h k = sym h.family ∙ (ap (λ (z : SuperVersion). z.descriptor.family) (some_is (sym h.is ∙ k.is)) ∙ k.family)

pub one_pack : (supers : List SuperVersion) (f g p q : ℕ) → IsPackOf supers f p → IsPackOf supers g q
    → p / 256 ≡ q / 256 → p ≡ q
one_pack supers f g p q h k e =
    let same_place : h.sv.place ≡ k.sv.place = ap (λ (z : SuperVersion). z.place)
    (some_is (sym h.is ∙ (ap (entry supers) e ∙ k.is))) in
    omega (arith, h.place, k.place)

-- ---- currents

pack_at_marks : (s : ℕ) (o : Option SuperVersion) → (o ≡ None ⊎ (0 < s)) → pack_at s o < 256 → pack_at s o ≡ 0
pack_at_marks s None h l = refl
pack_at_marks s (Some x) h l = ⊎_elim (λ e. absurd (none_some x (sym e))) (λ z. absurd (omega arith)) h

pub current_marks : (b : Books) (f : ℕ) → current_of b f < 256 → current_of b f ≡ 0
current_marks b f = by (current_serial (slice_get b.tops f))
  where
    at_serial : (s : ℕ) → pack_at s (entry b.supers s) < 256 → pack_at s (entry b.supers s) ≡ 0
    at_serial zero l = refl
    at_serial (suc s) l = pack_at_marks (suc s) (entry b.supers (suc s)) (inr (omega arith)) l

    by : (o : Option ℕ) → pack_of_serial b.supers o < 256 → pack_of_serial b.supers o ≡ 0
    by None l = refl
    by (Some s) l = at_serial s l

-- a family that has a current, with the record of it
pub record HasTop (b : Books) (f : ℕ) : Type 0 where
  pub family : Family
  pub family_at : slice_get b.families f ≡ Some family
  pub top : Top
  pub top_at : slice_get b.tops f ≡ Some top
  pub serial : ℕ
  pub is : top.current ≡ Some serial

none_big : (b : Books) (f : ℕ) → 256 ≤ current_of b f → current_serial (slice_get b.tops f) ≡ None → ⊥
none_big b f big e = omega (arith, ap (pack_of_serial b.supers) e)

pub has-top : (b : Books) → Lawful b → (f : ℕ) → 256 ≤ current_of b f → HasTop b f
has-top b lawful f big = by_top (slice_get b.tops f) refl
  where
    by_serial : (t : Top) → slice_get b.tops f ≡ Some t → (o : Option ℕ) → t.current ≡ o → HasTop b f
    by_serial t at None e = absurd (none_big b f big (ap current_serial at ∙ e))
    by_serial t at (Some s) e =
        let y = some-at b.families f (omega (arith, get_lt b.tops f t at, lawful.paired)) in
        record { family = y.0; family_at = y.1; top = t; top_at = at; serial = s; is = e }

    by_top : (o : Option Top) → slice_get b.tops f ≡ o → HasTop b f
    by_top None e = absurd (none_big b f big (ap current_serial e))
    by_top (Some t) e = by_serial t e t.current refl

module _ (b : Books) (lawful : Lawful b) (f : ℕ) where
  -- the current's pack, where the family has one
  pub current_at : (t : HasTop b f) → current_of b f ≡ pack t.serial
      (lawful.tops f t.serial t.family t.top t.family_at t.top_at t.is).it.place
  current_at t =
      let k = lawful.tops f t.serial t.family t.top t.family_at t.top_at t.is in
      ap (λ o. pack_of_serial b.supers (current_serial o)) t.top_at
      ∙ (ap (pack_of_serial b.supers) t.is ∙ ap (pack_at t.serial) k.at)

  abbrev top_of : (t : HasTop b f) → IsTop b.journal b.supers f t.family t.top.last t.serial
  top_of t = lawful.tops f t.serial t.family t.top t.family_at t.top_at t.is

  pub current_big : HasTop b f → 256 ≤ current_of b f
  current_big t = let k = top_of t in omega (arith, current_at t, (entry_le b.supers t.serial k.it k.at).0)

  pub current_serial_is : (t : HasTop b f) → current_of b f / 256 ≡ t.serial
  current_serial_is t =
      let k = top_of t in
      let p = lawful.places t.serial k.it k.at k.live in omega (arith, current_at t, p.0)

  pub current_is : 256 ≤ current_of b f → IsPackOf b.supers f (current_of b f)
  current_is big =
      let t = has-top b lawful f big in
      let k = top_of t in
      let p = lawful.places t.serial k.it k.at k.live in record {
        sv = k.it;
        is = ap (entry b.supers) (current_serial_is t) ∙ k.at;
        family = k.family_is;
        place = omega (arith, current_at t, p.0);
      }

  pub current_live : 256 ≤ current_of b f → LiveAt b.supers (current_of b f / 256) (current_of b f % 256)
  current_live big =
      let t = has-top b lawful f big in
      let k = top_of t in
      let c = current_is big in
      record {
        sv = k.it;
        is = ap (entry b.supers) (current_serial_is t) ∙ k.at;
        live = k.live;
        place_is = ap (λ (z : SuperVersion). z.place)
            (some_is (sym k.at ∙ (ap (entry b.supers) (sym (current_serial_is t)) ∙ c.is))) ∙ c.place;
      }

  -- it is the newest of the family
  pub current_newest : 256 ≤ current_of b f → (t : ℕ) → IsSerialOf b.supers f t → t ≤ current_of b f / 256
  current_newest big t of =
      let k = has-top b lawful f big in
      let h = (top_of k).greatest t of.sv of.is of.family in omega (arith, current_serial_is k)

  pub current_ends : 256 ≤ current_of b f → end_at b (current_of b f) ≡ writes b.journal f
  current_ends big =
      let t = has-top b lawful f big in
      let k = top_of t in
      ap (λ n. end_in b.journal (entry b.supers n)) (current_serial_is t) ∙ (ap (end_in b.journal) k.at ∙ k.ends)

pub has_current_one : (b : Books) (f : ℕ) → 256 ≤ current_of b f → has_current b f ≡ 1
has_current_one b f big = ap (λ (z : Bool). cond z 0 1) (ne_eqb (current_of b f) 0 (λ e. omega arith))

pub has_current_none : (b : Books) (f : ℕ) → current_of b f ≡ 0 → has_current b f ≡ 0
has_current_none b f e = ap (λ (z : Bool). cond z 0 1) (eq-eqb (current_of b f) 0 e)

pub has_current_le : (b : Books) (f : ℕ) → has_current b f ≤ 1
has_current_le b f = elim (current_of b f == 0) as (λ z. cond z 0 1 ≤ 1) [ true ↦ omega arith | false ↦ omega arith ]
