-- What a lane means by a name, and that it means nothing by another.
use Rattle.std.proofs.Common.{List, None, Option, Some, [], ap, arith, false, get_or, length, map, refl, slice_get, suc, sym, true, zero, ℕ, ◌<◌, ◌∙◌, ◌∷◌, ◌≡◌, ◌≤◌}
use Rattle.std.specs.List.{list_any}
use Rattle.std.specs.Prelude.{Bool, is_some, position}
use Rattle.std.proofs.lemmas.List.Quantifiers.{position-Some}
use Rattle.std.proofs.lemmas.List.Folds.{list_any_at}
use Rattle.std.proofs.lemmas.Option.{get_or_from_slice_get, slice_get-get_or}
use Rattle.std.proofs.lemmas.Slice.Eq.{bytes_eq-Decides}
use Rattle.sv_db.specs.Handles.{HasNone, IsHandleOf, is_named}
use Rattle.sv_db.specs.Locals.{HandlesFit, has_name}
use Rattle.sv_model.specs.Books.{Books}
use Rattle.sv_model.specs.Families.{IsOwn}
use Rattle.sv_model.specs.Lists.{at, bit, times}
use Rattle.sv_model.specs.Tasks.{handle, handle_in}
use Rattle.sv_model.specs.Turns.{IsAccounted}
use Rattle.sv_model.specs.declared.records.Family.{Family}
use Rattle.sv_family.proofs.SoughtFamilies.{position_any}
use Rattle.sv_model.proofs.Entries.{get_none, some}
use Rattle.sv_rule.proofs.CurrentLaws.{get_lt}
use Rattle.sv_rule.specs.Fits.{Fits}
use Rattle.sv_rule.specs.Views.{LaneView}

-- ---- the search

named_is : (name : List ℕ) (o : Option (List ℕ)) → is_named name o ≡ true → o ≡ Some name
named_is name None e = absurd (cc)
named_is name (Some own) e = ap Some ((bytes_eq-Decides own name).0 e)

named-name : (name : List ℕ) (o : Option (List ℕ)) → o ≡ Some name → is_named name o ≡ true
named-name name o e = ap (is_named name) e ∙ (bytes_eq-Decides name name).1 refl

pub place-own : (name : List ℕ) (names : List (Option (List ℕ))) → length names ≡ 16 → (i : ℕ)
    → position (is_named name) names ≡ Some i → (i < 16) × IsHandleOf name names i
place-own name names long i e =
    let h = position-Some (is_named name) names i None e in (
      omega (arith, h.0, long),
      slice_get-get_or names i None h.0 ∙ ap Some (named_is name (get_or names i None) h.1),
    )

pub place-none : (name : List ℕ) (names : List (Option (List ℕ))) → position (is_named name) names ≡ None
    → HasNone name names
place-none name names e f own = absurd (
    let any : list_any (is_named name) names ≡ true = list_any_at (is_named name) names f (Some name) (get_lt names f (Some name) own)
    (ap (is_named name) (get_or_from_slice_get names f (Some name) (Some name) own) ∙ named-name name (Some name) refl) in
    let no : false ≡ true = sym (ap is_some e) ∙ position_any (is_named name) names ∙ any in cc)

-- ---- the books

bit_at : (handles : List Bool) (l : ℕ) → slice_get handles l ≡ Some true → at 0 (map bit handles) l ≡ 1
bit_at [] l e = absurd (get_none l true e)
bit_at (b ∷ handles) zero e = ap bit (some e)
bit_at (b ∷ handles) (suc l) e = bit_at handles l e

pub name_at : (o : Option (Option (List ℕ))) → 1 ≤ has_name o → (name : List ℕ) × (o ≡ Some (Some name))
name_at (Some (Some name)) h = (name, refl)
name_at (Some None) h = absurd (omega (arith, h))
name_at None h = absurd (omega (arith, h))

-- by another name it has no handle in the books
pub no-own : (names : List (Option (List ℕ))) (v : LaneView) → HandlesFit names v → (name : List ℕ) → HasNone name names
    → (b : Books) → Fits b v.known → (l : ℕ) → IsAccounted l b v.known.task → (f : ℕ) (x : Family)
    → slice_get b.families f ≡ Some x → IsOwn l name x → ⊥
no-own names v h name none b fits l own f x e is =
    let near : f < 16 = omega (arith, get_lt b.families f x e, fits.lawful.limits.families) in
    let one : handle b.families l f ≡ 1 = ap (handle_in l) e ∙ bit_at x.handles l is.handle in
    let has : 1 ≤ times f v.known.task.handles = held f one in
    let named = name_at (slice_get names f) (omega (arith, h.count f near, has)) in
    let it = h.named f named.0 named.1 b fits in
    let same : it.it ≡ x = some (sym it.at ∙ e) in
    let name_is : named.0 ≡ name = sym it.name_is ∙ ap (λ (z : Family). z.name) same ∙ is.name_is in
    none f (named.1 ∙ ap (λ n. Some (Some n)) name_is)
  where
    held : (f : ℕ) → handle b.families l f ≡ 1 → 1 ≤ times f v.known.task.handles
    held zero one = omega (arith, own.default)
    held (suc k) one = omega (arith, own.handles (suc k) (omega arith), one)
