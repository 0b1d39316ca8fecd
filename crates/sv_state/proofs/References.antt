-- A SuperVersion becomes a family's current: its reference.
use Rattle.std.proofs.Common.{◌≡◌, ◌+◌, ◌*◌, ◌∷◌, ◌++◌, ℕ, List, [], length, Option, Some, None, refl, sym, ap, ◌∙◌, subst, drop, zero, suc}
use Rattle.std.specs.Prelude.{slice_get}
use Rattle.sv_model.specs.declared.writes.Write.{Write}
use Rattle.sv_model.specs.declared.records.Descriptor.{Descriptor}
use Rattle.sv_model.specs.declared.records.Memtable.{Memtable}
use Rattle.sv_model.specs.declared.records.SuperVersion.{SuperVersion}
use Rattle.sv_model.specs.declared.records.Top.{Top}
use Rattle.sv_model.specs.declared.sv_refs.SvRef.{SvRef}
use Rattle.sv_model.specs.Books.{Books}
use Rattle.sv_model.specs.Cells.{Cell}
use Rattle.sv_model.specs.Registers.{entry}
use Rattle.sv_model.specs.Steady.{IsCurrent}
use Rattle.sv_model.proofs.Registers.{entry-new}
use Rattle.sv_laws.specs.Installs.{live_super}
use Rattle.sv_model.proofs.Entries.{some}
use Rattle.sv_objects.specs.declared.bodies.Body.{Body}
use Rattle.sv_state.specs.Refs.{AreFrozenAt, AreKept, IsBodyOf, IsFrozenAt, IsKept, IsRefOf}

-- the reference that is kept of a current
pub current-ref : (b : Books) (held : List (Option (SvRef Body))) → AreKept b held → (f s : ℕ) (x : SuperVersion) → IsCurrent b.tops b.supers f s x
    → (r : SvRef Body) × (slice_get held f ≡ Some (Some r)) × IsRefOf b s r.pack r.body.value
current-ref b held h f s x c =
    let k = h.each f c.top c.at in
    by c.top.current c.is k.0 k.1 k.2
  where
    by : (o : Option ℕ) → o ≡ Some s → (r : Option (SvRef Body)) → slice_get held f ≡ Some r → IsKept b o r
        → (r : SvRef Body) × (slice_get held f ≡ Some (Some r)) × IsRefOf b s r.pack r.body.value
    by None q r e g = absurd (cc)
    by (Some n) q None e g = absurd g
    by (Some n) q (Some r) e g = (r, e, subst (λ m. IsRefOf b m r.pack r.body.value) (some q) g)

-- what its body says is said of the current
pub body-of : (b : Books) (s pack : ℕ) (body : Body) (x : SuperVersion) → entry b.supers s ≡ Some x → IsRefOf b s pack body → IsBodyOf b x.descriptor body
body-of b s pack body x e r = subst (λ (z : SuperVersion). IsBodyOf b z.descriptor body) (some (sym r.at ∙ e)) r.body_is

-- the reference of a SuperVersion that was made
pub new-ref : (b : Books) (S : List SuperVersion) (d : Descriptor) (place pack : ℕ) (body : Body) → b.supers ≡ S ++ live_super d place ∷ []
    → pack ≡ (length S + 1) * 256 + place → IsBodyOf b d body → IsRefOf b (length S + 1) pack body
new-ref b S d place pack body made is body_is = record {
  it = live_super d place;
  at = ap (λ l. entry l (length S + 1)) made ∙ entry-new S (live_super d place) (length S + 1) refl;
  pack_is = is;
  body_is = body_is;
}

-- the reference of the current before
pub old-ref : (b : Books) (held : List (Option (SvRef Body))) → AreKept b held → (f : ℕ) (r : Option (SvRef Body)) → slice_get held f ≡ Some r
    → (t : Top) → slice_get b.tops f ≡ Some t → IsKept b t.current r
old-ref b held h f r e t at = let k = h.each f t at in subst (IsKept b t.current) (some (sym k.1 ∙ e)) k.2

-- ---- frozen memtables

pub frozen-push : (J : List Write) (M : List Memtable) (ms : List ℕ) (xs : List (ℕ × Cell)) (m : ℕ) (x : ℕ × Cell) → AreFrozenAt J M ms xs → IsFrozenAt J M m x
    → AreFrozenAt J M (ms ++ m ∷ []) (xs ++ x ∷ [])
frozen-push J M [] [] m x h i = (i, tt)
frozen-push J M [] (y ∷ ys) m x h i = absurd h
frozen-push J M (n ∷ ns) [] m x h i = absurd h
frozen-push J M (n ∷ ns) (y ∷ ys) m x h i = (h.0, frozen-push J M ns ys m x h.1 i)

pub frozen-drop : (J : List Write) (M : List Memtable) (k : ℕ) (ms : List ℕ) (xs : List (ℕ × Cell)) → AreFrozenAt J M ms xs
    → AreFrozenAt J M (drop k ms) (drop k xs)
frozen-drop J M zero ms xs h = h
frozen-drop J M (suc k) [] [] h = tt
frozen-drop J M (suc k) [] (x ∷ xs) h = absurd h
frozen-drop J M (suc k) (m ∷ ms) [] h = absurd h
frozen-drop J M (suc k) (m ∷ ms) (x ∷ xs) h = frozen-drop J M k ms xs h.1

pub frozen_long : (J : List Write) (M : List Memtable) (ms : List ℕ) (xs : List (ℕ × Cell)) → AreFrozenAt J M ms xs → length xs ≡ length ms
frozen_long J M [] [] h = refl
frozen_long J M [] (x ∷ xs) h = absurd h
frozen_long J M (m ∷ ms) [] h = absurd h
frozen_long J M (m ∷ ms) (x ∷ xs) h = ap suc (frozen_long J M ms xs h.1)
