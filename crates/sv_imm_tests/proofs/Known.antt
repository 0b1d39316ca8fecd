-- What is known of a register that is a list of known records.
use Rattle.std.proofs.Common.{◌≡◌, ℕ, ◌<◌, ◌++◌, ◌∷◌, [], List, Some, length, refl, sym, ap, subst, ◌∙◌}
use Rattle.std.proofs.lemmas.List.{same_from_push}
use Rattle.std.proofs.lemmas.Option.{same_Some}
use Rattle.sv_model.specs.declared.records.MemtableList.{MemtableList}
use Rattle.sv_model.specs.Named.{IsLiveList}
use Rattle.sv_model.specs.Registers.{entry}
use Rattle.sv_model.specs.declared.holders.TheConstants.{MAX_HOLDERS}
use Rattle.sv_imm.specs.Changes.{IsMade, live_list}

pub there : {A : Type 0} (all known : List A) (id : ℕ) (x : A) → all ≡ known → entry known id ≡ Some x → entry all id ≡ Some x
there {A} all known id x e at = subst (λ (l : List A). entry l id ≡ Some x) (sym e) at

pub few : {A : Type 0} (all known : List A) → all ≡ known → length known < MAX_HOLDERS → length all < MAX_HOLDERS
few {A} all known e less = subst (λ (l : List A). length l < MAX_HOLDERS) (sym e) less

-- the register before its last record
pub before : {A : Type 0} (all known rest : List A) (x y : A) → all ≡ known ++ x ∷ [] → all ≡ rest ++ y ∷ [] → rest ≡ known
before all known rest x y e split = (same_from_push rest known y x (sym split ∙ e)).0

pub list_live : (all known : List MemtableList) (id : ℕ) (members : List ℕ) → all ≡ known → entry known id ≡ Some (live_list members) → IsLiveList all id
list_live all known id members e at = record {
  it = live_list members;
  at = there all known id (live_list members) e at;
  live = refl;
}

pub list_short : (all known : List MemtableList) (id : ℕ) (members : List ℕ) → all ≡ known → entry known id ≡ Some (live_list members) → length members < 64 → (l : MemtableList) → entry all id ≡ Some l → length l.members < 64
list_short all known id members e at less l is =
    subst (λ (x : MemtableList). length x.members < 64) (same_Some (live_list members) l (sym (there all known id (live_list members) e at) ∙ is)) less

pub list_made : (old known : List MemtableList) (members : List ℕ) (new : List MemtableList) (id : ℕ) → old ≡ known → IsMade old members new id → new ≡ known ++ live_list members ∷ []
list_made old known members new id e made = made.made ∙ ap (λ (l : List MemtableList). l ++ live_list members ∷ []) e
