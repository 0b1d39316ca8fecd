-- The store rests as it opens.
use Rattle.std.proofs.Common.{◌≡◌, ◌≤◌, inl, ℕ, zero, suc, true, [], Some, None, replicate, refl, sym, ap, subst, arith}
use Rattle.std.specs.Prelude.{slice_get}
use Rattle.sv_model.specs.Named.{HasCurrent}
use Rattle.sv_model.specs.Openings.{opening_books}
use Rattle.sv_model.proofs.Entries.{entry_none, entry_one, get_one, some}
use Rattle.sv_laws.proofs.Opened.{first-sound}
use Rattle.sv_store.specs.Cells.{CellsHold, HoldsAt}
use Rattle.sv_store.specs.Opening.{opening_cells}
use Rattle.sv_store.specs.Standing.{Rests}
use Rattle.sv_store.proofs.CellLaws.{filled-cells}

pub get_replicate : {A : Type 0} (n : ℕ) (y : A) (c : ℕ) (x : A) → slice_get (replicate n y) c ≡ Some x → x ≡ y
get_replicate zero y c x e = absurd (cc)
get_replicate (suc n) y zero x e = sym (some e)
get_replicate (suc n) y (suc c) x e = get_replicate n y c x e

vacant-cells : CellsHold [] [] (replicate 64 None)
vacant-cells = record {
  many = refl;
  each = λ c x e. subst (λ z. HoldsAt [] [] c z) (sym (get_replicate 64 None c x e)) (λ n y at live cell. entry_none n y at);
}

pub opening-rests : (next : ℕ) → 1 ≤ next → next ≤ 18446744073709551615 → Rests (opening_books next) opening_cells
opening-rests next low high = record {
  stands = record {
    sound = first-sound next low high;
    currents = λ f x at stands.
        let h = get_one _ f x at in
        record { top = record { current = Some 1; last = 1 }; at = ap (λ n. slice_get (opening_books next).tops n) h.0; serial = 1; is = refl };
    alone = λ n x at live. inl (subst (HasCurrent (opening_books next).tops) (sym (entry_one _ n x at).0) (0, record { current = Some 1; last = 1 }, refl, refl));
    goes = tt;
    cells_hold = filled-cells [] [] (replicate 64 None) vacant-cells (record { family = 0; first = 0; cell = 0; live = true })
        (record { few = omega arith; within = omega arith; free = λ n y at. absurd (entry_none n y at) }) refl refl;
  };
  still = record {
    jobs = refl;
    idle = λ f c e. get_replicate 16 None f c e;
    given_back = λ n q. entry_none q.0 q.1 q.2;
  };
}
