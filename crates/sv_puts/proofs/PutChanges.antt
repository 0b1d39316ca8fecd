-- How the books and the lane changed by a put.
use Rattle.std.proofs.Common.{List, [], ap, arith, max, subst, sym, ℕ, ◌++◌, ◌+◌, ◌∙◌, ◌∷◌, ◌≡◌, ◌≤◌}
use mathlib.Core.Logic.{dite}
use native.Mathlib.Decide.{ℕ_discrete}
use Rattle.sv_installs.proofs.Changed.{changes-install}
use Rattle.sv_installs.specs.Changing.{Changes, changed}
use Rattle.sv_model.specs.Books.{Books}
use Rattle.sv_model.specs.Lists.{at}
use Rattle.sv_model.specs.declared.writes.Row.{Row}
use Rattle.sv_model.specs.declared.writes.Write.{Write}
use Rattle.sv_puts.specs.Rows.{Appends}
use Rattle.sv_puts.specs.Switching.{SwitchesTo}
use Rattle.sv_rule.proofs.Basics.{append_none}
use Rattle.sv_rule.proofs.Sums.{at-put_else, at-put_same}
use Rattle.sv_rule.specs.LockPlays.{raised}
use Rattle.sv_rule.specs.Views.{LaneView}
use Rattle.sv_state.specs.Writing.{write_of}

add-none : (n : ℕ) → n ≡ n + 0
add-none n = omega arith

raised-least : (seen : List ℕ) (f n : ℕ) → n ≤ at 0 (raised seen f n) f
raised-least seen f n = omega (arith, at-put_same 0 seen f (max (at 0 seen f) n))

raised-rises : (seen : List ℕ) (f n g : ℕ) → at 0 seen g ≤ at 0 (raised seen f n) g
raised-rises seen f n g = dite (ℕ_discrete g f)
    (λ e. subst (λ (h : ℕ). at 0 seen h ≤ at 0 (raised seen f n) h) (sym e)
    (omega (arith, at-put_same 0 seen f (max (at 0 seen f) n))))
    (λ ne. omega (arith, at-put_else 0 seen f g (max (at 0 seen f) n) ne))

-- the row
pub changes-append : (a b : Books) (f : ℕ) (row : Row) (n : ℕ) (v w : LaneView) → Appends a b f row n v w
    → Changes a b v w
changes-append a b f row n v w h =
    let it : Write = write_of v.known.lane f h.mem row in record {
      own = h.own;
      more = [];
      writes = it ∷ [];
      seen = raised v.known.seen f n;
      looked = v.slots.looked;
      adds = 0;
      journal = ap (λ (z : Books). z.journal) h.written.is;
      rises = raised-rises v.known.seen f n;
      is = h.is ∙ (λ i. record (changed b [] (it ∷ []) (raised v.known.seen f n) v.slots.looked 0 v) {
        known = record v.known {
          bodies = append_none v.known.bodies i;
          mine = v.known.mine ++ it ∷ [];
          seen = raised v.known.seen f n;
        };
        counts = record v.counts { adds = add-none v.counts.adds i };
      });
    }

-- the lane has met its write
pub has-met : (a b : Books) (f : ℕ) (row : Row) (n : ℕ) (v w : LaneView) → Appends a b f row n v w → (g : ℕ) → f ≡ g
    → n ≤ at 0 w.known.seen g
has-met a b f row n v w h g same = subst (λ (s : List ℕ). n ≤ at 0 s g) (sym (ap (λ (z : LaneView). z.known.seen) h.is))
    (subst (λ (k : ℕ). n ≤ at 0 (raised v.known.seen f n) k) same (raised-least v.known.seen f n))

pub changes-switch : (a b : Books) (f c : ℕ) (v w : LaneView) → SwitchesTo a b f v w c → Changes a b v w
changes-switch a b f c v w h =
    changes-install a h.made b f v w (ap (λ (z : Books). z.journal) h.switched.is) h.installs
