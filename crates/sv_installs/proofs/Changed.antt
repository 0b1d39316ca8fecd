-- Changes one after the other.
use Rattle.std.proofs.Common.{List, [], ap, arith, subst, ℕ, ⊎_elim, ◌++◌, ◌+◌, ◌∙◌, ◌∷◌, ◌≡◌}
use mathlib.Core.List.{append_assoc}
use Rattle.sv_borrows.specs.Desks.{GoesOn}
use Rattle.sv_borrows.specs.Grown.{Cleans}
use Rattle.sv_installs.specs.Changing.{Changes, changed}
use Rattle.sv_installs.specs.Installing.{Installs}
use Rattle.sv_model.specs.Books.{Books}
use Rattle.sv_model.specs.Lists.{at}
use Rattle.sv_model.specs.Turns.{IsAccounted}
use Rattle.sv_model.specs.declared.writes.Write.{Write}
use Rattle.sv_rule.proofs.Basics.{append_none}
use Rattle.sv_rule.specs.Sums.{put}
use Rattle.sv_rule.specs.Views.{LaneView}

add-none : (n : ℕ) → n ≡ n + 0
add-none n = omega arith

add-assoc : (n k l : ℕ) → (n + k) + l ≡ n + (k + l)
add-assoc n k l = omega arith

pub changes-through : (a m b : Books) (v u w : LaneView) → Changes a m v u → Changes m b u w → Changes a b v w
changes-through a m b v u w h k = record {
  own = subst (λ (z : LaneView). IsAccounted z.known.lane b z.known.task) h.is k.own;
  more = h.more ++ k.more;
  writes = h.writes ++ k.writes;
  seen = k.seen;
  looked = k.looked;
  adds = h.adds + k.adds;
  journal = k.journal ∙ ap (λ (l : List Write). l ++ k.writes) h.journal ∙ append_assoc a.journal h.writes k.writes;
  rises = λ f. omega (arith, h.rises f, k.rises f, ap (λ (z : LaneView). at 0 z.known.seen f) h.is);
  is = k.is ∙ ap (changed b k.more k.writes k.seen k.looked k.adds) h.is
      ∙ (λ i. record (changed b (h.more ++ k.more) (h.writes ++ k.writes) k.seen k.looked (h.adds + k.adds) v) {
        known = record v.known {
          bodies = append_assoc v.known.bodies h.more k.more i;
          mine = append_assoc v.known.mine h.writes k.writes i;
          seen = k.seen;
        };
        counts = record v.counts { adds = add-assoc v.counts.adds h.adds k.adds i };
      });
}

-- nothing but what was seen by families, which is alike
pub changes-none : (a : Books) (v w : LaneView) → IsAccounted v.known.lane a v.known.task → GoesOn a [] v w
    → Changes a a v w
changes-none a v w own h = record {
  own = own;
  more = [];
  writes = [];
  seen = h.0;
  looked = v.slots.looked;
  adds = 0;
  journal = append_none a.journal;
  rises = λ f. omega (arith, h.1 f);
  is = h.2 ∙ (λ i. record (changed a [] [] h.0 v.slots.looked 0 v) {
    known = record v.known {
      bodies = append_none v.known.bodies i;
      mine = append_none v.known.mine i;
      seen = h.0;
    };
    counts = record v.counts { adds = add-none v.counts.adds i };
  });
}

-- a cleanup leaves the journal
pub cleans-journal : (a b : Books) → Cleans a b → b.journal ≡ a.journal
cleans-journal a b h = ⊎_elim (λ e. ap (λ (z : Books). z.journal) e) (λ k. ap (λ (z : Books). z.journal) k.2.is) h

-- an install, of books whose journal is as it was
pub changes-install : (a b c : Books) (f : ℕ) (v w : LaneView) → b.journal ≡ a.journal → Installs f b c v w
    → Changes a c v w
changes-install a b c f v w same h = record {
  own = h.own;
  more = h.new ∷ h.more;
  writes = [];
  seen = h.seen;
  looked = put 0 v.slots.looked f h.new.pack;
  adds = 1;
  journal = cleans-journal b c h.cleans ∙ same ∙ append_none a.journal;
  rises = λ g. omega (arith, h.alike g);
  is = h.is ∙ (λ i. record (changed c (h.new ∷ h.more) [] h.seen (put 0 v.slots.looked f h.new.pack) 1 v) {
    known = record v.known {
      bodies = v.known.bodies ++ h.new ∷ h.more;
      mine = append_none v.known.mine i;
      seen = h.seen;
    };
  });
}
