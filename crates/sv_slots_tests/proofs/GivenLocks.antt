-- A lane that has nothing takes a lock, and may give it back.
use Rattle.std.proofs.Common.{[], ap, arith, inl, refl, subst, sym, ℕ, ◌∙◌, ◌≡◌}
use Rattle.sv_model.specs.Books.{Books}
use Rattle.sv_model.specs.Turns.{IsAccounted}
use Rattle.sv_rule.proofs.Basics.{every_none}
use Rattle.sv_rule.proofs.TurnsSame.{stands-same}
use Rattle.sv_rule.specs.Blanks.{desk_of}
use Rattle.sv_rule.specs.LockPlays.{FindsAsBooks, IsOwnRead, MayGiveDb, MayGiveDir, MayWriteCell, took_cell, took_db, took_dir, wrote_cell}
use Rattle.sv_rule.specs.SeatPlays.{IsIdle}
use Rattle.sv_rule.specs.Views.{Desk, LaneView, idle}
use Rattle.sv_model.specs.Cells.{Cell}
use Rattle.std.specs.Prelude.{Option}
use Rattle.sv_slots.proofs.Unchanged.{gives_found, still-turns}
use Rattle.sv_slots_tests.specs.World.{world_disk}

pub gives_dir : (v w : LaneView) → IsIdle v → w ≡ took_dir world_disk v → MayGiveDir w world_disk w.known.task [] w.names 0 0
gives_dir v w bare e = subst (λ (z : LaneView). MayGiveDir z world_disk z.known.task [] z.names 0 0) (sym e) (record {
  alive = bare.alive;
  found = world_disk;
  has = refl;
  changes = inl refl;
  marks = record {
    handles = refl;
    holds = refl;
    quiet = refl;
    listed = refl;
    removed = refl;
    ended = refl;
    output = λ o q. record { was = o; is = q; same = refl };
    outputs = λ n. refl;
    grabbed = λ n. refl;
    jobs = refl;
  };
  files = tt;
  reads_are = λ files q. every_none (IsOwnRead (took_dir world_disk v) files);
  listed = λ files q. inl (refl, refl);
  later = omega arith;
  rose = inl (omega arith);
})

module _ (b : Books) (v : LaneView) (bare : IsIdle v) (own : IsAccounted v.known.lane b v.known.task) (c : ℕ)
    (x : Option Cell) where
  abbrev has : LaneView
  has = took_cell c x (took_db b v)

  abbrev desk : Desk
  desk = record { books = b; work = idle; due = [] }

  writes : FindsAsBooks (took_db b v) c x → MayWriteCell has c b v.known.task [] x 0 0
  writes finds = record {
    alive = bare.alive;
    desk = desk;
    has = refl;
    found = x;
    cell = refl;
    turns = still-turns v.known.lane b v.known.task own;
    stands = stands-same b;
    more_is = inl refl;
    says = finds desk refl;
    seen = omega arith;
  }

  pub may_write : (w u : LaneView) → w ≡ took_db b v → u ≡ took_cell c x w → FindsAsBooks w c x
      → MayWriteCell u c b u.known.task [] x 0 0
  may_write w u e is finds = subst (λ (z : LaneView). MayWriteCell z c b z.known.task [] x 0 0)
      (sym (is ∙ ap (took_cell c x) e)) (writes (subst (λ (z : LaneView). FindsAsBooks z c x) e finds))

  pub may_give_written : (w u y : LaneView) → w ≡ took_db b v → u ≡ took_cell c x w
      → y ≡ wrote_cell (desk_of u) c b u.known.task [] 0 0 u → MayGiveDb y b y.known.task
  may_give_written w u y e is wrote =
      let at : u ≡ has = is ∙ ap (took_cell c x) e in
      let same : y ≡ wrote_cell desk c b v.known.task [] 0 0 has = wrote
      ∙ ap (λ (z : LaneView). wrote_cell (desk_of z) c b z.known.task [] 0 0 z) at in
      subst (λ (z : LaneView). MayGiveDb z b z.known.task) (sym same)
      (gives_found (wrote_cell desk c b v.known.task [] 0 0 has) desk bare.alive refl refl refl refl own)
