use Rattle.std.proofs.Common.{◌≡◌, ℕ, List, [], ◌∷◌, lit<, refl}
use Rattle.sv_model.specs.declared.writes.Row.{Row}
use Rattle.sv_model.specs.declared.writes.Numbered.{Numbered}
use Rattle.sv_table_tests.proofs.merges.built.Goals as goal

-- the row is the write of its number
is_numbered : (n : Numbered) (number : ℕ) → n.number ≡ number → n ≡ record { number = number; row = n.row }
is_numbered n number e = λ i. record { number = e i; row = n.row }

-- the first and the fourth have changed places
pub build-requires-clause-writes : goal.build-requires-clause-writes
build-requires-clause-writes c =
    let a = c.in_ok-numbered.field-0 in
    let b = c.in_ok-numbered-2.field-0 in
    let d = c.in_ok-numbered-3.field-0 in
    let e = c.in_ok-numbered-4.field-0 in
    let f = c.in_ok-numbered-5.field-0 in
    let writes : List Row = e.row ∷ b.row ∷ d.row ∷ a.row ∷ f.row ∷ [] in (
      writes,
      refl,
      record {
        moves = (0, 3) ∷ [];
        below = (lit< tt, lit< tt, tt);
        is = λ i.
            is_numbered a 14 c.in_ok-numbered.ensures i ∷ is_numbered b 12 c.in_ok-numbered-2.ensures i ∷ is_numbered d 13 c.in_ok-numbered-3.ensures i ∷ is_numbered e 11 c.in_ok-numbered-4.ensures i ∷ is_numbered f 15 c.in_ok-numbered-5.ensures i ∷ [];
      },
    )
