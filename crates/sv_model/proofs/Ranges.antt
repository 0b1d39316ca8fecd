-- Laws of ranges that join.
use Rattle.std.proofs.Common.{◌≡◌, ◌≤◌, ℕ, zero, suc, List, [], ◌∷◌, ◌++◌, map, take, drop, refl, sym, ap, ◌∙◌, arith}
use Rattle.std.proofs.lemmas.List.{map-append}
use Rattle.sv_model.specs.declared.records.FileMeta.{FileMeta}
use Rattle.sv_model.specs.declared.writes.Write.{Write}
use Rattle.sv_model.specs.Flat.{range_of}
use Rattle.sv_model.specs.Journal.{of_family, row_of}
use Rattle.sv_model.specs.Ranges.{FilesJoin}

-- one more file at the end
pub join-push : (from : ℕ) (files : List FileMeta) (f : FileMeta) → FilesJoin from files f.from → FilesJoin from (files ++ f ∷ []) f.to
join-push from [] f joins = (sym joins, refl)
join-push from (g ∷ files) f joins = (joins.0, join-push g.to files f joins.1)

-- ---- ranges of a family's writes
abbrev no_writes : List Write
no_writes = []

empty_part : (m b : ℕ) → drop m (take b no_writes) ≡ take b no_writes
empty_part zero b = refl
empty_part (suc m) zero = refl
empty_part (suc m) (suc b) = refl

parts_join : (ws : List Write) (a m b : ℕ) → a ≤ m → m ≤ b → drop a (take m ws) ++ drop m (take b ws) ≡ drop a (take b ws)
parts_join ws zero zero b p q = refl
parts_join [] zero (suc m) b p q = empty_part (suc m) b
parts_join (w ∷ ws) zero (suc m) zero p q = absurd (omega arith)
parts_join (w ∷ ws) zero (suc m) (suc b) p q = ap (λ (x : List Write). w ∷ x) (parts_join ws zero m b (omega arith) (omega arith))
parts_join ws (suc a) zero b p q = absurd (omega arith)
parts_join [] (suc a) (suc m) zero p q = refl
parts_join [] (suc a) (suc m) (suc b) p q = refl
parts_join (w ∷ ws) (suc a) (suc m) zero p q = absurd (omega arith)
parts_join (w ∷ ws) (suc a) (suc m) (suc b) p q = parts_join ws a m b (omega arith) (omega arith)

-- two ranges that join are one
pub ranges_join : (journal : List Write) (family a m b : ℕ) → a ≤ m → m ≤ b → range_of journal family a m ++ range_of journal family m b ≡ range_of journal family a b
ranges_join journal family a m b p q =
    let ws = of_family family journal in
    sym (map-append row_of (drop a (take m ws)) (drop m (take b ws))) ∙ ap (map row_of) (parts_join ws a m b p q)
