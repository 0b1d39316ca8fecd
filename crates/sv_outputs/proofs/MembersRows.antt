-- The rows that the members of a list bear are the writes of their range.
use Rattle.std.proofs.Common.{◌+◌, ◌-◌, ◌≡◌, ◌≤◌, ℕ, Bool, true, false, cond, List, [], ◌∷◌, ◌++◌, take, drop, length, ◌==◌, sym, ap, ◌∙◌, arith}
use Rattle.std.proofs.lemmas.List.{drop-take, length-drop, length-map, length-take-le}
use Rattle.sv_model.specs.declared.writes.Write.{Write}
use Rattle.sv_model.specs.declared.writes.Row.{Row}
use Rattle.sv_model.specs.declared.records.Memtable.{Memtable}
use Rattle.sv_model.specs.Described.{BearsFrom, IsRange, MembersJoin}
use Rattle.sv_model.specs.Flat.{range_of}
use Rattle.sv_model.specs.Journal.{borne_by, of_family, row_of, rows_of}
use Rattle.sv_model.specs.Registers.{EachEntry}
use Rattle.sv_model.proofs.FlatRanges.{range_none}
use Rattle.sv_model.proofs.Ranges.{ranges_join}
use Rattle.sv_outputs.specs.Planned.{rows_borne}

filtered_le : {A : Type 0} (b : Bool) (x : A) (f l : List A) → length f ≤ length l → length (cond b (x ∷ f) f) ≤ length (x ∷ l)
filtered_le true x f l h = omega arith
filtered_le false x f l h = omega arith

pub family_le : (f : ℕ) (journal : List Write) → length (of_family f journal) ≤ length journal
family_le f [] = omega arith
family_le f (w ∷ journal) = filtered_le (w.family == f) w (of_family f journal) journal (family_le f journal)

-- a range within the writes has as many as it spans
pub range_count : (journal : List Write) (family from to : ℕ) → to ≤ length (of_family family journal) → length (range_of journal family from to) ≡ to - from
range_count journal family from to fits =
    let ws = of_family family journal in
    length-map (drop from (take to ws)) row_of ∙ length-drop from (take to ws) ∙ ap (λ (n : ℕ). n - from) (length-take-le to ws fits)

module _ (journal : List Write) (memtables : List Memtable) (family : ℕ) (each : EachEntry (BearsFrom journal) memtables) where
  pub members_le : (from : ℕ) (members : List ℕ) (to : ℕ) → MembersJoin journal memtables family from members to → from ≤ to
  members_le from [] to h = let e : from ≡ to = h in omega arith
  members_le from (m ∷ members) to h = let k = members_le (from + length (borne_by m journal)) members to h.1 in omega arith

  borne_range : (from m : ℕ) → IsRange journal memtables family from m → rows_of (borne_by m journal) ≡ range_of journal family from (from + length (borne_by m journal))
  borne_range from m r =
      let n = length (borne_by m journal) in
      let own : borne_by m journal ≡ take n (drop from (of_family family journal)) =
      (each m r.it r.at).rows
      ∙ ap (λ (k : ℕ). take n (drop k (of_family r.it.family journal))) r.first_is
      ∙ ap (λ (f : ℕ). take n (drop from (of_family f journal))) r.family_is in
      ap rows_of (own ∙ sym (drop-take from n (of_family family journal)))

  pub members_rows : (from : ℕ) (members : List ℕ) (to : ℕ) → MembersJoin journal memtables family from members to → rows_borne journal members ≡ range_of journal family from to
  members_rows from [] to h = sym (ap (range_of journal family from) (sym h) ∙ range_none journal family from)
  members_rows from (m ∷ members) to h =
      let end = from + length (borne_by m journal) in
      let le = members_le end members to h.1 in
      ap (λ (l : List Row). l ++ rows_borne journal members) (borne_range from m h.0)
      ∙ ap (λ (l : List Row). range_of journal family from end ++ l) (members_rows end members to h.1)
      ∙ ranges_join journal family from end to (omega arith) le
