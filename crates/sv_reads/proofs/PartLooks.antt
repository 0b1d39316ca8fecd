-- A read up to a cut goes through a part of the family's writes, and then through those before it.
use Rattle.std.proofs.Common.{◌≡◌, ◌≤◌, ◌-◌, ℕ, min, nat_le, inl, inr, List, length, take, Option, Some, None, refl, sym, ap, ◌∙◌, arith}
use Rattle.std.specs.Option.{option_or, option_and_then}
use Rattle.std.proofs.lemmas.Bool.{cases_Bool, leb-true, leb-false}
use Rattle.std.proofs.lemmas.List.{take_all}
use Rattle.sv_model.specs.declared.writes.Write.{Write}
use Rattle.sv_model.specs.declared.writes.Row.{Row}
use Rattle.sv_model.specs.declared.writes.Op.{Op}
use Rattle.sv_model.specs.Flat.{range_of}
use Rattle.sv_model.specs.Journal.{look, newest_op, value_of}
use Rattle.sv_model.proofs.FlatRanges.{range_none, range_front, range_whole, newest_op_append}
use Rattle.sv_model.proofs.Ranges.{ranges_join}
use Rattle.sv_reads.specs.Parts.{chosen, FindsAfter}

-- ---- the writes of a range up to a cut

pub part_upto : (journal : List Write) (family from cut to : ℕ) → from ≤ to
    → take (cut - from) (range_of journal family from to) ≡ range_of journal family (min cut from) (min cut to)
part_upto journal family from cut to le = elim (cases_Bool (nat_le cut from)) [
  | inl below ↦
      let low = leb-true cut from below in
      let none : cut - from ≡ 0 = omega (arith, low) in
      let first : cut ≡ min cut from = omega (arith, low) in
      let last : cut ≡ min cut to = omega (arith, low) in
      ap (λ (n : ℕ). take n (range_of journal family from to)) none
      ∙ sym (range_none journal family cut)
      ∙ (λ i. range_of journal family (first i) (last i))
  | inr above ↦
      let high = leb-false cut from above in
      let first : from ≡ min cut from = omega (arith, high) in
      elim (cases_Bool (nat_le cut to)) [
        | inl inside ↦
            let most = leb-true cut to inside in
            let last : cut ≡ min cut to = omega (arith, most) in
            range_front journal family from cut to (omega (arith, high)) most
            ∙ (λ i. range_of journal family (first i) (last i))
        | inr behind ↦
            let least = leb-false cut to behind in
            let last : to ≡ min cut to = omega (arith, least) in
            range_whole journal family from cut to le (omega (arith, least))
            ∙ (λ i. range_of journal family (first i) (last i))
      ]
]

-- ---- what a read answers

chosen_or : (found older : Option Op)
    → option_and_then value_of (option_or found older) ≡ chosen found (option_and_then value_of older)
chosen_or None older = refl
chosen_or (Some op) older = refl

pub look_part : (journal : List Write) (family from to : ℕ) (key : List ℕ) (cut : ℕ) → from ≤ to
    → look journal family (min cut to) key ≡ chosen
    (newest_op key (take (cut - from) (range_of journal family from to))) (look journal family (min cut from) key)
look_part journal family from to key cut le =
    let low = min cut from in
    let high = min cut to in
    let before = range_of journal family 0 low in
    ap (λ (rows : List Row). option_and_then value_of (newest_op key rows))
    (sym (ranges_join journal family 0 low high (omega arith) (omega arith)))
    ∙ ap (option_and_then value_of) (newest_op_append key before (range_of journal family low high))
    ∙ chosen_or (newest_op key (range_of journal family low high)) (newest_op key before)
    ∙ ap (λ (rows : List Row). chosen (newest_op key rows) (look journal family low key))
    (sym (part_upto journal family from cut to le))

-- ---- what is found in a part

pub finds_after : (from : ℕ) (rows : List Row) (key : List ℕ) (cut : ℕ) (found : Option Op)
    → found ≡ newest_op key (take (cut - from) rows) → FindsAfter from rows key cut found
finds_after from rows key cut found e = record {
  newest = e;
  looks = λ journal family to le is.
      look_part journal family from to key cut le
      ∙ ap (λ (l : List Row). chosen (newest_op key (take (cut - from) l)) (look journal family (min cut from) key))
      is
      ∙ ap (λ (o : Option Op). chosen o (look journal family (min cut from) key)) (sym e);
}

-- no more rows than there are
pub take_most : (n : ℕ) (rows : List Row) → take (min n (length rows)) rows ≡ take n rows
take_most n rows = elim (cases_Bool (nat_le n (length rows))) [
  | inl some ↦
      let le = leb-true n (length rows) some in
      let e : min n (length rows) ≡ n = omega (arith, le) in
      ap (λ (k : ℕ). take k rows) e
  | inr all ↦
      let gt = leb-false n (length rows) all in
      take_all (min n (length rows)) rows (omega (arith, gt)) ∙ sym (take_all n rows (omega (arith, gt)))
]
