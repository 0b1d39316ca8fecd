use Rattle.std.proofs.Common.{◌≡◌, ◌<◌, ◌+◌, ℕ, ◌⊎◌, ⊎_elim, true, false, length, Some, refl, sym, ap, ◌∙◌, arith}
use Rattle.std.specs.Prelude.{slice_get}
use Rattle.std.proofs.lemmas.Option.{slice_get_read, slice_get_within}
use Rattle.sv_model.specs.declared.records.Family.{Family}
use Rattle.sv_model.specs.declared.records.Top.{Top}
use Rattle.sv_model.specs.Families.{is_retired}
use Rattle.sv_model.proofs.Entries.{some}
use Rattle.sv_state.proofs.Closings.{retired-read}
use Rattle.sv_state.proofs.closing.is_last.Goals as goal

split : (i n : ℕ) → i < n + 1 → (i < n) ⊎ (i ≡ n)
split i n lt = grind arith

pub loop-index-preserved-then-not-has_last : goal.loop-index-preserved-then-not-has_last
loop-index-preserved-then-not-has_last c i x t lt ex et stands last = ⊎_elim
    (λ o. c.loop-index.invariant i x t o ex et stands last)
    (λ o.
    let n = c.loop-index.index in
    let r = c.index-tops-index.result in
    let at : slice_get c.args.tops.now n ≡ Some r = slice_get_read c.args.tops.now (length c.args.tops.now) n r refl (omega (arith, c.loop-index-test.true, c.len-index-end.ensures.len, c.requires)) c.index-tops-index.is in
    let same : r ≡ t = some (sym at ∙ ap (slice_get c.args.tops.now) (sym o) ∙ et) in
    let q : true ≡ false = sym (c.has_last.ensures.1 (ap (λ (z : Top). z.last) same ∙ last)) ∙ c.if-not-has_last.true in
    absurd (cc))
    (split i c.loop-index.index lt)

pub returns-then-not-may_retire : goal.returns-then-not-may_retire
returns-then-not-may_retire c =
    let n = c.loop-index.index in
    let r = c.index-tops-index.result in
    let w = retired-read c.args.families.now n false (c.may_retire.ensures ∙ ap Some c.if-not-may_retire.true) in
    record {
      id = n;
      family = w.0;
      top = r;
      at = w.1;
      on = slice_get_read c.args.tops.now (length c.args.tops.now) n r refl (omega (arith, c.loop-index-test.true, c.len-index-end.ensures.len, c.requires)) c.index-tops-index.is;
      stands = w.2;
      is = c.has_last.ensures.0 c.if-not-has_last.false;
    }

pub loop-index-preserved : goal.loop-index-preserved
loop-index-preserved c i x t lt ex et stands last = ⊎_elim
    (λ o. c.loop-index.invariant i x t o ex et stands last)
    (λ o.
    let w = retired-read c.args.families.now c.loop-index.index true (c.may_retire.ensures ∙ ap Some c.if-not-may_retire.false) in
    let same : w.0 ≡ x = some (sym w.1 ∙ ap (slice_get c.args.families.now) (sym o) ∙ ex) in
    let q : true ≡ false = sym w.2 ∙ ap (λ (z : Family). is_retired z) same ∙ stands in
    absurd (cc))
    (split i c.loop-index.index lt)

pub returns : goal.returns
returns c h = c.loop-index.invariant h.id h.family h.top (omega (arith, slice_get_within c.args.families.now h.id h.family h.at, c.loop-index-test.false, c.len-index-end.ensures.len)) h.at h.on h.stands h.is
