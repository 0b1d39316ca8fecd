use Rattle.std.proofs.Common.{nat_lt, sym, ap, ◌∙◌}
use Rattle.std.specs.Ordering.{nat_cmp}
use Rattle.std.specs.Cmp.Lexicographic.{slice_cmp}
use Rattle.sv_model.proofs.SearchLaws.{ahead_equal, ahead_greater}
use Rattle.sv_model.proofs.searches.is_ahead.Goals as goal

pub returns-in-Equal : goal.returns-in-Equal
returns-in-Equal g c =
    ap (nat_lt c.args.upto) c.rank.ensures
    ∙ sym (ahead_equal _ c.args.key.now _ (ap (λ k. slice_cmp nat_cmp k c.args.key.now) (sym c.key.ensures) ∙ sym c.cmp.ensures ∙ c.in-Equal.is))

pub returns-in-Greater : goal.returns-in-Greater
returns-in-Greater g c =
    sym (ahead_greater _ c.args.key.now _ (ap (λ k. slice_cmp nat_cmp k c.args.key.now) (sym c.key.ensures) ∙ sym c.cmp.ensures ∙ c.in-Greater.is))
