-- The numbers that are left are the Obsolete ones, ascending.
use Rattle.std.proofs.Common.{ap, ◌∙◌}
use Rattle.std.specs.Prelude.{◌&&◌, count_by, is_none}
use Rattle.sv_model.specs.Summaries.{is_gone, obsolete_of}
use Rattle.sv_laws.proofs.ObsoleteNumbers.{left_is}
use Rattle.sv_state.specs.Seen.{StateSeen}
use Rattle.sv_state.proofs.state.State.summary.Goals as goal

pub returns : goal.returns
returns c =
    let numbers = c.self.inside.objects.files.numbers in
    let left = c.from_vec.ensures ∙ left_is numbers c.in_ok-left.left.items c.laws.ensures.numbers.once c.in_ok-left.ensures.left ∙ ap (λ (z : StateSeen). obsolete_of z.books.files.numbers) c.self.view_is in
    let seen = c.strays_seen.ensures ∙ ap (λ (z : StateSeen). count_by (λ f. is_none f.family) z.books.files.numbers) c.self.view_is in
    let gone = c.strays_gone.ensures ∙ ap (λ (z : StateSeen). count_by (λ f. is_none f.family && is_gone f.status) z.books.files.numbers) c.self.view_is in
    λ i. record {
      families = c.in_ok-families.ensures i;
      made = c.made.ensures i;
      gone = c.gone.ensures i;
      strays_seen = seen i;
      strays_gone = gone i;
      end = c.args.end;
      left = left i;
    }
