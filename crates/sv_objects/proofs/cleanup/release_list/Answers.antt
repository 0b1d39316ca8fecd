use Rattle.std.proofs.Common.{sym, subst}
use Rattle.sv_laws.specs.Midst.{EndsList}
use Rattle.sv_objects.proofs.cleanup.release_list.Goals as goal

pub returns-in-Some : goal.returns-in-Some
returns-in-Some c =
    subst (λ o. EndsList c.args.lists.now o c.release.new.self c.release.result.items) (sym c.in-Some.is)
    (λ z at. (c.release.ensures.gone z at, c.release.ensures.given z at))
