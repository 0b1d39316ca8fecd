use Rattle.std.proofs.Common.{None, inl, inr, refl, slice_set}
use Rattle.sv_db.proofs.handles.close_handle.Goals as goal

pub returns-in-Some : goal.returns-in-Some
returns-in-Some c = record {
  closed = inl (record {
    family = c.in-Some.family;
    own = c.in-Some.ensures.own.1;
    is = λ i. slice_set c.args.handles.now (c.family.view_is i) None;
  });
}

pub returns-in_default : goal.returns-in_default
returns-in_default c = record { closed = inr (c.family_of.ensures.none c.in_default.is, refl) }
