use Rattle.std.proofs.Common.{ℕ, refl, subst}
use Rattle.sv_model.specs.Named.{list_live, version_live}
use Rattle.sv_imm.specs.Changes.{live_list}
use Rattle.sv_version.specs.Changes.{live_version}
use Rattle.sv_objects.specs.Makings.{RefMade}
use Rattle.sv_objects.proofs.LastMade.{last-live, taken_back}
use Rattle.sv_objects.proofs.objects.Objects.make_flushed.Goals as goal

pub take_back-requires : goal.take_back-requires
take_back-requires c = last-live version_live _ _ (live_version _) (c.in-Ok.ensures.ok c.requires.live_version.it c.requires.live_version.at).made refl

pub returns-in_default-pop_flushed-clause-kept : goal.returns-in_default-pop_flushed-clause-kept
returns-in_default-pop_flushed-clause-kept c =
    let o = c.args.self.now in
    let versions = taken_back _ _ _ _ _ (c.in-Ok.ensures.ok c.requires.live_version.it c.requires.live_version.at).made c.take_back.ensures.1 in
    λ i. record { supers = o.supers; memtables = o.memtables; lists = c.in_default-pop_flushed.ensures.err i; versions = versions i; files = o.files }

pub take_back-requires-in-Err : goal.take_back-requires-in-Err
take_back-requires-in-Err c = last-live list_live _ _ (live_list _) (c.in-Ok-pop_flushed.ensures.ok c.requires.live.it c.requires.live.at).made refl

pub take_back-requires-in-Err-2 : goal.take_back-requires-in-Err-2
take_back-requires-in-Err-2 c = last-live version_live _ _ (live_version _) (c.in-Ok.ensures.ok c.requires.live_version.it c.requires.live_version.at).made refl

pub returns-in-Ok-make_ref-clause-made : goal.returns-in-Ok-make_ref-clause-made
returns-in-Ok-make_ref-clause-made c =
    let o = c.args.self.now in
    let d = c.args.current in
    let version = (c.in-Ok.ensures.ok c.requires.live_version.it c.requires.live_version.at).next in
    let list = (c.in-Ok-pop_flushed.ensures.ok c.requires.live.it c.requires.live.at).next in
    record {
      ref = subst (λ (z : ℕ × ℕ). RefMade o.supers (record d { list = z.0; version = z.1 }) c.args.cell c.args.held c.make_ref.new.supers c.in-Ok-make_ref.made.pack c.in-Ok-make_ref.made.body.value) (λ i. (list i, version i)) c.in-Ok-make_ref.ensures.made;
      memtables = refl;
      lists = λ l e. (c.in-Ok-pop_flushed.ensures.ok l e).made;
      versions = λ v e. (c.in-Ok.ensures.ok v e).made;
      files = refl;
    }

pub returns-in-Err-clause-kept : goal.returns-in-Err-clause-kept
returns-in-Err-clause-kept c =
    let o = c.args.self.now in
    let lists = taken_back _ _ _ _ _ (c.in-Ok-pop_flushed.ensures.ok c.requires.live.it c.requires.live.at).made c.take_back-in-Err.ensures.1 in
    let versions = taken_back _ _ _ _ _ (c.in-Ok.ensures.ok c.requires.live_version.it c.requires.live_version.at).made c.take_back-in-Err-2.ensures.1 in
    λ i. record { supers = c.in-Err.ensures.kept i; memtables = o.memtables; lists = lists i; versions = versions i; files = o.files }
